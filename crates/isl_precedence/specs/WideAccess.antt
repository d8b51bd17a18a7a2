-- public: what operations on accesses leave, and pairs of accesses whose source and sink form a space that is too wide.
use Rattle.std.specs.Prelude.{◌≤◌, List, MatchResult, Result, length}
use Rattle.isl_meter.specs.Gauge.{Gauge, IsCharged}
use Rattle.isl_space.specs.Limits.{most_parameters}
use Rattle.isl_space.specs.Name.{Name}
use Rattle.isl_space.specs.SpaceForm.{SpaceForm, IsTooWideSpace}
use Rattle.isl_union.specs.declared.fault.OpFault.{OpFault}
use Rattle.isl_relation.specs.Formed.{FormsAccess}
use Rattle.isl_relation.specs.Wide.{IsFormFault}

-- source and sink of two accesses of one form make a space that is too wide
abbrev pub IsWideAccess : SpaceForm → SpaceForm → Type 0
IsWideAccess s t = (formed : SpaceForm) × FormsAccess s t formed × IsTooWideSpace formed

-- there is an answer, over these parameters, where nothing is too wide, and units alone were used; or why there is none
abbrev pub IsFormed : {A : Type 0} → List Name → Type 0 → Gauge → Gauge → Result A OpFault → Type 0
IsFormed params Wide old new result =
    MatchResult result (λ _. (length params ≤ most_parameters) × (¬ Wide) × IsCharged old new) (IsFormFault params Wide old new)
