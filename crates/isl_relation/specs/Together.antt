-- public: which pieces of two values operations put together, how many pairs of such pieces there are, and that each pair uses a unit.
-- (isl manual, on spaces)
use Rattle.std.specs.Prelude.{ℕ, ◌≤◌, Bool, true, false, if◌then◌else◌, List, MatchResult, Result, length, map, sum_by}
use Rattle.isl_meter.specs.Gauge.{Gauge}
use Rattle.isl_space.specs.Limits.{most_parameters}
use Rattle.isl_space.specs.Name.{Name}
use Rattle.isl_space.specs.SpaceForm.{SpaceForm, set_of, map_of}
use Rattle.isl_piece.specs.Piece.{PieceView}
use Rattle.isl_union.specs.Fault.{IsChargedFrom, IsFaultBy}
use Rattle.isl_union.specs.KeptValue.{KeptValue}
use Rattle.isl_union.specs.Meet.{is_same_form}
use Rattle.isl_union.specs.declared.fault.OpFault.{OpFault}
use Rattle.isl_relation.specs.Wide.{IsFormFault}

-- ---- two spaces
-- whether both are of sets
abbrev pub are_sets : SpaceForm → SpaceForm → Bool
are_sets (set_of x) (set_of y) = true
are_sets (set_of x) (map_of u w) = false
are_sets (map_of x y) t = false

-- whether both are of maps
abbrev pub are_maps : SpaceForm → SpaceForm → Bool
are_maps (map_of x y) (map_of u w) = true
are_maps (map_of x y) (set_of z) = false
are_maps (set_of x) t = false

-- whether the one is of maps, and the other of sets of the form that they map from
abbrev pub is_domain : SpaceForm → SpaceForm → Bool
is_domain (map_of x y) (set_of z) = is_same_form x z
is_domain (map_of x y) (map_of u w) = false
is_domain (set_of x) t = false

-- and of the form that they map to
abbrev pub is_range : SpaceForm → SpaceForm → Bool
is_range (map_of x y) (set_of z) = is_same_form y z
is_range (map_of x y) (map_of u w) = false
is_range (set_of x) t = false

-- whether both are of maps, and the second map from the form that the first map to
abbrev pub are_linked : SpaceForm → SpaceForm → Bool
are_linked (map_of x y) (map_of u w) = is_same_form y u
are_linked (map_of x y) (set_of z) = false
are_linked (set_of x) t = false

-- ---- pairs of spaces that are put together
-- 1 where the two are, else 0
abbrev pub pair_count : (SpaceForm → SpaceForm → Bool) → SpaceForm → SpaceForm → ℕ
pair_count together s t = if together s t then 1 else 0

-- how many of the others are put together with the space
abbrev pub partners : (SpaceForm → SpaceForm → Bool) → List SpaceForm → SpaceForm → ℕ
partners together others s = sum_by (pair_count together s) others

-- how many pairs of one and one of the others are
abbrev pub pairs_of : (SpaceForm → SpaceForm → Bool) → List SpaceForm → List SpaceForm → ℕ
pairs_of together spaces others = sum_by (partners together others) spaces

-- ---- pieces
abbrev pub spaces_of : List PieceView → List SpaceForm
spaces_of pieces = map (λ piece. piece.space) pieces

-- how many pairs of a piece of the first value and one of the second are put together
abbrev pub pairs_together : (SpaceForm → SpaceForm → Bool) → KeptValue → KeptValue → ℕ
pairs_together together a b = pairs_of together (map (λ piece. piece.space) a.pieces) (map (λ piece. piece.space) b.pieces)

-- ---- what an operation on two values leaves
-- its value has these parameters, and at least n units were used; or why there is none
abbrev pub IsWorkedFrom : {A : Type 0} → List Name → ℕ → Gauge → Gauge → Result A OpFault → Type 0
IsWorkedFrom params n old new result =
    MatchResult result (λ _. (length params ≤ most_parameters) × IsChargedFrom n old new) (IsFaultBy params old new)

-- the same of one that forms spaces, none of which is too wide
abbrev pub IsFormedFrom : {A : Type 0} → List Name → Type 0 → ℕ → Gauge → Gauge → Result A OpFault → Type 0
IsFormedFrom params Wide n old new result =
    MatchResult result (λ _. (length params ≤ most_parameters) × (¬ Wide) × IsChargedFrom n old new) (IsFormFault params Wide old new)
