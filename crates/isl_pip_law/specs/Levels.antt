-- inner: cases by the towers of systems.
use Rattle.std.specs.Prelude.{◌≡◌, ◌↔◌, ℕ, ◌+◌, ℤ, List, [], ◌++◌, Any, length, slice_index_or}
use Rattle.isl_piece.specs.declared.system.System.{System}
use Rattle.isl_elim.specs.Elimination.{HoldsAtAny}
use Rattle.isl_tower.specs.Tower.{IsTowerOf}
use Rattle.isl_greatest_law.specs.Case.{CaseView, HoldsCase}

-- so many numbers that stand behind the front in a point of one of the systems
abbrev pub AreBehind : ℕ → List System → List ℤ → List ℤ → Type 0
AreBehind width systems v us = (length us ≡ width) × HoldsAtAny systems (v ++ us)

-- some case holds exactly where some system of a tower at the height does
abbrev pub AreCasesAt : ℕ → List (List (List System)) → List CaseView → Type 0
AreCasesAt height towers cases =
    (point : List ℤ) → Any (λ c. HoldsCase c point) cases ↔ Any (λ levels. HoldsAtAny (slice_index_or levels height []) point) towers
