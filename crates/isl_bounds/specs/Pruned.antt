-- public: groups of bounds without those that say nothing more where a context holds. (isl manual, on simplification in a context)
use Rattle.std.specs.Prelude.{◌≡◌, ◌≢◌, ◌↔◌, ℕ, ◌<◌, ℤ, List, [], ◌++◌, All, Any, Contains, length, slice_index_or}
use Rattle.isl_piece.specs.declared.row.Row.{Row}
use Rattle.isl_piece.specs.System.{HoldRows}
use Rattle.isl_frame.specs.Needed.{AreKnown, NoneIsKnown}
use Rattle.isl_bounds.specs.Bound.{HoldSome}

-- another group holds wherever the context and the group at a place do
abbrev pub IsBeaten : ℕ → List Row → List (List Row) → ℕ → Type 0
IsBeaten columns context groups at =
    (i : ℕ) × (i < length groups) × (i ≢ at) × AreKnown columns (context ++ slice_index_or groups at []) (slice_index_or groups i [])

-- no group holds wherever the context and another one do
abbrev pub NoneIsBeaten : ℕ → List Row → List (List Row) → Type 0
NoneIsBeaten columns context groups = (at : ℕ) → at < length groups → ¬ IsBeaten columns context groups at

-- of several rows none holds wherever the context and the others do
abbrev pub IsBareGroup : ℕ → List Row → List Row → Type 0
IsBareGroup columns context rows = 1 < length rows → NoneIsKnown columns context rows

-- some rows, one at least, of some of the groups, one at least; where the context holds, some group holds where one of the others did
pub record AreFewer (columns : ℕ) (context : List Row) (old new : List (List Row)) : Type 0 where
  pub each : All (λ few. Any (λ rows. All (Contains rows) few) old) new
  pub some : All (λ rows. 0 < length rows) old → All (λ rows. 0 < length rows) new
  pub any : 0 < length old → 0 < length new
  pub points : (point : List ℤ) → length point ≡ columns → HoldRows context point → HoldSome new point ↔ HoldSome old point
