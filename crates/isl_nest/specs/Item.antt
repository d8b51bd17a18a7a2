-- public: what is to be visited by one nest of loops: the calls of one name, at their times, told by rows over parameters, times and
-- arguments. (isl manual, on schedules; Bastoul, code generation in the polyhedral model)
use Rattle.std.specs.Prelude.{◌≡◌, ℕ, zero, suc, ◌+◌, ◌≤◌, ℤ, pos, if◌then◌else◌, List, [], ◌∷◌, ◌++◌, All, Option, length, map}
use Rattle.std.specs.Prelude.{take, drop, slice_index_or}
use Rattle.std.specs.Ordering.{int_eq}
use Rattle.isl_piece.specs.declared.row.Row.{Row}
use Rattle.isl_piece.specs.Row.{HoldsRow}
use Rattle.isl_piece.specs.System.{HoldRows}
use Rattle.isl_loop.specs.Nest.{Timed}

-- the name of the calls; how many parameters there are, how many columns follow, and how many of these are the time; the columns of the
-- arguments; rows over all columns
pub record ItemView : Type 0 where
  pub name : Option (List ℕ)
  pub params : ℕ
  pub levels : ℕ
  pub times : ℕ
  pub arguments : List ℕ
  pub rows : List Row

-- ---- levels
-- one number more in front of those that are counted up to the last that is not 0
abbrev pub counted : ℤ → ℕ → ℕ
counted c zero = if int_eq c (pos 0) then 0 else 1
counted c (suc n) = suc (suc n)

-- how many columns there are up to the last that is named
abbrev pub named : List ℤ → ℕ
named [] = 0
named (c ∷ cs) = counted c (named cs)

-- the rows that name the last of so many columns, and none behind it, hold
abbrev pub HoldOwn : List Row → List ℤ → Type 0
HoldOwn rows columns = All (λ r. named r.coefs ≡ length columns → HoldsRow r columns) rows

-- the rows that name no column behind these hold
abbrev pub HoldFront : List Row → List ℤ → Type 0
HoldFront rows columns = All (λ r. named r.coefs ≤ length columns → HoldsRow r columns) rows

-- ---- points
-- the columns are the first ones of a point
pub record IsBegun (item : ItemView) (columns : List ℤ) : Type 0 where
  pub rest : List ℤ
  pub width : length (columns ++ rest) ≡ item.params + item.levels
  pub holds : HoldRows item.rows (columns ++ rest)

-- the call at a point, and its time
abbrev pub timed_at : ItemView → List ℤ → Timed
timed_at item point = (
  take item.times (drop item.params point),
  record {
    name = item.name;
    args = map (λ at. slice_index_or point at
        (pos 0)) item.arguments;
  },
)

-- the calls of the points that begin with these columns
pub record IsCalledBehind (item : ItemView) (columns : List ℤ) (t : Timed) : Type 0 where
  pub rest : List ℤ
  pub width : length (columns ++ rest) ≡ item.params + item.levels
  pub holds : HoldRows item.rows (columns ++ rest)
  pub call : t ≡ timed_at item (columns ++ rest)
