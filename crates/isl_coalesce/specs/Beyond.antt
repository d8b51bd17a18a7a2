-- inner: a point that tells that two systems have no joint one.
use Rattle.std.specs.Prelude.{◌≡◌, ℤ, All, List, length}
use Rattle.isl_piece.specs.declared.row.Row.{Row}
use Rattle.isl_piece.specs.declared.system.System.{System}
use Rattle.isl_piece.specs.Row.{HoldsRow}
use Rattle.isl_piece.specs.System.{HoldRows}
use Rattle.isl_coalesce.specs.Parts.{halves}

-- where the row holds at the one point, it holds at the other
abbrev pub Carries : List ℤ → List ℤ → Row → Type 0
Carries from to r = HoldsRow r from → HoldsRow r to

-- so it is with the row and its halves
abbrev pub IsCarried : List ℤ → List ℤ → Row → Type 0
IsCarried from to r = Carries from to r × All (Carries from to) (halves r)

-- the point is one of neither system; but what is true on one of them, of the rows of the other, holds there, as a point of the one shows
pub record IsBeyond (p q : System) : Type 0 where
  pub point : List ℤ
  pub one : List ℤ
  pub other : List ℤ
  pub long : length point ≡ p.columns
  pub one_long : length one ≡ p.columns
  pub other_long : length other ≡ p.columns
  pub in_first : HoldRows p.rows one
  pub in_second : HoldRows q.rows other
  pub not_first : ¬ HoldRows p.rows point
  pub not_second : ¬ HoldRows q.rows point
  pub own : All (IsCarried other point) p.rows
  pub others : All (IsCarried one point) q.rows
