-- What the tests of rows answer.
use Rattle.std.proofs.Common.{refl, ap, arith, ℤ, pos, ◌<ℤ◌, not, ◌&&◌, List, [], ◌∷◌}
use Rattle.std.specs.Bool.{Decides}
use Rattle.std.specs.List.{All}
use Rattle.std.specs.Ordering.{int_eq}
use Rattle.std.proofs.lemmas.Bool.Decides.{Decides-like, Decides-not, Decides-and, Decides-int_eq}
use Rattle.std.proofs.lemmas.Int.{ints}
use Rattle.std.proofs.lemmas.List.Elements.{All-nil, All-cons, All-head, All-tail}
use Rattle.isl_math.specs.Divide as divide
use Rattle.isl_math.specs.Divide.{floor_mod}
use Rattle.isl_math.proofs.DivideLaws.{Divides-from_mod, mod-from_Divides}
use Rattle.isl_piece.proofs.NormalCases.{int_lt-false}
use Rattle.isl_piece.specs.declared.row.RowKind.{RowKind}
use Rattle.isl_piece.specs.declared.row.RowKind.TheVariants.{Zero, AtLeast, Divides, NotDivides}
use Rattle.isl_piece.specs.declared.row.Row.{Row}
use Rattle.isl_piece.specs.Row.{HasModulus, HoldsRow, HoldsValue, value_at}
use Rattle.isl_piece.specs.System.{HoldRows}
use Rattle.isl_loop.specs.Run.{holds_value, row_holds, rows_hold}

divides_tells : (k z : ℤ) → pos 0 <ℤ k → Decides (int_eq (floor_mod z k) (pos 0)) (divide.Divides k z)
divides_tells k z p =
    Decides-like (int_eq (floor_mod z k) (pos 0)) (Divides-from_mod k z p) (mod-from_Divides k z p) (Decides-int_eq (floor_mod z k) (pos 0))

value_tells : (kind : RowKind) (k z : ℤ) → HasModulus kind k → Decides (holds_value kind k z) (HoldsValue kind k z)
value_tells Zero k z m = Decides-int_eq z (pos 0)
value_tells AtLeast k z m =
    ((λ e. grind (arith, ints)), (λ l. ap not (int_lt-false z (pos 0) l)))
value_tells Divides k z m = divides_tells k z m
value_tells NotDivides k z m = Decides-not (int_eq (floor_mod z k) (pos 0)) (divides_tells k z m)

pub row_tells : (r : Row) (point : List ℤ) → HasModulus r.kind r.k → Decides (row_holds point r) (HoldsRow r point)
row_tells r point m = value_tells r.kind r.k (value_at r point) m

-- the test of rows is passed exactly where they hold
pub rows_tell : (rows : List Row) (point : List ℤ) → All (λ r. HasModulus r.kind r.k) rows
    → Decides (rows_hold rows point) (HoldRows rows point)
rows_tell [] point m = ((λ e. All-nil (λ r. HoldsRow r point)), (λ h. refl))
rows_tell (r ∷ rows) point m =
    let P : Row → Type 0 = λ r. HasModulus r.kind r.k in
    let H : Row → Type 0 = λ r. HoldsRow r point in
    Decides-like (row_holds point r && rows_hold rows point)
    (λ both. All-cons H r rows both.0 both.1)
    (λ all. (All-head H r rows all, All-tail H r rows all))
    (Decides-and (row_holds point r) (rows_hold rows point)
    (row_tells r point (All-head P r rows m)) (rows_tell rows point (All-tail P r rows m)))
