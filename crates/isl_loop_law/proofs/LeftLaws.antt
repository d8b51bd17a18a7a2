-- A normal congruence has no negative number: its form stands on the left whole.
use Rattle.std.proofs.Common.{◌≡◌, ◌∙◌, ap, sym, subst, ℤ, pos, neg_ℤ, ◌≤ℤ◌, ◌<ℤ◌, List, ◌∷◌, All}
use Rattle.std.proofs.lemmas.List.Elements.{All-head, All-tail, All-weaker}
use Rattle.isl_math.specs.Divide as divide
use Rattle.isl_math.specs.Divide.{floor_mod, IsRemainder}
use Rattle.isl_math.proofs.DivideLaws.{IsRemainder-floor_mod}
use Rattle.isl_math.proofs.GcdLaws.{IsContentOf-content}
use Rattle.isl_piece.specs.declared.row.RowKind.TheVariants.{Divides, NotDivides}
use Rattle.isl_piece.specs.declared.row.Row.{Row}
use Rattle.isl_piece.specs.Normal.{Verdict, Always, Never, Kept, normal_divides, normal_form, normal_row, negated, lesser, opposite_row}
use Rattle.isl_piece.specs.Numbers.{reduced}
use Rattle.isl_piece.proofs.NormalCases.{common_part, common_part-positive, divided_congruence, normal_divides_by, lesser_by}
use Rattle.isl_piece.proofs.NumberLaws.{All-IsRemainder-reduced, All-IsRemainder-opposite, All-IsRemainder-divided, IsRemainder-divided}
use Rattle.isl_piece.proofs.NumberLaws.{positive-divided}
use Rattle.isl_piece.proofs.ShapeLaws.{IfKept}

-- no number of the form is negative
pub record IsLeftRow (row : Row) : Type 0 where
  pub coefs : All (λ c. pos 0 ≤ℤ c) row.coefs
  pub constant : pos 0 ≤ℤ row.constant

-- the numbers are remainders
left_from : (row : Row) → All (IsRemainder row.k) row.coefs → IsRemainder row.k row.constant → IsLeftRow row
left_from row coefs constant = record {
  coefs = All-weaker (IsRemainder row.k) (λ c. pos 0 ≤ℤ c) (λ c is. is.not_negative) row.coefs coefs;
  constant = constant.not_negative;
}

opposite_left : (row : Row) → pos 0 <ℤ row.k → IsLeftRow (opposite_row row)
opposite_left row positive =
    left_from (opposite_row row) (All-IsRemainder-opposite row.k row.coefs positive)
    (IsRemainder-floor_mod row.k (neg_ℤ row.constant) positive)

module _ (cs : List ℤ) (c k : ℤ) (positive : pos 0 <ℤ k) where
  kept_left : divide.Divides (common_part cs k) (floor_mod c k) → IsLeftRow (lesser (divided_congruence cs c k))
  kept_left divides =
      let g = common_part cs k in
      let q = common_part-positive cs k positive in
      let common = (IsContentOf-content (k ∷ reduced k cs)).common in
      let part = All-head (divide.Divides g) k (reduced k cs) common in
      lesser_by IsLeftRow (divided_congruence cs c k)
      (left_from (divided_congruence cs c k)
      (All-IsRemainder-divided g k (reduced k cs) q positive part (All-tail (divide.Divides g) k (reduced k cs) common)
      (All-IsRemainder-reduced k cs positive))
      (IsRemainder-divided g k (floor_mod c k) q positive part divides (IsRemainder-floor_mod k c positive)))
      (opposite_left (divided_congruence cs c k) (positive-divided g k q positive part))

  all_left : IfKept IsLeftRow (normal_divides cs c k)
  all_left = normal_divides_by (IfKept IsLeftRow) cs c k positive (λ apart. tt) (λ divides one. tt) (λ divides more. kept_left divides)

left_negated : (verdict : Verdict) → IfKept IsLeftRow verdict → IfKept IsLeftRow (negated verdict)
left_negated Always left = tt
left_negated Never left = tt
left_negated (Kept row) left = record { coefs = left.coefs; constant = left.constant }

-- a row that is its own normal row
pub divides_left : (row : Row) → row.kind ≡ Divides → pos 0 <ℤ row.k → normal_row row ≡ Kept row → IsLeftRow row
divides_left row is positive settled =
    subst (IfKept IsLeftRow) (ap (λ kind. normal_form kind row.coefs row.constant row.k) (sym is) ∙ settled)
    (all_left row.coefs row.constant row.k positive)

pub not_divides_left : (row : Row) → row.kind ≡ NotDivides → pos 0 <ℤ row.k → normal_row row ≡ Kept row → IsLeftRow row
not_divides_left row is positive settled =
    subst (IfKept IsLeftRow) (ap (λ kind. normal_form kind row.coefs row.constant row.k) (sym is) ∙ settled)
    (left_negated (normal_divides row.coefs row.constant row.k) (all_left row.coefs row.constant row.k positive))
