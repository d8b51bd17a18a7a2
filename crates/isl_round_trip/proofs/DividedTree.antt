-- The divisors of printed trees are at least 1.
use mathlib.Core.Former.{Count}
use Rattle.std.proofs.Common.{◌≡◌, ◌∙◌, ℕ, ℤ, pos, ◌<ℤ◌, true, List, [], ◌∷◌, ◌++◌, map, ap, ap₂, sym, subst, refl, unsigned_abs}
use Rattle.std.specs.List.{list_all, AllByRecursion}
use Rattle.std.proofs.lemmas.Bool.{and_parts, false≢true}
use Rattle.std.proofs.lemmas.List.Elements.{All-cons, recursion_from_All}
use Rattle.isl_space.specs.Name.{Name}
use Rattle.isl_piece.specs.declared.row.RowKind.{RowKind}
use Rattle.isl_piece.specs.declared.row.RowKind.TheVariants.{Zero, AtLeast, Divides, NotDivides}
use Rattle.isl_piece.specs.declared.row.Row.{Row}
use Rattle.isl_piece.specs.Row.{HasModulus}
use Rattle.isl_union.specs.KeptValue.{KeptPiece, IsKeptPiece}
use Rattle.isl_row_text.specs.declared.sum.Side.TheVariants.{Left, Right}
use Rattle.isl_print.specs.Naming.{coordinate_names, column_names}
use Rattle.isl_print.specs.Ordered.{in_order}
use Rattle.isl_print.specs.RowOrder.{row_before}
use Rattle.isl_print.proofs.TextLaws.{All-in_order}
use Rattle.isl_tree.specs.declared.tree.Signed.{Signed, Signed'}
use Rattle.isl_tree.specs.declared.tree.Product.{Product', None', Some'}
use Rattle.isl_tree.specs.declared.tree.Factor.{Factor, Name as Named, Inner', Floor', Ceil', Row_of-Signed, end_of-Signed, more_of-Signed}
use Rattle.isl_tree.specs.declared.tree.Factor.{items-the_row-Signed, items_hidden-the_row-Signed-0}
use Rattle.isl_tree.specs.declared.tree.Factor.TheBlock.{hidden-the_row-Signed-0}
use Rattle.isl_tree.specs.declared.tree.Compare.{Compare}
use Rattle.isl_tree.specs.declared.tree.Compare.TheVariants.{Equal, GreaterEqual, Differs}
use Rattle.isl_tree.specs.declared.tree.Formula.{Formula, Row_of-Formula, end_of-Formula, more_of-Formula, items-the_row-Formula, items_hidden-the_row-Formula-0}
use Rattle.isl_tree.specs.declared.tree.Formula.TheBlock.{hidden-the_row-Formula-0}
use Rattle.isl_tree.specs.Divisors.{ArePositive, factor_divisors, signed_divisors, sum_divisors, term_divisors, formula_divisors}
use Rattle.isl_tree.specs.Divisors.{row_divisors, entries_divisors, body_divisors, piece_divisors}
use Rattle.isl_tree.specs.Literal.{piece_entries}
use Rattle.isl_tree.specs.Plain.{is_linear_part, is_linear_factor, are_linear_parts, is_linear}
use Rattle.isl_formula.proofs.DivisorLaws.{none, both}
use Rattle.isl_round_trip.specs.Tree.{number_tree, side_tree, comparison_tree, remainder_part, remainder_tree, kind_tree, row_tree, conjunction_tree, name_entry, piece_tree}
use Rattle.isl_round_trip.proofs.PlainTree.{side_linear, positive_magnitude}
use Rattle.isl_round_trip.proofs.TupleLaws.{entries-piece_tree}

-- ---- terms
mutual
  part_divisors : (part : Signed) → is_linear_part part ≡ true → signed_divisors part ≡ []
  part_divisors (Signed' negative (Product' numbers None')) h = refl
  part_divisors (Signed' negative (Product' numbers (Some' factor []))) h = factor_none factor h
  part_divisors (Signed' negative (Product' numbers (Some' factor (k ∷ ks)))) h = absurd (false≢true h)

  factor_none : (factor : Factor) → is_linear_factor factor ≡ true → factor_divisors factor ≡ []
  factor_none (Named name) h = refl
  factor_none (Inner' s row) h = row_none _ row h
  factor_none (Floor' s row k) h = absurd (false≢true h)
  factor_none (Ceil' s row k) h = absurd (false≢true h)

  row_none : (m : Count) (row : Row_of-Signed m) → are_linear_parts row ≡ true → sum_divisors row ≡ []
  row_none m end_of-Signed h = refl
  row_none m (more_of-Signed part rest) h =
      let each = and_parts (is_linear_part part) (are_linear_parts rest) h in
      ap₂ (λ (ks ls : List ℤ). ks ++ ls) (part_divisors part each.0) (row_none _ rest each.1)

linear_divisors : (term : List Signed) → is_linear term ≡ true → term_divisors term ≡ []
linear_divisors [] h = refl
linear_divisors (part ∷ parts) h =
    let each = and_parts (is_linear_part part) (list_all is_linear_part parts) h in
    ap₂ (λ (ks ls : List ℤ). ks ++ ls) (part_divisors part each.0) (linear_divisors parts each.1)

row_is : (m : Count) (row : Row_of-Signed m) → sum_divisors row ≡ term_divisors (items-the_row-Signed m row)
row_is m end_of-Signed = refl
row_is m (more_of-Signed part row) = ap (λ ks. signed_divisors part ++ ks) (row_is _ row)

inside : (term : List Signed) → sum_divisors (hidden-the_row-Signed-0 term) ≡ term_divisors term
inside term = row_is _ (hidden-the_row-Signed-0 term) ∙ ap term_divisors (items_hidden-the_row-Signed-0 term)

positive_none : (ks : List ℤ) → ks ≡ [] → ArePositive ks
positive_none ks is = subst ArePositive (sym is) none

-- ---- rows
compared : (left right : List Signed) (compare : Compare) → ArePositive (term_divisors left) → ArePositive (term_divisors right)
    → ArePositive (formula_divisors (comparison_tree left compare right))
compared left right compare one two =
    both (term_divisors left ++ []) ((term_divisors right ++ []) ++ []) (both (term_divisors left) [] one none)
    (both (term_divisors right ++ []) [] (both (term_divisors right) [] two none) none)

remainder_divided : (term : List Signed) (k : ℕ) → is_linear term ≡ true → pos 0 <ℤ pos k → ArePositive (term_divisors (remainder_part term k ∷ []))
remainder_divided term k linear positive =
    let sum = sum_divisors (hidden-the_row-Signed-0 term) in
    let first : ArePositive (pos k ∷ []) = All-cons (λ z. pos 0 <ℤ z) (pos k) [] positive none in
    both ((pos k ∷ []) ++ sum) [] (both (pos k ∷ []) sum first (positive_none sum (inside term ∙ linear_divisors term linear))) none

module _ (names : List Name) (row : Row) where
  left : List Signed
  left = side_tree Left names row.coefs row.constant

  right : List Signed
  right = side_tree Right names row.coefs row.constant

  relation_divided : (compare : Compare) → ArePositive (formula_divisors (comparison_tree left compare right))
  unfolding left right
  relation_divided compare =
      compared left right compare (positive_none (term_divisors left) (linear_divisors left (side_linear Left names row.coefs row.constant)))
      (positive_none (term_divisors right) (linear_divisors right (side_linear Right names row.coefs row.constant)))

  congruence_divided : (compare : Compare) → pos 0 <ℤ row.k → ArePositive (formula_divisors (remainder_tree compare names row))
  unfolding left
  congruence_divided compare positive =
      compared (remainder_part left (unsigned_abs row.k) ∷ []) (number_tree 0 ∷ []) compare
      (remainder_divided left (unsigned_abs row.k) (side_linear Left names row.coefs row.constant)
      (subst (λ z. pos 0 <ℤ z) (sym (positive_magnitude row.k positive)) positive)) none

  kind_divided : (kind : RowKind) → HasModulus kind row.k → ArePositive (formula_divisors (kind_tree kind names row))
  unfolding left right
  kind_divided Zero modulus = relation_divided Equal
  kind_divided AtLeast modulus = relation_divided GreaterEqual
  kind_divided Divides modulus = congruence_divided Equal modulus
  kind_divided NotDivides modulus = congruence_divided Differs modulus

formulas_divisors : List Formula → List ℤ
formulas_divisors [] = []
formulas_divisors (formula ∷ formulas) = formula_divisors formula ++ formulas_divisors formulas

rows_are : (m : Count) (row : Row_of-Formula m) → row_divisors row ≡ formulas_divisors (items-the_row-Formula m row)
unfolding formulas_divisors
rows_are m end_of-Formula = refl
rows_are m (more_of-Formula formula row) = ap (λ ks. formula_divisors formula ++ ks) (rows_are _ row)

joined : (formulas : List Formula) → row_divisors (hidden-the_row-Formula-0 formulas) ≡ formulas_divisors formulas
joined formulas = rows_are _ (hidden-the_row-Formula-0 formulas) ∙ ap formulas_divisors (items_hidden-the_row-Formula-0 formulas)

HaveModuli : List Row → Type 0
HaveModuli rows = AllByRecursion (λ r. HasModulus r.kind r.k) rows

each_divided : (names : List Name) (rows : List Row) → HaveModuli rows → ArePositive (formulas_divisors (map (row_tree names) rows))
unfolding HaveModuli formulas_divisors
each_divided names [] all = none
each_divided names (row ∷ rows) all =
    both (formula_divisors (row_tree names row)) (formulas_divisors (map (row_tree names) rows)) (kind_divided names row row.kind all.0) (each_divided names rows all.1)

body_divided : (names : List Name) (rows : List Row) → HaveModuli rows → ArePositive (body_divisors (conjunction_tree (map (row_tree names) rows)))
unfolding HaveModuli
body_divided names [] all = none
body_divided names (row ∷ []) all = kind_divided names row row.kind all.0
body_divided names (row ∷ (other ∷ others)) all =
    subst ArePositive (sym (joined (map (row_tree names) (row ∷ (other ∷ others))))) (each_divided names (row ∷ (other ∷ others)) all)

-- ---- pieces
entries_none : (names : List Name) → entries_divisors (map name_entry names) ≡ []
entries_none [] = refl
entries_none (name ∷ names) = entries_none names

pub piece_divided : (params : List Name) (piece : KeptPiece) → IsKeptPiece params piece → ArePositive (piece_divisors (piece_tree params piece))
unfolding HaveModuli
piece_divided params piece kept =
    let tree = piece_tree params piece in
    let rows = in_order row_before piece.rows in
    both (entries_divisors (piece_entries tree)) (body_divisors tree.body)
    (positive_none (entries_divisors (piece_entries tree)) (ap entries_divisors (entries-piece_tree params piece) ∙ entries_none (coordinate_names params piece.space)))
    (body_divided (column_names params piece.space) rows
    (recursion_from_All (λ r. HasModulus r.kind r.k) rows (All-in_order row_before (λ r. HasModulus r.kind r.k) piece.rows (λ i d low. (kept.rows i d low).modulus))))
