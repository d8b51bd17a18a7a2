-- public: how many variables a piece of a literal binds: the names that `exists` binds, and one for each floor, ceiling and remainder.
use Rattle.std.specs.Prelude.{ℕ, ◌+◌, min, List, [], ◌∷◌, length, Option, Some, None}
use Rattle.isl_tree.specs.declared.tree.Factor.{Factor, Name, Inner', Floor', Ceil', Row_of-Signed, end_of-Signed, more_of-Signed}
use Rattle.isl_tree.specs.declared.tree.Signed.{Signed, Signed'}
use Rattle.isl_tree.specs.declared.tree.Product.{Product, Product', Held-Product-inner, None', Some'}
use Rattle.isl_tree.specs.declared.tree.Binder.{Binder}
use Rattle.isl_tree.specs.declared.tree.Formula.{Formula, Implies', Or', And', Not', True, False, Exists', Chain, Row_of-Formula}
use Rattle.isl_tree.specs.declared.tree.Formula.{end_of-Formula, more_of-Formula}
use Rattle.isl_tree.specs.declared.tree.Entry.{Entry}
use Rattle.isl_tree.specs.declared.tree.Entry.TheVariants.{Plain, Named}
use Rattle.isl_tree.specs.declared.tree.Tuple.{Tuple, Leaf, Pair', Row_of-Tuple, end_of-Tuple, more_of-Tuple}
use Rattle.isl_tree.specs.declared.tree.PieceTree.{PieceTree}
use Rattle.isl_tree.specs.Term.{Term}
use Rattle.isl_tree.specs.Formula.{Side, Link}

-- ---- in terms

abbrev mutual
  pub in_factor : Factor → ℕ
  in_factor (Name name) = 0
  in_factor (Inner' s row) = in_row row
  in_factor (Floor' s row k) = 1 + in_row row
  in_factor (Ceil' s row k) = 1 + in_row row

  pub in_product : Product → ℕ
  in_product (Product' numbers inner) = in_inner inner

  -- one for each divisor of which a remainder is taken
  pub in_inner : Held-Product-inner → ℕ
  in_inner None' = 0
  in_inner (Some' factor moduli) = length moduli + in_factor factor

  pub in_part : Signed → ℕ
  in_part (Signed' negative product) = in_product product

  pub in_row : {m : _} → Row_of-Signed m → ℕ
  in_row end_of-Signed = 0
  in_row (more_of-Signed part rest) = in_part part + in_row rest

abbrev pub in_term : Term → ℕ
in_term [] = 0
in_term (part ∷ parts) = in_part part + in_term parts

-- ---- in formulas

abbrev pub in_side : Side → ℕ
in_side [] = 0
in_side (term ∷ terms) = in_term term + in_side terms

abbrev pub in_links : List Link → ℕ
in_links [] = 0
in_links (link ∷ links) = in_side link.1 + in_links links

abbrev pub in_value : Option Term → ℕ
in_value None = 0
in_value (Some term) = in_term term

-- one name, and what its value binds
abbrev pub by_binder : Binder → ℕ
by_binder binder = 1 + in_value binder.value

abbrev pub by_binders : List Binder → ℕ
by_binders [] = 0
by_binders (binder ∷ binders) = by_binder binder + by_binders binders

abbrev mutual
  pub in_formula : Formula → ℕ
  in_formula (Implies' s row) = in_formula_row row
  in_formula (Or' s row) = in_formula_row row
  in_formula (And' s row) = in_formula_row row
  in_formula (Not' s row) = in_formula_row row
  in_formula True = 0
  in_formula False = 0
  in_formula (Exists' binders s row) = by_binders binders + in_formula_row row
  in_formula (Chain first links) = in_side first + in_links links

  pub in_formula_row : {m : _} → Row_of-Formula m → ℕ
  in_formula_row end_of-Formula = 0
  in_formula_row (more_of-Formula formula rest) = in_formula formula + in_formula_row rest

abbrev pub in_formulas : List Formula → ℕ
in_formulas [] = 0
in_formulas (formula ∷ formulas) = in_formula formula + in_formulas formulas

-- ---- in tuples and pieces

abbrev pub in_entry : Entry → ℕ
in_entry (Plain term) = in_term term
in_entry (Named name term) = in_term term

abbrev pub in_entries : List Entry → ℕ
in_entries [] = 0
in_entries (entry ∷ entries) = in_entry entry + in_entries entries

abbrev mutual
  pub in_tuple : Tuple → ℕ
  in_tuple (Leaf name entries) = in_entries entries
  in_tuple (Pair' s left t right) = in_tuple_row left + in_tuple_row right

  pub in_tuple_row : {m : _} → Row_of-Tuple m → ℕ
  in_tuple_row end_of-Tuple = 0
  in_tuple_row (more_of-Tuple tuple rest) = in_tuple tuple + in_tuple_row rest

abbrev pub in_image : Option Tuple → ℕ
in_image None = 0
in_image (Some tuple) = in_tuple tuple

abbrev pub in_body : Option Formula → ℕ
in_body None = 0
in_body (Some formula) = in_formula formula

-- how many variables a piece binds
abbrev pub bound_in : PieceTree → ℕ
bound_in piece = in_tuple piece.first + in_image piece.second + in_body piece.body

-- a count that stands at one more than the limits
abbrev pub capped : ℕ → ℕ
capped n = min n 65
