-- public: what literals divide by (isl manual, on integer divisions): the divisors of floors, ceilings and remainders.
use Rattle.std.specs.Prelude.{ℤ, pos, ◌<ℤ◌, List, [], ◌∷◌, ◌++◌, All, Option, Some, None}
use Rattle.isl_tree.specs.declared.tree.Factor.{Factor, Name, Inner', Floor', Ceil', Row_of-Signed, end_of-Signed, more_of-Signed}
use Rattle.isl_tree.specs.declared.tree.Signed.{Signed, Signed'}
use Rattle.isl_tree.specs.declared.tree.Product.{Product, Product', Held-Product-inner, None', Some'}
use Rattle.isl_tree.specs.declared.tree.Binder.{Binder}
use Rattle.isl_tree.specs.declared.tree.Formula.{Formula, Implies', Or', And', Not', True, False, Exists', Chain, Row_of-Formula}
use Rattle.isl_tree.specs.declared.tree.Formula.{end_of-Formula, more_of-Formula}
use Rattle.isl_tree.specs.declared.tree.Entry.{Entry}
use Rattle.isl_tree.specs.declared.tree.PieceTree.{PieceTree}
use Rattle.isl_tree.specs.Formula.{Side, Link}
use Rattle.isl_tree.specs.Literal.{entry_term, piece_entries}
use Rattle.isl_tree.specs.Term.{Term}

abbrev mutual
  -- the divisors that stand in a factor
  pub factor_divisors : Factor → List ℤ
  factor_divisors (Name name) = []
  factor_divisors (Inner' s row) = sum_divisors row
  factor_divisors (Floor' s row k) = k ∷ sum_divisors row
  factor_divisors (Ceil' s row k) = k ∷ sum_divisors row

  pub product_divisors : Product → List ℤ
  product_divisors (Product' numbers inner) = inner_divisors inner

  pub inner_divisors : Held-Product-inner → List ℤ
  inner_divisors None' = []
  inner_divisors (Some' factor moduli) = moduli ++ factor_divisors factor

  pub signed_divisors : Signed → List ℤ
  signed_divisors (Signed' negative product) = product_divisors product

  pub sum_divisors : {m : _} → Row_of-Signed m → List ℤ
  sum_divisors end_of-Signed = []
  sum_divisors (more_of-Signed part rest) = signed_divisors part ++ sum_divisors rest

-- the divisors of the floors, ceilings and remainders of a term
abbrev pub term_divisors : Term → List ℤ
term_divisors [] = []
term_divisors (part ∷ parts) = signed_divisors part ++ term_divisors parts

-- those of the terms of a side, of links, and of binders
abbrev pub side_divisors : Side → List ℤ
side_divisors [] = []
side_divisors (term ∷ side) = term_divisors term ++ side_divisors side

abbrev pub links_divisors : List Link → List ℤ
links_divisors [] = []
links_divisors (link ∷ links) = side_divisors link.1 ++ links_divisors links

abbrev pub value_divisors : Option Term → List ℤ
value_divisors None = []
value_divisors (Some term) = term_divisors term

abbrev pub binders_divisors : List Binder → List ℤ
binders_divisors [] = []
binders_divisors (binder ∷ binders) = value_divisors binder.value ++ binders_divisors binders

abbrev mutual
  -- those of the terms of a formula
  pub formula_divisors : Formula → List ℤ
  formula_divisors (Implies' s row) = row_divisors row
  formula_divisors (Or' s row) = row_divisors row
  formula_divisors (And' s row) = row_divisors row
  formula_divisors (Not' s row) = row_divisors row
  formula_divisors True = []
  formula_divisors False = []
  formula_divisors (Exists' binders s row) = binders_divisors binders ++ row_divisors row
  formula_divisors (Chain first links) = side_divisors first ++ links_divisors links

  pub row_divisors : {m : _} → Row_of-Formula m → List ℤ
  row_divisors end_of-Formula = []
  row_divisors (more_of-Formula f rest) = formula_divisors f ++ row_divisors rest

abbrev pub entries_divisors : List Entry → List ℤ
entries_divisors [] = []
entries_divisors (entry ∷ entries) = term_divisors (entry_term entry) ++ entries_divisors entries

abbrev pub body_divisors : Option Formula → List ℤ
body_divisors None = []
body_divisors (Some formula) = formula_divisors formula

-- those of a piece
abbrev pub piece_divisors : PieceTree → List ℤ
piece_divisors piece = entries_divisors (piece_entries piece) ++ body_divisors piece.body

-- all of these divisors are at least 1
abbrev pub ArePositive : List ℤ → Type 0
ArePositive divisors = All (λ k. pos 0 <ℤ k) divisors

-- all divisors of the term are at least 1
abbrev pub HasDivisors : Term → Type 0
HasDivisors term = ArePositive (term_divisors term)
