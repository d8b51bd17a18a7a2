-- public: which identifiers of a literal are known: parameters, variables of an earlier place, and what an enclosing `exists` binds.
use Rattle.std.specs.Prelude.{ℕ, Bool, true, is_some, ◌&&◌, ◌||◌, List, [], ◌∷◌, ◌++◌, Option, Some, None}
use Rattle.std.specs.List.{list_all}
use Rattle.isl_tree.specs.declared.tree.Factor.{Factor, Name, Inner', Floor', Ceil', Row_of-Signed, end_of-Signed, more_of-Signed}
use Rattle.isl_tree.specs.declared.tree.Signed.{Signed, Signed'}
use Rattle.isl_tree.specs.declared.tree.Product.{Product, Product', Held-Product-inner, None', Some'}
use Rattle.isl_tree.specs.declared.tree.Binder.{Binder}
use Rattle.isl_tree.specs.declared.tree.Formula.{Formula, Implies', Or', And', Not', True, False, Exists', Chain, Row_of-Formula}
use Rattle.isl_tree.specs.declared.tree.Formula.{end_of-Formula, more_of-Formula}
use Rattle.isl_tree.specs.declared.tree.Entry.{Entry}
use Rattle.isl_tree.specs.declared.tree.Entry.TheVariants.{Plain, Named}
use Rattle.isl_tree.specs.declared.tree.PieceTree.{PieceTree}
use Rattle.isl_tree.specs.declared.tree.Literal.{Literal}
use Rattle.isl_tree.specs.Term.{Term}
use Rattle.isl_tree.specs.Formula.{Side, Link}
use Rattle.isl_tree.specs.Literal.{is_among, new_name, known_after, piece_entries}

abbrev mutual
  -- the names that stand in a term
  pub factor_names : Factor → List (List ℕ)
  factor_names (Name name) = name ∷ []
  factor_names (Inner' s row) = sum_names row
  factor_names (Floor' s row k) = sum_names row
  factor_names (Ceil' s row k) = sum_names row

  pub product_names : Product → List (List ℕ)
  product_names (Product' numbers inner) = inner_names inner

  pub inner_names : Held-Product-inner → List (List ℕ)
  inner_names None' = []
  inner_names (Some' factor moduli) = factor_names factor

  pub signed_names : Signed → List (List ℕ)
  signed_names (Signed' negative product) = product_names product

  pub sum_names : {m : _} → Row_of-Signed m → List (List ℕ)
  sum_names end_of-Signed = []
  sum_names (more_of-Signed part rest) = signed_names part ++ sum_names rest

abbrev pub term_names : Term → List (List ℕ)
term_names [] = []
term_names (part ∷ parts) = signed_names part ++ term_names parts

abbrev pub term_is_known : List (List ℕ) → Term → Bool
term_is_known known term = list_all (is_among known) (term_names term)

abbrev pub side_is_known : List (List ℕ) → Side → Bool
side_is_known known side = list_all (term_is_known known) side

abbrev pub links_are_known : List (List ℕ) → List Link → Bool
links_are_known known links = list_all (λ link. side_is_known known link.1) links

abbrev pub chain_is_known : List (List ℕ) → Side → List Link → Bool
chain_is_known known first links = side_is_known known first && links_are_known known links

-- the terms of binders know the binders before them
abbrev pub binders_are_known : List (List ℕ) → List Binder → Bool
binders_are_known known [] = true
binders_are_known known (binder ∷ binders) = value_is_known binder.value && binders_are_known (binder.name ∷ known) binders
  where
    value_is_known : Option Term → Bool
    value_is_known None = true
    value_is_known (Some term) = term_is_known known term

-- the names that are known below binders
abbrev pub known_below : List (List ℕ) → List Binder → List (List ℕ)
known_below known [] = known
known_below known (binder ∷ binders) = known_below (binder.name ∷ known) binders

abbrev mutual
  pub formula_is_known : List (List ℕ) → Formula → Bool
  formula_is_known known (Implies' s row) = formulas_are_known known row
  formula_is_known known (Or' s row) = formulas_are_known known row
  formula_is_known known (And' s row) = formulas_are_known known row
  formula_is_known known (Not' s row) = formulas_are_known known row
  formula_is_known known True = true
  formula_is_known known False = true
  formula_is_known known (Exists' binders s row) = binders_are_known known binders && formulas_are_known (known_below known binders) row
  formula_is_known known (Chain first links) = chain_is_known known first links

  pub formulas_are_known : {m : _} → List (List ℕ) → Row_of-Formula m → Bool
  formulas_are_known known end_of-Formula = true
  formulas_are_known known (more_of-Formula f rest) = formula_is_known known f && formulas_are_known known rest

-- an entry that is a new name alone is known, and a term knows the names before it
abbrev pub entry_is_known : List (List ℕ) → Entry → Bool
entry_is_known known (Plain term) = is_some (new_name known (Plain term)) || term_is_known known term
entry_is_known known (Named name term) = term_is_known known term

abbrev pub entries_are_known : List (List ℕ) → List Entry → Bool
entries_are_known known [] = true
entries_are_known known (entry ∷ entries) =
    entry_is_known known entry && entries_are_known (known_after known (new_name known entry)) entries

-- the names that are known behind entries
abbrev pub known_behind : List (List ℕ) → List Entry → List (List ℕ)
known_behind known [] = known
known_behind known (entry ∷ entries) = known_behind (known_after known (new_name known entry)) entries

abbrev pub body_is_known : List (List ℕ) → Option Formula → Bool
body_is_known known None = true
body_is_known known (Some formula) = formula_is_known known formula

abbrev pub piece_is_known : List (List ℕ) → PieceTree → Bool
piece_is_known params piece =
    entries_are_known params (piece_entries piece) && body_is_known (known_behind params (piece_entries piece)) piece.body

-- every identifier of the literal is known
abbrev pub literal_is_known : Literal → Bool
literal_is_known literal = list_all (piece_is_known literal.params) literal.pieces
