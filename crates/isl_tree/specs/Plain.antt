-- public: plain literals: linear terms, compared in chains, and their remainders, compared with 0, joined by `and`. What the printed form
-- of a set or map is made of. (isl manual, on affine expressions)
use Rattle.std.specs.Prelude.{ℤ, pos, int_lt, Bool, true, false, ◌&&◌, List, [], ◌∷◌, Option, Some, None}
use Rattle.std.specs.List.{list_all}
use Rattle.std.specs.Ordering.{int_eq}
use Rattle.isl_tree.specs.declared.tree.Factor.{Factor, Name, Inner', Row_of-Signed, end_of-Signed, more_of-Signed}
use Rattle.isl_tree.specs.declared.tree.Signed.{Signed, Signed'}
use Rattle.isl_tree.specs.declared.tree.Product.{Product', None', Some'}
use Rattle.isl_tree.specs.declared.tree.Compare.{Compare}
use Rattle.isl_tree.specs.declared.tree.Compare.TheVariants.{Equal, Differs}
use Rattle.isl_tree.specs.declared.tree.Formula.{Formula, And', Chain, Row_of-Formula, end_of-Formula, more_of-Formula}
use Rattle.isl_tree.specs.declared.tree.Entry.{Entry}
use Rattle.isl_tree.specs.declared.tree.Entry.TheVariants.{Plain, Named}
use Rattle.isl_tree.specs.declared.tree.Tuple.{Tuple}
use Rattle.isl_tree.specs.declared.tree.PieceTree.{PieceTree}
use Rattle.isl_tree.specs.declared.tree.Literal.{Literal}
use Rattle.isl_tree.specs.Term.{Term}
use Rattle.isl_tree.specs.Formula.{Side, Link}
use Rattle.isl_tree.specs.Literal.{entries_of, piece_entries}

abbrev mutual
  -- a number, a number times a name, or a number times a sum of such parts in round brackets
  pub is_linear_part : Signed → Bool
  is_linear_part (Signed' negative (Product' numbers None')) = true
  is_linear_part (Signed' negative (Product' numbers (Some' factor []))) = is_linear_factor factor
  is_linear_part _ = false

  pub is_linear_factor : Factor → Bool
  is_linear_factor (Name name) = true
  is_linear_factor (Inner' s row) = are_linear_parts row
  is_linear_factor _ = false

  pub are_linear_parts : {m : _} → Row_of-Signed m → Bool
  are_linear_parts end_of-Signed = true
  are_linear_parts (more_of-Signed part rest) = is_linear_part part && are_linear_parts rest

-- a sum of such parts
abbrev pub is_linear : Term → Bool
is_linear term = list_all is_linear_part term

abbrev pub is_plain_entry : Entry → Bool
is_plain_entry (Plain term) = is_linear term
is_plain_entry (Named name term) = false

-- one linear term
abbrev pub is_plain_side : Side → Bool
is_plain_side (term ∷ []) = is_linear term
is_plain_side _ = false

-- every comparison but `!=`
abbrev pub is_plain_compare : Compare → Bool
is_plain_compare Differs = false
is_plain_compare _ = true

abbrev pub are_plain_links : List Link → Bool
are_plain_links links = list_all (λ link. is_plain_compare link.0 && is_plain_side link.1) links

-- the parts of a term in brackets
abbrev pub parts_in : {m : _} → Row_of-Signed m → Term
parts_in end_of-Signed = []
parts_in (more_of-Signed part rest) = part ∷ parts_in rest

-- a term, and the number that it is divided by
abbrev pub Remainder : Type 0
Remainder = Term × ℤ

-- the remainder that a term is: `(term) mod k` alone
abbrev pub remainder_by : Factor → List ℤ → Option Remainder
remainder_by (Inner' s row) (k ∷ []) = Some (parts_in row, k)
remainder_by _ _ = None

abbrev pub lone_remainder : Term → Option Remainder
lone_remainder (Signed' false (Product' [] (Some' factor moduli)) ∷ []) = remainder_by factor moduli
lone_remainder _ = None

-- the number 0 alone
abbrev pub is_zero : Term → Bool
is_zero (Signed' false (Product' (z ∷ []) None') ∷ []) = int_eq z (pos 0)
is_zero _ = false

-- `=` and `!=`
abbrev pub tells_equality : Compare → Bool
tells_equality Equal = true
tells_equality Differs = true
tells_equality _ = false

-- the remainder of a linear term by a positive number, compared with 0 by `=` or `!=`
abbrev pub is_plain_remainder : Remainder → List Link → Bool
is_plain_remainder r ((c, right ∷ []) ∷ []) = is_linear r.0 && int_lt (pos 0) r.1 && tells_equality c && is_zero right
is_plain_remainder r _ = false

-- such a remainder, or a chain of comparisons of single linear terms
abbrev pub is_plain_comparison : Option Remainder → Term → List Link → Bool
is_plain_comparison None left links = is_linear left && are_plain_links links
is_plain_comparison (Some r) left links = is_plain_remainder r links

abbrev pub are_plain_sides : Side → List Link → Bool
are_plain_sides (left ∷ []) links = is_plain_comparison (lone_remainder left) left links
are_plain_sides _ links = false

abbrev pub is_plain_chain : Formula → Bool
is_plain_chain (Chain first links) = are_plain_sides first links
is_plain_chain _ = false

abbrev pub are_plain_chains : {m : _} → Row_of-Formula m → Bool
are_plain_chains end_of-Formula = true
are_plain_chains (more_of-Formula formula rest) = is_plain_chain formula && are_plain_chains rest

-- a chain, or chains joined by `and`
abbrev pub is_plain_formula : Formula → Bool
is_plain_formula (Chain first links) = are_plain_sides first links
is_plain_formula (And' s row) = are_plain_chains row
is_plain_formula _ = false

-- each entry is a linear term, also those of pairs of tuples
abbrev pub is_plain_tuple : Tuple → Bool
is_plain_tuple tuple = list_all is_plain_entry (entries_of tuple)

abbrev pub body_is_plain : Option Formula → Bool
body_is_plain None = true
body_is_plain (Some formula) = is_plain_formula formula

abbrev pub is_plain_piece : PieceTree → Bool
is_plain_piece piece = list_all is_plain_entry (piece_entries piece) && body_is_plain piece.body

abbrev pub is_plain : Literal → Bool
is_plain literal = list_all is_plain_piece literal.pieces
