-- public: linear terms as rows of numbers: one for each column, and the constant behind them.
use Rattle.std.specs.Prelude.{ℕ, ◌+◌, ℤ, pos, neg_ℤ, ◌+ℤ◌, Bool, true, false, not, List, [], ◌∷◌, ◌++◌, map, slice_index_or, slice_set}
use Rattle.std.specs.Prelude.{replicate, Option, Some, None, if◌then◌else◌}
use Rattle.isl_tree.specs.declared.tree.Factor.{Factor, Name, Inner', Row_of-Signed, end_of-Signed, more_of-Signed}
use Rattle.isl_tree.specs.declared.tree.Signed.{Signed, Signed'}
use Rattle.isl_tree.specs.declared.tree.Product.{Product', None', Some'}
use Rattle.isl_tree.specs.Term.{Term, product_of}

-- an amount that is added at a column; the constant stands behind the last one
abbrev pub Amount : Type 0
Amount = ℕ × ℤ

-- where the columns of names are told, and the number of columns
abbrev pub Place : Type 0
Place = List ℕ → ℕ

-- a product with its sign
abbrev pub signed_product : Bool → List ℤ → ℤ
signed_product negative numbers = if negative then neg_ℤ (product_of numbers) else product_of numbers

-- the sign, the numbers and the name of a part of a linear term; a number has no name
abbrev pub is_negative : Signed → Bool
is_negative (Signed' negative product) = negative

abbrev pub numbers_of : Signed → List ℤ
numbers_of (Signed' negative (Product' numbers inner)) = numbers

abbrev pub part_name : Signed → Option (List ℕ)
part_name (Signed' negative (Product' numbers (Some' (Name name) moduli))) = Some name
part_name _ = None

-- a part with a sign is taken away exactly where one of the two is so
abbrev pub is_taken : Bool → Bool → Bool
is_taken takes negative = if takes then not negative else negative

abbrev mutual
  -- A part of a linear term times numbers with a sign: a sum in round brackets is multiplied out. Of what is not linear nothing is left.
  pub part_times : Bool → List ℤ → Signed → Term
  part_times negative numbers (Signed' sign (Product' more None')) =
      Signed' (is_taken negative sign) (Product' (numbers ++ more) None') ∷ []
  part_times negative numbers (Signed' sign (Product' more (Some' factor []))) =
      factor_times (is_taken negative sign) (numbers ++ more) factor
  part_times negative numbers _ = []

  pub factor_times : Bool → List ℤ → Factor → Term
  factor_times negative numbers (Name name) = Signed' negative (Product' numbers (Some' (Name name) [])) ∷ []
  factor_times negative numbers (Inner' s row) = row_times negative numbers row
  factor_times negative numbers _ = []

  pub row_times : {m : _} → Bool → List ℤ → Row_of-Signed m → Term
  row_times negative numbers end_of-Signed = []
  row_times negative numbers (more_of-Signed part rest) = part_times negative numbers part ++ row_times negative numbers rest

-- the same of a list
abbrev pub term_times : Bool → List ℤ → Term → Term
term_times negative numbers [] = []
term_times negative numbers (part ∷ parts) = part_times negative numbers part ++ term_times negative numbers parts

-- the linear term without round brackets: 2(i + 3) is 2i + 2·3
abbrev pub multiplied_out : Term → Term
multiplied_out term = term_times false [] term

-- a name adds at its column, and a number behind the last one of n
abbrev pub named_place : Place → ℕ → Option (List ℕ) → ℕ
named_place place n None = n
named_place place n (Some name) = place name

-- what a part without brackets adds over n columns
abbrev pub amount_of : ℕ → Place → Signed → Amount
amount_of n place part = (named_place place n (part_name part), signed_product (is_negative part) (numbers_of part))

abbrev pub amounts_of : ℕ → Place → Term → List Amount
amounts_of n place term = map (amount_of n place) term

-- the same amount with the other sign, where it is taken away
abbrev pub turned : Bool → Amount → Amount
turned false a = a
turned true a = (a.0, neg_ℤ a.1)

-- the same with the other sign
abbrev pub negated : List Amount → List Amount
negated amounts = map (λ a. (a.0, neg_ℤ a.1)) amounts

-- the row with an amount added
abbrev pub with_amount : List ℤ → Amount → List ℤ
with_amount row a = slice_set row a.0 (slice_index_or row a.0 (pos 0) +ℤ a.1)

-- the row with all amounts added, one after the other
abbrev pub with_amounts : List ℤ → List Amount → List ℤ
with_amounts row [] = row
with_amounts row (a ∷ amounts) = with_amounts (with_amount row a) amounts

-- the row of a list of amounts over n columns
abbrev pub row_of : ℕ → List Amount → List ℤ
row_of n amounts = with_amounts (replicate (n + 1) (pos 0)) amounts

-- a one that is taken away at a place, where there is one
abbrev pub one_less : Option ℕ → List Amount
one_less None = []
one_less (Some at) = (at, neg_ℤ (pos 1)) ∷ []

-- a term less another one, and less a one at a place where that is asked for
abbrev pub difference : ℕ → Place → Term → Term → Option ℕ → List Amount
difference n place greater less last =
    map (turned false) (amounts_of n place greater) ++ map (turned true) (amounts_of n place less) ++ one_less last
