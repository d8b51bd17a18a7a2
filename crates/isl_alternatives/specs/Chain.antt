-- inner: the comparisons of a chain, one by one.
use Rattle.std.specs.Prelude.{◌≡◌, ℕ, suc, ◌+◌, ℤ, pos, ◌<ℤ◌, List, [], ◌∷◌, ◌++◌, All, length, map}
use Rattle.isl_tree.specs.Divisors.{HasDivisors}
use Rattle.isl_affine.specs.Scope.{Scope, IsTermKnown}
use Rattle.isl_tree.specs.declared.tree.Compare.{Compare}
use Rattle.isl_tree.specs.declared.tree.Compare.TheVariants.{Equal, Less, LessEqual, Greater, GreaterEqual, Differs}
use Rattle.isl_tree.specs.Environment.{Environment}
use Rattle.isl_tree.specs.Formula.{Link, Side, Compares}
use Rattle.isl_tree.specs.Term.{Term, term_value}

-- two terms, and the sign between them
abbrev pub Compared : Type 0
Compared = Term × Compare × Term

-- it holds
abbrev pub HoldsCompared : Compared → Environment → Type 0
HoldsCompared c env = Compares c.1 (term_value c.0 env) (term_value c.2 env)

-- the names of its terms stand for columns, and its divisors are at least 1
pub record IsComparedKnown (scope : Scope) (c : Compared) : Type 0 where
  pub left : IsTermKnown scope c.0
  pub right : IsTermKnown scope c.2
  pub left_divisors : HasDivisors c.0
  pub right_divisors : HasDivisors c.2

-- a term compared with each of a side, each of a side with each of another, and the neighbouring sides of a chain
abbrev pub term_compared : Term → Compare → Side → List Compared
term_compared left c rights = map (λ right. (left, c, right)) rights

abbrev pub sides_compared : Side → Compare → Side → List Compared
sides_compared [] c rights = []
sides_compared (left ∷ lefts) c rights = term_compared left c rights ++ sides_compared lefts c rights

abbrev pub chain_compared : Side → List Link → List Compared
chain_compared first [] = []
chain_compared first (link ∷ links) = sides_compared first link.0 link.1 ++ chain_compared link.1 links

-- those that are ahead: of the first term with these of the side behind it, of the others with all of that, and those behind
abbrev pub compared_ahead : Side → Side → List Link → List Compared
compared_ahead lefts rights [] = []
compared_ahead [] rights (link ∷ links) = chain_compared link.1 links
compared_ahead (left ∷ lefts) rights (link ∷ links) =
    term_compared left link.0 rights ++ (sides_compared lefts link.0 link.1 ++ chain_compared link.1 links)

-- how often a term on the left, or a link, can still be left behind
abbrev pub turns_ahead : List Link → ℕ
turns_ahead [] = 0
turns_ahead (link ∷ links) = suc (length link.1) + turns_ahead links

-- each of the comparisons holds
abbrev pub EachCompared : List Compared → Environment → Type 0
EachCompared [] env = Unit {0}
EachCompared (c ∷ cs) env = HoldsCompared c env × EachCompared cs env

-- the sign that holds where this one does not
abbrev pub opposite : Compare → Compare
opposite Equal = Differs
opposite Less = GreaterEqual
opposite LessEqual = Greater
opposite Greater = LessEqual
opposite GreaterEqual = Less
opposite Differs = Equal
