-- What an operator joins.
use Rattle.std.proofs.Common.{◌≡◌, true, false, List, [], ◌∷◌, Some, Result, Err, refl, sym, subst}
use Rattle.isl_token.specs.TokenView.{Token}
use Rattle.isl_token.specs.declared.fault.Fault.{Fault}
use Rattle.isl_token.specs.declared.fault.Fault.TheVariants.{NoMemory, Syntax}
use Rattle.isl_token.specs.declared.token.Kind.{Kind}
use Rattle.isl_token.specs.Reading.{Parser, Reads, sees, row}
use Rattle.isl_tree.specs.declared.tree.Formula.{Formula}
use Rattle.isl_formula.specs.declared.formula.Operator.{Operator}
use Rattle.isl_formula.specs.declared.formula.Operator.TheVariants.{Implies, Or, And}
use Rattle.isl_formula.specs.Formula.{operand, row_of, next_item, rows}

module _ (unary : Parser Formula) (o : Operator) (ts rest : List Token) (r : Result Formula Fault) where
  pub implied : o ≡ Implies → Reads (row_of unary Or ts) r rest → Reads (operand unary o ts) r rest
  implied is read = subst (λ (x : Operator). Reads (operand unary x ts) r rest) (sym is) read

  pub either : o ≡ Or → Reads (row_of unary And ts) r rest → Reads (operand unary o ts) r rest
  either is read = subst (λ (x : Operator). Reads (operand unary x ts) r rest) (sym is) read

module _ (sep : Kind) (make : List Formula → Formula) (item : Parser Formula) where
  -- the first part, the test, the second part and the others
  pub row_whole : (ts us vs ws : List Token) (first second made : Formula) (parts : List Formula) → item ts ≡ Some (first, us)
      → sees sep us ≡ true → next_item sep make item us ≡ Some (second, vs)
      → row (sees sep) (next_item sep make item) (first ∷ second ∷ []) vs ≡ Some (parts, ws) → made ≡ make parts
      → rows sep make item ts ≡ Some (made, ws)
  unfolding rows
  row_whole ts us vs ws first second made parts one test two all is = rw (one, test, two, all, is) refl

  pub row_first : (ts us : List Token) (first : Formula) → item ts ≡ Some (first, us) → sees sep us ≡ false
      → rows sep make item ts ≡ Some (first, us)
  unfolding rows
  row_first ts us first one test = rw (one, test) refl

  pub row_fails_first : (ts rest : List Token) (e : Fault) → Reads (item ts) (Err e) rest → Reads (rows sep make item ts) (Err e) rest
  unfolding rows
  row_fails_first ts rest NoMemory one = tt
  row_fails_first ts rest Syntax one = rw one refl

  pub row_fails_second : (ts us rest : List Token) (first : Formula) (e : Fault) → item ts ≡ Some (first, us) → sees sep us ≡ true
      → Reads (next_item sep make item us) (Err e) rest → Reads (rows sep make item ts) (Err e) rest
  unfolding rows
  row_fails_second ts us rest first NoMemory one test two = tt
  row_fails_second ts us rest first Syntax one test two = rw (one, test, two) refl

  pub row_fails_others : (ts us vs rest : List Token) (first second : Formula) (e : Fault) → item ts ≡ Some (first, us) → sees sep us ≡ true
      → next_item sep make item us ≡ Some (second, vs)
      → Reads (row (sees sep) (next_item sep make item) (first ∷ second ∷ []) vs) (Err e) rest → Reads (rows sep make item ts) (Err e) rest
  unfolding rows
  row_fails_others ts us vs rest first second NoMemory one test two all = tt
  row_fails_others ts us vs rest first second Syntax one test two all = rw (one, test, two, all) refl

pub ruleset whole_rows = (row_whole, row_first, row_fails_first, row_fails_second, row_fails_others)

pub ruleset operands = (implied, either)
