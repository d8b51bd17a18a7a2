-- What terms and formulas divide by is at least 1.
use mathlib.Core.Former.{Count}
use Rattle.std.proofs.Common.{◌≡◌, ◌≢◌, ◌∙◌, refl, sym, ap, subst, inl, inr, ℕ, zero, suc, ℤ, pos, ◌<ℤ◌, Bool, true, false, List, [], ◌∷◌, ◌++◌, Option, Some, None, arith}
use Rattle.std.specs.List.{All}
use Rattle.std.proofs.lemmas.Int.{ints}
use Rattle.std.proofs.lemmas.List.Elements.{All-nil, All-cons, All-head, All-tail, All-append}
use Rattle.isl_token.specs.TokenView.{Token}
use Rattle.isl_token.specs.Token.{IsToken, Text}
use Rattle.isl_token.specs.Number.{number_of, value_of, too_great}
use Rattle.isl_token.specs.declared.token.Kind.{Kind}
use Rattle.isl_token.specs.declared.token.Kind.TheVariants as k
use Rattle.isl_token.specs.Spelling as s
use Rattle.isl_token.specs.Spelling.{Grammar}
use Rattle.isl_tree.specs.declared.tree.Factor.{Factor, Row_of-Signed, end_of-Signed, more_of-Signed}
use Rattle.isl_tree.specs.declared.tree.Factor.{items-the_row-Signed, items_hidden-the_row-Signed-0}
use Rattle.isl_tree.specs.declared.tree.Factor.TheVariants as f
use Rattle.isl_tree.specs.declared.tree.Factor.TheBlock.{hidden-the_row-Signed-0}
use Rattle.isl_tree.specs.declared.tree.Signed as signed
use Rattle.isl_tree.specs.declared.tree.Signed.{Signed}
use Rattle.isl_tree.specs.declared.tree.Product as product
use Rattle.isl_tree.specs.declared.tree.Product.{Product}
use Rattle.isl_tree.specs.declared.tree.Modded.{Modded}
use Rattle.isl_tree.specs.declared.tree.Compare.{Compare}
use Rattle.isl_tree.specs.declared.tree.Binder.{Binder}
use Rattle.isl_tree.specs.declared.tree.Formula.{Formula, Row_of-Formula, end_of-Formula, more_of-Formula}
use Rattle.isl_tree.specs.declared.tree.Formula.{items-the_row-Formula, items_hidden-the_row-Formula-0}
use Rattle.isl_tree.specs.declared.tree.Formula.TheVariants as v
use Rattle.isl_tree.specs.declared.tree.Formula.TheBlock.{hidden-the_row-Formula-0, hidden-the_row-Formula-1}
use Rattle.isl_tree.specs.Formula.{Side, Link}
use Rattle.isl_tree.specs.Term.{Term}
use Rattle.isl_formula.specs.declared.term.Rounding.{Rounding}
use Rattle.isl_formula.specs.declared.term.Rounding.TheVariants.{Down, Up}
use Rattle.isl_formula.specs.Term.{make_modded, make_product, make_signed, rounded}
use Rattle.isl_formula.specs.TermGrammar as t
use Rattle.isl_formula.specs.FormulaGrammar as g
use Rattle.isl_tree.specs.Divisors.{factor_divisors, product_divisors, inner_divisors, signed_divisors, sum_divisors, term_divisors}
use Rattle.isl_tree.specs.Divisors.{side_divisors, links_divisors, value_divisors, binders_divisors, formula_divisors, row_divisors}
use Rattle.isl_tree.specs.Divisors.{ArePositive}
use Rattle.isl_formula.proofs.SpelledLaws.{Has, whatever, pure_has, bind_has, then_has, either_has, many_has}

-- ---- lists of divisors
Positive : ℤ → Type 0
Positive k = pos 0 <ℤ k

pub none : ArePositive []
none = All-nil (λ k. pos 0 <ℤ k)

pub both : (ks ls : List ℤ) → ArePositive ks → ArePositive ls → ArePositive (ks ++ ls)
both ks ls = All-append (λ k. pos 0 <ℤ k) ks ls

one_more : (k : ℤ) (ks : List ℤ) → Positive k → ArePositive ks → ArePositive (k ∷ ks)
unfolding Positive
one_more k ks p h = All-cons (λ k. pos 0 <ℤ k) k ks p h

above : (m : ℕ) → pos m ≢ pos 0 → Positive (pos m)
unfolding Positive
above zero other = absurd (other refl)
above (suc m) other = omega (arith, ints)

positive_has : Has Positive s.positive
unfolding number_of
positive_has = record { by = λ z ts h l. subst Positive (sym l.0.2) (above _ (λ e. l.1 (l.0.2 ∙ e))) }

all_positive : (ks : List ℤ) → All Positive ks → ArePositive ks
unfolding Positive
all_positive ks h = h

-- ---- terms
DivSigned : Signed → Type 0
DivSigned part = ArePositive (signed_divisors part)

DivProduct : Product → Type 0
DivProduct p = ArePositive (product_divisors p)

DivFactor : Factor → Type 0
DivFactor x = ArePositive (factor_divisors x)

DivTerm : List Signed → Type 0
DivTerm term = ArePositive (term_divisors term)

row_is : (m : Count) (row : Row_of-Signed m) → sum_divisors row ≡ term_divisors (items-the_row-Signed m row)
row_is m end_of-Signed = refl
row_is m (more_of-Signed part row) = ap (λ ks. signed_divisors part ++ ks) (row_is _ row)

inside : (term : List Signed) → sum_divisors (hidden-the_row-Signed-0 term) ≡ term_divisors term
inside term = row_is _ (hidden-the_row-Signed-0 term) ∙ ap term_divisors (items_hidden-the_row-Signed-0 term)

div_Inner : (term : List Signed) → DivTerm term → DivFactor (f.Inner term)
unfolding DivTerm DivFactor
div_Inner term h = subst ArePositive (sym (inside term)) h

div_rounded : (rounding : Rounding) (term : List Signed) (k : ℤ) → DivTerm term → Positive k → DivFactor (rounded rounding term k)
unfolding DivTerm DivFactor
div_rounded Down term k h p = one_more k _ p (subst ArePositive (sym (inside term)) h)
div_rounded Up term k h p = one_more k _ p (subst ArePositive (sym (inside term)) h)

div_signed : (negative : Bool) (p : Product) → DivProduct p → DivSigned (make_signed negative p)
unfolding DivProduct DivSigned signed.roll-Signed product.roll-Product denote.Hole.Carrier.roll
div_signed negative p h = h

div_many : (parts : List Signed) → All DivSigned parts → DivTerm parts
unfolding DivSigned DivTerm
div_many [] h = none
div_many (part ∷ parts) h = both (signed_divisors part) (term_divisors parts) (All-head DivSigned part parts h) (div_many parts (All-tail DivSigned part parts h))

DivHeld : Option Modded → Type 0
DivHeld held = DivProduct (make_product [] held)

div_held : (inside : Factor) (moduli : List ℤ) → DivFactor inside → All Positive moduli → DivHeld (Some (make_modded inside moduli))
unfolding DivHeld DivProduct DivFactor product.roll-Product denote.Hole.Carrier.roll
div_held inside moduli h ps = both moduli (factor_divisors inside) (all_positive moduli ps) h

div_none : DivHeld None
unfolding DivHeld DivProduct product.roll-Product denote.Hole.Carrier.roll
div_none = none

div_product : (numbers : List ℤ) (held : Option Modded) → DivHeld held → DivProduct (make_product numbers held)
unfolding DivHeld DivProduct product.roll-Product denote.Hole.Carrier.roll
div_product numbers None h = h
div_product numbers (Some m) h = h

DivModded : Modded → Type 0
DivModded m = DivHeld (Some m)

div_Name : (n : Text) → DivFactor (f.Name n)
unfolding DivFactor
div_Name n = none

module _ (L : Grammar Product) (nested : Has DivProduct L) where
  signed_has : (sign : Grammar Bool) → Has DivSigned (t.signed_by L sign)
  signed_has sign = bind_has (λ _. Unit {0}) DivSigned _ _ (whatever _) (λ negative _. bind_has DivProduct DivSigned _ _ nested (λ p h. pure_has DivSigned _ (div_signed negative p h)))

  terms_has : Has DivTerm (t.terms L)
  terms_has = bind_has DivSigned DivTerm _ _ (signed_has _) (λ first one. bind_has (All DivSigned) DivTerm _ _ (many_has DivSigned _ (signed_has _))
      (λ others more. pure_has DivTerm _ (div_many (first ∷ others) (All-cons DivSigned first others one more))))

  enclosed_has : Has DivFactor (t.enclosed L)
  enclosed_has = then_has DivFactor _ _ (bind_has DivTerm DivFactor _ _ terms_has (λ inner h. then_has DivFactor _ _ (pure_has DivFactor _ (div_Inner inner h))))

  over_has : Has DivTerm (t.over L)
  over_has = bind_has (λ _. Unit {0}) DivTerm _ _ (whatever _) (λ negative _. bind_has DivProduct DivTerm _ _ nested
      (λ p h. pure_has DivTerm _ (div_many (make_signed negative p ∷ []) (All-cons DivSigned _ [] (div_signed negative p h) (All-nil DivSigned)))))

  ratio_has : (rounding : Rounding) → Has DivFactor (t.ratio L rounding)
  ratio_has rounding = bind_has DivTerm DivFactor _ _ over_has (λ term h. then_has DivFactor _ _ (bind_has Positive DivFactor _ _ positive_has
      (λ k p. pure_has DivFactor _ (div_rounded rounding term k h p))))

  in_brackets_has : (kind : Kind) (rounding : Rounding) → Has DivFactor (t.in_brackets L kind rounding)
  in_brackets_has kind rounding = then_has DivFactor _ _ (then_has DivFactor _ _ (bind_has DivFactor DivFactor _ _ (ratio_has rounding)
      (λ quotient h. then_has DivFactor _ _ (pure_has DivFactor _ h))))

  squares_has : Has DivFactor (t.in_squares L)
  squares_has = then_has DivFactor _ _ (bind_has DivFactor DivFactor _ _ (ratio_has Down) (λ quotient h. then_has DivFactor _ _ (pure_has DivFactor _ h)))

  divided_has : (kind : Kind) (rounding : Rounding) → Has DivFactor (t.divided L kind rounding)
  divided_has kind rounding = then_has DivFactor _ _ (then_has DivFactor _ _ (bind_has DivTerm DivFactor _ _ terms_has (λ term h. then_has DivFactor _ _
      (bind_has Positive DivFactor _ _ positive_has (λ k p. then_has DivFactor _ _ (pure_has DivFactor _ (div_rounded rounding term k h p)))))))

  quotient_has : Has DivFactor (t.quotient L)
  quotient_has = either_has DivFactor _ _ squares_has (either_has DivFactor _ _ (in_brackets_has k.Floor Down) (either_has DivFactor _ _ (in_brackets_has k.Ceil Up)
      (either_has DivFactor _ _ (divided_has k.FloorDiv Down) (divided_has k.CeilDiv Up))))

  lone_has : Has DivFactor (t.lone L)
  lone_has = bind_has (λ _. Unit {0}) DivFactor _ _ (whatever _) (λ n _. pure_has DivFactor _ (div_Name n))

  factor_has : Has DivFactor (t.factor L)
  factor_has = either_has DivFactor _ _ lone_has (either_has DivFactor _ _ enclosed_has quotient_has)

  modded_has : Has DivModded (t.modded L)
  unfolding DivModded
  modded_has = bind_has DivFactor DivModded _ _ factor_has (λ inside h. bind_has (All Positive) DivModded _ _ (many_has Positive _ (then_has Positive _ _ positive_has))
      (λ moduli ps. pure_has DivModded _ (div_held inside moduli h ps)))

  held_has : Has DivHeld (t.held L)
  unfolding DivModded
  held_has = bind_has DivModded DivHeld _ _ modded_has (λ m h. pure_has DivHeld _ h)

  inner_has : Has DivHeld (t.inner L)
  inner_has = either_has DivHeld _ _ (pure_has DivHeld None div_none) (then_has DivHeld _ _ held_has)

  level_has : Has DivProduct (t.product_level L)
  unfolding DivModded
  level_has = either_has DivProduct _ _
      (bind_has (λ _. Unit {0}) DivProduct _ _ (whatever _) (λ first _. bind_has (λ _. Unit {0}) DivProduct _ _ (whatever _) (λ others _.
      bind_has DivHeld DivProduct _ _ inner_has (λ held h. pure_has DivProduct _ (div_product (first ∷ others) held h)))))
      (bind_has DivModded DivProduct _ _ modded_has (λ first h. bind_has (λ _. Unit {0}) DivProduct _ _ (whatever _) (λ numbers _.
      pure_has DivProduct _ (div_product numbers (Some first) h))))

product_has : (n : ℕ) → Has DivProduct (t.product n)
unfolding t.product
product_has zero = record { by = λ a ts h l. absurd l }
product_has (suc n) = level_has (t.product n) (product_has n)

term_has_it : (n : ℕ) → Has DivTerm (t.term n)
term_has_it n = terms_has (t.product n) (product_has n)

-- the divisors of a term are at least 1
pub term_has : (n : ℕ) → Has (λ term. ArePositive (term_divisors term)) (t.term n)
unfolding DivTerm
term_has n = term_has_it n

-- ---- formulas
DivSide : Side → Type 0
DivSide side = ArePositive (side_divisors side)

DivLink : Link → Type 0
DivLink link = DivSide link.1

DivValue : Option Term → Type 0
DivValue value = ArePositive (value_divisors value)

DivBinder : Binder → Type 0
DivBinder binder = DivValue binder.value

DivBinders : List Binder → Type 0
DivBinders binders = ArePositive (binders_divisors binders)

DivFormula : Formula → Type 0
DivFormula formula = ArePositive (formula_divisors formula)

div_side : (side : Side) → All DivTerm side → DivSide side
unfolding DivTerm DivSide
div_side [] h = none
div_side (term ∷ side) h = both (term_divisors term) (side_divisors side) (All-head DivTerm term side h) (div_side side (All-tail DivTerm term side h))

div_links : (links : List Link) → All DivLink links → ArePositive (links_divisors links)
unfolding DivLink DivSide
div_links [] h = none
div_links (link ∷ links) h = both (side_divisors link.1) (links_divisors links) (All-head DivLink link links h) (div_links links (All-tail DivLink link links h))

div_binders : (binders : List Binder) → All DivBinder binders → DivBinders binders
unfolding DivBinder DivValue DivBinders
div_binders [] h = none
div_binders (binder ∷ binders) h =
    both (value_divisors binder.value) (binders_divisors binders) (All-head DivBinder binder binders h) (div_binders binders (All-tail DivBinder binder binders h))

div_Chain : (first : Side) (second : Link) (links : List Link) → DivSide first → DivLink second → All DivLink links → DivFormula (v.Chain first (second ∷ links))
unfolding DivSide DivFormula
div_Chain first second links one two more =
    both (side_divisors first) (links_divisors (second ∷ links)) one (div_links (second ∷ links) (All-cons DivLink second links two more))

formulas_divisors : List Formula → List ℤ
formulas_divisors [] = []
formulas_divisors (formula ∷ formulas) = formula_divisors formula ++ formulas_divisors formulas

rows_are : (m : Count) (row : Row_of-Formula m) → row_divisors row ≡ formulas_divisors (items-the_row-Formula m row)
unfolding formulas_divisors
rows_are m end_of-Formula = refl
rows_are m (more_of-Formula formula row) = ap (λ ks. formula_divisors formula ++ ks) (rows_are _ row)

joined : (formulas : List Formula) → row_divisors (hidden-the_row-Formula-0 formulas) ≡ formulas_divisors formulas
joined formulas = rows_are _ (hidden-the_row-Formula-0 formulas) ∙ ap formulas_divisors (items_hidden-the_row-Formula-0 formulas)

each_formula : (formulas : List Formula) → All DivFormula formulas → ArePositive (formulas_divisors formulas)
unfolding formulas_divisors DivFormula
each_formula [] h = none
each_formula (x ∷ fs) h = both (formula_divisors x) (formulas_divisors fs) (All-head DivFormula x fs h) (each_formula fs (All-tail DivFormula x fs h))

div_formulas : (formulas : List Formula) → All DivFormula formulas → ArePositive (row_divisors (hidden-the_row-Formula-0 formulas))
div_formulas formulas h = subst ArePositive (sym (joined formulas)) (each_formula formulas h)

div_And : (formulas : List Formula) → All DivFormula formulas → DivFormula (v.And formulas)
unfolding DivFormula
div_And formulas h = div_formulas formulas h

div_Or : (formulas : List Formula) → All DivFormula formulas → DivFormula (v.Or formulas)
unfolding DivFormula
div_Or formulas h = div_formulas formulas h

div_Implies : (formulas : List Formula) → All DivFormula formulas → DivFormula (v.Implies formulas)
unfolding DivFormula
div_Implies formulas h = div_formulas formulas h

div_Not : (inner : Formula) → DivFormula inner → DivFormula (v.Not inner)
unfolding DivFormula hidden-the_row-Formula-1 denote.Hole.Carrier.hidden
div_Not inner h = both (formula_divisors inner) [] h none

div_Exists : (binders : List Binder) (inner : Formula) → DivBinders binders → DivFormula inner → DivFormula (v.Exists binders inner)
unfolding DivBinders DivFormula hidden-the_row-Formula-1 denote.Hole.Carrier.hidden
div_Exists binders inner first second =
    both (binders_divisors binders) (formula_divisors inner ++ []) first (both (formula_divisors inner) [] second none)

div_True : DivFormula v.True
unfolding DivFormula
div_True = none

div_False : DivFormula v.False
unfolding DivFormula
div_False = none

module _ (tl : Grammar (List Signed)) (term : Has DivTerm tl) where
  side_has : Has DivSide (g.side tl)
  side_has = bind_has DivTerm DivSide _ _ term (λ first one. bind_has (All DivTerm) DivSide _ _ (many_has DivTerm _ (then_has DivTerm _ _ term))
      (λ others more. pure_has DivSide _ (div_side (first ∷ others) (All-cons DivTerm first others one more))))

  link_has : Has DivLink (g.link tl)
  unfolding DivLink
  link_has = bind_has (λ _. Unit {0}) DivLink _ _ (whatever _) (λ c _. bind_has DivSide DivLink _ _ side_has (λ right h. pure_has DivLink (c, right) h))

  chain_has : Has DivFormula (g.chain tl)
  chain_has = bind_has DivSide DivFormula _ _ side_has (λ first one. bind_has DivLink DivFormula _ _ link_has (λ second two.
      bind_has (All DivLink) DivFormula _ _ (many_has DivLink _ link_has) (λ links more. pure_has DivFormula _ (div_Chain first second links one two more))))

  value_has : Has DivValue (g.value tl)
  unfolding DivValue DivTerm
  value_has = either_has DivValue _ _ (bind_has DivTerm DivValue _ _ (then_has DivTerm _ _ term) (λ held h. pure_has DivValue (Some held) h)) (pure_has DivValue None none)

  binder_has : Has DivBinder (g.binder tl)
  unfolding DivBinder
  binder_has = bind_has (λ _. Unit {0}) DivBinder _ _ (whatever _) (λ bound _. bind_has DivValue DivBinder _ _ value_has (λ held h. pure_has DivBinder _ h))

  binders_has : Has DivBinders (g.binders tl)
  binders_has = bind_has DivBinder DivBinders _ _ binder_has (λ first one. bind_has (All DivBinder) DivBinders _ _ (many_has DivBinder _ (then_has DivBinder _ _ binder_has))
      (λ others more. pure_has DivBinders _ (div_binders (first ∷ others) (All-cons DivBinder first others one more))))

rows_has : (sep : Kind) (make : List Formula → Formula) → ((fs : List Formula) → All DivFormula fs → DivFormula (make fs)) → (L : Bool → Grammar Formula)
    → ((b : Bool) → Has DivFormula (L b)) → (b : Bool) → Has DivFormula (g.rows sep make L b)
rows_has sep make made L h b = either_has DivFormula _ _ (h b)
    (bind_has DivFormula DivFormula _ _ (h false) (λ first one. bind_has (All DivFormula) DivFormula _ _ (many_has DivFormula _ (then_has DivFormula _ _ (h false)))
    (λ middle more. bind_has DivFormula DivFormula _ _ (then_has DivFormula _ _ (h b)) (λ final last. pure_has DivFormula _ (made (first ∷ (middle ++ final ∷ []))
    (All-cons DivFormula first (middle ++ final ∷ []) one (All-append DivFormula middle (final ∷ []) more (All-cons DivFormula final [] last (All-nil DivFormula)))))))))

with_has : (L : Bool → Grammar Formula) → ((b : Bool) → Has DivFormula (L b)) → (b : Bool) → Has DivFormula (g.formula_with L b)
with_has L h =
    rows_has k.Implies v.Implies div_Implies (g.disj L) (rows_has k.Or v.Or div_Or (g.conj L) (rows_has k.And v.And div_And L h))

module _ (tl : Grammar (List Signed)) (term : Has DivTerm tl) (L : Bool → Grammar Formula) (nested : (b : Bool) → Has DivFormula (L b)) where
  bound_has : Has DivFormula (g.bound tl L)
  bound_has = bind_has DivBinders DivFormula _ _ (binders_has tl term) (λ names one. then_has DivFormula _ _
      (bind_has DivFormula DivFormula _ _ (with_has L nested true) (λ inner h. pure_has DivFormula _ (div_Exists names inner one h))))

  closed_has : (b : Bool) → Has DivFormula (g.closed tl L b)
  closed_has b = either_has DivFormula _ _
      (then_has DivFormula _ _ (bind_has DivFormula DivFormula _ _ (nested b) (λ inner h. pure_has DivFormula _ (div_Not inner h))))
      (either_has DivFormula _ _
      (then_has DivFormula _ _ (bind_has DivFormula DivFormula _ _ (with_has L nested true) (λ inner h. then_has DivFormula _ _ (pure_has DivFormula _ h))))
      (either_has DivFormula _ _ (either_has DivFormula _ _ (then_has DivFormula _ _ (pure_has DivFormula _ div_True)) (then_has DivFormula _ _ (pure_has DivFormula _ div_False)))
      (either_has DivFormula _ _ (chain_has tl term)
      (then_has DivFormula _ _ (then_has DivFormula _ _ (bind_has DivFormula DivFormula _ _ bound_has (λ whole h. then_has DivFormula _ _ (pure_has DivFormula _ h))))))))

  level_formula_has : (b : Bool) → Has DivFormula (g.unary_level tl L b)
  level_formula_has false = closed_has false
  level_formula_has true = either_has DivFormula _ _ (closed_has true) (then_has DivFormula _ _ bound_has)

unary_has : (n : ℕ) (b : Bool) → Has DivFormula (g.unary n b)
unfolding g.unary
unary_has zero b = record { by = λ a ts h l. absurd l }
unary_has (suc n) b = level_formula_has (t.term (suc n)) (term_has_it (suc n)) (g.unary n) (unary_has n) b

-- the divisors of a formula are at least 1
pub formula_has : (n : ℕ) → Has (λ formula. ArePositive (formula_divisors formula)) (g.formula n)
unfolding DivFormula
formula_has n = with_has (g.unary n) (unary_has n) true
