-- The comparisons of a plain formula as rows.
use mathlib.Core.Former.{Count}
use Rattle.std.proofs.Common.{◌≡◌, ◌∙◌, refl, sym, ap, ◌↔◌, ℕ, ℤ, pos, neg_ℤ, ◌-ℤ◌, ◌<ℤ◌, true, false, ◌&&◌, List, [], ◌∷◌, ◌++◌}
use Rattle.std.proofs.Common.{get_or, map, arith, Option, None, Some}
use Rattle.std.specs.Prelude.{int_lt}
use Rattle.std.specs.List.{list_all}
use Rattle.std.proofs.lemmas.Bool.{false≢true}
use Rattle.std.proofs.lemmas.Int.{ints}
use Rattle.isl_math.specs.Divide.{floor_mod}
use Rattle.isl_math.proofs.Ring.{linear}
use Rattle.isl_tree.specs.declared.tree.Compare.{Compare}
use Rattle.isl_tree.specs.declared.tree.Compare.TheVariants.{Equal, Less, LessEqual, Greater, GreaterEqual, Differs}
use Rattle.isl_tree.specs.declared.tree.Formula.{Formula, Implies', Or', And', Not', True, False, Exists', Chain, Row_of-Formula}
use Rattle.isl_tree.specs.declared.tree.Formula.{end_of-Formula, more_of-Formula}
use Rattle.isl_tree.specs.Environment.{Environment}
use Rattle.isl_tree.specs.Term.{Term, term_value}
use Rattle.isl_tree.specs.Formula.{Link, Side, Compares, ChainHolds, FormulaHolds, AllHold}
use Rattle.isl_tree.specs.Literal.{is_among, BodyHolds}
use Rattle.isl_tree.specs.Known.{term_is_known, side_is_known, links_are_known, chain_is_known, formula_is_known, formulas_are_known}
use Rattle.isl_tree.specs.Known.{body_is_known}
use Rattle.isl_tree.specs.Plain.{is_linear, is_plain_compare, are_plain_links, is_plain_formula, are_plain_chains, body_is_plain}
use Rattle.isl_tree.specs.Plain.{Remainder, lone_remainder, is_zero, tells_equality, is_plain_remainder, is_plain_comparison}
use Rattle.isl_tree.specs.Plain.{are_plain_sides}
use Rattle.isl_plain.specs.Linear.{Place, Amount, amounts_of, turned, negated, multiplied_out, difference}
use Rattle.isl_plain.specs.Rows.{compared, divided, written_links, written_remainder, written_from, written_sides, written_formula}
use Rattle.isl_plain.specs.Rows.{written_chains, written_body}
use Rattle.isl_plain.proofs.AmountLaws.{total}
use Rattle.isl_plain.proofs.TermLaws.{Agrees, term_at, both_true, total-append, total-negated}
use Rattle.isl_plain.proofs.EntryLaws.{HoldsWritten, AllWritten, all_written_append}
use Rattle.isl_plain.proofs.RemainderLaws.{remainder_value, remainder_names, zero_value, equals_zero, differs_from_zero}

map-same : (ls : List Amount) → map (turned false) ls ≡ ls
map-same [] = refl
map-same (l ∷ ls) = ap (λ (r : List Amount). l ∷ r) (map-same ls)

-- what a difference comes to
difference_at : (n : ℕ) (xs : List ℤ) (place : Place) (greater less : Term)
    → total xs (difference n place greater less None) ≡ total xs (amounts_of n place greater) -ℤ total xs (amounts_of n place less)
difference_at n xs place greater less =
    let g = map (turned false) (amounts_of n place greater) in
    let l = negated (amounts_of n place less) in
    let all = total-append xs (g ++ l) [] in
    let sum = total-append xs g l in
    let same = ap (total xs) (map-same (amounts_of n place greater)) in
    let turned_less = total-negated xs (amounts_of n place less) in
    omega (arith, linear)

strict_at : (n : ℕ) (xs : List ℤ) (place : Place) (greater less : Term) → get_or xs n (pos 0) ≡ pos 1
    → total xs (difference n place greater less (Some n)) ≡ total xs (amounts_of n place greater) -ℤ total xs (amounts_of n place less) -ℤ
    pos 1
strict_at n xs place greater less one =
    let g = map (turned false) (amounts_of n place greater) in
    let l = negated (amounts_of n place less) in
    let all = total-append xs (g ++ l) ((n, neg_ℤ (pos 1)) ∷ []) in
    let sum = total-append xs g l in
    let same = ap (total xs) (map-same (amounts_of n place greater)) in
    let turned_less = total-negated xs (amounts_of n place less) in
    omega (arith, linear)

-- a comparison of two numbers is its row's
compare_at : (n : ℕ) (xs : List ℤ) (place : Place) (c : Compare) (left right : Term) (l r : ℤ) → get_or xs n (pos 0) ≡ pos 1
    → is_plain_compare c ≡ true → l ≡ total xs (amounts_of n place (multiplied_out left))
    → r ≡ total xs (amounts_of n place (multiplied_out right))
    → Compares c l r ↔ HoldsWritten n place xs (compared n c left right)
compare_at n xs place Differs left right l r one plain left_is right_is = absurd (false≢true plain)
compare_at n xs place Equal left right l r one plain left_is right_is =
    let e = difference_at n xs place (multiplied_out left) (multiplied_out right) in
    (λ h. omega (arith, linear), λ h. omega (arith, linear))
compare_at n xs place GreaterEqual left right l r one plain left_is right_is =
    let e = difference_at n xs place (multiplied_out left) (multiplied_out right) in
    (λ h. omega (arith, linear), λ h. omega (arith, linear))
compare_at n xs place LessEqual left right l r one plain left_is right_is =
    let e = difference_at n xs place (multiplied_out right) (multiplied_out left) in
    (λ h. omega (arith, linear), λ h. omega (arith, linear))
compare_at n xs place Greater left right l r one plain left_is right_is =
    let e = strict_at n xs place (multiplied_out left) (multiplied_out right) one in
    (λ h. omega (arith, linear), λ h. omega (arith, linear))
compare_at n xs place Less left right l r one plain left_is right_is =
    let e = strict_at n xs place (multiplied_out right) (multiplied_out left) one in
    (λ h. omega (arith, linear), λ h. omega (arith, linear))

pub is_above : (k : ℤ) → int_lt (pos 0) k ≡ true → pos 0 <ℤ k
is_above k e = omega (arith, ints)

module _ (n : ℕ) (xs : List ℤ) (place : Place) (env : Environment) (known : List (List ℕ)) (agrees : Agrees known n place env xs)
    (one : get_or xs n (pos 0) ≡ pos 1) where
  compare_row : (c : Compare) (left right : Term) → is_plain_compare c ≡ true → is_linear left ≡ true → is_linear right ≡ true
      → term_is_known known left ≡ true → term_is_known known right ≡ true
      → Compares c (term_value left env) (term_value right env) ↔ HoldsWritten n place xs (compared n c left right)
  compare_row c left right plain left_linear right_linear left_known right_known =
      compare_at n xs place c left right (term_value left env) (term_value right env) one plain
      (term_at n place known env xs left agrees one left_linear left_known)
      (term_at n place known env xs right agrees one right_linear right_known)

  -- each neighbouring pair of a chain has its row
  links_hold : (left : Term) (links : List Link) → is_linear left ≡ true → are_plain_links links ≡ true → term_is_known known left ≡ true
      → links_are_known known links ≡ true
      → ChainHolds (left ∷ []) links env ↔ AllWritten n place xs (written_links n left links)
  links_hold left [] left_linear plain left_known are_known = (λ h. h, λ h. h)
  links_hold left ((c, []) ∷ links) left_linear plain left_known are_known =
      absurd (false≢true (both_true (is_plain_compare c) false (both_true (is_plain_compare c && false) (are_plain_links links) plain).0).1)
  links_hold left ((c, (a ∷ b ∷ rights)) ∷ links) left_linear plain left_known are_known =
      absurd (false≢true (both_true (is_plain_compare c) false (both_true (is_plain_compare c && false) (are_plain_links links) plain).0).1)
  links_hold left ((c, (right ∷ [])) ∷ links) left_linear plain left_known are_known =
      let rest = both_true (is_plain_compare c && is_linear right) (are_plain_links links) plain in
      let here = both_true (is_plain_compare c) (is_linear right) rest.0 in
      let names = both_true (side_is_known known (right ∷ [])) (links_are_known known links) are_known in
      let right_known = (both_true (term_is_known known right) true names.0).0 in
      let row = compare_row c left right here.0 left_linear here.1 left_known right_known in
      let more = links_hold right links here.1 rest.1 right_known names.1 in
      (λ h. (row.0 h.0.0.0, more.0 h.1), λ h. (((row.1 h.0, tt), tt), more.1 h.1))

  -- a remainder that is compared with 0 has its row
  divided_row : (left right : Term) (r : Remainder) (c : Compare) → lone_remainder left ≡ Some r → is_linear r.0 ≡ true
      → int_lt (pos 0) r.1 ≡ true → tells_equality c ≡ true → is_zero right ≡ true → term_is_known known left ≡ true
      → Compares c (term_value left env) (term_value right env) ↔ HoldsWritten n place xs (divided r c)
  divided_row left right r c e linear' above tells zero left_known =
      let value = remainder_value left r env e in
      let names : term_is_known known r.0 ≡ true = ap (list_all (is_among known)) (sym (remainder_names left r e)) ∙ left_known in
      let form = term_at n place known env xs r.0 agrees one linear' names in
      let sum = difference_at n xs place (multiplied_out r.0) [] in
      let whole : total xs (difference n place (multiplied_out r.0) [] None) ≡ term_value r.0 env = by _ _ _ sum form in
      let positive = is_above r.1 above in
      let nothing = zero_value right env zero in
      step c tells positive whole value nothing
    where
      by : (d t v : ℤ) → d ≡ t -ℤ pos 0 → v ≡ t → d ≡ v
      by d t v f g = omega (arith, linear)

      step : (c : Compare) → tells_equality c ≡ true → pos 0 <ℤ r.1
          → total xs (difference n place (multiplied_out r.0) [] None) ≡ term_value r.0 env
          → term_value left env ≡ floor_mod (term_value r.0 env) r.1
          → term_value right env ≡ pos 0
          → Compares c (term_value left env) (term_value right env) ↔ HoldsWritten n place xs (divided r c)
      step Equal tells positive whole value nothing = equals_zero (term_value r.0 env) r.1 _ _ _ positive whole value nothing
      step Differs tells positive whole value nothing = differs_from_zero (term_value r.0 env) r.1 _ _ _ positive whole value nothing
      step Less tells positive whole value nothing = absurd (false≢true tells)
      step LessEqual tells positive whole value nothing = absurd (false≢true tells)
      step Greater tells positive whole value nothing = absurd (false≢true tells)
      step GreaterEqual tells positive whole value nothing = absurd (false≢true tells)

  remainder_holds : (left : Term) (r : Remainder) (links : List Link) → lone_remainder left ≡ Some r → is_plain_remainder r links ≡ true
      → term_is_known known left ≡ true
      → ChainHolds (left ∷ []) links env ↔ AllWritten n place xs (written_remainder r links)
  remainder_holds left r [] e plain left_known = absurd (false≢true plain)
  remainder_holds left r ((c, []) ∷ links) e plain left_known = absurd (false≢true plain)
  remainder_holds left r ((c, (a ∷ b ∷ rights)) ∷ links) e plain left_known = absurd (false≢true plain)
  remainder_holds left r ((c, (right ∷ [])) ∷ (link ∷ links)) e plain left_known = absurd (false≢true plain)
  remainder_holds left r ((c, (right ∷ [])) ∷ []) e plain left_known =
      let all = both_true ((is_linear r.0 && int_lt (pos 0) r.1) && tells_equality c) (is_zero right) plain in
      let three = both_true (is_linear r.0 && int_lt (pos 0) r.1) (tells_equality c) all.0 in
      let two = both_true (is_linear r.0) (int_lt (pos 0) r.1) three.0 in
      let row = divided_row left right r c e two.0 two.1 three.1 all.1 left_known in
      (λ h. (row.0 h.0.0.0, tt), λ h. (((row.1 h.0, tt), tt), tt))

  comparison_holds : (left : Term) (links : List Link) (o : Option Remainder) → lone_remainder left ≡ o
      → is_plain_comparison o left links ≡ true → term_is_known known left ≡ true → links_are_known known links ≡ true
      → ChainHolds (left ∷ []) links env ↔ AllWritten n place xs (written_from n o left links)
  comparison_holds left links None e plain left_known are_known =
      let here = both_true (is_linear left) (are_plain_links links) plain in links_hold left links here.0 here.1 left_known are_known
  comparison_holds left links (Some r) e plain left_known are_known = remainder_holds left r links e plain left_known

  chain_holds : (first : Side) (links : List Link) → are_plain_sides first links ≡ true → chain_is_known known first links ≡ true
      → ChainHolds first links env ↔ AllWritten n place xs (written_sides n first links)
  chain_holds [] links plain are_known = absurd (false≢true plain)
  chain_holds (a ∷ b ∷ rest) links plain are_known = absurd (false≢true plain)
  chain_holds (left ∷ []) links plain are_known =
      let names = both_true (side_is_known known (left ∷ [])) (links_are_known known links) are_known in
      comparison_holds left links (lone_remainder left) refl plain (both_true (term_is_known known left) true names.0).0 names.1

  chains_hold : (m : Count) (row : Row_of-Formula m) → are_plain_chains row ≡ true → formulas_are_known known row ≡ true
      → AllHold row env ↔ AllWritten n place xs (written_chains n row)
  chains_hold m end_of-Formula plain are_known = (λ h. h, λ h. h)
  chains_hold m (more_of-Formula (Chain first links) rest) plain are_known =
      let each = both_true (are_plain_sides first links) (are_plain_chains rest) plain in
      let names = both_true (chain_is_known known first links) (formulas_are_known known rest) are_known in
      let chain = chain_holds first links each.0 names.0 in
      let more = chains_hold _ rest each.1 names.1 in
      let both = all_written_append n place xs (written_sides n first links) (written_chains n rest) in
      (λ h. both.1 (chain.0 h.0, more.0 h.1), λ h. let parts = both.0 h in (chain.1 parts.0, more.1 parts.1))
  chains_hold m (more_of-Formula (Implies' s row) rest) plain are_known = absurd (false≢true plain)
  chains_hold m (more_of-Formula (Or' s row) rest) plain are_known = absurd (false≢true plain)
  chains_hold m (more_of-Formula (And' s row) rest) plain are_known = absurd (false≢true plain)
  chains_hold m (more_of-Formula (Not' s row) rest) plain are_known = absurd (false≢true plain)
  chains_hold m (more_of-Formula True rest) plain are_known = absurd (false≢true plain)
  chains_hold m (more_of-Formula False rest) plain are_known = absurd (false≢true plain)
  chains_hold m (more_of-Formula (Exists' binders s row) rest) plain are_known = absurd (false≢true plain)

  formula_holds : (f : Formula) → is_plain_formula f ≡ true → formula_is_known known f ≡ true
      → FormulaHolds f env ↔ AllWritten n place xs (written_formula n f)
  formula_holds (Chain first links) plain are_known = chain_holds first links plain are_known
  formula_holds (And' s row) plain are_known = chains_hold _ row plain are_known
  formula_holds (Implies' s row) plain are_known = absurd (false≢true plain)
  formula_holds (Or' s row) plain are_known = absurd (false≢true plain)
  formula_holds (Not' s row) plain are_known = absurd (false≢true plain)
  formula_holds True plain are_known = absurd (false≢true plain)
  formula_holds False plain are_known = absurd (false≢true plain)
  formula_holds (Exists' binders s row) plain are_known = absurd (false≢true plain)

  -- a plain body holds exactly where its rows do
  pub body_holds : (body : Option Formula) → body_is_plain body ≡ true → body_is_known known body ≡ true
      → BodyHolds body env ↔ AllWritten n place xs (written_body n body)
  body_holds None plain are_known = (λ h. h, λ h. h)
  body_holds (Some f) plain are_known = formula_holds f plain are_known
