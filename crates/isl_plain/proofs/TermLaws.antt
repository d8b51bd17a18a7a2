-- The value of a linear term at a point, from the amounts that it adds to a row.
use mathlib.Core.Former.{Count}
use Rattle.std.proofs.Common.{◌≡◌, ◌∙◌, refl, sym, ap, ℕ, ◌<◌, ℤ, pos, neg_ℤ, ◌+ℤ◌, ◌*ℤ◌, Bool, true, false, ◌&&◌, if◌then◌else◌}
use Rattle.std.proofs.Common.{List, [], ◌∷◌, ◌++◌, get_or, arith}
use Rattle.std.proofs.lemmas.Bool.{false≢true}
use Rattle.std.specs.List.{list_all}
use Rattle.isl_math.proofs.Ring.{expand, linear}
use Rattle.isl_tree.specs.declared.tree.Factor.{Factor, Name, Inner', Floor', Ceil', Row_of-Signed, end_of-Signed, more_of-Signed}
use Rattle.isl_tree.specs.declared.tree.Signed.{Signed, Signed'}
use Rattle.isl_tree.specs.declared.tree.Product.{Product', None', Some'}
use Rattle.isl_tree.specs.Environment.{Environment, value_in}
use Rattle.isl_tree.specs.Term.{Term, signed_value, factor_value, sum_value, term_value, product_of}
use Rattle.isl_tree.specs.Literal.{is_among}
use Rattle.isl_tree.specs.Known.{signed_names, factor_names, sum_names, term_names}
use Rattle.isl_tree.specs.Plain.{is_linear_part, is_linear_factor, are_linear_parts, is_linear}
use Rattle.isl_plain.specs.Linear.{Place, Amount, amount_of, amounts_of, negated, signed_product, is_taken, part_times, factor_times}
use Rattle.isl_plain.specs.Linear.{row_times, term_times, multiplied_out}
use Rattle.isl_plain.proofs.AmountLaws.{total}

-- what an `and` of tests says
pub both_true : (a b : Bool) → (a && b) ≡ true → (a ≡ true) × (b ≡ true)
both_true true b e = (refl, e)
both_true false b e = absurd (false≢true e)

-- at this point each of the names stands for its column's number
pub record Agrees (known : List (List ℕ)) (n : ℕ) (place : Place) (env : Environment) (xs : List ℤ) : Type 0 where
  pub below : (name : List ℕ) → is_among known name ≡ true → place name < n
  pub value : (name : List ℕ) → is_among known name ≡ true → value_in env name ≡ get_or xs (place name) (pos 0)

pub all_append : (test : List ℕ → Bool) (xs ys : List (List ℕ)) → list_all test (xs ++ ys) ≡ true
    → (list_all test xs ≡ true) × (list_all test ys ≡ true)
all_append test [] ys e = (refl, e)
all_append test (x ∷ xs) ys e =
    let first = both_true (test x) (list_all test (xs ++ ys)) e in
    let more = all_append test xs ys first.1 in
    (rw (first.0, more.0) refl, more.1)

pub total-append : (xs : List ℤ) (ls rs : List Amount) → total xs (ls ++ rs) ≡ total xs ls +ℤ total xs rs
total-append xs [] rs = omega (arith, linear)
total-append xs (a ∷ ls) rs = omega (arith, linear, total-append xs ls rs)

pub total-negated : (xs : List ℤ) (ls : List Amount) → total xs (negated ls) ≡ neg_ℤ (total xs ls)
total-negated xs [] = refl
total-negated xs (a ∷ ls) = by a.1 (get_or xs a.0 (pos 0)) (total xs (negated ls)) (total xs ls) (total-negated xs ls)
  where
    by : (z x s t : ℤ) → s ≡ neg_ℤ t → neg_ℤ z *ℤ x +ℤ s ≡ neg_ℤ (z *ℤ x +ℤ t)
    by z x s t e = simp expand (omega (arith, linear))

-- ---- multiplied out

product-append : (ns ms : List ℤ) → product_of (ns ++ ms) ≡ product_of ns *ℤ product_of ms
product-append [] ms = by (product_of ms)
  where
    by : (p : ℤ) → p ≡ pos 1 *ℤ p
    by p = omega (arith, linear)
product-append (n ∷ ns) ms = ap (λ z. n *ℤ z) (product-append ns ms) ∙ by n (product_of ns) (product_of ms)
  where
    by : (a b c : ℤ) → a *ℤ (b *ℤ c) ≡ a *ℤ b *ℤ c
    by a b c = simp expand (omega (arith, linear))

both_negative : (w p q v : ℤ) → w ≡ p *ℤ q → w *ℤ v ≡ neg_ℤ p *ℤ neg_ℤ (q *ℤ v)
both_negative w p q v e = rw e (simp expand (omega (arith, linear)))

first_negative : (w p q v : ℤ) → w ≡ p *ℤ q → neg_ℤ w *ℤ v ≡ neg_ℤ p *ℤ (q *ℤ v)
first_negative w p q v e = rw e (simp expand (omega (arith, linear)))

second_negative : (w p q v : ℤ) → w ≡ p *ℤ q → neg_ℤ w *ℤ v ≡ p *ℤ neg_ℤ (q *ℤ v)
second_negative w p q v e = rw e (simp expand (omega (arith, linear)))

none_negative : (w p q v : ℤ) → w ≡ p *ℤ q → w *ℤ v ≡ p *ℤ (q *ℤ v)
none_negative w p q v e = rw e (simp expand (omega (arith, linear)))

-- signs and numbers before a part, at the part's number
times_at : (negative sign : Bool) (ns ms : List ℤ) (v : ℤ) → signed_product (is_taken negative sign) (ns ++ ms) *ℤ v
    ≡ signed_product negative ns *ℤ (if sign then neg_ℤ (product_of ms *ℤ v) else product_of ms *ℤ v)
times_at negative sign ns ms v = by negative sign (product_of (ns ++ ms)) (product_of ns) (product_of ms) (product-append ns ms)
  where
    by : (negative sign : Bool) (w p q : ℤ) → w ≡ p *ℤ q
        → (if is_taken negative sign then neg_ℤ w else w) *ℤ v
        ≡ (if negative then neg_ℤ p else p) *ℤ (if sign then neg_ℤ (q *ℤ v) else q *ℤ v)
    by true true w p q e = both_negative w p q v e
    by true false w p q e = first_negative w p q v e
    by false true w p q e = second_negative w p q v e
    by false false w p q e = none_negative w p q v e

amounts-append : (n : ℕ) (place : Place) (xs ys : Term) → amounts_of n place (xs ++ ys) ≡ amounts_of n place xs ++ amounts_of n place ys
amounts-append n place [] ys = refl
amounts-append n place (x ∷ xs) ys = ap (λ (ls : List Amount). amount_of n place x ∷ ls) (amounts-append n place xs ys)

total_both : (n : ℕ) (place : Place) (xs : List ℤ) (ts us : Term)
    → total xs (amounts_of n place (ts ++ us)) ≡ total xs (amounts_of n place ts) +ℤ total xs (amounts_of n place us)
total_both n place xs ts us =
    ap (total xs) (amounts-append n place ts us) ∙ total-append xs (amounts_of n place ts) (amounts_of n place us)

sum_times : (p a b s t : ℤ) → a ≡ p *ℤ s → b ≡ p *ℤ t → a +ℤ b ≡ p *ℤ (s +ℤ t)
sum_times p a b s t left right = rw left (rw right (simp expand (omega (arith, linear))))

leaf : (a x v : ℤ) → x ≡ v → a *ℤ x +ℤ pos 0 ≡ a *ℤ v
leaf a x v e = rw e (omega (arith, linear))

nothing : (p : ℤ) → pos 0 ≡ p *ℤ pos 0
nothing p = omega (arith, linear)

module _ (n : ℕ) (place : Place) (known : List (List ℕ)) (env : Environment) (xs : List ℤ) (agrees : Agrees known n place env xs)
    (one : get_or xs n (pos 0) ≡ pos 1) where
  -- what the amounts of terms come to
  abbrev Total : Term → ℤ
  Total term = total xs (amounts_of n place term)

  mutual
    part_is : (negative : Bool) (ns : List ℤ) (part : Signed) → is_linear_part part ≡ true
        → list_all (is_among known) (signed_names part) ≡ true
        → Total (part_times negative ns part) ≡ signed_product negative ns *ℤ signed_value part env
    part_is negative ns (Signed' sign (Product' ms None')) is_linear known_all =
        leaf (signed_product (is_taken negative sign) (ns ++ ms)) (get_or xs n (pos 0)) (pos 1) one ∙ times_at negative sign ns ms (pos 1)
    part_is negative ns (Signed' sign (Product' ms (Some' factor []))) is_linear known_all =
        factor_is (is_taken negative sign) (ns ++ ms) factor is_linear known_all ∙ times_at negative sign ns ms (factor_value factor env)
    part_is negative ns (Signed' sign (Product' ms (Some' factor (k ∷ ks)))) is_linear known_all = absurd (false≢true is_linear)

    factor_is : (negative : Bool) (ns : List ℤ) (factor : Factor) → is_linear_factor factor ≡ true
        → list_all (is_among known) (factor_names factor) ≡ true
        → Total (factor_times negative ns factor) ≡ signed_product negative ns *ℤ factor_value factor env
    factor_is negative ns (Name name) is_linear known_all =
        leaf (signed_product negative ns) (get_or xs (place name) (pos 0)) (value_in env name)
        (sym (agrees.value name (both_true (is_among known name) true known_all).0))
    factor_is negative ns (Inner' s row) is_linear known_all = row_is _ negative ns row is_linear known_all
    factor_is negative ns (Floor' s row k) is_linear known_all = absurd (false≢true is_linear)
    factor_is negative ns (Ceil' s row k) is_linear known_all = absurd (false≢true is_linear)

    row_is : (m : Count) (negative : Bool) (ns : List ℤ) (row : Row_of-Signed m) → are_linear_parts row ≡ true
        → list_all (is_among known) (sum_names row) ≡ true
        → Total (row_times negative ns row) ≡ signed_product negative ns *ℤ sum_value row env
    row_is m negative ns end_of-Signed is_linear known_all = nothing (signed_product negative ns)
    row_is m negative ns (more_of-Signed part rest) is_linear known_all =
        let plain = both_true (is_linear_part part) (are_linear_parts rest) is_linear in
        let names = all_append (is_among known) (signed_names part) (sum_names rest) known_all in
        total_both n place xs (part_times negative ns part) (row_times negative ns rest)
        ∙ sum_times (signed_product negative ns) (Total (part_times negative ns part)) (Total (row_times negative ns rest))
        (signed_value part env) (sum_value rest env) (part_is negative ns part plain.0 names.0) (row_is _ negative ns rest plain.1 names.1)

  term_is : (negative : Bool) (ns : List ℤ) (term : Term) → is_linear term ≡ true
      → list_all (is_among known) (term_names term) ≡ true
      → Total (term_times negative ns term) ≡ signed_product negative ns *ℤ term_value term env
  term_is negative ns [] is_linear known_all = nothing (signed_product negative ns)
  term_is negative ns (part ∷ parts) is_linear known_all =
      let plain = both_true (is_linear_part part) (list_all is_linear_part parts) is_linear in
      let names = all_append (is_among known) (signed_names part) (term_names parts) known_all in
      total_both n place xs (part_times negative ns part) (term_times negative ns parts)
      ∙ sum_times (signed_product negative ns) (Total (part_times negative ns part)) (Total (term_times negative ns parts))
      (signed_value part env) (term_value parts env) (part_is negative ns part plain.0 names.0) (term_is negative ns parts plain.1 names.1)

-- the value of a linear term of known names is what its amounts come to, multiplied out
pub term_at : (n : ℕ) (place : Place) (known : List (List ℕ)) (env : Environment) (xs : List ℤ) (term : Term) → Agrees known n place env xs
    → get_or xs n (pos 0) ≡ pos 1 → is_linear term ≡ true → list_all (is_among known) (term_names term) ≡ true
    → term_value term env ≡ total xs (amounts_of n place (multiplied_out term))
term_at n place known env xs term agrees one is_linear known_all =
    by (term_value term env) _ (term_is n place known env xs agrees one false [] term is_linear known_all)
  where
    by : (v t : ℤ) → t ≡ pos 1 *ℤ v → v ≡ t
    by v t e = omega (arith, linear)
