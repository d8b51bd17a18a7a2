-- Forms: zeros behind coefficients, columns, sums, and what is the same.
use Rattle.std.proofs.Common.{◌≡◌, ◌∙◌, refl, sym, ap, subst, arith, ℕ, zero, suc, ◌+◌, ◌-◌, ◌≤◌, ℤ, pos, ◌+ℤ◌, ◌*ℤ◌, List, [], ◌∷◌, ◌++◌}
use Rattle.std.proofs.Common.{length, get_or, take, replicate, length-append, Bool, true, false, ◌&&◌}
use Rattle.std.specs.List.{All, list_all}
use Rattle.std.proofs.lemmas.Bool.{false≢true}
use Rattle.std.proofs.lemmas.Bool.Decides.{Decides-int_eq}
use Rattle.std.proofs.lemmas.List.{append-nil, length-replicate, take_all}
use Rattle.std.proofs.lemmas.List.Elements.{All-append, All-replicate, All-nil, All-cons}
use Rattle.isl_math.specs.Dot.{dot, weighted_sum}
use Rattle.isl_math.proofs.Ring.{expand, linear}
use Rattle.isl_math.proofs.ColumnLaws.{dot-weighted_sum, length-weighted_sum}
use Rattle.isl_meter.specs.Gauge.{Gauge, IsWithin, IsCutBy, IsCutUpTo}
use Rattle.isl_meter.specs.declared.Cut.{Cut}
use Rattle.isl_meter.proofs.LimitLemmas.{IsWithin-zero, IsWithin-small}
use Rattle.isl_affine.specs.declared.form.Form.{Form}
use Rattle.isl_affine.specs.Form.{padded, is_nil, AreSame, IsColumn, IsFormWithin, IsSumOf}

-- ---- the number 1
pub ruleset ones = (IsWithin-small)

-- ---- zeros behind coefficients
replicate_more : (n : ℕ) (z : ℤ) → replicate n z ++ z ∷ [] ≡ replicate (suc n) z
replicate_more zero z = refl
replicate_more (suc n) z = ap (λ (l : List ℤ). z ∷ l) (replicate_more n z)

pub append_again : (xs ys zs : List ℤ) → (xs ++ ys) ++ zs ≡ xs ++ (ys ++ zs)
append_again [] ys zs = refl
append_again (x ∷ xs) ys zs = ap (λ (l : List ℤ). x ∷ l) (append_again xs ys zs)

pub pad_start : (cs : List ℤ) → cs ≡ cs ++ replicate 0 (pos 0)
pad_start cs = sym (append-nil cs)

pub pad_more : (old cs : List ℤ) (i : ℕ) → old ≡ cs ++ replicate i (pos 0) → old ++ pos 0 ∷ [] ≡ cs ++ replicate (i + 1) (pos 0)
pad_more old cs i is =
    let next : suc i ≡ i + 1 = omega arith in
    ap (λ (l : List ℤ). l ++ pos 0 ∷ []) is ∙ append_again cs (replicate i (pos 0)) (pos 0 ∷ [])
    ∙ ap (λ (l : List ℤ). cs ++ l) (replicate_more i (pos 0)) ∙ ap (λ (n : ℕ). cs ++ replicate n (pos 0)) next

pub ruleset pads = (pad_start, pad_more)

dot-zeros_behind : (cs : List ℤ) (n : ℕ) (xs : List ℤ) → dot (cs ++ replicate n (pos 0)) xs ≡ dot cs xs
dot-zeros_behind [] zero xs = refl
dot-zeros_behind [] (suc n) [] = refl
dot-zeros_behind [] (suc n) (x ∷ xs) = let e = dot-zeros_behind [] n xs in omega (arith, linear)
dot-zeros_behind (c ∷ cs) n [] = refl
dot-zeros_behind (c ∷ cs) n (x ∷ xs) = ap (λ (z : ℤ). c *ℤ x +ℤ z) (dot-zeros_behind cs n xs)

pub dot-padded : (n : ℕ) (cs xs : List ℤ) → dot (padded n cs) xs ≡ dot cs xs
dot-padded n cs xs = dot-zeros_behind cs (n - length cs) xs

pub length-padded : (n : ℕ) (cs : List ℤ) → length (padded n cs) ≡ length cs + (n - length cs)
length-padded n cs =
    length-append cs (replicate (n - length cs) (pos 0)) ∙ ap (λ (m : ℕ). length cs + m) (length-replicate (n - length cs) (pos 0))

pub length-padded_up : (n : ℕ) (cs : List ℤ) → length cs ≤ n → length (padded n cs) ≡ n
length-padded_up n cs le = let e = length-padded n cs in omega arith

pub padded_within : (g : Gauge) (n : ℕ) (cs : List ℤ) → All (IsWithin g) cs → All (IsWithin g) (padded n cs)
padded_within g n cs all =
    All-append (IsWithin g) cs (replicate (n - length cs) (pos 0)) all (All-replicate (IsWithin g) (n - length cs) (pos 0) (IsWithin-zero g))

-- ---- a column
dot-unit : (n : ℕ) (z : ℤ) (xs : List ℤ) → z ≡ pos 1 → dot (replicate n (pos 0) ++ z ∷ []) xs ≡ get_or xs n (pos 0)
dot-unit zero z [] e = refl
dot-unit zero z (x ∷ xs) e = by z x e
  where
    by : (z x : ℤ) → z ≡ pos 1 → z *ℤ x +ℤ pos 0 ≡ x
    by z x e = rw e (simp expand (omega (arith, linear)))
dot-unit (suc n) z [] e = refl
dot-unit (suc n) z (x ∷ xs) e = let h = dot-unit n z xs e in omega (arith, linear)

pub column_form : (g : Gauge) (n : ℕ) (cs : List ℤ) (z : ℤ) → cs ≡ replicate n (pos 0) ++ z ∷ [] → z ≡ pos 1 → IsWithin g z
    → IsColumn g n (record { coefs = cs; constant = pos 0 })
column_form g n cs z is one small = rw is (record {
  within = record {
    coefs = All-append (IsWithin g) (replicate n (pos 0)) (z ∷ []) (All-replicate (IsWithin g) n (pos 0) (IsWithin-zero g))
        (All-cons (IsWithin g) z [] small (All-nil (IsWithin g)));
    constant = IsWithin-zero g;
  };
  width = length-append (replicate n (pos 0)) (z ∷ []) ∙ ap (λ (m : ℕ). m + 1) (length-replicate n (pos 0));
  number = λ xs. let e = dot-unit n z xs one in omega (arith, linear);
})

-- ---- sums
pub pad_within : (g : Gauge) (n : ℕ) (cs ds : List ℤ) → ds ≡ padded n cs → All (IsWithin g) cs → All (IsWithin g) ds
pad_within g n cs ds is all = subst (λ (l : List ℤ). All (IsWithin g) l) (sym is) (padded_within g n cs all)

pub pad_lengths : (left right l r : List ℤ) → l ≡ padded (length right) left → r ≡ padded (length l) right → length l ≡ length r
pad_lengths left right l r is then_is =
    let a = ap length is ∙ length-padded (length right) left in
    let b = ap length then_is ∙ length-padded (length l) right in
    omega arith

pub sum_made : (g h : Gauge) (left right : Form) (m : ℤ) (l r cs : List ℤ) (z : ℤ) → IsFormWithin g left → IsFormWithin g right
    → l ≡ padded (length right.coefs) left.coefs → r ≡ padded (length l) right.coefs → cs ≡ weighted_sum (pos 1) l m r
    → All (IsWithin g) cs → z ≡ pos 1 *ℤ left.constant +ℤ m *ℤ right.constant → IsWithin g z → h ≡ g
    → IsSumOf g h left m right (record { coefs = cs; constant = z })
sum_made g h left right m l r cs z left_within right_within is then_is sums all sum small same =
    let long = pad_lengths left.coefs right.coefs l r is then_is in
    let l_long = ap length is ∙ length-padded (length right.coefs) left.coefs in
    let cs_long = ap length sums ∙ length-weighted_sum (pos 1) l m r long in
    record {
      within = record { coefs = all; constant = small };
      width = λ columns a b. omega arith;
      number = λ xs.
          by (dot cs xs) (dot l xs) (dot r xs) (dot left.coefs xs) (dot right.coefs xs) left.constant right.constant m z
          (ap (λ (k : List ℤ). dot k xs) sums ∙ dot-weighted_sum (pos 1) l m r xs long)
          (ap (λ (k : List ℤ). dot k xs) is ∙ dot-padded (length right.coefs) left.coefs xs)
          (ap (λ (k : List ℤ). dot k xs) then_is ∙ dot-padded (length l) right.coefs xs) sum;
      meter = same;
    }
  where
    by : (d dl dr a b c e m z : ℤ) → d ≡ pos 1 *ℤ dl +ℤ m *ℤ dr → dl ≡ a → dr ≡ b → z ≡ pos 1 *ℤ c +ℤ m *ℤ e
        → d +ℤ z ≡ a +ℤ c +ℤ m *ℤ (b +ℤ e)
    by d dl dr a b c e m z p q r s = rw (p, q, r, s) (simp expand (omega (arith, linear)))

pub cut_by : (z : ℤ) (g h : Gauge) (cut : Cut) → IsCutUpTo z g h cut → IsCutBy g h cut
cut_by z g h cut up = up.by

pub ruleset sums = (pad_within, pad_lengths, sum_made, cut_by)

-- ---- the same but for zeros behind
dot-take_next : (cs xs : List ℤ) (i : ℕ) → dot (take (suc i) cs) xs ≡ dot (take i cs) xs +ℤ get_or cs i (pos 0) *ℤ get_or xs i (pos 0)
dot-take_next [] xs zero = by (get_or xs zero (pos 0))
  where
    by : (x : ℤ) → pos 0 ≡ pos 0 +ℤ pos 0 *ℤ x
    by x = simp expand (omega (arith, linear))
dot-take_next [] xs (suc i) = by (get_or xs (suc i) (pos 0))
  where
    by : (x : ℤ) → pos 0 ≡ pos 0 +ℤ pos 0 *ℤ x
    by x = simp expand (omega (arith, linear))
dot-take_next (c ∷ cs) [] zero = by c
  where
    by : (c : ℤ) → pos 0 ≡ pos 0 +ℤ c *ℤ pos 0
    by c = simp expand (omega (arith, linear))
dot-take_next (c ∷ cs) [] (suc i) = by (get_or cs i (pos 0))
  where
    by : (c : ℤ) → pos 0 ≡ pos 0 +ℤ c *ℤ pos 0
    by c = simp expand (omega (arith, linear))
dot-take_next (c ∷ cs) (x ∷ xs) zero = omega (arith, linear)
dot-take_next (c ∷ cs) (x ∷ xs) (suc i) = omega (arith, linear, dot-take_next cs xs i)

pub same_start : (left right : List ℤ) → AreSame (take 0 left) (take 0 right)
same_start left right = record { numbers = λ xs. refl }

pub same_more : (left right : List ℤ) (i : ℕ) (a b : ℤ) → a ≡ get_or left i (pos 0) → b ≡ get_or right i (pos 0) → a ≡ b
    → AreSame (take i left) (take i right) → AreSame (take (i + 1) left) (take (i + 1) right)
same_more left right i a b is then_is same before =
    let next : suc i ≡ i + 1 = omega arith in
    subst (λ (n : ℕ). AreSame (take n left) (take n right)) next (record {
      numbers = λ xs.
          dot-take_next left xs i
          ∙ by (dot (take i left) xs) (dot (take i right) xs) (get_or left i (pos 0)) (get_or right i (pos 0)) (get_or xs i (pos 0))
          (before.numbers xs) (sym is ∙ same ∙ then_is)
          ∙ sym (dot-take_next right xs i);
    })
  where
    by : (d e a b x : ℤ) → d ≡ e → a ≡ b → d +ℤ a *ℤ x ≡ e +ℤ b *ℤ x
    by d e a b x p q = rw (p, q) refl

pub same_end : (left right : List ℤ) (n : ℕ) → length left ≤ n → length right ≤ n → AreSame (take n left) (take n right) → AreSame left right
same_end left right n a b same = record {
  numbers = λ xs.
      ap (λ (l : List ℤ). dot l xs) (sym (take_all n left a)) ∙ same.numbers xs ∙ ap (λ (l : List ℤ). dot l xs) (take_all n right b);
}

pub ruleset sames = (same_start, same_more, same_end)

-- ---- numbers
and_split : (a b : Bool) → (a && b) ≡ true → (a ≡ true) × (b ≡ true)
and_split true b e = (refl, e)
and_split false b e = absurd (false≢true e)

pub dot-nils : (cs xs : List ℤ) → list_all is_nil cs ≡ true → dot cs xs ≡ pos 0
dot-nils [] xs e = refl
dot-nils (c ∷ cs) [] e = refl
dot-nils (c ∷ cs) (x ∷ xs) e =
    let parts = and_split (is_nil c) (list_all is_nil cs) e in
    let zero_is : c ≡ pos 0 = (Decides-int_eq c (pos 0)).0 parts.0 in
    by c x (dot cs xs) zero_is (dot-nils cs xs parts.1)
  where
    by : (c x d : ℤ) → c ≡ pos 0 → d ≡ pos 0 → c *ℤ x +ℤ d ≡ pos 0
    by c x d p q = rw (p, q) (simp expand (omega (arith, linear)))
