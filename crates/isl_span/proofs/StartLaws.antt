-- The equations of one point, with which a hull begins.
use Rattle.std.proofs.Common.{◌≡◌, ◌≢◌, ◌∙◌, refl, sym, ap, arith, ℕ, zero, suc, ◌+◌, ◌^◌, ◌<◌, ◌≤◌, ℤ, pos, neg_ℤ, ◌+ℤ◌, ◌-ℤ◌, ◌*ℤ◌, ◌<ℤ◌}
use Rattle.std.proofs.Common.{List, [], ◌∷◌, ◌++◌, length, get_or, set, take, drop, replicate}
use Rattle.std.specs.List.{All, AllByRecursion}
use Rattle.std.proofs.lemmas.List.{get_or-replicate, get_or-set_same, get_or-set_other, length-replicate, length-set, length-take-le}
use Rattle.std.proofs.lemmas.List.{take_more, take_all, drop_all}
use Rattle.std.proofs.lemmas.List.Elements.{All-cons, All-head, All-nil, All-replicate, All-set, All-tail}
use Rattle.isl_math.specs.Dot.{dot}
use Rattle.isl_math.specs.Gcd.{content}
use Rattle.isl_math.proofs.DivideLaws.{Divides-same, one-Divides}
use Rattle.isl_math.proofs.DotLaws.{dot-nil_right, dot-set_left, dot-zeros}
use Rattle.isl_math.proofs.Ring.{expand, linear}
use Rattle.isl_meter.specs.Gauge.{Gauge, IsWithin}
use Rattle.isl_piece.specs.Normal.{Kept, normal_row}
use Rattle.isl_piece.specs.Numbers.{lead}
use Rattle.isl_piece.specs.Row.{value_at}
use Rattle.isl_piece.proofs.ContentLaws.{content_is}
use Rattle.isl_piece.proofs.NormalSteps.{upright_stays, zero_kept}
use Rattle.isl_piece.proofs.NumberLaws.{divided_one, quotient_one}
use Rattle.isl_span.specs.Forms.{number_row, number_rows}
use Rattle.isl_span.specs.Forms.{IsForm, forms_of}
use Rattle.isl_span.specs.Points.{AreFormsFor}
use Rattle.isl_span.specs.Spanned.{HaveOwn, Vanish, VanishesAt, total}

-- ---- the form that is one column
abbrev unit_form : ℕ → ℕ → List ℤ
unit_form columns column = set (replicate columns (pos 0)) column (pos 1)

unit_long : (n c : ℕ) → length (unit_form n c) ≡ n
unit_long n c = length-set (replicate n (pos 0)) c (pos 1) ∙ length-replicate n (pos 0)

unit_here : (n c : ℕ) → c < n → get_or (unit_form n c) c (pos 0) ≡ pos 1
unit_here n c low = get_or-set_same (replicate n (pos 0)) c (pos 1) (pos 0) (let l = length-replicate n (pos 0) in omega arith)

unit_content : (n c : ℕ) → c < n → content (unit_form n c) ≡ pos 1
unit_content n c low = content_is (unit_form n c) (pos 1) (record {
  not_negative = omega (arith, linear);
  common = λ i d l. one-Divides (get_or (unit_form n c) i d);
  greatest = λ d all. Divides-same d (get_or (unit_form n c) c (pos 0)) (pos 1) (unit_here n c low)
      (all c (pos 0) (let l = unit_long n c in omega arith));
})

unit_lead : (n c : ℕ) → c < n → lead (unit_form n c) ≡ pos 1
unit_lead zero c low = absurd (omega arith)
unit_lead (suc n) zero low = refl
unit_lead (suc n) (suc c) low = unit_lead n c (omega arith)

unit_dot : (n c : ℕ) (xs : List ℤ) → c < n → dot (unit_form n c) xs ≡ get_or xs c (pos 0)
unit_dot n c xs low =
    let zeros = replicate n (pos 0) in
    by (dot (unit_form n c) xs) (dot zeros xs) (get_or zeros c (pos 0)) (get_or xs c (pos 0))
    (dot-set_left zeros xs c (pos 1) (let l = length-replicate n (pos 0) in omega arith)) (dot-zeros n xs)
    (get_or-replicate n c (pos 0) (pos 0) low)
  where
    by : (v d g y : ℤ) → v ≡ d +ℤ (pos 1 -ℤ g) *ℤ y → d ≡ pos 0 → g ≡ pos 0 → v ≡ y
    by v d g y e z h = let e' = simp expand at e in let m = simp expand at (ap (λ w. w *ℤ y) h) in omega (arith, linear)

-- ---- one equation
module _ (n c : ℕ) (z : ℤ) (low : c < n) where
  number_value : (xs : List ℤ) → value_at (number_row n c z) xs ≡ get_or xs c (pos 0) -ℤ z
  number_value xs = by (dot (unit_form n c) xs) (get_or xs c (pos 0)) (unit_dot n c xs low)
    where
      by : (v y : ℤ) → v ≡ y → v +ℤ neg_ℤ z ≡ y -ℤ z
      by v y e = omega (arith, linear)

  number_zero : (xs : List ℤ) → get_or xs c (pos 0) ≡ z → value_at (number_row n c z) xs ≡ pos 0
  number_zero xs e = number_value xs ∙ by (get_or xs c (pos 0)) e
    where
      by : (y : ℤ) → y ≡ z → y -ℤ z ≡ pos 0
      by y e = omega (arith, linear)

  number_settled : normal_row (number_row n c z) ≡ Kept (number_row n c z)
  number_settled =
      let one = unit_lead n c low in
      let r = number_row n c z in
      let upright = upright_stays r refl refl (not_zero (lead r.coefs) one) (not_negative (lead r.coefs) one) in
      let divides = one-Divides (neg_ℤ z) in
      zero_kept (unit_form n c) (neg_ℤ z) (pos 1) r (sym (unit_content n c low)) (λ e. absurd (omega (arith, linear))) divides
      (rw (divided_one (unit_form n c), quotient_one (neg_ℤ z)) upright)
    where
      not_zero : (x : ℤ) → x ≡ pos 1 → x ≢ pos 0
      not_zero x e f = omega (arith, linear)

      not_negative : (x : ℤ) → x ≡ pos 1 → ¬ (x <ℤ pos 0)
      not_negative x e f = omega (arith, linear)

  number_form : (g : Gauge) → 1 < 2 ^ g.bits → IsWithin g z → IsForm g n (number_row n c z)
  number_form g one within = record {
    kind = refl;
    formed = record { width = unit_long n c; modulus = refl };
    within = record {
      coefs = All-set (IsWithin g) (replicate n (pos 0)) c (pos 1) one (All-replicate (IsWithin g) n (pos 0) (omega arith));
      constant = omega (arith, linear, within);
      k = one;
    };
    normal = number_settled;
  }

-- ---- a loop's step
numbers_push : (n first : ℕ) (zs : List ℤ) (z : ℤ)
    → number_rows n first (zs ++ z ∷ []) ≡ number_rows n first zs ++ number_row n (first + length zs) z ∷ []
numbers_push n first [] z = ap (λ c. number_row n c z ∷ []) (omega arith)
numbers_push n first (y ∷ zs) z =
    ap (λ rows. number_row n first y ∷ rows)
    (numbers_push n (suc first) zs z ∙ ap (λ c. number_rows n (suc first) zs ++ number_row n c z ∷ []) (omega arith))

pub numbers_more : (n : ℕ) (point : List ℤ) (i : ℕ) (z : ℤ) → i < length point → get_or point i z ≡ z
    → number_rows n 0 (take (i + 1) point) ≡ number_rows n 0 (take i point) ++ number_row n i z ∷ []
numbers_more n point i z low at =
    ap (number_rows n 0) (take_more point i z low ∙ ap (λ y. take i point ++ y ∷ []) at) ∙ numbers_push n 0 (take i point) z
    ∙ ap (λ c. number_rows n 0 (take i point) ++ number_row n c z ∷ [])
    (let l = length-take-le i point (omega arith) in omega (arith, l))

-- ---- all of them
numbers_long : (n first : ℕ) (zs : List ℤ) → length (number_rows n first zs) ≡ length zs
numbers_long n first [] = refl
numbers_long n first (z ∷ zs) = ap suc (numbers_long n (suc first) zs)

pub numbers_forms : (g : Gauge) → 1 < 2 ^ g.bits → (n first : ℕ) (zs : List ℤ) → first + length zs ≤ n → All (IsWithin g) zs
    → All (IsForm g n) (number_rows n first zs)
numbers_forms g one n first [] room all = All-nil (IsForm g n)
numbers_forms g one n first (z ∷ zs) room all =
    All-cons (IsForm g n) (number_row n first z) (number_rows n (suc first) zs)
    (number_form n first z (omega arith) g one (All-head (IsWithin g) z zs all))
    (numbers_forms g one n (suc first) zs (omega arith) (All-tail (IsWithin g) z zs all))

-- they are 0 where each column has its number
numbers_vanish : (n first : ℕ) (zs xs : List ℤ) → first + length zs ≤ n
    → ((i : ℕ) → i < length zs → get_or xs (first + i) (pos 0) ≡ get_or zs i (pos 0)) → Vanish (forms_of (number_rows n first zs)) xs
numbers_vanish n first [] xs room same = tt
numbers_vanish n first (z ∷ zs) xs room same = (
  number_zero n first z (omega arith) xs (ap (λ i. get_or xs i (pos 0)) (omega arith) ∙ same 0 (omega arith)),
  numbers_vanish n (suc first) zs xs (omega arith) (λ i low. ap (λ j. get_or xs j (pos 0)) (omega arith) ∙ same (suc i) (omega arith)),
)

-- a form is the sum of them, each times its coefficient there, and its number where each column has its number
dot_from : (c : ℤ) (cs xs : List ℤ) (i : ℕ) → dot (c ∷ cs) (drop i xs) ≡ c *ℤ get_or xs i (pos 0) +ℤ dot cs (drop (suc i) xs)
dot_from c cs [] zero = by (dot cs []) (dot-nil_right cs)
  where
    by : (v : ℤ) → v ≡ pos 0 → pos 0 ≡ c *ℤ pos 0 +ℤ v
    by v e = simp expand (omega (arith, linear, e))
dot_from c cs [] (suc i) = by (dot cs []) (dot-nil_right cs)
  where
    by : (v : ℤ) → v ≡ pos 0 → pos 0 ≡ c *ℤ pos 0 +ℤ v
    by v e = simp expand (omega (arith, linear, e))
dot_from c cs (x ∷ xs) zero = refl
dot_from c cs (x ∷ xs) (suc i) = dot_from c cs xs i

numbers_total : (n first : ℕ) (cs zs xs : List ℤ) → first + length zs ≤ n → length cs ≡ length zs
    → total cs (forms_of (number_rows n first zs)) xs ≡ dot cs (drop first xs) -ℤ dot cs zs
numbers_total n first [] zs xs room same = refl
numbers_total n first (c ∷ cs) [] xs room same = absurd (omega arith)
numbers_total n first (c ∷ cs) (z ∷ zs) xs room same =
    by (value_at (number_row n first z) xs) (get_or xs first (pos 0)) (total cs (forms_of (number_rows n (suc first) zs)) xs)
    (dot cs (drop (suc first) xs)) (dot cs zs) (dot (c ∷ cs) (drop first xs)) (number_value n first z (omega arith) xs)
    (numbers_total n (suc first) cs zs xs (omega arith) (omega arith)) (dot_from c cs xs first)
  where
    by : (v y t d e w : ℤ) → v ≡ y -ℤ z → t ≡ d -ℤ e → w ≡ c *ℤ y +ℤ d → c *ℤ v +ℤ t ≡ w -ℤ (c *ℤ z +ℤ e)
    by v y t d e w p r s =
        let m = simp expand at (ap (λ u. c *ℤ u) p) in
        let k = simp expand at s in
        simp expand (omega (arith, linear, m, r, k))

-- ---- points of their own: one number is one more
abbrev own_points : List ℤ → ℕ → List ℤ → List (List ℤ)
own_points p first [] = []
own_points p first (z ∷ zs) = set p first (z +ℤ pos 1) ∷ own_points p (suc first) zs

own_long : (p : List ℤ) (first : ℕ) (zs : List ℤ) → AllByRecursion (λ x. length x ≡ length p) (own_points p first zs)
own_long p first [] = tt
own_long p first (z ∷ zs) = (length-set p first (z +ℤ pos 1), own_long p (suc first) zs)

later_vanish : (n c : ℕ) (z : ℤ) (p : List ℤ) → c < n → get_or p c (pos 0) ≡ z → (first : ℕ) (zs : List ℤ) → c < first
    → VanishesAt (value_at (number_row n c z)) (own_points p first zs)
later_vanish n c z p low same first [] before = tt
later_vanish n c z p low same first (y ∷ zs) before = (
  number_zero n c z low (set p first (y +ℤ pos 1)) (get_or-set_other p first c (y +ℤ pos 1) (pos 0) (λ e. omega arith) ∙ same),
  later_vanish n c z p low same (suc first) zs (omega arith),
)

numbers_own : (n first : ℕ) (zs p : List ℤ) → first + length zs ≤ n → length p ≡ n
    → ((i : ℕ) → i < length zs → get_or p (first + i) (pos 0) ≡ get_or zs i (pos 0))
    → HaveOwn (forms_of (number_rows n first zs)) (own_points p first zs)
numbers_own n first [] p room long same = tt
numbers_own n first (z ∷ zs) p room long same =
    let x = set p first (z +ℤ pos 1) in
    let here : get_or x first (pos 0) ≡ z +ℤ pos 1 = get_or-set_same p first (z +ℤ pos 1) (pos 0) (omega arith) in (
      λ e. one (get_or x first (pos 0)) here (sym (number_value n first z (omega arith) x) ∙ e),
      numbers_vanish n (suc first) zs x (omega arith)
          (λ i low. get_or-set_other p first (suc first + i) (z +ℤ pos 1) (pos 0) (λ e. omega arith)
          ∙ ap (λ j. get_or p j (pos 0)) (omega arith) ∙ same (suc i) (omega arith)),
      later_vanish n first z p (omega arith) (ap (λ j. get_or p j (pos 0)) (omega arith) ∙ same 0 (omega arith)) (suc first) zs
          (omega arith),
      numbers_own n (suc first) zs p (omega arith) long
          (λ i low. ap (λ j. get_or p j (pos 0)) (omega arith) ∙ same (suc i) (omega arith)),
    )
  where
    one : (y : ℤ) → y ≡ z +ℤ pos 1 → y -ℤ z ≡ pos 0 → ⊥
    one y e f = omega (arith, linear)

-- ---- the beginning
pub begin : (g : Gauge) (P : List ℤ → Type 0) (p : List ℤ) → All (IsForm g (length p)) (number_rows (length p) 0 p) → P p
    → AreFormsFor g (length p) P (length p) (number_rows (length p) 0 p)
begin g P p forms here =
    let n = length p in
    let rows = number_rows n 0 p in
    let long : length rows ≡ n = numbers_long n 0 p in
    let same : (i : ℕ) → i < n → get_or p (0 + i) (pos 0) ≡ get_or p i (pos 0) = λ i low. ap (λ j. get_or p j (pos 0)) (omega arith) in
    let none : drop n rows ≡ [] = drop_all n rows (omega (arith, long)) in
    let whole : take n rows ≡ rows = take_all n rows (omega (arith, long)) in
    record {
      few = omega (arith, long);
      forms = forms;
      start = p;
      at_start = numbers_vanish n 0 p p (omega arith) same;
      points = own_points p 0 p;
      long = own_long p 0 p;
      own = numbers_own n 0 p p (omega arith) refl same;
      proved = λ x _. rw none tt;
      spanned = λ coefs constant v. rw (none, whole) (record {
        times = pos 1;
        nonzero = λ e. absurd (omega (arith, linear));
        first = [];
        second = coefs;
        is = λ x. by (dot coefs x) constant (dot coefs p) (total coefs (forms_of rows) x) (numbers_total n 0 coefs p x (omega arith) v.long)
            (v.zero p here);
      });
    }
  where
    by : (d k e t : ℤ) → t ≡ d -ℤ e → e +ℤ k ≡ pos 0 → pos 1 *ℤ (d +ℤ k) ≡ pos 0 +ℤ t
    by d k e t s z = simp expand (omega (arith, linear, s, z))
