-- Coefficients at other places, and definitions that are found again.
use Rattle.std.proofs.Common.{◌≡◌, ◌≢◌, ◌↔◌, IsTrue, ◌⊎◌, inl, inr, refl, sym, ap, ◌∙◌, arith, subst, ℕ, zero, suc, ◌+◌, ◌-◌, ◌<◌, ◌≤◌, ℤ, pos, ◌+ℤ◌, ◌-ℤ◌, ◌*ℤ◌, List, [], ◌∷◌, ◌++◌, length, get_or, set, take, drop, replicate, length-set, get_or-set_other, take-append-drop, Some, Bool, true, false, ◌&&◌, not}
use Rattle.std.specs.List.{All, AllPairs, list_any, range_with_len}
use Rattle.std.specs.Bool.{nat_eq}
use Rattle.std.specs.Ordering.{int_eq}
use Rattle.std.specs.Cmp.Lexicographic.{pointwise}
use Rattle.std.proofs.lemmas.Bool.{cases_Bool, cond-true, cond-false, and_parts}
use Rattle.std.proofs.lemmas.Bool.Decides.{Decides-int_eq}
use Rattle.std.proofs.lemmas.Slice.Eq.{slice_eq-Decides}
use Rattle.std.proofs.lemmas.List.{map-append, get_or_append_left, get_or-replicate, length-replicate, drop_more}
use Rattle.std.proofs.lemmas.List.FromFn.{fill_by_all, length-range_with_len, get_or-range_with_len}
use Rattle.std.proofs.lemmas.List.Elements.{All-head, All-tail, All-set, All-replicate}
use Rattle.isl_math.specs.Dot.{dot}
use Rattle.isl_math.proofs.DotLaws.{dot-set_left, dot-zeros}
use Rattle.isl_math.proofs.ListLaws.{All-pass}
use Rattle.isl_math.proofs.Ring.{expand, linear}
use Rattle.isl_piece.specs.declared.definition.Definition.{Definition}
use Rattle.isl_piece.specs.Meet.{put_at, placed, numbers_at, is_padded, is_same_definition, column_with}

-- no two places are the same
abbrev pub AreApart : List ℕ → Type 0
AreApart places = AllPairs (λ p q. p ≢ q) places

apart_tail : (place : ℕ) (places : List ℕ) → AreApart (place ∷ places) → AreApart places
apart_tail place places h i j d l k = h (suc i) (suc j) d (omega arith) (omega arith)

-- ---- the numbers at places
pub length-put_at : (all : List ℤ) (places : List ℕ) (cs : List ℤ) → length (put_at all places cs) ≡ length all
length-put_at all [] cs = refl
length-put_at all (place ∷ places) [] = refl
length-put_at all (place ∷ places) (c ∷ cs) = length-put_at (set all place c) places cs ∙ length-set all place c

pub length-placed : (columns : ℕ) (places : List ℕ) (cs : List ℤ) → length (placed columns places cs) ≡ columns
length-placed columns places cs = length-put_at (replicate columns (pos 0)) places cs ∙ length-replicate columns (pos 0)

pub put_at-all : (P : ℤ → Type 0) (all : List ℤ) (places : List ℕ) (cs : List ℤ) → All P all → All P cs → All P (put_at all places cs)
put_at-all P all [] cs h k = h
put_at-all P all (place ∷ places) [] h k = h
put_at-all P all (place ∷ places) (c ∷ cs) h k =
    put_at-all P (set all place c) places cs (All-set P all place c (All-head P c cs k) h) (All-tail P c cs k)

pub placed-all : (P : ℤ → Type 0) (columns : ℕ) (places : List ℕ) (cs : List ℤ) → P (pos 0) → All P cs → All P (placed columns places cs)
placed-all P columns places cs none h = put_at-all P (replicate columns (pos 0)) places cs (All-replicate P columns (pos 0) none) h

pub put_at-end : (all : List ℤ) (places : List ℕ) (cs : List ℤ) → (places ≡ []) ⊎ (cs ≡ []) → put_at all places cs ≡ all
put_at-end all [] cs h = refl
put_at-end all (place ∷ places) [] h = refl
put_at-end all (place ∷ places) (c ∷ cs) (inl e) = absurd (let f = ap length e in omega arith)
put_at-end all (place ∷ places) (c ∷ cs) (inr e) = absurd (let f = ap length e in omega arith)

pub put_at-more : (all : List ℤ) (places : List ℕ) (cs : List ℤ) (i : ℕ) → i < length places → i < length cs
    → put_at all (drop i places) (drop i cs) ≡ put_at (set all (get_or places i 0) (get_or cs i (pos 0))) (drop (i + 1) places) (drop (i + 1) cs)
put_at-more all places cs i l k = rw (drop_more places i 0 l, drop_more cs i (pos 0) k) refl

-- coefficients at places that are apart, over others that are 0 there
put_at-dot : (all : List ℤ) (places : List ℕ) (cs q : List ℤ) → length cs ≡ length places → AreApart places → All (λ p. p < length all) places
    → All (λ p. get_or all p (pos 0) ≡ pos 0) places → dot (put_at all places cs) q ≡ dot all q +ℤ dot cs (numbers_at places q)
put_at-dot all [] [] q e apart low zeros = omega (arith, linear)
put_at-dot all [] (c ∷ cs) q e apart low zeros = absurd (omega arith)
put_at-dot all (place ∷ places) [] q e apart low zeros = absurd (omega arith)
put_at-dot all (place ∷ places) (c ∷ cs) q e apart low zeros =
    let one = dot-set_left all q place c (All-head (λ p. p < length all) place places low) in
    let rest = put_at-dot (set all place c) places cs q (omega arith) (apart_tail place places apart) inside zeros_left in
    by (dot (put_at (set all place c) places cs) q) (dot (set all place c) q) (dot all q) (dot cs (numbers_at places q)) (get_or q place (pos 0)) (get_or all place (pos 0))
    rest one (All-head (λ p. get_or all p (pos 0) ≡ pos 0) place places zeros)
  where
    inside : All (λ p. p < length (set all place c)) places
    inside = rw (length-set all place c) (All-tail (λ p. p < length all) place places low)

    zeros_left : All (λ p. get_or (set all place c) p (pos 0) ≡ pos 0) places
    zeros_left k d l =
        get_or-set_other all place (get_or places k d) c (pos 0) (λ f. apart 0 (suc k) d (omega arith) (omega arith) (sym f))
        ∙ All-tail (λ p. get_or all p (pos 0) ≡ pos 0) place places zeros k d l

    by : (made once all rest x a : ℤ) → made ≡ once +ℤ rest → once ≡ all +ℤ (c -ℤ a) *ℤ x → a ≡ pos 0 → made ≡ all +ℤ (c *ℤ x +ℤ rest)
    by made once all rest x a e f z = let f' : once ≡ all +ℤ (c -ℤ pos 0) *ℤ x = subst (λ w. once ≡ all +ℤ (c -ℤ w) *ℤ x) z f in let f'' = simp expand at f' in simp expand (omega (arith, linear))

pub placed_dot : (columns : ℕ) (places : List ℕ) (cs q : List ℤ) → length cs ≡ length places → AreApart places → All (λ p. p < columns) places
    → dot (placed columns places cs) q ≡ dot cs (numbers_at places q)
placed_dot columns places cs q e apart low =
    let whole = put_at-dot (replicate columns (pos 0)) places cs q e apart (rw (length-replicate columns (pos 0)) low) (λ k d l. get_or-replicate columns (get_or places k d) (pos 0) (pos 0) (low k d l)) in
    let none = dot-zeros columns q in
    omega (arith, linear)

pub numbers_at-first : (xs ys : List ℤ) → numbers_at (range_with_len 0 (length xs)) (xs ++ ys) ≡ xs
numbers_at-first xs ys = sym (fill_by_all (λ p. get_or (xs ++ ys) p (pos 0)) xs (length xs) (pos 0) refl (λ k l. sym (get_or_append_left xs ys (pos 0) k l)))

pub numbers_at-push : (places : List ℕ) (place : ℕ) (xs : List ℤ) → numbers_at (places ++ place ∷ []) xs ≡ numbers_at places xs ++ get_or xs place (pos 0) ∷ []
numbers_at-push places place xs = map-append (λ p. get_or xs p (pos 0)) places (place ∷ [])

pub numbers_at-longer : (places : List ℕ) (xs ys : List ℤ) → All (λ p. p < length xs) places → numbers_at places (xs ++ ys) ≡ numbers_at places xs
numbers_at-longer [] xs ys low = refl
numbers_at-longer (place ∷ places) xs ys low =
    rw (get_or_append_left xs ys (pos 0) place (All-head (λ p. p < length xs) place places low), numbers_at-longer places xs ys (All-tail (λ p. p < length xs) place places low)) refl

-- one more of the first places
range_push : (a n : ℕ) → range_with_len a (suc n) ≡ range_with_len a n ++ (a + n) ∷ []
range_push a zero = ap (λ k. k ∷ []) (omega arith)
range_push a (suc n) = let next : a + 1 + n ≡ a + suc n = omega arith in ap (λ ps. a ∷ ps) (range_push (a + 1) n ∙ ap (λ k. range_with_len (a + 1) n ++ k ∷ []) next)

pub first_push : (n : ℕ) → range_with_len 0 (n + 1) ≡ range_with_len 0 n ++ n ∷ []
first_push n = let next : n + 1 ≡ suc n = omega arith in let same : 0 + n ≡ n = omega arith in ap (range_with_len 0) next ∙ range_push 0 n ∙ ap (λ k. range_with_len 0 n ++ k ∷ []) same

-- the first places are apart, and each is one of so many
pub first_apart : (count : ℕ) → AreApart (range_with_len 0 count)
first_apart count i j d l k e =
    let inside : j < count = let n = length-range_with_len 0 count in omega arith in
    let a = get_or-range_with_len 0 count i d (omega arith) in
    let b = get_or-range_with_len 0 count j d inside in
    omega arith

pub first_inside : (count columns : ℕ) → count ≤ columns → All (λ p. p < columns) (range_with_len 0 count)
first_inside count columns h k d l =
    let inside : k < count = let n = length-range_with_len 0 count in omega arith in
    let a = get_or-range_with_len 0 count k d inside in
    omega arith

-- ---- the same definition
zeros-dot : (xs zs q : List ℤ) → All (λ z. int_eq z (pos 0) ≡ true) zs → dot (xs ++ zs) q ≡ dot xs q
zeros-dot [] [] q h = refl
zeros-dot [] (z ∷ zs) [] h = refl
zeros-dot [] (z ∷ zs) (x ∷ q) h =
    let zero : z ≡ pos 0 = (Decides-int_eq z (pos 0)).0 (All-head (λ w. int_eq w (pos 0) ≡ true) z zs h) in
    let rest = zeros-dot [] zs q (All-tail (λ w. int_eq w (pos 0) ≡ true) z zs h) in
    let none : z *ℤ x ≡ pos 0 = let f = ap (λ w. w *ℤ x) zero in omega (arith, linear) in
    omega (arith, linear)
zeros-dot (y ∷ xs) zs [] h = refl
zeros-dot (y ∷ xs) zs (x ∷ q) h = ap (λ w. y *ℤ x +ℤ w) (zeros-dot xs zs q h)

padded_dot : (few more q : List ℤ) → is_padded few more ≡ true → dot few q ≡ dot more q
padded_dot few more q e =
    let parts = and_parts _ _ e in
    let front = (slice_eq-Decides Decides-int_eq few (take (length few) more) (pointwise int_eq few (take (length few) more)) refl).0 (and_parts _ _ parts.0).1 in
    let rest = All-pass (λ z. int_eq z (pos 0)) (drop (length few) more) parts.1 in
    ap (λ xs. dot xs q) front ∙ sym (zeros-dot (take (length few) more) (drop (length few) more) q rest) ∙ ap (λ xs. dot xs q) (take-append-drop (length few) more)

-- two definitions are equal where their numbers are
pub equal_definitions : (a d : Definition) (t : Bool) → a.constant ≡ d.constant → a.k ≡ d.k → t ≡ pointwise int_eq a.coefs d.coefs → IsTrue t ↔ (a ≡ d)
equal_definitions a d t constant k is =
    let coefs = slice_eq-Decides Decides-int_eq a.coefs d.coefs t is in
    ((λ h. let e = coefs.0 h in by a.coefs d.coefs a.constant d.constant a.k d.k e constant k), (λ e. coefs.1 (ap (λ (x : Definition). x.coefs) e)))
  where
    by : (xs ys : List ℤ) (c e k l : ℤ) → xs ≡ ys → c ≡ e → k ≡ l → (let x : Definition = record { coefs = xs; constant = c; k = k } in x) ≡ record { coefs = ys; constant = e; k = l }
    by xs ys c e k l f g h = rw (f, g, h) refl

-- what a definition and the same one over more columns have
pub record IsSameDefinition (a d : Definition) : Type 0 where
  pub constant : a.constant ≡ d.constant
  pub k : a.k ≡ d.k
  pub form : (q : List ℤ) → dot a.coefs q ≡ dot d.coefs q

pub same_definition-true : (a d : Definition) → is_same_definition a d ≡ true → IsSameDefinition a d
same_definition-true a d e =
    let parts = and_parts _ _ e in
    let numbers = and_parts _ _ parts.0 in
    record {
      constant = (Decides-int_eq a.constant d.constant).0 numbers.0;
      k = (Decides-int_eq a.k d.k).0 numbers.1;
      form = λ q. padded_dot a.coefs d.coefs q parts.1;
    }

-- ---- the column that is found
pub record IsFound (d : Definition) (taken : List ℕ) (column : ℕ) (definitions : List Definition) (found : ℕ) : Type 0 where
  pub low : column ≤ found
  pub high : found < column + length definitions
  pub same : (e : Definition) → IsSameDefinition (get_or definitions (found - column) e) d
  pub free : list_any (λ p. nat_eq p found) taken ≡ false

pub column_with-found : (d : Definition) (taken : List ℕ) (column : ℕ) (definitions : List Definition) (found : ℕ) → column_with d taken column definitions ≡ Some found → IsFound d taken column definitions found
column_with-found d taken column [] found e = cc
column_with-found d taken column (a ∷ definitions) found e = elim (cases_Bool (is_same_definition a d && not (list_any (λ p. nat_eq p column) taken))) [
  | inl t ↦
      let is : column ≡ found = let f = sym (cond-true (is_same_definition a d && not (list_any (λ p. nat_eq p column) taken)) (Some column) (column_with d taken (suc column) definitions) t) ∙ e in cc in
      let parts = and_parts _ _ t in
      record {
        low = omega arith;
        high = omega arith;
        same = λ x. let none : found - column ≡ 0 = omega arith in rw none (same_definition-true a d parts.0);
        free = rw (← is) (not_true (list_any (λ p. nat_eq p column) taken) parts.1);
      }
  | inr f ↦
      let later = column_with-found d taken (suc column) definitions found (sym (cond-false (is_same_definition a d && not (list_any (λ p. nat_eq p column) taken)) (Some column) (column_with d taken (suc column) definitions) f) ∙ e) in
      let low = later.low in
      let high = later.high in
      record {
        low = omega arith;
        high = omega arith;
        same = λ x. let next : found - column ≡ suc (found - suc column) = omega arith in rw next (later.same x);
        free = later.free;
      }
]
  where
    not_true : (b : Bool) → not b ≡ true → b ≡ false
    not_true true e = cc
    not_true false e = refl

pub ruleset place_steps = (length-placed, first_push, put_at-end, put_at-more)
