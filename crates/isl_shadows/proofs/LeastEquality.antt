-- The equality by which a column is solved: the first with the least coefficient.
use Rattle.std.proofs.Common.{◌≡◌, ◌≢◌, ◌↔◌, ◌∙◌, refl, sym, ap, arith, Bool, true, false, cond, not, int_lt, ℕ, zero, suc, ◌+◌, ◌<◌, ℤ, pos, ◌≤ℤ◌, ◌<ℤ◌, List, [], ◌∷◌, length, get_or, take, Option, Some, None, IfSome, MatchOption}
use Rattle.std.specs.List.{All}
use Rattle.std.specs.Option.{option_and_then}
use Rattle.std.proofs.lemmas.Bool.{cond-true, cond-false}
use Rattle.std.specs.Bool.{Decides}
use Rattle.std.proofs.lemmas.Bool.Decides.{Decides-int_eq}
use Rattle.std.proofs.lemmas.List.{take_all, get_or_default}
use Rattle.std.proofs.lemmas.List.Elements.{All-nil, All-head, All-tail, All-more, All-weaker}
use Rattle.std.specs.Ordering.{int_eq}
use Rattle.isl_math.proofs.Ring.{linear}
use Rattle.isl_piece.specs.declared.row.RowKind.{RowKind}
use Rattle.isl_piece.specs.declared.row.RowKind.TheVariants.{Zero, AtLeast, Divides, NotDivides}
use Rattle.isl_piece.specs.declared.row.Row.{Row}
use Rattle.isl_piece.specs.Row.{coef_at}
use Rattle.isl_piece.proofs.NormalCases.{int_lt-true, int_lt-false}
use Rattle.isl_shadows.specs.Column.{IsEqualityAt}
use Rattle.isl_shadows.specs.Solved.{is_equality, size_at, lesser_of, least_equality, solved_rows, IsEquality, IsLeastAmong}
use Rattle.isl_omega.specs.Equality.{HasEquality, solved_for}
use Rattle.isl_omega.proofs.SideLemmas.{equalities_lack, lacking_has_none}

-- ---- the test
equality_is : (asks : RowKind) (c : ℤ) → is_equality asks c ≡ true ↔ ((asks ≡ Zero) × (c ≢ pos 0))
equality_is Zero c = by (int_eq c (pos 0)) (Decides-int_eq c (pos 0))
  where
    by : (b : Bool) → Decides b (c ≡ pos 0) → (not b ≡ true) ↔ ((Zero ≡ Zero) × (c ≢ pos 0))
    by true d = ((λ e. absurd (by_true e)), (λ h. absurd (h.1 (d.0 refl))))
      where
        by_true : false ≡ true → ⊥
        by_true e = cc
    by false d = ((λ e. (refl, λ z. absurd (let f = d.1 z in cc))), (λ h. refl))
equality_is AtLeast c = ((λ e. absurd (let f = e in cc)), (λ h. absurd (let f = h.0 in cc)))
equality_is Divides c = ((λ e. absurd (let f = e in cc)), (λ h. absurd (let f = h.0 in cc)))
equality_is NotDivides c = ((λ e. absurd (let f = e in cc)), (λ h. absurd (let f = h.0 in cc)))

-- ---- the definition
-- what holds of each equality holds of the least
least_all : (P : Row → Type 0) (col : ℕ) (rows : List Row) → All (λ r. IsEquality col r → P r) rows → IfSome (least_equality col rows) P
least_all P col [] h = tt
least_all P col (r ∷ rows) h = by (is_equality r.kind (coef_at r col)) (equality_is r.kind (coef_at r col)).0 (least_all P col rows (All-tail (λ r. IsEquality col r → P r) r rows h))
  where
    one : P r → (o : Option Row) → IfSome o P → P (lesser_of col r o)
    one p None q = p
    one p (Some s) q = two (int_lt (size_at col s) (size_at col r))
      where
        two : (b : Bool) → P (cond b s r)
        two true = q
        two false = p

    by : (b : Bool) → (b ≡ true → IsEquality col r) → IfSome (least_equality col rows) P → IfSome (cond b (Some (lesser_of col r (least_equality col rows))) (least_equality col rows)) P
    by true e rest = one (All-head (λ r. IsEquality col r → P r) r rows h (e refl)) (least_equality col rows) rest
    by false e rest = rest

-- the first row stays where none of the others is less
keeps : (col : ℕ) (r : Row) (o : Option Row) → IfSome o (λ s. size_at col r ≤ℤ size_at col s) → lesser_of col r o ≡ r
keeps col r None h = refl
keeps col r (Some s) h = cond-false (int_lt (size_at col s) (size_at col r)) s r (int_lt-false (size_at col s) (size_at col r) (omega (arith, linear)))

takes : (col : ℕ) (r s : Row) → size_at col s <ℤ size_at col r → lesser_of col r (Some s) ≡ s
takes col r s h = cond-true (int_lt (size_at col s) (size_at col r)) s r (int_lt-true (size_at col s) (size_at col r) h)

least_from : (col : ℕ) (rows : List Row) (at : ℕ) (d : Row) → at < length rows → IsEquality col (get_or rows at d)
    → All (λ r. IsEquality col r → size_at col (get_or rows at d) ≤ℤ size_at col r) rows → All (λ r. IsEquality col r → size_at col (get_or rows at d) <ℤ size_at col r) (take at rows)
    → least_equality col rows ≡ Some (get_or rows at d)
least_from col [] at d l e h k = absurd (omega arith)
least_from col (r ∷ rows) zero d l e h k =
    let rest = least_all (λ s. size_at col r ≤ℤ size_at col s) col rows (All-tail (λ s. IsEquality col s → size_at col r ≤ℤ size_at col s) r rows h) in
    cond-true (is_equality r.kind (coef_at r col)) (Some (lesser_of col r (least_equality col rows))) (least_equality col rows) ((equality_is r.kind (coef_at r col)).1 e)
    ∙ ap (λ (s : Row). Some s) (keeps col r (least_equality col rows) rest)
least_from col (r ∷ rows) (suc at) d l e h k =
    let s = get_or rows at d in
    by s (is_equality r.kind (coef_at r col)) (equality_is r.kind (coef_at r col)).0 (All-head (λ r. IsEquality col r → size_at col s <ℤ size_at col r) r (take at rows) k)
    (least_from col rows at d (omega arith) e (All-tail (λ r. IsEquality col r → size_at col s ≤ℤ size_at col r) r rows h) (All-tail (λ r. IsEquality col r → size_at col s <ℤ size_at col r) r (take at rows) k))
  where
    by : (s : Row) (b : Bool) → (b ≡ true → IsEquality col r) → (IsEquality col r → size_at col s <ℤ size_at col r) → least_equality col rows ≡ Some s → cond b (Some (lesser_of col r (least_equality col rows))) (least_equality col rows) ≡ Some s
    by s false f less rest = rest
    by s true f less rest = ap (λ (o : Option Row). Some (lesser_of col r o)) rest
        ∙ ap (λ (t : Row). Some t) (takes col r s (less (f refl)))

pub least_is : (col : ℕ) (rows : List Row) (at : ℕ) (d : Row) → IsLeastAmong col rows (length rows) at → least_equality col rows ≡ Some (get_or rows at d)
least_is col rows at d h =
    let all : take (length rows) rows ≡ rows = take_all (length rows) rows (omega arith) in
    least_from col rows at d h.place (h.equality d) (rw all at (h.least d)) (h.first d)

-- ---- the search
pub least_equality_at : (col : ℕ) (rows : List Row) (n at : ℕ) → IsLeastAmong col rows n at → IsEqualityAt col rows at
least_equality_at col rows n at h = (h.place, h.equality)

abbrev pub IsFound : ℕ → List Row → ℕ → Option ℕ → Type 0
IsFound col rows n found = MatchOption found (¬ HasEquality col (take n rows)) (IsLeastAmong col rows n)

pub found_first : (col : ℕ) (rows : List Row) → ¬ HasEquality col (take 0 rows)
found_first col rows = lacking_has_none col [] (All-nil (λ r. r.kind ≡ Zero → coef_at r col ≡ pos 0))

-- the row is no equality
pub found_not : (col : ℕ) (rows : List Row) (i : ℕ) (r : Row) (found : Option ℕ) → i < length rows → r ≡ get_or rows i r → ¬ IsEquality col r → IsFound col rows i found → IsFound col rows (i + 1) found
found_not col rows i r None l e n h =
    let own : r.kind ≡ Zero → coef_at r col ≡ pos 0 = λ k. zero_or (coef_at r col) (λ z. n (k, z)) in
    lacking_has_none col (take (i + 1) rows) (All-more (λ (s : Row). s.kind ≡ Zero → coef_at s col ≡ pos 0) rows i r l (equalities_lack col (take i rows) h) (rw e at own))
  where
    zero_or : (c : ℤ) → ¬ (c ≢ pos 0) → c ≡ pos 0
    zero_or c m = two (int_eq c (pos 0)) (Decides-int_eq c (pos 0))
      where
        two : (b : Bool) → Decides b (c ≡ pos 0) → c ≡ pos 0
        two true d = d.0 refl
        two false d = absurd (m (λ z. let f = d.1 z in cc))
found_not col rows i r (Some at) l e n h = record {
  place = h.place;
  equality = h.equality;
  least = λ d. All-more (λ (s : Row). IsEquality col s → size_at col (get_or rows at d) ≤ℤ size_at col s) rows i r l (h.least d) (rw e at (by d));
  first = h.first;
}
  where
    by : (d : Row) → IsEquality col r → size_at col (get_or rows at d) ≤ℤ size_at col r
    by d q = absurd (n q)

-- it is one, but no less than the one that was found
pub found_kept : (col : ℕ) (rows : List Row) (i at : ℕ) (r s : Row) → i < length rows → r ≡ get_or rows i r → s ≡ get_or rows at s → size_at col s ≤ℤ size_at col r → IsLeastAmong col rows i at → IsLeastAmong col rows (i + 1) at
found_kept col rows i at r s l e f le h = record {
  place = h.place;
  equality = h.equality;
  least = λ d. All-more (λ (t : Row). IsEquality col t → size_at col (get_or rows at d) ≤ℤ size_at col t) rows i r l (h.least d) (rw e at (by d));
  first = h.first;
}
  where
    by : (d : Row) → IsEquality col r → size_at col (get_or rows at d) ≤ℤ size_at col r
    by d q = rw (get_or_default rows at d s h.place, ← f) le

-- it is the first, or less than the one that was found
pub found_new : (col : ℕ) (rows : List Row) (i : ℕ) (r : Row) (found : Option ℕ) → i < length rows → r ≡ get_or rows i r → IsEquality col r → IsFound col rows i found → IfSome found (λ at. (s : Row) → s ≡ get_or rows at s → size_at col r <ℤ size_at col s)
    → IsLeastAmong col rows (i + 1) i
found_new col rows i r found l e q h less = record {
  place = l;
  equality = λ d. rw (same d) q;
  least = λ d. rw (same d) (All-more (λ (t : Row). IsEquality col t → size_at col r ≤ℤ size_at col t) rows i r l (All-weaker (Above r) (λ t. IsEquality col t → size_at col r ≤ℤ size_at col t) (λ t a p. let b = a p in omega (arith, linear)) (take i rows) above) (own (get_or rows i r) e));
  first = λ d. rw (same d) above;
}
  where
    Above : Row → Row → Type 0
    Above r t = IsEquality col t → size_at col r <ℤ size_at col t

    same : (d : Row) → get_or rows i d ≡ r
    same d = get_or_default rows i d r l ∙ sym e

    own : (t : Row) → r ≡ t → IsEquality col t → size_at col r ≤ℤ size_at col t
    own t e p = let f = ap (size_at col) e in omega (arith, linear)

    by : (o : Option ℕ) → IsFound col rows i o → IfSome o (λ at. (s : Row) → s ≡ get_or rows at s → size_at col r <ℤ size_at col s) → All (Above r) (take i rows)
    by None n m = All-weaker (λ t. t.kind ≡ Zero → coef_at t col ≡ pos 0) (Above r) (λ t z p. absurd (p.1 (z p.0))) (take i rows) (equalities_lack col (take i rows) n)
    by (Some at) f m =
        let s = get_or rows at r in
        let lower = m s (get_or_default rows at r s f.place) in
        All-weaker (λ t. IsEquality col t → size_at col s ≤ℤ size_at col t) (Above r) (λ t a p. let b = a p in omega (arith, linear)) (take i rows) (f.least r)

    above : All (Above r) (take i rows)
    above = by found h less

pub new_none : (col : ℕ) (rows : List Row) (r : Row) (found : Option ℕ) → found ≡ None → IfSome found (λ at. (s : Row) → s ≡ get_or rows at s → size_at col r <ℤ size_at col s)
new_none col rows r found e = rw e tt

pub new_some : (col : ℕ) (rows : List Row) (r old : Row) (at : ℕ) (found : Option ℕ) → found ≡ Some at → old ≡ get_or rows at old → at < length rows → size_at col r <ℤ size_at col old → IfSome found (λ at. (s : Row) → s ≡ get_or rows at s → size_at col r <ℤ size_at col s)
new_some col rows r old at found e f l h = rw e by
  where
    by : (s : Row) → s ≡ get_or rows at s → size_at col r <ℤ size_at col s
    by s g = let same = ap (size_at col) (f ∙ get_or_default rows at old s l ∙ sym g) in omega (arith, linear)

-- ---- what is left
pub solved_is : (col : ℕ) (rows : List Row) (at : ℕ) (fixed : Row) → IsLeastAmong col rows (length rows) at → fixed ≡ get_or rows at fixed → solved_for fixed col rows ≡ solved_rows rows col
solved_is col rows at fixed h e = ap (λ (r : Row). solved_for r col rows) e ∙ ap (option_and_then (λ r. solved_for r col rows)) (sym (least_is col rows at fixed h))
