-- What rows say of one another.
use Rattle.std.proofs.Common.{◌≡◌, ◌↔◌, inl, inr, ◌∙◌, sym, subst, ap, refl, arith, add-one, Bool, true, false, ℕ, zero, suc, ◌<◌, ◌≤◌}
use Rattle.std.proofs.Common.{ℤ, pos, negsuc, neg_ℤ, ◌+ℤ◌, ◌*ℤ◌, ◌<ℤ◌, ◌≤ℤ◌, List, [], ◌∷◌, ◌+◌, length, get_or, take, drop}
use Rattle.std.specs.Prelude.{IsTrue}
use Rattle.std.specs.List.{All, Any}
use Rattle.std.proofs.lemmas.Bool.{false≢true}
use Rattle.std.proofs.lemmas.List.{get_or_default, get_or-map, length-map, take_all}
use Rattle.std.proofs.lemmas.List.Elements.{All-nil, All-more}
use Rattle.isl_math.specs.Dot.{dot, scaled}
use Rattle.isl_math.proofs.Ring.{linear}
use Rattle.isl_math.proofs.DotLaws.{dot-scaled}
use Rattle.isl_piece.specs.declared.row.RowKind.{RowKind}
use Rattle.isl_piece.specs.declared.row.Row.{Row}
use Rattle.isl_piece.specs.Row.{HoldsRow, value_at}
use Rattle.isl_piece.specs.System.{HoldRows}
use Rattle.isl_difference.specs.Bounds.{Implies, AreApart, ImplyRow, ImplyRows, AreApartRows}
use Rattle.isl_difference.specs.Told.{ExcludeOne, Excludes, IsBelow, IsBound, SayAll, Says}

-- ---- forms
cons : {X : Type 0} {x y : X} {xs ys : List X} → x ≡ y → xs ≡ ys → x ∷ xs ≡ y ∷ ys
cons e f = cc

heads : {x y : ℤ} {xs ys : List ℤ} → x ∷ xs ≡ y ∷ ys → x ≡ y
heads {x = x} e = ap (λ (zs : List ℤ). get_or zs 0 x) e

tails : {x y : ℤ} {xs ys : List ℤ} → x ∷ xs ≡ y ∷ ys → xs ≡ ys
tails e = ap (λ (zs : List ℤ). drop 1 zs) e

negative : (x : ℤ) → negsuc 0 *ℤ x ≡ neg_ℤ x
negative x = omega (arith, linear)

-- one number more
opposite_more : (xs ys : List ℤ) (i : ℕ) → i < length xs → i < length ys → get_or ys i (pos 0) ≡ neg_ℤ (get_or xs i (pos 0))
    → take i ys ≡ scaled (negsuc 0) (take i xs) → take (i + 1) ys ≡ scaled (negsuc 0) (take (i + 1) xs)
opposite_more xs ys i h k e p = rw add-one (by xs ys i h k e p)
  where
    by : (xs ys : List ℤ) (i : ℕ) → i < length xs → i < length ys → get_or ys i (pos 0) ≡ neg_ℤ (get_or xs i (pos 0))
        → take i ys ≡ scaled (negsuc 0) (take i xs) → take (suc i) ys ≡ scaled (negsuc 0) (take (suc i) xs)
    by (x ∷ xs) (y ∷ ys) zero h k e p = cons (e ∙ sym (negative x)) refl
    by (x ∷ xs) (y ∷ ys) (suc i) h k e p = cons (heads p) (by xs ys i (omega arith) (omega arith) e (tails p))
    by [] ys i h k e p = absurd (omega arith)
    by (x ∷ xs) [] i h k e p = absurd (omega arith)

module _ (xs ys : List ℤ) where
  abbrev Opposite : Type 0
  Opposite = ys ≡ scaled (negsuc 0) xs

  module _ (i : ℕ) (x y : ℤ) (low : i < length xs) (also : i < length ys) (one : x ≡ get_or xs i x) (other : y ≡ get_or ys i y) where
    pub opposite_next : y ≡ neg_ℤ x → take i ys ≡ scaled (negsuc 0) (take i xs) → take (i + 1) ys ≡ scaled (negsuc 0) (take (i + 1) xs)
    opposite_next n p =
        let first : get_or xs i (pos 0) ≡ x = get_or_default xs i (pos 0) x low ∙ sym one in
        let second : get_or ys i (pos 0) ≡ y = get_or_default ys i (pos 0) y also ∙ sym other in
        opposite_more xs ys i low also (second ∙ n ∙ ap neg_ℤ (sym first)) p

    pub opposite_fails : ¬ (y ≡ neg_ℤ x) → IsTrue false ↔ Opposite
    opposite_fails n = (
      (λ t. absurd (false≢true t)),
      (λ e.
          let at = get_or-map (λ z. negsuc 0 *ℤ z) xs i x y low in
          absurd (n (other ∙ ap (λ (zs : List ℤ). get_or zs i y) e ∙ at ∙ ap (λ z. negsuc 0 *ℤ z) (sym one) ∙ negative x))),
    )

  pub opposite_long : ¬ (length xs ≡ length ys) → IsTrue false ↔ Opposite
  opposite_long n = (
    (λ t. absurd (false≢true t)),
    (λ e. absurd (n (sym (ap (λ (zs : List ℤ). length zs) e ∙ length-map xs (λ z. negsuc 0 *ℤ z))))),
  )

  pub opposite_all : (i : ℕ) → length xs ≡ length ys → length xs ≤ i → take i ys ≡ scaled (negsuc 0) (take i xs) → IsTrue true ↔ Opposite
  opposite_all i same end p =
      let one = take_all i xs end in
      let two = take_all i ys (omega (arith, same, end)) in
      ((λ t. sym two ∙ p ∙ ap (scaled (negsuc 0)) one), (λ e. refl))

-- ---- rows
pub rows_same : (a b : Row) → a.kind ≡ b.kind → a.constant ≡ b.constant → a.k ≡ b.k → b.coefs ≡ a.coefs → b ≡ a
rows_same a b kind constant k coefs = by b.kind a.kind b.coefs a.coefs b.constant a.constant b.k a.k (sym kind) coefs (sym constant) (sym k)
  where
    row : RowKind → List ℤ → ℤ → ℤ → Row
    row kind coefs constant k = record { kind = kind; coefs = coefs; constant = constant; k = k }

    by : (p q : RowKind) (cs ds : List ℤ) (x y m n : ℤ) → p ≡ q → cs ≡ ds → x ≡ y → m ≡ n → row p cs x m ≡ row q ds y n
    by p q cs ds x y m n e f g h = cc

bound_large : (r : Row) → IsBound r → (xs : List ℤ) → HoldsRow r xs → pos 0 ≤ℤ value_at r xs
bound_large r (inl e) xs h = by (value_at r xs) (rw e at h)
  where
    by : (z : ℤ) → z ≡ pos 0 → pos 0 ≤ℤ z
    by z h = omega (arith, linear)
bound_large r (inr e) xs h = rw e at h

-- the form of the other row
same_form : (a b : Row) (xs : List ℤ) → b.coefs ≡ a.coefs → value_at b xs ≡ dot a.coefs xs +ℤ b.constant
same_form a b xs e = rw e refl

opposite_form : (a b : Row) (xs : List ℤ) → b.coefs ≡ scaled (negsuc 0) a.coefs → value_at b xs ≡ neg_ℤ (dot a.coefs xs) +ℤ b.constant
opposite_form a b xs e = rw (e, dot-scaled (negsuc 0) a.coefs xs) (by (dot a.coefs xs) b.constant)
  where
    by : (z c : ℤ) → negsuc 0 *ℤ z +ℤ c ≡ neg_ℤ z +ℤ c
    by z c = omega (arith, linear)

says_implies : (a b : Row) → Says a b → Implies a b
says_implies a b (inl e) = record { holds = λ xs h. rw e h }
says_implies a b (inr (inl t)) = record {
  holds = λ xs h.
      let kind = t.1 in
      rw kind (by (dot a.coefs xs) a.constant b.constant (value_at b xs) (bound_large a t.0 xs h) t.2 (same_form a b xs t.3));
}
  where
    by : (z c d v : ℤ) → pos 0 ≤ℤ (z +ℤ c) → c ≤ℤ d → v ≡ z +ℤ d → pos 0 ≤ℤ v
    by z c d v h l f = omega (arith, linear)
says_implies a b (inr (inr t)) = record {
  holds = λ xs h.
      let kind = t.1 in
      let zero = t.0 in
      rw kind (by (dot a.coefs xs) a.constant b.constant (value_at b xs) (rw zero at h) t.2 (opposite_form a b xs t.3));
}
  where
    by : (z c d v : ℤ) → z +ℤ c ≡ pos 0 → pos 0 ≤ℤ (c +ℤ d) → v ≡ neg_ℤ z +ℤ d → pos 0 ≤ℤ v
    by z c d v h l f = omega (arith, linear)

below_apart : (a b : Row) → IsBelow a b → (xs : List ℤ) → HoldsRow a xs → ¬ HoldsRow b xs
below_apart a b t xs h k =
    let zero = t.0 in
    by (dot a.coefs xs) a.constant b.constant (value_at b xs) (rw zero at h) (bound_large b t.1 xs k) t.2 (same_form a b xs t.3)
  where
    by : (z c d v : ℤ) → z +ℤ c ≡ pos 0 → pos 0 ≤ℤ v → d <ℤ c → v ≡ z +ℤ d → ⊥
    by z c d v h k l f = omega (arith, linear)

excludes_apart : (a b : Row) → Excludes a b → AreApart a b
excludes_apart a b (inl t) = record {
  nowhere = λ xs h k.
      by (dot a.coefs xs) a.constant b.constant (value_at b xs) (bound_large a t.0 xs h) (bound_large b t.1 xs k) t.2
      (opposite_form a b xs t.3);
}
  where
    by : (z c d v : ℤ) → pos 0 ≤ℤ (z +ℤ c) → pos 0 ≤ℤ v → (c +ℤ d) <ℤ pos 0 → v ≡ neg_ℤ z +ℤ d → ⊥
    by z c d v h k l f = omega (arith, linear)
excludes_apart a b (inr (inl t)) = record { nowhere = λ xs h k. below_apart a b t xs h k }
excludes_apart a b (inr (inr t)) = record { nowhere = λ xs h k. below_apart b a t xs k h }

-- ---- lists of rows
element_holds : (rows : List Row) (xs : List ℤ) (k : ℕ) (r : Row) → k < length rows → get_or rows k r ≡ r → HoldRows rows xs → HoldsRow r xs
element_holds rows xs k r low is h = subst (λ (t : Row). HoldsRow t xs) is (h k r low)

pub imply_row : (rows : List Row) (other : Row) → Any (λ row. Says row other) rows → ImplyRow rows other
imply_row rows other a = record {
  holds = λ xs h. (says_implies a.1 other a.4).holds xs (element_holds rows xs a.0 a.1 a.2 a.3 h);
}

pub imply_rows : (rows others : List Row) → SayAll rows others → ImplyRows rows others
imply_rows rows others all = record { holds = λ xs h i r low. (imply_row rows (get_or others i r) (all i r low)).holds xs h }

pub apart_rows : (rows others : List Row) → ExcludeOne rows others → AreApartRows rows others
apart_rows rows others a = record {
  nowhere = λ xs h k.
      let b = a.4 in
      (excludes_apart b.1 a.1 b.4).nowhere xs (element_holds rows xs b.0 b.1 b.2 b.3 h) (element_holds others xs a.0 a.1 a.2 a.3 k);
}

pub ruleset list_steps = (imply_row, imply_rows, apart_rows)

-- ---- loops that end where one is found, or one is not so
module _ {X : Type 0} (P : X → Type 0) (xs : List X) where
  pub none_at_first : All (λ x. ¬ P x) (take 0 xs)
  none_at_first = All-nil (λ x. ¬ P x)

  pub none_found : (i : ℕ) → length xs ≤ i → All (λ x. ¬ P x) (take i xs) → IsTrue false ↔ Any P xs
  none_found i end none =
      let all = subst (All (λ x. ¬ P x)) (take_all i xs end) none in (
        (λ t. absurd (false≢true t)),
        (λ a. absurd (all a.0 a.1 a.2 (subst P (sym a.3) a.4))),
      )

  pub all_found : (i : ℕ) → length xs ≤ i → All P (take i xs) → IsTrue true ↔ All P xs
  all_found i end all = ((λ t. subst (All P) (take_all i xs end) all), (λ a. refl))

  module _ (i : ℕ) (x : X) (low : i < length xs) (at : x ≡ get_or xs i x) where
    pub one_found : P x → IsTrue true ↔ Any P xs
    one_found p = ((λ t. (i, x, low, sym at, p)), (λ a. refl))

    pub one_missed : ¬ P x → IsTrue false ↔ All P xs
    one_missed n = ((λ t. absurd (false≢true t)), (λ all. absurd (n (subst P (sym at) (all i x low)))))

    pub one_none : ¬ P x → All (λ y. ¬ P y) (take i xs) → All (λ y. ¬ P y) (take (i + 1) xs)
    one_none n none = All-more (λ y. ¬ P y) xs i x low none (subst (λ y. ¬ P y) at n)

    pub one_all : P x → All P (take i xs) → All P (take (i + 1) xs)
    one_all p all = All-more P xs i x low all (subst P at p)

pub not_so : (P : Type 0) (b : Bool) → b ≡ false → IsTrue b ↔ P → ¬ P
not_so P b e same p = false≢true (sym e ∙ same.1 p)
