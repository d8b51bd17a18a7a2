-- Rows of which each bound stays once.
use Rattle.std.proofs.Common.{◌≡◌, ◌↔◌, ◌⊎◌, inl, inr, refl, sym, ap, ◌∙◌, arith, ℕ, zero, suc, ◌<◌, ℤ, pos, ◌+ℤ◌, ◌≤ℤ◌, List, [], ◌∷◌, ◌++◌, length, get_or, set, take, append_assoc, append-nil, Bool, true, false, ◌&&◌, ◌||◌, fold, subst, int_lt}
use Rattle.std.specs.List.{All}
use Rattle.std.specs.Int.{int_min}
use Rattle.std.specs.Ordering.{int_eq}
use Rattle.std.specs.Cmp.Lexicographic.{pointwise}
use Rattle.std.proofs.lemmas.Bool.{cases_Bool, cond-true, cond-false, and_parts, or_cases}
use Rattle.std.proofs.lemmas.Bool.Decides.{Decides-int_eq}
use Rattle.std.proofs.lemmas.Slice.Eq.{slice_eq-Decides}
use Rattle.std.proofs.lemmas.Int.{clamps}
use Rattle.std.proofs.lemmas.List.Elements.{All-nil, All-cons, All-head, All-tail, All-weaker}
use Rattle.isl_math.specs.Dot.{dot}
use Rattle.isl_math.proofs.Ring.{linear}
use Rattle.isl_piece.specs.declared.row.RowKind.{RowKind}
use Rattle.isl_piece.specs.declared.row.RowKind.TheVariants.{Zero, AtLeast, Divides, NotDivides}
use Rattle.isl_piece.specs.declared.row.Row.{Row}
use Rattle.isl_piece.specs.Row.{HoldsRow}
use Rattle.isl_piece.specs.System.{HoldRows}
use Rattle.isl_piece.specs.Normal.{same_kind, same_bound, tighter, with_row, merged}

-- ---- tests of kinds
pub same_kind-true : (a b : RowKind) → same_kind a b ≡ true → a ≡ b
same_kind-true Zero Zero e = refl
same_kind-true AtLeast AtLeast e = refl
same_kind-true Divides Divides e = refl
same_kind-true NotDivides NotDivides e = refl
same_kind-true a b e = cc

pub same_kind_itself : (a : RowKind) → same_kind a a ≡ true
same_kind_itself Zero = refl
same_kind_itself AtLeast = refl
same_kind_itself Divides = refl
same_kind_itself NotDivides = refl

-- ---- rows with the same bound
-- they differ at most in the constants of `AtLeast` rows
pub record SameBound (a b : Row) : Type 0 where
  pub kind : a.kind ≡ b.kind
  pub coefs : a.coefs ≡ b.coefs
  pub k : a.k ≡ b.k
  pub constant : (a.kind ≡ AtLeast) ⊎ (a.constant ≡ b.constant)

pub same_bound-true : (a b : Row) → same_bound a b ≡ true → SameBound a b
same_bound-true a b e =
    let p = and_parts _ _ e in
    let q = and_parts _ _ p.0 in
    let r = and_parts _ _ q.0 in
    record {
      kind = same_kind-true a.kind b.kind r.0;
      coefs = (slice_eq-Decides Decides-int_eq a.coefs b.coefs (pointwise int_eq a.coefs b.coefs) refl).0 r.1;
      k = (Decides-int_eq a.k b.k).0 q.1;
      constant = elim (or_cases _ _ p.1) [ inl s ↦ inl (same_kind-true a.kind AtLeast s) | inr t ↦ inr ((Decides-int_eq a.constant b.constant).0 t) ];
    }

pub same_bound-from : (a b : Row) → SameBound a b → same_bound a b ≡ true
same_bound-from a b h = by (same_kind a.kind b.kind) (pointwise int_eq a.coefs b.coefs) (int_eq a.k b.k) (same_kind a.kind AtLeast) (int_eq a.constant b.constant)
    (rw h.kind (same_kind_itself b.kind)) ((slice_eq-Decides Decides-int_eq a.coefs b.coefs (pointwise int_eq a.coefs b.coefs) refl).1 h.coefs) ((Decides-int_eq a.k b.k).1 h.k)
    (elim h.constant [ inl s ↦ inl (rw s refl) | inr t ↦ inr ((Decides-int_eq a.constant b.constant).1 t) ])
  where
    by : (p q r s t : Bool) → p ≡ true → q ≡ true → r ≡ true → (s ≡ true) ⊎ (t ≡ true) → (p && q && r && (s || t)) ≡ true
    by true true true true t e f g h = refl
    by true true true false true e f g h = refl
    by true true true false false e f g (inl h) = h
    by true true true false false e f g (inr h) = h
    by true true false s t e f g h = g
    by true false r s t e f g h = f
    by false q r s t e f g h = e

row_is : (kind other : RowKind) (cs ds : List ℤ) (c d k l : ℤ) → kind ≡ other → cs ≡ ds → c ≡ d → k ≡ l → (let r : Row = record { kind = kind; coefs = cs; constant = c; k = k } in r) ≡ (let s : Row = record { kind = other; coefs = ds; constant = d; k = l } in s)
row_is kind other cs ds c d k l e f g h = cc

int_min_cases : (x y : ℤ) → (int_min x y ≡ x) ⊎ (int_min x y ≡ y)
int_min_cases x y = elim (cases_Bool (int_lt y x)) [ inl t ↦ inr (cond-true (int_lt y x) y x t) | inr f ↦ inl (cond-false (int_lt y x) y x f) ]

-- the tighter of two rows is one of them
pub tighter_cases : (a r : Row) → SameBound a r → (tighter a r ≡ a) ⊎ (tighter a r ≡ r)
tighter_cases a r h = elim (int_min_cases a.constant r.constant) [
  | inl e ↦ inl (row_is a.kind a.kind a.coefs a.coefs (int_min a.constant r.constant) a.constant a.k a.k refl refl e refl)
  | inr e ↦ inr (row_is a.kind r.kind a.coefs r.coefs (int_min a.constant r.constant) r.constant a.k r.k h.kind h.coefs e h.k)
]

-- it holds where both do
least_holds : (v c d : ℤ) → (pos 0 ≤ℤ (v +ℤ int_min c d)) ↔ ((pos 0 ≤ℤ (v +ℤ c)) × (pos 0 ≤ℤ (v +ℤ d)))
least_holds v c d = (
  (λ h. (omega (arith, linear, clamps), omega (arith, linear, clamps))),
  (λ h. let p = h.0 in let q = h.1 in omega (arith, linear, clamps)),
)

pub int_min_itself : (c d : ℤ) → c ≡ d → int_min c d ≡ c
int_min_itself c d e = elim (int_min_cases c d) [ inl f ↦ f | inr f ↦ f ∙ sym e ]

pub tighter_holds : (a r : Row) (xs : List ℤ) → SameBound a r → HoldsRow (tighter a r) xs ↔ (HoldsRow a xs × HoldsRow r xs)
tighter_holds a r xs h = elim h.constant [
  | inl s ↦ let t : r.kind ≡ AtLeast = sym h.kind ∙ s in rw (s, t, sym h.coefs) (least_holds (dot a.coefs xs) a.constant r.constant)
  | inr e ↦
      let same : r ≡ a = row_is r.kind a.kind r.coefs a.coefs r.constant a.constant r.k a.k (sym h.kind) (sym h.coefs) (sym e) (sym h.k) in
      let first : tighter a r ≡ a = row_is a.kind a.kind a.coefs a.coefs (int_min a.constant r.constant) a.constant a.k a.k refl refl (int_min_itself a.constant r.constant e) refl in
      subst (λ (t : Row). HoldsRow t xs ↔ (HoldsRow a xs × HoldsRow r xs)) (sym first) (subst (λ (t : Row). HoldsRow a xs ↔ (HoldsRow a xs × HoldsRow t xs)) (sym same) ((λ p. (p, p)), (λ p. p.0)))
]

-- it has the bound that the first has
same_bound-tighter : (a r b : Row) → SameBound a r → same_bound (tighter a r) b ≡ same_bound a b
same_bound-tighter a r b h = elim h.constant [
  | inl s ↦ rw s refl
  | inr e ↦ ap (λ (t : Row). same_bound t b) (row_is a.kind a.kind a.coefs a.coefs (int_min a.constant r.constant) a.constant a.k a.k refl refl (int_min_itself a.constant r.constant e) refl)
]

-- ---- rows and one more
with_row-here : (a : Row) (rows : List Row) (r : Row) → same_bound a r ≡ true → with_row (a ∷ rows) r ≡ tighter a r ∷ rows
with_row-here a rows r t = cond-true (same_bound a r) (tighter a r ∷ rows) (a ∷ with_row rows r) t

with_row-later : (a : Row) (rows : List Row) (r : Row) → same_bound a r ≡ false → with_row (a ∷ rows) r ≡ a ∷ with_row rows r
with_row-later a rows r f = cond-false (same_bound a r) (tighter a r ∷ rows) (a ∷ with_row rows r) f

-- what holds of each row and of the one more
pub with_row_all : (P : Row → Type 0) (rows : List Row) (r : Row) → All P rows → P r → All P (with_row rows r)
with_row_all P [] r h p = All-cons P r [] p (All-nil P)
with_row_all P (a ∷ rows) r h p = elim (cases_Bool (same_bound a r)) [
  | inl t ↦ rw (with_row-here a rows r t) (All-cons P (tighter a r) rows (either t) (All-tail P a rows h))
  | inr f ↦ rw (with_row-later a rows r f) (All-cons P a (with_row rows r) (All-head P a rows h) (with_row_all P rows r (All-tail P a rows h) p))
]
  where
    either : same_bound a r ≡ true → P (tighter a r)
    either t = elim (tighter_cases a r (same_bound-true a r t)) [ inl e ↦ subst P (sym e) (All-head P a rows h) | inr e ↦ subst P (sym e) p ]

pub with_row_holds : (rows : List Row) (r : Row) (xs : List ℤ) → HoldRows (with_row rows r) xs ↔ (HoldRows rows xs × HoldsRow r xs)
with_row_holds [] r xs = ((λ h. (All-nil (λ s. HoldsRow s xs), All-head (λ s. HoldsRow s xs) r [] h)), (λ h. All-cons (λ s. HoldsRow s xs) r [] h.1 (All-nil (λ s. HoldsRow s xs))))
with_row_holds (a ∷ rows) r xs = elim (cases_Bool (same_bound a r)) [
  | inl t ↦ rw (with_row-here a rows r t) (here (tighter_holds a r xs (same_bound-true a r t)))
  | inr f ↦ rw (with_row-later a rows r f) (later (with_row_holds rows r xs))
]
  where
    here : HoldsRow (tighter a r) xs ↔ (HoldsRow a xs × HoldsRow r xs) → HoldRows (tighter a r ∷ rows) xs ↔ (HoldRows (a ∷ rows) xs × HoldsRow r xs)
    here f = (
      (λ h. let p = f.0 (All-head (λ s. HoldsRow s xs) (tighter a r) rows h) in (All-cons (λ s. HoldsRow s xs) a rows p.0 (All-tail (λ s. HoldsRow s xs) (tighter a r) rows h), p.1)),
      (λ h. All-cons (λ s. HoldsRow s xs) (tighter a r) rows (f.1 (All-head (λ s. HoldsRow s xs) a rows h.0, h.1)) (All-tail (λ s. HoldsRow s xs) a rows h.0)),
    )

    later : HoldRows (with_row rows r) xs ↔ (HoldRows rows xs × HoldsRow r xs) → HoldRows (a ∷ with_row rows r) xs ↔ (HoldRows (a ∷ rows) xs × HoldsRow r xs)
    later f = (
      (λ h. let p = f.0 (All-tail (λ s. HoldsRow s xs) a (with_row rows r) h) in (All-cons (λ s. HoldsRow s xs) a rows (All-head (λ s. HoldsRow s xs) a (with_row rows r) h) p.0, p.1)),
      (λ h. All-cons (λ s. HoldsRow s xs) a (with_row rows r) (All-head (λ s. HoldsRow s xs) a rows h.0) (f.1 (All-tail (λ s. HoldsRow s xs) a rows h.0, h.1))),
    )

-- no two rows have the same bound
abbrev pub AreApart : List Row → Type 0
AreApart [] = Unit {0}
AreApart (a ∷ rows) = All (λ b. same_bound a b ≡ false) rows × AreApart rows

pub with_row_apart : (rows : List Row) (r : Row) → AreApart rows → AreApart (with_row rows r)
with_row_apart [] r h = (All-nil (λ b. same_bound r b ≡ false), tt)
with_row_apart (a ∷ rows) r h = elim (cases_Bool (same_bound a r)) [
  | inl t ↦ rw (with_row-here a rows r t) (All-weaker (λ b. same_bound a b ≡ false) (λ b. same_bound (tighter a r) b ≡ false) (λ b e. same_bound-tighter a r b (same_bound-true a r t) ∙ e) rows h.0, h.1)
  | inr f ↦ rw (with_row-later a rows r f) (with_row_all (λ b. same_bound a b ≡ false) rows r h.0 f, with_row_apart rows r h.1)
]

-- a row with a bound of its own stands last
pub with_row_new : (rows : List Row) (r : Row) → All (λ a. same_bound a r ≡ false) rows → with_row rows r ≡ rows ++ r ∷ []
with_row_new [] r h = refl
with_row_new (a ∷ rows) r h = with_row-later a rows r (All-head (λ b. same_bound b r ≡ false) a rows h) ∙ ap (λ s. a ∷ s) (with_row_new rows r (All-tail (λ b. same_bound b r ≡ false) a rows h))

-- a row with a bound that is there changes the first row that has it
pub with_row_at : (rows : List Row) (i : ℕ) (r d : Row) → i < length rows → All (λ a. same_bound a r ≡ false) (take i rows) → same_bound (get_or rows i d) r ≡ true → with_row rows r ≡ set rows i (tighter (get_or rows i d) r)
with_row_at [] i r d l h t = absurd (omega arith)
with_row_at (a ∷ rows) zero r d l h t = with_row-here a rows r t
with_row_at (a ∷ rows) (suc i) r d l h t =
    with_row-later a rows r (All-head (λ b. same_bound b r ≡ false) a (take i rows) h)
    ∙ ap (λ s. a ∷ s) (with_row_at rows i r d (omega arith) (All-tail (λ b. same_bound b r ≡ false) a (take i rows) h) t)

-- ---- many rows
pub fold_all : (P : Row → Type 0) (kept rows : List Row) → All P kept → All P rows → All P (fold with_row kept rows)
fold_all P kept [] h g = h
fold_all P kept (r ∷ rows) h g = fold_all P (with_row kept r) rows (with_row_all P kept r h (All-head P r rows g)) (All-tail P r rows g)

pub fold_holds : (kept rows : List Row) (xs : List ℤ) → HoldRows (fold with_row kept rows) xs ↔ (HoldRows kept xs × HoldRows rows xs)
fold_holds kept [] xs = ((λ h. (h, All-nil (λ s. HoldsRow s xs))), (λ h. h.0))
fold_holds kept (r ∷ rows) xs =
    let f = with_row_holds kept r xs in
    let g = fold_holds (with_row kept r) rows xs in (
      (λ h. let p = g.0 h in let q = f.0 p.0 in (q.0, All-cons (λ s. HoldsRow s xs) r rows q.1 p.1)),
      (λ h. g.1 (f.1 (h.0, All-head (λ s. HoldsRow s xs) r rows h.1), All-tail (λ s. HoldsRow s xs) r rows h.1)),
    )

pub fold_apart : (kept rows : List Row) → AreApart kept → AreApart (fold with_row kept rows)
fold_apart kept [] h = h
fold_apart kept (r ∷ rows) h = fold_apart (with_row kept r) rows (with_row_apart kept r h)

middle : (P : Row → Type 0) (front : List Row) (r : Row) (rows : List Row) → All P (front ++ r ∷ rows) → P r
middle P [] r rows h = All-head P r rows h
middle P (a ∷ front) r rows h = middle P front r rows (All-tail P a (front ++ r ∷ rows) h)

apart_from : (kept : List Row) (r : Row) (rows : List Row) → AreApart (kept ++ r ∷ rows) → All (λ a. same_bound a r ≡ false) kept
apart_from [] r rows h = All-nil (λ a. same_bound a r ≡ false)
apart_from (a ∷ kept) r rows h = All-cons (λ b. same_bound b r ≡ false) a kept (middle (λ b. same_bound a b ≡ false) kept r rows h.0) (apart_from kept r rows h.1)

fold_itself : (kept rows : List Row) → AreApart (kept ++ rows) → fold with_row kept rows ≡ kept ++ rows
fold_itself kept [] h = sym (append-nil kept)
fold_itself kept (r ∷ rows) h =
    let e : with_row kept r ≡ kept ++ r ∷ [] = with_row_new kept r (apart_from kept r rows h) in
    let f : (kept ++ r ∷ []) ++ rows ≡ kept ++ r ∷ rows = append_assoc kept (r ∷ []) rows in
    ap (λ s. fold with_row s rows) e ∙ fold_itself (kept ++ r ∷ []) rows (rw f h) ∙ f

pub merged_itself : (rows : List Row) → AreApart rows → merged rows ≡ rows
merged_itself rows h = fold_itself [] rows h
