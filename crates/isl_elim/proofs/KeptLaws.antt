-- Definitions that are kept, and those that are opened since they depend on columns that go.
use Rattle.std.proofs.Common.{◌≡◌, ◌≢◌, ◌↔◌, ◌⊎◌, inl, inr, refl, sym, ap, ◌∙◌, arith, cond, Bool, true, false, ℕ, zero, suc, ◌+◌, ◌<◌, ◌≤◌, ℤ, pos, ◌+ℤ◌, ◌*ℤ◌, List, [], ◌∷◌, ◌++◌, length, length-append, get_or, map}
use Rattle.std.specs.Prelude.{nat_eq, ◌||◌, not, AllPairs}
use Rattle.std.specs.Ordering.{int_eq}
use Rattle.std.specs.List.{All, remove}
use Rattle.std.proofs.lemmas.List.{append_assoc, append-nil}
use Rattle.std.proofs.lemmas.List.Elements.{All-nil, All-cons, All-head, All-tail, All-append}
use Rattle.std.proofs.lemmas.List.Folds.{list_any-append}
use Rattle.std.proofs.lemmas.List.Edits.{length-remove}
use Rattle.std.proofs.lemmas.List.Kept.{AllPairs-cons}
use Rattle.isl_math.specs.Dot.{dot}
use Rattle.isl_math.proofs.Ring.{linear}
use Rattle.isl_meter.specs.Gauge.{Gauge}
use Rattle.isl_piece.specs.declared.definition.Definition.{Definition}
use Rattle.isl_piece.specs.declared.row.Row.{Row}
use Rattle.isl_piece.specs.Definition.{defined_value, AreDefinitions}
use Rattle.isl_piece.specs.Row.{HoldsRow}
use Rattle.isl_piece.specs.System.{HoldRows}
use Rattle.isl_elim.specs.Dependents.{names, dependents_from, narrowed}
use Rattle.isl_elim.specs.Elimination.{without_from, without}
use Rattle.isl_elim.specs.Opened.{least_row, most_row, definition_rows, only_from}
use Rattle.isl_elim.proofs.DefiningLaws.{AreDefinedBy, defining, next_number}
use Rattle.isl_elim.specs.Others.{others_of}
use Rattle.isl_elim.proofs.EmptinessLaws.{insert-remove}
use Rattle.isl_elim.proofs.OthersLaws.{among, not_among, without_insert, without_none, others_count, others_distinct, others_inside}

true-or-false : (b : Bool) → (b ≡ true) ⊎ (b ≡ false)
true-or-false true = inl refl
true-or-false false = inr refl

not-both : (b : Bool) → b ≡ true → b ≡ false → ⊥
not-both true e f = grind arith
not-both false e f = grind arith

-- ---- lists without the elements at columns
pub without-append : {A : Type 0} (i : ℕ) (cols : List ℕ) (xs ys : List A) → without_from i cols (xs ++ ys) ≡ without_from i cols xs ++ without_from (i + length xs) cols ys
without-append i cols [] ys = ap (λ (j : ℕ). without_from j cols ys) (omega arith)
without-append i cols (x ∷ xs) ys =
    by (among i cols) x (without_from (suc i) cols (xs ++ ys)) (without_from (suc i) cols xs) (without_from (i + suc (length xs)) cols ys)
    (without-append (suc i) cols xs ys ∙ ap (λ (j : ℕ). without_from (suc i) cols xs ++ without_from j cols ys) (omega arith))
  where
    by : {A : Type 0} (b : Bool) (x : A) (u v w : List A) → u ≡ v ++ w → cond b u (x ∷ u) ≡ cond b v (x ∷ v) ++ w
    by true x u v w e = e
    by {A = A} false x u v w e = ap (λ (zs : List A). x ∷ zs) e

pub without-same_length : {A B : Type 0} (i : ℕ) (cols : List ℕ) (xs : List A) (ys : List B) → length xs ≡ length ys → length (without_from i cols xs) ≡ length (without_from i cols ys)
without-same_length i cols [] [] e = refl
without-same_length i cols [] (y ∷ ys) e = absurd (omega (arith, e))
without-same_length i cols (x ∷ xs) [] e = absurd (omega (arith, e))
without-same_length i cols (x ∷ xs) (y ∷ ys) e = by (among i cols) x y (without_from (suc i) cols xs) (without_from (suc i) cols ys) (without-same_length (suc i) cols xs ys (omega (arith, e)))
  where
    by : {A B : Type 0} (b : Bool) (x : A) (y : B) (us : List A) (vs : List B) → length us ≡ length vs → length (cond b us (x ∷ us)) ≡ length (cond b vs (y ∷ vs))
    by true x y us vs e = e
    by false x y us vs e = ap suc e

pub without-parts : {A : Type 0} (cols : List ℕ) (xs ys : List A) → without_from 0 cols (xs ++ ys) ≡ without_from 0 cols xs ++ without_from (length xs) cols ys
without-parts cols xs ys = without-append 0 cols xs ys ∙ ap (λ (j : ℕ). without_from 0 cols xs ++ without_from j cols ys) (omega arith)

-- one number more
pub without-last : {A : Type 0} (cols : List ℕ) (xs : List A) (x : A) → among (length xs) cols ≡ true → without_from 0 cols (xs ++ x ∷ []) ≡ without_from 0 cols xs
without-last cols xs x e = without-parts cols xs (x ∷ []) ∙ (rw e (append-nil (without_from 0 cols xs)))

pub without-more : {A : Type 0} (cols : List ℕ) (xs : List A) (x : A) → among (length xs) cols ≡ false → without_from 0 cols (xs ++ x ∷ []) ≡ without_from 0 cols xs ++ x ∷ []
without-more cols xs x e = without-parts cols xs (x ∷ []) ∙ (rw e refl)

-- columns of which none is named
dot-without : (i : ℕ) (cols : List ℕ) (cs xs : List ℤ) → ((j : ℕ) → among (i + j) cols ≡ true → get_or cs j (pos 0) ≡ pos 0) → length cs ≡ length xs → dot (without_from i cols cs) (without_from i cols xs) ≡ dot cs xs
dot-without i cols [] [] z e = refl
dot-without i cols [] (x ∷ xs) z e = absurd (omega (arith, e))
dot-without i cols (c ∷ cs) [] z e = absurd (omega (arith, e))
dot-without i cols (c ∷ cs) (x ∷ xs) z e =
    by (among i cols) c x (without_from (suc i) cols cs) (without_from (suc i) cols xs) (dot cs xs)
    (λ a. z 0 (ap (λ (j : ℕ). among j cols) (omega arith) ∙ a))
    (dot-without (suc i) cols cs xs (λ j a. z (suc j) (ap (λ (k : ℕ). among k cols) (omega arith) ∙ a)) (omega (arith, e)))
  where
    by : (b : Bool) (c x : ℤ) (us vs : List ℤ) (d : ℤ) → (b ≡ true → c ≡ pos 0) → dot us vs ≡ d → dot (cond b us (c ∷ us)) (cond b vs (x ∷ vs)) ≡ c *ℤ x +ℤ d
    by true c x us vs d f e = rw (f refl) (omega (arith, linear, e))
    by false c x us vs d f e = omega (arith, linear, e)

unnamed : (cols : List ℕ) (d : Definition) (j : ℕ) → names cols d ≡ false → among j cols ≡ true → get_or d.coefs j (pos 0) ≡ pos 0
unnamed [] d j n a = absurd (not-both false (sym (sym a)) refl)
unnamed (c ∷ cols) d j n a =
    let zero : get_or d.coefs c (pos 0) ≡ pos 0 = by (get_or d.coefs c (pos 0)) (names cols d) n in
    elim (true-or-false (nat_eq c j)) [
      | inl e ↦ let same : c ≡ j = grind arith in ap (λ (k : ℕ). get_or d.coefs k (pos 0)) (sym same) ∙ zero
      | inr e ↦ unnamed cols d j (rest (not (int_eq (get_or d.coefs c (pos 0)) (pos 0))) (names cols d) n) (rw e at a)
    ]
  where
    by : (z : ℤ) (b : Bool) → (not (int_eq z (pos 0)) || b) ≡ false → z ≡ pos 0
    by z b e = grind arith

    rest : (a b : Bool) → (a || b) ≡ false → b ≡ false
    rest true b e = grind arith
    rest false b e = e

pub value-narrowed : (cols : List ℕ) (d : Definition) (xs : List ℤ) → names cols d ≡ false → length d.coefs ≡ length xs → defined_value (narrowed cols d) (without cols xs) ≡ defined_value d xs
value-narrowed cols d xs n e = rw (dot-without 0 cols d.coefs xs (λ j a. unnamed cols d j n (ap (λ (k : ℕ). among k cols) (omega arith) ∙ a)) e) refl

-- ---- definitions, some of them opened
-- each column that is kept, where the first is `column`, has a definition that names none of the others
abbrev pub AreClosed : List ℕ → ℕ → List Definition → Type 0
AreClosed cols column [] = Unit {0}
AreClosed cols column (d ∷ definitions) = (among column cols ≡ false → names cols d ≡ false) × AreClosed cols (suc column) definitions

-- the opened rows hold, and the kept definitions give what stands at their columns, where all definitions give what stands there
pub kept_defined : (g : Gauge) (columns : ℕ) (cols : List ℕ) (definitions : List Definition) (xs zs : List ℤ) → AreDefinitions g (length xs) definitions → AreClosed cols (length xs) definitions → length zs ≡ length definitions
    → (HoldRows (definition_rows columns (only_from (length xs) cols definitions)) (xs ++ zs) × AreDefinedBy (map (narrowed cols) (without_from (length xs) cols definitions)) (without cols xs) (without_from (length xs) cols zs)) ↔ AreDefinedBy definitions xs zs
kept_defined g columns cols [] xs [] a c l = ((λ h. refl), (λ h. (All-nil (λ r. HoldsRow r (xs ++ [])), refl)))
kept_defined g columns cols [] xs (z ∷ zs) a c l = absurd (omega (arith, l))
kept_defined g columns cols (d ∷ definitions) xs [] a c l = absurd (omega (arith, l))
kept_defined g columns cols (d ∷ definitions) xs (z ∷ zs) a c l =
    let wide : length (xs ++ z ∷ []) ≡ suc (length xs) = length-append xs (z ∷ []) ∙ omega arith in
    let ih = kept_defined g columns cols definitions (xs ++ z ∷ []) zs (rw wide a.1) (rw wide c.1) (omega (arith, l)) in
    let rest = rw (wide, next_number xs z zs) at ih in
    elim (true-or-false (among (length xs) cols)) [
      | inl e ↦ rw e (opened (rw (without-last cols xs z e) at rest))
      | inr e ↦ rw e (kept (c.0 e) (rw (without-more cols xs z e) at rest))
    ]
  where
    only : List Definition
    only = only_from (suc (length xs)) cols definitions

    left : List Definition
    left = map (narrowed cols) (without_from (suc (length xs)) cols definitions)

    numbers : List ℤ
    numbers = without_from (suc (length xs)) cols zs

    P : Row → Type 0
    P r = HoldsRow r (xs ++ z ∷ zs)

    opened : ((HoldRows (definition_rows columns only) (xs ++ z ∷ zs) × AreDefinedBy left (without cols xs) numbers) ↔ AreDefinedBy definitions (xs ++ z ∷ []) zs)
        → (HoldRows (least_row columns d ∷ most_row columns d ∷ definition_rows columns only) (xs ++ z ∷ zs) × AreDefinedBy left (without cols xs) numbers) ↔ ((z ≡ defined_value d xs) × AreDefinedBy definitions (xs ++ z ∷ []) zs)
    opened rest =
        let rows = definition_rows columns only in
        let one = defining columns d xs z zs a.0.width a.0.modulus in (
          (λ h.
              let tail = All-tail P (least_row columns d) (most_row columns d ∷ rows) h.0 in
              (one.0 (All-head P (least_row columns d) (most_row columns d ∷ rows) h.0, All-head P (most_row columns d) rows tail), rest.0 (All-tail P (most_row columns d) rows tail, h.1))),
          (λ h.
              let both = one.1 h.0 in
              let more = rest.1 h.1 in
              (All-cons P (least_row columns d) (most_row columns d ∷ rows) both.0 (All-cons P (most_row columns d) rows both.1 more.0), more.1)),
        )

    kept : names cols d ≡ false → ((HoldRows (definition_rows columns only) (xs ++ z ∷ zs) × AreDefinedBy left (without cols xs ++ z ∷ []) numbers) ↔ AreDefinedBy definitions (xs ++ z ∷ []) zs)
        → (HoldRows (definition_rows columns only) (xs ++ z ∷ zs) × ((z ≡ defined_value (narrowed cols d) (without cols xs)) × AreDefinedBy left (without cols xs ++ z ∷ []) numbers)) ↔ ((z ≡ defined_value d xs) × AreDefinedBy definitions (xs ++ z ∷ []) zs)
    kept n rest =
        let same = value-narrowed cols d xs n a.0.width in (
          (λ h. (h.1.0 ∙ same, rest.0 (h.0, h.1.1))),
          (λ h. let more = rest.1 h.1 in (more.0, (h.0 ∙ sym same, more.1))),
        )

-- ---- the columns that depend on others
pub dependents_above : (column : ℕ) (cols : List ℕ) (definitions : List Definition) → All (λ c. column ≤ c) (dependents_from column cols definitions)
dependents_above column cols [] = All-nil (λ c. column ≤ c)
dependents_above column cols (d ∷ definitions) = elim (true-or-false (names cols d)) [
  | inl e ↦ rw e (All-cons (λ c. column ≤ c) column (dependents_from (suc column) (cols ++ column ∷ []) definitions) (omega arith) (λ k z i. let m = dependents_above (suc column) (cols ++ column ∷ []) definitions k z i in omega (arith, m)))
  | inr e ↦ rw e (λ k z i. let m = dependents_above (suc column) cols definitions k z i in omega (arith, m))
]

pub dependents_below : (column : ℕ) (cols : List ℕ) (definitions : List Definition) → All (λ c. c < column + length definitions) (dependents_from column cols definitions)
dependents_below column cols [] = All-nil (λ c. c < column + 0)
dependents_below column cols (d ∷ definitions) = elim (true-or-false (names cols d)) [
  | inl e ↦ rw e (All-cons (λ c. c < column + suc (length definitions)) column (dependents_from (suc column) (cols ++ column ∷ []) definitions) (omega arith) (λ k z i. let m = dependents_below (suc column) (cols ++ column ∷ []) definitions k z i in omega (arith, m)))
  | inr e ↦ rw e (λ k z i. let m = dependents_below (suc column) cols definitions k z i in omega (arith, m))
]

pub dependents_distinct : (column : ℕ) (cols : List ℕ) (definitions : List Definition) → AllPairs (λ a b. a ≢ b) (dependents_from column cols definitions)
dependents_distinct column cols [] = λ i j z l m. absurd (omega (arith, l, m))
dependents_distinct column cols (d ∷ definitions) = elim (true-or-false (names cols d)) [
  | inl e ↦ rw e (AllPairs-cons (λ a b. a ≢ b) column (dependents_from (suc column) (cols ++ column ∷ []) definitions)
      (λ k z i s. let m = dependents_above (suc column) (cols ++ column ∷ []) definitions k z i in omega (arith, m, s))
      (dependents_distinct (suc column) (cols ++ column ∷ []) definitions))
  | inr e ↦ rw e (dependents_distinct (suc column) cols definitions)
]

-- ---- what depends on no column that goes
or_right : (a : Bool) → (a || true) ≡ true
or_right true = refl
or_right false = refl

among_self : (c : ℕ) (cols : List ℕ) → among c (c ∷ cols) ≡ true
among_self c cols = let e : nat_eq c c ≡ true = grind arith in rw e refl

names_beyond : (cols : List ℕ) (d : Definition) → All (λ c. length d.coefs ≤ c) cols → names cols d ≡ false
names_beyond [] d h = refl
names_beyond (c ∷ cols) d h =
    let rest = names_beyond cols d (All-tail (λ c. length d.coefs ≤ c) c cols h) in
    let far = All-head (λ c. length d.coefs ≤ c) c cols h in
    let zero : get_or d.coefs c (pos 0) ≡ pos 0 = beyond d.coefs c far in
    rw (zero, rest) refl
  where
    beyond : (cs : List ℤ) (c : ℕ) → length cs ≤ c → get_or cs c (pos 0) ≡ pos 0
    beyond [] c l = refl
    beyond (a ∷ cs) zero l = absurd (omega arith)
    beyond (a ∷ cs) (suc c) l = beyond cs c (omega arith)

pub dependents_closed : (g : Gauge) (column : ℕ) (cols all : List ℕ) (definitions : List Definition) → AreDefinitions g column definitions → cols ++ dependents_from column cols definitions ≡ all → AreClosed all column definitions
dependents_closed g column cols all [] a is = tt
dependents_closed g column cols all (d ∷ definitions) a is = elim (true-or-false (names cols d)) [
  | inl e ↦
      let more = dependents_from (suc column) (cols ++ column ∷ []) definitions in
      let with : cols ++ column ∷ more ≡ all = rw e at is in
      let there : among column (cols ++ column ∷ more) ≡ true = list_any-append (λ c. nat_eq c column) cols (column ∷ more) ∙ ap (λ b. among column cols || b) (among_self column more) ∙ or_right (among column cols) in
      ((λ f. absurd (not-both (among column all) (rw with at there) f)), dependents_closed g (suc column) (cols ++ column ∷ []) all definitions a.1 (append_assoc cols (column ∷ []) more ∙ with))
  | inr e ↦
      let more = dependents_from (suc column) cols definitions in
      let with : cols ++ more ≡ all = rw e at is in
      let width = a.0.width in
      let far : names more d ≡ false = names_beyond more d (λ k z i. let m = dependents_above (suc column) cols definitions k z i in omega (arith, m, width)) in
      let none : names (cols ++ more) d ≡ false = list_any-append (λ c. not (int_eq (get_or d.coefs c (pos 0)) (pos 0))) cols more ∙ rw (e, far) refl in
      ((λ f. rw with at none), dependents_closed g (suc column) cols all definitions a.1 with)
]

-- ---- how many columns are left
length-without_by : (k : ℕ) (cols : List ℕ) (xs : List ℤ) → length cols ≡ k → AllPairs (λ a b. a ≢ b) cols → All (λ c. c < length xs) cols → length (without cols xs) + k ≡ length xs
length-without_by zero [] xs e d a = let n = ap (λ (ys : List ℤ). length ys) (without_none 0 xs) in omega (arith, n)
length-without_by zero (c ∷ cols) xs e d a = absurd (omega (arith, e))
length-without_by (suc k) [] xs e d a = absurd (omega (arith, e))
length-without_by (suc k) (c ∷ cols) xs e d a =
    let inside = All-head (λ c. c < length xs) c cols a in
    let there = among_self c cols in
    let short = length-remove xs c inside in
    let again = insert-remove xs c inside in
    let same = without_insert (c ∷ cols) c (remove xs c) (get_or xs c (pos 0)) there (omega (arith, short, inside)) in
    let count = others_count c (c ∷ cols) d there in
    let low = others_inside (length xs) c (c ∷ cols) inside a in
    let ih = length-without_by k (others_of c (c ∷ cols)) (remove xs c) (omega (arith, count, e)) (others_distinct c (c ∷ cols) d) (λ i z l. let m = low i z l in omega (arith, m, short)) in
    let n = ap (λ (ys : List ℤ). length (without (c ∷ cols) ys)) again in
    let m = ap (λ (ys : List ℤ). length ys) same in
    omega (arith, ih, n, m, short, inside)

pub length-without : (cols : List ℕ) (xs : List ℤ) → AllPairs (λ a b. a ≢ b) cols → All (λ c. c < length xs) cols → length (without cols xs) + length cols ≡ length xs
length-without cols xs d a = length-without_by (length cols) cols xs refl d a

-- columns behind a point leave it as it is
without_front : {A : Type 0} (i : ℕ) (cols more : List ℕ) (xs : List A) → All (λ c. i + length xs ≤ c) more → without_from i (cols ++ more) xs ≡ without_from i cols xs
without_front i cols more [] a = refl
without_front i cols more (x ∷ xs) a =
    let rest = without_front (suc i) cols more xs (λ k z l. let m = a k z l in omega (arith, m)) in
    let none : among i more ≡ false = not_among i more (λ k z l e. let m = a k z l in omega (arith, m, e)) in
    let same : among i (cols ++ more) ≡ among i cols = list_any-append (λ c. nat_eq c i) cols more ∙ ap (λ b. among i cols || b) none ∙ or_false (among i cols) in
    rw (same, rest) refl
  where
    or_false : (b : Bool) → (b || false) ≡ b
    or_false true = refl
    or_false false = refl

pub without_dependents : {A : Type 0} (free : ℕ) (cols : List ℕ) (definitions : List Definition) (xs : List A) → length xs ≤ free → without_from 0 (cols ++ dependents_from free cols definitions) xs ≡ without_from 0 cols xs
without_dependents free cols definitions xs l = without_front 0 cols (dependents_from free cols definitions) xs (λ k z i. let m = dependents_above free cols definitions k z i in omega (arith, m, l))

-- ---- the columns that go are different ones, and columns
AllPairs-append : (xs ys : List ℕ) (n : ℕ) → AllPairs (λ a b. a ≢ b) xs → AllPairs (λ a b. a ≢ b) ys → All (λ c. c < n) xs → All (λ c. n ≤ c) ys → AllPairs (λ a b. a ≢ b) (xs ++ ys)
AllPairs-append [] ys n d e a b = e
AllPairs-append (x ∷ xs) ys n d e a b =
    let low = All-head (λ c. c < n) x xs a in
    AllPairs-cons (λ a b. a ≢ b) x (xs ++ ys)
    (All-append (λ c. x ≢ c) xs ys (λ k z i. d 0 (suc k) z (omega arith) (omega (arith, i))) (λ k z i s. let m = b k z i in omega (arith, m, s, low)))
    (AllPairs-append xs ys n (λ i j z l m. d (suc i) (suc j) z (omega (arith, l)) (omega (arith, m))) e (All-tail (λ c. c < n) x xs a) b)

pub gone_distinct : (free : ℕ) (cols : List ℕ) (definitions : List Definition) → AllPairs (λ a b. a ≢ b) cols → All (λ c. c < free) cols → AllPairs (λ a b. a ≢ b) (cols ++ dependents_from free cols definitions)
gone_distinct free cols definitions d a = AllPairs-append cols (dependents_from free cols definitions) free d (dependents_distinct free cols definitions) a (dependents_above free cols definitions)

pub gone_inside : (free columns : ℕ) (cols : List ℕ) (definitions : List Definition) → free + length definitions ≡ columns → All (λ c. c < free) cols → All (λ c. c < columns) (cols ++ dependents_from free cols definitions)
gone_inside free columns cols definitions e a = All-append (λ c. c < columns) cols (dependents_from free cols definitions) (λ k z i. let m = a k z i in omega (arith, m, e)) (λ k z i. let m = dependents_below free cols definitions k z i in omega (arith, m, e))

-- ---- no column is opened where one that is free goes
pub only_none : (free col : ℕ) (definitions : List Definition) → col < free → only_from free (col ∷ []) definitions ≡ []
only_none free col [] l = refl
only_none free col (d ∷ definitions) l = let no : nat_eq col free ≡ false = grind arith in let rest = only_none (suc free) col definitions (omega arith) in rw no rest
