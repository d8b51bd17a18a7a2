-- What is left of a system without columns, and those that depend on them.
use Rattle.std.proofs.Common.{◌≡◌, ◌≢◌, ◌↔◌, refl, sym, ap, subst, ◌∙◌, arith, cond, Bool, true, false, ℕ, zero, suc, ◌+◌, ◌-◌, ◌<◌, ◌≤◌, ℤ, List, [], ◌∷◌, ◌++◌, length, length-append, take, drop, drop-cons, add-one, get_or, map, pos, ◌<ℤ◌, to_z-of_z}
use Rattle.std.specs.Prelude.{AllPairs}
use Rattle.std.specs.List.{All}
use Rattle.std.proofs.Math.Seq.{take-append_seam}
use Rattle.std.proofs.lemmas.List.{length-take-le, length-map, take-append-drop, take_more, take_all, append_assoc, append-nil, append_cancel_left}
use Rattle.std.proofs.lemmas.List.Elements.{All-append, All-nil, All-cons, All-head, All-tail}
use Rattle.isl_math.proofs.ListLaws.{All-parts}
use Rattle.isl_meter.specs.Gauge.{Gauge, IsWithin}
use Rattle.isl_piece.specs.declared.definition.Definition.{Definition}
use Rattle.isl_piece.specs.declared.system.System.{System}
use Rattle.isl_piece.specs.Definition.{with_defined}
use Rattle.isl_piece.specs.Row.{HoldsRow, IsWellFormed, IsRowWithin}
use Rattle.isl_piece.specs.System.{HoldRows, HoldsSystem, IsSystemWithin, free_columns, with_definition}
use Rattle.isl_piece.proofs.DefinedLaws.{definition_at}
use Rattle.isl_elim.specs.Dependents.{names, narrowed, dependents_from, with_dependents, kept_definitions}
use Rattle.isl_elim.specs.Elimination.{without, without_from, HoldsAlong}
use Rattle.isl_elim.specs.Opened.{definition_rows, only_from, opened_rows}
use Rattle.isl_elim.proofs.DefiningLaws.{AreDefinedBy, defined_by, defined_numbers, defined_numbers-are, length-defined_by, front_length}
use Rattle.isl_elim.proofs.EmptinessLaws.{zeros}
use Rattle.isl_elim.proofs.OthersLaws.{among}
use Rattle.isl_elim.proofs.KeptLaws.{without-append, without-parts, without-last, without-more, without-same_length, without_dependents, length-without, kept_defined, dependents_closed, gone_distinct, gone_inside}

append_split : (xs ys us vs : List ℤ) → length xs ≡ length us → xs ++ ys ≡ us ++ vs → (xs ≡ us) × (ys ≡ vs)
append_split xs ys us vs e q =
    let front : xs ≡ us = sym (take-append_seam xs ys) ∙ ap (take (length xs)) q ∙ ap (λ (k : ℕ). take k (us ++ vs)) e ∙ take-append_seam us vs in
    (front, append_cancel_left us ys vs (ap (λ (zs : List ℤ). zs ++ ys) (sym front) ∙ q))

-- ---- how many columns are left
-- the free columns, without those that go
free_left : (g : Gauge) (s : System) (cols : List ℕ) (xs : List ℤ) → AllPairs (λ a b. a ≢ b) cols → All (λ c. c < free_columns s) cols → length xs ≡ free_columns s → length (without (with_dependents s cols) xs) + length cols ≡ free_columns s
free_left g s cols xs d a l =
    let same = ap (λ (ys : List ℤ). length ys) (without_dependents (free_columns s) cols s.definitions xs (omega (arith, l))) in
    let count = length-without cols xs d (rw l a) in
    omega (arith, same, count, l)

-- of coefficients, or of numbers: those of the free columns, and one for each definition that is kept
pub width_left : (g : Gauge) (s : System) (cols : List ℕ) (xs : List ℤ) (definitions : List Definition) → AllPairs (λ a b. a ≢ b) cols → All (λ c. c < free_columns s) cols → length xs ≡ free_columns s + length definitions
    → length (without (with_dependents s cols) xs) ≡ (free_columns s - length cols) + length (without_from (free_columns s) (with_dependents s cols) definitions)
width_left g s cols xs definitions d a l =
    let free = free_columns s in
    let gone = with_dependents s cols in
    let front = length-take-le free xs (omega (arith, l)) in
    let join = take-append-drop free xs in
    let both = ap (λ (ys : List ℤ). length ys) join in
    let sum = length-append (take free xs) (drop free xs) in
    let parts = ap (λ (ys : List ℤ). length ys) (ap (without gone) (sym join) ∙ without-parts gone (take free xs) (drop free xs)) in
    let halves = length-append (without gone (take free xs)) (without_from (length (take free xs)) gone (drop free xs)) in
    let at = ap (λ (k : ℕ). length (without_from k gone (drop free xs))) front in
    let same = without-same_length free gone (drop free xs) definitions (omega (arith, front, both, sum, l)) in
    let count = free_left g s cols (take free xs) d a front in
    omega (arith, parts, halves, at, same, count)

pub count_left : (g : Gauge) (s : System) (cols : List ℕ) → IsSystemWithin g s → AllPairs (λ a b. a ≢ b) cols → All (λ c. c < free_columns s) cols
    → ((free_columns s - length cols) + length (kept_definitions s cols) ≡ s.columns - length (with_dependents s cols)) × (length cols ≤ free_columns s)
count_left g s cols w d a =
    let free = free_columns s in
    let gone = with_dependents s cols in
    let c = w.count in
    let whole = zeros s.columns in
    let wide = width_left g s cols whole.0 s.definitions d a (let l = whole.1 in omega (arith, l, c)) in
    let count = length-without gone whole.0 (gone_distinct free cols s.definitions d a) (rw whole.1 (gone_inside free s.columns cols s.definitions (omega (arith, c)) a)) in
    let kept = length-map (without_from free gone s.definitions) (narrowed gone) in
    let front = front_length s whole.0 c whole.1 in
    let first = free_left g s cols (take free whole.0) d a front.0 in
    let l = whole.1 in
    (omega (arith, wide, count, kept, l), omega (arith, first))

-- ---- where the rows hold, the system does
module _ (g : Gauge) (s : System) (cols : List ℕ) (w : IsSystemWithin g s) (d : AllPairs (λ a b. a ≢ b) cols) (a : All (λ c. c < free_columns s) cols) (point : List ℤ) (l : length point ≡ free_columns s - length cols) where
  abbrev free : ℕ
  free = free_columns s

  abbrev gone : List ℕ
  gone = with_dependents s cols

  abbrev kept : List Definition
  kept = kept_definitions s cols

  definitions_left : (xs zs : List ℤ) → length xs ≡ free → length zs ≡ length s.definitions
      → (HoldRows (definition_rows s.columns (only_from free gone s.definitions)) (xs ++ zs) × AreDefinedBy kept (without gone xs) (without_from free gone zs)) ↔ AreDefinedBy s.definitions xs zs
  definitions_left xs zs e f =
      rw e at (kept_defined g s.columns gone s.definitions xs zs (rw e w.definitions) (rw e (dependents_closed g free cols gone s.definitions w.definitions refl)) f)

  pub left_forth : HoldsAlong s.columns gone (HoldRows (opened_rows s gone)) (with_defined kept point) → HoldsAlong free cols (HoldsSystem s) point
  left_forth h =
      let whole = h.0 in
      let xs = take free whole in
      let zs = drop free whole in
      let join : xs ++ zs ≡ whole = take-append-drop free whole in
      let front = front_length s whole w.count h.1 in
      let numbers = defined_numbers kept point in
      let are = defined_numbers-are kept point in
      let at : without_from (length xs) gone zs ≡ without_from free gone zs = ap (λ (k : ℕ). without_from k gone zs) front.0 in
      let parts : without gone xs ++ without_from free gone zs ≡ point ++ numbers =
      ap (λ (ys : List ℤ). without gone xs ++ ys) (sym at) ∙ sym (without-parts gone xs zs) ∙ ap (without gone) join ∙ h.2 ∙ defined_by kept point numbers are in
      let count = free_left g s cols xs d a front.0 in
      let split = append_split (without gone xs) (without_from free gone zs) point numbers (omega (arith, count, l)) parts in
      let rows = All-parts (λ r. HoldsRow r whole) s.rows (definition_rows s.columns (only_from free gone s.definitions)) h.3 in
      let defined = (definitions_left xs zs front.0 front.1).0 (rw join rows.1, rw (split.0, split.1) are) in
      let full : with_defined s.definitions xs ≡ whole = defined_by s.definitions xs zs defined ∙ join in
      let same = without_dependents free cols s.definitions xs (let n = front.0 in omega (arith, n)) in
      (xs, front.0, sym same ∙ split.0, rw full rows.0)

  pub left_back : HoldsAlong free cols (HoldsSystem s) point → HoldsAlong s.columns gone (HoldRows (opened_rows s gone)) (with_defined kept point)
  left_back h =
      let xs = h.0 in
      let zs = defined_numbers s.definitions xs in
      let are = defined_numbers-are s.definitions xs in
      let count = length-defined_by s.definitions xs zs are in
      let full = defined_by s.definitions xs zs are in
      let both = (definitions_left xs zs h.1 count).1 are in
      let same = without_dependents free cols s.definitions xs (let n = h.1 in omega (arith, n)) in
      let at : without_from (length xs) gone zs ≡ without_from free gone zs = ap (λ (k : ℕ). without_from k gone zs) h.1 in
      let short : without gone (xs ++ zs) ≡ with_defined kept point =
      without-parts gone xs zs ∙ ap (λ (ys : List ℤ). without gone xs ++ ys) at ∙ sym (defined_by kept (without gone xs) (without_from free gone zs) both.1) ∙ ap (with_defined kept) (same ∙ h.2) in
      let sum = length-append xs zs in
      let c = w.count in
      let n = h.1 in
      (xs ++ zs, omega (arith, sum, count, n, c), short, All-append (λ r. HoldsRow r (xs ++ zs)) s.rows (definition_rows s.columns (only_from free gone s.definitions)) (rw full at h.3) both.0)

-- ---- steps of the code
-- the columns that go, so far
pub gone_first : (s : System) (cols : List ℕ) → cols ++ dependents_from (free_columns s + 0) cols (drop 0 s.definitions) ≡ with_dependents s cols
gone_first s cols = ap (λ (k : ℕ). cols ++ dependents_from k cols s.definitions) (omega arith)

gone_step : (s : System) (gone all : List ℕ) (i : ℕ) (d : Definition) → i < length s.definitions → gone ++ dependents_from (free_columns s + i) gone (drop i s.definitions) ≡ all
    → gone ++ dependents_from (free_columns s + i) gone (get_or s.definitions i d ∷ drop (i + 1) s.definitions) ≡ all
gone_step s gone all i d l e =
    let next : drop i s.definitions ≡ get_or s.definitions i d ∷ drop (i + 1) s.definitions = rw add-one (drop-cons s.definitions i d l) in
    ap (λ (ds : List Definition). gone ++ dependents_from (free_columns s + i) gone ds) (sym next) ∙ e

pub gone_named : (s : System) (gone all : List ℕ) (i : ℕ) (d : Definition) → i < length s.definitions → names gone (get_or s.definitions i d) ≡ true → gone ++ dependents_from (free_columns s + i) gone (drop i s.definitions) ≡ all
    → (gone ++ (free_columns s + i) ∷ []) ++ dependents_from (free_columns s + (i + 1)) (gone ++ (free_columns s + i) ∷ []) (drop (i + 1) s.definitions) ≡ all
gone_named s gone all i d l n e =
    let column = free_columns s + i in
    let more = gone ++ column ∷ [] in
    let with : gone ++ column ∷ dependents_from (suc column) more (drop (i + 1) s.definitions) ≡ all = rw n at (gone_step s gone all i d l e) in
    append_assoc gone (column ∷ []) (dependents_from (free_columns s + (i + 1)) more (drop (i + 1) s.definitions))
    ∙ ap (λ (k : ℕ). gone ++ column ∷ dependents_from k more (drop (i + 1) s.definitions)) (omega arith) ∙ with

pub gone_unnamed : (s : System) (gone all : List ℕ) (i : ℕ) (d : Definition) → i < length s.definitions → names gone (get_or s.definitions i d) ≡ false → gone ++ dependents_from (free_columns s + i) gone (drop i s.definitions) ≡ all
    → gone ++ dependents_from (free_columns s + (i + 1)) gone (drop (i + 1) s.definitions) ≡ all
gone_unnamed s gone all i d l n e =
    let with : gone ++ dependents_from (suc (free_columns s + i)) gone (drop (i + 1) s.definitions) ≡ all = rw n at (gone_step s gone all i d l e) in
    ap (λ (k : ℕ). gone ++ dependents_from k gone (drop (i + 1) s.definitions)) (omega arith) ∙ with

pub gone_last : (s : System) (gone all : List ℕ) (n : ℕ) → n ≡ length s.definitions → gone ++ dependents_from (free_columns s + n) gone (drop n s.definitions) ≡ all → gone ≡ all
gone_last s gone all n l e =
    let none : drop n s.definitions ≡ [] = rw l (drop_all s.definitions) in
    sym (append-nil gone) ∙ ap (λ (ds : List Definition). gone ++ dependents_from (free_columns s + n) gone ds) (sym none) ∙ e
  where
    drop_all : (ds : List Definition) → drop (length ds) ds ≡ []
    drop_all [] = refl
    drop_all (d ∷ ds) = drop_all ds

-- numbers at other columns, so far
pub without_gone : (cols : List ℕ) (numbers : List ℤ) (i : ℕ) → i < length numbers → among i cols ≡ true → without cols (take (i + 1) numbers) ≡ without cols (take i numbers)
without_gone cols numbers i l e =
    let n = length-take-le i numbers (omega arith) in
    ap (without cols) (take_more numbers i (pos 0) l) ∙ without-last cols (take i numbers) (get_or numbers i (pos 0)) (ap (λ (k : ℕ). among k cols) n ∙ e)

pub without_next : (cols : List ℕ) (numbers : List ℤ) (i : ℕ) → i < length numbers → among i cols ≡ false → without cols (take (i + 1) numbers) ≡ without cols (take i numbers) ++ get_or numbers i (pos 0) ∷ []
without_next cols numbers i l e =
    let n = length-take-le i numbers (omega arith) in
    ap (without cols) (take_more numbers i (pos 0) l) ∙ without-more cols (take i numbers) (get_or numbers i (pos 0)) (ap (λ (k : ℕ). among k cols) n ∙ e)

pub ruleset gone_steps = (to_z-of_z, gone_first, gone_named, gone_unnamed, gone_last, without_gone, without_next)

-- the columns that are left up to one of the definitions
pub record IsLeftUpTo (g : Gauge) (s : System) (cols : List ℕ) (i : ℕ) (left : System) : Type 0 where
  pub definitions : left.definitions ≡ map (narrowed (with_dependents s cols)) (without_from (free_columns s) (with_dependents s cols) (take i s.definitions))
  pub columns : left.columns ≡ (free_columns s - length cols) + length left.definitions
  pub within : IsSystemWithin g left

pub left_first : (g : Gauge) (s : System) (cols : List ℕ) → IsLeftUpTo g s cols 0 (record { columns = free_columns s - length cols; definitions = []; rows = [] })
left_first g s cols = record {
  definitions = refl;
  columns = omega arith;
  within = record { rows = All-nil (IsWellFormed (free_columns s - length cols)); within = All-nil (IsRowWithin g); count = omega arith; definitions = tt };
}

step_at : (s : System) (cols : List ℕ) (i : ℕ) (d : Definition) → i < length s.definitions
    → without_from (free_columns s) (with_dependents s cols) (take (i + 1) s.definitions) ≡ without_from (free_columns s) (with_dependents s cols) (take i s.definitions) ++ without_from (free_columns s + i) (with_dependents s cols) (get_or s.definitions i d ∷ [])
step_at s cols i d l =
    let gone = with_dependents s cols in
    let n = length-take-le i s.definitions (omega arith) in
    ap (without_from (free_columns s) gone) (take_more s.definitions i d l) ∙ without-append (free_columns s) gone (take i s.definitions) (get_or s.definitions i d ∷ [])
    ∙ ap (λ (k : ℕ). without_from (free_columns s) gone (take i s.definitions) ++ without_from (free_columns s + k) gone (get_or s.definitions i d ∷ [])) n

pub left_gone : (g : Gauge) (s : System) (cols : List ℕ) (i : ℕ) (d : Definition) (left : System) → i < length s.definitions → among (free_columns s + i) (with_dependents s cols) ≡ true → IsLeftUpTo g s cols i left → IsLeftUpTo g s cols (i + 1) left
left_gone g s cols i d left l e h =
    let gone = with_dependents s cols in
    let before = without_from (free_columns s) gone (take i s.definitions) in
    let same : without_from (free_columns s) gone (take (i + 1) s.definitions) ≡ before = step_at s cols i d l ∙ (rw e (append-nil before)) in
    record { definitions = h.definitions ∙ ap (map (narrowed gone)) (sym same); columns = h.columns; within = h.within }

pub left_next : (g : Gauge) (s : System) (cols : List ℕ) (i : ℕ) (d : Definition) (left new : System) → i < length s.definitions → among (free_columns s + i) (with_dependents s cols) ≡ false → IsLeftUpTo g s cols i left
    → new ≡ with_definition left (narrowed (with_dependents s cols) (get_or s.definitions i d)) → IsSystemWithin g new → IsLeftUpTo g s cols (i + 1) new
left_next g s cols i d left new l e h is w =
    let gone = with_dependents s cols in
    let one = get_or s.definitions i d in
    let before = without_from (free_columns s) gone (take i s.definitions) in
    let same : without_from (free_columns s) gone (take (i + 1) s.definitions) ≡ before ++ one ∷ [] = step_at s cols i d l ∙ (rw e refl) in
    let all : new.definitions ≡ map (narrowed gone) before ++ narrowed gone one ∷ [] = ap (λ (t : System). t.definitions) is ∙ ap (λ (ds : List Definition). ds ++ narrowed gone one ∷ []) h.definitions in
    let sum = length-append left.definitions (narrowed gone one ∷ []) in
    let count = ap (λ (t : System). length t.definitions) is in
    let columns = ap (λ (t : System). t.columns) is in
    let c = h.columns in
    record { definitions = all ∙ sym (map-append before one) ∙ ap (map (narrowed gone)) (sym same); columns = omega (arith, columns, c, count, sum); within = w }
  where
    map-append : (ds : List Definition) (one : Definition) → map (narrowed (with_dependents s cols)) (ds ++ one ∷ []) ≡ map (narrowed (with_dependents s cols)) ds ++ narrowed (with_dependents s cols) one ∷ []
    map-append [] one = refl
    map-append (first ∷ ds) one = ap (λ (more : List Definition). narrowed (with_dependents s cols) first ∷ more) (map-append ds one)

-- a definition that is kept is one over the columns that are left so far
pub left_width : (g : Gauge) (s : System) (cols : List ℕ) (i : ℕ) (d : Definition) (left : System) → IsSystemWithin g s → AllPairs (λ a b. a ≢ b) cols → All (λ c. c < free_columns s) cols → i < length s.definitions → IsLeftUpTo g s cols i left
    → length (without (with_dependents s cols) (get_or s.definitions i d).coefs) ≡ left.columns
left_width g s cols i d left w e a l h =
    let gone = with_dependents s cols in
    let here = definition_at g (free_columns s) s.definitions i d w.definitions l in
    let before = take i s.definitions in
    let n = length-take-le i s.definitions (omega arith) in
    let width = here.width in
    let wide = width_left g s cols (get_or s.definitions i d).coefs before e a (omega (arith, width, n)) in
    let kept = length-map (without_from (free_columns s) gone before) (narrowed gone) in
    let same = ap (λ (ds : List Definition). length ds) h.definitions in
    let c = h.columns in
    omega (arith, wide, kept, same, c)

all_without : (P : ℤ → Type 0) (i : ℕ) (cols : List ℕ) (xs : List ℤ) → All P xs → All P (without_from i cols xs)
all_without P i cols [] a = All-nil P
all_without P i cols (x ∷ xs) a = by (among i cols) (All-head P x xs a) (all_without P (suc i) cols xs (All-tail P x xs a))
  where
    by : (b : Bool) → P x → All P (without_from (suc i) cols xs) → All P (cond b (without_from (suc i) cols xs) (x ∷ without_from (suc i) cols xs))
    by true h more = more
    by false h more = All-cons P x (without_from (suc i) cols xs) h more

pub narrowed_within : (g : Gauge) (s : System) (cols : List ℕ) (i : ℕ) (d : Definition) → IsSystemWithin g s → i < length s.definitions
    → (pos 0 <ℤ (get_or s.definitions i d).k) × All (IsWithin g) (without (with_dependents s cols) (get_or s.definitions i d).coefs) × IsWithin g (get_or s.definitions i d).constant × IsWithin g (get_or s.definitions i d).k
narrowed_within g s cols i d w l =
    let here = definition_at g (free_columns s) s.definitions i d w.definitions l in
    (here.modulus, all_without (IsWithin g) 0 (with_dependents s cols) (get_or s.definitions i d).coefs here.coefs, here.constant, here.k)

pub left_last : (g : Gauge) (s : System) (cols : List ℕ) (n : ℕ) (left : System) → IsSystemWithin g s → AllPairs (λ a b. a ≢ b) cols → All (λ c. c < free_columns s) cols → n ≡ length s.definitions → IsLeftUpTo g s cols n left
    → (left.definitions ≡ kept_definitions s cols) × (left.columns ≡ s.columns - length (with_dependents s cols)) × IsSystemWithin g left
left_last g s cols n left w d a l h =
    let gone = with_dependents s cols in
    let all : take n s.definitions ≡ s.definitions = take_all n s.definitions (omega (arith, l)) in
    let kept : left.definitions ≡ kept_definitions s cols = h.definitions ∙ ap (λ (ds : List Definition). map (narrowed gone) (without_from (free_columns s) gone ds)) all in
    let count = (count_left g s cols w d a).0 in
    let same = ap (λ (ds : List Definition). length ds) kept in
    let c = h.columns in
    (kept, omega (arith, c, same, count), h.within)

pub modulus_at : (g : Gauge) (s : System) (i : ℕ) (d : Definition) → IsSystemWithin g s → i < length s.definitions → d ≡ get_or s.definitions i d → pos 0 <ℤ d.k
modulus_at g s i d w l at = subst (λ (e : Definition). pos 0 <ℤ e.k) (sym at) (definition_at g (free_columns s) s.definitions i d w.definitions l).modulus

pub left_with : (g : Gauge) (s : System) (cols : List ℕ) (i : ℕ) (d e : Definition) (left new : System) → IsSystemWithin g s → i < length s.definitions → among (free_columns s + i) (with_dependents s cols) ≡ false → IsLeftUpTo g s cols i left
    → d ≡ get_or s.definitions i d → e ≡ narrowed (with_dependents s cols) d → new ≡ with_definition left e → (All (IsWithin g) e.coefs → IsWithin g e.constant → IsWithin g e.k → IsSystemWithin g new) → IsLeftUpTo g s cols (i + 1) new
left_with g s cols i d e left new w l m h at is made f =
    let gone = with_dependents s cols in
    let facts = narrowed_within g s cols i d w l in
    let all : e ≡ narrowed gone (get_or s.definitions i d) = is ∙ ap (narrowed gone) at in
    left_next g s cols i d left new l m h (made ∙ ap (with_definition left) all)
    (f (subst (λ (x : Definition). All (IsWithin g) x.coefs) (sym all) facts.1) (subst (λ (x : Definition). IsWithin g x.constant) (sym all) facts.2) (subst (λ (x : Definition). IsWithin g x.k) (sym all) facts.3))

pub ruleset left_steps = (gone_steps, left_first, left_gone, left_next, left_width, narrowed_within, left_last)
