-- One system without others.
use Rattle.std.proofs.Common.{◌≡◌, ◌≢◌, ◌↔◌, ◌⊎◌, inl, inr, refl, sym, ap, ◌∙◌, subst, arith, ℕ, zero, suc, ◌+◌, ◌*◌, ◌<◌, ◌≤◌, ℤ, pos, List, [], ◌∷◌}
use Rattle.std.proofs.Common.{◌++◌, append-nil, append_assoc, length, length-append, get_or, take, Bool, false}
use Rattle.std.specs.List.{All, Any, AllPairs}
use Rattle.std.specs.Prelude.{IfOk, IsTrue, MatchResult, Result, Ok, Err}
use Rattle.std.proofs.lemmas.Bool.{false≢true}
use Rattle.std.proofs.lemmas.List.{get_or_at, take_all, take_at, take_more}
use Rattle.std.proofs.lemmas.List.Elements.{All-nil, All-cons, All-append, All-take}
use Rattle.isl_math.proofs.ListLaws.{All-parts, All-last, Any-parts, Any-left, Any-right, Any-one, Any-first, Any-none}
use Rattle.isl_meter.specs.declared.Cut.{Cut}
use Rattle.isl_meter.specs.declared.Cut.TheVariants.{NoMemory}
use Rattle.isl_meter.specs.Gauge.{Gauge, IsAnsweredWithin, IsCharged}
use Rattle.isl_meter.proofs.CutLemmas.{IsAnsweredWithin-ok, IsCharged_refl, IsCharged_trans, charges}
use Rattle.isl_piece.specs.declared.row.Row.{Row}
use Rattle.isl_piece.specs.declared.definition.Definition.{Definition}
use Rattle.isl_piece.specs.declared.system.System.{System}
use Rattle.isl_piece.specs.Definition.{with_defined}
use Rattle.isl_piece.specs.Meet.{meeting_of, met, over_same_columns, IsPlaced}
use Rattle.isl_piece.specs.Placed.{both_systems}
use Rattle.isl_piece.specs.Row.{HoldsRow, IsWellFormed, IsRowWithin}
use Rattle.isl_piece.specs.System.{HoldRows, HoldsSystem, IsSystemWithin, free_columns}
use Rattle.isl_piece.proofs.MeetLaws.{IsPlaced-first, IsPlaced-more, both_same, meeting_more}
use Rattle.isl_ledger.specs.Difference.{IsDifferenceSystem}
use Rattle.isl_ledger.specs.Work.{AreOfSize}
use Rattle.isl_elim.specs.Elimination.{HoldsAtAny}
use Rattle.isl_elim.specs.Sample.{IsNowhere}
use Rattle.isl_elim.proofs.PartsLaws.{charged_bits}
use Rattle.isl_difference.specs.Bounds.{ImplyRows, AreApartRows}
use Rattle.isl_difference.specs.Difference.{AreDisjoint, IsPartition, IsLeftOf, IsOutside, IsDifference, IsCounted}
use Rattle.isl_difference.specs.Split.{AreAligned, frame_of, HoldsBut, IsLive, AreLiveParts, ArePaid, HoldsBeside, IsLeftOfAny}
use Rattle.isl_difference.specs.Tame.{HasFewDifferences, part_limit, test_work, left_size}
use Rattle.isl_difference.specs.Told.{AreTold, ExcludeOne, IsTold, SayAll}
use Rattle.isl_difference.proofs.PartitionLaws.{any_at, any_before, any_taken, partition_none, partition_one, partition_append}
use Rattle.isl_difference.proofs.PartitionLaws.{partition_same, partition_each}
use Rattle.isl_difference.proofs.SplitLaws.{system_kept, live_kept, charged_within}
use Rattle.isl_difference.proofs.TameLaws.{AreBesideWithin, AreLeftWithin, beside_next, left_within_first, left_within_longer}
use Rattle.isl_difference.proofs.TameLaws.{left_within_next, taken_few, taken_turn}

-- ---- two systems over the same columns
module _ (s other : System) (definitions : other.definitions ≡ s.definitions) where
  -- the other holds where its rows do at the full point of the first
  pub there : (point : List ℤ) → HoldsSystem other point → HoldRows other.rows (with_defined s.definitions point)
  there point h = subst (λ ds. HoldRows other.rows (with_defined ds point)) definitions h

  pub back : (point : List ℤ) → HoldRows other.rows (with_defined s.definitions point) → HoldsSystem other point
  back point h = subst (λ ds. HoldRows other.rows (with_defined ds point)) (sym definitions) h

  pub nothing_left : (g : Gauge) (parts : List System) → ImplyRows s.rows other.rows → parts ≡ [] → AreLiveParts g s other parts
  nothing_left g parts p n = rw n (partition_none (IsLive g (free_columns s)) (free_columns s) (IsOutside s (other ∷ [])) (λ point l h.
      h.1 (Any-first (λ (t : System). HoldsSystem t point) other [] (back point (p.holds (with_defined s.definitions point) h.0)))))

  pub all_left : AreApartRows s.rows other.rows → AreDisjoint (free_columns s) s other
  all_left p = record { apart = λ point l h k. p.nowhere (with_defined s.definitions point) h (there point k) }

  pub none_common : (both : System) → both ≡ over_same_columns s other → IsNowhere (free_columns both) (HoldsSystem both)
      → AreDisjoint (free_columns s) s other
  none_common both e none =
      let nowhere : IsNowhere (free_columns s) (HoldsSystem (over_same_columns s other)) = rw e at none in
      record {
        apart = λ point l h k.
            nowhere point l (All-append (λ (r : Row). HoldsRow r (with_defined s.definitions point)) s.rows other.rows h (there point k));
      }

  -- where both have a point in common, the other has one
  pub other_live : (both : System) → both ≡ over_same_columns s other → other.columns ≡ s.columns
      → ¬ IsNowhere (free_columns both) (HoldsSystem both) → ¬ IsNowhere (free_columns other) (HoldsSystem other)
  other_live both e columns some none =
      let somewhere : ¬ IsNowhere (free_columns s) (HoldsSystem (over_same_columns s other)) = rw e at some in
      let free : free_columns other ≡ free_columns s = (let n = ap (length {A = Definition}) definitions in omega arith) in
      somewhere (λ point l h. none point (l ∙ sym free)
      (back point (All-parts (λ (r : Row). HoldsRow r (with_defined s.definitions point)) s.rows other.rows h).1))

  pub split_left : (g h : Gauge) (parts : List System) → IsCharged g h
      → IsPartition (IsLive h (free_columns s)) (free_columns s) (HoldsBut s other.rows) parts → AreLiveParts g s other parts
  split_left g h parts c p =
      let n = free_columns s in
      partition_same (IsLive g n) n (HoldsBut s other.rows) (IsOutside s (other ∷ [])) parts
      (λ point l. (
        (λ x. (x.0, λ a. x.1 (there point (Any-one (λ (t : System). HoldsSystem t point) other a)))),
        (λ x. (x.0, λ a. x.1 (Any-first (λ (t : System). HoldsSystem t point) other [] (back point a)))),
      ))
      (partition_each (IsLive h n) (IsLive g n) n (HoldsBut s other.rows) parts (λ t q. live_kept g h n t (charged_bits g h c) q) p)

-- the unit of the question whether they meet, and those of the parts
pub parts_paid : (g j k : Gauge) (parts : List System) → j ≡ record g { units = g.units + 1 } → j.units + length parts ≤ k.units → ArePaid g k parts
parts_paid g j k parts e paid = let one : j.units ≡ g.units + 1 = ap (λ (x : Gauge). x.units) e in inr (omega arith)

-- ---- what the rows tell
pub asked_more : (g j k : Gauge) → j ≡ record g { units = g.units + 1 } → IsCharged j k → g.units < k.units
asked_more g j k e c = let one : j.units ≡ g.units + 1 = ap (λ (x : Gauge). x.units) e in let more = c.units in omega arith

pub not_told : (rows others : List Row) (implied apart : Bool) → implied ≡ false → apart ≡ false → IsTrue implied ↔ SayAll rows others
    → IsTrue apart ↔ ExcludeOne rows others → ¬ AreTold rows others
not_told rows others implied apart e f p q (inl h) = false≢true (sym e ∙ p.1 h)
not_told rows others implied apart e f p q (inr h) = false≢true (sym f ∙ q.1 h)

pub told_ok : {A : Type 0} (g : Gauge) (value : A) → IsAnsweredWithin 0 g g (Ok value)
told_ok g value = IsAnsweredWithin-ok g g 0 value (omega arith)

pub told_kept : {A B : Type 0} (g k : Gauge) (value : A) (result : Result B Cut) → IsAnsweredWithin 0 g k result
    → IsAnsweredWithin 0 g k (Ok value)
told_kept g k value result p = IsAnsweredWithin-ok g k 0 value p.units

pub told_whole : {A B : Type 0} (P : A → Type 0) (g k : Gauge) (value : Result B Cut) (result : Result A Cut) → IsAnsweredWithin 0 g k value
    → MatchResult result P (λ cut. cut ≡ NoMemory) → IsAnsweredWithin 0 g k result
told_whole P g k value (Ok v) p m = IsAnsweredWithin-ok g k 0 v p.units
told_whole P g k value (Err cut) p m = record { units = p.units; answered = λ _. m }

pub told_cut : {A B : Type 0} (g k : Gauge) (cut : Cut) → IsAnsweredWithin {A = B} 0 g k (Err cut) → IsAnsweredWithin {A = A} 0 g k (Err cut)
told_cut g k cut p = record { units = p.units; answered = p.answered }

pub asked_whole : {A : Type 0} (result : Result A Cut) (m n : ℕ) → m < n → IfOk result (λ _. m < n)
asked_whole (Ok v) m n h = h
asked_whole (Err cut) m n h = tt

-- the rows over the columns of both, where these are the same
module _ (s other : System) (same : s.definitions ≡ other.definitions) where
  own_rows : (both_systems s (frame_of other)).rows ≡ s.rows
  own_rows = ap (λ (t : System). t.rows) (both_same s (frame_of other) same) ∙ append-nil s.rows

  other_rows : (both_systems (frame_of s) other).rows ≡ other.rows
  other_rows = ap (λ (t : System). t.rows) (both_same (frame_of s) other same)

  pub told_here : IsTold s other → AreTold s.rows other.rows
  told_here told = rw (own_rows, other_rows) at told

  pub told_there : AreTold s.rows other.rows → IsTold s other
  told_there told = rw (own_rows, other_rows) told

-- where they differ
module _ (s other wide moved : System) (e : wide ≡ both_systems s (frame_of other)) (f : moved ≡ both_systems (frame_of s) other) where
  pub told_wide : IsTold s other → AreTold wide.rows moved.rows
  told_wide told =
      let first = subst (λ (t : System). AreTold t.rows (both_systems (frame_of s) other).rows) (sym e) told in
      subst (λ (t : System). AreTold wide.rows t.rows) (sym f) first

  pub told_narrow : AreTold wide.rows moved.rows → IsTold s other
  told_narrow told =
      let first = subst (λ (t : System). AreTold t.rows moved.rows) e told in
      subst (λ (t : System). AreTold (both_systems s (frame_of other)).rows t.rows) f first

-- ---- two systems over the columns of both
placed_first : (a : System) (definitions : List Definition) (i : ℕ) → i ≤ length definitions → IsPlaced (free_columns a) (meeting_of a (take i definitions))
placed_first a definitions zero l = IsPlaced-first (free_columns a) a
placed_first a definitions (suc i) l =
    let d : Definition = record { coefs = []; constant = pos 0; k = pos 1 } in
    let more = meeting_more a definitions i d (omega arith) in
    let before = placed_first a definitions i (omega arith) in
    let on : i + 1 ≡ suc i = omega arith in
    subst (λ n. IsPlaced (free_columns a) (meeting_of a (take n definitions))) on
    (rw more (IsPlaced-more (free_columns a) (meeting_of a (take i definitions)) (get_or definitions i d) before))

met_free : (a b : System) → free_columns (met a b) ≡ free_columns a
met_free a b =
    let all = take_all (length b.definitions) b.definitions (omega arith) in
    let p = subst (λ ds. IsPlaced (free_columns a) (meeting_of a ds)) all (placed_first a b.definitions (length b.definitions) (omega arith)) in
    let c = p.columns in
    omega arith

frame_holds : (s : System) (point : List ℤ) → HoldsSystem (frame_of s) point
frame_holds s point = All-nil (λ (r : Row). HoldsRow r (with_defined s.definitions point))

pub frame_within : (g : Gauge) (s : System) → IsSystemWithin g s → IsSystemWithin g (frame_of s)
frame_within g s w = record { rows = All-nil (IsWellFormed s.columns); within = All-nil (IsRowWithin g); count = w.count; definitions = w.definitions }

pub systems_aligned : (g : Gauge) (s other fo fs wide moved : System) → fo ≡ frame_of other → fs ≡ frame_of s → free_columns other ≡ free_columns s
    → s.definitions ≢ other.definitions → IsSystemWithin g s → IsSystemWithin g other
    → (s.definitions ≢ fo.definitions → wide ≡ met s fo) → (fs.definitions ≢ other.definitions → moved ≡ met fs other)
    → ((h : Gauge) (point : List ℤ) → IsSystemWithin h s → IsSystemWithin h fo → length point ≡ free_columns s
    → HoldsSystem wide point ↔ (HoldsSystem s point × HoldsSystem fo point))
    → ((h : Gauge) (point : List ℤ) → IsSystemWithin h fs → IsSystemWithin h other → length point ≡ free_columns fs
    → HoldsSystem moved point ↔ (HoldsSystem fs point × HoldsSystem other point))
    → ((h : Gauge) → IsSystemWithin h s → IsSystemWithin h fo → IsSystemWithin h wide)
    → ((h : Gauge) → IsSystemWithin h fs → IsSystemWithin h other → IsSystemWithin h moved)
    → AreAligned g s other wide moved
systems_aligned g s other fo fs wide moved a b free n w v e f p q x y =
    let one : wide ≡ met s (frame_of other) = (rw a at e) n in
    let two : moved ≡ met (frame_of s) other = (rw b at f) n in
    let p2 = rw a at p in
    let q2 = rw b at q in
    let x2 = rw a at x in
    let y2 = rw b at y in
    record {
      columns = rw (one, two) refl;
      definitions = rw (one, two) refl;
      free = ap free_columns one ∙ met_free s (frame_of other);
      within = x2 g w (frame_within g other v);
      moved_within = y2 g (frame_within g s w) v;
      points = λ point l. let both = p2 g point w (frame_within g other v) l in ((λ h. (both.0 h).0), (λ h. both.1 (h, frame_holds other point)));
      moved_points = λ point l. let both = q2 g point (frame_within g s w) v l in ((λ h. (both.0 h).1), (λ h. both.1 (frame_holds s point, h)));
    }

pub aligned_apart : (g : Gauge) (s other wide moved : System) → AreAligned g s other wide moved
    → AreDisjoint (free_columns wide) wide moved → AreDisjoint (free_columns s) s other
aligned_apart g s other wide moved a p = record {
  apart = λ point l h k. p.apart point (l ∙ sym a.free) ((a.points point l).1 h) ((a.moved_points point l).1 k);
}

pub aligned_parts : (g : Gauge) (s other wide moved : System) (parts : List System) → AreAligned g s other wide moved
    → AreLiveParts g wide moved parts → AreLiveParts g s other parts
aligned_parts g s other wide moved parts a p =
    let n = free_columns s in
    let here = subst (λ m. IsPartition (IsLive g m) m (IsOutside wide (moved ∷ [])) parts) a.free p in
    partition_same (IsLive g n) n (IsOutside wide (moved ∷ [])) (IsOutside s (other ∷ [])) parts
    (λ point l. let P : System → Type 0 = λ t. HoldsSystem t point in (
      (λ x. ((a.points point l).0 x.0, λ y. x.1 (Any-first P moved [] ((a.moved_points point l).1 (Any-one P other y))))),
      (λ x. ((a.points point l).1 x.0, λ y. x.1 (Any-first P other [] ((a.moved_points point l).0 (Any-one P moved y))))),
    ))
    here

-- ---- what is left
live_left : (g : Gauge) (s t : System) → IsLive g (free_columns s) t → IsLeftOf g s t
live_left g s t p = record {
  columns = p.free;
  within = p.within;
  normal = λ n. p.normal;
  live = λ n none. p.somewhere (λ point l h. none point (l ∙ sym p.free) h);
}

left_itself : (g : Gauge) (s : System) → IsSystemWithin g s → IsLeftOf g s s
left_itself g s w = record { columns = refl; within = w; normal = λ n. n; live = λ n. n }

left_trans : (g h : Gauge) (a b c : System) → h.bits ≡ g.bits → IsLeftOf g a b → IsLeftOf h b c → IsLeftOf g a c
left_trans g h a b c e p q = record {
  columns = q.columns ∙ p.columns;
  within = system_kept g h c e q.within;
  normal = λ n. q.normal (p.normal n);
  live = λ n. q.live (p.live n);
}

left_kept : (g h : Gauge) (a b : System) → h.bits ≡ g.bits → IsLeftOf h a b → IsLeftOf g a b
left_kept g h a b e p = record { columns = p.columns; within = system_kept g h b e p.within; normal = p.normal; live = p.live }

pub difference_parts : (g : Gauge) (s other : System) (parts : List System) → AreLiveParts g s other parts
    → IsDifference g s (other ∷ []) parts
difference_parts g s other parts p = partition_each (IsLive g (free_columns s)) (IsLeftOf g s) (free_columns s) (IsOutside s (other ∷ [])) parts (λ t q. live_left g s t q) p

pub difference_whole : (g : Gauge) (s other : System) (left : List System) → IsSystemWithin g s → AreDisjoint (free_columns s) s other
    → left ≡ s ∷ [] → IsDifference g s (other ∷ []) left
difference_whole g s other left w apart e = rw e (partition_one (IsLeftOf g s) (free_columns s) (IsOutside s (other ∷ [])) s (left_itself g s w)
    (λ point l. ((λ h. (h, λ a. apart.apart point l h (Any-one (λ (t : System). HoldsSystem t point) other a))), (λ h. h.0))))

pub difference_none : (g : Gauge) (s : System) (left : List System) → IsSystemWithin g s → left ≡ s ∷ [] → IsDifference g s [] left
difference_none g s left w e = rw e (partition_one (IsLeftOf g s) (free_columns s) (IsOutside s []) s (left_itself g s w)
    (λ point l. ((λ h. (h, λ a. Any-none (λ (t : System). HoldsSystem t point) a)), (λ h. h.0))))

pub counted_parts : (g k : Gauge) (s : System) (parts : List System) → ArePaid g k parts → IsCounted g k s parts
counted_parts g k s parts p = elim p [ inl none ↦ inl none | inr paid ↦ inr (inr paid) ]

pub counted_whole : (g k : Gauge) (s : System) (left : List System) → left ≡ s ∷ [] → IsCounted g k s left
counted_whole g k s left e = inr (inl e)

-- a unit or more for each system but one
counted_few : (h k : Gauge) (s : System) (left : List System) → IsCharged h k → IsCounted h k s left
    → length left + h.units ≤ k.units + 1
counted_few h k s left c p =
    let later = c.units in
    elim p [
      | inl none ↦ rw none (omega arith)
      | inr more ↦ elim more [ inl one ↦ rw one (omega arith) | inr paid ↦ omega arith ]
    ]

-- ---- the system at a place
pub system_at : (P : System → Type 0) (systems : List System) (i : ℕ) (s : System) → All P systems → i < length systems
    → s ≡ get_or systems i s → P s
system_at P systems i s p l is = rw is (p i s l)

pub system_within : (g h : Gauge) (systems : List System) (i : ℕ) (s : System) → IsCharged g h → All (IsSystemWithin g) systems
    → i < length systems → s ≡ get_or systems i s → IsSystemWithin h s
system_within g h systems i s c w l is = charged_within g h s c (system_at (IsSystemWithin g) systems i s w l is)

pub ok_from : {T E : Type 0} (P : T → Type 0) (Q : E → Type 0) (R : T → Type 0) (r : Result T E) → MatchResult r P Q
    → ((x : T) → P x → R x) → IfOk r R
ok_from P Q R (Ok x) h f = f x h
ok_from P Q R (Err y) h f = tt

-- ---- systems that define no column
abbrev pub IsPlain : System → Type 0
IsPlain s = s.definitions ≡ []

pub all_none : (P : System → Type 0) (parts : List System) → parts ≡ [] → All P parts
all_none P parts e = rw e (All-nil P)

pub all_one : (P : System → Type 0) (s : System) (left : List System) → left ≡ s ∷ [] → P s → All P left
all_one P s left e p = rw e (All-cons P s [] p (All-nil P))

-- ---- one system after another
pub record AreBeside (g h : Gauge) (systems done : List System) (other : System) (left : List System) : Type 0 where
  pub charged : IsCharged g h
  pub counted : length left + g.units ≤ h.units + length done
  pub plain : All IsPlain done → IsPlain other → All IsPlain left
  pub tame : (columns bits : ℕ) → g.bits ≡ 127 → bits + 1 + columns ≤ 120 → All (IsDifferenceSystem columns (bits + 1)) done
      → HasFewDifferences columns bits other → AreBesideWithin columns bits (length done) g h left
  pub parts : IsPartition (IsLeftOfAny g systems) (free_columns other) (HoldsBeside done other) left

pub beside_first : (g : Gauge) (systems : List System) (other : System) (left : List System) → left ≡ []
    → AreBeside g g systems [] other left
beside_first g systems other left e = record {
  charged = IsCharged_refl g g refl;
  counted = rw e (omega arith);
  plain = λ all o. all_none IsPlain left e;
  tame = λ c b limit room all o. record {
    units = omega arith;
    size = rw e (record { few = omega arith; each = All-nil (IsDifferenceSystem c (b + 1)) });
  };
  parts = rw e (partition_none (IsLeftOfAny g systems) (free_columns other) (HoldsBeside [] other) (λ point l h. Any-none (λ (t : System). HoldsSystem t point) h.0));
}

-- ---- a list of systems of which some are done, and one is next
module _ (systems done rest : List System) (s : System) (split : done ++ s ∷ rest ≡ systems) where
  pub next_inside : length done < length systems
  next_inside =
      let long : length (done ++ s ∷ rest) ≡ length done + length (s ∷ rest) = length-append done (s ∷ rest) in
      subst (λ (ts : List System). length done < length ts) split (omega arith)

  next_is : s ≡ get_or systems (length done) s
  next_is = subst (λ (ts : List System). s ≡ get_or ts (length done) s) split (sym (get_or_at done s rest s (length done) refl))

  done_first : take (length done) systems ≡ done
  done_first = subst (λ (ts : List System). take (length done) ts ≡ done) split (take_at done (s ∷ rest) (length done) refl)

  pub next_split : (done ++ s ∷ []) ++ rest ≡ systems
  next_split = append_assoc done (s ∷ []) rest ∙ split

  pub next_of : (P : System → Type 0) → All P systems → P s
  next_of P all = system_at P systems (length done) s all next_inside next_is

  pub done_of : (P : System → Type 0) → All P systems → All P done
  done_of P all = subst (All P) done_first (All-take P (length done) systems all)

  pub next_within : (g h : Gauge) → IsCharged g h → All (IsSystemWithin g) systems → IsSystemWithin h s
  next_within g h c all = charged_within g h s c (next_of (IsSystemWithin g) all)

  pub next_turn : (t : ℕ) → length done * t + t ≤ length systems * t
  next_turn t = subst (λ (ts : List System). length ts * t + t ≤ length systems * t) done_first
      (taken_turn (length done) systems t next_inside)

-- before the next system is asked, of which no more units are used than there is room for
pub record IsNextTame (columns bits : ℕ) (g h : Gauge) (systems done : List System) (s : System) : Type 0 where
  pub limit : h.bits ≡ 127
  pub own : IsDifferenceSystem columns (bits + 1) s
  pub units : h.units ≤ g.units + length done * (part_limit columns 1 * test_work columns)
  pub room : length done * (part_limit columns 1 * test_work columns) + part_limit columns 1 * test_work columns
      ≤ length systems * (part_limit columns 1 * test_work columns)

pub next_tame_of : (g h : Gauge) (systems done rest : List System) (other s : System) (left : List System) → done ++ s ∷ rest ≡ systems
    → AreBeside g h systems done other left → (columns bits : ℕ) → g.bits ≡ 127 → bits + 1 + columns ≤ 120
    → All (IsDifferenceSystem columns (bits + 1)) systems → HasFewDifferences columns bits other
    → IsNextTame columns bits g h systems done s
next_tame_of g h systems done rest other s left split so_far c b limit room all o =
    let D : System → Type 0 = IsDifferenceSystem c (b + 1) in
    record {
      limit = charged_bits g h so_far.charged ∙ limit;
      own = next_of systems done rest s split D all;
      units = (so_far.tame c b limit room (done_of systems done rest s split D all) o).units;
      room = next_turn systems done rest s split (part_limit c 1 * test_work c);
    }

module _ (g h k : Gauge) (systems done rest : List System) (other s : System) (left parts : List System)
    (disjoint : AllPairs (AreDisjoint (free_columns other)) systems) (split : done ++ s ∷ rest ≡ systems)
    (free : free_columns s ≡ free_columns other) (so_far : AreBeside g h systems done other left) where
  abbrev n : ℕ
  n = free_columns other

  inside : length done < length systems
  inside = next_inside systems done rest s split

  is : s ≡ get_or systems (length done) s
  is = next_is systems done rest s split

  apart : (point : List ℤ) → length point ≡ n → HoldsAtAny done point → ¬ HoldsSystem s point
  apart point l a h =
      let P : System → Type 0 = λ t. HoldsSystem t point in
      let before = subst (Any P) (sym (done_first systems done rest s split)) a in
      let x = any_before P (AreDisjoint n) systems (length done) s disjoint inside is before in
      x.2.apart point l x.1 h

  each_left : (t : System) → IsLeftOf h s t → IsLeftOfAny g systems t
  each_left t p = any_at (λ (old : System). IsLeftOf g old t) systems (length done) s inside
      (subst (λ (old : System). IsLeftOf g old t) is (left_kept g h s t (charged_bits g h so_far.charged) p))

  all_counted : IsCharged h k → IsCounted h k s parts → length (left ++ parts) + g.units ≤ k.units + length (done ++ s ∷ [])
  all_counted c p =
      let before = so_far.counted in
      let few : length parts + h.units ≤ k.units + 1 = counted_few h k s parts c p in
      let all : length (left ++ parts) ≡ length left + length parts = length-append left parts in
      let long : length (done ++ s ∷ []) ≡ length done + 1 = length-append done (s ∷ []) in
      omega arith

  -- what the system leaves without the other one
  abbrev SubtractedTame : Type 0
  SubtractedTame = (columns bits : ℕ) → h.bits ≡ 127 → bits + 1 + columns ≤ 120 → IsDifferenceSystem columns (bits + 1) s
      → HasFewDifferences columns bits other
      → (k.units ≤ h.units + part_limit columns 1 * test_work columns) × AreOfSize (left_size columns bits 1) parts

  all_tame : SubtractedTame → (c b : ℕ) → g.bits ≡ 127 → b + 1 + c ≤ 120 → All (IsDifferenceSystem c (b + 1)) (done ++ s ∷ [])
      → HasFewDifferences c b other → AreBesideWithin c b (length (done ++ s ∷ [])) g k (left ++ parts)
  all_tame tame c b limit room all o =
      let both = All-last (IsDifferenceSystem c (b + 1)) done s all in
      let before = so_far.tame c b limit room both.0 o in
      let after = tame c b (charged_bits g h so_far.charged ∙ limit) room both.1 o in
      let long : length (done ++ s ∷ []) ≡ length done + 1 = length-append done (s ∷ []) in
      rw long (beside_next c b (length done) g h k left parts before after.0 after.1)

  pub beside_more : (newer : List System) → IsDifference h s (other ∷ []) parts → IsCounted h k s parts → IsCharged h k
      → (IsPlain s → IsPlain other → All IsPlain parts) → SubtractedTame → newer ≡ left ++ parts
      → AreBeside g k systems (done ++ s ∷ []) other newer
  beside_more newer d p c plain tame e = record {
    charged = IsCharged_trans g h k so_far.charged c;
    counted = rw e (all_counted c p);
    plain = rw e (λ all o.
        let both = All-last IsPlain done s all in
        All-append IsPlain left parts (so_far.plain both.0 o) (plain both.1 o));
    tame = rw e (all_tame tame);
    parts = rw e (partition_same (IsLeftOfAny g systems) n (λ point. HoldsBeside done other point ⊎ IsOutside s (other ∷ []) point)
        (HoldsBeside (done ++ s ∷ []) other) (left ++ parts)
        (λ point l. let P : System → Type 0 = λ t. HoldsSystem t point in (
          (λ x. elim x [
            | inl y ↦ (Any-left P done (s ∷ []) y.0, y.1)
            | inr z ↦ (Any-right P done (s ∷ []) (Any-first P s [] z.0), λ a. z.1 (Any-first P other [] a))
          ]),
          (λ x. elim (Any-parts P done (s ∷ []) x.0) [
            | inl y ↦ inl (y, x.1)
            | inr z ↦ inr (Any-one P s z, λ a. x.1 (Any-one P other a))
          ]),
        ))
        (partition_append (IsLeftOfAny g systems) n (HoldsBeside done other) (IsOutside s (other ∷ [])) left parts so_far.parts
        (partition_each (IsLeftOf h s) (IsLeftOfAny g systems) n (IsOutside s (other ∷ [])) parts each_left
        (subst (λ m. IsPartition (IsLeftOf h s) m (IsOutside s (other ∷ [])) parts) free d))
        (λ point l x y. apart point l x.0 y.0)));
  }

-- ---- one of the others after another
pub record AreLeft (g h : Gauge) (s : System) (done left : List System) : Type 0 where
  pub charged : IsCharged g h
  pub counted : length left + g.units ≤ h.units + 1
  pub plain : IsPlain s → All IsPlain done → All IsPlain left
  pub tame : (columns bits : ℕ) → g.bits ≡ 127 → bits + 1 + columns ≤ 120 → IsDifferenceSystem columns (bits + 1) s
      → All (HasFewDifferences columns bits) done → AreLeftWithin columns bits (length done) g h left
  pub difference : IsDifference g s done left

pub left_first : (g : Gauge) (s : System) (left : List System) → IsSystemWithin g s → left ≡ s ∷ [] → AreLeft g g s [] left
left_first g s left w e = record {
  charged = IsCharged_refl g g refl;
  counted = rw e (omega arith);
  plain = λ p all. all_one IsPlain s left e p;
  tame = λ c b limit room d all. rw e (left_within_first c b g s d);
  difference = difference_none g s left w e;
}

pub other_free : (s : System) (others : List System) (i : ℕ) (other : System) → All (λ t. free_columns t ≡ free_columns s) others
    → i < length others → other ≡ get_or others i other → free_columns other ≡ free_columns s
other_free s others i other f l is = ap free_columns is ∙ f i other l

module _ (g h : Gauge) (s : System) (others : List System) (i : ℕ) (other : System) (left : List System) (inside : i < length others)
    (is : other ≡ get_or others i other) (columns : All (λ t. free_columns t ≡ free_columns s) others)
    (so_far : AreLeft g h s (take i others) left) where
  free : free_columns other ≡ free_columns s
  free = other_free s others i other columns inside is

  pub left_within : All (IsSystemWithin h) left
  left_within k d l = charged_within g h (get_or left k d) so_far.charged (so_far.difference.each k d l).within

  pub left_columns : All (λ t. free_columns t ≡ free_columns other) left
  left_columns k d l = (so_far.difference.each k d l).columns ∙ sym free

  pub left_disjoint : AllPairs (AreDisjoint (free_columns other)) left
  left_disjoint = subst (λ n. AllPairs (AreDisjoint n) left) (sym free) so_far.difference.disjoint

  next_others : take (i + 1) others ≡ take i others ++ other ∷ []
  next_others = take_more others i other inside ∙ ap (λ (t : System). take i others ++ t ∷ []) (sym is)

  difference_more : (next : List System)
      → IsPartition (IsLeftOfAny h left) (free_columns other) (HoldsBeside left other) next → IsDifference g s (take (i + 1) others) next
  difference_more next p =
      let n = free_columns s in
      let d = so_far.difference in
      rw next_others (partition_same (IsLeftOf g s) n (HoldsBeside left other) (IsOutside s (take i others ++ other ∷ [])) next
      (λ point l. let P : System → Type 0 = λ t. HoldsSystem t point in (
        (λ x. let y = (d.points point l).0 x.0 in
            (y.0, λ a. elim (Any-parts P (take i others) (other ∷ []) a) [ inl b ↦ y.1 b | inr c ↦ x.1 (Any-one P other c) ])),
        (λ x. (
          (d.points point l).1 (x.0, λ a. x.1 (Any-left P (take i others) (other ∷ []) a)),
          λ a. x.1 (Any-right P (take i others) (other ∷ []) (Any-first P other [] a)),
        )),
      ))
      (partition_each (IsLeftOfAny h left) (IsLeftOf g s) n (HoldsBeside left other) next
      (λ t a. left_trans g h s a.1 t (charged_bits g h so_far.charged) (rw a.3 at (d.each a.0 a.1 a.2)) a.4)
      (subst (λ m. IsPartition (IsLeftOfAny h left) m (HoldsBeside left other) next) free p)))

  -- what the systems leave without the next one
  abbrev pub BesideTame : Gauge → List System → Type 0
  BesideTame k next = (columns bits : ℕ) → h.bits ≡ 127 → bits + 1 + columns ≤ 120 → All (IsDifferenceSystem columns (bits + 1)) left
      → HasFewDifferences columns bits other → AreBesideWithin columns bits (length left) h k next

  next_tame : (k : Gauge) (next : List System) → BesideTame k next → (c b : ℕ) → g.bits ≡ 127 → b + 1 + c ≤ 120
      → IsDifferenceSystem c (b + 1) s → All (HasFewDifferences c b) (take i others ++ other ∷ [])
      → AreLeftWithin c b (length (take i others ++ other ∷ [])) g k next
  next_tame k next tame c b limit room d all =
      let both = All-last (HasFewDifferences c b) (take i others) other all in
      let before = so_far.tame c b limit room d both.0 in
      let after = tame c b (charged_bits g h so_far.charged ∙ limit) room before.size.each both.1 in
      let long : length (take i others ++ other ∷ []) ≡ length (take i others) + 1 = length-append (take i others) (other ∷ []) in
      rw long (left_within_next c b (length (take i others)) g h k left next before after)

  pub left_more : (k : Gauge) (next : List System) → IsCharged h k → length next + h.units ≤ k.units + length left
      → (All IsPlain left → IsPlain other → All IsPlain next) → BesideTame k next
      → IsPartition (IsLeftOfAny h left) (free_columns other) (HoldsBeside left other) next → AreLeft g k s (take (i + 1) others) next
  left_more k next c few plain tame p = record {
    charged = IsCharged_trans g h k so_far.charged c;
    counted = let before = so_far.counted in omega arith;
    plain = λ own all.
        let both = All-last IsPlain (take i others) other (rw next_others at all) in
        plain (so_far.plain own both.0) both.1;
    tame = rw next_others (next_tame k next tame);
    difference = difference_more next p;
  }

-- without some of them as without all
pub left_tame : (g h : Gauge) (s : System) (others : List System) (i n : ℕ) (left : List System) → length others ≡ n
    → AreLeft g h s (take i others) left → (c b : ℕ) → g.bits ≡ 127 → b + 1 + c ≤ 120 → IsDifferenceSystem c (b + 1) s
    → All (HasFewDifferences c b) others → AreLeftWithin c b n g h left
left_tame g h s others i n left e d c b limit room own all =
    left_within_longer c b (length (take i others)) n g h left (let t = taken_few i others in omega arith)
    (d.tame c b limit room own (All-take (HasFewDifferences c b) i others all))

-- nothing is left
pub left_none : (g h : Gauge) (s : System) (others : List System) (i : ℕ) (left : List System)
    → left ≡ [] → AreLeft g h s (take i others) left → IsDifference g s others left
left_none g h s others i left e d = rw e (partition_none (IsLeftOf g s) (free_columns s) (IsOutside s others) (λ point l x.
    let P : System → Type 0 = λ t. HoldsSystem t point in
    Any-none P (subst (Any P) e ((d.difference.points point l).1 (x.0, λ a. x.1 (any_taken P i others a))))))

pub ruleset aligned_steps = (charges, charged_within, nothing_left, all_left, none_common, split_left, parts_paid)

pub ruleset outside_steps = (charges, frame_within, aligned_apart, aligned_parts)

pub ruleset subtract_steps = (charges, difference_parts, difference_whole, counted_parts, counted_whole)

pub ruleset beside_steps = (charges, charged_within, beside_first, beside_more)

pub ruleset each_steps = (charges, left_first, other_free, left_within, left_columns, left_more, left_none)
