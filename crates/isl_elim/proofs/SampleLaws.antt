-- Samples: numbers that are tried at a column, and parts in turn.
use Rattle.std.proofs.Common.{◌≡◌, inl, refl, ◌∙◌, sym, ap, arith, ℕ, zero, suc, ℤ, pos, List, [], ◌∷◌, ◌-◌, ◌+◌, ◌<◌, ◌≤◌, length, set, get_or, unsigned_abs, ◌^◌, ◌*◌, pow_mono, add-one}
use Rattle.std.specs.Prelude.{replicate}
use Rattle.std.specs.List.{All, insert, Any}
use Rattle.std.proofs.lemmas.List.{length-set, length-replicate}
use Rattle.std.proofs.lemmas.List.Elements.{All-set, All-cons, All-head, All-tail, All-replicate}
use Rattle.std.proofs.lemmas.List.Edits.{length-insert}
use Rattle.isl_meter.specs.Gauge.{Gauge, IsCharged, IsWithin}
use Rattle.isl_meter.proofs.CutLemmas.{IsCharged_refl, IsCharged_trans, IsCharged-unit, IsCutBy-after, charges}
use Rattle.isl_meter.proofs.LimitLemmas.{IsWithin-zero}
use Rattle.isl_piece.specs.declared.row.Row.{Row}
use Rattle.isl_piece.specs.Row.{IsWellFormed, IsRowWithin, FormPassesLimit}
use Rattle.isl_piece.specs.System.{HoldRows}
use Rattle.isl_omega.specs.Column.{IsProper}
use Rattle.isl_column.specs.Parts.{PartsView, ArePartsOf, IsNextPart, AreNone, HoldsPart}
use Rattle.isl_elim.specs.Sample.{IsSample, IsNowhere}
use Rattle.std.specs.Prelude.{Option, Some, None, Ok, Err}
use Rattle.std.proofs.Common.{◌⊎◌, inr, subst}
use Rattle.isl_meter.specs.declared.Cut.{Cut}
use Rattle.isl_column.specs.Parts.{IsHeadAlone}
use Rattle.isl_ledger.specs.Answered.{IsTame}
use Rattle.isl_elim.specs.Tame.{IsDifferenceHead}
use Rattle.isl_elim.proofs.TameLaws.{tame_cut, IsNextOfHead}
use Rattle.isl_elim.proofs.PartsLaws.{proper_kept, charged_bits, next_proper, parts_after}
use Rattle.isl_elim.proofs.EmptinessLaws.{IsSoFar, so_far_first, so_far_next, so_far_none, parts_nowhere, some_column}
use Rattle.std.proofs.lemmas.Nat.{pow_pos}
use Rattle.std.proofs.Math.Nat.{pow-succ'}
use Rattle.isl_ledger.specs.Difference.{IsDifferenceRow}
use Rattle.isl_elim.specs.Between.{AreSmallAt, IsBest}
use Rattle.isl_elim.specs.Tame.{AreNumbersLeft}
use Rattle.isl_elim.proofs.BetweenLaws.{form_fits}

-- ---- numbers that are tried
-- the point as it is, and the number that comes next
pub record IsTried (g h : Gauge) (columns : ℕ) (whole : List ℤ) (x : ℤ) : Type 0 where
  pub charged : IsCharged g h
  pub width : length whole ≡ columns
  pub within : All (IsWithin g) whole
  pub next : IsWithin g x

all_inserted : {X : Type 0} (P : X → Type 0) (xs : List X) (i : ℕ) (x : X) → P x → All P xs → All P (insert xs i x)
all_inserted P [] zero x h a = All-cons P x [] h a
all_inserted P [] (suc i) x h a = All-cons P x [] h a
all_inserted P (y ∷ xs) zero x h a = All-cons P x (y ∷ xs) h a
all_inserted P (y ∷ xs) (suc i) x h a = All-cons P y (insert xs i x) (All-head P y xs a) (all_inserted P xs i x h (All-tail P y xs a))

pub tried_first : (g : Gauge) (point : List ℤ) (x : ℤ) → All (IsWithin g) point → IsWithin g x → IsTried g g (length point) point x
tried_first g point x w n = record { charged = IsCharged_refl g g refl; width = refl; within = w; next = n }

-- the number is put in at the column
pub tried_put : (g h : Gauge) (columns col : ℕ) (whole : List ℤ) (x : ℤ) → IsTried g h columns whole x → IsTried g h columns (set whole col x) x
tried_put g h columns col whole x t = record {
  charged = t.charged;
  width = length-set whole col x ∙ t.width;
  within = All-set (IsWithin g) whole col x t.next t.within;
  next = t.next;
}

-- one unit is used, and another number comes next
pub tried_next : (g h k : Gauge) (columns : ℕ) (whole : List ℤ) (x y : ℤ) → IsTried g h columns whole x → k ≡ record h { units = h.units + 1 } → IsWithin k y → IsTried g k columns whole y
tried_next g h k columns whole x y t e n =
    let c = IsCharged_trans g h k t.charged (IsCharged-unit h k e) in record {
      charged = c;
      width = t.width;
      within = t.within;
      next = rw (charged_bits g k c) at n;
    }

pub tried_rows : (g h : Gauge) (columns : ℕ) (whole : List ℤ) (x : ℤ) (rows : List Row) → IsTried g h columns whole x → All (IsProper g columns) rows → All (IsWellFormed (length whole)) rows × All (IsRowWithin h) rows
tried_rows g h columns whole x rows t p =
    let q = proper_kept g h columns rows t.charged p in (
      rw t.width (λ k d i. (q k d i).formed),
      (λ k d i. (q k d i).within),
    )

pub tried_sample : (g h : Gauge) (columns : ℕ) (whole : List ℤ) (x : ℤ) (rows : List Row) → IsTried g h columns whole x → HoldRows rows whole → IsSample g columns (HoldRows rows) whole
tried_sample g h columns whole x rows t holds = record { width = t.width; within = t.within; holds = holds }

pub ruleset tried_steps = (charges, tried_first, tried_put, tried_next, tried_rows, tried_sample)

-- ---- the column put in
pub put_width : (point : List ℤ) (col : ℕ) (x : ℤ) → col ≤ length point → length (insert point col x) ≡ length point + 1
put_width point col x l = let e = length-insert point col x l in omega (arith, e)

pub put_within : (g : Gauge) (point : List ℤ) (col : ℕ) → All (IsWithin g) point → All (IsWithin g) (insert point col (pos 0))
put_within g point col w = all_inserted (IsWithin g) point col (pos 0) (IsWithin-zero g) w

pub put_here : (point : List ℤ) (col : ℕ) (x : ℤ) → col ≤ length point → get_or (insert point col x) col (pos 0) ≡ x
put_here [] zero x l = refl
put_here [] (suc i) x l = absurd (omega arith)
put_here (y ∷ ys) zero x l = refl
put_here (y ∷ ys) (suc i) x l = put_here ys i x (omega arith)

pub put_again : (point : List ℤ) (col : ℕ) (x y : ℤ) → col ≤ length point → set (insert point col x) col y ≡ insert point col y
put_again [] zero x y l = refl
put_again [] (suc i) x y l = absurd (omega arith)
put_again (z ∷ zs) zero x y l = refl
put_again (z ∷ zs) (suc i) x y l = ap (λ (ys : List ℤ). z ∷ ys) (put_again zs i x y (omega arith))

pub put_sample : (g : Gauge) (columns col : ℕ) (whole : List ℤ) (x : ℤ) (rows : List Row) → length whole ≡ columns → All (IsWithin g) whole
    → IsWithin g x → HoldRows rows (set whole col x) → IsSample g columns (HoldRows rows) (set whole col x)
put_sample g columns col whole x rows width within next holds = record {
  width = length-set whole col x ∙ width;
  within = All-set (IsWithin g) whole col x next within;
  holds = holds;
}

-- ---- difference constraints
-- the numbers of a point are at most so large, and that of one column more is
module _ (g : Gauge) (bits most col : ℕ) (rows : List Row) (point : List ℤ) (full : g.bits ≡ 127) (some : bits < most) (room : most ≤ 120)
    (given : All (IsDifferenceRow bits) rows) (left : AreNumbersLeft (bits + 1) most point) where
  abbrev pub w : ℕ
  w = 2 ^ most - 2 ^ (bits + 1)

  limit : 2 ^ most ≤ 2 ^ 120
  limit = pow_mono room

  twice : 2 ^ (bits + 1) ≡ 2 * 2 ^ bits
  twice = rw add-one (omega (arith, pow-succ' 2 bits))

  below : 2 ^ (bits + 1) ≤ 2 ^ most
  below = pow_mono (let l : bits + 1 ≤ most = omega arith in l)

  pub put_small : AreSmallAt g bits w rows (insert point col (pos 0))
  put_small = record {
    rows = given;
    point = all_inserted (λ x. unsigned_abs x ≤ w) point col (pos 0) (omega arith) (λ k d l. let a = left k d l in omega arith);
    room = rw full (let a = limit in let b = twice in let c = below in let p = pow_pos bits in omega arith);
  }

  pub put_left : (x : ℤ) → unsigned_abs x ≤ 2 ^ bits + w → AreNumbersLeft bits most (set (insert point col (pos 0)) col x)
  put_left x small =
      let b = twice in
      let c = below in
      All-set (λ z. unsigned_abs z + 2 ^ bits ≤ 2 ^ most) (insert point col (pos 0)) col x (omega arith)
      (all_inserted (λ z. unsigned_abs z + 2 ^ bits ≤ 2 ^ most) point col (pos 0) (omega arith) (λ k d l. let a = left k d l in omega arith))

  pub put_fits : (x : ℤ) → unsigned_abs x ≤ 2 ^ bits + w → (columns : ℕ) → All (IsProper g columns) rows
      → length (set (insert point col (pos 0)) col x) ≡ columns
      → Any (λ r. FormPassesLimit g r.coefs r.constant (set (insert point col (pos 0)) col x)) rows → ⊥
  put_fits x small columns proper long passes =
      let k = passes.0 in
      let r = passes.1 in
      let l = passes.2 in
      let e = passes.3 in
      let h : IsDifferenceRow bits r = rw e at (given k r l) in
      let p : IsProper g columns r = rw e at (proper k r l) in
      form_fits g bits (2 ^ most) r (set (insert point col (pos 0)) col x) h
      (λ i d m. let a = put_left x small i d m in omega arith)
      (rw full (let a = limit in let b = twice in let c = below in let q = pow_pos bits in omega arith))
      (p.formed.width ∙ sym long) passes.4

  pub put_holds : (x y : ℤ) → col ≤ length point → IsBest rows (insert point col (pos 0)) col x → HoldRows rows (insert point col y)
      → HoldRows rows (set (insert point col (pos 0)) col x)
  put_holds x y l best h = best y (rw (put_again point col (pos 0) y l) h)

-- ---- parts in turn
-- rows that are none hold at zeros
pub none_sample : (g : Gauge) (columns : ℕ) (rows : List Row) (zeros : List ℤ) → rows ≡ [] → zeros ≡ replicate columns (pos 0) → IsSample g columns (HoldRows rows) zeros
none_sample g columns rows zeros e z = record {
  width = rw z (length-replicate columns (pos 0));
  within = rw z (All-replicate (IsWithin g) columns (pos 0) (IsWithin-zero g));
  holds = rw e (λ k d i. absurd (omega arith));
}

pub parts_none : (g : Gauge) (columns col : ℕ) (rows : List Row) (parts : PartsView) → col < columns → ArePartsOf g columns col rows parts → IsNowhere (columns - 1) (HoldsPart parts) → IsNowhere columns (HoldRows rows)
parts_none g columns col rows parts i a n = (parts_nowhere g columns col rows parts i a).0 n

-- a sample of a part is one of the parts
pub part_sample : (g h k : Gauge) (columns : ℕ) (first now next : PartsView) (rows : List Row) (point : List ℤ) → IsSoFar g h columns first now → IsNextPart h columns now rows next → IsSample h columns (HoldRows rows) point → IsSample g columns (HoldsPart first) point
part_sample g h k columns first now next rows point s n p = record {
  width = p.width;
  within = within_kept h g point (sym (charged_bits g h s.charged)) p.within;
  holds = (s.points point p.width).1 ((n.points point p.width).1 (inl p.holds));
}
  where
    within_kept : (g h : Gauge) (xs : List ℤ) → h.bits ≡ g.bits → All (IsWithin g) xs → All (IsWithin h) xs
    within_kept g h xs e w = λ k d i. rw e (w k d i)

-- nothing is left, and so there is no point
pub none_sampled : (g h k : Gauge) (columns : ℕ) (first now : PartsView) → IsSoFar g h columns first now → AreNone columns now
    → IsCharged h k → IsNowhere columns (HoldsPart first) × IsCharged g k
none_sampled g h k columns first now s n c = (so_far_none g h columns first now s n, IsCharged_trans g h k s.charged c)

-- the part that was taken has a point
pub some_sampled : (g h k m : Gauge) (columns : ℕ) (first now next : PartsView) (rows : List Row) (point : List ℤ)
    → IsSoFar g h columns first now → IsNextPart h columns now rows next → IsCharged h k → IsSample k columns (HoldRows rows) point
    → IsCharged k m
    → IsSample g columns (HoldsPart first) point × IsCharged g m
some_sampled g h k m columns first now next rows point s n c p d = (
  part_sample g h k columns first now next rows point s n (record {
    width = p.width;
    within = λ i e l. rw (sym (charged_bits h k c)) (p.within i e l);
    holds = p.holds;
  }),
  IsCharged_trans g k m (IsCharged_trans g h k s.charged c) d,
)

-- ---- difference constraints: a head alone, or nothing
-- the head was not taken yet, or it was, and holds nowhere
pub record IsHeadTried (g h : Gauge) (columns bits : ℕ) (now : PartsView) : Type 0 where
  pub so_far : ((h ≡ g) × IsDifferenceHead now bits) ⊎ (IsHeadAlone None now × (h.units ≤ g.units + columns * (columns * columns)))

pub record IsHeadBegun (g k : Gauge) (bits : ℕ) (next : PartsView) (rows : List Row) : Type 0 where
  pub meter : k ≡ g
  pub differences : All (IsDifferenceRow bits) rows
  pub rest : IsHeadAlone None next

pub head_begun : (g h k : Gauge) (columns bits : ℕ) (now next : PartsView) (rows : List Row) (found : Option (List Row))
    → IsHeadTried g h columns bits now → found ≡ Some rows → IsNextOfHead h k now next found → IsHeadBegun g k bits next rows
head_begun g h k columns bits now next rows found p e f = elim p.so_far [
  | inl a ↦
      let given = a.1 in
      let n = f given.head given.alone in
      let same : given.head ≡ Some rows = sym n.0 ∙ e in
      record { meter = n.2 ∙ a.0; differences = rw same at given.rows; rest = rw e at n.1 }
  | inr b ↦ absurd (let m = sym e ∙ (f None b.0).0 in cc)
]

pub head_first : (g : Gauge) (columns bits : ℕ) (now : PartsView) → IsDifferenceHead now bits → IsHeadTried g g columns bits now
head_first g columns bits now d = record { so_far = inl (refl, d) }

pub head_next : {A : Type 0} (g k m : Gauge) (columns bits : ℕ) (next : PartsView) (rows : List Row) (P : A → Type 0) (value : A)
    → IsHeadBegun g k bits next rows
    → IsTame (columns * (columns * columns)) k m P (Ok value) → IsHeadTried g m columns bits next
head_next g k m columns bits next rows P value b p = record {
  so_far = inr (b.rest, (let u = p.within.units in let e = ap (λ (x : Gauge). x.units) b.meter in omega arith));
}

pub head_cut : {A B : Type 0} (g k m : Gauge) (most bits : ℕ) (next : PartsView) (rows : List Row) (P : A → Type 0) (Q : B → Type 0) (cut : Cut)
    → IsHeadBegun g k bits next rows → IsTame {A = A} most k m P (Err cut) → IsTame {A = B} most g m Q (Err cut)
head_cut {A = A} g k m most bits next rows P Q cut b p =
    tame_cut most most g m P Q cut (omega arith) (subst (λ (x : Gauge). IsTame {A = A} most x m P (Err cut)) b.meter p)

pub head_done : (g h k : Gauge) (columns bits : ℕ) (now next : PartsView) (found : Option (List Row)) → IsHeadTried g h columns bits now
    → IsNextOfHead h k now next found → k.units ≤ g.units + columns * (columns * columns)
head_done g h k columns bits now next found p f = elim p.so_far [
  | inl a ↦ let given = a.1 in let e = ap (λ (x : Gauge). x.units) ((f given.head given.alone).2 ∙ a.0) in omega arith
  | inr b ↦ let e = ap (λ (x : Gauge). x.units) (f None b.0).2 in let u = b.1 in omega arith
]

pub head_ends : (g h : Gauge) (columns bits : ℕ) (now : PartsView) → IsHeadTried g h columns bits now
    → ((head : Option (List Row)) → IsHeadAlone head now → ⊥) → ⊥
head_ends g h columns bits now p f = elim p.so_far [
  | inl a ↦ let given = a.1 in f given.head given.alone
  | inr b ↦ f None b.0
]

pub zeros_left : (bits columns n : ℕ) (xs : List ℤ) → xs ≡ replicate n (pos 0) → AreNumbersLeft bits (bits + columns) xs
zeros_left bits columns n xs e = rw e (All-replicate (λ x. unsigned_abs x + 2 ^ bits ≤ 2 ^ (bits + columns)) n (pos 0)
    (let l : 2 ^ bits ≤ 2 ^ (bits + columns) = pow_mono (omega arith) in omega arith))

pub ruleset sample_steps = (charges, next_proper, parts_after, so_far_first, so_far_next, so_far_none, none_sample, parts_none, part_sample, some_column)
