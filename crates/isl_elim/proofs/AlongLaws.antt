-- Several columns, one after another.
use Rattle.std.proofs.Common.{◌≡◌, ◌≢◌, ◌↔◌, ◌⊎◌, inl, inr, refl, sym, ap, ◌∙◌, arith, true, ℕ, ℤ, pos, List, [], ◌∷◌, ◌++◌, ◌-◌, ◌+◌, ◌<◌, ◌≤◌, length, get_or}
use Rattle.std.specs.Prelude.{AllPairs, Result, MatchResult, IfOk, Ok, Err, Option, Some, None}
use Rattle.std.specs.List.{All, insert, remove}
use Rattle.std.proofs.lemmas.List.{append_assoc, append-nil, length-append}
use Rattle.std.proofs.lemmas.Result.{IfOk-weaker}
use Rattle.std.proofs.lemmas.List.Elements.{All-nil, All-cons, All-append}
use Rattle.std.proofs.lemmas.List.Edits.{length-remove, length-insert}
use Rattle.isl_meter.specs.Gauge.{Gauge, IsCharged, IsCutBy}
use Rattle.isl_meter.specs.declared.Cut.{Cut}
use Rattle.isl_meter.proofs.CutLemmas.{IsCharged_refl, IsCharged_trans, IsCutBy-after, charges}
use Rattle.isl_math.proofs.ListLaws.{Any-parts, Any-left, Any-right, Any-one, Any-first, Any-none}
use Rattle.isl_piece.specs.declared.row.Row.{Row}
use Rattle.isl_piece.specs.Normal.{IsNormal}
use Rattle.isl_piece.specs.Row.{IsWellFormed, IsRowWithin}
use Rattle.isl_piece.specs.System.{HoldRows}
use Rattle.isl_piece.proofs.RowMagnitudes.{row_within_kept}
use Rattle.isl_shadows.specs.Column.{HoldAtAny, HoldAtSome}
use Rattle.isl_omega.specs.Column.{AreRowsOf, IsProper}
use Rattle.isl_elim.specs.Elimination.{without, HoldsAlong, AddsAlong}
use Rattle.isl_presolve.specs.Emptiness.{HoldNowhere}
use Rattle.isl_elim.specs.Others.{others_of}
use Rattle.isl_column.specs.Parts.{PartsView, AreParts, ArePartsOf, IsNextPart, HoldsPart, head_count, count_of}
use Rattle.isl_column.proofs.PartsLemmas.{parts_kept}
use Rattle.isl_elim.proofs.PartsLaws.{charged_bits, next_proper, parts_after}
use Rattle.isl_elim.proofs.EmptinessLaws.{insert-remove}
use Rattle.isl_elim.proofs.NarrowLaws.{narrow_low}
use Rattle.isl_elim.proofs.OthersLaws.{among, without_insert, without_none, others_count, others_distinct, others_inside, among_at}

-- ---- no column
pub along_none : (g : Gauge) (columns : ℕ) (cols : List ℕ) (rows : List Row) (old new : List (List Row)) → cols ≡ [] → All (IsProper g columns) rows → IsNormal rows → new ≡ old ++ rows ∷ [] → AddsAlong g columns cols (HoldRows rows) old new
along_none g columns cols rows old new e p n w = rw e (record {
  added = rows ∷ [];
  pushed = w;
  proper = rw all (All-cons (λ (r : List Row). All (IsProper g columns) r) rows [] p (All-nil (λ (r : List Row). All (IsProper g columns) r)));
  normal = All-cons IsNormal rows [] n (All-nil IsNormal);
  points = λ point l. let P : List Row → Type 0 = λ r. HoldRows r point in (
    (λ h. (point, l ∙ all, without_none 0 point, Any-one P rows h)),
    (λ h. let same : h.0 ≡ point = sym (without_none 0 h.0) ∙ h.2 in Any-first P rows [] (rw same at h.3)),
  );
})
  where
    none : List ℕ
    none = []

    all : columns - length none ≡ columns
    all = omega arith

-- ---- one part after another
-- what was pushed for the parts that were taken
pub record ArePushed (g h : Gauge) (columns : ℕ) (cols : List ℕ) (first now : PartsView) (old new : List (List Row)) : Type 0 where
  pub charged : IsCharged g h
  pub are : AreParts h columns now
  pub counted : (g.units + length new) + head_count now ≤ h.units + (length old + head_count first)
  pub added : List (List Row)
  pub pushed : new ≡ old ++ added
  pub proper : All (λ rows. All (IsProper g (columns - length cols)) rows) added
  pub normal : All IsNormal added
  pub points : (point : List ℤ) → length point ≡ columns - length cols → HoldsAlong columns cols (HoldsPart first) point ↔ (HoldAtAny added point ⊎ HoldsAlong columns cols (HoldsPart now) point)

pub pushed_first : (g : Gauge) (columns : ℕ) (cols : List ℕ) (parts : PartsView) (old : List (List Row)) → AreParts g columns parts → ArePushed g g columns cols parts parts old old
pushed_first g columns cols parts old a = record {
  charged = IsCharged_refl g g refl;
  are = a;
  counted = omega arith;
  added = [];
  pushed = sym (append-nil old);
  proper = All-nil (λ (rows : List Row). All (IsProper g (columns - length cols)) rows);
  normal = All-nil IsNormal;
  points = λ point l. ((λ h. inr h), (λ h. elim h [ inl x ↦ absurd (Any-none (λ (r : List Row). HoldRows r point) x) | inr y ↦ y ]));
}

pub pushed_next : (g h k m : Gauge) (columns : ℕ) (cols : List ℕ) (first now next : PartsView) (rows : List Row) (old new newer : List (List Row)) → ArePushed g h columns cols first now old new → IsNextPart h columns now rows next
    → IsCharged h k → AddsAlong k columns cols (HoldRows rows) new newer → IsCharged k m
    → (h.units + 1) + head_count next ≤ k.units + head_count now → k.units + length newer ≤ m.units + (length new + 1) → ArePushed g m columns cols first next old newer
pushed_next g h k m columns cols first now next rows old new newer a n c b d u v = record {
  counted = let w = a.counted in omega (arith, u, v, w);
  charged = IsCharged_trans g h m a.charged (IsCharged_trans h k m c d);
  are = parts_kept h m columns next (IsCharged_trans h k m c d) n.rest;
  added = a.added ++ b.added;
  pushed = b.pushed ∙ ap (λ (xs : List (List Row)). xs ++ b.added) a.pushed ∙ append_assoc old a.added b.added;
  proper = All-append (λ (r : List Row). All (IsProper g (columns - length cols)) r) a.added b.added a.proper (λ i d m. proper_back (get_or b.added i d) (b.proper i d m));
  normal = All-append IsNormal a.added b.added a.normal b.normal;
  points = λ point l. let P : List Row → Type 0 = λ r. HoldRows r point in (
    (λ x. elim ((a.points point l).0 x) [
      | inl y ↦ inl (Any-left P a.added b.added y)
      | inr z ↦ elim ((n.points z.0 z.1).0 z.3) [
        | inl u ↦ inl (Any-right P a.added b.added ((b.points point l).1 (z.0, z.1, z.2, u)))
        | inr v ↦ inr (z.0, z.1, z.2, v)
      ]
    ]),
    (λ x. (a.points point l).1 (elim x [
      | inl y ↦ elim (Any-parts P a.added b.added y) [
        | inl u ↦ inl u
        | inr v ↦ let w = (b.points point l).0 v in inr (w.0, w.1, w.2, (n.points w.0 w.1).1 (inl w.3))
      ]
      | inr z ↦ inr (z.0, z.1, z.2, (n.points z.0 z.1).1 (inr z.3))
    ])),
  );
}
  where
    proper_back : (r : List Row) → All (IsProper k (columns - length cols)) r → All (IsProper g (columns - length cols)) r
    proper_back r p = λ i d j. let q = p i d j in record { formed = q.formed; within = row_within_kept g k (get_or r i d) (charged_bits g k (IsCharged_trans g h k a.charged c)) q.within }

pub pushed_all : (g h : Gauge) (columns : ℕ) (cols : List ℕ) (first now : PartsView) (old new : List (List Row)) → ArePushed g h columns cols first now old new → ((point : List ℤ) → length point ≡ columns → ¬ HoldsPart now point) → AddsAlong g columns cols (HoldsPart first) old new
pushed_all g h columns cols first now old new a none = record {
  added = a.added;
  pushed = a.pushed;
  proper = a.proper;
  normal = a.normal;
  points = λ point l. (
    (λ x. (a.points point l).1 (inl x)),
    (λ x. elim ((a.points point l).0 x) [ inl y ↦ y | inr z ↦ absurd (none z.0 z.1 z.3) ]),
  );
}

-- ---- one column, and then the others
-- what some number at the column makes hold
pub along_some : (g h : Gauge) (columns col : ℕ) (cols : List ℕ) (rows : List Row) (P : List ℤ → Type 0) (old new : List (List Row))
    → AllPairs (λ a b. a ≢ b) cols → among col cols ≡ true → col < columns → IsCharged g h
    → ((point : List ℤ) → length point ≡ columns - 1 → P point ↔ HoldAtSome rows col point)
    → AddsAlong h (columns - 1) (others_of col cols) P old new → AddsAlong g columns cols (HoldRows rows) old new
along_some g h columns col cols rows P old new d m i c f b = record {
  added = b.added;
  pushed = b.pushed;
  proper = λ k z j. rw count (λ n y l.
      let q = b.proper k z j n y l in
      record { formed = q.formed; within = row_within_kept g h (get_or (get_or b.added k z) n y) (charged_bits g h c) q.within });
  normal = b.normal;
  points = λ point l. let same = b.points point (l ∙ count) in (
    (λ x. forth point (same.0 x)),
    (λ x. same.1 (back point x)),
  );
}
  where
    count : columns - length cols ≡ columns - 1 - length (others_of col cols)
    count = let n = others_count col cols d m in omega (arith, n)

    forth : (point : List ℤ) → HoldsAlong (columns - 1) (others_of col cols) P point → HoldsAlong columns cols (HoldRows rows) point
    forth point x =
        let y = (f x.0 x.1).0 x.3 in
        let short = x.1 in
        let inside : col ≤ length x.0 = omega (arith, short, i) in
        let long = length-insert x.0 col y.0 inside in
        (insert x.0 col y.0, omega (arith, long, short, i), without_insert cols col x.0 y.0 m inside ∙ x.2, y.1)

    back : (point : List ℤ) → HoldsAlong columns cols (HoldRows rows) point → HoldsAlong (columns - 1) (others_of col cols) P point
    back point x =
        let whole = x.0 in
        let full = x.1 in
        let again = insert-remove whole col (omega (arith, full, i)) in
        let short = length-remove whole col (omega (arith, full, i)) in
        let rest : length (remove whole col) ≡ columns - 1 = omega (arith, short, full) in
        let left = without_insert cols col (remove whole col) (get_or whole col (pos 0)) m (omega (arith, rest, i)) in (
          remove whole col,
          rest,
          sym left ∙ ap (without cols) again ∙ x.2,
          (f (remove whole col) rest).1 (get_or whole col (pos 0), rw again x.3),
        )

pub along_narrow : {A : Type 0} (g k : Gauge) (columns col : ℕ) (cols : List ℕ) (rows : List Row) (old new : List (List Row)) (result : Result A Cut)
    → AllPairs (λ a b. a ≢ b) cols → among col cols ≡ true → col < columns
    → MatchResult result (λ _. AddsAlong g (columns - 1) (others_of col cols) (HoldAtSome rows col) old new × IsCharged g k) (IsCutBy g k)
    → MatchResult result (λ _. AddsAlong g columns cols (HoldRows rows) old new × IsCharged g k) (IsCutBy g k)
along_narrow g k columns col cols rows old new (Ok v) d m i r =
    (along_some g g columns col cols rows (HoldAtSome rows col) old new d m i (IsCharged_refl g g refl) (λ point l. ((λ h. h), (λ h. h))) r.0, r.1)
along_narrow g k columns col cols rows old new (Err cut) d m i r = r

pub along_after : {A : Type 0} (g h k : Gauge) (columns col : ℕ) (cols : List ℕ) (rows : List Row) (parts : PartsView) (old new : List (List Row)) (result : Result A Cut) → AllPairs (λ a b. a ≢ b) cols → among col cols ≡ true → col < columns → IsCharged g h
    → ArePartsOf g columns col rows parts → MatchResult result (λ _. AddsAlong h (columns - 1) (others_of col cols) (HoldsPart parts) old new × IsCharged h k) (IsCutBy h k)
    → MatchResult result (λ _. AddsAlong g columns cols (HoldRows rows) old new × IsCharged g k) (IsCutBy g k)
along_after g h k columns col cols rows parts old new (Ok v) d m i c a r =
    (along_some g h columns col cols rows (HoldsPart parts) old new d m i c a.points r.0, IsCharged_trans g h k c r.1)
along_after g h k columns col cols rows parts old new (Err cut) d m i c a r = IsCutBy-after g h k cut c r

-- ---- how many lists
-- one list more
pub one_more : (n : ℕ) (old new : List (List Row)) (rows : List Row) → new ≡ old ++ rows ∷ [] → n + length new ≤ n + (length old + 1)
one_more n old new rows e =
    let count = ap (λ (xs : List (List Row)). length xs) e ∙ length-append old (rows ∷ []) in omega (arith, count)

head_one : (parts : PartsView) → head_count parts ≤ 1
head_one parts = at_most parts.dark_shadow.dark
  where
    at_most : (dark : Option (List Row)) → count_of dark ≤ 1
    at_most None = omega arith
    at_most (Some rows) = omega arith

pub counted_after : {A : Type 0} (g h k : Gauge) (parts : PartsView) (old new : List (List Row)) (result : Result A Cut) → IsCharged g h
    → IfOk result (λ _. h.units + length new ≤ k.units + (length old + head_count parts))
    → IfOk result (λ _. g.units + length new ≤ k.units + (length old + 1))
counted_after {A} g h k parts old new result c p =
    IfOk-weaker result (λ _. h.units + length new ≤ k.units + (length old + head_count parts))
    (λ _. g.units + length new ≤ k.units + (length old + 1))
    (λ _ w. let u = c.units in let one = head_one parts in omega (arith, w, u, one)) p

-- the columns that are left
pub columns_after : (n col : ℕ) (cols left : List ℕ) → left ≡ others_of col cols → AllPairs (λ a b. a ≢ b) cols → col < n
    → All (λ c. c < n) cols → AllPairs (λ a b. a ≢ b) left × All (λ c. c < n - 1) left
columns_after n col cols left e d i a = rw e (others_distinct col cols d, others_inside n col cols i a)

-- ---- the same points
pub along_same : (g : Gauge) (columns : ℕ) (cols : List ℕ) (P Q : List ℤ → Type 0) (old new : List (List Row))
    → ((point : List ℤ) → length point ≡ columns → P point ↔ Q point) → AddsAlong g columns cols P old new → AddsAlong g columns cols Q old new
along_same g columns cols P Q old new same a = record {
  added = a.added;
  pushed = a.pushed;
  proper = a.proper;
  normal = a.normal;
  points = λ point l. let p = a.points point l in (
    (λ h. let x = p.0 h in (x.0, x.1, x.2, (same x.0 x.1).0 x.3)),
    (λ x. p.1 (x.0, x.1, x.2, (same x.0 x.1).1 x.3)),
  );
}

pub along_normal : (g : Gauge) (columns : ℕ) (cols : List ℕ) (rows normal : List Row) (old new : List (List Row))
    → ((point : List ℤ) → HoldRows normal point ↔ HoldRows rows point) → AddsAlong g columns cols (HoldRows normal) old new
    → AddsAlong g columns cols (HoldRows rows) old new
along_normal g columns cols rows normal old new same =
    along_same g columns cols (HoldRows normal) (HoldRows rows) old new (λ point l. same point)

-- what is left without a column, of normal rows for it
pub along_rows : {A : Type 0} (g h : Gauge) (columns : ℕ) (cols : List ℕ) (P : List ℤ → Type 0) (rows : List Row) (old new : List (List Row))
    (result : Result A Cut) → AreRowsOf g columns P rows
    → MatchResult result (λ _. AddsAlong g columns cols (HoldRows rows) old new × IsCharged g h) (IsCutBy g h)
    → MatchResult result (λ _. AddsAlong g columns cols P old new × IsCharged g h) (IsCutBy g h)
along_rows g h columns cols P rows old new (Ok v) k r = (along_same g columns cols (HoldRows rows) P old new k.points r.0, r.1)
along_rows g h columns cols P rows old new (Err cut) k r = r

pub along_false : (g : Gauge) (columns : ℕ) (cols : List ℕ) (rows : List Row) (old new : List (List Row)) → new ≡ old → ((point : List ℤ) → ¬ HoldRows rows point) → AddsAlong g columns cols (HoldRows rows) old new
along_false g columns cols rows old new e none = record {
  added = [];
  pushed = e ∙ sym (append-nil old);
  proper = All-nil (λ (rows : List Row). All (IsProper g (columns - length cols)) rows);
  normal = All-nil IsNormal;
  points = λ point l. ((λ h. absurd (Any-none (λ (r : List Row). HoldRows r point) h)), (λ x. absurd (none x.0 x.3)));
}

-- what holds nowhere leaves nothing
pub along_none_of : (g : Gauge) (columns : ℕ) (cols : List ℕ) (P : List ℤ → Type 0) (lists : List (List Row))
    → ((point : List ℤ) → length point ≡ columns → ¬ P point) → AddsAlong g columns cols P lists lists
along_none_of g columns cols P lists none = record {
  added = [];
  pushed = sym (append-nil lists);
  proper = All-nil (λ (rows : List Row). All (IsProper g (columns - length cols)) rows);
  normal = All-nil IsNormal;
  points = λ point l. ((λ h. absurd (Any-none (λ (r : List Row). HoldRows r point) h)), (λ x. absurd (none x.0 x.1 x.3)));
}

pub along_nowhere : (g : Gauge) (columns : ℕ) (cols : List ℕ) (rows : List Row) (lists : List (List Row)) → HoldNowhere columns rows
    → AddsAlong g columns cols (HoldRows rows) lists lists
along_nowhere g columns cols rows lists none = along_none_of g columns cols (HoldRows rows) lists none

-- what is added after units were used
pub along_charged : {A : Type 0} (g h k : Gauge) (columns : ℕ) (cols : List ℕ) (rows : List Row) (old new : List (List Row))
    (result : Result A Cut) → IsCharged g h
    → MatchResult result (λ _. AddsAlong h columns cols (HoldRows rows) old new × IsCharged h k) (IsCutBy h k)
    → MatchResult result (λ _. AddsAlong g columns cols (HoldRows rows) old new × IsCharged g k) (IsCutBy g k)
along_charged g h k columns cols rows old new (Ok v) c r =
    let b = r.0 in (
      record {
        added = b.added;
        pushed = b.pushed;
        proper = λ i d j n y l. let q = b.proper i d j n y l in
            record { formed = q.formed; within = row_within_kept g h (get_or (get_or b.added i d) n y) (charged_bits g h c) q.within };
        normal = b.normal;
        points = b.points;
      },
      IsCharged_trans g h k c r.1,
    )
along_charged g h k columns cols rows old new (Err cut) c r = IsCutBy-after g h k cut c r

pub counted_charged : {A : Type 0} (g h k : Gauge) (old new : List (List Row)) (result : Result A Cut) → IsCharged g h
    → IfOk result (λ _. h.units + length new ≤ k.units + (length old + 1))
    → IfOk result (λ _. g.units + length new ≤ k.units + (length old + 1))
counted_charged {A} g h k old new result c p =
    IfOk-weaker result (λ _. h.units + length new ≤ k.units + (length old + 1)) (λ _. g.units + length new ≤ k.units + (length old + 1))
    (λ _ w. let u = c.units in omega (arith, w, u)) p

pub proper_rows : (g : Gauge) (columns : ℕ) (rows : List Row) → All (IsWellFormed columns) rows → All (IsRowWithin g) rows → All (IsProper g columns) rows
proper_rows g columns rows f w = λ k d i. record { formed = f k d i; within = w k d i }

pub ruleset along_steps = (charges, next_proper, parts_after, along_none, pushed_first, pushed_next, pushed_all, others_distinct, others_inside, along_normal, along_false, proper_rows, narrow_low)
