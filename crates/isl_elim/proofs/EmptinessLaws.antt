-- Emptiness, one part after another.
use Rattle.std.proofs.Common.{◌≡◌, ◌≢◌, ◌↔◌, inl, inr, refl, ap, arith, ℕ, zero, suc, ℤ, pos, List, [], ◌∷◌, ◌-◌, ◌<◌, ◌≤◌, length, get_or, Bool, true, false}
use Rattle.std.specs.Prelude.{IsTrue, is_none, Option, Some, None, MatchOption, Result, MatchResult, Ok, Err}
use Rattle.std.specs.List.{All, insert, remove}
use Rattle.std.proofs.lemmas.List.Elements.{All-head}
use Rattle.std.proofs.lemmas.List.{nil_from_length}
use Rattle.std.proofs.lemmas.List.Edits.{length-remove, length-insert}
use Rattle.isl_meter.specs.Gauge.{Gauge, IsCharged, IsCutBy}
use Rattle.isl_meter.specs.declared.Cut.{Cut}
use Rattle.isl_meter.proofs.CutLemmas.{IsCharged_refl, IsCharged_trans, IsCutBy-after, charges}
use Rattle.isl_piece.specs.declared.row.Row.{Row}
use Rattle.isl_piece.specs.declared.row.RowKind.TheVariants as kinds
use Rattle.isl_elim.specs.declared.solved.UnitEquality.{UnitEquality}
use Rattle.isl_elim.specs.Solved.{IsSubstituted, IsUnitEqualityOf}
use Rattle.isl_piece.specs.Normal.{IsNormal}
use Rattle.isl_piece.specs.System.{HoldRows}
use Rattle.isl_redundant.specs.Redundant.{IsReduced}
use Rattle.isl_piece.specs.Row.{HoldsRow, IsContingent}
use Rattle.isl_omega.specs.Column.{IsProper}
use Rattle.isl_presolve.specs.Emptiness.{HoldNowhere}
use Rattle.isl_column.specs.Column.{HoldAtSome}
use Rattle.isl_column.specs.RealShadow.{AreImplied, IsImplied}
use Rattle.isl_column.specs.Parts.{PartsView, AreParts, ArePartsOf, IsNextPart, AreNone, HoldsPart}
use Rattle.isl_column.proofs.PartsLemmas.{parts_kept}
use Rattle.isl_elim.proofs.PartsLaws.{next_proper, parts_after}

pub true_not_false : IsTrue false → ⊥
true_not_false e = grind arith

-- so many zeros
pub zeros : (k : ℕ) → (whole : List ℤ) × (length whole ≡ k)
zeros zero = ([], refl)
zeros (suc k) = let z = zeros k in (pos 0 ∷ z.0, ap suc z.1)

-- rows that are none hold at each point, of which there is one
pub none_hold : (columns : ℕ) (rows : List Row) → rows ≡ [] → HoldNowhere columns rows → ⊥
none_hold columns rows e n = let z = zeros columns in n z.0 z.1 (rw e (λ k d i. absurd (omega arith)))

-- what is still to come holds where what there was does
pub record IsSoFar (g h : Gauge) (columns : ℕ) (first now : PartsView) : Type 0 where
  pub charged : IsCharged g h
  pub are : AreParts h columns now
  pub points : (point : List ℤ) → length point ≡ columns → HoldsPart first point ↔ HoldsPart now point

pub so_far_first : (g : Gauge) (columns : ℕ) (parts : PartsView) → AreParts g columns parts → IsSoFar g g columns parts parts
so_far_first g columns parts a = record {
  charged = IsCharged_refl g g refl;
  are = a;
  points = λ point l. ((λ h. h), (λ h. h));
}

pub so_far_next : (g h k : Gauge) (columns : ℕ) (first now next : PartsView) (rows : List Row) → IsSoFar g h columns first now → IsNextPart h columns now rows next → HoldNowhere columns rows → IsCharged h k → IsSoFar g k columns first next
so_far_next g h k columns first now next rows s n nowhere c = record {
  charged = IsCharged_trans g h k s.charged c;
  are = parts_kept h k columns next c n.rest;
  points = λ point l. (
    (λ x. elim ((n.points point l).0 ((s.points point l).0 x)) [ inl y ↦ absurd (nowhere point l y) | inr z ↦ z ]),
    (λ x. (s.points point l).1 ((n.points point l).1 (inr x))),
  );
}

-- a part that holds somewhere
pub so_far_somewhere : (g h : Gauge) (columns : ℕ) (first now next : PartsView) (rows : List Row) → IsSoFar g h columns first now → IsNextPart h columns now rows next → (HoldNowhere columns rows → ⊥) → ((point : List ℤ) → length point ≡ columns → ¬ HoldsPart first point) → ⊥
so_far_somewhere g h columns first now next rows s n somewhere nowhere = somewhere (λ point l x. nowhere point l ((s.points point l).1 ((n.points point l).1 (inl x))))

-- none is left
pub so_far_none : (g h : Gauge) (columns : ℕ) (first now : PartsView) → IsSoFar g h columns first now → ((point : List ℤ) → length point ≡ columns → ¬ HoldsPart now point) → (point : List ℤ) → length point ≡ columns → ¬ HoldsPart first point
so_far_none g h columns first now s n point l x = n point l ((s.points point l).0 x)

-- a part holds somewhere, and so the answer is no
pub some_holds : (g h k m : Gauge) (columns : ℕ) (first now next : PartsView) (rows : List Row) (empty : Bool) → empty ≡ false
    → IsSoFar g h columns first now → IsNextPart h columns now rows next → IsCharged h k → IsTrue empty ↔ HoldNowhere columns rows
    → IsCharged k m
    → (IsTrue false ↔ AreNone columns first) × IsCharged g m
some_holds g h k m columns first now next rows empty e s n c a d = (
  (
    (λ t. absurd (true_not_false t)),
    (λ nowhere. absurd (so_far_somewhere g h columns first now next rows s n (λ x. true_not_false (rw e at (a.1 x))) nowhere)),
  ),
  IsCharged_trans g k m (IsCharged_trans g h k s.charged c) d,
)

-- nothing is left, and so the answer is yes
pub none_holds : (g h k : Gauge) (columns : ℕ) (first now : PartsView) → IsSoFar g h columns first now → AreNone columns now → IsCharged h k
    → (IsTrue true ↔ AreNone columns first) × IsCharged g k
none_holds g h k columns first now s n c = (((λ t. so_far_none g h columns first now s n), (λ x. refl)), IsCharged_trans g h k s.charged c)

-- ---- the column put in again
pub insert-remove : (xs : List ℤ) (i : ℕ) → i < length xs → insert (remove xs i) i (get_or xs i (pos 0)) ≡ xs
insert-remove [] i h = absurd (omega arith)
insert-remove (y ∷ xs) zero h = refl
insert-remove (y ∷ xs) (suc i) h = ap (λ (ys : List ℤ). y ∷ ys) (insert-remove xs i (omega arith))

-- the rows hold nowhere where their parts hold nowhere
pub parts_nowhere : (g : Gauge) (columns col : ℕ) (rows : List Row) (parts : PartsView) → col < columns → ArePartsOf g columns col rows parts → ((point : List ℤ) → length point ≡ columns - 1 → ¬ HoldsPart parts point) ↔ HoldNowhere columns rows
parts_nowhere g columns col rows parts i a = (
  (λ n whole l h.
      let back = insert-remove whole col (omega arith) in
      let short = length-remove whole col (omega arith) in
      n (remove whole col) (omega arith) ((a.points (remove whole col) (omega arith)).1 (get_or whole col (pos 0), rw back h))),
  (λ n point l h.
      let x = (a.points point l).0 h in
      let long = length-insert point col x.0 (omega arith) in
      n (insert point col x.0) (omega arith) x.1),
)

-- ---- normal rows over no column
-- a row over no column says the same of each point, and so is not contingent
no_column : (r : Row) → length r.coefs ≡ 0 → IsContingent r → ⊥
no_column r e c =
    let none : r.coefs ≡ [] = nil_from_length r.coefs e in
    let same : (xs ys : List ℤ) → HoldsRow r xs → HoldsRow r ys = λ xs ys h. rw none (rw none at h) in
    c.possible (λ xs h. c.refutable (λ ys. same xs ys h))

-- normal rows that are some have a column
pub some_column : (g : Gauge) (columns : ℕ) (rows : List Row) → All (IsProper g columns) rows → IsNormal rows → rows ≢ [] → 0 < columns
some_column g columns [] p n h = absurd (h refl)
some_column g zero (r ∷ rows) p n h = absurd (no_column r (All-head (IsProper g zero) r rows p).formed.width (All-head IsContingent r rows n.contingent))
some_column g (suc columns) (r ∷ rows) p n h = omega arith

-- an answer for P is one for Q
pub answered_after : (g h k : Gauge) (P Q : Type 0) (result : Result Bool Cut) → P ↔ Q → IsCharged g h → MatchResult result (λ empty. (IsTrue empty ↔ P) × IsCharged h k) (IsCutBy h k)
    → MatchResult result (λ empty. (IsTrue empty ↔ Q) × IsCharged g k) (IsCutBy g k)
answered_after g h k P Q (Ok empty) both c r = (((λ t. both.0 (r.0.0 t)), (λ q. r.0.1 (both.1 q))), IsCharged_trans g h k c r.1)
answered_after g h k P Q (Err cut) both c r = IsCutBy-after g h k cut c r

-- ---- the head, and the rest
pub head_found : (g : Gauge) (columns : ℕ) (parts rest : PartsView) (found : Option (List Row)) (head : List Row) → found ≡ Some head → MatchOption found (rest ≡ parts) (λ rows. IsNextPart g columns parts rows rest) → IsNextPart g columns parts head rest
head_found g columns parts rest found head e f = rw e at f

pub head_missing : (g : Gauge) (columns : ℕ) (parts rest : PartsView) (found : Option (List Row)) → found ≡ None → MatchOption found (rest ≡ parts) (λ rows. IsNextPart g columns parts rows rest) → rest ≡ parts
head_missing g columns parts rest found e f = rw e at f

-- where the head holds nowhere, the rest does where the rows do
pub rest_nowhere : (g h : Gauge) (columns col : ℕ) (rows head : List Row) (parts rest : PartsView) → col < columns → ArePartsOf g columns col rows parts → IsNextPart h (columns - 1) parts head rest → HoldNowhere (columns - 1) head
    → AreNone (columns - 1) rest ↔ HoldNowhere columns rows
rest_nowhere g h columns col rows head parts rest i a n nowhere =
    let both = parts_nowhere g columns col rows parts i a in (
      (λ none. both.0 (λ point l x. elim ((n.points point l).0 x) [ inl y ↦ nowhere point l y | inr z ↦ none point l z ])),
      (λ q point l x. both.1 q point l ((n.points point l).1 (inr x))),
    )

-- where it holds somewhere, the rows do
pub head_somewhere : (g h : Gauge) (columns col : ℕ) (rows head : List Row) (parts rest : PartsView) → col < columns → ArePartsOf g columns col rows parts → IsNextPart h (columns - 1) parts head rest → (HoldNowhere (columns - 1) head → ⊥) → HoldNowhere columns rows → ⊥
head_somewhere g h columns col rows head parts rest i a n somewhere q =
    let both = parts_nowhere g columns col rows parts i a in
    somewhere (λ point l x. both.1 q point l ((n.points point l).1 (inl x)))

pub head_holds : (g h k m : Gauge) (columns col : ℕ) (rows head : List Row) (parts rest : PartsView) (empty : Bool) → empty ≡ false → col < columns → ArePartsOf g columns col rows parts → IsNextPart h (columns - 1) parts head rest
    → IsTrue empty ↔ HoldNowhere (columns - 1) head → IsCharged k m → IsCharged g k → (IsTrue false ↔ HoldNowhere columns rows) × IsCharged g m
head_holds g h k m columns col rows head parts rest empty e i a n answer d c = (
  ((λ t. absurd (true_not_false t)), (λ q. absurd (head_somewhere g h columns col rows head parts rest i a n (λ x. true_not_false (rw e at (answer.1 x))) q))),
  IsCharged_trans g k m c d,
)

-- ---- real shadows
-- where the shadow has no point, the rows have none
shadow_none : (columns col : ℕ) (rows : List Row) → col < columns → ((point : List ℤ) → length point ≡ columns - 1 → ¬ HoldAtSome rows col point) → HoldNowhere columns rows
shadow_none columns col rows i n whole l h =
    let back = insert-remove whole col (omega arith) in
    let short = length-remove whole col (omega arith) in
    n (remove whole col) (omega arith) (get_or whole col (pos 0), rw back h)

pub shadow_missing : (g : Gauge) (columns col : ℕ) (rows slice : List Row) (found : Option (List Row)) → col < columns → slice ≡ rows → found ≡ None → IsImplied g (columns - 1) (HoldAtSome slice col) found → HoldNowhere columns rows
shadow_missing g columns col rows slice found i s e a = shadow_none columns col rows i (rw (e, s) at a)

pub shadow_found : (g : Gauge) (columns col : ℕ) (rows slice shadow : List Row) (found : Option (List Row)) → slice ≡ rows → found ≡ Some shadow → IsImplied g (columns - 1) (HoldAtSome slice col) found → AreImplied g (columns - 1) (HoldAtSome rows col) shadow
shadow_found g columns col rows slice shadow found s e a = rw (e, s) at a

shadow_some : (g : Gauge) (columns col : ℕ) (rows shadow : List Row) → col < columns → AreImplied g (columns - 1) (HoldAtSome rows col) shadow → HoldNowhere (columns - 1) shadow → HoldNowhere columns rows
shadow_some g columns col rows shadow i a n = shadow_none columns col rows i (λ point l h. n point l (a.points point l h))

pub shadow_after : (g h k : Gauge) (columns col : ℕ) (rows shadow : List Row) (result : Result Bool Cut) → col < columns → AreImplied g (columns - 1) (HoldAtSome rows col) shadow → IsCharged g h
    → MatchResult result (λ empty. (IsTrue empty → HoldNowhere (columns - 1) shadow) × IsCharged h k) (IsCutBy h k)
    → MatchResult result (λ empty. (IsTrue empty → HoldNowhere columns rows) × IsCharged g k) (IsCutBy g k)
shadow_after g h k columns col rows shadow (Ok empty) i a c r = ((λ t. shadow_some g columns col rows shadow i a (r.0 t)), IsCharged_trans g h k c r.1)
shadow_after g h k columns col rows shadow (Err cut) i a c r = IsCutBy-after g h k cut c r

-- ---- a column that an equality gives
pub equality_inside : (g : Gauge) (columns : ℕ) (rows : List Row) (found : UnitEquality) → All (IsProper g columns) rows
    → IsUnitEqualityOf rows found → found.col < columns
equality_inside g columns rows found proper is =
    let row = get_or rows found.at none in
    let wide = (proper found.at none is.place).formed.width in
    let inside = is.inside none in
    omega (arith, wide, inside)
  where
    none : Row
    none = record { kind = kinds.Zero; coefs = []; constant = pos 0; k = pos 1 }

pub substituted_after : (g k : Gauge) (columns col : ℕ) (rows short : List Row) (result : Result Bool Cut) → col < columns
    → IsSubstituted g columns col rows short
    → MatchResult result (λ empty. (IsTrue empty ↔ HoldNowhere (columns - 1) short) × IsCharged g k) (IsCutBy g k)
    → MatchResult result (λ empty. (IsTrue empty ↔ HoldNowhere columns rows) × IsCharged g k) (IsCutBy g k)
substituted_after g k columns col rows short (Ok empty) i a m = (
  (
    (λ t. shadow_none columns col rows i (λ point l h. m.0.0 t point l ((a.points point l).1 h))),
    (λ n. m.0.1 (λ point l h.
        let x = (a.points point l).0 h in
        let inside : col ≤ length point = omega (arith, l, i) in
        let long = length-insert point col x.0 inside in
        n (insert point col x.0) (omega (arith, long, l, i)) x.1)),
  ),
  m.1,
)
substituted_after g k columns col rows short (Err cut) i a m = m

-- of rows that hold at the same points
pub normal_after : (g k : Gauge) (columns : ℕ) (rows normal : List Row) (result : Result Bool Cut)
    → ((point : List ℤ) → HoldRows normal point ↔ HoldRows rows point)
    → MatchResult result (λ empty. (IsTrue empty ↔ HoldNowhere columns normal) × IsCharged g k) (IsCutBy g k)
    → MatchResult result (λ empty. (IsTrue empty ↔ HoldNowhere columns rows) × IsCharged g k) (IsCutBy g k)
normal_after g k columns rows normal (Ok empty) same m = (
  ((λ t point l h. m.0.0 t point l ((same point).1 h)), (λ n. m.0.1 (λ point l h. n point l ((same point).0 h)))),
  m.1,
)
normal_after g k columns rows normal (Err cut) same m = m

-- of fewer rows that hold at the same points
pub shadow_fewer : (g h k : Gauge) (columns : ℕ) (rows few : List Row) (result : Result Bool Cut) → IsReduced columns rows few
    → MatchResult result (λ empty. (IsTrue empty → HoldNowhere columns few) × IsCharged g k) (IsCutBy g k)
    → MatchResult result (λ empty. (IsTrue empty → HoldNowhere columns rows) × IsCharged g k) (IsCutBy g k)
shadow_fewer g h k columns rows few (Ok empty) r m = ((λ t point l x. m.0 t point l ((r.points point).1 x)), m.1)
shadow_fewer g h k columns rows few (Err cut) r m = m

pub found_few : (columns : ℕ) (rows few : List Row) (found : Option (List Row)) → found ≡ Some few
    → MatchOption found ((point : List ℤ) → ¬ HoldRows rows point) (IsReduced columns rows) → IsReduced columns rows few
found_few columns rows few found e f = rw e at f

pub found_none : (columns : ℕ) (rows : List Row) (found : Option (List Row)) → found ≡ None
    → MatchOption found ((point : List ℤ) → ¬ HoldRows rows point) (IsReduced columns rows) → HoldNowhere columns rows
found_none columns rows found e f point l = (rw e at f) point

-- the answer for one column
normal_none : (g : Gauge) (rows : List Row) → All (IsProper g 0) rows → IsNormal rows → rows ≡ []
normal_none g [] p n = refl
normal_none g (r ∷ rows) p n = let h = some_column g 0 (r ∷ rows) p n (λ e. let l = ap (λ (xs : List Row). length xs) e in omega (arith, l)) in absurd (omega (arith, h))

pub column_found : (g h : Gauge) (rows : List Row) (parts new : PartsView) (found : Option (List Row)) → ArePartsOf g 1 0 rows parts
    → MatchOption found ((point : List ℤ) → length point ≡ 0 → ¬ HoldsPart parts point) (λ left. IsNextPart h 0 parts left new)
    → IsTrue (is_none found) ↔ HoldNowhere 1 rows
column_found g h rows parts new None a f = ((λ t. (parts_nowhere g 1 0 rows parts (omega arith) a).0 f), (λ n. refl))
column_found g h rows parts new (Some left) a f =
    let both = parts_nowhere g 1 0 rows parts (omega arith) a in
    let none = normal_none h left f.proper f.normal in (
      (λ t. absurd (true_not_false t)),
      (λ n. absurd (none_hold 0 left none (λ point l x. both.1 n point l ((f.points point l).1 (inl x))))),
    )

pub ruleset emptiness_steps = (charges, next_proper, parts_after, so_far_first, so_far_next, so_far_somewhere, so_far_none, none_hold, some_column, parts_nowhere)
