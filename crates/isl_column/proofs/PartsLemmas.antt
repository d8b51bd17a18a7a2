-- What is still to come: one list after another.
use Rattle.std.proofs.Common.{◌≡◌, ◌≢◌, ◌↔◌, ◌⊎◌, inl, inr, Option, Some, None, ◌∙◌, refl, sym, ap, arith, Bool, true, false, cond, int_lt, ℕ, ◌+◌, ◌-◌, ◌*◌, ◌<◌, ◌≤◌, ◌^◌, ℤ, pos, ◌+ℤ◌, ◌-ℤ◌, ◌*ℤ◌, ◌≤ℤ◌, ◌<ℤ◌, List, [], ◌∷◌, ◌++◌, length, MatchOption}
use Rattle.std.specs.Prelude.{IfSome, IsTrue, option_to_list, Result, Ok, Err, MatchResult}
use Rattle.std.specs.List.{All}
use Rattle.std.proofs.lemmas.Bool.{cond-true}
use Rattle.std.proofs.lemmas.List.{length-append, append-nil}
use Rattle.std.proofs.lemmas.List.Elements.{All-nil, All-push}
use Rattle.isl_math.proofs.Ring.{expand, linear}
use Rattle.isl_math.proofs.OrderLaws.{not_negative-*ℤ, positive-*ℤ, ≤ℤ-*ℤ}
use Rattle.isl_math.proofs.ListLaws.{Any-none, Any-parts, Any-left, Any-right, Any-one, Any-first}
use Rattle.isl_meter.specs.Gauge.{Gauge, IsCharged, IsChargedUpTo, IsCutBy, IsCutUpTo}
use Rattle.isl_meter.specs.declared.Cut.{Cut}
use Rattle.isl_meter.proofs.CutLemmas.{IsCharged_refl, IsCharged_trans, IsCutBy-after}
use Rattle.isl_meter.proofs.LimitLemmas.{within_kept}
use Rattle.isl_meter.proofs.UnitLemmas.{cut_weaker}
use Rattle.isl_piece.specs.declared.row.Row.{Row}
use Rattle.isl_piece.specs.Normal.{IsNormal}
use Rattle.isl_piece.specs.Row.{IsRowUpTo}
use Rattle.isl_piece.proofs.NormalCases.{int_lt-true}
use Rattle.isl_piece.specs.System.{HoldRows}
use Rattle.isl_omega.specs.Column.{IsAnswerFor, IsProper}
use Rattle.isl_omega.specs.Equality.{HasEquality}
use Rattle.isl_omega.specs.Sides.{AreSided}
use Rattle.isl_omega.specs.declared.shadow.Splinters.{Splinters}
use Rattle.isl_omega.specs.declared.sides.Sides.{Sides}
use Rattle.isl_shadows.specs.Column.{HoldAtSome, HoldAtAny, IsProjectionOf}
use Rattle.isl_shadows.specs.Splinters.{HoldsDark, HasSplinter, KeepBound, AreSplinters, splinter_count}
use Rattle.isl_column.specs.DarkShadow.{IsDarkShadow, HoldsDarkShadow, IsTakenOut, IsNoDarkShadow}
use Rattle.isl_shadows.specs.Exact.{IsExactColumn, exact_rows, pairs_on}
use Rattle.isl_shadows.specs.Magnitude.{AreSmallSplinters, HaveSmallNumbers, HaveOneCongruence}
use Rattle.isl_column.specs.Parts.{PartsView, HoldsPart, count_of, head_count, residues_most, most_units, residues_least, least_units, least_units_of, AreResidues, AreParts, ArePartsOf, IsNextPart, AreNone, IsFoundIn, AreUnitsUpTo, IsHeadAlone, AreSmallParts, AreBegun, IsBegun, IsOpened, IsOpenedFrom, IsNoResidue}
use Rattle.isl_shadows.specs.Residue.{HasNumber, residue_units, sides_units}
use Rattle.isl_shadows.specs.Solved.{solved_rows}
use Rattle.isl_shadows.specs.Units.{elimination_units}
use Rattle.isl_column.specs.declared.dark_shadow.DarkShadow.{DarkShadow}
use Rattle.isl_column.specs.declared.residue.Residues.{Residues}
use Rattle.isl_shadows.proofs.ResidueLemmas.{sided_kept, residues_none, residues_next, residues_all}
use Rattle.isl_shadows.proofs.SplinterLemmas.{rows_proper_kept, total_not_negative, some_splinters, no_splinters}
use Rattle.isl_column.proofs.SplinterLemmas.{shadow_kept, taken_dark}
use Rattle.isl_shadows.proofs.UnitLemmas.{residue_units_positive, sides_units_most}

-- ---- what is said does not depend on what the meter counted
-- a meter that was charged has the same limit
pub same_limit : (g h : Gauge) → IsCharged g h → h.bits ≡ g.bits
same_limit g h c = ap (λ (x : Gauge). x.bits) c.same

pub residues_kept : (g h : Gauge) (columns col : ℕ) (r : Residues) → h.bits ≡ g.bits → AreResidues h columns col r → AreResidues g columns col r
residues_kept g h columns col r e a = record {
  sided = sided_kept g h columns col r.sides e a.sided;
  divides = a.divides;
  period = a.period;
  within = within_kept g h r.period e a.within;
  not_negative = a.not_negative;
  not_above = a.not_above;
}

pub some_residues_kept : (g h : Gauge) (columns col : ℕ) (residues : Option Residues) → h.bits ≡ g.bits → IfSome residues (AreResidues h columns col) → IfSome residues (AreResidues g columns col)
some_residues_kept g h columns col None e a = a
some_residues_kept g h columns col (Some r) e a = residues_kept g h columns col r e a

parts_at : (g h : Gauge) (columns : ℕ) (parts : PartsView) → h.bits ≡ g.bits → AreParts h columns parts → AreParts g columns parts
parts_at g h columns parts e a = record {
  width = a.width;
  shadow = shadow_kept g h parts.column.columns parts.column.at parts.dark_shadow e a.shadow;
  residues = some_residues_kept g h parts.column.columns parts.column.at parts.residues e a.residues;
}

pub parts_kept : (g h : Gauge) (columns : ℕ) (parts : PartsView) → IsCharged g h → AreParts g columns parts → AreParts h columns parts
parts_kept g h columns parts c a = parts_at h g columns parts (sym (same_limit g h c)) a

-- ---- units
residues_not_negative : (g : Gauge) (columns col : ℕ) (residues : Option Residues) → IfSome residues (AreResidues g columns col) → pos 0 ≤ℤ residues_most col residues
residues_not_negative g columns col None a = omega (arith, linear)
residues_not_negative g columns col (Some r) a =
    let one = residue_units_positive g columns col r.period r.sides a.period.positive a.sided in
    not_negative-*ℤ r.left (residue_units col r.period r.sides) a.not_negative (omega (arith, linear))

pub units_not_negative : (g : Gauge) (columns : ℕ) (parts : PartsView) → AreParts g columns parts → pos 0 ≤ℤ most_units parts
units_not_negative g columns parts a =
    let tails = total_not_negative g parts.column.columns parts.column.at parts.dark_shadow.tails.items a.shadow.tails in
    let residues = residues_not_negative g parts.column.columns parts.column.at parts.residues a.residues in
    omega (arith, linear)

-- splinters or residues are still to come exactly where units may still be used
pub more_units : (g : Gauge) (columns : ℕ) (parts : PartsView) → AreParts g columns parts → ¬ All (λ t. t.last <ℤ pos 0) parts.dark_shadow.tails.items → pos 0 <ℤ most_units parts
more_units g columns parts a some =
    let tails = some_splinters g parts.column.columns parts.column.at parts.dark_shadow.tails.items a.shadow.tails some in
    let residues = residues_not_negative g parts.column.columns parts.column.at parts.residues a.residues in
    omega (arith, linear)

pub no_more_units : (g : Gauge) (columns : ℕ) (parts : PartsView) → AreParts g columns parts → All (λ t. t.last <ℤ pos 0) parts.dark_shadow.tails.items → parts.residues ≡ None → ¬ (pos 0 <ℤ most_units parts)
no_more_units g columns parts a none e some =
    let tails = no_splinters g parts.column.columns parts.column.at parts.dark_shadow.tails.items a.shadow.tails none in
    let residues : residues_most parts.column.at parts.residues ≡ pos 0 = rw e refl in
    omega (arith, linear)

pub residue_more : (g : Gauge) (columns : ℕ) (parts : PartsView) (r : Residues) → AreParts g columns parts → All (λ t. t.last <ℤ pos 0) parts.dark_shadow.tails.items → parts.residues ≡ Some r
    → (pos 0 <ℤ r.left) ↔ (pos 0 <ℤ most_units parts)
residue_more g columns parts r a none e =
    let tails = no_splinters g parts.column.columns parts.column.at parts.dark_shadow.tails.items a.shadow.tails none in
    let are : AreResidues g parts.column.columns parts.column.at r = rw e at a.residues in
    let most : residues_most parts.column.at parts.residues ≡ r.left *ℤ residue_units parts.column.at r.period r.sides = rw e refl in
    let one = residue_units_positive g parts.column.columns parts.column.at r.period r.sides are.period.positive are.sided in
    by r.left (residue_units parts.column.at r.period r.sides) (most_units parts) are.not_negative (omega (arith, linear)) (omega (arith, linear))
  where
    by : (l u m : ℤ) → pos 0 ≤ℤ l → pos 0 <ℤ u → m ≡ l *ℤ u → (pos 0 <ℤ l) ↔ (pos 0 <ℤ m)
    by l u m n p e = (
      (λ h. rw e (positive-*ℤ l u h p)),
      (λ h. let no : ¬ (l ≡ pos 0) = λ z. (let q : m ≡ pos 0 = e ∙ ap (λ (x : ℤ). x *ℤ u) z ∙ simp expand (omega (arith, linear)) in omega (arith, linear)) in omega (arith, linear)),
    )

true_not_false : IsTrue false → ⊥
true_not_false e = grind arith

-- what tells whether more is to come, of the tails and of residues
pub more_if_unspent : (g : Gauge) (columns : ℕ) (parts : PartsView) (spent : Bool) (tails : List Splinters) → tails ≡ parts.dark_shadow.tails.items → IsTrue spent ↔ All (λ t. t.last <ℤ pos 0) tails → spent ≡ false → AreParts g columns parts
    → IsTrue true ↔ (pos 0 <ℤ most_units parts)
more_if_unspent g columns parts spent tails e is no_longer a = ((λ t. more_units g columns parts a (λ all. true_not_false (rw no_longer at (is.1 (rw e all))))), (λ m. refl))

pub none_if_spent : (g : Gauge) (columns : ℕ) (parts : PartsView) (spent : Bool) (tails : List Splinters) → tails ≡ parts.dark_shadow.tails.items → IsTrue spent ↔ All (λ t. t.last <ℤ pos 0) tails → spent ≡ true → parts.residues ≡ None → AreParts g columns parts
    → IsTrue false ↔ (pos 0 <ℤ most_units parts)
none_if_spent g columns parts spent tails e is all none a = ((λ t. absurd (true_not_false t)), (λ m. absurd (no_more_units g columns parts a (rw e at (is.0 all)) none m)))

pub more_if_residue : (g : Gauge) (columns : ℕ) (parts : PartsView) (spent answer : Bool) (tails : List Splinters) (r : Residues) → tails ≡ parts.dark_shadow.tails.items → IsTrue spent ↔ All (λ t. t.last <ℤ pos 0) tails → spent ≡ true → parts.residues ≡ Some r
    → IsTrue answer ↔ (pos 0 <ℤ r.left) → AreParts g columns parts → IsTrue answer ↔ (pos 0 <ℤ most_units parts)
more_if_residue g columns parts spent answer tails r e is all some own a =
    let more = residue_more g columns parts r a (rw e at (is.0 all)) some in
    ((λ t. more.0 (own.0 t)), (λ m. own.1 (more.1 m)))

pub head_at_most : (dark : Option (List Row)) → count_of dark ≤ 1
head_at_most None = omega arith
head_at_most (Some rows) = omega arith

-- ---- a head alone
pub record IsHead (n c : ℕ) (left : Option (List Row)) (parts : PartsView) : Type 0 where
  pub columns : parts.column.columns ≡ n
  pub col : parts.column.at ≡ c
  pub rows : parts.dark_shadow.rows ≡ []
  pub alone : IsHeadAlone left parts

pub head_none : (left : Option (List Row)) (parts : PartsView) → IsHeadAlone left parts → most_units parts ≡ pos 0
head_none left parts h = by parts.dark_shadow.tails.items parts.residues h.tails h.residues
  where
    by : (tails : List Splinters) (residues : Option Residues) → tails ≡ [] → residues ≡ None → splinter_count tails +ℤ residues_most parts.column.at residues ≡ pos 0
    by tails residues t r = rw (t, r) refl

pub head_same : (left other : Option (List Row)) (parts : PartsView) → left ≡ other → IsHeadAlone left parts → IsHeadAlone other parts
head_same left other parts e h = rw (← e) h

pub head_small : (columns col : ℕ) (left : Option (List Row)) (parts : PartsView) → IsHead columns col left parts → AreSmallParts parts
head_small columns col left parts h = record {
  shadow = record { rows = rw (h.rows) (All-nil (IsRowUpTo (2 ^ 61))); tails = rw (h.alone.tails) (All-nil AreSmallSplinters) };
  residues = h.alone.residues;
}

head_dark : (g : Gauge) (columns : ℕ) (P : List ℤ → Type 0) (left : Option (List Row)) → IsAnswerFor g columns P left
    → IfSome left (λ rows. All (IsProper g columns) rows × IsNormal rows) × ((point : List ℤ) → length point ≡ columns → HoldsDark left point ↔ P point)
head_dark g columns P None a = (tt, λ point n. ((λ h. absurd h), (λ p. absurd (a point n p))))
head_dark g columns P (Some rows) a = ((a.proper, a.normal), a.points)

pub head_begun : (z : ℤ) (g h : Gauge) (columns col : ℕ) (P : List ℤ → Type 0) (left : Option (List Row)) (parts : PartsView) → IsHead columns col left parts → IsAnswerFor g (columns - 1) P left → IsChargedUpTo z g h → AreBegun z columns P g h parts
head_begun z g h columns col P left parts is a c =
    let dark = head_dark g (columns - 1) P left a in record {
      are = record {
        width = rw (is.columns) refl;
        shadow = record {
          rows = rw (is.rows) (All-nil (IsProper g parts.column.columns));
          dark = rw (is.alone.head, is.columns) dark.0;
          tails = rw (is.alone.tails) (All-nil (AreSplinters g parts.column.columns parts.column.at));
          bounds = rw (is.alone.tails) (All-nil (λ (t : Splinters). KeepBound parts.column.columns parts.column.at parts.dark_shadow.rows t.lower));
        };
        residues = rw (is.alone.residues) tt;
      };
      points = λ point n. by point parts.dark_shadow.dark parts.dark_shadow.tails.items parts.residues is.alone.head is.alone.tails is.alone.residues (dark.1 point n);
      charged = c.charged;
      units = let none = head_none left parts is.alone in let most = c.most in omega (arith, linear);
    }
  where
    by : (point : List ℤ) (dark : Option (List Row)) (tails : List Splinters) (residues : Option Residues) → dark ≡ left → tails ≡ [] → residues ≡ None → HoldsDark left point ↔ P point → HoldsPart parts point ↔ P point
    by point dark tails residues d t r same = (
      (λ x. elim x.some [
        | inl y ↦ elim y [ inl u ↦ same.0 (rw is.alone.head at u) | inr v ↦ absurd (Any-none (HasSplinter parts.dark_shadow.rows parts.column.at point) (rw is.alone.tails at v)) ]
        | inr z ↦ absurd (rw is.alone.residues at z)
      ]),
      (λ p. record { some = inl (inl (rw is.alone.head (same.1 p))) }),
    )

-- ---- a dark shadow, and residues
pub shadow_begun : (z : ℤ) (g h : Gauge) (columns col : ℕ) (P : List ℤ → Type 0) (parts : PartsView) → parts.column.columns ≡ columns → parts.column.at ≡ col → parts.residues ≡ None → IsDarkShadow g columns col parts.dark_shadow
    → ((point : List ℤ) → length point ≡ columns - 1 → HoldsDarkShadow parts.dark_shadow col point ↔ P point) → IsCharged g h → (pos h.units +ℤ splinter_count parts.dark_shadow.tails.items) ≤ℤ (pos g.units +ℤ z) → AreBegun z columns P g h parts
shadow_begun z g h columns col P parts a b r s points c units = record {
  are = record {
    width = rw a refl;
    shadow = rw (a, b) s;
    residues = rw r tt;
  };
  points = λ point n. let same = points point n in (
    (λ x. elim x.some [ inl y ↦ same.0 (rw b at y) | inr w ↦ absurd (rw r at w) ]),
    (λ p. record { some = inl (rw b (same.1 p)) }),
  );
  charged = c;
  units = let none = no_residues parts.residues r in omega (arith, linear);
}
  where
    no_residues : (residues : Option Residues) → residues ≡ None → residues_most parts.column.at residues ≡ pos 0
    no_residues residues e = rw e refl

pub record IsResidual (n c : ℕ) (r : Residues) (parts : PartsView) : Type 0 where
  pub columns : parts.column.columns ≡ n
  pub col : parts.column.at ≡ c
  pub rows : parts.dark_shadow.rows ≡ []
  pub head : parts.dark_shadow.dark ≡ None
  pub tails : parts.dark_shadow.tails.items ≡ []
  pub residues : parts.residues ≡ Some r

pub residues_begun : (g : Gauge) (columns col : ℕ) (sides : Sides) (r : Residues) (parts : PartsView) → IsResidual columns col r parts → AreSided g columns col sides → AreResidues g columns col r → r.sides ≡ sides → r.left ≡ r.period → AreBegun (sides_units col sides) columns (HasNumber sides col) g g parts
residues_begun g columns col sides r parts is sided a s p = record {
  are = record {
    width = rw (is.columns) refl;
    shadow = record {
      rows = rw (is.rows) (All-nil (IsProper g parts.column.columns));
      dark = rw (is.head) tt;
      tails = rw (is.tails) (All-nil (AreSplinters g parts.column.columns parts.column.at));
      bounds = rw (is.tails) (All-nil (λ (t : Splinters). KeepBound parts.column.columns parts.column.at parts.dark_shadow.rows t.lower));
    };
    residues = rw (is.residues, is.columns, is.col) a;
  };
  points = λ point n.
      let all = residues_all sides col r.period point a.period.positive in (
        (λ x. elim x.some [
          | inl y ↦ elim y [ inl u ↦ absurd (rw is.head at u) | inr v ↦ absurd (Any-none (HasSplinter parts.dark_shadow.rows parts.column.at point) (rw is.tails at v)) ]
          | inr z ↦ all.0 (rw (is.residues, is.col, s, p) at z)
        ]),
        (λ x. record { some = inr (rw (is.residues, is.col, s, p) (all.1 x)) }),
      );
  charged = IsCharged_refl g g refl;
  units =
      let none : splinter_count parts.dark_shadow.tails.items ≡ pos 0 = ap splinter_count is.tails in
      let own : residues_most parts.column.at parts.residues ≡ r.period *ℤ residue_units col r.period sides = rw (is.residues, is.col, s, p) refl in
      let most = sides_units_most g columns col r.period sides sided (rw s at a.period) in
      omega (arith, linear);
}

-- the pairs of the sides are still to be paid
pub residues_paid : (g : Gauge) (columns col : ℕ) (sides : Sides) (r : Residues) → AreResidues g columns col r → r.sides ≡ sides → r.left ≡ r.period → residues_least (Some r) ≡ length sides.lowers * length sides.uppers
residues_paid g columns col sides r a s p = by r.left (rw p a.period.positive)
  where
    by : (l : ℤ) → pos 0 <ℤ l → cond (int_lt (pos 0) l) (length r.sides.lowers * length r.sides.uppers) 0 ≡ length sides.lowers * length sides.uppers
    by l h = cond-true (int_lt (pos 0) l) (length r.sides.lowers * length r.sides.uppers) 0 (int_lt-true (pos 0) l h) ∙ ap (λ (x : Sides). length x.lowers * length x.uppers) s

-- ---- what the first call says
pub begun_same : (y z : ℤ) (g h : Gauge) (columns : ℕ) (P Q : List ℤ → Type 0) (parts : PartsView) → y ≤ℤ z → ((point : List ℤ) → length point ≡ columns - 1 → P point ↔ Q point) → AreBegun y columns P g h parts → AreBegun z columns Q g h parts
begun_same y z g h columns P Q parts l same b = record {
  are = b.are;
  points = λ point n. let p = b.points point n in let q = same point n in ((λ x. q.0 (p.0 x)), (λ x. p.1 (q.1 x)));
  charged = b.charged;
  units = let u = b.units in omega (arith, linear);
}

pub begun_weaker : (y z : ℤ) (g h : Gauge) (columns : ℕ) (P Q : List ℤ → Type 0) (result : Result PartsView Cut) → y ≤ℤ z → ((point : List ℤ) → length point ≡ columns - 1 → P point ↔ Q point) → IsBegun y columns P g h result → IsBegun z columns Q g h result
begun_weaker y z g h columns P Q (Ok parts) l same b = begun_same y z g h columns P Q parts l same b
begun_weaker y z g h columns P Q (Err cut) l same b = cut_weaker y z g h cut l b

pub begun_exact : (z : ℤ) (g h : Gauge) (columns col : ℕ) (rows : List Row) (result : Result PartsView Cut) → IsBegun z columns (HoldAtSome rows col) g h result
    → MatchResult result (λ parts. ArePartsOf g columns col rows parts × IsCharged g h) (IsCutBy g h)
begun_exact z g h columns col rows (Ok parts) b = (record { are = b.are; points = b.points }, b.charged)
begun_exact z g h columns col rows (Err cut) b = b.by

pub begun_units : (z : ℤ) (g h : Gauge) (columns : ℕ) (P : List ℤ → Type 0) (result : Result PartsView Cut) → IsBegun z columns P g h result → MatchResult result (AreUnitsUpTo z g h) (λ _. pos h.units ≤ℤ (pos g.units +ℤ z))
begun_units z g h columns P (Ok parts) b = b.units
begun_units z g h columns P (Err cut) b = b.most

pub begun_none : (g h : Gauge) (columns : ℕ) (P : List ℤ → Type 0) (result : Result PartsView Cut) → IsBegun (pos 0) columns P g h result → h.units ≡ g.units
begun_none g h columns P (Ok parts) b =
    let low = units_not_negative g (columns - 1) parts b.are in
    let units = b.units in
    let least = b.charged.units in
    omega (arith, linear)
begun_none g h columns P (Err cut) b =
    let most = b.most in
    let least = b.by.kept.units in
    omega (arith, linear)

-- ---- one list after another
pub record ArePartsSoFar (g h : Gauge) (columns : ℕ) (first now : PartsView) : Type 0 where
  pub charged : IsCharged g h
  pub are : AreParts g columns now
  pub points : (point : List ℤ) → length point ≡ columns → HoldsPart first point ↔ HoldsPart now point
  pub units : AreUnitsUpTo (most_units first) g h now
  pub counted : g.units + head_count now ≤ h.units + head_count first
  pub pairs : g.units + least_units first ≤ h.units + least_units now
  pub small : AreSmallParts first → AreSmallParts now
  pub alone : first.residues ≡ None → now ≡ first
  pub unused : first.residues ≡ None → h ≡ g

pub parts_first : (g : Gauge) (columns : ℕ) (first : PartsView) → AreParts g columns first → ArePartsSoFar g g columns first first
parts_first g columns first a = record {
  charged = IsCharged_refl g g refl;
  are = a;
  points = λ point n. ((λ h. h), (λ h. h));
  units = omega (arith, linear);
  counted = omega arith;
  pairs = omega arith;
  small = λ x. x;
  alone = λ x. refl;
  unused = λ x. refl;
}

-- a list was taken out of the dark shadow
pub record ArePartsTaken (g k : Gauge) (columns : ℕ) (first now : PartsView) (rows : List Row) : Type 0 where
  pub next : IsNextPart g columns first rows now
  pub charged : IsCharged g k
  pub units : AreUnitsUpTo (most_units first) g k now
  pub counted : g.units + 1 + head_count now ≤ k.units + head_count first
  pub pairs : g.units + least_units first ≤ k.units

-- a list that is taken out of the dark shadow is paid for itself
pub least_none : (dark : Option (List Row)) (tails : List Splinters) (residues : Option Residues) (rows : List Row) → (tails ≡ [] → Some rows ≡ dark) → least_units_of dark tails residues ≡ 0
least_none None [] residues rows f = let e = f refl in absurd (grind arith)
least_none None (t ∷ tails) residues rows f = refl
least_none (Some r) tails residues rows f = refl

least_below : (dark : Option (List Row)) (tails : List Splinters) (residues : Option Residues) → least_units_of dark tails residues ≤ residues_least residues
least_below None [] residues = omega arith
least_below None (t ∷ tails) residues = omega arith
least_below (Some r) tails residues = omega arith

pub least_at_most_residues : (parts : PartsView) → least_units parts ≤ residues_least parts.residues
least_at_most_residues parts = least_below parts.dark_shadow.dark parts.dark_shadow.tails.items parts.residues

-- where nothing but residues is still to come
pub least_of_residues : (parts : PartsView) → parts.dark_shadow.dark ≡ None → parts.dark_shadow.tails.items ≡ [] → least_units parts ≡ residues_least parts.residues
least_of_residues parts d t = rw (d, t) refl

pub parts_taken : (g h k : Gauge) (columns : ℕ) (first now next : PartsView) (rows : List Row) → ArePartsSoFar g h columns first now → AreParts g columns first → IsCharged h k → IsTakenOut h now.column.columns now.column.at now.dark_shadow rows next.dark_shadow
    → (pos k.units +ℤ splinter_count next.dark_shadow.tails.items) ≤ℤ (pos h.units +ℤ splinter_count now.dark_shadow.tails.items) → h.units + 1 ≤ k.units + count_of now.dark_shadow.dark
    → next.column.columns ≡ now.column.columns → next.column.at ≡ now.column.at → next.residues ≡ now.residues → least_units now ≡ 0 → ArePartsTaken g k columns first next rows
parts_taken g h k columns first now next rows s a c t units counted ec el er owed =
    let bits = same_limit g h s.charged in
    let rest : AreParts g columns next = record {
      width = rw ec s.are.width;
      shadow = rw (ec, el) (shadow_kept g h now.column.columns now.column.at next.dark_shadow bits t.rest);
      residues = rw (ec, el, er) s.are.residues;
    } in
    let none : head_count next ≡ 0 = ap count_of t.dark in
    let same : residues_most next.column.at next.residues ≡ residues_most now.column.at now.residues = rw (el, er) refl in
    let before = s.units in
    let most : AreUnitsUpTo (most_units first) g k next = omega (arith, linear) in
    let heads = s.counted in
    let all : g.units + 1 + head_count next ≤ k.units + head_count first = omega arith in
    let low = units_not_negative g columns next rest in
    let least = units_not_negative g columns first a in record {
      next = record {
        proper = rw s.are.width (rows_proper_kept g h (now.column.columns - 1) rows bits t.proper);
        normal = t.normal;
        points = λ point n.
            let old = s.points point n in
            let taken = t.points point (n ∙ s.are.width) in (
              (λ x. elim (old.0 x).some [
                | inl y ↦ elim (taken.0 y) [ inl u ↦ inl u | inr v ↦ inr (record { some = inl (rw el v) }) ]
                | inr z ↦ inr (record { some = inr (rw (el, er) z) })
              ]),
              (λ x. old.1 (elim x [
                | inl u ↦ record { some = inl (taken.1 (inl u)) }
                | inr w ↦ elim w.some [ inl v ↦ record { some = inl (taken.1 (inr (rw el at v))) } | inr z ↦ record { some = inr (rw (el, er) at z) } ]
              ])),
            );
        fewer = omega (arith, linear);
        rest = rest;
      };
      charged = IsCharged_trans g h k s.charged c;
      units = most;
      counted = all;
      pairs = let before = s.pairs in let own = c.units in omega arith;
    }

-- the head was taken out of parts
pub head_next : (g : Gauge) (columns : ℕ) (parts next : PartsView) (rows : List Row) → AreParts g columns parts → parts.dark_shadow.dark ≡ Some rows → next.dark_shadow.dark ≡ None
    → next.dark_shadow.rows ≡ parts.dark_shadow.rows → next.dark_shadow.tails.items ≡ parts.dark_shadow.tails.items → next.column.columns ≡ parts.column.columns → next.column.at ≡ parts.column.at → next.residues ≡ parts.residues
    → IsNextPart g columns parts rows next
head_next g columns parts next rows a some none er et ec el es =
    let taken = taken_dark g parts.column.columns parts.column.at parts.dark_shadow next.dark_shadow rows a.shadow some none er et in
    let one = ap count_of some in
    let tails = ap splinter_count et in
    (parts_taken g g g columns parts parts next rows (parts_first g columns parts a) a (IsCharged_refl g g refl) taken (omega (arith, linear)) (omega arith) ec el es
    (least_none parts.dark_shadow.dark parts.dark_shadow.tails.items parts.residues rows (λ e. sym some))).next

abbrev with_head : PartsView → Option (List Row) → PartsView
with_head parts dark = record { column = parts.column; dark_shadow = record { rows = parts.dark_shadow.rows; dark = dark; tails = parts.dark_shadow.tails }; residues = parts.residues }

pub head_taken : (g : Gauge) (columns : ℕ) (parts : PartsView) (after result : Option (List Row)) → AreParts g columns parts → result ≡ parts.dark_shadow.dark → after ≡ None
    → MatchOption result (with_head parts after ≡ parts) (λ rows. IsNextPart g columns parts rows (with_head parts after))
head_taken g columns parts after None a e n = ap (with_head parts) (n ∙ e)
head_taken g columns parts after (Some rows) a e n = head_next g columns parts (with_head parts after) rows a (sym e) n refl refl refl refl refl

-- the next residue was opened
pub parts_opened : (g h k m : Gauge) (columns : ℕ) (first now next : PartsView) → ArePartsSoFar g h columns first now → IsNoDarkShadow now.column.columns now.column.at now.dark_shadow → IsChargedUpTo (splinter_count now.dark_shadow.tails.items) h k
    → IsOpenedFrom k m now.column.columns now.column.at now.residues next.dark_shadow next.residues → next.column.columns ≡ now.column.columns → next.column.at ≡ now.column.at → now.residues ≢ None → ArePartsSoFar g m columns first next
parts_opened g h k m columns first now next s n c o ec el some =
    let charged = IsCharged_trans g h k s.charged c.charged in
    let bits = same_limit g k charged in
    let before = s.units in
    let own = c.most in
    let opened = o.units in
    let heads = s.counted in
    let used = o.used in
    let one = head_at_most next.dark_shadow.dark in
    let least = c.charged.units in record {
      charged = IsCharged_trans g k m charged o.charged;
      are = record {
        width = rw ec s.are.width;
        shadow = rw (ec, el) (shadow_kept g k now.column.columns now.column.at next.dark_shadow bits o.shadow);
        residues = rw (ec, el) (some_residues_kept g k now.column.columns now.column.at next.residues bits o.residues);
      };
      points = λ point l.
          let old = s.points point l in
          let both = o.points point (l ∙ s.are.width) in (
            (λ x. elim (old.0 x).some [
              | inl y ↦ absurd (n point (l ∙ s.are.width) y)
              | inr z ↦ elim (both.0 z) [ inl u ↦ record { some = inl (rw el u) } | inr v ↦ record { some = inr (rw el v) } ]
            ]),
            (λ x. old.1 (record { some = inr (both.1 (elim x.some [ inl u ↦ inl (rw el at u) | inr v ↦ inr (rw el at v) ])) })),
          );
      units = rw el (omega (arith, linear));
      counted = omega arith;
      pairs = let before = s.pairs in let own = least_at_most_residues now in omega arith;
      small = λ x. absurd (some ((s.small x).residues));
      alone = λ x. absurd (some (ap (λ (p : PartsView). p.residues) (s.alone x) ∙ x));
      unused = λ x. absurd (some (ap (λ (p : PartsView). p.residues) (s.alone x) ∙ x));
    }

-- the units that were used where the dark shadow has no list
pub parts_spent : (g h k : Gauge) (columns : ℕ) (first now : PartsView) → ArePartsSoFar g h columns first now → IsChargedUpTo (splinter_count now.dark_shadow.tails.items) h k
    → (pos k.units +ℤ residues_most now.column.at now.residues) ≤ℤ (pos g.units +ℤ most_units first)
parts_spent g h k columns first now s c = let own = c.most in let before = s.units in omega (arith, linear)

pub cut_in_shadow : (g h k : Gauge) (columns : ℕ) (first now : PartsView) (cut : Cut) → ArePartsSoFar g h columns first now → IsCutUpTo (splinter_count now.dark_shadow.tails.items) h k cut → IsCutUpTo (most_units first) g k cut
cut_in_shadow g h k columns first now cut s c = record {
  by = IsCutBy-after g h k cut s.charged c.by;
  most =
      let own = c.most in
      let before = s.units in
      let rest = residues_not_negative g now.column.columns now.column.at now.residues s.are.residues in
      omega (arith, linear);
}

pub cut_in_residue : (g h k m : Gauge) (columns : ℕ) (first now : PartsView) (cut : Cut) → ArePartsSoFar g h columns first now → IsChargedUpTo (splinter_count now.dark_shadow.tails.items) h k → IsCutUpTo (residues_most now.column.at now.residues) k m cut → IsCutUpTo (most_units first) g m cut
cut_in_residue g h k m columns first now cut s c o = record {
  by = IsCutBy-after g k m cut (IsCharged_trans g h k s.charged c.charged) o.by;
  most =
      let spent = parts_spent g h k columns first now s c in
      let own = o.most in
      omega (arith, linear);
}

-- nothing is left
pub parts_ended : (g h : Gauge) (columns : ℕ) (first now : PartsView) → ArePartsSoFar g h columns first now → IsNoDarkShadow now.column.columns now.column.at now.dark_shadow → IsNoResidue now.column.columns now.column.at now.residues → AreNone columns first
parts_ended g h columns first now s n r point l x = elim ((s.points point l).0 x).some [ inl y ↦ n point (l ∙ s.are.width) y | inr z ↦ r point (l ∙ s.are.width) z ]

-- ---- all lists
-- where a head was alone, nothing is
pub alone_taken : (h : Gauge) (columns col : ℕ) (old : DarkShadow) (found : Option (List Row)) (next : PartsView)
    → MatchOption found (IsNoDarkShadow columns col old) (λ rows. IsTakenOut h columns col old rows next.dark_shadow)
    → next.dark_shadow.tails.items ≡ [] → next.residues ≡ None → IfSome found (λ _. IsHeadAlone None next)
alone_taken h columns col old None next taken tails none = tt
alone_taken h columns col old (Some rows) next taken tails none = record { head = taken.dark; tails = tails; residues = none }

-- the answers, with the head that is alone still to come, are what is left
pub record IsLeft (answers : List (List Row)) (parts : PartsView) (left : Option (List Row)) : Type 0 where
  pub head : Option (List Row)
  pub alone : IsHeadAlone head parts
  pub all : answers ++ option_to_list head ≡ option_to_list left

left_first : (parts : PartsView) (left : Option (List Row)) → IsHeadAlone left parts → IsLeft [] parts left
left_first parts left h = record { head = left; alone = h; all = refl }

left_next : (answers : List (List Row)) (rows : List Row) (now next : PartsView) (left : Option (List Row)) → IsLeft answers now left
    → (k h : Gauge) → ((head : Option (List Row)) → IsHeadAlone head now → (Some rows ≡ head) × IsHeadAlone None next × (k ≡ h))
    → IsLeft (answers ++ rows ∷ []) next left
left_next answers rows now next left h k m x =
    let own = x h.head h.alone in record {
      head = None;
      alone = own.1;
      all = append-nil (answers ++ rows ∷ []) ∙ ap (λ (head : Option (List Row)). answers ++ option_to_list head) own.0 ∙ h.all;
    }

-- nothing is still to come
pub left_all : (answers : List (List Row)) (parts : PartsView) (left : Option (List Row)) → IsLeft answers parts left
    → ((head : Option (List Row)) → IsHeadAlone head parts → head ≡ None) → answers ≡ option_to_list left
left_all answers parts left h x =
    sym (append-nil answers) ∙ ap (λ (head : Option (List Row)). answers ++ option_to_list head) (sym (x h.head h.alone)) ∙ h.all

-- the lists that were answered, and those still to come
pub record AreAnswered (g h : Gauge) (columns col : ℕ) (rows : List Row) (answers : List (List Row)) (parts : PartsView) : Type 0 where
  pub charged : IsCharged g h
  pub are : AreParts h (columns - 1) parts
  pub proper : All (All (IsProper g (columns - 1))) answers
  pub normal : All IsNormal answers
  pub points : (point : List ℤ) → length point ≡ columns - 1 → HoldAtSome rows col point ↔ (HoldAtAny answers point ⊎ HoldsPart parts point)
  pub units : AreUnitsUpTo (elimination_units rows col) g h parts
  pub counted : length answers + g.units + head_count parts ≤ h.units + 1
  pub equality : HasEquality col rows → (h.units ≡ g.units) × (most_units parts ≡ pos 0)
  pub small : g.bits ≡ 127 → HaveSmallNumbers rows → HaveOneCongruence rows col → AreSmallParts parts
  pub pairs : ¬ HasEquality col rows → g.units + pairs_on col rows ≤ h.units + least_units parts
  pub exact : IsExactColumn col rows → ¬ HasEquality col rows → IsLeft answers parts (exact_rows rows col)
  pub solved : HasEquality col rows → IsLeft answers parts (solved_rows rows col)
  pub spent : IsExactColumn col rows → ¬ HasEquality col rows → h.units ≤ g.units + pairs_on col rows

pub answered_first : (g h : Gauge) (columns col : ℕ) (rows : List Row) (parts : PartsView) → ArePartsOf g columns col rows parts → IsCharged g h → AreUnitsUpTo (elimination_units rows col) g h parts → (HasEquality col rows → (h.units ≡ g.units) × (most_units parts ≡ pos 0))
    → (g.bits ≡ 127 → HaveSmallNumbers rows → HaveOneCongruence rows col → AreSmallParts parts) → (IsExactColumn col rows → ¬ HasEquality col rows → IsHeadAlone (exact_rows rows col) parts)
    → (HasEquality col rows → IsHeadAlone (solved_rows rows col) parts) → (¬ HasEquality col rows → g.units + pairs_on col rows ≤ h.units + least_units parts)
    → (IsExactColumn col rows → ¬ HasEquality col rows → h.units ≤ g.units + pairs_on col rows) → AreAnswered g h columns col rows [] parts
answered_first g h columns col rows parts a c u e m x y p t = record {
  charged = c;
  are = parts_kept g h (columns - 1) parts c a.are;
  proper = All-nil (All (IsProper g (columns - 1)));
  normal = All-nil IsNormal;
  points = λ point n. let same = a.points point n in (
    (λ s. inr (same.1 s)),
    (λ s. elim s [ inl y ↦ absurd (Any-none (λ (r : List Row). HoldRows r point) y) | inr z ↦ same.0 z ]),
  );
  units = u;
  counted = let one = head_at_most parts.dark_shadow.dark in let least = c.units in omega arith;
  equality = e;
  small = m;
  pairs = p;
  exact = λ exact none. left_first parts (exact_rows rows col) (x exact none);
  solved = λ q. left_first parts (solved_rows rows col) (y q);
  spent = t;
}

pub answered_next : (g h k : Gauge) (columns col : ℕ) (rows : List Row) (answers more : List (List Row)) (now next : PartsView) (left : List Row) → AreAnswered g h columns col rows answers now → IsNextPart h (columns - 1) now left next → IsCharged h k
    → AreUnitsUpTo (most_units now) h k next → h.units + 1 + head_count next ≤ k.units + head_count now → (g.bits ≡ 127 → AreSmallParts now → AreSmallParts next) → ((head : Option (List Row)) → IsHeadAlone head now → (Some left ≡ head) × IsHeadAlone None next × (k ≡ h)) → h.units + least_units now ≤ k.units → more ≡ answers ++ left ∷ []
    → AreAnswered g k columns col rows more next
answered_next g h k columns col rows answers more now next left a n c u counted m x p e = rw e (record {
  charged = IsCharged_trans g h k a.charged c;
  are = parts_kept h k (columns - 1) next c n.rest;
  proper = All-push (All (IsProper g (columns - 1))) answers left a.proper (rows_proper_kept g h (columns - 1) left (same_limit g h a.charged) n.proper);
  normal = All-push IsNormal answers left a.normal n.normal;
  points = λ point l.
      let P : List Row → Type 0 = λ r. HoldRows r point in
      let same = a.points point l in
      let taken = n.points point l in (
        (λ s. elim (same.0 s) [
          | inl y ↦ inl (Any-left P answers (left ∷ []) y)
          | inr z ↦ elim (taken.0 z) [ inl v ↦ inl (Any-right P answers (left ∷ []) (Any-first P left [] v)) | inr w ↦ inr w ]
        ]),
        (λ s. same.1 (elim s [
          | inl y ↦ elim (Any-parts P answers (left ∷ []) y) [ inl v ↦ inl v | inr w ↦ inr (taken.1 (inl (Any-one P left w))) ]
          | inr z ↦ inr (taken.1 (inr z))
        ])),
      );
  units = let before = a.units in omega (arith, linear);
  counted = let before = a.counted in let size = length-append answers (left ∷ []) in omega (arith, size);
  equality = λ q.
      let before = a.equality q in
      let low = units_not_negative h (columns - 1) next n.rest in
      let least = c.units in
      let units = before.0 in
      let none = before.1 in (omega (arith, linear), omega (arith, linear));
  small = λ bits small one. m bits (a.small bits small one);
  pairs = λ none. let before = a.pairs none in omega arith;
  exact = λ exact none. left_next answers left now next (exact_rows rows col) (a.exact exact none) k h x;
  solved = λ q. left_next answers left now next (solved_rows rows col) (a.solved q) k h x;
  spent = λ exact none.
      let head = a.exact exact none in
      let same = ap (λ (m : Gauge). m.units) (x head.head head.alone).2 in
      let before = a.spent exact none in
      omega arith;
})

-- how many units were used where nothing but a head was ever still to come, of which `found` was taken or nothing
pub answered_units : {Q : Type 0} (g h k : Gauge) (columns col : ℕ) (rows : List Row) (answers : List (List Row)) (now : PartsView)
    (found : Option (List Row)) → AreAnswered g h columns col rows answers now
    → ((head : Option (List Row)) → IsHeadAlone head now → (found ≡ head) × Q × (k ≡ h))
    → (IsExactColumn col rows → ¬ HasEquality col rows → k.units ≤ g.units + pairs_on col rows) × (HasEquality col rows → k.units ≡ g.units)
answered_units g h k columns col rows answers now found a x = (
  (λ exact none.
      let head = a.exact exact none in
      let same = ap (λ (m : Gauge). m.units) (x head.head head.alone).2 in
      let before = a.spent exact none in
      omega arith),
  (λ q. let head = a.solved q in ap (λ (m : Gauge). m.units) (x head.head head.alone).2 ∙ (a.equality q).0),
)

pub answered_all : (g h : Gauge) (columns col : ℕ) (rows : List Row) (answers : List (List Row)) (parts : PartsView) → AreAnswered g h columns col rows answers parts → AreNone (columns - 1) parts → IsProjectionOf columns rows col answers
answered_all g h columns col rows answers parts a n point l = let same = a.points point l in (
  (λ y. same.1 (inl y)),
  (λ s. elim (same.0 s) [ inl y ↦ y | inr z ↦ absurd (n point l z) ]),
)

-- ---- a residue that was opened
least_at_most : (r : Residues) → residues_least (Some r) ≤ length r.sides.lowers * length r.sides.uppers
least_at_most r = by (int_lt (pos 0) r.left) (length r.sides.lowers * length r.sides.uppers)
  where
    by : (b : Bool) (n : ℕ) → cond b n 0 ≤ n
    by true n = omega arith
    by false n = omega arith

pub opened_from : (g h : Gauge) (columns col : ℕ) (old new : Residues) (dark_shadow : DarkShadow) → AreResidues g columns col old → pos 0 <ℤ old.left → IsOpened g columns col old dark_shadow new → IsCharged g h → g.units + length old.sides.lowers * length old.sides.uppers < h.units
    → (pos h.units +ℤ splinter_count dark_shadow.tails.items) ≤ℤ (pos g.units +ℤ residue_units col old.period old.sides) → IsOpenedFrom g h columns col (Some old) dark_shadow (Some new)
opened_from g h columns col old new dark_shadow a some o c used units =
    let top = a.not_above in
    let left = o.left in record {
      charged = c;
      used = let least = least_at_most old in omega arith;
      shadow = o.shadow;
      residues = record {
        sided = rw (o.sides) a.sided;
        divides = rw (o.sides) a.divides;
        period = rw (o.sides, o.period) a.period;
        within = rw (o.period) a.within;
        not_negative = omega (arith, linear);
        not_above = rw (o.period) (omega (arith, linear));
      };
      points = λ point n.
          let own = o.points point n in
          let next = residues_next old.sides col old.period new.left old.left point (omega (arith, linear)) (omega (arith, linear)) o.left in
          rw (o.sides, o.period) (
            (λ x. elim (next.0 x) [ inl y ↦ inl (own.1 y) | inr z ↦ inr z ]),
            (λ x. next.1 (elim x [ inl y ↦ inl (own.0 y) | inr z ↦ inr z ])),
          );
      units = rw (o.sides, o.period) (one_less (residue_units col old.period old.sides) old.left new.left (pos h.units +ℤ splinter_count dark_shadow.tails.items) (pos g.units) o.left units);
      fewer = omega (arith, linear);
    }
  where
    one_less : (u l m x y : ℤ) → m ≡ l -ℤ pos 1 → x ≤ℤ (y +ℤ u) → (x +ℤ m *ℤ u) ≤ℤ (y +ℤ l *ℤ u)
    one_less u l m x y e h = let e' = simp expand at (ap (λ z. z *ℤ u) e) in simp expand (omega (arith, linear))

pub no_residue : (g : Gauge) (columns col : ℕ) (r : Residues) → AreResidues g columns col r → r.left ≤ℤ pos 0 → IsNoResidue columns col (Some r)
no_residue g columns col r a l = λ point n x. residues_none r.sides col r.period r.left point a.period.positive l x

pub one_in_most : (g : Gauge) (columns col : ℕ) (r : Residues) → AreResidues g columns col r → pos 0 <ℤ r.left → residue_units col r.period r.sides ≤ℤ residues_most col (Some r)
one_in_most g columns col r a some =
    let one = residue_units_positive g columns col r.period r.sides a.period.positive a.sided in
    by r.left (residue_units col r.period r.sides) some (omega (arith, linear))
  where
    by : (l u : ℤ) → pos 0 <ℤ l → pos 0 ≤ℤ u → u ≤ℤ (l *ℤ u)
    by l u p n = let t = ≤ℤ-*ℤ u (pos 1) l n (omega (arith, linear)) in let t' = simp expand at t in simp expand (omega (arith, linear))

-- ---- what was found
pub parts_found : (g h k : Gauge) (columns : ℕ) (first now next : PartsView) (found : Option (List Row)) → ArePartsSoFar g h columns first now → AreParts g columns first → IsCharged h k
    → MatchOption found (IsNoDarkShadow now.column.columns now.column.at now.dark_shadow) (λ rows. IsTakenOut h now.column.columns now.column.at now.dark_shadow rows next.dark_shadow)
    → IfSome found (λ _. (pos k.units +ℤ splinter_count next.dark_shadow.tails.items) ≤ℤ (pos h.units +ℤ splinter_count now.dark_shadow.tails.items)) → IfSome found (λ _. h.units + 1 ≤ k.units + count_of now.dark_shadow.dark)
    → next.column.columns ≡ now.column.columns → next.column.at ≡ now.column.at → next.residues ≡ now.residues → (now.dark_shadow.tails.items ≡ [] → found ≡ now.dark_shadow.dark) → found ≢ None
    → IsFoundIn g columns first found next × IsCharged g k × AreUnitsUpTo (most_units first) g k next × (g.units + least_units first ≤ k.units)
parts_found g h k columns first now next None s a c t u w ec el er own n = absurd (n refl)
parts_found g h k columns first now next (Some rows) s a c t u w ec el er own n =
    let all = parts_taken g h k columns first now next rows s a c t u w ec el er (least_none now.dark_shadow.dark now.dark_shadow.tails.items now.residues rows own) in
    (all.next, all.charged, all.units, all.pairs)

pub spent_in_shadow : (g h k : Gauge) (columns : ℕ) (first now : PartsView) → ArePartsSoFar g h columns first now → IsChargedUpTo (splinter_count now.dark_shadow.tails.items) h k → pos k.units ≤ℤ (pos g.units +ℤ most_units first)
spent_in_shadow g h k columns first now s c =
    let spent = parts_spent g h k columns first now s c in
    let rest = residues_not_negative g now.column.columns now.column.at now.residues s.are.residues in
    omega (arith, linear)

pub if_some : {X : Type 0} (o : Option X) (Q : Type 0) → Q → IfSome o (λ _. Q)
if_some None Q q = tt
if_some (Some x) Q q = q

pub if_found : {X : Type 0} (o : Option X) (P Q : Type 0) → o ≢ None → Q → MatchOption o P (λ _. Q)
if_found None P Q n q = absurd (n refl)
if_found (Some x) P Q n q = q
