-- One residue: the sides with the numbers that leave a rest when divided by a period of the rows that divisors must not divide.
use Rattle.std.proofs.Common.{◌≡◌, ◌↔◌, ◌⊎◌, inl, inr, ◌∙◌, refl, sym, ap, arith, Bool, false, ℕ, ◌-◌, ◌<◌, ℤ, pos, neg_ℤ, ◌+ℤ◌, ◌-ℤ◌, ◌*ℤ◌, ◌≤ℤ◌, ◌<ℤ◌, List, [], ◌∷◌, length, get_or, set, replicate, map}
use Rattle.std.specs.List.{All, filter, insert}
use Rattle.std.proofs.lemmas.List.{get_or-replicate, get_or-set_same, length-set, length-replicate}
use Rattle.std.proofs.lemmas.List.Edits.{get_or-insert_at}
use Rattle.std.proofs.lemmas.List.Elements.{All-nil, All-cons, All-head, All-tail, All-map}
use Rattle.isl_math.specs.Divide as divide
use Rattle.isl_math.specs.Divide.{floor_mod}
use Rattle.isl_math.specs.Dot.{dot}
use Rattle.isl_math.proofs.Ring.{expand, linear}
use Rattle.isl_math.proofs.DivideLaws.{Divides-same, mod-from_Divides, floor_mod-same, floor_unique, floor_mod_bounds, IsCongruent-floor_mod, le_from_Divides}
use Rattle.isl_math.proofs.DotLaws.{dot-set_left, dot-zeros}
use Rattle.isl_meter.specs.Gauge.{Gauge}
use Rattle.isl_piece.specs.declared.row.RowKind.{RowKind}
use Rattle.isl_piece.specs.declared.row.RowKind.TheVariants as kind
use Rattle.isl_piece.specs.declared.row.Row.{Row}
use Rattle.isl_piece.specs.Row.{HoldsRow, IsWellFormed, IsRowWithin, value_at, coef_at}
use Rattle.isl_omega.specs.Column.{IsFree, IsProper}
use Rattle.isl_omega.specs.Step.{residue_row, IsSubstitutionOf, HasFactorsUpTo, IsStepOf}
use Rattle.isl_shadows.specs.Residue.{IsPeriod, HasNumber, HasResidue, HasResidueBelow, IsResidueOf}
use Rattle.isl_omega.specs.Sides.{AreSided, SidesHold, IsDivides, IsNotDivides, is_same, side_of, side_of_kind}
use Rattle.isl_omega.specs.Substitution.{IsProgressionOf, substituted}
use Rattle.isl_omega.specs.declared.sides.Side.TheVariants.{NotDivides}
use Rattle.isl_omega.specs.declared.sides.Sides.{Sides}
use Rattle.isl_omega.proofs.MoveLemmas.{substituted_coefficient}
use Rattle.isl_piece.proofs.RowLemmas.{HasModulus-positive}
use Rattle.isl_omega.proofs.SideLemmas.{unless_zero, proper_kept}
use Rattle.isl_omega.proofs.StepLemmas.{AreOne, IsStep, step_is, step_narrowed, multiplier_is, scaled_not_divides}

-- ---- the row of a residue
pub residue_coef : (columns col : ℕ) (p t : ℤ) → col < columns → coef_at (residue_row columns col p t) col ≡ pos 1
residue_coef columns col p t l = get_or-set_same (replicate columns (pos 0)) col (pos 1) (pos 0) (let n = length-replicate columns (pos 0) in omega arith)

pub residue_width : (columns col : ℕ) (p t : ℤ) → length (residue_row columns col p t).coefs ≡ columns
residue_width columns col p t = length-set (replicate columns (pos 0)) col (pos 1) ∙ length-replicate columns (pos 0)

pub residue_formed : (columns col : ℕ) (p t : ℤ) → pos 0 <ℤ p → IsWellFormed columns (residue_row columns col p t)
residue_formed columns col p t h = record { width = residue_width columns col p t; modulus = h }

pub residue_value : (columns col : ℕ) (p t : ℤ) (point : List ℤ) (x : ℤ) → col < columns → length point ≡ columns - 1 → value_at (residue_row columns col p t) (insert point col x) ≡ x -ℤ t
residue_value columns col p t point x l n =
    let zeros = replicate columns (pos 0) in
    let ys = insert point col x in
    let d = dot-set_left zeros ys col (pos 1) (let e = length-replicate columns (pos 0) in omega arith) in
    let z = dot-zeros columns ys in
    let g = get_or-replicate columns col (pos 0) (pos 0) l in
    let i = get_or-insert_at point col x (pos 0) (omega arith) in
    by (dot (set zeros col (pos 1)) ys) (dot zeros ys) (get_or zeros col (pos 0)) (get_or ys col (pos 0)) x t d z g i
  where
    by : (v d g y x t : ℤ) → v ≡ d +ℤ (pos 1 -ℤ g) *ℤ y → d ≡ pos 0 → g ≡ pos 0 → y ≡ x → v +ℤ neg_ℤ t ≡ x -ℤ t
    by v d g y x t e z h f = let e' = simp expand at e in let m = simp expand at (ap (λ w. w *ℤ y) h) in omega (arith, linear)

residue_holds : (columns col : ℕ) (p t : ℤ) (point : List ℤ) (x : ℤ) → col < columns → length point ≡ columns - 1 → HoldsRow (residue_row columns col p t) (insert point col x) ↔ divide.Divides p (x -ℤ t)
residue_holds columns col p t point x l n =
    let v = residue_value columns col p t point x l n in (
      (λ h. Divides-same p (value_at (residue_row columns col p t) (insert point col x)) (x -ℤ t) v h),
      (λ h. Divides-same p (x -ℤ t) (value_at (residue_row columns col p t) (insert point col x)) (sym v) h),
    )

residue_one : (g : Gauge) (columns col : ℕ) (p t : ℤ) → pos 0 <ℤ p → IsRowWithin g (residue_row columns col p t) → AreOne g columns col (residue_row columns col p t ∷ []) (residue_row columns col p t) []
residue_one g columns col p t h w = record {
  kind = refl;
  width = residue_width columns col p t;
  positive = h;
  within = w;
  small = omega (arith, linear);
  well_formed = All-nil (IsWellFormed columns);
  others_within = All-nil (IsRowWithin g);
  free = All-nil (IsFree col);
  same = λ xs. (
    (λ a. (All-head (λ r. HoldsRow r xs) (residue_row columns col p t) [] a, All-nil (λ r. HoldsRow r xs))),
    (λ a. All-cons (λ r. HoldsRow r xs) (residue_row columns col p t) [] a.0 (All-nil (λ r. HoldsRow r xs))),
  );
}

-- ---- the sides with that row
abbrev with_row : Sides → Row → Sides
with_row sides r = record { lowers = sides.lowers; uppers = sides.uppers; divides = r ∷ []; not_divides = sides.not_divides; free = sides.free }

with_row_sided : (g : Gauge) (columns col : ℕ) (sides : Sides) (r : Row) → AreSided g columns col sides → IsProper g columns r → r.kind ≡ kind.Divides → AreSided g columns col (with_row sides r)
with_row_sided g columns col sides r s p e = record {
  lowers = s.lowers;
  uppers = s.uppers;
  divides = All-cons (IsDivides g columns) r [] (record { proper = p; kind = e }) (All-nil (IsDivides g columns));
  not_divides = s.not_divides;
  free = s.free;
}

with_row_moved : (g : Gauge) (columns col : ℕ) (one : Row) (others : List Row) (scale : ℤ) (offsets : Row) (old new : Sides) (r : Row) → IsSubstitutionOf g columns col one others scale offsets old new → IsSubstitutionOf g columns col one others scale offsets (with_row old r) new
with_row_moved g columns col one others scale offsets old new r m = record {
  lowers = m.lowers;
  lowers_within = m.lowers_within;
  uppers = m.uppers;
  uppers_within = m.uppers_within;
  divides = m.divides;
  scale_within = m.scale_within;
  moved_within = m.moved_within;
  not_divides = m.not_divides;
  free = m.free;
}

with_row_holds : (columns col : ℕ) (sides : Sides) (p t : ℤ) (point : List ℤ) (x : ℤ) → sides.divides ≡ [] → col < columns → length point ≡ columns - 1
    → SidesHold (with_row sides (residue_row columns col p t)) col point x ↔ (SidesHold sides col point x × divide.Divides p (x -ℤ t))
with_row_holds columns col sides p t point x e l n =
    let P : Row → Type 0 = λ r. HoldsRow r (insert point col x) in
    let r = residue_row columns col p t in (
      (λ h. (record { lowers = h.lowers; uppers = h.uppers; divides = rw e (All-nil P); not_divides = h.not_divides; free = h.free }, (residue_holds columns col p t point x l n).0 (All-head P r [] h.divides))),
      (λ h. let s = h.0 in record { lowers = s.lowers; uppers = s.uppers; divides = All-cons P r [] ((residue_holds columns col p t point x l n).1 h.1) (All-nil P); not_divides = s.not_divides; free = s.free }),
    )

-- ---- no row is left that a modulus must not divide
pub none_on_side : (p : Row → Bool) (rows : List Row) → All (λ r. p r ≡ false) rows → filter p rows ≡ []
none_on_side p [] h = refl
none_on_side p (r ∷ rows) h = rw (All-head (λ r. p r ≡ false) r rows h) (none_on_side p rows (All-tail (λ r. p r ≡ false) r rows h))

free_not_divides : (asks : RowKind) (k c : ℤ) → asks ≡ kind.NotDivides → pos 0 <ℤ k → divide.Divides k c → is_same NotDivides (side_of_kind asks k c) ≡ false
free_not_divides asks k c e p d = rw e (rw (unless_zero NotDivides (floor_mod c k) (mod-from_Divides k c p d)) refl)

scale_is_one : (scale : ℤ) → pos 0 <ℤ scale → divide.Divides scale (pos 1) → scale ≡ pos 1
scale_is_one scale p d = let l = le_from_Divides scale (pos 1) (omega (arith, linear)) d in omega (arith, linear)

moved_free : (g : Gauge) (columns col : ℕ) (scale p : ℤ) (offsets r : Row) → scale ≡ pos 1 → coef_at offsets col ≡ p -ℤ scale → length offsets.coefs ≡ columns → col < columns → IsNotDivides g columns col r → divide.Divides r.k (coef_at r col *ℤ p)
    → is_same NotDivides (side_of col (substituted scale offsets col r)) ≡ false
moved_free g columns col scale p offsets r one at w l h d =
    let c : coef_at (substituted scale offsets col r) col ≡ p *ℤ coef_at r col = substituted_coefficient columns col scale offsets r h.proper.formed w l ∙ ap (λ z. z *ℤ coef_at r col) (multiplier_is col scale p offsets at) in
    let m : (substituted scale offsets col r).k ≡ scale *ℤ r.k = scaled_not_divides r.kind scale r.k h.kind in
    by r.kind r.k (substituted scale offsets col r).k (coef_at r col) (coef_at (substituted scale offsets col r) col) h.kind (HasModulus-positive r.kind r.k h.proper.formed.modulus) (m ∙ ap (λ z. z *ℤ r.k) one) c d
  where
    by : (asks : RowKind) (k j c e : ℤ) → asks ≡ kind.NotDivides → pos 0 <ℤ k → j ≡ pos 1 *ℤ k → e ≡ p *ℤ c → divide.Divides k (c *ℤ p) → is_same NotDivides (side_of_kind asks j e) ≡ false
    by asks k j c e is q f h d =
        let same : j ≡ k = omega (arith, linear) in
        free_not_divides asks j e is (omega (arith, linear)) (rw same (Divides-same k (c *ℤ p) e (let h' = simp expand at h in simp expand (omega (arith, linear))) d))

-- ---- the residue as a whole
pub record IsPutFor (g : Gauge) (columns col : ℕ) (p t scale : ℤ) (offsets : Row) (old new : Sides) : Type 0 where
  pub inside : col < columns
  pub sided : AreSided g columns col old
  pub divides : old.divides ≡ []
  pub period : IsPeriod col old.not_divides p
  pub within : IsRowWithin g (residue_row columns col p t)
  pub progression : IsProgressionOf columns col (residue_row columns col p t) scale offsets
  pub moved : IsSubstitutionOf g columns col (residue_row columns col p t) [] scale offsets old new

pub residue_is : (g : Gauge) (columns col : ℕ) (p t scale : ℤ) (offsets : Row) (old new : Sides) → IsPutFor g columns col p t scale offsets old new → IsResidueOf g columns col p t old new
residue_is g columns col p t scale offsets old new h = record {
  sided = step.sided;
  divides = step.divides;
  not_divides = h.moved.not_divides ∙ none_on_side (λ r. is_same NotDivides (side_of col r)) (map (substituted scale offsets col) old.not_divides) (All-map (λ r. is_same NotDivides (side_of col r) ≡ false) (substituted scale offsets col) old.not_divides
      (λ i d j. moved_free g columns col scale p offsets (get_or old.not_divides i d) one h.progression.at_column h.progression.width h.inside (h.sided.not_divides i d j) (h.period.multiples i d j)));
  points = λ point n.
      let same = step.same point n in
      let holds : (x : ℤ) → SidesHold (with_row old r) col point x ↔ (SidesHold old col point x × divide.Divides p (x -ℤ t)) = (λ x. with_row_holds columns col old p t point x h.divides h.inside n) in (
        (λ y. let x = same.1 y in let s = (holds x.0).0 x.1 in (x.0, s.0, s.1)),
        (λ x. same.0 (x.0, (holds x.0).1 (x.1, x.2))),
      );
  narrowed = narrowed_is;
}
  where
    r : Row
    r = residue_row columns col p t

    is_step : IsStep g columns col r [] scale offsets (with_row old r) new
    is_step = record {
      inside = h.inside;
      sided = with_row_sided g columns col old r h.sided (record { formed = residue_formed columns col p t h.period.positive; within = h.within }) refl;
      merged = residue_one g columns col p t h.period.positive h.within;
      progression = h.progression;
      moved = with_row_moved g columns col r [] scale offsets old new r h.moved;
    }

    step : IsStepOf g columns col (with_row old r) new
    step = step_is g columns col r [] scale offsets (with_row old r) new is_step

    one : scale ≡ pos 1
    one = scale_is_one scale h.progression.positive (rw (residue_coef columns col p t h.inside) at h.progression.divides_coefficient)

    narrowed_is : HasFactorsUpTo col p old new
    narrowed_is =
        let n = step_narrowed g columns col r [] scale offsets (with_row old r) new is_step in
        record { lowers = n.lowers; uppers = n.uppers }

-- ---- one residue after another
pub residues_none : (sides : Sides) (col : ℕ) (p t : ℤ) (point : List ℤ) → pos 0 <ℤ p → t ≤ℤ pos 0 → ¬ HasResidueBelow sides col p t point
residues_none sides col p t point h e a = by (floor_mod a.0 p) (floor_mod_bounds a.0 p h).0 a.2
  where
    by : (m : ℤ) → pos 0 ≤ℤ m → m <ℤ t → ⊥
    by m h k = omega (arith, linear)

pub residues_next : (sides : Sides) (col : ℕ) (p t u : ℤ) (point : List ℤ) → pos 0 ≤ℤ t → t <ℤ p → t ≡ u -ℤ pos 1
    → HasResidueBelow sides col p u point ↔ (HasResidue sides col p t point ⊎ HasResidueBelow sides col p t point)
residues_next sides col p t u point n l e = (
  (λ a. elim (split (floor_mod a.0 p) a.2) [
    | inl c ↦ inr (a.0, a.1, c)
    | inr f ↦ inl (a.0, a.1, Divides-same p (a.0 -ℤ floor_mod a.0 p) (a.0 -ℤ t) (ap (λ z. a.0 -ℤ z) f) (IsCongruent-floor_mod p a.0 (omega (arith, linear))))
  ]),
  (λ h. elim h [
    | inr a ↦ (a.0, a.1, less (floor_mod a.0 p) a.2)
    | inl a ↦ (a.0, a.1, same (floor_mod a.0 p) (rest_from a.0 a.2))
  ]),
)
  where
    less : (m : ℤ) → m <ℤ t → m <ℤ u
    less m h = omega (arith, linear)

    same : (m : ℤ) → m ≡ t → m <ℤ u
    same m h = omega (arith, linear)

    split : (m : ℤ) → m <ℤ u → (m <ℤ t) ⊎ (m ≡ t)
    split m h = grind (arith, linear)

    rest_from : (x : ℤ) → divide.Divides p (x -ℤ t) → floor_mod x p ≡ t
    rest_from x d = floor_mod-same p x t (omega (arith, linear)) d ∙ sym (floor_unique t p (pos 0) t (nought p t) n l).1
      where
        nought : (p t : ℤ) → p *ℤ pos 0 +ℤ t ≡ t
        nought p t = omega (arith, linear)

pub residues_all : (sides : Sides) (col : ℕ) (p : ℤ) (point : List ℤ) → pos 0 <ℤ p → HasResidueBelow sides col p p point ↔ HasNumber sides col point
residues_all sides col p point h = ((λ a. (a.0, a.1)), (λ a. (a.0, a.1, (floor_mod_bounds a.0 p h).1)))

-- ---- what is said of sides does not depend on what the meter counted
pub sided_kept : (g h : Gauge) (columns col : ℕ) (s : Sides) → h.bits ≡ g.bits → AreSided h columns col s → AreSided g columns col s
sided_kept g h columns col s e a = record {
  lowers = λ k d i. let r = a.lowers k d i in record { proper = proper_kept g h columns (get_or s.lowers k d) e r.proper; kind = r.kind; factor = r.factor };
  uppers = λ k d i. let r = a.uppers k d i in record { proper = proper_kept g h columns (get_or s.uppers k d) e r.proper; kind = r.kind; factor = r.factor };
  divides = λ k d i. let r = a.divides k d i in record { proper = proper_kept g h columns (get_or s.divides k d) e r.proper; kind = r.kind };
  not_divides = λ k d i. let r = a.not_divides k d i in record { proper = proper_kept g h columns (get_or s.not_divides k d) e r.proper; kind = r.kind; depends = r.depends };
  free = λ k d i. let r = a.free k d i in record { proper = proper_kept g h columns (get_or s.free k d) e r.proper; free = r.free };
}

pub residue_kept : (g h : Gauge) (columns col : ℕ) (p t : ℤ) (old new : Sides) → h.bits ≡ g.bits → IsResidueOf h columns col p t old new → IsResidueOf g columns col p t old new
residue_kept g h columns col p t old new e r = record { sided = sided_kept g h columns col new e r.sided; divides = r.divides; not_divides = r.not_divides; points = r.points; narrowed = r.narrowed }
