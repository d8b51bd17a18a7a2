-- Some whole number meets the sides of a column exactly where their dark shadow holds or some bound has a splinter.
use Rattle.std.proofs.Common.{◌≡◌, ◌↔◌, ◌⊎◌, inl, inr, Option, Some, None, ◌∙◌, refl, sym, ap, subst, arith, ℕ, ◌-◌, ◌<◌, ℤ, pos, negsuc, neg_ℤ, ◌+ℤ◌, ◌-ℤ◌, ◌*ℤ◌, ◌≤ℤ◌, ◌<ℤ◌, List, [], ◌∷◌, ◌++◌, length, get_or, map}
use Rattle.std.specs.List.{All, AllZip, Any, insert, remove}
use Rattle.std.proofs.lemmas.List.Elements.{All-nil, All-head, All-tail, All-append, All-map, All-weaker}
use Rattle.isl_math.specs.Divide as divide
use Rattle.isl_math.specs.Dot.{dot}
use Rattle.isl_math.proofs.Ring.{expand, linear}
use Rattle.isl_math.proofs.OrderLaws.{not_negative-*ℤ}
use Rattle.isl_meter.specs.Gauge.{Gauge}
use Rattle.isl_piece.specs.declared.row.RowKind.{RowKind}
use Rattle.isl_piece.specs.declared.row.RowKind.TheVariants as kind
use Rattle.isl_piece.specs.declared.row.Row.{Row}
use Rattle.isl_piece.specs.Row.{HoldsRow, HoldsValue, IsWellFormed, IsRowWithin, value_at, coef_at}
use Rattle.isl_shadows.specs.Splinters.{rows_of, shifted_row, HoldsDark, HasSplinter, KeepBound, AreSplinters, splinter_count, splinter_total, HasFewSplinters, AreShadowsOf}
use Rattle.isl_shadows.specs.Neighbours.{IsMetWithin}
use Rattle.isl_omega.specs.declared.sides.Sides.{Sides}
use Rattle.isl_piece.specs.Normal.{IsNormal}
use Rattle.std.specs.Prelude.{IfSome}
use Rattle.isl_omega.proofs.Splinters.{splinters_not_negative}
use Rattle.isl_omega.specs.Column.{IsFree, HoldAt, rest_at, IsAnswerFor, IsProper}
use Rattle.isl_omega.specs.Shadow.{Bound, IsPositive, MeetsLower, MeetsUpper, IsDark, lower_at, upper_at, neighbour_splinters, AreSplintersOf, IsShadow}
use Rattle.isl_omega.specs.Sides.{IsLower, IsUpper, IsNotDivides, IsFreeRow, AreSided, SidesHold}
use Rattle.isl_omega.specs.declared.shadow.Splinters.{Splinters}
use Rattle.isl_omega.proofs.ColumnLemmas.{value_at-insert, hold_anywhere}
use Rattle.isl_math.proofs.ListLaws.{All-parts, All-unmapped, All-map-with, All-zipped, AllZip-with, Any-with, Any-element, Any-unmapped, Any-zipped}
use Rattle.isl_shadows.proofs.NeighbourLemmas.{shifted, MeetsRun, IsEnd, run_within, run_covers}
use Rattle.isl_omega.proofs.SideLemmas.{free_rows_hold}
use Rattle.isl_omega.proofs.ShadowLemmas.{dark_shadow, far_above, far_below, lower_holds_on, upper_holds_on}
use Rattle.isl_omega.proofs.ShadowRows.{lower_meets, upper_meets, lower_value}
use Rattle.isl_omega.proofs.PairLemmas.{holds_at_least}

-- ---- rows and bounds
abbrev lower_bounds : ℕ → List ℤ → List Row → List Bound
lower_bounds col point rows = map (lower_at col point) rows

abbrev upper_bounds : ℕ → List ℤ → List Row → List Bound
upper_bounds col point rows = map (upper_at col point) rows

positive_lowers : (g : Gauge) (columns col : ℕ) (rows : List Row) (point : List ℤ) → All (IsLower g columns col) rows → All IsPositive (lower_bounds col point rows)
positive_lowers g columns col rows point h = All-map IsPositive (lower_at col point) rows (λ k d i. (h k d i).factor)

positive_uppers : (g : Gauge) (columns col : ℕ) (rows : List Row) (point : List ℤ) → All (IsUpper g columns col) rows → All IsPositive (upper_bounds col point rows)
positive_uppers g columns col rows point h = All-map IsPositive (upper_at col point) rows (λ k d i. let f = (h k d i).factor in omega (arith, linear))

lowers_meet : (g : Gauge) (columns col : ℕ) (rows : List Row) (point : List ℤ) (x : ℤ) → All (IsLower g columns col) rows → col < columns → length point ≡ columns - 1 → HoldAt rows col point x ↔ All (MeetsLower x) (lower_bounds col point rows)
lowers_meet g columns col rows point x h l n = (
  (λ a. All-map (MeetsLower x) (lower_at col point) rows (λ k d i. (lower_meets g columns col (get_or rows k d) point x (h k d i) l n).0 (a k d i))),
  (λ a. λ k d i. (lower_meets g columns col (get_or rows k d) point x (h k d i) l n).1 (All-unmapped (MeetsLower x) (lower_at col point) rows a k d i)),
)

uppers_meet : (g : Gauge) (columns col : ℕ) (rows : List Row) (point : List ℤ) (x : ℤ) → All (IsUpper g columns col) rows → col < columns → length point ≡ columns - 1 → HoldAt rows col point x ↔ All (MeetsUpper x) (upper_bounds col point rows)
uppers_meet g columns col rows point x h l n = (
  (λ a. All-map (MeetsUpper x) (upper_at col point) rows (λ k d i. (upper_meets g columns col (get_or rows k d) point x (h k d i) l n).0 (a k d i))),
  (λ a. λ k d i. (upper_meets g columns col (get_or rows k d) point x (h k d i) l n).1 (All-unmapped (MeetsUpper x) (upper_at col point) rows a k d i)),
)

-- where each pair is dark, some x meets all bounds
pub dark_meets : (g : Gauge) (columns col : ℕ) (lowers uppers : List Row) (point : List ℤ) → All (IsLower g columns col) lowers → All (IsUpper g columns col) uppers → col < columns → length point ≡ columns - 1
    → All (λ l. All (λ u. IsDark (lower_at col point l) (upper_at col point u)) uppers) lowers → (x : ℤ) × HoldAt lowers col point x × HoldAt uppers col point x
dark_meets g columns col lowers uppers point hl hu l n d =
    let s = dark_shadow (lower_bounds col point lowers) (upper_bounds col point uppers) (positive_lowers g columns col lowers point hl) (positive_uppers g columns col uppers point hu)
    (All-map (λ b. All (IsDark b) (upper_bounds col point uppers)) (lower_at col point) lowers (λ k z i. All-map (IsDark (lower_at col point (get_or lowers k z))) (upper_at col point) uppers (d k z i))) in
    (s.0, (lowers_meet g columns col lowers point s.0 hl l n).1 s.1, (uppers_meet g columns col uppers point s.0 hu l n).1 s.2)

shadow_holds : (g : Gauge) (columns col : ℕ) (neighbours : ℤ) (lowers uppers rows : List Row) (tails : List Splinters) (point : List ℤ) (x y : ℤ)
    → col < columns → length point ≡ columns - 1 → IsShadow g columns col neighbours lowers uppers rows tails → HoldAt rows col point x
    → HoldAt rows col point y
shadow_holds g columns col neighbours lowers uppers rows tails point x y l n s a = hold_anywhere columns col rows point x y l n (All-weaker (IsProper g columns) (IsWellFormed columns) (λ r p. p.formed) rows s.proper) s.free a

-- ---- bounds on both sides
pub not_divides_holds : (g : Gauge) (columns col : ℕ) (r : Row) (point : List ℤ) (x : ℤ) → IsNotDivides g columns col r → col < columns
    → length point ≡ columns - 1 → HoldsRow r (insert point col x) ↔ (¬ divide.Divides r.k (coef_at r col *ℤ x +ℤ rest_at r col point))
not_divides_holds g columns col r point x h l n =
    let v = value_at-insert r col point x (let w = h.proper.formed.width in omega arith) (omega arith) in
    rw (← v) (by r.kind r.k (value_at r (insert point col x)) h.kind)
  where
    by : (asks : RowKind) (k z : ℤ) → asks ≡ kind.NotDivides → HoldsValue asks k z ↔ (¬ divide.Divides k z)
    by asks k z e = rw e ((λ m. m), (λ m. m))

-- what one more neighbour takes from an upper bound
shifted_at : (neighbours : ℤ) (col : ℕ) (point : List ℤ) (u : Row)
    → upper_at col point (shifted_row neighbours col u) ≡ shifted neighbours (upper_at col point u)
shifted_at neighbours col point u = ap (λ (z : ℤ). let b : Bound = record { factor = neg_ℤ (coef_at u col); rest = z } in b)
    (by (dot (remove u.coefs col) point) u.constant (neighbours *ℤ neg_ℤ (coef_at u col)))
  where
    by : (d c f : ℤ) → d +ℤ (c -ℤ f) ≡ d +ℤ c -ℤ f
    by d c f = omega (arith, linear)

-- without a neighbour nothing is shifted
pub shifted_none : (col : ℕ) (rows : List Row) → map (shifted_row (pos 0) col) rows ≡ rows
shifted_none col [] = refl
shifted_none col (u ∷ rows) = ap (λ (z : ℤ). let r : Row = record { kind = u.kind; coefs = u.coefs; constant = z; k = u.k } in r ∷ map (shifted_row (pos 0) col) rows)
    (by u.constant (neg_ℤ (coef_at u col))) ∙ ap (λ (more : List Row). u ∷ more) (shifted_none col rows)
  where
    by : (c f : ℤ) → c -ℤ pos 0 *ℤ f ≡ c
    by c f = omega (arith, linear)

pub shifted_upper : (g : Gauge) (columns : ℕ) (neighbours : ℤ) (col : ℕ) (rows : List Row) → All (IsUpper g columns col) rows
    → All (IsRowWithin g) (map (shifted_row neighbours col) rows) → All (IsUpper g columns col) (map (shifted_row neighbours col) rows)
shifted_upper g columns neighbours col rows h w = All-map-with (IsRowWithin g) (IsUpper g columns col) (shifted_row neighbours col) rows
    (λ k d i v. record {
      proper = record { formed = record { width = (h k d i).proper.formed.width; modulus = (h k d i).proper.formed.modulus }; within = v };
      kind = (h k d i).kind;
      factor = (h k d i).factor;
    })
    w

-- the shifted bounds hold where their bounds are met by the last neighbour
shifted_meet : (g : Gauge) (columns : ℕ) (neighbours : ℤ) (col : ℕ) (rows : List Row) (point : List ℤ) (x : ℤ)
    → All (IsUpper g columns col) (map (shifted_row neighbours col) rows) → col < columns → length point ≡ columns - 1
    → HoldAt (map (shifted_row neighbours col) rows) col point x ↔ All (λ u. MeetsUpper x (shifted neighbours u)) (upper_bounds col point rows)
shifted_meet g columns neighbours col rows point x h l n = (
  (λ a. All-map (λ u. MeetsUpper x (shifted neighbours u)) (upper_at col point) rows (λ k d i. subst (MeetsUpper x) (shifted_at neighbours col point (get_or rows k d))
      (All-unmapped (λ r. MeetsUpper x (upper_at col point r)) (shifted_row neighbours col) rows
      (All-unmapped (MeetsUpper x) (upper_at col point) (map (shifted_row neighbours col) rows) ((uppers_meet g columns col (map (shifted_row neighbours col) rows) point x h l n).0 a)) k d i))),
  (λ a. (uppers_meet g columns col (map (shifted_row neighbours col) rows) point x h l n).1 (All-map (MeetsUpper x) (upper_at col point) (map (shifted_row neighbours col) rows)
      (All-map (λ r. MeetsUpper x (upper_at col point r)) (shifted_row neighbours col) rows
      (λ k d i. subst (MeetsUpper x) (sym (shifted_at neighbours col point (get_or rows k d))) (All-unmapped (λ u. MeetsUpper x (shifted neighbours u)) (upper_at col point) rows a k d i))))),
)

run_meets : (g : Gauge) (columns : ℕ) (neighbours : ℤ) (col : ℕ) (lowers uppers : List Row) (point : List ℤ) (x : ℤ)
    → All (IsLower g columns col) lowers → All (IsUpper g columns col) (map (shifted_row neighbours col) uppers) → col < columns
    → length point ≡ columns - 1
    → (HoldAt lowers col point x × HoldAt (map (shifted_row neighbours col) uppers) col point x) ↔ MeetsRun (lower_bounds col point lowers) (upper_bounds col point uppers) neighbours x
run_meets g columns neighbours col lowers uppers point x hl hs l n = (
  (λ a. record { above = (lowers_meet g columns col lowers point x hl l n).0 a.0; below = (shifted_meet g columns neighbours col uppers point x hs l n).0 a.1 }),
  (λ m. ((lowers_meet g columns col lowers point x hl l n).1 m.above, (shifted_meet g columns neighbours col uppers point x hs l n).1 m.below)),
)

-- the bounds, the rows that moduli must not divide and the free rows hold with some x exactly where the free rows and the dark rows of the
-- shifted bounds hold, or a tail has a splinter
pub bounds_exact : (g : Gauge) (columns : ℕ) (neighbours : ℤ) (col : ℕ) (lowers uppers not_divides free rows : List Row) (tails : List Splinters) (all : List Row) (point : List ℤ)
    → col < columns → length point ≡ columns - 1
    → All (IsLower g columns col) lowers → All (IsUpper g columns col) uppers
    → All (IsUpper g columns col) (map (shifted_row neighbours col) uppers) → IsMetWithin columns col not_divides neighbours
    → All (IsFreeRow g columns col) free
    → IsShadow g columns col neighbours lowers (map (shifted_row neighbours col) uppers) rows tails
    → ((x : ℤ) → HoldAt all col point x ↔ (HoldAt lowers col point x × HoldAt uppers col point x × HoldAt not_divides col point x × HoldAt free col point x))
    → ((x : ℤ) × HoldAt all col point x) ↔ (HoldAt (free ++ rows) col point (pos 0) ⊎ Any (HasSplinter all col point) tails)
bounds_exact g columns neighbours col lowers uppers not_divides free rows tails all point l n hl hu hs met hf s split = (forth, back)
  where
    value_on : (t : Row) (x : ℤ) → IsLower g columns col t
        → value_at t (insert point col x) ≡ value_at t (insert point col (x -ℤ neighbours)) +ℤ neighbours *ℤ coef_at t col
    value_on t x h = by (coef_at t col) x neighbours (rest_at t col point) (value_at t (insert point col x)) (value_at t (insert point col (x -ℤ neighbours)))
        (lower_value g columns col t point x h l n) (lower_value g columns col t point (x -ℤ neighbours) h l n)
      where
        by : (c x m f v w : ℤ) → v ≡ c *ℤ x +ℤ f → w ≡ c *ℤ (x -ℤ m) +ℤ f → v ≡ w +ℤ m *ℤ c
        by c x m f v w e h = let e' = simp expand at e in let h' = simp expand at h in simp expand (omega (arith, linear))

    tail_lowers : All (λ t. IsLower g columns col t.lower) tails
    tail_lowers = All-zipped (AreSplintersOf g col neighbours (map (shifted_row neighbours col) uppers)) (IsLower g columns col) (λ t. IsLower g columns col t.lower) (λ a t z h. rw z.same h) lowers tails s.tails_are hl

    forth : ((x : ℤ) × HoldAt all col point x) → HoldAt (free ++ rows) col point (pos 0) ⊎ Any (HasSplinter all col point) tails
    forth a =
        let x = a.0 in
        let y = x -ℤ neighbours in
        let parts = (split x).0 a.1 in
        let L = lower_bounds col point lowers in
        let U = upper_bounds col point uppers in
        elim (run_covers L U neighbours x ((uppers_meet g columns col uppers point x hu l n).0 parts.1)) [
          | inl m ↦
              let both = (run_meets g columns neighbours col lowers uppers point y hl hs l n).1 m in
              elim (s.covered point y n both.0 both.1) [
                | inl h ↦ inl (All-append (λ q. HoldsRow q (insert point col (pos 0))) free rows (free_rows_hold g columns col free point x (pos 0) l n hf parts.3)
                    (shadow_holds g columns col neighbours lowers (map (shifted_row neighbours col) uppers) rows tails point y (pos 0) l n s h))
                | inr t ↦ inr (Any-with (λ t. (value_at t.lower (insert point col y) +ℤ neighbour_splinters neighbours (coef_at t.lower col)) ≤ℤ t.last) (λ t. IsLower g columns col t.lower) (HasSplinter all col point)
                    (λ t v h. (x, a.1, moved (value_at t.lower (insert point col x)) (value_at t.lower (insert point col y)) (neighbours *ℤ coef_at t.lower col) t.last (value_on t.lower x h) v)) tails tail_lowers t)
              ]
          | inr e ↦ inr (Any-zipped (λ b t. AreSplintersOf g col neighbours (map (shifted_row neighbours col) uppers) b t × IsLower g columns col b) (λ b. IsEnd neighbours x (lower_at col point b)) (HasSplinter all col point)
              (λ b t z v. (x, a.1, ended b t z.0 (lower_value g columns col b point x z.1 l n) v)) lowers tails
              (AllZip-with (AreSplintersOf g col neighbours (map (shifted_row neighbours col) uppers)) (IsLower g columns col) lowers tails s.tails_are hl) (Any-unmapped (IsEnd neighbours x) (lower_at col point) lowers e))
        ]
      where
        moved : (v w c last : ℤ) → v ≡ w +ℤ c → (w +ℤ c) ≤ℤ last → v ≤ℤ last
        moved v w c last e h = omega (arith, linear)

        ended : (b : Row) (t : Splinters) → AreSplintersOf g col neighbours (map (shifted_row neighbours col) uppers) b t
            → value_at b (insert point col a.0) ≡ coef_at b col *ℤ a.0 +ℤ rest_at b col point → IsEnd neighbours a.0 (lower_at col point b)
            → value_at t.lower (insert point col a.0) ≤ℤ t.last
        ended b t z e v = rw z.same (by (coef_at b col *ℤ a.0 +ℤ rest_at b col point) (value_at b (insert point col a.0)) (neighbours *ℤ coef_at b col) t.last e v z.not_below)
          where
            by : (w v c last : ℤ) → v ≡ w → w ≤ℤ (c -ℤ pos 1) → (c -ℤ pos 1) ≤ℤ last → v ≤ℤ last
            by w v c last e h k = omega (arith, linear)

    back : HoldAt (free ++ rows) col point (pos 0) ⊎ Any (HasSplinter all col point) tails → (x : ℤ) × HoldAt all col point x
    back (inr t) = let e = Any-element (HasSplinter all col point) tails t in let p = e.2 in (p.0, p.1)
    back (inl h) =
        let parts = All-parts (λ q. HoldsRow q (insert point col (pos 0))) free rows h in
        let m = dark_meets g columns col lowers (map (shifted_row neighbours col) uppers) point hl hs l n (s.dark point (pos 0) n parts.1) in
        let one = met.met point m.0 n in
        let y = m.0 +ℤ one.0 in
        let bounds = run_within (lower_bounds col point lowers) (upper_bounds col point uppers) neighbours m.0 one.0 (positive_lowers g columns col lowers point hl) (positive_uppers g columns col uppers point hu)
        ((run_meets g columns neighbours col lowers uppers point m.0 hl hs l n).0 (m.1, m.2)) one.1 one.2 in (
          y,
          (split y).1 (
            (lowers_meet g columns col lowers point y hl l n).1 bounds.0,
            (uppers_meet g columns col uppers point y hu l n).1 bounds.1,
            one.3,
            free_rows_hold g columns col free point (pos 0) y l n hf parts.0,
          ),
        )

-- ---- a side without a bound
-- some x meets the bounds and the rows that moduli must not divide
open_meets : (g : Gauge) (columns : ℕ) (neighbours : ℤ) (col : ℕ) (lowers uppers not_divides : List Row) (point : List ℤ) → col < columns
    → length point ≡ columns - 1 → All (IsLower g columns col) lowers → All (IsUpper g columns col) uppers
    → IsMetWithin columns col not_divides neighbours → (lowers ≡ []) ⊎ (uppers ≡ [])
    → (x : ℤ) × HoldAt lowers col point x × HoldAt uppers col point x × HoldAt not_divides col point x
open_meets g columns neighbours col [] uppers not_divides point l n hl hu met o =
    let far = far_below (upper_bounds col point uppers) (positive_uppers g columns col uppers point hu) in
    let y = far.0 -ℤ neighbours in
    let one = met.met point y n in
    let positive = positive_uppers g columns col uppers point hu in
    let before : (y +ℤ one.0) ≤ℤ far.0 = let t = one.2 in omega (arith, linear) in (
      y +ℤ one.0,
      All-nil (λ r. HoldsRow r (insert point col (y +ℤ one.0))),
      (uppers_meet g columns col uppers point (y +ℤ one.0) hu l n).1 (λ i d k. upper_holds_on far.0 (y +ℤ one.0) (get_or (upper_bounds col point uppers) i d) (positive i d k) before (far.1 i d k)),
      one.3,
    )
open_meets g columns neighbours col (b ∷ lowers) [] not_divides point l n hl hu met o =
    let far = far_above (lower_bounds col point (b ∷ lowers)) (positive_lowers g columns col (b ∷ lowers) point hl) in
    let one = met.met point far.0 n in
    let positive = positive_lowers g columns col (b ∷ lowers) point hl in
    let after : far.0 ≤ℤ (far.0 +ℤ one.0) = let t = one.1 in omega (arith, linear) in (
      far.0 +ℤ one.0,
      (lowers_meet g columns col (b ∷ lowers) point (far.0 +ℤ one.0) hl l n).1 (λ i d k. lower_holds_on far.0 (far.0 +ℤ one.0) (get_or (lower_bounds col point (b ∷ lowers)) i d) (positive i d k) after (far.1 i d k)),
      All-nil (λ r. HoldsRow r (insert point col (far.0 +ℤ one.0))),
      one.3,
    )
open_meets g columns neighbours col (b ∷ lowers) (u ∷ uppers) not_divides point l n hl hu met (inl e) = cc
open_meets g columns neighbours col (b ∷ lowers) (u ∷ uppers) not_divides point l n hl hu met (inr e) = cc

pub open_exact : (g : Gauge) (columns : ℕ) (neighbours : ℤ) (col : ℕ) (lowers uppers not_divides free all : List Row) (point : List ℤ)
    → col < columns → length point ≡ columns - 1 → All (IsLower g columns col) lowers → All (IsUpper g columns col) uppers
    → IsMetWithin columns col not_divides neighbours → All (IsFreeRow g columns col) free → (lowers ≡ []) ⊎ (uppers ≡ [])
    → ((x : ℤ) → HoldAt all col point x ↔ (HoldAt lowers col point x × HoldAt uppers col point x × HoldAt not_divides col point x × HoldAt free col point x))
    → ((x : ℤ) × HoldAt all col point x) ↔ HoldAt free col point (pos 0)
open_exact g columns neighbours col lowers uppers not_divides free all point l n hl hu met hf o split = (
  (λ a. free_rows_hold g columns col free point a.0 (pos 0) l n hf ((split a.0).0 a.1).3),
  (λ h. let m = open_meets g columns neighbours col lowers uppers not_divides point l n hl hu met o in (m.0, (split m.0).1 (m.1, m.2, m.3, free_rows_hold g columns col free point (pos 0) m.0 l n hf h))),
)

-- ---- the dark_shadow as a whole
-- the rows of all sides hold where the sides do, if no congruence is among them
pub rows_hold : (sides : Sides) (col : ℕ) (point : List ℤ) (x : ℤ) → HoldAt (rows_of sides) col point x ↔ (HoldAt sides.lowers col point x × HoldAt sides.uppers col point x × HoldAt sides.not_divides col point x × HoldAt sides.free col point x)
rows_hold sides col point x =
    let P : Row → Type 0 = λ r. HoldsRow r (insert point col x) in (
      (λ h. let a = All-parts P ((sides.lowers ++ sides.uppers) ++ sides.not_divides) sides.free h in
          let b = All-parts P (sides.lowers ++ sides.uppers) sides.not_divides a.0 in
          let c = All-parts P sides.lowers sides.uppers b.0 in
          (c.0, c.1, b.1, a.1)),
      (λ h. All-append P ((sides.lowers ++ sides.uppers) ++ sides.not_divides) sides.free (All-append P (sides.lowers ++ sides.uppers) sides.not_divides (All-append P sides.lowers sides.uppers h.0 h.1) h.2) h.3),
    )

pub sides_rows : (sides : Sides) (col : ℕ) (point : List ℤ) → sides.divides ≡ [] → ((x : ℤ) × SidesHold sides col point x) ↔ ((x : ℤ) × HoldAt (rows_of sides) col point x)
sides_rows sides col point e = (
  (λ a. (a.0, (rows_hold sides col point a.0).1 ((a.1).lowers, (a.1).uppers, (a.1).not_divides, (a.1).free))),
  (λ a. let h = (rows_hold sides col point a.0).0 a.1 in (a.0, record { lowers = h.0; uppers = h.1; divides = rw e (All-nil (λ r. HoldsRow r (insert point col a.0))); not_divides = h.2; free = h.3 })),
)

pub proper_rows : (g : Gauge) (columns col : ℕ) (sides : Sides) → AreSided g columns col sides → All (IsProper g columns) (rows_of sides)
proper_rows g columns col sides s =
    All-append (IsProper g columns) ((sides.lowers ++ sides.uppers) ++ sides.not_divides) sides.free
    (All-append (IsProper g columns) (sides.lowers ++ sides.uppers) sides.not_divides
    (All-append (IsProper g columns) sides.lowers sides.uppers (All-weaker (IsLower g columns col) (IsProper g columns) (λ r h. h.proper) sides.lowers s.lowers) (All-weaker (IsUpper g columns col) (IsProper g columns) (λ r h. h.proper) sides.uppers s.uppers))
    (All-weaker (IsNotDivides g columns col) (IsProper g columns) (λ r h. h.proper) sides.not_divides s.not_divides))
    (All-weaker (IsFreeRow g columns col) (IsProper g columns) (λ r h. h.proper) sides.free s.free)

-- the rows that were settled
pub dark_holds : (g : Gauge) (columns : ℕ) (P : List ℤ → Type 0) (dark : Option (List Row)) (point : List ℤ) → length point ≡ columns → IsAnswerFor g columns P dark → HoldsDark dark point ↔ P point
dark_holds g columns P None point n s = ((λ h. absurd h), (λ p. s point n p))
dark_holds g columns P (Some rows) point n s = s.points point n

pub dark_is : (g : Gauge) (columns : ℕ) (P : List ℤ → Type 0) (dark : Option (List Row)) → IsAnswerFor g columns P dark → IfSome dark (λ rows. All (IsProper g columns) rows × IsNormal rows)
dark_is g columns P None s = tt
dark_is g columns P (Some rows) s = (s.proper, s.normal)

pub no_tail : (P : Splinters → Type 0) → Any P [] → ⊥
no_tail P a = let h = a.2 in omega arith

-- ---- how many splinters
pub splinter_total_not_negative : (g : Gauge) (columns col : ℕ) (neighbours m : ℤ) (lowers : List Row) → pos 0 ≤ℤ neighbours → pos 0 <ℤ m
    → All (IsLower g columns col) lowers → pos 0 ≤ℤ splinter_total neighbours m col lowers
splinter_total_not_negative g columns col neighbours m [] q p h = omega (arith, linear)
splinter_total_not_negative g columns col neighbours m (l ∷ lowers) q p h =
    let first = (All-head (IsLower g columns col) l lowers h).factor in
    let rest = splinter_total_not_negative g columns col neighbours m lowers q p (All-tail (IsLower g columns col) l lowers h) in
    let own = splinters_not_negative (coef_at l col) m first p in
    let more = not_negative-*ℤ neighbours (coef_at l col) q (omega (arith, linear)) in
    omega (arith, linear)

-- neighbours ask for more
pub splinter_total_more : (g : Gauge) (columns col : ℕ) (neighbours m : ℤ) (lowers : List Row) → pos 0 ≤ℤ neighbours
    → All (IsLower g columns col) lowers → splinter_total (pos 0) m col lowers ≤ℤ splinter_total neighbours m col lowers
splinter_total_more g columns col neighbours m [] q h = omega (arith, linear)
splinter_total_more g columns col neighbours m (l ∷ lowers) q h =
    let first = (All-head (IsLower g columns col) l lowers h).factor in
    let rest = splinter_total_more g columns col neighbours m lowers q (All-tail (IsLower g columns col) l lowers h) in
    let more = not_negative-*ℤ neighbours (coef_at l col) q (omega (arith, linear)) in
    omega (arith, linear)

tails_few : (g : Gauge) (col : ℕ) (neighbours : ℤ) (uppers lowers : List Row) (tails : List Splinters) (m : ℤ)
    → AllZip (AreSplintersOf g col neighbours uppers) lowers tails → pos 0 <ℤ m → All (λ u. neg_ℤ (coef_at u col) ≤ℤ m) uppers
    → splinter_count tails ≤ℤ splinter_total neighbours m col lowers
tails_few g col neighbours uppers [] [] m z p a = omega (arith, linear)
tails_few g col neighbours uppers [] (t ∷ tails) m z p a = absurd z
tails_few g col neighbours uppers (l ∷ lowers) [] m z p a = absurd z
tails_few g col neighbours uppers (l ∷ lowers) (t ∷ tails) m z p a = let first = (z.0).few m p a in let rest = tails_few g col neighbours uppers lowers tails m z.1 p a in omega (arith, linear)

-- ---- the tails
tails_lower : (g : Gauge) (columns col : ℕ) (neighbours : ℤ) (uppers lowers : List Row) (tails : List Splinters) → pos 0 ≤ℤ neighbours
    → All (IsLower g columns col) lowers → AllZip (AreSplintersOf g col neighbours uppers) lowers tails → All (AreSplinters g columns col) tails
tails_lower g columns col neighbours uppers lowers tails q h z = All-zipped (AreSplintersOf g col neighbours uppers) (IsLower g columns col) (AreSplinters g columns col)
    (λ l t r k. record { lower = rw r.same k; within = r.within; not_below = by (neighbours *ℤ coef_at l col) t.last (not_negative-*ℤ neighbours (coef_at l col) q (let f = k.factor in omega (arith, linear))) r.not_below }) lowers tails z h
  where
    by : (more last : ℤ) → pos 0 ≤ℤ more → (more -ℤ pos 1) ≤ℤ last → negsuc 0 ≤ℤ last
    by more last p h = omega (arith, linear)

-- the rows of the sides hold only where the tails' bounds are met
tails_bounds : (g : Gauge) (columns col : ℕ) (neighbours : ℤ) (uppers : List Row) (sides : Sides) (tails : List Splinters)
    → All (IsLower g columns col) sides.lowers → AllZip (AreSplintersOf g col neighbours uppers) sides.lowers tails
    → All (λ t. KeepBound columns col (rows_of sides) t.lower) tails
tails_bounds g columns col neighbours uppers sides tails h z = λ k d i. λ point x n a.
    All-zipped (λ l t. AreSplintersOf g col neighbours uppers l t × IsLower g columns col l) (λ r. HoldsRow r (insert point col x)) (λ t. pos 0 ≤ℤ value_at t.lower (insert point col x))
    (λ l t r b. rw r.0.same ((holds_at_least l.kind l.k (value_at l (insert point col x)) r.1.kind).0 b)) sides.lowers tails (AllZip-with (AreSplintersOf g col neighbours uppers) (IsLower g columns col) sides.lowers tails z h) ((rows_hold sides col point x).0 a).0 k d i

-- what the rows left and the tails say
pub record IsClosed (g : Gauge) (columns : ℕ) (neighbours : ℤ) (col : ℕ) (sides : Sides) (dark : List Row) (tails : List Splinters) : Type 0 where
  pub lower : All (AreSplinters g columns col) tails
  pub bounds : All (λ t. KeepBound columns col (rows_of sides) t.lower) tails
  pub proper : All (IsProper g columns) dark
  pub free : All (IsFree col) dark
  pub exact : (point : List ℤ) → length point ≡ columns - 1 → ((x : ℤ) × HoldAt (rows_of sides) col point x) ↔ (HoldAt (sides.free ++ dark) col point (pos 0) ⊎ Any (HasSplinter (rows_of sides) col point) tails)
  pub few : HasFewSplinters neighbours col sides tails

pub closed_from : (g : Gauge) (columns : ℕ) (neighbours : ℤ) (col : ℕ) (sides : Sides) (dark : List Row) (tails : List Splinters)
    → AreSided g columns col sides → col < columns → IsMetWithin columns col sides.not_divides neighbours
    → AreShadowsOf g columns col neighbours sides dark tails → IsClosed g columns neighbours col sides dark tails
closed_from g columns neighbours col sides dark tails s l met w =
    let shifted_uppers = map (shifted_row neighbours col) sides.uppers in
    record {
      lower = tails_lower g columns col neighbours shifted_uppers sides.lowers tails met.not_negative s.lowers w.shadow.tails_are;
      bounds = tails_bounds g columns col neighbours shifted_uppers sides tails s.lowers w.shadow.tails_are;
      proper = w.shadow.proper;
      free = w.shadow.free;
      exact = λ point n. bounds_exact g columns neighbours col sides.lowers sides.uppers sides.not_divides sides.free dark tails (rows_of sides) point l n s.lowers s.uppers w.uppers met s.free w.shadow (rows_hold sides col point);
      few = λ m p u. tails_few g col neighbours shifted_uppers sides.lowers tails m w.shadow.tails_are p (All-map (λ q. neg_ℤ (coef_at q col) ≤ℤ m) (shifted_row neighbours col) sides.uppers u);
    }

-- the rows that the dark shadow is made of
pub left_rows : (g : Gauge) (columns : ℕ) (neighbours : ℤ) (col : ℕ) (sides : Sides) (dark left : List Row) (tails : List Splinters)
    → AreSided g columns col sides → IsClosed g columns neighbours col sides dark tails → left ≡ sides.free ++ dark
    → All (IsProper g columns) left × All (IsFree col) left
left_rows g columns neighbours col sides dark left tails s c e = rw e (
  All-append (IsProper g columns) sides.free dark (All-weaker (IsFreeRow g columns col) (IsProper g columns) (λ r h. h.proper) sides.free s.free) c.proper,
  All-append (IsFree col) sides.free dark (All-weaker (IsFreeRow g columns col) (IsFree col) (λ r h. h.free) sides.free s.free) c.free,
)
