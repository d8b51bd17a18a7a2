-- Rows that are asked in front of a nest.
use Rattle.std.proofs.Common.{◌≡◌, ◌≢◌, ◌⊎◌, inl, inr, refl, sym, ap, ◌∙◌, subst, arith, Bool, true, false, ℕ, zero, suc, ◌+◌, ◌<◌, ◌≤◌}
use Rattle.std.proofs.Common.{ℤ, pos, List, [], ◌∷◌, ◌++◌, length, length-append, get_or, take}
use Rattle.std.specs.Prelude.{if◌then◌else◌, map}
use Rattle.std.specs.List.{All, Contains, sum_by}
use Rattle.std.proofs.lemmas.Bool.{false≢true}
use Rattle.std.proofs.lemmas.List.Elements.{All-append, All-cons, All-contains, All-head, All-map, All-nil, All-weaker}
use Rattle.std.proofs.lemmas.List.Elements.{Contains-append_left, Contains-get_or, Contains-push}
use Rattle.isl_meter.specs.Gauge.{Gauge}
use Rattle.isl_piece.specs.declared.row.Row.{Row}
use Rattle.isl_piece.specs.Row.{HoldsRow, IsWellFormed}
use Rattle.isl_piece.specs.System.{HoldRows, widened}
use Rattle.isl_piece.proofs.DefinedLaws.{widened_hold}
use Rattle.isl_frame.specs.Needed.{AreRowsOver, IsNeeded}
use Rattle.isl_frame.proofs.NeededLaws.{kept_have, over_some}
use Rattle.isl_loop.specs.declared.tree.Loop.{Loop}
use Rattle.isl_loop.specs.Run.{idle_of, rows_hold, trace, turns_of}
use Rattle.isl_loop.proofs.RowLaws.{rows_tell}
use Rattle.isl_nest.specs.declared.nested.Nested.{Nested}
use Rattle.isl_nest.specs.declared.place.Place.{Place}
use Rattle.isl_nest.specs.Asked.{AreAsked}
use Rattle.isl_nest.specs.Item.{named, ItemView}
use Rattle.isl_nest.specs.Naming.{cut, AreNaming, IsCutOf}
use Rattle.isl_nest.specs.Nest.{with_context, with_entry, IsNest}
use Rattle.isl_nest.specs.Places.{Stands}
use Rattle.isl_nest.specs.TurnsAt.{idle_at_turn, turns_at_turn}
use Rattle.isl_nest.proofs.CallLaws.{named_short}
use Rattle.isl_nest.proofs.NamingLaws.{cut_holds, named_zero}

-- ---- rows over one variable more, and back
take_front : (cs ds : List ℤ) → take (length cs) (cs ++ ds) ≡ cs
take_front [] [] = refl
take_front [] (d ∷ ds) = refl
take_front (c ∷ cs) ds = ap (λ (xs : List ℤ). c ∷ xs) (take_front cs ds)

cut_widened : (variables : ℕ) (r : Row) → IsWellFormed variables r → cut variables (widened r) ≡ r
cut_widened variables r formed =
    ap (λ (cs : List ℤ). record { kind = r.kind; coefs = cs; constant = r.constant; k = r.k })
    (subst (λ n. take n (r.coefs ++ pos 0 ∷ []) ≡ r.coefs) formed.width (take_front r.coefs (pos 0 ∷ [])))

abbrev IsWidened : List Row → Row → Type 0
IsWidened rows w = (r : Row) × Contains rows r × (w ≡ widened r)

all_widened : (rows : List Row) → All (IsWidened rows) (map widened rows)
all_widened rows = All-map (IsWidened rows) widened rows (λ k d l. (get_or rows k d, Contains-get_or rows k d l, refl))

longer : (variables : ℕ) (point : List ℤ) (x : ℤ) → length point ≡ variables → length (point ++ x ∷ []) ≡ variables + 1
longer variables point x long = length-append point (x ∷ []) ∙ ap (λ n. n + 1) long

-- ---- the rows that are needed, over one variable less
module _ (variables : ℕ) (context inside rows known kept asked : List Row) (context_formed : All (IsWellFormed variables) context)
    (formed : All (IsWellFormed variables) rows) (known_is : known ≡ map widened context ++ inside)
    (needed : IsNeeded (variables + 1) known (map widened rows) kept) (naming : AreNaming 0 variables kept asked) where
  kept_from : All (IsWidened rows) kept
  kept_from = kept_have (IsWidened rows) (map widened rows) kept needed.each (all_widened rows)

  from : (r : Row) → IsCutOf 0 variables kept r → Contains rows r
  from r c =
      let w = All-contains (IsWidened rows) kept c.0 kept_from c.1 in
      let one = All-contains (IsWellFormed variables) rows w.0 formed w.1 in
      subst (Contains rows) (sym (c.2 ∙ ap (cut variables) w.2 ∙ cut_widened variables w.0 one)) w.1

  module _ (point : List ℤ) (x : ℤ) (long : length point ≡ variables) where
    at_point : (rs : List Row) → All (IsWellFormed variables) rs → All (IsWellFormed (length point)) rs
    at_point rs f = subst (λ n. All (IsWellFormed n) rs) (sym long) f

    -- a row that was widened holds behind the point where it holds at it
    one_holds : (r : Row) → IsWidened rows r → (named r.coefs ≤ variables → HoldsRow r point) → HoldsRow r (point ++ x ∷ [])
    one_holds r w holds =
        let one = All-contains (IsWellFormed variables) rows w.0 formed w.1 in
        let same : named (widened w.0).coefs ≡ named w.0.coefs = named_zero w.0.coefs (pos 0) refl in
        let short = named_short w.0.coefs in
        let width = one.width in
        let here : HoldsRow (widened w.0) point =
        subst (λ (s : Row). named s.coefs ≤ variables → HoldsRow s point) w.2 holds (omega (arith, same, short, width)) in
        let own : HoldsRow w.0 point = subst (λ (s : Row). HoldsRow s point) (cut_widened variables w.0 one)
        ((cut_holds variables (widened w.0) point long).1 here) in
        let H : Row → Type 0 = λ s. HoldsRow s point in
        let K : Row → Type 0 = λ s. HoldsRow s (point ++ x ∷ []) in
        let wide : HoldRows (map widened (w.0 ∷ [])) (point ++ x ∷ []) =
        (widened_hold (w.0 ∷ []) point x (at_point (w.0 ∷ []) (All-cons (IsWellFormed variables) w.0 [] one (All-nil (IsWellFormed variables))))).1
        (All-cons H w.0 [] own (All-nil H)) in
        subst K (sym w.2) (All-head K (widened w.0) [] wide)

    kept_hold : HoldRows asked point → HoldRows kept (point ++ x ∷ [])
    kept_hold holds = λ k d l. one_holds (get_or kept k d) (kept_from k d l)
        (λ few. (naming.points point long).0 holds k d l (omega arith) few)

    known_holds : HoldRows context point → HoldRows inside (point ++ x ∷ []) → HoldRows known (point ++ x ∷ [])
    known_holds here turn =
        let K : Row → Type 0 = λ s. HoldsRow s (point ++ x ∷ []) in
        subst (All K) (sym known_is)
        (All-append K (map widened context) inside ((widened_hold context point x (at_point context context_formed)).1 here) turn)

    all_hold : HoldRows context point → HoldRows inside (point ++ x ∷ []) → HoldRows asked point → HoldRows rows point
    all_hold here turn holds =
        (widened_hold rows point x (at_point rows formed)).0
        ((needed.points (point ++ x ∷ []) (longer variables point x long) (known_holds here turn)).0 (kept_hold holds))

  pub needed_asked : AreAsked variables context inside rows asked
  needed_asked = record {
    each = All-weaker (IsCutOf 0 variables kept) (Contains rows) from asked naming.each;
    points = λ point x long here turn holds. all_hold point x long here turn holds;
  }

-- with a column left there is one variable more
pub asked_room : (most left variables columns all : ℕ) → variables ≤ columns → columns + left ≡ all → all < most → left ≢ 0
    → variables + 1 < most
asked_room most zero variables columns all few whole narrow some = absurd (some refl)
asked_room most (suc left) variables columns all few whole narrow some = omega (arith, few, whole, narrow)

-- they are over enough columns
pub kept_wide : (g : Gauge) (variables : ℕ) (context rows kept : List Row) → AreRowsOver g (variables + 1) rows
    → IsNeeded (variables + 1) context rows kept → All (λ (r : Row). variables ≤ length r.coefs) kept
kept_wide g variables context rows kept over needed =
    All-weaker (IsWellFormed (variables + 1)) (λ (r : Row). variables ≤ length r.coefs) (λ r f. let w = f.width in omega (arith, w)) kept
    (over_some g (variables + 1) rows kept needed.each over).formed

pub all_asked : (variables : ℕ) (context inside rows asked : List Row) → asked ≡ rows → AreAsked variables context inside rows asked
all_asked variables context inside rows asked e = rw e (record {
  each = λ k d l. Contains-get_or rows k d l;
  points = λ point x long here turn holds. holds;
})

-- ---- where a nest's loop has no turn
-- nothing is called at the point, and there is no turn
pub record IsStillAt (tree : Loop) (point : List ℤ) : Type 0 where
  pub calls : trace tree point ≡ []
  pub turned : turns_of tree point ≡ 0
  pub idle : idle_of tree point ≡ 0

pub first_in : (x : ℤ) (xs : List ℤ) → Contains (x ∷ xs) x
first_in x xs = Contains-append_left (x ∷ []) xs x (Contains-push [] x)

-- the rows inside hold behind the point at some number, or nothing is done there
turn_or_still : (item : ItemView) (left : ℕ) (place : Place) (nested : Nested) → IsNest item left place nested → (point : List ℤ)
    → length point ≡ place.variables → ((x : ℤ) × HoldRows nested.inside (point ++ x ∷ [])) ⊎ IsStillAt nested.tree point
turn_or_still item zero place nested nest point long = inl (
  pos 0,
  subst (λ (rs : List Row). HoldRows rs (point ++ pos 0 ∷ [])) (sym nest.1) (All-nil (λ r. HoldsRow r (point ++ pos 0 ∷ []))),
)
turn_or_still item (suc left) place nested (inl s) point long =
    turn_or_still item left (with_entry place s.0 s.1) (record { rows = s.2; tree = nested.tree; inside = nested.inside }) s.5 point long
turn_or_still item (suc left) place nested (inr s) point long = by (s.0 point) refl
  where
    no_more : (n : ℕ) → n ≤ 0 → n ≡ 0
    no_more n few = omega (arith, few)

    by : (xs : List ℤ) → s.0 point ≡ xs
        → ((x : ℤ) × HoldRows nested.inside (point ++ x ∷ [])) ⊎ IsStillAt nested.tree point
    by [] none = inr (record {
      calls = s.5.none point none;
      turned = no_more (turns_of nested.tree point)
          (subst (λ (xs : List ℤ). turns_of nested.tree point ≤ sum_by (λ x. turns_at_turn (s.1 ++ s.2.rows) s.2.tree (point ++ x ∷ [])) xs)
          none (s.5.turned point long));
      idle = no_more (idle_of nested.tree point)
          (subst (λ (xs : List ℤ). idle_of nested.tree point ≤ sum_by (λ x. idle_at_turn (s.1 ++ s.2.rows) s.2.tree (point ++ x ∷ [])) xs)
          none (s.5.idle point long));
    })
    by (x ∷ xs) some = inl (x, s.3.known point x long (subst (λ (ys : List ℤ). Contains ys x) (sym some) (first_in x xs)))

chosen : {X : Type 0} (a b : Bool) (v w : X) → (b ≡ true → a ≡ true) → ((a ≡ true → b ≡ true) ⊎ (v ≡ w))
    → (if a then v else w) ≡ (if b then v else w)
chosen true true v w back on = refl
chosen false false v w back on = refl
chosen true false v w back (inl on) = absurd (false≢true (on refl))
chosen true false v w back (inr same) = same
chosen false true v w back on = absurd (false≢true (back refl))

-- ---- the rows that are asked, and all rows
module _ (item : ItemView) (left : ℕ) (place : Place) (rows asked : List Row) (nested : Nested)
    (is : AreAsked place.variables place.context nested.inside (rows ++ nested.rows) asked)
    (nest : IsNest item left (with_context place rows) nested) (formed : All (IsWellFormed place.variables) (rows ++ nested.rows)) where
  module _ (point : List ℤ) (stands : Stands place point) where
    all_tell : (rows_hold (rows ++ nested.rows) point ≡ true → HoldRows (rows ++ nested.rows) point)
        × (HoldRows (rows ++ nested.rows) point → rows_hold (rows ++ nested.rows) point ≡ true)
    all_tell = rows_tell (rows ++ nested.rows) point (λ k d l. (formed k d l).modulus)

    asked_tell : (rows_hold asked point ≡ true → HoldRows asked point) × (HoldRows asked point → rows_hold asked point ≡ true)
    asked_tell = rows_tell asked point
        (λ k d l. (kept_have (IsWellFormed place.variables) (rows ++ nested.rows) asked is.each formed k d l).modulus)

    back : rows_hold (rows ++ nested.rows) point ≡ true → rows_hold asked point ≡ true
    back e = asked_tell.1 (kept_have (λ r. HoldsRow r point) (rows ++ nested.rows) asked is.each (all_tell.0 e))

    -- where nothing is done they need not come to the same
    pub asked_same : {X : Type 0} (v w : X) → (IsStillAt nested.tree point → v ≡ w)
        → (if rows_hold asked point then v else w) ≡ (if rows_hold (rows ++ nested.rows) point then v else w)
    asked_same v w still =
        chosen (rows_hold asked point) (rows_hold (rows ++ nested.rows) point) v w back
        (by (turn_or_still item left (with_context place rows) nested nest point stands.width))
      where
        by : ((x : ℤ) × HoldRows nested.inside (point ++ x ∷ [])) ⊎ IsStillAt nested.tree point
            → (rows_hold asked point ≡ true → rows_hold (rows ++ nested.rows) point ≡ true) ⊎ (v ≡ w)
        by (inl t) = inl (λ e. all_tell.1 (is.points point t.0 stands.width stands.context t.1 (asked_tell.0 e)))
        by (inr s) = inr (still s)
