-- What is left of a system once its defined columns are free, and taken out.
use Rattle.std.proofs.Common.{◌≡◌, ◌↔◌, refl, sym, ap, ap₂, subst, ◌∙◌, arith, true, ℕ, suc, ◌+◌, ◌-◌, ◌<◌, ◌≤◌, ℤ, List, [], ◌∷◌, ◌++◌}
use Rattle.std.proofs.Common.{length, map, take, drop}
use Rattle.std.proofs.Common.{Option, Some, None, option_map, option_to_list, IfSome, take-append-drop}
use Rattle.std.specs.Prelude.{MatchOption}
use Rattle.std.specs.List.{All, range_with_len}
use Rattle.std.proofs.lemmas.List.{take_at}
use Rattle.std.proofs.lemmas.List.Elements.{All-nil, All-cons}
use Rattle.std.proofs.lemmas.List.FromFn.{length-range_with_len}
use Rattle.isl_math.proofs.ListLaws.{Any-first, Any-none, Any-one}
use Rattle.isl_meter.specs.Gauge.{Gauge}
use Rattle.isl_piece.specs.declared.row.Row.{Row}
use Rattle.isl_piece.specs.declared.definition.Definition.{Definition}
use Rattle.isl_piece.specs.declared.system.System.{System}
use Rattle.isl_piece.specs.Normal.{IsNormal, normal_rows, normal_system}
use Rattle.isl_piece.specs.System.{HoldRows, HoldsSystem, IsSystemWithin, free_columns}
use Rattle.isl_omega.specs.Column.{IsProper}
use Rattle.isl_elim.specs.Elimination.{AddsAlong, HoldsAtAny, system_of, without}
use Rattle.isl_elim.specs.Flatten.{IsFlattening}
use Rattle.isl_elim.specs.Opened.{definition_rows, only_from, opened_rows}
use Rattle.isl_elim.proofs.DefiningLaws.{all_opened, all_opened_at, defined_numbers, front_length}
use Rattle.isl_elim.proofs.OthersLaws.{among}
use Rattle.isl_elim.proofs.ProjectionLaws.{all_mapped, plain_free, systems_hold}
use Rattle.isl_elim.proofs.RangeLaws.{among_inside, without_behind}

-- ---- a system that is made normal
-- what holds of the normal form, where there is one, holds of each of the systems
pub normal_all : (P : System → Type 0) (o : Option System) (systems : List System) → systems ≡ option_to_list o → IfSome o P → All P systems
normal_all P None systems e h = rw e (All-nil P)
normal_all P (Some s) systems e h = rw e (All-cons P s [] h (All-nil P))

pub normal_points : (s : System) (o : Option System) (systems : List System) → systems ≡ option_to_list o
    → ((point : List ℤ) → MatchOption o (¬ HoldsSystem s point) (λ kept. HoldsSystem kept point ↔ HoldsSystem s point))
    → (point : List ℤ) → HoldsAtAny systems point ↔ HoldsSystem s point
normal_points s None systems e h point =
    rw e ((λ a. absurd (Any-none (λ t. HoldsSystem t point) a)), (λ k. absurd (h point k)))
normal_points s (Some t) systems e h point = rw e (
  (λ a. (h point).0 (Any-one (λ u. HoldsSystem u point) t a)),
  (λ k. Any-first (λ u. HoldsSystem u point) t [] ((h point).1 k)),
)

pub normal_flat : (s : System) (systems : List System) → s.definitions ≡ [] → systems ≡ option_to_list (normal_system s)
    → ((point : List ℤ) → HoldsAtAny systems point ↔ HoldsSystem s point) → IsFlattening s systems
normal_flat s systems none e points = record {
  columns = by (λ t. t.columns ≡ free_columns s) (λ rows. sym (plain_free s none));
  definitions = by (λ t. t.definitions ≡ []) (λ rows. none);
  points = λ point l. points point;
}
  where
    made : List Row → System
    made = system_of s.columns s.definitions

    by : (P : System → Type 0) → ((rows : List Row) → P (system_of s.columns s.definitions rows)) → All P systems
    by P f = rw e (each (normal_rows s.rows))
      where
        each : (o : Option (List Row)) → All P (option_to_list (option_map (system_of s.columns s.definitions) o))
        each None = All-nil P
        each (Some rows) = All-cons P (system_of s.columns s.definitions rows) [] (f rows) (All-nil P)

pub one_at_most : (o : Option System) (systems : List System) (m n : ℕ) → systems ≡ option_to_list o → n ≡ m → m + length systems ≤ n + 1
one_at_most None systems m n e same = rw e (omega (arith, same))
one_at_most (Some s) systems m n e same = rw e (omega (arith, same))

-- ---- defined columns that are taken out
only_all : (i : ℕ) (cols : List ℕ) (ds : List Definition) → ((j : ℕ) → i ≤ j → j < i + length ds → among j cols ≡ true)
    → only_from i cols ds ≡ ds
only_all i cols [] h = refl
only_all i cols (d ∷ ds) h =
    rw (h i (omega arith) (omega arith)) (ap (λ es. d ∷ es) (only_all (suc i) cols ds (λ j l m. h j (omega arith) (omega arith))))

-- the columns of the definitions
abbrev pub defined_columns : System → List ℕ
defined_columns s = range_with_len (free_columns s) (length s.definitions)

pub gone_columns : (s : System) (gone : List ℕ) (free : ℕ) → length s.definitions ≤ s.columns → free ≡ free_columns s
    → gone ≡ range_with_len free (s.columns - free) → gone ≡ defined_columns s
gone_columns s gone free count is e = e ∙ ap₂ range_with_len is (omega (arith, count, is))

-- each definition is opened
all_rows : (s : System) → opened_rows s (defined_columns s) ≡ s.rows ++ definition_rows s.columns s.definitions
all_rows s =
    ap (λ ds. s.rows ++ definition_rows s.columns ds)
    (only_all (free_columns s) (defined_columns s) s.definitions (λ j l m. among_inside j (free_columns s) (length s.definitions) l m))

-- a point of all columns without the defined ones
left_front : (s : System) (whole : List ℤ) → length s.definitions ≤ s.columns → length whole ≡ s.columns
    → without (defined_columns s) whole ≡ take (free_columns s) whole
left_front s whole c l =
    let a = take (free_columns s) whole in
    let m = drop (free_columns s) whole in
    let long = front_length s whole c l in
    ap₂ (λ i n. without (range_with_len i n) whole) (sym long.0) (sym long.1)
    ∙ ap (without (range_with_len (length a) (length m))) (sym (take-append-drop (free_columns s) whole)) ∙ without_behind a m

pub record AreFlat (g : Gauge) (s : System) (systems : List System) : Type 0 where
  pub flat : IsFlattening s systems
  pub within : All (IsSystemWithin g) systems
  pub normal : All (λ t. IsNormal t.rows) systems

pub systems_flat : (g : Gauge) (s : System) (gone : List ℕ) (lists : List (List Row)) (systems : List System) → IsSystemWithin g s
    → gone ≡ defined_columns s → AddsAlong g s.columns gone (HoldRows (opened_rows s gone)) [] lists
    → systems ≡ map (system_of (free_columns s) []) lists → AreFlat g s systems
systems_flat g s gone lists systems w e added is = rw is (record {
  flat = record {
    columns = all_mapped (λ t. t.columns ≡ free_columns s) (system_of (free_columns s) []) lists (λ n z l. refl);
    definitions = all_mapped (λ t. t.definitions ≡ []) (system_of (free_columns s) []) lists (λ n z l. refl);
    points = λ point l.
        let hold = systems_hold (free_columns s) [] lists point in
        let own = a.points point (omega (arith, l, count)) in (
          (λ h.
              let k = own.0 (rw whole at (hold.0 h)) in
              let front = sym (left_front s k.0 w.count k.1) ∙ k.2 in
              subst (HoldsSystem s) front (all_opened g s k.0 w k.1 (rw (all_rows s) at k.3))),
          (λ h.
              let full = point ++ defined_numbers s.definitions point in
              let k = all_opened_at g s point w l h in
              let front = left_front s full w.count k.0 ∙ take_at point (defined_numbers s.definitions point) (free_columns s) l in
              hold.1 (rw whole (own.1 (full, k.0, front, rw (all_rows s) k.1)))),
        );
  };
  within = all_mapped (IsSystemWithin g) (system_of (free_columns s) []) lists (λ n z l. record {
    rows = λ m r o. rw (← width) at ((proper n z l m r o).formed);
    within = λ m r o. (proper n z l m r o).within;
    count = omega arith;
    definitions = tt;
  });
  normal = all_mapped (λ t. IsNormal t.rows) (system_of (free_columns s) []) lists (rw whole a.normal);
})
  where
    a : AddsAlong g s.columns (defined_columns s) (HoldRows (opened_rows s (defined_columns s))) [] lists
    a = rw e at added

    whole : lists ≡ a.added
    whole = a.pushed

    count : length (defined_columns s) ≡ length s.definitions
    count = length-range_with_len (free_columns s) (length s.definitions)

    width : free_columns s ≡ s.columns - length (defined_columns s)
    width = omega (arith, count)

    proper : All (λ rows. All (IsProper g (s.columns - length (defined_columns s))) rows) lists
    proper = rw whole a.proper
