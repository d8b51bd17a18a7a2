-- One column out of a system, by an equation that has it with 1 or -1.
use Rattle.std.proofs.Common.{◌≡◌, ◌≢◌, ◌<◌, ◌≤◌, ◌-◌, refl, ap, subst, ◌∙◌, arith, true, ℕ, ℤ, pos, List, [], ◌∷◌, ◌++◌, length}
use Rattle.std.proofs.Common.{length-append, get_or, map, Option, Some, None}
use Rattle.std.specs.Prelude.{IfSome, MatchOption, option_to_list, unsigned_abs}
use Rattle.std.specs.List.{All}
use Rattle.std.proofs.lemmas.List.{nil_from_length}
use Rattle.std.proofs.lemmas.List.Elements.{All-head}
use Rattle.isl_math.proofs.ListLaws.{All-last}
use Rattle.isl_meter.specs.Gauge.{Gauge}
use Rattle.isl_omega.specs.Equality.{HasEquality}
use Rattle.isl_piece.specs.declared.row.Row.{Row}
use Rattle.isl_piece.specs.declared.row.RowKind.TheVariants.{Zero}
use Rattle.isl_piece.specs.declared.system.System.{System}
use Rattle.isl_piece.specs.System.{IsSystemWithin, free_columns}
use Rattle.isl_shadows.specs.Solved.{solved_rows}
use Rattle.isl_elim.specs.Dependents.{dependents, kept_definitions}
use Rattle.isl_elim.specs.Elimination.{system_of, IsProjection}
use Rattle.isl_elim.proofs.OthersLaws.{among, among_at}
use Rattle.isl_quotient.specs.declared.solved.Given.{Given}
use Rattle.isl_quotient.specs.Given.{IsGivenBy}
use Rattle.isl_quotient.specs.Quotient.{short_definition, IsUndefining}
use Rattle.isl_quotient.specs.Turned.{IsTurned}
use Rattle.isl_quotient.proofs.TurnLaws.{same_read}
use Rattle.isl_quotient.proofs.UnitLaws.{no_dependents, kept_short, solved_undefining}

pub given_among : (rows : List Row) (cols : List ℕ) (given : Given) → IsGivenBy rows cols given → among given.col cols ≡ true
given_among rows cols given h = subst (λ (c : ℕ). among c cols ≡ true) h.column (among_at cols h.index h.among)

pub given_low : (n : ℕ) (rows : List Row) (cols : List ℕ) (given : Given) → All (λ c. c < n) cols → IsGivenBy rows cols given
    → given.col < n
given_low n rows cols given low h = subst (λ (c : ℕ). c < n) h.column (low h.index 0 h.among)

unit_nonzero : (c : ℤ) → unsigned_abs c ≡ 1 → c ≢ pos 0
unit_nonzero c u e = let v = rw e at u in omega (arith, v)

pub given_equality : (rows : List Row) (cols : List ℕ) (given : Given) → IsGivenBy rows cols given → HasEquality given.col rows
given_equality rows cols given h =
    let none : Row = record { kind = Zero; coefs = []; constant = pos 0; k = pos 1 } in
    let one = get_or rows given.at none in
    let unit = h.unit none in
    (given.at, one, h.place, same_read rows given.at one none h.place, (unit.0, unit_nonzero (get_or one.coefs given.col (pos 0)) unit.1))

-- ---- at most one system
few_made : {A B : Type 0} (f : A → B) (o : Option A) → length (map f (option_to_list o)) ≤ 1
few_made f None = omega arith
few_made f (Some a) = omega arith

module _ (g : Gauge) (s : System) (cols : List ℕ) (given : Given) (within : IsSystemWithin g s) (low : All (λ c. c < free_columns s) cols)
    (undefining : All (λ c. IsUndefining c s.definitions) cols) (is : IsGivenBy s.rows cols given) where
  undefined : IsUndefining given.col s.definitions
  undefined = subst (λ (c : ℕ). IsUndefining c s.definitions) is.column (undefining is.index 0 is.among)

  pub solved_few : (systems : List System)
      → (dependents s (given.col ∷ []) ≡ [] → HasEquality given.col s.rows
      → systems ≡ map (system_of (s.columns - 1) (kept_definitions s (given.col ∷ []))) (option_to_list (solved_rows s.rows given.col)))
      → length systems ≤ 1
  solved_few systems h =
      let are = h (no_dependents s given.col undefined) (given_equality s.rows cols given is) in
      let few = few_made (system_of (s.columns - 1) (kept_definitions s (given.col ∷ []))) (solved_rows s.rows given.col) in
      let count = ap (λ (l : List System). length l) are in
      omega (arith, count, few)

  solved_is : (t : System) → IsProjection s given.col (t ∷ []) → All (IsSystemWithin g) (t ∷ [])
      → All (λ u. u.definitions ≡ kept_definitions s (given.col ∷ [])) (t ∷ []) → IsTurned g s cols given.col t
  solved_is t one all definitions =
      let are : t.definitions ≡ map (short_definition given.col) s.definitions =
      All-head (λ (u : System). u.definitions ≡ kept_definitions s (given.col ∷ [])) t [] definitions
      ∙ kept_short g s given.col within (given_low (free_columns s) s.rows cols given low is) undefined in
      record {
        projection = one;
        within = All-head (IsSystemWithin g) t [] all;
        free = All-head (λ (u : System). free_columns u ≡ free_columns s - 1) t [] one.columns;
        undefining = rw are (solved_undefining given.col cols s.definitions undefining);
      }

  pub solved_left : (systems left : List System) (popped : Option System) → length systems ≤ 1 → systems ≡ left ++ option_to_list popped
      → (popped ≡ None → length systems ≡ 0) → IsProjection s given.col systems → All (IsSystemWithin g) systems
      → All (λ u. u.definitions ≡ kept_definitions s (given.col ∷ [])) systems
      → MatchOption popped (IsProjection s given.col []) (IsTurned g s cols given.col)
  solved_left systems left None few items none one all definitions =
      subst (IsProjection s given.col) (nil_from_length systems (none refl)) one
  solved_left systems left (Some t) few items none one all definitions =
      let count = ap (λ (l : List System). length l) items in
      let sum = length-append left (t ∷ []) in
      let first : left ≡ [] = nil_from_length left (omega (arith, few, count, sum)) in
      let are : systems ≡ t ∷ [] = items ∙ ap (λ (l : List System). l ++ t ∷ []) first in
      solved_is t (subst (IsProjection s given.col) are one) (subst (All (IsSystemWithin g)) are all)
      (subst (All (λ u. u.definitions ≡ kept_definitions s (given.col ∷ []))) are definitions)

  pub solved_plain : (systems left : List System) (popped : Option System) → systems ≡ left ++ option_to_list popped
      → All (λ u. u.definitions ≡ kept_definitions s (given.col ∷ [])) systems → s.definitions ≡ []
      → IfSome popped (λ u. u.definitions ≡ [])
  solved_plain systems left None items definitions none = tt
  solved_plain systems left (Some t) items definitions none =
      let P : System → Type 0 = λ u. u.definitions ≡ kept_definitions s (given.col ∷ []) in
      (All-last P left t (subst (All P) items definitions)).1
      ∙ kept_short g s given.col within (given_low (free_columns s) s.rows cols given low is) undefined
      ∙ ap (map (short_definition given.col)) none

pub ruleset solved_steps = (given_low)
