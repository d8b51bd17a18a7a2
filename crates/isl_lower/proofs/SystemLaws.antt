-- The systems that a piece of a literal writes.
use Rattle.std.proofs.Common.{◌≡◌, ◌↔◌, ◌∙◌, sym, ap, subst, ℕ, ◌+◌, ℤ, pos, ◌<ℤ◌, true, List, [], ◌∷◌, ◌++◌}
use Rattle.std.proofs.Common.{length, Option, Some, None, arith}
use Rattle.std.specs.Prelude.{IfOk, Result, Ok, Err}
use Rattle.std.specs.List.{All}
use Rattle.std.proofs.lemmas.List.{length-append, length-map}
use Rattle.std.proofs.lemmas.List.Elements.{All-cons, All-nil}
use Rattle.isl_math.proofs.ListLaws.{All-parts, Any-first, Any-one}
use Rattle.isl_meter.specs.Gauge.{Gauge}
use Rattle.isl_space.specs.Names.{IsParameterList}
use Rattle.isl_space.specs.SpaceForm.{IsWellFormedSpace}
use Rattle.isl_space.specs.Valuation.{value_at, values_of}
use Rattle.isl_piece.specs.declared.system.System.{System}
use Rattle.isl_piece.specs.System.{HoldsSystem, IsSystemWithin, free_columns}
use Rattle.isl_elim.specs.Elimination.{HoldsAtAny}
use Rattle.isl_tree.specs.declared.tree.Entry.{Entry}
use Rattle.isl_tree.specs.declared.tree.Formula.{Formula}
use Rattle.isl_tree.specs.declared.tree.PieceTree.{PieceTree}
use Rattle.isl_tree.specs.Environment.{Environment}
use Rattle.isl_tree.specs.Divisors.{ArePositive, HasDivisors, term_divisors, entries_divisors, body_divisors, piece_divisors}
use Rattle.isl_tree.specs.Formula.{FormulaHolds}
use Rattle.isl_tree.specs.Known.{entries_are_known, known_behind, body_is_known, piece_is_known}
use Rattle.isl_tree.specs.Literal.{entry_term, piece_entries, piece_environment, space_of_piece, BodyHolds}
use Rattle.isl_affine.specs.Scope.{IsNumbered}
use Rattle.isl_alternatives.specs.Known.{IsFormulaKnown}
use Rattle.isl_lower.specs.Names.{piece_names}
use Rattle.isl_lower.specs.Tuples.{AreFormed, IsTuplesSystem}
use Rattle.isl_lower.proofs.WidthLaws.{coordinates_are}
use Rattle.isl_lower.proofs.PointLaws.{piece_knows, piece_numbered}
use Rattle.isl_plain.proofs.TermLaws.{both_true}
use Rattle.isl_lower.specs.Made.{AreSystemsOf}

each_divides : (entries : List Entry) → ArePositive (entries_divisors entries) → All (λ entry. HasDivisors (entry_term entry)) entries
each_divides [] all = All-nil (λ (entry : Entry). HasDivisors (entry_term entry))
each_divides (entry ∷ entries) all =
    let parts = All-parts (λ k. pos 0 <ℤ k) (term_divisors (entry_term entry)) (entries_divisors entries) all in
    All-cons (λ (e : Entry). HasDivisors (entry_term e)) entry entries parts.0 (each_divides entries parts.1)

-- what two facts of a result give
pub both_ok : {A E : Type 0} (r : Result A E) (P Q R : A → Type 0) → ((x : A) → P x → Q x → R x) → IfOk r P → IfOk r Q → IfOk r R
both_ok (Ok x) P Q R f p q = f x p q
both_ok (Err e) P Q R f p q = tt

module _ (params : List (List ℕ)) (piece : PieceTree) (known : piece_is_known params piece ≡ true)
    (positive : ArePositive (piece_divisors piece)) where
  knowns : (entries_are_known params (piece_entries piece) ≡ true) × (body_is_known (known_behind params (piece_entries piece)) piece.body ≡ true)
  knowns = both_true (entries_are_known params (piece_entries piece)) (body_is_known (known_behind params (piece_entries piece)) piece.body) known

  divided : ArePositive (entries_divisors (piece_entries piece)) × ArePositive (body_divisors piece.body)
  divided = All-parts (λ k. pos 0 <ℤ k) (entries_divisors (piece_entries piece)) (body_divisors piece.body) positive

  pub entries_formed : IsParameterList params → IsWellFormedSpace (space_of_piece piece) → AreFormed params piece
  entries_formed names space =
      let wide = coordinates_are piece in
      let narrow = space.narrow.coordinates in record {
        few = names.few;
        narrow = omega (arith, wide, narrow);
        known = knowns.0;
        divisors = each_divides (piece_entries piece) divided.0;
      }

  pub formula_known : (formula : Formula) → piece.body ≡ Some formula → IsFormulaKnown (piece_names params piece) formula
  formula_known formula is = record {
    known = known_behind params (piece_entries piece);
    all = piece_knows params piece;
    names = sym (ap (body_is_known (known_behind params (piece_entries piece))) is) ∙ knowns.1;
    divisors = subst (λ (o : Option Formula). ArePositive (body_divisors o)) is divided.1;
  }

module _ (g : Gauge) (params : List (List ℕ)) (piece : PieceTree) (s : System) (tuples : IsTuplesSystem g params piece s) where
  -- without a formula
  pub alone_systems : (systems : List System) → piece.body ≡ None → systems ≡ s ∷ [] → AreSystemsOf g params piece systems
  alone_systems systems none is = rw is (record {
    columns = All-cons (λ (t : System). free_columns t ≡ length params + length (piece_entries piece)) s [] tuples.columns
        (All-nil (λ (t : System). free_columns t ≡ length params + length (piece_entries piece)));
    within = All-cons (IsSystemWithin g) s [] tuples.within (All-nil (IsSystemWithin g));
    points = λ valuation xs long.
        let here = tuples.points valuation xs long in
        let point = values_of params valuation ++ xs in
        let env = piece_environment params piece xs valuation in (
          (λ any. (here.0 (Any-one (λ t. HoldsSystem t point) s any), subst (λ (o : Option Formula). BodyHolds o env) (sym none) tt)),
          (λ h. Any-first (λ t. HoldsSystem t point) s [] (here.1 h.0)),
        );
  })

  -- with one
  pub formula_systems : (systems : List System) (formula : Formula) → piece.body ≡ Some formula
      → All (λ t. IsSystemWithin g t × (free_columns t ≡ free_columns s)) systems
      → ((point : List ℤ) (env : Environment) → length point ≡ free_columns s → IsNumbered (piece_names params piece) point env
      → HoldsAtAny systems point ↔ (HoldsSystem s point × FormulaHolds formula env))
      → AreSystemsOf g params piece systems
  formula_systems systems formula some within holds = record {
    columns = λ k d low. (within k d low).1 ∙ tuples.columns;
    within = λ k d low. (within k d low).0;
    points = λ valuation xs long.
        let point = values_of params valuation ++ xs in
        let env = piece_environment params piece xs valuation in
        let sized : length point ≡ free_columns s =
        (let a = length-append (values_of params valuation) xs in let b = length-map params (value_at valuation) in
        let c = tuples.columns in omega (arith, a, b, c, long)) in
        let here = tuples.points valuation xs long in
        let both = holds point env sized (piece_numbered params piece valuation xs long) in (
          (λ any. let h = both.0 any in (here.0 h.0, subst (λ (o : Option Formula). BodyHolds o env) (sym some) h.1)),
          (λ h. both.1 (here.1 h.0, subst (λ (o : Option Formula). BodyHolds o env) some h.1)),
        );
  }
