use Rattle.std.proofs.Common.{◌≡◌, ◌↔◌, ◌∙◌, ap, sym, ℤ, List, All, length}
use Rattle.isl_piece.specs.System.{HoldsSystem, IsSystemWithin, free_columns}
use Rattle.isl_elim.specs.Elimination.{HoldsAtAny}
use Rattle.isl_tree.specs.Environment.{Environment}
use Rattle.isl_tree.specs.Formula.{FormulaHolds}
use Rattle.isl_affine.specs.Scope.{IsNumbered}
use Rattle.isl_lower.specs.Names.{piece_names}
use Rattle.isl_lower.proofs.NameLaws.{piece_names_length}
use Rattle.isl_lower.specs.Made.{AreSystemsOf}
use Rattle.isl_lower.proofs.SystemLaws.{alone_systems, both_ok, entries_formed, formula_known, formula_systems}
use Rattle.isl_lower.proofs.systems.systems_of.Goals as goal

pub tuples_system-requires-clause-formed : goal.tuples_system-requires-clause-formed
tuples_system-requires-clause-formed c =
    entries_formed c.args.params.now c.args.piece.now c.requires.known c.requires.divisors c.requires.parameters c.requires.well_formed

pub alternatives-requires-clause-within : goal.alternatives-requires-clause-within
alternatives-requires-clause-within c = rw c.in_ok-system.ensures.meter c.in_ok-system.ensures.system.within

pub alternatives-requires-clause-columns : goal.alternatives-requires-clause-columns
alternatives-requires-clause-columns c =
    ap length c.in_ok-scope.ensures ∙ piece_names_length c.args.params.now c.args.piece.now ∙ sym c.in_ok-system.ensures.system.columns

pub alternatives-requires-clause-known : goal.alternatives-requires-clause-known
alternatives-requires-clause-known c =
    rw c.in_ok-scope.ensures (formula_known c.args.params.now c.args.piece.now c.requires.known c.requires.divisors c.in-Some.formula c.in-Some.is)

pub returns-in-None-clause-systems : goal.returns-in-None-clause-systems
returns-in-None-clause-systems c =
    alone_systems c.args.meter.now c.args.params.now c.args.piece.now c.in_ok-system.system c.in_ok-system.ensures.system
    c.in_ok-alone-in-None.field-0.items c.in-None.is c.in_ok-alone-in-None.ensures

pub returns-clause-systems : goal.returns-clause-systems
returns-clause-systems c =
    let g = c.args.meter.now in
    let params = c.args.params.now in
    let piece = c.args.piece.now in
    let s = c.in_ok-system.system in
    let formula = c.in-Some.formula in
    both_ok c.alternatives.result (λ found. All (λ t. IsSystemWithin g t × (free_columns t ≡ free_columns s)) found.items)
    (λ found. (point : List ℤ) (env : Environment) → length point ≡ free_columns s → IsNumbered (piece_names params piece) point env
    → HoldsAtAny found.items point ↔ (HoldsSystem s point × FormulaHolds formula env))
    (λ found. AreSystemsOf g params piece found.items)
    (λ found within points. formula_systems g params piece s c.in_ok-system.ensures.system found.items formula c.in-Some.is within points)
    (rw c.in_ok-system.ensures.meter at c.alternatives.ensures.within) (rw c.in_ok-scope.ensures at c.alternatives.ensures.points)
