use Rattle.std.proofs.Common.{◌≡◌, ◌+◌, ◌<◌, length, get_or, false, true, [], pos, refl, arith, to_z, of_z, to_z-of_z}
use Rattle.std.specs.Int.{w128}
use Rattle.std.proofs.lemmas.Grind.{common_steps}
use Rattle.isl_piece.specs.declared.definition.Definition.{Definition}
use Rattle.isl_piece.specs.System.{free_columns}
use Rattle.isl_elim.specs.Dependents.{narrowed, with_dependents}
use Rattle.isl_elim.specs.Elimination.{without}
use Rattle.isl_elim.proofs.OthersLaws.{among}
use Rattle.isl_elim.proofs.LeftLaws.{modulus_at, left_gone, left_with}
use Rattle.isl_elim.proofs.dependents.columns_left.Goals as goal

pub define-requires-clause-modulus : goal.define-requires-clause-modulus
define-requires-clause-modulus c =
    let s = c.args.system.now in
    let d = c.index-definitions-i.result in
    let inside : c.loop-i.i < length s.definitions = grind arith in
    let at : d ≡ get_or s.definitions c.loop-i.i d = grind arith in
    let back : to_z w128 (of_z w128 d.k) ≡ d.k = grind (arith, common_steps, to_z-of_z) in
    rw back (modulus_at c.args._meter.now s c.loop-i.i d c.requires.well_formed inside at)

pub loop-i-preserved : goal.loop-i-preserved
loop-i-preserved c =
    let g = c.args._meter.now in
    let s = c.args.system.now in
    let cols = c.args.cols.now in
    let i = c.loop-i.i in
    let d = c.index-definitions-i.result in
    let coefs = c.as_slice-in-loop-i.result.now in
    let e : Definition = record { coefs = coefs; constant = to_z w128 (of_z w128 d.constant); k = to_z w128 (of_z w128 d.k) } in
    let inside : i < length s.definitions = grind arith in
    let at : d ≡ get_or s.definitions i d = grind arith in
    let gone : c.args.gone.now ≡ with_dependents s cols = c.requires.gone in
    let no : among (free_columns s + i) c.args.gone.now ≡ false = grind arith in
    let k : to_z w128 (of_z w128 d.k) ≡ d.k = grind (arith, common_steps, to_z-of_z) in
    let constant : to_z w128 (of_z w128 d.constant) ≡ d.constant = grind (arith, common_steps, to_z-of_z) in
    let short : coefs ≡ without c.args.gone.now d.coefs = grind arith in
    let is : e ≡ narrowed (with_dependents s cols) d = rw (k, constant, short, gone) refl in
    left_with g s cols i d e c.loop-i.left c.define.new.self c.requires.well_formed inside (rw gone at no) c.loop-i.invariant at is c.in_ok-define.ensures.exact (λ a b f. c.in_ok-define.ensures.within g c.loop-i.invariant.within a b f)

pub loop-i-preserved-then-is_among : goal.loop-i-preserved-then-is_among
loop-i-preserved-then-is_among c =
    let s = c.args.system.now in
    let cols = c.args.cols.now in
    let i = c.loop-i.i in
    let inside : i < length s.definitions = grind arith in
    let gone : c.args.gone.now ≡ with_dependents s cols = c.requires.gone in
    let yes : among (free_columns s + i) c.args.gone.now ≡ true = grind arith in
    left_gone c.args._meter.now s cols i (record { coefs = []; constant = pos 0; k = pos 1 }) c.loop-i.left inside (rw gone at yes) c.loop-i.invariant
