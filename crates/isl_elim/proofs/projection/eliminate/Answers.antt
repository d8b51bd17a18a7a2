use Rattle.std.proofs.Common.{◌∷◌, [], ◌*◌, refl, arith, Vec, Global}
use Rattle.isl_ledger.specs.Work.{AreOfSize, drop_size}
use Rattle.isl_ledger.proofs.AnsweredLaws.{tame_more}
use Rattle.isl_ledger.proofs.SizeLaws.{has_size, one_system}
use Rattle.isl_piece.specs.declared.system.System.{System}
use Rattle.isl_elim.specs.Elimination.{IsProjection, IsProjectionAlong}
use Rattle.isl_elim.proofs.ProjectionLaws.{along_one, if_ok}
use Rattle.isl_elim.proofs.projection.eliminate.Goals as goal

pub returns-clause-projection : goal.returns-clause-projection
returns-clause-projection c =
    let s = c.args.system.now in
    let col = c.args.col in
    if_ok (λ (systems : Vec System Global). IsProjectionAlong s (col ∷ []) systems.items) (λ (systems : Vec System Global). IsProjection s col systems.items) c.eliminate_all.result
    (λ systems p. along_one s col systems.items c.requires.col_in p) c.eliminate_all.ensures.projection

pub returns-clause-exact_column : goal.returns-clause-exact_column
returns-clause-exact_column c = λ none exact no. c.eliminate_all.ensures.exact_column c.args.col refl none exact no

pub returns-clause-solved_column : goal.returns-clause-solved_column
returns-clause-solved_column c = λ none equality. c.eliminate_all.ensures.solved_column c.args.col refl none equality

pub returns-clause-tame : goal.returns-clause-tame
returns-clause-tame c = λ size full room of.
    tame_more (1 * (size.columns * size.columns)) (size.columns * size.columns) c.args.meter.now c.eliminate_all.new.meter
    (λ (systems : Vec System Global). AreOfSize (drop_size 1 size) systems.items) (λ (systems : Vec System Global). AreOfSize (drop_size 1 size) systems.items)
    c.eliminate_all.result (omega arith) (λ systems a. a) (c.eliminate_all.ensures.tame size full room (has_size size c.args.system.now of)
    (λ one. (one_system size c.args.system.now of).normal))
