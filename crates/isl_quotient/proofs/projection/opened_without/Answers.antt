use Rattle.std.proofs.Common.{◌≡◌, ◌++◌, arith, length}
use Rattle.std.specs.List.{range_with_len}
use Rattle.std.proofs.lemmas.Result.{IfOk-weaker}
use Rattle.isl_piece.specs.System.{IsSystemWithin, free_columns}
use Rattle.isl_elim.specs.Elimination.{IsProjectionAlong}
use Rattle.isl_quotient.specs.Opened.{opened_system}
use Rattle.isl_quotient.proofs.OpenedLaws.{opened_projects}
use Rattle.isl_quotient.proofs.OpeningLaws.{all_columns, few_columns, opened_undefining}
use Rattle.isl_quotient.proofs.projection.opened_without.Goals as goal

pub solved_without-requires : goal.solved_without-requires
solved_without-requires c =
    let g = c.args.meter.now in
    let s = c.args.system.now in
    let cols = c.args.cols.now in
    let whole : c.in_ok-whole.whole ≡ opened_system s = grind arith in
    let same : c.opened.new.meter ≡ g = grind arith in
    let within : IsSystemWithin g c.in_ok-whole.whole = grind arith in
    let all : c.as_slice.result.now ≡ cols ++ range_with_len (free_columns s) (length s.definitions) = grind arith in
    let columns =
    all_columns g s c.in_ok-whole.whole cols c.as_slice.result.now c.requires.well_formed whole all c.requires.distinct
    c.requires.cols_in in
    record {
      well_formed = rw same within;
      distinct = columns.0;
      cols_in = columns.1;
      undefining = opened_undefining s c.in_ok-whole.whole c.as_slice.result.now whole;
    }

pub returns-clause-projection : goal.returns-clause-projection
returns-clause-projection c =
    let g = c.args.meter.now in
    let s = c.args.system.now in
    let cols = c.args.cols.now in
    let whole : c.in_ok-whole.whole ≡ opened_system s = grind arith in
    let all : c.as_slice.result.now ≡ cols ++ range_with_len (free_columns s) (length s.definitions) = grind arith in
    let few = few_columns (free_columns s) cols c.requires.distinct c.requires.cols_in in
    let told = rw (all, whole) at c.solved_without.ensures.projection in
    IfOk-weaker c.solved_without.result _ (λ systems. IsProjectionAlong s cols systems.items)
    (λ systems p. opened_projects g s cols systems.items c.requires.well_formed p few) told
