use Rattle.std.proofs.Common.{refl, length}
use Rattle.std.proofs.lemmas.Result.{IfOk-weaker}
use Rattle.isl_tree.specs.Literal.{piece_entries}
use Rattle.isl_lower.specs.Entries.{EntriesAt, HoldsWith}
use Rattle.isl_lower.specs.Tuples.{IsTuplesSystem}
use Rattle.isl_lower.proofs.EntryLaws.{ready_new, tuples_made}
use Rattle.isl_lower.proofs.system.tuples_system.Goals as goal

pub with_tuples-requires : goal.with_tuples-requires
with_tuples-requires c =
    ready_new c.args.meter.now c.args.params.now c.args.piece.now c.args.scope.now c.requires.scope c.requires.formed c.new-system.result
    c.len.result c.len.ensures c.new-system.ensures (length c.args.params.now) refl

pub returns-clause-system : goal.returns-clause-system
returns-clause-system c =
    IfOk-weaker c.with_tuples.result
    (λ new. HoldsWith c.args.meter.now c.args.scope.now c.new-system.result new (EntriesAt (piece_entries c.args.piece.now) (length c.args.params.now)))
    (IsTuplesSystem c.args.meter.now c.args.params.now c.args.piece.now)
    (tuples_made c.args.meter.now c.args.params.now c.args.piece.now c.args.scope.now c.requires.scope c.requires.formed c.new-system.result
    c.len.result c.len.ensures c.new-system.ensures (length c.args.params.now) refl)
    c.with_tuples.ensures.system
