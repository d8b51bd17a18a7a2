use Rattle.std.proofs.Common.{arith, refl, sym, ap, subst, ℕ, ◌+◌}
use Rattle.std.proofs.lemmas.Result.{IfOk-weaker}
use Rattle.isl_meter.specs.Gauge.{Gauge}
use Rattle.isl_tree.specs.Literal.{entries_of, piece_entries, second_entries}
use Rattle.isl_lower.specs.Entries.{AreReady, EntriesAt, HoldsWith}
use Rattle.isl_lower.proofs.EntryLaws.{first-small, holds_append, ready_back, ready_front, second-fits}
use Rattle.isl_lower.proofs.system.with_tuples.Goals as goal

pub width-requires : goal.width-requires
width-requires c = first-small c.args.piece.now c.args.first c.requires.bounded

pub overflow_add-behind : goal.overflow_add-behind
overflow_add-behind c =
    let fits = second-fits c.args.piece.now c.args.first c.width.result c.width.ensures c.requires.bounded in omega (arith, fits)

pub with_tuple-requires : goal.with_tuple-requires
with_tuple-requires c =
    ready_front c.args.meter.now c.args.scope.now c.args.system c.args.first (entries_of c.args.piece.now.first)
    (second_entries c.args.piece.now.second) (piece_entries c.args.piece.now) refl c.requires

pub with_second-requires : goal.with_second-requires
with_second-requires c =
    let mid = c.in_ok-system.system in
    let behind = c.args.first + c.width.result in
    let held = c.in_ok-system.ensures.system in
    subst (λ (g : Gauge). AreReady g c.args.scope.now mid behind (second_entries c.args.piece.now.second)) (sym c.in_ok-system.ensures.meter)
    (ready_back c.args.meter.now c.args.scope.now c.args.system mid c.args.first behind (entries_of c.args.piece.now.first)
    (second_entries c.args.piece.now.second) (piece_entries c.args.piece.now) refl (ap (λ (n : ℕ). c.args.first + n) c.width.ensures)
    held.within held.free c.requires)

pub returns-clause-system : goal.returns-clause-system
returns-clause-system c =
    let g = c.args.meter.now in
    let scope = c.args.scope.now in
    let mid = c.in_ok-system.system in
    let behind = c.args.first + c.width.result in
    let es = entries_of c.args.piece.now.first in
    let fs = second_entries c.args.piece.now.second in
    IfOk-weaker c.with_second.result (λ new. HoldsWith c.with_tuple.new.meter scope mid new (EntriesAt fs behind))
    (λ new. HoldsWith g scope c.args.system new (EntriesAt (piece_entries c.args.piece.now) c.args.first))
    (λ new two. holds_append g scope c.args.system mid new c.args.first behind es fs (piece_entries c.args.piece.now) refl
    (ap (λ (n : ℕ). c.args.first + n) c.width.ensures) c.in_ok-system.ensures.system
    (subst (λ (h : Gauge). HoldsWith h scope mid new (EntriesAt fs behind)) c.in_ok-system.ensures.meter two))
    c.with_second.ensures.system
