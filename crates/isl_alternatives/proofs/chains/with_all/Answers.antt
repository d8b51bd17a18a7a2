use Rattle.isl_meter.proofs.CutLemmas.{IsCharged_trans}
use Rattle.isl_alternatives.specs.Ahead.{ahead_of}
use Rattle.isl_alternatives.proofs.ChainLaws.{WhereEach, all_compared, each_more, known_next}
use Rattle.isl_alternatives.proofs.RestrictedLaws.{over_after}
use Rattle.isl_alternatives.proofs.chains.with_all.Goals as goal

pub compared-requires-clause-over : goal.compared-requires-clause-over
compared-requires-clause-over c =
    let l = c.loop-comparison in
    over_after c.args.meter.now l.meter c.args.scope.now l.systems.items l.invariant.1 l.invariant.0.restricted.over

pub compared-requires-clause-known : goal.compared-requires-clause-known
compared-requires-clause-known c =
    let l = c.loop-comparison in
    let k = c.in-Some.comparison in
    let next = rw c.in-Some.is at c.next.ensures in
    known_next c.args.meter.now l.meter c.args.scope.now (ahead_of c.args.ahead) (ahead_of l.ahead) (ahead_of c.next.new.self) WhereEach
    c.args.systems.items l.systems.items (k.left.now, k.compare, k.right.now) next l.invariant.0 c.requires.known

pub with_room-requires : goal.with_room-requires
with_room-requires c =
    let r = c.in_ok-new.ensures in
    record { over = over_after c.loop-comparison.meter c.compared.new.meter c.args.scope.now c.in_ok-new.new.items r.charged r.over }

pub loop-comparison-preserved : goal.loop-comparison-preserved
loop-comparison-preserved c =
    let g = c.args.meter.now in
    let l = c.loop-comparison in
    let h = c.compared.new.meter in
    let end = c.with_room.new.meter in
    let k = c.in-Some.comparison in
    let next = rw c.in-Some.is at c.next.ensures in
    let more = c.in_ok-new.ensures in
    let same = c.in_ok-systems.ensures.exact in (
      each_more g l.meter h end c.args.scope.now (ahead_of c.args.ahead) (ahead_of l.ahead) (ahead_of c.next.new.self)
          (k.left.now, k.compare, k.right.now) c.args.systems.items l.systems.items c.in_ok-new.new.items c.in_ok-systems.systems.items next
          l.invariant.0 more same,
      IsCharged_trans g h end (IsCharged_trans g l.meter h l.invariant.1 more.charged) same.charged,
    )

pub returns : goal.returns
returns c =
    let l = c.loop-comparison in
    all_compared c.args.meter.now l.meter c.args.scope.now (ahead_of c.args.ahead) (ahead_of l.ahead) WhereEach c.args.systems.items
    l.systems.items (rw c.in_default.is at c.next.ensures) l.invariant.0
