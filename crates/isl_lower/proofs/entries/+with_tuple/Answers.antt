use Rattle.std.proofs.Common.{arith, rules, refl, sym, ap, subst, ℕ, ◌+◌, ◌<◌, ◌^◌, length}
use Rattle.std.proofs.lemmas.Result.{IfOk-weaker}
use Rattle.isl_meter.specs.Gauge.{Gauge}
use Rattle.isl_tree.specs.Literal.{entries_of}
use Rattle.isl_lower.specs.Entries.{AreReady, EntriesAt, HoldsWith}
use Rattle.isl_lower.proofs.SizeLaws.{left_smaller, right_smaller}
use Rattle.isl_lower.proofs.EntryLaws.{holds_pair, place-fits, ready_left, ready_right, width-left}
use Rattle.isl_lower.proofs.entries.+with_tuple.Goals as goal

pub width-requires : goal.width-requires
width-requires t c =
    let bounded = c.requires.bounded in
    let small : length (entries_of c.args.tuple.now) < 2 ^ 64 = omega (arith, bounded) in
    width-left c.args.tuple.now c.in-Pair.left c.in-Pair.right c.get-left.result.now c.in-Pair.is c.get-left.ensures small

pub overflow_add-behind : goal.overflow_add-behind
overflow_add-behind t c =
    let fits = place-fits c.args.tuple.now c.in-Pair.left c.in-Pair.right c.get-left.result.now c.args.first c.width.result c.in-Pair.is
    c.get-left.ensures c.width.ensures c.requires.bounded in
    omega (arith, fits)

pub with_tuple-requires : goal.with_tuple-requires
with_tuple-requires t c = (
  search (rules, left_smaller c.args.tuple.now c.in-Pair.left c.in-Pair.right c.get-left.result.now c.in-Pair.is c.get-left.ensures),
  ready_left c.args.tuple.now c.in-Pair.left c.in-Pair.right c.get-left.result.now c.in-Pair.right c.in-Pair.is c.get-left.ensures refl
      c.args.meter.now c.args.scope.now c.args.system c.args.first c.requires,
)

pub with_tuple-requires-in-Pair : goal.with_tuple-requires-in-Pair
with_tuple-requires-in-Pair t c =
    let mid = c.in_ok-system-in-Pair.system in
    let behind = c.args.first + c.width.result in (
      search (rules, right_smaller c.args.tuple.now c.in-Pair.left c.in-Pair.right c.get-right.result.now c.in-Pair.is c.get-right.ensures),
      subst (λ (g : Gauge). AreReady g c.args.scope.now mid behind (entries_of c.get-right.result.now)) (sym c.in_ok-system-in-Pair.ensures.meter)
          (ready_right c.args.tuple.now c.in-Pair.left c.in-Pair.right c.get-left.result.now c.get-right.result.now c.in-Pair.is
          c.get-left.ensures c.get-right.ensures c.args.meter.now c.args.scope.now c.args.system mid c.args.first behind
          (ap (λ (n : ℕ). c.args.first + n) c.width.ensures) c.in_ok-system-in-Pair.ensures.system c.requires),
    )

pub returns-in_ok-system-in-Pair-clause-system : goal.returns-in_ok-system-in-Pair-clause-system
returns-in_ok-system-in-Pair-clause-system t c =
    let g = c.args.meter.now in
    let scope = c.args.scope.now in
    let mid = c.in_ok-system-in-Pair.system in
    let behind = c.args.first + c.width.result in
    let rest = entries_of c.get-right.result.now in
    IfOk-weaker c.with_tuple-in-Pair.result (λ new. HoldsWith c.with_tuple.new.meter scope mid new (EntriesAt rest behind))
    (λ new. HoldsWith g scope c.args.system new (EntriesAt (entries_of c.args.tuple.now) c.args.first))
    (λ new two. holds_pair c.args.tuple.now c.in-Pair.left c.in-Pair.right c.get-left.result.now c.get-right.result.now c.in-Pair.is
    c.get-left.ensures c.get-right.ensures g scope c.args.system mid new c.args.first behind
    (ap (λ (n : ℕ). c.args.first + n) c.width.ensures) c.in_ok-system-in-Pair.ensures.system
    (subst (λ (h : Gauge). HoldsWith h scope mid new (EntriesAt rest behind)) c.in_ok-system-in-Pair.ensures.meter two))
    c.with_tuple-in-Pair.ensures.system
