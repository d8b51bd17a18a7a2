use Rattle.std.proofs.Common.{◌≡◌, ◌∙◌, ◌+◌, ◌<◌, ◌++◌, ◌∷◌, [], ◌≤ℤ◌, length, arith, rules, refl, sym, ap, subst, true, false, List, ℤ, None}
use Rattle.std.proofs.Common.{pos, ◌<ℤ◌, to_z-of_z}
use Rattle.std.proofs.lemmas.Grind.{common_steps}
use Rattle.std.proofs.lemmas.Bool.{false≢true}
use Rattle.isl_piece.specs.System.{HoldRows}
use Rattle.isl_loop.specs.Expr.{expr_value}
use Rattle.isl_loop.specs.Turns.{turns}
use Rattle.isl_ast.proofs.SizeLaws.{block_smaller, body_smaller, part_smaller, then_smaller}
use Rattle.isl_ast.proofs.StepLaws.{body_over, first_turns, next_within, part_ended, part_next, part_ready, parts_end, parts_start}
use Rattle.isl_ast.proofs.StepLaws.{push_ended, turn_ended, turn_next, turns_end, turns_start, unit_ended}
use Rattle.isl_ast.proofs.LoopLaws.{block_is, block_over, call_is, else_is, for_is, for_over, then_is, then_over}
use Rattle.isl_ast.proofs.run.+run.Goals as goal

-- ---- a loop
pub repeat-append-requires : goal.repeat-append-requires
repeat-append-requires g t c κs within =
    let mid : c.unit.new.self ≡ record c.loop-next.meter { units = c.loop-next.meter.units + 1 } = c.in_ok-unit.ensures.1 in
    let pushed : c.push.new.self.items ≡ c.args.run.now.point.items ++ c.in-Some.x ∷ [] = grind (arith, common_steps) in (
      omega (arith, c.decreases),
      (
        within,
        body_over c.args.meter.now c.loop-next.meter c.unit.new.self c.args.body.now c.args.run.now.point.items
            c.push.new.self.items c.in-Some.x c.requires.body c.loop-next.invariant.so_far.charged mid pushed,
      ),
    )

pub repeat-returns-in_err-unit-clause-run : goal.repeat-returns-in_err-unit-clause-run
repeat-returns-in_err-unit-clause-run g t c =
    let high : c.in-Some.x ≤ℤ c.args.range.high = rw c.in-Some.is at c.loop-next.invariant.next in
    let all = turns c.args.range.low c.args.range.high c.args.range.step in
    let found = unit_ended g.C.Callee.called c.args.meter.now c.loop-next.meter c.unit.new.self c.args.callee.now c.loop-next.callee
    c.args.body.now
    c.args.run.now.point.items c.in-Some.x c.args.range.high c.args.range.step all c.requires.step high
    (rw c.in-Some.is at c.loop-next.invariant.so_far) c.in_err-unit.ensures.0 c.in_err-unit.ensures.1 in
    search (rules, found)

pub repeat-returns-in_err-append-clause-run : goal.repeat-returns-in_err-append-clause-run
repeat-returns-in_err-append-clause-run g t c =
    let high : c.in-Some.x ≤ℤ c.args.range.high = rw c.in-Some.is at c.loop-next.invariant.next in
    let all = turns c.args.range.low c.args.range.high c.args.range.step in
    let mid : c.unit.new.self ≡ record c.loop-next.meter { units = c.loop-next.meter.units + 1 } = c.in_ok-unit.ensures.1 in
    let pushed : c.push.new.self.items ≡ c.args.run.now.point.items ++ c.in-Some.x ∷ [] = grind (arith, common_steps) in
    let found = turn_ended g.C.Callee.called c.args.meter.now c.loop-next.meter c.unit.new.self c.append.new.meter c.args.callee.now
    c.loop-next.callee
    c.args.body.now c.args.run.now.point.items c.push.new.self.items c.in-Some.x c.args.range.high c.args.range.step all
    c.in_err-append.field-0.0
    c.requires.step high (rw c.in-Some.is at c.loop-next.invariant.so_far) mid pushed c.in_err-append.ensures.run in
    search (rules, found)

pub repeat-loop-next-preserved : goal.repeat-loop-next-preserved
repeat-loop-next-preserved g t c =
    let high : c.in-Some.x ≤ℤ c.args.range.high = rw c.in-Some.is at c.loop-next.invariant.next in
    let all = turns c.args.range.low c.args.range.high c.args.range.step in
    let mid : c.unit.new.self ≡ record c.loop-next.meter { units = c.loop-next.meter.units + 1 } = c.in_ok-unit.ensures.1 in
    let pushed : c.push.new.self.items ≡ c.args.run.now.point.items ++ c.in-Some.x ∷ [] = grind (arith, common_steps) in
    record {
      so_far = turn_next g.C.Callee.called c.args.meter.now c.loop-next.meter c.unit.new.self c.append.new.meter c.args.callee.now
          c.loop-next.callee c.append.new.callee c.args.body.now c.args.run.now.point.items c.push.new.self.items
          c.in-Some.x c.args.range.high c.args.range.step c.after-next.result all c.requires.step high
          (rw c.in-Some.is at c.loop-next.invariant.so_far) mid pushed c.in_ok-append.ensures.run.0 c.in_ok-append.ensures.run.1
          c.after-next.ensures;
      next = next_within c.in-Some.x c.args.range.high c.args.range.step c.after-next.result c.after-next.ensures;
      point = grind (arith, common_steps);
    }

-- ---- parts
pub append_all-append-requires : goal.append_all-append-requires
append_all-append-requires g t c κs within =
    let low : c.loop-part.part-index < length c.args.parts.now = omega arith in
    let less = part_smaller c.args.parts.now c.loop-part.part-index c.part-item.result low c.part-item.is in (
      omega (arith, c.decreases, less),
      (
        within,
        part_ready c.args.meter.now c.loop-part.meter c.args.run.now.point.items c.loop-part.run.point.items c.args.parts.now
            c.loop-part.part-index c.part-item.result c.requires low c.part-item.is c.loop-part.invariant.so_far.charged
            c.loop-part.invariant.point,
      ),
    )

pub append_all-returns-in_err-append-clause-run : goal.append_all-returns-in_err-append-clause-run
append_all-returns-in_err-append-clause-run g t c =
    let low : c.loop-part.part-index < length c.args.parts.now = omega arith in
    let found = part_ended g.C.Callee.called c.args.meter.now c.loop-part.meter c.append.new.meter c.args.callee.now c.loop-part.callee
    c.args.run.now.point.items c.loop-part.run.point.items c.args.parts.now c.loop-part.part-index c.part-item.result
    c.in_err-append.field-0.0 low c.part-item.is c.loop-part.invariant.so_far c.loop-part.invariant.point c.in_err-append.ensures.run in
    search (rules, found)

pub append_all-loop-part-preserved : goal.append_all-loop-part-preserved
append_all-loop-part-preserved g t c =
    let low : c.loop-part.part-index < length c.args.parts.now = omega arith in
    record {
      so_far = part_next g.C.Callee.called c.args.meter.now c.loop-part.meter c.append.new.meter c.args.callee.now c.loop-part.callee
          c.append.new.callee c.args.run.now.point.items c.loop-part.run.point.items c.args.parts.now c.loop-part.part-index
          c.part-item.result low c.part-item.is c.loop-part.invariant.so_far c.loop-part.invariant.point c.in_ok-append.ensures.run.0
          c.in_ok-append.ensures.run.1;
      point = ◌∙◌ {A = List ℤ} c.in_ok-append.ensures.point c.loop-part.invariant.point;
    }

-- ---- trees
pub append-append_all-requires : goal.append-append_all-requires
append-append_all-requires g t c κs within =
    let less = block_smaller c.args.tree.now c.in-Block.parts c.as_slice.result.now c.in-Block.is c.as_slice.ensures in (
      omega (arith, c.decreases, less),
      (
        within,
        block_over c.args.meter.now (length c.args.run.now.point.items) c.args.tree.now c.in-Block.parts c.as_slice.result.now
            c.in-Block.is c.as_slice.ensures c.requires,
      ),
    )

pub append-returns-in-Block-clause-run : goal.append-returns-in-Block-clause-run
append-returns-in-Block-clause-run g t c =
    block_is g.C.Callee.called c.args.meter.now c.append_all.new.meter c.args.callee.now c.append_all.new.callee c.args.run.now.point.items
    c.args.tree.now c.in-Block.parts c.as_slice.result.now c.append_all.result c.in-Block.is c.as_slice.ensures c.append_all.ensures.run

pub append-repeat-requires : goal.append-repeat-requires
append-repeat-requires g t c κs within =
    let own : c.new-step.result ≡ c.in-For.step = grind (arith, common_steps, to_z-of_z) in
    let both = for_over c.args.meter.now c.value-in-For.new.meter (length c.args.run.now.point.items) c.args.tree.now c.in-For.low
    c.in-For.high
    c.in-For.step c.in-For.body c.get.result.now c.in-For.is c.get.ensures (grind (arith, common_steps)) c.requires in
    let less = body_smaller c.args.tree.now c.in-For.low c.in-For.high c.in-For.step c.in-For.body c.get.result.now c.in-For.is
    c.get.ensures in
    (omega (arith, c.decreases, less), (within, (both.0, subst (λ (z : ℤ). pos 0 <ℤ z) (sym own) both.1)))

pub append-append-requires : goal.append-append-requires
append-append-requires g t c κs within =
    let less = then_smaller c.args.tree.now c.in-If.rows c.in-If.body c.get-then-branch.result.now c.in-If.is
    c.get-then-branch.ensures in (
      omega (arith, c.decreases, less),
      (
        within,
        then_over c.args.meter.now c.hold_at.new.meter (length c.args.run.now.point.items) c.args.tree.now c.in-If.rows
            c.in-If.body c.get-then-branch.result.now c.in-If.is c.get-then-branch.ensures (grind (arith, common_steps)) c.requires,
      ),
    )

pub append-returns-in_ok-high-in-For-clause-run : goal.append-returns-in_ok-high-in-For-clause-run
append-returns-in_ok-high-in-For-clause-run g t c =
    let low = c.in_ok-low-in-For.ensures.value.0 ∙ ap (λ (ys : List ℤ). expr_value c.in-For.low ys) c.as_slice-in-For.ensures.value in
    let high = c.in_ok-high-in-For.ensures.value.0 ∙ ap (λ (ys : List ℤ). expr_value c.in-For.high ys) c.as_slice-in-For-2.ensures.value in
    for_is g.C.Callee.called c.args.meter.now c.value-in-For.new.meter c.repeat.new.meter c.args.callee.now c.repeat.new.callee
    c.args.run.now.point.items c.args.tree.now c.in-For.low c.in-For.high c.in-For.step c.in-For.body c.get.result.now
    c.in_ok-low-in-For.low c.in_ok-high-in-For.high c.new-step.result c.repeat.result c.in-For.is c.get.ensures low high
    (grind (arith, common_steps, to_z-of_z)) (c.in_ok-high-in-For.ensures.value.1 ∙ c.in_ok-low-in-For.ensures.value.1) c.repeat.ensures.run

pub append-returns-then-branch-clause-run : goal.append-returns-then-branch-clause-run
append-returns-then-branch-clause-run g t c =
    let yes : c.in_ok-hold_at-in-If.field-0 ≡ true = grind arith in
    then_is g.C.Callee.called c.args.meter.now c.hold_at.new.meter c.append.new.meter (length c.args.run.now.point.items) c.args.callee.now
    c.append.new.callee c.args.run.now.point.items c.args.tree.now c.in-If.rows c.in-If.body c.get-then-branch.result.now
    c.append.result c.in-If.is c.get-then-branch.ensures c.in_ok-hold_at-in-If.ensures.1 c.requires
    (subst (HoldRows c.in-If.rows) c.as_slice-in-If.ensures.value (c.in_ok-hold_at-in-If.ensures.0.0 yes)) c.append.ensures.run

pub append-returns-else-branch-clause-run : goal.append-returns-else-branch-clause-run
append-returns-else-branch-clause-run g t c =
    let no : c.in_ok-hold_at-in-If.field-0 ≡ false = grind arith in
    else_is g.C.Callee.called c.args.meter.now c.hold_at.new.meter (length c.args.run.now.point.items) c.args.callee.now c.args.callee.now
    c.args.run.now.point.items c.args.tree.now c.in-If.rows c.in-If.body c.in-If.is c.in_ok-hold_at-in-If.ensures.1 refl c.requires
    (λ h. false≢true (sym no ∙ c.in_ok-hold_at-in-If.ensures.0.1 (subst (HoldRows c.in-If.rows) (sym c.as_slice-in-If.ensures.value) h)))

-- ---- before the first of them, and behind the last
pub repeat-loop-next-init : goal.repeat-loop-next-init
repeat-loop-next-init g t c = record {
  so_far = turns_start g.C.Callee.called c.args.meter.now c.args.callee.now c.args.body.now c.args.run.now.point.items c.args.range.low
      c.args.range.high c.args.range.step c.first-next.result c.requires.step c.first-next.ensures;
  next = (first_turns c.args.range.low c.args.range.high c.args.range.step c.first-next.result c.requires.step c.first-next.ensures).1;
  point = refl;
}

pub repeat-returns-in_err-push-clause-run : goal.repeat-returns-in_err-push-clause-run
repeat-returns-in_err-push-clause-run g t c =
    let high : c.in-Some.x ≤ℤ c.args.range.high = rw c.in-Some.is at c.loop-next.invariant.next in
    let all = turns c.args.range.low c.args.range.high c.args.range.step in
    let mid : c.unit.new.self ≡ record c.loop-next.meter { units = c.loop-next.meter.units + 1 } = c.in_ok-unit.ensures.1 in
    let found = push_ended g.C.Callee.called c.args.meter.now c.loop-next.meter c.unit.new.self c.args.callee.now c.loop-next.callee
    c.args.body.now c.args.run.now.point.items c.in-Some.x c.args.range.high c.args.range.step all c.requires.step high
    (rw c.in-Some.is at c.loop-next.invariant.so_far) mid in
    search (rules, found)

pub repeat-returns-clause-run : goal.repeat-returns-clause-run
repeat-returns-clause-run g t c =
    let none : c.loop-next.next ≡ None = grind arith in
    turns_end g.C.Callee.called c.args.meter.now c.loop-next.meter c.args.callee.now c.loop-next.callee c.args.body.now
    c.args.run.now.point.items (turns c.args.range.low c.args.range.high c.args.range.step)
    (rw none at c.loop-next.invariant.so_far)

pub append_all-loop-part-init : goal.append_all-loop-part-init
append_all-loop-part-init g t c = record {
  so_far = parts_start g.C.Callee.called c.args.meter.now c.args.callee.now c.args.run.now.point.items c.args.parts.now;
  point = refl;
}

pub append_all-returns-clause-run : goal.append_all-returns-clause-run
append_all-returns-clause-run g t c =
    parts_end g.C.Callee.called c.args.meter.now c.loop-part.meter c.args.callee.now c.loop-part.callee c.args.run.now.point.items
    c.args.parts.now c.loop-part.part-index (omega arith) c.loop-part.invariant.so_far

-- ---- calls
pub append-returns-in_ok-call-in-Call-clause-run : goal.append-returns-in_ok-call-in-Call-clause-run
append-returns-in_ok-call-in-Call-clause-run g t c =
    call_is g.C.Callee.called c.args.meter.now c.set_values.new.meter c.args.callee.now c.call.new.self c.args.run.now.point.items
    c.as_slice-in-Call-2.result.now c.args.tree.now c.in-Call.name c.in-Call.args c.as_slice-in-Call.result.now
    c.set_values.new.numbers.items c.as_slice-in-Call-3.result.now c.in-Call.is c.as_slice-in-Call.ensures
    c.as_slice-in-Call-2.ensures.value c.in_ok-set_values-in-Call.ensures.0 c.as_slice-in-Call-3.ensures.value
    c.in_ok-call-in-Call.ensures c.in_ok-set_values-in-Call.ensures.1
