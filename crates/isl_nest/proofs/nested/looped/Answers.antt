use Rattle.std.proofs.Common.{◌≡◌, ◌≢◌, ◌+◌, pos, sym, subst, arith, of_z, to_z, to_z-of_z}
use Rattle.std.specs.Int.{w128}
use Rattle.std.specs.List.{All}
use Rattle.std.proofs.lemmas.Grind.{common_steps}
use Rattle.isl_loop.specs.declared.tree.Loop.{Loop}
use Rattle.isl_loop.specs.Printable.{IsPrintable}
use Rattle.isl_loop.proofs.PrintLaws.{printable_of-For}
use Rattle.isl_piece.specs.Row.{coef_at}
use Rattle.isl_nest.specs.Changing.{asked_first, AsksWhatChanges}
use Rattle.isl_nest.proofs.ChangingLaws.{changing_of-For}
use Rattle.isl_nest.proofs.CountLaws.{for_depth, for_idle, for_turned}
use Rattle.isl_nest.proofs.NestedLaws.{for_over, for_trace}
use Rattle.isl_nest.proofs.nested.looped.Goals as goal

pub returns-clause-trace : goal.returns-clause-trace
returns-clause-trace c point =
    let head = c.args.head in
    let same : to_z w128 (of_z w128 head.step) ≡ head.step = grind (arith, common_steps, to_z-of_z) in
    for_trace head.low head.high head.step (to_z w128 (of_z w128 head.step)) c.in_ok-new.field-0 c.args.body same c.in_ok-new.ensures point

pub returns-clause-over : goal.returns-clause-over
returns-clause-over c g n low high positive within over =
    let head = c.args.head in
    let same : to_z w128 (of_z w128 head.step) ≡ head.step = grind (arith, common_steps, to_z-of_z) in
    for_over head.low head.high head.step (to_z w128 (of_z w128 head.step)) c.in_ok-new.field-0 c.args.body same c.in_ok-new.ensures g n
    low high positive within over

pub returns-clause-turned : goal.returns-clause-turned
returns-clause-turned c point =
    let head = c.args.head in
    let same : to_z w128 (of_z w128 head.step) ≡ head.step = grind (arith, common_steps, to_z-of_z) in
    for_turned head.low head.high head.step (to_z w128 (of_z w128 head.step)) c.in_ok-new.field-0 c.args.body same c.in_ok-new.ensures point

pub returns-clause-idle : goal.returns-clause-idle
returns-clause-idle c point =
    let head = c.args.head in
    let same : to_z w128 (of_z w128 head.step) ≡ head.step = grind (arith, common_steps, to_z-of_z) in
    for_idle head.low head.high head.step (to_z w128 (of_z w128 head.step)) c.in_ok-new.field-0 c.args.body same c.in_ok-new.ensures point

pub returns-clause-depth : goal.returns-clause-depth
returns-clause-depth c =
    let head = c.args.head in
    let same : to_z w128 (of_z w128 head.step) ≡ head.step = grind (arith, common_steps, to_z-of_z) in
    for_depth head.low head.high head.step (to_z w128 (of_z w128 head.step)) c.in_ok-new.field-0 c.args.body same c.in_ok-new.ensures

pub returns-clause-changing : goal.returns-clause-changing
returns-clause-changing c n name asks =
    changing_of-For n c.args.head.low c.args.head.high (to_z w128 (of_z w128 c.args.head.step)) c.in_ok-new.field-0
    (subst (λ (l : Loop). All (λ r. coef_at r n ≢ pos 0) (asked_first l)) (sym c.in_ok-new.ensures) name)
    (subst (λ (l : Loop). AsksWhatChanges (n + 1) l) (sym c.in_ok-new.ensures) asks)

pub returns-clause-printable : goal.returns-clause-printable
returns-clause-printable c n few h =
    printable_of-For n c.args.head.low c.args.head.high (to_z w128 (of_z w128 c.args.head.step)) c.in_ok-new.field-0 few
    (subst (λ (l : Loop). IsPrintable (n + 1) l) (sym c.in_ok-new.ensures) h)
