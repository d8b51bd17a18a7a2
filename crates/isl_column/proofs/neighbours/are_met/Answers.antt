use Rattle.std.proofs.Common.{◌≡◌, ◌+◌, ◌<◌, ◌++◌, ◌∷◌, [], ◌-◌, drop, take, length, subst, List, ℤ, arith}
use Rattle.std.proofs.lemmas.Grind.{common_steps}
use Rattle.std.proofs.lemmas.List.{drop_all}
use Rattle.isl_piece.specs.declared.row.Row.{Row}
use Rattle.isl_omega.specs.Congruence.{period}
use Rattle.isl_omega.specs.Sides.{IsNotDivides}
use Rattle.isl_shadows.specs.Neighbours.{AreMetAmong}
use Rattle.isl_column.specs.Neighbours.{ArePushed, AreEnough}
use Rattle.isl_column.proofs.SearchLemmas.{enough_as_met, enough_with, enough_without}
use Rattle.isl_shadows.proofs.SearchLemmas.{drop_row}
use Rattle.isl_column.proofs.neighbours.are_met.Goals as goal
use Rattle.isl_column.proofs.neighbours.are_met.Goals.{then-choice-rows+in_ok-leaves+then-not-leaves+in_ok-push_choices, then-choice-rows+in_ok-leaves+else-not-leaves, else-choice-rows}

pub loop-used-preserved : goal.loop-used-preserved
loop-used-preserved c =
    let rows = c.args.rows.now in
    let columns = c.args.column.columns in
    let at = c.args.column.at in
    let choice = c.in-Some.choice in
    let rest = c.pop.new.self.items in
    let popped : c.loop-used.choices.items ≡ rest ++ choice ∷ [] = grind (arith, common_steps) in
    let some : 0 < length choice.numbers.items = grind (arith, common_steps) in
    let before : AreEnough columns at rows (rest ++ choice ∷ []) c.args.numbers.items = rw popped at c.loop-used.invariant in
    elim c.if-choice-rows.branch [
      | then-choice-rows+in_ok-leaves+then-not-leaves+in_ok-push_choices w ↦
          let r = w.index-rows-choice.result in
          let inside : choice.level < length rows = grind (arith, common_steps) in
          let not_divides : IsNotDivides c.args.meter.now columns at r = grind (arith, common_steps) in
          let here = drop_row rows choice.level r inside w.index-rows-choice.is in
          let pushed : ArePushed (period at r) (choice.level + 1) choice.numbers.items rest c.if-choice-rows.choices.items = grind (arith, common_steps) in
          enough_with c.args.meter.now columns at rows r rest c.if-choice-rows.choices.items choice c.args.numbers.items c.args.column.in_range not_divides some here pushed before
      | then-choice-rows+in_ok-leaves+else-not-leaves w ↦
          let behind = take (length rows - choice.level) (drop choice.level rows) in
          let whole : behind ≡ drop choice.level rows = grind (arith, common_steps) in
          let own : c.as_slice-left.result.now ≡ choice.numbers.items = grind (arith, common_steps) in
          let left : AreMetAmong columns at behind c.as_slice-left.result.now = w.in_ok-leaves.ensures (grind (arith, common_steps)) in
          let met = subst (λ (rest : List Row). AreMetAmong columns at rest choice.numbers.items) whole
          (subst (λ (some : List ℤ). AreMetAmong columns at behind some) own left) in
          let same : c.if-choice-rows.choices.items ≡ rest = grind (arith, common_steps) in
          rw same (enough_as_met columns at rows rest choice c.args.numbers.items met before)
      | else-choice-rows w ↦
          let none = drop_all choice.level rows (grind (arith, common_steps)) in
          let same : c.if-choice-rows.choices.items ≡ rest = grind (arith, common_steps) in
          rw same (enough_without columns at rows rest choice c.args.numbers.items some none before)
    ]
