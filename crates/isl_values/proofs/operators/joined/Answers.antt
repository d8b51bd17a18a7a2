use Rattle.std.proofs.Common.{subst, sym}
use Rattle.std.proofs.lemmas.Bool.{or_parts}
use Rattle.isl_assumed.specs.Assumed.{IsSound}
use Rattle.isl_operators.specs.Formed.{OperatorForms}
use Rattle.isl_operators.specs.Made.{operator_works}
use Rattle.isl_kinds.specs.Parts.{operator}
use Rattle.isl_values.specs.Made.{uses_units}
use Rattle.isl_values.specs.Live.{narrows}
use Rattle.isl_values.proofs.LiveEndsLaws.{live_answer, pair_cut_there, pair_ends_live, pair_goes_there}
use Rattle.isl_outcome.proofs.PaidLaws.{unworked_of}
use Rattle.isl_values.proofs.ValueLaws.{numbers_later, ok_of, same_limit, unworked_in}
use Rattle.isl_values.proofs.operators.joined.Goals as goal

pub live_part-requires-clause-numbers : goal.live_part-requires-clause-numbers
live_part-requires-clause-numbers c =
    numbers_later c.args.meter.now c.operated.new.meter c.in-Ok.made.value c.in-Ok.ensures.made.1.charged c.in-Ok.ensures.made.0.numbers

pub live_part-requires-clause-sound : goal.live_part-requires-clause-sound
live_part-requires-clause-sound c =
    let h = c.operated.new.meter in
    subst (IsSound h) (sym c.assumed.ensures)
    (c.requires.fits.sound h (same_limit c.args.meter.now h c.in-Ok.ensures.made.1.charged))

pub returns-in-Ok : goal.returns-in-Ok
returns-in-Ok c =
    let state = c.args.state.now in
    let g = c.args.meter.now in
    let h = c.operated.new.meter in
    let k = c.live_part.new.meter in
    let left = c.args.left.value in
    let right = c.args.right.now in
    let one = c.in-Ok.ensures in
    let goes = pair_goes_there state
    (OperatorForms c.args.operator) left.params right.params left right c.requires.left_live c.requires.right_live
    one.goes_on in
    let there = pair_cut_there state
    (OperatorForms c.args.operator) left.params right.params left right c.requires.left_live c.requires.right_live
    one.goes_on in record {
      made = unworked_of c.live_part.result _ (uses_units state.assumed (operator c.args.operator)) _ g k
          (live_answer state.assumed _ _ _ g h k c.in-Ok.made.value one.made.0 (operator_works c.args.operator) _ one.made.1
          (λ some. there) (uses_units state.assumed (operator c.args.operator))
          (or_parts (operator_works c.args.operator) (narrows state.assumed)) (λ v. v.value) c.live_part.result
          (rw c.assumed.ensures at c.live_part.ensures.made) (rw c.assumed.ensures at c.live_part.ensures.nothing));
      goes_on = ok_of c.live_part.result _ (λ v. goes);
    }

pub returns-in-Err : goal.returns-in-Err
returns-in-Err c =
    let state = c.args.state.now in
    let left = c.args.left.value in
    let right = c.args.right.now in
    let alike = pair_ends_live state
    (OperatorForms c.args.operator) left.params right.params left right c.requires.left_live c.requires.right_live in
    record {
      made = unworked_in (uses_units state.assumed (operator c.args.operator))
          (operator_works c.args.operator) _ _ c.args.meter.now c.operated.new.meter c.in-Err.refusal
          (λ none. (or_parts (operator_works c.args.operator) (narrows state.assumed) none).0)
          (λ end ends. (alike end).0 ends) c.in-Err.ensures.made;
      goes_on = tt;
    }
