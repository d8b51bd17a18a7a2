use Rattle.std.proofs.Common.{◌≡◌, refl, true, false, arith}
use Rattle.std.proofs.lemmas.Grind.{common_steps}
use Rattle.std.proofs.lemmas.Result.{err_from_is_err_and}
use Rattle.isl_meter.proofs.CutLemmas.{IsCharged_trans, IsCutBy-after, IsCutBy-charged}
use Rattle.isl_difference.proofs.BoundLaws.{not_so}
use Rattle.isl_union.specs.Finite.{IsFinite}
use Rattle.isl_union.proofs.BoundedLaws.{pieces_within}
use Rattle.isl_union.proofs.MeetSteps.{pieces_later}
use Rattle.isl_schedule.specs.Differ.{AreSingle}
use Rattle.isl_schedule.proofs.CheckLaws.{all_over, flat_told, form_told, forms_told, nested_told, same_times, times_exact}
use Rattle.isl_schedule.proofs.check.check_schedule.Goals as goal

pub returns-then-have_nested : goal.returns-then-have_nested
returns-then-have_nested c =
    let some : c.have_nested.result ≡ true = grind (arith, common_steps) in (
      nested_told c.args.value.now c.pieces-pieces.result.now c.pieces-pieces.ensures.content c.have_nested.result some
          c.have_nested.ensures,
      refl,
    )

pub returns-then-not-have_one_shape : goal.returns-then-not-have_one_shape
returns-then-not-have_one_shape c =
    let value = c.args.value.now in
    let pieces = c.pieces-pieces.result.now in
    let are = c.pieces-pieces.ensures.content in
    let none : c.have_nested.result ≡ false = grind (arith, common_steps) in
    let differ : c.have_one_shape.result ≡ false = grind (arith, common_steps) in (
      flat_told value pieces are c.have_nested.result none c.have_nested.ensures,
      forms_told value pieces are c.have_one_shape.result differ c.have_one_shape.ensures,
      refl,
    )

pub returns-in_err-is_finite : goal.returns-in_err-is_finite
returns-in_err-is_finite c =
    let value = c.args.value.now in
    let pieces = c.pieces-pieces.result.now in
    let are = c.pieces-pieces.ensures.content in
    let none : c.have_nested.result ≡ false = grind (arith, common_steps) in
    let one : c.have_one_shape.result ≡ true = grind (arith, common_steps) in
    let error = err_from_is_err_and c.from_residual.result c.from_residual.ensures.1 in
    rw (error.1, error.2) (
      flat_told value pieces are c.have_nested.result none c.have_nested.ensures,
      form_told value pieces are c.have_one_shape.result one c.have_one_shape.ensures,
      c.in_err-is_finite.ensures.meter,
    )

pub returns-then-not-branch : goal.returns-then-not-branch
returns-then-not-branch c =
    let value = c.args.value.now in
    let pieces = c.pieces-pieces.result.now in
    let are = c.pieces-pieces.ensures.content in
    let none : c.have_nested.result ≡ false = grind (arith, common_steps) in
    let one : c.have_one_shape.result ≡ true = grind (arith, common_steps) in
    let infinite : c.in_ok-is_finite.field-0 ≡ false = grind (arith, common_steps) in (
      flat_told value pieces are c.have_nested.result none c.have_nested.ensures,
      form_told value pieces are c.have_one_shape.result one c.have_one_shape.ensures,
      not_so (IsFinite value) c.in_ok-is_finite.field-0 infinite c.in_ok-is_finite.ensures.exact,
      c.in_ok-is_finite.ensures.meter,
    )

pub visits_of-requires-clause-within : goal.visits_of-requires-clause-within
visits_of-requires-clause-within c =
    let pieces = c.pieces-pieces.result.now in
    pieces_later c.args.meter.now c.is_finite.new.meter pieces c.in_ok-is_finite.ensures.meter
    (pieces_within c.args.meter.now c.args.value.now pieces c.pieces-pieces.ensures.well_formed c.pieces-pieces.ensures.content c.requires)

pub returns-in_err-visits : goal.returns-in_err-visits
returns-in_err-visits c =
    let value = c.args.value.now in
    let pieces = c.pieces-pieces.result.now in
    let are = c.pieces-pieces.ensures.content in
    let none : c.have_nested.result ≡ false = grind (arith, common_steps) in
    let one : c.have_one_shape.result ≡ true = grind (arith, common_steps) in
    let error = err_from_is_err_and c.from_residual-in_err-visits.result c.from_residual-in_err-visits.ensures.1 in
    rw (error.1, error.2) (
      flat_told value pieces are c.have_nested.result none c.have_nested.ensures,
      form_told value pieces are c.have_one_shape.result one c.have_one_shape.ensures,
      IsCutBy-charged c.args.meter.now c.is_finite.new.meter c.in_ok-is_finite.ensures.meter,
    )

pub are_single-requires-clause-over : goal.are_single-requires-clause-over
are_single-requires-clause-over c =
    let pieces = c.pieces-pieces.result.now in
    let list = rw c.params.ensures.content at c.params.ensures.well_formed in
    let zipped = rw c.params.ensures.content at c.in_ok-visits.ensures.visits in
    rw (c.params-2.ensures.content, c.as_slice.ensures.value)
    (all_over c.is_finite.new.meter c.args.value.now.params list pieces c.in_ok-visits.visits.items zipped
    c.pieces-pieces.ensures.well_formed)

pub are_single-requires-clause-time : goal.are_single-requires-clause-time
are_single-requires-clause-time c =
    let pieces = c.pieces-pieces.result.now in
    let one : c.have_one_shape.result ≡ true = grind (arith, common_steps) in
    let zipped = rw c.params.ensures.content at c.in_ok-visits.ensures.visits in
    rw c.as_slice.ensures.value
    (same_times c.args.value.now.params pieces c.is_finite.new.meter c.in_ok-visits.visits.items zipped (c.have_one_shape.ensures.0 one))

pub returns-in_err-are_single : goal.returns-in_err-are_single
returns-in_err-are_single c =
    let value = c.args.value.now in
    let pieces = c.pieces-pieces.result.now in
    let are = c.pieces-pieces.ensures.content in
    let none : c.have_nested.result ≡ false = grind (arith, common_steps) in
    let one : c.have_one_shape.result ≡ true = grind (arith, common_steps) in
    let error = err_from_is_err_and c.from_residual-in_err-are_single.result c.from_residual-in_err-are_single.ensures.1 in
    rw (error.1, error.2) (
      flat_told value pieces are c.have_nested.result none c.have_nested.ensures,
      form_told value pieces are c.have_one_shape.result one c.have_one_shape.ensures,
      IsCutBy-after c.args.meter.now c.is_finite.new.meter c.are_single.new.meter c.in_err-are_single.field-0.0
          c.in_ok-is_finite.ensures.meter c.in_err-are_single.ensures.meter,
    )

pub returns-then-not-branch-2 : goal.returns-then-not-branch-2
returns-then-not-branch-2 c =
    let value = c.args.value.now in
    let pieces = c.pieces-pieces.result.now in
    let are = c.pieces-pieces.ensures.content in
    let none : c.have_nested.result ≡ false = grind (arith, common_steps) in
    let one : c.have_one_shape.result ≡ true = grind (arith, common_steps) in
    let finite : c.in_ok-is_finite.field-0 ≡ true = grind (arith, common_steps) in
    let several : c.in_ok-are_single.field-0 ≡ false = grind (arith, common_steps) in
    let visits = c.in_ok-visits.visits.items in
    let zipped = rw c.params.ensures.content at c.in_ok-visits.ensures.visits in
    let exact = rw (c.params-2.ensures.content, c.as_slice.ensures.value) at c.in_ok-are_single.ensures.exact in
    let times = times_exact value pieces are c.is_finite.new.meter visits zipped (c.have_one_shape.ensures.0 one) in (
      flat_told value pieces are c.have_nested.result none c.have_nested.ensures,
      form_told value pieces are c.have_one_shape.result one c.have_one_shape.ensures,
      c.in_ok-is_finite.ensures.exact.0 finite,
      (λ single. not_so (AreSingle value.params visits) c.in_ok-are_single.field-0 several exact (times.1 single)),
      IsCharged_trans c.args.meter.now c.is_finite.new.meter c.are_single.new.meter c.in_ok-is_finite.ensures.meter
          c.in_ok-are_single.ensures.meter,
    )

pub returns : goal.returns
returns c =
    let value = c.args.value.now in
    let pieces = c.pieces-pieces.result.now in
    let are = c.pieces-pieces.ensures.content in
    let none : c.have_nested.result ≡ false = grind (arith, common_steps) in
    let one : c.have_one_shape.result ≡ true = grind (arith, common_steps) in
    let finite : c.in_ok-is_finite.field-0 ≡ true = grind (arith, common_steps) in
    let single : c.in_ok-are_single.field-0 ≡ true = grind (arith, common_steps) in
    let zipped = rw c.params.ensures.content at c.in_ok-visits.ensures.visits in
    let exact = rw (c.params-2.ensures.content, c.as_slice.ensures.value) at c.in_ok-are_single.ensures.exact in
    let times = times_exact value pieces are c.is_finite.new.meter c.in_ok-visits.visits.items zipped (c.have_one_shape.ensures.0 one) in (
      record {
        flat = flat_told value pieces are c.have_nested.result none c.have_nested.ensures;
        one_form = form_told value pieces are c.have_one_shape.result one c.have_one_shape.ensures;
        finite = c.in_ok-is_finite.ensures.exact.0 finite;
        single = times.0 (exact.0 single);
      },
      IsCharged_trans c.args.meter.now c.is_finite.new.meter c.are_single.new.meter c.in_ok-is_finite.ensures.meter
          c.in_ok-are_single.ensures.meter,
    )
