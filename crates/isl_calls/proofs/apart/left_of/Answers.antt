use Rattle.std.proofs.Common.{◌≡◌, sym, subst, arith, [], map}
use Rattle.isl_piece.specs.declared.system.System.{System}
use Rattle.isl_piece.specs.System.{IsSystemWithin, free_columns}
use Rattle.isl_space.specs.declared.shape.Shape.{Shape}
use Rattle.isl_space.specs.Shape.{form_of}
use Rattle.isl_calls.specs.Apart.{called_form, AreSystemsFor}
use Rattle.isl_calls.proofs.ApartLaws.{for_have, left_made}
use Rattle.isl_calls.proofs.apart.left_of.Goals as goal

pub outside-requires-clause-others_within : goal.outside-requires-clause-others_within
outside-requires-clause-others_within c =
    let g = c.args.meter.now in
    let calls = c.args.calls.now in
    let same : c.deref.result.now ≡ calls.domain.value = grind arith in
    let are = subst (λ (s : Shape). AreSystemsFor (form_of s) c.args.earlier.now (map (λ s. s.now) c.in_ok-others.others.items)) same
    c.in_ok-others.ensures in
    rw c.as_slice.ensures.value (for_have (IsSystemWithin g) (called_form calls) c.args.earlier.now (map (λ s. s.now) c.in_ok-others.others.items)
    are (λ k d l e. (c.requires.earlier_sound k d l).within))

pub outside-requires-clause-columns : goal.outside-requires-clause-columns
outside-requires-clause-columns c =
    let calls = c.args.calls.now in
    let same : c.deref.result.now ≡ calls.domain.value = grind arith in
    let are = subst (λ (s : Shape). AreSystemsFor (form_of s) c.args.earlier.now (map (λ s. s.now) c.in_ok-others.others.items)) same
    c.in_ok-others.ensures in
    rw c.as_slice.ensures.value (for_have (λ s. free_columns s ≡ free_columns calls.system) (called_form calls) c.args.earlier.now
    (map (λ s. s.now) c.in_ok-others.others.items) are (λ k d l e. sym (c.requires.columns k d l (sym e))))

pub returns-clause-left : goal.returns-clause-left
returns-clause-left c =
    let g = c.args.meter.now in
    let calls = c.args.calls.now in
    let others = map (λ s. s.now) c.in_ok-others.others.items in
    let left = c.in_ok-left.left.items in
    let same : c.deref.result.now ≡ calls.domain.value = grind arith in
    let are = subst (λ (s : Shape). AreSystemsFor (form_of s) c.args.earlier.now others) same c.in_ok-others.ensures in
    let exact = rw c.as_slice.ensures.value at c.in_ok-left.ensures.exact in
    let plain = (rw c.as_slice.ensures.value at c.in_ok-left.ensures.definitions) c.requires.sound.plain
    (for_have (λ (s : System). s.definitions ≡ []) (called_form calls) c.args.earlier.now others are
    (λ k d l e. (c.requires.earlier_sound k d l).plain)) in
    left_made g calls c.args.earlier.now others left c.in_ok-parts_of.field-0.items c.requires.sound are exact.0 plain
    c.in_ok-parts_of.ensures.systems c.in_ok-parts_of.ensures.like
