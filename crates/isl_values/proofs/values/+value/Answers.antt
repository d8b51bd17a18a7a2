use Rattle.std.proofs.Common.{◌∙◌, ◌<◌, length, ap, sym, subst, refl, arith, rules}
use Rattle.std.specs.Option.{option_copied}
use Rattle.std.specs.Prelude.{IfOk, MatchResult, unsigned_abs}
use Rattle.isl_meter.specs.Gauge.{limit_of}
use Rattle.isl_operators.specs.Flow.{AnyHas}
use Rattle.isl_union.specs.KeptValue.{KeptValue, Has}
use Rattle.isl_kinds.specs.Typed.{has_unknown}
use Rattle.isl_values.specs.declared.dependence.Accesses.{Accesses}
use Rattle.isl_state.specs.declared.list.ListPart.{ListPart}
use Rattle.isl_values.specs.Ends.{EndsPostfix, GoesOn}
use Rattle.isl_state.specs.State.{scope_of, HasNumbersUpTo}
use Rattle.isl_values.specs.Worked.{PartHas}
use Rattle.isl_values.proofs.KeptLaws.{name_makes, name_goes_on, literal_makes, literal_goes_on, literal_paid, literal_unmade}
use Rattle.isl_values.proofs.KeptLaws.{never_unbound}
use Rattle.isl_values.proofs.KeptLaws.{only_literal}
use Rattle.isl_values.proofs.DepthLaws.{first_smaller, links_smaller, link_smaller, argument_smaller, operand_smaller, postfixes_smaller}
use Rattle.isl_values.proofs.DepthLaws.{postfix_smaller, applied_smaller, any_smaller, last_smaller, sink_smaller, schedule_smaller}
use Rattle.isl_values.proofs.SameLaws.{same_any, same_part}
use Rattle.isl_values.proofs.ThreeLaws.{dependence_failed, dependence_goes, dependence_made, is_any, is_last, operands_failed, three_live}
use Rattle.isl_values.proofs.ThreeLaws.{three_within}
use Rattle.isl_values.proofs.ThreeLaws.{same_Any, same_Last, three_sound, three_made, three_goes, source_failed, sink_failed}
use Rattle.isl_values.proofs.ThreeLaws.{schedule_failed}
use Rattle.isl_values.proofs.ValueLaws.{fits_later, numbers_of, numbers_later, paid_same, match_map, ok_of, ok_map, IsMade, IsMadeAt}
use Rattle.isl_values.proofs.LinkLaws.{link_sound, link_failed, join_failed, row_step}
use Rattle.isl_values.proofs.PostfixLaws.{IsFollowed, IsWhyNotFollowed, postfix_sound, postfix_failed, post_step, item_followed}
use Rattle.isl_values.proofs.PostfixLaws.{inverse_followed, inverse_failed, inverse_goes_on, applied_sound, argument_failed}
use Rattle.isl_values.proofs.PostfixLaws.{application_followed, application_failed, application_goes_on}
use Rattle.isl_values.proofs.OperandLaws.{IsWhyNotMade, same_Row, first_sound, links_sound, first_failed, row_made}
use Rattle.isl_values.proofs.OperandLaws.{links_failed, row_goes_on}
use Rattle.isl_values.proofs.OperandLaws.{same_Post, operand_sound, postfixes_sound, operand_failed, post_made}
use Rattle.isl_values.proofs.OperandLaws.{postfixes_failed, post_goes_on}
use Rattle.isl_values.proofs.WordLaws.{same_Prefix, argument_sound, word_supported, prefixed_failed, word_made, word_failed, word_goes_on}
use Rattle.isl_values.proofs.values.+value.Goals as goal

-- ---- the operands behind the first
pub joined_past-part_of-requires : goal.joined_past-part_of-requires
joined_past-part_of-requires t c =
    let low : c.loop-link.link-index < length c.args.links.now = omega arith in (
      search (rules, link_smaller c.args.links.now _ _ low c.link-item.is),
      (
        link_sound c.args.state.now c.args.links.now _ _ low c.link-item.is c.requires.sound,
        fits_later _ _ _ c.loop-link.invariant.paid.charged c.requires.fits,
      ),
    )

pub joined_past-returns-in-Err : goal.joined_past-returns-in-Err
joined_past-returns-in-Err t c =
    let low : c.loop-link.link-index < length c.args.links.now = omega arith in record {
      made = link_failed c.args.state.now c.args.links.now _ _ low c.link-item.is _ _ _ _ c.loop-link.invariant _ _ c.in-Err.ensures.made;
      goes_on = tt;
    }

pub joined_past-joined-requires-clause-left : goal.joined_past-joined-requires-clause-left
joined_past-joined-requires-clause-left t c =
    let so_far = c.loop-link.invariant in
    numbers_later _ _ c.loop-link.left.value c.in-Ok.ensures.made.1.charged
    (numbers_later _ _ c.loop-link.left.value so_far.paid.charged so_far.made.numbers)

pub joined_past-joined-requires-clause-right : goal.joined_past-joined-requires-clause-right
joined_past-joined-requires-clause-right t c =
    numbers_of _ _ _ _ c.in-Ok.ensures.made.1.charged c.deref-in-loop-link.ensures c.in-Ok.ensures.made.0.numbers

pub joined_past-returns-in-Err-joined : goal.joined_past-returns-in-Err-joined
joined_past-returns-in-Err-joined t c =
    let low : c.loop-link.link-index < length c.args.links.now = omega arith in
    let state = c.args.state.now in
    let so_far = c.loop-link.invariant in
    let behind = subst (IsMade state c.link-item.result.operand c.loop-link.meter c.part_of.new.meter)
    (sym c.deref-in-loop-link.ensures) c.in-Ok.ensures.made in record {
      made = join_failed state c.args.links.now _ _ low c.link-item.is _ _ _ _ so_far _ _ behind _ _ c.in-Ok.ensures.goes_on
          c.in-Err-joined.ensures.made;
      goes_on = tt;
    }

pub joined_past-loop-link-preserved : goal.joined_past-loop-link-preserved
joined_past-loop-link-preserved t c =
    let low : c.loop-link.link-index < length c.args.links.now = omega arith in
    let state = c.args.state.now in
    let so_far = c.loop-link.invariant in
    let behind = subst (IsMade state c.link-item.result.operand c.loop-link.meter c.part_of.new.meter)
    (sym c.deref-in-loop-link.ensures) c.in-Ok.ensures.made in
    row_step state c.args.links.now _ _ low c.link-item.is _ _ _ _ so_far _ _ behind _ _ c.in-Ok.ensures.goes_on c.in-Ok-joined.ensures.made
    c.in-Ok-joined.ensures.goes_on

-- ---- what follows an operand
pub past_postfixes-followed-requires : goal.past_postfixes-followed-requires
past_postfixes-followed-requires t c =
    let low : c.loop-postfix.postfix-index < length c.args.postfixes.now = omega arith in
    let so_far = c.loop-postfix.invariant in (
      search (rules, postfix_smaller c.args.postfixes.now _ _ low c.postfix-item.is),
      (
        postfix_sound c.args.state.now c.args.postfixes.now _ _ low c.postfix-item.is c.requires.sound,
        (
          fits_later _ _ _ so_far.paid.charged c.requires.fits,
          (so_far.made.kept, (so_far.made.live, numbers_later _ _ c.loop-postfix.left.value so_far.paid.charged so_far.made.numbers)),
        ),
      ),
    )

pub past_postfixes-returns-in-Err : goal.past_postfixes-returns-in-Err
past_postfixes-returns-in-Err t c =
    let low : c.loop-postfix.postfix-index < length c.args.postfixes.now = omega arith in record {
      made = postfix_failed c.args.state.now c.args.postfixes.now _ _ low c.postfix-item.is _ _ _ _ c.loop-postfix.invariant _ _
          c.in-Err.ensures.made;
      goes_on = tt;
    }

pub past_postfixes-loop-postfix-preserved : goal.past_postfixes-loop-postfix-preserved
past_postfixes-loop-postfix-preserved t c =
    let low : c.loop-postfix.postfix-index < length c.args.postfixes.now = omega arith in
    post_step c.args.state.now c.args.postfixes.now _ _ low c.postfix-item.is _ _ _ _ c.loop-postfix.invariant _ _ c.in-Ok.ensures.made
    c.in-Ok.ensures.goes_on

pub followed-part_of-requires : goal.followed-part_of-requires
followed-part_of-requires t c = (
  search (rules, applied_smaller _ _ c.in-Apply.is),
  (applied_sound c.args.state.now _ _ c.in-Apply.is c.requires.sound, c.requires.fits),
)

pub followed-inverted-requires-clause-numbers : goal.followed-inverted-requires-clause-numbers
followed-inverted-requires-clause-numbers t c =
    subst (HasNumbersUpTo (unsigned_abs (limit_of c.args.meter.now))) (sym c.deref.ensures) c.requires.numbers

pub followed-applied_to-requires-clause-map : goal.followed-applied_to-requires-clause-map
followed-applied_to-requires-clause-map t c =
    numbers_of _ _ _ _ c.in-Ok.ensures.made.1.charged c.deref-in-Ok.ensures c.requires.numbers

pub followed-applied_to-requires-clause-argument : goal.followed-applied_to-requires-clause-argument
followed-applied_to-requires-clause-argument t c =
    numbers_of _ _ _ _ c.in-Ok.ensures.made.1.charged c.deref-in-Ok-2.ensures c.in-Ok.ensures.made.0.numbers

pub followed-returns-in-Inverse : goal.followed-returns-in-Inverse
followed-returns-in-Inverse t c =
    let state = c.args.state.now in
    let postfix = c.args.postfix.now in
    let one = c.deref.result.now in
    let g = c.args.meter.now in
    let h = c.inverted.new.meter in
    let e = c.inverted.ensures in record {
      made = subst (λ (v : KeptValue). MatchResult c.inverted.result (λ value. IsFollowed state postfix v g h value.value)
          (IsWhyNotFollowed state postfix v g h)) c.deref.ensures
          (match_map c.inverted.result _ _ _ _
          (λ value made. inverse_followed state postfix one g h c.in-Inverse.is value.value made)
          (λ refusal why. inverse_failed state postfix one g h c.in-Inverse.is refusal why) e);
      goes_on = ok_of c.inverted.result _ (λ value. inverse_goes_on state postfix c.args.operand.now.value g h c.in-Inverse.is);
    }

pub followed-returns-in-Ok : goal.followed-returns-in-Ok
followed-returns-in-Ok t c =
    let state = c.args.state.now in
    let postfix = c.args.postfix.now in
    let g = c.args.meter.now in
    let k = c.applied_to.new.meter in
    let left = c.deref-in-Ok.result.now in
    let is = c.in-Apply.is in
    let same = c.deref-in-Ok-2.ensures in
    let argument = c.in-Ok.ensures in
    let e = c.applied_to.ensures in record {
      made = subst (λ (v : KeptValue). MatchResult c.applied_to.result (λ value. IsFollowed state postfix v g k value.value)
          (IsWhyNotFollowed state postfix v g k)) c.deref-in-Ok.ensures
          (match_map c.applied_to.result _ _ _ _
          (λ value made. application_followed state postfix _ is left _ _ g _ k argument.made same value.value made)
          (λ refusal why. application_failed state postfix _ is left _ _ g _ k argument.made same refusal argument.goes_on why) e.made);
      goes_on = subst (λ (v : KeptValue). IfOk c.applied_to.result (λ _. GoesOn (EndsPostfix state v.params (Has v) postfix)))
          c.deref-in-Ok.ensures
          (ok_map c.applied_to.result _ _
          (λ value goes. application_goes_on state postfix _ is left _ _ g _ k argument.made same argument.goes_on goes) e.goes_on);
    }

pub followed-returns-in_ok-clone-in-Item-clause-made : goal.followed-returns-in_ok-clone-in-Item-clause-made
followed-returns-in_ok-clone-in-Item-clause-made t c =
    item_followed c.args.state.now c.args.postfix.now _ c.args.operand.now.value c.args.meter.now c.in-Item.is
    c.in_ok-clone-in-Item.field-0.value (search rules) c.requires.kept c.requires.live c.requires.numbers

pub followed-returns-in-Err : goal.followed-returns-in-Err
followed-returns-in-Err t c =
    record { made = argument_failed c.args.state.now _ _ c.in-Apply.is c.args.operand.now.value _ _ _ c.in-Err.ensures.made; goes_on = tt }

-- ---- an expression
pub part_of-unreachable-requires : goal.part_of-unreachable-requires
part_of-unreachable-requires t c =
    never_unbound c.args.state.now c.in-Name.name (sym c.get.ensures ∙ ap option_copied c.in-None.is)
    (sym (ap (has_unknown (scope_of c.args.state.now)) c.in-Name.is) ∙ c.requires.sound.known)

pub part_of-lowered-requires-clause-well_formed : goal.part_of-lowered-requires-clause-well_formed
part_of-lowered-requires-clause-well_formed t c =
    (only_literal (scope_of c.args.state.now) c.args.expr.now c.in-Literal.literal c.in-Literal.is c.requires.sound).1

pub part_of-returns-in_ok-shared-in-Some : goal.part_of-returns-in_ok-shared-in-Some
part_of-returns-in_ok-shared-in-Some t c = record {
  made = (
    name_makes c.args.state.now c.args.part (limit_of c.args.meter.now) c.args.expr.now c.in-Name.name c.in-Some.kept.now
        c.in_ok-shared-in-Some.field-0.value c.in-Name.is
        c.in_ok-shared-in-Some.ensures.shared (sym c.get.ensures ∙ ap option_copied c.in-Some.is) c.in_ok-shared-in-Some.ensures.kept
        c.in_ok-shared-in-Some.ensures.params c.in_ok-shared-in-Some.ensures.definitions
        c.requires.fits,
    paid_same _ c.args.meter.now c.args.meter.now refl,
  );
  goes_on = name_goes_on c.args.state.now c.args.expr.now c.in-Name.name c.in-Name.is;
}

pub part_of-returns-in-Literal : goal.part_of-returns-in-Literal
part_of-returns-in-Literal t c =
    let state = c.args.state.now in
    let is = c.in-Literal.is in
    let formed = (only_literal (scope_of state) _ _ is c.requires.sound).1 in record {
      made = match_map c.lowered.result _ _ _ (IsWhyNotMade state c.args.expr.now c.args.meter.now c.lowered.new.meter)
          (λ made one. (
            literal_makes state c.args.part (limit_of c.args.meter.now) _ _ made.value is formed one.0,
            literal_paid state.assumed _ _ _ _ is one.1,
          ))
          (λ refusal why. literal_unmade state _ _ _ _ refusal is why) c.lowered.ensures;
      goes_on = ok_of c.lowered.result _ (λ value. literal_goes_on state _ _ is);
    }

-- ---- a row
pub part_of-part_of-requires : goal.part_of-part_of-requires
part_of-part_of-requires t c =
    let is = same_Row _ _ _ _ _ c.in-Row.is c.get-in-Row.ensures refl in (
      search (rules, first_smaller _ _ _ is),
      (first_sound c.args.state.now _ _ _ is c.requires.sound, c.requires.fits),
    )

pub part_of-joined_past-requires : goal.part_of-joined_past-requires
part_of-joined_past-requires t c =
    let is = same_Row _ _ _ _ _ c.in-Row.is c.get-in-Row.ensures c.as_slice.ensures in
    let one = c.in-Ok.ensures.made in (
      search (rules, links_smaller _ _ _ is),
      (
        links_sound c.args.state.now _ _ _ is c.requires.sound,
        (fits_later _ _ _ one.1.charged c.requires.fits, (numbers_later _ _ c.in-Ok.left.value one.1.charged one.0.numbers, one.0.live)),
      ),
    )

pub part_of-returns-in-Ok : goal.part_of-returns-in-Ok
part_of-returns-in-Ok t c =
    let state = c.args.state.now in
    let is = same_Row _ _ _ _ _ c.in-Row.is c.get-in-Row.ensures c.as_slice.ensures in
    let g = c.args.meter.now in
    let k = c.joined_past.new.meter in
    let one = c.in-Ok.ensures in
    let e = c.joined_past.ensures in record {
      made = match_map c.joined_past.result _ _ _ _
          (λ made all. row_made state _ _ _ is g _ k _ one.made c.args.part made.value all)
          (λ refusal why. links_failed state _ _ _ is g _ k _ one.made refusal one.goes_on why) e.made;
      goes_on = ok_map c.joined_past.result _ _ (λ made goes. row_goes_on state _ _ _ is g _ k _ one.made one.goes_on goes) e.goes_on;
    }

pub part_of-returns-in-Err : goal.part_of-returns-in-Err
part_of-returns-in-Err t c =
    let is = same_Row _ _ _ _ _ c.in-Row.is c.get-in-Row.ensures refl in
    record { made = first_failed c.args.state.now _ _ _ is _ _ _ c.in-Err.ensures.made; goes_on = tt }

-- ---- an operand with what follows it
pub part_of-part_of-requires-in-Post : goal.part_of-part_of-requires-in-Post
part_of-part_of-requires-in-Post t c =
    let is = same_Post _ _ _ _ _ c.in-Post.is c.get-in-Post.ensures refl in (
      search (rules, operand_smaller _ _ _ is),
      (operand_sound c.args.state.now _ _ _ is c.requires.sound, c.requires.fits),
    )

pub part_of-past_postfixes-requires : goal.part_of-past_postfixes-requires
part_of-past_postfixes-requires t c =
    let is = same_Post _ _ _ _ _ c.in-Post.is c.get-in-Post.ensures c.as_slice-postfixes.ensures in
    let one = c.in-Ok-part_of.ensures.made in (
      search (rules, postfixes_smaller _ _ _ is),
      (
        postfixes_sound c.args.state.now _ _ _ is c.requires.sound,
        (
          fits_later _ _ _ one.1.charged c.requires.fits,
          (numbers_later _ _ c.in-Ok-part_of.left.value one.1.charged one.0.numbers, one.0.live),
        ),
      ),
    )

pub part_of-returns-in-Ok-part_of : goal.part_of-returns-in-Ok-part_of
part_of-returns-in-Ok-part_of t c =
    let state = c.args.state.now in
    let is = same_Post _ _ _ _ _ c.in-Post.is c.get-in-Post.ensures c.as_slice-postfixes.ensures in
    let g = c.args.meter.now in
    let k = c.past_postfixes.new.meter in
    let one = c.in-Ok-part_of.ensures in
    let taken = subst (λ (at : ListPart). IsMadeAt state at c.get-in-Post.result.now c.args.meter.now c.part_of-in-Post.new.meter
    c.in-Ok-part_of.left.value) c.taken_part.ensures one.made in
    let e = c.past_postfixes.ensures in record {
      made = match_map c.past_postfixes.result _ _ _ _
          (λ made all. post_made state _ _ _ is g _ k _ taken c.args.part made.value all)
          (λ refusal why. postfixes_failed state _ _ _ is g _ k _ taken refusal one.goes_on why) e.made;
      goes_on = ok_map c.past_postfixes.result _ _ (λ made goes. post_goes_on state _ _ _ is g _ k _ taken one.goes_on goes) e.goes_on;
    }

pub part_of-returns-in-Err-part_of : goal.part_of-returns-in-Err-part_of
part_of-returns-in-Err-part_of t c =
    let is = same_Post _ _ _ _ _ c.in-Post.is c.get-in-Post.ensures refl in
    record { made = operand_failed c.args.state.now _ _ _ is _ _ _ c.in-Err-part_of.ensures.made; goes_on = tt }

-- ---- a word before an operand
pub part_of-part_of-requires-in-Prefix : goal.part_of-part_of-requires-in-Prefix
part_of-part_of-requires-in-Prefix t c =
    let is = same_Prefix _ _ _ _ c.in-Prefix.is c.get-in-Prefix.ensures in (
      search (rules, argument_smaller _ _ _ is),
      (argument_sound c.args.state.now _ _ _ is c.requires.sound, c.requires.fits),
    )

pub part_of-worded-requires-clause-numbers : goal.part_of-worded-requires-clause-numbers
part_of-worded-requires-clause-numbers t c =
    let one = c.in-Ok-part_of-2.ensures.made in
    numbers_later _ _ c.in-Ok-part_of-2.argument.value one.1.charged one.0.numbers

pub part_of-returns-in-Ok-part_of-2 : goal.part_of-returns-in-Ok-part_of-2
part_of-returns-in-Ok-part_of-2 t c =
    let state = c.args.state.now in
    let is = same_Prefix _ _ _ _ c.in-Prefix.is c.get-in-Prefix.ensures in
    let supported = word_supported state _ _ _ is c.requires.sound in
    let g = c.args.meter.now in
    let k = c.worded.new.meter in
    let one = c.in-Ok-part_of-2.ensures in
    let e = c.worded.ensures in record {
      made = match_map c.worded.result _ _ _ _
          (λ made all. word_made state _ _ _ is g _ k _ one.made c.args.part supported made.value all)
          (λ refusal why. word_failed state _ _ _ is g _ k _ one.made refusal one.goes_on why) e.made;
      goes_on = ok_map c.worded.result _ _ (λ made goes. word_goes_on state _ _ _ is g _ k _ one.made one.goes_on goes) e.goes_on;
    }

pub part_of-returns-in-Err-part_of-2 : goal.part_of-returns-in-Err-part_of-2
part_of-returns-in-Err-part_of-2 t c =
    let is = same_Prefix _ _ _ _ c.in-Prefix.is c.get-in-Prefix.ensures in
    record { made = prefixed_failed c.args.state.now _ _ _ is _ _ _ c.in-Err-part_of-2.ensures.made; goes_on = tt }

-- ---- any
pub part_of-three_of-requires : goal.part_of-three_of-requires
part_of-three_of-requires t c =
    let is = same_Any _ _ _ _ _ _ _ c.in-Any.is c.get-in-Any.ensures c.get-in-Any-2.ensures c.get-in-Any-3.ensures in
    let of = is_any c.args.state.now c.args.part _ _ _ _ is in
    let sound = three_sound _ _ _ _ _ _ AnyHas same_any of c.requires.sound in
    (search (rules, any_smaller _ _ _ _ is), (sound.0, (sound.1, (sound.2, c.requires.fits))))

pub part_of-preceding-requires : goal.part_of-preceding-requires
part_of-preceding-requires t c =
    let one = c.in-Ok-three_of.ensures.made in record {
      within = three_within c.args.state.now _ _ _ c.args.meter.now _ _ one.0 one.1;
      live = three_live c.args.state.now _ _ _ _ _ one.0;
      fits = fits_later _ _ _ one.1 c.requires.fits;
    }

pub part_of-returns-in-Ok-three_of : goal.part_of-returns-in-Ok-three_of
part_of-returns-in-Ok-three_of t c =
    let is = same_Any _ _ _ _ _ _ _ c.in-Any.is c.get-in-Any.ensures c.get-in-Any-2.ensures c.get-in-Any-3.ensures in
    let of = is_any c.args.state.now c.args.part _ _ _ _ is in
    let g = c.args.meter.now in
    let k = c.preceding.new.meter in
    let one = c.in-Ok-three_of.ensures in
    let e = c.preceding.ensures in record {
      made = match_map c.preceding.result _ _ _ _
          (λ value made. dependence_made _ _ _ _ _ _ AnyHas same_any of g _ k _ one.made.0 one.made.1 value.value made)
          (λ refusal why. dependence_failed _ _ _ _ _ _ AnyHas same_any of g _ k _ one.made.0 one.made.1 refusal one.goes_on why) e.made;
      goes_on = ok_map c.preceding.result _ _
          (λ value here. dependence_goes _ _ _ _ _ _ AnyHas same_any of g _ k _ one.made.0 one.made.1 one.goes_on here) e.goes_on;
    }

pub part_of-returns-in-Err-three_of : goal.part_of-returns-in-Err-three_of
part_of-returns-in-Err-three_of t c =
    let is = same_Any _ _ _ _ _ _ _ c.in-Any.is c.get-in-Any.ensures c.get-in-Any-2.ensures c.get-in-Any-3.ensures in
    let of = is_any c.args.state.now c.args.part _ _ _ _ is in
    record { made = operands_failed _ _ _ _ _ _ AnyHas same_any of _ _ _ c.in-Err-three_of.ensures.made; goes_on = tt }

-- ---- last
pub part_of-three_of-requires-in-Last : goal.part_of-three_of-requires-in-Last
part_of-three_of-requires-in-Last t c =
    let is = same_Last _ _ _ _ _ _ _ c.in-Last.is c.get-in-Last.ensures c.get-in-Last-2.ensures c.get-in-Last-3.ensures in
    let of = is_last c.args.state.now c.args.part _ _ _ _ is in
    let sound = three_sound _ _ _ _ _ _ (PartHas c.args.part) (same_part c.args.part) of c.requires.sound in
    (search (rules, last_smaller _ _ _ _ is), (sound.0, (sound.1, (sound.2, c.requires.fits))))

pub part_of-latest_part-requires : goal.part_of-latest_part-requires
part_of-latest_part-requires t c =
    let one = c.in-Ok-three_of-2.ensures.made in record {
      within = three_within c.args.state.now _ _ _ c.args.meter.now _ _ one.0 one.1;
      live = three_live c.args.state.now _ _ _ _ _ one.0;
      fits = fits_later _ _ _ one.1 c.requires.fits;
    }

pub part_of-returns-in-Ok-three_of-2 : goal.part_of-returns-in-Ok-three_of-2
part_of-returns-in-Ok-three_of-2 t c =
    let is = same_Last _ _ _ _ _ _ _ c.in-Last.is c.get-in-Last.ensures c.get-in-Last-2.ensures c.get-in-Last-3.ensures in
    let of = is_last c.args.state.now c.args.part _ _ _ _ is in
    let Depends = PartHas c.args.part in
    let on = same_part c.args.part in
    let g = c.args.meter.now in
    let k = c.latest_part.new.meter in
    let one = c.in-Ok-three_of-2.ensures in
    let e = c.latest_part.ensures in record {
      made = match_map c.latest_part.result _ _ _ _
          (λ value made. dependence_made _ _ _ _ _ _ Depends on of g _ k _ one.made.0 one.made.1 value.value made)
          (λ refusal why. dependence_failed _ _ _ _ _ _ Depends on of g _ k _ one.made.0 one.made.1 refusal one.goes_on why) e.made;
      goes_on = ok_map c.latest_part.result _ _
          (λ value here. dependence_goes _ _ _ _ _ _ Depends on of g _ k _ one.made.0 one.made.1 one.goes_on here) e.goes_on;
    }

pub part_of-returns-in-Err-three_of-2 : goal.part_of-returns-in-Err-three_of-2
part_of-returns-in-Err-three_of-2 t c =
    let is = same_Last _ _ _ _ _ _ _ c.in-Last.is c.get-in-Last.ensures c.get-in-Last-2.ensures c.get-in-Last-3.ensures in
    let of = is_last c.args.state.now c.args.part _ _ _ _ is in
    let made = operands_failed _ _ _ _ _ _ (PartHas c.args.part) (same_part c.args.part) of _ _ _ c.in-Err-three_of-2.ensures.made in
    record { made = made; goes_on = tt }

-- ---- source, sink and schedule
pub three_of-part_of-requires-2 : goal.three_of-part_of-requires-2
three_of-part_of-requires-2 t c = (
  search (rules, sink_smaller c.args.source.now c.args.sink.now c.args.schedule.now),
  (c.requires.sink, fits_later _ _ _ c.in-Ok.ensures.made.1.charged c.requires.fits),
)

pub three_of-part_of-requires-3 : goal.three_of-part_of-requires-3
three_of-part_of-requires-3 t c = (
  search (rules, schedule_smaller c.args.source.now c.args.sink.now c.args.schedule.now),
  (
    c.requires.schedule,
    fits_later c.part_of.new.meter _ _ c.in-Ok-part_of.ensures.made.1.charged
        (fits_later c.args.meter.now _ _ c.in-Ok.ensures.made.1.charged c.requires.fits),
  ),
)

pub three_of-returns-in-Err : goal.three_of-returns-in-Err
three_of-returns-in-Err t c =
    let made = source_failed c.args.state.now c.args.source.now c.args.sink.now c.args.schedule.now _ _ _ c.in-Err.ensures.made in
    record { made = made; goes_on = tt }

pub three_of-returns-in-Err-part_of : goal.three_of-returns-in-Err-part_of
three_of-returns-in-Err-part_of t c =
    let first = c.in-Ok.ensures in record {
      made = sink_failed c.args.state.now c.args.source.now c.args.sink.now c.args.schedule.now c.args.meter.now _ _ first.made first.goes_on
          _ _ c.in-Err-part_of.ensures.made;
      goes_on = tt;
    }

pub three_of-returns-in-Err-part_of-2 : goal.three_of-returns-in-Err-part_of-2
three_of-returns-in-Err-part_of-2 t c =
    let first = c.in-Ok.ensures in
    let second = c.in-Ok-part_of.ensures in record {
      made = schedule_failed c.args.state.now c.args.source.now c.args.sink.now c.args.schedule.now c.args.meter.now _ _ first.made
          first.goes_on _ _ second.made second.goes_on _ _ c.in-Err-part_of-2.ensures.made;
      goes_on = tt;
    }

pub three_of-returns-in-Ok-part_of-2 : goal.three_of-returns-in-Ok-part_of-2
three_of-returns-in-Ok-part_of-2 t c =
    let state = c.args.state.now in
    let source = c.args.source.now in
    let sink = c.args.sink.now in
    let schedule = c.args.schedule.now in
    let g = c.args.meter.now in
    let first = c.in-Ok.ensures in
    let second = c.in-Ok-part_of.ensures in
    let third = c.in-Ok-part_of-2.ensures in
    let three : Accesses = record { source = c.in-Ok.value; sink = c.in-Ok-part_of.value; schedule = c.in-Ok-part_of-2.schedule } in record {
      made = three_made state source sink schedule g _ _ first.made first.goes_on _ _ second.made second.goes_on _ three third.made refl refl;
      goes_on = three_goes state source sink schedule g _ _ first.made first.goes_on _ _ second.made second.goes_on _ three third.made
          third.goes_on;
    }
