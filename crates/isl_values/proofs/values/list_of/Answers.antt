-- Both values of a list.
use Rattle.std.proofs.Common.{◌∙◌, inl, ap, refl, sym}
use Rattle.std.specs.Option.{option_copied}
use Rattle.isl_meter.specs.Gauge.{limit_of}
use Rattle.isl_kinds.specs.Parts.{parts_of}
use Rattle.isl_kinds.specs.Typed.{has_unknown}
use Rattle.isl_state.specs.declared.list.ListPart.TheVariants.{First}
use Rattle.isl_values.specs.Ends.{Ends}
use Rattle.isl_state.specs.State.{scope_of}
use Rattle.isl_values.specs.Worked.{PartHas}
use Rattle.isl_values.proofs.KeptLaws.{name_both, never_unbound}
use Rattle.isl_values.proofs.SameLaws.{same_part}
use Rattle.isl_values.proofs.ThreeLaws.{dependence_failed, dependence_goes, is_last, list_made, operands_failed, three_live, three_within}
use Rattle.isl_values.proofs.ThreeLaws.{same_Last}
use Rattle.isl_values.proofs.ThreeLaws.{three_sound}
use Rattle.isl_values.proofs.WholeLaws.{literal_whole, row_whole, post_whole, word_whole, any_whole}
use Rattle.isl_values.proofs.ValueLaws.{both_map, fits_later, match_map, ok_map, paid_same, unmade_memory, work}
use Rattle.isl_values.proofs.values.list_of.Goals as goal

pub three_of-requires-clause-source : goal.three_of-requires-clause-source
three_of-requires-clause-source c =
    let is = same_Last _ _ _ _ _ _ _ c.in-Last.is c.get.ensures c.get-in-Last.ensures c.get-in-Last-2.ensures in
    let of = is_last c.args.state.now First _ _ _ _ is in
    (three_sound _ _ _ _ _ _ (PartHas First) (same_part First) of c.requires.sound).0

pub three_of-requires-clause-sink : goal.three_of-requires-clause-sink
three_of-requires-clause-sink c =
    let is = same_Last _ _ _ _ _ _ _ c.in-Last.is c.get.ensures c.get-in-Last.ensures c.get-in-Last-2.ensures in
    let of = is_last c.args.state.now First _ _ _ _ is in
    (three_sound _ _ _ _ _ _ (PartHas First) (same_part First) of c.requires.sound).1

pub three_of-requires-clause-schedule : goal.three_of-requires-clause-schedule
three_of-requires-clause-schedule c =
    let is = same_Last _ _ _ _ _ _ _ c.in-Last.is c.get.ensures c.get-in-Last.ensures c.get-in-Last-2.ensures in
    let of = is_last c.args.state.now First _ _ _ _ is in
    (three_sound _ _ _ _ _ _ (PartHas First) (same_part First) of c.requires.sound).2

pub latest-requires : goal.latest-requires
latest-requires c =
    let one = c.in-Ok.ensures.made in record {
      within = three_within c.args.state.now _ _ _ c.args.meter.now _ _ one.0 one.1;
      live = three_live c.args.state.now _ _ _ _ _ one.0;
      fits = fits_later _ _ _ one.1 c.requires.fits;
    }

pub unreachable-requires : goal.unreachable-requires
unreachable-requires c =
    never_unbound c.args.state.now c.in-Name.name (sym c.get-in-Name.ensures ∙ ap option_copied c.in-None.is)
    (sym (ap (has_unknown (scope_of c.args.state.now)) c.in-Name.is) ∙ c.requires.sound.known)

pub returns-in-Ok-clause-made : goal.returns-in-Ok-clause-made
returns-in-Ok-clause-made c =
    let is = same_Last _ _ _ _ _ _ _ c.in-Last.is c.get.ensures c.get-in-Last.ensures c.get-in-Last-2.ensures in
    let of = is_last c.args.state.now First _ _ _ _ is in
    let g = c.args.meter.now in
    let k = c.latest.new.meter in
    let one = c.in-Ok.ensures in
    match_map c.latest.result _ _ _ _
    (λ list made. list_made c.args.state.now _ _ _ _ is g _ k _ one.made.0 one.made.1 list made)
    (λ refusal why. dependence_failed _ _ _ _ _ _ (PartHas First)
    (same_part First) of g _ k _ one.made.0 one.made.1 refusal one.goes_on why)
    c.latest.ensures.made

pub returns-in-Ok-clause-goes_on : goal.returns-in-Ok-clause-goes_on
returns-in-Ok-clause-goes_on c =
    let is = same_Last _ _ _ _ _ _ _ c.in-Last.is c.get.ensures c.get-in-Last.ensures c.get-in-Last-2.ensures in
    let of = is_last c.args.state.now First _ _ _ _ is in
    let one = c.in-Ok.ensures in
    ok_map c.latest.result _ _
    (λ list here. dependence_goes _ _ _ _ _ _ (PartHas First) (same_part First) of c.args.meter.now _ c.latest.new.meter _ one.made.0
    one.made.1 one.goes_on here) c.latest.ensures.goes_on

pub returns-in-Err-clause-made : goal.returns-in-Err-clause-made
returns-in-Err-clause-made c =
    let is = same_Last _ _ _ _ _ _ _ c.in-Last.is c.get.ensures c.get-in-Last.ensures c.get-in-Last-2.ensures in
    let of = is_last c.args.state.now First _ _ _ _ is in
    operands_failed _ _ _ _ _ _ (PartHas First) (same_part First) of _ _ _ c.in-Err.ensures.made

pub returns-in-Some-clause-made : goal.returns-in-Some-clause-made
returns-in-Some-clause-made c =
    let state = c.args.state.now in
    let g = c.args.meter.now in
    let works = work state.assumed (parts_of c.args.expr.now) in
    both_map c.both_of.result _ _ _ _
    (λ list are. (
      name_both state (limit_of g) _ _ _ list c.in-Name.is (sym c.get-in-Name.ensures ∙ ap option_copied c.in-Some.is) are c.requires.fits,
      paid_same works g g refl,
    ))
    (λ refusal memory. inl (unmade_memory works (Ends state c.args.expr.now) g g refusal memory (paid_same works g g refl)))
    c.both_of.ensures.made c.both_of.ensures.faults

pub doubled-requires-clause-whole : goal.doubled-requires-clause-whole
doubled-requires-clause-whole c = literal_whole c.args.state.now c.args.expr.now _ c.in-Literal.is

pub doubled-requires-in-Row-clause-whole : goal.doubled-requires-in-Row-clause-whole
doubled-requires-in-Row-clause-whole c = row_whole c.args.state.now c.args.expr.now _ _ c.in-Row.is

pub doubled-requires-in-Post-clause-whole : goal.doubled-requires-in-Post-clause-whole
doubled-requires-in-Post-clause-whole c = post_whole c.args.state.now c.args.expr.now _ _ c.in-Post.is

pub doubled-requires-in-Prefix-clause-whole : goal.doubled-requires-in-Prefix-clause-whole
doubled-requires-in-Prefix-clause-whole c = word_whole c.args.state.now c.args.expr.now _ _ c.in-Prefix.is

pub doubled-requires-in-Any-clause-whole : goal.doubled-requires-in-Any-clause-whole
doubled-requires-in-Any-clause-whole c = any_whole c.args.state.now c.args.expr.now _ _ _ c.in-Any.is
