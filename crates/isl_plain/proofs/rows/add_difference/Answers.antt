use Rattle.std.proofs.Common.{◌≡◌, ◌∙◌, ◌+◌, ap, sym, length, map, true, false, subst}
use Rattle.std.specs.Prelude.{All}
use Rattle.isl_meter.specs.Gauge.{Gauge, IsWithin, overflown}
use Rattle.isl_plain.specs.Linear.{turned, amounts_of}
use Rattle.isl_plain.specs.Width.{width_of, place_in}
use Rattle.isl_plain.proofs.PassLaws.{match_weaker, place_inside, length-with_amounts', difference_first, difference_second}
use Rattle.isl_plain.proofs.PassLaws.{difference_last, difference_added}
use Rattle.isl_plain.proofs.rows.add_difference.Goals as goal

pub returns-in-Err : goal.returns-in-Err
returns-in-Err c = (
  difference_first c.args.meter.now (width_of c.args.places.now) (place_in c.args.places.now) c.args.row.now c.args.greater.now
      c.args.less.now c.args.last c.in-Err.ensures.0,
  c.in-Err.ensures.1,
)

pub add_term-requires-2-clause-width : goal.add_term-requires-2-clause-width
add_term-requires-2-clause-width c =
    length-with_amounts' c.args.row.now c.add_term.new.row
    (map (turned false) (amounts_of (width_of c.args.places.now) (place_in c.args.places.now) c.args.greater.now)) _ c.in_default.ensures.0
    c.requires.width

pub returns-in-Err-add_term : goal.returns-in-Err-add_term
returns-in-Err-add_term c =
    let first = c.in_default.ensures in
    let second = c.in-Err-add_term.ensures in (
      difference_second c.args.meter.now (width_of c.args.places.now) (place_in c.args.places.now) c.args.row.now c.args.greater.now
          c.args.less.now c.args.last c.add_term.new.meter c.add_term.new.row first.2 first.0 second.0,
      second.1 ∙ ap overflown first.2,
    )

pub take_one-requires : goal.take_one-requires
take_one-requires c =
    let n = width_of c.args.places.now in
    let place = place_in c.args.places.now in
    let first = length-with_amounts' c.args.row.now c.add_term.new.row (map (turned false) (amounts_of n place c.args.greater.now)) (n + 1)
    c.in_default.ensures.0 c.requires.width in
    let second = length-with_amounts' c.add_term.new.row c.add_term-2.new.row (map (turned true) (amounts_of n place c.args.less.now))
    (n + 1) c.in_default-add_term.ensures.0 first in
    record {
      inside = place_inside c.args.last n (length c.add_term-2.new.row) second c.requires.inside;
      within =
          subst (λ (m : Gauge). All (IsWithin m) c.add_term-2.new.row) (sym c.in_default-add_term.ensures.2)
          c.in_default-add_term.ensures.1;
    }

pub returns : goal.returns
returns c =
    let n = width_of c.args.places.now in
    let place = place_in c.args.places.now in
    let first = c.in_default.ensures in
    let second = c.in_default-add_term.ensures in
    let meters : c.add_term-2.new.meter ≡ c.args.meter.now = second.2 ∙ first.2 in
    match_weaker c.take_one.result _ _ _ _
    (λ u h. (
      difference_added c.args.meter.now n place c.args.row.now c.args.greater.now c.args.less.now c.args.last c.add_term.new.row
          c.add_term-2.new.row c.take_one.new.row first.0 second.0 h.0,
      subst (λ (m : Gauge). All (IsWithin m) c.take_one.new.row) meters h.1,
      h.2
          ∙ meters,
    ))
    (λ e h. (
      difference_last c.args.meter.now n place c.args.row.now c.args.greater.now c.args.less.now c.args.last c.add_term-2.new.meter
          c.add_term.new.row c.add_term-2.new.row meters first.0 second.0 h.0,
      h.1 ∙ ap overflown meters,
    ))
    c.take_one.ensures
