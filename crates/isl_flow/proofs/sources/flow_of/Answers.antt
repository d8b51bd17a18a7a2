use Rattle.std.proofs.Common.{◌↔◌, get_or}
use Rattle.std.specs.List.{All}
use Rattle.isl_meter.proofs.CutLemmas.{IsCharged_trans}
use Rattle.isl_space.specs.Element.{Element}
use Rattle.isl_space.specs.Valuation.{Valuation}
use Rattle.isl_union.specs.KeptValue.{Has, HasNoDefinitions}
use Rattle.isl_images.specs.Made.{elements_of_all, IsPlain}
use Rattle.isl_relation.specs.Flow.{LastHas, UnsourcedHas}
use Rattle.isl_flow.specs.Last.{ShowsLast, ShowsSink}
use Rattle.isl_precedence.specs.Precedence.{IsPlainPrecedence}
use Rattle.isl_precedence.proofs.OrderLaws.{accessed_later, sound_later}
use Rattle.isl_flow.proofs.SinkLaws.{maps_have, seen_have, value_made, value_same}
use Rattle.isl_flow.proofs.SourceLaws.{last_same, unsourced_same}
use Rattle.isl_flow.proofs.sources.flow_of.Goals as goal

pub live_precedences-requires : goal.live_precedences-requires
live_precedences-requires c =
    let is = c.requires.aligned.3 in
    record {
      sources = λ k d l. record { sound = is.sources.sound k d l; within = is.sources.within k d l };
      sinks = λ k d l. record { sound = is.sinks.sound k d l; within = is.sinks.within k d l };
      times = λ k d l. record { sound = is.times.sound k d l; within = is.times.within k d l };
      narrow = c.requires.narrow;
    }

pub last_pieces-requires : goal.last_pieces-requires
last_pieces-requires c = record {
  found = rw c.as_slice.ensures.value (λ k d l.
      accessed_later c.args.meter.now c.live_precedences.new.meter c.args.operands.params (get_or c.in_ok-found.found.items k d)
      c.in_ok-found.ensures.meter (c.in_ok-found.ensures.made.sound k d l));
}

pub sink_pieces-requires : goal.sink_pieces-requires
sink_pieces-requires c = record {
  found = rw c.as_slice-2.ensures.value (λ k d l.
      accessed_later c.args.meter.now c.last_pieces.new.meter c.args.operands.params (get_or c.in_ok-found.found.items k d)
      (IsCharged_trans c.args.meter.now c.live_precedences.new.meter c.last_pieces.new.meter c.in_ok-found.ensures.meter
      c.in_ok-last.ensures.meter)
      (c.in_ok-found.ensures.made.sound k d l));
}

pub pieces_without-requires : goal.pieces_without-requires
pieces_without-requires c =
    let g = c.args.meter.now in
    let h = c.live_precedences.new.meter in
    let j = c.last_pieces.new.meter in
    let k = c.sink_pieces.new.meter in
    let params = c.args.operands.params in
    let is = c.requires.aligned.3 in
    let to_j = IsCharged_trans g h j c.in_ok-found.ensures.meter c.in_ok-last.ensures.meter in
    let to_k = IsCharged_trans g j k to_j c.in_ok-seen.ensures.meter in
    let maps = (rw c.as_slice-3.ensures.value at c.in_ok-sinks.ensures) g params
    (λ i d l. record { sound = is.sinks.sound i d l; within = is.sinks.within i d l }) in
    let seen = rw c.as_slice-2.ensures.value at c.in_ok-seen.ensures.made in
    record {
      params = is.well_formed;
      pieces = λ i d l. sound_later g k params (get_or c.in_ok-sinks.sinks.items i d) to_k (maps.sound i d l);
      others = λ i d l. sound_later j k params (get_or c.in_ok-seen.seen.items i d) c.in_ok-seen.ensures.meter (seen.sound i d l);
    }

pub returns-clause-made : goal.returns-clause-made
returns-clause-made c m n t is =
    let g = c.args.meter.now in
    let h = c.live_precedences.new.meter in
    let j = c.last_pieces.new.meter in
    let k = c.sink_pieces.new.meter in
    let operands = c.args.operands in
    let params = operands.params in
    let sources = operands.sources.items in
    let sinks = operands.sinks.items in
    let times = operands.times.items in
    let found = c.in_ok-found.found.items in
    let are = c.in_ok-found.ensures.made in
    let to_h = c.in_ok-found.ensures.meter in
    let to_j = IsCharged_trans g h j to_h c.in_ok-last.ensures.meter in
    let to_k = IsCharged_trans g j k to_j c.in_ok-seen.ensures.meter in
    let Simple = HasNoDefinitions m × HasNoDefinitions n × HasNoDefinitions t in
    let plain : Simple → All IsPlainPrecedence found =
    λ none. are.plain ((is.sources.definitions none.0, is.sinks.definitions none.1), is.times.definitions none.2) in
    let Raw = (All IsPlain sources × All IsPlain sinks) × All IsPlain times in
    let last = rw c.as_slice.ensures.value at c.in_ok-last.ensures.made in
    let seen = rw c.as_slice-2.ensures.value at c.in_ok-seen.ensures.made in
    let maps = (rw c.as_slice-3.ensures.value at c.in_ok-sinks.ensures) g params
    (λ i d l. record { sound = is.sinks.sound i d l; within = is.sinks.within i d l }) in
    let some = c.in_ok-sinks.sinks.items in
    let shown = c.in_ok-seen.seen.items in
    let same : (v : Valuation) (e : Element) → (elements_of_all params some v e × (¬ elements_of_all params shown v e))
    ↔ UnsourcedHas (Has m v) (Has n v) (Has t v) e = λ v e.
    let a = maps_have g params n sinks is.sinks g _ some maps v e in
    let b = seen_have j params (All IsPlainPrecedence found) (λ at. ShowsSink params at.0 at.1 found) shown seen v e in
    let u = unsourced_same g params m n t sources sinks times is.sources is.sinks is.times g Raw found are v e in (
      (λ x. let y = a.0 x.0 in u.0 (y.0, y.1, λ s. x.1 (b.1 s))),
      (λ w. let x = u.1 w in (a.1 (x.0, x.1), λ y. x.2 (b.0 y))),
    ) in
    record {
      last = value_made g h params is.well_formed to_h (All IsPlainPrecedence found) Simple (λ at. ShowsLast params at.0 at.1 found)
          (λ v e. LastHas (Has m v) (Has n v) (Has t v) e) plain
          (λ v e. last_same g params m n t sources sinks times is.sources is.sinks is.times g Raw found are v e)
          c.in_ok-last.last.items last c.from_normal-last.result (rw c.in_ok-copy.ensures at c.from_normal-last.ensures);
      unsourced = value_same g k params to_k (All IsPlain some × All IsPlain shown) Simple
          (λ v e. elements_of_all params some v e × (¬ elements_of_all params shown v e))
          (λ v e. UnsourcedHas (Has m v) (Has n v) (Has t v) e)
          (λ none. (maps.plain (is.sinks.definitions none.1), seen.plain (plain none))) same c.in_ok-unsourced.unsourced
          c.in_ok-unsourced.ensures.made;
    }
