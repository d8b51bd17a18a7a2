use Rattle.std.proofs.Common.{inl, inr, refl, sym, ◌∙◌, get_or}
use Rattle.std.proofs.lemmas.Bool.{false≢true}
use Rattle.std.proofs.lemmas.Result.{err_from_is_err_and}
use Rattle.isl_meter.proofs.CutLemmas.{IsCharged_trans, IsCutBy-after}
use Rattle.isl_union.specs.KeptValue.{Has, HasNoDefinitions}
use Rattle.isl_relation.specs.Flow.{AnyHas}
use Rattle.isl_relation.specs.Formed.{FormsAccess}
use Rattle.isl_relation.specs.Wide.{PairsTooWide}
use Rattle.isl_images.proofs.MadeLaws.{value_has, value_kept, value_plain, value_small}
use Rattle.isl_precedence.proofs.FlowLaws.{any_made}
use Rattle.isl_precedence.proofs.OrderLaws.{precedence_later}
use Rattle.isl_precedence.proofs.WideLaws.{narrow_pairs, wide_exactly}
use Rattle.isl_precedence.proofs.before.any.Goals as goal

pub have_wide_access-requires-clause-sources : goal.have_wide_access-requires-clause-sources
have_wide_access-requires-clause-sources c = λ k d l. (c.pieces.ensures.well_formed k d l).kept.space

pub have_wide_access-requires-clause-sinks : goal.have_wide_access-requires-clause-sinks
have_wide_access-requires-clause-sinks c = λ k d l. (c.pieces-2.ensures.well_formed k d l).kept.space

pub precedences-requires-clause-narrow : goal.precedences-requires-clause-narrow
precedences-requires-clause-narrow c =
    let m = c.args.m.now in
    let n = c.args.n.now in
    let operands = c.in_ok-operands.operands in
    let is = c.in_ok-operands.ensures.exact in
    let exact = wide_exactly m n c.pieces.result.now c.pieces-2.result.now c.pieces.ensures.content c.pieces-2.ensures.content in
    let never : ¬ PairsTooWide FormsAccess m n =
    λ wide. false≢true (sym c.if-branch.false ∙ c.in_ok-have_wide_access.ensures.1 (exact.1 wide)) in
    rw (c.as_slice-sources.ensures.value, c.as_slice-sinks.ensures.value)
    (narrow_pairs c.args.meter.now m n operands.params operands.sources.items operands.sinks.items is.sources is.sinks never)

pub all_pieces_of-requires : goal.all_pieces_of-requires
all_pieces_of-requires c = record {
  precedences = rw c.as_slice.ensures.value (λ k d l.
      precedence_later c.args.meter.now c.precedences.new.meter c.in_ok-operands.operands.params (get_or c.in_ok-found.found.items k d)
      c.in_ok-found.ensures.meter (c.in_ok-found.ensures.made.sound k d l).precedence);
}

pub returns-then-branch-clause-units : goal.returns-then-branch-clause-units
returns-then-branch-clause-units c =
    let exact = wide_exactly c.args.m.now c.args.n.now c.pieces.result.now c.pieces-2.result.now c.pieces.ensures.content
    c.pieces-2.ensures.content in
    (inr (c.in_ok-operands.ensures.faults, exact.0 (c.in_ok-have_wide_access.ensures.0 c.if-branch.true)), refl)

pub returns-in_err-found-clause-units : goal.returns-in_err-found-clause-units
returns-in_err-found-clause-units c =
    let exact = wide_exactly c.args.m.now c.args.n.now c.pieces.result.now c.pieces-2.result.now c.pieces.ensures.content
    c.pieces-2.ensures.content in
    let never : ¬ PairsTooWide FormsAccess c.args.m.now c.args.n.now =
    λ wide. false≢true (sym c.if-branch.false ∙ c.in_ok-have_wide_access.ensures.1 (exact.1 wide)) in
    let fault = err_from_is_err_and c.from_residual-in_err-found.result c.from_residual-in_err-found.ensures.1 in
    rw (fault.1, fault.2) (inl (c.in_ok-operands.ensures.faults, never), c.in_err-found.ensures.meter)

pub returns-in_err-made-clause-units : goal.returns-in_err-made-clause-units
returns-in_err-made-clause-units c =
    let exact = wide_exactly c.args.m.now c.args.n.now c.pieces.result.now c.pieces-2.result.now c.pieces.ensures.content
    c.pieces-2.ensures.content in
    let never : ¬ PairsTooWide FormsAccess c.args.m.now c.args.n.now =
    λ wide. false≢true (sym c.if-branch.false ∙ c.in_ok-have_wide_access.ensures.1 (exact.1 wide)) in
    let fault = err_from_is_err_and c.from_residual-in_err-made.result c.from_residual-in_err-made.ensures.1 in
    rw (fault.1, fault.2) (
      inl (c.in_ok-operands.ensures.faults, never),
      IsCutBy-after c.args.meter.now c.precedences.new.meter c.all_pieces_of.new.meter c.in_err-made.field-0.0 c.in_ok-found.ensures.meter
          c.in_err-made.ensures.meter,
    )

pub returns-clause-kept : goal.returns-clause-kept
returns-clause-kept c =
    let m = c.args.m.now in
    let n = c.args.n.now in
    let t = c.args.t.now in
    let g = c.args.meter.now in
    let operands = c.in_ok-operands.operands in
    let is = c.in_ok-operands.ensures.exact in
    let found = rw (c.as_slice-sources.ensures.value, c.as_slice-sinks.ensures.value, c.as_slice-times.ensures.value) at
    c.in_ok-found.ensures.made in
    let pieces = rw c.as_slice.ensures.value at c.in_ok-made.ensures.made in
    let Simple = HasNoDefinitions m × HasNoDefinitions n × HasNoDefinitions t in
    let made = any_made g operands.params m n t operands.sources.items operands.sinks.items operands.times.items is.sources is.sinks
    is.times
    c.precedences.new.meter c.in_ok-found.ensures.meter c.in_ok-found.found.items c.in_ok-made.made.items found pieces in
    value_kept g operands.params Simple (λ v e. AnyHas (Has m v) (Has n v) (Has t v) e) c.in_ok-made.made.items made c.from_normal.result
    c.from_normal.ensures is.well_formed

pub returns-clause-elements : goal.returns-clause-elements
returns-clause-elements c v e =
    let m = c.args.m.now in
    let n = c.args.n.now in
    let t = c.args.t.now in
    let g = c.args.meter.now in
    let operands = c.in_ok-operands.operands in
    let is = c.in_ok-operands.ensures.exact in
    let found = rw (c.as_slice-sources.ensures.value, c.as_slice-sinks.ensures.value, c.as_slice-times.ensures.value) at
    c.in_ok-found.ensures.made in
    let pieces = rw c.as_slice.ensures.value at c.in_ok-made.ensures.made in
    let Simple = HasNoDefinitions m × HasNoDefinitions n × HasNoDefinitions t in
    let made = any_made g operands.params m n t operands.sources.items operands.sinks.items operands.times.items is.sources is.sinks
    is.times
    c.precedences.new.meter c.in_ok-found.ensures.meter c.in_ok-found.found.items c.in_ok-made.made.items found pieces in
    value_has g operands.params Simple (λ v e. AnyHas (Has m v) (Has n v) (Has t v) e) c.in_ok-made.made.items made c.from_normal.result
    c.from_normal.ensures v e

pub returns-clause-definitions : goal.returns-clause-definitions
returns-clause-definitions c first second third =
    let m = c.args.m.now in
    let n = c.args.n.now in
    let t = c.args.t.now in
    let g = c.args.meter.now in
    let operands = c.in_ok-operands.operands in
    let is = c.in_ok-operands.ensures.exact in
    let found = rw (c.as_slice-sources.ensures.value, c.as_slice-sinks.ensures.value, c.as_slice-times.ensures.value) at
    c.in_ok-found.ensures.made in
    let pieces = rw c.as_slice.ensures.value at c.in_ok-made.ensures.made in
    let Simple = HasNoDefinitions m × HasNoDefinitions n × HasNoDefinitions t in
    let made = any_made g operands.params m n t operands.sources.items operands.sinks.items operands.times.items is.sources is.sinks
    is.times
    c.precedences.new.meter c.in_ok-found.ensures.meter c.in_ok-found.found.items c.in_ok-made.made.items found pieces in
    value_plain g operands.params Simple (λ v e. AnyHas (Has m v) (Has n v) (Has t v) e) c.in_ok-made.made.items made c.from_normal.result
    c.from_normal.ensures (first, second, third)

pub returns-clause-numbers : goal.returns-clause-numbers
returns-clause-numbers c =
    let m = c.args.m.now in
    let n = c.args.n.now in
    let t = c.args.t.now in
    let g = c.args.meter.now in
    let operands = c.in_ok-operands.operands in
    let is = c.in_ok-operands.ensures.exact in
    let found = rw (c.as_slice-sources.ensures.value, c.as_slice-sinks.ensures.value, c.as_slice-times.ensures.value) at
    c.in_ok-found.ensures.made in
    let pieces = rw c.as_slice.ensures.value at c.in_ok-made.ensures.made in
    let Simple = HasNoDefinitions m × HasNoDefinitions n × HasNoDefinitions t in
    let made = any_made g operands.params m n t operands.sources.items operands.sinks.items operands.times.items is.sources is.sinks
    is.times
    c.precedences.new.meter c.in_ok-found.ensures.meter c.in_ok-found.found.items c.in_ok-made.made.items found pieces in
    value_small g operands.params Simple (λ v e. AnyHas (Has m v) (Has n v) (Has t v) e) c.in_ok-made.made.items made c.from_normal.result
    c.from_normal.ensures

pub returns-clause-units : goal.returns-clause-units
returns-clause-units c =
    let exact = wide_exactly c.args.m.now c.args.n.now c.pieces.result.now c.pieces-2.result.now c.pieces.ensures.content
    c.pieces-2.ensures.content in
    let never : ¬ PairsTooWide FormsAccess c.args.m.now c.args.n.now =
    λ wide. false≢true (sym c.if-branch.false ∙ c.in_ok-have_wide_access.ensures.1 (exact.1 wide)) in (
      c.in_ok-operands.ensures.faults,
      never,
      IsCharged_trans c.args.meter.now c.precedences.new.meter c.all_pieces_of.new.meter c.in_ok-found.ensures.meter
          c.in_ok-made.ensures.meter,
    )
