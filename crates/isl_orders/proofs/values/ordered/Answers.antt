use Rattle.std.proofs.Common.{inl, inr, refl, sym, ◌∙◌}
use Rattle.std.proofs.lemmas.Bool.{false≢true}
use Rattle.std.proofs.lemmas.Result.{err_from_is_err_and}
use Rattle.isl_union.specs.KeptValue.{Has}
use Rattle.isl_union.proofs.PiecesLaws.{through}
use Rattle.isl_union.proofs.UnitLaws.{from_charged}
use Rattle.isl_relation.specs.Wide.{PairsTooWide}
use Rattle.isl_images.specs.Made.{elements_of_all}
use Rattle.isl_images.proofs.MadeLaws.{value_has, value_kept, value_small}
use Rattle.isl_orders.specs.Comparison.{Forms, OrderedHas}
use Rattle.isl_orders.proofs.PairLaws.{pair_same}
use Rattle.isl_orders.proofs.WideLaws.{narrow_pairs, wide_exactly}
use Rattle.isl_orders.proofs.values.ordered.Goals as goal

pub have_wide-requires-clause-pieces : goal.have_wide-requires-clause-pieces
have_wide-requires-clause-pieces c = λ k d l. (c.pieces.ensures.well_formed k d l).kept.space

pub have_wide-requires-clause-others : goal.have_wide-requires-clause-others
have_wide-requires-clause-others c = λ k d l. (c.pieces-2.ensures.well_formed k d l).kept.space

pub all_compared-requires-clause-narrow : goal.all_compared-requires-clause-narrow
all_compared-requires-clause-narrow c =
    let operands = c.args.operands in
    let pair = c.in_ok-pair.pair in
    let exact = wide_exactly operands c.args.a.now c.args.b.now c.pieces.result.now c.pieces-2.result.now c.pieces.ensures.content
    c.pieces-2.ensures.content in
    let never : ¬ PairsTooWide (Forms operands) c.args.a.now c.args.b.now =
    λ wide. false≢true (sym c.if-branch.false ∙ c.in_ok-have_wide.ensures.1 (exact.1 wide)) in
    rw (c.as_slice.ensures.value, c.as_slice-2.ensures.value)
    (narrow_pairs operands c.args.meter.now c.args.a.now c.args.b.now pair.params pair.own.items pair.others.items
    c.in_ok-pair.ensures.exact
    never)

pub returns-clause-kept : goal.returns-clause-kept
returns-clause-kept c =
    let operands = c.args.operands in
    let order = c.args.order in
    let pair = c.in_ok-pair.pair in
    let own = c.as_slice.result.now in
    let others = c.as_slice-2.result.now in
    value_kept c.args.meter.now pair.params ⊥
    (λ v. OrderedHas operands order (elements_of_all pair.params own v) (elements_of_all pair.params others v)) c.in_ok-made.made.items
    c.in_ok-made.ensures.made c.from_normal.result c.from_normal.ensures c.in_ok-pair.ensures.exact.well_formed

pub returns-clause-elements : goal.returns-clause-elements
returns-clause-elements c v e =
    let operands = c.args.operands in
    let order = c.args.order in
    let pair = c.in_ok-pair.pair in
    let exact = c.in_ok-pair.ensures.exact in
    let own = pair.own.items in
    let others = pair.others.items in
    let made = rw (c.as_slice.ensures.value, c.as_slice-2.ensures.value) at c.in_ok-made.ensures.made in
    through
    (value_has c.args.meter.now pair.params ⊥
    (λ w. OrderedHas operands order (elements_of_all pair.params own w) (elements_of_all pair.params others w)) c.in_ok-made.made.items made
    c.from_normal.result c.from_normal.ensures v e)
    (pair_same operands order (elements_of_all pair.params own v) (Has c.args.a.now v) (elements_of_all pair.params others v)
    (Has c.args.b.now v)
    (exact.own.elements v) (exact.others.elements v) e)

pub returns-clause-numbers : goal.returns-clause-numbers
returns-clause-numbers c =
    let operands = c.args.operands in
    let order = c.args.order in
    let pair = c.in_ok-pair.pair in
    let own = c.as_slice.result.now in
    let others = c.as_slice-2.result.now in
    value_small c.args.meter.now pair.params ⊥
    (λ v. OrderedHas operands order (elements_of_all pair.params own v) (elements_of_all pair.params others v)) c.in_ok-made.made.items
    c.in_ok-made.ensures.made c.from_normal.result c.from_normal.ensures

pub returns-then-branch-clause-units : goal.returns-then-branch-clause-units
returns-then-branch-clause-units c =
    let exact = wide_exactly c.args.operands c.args.a.now c.args.b.now c.pieces.result.now c.pieces-2.result.now
    c.pieces.ensures.content c.pieces-2.ensures.content in
    (inr (c.in_ok-pair.ensures.faults, exact.0 (c.in_ok-have_wide.ensures.0 c.if-branch.true)), refl)

pub returns-in_err-made-clause-units : goal.returns-in_err-made-clause-units
returns-in_err-made-clause-units c =
    let operands = c.args.operands in
    let exact = wide_exactly operands c.args.a.now c.args.b.now c.pieces.result.now c.pieces-2.result.now c.pieces.ensures.content
    c.pieces-2.ensures.content in
    let never : ¬ PairsTooWide (Forms operands) c.args.a.now c.args.b.now =
    λ wide. false≢true (sym c.if-branch.false ∙ c.in_ok-have_wide.ensures.1 (exact.1 wide)) in
    let fault = err_from_is_err_and c.from_residual-in_err-made.result c.from_residual-in_err-made.ensures.1 in
    rw (fault.1, fault.2) (inl (c.in_ok-pair.ensures.faults, never), c.in_err-made.ensures.meter)

pub returns-clause-units : goal.returns-clause-units
returns-clause-units c =
    let exact = wide_exactly c.args.operands c.args.a.now c.args.b.now c.pieces.result.now c.pieces-2.result.now
    c.pieces.ensures.content c.pieces-2.ensures.content in (
      c.in_ok-pair.ensures.faults,
      (λ wide. false≢true (sym c.if-branch.false ∙ c.in_ok-have_wide.ensures.1 (exact.1 wide))),
      from_charged c.args.meter.now c.all_compared.new.meter c.in_ok-made.ensures.meter,
    )
