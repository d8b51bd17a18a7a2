use Rattle.std.proofs.Common.{◌<◌, ap, ◌∙◌, arith, rules, length, map}
use Rattle.std.proofs.lemmas.List.{take_all}
use Rattle.isl_space.specs.Space.{space_form_of}
use Rattle.isl_row_text.specs.Ordered.{in_order}
use Rattle.isl_row_text.proofs.OrderedLaws.{in_order-from_sort_by}
use Rattle.isl_pip.specs.Least.{space_before, space_cmp}
use Rattle.isl_pip.proofs.OrderLaws.{mapped_more, ordered_are, space_cmp_total}
use Rattle.isl_pip.proofs.order.ordered_spaces.Goals as goal

pub loop-space-preserved : goal.loop-space-preserved
loop-space-preserved c =
    let items = c.as_slice-space-items.result.now in
    let inside : c.loop-space.space-index < length items = omega arith in
    mapped_more (λ t. space_form_of t.space) space_form_of c.loop-space.ordered.items c.push.new.self.items _ items c.loop-space.space-index
    c.space-item.result c.in_ok-push.ensures.items inside c.space-item.is c.in_ok-own.ensures c.loop-space.invariant

pub returns : goal.returns
returns c =
    ordered_are c.args.pieces.now (map space_form_of c.in_ok-spaces.spaces.items) _ c.in_ok-spaces.ensures
    (in_order-from_sort_by (λ t. space_form_of t.space) space_cmp space_cmp_total c.loop-space.ordered.items c.sort_by.new.self.items
    c.in_ok-sort_by.ensures.sorted c.in_ok-sort_by.ensures.stable (λ f a r g h. search rules)
    ∙ ap (in_order space_before) (c.loop-space.invariant
    ∙ ap (map space_form_of) (take_all _ _ c.loop-space-test.false ∙ c.as_slice-space-items.ensures.value)))
