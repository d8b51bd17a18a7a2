use Rattle.std.proofs.Common.{length, subst, sym}
use Rattle.isl_union.specs.KeptValue.{Has, HasNoDefinitions}
use Rattle.isl_union.specs.Minus.{IsAlignedPair}
use Rattle.isl_union.proofs.CountLaws.{counted_value}
use Rattle.isl_union.proofs.PiecesLaws.{through}
use Rattle.isl_union.proofs.UnitLaws.{from_charged}
use Rattle.isl_products.specs.Made.{RemoveHas}
use Rattle.isl_products.proofs.PairLaws.{value_has, value_kept, value_numbers}
use Rattle.isl_products.proofs.RemoveLaws.{remove_has}
use Rattle.isl_products.proofs.remove.remove.Goals as goal

pub new-requires : goal.new-requires
new-requires c = λ k d l. (c.in_ok-pair.ensures.exact.others.sound k d l).kept.space

pub returns-clause-kept : goal.returns-clause-kept
returns-clause-kept c =
    value_kept c.in_ok-pair.pair.params c.in_ok-left.left.items c.from_normal.result c.from_normal.ensures
    c.in_ok-pair.ensures.exact.well_formed c.in_ok-left.ensures.sound

pub returns-clause-elements : goal.returns-clause-elements
returns-clause-elements c v e =
    let g = c.args.meter.now in
    let a = c.args.map.now in
    let b = c.args.set.now in
    let params = c.in_ok-pair.pair.params in
    let own = c.as_slice-own.result.now in
    let others = c.in_ok-others.others in
    let pair : IsAlignedPair g a b params own others =
    rw (c.as_slice-own.ensures.value, c.in_ok-others.ensures) c.in_ok-pair.ensures.exact in
    value_has params c.in_ok-left.left.items c.from_normal.result c.from_normal.ensures v e (RemoveHas c.args.place (Has a v) (Has b v) e)
    (through (c.in_ok-left.ensures.elements v e) (remove_has g c.args.place a b params own others pair v e))

pub returns-clause-numbers : goal.returns-clause-numbers
returns-clause-numbers c =
    value_numbers c.in_ok-pair.pair.params c.in_ok-left.left.items c.from_normal.result c.from_normal.ensures c.args.meter.now
    c.in_ok-left.ensures.numbers

pub returns-clause-counted : goal.returns-clause-counted
returns-clause-counted c =
    let counted = rw (c.as_slice-own.ensures.value, c.in_ok-pair.ensures.count) at c.in_ok-left.ensures.counted in
    counted_value c.args.meter.now c.pieces_without.new.meter c.in_ok-pair.pair.params c.in_ok-left.left.items c.from_normal.result
    (length c.args.map.now.pieces) c.from_normal.ensures counted

pub returns-clause-units : goal.returns-clause-units
returns-clause-units c =
    (c.in_ok-pair.ensures.faults, from_charged c.args.meter.now c.pieces_without.new.meter c.in_ok-left.ensures.meter)

pub returns-clause-definitions : goal.returns-clause-definitions
returns-clause-definitions c = λ first second.
    let over = c.in_ok-pair.ensures.exact in
    let none = rw (c.as_slice-own.ensures.value, c.in_ok-others.ensures) at c.in_ok-left.ensures.definitions in
    subst HasNoDefinitions (sym c.from_normal.ensures) (none (over.own.definitions first) (over.others.definitions second))
