use Rattle.std.proofs.Common.{inl, map, subst, sym}
use Rattle.std.proofs.lemmas.Result.{err_from_is_err_and}
use Rattle.isl_relation.proofs.TogetherLaws.{same_pairs}
use Rattle.isl_union.specs.Fault.{IsChargedFrom}
use Rattle.isl_union.specs.KeptValue.{Has, HasNoDefinitions}
use Rattle.isl_union.specs.Minus.{IsAlignedPair}
use Rattle.isl_union.specs.Piece.{kept_piece}
use Rattle.isl_union.proofs.PiecesLaws.{through}
use Rattle.isl_products.specs.Layout.{are_together}
use Rattle.isl_products.specs.Made.{AreWide, IsWidePair, ProductHas}
use Rattle.isl_products.proofs.PairLaws.{product_has, value_has, value_kept, value_numbers}
use Rattle.isl_products.proofs.WideLaws.{over_narrow, wide_pieces}
use Rattle.isl_products.proofs.product.product_of.Goals as goal

pub new-requires : goal.new-requires
new-requires c = λ k d l. (c.in_ok-pair.ensures.exact.others.sound k d l).kept.space

pub all_made-requires-clause-narrow : goal.all_made-requires-clause-narrow
all_made-requires-clause-narrow c =
    let g = c.args.meter.now in
    let a = c.args.a.now in
    let b = c.args.b.now in
    let params = c.in_ok-pair.pair.params in
    let own = c.as_slice-own.result.now in
    let others = c.in_ok-others.others in
    let pair : IsAlignedPair g a b params own others =
    rw (c.as_slice-own.ensures.value, c.in_ok-others.ensures) c.in_ok-pair.ensures.exact in
    let none : ¬ IsWidePair c.args.product a b = λ w.
    let wide : AreWide c.args.product (map kept_piece c.pieces-pieces.result.now) (map kept_piece c.pieces.result.now) =
    rw (c.pieces-pieces.ensures.content, c.pieces.ensures.content) ((wide_pieces c.args.product a b).1 w) in
    c.in_ok-ask_spaces.ensures.ok wide in
    over_narrow g params c.args.product a b own others pair.well_formed.distinct pair.own pair.others none

pub returns-clause-kept : goal.returns-clause-kept
returns-clause-kept c =
    value_kept c.in_ok-pair.pair.params c.in_ok-made.made.items c.from_normal.result c.from_normal.ensures
    c.in_ok-pair.ensures.exact.well_formed c.in_ok-made.ensures.sound

pub returns-clause-elements : goal.returns-clause-elements
returns-clause-elements c v e =
    let g = c.args.meter.now in
    let a = c.args.a.now in
    let b = c.args.b.now in
    let params = c.in_ok-pair.pair.params in
    let own = c.as_slice-own.result.now in
    let others = c.in_ok-others.others in
    let pair : IsAlignedPair g a b params own others =
    rw (c.as_slice-own.ensures.value, c.in_ok-others.ensures) c.in_ok-pair.ensures.exact in
    value_has params c.in_ok-made.made.items c.from_normal.result c.from_normal.ensures v e
    (ProductHas c.args.product (Has a v) (Has b v) e)
    (through (c.in_ok-made.ensures.elements v e) (product_has g c.args.product a b params own others pair v e))

pub returns-clause-numbers : goal.returns-clause-numbers
returns-clause-numbers c =
    value_numbers c.in_ok-pair.pair.params c.in_ok-made.made.items c.from_normal.result c.from_normal.ensures c.args.meter.now
    c.in_ok-made.ensures.numbers

pub returns-clause-units : goal.returns-clause-units
returns-clause-units c =
    let g = c.args.meter.now in
    let h = c.all_made.new.meter in
    let a = c.args.a.now in
    let b = c.args.b.now in
    let together = are_together c.args.product in
    let pair = c.in_ok-pair.pair in
    let used = rw (c.as_slice-own.ensures.value, c.in_ok-others.ensures) at c.in_ok-made.ensures.units in
    let none : ¬ IsWidePair c.args.product a b = λ w.
    let wide : AreWide c.args.product (map kept_piece c.pieces-pieces.result.now) (map kept_piece c.pieces.result.now) =
    rw (c.pieces-pieces.ensures.content, c.pieces.ensures.content) ((wide_pieces c.args.product a b).1 w) in
    c.in_ok-ask_spaces.ensures.ok wide in (
      c.in_ok-pair.ensures.faults,
      none,
      subst (λ n. IsChargedFrom n g h) (same_pairs together g a b pair.params pair.own.items pair.others.items c.in_ok-pair.ensures.exact)
          used,
    )

pub returns-clause-definitions : goal.returns-clause-definitions
returns-clause-definitions c = λ first second.
    let over = c.in_ok-pair.ensures.exact in
    let none = rw (c.as_slice-own.ensures.value, c.in_ok-others.ensures) at c.in_ok-made.ensures.definitions in
    subst HasNoDefinitions (sym c.from_normal.ensures) (none (over.own.definitions first) (over.others.definitions second))

pub returns-in_err-made-clause-units : goal.returns-in_err-made-clause-units
returns-in_err-made-clause-units c =
    let a = c.args.a.now in
    let b = c.args.b.now in
    let none : ¬ IsWidePair c.args.product a b = λ w.
    let wide : AreWide c.args.product (map kept_piece c.pieces-pieces.result.now) (map kept_piece c.pieces.result.now) =
    rw (c.pieces-pieces.ensures.content, c.pieces.ensures.content) ((wide_pieces c.args.product a b).1 w) in
    c.in_ok-ask_spaces.ensures.ok wide in
    let fault = err_from_is_err_and c.from_residual-in_err-made.result c.from_residual-in_err-made.ensures.1 in
    rw (fault.1, fault.2) (inl (c.in_ok-pair.ensures.faults, none), c.in_err-made.ensures.units)
