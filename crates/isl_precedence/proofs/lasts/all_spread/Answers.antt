use Rattle.std.proofs.Common.{◌≡◌, [], ◌∷◌, sym, subst, arith, ◌<◌, ◌≤◌, length}
use Rattle.std.specs.List.{All}
use Rattle.isl_blocks.specs.Blocks.{picked_width}
use Rattle.isl_piece.specs.declared.system.System.{System}
use Rattle.isl_piece.specs.System.{IsSystemWithin, free_columns}
use Rattle.isl_precedence.specs.Later.{HoldsOver, HoldsPicked, IsOver}
use Rattle.isl_precedence.proofs.LastLaws.{spread_one, IsPlainSystem}
use Rattle.isl_remainder.proofs.MadeLaws.{made_all, made_more, made_none}
use Rattle.isl_precedence.proofs.lasts.all_spread.Goals as goal

pub spread-requires-clause-columns : goal.spread-requires-clause-columns
spread-requires-clause-columns c =
    let low : c.loop-system.system-index < length c.args.systems.now = omega arith in
    subst (λ (s : System). free_columns s ≡ picked_width c.args.widths.now c.args.picks.now) (sym c.system-item.is)
    (c.requires.columns c.loop-system.system-index c.system-item.result low)

pub loop-system-init : goal.loop-system-init
loop-system-init c g all =
    let widths = c.args.widths.now in
    let items = c.args.systems.now in
    made_none (HoldsOver widths) (IsOver g widths) IsPlainSystem (All IsPlainSystem items)
    (λ blocks s. HoldsPicked widths c.args.picks.now blocks s) items c.in_ok-made.made.items c.in_ok-made.ensures.items

pub loop-system-preserved : goal.loop-system-preserved
loop-system-preserved c g all =
    let widths = c.args.widths.now in
    let picks = c.args.picks.now in
    let items = c.args.systems.now in
    let i = c.loop-system.system-index in
    let item = c.system-item.result in
    let low : i < length items = omega arith in
    let made = c.in_ok-spread.field-0 in
    made_more (HoldsOver widths) (IsOver g widths) IsPlainSystem (All IsPlainSystem items) (λ blocks s. HoldsPicked widths picks blocks s)
    items i item low c.system-item.is (IsOver g widths) (IsPlainSystem item) (λ blocks. HoldsPicked widths picks blocks item) (λ s is. is)
    (λ plain. subst IsPlainSystem (sym c.system-item.is) (plain i item low)) (λ o. ((λ x. x), (λ x. x)))
    c.loop-system.made.items (made ∷ []) c.push.new.self.items c.in_ok-push.ensures.items (c.loop-system.invariant g all)
    (spread_one g widths picks item made
    (c.in_ok-spread.ensures g (subst (IsSystemWithin g) (sym c.system-item.is) (all i item low))))

pub returns : goal.returns
returns c g all =
    let widths = c.args.widths.now in
    let items = c.args.systems.now in
    let end : length items ≤ c.loop-system.system-index = omega arith in
    made_all (HoldsOver widths) (IsOver g widths) IsPlainSystem (All IsPlainSystem items)
    (λ blocks s. HoldsPicked widths c.args.picks.now blocks s) items c.loop-system.system-index end c.loop-system.made.items
    (c.loop-system.invariant g all)
