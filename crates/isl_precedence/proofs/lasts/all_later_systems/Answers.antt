use Rattle.std.proofs.Common.{◌≡◌, sym, subst, arith, ◌<◌, ◌≤◌, length}
use Rattle.std.specs.List.{All}
use Rattle.isl_blocks.specs.Blocks.{total}
use Rattle.isl_piece.specs.System.{free_columns}
use Rattle.isl_precedence.specs.declared.later.Later.{Later}
use Rattle.isl_precedence.specs.Forms.{widths_for}
use Rattle.isl_precedence.specs.Later.{later_widths, HasLater, IsLater, IsOver, IsPlainLater}
use Rattle.isl_precedence.specs.Precedence.{HoldsFor, LiesIn}
use Rattle.isl_precedence.proofs.LastLaws.{IsPlainSystem}
use Rattle.isl_remainder.proofs.MadeLaws.{made_all, made_more, made_none}
use Rattle.isl_precedence.proofs.lasts.all_later_systems.Goals as goal

pub later_systems-requires-clause-columns : goal.later_systems-requires-clause-columns
later_systems-requires-clause-columns c =
    let low : c.loop-later.later-index < length c.args.laters.now = omega arith in
    subst (λ (k : Later). All (λ s. free_columns s ≡ total (later_widths c.args.params.now k.forms)) k.systems.items) (sym c.later-item.is)
    (c.requires.columns c.loop-later.later-index c.later-item.result low)

pub loop-later-init : goal.loop-later-init
loop-later-init c g all =
    let params = c.args.params.now in
    let f = c.args.forms.now in
    let items = c.args.laters.now in
    made_none (λ o s. HoldsFor params f s o) (IsOver g (widths_for params f)) IsPlainSystem (All IsPlainLater items)
    (λ o k. LiesIn f o × HasLater params o k) items c.new-made.result.items c.new-made.ensures.items

pub loop-later-preserved : goal.loop-later-preserved
loop-later-preserved c g all =
    let params = c.args.params.now in
    let f = c.args.forms.now in
    let items = c.args.laters.now in
    let i = c.loop-later.later-index in
    let item = c.later-item.result in
    let low : i < length items = omega arith in
    made_more (λ o s. HoldsFor params f s o) (IsOver g (widths_for params f)) IsPlainSystem (All IsPlainLater items)
    (λ o k. LiesIn f o × HasLater params o k) items i item low c.later-item.is (IsOver g (widths_for params f)) (IsPlainLater item)
    (λ o. LiesIn f o × HasLater params o item) (λ p is. is)
    (λ plain. subst IsPlainLater (sym c.later-item.is) (plain i item low)) (λ o. ((λ x. x), (λ x. x)))
    c.loop-later.made.items c.in_ok-more.more.items c.append.new.systems.items c.in_ok-append.ensures.items
    (c.loop-later.invariant g all)
    (c.in_ok-more.ensures g (subst (IsLater g params) (sym c.later-item.is) (all i item low)))

pub returns : goal.returns
returns c g all =
    let params = c.args.params.now in
    let f = c.args.forms.now in
    let items = c.args.laters.now in
    let end : length items ≤ c.loop-later.later-index = omega arith in
    made_all (λ o s. HoldsFor params f s o) (IsOver g (widths_for params f)) IsPlainSystem (All IsPlainLater items)
    (λ o k. LiesIn f o × HasLater params o k) items c.loop-later.later-index end c.loop-later.made.items (c.loop-later.invariant g all)
