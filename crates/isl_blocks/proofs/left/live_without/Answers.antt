use Rattle.std.proofs.Common.{sym, subst, List, All, get_or, IfOk}
use Rattle.std.proofs.lemmas.Result.{IfOk-weaker}
use Rattle.isl_piece.specs.declared.system.System.{System}
use Rattle.isl_piece.specs.System.{IsSystemWithin}
use Rattle.isl_difference.proofs.SplitLaws.{charged_within}
use Rattle.isl_blocks.specs.Left.{AreLiveOf, IsLeftWithout}
use Rattle.isl_blocks.proofs.LeftLaws.{left_made}
use Rattle.isl_blocks.proofs.left.live_without.Goals as goal

pub live_of-requires-clause-within : goal.live_of-requires-clause-within
live_of-requires-clause-within c =
    let g = c.args.meter.now in
    let h = c.without_last.new.meter in
    subst (λ (l : List System). All (IsSystemWithin h) l) (sym c.as_slice.ensures.value)
    (λ k d l. charged_within g h (get_or c.in_ok-systems.systems.items k d) c.in_ok-systems.ensures.meter
    (c.in_ok-systems.ensures.within k d l))

pub returns-clause-left : goal.returns-clause-left
returns-clause-left c =
    let g = c.args.meter.now in
    let h = c.without_last.new.meter in
    let s = c.args.system.now in
    let systems = c.in_ok-systems.systems.items in
    let r = c.live_of.result in
    let live =
    subst (λ (l : List System). IfOk r (λ left. AreLiveOf h c.args.kept l left.items)) c.as_slice.ensures.value c.live_of.ensures.live in
    IfOk-weaker r (λ left. AreLiveOf h c.args.kept systems left.items) (λ left. IsLeftWithout g s c.args.kept c.args.count left.items)
    (λ left are. left_made g h c.args.kept c.args.count s systems left.items c.in_ok-systems.ensures.meter c.in_ok-systems.ensures.points
    c.in_ok-systems.ensures.definitions are) live
