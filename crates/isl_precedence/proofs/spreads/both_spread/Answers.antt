use Rattle.std.proofs.Common.{◌≡◌, []}
use Rattle.isl_piece.specs.System.{HoldsSystem}
use Rattle.isl_blocks.specs.Blocks.{picked}
use Rattle.isl_precedence.proofs.SpreadLaws.{meet_made, spread_over}
use Rattle.isl_precedence.proofs.spreads.both_spread.Goals as goal

pub returns : goal.returns
returns c g first second =
    let widths = c.args.widths.now in
    let a = c.args.first.now in
    let b = c.args.second.now in
    let firsts = c.args.firsts.now in
    let seconds = c.args.seconds.now in
    let own = spread_over g widths firsts a c.in_ok-own.own (c.in_ok-own.ensures g first) in
    let other = spread_over g widths seconds b c.in_ok-other.other (c.in_ok-other.ensures g second) in
    meet_made g widths (a.definitions ≡ []) (b.definitions ≡ []) (λ blocks. HoldsSystem a (picked firsts blocks))
    (λ blocks. HoldsSystem b (picked seconds blocks)) c.in_ok-own.own c.in_ok-other.other own other c.meet.result
    (λ point l. c.meet.ensures.points g point own.within other.within l) (c.meet.ensures.within g own.within other.within)
    (c.meet.ensures.free g own.within other.within) c.meet.ensures.same
