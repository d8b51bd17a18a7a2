use Rattle.std.proofs.Common.{sym, subst, arith, ◌<◌, ◌≤◌, length}
use Rattle.std.specs.List.{All}
use Rattle.isl_images.specs.Made.{IsPlain}
use Rattle.isl_flow.specs.Last.{HasMap}
use Rattle.isl_precedence.specs.Precedence.{HasAt, IsSound}
use Rattle.isl_remainder.proofs.MadeLaws.{made_all, made_more, made_none}
use Rattle.isl_flow.proofs.sinks.maps_in.Goals as goal

pub loop-piece-init : goal.loop-piece-init
loop-piece-init c g params all =
    let items = c.args.pieces.now in
    made_none (HasAt params) (IsSound g params) IsPlain (All IsPlain items) (λ at p. HasMap params at p) items c.new-made.result.items
    c.new-made.ensures.items

pub loop-piece-preserved : goal.loop-piece-preserved
loop-piece-preserved c g params all =
    let items = c.args.pieces.now in
    let i = c.loop-piece.piece-index in
    let item = c.piece-item.result in
    let low : i < length items = omega arith in
    made_more (HasAt params) (IsSound g params) IsPlain (All IsPlain items) (λ at p. HasMap params at p) items i item low c.piece-item.is
    (IsSound g params) (IsPlain item) (λ at. HasMap params at item) (λ p is. is)
    (λ plain. subst IsPlain (sym c.piece-item.is) (plain i item low)) (λ at. ((λ x. x), (λ x. x)))
    c.loop-piece.made.items c.in_ok-more.more.items c.append.new.self.items c.in_ok-append.ensures.items
    (c.loop-piece.invariant g params all)
    (c.in_ok-more.ensures g params (subst (IsSound g params) (sym c.piece-item.is) (all i item low)))

pub returns : goal.returns
returns c g params all =
    let items = c.args.pieces.now in
    let end : length items ≤ c.loop-piece.piece-index = omega arith in
    made_all (HasAt params) (IsSound g params) IsPlain (All IsPlain items) (λ at p. HasMap params at p) items c.loop-piece.piece-index end
    c.loop-piece.made.items (c.loop-piece.invariant g params all)
