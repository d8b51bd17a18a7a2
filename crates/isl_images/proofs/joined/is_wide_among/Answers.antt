use Rattle.std.proofs.Common.{◌↔◌, arith, sym, ◌∙◌, ◌<◌, ◌≤◌, length, IsTrue}
use Rattle.std.proofs.lemmas.Bool.{false≢true}
use Rattle.isl_space.specs.Space.{space_form_of}
use Rattle.isl_piece.specs.Piece.{PieceView}
use Rattle.isl_images.specs.Pairing.{IsWideJoin}
use Rattle.isl_relation.proofs.SeekLaws.{none_all, none_more}
use Rattle.isl_images.proofs.joined.is_wide_among.Goals as goal

pub loop-other-preserved : goal.loop-other-preserved
loop-other-preserved c =
    let s = space_form_of c.args.space.now in
    let others = c.args.others.now in
    let i = c.loop-other.other-index in
    let other = c.other-item.result in
    let low : i < length others = omega arith in
    let told : IsTrue c.in_ok-is_wide_join.field-0 ↔ IsWideJoin s other.space = rw c.space.ensures at c.in_ok-is_wide_join.ensures in
    none_more (λ (q : PieceView). IsWideJoin s q.space) others i other low c.other-item.is c.loop-other.invariant
    (λ wide. false≢true (sym c.if-branch.false ∙ told.1 wide))

pub returns : goal.returns
returns c =
    let others = c.args.others.now in
    let end : length others ≤ c.loop-other.other-index = omega arith in
    none_all (λ (q : PieceView). IsWideJoin (space_form_of c.args.space.now) q.space) others c.loop-other.other-index end
    c.loop-other.invariant
