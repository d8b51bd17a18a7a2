use Rattle.std.proofs.Common.{◌↔◌, sym, ◌∙◌, IsTrue}
use Rattle.std.proofs.lemmas.Bool.{false≢true}
use Rattle.isl_relation.proofs.SeekLaws.{none_all, none_more}
use Rattle.isl_operators.specs.Pairing.{IsWideOfSets}
use Rattle.isl_operators.proofs.wide.has_wide.Goals as goal

pub loop-other-preserved : goal.loop-other-preserved
loop-other-preserved c =
    let others = c.args.others.now in
    let i = c.loop-other.other-index in
    let other = c.other-item.result in
    let told : IsTrue c.in_ok-is_wide.field-0 ↔ IsWideOfSets c.args.pairing c.args.piece.now.space other.space =
    rw (c.space.ensures, c.space-in-loop-other.ensures) at c.in_ok-is_wide.ensures in
    none_more (λ q. IsWideOfSets c.args.pairing c.args.piece.now.space q.space) others i other c.loop-other-test.true c.other-item.is
    c.loop-other.invariant (λ wide. false≢true (sym c.if-branch.false ∙ told.1 wide))

pub returns : goal.returns
returns c =
    none_all (λ q. IsWideOfSets c.args.pairing c.args.piece.now.space q.space) c.args.others.now c.loop-other.other-index
    c.loop-other-test.false c.loop-other.invariant
