use Rattle.std.proofs.Common.{◌≡◌, ◌<◌, ◌++◌, [], ◌∷◌, sym, ◌∙◌, arith, length, get_or}
use Rattle.std.proofs.lemmas.Bool.{false≢true}
use Rattle.std.proofs.lemmas.Grind.{common_steps}
use Rattle.isl_meter.proofs.CutLemmas.{IsCharged_trans}
use Rattle.isl_coalesce.specs.Found.{IsKnown, IsTrueThroughout}
use Rattle.isl_coalesce.proofs.KnownLaws.{known_later}
use Rattle.isl_coalesce.proofs.PartLaws.{those_left, those_taken}
use Rattle.isl_coalesce.proofs.parts.those.Goals.{then-branch+in_ok-copy+in_ok-push, else-branch}
use Rattle.isl_coalesce.proofs.parts.those.Goals as goal

pub loop-row-preserved : goal.loop-row-preserved
loop-row-preserved c =
    let s = c.args.system.now in
    let rows = c.args.rows.now in
    let i = c.loop-row.row-index in
    let r = c.row-item.result in
    let kept = c.loop-row.kept in
    let low : i < length rows = grind (arith, common_steps) in
    let at : r ≡ get_or rows i r = grind (arith, common_steps) in
    let True = IsTrueThroughout (IsKnown c.args.known.now) s in
    let exact = c.in_ok-true_throughout.ensures.exact in
    let charged = IsCharged_trans c.args.meter.now c.loop-row.meter c.true_throughout.new.meter c.loop-row.invariant.1
    c.in_ok-true_throughout.ensures.meter in
    elim c.if-branch.branch [
      | then-branch+in_ok-copy+in_ok-push w ↦
          let is : c.if-branch.kept ≡ kept ++ r ∷ [] = grind (arith, common_steps) in (
            those_taken True rows i r kept low at c.if-branch.kept is (exact.0 w.if-branch.true) c.loop-row.invariant.0,
            charged,
          )
      | else-branch w ↦
          let left = those_left True rows i r kept low at (λ t. false≢true (sym w.if-branch.false ∙ exact.1 t))
          c.loop-row.invariant.0 in
          (rw w.kept-is left, charged)
    ]

pub true_throughout-requires-clause-known : goal.true_throughout-requires-clause-known
true_throughout-requires-clause-known c =
    known_later c.args.meter.now c.loop-row.meter c.args.system.now.columns c.args.known.now c.loop-row.invariant.1 c.requires.known
