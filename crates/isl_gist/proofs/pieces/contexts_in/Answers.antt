use Rattle.std.proofs.Common.{◌<◌, sym, ap, ◌∙◌, arith, length}
use Rattle.std.proofs.lemmas.Bool.{false≢true}
use Rattle.isl_space.specs.Space.{space_form_of}
use Rattle.isl_union.proofs.MinusLaws.{systems_elsewhere, systems_here}
use Rattle.isl_gist.proofs.pieces.contexts_in.Goals.{then-same+in_ok-push, else-same}
use Rattle.isl_gist.proofs.pieces.contexts_in.Goals as goal

pub loop-piece-preserved : goal.loop-piece-preserved
loop-piece-preserved c =
    let space = space_form_of c.args.space.now in
    let pieces = c.args.pieces.now in
    let i = c.loop-piece.piece-index in
    let piece = c.piece-item.result in
    let low : i < length pieces = omega arith in
    let found = c.loop-piece.systems.items in
    elim c.if-same.branch [
      | then-same+in_ok-push w ↦ systems_here space pieces piece i low c.piece-item.is (λ s. s.now) found c.if-same.systems.items
          w.system.result (c.same.ensures.0 w.if-same.true ∙ c.space.ensures) w.system.ensures
          (ap (λ v. v.items) w.systems-is ∙ w.in_ok-push.ensures.items) c.loop-piece.invariant
      | else-same w ↦ rw w.systems-is (c.loop-piece.invariant
          ∙ systems_elsewhere space pieces piece i low c.piece-item.is
          (λ e. false≢true (sym w.if-same.false ∙ c.same.ensures.1 (e ∙ sym c.space.ensures))))
    ]
