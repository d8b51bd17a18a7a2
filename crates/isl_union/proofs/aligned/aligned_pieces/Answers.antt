use Rattle.std.proofs.Common.{◌≡◌, refl, sym, ap, ◌∙◌, map}
use Rattle.std.proofs.lemmas.Result.{IfOk-weaker}
use Rattle.isl_union.specs.Moved.{aligned_pieces}
use Rattle.isl_union.specs.Piece.{kept_piece}
use Rattle.isl_union.proofs.ValueLaws.{same_pieces, pieces_within}
use Rattle.isl_union.proofs.aligned.aligned_pieces.Goals as goal

pub returns-then-are_same-clause-exact : goal.returns-then-are_same-clause-exact
returns-then-are_same-clause-exact c =
    let all = c.args.all.now in
    let value = c.args.value.now in
    let same : all ≡ value.params = c.if-are_same.ensures.0 refl ∙ c.params-names.ensures.content in
    IfOk-weaker c.copies.result (λ made. made.items ≡ c.pieces-pieces.result.now) (λ made. map kept_piece made.items
    ≡ aligned_pieces all value)
    (λ made is. ap (map kept_piece) is ∙ c.pieces-pieces.ensures.content ∙ sym (same_pieces all value c.pieces-pieces.ensures.kept same))
    c.copies.ensures

pub moved_pieces-requires-clause-within : goal.moved_pieces-requires-clause-within
moved_pieces-requires-clause-within c =
    pieces_within c.args.meter.now c.args.value.now.params c.pieces-pieces.result.now c.args.value.now.pieces
    c.pieces-pieces.ensures.well_formed c.pieces-pieces.ensures.content c.requires.within
