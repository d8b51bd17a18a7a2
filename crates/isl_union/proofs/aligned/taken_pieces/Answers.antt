use Rattle.std.proofs.Common.{◌≡◌, refl, sym, ◌∙◌}
use Rattle.isl_union.proofs.ValueLaws.{same_pieces}
use Rattle.isl_union.proofs.aligned.taken_pieces.Goals as goal

pub returns-then-are_same-clause-exact : goal.returns-then-are_same-clause-exact
returns-then-are_same-clause-exact c =
    let all = c.args.all.now in
    let value = c.args.value in
    let same : all ≡ value.params = c.if-are_same.ensures.0 refl ∙ c.params.ensures.content in
    c.into_pieces.ensures.content ∙ sym (same_pieces all value c.pieces-pieces.ensures.kept same)
