use Rattle.std.proofs.Common.{◌∙◌, ap, inl, inr}
use Rattle.isl_token.specs.Depth.{is_stacking_word}
use Rattle.isl_token.specs.Reading.{tail}
use Rattle.isl_token.proofs.DepthLaws.{next_not, next_exists, next_other, next_word, next_no_word}
use Rattle.isl_token.proofs.depth.is_stacking.Goals as goal

pub returns-in-Not : goal.returns-in-Not
returns-in-Not c = elim c.in-Not.is [
  | inl is ↦ next_not c.args.rest.now c.peek.result c.peek.ensures is
  | inr is ↦ next_exists c.args.rest.now c.peek.result c.peek.ensures is
]

pub returns-in-Some : goal.returns-in-Some
returns-in-Some c =
    next_word c.args.rest.now (tail c.args.rest.now) c.in-Some.word.now c.is_stacking_word.result c.in-Some.ensures
    (c.is_stacking_word.ensures ∙ ap is_stacking_word c.as_bytes.ensures.value)

pub returns-in-None : goal.returns-in-None
returns-in-None c = next_no_word c.args.rest.now c.peek.result c.peek.ensures c.in-Name.is c.in-None.ensures

pub returns-in_default : goal.returns-in_default
returns-in_default c = next_other c.args.rest.now c.peek.result c.peek.ensures c.in_default.not-Name c.in_default.not-Not
    c.in_default.not-Exists
