use Rattle.std.proofs.Common.{◌∙◌, ap, sym}
use Rattle.isl_token.specs.AnyWord.{any_word}
use Rattle.isl_tree.specs.Words.{prefix_of}
use Rattle.isl_stmt.proofs.WordReads.{prefix_there}
use Rattle.isl_stmt.proofs.word.head_prefix.Goals as goal

pub returns-in-Some : goal.returns-in-Some
returns-in-Some c =
    prefix_there c.args.tokens.now _ c.in-Some.word.now c.prefix_of.result (ap any_word (sym c.rest.ensures) ∙ c.in-Some.ensures)
    (c.prefix_of.ensures ∙ ap prefix_of c.as_bytes.ensures.value)
