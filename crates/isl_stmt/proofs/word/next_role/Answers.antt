use Rattle.std.proofs.Common.{◌∙◌, ap, sym}
use Rattle.isl_token.specs.AnyWord.{any_word}
use Rattle.isl_stmt.specs.Word.{role_of}
use Rattle.isl_stmt.proofs.WordReads.{role_there}
use Rattle.isl_stmt.proofs.word.next_role.Goals as goal

pub returns-in-Some : goal.returns-in-Some
returns-in-Some c =
    role_there c.args.tokens.now _ c.in-Some.word.now c.role_of.result (ap any_word (sym c.rest.ensures) ∙ c.in-Some.ensures)
    (c.role_of.ensures ∙ ap role_of c.as_bytes.ensures.value)
