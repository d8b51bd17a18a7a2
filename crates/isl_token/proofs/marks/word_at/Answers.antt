use Rattle.isl_token.proofs.MarkLaws.{not_name, name_there}
use Rattle.isl_token.proofs.marks.word_at.Goals as goal

pub returns-in_default : goal.returns-in_default
returns-in_default c = not_name c.args.text.now c.args.mark.now.place c.args.mark.now.kind c.requires c.in_default.not-Name

pub returns-in-Name : goal.returns-in-Name
returns-in-Name c = λ after.
    rw (name_there c.args.text.now c.args.mark.now.place c.args.mark.now.kind c.requires c.in-Name.is after) (c.any_word_at.ensures after)
