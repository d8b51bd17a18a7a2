use Rattle.std.proofs.Common.{◌∙◌, sym, ap, option_map}
use Rattle.std.specs.Option.{option_copied}
use Rattle.isl_words.specs.Taken.{AreGiven}
use Rattle.isl_words.proofs.BindingLemmas.{read_given, none_given}
use Rattle.isl_words.proofs.WordsLemmas.{given_numbers}
use Rattle.isl_words.proofs.words.bindings_or_none.Goals as goal

-- the bindings that were read are those that are given
given : (c : goal.In-Some-2) → AreGiven c.args.limit (option_copied c.args.given) c.in-Some-2.at.items
given c =
    read_given c.args.limit (option_copied c.args.given) c.in-Some.text.now c.in-Some-2.at.items (ap option_copied c.in-Some.is)
    (sym (ap (option_map (λ v. v.items)) c.in-Some-2.is) ∙ c.in_ok-at-in-Some.ensures)

pub returns-in-Some-2-clause-ok : goal.returns-in-Some-2-clause-ok
returns-in-Some-2-clause-ok c = given c

pub returns-in-Some-2-clause-numbers : goal.returns-in-Some-2-clause-numbers
returns-in-Some-2-clause-numbers c = given_numbers c.args.limit (option_copied c.args.given) c.in-Some-2.at.items (given c)

pub returns-in-None-2-clause-usage : goal.returns-in-None-2-clause-usage
returns-in-None-2-clause-usage c =
    λ same. none_given c.args.limit (option_copied c.args.given) c.in-Some.text.now (ap option_copied c.in-Some.is)
    (sym (ap (option_map (λ v. v.items)) c.in-None-2.is) ∙ c.in_ok-at-in-Some.ensures)
