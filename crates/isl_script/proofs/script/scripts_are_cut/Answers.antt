use Rattle.std.proofs.Common.{◌^◌, sym}
use Rattle.std.proofs.lemmas.List.{take-append-drop}
use Rattle.isl_script.proofs.ScriptLaws.{is_cut, cut-unique, statements-append, rest-append, statements-end, rest-end, statements-hold, rest-hold, blank_push, blank_front, blank_last, depth-le-length}
use Rattle.isl_script.proofs.script.scripts_are_cut.Goals as goal

pub returns-clause-cut : goal.returns-clause-cut
returns-clause-cut c = is_cut

pub returns-clause-once : goal.returns-clause-once
returns-clause-once c = λ script rest parts cut. cut-unique script parts rest cut

pub returns-clause-later_statements : goal.returns-clause-later_statements
returns-clause-later_statements c = statements-append

pub returns-clause-later_rest : goal.returns-clause-later_rest
returns-clause-later_rest c = rest-append

pub returns-clause-ended : goal.returns-clause-ended
returns-clause-ended c = λ script b is. (statements-end script b is, rest-end script b is)

pub returns-clause-held : goal.returns-clause-held
returns-clause-held c = λ script b is. (statements-hold script b is, rest-hold script b is)

pub returns-clause-blank : goal.returns-clause-blank
returns-clause-blank c = λ part b. (λ all. (blank_front part b all, blank_last part b all), λ both. blank_push part b both.0 both.1)

pub returns-clause-depth : goal.returns-clause-depth
returns-clause-depth c = depth-le-length

pub returns-clause-readable : goal.returns-clause-readable
returns-clause-readable c = λ script. sym (take-append-drop (2 ^ 30) script)
