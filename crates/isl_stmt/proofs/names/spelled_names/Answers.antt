use Rattle.isl_stmt.proofs.NameLaws.{bytes_spell_no_dollar}
use Rattle.isl_stmt.proofs.names.spelled_names.Goals as goal

pub returns : goal.returns
returns c = bytes_spell_no_dollar
