use Rattle.std.proofs.Common.{rules}
use Rattle.isl_eval.proofs.CauseLaws.{read_made}
use Rattle.isl_eval.proofs.spelled.read.Goals as goal

pub returns : goal.returns
returns c before same =
    read_made before c.args.bytes.now _ c.args.meter.now same (search rules) c.read_statement.result c.read_statement.ensures.only
