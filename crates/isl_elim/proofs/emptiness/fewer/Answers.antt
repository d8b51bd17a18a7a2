use Rattle.isl_redundant.proofs.KeptLaws.{reduced_first}
use Rattle.isl_elim.proofs.FewerLaws.{formed_rows}
use Rattle.isl_elim.proofs.emptiness.fewer.Goals as goal

pub returns-then-len-lt-MANY_ROWS : goal.returns-then-len-lt-MANY_ROWS
returns-then-len-lt-MANY_ROWS c =
    reduced_first c.args.columns c.args.rows (formed_rows c.args.meter.now c.args.columns c.args.rows c.requires.rows)

pub returns-then-not-add_many_rows : goal.returns-then-not-add_many_rows
returns-then-not-add_many_rows c =
    reduced_first c.args.columns c.args.rows (formed_rows c.args.meter.now c.args.columns c.args.rows c.requires.rows)
