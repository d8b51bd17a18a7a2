use Rattle.std.proofs.Common.{arith}
use Rattle.isl_precedence.proofs.forms.widths_for.Goals as goal

pub returns-clause-fits : goal.returns-clause-fits
returns-clause-fits c =
    let few = c.len.ensures.well_formed.few in
    let x = c.requires.source in
    let y = c.requires.sink in
    let a = c.requires.access in
    let p = c.requires.time in
    omega (arith, few, x, y, a, p)
