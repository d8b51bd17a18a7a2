use Rattle.std.proofs.Common.{sym, subst}
use Rattle.isl_greatest.specs.Next.{GoesOn}
use Rattle.isl_greatest.proofs.StepLaws.{ends_missing, goes_more}
use Rattle.isl_greatest.proofs.next.close.Goals as goal

pub returns-in_ok-chosen-in-Some : goal.returns-in_ok-chosen-in-Some
returns-in_ok-chosen-in-Some c =
    let g = c.args.meter.now in
    let p = c.args.problem.now in
    let s = c.args.state.now in
    subst (GoesOn g p s) (sym c.at.ensures)
    (goes_more g p c.requires.problem s c.requires.state c.in-Some.best c.in_ok-chosen-in-Some.chosen c.requires.depth c.requires.cases c.in-Some.is
    c.in_ok-chosen-in-Some.ensures)

pub returns-in-None : goal.returns-in-None
returns-in-None c =
    ends_missing c.args.meter.now c.args.problem.now c.requires.problem c.args.state.now c.requires.state c.requires.depth c.requires.cases c.in-None.is
