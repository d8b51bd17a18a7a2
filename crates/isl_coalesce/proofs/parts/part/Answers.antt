use Rattle.std.proofs.Common.{sym, subst}
use Rattle.std.specs.List.{All}
use Rattle.isl_coalesce.specs.Found.{IsFit}
use Rattle.isl_coalesce.proofs.KnownLaws.{known_later}
use Rattle.isl_coalesce.proofs.HalfLaws.{fit_later, halves_fit}
use Rattle.isl_coalesce.proofs.parts.part.Goals as goal

pub those-requires-clause-rows : goal.those-requires-clause-rows
those-requires-clause-rows c =
    let h = c.true_throughout.new.meter in
    let n = c.args.system.now.columns in
    let r = c.args.row.now in
    subst (All (IsFit h n)) (sym c.in_ok-halves.ensures)
    (halves_fit h n r (fit_later c.args.meter.now h n r c.in_ok-true_throughout.ensures.meter c.requires.row))

pub those-requires-clause-known : goal.those-requires-clause-known
those-requires-clause-known c =
    known_later c.args.meter.now c.true_throughout.new.meter c.args.system.now.columns c.args.known.now
    c.in_ok-true_throughout.ensures.meter c.requires.known
