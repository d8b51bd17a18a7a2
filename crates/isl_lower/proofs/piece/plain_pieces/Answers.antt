use Rattle.isl_lower.proofs.MadeLaws.{plain_made}
use Rattle.isl_lower.proofs.piece.plain_pieces.Goals as goal

pub returns-clause-made : goal.returns-clause-made
returns-clause-made c =
    let here = c.in_ok-found.ensures.found in
    plain_made c.args.meter.now c.lower_plain.new.meter c.args.names.now c.args.piece.now c.in_ok-made.made.items _ c.requires.plain
    c.requires.known c.in_ok-found.ensures.meter c.in_ok-made.ensures here.0 here.1 here.2
