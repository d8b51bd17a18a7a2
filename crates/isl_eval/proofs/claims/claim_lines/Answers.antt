use Rattle.std.proofs.Common.{◌≡◌, false, refl, string_bytes, subst, sym, true, arith}
use Rattle.isl_eval.proofs.ProvedLaws.{claim_made, none_made}
use Rattle.isl_eval.proofs.claims.claim_lines.Goals as goal

pub returns-then-not-made-clause-lines : goal.returns-then-not-made-clause-lines
returns-then-not-made-clause-lines c =
    let no : c.args.made ≡ false = grind arith in
    none_made c.args.made c.args.params.now c.args.lesser.now c.args.greater.now (string_bytes c.new.result) no c.new.ensures.bytes

pub returns-clause-lines : goal.returns-clause-lines
returns-clause-lines c =
    let made : c.args.made ≡ true = grind arith in
    claim_made c.args.made c.args.params.now c.args.lesser.now c.args.greater.now (string_bytes c.in-Some.lines) made
    (rw c.in-Some.is at c.in_ok-lines.ensures.lines)

pub unreachable-requires : goal.unreachable-requires
unreachable-requires c =
    let made : c.args.made ≡ true = grind arith in
    absurd ((rw c.in-None.is at c.in_ok-lines.ensures.none).0 refl (c.requires.holds made))
