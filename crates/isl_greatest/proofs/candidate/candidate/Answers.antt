use Rattle.std.proofs.Common.{arith, to_z-of_z}
use Rattle.std.proofs.lemmas.Grind.{common_steps}
use Rattle.isl_greatest.proofs.CandidateLaws.{candidate_made}
use Rattle.isl_greatest.proofs.candidate.candidate.Goals as goal

pub returns-clause-made : goal.returns-clause-made
returns-clause-made c g n frame coefs constant k =
    candidate_made g n c.args.chosen.now c.in_ok-cur.cur c.define.new.self (record { coefs = c.args.coefs.now; constant = c.args.constant; k = c.args.k })
    c.in_ok-cur.ensures (grind (arith, common_steps, to_z-of_z)) frame
    (record { width = c.requires.columns; modulus = c.requires.modulus; coefs = coefs; constant = constant; k = k })
