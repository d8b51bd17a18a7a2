use Rattle.std.proofs.Common.{arith, ◌≡◌, ◌++◌, true, false}
use Rattle.std.specs.Prelude.{codes}
use Rattle.std.proofs.lemmas.Grind.{common_steps}
use Rattle.isl_space.specs.Names.{is_among}
use Rattle.isl_row_text.proofs.NamingLaws.{among-from_place, not_among-from_place, primed_more, primed_fewer, primed_done}
use Rattle.isl_row_text.proofs.names.free_name.Goals as goal

pub primes-smaller : goal.primes-smaller
primes-smaller c =
    let among : is_among c.args.params.now c.primes.free ≡ true = among-from_place c.args.params.now c.primes.free c.position.result c.position.ensures.there (grind arith) in
    let longer : c.in_ok-free-2.free ≡ c.primes.free ++ codes "'" = grind (arith, common_steps) in
    primed_fewer c.args.params.now c.primes.free c.in_ok-free-2.free among longer

pub primes-preserved : goal.primes-preserved
primes-preserved c =
    let among : is_among c.args.params.now c.primes.free ≡ true = among-from_place c.args.params.now c.primes.free c.position.result c.position.ensures.there (grind arith) in
    let longer : c.in_ok-free-2.free ≡ c.primes.free ++ codes "'" = grind (arith, common_steps) in
    (grind (arith, common_steps), primed_more c.args.params.now c.primes.free c.in_ok-free-2.free _ among longer c.primes.invariant.1)

pub returns : goal.returns
returns c =
    let among : is_among c.args.params.now c.primes.free ≡ false = not_among-from_place c.args.params.now c.primes.free c.position.result c.position.ensures.there (grind arith) in
    primed_done _ c.args.params.now c.primes.free _ among c.primes.invariant.1
