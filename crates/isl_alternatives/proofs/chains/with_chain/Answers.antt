use Rattle.std.proofs.Common.{◌≡◌, arith, true, false}
use Rattle.std.proofs.lemmas.Grind.{common_steps}
use Rattle.isl_alternatives.specs.Ahead.{ahead_of}
use Rattle.isl_alternatives.proofs.ChainLaws.{chain_holds, chain_fails}
use Rattle.isl_alternatives.proofs.RestrictedLaws.{ok_same}
use Rattle.isl_alternatives.proofs.chains.with_chain.Goals as goal

pub with_all-requires-clause-known : goal.with_all-requires-clause-known
with_all-requires-clause-known c = rw c.of_chain-ahead.ensures c.requires.known

pub returns-then-chain : goal.returns-then-chain
returns-then-chain c =
    let chain = c.args.chain.now in
    let holds : chain.holds ≡ true = grind (arith, common_steps) in
    ok_same _ _ _ c.with_all.result c.with_all.ensures (λ new r.
    chain_holds c.args.meter.now c.with_all.new.meter c.args.scope.now c.args.systems.items chain.holds chain.first.now chain.links.now
    (ahead_of c.of_chain-ahead.result) new.items c.of_chain-ahead.ensures holds r)

pub with_denied-requires-clause-known : goal.with_denied-requires-clause-known
with_denied-requires-clause-known c = rw c.of_chain-ahead.ensures c.requires.known

pub returns : goal.returns
returns c =
    let chain = c.args.chain.now in
    let fails : chain.holds ≡ false = grind (arith, common_steps) in
    let systems : c.as_slice.result.now ≡ c.args.systems.items = grind (arith, common_steps) in
    ok_same _ _ _ c.with_denied.result c.with_denied.ensures (λ new r.
    chain_fails c.args.meter.now c.with_denied.new.meter c.args.scope.now c.args.systems.items chain.holds chain.first.now chain.links.now
    (ahead_of c.of_chain-ahead.result) new.items c.of_chain-ahead.ensures fails (rw systems at r))
