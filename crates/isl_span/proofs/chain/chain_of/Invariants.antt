use Rattle.std.proofs.Common.{◌≡◌, ◌+◌, ◌≤◌, ◌∷◌, [], ℕ}
use Rattle.isl_meter.specs.Gauge.{IsCharged}
use Rattle.isl_piece.specs.declared.system.System.{System}
use Rattle.isl_span.specs.Chain.{IsChainOf, IsPlainChain}
use Rattle.isl_span.specs.Work.{IsChainWithin}
use Rattle.isl_span.proofs.chain.chain_of.Given as goal

abbrev pub invariant-loop-first : goal.invariant-loop-first
invariant-loop-first l = record {
  chain : IsChainOf l.fn.meter l.columns l.fn.systems.items l.rows l.first l.left.items;
  charged : IsCharged l.fn.meter l.meter;
  tame : (bits : ℕ) (s : System) → l.fn.meter.bits ≡ 127 → bits + 1 + l.columns ≤ 120 → l.fn.systems.items ≡ s ∷ []
      → IsPlainChain l.columns bits s → IsChainWithin l.fn.meter l.meter l.columns bits l.first l.left.items;
}

abbrev pub decreases-loop-first : goal.decreases-loop-first
decreases-loop-first l = l.first
