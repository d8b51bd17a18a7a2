use Rattle.std.proofs.Common.{◌≡◌, length, map}
use Rattle.isl_token.specs.Token.{kind_in}
use Rattle.isl_token.proofs.token.kind_in.Given as goal

abbrev pub invariant-loop-table : goal.invariant-loop-table
invariant-loop-table l = kind_in (map (λ k. (k.0.now, k.1)) l.table) l.text l.other ≡ kind_in
    (map (λ k. (k.0.now, k.1)) l.initial.table) l.text l.other

abbrev pub decreases-loop-table : goal.decreases-loop-table
decreases-loop-table l = length l.table
