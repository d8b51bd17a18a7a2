use Rattle.std.proofs.Common.{◌≡◌, length, map}
use Rattle.isl_tree.specs.Words.{look_up}
use Rattle.isl_tree.proofs.words.look_up.Given as goal

abbrev pub invariant-loop-table : goal.invariant-loop-table
invariant-loop-table g l = look_up (map (λ k. (k.0.now, k.1)) l.table) l.text ≡ look_up (map (λ k. (k.0.now, k.1)) l.initial.table) l.text

abbrev pub decreases-loop-table : goal.decreases-loop-table
decreases-loop-table g l = length l.table
