use Rattle.std.proofs.Common.{◌≡◌, ◌++◌, [], drop, map}
use Rattle.std.specs.Prelude.{string_bytes}
use Rattle.isl_row_text.specs.Joined.{each_after}
use Rattle.isl_quast.specs.ForestText.{space_lines}
use Rattle.isl_quast.proofs.text.write_spaces.Given as goal

abbrev pub invariant-loop-tree : goal.invariant-loop-tree
invariant-loop-tree l =
    string_bytes l.out ++ each_after [] (map (space_lines l.params) (drop l.tree-index l.trees))
    ≡ string_bytes l.initial.out ++ each_after [] (map (space_lines l.params) l.trees)
