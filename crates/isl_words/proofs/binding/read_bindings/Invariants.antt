use Rattle.std.proofs.Common.{◌≡◌, [], drop, map}
use Rattle.std.specs.List.{slice_split}
use Rattle.isl_words.specs.Binding.{is_comma}
use Rattle.isl_words.specs.Adding.{all_added}
use Rattle.isl_words.proofs.binding.read_bindings.Given as goal

-- the bindings so far, and those of the parts ahead, are those of all
abbrev pub invariant-loop-part : goal.invariant-loop-part
invariant-loop-part l = all_added l.limit l.found.items (map (λ p. p.now) (drop l.part-index l.part-items))
    ≡ all_added l.limit [] (slice_split is_comma l.text)
