use Rattle.std.proofs.Common.{◌≡◌, length, map}
use Rattle.std.specs.List.{list_any}
use Rattle.std.specs.Str.{bytes_eq}
use Rattle.isl_token.proofs.depth.is_among.Given as goal

abbrev pub invariant-loop-texts : goal.invariant-loop-texts
invariant-loop-texts l = list_any (bytes_eq l.text) (map (λ t. t.now) l.texts) ≡ list_any (bytes_eq l.text)
    (map (λ t. t.now) l.initial.texts)

abbrev pub decreases-loop-texts : goal.decreases-loop-texts
decreases-loop-texts l = length l.texts
