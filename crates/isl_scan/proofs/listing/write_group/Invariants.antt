use Rattle.std.proofs.Common.{◌≡◌, ◌++◌, List, drop, map}
use Rattle.std.specs.Prelude.{string_bytes}
use Rattle.isl_print.specs.Joined.{Text}
use Rattle.isl_scan.specs.Groups.{element_of, space_in}
use Rattle.isl_scan.specs.ListingText.{element_text}
use Rattle.isl_scan.specs.Rest.{rest_text}
use Rattle.isl_scan.proofs.listing.write_group.Given as goal

abbrev pub invariant-loop-place : goal.invariant-loop-place
invariant-loop-place l = (others : List Text)
    → string_bytes l.out
    ++ rest_text l.is_first (map (λ p. element_text (element_of (space_in l.group) p)) (drop l.place l.group.points) ++ others)
    ≡ string_bytes l.initial.out
    ++ rest_text l.initial.is_first (map (λ p. element_text (element_of (space_in l.group) p)) l.group.points ++ others)
