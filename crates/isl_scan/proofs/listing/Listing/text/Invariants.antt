use Rattle.std.proofs.Common.{◌≡◌, ◌++◌, true, drop, map}
use Rattle.std.specs.Prelude.{codes, string_bytes}
use Rattle.isl_scan.specs.Groups.{elements_of}
use Rattle.isl_scan.specs.ListingText.{element_text}
use Rattle.isl_scan.specs.Rest.{rest_text}
use Rattle.isl_scan.proofs.listing.Listing.text.Given as goal

abbrev pub invariant-loop-group : goal.invariant-loop-group
invariant-loop-group l =
    string_bytes l.out ++ rest_text l.is_first (map element_text (elements_of (drop l.group-index l.group-items)))
    ≡ codes "{" ++ rest_text true (map element_text (elements_of l.group-items))
