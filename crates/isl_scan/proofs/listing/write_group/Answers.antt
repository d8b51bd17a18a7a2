use Rattle.std.proofs.Common.{◌≡◌, ◌++◌, ◌<◌, ◌≤◌, ◌∙◌, ℤ, List, [], length, get_or, ap, sym, arith}
use Rattle.std.specs.Prelude.{string_bytes}
use Rattle.std.proofs.lemmas.Grind.{common_steps}
use Rattle.std.proofs.lemmas.List.{get_or_default}
use Rattle.std.proofs.lemmas.Simd.{map-map}
use Rattle.isl_print.specs.Joined.{Text}
use Rattle.isl_scan.specs.Groups.{element_of, space_in}
use Rattle.isl_scan.specs.ListingText.{element_text}
use Rattle.isl_scan.specs.Rest.{rest_text}
use Rattle.isl_scan.proofs.TextLaws.{point_end, point_more}
use Rattle.isl_scan.proofs.listing.write_group.Goals as goal

pub loop-place-preserved : goal.loop-place-preserved
loop-place-preserved c = λ others.
    let g = c.args.group.now in
    let f : List ℤ → Text = λ p. element_text (element_of (space_in g) p) in
    let x = c.get.result.now in
    let i = c.loop-place.place in
    let low : i < length g.points = grind (arith, common_steps) in
    let at : x ≡ get_or g.points i x = c.get.ensures ∙ get_or_default g.points i [] x low in
    let text : string_bytes c.write_tuples.new.out ≡ string_bytes c.write_lead.new.out ++ f x = grind (arith, common_steps) in
    point_more f g.points others i x c.loop-place.is_first (string_bytes c.loop-place.out) (string_bytes c.write_lead.new.out)
    (string_bytes c.write_tuples.new.out) _ low at c.in_ok-write_lead.ensures text (c.loop-place.invariant others)

pub returns : goal.returns
returns c = λ others.
    let g = c.args.group.now in
    let f : List ℤ → Text = λ p. element_text (element_of (space_in g) p) in
    let i = c.loop-place.place in
    let over : length g.points ≤ i = grind (arith, common_steps) in
    point_end f g.points others i c.loop-place.is_first (string_bytes c.loop-place.out) _ over (c.loop-place.invariant others)
    ∙ ap (λ texts. string_bytes c.args.out.now ++ rest_text c.args.is_first (texts ++ others))
    (sym (map-map element_text (element_of (space_in g)) g.points))
