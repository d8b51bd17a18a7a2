use Rattle.std.proofs.Common.{◌≡◌, ◌↔◌, ◌∙◌, ap, sym, subst, arith, ◌<◌, ℕ, List, All, length}
use Rattle.isl_piece.specs.Meet.{numbers_at}
use Rattle.isl_piece.specs.Placed.{placed_system, ArePlacesAmong}
use Rattle.isl_piece.specs.System.{HoldsSystem, IsSystemWithin, free_columns}
use Rattle.isl_blocks.specs.Blocks.{total, IsSpread}
use Rattle.isl_blocks.proofs.PickLaws.{picked_are}
use Rattle.isl_blocks.proofs.ResultLaws.{ok_case, ok_has}
use Rattle.isl_blocks.proofs.SpreadLaws.{spread_made}
use Rattle.isl_blocks.proofs.WidthLaws.{places_long}
use Rattle.isl_blocks.proofs.picks.spread.Goals as goal

pub placed-requires : goal.placed-requires
placed-requires c =
    let widths = c.args.widths.now in
    let at = c.as_slice.ensures.value ∙ c.in_ok-places.ensures in
    subst (λ (n : ℕ). All (λ p. p < n) c.as_slice.result.now) (sym c.total_of.ensures)
    (subst (λ (ps : List ℕ). All (λ p. p < total widths) ps) (sym at) (picked_are widths c.args.picks.now c.requires.apart).inside)

pub returns : goal.returns
returns c g within =
    let widths = c.args.widths.now in
    let picks = c.args.picks.now in
    let s = c.args.system.now in
    let n = c.total_of.result in
    let ps = c.as_slice.result.now in
    let at = c.as_slice.ensures.value ∙ c.in_ok-places.ensures in
    let all = c.total_of.ensures in
    let are = subst (λ (m : ℕ). ArePlacesAmong m ps) (sym all) (subst (ArePlacesAmong (total widths)) (sym at)
    (picked_are widths picks c.requires.apart)) in
    let free = c.requires.columns in
    let count = places_long widths picks in
    let same = ap (length {A = ℕ}) at in
    let long : length ps ≡ free_columns s = omega (arith, free, count, same) in
    let r = c.placed.result in
    ok_case r (IsSpread g widths picks s) (λ made is.
    spread_made g widths picks s made all at (λ point l.
    ok_has r made (λ m. HoldsSystem m point ↔ HoldsSystem s (numbers_at ps point)) is (c.placed.ensures.points g point within are long l))
    (ok_has r made (λ m. IsSystemWithin g m × (free_columns m ≡ n)) is (c.placed.ensures.within g within are long))
    (ok_has r made (λ m. m ≡ placed_system n ps s) is c.placed.ensures.exact))
