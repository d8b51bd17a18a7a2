use Rattle.std.proofs.Common.{◌≡◌, ◌↔◌, ap, ◌∙◌, sym, subst}
use Rattle.isl_piece.specs.declared.system.System.{System}
use Rattle.isl_piece.specs.Meet.{over_same_columns}
use Rattle.isl_piece.specs.System.{HoldsSystem, IsSystemWithin, free_columns}
use Rattle.isl_images.specs.Differences.{IsWithDifferences}
use Rattle.isl_images.proofs.DifferenceLaws.{differences_made, rows_within}
use Rattle.isl_images.proofs.ResultLaws.{ok_case, ok_has}
use Rattle.isl_images.proofs.differences.with_differences.Goals as goal

pub returns : goal.returns
returns c g bits within =
    let s = c.args.system.now in
    let p = c.args.parameters in
    let w = c.args.width in
    let own = c.in_ok-own.own in
    let is = c.in_ok-rows.ensures in
    let first = c.in_ok-own.ensures.shifted g within in
    let second = subst (IsSystemWithin g) (sym is) (rows_within p w g bits) in
    let r = c.meet.result in
    ok_case r (IsWithDifferences g s p w) (λ made at.
    differences_made g s p w c.requires.columns bits own made first c.in_ok-own.ensures.columns
    (λ point long. subst (λ (t : System). HoldsSystem made point ↔ (HoldsSystem own point × HoldsSystem t point)) is
    (ok_has r made (λ m. HoldsSystem m point ↔ (HoldsSystem own point × HoldsSystem c.in_ok-rows.rows point)) at
    (c.meet.ensures.points g point first.within second long)))
    (ok_has r made (IsSystemWithin g) at (c.meet.ensures.within g first.within second))
    (ok_has r made (λ m. free_columns m ≡ free_columns own) at (c.meet.ensures.free g first.within second))
    (λ none. ap (λ (t : System). t.definitions)
    (ok_has r made (λ m. m ≡ over_same_columns own c.in_ok-rows.rows) at
    (c.meet.ensures.same (none ∙ sym (ap (λ (t : System). t.definitions) is))))))
