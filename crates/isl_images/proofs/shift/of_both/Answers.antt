use Rattle.std.proofs.Common.{◌≡◌, ◌↔◌, ap, ◌∙◌, subst, ◌+◌, ℕ}
use Rattle.isl_piece.specs.declared.system.System.{System}
use Rattle.isl_piece.specs.Meet.{over_same_columns}
use Rattle.isl_piece.specs.System.{HoldsSystem, IsSystemWithin, free_columns}
use Rattle.isl_images.specs.Shift.{IsOfBoth, IsShifted}
use Rattle.isl_images.proofs.ResultLaws.{ok_case, ok_has}
use Rattle.isl_images.proofs.ShiftLaws.{both_made}
use Rattle.isl_images.proofs.shift.of_both.Goals as goal

pub returns : goal.returns
returns c g one two =
    let first = c.args.first.now in
    let second = c.args.second.now in
    let p = c.args.parameters in
    let from = c.args.from in
    let own = c.in_ok-shifted.field-0 in
    let other = c.in_ok-shifted-2.field-0 in
    let columns = ap (λ (n : ℕ). n + from) c.free.ensures in
    let here = subst (λ (n : ℕ). IsShifted g first (record { columns = n; stay = p; start = p }) own) columns
    (c.in_ok-shifted.ensures.shifted g one) in
    let there = subst (λ (n : ℕ). IsShifted g second (record { columns = n; stay = p; start = p + from }) other) columns
    (c.in_ok-shifted-2.ensures.shifted g two) in
    let r = c.meet.result in
    let told = c.meet.ensures in
    ok_case r (IsOfBoth g first second p from) (λ made at.
    both_made g first second p from own other made here there (c.in_ok-shifted.ensures.columns ∙ columns)
    (λ point long. ok_has r made (λ m. HoldsSystem m point ↔ (HoldsSystem own point × HoldsSystem other point)) at
    (told.points g point here.within there.within long))
    (ok_has r made (IsSystemWithin g) at (told.within g here.within there.within))
    (ok_has r made (λ m. free_columns m ≡ free_columns own) at (told.free g here.within there.within))
    (λ same. ap (λ (t : System). t.definitions)
    (ok_has r made (λ m. m ≡ over_same_columns own other) at (told.same same))))
