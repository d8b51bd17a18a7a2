use Rattle.std.proofs.Common.{◌≡◌, ◌↔◌, ◌∙◌, sym}
use Rattle.isl_piece.specs.System.{HoldsSystem, IsSystemWithin, free_columns}
use Rattle.isl_blocks.proofs.ResultLaws.{ok_case, ok_has}
use Rattle.isl_orders.specs.Both.{IsBoth}
use Rattle.isl_orders.proofs.BothLaws.{both_made}
use Rattle.isl_orders.proofs.both.both_at.Goals as goal

pub meet-requires : goal.meet-requires
meet-requires c =
    let w = c.requires.within in
    (c.in_ok-first.ensures w.0 w.1).free ∙ sym (c.in_ok-second.ensures w.0 w.2).free

pub returns : goal.returns
returns c g one two =
    let widths = c.args.widths.now in
    let own = c.args.own.now in
    let other = c.args.other.now in
    let first = c.in_ok-first.first in
    let second = c.in_ok-second.second in
    let p = c.in_ok-first.ensures g one in
    let q = c.in_ok-second.ensures g two in
    let r = c.meet.result in
    let told = c.meet.ensures in
    ok_case r (IsBoth g widths own c.args.picks.now other c.args.others.now) (λ made at.
    both_made g widths own c.args.picks.now other c.args.others.now first second made p q
    (λ point long. ok_has r made (λ m. HoldsSystem m point ↔ (HoldsSystem first point × HoldsSystem second point)) at
    (told.points g point p.within q.within long))
    (ok_has r made (IsSystemWithin g) at (told.within g p.within q.within))
    (ok_has r made (λ m. free_columns m ≡ free_columns first) at (told.free g p.within q.within)))
