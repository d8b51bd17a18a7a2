use Rattle.std.proofs.Common.{◌≡◌, ◌<◌, ◌+◌, length, subst, sym, ap, ◌∙◌, take}
use Rattle.isl_meter.proofs.CutLemmas.{IsCharged_trans}
use Rattle.isl_piece.specs.System.{IsSystemWithin, free_columns}
use Rattle.isl_difference.proofs.DifferenceLaws.{system_at, system_within}
use Rattle.isl_blocks.specs.Left.{AreLiveOf}
use Rattle.isl_blocks.proofs.LeftLaws.{live_none, live_some}
use Rattle.isl_blocks.proofs.left.live_of.Goals as goal
use Rattle.isl_blocks.proofs.left.live_of.Goals.{in-Some+in_ok-push, in_default}

pub live_form-requires : goal.live_form-requires
live_form-requires c =
    let systems = c.args.systems.now in
    let i = c.loop-system.system-index in
    let inside : i < length systems = c.loop-system-test.true in
    subst (IsSystemWithin c.loop-system.meter) (sym c.in_ok-copy.ensures)
    (system_within c.args.meter.now c.loop-system.meter systems i c.system-item.result c.loop-system.invariant.charged c.requires.within
    inside c.system-item.is)

pub loop-system-preserved : goal.loop-system-preserved
loop-system-preserved c =
    let g = c.args.meter.now in
    let h = c.loop-system.meter in
    let systems = c.args.systems.now in
    let i = c.loop-system.system-index in
    let s = c.system-item.result in
    let live = c.loop-system.left.items in
    let so_far = c.loop-system.invariant in
    let inside : i < length systems = c.loop-system-test.true in
    let free = system_at (λ t. free_columns t ≡ c.args.kept) systems i s c.requires.columns inside c.system-item.is in
    let exact = rw c.in_ok-copy.ensures at c.in_ok-live.ensures.exact in
    record {
      live = elim c.match-branch-4.branch [
        | in-Some+in_ok-push w ↦
            live_some g h c.args.kept systems i s live inside c.system-item.is so_far.live free w.in-Some.live c.match-branch-4.left.items
            so_far.charged (rw w.in-Some.is at exact.0) (ap (λ v. v.items) w.left-is ∙ w.in_ok-push.ensures.items)
        | in_default w ↦
            subst (AreLiveOf g c.args.kept (take (i + 1) systems)) (ap (λ v. v.items) (sym w.left-is))
            (live_none g h c.args.kept systems i s live inside c.system-item.is so_far.live free (rw w.in_default.is at exact.0))
      ];
      charged = IsCharged_trans g h c.live_form.new.meter so_far.charged exact.1;
    }
