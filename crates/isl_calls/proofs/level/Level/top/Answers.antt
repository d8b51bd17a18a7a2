use Rattle.std.proofs.Common.{◌≡◌, ◌↔◌, [], ◌∷◌, ℤ, List, sym, arith, Some}
use Rattle.isl_meter.proofs.CutLemmas.{IsCharged_refl}
use Rattle.isl_piece.specs.Normal.{IsNormal, normal_system}
use Rattle.isl_piece.specs.System.{HoldsSystem, IsSystemWithin}
use Rattle.isl_tower.proofs.TowerLaws.{top_found}
use Rattle.isl_calls.proofs.level.Level.top.Goals as goal

pub returns-in_ok-push-in-Some : goal.returns-in_ok-push-in-Some
returns-in_ok-push-in-Some c =
    let g = c.args.meter.now in
    let s = c.args.system.now in
    let t = c.in-Some.normal in
    let same : c.in_ok-copied.copied ≡ s = grind arith in
    let exact : Some t ≡ normal_system s = rw same at (rw c.in-Some.is at c.in_ok-normalise.ensures.exact) in
    let points : (point : List ℤ) → HoldsSystem t point ↔ HoldsSystem s point =
    λ point. rw same at (rw c.in-Some.is at (c.in_ok-normalise.ensures.points point)) in
    let within : IsSystemWithin g t = rw c.in-Some.is at c.in_ok-normalise.ensures.within in
    let normal : IsNormal t.rows = rw c.in-Some.is at c.in_ok-normalise.ensures.normal in
    let items : c.push.new.self ≡ t ∷ [] = grind arith in
    let found = top_found g s t (sym exact) c.requires.plain within normal points in (
      rw items found.0,
      rw items found.1,
      rw items (omega arith),
      IsCharged_refl g c.normalise.new.meter (grind arith),
    )
