use Rattle.std.proofs.Common.{◌<◌, Option, List, length, arith, refl, subst, sym}
use Rattle.std.specs.Prelude.{IfSome, IsNone}
use Rattle.std.proofs.lemmas.Grind.{common_steps}
use Rattle.isl_meter.proofs.CutLemmas.{IsCharged_trans}
use Rattle.isl_piece.specs.declared.system.System.{System}
use Rattle.isl_tower.specs.Bounded.{IsBoundedAt}
use Rattle.isl_points.specs.Fibre.{IsFibreOf}
use Rattle.isl_points.proofs.FibreLaws.{fibre_kept}
use Rattle.isl_union.proofs.BoundedLaws.{one_has}
use Rattle.isl_union.proofs.MeetSteps.{charged_bits}
use Rattle.isl_scan.proofs.GatheredLaws.{IsOverPiece, fibres_more}
use Rattle.isl_scan.proofs.elements.fibres_over.Goals as goal

pub returns-in-None-clause-exact : goal.returns-in-None-clause-exact
returns-in-None-clause-exact c = λ all.
    let pieces = c.args.pieces.now in
    let at = c.args.at.now in
    let i = c.loop-piece.piece-index in
    let low : i < length pieces = grind (arith, common_steps) in
    let bounded = one_has (λ piece. IsBoundedAt piece.system at) pieces i c.piece-item.result low c.piece-item.is all in
    let none : IsNone c.in_ok-fibre.field-0 = subst (λ (o : Option (List (List System))). IsNone o) (sym c.in-None.is) refl in
    c.in_ok-fibre.ensures.infinite.0 none (subst (λ (s : System). IsBoundedAt s at) (sym c.system-system.ensures) bounded)

pub loop-piece-preserved : goal.loop-piece-preserved
loop-piece-preserved c =
    let g = c.args.meter.now in
    let h = c.loop-piece.meter in
    let at = c.args.at.now in
    let pieces = c.args.pieces.now in
    let piece = c.piece-item.result in
    let i = c.loop-piece.piece-index in
    let low : i < length pieces = grind (arith, common_steps) in
    let so_far = c.loop-piece.invariant in
    let found : IsFibreOf h c.system-system.result.now at c.in-Some.fibre =
    subst (λ (o : Option (List (List System))). IfSome o (IsFibreOf h c.system-system.result.now at)) c.in-Some.is
    c.in_ok-fibre.ensures.found in
    let own : IsOverPiece h at piece c.in-Some.fibre =
    subst (λ (s : System). IsFibreOf h s at c.in-Some.fibre) c.system-system.ensures found in (
      fibres_more g at pieces i piece c.loop-piece.fibres.items c.in-Some.fibre c.push.new.self.items low c.piece-item.is so_far.0
          (fibre_kept g h piece.system at c.in-Some.fibre (sym (charged_bits g h so_far.1)) own) c.in_ok-push-in-Some.ensures.items,
      IsCharged_trans g h c.over.new.meter so_far.1 c.in_ok-fibre.ensures.meter,
    )
