use Rattle.std.proofs.Common.{◌≡◌, ◌∙◌, ◌+◌, ◌<◌, ◌++◌, ◌∷◌, ℤ, List, [], arith, get_or, length, take, sym, ap, refl, subst}
use Rattle.std.proofs.lemmas.Grind.{common_steps}
use Rattle.std.proofs.lemmas.List.{get_or_default}
use Rattle.isl_elim.specs.Elimination.{HoldsAtAny}
use Rattle.isl_points.specs.Level.{AreLonger}
use Rattle.isl_points.proofs.LongerLaws.{longer_more, none_longer}
use Rattle.isl_points.proofs.WalkLaws.{over_charged, whole_longer}
use Rattle.isl_points.proofs.level.all_longer.Goals as goal

pub loop-place-init : goal.loop-place-init
loop-place-init c = ([], none_longer c.args.meter.now c.args.systems.now [] refl, grind (arith, common_steps))

pub lengthen-requires-clause-over : goal.lengthen-requires-clause-over
lengthen-requires-clause-over c =
    let g = c.args.meter.now in
    let h = c.loop-place.meter in
    let shorter = c.args.shorter.now in
    let i = c.loop-place.place in
    let inside : i < length shorter = grind (arith, common_steps) in
    let wide = c.requires.widths i [] inside in
    let own = ap (λ (q : List ℤ). length q + 1) c.get.ensures in
    over_charged g h c.args.width (length c.get.result.now + 1) c.args.systems.now c.loop-place.invariant.1.charged
    (sym (own ∙ wide)) c.requires.over

pub loop-place-preserved : goal.loop-place-preserved
loop-place-preserved c =
    let g = c.args.meter.now in
    let h = c.loop-place.meter in
    let k = c.lengthen.new.meter in
    let systems = c.args.systems.now in
    let shorter = c.args.shorter.now in
    let i = c.loop-place.place in
    let q = c.get.result.now in
    let before = c.loop-place.invariant in
    let inside : i < length shorter = grind (arith, common_steps) in
    let at : q ≡ get_or shorter i q = c.get.ensures ∙ get_or_default shorter i [] q inside in
    let more = c.in_ok-room.ensures before.0 before.2 in (
      more.0,
      longer_more g h k systems shorter before.0 more.0 i q inside at c.requires.ordered c.requires.within before.1 more.1,
      more.2,
    )

pub of-requires : goal.of-requires
of-requires c =
    let g = c.args.meter.now in
    let shorter = c.args.shorter.now in
    let whole : take c.loop-place.place shorter ≡ shorter = grind (arith, common_steps) in
    let end = c.loop-place.invariant in
    let longer = subst (λ (ps : List (List ℤ)). AreLonger g c.loop-place.meter c.args.systems.now ps end.0) whole end.1 in
    let count : c.len.result ≡ length c.loop-place.numbers.items = grind (arith, common_steps) in
    rw count (whole_longer g c.loop-place.meter c.args.systems.now c.args.width shorter end.0 c.loop-place.numbers.items
    c.requires.some_column c.requires.widths longer end.2).1

pub returns : goal.returns
returns c =
    let g = c.args.meter.now in
    let k = c.loop-place.meter in
    let systems = c.args.systems.now in
    let shorter = c.args.shorter.now in
    let whole : take c.loop-place.place shorter ≡ shorter = grind (arith, common_steps) in
    let end = c.loop-place.invariant in
    let longer = subst (λ (ps : List (List ℤ)). AreLonger g k systems ps end.0) whole end.1 in
    let count : c.len.result ≡ length c.loop-place.numbers.items = grind (arith, common_steps) in
    let is = (whole_longer g k systems c.args.width shorter end.0 c.loop-place.numbers.items c.requires.some_column c.requires.widths
    longer end.2).0 in
    record { exact = subst (λ (ps : List (List ℤ)). AreLonger g k systems shorter ps) (sym is ∙ sym (rw count at c.of.ensures)) longer }

pub lengthen-requires-clause-begun : goal.lengthen-requires-clause-begun
lengthen-requires-clause-begun c =
    let systems = c.args.systems.now in
    let i = c.loop-place.place in
    let inside : i < length c.args.shorter.now = grind (arith, common_steps) in
    subst (λ (q : List ℤ). (x : ℤ) × HoldsAtAny systems (q ++ x ∷ [])) (sym c.get.ensures) (c.requires.begun i [] inside)
