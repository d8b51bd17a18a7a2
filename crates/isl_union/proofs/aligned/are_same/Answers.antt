use Rattle.std.proofs.Common.{◌≡◌, ◌<◌, Bool, true, false, not, length, arith, refl}
use Rattle.std.proofs.lemmas.Slice.Eq.{bytes_eq-Decides}
use Rattle.isl_union.proofs.PlacesLaws.{same_more}
use Rattle.isl_union.proofs.aligned.are_same.Goals as goal

same : (b : Bool) → false ≡ not b → b ≡ true
same true e = refl
same false e = cc

pub loop-i-preserved : goal.loop-i-preserved
loop-i-preserved c =
    let low : c.loop-i.i < length c.args.a.now = omega arith in
    let high : c.loop-i.i < length c.args.b.now = omega arith in
    let x = c.name.result.now in
    let y = c.name-in-loop-i.result.now in (
      same_more c.args.a.now c.args.b.now c.loop-i.i x y low high c.name.ensures c.name-in-loop-i.ensures ((bytes_eq-Decides x y).0
          (same _ c.if-ne.ensures)) c.loop-i.invariant.0,
      c.loop-i.invariant.1,
    )
