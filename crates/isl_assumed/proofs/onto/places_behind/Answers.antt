use Rattle.std.proofs.Common.{◌<◌, ◌+◌, ◌∙◌, ap, arith, length, subst, sym, take, ℕ}
use Rattle.isl_assumed.proofs.PlacesLaws.{so_far_new, so_far_old, AreSoFar}
use Rattle.isl_assumed.proofs.onto.places_behind.Goals as goal
use Rattle.isl_assumed.proofs.onto.places_behind.Goals.{in-Some+in_ok-push-in-Some, in-None+in_ok-push-in-None}

pub loop-i-preserved : goal.loop-i-preserved
loop-i-preserved c =
    let params = c.args.params.now in
    let names = c.args.names.now in
    let i = c.loop-i.i in
    let n = c.name.result.now in
    let end = c.len-i-end.ensures.len in
    let test = c.loop-i-test.true in
    let low : i < length names = omega (arith, end, test) in
    let distinct = c.len-i-end.ensures.well_formed.distinct in
    let places = c.loop-i.items.items in
    let new = c.loop-i.new in
    let pushed = c.match-position.items.items in
    let so_far = c.loop-i.invariant.places in
    let few = c.loop-i.invariant.few in
    elim c.match-position.branch [
      | in-Some+in_ok-push-in-Some w ↦
          let is = ap (λ v. v.items) w.items-is ∙ w.in_ok-push-in-Some.ensures.items in
          let found = rw w.in-Some.is at c.position.ensures.there in
          let count = w.new-is in
          record {
            places = subst (AreSoFar params (take (i + 1) names) pushed) (sym count)
                (so_far_old params names distinct i n low c.name.ensures places new so_far w.in-Some.place pushed is found);
            few = omega (arith, count, few);
          }
      | in-None+in_ok-push-in-None w ↦
          let is = ap (λ v. v.items) w.items-is ∙ w.in_ok-push-in-None.ensures.items in
          let none = rw w.in-None.is at c.position.ensures.there in
          let count = w.new-is in
          record {
            places = subst (AreSoFar params (take (i + 1) names) pushed) (sym count)
                (so_far_new params names distinct i n low c.name.ensures places new so_far (w.len-in-None.result + new) pushed is
                (ap (λ (k : ℕ). k + new) w.len-in-None.ensures.len) none);
            few = omega (arith, count, few);
          }
    ]
