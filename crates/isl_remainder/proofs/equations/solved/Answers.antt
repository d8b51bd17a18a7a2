use Rattle.std.proofs.Common.{◌≡◌, ◌∙◌, arith, ◌<◌, length, get_or}
use Rattle.std.proofs.lemmas.Grind.{common_steps}
use Rattle.isl_remainder.proofs.SolvedLaws.{alike_again, solved_is, width_at}
use Rattle.isl_remainder.proofs.equations.solved.Goals.{in-Some+in_ok-rows, in_default}
use Rattle.isl_remainder.proofs.equations.solved.Goals as goal

pub given_column-requires : goal.given_column-requires
given_column-requires c =
    let rows = c.loop-at.rows in
    let row = c.index-as_slice-at.result in
    let inside : c.loop-at.at < length rows =
    let test = c.loop-at-test.true in
    let count = c.loop-at.invariant.alike.count in
    grind (arith, common_steps) in
    let is : row ≡ get_or rows c.loop-at.at row = rw c.as_slice.ensures at c.index-as_slice-at.is in
    let wide = width_at c.args.meter.now c.args.system.rows rows c.args.system.columns c.loop-at.invariant.alike c.requires.rows
    c.loop-at.at row inside is in
    let free = c.free-free.ensures in
    omega (arith, wide, free)

pub put_into_others-requires-clause-formed : goal.put_into_others-requires-clause-formed
put_into_others-requires-clause-formed c =
    let low = c.in-Some.ensures.1 in
    let free = c.free-free.ensures in
    (c.args.system.columns, c.loop-at.invariant.alike.formed c.args.system.columns c.requires.rows, omega (arith, low, free))

pub loop-at-preserved : goal.loop-at-preserved
loop-at-preserved c =
    let g = c.args.meter.now in
    let rows = c.args.system.rows in
    let so_far = c.loop-at.invariant in
    elim c.match-given_column.branch [
      | in-Some+in_ok-rows w ↦
          let told = w.in_ok-rows.ensures in
          record {
            alike = rw w.rows-is (alike_again g rows c.loop-at.rows _ so_far.alike (rw so_far.meter at told.0));
            meter = w.meter-is ∙ (told.1 ∙ so_far.meter);
          }
      | in_default w ↦ record { alike = rw w.rows-is so_far.alike; meter = w.meter-is ∙ so_far.meter }
    ]

pub returns-clause-made : goal.returns-clause-made
returns-clause-made c =
    rw c.over.ensures (solved_is c.args.meter.now c.args.system c.loop-at.rows c.requires c.loop-at.invariant.alike)
