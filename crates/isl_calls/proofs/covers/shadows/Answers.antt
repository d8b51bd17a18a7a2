use Rattle.std.proofs.Common.{◌≡◌, ◌+◌, ◌-◌, ◌<◌, ◌∷◌, [], ℕ, List, arith, length}
use Rattle.std.specs.List.{insert}
use Rattle.std.proofs.lemmas.Grind.{common_steps}
use Rattle.isl_meter.specs.Gauge.{Gauge}
use Rattle.isl_meter.proofs.CutLemmas.{IsCharged_trans}
use Rattle.isl_piece.specs.declared.system.System.{System}
use Rattle.isl_piece.specs.System.{free_columns}
use Rattle.isl_calls.specs.Level.{AreUpper}
use Rattle.isl_calls.proofs.LevelLaws.{lone_first, lone_next, lowest_over, projection_covers, upper_first, upper_next}
use Rattle.isl_calls.proofs.covers.shadows.Goals as goal

same_width : (g : Gauge) (s : System) (n m : ℕ) (levels : List (List System)) → n ≡ m → AreUpper g s n levels → AreUpper g s m levels
same_width g s n m levels e a = rw e at a

pub loop-width-init : goal.loop-width-init
loop-width-init c =
    let g = c.args.meter.now in
    let s = c.args.system.now in
    let level = c.in_ok-top.top in
    let pushed : c.push.new.self.items ≡ level ∷ [] = grind arith in
    let free : c.free-width.result ≡ free_columns s = grind arith in
    let e = c.in_ok-top.ensures in
    let many : 0 < length c.push.new.self.items = grind arith in
    let start = upper_first g s level c.push.new.self.items pushed e.0 (projection_covers s (free_columns s) level e.1) in
    let lone = lone_first s level c.push.new.self.items pushed e.2 e.1 in
    rw free (start, many, c.requires.outer_in, e.3, lone)

pub below-requires : goal.below-requires
below-requires c =
    let g = c.args.meter.now in
    let h = c.loop-width.meter in
    let s = c.args.system.now in
    let width = c.loop-width.width in
    let level = c.index.result.now in
    let i = c.loop-width.invariant in
    let low : width - 1 + 1 ≡ width = grind arith in
    rw low (lowest_over g h s width level c.loop-width.levels.items i.0 i.1 c.index.ensures i.3)

pub loop-width-preserved : goal.loop-width-preserved
loop-width-preserved c =
    let g = c.args.meter.now in
    let h = c.loop-width.meter in
    let k = c.below.new.meter in
    let s = c.args.system.now in
    let width = c.loop-width.width in
    let level = c.index.result.now in
    let i = c.loop-width.invariant in
    let low : width ≡ width - 1 + 1 = grind arith in
    let new = c.insert.new.self.items in
    let put : new ≡ insert c.loop-width.levels.items 0 c.in_ok-lower.lower = grind arith in
    let e = c.in_ok-lower.ensures in
    let many : 0 < length new = grind (arith, common_steps) in (
      upper_next g h s (width - 1) level c.in_ok-lower.lower c.loop-width.levels.items new (same_width g s width (width - 1 + 1)
          c.loop-width.levels.items low i.0) i.1
          c.index.ensures i.3 e.0 put,
      many,
      grind arith,
      IsCharged_trans g h k i.3 e.1,
      lone_next h s (width - 1) level c.in_ok-lower.lower c.loop-width.levels.items new i.4 i.1 c.index.ensures e.0 put,
    )

pub returns : goal.returns
returns c =
    let g = c.args.meter.now in
    let s = c.args.system.now in
    let i = c.loop-width.invariant in
    let same : c.loop-width.width ≡ c.args.outer = grind arith in
    (same_width g s c.loop-width.width c.args.outer c.loop-width.levels.items same i.0, i.4, i.3)
