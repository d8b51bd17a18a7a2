use Rattle.std.proofs.Common.{◌≡◌, ◌-◌, ◌<◌, arith, length, get_or}
use Rattle.std.specs.List.{remove}
use Rattle.std.proofs.lemmas.List.Edits.{length-remove}
use Rattle.isl_piece.specs.declared.row.Row.{Row}
use Rattle.isl_redundant.specs.Redundant.{IsImplied, calculator}
use Rattle.isl_redundant.proofs.KeptLaws.{reduced_first, reduced_less}
use Rattle.isl_redundant.proofs.reduction.reduced.Goals as goal
use Rattle.isl_redundant.proofs.reduction.reduced.Goals.{then-branch, else-branch}

pub loop-at-init : goal.loop-at-init
loop-at-init c = (grind arith, reduced_first c.args.columns c.args.rows c.requires.well_formed)

pub is_implied_by-requires-clause-within : goal.is_implied_by-requires-clause-within
is_implied_by-requires-clause-within c =
    let same : c.as_slice.result.now ≡ c.loop-at.kept = grind arith in
    rw same (c.loop-at.invariant.1.within calculator c.requires.within)

pub loop-at-preserved : goal.loop-at-preserved
loop-at-preserved c =
    let kept = c.loop-at.kept in
    let at = c.loop-at.at - 1 in
    let most = c.loop-at.invariant.0 in
    let inside : at < length kept = grind arith in
    elim c.if-branch.branch [
      | then-branch w ↦
          let is : c.if-branch.kept ≡ remove kept at = grind arith in
          let same : c.as_slice.result.now ≡ kept = grind arith in
          let implied : (d : Row) → IsImplied (remove kept at) (get_or kept at d) = λ d. (rw same at (c.in_ok-is_implied_by.ensures d)) (grind arith) in
          let long = length-remove kept at inside in
          rw is (omega (arith, long, inside), reduced_less c.args.columns c.args.rows kept at inside c.loop-at.invariant.1 implied)
      | else-branch w ↦
          let is : c.if-branch.kept ≡ kept = grind arith in
          rw is (omega (arith, most), c.loop-at.invariant.1)
    ]
