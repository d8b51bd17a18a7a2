use Rattle.std.proofs.Common.{◌≡◌, ◌+◌, ◌<◌, [], length, drop, take, set, sym, ap, ◌∙◌, subst, arith}
use Rattle.std.proofs.lemmas.Grind.{common_steps}
use Rattle.std.proofs.lemmas.List.{take-set-le}
use Rattle.isl_piece.specs.declared.row.Row.{Row}
use Rattle.isl_piece.specs.Row.{IsRowWithin, HasModulus}
use Rattle.isl_piece.specs.Normal.{normal_row}
use Rattle.isl_piece.proofs.NormalLaws.{normal_from, normal_from_none, normal_from_all}
use Rattle.isl_piece.proofs.NumberSteps.{holds_unchanged}
use Rattle.isl_piece.proofs.PlaceLaws.{come_always, come_never, come_kept}
use Rattle.isl_piece.proofs.normal.normalise_rows.Goals as goal
use Rattle.isl_piece.proofs.normal.normalise_rows.Goals.{in-Holds, in-Stays+in_ok-kept-in-Stays}

pub settle-requires-clause-modulus : goal.settle-requires-clause-modulus
settle-requires-clause-modulus c =
    let row = c.index-rows-at.result in
    let P : Row → Type 0 = λ r. HasModulus r.kind r.k in
    let same = c.loop-at.invariant.1 in
    subst P c.index-rows-at.is
    (holds_unchanged P c.loop-at.rows c.args.rows.now c.loop-at.at row (omega arith) (omega arith) c.requires.divisors same c.index-rows-at.is)

pub settle-requires-clause-within : goal.settle-requires-clause-within
settle-requires-clause-within c =
    let row = c.index-rows-at.result in
    let P = IsRowWithin c.args.meter.now in
    let same = c.loop-at.invariant.1 in
    subst P c.index-rows-at.is
    (holds_unchanged P c.loop-at.rows c.args.rows.now c.loop-at.at row (omega arith) (omega arith) c.requires.within same c.index-rows-at.is)

pub returns : goal.returns
returns c =
    let rest : drop c.loop-at.at c.loop-at.rows ≡ [] = grind (arith, common_steps) in
    sym (normal_from_none c.args.rows.now) ∙ sym c.loop-at.invariant.2
    ∙ normal_from_all (take c.loop-at.kept c.loop-at.rows) (drop c.loop-at.at c.loop-at.rows) rest

pub returns-in-Fails : goal.returns-in-Fails
returns-in-Fails c =
    let fails = ap normal_row c.index-rows-at.is ∙ c.in-Fails.ensures in
    sym (normal_from_none c.args.rows.now)
    ∙ come_never c.loop-at.rows c.loop-at.kept c.loop-at.at c.index-rows-at.result c.loop-at.invariant.0 (omega arith) c.index-rows-at.is
    (normal_from [] c.args.rows.now) fails c.loop-at.invariant.2

pub loop-at-preserved : goal.loop-at-preserved
loop-at-preserved c =
    let rows = c.loop-at.rows in
    let kept = c.loop-at.kept in
    let at = c.loop-at.at in
    let row = c.index-rows-at.result in
    let made = c.settle.new.row in
    let old = normal_from [] c.args.rows.now in
    let inside : at < length rows = omega arith in
    let front : take kept (set rows at made) ≡ take kept rows = take-set-le kept rows at made c.loop-at.invariant.0 in
    let rest : drop (at + 1) (set rows at made) ≡ drop (at + 1) c.args.rows.now = grind (arith, common_steps) in
    elim c.match-settle.branch [
      | in-Holds w ↦ (
        rw w.kept-is (omega arith),
        ap (drop (at + 1)) w.rows-is ∙ rest,
        rw (w.kept-is, w.rows-is) (come_always rows kept at row c.loop-at.invariant.0 inside c.index-rows-at.is
            made old (ap normal_row c.index-rows-at.is ∙ w.in-Holds.ensures) c.loop-at.invariant.2),
        rw (w.kept-is, w.rows-is, w.index-is, front) c.loop-at.invariant.3,
      )
      | in-Stays+in_ok-kept-in-Stays w ↦ (
        rw w.kept-is w.in_ok-kept-in-Stays.ensures.bound,
        ap (drop (at + 1)) w.rows-is ∙ w.in_ok-kept-in-Stays.ensures.rest ∙ rest,
        rw (w.kept-is, w.rows-is) (come_kept rows kept at row c.loop-at.invariant.0 inside c.index-rows-at.is
            made w.keep.new.rows w.in_ok-kept-in-Stays.kept old (ap normal_row c.index-rows-at.is ∙ w.in-Stays.ensures)
            w.in_ok-kept-in-Stays.ensures.front w.in_ok-kept-in-Stays.ensures.rest c.loop-at.invariant.2),
        rw (w.kept-is, w.rows-is, w.index-is) w.in_ok-kept-in-Stays.ensures.index,
      )
    ]
