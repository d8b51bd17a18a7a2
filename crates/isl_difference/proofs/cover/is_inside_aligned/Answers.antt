use Rattle.std.proofs.Common.{◌↔◌, ◌+◌, ◌*◌, arith, length}
use Rattle.std.specs.Prelude.{IsTrue, ⊤}
use Rattle.std.proofs.lemmas.Result.{IfOk-weaker}
use Rattle.isl_piece.specs.System.{free_columns}
use Rattle.isl_elim.specs.Sample.{IsNowhere}
use Rattle.isl_difference.specs.Cover.{IsInside}
use Rattle.isl_difference.specs.Split.{HoldsBut}
use Rattle.isl_difference.proofs.CoverLaws.{inside_rows}
use Rattle.isl_difference.specs.Tame.{part_limit, test_work}
use Rattle.isl_ledger.proofs.SizeLaws.{differences_of}
use Rattle.isl_difference.proofs.TameLaws.{rows_alone, tame_ok}
use Rattle.isl_ledger.proofs.AnsweredLaws.{tame_more}
use Rattle.isl_difference.proofs.cover.is_inside_aligned.Goals as goal

pub returns-clause-exact : goal.returns-clause-exact
returns-clause-exact c =
    let s = c.args.system.now in
    let other = c.args.other.now in
    IfOk-weaker c.hold_throughout.result (λ b. IsTrue b ↔ IsNowhere (free_columns s) (HoldsBut s other.rows)) (λ b. IsInside s other b)
    (λ b e. inside_rows c.args.meter.now s other b c.requires.other_within c.requires.definitions e) c.hold_throughout.ensures.exact

pub returns-then-are_implied-clause-tame : goal.returns-then-are_implied-clause-tame
returns-then-are_implied-clause-tame c = λ columns bits limit room d o few.
    tame_ok (part_limit columns 1 * test_work columns) c.args.meter.now c.args.meter.now _ _ (omega arith) tt

pub returns-then-are_apart-clause-tame : goal.returns-then-are_apart-clause-tame
returns-then-are_apart-clause-tame c = λ columns bits limit room d o few.
    tame_ok (part_limit columns 1 * test_work columns) c.args.meter.now c.args.meter.now _ _ (omega arith) tt

pub returns-clause-tame : goal.returns-clause-tame
returns-clause-tame c = λ columns bits limit room d o few.
    let count = length c.args.other.now.rows in
    let asked = c.hold_throughout.ensures.tame columns bits limit room (differences_of columns (bits + 1) c.args.system.now d) o.rows in
    tame_more (count * (2 * test_work columns)) (part_limit columns 1 * test_work columns) c.args.meter.now c.hold_throughout.new.meter
    (λ _. ⊤) (λ _. ⊤) c.hold_throughout.result (rows_alone columns count few) (λ value p. p) asked
