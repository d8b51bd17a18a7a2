use Rattle.std.proofs.Common.{sym, ◌∙◌, IsTrue, arith, ◌+◌, ◌*◌, length}
use Rattle.std.proofs.lemmas.Grind.{common_steps}
use Rattle.std.proofs.lemmas.Result.{err_from_is_err_and, IfOk-weaker}
use Rattle.isl_ledger.proofs.AnsweredLaws.{answered_charged, tame_behind}
use Rattle.isl_difference.specs.Tame.{left_work}
use Rattle.isl_difference.proofs.TameLaws.{tame_memory, tame_ok}
use Rattle.isl_union.proofs.MeetSteps.{charged_bits, pieces_later}
use Rattle.isl_union.proofs.TameLaws.{cut_more}
use Rattle.isl_union.proofs.compare.are_mutual.Goals as goal

pub are_covered-requires-2-clause-pieces_within : goal.are_covered-requires-2-clause-pieces_within
are_covered-requires-2-clause-pieces_within c =
    rw (c.pieces.ensures, c.in_ok-others.ensures)
    (pieces_later c.args.meter.now c.are_covered.new.meter c.args.others.items c.in_ok-are_covered.ensures.meter c.requires.others_within)

pub are_covered-requires-2-clause-others_within : goal.are_covered-requires-2-clause-others_within
are_covered-requires-2-clause-others_within c =
    rw c.in_ok-pieces.ensures
    (pieces_later c.args.meter.now c.are_covered.new.meter c.args.pieces.items c.in_ok-are_covered.ensures.meter c.requires.pieces_within)

pub returns-clause-exact : goal.returns-clause-exact
returns-clause-exact c =
    let one = rw (c.as_slice.ensures.value, c.in_ok-others.ensures) at c.in_ok-are_covered.ensures.exact in
    let two = rw (c.pieces.ensures, c.in_ok-others.ensures, c.in_ok-pieces.ensures) at c.are_covered-2.ensures.exact in
    let covered : IsTrue c.in_ok-are_covered.field-0 = grind (arith, common_steps) in
    IfOk-weaker c.are_covered-2.result _ _ (λ same told. ((λ t. (one.0 covered, told.0 t)), (λ h. told.1 h.1))) two

-- ---- of difference constraints
pub returns-in_err-others-clause-tame : goal.returns-in_err-others-clause-tame
returns-in_err-others-clause-tame c = λ columns bits limit room own all.
    let p = err_from_is_err_and c.from_residual.result c.from_residual.ensures.1 in
    rw (p.1, p.2) (tame_memory 0 _ c.args.meter.now c.args.meter.now _ (omega arith) (omega arith))

pub returns-in_err-are_covered-clause-tame : goal.returns-in_err-are_covered-clause-tame
returns-in_err-are_covered-clause-tame c = λ columns bits limit room own all.
    let g = c.args.meter.now in
    let m = length c.args.pieces.items in
    let n = length c.args.others.items in
    let p = err_from_is_err_and c.from_residual-in_err-are_covered.result c.from_residual-in_err-are_covered.ensures.1 in
    let cut = (rw (c.as_slice.ensures.value, c.in_ok-others.ensures) at c.in_err-are_covered.ensures.tame) columns bits limit room own all in
    rw (p.1, p.2) (cut_more (m * left_work columns n) (m * left_work columns n + n * left_work columns m) g c.are_covered.new.meter _ _
    c.in_err-are_covered.field-0.0 (omega arith) cut)

pub returns-then-not-branch-clause-tame : goal.returns-then-not-branch-clause-tame
returns-then-not-branch-clause-tame c = λ columns bits limit room own all.
    let g = c.args.meter.now in
    let m = length c.args.pieces.items in
    let n = length c.args.others.items in
    let asked = (rw (c.as_slice.ensures.value, c.in_ok-others.ensures) at c.in_ok-are_covered.ensures.tame) columns bits limit room own all in
    let used = asked.within.units in
    tame_ok (m * left_work columns n + n * left_work columns m) g c.are_covered.new.meter _ _ (omega (arith, used)) tt

pub returns-in_err-pieces-clause-tame : goal.returns-in_err-pieces-clause-tame
returns-in_err-pieces-clause-tame c = λ columns bits limit room own all.
    let g = c.args.meter.now in
    let m = length c.args.pieces.items in
    let n = length c.args.others.items in
    let p = err_from_is_err_and c.from_residual-in_err-pieces.result c.from_residual-in_err-pieces.ensures.1 in
    let asked = (rw (c.as_slice.ensures.value, c.in_ok-others.ensures) at c.in_ok-are_covered.ensures.tame) columns bits limit room own all in
    rw (p.1, p.2) (tame_memory (m * left_work columns n) (m * left_work columns n + n * left_work columns m) g c.are_covered.new.meter _
    asked.within.units (omega arith))

pub returns-clause-tame : goal.returns-clause-tame
returns-clause-tame c = λ columns bits limit room own all.
    let g = c.args.meter.now in
    let m = length c.args.pieces.items in
    let n = length c.args.others.items in
    let h = c.are_covered.new.meter in
    let charged = c.in_ok-are_covered.ensures.meter in
    let later = sym (charged_bits g h charged) ∙ limit in
    let asked = (rw (c.as_slice.ensures.value, c.in_ok-others.ensures) at c.in_ok-are_covered.ensures.tame) columns bits limit room own all in
    let next = (rw (c.pieces.ensures, c.in_ok-others.ensures, c.in_ok-pieces.ensures) at c.are_covered-2.ensures.tame) columns bits later room
    all own in
    tame_behind (m * left_work columns n) (n * left_work columns m) (m * left_work columns n + n * left_work columns m) g h
    c.are_covered-2.new.meter _ c.are_covered-2.result (omega arith)
    (answered_charged (m * left_work columns n) g h c.in_ok-are_covered.field-0 charged asked.within) next
