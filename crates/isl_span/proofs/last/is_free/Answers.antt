use Rattle.std.proofs.Common.{◌∙◌, ◌+◌, ◌∷◌, [], ap, arith, length, refl, sym}
use Rattle.std.proofs.lemmas.Result.{err_from_is_err_and}
use Rattle.isl_meter.specs.Gauge.{Gauge}
use Rattle.isl_meter.proofs.CutLemmas.{IsCharged_refl}
use Rattle.isl_piece.specs.declared.system.System.{System}
use Rattle.isl_piece.specs.System.{HoldsSystem, free_columns}
use Rattle.isl_piece.proofs.FormedLaws.{system_within_kept}
use Rattle.isl_elim.specs.Sample.{IsNowhere}
use Rattle.isl_difference.proofs.TameLaws.{differences_wider, tame_cut, tame_memory, tame_ok}
use Rattle.isl_span.specs.Chain.{IsFreeAtLast}
use Rattle.isl_span.specs.Work.{test_units}
use Rattle.isl_span.specs.Points.{IsPoint}
use Rattle.isl_span.proofs.CallLaws.{columns_are, not_empty}
use Rattle.isl_span.proofs.LinkLaws.{free_both}
use Rattle.isl_span.proofs.WorkLaws.{both_rows, moved_differences}
use Rattle.isl_span.proofs.last.is_free.Goals as goal

pub moved-requires-clause-columns : goal.moved-requires-clause-columns
moved-requires-clause-columns c = columns_are c.args.meter.now (c.args.last + 1) c.args.system.now c.requires.over c.requires.plain

pub moved-requires-clause-within : goal.moved-requires-clause-within
moved-requires-clause-within c = c.requires.over.within

pub meet-requires : goal.meet-requires
meet-requires c =
    let free = c.requires.over.free in
    let wide = columns_are c.args.meter.now (c.args.last + 1) c.args.system.now c.requires.over c.requires.plain in
    let own = ap (λ (t : System). t.columns) c.in_ok-moved.ensures.exact in
    let none = ap (λ (t : System). length t.definitions) c.in_ok-moved.ensures.exact in
    omega (arith, free, wide, own, none)

pub is_nowhere-requires : goal.is_nowhere-requires
is_nowhere-requires c =
    let g = c.args.meter.now in
    system_within_kept c.moved.new.meter g c.in_ok-both.both (sym (ap (λ (x : Gauge). x.bits) c.in_ok-moved.ensures.meter.same))
    (c.in_ok-both.ensures.within g c.requires.over.within c.in_ok-moved.ensures.within)

pub returns-clause-exact : goal.returns-clause-exact
returns-clause-exact c =
    let g = c.args.meter.now in
    let s = c.args.system.now in
    let moved = c.in_ok-moved.field-0 in
    let both = c.in_ok-both.both in
    let own = c.requires.over.within in
    let also = c.in_ok-moved.ensures.within in
    let wide = c.in_ok-both.ensures.free g own also ∙ c.requires.over.free in
    not_empty (IsNowhere (free_columns both) (HoldsSystem both)) (IsFreeAtLast c.args.last (IsPoint (c.args.last + 1) (s ∷ [])))
    c.in_ok-empty.empty c.in_ok-empty.ensures.exact
    (free_both (free_columns both) c.args.last s both moved wide c.requires.plain
    (ap (λ (t : System). t.definitions) c.in_ok-moved.ensures.exact) (ap (λ (t : System). t.rows) c.in_ok-moved.ensures.exact)
    (λ x long. c.in_ok-both.ensures.points g x own also (long ∙ sym c.requires.over.free)))

-- ---- of difference constraints
pub returns-in_err-moved-clause-tame : goal.returns-in_err-moved-clause-tame
returns-in_err-moved-clause-tame c = λ bits limit room d.
    let g = c.args.meter.now in
    let cut = c.in_err-moved.ensures.tame bits limit (omega (arith, room)) d.rows in
    let p = err_from_is_err_and c.from_residual.result c.from_residual.ensures.1 in
    rw (p.1, p.2) (tame_cut 0 0 (test_units (c.args.last + 1)) g g c.moved.new.meter _ _ c.in_err-moved.field-0.0
    (IsCharged_refl g g refl) (omega arith) (omega arith) cut)

pub returns-in_err-both-clause-tame : goal.returns-in_err-both-clause-tame
returns-in_err-both-clause-tame c = λ bits limit room d.
    let made = c.in_ok-moved.ensures.tame bits limit (omega (arith, room)) d.rows in
    let used = made.within.units in
    let p = err_from_is_err_and c.from_residual-in_err-both.result c.from_residual-in_err-both.ensures.1 in
    rw (p.1, p.2) (tame_memory 0 (test_units (c.args.last + 1)) c.args.meter.now c.moved.new.meter _ (omega (arith, used)) (omega arith))

pub returns-in_err-empty-clause-tame : goal.returns-in_err-empty-clause-tame
returns-in_err-empty-clause-tame c = λ bits limit room d.
    let s = c.args.system.now in
    let n = c.args.last + 1 in
    let both = c.in_ok-both.both in
    let wide = columns_are c.args.meter.now n s c.requires.over c.requires.plain in
    let made = c.in_ok-moved.ensures.tame bits limit (omega (arith, room)) d.rows in
    let used = made.within.units in
    let undefined = ap (λ (t : System). t.definitions) c.in_ok-moved.ensures.exact in
    let rows = both_rows n (bits + 1) s c.in_ok-moved.field-0 both (c.in_ok-both.ensures.same (d.undefined ∙ sym undefined))
    (differences_wider n bits (bits + 1) s (omega arith) d)
    (moved_differences n bits c.args.last s c.in_ok-moved.field-0 wide c.requires.over.within.rows d c.in_ok-moved.ensures.exact) in
    let same = ap (λ (x : Gauge). x.bits) c.in_ok-moved.ensures.meter.same in
    let p = err_from_is_err_and c.from_residual-in_err-empty.result c.from_residual-in_err-empty.ensures.1 in
    rw (p.1, p.2) (tame_cut 0 (test_units n) (test_units n) c.args.meter.now c.moved.new.meter c.is_nowhere.new.meter _ _
    c.in_err-empty.field-0.0 c.in_ok-moved.ensures.meter (omega (arith, used)) (omega arith)
    (c.in_err-empty.ensures.tame n (bits + 1) (same ∙ limit) room rows))

pub returns-clause-tame : goal.returns-clause-tame
returns-clause-tame c = λ bits limit room d.
    let s = c.args.system.now in
    let n = c.args.last + 1 in
    let both = c.in_ok-both.both in
    let wide = columns_are c.args.meter.now n s c.requires.over c.requires.plain in
    let made = c.in_ok-moved.ensures.tame bits limit (omega (arith, room)) d.rows in
    let used = made.within.units in
    let undefined = ap (λ (t : System). t.definitions) c.in_ok-moved.ensures.exact in
    let rows = both_rows n (bits + 1) s c.in_ok-moved.field-0 both (c.in_ok-both.ensures.same (d.undefined ∙ sym undefined))
    (differences_wider n bits (bits + 1) s (omega arith) d)
    (moved_differences n bits c.args.last s c.in_ok-moved.field-0 wide c.requires.over.within.rows d c.in_ok-moved.ensures.exact) in
    let same = ap (λ (x : Gauge). x.bits) c.in_ok-moved.ensures.meter.same in
    let asked = c.in_ok-empty.ensures.tame n (bits + 1) (same ∙ limit) room rows in
    let more = asked.within.units in
    tame_ok (test_units n) c.args.meter.now c.is_nowhere.new.meter _ _ (omega (arith, used, more)) tt
