use Rattle.std.proofs.Common.{◌≡◌, ◌∙◌, ◌*◌, ap, arith, false, inl, inr, map, refl, sym, true}
use Rattle.std.proofs.lemmas.Bool.{true≢false}
use Rattle.std.proofs.lemmas.List.{map-append}
use Rattle.std.proofs.lemmas.Result.{err_from_is_err_and}
use Rattle.isl_meter.proofs.CutLemmas.{IsCharged_refl}
use Rattle.isl_ledger.specs.Work.{Size}
use Rattle.isl_difference.proofs.TameLaws.{tame_cut, tame_memory, tame_ok}
use Rattle.isl_cert.proofs.LivingLaws.{one_sized}
use Rattle.isl_cert.proofs.living.push_living.Goals as goal

pub returns-then-empty-clause-pushed : goal.returns-then-empty-clause-pushed
returns-then-empty-clause-pushed c =
    let yes' : c.in_ok-empty.empty ≡ true = grind arith in
    inl (c.in_ok-empty.ensures.exact.0 yes', refl)

pub returns-then-empty-clause-tame : goal.returns-then-empty-clause-tame
returns-then-empty-clause-tame c = λ columns bits limit room d.
    let size : Size = record { pieces = 1; columns = columns; bits = bits } in
    let asked = c.in_ok-empty.ensures.tame size limit room (one_sized columns bits c.args.system.now d)
    (λ one. d.normal) in
    tame_ok (columns * (columns * columns)) c.args.meter.now c.is_empty.new.meter _ _ asked.within.units tt

pub returns-clause-pushed : goal.returns-clause-pushed
returns-clause-pushed c =
    let no : c.in_ok-empty.empty ≡ false = grind arith in
    let pushed = ap (λ xs. map (λ s. s.now) xs) c.in_ok-push.ensures.items ∙ map-append (λ s. s.now) c.args.living.now.items _ in
    inr ((λ nowhere. true≢false (sym (c.in_ok-empty.ensures.exact.1 nowhere) ∙ no)), pushed)

pub returns-clause-tame : goal.returns-clause-tame
returns-clause-tame c = λ columns bits limit room d.
    let size : Size = record { pieces = 1; columns = columns; bits = bits } in
    let asked = c.in_ok-empty.ensures.tame size limit room (one_sized columns bits c.args.system.now d)
    (λ one. d.normal) in
    tame_ok (columns * (columns * columns)) c.args.meter.now c.is_empty.new.meter _ _ asked.within.units tt

pub returns-in_err-empty-clause-tame : goal.returns-in_err-empty-clause-tame
returns-in_err-empty-clause-tame c = λ columns bits limit room d.
    let g = c.args.meter.now in
    let work = columns * (columns * columns) in
    let size : Size = record { pieces = 1; columns = columns; bits = bits } in
    let cut = c.in_err-empty.ensures.tame size limit room (one_sized columns bits c.args.system.now d)
    (λ one. d.normal) in
    let error = err_from_is_err_and c.from_residual.result c.from_residual.ensures.1 in
    rw (error.1, error.2) (tame_cut 0 work work g g c.is_empty.new.meter _ _ c.in_err-empty.field-0.0 (IsCharged_refl g g refl)
    (omega arith) (omega arith) cut)

pub returns-in_err-push-clause-tame : goal.returns-in_err-push-clause-tame
returns-in_err-push-clause-tame c = λ columns bits limit room d.
    let g = c.args.meter.now in
    let work = columns * (columns * columns) in
    let size : Size = record { pieces = 1; columns = columns; bits = bits } in
    let asked = c.in_ok-empty.ensures.tame size limit room (one_sized columns bits c.args.system.now d)
    (λ one. d.normal) in
    let error = err_from_is_err_and c.from_residual-in_err-push.result c.from_residual-in_err-push.ensures.1 in
    rw (error.1, error.2) (tame_memory work work g c.is_empty.new.meter _ asked.within.units (omega arith))
