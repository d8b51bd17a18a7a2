use Rattle.std.proofs.Common.{◌≡◌, ◌∙◌, ◌+◌, ◌*◌, refl, sym, ap, arith, rules, false, length, map}
use Rattle.std.proofs.lemmas.Bool.{true≢false}
use Rattle.std.proofs.lemmas.List.{length-map}
use Rattle.std.proofs.lemmas.Result.{err_from_is_err_and}
use Rattle.isl_meter.proofs.CutLemmas.{IsCharged_refl, IsCharged_trans}
use Rattle.isl_ledger.specs.Work.{Size}
use Rattle.isl_ledger.proofs.SizeLaws.{system_wider}
use Rattle.isl_elim.proofs.PartsLaws.{charged_bits}
use Rattle.isl_elim.specs.Sample.{IsNowhere}
use Rattle.isl_difference.proofs.SplitLaws.{charged_within}
use Rattle.isl_difference.proofs.TameLaws.{tame_cut, tame_ok}
use Rattle.isl_difference.specs.Tame.{left_work}
use Rattle.isl_piece.specs.System.{free_columns, HoldsSystem}
use Rattle.isl_cert.specs.Bound.{question_work}
use Rattle.isl_cert.proofs.BoundLaws.{question_first, question_second, question_third}
use Rattle.isl_cert.proofs.CertifyLaws.{all_free, empty_covered, empty_left, free_living, later, later_living, left_covered, left_exact}
use Rattle.isl_cert.proofs.LivingLaws.{covered_living, few_living, one_sized}
use Rattle.isl_cert.proofs.question.is_left.Goals as goal

pub living_of-requires : goal.living_of-requires
living_of-requires c = later c.args.meter.now c.is_empty.new.meter c.args.outs.now c.in_ok-empty.ensures.meter c.requires.outs

pub is_covered-requires : goal.is_covered-requires
is_covered-requires c =
    let g = c.args.meter.now in
    let h = c.living_of.new.meter in
    let charged = IsCharged_trans g c.is_empty.new.meter h c.in_ok-empty.ensures.meter c.in_ok-others.ensures.meter in
    let own = charged_within g h c.args.system.now charged c.requires.within in
    let outs = later_living g h c.args.outs.now _ c.in_ok-others.ensures.living charged c.requires.outs in
    let free = free_living c.args.system.now c.args.outs.now _ c.in_ok-others.ensures.living c.requires.plain c.requires.columns
    c.requires.plain_outs in
    search (rules, own, outs, free)

pub returns-then-empty-clause-exact : goal.returns-then-empty-clause-exact
returns-then-empty-clause-exact c =
    let nowhere = c.in_ok-empty.ensures.exact.0 (grind arith) in
    empty_left c.args.system.now c.args.outs.now (empty_covered c.args.system.now c.args.outs.now nowhere)

pub returns-then-empty-clause-covered : goal.returns-then-empty-clause-covered
returns-then-empty-clause-covered c =
    let nowhere = c.in_ok-empty.ensures.exact.0 (grind arith) in
    λ e. empty_covered c.args.system.now c.args.outs.now nowhere

pub returns-then-empty-clause-tame : goal.returns-then-empty-clause-tame
returns-then-empty-clause-tame c = λ bits limit room d all.
    let g = c.args.meter.now in
    let n = c.args.system.now.columns in
    let q = length c.args.outs.now in
    let size : Size = record { pieces = 1; columns = n; bits = bits } in
    let asked = c.in_ok-empty.ensures.tame size limit (omega (arith, room)) (one_sized n bits c.args.system.now d) (λ one. d.normal) in
    let few = asked.within.units in
    let first = question_first n q in
    tame_ok (question_work n q) g c.is_empty.new.meter _ _ (omega (arith, few, first)) tt

pub returns-clause-exact : goal.returns-clause-exact
returns-clause-exact c =
    let system = c.args.system.now in
    let outs = c.args.outs.now in
    let known : c.in_ok-empty.empty ≡ false = grind arith in
    let some : ¬ IsNowhere (free_columns system) (HoldsSystem system) = λ n. true≢false (sym (c.in_ok-empty.ensures.exact.1 n) ∙ known) in
    let shown = ap (λ l. map (λ s. s.now) l) c.as_slice.ensures.value in
    let same = rw (sym shown) at (covered_living system outs _ c.in_ok-others.ensures.living
    (all_free system outs c.requires.plain c.requires.columns c.requires.plain_outs)) in
    left_exact system outs _ c.in_ok-covered.covered same c.in_ok-covered.ensures.covered (c.in_ok-covered.ensures.only some)

pub returns-clause-covered : goal.returns-clause-covered
returns-clause-covered c =
    let system = c.args.system.now in
    let outs = c.args.outs.now in
    let shown = ap (λ l. map (λ s. s.now) l) c.as_slice.ensures.value in
    let same = rw (sym shown) at (covered_living system outs _ c.in_ok-others.ensures.living
    (all_free system outs c.requires.plain c.requires.columns c.requires.plain_outs)) in
    left_covered system outs _ c.in_ok-covered.covered same c.in_ok-covered.ensures.covered

pub returns-clause-tame : goal.returns-clause-tame
returns-clause-tame c = λ bits limit room d all.
    let g = c.args.meter.now in
    let h = c.is_empty.new.meter in
    let k = c.living_of.new.meter in
    let system = c.args.system.now in
    let outs = c.args.outs.now in
    let n = system.columns in
    let q = length outs in
    let t = n * (n * n) in
    let are = c.in_ok-others.ensures.living in
    let size : Size = record { pieces = 1; columns = n; bits = bits } in
    let first = (c.in_ok-empty.ensures.tame size limit (omega (arith, room)) (one_sized n bits system d) (λ one. d.normal)).within.units in
    let one = c.in_ok-empty.ensures.meter in
    let second = (c.in_ok-others.ensures.tame n bits (charged_bits g h one ∙ limit) (omega (arith, room)) all).within.units in
    let both = IsCharged_trans g h k one c.in_ok-others.ensures.meter in
    let shown = ap (λ l. map (λ s. s.now) l) c.as_slice.ensures.value in
    let asked = rw shown at c.in_ok-covered.ensures.tame in
    let third = (asked n bits (charged_bits g k both ∙ limit) room (system_wider n n bits (bits + 1) system (omega arith) (omega arith) d)
    (few_living n bits outs _ are all) are.each).within.units in
    let some = length c.as_slice.result.now in
    let sum = question_third n some q (rw (length-map c.as_slice.result.now (λ s. s.now)) at (rw (sym shown) at are.few)) in
    tame_ok (question_work n q) g c.is_covered.new.meter _ _ (omega (arith, first, second, third, sum)) tt

pub returns-in_err-empty-clause-tame : goal.returns-in_err-empty-clause-tame
returns-in_err-empty-clause-tame c = λ bits limit room d all.
    let g = c.args.meter.now in
    let n = c.args.system.now.columns in
    let q = length c.args.outs.now in
    let size : Size = record { pieces = 1; columns = n; bits = bits } in
    let cut = c.in_err-empty.ensures.tame size limit (omega (arith, room)) (one_sized n bits c.args.system.now d) (λ one. d.normal) in
    let error = err_from_is_err_and c.from_residual.result c.from_residual.ensures.1 in
    rw (error.1, error.2) (tame_cut 0 (n * (n * n)) (question_work n q) g g c.is_empty.new.meter _ _ c.in_err-empty.field-0.0
    (IsCharged_refl g g refl) (omega arith) (question_first n q) cut)

pub returns-in_err-others-clause-tame : goal.returns-in_err-others-clause-tame
returns-in_err-others-clause-tame c = λ bits limit room d all.
    let g = c.args.meter.now in
    let h = c.is_empty.new.meter in
    let system = c.args.system.now in
    let n = system.columns in
    let q = length c.args.outs.now in
    let t = n * (n * n) in
    let size : Size = record { pieces = 1; columns = n; bits = bits } in
    let one = c.in_ok-empty.ensures.meter in
    let first = (c.in_ok-empty.ensures.tame size limit (omega (arith, room)) (one_sized n bits system d) (λ one. d.normal)).within.units in
    let cut = c.in_err-others.ensures.tame n bits (charged_bits g h one ∙ limit) (omega (arith, room)) all in
    let error = err_from_is_err_and c.from_residual-in_err-others.result c.from_residual-in_err-others.ensures.1 in
    rw (error.1, error.2) (tame_cut t (q * t) (question_work n q) g h c.living_of.new.meter _ _ c.in_err-others.field-0.0 one first
    (question_second n q) cut)

pub returns-in_err-covered-clause-tame : goal.returns-in_err-covered-clause-tame
returns-in_err-covered-clause-tame c = λ bits limit room d all.
    let g = c.args.meter.now in
    let h = c.is_empty.new.meter in
    let k = c.living_of.new.meter in
    let system = c.args.system.now in
    let outs = c.args.outs.now in
    let n = system.columns in
    let q = length outs in
    let t = n * (n * n) in
    let are = c.in_ok-others.ensures.living in
    let size : Size = record { pieces = 1; columns = n; bits = bits } in
    let first = (c.in_ok-empty.ensures.tame size limit (omega (arith, room)) (one_sized n bits system d) (λ one. d.normal)).within.units in
    let one = c.in_ok-empty.ensures.meter in
    let second = (c.in_ok-others.ensures.tame n bits (charged_bits g h one ∙ limit) (omega (arith, room)) all).within.units in
    let both = IsCharged_trans g h k one c.in_ok-others.ensures.meter in
    let shown = ap (λ l. map (λ s. s.now) l) c.as_slice.ensures.value in
    let asked = rw shown at c.in_err-covered.ensures.tame in
    let cut = asked n bits (charged_bits g k both ∙ limit) room (system_wider n n bits (bits + 1) system (omega arith) (omega arith) d)
    (few_living n bits outs _ are all) are.each in
    let error = err_from_is_err_and c.from_residual-in_err-covered.result c.from_residual-in_err-covered.ensures.1 in
    let some = length c.as_slice.result.now in
    let few = rw (length-map c.as_slice.result.now (λ s. s.now)) at (rw (sym shown) at are.few) in
    rw (error.1, error.2) (tame_cut (t + q * t) (left_work n some) (question_work n q) g k c.is_covered.new.meter _ _
    c.in_err-covered.field-0.0 both (omega (arith, first, second)) (question_third n some q few) cut)
