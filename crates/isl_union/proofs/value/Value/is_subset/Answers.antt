use Rattle.std.proofs.Common.{arith, ◌*◌, length}
use Rattle.std.proofs.lemmas.Result.{err_from_is_err_and}
use Rattle.isl_space.specs.Names.{joined}
use Rattle.isl_difference.specs.Tame.{left_work}
use Rattle.isl_difference.proofs.TameLaws.{tame_memory, tame_ok}
use Rattle.isl_union.proofs.CompareLaws.{subset_value}
use Rattle.isl_union.proofs.TameLaws.{cut_more, minus_allowed, others_each, own_each, plain_answer}
use Rattle.isl_union.proofs.value.Value.is_subset.Goals as goal

pub new-requires : goal.new-requires
new-requires c = λ k d l. (c.in_ok-pair.ensures.exact.others.sound k d l).kept.space

pub returns-clause-exact : goal.returns-clause-exact
returns-clause-exact c =
    let pair = c.in_ok-pair.pair in
    let over = c.in_ok-pair.ensures.exact in
    let exact = rw (c.as_slice-own.ensures.value, c.in_ok-others.ensures) at c.in_ok-are_covered.ensures.exact in
    subset_value c.args.meter.now pair.params c.args.self.now c.args.other.now pair.own.items pair.others.items over.own over.others
    c.in_ok-are_covered.field-0 exact

-- ---- of difference constraints
pub returns-in_err-pair-clause-tame : goal.returns-in_err-pair-clause-tame
returns-in_err-pair-clause-tame c = λ own others columns bits limit room sizes.
    let p = err_from_is_err_and c.from_residual.result c.from_residual.ensures.1 in
    rw (p.1, p.2) (plain_answer (joined c.args.self.now.params c.args.other.now.params) _ c.args.meter.now _ c.in_err-pair.field-0.0
    c.in_err-pair.ensures.faults)

pub returns-in_err-others-clause-tame : goal.returns-in_err-others-clause-tame
returns-in_err-others-clause-tame c = λ own others columns bits limit room sizes.
    let p = err_from_is_err_and c.from_residual-in_err-others.result c.from_residual-in_err-others.ensures.1 in
    rw (p.1, p.2) (tame_memory 0 _ c.args.meter.now c.args.meter.now _ (omega arith) (omega arith))

pub returns-in_err-are_covered-clause-tame : goal.returns-in_err-are_covered-clause-tame
returns-in_err-are_covered-clause-tame c = λ own others columns bits limit room sizes.
    let g = c.args.meter.now in
    let a = c.args.self.now in
    let b = c.args.other.now in
    let pair = c.in_ok-pair.pair in
    let exact = c.in_ok-pair.ensures.exact in
    let firsts = pair.own.items in
    let seconds = pair.others.items in
    let first = own_each g a b pair.params firsts seconds exact own others columns bits sizes in
    let second = others_each g a b pair.params firsts seconds exact own others columns bits sizes in
    let most = minus_allowed g a b pair.params firsts seconds exact own others columns bits sizes in
    let p = err_from_is_err_and c.from_residual-in_err-are_covered.result c.from_residual-in_err-are_covered.ensures.1 in
    let cut = (rw (c.as_slice-own.ensures.value, c.in_ok-others.ensures) at c.in_err-are_covered.ensures.tame) columns bits limit room first
    second in
    rw (p.1, p.2) (cut_more (length firsts * left_work columns (length seconds)) (own * left_work columns others) g c.are_covered.new.meter _ _
    c.in_err-are_covered.field-0.0 most cut)

pub returns-clause-tame : goal.returns-clause-tame
returns-clause-tame c = λ own others columns bits limit room sizes.
    let g = c.args.meter.now in
    let a = c.args.self.now in
    let b = c.args.other.now in
    let pair = c.in_ok-pair.pair in
    let exact = c.in_ok-pair.ensures.exact in
    let firsts = pair.own.items in
    let seconds = pair.others.items in
    let first = own_each g a b pair.params firsts seconds exact own others columns bits sizes in
    let second = others_each g a b pair.params firsts seconds exact own others columns bits sizes in
    let most = minus_allowed g a b pair.params firsts seconds exact own others columns bits sizes in
    let asked = (rw (c.as_slice-own.ensures.value, c.in_ok-others.ensures) at c.in_ok-are_covered.ensures.tame) columns bits limit room first
    second in
    let used = asked.within.units in
    tame_ok (own * left_work columns others) g c.are_covered.new.meter _ _ (omega (arith, used, most)) tt
