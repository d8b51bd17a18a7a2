use Rattle.std.proofs.Common.{arith, ◌+◌, ◌*◌, length}
use Rattle.std.proofs.lemmas.Result.{err_from_is_err_and}
use Rattle.isl_space.specs.Names.{joined}
use Rattle.isl_difference.specs.Tame.{left_work}
use Rattle.isl_difference.proofs.TameLaws.{tame_ok}
use Rattle.isl_union.proofs.CompareLaws.{equal_turned, equal_value}
use Rattle.isl_union.proofs.TameLaws.{cut_more, minus_allowed, minus_back_allowed, others_each, own_each, plain_answer}
use Rattle.isl_union.proofs.value.Value.is_equal.Goals as goal

pub returns-then-len-clause-exact : goal.returns-then-len-clause-exact
returns-then-len-clause-exact c =
    let a = c.args.self.now in
    let b = c.args.other.now in
    let pair = c.in_ok-pair.pair in
    let over = c.in_ok-pair.ensures.exact in
    let same = c.in_ok-are_mutual.field-0 in
    let exact = c.in_ok-are_mutual.ensures.exact in
    equal_turned a b same
    (equal_value c.args.meter.now pair.params b a pair.others.items pair.own.items over.others over.own same exact)

pub returns-clause-exact : goal.returns-clause-exact
returns-clause-exact c =
    let a = c.args.self.now in
    let b = c.args.other.now in
    let pair = c.in_ok-pair.pair in
    let over = c.in_ok-pair.ensures.exact in
    let exact = c.in_ok-are_mutual-2.ensures.exact in
    equal_value c.args.meter.now pair.params a b pair.own.items pair.others.items over.own over.others c.in_ok-are_mutual-2.field-0 exact

-- ---- of difference constraints
pub returns-in_err-pair-clause-tame : goal.returns-in_err-pair-clause-tame
returns-in_err-pair-clause-tame c = λ own others columns bits limit room sizes.
    let p = err_from_is_err_and c.from_residual.result c.from_residual.ensures.1 in
    rw (p.1, p.2) (plain_answer (joined c.args.self.now.params c.args.other.now.params) _ c.args.meter.now _ c.in_err-pair.field-0.0
    c.in_err-pair.ensures.faults)

pub returns-in_err-are_mutual-clause-tame : goal.returns-in_err-are_mutual-clause-tame
returns-in_err-are_mutual-clause-tame c = λ own others columns bits limit room sizes.
    let g = c.args.meter.now in
    let a = c.args.self.now in
    let b = c.args.other.now in
    let pair = c.in_ok-pair.pair in
    let exact = c.in_ok-pair.ensures.exact in
    let firsts = pair.own.items in
    let seconds = pair.others.items in
    let first = own_each g a b pair.params firsts seconds exact own others columns bits sizes in
    let second = others_each g a b pair.params firsts seconds exact own others columns bits sizes in
    let one = minus_allowed g a b pair.params firsts seconds exact own others columns bits sizes in
    let whole = own * left_work columns others + others * left_work columns own in
    let back = minus_back_allowed g a b pair.params firsts seconds exact own others columns bits sizes in
    let p = err_from_is_err_and c.from_residual-in_err-are_mutual.result c.from_residual-in_err-are_mutual.ensures.1 in
    let cut = c.in_err-are_mutual.ensures.tame columns bits limit room second first in
    rw (p.1, p.2) (cut_more (length seconds * left_work columns (length firsts) + length firsts * left_work columns (length seconds))
    whole g c.are_mutual.new.meter _ _ c.in_err-are_mutual.field-0.0 (omega (arith, one, back)) cut)

pub returns-in_err-are_mutual-2-clause-tame : goal.returns-in_err-are_mutual-2-clause-tame
returns-in_err-are_mutual-2-clause-tame c = λ own others columns bits limit room sizes.
    let g = c.args.meter.now in
    let a = c.args.self.now in
    let b = c.args.other.now in
    let pair = c.in_ok-pair.pair in
    let exact = c.in_ok-pair.ensures.exact in
    let firsts = pair.own.items in
    let seconds = pair.others.items in
    let first = own_each g a b pair.params firsts seconds exact own others columns bits sizes in
    let second = others_each g a b pair.params firsts seconds exact own others columns bits sizes in
    let one = minus_allowed g a b pair.params firsts seconds exact own others columns bits sizes in
    let whole = own * left_work columns others + others * left_work columns own in
    let back = minus_back_allowed g a b pair.params firsts seconds exact own others columns bits sizes in
    let p = err_from_is_err_and c.from_residual-in_err-are_mutual-2.result c.from_residual-in_err-are_mutual-2.ensures.1 in
    let cut = c.in_err-are_mutual-2.ensures.tame columns bits limit room first second in
    rw (p.1, p.2) (cut_more (length firsts * left_work columns (length seconds) + length seconds * left_work columns (length firsts))
    whole g c.are_mutual-else-len.new.meter _ _ c.in_err-are_mutual-2.field-0.0 (omega (arith, one, back)) cut)

pub returns-then-len-clause-tame : goal.returns-then-len-clause-tame
returns-then-len-clause-tame c = λ own others columns bits limit room sizes.
    let g = c.args.meter.now in
    let a = c.args.self.now in
    let b = c.args.other.now in
    let pair = c.in_ok-pair.pair in
    let exact = c.in_ok-pair.ensures.exact in
    let firsts = pair.own.items in
    let seconds = pair.others.items in
    let first = own_each g a b pair.params firsts seconds exact own others columns bits sizes in
    let second = others_each g a b pair.params firsts seconds exact own others columns bits sizes in
    let one = minus_allowed g a b pair.params firsts seconds exact own others columns bits sizes in
    let whole = own * left_work columns others + others * left_work columns own in
    let back = minus_back_allowed g a b pair.params firsts seconds exact own others columns bits sizes in
    let asked = c.in_ok-are_mutual.ensures.tame columns bits limit room second first in
    let used = asked.within.units in
    tame_ok whole g c.are_mutual.new.meter _ _ (omega (arith, used, one, back)) tt

pub returns-clause-tame : goal.returns-clause-tame
returns-clause-tame c = λ own others columns bits limit room sizes.
    let g = c.args.meter.now in
    let a = c.args.self.now in
    let b = c.args.other.now in
    let pair = c.in_ok-pair.pair in
    let exact = c.in_ok-pair.ensures.exact in
    let firsts = pair.own.items in
    let seconds = pair.others.items in
    let first = own_each g a b pair.params firsts seconds exact own others columns bits sizes in
    let second = others_each g a b pair.params firsts seconds exact own others columns bits sizes in
    let one = minus_allowed g a b pair.params firsts seconds exact own others columns bits sizes in
    let whole = own * left_work columns others + others * left_work columns own in
    let back = minus_back_allowed g a b pair.params firsts seconds exact own others columns bits sizes in
    let asked = c.in_ok-are_mutual-2.ensures.tame columns bits limit room first second in
    let used = asked.within.units in
    tame_ok whole g c.are_mutual-else-len.new.meter _ _ (omega (arith, used, one, back)) tt
