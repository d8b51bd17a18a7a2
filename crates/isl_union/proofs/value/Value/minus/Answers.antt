use Rattle.std.proofs.Common.{◌≡◌, sym, subst, arith, ◌*◌, [], length}
use Rattle.std.proofs.lemmas.Result.{err_from_is_err_and}
use Rattle.std.proofs.lemmas.List.Elements.{All-map}
use Rattle.isl_space.specs.Names.{joined}
use Rattle.isl_difference.specs.Tame.{left_work}
use Rattle.isl_difference.proofs.TameLaws.{tame_memory, tame_ok}
use Rattle.isl_union.specs.KeptValue.{KeptPiece, HasNoDefinitions, IsKeptValue}
use Rattle.isl_union.specs.Piece.{kept_piece}
use Rattle.isl_union.specs.Tame.{minus_size}
use Rattle.isl_union.proofs.CountLaws.{counted_value}
use Rattle.isl_union.proofs.MinusLaws.{left_numbers, left_value}
use Rattle.isl_union.proofs.PieceLaws.{IsKeptValue-from_pieces}
use Rattle.isl_union.proofs.SizeLaws.{value_of_size}
use Rattle.isl_union.proofs.TameLaws.{cut_more, minus_allowed, minus_sized, others_each, own_each, plain_answer}
use Rattle.isl_union.proofs.value.Value.minus.Goals as goal

pub new-requires : goal.new-requires
new-requires c = λ k d l. (c.in_ok-pair.ensures.exact.others.sound k d l).kept.space

pub returns-clause-kept : goal.returns-clause-kept
returns-clause-kept c =
    subst IsKeptValue (sym c.from_normal.ensures)
    (IsKeptValue-from_pieces c.in_ok-pair.pair.params c.in_ok-left.left.items c.in_ok-pair.ensures.exact.well_formed
    c.in_ok-left.ensures.exact.sound)

pub returns-clause-elements : goal.returns-clause-elements
returns-clause-elements c =
    let exact = rw (c.as_slice-own.ensures.value, c.in_ok-others.ensures) at c.in_ok-left.ensures.exact in
    let pair = c.in_ok-pair.pair in
    left_value c.args.meter.now c.args.self.now c.args.other.now c.from_normal.result pair.params pair.own.items pair.others.items
    c.in_ok-left.left.items c.in_ok-pair.ensures.exact exact c.from_normal.ensures

pub returns-clause-numbers : goal.returns-clause-numbers
returns-clause-numbers c =
    left_numbers c.args.meter.now c.in_ok-pair.pair.params c.in_ok-left.left.items c.from_normal.result c.in_ok-left.ensures.exact.sound
    c.in_ok-left.ensures.exact.within c.from_normal.ensures

pub returns-clause-counted : goal.returns-clause-counted
returns-clause-counted c =
    let counted = rw (c.as_slice-own.ensures.value, c.in_ok-pair.ensures.count) at c.in_ok-left.ensures.counted in
    counted_value c.args.meter.now c.pieces_without.new.meter c.in_ok-pair.pair.params c.in_ok-left.left.items c.from_normal.result
    (length c.args.self.now.pieces) c.from_normal.ensures counted

pub returns-clause-definitions : goal.returns-clause-definitions
returns-clause-definitions c = λ own other.
    let P : KeptPiece → Type 0 = λ p. p.definitions ≡ [] in
    let pair = c.in_ok-pair.ensures.exact in
    let none = (rw (c.as_slice-own.ensures.value, c.in_ok-others.ensures) at c.in_ok-left.ensures.definitions)
    (pair.own.definitions own) (pair.others.definitions other) in
    subst HasNoDefinitions (sym c.from_normal.ensures) (All-map P kept_piece c.in_ok-left.left.items (λ k d l. none k d l))

-- ---- of difference constraints
pub returns-in_err-pair-clause-tame : goal.returns-in_err-pair-clause-tame
returns-in_err-pair-clause-tame c = λ own others columns bits limit room sizes.
    let p = err_from_is_err_and c.from_residual.result c.from_residual.ensures.1 in
    rw (p.1, p.2) (plain_answer (joined c.args.self.now.params c.args.other.now.params) _ c.args.meter.now _ c.in_err-pair.field-0.0
    c.in_err-pair.ensures.faults)

pub returns-in_err-others-clause-tame : goal.returns-in_err-others-clause-tame
returns-in_err-others-clause-tame c = λ own others columns bits limit room sizes.
    let p = err_from_is_err_and c.from_residual-in_err-others.result c.from_residual-in_err-others.ensures.1 in
    rw (p.1, p.2) (tame_memory 0 _ c.args.meter.now c.args.meter.now _ (omega arith) (omega arith))

pub returns-in_err-left-clause-tame : goal.returns-in_err-left-clause-tame
returns-in_err-left-clause-tame c = λ own others columns bits limit room sizes.
    let g = c.args.meter.now in
    let a = c.args.self.now in
    let b = c.args.other.now in
    let pair = c.in_ok-pair.pair in
    let exact = c.in_ok-pair.ensures.exact in
    let firsts = pair.own.items in
    let seconds = pair.others.items in
    let first = own_each g a b pair.params firsts seconds exact own others columns bits sizes in
    let second = others_each g a b pair.params firsts seconds exact own others columns bits sizes in
    let most = minus_allowed g a b pair.params firsts seconds exact own others columns bits sizes in
    let p = err_from_is_err_and c.from_residual-in_err-left.result c.from_residual-in_err-left.ensures.1 in
    let cut = (rw (c.as_slice-own.ensures.value, c.in_ok-others.ensures) at c.in_err-left.ensures.tame) columns bits limit room first second in
    rw (p.1, p.2) (cut_more (length firsts * left_work columns (length seconds)) (own * left_work columns others) g c.pieces_without.new.meter
    _ _ c.in_err-left.field-0.0 most cut)

pub returns-clause-tame : goal.returns-clause-tame
returns-clause-tame c = λ own others columns bits limit room sizes.
    let g = c.args.meter.now in
    let a = c.args.self.now in
    let b = c.args.other.now in
    let pair = c.in_ok-pair.pair in
    let exact = c.in_ok-pair.ensures.exact in
    let firsts = pair.own.items in
    let seconds = pair.others.items in
    let first = own_each g a b pair.params firsts seconds exact own others columns bits sizes in
    let second = others_each g a b pair.params firsts seconds exact own others columns bits sizes in
    let most = minus_allowed g a b pair.params firsts seconds exact own others columns bits sizes in
    let asked = (rw (c.as_slice-own.ensures.value, c.in_ok-others.ensures) at c.in_ok-left.ensures.tame) columns bits limit room first second in
    let left = c.in_ok-left.left.items in
    let used = asked.within.units in
    tame_ok (own * left_work columns others) g c.pieces_without.new.meter _ _ (omega (arith, used, most))
    (value_of_size pair.params (minus_size own others columns bits) left c.from_normal.result c.in_ok-left.ensures.exact.sound
    c.from_normal.ensures
    (minus_sized g a b pair.params firsts seconds exact own others columns bits sizes left asked.answer))
