use Rattle.std.proofs.Common.{sym, ap₂, ◌∙◌, subst, arith, ◌*◌, ◌≤◌, length, List, unsigned_abs}
use Rattle.std.proofs.lemmas.Result.{err_from_is_err_and}
use Rattle.std.specs.List.{All, Contains}
use Rattle.isl_meter.specs.Gauge.{limit_of}
use Rattle.isl_space.specs.Limits.{most_parameters}
use Rattle.isl_space.specs.Name.{Name}
use Rattle.isl_space.specs.Names.{IsParameterList, joined}
use Rattle.isl_difference.specs.Tame.{test_work}
use Rattle.isl_difference.proofs.TameLaws.{tame_memory, tame_ok}
use Rattle.isl_union.specs.Fault.{IsChargedFrom}
use Rattle.isl_union.specs.KeptValue.{IsKeptValue}
use Rattle.isl_union.specs.Moved.{aligned_pieces}
use Rattle.isl_union.specs.Tame.{size_of}
use Rattle.isl_union.proofs.PieceLaws.{IsKeptValue-from_pieces}
use Rattle.isl_union.proofs.ValueLaws.{first_in, second_in, aligned_small, meet_has, meet_plain, meet_small, meet_written, pairs_are}
use Rattle.isl_union.proofs.ValueLaws.{pieces_within}
use Rattle.isl_union.proofs.PairLaws.{pair_made}
use Rattle.isl_union.proofs.SizeLaws.{value_of_size}
use Rattle.isl_union.proofs.TameLaws.{cut_more, meet_allowed, meet_sized, others_each, own_each, space_answer}
use Rattle.isl_union.proofs.value.Value.meet.Goals as goal

pub new-requires : goal.new-requires
new-requires c = λ k d l. (c.in_ok-others.ensures.sound k d l).kept.space

pub aligned_pieces-requires-clause-among : goal.aligned_pieces-requires-clause-among
aligned_pieces-requires-clause-among c =
    let a = c.args.self.now.params in
    let b = c.args.other.now.params in
    let names = c.in_ok-params.ensures.joined ∙ ap₂ joined c.params.ensures.content c.params-2.ensures.content in
    subst (λ (l : List Name). All (Contains l) a) (sym names) (first_in a b)

pub aligned_pieces-requires-2-clause-among : goal.aligned_pieces-requires-2-clause-among
aligned_pieces-requires-2-clause-among c =
    let a = c.args.self.now.params in
    let b = c.args.other.now.params in
    let names = c.in_ok-params.ensures.joined ∙ ap₂ joined c.params.ensures.content c.params-2.ensures.content in
    let first = subst IsParameterList c.params.ensures.content c.params.ensures.well_formed in
    let second = subst IsParameterList c.params-2.ensures.content c.params-2.ensures.well_formed in
    subst (λ (l : List Name). All (Contains l) b) (sym names) (second_in a b first second)

pub met_pieces-requires-clause-pieces_within : goal.met_pieces-requires-clause-pieces_within
met_pieces-requires-clause-pieces_within c =
    let a = c.args.self.now in
    let g = c.args.meter.now in
    let names = c.in_ok-params.ensures.joined ∙ ap₂ joined c.params.ensures.content c.params-2.ensures.content in
    let there = subst (λ (l : List Name). All (Contains l) a.params) (sym names) (first_in a.params c.args.other.now.params) in
    rw c.as_slice.ensures.value
    (pieces_within g c.in_ok-params.params c.in_ok-own.own.items (aligned_pieces c.in_ok-params.params a) c.in_ok-own.ensures.sound
    c.in_ok-own.ensures.exact
    (aligned_small g c.in_ok-params.params a c.in_ok-own.ensures.kept c.requires.own there (unsigned_abs (limit_of g)) c.requires.own))

pub met_pieces-requires-clause-others_within : goal.met_pieces-requires-clause-others_within
met_pieces-requires-clause-others_within c =
    let a = c.args.self.now in
    let b = c.args.other.now in
    let g = c.args.meter.now in
    let names = c.in_ok-params.ensures.joined ∙ ap₂ joined c.params.ensures.content c.params-2.ensures.content in
    let there = subst (λ (l : List Name). All (Contains l) b.params) (sym names) (second_in a.params b.params
    c.in_ok-own.ensures.kept.params c.in_ok-others.ensures.kept.params) in
    rw c.in_ok-index.ensures
    (pieces_within g c.in_ok-params.params c.in_ok-others.others.items (aligned_pieces c.in_ok-params.params b) c.in_ok-others.ensures.sound
    c.in_ok-others.ensures.exact
    (aligned_small g c.in_ok-params.params b c.in_ok-others.ensures.kept c.requires.other there (unsigned_abs (limit_of g))
    c.requires.other))

pub returns-clause-kept : goal.returns-clause-kept
returns-clause-kept c =
    subst IsKeptValue (sym c.from_normal.ensures)
    (IsKeptValue-from_pieces c.in_ok-params.params c.in_ok-met.met.items c.in_ok-params.ensures.well_formed c.in_ok-met.ensures.sound)

pub returns-clause-written : goal.returns-clause-written
returns-clause-written c =
    let names = c.in_ok-params.ensures.joined ∙ ap₂ joined c.params.ensures.content c.params-2.ensures.content in
    let exact = c.in_ok-met.ensures.exact in
    meet_written c.args.self.now c.args.other.now c.in_ok-own.ensures.kept c.in_ok-others.ensures.kept c.in_ok-params.params
    c.in_ok-own.own.items c.in_ok-others.others.items c.in_ok-met.met.items
    c.from_normal.result names c.in_ok-own.ensures.exact c.in_ok-others.ensures.exact
    (rw (c.as_slice.ensures.value, c.in_ok-index.ensures) at exact) c.from_normal.ensures

pub returns-clause-elements : goal.returns-clause-elements
returns-clause-elements c v e =
    meet_has c.args.self.now c.args.other.now c.in_ok-own.ensures.kept c.in_ok-others.ensures.kept c.args.meter.now c.requires.own
    c.requires.other c.from_normal.result (returns-clause-written c) v e

pub returns-clause-numbers : goal.returns-clause-numbers
returns-clause-numbers c limit h k =
    meet_small c.args.self.now c.args.other.now c.in_ok-own.ensures.kept c.in_ok-others.ensures.kept c.args.meter.now c.requires.own
    c.requires.other c.from_normal.result (returns-clause-written c) limit h k

pub returns-clause-units : goal.returns-clause-units
returns-clause-units c =
    let a = c.args.self.now in
    let b = c.args.other.now in
    let names = c.in_ok-params.ensures.joined ∙ ap₂ joined c.params.ensures.content c.params-2.ensures.content in
    let pairs = pairs_are c.in_ok-params.params a b c.in_ok-own.own.items c.in_ok-others.others.items c.in_ok-own.ensures.exact
    c.in_ok-others.ensures.exact in
    let used = c.in_ok-met.ensures.units in
    let whole = rw (c.as_slice.ensures.value, c.in_ok-index.ensures) at used in (
      subst (λ (l : List Name). length l ≤ most_parameters) names c.in_ok-params.ensures.well_formed.few,
      subst (λ n. IsChargedFrom n c.args.meter.now c.met_pieces.new.meter) pairs whole,
    )

pub returns-clause-definitions : goal.returns-clause-definitions
returns-clause-definitions c h k =
    meet_plain c.args.self.now c.args.other.now c.in_ok-own.ensures.kept c.in_ok-others.ensures.kept c.args.meter.now c.requires.own
    c.requires.other c.from_normal.result (returns-clause-written c) h k

-- ---- of difference constraints
pub returns-in_err-params-clause-tame : goal.returns-in_err-params-clause-tame
returns-in_err-params-clause-tame c = λ own others columns bits limit room sizes.
    let p = err_from_is_err_and c.from_residual.result c.from_residual.ensures.1 in
    rw (p.1, p.2) (space_answer _ c.args.meter.now _ c.in_err-params.field-0.0)

pub returns-in_err-own-clause-tame : goal.returns-in_err-own-clause-tame
returns-in_err-own-clause-tame c = λ own others columns bits limit room sizes.
    let p = err_from_is_err_and c.from_residual-in_err-own.result c.from_residual-in_err-own.ensures.1 in
    rw (p.1, p.2) (tame_memory 0 _ c.args.meter.now c.args.meter.now _ (omega arith) (omega arith))

pub returns-in_err-others-clause-tame : goal.returns-in_err-others-clause-tame
returns-in_err-others-clause-tame c = λ own others columns bits limit room sizes.
    let p = err_from_is_err_and c.from_residual-in_err-others.result c.from_residual-in_err-others.ensures.1 in
    rw (p.1, p.2) (tame_memory 0 _ c.args.meter.now c.args.meter.now _ (omega arith) (omega arith))

pub returns-in_err-index-clause-tame : goal.returns-in_err-index-clause-tame
returns-in_err-index-clause-tame c = λ own others columns bits limit room sizes.
    let p = err_from_is_err_and c.from_residual-in_err-index.result c.from_residual-in_err-index.ensures.1 in
    rw (p.1, p.2) (tame_memory 0 _ c.args.meter.now c.args.meter.now _ (omega arith) (omega arith))

pub returns-in_err-met-clause-tame : goal.returns-in_err-met-clause-tame
returns-in_err-met-clause-tame c = λ own others columns bits limit room sizes.
    let g = c.args.meter.now in
    let a = c.args.self.now in
    let b = c.args.other.now in
    let params = c.in_ok-params.params in
    let firsts = c.in_ok-own.own.items in
    let seconds = c.in_ok-others.others.items in
    let names = c.in_ok-params.ensures.joined ∙ ap₂ joined c.params.ensures.content c.params-2.ensures.content in
    let pair = pair_made g a b params firsts seconds names c.in_ok-params.ensures.well_formed c.in_ok-own.ensures.kept
    c.in_ok-others.ensures.kept c.requires.own c.requires.other c.in_ok-own.ensures.exact c.in_ok-own.ensures.sound
    c.in_ok-others.ensures.exact c.in_ok-others.ensures.sound in
    let first = own_each g a b params firsts seconds pair own others columns bits sizes in
    let second = others_each g a b params firsts seconds pair own others columns bits sizes in
    let most = meet_allowed g a b params firsts seconds pair own others columns bits sizes (test_work columns) in
    let p = err_from_is_err_and c.from_residual-in_err-met.result c.from_residual-in_err-met.ensures.1 in
    let cut = (rw (c.as_slice.ensures.value, c.in_ok-index.ensures) at c.in_err-met.ensures.tame) columns bits limit room first second in
    rw (p.1, p.2) (cut_more (length firsts * (length seconds * test_work columns)) (own * (others * test_work columns)) g c.met_pieces.new.meter
    _ _ c.in_err-met.field-0.0 most cut)

pub returns-clause-tame : goal.returns-clause-tame
returns-clause-tame c = λ own others columns bits limit room sizes.
    let g = c.args.meter.now in
    let a = c.args.self.now in
    let b = c.args.other.now in
    let params = c.in_ok-params.params in
    let firsts = c.in_ok-own.own.items in
    let seconds = c.in_ok-others.others.items in
    let names = c.in_ok-params.ensures.joined ∙ ap₂ joined c.params.ensures.content c.params-2.ensures.content in
    let pair = pair_made g a b params firsts seconds names c.in_ok-params.ensures.well_formed c.in_ok-own.ensures.kept
    c.in_ok-others.ensures.kept c.requires.own c.requires.other c.in_ok-own.ensures.exact c.in_ok-own.ensures.sound
    c.in_ok-others.ensures.exact c.in_ok-others.ensures.sound in
    let first = own_each g a b params firsts seconds pair own others columns bits sizes in
    let second = others_each g a b params firsts seconds pair own others columns bits sizes in
    let most = meet_allowed g a b params firsts seconds pair own others columns bits sizes (test_work columns) in
    let asked = (rw (c.as_slice.ensures.value, c.in_ok-index.ensures) at c.in_ok-met.ensures.tame) columns bits limit room first second in
    let met = c.in_ok-met.met.items in
    let used = asked.within.units in
    tame_ok (own * (others * test_work columns)) g c.met_pieces.new.meter _ _ (omega (arith, used, most))
    (value_of_size params (size_of (own * others) columns bits) met c.from_normal.result c.in_ok-met.ensures.sound c.from_normal.ensures
    (meet_sized g a b params firsts seconds pair own others columns bits sizes met asked.answer))
