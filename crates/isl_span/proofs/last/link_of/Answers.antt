use Rattle.std.proofs.Common.{◌≡◌, ◌∙◌, ◌+◌, ap, arith, get_or, length, subst, sym, List, false}
use Rattle.std.proofs.lemmas.Bool.{false≢true}
use Rattle.std.proofs.lemmas.Grind.{common_steps}
use Rattle.std.proofs.lemmas.List.{nil_from_length}
use Rattle.std.specs.Prelude.{IfOk}
use Rattle.std.specs.List.{All}
use Rattle.isl_piece.specs.declared.definition.Definition.{Definition}
use Rattle.isl_piece.specs.declared.system.System.{System}
use Rattle.isl_difference.proofs.TameLaws.{tame_ok}
use Rattle.isl_span.specs.Chain.{IsLinkOf, IsPlainChain, IsSmall}
use Rattle.isl_span.specs.Work.{link_units}
use Rattle.isl_span.proofs.CallLaws.{alone_at, are_small_all}
use Rattle.isl_span.proofs.ChainLaws.{first_over}
use Rattle.isl_span.proofs.last.link_of.Goals as goal

pub returns-then-systems-ne1-clause-seen : goal.returns-then-systems-ne1-clause-seen
returns-then-systems-ne1-clause-seen c bits s is plain =
    let one = ap (λ (l : List System). length l) is in absurd (omega (arith, one))

pub returns-then-defined-gt0-clause-seen : goal.returns-then-defined-gt0-clause-seen
returns-then-defined-gt0-clause-seen c bits s is plain =
    let one = ap (λ (l : List System). length l) is in
    let same : c.index-systems-0.result ≡ s = c.index-systems-0.is ∙ ap (λ (l : List System). get_or l 0 c.index-systems-0.result) is in
    let none = ap (λ (t : System). length t.definitions) same
    ∙ ap (λ (ds : List Definition). length ds) plain.differences.undefined in
    let some = c.defined.ensures in
    absurd (omega (arith, none, some))

pub returns-then-not-are_small-clause-seen : goal.returns-then-not-are_small-clause-seen
returns-then-not-are_small-clause-seen c bits s is plain =
    let t : System = c.index-systems-0.result in
    let same : t ≡ s = c.index-systems-0.is ∙ ap (λ (l : List System). get_or l 0 t) is in
    let no : c.are_small.result ≡ false = grind (arith, common_steps) in
    let small = are_small_all bits s.rows plain.differences.rows in
    let rows : c.as_slice.result.now ≡ s.rows = c.as_slice.ensures ∙ ap (λ (o : System). o.rows) same in
    absurd (false≢true (sym no ∙ c.are_small.ensures.1 (subst (All IsSmall) (sym rows) small)))

pub link_in-requires-clause-over : goal.link_in-requires-clause-over
link_in-requires-clause-over c =
    let one : length c.args.systems.now ≡ 1 = grind (arith, common_steps) in
    first_over c.args.meter.now (c.args.last + 1) c.args.systems.now c.index-systems-0.result c.requires one c.index-systems-0.is

pub link_in-requires-clause-plain : goal.link_in-requires-clause-plain
link_in-requires-clause-plain c =
    let none : length c.index-systems-0.result.definitions ≡ 0 = grind (arith, common_steps) in
    nil_from_length c.index-systems-0.result.definitions none

pub returns-clause-exact : goal.returns-clause-exact
returns-clause-exact c =
    let one : length c.args.systems.now ≡ 1 = grind (arith, common_steps) in
    let alone = alone_at c.args.systems.now c.index-systems-0.result one c.index-systems-0.is in
    subst (λ (l : List System). IfOk c.link_in.result (IsLinkOf c.args.meter.now c.args.last l)) (sym alone) c.link_in.ensures.exact

pub returns-clause-seen : goal.returns-clause-seen
returns-clause-seen c bits s is plain =
    let t : System = c.index-systems-0.result in
    let same : t ≡ s = c.index-systems-0.is ∙ ap (λ (l : List System). get_or l 0 t) is in
    c.link_in.ensures.seen bits (subst (IsPlainChain (c.args.last + 1) bits) (sym same) plain)

-- ---- of difference constraints
pub returns-then-systems-ne1-clause-tame : goal.returns-then-systems-ne1-clause-tame
returns-then-systems-ne1-clause-tame c = λ bits s limit room is plain.
    tame_ok (link_units (c.args.last + 1)) c.args.meter.now c.args.meter.now _ _ (omega arith) tt

pub returns-then-defined-gt0-clause-tame : goal.returns-then-defined-gt0-clause-tame
returns-then-defined-gt0-clause-tame c = λ bits s limit room is plain.
    tame_ok (link_units (c.args.last + 1)) c.args.meter.now c.args.meter.now _ _ (omega arith) tt

pub returns-then-not-are_small-clause-tame : goal.returns-then-not-are_small-clause-tame
returns-then-not-are_small-clause-tame c = λ bits s limit room is plain.
    tame_ok (link_units (c.args.last + 1)) c.args.meter.now c.args.meter.now _ _ (omega arith) tt

pub returns-clause-tame : goal.returns-clause-tame
returns-clause-tame c = λ bits s limit room is plain.
    let t : System = c.index-systems-0.result in
    let same : t ≡ s = c.index-systems-0.is ∙ ap (λ (l : List System). get_or l 0 t) is in
    c.link_in.ensures.tame bits limit room (subst (IsPlainChain (c.args.last + 1) bits) (sym same) plain)
