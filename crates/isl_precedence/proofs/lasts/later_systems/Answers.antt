use Rattle.std.proofs.Common.{◌≡◌, ◌∙◌, ap, sym}
use Rattle.std.specs.List.{Any}
use Rattle.std.proofs.lemmas.Bool.{false≢true}
use Rattle.std.proofs.lemmas.Result.{IfOk-weaker}
use Rattle.isl_blocks.specs.Blocks.{picked_width, total}
use Rattle.isl_precedence.specs.Forms.{widths_for}
use Rattle.isl_precedence.specs.Later.{all_but_source, later_widths, AreAlikeForms, HasLater, HoldsOver, HoldsPicked, IsOver, IsPlainLater}
use Rattle.isl_remainder.specs.Made.{AreMade}
use Rattle.isl_precedence.specs.Precedence.{HoldsFor, LiesIn, blocks_of}
use Rattle.isl_precedence.proofs.LastLaws.{alike_widths, later_spread, never_later, IsPlainSystem}
use Rattle.isl_remainder.proofs.MadeLaws.{made_nothing}
use Rattle.isl_precedence.proofs.lasts.later_systems.Goals as goal

pub all_spread-requires-clause-columns : goal.all_spread-requires-clause-columns
all_spread-requires-clause-columns c =
    let params = c.args.params.now in
    let f = c.args.forms.now in
    let k = c.args.later.now in
    let alike = c.are_alike.ensures.0 c.if-are_alike.true in
    let same : total (later_widths params k.forms) ≡ picked_width (widths_for params f) all_but_source =
    ap total (alike_widths params k.forms f alike) in
    rw (c.as_slice.ensures.value, c.as_slice-systems.ensures.value, c.in_ok-widths.ensures.exact)
    (λ i d l. c.requires.columns i d l ∙ same)

pub returns-then-are_alike : goal.returns-then-are_alike
returns-then-are_alike c g is =
    let params = c.args.params.now in
    let f = c.args.forms.now in
    let k = c.args.later.now in
    let widths = widths_for params f in
    let alike = c.are_alike.ensures.0 c.if-are_alike.true in
    let over = (rw (c.as_slice.ensures.value, c.as_slice-systems.ensures.value, c.in_ok-widths.ensures.exact) at c.all_spread.ensures)
    g is.within in
    IfOk-weaker c.all_spread.result
    (λ made. AreMade (HoldsOver widths) (IsOver g widths) IsPlainSystem (IsPlainLater k)
    (λ blocks. Any (HoldsPicked widths all_but_source blocks) k.systems.items) made.items)
    (λ made. AreMade (λ o s. HoldsFor params f s o) (IsOver g widths) IsPlainSystem (IsPlainLater k)
    (λ o. LiesIn f o × HasLater params o k) made.items)
    (λ made are. record {
      has = λ o. later_spread params f k o made.items alike (are.has (blocks_of params o));
      sound = are.sound;
      plain = are.plain;
    })
    over

pub returns : goal.returns
returns c g is =
    let params = c.args.params.now in
    let f = c.args.forms.now in
    let k = c.args.later.now in
    let apart : ¬ AreAlikeForms k.forms f = λ alike. false≢true (sym c.if-are_alike.false ∙ c.are_alike.ensures.1 alike) in
    made_nothing (λ o s. HoldsFor params f s o) (IsOver g (widths_for params f)) IsPlainSystem (IsPlainLater k)
    (λ o. LiesIn f o × HasLater params o k) (never_later params f k apart) c.new.result.items c.new.ensures.items
