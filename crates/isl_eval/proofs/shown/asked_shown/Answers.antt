use Rattle.std.proofs.Common.{◌∙◌, refl, sym}
use Rattle.isl_values.specs.State.{scope_of}
use Rattle.isl_tree.specs.declared.statement.Stmt.TheVariants.{Show}
use Rattle.isl_eval.specs.Ended.{StatementEnds}
use Rattle.isl_tree.specs.declared.statement.Prefix.TheVariants as p
use Rattle.isl_eval.specs.Evaluation.{EndsGeneration, EndsListing, EndsTest, EndsTrees}
use Rattle.isl_eval.proofs.AskedLaws.{codegen_word, pip_word}
use Rattle.isl_eval.proofs.CodedLaws.{codegen_ends, codegen_shows}
use Rattle.isl_eval.proofs.TreesLaws.{pip_ends, pip_shows}
use Rattle.isl_eval.proofs.TestLaws.{shows_test}
use Rattle.isl_eval.proofs.ShownLaws.{asked_none, asked_scan, asked_sound, asked_test, asked_works, moment_of, outcome_in}
use Rattle.isl_eval.proofs.ShownLaws.{row_is, scan_assumed, scan_ends, scan_shows}
use Rattle.isl_eval.proofs.ShownLaws.{test_ends, test_ready, test_works}
use Rattle.isl_eval.proofs.shown.asked_shown.Goals as goal

pub coded-requires-clause-sound : goal.coded-requires-clause-sound
coded-requires-clause-sound c =
    asked_sound (moment_of c.args.state.now c.args.meter.now c.args.options.now) c.args.expr.now c.in-Prefix.operand
    c.get-operand.result.now p.Codegen _ c.in-Prefix.is (codegen_word _ (sym c.is_codegen.ensures ∙ c.if-is_codegen.true))
    c.get-operand.ensures refl c.requires.evaluable

pub listed-requires-clause-sound : goal.listed-requires-clause-sound
listed-requires-clause-sound c =
    asked_sound (moment_of c.args.state.now c.args.meter.now c.args.options.now) c.args.expr.now c.in-Prefix.operand
    c.get-operand.result.now p.Scan _ c.in-Prefix.is
    (asked_scan c.args.expr.now c.in-Prefix.operand _ c.in-Prefix.is c.requires.asked (sym c.is_codegen.ensures ∙ c.if-is_codegen.false)
    (sym c.is_pip.ensures ∙ c.if-is_pip.false))
    c.get-operand.ensures refl c.requires.evaluable

pub listed-requires-clause-assumed : goal.listed-requires-clause-assumed
listed-requires-clause-assumed c =
    scan_assumed (moment_of c.args.state.now c.args.meter.now c.args.options.now) c.args.expr.now c.in-Prefix.operand
    c.get-operand.result.now _ c.in-Prefix.is
    (asked_scan c.args.expr.now c.in-Prefix.operand _ c.in-Prefix.is c.requires.asked (sym c.is_codegen.ensures ∙ c.if-is_codegen.false)
    (sym c.is_pip.ensures ∙ c.if-is_pip.false))
    c.get-operand.ensures c.requires.assumed

pub returns-then-is_codegen : goal.returns-then-is_codegen
returns-then-is_codegen c =
    let before = moment_of c.args.state.now c.args.meter.now c.args.options.now in
    let which = codegen_word _ (sym c.is_codegen.ensures ∙ c.if-is_codegen.true) in
    outcome_in c.coded.result _ _ (EndsGeneration c.args.state.now c.get-operand.result.now)
    (StatementEnds before (Show c.args.expr.now)) _ _ c.args.meter.now c.coded.new.meter
    (λ none. asked_works before c.args.expr.now c.in-Prefix.operand c.get-operand.result.now p.Codegen _ c.in-Prefix.is which
    c.get-operand.ensures refl ∙ none)
    (codegen_ends before c.args.expr.now c.in-Prefix.operand c.get-operand.result.now _ c.in-Prefix.is which c.get-operand.ensures)
    (λ code h. codegen_shows before c.args.expr.now c.in-Prefix.operand c.get-operand.result.now _ c.in-Prefix.is which
    c.get-operand.ensures code h)
    c.coded.ensures

pub forested-requires-clause-sound : goal.forested-requires-clause-sound
forested-requires-clause-sound c =
    asked_sound (moment_of c.args.state.now c.args.meter.now c.args.options.now) c.args.expr.now c.in-Prefix.operand
    c.get-operand.result.now p.Pip _ c.in-Prefix.is (pip_word _ (sym c.is_pip.ensures ∙ c.if-is_pip.true))
    c.get-operand.ensures refl c.requires.evaluable

pub returns-then-is_pip : goal.returns-then-is_pip
returns-then-is_pip c =
    let before = moment_of c.args.state.now c.args.meter.now c.args.options.now in
    let which = pip_word _ (sym c.is_pip.ensures ∙ c.if-is_pip.true) in
    outcome_in c.forested.result _ _ (EndsTrees c.args.state.now c.get-operand.result.now)
    (StatementEnds before (Show c.args.expr.now)) _ _ c.args.meter.now c.forested.new.meter
    (λ none. asked_works before c.args.expr.now c.in-Prefix.operand c.get-operand.result.now p.Pip _ c.in-Prefix.is which
    c.get-operand.ensures refl ∙ none)
    (pip_ends before c.args.expr.now c.in-Prefix.operand c.get-operand.result.now _ c.in-Prefix.is which c.get-operand.ensures)
    (λ trees h. pip_shows before c.args.expr.now c.in-Prefix.operand c.get-operand.result.now _ c.in-Prefix.is which
    c.get-operand.ensures trees h)
    c.forested.ensures

pub returns-else-is_pip : goal.returns-else-is_pip
returns-else-is_pip c =
    let before = moment_of c.args.state.now c.args.meter.now c.args.options.now in
    let which = asked_scan c.args.expr.now c.in-Prefix.operand _ c.in-Prefix.is c.requires.asked
    (sym c.is_codegen.ensures ∙ c.if-is_codegen.false) (sym c.is_pip.ensures ∙ c.if-is_pip.false) in
    outcome_in c.listed.result _ _ (EndsListing c.args.state.now c.get-operand.result.now c.args.options.now.at)
    (StatementEnds before (Show c.args.expr.now)) _ _ c.args.meter.now c.listed.new.meter
    (λ none. asked_works before c.args.expr.now c.in-Prefix.operand c.get-operand.result.now p.Scan _ c.in-Prefix.is which
    c.get-operand.ensures refl ∙ none)
    (scan_ends before c.args.expr.now c.in-Prefix.operand c.get-operand.result.now _ c.in-Prefix.is which c.get-operand.ensures)
    (λ line h. scan_shows before c.args.expr.now c.in-Prefix.operand c.get-operand.result.now _ c.in-Prefix.is which
    c.get-operand.ensures line h)
    c.listed.ensures

pub truth_shown-requires-clause-ready : goal.truth_shown-requires-clause-ready
truth_shown-requires-clause-ready c =
    test_ready (scope_of c.args.state.now) c.args.expr.now _ c.get.result.now _ c.as_slice.result.now c.in-Some.before.now
    c.in-Some.last.now
    c.in-Row.is c.get.ensures c.as_slice.ensures c.in-Some.ensures.cases.0
    (asked_test c.args.expr.now _ _ c.as_slice.result.now c.in-Some.before.now c.in-Some.last.now c.in-Row.is c.as_slice.ensures
    c.in-Some.ensures.cases.0
    c.requires.asked) c.requires.evaluable

pub returns-in-Some : goal.returns-in-Some
returns-in-Some c =
    let before = moment_of c.args.state.now c.args.meter.now c.args.options.now in
    let test = asked_test c.args.expr.now _ _ c.as_slice.result.now c.in-Some.before.now c.in-Some.last.now c.in-Row.is c.as_slice.ensures
    c.in-Some.ensures.cases.0 c.requires.asked in
    let row = row_is c.args.expr.now _ c.get.result.now _ c.as_slice.result.now c.in-Some.before.now c.in-Some.last.now c.in-Row.is
    c.get.ensures c.as_slice.ensures c.in-Some.ensures.cases.0 in
    let works = test_works c.args.state.now.assumed c.args.expr.now _ _ c.as_slice.result.now c.in-Some.before.now c.in-Some.last.now
    c.in-Row.is c.as_slice.ensures c.in-Some.ensures.cases.0 test in
    outcome_in c.truth_shown.result _ _
    (EndsTest c.args.state.now c.get.result.now c.in-Some.before.now c.in-Some.last.now)
    (StatementEnds before (Show c.args.expr.now)) _ _ c.args.meter.now c.truth_shown.new.meter (λ none. works ∙ none)
    (test_ends before c.args.expr.now c.get.result.now c.in-Some.before.now c.in-Some.last.now row)
    (λ line h. shows_test before c.args.expr.now c.get.result.now _ c.in-Some.before.now c.in-Some.last.now line
    c.cert-asked.result c.cert-asked.ensures row refl (sym test) h)
    c.truth_shown.ensures

pub unreachable-requires : goal.unreachable-requires
unreachable-requires c =
    asked_none c.args.expr.now c.in-Row.first c.in-Row.links c.as_slice.result.now c.in-Row.is c.as_slice.ensures c.in-None.ensures.cases
    c.requires.asked
