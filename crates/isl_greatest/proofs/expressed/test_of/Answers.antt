use Rattle.std.proofs.Common.{◌≡◌, ◌∙◌, ◌+◌, sym, ap, subst, List, length, get_or}
use Rattle.std.proofs.lemmas.Result.{MatchResult-weaker}
use Rattle.isl_piece.specs.declared.definition.Definition.{Definition}
use Rattle.isl_piece.specs.declared.row.Row.{Row}
use Rattle.isl_piece.specs.Definition.{AreDefinitions}
use Rattle.isl_piece.specs.Row.{IsWellFormed}
use Rattle.isl_greatest.specs.Expressed.{IsRowTest}
use Rattle.isl_greatest.proofs.AskedLaws.{asked_definitions, asked_formed, asked_kind, asked_within}
use Rattle.isl_greatest.proofs.DecideLaws.{question_row}
use Rattle.isl_greatest.proofs.ExpressedLaws.{test_question}
use Rattle.isl_greatest.proofs.expressed.test_of.Goals as goal

pub row_test-requires : goal.row_test-requires
row_test-requires c =
    let g = c.args.meter.now in
    let n = c.args.front in
    let s = c.args.question.now in
    let r = c.index-as_slice-0.result in
    let own = question_row g n s r c.requires (c.index-as_slice-0.is ∙ ap (λ (rs : List Row). get_or rs 0 r) c.as_slice.ensures) in
    let ds = sym c.as_slice-definitions.ensures in
    record {
      definitions = subst (AreDefinitions g n) ds (asked_definitions g n s c.requires r own);
      formed = subst (λ (l : List Definition). IsWellFormed (n + length l) r) ds (asked_formed g n s c.requires r own);
      within = asked_within g n s c.requires r own;
      kind = asked_kind g n s c.requires r own;
    }

pub returns : goal.returns
returns c =
    let g = c.args.meter.now in
    let n = c.args.front in
    let s = c.args.question.now in
    let r = c.index-as_slice-0.result in
    let own = question_row g n s r c.requires (c.index-as_slice-0.is ∙ ap (λ (rs : List Row). get_or rs 0 r) c.as_slice.ensures) in
    MatchResult-weaker c.row_test.result c.row_test.ensures
    (λ e told. (
      test_question g n s c.requires r own e (subst (λ (l : List Definition). IsRowTest g n l r e) c.as_slice-definitions.ensures told.0),
      told.1,
    ))
    (λ cut told. told)
