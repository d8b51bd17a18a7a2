use Rattle.std.proofs.Common.{◌≡◌, ◌∙◌, ◌+◌, refl, sym, ap, subst, arith, ℕ, ℤ, pos, negsuc, List, length, replicate, set}
use Rattle.std.proofs.lemmas.Grind.{common_steps}
use Rattle.std.proofs.lemmas.Result.{MatchResult-weaker}
use Rattle.isl_meter.proofs.LimitLemmas.{IsWithin-zero}
use Rattle.isl_piece.specs.declared.definition.Definition.{Definition}
use Rattle.isl_piece.specs.Definition.{AreDefinitions}
use Rattle.isl_greatest.specs.Expressed.{IsExpressed}
use Rattle.isl_greatest.proofs.AskedLaws.{column_count, column_within, frame_definitions}
use Rattle.isl_greatest.proofs.ExpressedLaws.{column_value}
use Rattle.isl_greatest.proofs.expressed.negated_column.Goals as goal

pub expressed-requires : goal.expressed-requires
expressed-requires c =
    let g = c.args.meter.now in
    let n = c.args.front in
    let s = c.args.numbers.now in
    let ds : c.as_slice.result.now ≡ s.definitions = grind (arith, common_steps) in
    let coefs : c.as_slice-2.result.now ≡ set (replicate s.columns (pos 0)) c.args.column (negsuc 0) = grind (arith, common_steps) in
    record {
      definitions = subst (AreDefinitions g n) (sym ds) (frame_definitions g n s c.requires.frame);
      count = column_count g n s c.args.column c.as_slice-2.result.now c.requires.frame coefs ∙ ap (λ (l : List Definition). n + length l) (sym ds);
      coefs = column_within g s.columns c.args.column c.as_slice-2.result.now c.limit-limit.ensures.bits_low coefs;
      constant = IsWithin-zero g;
    }

pub returns : goal.returns
returns c =
    let g = c.args.meter.now in
    let n = c.args.front in
    let s = c.args.numbers.now in
    let ds : c.as_slice.result.now ≡ s.definitions = grind (arith, common_steps) in
    let coefs : c.as_slice-2.result.now ≡ set (replicate s.columns (pos 0)) c.args.column (negsuc 0) = grind (arith, common_steps) in
    MatchResult-weaker c.expressed.result c.expressed.ensures
    (λ e told. (
      column_value g n s c.args.column c.as_slice-2.result.now e c.requires.frame c.requires.column coefs
          (subst (λ (l : List Definition). IsExpressed g n l c.as_slice-2.result.now (pos 0) e) ds told.0),
      told.1,
    ))
    (λ cut told. told)
