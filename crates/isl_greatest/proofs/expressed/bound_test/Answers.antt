use Rattle.std.proofs.Common.{◌≡◌, ◌∙◌, ◌+◌, sym, ap, subst, ℤ, List, length}
use Rattle.std.specs.List.{All}
use Rattle.std.proofs.lemmas.Result.{MatchResult-weaker}
use Rattle.isl_meter.specs.Gauge.{IsWithin}
use Rattle.isl_greatest.specs.Expressed.{IsExpressed}
use Rattle.isl_greatest.proofs.ExpressedLaws.{test_bound}
use Rattle.isl_greatest.proofs.expressed.bound_test.Goals as goal

pub expressed-requires : goal.expressed-requires
expressed-requires c =
    let g = c.args.meter.now in
    let slice = c.as_slice-coefs.ensures in
    record {
      definitions = c.requires.definitions;
      count = ap length slice ∙ c.requires.formed.width;
      coefs = subst (All (IsWithin g)) (sym slice) c.requires.within.coefs;
      constant = subst (IsWithin g) (sym c.constant.ensures) c.requires.within.constant;
    }

pub returns : goal.returns
returns c =
    let g = c.args.meter.now in
    let n = c.args.front in
    let ds = c.args.definitions.now in
    let r = c.args.row.now in
    MatchResult-weaker c.expressed.result c.expressed.ensures
    (λ e told. (
      test_bound g n ds r e c.requires.kind
          (subst (λ (z : ℤ). IsExpressed g n ds r.coefs z e) c.constant.ensures
          (subst (λ (l : List ℤ). IsExpressed g n ds l c.constant.result e) c.as_slice-coefs.ensures told.0)),
      told.1,
    ))
    (λ cut told. told)
