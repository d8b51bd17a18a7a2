use Rattle.std.proofs.Common.{◌≡◌, ◌∙◌, ap, string_bytes}
use Rattle.isl_eval.specs.Machine.{told}
use Rattle.isl_eval.proofs.shown.truth_shown.Goals as goal

pub returns : goal.returns
returns c =
    let verdict = c.in_ok-verdict.verdict in
    let made = c.in_ok-verdict.ensures in
    let is = c.in_ok-of_truth.ensures ∙ ap (told verdict.holds) c.as_str.ensures.value in (
      (verdict.holds, string_bytes verdict.lines, made.0.0, made.0.1, is),
      made.1,
      made.2,
    )
