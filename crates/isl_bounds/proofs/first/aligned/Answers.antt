use Rattle.std.proofs.Common.{◌≡◌, ◌∙◌, sym, ap, subst, arith, ℕ, length, of_z, to_z, to_z-of_z}
use Rattle.std.specs.Int.{w128}
use Rattle.isl_meter.specs.Gauge.{IsWithin}
use Rattle.std.specs.List.{remove}
use Rattle.std.proofs.lemmas.Grind.{common_steps}
use Rattle.isl_frame.proofs.SolvedLaws.{remove_long}
use Rattle.isl_loop.specs.Formed.{IsExprOver}
use Rattle.isl_piece.specs.declared.row.Row.{Row}
use Rattle.isl_bounds.proofs.FirstLaws.{aligned_to, step_wide}
use Rattle.isl_bounds.proofs.first.aligned.Goals as goal

pub returns : goal.returns
returns c =
    let g = c.args.meter.now in
    let step = c.args.step.now in
    let variables = c.args.variables in
    let coefs : c.as_slice.result.now ≡ remove step.coefs variables = grind (arith, common_steps) in
    let narrow : length c.as_slice.result.now ≡ variables = ap length coefs
    ∙ remove_long step.coefs variables c.requires.step.formed.width in
    let beyond = c.in_ok-beyond.ensures in
    let k = to_z w128 (of_z w128 step.k) in
    let same : k ≡ step.k = grind (arith, common_steps, to_z-of_z) in
    let own = c.in_ok-own.ensures.exact in
    let wide : length c.in_ok-own.own.coefs ≡ variables =
    ap (λ (r : Row). length r.coefs) own ∙ step_wide g variables step c.requires.step in (
      aligned_to g variables step c.requires.step c.args.low c.in_ok-beyond.beyond c.in_ok-plus_multiple.field-0 c.in_ok-own.own
          c.as_slice.result.now c.constant.result k own coefs c.constant.ensures same beyond.0.1 c.in_ok-plus_multiple.ensures.value
          (c.in_ok-plus_multiple.ensures.over g variables c.in_ok-own.ensures.within wide
          (subst (λ (n : ℕ). IsExprOver g n c.in_ok-beyond.beyond) narrow beyond.0.0) (subst (IsWithin g) (sym same) c.requires.step.within.k)),
      beyond.1,
    )
