use Rattle.std.proofs.Common.{◌∙◌, ap}
use Rattle.isl_piece.specs.declared.system.System.{System}
use Rattle.isl_piece.specs.Placed.{both_systems}
use Rattle.isl_difference.proofs.DifferenceLaws.{systems_aligned}
use Rattle.isl_difference.proofs.difference.align.Goals as goal

pub returns-clause-aligned : goal.returns-clause-aligned
returns-clause-aligned c = λ g w v.
    systems_aligned g c.args.system.now c.args.other.now c.in_ok-other_frame.other_frame c.in_ok-own_frame.own_frame c.in_ok-wide.wide
    c.in_ok-moved.moved c.in_ok-other_frame.ensures c.in_ok-own_frame.ensures c.requires.columns c.requires.different w v
    c.in_ok-wide.ensures.apart c.in_ok-moved.ensures.apart c.in_ok-wide.ensures.points c.in_ok-moved.ensures.points
    c.in_ok-wide.ensures.within c.in_ok-moved.ensures.within

pub returns-clause-exact : goal.returns-clause-exact
returns-clause-exact c =
    let s = c.args.system.now in
    let other = c.args.other.now in (
      c.in_ok-wide.ensures.exact ∙ ap (both_systems s) c.in_ok-other_frame.ensures,
      c.in_ok-moved.ensures.exact ∙ ap (λ (t : System). both_systems t other) c.in_ok-own_frame.ensures,
    )
