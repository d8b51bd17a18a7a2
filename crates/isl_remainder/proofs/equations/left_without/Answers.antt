use Rattle.std.proofs.Common.{◌∙◌, sym, subst}
use Rattle.std.proofs.lemmas.Result.{IfOk-weaker}
use Rattle.isl_piece.specs.System.{IsSystemWithin}
use Rattle.isl_difference.proofs.SplitLaws.{charged_within}
use Rattle.isl_blocks.specs.Left.{IsLeftWithout}
use Rattle.isl_remainder.proofs.SolvedLaws.{solved_free, solved_left}
use Rattle.isl_remainder.proofs.equations.left_without.Goals as goal

pub solved-requires : goal.solved-requires
solved-requires c = subst (IsSystemWithin c.args.meter.now) (sym c.in_ok-copy.ensures) c.requires.within

pub live_without-requires : goal.live_without-requires
live_without-requires c =
    let g = c.args.meter.now in
    let h = c.solved.new.meter in
    let simple = c.in_ok-simple.simple in
    let is = rw c.in_ok-copy.ensures at c.in_ok-simple.ensures.made in
    record {
      within = charged_within g h simple c.in_ok-simple.ensures.meter is.within;
      columns = solved_free g c.args.system.now simple is ∙ c.requires.columns;
    }

pub returns-clause-left : goal.returns-clause-left
returns-clause-left c =
    let g = c.args.meter.now in
    let h = c.solved.new.meter in
    let system = c.args.system.now in
    let simple = c.in_ok-simple.simple in
    let is = rw c.in_ok-copy.ensures at c.in_ok-simple.ensures.made in
    IfOk-weaker c.live_without.result (λ left. IsLeftWithout h simple c.args.kept c.args.count left.items)
    (λ left. IsLeftWithout g system c.args.kept c.args.count left.items)
    (λ left has. solved_left g h system simple c.args.kept c.args.count left.items c.in_ok-simple.ensures.meter is has)
    c.live_without.ensures.left
