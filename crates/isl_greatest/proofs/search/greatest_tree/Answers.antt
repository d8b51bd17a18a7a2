use Rattle.std.proofs.Common.{◌≡◌, ◌∙◌, refl, sym, ap, subst, arith, [], List}
use Rattle.std.proofs.lemmas.Grind.{common_steps}
use Rattle.std.proofs.lemmas.Result.{IfOk-weaker}
use Rattle.isl_piece.specs.System.{HoldsSystem}
use Rattle.isl_greatest.specs.Search.{IsReached, IsTreeWithin}
use Rattle.isl_greatest.specs.State.{IsState}
use Rattle.isl_greatest.proofs.SearchLaws.{empty_context, empty_frame, start_reached, start_state, tree_everywhere}
use Rattle.isl_greatest.proofs.search.greatest_tree.Goals as goal

pub build-requires : goal.build-requires
build-requires c =
    let g = c.args.meter.now in
    let p = c.args.problem.now in
    let context = empty_context g p.front c.new-context.result (grind (arith, common_steps)) in
    let frame = empty_frame g p.front c.new-chosen.result (grind (arith, common_steps)) in
    record {
      problem = c.requires;
      context = context;
      state = subst (IsState g p) (sym c.at.ensures) (start_state g p c.new-chosen.result c.requires frame (grind (arith, common_steps)));
      reached = subst (IsReached p c.new-context.result) (sym c.at.ensures) (start_reached p c.new-context.result c.new-chosen.result (grind (arith, common_steps)));
    }

pub returns-clause-tree : goal.returns-clause-tree
returns-clause-tree c =
    let g = c.args.meter.now in
    let p = c.args.problem.now in
    IfOk-weaker c.build.result (IsTreeWithin g p (HoldsSystem c.new-context.result)) (IsTreeWithin g p (λ _. Unit {0}))
    (λ tree made. tree_everywhere g p c.new-context.result tree (grind (arith, common_steps)) made) c.build.ensures.tree
