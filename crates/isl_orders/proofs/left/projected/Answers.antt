use Rattle.std.proofs.Common.{◌≡◌, ◌≢◌, ◌↔◌, ◌∙◌, sym, ap, arith, subst, ◌+◌, ◌-◌, ◌<◌, ℕ, List, All}
use Rattle.std.specs.Prelude.{AllPairs}
use Rattle.std.specs.List.{range_with_len}
use Rattle.std.proofs.lemmas.Result.{IfOk-weaker}
use Rattle.isl_piece.specs.System.{free_columns}
use Rattle.isl_elim.specs.Elimination.{HoldsAtAny, IsProjectionAlong}
use Rattle.isl_elim.proofs.RangeLaws.{range_below, range_distinct}
use Rattle.isl_blocks.specs.Left.{HoldsBefore}
use Rattle.isl_blocks.proofs.LeftLaws.{left_columns, left_points}
use Rattle.isl_orders.proofs.left.projected.Goals as goal

pub project-requires-clause-distinct : goal.project-requires-clause-distinct
project-requires-clause-distinct c =
    let width : c.args.kept + c.args.count - c.args.kept ≡ c.args.count = omega arith in
    subst (λ (cols : List ℕ). AllPairs (λ a b. a ≢ b) cols)
    (sym (c.as_slice.ensures.value ∙ c.in_ok-columns.ensures ∙ ap (range_with_len c.args.kept) width))
    (range_distinct c.args.kept c.args.count)

pub project-requires-clause-cols_in : goal.project-requires-clause-cols_in
project-requires-clause-cols_in c =
    let width : c.args.kept + c.args.count - c.args.kept ≡ c.args.count = omega arith in
    let free = c.requires.columns in
    subst (λ (cols : List ℕ). All (λ col. col < free_columns c.args.system.now) cols)
    (sym (c.as_slice.ensures.value ∙ c.in_ok-columns.ensures ∙ ap (range_with_len c.args.kept) width))
    (range_below c.args.kept c.args.count (free_columns c.args.system.now) (omega (arith, free)))

pub returns-clause-points : goal.returns-clause-points
returns-clause-points c point long =
    let s = c.args.system.now in
    let width : c.args.kept + c.args.count - c.args.kept ≡ c.args.count = omega arith in
    let cols = c.as_slice.result.now in
    let are = c.as_slice.ensures.value ∙ c.in_ok-columns.ensures ∙ ap (range_with_len c.args.kept) width in
    IfOk-weaker c.project.result (λ systems. IsProjectionAlong s cols systems.items)
    (λ systems. HoldsAtAny systems.items point ↔ HoldsBefore s c.args.count point)
    (λ systems projection. left_points s c.args.kept c.args.count c.requires.columns cols are systems.items projection point long)
    c.project.ensures.projection

pub returns-clause-columns : goal.returns-clause-columns
returns-clause-columns c =
    let s = c.args.system.now in
    let width : c.args.kept + c.args.count - c.args.kept ≡ c.args.count = omega arith in
    let cols = c.as_slice.result.now in
    let are = c.as_slice.ensures.value ∙ c.in_ok-columns.ensures ∙ ap (range_with_len c.args.kept) width in
    IfOk-weaker c.project.result (λ systems. IsProjectionAlong s cols systems.items)
    (λ systems. All (λ t. free_columns t ≡ c.args.kept) systems.items)
    (λ systems projection. left_columns s c.args.kept c.args.count c.requires.columns cols are systems.items projection)
    c.project.ensures.projection
