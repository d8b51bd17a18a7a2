use Rattle.std.proofs.Common.{◌≡◌, ◌+◌, ◌<◌, ◌++◌, ◌∷◌, [], length, take, sym, ap, ◌∙◌, get_or, arith}
use Rattle.std.specs.List.{insert}
use Rattle.std.proofs.lemmas.Grind.{common_steps}
use Rattle.std.proofs.lemmas.List.{take_more}
use Rattle.std.proofs.lemmas.List.Elements.{All-push}
use Rattle.isl_piece.specs.declared.row.Row.{Row}
use Rattle.isl_omega.specs.Sides.{IsNotDivides}
use Rattle.isl_shadows.specs.Neighbours.{Has}
use Rattle.isl_shadows.proofs.CountLemmas.{has_put, has_new, all_put}
use Rattle.isl_column.proofs.neighbours.by_period.Goals as goal

pub loop-row-preserved : goal.loop-row-preserved
loop-row-preserved c =
    let rows = c.args.rows.now in
    let i = c.loop-row.row-index in
    let r = c.row-item.result in
    let ordered = c.loop-row.ordered.items in
    let place = c.place_of-place.result in
    let inside : i < length rows = grind (arith, common_steps) in
    let taken : take (i + 1) rows ≡ take i rows ++ r ∷ [] = take_more rows i r inside ∙ ap (λ (s : Row). take i rows ++ s ∷ []) (sym c.row-item.is) in
    let not_divides : IsNotDivides c.args.meter.now c.args.column.columns c.args.column.at r = grind (arith, common_steps) in
    let put : c.insert.new.self.items ≡ insert ordered place r = grind (arith, common_steps) in
    rw (taken, put) (
      all_put (IsNotDivides c.args.meter.now c.args.column.columns c.args.column.at) ordered place r c.loop-row.invariant.0 not_divides,
      All-push (Has (insert ordered place r)) (take i rows) r
          (λ k d l. has_put ordered place r (get_or (take i rows) k d) (c.loop-row.invariant.1 k d l)) (has_new ordered place r),
    )

pub returns-clause-all : goal.returns-clause-all
returns-clause-all c =
    let rows = c.args.rows.now in
    let whole : take c.loop-row.row-index rows ≡ rows = grind (arith, common_steps) in
    rw whole at c.loop-row.invariant.1
