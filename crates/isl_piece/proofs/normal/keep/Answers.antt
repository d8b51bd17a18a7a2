use Rattle.std.proofs.Common.{ap, sym, ◌∙◌, arith, subst, take, Some, None}
use Rattle.isl_piece.specs.Normal.{with_row}
use Rattle.isl_piece.specs.Index.{IsIndexOf}
use Rattle.isl_piece.proofs.IndexLaws.{with_row_put, IsIndexOf-tighter}
use Rattle.isl_piece.proofs.PlaceLaws.{kept_place, kept_last}
use Rattle.isl_piece.proofs.normal.keep.Goals as goal

pub returns-in-Some-clause-front : goal.returns-in-Some-clause-front
returns-in-Some-clause-front c =
    let place = c.in-Some.place in
    let row = c.index-all-at.result in
    let with = with_row_put (take c.args.kept c.args.rows.now) row (Some place) c.requires.index.distinct c.in-Some.ensures in
    kept_place c.args.rows.now c.args.kept c.args.at place c.index-rows-place.result c.index-rows-at.result row c.take_lesser.new.row
    c.requires.inside c.in-Some.ensures.0 with c.index-all-at.is c.index-rows-at.is c.index-rows-place.is (grind arith)

pub returns-in-Some-clause-index : goal.returns-in-Some-clause-index
returns-in-Some-clause-index c =
    let index = c.args.index.now in
    let first = take c.args.kept c.args.rows.now in
    let place = c.in-Some.place in
    let row = c.index-all-at.result in
    let with = with_row_put first row (Some place) c.requires.index.distinct c.in-Some.ensures in
    let front = returns-in-Some-clause-front c row in
    subst (IsIndexOf index) (sym (front ∙ ap (with_row first) (sym c.index-all-at.is) ∙ with))
    (IsIndexOf-tighter index first place row c.in-Some.ensures.0 c.in-Some.ensures.1 c.requires.index)

pub returns-in_ok-push-in-None-clause-front : goal.returns-in_ok-push-in-None-clause-front
returns-in_ok-push-in-None-clause-front c =
    let row = c.index-all-at.result in
    let with = with_row_put (take c.args.kept c.args.rows.now) row None c.requires.index.distinct c.in-None.ensures in
    kept_last c.args.rows.now c.swap.new.self c.args.kept c.args.at row
    c.requires.before c.requires.inside c.index-all-at.is c.swap.ensures.by_index with

pub returns-in_ok-push-in-None-clause-index : goal.returns-in_ok-push-in-None-clause-index
returns-in_ok-push-in-None-clause-index c =
    let first = take c.args.kept c.args.rows.now in
    let row = c.index-all-at.result in
    let with = with_row_put first row None c.requires.index.distinct c.in-None.ensures in
    let front = returns-in_ok-push-in-None-clause-front c row in
    subst (IsIndexOf c.push.new.self) (sym (front ∙ ap (with_row first) (sym c.index-all-at.is) ∙ with)) c.in_ok-push-in-None.ensures
