use Rattle.std.proofs.Common.{◌≡◌, ◌∙◌, ◌<◌, ◌≤◌, ◌++◌, ◌∷◌, [], ap, append_assoc, arith, get_or, length, map, sym, take, List}
use Rattle.std.proofs.lemmas.Grind.{common_steps}
use Rattle.std.proofs.lemmas.List.{map_more, take_all}
use Rattle.isl_piece.specs.declared.row.Row.{Row}
use Rattle.isl_span.specs.Chain.{padded}
use Rattle.isl_span.proofs.chain.push_padded.Goals as goal

pub loop-other-preserved : goal.loop-other-preserved
loop-other-preserved c =
    let n = c.args.columns in
    let old = c.args.rows.now in
    let others = c.args.others.now in
    let other : Row = c.other-item.result in
    let i = c.loop-other.other-index in
    let new : Row = c.in_ok-padded.field-0 in
    let low : i < length others = grind (arith, common_steps) in
    let pushed : c.push.new.self ≡ c.loop-other.rows ++ new ∷ [] = grind arith in
    let is : new ≡ padded n (get_or others i other) = c.in_ok-padded.ensures ∙ ap (λ (r : Row). padded n r) c.other-item.is in
    pushed ∙ ap (λ (l : List Row). l ++ new ∷ []) c.loop-other.invariant
    ∙ append_assoc old (map (padded n) (take i others)) (new ∷ [])
    ∙ ap (λ (r : Row). old ++ (map (padded n) (take i others) ++ r ∷ [])) is
    ∙ ap (λ (l : List Row). old ++ l) (sym (map_more (padded n) others i other low))

pub returns : goal.returns
returns c =
    let others = c.args.others.now in
    let i = c.loop-other.other-index in
    let end : length others ≤ i = grind (arith, common_steps) in
    c.loop-other.invariant ∙ ap (λ (l : List Row). c.args.rows.now ++ map (padded c.args.columns) l) (take_all i others end)
