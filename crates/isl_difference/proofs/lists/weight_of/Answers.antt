use Rattle.std.proofs.Common.{◌≡◌, ◌∙◌, ◌+◌, ap, arith, length, take, min, get_or, sum_by}
use Rattle.std.proofs.lemmas.List.Sums.{sum_by_more}
use Rattle.isl_piece.specs.declared.system.System.{System}
use Rattle.isl_difference.proofs.lists.weight_of.Goals as goal

pub loop-one-preserved : goal.loop-one-preserved
loop-one-preserved g c =
    let xs = c.args.list.now in
    let i = c.loop-one.one-index in
    let item = c.one-item.result in
    let more = sum_by_more (λ x. length (g.T.Weighed.weighed x).rows + 1) xs i item (omega (arith, c.loop-one-test.true)) in
    let rows : c.len-rows.result ≡ length (g.T.Weighed.weighed (get_or xs i item)).rows
    = c.len-rows.ensures ∙ ap (λ (s : System). length s.rows) c.weighed_system.ensures
    ∙ ap (λ x. length (g.T.Weighed.weighed x).rows) c.one-item.is in
    let before : c.loop-one.weight ≡ min (sum_by (λ x. length (g.T.Weighed.weighed x).rows + 1) (take i xs)) 18446744073709551615
    = c.loop-one.invariant in
    let after : c.saturating_add-weight.result
    ≡ min (sum_by (λ x. length (g.T.Weighed.weighed x).rows + 1) (take (i + 1) xs)) 18446744073709551615
    = omega (arith, c.saturating_add-weight.ensures, c.saturating_add.ensures, before, rows, more) in
    after
