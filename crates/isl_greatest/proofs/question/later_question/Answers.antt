use Rattle.std.proofs.Common.{◌≡◌, ◌∙◌, ◌++◌, ◌∷◌, [], pos, negsuc, sym, ap, arith, ℤ, List, length, replicate}
use Rattle.std.proofs.lemmas.Grind.{common_steps}
use Rattle.std.proofs.lemmas.List.{append_assoc}
use Rattle.isl_meter.proofs.LimitLemmas.{IsWithin-small, IsWithin-zero}
use Rattle.isl_piece.specs.declared.row.RowKind.TheVariants as kind
use Rattle.isl_piece.specs.declared.row.Row.{Row}
use Rattle.isl_piece.specs.System.{free_columns}
use Rattle.isl_greatest.specs.State.{full, number}
use Rattle.isl_greatest.proofs.CandidateLaws.{frame_full}
use Rattle.isl_greatest.proofs.QuestionLaws.{later_asked, later_is, later_points, later_row}
use Rattle.isl_greatest.proofs.question.later_question.Goals as goal

pub returns-clause-asked : goal.returns-clause-asked
returns-clause-asked c =
    let g = c.args.meter.now in
    let m = c.args.chosen.now.columns in
    let frame = c.in_ok-question.ensures.frame in
    let one : c.push.new.self ≡ replicate m (pos 0) ++ pos 1 ∷ [] = grind (arith, common_steps) in
    let two : c.push-2.new.self ≡ c.push.new.self ++ negsuc 0 ∷ [] = grind (arith, common_steps) in
    let coefs = two ∙ ap (λ (l : List ℤ). l ++ negsuc 0 ∷ []) one ∙ append_assoc (replicate m (pos 0)) (pos 1 ∷ []) (negsuc 0 ∷ []) in
    let row = later_is m c.new-3.result c.push-2.new.self c.new-2.result c.new-3.ensures coefs c.new-2.ensures in
    let rows = c.in_ok-push-3.ensures.ok ∙ ap (λ (rs : List Row). rs ++ c.new-3.result ∷ []) frame.0.rows ∙ ap (λ (r : Row). r ∷ []) row in
    later_asked g (free_columns c.args.chosen.now) m c.in_ok-question.question c.push-3.new.self frame.0 frame.1 (IsWithin-zero g)
    (IsWithin-small g (pos 1) c.limit-limit.ensures.bits_low (omega arith)) (IsWithin-small g (negsuc 0) c.limit-limit.ensures.bits_low (omega arith)) rows

pub returns-clause-points : goal.returns-clause-points
returns-clause-points c v long =
    let g = c.args.meter.now in
    let chosen = c.args.chosen.now in
    let m = chosen.columns in
    let frame = c.in_ok-question.ensures.frame in
    let one : c.push.new.self ≡ replicate m (pos 0) ++ pos 1 ∷ [] = grind (arith, common_steps) in
    let two : c.push-2.new.self ≡ c.push.new.self ++ negsuc 0 ∷ [] = grind (arith, common_steps) in
    let coefs = two ∙ ap (λ (l : List ℤ). l ++ negsuc 0 ∷ []) one ∙ append_assoc (replicate m (pos 0)) (pos 1 ∷ []) (negsuc 0 ∷ []) in
    let row = later_is m c.new-3.result c.push-2.new.self c.new-2.result c.new-3.ensures coefs c.new-2.ensures in
    let rows = c.in_ok-push-3.ensures.ok ∙ ap (λ (rs : List Row). rs ++ c.new-3.result ∷ []) frame.0.rows ∙ ap (λ (r : Row). r ∷ []) row in
    later_points m (full chosen v) (full c.in_ok-question.question v) (number c.args.cur.now v) (number c.args.best.now v) c.push-3.new.self
    (frame_full g (free_columns chosen) chosen v c.requires.chosen long) (c.in_ok-question.ensures.numbers v long) rows
