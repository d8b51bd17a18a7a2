use Rattle.std.proofs.Common.{◌≡◌, ◌++◌, ◌<◌, [], ◌∷◌, length, arith, false}
use Rattle.std.specs.Prelude.{IsTrue}
use Rattle.std.proofs.lemmas.Grind.{common_steps}
use Rattle.isl_tower.proofs.ClosedLaws.{not_true}
use Rattle.isl_calls.proofs.EndedLaws.{ended_more, ended_skip}
use Rattle.isl_calls.proofs.level.Level.ended.Goals.{then-is_ended+in_ok-copy+in_ok-push, else-is_ended}
use Rattle.isl_calls.proofs.level.Level.ended.Goals as goal

pub loop-system-preserved : goal.loop-system-preserved
loop-system-preserved c =
    let systems = c.args.systems.now in
    let i = c.loop-system.system-index in
    let s = c.system-item.result in
    let kept = c.loop-system.kept in
    let low : i < length systems = grind (arith, common_steps) in
    elim c.if-is_ended.branch [
      | then-is_ended+in_ok-copy+in_ok-push w ↦
          let pushed : c.if-is_ended.kept ≡ kept ++ s ∷ [] = grind arith in
          let passes : IsTrue c.is_ended.result = grind arith in
          ended_more systems i s kept low c.system-item.is c.loop-system.invariant c.if-is_ended.kept pushed (c.is_ended.ensures.0 passes)
      | else-is_ended w ↦
          let same : c.if-is_ended.kept ≡ kept = grind arith in
          let fails : c.is_ended.result ≡ false = grind arith in
          rw same (ended_skip systems i s kept low c.system-item.is c.loop-system.invariant
          (λ e. not_true c.is_ended.result fails (c.is_ended.ensures.1 e)))
    ]
