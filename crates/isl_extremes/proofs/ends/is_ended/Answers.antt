use Rattle.std.proofs.Common.{◌≡◌, ◌≢◌, ◌↔◌, ◌∙◌, sym, ap, arith, subst, ℕ, ◌+◌, ◌-◌, ◌<◌, List, [], ◌∷◌, get_or}
use Rattle.std.specs.Prelude.{AllPairs, IsTrue}
use Rattle.std.specs.List.{All, range_with_len}
use Rattle.std.proofs.lemmas.Result.{IfOk-weaker}
use Rattle.isl_piece.specs.declared.system.System.{System}
use Rattle.isl_piece.specs.System.{free_columns}
use Rattle.isl_difference.proofs.SplitLaws.{charged_within}
use Rattle.isl_elim.proofs.RangeLaws.{range_below, range_distinct}
use Rattle.isl_blocks.proofs.LeftLaws.{kept_none}
use Rattle.isl_extremes.specs.Systems.{AreAnswered, IsClosedOn}
use Rattle.isl_extremes.proofs.SidesLaws.{answered, shadow_columns}
use Rattle.isl_extremes.proofs.ends.is_ended.Goals as goal

pub eliminate_all-requires-clause-distinct : goal.eliminate_all-requires-clause-distinct
eliminate_all-requires-clause-distinct c =
    subst (λ (cols : List ℕ). AllPairs (λ a b. a ≢ b) cols) (sym (c.as_slice.ensures.value ∙ c.in_ok-columns.ensures))
    (range_distinct (c.args.order.front + c.args.at + 1) (c.free-free.result - (c.args.order.front + c.args.at + 1)))

pub eliminate_all-requires-clause-cols_in : goal.eliminate_all-requires-clause-cols_in
eliminate_all-requires-clause-cols_in c =
    let free = c.requires.free in
    let at = c.requires.at in
    let is = c.free-free.ensures in
    subst (λ (cols : List ℕ). All (λ col. col < free_columns c.args.system.now) cols)
    (sym (c.as_slice.ensures.value ∙ c.in_ok-columns.ensures))
    (range_below (c.args.order.front + c.args.at + 1) (c.free-free.result - (c.args.order.front + c.args.at + 1))
    (free_columns c.args.system.now)
    (omega (arith, free, at, is)))

pub are_closed-requires : goal.are_closed-requires
are_closed-requires c =
    let g = c.args.meter.now in
    let h = c.eliminate_all.new.meter in
    let s = c.args.system.now in
    let order = c.args.order in
    let n = order.front + c.args.at + 1 in
    let cols = c.as_slice.result.now in
    let are = c.as_slice.ensures.value ∙ c.in_ok-columns.ensures ∙ ap (λ k. range_with_len n (k - n)) c.free-free.ensures in
    let left = c.in_ok-left.left.items in
    let told = c.in_ok-left.ensures in
    let plain : All (λ (t : System). t.definitions ≡ []) left = λ k e l. told.definitions k e l ∙ kept_none s cols c.requires.plain in
    rw c.as_slice-2.ensures.value (record {
      within = λ k e l. charged_within g h (get_or left k e) told.meter (told.within k e l);
      plain = plain;
      some_column = λ k e l.
          let free = shadow_columns g order c.args.at s c.requires.free c.requires.at cols are left told.projection told.within plain k e
          l in
          omega (arith, free);
    })

pub returns-clause-answer : goal.returns-clause-answer
returns-clause-answer c =
    let g = c.args.meter.now in
    let s = c.args.system.now in
    let order = c.args.order in
    let n = order.front + c.args.at + 1 in
    let cols = c.as_slice.result.now in
    let are = c.as_slice.ensures.value ∙ c.in_ok-columns.ensures ∙ ap (λ k. range_with_len n (k - n)) c.free-free.ensures in
    let left = c.in_ok-left.left.items in
    let told = c.in_ok-left.ensures in
    let plain : All (λ (t : System). t.definitions ≡ []) left = λ k e l. told.definitions k e l ∙ kept_none s cols c.requires.plain in
    let exact = rw c.as_slice-2.ensures.value at c.are_closed.ensures.exact in
    IfOk-weaker c.are_closed.result (λ closed. IsTrue closed ↔ All (IsClosedOn order.direction) left) (AreAnswered order c.args.at (s ∷ []))
    (λ answer e. answered g order c.args.at s c.requires.free c.requires.at cols are left told.projection told.within plain answer e) exact
