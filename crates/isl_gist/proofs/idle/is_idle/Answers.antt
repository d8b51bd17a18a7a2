use Rattle.std.proofs.Common.{◌≡◌, ◌<◌, ◌∷◌, [], sym, ◌∙◌, arith, subst, length, map, true, false, List, All}
use Rattle.std.proofs.lemmas.Bool.{false≢true}
use Rattle.std.proofs.lemmas.Grind.{common_steps}
use Rattle.std.proofs.lemmas.List.{length-map}
use Rattle.isl_meter.proofs.CutLemmas.{IsCharged_trans}
use Rattle.isl_piece.specs.declared.row.Row.{Row}
use Rattle.isl_difference.proofs.PartitionLaws.{mapped_at}
use Rattle.isl_gist.specs.Thinned.{IsAmong, IsIdleAt, IsPlain}
use Rattle.isl_gist.proofs.IdleLaws.{idle_more, idle_not, one_row, plain_later}
use Rattle.isl_gist.proofs.idle.is_idle.Goals as goal

pub hold_in-requires-clause-context : goal.hold_in-requires-clause-context
hold_in-requires-clause-context c =
    let refs = c.args.contexts.now in
    let contexts = map (λ o. o.now) refs in
    let i = c.loop-context.context-index in
    let n = c.args.others.now.columns in
    let low : i < length refs = grind (arith, common_steps) in
    let inside : i < length contexts = rw (length-map refs (λ o. o.now)) low in
    let is = mapped_at (λ o. o.now) refs i c.context-item.result low c.context-item.is in
    plain_later c.args.meter.now c.loop-context.meter n c.context-item.result.now c.loop-context.invariant.charged
    (subst (IsPlain c.args.meter.now n) (sym is) (c.requires.contexts i c.context-item.result.now inside))

pub returns-then-not-branch-clause-exact : goal.returns-then-not-branch-clause-exact
returns-then-not-branch-clause-exact c =
    let refs = c.args.contexts.now in
    let contexts = map (λ o. o.now) refs in
    let i = c.loop-context.context-index in
    let n = c.args.others.now.columns in
    let others = c.args.others.now.rows in
    let r = c.args.row.now in
    let context = c.context-item.result.now in
    let low : i < length refs = grind (arith, common_steps) in
    let inside : i < length contexts = rw (length-map refs (λ o. o.now)) low in
    let is = mapped_at (λ o. o.now) refs i c.context-item.result low c.context-item.is in
    let no : c.in_ok-hold_in.field-0 ≡ false = grind (arith, common_steps) in
    let only : c.in_ok-rows.rows ≡ r ∷ [] = grind (arith, common_steps) in (
      (λ t. absurd (false≢true t)),
      (λ idle. absurd (idle_not n others r contexts i context inside is
          (λ here. false≢true (sym no ∙ c.in_ok-hold_in.ensures.exact.1
          (subst (λ (l : List Row). All (IsIdleAt (IsAmong n (context ∷ [])) others) l)
          (sym only) ((one_row (IsIdleAt (IsAmong n (context ∷ [])) others) r).1 here)))) idle)),
    )

pub loop-context-preserved : goal.loop-context-preserved
loop-context-preserved c =
    let refs = c.args.contexts.now in
    let contexts = map (λ o. o.now) refs in
    let i = c.loop-context.context-index in
    let n = c.args.others.now.columns in
    let others = c.args.others.now.rows in
    let r = c.args.row.now in
    let context = c.context-item.result.now in
    let low : i < length refs = grind (arith, common_steps) in
    let inside : i < length contexts = rw (length-map refs (λ o. o.now)) low in
    let is = mapped_at (λ o. o.now) refs i c.context-item.result low c.context-item.is in
    let yes : c.in_ok-hold_in.field-0 ≡ true = grind (arith, common_steps) in
    let only : c.in_ok-rows.rows ≡ r ∷ [] = grind (arith, common_steps) in
    record {
      idle = idle_more n others r contexts i context inside is c.loop-context.invariant.idle
          ((one_row (IsIdleAt (IsAmong n (context ∷ [])) others) r).0
          (subst (λ (l : List Row). All (IsIdleAt (IsAmong n (context ∷ [])) others) l) only (c.in_ok-hold_in.ensures.exact.0 yes)));
      charged = IsCharged_trans c.args.meter.now c.loop-context.meter c.hold_in.new.meter c.loop-context.invariant.charged
          c.in_ok-hold_in.ensures.meter;
    }
