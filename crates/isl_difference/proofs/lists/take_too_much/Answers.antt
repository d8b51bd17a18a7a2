use Rattle.std.proofs.Common.{◌∙◌, inl, inr, true≢false, refl, sym, subst, ◌<◌, ℕ, arith, length}
use Rattle.std.proofs.lemmas.Grind.{common_steps}
use Rattle.isl_piece.specs.declared.system.System.{System}
use Rattle.isl_difference.specs.Weight.{AreTooHeavy}
use Rattle.isl_difference.proofs.WeightLaws.{all_heavy, share_heavy}
use Rattle.isl_difference.proofs.lists.take_too_much.Goals as goal

pub returns-then-are_too_heavy : goal.returns-then-are_too_heavy
returns-then-are_too_heavy g c =
    let some : 0 < length c.args.others.now = grind (arith, common_steps) in
    let heavy = share_heavy g.T.Weighed.weighed c.args.systems.now c.args.others.now c.index-others-others.result
    c.saturating_add-count.result c.weight_of-weight.result c.share_of-share.result c.args.times c.saturating_mul.result
    some c.index-others-others.is c.saturating_add-count.ensures c.weight_of-weight.ensures
    (c.share_of-share.ensures.each some) c.saturating_mul.ensures in
    let told = subst (λ (s : System). AreTooHeavy c.saturating_mul.result s.columns) c.weighed_system.ensures
    (c.are_too_heavy.ensures.0 c.if-are_too_heavy.true) in
    ((λ _. (some, inl (heavy.0 told))), (λ _. refl))

pub returns-then-room-count : goal.returns-then-room-count
returns-then-room-count g c =
    let some : 0 < length c.args.others.now = grind (arith, common_steps) in
    let heavy = share_heavy g.T.Weighed.weighed c.args.systems.now c.args.others.now c.index-others-others.result
    c.saturating_add-count.result c.weight_of-weight.result c.share_of-share.result c.args.times c.saturating_mul.result
    some c.index-others-others.is c.saturating_add-count.ensures c.weight_of-weight.ensures
    (c.share_of-share.ensures.each some) c.saturating_mul.ensures in
    let all = all_heavy g.T.Weighed.weighed c.args.systems.now c.args.others.now c.index-others-others.result c.weight_of-weight.result
    c.weight_of.result c.saturating_add-all.result c.args.times c.saturating_mul-then-room-count.result some c.index-others-others.is
    c.weight_of-weight.ensures c.weight_of.ensures c.saturating_add-all.ensures c.saturating_mul-then-room-count.ensures in
    let room = subst (λ (n : ℕ). c.args.room < n) c.saturating_add-count.ensures c.if-room-count.true in (
      (λ h. (
        some,
        inr (
          room,
          all.0 (subst (λ (s : System). AreTooHeavy c.saturating_mul-then-room-count.result s.columns)
              c.weighed_system.ensures (c.are_too_heavy-then-room-count.ensures.0 h)),
        ),
      )),
      (λ t. elim t.1 [
        | inl a ↦ absurd (true≢false (sym (c.are_too_heavy.ensures.1
            (subst (λ (s : System). AreTooHeavy c.saturating_mul.result s.columns) (sym c.weighed_system.ensures) (heavy.1 a)))
            ∙ c.if-are_too_heavy.false))
        | inr b ↦ c.are_too_heavy-then-room-count.ensures.1
            (subst (λ (s : System). AreTooHeavy c.saturating_mul-then-room-count.result s.columns)
            (sym c.weighed_system.ensures) (all.1 b.1))
      ]),
    )

pub returns-else-room-count : goal.returns-else-room-count
returns-else-room-count g c =
    let some : 0 < length c.args.others.now = grind (arith, common_steps) in
    let heavy = share_heavy g.T.Weighed.weighed c.args.systems.now c.args.others.now c.index-others-others.result
    c.saturating_add-count.result c.weight_of-weight.result c.share_of-share.result c.args.times c.saturating_mul.result
    some c.index-others-others.is c.saturating_add-count.ensures c.weight_of-weight.ensures
    (c.share_of-share.ensures.each some) c.saturating_mul.ensures in (
      (λ h. absurd (let less : c.args.room < c.saturating_add-count.result = grind (arith, common_steps) in
          omega (arith, less, c.if-room-count.false))),
      (λ t. elim t.1 [
        | inl a ↦ absurd (true≢false (sym (c.are_too_heavy.ensures.1
            (subst (λ (s : System). AreTooHeavy c.saturating_mul.result s.columns) (sym c.weighed_system.ensures) (heavy.1 a)))
            ∙ c.if-are_too_heavy.false))
        | inr b ↦ absurd (let less = b.0 in omega (arith, less, c.saturating_add-count.ensures, c.if-room-count.false))
      ]),
    )
