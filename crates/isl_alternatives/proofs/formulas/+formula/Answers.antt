use Rattle.std.proofs.Common.{◌≡◌, ◌∙◌, ◌<◌, ◌≤◌, ◌∷◌, [], arith, rules, refl, length, true, false, not}
use Rattle.std.proofs.lemmas.Grind.{common_steps}
use Rattle.isl_meter.proofs.CutLemmas.{IsCharged_trans}
use Rattle.isl_tree.specs.declared.tree.Formula.{Implies, Or, And, Not, Exists, Chain}
use Rattle.isl_tree.specs.Formula.{FormulaHolds}
use Rattle.isl_alternatives.specs.Restricted.{HoldsAs}
use Rattle.isl_alternatives.proofs.BoundLaws.{exists_where, body_over, body_longer}
use Rattle.isl_alternatives.proofs.ChainLaws.{known_chain}
use Rattle.isl_alternatives.proofs.FormulaLaws.{each_more, any_more, live_same, known_at, at_and_each, at_and_any, at_or_any, at_or_each, at_not}
use Rattle.isl_alternatives.proofs.FormulaLaws.{denied_next, holds_next, implied_last}
use Rattle.isl_alternatives.proofs.FormulaLaws.{at_implies, at_bound, known_and, known_or, known_implies, known_not, known_binders, known_body}
use Rattle.isl_alternatives.proofs.RestrictedLaws.{over_after, ok_same}
use Rattle.isl_alternatives.proofs.SizeLaws.{and_smaller, or_smaller, implies_smaller, not_smaller, exists_smaller, element_smaller, element_less, one_less}
use Rattle.isl_alternatives.proofs.formulas.+formula.Goals.{implied-then-holds-2+in_ok-base+in_ok-more+in_ok-append, implied-else-holds-2+in_ok-systems}
use Rattle.isl_alternatives.proofs.formulas.+formula.Goals as goal

-- ---- lists of formulas
pub each_of-narrowed-requires : goal.each_of-narrowed-requires
each_of-narrowed-requires t c =
    let l = c.loop-formula in
    let inside : l.formula-index < length c.args.formulas.now = grind (arith, common_steps) in (
      search (rules, element_smaller c.args.formulas.now l.formula-index c.formula-item.result inside c.formula-item.is),
      (
        over_after c.args.meter.now l.meter c.args.scope.now l.systems.items l.invariant.charged l.invariant.over,
        known_at c.args.scope.now c.args.formulas.now l.formula-index c.formula-item.result c.requires.known inside c.formula-item.is,
      ),
    )

pub each_of-loop-formula-preserved : goal.each_of-loop-formula-preserved
each_of-loop-formula-preserved t c =
    let l = c.loop-formula in
    let inside : l.formula-index < length c.args.formulas.now = grind (arith, common_steps) in
    each_more c.args.meter.now l.meter c.narrowed.new.meter c.args.scope.now c.args.systems.items c.args.polarity.holds c.args.formulas.now l.formula-index
    c.formula-item.result l.systems.items inside c.formula-item.is c.in_ok-systems.systems.items l.invariant c.in_ok-systems.ensures

pub any_of-restricted-requires : goal.any_of-restricted-requires
any_of-restricted-requires t c =
    let l = c.loop-formula in
    let inside : l.formula-index < length c.args.formulas.now = grind (arith, common_steps) in
    let whole : c.as_slice.result.now ≡ c.args.systems.items = grind (arith, common_steps) in
    let base : c.in_ok-base.base.items ≡ c.args.systems.items = c.in_ok-base.ensures.0 ∙ whole in (
      search (rules, element_less c.args.formulas.now l.formula-index c.formula-item.result inside c.formula-item.is),
      (
        rw base (over_after c.args.meter.now c.begun.new.meter c.args.scope.now c.args.systems.items
            (IsCharged_trans c.args.meter.now l.meter c.begun.new.meter l.invariant.charged c.in_ok-base.ensures.2) c.requires.over),
        known_at c.args.scope.now c.args.formulas.now l.formula-index c.formula-item.result c.requires.known inside c.formula-item.is,
      ),
    )

pub any_of-loop-formula-preserved : goal.any_of-loop-formula-preserved
any_of-loop-formula-preserved t c =
    let l = c.loop-formula in
    let inside : l.formula-index < length c.args.formulas.now = grind (arith, common_steps) in
    let whole : c.as_slice.result.now ≡ c.args.systems.items = grind (arith, common_steps) in
    let found : c.as_slice-in-loop-formula.result.now ≡ l.found.items = grind (arith, common_steps) in
    any_more c.args.meter.now l.meter c.restricted.new.meter c.args.scope.now c.args.systems.items c.args.holds c.args.formulas.now
    l.formula-index
    c.formula-item.result l.found.items inside c.formula-item.is c.begun.new.meter c.in_ok-base.base.items c.in_ok-more.more.items
    c.append.new.systems.items l.invariant c.in_ok-base.ensures.2 (rw (whole, found) at c.in_ok-base.ensures.1)
    (c.in_ok-base.ensures.0 ∙ whole) c.in_ok-more.ensures
    c.in_ok-append.ensures.items

pub narrowed-live-requires : goal.narrowed-live-requires
narrowed-live-requires t c =
    let r = c.in_ok-new.ensures in
    record { over = over_after c.args.meter.now c.restricted.new.meter c.args.scope.now c.in_ok-new.new.items r.charged r.over }

pub narrowed-returns-then-before-len : goal.narrowed-returns-then-before-len
narrowed-returns-then-before-len t c =
    live_same c.args.meter.now c.restricted.new.meter c.live.new.meter c.args.scope.now c.args.systems.items
    (HoldsAs c.args.polarity.holds (FormulaHolds c.args.formula.now)) c.in_ok-new.new.items c.in_ok-kept.kept.items c.in_ok-new.ensures c.in_ok-kept.ensures

-- ---- a formula
pub restricted-each_of-requires : goal.restricted-each_of-requires
restricted-each_of-requires t c =
    let is : c.args.formula.now ≡ And c.as_slice.result.now = grind (arith, common_steps) in
    (search (rules, and_smaller c.args.formula.now c.as_slice.result.now is), (c.requires.over, known_and c.args.scope.now c.args.formula.now c.as_slice.result.now is c.requires.known))

pub restricted-any_of-requires : goal.restricted-any_of-requires
restricted-any_of-requires t c =
    let parts = c.as_slice-in-And-2.result.now in
    let is : c.args.formula.now ≡ And parts = grind (arith, common_steps) in (
      search (rules, and_smaller c.args.formula.now parts is),
      (c.requires.over, known_and c.args.scope.now c.args.formula.now parts is c.requires.known),
    )

pub restricted-any_of-requires-in-Or : goal.restricted-any_of-requires-in-Or
restricted-any_of-requires-in-Or t c =
    let parts = c.as_slice-in-Or.result.now in
    let is : c.args.formula.now ≡ Or parts = grind (arith, common_steps) in (
      search (rules, or_smaller c.args.formula.now parts is),
      (c.requires.over, known_or c.args.scope.now c.args.formula.now parts is c.requires.known),
    )

pub restricted-each_of-requires-in-Or-2 : goal.restricted-each_of-requires-in-Or-2
restricted-each_of-requires-in-Or-2 t c =
    let parts = c.as_slice-in-Or-2.result.now in
    let is : c.args.formula.now ≡ Or parts = grind (arith, common_steps) in (
      search (rules, or_smaller c.args.formula.now parts is),
      (c.requires.over, known_or c.args.scope.now c.args.formula.now parts is c.requires.known),
    )

pub restricted-restricted-requires : goal.restricted-restricted-requires
restricted-restricted-requires t c =
    let is : c.args.formula.now ≡ Not c.get.result.now = grind (arith, common_steps) in
    (search (rules, not_smaller c.args.formula.now c.get.result.now is), (c.requires.over, known_not c.args.scope.now c.args.formula.now c.get.result.now is c.requires.known))

pub restricted-implied-requires : goal.restricted-implied-requires
restricted-implied-requires t c =
    let is : c.args.formula.now ≡ Implies c.as_slice-in-Implies.result.now = grind (arith, common_steps) in
    (search (rules, implies_smaller c.args.formula.now c.as_slice-in-Implies.result.now is), (c.requires.over, known_implies c.args.scope.now c.args.formula.now c.as_slice-in-Implies.result.now is c.requires.known))

pub restricted-exists-requires : goal.restricted-exists-requires
restricted-exists-requires t c =
    let is : c.args.formula.now ≡ Exists c.as_slice-in-Exists.result.now c.get-in-Exists.result.now = grind (arith, common_steps) in (
      search (rules, exists_smaller c.args.formula.now c.as_slice-in-Exists.result.now c.get-in-Exists.result.now is),
      (
        known_binders c.args.scope.now c.args.formula.now c.as_slice-in-Exists.result.now c.get-in-Exists.result.now is c.requires.known,
        known_body c.args.scope.now c.args.formula.now c.as_slice-in-Exists.result.now c.get-in-Exists.result.now is c.requires.known,
      ),
    )

pub restricted-selected-requires-clause-over : goal.restricted-selected-requires-clause-over
restricted-selected-requires-clause-over t c =
    let whole : c.as_slice-all.result.now ≡ c.args.systems.items = grind (arith, common_steps) in
    let w = c.in_ok-found-in-Exists.ensures in
    rw whole (over_after c.args.meter.now c.exists.new.meter c.args.scope.now c.args.systems.items w.charged c.requires.over)

pub restricted-selected-requires-clause-others_over : goal.restricted-selected-requires-clause-others_over
restricted-selected-requires-clause-others_over t c =
    let w = c.in_ok-found-in-Exists.ensures in
    over_after c.args.meter.now c.exists.new.meter c.args.scope.now c.in_ok-found-in-Exists.found.items w.charged w.over

pub restricted-with_chain-requires-clause-known : goal.restricted-with_chain-requires-clause-known
restricted-with_chain-requires-clause-known t c =
    let is : c.args.formula.now ≡ Chain c.as_slice-in-Chain.result.now c.as_slice-in-Chain-2.result.now = grind (arith, common_steps) in
    known_chain c.args.scope.now c.args.formula.now c.as_slice-in-Chain.result.now c.as_slice-in-Chain-2.result.now is c.requires.known

pub restricted-returns-in-And : goal.restricted-returns-in-And
restricted-returns-in-And t c =
    let is : c.args.formula.now ≡ And c.as_slice.result.now = grind (arith, common_steps) in
    let holds : c.args.polarity.holds ≡ true = grind (arith, common_steps) in
    ok_same _ _ _ c.each_of.result c.each_of.ensures (λ new r.
    at_and_each c.args.meter.now c.each_of.new.meter c.args.scope.now c.args.systems.items c.args.polarity.holds c.args.formula.now new.items
    c.as_slice.result.now is holds r)

pub restricted-returns-in-And-2 : goal.restricted-returns-in-And-2
restricted-returns-in-And-2 t c =
    let parts = c.as_slice-in-And-2.result.now in
    let is : c.args.formula.now ≡ And parts = grind (arith, common_steps) in
    let fails : c.args.polarity.holds ≡ false = grind (arith, common_steps) in
    ok_same _ _ _ c.any_of.result c.any_of.ensures (λ new r.
    at_and_any c.args.meter.now c.any_of.new.meter c.args.scope.now c.args.systems.items c.args.polarity.holds c.args.formula.now new.items
    parts is fails r)

pub restricted-returns-in-Or : goal.restricted-returns-in-Or
restricted-returns-in-Or t c =
    let parts = c.as_slice-in-Or.result.now in
    let is : c.args.formula.now ≡ Or parts = grind (arith, common_steps) in
    let holds : c.args.polarity.holds ≡ true = grind (arith, common_steps) in
    ok_same _ _ _ c.any_of-in-Or.result c.any_of-in-Or.ensures (λ new r.
    at_or_any c.args.meter.now c.any_of-in-Or.new.meter c.args.scope.now c.args.systems.items c.args.polarity.holds c.args.formula.now new.items
    parts is holds r)

pub restricted-returns-in-Or-2 : goal.restricted-returns-in-Or-2
restricted-returns-in-Or-2 t c =
    let parts = c.as_slice-in-Or-2.result.now in
    let is : c.args.formula.now ≡ Or parts = grind (arith, common_steps) in
    let fails : c.args.polarity.holds ≡ false = grind (arith, common_steps) in
    ok_same _ _ _ c.each_of-in-Or-2.result c.each_of-in-Or-2.ensures (λ new r.
    at_or_each c.args.meter.now c.each_of-in-Or-2.new.meter c.args.scope.now c.args.systems.items c.args.polarity.holds c.args.formula.now new.items
    parts is fails r)

pub restricted-returns-in-Not : goal.restricted-returns-in-Not
restricted-returns-in-Not t c =
    let is : c.args.formula.now ≡ Not c.get.result.now = grind (arith, common_steps) in
    ok_same _ _ _ c.restricted.result c.restricted.ensures (λ new r.
    at_not c.args.meter.now c.restricted.new.meter c.args.scope.now c.args.systems.items c.args.polarity.holds c.args.formula.now new.items
    c.get.result.now (not c.args.polarity.holds) is refl (rw c.denied.ensures at r))

pub restricted-returns-in-Implies : goal.restricted-returns-in-Implies
restricted-returns-in-Implies t c =
    let is : c.args.formula.now ≡ Implies c.as_slice-in-Implies.result.now = grind (arith, common_steps) in
    ok_same _ _ _ c.implied.result c.implied.ensures (λ new r.
    at_implies c.args.meter.now c.implied.new.meter c.args.scope.now c.args.systems.items c.args.polarity.holds c.args.formula.now new.items
    c.as_slice-in-Implies.result.now is r)

pub restricted-returns-in_ok-new-in-Exists : goal.restricted-returns-in_ok-new-in-Exists
restricted-returns-in_ok-new-in-Exists t c =
    let is : c.args.formula.now ≡ Exists c.as_slice-in-Exists.result.now c.get-in-Exists.result.now = grind (arith, common_steps) in
    let whole : c.as_slice-all.result.now ≡ c.args.systems.items = grind (arith, common_steps) in
    at_bound c.args.meter.now c.selected.new.meter c.args.scope.now c.args.systems.items c.args.polarity.holds c.args.formula.now
    c.in_ok-new-in-Exists.new.items c.exists.new.meter c.as_slice-in-Exists.result.now c.get-in-Exists.result.now c.in_ok-found-in-Exists.found.items is
    c.in_ok-found-in-Exists.ensures (rw whole at c.in_ok-new-in-Exists.ensures)

-- ---- what is bound
pub exists-restricted-requires : goal.exists-restricted-requires
exists-restricted-requires t c =
    let body_of = c.in_ok-inner.ensures.0 in
    let whole : c.push.new.self.items ≡ c.in_ok-inner.inner.system ∷ [] = grind (arith, common_steps) in (
      search (rules, one_less c.args.body.now),
      (
        rw whole (body_over c.args.meter.now c.bound.new.meter c.args.scope.now c.args.binders.now c.in_ok-inner.inner.scope c.in_ok-inner.inner.system
            body_of c.in_ok-inner.ensures.1),
        rw (body_of.scope_is) c.requires.known,
      ),
    )

pub exists-normal_forms-requires : goal.exists-normal_forms-requires
exists-normal_forms-requires t c =
    let r = c.in_ok-bodies.ensures in
    let bodies = c.in_ok-bodies.bodies.items in
    record { over = over_after c.bound.new.meter c.restricted.new.meter c.in_ok-inner.inner.scope bodies r.charged r.over }

pub exists-projected-requires : goal.exists-projected-requires
exists-projected-requires t c =
    let forms : c.as_slice.result.now ≡ c.in_ok-forms.forms.items = grind (arith, common_steps) in
    let r = c.in_ok-forms.ensures.exact in
    let body_of = c.in_ok-inner.ensures.0 in
    record {
      over = rw forms (over_after c.restricted.new.meter c.normal_forms.new.meter c.in_ok-inner.inner.scope c.in_ok-forms.forms.items
          r.charged r.over);
      normal = rw forms c.in_ok-forms.ensures.normal;
      columns = body_longer c.args.meter.now c.args.scope.now c.args.binders.now c.in_ok-inner.inner.scope c.in_ok-inner.inner.system
          body_of;
    }

pub exists-returns : goal.exists-returns
exists-returns t c =
    let g = c.args.meter.now in
    let h = c.bound.new.meter in
    let m = c.normal_forms.new.meter in
    let inner = c.in_ok-inner.inner.scope in
    let system = c.in_ok-inner.inner.system in
    let forms = c.in_ok-forms.forms.items in
    let whole : c.push.new.self.items ≡ system ∷ [] = grind (arith, common_steps) in
    let same : c.as_slice.result.now ≡ forms = grind (arith, common_steps) in
    let kept = live_same h c.restricted.new.meter m inner (system ∷ []) (HoldsAs true (FormulaHolds c.args.body.now))
    c.in_ok-bodies.bodies.items forms (rw whole at c.in_ok-bodies.ensures) c.in_ok-forms.ensures.exact in
    exists_where g h m c.projected.new.meter c.args.scope.now inner c.args.binders.now c.args.body.now system forms
    c.in_ok-found.found.items
    c.in_ok-inner.ensures.0 c.in_ok-inner.ensures.1 kept (rw same at c.in_ok-found.ensures)

-- ---- implications
pub implied-restricted-requires : goal.implied-restricted-requires
implied-restricted-requires t c =
    let l = c.loop-count in
    let base : c.in_ok-base.base.items ≡ l.systems.items = grind (arith, common_steps) in (
      search (rules, element_less c.args.formulas.now l.count c.index-formulas-count.result l.invariant.low c.index-formulas-count.is),
      (
        rw base (over_after c.args.meter.now c.begun.new.meter c.args.scope.now l.systems.items
            (IsCharged_trans c.args.meter.now l.meter c.begun.new.meter l.invariant.charged c.in_ok-base.ensures.2) l.invariant.over),
        known_at c.args.scope.now c.args.formulas.now l.count c.index-formulas-count.result c.requires.known l.invariant.low c.index-formulas-count.is,
      ),
    )

pub implied-restricted-requires-else-holds-2 : goal.implied-restricted-requires-else-holds-2
implied-restricted-requires-else-holds-2 t c =
    let l = c.loop-count in
    let f = c.index-formulas-count-else-holds-2 in (
      search (rules, element_less c.args.formulas.now l.count f.result l.invariant.low f.is),
      (
        over_after c.args.meter.now l.meter c.args.scope.now l.systems.items l.invariant.charged l.invariant.over,
        known_at c.args.scope.now c.args.formulas.now l.count f.result c.requires.known l.invariant.low f.is,
      ),
    )

pub implied-loop-count-preserved : goal.implied-loop-count-preserved
implied-loop-count-preserved t c =
    let l = c.loop-count in
    let more : 0 < l.count = grind (arith, common_steps) in
    elim c.if-holds-2.branch [
      | implied-then-holds-2+in_ok-base+in_ok-more+in_ok-append w ↦
          let base : w.in_ok-base.base.items ≡ l.systems.items = grind (arith, common_steps) in
          let one : w.as_slice.result.now ≡ l.systems.items = grind (arith, common_steps) in
          let two : w.as_slice-then-holds-2.result.now ≡ l.systems.items = grind (arith, common_steps) in
          let holds : l.holds ≡ true = grind (arith, common_steps) in
          let meter : c.if-holds-2.meter ≡ w.restricted.new.meter = grind (arith, common_steps) in
          let systems : c.if-holds-2.systems.items ≡ l.systems.items = grind (arith, common_steps) in
          let found : c.if-holds-2.found.items ≡ w.append.new.systems.items = grind (arith, common_steps) in
          holds_next c.args.meter.now l.meter c.args.scope.now c.args.systems.items c.args.holds c.args.formulas.now l.count w.index-formulas-count.result
          l.holds l.systems.items l.found.items w.begun.new.meter w.restricted.new.meter c.if-holds-2.meter w.in_ok-base.base.items
          w.in_ok-more.more.items
          w.append.new.systems.items c.if-holds-2.systems.items c.if-holds-2.found.items more w.index-formulas-count.is holds l.invariant
          w.in_ok-base.ensures.2 (rw (one, two) at w.in_ok-base.ensures.1) base w.in_ok-more.ensures w.in_ok-append.ensures.items meter systems found
      | implied-else-holds-2+in_ok-systems w ↦
          let fails : l.holds ≡ false = grind (arith, common_steps) in
          let meter : c.if-holds-2.meter ≡ w.restricted-else-holds-2.new.meter = grind (arith, common_steps) in
          let systems : c.if-holds-2.systems.items ≡ w.in_ok-systems.systems.items = grind (arith, common_steps) in
          let found : c.if-holds-2.found.items ≡ l.found.items = grind (arith, common_steps) in
          denied_next c.args.meter.now l.meter c.args.scope.now c.args.systems.items c.args.holds c.args.formulas.now l.count
          w.index-formulas-count-else-holds-2.result l.holds l.systems.items l.found.items w.restricted-else-holds-2.new.meter
          c.if-holds-2.meter
          w.in_ok-systems.systems.items c.if-holds-2.systems.items c.if-holds-2.found.items more w.index-formulas-count-else-holds-2.is fails l.invariant
          w.in_ok-systems.ensures meter systems found
    ]

pub implied-restricted-requires-2 : goal.implied-restricted-requires-2
implied-restricted-requires-2 t c =
    let l = c.loop-count in
    let some : 0 < length c.args.formulas.now = let low = l.invariant.low in omega (arith, low) in (
      search (rules, element_less c.args.formulas.now 0 c.index-formulas-0.result some c.index-formulas-0.is),
      (
        over_after c.args.meter.now l.meter c.args.scope.now l.systems.items l.invariant.charged l.invariant.over,
        known_at c.args.scope.now c.args.formulas.now 0 c.index-formulas-0.result c.requires.known some c.index-formulas-0.is,
      ),
    )

pub implied-returns : goal.implied-returns
implied-returns t c =
    let l = c.loop-count in
    let last : l.count ≡ 0 = grind (arith, common_steps) in
    implied_last c.args.meter.now l.meter c.restricted-2.new.meter c.args.scope.now c.args.systems.items c.args.holds c.args.formulas.now
    l.count
    c.index-formulas-0.result l.holds l.systems.items l.found.items c.in_ok-first.first.items c.append-2.new.systems.items last c.index-formulas-0.is
    l.invariant c.in_ok-first.ensures c.in_ok-append-2.ensures.items
