use Rattle.std.proofs.Common.{◌≡◌, ◌↔◌, ◌<◌, ◌≤◌, ◌∷◌, [], sym, ap, ◌∙◌, arith, length, map}
use Rattle.std.proofs.lemmas.Grind.{common_steps}
use Rattle.std.proofs.lemmas.Bool.{false≢true}
use Rattle.std.proofs.lemmas.List.{map-append}
use Rattle.std.specs.Prelude.{IsTrue}
use Rattle.isl_space.specs.Shape.{form_of}
use Rattle.isl_calls.specs.Apart.{called_form}
use Rattle.isl_calls.proofs.ApartLaws.{for_all, for_more, for_none, for_skip}
use Rattle.isl_calls.proofs.apart.systems_for.Goals.{then-same+in_ok-push, else-same}
use Rattle.isl_calls.proofs.apart.systems_for.Goals as goal

pub loop-one-init : goal.loop-one-init
loop-one-init c = rw c.new-systems.ensures.items (for_none (form_of c.args.shape.now))

pub loop-one-preserved : goal.loop-one-preserved
loop-one-preserved c =
    let form = form_of c.args.shape.now in
    let calls = c.args.calls.now in
    let i = c.loop-one.one-index in
    let one = c.one-item.result in
    let low : i < length calls = grind (arith, common_steps) in
    let found = c.loop-one.systems.items in
    let same : IsTrue c.same.result ↔ (called_form one ≡ form) = grind arith in
    elim c.if-same.branch [
      | then-same+in_ok-push w ↦
          for_more form calls i one (map (λ s. s.now) found) low c.one-item.is c.loop-one.invariant
          (map (λ s. s.now) c.if-same.systems.items)
          (ap (map (λ s. s.now)) (ap (λ v. v.items) w.systems-is ∙ w.in_ok-push.ensures.items) ∙ map-append (λ s. s.now) found (_ ∷ []))
          (same.0 w.if-same.true)
      | else-same w ↦ rw w.systems-is (for_skip form calls i one (map (λ s. s.now) found) low c.one-item.is c.loop-one.invariant
          (λ e. false≢true (sym w.if-same.false ∙ same.1 e)))
    ]

pub returns : goal.returns
returns c =
    let end : length c.args.calls.now ≤ c.loop-one.one-index = grind (arith, common_steps) in
    for_all (form_of c.args.shape.now) c.args.calls.now c.loop-one.one-index (map (λ s. s.now) c.loop-one.systems.items) end
    c.loop-one.invariant
