use Rattle.std.proofs.Common.{◌≡◌, ◌<◌, refl, sym, ◌+◌, subst, arith, Bool, false, ℕ}
use Rattle.std.specs.Prelude.{IsTrue}
use Rattle.std.proofs.lemmas.Grind.{common_steps}
use Rattle.isl_meter.proofs.CutLemmas.{IsCharged_refl, IsCharged_trans}
use Rattle.isl_extremes.specs.Systems.{AreSoFar}
use Rattle.isl_extremes.proofs.AnswerLaws.{not_true}
use Rattle.isl_extremes.proofs.SystemsLaws.{all_first, all_there, charged_bits, none_there, plain_kept, so_far_first, so_far_more}
use Rattle.isl_extremes.proofs.SystemsLaws.{standing_kept}
use Rattle.isl_extremes.proofs.systems.first_systems.Goals as goal

pub loop-at-init : goal.loop-at-init
loop-at-init c =
    so_far_first c.args.order c.args.systems.now c.args.meter.now c.args.meter.now c.in_ok-left.left.items
    (IsCharged_refl c.args.meter.now c.args.meter.now refl) c.in_ok-left.ensures c.requires.systems

pub are_ended-requires : goal.are_ended-requires
are_ended-requires c =
    let g = c.args.meter.now in
    let h = c.loop-at.meter in
    let n = c.args.order.front + c.args.order.width in
    let so_far = c.loop-at.invariant in
    let inside : c.loop-at.at < c.args.order.width = grind (arith, common_steps) in
    record {
      systems = rw c.as_slice.ensures.value
          (plain_kept h g n c.loop-at.left.items (sym (charged_bits g h so_far.charged)) so_far.standing.are);
      at = inside;
    }

pub returns-then-not-branch-clause-meter : goal.returns-then-not-branch-clause-meter
returns-then-not-branch-clause-meter c =
    let g = c.args.meter.now in
    let h = c.loop-at.meter in
    let so_far = c.loop-at.invariant in
    let told = rw c.as_slice.ensures.value at c.in_ok-are_ended.ensures.answer in
    let answer : Bool = c.in_ok-are_ended.field-0 in
    let is : answer ≡ false = grind (arith, common_steps) in
    let inside : c.loop-at.at < c.args.order.width = grind (arith, common_steps) in (
      none_there c.args.order c.args.systems.now g h c.loop-at.at answer c.loop-at.left.items inside so_far told (not_true answer is),
      IsCharged_trans g h c.are_ended.new.meter so_far.charged c.in_ok-are_ended.ensures.meter,
    )

pub unbeaten-requires : goal.unbeaten-requires
unbeaten-requires c =
    let g = c.args.meter.now in
    let h = c.loop-at.meter in
    let m = c.are_ended.new.meter in
    let n = c.args.order.front + c.args.order.width in
    let so_far = c.loop-at.invariant in
    let bits = sym (charged_bits g m (IsCharged_trans g h m so_far.charged c.in_ok-are_ended.ensures.meter)) in
    let inside : c.loop-at.at < c.args.order.width = grind (arith, common_steps) in
    record {
      standing = rw c.as_slice-in-loop-at.ensures.value
          (standing_kept c.args.order c.args.systems.now m g c.loop-at.at c.loop-at.left.items bits so_far.standing);
      systems = plain_kept m g n c.args.systems.now bits c.requires.systems;
      at = inside;
      fits = c.requires.fits;
    }

pub loop-at-preserved : goal.loop-at-preserved
loop-at-preserved c =
    let g = c.args.meter.now in
    let h = c.loop-at.meter in
    let told = rw c.as_slice.ensures.value at c.in_ok-are_ended.ensures.answer in
    let answer : Bool = c.in_ok-are_ended.field-0 in
    let holds : IsTrue answer = grind (arith, common_steps) in
    let inside : c.loop-at.at < c.args.order.width = grind (arith, common_steps) in
    so_far_more c.args.order c.args.systems.now g h c.are_ended.new.meter c.unbeaten.new.meter c.loop-at.at answer c.loop-at.left.items
    c.in_ok-left-2.left.items inside c.loop-at.invariant c.in_ok-are_ended.ensures.meter c.in_ok-left-2.ensures.meter told holds
    c.in_ok-left-2.ensures.left c.in_ok-left-2.ensures.decided

pub returns-clause-first : goal.returns-clause-first
returns-clause-first c =
    let g = c.args.meter.now in
    let h = c.loop-at.meter in
    let left = c.loop-at.left.items in
    let same : c.loop-at.at ≡ c.args.order.width = grind (arith, common_steps) in
    all_first c.args.order c.args.systems.now g h left
    (subst (λ (n : ℕ). AreSoFar g h c.args.order n c.args.systems.now left) same c.loop-at.invariant)

pub returns-clause-meter : goal.returns-clause-meter
returns-clause-meter c =
    let g = c.args.meter.now in
    let h = c.loop-at.meter in
    let left = c.loop-at.left.items in
    let same : c.loop-at.at ≡ c.args.order.width = grind (arith, common_steps) in (
      all_there c.args.order c.args.systems.now g h left
          (subst (λ (n : ℕ). AreSoFar g h c.args.order n c.args.systems.now left) same c.loop-at.invariant),
      c.loop-at.invariant.charged,
    )
