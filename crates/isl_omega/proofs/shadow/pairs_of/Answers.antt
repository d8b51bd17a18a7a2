use Rattle.std.proofs.Common.{◌≡◌, ◌+◌, ◌*◌, ◌<◌, ◌++◌, ◌∷◌, [], length, take, refl, sym, inl, inr, IsTrue, ◌∙◌, ap, arith, pos}
use Rattle.std.proofs.lemmas.Grind.{common_steps}
use Rattle.std.proofs.lemmas.List.{take_more}
use Rattle.isl_piece.specs.declared.row.Row.{Row}
use Rattle.isl_meter.specs.declared.Cut.TheVariants.{NoMemory}
use Rattle.isl_omega.specs.Shadow.{LeavesSplinters, AreNeverMet}
use Rattle.isl_meter.specs.Gauge.{IsChargedUpTo, IsCutUpTo}
use Rattle.isl_meter.proofs.UnitLemmas.{charged_none, charged_turn, charged_bits, cut_turn, cut_late, no_memory}
use Rattle.isl_omega.specs.Units.{paid}
use Rattle.isl_omega.proofs.ExactUnits.{charged_up_to, no_turn, charged_turns}
use Rattle.isl_omega.proofs.CapLemmas.{never_kept, never_last}
use Rattle.isl_omega.proofs.ShadowLists.{shadow_none, tail_kept, shadow_more}
use Rattle.isl_omega.proofs.shadow.pairs_of.Goals as goal

pub loop-lower-init : goal.loop-lower-init
loop-lower-init c =
    let none : c.in_ok-tails.tails.items ≡ [] = grind arith in
    rw (c.new-rows.ensures, none) (record {
      is_shadow = shadow_none c.args.meter.now c.args.uppers.now.column.columns c.args.uppers.now.column.at c.args.uppers.now.neighbours c.args.uppers.now.rows.now;
      never = λ t. absurd (grind arith);
      charged = charged_none (length c.args.uppers.now.rows.now) c.args.meter.now;
      exact = no_turn (length c.args.uppers.now.rows.now) c.args.meter.now;
    })

pub loop-lower-preserved : goal.loop-lower-preserved
loop-lower-preserved c =
    let lowers = c.args.lowers.now in
    let uppers = c.args.uppers.now.rows.now in
    let i = c.loop-lower.lower-index in
    let l = c.lower-item.result in
    let g = c.args.meter.now in
    let h = c.loop-lower.meter in
    let k = c.tail_of.new.meter in
    let tail = c.in_ok-tail.tail in
    let inside : i < length lowers = grind (arith, common_steps) in
    let exact : k ≡ paid (length uppers) h = grind arith in
    let used = charged_up_to (length uppers) h k exact in
    let none : IsTrue c.in_ok-tail.none → AreNeverMet c.args.uppers.now.column.columns c.args.uppers.now.column.at (l ∷ []) uppers = c.in_ok-tail.ensures.exact.0.1 in
    let more : LeavesSplinters h c.args.uppers.now.column.columns c.args.uppers.now.column.at c.args.uppers.now.neighbours l uppers c.loop-lower.rows c.tail_of.new.rows tail = grind arith in
    let start = charged_bits (pos (i * length uppers)) g h c.loop-lower.invariant.charged in
    let pushed : c.push.new.self.items ≡ c.loop-lower.tails.items ++ tail ∷ [] = grind arith in
    let taken : take (i + 1) lowers ≡ take i lowers ++ l ∷ [] = take_more lowers i l inside ∙ ap (λ (s : Row). take i lowers ++ s ∷ []) (sym c.lower-item.is) in
    record {
      is_shadow = rw (taken, pushed) (shadow_more g c.args.uppers.now.column.columns c.args.uppers.now.column.at c.args.uppers.now.neighbours (take i lowers) l uppers c.loop-lower.rows c.tail_of.new.rows c.loop-lower.tails.items tail c.loop-lower.invariant.is_shadow
          (tail_kept g h c.args.uppers.now.column.columns c.args.uppers.now.column.at c.args.uppers.now.neighbours l uppers c.loop-lower.rows c.tail_of.new.rows tail start more));
      never = λ t. elim (c.either-never.ensures t) [
        | inl before ↦ rw taken (never_kept c.args.uppers.now.column.columns c.args.uppers.now.column.at (take i lowers) l uppers (c.loop-lower.invariant.never before))
        | inr now ↦ rw taken (never_last c.args.uppers.now.column.columns c.args.uppers.now.column.at (take i lowers) l uppers (none now))
      ];
      charged = charged_turn i (length uppers) g h k c.loop-lower.invariant.charged used;
      exact = charged_turns i (length uppers) g h k c.loop-lower.invariant.exact exact;
    }

pub returns-in_err-tail-clause-exact : goal.returns-in_err-tail-clause-exact
returns-in_err-tail-clause-exact c =
    let lowers = c.args.lowers.now in
    let uppers = c.args.uppers.now.rows.now in
    let i = c.loop-lower.lower-index in
    let g = c.args.meter.now in
    let h = c.loop-lower.meter in
    let k = c.tail_of.new.meter in
    let inside : i < length lowers = grind (arith, common_steps) in
    let cut : IsCutUpTo (pos (length uppers)) h k c.in_err-tail.field-0.0 = grind arith in
    let all = cut_turn i (length lowers) (length uppers) g h k c.in_err-tail.field-0.0 inside c.loop-lower.invariant.charged cut in
    grind arith

pub returns-in_err-push-clause-exact : goal.returns-in_err-push-clause-exact
returns-in_err-push-clause-exact c =
    let lowers = c.args.lowers.now in
    let uppers = c.args.uppers.now.rows.now in
    let i = c.loop-lower.lower-index in
    let g = c.args.meter.now in
    let h = c.loop-lower.meter in
    let k = c.tail_of.new.meter in
    let inside : i < length lowers = grind (arith, common_steps) in
    let used : IsChargedUpTo (pos (length uppers)) h k = charged_up_to (length uppers) h k (grind arith) in
    let all = cut_late i (length lowers) (length uppers) g h k k NoMemory inside c.loop-lower.invariant.charged used (no_memory k k refl) in
    grind arith

pub returns-clause-exact : goal.returns-clause-exact
returns-clause-exact c =
    let lowers = c.args.lowers.now in
    let whole : take c.loop-lower.lower-index lowers ≡ lowers = grind (arith, common_steps) in
    let all : c.loop-lower.lower-index ≡ length lowers = grind (arith, common_steps) in
    ((rw whole at c.loop-lower.invariant.is_shadow, rw whole at c.loop-lower.invariant.never), rw all at c.loop-lower.invariant.exact)
