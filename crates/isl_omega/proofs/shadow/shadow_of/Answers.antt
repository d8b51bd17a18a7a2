use Rattle.std.proofs.Common.{◌≡◌, ◌+◌, ◌<◌, ◌++◌, ◌∷◌, [], length, take, refl, sym, ◌∙◌, ap, IsTrue, IfSome, arith, pos}
use Rattle.std.proofs.lemmas.Grind.{common_steps}
use Rattle.std.proofs.lemmas.List.{take_more}
use Rattle.isl_piece.specs.declared.row.Row.{Row}
use Rattle.isl_piece.specs.Row.{IsRowWithin}
use Rattle.isl_omega.specs.Shadow.{IsDarkRow, IsExact, IsShadowSoFar, IsCap, IsCapped}
use Rattle.isl_meter.specs.Gauge.{IsWithin, IsChargedUpTo}
use Rattle.isl_meter.proofs.LimitLemmas.{within_kept}
use Rattle.std.proofs.lemmas.Option.{IfSome_then}
use Rattle.isl_omega.proofs.CapLemmas.{either_cap, cap_kept, cap_last, shadow_capped, never_met}
use Rattle.isl_meter.proofs.UnitLemmas.{charged_same, charged_unit, charged_bits}
use Rattle.isl_omega.proofs.ExactUnits.{charged_none, charged_sum}
use Rattle.isl_piece.proofs.RowMagnitudes.{row_within_kept}
use Rattle.isl_omega.proofs.ShadowRows.{so_far_none, so_far_more, shadow_is}
use Rattle.isl_omega.proofs.shadow.shadow_of.Goals as goal

pub loop-upper-init : goal.loop-upper-init
loop-upper-init c = record {
  so_far = so_far_none c.args.meter.now c.args.uppers.now.column.columns c.args.uppers.now.column.at c.args.lower.now c.args.rows.now;
  charged = charged_same c.args.meter.now c.args.meter.now refl;
  cap = tt;
  cap_within = tt;
  exact = charged_none 0 c.args.meter.now c.args.meter.now refl refl;
}

pub loop-upper-preserved : goal.loop-upper-preserved
loop-upper-preserved c =
    let uppers = c.args.uppers.now.rows.now in
    let i = c.loop-upper.upper-index in
    let u = c.upper-item.result in
    let g = c.args.meter.now in
    let pair = c.in_ok-pair.pair in
    let inside : i < length uppers = grind (arith, common_steps) in
    let charged : IsChargedUpTo (pos (i + 1)) g c.unit.new.self = charged_unit (pos i) g c.loop-upper.meter c.unit.new.self c.loop-upper.invariant.charged (grind arith) in
    let same : c.of.new.meter ≡ c.unit.new.self = grind arith in
    let dark : IsDarkRow c.args.uppers.now.column.columns c.args.uppers.now.column.at c.args.lower.now u pair.dark = grind arith in
    let within : IsRowWithin g pair.dark = row_within_kept g c.unit.new.self pair.dark (charged_bits (pos (i + 1)) g c.unit.new.self charged) (grind arith) in
    let own : IfSome pair.cap (λ z. IsCap c.args.uppers.now.column.columns c.args.uppers.now.column.at c.args.lower.now (u ∷ []) z × IsWithin c.unit.new.self z) = grind arith in
    let exact : IsTrue pair.exact → IsExact c.args.uppers.now.column.columns c.args.uppers.now.column.at c.args.lower.now u = grind arith in
    let pushed : c.push.new.self ≡ c.loop-upper.rows ++ pair.dark ∷ [] = grind arith in
    let taken : take (i + 1) uppers ≡ take i uppers ++ u ∷ [] = take_more uppers i u inside ∙ ap (λ (s : Row). take i uppers ++ s ∷ []) (sym c.upper-item.is) in
    record {
      so_far = rw taken (so_far_more g c.args.uppers.now.column.columns c.args.uppers.now.column.at c.args.lower.now (take i uppers) u pair.dark c.args.rows.now c.loop-upper.rows c.push.new.self c.loop-upper.greatest c.widest-greatest.result (IsTrue pair.exact)
          c.loop-upper.invariant.so_far dark within exact pushed c.widest-greatest.ensures.kept (grind arith) (grind arith));
      charged = grind arith;
      cap = rw taken (either_cap (IsCap c.args.uppers.now.column.columns c.args.uppers.now.column.at c.args.lower.now (take i uppers ++ u ∷ [])) c.loop-upper.cap pair.cap c.least_cap-cap.result c.least_cap-cap.ensures
          (cap_kept c.args.uppers.now.column.columns c.args.uppers.now.column.at c.args.lower.now (take i uppers) u c.loop-upper.cap c.loop-upper.invariant.cap)
          (cap_last c.args.uppers.now.column.columns c.args.uppers.now.column.at c.args.lower.now (take i uppers) u pair.cap (IfSome_then pair.cap own (λ z p. p.0))));
      cap_within = either_cap (IsWithin g) c.loop-upper.cap pair.cap c.least_cap-cap.result c.least_cap-cap.ensures c.loop-upper.invariant.cap_within (IfSome_then pair.cap own (λ z p. within_kept g c.unit.new.self z (charged_bits (pos (i + 1)) g c.unit.new.self charged) p.1));
      exact = same ∙ charged_sum i 1 g c.loop-upper.meter c.unit.new.self c.loop-upper.invariant.exact (grind arith);
    }

pub returns-clause-exact : goal.returns-clause-exact
returns-clause-exact c =
    let uppers = c.args.uppers.now.rows.now in
    let whole : take c.loop-upper.upper-index uppers ≡ uppers = grind (arith, common_steps) in
    let all : c.loop-upper.upper-index ≡ length uppers = grind (arith, common_steps) in
    let same : c.capped.new.meter ≡ c.loop-upper.meter = grind arith in
    let lower = c.args.lower.now in
    let cap = rw whole at c.loop-upper.invariant.cap in
    let less : IsCapped c.loop-upper.cap c.in_ok-full.full c.in_ok-left.left.last = grind arith in
    let within : IsWithin c.args.meter.now c.in_ok-left.left.last = grind arith in
    let so_far : IsShadowSoFar c.args.meter.now c.args.uppers.now.column.columns c.args.uppers.now.column.at c.args.lower.now uppers c.args.rows.now c.loop-upper.rows c.loop-upper.greatest = rw whole at c.loop-upper.invariant.so_far in (
      (
        shadow_capped c.args.meter.now c.args.uppers.now.column.columns c.args.uppers.now.column.at lower uppers c.args.rows.now c.loop-upper.rows c.loop-upper.cap c.in_ok-full.full c.in_ok-left.left.last cap less
            (shadow_is c.args.meter.now c.args.uppers.now.column.columns c.args.uppers.now.column.at lower uppers c.args.rows.now c.loop-upper.rows c.loop-upper.greatest c.in_ok-full.full c.requires.lower c.requires.uppers c.args.uppers.now.column.in_range so_far (grind arith) (grind arith)),
        within,
        λ t. never_met c.args.meter.now c.args.uppers.now.column.columns c.args.uppers.now.column.at lower uppers c.loop-upper.cap c.requires.lower cap (c.in_ok-left.ensures.exact.1 t),
      ),
      rw all at (same ∙ c.loop-upper.invariant.exact),
    )

pub capped-requires-clause-cap_within : goal.capped-requires-clause-cap_within
capped-requires-clause-cap_within c =
    let g = c.args.meter.now in
    let h = c.last_value.new.meter in
    let same : h ≡ c.loop-upper.meter = grind arith in
    let bits = charged_bits (pos c.loop-upper.upper-index) g c.loop-upper.meter c.loop-upper.invariant.charged in
    rw same (IfSome_then c.loop-upper.cap c.loop-upper.invariant.cap_within (λ z p. within_kept c.loop-upper.meter g z (sym bits) p))
