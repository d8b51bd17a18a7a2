use Rattle.std.proofs.Common.{◌≡◌, ◌+◌, ◌*◌, length, pos, [], refl, arith}
use Rattle.std.proofs.lemmas.Grind.{common_steps}
use Rattle.isl_math.proofs.Ring.{linear}
use Rattle.isl_meter.specs.declared.Cut.TheVariants.{Budget, Overflow}
use Rattle.isl_meter.specs.Gauge.{IsChargedUpTo, IsCutUpTo}
use Rattle.isl_meter.proofs.UnitLemmas.{charged_same, charged_unit, charged_bits, cut_after, cut_weaker, charged_within, cut_within}
use Rattle.isl_omega.proofs.ExactUnits.{charged_up_to}
use Rattle.isl_column.specs.DarkShadow.{IsDarkShadowOf}
use Rattle.isl_shadows.specs.Splinters.{HasFewSplinters}
use Rattle.isl_shadows.specs.Residue.{IsResidueOf, shadow_units, residue_units}
use Rattle.isl_shadows.proofs.ResidueLemmas.{residue_kept}
use Rattle.isl_shadows.proofs.SearchLemmas.{met_none}
use Rattle.isl_column.proofs.SplinterLemmas.{shadow_kept}
use Rattle.isl_shadows.proofs.UnitLemmas.{residue_cost, residue_units_positive, shadow_cut, pairs_first, pairs_kept}
use Rattle.isl_column.proofs.DarkShadowLemmas.{shadow_within}
use Rattle.isl_column.proofs.residue.Residues.shadow.Goals as goal

pub returns-in_err-unit-clause-exact : goal.returns-in_err-unit-clause-exact
returns-in_err-unit-clause-exact c =
    let g = c.args.meter.now in
    let k = c.unit.new.self in
    let r = c.args.self.now in
    let own : IsCutUpTo (pos 0) g k Budget = grind (arith, common_steps) in
    let least = residue_units_positive g c.args.column.columns c.args.column.at r.period r.sides c.requires.residues.period.positive c.requires.residues.sided in
    let cut = cut_weaker (pos 0) (residue_units c.args.column.at r.period r.sides) g k Budget (omega (arith, linear)) own in
    grind arith

pub returns-in_err-rest-clause-exact : goal.returns-in_err-rest-clause-exact
returns-in_err-rest-clause-exact c =
    let g = c.args.meter.now in
    let h = c.unit.new.self in
    let k = c.sub.new.meter in
    let r = c.args.self.now in
    let charged : IsChargedUpTo (pos 1) g h = charged_unit (pos 0) g g h (charged_same g g refl) (grind arith) in
    let own : IsCutUpTo (pos 0) h k Overflow = grind (arith, common_steps) in
    let least = residue_units_positive g c.args.column.columns c.args.column.at r.period r.sides c.requires.residues.period.positive c.requires.residues.sided in
    let cut = cut_weaker (pos 1) (residue_units c.args.column.at r.period r.sides) g k Overflow (omega (arith, linear)) (cut_after (pos 1) (pos 0) g h k Overflow charged own) in
    grind arith

pub returns-in_err-sides-clause-exact : goal.returns-in_err-sides-clause-exact
returns-in_err-sides-clause-exact c =
    let g = c.args.meter.now in
    let h = c.unit.new.self in
    let k = c.residue.new.meter in
    let r = c.args.self.now in
    let e = c.in_err-sides.field-0.0 in
    let charged : IsChargedUpTo (pos 1) g h = charged_unit (pos 0) g g h (charged_same g g refl) (grind arith) in
    let own : IsCutUpTo (pos 0) h k e = grind arith in
    let least = residue_units_positive g c.args.column.columns c.args.column.at r.period r.sides c.requires.residues.period.positive c.requires.residues.sided in
    let cut = cut_weaker (pos 1) (residue_units c.args.column.at r.period r.sides) g k e (omega (arith, linear)) (cut_after (pos 1) (pos 0) g h k e charged own) in
    grind arith

pub returns-in_err-dark_shadow-clause-exact : goal.returns-in_err-dark_shadow-clause-exact
returns-in_err-dark_shadow-clause-exact c =
    let g = c.args.meter.now in
    let h = c.unit.new.self in
    let k = c.of.new.meter in
    let r = c.args.self.now in
    let s = c.in_ok-sides.sides in
    let t = c.in_ok-rest.rest in
    let e = c.in_err-dark_shadow.field-0.0 in
    let charged : IsChargedUpTo (pos 1) g h = charged_unit (pos 0) g g h (charged_same g g refl) (grind arith) in
    let is : IsResidueOf h c.args.column.columns c.args.column.at r.period t r.sides s = grind arith in
    let own : IsCutUpTo (pos (length s.lowers * length s.uppers)) h k e = grind arith in
    let cost = residue_cost g c.args.column.columns c.args.column.at r.period t r.sides s c.requires.residues.period.positive c.requires.residues.sided (residue_kept g h c.args.column.columns c.args.column.at r.period t r.sides s (charged_bits (pos 1) g h charged) is) in
    let cut = cut_within (shadow_units (pos 0) c.args.column.at s) (pos 1) (residue_units c.args.column.at r.period r.sides) g h k e cost charged (shadow_cut h k c.args.column.columns c.args.column.at (pos 0) s e (omega (arith, linear)) is.sided own) in
    grind arith

pub returns-clause-exact : goal.returns-clause-exact
returns-clause-exact c =
    let g = c.args.meter.now in
    let h = c.unit.new.self in
    let k = c.of.new.meter in
    let r = c.args.self.now in
    let s = c.in_ok-sides.sides in
    let t = c.in_ok-rest.rest in
    let dark_shadow = c.in_ok-dark_shadow.dark_shadow in
    let n = length s.lowers * length s.uppers in
    let charged : IsChargedUpTo (pos 1) g h = charged_unit (pos 0) g g h (charged_same g g refl) (grind arith) in
    let bits = charged_bits (pos 1) g h charged in
    let is : IsResidueOf h c.args.column.columns c.args.column.at r.period t r.sides s = grind arith in
    let made : IsDarkShadowOf h c.args.column.columns c.args.column.at s dark_shadow = grind arith in
    let few : HasFewSplinters (pos 0) c.args.column.at s dark_shadow.tails.items = grind arith in
    let own : IsChargedUpTo (pos n) h k = charged_up_to n h k (grind arith) in
    let cost = residue_cost g c.args.column.columns c.args.column.at r.period t r.sides s c.requires.residues.period.positive c.requires.residues.sided (residue_kept g h c.args.column.columns c.args.column.at r.period t r.sides s bits is) in
    let pairs = pairs_first h c.args.column.columns c.args.column.at (pos 0) s (omega (arith, linear)) is.sided in (
      record {
        shadow = shadow_kept g h c.args.column.columns c.args.column.at dark_shadow bits made.is_dark_shadow;
        points = λ point l. let x = is.points point l in let y = made.points point l in ((λ z. x.0 (y.1 z)), (λ z. y.0 (x.1 z)));
        sides = grind arith;
        period = grind arith;
        left = grind arith;
      },
      charged_within (pos n) (pos 1) (residue_units c.args.column.at r.period r.sides) g h k (omega (arith, linear)) charged own,
    )

pub returns-clause-units : goal.returns-clause-units
returns-clause-units c =
    let g = c.args.meter.now in
    let h = c.unit.new.self in
    let k = c.of.new.meter in
    let r = c.args.self.now in
    let s = c.in_ok-sides.sides in
    let t = c.in_ok-rest.rest in
    let dark_shadow = c.in_ok-dark_shadow.dark_shadow in
    let charged : IsChargedUpTo (pos 1) g h = charged_unit (pos 0) g g h (charged_same g g refl) (grind arith) in
    let is : IsResidueOf h c.args.column.columns c.args.column.at r.period t r.sides s = grind arith in
    let made : IsDarkShadowOf h c.args.column.columns c.args.column.at s dark_shadow = grind arith in
    let few : HasFewSplinters (pos 0) c.args.column.at s dark_shadow.tails.items = grind arith in
    let own : IsChargedUpTo (pos (length s.lowers * length s.uppers)) h k = charged_up_to (length s.lowers * length s.uppers) h k (grind arith) in
    let cost = residue_cost g c.args.column.columns c.args.column.at r.period t r.sides s c.requires.residues.period.positive c.requires.residues.sided (residue_kept g h c.args.column.columns c.args.column.at r.period t r.sides s (charged_bits (pos 1) g h charged) is) in
    let most = shadow_within h k c.args.column.columns c.args.column.at (pos 0) s dark_shadow is.sided made few own in
    let one = charged.most in
    omega (arith, linear)

pub returns-clause-used : goal.returns-clause-used
returns-clause-used c =
    let g = c.args.meter.now in
    let h = c.unit.new.self in
    let k = c.of.new.meter in
    let r = c.args.self.now in
    let s = c.in_ok-sides.sides in
    let t = c.in_ok-rest.rest in
    let is : IsResidueOf h c.args.column.columns c.args.column.at r.period t r.sides s = grind arith in
    let same = pairs_kept c.args.column.at r.period r.sides s is.narrowed in
    let own : k.units ≡ h.units + length s.lowers * length s.uppers = grind arith in
    let unit : h.units ≡ g.units + 1 = grind arith in
    omega arith

pub of-requires-clause-not_divides : goal.of-requires-clause-not_divides
of-requires-clause-not_divides c =
    let s = c.in_ok-sides.sides in
    let none : s.not_divides ≡ [] = grind arith in
    rw none (met_none c.args.column.columns c.args.column.at)
