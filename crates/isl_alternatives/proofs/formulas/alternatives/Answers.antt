use Rattle.std.proofs.Common.{◌≡◌, ◌∷◌, [], arith}
use Rattle.std.proofs.lemmas.Grind.{common_steps}
use Rattle.isl_alternatives.proofs.FormulaLaws.{whole_over, whole_points, whole_within, whole_counted}
use Rattle.isl_alternatives.proofs.formulas.alternatives.Goals as goal

pub restricted-requires-clause-over : goal.restricted-requires-clause-over
restricted-requires-clause-over c =
    let one : c.push.new.self.items ≡ c.args.system ∷ [] = grind (arith, common_steps) in
    whole_over c.args.meter.now c.args.scope.now c.args.system c.push.new.self.items one c.requires.within c.requires.columns

pub returns-clause-points : goal.returns-clause-points
returns-clause-points c =
    let one : c.push.new.self.items ≡ c.args.system ∷ [] = grind (arith, common_steps) in
    whole_points c.args.meter.now c.restricted.new.meter c.args.scope.now c.args.system c.push.new.self.items c.args.formula.now
    c.in_ok-found.found.items one c.requires.columns c.in_ok-found.ensures

pub returns-clause-within : goal.returns-clause-within
returns-clause-within c =
    let one : c.push.new.self.items ≡ c.args.system ∷ [] = grind (arith, common_steps) in
    whole_within c.args.meter.now c.restricted.new.meter c.args.scope.now c.args.system c.push.new.self.items c.args.formula.now
    c.in_ok-found.found.items one c.requires.columns c.in_ok-found.ensures

pub returns-clause-counted : goal.returns-clause-counted
returns-clause-counted c =
    let one : c.push.new.self.items ≡ c.args.system ∷ [] = grind (arith, common_steps) in
    whole_counted c.args.meter.now c.restricted.new.meter c.args.scope.now c.args.system c.push.new.self.items c.args.formula.now
    c.in_ok-found.found.items one c.requires.columns c.in_ok-found.ensures

pub returns-clause-meter : goal.returns-clause-meter
returns-clause-meter c = let r = c.in_ok-found.ensures in r.charged
