use Rattle.std.proofs.Common.{◌≡◌, refl, sym, ap, arith, IsTrue, ◌↔◌, [], List}
use Rattle.std.proofs.lemmas.Grind.{common_steps}
use Rattle.isl_piece.specs.declared.definition.Definition.{Definition}
use Rattle.isl_piece.specs.Definition.{with_defined}
use Rattle.isl_piece.specs.System.{HoldsSystem, SystemPassesLimit}
use Rattle.isl_piece.proofs.CutLaws.{overflow_for}
use Rattle.isl_piece.proofs.DefinedLaws.{passes_at_row}
use Rattle.isl_piece.proofs.system.System.holds_at.Goals as goal

pub returns-in_err-hold_at : goal.returns-in_err-hold_at
returns-in_err-hold_at c =
    let s = c.args.self.now in
    let point = c.args.point.now in
    let none : s.definitions ≡ [] = grind (arith, common_steps) in
    let full : point ≡ with_defined s.definitions point = sym (ap (λ (ds : List Definition). with_defined ds point) none) in
    overflow_for (SystemPassesLimit c.args.meter.now s point) c.args.meter.now c.hold_at.new.meter
    (λ holds. (IsTrue holds ↔ HoldsSystem s point) × (c.hold_at.new.meter ≡ c.args.meter.now)) c.from_residual.result c.from_residual.ensures.1
    (passes_at_row c.args.meter.now c.args.meter.now s point point full refl c.in_err-hold_at.ensures.0) c.in_err-hold_at.ensures.1

pub returns-in_err-hold_at-2 : goal.returns-in_err-hold_at-2
returns-in_err-hold_at-2 c =
    let s = c.args.self.now in
    let point = c.args.point.now in
    let full : c.as_slice.result.now ≡ with_defined s.definitions point = grind (arith, common_steps) in
    let same : c.full_point.new.meter ≡ c.args.meter.now = grind (arith, common_steps) in
    overflow_for (SystemPassesLimit c.args.meter.now s point) c.args.meter.now c.hold_at-2.new.meter
    (λ holds. (IsTrue holds ↔ HoldsSystem s point) × (c.hold_at-2.new.meter ≡ c.args.meter.now)) c.from_residual-in_err-hold_at-2.result c.from_residual-in_err-hold_at-2.ensures.1
    (passes_at_row c.args.meter.now c.full_point.new.meter s point c.as_slice.result.now full same c.in_err-hold_at-2.ensures.0) (rw same at c.in_err-hold_at-2.ensures.1)
