use Rattle.std.proofs.Common.{◌≡◌, ◌<◌, length, get_or, take, arith, Vec, Global, ℤ}
use Rattle.std.proofs.lemmas.Grind.{common_steps}
use Rattle.isl_piece.specs.Definition.{with_defined, DefinitionPassesLimit}
use Rattle.isl_piece.proofs.CutLaws.{overflow_for}
use Rattle.isl_piece.proofs.DefinedLaws.{definition_here, definition_passes}
use Rattle.isl_piece.proofs.definition.Definitions.full_point.Goals as goal

pub value_at-requires : goal.value_at-requires
value_at-requires c =
    let all = c.args.self.now in
    let i = c.loop-definition.definition-index in
    let d = c.definition-item.result in
    let inside : i < length all = grind (arith, common_steps) in
    let at : d ≡ get_or all i d = grind (arith, common_steps) in
    let full : c.as_slice.result.now ≡ with_defined (take i all) c.args.point.now = grind (arith, common_steps) in
    definition_here c.args.meter.now c.loop-definition.meter all c.args.point.now c.as_slice.result.now i d c.requires inside at full c.loop-definition.invariant.1

pub returns-in_err-value : goal.returns-in_err-value
returns-in_err-value c =
    let all = c.args.self.now in
    let point = c.args.point.now in
    let g = c.args.meter.now in
    let i = c.loop-definition.definition-index in
    let d = c.definition-item.result in
    let inside : i < length all = grind (arith, common_steps) in
    let at : d ≡ get_or all i d = grind (arith, common_steps) in
    let full : c.as_slice.result.now ≡ with_defined (take i all) point = grind (arith, common_steps) in
    let same = c.loop-definition.invariant.1 in
    overflow_for (DefinitionPassesLimit g all point) g c.value_at.new.meter
    (λ (made : Vec ℤ Global). (made.items ≡ with_defined all point) × (c.value_at.new.meter ≡ g)) c.from_residual-in_err-value.result c.from_residual-in_err-value.ensures.1
    (definition_passes g c.loop-definition.meter all point c.as_slice.result.now i d inside at full same c.in_err-value.ensures.0) (rw same at c.in_err-value.ensures.1)
