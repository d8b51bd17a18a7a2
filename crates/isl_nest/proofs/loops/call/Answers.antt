use Rattle.std.proofs.Common.{◌≡◌, ◌+◌, ◌<◌, ◌≤◌, ap, sym, subst, arith, List, Option, length, get_or}
use Rattle.std.specs.Prelude.{IfSome}
use Rattle.std.proofs.lemmas.Grind.{common_steps}
use Rattle.isl_space.specs.Name.{Name, IsLiteralName}
use Rattle.isl_piece.specs.declared.row.Row.{Row}
use Rattle.isl_loop.specs.declared.tree.Loop.{Call}
use Rattle.isl_nest.specs.Covered.{view_of}
use Rattle.isl_nest.proofs.CalledLaws.{arguments_more, call_is, entry_formed, entry_within}
use Rattle.isl_nest.proofs.loops.call.Goals as goal

pub loop-i-preserved : goal.loop-i-preserved
loop-i-preserved c =
    let g = c.args.meter.now in
    let place = c.args.place.now in
    let arguments = c.args.item.now.arguments.items in
    let i = c.loop-i.i in
    let at = c.index-at.result.now in
    let entry = c.index-as_slice-at.result in
    let low : i < length arguments = grind (arith, common_steps) in
    let here : at ≡ get_or arguments i at = grind (arith, common_steps) in
    let inside : get_or arguments i at < c.args.item.now.params + c.args.item.now.levels = c.requires.item.is.arguments i at low in
    let whole = c.requires.whole in
    let room : at < length place.frame = omega (arith, here, inside, whole) in
    let same : c.as_slice.result.now ≡ place.frame = c.as_slice.ensures in
    let read : entry ≡ get_or place.frame at entry =
    subst (λ (f : List Row). entry ≡ get_or f at entry) same c.index-as_slice-at.is in
    let formed = entry_formed g place c.requires.place at entry room read in
    let within = entry_within g place c.requires.place at entry room read in
    let over = c.in_ok-divided.ensures.over g place.variables c.limit-limit.ensures.bits_low within formed.width in
    arguments_more g place c.requires.place at entry room read arguments i c.loop-i.arguments c.in_ok-divided.field-0 c.push.new.self low here
    c.loop-i.invariant over (λ point e. c.in_ok-divided.ensures.value point e) c.in_ok-push.ensures.ok

pub returns-clause-call : goal.returns-clause-call
returns-clause-call c =
    let item = view_of c.args.item.now in
    let exprs = c.loop-i.arguments in
    let name = c.in_ok-name_of.field-0 in
    let end : length item.arguments ≤ c.loop-i.i = omega arith in
    (call_is item c.args.place.now exprs (Call name exprs) c.args.meter.now c.loop-i.i
    (ap (λ (n : Option Name). Call n exprs) c.in_ok-name_of.ensures) end c.loop-i.invariant).0

pub returns-clause-over : goal.returns-clause-over
returns-clause-over c = c.loop-i.invariant.over

pub returns-clause-printable : goal.returns-clause-printable
returns-clause-printable c named n =
    subst (λ (name : Option Name). IfSome name IsLiteralName) (sym c.in_ok-name_of.ensures) named
