use Rattle.std.proofs.Common.{◌<◌, ◌∙◌, sym, ap, subst, arith, IsSome}
use Rattle.std.specs.Map.Iter.{deref_pair}
use Rattle.std.specs.Option.{option_map}
use Rattle.std.proofs.lemmas.Bool.{false≢true}
use Rattle.isl_space.specs.Name.{Name}
use Rattle.isl_kinds.proofs.ForgetLaws.{all_behind, forgotten_behind, found_inside, gone_step, passed_behind, stays, stays_step}
use Rattle.isl_kinds.proofs.scope.forget_behind.Goals.{in-Some, in-None}
use Rattle.isl_kinds.proofs.scope.forget_behind.Goals as goal

pub loop-at-init : goal.loop-at-init
loop-at-init g c =
    let old = c.args.bound.now.entries in
    let long = c.len-at.ensures.len in
    (omega (arith, long), sym (ap (passed_behind stays old) long ∙ all_behind stays old))

pub loop-at-preserved-then-is_gone : goal.loop-at-preserved-then-is_gone
loop-at-preserved-then-is_gone g c =
    let old = c.args.bound.now.entries in
    let now = c.loop-at.bound.entries in
    let at = c.loop-at.at in
    let low : c.args.settled < at = omega arith in
    elim c.match-get_index.branch [
      | in-Some w ↦
          let entry : Name × g.row.V.Denot = (w.in-Some.name.now, w.in-Some.field-0-1.now) in
          gone_step old now at c.args.settled low c.loop-at.invariant entry
          (sym c.get_index.ensures.entry ∙ ap (option_map deref_pair) w.in-Some.is)
          (sym w.is_dollar-is_gone.ensures ∙ sym w.is_gone-is ∙ c.if-is_gone.true) c.shift_remove_index.new.self.entries
          c.shift_remove_index.ensures.entries
      | in-None w ↦ absurd (false≢true (sym w.is_gone-is ∙ c.if-is_gone.true))
    ]

pub loop-at-preserved : goal.loop-at-preserved
loop-at-preserved g c =
    let old = c.args.bound.now.entries in
    let now = c.loop-at.bound.entries in
    let at = c.loop-at.at in
    let low : c.args.settled < at = omega arith in
    elim c.match-get_index.branch [
      | in-Some w ↦
          let entry : Name × g.row.V.Denot = (w.in-Some.name.now, w.in-Some.field-0-1.now) in
          stays_step old now at c.args.settled low c.loop-at.invariant entry
          (sym c.get_index.ensures.entry ∙ ap (option_map deref_pair) w.in-Some.is)
          (sym w.is_dollar-is_gone.ensures ∙ sym w.is_gone-is ∙ c.if-is_gone.false)
      | in-None w ↦
          let some = subst IsSome w.in-None.is (c.get_index.ensures.found.1 (found_inside old now at c.args.settled low c.loop-at.invariant)) in
          absurd (false≢true some)
    ]

pub returns : goal.returns
returns g c =
    c.loop-at.invariant.1 ∙ forgotten_behind c.args.bound.now.entries c.loop-at.at c.args.settled (omega arith) c.requires
