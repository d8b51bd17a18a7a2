use Rattle.std.proofs.Common.{◌∙◌, arith, ap, List, subst, sym, take}
use Rattle.std.specs.List.{All}
use Rattle.isl_space.specs.Name.{Name}
use Rattle.isl_kinds.proofs.ForgetLaws.{left_plain, IsPlain}
use Rattle.isl_state.specs.State.{Kept, StateView, forgotten}
use Rattle.isl_state.proofs.ForgetLaws.{forget_scope}
use Rattle.isl_state.proofs.state.State.forget.Goals as goal

pub invariant_of-self : goal.invariant_of-self
invariant_of-self c =
    let n = c.len-self-inside.result in
    let long = c.len-self-inside.ensures.len in
    let old = c.self.inside.bound.entries in
    let after = c.forget_behind.new.bound.entries in (
      forget_scope c.self.inside.scope c.forget.new.self old after c.self.invariant.0 c.forget.ensures c.forget_behind.ensures,
      omega arith,
      subst (λ (es : List (Name × Kept)). All IsPlain (take n es)) (sym c.forget_behind.ensures) (left_plain old n),
    )

pub returns : goal.returns
returns c =
    ap (λ (bound : List (Name × Kept)). let state : StateView = record { bound = bound; assumed = c.self.inside.assumed } in state)
    c.forget_behind.ensures
    ∙ ap forgotten c.self.view_is
