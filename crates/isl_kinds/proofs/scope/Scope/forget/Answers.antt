use Rattle.std.proofs.Common.{List, arith, subst, sym, take}
use Rattle.std.specs.List.{All}
use Rattle.isl_space.specs.Name.{Name}
use Rattle.isl_kinds.specs.Typed.{TypeView}
use Rattle.isl_kinds.proofs.ForgetLaws.{left_plain, IsPlain}
use Rattle.isl_kinds.proofs.scope.Scope.forget.Goals as goal

pub invariant_of-self : goal.invariant_of-self
invariant_of-self c =
    let n = c.len-self-inside.result in
    let long = c.len-self-inside.ensures.len in (
      omega arith,
      subst (λ (es : List (Name × TypeView)). All IsPlain (take n es)) (sym c.forget_behind.ensures)
          (left_plain c.self.inside.bound.entries n),
    )
