use Rattle.std.proofs.Common.{◌≡◌, ◌≤◌, List, length, rules, subst, sym, take}
use Rattle.std.specs.List.{All}
use Rattle.std.specs.Str.{bytes_eq}
use Rattle.indexmap.specs.IndexMap.{insert_entry}
use Rattle.isl_space.specs.Name.{Name}
use Rattle.isl_kinds.specs.Typed.{TypeView}
use Rattle.isl_kinds.proofs.ForgetLaws.{bound_behind, IsPlain}
use Rattle.isl_kinds.proofs.scope.Scope.bind.Goals as goal

pub invariant_of-self-2 : goal.invariant_of-self-2
invariant_of-self-2 c =
    let n = c.self.inside.settled in
    let old = c.self.inside.bound.entries in
    let is : c.insert.new.self.entries ≡ insert_entry bytes_eq old c.args.name c.args.typed = search rules in
    subst (λ (es : List (Name × TypeView)). (n ≤ length es) × All IsPlain (take n es)) (sym is)
    (bound_behind c.args.name c.args.typed old n c.self.invariant.0 c.self.invariant.1)
