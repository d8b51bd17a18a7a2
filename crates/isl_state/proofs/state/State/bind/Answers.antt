use Rattle.std.proofs.Common.{◌≡◌, ◌≤◌, List, length, rules, subst, sym, take}
use Rattle.std.specs.List.{All}
use Rattle.std.specs.Str.{bytes_eq}
use Rattle.indexmap.specs.IndexMap.{insert_entry}
use Rattle.isl_space.specs.Name.{Name}
use Rattle.isl_kinds.proofs.ForgetLaws.{bound_behind, IsPlain}
use Rattle.isl_state.specs.State.{Kept}
use Rattle.isl_state.proofs.StateLaws.{bind_scope}
use Rattle.isl_state.proofs.state.State.bind.Goals as goal

pub invariant_of-self-2 : goal.invariant_of-self-2
invariant_of-self-2 c =
    let n = c.self.inside.settled in
    let old = c.self.inside.bound.entries in
    let is : c.insert.new.self.entries ≡ insert_entry bytes_eq old c.args.name c.args.kept = search rules in
    let behind = subst (λ (es : List (Name × Kept)). (n ≤ length es) × All IsPlain (take n es)) (sym is)
    (bound_behind c.args.name c.args.kept old n c.self.invariant.1 c.self.invariant.2) in (
      bind_scope c.self.inside.scope c.bind.new.self old c.insert.new.self.entries c.args.name c.args.kept c.args.typed
          c.self.invariant.0 (search rules) c.requires is,
      behind.0,
      behind.1,
    )
