use Rattle.std.proofs.Common.{◌≡◌, ap, arith, length, nat_eq, subst}
use Rattle.std.proofs.lemmas.Grind.{common_steps}
use Rattle.isl_union.specs.KeptValue.{KeptValue, IsKeptValue}
use Rattle.isl_union.proofs.PieceLaws.{empty_told, IsKeptValue-from_pieces}
use Rattle.isl_union.proofs.value.Value.is_empty.Goals as goal

pub returns-clause-exact : goal.returns-clause-exact
returns-clause-exact c =
    let told : c.is_empty.result ≡ nat_eq (length c.self.inside.pieces.items) 0 = grind (arith, common_steps) in
    empty_told c.is_empty.result c.self.inside.pieces.items c.args.self.now told (ap (λ (v : KeptValue). v.pieces) c.self.view_is)
    (subst IsKeptValue c.self.view_is (IsKeptValue-from_pieces _ _ c.self.invariant.0 c.self.invariant.1))
