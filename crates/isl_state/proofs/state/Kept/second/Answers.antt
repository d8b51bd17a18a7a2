use Rattle.std.proofs.Common.{◌∙◌, subst, sym, ap, option_map, unwrap_or}
use Rattle.isl_union.specs.KeptValue.{HasNoDefinitions}
use Rattle.isl_state.specs.declared.list.ListPart.TheVariants.{Second}
use Rattle.isl_state.proofs.state.Kept.second.Goals as goal

pub returns-in-Some-clause-definitions : goal.returns-in-Some-clause-definitions
returns-in-Some-clause-definitions c =
    subst HasNoDefinitions
    (ap (λ o. unwrap_or (option_map (λ v. v.value) o) c.self.inside.value.value) c.in-Some.is ∙ sym c.deref.ensures)
    (c.self.invariant.definitions Second)
