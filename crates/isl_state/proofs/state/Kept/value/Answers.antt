use Rattle.std.proofs.Common.{subst, sym}
use Rattle.isl_union.specs.KeptValue.{HasNoDefinitions}
use Rattle.isl_state.specs.declared.list.ListPart.TheVariants.{First}
use Rattle.isl_state.proofs.state.Kept.value.Goals as goal

pub returns-clause-definitions : goal.returns-clause-definitions
returns-clause-definitions c = subst HasNoDefinitions (sym c.deref.ensures) (c.self.invariant.definitions First)
