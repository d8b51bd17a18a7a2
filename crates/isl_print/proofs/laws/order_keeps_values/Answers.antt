use Rattle.isl_print.proofs.OrderedValueLaws.{IsKeptValue-ordered, Has-ordered, HasNoDefinitions-ordered, printed-ordered}
use Rattle.isl_print.proofs.laws.order_keeps_values.Goals as goal

pub returns-clause-kept : goal.returns-clause-kept
returns-clause-kept c = IsKeptValue-ordered

pub returns-clause-definitions : goal.returns-clause-definitions
returns-clause-definitions c = HasNoDefinitions-ordered

pub returns-clause-elements : goal.returns-clause-elements
returns-clause-elements c = Has-ordered

pub returns-clause-text : goal.returns-clause-text
returns-clause-text c = printed-ordered
