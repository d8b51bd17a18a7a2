-- public: what a reader's fault is to its caller.
use Rattle.isl_token.specs.declared.fault.Fault.{Fault}
use Rattle.isl_token.specs.declared.fault.Fault.TheVariants as fault
use Rattle.isl_refusal.specs.declared.refusal.Refusal.{Refusal}
use Rattle.isl_refusal.specs.declared.refusal.Refusal.TheVariants.{NoMemory, Syntax}

abbrev pub of_fault : Fault → Refusal
of_fault fault.NoMemory = NoMemory
of_fault fault.Syntax = Syntax
