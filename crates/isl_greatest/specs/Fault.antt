-- public: why there is no tree.
use Rattle.std.specs.Prelude.{MatchResult, Result}
use Rattle.isl_meter.specs.Gauge.{Gauge, IsCharged, IsCutBy}
use Rattle.isl_greatest.specs.declared.fault.PipFault.{PipFault}
use Rattle.isl_greatest.specs.declared.fault.PipFault.TheVariants.{NoMinimum, Cut}

-- some first element is missing, and units alone were used; or work was cut
abbrev pub IsPipFault : Type 0 → Gauge → Gauge → PipFault → Type 0
IsPipFault Missing old new NoMinimum = Missing × IsCharged old new
IsPipFault Missing old new (Cut cut) = IsCutBy old new cut

-- what a call leaves that answers where `There` holds, and ends without an answer where it does not: an answer, and units alone were used;
-- or a fault
abbrev pub IsPipAnswer : {A : Type 0} → Type 0 → Gauge → Gauge → Result A PipFault → Type 0
IsPipAnswer There old new result = MatchResult result (λ _. There × IsCharged old new) (IsPipFault (¬ There) old new)
