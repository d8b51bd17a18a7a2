-- public: why there are no least or greatest elements.
use Rattle.std.specs.Prelude.{MatchResult, Result}
use Rattle.isl_meter.specs.Gauge.{Gauge, IsCharged, IsCutBy}
use Rattle.isl_extremes.specs.declared.fault.LexFault.{LexFault}
use Rattle.isl_extremes.specs.declared.fault.LexFault.TheVariants.{NoMinimum, Cut}

-- some first element is missing, and units alone were used; or work was cut
abbrev pub IsLexFault : Type 0 → Gauge → Gauge → LexFault → Type 0
IsLexFault Missing old new NoMinimum = Missing × IsCharged old new
IsLexFault Missing old new (Cut cut) = IsCutBy old new cut

-- what a call leaves that answers where `There` holds, and ends without an answer where it does not: an answer, and units alone were used;
-- or a fault
abbrev pub IsLexAnswer : {A : Type 0} → Type 0 → Gauge → Gauge → Result A LexFault → Type 0
IsLexAnswer There old new result = MatchResult result (λ _. There × IsCharged old new) (IsLexFault (¬ There) old new)
