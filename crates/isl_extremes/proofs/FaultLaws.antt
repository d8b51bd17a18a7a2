-- What a call leaves that has no first elements, or was cut.
use Rattle.std.proofs.Common.{◌≡◌}
use Rattle.isl_meter.specs.declared.Cut.{Cut}
use Rattle.isl_meter.specs.declared.Cut.TheVariants.{NoMemory}
use Rattle.isl_meter.specs.Gauge.{Gauge, IsCharged, IsCutBy}
use Rattle.isl_meter.proofs.CutLemmas.{IsCharged_trans, IsCutBy-after, IsCutBy-charged}
use Rattle.isl_extremes.specs.declared.fault.LexFault.{LexFault}
use Rattle.isl_extremes.specs.declared.fault.LexFault.TheVariants as lex_fault
use Rattle.isl_extremes.specs.Fault.{IsLexFault}

pub cut_fault : (Missing : Type 0) (g h : Gauge) (cut : Cut) (fault : LexFault) → fault ≡ lex_fault.Cut cut → IsCutBy g h cut
    → IsLexFault Missing g h fault
cut_fault Missing g h cut fault is by = rw is by

pub no_memory : (Missing : Type 0) (g h : Gauge) (fault : LexFault) → fault ≡ lex_fault.Cut NoMemory → IsCharged g h
    → IsLexFault Missing g h fault
no_memory Missing g h fault is charged = rw is (IsCutBy-charged g h charged)

-- a fault after charges; what is missing then is missing here
pub later_fault : (Missing Own : Type 0) → (Own → Missing) → (g h k : Gauge) (fault : LexFault) → IsCharged g h → IsLexFault Own h k fault
    → IsLexFault Missing g k fault
later_fault Missing Own to g h k lex_fault.NoMinimum charged is = (to is.0, IsCharged_trans g h k charged is.1)
later_fault Missing Own to g h k (lex_fault.Cut cut) charged is = IsCutBy-after g h k cut charged is

pub same_fault : (Missing Own : Type 0) → (Own → Missing) → (g k : Gauge) (fault : LexFault) → IsLexFault Own g k fault
    → IsLexFault Missing g k fault
same_fault Missing Own to g k lex_fault.NoMinimum is = (to is.0, is.1)
same_fault Missing Own to g k (lex_fault.Cut cut) is = is
