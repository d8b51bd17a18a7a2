-- What a call leaves that has no first elements, or was cut.
use Rattle.std.proofs.Common.{◌≡◌}
use Rattle.isl_meter.specs.declared.Cut.{Cut}
use Rattle.isl_meter.specs.declared.Cut.TheVariants.{NoMemory}
use Rattle.isl_meter.specs.Gauge.{Gauge, IsCharged, IsCutBy}
use Rattle.isl_meter.proofs.CutLemmas.{IsCharged_trans, IsCutBy-after, IsCutBy-charged}
use Rattle.isl_greatest.specs.declared.fault.PipFault.{PipFault}
use Rattle.isl_greatest.specs.declared.fault.PipFault.TheVariants as pip_fault
use Rattle.isl_greatest.specs.Fault.{IsPipFault}

pub cut_fault : (Missing : Type 0) (g h : Gauge) (cut : Cut) (fault : PipFault) → fault ≡ pip_fault.Cut cut → IsCutBy g h cut
    → IsPipFault Missing g h fault
cut_fault Missing g h cut fault is by = rw is by

pub no_memory : (Missing : Type 0) (g h : Gauge) (fault : PipFault) → fault ≡ pip_fault.Cut NoMemory → IsCharged g h
    → IsPipFault Missing g h fault
no_memory Missing g h fault is charged = rw is (IsCutBy-charged g h charged)

-- a fault after charges; what is missing then is missing here
pub later_fault : (Missing Own : Type 0) → (Own → Missing) → (g h k : Gauge) (fault : PipFault) → IsCharged g h → IsPipFault Own h k fault
    → IsPipFault Missing g k fault
later_fault Missing Own to g h k pip_fault.NoMinimum charged is = (to is.0, IsCharged_trans g h k charged is.1)
later_fault Missing Own to g h k (pip_fault.Cut cut) charged is = IsCutBy-after g h k cut charged is

pub same_fault : (Missing Own : Type 0) → (Own → Missing) → (g k : Gauge) (fault : PipFault) → IsPipFault Own g k fault
    → IsPipFault Missing g k fault
same_fault Missing Own to g k pip_fault.NoMinimum is = (to is.0, is.1)
same_fault Missing Own to g k (pip_fault.Cut cut) is = is
