-- public: what a scan leaves of the meter where it has no listing.
use Rattle.isl_meter.specs.Gauge.{Gauge, IsCharged, IsCutBy}
use Rattle.isl_scan.specs.declared.fault.ScanFault.{ScanFault}
use Rattle.isl_scan.specs.declared.fault.ScanFault.TheVariants.{Cut, Unbounded}

-- work was cut; or units alone were used
abbrev pub IsScanFault : Gauge → Gauge → ScanFault → Type 0
IsScanFault old new (Cut cut) = IsCutBy old new cut
IsScanFault old new Unbounded = IsCharged old new
