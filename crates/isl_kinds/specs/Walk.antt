-- public: parts as a walk of an expression hands them to a test.
use Rattle.isl_kinds.specs.declared.walk.Part.{Part}
use Rattle.isl_kinds.specs.declared.walk.Part.TheVariants as walked
use Rattle.isl_kinds.specs.Parts as spec

abbrev pub part_of : Part → spec.Part
part_of (walked.Name n) = spec.name n.now
part_of (walked.Literal l) = spec.literal l.now
part_of (walked.Operator operator) = spec.operator operator
part_of (walked.Prefix word) = spec.prefix word
part_of walked.Any = spec.any
part_of walked.Last = spec.last
part_of walked.Inverse = spec.inverse
part_of walked.Application = spec.application
part_of (walked.Item number) = spec.item number
