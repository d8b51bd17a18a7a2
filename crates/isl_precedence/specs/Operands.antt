-- public: three values over their joined parameters. (isl manual, on the alignment of parameters)
use Rattle.std.specs.Prelude.{◌≡◌}
use Rattle.isl_meter.specs.Gauge.{Gauge}
use Rattle.isl_space.specs.Names.{IsParameterList, joined}
use Rattle.isl_union.specs.KeptValue.{KeptValue}
use Rattle.isl_union.specs.Minus.{ArePiecesOver}
use Rattle.isl_precedence.specs.declared.operands.Operands.{Operands}

pub record AreAligned (g : Gauge) (m n t : KeptValue) (operands : Operands) : Type 0 where
  pub params : operands.params ≡ joined (joined m.params n.params) t.params
  pub well_formed : IsParameterList operands.params
  pub sources : ArePiecesOver g operands.params m operands.sources.items
  pub sinks : ArePiecesOver g operands.params n operands.sinks.items
  pub times : ArePiecesOver g operands.params t operands.times.items
