-- The moment of a state, a meter and options.
use Rattle.isl_meter.specs.Gauge.{Gauge}
use Rattle.isl_words.specs.Options.{OptionsView}
use Rattle.isl_values.specs.State.{Moment, StateView}

abbrev pub moment_of : StateView → Gauge → OptionsView → Moment
moment_of state meter options = record { state = state; meter = meter; options = options }
