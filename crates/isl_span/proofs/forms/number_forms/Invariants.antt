use Rattle.std.proofs.Common.{◌≡◌, take}
use Rattle.isl_span.specs.Forms.{number_rows}
use Rattle.isl_span.proofs.forms.number_forms.Given as goal

abbrev pub invariant-loop-column : goal.invariant-loop-column
invariant-loop-column l = l.forms ≡ number_rows l.columns 0 (take l.column l.point)
