use Rattle.std.proofs.Common.{◌≡◌, length}
use Rattle.std.specs.List.{list_any}
use Rattle.isl_text.specs.Limits.{is_wide}
use Rattle.isl_text.proofs.wide.has_wide_number.Given as goal

abbrev pub invariant-loop-rest : goal.invariant-loop-rest
invariant-loop-rest l = list_any (is_wide l.limit) l.initial.rest ≡ list_any (is_wide l.limit) l.rest

abbrev pub decreases-loop-rest : goal.decreases-loop-rest
decreases-loop-rest l = length l.rest
