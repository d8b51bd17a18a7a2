use Rattle.std.proofs.Common.{◌≡◌, ◌+◌, ◌-◌, length}
use Rattle.std.specs.Prelude.{string_bytes}
use Rattle.std.specs.List.{sum_by}
use Rattle.isl_row_text.specs.Naming.{primed, free_name}
use Rattle.isl_row_text.proofs.names.free_name.Given as goal

abbrev pub invariant-primes : goal.invariant-primes
invariant-primes l = (l.free ≡ string_bytes l.text) × (primed (sum_by length l.params + 1 - length l.free) l.params l.free ≡ free_name l.params l.name)

abbrev pub decreases-primes : goal.decreases-primes
decreases-primes l = sum_by length l.params + 1 - length l.free
