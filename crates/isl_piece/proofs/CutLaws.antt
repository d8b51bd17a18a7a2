-- Work that is cut by an overflow, for a reason.
use Rattle.std.proofs.Common.{◌≡◌, Result, Ok, Err, MatchResult}
use Rattle.std.specs.Result.{IsErrAnd}
use Rattle.isl_meter.specs.declared.Cut.{Cut}
use Rattle.isl_meter.specs.declared.Cut.TheVariants.{Overflow}
use Rattle.isl_meter.specs.Gauge.{Gauge, overflown}
use Rattle.isl_piece.specs.Cut.{IsCutFor}

pub overflow_for : {A : Type 0} (Q : Type 0) (old new : Gauge) (P : A → Type 0) (result : Result A Cut) → IsErrAnd result (λ cut. cut ≡ Overflow) → Q → new ≡ overflown old
    → MatchResult result P (IsCutFor Q old new)
overflow_for Q old new P (Ok v) is q same = absurd is
overflow_for Q old new P (Err cut) is q same = rw is (q, same)
