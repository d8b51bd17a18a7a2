-- public: how a run ended.
use Rattle.std.specs.Prelude.{ℕ, Option, Some, None}
use Rattle.isl_meter.specs.Gauge.{Gauge}
use Rattle.isl_refusal.specs.declared.refusal.Refusal.{Refusal}
use Rattle.isl_refusal.specs.Refusal.{code_of}

-- with no refusal, or with which one; and the session's meter as the run left it
pub record StatusView : Type 0 where
  pub refusal : Option Refusal
  pub meter : Option Gauge

abbrev pub exit_code : Option Refusal → ℕ
exit_code None = 0
exit_code (Some refusal) = code_of refusal
