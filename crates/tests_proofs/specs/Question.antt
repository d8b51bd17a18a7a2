-- inner: what the calls on proofs ask of systems.
use Rattle.std.specs.Prelude.{◌≡◌, ℕ, List, [], All}
use Rattle.isl_meter.specs.Gauge.{Gauge}
use Rattle.isl_piece.specs.declared.system.System.{System}
use Rattle.isl_piece.specs.System.{IsSystemWithin}

-- over so many columns, of which none is defined, and within the limit
pub record IsPlain (g : Gauge) (columns : ℕ) (s : System) : Type 0 where
  pub within : IsSystemWithin g s
  pub width : s.columns ≡ columns
  pub plain : s.definitions ≡ []

abbrev pub ArePlain : Gauge → System → List System → Type 0
ArePlain g system outs = IsPlain g system.columns system × All (IsPlain g system.columns) outs
