-- inner: what the code says of a row that it made normal in its place.
use Rattle.std.specs.Prelude.{◌≡◌}
use Rattle.isl_piece.specs.declared.row.Row.{Row}
use Rattle.isl_piece.specs.declared.reduction.Outcome.{Outcome}
use Rattle.isl_piece.specs.declared.reduction.Outcome.TheVariants.{Holds, Fails, Stays}
use Rattle.isl_piece.specs.Normal.{Verdict, Always, Never, Kept}

-- the outcome, with the row that was left, is the verdict
abbrev pub Settles : Outcome → Row → Verdict → Type 0
Settles Holds r v = v ≡ Always
Settles Fails r v = v ≡ Never
Settles Stays r v = v ≡ Kept r
