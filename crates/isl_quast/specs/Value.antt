-- inner: the lesser of two numbers, or the greater.
use Rattle.std.specs.Prelude.{ℤ}
use Rattle.std.specs.Int.{int_max, int_min}
use Rattle.isl_quast.specs.declared.number.Extreme.{Extreme}
use Rattle.isl_quast.specs.declared.number.Extreme.TheVariants.{Least, Greatest}

abbrev pub better : Extreme → ℤ → ℤ → ℤ
better Least = int_min
better Greatest = int_max
