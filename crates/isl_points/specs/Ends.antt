-- inner: ends of intervals.
use Rattle.std.specs.Prelude.{ℤ, ◌≤ℤ◌, IfSome, Option}

-- x is at least the low end, where it is there
abbrev pub IsFrom : Option ℤ → ℤ → Type 0
IsFrom end x = IfSome end (λ low. low ≤ℤ x)

-- x is at most the high end, where it is there
abbrev pub IsTo : Option ℤ → ℤ → Type 0
IsTo end x = IfSome end (λ high. x ≤ℤ high)
