-- public: from where numbers are bounded.
use Rattle.std.specs.Prelude.{ℤ, neg_ℤ, ◌≤ℤ◌}
use Rattle.std.specs.Int.{int_max, int_min}
use Rattle.isl_math.specs.Divide.{floor_div}
use Rattle.isl_loop.specs.Expr.{ceil_div}
use Rattle.isl_bounds.specs.declared.side.Side.{Side}
use Rattle.isl_bounds.specs.declared.side.Side.TheVariants.{Low, High}

-- the other side
abbrev pub opposite : Side → Side
opposite Low = High
opposite High = Low

-- a bound from below lets the numbers be that are not less, one from above those that are not greater
abbrev pub Lets : Side → ℤ → ℤ → Type 0
Lets Low bound x = bound ≤ℤ x
Lets High bound x = x ≤ℤ bound

-- a bound that is no whole number, rounded to the next one that it lets be
abbrev pub rounded : Side → ℤ → ℤ → ℤ
rounded Low z k = ceil_div z k
rounded High z k = floor_div z k

-- of two bounds the one that lets fewer numbers be
abbrev pub tighter : Side → ℤ → ℤ → ℤ
tighter Low = int_max
tighter High = int_min

-- the coefficient of a column, with the sign at which a form that is at least 0 bounds the column from this side where it is above 0
abbrev pub toward : Side → ℤ → ℤ
toward Low c = c
toward High c = neg_ℤ c
