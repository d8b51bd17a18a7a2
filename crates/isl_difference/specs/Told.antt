-- public: what two systems tell of one another as their rows are written: that each point of one is a point of the other, or that none is.
-- (isl, on sorting inequalities by their coefficients)
use Rattle.std.specs.Prelude.{◌≡◌, ◌⊎◌, All, Any, pos, negsuc, ◌+ℤ◌, ◌<ℤ◌, ◌≤ℤ◌, List}
use Rattle.isl_math.specs.Dot.{scaled}
use Rattle.isl_piece.specs.declared.row.Row.{Row}
use Rattle.isl_piece.specs.declared.row.RowKind.TheVariants.{Zero, AtLeast}
use Rattle.isl_piece.specs.declared.system.System.{System}
use Rattle.isl_piece.specs.Placed.{both_systems}
use Rattle.isl_difference.specs.Split.{frame_of}

-- ---- two rows
-- where the row holds its form is at least 0
abbrev pub IsBound : Row → Type 0
IsBound r = (r.kind ≡ Zero) ⊎ (r.kind ≡ AtLeast)

-- the forms are the same but for their constants; the second is the negative of the first but for its constant
abbrev pub IsParallel : Row → Row → Type 0
IsParallel a b = b.coefs ≡ a.coefs

abbrev pub IsOpposite : Row → Row → Type 0
IsOpposite a b = b.coefs ≡ scaled (negsuc 0) a.coefs

-- the first row says the second: they are the same; or the second is an inequality that is no tighter; or one that is no tighter than
-- the other half of an equality
abbrev pub Says : Row → Row → Type 0
Says a b = (b ≡ a)
    ⊎ (IsBound a × (b.kind ≡ AtLeast) × (a.constant ≤ℤ b.constant) × IsParallel a b)
    ⊎ ((a.kind ≡ Zero) × (b.kind ≡ AtLeast) × (pos 0 ≤ℤ (a.constant +ℤ b.constant)) × IsOpposite a b)

-- the first row bounds a form from below, and the second from above, by less
abbrev pub IsAbove : Row → Row → Type 0
IsAbove a b = IsBound a × IsBound b × ((a.constant +ℤ b.constant) <ℤ pos 0) × IsOpposite a b

-- the first row is an equality, and the second bounds its form from below, by more
abbrev pub IsBelow : Row → Row → Type 0
IsBelow a b = (a.kind ≡ Zero) × IsBound b × (b.constant <ℤ a.constant) × IsParallel a b

-- no number of a form is left by both rows
abbrev pub Excludes : Row → Row → Type 0
Excludes a b = IsAbove a b ⊎ IsBelow a b ⊎ IsBelow b a

-- ---- two systems
-- each of the other rows is said by one of the rows
abbrev pub SayAll : List Row → List Row → Type 0
SayAll rows others = All (λ other. Any (λ row. Says row other) rows) others

-- one of the rows excludes one of the others
abbrev pub ExcludeOne : List Row → List Row → Type 0
ExcludeOne rows others = Any (λ other. Any (λ row. Excludes row other) rows) others

abbrev pub AreTold : List Row → List Row → Type 0
AreTold rows others = SayAll rows others ⊎ ExcludeOne rows others

-- of the rows of both systems over the columns of both
abbrev pub IsTold : System → System → Type 0
IsTold s other = AreTold (both_systems s (frame_of other)).rows (both_systems (frame_of s) other).rows
