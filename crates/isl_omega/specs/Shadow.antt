-- public: shadows of bounds on one column (Pugh, the Omega test): what a lower and an upper bound leave without the column.
use Rattle.std.specs.Prelude.{◌≡◌, ◌↔◌, ◌⊎◌, ℕ, ◌-◌, ℤ, pos, negsuc, neg_ℤ, ◌+ℤ◌, ◌-ℤ◌, ◌*ℤ◌, ◌≤ℤ◌, ◌<ℤ◌, List, ◌++◌, length, All, Any, Option, IfSome}
use Rattle.std.specs.List.{AllZip, insert}
use Rattle.isl_math.specs.Divide.{floor_div}
use Rattle.isl_meter.specs.Gauge.{Gauge, IsWithin}
use Rattle.isl_piece.specs.declared.row.RowKind.TheVariants.{AtLeast}
use Rattle.isl_piece.specs.declared.row.Row.{Row}
use Rattle.isl_piece.specs.Row.{HoldsRow, IsWellFormed, value_at, coef_at}
use Rattle.isl_omega.specs.Column.{IsFree, IsProper, HoldAt, rest_at}
use Rattle.isl_piece.specs.Combine.{combination}
use Rattle.isl_omega.specs.declared.shadow.Splinters.{Splinters}

-- a bound on x at a point of the other columns: `rest` is the value of what stands beside x
pub record Bound : Type 0 where
  pub factor : ℤ
  pub rest : ℤ

-- the factor is 1 or more
abbrev pub IsPositive : Bound → Type 0
IsPositive b = pos 0 <ℤ b.factor

-- a x + f >= 0
abbrev pub MeetsLower : ℤ → Bound → Type 0
MeetsLower x l = pos 0 ≤ℤ (l.factor *ℤ x +ℤ l.rest)

-- -b x + g >= 0
abbrev pub MeetsUpper : ℤ → Bound → Type 0
MeetsUpper x u = (u.factor *ℤ x) ≤ℤ u.rest

-- a g + b f, what a lower and an upper bound leave without x
abbrev pub together : Bound → Bound → ℤ
together l u = l.factor *ℤ u.rest +ℤ u.factor *ℤ l.rest

-- the real shadow of the pair: some rational x lies between
abbrev pub IsReal : Bound → Bound → Type 0
IsReal l u = pos 0 ≤ℤ together l u

-- (a - 1)(b - 1)
abbrev pub slack : Bound → Bound → ℤ
slack l u = (l.factor -ℤ pos 1) *ℤ (u.factor -ℤ pos 1)

-- the dark shadow of the pair: some whole x lies between
abbrev pub IsDark : Bound → Bound → Type 0
IsDark l u = slack l u ≤ℤ together l u

-- a - 1 less a / m rounded up: the last value of a lower bound of factor a in the splinters that a greatest upper factor m asks for
abbrev pub last_splinter : ℤ → ℤ → ℤ
last_splinter a m = a -ℤ pos 1 +ℤ floor_div (neg_ℤ a) m

-- a less a / m rounded up: the values 0 .. last_splinter a m
abbrev pub splinters : ℤ → ℤ → ℤ
splinters a m = a +ℤ floor_div (neg_ℤ a) m

-- z / d, rounded up
abbrev pub ceiling : ℤ → ℤ → ℤ
ceiling z d = neg_ℤ (floor_div (neg_ℤ z) d)

-- ---- rows as bounds
-- a row with a coefficient above 0 at the column, at a point of the other columns
abbrev pub lower_at : ℕ → List ℤ → Row → Bound
lower_at col point r = record { factor = coef_at r col; rest = rest_at r col point }

-- a row with a coefficient below 0
abbrev pub upper_at : ℕ → List ℤ → Row → Bound
upper_at col point r = record { factor = neg_ℤ (coef_at r col); rest = rest_at r col point }

-- ---- what the code makes of a pair
-- b times a lower bound of the factor a, plus a times an upper bound of the factor b: the column cancels
abbrev pub real_row : ℕ → Row → Row → Row
real_row col lower upper = combination (neg_ℤ (coef_at upper col)) lower (coef_at lower col) upper

-- a row without the column whose value, times d, is that of the pair's real row
pub record IsRealRow (columns col : ℕ) (lower upper : Row) (d : ℤ) (real : Row) : Type 0 where
  pub kind : real.kind ≡ AtLeast
  pub formed : IsWellFormed columns real
  pub gone : coef_at real col ≡ pos 0
  pub positive : pos 0 <ℤ d
  pub value : (xs : List ℤ) → value_at (real_row col lower upper) xs ≡ d *ℤ value_at real xs

-- a row without the column that holds exactly where the pair is dark
pub record IsDarkRow (columns col : ℕ) (lower upper dark : Row) : Type 0 where
  pub formed : IsWellFormed columns dark
  pub free : IsFree col dark
  pub is : (point : List ℤ) (x : ℤ) → length point ≡ columns - 1 → HoldsRow dark (insert point col x) ↔ IsDark (lower_at col point lower) (upper_at col point upper)

-- wherever the pair is real it is dark
abbrev pub IsExact : ℕ → ℕ → Row → Row → Type 0
IsExact columns col lower upper = (point : List ℤ) → length point ≡ columns - 1 → IsReal (lower_at col point lower) (upper_at col point upper) → IsDark (lower_at col point lower) (upper_at col point upper)

-- ---- where the sum of a pair is constant
-- wherever the bounds are met, the value of the lower one is at most `cap`
abbrev pub IsCap : ℕ → ℕ → Row → List Row → ℤ → Type 0
IsCap columns col lower uppers cap =
    (point : List ℤ) (x : ℤ) → length point ≡ columns - 1 → HoldsRow lower (insert point col x) → HoldAt uppers col point x → value_at lower (insert point col x) ≤ℤ cap

-- the bounds are met nowhere
abbrev pub AreNeverMet : ℕ → ℕ → List Row → List Row → Type 0
AreNeverMet columns col lowers uppers = (point : List ℤ) (x : ℤ) → length point ≡ columns - 1 → HoldAt lowers col point x → ¬ HoldAt uppers col point x

-- a last value that is at most the cap, if there is one, but -1 or more
pub record IsCapped (cap : Option ℤ) (last capped : ℤ) : Type 0 where
  pub not_below : negsuc 0 ≤ℤ last → negsuc 0 ≤ℤ capped
  pub small : negsuc 0 ≤ℤ last → capped ≤ℤ last
  pub covers : (v : ℤ) → v ≤ℤ last → IfSome cap (λ c. v ≤ℤ c) → v ≤ℤ capped

-- ---- what the code makes of a lower bound and all upper bounds
-- new rows, which hold exactly where the bound is dark with each upper bound; where a pair is not exact, its upper factor is at most
-- `greatest`, which is the least such number
pub record IsShadowSoFar (g : Gauge) (columns col : ℕ) (lower : Row) (uppers old new : List Row) (greatest : ℤ) : Type 0 where
  pub rows : List Row
  pub pushed : new ≡ old ++ rows
  pub proper : All (IsProper g columns) rows
  pub free : All (IsFree col) rows
  pub is : (point : List ℤ) (x : ℤ) → length point ≡ columns - 1 → HoldAt rows col point x ↔ All (λ u. IsDark (lower_at col point lower) (upper_at col point u)) uppers
  pub exact : All (λ u. IsExact columns col lower u ⊎ (neg_ℤ (coef_at u col) ≤ℤ greatest)) uppers
  pub not_negative : pos 0 ≤ℤ greatest
  pub least : (m : ℤ) → pos 0 ≤ℤ m → All (λ u. neg_ℤ (coef_at u col) ≤ℤ m) uppers → greatest ≤ℤ m

-- new rows, which hold only where the bound is dark with each upper bound; where they do not hold, the bound's value is at most `last`
pub record IsShadowOf (g : Gauge) (columns col : ℕ) (lower : Row) (uppers old new : List Row) (last : ℤ) : Type 0 where
  pub rows : List Row
  pub pushed : new ≡ old ++ rows
  pub proper : All (IsProper g columns) rows
  pub free : All (IsFree col) rows
  pub dark : (point : List ℤ) (x : ℤ) → length point ≡ columns - 1 → HoldAt rows col point x → All (λ u. IsDark (lower_at col point lower) (upper_at col point u)) uppers
  pub covered : (point : List ℤ) (x : ℤ) → length point ≡ columns - 1 → HoldsRow lower (insert point col x) → HoldAt uppers col point x → HoldAt rows col point x ⊎ (value_at lower (insert point col x) ≤ℤ last)
  pub not_below : negsuc 0 ≤ℤ last
  pub few : (m : ℤ) → pos 0 <ℤ m → All (λ u. neg_ℤ (coef_at u col) ≤ℤ m) uppers → (last +ℤ pos 1) ≤ℤ splinters (coef_at lower col) m

-- ---- what the code makes of all bounds
-- what the splinters of a bound of the factor a go further where moduli must not divide rows: a step for each neighbour
abbrev pub neighbour_splinters : ℤ → ℤ → ℤ
neighbour_splinters neighbours a = neighbours *ℤ a

-- a lower bound with the last value of its splinters
pub record AreSplintersOf (g : Gauge) (col : ℕ) (neighbours : ℤ) (uppers : List Row) (lower : Row) (tail : Splinters) : Type 0 where
  pub same : tail.lower ≡ lower
  pub within : IsWithin g tail.last
  pub not_below : (neighbour_splinters neighbours (coef_at lower col) -ℤ pos 1) ≤ℤ tail.last
  pub few : (m : ℤ) → pos 0 <ℤ m → All (λ u. neg_ℤ (coef_at u col) ≤ℤ m) uppers → (tail.last +ℤ pos 1) ≤ℤ (splinters (coef_at lower col) m +ℤ neighbour_splinters neighbours (coef_at lower col))

-- new rows of a lower bound and its tail
pub record LeavesSplinters (g : Gauge) (columns col : ℕ) (neighbours : ℤ) (lower : Row) (uppers old new : List Row) (tail : Splinters) : Type 0 where
  pub last : ℤ
  pub shadow : IsShadowOf g columns col lower uppers old new last
  pub same : tail.lower ≡ lower
  pub value : tail.last ≡ last +ℤ neighbour_splinters neighbours (coef_at lower col)
  pub within : IsWithin g tail.last

-- rows that hold only where each pair is dark, and a tail for each lower bound: where the bounds are met and the rows do not hold, some
-- lower bound's value is within its tail
pub record IsShadow (g : Gauge) (columns col : ℕ) (neighbours : ℤ) (lowers uppers rows : List Row) (tails : List Splinters) : Type 0 where
  pub proper : All (IsProper g columns) rows
  pub free : All (IsFree col) rows
  pub dark : (point : List ℤ) (x : ℤ) → length point ≡ columns - 1 → HoldAt rows col point x → All (λ l. All (λ u. IsDark (lower_at col point l) (upper_at col point u)) uppers) lowers
  pub covered : (point : List ℤ) (x : ℤ) → length point ≡ columns - 1 → HoldAt lowers col point x → HoldAt uppers col point x
      → HoldAt rows col point x ⊎ Any (λ t. (value_at t.lower (insert point col x) +ℤ neighbour_splinters neighbours (coef_at t.lower col)) ≤ℤ t.last) tails
  pub tails_are : AllZip (AreSplintersOf g col neighbours uppers) lowers tails
