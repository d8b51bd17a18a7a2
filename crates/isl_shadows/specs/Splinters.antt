-- public: the dark shadow of rows, which is without the column, and splinters: what a number at the column meets beside it. (Pugh, the Omega test)
use Rattle.std.specs.Prelude.{◌≡◌, map, ℕ, ◌-◌, ℤ, pos, negsuc, neg_ℤ, ◌+ℤ◌, ◌-ℤ◌, ◌*ℤ◌, ◌≤ℤ◌, ◌<ℤ◌, List, [], ◌∷◌, ◌++◌, length, All, Option, MatchOption}
use Rattle.std.specs.List.{insert}
use Rattle.isl_meter.specs.Gauge.{Gauge, IsWithin}
use Rattle.isl_piece.specs.declared.row.Row.{Row}
use Rattle.isl_piece.specs.Row.{value_at, coef_at}
use Rattle.isl_piece.specs.System.{HoldRows}
use Rattle.isl_omega.specs.Column.{HoldAt}
use Rattle.isl_omega.specs.Shadow.{splinters, neighbour_splinters, IsShadow}
use Rattle.isl_omega.specs.Sides.{IsLower, IsUpper}
use Rattle.isl_omega.specs.declared.shadow.Splinters.{Splinters}
use Rattle.isl_omega.specs.declared.sides.Sides.{Sides}

-- the rows of the dark shadow hold at the point
abbrev pub HoldsDark : Option (List Row) → List ℤ → Type 0
HoldsDark dark point = MatchOption dark ⊥ (λ rows. HoldRows rows point)

-- some x at the column makes the rows hold, with the value of the tail's bound within the tail
abbrev pub HasSplinter : List Row → ℕ → List ℤ → Splinters → Type 0
HasSplinter rows col point t = (x : ℤ) × HoldAt rows col point x × (value_at t.lower (insert point col x) ≤ℤ t.last)

-- the rows hold only where the bound is met
abbrev pub KeepBound : ℕ → ℕ → List Row → Row → Type 0
KeepBound columns col rows bound = (point : List ℤ) (x : ℤ) → length point ≡ columns - 1 → HoldAt rows col point x → pos 0 ≤ℤ value_at bound (insert point col x)

-- a lower bound with the last value of its splinters
pub record AreSplinters (g : Gauge) (columns col : ℕ) (t : Splinters) : Type 0 where
  pub lower : IsLower g columns col t.lower
  pub within : IsWithin g t.last
  pub not_below : negsuc 0 ≤ℤ t.last

-- how many splinters tails have
abbrev pub splinter_count : List Splinters → ℤ
splinter_count [] = pos 0
splinter_count (t ∷ tails) = (t.last +ℤ pos 1) +ℤ splinter_count tails

-- ---- inside
-- the rows of all sides but the congruences
abbrev pub rows_of : Sides → List Row
rows_of sides = ((sides.lowers ++ sides.uppers) ++ sides.not_divides) ++ sides.free

-- an upper bound that holds with x at the column where the old one holds with so many whole numbers behind x too
abbrev pub shifted_row : ℤ → ℕ → Row → Row
shifted_row neighbours col u = record { kind = u.kind; coefs = u.coefs; constant = u.constant -ℤ neighbours *ℤ neg_ℤ (coef_at u col); k = u.k }

-- some x at the column makes the rows hold, with the value i of the bound
abbrev pub HasValue : List Row → ℕ → Row → ℤ → List ℤ → Type 0
HasValue rows col bound i point = (x : ℤ) × HoldAt rows col point x × (value_at bound (insert point col x) ≡ i)

-- ---- one splinter after another
-- the splinters without the last
abbrev pub without_last : Splinters → Splinters
without_last t = record { lower = t.lower; last = t.last -ℤ pos 1 }

-- ---- how many splinters bounds ask for
-- the splinters of lower bounds under a greatest upper factor m, further for each neighbour
abbrev pub splinter_total : ℤ → ℤ → ℕ → List Row → ℤ
splinter_total neighbours m col [] = pos 0
splinter_total neighbours m col (l ∷ lowers) =
    (splinters (coef_at l col) m +ℤ neighbour_splinters neighbours (coef_at l col)) +ℤ splinter_total neighbours m col lowers

-- the tails have no more splinters than the bounds ask for
abbrev pub HasFewSplinters : ℤ → ℕ → Sides → List Splinters → Type 0
HasFewSplinters neighbours col sides tails =
    (m : ℤ) → pos 0 <ℤ m → All (λ u. neg_ℤ (coef_at u col) ≤ℤ m) sides.uppers → splinter_count tails ≤ℤ splinter_total neighbours m col sides.lowers

-- ---- what the code makes
-- the dark rows of the lower bounds with the shifted upper bounds, and a tail for each lower bound
pub record AreShadowsOf (g : Gauge) (columns col : ℕ) (neighbours : ℤ) (sides : Sides) (rows : List Row) (tails : List Splinters) : Type 0 where
  pub uppers : All (IsUpper g columns col) (map (shifted_row neighbours col) sides.uppers)
  pub shadow : IsShadow g columns col neighbours sides.lowers (map (shifted_row neighbours col) sides.uppers) rows tails
