-- public: equations as two inequalities, and what may be left of rows. (isl manual, on simplification in a context)
use Rattle.std.specs.Prelude.{◌≡◌, ◌⊎◌, List, [], ◌∷◌, ◌++◌, negsuc, neg_ℤ}
use Rattle.isl_math.specs.Dot.{scaled}
use Rattle.isl_piece.specs.declared.row.RowKind.{RowKind}
use Rattle.isl_piece.specs.declared.row.RowKind.TheVariants.{Zero, AtLeast, Divides, NotDivides}
use Rattle.isl_piece.specs.declared.row.Row.{Row}
use Rattle.isl_piece.specs.Negation.{halves_of}
use Rattle.isl_piece.specs.Normal.{bound}

-- an equation says that its form is at least 0, and that its negative is
abbrev pub upper_half : Row → Row
upper_half r = bound r.coefs r.constant

abbrev pub lower_half : Row → Row
lower_half r = bound (scaled (negsuc 0) r.coefs) (neg_ℤ r.constant)

-- an equation as its two halves; each other row as itself
abbrev pub halves_by : RowKind → Row → List Row
halves_by Zero r = halves_of r
halves_by AtLeast r = r ∷ []
halves_by Divides r = r ∷ []
halves_by NotDivides r = r ∷ []

abbrev pub all_halves : List Row → List Row
all_halves [] = []
all_halves (r ∷ rows) = halves_by r.kind r ++ all_halves rows

-- what stands of one row: the row, nothing, or one half of it
abbrev pub IsWhatStands : Row → List Row → Type 0
IsWhatStands r left = (left ≡ r ∷ []) ⊎ (left ≡ []) ⊎ ((r.kind ≡ Zero) × ((left ≡ upper_half r ∷ []) ⊎ (left ≡ lower_half r ∷ [])))

-- the rows are some of these, in order
pub data AreSomeOf : List Row → List Row → Type 0 where
  none : AreSomeOf [] []
  more : {r : Row} {rows stands left : List Row} → IsWhatStands r stands → AreSomeOf rows left → AreSomeOf (r ∷ rows) (stands ++ left)
