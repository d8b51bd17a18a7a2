-- public: how many units elimination uses at most: one for each pair of bounds, each splinter and each residue. (Pugh, the Omega test)
use Rattle.std.specs.Prelude.{◌*◌, if◌then◌else◌, ℕ, ℤ, pos, neg_ℤ, ◌+ℤ◌, ◌-ℤ◌, ◌*ℤ◌, List, [], ◌∷◌, length}
use Rattle.std.specs.Int.{int_max}
use Rattle.std.specs.Ordering.{int_eq}
use Rattle.isl_math.specs.Divide.{floor_div}
use Rattle.isl_piece.specs.declared.row.RowKind.{RowKind}
use Rattle.isl_piece.specs.declared.row.RowKind.TheVariants.{Zero, AtLeast, Divides, NotDivides}
use Rattle.isl_piece.specs.declared.row.Row.{Row}
use Rattle.isl_piece.specs.Row.{coef_at}
use Rattle.isl_omega.specs.Sides.{on_side}
use Rattle.isl_omega.specs.declared.sides.Side.TheVariants.{Lower, Upper}

-- the greatest factor of upper bounds, and 0 where there is none
abbrev pub greatest_factor : ℕ → List Row → ℤ
greatest_factor col [] = pos 0
greatest_factor col (u ∷ uppers) = int_max (neg_ℤ (coef_at u col)) (greatest_factor col uppers)

-- the splinters of a lower bound of the factor a where the greatest upper factor is m
abbrev pub counted_splinters : ℤ → ℤ → ℤ
counted_splinters a m = floor_div (a *ℤ m -ℤ a -ℤ m) m +ℤ pos 1

-- those of lower bounds, with all factors times r
abbrev pub sum_of_splinters : ℕ → ℤ → ℤ → List Row → ℤ
sum_of_splinters col r m [] = pos 0
sum_of_splinters col r m (l ∷ lowers) = counted_splinters (coef_at l col *ℤ r) (m *ℤ r) +ℤ sum_of_splinters col r m lowers

-- none where there is no upper bound
abbrev pub all_splinters : ℕ → ℤ → List Row → List Row → ℤ
all_splinters col r lowers [] = pos 0
all_splinters col r lowers (u ∷ uppers) = sum_of_splinters col r (greatest_factor col (u ∷ uppers)) lowers

-- the number of pairs of a lower and an upper bound
abbrev pub pairs : List Row → List Row → ℤ
pairs lowers uppers = pos (length lowers * length uppers)

-- the modulus of a congruence in which the column occurs, and 1 of other rows
abbrev pub modulus_of : RowKind → ℤ → ℤ → ℤ
modulus_of Zero k c = pos 1
modulus_of AtLeast k c = pos 1
modulus_of Divides k c = if int_eq c (pos 0) then pos 1 else k
modulus_of NotDivides k c = if int_eq c (pos 0) then pos 1 else k

-- the product of the moduli of the congruences in which the column occurs
abbrev pub product_of_moduli : ℕ → List Row → ℤ
product_of_moduli col [] = pos 1
product_of_moduli col (r ∷ rows) = modulus_of r.kind r.k (coef_at r col) *ℤ product_of_moduli col rows

-- r (1 + l u + s), with the product r of the moduli, l lower and u upper bounds, and s splinters
abbrev pub units_of_bounds : ℕ → ℤ → List Row → List Row → ℤ
units_of_bounds col r lowers uppers = r *ℤ (pos 1 +ℤ pairs lowers uppers +ℤ all_splinters col r lowers uppers)

-- the most units that elimination of a column uses where no equality has it
abbrev pub elimination_units : List Row → ℕ → ℤ
elimination_units rows col = units_of_bounds col (product_of_moduli col rows) (on_side Lower col rows) (on_side Upper col rows)
