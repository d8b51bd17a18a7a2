-- public: rows of which one holds exactly where a row does not.
use Rattle.std.specs.Prelude.{ℤ, pos, negsuc, neg_ℤ, ◌-ℤ◌, List, [], ◌∷◌, Any}
use Rattle.isl_math.specs.Dot.{scaled}
use Rattle.isl_meter.specs.Gauge.{Gauge, IsWithin}
use Rattle.isl_piece.specs.declared.row.RowKind.{RowKind}
use Rattle.isl_piece.specs.declared.row.RowKind.TheVariants.{Zero, AtLeast, Divides, NotDivides}
use Rattle.isl_piece.specs.declared.row.Row.{Row}
use Rattle.isl_piece.specs.Normal.{bound}

-- the form is above 0: f - 1 >= 0
abbrev pub above : List ℤ → ℤ → Row
above cs c = bound cs (c -ℤ pos 1)

-- the form is below 0: -f - 1 >= 0
abbrev pub below : List ℤ → ℤ → Row
below cs c = bound (scaled (negsuc 0) cs) (neg_ℤ c -ℤ pos 1)

abbrev pub negated_form : RowKind → List ℤ → ℤ → ℤ → List Row
negated_form Zero cs c k = above cs c ∷ below cs c ∷ []
negated_form AtLeast cs c k = below cs c ∷ []
negated_form Divides cs c k = record { kind = NotDivides; coefs = cs; constant = c; k = k } ∷ []
negated_form NotDivides cs c k = record { kind = Divides; coefs = cs; constant = c; k = k } ∷ []

-- the rows of which one holds exactly where the row does not
abbrev pub negation_of : Row → List Row
negation_of r = negated_form r.kind r.coefs r.constant r.k

-- the two halves of an equality: the form is at least 0, and at most 0
abbrev pub halves_of : Row → List Row
halves_of r = bound r.coefs r.constant ∷ bound (scaled (negsuc 0) r.coefs) (neg_ℤ r.constant) ∷ []

-- the constant of one of the rows passes the limit
abbrev pub ConstantPassesLimit : Gauge → List Row → Type 0
ConstantPassesLimit g rows = Any (λ r. ¬ IsWithin g r.constant) rows
