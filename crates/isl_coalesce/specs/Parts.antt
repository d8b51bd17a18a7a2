-- public: what one piece keeps of its rows beside another: those that are true there. (isl manual, on coalescing)
use Rattle.std.specs.Prelude.{◌≡◌, ◌⊎◌, List, [], ◌∷◌, ◌++◌}
use Rattle.isl_piece.specs.declared.row.RowKind.{RowKind}
use Rattle.isl_piece.specs.declared.row.RowKind.TheVariants.{Zero}
use Rattle.isl_piece.specs.declared.row.Row.{Row}
use Rattle.isl_piece.specs.Negation.{halves_of}

-- the halves of an equation; no other row has any
abbrev pub halves_by : RowKind → Row → List Row
halves_by Zero r = halves_of r
halves_by _ r = []

abbrev pub halves : Row → List Row
halves r = halves_by r.kind r

-- those of the rows that are true, in order
abbrev pub AreThose : (Row → Type 0) → List Row → List Row → Type 0
AreThose True [] those = those ≡ []
AreThose True (r ∷ rows) those =
    (True r × (rest : List Row) × (those ≡ r ∷ rest) × AreThose True rows rest) ⊎ ((¬ True r) × AreThose True rows those)

-- what is kept of a row: the row where it is true; else those of its halves that are
abbrev pub IsPart : (Row → Type 0) → Row → List Row → Type 0
IsPart True r part = (True r × (part ≡ r ∷ [])) ⊎ ((¬ True r) × AreThose True (halves r) part)

-- what is kept of rows, in order
abbrev pub AreParts : (Row → Type 0) → List Row → List Row → Type 0
AreParts True [] parts = parts ≡ []
AreParts True (r ∷ rows) parts =
    (own : List Row) × (rest : List Row) × IsPart True r own × AreParts True rows rest × (parts ≡ own ++ rest)
