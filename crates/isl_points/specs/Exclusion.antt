-- inner: rows over one column whose modulus must not divide, and whether they exclude a number.
use Rattle.std.specs.Prelude.{◌≡◌, ◌⊎◌, ℤ, List, [], ◌∷◌, ◌++◌}
use Rattle.isl_piece.specs.declared.row.RowKind.TheVariants.{NotDivides}
use Rattle.isl_piece.specs.declared.row.Row.{Row}
use Rattle.isl_piece.specs.Row.{HoldsRow}

-- the row holds at the number x of its only column, where its modulus must not divide it
abbrev pub MeetsExclusion : ℤ → Row → Type 0
MeetsExclusion x r = r.kind ≡ NotDivides → HoldsRow r (x ∷ [])

-- x was tried: it is listed where it is one of E
abbrev pub IsTried : (E : Type 0) → ℤ → List ℤ → List ℤ → Type 0
IsTried E x old new = (E × (new ≡ old ++ x ∷ [])) ⊎ ((¬ E) × (new ≡ old))
