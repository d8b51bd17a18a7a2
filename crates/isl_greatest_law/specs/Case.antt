-- public: rows taken apart by what they say of their last number. (Feautrier, parametric integer programming)
use Rattle.std.specs.Prelude.{◌≡◌, ◌⊎◌, ℕ, ◌+◌, ℤ, pos, ◌≤ℤ◌, ◌<ℤ◌, List, [], ◌∷◌, ◌++◌, All, Any}
use Rattle.isl_math.specs.Divide as divide
use Rattle.isl_piece.specs.declared.row.RowKind.TheVariants.{AtLeast, Divides, NotDivides}
use Rattle.isl_piece.specs.declared.row.Row.{Row}
use Rattle.isl_piece.specs.Row.{coef_at, HoldsRow, IsWellFormed}
use Rattle.isl_piece.specs.System.{HoldRows}

-- a form that is to be at least 0
abbrev pub IsBound : Row → Type 0
IsBound r = r.kind ≡ AtLeast

-- a form that is to be a multiple, or none
abbrev pub IsCongruence : Row → Type 0
IsCongruence r = (r.kind ≡ Divides) ⊎ (r.kind ≡ NotDivides)

-- the row bounds its last number, which stands behind n others, from above
pub record IsTop (n : ℕ) (r : Row) : Type 0 where
  pub formed : IsWellFormed (n + 1) r
  pub bound : IsBound r
  pub falls : coef_at r n <ℤ pos 0

-- a bound that is none from above
pub record IsRising (n : ℕ) (r : Row) : Type 0 where
  pub bound : IsBound r
  pub rises : pos 0 ≤ℤ coef_at r n

-- a bound from below
pub record IsSteep (n : ℕ) (r : Row) : Type 0 where
  pub bound : IsBound r
  pub rises : pos 0 <ℤ coef_at r n

-- a row that does not bound its last number from above
pub record IsOther (n : ℕ) (r : Row) : Type 0 where
  pub formed : IsWellFormed (n + 1) r
  pub says : IsRising n r ⊎ IsCongruence r

-- rows that are bounds of the last number from above, other rows, and a number that all moduli of these divide
pub record CaseView : Type 0 where
  pub tops : List Row
  pub others : List Row
  pub period : ℤ

pub record IsCase (n : ℕ) (c : CaseView) : Type 0 where
  pub tops : All (IsTop n) c.tops
  pub others : All (IsOther n) c.others
  pub period : pos 0 <ℤ c.period
  pub divides : All (λ r. IsCongruence r → divide.Divides r.k c.period) c.others

-- all rows hold
pub record HoldsCase (c : CaseView) (point : List ℤ) : Type 0 where
  pub tops : HoldRows c.tops point
  pub others : HoldRows c.others point

-- with this number behind those of q
abbrev pub At : CaseView → List ℤ → ℤ → Type 0
At c q z = HoldsCase c (q ++ z ∷ [])

-- of some of the cases
abbrev pub InSome : List CaseView → List ℤ → ℤ → Type 0
InSome cases q z = Any (λ c. At c q z) cases

-- the congruences hold
abbrev pub Fits : CaseView → List ℤ → ℤ → Type 0
Fits c q z = All (λ r. IsCongruence r → HoldsRow r (q ++ z ∷ [])) c.others
