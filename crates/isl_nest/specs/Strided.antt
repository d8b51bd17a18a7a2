-- public: sets that loops with steps go through: first numbers that the rows let be always go on. (Bastoul, code generation in the
-- polyhedral model; isl manual, on abstract syntax trees)
use Rattle.std.specs.Prelude.{◌≡◌, ◌≢◌, ◌⊎◌, ℕ, ◌+◌, ◌-◌, ◌<◌, ◌≤◌, ℤ, pos, ◌-ℤ◌, List, [], ◌∷◌, ◌++◌, All, AllPairs, length}
use Rattle.isl_piece.specs.declared.row.RowKind.TheVariants.{Divides, NotDivides}
use Rattle.isl_piece.specs.declared.row.Row.{Row}
use Rattle.isl_piece.specs.Row.{coef_at}
use Rattle.isl_nest.specs.Item.{named, HoldFront, HoldOwn}

-- the number of the last column behind so many parameters that the row names, counted from 1; 0 where it names none
abbrev pub level_of : ℕ → Row → ℕ
level_of params r = named r.coefs - params

-- the coefficient of the last column that the row names
abbrev pub last_coef : Row → ℤ
last_coef r = coef_at r (named r.coefs - 1)

-- Rows over parameters and so many columns behind them. No row says that a number does not divide, and of each level one at most says that
-- a number does, with 1 or k - 1 as the last coefficient. Where the rows of lower levels hold at first numbers there is a next number at
-- which those of its level hold.
pub record IsStrided (params levels : ℕ) (rows : List Row) : Type 0 where
  pub whole : All (λ r. r.kind ≢ NotDivides) rows
  pub one : AllPairs (λ r s. r.kind ≡ Divides → s.kind ≡ Divides → level_of params r ≡ level_of params s → level_of params r ≡ 0) rows
  pub unit : All (λ r. r.kind ≡ Divides → 0 < level_of params r → (last_coef r ≡ pos 1) ⊎ (last_coef r ≡ r.k -ℤ pos 1)) rows
  pub next : (front : List ℤ) → params ≤ length front → length front < params + levels → HoldFront rows front
      → (x : ℤ) × HoldOwn rows (front ++ x ∷ [])
