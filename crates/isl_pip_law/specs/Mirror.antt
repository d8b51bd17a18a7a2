-- inner: systems whose last columns stand for negatives.
use Rattle.std.specs.Prelude.{◌≡◌, ◌↔◌, ℕ, zero, suc, ◌+◌, ℤ, pos, neg_ℤ, List, [], ◌∷◌, ◌++◌, length, map}
use Rattle.isl_meter.specs.Gauge.{Gauge}
use Rattle.isl_piece.specs.declared.row.Row.{Row}
use Rattle.isl_piece.specs.declared.system.System.{System}
use Rattle.isl_piece.specs.System.{HoldsSystem, IsSystemWithin, free_columns}

-- the numbers behind so many ones, negated
abbrev pub mirrored : ℕ → List ℤ → List ℤ
mirrored zero xs = map neg_ℤ xs
mirrored (suc n) [] = []
mirrored (suc n) (x ∷ xs) = x ∷ mirrored n xs

abbrev pub mirrored_row : ℕ → Row → Row
mirrored_row n r = record { kind = r.kind; coefs = mirrored n r.coefs; constant = r.constant; k = r.k }

-- the system holds where the other one does with the negatives of the numbers behind the front
pub record IsMirror (g : Gauge) (n : ℕ) (s made : System) : Type 0 where
  pub within : IsSystemWithin g made
  pub plain : made.definitions ≡ []
  pub columns : made.columns ≡ s.columns
  pub points : (v us : List ℤ) → length v ≡ n → HoldsSystem made (v ++ us) ↔ HoldsSystem s (v ++ map neg_ℤ us)

-- the system holds with 0 behind the points of the other one
pub record IsOneMore (g : Gauge) (s made : System) : Type 0 where
  pub within : IsSystemWithin g made
  pub plain : made.definitions ≡ []
  pub columns : made.columns ≡ s.columns + 1
  pub points : (v : List ℤ) (z : ℤ) → length v ≡ s.columns → HoldsSystem made (v ++ z ∷ []) ↔ (HoldsSystem s v × (z ≡ pos 0))
