-- inner: where the search for the greatest list stands: at the numbers before one place, at the cases before one, and in one case.
-- (Feautrier, parametric integer programming)
use Rattle.std.specs.Prelude.{◌≡◌, ◌↔◌, ◌<◌, ℕ, ℤ, pos, ◌+ℤ◌, ◌≤ℤ◌, ◌<ℤ◌, List, [], ◌∷◌, ◌++◌, length, take, All, Option}
use Rattle.isl_piece.specs.Row.{HoldsRow}
use Rattle.isl_piece.specs.System.{HoldRows}
use Rattle.isl_greatest_law.specs.Case.{CaseView, At, Fits, InSome, IsSteep}
use Rattle.isl_greatest_law.specs.Front.{Begins, IsBest, LeadsBy}

-- some case holds exactly at the numbers that go on
abbrev pub IsLevel : (List ℤ → Type 0) → List ℤ → List ℤ → List CaseView → Type 0
IsLevel P v us cases = (z : ℤ) → InSome cases (v ++ us) z ↔ Begins P (us ++ z ∷ [])

-- the numbers lead, and the best of the cases before one is known
pub record IsOnLevel (P : List ℤ → Type 0) (v us : List ℤ) (cases : List CaseView) (number : ℕ) (best : Option ℤ) : Type 0 where
  pub leads : LeadsBy P us
  pub begins : 0 < length us → Begins P us
  pub found : IsBest (InSome (take number cases) (v ++ us)) best

-- no number of the case is above the present one, at and below which the first of the bounds hold
pub record IsBounding (c : CaseView) (q : List ℤ) (cur : ℤ) (next : ℕ) : Type 0 where
  pub high : (z : ℤ) → At c q z → z ≤ℤ cur
  pub hold : (z : ℤ) → z ≤ℤ cur → All (λ r. HoldsRow r (q ++ z ∷ [])) (take next c.tops)

-- no number of the case is above the present one, at and below which all bounds hold; some before it fail a congruence; at it the first of
-- the other rows hold, where nothing bounds the numbers all but bounds from below
pub record IsAsking (n : ℕ) (c : CaseView) (q : List ℤ) (cur tried : ℤ) (next : ℕ) : Type 0 where
  pub high : 0 < length c.tops → (z : ℤ) → At c q z → z ≤ℤ cur
  pub hold : (z : ℤ) → z ≤ℤ cur → HoldRows c.tops (q ++ z ∷ [])
  pub some : pos 0 ≤ℤ tried
  pub failed : (u : ℤ) → cur <ℤ u → u ≤ℤ (cur +ℤ tried) → ¬ Fits c q u
  pub asked : All (λ r. (length c.tops ≡ 0 → ¬ IsSteep n r) → HoldsRow r (q ++ cur ∷ [])) (take next c.others)
