-- Of difference constraints with a point it is always seen what the last column adds.
use Rattle.std.proofs.Common.{◌≡◌, ◌∙◌, inl, inr, sym, ap, subst, arith, ℕ, ◌+◌, ◌<◌}
use Rattle.std.proofs.Common.{ℤ, pos, ◌+ℤ◌, List, [], ◌∷◌, length, length-set, get_or, set, unsigned_abs}
use Rattle.std.specs.List.{All}
use Rattle.isl_ledger.proofs.ComparisonLaws.{coefficient_cases}
use Rattle.isl_piece.specs.declared.definition.Definition.{Definition}
use Rattle.isl_piece.specs.declared.row.Row.{Row}
use Rattle.isl_piece.specs.declared.row.RowKind.TheVariants.{Zero, AtLeast}
use Rattle.isl_piece.specs.declared.system.System.{System}
use Rattle.isl_piece.specs.Definition.{with_defined}
use Rattle.isl_math.proofs.ListLaws.{Any-one}
use Rattle.isl_piece.specs.Row.{HoldsRow, IsWellFormed, coef_at}
use Rattle.isl_piece.specs.System.{HoldRows, HoldsSystem}
use Rattle.isl_span.specs.Chain.{IsFreeAtLast, IsNoEquation, IsPlainChain, IsUnit, IsZeroOn}
use Rattle.isl_span.specs.Points.{IsPoint}
use Rattle.isl_span.proofs.EndLaws.{equation_holds}
use Rattle.isl_span.proofs.LinkLaws.{one_point, tight_zero}
use Rattle.isl_span.proofs.TightLaws.{free_loose}

-- without definitions a system is its rows
pub plain_holds : (s : System) (x : List ℤ) → s.definitions ≡ [] → HoldsSystem s x → HoldRows s.rows x
plain_holds s x plain h = subst (λ (ds : List Definition). HoldRows s.rows (with_defined ds x)) plain h

pub holds_plain : (s : System) (x : List ℤ) → s.definitions ≡ [] → HoldRows s.rows x → HoldsSystem s x
holds_plain s x plain h = subst (λ (ds : List Definition). HoldRows s.rows (with_defined ds x)) (sym plain) h

module _ (last bits : ℕ) (s : System) (plain : IsPlainChain (last + 1) bits s) (formed : All (IsWellFormed (last + 1)) s.rows)
    (zeros : All (λ r. r.kind ≡ Zero → IsNoEquation last (IsPoint (last + 1) (s ∷ [])) r) s.rows)
    (bounds : All (λ r. r.kind ≡ AtLeast → IsNoEquation last (IsPoint (last + 1) (s ∷ [])) r) s.rows) where
  undefined : s.definitions ≡ []
  undefined = plain.differences.undefined

  abbrev P : List ℤ → Type 0
  P = IsPoint (last + 1) (s ∷ [])

  -- a row holds at the points
  row_holds : (k : ℕ) (d : Row) → k < length s.rows → (x : List ℤ) → P x → HoldsRow (get_or s.rows k d) x
  row_holds k d low x at = plain_holds s x undefined (Any-one (λ t. HoldsSystem t x) s at.holds) k d low

  unnamed : (k : ℕ) (d : Row) → k < length s.rows → (get_or s.rows k d).kind ≡ Zero → coef_at (get_or s.rows k d) last ≡ pos 0
  unnamed k d low zero =
      let r = get_or s.rows k d in
      let c = plain.differences.rows k d low in
      let all : IsZeroOn P r = λ x at. (equation_holds r x zero).0 (row_holds k d low x at) in
      let never : IsUnit (coef_at r last) → ⊥ = λ unit. zeros k d low zero unit all in
      elim (coefficient_cases r.coefs c.first c.second last c.compares (let w = (formed k d low).width in omega (arith, w))) [
        | inl one ↦ absurd (never (ap unsigned_abs one.1))
        | inr rest ↦ elim rest [ inl minus ↦ absurd (never (ap unsigned_abs minus.1)) | inr none ↦ none ]
      ]

  pub free_seen : IsFreeAtLast last (IsPoint (last + 1) (s ∷ []))
  free_seen none = free_loose bits last s.rows (λ k d low. (formed k d low).width) plain.differences.rows
      (λ empty. plain.some (λ p long holds. empty p long (plain_holds s p undefined holds)))
      (λ k d low upper empty. bounds k d low upper.0 (ap unsigned_abs upper.1) (λ x at.
      tight_zero (last + 1) P (get_or s.rows k d) upper.0 (row_holds k d low)
      (λ p long both. empty p long (plain_holds s p undefined (Any-one (λ t. HoldsSystem t p) s both.0.holds), both.1)) x at.long at))
      unnamed
      (λ p long both. none p long (
        one_point (last + 1) s p long (holds_plain s p undefined both.0),
        one_point (last + 1) s (set p last (get_or p last (pos 0) +ℤ pos 1))
            (length-set p last (get_or p last (pos 0) +ℤ pos 1) ∙ long)
            (holds_plain s (set p last (get_or p last (pos 0) +ℤ pos 1)) undefined both.1),
      ))
