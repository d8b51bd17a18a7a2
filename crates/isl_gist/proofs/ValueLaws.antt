-- The gist of a value.
use Rattle.std.proofs.Common.{◌≡◌, ◌↔◌, refl, sym, subst, ℕ, List, [], All, Contains, map}
use Rattle.isl_math.proofs.ListLaws.{All-unmapped}
use Rattle.isl_meter.specs.Gauge.{Gauge}
use Rattle.isl_space.specs.Element.{Element}
use Rattle.isl_space.specs.Name.{Name}
use Rattle.isl_space.specs.Names.{joined}
use Rattle.isl_space.specs.Valuation.{Valuation}
use Rattle.isl_piece.specs.Piece.{PieceView}
use Rattle.isl_union.specs.KeptValue.{KeptPiece, KeptValue, Has, HasNoDefinitions, IsKeptValue}
use Rattle.isl_union.specs.Moved.{aligned_pieces}
use Rattle.isl_union.specs.Numbers.{HasNumbersUpTo, IsWithinLimit}
use Rattle.isl_union.specs.Piece.{kept_piece}
use Rattle.isl_union.proofs.ValueLaws.{aligned_all_plain, aligned_have, aligned_small}
use Rattle.isl_gist.specs.Gist.{value_over, IsGistOf}
use Rattle.isl_gist.specs.Pieces.{AreLeftOver}

-- the pieces define no column where the value defines none
pub own_plain : (g : Gauge) (params : List Name) (a : KeptValue) (own : List PieceView) → IsKeptValue a → IsWithinLimit g a
    → All (Contains params) a.params → map kept_piece own ≡ aligned_pieces params a → HasNoDefinitions a
    → All (λ p. p.system.definitions ≡ []) own
own_plain g params a own kept fits there is none =
    All-unmapped (λ (p : KeptPiece). p.definitions ≡ []) kept_piece own
    (subst (All (λ (p : KeptPiece). p.definitions ≡ [])) (sym is) (aligned_all_plain g params a kept fits there none))

module _ (a context : KeptValue) (params : List Name) (own others left : List PieceView) (gist : KeptValue)
    (names : params ≡ joined a.params context.params)
    (first : map kept_piece own ≡ aligned_pieces params a) (second : map kept_piece others ≡ aligned_pieces params context)
    (over : AreLeftOver params (map kept_piece others) (map kept_piece own) left)
    (made : gist ≡ record { params = params; pieces = map kept_piece left }) where
  aligned_over : AreLeftOver params (aligned_pieces params context) (aligned_pieces params a) left
  aligned_over = subst (λ l. AreLeftOver params (aligned_pieces params context) l left) first
      (subst (λ l. AreLeftOver params l (map kept_piece own) left) second over)

  pub gist_is : IsGistOf (value_over (joined a.params context.params) a) (value_over (joined a.params context.params) context) gist
  gist_is = subst (λ l. IsGistOf (value_over l a) (value_over l context) gist) names (rw made (record {
    params = refl;
    pieces = aligned_over.gist;
    elements = λ v e has. aligned_over.elements v e has;
  }))

  module _ (g : Gauge) (kept : IsKeptValue a) (fits : IsWithinLimit g a) (there : All (Contains params) a.params) where
    pub gist_small : (most : ℕ) → HasNumbersUpTo most a → HasNumbersUpTo most gist
    gist_small most h = rw made (aligned_over.numbers most (aligned_small g params a kept fits there most h))

    pub gist_has : IsKeptValue context → IsWithinLimit g context → All (Contains params) context.params → (v : Valuation) (e : Element)
        → Has context v e → Has gist v e ↔ Has a v e
    gist_has also within inside v e has =
        let here = aligned_over.elements v e ((aligned_have g params context also within inside v e).1 has) in
        let own_has = aligned_have g params a kept fits there v e in
        rw made ((λ x. own_has.0 (here.0 x)), (λ x. here.1 (own_has.1 x)))

  pub gist_plain : HasNoDefinitions gist
  gist_plain = rw made over.definitions
