-- The value of the pieces of first elements.
use Rattle.std.proofs.Common.{◌≡◌, ◌↔◌, sym, ap, subst, List, [], All, Any, get_or, map}
use Rattle.std.proofs.lemmas.List.Elements.{All-map}
use Rattle.isl_math.proofs.ListLaws.{All-unmapped}
use Rattle.isl_meter.specs.Gauge.{Gauge, IsCharged}
use Rattle.isl_space.specs.Element.{Element}
use Rattle.isl_space.specs.Name.{Name}
use Rattle.isl_space.specs.Names.{IsParameterList}
use Rattle.isl_space.specs.Valuation.{Valuation}
use Rattle.isl_piece.specs.Piece.{PieceView}
use Rattle.isl_piece.proofs.FormedLaws.{system_within_kept}
use Rattle.isl_union.specs.KeptValue.{KeptPiece, KeptValue, Has, HasElement, HasNoDefinitions, IsKeptValue}
use Rattle.isl_union.specs.Numbers.{IsWithinLimit}
use Rattle.isl_union.specs.Piece.{kept_piece, IsPieceOf}
use Rattle.isl_union.proofs.MinusLaws.{left_numbers}
use Rattle.isl_union.proofs.PieceLaws.{IsKeptValue-from_pieces}
use Rattle.isl_union.proofs.ValueLaws.{pieces_within}
use Rattle.isl_relation.specs.Extremes.{FirstHas, HasFirst, HasFirstEverywhere}
use Rattle.isl_blocks.specs.declared.cases.Direction.{Direction}
use Rattle.isl_extremes.specs.Pieces.{elements_of_all, order_of, ArePlainPieces}
use Rattle.isl_extremes.proofs.PiecesLaws.{first_same, pieces_plain_later, there_same}

abbrev IsPlain : KeptPiece → Type 0
IsPlain p = p.definitions ≡ []

-- ---- the pieces of a value without definitions
module _ (a flat : KeptValue) (params : List Name) (pieces : List PieceView) (names : params ≡ flat.params)
    (content : map kept_piece pieces ≡ flat.pieces) where
  pub flat_plain : (g h : Gauge) → IsCharged g h → All (IsPieceOf flat.params) pieces → IsWithinLimit g flat → HasNoDefinitions flat
      → ArePlainPieces h params pieces
  flat_plain g h charged sound small plain = pieces_plain_later g h params pieces charged (record {
    sound = subst (λ (n : List Name). All (IsPieceOf n) pieces) (sym names) sound;
    within = pieces_within g flat.params pieces flat.pieces sound content small;
    plain = All-unmapped IsPlain kept_piece pieces (subst (All IsPlain) (sym content) plain);
  })

  pub pieces_have : ((v : Valuation) (e : Element) → Has flat v e ↔ Has a v e) → (v : Valuation) (e : Element)
      → elements_of_all params pieces v e ↔ Has a v e
  pieces_have same v e = (
    (λ h. (same v e).0 (subst (Any (HasElement flat.params v e)) content
        (subst (λ (n : List Name). Any (HasElement n v e) (map kept_piece pieces)) names h))),
    (λ h. subst (λ (n : List Name). Any (HasElement n v e) (map kept_piece pieces)) (sym names)
        (subst (Any (HasElement flat.params v e)) (sym content) ((same v e).1 h))),
  )

  pub everywhere_from : (d : Direction) → ((v : Valuation) (e : Element) → Has flat v e ↔ Has a v e)
      → ((v : Valuation) → HasFirst (order_of d) (elements_of_all params pieces v)) → HasFirstEverywhere (order_of d) a
  everywhere_from d same there v = there_same d (elements_of_all params pieces v) (Has a v) (pieces_have same v) (there v)

  pub everywhere_to : (d : Direction) → ((v : Valuation) (e : Element) → Has flat v e ↔ Has a v e)
      → HasFirstEverywhere (order_of d) a → (v : Valuation) → HasFirst (order_of d) (elements_of_all params pieces v)
  everywhere_to d same there v =
      there_same d (Has a v) (elements_of_all params pieces v) (λ e. let p = pieces_have same v e in (p.1, p.0)) (there v)

-- ---- the value
module _ (params : List Name) (made : List PieceView) (value : KeptValue)
    (is : value ≡ record { params = params; pieces = map kept_piece made })
  where
    pub value_has : (d : Direction) (M N : Element → Type 0) (v : Valuation) (e : Element) → ((f : Element) → M f ↔ N f)
        → (elements_of_all params made v e ↔ FirstHas (order_of d) M e) → Has value v e ↔ FirstHas (order_of d) N e
    value_has d M N v e same told = rw is (
      (λ h. first_same d M N same e (told.0 h)),
      (λ h. told.1 (first_same d N M (λ f. let p = same f in (p.1, p.0)) e h)),
    )

    pub value_kept : IsParameterList params → All (IsPieceOf params) made → IsKeptValue value
    value_kept names sound = rw is (IsKeptValue-from_pieces params made names sound)

    pub value_small : (g h : Gauge) → IsCharged g h → ArePlainPieces h params made → IsWithinLimit g value
    value_small g h charged are =
        left_numbers g params made value are.sound
        (λ k e l. system_within_kept g h (get_or made k e).system (ap (λ (x : Gauge). x.bits) charged.same) (are.within k e l)) is

    pub value_plain : (h : Gauge) → ArePlainPieces h params made → HasNoDefinitions value
    value_plain h are = rw is (All-map IsPlain kept_piece made (λ k e l. are.plain k e l))
