-- Two values over their joined parameters.
use Rattle.std.proofs.Common.{◌≡◌, sym, ap, ◌∙◌, subst, List, [], All, Contains, map, unsigned_abs}
use Rattle.std.proofs.lemmas.Simd.{map-map}
use Rattle.isl_math.proofs.ListLaws.{All-unmapped}
use Rattle.isl_meter.specs.Gauge.{Gauge, limit_of}
use Rattle.isl_space.specs.Name.{Name}
use Rattle.isl_space.specs.Names.{IsParameterList, joined}
use Rattle.isl_piece.specs.Piece.{PieceView}
use Rattle.isl_union.specs.KeptValue.{KeptPiece, KeptValue, IsKeptValue}
use Rattle.isl_union.specs.Minus.{ArePiecesOver, IsAlignedPair}
use Rattle.isl_union.specs.Moved.{aligned, aligned_pieces, moved}
use Rattle.isl_union.specs.Numbers.{IsWithinLimit}
use Rattle.isl_union.specs.Piece.{kept_piece, IsPieceOf}
use Rattle.isl_union.proofs.SizeLaws.{aligned_of_size, pieces_of_size}
use Rattle.isl_union.proofs.ValueLaws.{aligned_all_plain, aligned_have, aligned_small, first_in, pieces_within, second_in}

-- pieces over more parameters lie where they lay
aligned_spaces : (all : List Name) (value : KeptValue)
    → map (λ (p : KeptPiece). p.space) (aligned_pieces all value) ≡ map (λ (p : KeptPiece). p.space) value.pieces
unfolding moved
aligned_spaces all value = map-map (λ (p : KeptPiece). p.space) (aligned all value.params) value.pieces

pub over_made : (g : Gauge) (params : List Name) (value : KeptValue) (pieces : List PieceView) → IsKeptValue value → IsWithinLimit g value
    → All (Contains params) value.params → map kept_piece pieces ≡ aligned_pieces params value → All (IsPieceOf params) pieces
    → ArePiecesOver g params value pieces
over_made g params value pieces kept fits there is sound = record {
  sound = sound;
  within = pieces_within g params pieces (aligned_pieces params value) sound is
      (aligned_small g params value kept fits there (unsigned_abs (limit_of g)) fits);
  elements = λ v e. rw is (aligned_have g params value kept fits there v e);
  definitions = λ none.
      All-unmapped (λ (p : KeptPiece). p.definitions ≡ []) kept_piece pieces
      (rw is (aligned_all_plain g params value kept fits there none));
  spaces = sym (map-map (λ (p : KeptPiece). p.space) kept_piece pieces) ∙ ap (map (λ (p : KeptPiece). p.space)) is
      ∙ aligned_spaces params value;
  sizes = λ size of_size. pieces_of_size params size pieces (aligned_pieces params value) sound is
      (aligned_of_size g params value kept fits there size of_size);
}

pub pair_made : (g : Gauge) (a b : KeptValue) (params : List Name) (own others : List PieceView) → params ≡ joined a.params b.params
    → IsParameterList params → IsKeptValue a → IsKeptValue b → IsWithinLimit g a → IsWithinLimit g b
    → map kept_piece own ≡ aligned_pieces params a → All (IsPieceOf params) own
    → map kept_piece others ≡ aligned_pieces params b → All (IsPieceOf params) others → IsAlignedPair g a b params own others
pair_made g a b params own others names well p q h k first sound second other_sound = record {
  params = names;
  well_formed = well;
  own = over_made g params a own p h (subst (λ (l : List Name). All (Contains l) a.params) (sym names) (first_in a.params b.params)) first
      sound;
  others = over_made g params b others q k (subst (λ (l : List Name). All (Contains l) b.params) (sym names)
      (second_in a.params b.params p.params q.params)) second other_sound;
}
