-- inner: the hulls of spaces, one after another.
use Rattle.std.specs.Prelude.{◌≡◌, ◌≢◌, ◌↔◌, Option, MatchOption, List, [], All, AllPairs, Any}
use Rattle.isl_meter.specs.Gauge.{Gauge}
use Rattle.isl_space.specs.Element.{Element}
use Rattle.isl_space.specs.SpaceForm.{SpaceForm}
use Rattle.isl_space.specs.Valuation.{Valuation}
use Rattle.isl_piece.specs.declared.row.RowKind.TheVariants.{Zero}
use Rattle.isl_piece.specs.Piece.{PieceView}
use Rattle.isl_piece.specs.System.{IsSystemWithin}
use Rattle.isl_union.specs.KeptValue.{KeptValue, Has, HasElement, columns_of}
use Rattle.isl_union.specs.Piece.{kept_piece, IsPieceOf}
use Rattle.isl_span.specs.Independent.{AreIndependent}
use Rattle.isl_hull.specs.Hull.{HasNoneIn, HullHas}

-- the piece is the hull of the value in its space
pub record IsHullPiece (g : Gauge) (value : KeptValue) (piece : PieceView) : Type 0 where
  pub sound : IsPieceOf value.params piece
  pub within : IsSystemWithin g piece.system
  pub plain : piece.system.definitions ≡ []
  pub equations : All (λ r. r.kind ≡ Zero) piece.system.rows
  pub independent : AreIndependent (columns_of value.params piece.space) piece.system.rows
  pub elements : (valuation : Valuation) (element : Element) → HasElement value.params valuation element (kept_piece piece)
      ↔ ((piece.space ≡ element.space) × HullHas value.params (Has value) valuation element)

-- what was found is the hull of the value in the space; nothing where the value has no element there
abbrev pub IsHullIn : Gauge → KeptValue → SpaceForm → Option PieceView → Type 0
IsHullIn g value space found =
    MatchOption found (HasNoneIn (Has value) space) (λ piece. (piece.space ≡ space) × IsHullPiece g value piece)

-- the hulls of the value in those of the spaces in which it has elements
pub record AreHullsIn (g : Gauge) (value : KeptValue) (spaces : List SpaceForm) (hulls : List PieceView) : Type 0 where
  pub each : All (IsHullPiece g value) hulls
  pub only : All (λ piece. Any (λ space. space ≡ piece.space) spaces) hulls
  pub once : AllPairs (λ p q. p.space ≢ q.space) hulls
  pub all : All (λ space. ¬ HasNoneIn (Has value) space → Any (λ piece. piece.space ≡ space) hulls) spaces
