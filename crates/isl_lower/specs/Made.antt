-- inner: the pieces that are made of pieces of a literal.
use Rattle.std.specs.Prelude.{◌≡◌, ◌↔◌, ℤ, ◌+◌, ◌≤◌, true, List, ◌++◌, All, Any, length, map, unsigned_abs}
use Rattle.std.specs.List.{filter_map, list_all}
use Rattle.isl_meter.specs.Gauge.{Gauge, limit_of}
use Rattle.isl_space.specs.Name.{Name}
use Rattle.isl_space.specs.Valuation.{Valuation, values_of}
use Rattle.isl_space.specs.Element.{Element}
use Rattle.isl_piece.specs.declared.system.System.{System}
use Rattle.isl_piece.specs.Piece.{PieceView}
use Rattle.isl_piece.specs.System.{IsSystemWithin, free_columns}
use Rattle.isl_elim.specs.Elimination.{HoldsAtAny}
use Rattle.isl_union.specs.KeptValue.{HasElement}
use Rattle.isl_union.specs.Live.{AreLiveOf}
use Rattle.isl_union.specs.Numbers.{IsPieceUpTo}
use Rattle.isl_union.specs.Piece.{kept_piece, IsPieceOf}
use Rattle.isl_tree.specs.declared.tree.PieceTree.{PieceTree}
use Rattle.isl_tree.specs.Literal.{piece_entries, piece_environment, BodyHolds, EntriesEqual, PieceHas}
use Rattle.isl_tree.specs.Plain.{is_plain_piece}
use Rattle.isl_lower.specs.Value.{piece_lowered}

-- over the parameters and the coordinates, and within the limit, some of the systems holds exactly where each entry of the piece equals
-- its coordinate and its formula holds
pub record AreSystemsOf (g : Gauge) (params : List Name) (piece : PieceTree) (systems : List System) : Type 0 where
  pub columns : All (λ s. free_columns s ≡ length params + length (piece_entries piece)) systems
  pub within : All (IsSystemWithin g) systems
  pub points : (valuation : Valuation) (xs : List ℤ) → length (piece_entries piece) ≡ length xs
      → HoldsAtAny systems (values_of params valuation ++ xs)
      ↔ (EntriesEqual (piece_entries piece) xs (piece_environment params piece xs valuation)
      × BodyHolds piece.body (piece_environment params piece xs valuation))

-- the pieces are ones of a value, within the limit, and have the elements of the literal's; those of plain ones are their normal rows,
-- where they have an element. There are no more than the literal's and as many as units were used
pub record AreMadeOf (g h : Gauge) (params : List Name) (pieces : List PieceTree) (made : List PieceView) : Type 0 where
  pub elements : (valuation : Valuation) (element : Element)
      → Any (HasElement params valuation element) (map kept_piece made) ↔ Any (PieceHas params valuation element) pieces
  pub plain : list_all is_plain_piece pieces ≡ true → AreLiveOf params (filter_map (piece_lowered params) pieces) (map kept_piece made)
  pub sound : All (IsPieceOf params) made
  pub small : All (IsPieceUpTo (unsigned_abs (limit_of g))) (map kept_piece made)
  pub few : length made + g.units ≤ h.units + length pieces
