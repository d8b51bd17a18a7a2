-- A parameter set holds at a valuation where its literal has an element.
use Rattle.std.proofs.Common.{◌≡◌, ◌↔◌, subst, ◌^◌, ◌-◌, List, [], All, None, Option, refl}
use Rattle.isl_math.proofs.ListLaws.{Any-with}
use Rattle.isl_meter.specs.Gauge.{Gauge, IsCharged}
use Rattle.isl_space.specs.Element.{Element}
use Rattle.isl_space.specs.Form.{leaf}
use Rattle.isl_space.specs.Name.{Name}
use Rattle.isl_space.specs.SpaceForm.{SpaceForm, set_of}
use Rattle.isl_space.specs.Valuation.{Valuation}
use Rattle.isl_tree.specs.declared.tree.Tuple.{Tuple}
use Rattle.isl_tree.specs.declared.tree.Tuple.TheVariants.{Leaf}
use Rattle.isl_tree.specs.declared.tree.PieceTree.{PieceTree}
use Rattle.isl_tree.specs.declared.tree.Literal.{Literal}
use Rattle.isl_tree.specs.Literal.{BodyHolds, LiteralHas, PieceHas, form_of_tuple, space_of_piece, space_of_tuples}
use Rattle.isl_union.specs.KeptValue.{KeptPiece, KeptValue, Has}
use Rattle.isl_union.specs.Numbers.{IsPieceUpTo}
use Rattle.isl_union.proofs.MeetSteps.{charged_bits}
use Rattle.isl_assumed.specs.declared.assumed.Assumed.{Assumed}
use Rattle.isl_assumed.specs.Assumed.{Assumes}
use Rattle.isl_eval.specs.Params.{HasNoCoordinates, HoldsSome}

-- the space of `[]`, and its element
abbrev no_space : SpaceForm
no_space = set_of (leaf None 0)

abbrev no_element : Element
no_element = record { space = no_space; coordinates = [] }

-- ---- a piece of the tree
tree_space : (piece : PieceTree) → HasNoCoordinates piece → space_of_piece piece ≡ no_space
tree_space piece none = by piece.first piece.second none.first none.second
  where
    by : (first : Tuple) (second : Option Tuple) → first ≡ Leaf None [] → second ≡ None
        → space_of_tuples (form_of_tuple first) second ≡ no_space
    by first second one two = rw (one, two) refl

piece_body : (params : List Name) (v : Valuation) (e : Element) (piece : PieceTree) → HasNoCoordinates piece
    → PieceHas params v e piece → BodyHolds piece.body v
piece_body params v e piece none has = rw (none.first, none.second) at has.body

piece_there : (params : List Name) (v : Valuation) (piece : PieceTree) → HasNoCoordinates piece → BodyHolds piece.body v
    → PieceHas params v no_element piece
piece_there params v piece none holds = record {
  space = tree_space piece none;
  entries = rw (none.first, none.second) tt;
  body = rw (none.first, none.second) holds;
}

module _ (tree : Literal) (shape : All HasNoCoordinates tree.pieces) where
  body_of : (v : Valuation) (e : Element) → LiteralHas tree v e → HoldsSome tree v
  body_of v e a =
      Any-with (PieceHas tree.params v e) HasNoCoordinates (λ piece. BodyHolds piece.body v)
      (λ piece has none. piece_body tree.params v e piece none has) tree.pieces shape a

  there_of : (v : Valuation) → HoldsSome tree v → LiteralHas tree v no_element
  there_of v a =
      Any-with (λ piece. BodyHolds piece.body v) HasNoCoordinates (PieceHas tree.params v no_element)
      (λ piece holds none. piece_there tree.params v piece none holds) tree.pieces shape a

  -- some element is in the literal
  pub some_has : (v : Valuation) → ((e : Element) × LiteralHas tree v e) ↔ HoldsSome tree v
  some_has v = ((λ k. body_of v k.0 k.1), (λ h. (no_element, there_of v h)))

  -- what has the elements of the literal
  pub assumes : (value flat : KeptValue) (assumed : Assumed) (v : Valuation)
      → ((e : Element) → Has value v e ↔ LiteralHas tree v e) → ((e : Element) → Has flat v e ↔ Has value v e)
      → Assumes assumed v ↔ ((e : Element) × Has flat v e) → Assumes assumed v ↔ HoldsSome tree v
  assumes value flat assumed v lowered flattened are = (
    (λ a. let k = are.0 a in (some_has v).0 (k.0, (lowered k.0).0 ((flattened k.0).0 k.1))),
    (λ h. let k = (some_has v).1 h in are.1 (k.0, (flattened k.0).1 ((lowered k.0).1 k.1))),
  )

-- ---- meters
pub small_later : (g h : Gauge) (pieces : List KeptPiece) → IsCharged g h → All (IsPieceUpTo (2 ^ g.bits - 1)) pieces
    → All (IsPieceUpTo (2 ^ h.bits - 1)) pieces
small_later g h pieces charged all = subst (λ n. All (IsPieceUpTo (2 ^ n - 1)) pieces) (charged_bits g h charged) all
