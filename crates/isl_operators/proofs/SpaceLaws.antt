-- Whether some piece of a value is of maps, and some of sets.
use Rattle.std.proofs.Common.{◌≡◌, ◌↔◌, refl, sym, subst, Any, List, map}
use Rattle.isl_math.proofs.ListLaws.{Any-contains, Any-element, Any-unmapped}
use Rattle.isl_space.specs.Form.{Form}
use Rattle.isl_space.specs.SpaceForm.{SpaceForm, set_of, map_of}
use Rattle.isl_piece.specs.Piece.{PieceView}
use Rattle.isl_union.specs.KeptValue.{KeptPiece, KeptValue}
use Rattle.isl_union.specs.Piece.{kept_piece}
use Rattle.isl_union.proofs.AlignedLaws.{Any-mapped}
use Rattle.isl_relation.specs.Wide.{IsLiveIn}
use Rattle.isl_operators.specs.Made.{HasMaps, HasSets}

abbrev pub IsOfMaps : SpaceForm → Type 0
IsOfMaps space = (x : Form) × (y : Form) × (space ≡ map_of x y)

abbrev pub IsOfSets : SpaceForm → Type 0
IsOfSets space = (x : Form) × (space ≡ set_of x)

module _ (value : KeptValue) (pieces : List PieceView) (are : map kept_piece pieces ≡ value.pieces) where
  some_live : (P : SpaceForm → Type 0) → Any (λ p. P p.space) pieces → (space : SpaceForm) × P space × IsLiveIn value space
  some_live P some =
      let one = Any-element (λ (p : PieceView). P p.space) pieces some in
      let Q : KeptPiece → Type 0 = λ q. q.space ≡ one.0.space in (
        one.0.space,
        one.2,
        subst (Any Q) are (Any-mapped Q kept_piece pieces (Any-contains (λ (p : PieceView). Q (kept_piece p)) pieces one.0 one.1 refl)),
      )

  live_some : (P : SpaceForm → Type 0) (space : SpaceForm) → P space → IsLiveIn value space → Any (λ p. P p.space) pieces
  live_some P space holds live =
      let Q : KeptPiece → Type 0 = λ q. q.space ≡ space in
      let found = Any-unmapped Q kept_piece pieces (subst (Any Q) (sym are) live) in
      let one = Any-element (λ (p : PieceView). Q (kept_piece p)) pieces found in
      Any-contains (λ (p : PieceView). P p.space) pieces one.0 one.1 (subst P (sym one.2) holds)

  pub maps_exactly : Any (λ p. IsOfMaps p.space) pieces ↔ HasMaps value
  maps_exactly = (
    (λ some. let one = some_live IsOfMaps some in (one.1.0, one.1.1, subst (IsLiveIn value) one.1.2 one.2)),
    (λ maps. live_some IsOfMaps (map_of maps.0 maps.1) (maps.0, maps.1, refl) maps.2),
  )

  pub sets_exactly : Any (λ p. IsOfSets p.space) pieces ↔ HasSets value
  sets_exactly = (
    (λ some. let one = some_live IsOfSets some in (one.1.0, subst (IsLiveIn value) one.1.1 one.2)),
    (λ sets. live_some IsOfSets (set_of sets.0) (sets.0, refl) sets.1),
  )
