-- The trees of spaces, one after another.
use Rattle.std.proofs.Common.{◌≡◌, refl, sym, ap, ◌∙◌, subst, ℕ, List, [], ◌∷◌, ◌++◌, map}
use Rattle.std.specs.List.{All}
use Rattle.std.proofs.lemmas.List.{map-append}
use Rattle.std.proofs.lemmas.List.Elements.{All-nil, All-push, All-weaker}
use Rattle.isl_meter.specs.Gauge.{Gauge, IsCharged}
use Rattle.isl_meter.proofs.CutLemmas.{IsCharged_trans}
use Rattle.isl_space.specs.Name.{Name}
use Rattle.isl_space.specs.SpaceForm.{SpaceForm}
use Rattle.isl_piece.specs.Piece.{PieceView}
use Rattle.isl_quast.specs.declared.tree.Quast.{Quast}
use Rattle.isl_quast.specs.ForestText.{SpaceTree}
use Rattle.isl_greatest.proofs.KeptLaws.{bits_of, quast_kept}
use Rattle.isl_pip.specs.Least.{front_width, leaf_width}
use Rattle.isl_pip.specs.Trees.{IsTreeIn, ThereIsFirst}

abbrev pub space_of : SpaceTree → SpaceForm
space_of t = t.space

-- spaces were looked at
pub record AreSoFar (g h : Gauge) (params : List Name) (pieces : List PieceView) (forms : List SpaceForm) (made : List SpaceTree) : Type 0 where
  pub charged : IsCharged g h
  pub spaces : map space_of made ≡ forms
  pub trees : All (λ t. IsTreeIn g params pieces t.space t.tree) made
  pub there : All (ThereIsFirst params pieces) forms

pub so_far_none : (g h : Gauge) (params : List Name) (pieces : List PieceView) (trees : List SpaceTree) → IsCharged g h → trees ≡ []
    → AreSoFar g h params pieces [] trees
so_far_none g h params pieces trees charged is = subst (AreSoFar g h params pieces []) (sym is) (record {
  charged = charged;
  spaces = refl;
  trees = All-nil (λ (t : SpaceTree). IsTreeIn g params pieces t.space t.tree);
  there = All-nil (ThereIsFirst params pieces);
})

-- a tree that is made under a later meter
pub tree_kept : (g h : Gauge) (params : List Name) (pieces : List PieceView) (space : SpaceForm) (tree : Quast) → IsCharged g h
    → IsTreeIn h params pieces space tree → IsTreeIn g params pieces space tree
tree_kept g h params pieces space tree charged made = record {
  gives = made.gives;
  over = quast_kept h g (sym (bits_of g h charged)) (front_width params space) tree made.over;
  width = made.width;
}

pub trees_kept : (g h : Gauge) (params : List Name) (pieces : List PieceView) (trees : List SpaceTree) → IsCharged g h
    → All (λ (t : SpaceTree). IsTreeIn h params pieces t.space t.tree) trees → All (λ (t : SpaceTree). IsTreeIn g params pieces t.space t.tree) trees
trees_kept g h params pieces trees charged all =
    All-weaker (λ (t : SpaceTree). IsTreeIn h params pieces t.space t.tree) (λ (t : SpaceTree). IsTreeIn g params pieces t.space t.tree)
    (λ t made. tree_kept g h params pieces t.space t.tree charged made) trees all

pub so_far_more : (g h k : Gauge) (params : List Name) (pieces : List PieceView) (spaces : List SpaceForm) (space : SpaceForm)
    (trees all : List SpaceTree) (tree : Quast) (t : SpaceTree) → AreSoFar g h params pieces spaces trees → IsCharged h k
    → IsTreeIn h params pieces space tree → ThereIsFirst params pieces space → t ≡ record { space = space; tree = tree } → all ≡ trees ++ t ∷ []
    → AreSoFar g k params pieces (spaces ++ space ∷ []) all
so_far_more g h k params pieces spaces space trees all tree t so_far charged made there own is =
    let one : SpaceTree = record { space = space; tree = tree } in
    subst (AreSoFar g k params pieces (spaces ++ space ∷ [])) (sym (is ∙ ap (λ (x : SpaceTree). trees ++ x ∷ []) own)) (record {
      charged = IsCharged_trans g h k so_far.charged charged;
      spaces = map-append space_of trees (one ∷ []) ∙ ap (λ l. l ++ space ∷ []) so_far.spaces;
      trees = All-push (λ (x : SpaceTree). IsTreeIn g params pieces x.space x.tree) trees one so_far.trees
          (tree_kept g h params pieces space tree so_far.charged made);
      there = All-push (ThereIsFirst params pieces) spaces space so_far.there there;
    })
