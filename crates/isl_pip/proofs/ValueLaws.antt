-- The trees of a value from those of its pieces.
use Rattle.std.proofs.Common.{◌≡◌, ◌↔◌, refl, sym, ap, ◌∙◌, subst, arith, ◌+◌, ◌<◌, ◌≤◌, ℕ, ℤ, List, [], ◌∷◌, ◌++◌, All, Any, get_or, length, map, take, Option}
use Rattle.std.proofs.lemmas.List.{length-map, map-append, take_all, take_more}
use Rattle.std.proofs.lemmas.List.Elements.{All-nil, All-push, All-weaker}
use Rattle.isl_math.proofs.ListLaws.{All-unmapped, Any-unmapped, Any-weaker}
use Rattle.isl_meter.specs.Gauge.{Gauge, IsCharged}
use Rattle.isl_space.specs.Element.{Element}
use Rattle.isl_space.specs.Name.{Name}
use Rattle.isl_space.specs.SpaceForm.{SpaceForm, set_of, map_of, IsWellFormedSpace}
use Rattle.isl_space.specs.Valuation.{Valuation, values_of}
use Rattle.isl_piece.specs.Piece.{PieceView}
use Rattle.isl_piece.proofs.FormedLaws.{system_within_kept}
use Rattle.isl_union.specs.KeptValue.{KeptPiece, KeptValue, Has, HasElement, HasNoDefinitions, columns_of}
use Rattle.isl_union.specs.Numbers.{IsWithinLimit}
use Rattle.isl_union.specs.Piece.{kept_piece, IsPieceOf}
use Rattle.isl_union.proofs.ValueLaws.{pieces_within}
use Rattle.isl_relation.specs.Extremes.{HasFirst, HasFirstEverywhere, IsFirstImage, IsFirstOf}
use Rattle.isl_relation.specs.Orders.{ComesBefore}
use Rattle.isl_relation.specs.Point.{Point, HasPoint, Relates, map_element, set_element}
use Rattle.isl_row_text.specs.Ordered.{in_order}
use Rattle.isl_by_space.specs.Spaces.{each_once, AreSpacesOf}
use Rattle.isl_quast.specs.declared.tree.Quast.{Quast}
use Rattle.isl_quast.specs.ForestText.{ForestView, SpaceTree}
use Rattle.isl_quast.specs.Tree.{quast_at}
use Rattle.isl_pip.specs.Least.{space_before, AreTreesWithin, GivesFirst, IsForestOf, IsLeastImageTree}
use Rattle.isl_pip.specs.Trees.{elements_of, AreOrderedSpaces, ArePlainPieces, HasFirstIn, IsTreeIn, ThereIsFirst}
use Rattle.isl_pip.proofs.OrderLaws.{all_in_order, any_in_order}

abbrev IsPlain : KeptPiece → Type 0
IsPlain p = p.definitions ≡ []

-- what is within the limit at one time is so at a later one
pub pieces_later : (g h : Gauge) (params : List Name) (pieces : List PieceView) → IsCharged g h → ArePlainPieces g params pieces
    → ArePlainPieces h params pieces
pieces_later g h params pieces charged p = record {
  sound = p.sound;
  within = λ k e l. system_within_kept h g (get_or pieces k e).system (sym (ap (λ (x : Gauge). x.bits) charged.same)) (p.within k e l);
  plain = p.plain;
}

-- ---- the same elements
module _ (M N : Element → Type 0) (same : (f : Element) → M f ↔ N f) where
  point_same : (x : Point) → HasPoint M x → HasPoint N x
  point_same x has = record { point = has.point; has = (same (set_element x)).0 has.has }

  point_back : (x : Point) → HasPoint N x → HasPoint M x
  point_back x has = record { point = has.point; has = (same (set_element x)).1 has.has }

  image_same : (x y : Point) → Relates M x y → Relates N x y
  image_same x y has = record { from = has.from; to = has.to; has = (same (map_element x y)).0 has.has }

  image_back : (x y : Point) → Relates N x y → Relates M x y
  image_back x y has = record { from = has.from; to = has.to; has = (same (map_element x y)).1 has.has }

  gives_same : (space : SpaceForm) (at : List ℤ → Option (List ℤ)) → GivesFirst M space at → GivesFirst N space at
  gives_same (set_of form) at gives = (
    (λ y e. (
      (λ h. let f = (gives.0 y e).0 h in (point_same y f.0, λ z has. f.1 z (point_back z has))),
      (λ f. (gives.0 y e).1 (point_back y f.0, λ z has. f.1 z (point_same z has))),
    )),
    ((λ h y e has. gives.1.0 h y e (point_back y has)), (λ none. gives.1.1 (λ y e has. none y e (point_same y has)))),
  )
  gives_same (map_of from to) at gives = λ x is e.
      let here = gives x is e in (
        (λ y f. (
          (λ h. let o = (here.0 y f).0 h in (image_same x y o.0, λ z has. o.1 z (image_back x z has))),
          (λ o. (here.0 y f).1 (image_back x y o.0, λ z has. o.1 z (image_same x z has))),
        )),
        ((λ h y f has. here.1.0 h y f (image_back x y has)), (λ none. here.1.1 (λ y f has. none y f (image_same x y has)))),
      )

-- ---- a value and its pieces without definitions
module _ (a flat : KeptValue) (params : List Name) (pieces : List PieceView) (names : params ≡ flat.params)
    (content : map kept_piece pieces ≡ flat.pieces) where
  pub flat_plain : (g h : Gauge) → IsCharged g h → All (IsPieceOf flat.params) pieces → IsWithinLimit g flat → HasNoDefinitions flat
      → ArePlainPieces h params pieces
  flat_plain g h charged sound small plain = pieces_later g h params pieces charged (record {
    sound = subst (λ (n : List Name). All (IsPieceOf n) pieces) (sym names) sound;
    within = pieces_within g flat.params pieces flat.pieces sound content small;
    plain = All-unmapped IsPlain kept_piece pieces (subst (All IsPlain) (sym content) plain);
  })

  pieces_have : ((v : Valuation) (e : Element) → Has flat v e ↔ Has a v e) → (v : Valuation) (e : Element)
      → elements_of params pieces v e ↔ Has a v e
  pieces_have same v e = (
    (λ h. (same v e).0 (subst (Any (HasElement flat.params v e)) content
        (subst (λ (n : List Name). Any (HasElement n v e) (map kept_piece pieces)) names h))),
    (λ h. subst (λ (n : List Name). Any (HasElement n v e) (map kept_piece pieces)) (sym names)
        (subst (Any (HasElement flat.params v e)) (sym content) ((same v e).1 h))),
  )

  module _ (same : (v : Valuation) (e : Element) → Has flat v e ↔ Has a v e) where
    pub tree_of : (g : Gauge) (space : SpaceForm) (tree : Quast) → params ≡ a.params → IsTreeIn g params pieces space tree
        → IsLeastImageTree a space tree
    tree_of g space tree own made v =
        gives_same (elements_of params pieces v) (Has a v) (pieces_have same v) space (λ front. quast_at tree (values_of a.params v ++ front))
        (subst (λ n. GivesFirst (elements_of params pieces v) space (λ front. quast_at tree (values_of n v ++ front))) own (made.gives v))

    -- there is a first one everywhere, where there is one in each of the spaces
    pub everywhere_from : (spaces : List SpaceForm) → ((v : Valuation) (e : Element) → Has a v e → Any (λ s. e.space ≡ s) spaces)
        → All (ThereIsFirst params pieces) spaces → HasFirstEverywhere ComesBefore a
    everywhere_from spaces lies all v = record {
      sets = λ x has.
          let own = point_back (elements_of params pieces v) (Has a v) (pieces_have same v) x has in
          let some = lies v (set_element x) has.has in
          let first = (all some.0 some.1 some.2 v).sets x (some.4 ∙ sym some.3) own in
          (first.0, first.1, set_first v first.0 first.2);
      maps = λ x y has.
          let own = image_back (elements_of params pieces v) (Has a v) (pieces_have same v) x y has in
          let some = lies v (map_element x y) has.has in
          let first = (all some.0 some.1 some.2 v).maps x y (some.4 ∙ sym some.3) own in
          (first.0, first.1, image_first v x first.0 first.2);
    }
      where
        set_first : (v : Valuation) (z : Point) → IsFirstOf ComesBefore (elements_of params pieces v) z → IsFirstOf ComesBefore (Has a v) z
        set_first v z f = (
          point_same (elements_of params pieces v) (Has a v) (pieces_have same v) z f.0,
          λ y has. f.1 y (point_back (elements_of params pieces v) (Has a v) (pieces_have same v) y has),
        )

        image_first : (v : Valuation) (x z : Point) → IsFirstImage ComesBefore (elements_of params pieces v) x z
            → IsFirstImage ComesBefore (Has a v) x z
        image_first v x z f = (
          image_same (elements_of params pieces v) (Has a v) (pieces_have same v) x z f.0,
          λ y has. f.1 y (image_back (elements_of params pieces v) (Has a v) (pieces_have same v) x y has),
        )

    pub everywhere_to : HasFirstEverywhere ComesBefore a → (space : SpaceForm) → ThereIsFirst params pieces space
    everywhere_to there space v = record {
      sets = λ x lies has.
          let first = (there v).sets x (point_same (elements_of params pieces v) (Has a v) (pieces_have same v) x has) in (
            first.0,
            first.1,
            (
              point_back (elements_of params pieces v) (Has a v) (pieces_have same v) first.0 first.2.0,
              λ y h. first.2.1 y (point_same (elements_of params pieces v) (Has a v) (pieces_have same v) y h),
            ),
          );
      maps = λ x y lies has.
          let first = (there v).maps x y (image_same (elements_of params pieces v) (Has a v) (pieces_have same v) x y has) in (
            first.0,
            first.1,
            (
              image_back (elements_of params pieces v) (Has a v) (pieces_have same v) x first.0 first.2.0,
              λ z h. first.2.1 z (image_same (elements_of params pieces v) (Has a v) (pieces_have same v) x z h),
            ),
          );
    }

-- ---- the spaces of a value, by its pieces
module _ (a : KeptValue) (pieces : List PieceView) (content : map kept_piece pieces ≡ a.pieces) (spaces : List SpaceForm)
    (are : spaces ≡ in_order space_before (each_once (map (λ (p : PieceView). p.space) pieces))) where
  spaces_same : (ps : List PieceView) → map (λ (p : PieceView). p.space) ps ≡ map (λ (k : KeptPiece). k.space) (map kept_piece ps)
  spaces_same [] = refl
  spaces_same (p ∷ ps) = ap (λ (l : List SpaceForm). p.space ∷ l) (spaces_same ps)

  pub spaces_of_value : spaces ≡ in_order space_before (each_once (map (λ (k : KeptPiece). k.space) a.pieces))
  spaces_of_value =
      are ∙ ap (λ (l : List SpaceForm). in_order space_before (each_once l))
      (spaces_same pieces ∙ ap (map (λ (k : KeptPiece). k.space)) content)

  pub lies_in : All (λ (p : PieceView). Any (λ s. p.space ≡ s) spaces) pieces → (v : Valuation) (e : Element) → Has a v e
      → Any (λ s. e.space ≡ s) spaces
  lies_in all v e has =
      let some = Any-unmapped (HasElement a.params v e) kept_piece pieces (subst (Any (HasElement a.params v e)) (sym content) has) in
      let in_one = all some.0 some.1 some.2 in
      let same : (get_or pieces some.0 some.1).space ≡ e.space = ap (λ (q : PieceView). q.space) some.3 ∙ some.4.space in
      Any-weaker (λ s. (get_or pieces some.0 some.1).space ≡ s) (λ s. e.space ≡ s) (λ s h. sym same ∙ h) spaces in_one

-- the spaces of sound pieces
pub spaces_formed : (params : List Name) (pieces : List PieceView) (spaces : List SpaceForm) → All (IsPieceOf params) pieces
    → AreOrderedSpaces pieces spaces → All IsWellFormedSpace spaces
spaces_formed params pieces spaces sound are = λ k e l.
    let some = are.only k e l in
    let p = sound some.0 some.1 some.2 in
    subst IsWellFormedSpace some.4 (subst (λ (q : PieceView). IsWellFormedSpace q.space) some.3 p.kept.space)

-- ---- the forest
pub forest_made : (g : Gauge) (a : KeptValue) (params : List Name) (pieces : List PieceView) (spaces : List SpaceForm) (trees : List SpaceTree)
    (forest : ForestView) → forest ≡ record { params = params; trees = trees } → params ≡ a.params → map (λ (t : SpaceTree). t.space) trees ≡ spaces
    → spaces ≡ in_order space_before (each_once (map (λ (k : KeptPiece). k.space) a.pieces))
    → ((space : SpaceForm) (tree : Quast) → IsTreeIn g params pieces space tree → IsLeastImageTree a space tree)
    → All (λ (t : SpaceTree). IsTreeIn g params pieces t.space t.tree) trees → IsForestOf a forest
forest_made g a params pieces spaces trees forest is own same order from all = subst (IsForestOf a) (sym is) (record {
  params = own;
  spaces = same ∙ order;
  trees = All-weaker (λ (t : SpaceTree). IsTreeIn g params pieces t.space t.tree) (λ (t : SpaceTree). IsLeastImageTree a t.space t.tree)
      (λ t h. from t.space t.tree h) trees all;
})

pub forest_within : (g : Gauge) (params : List Name) (pieces : List PieceView) (trees : List SpaceTree) (forest : ForestView)
    → forest ≡ record { params = params; trees = trees } → All (λ (t : SpaceTree). IsTreeIn g params pieces t.space t.tree) trees
    → AreTreesWithin g forest
forest_within g params pieces trees forest is all = subst (AreTreesWithin g) (sym is) (λ k d l. let t = all k d l in (t.over, t.width))
