-- Trees that give least lists give first elements; and there is a first one where there is a least list.
use Rattle.std.proofs.Common.{◌≡◌, ◌↔◌, refl, sym, ap, ◌∙◌, subst, arith, ℕ, ◌+◌, ◌<◌, ◌^◌, ℤ, List, [], ◌++◌, length, drop, take, take-append-drop, get_or, zip, Option, Some, None}
use Rattle.std.proofs.lemmas.List.{append-nil, length-append, length-drop, length-take-le}
use Rattle.isl_meter.specs.Gauge.{Gauge}
use Rattle.isl_space.specs.Element.{Element}
use Rattle.isl_space.specs.Form.{Form, width_of}
use Rattle.isl_space.specs.Name.{Name}
use Rattle.isl_space.specs.Names.{IsParameterList}
use Rattle.isl_space.specs.SpaceForm.{SpaceForm, set_of, map_of, IsWellFormedSpace}
use Rattle.isl_space.specs.Valuation.{Valuation, values_of}
use Rattle.isl_space.proofs.ValuationLaws.{length-values_of, values_of-zip}
use Rattle.isl_piece.specs.Piece.{PieceView}
use Rattle.isl_piece.specs.System.{IsSystemWithin, free_columns}
use Rattle.isl_union.specs.KeptValue.{columns_of}
use Rattle.isl_union.specs.Minus.{systems_in}
use Rattle.isl_union.proofs.MinusLaws.{systems_all}
use Rattle.isl_union.proofs.SystemLaws.{view_free}
use Rattle.isl_relation.specs.Extremes.{IsFirstImage, IsFirstOf}
use Rattle.isl_relation.specs.Orders.{ComesBefore}
use Rattle.isl_relation.specs.Point.{Point, HasPoint, IsPoint, Relates, map_element, set_element}
use Rattle.isl_pip_law.specs.Least.{GivesLeast, IsLeast}
use Rattle.isl_pip_law.specs.Levels.{AreBehind}
use Rattle.isl_pip_law.proofs.LeastLaws.{firsts, least_from_first}
use Rattle.isl_pip_law.proofs.SpaceLaws.{map_points, set_points}
use Rattle.isl_pip.specs.Least.{front_width, leaf_width, GivesFirst}
use Rattle.isl_pip.specs.Levels.{ArePlainOver}
use Rattle.isl_pip.specs.Trees.{elements_of, ArePlainPieces, HasFirstIn, ThereIsFirst}

-- ---- the systems of a space
columns_parts : (params : List Name) (space : SpaceForm) → columns_of params space ≡ front_width params space + leaf_width space
columns_parts params (set_of form) = refl
columns_parts params (map_of from to) = omega arith

pub systems_plain : (g : Gauge) (params : List Name) (space : SpaceForm) (pieces : List PieceView) → ArePlainPieces g params pieces
    → ArePlainOver g (front_width params space + leaf_width space) (systems_in space pieces)
systems_plain g params space pieces are = record {
  within = systems_all (IsSystemWithin g) space pieces (λ k d l same. are.within k d l);
  plain = systems_all (λ s. s.definitions ≡ []) space pieces (λ k d l same. are.plain k d l);
  columns = systems_all (λ s. free_columns s ≡ front_width params space + leaf_width space) space pieces (λ k d l same.
      view_free params (get_or pieces k d) (are.sound k d l) ∙ ap (columns_of params) same ∙ columns_parts params space);
}

pub columns_fit : (params : List Name) (space : SpaceForm) → IsParameterList params → IsWellFormedSpace space
    → front_width params space + (leaf_width space + leaf_width space) + 4 < 2 ^ 64
columns_fit params (set_of form) names formed =
    let n = names.few in
    let c = formed.narrow.coordinates in
    omega (arith, n, c)
columns_fit params (map_of from to) names formed =
    let n = names.few in
    let c = formed.narrow.coordinates in
    omega (arith, n, c)

-- ---- what the tree gives
module _ (params : List Name) (pieces : List PieceView) where
  -- the lists that the pieces leave in a space behind a front
  abbrev pub Lists : SpaceForm → List ℤ → List ℤ → Type 0
  Lists space front = AreBehind (leaf_width space) (systems_in space pieces) front

  pub tree_gives : (space : SpaceForm) (at : List ℤ → Option (List ℤ))
      → ((front : List ℤ) → length front ≡ front_width params space → GivesLeast (Lists space front) (at front))
      → (v : Valuation) → GivesFirst (elements_of params pieces v) space (λ front. at (values_of params v ++ front))
  tree_gives (set_of form) at least v =
      let front = values_of params v in
      firsts (width_of form) (Lists (set_of form) front) (λ ys is. is.0) form (HasPoint (elements_of params pieces v))
      (set_points params pieces v form) (at (front ++ []))
      (subst (λ f. GivesLeast (Lists (set_of form) front) (at f)) (sym (append-nil front)) (least front (length-values_of params v)))
  tree_gives (map_of from to) at least v = λ x is same.
      let front = values_of params v ++ x.numbers in
      let long : length front ≡ front_width params (map_of from to) =
      (let l = length-append (values_of params v) x.numbers in let n = length-values_of params v in let e = is ∙ ap width_of same in omega (arith, l, n, e)) in
      firsts (width_of to) (Lists (map_of from to) front) (λ ys h. h.0) to (Relates (elements_of params pieces v) x)
      (λ y own. map_points params pieces v from to x y is same own) (at front) (least front long)

-- ---- there is a first one
module _ (M : Element → Type 0) where
  there_set : (form : Form) (at : List ℤ → Option (List ℤ)) → GivesFirst M (set_of form) at → (x : Point) → x.form ≡ form → HasPoint M x
      → (z : Point) × (z.form ≡ x.form) × IsFirstOf ComesBefore M z
  there_set form at gives x same has = by (at []) refl
    where
      by : (r : Option (List ℤ)) → at [] ≡ r → (z : Point) × (z.form ≡ x.form) × IsFirstOf ComesBefore M z
      by None e = absurd (gives.1.0 e x same has)
      by (Some ys) e = let z : Point = record { form = form; numbers = ys } in (z, sym same, (gives.0 z refl).0 e)

  there_map : (from to : Form) (at : List ℤ → Option (List ℤ)) → GivesFirst M (map_of from to) at → (x y : Point) → x.form ≡ from → y.form ≡ to
      → Relates M x y → (z : Point) × (z.form ≡ y.form) × IsFirstImage ComesBefore M x z
  there_map from to at gives x y same own has = by (at x.numbers) refl
    where
      by : (r : Option (List ℤ)) → at x.numbers ≡ r → (z : Point) × (z.form ≡ y.form) × IsFirstImage ComesBefore M x z
      by None e = absurd ((gives x has.from same).1.0 e y own has)
      by (Some ys) e = let z : Point = record { form = to; numbers = ys } in (z, sym own, ((gives x has.from same).0 z refl).0 e)

  pub there_in : (space : SpaceForm) (at : List ℤ → Option (List ℤ)) → GivesFirst M space at → HasFirstIn space M
  there_in space at gives = record {
    sets = λ x lies has. there_set x.form at (subst (λ s. GivesFirst M s at) (sym lies) gives) x refl has;
    maps = λ x y lies has. there_map x.form y.form at (subst (λ s. GivesFirst M s at) (sym lies) gives) x y refl refl has;
  }

pub there_from : (params : List Name) (pieces : List PieceView) (space : SpaceForm) (at : List ℤ → Option (List ℤ))
    → ((v : Valuation) → GivesFirst (elements_of params pieces v) space (λ front. at (values_of params v ++ front)))
    → ThereIsFirst params pieces space
there_from params pieces space at gives v = there_in (elements_of params pieces v) space (λ front. at (values_of params v ++ front)) (gives v)

-- ---- and a least list then
module _ (params : List Name) (pieces : List PieceView) (names : IsParameterList params) where
  pub least_exists : (space : SpaceForm) → ThereIsFirst params pieces space → (front : List ℤ) → length front ≡ front_width params space
      → (ys : List ℤ) → Lists params pieces space front ys → (zs : List ℤ) × IsLeast (Lists params pieces space front) zs
  least_exists (set_of form) there front long ys is =
      let v = zip params front in
      let same : values_of params v ≡ front = values_of-zip params front names.distinct (sym long) in
      let here : (zs : List ℤ) × IsLeast (Lists params pieces (set_of form) (values_of params v)) zs =
      by v (subst (λ f. Lists params pieces (set_of form) f ys) (sym same) is) in
      subst (λ f. (zs : List ℤ) × IsLeast (Lists params pieces (set_of form) f) zs) same here
    where
      by : (v : Valuation) → Lists params pieces (set_of form) (values_of params v) ys
          → (zs : List ℤ) × IsLeast (Lists params pieces (set_of form) (values_of params v)) zs
      by v own =
          let x : Point = record { form = form; numbers = ys } in
          let M = elements_of params pieces v in
          let first = (there v).sets x refl ((set_points params pieces v form x refl).1 own) in (
            first.0.numbers,
            least_from_first (width_of form) (Lists params pieces (set_of form) (values_of params v)) (λ zs h. h.0) form (HasPoint M)
                (set_points params pieces v form) first.0 first.1 first.2,
          )
  least_exists (map_of from to) there whole long ys is =
      let front = take (length params) whole in
      let xs = drop (length params) whole in
      let fl : length front ≡ length params = length-take-le (length params) whole (omega (arith, long)) in
      let dropped = length-drop (length params) whole in
      let xl : length xs ≡ width_of from = omega (arith, dropped, long) in
      let v = zip params front in
      let same : values_of params v ++ xs ≡ whole =
      ap (λ q. q ++ xs) (values_of-zip params front names.distinct (sym fl)) ∙ take-append-drop (length params) whole in
      let here : (zs : List ℤ) × IsLeast (Lists params pieces (map_of from to) (values_of params v ++ xs)) zs =
      by v xs xl (subst (λ f. Lists params pieces (map_of from to) f ys) (sym same) is) in
      subst (λ f. (zs : List ℤ) × IsLeast (Lists params pieces (map_of from to) f) zs) same here
    where
      by : (v : Valuation) (xs : List ℤ) → length xs ≡ width_of from → Lists params pieces (map_of from to) (values_of params v ++ xs) ys
          → (zs : List ℤ) × IsLeast (Lists params pieces (map_of from to) (values_of params v ++ xs)) zs
      by v xs xl own =
          let x : Point = record { form = from; numbers = xs } in
          let y : Point = record { form = to; numbers = ys } in
          let M = elements_of params pieces v in
          let first = (there v).maps x y refl ((map_points params pieces v from to x y xl refl refl).1 own) in (
            first.0.numbers,
            least_from_first (width_of to) (Lists params pieces (map_of from to) (values_of params v ++ xs)) (λ zs h. h.0) to (Relates M x)
                (λ z e. map_points params pieces v from to x z xl refl e) first.0 first.1 first.2,
          )
