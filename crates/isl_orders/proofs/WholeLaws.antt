-- The order of all elements of one form.
use Rattle.std.proofs.Common.{◌≡◌, ◌↔◌, inl, inr, refl, sym, ap, ap₂, ◌∙◌, subst, arith, ℕ, ◌+◌, ◌-◌, ◌<◌, ◌≤◌, ◌^◌, ℤ, List, []}
use Rattle.std.proofs.Common.{◌∷◌, ◌++◌, All, Any, drop, get_or, length, length-append, map, take, take-append-drop}
use Rattle.std.proofs.lemmas.List.{append-nil, length-drop, length-take-le}
use Rattle.std.proofs.lemmas.List.Elements.{All-map}
use Rattle.isl_meter.specs.Gauge.{Gauge}
use Rattle.isl_space.specs.Element.{Element, IsElement}
use Rattle.isl_space.specs.Form.{Form, width_of}
use Rattle.isl_space.specs.Limits.{most_coordinates}
use Rattle.isl_space.specs.SpaceForm.{SpaceForm, coordinates_of, map_of, IsNarrowSpace, IsTooWideSpace, IsWellFormedSpace}
use Rattle.isl_space.specs.Valuation.{Valuation}
use Rattle.isl_piece.specs.declared.system.System.{System}
use Rattle.isl_piece.specs.Piece.{PieceView}
use Rattle.isl_piece.specs.Formed.{IsSystemUpTo}
use Rattle.isl_piece.specs.System.{HoldsSystem, free_columns}
use Rattle.isl_piece.proofs.FormedLaws.{system_up_to}
use Rattle.isl_elim.specs.Elimination.{HoldsAtAny}
use Rattle.isl_elim.specs.Sample.{IsNowhere}
use Rattle.isl_blocks.specs.Blocks.{numbers_of, widths_of}
use Rattle.isl_union.specs.KeptValue.{KeptPiece, HasElement}
use Rattle.isl_union.specs.Live.{settled}
use Rattle.isl_union.specs.Minus.{piece_in}
use Rattle.isl_union.specs.Piece.{kept_piece, IsPieceOver}
use Rattle.isl_union.proofs.MinusLaws.{parts_have}
use Rattle.isl_images.proofs.ImageLaws.{element_is}
use Rattle.isl_relation.specs.Point.{Point}
use Rattle.isl_orders.specs.declared.order.Order.{Order}
use Rattle.isl_orders.specs.Cases.{AreCasesOf, IsMet}
use Rattle.isl_orders.specs.Comparison.{AreOrdered, IsOrdered}
use Rattle.isl_orders.specs.Whole.{AreOrderPieces, OrderHas}
use Rattle.isl_orders.proofs.CompareLaws.{ordered_numbers, ordered_points, same_set}

-- a space that a value may have is narrow
pub width_small : (x : Form) (space : SpaceForm) → space ≡ map_of x x → IsWellFormedSpace space → width_of x < 2 ^ 32
width_small x space is formed =
    let n = subst (λ s. coordinates_of s ≤ most_coordinates) is formed.narrow.coordinates in
    omega (arith, n)

pub never_wide : (x : Form) (space : SpaceForm) → space ≡ map_of x x → IsWellFormedSpace space → ¬ IsTooWideSpace (map_of x x)
never_wide x space is formed wide =
    let n = subst IsNarrowSpace is formed.narrow in
    elim wide [
      | inl l ↦ let m = n.coordinates in omega (arith, m, l)
      | inr l ↦ let m = n.leaves in omega (arith, m, l)
    ]

module _ (order : Order) (x : Form) (pieces : List PieceView) (are : AreOrderPieces order x pieces) where
  abbrev cases : List System
  cases = are.cases

  abbrev w : ℕ
  w = width_of x

  abbrev two : List ℕ
  two = w ∷ w ∷ []

  abbrev all : AreCasesOf two 0 1 (AreOrdered order) cases
  all = are.ordered

  abbrev space : SpaceForm
  space = map_of x x

  widths : (xs ys : List ℤ) → length xs ≡ w → length ys ≡ w → widths_of (xs ∷ ys ∷ []) ≡ two
  widths xs ys lx ly = ap₂ (λ m n. m ∷ n ∷ []) lx ly

  whole : (xs ys : List ℤ) → xs ++ ys ≡ numbers_of (xs ∷ ys ∷ [])
  whole xs ys = ap (λ l. xs ++ l) (sym (append-nil ys))

  -- ---- what is made
  pub pieces_over : (g : Gauge) → 8 ≤ g.bits → IsWellFormedSpace space → All (IsPieceOver g []) pieces
  pieces_over g bits formed = rw are.made (All-map (IsPieceOver g []) (piece_in space) cases (λ k d l.
      let free = all.free k d l in
      record { space = formed; columns = omega (arith, free); within = all.within g bits k d l }))

  abbrev IsSomewhere : PieceView → Type 0
  IsSomewhere piece = ¬ IsNowhere (free_columns piece.system) (HoldsSystem piece.system)

  lives : (s : System) → free_columns s ≡ w + (w + 0) → IsMet two 0 1 s → IsSomewhere (piece_in space s)
  lives s free met nowhere =
      let xs = met.0 in
      let ys = met.1 in
      let lx = met.2 in
      let ly = met.3 in
      let long = length-append xs ys in
      nowhere (xs ++ ys) (omega (arith, long, lx, ly, free))
      (subst (HoldsSystem s) (sym (whole xs ys)) (met.4 (xs ∷ ys ∷ []) (widths xs ys lx ly) refl refl))

  pub pieces_live : All IsSomewhere pieces
  pieces_live = rw are.made (All-map IsSomewhere (piece_in space) cases
      (λ k d l. lives (get_or cases k d) (all.free k d l) (all.met k d l)))

  pub pieces_small : (g : Gauge) → 8 ≤ g.bits → All (λ (p : PieceView). IsSystemUpTo (2 ^ g.bits - 1) p.system) pieces
  pieces_small g bits = rw are.made (All-map (λ (p : PieceView). IsSystemUpTo (2 ^ g.bits - 1) p.system) (piece_in space) cases
      (λ k d l. system_up_to g (get_or cases k d) (all.within g bits k d l)))

  abbrev IsPlain : KeptPiece → Type 0
  IsPlain piece = piece.definitions ≡ []

  pub pieces_plain : All IsPlain (map settled (map kept_piece pieces))
  pieces_plain = rw are.made (All-map IsPlain settled (map kept_piece (map (piece_in space) cases))
      (All-map IsPlain kept_piece (map (piece_in space) cases)
      (All-map (λ p. IsPlain (kept_piece p)) (piece_in space) cases (λ k d l. all.definitions k d l))))

  -- ---- elements
  module _ (v : Valuation) (e : Element) where
    held : IsElement e × (space ≡ e.space) × HoldsAtAny cases e.coordinates → OrderHas (IsOrdered order) x e
    held h =
        let xs = take w e.coordinates in
        let ys = drop w e.coordinates in
        let long : length e.coordinates ≡ w + w = h.0 ∙ ap coordinates_of (sym h.1) in
        let lx : length xs ≡ w = length-take-le w e.coordinates (omega (arith, long)) in
        let rest = length-drop w e.coordinates in
        let ly : length ys ≡ w = omega (arith, rest, long) in
        let parts = take-append-drop w e.coordinates in
        let k = (all.points (xs ∷ ys ∷ []) (widths xs ys lx ly)).0 (subst (HoldsAtAny cases) (sym parts ∙ whole xs ys) h.2) in
        let px : Point = record { form = x; numbers = xs } in
        let py : Point = record { form = x; numbers = ys } in (
          px,
          py,
          record { point = lx; has = refl },
          record { point = ly; has = refl },
          ordered_points order px py refl k,
          element_is e space (sym h.1) ∙ ap (λ ns. let f : Element = record { space = space; coordinates = ns } in f) (sym parts),
        )

    found : OrderHas (IsOrdered order) x e → IsElement e × (space ≡ e.space) × HoldsAtAny cases e.coordinates
    found k =
        let px = k.0 in
        let py = k.1 in
        let one = same_set px.form x k.2.has in
        let two = same_set py.form x k.3.has in
        let lx = k.2.point ∙ ap width_of one in
        let ly = k.3.point ∙ ap width_of two in
        let same : e.coordinates ≡ px.numbers ++ py.numbers = ap (λ (f : Element). f.coordinates) k.5 in
        let both = length-append px.numbers py.numbers in
        let lies : e.space ≡ space = ap (λ (f : Element). f.space) k.5 ∙ ap₂ map_of one two in (
          ap (length {A = ℤ}) same ∙ omega (arith, both, lx, ly) ∙ ap coordinates_of (sym lies),
          sym lies,
          subst (HoldsAtAny cases) (sym (same ∙ whole px.numbers py.numbers))
              ((all.points (px.numbers ∷ py.numbers ∷ []) (widths px.numbers py.numbers lx ly)).1 (ordered_numbers order px py k.4)),
        )

    pub pieces_have : Any (HasElement [] v e) (map kept_piece pieces) ↔ OrderHas (IsOrdered order) x e
    pieces_have =
        let parts = parts_have [] v e space cases in
        rw are.made ((λ a. held (parts.0 a)), (λ k. parts.1 (found k)))
