-- The elements of pieces in a space are the lists that the systems of the space leave behind their fronts.
use Rattle.std.proofs.Common.{◌≡◌, ◌↔◌, refl, sym, ap, ◌∙◌, subst, arith, ◌+◌, ℤ, List, ◌++◌, length, map}
use Rattle.std.specs.List.{Any}
use Rattle.std.proofs.lemmas.List.{append_assoc, length-append}
use Rattle.isl_space.specs.Element.{Element}
use Rattle.isl_space.specs.Form.{Form, width_of}
use Rattle.isl_space.specs.Name.{Name}
use Rattle.isl_space.specs.SpaceForm.{SpaceForm, set_of, map_of}
use Rattle.isl_space.specs.Valuation.{Valuation, values_of}
use Rattle.isl_piece.specs.Piece.{PieceView}
use Rattle.isl_elim.specs.Elimination.{HoldsAtAny}
use Rattle.isl_union.specs.KeptValue.{HasElement}
use Rattle.isl_union.specs.Minus.{systems_in}
use Rattle.isl_union.specs.Piece.{kept_piece}
use Rattle.isl_union.proofs.MinusLaws.{in_space}
use Rattle.isl_relation.specs.Point.{Point, HasPoint, IsPoint, Relates, map_element, set_element}
use Rattle.isl_pip_law.specs.Levels.{AreBehind}

module _ (params : List Name) (pieces : List PieceView) (v : Valuation) where
  abbrev M : Element → Type 0
  M e = Any (HasElement params v e) (map kept_piece pieces)

  -- points of a set
  pub set_points : (form : Form) (y : Point) → y.form ≡ form
      → HasPoint M y ↔ AreBehind (width_of form) (systems_in (set_of form) pieces) (values_of params v) y.numbers
  set_points form y e = (
    (λ h. (
      h.point ∙ ap width_of e,
      (in_space params v (set_element y) (set_of form) pieces h.point (ap set_of (sym e))).1 h.has,
    )),
    (λ p.
        let point : IsPoint y = p.0 ∙ ap width_of (sym e) in
        record { point = point; has = (in_space params v (set_element y) (set_of form) pieces point (ap set_of (sym e))).0 p.1 }),
  )

  -- images of x in a map
  pub map_points : (from to : Form) (x y : Point) → IsPoint x → x.form ≡ from → y.form ≡ to
      → Relates M x y ↔ AreBehind (width_of to) (systems_in (map_of from to) pieces) (values_of params v ++ x.numbers) y.numbers
  map_points from to x y at e f = (
    (λ h. (
      h.to ∙ ap width_of f,
      subst (HoldsAtAny (systems_in (map_of from to) pieces)) (sym (append_assoc (values_of params v) x.numbers y.numbers))
          ((in_space params v (map_element x y) (map_of from to) pieces (element h.to) lies).1 h.has),
    )),
    (λ p.
        let point : IsPoint y = p.0 ∙ ap width_of (sym f) in
        record {
          from = at;
          to = point;
          has = (in_space params v (map_element x y) (map_of from to) pieces (element point) lies).0
              (subst (HoldsAtAny (systems_in (map_of from to) pieces)) (append_assoc (values_of params v) x.numbers y.numbers) p.1);
        }),
  )
    where
      lies : map_of from to ≡ map_of x.form y.form
      lies = ap (λ a. map_of a to) (sym e) ∙ ap (λ b. map_of x.form b) (sym f)

      element : IsPoint y → length (x.numbers ++ y.numbers) ≡ width_of x.form + width_of y.form
      element point = let l = length-append x.numbers y.numbers in omega (arith, l, at, point)
