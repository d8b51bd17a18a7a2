-- What is compared of values that have more elements, or those of two.
use Rattle.std.proofs.Common.{◌≡◌, ◌↔◌, ◌⊎◌, inl, inr, sym, ◌∙◌, List}
use Rattle.isl_space.specs.Element.{Element}
use Rattle.isl_space.specs.Form.{Form}
use Rattle.isl_space.specs.Name.{Name}
use Rattle.isl_space.specs.SpaceForm.{map_of, set_of}
use Rattle.isl_space.specs.Valuation.{Valuation}
use Rattle.isl_piece.specs.Piece.{PieceView}
use Rattle.isl_relation.specs.Orders.{OrderedMapsHas, OrderedSetsHas}
use Rattle.isl_relation.specs.Point.{Point, HasPoint, set_element, map_element}
use Rattle.isl_images.specs.Made.{elements_of}
use Rattle.isl_images.proofs.ImageLaws.{relates_grow, relates_split}
use Rattle.isl_images.proofs.MadeLaws.{IsAdditive}
use Rattle.isl_orders.specs.declared.order.Operands.{Operands}
use Rattle.isl_orders.specs.declared.order.Operands.TheVariants.{Sets, Maps}
use Rattle.isl_orders.specs.declared.order.Order.{Order}
use Rattle.isl_orders.specs.Comparison.{IsOrdered, OrderedHas}

has_grow : (M N : Element → Type 0) (x : Point) → ((f : Element) → M f → N f) → HasPoint M x → HasPoint N x
has_grow M N x grows h = record { point = h.point; has = grows (set_element x) h.has }

has_split : (M N : Element → Type 0) (x : Point) → HasPoint (λ f. M f ⊎ N f) x → HasPoint M x ⊎ HasPoint N x
has_split M N x h = elim h.has [
  | inl a ↦ inl (record { point = h.point; has = a })
  | inr b ↦ inr (record { point = h.point; has = b })
]

pub first_additive : (operands : Operands) (order : Order) (N : Element → Type 0) → IsAdditive (λ M. OrderedHas operands order M N)
first_additive Sets order N = record {
  grows = λ M K g e h. (h.0, h.1, has_grow M K h.0 g h.2, h.3, h.4, h.5);
  splits = λ M K e h. elim (has_split M K h.0 h.2) [
    | inl a ↦ inl (h.0, h.1, a, h.3, h.4, h.5)
    | inr b ↦ inr (h.0, h.1, b, h.3, h.4, h.5)
  ];
  some = λ M e h. (set_element h.0, h.2.has);
}
first_additive Maps order N = record {
  grows = λ M K g e h. (h.0, h.1, h.2, h.3, relates_grow M K h.0 h.2 g h.4, h.5, h.6, h.7);
  splits = λ M K e h. elim (relates_split M K h.0 h.2 h.4) [
    | inl a ↦ inl (h.0, h.1, h.2, h.3, a, h.5, h.6, h.7)
    | inr b ↦ inr (h.0, h.1, h.2, h.3, b, h.5, h.6, h.7)
  ];
  some = λ M e h. (map_element h.0 h.2, h.4.has);
}

pub second_additive : (operands : Operands) (order : Order) (M : Element → Type 0) → IsAdditive (OrderedHas operands order M)
second_additive Sets order M = record {
  grows = λ N K g e h. (h.0, h.1, h.2, has_grow N K h.1 g h.3, h.4, h.5);
  splits = λ N K e h. elim (has_split N K h.1 h.3) [
    | inl a ↦ inl (h.0, h.1, h.2, a, h.4, h.5)
    | inr b ↦ inr (h.0, h.1, h.2, b, h.4, h.5)
  ];
  some = λ N e h. (set_element h.1, h.3.has);
}
second_additive Maps order M = record {
  grows = λ N K g e h. (h.0, h.1, h.2, h.3, h.4, relates_grow N K h.1 h.3 g h.5, h.6, h.7);
  splits = λ N K e h. elim (relates_split N K h.1 h.3 h.5) [
    | inl a ↦ inl (h.0, h.1, h.2, h.3, h.4, a, h.6, h.7)
    | inr b ↦ inr (h.0, h.1, h.2, h.3, h.4, b, h.6, h.7)
  ];
  some = λ N e h. (map_element h.1 h.3, h.5.has);
}

pub pair_same : (operands : Operands) (order : Order) (M K N L : Element → Type 0) → ((f : Element) → M f ↔ K f)
    → ((f : Element) → N f ↔ L f) → (e : Element) → OrderedHas operands order M N e ↔ OrderedHas operands order K L e
pair_same operands order M K N L first second e = (
  (λ h. (second_additive operands order K).grows N L (λ f. (second f).0) e
      ((first_additive operands order N).grows M K (λ f. (first f).0) e h)),
  (λ h. (second_additive operands order M).grows L N (λ f. (second f).1) e
      ((first_additive operands order L).grows K M (λ f. (first f).1) e h)),
)

-- ---- pieces of which nothing is compared
module _ (params : List Name) (order : Order) (a b : PieceView) (v : Valuation) (e : Element) where
  abbrev SetsHave : Type 0
  SetsHave = OrderedSetsHas (IsOrdered order) (elements_of params a v) (elements_of params b v) e

  abbrev MapsHave : Type 0
  MapsHave = OrderedMapsHas (IsOrdered order) (elements_of params a v) (elements_of params b v) e

  pub first_set : (x y : Form) → a.space ≡ map_of x y → ¬ SetsHave
  first_set x y is h = absurd (let s = sym is ∙ h.2.has.space in cc)

  pub second_set : (x y : Form) → b.space ≡ map_of x y → ¬ SetsHave
  second_set x y is h = absurd (let s = sym is ∙ h.3.has.space in cc)

  pub first_map : (x : Form) → a.space ≡ set_of x → ¬ MapsHave
  first_map x is h = absurd (let s = sym is ∙ h.4.has.space in cc)

  pub second_map : (x : Form) → b.space ≡ set_of x → ¬ MapsHave
  second_map x is h = absurd (let s = sym is ∙ h.5.has.space in cc)
