-- What the operations on two values make of their pieces.
use Rattle.std.proofs.Common.{◌≡◌, ◌↔◌, ◌⊎◌, inl, inr, refl, sym, ap, ap₂, ◌∙◌, subst, arith, ℕ, ◌+◌, ◌<◌, ◌≤◌, ℤ, List, [], ◌++◌}
use Rattle.std.proofs.Common.{length, length-append, take, drop, take-append-drop}
use Rattle.std.proofs.lemmas.List.{drop_at, length-drop, length-take-le, take_at}
use Rattle.isl_meter.specs.Gauge.{Gauge}
use Rattle.isl_space.specs.Element.{Element, IsElement}
use Rattle.isl_space.specs.Form.{Form, leaves_of, width_of}
use Rattle.isl_space.specs.Limits.{most_coordinates, most_leaves}
use Rattle.isl_space.specs.Name.{Name}
use Rattle.isl_space.specs.SpaceForm.{set_of, map_of, coordinates_of, IsTooWideSpace, IsWellFormedSpace}
use Rattle.isl_space.specs.Valuation.{Valuation, values_of}
use Rattle.isl_space.proofs.ValuationLaws.{length-values_of}
use Rattle.isl_piece.specs.declared.system.System.{System}
use Rattle.isl_piece.specs.Piece.{PieceView}
use Rattle.isl_piece.specs.System.{HoldsSystem, free_columns}
use Rattle.isl_union.specs.KeptValue.{columns_of}
use Rattle.isl_union.specs.Piece.{IsPieceOf}
use Rattle.isl_union.specs.Project.{put_between}
use Rattle.isl_union.proofs.SystemLaws.{view_free}
use Rattle.isl_relation.specs.Maps.{ApplyHas, JoinHas}
use Rattle.isl_relation.specs.Point.{Point, HasPoint, set_element, map_element}
use Rattle.isl_images.specs.declared.pairing.Pairing.{Pairing}
use Rattle.isl_images.specs.declared.pairing.Pairing.TheVariants.{Apply, Join}
use Rattle.isl_images.specs.Made.{elements_of}
use Rattle.isl_images.specs.Pairing.{IsNarrowPair, PairHas}
use Rattle.isl_images.specs.Shadow.{IsShadow}
use Rattle.isl_images.specs.Shift.{IsOfBoth}
use Rattle.isl_images.proofs.ImageLaws.{element_is, relates_grow, relates_split, same_forms}
use Rattle.isl_images.proofs.MadeLaws.{IsAdditive}

-- ---- values that have more elements, or those of two
has_grow : (M N : Element → Type 0) (x : Point) → ((f : Element) → M f → N f) → HasPoint M x → HasPoint N x
has_grow M N x grows h = record { point = h.point; has = grows (set_element x) h.has }

has_split : (M N : Element → Type 0) (x : Point) → HasPoint (λ f. M f ⊎ N f) x → HasPoint M x ⊎ HasPoint N x
has_split M N x h = elim h.has [
  | inl a ↦ inl (record { point = h.point; has = a })
  | inr b ↦ inr (record { point = h.point; has = b })
]

pub first_additive : (pairing : Pairing) (N : Element → Type 0) → IsAdditive (λ M. PairHas pairing M N)
first_additive Apply N = record {
  grows = λ M K g e h. (h.0, h.1, relates_grow M K h.0 h.1 g h.2, h.3, h.4);
  splits = λ M K e h. elim (relates_split M K h.0 h.1 h.2) [
    | inl a ↦ inl (h.0, h.1, a, h.3, h.4)
    | inr b ↦ inr (h.0, h.1, b, h.3, h.4)
  ];
  some = λ M e h. (map_element h.0 h.1, h.2.has);
}
first_additive Join N = record {
  grows = λ M K g e h. (h.0, h.1, h.2, relates_grow M K h.0 h.1 g h.3, h.4, h.5);
  splits = λ M K e h. elim (relates_split M K h.0 h.1 h.3) [
    | inl a ↦ inl (h.0, h.1, h.2, a, h.4, h.5)
    | inr b ↦ inr (h.0, h.1, h.2, b, h.4, h.5)
  ];
  some = λ M e h. (map_element h.0 h.1, h.3.has);
}

pub second_additive : (pairing : Pairing) (M : Element → Type 0) → IsAdditive (PairHas pairing M)
second_additive Apply M = record {
  grows = λ N K g e h. (h.0, h.1, h.2, has_grow N K h.0 g h.3, h.4);
  splits = λ N K e h. elim (has_split N K h.0 h.3) [
    | inl a ↦ inl (h.0, h.1, h.2, a, h.4)
    | inr b ↦ inr (h.0, h.1, h.2, b, h.4)
  ];
  some = λ N e h. (set_element h.0, h.3.has);
}
second_additive Join M = record {
  grows = λ N K g e h. (h.0, h.1, h.2, h.3, relates_grow N K h.1 h.2 g h.4, h.5);
  splits = λ N K e h. elim (relates_split N K h.1 h.2 h.4) [
    | inl a ↦ inl (h.0, h.1, h.2, h.3, a, h.5)
    | inr b ↦ inr (h.0, h.1, h.2, h.3, b, h.5)
  ];
  some = λ N e h. (map_element h.1 h.2, h.4.has);
}

pub pair_same : (pairing : Pairing) (M K N L : Element → Type 0) → ((f : Element) → M f ↔ K f) → ((f : Element) → N f ↔ L f)
    → (e : Element) → PairHas pairing M N e ↔ PairHas pairing K L e
pair_same pairing M K N L first second e = (
  (λ h. (second_additive pairing K).grows N L (λ f. (second f).0) e ((first_additive pairing N).grows M K (λ f. (first f).0) e h)),
  (λ h. (second_additive pairing M).grows L N (λ f. (second f).1) e ((first_additive pairing L).grows K M (λ f. (first f).1) e h)),
)

-- ---- a map and a set
module _ (g : Gauge) (params : List Name) (p q : PieceView) (x y : Form) (map_lies : p.space ≡ map_of x y) (set_lies : q.space ≡ set_of x)
    (map_sound : IsPieceOf params p) (set_sound : IsPieceOf params q) where
  map_columns : free_columns p.system ≡ length params + (width_of x + width_of y)
  map_columns = view_free params p map_sound ∙ ap (columns_of params) map_lies

  set_columns : free_columns q.system ≡ length params + width_of x
  set_columns = view_free params q set_sound ∙ ap (columns_of params) set_lies

  module _ (both : System) (of : IsOfBoth g q.system p.system (length params) 0 both) where
    module _ (v : Valuation) (e : Element) where
      apply_points : (xs ys : List ℤ) → length xs ≡ width_of x → length ys ≡ width_of y
          → HoldsSystem both (values_of params v ++ (xs ++ ys))
          ↔ (HoldsSystem q.system (values_of params v ++ xs) × HoldsSystem p.system (values_of params v ++ (xs ++ ys)))
      apply_points xs ys l m =
          let a = map_columns in
          let b = set_columns in
          let n = length-values_of params v in
          of.points (values_of params v) [] xs ys n refl (omega (arith, b, n, l)) (omega (arith, a, n, l, m))

      pub apply_same : IsShadow params (set_of y) both (record { from = 0; count = width_of x }) v e
          ↔ ApplyHas (elements_of params p v) (elements_of params q v) e
      apply_same = (
        (λ h.
            let long : length e.coordinates ≡ width_of y = h.numbers ∙ ap coordinates_of h.lies in
            let holds = (apply_points h.middle e.coordinates h.long long).0 h.holds in
            let whole = length-append h.middle e.coordinates in
            let m = h.long in (
              record { form = x; numbers = h.middle },
              record { form = y; numbers = e.coordinates },
              record {
                from = h.long;
                to = long;
                has = record { numbers = omega (arith, whole, m, long); space = map_lies; holds = holds.1 };
              },
              record { point = h.long; has = record { numbers = h.long; space = set_lies; holds = holds.0 } },
              element_is e (set_of y) h.lies,
            )),
        (λ k.
            let forms = same_forms x y k.0.form k.1.form (sym map_lies ∙ k.2.has.space) in
            let same : e.coordinates ≡ k.1.numbers = ap (λ (f : Element). f.coordinates) k.4 in
            let first = k.2.from ∙ ap width_of (sym forms.0) in
            let second = k.2.to ∙ ap width_of (sym forms.1) in
            record {
              numbers = subst IsElement (sym k.4) k.2.to;
              lies = ap (λ (f : Element). f.space) k.4 ∙ ap set_of (sym forms.1);
              middle = k.0.numbers;
              long = first;
              holds = subst (λ ys. HoldsSystem both (values_of params v ++ (k.0.numbers ++ ys))) (sym same)
                  ((apply_points k.0.numbers k.1.numbers first second).1 (k.3.has.holds, k.2.has.holds));
            }),
      )

-- ---- two maps
put_at_end : (n : ℕ) (xs m zs : List ℤ) → length xs ≡ n → put_between n m (xs ++ zs) ≡ xs ++ (m ++ zs)
put_at_end n xs m zs e = ap₂ (λ a b. a ++ (m ++ b)) (take_at xs zs n e) (drop_at xs zs n e)

module _ (g : Gauge) (params : List Name) (p q : PieceView) (x y z : Form) (first_lies : p.space ≡ map_of x y)
    (second_lies : q.space ≡ map_of y z) (first_sound : IsPieceOf params p) (second_sound : IsPieceOf params q) where
  first_columns : free_columns p.system ≡ length params + (width_of x + width_of y)
  first_columns = view_free params p first_sound ∙ ap (columns_of params) first_lies

  second_columns : free_columns q.system ≡ length params + (width_of y + width_of z)
  second_columns = view_free params q second_sound ∙ ap (columns_of params) second_lies

  pub join_formed : IsNarrowPair Join p.space q.space → IsWellFormedSpace (map_of x z)
  join_formed narrow =
      let one = subst IsWellFormedSpace first_lies first_sound.kept.space in
      let two = subst IsWellFormedSpace second_lies second_sound.kept.space in
      let never = λ (wide : IsTooWideSpace (map_of x z)). narrow (map_of x z, (x, y, z, first_lies, second_lies, refl), wide) in
      record {
        named = (one.named.0, two.named.1);
        narrow = record {
          coordinates = not_more (width_of x + width_of z) most_coordinates (λ h. never (inl h));
          leaves = not_more (leaves_of x + leaves_of z) most_leaves (λ h. never (inr h));
        };
      }
    where
      not_more : (a b : ℕ) → ¬ (b < a) → a ≤ b
      not_more a b h = omega (arith, h)

  module _ (both : System) (of : IsOfBoth g p.system q.system (length params) (width_of x) both) where
    module _ (v : Valuation) (e : Element) where
      join_points : (xs ys zs : List ℤ) → length xs ≡ width_of x → length ys ≡ width_of y → length zs ≡ width_of z
          → HoldsSystem both (values_of params v ++ (xs ++ (ys ++ zs)))
          ↔ (HoldsSystem p.system (values_of params v ++ (xs ++ ys)) × HoldsSystem q.system (values_of params v ++ (ys ++ zs)))
      join_points xs ys zs k l m =
          let a = first_columns in
          let b = second_columns in
          let n = length-values_of params v in
          of.points (values_of params v) xs ys zs n k (omega (arith, a, n, k, l)) (omega (arith, b, n, l, m))

      pub join_same : IsShadow params (map_of x z) both (record { from = width_of x; count = width_of y }) v e
          ↔ JoinHas (elements_of params p v) (elements_of params q v) e
      join_same = (
        (λ h.
            let xs = take (width_of x) e.coordinates in
            let zs = drop (width_of x) e.coordinates in
            let long : length e.coordinates ≡ width_of x + width_of z = h.numbers ∙ ap coordinates_of h.lies in
            let k : length xs ≡ width_of x = length-take-le (width_of x) e.coordinates (omega (arith, long)) in
            let behind = length-drop (width_of x) e.coordinates in
            let m : length zs ≡ width_of z = omega (arith, behind, long) in
            let l = h.long in
            let holds = (join_points xs h.middle zs k l m).0 h.holds in
            let one = length-append xs h.middle in
            let two = length-append h.middle zs in (
              record { form = x; numbers = xs },
              record { form = y; numbers = h.middle },
              record { form = z; numbers = zs },
              record { from = k; to = l; has = record { numbers = omega (arith, one, k, l); space = first_lies; holds = holds.0 } },
              record { from = l; to = m; has = record { numbers = omega (arith, two, l, m); space = second_lies; holds = holds.1 } },
              element_is e (map_of x z) h.lies
                  ∙ ap (λ ns. let f : Element = record { space = map_of x z; coordinates = ns } in f)
                  (sym (take-append-drop (width_of x) e.coordinates)),
            )),
        (λ k.
            let one = same_forms x y k.0.form k.1.form (sym first_lies ∙ k.3.has.space) in
            let two = same_forms y z k.1.form k.2.form (sym second_lies ∙ k.4.has.space) in
            let same : e.coordinates ≡ k.0.numbers ++ k.2.numbers = ap (λ (f : Element). f.coordinates) k.5 in
            let a = k.3.from ∙ ap width_of (sym one.0) in
            let b = k.3.to ∙ ap width_of (sym one.1) in
            let c = k.4.to ∙ ap width_of (sym two.1) in
            let whole = length-append k.0.numbers k.2.numbers in
            let lies : e.space ≡ map_of x z = ap (λ (f : Element). f.space) k.5 ∙ ap₂ map_of (sym one.0) (sym two.1) in
            record {
              numbers = ap (length {A = ℤ}) same ∙ omega (arith, whole, a, c) ∙ ap coordinates_of (sym lies);
              lies = lies;
              middle = k.1.numbers;
              long = b;
              holds = subst (λ ns. HoldsSystem both (values_of params v ++ ns))
                  (sym (ap (put_between (width_of x) k.1.numbers) same ∙ put_at_end (width_of x) k.0.numbers k.1.numbers k.2.numbers a))
                  ((join_points k.0.numbers k.1.numbers k.2.numbers a b c).1 (k.3.has.holds, k.4.has.holds));
            }),
      )
