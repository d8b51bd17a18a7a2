-- Which elements the operators make of those that the calls below make.
use Rattle.std.proofs.Common.{◌≡◌, ◌↔◌, ◌⊎◌, ◌∙◌, ◌+◌, inl, inr, refl, sym, ap, ap₂, subst, take, length, ◌++◌}
use Rattle.std.proofs.lemmas.List.{take_at}
use Rattle.isl_math.proofs.ListLaws.{Any-element, Any-weaker}
use Rattle.isl_space.specs.Element.{Element, IsElement}
use Rattle.isl_space.specs.Form.{Form, width_of}
use Rattle.isl_space.specs.SpaceForm.{SpaceForm, set_of, map_of, coordinates_of}
use Rattle.isl_space.specs.Valuation.{Valuation}
use Rattle.isl_union.specs.KeptValue.{KeptPiece, KeptValue, Has, HasElement}
use Rattle.isl_tree.specs.declared.statement.Binary.{Binary}
use Rattle.isl_tree.specs.declared.statement.Binary.TheVariants as b
use Rattle.isl_relation.specs.Point.{Point, HasPoint, IsPoint, map_element}
use Rattle.isl_relation.specs.Maps.{RemoveDomainHas, RestrictDomainHas}
use Rattle.isl_relation.specs.Wide.{IsLiveIn}
use Rattle.isl_relation.proofs.PointLaws.{behind, behind_is, element_is, front, front_is, halves}
use Rattle.isl_operators.specs.Operations.{BeginsIn, OperatorHas}
use Rattle.isl_operators.specs.Made.{HasMaps, HasSets}

-- ---- pieces of the elements
-- a value has elements only where some piece lies
pub lives : (value : KeptValue) (valuation : Valuation) (element : Element) (space : SpaceForm) → Has value valuation element
    → element.space ≡ space → IsLiveIn value space
lives value valuation element space has at =
    Any-weaker (HasElement value.params valuation element) (λ (p : KeptPiece). p.space ≡ space) (λ p h. h.space ∙ at) value.pieces has

-- a map's pairs begin in a set only where there are maps and sets
pub never_begins : (left right : KeptValue) (valuation : Valuation) (element : Element) → ¬ (HasMaps left × HasSets right)
    → Has left valuation element → ¬ BeginsIn (Has right valuation) element
never_begins left right valuation element never has begins =
    let x = begins.0 in
    let y = begins.1 in
    never (
      (x.form, y.form, lives left valuation element _ has (ap (λ (e : Element). e.space) begins.4)),
      (x.form, lives right valuation _ _ begins.2.has refl),
    )

-- an element of a map's space is a pair of points
abbrev pub IsPair : Element → Type 0
IsPair element = (x : Point) × (y : Point) × IsPoint x × IsPoint y × (element ≡ map_element x y)

pair_of : (element : Element) (from to : Form) → IsElement element → map_of from to ≡ element.space → IsPair element
pair_of element from to numbers space =
    let wide : length element.coordinates ≡ width_of from + width_of to = numbers ∙ ap coordinates_of (sym space) in (
      front from element.coordinates,
      behind from to element.coordinates,
      front_is from (width_of to) element.coordinates wide,
      behind_is from to element.coordinates wide,
      element_is element (map_of from to) _ space (halves (width_of from) (width_of to) element.coordinates wide),
    )

-- without sets there are such elements alone
pub always_pair : (value : KeptValue) (valuation : Valuation) (element : Element) → ¬ HasSets value → Has value valuation element
    → IsPair element
always_pair value valuation element never has = by element.space refl
  where
    by : (space : SpaceForm) → space ≡ element.space → IsPair element
    by (set_of form) at = absurd (never (form, lives value valuation element (set_of form) has (sym at)))
    by (map_of from to) at =
        pair_of element from to (Any-element (HasElement value.params valuation element) value.pieces has).2.numbers at

-- the first point of a pair is told by the pair
first_point : (x y u w : Point) → IsPoint x → IsPoint u → map_element x y ≡ map_element u w → x ≡ u
first_point x y u w one two same =
    let spaces : map_of x.form y.form ≡ map_of u.form w.form = ap (λ (e : Element). e.space) same in
    let form : x.form ≡ u.form = cc in
    let all : x.numbers ++ y.numbers ≡ u.numbers ++ w.numbers = ap (λ (e : Element). e.coordinates) same in
    let numbers : x.numbers ≡ u.numbers =
    sym (take_at x.numbers y.numbers (width_of x.form) one)
    ∙ (ap₂ (λ n l. take n l) (ap width_of form) all ∙ take_at u.numbers w.numbers (width_of u.form) two) in
    ap₂ (λ f l. let p : Point = record { form = f; numbers = l } in p) form numbers

-- a pair begins in a set where its first point is in it
begins_at : (S : Element → Type 0) (x y : Point) → IsPoint x → BeginsIn S (map_element x y) → HasPoint S x
begins_at S x y point begins =
    subst (HasPoint S) (sym (first_point x y begins.0 begins.1 point begins.2.point begins.4)) begins.2

-- ---- what the operators make
module _ (Left Right : Element → Type 0) (element : Element) where
  abbrev Made : Type 0 → Binary → Type 0
  Made Has operator = Has ↔ OperatorHas operator Left Right element

  module _ (never : Left element → ¬ BeginsIn Right element) (Has : Type 0) where
    pub meets_alone : Has ↔ (Left element × Right element) → Made Has b.Intersection
    meets_alone met = (
      (λ h. let k = met.0 h in (k.0, inl k.1)),
      (λ k. met.1 (k.0, elim k.1 [ inl right ↦ right | inr begins ↦ absurd (never k.0 begins) ])),
    )

    pub left_alone : Has ↔ (Left element × (¬ Right element)) → Made Has b.Difference
    left_alone left = (
      (λ h. let k = left.0 h in (k.0, λ there. elim there [ inl right ↦ k.1 right | inr begins ↦ never k.0 begins ])),
      (λ k. left.1 (k.0, λ right. k.1 (inl right))),
    )

  -- the pairs that begin in the other, and what both have
  pub begun_both : (Begun Met Has : Type 0) → Begun ↔ RestrictDomainHas Left Right element → Met ↔ (Left element × Right element)
      → Has ↔ (Begun ⊎ Met) → Made Has b.Intersection
  begun_both Begun Met Has begun met both = (
    (λ h. elim (both.0 h) [
      | inl one ↦ first (begun.0 one)
      | inr one ↦ let k = met.0 one in (k.0, inl k.1)
    ]),
    (λ k. elim k.1 [
      | inl right ↦ both.1 (inr (met.1 (k.0, right)))
      | inr begins ↦ both.1 (inl (begun.1 (second k.0 begins)))
    ]),
  )
    where
      first : RestrictDomainHas Left Right element → OperatorHas b.Intersection Left Right element
      first h = (subst Left (sym h.4) h.2.has, inr (h.0, h.1, h.3, h.2.to, h.4))

      second : Left element → BeginsIn Right element → RestrictDomainHas Left Right element
      second left h = (h.0, h.1, record { from = h.2.point; to = h.3; has = subst Left h.4 left }, h.2, h.4)

  -- what is left without what both have
  pub left_without : (Both Has : Type 0) → Made Both b.Intersection → Has ↔ (Left element × (¬ Both)) → Made Has b.Difference
  left_without Both Has both left = (
    (λ h. let k = left.0 h in (k.0, λ there. k.1 (both.1 (k.0, there)))),
    (λ k. left.1 (k.0, λ one. k.1 (both.0 one).1)),
  )

-- of pairs alone, what is left without the other's elements, and then without those that begin in it
pub left_begun : (Left Right Rest : Element → Type 0) (element : Element) (Has : Type 0) → (Left element → IsPair element)
    → ((e : Element) → Rest e ↔ (Left e × (¬ Right e))) → Has ↔ RemoveDomainHas Rest Right element
    → Has ↔ OperatorHas b.Difference Left Right element
left_begun Left Right Rest element Has pair rest left = (
  (λ h.
      let k = left.0 h in
      let one = (rest (map_element k.0 k.1)).0 k.2.has in (
        subst Left (sym k.4) one.0,
        (λ there. elim there [
          | inl right ↦ one.1 (subst Right k.4 right)
          | inr begins ↦ k.3 (begins_at Right k.0 k.1 k.2.from (subst (BeginsIn Right) k.4 begins))
        ]),
      )),
  (λ k.
      let p = pair k.0 in
      left.1 (
        p.0,
        p.1,
        record {
          from = p.2;
          to = p.3;
          has = (rest (map_element p.0 p.1)).1 (subst Left p.4 k.0, λ right. k.1 (inl (subst Right (sym p.4) right)));
        },
        (λ there. k.1 (inr (p.0, p.1, there, p.3, p.4))),
        p.4,
      )),
)
