-- Listed elements by their spaces: one group more.
use Rattle.std.proofs.Common.{◌≡◌, ◌∙◌, ◌⊎◌, inl, inr, ◌+◌, ◌<◌, ℕ, ℤ, List, [], ◌∷◌, ◌++◌, length, get_or, drop}
use Rattle.std.proofs.Common.{ap, sym, subst, refl, arith, All, Any}
use Rattle.std.specs.Prelude.{◌↔◌, string_bytes}
use Rattle.std.specs.Cmp.Lexicographic.{slice_cmp}
use Rattle.std.specs.List.{AllPairs, Contains}
use Rattle.std.specs.Ordering.{nat_cmp, ordering_reverse, ordering_then}
use Rattle.std.specs.declared.cmp.Ordering.TheVariants.{Less, Equal, Greater}
use Rattle.std.proofs.lemmas.Cmp.{by_ranked, nat_list_cmp_total, ranked}
use Rattle.std.proofs.lemmas.List.{drop_more, length-append, length-map}
use Rattle.std.proofs.lemmas.List.Elements.{All-append, All-cons, All-head, All-map, All-nil, All-tail, All-weaker}
use Rattle.std.proofs.lemmas.List.Elements.{Contains-append_cases, Contains-append_left, Contains-append_right}
use Rattle.std.proofs.lemmas.List.Kept.{AllPairs-cons}
use Rattle.isl_math.specs.Order.{IsBefore}
use Rattle.isl_math.proofs.ListLaws.{All-parts, Any-cases, Any-first, Any-later, Any-none, Contains-later}
use Rattle.isl_space.specs.Element.{Element}
use Rattle.isl_space.specs.Space.{space_form_of}
use Rattle.isl_space.specs.SpaceForm.{SpaceForm, coordinates_of, space_text_of, IsWellFormedSpace}
use Rattle.isl_scan.specs.declared.group.Group.{Group}
use Rattle.isl_scan.specs.Groups.{element_of, elements_in, elements_of, space_in, title_cmp, AreGroups, HasIn, IsGroup, IsIn}
use Rattle.isl_scan.specs.Groups.{IsJoined}
use Rattle.isl_scan.specs.Listing.{IsElementBefore, IsSpaceBefore}
use Rattle.isl_scan.proofs.MergeLaws.{contains_merged, long_merged, ordered_merged}
use Rattle.isl_scan.proofs.PairLaws.{AllPairs-append, AllPairs-head, AllPairs-nil, AllPairs-parts, AllPairs-tail}
use Rattle.isl_scan.proofs.PairLaws.{Contains-cases, Contains-first}
use Rattle.isl_index.proofs.TextLaws.{same_space}

abbrev ComesBefore : Group → Group → Type 0
ComesBefore a b = IsSpaceBefore (space_in a) (space_in b)

-- ---- which elements there are
to_point : (space : SpaceForm) (points : List (List ℤ)) (e : Element) → Contains (elements_in space points) e → IsIn space points e
to_point space [] e c = absurd (let h = c.1 in omega arith)
to_point space (p ∷ points) e c =
    elim (Contains-cases (element_of space p) (elements_in space points) e c) [
      | inl same ↦ (
        ap (λ (x : Element). x.space) same,
        subst (Contains (p ∷ points)) (ap (λ (x : Element). x.coordinates) same) (Contains-first p points),
      )
      | inr later ↦ let rest = to_point space points e later in (rest.0, Contains-later p points e.coordinates rest.1)
    ]

from_point : (space : SpaceForm) (points : List (List ℤ)) (q : List ℤ) → Contains points q
    → Contains (elements_in space points) (element_of space q)
from_point space [] q c = absurd (let h = c.1 in omega arith)
from_point space (p ∷ points) q c =
    elim (Contains-cases p points q c) [
      | inl same ↦ subst (λ x. Contains (elements_in space (p ∷ points)) (element_of space x)) same
          (Contains-first (element_of space p) (elements_in space points))
      | inr later ↦ Contains-later (element_of space p) (elements_in space points) (element_of space q) (from_point space points q later)
    ]

pub contains_in : (space : SpaceForm) (points : List (List ℤ)) (e : Element) → Contains (elements_in space points) e ↔ IsIn space points e
contains_in space points e = (
  to_point space points e,
  (λ h. subst (λ s. Contains (elements_in space points) (element_of s e.coordinates)) h.0 (from_point space points e.coordinates h.1)),
)

pub to_group : (groups : List Group) (e : Element) → Contains (elements_of groups) e → Any (HasIn e) groups
to_group [] e c = absurd (let h = c.1 in omega arith)
to_group (g ∷ groups) e c =
    elim (Contains-append_cases (elements_in (space_in g) g.points) (elements_of groups) e c) [
      | inl a ↦ Any-first (HasIn e) g groups (to_point (space_in g) g.points e a)
      | inr b ↦ Any-later (HasIn e) g groups (to_group groups e b)
    ]

pub from_group : (groups : List Group) (e : Element) → Any (HasIn e) groups → Contains (elements_of groups) e
from_group [] e a = absurd (Any-none (HasIn e) a)
from_group (g ∷ groups) e a =
    elim (Any-cases (HasIn e) g groups a) [
      | inl h ↦ Contains-append_left (elements_in (space_in g) g.points) (elements_of groups) e
          ((contains_in (space_in g) g.points e).1 h)
      | inr b ↦ Contains-append_right (elements_in (space_in g) g.points) (elements_of groups) e (from_group groups e b)
    ]

-- ---- how many there are
pub length_in : (space : SpaceForm) (points : List (List ℤ)) → length (elements_in space points) ≡ length points
length_in space points = length-map points (element_of space)

pub length_of : (g : Group) (groups : List Group) → length (elements_of (g ∷ groups)) ≡ length g.points + length (elements_of groups)
length_of g groups =
    length-append (elements_in (space_in g) g.points) (elements_of groups)
    ∙ ap (λ n. n + length (elements_of groups)) (length_in (space_in g) g.points)

pub length_parts : (xs ys : List Group) → length (elements_of (xs ++ ys)) ≡ length (elements_of xs) + length (elements_of ys)
length_parts [] ys = omega arith
length_parts (x ∷ xs) ys =
    let a = length_of x (xs ++ ys) in let b = length_of x xs in let c = length_parts xs ys in omega arith

-- a loop's step
pub one_fewer : (groups : List Group) (i : ℕ) (g : Group) → i < length groups → g ≡ get_or groups i g
    → length (elements_of (drop i groups)) ≡ length g.points + length (elements_of (drop (i + 1) groups))
one_fewer groups i g low at =
    let here : drop i groups ≡ g ∷ drop (i + 1) groups = drop_more groups i g low ∙ ap (λ x. x ∷ drop (i + 1) groups) (sym at) in
    ap (λ l. length (elements_of l)) here ∙ length_of g (drop (i + 1) groups)

-- ---- texts in order
same_text : (xs ys : List ℕ) → slice_cmp nat_cmp xs ys ≡ Equal → xs ≡ ys
same_text [] [] e = refl
same_text [] (y ∷ ys) e = absurd cc
same_text (x ∷ xs) [] e = absurd cc
same_text (x ∷ xs) (y ∷ ys) e =
    by_ranked (x < y) (x ≡ y) (y < x) (nat_cmp x y) (ranked x y (nat_cmp x y) refl)
    (λ o l. absurd (let f = ap (λ p. ordering_then p (slice_cmp nat_cmp xs ys)) (sym o) ∙ e in cc))
    (λ o s. let rest = same_text xs ys (ap (λ p. ordering_then p (slice_cmp nat_cmp xs ys)) (sym o) ∙ e) in cc)
    (λ o g. absurd (let f = ap (λ p. ordering_then p (slice_cmp nat_cmp xs ys)) (sym o) ∙ e in cc))

turned : (s t : List ℕ) → slice_cmp nat_cmp s t ≡ Greater → slice_cmp nat_cmp t s ≡ Less
turned s t e = nat_list_cmp_total.antisymm t s ∙ ap ordering_reverse e

-- ---- two groups
module _ (g : Group) (is : IsGroup g) where
  pub before_group : (x : Group) → IsGroup x → title_cmp x (string_bytes g.title) ≡ Less → ComesBefore x g
  before_group x sound e = subst (λ s. slice_cmp nat_cmp s (space_text_of (space_in g)) ≡ Less) sound.title
      (subst (λ t. slice_cmp nat_cmp (string_bytes x.title) t ≡ Less) is.title e)

  pub after_group : (x : Group) → IsGroup x → title_cmp x (string_bytes g.title) ≡ Greater → ComesBefore g x
  after_group x sound e = subst (λ s. slice_cmp nat_cmp (space_text_of (space_in g)) s ≡ Less) sound.title
      (subst (λ t. slice_cmp nat_cmp t (string_bytes x.title) ≡ Less) is.title (turned (string_bytes x.title) (string_bytes g.title) e))

  pub same_group : (x : Group) → IsGroup x → title_cmp x (string_bytes g.title) ≡ Equal → space_in x ≡ space_in g
  same_group x sound e =
      same_space (space_in x) (space_in g) sound.space is.space
      (sym sound.title ∙ same_text (string_bytes x.title) (string_bytes g.title) e ∙ is.title)

  -- joined with the group of its space
  pub joined_group : (y m : Group) → IsGroup y → space_in y ≡ space_in g → IsJoined y g m → IsGroup m
  joined_group y m sound same joined =
      let space : space_in m ≡ space_in y = ap space_form_of joined.space in
      let n = coordinates_of (space_in m) in
      let long_y : All (λ p. length p ≡ n) y.points =
      subst (λ s. All (λ p. length p ≡ coordinates_of s) y.points) (sym space) sound.long in
      let long_g : All (λ p. length p ≡ n) g.points =
      subst (λ s. All (λ p. length p ≡ coordinates_of s) g.points) (sym (space ∙ same)) is.long in
      record {
        title = ap string_bytes joined.title ∙ sound.title ∙ ap space_text_of (sym space);
        space = subst IsWellFormedSpace (sym space) sound.space;
        long = subst (All (λ p. length p ≡ n)) (sym joined.points) (long_merged n y.points g.points long_y long_g);
        ordered = subst (AllPairs IsBefore) (sym joined.points)
            (ordered_merged n y.points g.points long_y long_g sound.ordered is.ordered);
      }

  pub joined_has : (y m : Group) → space_in y ≡ space_in g → IsJoined y g m → (e : Element) → HasIn e m ↔ (HasIn e y ⊎ HasIn e g)
  joined_has y m same joined e =
      let space : space_in m ≡ space_in y = ap space_form_of joined.space in
      let both = contains_merged y.points g.points e.coordinates in (
        (λ h. elim (both.0 (subst (λ ps. Contains ps e.coordinates) joined.points h.1)) [
          | inl a ↦ inl (sym space ∙ h.0, a)
          | inr b ↦ inr (sym (space ∙ same) ∙ h.0, b)
        ]),
        (λ c. elim c [
          | inl a ↦ (space ∙ a.0, subst (λ ps. Contains ps e.coordinates) (sym joined.points) (both.1 (inl a.1)))
          | inr b ↦ (space ∙ same ∙ b.0, subst (λ ps. Contains ps e.coordinates) (sym joined.points) (both.1 (inr b.1)))
        ]),
      )

-- ---- a group among others
pub groups_first : (xs ys : List Group) → AreGroups (xs ++ ys) → AreGroups xs
groups_first xs ys are = record {
  sound = (All-parts IsGroup xs ys are.sound).0;
  ordered = (AllPairs-parts ComesBefore xs ys are.ordered).0;
}

pub groups_last : (xs ys : List Group) → AreGroups (xs ++ ys) → AreGroups ys
groups_last xs ys are = record {
  sound = (All-parts IsGroup xs ys are.sound).1;
  ordered = (AllPairs-parts ComesBefore xs ys are.ordered).1;
}

-- the groups before one come before it
pub all_before : (xs ys : List Group) (g : Group) → AreGroups (xs ++ g ∷ ys) → All (λ x. ComesBefore x g) xs
all_before xs ys g are i d low =
    All-head (ComesBefore (get_or xs i d)) g ys ((AllPairs-parts ComesBefore xs (g ∷ ys) are.ordered).2 i d low)

-- what comes before the first of some groups comes before all of them
pub all_after : (g y : Group) (ys : List Group) → ComesBefore g y → AreGroups (y ∷ ys) → All (ComesBefore g) (y ∷ ys)
all_after g y ys first are =
    All-cons (ComesBefore g) y ys first
    (All-weaker (ComesBefore y) (ComesBefore g)
    (λ z h. nat_list_cmp_total.trans (space_text_of (space_in g)) (space_text_of (space_in y)) (space_text_of (space_in z)) first h) ys
    (AllPairs-head ComesBefore y ys are.ordered))

pub put_between : (xs ys : List Group) (g : Group) → IsGroup g → AreGroups (xs ++ ys) → All (λ x. ComesBefore x g) xs
    → All (ComesBefore g) ys → AreGroups (xs ++ g ∷ ys)
put_between xs ys g is are firsts lasts =
    let sounds = All-parts IsGroup xs ys are.sound in
    let parts = AllPairs-parts ComesBefore xs ys are.ordered in
    record {
      sound = All-append IsGroup xs (g ∷ ys) sounds.0 (All-cons IsGroup g ys is sounds.1);
      ordered = AllPairs-append ComesBefore xs (g ∷ ys) parts.0 (AllPairs-cons ComesBefore g ys lasts parts.1)
          (λ i d low. All-cons (ComesBefore (get_or xs i d)) g ys (firsts i d low) (parts.2 i d low));
    }

-- in the place of a group of its space
pub put_in_place : (xs ys : List Group) (y m : Group) → IsGroup m → space_in y ≡ space_in m → AreGroups (xs ++ y ∷ ys)
    → AreGroups (xs ++ m ∷ ys)
put_in_place xs ys y m own space are =
    let sounds = All-parts IsGroup xs (y ∷ ys) are.sound in
    let parts = AllPairs-parts ComesBefore xs (y ∷ ys) are.ordered in
    let lasts = subst (λ s. All (λ z. IsSpaceBefore s (space_in z)) ys) space (AllPairs-head ComesBefore y ys parts.1) in
    record {
      sound = All-append IsGroup xs (m ∷ ys) sounds.0 (All-cons IsGroup m ys own (All-tail IsGroup y ys sounds.1));
      ordered = AllPairs-append ComesBefore xs (m ∷ ys) parts.0
          (AllPairs-cons ComesBefore m ys lasts (AllPairs-tail ComesBefore y ys parts.1))
          (λ i d low.
          let x = get_or xs i d in
          All-cons (ComesBefore x) m ys
          (subst (λ s. IsSpaceBefore (space_in x) s) space (All-head (ComesBefore x) y ys (parts.2 i d low)))
          (All-tail (ComesBefore x) y ys (parts.2 i d low)));
    }

-- ---- the elements of all groups stand in order
points_ordered : (space : SpaceForm) (points : List (List ℤ)) → AllPairs IsBefore points
    → AllPairs IsElementBefore (elements_in space points)
points_ordered space [] rises = AllPairs-nil IsElementBefore
points_ordered space (p ∷ points) rises =
    AllPairs-cons IsElementBefore (element_of space p) (elements_in space points)
    (All-map (IsElementBefore (element_of space p)) (element_of space) points
    (All-weaker (IsBefore p) (λ q. IsElementBefore (element_of space p) (element_of space q)) (λ q h. inr (refl, h)) points
    (AllPairs-head IsBefore p points rises)))
    (points_ordered space points (AllPairs-tail IsBefore p points rises))

all_later : (g : Group) (groups : List Group) → All (ComesBefore g) groups
    → All (λ (e : Element). IsSpaceBefore (space_in g) e.space) (elements_of groups)
all_later g [] later = All-nil (λ (e : Element). IsSpaceBefore (space_in g) e.space)
all_later g (h ∷ groups) later =
    let first = All-head (ComesBefore g) h groups later in
    All-append (λ (e : Element). IsSpaceBefore (space_in g) e.space) (elements_in (space_in h) h.points) (elements_of groups)
    (All-map (λ (e : Element). IsSpaceBefore (space_in g) e.space) (element_of (space_in h)) h.points (λ i d low. first))
    (all_later g groups (All-tail (ComesBefore g) h groups later))

all_ordered : (groups : List Group) → All IsGroup groups → AllPairs ComesBefore groups → AllPairs IsElementBefore (elements_of groups)
all_ordered [] sound rises = AllPairs-nil IsElementBefore
all_ordered (g ∷ groups) sound rises =
    AllPairs-append IsElementBefore (elements_in (space_in g) g.points) (elements_of groups)
    (points_ordered (space_in g) g.points (All-head IsGroup g groups sound).ordered)
    (all_ordered groups (All-tail IsGroup g groups sound) (AllPairs-tail ComesBefore g groups rises))
    (All-map (λ e. All (IsElementBefore e) (elements_of groups)) (element_of (space_in g)) g.points
    (λ i p low. All-weaker (λ (e : Element). IsSpaceBefore (space_in g) e.space)
    (IsElementBefore (element_of (space_in g) (get_or g.points i p))) (λ e h. inl h) (elements_of groups)
    (all_later g groups (AllPairs-head ComesBefore g groups rises))))

pub elements_ordered : (groups : List Group) → AreGroups groups → AllPairs IsElementBefore (elements_of groups)
elements_ordered groups are = all_ordered groups are.sound are.ordered
