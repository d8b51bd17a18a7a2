-- Groups of items: one item more, and all of them.
use Rattle.std.proofs.Common.{◌≡◌, sym, ap, ◌∙◌, subst, ℕ, ◌≤◌, List, [], ◌∷◌, ◌++◌, append_assoc, drop, take}
use Rattle.std.specs.Global.{Vec}
use Rattle.std.specs.Prelude.{map}
use Rattle.std.specs.List.{All, AllPairs}
use Rattle.std.specs.List.Sorted.{IsPermutation}
use Rattle.std.proofs.lemmas.List.{take-append-drop, take-take}
use Rattle.std.proofs.lemmas.List.Elements.{All-weaker}
use Rattle.std.proofs.lemmas.List.Sorted.{All-permutation, Contains-permutation, IsPermutation-sym}
use Rattle.isl_meter.specs.Gauge.{Gauge, IsCharged}
use Rattle.isl_nest.specs.declared.item.Item.{Item}
use Rattle.isl_nest.specs.declared.place.Place.{Place}
use Rattle.isl_loops.specs.Groups.{items_of, members_of, AreGroupsOf, AreGroupsOver}
use Rattle.isl_loops.specs.Together.{AllComeBefore, AreApart, AreOrdered, ComesBefore, IsOver}
use Rattle.isl_loops.specs.declared.groups.Extent.{Extent}
use Rattle.isl_loops.proofs.CallLaws.{over_charged}
use Rattle.isl_loops.proofs.GroupLists.{all_grouped, joined_ordered, joined_same, pairs_grouped, pairs_mapped, pairs_permuted}
use Rattle.isl_loops.proofs.GroupLists.{pairs_unmapped}

-- ---- one item more, in one group with all groups from the first to the last
module _ (place : Place) (groups kept before between after made : List (Vec Item)) (first last : ℕ) (group : Vec Item) (item : Item)
    (kept_is : kept ≡ take last groups) (after_is : after ≡ drop last groups) (before_is : before ≡ take first kept)
    (between_is : between ≡ drop first kept) (joined : group.items ≡ members_of between ++ item ∷ [])
    (whole : made ≡ (before ++ group ∷ []) ++ after) where
  split : groups ≡ before ++ (between ++ after)
  split =
      let front : before ++ between ≡ kept = rw (before_is, between_is) (take-append-drop first kept) in
      let all : kept ++ after ≡ groups = rw (kept_is, after_is) (take-append-drop last groups) in
      sym (sym (append_assoc before between after) ∙ ap (λ gs. gs ++ after) front ∙ all)

  pub item_same : IsPermutation (members_of groups ++ item ∷ []) (members_of made)
  item_same =
      rw whole (subst (λ (gs : List (Vec Item)). IsPermutation (members_of gs ++ item ∷ []) (members_of ((before ++ group ∷ []) ++ after)))
      (sym split) (joined_same items_of before between after group item joined))

  pub item_ordered : first ≤ last → All (λ g. AllComeBefore place g.items (item ∷ [])) (take first groups)
      → All (λ g. All (ComesBefore place item) g.items) (drop last groups) → AreOrdered place (map items_of groups)
      → AreOrdered place (map items_of made)
  item_ordered low front end ordered =
      let R : List Item → List Item → Type 0 = AllComeBefore place in
      let Both : Vec Item → Vec Item → Type 0 = λ p q. AllComeBefore place p.items q.items in
      let shown : take first groups ≡ before = sym (before_is ∙ ap (take first) kept_is ∙ take-take first last groups low) in
      let leading = subst (All (λ (g : Vec Item). AllComeBefore place g.items (item ∷ []))) shown front in
      let trailing = subst (All (λ (g : Vec Item). All (ComesBefore place item) g.items)) (sym after_is) end in
      let old = subst (AllPairs Both) split (pairs_unmapped R items_of groups ordered) in
      subst (λ (gs : List (Vec Item)). AreOrdered place (map items_of gs)) (sym whole)
      (pairs_mapped R items_of ((before ++ group ∷ []) ++ after)
      (joined_ordered items_of before between after group item joined (ComesBefore place) leading trailing old))

-- ---- all items
-- while units are used
pub all_charged : (g h : Gauge) (extent : Extent) (items : List Item) → IsCharged g h → All (IsOver g extent.params extent.times) items
    → All (IsOver h extent.params extent.times) items
all_charged g h extent items charged =
    All-weaker (IsOver g extent.params extent.times) (IsOver h extent.params extent.times)
    (λ item o. over_charged g h extent.params extent.times item charged o) items

pub groups_charged : (g h : Gauge) (extent : Extent) (groups : List (Vec Item)) → IsCharged g h → AreGroupsOver g extent groups
    → AreGroupsOver h extent groups
groups_charged g h extent groups charged =
    All-weaker (λ (group : Vec Item). All (IsOver g extent.params extent.times) group.items)
    (λ (group : Vec Item). All (IsOver h extent.params extent.times) group.items)
    (λ group o. all_charged g h extent group.items charged o) groups

-- groups of items are over what the items are over
pub groups_over : (g : Gauge) (extent : Extent) (items : List Item) (groups : List (Vec Item)) → IsPermutation items (members_of groups)
    → All (IsOver g extent.params extent.times) items → AreGroupsOver g extent groups
groups_over g extent items groups same over =
    let O : Item → Type 0 = IsOver g extent.params extent.times in
    all_grouped items_of O groups (All-permutation O items (members_of groups) same over)

apart_back : (params : ℕ) (a b : Item) → AreApart params a b → AreApart params b a
apart_back params a b apart columns t low p q = apart columns t low q p

pub groups_are : (place : Place) (items : List Item) (groups : List (Vec Item)) → IsPermutation items (members_of groups)
    → AreOrdered place (map items_of groups) → AreGroupsOf place items [] groups
groups_are place items groups same ordered = record {
  same = λ item. (
    Contains-permutation (members_of groups) items item (IsPermutation-sym items (members_of groups) same),
    Contains-permutation items (members_of groups) item same,
  );
  apart = λ params apart.
      pairs_grouped items_of (AreApart params) groups
      (pairs_permuted (AreApart params) (apart_back params) items (members_of groups) same apart);
  ordered = λ none. ordered;
}
