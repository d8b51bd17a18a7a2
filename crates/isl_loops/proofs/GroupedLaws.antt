-- Groups of items, one after another in a block.
use Rattle.std.proofs.Common.{◌≡◌, ◌↔◌, refl, sym, ap, ◌∙◌, subst, arith, ℕ, ◌+◌, ◌<◌, ◌≤◌, List, [], ◌∷◌, ◌++◌, append_assoc, length}
use Rattle.std.specs.Prelude.{map}
use Rattle.std.specs.Global.{Vec}
use Rattle.std.specs.List.{All, AllPairs, Contains}
use Rattle.std.proofs.lemmas.List.{append-nil, map-append}
use Rattle.std.proofs.lemmas.List.Concat.{flat_map-append}
use Rattle.std.proofs.lemmas.List.Elements.{All-head, All-nil, Contains-append_left, Contains-append_right}
use Rattle.isl_math.proofs.ListLaws.{All-parts, All-unmapped}
use Rattle.isl_meter.specs.Gauge.{Gauge}
use Rattle.isl_frame.specs.Frame.{columns_at}
use Rattle.isl_loop.specs.declared.tree.Loop.{Block, Loop}
use Rattle.isl_loop.specs.Formed.{IsLoopOver}
use Rattle.isl_loop.specs.Nest.{Timed}
use Rattle.isl_loop.specs.Run.{trace}
use Rattle.isl_nest.specs.Covered.{view_of}
use Rattle.isl_nest.specs.Item.{IsCalledBehind}
use Rattle.isl_nest.specs.declared.item.Item.{Item}
use Rattle.isl_nest.specs.declared.place.Place.{Place}
use Rattle.isl_loops.specs.Groups.{items_of, members_of, AreGroupsOf}
use Rattle.isl_loops.specs.Shared.{IsSharedNothing}
use Rattle.isl_loops.specs.Together.{AllComeBefore, AreApart, ComesBefore, IsOver, ListsAll}
use Rattle.isl_loops.proofs.CallLaws.{held}
use Rattle.isl_loops.proofs.ListsLaws.{all_contained, all_flat, any_same, pairs_before}
use Rattle.isl_loops.proofs.PartsLaws.{block_none, lists_less, lists_more, lists_nothing, none_behind, ordered_cross, parts_over}
use Rattle.isl_loops.proofs.TogetherLaws.{lists_reordered}

-- the trees of the first groups stand in a block, and these are left
pub record AreMade (g : Gauge) (place : Place) (items : List Item) (left : List (Vec Item)) (parts : List Loop) : Type 0 where
  pub done : List (Vec Item)
  pub groups : AreGroupsOf place items [] (done ++ left)
  pub lists : ListsAll (members_of done) place (Block parts)
  pub over : All (IsLoopOver g place.variables) parts

empty : {X : Type 0} (xs : List X) → length xs ≡ 0 → xs ≡ []
empty [] none = refl
empty (x ∷ xs) none = absurd (omega (arith, none))

module _ (g : Gauge) (place : Place) (items : List Item) where
  pub made_none : (groups : List (Vec Item)) (parts : List Loop) → AreGroupsOf place items [] groups → parts ≡ []
      → AreMade g place items groups parts
  made_none groups parts are e = record {
    done = [];
    groups = are;
    lists = lists_nothing place (Block parts) (block_none parts e);
    over = subst (All (IsLoopOver g place.variables)) (sym e) (All-nil (IsLoopOver g place.variables));
  }

  pub made_all : (left : List (Vec Item)) (parts : List Loop) → AreMade g place items left parts → length left ≡ 0
      → ListsAll items place (Block parts)
  made_all left parts made none point stands =
      let whole : made.done ++ left ≡ made.done =
      ap (λ (l : List (Vec Item)). made.done ++ l) (empty left none) ∙ append-nil made.done in
      let same : (item : Item) → Contains (members_of made.done) item ↔ Contains items item =
      (subst (λ (l : List (Vec Item)). AreGroupsOf place items [] l) whole made.groups).same in
      lists_reordered (λ (item : Item) (t : Timed). IsCalledBehind (view_of item) (columns_at place.frame point) t) (members_of made.done)
      items (trace (Block parts) point) (any_same (members_of made.done) items same) (made.lists point stands)

module _ (g : Gauge) (place : Place) (items : List Item) (left : List (Vec Item)) (parts : List Loop)
    (are : AreMade g place items left parts) (group : Vec Item) (next : List (Vec Item)) (e : left ≡ group ∷ next) where
  split : AreGroupsOf place items [] (are.done ++ group ∷ next)
  split = subst (λ (l : List (Vec Item)). AreGroupsOf place items [] (are.done ++ l)) e are.groups

  -- ---- the next group
  members : members_of (are.done ++ group ∷ next) ≡ members_of are.done ++ (group.items ++ members_of next)
  members = flat_map-append items_of are.done (group ∷ next)

  in_group : (item : Item) → Contains group.items item → Contains items item
  in_group item c =
      (split.same item).0 (subst (λ (xs : List Item). Contains xs item) (sym members)
      (Contains-append_right (members_of are.done) (group.items ++ members_of next) item
      (Contains-append_left group.items (members_of next) item c)))

  in_done : (item : Item) → Contains (members_of are.done) item → Contains items item
  in_done item c =
      (split.same item).0 (subst (λ (xs : List Item). Contains xs item) (sym members)
      (Contains-append_left (members_of are.done) (group.items ++ members_of next) item c))

  pub group_has : (P : Item → Type 0) → All P items → All P group.items
  group_has P all = all_contained P group.items (λ item c. held P items item all (in_group item c))

  done_has : (P : Item → Type 0) → All P items → All P (members_of are.done)
  done_has P all = all_contained P (members_of are.done) (λ item c. held P items item all (in_done item c))

  pub group_apart : (params : ℕ) → AllPairs (AreApart params) items → AllPairs (AreApart params) group.items
  group_apart params apart =
      let Are : Vec Item → Type 0 = λ x. AllPairs (AreApart params) x.items in
      All-head Are group next (All-parts Are are.done (group ∷ next) (split.apart params apart)).1

  -- the earlier ones come before
  ordered : AllPairs (AllComeBefore place) (map items_of are.done ++ group.items ∷ map items_of next)
  ordered = subst (AllPairs (AllComeBefore place)) (map-append items_of are.done (group ∷ next))
      (split.ordered (λ i j d below inside. absurd (omega (arith, inside))))

  before : All (λ a. All (ComesBefore place a) group.items) (members_of are.done)
  before = all_flat items_of (λ a. All (ComesBefore place a) group.items) are.done
      (All-unmapped (λ xs. AllComeBefore place xs group.items) items_of are.done
      (pairs_before (AllComeBefore place) (map items_of are.done) group.items (map items_of next) ordered))

  -- ---- one group more
  more : (are.done ++ group ∷ []) ++ next ≡ are.done ++ group ∷ next
  more = append_assoc are.done (group ∷ []) next

  more_groups : AreGroupsOf place items [] ((are.done ++ group ∷ []) ++ next)
  more_groups = subst (λ (l : List (Vec Item)). AreGroupsOf place items [] l) (sym more) split

  more_members : members_of (are.done ++ group ∷ []) ≡ members_of are.done ++ group.items
  more_members = flat_map-append items_of are.done (group ∷ [])
      ∙ ap (λ (xs : List Item). members_of are.done ++ xs) (append-nil group.items)

  module _ (params times : ℕ) (over : All (IsOver g params times) items) (low : params ≤ length place.frame)
      (inner : length place.frame < params + times) where
    pub made_more : (made : List Loop) (tree : Loop) → made ≡ parts ++ tree ∷ [] → ListsAll group.items place tree
        → IsLoopOver g place.variables tree → AreMade g place items next made
    made_more made tree pushed lists tree_over = record {
      done = are.done ++ group ∷ [];
      groups = more_groups;
      lists = subst (λ (xs : List Item). ListsAll xs place (Block made)) (sym more_members)
          (lists_more place (members_of are.done) group.items parts made tree pushed
          (ordered_cross place g params times (members_of are.done) group.items (done_has (IsOver g params times) over)
          (group_has (IsOver g params times) over) low inner before) are.lists lists);
      over = parts_over g place.variables parts tree made pushed are.over tree_over;
    }

    pub made_same : IsSharedNothing place group.items → AreMade g place items next parts
    made_same none = record {
      done = are.done ++ group ∷ [];
      groups = more_groups;
      lists = subst (λ (xs : List Item). ListsAll xs place (Block parts)) (sym more_members)
          (lists_less place (members_of are.done) group.items (Block parts)
          (none_behind place g params times group.items (group_has (IsOver g params times) over) low inner none) are.lists);
      over = are.over;
    }
