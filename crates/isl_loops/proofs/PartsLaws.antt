-- Trees one after another in a block.
use Rattle.std.proofs.Common.{◌≡◌, ◌⊎◌, inl, inr, refl, sym, ap, ◌∙◌, subst, arith, ℕ, ◌+◌, ◌<◌, ◌≤◌, ℤ, List, [], ◌∷◌, ◌++◌}
use Rattle.std.proofs.Common.{append_assoc, length, get_or, take, drop}
use Rattle.std.specs.List.{All, AllPairs}
use Rattle.std.proofs.lemmas.List.{append-nil, drop_more, length-map, length-take-le, take-append-drop, take_all, take_more}
use Rattle.std.proofs.lemmas.List.Elements.{All-cons, All-nil, All-push, All-take, All-weaker}
use Rattle.isl_math.proofs.ListLaws.{Any-left, Any-parts}
use Rattle.isl_meter.specs.Gauge.{Gauge}
use Rattle.isl_ast.proofs.FormedLaws.{block_parts}
use Rattle.isl_frame.specs.Frame.{column_at, columns_at}
use Rattle.isl_loop.specs.declared.tree.Loop.{Block, Loop}
use Rattle.isl_loop.specs.Formed.{IsLoopOver}
use Rattle.isl_loop.specs.Lists.{calls_of}
use Rattle.isl_loop.specs.Nest.{Lists, MayPrecede, Timed}
use Rattle.isl_loop.specs.Run.{trace, Event}
use Rattle.isl_loop.proofs.NestLaws.{lists_same}
use Rattle.isl_loop.proofs.TreeLaws.{trace_of-Block}
use Rattle.isl_nest.specs.Covered.{view_of}
use Rattle.isl_nest.specs.Item.{IsCalledBehind}
use Rattle.isl_nest.specs.Nest.{ListsBehind}
use Rattle.isl_nest.specs.Places.{Stands}
use Rattle.isl_nest.specs.declared.item.Item.{Item}
use Rattle.isl_nest.specs.declared.place.Place.{Place}
use Rattle.isl_loops.specs.Shared.{IsSharedNothing}
use Rattle.isl_loops.specs.Together.{AreApart, ComesBefore, IsCalledBySome, IsOver, ListsAll}
use Rattle.isl_loops.proofs.CallLaws.{all_ordered_precede, all_same_precede}
use Rattle.isl_loops.proofs.ListsLaws.{pairs_before}
use Rattle.isl_loops.proofs.TogetherLaws.{called_begins, called_next, lists_joined, none_called, one_called}

-- ---- blocks
pub block_none : (parts : List Loop) → parts ≡ [] → (point : List ℤ) → trace (Block parts) point ≡ []
block_none parts e point = trace_of-Block parts point ∙ ap (λ (l : List Loop). calls_of l point) e

calls_more : (parts : List Loop) (tree : Loop) (point : List ℤ)
    → calls_of (parts ++ tree ∷ []) point ≡ calls_of parts point ++ trace tree point
calls_more [] tree point = append-nil (trace tree point)
calls_more (part ∷ parts) tree point =
    ap (λ (es : List Event). trace part point ++ es) (calls_more parts tree point)
    ∙ sym (append_assoc (trace part point) (calls_of parts point) (trace tree point))

block_more : (parts : List Loop) (tree : Loop) (made : List Loop) → made ≡ parts ++ tree ∷ [] → (point : List ℤ)
    → trace (Block made) point ≡ trace (Block parts) point ++ trace tree point
block_more parts tree made e point =
    trace_of-Block made point ∙ ap (λ (l : List Loop). calls_of l point) e ∙ calls_more parts tree point
    ∙ ap (λ (es : List Event). es ++ trace tree point) (sym (trace_of-Block parts point))

pub block_over : (g : Gauge) (n : ℕ) (parts : List Loop) → All (IsLoopOver g n) parts → IsLoopOver g n (Block parts)
block_over g n parts over = (block_parts g n (Block parts) parts parts refl refl).1 over

pub parts_over : (g : Gauge) (n : ℕ) (parts : List Loop) (tree : Loop) (made : List Loop) → made ≡ parts ++ tree ∷ []
    → All (IsLoopOver g n) parts → IsLoopOver g n tree → All (IsLoopOver g n) made
parts_over g n parts tree made e over more = subst (All (IsLoopOver g n)) (sym e) (All-push (IsLoopOver g n) parts tree over more)

pub parts_all : (P : Loop → Type 0) (parts : List Loop) (tree : Loop) (made : List Loop) → made ≡ parts ++ tree ∷ []
    → All P parts → P tree → All P made
parts_all P parts tree made e all more = subst (All P) (sym e) (All-push P parts tree all more)

-- ---- what blocks list
module _ (place : Place) where
  pub lists_nothing : (tree : Loop) → ((point : List ℤ) → trace tree point ≡ []) → ListsAll [] place tree
  lists_nothing tree none point stands =
      subst (Lists (IsCalledBySome [] (columns_at place.frame point))) (sym (none point))
      (none_called (λ (item : Item) (t : Timed). IsCalledBehind (view_of item) (columns_at place.frame point) t))

  pub lists_alone : (item : Item) (tree : Loop) → ListsBehind (view_of item) place tree → ListsAll (item ∷ []) place tree
  lists_alone item tree lists point stands =
      one_called (λ (x : Item) (t : Timed). IsCalledBehind (view_of x) (columns_at place.frame point) t) item (trace tree point)
      (lists point stands)

  -- of all items
  pub lists_done : (items : List Item) (i : ℕ) (tree : Loop) → length items ≤ i → ListsAll (take i items) place tree
      → ListsAll items place tree
  lists_done items i tree end lists = subst (λ (xs : List Item). ListsAll xs place tree) (take_all i items end) lists

  module _ (xs ys : List Item) where
    -- the tree of the others behind those of the first
    pub lists_more : (parts made : List Loop) (tree : Loop) → made ≡ parts ++ tree ∷ []
        → ((point : List ℤ) → Stands place point → (s t : Timed) → IsCalledBySome xs (columns_at place.frame point) s
        → IsCalledBySome ys (columns_at place.frame point) t → MayPrecede s t)
        → ListsAll xs place (Block parts) → ListsAll ys place tree → ListsAll (xs ++ ys) place (Block made)
    lists_more parts made tree e cross first second point stands =
        subst (Lists (IsCalledBySome (xs ++ ys) (columns_at place.frame point))) (sym (block_more parts tree made e point))
        (lists_joined (λ (item : Item) (t : Timed). IsCalledBehind (view_of item) (columns_at place.frame point) t) xs ys
        (trace (Block parts) point) (trace tree point) (first point stands) (second point stands) (cross point stands))

    -- the others call nothing
    pub lists_less : (tree : Loop)
        → ((point : List ℤ) → Stands place point → (t : Timed) → ¬ IsCalledBySome ys (columns_at place.frame point) t)
        → ListsAll xs place tree → ListsAll (xs ++ ys) place tree
    lists_less tree none lists point stands =
        let Calls : Timed → Item → Type 0 = λ t item. IsCalledBehind (view_of item) (columns_at place.frame point) t in
        lists_same (IsCalledBySome xs (columns_at place.frame point)) (IsCalledBySome (xs ++ ys) (columns_at place.frame point))
        (trace tree point)
        (λ t. (
          (λ a. Any-left (Calls t) xs ys a),
          (λ a. elim (Any-parts (Calls t) xs ys a) [ inl l ↦ l | inr r ↦ absurd (none point stands t r) ]),
        ))
        (lists point stands)

  long : (point : List ℤ) → length (columns_at place.frame point) ≡ length place.frame
  long point = length-map place.frame (column_at point)

  module _ (g : Gauge) (params times : ℕ) where
    -- items that no number begins call nothing
    pub none_behind : (items : List Item) → All (IsOver g params times) items → params ≤ length place.frame
        → length place.frame < params + times → IsSharedNothing place items → (point : List ℤ) → Stands place point → (t : Timed)
        → ¬ IsCalledBySome items (columns_at place.frame point) t
    none_behind items over low inner none point stands t p =
        let columns = columns_at place.frame point in
        let e = long point in
        let a : params ≤ length columns = omega (arith, e, low) in
        let b : length columns < params + times = omega (arith, e, inner) in
        let next = called_next g params times items over columns a b t p in
        none point next.0 stands (called_begins g params times items over columns a b t (columns ++ next.0 ∷ []) next.1)

    module _ (xs ys : List Item) (firsts : All (IsOver g params times) xs) (seconds : All (IsOver g params times) ys) where
      pub ordered_cross : params ≤ length place.frame → length place.frame < params + times → All (λ a. All (ComesBefore place a) ys) xs
          → (point : List ℤ) → Stands place point → (s t : Timed) → IsCalledBySome xs (columns_at place.frame point) s
          → IsCalledBySome ys (columns_at place.frame point) t → MayPrecede s t
      ordered_cross low inner before point stands =
          let e = long point in
          all_ordered_precede g params times xs ys firsts seconds (columns_at place.frame point) (omega (arith, e, low))
          (omega (arith, e, inner)) (λ i a l j b k. before i a l j b k point stands)

      pub beside_cross : length place.frame ≡ params + times → All (λ a. All (AreApart params a) ys) xs
          → (point : List ℤ) → Stands place point → (s t : Timed) → IsCalledBySome xs (columns_at place.frame point) s
          → IsCalledBySome ys (columns_at place.frame point) t → MayPrecede s t
      beside_cross whole apart point stands =
          let e = long point in
          all_same_precede g params times xs ys firsts seconds (columns_at place.frame point) (omega (arith, e, whole)) apart

    -- one item more, alone or behind all numbers of the times
    module _ (items : List Item) (over : All (IsOver g params times) items) (apart : AllPairs (AreApart params) items)
        (outer : length items ≤ 1 ⊎ (length place.frame ≡ params + times)) (i : ℕ) (item : Item) (low : i < length items)
        (is : item ≡ get_or items i item) where
      more : take (i + 1) items ≡ take i items ++ item ∷ []
      more = take_more items i item low ∙ ap (λ (x : Item). take i items ++ x ∷ []) (sym is)

      this : IsOver g params times item
      this = subst (IsOver g params times) (sym is) (over i item low)

      split : items ≡ take i items ++ item ∷ drop (i + 1) items
      split = sym (take-append-drop i items)
          ∙ ap (λ (xs : List Item). take i items ++ xs)
          (drop_more items i item low ∙ ap (λ (x : Item). x ∷ drop (i + 1) items) (sym is))

      earlier_apart : All (λ a. All (AreApart params a) (item ∷ [])) (take i items)
      earlier_apart =
          All-weaker (λ a. AreApart params a item) (λ a. All (AreApart params a) (item ∷ []))
          (λ a p. All-cons (AreApart params a) item [] p (All-nil (AreApart params a))) (take i items)
          (pairs_before (AreApart params) (take i items) item (drop (i + 1) items) (subst (AllPairs (AreApart params)) split apart))

      earlier_cross : (point : List ℤ) → Stands place point → (s t : Timed) → IsCalledBySome (take i items) (columns_at place.frame point) s
          → IsCalledBySome (item ∷ []) (columns_at place.frame point) t → MayPrecede s t
      earlier_cross point stands s t p q = elim outer [
        | inl alone ↦ absurd (let short = length-take-le i items (omega (arith, low)) in let k = p.2 in omega (arith, short, k, low, alone))
        | inr whole ↦ beside_cross (take i items) (item ∷ []) (All-take (IsOver g params times) i items over)
            (All-cons (IsOver g params times) item [] this (All-nil (IsOver g params times))) whole earlier_apart point stands s t p q
      ]

      pub lists_one_more : (parts made : List Loop) (tree : Loop) → made ≡ parts ++ tree ∷ []
          → ListsAll (take i items) place (Block parts) → ListsBehind (view_of item) place tree
          → ListsAll (take (i + 1) items) place (Block made)
      lists_one_more parts made tree e first lists =
          subst (λ (xs : List Item). ListsAll xs place (Block made)) (sym more)
          (lists_more (take i items) (item ∷ []) parts made tree e earlier_cross first (lists_alone item tree lists))
