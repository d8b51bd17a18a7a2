-- Trees of several items, one after another or in one loop, list the calls of all of them.
use Rattle.std.proofs.Common.{◌≡◌, ◌↔◌, ◌⊎◌, inl, inr, sym, ap, ◌∙◌, subst, arith, ℕ, ◌+◌, ◌<◌, ◌≤◌, ℤ, ◌<ℤ◌}
use Rattle.std.proofs.Common.{List, [], ◌∷◌, ◌++◌, length, length-append}
use Rattle.std.specs.Prelude.{map}
use Rattle.std.specs.List.{All, AllPairs, Any, Contains}
use Rattle.std.proofs.lemmas.List.{length-map}
use Rattle.std.proofs.lemmas.List.Elements.{All-append}
use Rattle.isl_math.proofs.ListLaws.{Any-element, Any-first, Any-contains, Any-left, Any-one, Any-parts, Any-right, Any-weaker}
use Rattle.isl_meter.specs.Gauge.{Gauge}
use Rattle.isl_piece.specs.declared.row.Row.{Row}
use Rattle.isl_piece.specs.Row.{HoldsRow, IsWellFormed}
use Rattle.isl_piece.specs.System.{HoldRows, widened}
use Rattle.isl_piece.proofs.DefinedLaws.{widened_hold}
use Rattle.isl_frame.specs.Frame.{column_at, columns_at, IsFrame}
use Rattle.isl_frame.proofs.FrameLaws.{with_variable_is}
use Rattle.isl_loop.specs.declared.tree.Loop.{Loop}
use Rattle.isl_loop.specs.Nest.{Lists, MayPrecede, Timed}
use Rattle.isl_loop.specs.Run.{each_in, trace, Event}
use Rattle.isl_loop.proofs.NestLaws.{each_lists, lists_append, lists_none, lists_same}
use Rattle.isl_nest.specs.Covered.{view_of}
use Rattle.isl_nest.specs.Item.{IsBegun, IsCalledBehind}
use Rattle.isl_nest.specs.Nest.{with_loop}
use Rattle.isl_nest.specs.Places.{Stands}
use Rattle.isl_nest.specs.declared.item.Item.{Item}
use Rattle.isl_nest.specs.declared.place.Place.{Place}
use Rattle.isl_nest.proofs.BehindLaws.{begun_behind, behind_less, behind_next}
use Rattle.isl_loops.specs.Together.{IsCalledBySome, IsOver, ListsAll, SomeBegins}
use Rattle.isl_loops.proofs.CallLaws.{all_numbers_precede, held}

-- ---- one list after another
-- nothing is called by no item
pub none_called : {X : Type 0} (P : X → Timed → Type 0) → Lists (λ t. Any (λ x. P x t) []) []
none_called P = lists_none (λ t. Any (λ x. P x t) []) (λ t a. absurd (let h = a.2 in omega (arith, h)))

-- one alone
pub one_called : {X : Type 0} (P : X → Timed → Type 0) (x : X) (calls : List Event) → Lists (P x) calls
    → Lists (λ t. Any (λ y. P y t) (x ∷ [])) calls
one_called P x calls l =
    lists_same (P x) (λ t. Any (λ y. P y t) (x ∷ [])) calls (λ t. (Any-first (λ y. P y t) x [], Any-one (λ y. P y t) x)) l

-- those of some, and then of others
pub lists_joined : {X : Type 0} (P : X → Timed → Type 0) (xs ys : List X) (c d : List Event) → Lists (λ t. Any (λ x. P x t) xs) c
    → Lists (λ t. Any (λ x. P x t) ys) d → ((s t : Timed) → Any (λ x. P x s) xs → Any (λ x. P x t) ys → MayPrecede s t)
    → Lists (λ t. Any (λ x. P x t) (xs ++ ys)) (c ++ d)
lists_joined P xs ys c d a b cross =
    lists_same (λ t. Any (λ x. P x t) xs ⊎ Any (λ x. P x t) ys) (λ t. Any (λ x. P x t) (xs ++ ys)) (c ++ d)
    (λ t. (
      (λ p. elim p [ inl l ↦ Any-left (λ x. P x t) xs ys l | inr r ↦ Any-right (λ x. P x t) xs ys r ]),
      Any-parts (λ x. P x t) xs ys,
    ))
    (lists_append (λ t. Any (λ x. P x t) xs) (λ t. Any (λ x. P x t) ys) c d a b cross)

-- of the same items in another order
pub lists_reordered : {X : Type 0} (P : X → Timed → Type 0) (xs ys : List X) (c : List Event)
    → ((Q : X → Type 0) → Any Q xs ↔ Any Q ys) → Lists (λ t. Any (λ x. P x t) xs) c → Lists (λ t. Any (λ x. P x t) ys) c
lists_reordered P xs ys c same l = lists_same (λ t. Any (λ x. P x t) xs) (λ t. Any (λ x. P x t) ys) c (λ t. same (λ x. P x t)) l

-- ---- one loop
module _ (g : Gauge) (params times : ℕ) (items : List Item) (over : All (IsOver g params times) items) (columns : List ℤ)
    (low : params ≤ length columns) (inner : length columns < params + times) where
  -- what is called is called behind some next number
  pub called_next : (t : Timed) → IsCalledBySome items columns t → (x : ℤ) × IsCalledBySome items (columns ++ x ∷ []) t
  called_next t p =
      let a = Any-element (λ (item : Item). IsCalledBehind (view_of item) columns t) items p in
      let one = held (IsOver g params times) items a.0 over a.1 in
      let room : length columns < a.0.params + a.0.levels =
      (let h = one.covered.is.times in let e = one.params_are in let f = one.times_are in omega (arith, h, e, f, inner)) in
      let next = behind_next (view_of a.0) columns t room a.2 in
      (next.0, Any-contains (λ (item : Item). IsCalledBehind (view_of item) (columns ++ next.0 ∷ []) t) items a.0 a.1 next.1)

  pub called_less : (t : Timed) (x : ℤ) → IsCalledBySome items (columns ++ x ∷ []) t → IsCalledBySome items columns t
  called_less t x =
      Any-weaker (λ (item : Item). IsCalledBehind (view_of item) (columns ++ x ∷ []) t)
      (λ (item : Item). IsCalledBehind (view_of item) columns t) (λ item p. behind_less (view_of item) columns t x p) items

  pub called_begins : (t : Timed) (ys : List ℤ) → IsCalledBySome items ys t → SomeBegins items ys
  called_begins t ys =
      Any-weaker (λ (item : Item). IsCalledBehind (view_of item) ys t) (λ (item : Item). IsBegun (view_of item) ys)
      (λ item p. begun_behind (view_of item) ys t p) items

  -- turn after turn, where each number that begins a point is a turn
  pub turns_list : (turns : List ℤ) (f : ℤ → List Event) → AllPairs (λ x y. x <ℤ y) turns
      → ((x : ℤ) → Contains turns x → Lists (IsCalledBySome items (columns ++ x ∷ [])) (f x))
      → ((x : ℤ) → SomeBegins items (columns ++ x ∷ []) → Contains turns x) → Lists (IsCalledBySome items columns) (each_in f turns)
  turns_list turns f up lists cover =
      let Q : ℤ → Timed → Type 0 = λ x. IsCalledBySome items (columns ++ x ∷ []) in
      lists_same (λ t. (x : ℤ) × Contains turns x × Q x t) (IsCalledBySome items columns) (each_in f turns)
      (λ t. (
        (λ z. called_less t z.0 z.2),
        (λ p.
            let next = called_next t p in
            (next.0, cover next.0 (called_begins t (columns ++ next.0 ∷ []) next.1), next.1)),
      ))
      (each_lists Q f turns up lists
      (λ x y s t less p q. all_numbers_precede g params times items items over over columns low inner x y less s t p q))

-- the place inside of a loop stands at each turn
pub stands_inside : (place : Place) (inside : List Row) → IsFrame place.variables place.frame
    → All (IsWellFormed place.variables) place.context → (point : List ℤ) (x : ℤ) → Stands place point
    → HoldRows inside (point ++ x ∷ []) → Stands (with_loop place inside) (point ++ x ∷ [])
stands_inside place inside framed formed point x stands holds =
    let H : Row → Type 0 = λ r. HoldsRow r (point ++ x ∷ []) in
    let made = with_variable_is place.variables place.frame framed in
    let over : All (IsWellFormed (length point)) place.context =
    subst (λ n. All (IsWellFormed n) place.context) (sym stands.width) formed in record {
      width = length-append point (x ∷ []) ∙ ap (λ n. n + 1) stands.width;
      context = All-append H (map widened place.context) inside ((widened_hold place.context point x over).1 stands.context) holds;
      whole = (made.whole point x stands.width).1 stands.whole;
    }

-- Items in one loop: each number that begins a point of one is a turn, and the body lists the calls of all.
pub lists_shared : (g : Gauge) (params times : ℕ) (items : List Item) (place : Place) (turns : List ℤ → List ℤ) (inside : List Row)
    (tree body : Loop) → All (IsOver g params times) items → params ≤ length place.frame → length place.frame < params + times
    → IsFrame place.variables place.frame → All (IsWellFormed place.variables) place.context
    → ((point : List ℤ) → AllPairs (λ x y. x <ℤ y) (turns point))
    → ((point : List ℤ) (x : ℤ) → Stands place point → SomeBegins items (columns_at place.frame point ++ x ∷ [])
    → Contains (turns point) x)
    → ((point : List ℤ) (x : ℤ) → length point ≡ place.variables → Contains (turns point) x → HoldRows inside (point ++ x ∷ []))
    → ((point : List ℤ) → length point ≡ place.variables → trace tree point ≡ each_in (λ x. trace body (point ++ x ∷ [])) (turns point))
    → ListsAll items (with_loop place inside) body → ListsAll items place tree
lists_shared g params times items place turns inside tree body over low inner framed formed up cover known calls lists point stands =
    let columns = columns_at place.frame point in
    let long : length columns ≡ length place.frame = length-map place.frame (column_at point) in
    let same = (with_variable_is place.variables place.frame framed).columns in
    subst (Lists (IsCalledBySome items columns)) (sym (calls point stands.width))
    (turns_list g params times items over columns (omega (arith, long, low)) (omega (arith, long, inner)) (turns point)
    (λ x. trace body (point ++ x ∷ [])) (up point)
    (λ x turn. subst (λ (xs : List ℤ). Lists (IsCalledBySome items xs) (trace body (point ++ x ∷ []))) (same point x stands.width)
    (lists (point ++ x ∷ []) (stands_inside place inside framed formed point x stands (known point x stands.width turn))))
    (λ x begins. cover point x stands begins))
