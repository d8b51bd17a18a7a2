-- What an item calls: what its calls tell.
use Rattle.std.proofs.Common.{◌≡◌, ◌↔◌, refl, sym, ap, ap₂, ◌∙◌, subst, arith, ℕ, ◌+◌, ◌-◌, ◌≤◌, ℤ, Bool, true, false, List, []}
use Rattle.std.proofs.Common.{◌++◌, append-nil, append_assoc, length, length-append, take, drop, Option}
use Rattle.std.specs.List.{range_with_len}
use Rattle.std.proofs.Math.Seq.{drop-append_seam, take-append_seam}
use Rattle.isl_space.specs.Form.{Form, width_of}
use Rattle.isl_space.specs.Name.{Name}
use Rattle.isl_space.specs.Shape.{form_of}
use Rattle.isl_space.specs.Valuation.{Valuation, values_of}
use Rattle.isl_space.proofs.ValuationLaws.{length-values_of}
use Rattle.isl_piece.specs.declared.row.Row.{Row}
use Rattle.isl_piece.specs.Meet.{numbers_at}
use Rattle.isl_piece.specs.System.{HoldsSystem, free_columns}
use Rattle.isl_elim.proofs.ProjectionLaws.{plain_holds}
use Rattle.isl_blocks.proofs.BlockLaws.{numbers_between}
use Rattle.isl_loop.specs.Nest.{Timed}
use Rattle.isl_nest.specs.Item.{timed_at, IsCalledBehind, ItemView}
use Rattle.isl_relation.specs.Point.{Point, IsPoint}
use Rattle.isl_calls.specs.declared.calls.Calls.{Calls}
use Rattle.isl_calls.specs.Apart.{called_form}
use Rattle.isl_calls.specs.Calls.{numbers_behind, width_behind, IsCalledAt}
use Rattle.isl_calls.proofs.CallsLaws.{behind_long, read}
use Rattle.isl_schedule.specs.Due.{name_of, timed_call}

-- ---- lists
drop_front : (n : ℕ) (xs ys : List ℤ) → length xs ≡ n → drop n (xs ++ ys) ≡ ys
drop_front n xs ys e = subst (λ k. drop k (xs ++ ys) ≡ ys) e (drop-append_seam xs ys)

take_front : (n : ℕ) (xs ys : List ℤ) → length xs ≡ n → take n (xs ++ ys) ≡ xs
take_front n xs ys e = subst (λ k. take k (xs ++ ys) ≡ xs) e (take-append_seam xs ys)

read_last : (start count : ℕ) (front block : List ℤ) → length front ≡ start → length block ≡ count
    → numbers_at (range_with_len start count) (front ++ block) ≡ block
read_last start count front block e h =
    subst (λ k. numbers_at (range_with_len k count) (front ++ block) ≡ block) e
    (subst (λ k. numbers_at (range_with_len (length front) k) (front ++ block) ≡ block) h
    (subst (λ (ys : List ℤ). numbers_at (range_with_len (length front) (length block)) (front ++ ys) ≡ block) (append-nil block)
    (numbers_between front block [])))

-- ---- the columns of an item
-- the item of calls over so many parameters
abbrev pub item_view : ℕ → Calls → ItemView
item_view params c =
    let domain = width_of (called_form c) in
    let times = width_of (form_of c.time.value) in
    record {
      name = name_of (called_form c);
      params = params;
      levels = width_behind c.is_own domain times;
      times = times;
      arguments = range_with_len ((params + width_behind c.is_own domain times) - domain) domain;
      rows = c.system.rows;
    }

module _ (params : ℕ) (name : Option Name) (domain times : ℕ) (rows : List Row) where
  abbrev view_for : Bool → ItemView
  view_for own = record {
    name = name;
    params = params;
    levels = width_behind own domain times;
    times = times;
    arguments = range_with_len ((params + width_behind own domain times) - domain) domain;
    rows = rows;
  }

  -- what it calls at the columns of a point and its time
  timed_is : (own : Bool) (front x t : List ℤ) → length front ≡ params → length x ≡ domain → length t ≡ times
      → (own ≡ true → (t ≡ x) × (domain ≡ times))
      → timed_at (view_for own) (front ++ numbers_behind own x t) ≡ (t, record { name = name; args = x })
  timed_is true front x t f d n same =
      let time : take times (drop params (front ++ t)) ≡ t = ap (take times) (drop_front params front t f)
      ∙ ap (take times) (sym (append-nil t)) ∙ take_front times t [] n in
      let start : (params + times) - domain ≡ params = let e = (same refl).1 in omega (arith, e) in
      let args : numbers_at (range_with_len ((params + times) - domain) domain) (front ++ t) ≡ x =
      ap (λ (k : ℕ). numbers_at (range_with_len k domain) (front ++ t)) start
      ∙ ap (λ (ys : List ℤ). numbers_at (range_with_len params domain) (front ++ ys)) (same refl).0
      ∙ read_last params domain front x f d in
      ap₂ (λ (a b : List ℤ). let r : Timed = (a, record { name = name; args = b }) in r) time args
  timed_is false front x t f d n same =
      let time : take times (drop params (front ++ (t ++ x))) ≡ t = ap (take times) (drop_front params front (t ++ x) f)
      ∙ take_front times t x n in
      let long : length (front ++ t) ≡ params + times = length-append front t ∙ (let a = f in let b = n in omega (arith, a, b)) in
      let start : (params + (times + domain)) - domain ≡ params + times = omega arith in
      let args : numbers_at (range_with_len ((params + (times + domain)) - domain) domain) (front ++ (t ++ x)) ≡ x =
      ap (λ (k : ℕ). numbers_at (range_with_len k domain) (front ++ (t ++ x))) start
      ∙ subst (λ (ys : List ℤ). numbers_at (range_with_len (params + times) domain) ys ≡ x) (append_assoc front t x)
      (read_last (params + times) domain (front ++ t) x long d) in
      ap₂ (λ (a b : List ℤ). let r : Timed = (a, record { name = name; args = b }) in r) time args

-- ---- what it calls
module _ (params : ℕ) (c : Calls) (plain : c.system.definitions ≡ [])
    (same : c.is_own ≡ true → called_form c ≡ form_of c.time.value) (names : List Name) (few : length names ≡ params) (v : Valuation) where
  abbrev D : ℕ
  D = width_of (called_form c)

  abbrev T : ℕ
  T = width_of (form_of c.time.value)

  abbrev front : List ℤ
  front = values_of names v

  front_long : length front ≡ params
  front_long = length-values_of names v ∙ few

  timed_here : (x t : Point) → x.form ≡ called_form c → t.form ≡ form_of c.time.value → IsPoint x → IsPoint t
      → (c.is_own ≡ true → t ≡ x)
      → timed_at (item_view params c) (front ++ numbers_behind c.is_own x.numbers t.numbers) ≡ timed_call x t
  timed_here x t domain time first second own =
      timed_is params (name_of (called_form c)) D T c.system.rows c.is_own front x.numbers t.numbers front_long
      (first ∙ ap width_of domain) (second ∙ ap width_of time) (λ e. (ap (λ (p : Point). p.numbers) (own e), ap width_of (same e)))
      ∙ ap (λ (f : Form). let r : Timed = (t.numbers, record { name = name_of f; args = x.numbers }) in r) (sym domain)

  pub called_behind : (timed : Timed)
      → IsCalledBehind (item_view params c) front timed
      ↔ ((x : Point) × (t : Point) × IsCalledAt names v x t c × (timed ≡ timed_call x t))
  called_behind timed = (
    (λ h.
        let w = h.width in
        let l = length-append front h.rest in
        let f = front_long in
        let r = read c c.is_own h.rest same (omega (arith, w, l, f)) in
        let system : HoldsSystem c.system (front ++ h.rest) = (plain_holds c.system (front ++ h.rest) plain).1 h.holds in (
          r.x,
          r.t,
          record {
            domain = r.domain;
            time = r.time;
            point = r.point;
            at = r.at;
            own = r.own;
            holds = subst (λ (ns : List ℤ). HoldsSystem c.system (front ++ ns)) (sym r.is) system;
          },
          h.call ∙ ap (λ (ns : List ℤ). timed_at (item_view params c) (front ++ ns)) (sym r.is)
              ∙ timed_here r.x r.t r.domain r.time r.point r.at r.own,
        )),
    (λ h.
        let x = h.0 in
        let t = h.1 in
        let at = h.2 in
        let l = length-append front (numbers_behind c.is_own x.numbers t.numbers) in
        let b = behind_long c.is_own x.numbers t.numbers
        ∙ ap (λ n. width_behind c.is_own n (length t.numbers)) (at.point ∙ ap width_of at.domain)
        ∙ ap (λ n. width_behind c.is_own D n) (at.at ∙ ap width_of at.time) in
        let f = front_long in
        record {
          rest = numbers_behind c.is_own x.numbers t.numbers;
          width = l ∙ ap (λ n. n + length (numbers_behind c.is_own x.numbers t.numbers)) f ∙ ap (λ n. params + n) b;
          holds = (plain_holds c.system (front ++ numbers_behind c.is_own x.numbers t.numbers) plain).0 at.holds;
          call = h.3 ∙ sym (timed_here x t at.domain at.time at.point at.at at.own);
        }),
  )

-- ---- the item that is made
module _ (params : ℕ) (c : Calls)
    (free : free_columns c.system ≡ params + width_behind c.is_own (width_of (called_form c)) (width_of (form_of c.time.value)))
    (few : width_of (called_form c) ≤ free_columns c.system) where
  views_same : (a b : ItemView) → a.name ≡ b.name → a.params ≡ b.params → a.levels ≡ b.levels → a.times ≡ b.times
      → a.arguments ≡ b.arguments → a.rows ≡ b.rows → a ≡ b
  views_same a b n p l t r s = by a.name b.name a.params b.params a.levels b.levels a.times b.times a.arguments b.arguments a.rows b.rows
      n p l t r s
    where
      made : Option Name → ℕ → ℕ → ℕ → List ℕ → List Row → ItemView
      made n p l t r s = record { name = n; params = p; levels = l; times = t; arguments = r; rows = s }

      by : (n n' : Option Name) (p p' l l' t t' : ℕ) (r r' : List ℕ) (s s' : List Row) → n ≡ n' → p ≡ p' → l ≡ l' → t ≡ t' → r ≡ r'
          → s ≡ s' → made n p l t r s ≡ made n' p' l' t' r' s'
      by n n' p p' l l' t t' r r' s s' a b c d e f = cc

  pub view_made : (view : ItemView) → view.name ≡ name_of (called_form c) → view.params ≡ params
      → view.levels ≡ free_columns c.system - params → view.times ≡ width_of (form_of c.time.value)
      → view.arguments ≡ range_with_len (free_columns c.system - width_of (called_form c))
      (free_columns c.system - (free_columns c.system - width_of (called_form c)))
      → view.rows ≡ c.system.rows → view ≡ item_view params c
  view_made view name params_are levels times arguments rows =
      let D = width_of (called_form c) in
      let W = width_behind c.is_own D (width_of (form_of c.time.value)) in
      let f = free in
      let level : free_columns c.system - params ≡ W = omega (arith, f) in
      let start : free_columns c.system - D ≡ (params + W) - D = ap (λ k. k - D) f in
      let count : free_columns c.system - (free_columns c.system - D) ≡ D = let l = few in omega (arith, l) in
      views_same view (item_view params c) name params_are (levels ∙ level) times
      (arguments ∙ ap (λ k. range_with_len k (free_columns c.system - (free_columns c.system - D))) start
      ∙ ap (range_with_len ((params + W) - D)) count) rows
