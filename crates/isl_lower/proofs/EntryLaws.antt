-- The equations of the entries of tuples.
use Rattle.std.proofs.Common.{◌≡◌, ◌∙◌, ◌↔◌, inl, inr, refl, sym, ap, subst, ℕ, suc, ◌+◌, ◌-◌, ◌<◌, ◌≤◌, ◌^◌, ℤ, pos, ◌+ℤ◌, ◌*ℤ◌, Bool, true, false, List, [], ◌∷◌, ◌++◌}
use Rattle.std.proofs.Common.{length, take, drop, get_or, arith, Option, Some, None, All, Result, Ok, Err}
use Rattle.std.specs.Prelude.{◌||◌, ◌&&◌, is_some, IfSome, if◌then◌else◌}
use Rattle.std.specs.Str.{bytes_eq}
use Rattle.std.specs.List.{list_all}
use Rattle.std.proofs.lemmas.Bool.{eqb-true, false≢true}
use Rattle.std.proofs.lemmas.Slice.Eq.{bytes_eq-Decides}
use Rattle.std.proofs.lemmas.List.{length-append, length-map, drop_more, drop_all}
use Rattle.std.proofs.lemmas.List.Elements.{All-cons, All-head, All-nil}
use Rattle.isl_math.proofs.ListLaws.{All-parts}
use Rattle.isl_math.proofs.Ring.{linear}
use Rattle.isl_meter.specs.Gauge.{Gauge}
use Rattle.isl_space.specs.Valuation.{value_at, values_of}
use Rattle.isl_piece.specs.Row.{IsWellFormed, IsRowWithin}
use Rattle.isl_piece.specs.declared.system.System.{System}
use Rattle.isl_piece.specs.System.{HoldsSystem, IsSystemWithin, free_columns}
use Rattle.isl_tree.specs.declared.tree.Factor.{Name, Inner', Floor', Ceil'}
use Rattle.isl_tree.specs.declared.tree.Signed.{Signed'}
use Rattle.isl_tree.specs.declared.tree.Product.{Product', None', Some'}
use Rattle.isl_tree.specs.declared.tree.Entry.{Entry}
use Rattle.isl_tree.specs.declared.tree.Entry.TheVariants.{Plain, Named}
use Rattle.isl_tree.specs.declared.tree.Tuple.{Tuple}
use Rattle.isl_tree.specs.declared.tree.Tuple.TheVariants.{Leaf, Pair}
use Rattle.isl_tree.specs.declared.tree.PieceTree.{PieceTree}
use Rattle.isl_tree.specs.Environment.{Environment, value_in}
use Rattle.isl_tree.specs.Term.{Term, term_value}
use Rattle.isl_tree.specs.Literal.{is_among, lone_name, unless_known, new_name, known_after, entry_term, entries_of, second_entries, piece_entries}
use Rattle.isl_tree.specs.Literal.{piece_environment, EntriesEqual}
use Rattle.isl_tree.specs.Known.{term_names, term_is_known, entry_is_known, entries_are_known, known_behind}
use Rattle.isl_tree.specs.Divisors.{HasDivisors}
use Rattle.isl_affine.specs.Scope.{Scope, column_of, IsNumbered, KnowsAll, IsTermKnown}
use Rattle.isl_lower.specs.Names.{is_at, is_name_at, piece_names}
use Rattle.isl_lower.specs.Entries.{Condition, EntryAt, EntriesAt, AreReady, HoldsWith}
use Rattle.isl_lower.specs.Tuples.{AreFormed, IsTuplesSystem}
use Rattle.isl_lower.proofs.NameLaws.{entries_at, piece_names_length}
use Rattle.isl_lower.proofs.PointLaws.{Stands, coordinates_stand, piece_knows, piece_numbered}

-- ---- widths
pub width-Leaf : (t : Tuple) (title : Option (List ℕ)) (es : List Entry) (r : ℕ) → t ≡ Leaf title es → r ≡ length es
    → r ≡ length (entries_of t)
width-Leaf t title es r is count = count ∙ sym (ap (λ (x : Tuple). length (entries_of x)) is)

width_sum : (t a b : Tuple) → t ≡ Pair a b → length (entries_of t) ≡ length (entries_of a) + length (entries_of b)
width_sum t a b is = ap (λ (es : List Entry). length es) (entries_at t a b is) ∙ length-append (entries_of a) (entries_of b)

pub width-Pair : (t a b u v : Tuple) (m n : ℕ) → t ≡ Pair a b → u ≡ a → v ≡ b → m ≡ length (entries_of u) → n ≡ length (entries_of v)
    → m + n ≡ length (entries_of t)
width-Pair t a b u v m n is left right first second =
    rw (first, second, left, right) (sym (width_sum t a b is))

pub width-left : (t a b u : Tuple) → t ≡ Pair a b → u ≡ a → length (entries_of t) < 2 ^ 64 → length (entries_of u) < 2 ^ 64
width-left t a b u is left small = rw left (let sum = width_sum t a b is in omega (arith, sum, small))

pub width-right : (t a b v : Tuple) → t ≡ Pair a b → v ≡ b → length (entries_of t) < 2 ^ 64 → length (entries_of v) < 2 ^ 64
width-right t a b v is right small = rw right (let sum = width_sum t a b is in omega (arith, sum, small))

pub width-fits : (t a b u v : Tuple) (m n : ℕ) → t ≡ Pair a b → u ≡ a → v ≡ b → m ≡ length (entries_of u) → n ≡ length (entries_of v)
    → length (entries_of t) < 2 ^ 64 → m + n < 2 ^ 64
width-fits t a b u v m n is left right first second small =
    let sum = width-Pair t a b u v m n is left right first second in omega (arith, sum, small)

-- the place behind the left part
pub place-fits : (t a b u : Tuple) (first w : ℕ) → t ≡ Pair a b → u ≡ a → w ≡ length (entries_of u)
    → first + length (entries_of t) < 2 ^ 64 → first + w < 2 ^ 64
place-fits t a b u first w is left count small =
    let sum = width_sum t a b is in
    let same : length (entries_of u) ≡ length (entries_of a) = ap (λ (x : Tuple). length (entries_of x)) left in
    omega (arith, sum, same, count, small)

pub ruleset widths = (width-Leaf, width-Pair)

-- ---- a name alone
no_name : (name : List ℕ) → None ≡ Some name → ⊥
no_name name e = cc

lone_value : (term : Term) (name : List ℕ) (env : Environment) → lone_name term ≡ Some name → term_value term env ≡ value_in env name
lone_value [] name env e = absurd (no_name name e)
lone_value (Signed' true product ∷ parts) name env e = absurd (no_name name e)
lone_value (Signed' false (Product' (m ∷ ms) inner) ∷ parts) name env e = absurd (no_name name e)
lone_value (Signed' false (Product' [] None') ∷ parts) name env e = absurd (no_name name e)
lone_value (Signed' false (Product' [] (Some' (Inner' s row) ks)) ∷ parts) name env e = absurd (no_name name e)
lone_value (Signed' false (Product' [] (Some' (Floor' s row k) ks)) ∷ parts) name env e = absurd (no_name name e)
lone_value (Signed' false (Product' [] (Some' (Ceil' s row k) ks)) ∷ parts) name env e = absurd (no_name name e)
lone_value (Signed' false (Product' [] (Some' (Name m) (k ∷ ks))) ∷ parts) name env e = absurd (no_name name e)
lone_value (Signed' false (Product' [] (Some' (Name m) [])) ∷ (part ∷ parts)) name env e = absurd (no_name name e)
lone_value (Signed' false (Product' [] (Some' (Name m) [])) ∷ []) name env e =
    let same : m ≡ name = cc in by (value_in env m) (value_in env name) (ap (value_in env) same)
  where
    by : (v w : ℤ) → v ≡ w → pos 1 *ℤ v +ℤ pos 0 ≡ w
    by v w e = omega (arith, linear)

lone_names : (term : Term) (name : List ℕ) → lone_name term ≡ Some name → term_names term ≡ name ∷ []
lone_names [] name e = absurd (no_name name e)
lone_names (Signed' true product ∷ parts) name e = absurd (no_name name e)
lone_names (Signed' false (Product' (m ∷ ms) inner) ∷ parts) name e = absurd (no_name name e)
lone_names (Signed' false (Product' [] None') ∷ parts) name e = absurd (no_name name e)
lone_names (Signed' false (Product' [] (Some' (Inner' s row) ks)) ∷ parts) name e = absurd (no_name name e)
lone_names (Signed' false (Product' [] (Some' (Floor' s row k) ks)) ∷ parts) name e = absurd (no_name name e)
lone_names (Signed' false (Product' [] (Some' (Ceil' s row k) ks)) ∷ parts) name e = absurd (no_name name e)
lone_names (Signed' false (Product' [] (Some' (Name m) (k ∷ ks))) ∷ parts) name e = absurd (no_name name e)
lone_names (Signed' false (Product' [] (Some' (Name m) [])) ∷ (part ∷ parts)) name e = absurd (no_name name e)
lone_names (Signed' false (Product' [] (Some' (Name m) [])) ∷ []) name e =
    let same : m ≡ name = cc in ap (λ (n : List ℕ). n ∷ []) same

-- ---- what the entries know
among_more : (found : Option (List ℕ)) (known : List (List ℕ)) (name : List ℕ) → is_among known name ≡ true
    → is_among (known_after known found) name ≡ true
among_more None known name among = among
among_more (Some m) known name among = by (bytes_eq m name) refl
  where
    by : (b : Bool) → bytes_eq m name ≡ b → is_among (m ∷ known) name ≡ true
    by true is = ap (λ (b : Bool). b || is_among known name) is
    by false is = ap (λ (b : Bool). b || is_among known name) is ∙ among

among_behind : (entries : List Entry) (known : List (List ℕ)) (name : List ℕ) → is_among known name ≡ true
    → is_among (known_behind known entries) name ≡ true
among_behind [] known name among = among
among_behind (entry ∷ entries) known name among =
    among_behind entries (known_after known (new_name known entry)) name (among_more (new_name known entry) known name among)

both_true : (a b : Bool) → (a && b) ≡ true → (a ≡ true) × (b ≡ true)
both_true true b e = (refl, e)
both_true false b e = absurd (false≢true e)

either_true : (a b : Bool) → (a || b) ≡ true → a ≡ false → b ≡ true
either_true true b e is = absurd (false≢true (sym is))
either_true false b e is = e

all_more : (p q : List ℕ → Bool) → ((x : List ℕ) → p x ≡ true → q x ≡ true) → (xs : List (List ℕ)) → list_all p xs ≡ true
    → list_all q xs ≡ true
all_more p q each [] h = refl
all_more p q each (x ∷ xs) h =
    let both = both_true (p x) (list_all p xs) h in rw (each x both.0) (all_more p q each xs both.1)

among_itself : (name : List ℕ) (known : List (List ℕ)) → is_among (name ∷ known) name ≡ true
among_itself name known = ap (λ (b : Bool). b || is_among known name) ((bytes_eq-Decides name name).1 refl)

new_is_lone : (known : List (List ℕ)) (found : Option (List ℕ)) (name : List ℕ) → unless_known known found ≡ Some name → found ≡ Some name
new_is_lone known None name e = absurd (no_name name e)
new_is_lone known (Some m) name e = by (is_among known m) e
  where
    by : (b : Bool) → (if b then None else Some m) ≡ Some name → Some m ≡ Some name
    by true e = absurd (no_name name e)
    by false e = e

-- the term of an entry knows its names behind the entry
known_here : (known : List (List ℕ)) (entry : Entry) → entry_is_known known entry ≡ true
    → term_is_known (known_after known (new_name known entry)) (entry_term entry) ≡ true
known_here known (Named name term) is =
    all_more (is_among known) (is_among (name ∷ known)) (λ n. among_more (Some name) known n) (term_names term) is
known_here known (Plain term) is = by (new_name known (Plain term)) refl
  where
    by : (o : Option (List ℕ)) → new_name known (Plain term) ≡ o → term_is_known (known_after known o) term ≡ true
    by None e = sym (ap (λ (o : Option (List ℕ)). is_some o || term_is_known known term) e) ∙ is
    by (Some name) e =
        let lone = new_is_lone known (lone_name term) name e in
        ap (list_all (is_among (name ∷ known))) (lone_names term name lone) ∙ ap (λ (b : Bool). b && true) (among_itself name known)

pub terms_known : (scope : Scope) (all : List (List ℕ)) → KnowsAll scope all → (entries : List Entry) (known : List (List ℕ))
    → ((name : List ℕ) → is_among (known_behind known entries) name ≡ true → is_among all name ≡ true)
    → entries_are_known known entries ≡ true → All (λ entry. IsTermKnown scope (entry_term entry)) entries
terms_known scope all knows [] known within are = All-nil (λ (entry : Entry). IsTermKnown scope (entry_term entry))
terms_known scope all knows (entry ∷ entries) known within are =
    let after = known_after known (new_name known entry) in
    let both = both_true (entry_is_known known entry) (entries_are_known after entries) are in
    All-cons (λ (entry : Entry). IsTermKnown scope (entry_term entry)) entry entries (
      all,
      knows,
      all_more (is_among after) (is_among all) (λ name among. within name (among_behind entries after name among))
          (term_names (entry_term entry)) (known_here known entry both.0),
    )
    (terms_known scope all knows entries after within both.1)

-- ---- entries at their columns
pub at_append : (es fs : List Entry) (first : ℕ) (point : List ℤ) (env : Environment)
    → EntriesAt (es ++ fs) first point env ↔ (EntriesAt es first point env × EntriesAt fs (first + length es) point env)
at_append [] fs first point env =
    let e : first ≡ first + 0 = omega arith in (
      (λ h. (tt, subst (λ (k : ℕ). EntriesAt fs k point env) e h)),
      (λ h. subst (λ (k : ℕ). EntriesAt fs k point env) (sym e) h.1),
    )
at_append (e ∷ es) fs first point env =
    let more = at_append es fs (first + 1) point env in
    let same : (first + 1) + length es ≡ first + length (e ∷ es) = omega arith in (
      (λ h. let m = more.0 h.1 in ((h.0, m.0), subst (λ (k : ℕ). EntriesAt fs k point env) same m.1)),
      (λ h. (h.0.0, more.1 (h.0.1, subst (λ (k : ℕ). EntriesAt fs k point env) (sym same) h.1))),
    )

-- entries at the columns of their coordinates equal them
pub at_equal : (entries : List Entry) (xs : List ℤ) (first : ℕ) (point : List ℤ) (env : Environment) → Stands point first xs
    → length entries ≡ length xs → EntriesAt entries first point env ↔ EntriesEqual entries xs env
at_equal [] [] first point env stands same = (λ h. h, λ h. h)
at_equal [] (x ∷ xs) first point env stands same = absurd (omega arith)
at_equal (e ∷ es) [] first point env stands same = absurd (omega arith)
at_equal (e ∷ es) (x ∷ xs) first point env stands same =
    let more = at_equal es xs (first + 1) point env stands.1 (omega arith) in
    ((λ h. (h.0 ∙ stands.0, more.0 h.1)), (λ h. (h.0 ∙ sym stands.0, more.1 h.1)))

-- the only one
pub divisors_one : (entry : Entry) → All (λ entry. HasDivisors (entry_term entry)) (entry ∷ []) → HasDivisors (entry_term entry)
divisors_one entry all = All-head (λ (e : Entry). HasDivisors (entry_term e)) entry [] all

-- ---- systems with more equations
module _ (g : Gauge) (scope : Scope) where
  -- none
  pub holds_none : (s : System) (first : ℕ) → IsSystemWithin g s → HoldsWith g scope s s (EntriesAt [] first)
  holds_none s first within = record {
    within = within;
    free = refl;
    points = λ point env long numbered. ((λ h. (h, tt)), (λ h. h.0));
  }

  -- an entry that is the name of its column
  pub holds_same : (s : System) (entry : Entry) (column : ℕ) → IsSystemWithin g s
      → is_name_at scope (lone_name (entry_term entry)) column ≡ true → HoldsWith g scope s s (EntryAt entry column)
  holds_same s entry column within is = record {
    within = within;
    free = refl;
    points = λ point env long numbered. ((λ h. (h, equal point env numbered (lone_name (entry_term entry)) refl is)), (λ h. h.0));
  }
    where
      equal : (point : List ℤ) (env : Environment) → IsNumbered scope point env → (o : Option (List ℕ))
          → lone_name (entry_term entry) ≡ o → is_name_at scope o column ≡ true → EntryAt entry column point env
      equal point env numbered None e named = absurd (false≢true named)
      equal point env numbered (Some name) e named =
          lone_value (entry_term entry) name env e ∙ at (column_of scope name) named (numbered.value name)
        where
          at : (o : Option ℕ) → is_at o column ≡ true → IfSome o (λ k. value_in env name ≡ get_or point k (pos 0))
              → value_in env name ≡ get_or point column (pos 0)
          at None named stands = absurd (false≢true named)
          at (Some k) named stands =
              let same : k ≡ column = eqb-true k column named in stands ∙ ap (λ (k : ℕ). get_or point k (pos 0)) same

  -- one after the other
  pub holds_then : (s mid new : System) (P Q R : Condition) → ((point : List ℤ) (env : Environment) → R point env ↔ (P point env × Q point env))
      → HoldsWith g scope s mid P → HoldsWith g scope mid new Q → HoldsWith g scope s new R
  holds_then s mid new P Q R split one two = record {
    within = two.within;
    free = two.free ∙ one.free;
    points = λ point env long numbered.
        let first = one.points point env long numbered in
        let second = two.points point env (long ∙ sym one.free) numbered in
        let both = split point env in (
          (λ h. let m = second.0 h in let l = first.0 m.0 in (l.0, both.1 (l.1, m.1))),
          (λ h. let pq = both.0 h.1 in second.1 (first.1 (h.0, pq.0), pq.1)),
        );
  }

  pub ready_front : (s : System) (first : ℕ) (es fs all : List Entry) → all ≡ es ++ fs → AreReady g scope s first all
      → AreReady g scope s first es
  ready_front s first es fs all is ready =
      let long : length all ≡ length es + length fs = ap (λ (l : List Entry). length l) is ∙ length-append es fs in
      let room = ready.room in
      let bounded = ready.bounded in
      record {
        within = ready.within;
        columns = ready.columns;
        room = omega (arith, long, room);
        bounded = omega (arith, long, bounded);
        known = (All-parts (λ (e : Entry). IsTermKnown scope (entry_term e)) es fs
            (subst (All (λ (e : Entry). IsTermKnown scope (entry_term e))) is ready.known)).0;
        divisors = (All-parts (λ (e : Entry). HasDivisors (entry_term e)) es fs
            (subst (All (λ (e : Entry). HasDivisors (entry_term e))) is ready.divisors)).0;
      }

  pub ready_back : (s mid : System) (first behind : ℕ) (es fs all : List Entry) → all ≡ es ++ fs → behind ≡ first + length es
      → IsSystemWithin g mid → free_columns mid ≡ free_columns s → AreReady g scope s first all → AreReady g scope mid behind fs
  ready_back s mid first behind es fs all is place within free ready =
      let long : length all ≡ length es + length fs = ap (λ (l : List Entry). length l) is ∙ length-append es fs in
      let room = ready.room in
      let bounded = ready.bounded in
      record {
        within = within;
        columns = subst (λ (k : ℕ). length scope ≤ k) (sym free) ready.columns;
        room = omega (arith, long, room, free, place);
        bounded = omega (arith, long, bounded, place);
        known = (All-parts (λ (e : Entry). IsTermKnown scope (entry_term e)) es fs
            (subst (All (λ (e : Entry). IsTermKnown scope (entry_term e))) is ready.known)).1;
        divisors = (All-parts (λ (e : Entry). HasDivisors (entry_term e)) es fs
            (subst (All (λ (e : Entry). HasDivisors (entry_term e))) is ready.divisors)).1;
      }

  pub holds_append : (s mid new : System) (first behind : ℕ) (es fs all : List Entry) → all ≡ es ++ fs → behind ≡ first + length es
      → HoldsWith g scope s mid (EntriesAt es first) → HoldsWith g scope mid new (EntriesAt fs behind)
      → HoldsWith g scope s new (EntriesAt all first)
  holds_append s mid new first behind es fs all is place one two =
      holds_then s mid new (EntriesAt es first) (EntriesAt fs behind) (EntriesAt all first) (λ point env.
      let split = at_append es fs first point env in (
        (λ h. let m = split.0 (subst (λ (l : List Entry). EntriesAt l first point env) is h) in
            (m.0, subst (λ (k : ℕ). EntriesAt fs k point env) (sym place) m.1)),
        (λ h. subst (λ (l : List Entry). EntriesAt l first point env) (sym is)
            (split.1 (h.0, subst (λ (k : ℕ). EntriesAt fs k point env) place h.1))),
      )) one two

  -- ---- a loop along entries
  -- what is made so far, with the equations that are left, holds where the system does with all of them
  pub record IsSoFar (s made : System) (entries : List Entry) (first at : ℕ) : Type 0 where
    pub within : IsSystemWithin g made
    pub free : free_columns made ≡ free_columns s
    pub points : (point : List ℤ) (env : Environment) → length point ≡ free_columns s → IsNumbered scope point env
        → (HoldsSystem made point × EntriesAt (drop at entries) (first + at) point env)
        ↔ (HoldsSystem s point × EntriesAt entries first point env)

  pub so_far_none : (s : System) (entries : List Entry) (first : ℕ) → IsSystemWithin g s → IsSoFar s s entries first 0
  so_far_none s entries first within =
      let e : first + 0 ≡ first = omega arith in
      record {
        within = within;
        free = refl;
        points = λ point env long numbered. (
          (λ h. (h.0, subst (λ (k : ℕ). EntriesAt entries k point env) e h.1)),
          (λ h. (h.0, subst (λ (k : ℕ). EntriesAt entries k point env) (sym e) h.1)),
        );
      }

  pub so_far_more : (s made after : System) (entries : List Entry) (first at : ℕ) (entry : Entry) → at < length entries
      → entry ≡ get_or entries at entry → IsSoFar s made entries first at → HoldsWith g scope made after (EntryAt entry (first + at))
      → IsSoFar s after entries first (at + 1)
  so_far_more s made after entries first at entry low is so_far one =
      let rest = drop (at + 1) entries in
      let whole : drop at entries ≡ entry ∷ rest = drop_more entries at entry low ∙ ap (λ (e : Entry). e ∷ rest) (sym is) in
      let place : (first + at) + 1 ≡ first + (at + 1) = omega arith in
      record {
        within = one.within;
        free = one.free ∙ so_far.free;
        points = λ point env long numbered.
            let step = one.points point env (long ∙ sym so_far.free) numbered in
            let old = so_far.points point env long numbered in (
              (λ h. let m = step.0 h.0 in old.0 (
                m.0,
                subst (λ (l : List Entry). EntriesAt l (first + at) point env) (sym whole)
                    (m.1, subst (λ (k : ℕ). EntriesAt rest k point env) (sym place) h.1),
              )),
              (λ h. let o = old.1 h in let l = subst (λ (l : List Entry). EntriesAt l (first + at) point env) whole o.1 in
                  (step.1 (o.0, l.0), subst (λ (k : ℕ). EntriesAt rest k point env) place l.1)),
            );
      }

  pub so_far_all : (s made : System) (entries : List Entry) (first at : ℕ) → length entries ≤ at → IsSoFar s made entries first at
      → HoldsWith g scope s made (EntriesAt entries first)
  so_far_all s made entries first at over so_far =
      let none : drop at entries ≡ [] = drop_all at entries over in
      record {
        within = so_far.within;
        free = so_far.free;
        points = λ point env long numbered.
            let all = so_far.points point env long numbered in (
              (λ h. all.0 (h, subst (λ (l : List Entry). EntriesAt l (first + at) point env) (sym none) tt)),
              (λ h. (all.1 h).0),
            );
      }

  -- one of the entries is ready where they all are
  pub ready_one : (s made : System) (entries : List Entry) (first at : ℕ) (entry : Entry) → at < length entries
      → entry ≡ get_or entries at entry → AreReady g scope s first entries → IsSoFar s made entries first at
      → AreReady g scope made (first + at) (entry ∷ [])
  ready_one s made entries first at entry low is ready so_far =
      let room = ready.room in
      let bounded = ready.bounded in
      let free = so_far.free in
      let Knows : Entry → Type 0 = λ (e : Entry). IsTermKnown scope (entry_term e) in
      let Divides : Entry → Type 0 = λ (e : Entry). HasDivisors (entry_term e) in
      record {
        within = so_far.within;
        columns = subst (λ (k : ℕ). length scope ≤ k) (sym so_far.free) ready.columns;
        room = omega (arith, room, free, low);
        bounded = omega (arith, bounded, low);
        known = All-cons Knows entry [] (subst Knows (sym is) (ready.known at entry low)) (All-nil Knows);
        divisors = All-cons Divides entry [] (subst Divides (sym is) (ready.divisors at entry low)) (All-nil Divides);
      }

-- ---- both parts of a pair
module _ (t a b u v : Tuple) (is : t ≡ Pair a b) (left : u ≡ a) (right : v ≡ b) where
  pair_entries : entries_of t ≡ entries_of u ++ entries_of v
  pair_entries = entries_at t a b is ∙ rw (left, right) refl

  pub ready_left : (g : Gauge) (scope : Scope) (s : System) (first : ℕ) → AreReady g scope s first (entries_of t)
      → AreReady g scope s first (entries_of u)
  ready_left g scope s first = ready_front g scope s first (entries_of u) (entries_of v) (entries_of t) pair_entries

  pub ready_right : (g : Gauge) (scope : Scope) (s mid : System) (first behind : ℕ) → behind ≡ first + length (entries_of u)
      → HoldsWith g scope s mid (EntriesAt (entries_of u) first) → AreReady g scope s first (entries_of t)
      → AreReady g scope mid behind (entries_of v)
  ready_right g scope s mid first behind place one =
      ready_back g scope s mid first behind (entries_of u) (entries_of v) (entries_of t) pair_entries place one.within one.free

  pub holds_pair : (g : Gauge) (scope : Scope) (s mid new : System) (first behind : ℕ) → behind ≡ first + length (entries_of u)
      → HoldsWith g scope s mid (EntriesAt (entries_of u) first) → HoldsWith g scope mid new (EntriesAt (entries_of v) behind)
      → HoldsWith g scope s new (EntriesAt (entries_of t) first)
  holds_pair g scope s mid new first behind place =
      holds_append g scope s mid new first behind (entries_of u) (entries_of v) (entries_of t) pair_entries place

-- ---- both tuples of a piece
module _ (piece : PieceTree) where
  pub first-small : (first : ℕ) → first + length (piece_entries piece) < 2 ^ 64 → length (entries_of piece.first) < 2 ^ 64
  first-small first small =
      let sum = length-append (entries_of piece.first) (second_entries piece.second) in omega (arith, sum, small)

  pub second-fits : (first w : ℕ) → w ≡ length (entries_of piece.first) → first + length (piece_entries piece) < 2 ^ 64 → first + w < 2 ^ 64
  second-fits first w count small =
      let sum = length-append (entries_of piece.first) (second_entries piece.second) in omega (arith, sum, count, small)

-- ---- from the names of the columns to elements
module _ (g : Gauge) (params : List (List ℕ)) (piece : PieceTree) (scope : Scope) (named : scope ≡ piece_names params piece)
    (formed : AreFormed params piece) (s : System) (columns : ℕ) (wide : columns ≡ length scope)
    (is : s ≡ record { columns = columns; definitions = []; rows = [] }) where
  long : length scope ≡ length params + length (piece_entries piece)
  long = ap (λ (l : Scope). length l) named ∙ piece_names_length params piece

  free : free_columns s ≡ length params + length (piece_entries piece)
  free =
      let here : free_columns s ≡ columns - 0 = ap free_columns is in
      let all = long in
      omega (arith, here, wide, all)

  new_within : IsSystemWithin g s
  new_within = rw is (record {
    rows = All-nil (IsWellFormed columns);
    within = All-nil (IsRowWithin g);
    count = omega arith;
    definitions = tt;
  })

  pub ready_new : (first : ℕ) → first ≡ length params → AreReady g scope s first (piece_entries piece)
  ready_new first at =
      let few = formed.few in
      let narrow = formed.narrow in
      record {
        within = new_within;
        columns = let a = long in let b = free in omega (arith, a, b);
        room = let b = free in omega (arith, b, at);
        bounded = omega (arith, few, narrow, at);
        known = terms_known scope (known_behind params (piece_entries piece))
            (subst (λ (l : Scope). KnowsAll l (known_behind params (piece_entries piece))) (sym named) (piece_knows params piece))
            (piece_entries piece) params (λ name among. among) formed.known;
        divisors = formed.divisors;
      }

  pub tuples_made : (first : ℕ) → first ≡ length params → (new : System) → HoldsWith g scope s new (EntriesAt (piece_entries piece) first)
      → IsTuplesSystem g params piece new
  tuples_made first at new holds = record {
    within = holds.within;
    columns = holds.free ∙ free;
    points = λ valuation xs same.
        let point = values_of params valuation ++ xs in
        let env = piece_environment params piece xs valuation in
        let ps : length (values_of params valuation) ≡ length params = length-map params (value_at valuation) in
        let sum = length-append (values_of params valuation) xs in
        let size = free in
        let sized : length point ≡ free_columns s = omega (arith, ps, sum, size, same) in
        let numbered = subst (λ (l : Scope). IsNumbered l point env) (sym named) (piece_numbered params piece valuation xs same) in
        let both = holds.points point env sized numbered in
        let none : HoldsSystem s point = rw is (All-nil _) in
        let equal = at_equal (piece_entries piece) xs first point env
        (subst (λ (k : ℕ). Stands point k xs) (sym at) (coordinates_stand params piece valuation xs)) same in
        ((λ h. equal.0 (both.0 h).1), (λ h. both.1 (none, equal.1 h)));
  }
