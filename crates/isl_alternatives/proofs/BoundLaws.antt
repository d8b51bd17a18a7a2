-- What `exists` binds: its numbers stand behind those of the scope.
use Rattle.std.proofs.Common.{◌≡◌, ◌↔◌, inl, inr, refl, sym, ap, ◌∙◌, subst, arith, ℕ, ◌+◌, zero, suc, ◌-◌, ◌<◌, ◌≤◌, ℤ, pos, List, [], ◌∷◌, ◌++◌, length, length-append, get_or, take, drop, Option, Some, None}
use Rattle.std.specs.List.{All, Any, range_with_len}
use Rattle.std.proofs.lemmas.List.{take_more, take_all, take-append-drop, length-take-le, append-nil}
use Rattle.isl_tree.specs.declared.tree.Binder.{Binder}
use Rattle.isl_tree.specs.Environment.{Environment}
use Rattle.isl_tree.specs.Formula.{Binds, BindsOne}
use Rattle.isl_tree.specs.Term.{Term, term_value}
use Rattle.std.specs.Prelude.{◌≢◌, AllPairs, IfSome, slice_index_or, ◌<ℤ◌, ◌&&◌, true, false, Bool}
use Rattle.std.proofs.lemmas.Bool.{and_parts}
use Rattle.std.proofs.lemmas.List.{get_or-append_right, append_assoc}
use Rattle.std.proofs.lemmas.List.Elements.{All-nil, All-cons, All-append}
use Rattle.std.proofs.lemmas.List.FromFn.{length-range_with_len}
use Rattle.isl_math.proofs.ListLaws.{All-parts, Any-parts, Any-left, Any-right, Any-one, Any-first, Any-none}
use Rattle.isl_meter.specs.Gauge.{Gauge, IsCharged}
use Rattle.isl_meter.proofs.CutLemmas.{IsCharged_refl, IsCharged_trans, charges}
use Rattle.isl_piece.specs.declared.row.Row.{Row}
use Rattle.isl_piece.specs.declared.definition.Definition.{Definition}
use Rattle.isl_piece.specs.declared.system.System.{System}
use Rattle.isl_piece.specs.Row.{HoldsRow, IsWellFormed, IsRowWithin}
use Rattle.isl_piece.specs.System.{HoldsSystem, IsSystemWithin, free_columns}
use Rattle.isl_elim.specs.Elimination.{HoldsAtAny, HoldsAlong, IsProjectionAlong, without}
use Rattle.isl_elim.specs.Sample.{IsNowhere}
use Rattle.isl_elim.proofs.RangeLaws.{without_behind, range_distinct, range_below}
use Rattle.isl_elim.proofs.PartsLaws.{charged_bits}
use Rattle.isl_tree.specs.Divisors.{HasDivisors, term_divisors}
use Rattle.isl_affine.specs.Scope.{Scope, KnowsAll, IsTermKnown, IsNumbered}
use Rattle.isl_affine.proofs.ScopeLaws.{knows_push, column_inside}
use Rattle.isl_tree.specs.declared.tree.Formula.{Formula}
use Rattle.isl_tree.specs.Formula.{FormulaHolds}
use Rattle.isl_tree.specs.Known.{binders_are_known, term_is_known}
use Rattle.isl_alternatives.specs.Known.{AreBindersKnown}
use Rattle.isl_tree.specs.Divisors.{binders_divisors, value_divisors}
use Rattle.isl_alternatives.specs.Restricted.{AreGiven, MatchesValue, env_below, scope_below, AreProjected, AreRestricted, AreWhere, IsBodyOf, IsOver, HoldsAs, BoundHolds, Condition}
use Rattle.isl_alternatives.proofs.RestrictedLaws.{over_before, over_after}
use Rattle.isl_alternatives.proofs.ScopeLaws.{length_below, numbered_below, numbered_longer}

-- some numbers are given for the binders, with which it holds below them
abbrev pub Gives : List Binder → (Environment → Type 0) → Environment → Type 0
Gives bs P env = (zs : List ℤ) × (length zs ≡ length bs) × AreGiven bs zs env × P (env_below bs zs env)

gives_value : (b : Binder) (v : Option Term) (bs : List Binder) (P : Environment → Type 0) (env : Environment)
    → ((e : Environment) → Binds bs P e ↔ Gives bs P e)
    → BindsOne v (λ z. Binds bs P ((b.name, z) ∷ env)) env
    ↔ ((z : ℤ) × MatchesValue v z env × Gives bs P ((b.name, z) ∷ env))
gives_value b None bs P env s = (
  (λ h. (h.0, tt, (s ((b.name, h.0) ∷ env)).0 h.1)),
  (λ h. (h.0, (s ((b.name, h.0) ∷ env)).1 h.2)),
)
gives_value b (Some term) bs P env s = (
  (λ h. (term_value term env, refl, (s ((b.name, term_value term env) ∷ env)).0 h)),
  (λ h. subst (λ (z : ℤ). Binds bs P ((b.name, z) ∷ env)) (sym h.1) ((s ((b.name, h.0) ∷ env)).1 h.2)),
)

gives_first : (b : Binder) (bs : List Binder) (P : Environment → Type 0) (env : Environment) (zs : List ℤ) → length zs ≡ length (b ∷ bs)
    → AreGiven (b ∷ bs) zs env → P (env_below (b ∷ bs) zs env)
    → (z : ℤ) × MatchesValue b.value z env × Gives bs P ((b.name, z) ∷ env)
gives_first b bs P env [] l g p = absurd g
gives_first b bs P env (z ∷ zs) l g p = (z, g.0, (zs, omega (arith, l), g.1, p))

longer_by_one : (zs : List ℤ) (bs : List Binder) → length zs ≡ length bs → suc (length zs) ≡ suc (length bs)
longer_by_one zs bs e = ap suc e

pub binds_given : (bs : List Binder) (P : Environment → Type 0) (env : Environment) → Binds bs P env ↔ Gives bs P env
binds_given [] P env = ((λ h. ([], refl, tt, h)), (λ h. by h.0 h.1 h.3))
  where
    by : (zs : List ℤ) → length zs ≡ 0 → P (env_below [] zs env) → P env
    by zs l p = p
binds_given (b ∷ bs) P env =
    let s = gives_value b b.value bs P env (λ e. binds_given bs P e) in (
      (λ h. let x = s.0 h in (x.0 ∷ x.2.0, longer_by_one x.2.0 bs x.2.1, (x.1, x.2.2), x.2.3)),
      (λ h. s.1 (gives_first b bs P env h.0 h.1 h.2 h.3)),
    )

-- ---- one binder more
scope_snoc : (bs : List Binder) (b : Binder) (scope : _) → scope_below (bs ++ b ∷ []) scope ≡ scope_below bs scope ++ Some b.name ∷ []
scope_snoc [] b scope = refl
scope_snoc (x ∷ bs) b scope = scope_snoc bs b (scope ++ Some x.name ∷ [])

given_snoc : (bs : List Binder) (b : Binder) (zs : List ℤ) (z : ℤ) (env : Environment) → length zs ≡ length bs
    → AreGiven (bs ++ b ∷ []) (zs ++ z ∷ []) env ↔ (AreGiven bs zs env × MatchesValue b.value z (env_below bs zs env))
given_snoc [] b [] z env l = ((λ h. (tt, h.0)), (λ h. (h.1, tt)))
given_snoc [] b (y ∷ zs) z env l = absurd (omega (arith, l))
given_snoc (x ∷ bs) b [] z env l = absurd (omega (arith, l))
given_snoc (x ∷ bs) b (y ∷ zs) z env l =
    let rest = given_snoc bs b zs z ((x.name, y) ∷ env) (omega (arith, l)) in
    ((λ h. let r = rest.0 h.1 in ((h.0, r.0), r.1)), (λ h. (h.0.0, rest.1 (h.0.1, h.1))))

-- ---- the terms of binders are known
abbrev Positive : ℤ → Type 0
Positive k = pos 0 <ℤ k

first_known : (known : List (List ℕ)) (name : List ℕ) (value : Option Term) (bs : List Binder)
    → binders_are_known known (record { name = name; value = value } ∷ bs) ≡ true
    → IfSome value (λ t. term_is_known known t ≡ true) × (binders_are_known (name ∷ known) bs ≡ true)
first_known known name None bs e = (tt, e)
first_known known name (Some term) bs e = and_parts (term_is_known known term) (binders_are_known (name ∷ known) bs) e

value_here : (scope : Scope) (known : List (List ℕ)) (value : Option Term) (term : Term) → KnowsAll scope known → value ≡ Some term
    → IfSome value (λ t. term_is_known known t ≡ true) → All Positive (value_divisors value) → IsTermKnown scope term × HasDivisors term
value_here scope known value term all e k d =
    ((known, all, subst (λ (v : Option Term). IfSome v (λ t. term_is_known known t ≡ true)) e k), subst (λ (v : Option Term). All Positive (value_divisors v)) e d)

value_known : (bs : List Binder) (scope : Scope) (known : List (List ℕ)) (i : ℕ) (b : Binder) (term : Term) → KnowsAll scope known
    → binders_are_known known bs ≡ true → All Positive (binders_divisors bs) → i < length bs → b ≡ get_or bs i b → b.value ≡ Some term
    → IsTermKnown (scope_below (take i bs) scope) term × HasDivisors term
value_known [] scope known i b term all e d l is v = absurd (omega arith)
value_known (x ∷ bs) scope known zero b term all e d l is v =
    value_here scope known x.value term all (ap (λ (c : Binder). c.value) (sym is) ∙ v) (first_known known x.name x.value bs e).0
    (All-parts Positive (value_divisors x.value) (binders_divisors bs) d).0
value_known (x ∷ bs) scope known (suc i) b term all e d l is v =
    value_known bs (scope ++ Some x.name ∷ []) (x.name ∷ known) i b term (knows_push scope x.name known all)
    (first_known known x.name x.value bs e).1 (All-parts Positive (value_divisors x.value) (binders_divisors bs) d).1 (omega arith) is v

-- ---- one column more
pub record IsBodySoFar (g h : Gauge) (scope : Scope) (bs : List Binder) (i : ℕ) (names : Scope) (s : System) : Type 0 where
  pub meter : h ≡ g
  pub names_are : names ≡ scope_below (take i bs) scope
  pub within : IsSystemWithin g s
  pub columns : free_columns s ≡ length scope + length bs
  pub points : (point zs : List ℤ) (env : Environment) → length point ≡ length scope → length zs ≡ length bs
      → IsNumbered scope point env → HoldsSystem s (point ++ zs) ↔ AreGiven (take i bs) (take i zs) env

pub body_first : (g : Gauge) (scope : Scope) (bs : List Binder) (names : Scope) (s : System) (n : ℕ) → names ≡ scope → n ≡ length scope + length bs
    → s ≡ record { columns = n; definitions = []; rows = [] } → IsBodySoFar g g scope bs 0 names s
body_first g scope bs names s n same count e = rw e (record {
  meter = refl;
  names_are = same;
  within = record { rows = All-nil (IsWellFormed n); within = All-nil (IsRowWithin g); count = omega arith; definitions = tt };
  columns = omega (arith, count);
  points = λ point zs env l m k. ((λ h. tt), (λ h. All-nil (λ (r : Row). HoldsRow r (point ++ zs))));
})

module _ (g h : Gauge) (scope : Scope) (bs : List Binder) (i : ℕ) (b : Binder) (names : Scope) (s : System) (inside : i < length bs)
    (is : b ≡ get_or bs i b) (so_far : IsBodySoFar g h scope bs i names s) where
  more : take (i + 1) bs ≡ take i bs ++ b ∷ []
  more = take_more bs i b inside ∙ ap (λ (x : Binder). take i bs ++ x ∷ []) (sym is)

  number_at : List ℤ → ℤ
  number_at zs = get_or zs i (pos 0)

  more_numbers : (zs : List ℤ) → length zs ≡ length bs → take (i + 1) zs ≡ take i zs ++ number_at zs ∷ []
  unfolding number_at
  more_numbers zs m = take_more zs i (pos 0) (omega (arith, m, inside))

  given_more : (zs : List ℤ) (env : Environment) → length zs ≡ length bs
      → AreGiven (take (i + 1) bs) (take (i + 1) zs) env
      ↔ (AreGiven (take i bs) (take i zs) env × MatchesValue b.value (number_at zs) (env_below (take i bs) (take i zs) env))
  given_more zs env m = rw (more, more_numbers zs m) (given_snoc (take i bs) b (take i zs) (number_at zs) env
      (length-take-le i zs (omega (arith, m, inside)) ∙ sym (length-take-le i bs (omega (arith, inside)))))

  next_names : (newer : Scope) → newer ≡ names ++ Some b.name ∷ [] → newer ≡ scope_below (take (i + 1) bs) scope
  next_names newer e = e ∙ ap (λ (n : Scope). n ++ Some b.name ∷ []) so_far.names_are ∙ sym (scope_snoc (take i bs) b scope)
      ∙ ap (λ (x : List Binder). scope_below x scope) (sym more)

  pub names_count : length names ≡ length scope + i
  names_count = ap (λ (n : Scope). length n) so_far.names_are ∙ length_below (take i bs) scope
      ∙ ap (λ (k : ℕ). length scope + k) (length-take-le i bs (omega (arith, inside)))

  numbered_here : (point zs : List ℤ) (env : Environment) → length point ≡ length scope → length zs ≡ length bs → IsNumbered scope point env
      → IsNumbered names (point ++ zs) (env_below (take i bs) (take i zs) env)
  numbered_here point zs env l m n =
      let parts : point ++ (take i zs ++ drop i zs) ≡ point ++ zs = ap (λ (ys : List ℤ). point ++ ys) (take-append-drop i zs) in
      let longer = numbered_longer scope point (take i zs ++ drop i zs) env
      (λ name. rw l (column_inside scope name)) n in
      rw (so_far.names_are) (subst (λ (ys : List ℤ). IsNumbered (scope_below (take i bs) scope) ys (env_below (take i bs) (take i zs) env)) parts
      (numbered_below (take i bs) scope point (take i zs) (drop i zs) env l
      (length-take-le i zs (omega (arith, m, inside)) ∙ sym (length-take-le i bs (omega (arith, inside)))) longer))

  number_here : (point zs : List ℤ) → length point ≡ length scope → slice_index_or (point ++ zs) (length names) (pos 0) ≡ number_at zs
  unfolding number_at
  number_here point zs l =
      let count = names_count in
      let at : length names - length point ≡ i = omega (arith, l, count) in
      get_or-append_right point zs (length point) (length names) (pos 0) refl (omega (arith, l, names_count))
      ∙ ap (λ (k : ℕ). get_or zs k (pos 0)) at

  pub body_more : (newer : Scope) (t : System) (k : Gauge) → newer ≡ names ++ Some b.name ∷ [] → k ≡ h
      → IsSystemWithin h t × (free_columns t ≡ free_columns s)
      → ((point : List ℤ) (env : Environment) → length point ≡ free_columns s → IsNumbered names point env
      → HoldsSystem t point ↔ (HoldsSystem s point × MatchesValue b.value (slice_index_or point (length names) (pos 0)) env))
      → IsBodySoFar g k scope bs (i + 1) newer t
  body_more newer t k e same w p = record {
    meter = same ∙ so_far.meter;
    names_are = next_names newer e;
    within = subst (λ (x : Gauge). IsSystemWithin x t) so_far.meter w.0;
    columns = w.1 ∙ so_far.columns;
    points = λ point zs env l m n.
        let before = so_far.points point zs env l m n in
        let here = given_more zs env m in
        let sum = length-append point zs in
        let count = so_far.columns in
        let below = env_below (take i bs) (take i zs) env in
        let new = p (point ++ zs) below (omega (arith, l, m)) (numbered_here point zs env l m n) in
        let number = number_here point zs l in (
          (λ x. let y = new.0 x in here.1 (before.0 y.0, subst (λ (z : ℤ). MatchesValue b.value z below) number y.1)),
          (λ x. let y = here.0 x in new.1 (before.1 y.0, subst (λ (z : ℤ). MatchesValue b.value z below) (sym number) y.1)),
        );
  }

  pub within_here : IsSystemWithin h s
  within_here = subst (λ (x : Gauge). IsSystemWithin x s) (sym so_far.meter) so_far.within

  pub column_here : length names < free_columns s
  column_here = let count = names_count in let free = so_far.columns in omega (arith, count, free, inside)

  pub value_known_here : AreBindersKnown scope bs → IfSome b.value (λ term. IsTermKnown names term × HasDivisors term)
  value_known_here k = by b.value refl
    where
      by : (v : Option Term) → b.value ≡ v → IfSome v (λ term. IsTermKnown names term × HasDivisors term)
      by None e = tt
      by (Some term) e = rw (so_far.names_are) (value_known bs scope k.known i b term k.all k.names k.divisors inside is e)

pub body_all : (g h : Gauge) (scope : Scope) (bs : List Binder) (i : ℕ) (names : Scope) (s : System) → length bs ≤ i → i ≤ length bs
    → IsBodySoFar g h scope bs i names s → IsBodyOf g scope bs names s
body_all g h scope bs i names s low high f =
    let all : take i bs ≡ bs = take_all i bs low in
    let named : names ≡ scope_below bs scope = f.names_are ∙ ap (λ (x : List Binder). scope_below x scope) all in
    let count = length_below bs scope in
    record {
      scope_is = named;
      over = record { within = f.within; columns = f.columns ∙ sym count ∙ ap (λ (n : Scope). length n) (sym named) };
      points = λ point zs env l m n.
          let same : take i zs ≡ zs = take_all i zs (omega (arith, m, low)) in
          subst (λ (ys : List ℤ). HoldsSystem s (point ++ zs) ↔ AreGiven bs ys env) same
          (subst (λ (x : List Binder). HoldsSystem s (point ++ zs) ↔ AreGiven x (take i zs) env) all (f.points point zs env l m n));
    }

-- ---- systems without the last columns
pub projected_one : (g k : Gauge) (outer inner : Scope) (s : System) (cols : List ℕ) (new : List System) → IsOver g inner s
    → cols ≡ range_with_len (length outer) (length inner - length outer) → length outer ≤ length inner → IsProjectionAlong s cols new
    → All (IsSystemWithin g) new → IsCharged g k → g.units + length new ≤ k.units + 1 → AreProjected g k outer inner (s ∷ []) new
projected_one g k outer inner s cols new o e few p w c counted =
    let n = length outer in
    let m = length inner - length outer in
    let wide : length cols ≡ m = ap (λ (x : List ℕ). length x) e ∙ length-range_with_len n m in
    let free = o.columns in
    record {
      charged = c;
      over = λ i t l. record { within = w i t l; columns = p.columns i t l ∙ omega (arith, wide, free, few) };
      counted = omega arith;
      points = λ point l.
          let S : System → Type 0 = λ t. HoldsSystem t point in
          let same = p.points point (omega (arith, l, wide, free, few)) in (
            (λ h. let x = same.0 h in
                let front : length (take n x.0) ≡ n = length-take-le n x.0 (omega (arith, x.1, free, few)) in
                let join = take-append-drop n x.0 in
                let sum = ap (λ (ys : List ℤ). length ys) join ∙ x.1 ∙ free in
                let parts = length-append (take n x.0) (drop n x.0) in
                let behind : length (drop n x.0) ≡ m = omega (arith, sum, parts, front, few) in
                let range : cols ≡ range_with_len (length (take n x.0)) (length (drop n x.0)) =
                e ∙ ap (λ (a : ℕ). range_with_len a m) (sym front) ∙ ap (λ (a : ℕ). range_with_len (length (take n x.0)) a) (sym behind) in
                let here : point ≡ take n x.0 =
                sym x.2 ∙ ap (λ (ys : List ℤ). without cols ys) (sym join) ∙ ap (λ (ds : List ℕ). without ds (take n x.0 ++ drop n x.0)) range
                ∙ without_behind (take n x.0) (drop n x.0) in
                let whole : x.0 ≡ point ++ drop n x.0 = sym join ∙ ap (λ (ys : List ℤ). ys ++ drop n x.0) (sym here) in (
                  drop n x.0,
                  omega (arith, l, behind, few),
                  Any-first (λ (t : System). HoldsSystem t (point ++ drop n x.0)) s []
                      (subst (λ (ys : List ℤ). HoldsSystem s ys) whole x.3),
                )),
            (λ h.
                let sum = length-append point h.0 in
                let long = h.1 in
                let behind : length h.0 ≡ m = omega (arith, long, l, few) in
                let range : cols ≡ range_with_len (length point) (length h.0) =
                e ∙ ap (λ (a : ℕ). range_with_len a m) (sym l) ∙ ap (λ (a : ℕ). range_with_len (length point) a) (sym behind) in
                same.1 (
                  point ++ h.0,
                  omega (arith, sum, long, free),
                  ap (λ (ds : List ℕ). without ds (point ++ h.0)) range ∙ without_behind point h.0,
                  Any-one (λ (t : System). HoldsSystem t (point ++ h.0)) s h.2,
                )),
          );
    }

pub projected_none : (g : Gauge) (outer inner : Scope) (new : List System) → new ≡ [] → AreProjected g g outer inner [] new
projected_none g outer inner new e = rw e (record {
  charged = IsCharged_refl g g refl;
  over = All-nil (IsOver g outer);
  counted = omega arith;
  points = λ point l. (
    (λ h. absurd (Any-none (λ (s : System). HoldsSystem s point) h)),
    (λ h. absurd (Any-none (λ (s : System). HoldsSystem s (point ++ h.0)) h.2)),
  );
})

-- a system that holds nowhere leaves none
pub projected_nowhere : (g : Gauge) (outer inner : Scope) (s : System) → IsOver g inner s → IsNowhere (free_columns s) (HoldsSystem s)
    → AreProjected g g outer inner (s ∷ []) []
projected_nowhere g outer inner s o none = record {
  charged = IsCharged_refl g g refl;
  over = All-nil (IsOver g outer);
  counted = omega arith;
  points = λ point l. (
    (λ h. absurd (Any-none (λ (t : System). HoldsSystem t point) h)),
    (λ h.
        let long = h.1 in
        let sum = length-append point h.0 in
        let free = o.columns in
        absurd (none (point ++ h.0) (omega (arith, long, sum, free)) (Any-one (λ (t : System). HoldsSystem t (point ++ h.0)) s h.2))),
  );
}

pub projected_more : (g h k : Gauge) (outer inner : Scope) (systems : List System) (i : ℕ) (s : System) (new more newer : List System)
    → i < length systems → s ≡ get_or systems i s → newer ≡ new ++ more → AreProjected g h outer inner (take i systems) new
    → AreProjected h k outer inner (s ∷ []) more → AreProjected g k outer inner (take (i + 1) systems) newer
projected_more g h k outer inner systems i s new more newer inside is e p q =
    let next : take (i + 1) systems ≡ take i systems ++ s ∷ [] =
    take_more systems i s inside ∙ ap (λ (t : System). take i systems ++ t ∷ []) (sym is) in
    let few = p.counted in
    let many = q.counted in
    let old = length-append (take i systems) (s ∷ []) in
    let sum = length-append new more in
    rw (next, e) (record {
      charged = IsCharged_trans g h k p.charged q.charged;
      over = All-append (IsOver g outer) new more p.over (over_before g h outer more p.charged q.over);
      counted = omega arith;
      points = λ point l.
          let u = p.points point l in
          let v = q.points point l in
          let S : System → Type 0 = λ t. HoldsSystem t point in (
            (λ h. elim (Any-parts S new more h) [
              | inl y ↦ let x = u.0 y in (x.0, x.1, Any-left (λ (t : System). HoldsSystem t (point ++ x.0)) (take i systems) (s ∷ []) x.2)
              | inr z ↦ let x = v.0 z in (x.0, x.1, Any-right (λ (t : System). HoldsSystem t (point ++ x.0)) (take i systems) (s ∷ []) x.2)
            ]),
            (λ h. elim (Any-parts (λ (t : System). HoldsSystem t (point ++ h.0)) (take i systems) (s ∷ []) h.2) [
              | inl y ↦ Any-left S new more (u.1 (h.0, h.1, y))
              | inr z ↦ Any-right S new more (v.1 (h.0, h.1, z))
            ]),
          );
    })

pub projected_all : (g h : Gauge) (outer inner : Scope) (systems new : List System) (i : ℕ) → length systems ≤ i
    → AreProjected g h outer inner (take i systems) new → AreProjected g h outer inner systems new
projected_all g h outer inner systems new i l p = subst (λ (xs : List System). AreProjected g h outer inner xs new) (take_all i systems l) p

-- ---- the formula holds for some numbers
module _ (g h j k : Gauge) (scope inner : Scope) (bs : List Binder) (body : Formula) (s : System) (bodies found : List System)
    (body_of : IsBodyOf g scope bs inner s) (charged : IsCharged g h) (restricted : AreRestricted h j inner (s ∷ []) (HoldsAs true (FormulaHolds body)) bodies)
    (projected : AreProjected j k scope inner bodies found) where
  longer : length inner ≡ length scope + length bs
  longer = ap (λ (n : Scope). length n) body_of.scope_is ∙ length_below bs scope

  numbered : (point zs : List ℤ) (env : Environment) → length point ≡ length scope → length zs ≡ length bs → IsNumbered scope point env
      → IsNumbered inner (point ++ zs) (env_below bs zs env)
  numbered point zs env l m n =
      let behind : point ++ (zs ++ []) ≡ point ++ zs = ap (λ (ys : List ℤ). point ++ ys) (append-nil zs) in
      rw (body_of.scope_is) (subst (λ (ys : List ℤ). IsNumbered (scope_below bs scope) ys (env_below bs zs env)) behind
      (numbered_below bs scope point zs [] env l m (numbered_longer scope point (zs ++ []) env (λ name. rw l (column_inside scope name)) n)))

  pub bound_points : (point : List ℤ) (env : Environment) → length point ≡ length scope → IsNumbered scope point env
      → HoldsAtAny found point ↔ BoundHolds bs body env
  bound_points point env l n =
      let out = projected.points point l in
      let given = binds_given bs (λ e. FormulaHolds body e) env in (
        (λ x.
            let y = out.0 x in
            let long = y.1 in
            let m : length y.0 ≡ length bs = omega (arith, long, l, longer) in
            let sum = length-append point y.0 in
            let in_body = (restricted.points (point ++ y.0) (env_below bs y.0 env) (omega (arith, sum, long)) (numbered point y.0 env l m n)).0 y.2 in
            given.1 (y.0, m, (body_of.points point y.0 env l m n).0 (Any-one (λ (t : System). HoldsSystem t (point ++ y.0)) s in_body.0), in_body.1)),
        (λ x.
            let y = given.0 x in
            let m = y.1 in
            let sum = length-append point y.0 in
            let at = Any-first (λ (t : System). HoldsSystem t (point ++ y.0)) s [] ((body_of.points point y.0 env l m n).1 y.2) in
            out.1 (
              y.0,
              omega (arith, l, m, longer),
              (restricted.points (point ++ y.0) (env_below bs y.0 env) (omega (arith, sum, l, m, longer)) (numbered point y.0 env l m n)).1 (at, y.3),
            )),
      )

  before : IsCharged g k
  before = IsCharged_trans g j k (IsCharged_trans g h j charged restricted.charged) projected.charged

  pub exists_where : AreWhere g k scope (λ point env. BoundHolds bs body env) found
  exists_where = record {
    charged = before;
    over = over_before g j scope found (IsCharged_trans g h j charged restricted.charged) projected.over;
    counted = let first = charged.units in let few = restricted.counted in let last = projected.counted in omega arith;
    points = bound_points;
  }

pub body_over : (g h : Gauge) (scope : Scope) (bs : List Binder) (inner : Scope) (s : System) → IsBodyOf g scope bs inner s → IsCharged g h
    → All (IsOver h inner) (s ∷ [])
body_over g h scope bs inner s b c =
    over_after g h inner (s ∷ []) c (All-cons (IsOver g inner) s [] b.over (All-nil (IsOver g inner)))

pub body_longer : (g : Gauge) (scope : Scope) (bs : List Binder) (inner : Scope) (s : System) → IsBodyOf g scope bs inner s
    → length scope ≤ length inner
body_longer g scope bs inner s b =
    let long = ap (λ (n : Scope). length n) b.scope_is in
    let count = length_below bs scope in
    omega (arith, long, count)

as_where : (p : Bool) (P : Environment → Type 0) (found : List System) (point : List ℤ) (env : Environment) → HoldsAtAny found point ↔ P env
    → HoldsAs p (λ e. HoldsAtAny found point) point env ↔ HoldsAs p P point env
as_where true P found point env same = same
as_where false P found point env same = ((λ x y. x (same.1 y)), (λ x y. x (same.0 y)))

-- systems restricted to where some of those of a condition holds, or none
pub where_restricted : (g h k : Gauge) (scope : Scope) (p : Bool) (P : Environment → Type 0) (a found new : List System)
    → AreWhere g h scope (λ point env. P env) found → AreRestricted h k scope a (λ point env. HoldsAs p (λ e. HoldsAtAny found point) point env) new
    → AreRestricted g k scope a (HoldsAs p P) new
where_restricted g h k scope p P a found new w r = record {
  charged = IsCharged_trans g h k w.charged r.charged;
  over = over_before g h scope new w.charged r.over;
  counted = let first = w.charged in let since = first.units in let few = r.counted in omega arith;
  points = λ point env l n.
      let same = r.points point env l n in
      let holds = as_where p P found point env (w.points point env l n) in
      ((λ x. let y = same.0 x in (y.0, holds.0 y.1)), (λ x. same.1 (x.0, holds.1 x.1)));
}

pub ruleset steps = (charges)
