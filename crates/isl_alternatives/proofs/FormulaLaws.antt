-- Formulas at the constructors of the code: where they hold, and which names and divisors they have.
use mathlib.Core.Former.{Count}
use Rattle.std.proofs.Common.{◌≡◌, ◌↔◌, ◌⊎◌, Option, Some, None, inl, inr, refl, sym, ap, ap₂, ◌∙◌, subst, arith, ℕ, ◌+◌, ◌-◌, ◌<◌, ◌≤◌, ℤ, pos, ◌<ℤ◌, Bool, true, false, not, ◌&&◌, List, [], ◌∷◌, ◌++◌, length, get_or, take}
use Rattle.std.specs.List.{All, Any, list_all}
use Rattle.std.proofs.lemmas.Bool.{and_parts, false≢true}
use Rattle.std.proofs.lemmas.List.{take_more, take_all, length-take-le, append_assoc}
use Rattle.std.proofs.lemmas.List.Elements.{All-nil, All-cons, All-append}
use Rattle.isl_math.proofs.ListLaws.{All-parts, Any-one, Any-first}
use Rattle.isl_meter.specs.Gauge.{Gauge, IsCharged}
use Rattle.isl_piece.specs.declared.system.System.{System}
use Rattle.isl_elim.specs.Elimination.{HoldsAtAny}
use Rattle.isl_piece.specs.System.{HoldsSystem, IsSystemWithin, free_columns}
use Rattle.isl_affine.specs.Scope.{Scope, KnowsAll, IsNumbered}
use Rattle.isl_tree.specs.declared.tree.Binder.{Binder}
use Rattle.isl_tree.specs.declared.tree.Formula.{Formula, Implies, Or, And, Not, True, False, Exists, Chain, Row_of-Formula, end_of-Formula, more_of-Formula}
use Rattle.isl_tree.specs.declared.tree.Formula.{items-the_row-Formula, items_hidden-the_row-Formula-0}
use Rattle.isl_tree.specs.declared.tree.Formula.TheBlock.{hidden-the_row-Formula-0, hidden-the_row-Formula-1}
use Rattle.isl_tree.specs.Environment.{Environment}
use Rattle.isl_tree.specs.Formula.{FormulaHolds, AllHold, SomeHold, RowImplies, ImpliesRest, Binds, BindsOne, ChainHolds, Link, Side}
use Rattle.isl_tree.specs.Term.{Term, term_value}
use Rattle.isl_tree.specs.Known.{formula_is_known, formulas_are_known, binders_are_known, known_below}
use Rattle.isl_alternatives.specs.Known.{IsFormulaKnown, AreBindersKnown}
use Rattle.isl_tree.specs.Divisors.{formula_divisors, row_divisors, binders_divisors}
use Rattle.isl_alternatives.specs.Restricted.{AreRestricted, AreWhere, Condition, IsOver, HoldsAs, EachHolds, SomeHolds, AllAs, AnyAs, Imply, ImplyFrom, BoundHolds, scope_below}
use Rattle.isl_meter.proofs.CutLemmas.{IsCharged_refl, IsCharged_trans}
use Rattle.isl_alternatives.proofs.RestrictedLaws.{over_before, restricted_all, restricted_none, restricted_then, restricted_either, restricted_both, restricted_same}
use Rattle.isl_alternatives.proofs.BoundLaws.{where_restricted}
use Rattle.isl_alternatives.proofs.ScopeLaws.{knows_below}

-- ---- where they hold
each_is : (m : Count) (row : Row_of-Formula m) (env : Environment) → AllHold row env ≡ EachHolds (items-the_row-Formula m row) env
each_is m end_of-Formula env = refl
each_is m (more_of-Formula f row) env = ap (λ (T : Type 0). FormulaHolds f env × T) (each_is _ row env)

some_is : (m : Count) (row : Row_of-Formula m) (env : Environment) → SomeHold row env ≡ SomeHolds (items-the_row-Formula m row) env
some_is m end_of-Formula env = refl
some_is m (more_of-Formula f row) env = ap (λ (T : Type 0). FormulaHolds f env ⊎ T) (some_is _ row env)

rest_is : (m : Count) (row : Row_of-Formula m) (T : Type 0) (env : Environment)
    → ImpliesRest T row env ≡ ImplyFrom T (items-the_row-Formula m row) env
rest_is m end_of-Formula T env = refl
rest_is m (more_of-Formula f row) T env = rest_is _ row ((T → ⊥) ⊎ FormulaHolds f env) env

imply_is : (m : Count) (row : Row_of-Formula m) (env : Environment) → RowImplies row env ≡ Imply (items-the_row-Formula m row) env
imply_is m end_of-Formula env = refl
imply_is m (more_of-Formula f row) env = rest_is _ row (FormulaHolds f env) env

pub holds-And : (fs : List Formula) (env : Environment) → FormulaHolds (And fs) env ≡ EachHolds fs env
holds-And fs env = each_is _ (hidden-the_row-Formula-0 fs) env ∙ ap (λ xs. EachHolds xs env) (items_hidden-the_row-Formula-0 fs)

pub holds-Or : (fs : List Formula) (env : Environment) → FormulaHolds (Or fs) env ≡ SomeHolds fs env
holds-Or fs env = some_is _ (hidden-the_row-Formula-0 fs) env ∙ ap (λ xs. SomeHolds xs env) (items_hidden-the_row-Formula-0 fs)

pub holds-Implies : (fs : List Formula) (env : Environment) → FormulaHolds (Implies fs) env ≡ Imply fs env
holds-Implies fs env = imply_is _ (hidden-the_row-Formula-0 fs) env ∙ ap (λ xs. Imply xs env) (items_hidden-the_row-Formula-0 fs)

pub holds-Not : (f : Formula) (env : Environment) → FormulaHolds (Not f) env ≡ (FormulaHolds f env × Unit {0} → ⊥)
unfolding hidden-the_row-Formula-1 denote.Hole.Carrier.hidden
holds-Not f env = refl

pub holds-Exists : (bs : List Binder) (f : Formula) (env : Environment)
    → FormulaHolds (Exists bs f) env ≡ Binds bs (λ inner. FormulaHolds f inner × Unit {0}) env
unfolding hidden-the_row-Formula-1 denote.Hole.Carrier.hidden
holds-Exists bs f env = refl

-- ---- conditions
each_snoc : (fs : List Formula) (f : Formula) (env : Environment) → EachHolds (fs ++ f ∷ []) env ↔ (EachHolds fs env × FormulaHolds f env)
each_snoc [] f env = ((λ h. (tt, h.0)), (λ h. (h.1, tt)))
each_snoc (x ∷ fs) f env = let rest = each_snoc fs f env in
    ((λ h. let y = rest.0 h.1 in ((h.0, y.0), y.1)), (λ h. (h.0.0, rest.1 (h.0.1, h.1))))

some_snoc : (fs : List Formula) (f : Formula) (env : Environment) → SomeHolds (fs ++ f ∷ []) env ↔ (SomeHolds fs env ⊎ FormulaHolds f env)
some_snoc [] f env = ((λ h. elim h [ inl a ↦ inr a | inr bad ↦ absurd bad ]), (λ h. elim h [ inl bad ↦ absurd bad | inr a ↦ inl a ]))
some_snoc (x ∷ fs) f env = let rest = some_snoc fs f env in (
  (λ h. elim h [ inl a ↦ inl (inl a) | inr b ↦ elim (rest.0 b) [ inl c ↦ inl (inr c) | inr d ↦ inr d ] ]),
  (λ h. elim h [ inl a ↦ elim a [ inl b ↦ inl b | inr c ↦ inr (rest.1 (inl c)) ] | inr d ↦ inr (rest.1 (inr d)) ]),
)

all_both : (p : Bool) (fs : List Formula) (f : Formula) (point : List ℤ) (env : Environment) → AllAs p fs point env
    → HoldsAs p (FormulaHolds f) point env → AllAs p (fs ++ f ∷ []) point env
all_both true fs f point env a b = (each_snoc fs f env).1 (a, b)
all_both false fs f point env a b = λ h. elim ((some_snoc fs f env).0 h) [ inl x ↦ a x | inr y ↦ b y ]

all_first : (p : Bool) (fs : List Formula) (f : Formula) (point : List ℤ) (env : Environment) → AllAs p (fs ++ f ∷ []) point env
    → AllAs p fs point env × HoldsAs p (FormulaHolds f) point env
all_first true fs f point env h = (each_snoc fs f env).0 h
all_first false fs f point env h = ((λ x. h ((some_snoc fs f env).1 (inl x))), (λ y. h ((some_snoc fs f env).1 (inr y))))

any_left : (p : Bool) (fs : List Formula) (f : Formula) (point : List ℤ) (env : Environment) → AnyAs p fs point env
    → AnyAs p (fs ++ f ∷ []) point env
any_left true fs f point env a = (some_snoc fs f env).1 (inl a)
any_left false fs f point env a = λ h. a ((each_snoc fs f env).0 h).0

any_right : (p : Bool) (fs : List Formula) (f : Formula) (point : List ℤ) (env : Environment) → HoldsAs p (FormulaHolds f) point env
    → AnyAs p (fs ++ f ∷ []) point env
any_right true fs f point env a = (some_snoc fs f env).1 (inr a)
any_right false fs f point env a = λ h. a ((each_snoc fs f env).0 h).1

any_cases : (p : Bool) (fs : List Formula) (f : Formula) (point : List ℤ) (env : Environment) → AnyAs p (fs ++ f ∷ []) point env
    → AnyAs p fs point env ⊎ (¬ AnyAs p fs point env) → AnyAs p fs point env ⊎ HoldsAs p (FormulaHolds f) point env
any_cases true fs f point env h d = (some_snoc fs f env).0 h
any_cases false fs f point env h d = elim d [
  | inl a ↦ inl a
  | inr n ↦ inr (λ y. n (λ x. h ((each_snoc fs f env).1 (x, y))))
]

module _ (g h k : Gauge) (scope : Scope) (a : List System) (p : Bool) (fs : List Formula) (i : ℕ) (f : Formula) (b : List System)
    (inside : i < length fs) (is : f ≡ get_or fs i f) where
  more : take (i + 1) fs ≡ take i fs ++ f ∷ []
  more = take_more fs i f inside ∙ ap (λ (x : Formula). take i fs ++ x ∷ []) (sym is)

  pub each_more : (c : List System) → AreRestricted g h scope a (AllAs p (take i fs)) b → AreRestricted h k scope b (HoldsAs p (FormulaHolds f)) c
      → AreRestricted g k scope a (AllAs p (take (i + 1) fs)) c
  each_more c r s =
      rw more (restricted_then g h k scope a (AllAs p (take i fs)) b (HoldsAs p (FormulaHolds f)) c (AllAs p (take i fs ++ f ∷ [])) r s
      (λ point env x y. all_both p (take i fs) f point env x y) (λ point env x. (all_first p (take i fs) f point env x).0)
      (λ point env x d. (all_first p (take i fs) f point env x).1))

  pub any_more : (j : Gauge) (base c all : List System) → AreRestricted g h scope a (AnyAs p (take i fs)) b → IsCharged h j
      → (b ≡ []) ⊎ (h.units + length a ≤ j.units) → base ≡ a → AreRestricted j k scope base (HoldsAs p (FormulaHolds f)) c → all ≡ b ++ c
      → AreRestricted g k scope a (AnyAs p (take (i + 1) fs)) all
  any_more j base c all r paid units same s e =
      rw (more, e) (restricted_either g h j k scope a (AnyAs p (take i fs)) b (HoldsAs p (FormulaHolds f)) c (AnyAs p (take i fs ++ f ∷ [])) r paid units
      (subst (λ (xs : List System). AreRestricted j k scope xs (HoldsAs p (FormulaHolds f)) c) same s)
      (λ point env x. any_left p (take i fs) f point env x) (λ point env x. any_right p (take i fs) f point env x)
      (λ point env x d. any_cases p (take i fs) f point env x d))

-- ---- a formula as its parts
to : (A B : Type 0) → A ≡ B → A → B
to A B e a = subst (λ (T : Type 0). T) e a

as_same : (p : Bool) (P Q : Environment → Type 0) (point : List ℤ) (env : Environment) → P env ↔ Q env
    → HoldsAs p P point env ↔ HoldsAs p Q point env
as_same true P Q point env s = s
as_same false P Q point env s = ((λ n y. n (s.1 y)), (λ n x. n (s.0 x)))

same_as : (p : Bool) (x : Formula) (Q : Environment → Type 0) (point : List ℤ) (env : Environment) → FormulaHolds x env ≡ Q env
    → HoldsAs p Q point env ↔ HoldsAs p (FormulaHolds x) point env
same_as p x Q point env e = as_same p Q (FormulaHolds x) point env (to (Q env) (FormulaHolds x env) (sym e), to (FormulaHolds x env) (Q env) e)

and_each : (p : Bool) (fs : List Formula) (point : List ℤ) (env : Environment) → p ≡ true → AllAs p fs point env ↔ HoldsAs p (EachHolds fs) point env
and_each true fs point env e = ((λ h. h), (λ h. h))
and_each false fs point env e = absurd (false≢true e)

and_any : (p : Bool) (fs : List Formula) (point : List ℤ) (env : Environment) → p ≡ false → AnyAs false fs point env ↔ HoldsAs p (EachHolds fs) point env
and_any true fs point env e = absurd (false≢true (sym e))
and_any false fs point env e = ((λ h. h), (λ h. h))

or_any : (p : Bool) (fs : List Formula) (point : List ℤ) (env : Environment) → p ≡ true → AnyAs true fs point env ↔ HoldsAs p (SomeHolds fs) point env
or_any true fs point env e = ((λ h. h), (λ h. h))
or_any false fs point env e = absurd (false≢true e)

or_each : (p : Bool) (fs : List Formula) (point : List ℤ) (env : Environment) → p ≡ false → AllAs p fs point env ↔ HoldsAs p (SomeHolds fs) point env
or_each true fs point env e = absurd (false≢true (sym e))
or_each false fs point env e = ((λ h. h), (λ h. h))

turned : (p : Bool) (F : Environment → Type 0) (point : List ℤ) (env : Environment)
    → HoldsAs (not p) F point env ⊎ (¬ HoldsAs (not p) F point env)
    → HoldsAs (not p) F point env ↔ HoldsAs p (λ e. F e × Unit {0} → ⊥) point env
turned true F point env d = ((λ n y. n y.0), (λ n y. n (y, tt)))
turned false F point env d = (
  (λ y n. n (y, tt)),
  (λ n. elim d [ inl y ↦ y | inr fails ↦ absurd (n (λ y. fails y.0)) ]),
)

through : (A B C : Type 0) → A ↔ B → B ↔ C → A ↔ C
through A B C s t = ((λ a. t.0 (s.0 a)), (λ c. s.1 (t.1 c)))

binds_same : (bs : List Binder) (P Q : Environment → Type 0) (env : Environment) → ((e : Environment) → P e ↔ Q e) → Binds bs P env ↔ Binds bs Q env
binds_same [] P Q env s = s env
binds_same (b ∷ bs) P Q env s = by b.value (λ z. binds_same bs P Q ((b.name, z) ∷ env) s)
  where
    by : (v : Option Term) → ((z : ℤ) → Binds bs P ((b.name, z) ∷ env) ↔ Binds bs Q ((b.name, z) ∷ env))
        → BindsOne v (λ z. Binds bs P ((b.name, z) ∷ env)) env ↔ BindsOne v (λ z. Binds bs Q ((b.name, z) ∷ env)) env
    by None f = ((λ h. (h.0, (f h.0).0 h.1)), (λ h. (h.0, (f h.0).1 h.1)))
    by (Some term) f = f (term_value term env)

bound_same : (bs : List Binder) (f : Formula) (env : Environment) → BoundHolds bs f env ↔ FormulaHolds (Exists bs f) env
bound_same bs f env =
    let inside = binds_same bs (λ e. FormulaHolds f e) (λ e. FormulaHolds f e × Unit {0}) env (λ e. ((λ y. (y, tt)), (λ y. y.0))) in
    let whole = holds-Exists bs f env in
    ((λ h. to _ _ (sym whole) (inside.0 h)), (λ h. inside.1 (to _ _ whole h)))

module _ (g h : Gauge) (scope : Scope) (a : List System) (p : Bool) (x : Formula) (b : List System) where
  abbrev Answer : Type 0
  Answer = AreRestricted g h scope a (HoldsAs p (FormulaHolds x)) b

  at_condition : (R : Condition) → ((point : List ℤ) (env : Environment) → R point env ⊎ (¬ R point env)
      → R point env ↔ HoldsAs p (FormulaHolds x) point env) → AreRestricted g h scope a R b → Answer
  at_condition R s r = restricted_same g h scope a R (HoldsAs p (FormulaHolds x)) b r s

  pub at_and_each : (fs : List Formula) → x ≡ And fs → p ≡ true → AreRestricted g h scope a (AllAs p fs) b → Answer
  at_and_each fs is e r = at_condition (AllAs p fs) (λ point env d. through _ _ _ (and_each p fs point env e)
      (same_as p x (EachHolds fs) point env (ap (λ y. FormulaHolds y env) is ∙ holds-And fs env))) r

  pub at_and_any : (fs : List Formula) → x ≡ And fs → p ≡ false → AreRestricted g h scope a (AnyAs false fs) b → Answer
  at_and_any fs is e r = at_condition (AnyAs false fs) (λ point env d. through _ _ _ (and_any p fs point env e)
      (same_as p x (EachHolds fs) point env (ap (λ y. FormulaHolds y env) is ∙ holds-And fs env))) r

  pub at_or_any : (fs : List Formula) → x ≡ Or fs → p ≡ true → AreRestricted g h scope a (AnyAs true fs) b → Answer
  at_or_any fs is e r = at_condition (AnyAs true fs) (λ point env d. through _ _ _ (or_any p fs point env e)
      (same_as p x (SomeHolds fs) point env (ap (λ y. FormulaHolds y env) is ∙ holds-Or fs env))) r

  pub at_or_each : (fs : List Formula) → x ≡ Or fs → p ≡ false → AreRestricted g h scope a (AllAs p fs) b → Answer
  at_or_each fs is e r = at_condition (AllAs p fs) (λ point env d. through _ _ _ (or_each p fs point env e)
      (same_as p x (SomeHolds fs) point env (ap (λ y. FormulaHolds y env) is ∙ holds-Or fs env))) r

  pub at_not : (f : Formula) (q : Bool) → x ≡ Not f → q ≡ not p → AreRestricted g h scope a (HoldsAs q (FormulaHolds f)) b → Answer
  at_not f q is e r = at_condition (HoldsAs (not p) (FormulaHolds f)) (λ point env d. through _ _ _ (turned p (FormulaHolds f) point env d)
      (same_as p x (λ e. FormulaHolds f e × Unit {0} → ⊥) point env (ap (λ y. FormulaHolds y env) is ∙ holds-Not f env))) (rw e at r)

  pub at_implies : (fs : List Formula) → x ≡ Implies fs → AreRestricted g h scope a (HoldsAs p (Imply fs)) b → Answer
  at_implies fs is r = at_condition (HoldsAs p (Imply fs)) (λ point env d.
      same_as p x (Imply fs) point env (ap (λ y. FormulaHolds y env) is ∙ holds-Implies fs env)) r

  pub at_exists : (bs : List Binder) (f : Formula) → x ≡ Exists bs f → AreRestricted g h scope a (HoldsAs p (BoundHolds bs f)) b → Answer
  at_exists bs f is r = rw is (restricted_same g h scope a (HoldsAs p (BoundHolds bs f)) (HoldsAs p (FormulaHolds (Exists bs f))) b r
      (λ point env d. as_same p (BoundHolds bs f) (FormulaHolds (Exists bs f)) point env (bound_same bs f env)))

  pub at_bound : (j : Gauge) (bs : List Binder) (f : Formula) (found : List System) → x ≡ Exists bs f
      → AreWhere g j scope (λ point env. BoundHolds bs f env) found
      → AreRestricted j h scope a (λ point env. HoldsAs p (λ e. HoldsAtAny found point) point env) b → Answer
  at_bound j bs f found is w r = at_exists bs f is (where_restricted g j h scope p (BoundHolds bs f) a found b w r)

  pub at_chain : (first : Side) (links : List Link) → x ≡ Chain first links → AreRestricted g h scope a (HoldsAs p (ChainHolds first links)) b → Answer
  at_chain first links is r = rw is r

pub at_true : (g : Gauge) (scope : Scope) (a : List System) (p : Bool) (x : Formula) → All (IsOver g scope) a → x ≡ True → p ≡ true
    → AreRestricted g g scope a (HoldsAs p (FormulaHolds x)) a
at_true g scope a p x o is e = rw (is, e) (restricted_all g scope a (HoldsAs true (FormulaHolds True)) o (λ point env. tt))

pub at_not_true : (g : Gauge) (scope : Scope) (a : List System) (p : Bool) (x : Formula) (b : List System) → x ≡ True → p ≡ false → b ≡ []
    → AreRestricted g g scope a (HoldsAs p (FormulaHolds x)) b
at_not_true g scope a p x b is e n = rw (is, e, n) (restricted_none g scope a (HoldsAs false (FormulaHolds True)) (λ point env h. h tt))

pub at_false : (g : Gauge) (scope : Scope) (a : List System) (p : Bool) (x : Formula) (b : List System) → x ≡ False → p ≡ true → b ≡ []
    → AreRestricted g g scope a (HoldsAs p (FormulaHolds x)) b
at_false g scope a p x b is e n = rw (is, e, n) (restricted_none g scope a (HoldsAs true (FormulaHolds False)) (λ point env h. h))

pub at_not_false : (g : Gauge) (scope : Scope) (a : List System) (p : Bool) (x : Formula) → All (IsOver g scope) a → x ≡ False → p ≡ false
    → AreRestricted g g scope a (HoldsAs p (FormulaHolds x)) a
at_not_false g scope a p x o is e = rw (is, e) (restricted_all g scope a (HoldsAs false (FormulaHolds False)) o (λ point env h. h))

-- ---- lists of formulas that begin
pub all_none : (g : Gauge) (scope : Scope) (a : List System) (p : Bool) → All (IsOver g scope) a → AreRestricted g g scope a (AllAs p []) a
all_none g scope a true o = restricted_all g scope a (AllAs true []) o (λ point env. tt)
all_none g scope a false o = restricted_all g scope a (AllAs false []) o (λ point env h. h)

pub any_none : (g : Gauge) (scope : Scope) (a : List System) (p : Bool) (b : List System) → b ≡ [] → AreRestricted g g scope a (AnyAs p []) b
any_none g scope a true b e = rw e (restricted_none g scope a (AnyAs true []) (λ point env h. h))
any_none g scope a false b e = rw e (restricted_none g scope a (AnyAs false []) (λ point env h. h tt))

-- the systems that hold somewhere
pub live_same : (g h k : Gauge) (scope : Scope) (a : List System) (P : Condition) (b c : List System) → AreRestricted g h scope a P b
    → AreRestricted h k scope b (λ point env. Unit {0}) c → AreRestricted g k scope a P c
live_same g h k scope a P b c r s = restricted_then g h k scope a P b (λ point env. Unit {0}) c P r s (λ point env x y. x) (λ point env x. x) (λ point env x d. tt)

-- ---- names and divisors
list_divisors : List Formula → List ℤ
list_divisors [] = []
list_divisors (f ∷ fs) = formula_divisors f ++ list_divisors fs

known_are : (m : Count) (known : List (List ℕ)) (row : Row_of-Formula m)
    → formulas_are_known known row ≡ list_all (formula_is_known known) (items-the_row-Formula m row)
known_are m known end_of-Formula = refl
known_are m known (more_of-Formula f row) = ap (λ (b : Bool). formula_is_known known f && b) (known_are _ known row)

divisors_are : (m : Count) (row : Row_of-Formula m) → row_divisors row ≡ list_divisors (items-the_row-Formula m row)
unfolding list_divisors
divisors_are m end_of-Formula = refl
divisors_are m (more_of-Formula f row) = ap (λ (ks : List ℤ). formula_divisors f ++ ks) (divisors_are _ row)

all_known : (known : List (List ℕ)) (fs : List Formula)
    → formulas_are_known known (hidden-the_row-Formula-0 fs) ≡ list_all (formula_is_known known) fs
all_known known fs = known_are _ known (hidden-the_row-Formula-0 fs) ∙ ap (list_all (formula_is_known known)) (items_hidden-the_row-Formula-0 fs)

all_divisors : (fs : List Formula) → row_divisors (hidden-the_row-Formula-0 fs) ≡ list_divisors fs
all_divisors fs = divisors_are _ (hidden-the_row-Formula-0 fs) ∙ ap list_divisors (items_hidden-the_row-Formula-0 fs)

abbrev Positive : ℤ → Type 0
Positive k = pos 0 <ℤ k

each_known : (scope : Scope) (known : List (List ℕ)) (fs : List Formula) → KnowsAll scope known → list_all (formula_is_known known) fs ≡ true
    → All Positive (list_divisors fs) → All (IsFormulaKnown scope) fs
unfolding list_divisors
each_known scope known [] all e d = All-nil (IsFormulaKnown scope)
each_known scope known (f ∷ fs) all e d =
    let both = and_parts (formula_is_known known f) (list_all (formula_is_known known) fs) e in
    let divisors = All-parts Positive (formula_divisors f) (list_divisors fs) d in
    All-cons (IsFormulaKnown scope) f fs (record { known = known; all = all; names = both.0; divisors = divisors.0 })
    (each_known scope known fs all both.1 divisors.1)

pub known_and : (scope : Scope) (x : Formula) (fs : List Formula) → x ≡ And fs → IsFormulaKnown scope x → All (IsFormulaKnown scope) fs
known_and scope x fs is k = each_known scope k.known fs k.all (sym (all_known k.known fs) ∙ sym (ap (formula_is_known k.known) is) ∙ k.names)
    (subst (All Positive) (ap formula_divisors is ∙ all_divisors fs) k.divisors)

pub known_or : (scope : Scope) (x : Formula) (fs : List Formula) → x ≡ Or fs → IsFormulaKnown scope x → All (IsFormulaKnown scope) fs
known_or scope x fs is k = each_known scope k.known fs k.all (sym (all_known k.known fs) ∙ sym (ap (formula_is_known k.known) is) ∙ k.names)
    (subst (All Positive) (ap formula_divisors is ∙ all_divisors fs) k.divisors)

pub known_implies : (scope : Scope) (x : Formula) (fs : List Formula) → x ≡ Implies fs → IsFormulaKnown scope x → All (IsFormulaKnown scope) fs
known_implies scope x fs is k = each_known scope k.known fs k.all (sym (all_known k.known fs) ∙ sym (ap (formula_is_known k.known) is) ∙ k.names)
    (subst (All Positive) (ap formula_divisors is ∙ all_divisors fs) k.divisors)

not_names : (known : List (List ℕ)) (f : Formula) → formula_is_known known (Not f) ≡ (formula_is_known known f && true)
unfolding hidden-the_row-Formula-1 denote.Hole.Carrier.hidden
not_names known f = refl

not_divisors : (f : Formula) → formula_divisors (Not f) ≡ formula_divisors f ++ []
unfolding hidden-the_row-Formula-1 denote.Hole.Carrier.hidden
not_divisors f = refl

pub known_not : (scope : Scope) (x f : Formula) → x ≡ Not f → IsFormulaKnown scope x → IsFormulaKnown scope f
known_not scope x f is k = record {
  known = k.known;
  all = k.all;
  names = (and_parts (formula_is_known k.known f) true (sym (not_names k.known f) ∙ sym (ap (formula_is_known k.known) is) ∙ k.names)).0;
  divisors = (All-parts Positive (formula_divisors f) [] (subst (All Positive) (ap formula_divisors is ∙ not_divisors f) k.divisors)).0;
}

exists_names : (known : List (List ℕ)) (bs : List Binder) (f : Formula)
    → formula_is_known known (Exists bs f) ≡ (binders_are_known known bs && (formula_is_known (known_below known bs) f && true))
unfolding hidden-the_row-Formula-1 denote.Hole.Carrier.hidden
exists_names known bs f = refl

exists_divisors : (bs : List Binder) (f : Formula) → formula_divisors (Exists bs f) ≡ binders_divisors bs ++ (formula_divisors f ++ [])
unfolding hidden-the_row-Formula-1 denote.Hole.Carrier.hidden
exists_divisors bs f = refl

pub known_binders : (scope : Scope) (x : Formula) (bs : List Binder) (f : Formula) → x ≡ Exists bs f → IsFormulaKnown scope x → AreBindersKnown scope bs
known_binders scope x bs f is k = record {
  known = k.known;
  all = k.all;
  names = (and_parts (binders_are_known k.known bs) (formula_is_known (known_below k.known bs) f && true)
      (sym (exists_names k.known bs f) ∙ sym (ap (formula_is_known k.known) is) ∙ k.names)).0;
  divisors = (All-parts Positive (binders_divisors bs) (formula_divisors f ++ [])
      (subst (All Positive) (ap formula_divisors is ∙ exists_divisors bs f) k.divisors)).0;
}

pub known_body : (scope : Scope) (x : Formula) (bs : List Binder) (f : Formula) → x ≡ Exists bs f → IsFormulaKnown scope x
    → IsFormulaKnown (scope_below bs scope) f
known_body scope x bs f is k =
    let names = and_parts (binders_are_known k.known bs) (formula_is_known (known_below k.known bs) f && true)
    (sym (exists_names k.known bs f) ∙ sym (ap (formula_is_known k.known) is) ∙ k.names) in
    let divisors = All-parts Positive (binders_divisors bs) (formula_divisors f ++ [])
    (subst (All Positive) (ap formula_divisors is ∙ exists_divisors bs f) k.divisors) in
    record {
      known = known_below k.known bs;
      all = knows_below bs scope k.known k.all;
      names = (and_parts (formula_is_known (known_below k.known bs) f) true names.1).0;
      divisors = (All-parts Positive (formula_divisors f) [] divisors.1).0;
    }

-- ---- a row of implications, from its last formula to its first
imply_from_snoc : (T : Type 0) (fs : List Formula) (f : Formula) (env : Environment)
    → ImplyFrom T (fs ++ f ∷ []) env ≡ ((ImplyFrom T fs env → ⊥) ⊎ FormulaHolds f env)
imply_from_snoc T [] f env = refl
imply_from_snoc T (x ∷ fs) f env = imply_from_snoc ((T → ⊥) ⊎ FormulaHolds x env) fs f env

imply_snoc : (fs : List Formula) (f : Formula) (env : Environment) → 0 < length fs
    → Imply (fs ++ f ∷ []) env ≡ ((Imply fs env → ⊥) ⊎ FormulaHolds f env)
imply_snoc [] f env l = absurd (omega arith)
imply_snoc (x ∷ fs) f env l = imply_from_snoc (FormulaHolds x env) fs f env

-- what is left to be done: with systems restricted by the formulas before, all that is found is restricted by the whole row
pub record IsImpliedSoFar (g h : Gauge) (scope : Scope) (a : List System) (p : Bool) (fs : List Formula) (count : ℕ) (q : Bool) (b found : List System) : Type 0 where
  pub low : count < length fs
  pub charged : IsCharged g h
  pub over : All (IsOver g scope) b
  pub rest : (k : Gauge) (last : List System) → AreRestricted h k scope b (HoldsAs q (Imply (take (count + 1) fs))) last
      → AreRestricted g k scope a (HoldsAs p (Imply fs)) (found ++ last)

pub implied_first : (g : Gauge) (scope : Scope) (a : List System) (p : Bool) (fs : List Formula) (count : ℕ) (found : List System)
    → All (IsOver g scope) a → count + 1 ≡ length fs → found ≡ [] → IsImpliedSoFar g g scope a p fs count p a found
implied_first g scope a p fs count found o e none = record {
  low = omega (arith, e);
  charged = IsCharged_refl g g refl;
  over = o;
  rest = λ k last r. rw none (subst (λ (xs : List Formula). AreRestricted g k scope a (HoldsAs p (Imply xs)) last) (take_all (count + 1) fs (omega (arith, e))) r);
}

module _ (g h : Gauge) (scope : Scope) (a : List System) (p : Bool) (fs : List Formula) (count : ℕ) (f : Formula) (b found : List System)
    (before : 0 < count) (is : f ≡ get_or fs count f) where
  row_more : count < length fs → (env : Environment) → Imply (take (count + 1) fs) env ≡ ((Imply (take count fs) env → ⊥) ⊎ FormulaHolds f env)
  row_more low env =
      let short = length-take-le count fs (omega (arith, low)) in
      ap (λ (xs : List Formula). Imply xs env) (take_more fs count f low ∙ ap (λ (x : Formula). take count fs ++ x ∷ []) (sym is))
      ∙ imply_snoc (take count fs) f env (omega (arith, short, before))

  -- the last formula holds, or the row before it does not
  pub implied_holds : (j k : Gauge) (base more all : List System) (next : ℕ) → IsImpliedSoFar g h scope a p fs count true b found → IsCharged h j
      → (b ≡ []) ⊎ (h.units + length b ≤ j.units) → base ≡ b → AreRestricted j k scope base (HoldsAs true (FormulaHolds f)) more → all ≡ found ++ more
      → next + 1 ≡ count → IsImpliedSoFar g k scope a p fs next false b all
  implied_holds j k base more all next so_far paid units same r e down = record {
    low = let low = so_far.low in omega (arith, low, down);
    charged = IsCharged_trans g j k (IsCharged_trans g h j so_far.charged paid) r.charged;
    over = so_far.over;
    rest = λ end last s.
        let here = subst (λ (xs : List System). AreRestricted j k scope xs (HoldsAs true (FormulaHolds f)) more) same r in
        let from = subst (λ (n : ℕ). AreRestricted k end scope b (HoldsAs false (Imply (take n fs))) last) down s in
        rw e (subst (λ (xs : List System). AreRestricted g end scope a (HoldsAs p (Imply fs)) xs) (sym (append_assoc found more last))
        (so_far.rest end (more ++ last) (restricted_both h j k end scope b (HoldsAs true (FormulaHolds f)) more (HoldsAs false (Imply (take count fs))) last (HoldsAs true (Imply (take (count + 1) fs))) paid units here from
        (λ point env x. to _ _ (sym (row_more so_far.low env)) (inr x))
        (λ point env x. to _ _ (sym (row_more so_far.low env)) (inl x))
        (λ point env x d. elim (to _ _ (row_more so_far.low env) x) [ inl n ↦ inr n | inr y ↦ inl y ]))));
  }

  -- the last formula does not hold, and the row before it does
  pub implied_denied : (k : Gauge) (c : List System) (next : ℕ) → IsImpliedSoFar g h scope a p fs count false b found
      → AreRestricted h k scope b (HoldsAs false (FormulaHolds f)) c → next + 1 ≡ count → IsImpliedSoFar g k scope a p fs next true c found
  implied_denied k c next so_far r down = record {
    low = let low = so_far.low in omega (arith, low, down);
    charged = IsCharged_trans g h k so_far.charged r.charged;
    over = over_before g h scope c so_far.charged r.over;
    rest = λ end last s.
        let from = subst (λ (n : ℕ). AreRestricted k end scope c (HoldsAs true (Imply (take n fs))) last) down s in
        so_far.rest end last (restricted_then h k end scope b (HoldsAs false (FormulaHolds f)) c (HoldsAs true (Imply (take count fs))) last (HoldsAs false (Imply (take (count + 1) fs))) r from
        (λ point env x y z. elim (to _ _ (row_more so_far.low env) z) [ inl n ↦ n y | inr w ↦ x w ])
        (λ point env x y. x (to _ _ (sym (row_more so_far.low env)) (inr y)))
        (λ point env x d. elim d [ inl y ↦ y | inr n ↦ absurd (x (to _ _ (sym (row_more so_far.low env)) (inl n))) ]));
  }

pub holds_next : (g h : Gauge) (scope : Scope) (a : List System) (p : Bool) (fs : List Formula) (count : ℕ) (f : Formula) (q : Bool) (b found : List System) (j k end : Gauge) (base more all b2 found2 : List System)
    → 0 < count → f ≡ get_or fs count f → q ≡ true → IsImpliedSoFar g h scope a p fs count q b found → IsCharged h j
    → (b ≡ []) ⊎ (h.units + length b ≤ j.units) → base ≡ b → AreRestricted j k scope base (HoldsAs q (FormulaHolds f)) more → all ≡ found ++ more
    → end ≡ k → b2 ≡ b → found2 ≡ all → IsImpliedSoFar g end scope a p fs (count - 1) (not q) b2 found2
holds_next g h scope a p fs count f true b found j k end base more all b2 found2 low is e so_far paid units same r sum at_end at_b at_found =
    rw (at_end, at_b, at_found) (implied_holds g h scope a p fs count f b found low is j k base more all (count - 1) so_far paid units same r sum (omega (arith, low)))
holds_next g h scope a p fs count f false b found j k end base more all b2 found2 low is e so_far paid units same r sum at_end at_b at_found =
    absurd (false≢true e)

pub denied_next : (g h : Gauge) (scope : Scope) (a : List System) (p : Bool) (fs : List Formula) (count : ℕ) (f : Formula) (q : Bool) (b found : List System) (k end : Gauge) (c b2 found2 : List System)
    → 0 < count → f ≡ get_or fs count f → q ≡ false → IsImpliedSoFar g h scope a p fs count q b found
    → AreRestricted h k scope b (HoldsAs q (FormulaHolds f)) c → end ≡ k → b2 ≡ c → found2 ≡ found
    → IsImpliedSoFar g end scope a p fs (count - 1) (not q) b2 found2
denied_next g h scope a p fs count f true b found k end c b2 found2 low is e so_far r at_end at_b at_found = absurd (false≢true (sym e))
denied_next g h scope a p fs count f false b found k end c b2 found2 low is e so_far r at_end at_b at_found =
    rw (at_end, at_b, at_found) (implied_denied g h scope a p fs count f b found low is k c (count - 1) so_far r (omega (arith, low)))

pub implied_last : (g h k : Gauge) (scope : Scope) (a : List System) (p : Bool) (fs : List Formula) (count : ℕ) (f : Formula) (q : Bool) (b found last all : List System)
    → count ≡ 0 → f ≡ get_or fs 0 f → IsImpliedSoFar g h scope a p fs count q b found → AreRestricted h k scope b (HoldsAs q (FormulaHolds f)) last
    → all ≡ found ++ last → AreRestricted g k scope a (HoldsAs p (Imply fs)) all
implied_last g h k scope a p [] count f q b found last all z is so_far r e = let low = so_far.low in absurd (omega (arith, low))
implied_last g h k scope a p (x ∷ fs) count f q b found last all z is so_far r e =
    rw e (so_far.rest k last (rw z (rw is at r)))

pub implied_none : (g : Gauge) (scope : Scope) (a : List System) (p : Bool) (fs : List Formula) → All (IsOver g scope) a → fs ≡ [] → p ≡ true
    → AreRestricted g g scope a (HoldsAs p (Imply fs)) a
implied_none g scope a p fs o e is = rw (e, is) (restricted_all g scope a (HoldsAs true (Imply [])) o (λ point env. tt))

pub implied_not_none : (g : Gauge) (scope : Scope) (a : List System) (p : Bool) (fs : List Formula) (b : List System) → fs ≡ [] → p ≡ false → b ≡ []
    → AreRestricted g g scope a (HoldsAs p (Imply fs)) b
implied_not_none g scope a p fs b e is n = rw (e, is, n) (restricted_none g scope a (HoldsAs false (Imply [])) (λ point env h. h tt))

pub known_at : (scope : Scope) (fs : List Formula) (i : ℕ) (f : Formula) → All (IsFormulaKnown scope) fs → i < length fs → f ≡ get_or fs i f
    → IsFormulaKnown scope f
known_at scope fs i f k low is = rw is (k i f low)

pub each_all : (g h : Gauge) (scope : Scope) (a : List System) (p : Bool) (fs : List Formula) (i : ℕ) (b : List System) → length fs ≤ i
    → AreRestricted g h scope a (AllAs p (take i fs)) b → AreRestricted g h scope a (AllAs p fs) b
each_all g h scope a p fs i b l r = subst (λ (xs : List Formula). AreRestricted g h scope a (AllAs p xs) b) (take_all i fs l) r

pub any_all : (g h : Gauge) (scope : Scope) (a : List System) (p : Bool) (fs : List Formula) (i : ℕ) (b : List System) → length fs ≤ i
    → AreRestricted g h scope a (AnyAs p (take i fs)) b → AreRestricted g h scope a (AnyAs p fs) b
any_all g h scope a p fs i b l r = subst (λ (xs : List Formula). AreRestricted g h scope a (AnyAs p xs) b) (take_all i fs l) r

-- ---- one system at the beginning
pub whole_over : (g : Gauge) (scope : Scope) (s : System) (systems : List System) → systems ≡ s ∷ [] → IsSystemWithin g s
    → length scope ≡ free_columns s → All (IsOver g scope) systems
whole_over g scope s systems e w l = rw e (All-cons (IsOver g scope) s [] (record { within = w; columns = sym l }) (All-nil (IsOver g scope)))

module _ (g h : Gauge) (scope : Scope) (s : System) (systems : List System) (f : Formula) (found : List System) (one : systems ≡ s ∷ [])
    (columns : length scope ≡ free_columns s) (restricted : AreRestricted g h scope systems (HoldsAs true (FormulaHolds f)) found) where
  pub whole_points : (point : List ℤ) (env : Environment) → length point ≡ free_columns s → IsNumbered scope point env
      → HoldsAtAny found point ↔ (HoldsSystem s point × FormulaHolds f env)
  whole_points point env l n =
      let same = restricted.points point env (l ∙ sym columns) n in
      let S : System → Type 0 = λ t. HoldsSystem t point in (
        (λ h. let x = same.0 h in (Any-one S s (subst (λ (xs : List System). Any S xs) one x.0), x.1)),
        (λ x. same.1 (subst (λ (xs : List System). Any S xs) (sym one) (Any-first S s [] x.0), x.1)),
      )

  pub whole_within : All (λ t. IsSystemWithin g t × (free_columns t ≡ free_columns s)) found
  whole_within k d i = let o = restricted.over k d i in (o.within, o.columns ∙ columns)

  pub whole_counted : length found + g.units ≤ h.units + 1
  whole_counted = let few = restricted.counted in let long = ap (λ (xs : List System). length xs) one in omega (arith, few, long)
