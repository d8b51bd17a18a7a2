-- The comparisons of chains: where they hold, and where one does not.
use Rattle.std.proofs.Common.{◌≡◌, ◌≢◌, ◌↔◌, ◌⊎◌, inl, inr, refl, sym, ap, ◌∙◌, subst, arith, ℕ, ◌+◌, ◌<◌, ◌≤◌, ℤ, pos, ◌<ℤ◌, ◌≤ℤ◌, ◌-ℤ◌, Bool, true, false, ◌&&◌, List, [], ◌∷◌, ◌++◌, length, map}
use Rattle.std.specs.List.{All, list_all}
use Rattle.std.proofs.lemmas.Bool.{and_parts, false≢true}
use Rattle.std.proofs.lemmas.List.{append_assoc, append-nil}
use Rattle.std.proofs.lemmas.List.Elements.{All-nil, All-cons, All-append, All-head}
use Rattle.isl_math.proofs.ListLaws.{All-parts}
use Rattle.isl_math.proofs.Ring.{linear}
use Rattle.isl_meter.specs.Gauge.{Gauge, IsCharged}
use Rattle.isl_meter.proofs.CutLemmas.{charges}
use Rattle.isl_piece.specs.declared.system.System.{System}
use Rattle.isl_piece.proofs.ContentLaws.{zero_cases}
use Rattle.isl_piece.proofs.NormalCases.{negative_cases}
use Rattle.isl_affine.specs.Comparison.{splits, differs, zero_remainder}
use Rattle.isl_tree.specs.Divisors.{HasDivisors, term_divisors}
use Rattle.isl_affine.specs.Scope.{Scope, KnowsAll, IsTermKnown}
use Rattle.isl_tree.specs.declared.tree.Compare.{Compare}
use Rattle.isl_tree.specs.declared.tree.Compare.TheVariants.{Equal, Less, LessEqual, Greater, GreaterEqual, Differs}
use Rattle.isl_tree.specs.declared.tree.Formula.{Formula, Chain}
use Rattle.isl_tree.specs.Environment.{Environment}
use Rattle.isl_tree.specs.Formula.{Link, Side, Compares, ComparesToAll, SidesCompare, ChainHolds}
use Rattle.isl_tree.specs.Term.{Term, term_value}
use Rattle.isl_tree.specs.Known.{formula_is_known, term_is_known, side_is_known, links_are_known}
use Rattle.isl_alternatives.specs.Chain.{Compared, HoldsCompared, EachCompared, IsComparedKnown, term_compared, sides_compared, chain_compared, opposite}
use Rattle.isl_alternatives.specs.Known.{IsFormulaKnown}
use Rattle.isl_tree.specs.Divisors.{formula_divisors, side_divisors, links_divisors}
use Rattle.isl_alternatives.specs.Restricted.{AreRestricted, Condition, HoldsAs, IsOver}
use Rattle.isl_alternatives.proofs.RestrictedLaws.{restricted_all, restricted_none, restricted_then, restricted_either, restricted_same}

-- ---- lists of comparisons
each_append : (cs ds : List Compared) (env : Environment) → EachCompared (cs ++ ds) env ↔ (EachCompared cs env × EachCompared ds env)
each_append [] ds env = ((λ h. (tt, h)), (λ h. h.1))
each_append (c ∷ cs) ds env = let rest = each_append cs ds env in
    ((λ h. let y = rest.0 h.1 in ((h.0, y.0), y.1)), (λ h. (h.0.0, rest.1 (h.0.1, h.1))))

term_same : (left : Term) (c : Compare) (rights : Side) (env : Environment) → ComparesToAll c left rights env ↔ EachCompared (term_compared left c rights) env
term_same left c [] env = ((λ h. h), (λ h. h))
term_same left c (right ∷ rights) env = let rest = term_same left c rights env in ((λ h. (h.0, rest.0 h.1)), (λ h. (h.0, rest.1 h.1)))

sides_same : (lefts : Side) (c : Compare) (rights : Side) (env : Environment) → SidesCompare c lefts rights env ↔ EachCompared (sides_compared lefts c rights) env
sides_same [] c rights env = ((λ h. h), (λ h. h))
sides_same (left ∷ lefts) c rights env =
    let first = term_same left c rights env in
    let rest = sides_same lefts c rights env in
    let both = each_append (term_compared left c rights) (sides_compared lefts c rights) env in
    ((λ h. both.1 (first.0 h.0, rest.0 h.1)), (λ h. let y = both.0 h in (first.1 y.0, rest.1 y.1)))

pub chain_same : (first : Side) (links : List Link) (env : Environment) → ChainHolds first links env ↔ EachCompared (chain_compared first links) env
chain_same first [] env = ((λ h. h), (λ h. h))
chain_same first (link ∷ links) env =
    let here = sides_same first link.0 link.1 env in
    let rest = chain_same link.1 links env in
    let both = each_append (sides_compared first link.0 link.1) (chain_compared link.1 links) env in
    ((λ h. both.1 (here.0 h.0, rest.0 h.1)), (λ h. let y = both.0 h in (here.1 y.0, rest.1 y.1)))

-- ---- numbers
order : (a b : ℤ) → (a <ℤ b) ⊎ ((a ≡ b) ⊎ (b <ℤ a))
order a b = elim (negative_cases (a -ℤ b)) [
  | inl n ↦ inl (below a b n)
  | inr p ↦ elim (zero_cases (a -ℤ b)) [
    | inl z ↦ inr (inl (equal a b z))
    | inr n ↦ inr (inr (above a b p n))
  ]
]
  where
    below : (a b : ℤ) → (a -ℤ b) <ℤ pos 0 → a <ℤ b
    below a b h = omega (arith, linear)

    equal : (a b : ℤ) → (a -ℤ b) ≡ pos 0 → a ≡ b
    equal a b h = omega (arith, linear)

    above : (a b : ℤ) → pos 0 ≤ℤ (a -ℤ b) → (a -ℤ b) ≢ pos 0 → b <ℤ a
    above a b h n = omega (arith, linear)

less_differs : (a b : ℤ) → a <ℤ b → a ≢ b
less_differs a b h e = omega (arith, linear)

greater_differs : (a b : ℤ) → b <ℤ a → a ≢ b
greater_differs a b h e = omega (arith, linear)

opposite_not : (c : Compare) (a b : ℤ) → Compares (opposite c) a b → ¬ Compares c a b
opposite_not Equal a b h k = h k
opposite_not Less a b h k = omega (arith, linear)
opposite_not LessEqual a b h k = omega (arith, linear)
opposite_not Greater a b h k = omega (arith, linear)
opposite_not GreaterEqual a b h k = omega (arith, linear)
opposite_not Differs a b h k = k h

less_weak : (a b : ℤ) → a <ℤ b → a ≤ℤ b
less_weak a b h = omega (arith, linear)

same_weak : (a b : ℤ) → a ≡ b → a ≤ℤ b
same_weak a b h = omega (arith, linear)

not_opposite : (c : Compare) (a b : ℤ) → ¬ Compares c a b → Compares (opposite c) a b
not_opposite Equal a b h = h
not_opposite Less a b h = elim (order a b) [ inl l ↦ absurd (h l) | inr r ↦ elim r [ inl e ↦ same_weak b a (sym e) | inr g ↦ less_weak b a g ] ]
not_opposite LessEqual a b h = elim (order a b) [ inl l ↦ absurd (h (less_weak a b l)) | inr r ↦ elim r [ inl e ↦ absurd (h (same_weak a b e)) | inr g ↦ g ] ]
not_opposite Greater a b h = elim (order a b) [ inl l ↦ less_weak a b l | inr r ↦ elim r [ inl e ↦ same_weak a b e | inr g ↦ absurd (h g) ] ]
not_opposite GreaterEqual a b h = elim (order a b) [ inl l ↦ l | inr r ↦ elim r [ inl e ↦ absurd (h (same_weak b a (sym e))) | inr g ↦ absurd (h (less_weak b a g)) ] ]
not_opposite Differs a b h = elim (order a b) [ inl l ↦ absurd (h (less_differs a b l)) | inr r ↦ elim r [ inl e ↦ e | inr g ↦ absurd (h (greater_differs a b g)) ] ]

-- ---- one comparison after another
-- a comparison that no single row tells
splits_differs : (c : Compare) (left right : Term) → splits c left right ≡ true → c ≡ Differs
splits_differs Differs left right e = refl
splits_differs Equal left right e = absurd (false≢true e)
splits_differs Less left right e = absurd (false≢true e)
splits_differs LessEqual left right e = absurd (false≢true e)
splits_differs Greater left right e = absurd (false≢true e)
splits_differs GreaterEqual left right e = absurd (false≢true e)

abbrev pub Where : Compared → Condition
Where c point env = HoldsCompared c env

abbrev pub WhereEach : List Compared → Condition
WhereEach cs point env = EachCompared cs env

abbrev pub WhereDenied : List Compared → Condition
WhereDenied cs point env = ¬ EachCompared cs env

-- `!=` is `<` or `>`
pub split_either : (g h j k : Gauge) (scope : Scope) (a below base above all : List System) (left right : Term) (c : Compare) → splits c left right ≡ true
    → AreRestricted g h scope a (Where (left, Less, right)) below → IsCharged h j → (below ≡ []) ⊎ (h.units + length a ≤ j.units) → base ≡ a
    → AreRestricted j k scope base (Where (left, Greater, right)) above → all ≡ below ++ above → AreRestricted g k scope a (Where (left, c, right)) all
split_either g h j k scope a below base above all left right c s p paid units same q e =
    rw (e, splits_differs c left right s) (restricted_either g h j k scope a (Where (left, Less, right)) below (Where (left, Greater, right)) above (Where (left, Differs, right)) p paid units
    (subst (λ (xs : List System). AreRestricted j k scope xs (Where (left, Greater, right)) above) same q)
    (λ point env x. less_differs (term_value left env) (term_value right env) x) (λ point env x. greater_differs (term_value left env) (term_value right env) x)
    (λ point env x d. elim (order (term_value left env) (term_value right env)) [ inl l ↦ inl l | inr r ↦ elim r [ inl same_value ↦ absurd (x same_value) | inr g ↦ inr g ] ]))

-- some of the comparisons are done, the others are ahead
pub record AreCompared (g h : Gauge) (scope : Scope) (all ahead : List Compared) (W : List Compared → Condition) (a b : List System)
    : Type 0 where
  pub done : List Compared
  pub parts : done ++ ahead ≡ all
  pub restricted : AreRestricted g h scope a (W done) b

one_done : (all before ahead done : List Compared) (c : Compared) → before ≡ c ∷ ahead → done ++ before ≡ all → (done ++ c ∷ []) ++ ahead ≡ all
one_done all before ahead done c is parts =
    append_assoc done (c ∷ []) ahead ∙ ap (λ (cs : List Compared). done ++ cs) (sym is) ∙ parts

pub each_first : (g : Gauge) (scope : Scope) (all : List Compared) (a : List System) → All (IsOver g scope) a
    → AreCompared g g scope all all WhereEach a a
each_first g scope all a over = record {
  done = [];
  parts = refl;
  restricted = restricted_all g scope a (WhereEach []) over (λ point env. tt);
}

pub each_more : (g h j k : Gauge) (scope : Scope) (all before ahead : List Compared) (c : Compared) (a b d e : List System)
    → before ≡ c ∷ ahead → AreCompared g h scope all before WhereEach a b → AreRestricted h j scope b (Where c) d
    → AreRestricted j k scope d (λ point env. Unit {0}) e → AreCompared g k scope all ahead WhereEach a e
each_more g h j k scope all before ahead c a b d e is so_far one_more same =
    let done = so_far.done in
    let one = restricted_then g h j scope a (WhereEach done) b (Where c) d (WhereEach (done ++ c ∷ [])) so_far.restricted one_more
    (λ point env x y. (each_append done (c ∷ []) env).1 (x, (y, tt)))
    (λ point env x. ((each_append done (c ∷ []) env).0 x).0)
    (λ point env x d. ((each_append done (c ∷ []) env).0 x).1.0) in
    record {
      done = done ++ c ∷ [];
      parts = one_done all before ahead done c is so_far.parts;
      restricted = restricted_then g j k scope a (WhereEach (done ++ c ∷ [])) d (λ point env. Unit {0}) e (WhereEach (done ++ c ∷ [])) one same
          (λ point env x y. x) (λ point env x. x) (λ point env x d. tt);
    }

pub denied_first : (g : Gauge) (scope : Scope) (all : List Compared) (a : List System) → AreCompared g g scope all all WhereDenied a []
denied_first g scope all a = record {
  done = [];
  parts = refl;
  restricted = restricted_none g scope a (WhereDenied []) (λ point env n. n tt);
}

pub denied_more : (g h j k : Gauge) (scope : Scope) (all before ahead : List Compared) (c : Compared) (a b base d found : List System)
    → before ≡ c ∷ ahead → AreCompared g h scope all before WhereDenied a b → IsCharged h j → (b ≡ []) ⊎ (h.units + length a ≤ j.units)
    → base ≡ a → AreRestricted j k scope base (Where (c.0, opposite c.1, c.2)) d → found ≡ b ++ d
    → AreCompared g k scope all ahead WhereDenied a found
denied_more g h j k scope all before ahead c a b base d found is so_far paid units same s e =
    let done = so_far.done in
    let left = term_value c.0 in
    let right = term_value c.2 in
    let turned = λ (point : List ℤ) (env : Environment) (x : Compares (opposite c.1) (left env) (right env))
    (y : EachCompared (done ++ c ∷ []) env). opposite_not c.1 (left env) (right env) x ((each_append done (c ∷ []) env).0 y).1.0 in
    record {
      done = done ++ c ∷ [];
      parts = one_done all before ahead done c is so_far.parts;
      restricted = rw e (restricted_either g h j k scope a (WhereDenied done) b (Where (c.0, opposite c.1, c.2)) d
          (WhereDenied (done ++ c ∷ [])) so_far.restricted paid units
          (subst (λ (xs : List System). AreRestricted j k scope xs (Where (c.0, opposite c.1, c.2)) d) same s)
          (λ point env x y. x ((each_append done (c ∷ []) env).0 y).0)
          turned
          (λ point env x t. elim t [
            | inl y ↦ inl y
            | inr n ↦ inr (not_opposite c.1 (left env) (right env) (λ z. n (λ w. x ((each_append done (c ∷ []) env).1 (w, (z, tt))))))
          ]));
    }

-- none is ahead
pub all_compared : (g h : Gauge) (scope : Scope) (all ahead : List Compared) (W : List Compared → Condition) (a b : List System)
    → ahead ≡ [] → AreCompared g h scope all ahead W a b → AreRestricted g h scope a (W all) b
all_compared g h scope all ahead W a b none so_far =
    let whole : so_far.done ≡ all =
    sym (append-nil so_far.done) ∙ ap (λ (cs : List Compared). so_far.done ++ cs) (sym none) ∙ so_far.parts in
    subst (λ (cs : List Compared). AreRestricted g h scope a (W cs) b) whole so_far.restricted

-- ---- names and divisors
abbrev Positive : ℤ → Type 0
Positive k = pos 0 <ℤ k

module _ (scope : Scope) (known : List (List ℕ)) (all : KnowsAll scope known) where
  known_terms : (left : Term) (c : Compare) (rights : Side) → term_is_known known left ≡ true → side_is_known known rights ≡ true
      → HasDivisors left → All Positive (side_divisors rights) → All (IsComparedKnown scope) (term_compared left c rights)
  known_terms left c [] l r d e = All-nil (IsComparedKnown scope)
  known_terms left c (right ∷ rights) l r d e =
      let both = and_parts (term_is_known known right) (side_is_known known rights) r in
      let divisors = All-parts Positive (term_divisors right) (side_divisors rights) e in
      All-cons (IsComparedKnown scope) (left, c, right) (term_compared left c rights)
      (record { left = (known, all, l); right = (known, all, both.0); left_divisors = d; right_divisors = divisors.0 })
      (known_terms left c rights l both.1 d divisors.1)

  known_sides : (lefts : Side) (c : Compare) (rights : Side) → side_is_known known lefts ≡ true → side_is_known known rights ≡ true
      → All Positive (side_divisors lefts) → All Positive (side_divisors rights) → All (IsComparedKnown scope) (sides_compared lefts c rights)
  known_sides [] c rights l r d e = All-nil (IsComparedKnown scope)
  known_sides (left ∷ lefts) c rights l r d e =
      let both = and_parts (term_is_known known left) (side_is_known known lefts) l in
      let divisors = All-parts Positive (term_divisors left) (side_divisors lefts) d in
      All-append (IsComparedKnown scope) (term_compared left c rights) (sides_compared lefts c rights)
      (known_terms left c rights both.0 r divisors.0 e) (known_sides lefts c rights both.1 r divisors.1 e)

  known_links : (first : Side) (links : List Link) → side_is_known known first ≡ true → links_are_known known links ≡ true
      → All Positive (side_divisors first) → All Positive (links_divisors links) → All (IsComparedKnown scope) (chain_compared first links)
  known_links first [] f l d e = All-nil (IsComparedKnown scope)
  known_links first (link ∷ links) f l d e =
      let both = and_parts (side_is_known known link.1) (links_are_known known links) l in
      let divisors = All-parts Positive (side_divisors link.1) (links_divisors links) e in
      All-append (IsComparedKnown scope) (sides_compared first link.0 link.1) (chain_compared link.1 links)
      (known_sides first link.0 link.1 f both.0 d divisors.0) (known_links link.1 links both.0 both.1 divisors.0 divisors.1)

pub known_chain : (scope : Scope) (x : Formula) (first : Side) (links : List Link) → x ≡ Chain first links → IsFormulaKnown scope x
    → All (IsComparedKnown scope) (chain_compared first links)
known_chain scope x first links is k =
    let names = and_parts (side_is_known k.known first) (links_are_known k.known links) (sym (ap (formula_is_known k.known) is) ∙ k.names) in
    let divisors = All-parts Positive (side_divisors first) (links_divisors links) (subst (All Positive) (ap formula_divisors is) k.divisors) in
    known_links scope k.known k.all first links names.0 names.1 divisors.0 divisors.1

-- of those that are ahead too
pub known_next : (g h : Gauge) (scope : Scope) (all before ahead : List Compared) (W : List Compared → Condition) (a b : List System)
    (c : Compared) → before ≡ c ∷ ahead → AreCompared g h scope all before W a b → All (IsComparedKnown scope) all → IsComparedKnown scope c
known_next g h scope all before ahead W a b c is so_far known =
    let K : Compared → Type 0 = IsComparedKnown scope in
    let rest = (All-parts K so_far.done before (subst (All K) (sym so_far.parts) known)).1 in
    All-head K c ahead (subst (All K) is rest)

pub denied_known : (scope : Scope) (c : Compared) → IsComparedKnown scope c → IsComparedKnown scope (c.0, opposite c.1, c.2)
denied_known scope c k = record { left = k.left; right = k.right; left_divisors = k.left_divisors; right_divisors = k.right_divisors }

as_chain : (p : Bool) (first : Side) (links : List Link) (point : List ℤ) (env : Environment)
    → HoldsAs p (EachCompared (chain_compared first links)) point env ↔ HoldsAs p (ChainHolds first links) point env
as_chain true first links point env = let same = chain_same first links env in (same.1, same.0)
as_chain false first links point env = let same = chain_same first links env in ((λ n x. n (same.0 x)), (λ n y. n (same.1 y)))

pub chain_holds : (g h : Gauge) (scope : Scope) (a : List System) (p : Bool) (first : Side) (links : List Link) (cs : List Compared) (b : List System)
    → cs ≡ chain_compared first links → p ≡ true → AreRestricted g h scope a (WhereEach cs) b → AreRestricted g h scope a (HoldsAs p (ChainHolds first links)) b
chain_holds g h scope a p first links cs b e is r =
    rw is (restricted_same g h scope a (WhereEach (chain_compared first links)) (HoldsAs true (ChainHolds first links)) b (rw e at r)
    (λ point env d. as_chain true first links point env))

pub chain_fails : (g h : Gauge) (scope : Scope) (a : List System) (p : Bool) (first : Side) (links : List Link) (cs : List Compared) (b : List System)
    → cs ≡ chain_compared first links → p ≡ false → AreRestricted g h scope a (WhereDenied cs) b → AreRestricted g h scope a (HoldsAs p (ChainHolds first links)) b
chain_fails g h scope a p first links cs b e is r =
    rw is (restricted_same g h scope a (WhereDenied (chain_compared first links)) (HoldsAs false (ChainHolds first links)) b (rw e at r)
    (λ point env d. as_chain false first links point env))

pub ruleset steps = (charges, split_either, each_first, denied_first)
