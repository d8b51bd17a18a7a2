-- Lists of calls put together: none, one, two lists, one turn after another; and that such a list is good.
use Rattle.std.proofs.Common.{◌≡◌, ◌↔◌, ◌⊎◌, ◌∙◌, inl, inr, refl, sym, ap, subst, arith, suc, ◌<◌, ℤ, ◌<ℤ◌, List, []}
use Rattle.std.proofs.Common.{◌∷◌, ◌++◌, length, get_or}
use Rattle.std.specs.List.{AllPairs, Contains}
use Rattle.std.proofs.lemmas.List.{map-append, length-map, get_or-map}
use Rattle.std.proofs.lemmas.List.Elements.{Contains-append_left, Contains-append_right, Contains-append_cases, Contains-push}
use Rattle.std.proofs.lemmas.List.Elements.{Contains-get_or}
use Rattle.isl_math.specs.Order.{IsBefore}
use Rattle.isl_loop.specs.Run.{Event, each_in}
use Rattle.isl_loop.specs.Nest.{Timed, MayPrecede, Lists}
use Rattle.isl_loop.specs.Good.{AreGood}
use Rattle.isl_loop.proofs.TurnLaws.{pairs_append, contains_one, nothing, above}

pub lists_same : (P Q : Timed → Type 0) (calls : List Event) → ((t : Timed) → P t ↔ Q t) → Lists P calls → Lists Q calls
lists_same P Q calls same l = record {
  timed = l.timed;
  called = l.called;
  exact = λ t. ((λ c. (same t).0 ((l.exact t).0 c)), (λ q. (l.exact t).1 ((same t).1 q)));
  ordered = l.ordered;
}

pub lists_none : (P : Timed → Type 0) → ((t : Timed) → ¬ P t) → Lists P []
lists_none P none = record {
  timed = [];
  called = refl;
  exact = λ t. ((λ c. absurd (nothing t c)), (λ p. absurd (none t p)));
  ordered = λ i j d below inside. absurd (omega (arith, below, inside));
}

pub lists_one : (P : Timed → Type 0) (t : Timed) → ((u : Timed) → P u ↔ (t ≡ u)) → Lists P (t.1 ∷ [])
lists_one P t is = record {
  timed = t ∷ [];
  called = refl;
  exact = λ u. ((λ c. (is u).1 (contains_one t u c)), (λ p. subst (Contains (t ∷ [])) ((is u).0 p) (Contains-push [] t)));
  ordered = λ i j d below inside. absurd (omega (arith, below, inside));
}

pub lists_append : (P Q : Timed → Type 0) (c d : List Event) → Lists P c → Lists Q d → ((s t : Timed) → P s → Q t → MayPrecede s t)
    → Lists (λ t. P t ⊎ Q t) (c ++ d)
lists_append P Q c d a b cross = record {
  timed = a.timed ++ b.timed;
  called = map-append (λ (t : Timed). t.1) a.timed b.timed ∙ rw (a.called, b.called) refl;
  exact = λ t. (
    (λ i. elim (Contains-append_cases a.timed b.timed t i) [ inl l ↦ inl ((a.exact t).0 l) | inr r ↦ inr ((b.exact t).0 r) ]),
    (λ p. elim p [
      | inl l ↦ Contains-append_left a.timed b.timed t ((a.exact t).1 l)
      | inr r ↦ Contains-append_right a.timed b.timed t ((b.exact t).1 r)
    ]),
  );
  ordered = pairs_append MayPrecede a.timed b.timed a.ordered b.ordered
      (λ s t i j. cross s t ((a.exact s).0 i) ((b.exact t).0 j));
}

-- a turn after another
pub each_lists : (Q : ℤ → Timed → Type 0) (f : ℤ → List Event) (xs : List ℤ) → AllPairs (λ a b. a <ℤ b) xs
    → ((x : ℤ) → Contains xs x → Lists (Q x) (f x))
    → ((x y : ℤ) (s t : Timed) → x <ℤ y → Q x s → Q y t → MayPrecede s t)
    → Lists (λ t. (x : ℤ) × Contains xs x × Q x t) (each_in f xs)
each_lists Q f [] up turn across = lists_none (λ t. (x : ℤ) × Contains [] x × Q x t) (λ t z. nothing z.0 z.1)
each_lists Q f (x ∷ xs) up turn across =
    let first : Contains (x ∷ xs) x = Contains-append_left (x ∷ []) xs x (Contains-push [] x) in
    let Rest : Timed → Type 0 = λ t. (y : ℤ) × Contains xs y × Q y t in
    let rest = each_lists Q f xs (λ i j d below inside. up (suc i) (suc j) d (omega (arith, below)) (omega (arith, inside)))
    (λ y c. turn y (Contains-append_right (x ∷ []) xs y c)) across in
    lists_same (λ t. Q x t ⊎ Rest t) (λ t. (y : ℤ) × Contains (x ∷ xs) y × Q y t) (f x ++ each_in f xs)
    (λ t. (
      (λ p. elim p [ inl l ↦ (x, first, l) | inr r ↦ (r.0, Contains-append_right (x ∷ []) xs r.0 r.1, r.2) ]),
      (λ z. elim (Contains-append_cases (x ∷ []) xs z.0 z.1) [
        | inl now ↦ inl (subst (λ y. Q y t) (sym (contains_one x z.0 now)) z.2)
        | inr later ↦ inr (z.0, later, z.2)
      ]),
    ))
    (lists_append (Q x) Rest (f x) (each_in f xs) (turn x first) rest
    (λ s t q r. across x r.0 s t (above x xs up r.0 r.1) q r.2))

no_time : Event → Timed
no_time e = ([], e)

-- where a call has one time, such a list is good
pub good : (At : Event → List ℤ → Type 0) (calls : List Event) → Lists (λ t. At t.1 t.0) calls
    → ((e : Event) (s t : List ℤ) → At e s → At e t → s ≡ t) → AreGood At calls
good At calls l one = rw (sym l.called) (record {
  exact = λ e. (
    (λ c.
        let inside : c.0 < length l.timed = (let m = c.1 in let n = length-map l.timed (λ (t : Timed). t.1) in omega (arith, m, n)) in
        let t = get_or l.timed c.0 (no_time e) in
        let is : t.1 ≡ e = sym (get_or-map (λ (u : Timed). u.1) l.timed c.0 (no_time e) e inside) ∙ c.2 in
        (t.0, subst (λ d. At d t.0) is ((l.exact t).0 (Contains-get_or l.timed c.0 (no_time e) inside)))),
    (λ z.
        let c = (l.exact (z.0, e)).1 z.1 in
        let n = length-map l.timed (λ (t : Timed). t.1) in (
          c.0,
          (let m = c.1 in omega (arith, m, n)),
          get_or-map (λ (u : Timed). u.1) l.timed c.0 (z.0, e) e c.1 ∙ ap (λ (u : Timed). u.1) c.2,
        )),
  );
  once = λ i j d below inside.
      let n = length-map l.timed (λ (t : Timed). t.1) in
      let deep : j < length l.timed = omega (arith, inside, n) in
      let high : i < length l.timed = omega (arith, below, deep) in
      let s = get_or l.timed i (no_time d) in
      let t = get_or l.timed j (no_time d) in
      rw (get_or-map (λ (u : Timed). u.1) l.timed i (no_time d) d high, get_or-map (λ (u : Timed). u.1) l.timed j (no_time d) d deep)
      (λ same. (l.ordered i j (no_time d) below deep).0 (pair_same s t
      (one t.1 s.0 t.0 (subst (λ e. At e s.0) same ((l.exact s).0 (Contains-get_or l.timed i (no_time d) high)))
      ((l.exact t).0 (Contains-get_or l.timed j (no_time d) deep))) same));
  ordered = λ i j d below inside.
      let n = length-map l.timed (λ (t : Timed). t.1) in
      let deep : j < length l.timed = omega (arith, inside, n) in
      let high : i < length l.timed = omega (arith, below, deep) in
      let s = get_or l.timed i (no_time d) in
      let t = get_or l.timed j (no_time d) in
      rw (get_or-map (λ (u : Timed). u.1) l.timed i (no_time d) d high, get_or-map (λ (u : Timed). u.1) l.timed j (no_time d) d deep)
      (λ p q a b before. (l.ordered i j (no_time d) below deep).1
      (subst (λ r. IsBefore r s.0) (one t.1 q t.0 b ((l.exact t).0 (Contains-get_or l.timed j (no_time d) deep)))
      (subst (λ r. IsBefore q r) (one s.1 p s.0 a ((l.exact s).0 (Contains-get_or l.timed i (no_time d) high))) before)));
})
  where
    pair_same : (s t : Timed) → s.0 ≡ t.0 → s.1 ≡ t.1 → s ≡ t
    pair_same s t a b = rw (a, b) refl
