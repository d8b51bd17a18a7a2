-- Systems whose last column has an end on each side, in the levels of a tower.
use Rattle.std.proofs.Common.{◌≡◌, ◌⊎◌, ◌↔◌, ◌∙◌, inl, inr, refl, sym, ap, subst, arith, ℕ, zero, suc, ◌+◌, ◌<◌, ◌≤◌, ℤ, List, [], ◌∷◌}
use Rattle.std.proofs.Common.{◌++◌, length, get_or, take, Bool, true, false}
use Rattle.std.specs.Prelude.{IsTrue}
use Rattle.std.specs.List.{All, Contains}
use Rattle.std.proofs.lemmas.List.{get_or_append_left, get_or_push, length_push, take_more, take_all}
use Rattle.std.proofs.lemmas.List.Elements.{All-contains, All-more, All-nil, All-push, Contains-append_cases, Contains-append_left}
use Rattle.std.proofs.lemmas.List.Elements.{Contains-append_right}
use Rattle.isl_math.proofs.ListLaws.{Any-contains, Any-element}
use Rattle.isl_meter.specs.Gauge.{Gauge}
use Rattle.isl_piece.specs.declared.system.System.{System}
use Rattle.isl_piece.specs.Normal.{IsNormal}
use Rattle.isl_piece.specs.System.{HoldsSystem, IsSystemWithin, free_columns}
use Rattle.isl_elim.specs.Elimination.{HoldsAtAny}
use Rattle.isl_elim.specs.Sample.{IsNowhere}
use Rattle.isl_tower.specs.Bounded.{IsBounded}
use Rattle.isl_tower.specs.Closed.{IsClosed}
use Rattle.isl_tower.specs.Tower.{BeginsPoint, IsProjectionOnto, IsTowerOf}
use Rattle.isl_tower.proofs.BoundedLaws.{unbounded}
use Rattle.isl_tower.proofs.ClosedLaws.{false_is_none, not_true}
use Rattle.isl_calls.specs.Covers.{AreEnded, IsEnded}
use Rattle.isl_calls.specs.Level.{AreEndedOf, AreUpper}
use Rattle.isl_calls.proofs.LevelLaws.{tower_covers}

-- ---- lists
only_one : {X : Type 0} (s t : X) → Contains (s ∷ []) t → t ≡ s
only_one s t c = by c.0 c.1 c.2
  where
    by : (i : ℕ) → i < length (s ∷ []) → get_or (s ∷ []) i t ≡ t → t ≡ s
    by zero l e = sym e
    by (suc i) l e = absurd (omega (arith, l))

-- ---- whether all are
pub all_told : (systems : List System) (i : ℕ) → length systems ≤ i → All IsEnded (take i systems) → IsTrue true ↔ All IsEnded systems
all_told systems i past all = ((λ t. subst (All IsEnded) (take_all i systems past) all), (λ a. refl))

pub one_told : (systems : List System) (i : ℕ) (s : System) (b : Bool) → i < length systems → s ≡ get_or systems i s → b ≡ false
    → IsTrue b ↔ IsEnded s → IsTrue false ↔ All IsEnded systems
one_told systems i s b low at fails told = (
  (λ t. false_is_none (All IsEnded systems) t),
  (λ all. absurd (not_true b fails (told.1 (subst IsEnded (sym at) (all i s low))))),
)

pub ended_told : (systems : List System) (i : ℕ) (s : System) (b : Bool) → i < length systems → s ≡ get_or systems i s → b ≡ true
    → IsTrue b ↔ IsEnded s → All IsEnded (take i systems) → All IsEnded (take (i + 1) systems)
ended_told systems i s b low at passes told all = All-more IsEnded systems i s low all (subst IsEnded at (told.0 passes))

-- ---- the systems whose last column is ended
pub ended_none : AreEndedOf [] []
ended_none = record {
  each = All-nil (λ t. Contains [] t × IsEnded t);
  all = λ t c. absurd (let l = c.1 in omega (arith, l));
}

wider : (xs : List System) (s : System) (kept : List System) → All (λ t. Contains xs t × IsEnded t) kept
    → All (λ t. Contains (xs ++ s ∷ []) t × IsEnded t) kept
wider xs s kept each = λ i d l. let e = each i d l in (Contains-append_left xs (s ∷ []) (get_or kept i d) e.0, e.1)

module _ (systems : List System) (i : ℕ) (s : System) (kept : List System) (low : i < length systems) (at : s ≡ get_or systems i s)
    (so_far : AreEndedOf (take i systems) kept) where
  more : take (i + 1) systems ≡ take i systems ++ s ∷ []
  more = take_more systems i s low ∙ ap (λ (t : System). take i systems ++ t ∷ []) (sym at)

  -- one more
  pub ended_more : (pushed : List System) → pushed ≡ kept ++ s ∷ [] → IsEnded s → AreEndedOf (take (i + 1) systems) pushed
  ended_more pushed is ended =
      let xs = take i systems in
      subst (λ ys. AreEndedOf ys pushed) (sym more) (subst (AreEndedOf (xs ++ s ∷ [])) (sym is) (record {
        each = All-push (λ t. Contains (xs ++ s ∷ []) t × IsEnded t) kept s (wider xs s kept so_far.each)
            (Contains-append_right xs (s ∷ []) s (0, omega arith, refl), ended);
        all = λ t c. elim (Contains-append_cases xs (s ∷ []) t c) [
          | inl a ↦ elim (so_far.all t a) [
            | inl k ↦ inl (Contains-append_left kept (s ∷ []) t k)
            | inr n ↦ inr n
          ]
          | inr b ↦ inl (Contains-append_right kept (s ∷ []) t b)
        ];
      }))

  -- one that is not
  pub ended_skip : ¬ IsEnded s → AreEndedOf (take (i + 1) systems) kept
  ended_skip loose =
      let xs = take i systems in
      subst (λ ys. AreEndedOf ys kept) (sym more) (record {
        each = wider xs s kept so_far.each;
        all = λ t c. elim (Contains-append_cases xs (s ∷ []) t c) [
          | inl a ↦ so_far.all t a
          | inr b ↦ inr (λ e. loose (subst IsEnded (only_one s t b) e))
        ];
      })

pub ended_all : (systems : List System) (i : ℕ) (kept : List System) → length systems ≤ i → AreEndedOf (take i systems) kept
    → AreEndedOf systems kept
ended_all systems i kept past a = subst (λ xs. AreEndedOf xs kept) (take_all i systems past) a

-- ---- a level of the tower
module _ (g : Gauge) (s : System) (outer height : ℕ) (level kept : List System) (above : 0 < height)
    (projection : IsProjectionOnto s (outer + height) level) (within : All (IsSystemWithin g) level)
    (plain : All (λ t. t.definitions ≡ []) level) (bounded : IsBounded s outer) (are : AreEndedOf level kept) where
  closed : (t : System) → ¬ IsEnded t → ¬ IsNowhere (free_columns t) (HoldsSystem t) → ¬ IsClosed t
  closed t loose there is = elim is [ inl e ↦ loose e | inr nowhere ↦ there nowhere ]

  kept_begins : (front : List ℤ) → length front ≡ outer + height → HoldsAtAny kept front → BeginsPoint s front
  kept_begins front l h =
      let some = Any-element (λ t. HoldsSystem t front) kept h in
      let in_level = (All-contains (λ t. Contains level t × IsEnded t) kept some.0 are.each some.1).0 in
      (projection.points front l).0 (Any-contains (λ u. HoldsSystem u front) level some.0 in_level some.2)

  -- those that are not ended hold nowhere
  kept_holds : (front : List ℤ) → length front ≡ outer + height → BeginsPoint s front → HoldsAtAny kept front
  kept_holds front l begins =
      let some = Any-element (λ t. HoldsSystem t front) level ((projection.points front l).1 begins) in
      let t = some.0 in
      let width = All-contains (λ u. free_columns u ≡ outer + height) level t projection.columns some.1 in
      elim (are.all t some.1) [
        | inl c ↦ Any-contains (λ u. HoldsSystem u front) kept t c some.2
        | inr loose ↦ absurd (unbounded g s outer height level t projection above some.1 width
            (All-contains (IsSystemWithin g) level t within some.1)
            (All-contains (λ u. u.definitions ≡ []) level t plain some.1)
            (closed t loose (λ nowhere. nowhere front (l ∙ sym width) some.2)) bounded)
      ]

  pub kept_projects : IsProjectionOnto s (outer + height) kept
  kept_projects = record {
    columns = λ i d l.
        All-contains (λ t. free_columns t ≡ outer + height) level (get_or kept i d) projection.columns (are.each i d l).0;
    points = λ front l. (kept_begins front l, kept_holds front l);
  }

  pub kept_have : (P : System → Type 0) → All P level → All P kept
  kept_have P all = λ i d l. All-contains P level (get_or kept i d) all (are.each i d l).0

-- ---- whether all levels are ended
pub upper_columns : (g : Gauge) (s : System) (outer : ℕ) (levels : List (List System)) (height : ℕ) (level : List System)
    → AreUpper g s outer levels → 0 < height → height < length levels → level ≡ get_or levels height [] → All (λ t. 0 < free_columns t) level
upper_columns g s outer levels height level a above low is = subst (All (λ t. 0 < free_columns t)) (sym is)
    (λ k d l. let c = (a.covers.covers height low).columns k d l in omega (arith, c, above))

pub levels_more : (levels : List (List System)) (top : ℕ) (level : List System)
    → ((height : ℕ) → 0 < height → height < top → All IsEnded (get_or levels height [])) → level ≡ get_or levels top [] → All IsEnded level
    → (height : ℕ) → 0 < height → height < top + 1 → All IsEnded (get_or levels height [])
levels_more levels top level before is all height above low = elim (cases height top low) [
  | inl l ↦ before height above l
  | inr e ↦ subst (λ h. All IsEnded (get_or levels h [])) (sym e) (subst (All IsEnded) is all)
]
  where
    cases : (i n : ℕ) → i < n + 1 → (i < n) ⊎ (i ≡ n)
    cases i n h = grind arith

-- ---- the levels, from the lowest on
pub record AreSoFar (g : Gauge) (s : System) (outer count : ℕ) (levels : List (List System)) : Type 0 where
  pub long : length levels ≡ count
  pub projections : (height : ℕ) → height < count → IsProjectionOnto s (outer + height) (get_or levels height [])
  pub within : All (All (IsSystemWithin g)) levels
  pub plain : All (All (λ t. t.definitions ≡ [])) levels
  pub normal : All (All (λ t. IsNormal t.rows)) levels
  pub ended : AreEnded levels

-- the lowest is the tower's
pub so_far_first : (g : Gauge) (s : System) (outer : ℕ) (tower : List (List System)) (level : List System) (levels : List (List System))
    → IsTowerOf s outer tower → All (All (IsSystemWithin g)) tower → All (All (λ t. t.definitions ≡ [])) tower
    → All (All (λ t. IsNormal t.rows)) tower → 0 < length tower → level ≡ get_or tower 0 [] → levels ≡ level ∷ []
    → AreSoFar g s outer 1 levels
so_far_first g s outer tower level levels t w p n some is made = rw made (record {
  long = refl;
  projections = λ height h. at height h;
  within = λ i d l. one (All (IsSystemWithin g)) w i d l;
  plain = λ i d l. one (All (λ t. t.definitions ≡ [])) p i d l;
  normal = λ i d l. one (All (λ t. IsNormal t.rows)) n i d l;
  ended = λ height h k. absurd (omega (arith, h, k));
})
  where
    one : (P : List System → Type 0) → All P tower → All P (level ∷ [])
    one P all zero d l = subst P (sym is) (all 0 [] some)
    one P all (suc i) d l = absurd (omega (arith, l))

    at : (height : ℕ) → height < 1 → IsProjectionOnto s (outer + height) (get_or (level ∷ []) height [])
    at zero h = subst (IsProjectionOnto s (outer + 0)) (sym is) (t.projections 0 some)
    at (suc height) h = absurd (omega (arith, h))

-- one more
pub so_far_next : (g : Gauge) (s : System) (outer height : ℕ) (levels : List (List System)) (kept : List System)
    (pushed : List (List System)) → AreSoFar g s outer height levels → 0 < height → IsProjectionOnto s (outer + height) kept
    → All (IsSystemWithin g) kept → All (λ t. t.definitions ≡ []) kept → All (λ t. IsNormal t.rows) kept → All IsEnded kept
    → pushed ≡ levels ++ kept ∷ [] → AreSoFar g s outer (height + 1) pushed
so_far_next g s outer height levels kept pushed a above c w p n e made = rw made (record {
  long = length_push levels kept ∙ ap (λ k. k + 1) a.long;
  projections = λ h l. elim (last h height l) [
    | inl below ↦ subst (IsProjectionOnto s (outer + h)) (sym (get_or_append_left levels (kept ∷ []) [] h (let k = a.long in omega (arith, k, below))))
        (a.projections h below)
    | inr same ↦ subst (IsProjectionOnto s (outer + h)) (sym (get_or_push levels kept [] h (a.long ∙ sym same)))
        (subst (λ k. IsProjectionOnto s (outer + k) kept) (sym same) c)
  ];
  within = All-push (All (IsSystemWithin g)) levels kept a.within w;
  plain = All-push (All (λ t. t.definitions ≡ [])) levels kept a.plain p;
  normal = All-push (All (λ t. IsNormal t.rows)) levels kept a.normal n;
  ended = λ h some l. elim (last h height (let k = length_push levels kept in let m = a.long in omega (arith, k, l, m))) [
    | inl below ↦ subst (All IsEnded) (sym (get_or_append_left levels (kept ∷ []) [] h (let k = a.long in omega (arith, k, below))))
        (a.ended h some (let k = a.long in omega (arith, k, below)))
    | inr same ↦ subst (All IsEnded) (sym (get_or_push levels kept [] h (a.long ∙ sym same))) e
  ];
})
  where
    last : (h n : ℕ) → h < n + 1 → (h < n) ⊎ (h ≡ n)
    last h n l = grind arith

pub so_far_all : (g : Gauge) (s : System) (outer count : ℕ) (tower levels : List (List System)) → IsTowerOf s outer tower
    → length tower ≡ count → AreSoFar g s outer count levels → AreUpper g s outer levels × AreEnded levels × IsTowerOf s outer levels
so_far_all g s outer count tower levels t long a =
    let is : IsTowerOf s outer levels = record {
      outer_in = t.outer_in;
      count = ap (λ n. outer + n) (a.long ∙ sym long) ∙ t.count;
      projections = λ height h. a.projections height (let k = a.long in omega (arith, k, h));
    } in (
      record { covers = tower_covers s outer levels is; within = a.within; plain = a.plain; normal = a.normal },
      a.ended,
      is,
    )
