-- Groups without those that say nothing more.
use Rattle.std.proofs.Common.{◌≡◌, ◌≢◌, ◌↔◌, ◌⊎◌, inl, inr, refl, sym, ap, ◌∙◌, subst, arith, ℕ, zero, suc, ◌+◌, ◌<◌, ◌≤◌}
use Rattle.std.proofs.Common.{ℤ, List, [], ◌∷◌, ◌++◌, length, get_or, take, drop}
use Rattle.std.specs.List.{All, AllZip, Any, Contains, remove}
use Rattle.std.proofs.lemmas.List.{take_more}
use Rattle.std.proofs.lemmas.Bool.{cases_lt}
use Rattle.std.proofs.lemmas.List.Edits.{get_or-remove_above, get_or-remove_below, length-remove}
use Rattle.std.proofs.Math.Nat.{eq-or-lt_of_le}
use Rattle.std.proofs.lemmas.List.Elements.{All-append, All-cons, All-drop, All-head, All-nil, All-tail, All-take, All-weaker}
use Rattle.isl_math.proofs.ListLaws.{AllZip-more, Any-cases, Any-element, Any-first, Any-later, Any-none}
use Rattle.isl_meter.specs.Gauge.{Gauge, IsCharged}
use Rattle.isl_piece.specs.declared.row.Row.{Row}
use Rattle.isl_piece.specs.Row.{HoldsRow, IsRowWithin, IsWellFormed}
use Rattle.isl_piece.specs.System.{HoldRows}
use Rattle.isl_frame.specs.Needed.{AreKnown, AreRowsOver, IsNeeded}
use Rattle.isl_frame.proofs.NeededLaws.{over_later, over_some}
use Rattle.isl_bounds.specs.Bound.{HoldSome}
use Rattle.isl_bounds.specs.Pruned.{AreFewer, IsBareGroup, IsBeaten, NoneIsBeaten}

-- ---- one of a list left out
any_but : {X : Type 0} (P : X → Type 0) (xs : List X) (at i : ℕ) (d : X) → i < length xs → i ≢ at → P (get_or xs i d) → Any P (remove xs at)
any_but P [] at i d low other p = absurd (omega (arith, low))
any_but P (x ∷ xs) zero zero d low other p = absurd (other refl)
any_but P (x ∷ xs) zero (suc i) d low other p = Any-at P xs i d (omega (arith, low)) p
  where
    Any-at : {X : Type 0} (P : X → Type 0) (xs : List X) (i : ℕ) (d : X) → i < length xs → P (get_or xs i d) → Any P xs
    Any-at P [] i d low p = absurd (omega (arith, low))
    Any-at P (x ∷ xs) zero d low p = Any-first P x xs p
    Any-at P (x ∷ xs) (suc i) d low p = Any-later P x xs (Any-at P xs i d (omega (arith, low)) p)
any_but P (x ∷ xs) (suc at) zero d low other p = Any-first P x (remove xs at) p
any_but P (x ∷ xs) (suc at) (suc i) d low other p =
    Any-later P x (remove xs at) (any_but P xs at i d (omega (arith, low)) (λ e. other (ap suc e)) p)

any_split : {X : Type 0} (P : X → Type 0) (xs : List X) (at : ℕ) (d : X) → at < length xs → Any P xs
    → Any P (remove xs at) ⊎ P (get_or xs at d)
any_split P [] at d low any = absurd (Any-none P any)
any_split P (x ∷ xs) zero d low any = elim (Any-cases P x xs any) [ inl p ↦ inr p | inr a ↦ inl a ]
any_split P (x ∷ xs) (suc at) d low any = elim (Any-cases P x xs any) [
  | inl p ↦ inl (Any-first P x (remove xs at) p)
  | inr a ↦ elim (any_split P xs at d (omega (arith, low)) a) [ inl b ↦ inl (Any-later P x (remove xs at) b) | inr p ↦ inr p ]
]

any_back : {X : Type 0} (P : X → Type 0) (xs : List X) (at : ℕ) → at < length xs → Any P (remove xs at) → Any P xs
any_back P [] at low any = absurd (omega (arith, low))
any_back P (x ∷ xs) zero low any = Any-later P x xs any
any_back P (x ∷ xs) (suc at) low any = elim (Any-cases P x (remove xs at) any) [
  | inl p ↦ Any-first P x xs p
  | inr a ↦ Any-later P x xs (any_back P xs at (omega (arith, low)) a)
]

pub all_but : {X : Type 0} (P : X → Type 0) (xs : List X) (at : ℕ) → All P xs → All P (remove xs at)
all_but P xs at h = All-append P (take at xs) (drop (suc at) xs) (All-take P at xs h) (All-drop P (suc at) xs h)

-- ---- a group that another one beats
module _ (columns : ℕ) (context : List Row) (old : List (List Row)) where
  pub fewer_less : (kept : List (List Row)) (at : ℕ) → at < length kept → 1 < length kept → AreFewer columns context old kept
      → IsBeaten columns context kept at → AreFewer columns context old (remove kept at)
  fewer_less kept at inside two is beaten = record {
    each = all_but (λ few. Any (λ rows. All (Contains rows) few) old) kept at is.each;
    some = λ h. all_but (λ rows. 0 < length rows) kept at (is.some h);
    any = λ h. let long = length-remove kept at inside in omega (arith, long, two);
    points = λ point long holds.
        let P : List Row → Type 0 = λ rows. HoldRows rows point in (
          (λ any. (is.points point long holds).0 (any_back P kept at inside any)),
          (λ any. elim (any_split P kept at [] inside ((is.points point long holds).1 any)) [
            | inl left ↦ left
            | inr gone ↦ any_but P kept at beaten.0 [] beaten.1 beaten.2
                (beaten.3 point long (All-append (λ r. HoldsRow r point) context (get_or kept at []) holds gone))
          ]),
        );
  }

  -- each group with fewer rows
  abbrev pub IsFewer : List Row → List Row → Type 0
  IsFewer rows few = IsNeeded columns context rows few × (1 ≤ length rows → 1 ≤ length few) × IsBareGroup columns context few

  pub fewer_each : (groups kept : List (List Row)) → groups ≡ old → AllZip IsFewer groups kept → AreFewer columns context old kept
  fewer_each groups kept same z = subst (λ (gs : List (List Row)). AreFewer columns context gs kept) same (record {
    each = each groups kept z;
    some = some groups kept z;
    any = any groups kept z;
    points = λ point long holds. points point long holds groups kept z;
  })
    where
      each : (gs ks : List (List Row)) → AllZip IsFewer gs ks → All (λ few. Any (λ rows. All (Contains rows) few) gs) ks
      each [] [] z = All-nil (λ few. Any (λ rows. All (Contains rows) few) [])
      each [] (k ∷ ks) z = absurd z
      each (r ∷ gs) [] z = absurd z
      each (r ∷ gs) (k ∷ ks) z =
          All-cons (λ few. Any (λ rows. All (Contains rows) few) (r ∷ gs)) k ks (Any-first (λ rows. All (Contains rows) k) r gs z.0.0.each)
          (All-weaker (λ few. Any (λ rows. All (Contains rows) few) gs) (λ few. Any (λ rows. All (Contains rows) few) (r ∷ gs))
          (λ few a. Any-later (λ rows. All (Contains rows) few) r gs a) ks (each gs ks z.1))

      some : (gs ks : List (List Row)) → AllZip IsFewer gs ks → All (λ rows. 0 < length rows) gs → All (λ rows. 0 < length rows) ks
      some [] [] z h = h
      some [] (k ∷ ks) z h = absurd z
      some (r ∷ gs) [] z h = absurd z
      some (r ∷ gs) (k ∷ ks) z h =
          All-cons (λ rows. 0 < length rows) k ks (z.0.1 (All-head (λ rows. 0 < length rows) r gs h))
          (some gs ks z.1 (All-tail (λ rows. 0 < length rows) r gs h))

      any : (gs ks : List (List Row)) → AllZip IsFewer gs ks → 0 < length gs → 0 < length ks
      any [] ks z h = absurd (omega (arith, h))
      any (r ∷ gs) [] z h = absurd z
      any (r ∷ gs) (k ∷ ks) z h = omega arith

      points : (point : List ℤ) → length point ≡ columns → HoldRows context point → (gs ks : List (List Row)) → AllZip IsFewer gs ks
          → HoldSome ks point ↔ HoldSome gs point
      points point long holds [] [] z = ((λ a. a), (λ a. a))
      points point long holds [] (k ∷ ks) z = absurd z
      points point long holds (r ∷ gs) [] z = absurd z
      points point long holds (r ∷ gs) (k ∷ ks) z =
          let P : List Row → Type 0 = λ rows. HoldRows rows point in
          let own = z.0.0.points point long holds in
          let more = points point long holds gs ks z.1 in (
            (λ a. elim (Any-cases P k ks a) [ inl p ↦ Any-first P r gs (own.0 p) | inr b ↦ Any-later P r gs (more.0 b) ]),
            (λ a. elim (Any-cases P r gs a) [ inl p ↦ Any-first P k ks (own.1 p) | inr b ↦ Any-later P k ks (more.1 b) ]),
          )

  pub fewer_bare : (groups kept : List (List Row)) → AllZip IsFewer groups kept → All (IsBareGroup columns context) kept
  fewer_bare [] [] z = All-nil (IsBareGroup columns context)
  fewer_bare [] (k ∷ ks) z = absurd z
  fewer_bare (r ∷ gs) [] z = absurd z
  fewer_bare (r ∷ gs) (k ∷ ks) z = All-cons (IsBareGroup columns context) k ks z.0.2 (fewer_bare gs ks z.1)

  pub fewer_more : (i : ℕ) (rows : List Row) (kept : List (List Row)) (few : List Row) (pushed : List (List Row)) → i < length old
      → rows ≡ get_or old i rows → AllZip IsFewer (take i old) kept → IsFewer rows few → pushed ≡ kept ++ few ∷ []
      → AllZip IsFewer (take (i + 1) old) pushed
  fewer_more i rows kept few pushed low at z one is =
      subst (AllZip IsFewer (take (i + 1) old)) (sym is)
      (subst (λ (gs : List (List Row)). AllZip IsFewer gs (kept ++ few ∷ []))
      (sym (take_more old i rows low ∙ ap (λ (r : List Row). take i old ++ r ∷ []) (sym at)))
      (AllZip-more IsFewer (take i old) kept rows few z one))

  pub fewer_over : (g : Gauge) (kept : List (List Row)) → AreFewer columns context old kept → All (AreRowsOver g columns) old
      → All (AreRowsOver g columns) kept
  fewer_over g kept is over = All-weaker (λ few. Any (λ rows. All (Contains rows) few) old) (AreRowsOver g columns) by kept is.each
    where
      by : (few : List Row) → Any (λ rows. All (Contains rows) few) old → AreRowsOver g columns few
      by few any =
          let of = Any-element (λ rows. All (Contains rows) few) old any in
          let own : AreRowsOver g columns of.0 = subst (AreRowsOver g columns) of.1.2 (over of.1.0 of.0 of.1.1) in
          over_some g columns of.0 few of.2 own

-- ---- groups that none beats
module _ (columns : ℕ) (context : List Row) where
  -- none of so many groups but the one at a place holds wherever the context and that one do
  abbrev pub NoneBeats : List (List Row) → ℕ → ℕ → Type 0
  NoneBeats groups at count =
      (i : ℕ) → i < count → i ≢ at → ¬ AreKnown columns (context ++ get_or groups at []) (get_or groups i [])

  pub none_beats_first : (groups : List (List Row)) (at : ℕ) → NoneBeats groups at 0
  none_beats_first groups at i low other known = absurd (omega (arith, low))

  pub none_beats_more : (groups : List (List Row)) (at count : ℕ)
      → (count ≢ at → ¬ AreKnown columns (context ++ get_or groups at []) (get_or groups count []))
      → NoneBeats groups at count → NoneBeats groups at (count + 1)
  none_beats_more groups at count here before i low other known =
      elim (cases_lt i count) [
        | inl less ↦ before i less other known
        | inr more ↦
            let same : i ≡ count = omega (arith, low, more) in
            here (λ e. other (same ∙ e)) (subst (λ n. AreKnown columns (context ++ get_or groups at []) (get_or groups n [])) same known)
      ]

  pub none_beats : (groups : List (List Row)) (at : ℕ) → NoneBeats groups at (length groups) → ¬ IsBeaten columns context groups at
  none_beats groups at none beaten = none beaten.0 beaten.1 beaten.2 beaten.3

  -- of the groups from a place on none is beaten
  abbrev pub NoneBeatenFrom : ℕ → List (List Row) → Type 0
  NoneBeatenFrom from groups = (at : ℕ) → from ≤ at → at < length groups → ¬ IsBeaten columns context groups at

  pub none_beaten_behind : (groups : List (List Row)) (from : ℕ) → length groups ≤ from → NoneBeatenFrom from groups
  none_beaten_behind groups from end at up low beaten = absurd (omega (arith, end, up, low))

  pub none_beaten_before : (groups : List (List Row)) (from : ℕ) → ¬ IsBeaten columns context groups from
      → NoneBeatenFrom (suc from) groups → NoneBeatenFrom from groups
  none_beaten_before groups from here later at up low beaten = elim (eq-or-lt_of_le up) [
    | inl e ↦ here (subst (IsBeaten columns context groups) (sym e) beaten)
    | inr more ↦ later at (omega (arith, more)) low beaten
  ]

  pub none_beaten_at_all : (groups : List (List Row)) → NoneBeatenFrom 0 groups → NoneIsBeaten columns context groups
  none_beaten_at_all groups none at low beaten = none at (omega arith) low beaten

  pub none_beaten_alone : (groups : List (List Row)) → length groups ≤ 1 → NoneIsBeaten columns context groups
  none_beaten_alone groups few at low beaten = let other = beaten.1 in beaten.2 (omega (arith, few, low, other))

  -- a group goes
  pub none_beaten_removed : (groups : List (List Row)) (from : ℕ) → from < length groups → NoneBeatenFrom (suc from) groups
      → NoneBeatenFrom from (remove groups from)
  none_beaten_removed groups from inside later at up low beaten = elim (cases_lt beaten.0 from) [
    | inl less ↦ at_later beaten.0 (omega (arith, less, inside)) (omega (arith, less, up))
        (subst (λ (rows : List Row). AreKnown columns (context ++ get_or groups (at + 1) []) rows)
        (get_or-remove_below groups from [] beaten.0 less inside) known)
    | inr more ↦ at_later (beaten.0 + 1) (let j = beaten.1 in omega (arith, j, long)) (λ e. beaten.2 (omega (arith, e)))
        (subst (λ (rows : List Row). AreKnown columns (context ++ get_or groups (at + 1) []) rows)
        (get_or-remove_above groups from [] beaten.0 more inside) known)
  ]
    where
      long : length (remove groups from) + 1 ≡ length groups
      long = let l = length-remove groups from inside in omega (arith, l, inside)

      known : AreKnown columns (context ++ get_or groups (at + 1) []) (get_or (remove groups from) beaten.0 [])
      known = subst (λ (rows : List Row). AreKnown columns (context ++ rows) (get_or (remove groups from) beaten.0 []))
          (get_or-remove_above groups from [] at up inside) beaten.3

      at_later : (i : ℕ) → i < length groups → i ≢ at + 1
          → AreKnown columns (context ++ get_or groups (at + 1) []) (get_or groups i []) → ⊥
      at_later i small other is =
          later (at + 1) (omega (arith, up)) (let l = long in omega (arith, low, l)) (i, small, other, is)

pub groups_later : (g h : Gauge) (columns : ℕ) (groups : List (List Row)) → IsCharged g h → All (AreRowsOver g columns) groups
    → All (AreRowsOver h columns) groups
groups_later g h columns groups charged over =
    All-weaker (AreRowsOver g columns) (AreRowsOver h columns) (λ rows o. over_later g h columns rows charged o) groups over

pub both_over : (g : Gauge) (columns : ℕ) (rows others both : List Row) → both ≡ rows ++ others → AreRowsOver g columns rows
    → AreRowsOver g columns others → AreRowsOver g columns both
both_over g columns rows others both is a b = rw is (record {
  formed = All-append (IsWellFormed columns) rows others a.formed b.formed;
  within = All-append (IsRowWithin g) rows others a.within b.within;
})
