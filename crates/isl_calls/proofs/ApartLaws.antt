-- Calls without those that come twice.
use Rattle.std.proofs.Common.{◌≡◌, ◌⊎◌, ◌↔◌, inl, inr, refl, sym, ap, ◌∙◌, subst, arith, ℕ, ◌+◌, ◌<◌, ◌≤◌, ℤ, List, [], ◌∷◌, ◌++◌, length}
use Rattle.std.proofs.Common.{get_or, map, take, drop, Bool, true, false}
use Rattle.std.specs.List.{All, Any, Contains}
use Rattle.std.proofs.lemmas.Bool.{false≢true}
use Rattle.std.proofs.lemmas.List.{get_or-map, length-map, take-append-drop, take_all, take_more}
use Rattle.std.proofs.lemmas.List.Elements.{All-append, All-contains, All-nil, All-push, All-weaker, Contains-append_left, Contains-get_or}
use Rattle.isl_math.proofs.ListLaws.{All-parts, All-unmapped, Any-contains, Any-element, Any-first, Any-left, Any-none, Any-one, Any-parts, Any-right}
use Rattle.isl_math.proofs.ListLaws.{Any-unmapped, Any-weaker, all_or_any}
use Rattle.isl_meter.specs.Gauge.{Gauge, IsCharged}
use Rattle.isl_space.specs.Form.{Form}
use Rattle.isl_space.specs.SpaceForm.{set_of}
use Rattle.isl_piece.specs.declared.system.System.{System}
use Rattle.isl_piece.specs.System.{HoldsSystem, free_columns}
use Rattle.isl_difference.specs.Difference.{AreDisjoint, IsDifference, IsLeftOf}
use Rattle.isl_difference.proofs.PartitionLaws.{pairs_append}
use Rattle.isl_difference.proofs.RowCases.{any_not, system_cases}
use Rattle.isl_difference.proofs.SplitLaws.{charged_within, system_kept}
use Rattle.isl_tower.proofs.TowerLaws.{charged_limit}
use Rattle.isl_union.specs.Meet.{is_same_space}
use Rattle.isl_union.proofs.MeetLaws.{space_is, space_itself}
use Rattle.isl_calls.specs.declared.calls.Calls.{Calls}
use Rattle.isl_calls.specs.Apart.{called_form, AreApart, AreApartOf, AreEven, AreLeftOf, AreSystemsFor, HoldsFor, IsLike, IsPartOf}
use Rattle.isl_calls.specs.Apart.{IsPlainWithin}

Contains-taken : {X : Type 0} (i : ℕ) (xs : List X) (x : X) → Contains (take i xs) x → Contains xs x
Contains-taken i xs x h = subst (λ ys. Contains ys x) (take-append-drop i xs) (Contains-append_left (take i xs) (drop i xs) x h)

-- ---- the systems of calls of one form
abbrev IsFor : Form → List Calls → System → Type 0
IsFor form calls s = Any (λ c. (called_form c ≡ form) × (c.system ≡ s)) calls

pub for_none : (form : Form) → AreSystemsFor form [] []
for_none form = record {
  each = All-nil (IsFor form []);
  all = λ point a. absurd (Any-none (λ (c : Calls). (called_form c ≡ form) × HoldsSystem c.system point) a);
}

module _ (form : Form) (calls : List Calls) (i : ℕ) (c : Calls) (systems : List System) (low : i < length calls) (at : c ≡ get_or calls i c)
    (so_far : AreSystemsFor form (take i calls) systems) where
  more : take (i + 1) calls ≡ take i calls ++ c ∷ []
  more = take_more calls i c low ∙ ap (λ (d : Calls). take i calls ++ d ∷ []) (sym at)

  wider : All (IsFor form (take i calls ++ c ∷ [])) systems
  wider = All-weaker (IsFor form (take i calls)) (IsFor form (take i calls ++ c ∷ []))
      (λ s a. Any-left (λ (d : Calls). (called_form d ≡ form) × (d.system ≡ s)) (take i calls) (c ∷ []) a) systems so_far.each

  -- one more is of the form
  pub for_more : (pushed : List System) → pushed ≡ systems ++ c.system ∷ [] → called_form c ≡ form
      → AreSystemsFor form (take (i + 1) calls) pushed
  for_more pushed made is =
      let xs = take i calls in
      subst (λ ys. AreSystemsFor form ys pushed) (sym more) (subst (AreSystemsFor form (xs ++ c ∷ [])) (sym made) (record {
        each = All-push (IsFor form (xs ++ c ∷ [])) systems c.system wider
            (Any-right (λ (d : Calls). (called_form d ≡ form) × (d.system ≡ c.system)) xs (c ∷ [])
            (Any-first (λ (d : Calls). (called_form d ≡ form) × (d.system ≡ c.system)) c [] (is, refl)));
        all = λ point a.
            let P : Calls → Type 0 = λ d. (called_form d ≡ form) × HoldsSystem d.system point in
            let Q : System → Type 0 = λ s. HoldsSystem s point in
            elim (Any-parts P xs (c ∷ []) a) [
              | inl b ↦ Any-left Q systems (c.system ∷ []) (so_far.all point b)
              | inr b ↦ Any-right Q systems (c.system ∷ []) (Any-first Q c.system [] (Any-one P c b).1)
            ];
      }))

  -- or of another one
  pub for_skip : ¬ (called_form c ≡ form) → AreSystemsFor form (take (i + 1) calls) systems
  for_skip differ =
      let xs = take i calls in
      subst (λ ys. AreSystemsFor form ys systems) (sym more) (record {
        each = wider;
        all = λ point a.
            let P : Calls → Type 0 = λ d. (called_form d ≡ form) × HoldsSystem d.system point in
            elim (Any-parts P xs (c ∷ []) a) [
              | inl b ↦ so_far.all point b
              | inr b ↦ absurd (differ (Any-one P c b).0)
            ];
      })

pub for_all : (form : Form) (calls : List Calls) (i : ℕ) (systems : List System) → length calls ≤ i
    → AreSystemsFor form (take i calls) systems → AreSystemsFor form calls systems
for_all form calls i systems past are = subst (λ xs. AreSystemsFor form xs systems) (take_all i calls past) are

-- what is so of calls of the form is so of their systems
pub for_have : (P : System → Type 0) (form : Form) (calls : List Calls) (systems : List System) → AreSystemsFor form calls systems
    → All (λ c. called_form c ≡ form → P c.system) calls → All P systems
for_have P form calls systems are all = λ i d l.
    let some = Any-element (λ (c : Calls). (called_form c ≡ form) × (c.system ≡ get_or systems i d)) calls (are.each i d l) in
    subst P some.2.1 (All-contains (λ (c : Calls). called_form c ≡ form → P c.system) calls some.0 all some.1 some.2.0)

-- ---- what is left
mapped : (P : System → Type 0) (parts : List Calls) → Any (λ (c : Calls). P c.system) parts → Any P (map (λ (c : Calls). c.system) parts)
mapped P parts a = (
  a.0,
  a.1.system,
  (let n = length-map parts (λ (c : Calls). c.system) in let l = a.2 in omega (arith, n, l)),
  get_or-map (λ (c : Calls). c.system) parts a.0 a.1 a.1.system a.2 ∙ ap (λ (c : Calls). c.system) a.3,
  a.4,
)

module _ (g : Gauge) (c : Calls) (earlier : List Calls) (others left : List System) (parts : List Calls) (sound : IsPlainWithin g c)
    (are : AreSystemsFor (called_form c) earlier others) (difference : IsDifference g c.system others left)
    (plain : All (λ s. s.definitions ≡ []) left) (systems : map (λ part. part.system) parts ≡ left) (like : All (IsLike c) parts) where
  left_have : (P : System → Type 0) → All P left → All (λ (part : Calls). P part.system) parts
  left_have P all = All-unmapped P (λ (part : Calls). part.system) parts (subst (All P) (sym systems) all)

  all_parts : All (IsPartOf g c) parts
  all_parts = λ i d l.
      let left_at = left_have (IsLeftOf g c.system) difference.each i d l in
      record {
        like = like i d l;
        sound = record { within = left_at.within; plain = left_have (λ s. s.definitions ≡ []) plain i d l };
        free = left_at.columns;
      }

  outside_points : (point : List ℤ) → length point ≡ free_columns c.system
      → Any (λ (part : Calls). HoldsSystem part.system point) parts
      ↔ (HoldsSystem c.system point × ¬ HoldsFor (called_form c) earlier point)
  outside_points point long =
      let P : System → Type 0 = λ s. HoldsSystem s point in
      let both = difference.points point long in (
        (λ a.
            let h = both.0 (subst (Any P) systems (mapped P parts a)) in
            (h.0, λ e. h.1 (are.all point e))),
        (λ h. Any-unmapped P (λ (part : Calls). part.system) parts (subst (Any P) (sym systems) (both.1 (
          h.0,
          λ e.
              let some = Any-element P others e in
              let from = All-contains (IsFor (called_form c) earlier) others some.0 are.each some.1 in
              h.1 (Any-weaker (λ (d : Calls). (called_form d ≡ called_form c) × (d.system ≡ some.0))
              (λ (d : Calls). (called_form d ≡ called_form c) × HoldsSystem d.system point)
              (λ d k. (k.0, subst P (sym k.1) some.2)) earlier from),
        )))),
      )

  part_at : (i : ℕ) (d : Calls) → i < length parts → (get_or parts i d).system ≡ get_or left i d.system
  part_at i d low = sym (get_or-map (λ (part : Calls). part.system) parts i d d.system low)
      ∙ ap (λ (xs : List System). get_or xs i d.system) systems

  pub left_made : AreLeftOf g c earlier parts
  left_made = record {
    parts = all_parts;
    points = outside_points;
    apart = λ i j d below low.
        let n = length-map parts (λ (part : Calls). part.system) in
        let m = ap (λ (xs : List System). length xs) systems in
        subst (λ (s : System). AreDisjoint (free_columns c.system) s (get_or parts j d).system) (sym (part_at i d (omega (arith, below, low))))
        (subst (AreDisjoint (free_columns c.system) (get_or left i d.system)) (sym (part_at j d low))
        (difference.disjoint i j d.system below (omega (arith, n, m, low))));
  }

-- ---- whether calls of the form hold
same_sets : (x y : Form) → set_of x ≡ set_of y → x ≡ y
same_sets x y e = cc

forms_cases : (a b : Form) → (a ≡ b) ⊎ (¬ (a ≡ b))
forms_cases a b = by (is_same_space (set_of a) (set_of b)) refl
  where
    by : (test : Bool) → is_same_space (set_of a) (set_of b) ≡ test → (a ≡ b) ⊎ (¬ (a ≡ b))
    by true is = inl (same_sets a b (space_is (set_of a) (set_of b) is))
    by false is = inr (λ e. false≢true (sym is
        ∙ subst (λ (f : Form). is_same_space (set_of a) (set_of f) ≡ true) e (space_itself (set_of a))))

pub for_cases : (g : Gauge) (form : Form) (calls : List Calls) (point : List ℤ) → All (IsPlainWithin g) calls
    → HoldsFor form calls point ⊎ (¬ HoldsFor form calls point)
for_cases g form calls point sound =
    let P : Calls → Type 0 = λ c. (called_form c ≡ form) × HoldsSystem c.system point in
    let Q : Calls → Type 0 = λ c. ¬ P c in
    elim (all_or_any Q P calls (λ k d i. by (get_or calls k d) (sound k d i))) [
      | inl none ↦ inr (any_not P calls none)
      | inr some ↦ inl some
    ]
  where
    by : (c : Calls) → IsPlainWithin g c → (¬ ((called_form c ≡ form) × HoldsSystem c.system point))
        ⊎ ((called_form c ≡ form) × HoldsSystem c.system point)
    by c s = elim (forms_cases (called_form c) form) [
      | inr n ↦ inl (λ h. n h.0)
      | inl e ↦ elim (system_cases g c.system point s.within) [
        | inl h ↦ inr (e, h)
        | inr n ↦ inl (λ h. n h.1)
      ]
    ]

-- ---- one more
pub none_apart : (g : Gauge) (calls : List Calls) → AreApartOf g (take 0 calls) []
none_apart g calls = record {
  parts = All-nil (λ part. Any (λ c. IsPartOf g c part) []);
  points = λ form point fits. ((λ a. a), (λ a. a));
  apart = λ i j d below low. absurd (omega (arith, low));
}

module _ (g : Gauge) (calls : List Calls) (i : ℕ) (c : Calls) (low : i < length calls) (at : c ≡ get_or calls i c) (made left : List Calls)
    (sound : All (IsPlainWithin g) calls) (even : AreEven calls) (so_far : AreApartOf g (take i calls) made)
    (rest : AreLeftOf g c (take i calls) left) where
  abbrev xs : List Calls
  xs = take i calls

  in_all : (d : Calls) → Contains xs d → Contains calls d
  in_all d h = Contains-taken i calls d h

  here : Contains calls c
  here = (i, low, sym at)

  -- those of one form have as many columns
  alike : (a b : Calls) → Contains calls a → Contains calls b → called_form a ≡ called_form b → free_columns a.system ≡ free_columns b.system
  alike a b in_a in_b =
      All-contains (λ (e : Calls). called_form a ≡ called_form e → free_columns a.system ≡ free_columns e.system) calls b
      (All-contains (λ (d : Calls). All (λ e. called_form d ≡ called_form e → free_columns d.system ≡ free_columns e.system) calls) calls a
      even in_a) in_b

  -- what a part is of
  origin : (ys : List Calls) → All (λ part. Any (λ d. IsPartOf g d part) ys) made → (a : Calls) → Contains made a
      → (d : Calls) × Contains ys d × IsPartOf g d a
  origin ys from a in_a = Any-element (λ (d : Calls). IsPartOf g d a) ys
      (All-contains (λ (part : Calls). Any (λ d. IsPartOf g d part) ys) made a from in_a)

  abbrev Fits : List Calls → Form → List ℤ → Type 0
  Fits ys form point = All (λ d. called_form d ≡ form → length point ≡ free_columns d.system) ys

  apart_points : (form : Form) (point : List ℤ) → Fits (xs ++ c ∷ []) form point
      → HoldsFor form (made ++ left) point ↔ HoldsFor form (xs ++ c ∷ []) point
  apart_points form point fits =
      let P : Calls → Type 0 = λ d. (called_form d ≡ form) × HoldsSystem d.system point in
      let H : Calls → Type 0 = λ d. HoldsSystem d.system point in
      let parted = All-parts (λ (d : Calls). called_form d ≡ form → length point ≡ free_columns d.system) xs (c ∷ []) fits in
      let before = so_far.points form point parted.0 in
      let long : called_form c ≡ form → length point ≡ free_columns c.system = parted.1 0 c (omega arith) in (
        (λ a. elim (Any-parts P made left a) [
          | inl b ↦ Any-left P xs (c ∷ []) (before.0 b)
          | inr b ↦
              let some = Any-element P left b in
              let part = All-contains (IsPartOf g c) left some.0 rest.parts some.1 in
              let form_is : called_form c ≡ form = sym part.like.domain ∙ some.2.0 in
              Any-right P xs (c ∷ []) (Any-first P c [] (
                form_is,
                ((rest.points point (long form_is)).0 (Any-contains H left some.0 some.1 some.2.1)).0,
              ))
        ]),
        (λ a. elim (Any-parts P xs (c ∷ []) a) [
          | inl b ↦ Any-left P made left (before.1 b)
          | inr b ↦
              let one = Any-one P c b in
              elim (for_cases g form xs point (λ k d l. All-contains (IsPlainWithin g) calls (get_or xs k d) sound
              (in_all (get_or xs k d) (Contains-get_or xs k d l)))) [
                | inl earlier ↦ Any-left P made left (before.1 earlier)
                | inr none ↦
                    let there = (rest.points point (long one.0)).1 (one.1, (λ e. none (subst (λ f. HoldsFor f xs point) one.0 e))) in
                    let some = Any-element H left there in
                    let part = All-contains (IsPartOf g c) left some.0 rest.parts some.1 in
                    Any-right P made left (Any-contains P left some.0 some.1 (part.like.domain ∙ one.0, some.2))
              ]
        ]),
      )

  cross : (a b : Calls) → Contains made a → Contains left b → AreApart a b
  cross a b in_a in_b same = record {
    apart = λ point long h k.
        let from = origin xs so_far.parts a in_a in
        let d = from.0 in
        let part = All-contains (IsPartOf g c) left b rest.parts in_b in
        let of_c : called_form a ≡ called_form c = same ∙ part.like.domain in
        let d_form : called_form d ≡ called_form a = sym from.2.like.domain in
        let wide : length point ≡ free_columns d.system = long ∙ from.2.free in
        let fits : Fits xs (called_form a) point = λ m e l e_form. wide ∙ alike d (get_or xs m e) (in_all d from.1)
        (in_all (get_or xs m e) (Contains-get_or xs m e l)) (d_form ∙ sym e_form) in
        let held = (so_far.points (called_form a) point fits).0
        (Any-contains (λ (e : Calls). (called_form e ≡ called_form a) × HoldsSystem e.system point) made a in_a (refl, h)) in
        let c_wide : length point ≡ free_columns c.system = wide ∙ alike d c (in_all d from.1) here (d_form ∙ of_c) in
        ((rest.points point c_wide).0 (Any-contains (λ (e : Calls). HoldsSystem e.system point) left b in_b k)).1
        (subst (λ f. HoldsFor f xs point) of_c held);
  }

  pub apart_more : (pushed : List Calls) → pushed ≡ made ++ left → AreApartOf g (take (i + 1) calls) pushed
  apart_more pushed is =
      let more : take (i + 1) calls ≡ xs ++ c ∷ [] = take_more calls i c low ∙ ap (λ (d : Calls). xs ++ d ∷ []) (sym at) in
      subst (λ ys. AreApartOf g ys pushed) (sym more) (subst (AreApartOf g (xs ++ c ∷ [])) (sym is) (record {
        parts = All-append (λ part. Any (λ d. IsPartOf g d part) (xs ++ c ∷ [])) made left
            (All-weaker (λ part. Any (λ d. IsPartOf g d part) xs) (λ part. Any (λ d. IsPartOf g d part) (xs ++ c ∷ []))
            (λ part a. Any-left (λ (d : Calls). IsPartOf g d part) xs (c ∷ []) a) made so_far.parts)
            (All-weaker (IsPartOf g c) (λ part. Any (λ d. IsPartOf g d part) (xs ++ c ∷ []))
            (λ part p. Any-right (λ (d : Calls). IsPartOf g d part) xs (c ∷ [])
            (Any-first (λ (d : Calls). IsPartOf g d part) c [] p)) left rest.parts);
        points = apart_points;
        apart = pairs_append AreApart made left so_far.apart
            (λ m n d below inside same. record {
              apart = λ point long h k.
                  let a = get_or left m d in
                  let part = rest.parts m d (omega (arith, below, inside)) in
                  (rest.apart m n d below inside).apart point (long ∙ part.free) h k;
            })
            (λ m n d inside within. cross (get_or made m d) (get_or left n d) (Contains-get_or made m d inside)
            (Contains-get_or left n d within));
      }))

-- what the code asks for each
pub earlier_have : (g h : Gauge) (calls : List Calls) (i : ℕ) → IsCharged g h → All (IsPlainWithin g) calls
    → All (IsPlainWithin h) (take i calls)
earlier_have g h calls i charged sound = λ k d l.
    let s = All-contains (IsPlainWithin g) calls (get_or (take i calls) k d) sound
    (Contains-taken i calls (get_or (take i calls) k d) (Contains-get_or (take i calls) k d l)) in
    record { within = charged_within g h (get_or (take i calls) k d).system charged s.within; plain = s.plain }

pub earlier_even : (calls : List Calls) (i : ℕ) (c : Calls) → i < length calls → c ≡ get_or calls i c → AreEven calls
    → All (λ d. called_form c ≡ called_form d → free_columns c.system ≡ free_columns d.system) (take i calls)
earlier_even calls i c low at even = λ k d l.
    All-contains (λ (e : Calls). called_form c ≡ called_form e → free_columns c.system ≡ free_columns e.system) calls (get_or (take i calls) k d)
    (subst (λ (a : Calls). All (λ e. called_form a ≡ called_form e → free_columns a.system ≡ free_columns e.system) calls) (sym at) (even i c low))
    (Contains-taken i calls (get_or (take i calls) k d) (Contains-get_or (take i calls) k d l))

pub left_kept : (g h : Gauge) (c : Calls) (earlier left : List Calls) → IsCharged g h → AreLeftOf h c earlier left → AreLeftOf g c earlier left
left_kept g h c earlier left charged rest = record {
  parts = λ k d l.
      let p = rest.parts k d l in
      record {
        like = p.like;
        sound = record {
          within = system_kept g h (get_or left k d).system (charged_limit g h charged) p.sound.within;
          plain = p.sound.plain;
        };
        free = p.free;
      };
  points = rest.points;
  apart = rest.apart;
}

pub sound_later : (g h : Gauge) (calls : List Calls) (i : ℕ) (c : Calls) → i < length calls → c ≡ get_or calls i c → IsCharged g h
    → All (IsPlainWithin g) calls → IsPlainWithin h c
sound_later g h calls i c low at charged sound =
    let s : IsPlainWithin g c = subst (IsPlainWithin g) (sym at) (sound i c low) in
    record { within = charged_within g h c.system charged s.within; plain = s.plain }
