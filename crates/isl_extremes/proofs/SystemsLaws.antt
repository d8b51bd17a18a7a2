-- The lists of systems that stand, place after place.
use Rattle.std.proofs.Common.{◌≡◌, inl, inr, refl, sym, ap, ◌∙◌, subst, arith, ℕ, ◌+◌, ◌<◌, ◌≤◌, ℤ, pos, ◌≤ℤ◌, Bool}
use Rattle.std.proofs.Common.{List, [], ◌∷◌, ◌++◌, length, length-append, get_or, take}
use Rattle.std.specs.Prelude.{IsTrue}
use Rattle.std.specs.List.{All}
use Rattle.std.proofs.lemmas.Bool.{cases_lt}
use Rattle.std.proofs.lemmas.List.{length-take-le, take_all, take_more}
use Rattle.std.proofs.lemmas.List.Elements.{All-append, All-nil, Contains-get_or}
use Rattle.isl_math.proofs.ListLaws.{Any-contains, Any-first, Any-left, Any-none, Any-one, Any-parts, Any-right, Any-weaker}
use Rattle.isl_meter.specs.Gauge.{Gauge, IsCharged}
use Rattle.isl_meter.proofs.CutLemmas.{IsCharged_trans}
use Rattle.isl_piece.specs.declared.system.System.{System}
use Rattle.isl_piece.specs.System.{HoldsSystem, IsSystemWithin, free_columns}
use Rattle.isl_elim.specs.Sample.{IsNowhere}
use Rattle.isl_difference.specs.Difference.{IsDifference, IsLeftOf}
use Rattle.isl_difference.specs.Split.{IsLive}
use Rattle.isl_difference.proofs.RowCases.{systems_cases}
use Rattle.isl_difference.proofs.SplitLaws.{live_kept}
use Rattle.isl_extremes.specs.declared.systems.Order.{Order}
use Rattle.isl_extremes.specs.Systems.{signed, AreAnswered, AreBeaten, AreBehind, AreFirst, AreOutside, ArePlain, AreSoFar, AreStanding}
use Rattle.isl_extremes.specs.Systems.{HaveFirst, IsDecided, IsEnded, Stands}
use Rattle.isl_extremes.proofs.LeastLaws.{first_from, first_stands, none_first, some_first, stands_first, stands_less, stands_more}
use Rattle.isl_extremes.proofs.SidesLaws.{lowest}

abbrev pub IsPlain : System → Type 0
IsPlain s = s.definitions ≡ []

abbrev At : List ℤ → System → Type 0
At point s = HoldsSystem s point

pub charged_bits : (g h : Gauge) → IsCharged g h → h.bits ≡ g.bits
charged_bits g h p = ap (λ (x : Gauge). x.bits) p.same

-- ---- plain systems
pub plain_none : (g : Gauge) (columns : ℕ) (systems : List System) → systems ≡ [] → ArePlain g columns systems
plain_none g columns systems is = rw is (record { live = All-nil (IsLive g columns); plain = All-nil IsPlain })

pub plain_append : (g : Gauge) (columns : ℕ) (xs ys : List System) → ArePlain g columns xs → ArePlain g columns ys
    → ArePlain g columns (xs ++ ys)
plain_append g columns xs ys p q = record {
  live = All-append (IsLive g columns) xs ys p.live q.live;
  plain = All-append IsPlain xs ys p.plain q.plain;
}

pub plain_kept : (g h : Gauge) (columns : ℕ) (systems : List System) → h.bits ≡ g.bits → ArePlain h columns systems
    → ArePlain g columns systems
plain_kept g h columns systems e p = record {
  live = λ k d l. live_kept g h columns (get_or systems k d) e (p.live k d l);
  plain = p.plain;
}

pub plain_within : (g : Gauge) (columns : ℕ) (systems : List System) → ArePlain g columns systems → All (IsSystemWithin g) systems
plain_within g columns systems p = λ k d l. (p.live k d l).within

pub plain_free : (g : Gauge) (columns : ℕ) (systems : List System) → ArePlain g columns systems
    → All (λ s. free_columns s ≡ columns) systems
plain_free g columns systems p = λ k d l. (p.live k d l).free

one_more : (systems : List System) (i : ℕ) (s : System) → i < length systems → s ≡ get_or systems i s
    → take (i + 1) systems ≡ take i systems ++ s ∷ []
one_more systems i s inside is = take_more systems i s inside ∙ ap (λ t. take i systems ++ t ∷ []) (sym is)

-- ---- without others
pub outside_none : (g : Gauge) (columns : ℕ) (others left : List System) → left ≡ [] → AreOutside g columns [] others left
outside_none g columns others left is = rw is (record {
  are = plain_none g columns [] refl;
  points = λ point l. ((λ a. absurd (Any-none (At point) a)), (λ h. h.0));
})

module _ (g h : Gauge) (columns : ℕ) (charged : IsCharged g h) (systems : List System) (i : ℕ) (s : System) (inside : i < length systems)
    (is : s ≡ get_or systems i s) (live : IsLive g columns s) (others left parts all : List System) (more : all ≡ left ++ parts) where
  part_live : (t : System) → IsLeftOf h s t → IsLive g columns t
  part_live t p = live_kept g h columns t (charged_bits g h charged) (record {
    free = p.columns ∙ live.free;
    within = p.within;
    normal = p.normal live.normal;
    somewhere = subst (λ n. ¬ IsNowhere n (HoldsSystem t)) (p.columns ∙ live.free)
        (p.live (subst (λ n. ¬ IsNowhere n (HoldsSystem s)) (sym live.free) live.somewhere));
  })

  pub outside_more : AreOutside g columns (take i systems) others left → IsDifference h s others parts → All IsPlain parts
      → AreOutside g columns (take (i + 1) systems) others all
  outside_more so_far difference plain =
      subst (λ old. AreOutside g columns old others all) (sym (one_more systems i s inside is)) (rw more (record {
        are = plain_append g columns left parts so_far.are (record {
          live = λ k d l. part_live (get_or parts k d) (difference.each k d l);
          plain = plain;
        });
        points = λ point l.
            let old = so_far.points point l in
            let new = difference.points point (l ∙ sym live.free) in (
              (λ a. elim (Any-parts (At point) left parts a) [
                | inl x ↦ let o = old.0 x in (Any-left (At point) (take i systems) (s ∷ []) o.0, o.1)
                | inr y ↦ let n = new.0 y in (Any-right (At point) (take i systems) (s ∷ []) (Any-first (At point) s [] n.0), n.1)
              ]),
              (λ k. elim (Any-parts (At point) (take i systems) (s ∷ []) k.0) [
                | inl x ↦ Any-left (At point) left parts (old.1 (x, k.1))
                | inr y ↦ Any-right (At point) left parts (new.1 (Any-one (At point) s y, k.1))
              ]),
            );
      }))

pub outside_kept : (g h : Gauge) (columns : ℕ) (systems others left : List System) → h.bits ≡ g.bits
    → AreOutside h columns systems others left
    → AreOutside g columns systems others left
outside_kept g h columns systems others left e p = record { are = plain_kept g h columns left e p.are; points = p.points }

-- ---- where others are ahead
pub beaten_none : (g : Gauge) (order : Order) (at : ℕ) (found : List System) → found ≡ [] → AreBeaten g order at [] found
beaten_none g order at found is = rw is (record {
  are = plain_none g (order.front + order.width) [] refl;
  points = λ front ys f l. (
    (λ a. absurd (Any-none (At (front ++ ys)) a)),
    (λ h. absurd (Any-none (At (front ++ h.0)) h.1.1)),
  );
})

pub beaten_more : (g h : Gauge) (order : Order) (at : ℕ) → IsCharged g h → (systems : List System) (i : ℕ) (s : System) → i < length systems
    → s ≡ get_or systems i s → (found parts all : List System) → all ≡ found ++ parts → AreBeaten g order at (take i systems) found
    → AreBeaten h order at (s ∷ []) parts → AreBeaten g order at (take (i + 1) systems) all
beaten_more g h order at charged systems i s inside is found parts all more so_far one =
    subst (λ old. AreBeaten g order at old all) (sym (one_more systems i s inside is)) (rw more (record {
      are = plain_append g (order.front + order.width) found parts so_far.are
          (plain_kept g h (order.front + order.width) parts (charged_bits g h charged) one.are);
      points = λ front ys f l.
          let point = front ++ ys in
          let old = so_far.points front ys f l in
          let new = one.points front ys f l in (
            (λ a. elim (Any-parts (At point) found parts a) [
              | inl x ↦ let o = old.0 x in (o.0, (o.1.0, Any-left (At (front ++ o.0)) (take i systems) (s ∷ []) o.1.1), o.2)
              | inr y ↦ let n = new.0 y in (n.0, (n.1.0, Any-right (At (front ++ n.0)) (take i systems) (s ∷ []) n.1.1), n.2)
            ]),
            (λ k. elim (Any-parts (At (front ++ k.0)) (take i systems) (s ∷ []) k.1.1) [
              | inl x ↦ Any-left (At point) found parts (old.1 (k.0, (k.1.0, x), k.2))
              | inr y ↦ Any-right (At point) found parts (new.1 (k.0, (k.1.0, y), k.2))
            ]),
          );
    }))

-- all of them
pub all_of : {X : Type 0} (P : List X → Type 0) (xs : List X) (i : ℕ) → length xs ≤ i → P (take i xs) → P xs
all_of P xs i end p = subst P (take_all i xs end) p

-- ---- what stands
module _ (order : Order) (systems : List System) where
  abbrev Behind : List ℤ → List ℤ → Type 0
  Behind front = AreBehind systems order.width front

  behind_long : (front ys : List ℤ) → AreBehind systems order.width front ys → length ys ≡ order.width
  behind_long front ys p = p.0

  pub standing_first : (g : Gauge) (left : List System) → left ≡ systems → ArePlain g (order.front + order.width) systems
      → AreStanding g order 0 systems left
  standing_first g left is plain = rw is (record {
    are = plain;
    points = λ front ys f l. (
      (λ a. stands_first order.direction order.width (Behind front) (behind_long front) ys (l, a)),
      (λ s. s.is.1),
    );
  })

  pub standing_kept : (g h : Gauge) (at : ℕ) (left : List System) → h.bits ≡ g.bits → AreStanding h order at systems left
      → AreStanding g order at systems left
  standing_kept g h at left e p =
      record { are = plain_kept g h (order.front + order.width) left e p.are; points = p.points }

  pub standing_more : (g : Gauge) (at : ℕ) (standing beaten left : List System) → AreStanding g order at systems standing
      → AreBeaten g order at systems beaten → AreOutside g (order.front + order.width) standing beaten left
      → AreStanding g order (at + 1) systems left
  standing_more g at standing beaten left before ahead out = record {
    are = out.are;
    points = λ front ys f l.
        let d = order.direction in
        let w = order.width in
        let P = Behind front in
        let n = length-append front ys in
        let o = out.points (front ++ ys) (omega (arith, n, f, l)) in
        let s = before.points front ys f l in
        let b = ahead.points front ys f l in (
          (λ a.
              let both = o.0 a in
              stands_more d w P (behind_long front) at ys (s.0 both.0) (λ zs p differs. both.1 (b.1 (zs, p, differs)))),
          (λ k.
              let less = stands_less d w P (behind_long front) at ys k in
              o.1 (s.1 less.0, λ a. let some = b.0 a in less.1 some.0 some.1 some.2)),
        );
  }

  pub decided_from : (g : Gauge) (at : ℕ) (beaten : List System) → AreBeaten g order at systems beaten → IsDecided order at systems
  decided_from g at beaten ahead = λ front ys f l.
      let b = ahead.points front ys f l in
      elim (systems_cases g beaten (front ++ ys) (plain_within g (order.front + order.width) beaten ahead.are)) [
        | inl some ↦ inl (b.0 some)
        | inr none ↦ inr (λ zs p differs. none (b.1 (zs, p, differs)))
      ]

  -- ---- place after place
  pub so_far_first : (g h : Gauge) (left : List System) → IsCharged g h → left ≡ systems → ArePlain g (order.front + order.width) systems
      → AreSoFar g h order 0 systems left
  so_far_first g h left charged is plain = record {
    charged = charged;
    standing = standing_first g left is plain;
    ended = λ i front before low f b. absurd (omega (arith, low));
    decided = λ i low. absurd (omega (arith, low));
  }

  -- lists that stand are bounded at the place
  bounded_here : (g : Gauge) (at : ℕ) (left : List System) → at < order.width → AreStanding g order at systems left
      → All (IsEnded order at) left
      → (front before : List ℤ) → length front ≡ order.front → length before ≡ at
      → (bound : ℤ) × ((zs : List ℤ) → Stands order.direction (Behind front) at zs → take at zs ≡ before
      → bound ≤ℤ signed order.direction (get_or zs at (pos 0)))
  bounded_here g at left inside standing ended front before f l =
      let P : System → ℤ → Type 0 = λ s y.
      (ys : List ℤ) × (length ys ≡ order.width) × (take at ys ≡ before) × (signed order.direction (get_or ys at (pos 0)) ≡ y)
      × HoldsSystem s (front ++ ys) in
      let all = lowest P left (λ k d i.
      let one = ended k d i front before f l in
      (one.0, λ y h. subst (λ z. one.0 ≤ℤ z) h.3 (one.1 h.0 h.1 h.2 h.4))) in (
        all.0,
        λ zs s same.
            let some = (standing.points front zs f s.is.0).1 s in
            all.1 (signed order.direction (get_or zs at (pos 0)))
            (Any-weaker (At (front ++ zs)) (λ t. P t (signed order.direction (get_or zs at (pos 0))))
            (λ t h. (zs, s.is.0, same, refl, h)) left some),
      )

  pub so_far_more : (g h m k : Gauge) (at : ℕ) (answer : Bool) (left new : List System) → at < order.width
      → AreSoFar g h order at systems left → IsCharged h m → IsCharged m k → AreAnswered order at left answer → IsTrue answer
      → AreStanding m order (at + 1) systems new → IsDecided order at systems → AreSoFar g k order (at + 1) systems new
  so_far_more g h m k at answer left new inside so_far asked charged told holds standing decided = record {
    charged = IsCharged_trans g m k (IsCharged_trans g h m so_far.charged asked) charged;
    standing = standing_kept g m (at + 1) new (charged_bits g m (IsCharged_trans g h m so_far.charged asked)) standing;
    ended = λ i front before low f b. elim (cases_lt i at) [
      | inl early ↦ so_far.ended i front before early f b
      | inr late ↦
          let same : at ≡ i = omega (arith, low, late) in
          subst (λ n. (bound : ℤ) × ((zs : List ℤ) → Stands order.direction (Behind front) n zs → take n zs ≡ before
          → bound ≤ℤ signed order.direction (get_or zs n (pos 0)))) same
          (bounded_here g at left inside so_far.standing (told.ended holds) front before f (b ∙ sym same))
    ];
    decided = λ i low. elim (cases_lt i at) [
      | inl early ↦ so_far.decided i early
      | inr late ↦ let same : at ≡ i = omega (arith, low, late) in subst (λ n. IsDecided order n systems) same decided
    ];
  }

  -- a place without an end
  pub none_there : (g h : Gauge) (at : ℕ) (answer : Bool) (left : List System) → at < order.width → AreSoFar g h order at systems left
      → AreAnswered order at left answer → ¬ IsTrue answer → ¬ HaveFirst order systems
  none_there g h at answer left inside so_far told fails have = told.falls fails (λ k e i front ys f l holds falls.
      let standing = so_far.standing in
      let each : (zs : List ℤ) → length zs ≡ order.width → HoldsSystem (get_or left k e) (front ++ zs)
      → Stands order.direction (Behind front) at zs = λ zs long one.
      (standing.points front zs f long).0 (Any-contains (At (front ++ zs)) left (get_or left k e) (Contains-get_or left k e i) one) in
      let here = each ys l holds in
      let first = have front ys f here.is in
      none_first order.direction order.width (Behind front) (behind_long front) at ys inside here
      (λ b. let some = falls b in (some.0, (each some.0 some.1 some.3).is, some.2, some.4)) first.0 first.1)

  -- each place was looked at
  pub all_first : (g h : Gauge) (left : List System) → AreSoFar g h order order.width systems left → AreFirst g order systems left
  all_first g h left so_far = record {
    are = so_far.standing.are;
    points = λ front ys f l.
        let s = so_far.standing.points front ys f l in (
          (λ a. first_from order.direction order.width (Behind front) (behind_long front) ys (s.0 a)),
          (λ first. s.1 (first_stands order.direction order.width (Behind front) (behind_long front) ys first)),
        );
  }

  pub all_there : (g h : Gauge) (left : List System) → AreSoFar g h order order.width systems left → HaveFirst order systems
  all_there g h left so_far front ys f p =
      some_first order.direction order.width (Behind front) (behind_long front)
      (λ i zs inside s. so_far.decided i inside front zs f s.is.0)
      (λ i zs inside s. so_far.ended i front (take i zs) inside f (let n = s.is.0 in length-take-le i zs (omega (arith, n, inside)))) ys p
