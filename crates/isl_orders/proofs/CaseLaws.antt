-- The cases of an order.
use Rattle.std.proofs.Common.{◌≡◌, ◌↔◌, ◌⊎◌, inl, inr, sym, ap, ◌∙◌, subst, arith, true, false, ℕ, ◌+◌, ℤ, List, [], ◌∷◌}
use Rattle.std.proofs.Common.{◌++◌, ◌<◌, ◌<ℤ◌, get_or, get_or-set_same, length, length-set, pos, replicate, set}
use Rattle.std.proofs.lemmas.Bool.{cases_lt}
use Rattle.std.proofs.lemmas.List.{get_or-replicate, length-replicate, take-set-le}
use Rattle.std.proofs.lemmas.List.Elements.{All-nil, All-push}
use Rattle.isl_math.proofs.Ring.{linear}
use Rattle.isl_math.proofs.ListLaws.{Any-first, Any-left, Any-none, Any-one, Any-parts, Any-right}
use Rattle.isl_piece.specs.declared.system.System.{System}
use Rattle.isl_piece.specs.System.{HoldsSystem, IsSystemWithin, free_columns}
use Rattle.isl_blocks.specs.declared.cases.Direction.{Direction}
use Rattle.isl_blocks.specs.declared.cases.Direction.TheVariants.{Before, After}
use Rattle.isl_blocks.specs.Blocks.{block_at, numbers_of, total, width_at}
use Rattle.isl_blocks.specs.Cases.{DiffersAt, IsBeforeAt, IsCaseOf}
use Rattle.isl_blocks.proofs.CaseLaws.{before_somewhere}
use Rattle.isl_blocks.proofs.WidthLaws.{block_long}
use Rattle.isl_orders.specs.declared.order.Order.{Order}
use Rattle.isl_orders.specs.declared.order.Order.TheVariants.{Less, UpTo, Greater, DownTo}
use Rattle.isl_orders.specs.Cases.{AreCasesOf, DiffersBefore, IsMet}
use Rattle.isl_orders.specs.Comparison.{AreOrdered, IsApart, direction_of, has_same}

abbrev IsPlain : System → Type 0
IsPlain s = s.definitions ≡ []

module _ (widths : List ℕ) (first second : ℕ) where
  pub cases_none : (direction : Direction) (cases : List System) → cases ≡ []
      → AreCasesOf widths first second (DiffersBefore direction 0) cases
  cases_none direction cases e = rw e (record {
    points = λ blocks are. (
      (λ a. absurd (Any-none (λ (s : System). HoldsSystem s (numbers_of blocks)) a)),
      (λ d. absurd (let l = d.1 in omega (arith, l))),
    );
    within = λ g bits. All-nil (IsSystemWithin g);
    free = All-nil (λ (s : System). free_columns s ≡ total widths);
    definitions = All-nil IsPlain;
    met = All-nil (IsMet widths first second);
  })

  -- numbers of the two blocks for which P is so
  abbrev pub Meet : (List ℤ → List ℤ → Type 0) → Type 0
  Meet P = (xs : List ℤ) × (ys : List ℤ) × (length xs ≡ width_at widths first) × (length ys ≡ width_at widths second) × P xs ys

  case_met : (Q : List ℤ → List ℤ → Type 0) (one : System) → IsCaseOf widths first second Q one → Meet Q → IsMet widths first second one
  case_met Q one case some = (
    some.0,
    some.1,
    some.2,
    some.3,
    λ blocks are own other.
        (case.points blocks are).1 (subst (λ xs. Q xs (block_at blocks second)) (sym own) (subst (Q some.0) (sym other) some.4)),
  )

  -- one more case
  pub cases_push : (P Q R : List ℤ → List ℤ → Type 0) (cases : List System) (one : System) (pushed : List System)
      → AreCasesOf widths first second P cases → IsCaseOf widths first second Q one → pushed ≡ cases ++ one ∷ []
      → ((xs ys : List ℤ) → R xs ys ↔ (P xs ys ⊎ Q xs ys)) → Meet Q → AreCasesOf widths first second R pushed
  cases_push P Q R cases one pushed so_far case e same some = rw e (record {
    points = λ blocks are.
        let H : System → Type 0 = λ s. HoldsSystem s (numbers_of blocks) in
        let a = so_far.points blocks are in
        let b = case.points blocks are in
        let r = same (block_at blocks first) (block_at blocks second) in (
          (λ any. elim (Any-parts H cases (one ∷ []) any) [
            | inl old ↦ r.1 (inl (a.0 old))
            | inr new ↦ r.1 (inr (b.0 (Any-one H one new)))
          ]),
          (λ k. elim (r.0 k) [
            | inl p ↦ Any-left H cases (one ∷ []) (a.1 p)
            | inr q ↦ Any-right H cases (one ∷ []) (Any-first H one [] (b.1 q))
          ]),
        );
    within = λ g bits. All-push (IsSystemWithin g) cases one (so_far.within g bits) (case.within g bits);
    free = All-push (λ (s : System). free_columns s ≡ total widths) cases one so_far.free case.free;
    definitions = All-push IsPlain cases one so_far.definitions case.definitions;
    met = All-push (IsMet widths first second) cases one so_far.met (case_met Q one case some);
  })

  -- what is the same of two blocks of one width
  pub cases_as : (P Q : List ℤ → List ℤ → Type 0) (cases : List System) → width_at widths first ≡ width_at widths second
      → ((xs ys : List ℤ) → length xs ≡ width_at widths first → length ys ≡ width_at widths first → P xs ys ↔ Q xs ys)
      → AreCasesOf widths first second P cases → AreCasesOf widths first second Q cases
  cases_as P Q cases wide same all = record {
    points = λ blocks are.
        let a = all.points blocks are in
        let xs = block_at blocks first in
        let ys = block_at blocks second in
        let m = block_long blocks first ∙ ap (λ ws. width_at ws first) are in
        let n = block_long blocks second ∙ ap (λ ws. width_at ws second) are ∙ sym wide in
        let b = same xs ys m n in
        ((λ h. b.0 (a.0 h)), (λ k. a.1 (b.1 k)));
    within = all.within;
    free = all.free;
    definitions = all.definitions;
    met = all.met;
  }

pub differs_more : (direction : Direction) (i : ℕ) (xs ys : List ℤ)
    → DiffersBefore direction (i + 1) xs ys ↔ (DiffersBefore direction i xs ys ⊎ DiffersAt direction i xs ys)
differs_more direction i xs ys = (
  (λ d. elim (cases_lt d.0 i) [
    | inl early ↦ inl (d.0, early, d.2)
    | inr late ↦
        let l = d.1 in
        let here : d.0 ≡ i = omega (arith, l, late) in
        inr (subst (λ k. DiffersAt direction k xs ys) here d.2)
  ]),
  (λ e. elim e [
    | inl d ↦ (d.0, (let l = d.1 in omega (arith, l)), d.2)
    | inr at ↦ (i, omega arith, at)
  ]),
)

-- at each of its places some lists of one width first differ so
pub differs_somewhere : (direction : Direction) (i w n : ℕ) → i < w → w ≡ n
    → (xs : List ℤ) × (ys : List ℤ) × (length xs ≡ w) × (length ys ≡ n) × DiffersAt direction i xs ys
differs_somewhere direction i w n low same = by direction
  where
    zeros : List ℤ
    zeros = replicate w (pos 0)

    high : List ℤ
    high = set zeros i (pos 1)

    zeros_long : length zeros ≡ w
    zeros_long = length-replicate w (pos 0)

    high_long : length high ≡ w
    high_long = length-set zeros i (pos 1) ∙ zeros_long

    at : IsBeforeAt i zeros high
    at =
        let z = get_or-replicate w i (pos 0) (pos 0) low in
        let h = get_or-set_same zeros i (pos 1) (pos 0) (let l = zeros_long in omega (arith, l, low)) in
        record {
          same = sym (take-set-le i zeros i (pos 1) (omega arith));
          less = less (get_or zeros i (pos 0)) (get_or high i (pos 0)) z h;
        }
      where
        less : (a b : ℤ) → a ≡ pos 0 → b ≡ pos 1 → a <ℤ b
        less a b p q = omega (arith, linear)

    by : (d : Direction) → (xs : List ℤ) × (ys : List ℤ) × (length xs ≡ w) × (length ys ≡ n) × DiffersAt d i xs ys
    by Before = (zeros, high, zeros_long, high_long ∙ same, at)
    by After = (high, zeros, high_long, zeros_long ∙ same, at)

pub differs_apart : (direction : Direction) (w : ℕ) (xs ys : List ℤ) → length xs ≡ w → length ys ≡ w
    → DiffersBefore direction w xs ys ↔ IsApart direction xs ys
differs_apart Before w xs ys m n =
    let both = before_somewhere xs ys (m ∙ sym n) in (
      (λ d. both.1 (d.0, (let l = d.1 in omega (arith, l, n)), d.2)),
      (λ b. let k = both.0 b in (k.0, (let l = k.1 in omega (arith, l, n)), k.2)),
    )
differs_apart After w xs ys m n =
    let both = before_somewhere ys xs (n ∙ sym m) in (
      (λ d. both.1 (d.0, (let l = d.1 in omega (arith, l, m)), d.2)),
      (λ b. let k = both.0 b in (k.0, (let l = k.1 in omega (arith, l, m)), k.2)),
    )

pub ordered_apart : (order : Order) → has_same order ≡ false → (xs ys : List ℤ)
    → IsApart (direction_of order) xs ys ↔ AreOrdered order xs ys
ordered_apart Less e xs ys = ((λ h. h), (λ h. h))
ordered_apart UpTo e xs ys = absurd (cc)
ordered_apart Greater e xs ys = ((λ h. h), (λ h. h))
ordered_apart DownTo e xs ys = absurd (cc)

pub ordered_same : (order : Order) → has_same order ≡ true → (xs ys : List ℤ)
    → AreOrdered order xs ys ↔ (IsApart (direction_of order) xs ys ⊎ (xs ≡ ys))
ordered_same Less e xs ys = absurd (cc)
ordered_same UpTo e xs ys = ((λ h. h), (λ h. h))
ordered_same Greater e xs ys = absurd (cc)
ordered_same DownTo e xs ys = ((λ h. h), (λ h. h))
