-- Partitions: of no point, of one system, joined, and of the same points.
use Rattle.std.proofs.Common.{◌≡◌, ◌↔◌, ◌⊎◌, inl, inr, refl, sym, ◌∙◌, subst, arith, ℕ, ◌-◌, ◌<◌, ℤ, List, [], ◌∷◌, ◌++◌, length, get_or}
use Rattle.std.proofs.Common.{ap, map, take, drop, length-append}
use Rattle.std.specs.List.{Any, AllPairs}
use Rattle.std.proofs.lemmas.Bool.{cases_lt}
use Rattle.std.proofs.lemmas.List.{get_or_append_left, get_or-append_right, get_or_default, get_or-take, length-take-le, take-append-drop}
use Rattle.std.proofs.lemmas.List.{get_or-map}
use Rattle.std.proofs.lemmas.List.Elements.{All-nil, All-cons, All-append, All-weaker}
use Rattle.isl_math.proofs.ListLaws.{Any-parts, Any-left, Any-right, Any-one, Any-first, Any-none}
use Rattle.isl_piece.specs.declared.system.System.{System}
use Rattle.isl_piece.specs.System.{HoldsSystem}
use Rattle.isl_difference.specs.Difference.{AreDisjoint, IsPartition}

pub pairs_append : {X : Type 0} (R : X → X → Type 0) (xs ys : List X) → AllPairs R xs → AllPairs R ys
    → ((i j : ℕ) (d : X) → i < length xs → j < length ys → R (get_or xs i d) (get_or ys j d)) → AllPairs R (xs ++ ys)
pairs_append R xs ys p q cross i j d below inside =
    let long = length-append xs ys in
    elim (cases_lt j (length xs)) [
      | inl early ↦ rw (get_or_append_left xs ys d i (omega arith), get_or_append_left xs ys d j early) (p i j d below early)
      | inr late ↦ elim (cases_lt i (length xs)) [
        | inl early ↦ rw (get_or_append_left xs ys d i early, get_or-append_right xs ys (length xs) j d refl late) (cross i (j - length xs) d early (omega arith))
        | inr later ↦ rw (get_or-append_right xs ys (length xs) i d refl later, get_or-append_right xs ys (length xs) j d refl late)
            (q (i - length xs) (j - length xs) d (omega arith) (omega arith))
      ]
    ]

-- the element at i, whatever stands for none
pub any_at : {X : Type 0} (P : X → Type 0) (xs : List X) (i : ℕ) (d : X) → i < length xs → P (get_or xs i d) → Any P xs
any_at P xs i d l p = (i, get_or xs i d, l, get_or_default xs i (get_or xs i d) d l, p)

-- what f makes of the element at i
pub mapped_at : {X Y : Type 0} (f : X → Y) (xs : List X) (i : ℕ) (x : X) → i < length xs → x ≡ get_or xs i x
    → f x ≡ get_or (map f xs) i (f x)
mapped_at f xs i x low is = ap f is ∙ sym (get_or-map f xs i x (f x) low)

-- each element in front of the one at i is related to it
pub any_before : {X : Type 0} (P : X → Type 0) (R : X → X → Type 0) (xs : List X) (i : ℕ) (x : X) → AllPairs R xs → i < length xs
    → x ≡ get_or xs i x → Any P (take i xs) → (y : X) × P y × R y x
any_before {X = X} P R xs i x e l is a =
    let low = a.2 in
    let short = length-take-le i xs (omega arith) in
    let here : get_or xs a.0 a.1 ≡ a.1 = sym (get_or-take i xs a.0 a.1 (omega arith)) ∙ a.3 in
    let same : get_or xs a.0 x ≡ a.1 = get_or_default xs a.0 x a.1 (omega arith) ∙ here in
    (a.1, a.4, subst (λ (y : X). R y x) same (subst (λ (z : X). R (get_or xs a.0 x) z) (sym is) (e a.0 i x (omega arith) l)))

-- an element of the first ones is one of all
pub any_taken : {X : Type 0} (P : X → Type 0) (i : ℕ) (xs : List X) → Any P (take i xs) → Any P xs
any_taken P i xs a = subst (Any P) (take-append-drop i xs) (Any-left P (take i xs) (drop i xs) a)

module _ (K : System → Type 0) (columns : ℕ) where
  pub partition_none : (P : List ℤ → Type 0) → ((point : List ℤ) → length point ≡ columns → ¬ P point) → IsPartition K columns P []
  partition_none P none = record {
    each = All-nil K;
    points = λ point l. ((λ h. absurd (Any-none (λ (s : System). HoldsSystem s point) h)), (λ h. absurd (none point l h)));
    disjoint = λ i j d below inside. absurd (omega arith);
  }

  pub partition_one : (P : List ℤ → Type 0) (s : System) → K s
      → ((point : List ℤ) → length point ≡ columns → HoldsSystem s point ↔ P point) → IsPartition K columns P (s ∷ [])
  partition_one P s k same = record {
    each = All-cons K s [] k (All-nil K);
    points = λ point l. let Q : System → Type 0 = λ t. HoldsSystem t point in (
      (λ h. (same point l).0 (Any-one Q s h)),
      (λ h. Any-first Q s [] ((same point l).1 h)),
    );
    disjoint = λ i j d below inside. absurd (omega arith);
  }

  pub partition_append : (P Q : List ℤ → Type 0) (xs ys : List System) → IsPartition K columns P xs → IsPartition K columns Q ys
      → ((point : List ℤ) → length point ≡ columns → P point → ¬ Q point) → IsPartition K columns (λ point. P point ⊎ Q point) (xs ++ ys)
  partition_append P Q xs ys p q apart = record {
    each = All-append K xs ys p.each q.each;
    points = λ point l. let R : System → Type 0 = λ t. HoldsSystem t point in (
      (λ h. elim (Any-parts R xs ys h) [ inl x ↦ inl ((p.points point l).0 x) | inr y ↦ inr ((q.points point l).0 y) ]),
      (λ h. elim h [ inl x ↦ Any-left R xs ys ((p.points point l).1 x) | inr y ↦ Any-right R xs ys ((q.points point l).1 y) ]),
    );
    disjoint = pairs_append (AreDisjoint columns) xs ys p.disjoint q.disjoint (λ i j d low inside. record {
      apart = λ point l a b.
          apart point l ((p.points point l).0 (any_at (λ (t : System). HoldsSystem t point) xs i d low a)) ((q.points point l).0 (any_at (λ (t : System). HoldsSystem t point) ys j d inside b));
    });
  }

  pub partition_same : (P Q : List ℤ → Type 0) (xs : List System) → ((point : List ℤ) → length point ≡ columns → P point ↔ Q point)
      → IsPartition K columns P xs → IsPartition K columns Q xs
  partition_same P Q xs same p = record {
    each = p.each;
    points = λ point l. ((λ h. (same point l).0 ((p.points point l).0 h)), (λ h. (p.points point l).1 ((same point l).1 h)));
    disjoint = p.disjoint;
  }

pub partition_each : (K L : System → Type 0) (columns : ℕ) (P : List ℤ → Type 0) (xs : List System) → ((s : System) → K s → L s)
    → IsPartition K columns P xs → IsPartition L columns P xs
partition_each K L columns P xs f p = record { each = All-weaker K L f xs p.each; points = p.points; disjoint = p.disjoint }
