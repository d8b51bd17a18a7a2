-- Shadows of the bounds on one column, at a point of the others (Pugh, the Omega test): what each lower and upper bound
-- say together. The real shadow is necessary, the dark shadow is enough, and what lies between them is in a splinter.
use Rattle.std.proofs.Common.{◌≡◌, ◌⊎◌, inl, inr, refl, arith, ℤ, pos, neg_ℤ, ◌+ℤ◌, ◌-ℤ◌, ◌*ℤ◌, ◌≤ℤ◌, ◌<ℤ◌, List, [], ◌∷◌, get_or}
use Rattle.std.specs.List.{All, Contains}
use Rattle.std.proofs.lemmas.List.Elements.{All-nil, All-cons, All-head, All-tail, All-contains}
use Rattle.isl_math.specs.Divide.{floor_div}
use Rattle.isl_math.proofs.Ring.{expand, linear}
use Rattle.isl_math.proofs.OrderLaws.{*ℤ-≤ℤ, <ℤ-from_*ℤ, cases_ℤ, at_most_or_above}
use Rattle.isl_omega.specs.Shadow.{Bound, IsPositive, MeetsLower, MeetsUpper, together, IsReal, slack, IsDark, last_splinter}
use Rattle.isl_math.proofs.ListLaws.{Contains-later}
use Rattle.isl_math.proofs.DivideLaws.{at_most_floor, floor_split, floor_mod_bounds}

-- ---- one pair

-- the real shadow is necessary
pub real_pair : (x : ℤ) (l u : Bound) → IsPositive l → IsPositive u → MeetsLower x l → MeetsUpper x u → IsReal l u
real_pair x l u p q h k = by x l.factor l.rest u.factor u.rest (omega (arith, linear)) (omega (arith, linear)) h k
  where
    by : (x a f b g : ℤ) → pos 0 ≤ℤ a → pos 0 ≤ℤ b → pos 0 ≤ℤ (a *ℤ x +ℤ f) → (b *ℤ x) ≤ℤ g → pos 0 ≤ℤ (a *ℤ g +ℤ b *ℤ f)
    by x a f b g p q h k =
        let h' = simp expand at (*ℤ-≤ℤ b (pos 0) (a *ℤ x +ℤ f) q h) in
        let k' = simp expand at (*ℤ-≤ℤ a (b *ℤ x) g p k) in
        simp expand (omega (arith, linear))

-- where x is the least that meets the lower bound, and the pair is dark, x meets the upper bound
pub dark_pair : (x : ℤ) (l u : Bound) → IsPositive l → IsPositive u → (l.factor *ℤ (x -ℤ pos 1) +ℤ l.rest) <ℤ pos 0 → IsDark l u → MeetsUpper x u
dark_pair x l u p q h d = by x l.factor l.rest u.factor u.rest p q h d (cases_ℤ u.rest (u.factor *ℤ x))
  where
    by : (x a f b g : ℤ) → pos 0 <ℤ a → pos 0 <ℤ b → (a *ℤ (x -ℤ pos 1) +ℤ f) <ℤ pos 0 → ((a -ℤ pos 1) *ℤ (b -ℤ pos 1)) ≤ℤ (a *ℤ g +ℤ b *ℤ f)
        → (g <ℤ (b *ℤ x)) ⊎ ((g ≡ b *ℤ x) ⊎ ((b *ℤ x) <ℤ g)) → (b *ℤ x) ≤ℤ g
    by x a f b g p q h d (inr (inl e)) = omega (arith, linear)
    by x a f b g p q h d (inr (inr e)) = omega (arith, linear)
    by x a f b g p q h d (inl k) = absurd (clash x a f b g p q h d k)
      where
        clash : (x a f b g : ℤ) → pos 0 <ℤ a → pos 0 <ℤ b → (a *ℤ (x -ℤ pos 1) +ℤ f) <ℤ pos 0 → ((a -ℤ pos 1) *ℤ (b -ℤ pos 1)) ≤ℤ (a *ℤ g +ℤ b *ℤ f) → g <ℤ (b *ℤ x) → ⊥
        clash x a f b g p q h d k =
            let h' = simp expand at (*ℤ-≤ℤ b (a *ℤ (x -ℤ pos 1) +ℤ f +ℤ pos 1) (pos 0) (omega (arith, linear)) (omega (arith, linear))) in
            let k' = simp expand at (*ℤ-≤ℤ a (g +ℤ pos 1) (b *ℤ x) (omega (arith, linear)) (omega (arith, linear))) in
            let d' = simp expand at d in
            omega (arith, linear)

-- where the pair's coefficient is 1 on one side, the real shadow is the dark one
pub exact_pair : (l u : Bound) → (l.factor ≡ pos 1) ⊎ (u.factor ≡ pos 1) → IsReal l u → IsDark l u
exact_pair l u c h = by (l.factor) (u.factor) (together l u) c h
  where
    by : (a b w : ℤ) → (a ≡ pos 1) ⊎ (b ≡ pos 1) → pos 0 ≤ℤ w → ((a -ℤ pos 1) *ℤ (b -ℤ pos 1)) ≤ℤ w
    by a b w (inl e) h = rw e (omega (arith, linear))
    by a b w (inr e) h = rw e (omega (arith, linear))

-- ---- the end of the lower bounds

-- the least x that meets a lower bound
pub least_above : (l : Bound) → IsPositive l → (x : ℤ) × MeetsLower x l × ((l.factor *ℤ (x -ℤ pos 1) +ℤ l.rest) <ℤ pos 0)
least_above l p =
    let q = floor_div l.rest l.factor in
    let s = floor_split l.rest l.factor p in
    let b = floor_mod_bounds l.rest l.factor p in
    (neg_ℤ q, simp expand (omega (arith, linear)), simp expand (omega (arith, linear)))

-- the greatest x that meets an upper bound
pub greatest_below : (u : Bound) → IsPositive u → (x : ℤ) × MeetsUpper x u × (u.rest <ℤ (u.factor *ℤ (x +ℤ pos 1)))
greatest_below u p =
    let s = floor_split u.rest u.factor p in
    let b = floor_mod_bounds u.rest u.factor p in
    (floor_div u.rest u.factor, omega (arith, linear), simp expand (omega (arith, linear)))

-- where y is not below x, it meets a lower bound that x meets
pub lower_holds_on : (x y : ℤ) (l : Bound) → IsPositive l → x ≤ℤ y → MeetsLower x l → MeetsLower y l
lower_holds_on x y l p h m = let t = *ℤ-≤ℤ l.factor x y (omega (arith, linear)) h in omega (arith, linear)

-- where y is not above x, it meets an upper bound that x meets
pub upper_holds_on : (x y : ℤ) (u : Bound) → IsPositive u → y ≤ℤ x → MeetsUpper x u → MeetsUpper y u
upper_holds_on x y u p h m = let t = *ℤ-≤ℤ u.factor y x (omega (arith, linear)) h in omega (arith, linear)

-- x is the least that meets all the lower bounds, and no lesser number meets `bound`, which is one of them
pub record LowerEnd (lowers : List Bound) : Type 0 where
  pub x : ℤ
  pub bound : Bound
  pub among : Contains lowers bound
  pub least : (bound.factor *ℤ (x -ℤ pos 1) +ℤ bound.rest) <ℤ pos 0
  pub meets : All (MeetsLower x) lowers

pub lower_end : (l : Bound) (ls : List Bound) → All IsPositive (l ∷ ls) → LowerEnd (l ∷ ls)
lower_end l [] p =
    let own = least_above l (All-head IsPositive l [] p) in
    record {
      x = own.0;
      bound = l;
      among = (0, omega arith, refl);
      least = own.2;
      meets = All-cons (MeetsLower own.0) l [] own.1 (All-nil (MeetsLower own.0));
    }
lower_end l (m ∷ ms) p =
    let first = All-head IsPositive l (m ∷ ms) p in
    let others = All-tail IsPositive l (m ∷ ms) p in
    joined l (m ∷ ms) first others (lower_end m ms others)
  where
    joined : (l : Bound) (ms : List Bound) → IsPositive l → All IsPositive ms → LowerEnd ms → LowerEnd (l ∷ ms)
    joined l ms first others e = elim (at_most_or_above (pos 0) (l.factor *ℤ e.x +ℤ l.rest)) [
      | inl h ↦ record {
        x = e.x;
        bound = e.bound;
        among = Contains-later l ms e.bound e.among;
        least = e.least;
        meets = All-cons (MeetsLower e.x) l ms h e.meets;
      }
      | inr h ↦ let own = least_above l first in
          let before : e.x <ℤ own.0 = (let o = own.1 in <ℤ-from_*ℤ l.factor e.x own.0 (omega (arith, linear)) (omega (arith, linear))) in
          record {
            x = own.0;
            bound = l;
            among = (0, omega arith, refl);
            least = own.2;
            meets = All-cons (MeetsLower own.0) l ms own.1 (λ k d i. lower_holds_on e.x own.0 (get_or ms k d) (others k d i) (omega (arith, linear)) (e.meets k d i));
          }
    ]

-- ---- the theorem of the dark shadow

-- where no lower bound is there, numbers far below meet the upper ones
pub far_below : (uppers : List Bound) → All IsPositive uppers → (x : ℤ) × All (MeetsUpper x) uppers
far_below [] p = (pos 0, All-nil (MeetsUpper (pos 0)))
far_below (u ∷ us) p =
    let own = greatest_below u (All-head IsPositive u us p) in
    let others = All-tail IsPositive u us p in
    let rest = far_below us others in
    elim (at_most_or_above own.0 rest.0) [
      | inl h ↦ (own.0, All-cons (MeetsUpper own.0) u us own.1 (λ k d i. upper_holds_on rest.0 own.0 (get_or us k d) (others k d i) h (rest.1 k d i)))
      | inr h ↦ (rest.0, All-cons (MeetsUpper rest.0) u us (upper_holds_on own.0 rest.0 u (All-head IsPositive u us p) (omega (arith, linear)) own.1) rest.1)
    ]

-- where no upper bound is there, numbers far above meet the lower ones
pub far_above : (lowers : List Bound) → All IsPositive lowers → (x : ℤ) × All (MeetsLower x) lowers
far_above [] p = (pos 0, All-nil (MeetsLower (pos 0)))
far_above (l ∷ ls) p = let e = lower_end l ls p in (e.x, e.meets)

-- where each pair of a lower and an upper bound is dark, some whole x meets them all: the least that meets the lower ones
pub dark_shadow : (lowers uppers : List Bound) → All IsPositive lowers → All IsPositive uppers → All (λ l. All (IsDark l) uppers) lowers
    → (x : ℤ) × All (MeetsLower x) lowers × All (MeetsUpper x) uppers
dark_shadow [] uppers p q d = let far = far_below uppers q in (far.0, All-nil (MeetsLower far.0), far.1)
dark_shadow (l ∷ ls) uppers p q d =
    let e = lower_end l ls p in
    let proper = All-contains IsPositive (l ∷ ls) e.bound p e.among in
    let darks = All-contains (λ b. All (IsDark b) uppers) (l ∷ ls) e.bound d e.among in
    (e.x, e.meets, (λ k z i. dark_pair e.x e.bound (get_or uppers k z) proper (q k z i) e.least (darks k z i)))

-- ---- splinters

-- where x meets both bounds, the pair is dark or b (a x + f) is at most a b - a - b
pub splinter : (x : ℤ) (l u : Bound) → IsPositive l → IsPositive u → MeetsLower x l → MeetsUpper x u
    → IsDark l u ⊎ ((u.factor *ℤ (l.factor *ℤ x +ℤ l.rest)) ≤ℤ (l.factor *ℤ u.factor -ℤ l.factor -ℤ u.factor))
splinter x l u p q h k = elim (at_most_or_above (slack l u) (together l u)) [
  | inl d ↦ inl d
  | inr d ↦ inr (by x l.factor l.rest u.factor u.rest p k d)
]
  where
    by : (x a f b g : ℤ) → pos 0 <ℤ a → (b *ℤ x) ≤ℤ g → (a *ℤ g +ℤ b *ℤ f) <ℤ ((a -ℤ pos 1) *ℤ (b -ℤ pos 1)) → (b *ℤ (a *ℤ x +ℤ f)) ≤ℤ (a *ℤ b -ℤ a -ℤ b)
    by x a f b g p k d =
        let k' = simp expand at (*ℤ-≤ℤ a (b *ℤ x) g (omega (arith, linear)) k) in
        let d' = simp expand at d in
        simp expand (omega (arith, linear))

-- it does not fall where m rises: so the greatest upper factor covers each upper bound
pub splinter_covered : (a b m v : ℤ) → pos 0 <ℤ a → pos 0 <ℤ b → b ≤ℤ m → (b *ℤ v) ≤ℤ (a *ℤ b -ℤ a -ℤ b) → v ≤ℤ last_splinter a m
splinter_covered a b m v p q h s =
    let short : (b *ℤ v) <ℤ (b *ℤ (a -ℤ pos 1)) = (let s' = simp expand at s in simp expand (omega (arith, linear))) in
    let room = <ℤ-from_*ℤ b v (a -ℤ pos 1) (omega (arith, linear)) short in
    let more = simp expand at (*ℤ-≤ℤ (a -ℤ pos 1 -ℤ v) b m (omega (arith, linear)) h) in
    let top = (at_most_floor (neg_ℤ a) m (v -ℤ (a -ℤ pos 1)) (omega (arith, linear))).1 (let s' = simp expand at s in simp expand (omega (arith, linear))) in
    omega (arith, linear)

-- where what the pair leaves without x is at most c, the lower bound's value is at most c / b
pub splinter_capped : (x c : ℤ) (l u : Bound) → IsPositive l → IsPositive u → MeetsUpper x u → together l u ≤ℤ c → (l.factor *ℤ x +ℤ l.rest) ≤ℤ floor_div c u.factor
splinter_capped x c l u p q k h = (at_most_floor c u.factor (l.factor *ℤ x +ℤ l.rest) q).1 (by x l.factor l.rest u.factor u.rest c p k h)
  where
    by : (x a f b g c : ℤ) → pos 0 <ℤ a → (b *ℤ x) ≤ℤ g → (a *ℤ g +ℤ b *ℤ f) ≤ℤ c → (b *ℤ (a *ℤ x +ℤ f)) ≤ℤ c
    by x a f b g c p k h =
        let k' = simp expand at (*ℤ-≤ℤ a (b *ℤ x) g (omega (arith, linear)) k) in
        let h' = simp expand at h in
        simp expand (omega (arith, linear))
