-- A column negated: what bounds say of x they say of -x, and the splinters that they ask for.
use Rattle.std.proofs.Common.{◌≡◌, ◌↔◌, ◌∙◌, refl, sym, ap, subst, map, arith, ℕ, zero, suc, ◌+◌, ◌-◌, ◌<◌, ◌≤◌, ℤ, pos, neg_ℤ, ◌+ℤ◌, ◌-ℤ◌, ◌*ℤ◌, ◌≤ℤ◌, ◌<ℤ◌, ◌*◌, List, [], ◌∷◌, ◌++◌, length, set, get_or, take, unsigned_abs, ◌⊎◌, inl, inr, ◌^◌, Result, Ok, Err, MatchResult}
use Rattle.std.specs.List.{All, insert, remove}
use Rattle.std.proofs.lemmas.List.{get_or-set_same, length-set, get_or-map, length-map, map-append}
use Rattle.std.proofs.lemmas.List.Elements.{All-set, All-map, All-weaker, All-head, All-tail, All-push}
use Rattle.isl_math.specs.Dot.{dot}
use Rattle.isl_math.specs.Order.{abs_of}
use Rattle.isl_math.proofs.Ring.{expand, linear}
use Rattle.isl_math.proofs.ListLaws.{All-parts}
use Rattle.isl_math.proofs.MagnitudeLaws.{up_to-neg}
use Rattle.isl_meter.specs.Gauge.{Gauge, IsWithin}
use Rattle.isl_piece.specs.declared.row.Row.{Row}
use Rattle.isl_piece.specs.Row.{HoldsValue, HoldsRow, value_at, coef_at, IsRowUpTo}
use Rattle.isl_omega.specs.Column.{rest_at, HoldAt, IsProper}
use Rattle.isl_omega.specs.Sides.{IsLower, IsUpper, AreSided, SidesHold}
use Rattle.isl_omega.specs.declared.sides.Sides.{Sides}
use Rattle.isl_omega.specs.Magnitude.{AreSidesUpTo}
use Rattle.isl_omega.specs.Shadow.{splinters}
use Rattle.isl_omega.proofs.ColumnLemmas.{value_at-insert, hold_anywhere}
use Rattle.isl_omega.proofs.Splinters.{splinters_rise}
use Rattle.isl_omega.proofs.SmallLemmas.{coef_up_to}
use Rattle.isl_shadows.specs.Splinters.{splinter_total}
use Rattle.isl_shadows.specs.Mirror.{mirrored_row, mirrored, AskForFewer}
use Rattle.isl_shadows.proofs.DarkShadowLemmas.{splinter_total_not_negative}

-- ---- one row
pub coef_mirrored : (r : Row) (col : ℕ) → col < length r.coefs → coef_at (mirrored_row col r) col ≡ neg_ℤ (coef_at r col)
coef_mirrored r col h = get_or-set_same r.coefs col (neg_ℤ (coef_at r col)) (pos 0) h

remove-set : (xs : List ℤ) (i : ℕ) (v : ℤ) → remove (set xs i v) i ≡ remove xs i
remove-set [] i v = refl
remove-set (x ∷ xs) zero v = refl
remove-set (x ∷ xs) (suc i) v = ap (λ ys. x ∷ ys) (remove-set xs i v)

rest_mirrored : (r : Row) (col : ℕ) (point : List ℤ) → rest_at (mirrored_row col r) col point ≡ rest_at r col point
rest_mirrored r col point = ap (λ cs. dot cs point +ℤ r.constant) (remove-set r.coefs col (neg_ℤ (coef_at r col)))

-- the value at x is the value of the row at -x
value_mirrored : (r : Row) (col : ℕ) (point : List ℤ) (x : ℤ) → col < length r.coefs → col ≤ length point
    → value_at (mirrored_row col r) (insert point col x) ≡ value_at r (insert point col (neg_ℤ x))
value_mirrored r col point x h k =
    let wide : col < length (set r.coefs col (neg_ℤ (coef_at r col))) = rw (length-set r.coefs col (neg_ℤ (coef_at r col))) h in
    let here = value_at-insert (mirrored_row col r) col point x wide k in
    let there = value_at-insert r col point (neg_ℤ x) h k in
    here ∙ by (coef_at (mirrored_row col r) col) (coef_at r col) x (rest_at (mirrored_row col r) col point) (rest_at r col point)
    (coef_mirrored r col h) (rest_mirrored r col point) ∙ sym there
  where
    by : (d c x f e : ℤ) → d ≡ neg_ℤ c → f ≡ e → d *ℤ x +ℤ f ≡ c *ℤ neg_ℤ x +ℤ e
    by d c x f e p q = rw (p, q) (simp expand (omega (arith, linear)))

proper_mirrored : (g : Gauge) (columns col : ℕ) (r : Row) → col < columns → IsProper g columns r → IsProper g columns (mirrored_row col r)
proper_mirrored g columns col r l p =
    let wide : col < length r.coefs = rw (p.formed.width) l in
    record {
      formed = record { width = length-set r.coefs col (neg_ℤ (coef_at r col)) ∙ p.formed.width; modulus = p.formed.modulus };
      within = record {
        coefs = All-set (IsWithin g) r.coefs col (neg_ℤ (coef_at r col)) (negated (coef_at r col) (2 ^ g.bits) (p.within.coefs col (pos 0) wide)) p.within.coefs;
        constant = p.within.constant;
        k = p.within.k;
      };
    }
  where
    negated : (c : ℤ) (n : ℕ) → unsigned_abs c < n → unsigned_abs (neg_ℤ c) < n
    negated c n h = omega (arith, linear)

lower_mirrored : (g : Gauge) (columns col : ℕ) (r : Row) → col < columns → IsUpper g columns col r → IsLower g columns col (mirrored_row col r)
lower_mirrored g columns col r l u =
    let wide : col < length r.coefs = rw (u.proper.formed.width) l in
    record {
      proper = proper_mirrored g columns col r l u.proper;
      kind = u.kind;
      factor = rw (coef_mirrored r col wide) (let f = u.factor in omega (arith, linear));
    }

upper_mirrored : (g : Gauge) (columns col : ℕ) (r : Row) → col < columns → IsLower g columns col r → IsUpper g columns col (mirrored_row col r)
upper_mirrored g columns col r l u =
    let wide : col < length r.coefs = rw (u.proper.formed.width) l in
    record {
      proper = proper_mirrored g columns col r l u.proper;
      kind = u.kind;
      factor = rw (coef_mirrored r col wide) (let f = u.factor in omega (arith, linear));
    }

up_to_mirrored : (b col : ℕ) (r : Row) → IsRowUpTo b r → IsRowUpTo b (mirrored_row col r)
up_to_mirrored b col r h = record {
  coefs = All-set (λ c. unsigned_abs c ≤ b) r.coefs col (neg_ℤ (coef_at r col)) (up_to-neg b (coef_at r col) (coef_up_to b r col h)) h.coefs;
  constant = h.constant;
  k = h.k;
}

-- ---- bounds
holds_mirrored : (r : Row) (col : ℕ) (point : List ℤ) (x : ℤ) → col < length r.coefs → col ≤ length point
    → HoldsRow (mirrored_row col r) (insert point col x) ↔ HoldsRow r (insert point col (neg_ℤ x))
holds_mirrored r col point x h k = let e = value_mirrored r col point x h k in (
  (λ m. subst (λ z. HoldsValue r.kind r.k z) e m),
  (λ m. subst (λ z. HoldsValue r.kind r.k z) (sym e) m),
)

hold_mirrored : (g : Gauge) (columns col : ℕ) (rows : List Row) (point : List ℤ) (x : ℤ) → col < columns → length point ≡ columns - 1
    → All (IsProper g columns) rows → HoldAt (map (mirrored_row col) rows) col point x ↔ HoldAt rows col point (neg_ℤ x)
hold_mirrored g columns col rows point x l n p = (
  (λ m i d k. (one i d k).0 (subst (λ r. HoldsRow r (insert point col x)) (get_or-map (mirrored_row col) rows i d (mirrored_row col d) k)
      (m i (mirrored_row col d) (let e = length-map rows (mirrored_row col) in omega arith)))),
  (λ m. All-map (λ r. HoldsRow r (insert point col x)) (mirrored_row col) rows (λ i d k. (one i d k).1 (m i d k))),
)
  where
    one : (i : ℕ) (d : Row) (k : i < length rows)
        → HoldsRow (mirrored_row col (get_or rows i d)) (insert point col x) ↔ HoldsRow (get_or rows i d) (insert point col (neg_ℤ x))
    one i d k = holds_mirrored (get_or rows i d) col point x (let e = (p i d k).formed.width in omega arith) (omega arith)

pub twice : (x : ℤ) → neg_ℤ (neg_ℤ x) ≡ x
twice x = omega (arith, linear)

-- ---- sides
pub sided_mirrored : (g : Gauge) (columns col : ℕ) (sides : Sides) → col < columns → AreSided g columns col sides
    → AreSided g columns col (mirrored col sides)
sided_mirrored g columns col sides l s = record {
  lowers = All-map (IsLower g columns col) (mirrored_row col) sides.uppers
      (All-weaker (IsUpper g columns col) (λ r. IsLower g columns col (mirrored_row col r)) (λ r u. lower_mirrored g columns col r l u) sides.uppers s.uppers);
  uppers = All-map (IsUpper g columns col) (mirrored_row col) sides.lowers
      (All-weaker (IsLower g columns col) (λ r. IsUpper g columns col (mirrored_row col r)) (λ r u. upper_mirrored g columns col r l u) sides.lowers s.lowers);
  divides = s.divides;
  not_divides = s.not_divides;
  free = s.free;
}

pub up_to_mirrored_sides : (b col : ℕ) (sides : Sides) → AreSidesUpTo b sides → AreSidesUpTo b (mirrored col sides)
up_to_mirrored_sides b col sides h = record {
  lowers = All-map (IsRowUpTo b) (mirrored_row col) sides.uppers
      (All-weaker (IsRowUpTo b) (λ r. IsRowUpTo b (mirrored_row col r)) (λ r u. up_to_mirrored b col r u) sides.uppers h.uppers);
  uppers = All-map (IsRowUpTo b) (mirrored_row col) sides.lowers
      (All-weaker (IsRowUpTo b) (λ r. IsRowUpTo b (mirrored_row col r)) (λ r u. up_to_mirrored b col r u) sides.lowers h.lowers);
  divides = h.divides;
  not_divides = h.not_divides;
  free = h.free;
}

pub sides_mirrored : (g : Gauge) (columns col : ℕ) (sides : Sides) (point : List ℤ) (x : ℤ) → col < columns → length point ≡ columns - 1
    → AreSided g columns col sides → sides.divides ≡ [] → sides.not_divides ≡ []
    → SidesHold (mirrored col sides) col point x → SidesHold sides col point (neg_ℤ x)
sides_mirrored g columns col sides point x l n s no_divides no_not_divides h = record {
  lowers = (hold_mirrored g columns col sides.lowers point x l n (All-weaker (IsLower g columns col) (IsProper g columns) (λ r p. p.proper) sides.lowers s.lowers)).0 h.uppers;
  uppers = (hold_mirrored g columns col sides.uppers point x l n (All-weaker (IsUpper g columns col) (IsProper g columns) (λ r p. p.proper) sides.uppers s.uppers)).0 h.lowers;
  divides = rw no_divides none;
  not_divides = rw no_not_divides none;
  free = hold_anywhere columns col sides.free point x (neg_ℤ x) l n (λ i d k. (s.free i d k).proper.formed) (λ i d k. (s.free i d k).free) h.free;
}
  where
    none : HoldAt [] col point (neg_ℤ x)
    none = λ i d k. absurd (omega arith)

pub mirrored_sides_back : (g : Gauge) (columns col : ℕ) (sides : Sides) (point : List ℤ) (x : ℤ) → col < columns → length point ≡ columns - 1
    → AreSided g columns col sides → sides.divides ≡ [] → sides.not_divides ≡ []
    → SidesHold sides col point x → SidesHold (mirrored col sides) col point (neg_ℤ x)
mirrored_sides_back g columns col sides point x l n s no_divides no_not_divides h = record {
  lowers = (hold_mirrored g columns col sides.uppers point (neg_ℤ x) l n (All-weaker (IsUpper g columns col) (IsProper g columns) (λ r p. p.proper) sides.uppers s.uppers)).1 (rw (twice x) h.uppers);
  uppers = (hold_mirrored g columns col sides.lowers point (neg_ℤ x) l n (All-weaker (IsLower g columns col) (IsProper g columns) (λ r p. p.proper) sides.lowers s.lowers)).1 (rw (twice x) h.lowers);
  divides = rw no_divides none;
  not_divides = rw no_not_divides none;
  free = hold_anywhere columns col sides.free point x (neg_ℤ x) l n (λ i d k. (s.free i d k).proper.formed) (λ i d k. (s.free i d k).free) h.free;
}
  where
    none : HoldAt [] col point (neg_ℤ x)
    none = λ i d k. absurd (omega arith)

-- ---- how many splinters bounds ask for
pub splinter_total-push : (m : ℤ) (col : ℕ) (lowers : List Row) (l : Row)
    → splinter_total (pos 0) m col (lowers ++ l ∷ []) ≡ splinter_total (pos 0) m col lowers +ℤ splinters (coef_at l col) m
splinter_total-push m col [] l = omega (arith, linear)
splinter_total-push m col (k ∷ lowers) l = let rest = splinter_total-push m col lowers l in omega (arith, linear, rest)

-- it rises with the greatest factor
splinter_total_rises : (g : Gauge) (columns col : ℕ) (m n : ℤ) (lowers : List Row) → pos 0 <ℤ m → m ≤ℤ n → All (IsLower g columns col) lowers
    → splinter_total (pos 0) m col lowers ≤ℤ splinter_total (pos 0) n col lowers
splinter_total_rises g columns col m n [] p q h = omega (arith, linear)
splinter_total_rises g columns col m n (l ∷ lowers) p q h =
    let first = splinters_rise (coef_at l col) (coef_at l col) m n (All-head (IsLower g columns col) l lowers h).factor (omega (arith, linear)) p q in
    let rest = splinter_total_rises g columns col m n lowers p q (All-tail (IsLower g columns col) l lowers h) in
    omega (arith, linear, first, rest)

-- from what the code finds: the greatest factors of both sides, the splinters of one lower bound, and those of the upper bounds
pub fewer_from : (g : Gauge) (columns col : ℕ) (sides : Sides) (of_lowers of_uppers most : ℤ) → AreSided g columns col sides
    → pos 0 <ℤ of_lowers → pos 0 <ℤ of_uppers
    → All (λ r. abs_of (coef_at r col) ≤ℤ of_lowers) sides.lowers
    → ((m : ℤ) → pos 0 ≤ℤ m → All (λ r. abs_of (coef_at r col) ≤ℤ m) sides.uppers → of_uppers ≤ℤ m)
    → most ≤ℤ splinter_total (pos 0) of_uppers col sides.lowers
    → splinter_total (pos 0) of_lowers col (map (mirrored_row col) sides.uppers) ≤ℤ most
    → AskForFewer col sides.lowers sides.uppers
fewer_from g columns col sides of_lowers of_uppers most s p q greatest least many few = record {
  factor = of_lowers;
  positive = p;
  greatest = λ i d k. at_most (coef_at (get_or sides.lowers i d) col) of_lowers (greatest i d k);
  fewer = λ m r u.
      let high = least m (omega (arith, linear, r)) (λ i d k. negative (coef_at (get_or sides.uppers i d) col) m (s.uppers i d k).factor (u i d k)) in
      let rises = splinter_total_rises g columns col of_uppers m sides.lowers q high s.lowers in
      omega (arith, linear, many, few, rises);
}
  where
    at_most : (c a : ℤ) → abs_of c ≤ℤ a → c ≤ℤ a
    at_most c a h = omega (arith, linear, h)

    negative : (c m : ℤ) → c <ℤ pos 0 → neg_ℤ c ≤ℤ m → abs_of c ≤ℤ m
    negative c m h k = omega (arith, linear, h, k)

-- ---- what the loops find, one bound more
-- the greatest factor
pub greatest_more : (col i : ℕ) (bounds : List Row) (u : Row) (old new : ℤ) → take (i + 1) bounds ≡ take i bounds ++ u ∷ []
    → pos 0 ≤ℤ old → All (λ r. abs_of (coef_at r col) ≤ℤ old) (take i bounds)
    → ((m : ℤ) → pos 0 ≤ℤ m → All (λ r. abs_of (coef_at r col) ≤ℤ m) (take i bounds) → old ≤ℤ m)
    → ((old <ℤ abs_of (coef_at u col)) × (new ≡ abs_of (coef_at u col))) ⊎ ((¬ (old <ℤ abs_of (coef_at u col))) × (new ≡ old))
    → (pos 0 ≤ℤ new) × All (λ r. abs_of (coef_at r col) ≤ℤ new) (take (i + 1) bounds)
    × ((m : ℤ) → pos 0 ≤ℤ m → All (λ r. abs_of (coef_at r col) ≤ℤ m) (take (i + 1) bounds) → new ≤ℤ m)
greatest_more col i bounds u old new is p h least cases = rw is (
  signs cases,
  All-push (λ r. abs_of (coef_at r col) ≤ℤ new) (take i bounds) u (λ k d n. bound (abs_of (coef_at (get_or (take i bounds) k d) col)) (h k d n) cases) (own cases),
  (λ m q a. let parts = All-parts (λ r. abs_of (coef_at r col) ≤ℤ m) (take i bounds) (u ∷ []) a in
      fewest m (least m q parts.0) (All-head (λ r. abs_of (coef_at r col) ≤ℤ m) u [] parts.1) cases),
)
  where
    Cases : Type 0
    Cases = ((old <ℤ abs_of (coef_at u col)) × (new ≡ abs_of (coef_at u col))) ⊎ ((¬ (old <ℤ abs_of (coef_at u col))) × (new ≡ old))

    signs : Cases → pos 0 ≤ℤ new
    signs (inl c) = rw (c.1) (let a = c.0 in omega (arith, linear, a, p))
    signs (inr c) = rw (c.1) p

    bound : (z : ℤ) → z ≤ℤ old → Cases → z ≤ℤ new
    bound z q (inl c) = rw (c.1) (let a = c.0 in omega (arith, linear, a, q))
    bound z q (inr c) = rw (c.1) q

    own : Cases → abs_of (coef_at u col) ≤ℤ new
    own (inl c) = rw (c.1) (omega (arith, linear))
    own (inr c) = rw (c.1) (let a = c.0 in omega (arith, linear, a))

    fewest : (m : ℤ) → old ≤ℤ m → abs_of (coef_at u col) ≤ℤ m → Cases → new ≤ℤ m
    fewest m a b (inl c) = rw (c.1) b
    fewest m a b (inr c) = rw (c.1) a

-- the splinters of the lower bound that asks for most
pub most_more : (g : Gauge) (columns col i : ℕ) (m : ℤ) (lowers : List Row) (u : Row) (old new own : ℤ) → take (i + 1) lowers ≡ take i lowers ++ u ∷ []
    → pos 0 <ℤ m → All (IsLower g columns col) (take i lowers) → own ≡ splinters (coef_at u col) m → pos 0 ≤ℤ own
    → old ≤ℤ splinter_total (pos 0) m col (take i lowers) → (new ≡ own) ⊎ (new ≡ old)
    → new ≤ℤ splinter_total (pos 0) m col (take (i + 1) lowers)
most_more g columns col i m lowers u old new own is p h e q so_far cases =
    rw (is, splinter_total-push m col (take i lowers) u, ← e) (by cases)
  where
    by : (new ≡ own) ⊎ (new ≡ old) → new ≤ℤ (splinter_total (pos 0) m col (take i lowers) +ℤ own)
    by (inl c) = rw c (let n = splinter_total_not_negative g columns col (pos 0) m (take i lowers) (omega (arith, linear)) p h in omega (arith, linear, n))
    by (inr c) = rw c (omega (arith, linear, so_far, q))

-- the splinters of upper bounds, mirrored
pub left_more : (col i : ℕ) (m : ℤ) (uppers : List Row) (u : Row) (most left own : ℤ) → take (i + 1) uppers ≡ take i uppers ++ u ∷ []
    → col < length u.coefs → own ≡ splinters (neg_ℤ (coef_at u col)) m
    → (splinter_total (pos 0) m col (map (mirrored_row col) (take i uppers)) +ℤ left) ≤ℤ most
    → (splinter_total (pos 0) m col (map (mirrored_row col) (take (i + 1) uppers)) +ℤ (left -ℤ own)) ≤ℤ most
left_more col i m uppers u most left own is wide e so_far =
    rw (is, map-append (mirrored_row col) (take i uppers) (u ∷ []), splinter_total-push m col (map (mirrored_row col) (take i uppers)) (mirrored_row col u), coef_mirrored u col wide, ← e)
    (omega (arith, linear, so_far))

-- an answer that is sure to come, and what follows of it
pub sure_more : {A E : Type 0} (P Q : A → Type 0) (result : Result A E) → ((v : A) → P v → Q v) → MatchResult result P (λ _. ⊥) → MatchResult result Q (λ _. ⊥)
sure_more P Q (Ok v) f h = f v h
sure_more P Q (Err e) f h = h

-- a number of at least 0 less another one of at least 0 that is no greater
pub less_within : (g : Gauge) (a b : ℤ) → pos 0 ≤ℤ b → b ≤ℤ a → IsWithin g a → (pos 0 ≤ℤ (a -ℤ b)) × IsWithin g (a -ℤ b)
less_within g a b h k w = (omega (arith, linear, h, k), by (2 ^ g.bits) w)
  where
    by : (n : ℕ) → unsigned_abs a < n → unsigned_abs (a -ℤ b) < n
    by n w = omega (arith, linear, h, k, w)
