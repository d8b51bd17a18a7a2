-- What the code that makes a row normal wants, for `using`.
use Rattle.std.proofs.Common.{◌≡◌, ◌≢◌, refl, sym, ap, ◌∙◌, arith, ℕ, suc, ◌<◌, ◌≤◌, ◌^◌, ◌-◌, ℤ, pos, negsuc, neg_ℤ, ◌*ℤ◌, ◌≤ℤ◌, ◌<ℤ◌, List, [], ◌∷◌, ◌++◌, Bool, true, false, cond, int_lt, length, get_or, drop, drop-cons, add-one, ◌+◌}
use Rattle.std.specs.List.{All}
use Rattle.std.specs.Cmp.{int_ranked}
use Rattle.std.specs.Cmp.Lexicographic.{slice_cmp}
use Rattle.std.specs.Ordering.{MatchOrdering, int_cmp, is_lt, ordering_then}
use Rattle.std.specs.declared.cmp.Ordering.{Ordering}
use Rattle.std.specs.declared.cmp.Ordering.TheVariants.{Less, Equal, Greater}
use Rattle.std.proofs.lemmas.Grind.{common_steps}
use Rattle.std.proofs.lemmas.List.{get_or_read}
use Rattle.std.proofs.lemmas.List.Elements.{All-weaker}
use Rattle.isl_math.specs.Divide.{floor_div, floor_mod, Divides}
use Rattle.isl_math.specs.Dot.{scaled}
use Rattle.isl_math.specs.Gcd.{content}
use Rattle.isl_math.specs.Order.{sign_of}
use Rattle.isl_math.proofs.Ring.{linear}
use Rattle.isl_math.proofs.DivideLaws.{divisor_positive}
use Rattle.isl_math.proofs.MagnitudeLaws.{IsUpTo, up_to-floor_div, up_to-floor_mod}
use Rattle.isl_meter.proofs.LimitLemmas.{within_up_to, up_to_within}
use Rattle.isl_meter.specs.Gauge.{Gauge, IsWithin}
use Rattle.isl_piece.specs.declared.row.RowKind.TheVariants.{Zero, AtLeast, Divides as KindDivides}
use Rattle.isl_piece.specs.declared.row.RowKind.{RowKind}
use Rattle.isl_piece.specs.declared.row.Row.{Row}
use Rattle.isl_piece.specs.Row.{IsRowWithin}
use Rattle.isl_piece.specs.Normal.{Always, Never, Kept}
use Rattle.isl_piece.specs.Numbers.{divided, reduced, opposite, lead}
use Rattle.isl_piece.specs.Normal.{normal_zero, normal_at_least, normal_divides, upright, bound, congruence, lesser, opposite_row, numbers_of}
use Rattle.isl_piece.proofs.NumberLaws.{positive-divided, IsUpTo-divided, IsUpTo-reduced, IsUpTo-opposite}
use Rattle.isl_piece.proofs.ContentLaws.{content-divided, lead_not_zero, scaled_one, sign_of_positive}
use Rattle.isl_piece.proofs.NormalCases.{common_part, divided_congruence, normal_zero-always, normal_zero-never, normal_zero-apart, normal_zero-kept, normal_at_least-always, normal_at_least-never, normal_at_least-kept, normal_divides-always, normal_divides-never, normal_divides-kept, content_positive, int_lt-true, int_lt-false}

-- ---- within the limit
pub All-IsWithin-divided : (m : Gauge) (g : ℤ) (xs : List ℤ) → pos 0 <ℤ g → All (IsWithin m) xs → All (IsWithin m) (divided g xs)
All-IsWithin-divided m g xs p h = All-weaker (IsUpTo (2 ^ m.bits - 1)) (IsWithin m) (up_to_within m) (divided g xs) (IsUpTo-divided (2 ^ m.bits - 1) g xs p (All-weaker (IsWithin m) (IsUpTo (2 ^ m.bits - 1)) (within_up_to m) xs h))

pub All-IsWithin-reduced : (m : Gauge) (k : ℤ) (xs : List ℤ) → pos 0 <ℤ k → IsWithin m k → All (IsWithin m) (reduced k xs)
All-IsWithin-reduced m k xs p h = All-weaker (IsUpTo (2 ^ m.bits - 1)) (IsWithin m) (up_to_within m) (reduced k xs) (IsUpTo-reduced (2 ^ m.bits - 1) k xs p (within_up_to m k h))

pub All-IsWithin-opposite : (m : Gauge) (k : ℤ) (xs : List ℤ) → pos 0 <ℤ k → IsWithin m k → All (IsWithin m) (opposite k xs)
All-IsWithin-opposite m k xs p h = All-weaker (IsUpTo (2 ^ m.bits - 1)) (IsWithin m) (up_to_within m) (opposite k xs) (IsUpTo-opposite (2 ^ m.bits - 1) k xs p (within_up_to m k h))

pub above_zero : (z : ℤ) → pos 0 ≤ℤ z → z ≢ pos 0 → pos 0 <ℤ z
above_zero z h n = omega (arith, linear)

-- ---- a form that is 0
pub upright-negative : (cs : List ℤ) (c : ℤ) → lead cs <ℤ pos 0 → upright cs c ≡ (let r : Row = record { kind = Zero; coefs = scaled (negsuc 0) cs; constant = neg_ℤ c; k = pos 1 } in r)
upright-negative cs c h = by (sign_of (lead cs)) (sign_of_negative (lead cs) h)
  where
    sign_of_negative : (z : ℤ) → z <ℤ pos 0 → sign_of z ≡ negsuc 0
    sign_of_negative (pos z) p = absurd (omega (arith, linear))
    sign_of_negative (negsuc z) p = refl

    by : (s : ℤ) → s ≡ negsuc 0 → (let r : Row = record { kind = Zero; coefs = scaled s cs; constant = s *ℤ c; k = pos 1 } in r) ≡ (let r : Row = record { kind = Zero; coefs = scaled (negsuc 0) cs; constant = neg_ℤ c; k = pos 1 } in r)
    by s e = let f : negsuc 0 *ℤ c ≡ neg_ℤ c = omega (arith, linear) in rw (e, f) refl

pub upright-positive : (cs : List ℤ) (c : ℤ) → lead cs ≢ pos 0 → ¬ (lead cs <ℤ pos 0) → upright cs c ≡ (let r : Row = record { kind = Zero; coefs = cs; constant = c; k = pos 1 } in r)
upright-positive cs c n h = by (sign_of (lead cs)) (sign_of_positive (lead cs) (omega (arith, linear)))
  where
    by : (s : ℤ) → s ≡ pos 1 → (let r : Row = record { kind = Zero; coefs = scaled s cs; constant = s *ℤ c; k = pos 1 } in r) ≡ (let r : Row = record { kind = Zero; coefs = cs; constant = c; k = pos 1 } in r)
    by s e = let f : pos 1 *ℤ c ≡ c = omega (arith, linear) in rw (e, f, scaled_one cs) refl

pub lead-divided : (cs : List ℤ) → content cs ≢ pos 0 → lead (divided (content cs) cs) ≢ pos 0
lead-divided cs n = lead_not_zero (divided (content cs) cs) (λ e. let f = content-divided cs n in not_both (content (divided (content cs) cs)) f e)
  where
    not_both : (z : ℤ) → z ≡ pos 1 → z ≡ pos 0 → ⊥
    not_both z e f = omega (arith, linear)

pub row_is : (r : Row) (kind : RowKind) (cs : List ℤ) (c k : ℤ) → r.kind ≡ kind → r.coefs ≡ cs → r.constant ≡ c → r.k ≡ k → r ≡ (let s : Row = record { kind = kind; coefs = cs; constant = c; k = k } in s)
row_is r kind cs c k e f g h = by r.kind r.coefs r.constant r.k e f g h
  where
    by : (kind' : RowKind) (cs' : List ℤ) (c' k' : ℤ) → kind' ≡ kind → cs' ≡ cs → c' ≡ c → k' ≡ k → (let s : Row = record { kind = kind'; coefs = cs'; constant = c'; k = k' } in s) ≡ (let s : Row = record { kind = kind; coefs = cs; constant = c; k = k } in s)
    by kind' cs' c' k' e f g h = cc

-- a row stays as it is where its first number is positive already
pub upright_stays : (r : Row) → r.kind ≡ Zero → r.k ≡ pos 1 → lead r.coefs ≢ pos 0 → ¬ (lead r.coefs <ℤ pos 0) → r ≡ upright r.coefs r.constant
upright_stays r is one n h = row_is r Zero r.coefs r.constant (pos 1) is refl refl one ∙ sym (upright-positive r.coefs r.constant n h)

pub zero_kept : (cs : List ℤ) (c g : ℤ) (row : Row) → g ≡ content cs → g ≢ pos 0 → Divides g c → row ≡ upright (divided g cs) (floor_div c g) → normal_zero cs c ≡ Kept row
zero_kept cs c g row e n d is = normal_zero-kept cs c (λ z. n (e ∙ z)) (rw e at d) ∙ ap (λ x. Kept (upright (divided x cs) (floor_div c x))) (sym e) ∙ ap Kept (sym is)

pub at_least_kept : (cs : List ℤ) (c g : ℤ) (row : Row) → g ≡ content cs → g ≢ pos 0 → row.kind ≡ AtLeast → row.coefs ≡ divided g cs → row.constant ≡ floor_div c g → row.k ≡ pos 1 → normal_at_least cs c ≡ Kept row
at_least_kept cs c g row e n is f h one = normal_at_least-kept cs c (λ z. n (e ∙ z)) ∙ ap (λ x. Kept (bound (divided x cs) (floor_div c x))) (sym e) ∙ ap Kept (sym (row_is row AtLeast (divided g cs) (floor_div c g) (pos 1) is f h one))

pub ruleset upright_steps = (upright-negative, upright_stays)

pub ruleset zero_steps = (normal_zero-always, normal_zero-never, normal_zero-apart, lead-divided, above_zero)

pub ruleset bound_steps = (normal_at_least-always, normal_at_least-never, above_zero)

-- ---- a row within the limit
pub IsWithin-floor_div : (m : Gauge) (g z : ℤ) → pos 0 <ℤ g → IsWithin m z → IsWithin m (floor_div z g)
IsWithin-floor_div m g z p h = up_to_within m (floor_div z g) (up_to-floor_div (2 ^ m.bits - 1) z g p (within_up_to m z h))

pub IsWithin-floor_mod : (m : Gauge) (k z : ℤ) → pos 0 <ℤ k → IsWithin m k → IsWithin m (floor_mod z k)
IsWithin-floor_mod m k z p h = up_to_within m (floor_mod z k) (up_to-floor_mod (2 ^ m.bits - 1) z k p (within_up_to m k h))

pub IsRowWithin-divided : (m : Gauge) (r new : Row) (g : ℤ) → pos 0 <ℤ g → IsRowWithin m r → new ≡ record r { coefs = divided g r.coefs; constant = floor_div r.constant g } → IsRowWithin m new
IsRowWithin-divided m r new g p h e = rw e (record { coefs = All-IsWithin-divided m g r.coefs p h.coefs; constant = IsWithin-floor_div m g r.constant p h.constant; k = h.k })

pub IsRowWithin-reduced : (m : Gauge) (r new : Row) → pos 0 <ℤ r.k → IsRowWithin m r → new ≡ record r { coefs = reduced r.k r.coefs; constant = floor_mod r.constant r.k } → IsRowWithin m new
IsRowWithin-reduced m r new p h e = rw e (record { coefs = All-IsWithin-reduced m r.k r.coefs p h.k; constant = IsWithin-floor_mod m r.k r.constant p h.k; k = h.k })

pub ruleset row_steps = (IsRowWithin-divided, IsRowWithin-reduced)

-- ---- the lesser of a congruence and its opposite
-- how the opposite of the numbers, and of the constant after them, compares with them
abbrev pub opposite_order : ℤ → List ℤ → ℤ → Ordering
opposite_order k cs c = slice_cmp int_cmp (opposite k cs ++ floor_mod (neg_ℤ c) k ∷ []) (cs ++ c ∷ [])

same_order : (x y : ℤ) → x ≡ y → int_cmp x y ≡ Equal
same_order x y e = by (int_cmp x y) (int_ranked x y (int_cmp x y) refl)
  where
    by : (o : Ordering) → MatchOrdering o (x <ℤ y) (x ≡ y) (y <ℤ x) → o ≡ Equal
    by Less h = absurd (omega (arith, linear))
    by Equal h = refl
    by Greater h = absurd (omega (arith, linear))

other_order : (x y : ℤ) (o : Ordering) → x ≢ y → is_lt (ordering_then (int_cmp x y) o) ≡ int_lt x y
other_order x y o n = by (int_cmp x y) (int_ranked x y (int_cmp x y) refl)
  where
    by : (p : Ordering) → MatchOrdering p (x <ℤ y) (x ≡ y) (y <ℤ x) → is_lt (ordering_then p o) ≡ int_lt x y
    by Less h = sym (int_lt-true x y h)
    by Equal h = absurd (n h)
    by Greater h = sym (int_lt-false x y (omega (arith, linear)))

pub opposite_order-skip : (k : ℤ) (cs : List ℤ) (c : ℤ) (i : ℕ) (o : Ordering) → i < length cs → floor_mod (neg_ℤ (get_or cs i (pos 0))) k ≡ get_or cs i (pos 0) → opposite_order k (drop i cs) c ≡ o → opposite_order k (drop (i + 1) cs) c ≡ o
opposite_order-skip k cs c i o h e f =
    let x = get_or cs i (pos 0) in
    let d : drop i cs ≡ x ∷ drop (suc i) cs = drop-cons cs i (pos 0) h in
    rw add-one (by (drop (suc i) cs) x e ∙ ap (λ xs. opposite_order k xs c) (sym d) ∙ f)
  where
    by : (xs : List ℤ) (x : ℤ) → floor_mod (neg_ℤ x) k ≡ x → opposite_order k xs c ≡ opposite_order k (x ∷ xs) c
    by xs x e = ap (λ p. ordering_then p (opposite_order k xs c)) (sym (same_order (floor_mod (neg_ℤ x) k) x e))

pub opposite_order-here : (k : ℤ) (cs : List ℤ) (c : ℤ) (i : ℕ) (o : Ordering) → i < length cs → floor_mod (neg_ℤ (get_or cs i (pos 0))) k ≢ get_or cs i (pos 0) → opposite_order k (drop i cs) c ≡ o → int_lt (floor_mod (neg_ℤ (get_or cs i (pos 0))) k) (get_or cs i (pos 0)) ≡ is_lt o
opposite_order-here k cs c i o h n f =
    let x = get_or cs i (pos 0) in
    let d : drop i cs ≡ x ∷ drop (suc i) cs = drop-cons cs i (pos 0) h in
    sym (other_order (floor_mod (neg_ℤ x) k) x (opposite_order k (drop (suc i) cs) c) n) ∙ ap (λ xs. is_lt (opposite_order k xs c)) (sym d) ∙ ap is_lt f

pub opposite_order-end : (k : ℤ) (cs : List ℤ) (c : ℤ) (i : ℕ) (o : Ordering) → length cs ≤ i → opposite_order k (drop i cs) c ≡ o → int_lt (floor_mod (neg_ℤ c) k) c ≡ is_lt o
opposite_order-end k cs c i o h f = let e : drop i cs ≡ [] = grind (arith, common_steps) in last (floor_mod (neg_ℤ c) k) c ∙ ap (λ xs. is_lt (opposite_order k xs c)) (sym e) ∙ ap is_lt f
  where
    last : (x y : ℤ) → int_lt x y ≡ is_lt (ordering_then (int_cmp x y) Equal)
    last x y = by (int_cmp x y) (int_ranked x y (int_cmp x y) refl)
      where
        by : (p : Ordering) → MatchOrdering p (x <ℤ y) (x ≡ y) (y <ℤ x) → int_lt x y ≡ is_lt (ordering_then p Equal)
        by Less h = int_lt-true x y h
        by Equal h = int_lt-false x y (omega (arith, linear))
        by Greater h = int_lt-false x y (omega (arith, linear))

pub ruleset orders = (opposite_order-skip, opposite_order-here, opposite_order-end, get_or_read)

-- ---- a form that k divides
pub divides_never : (cs : List ℤ) (c k : ℤ) (ds : List ℤ) (r g : ℤ) → pos 0 <ℤ k → ds ≡ reduced k cs → r ≡ floor_mod c k → g ≡ content (k ∷ ds) → ¬ Divides g r → normal_divides cs c k ≡ Never
divides_never cs c k ds r g p e f h n =
    let part : g ≡ common_part cs k = h ∙ ap (λ xs. content (k ∷ xs)) e in
    normal_divides-never cs c k p (λ d. n (rw (part, f) d))

pub divides_always : (cs : List ℤ) (c k : ℤ) (ds : List ℤ) (r g q : ℤ) → pos 0 <ℤ k → ds ≡ reduced k cs → r ≡ floor_mod c k → g ≡ content (k ∷ ds) → Divides g r → q ≡ floor_div k g → q ≡ pos 1 → normal_divides cs c k ≡ Always
divides_always cs c k ds r g q p e f h d i one =
    let part : g ≡ common_part cs k = h ∙ ap (λ xs. content (k ∷ xs)) e in
    normal_divides-always cs c k p (rw (part, f) at d) (ap (λ x. floor_div k x) (sym part) ∙ sym i ∙ one)

pub divides_kept : (cs : List ℤ) (c k : ℤ) (ds : List ℤ) (r g q : ℤ) (row : Row) → pos 0 <ℤ k → ds ≡ reduced k cs → r ≡ floor_mod c k → g ≡ content (k ∷ ds) → Divides g r → q ≡ floor_div k g → q ≢ pos 1
    → row ≡ lesser (congruence (divided g ds) (floor_div r g) q) → normal_divides cs c k ≡ Kept row
divides_kept cs c k ds r g q row p e f h d i n is =
    let part : g ≡ common_part cs k = h ∙ ap (λ xs. content (k ∷ xs)) e in
    let same : congruence (divided g ds) (floor_div r g) q ≡ divided_congruence cs c k = rw (i, e, f, part) refl in
    normal_divides-kept cs c k p (rw (part, f) at d) (λ one. n (i ∙ ap (λ x. floor_div k x) part ∙ one)) ∙ ap (λ s. Kept (lesser s)) (sym same) ∙ ap Kept (sym is)

-- the choice does not look at the kind
pub lesser-kind : (r : Row) (kind : RowKind) → record (lesser r) { kind = kind } ≡ lesser (record r { kind = kind })
lesser-kind r kind = by (is_lt (slice_cmp int_cmp (numbers_of (opposite_row r)) (numbers_of r)))
  where
    by : (t : Bool) → record (cond t (opposite_row r) r) { kind = kind } ≡ cond t (opposite_row (record r { kind = kind })) (record r { kind = kind })
    by true = refl
    by false = refl

-- the row that was kept, of either kind
pub lesser_congruence : (row r : Row) (cs : List ℤ) (c k : ℤ) → row ≡ lesser r → r.coefs ≡ cs → r.constant ≡ c → r.k ≡ k → record row { kind = KindDivides } ≡ lesser (congruence cs c k)
lesser_congruence row r cs c k e f g h =
    ap (λ (s : Row). record s { kind = KindDivides }) e ∙ lesser-kind r KindDivides ∙ ap lesser (row_is (record r { kind = KindDivides }) KindDivides cs c k refl f g h)

pub ruleset congruence_steps = (divisor_positive, positive-divided, All-IsWithin-reduced, All-IsWithin-divided)
