-- The rows that steps add have their numbers within the limit.
use Rattle.std.proofs.Common.{◌≡◌, ◌↔◌, inl, inr, ◌&&◌, int_lt, ◌∙◌, refl, sym, ap, arith, subst, Bool, true, false, int_eq, get_or, ◌-◌}
use Rattle.std.proofs.Common.{◌<ℤ◌, ◌≤ℤ◌, ℕ, ◌+◌, ◌≤◌, ◌<◌, ◌^◌, ℤ, pos, zero, suc, List, [], ◌∷◌, ◌++◌, length, replicate, unsigned_abs}
use Rattle.std.proofs.Common.{ap₂, nat_eq, take, map, length-append, slice_get, Option, Some, None, ◌-ℤ◌}
use Rattle.std.specs.Prelude.{IfErr, IfOk, IfSome, IsTrue, MatchOption, MatchResult, Result, Ok, Err}
use Rattle.std.proofs.lemmas.Bool.{true≢false, eqb-true}
use Rattle.std.proofs.lemmas.List.{append-nil, take_more}
use Rattle.std.proofs.lemmas.List.Folds.{length-flat_map-take}
use Rattle.std.proofs.lemmas.Grind.{flat_map-append}
use Rattle.std.proofs.lemmas.List.FromFn.{length-map-range_with_len, get_or-map-range_with_len, map-range_with_len_more}
use Rattle.std.specs.List.{All, Any, range_with_len}
use Rattle.std.proofs.lemmas.Bool.Decides.{Decides-int_eq}
use Rattle.std.proofs.lemmas.List.Elements.{All-nil, All-cons, All-push, All-weaker, All-append}
use Rattle.isl_math.specs.Divide.{floor_mod}
use Rattle.isl_math.proofs.DivideLaws.{floor_mod-from_IsRemainder}
use Rattle.isl_math.proofs.ListLaws.{Any-first, Any-later, Any-left, Any-right, Any-weaker}
use Rattle.isl_math.proofs.Ring.{linear}
use Rattle.isl_meter.specs.Gauge.{Gauge, IsWithin, overflown}
use Rattle.isl_meter.specs.declared.Cut.{Cut}
use Rattle.isl_meter.specs.declared.Cut.TheVariants.{Overflow, Budget, NoMemory}
use Rattle.isl_piece.specs.Cut.{IsCutFor}
use Rattle.isl_piece.specs.Negation.{negated_form, negation_of, ConstantPassesLimit}
use Rattle.isl_meter.proofs.LimitLemmas.{IsWithin-small, IsWithin-zero}
use Rattle.isl_piece.specs.declared.row.RowKind.{RowKind}
use Rattle.isl_piece.specs.declared.row.RowKind.TheVariants.{Zero, AtLeast, Divides, NotDivides}
use Rattle.isl_piece.specs.declared.row.Row.{Row}
use Rattle.isl_piece.specs.Normal.{congruence, Verdict, Always, Never, Kept, normal_row}
use Rattle.isl_piece.specs.Row.{HasModulus, IsRowUpTo, IsRowWithin}
use Rattle.isl_piece.proofs.NormalCases.{int_lt-true, int_lt-false}
use Rattle.isl_piece.proofs.RowMagnitudes.{up_to_limit, within_limit, row_within_kept}
use Rattle.isl_piece.proofs.ShapeLaws.{IfKept, normal_row_up_to}
use Rattle.isl_refute.specs.Checked.{negation_count, IsFact, IsOutRow}
use Rattle.isl_refute.specs.declared.tree.Form.{Form}
use Rattle.isl_refute.specs.Passes.{Above, RowPasses, RowSumPasses, SumAtPasses, SumPasses, SumsPass}
use Rattle.isl_refute.specs.Refutes.{always_row, and_row, negations, never_row, padded, residue_rows, standing_row, standing_as, sum_row}
use Rattle.isl_refute.proofs.FormedLaws.{sum_formed}
use Rattle.isl_refute.proofs.Sound.{at_place, padded_formed}
use Rattle.isl_refute.proofs.StandingLaws.{standing_over}

pub ruleset ones = (IsWithin-small)

pub ruleset pushes = (All-push)

zeros_within : (g : Gauge) (n : ℕ) → All (IsWithin g) (replicate n (pos 0))
zeros_within g zero = All-nil (IsWithin g)
zeros_within g (suc n) = All-cons (IsWithin g) (pos 0) (replicate n (pos 0)) (IsWithin-zero g) (zeros_within g n)

module _ (g : Gauge) (wide : 8 ≤ g.bits) where
  one_within : IsWithin g (pos 1)
  one_within = IsWithin-small g (pos 1) wide (omega arith)

  two_within : IsWithin g (pos 2)
  two_within = IsWithin-small g (pos 2) wide (omega arith)

  constant_within : (kind : RowKind) (n : ℕ) (c k : ℤ) → IsWithin g c → IsWithin g k
      → IsRowWithin g (record { kind = kind; coefs = replicate n (pos 0); constant = c; k = k })
  constant_within kind n c k p q = record { coefs = zeros_within g n; constant = p; k = q }

  always_within : (kind : RowKind) (cs : List ℤ) (c : ℤ) → IsWithin g c → IsRowWithin g (always_row kind cs c)
  always_within Zero cs c w = constant_within Zero (length cs) (pos 0) (pos 1) (IsWithin-zero g) one_within
  always_within AtLeast cs c w = constant_within AtLeast (length cs) c (pos 1) w one_within
  always_within Divides cs c w = constant_within Divides (length cs) (pos 0) (pos 1) (IsWithin-zero g) one_within
  always_within NotDivides cs c w = constant_within NotDivides (length cs) (pos 1) (pos 2) one_within two_within

  never_within : (kind : RowKind) (cs : List ℤ) (c : ℤ) → IsWithin g c → IsRowWithin g (never_row kind cs c)
  never_within Zero cs c w = constant_within Zero (length cs) (pos 1) (pos 1) one_within one_within
  never_within AtLeast cs c w = constant_within AtLeast (length cs) c (pos 1) w one_within
  never_within Divides cs c w = constant_within Divides (length cs) (pos 1) (pos 2) one_within two_within
  never_within NotDivides cs c w = constant_within NotDivides (length cs) (pos 0) (pos 1) (IsWithin-zero g) one_within

  pub standing_within : (r : Row) → HasModulus r.kind r.k → IsRowWithin g r → IsRowWithin g (standing_row r)
  standing_within r m w = by (normal_row r) (normal_row_up_to (2 ^ g.bits - 1) r m (up_to_limit g r w))
    where
      by : (v : Verdict) → IfKept (IsRowUpTo (2 ^ g.bits - 1)) v → IsRowWithin g (standing_as r v)
      by Always h = always_within r.kind r.coefs r.constant w.constant
      by Never h = never_within r.kind r.coefs r.constant w.constant
      by (Kept s) h = within_limit g s h

  -- the rows with one more
  pub and_row_facts : (n : ℕ) (rows : List Row) (r : Row) → All (IsFact g n) rows → IsFact g n r → All (IsFact g n) (and_row rows r)
  and_row_facts n rows r all fact = All-push (IsFact g n) rows (standing_row r) all (record {
    formed = standing_over n r fact.formed;
    within = standing_within r fact.formed.modulus fact.within;
  })

-- ---- another moment of the meter
pub facts_kept : (g h : Gauge) (n : ℕ) (rows : List Row) → h.bits ≡ g.bits → All (IsFact g n) rows → All (IsFact h n) rows
facts_kept g h n rows same all =
    All-weaker (IsFact g n) (IsFact h n) (λ r f. record { formed = f.formed; within = row_within_kept h g r (sym same) f.within }) rows all

pub fact_kept : (g h : Gauge) (n : ℕ) (r : Row) → h.bits ≡ g.bits → IsFact g n r → IsFact h n r
fact_kept g h n r same f = record { formed = f.formed; within = row_within_kept h g r (sym same) f.within }

pub out_kept : (g h : Gauge) (n : ℕ) (rows : List Row) → h.bits ≡ g.bits → All (IsOutRow g n) rows → All (IsOutRow h n) rows
out_kept g h n rows same all =
    All-weaker (IsOutRow g n) (IsOutRow h n)
    (λ r o. record { width = o.width; modulus = o.modulus; within = row_within_kept h g r (sym same) o.within }) rows all

-- over one column more
pub out_wider : (g : Gauge) (n : ℕ) (rows : List Row) → All (IsOutRow g n) rows → All (IsOutRow g (n + 1)) rows
out_wider g n rows all =
    All-weaker (IsOutRow g n) (IsOutRow g (n + 1))
    (λ r o. record { width = (let w = o.width in omega (arith, w)); modulus = o.modulus; within = o.within }) rows all

-- ---- moduli
pub not_multiple : (m k : ℤ) → pos 0 <ℤ m → m <ℤ k → int_eq (floor_mod m k) (pos 0) ≡ false
not_multiple m k above less = by (int_eq (floor_mod m k) (pos 0)) refl
  where
    by : (b : Bool) → int_eq (floor_mod m k) (pos 0) ≡ b → b ≡ false
    by false e = refl
    by true e =
        let z : floor_mod m k ≡ pos 0 = (Decides-int_eq (floor_mod m k) (pos 0)).0 e in
        let same : floor_mod m k ≡ m = floor_mod-from_IsRemainder k m (record { not_negative = omega (arith, linear); small = less }) in
        let none : m ≡ pos 0 = sym same ∙ z in
        absurd (omega (arith, linear, none, above))

pub small_no : (m k : ℤ) → k ≤ℤ pos 1 → false ≡ (int_lt (pos 1) k && int_eq (floor_mod m k) (pos 0))
small_no m k small = sym (ap (λ b. b && int_eq (floor_mod m k) (pos 0)) (int_lt-false (pos 1) k (omega (arith, linear))))

pub large_no : (m k : ℤ) → pos 0 <ℤ m → m <ℤ k → false ≡ (int_lt (pos 1) k && int_eq (floor_mod m k) (pos 0))
large_no m k above less = by (int_lt (pos 1) k)
  where
    by : (b : Bool) → false ≡ (b && int_eq (floor_mod m k) (pos 0))
    by true = sym (not_multiple m k above less)
    by false = refl

pub multiple_told : (m k z : ℤ) (b : Bool) → pos 1 <ℤ k → z ≡ floor_mod m k → IsTrue b ↔ (z ≡ pos 0)
    → b ≡ (int_lt (pos 1) k && int_eq (floor_mod m k) (pos 0))
multiple_told m k z b above is told =
    by b (int_eq (floor_mod m k) (pos 0)) refl refl ∙ sym
    (ap (λ c. c && int_eq (floor_mod m k) (pos 0)) (int_lt-true (pos 1) k (omega (arith, linear))))
  where
    by : (c d : Bool) → b ≡ c → int_eq (floor_mod m k) (pos 0) ≡ d → b ≡ int_eq (floor_mod m k) (pos 0)
    by true true e f = e ∙ sym f
    by false false e f = e ∙ sym f
    by true false e f =
        absurd (true≢false (sym ((Decides-int_eq (floor_mod m k) (pos 0)).1 (sym is ∙ told.0 e)) ∙ f))
    by false true e f =
        absurd (true≢false (sym (told.1 (is ∙ (Decides-int_eq (floor_mod m k) (pos 0)).0 f)) ∙ e))

-- a number that is at most one within the limit
pub less_within : (g : Gauge) (m k : ℤ) → IsWithin g m → pos 1 <ℤ k → k ≤ℤ m → IsWithin g k
less_within g m k w above less = omega (arith, linear)

pub ruleset multiples = (small_no, large_no, multiple_told, less_within)

-- ---- places in lists
pub any_at : {X : Type 0} (P : X → Type 0) (xs : List X) (i : ℕ) (x : X) → i < length xs → x ≡ get_or xs i x → P x → Any P xs
any_at P [] i x low at p = absurd (omega arith)
any_at P (y ∷ ys) zero x low at p = Any-first P y ys (subst P at p)
any_at P (y ∷ ys) (suc i) x low at p = Any-later P y ys (any_at P ys i x (omega arith) at p)

pub sums_pass : (bits : ℕ) (a b : ℤ) (xs ys : List ℤ) (i : ℕ) → i < length xs → length xs ≡ length ys
    → SumPasses bits a (get_or xs i (pos 0)) b (get_or ys i (pos 0)) → SumsPass bits a xs b ys
sums_pass bits a b [] ys i low same p = absurd (omega arith)
sums_pass bits a b (x ∷ xs) [] i low same p = absurd (omega arith)
sums_pass bits a b (x ∷ xs) (y ∷ ys) zero low same p = inl p
sums_pass bits a b (x ∷ xs) (y ∷ ys) (suc i) low same p = inr (sums_pass bits a b xs ys i (omega arith) (omega arith) p)

-- a row whose constant passes the limit
pub constants_pass : (g : Gauge) (rows : List Row) → ConstantPassesLimit g rows → Any (RowPasses g.bits) rows
constants_pass g rows p = Any-weaker (λ r. ¬ IsWithin g r.constant) (RowPasses g.bits) (λ r q. inr (inl q)) rows p

pub constants_cut : (g h : Gauge) (rows : List Row) (cut : Cut) → IsCutFor (ConstantPassesLimit g rows) g h cut
    → IsCutFor (Any (RowPasses g.bits) rows) g h cut
constants_cut g h rows Overflow e = (constants_pass g rows e.0, e.1)
constants_cut g h rows Budget e = e
constants_cut g h rows NoMemory e = e

pub padded_out : (g : Gauge) (n : ℕ) (r : Row) → IsOutRow g n r → IsFact g n (padded n r)
padded_out g n r o = record {
  formed = padded_formed n r o.width o.modulus;
  within = record {
    coefs = All-append (IsWithin g) r.coefs (replicate (n - length r.coefs) (pos 0)) o.within.coefs (zeros_within g (n - length r.coefs));
    constant = o.within.constant;
    k = o.within.k;
  };
}

-- ---- negations
pub negation_told : (g h : Gauge) (n : ℕ) (r whole : Row) (result : Result (List Row) Cut) → whole ≡ padded n r
    → MatchResult result (λ rows. (rows ≡ negation_of whole) × (h ≡ g))
    (λ cut. IsCutFor (ConstantPassesLimit g (negation_of whole)) g h cut)
    → IfOk result (All (IsRowWithin g))
    → MatchResult result (λ made. (made ≡ negation_of (padded n r)) × All (IsRowWithin g) made × (h ≡ g))
    (IsCutFor (Any (RowPasses g.bits) (negation_of (padded n r))) g h)
negation_told g h n r whole (Ok rows) is told within = (told.0 ∙ ap negation_of is, within, told.1)
negation_told g h n r whole (Err cut) is told within =
    constants_cut g h (negation_of (padded n r)) cut
    (subst (λ (w : Row). IsCutFor (ConstantPassesLimit g (negation_of w)) g h cut) is told)

-- ---- what a number past the limit cuts
any_from : {X : Type 0} (P : X → Type 0) (xs : List X) (i : ℕ) (d : X) → i < length xs → P (get_or xs i d) → Any P xs
any_from P [] i d low p = absurd (omega (arith, low))
any_from P (y ∷ ys) zero d low p = Any-first P y ys p
any_from P (y ∷ ys) (suc i) d low p = Any-later P y ys (any_from P ys i d (omega (arith, low)) p)

pub measured_cut : (g m h : Gauge) (xs : List ℤ) (i : ℕ) → i < length xs → m ≡ g → ¬ IsWithin m (get_or xs i (pos 0)) → h ≡ overflown m
    → IsCutFor (Any (Above g.bits) xs) g h Overflow
measured_cut g m h xs i low same above over = (
  any_from (Above g.bits) xs i (pos 0) low (subst (λ (k : Gauge). ¬ IsWithin k (get_or xs i (pos 0))) same above),
  over ∙ ap overflown same,
)

pub sums_at : (bits : ℕ) (a b : ℤ) (xs ys : List ℤ) (i : ℕ) (x y : ℤ) → i < length xs → length xs ≡ length ys → x ≡ get_or xs i x
    → y ≡ get_or ys i y → SumPasses bits a x b y → SumsPass bits a xs b ys
sums_at bits a b [] ys i x y low same p q h = absurd (omega (arith, low))
sums_at bits a b (u ∷ xs) [] i x y low same p q h = absurd (omega (arith, same))
sums_at bits a b (u ∷ xs) (v ∷ ys) zero x y low same p q h =
    inl (subst (λ (z : ℤ). SumPasses bits a z b v) p (subst (λ (z : ℤ). SumPasses bits a x b z) q h))
sums_at bits a b (u ∷ xs) (v ∷ ys) (suc i) x y low same p q h = inr
    (sums_at bits a b xs ys i x y (omega (arith, low)) (omega (arith, same)) p q h)

pub sums_cut : (g m h : Gauge) (a b : ℤ) (xs ys : List ℤ) (i : ℕ) (x y : ℤ) → i < length xs → length xs ≡ length ys → x ≡ get_or xs i x
    → y ≡ get_or ys i y → m ≡ g → SumPasses m.bits a x b y → h ≡ overflown m → IsCutFor (SumsPass g.bits a xs b ys) g h Overflow
sums_cut g m h a b xs ys i x y low wide p q same passes over = (
  sums_at g.bits a b xs ys i x y low wide p q (subst (λ (k : Gauge). SumPasses k.bits a x b y) same passes),
  over ∙ ap overflown same,
)

pub sum_at_cut : (g h : Gauge) (rows : List Row) (i : ℕ) (a : ℤ) (j : ℕ) (b : ℤ) (r s : Row) (cut : Cut) → slice_get rows i ≡ Some r
    → slice_get rows j ≡ Some s → IsCutFor (RowSumPasses g.bits a b r s) g h cut → IsCutFor (SumAtPasses g.bits rows i a j b) g h cut
sum_at_cut g h rows i a j b r s cut p q e =
    subst (λ (o : Option Row). IsCutFor (MatchOption o ⊥ (λ u. MatchOption (slice_get rows j) ⊥ (λ v. RowSumPasses g.bits a b u v))) g h
    cut) (sym p)
    (subst (λ (o : Option Row). IsCutFor (MatchOption o ⊥ (λ v. RowSumPasses g.bits a b r v)) g h cut) (sym q) e)

-- ---- rows of outs, one after another
pub out_row_at : (g m : Gauge) (n : ℕ) (rows : List Row) (i : ℕ) (r : Row) → m ≡ g → i < length rows → r ≡ get_or rows i r
    → All (IsOutRow g n) rows → IsOutRow m n r
out_row_at g m n rows i r same low at all =
    subst (λ (k : Gauge). IsOutRow k n r) (sym same) (subst (IsOutRow g n) (sym at) (all i r low))

pub negations_more : (n : ℕ) (rows : List Row) (i : ℕ) (r : Row) (before : List Row) → i < length rows → r ≡ get_or rows i r
    → before ≡ negations n (take i rows) → before ++ negation_of (padded n r) ≡ negations n (take (i + 1) rows)
negations_more n rows i r before low at is =
    ap₂ (λ (l k : List Row). l ++ k) is (sym (append-nil (negation_of (padded n r))))
    ∙ sym (flat_map-append (λ (s : Row). negation_of (padded n s)) (take i rows) (r ∷ []))
    ∙ ap (negations n) (ap (λ (s : Row). take i rows ++ s ∷ []) at ∙ sym (take_more rows i r low))

pub some_negation : (P : Row → Type 0) (n : ℕ) (rows : List Row) (i : ℕ) (r : Row) → i < length rows → r ≡ get_or rows i r
    → Any P (negation_of (padded n r)) → Any P (negations n rows)
some_negation P n [] i r low at p = absurd (omega (arith, low))
some_negation P n (s ∷ rows) zero r low at p =
    Any-left P (negation_of (padded n s)) (negations n rows) (subst (λ (u : Row). Any P (negation_of (padded n u))) at p)
some_negation P n (s ∷ rows) (suc i) r low at p =
    Any-right P (negation_of (padded n s)) (negations n rows) (some_negation P n rows i r (omega (arith, low)) at p)

pub negation_cut : (g m h : Gauge) (n : ℕ) (rows : List Row) (i : ℕ) (r : Row) (cut : Cut) → i < length rows → r ≡ get_or rows i r → m ≡ g
    → IsCutFor (Any (RowPasses m.bits) (negation_of (padded n r))) m h cut → IsCutFor (Any (RowPasses g.bits) (negations n rows)) g h cut
negation_cut g m h n rows i r cut low at same e = by cut
    (subst (λ (k : Gauge). IsCutFor (Any (RowPasses k.bits) (negation_of (padded n r))) k h cut) same e)
  where
    by : (c : Cut) → IsCutFor (Any (RowPasses g.bits) (negation_of (padded n r))) g h c
        → IsCutFor (Any (RowPasses g.bits) (negations n rows)) g h c
    by Overflow p = (some_negation (RowPasses g.bits) n rows i r low at p.0, p.1)
    by Budget p = p
    by NoMemory p = p

-- how many there are
length-negation : (n : ℕ) (r : Row) → length (negation_of (padded n r)) ≡ negation_count r.kind
length-negation n r = by r.kind
  where
    by : (kind : RowKind) → length (negated_form kind (padded n r).coefs r.constant r.k) ≡ negation_count kind
    by Zero = refl
    by AtLeast = refl
    by Divides = refl
    by NotDivides = refl

pub too_few : (n : ℕ) (rows : List Row) (i : ℕ) (r : Row) (left own count : ℕ) → i < length rows → r ≡ get_or rows i r
    → own ≡ negation_count r.kind → left < own → left + length (negations n (take i rows)) ≡ count
    → false ≡ nat_eq count (length (negations n rows))
too_few n rows i r left own count low at is less so_far = by (nat_eq count (length (negations n rows))) refl
  where
    all : length (negations n (take i rows)) + length (negation_of (padded n (get_or rows i r))) ≤ length (negations n rows)
    all = length-flat_map-take (λ (s : Row). negation_of (padded n s)) rows i r low

    here : length (negation_of (padded n (get_or rows i r))) ≡ own
    here = ap (λ (s : Row). length (negation_of (padded n s))) (sym at) ∙ length-negation n r ∙ sym is

    by : (b : Bool) → nat_eq count (length (negations n rows)) ≡ b → false ≡ b
    by false e = refl
    by true e =
        let same = eqb-true count (length (negations n rows)) e in
        let l = all in
        let h = here in
        absurd (omega (arith, same, l, h, less, so_far))

pub left_more_negations : (n : ℕ) (rows : List Row) (i : ℕ) (r : Row) (left own next count : ℕ) → i < length rows → r ≡ get_or rows i r
    → own ≡ negation_count r.kind → next + own ≡ left → left + length (negations n (take i rows)) ≡ count
    → next + length (negations n (take (i + 1) rows)) ≡ count
left_more_negations n rows i r left own next count low at is behind so_far =
    let more = ap length (sym (negations_more n rows i r (negations n (take i rows)) low at refl))
    ∙ length-append (negations n (take i rows)) (negation_of (padded n r)) in
    let here = length-negation n r in
    omega (arith, more, here, is, behind, so_far)

-- ---- residues, one after another
some_residue : (P : Row → Type 0) (form : Form) (k : ℤ) (rest : ℕ) → rest < unsigned_abs k
    → P (congruence form.coefs (form.constant -ℤ pos rest) k) → Any P (residue_rows form k)
some_residue P form k rest low p =
    any_at P (residue_rows form k) rest (congruence form.coefs (form.constant -ℤ pos rest) k)
    (let l = length-map-range_with_len (λ (r : ℕ). congruence form.coefs (form.constant -ℤ pos r) k) 0 (unsigned_abs k) in omega
    (arith, l, low))
    (sym (get_or-map-range_with_len (λ (r : ℕ). congruence form.coefs (form.constant -ℤ pos r) k) 0 (unsigned_abs k) rest rest
    (congruence form.coefs (form.constant -ℤ pos rest) k) low (omega arith))) p

pub residue_cut : (g m h : Gauge) (form : Form) (k l : ℤ) (count rest : ℕ) (z : ℤ) (cut : Cut) → k ≡ pos count → l ≡ k → rest < count
    → z ≡ pos rest → m ≡ g → IsCutFor (RowPasses m.bits (congruence form.coefs (form.constant -ℤ z) l)) m h cut
    → IsCutFor (Any (RowPasses g.bits) (residue_rows form k)) g h cut
residue_cut g m h form k l count rest z cut is own low number same e = by cut
    (subst (λ (y : ℤ). IsCutFor (RowPasses g.bits (congruence form.coefs (form.constant -ℤ y) k)) g h cut) number
    (subst (λ (y : ℤ). IsCutFor (RowPasses g.bits (congruence form.coefs (form.constant -ℤ z) y)) g h cut) own
    (subst (λ (j : Gauge). IsCutFor (RowPasses j.bits (congruence form.coefs (form.constant -ℤ z) l)) j h cut) same e)))
  where
    by : (c : Cut) → IsCutFor (RowPasses g.bits (congruence form.coefs (form.constant -ℤ pos rest) k)) g h c
        → IsCutFor (Any (RowPasses g.bits) (residue_rows form k)) g h c
    by Overflow p =
        (some_residue (RowPasses g.bits) form k rest (let e = ap unsigned_abs is in omega (arith, e, low)) p.0, p.1)
    by Budget p = p
    by NoMemory p = p

pub residues_more : (form : Form) (k : ℤ) (rest : ℕ) (before : List Row) (z : ℤ) (row : Row) → z ≡ pos rest
    → row ≡ congruence form.coefs (form.constant -ℤ z) k
    → before ≡ map (λ (r : ℕ). congruence form.coefs (form.constant -ℤ pos r) k) (range_with_len 0 rest)
    → before ++ row ∷ [] ≡ map (λ (r : ℕ). congruence form.coefs (form.constant -ℤ pos r) k) (range_with_len 0 (rest + 1))
residues_more form k rest before z row number is so_far =
    ap₂ (λ (l : List Row) (r : Row). l ++ r ∷ []) so_far (is ∙ ap (λ (y : ℤ). congruence form.coefs (form.constant -ℤ y) k) number)
    ∙ sym (map-range_with_len_more (λ (r : ℕ). congruence form.coefs (form.constant -ℤ pos r) k) 0 rest rest (omega arith))

pub residues_end : (form : Form) (k : ℤ) (count rest : ℕ) (rows : List Row) → k ≡ pos count → rest ≡ count
    → rows ≡ map (λ (r : ℕ). congruence form.coefs (form.constant -ℤ pos r) (pos count)) (range_with_len 0 rest)
    → rows ≡ residue_rows form k
residues_end form k count rest rows is last so_far =
    so_far
    ∙ ap (λ (c : ℕ). map (λ (r : ℕ). congruence form.coefs (form.constant -ℤ pos r) (pos count)) (range_with_len 0 c)) last
    ∙ ap (λ (z : ℤ). residue_rows form z) (sym is)

-- ---- what loops keep
pub rows_before : (g m h : Gauge) (n : ℕ) (rows : List Row) (i : ℕ) (r : Row) (made own new : List Row) → i < length rows
    → r ≡ get_or rows i r
    → made ≡ negations n (take i rows) → All (IsRowWithin g) made → m ≡ g → own ≡ negation_of (padded n r) → All (IsRowWithin m) own → h ≡ m
    → new ≡ made ++ own
    → (new ≡ negations n (take (i + 1) rows)) × All (IsRowWithin g) new × (h ≡ g)
rows_before g m h n rows i r made own new low at so_far within same is own_within kept more = (
  more ∙ ap (λ (l : List Row). made ++ l) is ∙ negations_more n rows i r made low at so_far,
  subst (All (IsRowWithin g)) (sym more)
      (All-append (IsRowWithin g) made own within (subst (λ (k : Gauge). All (IsRowWithin k) own) same own_within)),
  kept ∙ same,
)

pub residues_before : (g m h : Gauge) (form : Form) (k l : ℤ) (rest : ℕ) (rows : List Row) (z : ℤ) (row : Row) (new : List Row) → l ≡ k
    → z ≡ pos rest
    → rows ≡ map (λ (r : ℕ). congruence form.coefs (form.constant -ℤ pos r) k) (range_with_len 0 rest) → All (IsRowWithin g) rows → m ≡ g
    → row ≡ congruence form.coefs (form.constant -ℤ z) l → IsRowWithin m row → h ≡ m → new ≡ rows ++ row ∷ []
    → (new ≡ map (λ (r : ℕ). congruence form.coefs (form.constant -ℤ pos r) k) (range_with_len 0 (rest + 1))) × All (IsRowWithin g) new
    × (h ≡ g)
residues_before g m h form k l rest rows z row new own number so_far within same is fits kept more = (
  more ∙ residues_more form k rest rows z row number (is ∙ ap (λ (y : ℤ). congruence form.coefs (form.constant -ℤ z) y) own) so_far,
  subst (All (IsRowWithin g)) (sym more)
      (All-push (IsRowWithin g) rows row within (subst (λ (j : Gauge). IsRowWithin j row) same fits)),
  kept ∙ same,
)

pub sum_at_cuts : (g h : Gauge) (rows : List Row) (i : ℕ) (a c : ℤ) (j : ℕ) (b d : ℤ) (r s : Row) (result : Result (Option Row) Cut)
    → c ≡ a → d ≡ b → slice_get rows i ≡ Some r → slice_get rows j ≡ Some s
    → MatchResult result (λ made. (made ≡ sum_row c d r s) × IfSome made (IsRowWithin g) × (h ≡ g))
    (IsCutFor (RowSumPasses g.bits c d r s) g h)
    → IfErr result (IsCutFor (SumAtPasses g.bits rows i a j b) g h)
sum_at_cuts g h rows i a c j b d r s (Ok made) one two p q e = tt
sum_at_cuts g h rows i a c j b d r s (Err cut) one two p q e =
    sum_at_cut g h rows i a j b r s cut p q
    (subst (λ (y : ℤ). IsCutFor (RowSumPasses g.bits y b r s) g h cut) one
    (subst (λ (z : ℤ). IsCutFor (RowSumPasses g.bits c z r s) g h cut) two e))

pub numbers_before : (g m h : Gauge) (xs : List ℤ) (i : ℕ) (made : List ℤ) (z : ℤ) (new : List ℤ) → i < length xs → made ≡ take i xs
    → All (IsWithin g) made → m ≡ g → z ≡ get_or xs i (pos 0) → IsWithin m z → h ≡ m → new ≡ made ++ z ∷ []
    → (new ≡ take (i + 1) xs) × All (IsWithin g) new × (h ≡ g)
numbers_before g m h xs i made z new low so_far within same is fits kept more = (
  more ∙ ap₂ (λ (l : List ℤ) (y : ℤ). l ++ y ∷ []) so_far is ∙ sym (take_more xs i (pos 0) low),
  subst (All (IsWithin g)) (sym more)
      (All-push (IsWithin g) made z within (subst (λ (k : Gauge). IsWithin k z) same fits)),
  kept ∙ same,
)

pub sum_at_fact : (g h : Gauge) (n : ℕ) (rows : List Row) (i : ℕ) (a : ℤ) (j : ℕ) (b : ℤ) (r s : Row) (P : Type 0) (Q : Cut → Type 0)
    (result : Result (Option Row) Cut) → slice_get rows i ≡ Some r → slice_get rows j ≡ Some s → All (IsFact g n) rows
    → MatchResult result (λ made. (made ≡ sum_row a b r s) × IfSome made (IsRowWithin g) × P) Q
    → IfOk result (λ made. IfSome made (IsFact g n))
sum_at_fact g h n rows i a j b r s P Q (Ok None) p q all e = tt
sum_at_fact g h n rows i a j b r s P Q (Ok (Some made)) p q all e = record {
  formed = sum_formed n a b r s made (at_place (IsFact g n) rows i r all p).formed (at_place (IsFact g n) rows j s all q).formed (sym e.0);
  within = e.1;
}
sum_at_fact g h n rows i a j b r s P Q (Err cut) p q all e = tt
