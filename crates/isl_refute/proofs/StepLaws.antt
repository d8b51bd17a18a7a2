-- What a step adds holds where the rows before it do.
use Rattle.std.proofs.Common.{◌≡◌, inl, inr, ◌∙◌, refl, sym, ap, arith, subst, Bool, true, false, ◌&&◌, not, int_lt, ℕ, suc, ◌+◌, ℤ, pos}
use Rattle.std.proofs.Common.{negsuc, neg_ℤ, ◌+ℤ◌, ◌-ℤ◌, ◌*ℤ◌, ◌≤ℤ◌, ◌<ℤ◌, List, [], ◌∷◌, ◌++◌, length, length-append, Option, Some, None}
use Rattle.std.proofs.Common.{cond, int_eq}
use Rattle.std.specs.Cmp.Lexicographic.{pointwise}
use Rattle.std.proofs.lemmas.Bool.{and_parts, true≢false}
use Rattle.std.proofs.lemmas.Bool.Decides.{Decides-int_eq}
use Rattle.std.proofs.lemmas.Option.{cond_some, none-some, same_Some}
use Rattle.std.proofs.lemmas.Slice.Eq.{slice_eq-Decides}
use lib.IntN.{*ℤ_comm}
use Rattle.isl_math.specs.Divide as divide
use Rattle.isl_math.specs.Divide.{floor_mod}
use Rattle.isl_math.specs.Dot.{dot, scaled, weighted_sum}
use Rattle.isl_math.proofs.DivideLaws.{Divides-same, Divides-+ℤ, Divides-minus, Divides-*ℤ, Divides-zero, Divides_trans, Divides-from_mod}
use Rattle.isl_math.proofs.DotLaws.{dot-append, dot-scaled}
use Rattle.isl_math.proofs.OrderLaws.{not_negative-*ℤ}
use Rattle.isl_math.proofs.Ring.{linear, neg_ℤ-*ℤ}
use Rattle.isl_piece.specs.declared.row.RowKind.{RowKind}
use Rattle.isl_piece.specs.declared.row.RowKind.TheVariants.{Zero, AtLeast, Divides, NotDivides}
use Rattle.isl_piece.specs.declared.row.Row.{Row}
use Rattle.isl_piece.specs.Normal.{congruence}
use Rattle.isl_piece.specs.Row.{HoldsRow, HoldsValue, HasModulus, IsWellFormed, value_at}
use Rattle.isl_piece.proofs.CombineLaws.{value_at-combination}
use Rattle.isl_piece.proofs.NormalCases.{int_lt-true, int_lt-false, negative_cases}
use Rattle.isl_refute.specs.Refutes.{is_factor, kind_of_sum, same_modulus, of_kind, sum_row, tie_row, mod_row, weaken_row, fresh_row}
use Rattle.isl_refute.specs.Refutes.{is_equality, is_bound, is_congruence, equality}

-- ---- tests
pub lt_from : (x y : ℤ) → int_lt x y ≡ true → x <ℤ y
lt_from x y e = elim (negative_cases (x -ℤ y)) [
  | inl n ↦ omega (arith, linear)
  | inr p ↦ absurd (true≢false (sym e ∙ int_lt-false x y (omega (arith, linear))))
]

not_negative : (a : ℤ) → not (int_lt a (pos 0)) ≡ true → pos 0 ≤ℤ a
not_negative a e = elim (negative_cases a) [
  | inl n ↦ absurd (true≢false (sym e ∙ ap not (int_lt-true a (pos 0) n)))
  | inr p ↦ p
]

zero_kind : (kind : RowKind) → is_equality kind ≡ true → kind ≡ Zero
zero_kind Zero e = refl
zero_kind AtLeast e = absurd (true≢false (sym e))
zero_kind Divides e = absurd (true≢false (sym e))
zero_kind NotDivides e = absurd (true≢false (sym e))

bound_kind : (kind : RowKind) → is_bound kind ≡ true → kind ≡ AtLeast
bound_kind Zero e = absurd (true≢false (sym e))
bound_kind AtLeast e = refl
bound_kind Divides e = absurd (true≢false (sym e))
bound_kind NotDivides e = absurd (true≢false (sym e))

congruence_kind : (kind : RowKind) → is_congruence kind ≡ true → kind ≡ Divides
congruence_kind Zero e = absurd (true≢false (sym e))
congruence_kind AtLeast e = absurd (true≢false (sym e))
congruence_kind Divides e = refl
congruence_kind NotDivides e = absurd (true≢false (sym e))

-- ---- sums
holds_same : (kind : RowKind) (k v w : ℤ) → v ≡ w → HoldsValue kind k v → HoldsValue kind k w
holds_same kind k v w e h = subst (HoldsValue kind k) e h

-- a multiple, by a factor that the kind takes
scaled_holds : (kind : RowKind) (k b w : ℤ) → is_factor kind b ≡ true → HoldsValue kind k w → HoldsValue kind k (b *ℤ w)
scaled_holds Zero k b w f h = rw h (omega (arith, linear))
scaled_holds AtLeast k b w f h = not_negative-*ℤ b w (not_negative b f) h
scaled_holds Divides k b w f h = Divides-same k (w *ℤ b) (b *ℤ w) (*ℤ_comm w b) (Divides-*ℤ k w b h)
scaled_holds NotDivides k b w f n = λ d. n
    (Divides-same k (b *ℤ w) w (let e = (Decides-int_eq b (pos 1)).0 f in rw e (omega (arith, linear))) d)

abbrev Summed : Option (RowKind × ℤ) → ℤ → Type 0
Summed None z = Unit {0}
Summed (Some both) z = HoldsValue both.0 both.1 z × HasModulus both.0 both.1

divides_summed : (j k v w : ℤ) → j ≡ k → divide.Divides j v → divide.Divides k w → divide.Divides j (v +ℤ w)
divides_summed j k v w e h g = Divides-+ℤ j v w h (subst (λ m. divide.Divides m w) (sym e) g)

same_kept : (kind : RowKind) (j k z : ℤ) → HasModulus kind j → (j ≡ k → HoldsValue kind j z) → Summed (same_modulus kind j k) z
same_kept kind j k z m f = by (int_eq j k) refl
  where
    by : (t : Bool) → int_eq j k ≡ t → Summed (cond t (Some (kind, j)) None) z
    by true e = (f ((Decides-int_eq j k).0 e), m)
    by false e = tt

kinds_summed : (first second : RowKind) (j k v w : ℤ) → HasModulus first j → HasModulus second k → HoldsValue first j v
    → HoldsValue second k w
    → Summed (kind_of_sum first j second k) (v +ℤ w)
kinds_summed Zero other j k v w l m h g = (holds_same other k w (v +ℤ w) (omega (arith, linear)) g, m)
kinds_summed AtLeast Zero j k v w l m h g = (holds_same AtLeast j v (v +ℤ w) (omega (arith, linear)) h, l)
kinds_summed AtLeast AtLeast j k v w l m h g = (omega (arith, linear), l)
kinds_summed AtLeast Divides j k v w l m h g = tt
kinds_summed AtLeast NotDivides j k v w l m h g = tt
kinds_summed Divides Zero j k v w l m h g = (holds_same Divides j v (v +ℤ w) (omega (arith, linear)) h, l)
kinds_summed Divides AtLeast j k v w l m h g = tt
kinds_summed Divides Divides j k v w l m h g = same_kept Divides j k (v +ℤ w) l (λ e. divides_summed j k v w e h g)
kinds_summed Divides NotDivides j k v w l m h n = same_kept NotDivides j k (v +ℤ w) l
    (λ e d. n (subst (λ i. divide.Divides i w) e (Divides-same j (v +ℤ w -ℤ v) w (omega (arith, linear)) (Divides-minus j (v +ℤ w) v d h))))
kinds_summed NotDivides Zero j k v w l m h g = (holds_same NotDivides j v (v +ℤ w) (omega (arith, linear)) h, l)
kinds_summed NotDivides AtLeast j k v w l m h g = tt
kinds_summed NotDivides Divides j k v w l m n g = same_kept NotDivides j k (v +ℤ w) l
    (λ e d. n (Divides-same j (v +ℤ w -ℤ w) v (omega (arith, linear))
    (Divides-minus j (v +ℤ w) w d (subst (λ i. divide.Divides i w) (sym e) g))))
kinds_summed NotDivides NotDivides j k v w l m h g = tt

pub length-sum : (a b : ℤ) (xs ys : List ℤ) → length xs ≡ length ys → length (weighted_sum a xs b ys) ≡ length xs
length-sum a b [] ys e = refl
length-sum a b (x ∷ xs) [] e = absurd (omega arith)
length-sum a b (x ∷ xs) (y ∷ ys) e = ap suc (length-sum a b xs ys (omega arith))

-- the row holds at the point, and is one over so many columns
pub record Stands (n : ℕ) (xs : List ℤ) (r : Row) : Type 0 where
  pub holds : HoldsRow r xs
  pub formed : IsWellFormed n r

pub sum_stands : (n : ℕ) (xs : List ℤ) (a b : ℤ) (r s sum : Row) → Stands n xs r → Stands n xs s → sum_row a b r s ≡ Some sum
    → Stands n xs sum
sum_stands n xs a b r s sum p q e = by (kind_of_sum r.kind r.k s.kind s.k) summed found.1
  where
    cs : List ℤ
    cs = weighted_sum a r.coefs b s.coefs

    c : ℤ
    c = a *ℤ r.constant +ℤ b *ℤ s.constant

    found : ((is_factor r.kind a && is_factor s.kind b) ≡ true) × (of_kind (kind_of_sum r.kind r.k s.kind s.k) cs c ≡ Some sum)
    found = split (is_factor r.kind a && is_factor s.kind b) (of_kind (kind_of_sum r.kind r.k s.kind s.k) cs c) e
      where
        split : (t : Bool) (o : Option Row) → cond t o None ≡ Some sum → (t ≡ true) × (o ≡ Some sum)
        split true o f = (refl, f)
        split false o f = absurd (none-some sum f)

    factors : (is_factor r.kind a ≡ true) × (is_factor s.kind b ≡ true)
    factors = and_parts (is_factor r.kind a) (is_factor s.kind b) found.0

    width : length r.coefs ≡ length s.coefs
    width = p.formed.width ∙ sym q.formed.width

    value : a *ℤ value_at r xs +ℤ b *ℤ value_at s xs ≡ dot cs xs +ℤ c
    value = sym (value_at-combination a r b s xs width)

    summed : Summed (kind_of_sum r.kind r.k s.kind s.k) (a *ℤ value_at r xs +ℤ b *ℤ value_at s xs)
    summed = kinds_summed r.kind s.kind r.k s.k (a *ℤ value_at r xs) (b *ℤ value_at s xs) p.formed.modulus q.formed.modulus
        (scaled_holds r.kind r.k a (value_at r xs) factors.0 p.holds) (scaled_holds s.kind s.k b (value_at s xs) factors.1 q.holds)

    by : (o : Option (RowKind × ℤ)) → Summed o (a *ℤ value_at r xs +ℤ b *ℤ value_at s xs) → of_kind o cs c ≡ Some sum → Stands n xs sum
    by None h f = absurd (none-some sum f)
    by (Some both) h f = subst (Stands n xs) (same_Some (record { kind = both.0; coefs = cs; constant = c; k = both.1 }) sum f) (record {
      holds = holds_same both.0 both.1 (a *ℤ value_at r xs +ℤ b *ℤ value_at s xs) (dot cs xs +ℤ c) value h.0;
      formed = record { width = length-sum a b r.coefs s.coefs width ∙ p.formed.width; modulus = h.1 };
    })

-- ---- one row or two
conditional : (t : Bool) (r made : Row) → cond t (Some r) None ≡ Some made → (t ≡ true) × (r ≡ made)
conditional t r made e = cond_some t r made e

pub tie_stands : (n : ℕ) (xs : List ℤ) (r s made : Row) → Stands n xs r → Stands n xs s → tie_row r s ≡ Some made → Stands n xs made
tie_stands n xs r s made p q e = subst (Stands n xs) found.1 (record {
  holds = zero;
  formed = record { width = p.formed.width; modulus = refl };
})
  where
    opposite : Bool
    opposite = pointwise int_eq s.coefs (scaled (negsuc 0) r.coefs)

    last : Bool
    last = int_eq s.constant (neg_ℤ r.constant)

    found : ((is_bound r.kind && (is_bound s.kind && (opposite && last))) ≡ true) × (equality r.coefs r.constant ≡ made)
    found = conditional (is_bound r.kind && (is_bound s.kind && (opposite && last))) (equality r.coefs r.constant) made e

    first : (is_bound r.kind ≡ true) × ((is_bound s.kind && (opposite && last)) ≡ true)
    first = and_parts (is_bound r.kind) (is_bound s.kind && (opposite && last)) found.0

    second : (is_bound s.kind ≡ true) × ((opposite && last) ≡ true)
    second = and_parts (is_bound s.kind) (opposite && last) first.1

    both : (opposite ≡ true) × (last ≡ true)
    both = and_parts opposite last second.1

    coefs : s.coefs ≡ scaled (negsuc 0) r.coefs
    coefs = (slice_eq-Decides Decides-int_eq s.coefs (scaled (negsuc 0) r.coefs) opposite refl).0 both.0

    constant : s.constant ≡ neg_ℤ r.constant
    constant = (Decides-int_eq s.constant (neg_ℤ r.constant)).0 both.1

    above : pos 0 ≤ℤ (dot r.coefs xs +ℤ r.constant)
    above = subst (λ k. HoldsValue k r.k (value_at r xs)) (bound_kind r.kind first.0) p.holds

    under : pos 0 ≤ℤ (dot s.coefs xs +ℤ s.constant)
    under = subst (λ k. HoldsValue k s.k (value_at s xs)) (bound_kind s.kind second.0) q.holds

    turned : dot s.coefs xs ≡ negsuc 0 *ℤ dot r.coefs xs
    turned = ap (λ cs. dot cs xs) coefs ∙ dot-scaled (negsuc 0) r.coefs xs

    zero : dot r.coefs xs +ℤ r.constant ≡ pos 0
    zero = by (dot r.coefs xs) (dot s.coefs xs) s.constant above under turned constant
      where
        by : (v w c : ℤ) → pos 0 ≤ℤ (v +ℤ r.constant) → pos 0 ≤ℤ (w +ℤ c) → w ≡ negsuc 0 *ℤ v → c ≡ neg_ℤ r.constant
            → v +ℤ r.constant ≡ pos 0
        by v w c a u t f = omega (arith, linear)

pub mod_stands : (n : ℕ) (xs : List ℤ) (k : ℤ) (r made : Row) → Stands n xs r → mod_row k r ≡ Some made → Stands n xs made
mod_stands n xs k r made p e = subst (Stands n xs) found.1 (record {
  holds = Divides-same k (pos 0) (value_at r xs) (sym zero) (Divides-zero k);
  formed = record { width = p.formed.width; modulus = (let l = lt_from (pos 1) k both.1 in omega (arith, linear)) };
})
  where
    found : ((is_equality r.kind && int_lt (pos 1) k) ≡ true) × (congruence r.coefs r.constant k ≡ made)
    found = conditional (is_equality r.kind && int_lt (pos 1) k) (congruence r.coefs r.constant k) made e

    both : (is_equality r.kind ≡ true) × (int_lt (pos 1) k ≡ true)
    both = and_parts (is_equality r.kind) (int_lt (pos 1) k) found.0

    zero : value_at r xs ≡ pos 0
    zero = subst (λ kind. HoldsValue kind r.k (value_at r xs)) (zero_kind r.kind both.0) p.holds

pub weaken_stands : (n : ℕ) (xs : List ℤ) (k : ℤ) (r made : Row) → Stands n xs r → weaken_row k r ≡ Some made → Stands n xs made
weaken_stands n xs k r made p e = subst (Stands n xs) found.1 (record {
  holds = Divides_trans k r.k (value_at r xs) (Divides-from_mod k r.k positive ((Decides-int_eq (floor_mod r.k k) (pos 0)).0 rest.1))
      divided;
  formed = record { width = p.formed.width; modulus = positive };
})
  where
    multiple : Bool
    multiple = int_eq (floor_mod r.k k) (pos 0)

    found : ((is_congruence r.kind && (int_lt (pos 1) k && multiple)) ≡ true) × (congruence r.coefs r.constant k ≡ made)
    found = conditional (is_congruence r.kind && (int_lt (pos 1) k && multiple)) (congruence r.coefs r.constant k) made e

    first : (is_congruence r.kind ≡ true) × ((int_lt (pos 1) k && multiple) ≡ true)
    first = and_parts (is_congruence r.kind) (int_lt (pos 1) k && multiple) found.0

    rest : (int_lt (pos 1) k ≡ true) × (multiple ≡ true)
    rest = and_parts (int_lt (pos 1) k) multiple first.1

    positive : pos 0 <ℤ k
    positive = let l = lt_from (pos 1) k rest.0 in omega (arith, linear)

    divided : divide.Divides r.k (value_at r xs)
    divided = subst (λ kind. HoldsValue kind r.k (value_at r xs)) (congruence_kind r.kind first.0) p.holds

-- some number of the new column makes the equality hold
pub fresh_stands : (n : ℕ) (xs : List ℤ) (r made : Row) → length xs ≡ n → Stands n xs r → fresh_row r ≡ Some made
    → (w : ℤ) × Stands (n + 1) (xs ++ w ∷ []) made
fresh_stands n xs r made wide p e = (
  divided.quotient,
  subst (Stands (n + 1) (xs ++ divided.quotient ∷ [])) found.1 (record {
    holds = zero;
    formed = record { width = (let l = length-append r.coefs (neg_ℤ r.k ∷ []) in let w = p.formed.width in omega arith); modulus = refl };
  }),
)
  where
    found : (is_congruence r.kind ≡ true) × (equality (r.coefs ++ neg_ℤ r.k ∷ []) r.constant ≡ made)
    found = conditional (is_congruence r.kind) (equality (r.coefs ++ neg_ℤ r.k ∷ []) r.constant) made e

    divided : divide.Divides r.k (value_at r xs)
    divided = subst (λ kind. HoldsValue kind r.k (value_at r xs)) (congruence_kind r.kind found.0) p.holds

    zero : dot (r.coefs ++ neg_ℤ r.k ∷ []) (xs ++ divided.quotient ∷ []) +ℤ r.constant ≡ pos 0
    zero = by (dot (r.coefs ++ neg_ℤ r.k ∷ []) (xs ++ divided.quotient ∷ [])) (dot r.coefs xs) r.k divided.quotient
        (dot-append r.coefs (neg_ℤ r.k ∷ []) xs (divided.quotient ∷ []) (p.formed.width ∙ sym wide)) divided.is
      where
        by : (z v k q : ℤ) → z ≡ v +ℤ (neg_ℤ k *ℤ q +ℤ pos 0) → v +ℤ r.constant ≡ k *ℤ q → z +ℤ r.constant ≡ pos 0
        by z v k q f g = let t = neg_ℤ-*ℤ k q in omega (arith, linear)
