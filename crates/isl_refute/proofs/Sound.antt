-- What is refuted holds nowhere outside the outs.
use Rattle.std.proofs.Common.{int_eq, not, ◌≡◌, ◌⊎◌, inl, inr, ◌∙◌, refl, sym, ap, arith, subst, Bool, true, false, ◌&&◌, int_lt, ℕ, zero}
use Rattle.std.proofs.Common.{suc, ◌+◌, ◌-◌, ◌<◌, ◌≤◌, ℤ, pos, negsuc, ◌+ℤ◌, ◌-ℤ◌, ◌*ℤ◌, ◌≤ℤ◌, ◌<ℤ◌, List, [], ◌∷◌, ◌++◌, length}
use Rattle.std.proofs.Common.{length-append, map, replicate, Option, Some, None, slice_get, unsigned_abs}
use Rattle.std.specs.List.{All, Any, list_all, range_with_len}
use Rattle.std.proofs.lemmas.Bool.{and_parts, true≢false, eqb-true}
use Rattle.std.proofs.lemmas.Bool.Decides.{Decides-int_eq, Decides-not}
use Rattle.std.proofs.lemmas.Option.{none-some, same_Some}
use Rattle.std.proofs.lemmas.List.{length-replicate}
use Rattle.std.proofs.lemmas.List.Elements.{All-nil, All-cons, All-head, All-tail, All-push, All-weaker, All-append, All-map}
use Rattle.isl_math.specs.Divide.{floor_div, floor_mod}
use Rattle.isl_math.specs.Dot.{dot}
use Rattle.isl_math.proofs.DivideLaws.{floor_split, floor_mod_bounds, mod-from_Divides, Divides-from_mod}
use Rattle.isl_math.proofs.DotLaws.{dot-append, dot-scaled, dot-zeros}
use Rattle.isl_math.proofs.ListLaws.{All-unmapped, All-parts, All-pass}
use Rattle.isl_math.proofs.Ring.{linear}
use Rattle.isl_piece.specs.declared.row.RowKind.{RowKind}
use Rattle.isl_piece.specs.declared.row.RowKind.TheVariants.{Zero, AtLeast, Divides, NotDivides}
use Rattle.isl_piece.specs.declared.row.Row.{Row}
use Rattle.isl_piece.specs.Negation.{above, below, negated_form, negation_of}
use Rattle.isl_piece.specs.Normal.{bound, congruence}
use Rattle.isl_piece.specs.Row.{HoldsRow, HoldsValue, HasModulus, IsWellFormed, value_at}
use Rattle.isl_piece.specs.System.{HoldRows, widened}
use Rattle.isl_piece.proofs.ContentLaws.{length-scaled, zero_cases}
use Rattle.isl_piece.proofs.NegationLaws.{negation_holds}
use Rattle.isl_piece.proofs.NormalCases.{divides_cases, negative_cases, int_lt-false}
use Rattle.isl_refute.specs.declared.tree.Cert.{Cert, False, Add', Tie', Mod', Weaken', Fresh', Split', Residue', Outside', Row_of-Cert}
use Rattle.isl_refute.specs.declared.tree.Cert.{end_of-Cert, more_of-Cert}
use Rattle.isl_refute.specs.declared.tree.Form.{Form}
use Rattle.isl_refute.specs.Refutes.{standing_row, and_row, with_both, with_one, where_some, is_false, holds_number, is_over, padded}
use Rattle.isl_refute.specs.Refutes.{negations, residue_rows}
use Rattle.isl_refute.specs.Refutes.{sum_row, tie_row, mod_row, weaken_row, fresh_row, refutes, refutes_in, refutes_each}
use Rattle.isl_refute.proofs.StandingLaws.{standing_holds, standing_over}
use Rattle.isl_refute.proofs.StepLaws.{Stands, sum_stands, tie_stands, mod_stands, weaken_stands, fresh_stands, lt_from}

-- ---- options
pub found_some : {A : Type 0} (o : Option A) (test : A → Bool) → where_some o test ≡ true → (x : A) × (o ≡ Some x) × (test x ≡ true)
found_some None test e = absurd (true≢false (sym e))
found_some (Some x) test e = (x, refl, e)

found_one : (o : Option Row) (f : Row → Option Row) (made : Row) → with_one o f ≡ Some made → (r : Row) × (o ≡ Some r) × (f r ≡ Some made)
found_one None f made e = absurd (none-some made e)
found_one (Some r) f made e = (r, refl, e)

found_both : (o p : Option Row) (f : Row → Row → Option Row) (made : Row) → with_both o p f ≡ Some made
    → (r : Row) × (s : Row) × (o ≡ Some r) × (p ≡ Some s) × (f r s ≡ Some made)
found_both None p f made e = absurd (none-some made e)
found_both (Some r) None f made e = absurd (none-some made e)
found_both (Some r) (Some s) f made e = (r, s, refl, refl, e)

pub at_place : {X : Type 0} (P : X → Type 0) (xs : List X) (i : ℕ) (x : X) → All P xs → slice_get xs i ≡ Some x → P x
at_place P [] i x h e = absurd (none-some x e)
at_place P (y ∷ ys) zero x h e = subst P (same_Some y x e) (All-head P y ys h)
at_place P (y ∷ ys) (suc i) x h e = at_place P ys i x (All-tail P y ys h) e

-- ---- rows at a point, and over more columns
-- rows over so many columns, all of which hold at the point
pub record Facts (n : ℕ) (xs : List ℤ) (rows : List Row) : Type 0 where
  pub wide : length xs ≡ n
  pub stand : All (Stands n xs) rows

one_more : (n : ℕ) (xs : List ℤ) (rows : List Row) (r : Row) → Facts n xs rows → Stands n xs r → Facts n xs (and_row rows r)
one_more n xs rows r f s = record {
  wide = f.wide;
  stand = All-push (Stands n xs) rows (standing_row r) f.stand (record {
    holds = (standing_holds r xs s.formed.modulus).1 s.holds;
    formed = standing_over n r s.formed;
  });
}

widened_stand : (n : ℕ) (xs : List ℤ) (w : ℤ) (r : Row) → length xs ≡ n → Stands n xs r → Stands (n + 1) (xs ++ w ∷ []) (widened r)
widened_stand n xs w r wide s = record {
  holds = subst (HoldsValue r.kind r.k) (sym value) s.holds;
  formed = record {
    width = (let l = length-append r.coefs (pos 0 ∷ []) in let m = s.formed.width in omega arith);
    modulus = s.formed.modulus;
  };
}
  where
    value : dot (r.coefs ++ pos 0 ∷ []) (xs ++ w ∷ []) +ℤ r.constant ≡ dot r.coefs xs +ℤ r.constant
    value = by (dot (r.coefs ++ pos 0 ∷ []) (xs ++ w ∷ [])) (dot r.coefs xs)
        (dot-append r.coefs (pos 0 ∷ []) xs (w ∷ []) (s.formed.width ∙ sym wide))
      where
        by : (z v : ℤ) → z ≡ v +ℤ (pos 0 *ℤ w +ℤ pos 0) → z +ℤ r.constant ≡ v +ℤ r.constant
        by z v f = omega (arith, linear)

wider : (n : ℕ) (xs : List ℤ) (w : ℤ) (rows : List Row) → Facts n xs rows → Facts (n + 1) (xs ++ w ∷ []) (map widened rows)
wider n xs w rows f = record {
  wide = (let l = length-append xs (w ∷ []) in let m = f.wide in omega arith);
  stand = All-map (Stands (n + 1) (xs ++ w ∷ [])) widened rows
      (All-weaker (Stands n xs) (λ r. Stands (n + 1) (xs ++ w ∷ []) (widened r)) (λ r s. widened_stand n xs w r f.wide s) rows f.stand);
}

-- a form does not see numbers behind its columns, nor zeros behind its own
dot_more : (cs xs : List ℤ) (w : ℤ) → length cs ≤ length xs → dot cs (xs ++ w ∷ []) ≡ dot cs xs
dot_more [] xs w l = refl
dot_more (c ∷ cs) [] w l = absurd (omega arith)
dot_more (c ∷ cs) (x ∷ xs) w l = ap (λ z. c *ℤ x +ℤ z) (dot_more cs xs w (omega arith))

dot_padded : (cs : List ℤ) (k : ℕ) (xs : List ℤ) → dot (cs ++ replicate k (pos 0)) xs ≡ dot cs xs
dot_padded [] k xs = dot-zeros k xs
dot_padded (c ∷ cs) k [] = refl
dot_padded (c ∷ cs) k (x ∷ xs) = ap (λ z. c *ℤ x +ℤ z) (dot_padded cs k xs)

-- ---- outs
-- no out holds at the point; its rows are over the first columns
pub record Fails (n : ℕ) (xs : List ℤ) (out : List Row) : Type 0 where
  pub formed : All (λ r. (length r.coefs ≤ n) × HasModulus r.kind r.k) out
  pub fails : ¬ HoldRows out xs

still_fails : (n : ℕ) (xs : List ℤ) (w : ℤ) (out : List Row) → length xs ≡ n → Fails n xs out → Fails (n + 1) (xs ++ w ∷ []) out
still_fails n xs w out wide f = record {
  formed = All-weaker (λ r. (length r.coefs ≤ n) × HasModulus r.kind r.k) (λ r. (length r.coefs ≤ n + 1) × HasModulus r.kind r.k)
      (λ r h. (let l = h.0 in omega arith, h.1)) out f.formed;
  fails = λ h. f.fails (hold out f.formed h);
}
  where
    hold : (rows : List Row) → All (λ r. (length r.coefs ≤ n) × HasModulus r.kind r.k) rows → HoldRows rows (xs ++ w ∷ [])
        → HoldRows rows xs
    hold [] l h = All-nil (λ r. HoldsRow r xs)
    hold (r ∷ rows) l h = All-cons (λ s. HoldsRow s xs) r rows
        (subst (λ z. HoldsValue r.kind r.k (z +ℤ r.constant))
        (dot_more r.coefs xs w (let m = (All-head (λ s. (length s.coefs ≤ n) × HasModulus s.kind s.k) r rows l).0 in omega arith))
        (All-head (λ s. HoldsRow s (xs ++ w ∷ [])) r rows h))
        (hold rows (All-tail (λ s. (length s.coefs ≤ n) × HasModulus s.kind s.k) r rows l)
        (All-tail (λ s. HoldsRow s (xs ++ w ∷ [])) r rows h))

-- ---- negations
value_stable : (kind : RowKind) (k z : ℤ) → HasModulus kind k → ¬ (¬ HoldsValue kind k z) → HoldsValue kind k z
value_stable Zero k z m n = elim (zero_cases z) [ inl h ↦ h | inr h ↦ absurd (n h) ]
value_stable AtLeast k z m n = elim (negative_cases z) [ inl h ↦ absurd (n (λ p. omega (arith, linear))) | inr h ↦ h ]
value_stable Divides k z m n = elim (divides_cases k z m) [ inl h ↦ h | inr h ↦ absurd (n h) ]
value_stable NotDivides k z m n = elim (divides_cases k z m) [ inl h ↦ absurd (n (λ p. p h)) | inr h ↦ h ]

negated_formed : (n : ℕ) (r : Row) → IsWellFormed n r → All (IsWellFormed n) (negation_of r)
negated_formed n r f = by r.kind r.k f.modulus
  where
    by : (kind : RowKind) (k : ℤ) → HasModulus kind k → All (IsWellFormed n) (negated_form kind r.coefs r.constant k)
    by Zero k m = All-cons (IsWellFormed n) (above r.coefs r.constant) (below r.coefs r.constant ∷ [])
        (record { width = f.width; modulus = refl })
        (All-cons (IsWellFormed n) (below r.coefs r.constant) []
        (record { width = length-scaled (negsuc 0) r.coefs ∙ f.width; modulus = refl })
        (All-nil (IsWellFormed n)))
    by AtLeast k m = All-cons (IsWellFormed n) (below r.coefs r.constant) []
        (record { width = length-scaled (negsuc 0) r.coefs ∙ f.width; modulus = refl }) (All-nil (IsWellFormed n))
    by Divides k m = All-cons (IsWellFormed n) (record { kind = NotDivides; coefs = r.coefs; constant = r.constant; k = k }) []
        (record { width = f.width; modulus = m }) (All-nil (IsWellFormed n))
    by NotDivides k m = All-cons (IsWellFormed n) (record { kind = Divides; coefs = r.coefs; constant = r.constant; k = k }) []
        (record { width = f.width; modulus = m }) (All-nil (IsWellFormed n))

pub padded_formed : (n : ℕ) (r : Row) → length r.coefs ≤ n → HasModulus r.kind r.k → IsWellFormed n (padded n r)
padded_formed n r l m = record {
  width = (let a = length-append r.coefs (replicate (n - length r.coefs) (pos 0)) in let b = length-replicate (n - length r.coefs) (pos 0)
      in omega arith);
  modulus = m;
}

pub negations_formed : (n : ℕ) (out : List Row) → All (λ r. (length r.coefs ≤ n) × HasModulus r.kind r.k) out
    → All (IsWellFormed n) (negations n out)
negations_formed n [] h = All-nil (IsWellFormed n)
negations_formed n (r ∷ rows) h =
    let first = All-head (λ s. (length s.coefs ≤ n) × HasModulus s.kind s.k) r rows h in
    All-append (IsWellFormed n) (negation_of (padded n r)) (negations n rows)
    (negated_formed n (padded n r) (padded_formed n r first.0 first.1))
    (negations_formed n rows (All-tail (λ s. (length s.coefs ≤ n) × HasModulus s.kind s.k) r rows h))

none_any : {X : Type 0} (P : X → Type 0) (xs : List X) → All (λ x. ¬ P x) xs → ¬ Any P xs
none_any P xs h a = (rw a.3 at (h a.0 a.1 a.2)) a.4

-- where the negation of no row holds, all rows do
rows_hold : (n : ℕ) (xs : List ℤ) (out : List Row) → All (λ r. (length r.coefs ≤ n) × HasModulus r.kind r.k) out
    → All (λ r. ¬ HoldsRow r xs) (negations n out) → HoldRows out xs
rows_hold n xs [] f h = All-nil (λ r. HoldsRow r xs)
rows_hold n xs (r ∷ rows) f h =
    let first = All-head (λ s. (length s.coefs ≤ n) × HasModulus s.kind s.k) r rows f in
    let parts = All-parts (λ s. ¬ HoldsRow s xs) (negation_of (padded n r)) (negations n rows) h in
    let twice : ¬ (¬ HoldsRow (padded n r) xs) = (λ m. none_any (λ s. HoldsRow s xs) (negation_of (padded n r)) parts.0
    ((negation_holds (padded n r) xs first.1).1 m)) in
    let wide = value_stable r.kind r.k (value_at (padded n r) xs) first.1 twice in
    All-cons (λ s. HoldsRow s xs) r rows
    (subst (λ z. HoldsValue r.kind r.k (z +ℤ r.constant)) (dot_padded r.coefs (n - length r.coefs) xs) wide)
    (rows_hold n xs rows (All-tail (λ s. (length s.coefs ≤ n) × HasModulus s.kind s.k) r rows f) parts.1)

-- ---- cases
-- a form is at least 0, or at most -1
split_cases : (xs cs : List ℤ) (c : ℤ) → HoldsRow (bound cs c) xs ⊎ HoldsRow (below cs c) xs
split_cases xs cs c = elim (negative_cases (dot cs xs +ℤ c)) [
  | inl n ↦ inr (let e = dot-scaled (negsuc 0) cs xs in omega (arith, linear))
  | inr p ↦ inl p
]

-- a form leaves one of the numbers from 0 to k - 1
residue_at : (xs cs : List ℤ) (c k : ℤ) → pos 1 <ℤ k → (m : ℕ) × (m < unsigned_abs k) × HoldsRow (congruence cs (c -ℤ pos m) k) xs
residue_at xs cs c k l = by (floor_mod v k) (floor_mod_bounds v k positive) refl
  where
    positive : pos 0 <ℤ k
    positive = omega (arith, linear)

    v : ℤ
    v = dot cs xs +ℤ c

    by : (m : ℤ) → (pos 0 ≤ℤ m) × (m <ℤ k) → m ≡ floor_mod v k → (m : ℕ) × (m < unsigned_abs k) × HoldsRow (congruence cs (c -ℤ pos m) k) xs
    by (pos m) b e = (
      m,
      (let h = b.1 in omega (arith, linear)),
      record {
        quotient = floor_div v k;
        is = (let s = floor_split v k positive in split (dot cs xs) (floor_div v k) (k *ℤ floor_div v k) m (floor_mod v k) s e);
      },
    )
      where
        split : (d q p : ℤ) (m : ℕ) (r : ℤ) → p +ℤ r ≡ d +ℤ c → pos m ≡ r → d +ℤ (c -ℤ pos m) ≡ p
        split d q p m r s e = omega (arith, linear)
    by (negsuc m) b e = absurd (let h = b.0 in omega (arith, linear))

pub residue_formed : (n : ℕ) (form : Form) (k : ℤ) → length form.coefs ≡ n → pos 0 <ℤ k → (ms : List ℕ)
    → All (IsWellFormed n) (map (λ r. congruence form.coefs (form.constant -ℤ pos r) k) ms)
residue_formed n form k w p [] = All-nil (IsWellFormed n)
residue_formed n form k w p (m ∷ ms) = All-cons (IsWellFormed n) (congruence form.coefs (form.constant -ℤ pos m) k)
    (map (λ r. congruence form.coefs (form.constant -ℤ pos r) k) ms) (record { width = w; modulus = p }) (residue_formed n form k w p ms)

in_range : (P : ℕ → Type 0) (start count m : ℕ) → All P (range_with_len start count) → start ≤ m → m < start + count → P m
in_range P start zero m h l u = absurd (omega arith)
in_range P start (suc count) m h l u = elim (same_or_later start m l) [
  | inl e ↦ subst P e (All-head P start (range_with_len (start + 1) count) h)
  | inr l ↦ in_range P (start + 1) count m (All-tail P start (range_with_len (start + 1) count) h) l (omega arith)
]
  where
    same_or_later : (a b : ℕ) → a ≤ b → (a ≡ b) ⊎ (a + 1 ≤ b)
    same_or_later zero zero l = inl refl
    same_or_later zero (suc b) l = inr (omega arith)
    same_or_later (suc a) zero l = absurd (omega arith)
    same_or_later (suc a) (suc b) l = elim (same_or_later a b (omega arith)) [ inl e ↦ inl (ap suc e) | inr m ↦ inr (omega arith) ]

over_width : (n : ℕ) (form : Form) → is_over n form ≡ true → length form.coefs ≡ n
over_width n form e = eqb-true (length form.coefs) n e

-- a row that is constant and false
false_holds : {n : ℕ} (xs : List ℤ) (r : Row) → Stands n xs r → ¬ (is_false r ≡ true)
false_holds xs r s e = by r.kind r.k s.formed.modulus both.1 (subst (HoldsValue r.kind r.k) value s.holds)
  where
    both : (list_all (λ c. int_eq c (pos 0)) r.coefs ≡ true) × (not (holds_number r.kind r.k r.constant) ≡ true)
    both = and_parts (list_all (λ c. int_eq c (pos 0)) r.coefs) (not (holds_number r.kind r.k r.constant)) e

    zeros : (cs ys : List ℤ) → All (λ c. int_eq c (pos 0) ≡ true) cs → dot cs ys ≡ pos 0
    zeros [] ys h = refl
    zeros (c ∷ cs) [] h = refl
    zeros (c ∷ cs) (y ∷ ys) h =
        let first = (Decides-int_eq c (pos 0)).0 (All-head (λ c. int_eq c (pos 0) ≡ true) c cs h) in
        let rest = zeros cs ys (All-tail (λ c. int_eq c (pos 0) ≡ true) c cs h) in
        rw (first, rest) (omega (arith, linear))

    value : value_at r xs ≡ r.constant
    value = let z = zeros r.coefs xs (All-pass (λ c. int_eq c (pos 0)) r.coefs both.0) in omega (arith, linear)

    twice : (b : Bool) → not (not b) ≡ true → b ≡ true
    twice true e = refl
    twice false e = e

    by : (kind : RowKind) (k : ℤ) → HasModulus kind k → not (holds_number kind k r.constant) ≡ true → ¬ HoldsValue kind k r.constant
    by Zero k m t h = (Decides-not (int_eq r.constant (pos 0)) (Decides-int_eq r.constant (pos 0))).0 t h
    by AtLeast k m t h = true≢false (sym (twice (int_lt r.constant (pos 0)) t) ∙ int_lt-false r.constant (pos 0) h)
    by Divides k m t h =
        (Decides-not (int_eq (floor_mod r.constant k) (pos 0)) (Decides-int_eq (floor_mod r.constant k) (pos 0))).0 t
        (mod-from_Divides k r.constant m h)
    by NotDivides k m t h =
        h (Divides-from_mod k r.constant m ((Decides-int_eq (floor_mod r.constant k) (pos 0)).0
        (twice (int_eq (floor_mod r.constant k) (pos 0)) t)))

-- ---- what is refuted
module _ (outs : List (List Row)) where
  mutual
    pub sound : (cert : Cert) (n : ℕ) (rows : List Row) (xs : List ℤ) → Facts n xs rows → All (Fails n xs) outs
        → ¬ (refutes outs n rows cert ≡ true)
    sound (False i) n rows xs f o e =
        let r = found_some (slice_get rows i) (λ r. is_false r) e in
        false_holds xs r.0 (at_place (Stands n xs) rows i r.0 f.stand r.1) r.2
    sound (Add' i a j b s part) n rows xs f o e =
        let g = found_some (with_both (slice_get rows i) (slice_get rows j) (sum_row a b)) (λ r. refutes_in outs n (and_row rows r) part) e
        in
        let h = found_both (slice_get rows i) (slice_get rows j) (sum_row a b) g.0 g.1 in
        let first = at_place (Stands n xs) rows i h.0 f.stand h.2 in
        let second = at_place (Stands n xs) rows j h.1 f.stand h.3 in
        sound_in part n (and_row rows g.0) xs (one_more n xs rows g.0 f (sum_stands n xs a b h.0 h.1 g.0 first second h.4)) o g.2
    sound (Tie' i j s part) n rows xs f o e =
        let g = found_some (with_both (slice_get rows i) (slice_get rows j) tie_row) (λ r. refutes_in outs n (and_row rows r) part) e in
        let h = found_both (slice_get rows i) (slice_get rows j) tie_row g.0 g.1 in
        let first = at_place (Stands n xs) rows i h.0 f.stand h.2 in
        let second = at_place (Stands n xs) rows j h.1 f.stand h.3 in
        sound_in part n (and_row rows g.0) xs (one_more n xs rows g.0 f (tie_stands n xs h.0 h.1 g.0 first second h.4)) o g.2
    sound (Mod' i k s part) n rows xs f o e =
        let g = found_some (with_one (slice_get rows i) (mod_row k)) (λ r. refutes_in outs n (and_row rows r) part) e in
        let h = found_one (slice_get rows i) (mod_row k) g.0 g.1 in
        sound_in part n (and_row rows g.0) xs
        (one_more n xs rows g.0 f (mod_stands n xs k h.0 g.0 (at_place (Stands n xs) rows i h.0 f.stand h.1) h.2)) o g.2
    sound (Weaken' i k s part) n rows xs f o e =
        let g = found_some (with_one (slice_get rows i) (weaken_row k)) (λ r. refutes_in outs n (and_row rows r) part) e in
        let h = found_one (slice_get rows i) (weaken_row k) g.0 g.1 in
        sound_in part n (and_row rows g.0) xs
        (one_more n xs rows g.0 f (weaken_stands n xs k h.0 g.0 (at_place (Stands n xs) rows i h.0 f.stand h.1) h.2)) o g.2
    sound (Fresh' i s part) n rows xs f o e =
        let g = found_some (with_one (slice_get rows i) fresh_row) (λ r. refutes_in outs (n + 1) (and_row (map widened rows) r) part) e in
        let h = found_one (slice_get rows i) fresh_row g.0 g.1 in
        let w = fresh_stands n xs h.0 g.0 f.wide (at_place (Stands n xs) rows i h.0 f.stand h.1) h.2 in
        sound_in part (n + 1) (and_row (map widened rows) g.0) (xs ++ w.0 ∷ [])
        (one_more (n + 1) (xs ++ w.0 ∷ []) (map widened rows) g.0 (wider n xs w.0 rows f) w.1)
        (All-weaker (Fails n xs) (Fails (n + 1) (xs ++ w.0 ∷ [])) (λ out h. still_fails n xs w.0 out f.wide h) outs o) g.2
    sound (Split' form s up t down) n rows xs f o e =
        let more = bound form.coefs form.constant in
        let less = below form.coefs form.constant in
        let parts = and_parts (is_over n form) (refutes_in outs n (and_row rows more) up && refutes_in outs n (and_row rows less) down) e in
        let both = and_parts (refutes_in outs n (and_row rows more) up) (refutes_in outs n (and_row rows less) down) parts.1 in
        let wide = over_width n form parts.0 in
        elim (split_cases xs form.coefs form.constant) [
          | inl h ↦ sound_in up n (and_row rows more) xs
              (one_more n xs rows more f (record { holds = h; formed = record { width = wide; modulus = refl } })) o both.0
          | inr h ↦ sound_in down n (and_row rows less) xs
              (one_more n xs rows less f (record {
                holds = h;
                formed = record { width = length-scaled (negsuc 0) form.coefs ∙ wide; modulus = refl };
              })) o both.1
        ]
    sound (Residue' form k s parts) n rows xs f o e =
        let both = and_parts (is_over n form) (int_lt (pos 1) k && refutes_each outs n rows (residue_rows form k) parts) e in
        let rest = and_parts (int_lt (pos 1) k) (refutes_each outs n rows (residue_rows form k) parts) both.1 in
        let large = lt_from (pos 1) k rest.0 in
        let at = residue_at xs form.coefs form.constant k large in
        let wide = over_width n form both.0 in
        let all = sound_each (residue_rows form k) parts n rows xs f o
        (residue_formed n form k wide (omega (arith, linear)) (range_with_len 0 (unsigned_abs k))) rest.1 in
        let none = All-unmapped (λ r. ¬ HoldsRow r xs) (λ r. congruence form.coefs (form.constant -ℤ pos r) k)
        (range_with_len 0 (unsigned_abs k)) all in
        in_range (λ m. ¬ HoldsRow (congruence form.coefs (form.constant -ℤ pos m) k) xs) 0 (unsigned_abs k) at.0 none (omega arith)
        (let l = at.1 in omega arith) at.2
    sound (Outside' q s parts) n rows xs f o e =
        let g = found_some (slice_get outs q) (λ out. refutes_each outs n rows (negations n out) parts) e in
        let out = at_place (Fails n xs) outs q g.0 o g.1 in
        out.fails (rows_hold n xs g.0 out.formed
        (sound_each (negations n g.0) parts n rows xs f o (negations_formed n g.0 out.formed) g.2))

    sound_in : {m : _} → (part : Row_of-Cert m) (n : ℕ) (rows : List Row) (xs : List ℤ) → Facts n xs rows → All (Fails n xs) outs
        → ¬ (refutes_in outs n rows part ≡ true)
    sound_in end_of-Cert n rows xs f o e = true≢false (sym e)
    sound_in (more_of-Cert cert rest) n rows xs f o e = sound cert n rows xs f o e

    sound_each : {m : _} → (more : List Row) (parts : Row_of-Cert m) (n : ℕ) (rows : List Row) (xs : List ℤ) → Facts n xs rows
        → All (Fails n xs) outs → All (IsWellFormed n) more → refutes_each outs n rows more parts ≡ true → All (λ r. ¬ HoldsRow r xs) more
    sound_each [] end_of-Cert n rows xs f o formed e = All-nil (λ r. ¬ HoldsRow r xs)
    sound_each [] (more_of-Cert cert rest) n rows xs f o formed e = absurd (true≢false (sym e))
    sound_each (r ∷ more) end_of-Cert n rows xs f o formed e = absurd (true≢false (sym e))
    sound_each (r ∷ more) (more_of-Cert cert rest) n rows xs f o formed e =
        let both = and_parts (refutes outs n (and_row rows r) cert) (refutes_each outs n rows more rest) e in
        All-cons (λ s. ¬ HoldsRow s xs) r more
        (λ h. sound cert n (and_row rows r) xs
        (one_more n xs rows r f (record { holds = h; formed = All-head (IsWellFormed n) r more formed })) o both.0)
        (sound_each more rest n rows xs f o (All-tail (IsWellFormed n) r more formed) both.1)
