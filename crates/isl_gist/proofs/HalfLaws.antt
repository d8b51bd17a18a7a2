-- The halves of equations, and rows of which some are left.
use Rattle.std.proofs.Common.{◌≡◌, ◌≢◌, ◌↔◌, ◌⊎◌, inl, inr, refl, sym, ap, ◌∙◌, subst, arith, ℕ, ℤ}
use Rattle.std.proofs.Common.{pos, negsuc, neg_ℤ, ◌+ℤ◌, ◌*ℤ◌, ◌≤ℤ◌, ◌≤◌}
use Rattle.std.proofs.Common.{List, [], ◌∷◌, ◌++◌, get_or, unsigned_abs, append_assoc}
use Rattle.std.specs.List.{All}
use Rattle.std.proofs.lemmas.List.Elements.{All-nil, All-cons, All-head, All-tail, All-append, All-map}
use Rattle.isl_math.specs.Divide.{floor_div}
use Rattle.isl_math.specs.Dot.{dot, scaled}
use Rattle.isl_math.specs.Gcd.{content}
use Rattle.isl_math.specs.Order.{sign_of}
use Rattle.isl_math.proofs.Ring.{linear}
use Rattle.isl_math.proofs.DotLaws.{dot-scaled}
use Rattle.isl_meter.specs.Gauge.{Gauge, IsWithin}
use Rattle.isl_piece.specs.declared.row.RowKind.TheVariants.{Zero, AtLeast}
use Rattle.isl_piece.specs.declared.row.Row.{Row}
use Rattle.isl_piece.specs.Normal.{Kept, normal_form, normal_row, normal_zero, normal_at_least, upright, bound}
use Rattle.isl_piece.specs.Numbers.{divided, lead}
use Rattle.isl_piece.specs.Row.{HoldsRow, HasModulus, IsRowUpTo, value_at}
use Rattle.isl_piece.specs.System.{HoldRows}
use Rattle.isl_piece.proofs.ContentLaws.{content-divided, content-scaled, lead_not_zero, length-scaled, sign_squared}
use Rattle.isl_piece.proofs.NormalCases.{normal_zero_by, normal_at_least-kept}
use Rattle.isl_piece.proofs.NumberLaws.{divided_one, quotient_one}
use Rattle.isl_gist.specs.Halves.{lower_half, upper_half, none, more, AreSomeOf, IsWhatStands}
use Rattle.isl_gist.specs.Thinned.{IsRowOver}

-- ---- at points
negative_value : (r : Row) (xs : List ℤ) → value_at (lower_half r) xs ≡ neg_ℤ (value_at r xs)
negative_value r xs = rw (dot-scaled (negsuc 0) r.coefs xs) (by (dot r.coefs xs) r.constant)
  where
    by : (z c : ℤ) → negsuc 0 *ℤ z +ℤ neg_ℤ c ≡ neg_ℤ (z +ℤ c)
    by z c = omega (arith, linear)

-- an equation holds where its halves do
pub both_halves : (r : Row) (xs : List ℤ) → r.kind ≡ Zero → HoldsRow r xs ↔ (HoldsRow (upper_half r) xs × HoldsRow (lower_half r) xs)
both_halves r xs zero = (
  (λ h. by (value_at r xs) (value_at (lower_half r) xs) (negative_value r xs) (rw zero at h)),
  (λ h. rw zero (back (value_at r xs) (value_at (lower_half r) xs) (negative_value r xs) h.0 h.1)),
)
  where
    by : (z w : ℤ) → w ≡ neg_ℤ z → z ≡ pos 0 → (pos 0 ≤ℤ z) × (pos 0 ≤ℤ w)
    by z w e h = (omega (arith, linear), omega (arith, linear))

    back : (z w : ℤ) → w ≡ neg_ℤ z → pos 0 ≤ℤ z → pos 0 ≤ℤ w → z ≡ pos 0
    back z w e h k = omega (arith, linear)

-- ---- what stands of a row
module _ (P : Row → Type 0) (halves : (r : Row) → r.kind ≡ Zero → P r → P (upper_half r) × P (lower_half r)) where
  pub stands_all : (r : Row) (left : List Row) → IsWhatStands r left → P r → All P left
  stands_all r left (inl is) p = rw is (All-cons P r [] p (All-nil P))
  stands_all r left (inr (inl is)) p = rw is (All-nil P)
  stands_all r left (inr (inr (zero, inl is))) p = rw is (All-cons P (upper_half r) [] (halves r zero p).0 (All-nil P))
  stands_all r left (inr (inr (zero, inr is))) p = rw is (All-cons P (lower_half r) [] (halves r zero p).1 (All-nil P))

  -- what rows and their halves have, those that are left have
  pub some_all : (rows left : List Row) → AreSomeOf rows left → All P rows → All P left
  some_all [] left none all = all
  some_all (r ∷ rows) left (more {stands = stands} {left = rest} is others) all =
      All-append P stands rest (stands_all r stands is (All-head P r rows all)) (some_all rows rest others (All-tail P r rows all))

-- what is left of rows holds where they do
pub some_hold : (xs : List ℤ) (rows left : List Row) → AreSomeOf rows left → HoldRows rows xs → HoldRows left xs
some_hold xs = some_all (λ r. HoldsRow r xs) (λ r zero h. (both_halves r xs zero).0 h)

pub stands_hold : (xs : List ℤ) (r : Row) (left : List Row) → IsWhatStands r left → HoldsRow r xs → HoldRows left xs
stands_hold xs = stands_all (λ r. HoldsRow r xs) (λ r zero h. (both_halves r xs zero).0 h)

-- ---- one more
pub some_append : (rows left others more_left : List Row) → AreSomeOf rows left → AreSomeOf others more_left
    → AreSomeOf (rows ++ others) (left ++ more_left)
some_append [] left others more_left none some = some
some_append (r ∷ rows) left others more_left (more {stands = stands} {left = rest} is some) last =
    subst (AreSomeOf (r ∷ (rows ++ others))) (sym (append_assoc stands rest more_left))
    (more is (some_append rows rest others more_left some last))

pub some_one : (r : Row) (left : List Row) → IsWhatStands r left → AreSomeOf (r ∷ []) (left ++ [])
some_one r left is = more is none

-- ---- some of some
kinds_differ : AtLeast ≢ Zero
kinds_differ e = cc

-- of what stands of one row
half_stands : (r s : Row) (last : List Row) → r.kind ≡ Zero → ((s ≡ upper_half r) ⊎ (s ≡ lower_half r)) → IsWhatStands s last
    → IsWhatStands r last
half_stands r s last zero is (inl whole) = inr (inr (
  zero,
  elim is [
    | inl u ↦ inl (whole ∙ ap (λ t. t ∷ []) u)
    | inr l ↦ inr (whole ∙ ap (λ t. t ∷ []) l)
  ],
))
half_stands r s last zero is (inr (inl none_left)) = inr (inl none_left)
half_stands r s last zero is (inr (inr (also, _))) = absurd (kinds_differ (elim is [
  | inl u ↦ sym (ap (λ (t : Row). t.kind) u) ∙ also
  | inr l ↦ sym (ap (λ (t : Row). t.kind) l) ∙ also
]))

module _ (r : Row) (rows rest : List Row) (again : (behind : List Row) → AreSomeOf rest behind → AreSomeOf rows behind) where
  trans_one : (s : Row) (last : List Row) → ((left : List Row) → IsWhatStands s left → IsWhatStands r left) → AreSomeOf (s ∷ rest) last
      → AreSomeOf (r ∷ rows) last
  trans_one s last f (more {stands = standing} {left = behind} here there) = more (f standing here) (again behind there)

  trans_by : (stands last : List Row) → IsWhatStands r stands → AreSomeOf (stands ++ rest) last → AreSomeOf (r ∷ rows) last
  trans_by stands last (inl whole) some = trans_one r last (λ l h. h) (subst (λ l. AreSomeOf (l ++ rest) last) whole some)
  trans_by stands last (inr (inl gone)) some =
      more {stands = []} (inr (inl refl)) (again last (subst (λ l. AreSomeOf (l ++ rest) last) gone some))
  trans_by stands last (inr (inr (zero, inl upper))) some =
      trans_one (upper_half r) last (λ l h. half_stands r (upper_half r) l zero (inl refl) h)
      (subst (λ l. AreSomeOf (l ++ rest) last) upper some)
  trans_by stands last (inr (inr (zero, inr lower))) some =
      trans_one (lower_half r) last (λ l h. half_stands r (lower_half r) l zero (inr refl) h)
      (subst (λ l. AreSomeOf (l ++ rest) last) lower some)

pub some_trans : (rows left last : List Row) → AreSomeOf rows left → AreSomeOf left last → AreSomeOf rows last
some_trans [] left last none some = some
some_trans (r ∷ rows) left last (more {stands = stands} {left = rest} is others) some =
    trans_by r rows rest (λ behind still. some_trans rows rest behind others still) stands last is some

-- ---- the numbers of halves
same_magnitude : (z : ℤ) → unsigned_abs (neg_ℤ z) ≡ unsigned_abs z
same_magnitude z = omega (arith, linear)

turned_magnitude : (z : ℤ) → unsigned_abs (negsuc 0 *ℤ z) ≡ unsigned_abs z
turned_magnitude z = let e : negsuc 0 *ℤ z ≡ neg_ℤ z = omega (arith, linear) in rw e (same_magnitude z)

pub half_over : (g : Gauge) (n : ℕ) (r : Row) → r.kind ≡ Zero → IsRowOver g n r
    → IsRowOver g n (upper_half r) × IsRowOver g n (lower_half r)
half_over g n r zero over =
    let modulus = rw zero at over.formed.modulus in
    let one : IsWithin g (pos 1) = subst (IsWithin g) modulus over.within.k in (
      record {
        formed = record { width = over.formed.width; modulus = refl };
        within = record { coefs = over.within.coefs; constant = over.within.constant; k = one };
      },
      record {
        formed = record { width = length-scaled (negsuc 0) r.coefs ∙ over.formed.width; modulus = refl };
        within = record {
          coefs = All-map (IsWithin g) (λ z. negsuc 0 *ℤ z) r.coefs
              (λ k d l. rw (turned_magnitude (get_or r.coefs k d)) (over.within.coefs k d l));
          constant = rw (same_magnitude r.constant) over.within.constant;
          k = one;
        };
      },
    )

-- a row whose numbers are at most b, with the modulus of its kind
pub record IsRowFit (b : ℕ) (r : Row) : Type 0 where
  pub up_to : IsRowUpTo b r
  pub modulus : HasModulus r.kind r.k

pub half_up_to : (b : ℕ) (r : Row) → r.kind ≡ Zero → IsRowFit b r → IsRowFit b (upper_half r) × IsRowFit b (lower_half r)
half_up_to b r zero fit =
    let modulus = rw zero at fit.modulus in
    let one : unsigned_abs (pos 1) ≤ b = subst (λ k. unsigned_abs k ≤ b) modulus fit.up_to.k in (
      record { up_to = record { coefs = fit.up_to.coefs; constant = fit.up_to.constant; k = one }; modulus = refl },
      record {
        up_to = record {
          coefs = All-map (λ c. unsigned_abs c ≤ b) (λ z. negsuc 0 *ℤ z) r.coefs
              (λ k d l. rw (turned_magnitude (get_or r.coefs k d)) (fit.up_to.coefs k d l));
          constant = rw (same_magnitude r.constant) fit.up_to.constant;
          k = one;
        };
        modulus = refl;
      },
    )

-- ---- halves are normal rows
kept_is : (r s : Row) → Kept r ≡ Kept s → r ≡ s
kept_is r s e = cc

-- the columns of a normal equation have no divisor in common
content_one : (r : Row) → normal_zero r.coefs r.constant ≡ Kept r → content r.coefs ≡ pos 1
content_one r e = normal_zero_by (λ v. v ≡ Kept r → content r.coefs ≡ pos 1) r.coefs r.constant (λ _ _ f. cc) (λ _ _ f. cc) (λ _ _ f. cc)
    (λ n d f.
    let ds = divided (content r.coefs) r.coefs in
    let q = floor_div r.constant (content r.coefs) in
    let one : content ds ≡ pos 1 = content-divided r.coefs n in
    let some : lead ds ≢ pos 0 = lead_not_zero ds (not_zero (content ds) one) in
    ap (λ (t : Row). content t.coefs) (sym (kept_is (upright ds q) r f))
    ∙ content-scaled (sign_of (lead ds)) ds (sign_squared (lead ds) some) ∙ one) e
  where
    not_zero : (z : ℤ) → z ≡ pos 1 → z ≢ pos 0
    not_zero z e f = omega (arith, linear)

half_settled : (cs : List ℤ) (c : ℤ) → content cs ≡ pos 1 → normal_at_least cs c ≡ Kept (bound cs c)
half_settled cs c e = normal_at_least-kept cs c (not_zero (content cs) e) ∙ rw (e, divided_one cs, quotient_one c) refl
  where
    not_zero : (z : ℤ) → z ≡ pos 1 → z ≢ pos 0
    not_zero z e f = omega (arith, linear)

abbrev pub IsSettled : Row → Type 0
IsSettled r = normal_row r ≡ Kept r

pub halves_settled : (r : Row) → r.kind ≡ Zero → IsSettled r → IsSettled (upper_half r) × IsSettled (lower_half r)
halves_settled r zero settled =
    let one = content_one r (ap (λ kind. normal_form kind r.coefs r.constant r.k) (sym zero) ∙ settled) in (
      half_settled r.coefs r.constant one,
      half_settled (scaled (negsuc 0) r.coefs) (neg_ℤ r.constant) (content-scaled (negsuc 0) r.coefs refl ∙ one),
    )
