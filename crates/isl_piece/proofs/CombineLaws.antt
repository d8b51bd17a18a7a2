-- What sums of multiples of rows say, and how large their numbers are.
use Rattle.std.proofs.Common.{◌≡◌, ◌↔◌, ◌⊎◌, inl, inr, ◌∙◌, ap, arith, ℕ, ◌+◌, ◌*◌, ◌<◌, ◌≤◌, ℤ, pos, ◌+ℤ◌, ◌*ℤ◌, ◌<ℤ◌, List, [], ◌∷◌, length, unsigned_abs}
use Rattle.std.specs.List.{All}
use Rattle.std.proofs.lemmas.List.Elements.{All-nil, All-cons, All-head, All-tail, All-push}
use Rattle.isl_math.specs.Dot.{weighted_sum}
use Rattle.isl_math.proofs.Ring.{expand, linear}
use Rattle.isl_math.proofs.OrderLaws.{positive-*ℤ, zero_scaled, at_least_scaled}
use Rattle.isl_math.proofs.MagnitudeLaws.{up_to-sum, up_to-product}
use Rattle.isl_math.proofs.ColumnLaws.{weighted_sum-take_more, dot-weighted_sum, get_or-weighted_sum, length-weighted_sum}
use Rattle.isl_math.proofs.DivideLaws.{Divides_scaled}
use Rattle.isl_piece.specs.declared.row.RowKind.{RowKind}
use Rattle.isl_piece.specs.declared.row.RowKind.TheVariants.{Zero, AtLeast, Divides, NotDivides}
use Rattle.isl_piece.specs.declared.row.Row.{Row}
use Rattle.isl_piece.specs.Row.{HoldsValue, value_at, coef_at, IsWellFormed, HasModulus, IsRowUpTo}
use Rattle.isl_piece.specs.Combine.{combination, scaled_divisor}

-- what the loop over the coefficients wants
pub ruleset weighted_steps = (weighted_sum-take_more, All-push)

-- 1 times a number and a multiple of 0 are the number
pub times_same : (m x : ℤ) → (m ≡ pos 1) ⊎ (x ≡ pos 0) → m *ℤ x ≡ x
times_same m x (inl e) = let h = ap (λ w. w *ℤ x) e in omega (arith, linear)
times_same m x (inr e) = let h = ap (λ w. m *ℤ w) e in omega (arith, linear)

-- the value of a combination is the combination of the values
pub value_at-combination : (m : ℤ) (a : Row) (n : ℤ) (b : Row) (xs : List ℤ) → length a.coefs ≡ length b.coefs → value_at (combination m a n b) xs ≡ m *ℤ value_at a xs +ℤ n *ℤ value_at b xs
value_at-combination m a n b xs e = let d = simp expand at (dot-weighted_sum m a.coefs n b.coefs xs e) in simp expand (omega (arith, linear))

pub coef_at-combination : (m : ℤ) (a : Row) (n : ℤ) (b : Row) (col : ℕ) → length a.coefs ≡ length b.coefs → col < length a.coefs → coef_at (combination m a n b) col ≡ m *ℤ coef_at a col +ℤ n *ℤ coef_at b col
coef_at-combination m a n b col e h = get_or-weighted_sum m a.coefs n b.coefs col e h

-- a kind asks the same of a number and of a positive multiple of it
pub holds_scaled : (kind : RowKind) (m k v : ℤ) → pos 0 <ℤ m → HoldsValue kind (scaled_divisor kind m k) (m *ℤ v) ↔ HoldsValue kind k v
holds_scaled Zero m k v p = zero_scaled m v p
holds_scaled AtLeast m k v p = at_least_scaled m v p
holds_scaled Divides m k v p = Divides_scaled m k v p
holds_scaled NotDivides m k v p = let h = Divides_scaled m k v p in ((λ n d. n (h.1 d)), (λ n d. n (h.0 d)))

divisor_scaled : (kind : RowKind) (m k : ℤ) → pos 0 <ℤ m → HasModulus kind k → HasModulus kind (scaled_divisor kind m k)
divisor_scaled Zero m k p h = h
divisor_scaled AtLeast m k p h = h
divisor_scaled Divides m k p h = positive-*ℤ m k p h
divisor_scaled NotDivides m k p h = positive-*ℤ m k p h

pub combination_formed : (columns : ℕ) (m : ℤ) (a : Row) (n : ℤ) (b : Row) → pos 0 <ℤ m → IsWellFormed columns a → length b.coefs ≡ columns → IsWellFormed columns (combination m a n b)
combination_formed columns m a n b p h w = record {
  width = length-weighted_sum m a.coefs n b.coefs (let e = h.width in omega arith) ∙ h.width;
  modulus = divisor_scaled a.kind m a.k p h.modulus;
}

pub combination_well_formed : (columns : ℕ) (m : ℤ) (a : Row) (n : ℤ) (b : Row) → pos 0 <ℤ m → IsWellFormed columns a → IsWellFormed columns b → IsWellFormed columns (combination m a n b)
combination_well_formed columns m a n b p h k = combination_formed columns m a n b p h k.width

-- ---- products and sums below a limit
pub product_fits : (n u w rest : ℕ) (m a : ℤ) → unsigned_abs m ≤ u → unsigned_abs a ≤ w → u * w + rest < n → unsigned_abs (m *ℤ a) < n
product_fits n u w rest m a h k room = let p = up_to-product u w m a h k in omega arith

pub product_fits_after : (n u w rest : ℕ) (m a : ℤ) → unsigned_abs m ≤ u → unsigned_abs a ≤ w → rest + u * w < n → unsigned_abs (m *ℤ a) < n
product_fits_after n u w rest m a h k room = let p = up_to-product u w m a h k in omega arith

weighted_up_to : (u v w x b : ℕ) (m a n c : ℤ) → unsigned_abs m ≤ u → unsigned_abs n ≤ v → unsigned_abs a ≤ w → unsigned_abs c ≤ x → u * w + v * x ≤ b → unsigned_abs (m *ℤ a +ℤ n *ℤ c) ≤ b
weighted_up_to u v w x b m a n c hm hn ha hc le = let p = up_to-sum (u * w) (v * x) (m *ℤ a) (n *ℤ c) (up_to-product u w m a hm ha) (up_to-product v x n c hn hc) in omega arith

pub weighted_fits : (l u v w x : ℕ) (m a n c : ℤ) → unsigned_abs m ≤ u → unsigned_abs n ≤ v → unsigned_abs a ≤ w → unsigned_abs c ≤ x → u * w + v * x < l → unsigned_abs (m *ℤ a +ℤ n *ℤ c) < l
weighted_fits l u v w x m a n c hm hn ha hc lt = let p = weighted_up_to u v w x (u * w + v * x) m a n c hm hn ha hc (omega arith) in omega arith

-- ---- combinations of rows
sum_up_to : (u v w x b : ℕ) (m n : ℤ) (xs ys : List ℤ) → unsigned_abs m ≤ u → unsigned_abs n ≤ v → All (λ z. unsigned_abs z ≤ w) xs → All (λ z. unsigned_abs z ≤ x) ys → u * w + v * x ≤ b → All (λ z. unsigned_abs z ≤ b) (weighted_sum m xs n ys)
sum_up_to u v w x b m n [] ys hm hn hx hy le = All-nil (λ z. unsigned_abs z ≤ b)
sum_up_to u v w x b m n (a ∷ xs) [] hm hn hx hy le = All-nil (λ z. unsigned_abs z ≤ b)
sum_up_to u v w x b m n (a ∷ xs) (c ∷ ys) hm hn hx hy le =
    All-cons (λ z. unsigned_abs z ≤ b) (m *ℤ a +ℤ n *ℤ c) (weighted_sum m xs n ys)
    (weighted_up_to u v w x b m a n c hm hn (All-head (λ z. unsigned_abs z ≤ w) a xs hx) (All-head (λ z. unsigned_abs z ≤ x) c ys hy) le)
    (sum_up_to u v w x b m n xs ys hm hn (All-tail (λ z. unsigned_abs z ≤ w) a xs hx) (All-tail (λ z. unsigned_abs z ≤ x) c ys hy) le)

divisor_up_to : (kind : RowKind) (u w b : ℕ) (m k : ℤ) → unsigned_abs m ≤ u → unsigned_abs k ≤ w → u * w ≤ b → w ≤ b → unsigned_abs (scaled_divisor kind m k) ≤ b
divisor_up_to Zero u w b m k hm hk le l = omega arith
divisor_up_to AtLeast u w b m k hm hk le l = omega arith
divisor_up_to Divides u w b m k hm hk le l = let p = up_to-product u w m k hm hk in omega arith
divisor_up_to NotDivides u w b m k hm hk le l = let p = up_to-product u w m k hm hk in omega arith

pub combination_up_to : (u v w x b : ℕ) (m : ℤ) (a : Row) (n : ℤ) (c : Row) → unsigned_abs m ≤ u → unsigned_abs n ≤ v → IsRowUpTo w a → IsRowUpTo x c → u * w + v * x ≤ b → w ≤ b → IsRowUpTo b (combination m a n c)
combination_up_to u v w x b m a n c hm hn ha hc le l = record {
  coefs = sum_up_to u v w x b m n a.coefs c.coefs hm hn ha.coefs hc.coefs le;
  constant = weighted_up_to u v w x b m a.constant n c.constant hm hn ha.constant hc.constant le;
  k = divisor_up_to a.kind u w b m a.k hm ha.k (omega arith) l;
}
