-- How far numbers grow: magnitudes of sums, products, quotients and remainders.
use Rattle.std.proofs.Common.{◌≡◌, arith, ℕ, zero, suc, ◌+◌, ◌*◌, ◌≤◌, ℤ, pos, negsuc, neg_ℤ, ◌+ℤ◌, ◌-ℤ◌, ◌*ℤ◌, ◌<ℤ◌, unsigned_abs}
use Rattle.std.proofs.Math.Nat.{mul-le-mul_left, mul-le-mul_right, div-le_self}
use Rattle.isl_math.specs.Divide.{floor_div, floor_mod}
use Rattle.isl_math.proofs.Ring.{linear}
use Rattle.isl_math.proofs.DivideLaws.{floor_mod_bounds}

-- the magnitude is at most w
abbrev pub IsUpTo : ℕ → ℤ → Type 0
IsUpTo w z = unsigned_abs z ≤ w

pub up_to-sum : (u v : ℕ) (a b : ℤ) → IsUpTo u a → IsUpTo v b → IsUpTo (u + v) (a +ℤ b)
up_to-sum u v a b h k = omega (arith, linear)

pub up_to-difference : (u v : ℕ) (a b : ℤ) → IsUpTo u a → IsUpTo v b → IsUpTo (u + v) (a -ℤ b)
up_to-difference u v a b h k = omega (arith, linear)

pub up_to-neg : (u : ℕ) (a : ℤ) → IsUpTo u a → IsUpTo u (neg_ℤ a)
up_to-neg u a h = omega (arith, linear)

magnitude-product : (a b : ℤ) → unsigned_abs (a *ℤ b) ≡ unsigned_abs a * unsigned_abs b
magnitude-product (pos a) (pos b) = omega (arith, linear)
magnitude-product (pos a) (negsuc b) = omega (arith, linear)
magnitude-product (negsuc a) (pos b) = omega (arith, linear)
magnitude-product (negsuc a) (negsuc b) = omega (arith, linear)

pub up_to-product : (u v : ℕ) (a b : ℤ) → IsUpTo u a → IsUpTo v b → IsUpTo (u * v) (a *ℤ b)
up_to-product u v a b h k =
    let e = magnitude-product a b in
    let m = mul-le-mul_left u k in
    let n = mul-le-mul_right (unsigned_abs b) h in
    omega (arith, linear)

pub up_to-weighted : (u v w : ℕ) (m a n b : ℤ) → IsUpTo u m → IsUpTo v n → IsUpTo w a → IsUpTo w b
    → IsUpTo (u * w + v * w) (m *ℤ a +ℤ n *ℤ b)
up_to-weighted u v w m a n b h k p q = up_to-sum (u * w) (v * w) (m *ℤ a) (n *ℤ b) (up_to-product u w m a h p) (up_to-product v w n b k q)

-- a quotient that is rounded down is not farther from 0 than what is divided, and a remainder is below the divisor
pub up_to-floor_div : (u : ℕ) (z k : ℤ) → pos 0 <ℤ k → IsUpTo u z → IsUpTo u (floor_div z k)
up_to-floor_div u (pos a) (pos zero) p h = absurd p.lt
up_to-floor_div u (pos a) (pos (suc k)) p h = let d = div-le_self a (suc k) in omega (arith, linear)
up_to-floor_div u (negsuc a) (pos zero) p h = absurd p.lt
up_to-floor_div u (negsuc a) (pos (suc k)) p h = let d = div-le_self a (suc k) in omega (arith, linear)
up_to-floor_div u z (negsuc k) p h = absurd p.lt

pub up_to-floor_mod : (u : ℕ) (z k : ℤ) → pos 0 <ℤ k → IsUpTo u k → IsUpTo u (floor_mod z k)
up_to-floor_mod u z k p h = let b = floor_mod_bounds z k p in omega (arith, linear)
