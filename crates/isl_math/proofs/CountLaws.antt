-- How counts rise over one step after another.
use Rattle.std.proofs.Common.{◌≡◌, ℕ, ◌+◌, ◌≤◌, min, arith}
use Rattle.isl_math.specs.Count.{last_count, risen, Rose}

-- no count falls by rising
pub not_fallen : (n : ℕ) → n ≤ risen n
not_fallen n = omega arith

pub rose_by_one : (n : ℕ) → Rose n (risen n)
rose_by_one n = omega arith

-- a `u64` that is added to with saturation rises
pub risen-saturating : (n : ℕ) → n ≤ last_count → min (n + 1) last_count ≡ risen n
risen-saturating n fits = omega arith

-- what rose since a later moment rose since an earlier one
pub rose_since : (a b c : ℕ) → a ≤ b → Rose b c → Rose a c
rose_since a b c earlier rose = omega arith

-- what rose by an earlier moment rose by a later one
pub rose_until : (a b c : ℕ) → Rose a b → b ≤ c → Rose a c
rose_until a b c rose later = omega arith

-- a count that rose did not fall, where it fits
pub rose_not_fallen : (a b : ℕ) → a ≤ last_count → Rose a b → a ≤ b
rose_not_fallen a b fits rose = omega arith

pub ruleset counts = (rose_since, rose_until)
