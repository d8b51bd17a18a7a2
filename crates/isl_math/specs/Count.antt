-- public: counts that a `u64` keeps: they rise by one, and stand still at the last value.
use Rattle.std.specs.Prelude.{ℕ, ◌+◌, ◌-◌, ◌^◌, ◌≤◌, min, max}

-- the last value of a `u64`
abbrev pub last_count : ℕ
last_count = 2 ^ 64 - 1

-- one more, or the last value; it never falls
abbrev pub risen : ℕ → ℕ
risen n = max n (min (n + 1) last_count)

-- the count rose between two moments, or stands at its last value
abbrev pub Rose : ℕ → ℕ → Type 0
Rose before now = min (before + 1) last_count ≤ now
