-- inner: the other columns, once one was taken out.
use Rattle.std.specs.Prelude.{if◌then◌else◌, nat_eq, nat_lt, ℕ, ◌-◌, List, [], ◌∷◌}

-- where a column stands then: those behind move down by one
abbrev pub lowered : ℕ → ℕ → ℕ
lowered col c = if nat_lt col c then c - 1 else c

-- the columns but that one
abbrev pub others_of : ℕ → List ℕ → List ℕ
others_of col [] = []
others_of col (c ∷ cols) = if nat_eq c col then others_of col cols else lowered col c ∷ others_of col cols
