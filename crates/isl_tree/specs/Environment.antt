-- public: environments: which number each name stands for (isl manual, on parameters and variables of sets and relations).
use Rattle.std.specs.Prelude.{ℕ, ℤ, List}
use Rattle.isl_space.specs.Valuation.{Valuation, value_at}

-- names with their numbers, as in a valuation: the first pair of a name counts
abbrev pub Environment : Type 0
Environment = Valuation

-- the number of a name: that of its first pair, and 0 where it has none
unfoldable pub value_in : Environment → List ℕ → ℤ
value_in env name = value_at env name
