-- public: the numbers that digits write.
use Rattle.std.specs.Prelude.{ℕ, ℤ, pos, ◌+◌, ◌-◌, ◌*◌, ◌^◌, min, List, fold}

-- the number that decimal digits write
unfoldable pub value_of : List ℕ → ℕ
value_of digits = fold (λ n d. 10 * n + (d - 48)) 0 digits

-- the least number that is greater than every number of a tree
abbrev pub too_great : ℕ
too_great = 2 ^ 127

-- the number that a tree has for the digits: what they write, or the greatest that it holds where that is greater
unfoldable pub number_of : List ℕ → ℤ
number_of digits = pos (min (value_of digits) (too_great - 1))
