-- public: numbers in digits.
use Rattle.std.specs.Prelude.{ℕ, ℤ, pos, ◌+◌, ◌-◌, ◌*◌, ◌-ℤ◌, ◌==◌, ◌&&◌, Bool, not, if◌then◌else◌, nat_le, List, [], ◌∷◌, fold, length}
use Rattle.std.specs.Prelude.{Option, Some, None, option_map}
use Rattle.std.specs.Char.{is_ascii_digit}
use Rattle.std.specs.List.{list_all}

-- one or more digits
abbrev pub are_digits : List ℕ → Bool
are_digits text = not (length text == 0) && list_all is_ascii_digit text

-- the number that decimal digits write; zeros may lead
unfoldable pub value_of : List ℕ → ℕ
value_of digits = fold (λ n d. 10 * n + (d - 48)) 0 digits

-- the number that the text writes in digits, where it is at least the one and at most the other
unfoldable pub number : ℕ → ℕ → List ℕ → Option ℕ
number low high text = if are_digits text && (nat_le low (value_of text) && nat_le (value_of text) high) then Some (value_of text) else None

-- the whole number that the text writes by an optional `-` and digits, where its magnitude is at most the limit
abbrev pub whole : ℕ → List ℕ → Option ℤ
whole limit [] = None
whole limit (byte ∷ bytes) =
    if byte == 45 then option_map (λ n. pos 0 -ℤ pos n) (number 0 limit bytes) else option_map (λ n. pos n) (number 0 limit (byte ∷ bytes))
