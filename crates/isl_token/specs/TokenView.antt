-- public: tokens, as contracts see them.
use Rattle.std.specs.Prelude.{ℕ, List}

-- a part of a text that is neither blank nor comment
pub data Token : Type 0 where
  -- an identifier, or a word of the notation
  Word : List ℕ → Token
  -- a number, as its digits
  Number : List ℕ → Token
  -- a sign, as its bytes
  Sign : List ℕ → Token
