-- public: readers of token lists: a value and the tokens after it, or nothing. Readers are put together as the grammar is.
use Rattle.std.specs.Prelude.{◌≡◌, ℕ, ℤ, pos, zero, suc, Bool, List, [], ◌∷◌, ◌++◌, length, Option, Some, None, Result, Ok, Err}
use Rattle.std.specs.Prelude.{if◌then◌else◌}
use Rattle.std.specs.Ordering.{int_eq}
use Rattle.isl_token.specs.TokenView.{Token}
use Rattle.isl_token.specs.TokenView as token
use Rattle.isl_token.specs.declared.token.Kind.{Kind}
use Rattle.isl_token.specs.declared.token.Kind.TheVariants as kind
use Rattle.isl_token.specs.declared.fault.Fault.{Fault}
use Rattle.isl_token.specs.declared.fault.Fault.TheVariants.{NoMemory, Syntax}
use Rattle.isl_token.specs.Token.{Text, is_kind, kind_of}
use Rattle.isl_token.specs.Number.{number_of}

abbrev pub Parser : Type 0 → Type 0
Parser A = List Token → Option (A × List Token)

abbrev pub and_then : {A B : Type 0} → Option (A × List Token) → (A → Parser B) → Option (B × List Token)
and_then None f = None
and_then (Some p) f = f p.0 p.1

-- one after the other
infixl 10 ◌>>=◌
abbrev pub ◌>>=◌ : {A B : Type 0} → Parser A → (A → Parser B) → Parser B
p >>= f = λ ts. and_then (p ts) f

infixl 10 ◌>>◌
abbrev pub ◌>>◌ : {A B : Type 0} → Parser A → Parser B → Parser B
p >> q = p >>= (λ _. q)

-- takes no token
abbrev pub pure : {A : Type 0} → A → Parser A
pure a = λ ts. Some (a, ts)

abbrev pub none : {A : Type 0} → Parser A
none = λ ts. None

-- ---- the next tokens

abbrev pub head_kind : List Token → Kind
head_kind [] = kind.End
head_kind (t ∷ ts) = kind_of t

abbrev pub tail : List Token → List Token
tail [] = []
tail (t ∷ ts) = ts

abbrev pub second_kind : List Token → Kind
second_kind ts = head_kind (tail ts)

-- the next token is of this kind
abbrev pub sees : Kind → List Token → Bool
sees kind ts = is_kind (head_kind ts) kind

abbrev pub peek : Parser Kind
peek = λ ts. Some (head_kind ts, ts)

abbrev pub skip : Parser (Unit {0})
skip = λ ts. Some (tt, tail ts)

-- the next token's kind, and the tokens after it
abbrev pub IsNext : List Token → Option Kind → List Token → Type 0
IsNext ts None rest = (ts ≡ []) × (rest ≡ [])
IsNext ts (Some kind) rest = (t : Token) × (ts ≡ t ∷ rest) × (kind ≡ kind_of t)

unfoldable pub expect : Kind → Parser (Unit {0})
expect k = λ ts. if is_kind (head_kind ts) k then Some (tt, tail ts) else None

unfoldable pub name : Parser Text
name [] = None
name (token.Word word ∷ ts) = if is_kind (kind_of (token.Word word)) kind.Name then Some (word, ts) else None
name (token.Number digits ∷ ts) = None
name (token.Sign sign ∷ ts) = None

unfoldable pub number : Parser ℤ
number [] = None
number (token.Word word ∷ ts) = None
number (token.Number digits ∷ ts) = Some (number_of digits, ts)
number (token.Sign sign ∷ ts) = None

abbrev pub is_zero : ℤ → Bool
is_zero z = int_eq z (pos 0)

-- the digits of a number
unfoldable pub digits : Parser Text
digits [] = None
digits (token.Word word ∷ ts) = None
digits (token.Number text ∷ ts) = Some (text, ts)
digits (token.Sign sign ∷ ts) = None

-- a number that is not 0
unfoldable pub positive : Parser ℤ
positive = do
  n ← number
  if is_zero n then none else pure n

-- ---- rows: what follows while the tokens pass the test; each turn takes a token, so the number is enough

unfoldable pub rest_of : {A : Type 0} → (List Token → Bool) → Parser A → ℕ → List A → Parser (List A)
rest_of goes_on item zero found = pure found
rest_of goes_on item (suc n) found =
    λ ts. if goes_on ts then (item >>= λ x. rest_of goes_on item n (found ++ x ∷ [])) ts else Some (found, ts)

-- the row whose first items were found
unfoldable pub row : {A : Type 0} → (List Token → Bool) → Parser A → List A → Parser (List A)
row goes_on item found = λ ts. rest_of goes_on item (length ts) found ts

-- ---- lists: one item or more, with a sign of the kind between each two

-- an item, after a sign
unfoldable pub after_sign : {A : Type 0} → Parser A → Parser A
after_sign item = skip >> item

unfoldable pub separated : {A : Type 0} → Kind → Parser A → Parser (List A)
separated sign item = do
  first ← item
  row (sees sign) (after_sign item) (first ∷ [])

-- ---- what a function that reads ensures: the reader's answer, unless memory fails

abbrev pub Reads : {A : Type 0} → Option (A × List Token) → Result A Fault → List Token → Type 0
Reads read (Ok a) rest = read ≡ Some (a, rest)
Reads read (Err NoMemory) rest = Unit {0}
Reads read (Err Syntax) rest = read ≡ None
