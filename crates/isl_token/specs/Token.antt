-- public: tokens, and what a token is to the grammar of literals. (isl manual, the notation of sets and relations)
use Rattle.std.specs.Prelude.{ℕ, Bool, ◌&&◌, List, [], ◌∷◌, map, length, nat_lt, codes, IsTrue, if◌then◌else◌}
use Rattle.std.specs.Char.{is_ascii_digit}
use Rattle.std.specs.List.{list_all, list_any}
use Rattle.std.specs.Str.{bytes_eq}
use denote.Enum.Bare.{sameb}
use Rattle.isl_space.specs.Name.{is_identifier}
use Rattle.isl_token.specs.contracts.token.Kind.{the_type}
use Rattle.isl_token.specs.TokenView.{Token}
use Rattle.isl_token.specs.TokenView as token
use Rattle.isl_token.specs.declared.token.Kind.{Kind}
use Rattle.isl_token.specs.declared.token.Kind.TheVariants as kind

abbrev pub Text : Type 0
Text = List ℕ

-- `==` on kinds
abbrev pub is_kind : Kind → Kind → Bool
is_kind = sameb the_type

-- the kind of a text in a table, or the other kind where it is not there
abbrev pub kind_in : List (Text × Kind) → Text → Kind → Kind
kind_in [] text other = other
kind_in (entry ∷ entries) text other = if bytes_eq entry.0 text then entry.1 else kind_in entries text other

-- the words that have a meaning of their own inside a literal
abbrev pub word_kinds : List (Text × Kind)
word_kinds =
    (codes "and", kind.And) ∷ (codes "or", kind.Or) ∷ (codes "not", kind.Not) ∷ (codes "implies", kind.Implies)
    ∷ (codes "exists", kind.Exists) ∷ (codes "true", kind.True) ∷ (codes "false", kind.False)
    ∷ (codes "mod", kind.Mod) ∷ (codes "floor", kind.Floor) ∷ (codes "ceil", kind.Ceil)
    ∷ (codes "floord", kind.FloorDiv) ∷ (codes "ceild", kind.CeilDiv) ∷ []

-- every other word is a name
unfoldable pub word_kind : Text → Kind
word_kind word = kind_in word_kinds word kind.Name

-- the signs, where several signs of one meaning are one kind, also with words
abbrev pub sign_kinds : List (Text × Kind)
sign_kinds =
    (codes ":=", kind.Assign) ∷ (codes ";", kind.Semicolon) ∷ (codes ":", kind.Colon) ∷ (codes ",", kind.Comma)
    ∷ (codes "(", kind.Open) ∷ (codes ")", kind.Close) ∷ (codes "[", kind.OpenSquare) ∷ (codes "]", kind.CloseSquare)
    ∷ (codes "{", kind.OpenBrace) ∷ (codes "}", kind.CloseBrace) ∷ (codes "+", kind.Plus) ∷ (codes "*", kind.Star)
    ∷ (codes "-", kind.Minus) ∷ (codes "->-", kind.ArrowMinus) ∷ (codes "->*", kind.ArrowStar) ∷ (codes "->", kind.Arrow)
    ∷ (codes "^-1", kind.Inverse) ∷ (codes ".", kind.Dot) ∷ (codes "/", kind.Slash) ∷ (codes "%", kind.Mod)
    ∷ (codes "=", kind.Equal) ∷ (codes "==", kind.Equal) ∷ (codes "<", kind.Less) ∷ (codes "<=", kind.LessEqual)
    ∷ (codes ">", kind.Greater) ∷ (codes ">=", kind.GreaterEqual) ∷ (codes "<<", kind.LexLess) ∷ (codes "<<=", kind.LexLessEqual)
    ∷ (codes ">>", kind.LexGreater) ∷ (codes ">>=", kind.LexGreaterEqual) ∷ (codes "!=", kind.Differs) ∷ (codes "!", kind.Not)
    ∷ (codes "&&", kind.And) ∷ (codes "||", kind.Or) ∷ []

unfoldable pub sign_kind : Text → Kind
sign_kind sign = kind_in sign_kinds sign kind.End

-- the texts of the signs
unfoldable pub signs : List Text
signs = map (λ entry. entry.0) sign_kinds

-- what a token is inside a literal
abbrev pub kind_of : Token → Kind
kind_of (token.Word word) = word_kind word
kind_of (token.Number digits) = kind.Number
kind_of (token.Sign sign) = sign_kind sign

-- digits, one or more
abbrev pub is_number : Text → Bool
is_number text = nat_lt 0 (length text) && list_all is_ascii_digit text

-- what some text has as a token: an identifier, a number, one of the signs
abbrev pub IsToken : Token → Type 0
IsToken (token.Word word) = IsTrue (is_identifier word)
IsToken (token.Number digits) = IsTrue (is_number digits)
IsToken (token.Sign sign) = IsTrue (list_any (bytes_eq sign) signs)
