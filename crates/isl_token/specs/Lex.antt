-- public: tokens from bytes, each the longest that fits. (isl manual, the notation of sets and relations)
use Rattle.std.specs.Prelude.{ℕ, zero, suc, ◌+◌, ◌-◌, ◌<◌, ◌≡◌, Bool, not, max, ◌||◌, if◌then◌else◌, ◌==◌, nat_eq, List, [], ◌∷◌, ◌++◌}
use Rattle.std.specs.Prelude.{length, take, drop, slice_index, Option, Some, None, Result, Ok, Err, IsTrue}
use Rattle.std.specs.Char.{is_ascii_digit}
use Rattle.std.specs.List.{prefix_len, starts_with, list_any}
use Rattle.std.specs.Str.{bytes_eq}
use Rattle.isl_space.specs.Name.{begins_name, goes_on_name, is_prime, is_identifier}
use Rattle.isl_token.specs.declared.fault.Fault.{Fault}
use Rattle.isl_token.specs.declared.fault.Fault.TheVariants.{NoMemory, Syntax}
use Rattle.isl_token.specs.declared.lex.Class.{Class}
use Rattle.isl_token.specs.declared.lex.Class.TheVariants as class
use Rattle.isl_token.specs.declared.lex.Piece.{Piece}
use Rattle.isl_token.specs.declared.lex.Piece.TheVariants as piece
use Rattle.isl_token.specs.TokenView.{Token}
use Rattle.isl_token.specs.TokenView as token
use Rattle.isl_token.specs.declared.token.Kind.{Kind}
use Rattle.isl_token.specs.Token.{Text, signs, is_number, kind_of}

abbrev pub is_in : Class → ℕ → Bool
is_in class.Blank b = b == 32 || b == 9 || b == 13 || b == 10
is_in class.Comment b = not (b == 10)
is_in class.Letter b = begins_name b
is_in class.Word b = goes_on_name b
is_in class.Prime b = is_prime b
is_in class.Digit b = is_ascii_digit b

-- the first place from `at` on whose byte is not of the class
abbrev pub past : Class → Text → ℕ → ℕ
past c z at = at + prefix_len (is_in c) (drop at z)

-- the length of the longest of the texts that stands at the front, 0 where none does
abbrev pub longest : List Text → Text → ℕ
longest [] z = 0
longest (s ∷ ss) z = max (if starts_with nat_eq z s then length s else 0) (longest ss z)

abbrev pub sign_len : Text → ℕ
sign_len z = longest signs z

abbrev pub sign_piece : ℕ → Piece × ℕ
sign_piece zero = (piece.Wrong, 1)
sign_piece n = (piece.Sign, n)

-- what stands at the front, and its length
unfoldable pub cut : Text → Piece × ℕ
cut z =
    let b = slice_index z 0 in
    if is_in class.Blank b then (piece.Nothing, 1)
    else (if b == 35 then (piece.Nothing, past class.Comment z 1)
    else (if is_in class.Letter b then (piece.Word, past class.Prime z (past class.Word z 1))
    else (if is_in class.Digit b then (piece.Number, past class.Digit z 1)
    else sign_piece (sign_len z))))

-- the tokens of a piece: none, one, or that it is wrong
abbrev pub tokens_of : Piece → Text → Option (List Token)
tokens_of piece.Nothing text = Some []
tokens_of piece.Word text = Some (token.Word text ∷ [])
tokens_of piece.Number text = Some (token.Number text ∷ [])
tokens_of piece.Sign text = Some (token.Sign text ∷ [])
tokens_of piece.Wrong text = None

abbrev pub join : Option (List Token) → Option (List Token) → Option (List Token)
join None ts = None
join (Some us) None = None
join (Some us) (Some ts) = Some (us ++ ts)

-- the number counts the bytes that are left of a piece
abbrev pub tokens_from : ℕ → Text → Option (List Token)
tokens_from left [] = Some []
tokens_from (suc left) (b ∷ z) = tokens_from left z
tokens_from zero (b ∷ z) = let c = cut (b ∷ z) in join (tokens_of c.0 (take c.1 (b ∷ z))) (tokens_from (c.1 - 1) z)

-- the tokens of a text, none where some byte begins no token
unfoldable pub tokens : Text → Option (List Token)
tokens = tokens_from 0

-- the token of a piece that has one
abbrev pub token_of : Piece → Text → Token
token_of piece.Word text = token.Word text
token_of piece.Number text = token.Number text
token_of _ text = token.Sign text

-- the token that begins at a place of a text
unfoldable pub token_at : Text → ℕ → Token
token_at text at = let z = drop at text in token_of (cut z).0 (take (cut z).1 z)

-- the kind of the token that begins at a place of a text
abbrev pub IsKindAt : Text → ℕ → Kind → Type 0
IsKindAt text at kind = (at < length text) × (kind ≡ kind_of (token_at text at))

-- what a function that finds the kind of a piece ensures: that of its token, if it has one
abbrev pub IsKindOfPiece : Piece → Text → Result (Option Kind) Fault → Type 0
IsKindOfPiece piece text (Ok (Some kind)) = (tokens_of piece text ≡ Some (token_of piece text ∷ []))
    × (kind ≡ kind_of (token_of piece text))
IsKindOfPiece piece text (Ok None) = tokens_of piece text ≡ Some []
IsKindOfPiece piece text (Err NoMemory) = Unit {0}
IsKindOfPiece piece text (Err Syntax) = tokens_of piece text ≡ None

-- what a function that cuts tokens ensures: the tokens, unless memory fails
abbrev pub Lexes : Option (List Token) → Result (List Token) Fault → Type 0
Lexes read (Ok ts) = read ≡ Some ts
Lexes read (Err NoMemory) = Unit {0}
Lexes read (Err Syntax) = read ≡ None

-- what the text of a piece is
abbrev pub IsPiece : Piece → Text → Type 0
IsPiece piece.Word text = IsTrue (is_identifier text)
IsPiece piece.Number text = IsTrue (is_number text)
IsPiece piece.Sign text = IsTrue (list_any (bytes_eq text) signs)
IsPiece _ text = Unit {0}
