-- What marks at a text tell of its tokens.
use Rattle.std.proofs.Common.{◌≡◌, ◌≢◌, ℕ, Bool, true, false, List, [], ◌∷◌, take, drop, Some, None, refl, sym, subst, ◌∙◌}
use Rattle.std.specs.Str.{IsUtf8}
use Rattle.std.proofs.lemmas.Str.{IsUtf8-from_ascii}
use Rattle.isl_token.specs.TokenView.{Token}
use Rattle.isl_token.specs.TokenView as token
use Rattle.isl_token.specs.declared.token.Kind.{Kind}
use Rattle.isl_token.specs.declared.token.Kind.TheVariants as kind
use Rattle.isl_token.specs.declared.lex.Piece.{Piece}
use Rattle.isl_token.specs.declared.lex.Piece.TheVariants as piece
use Rattle.isl_token.specs.Token.{Text, is_kind, kind_of}
use Rattle.isl_token.specs.Lex.{cut, token_at, token_of, IsPiece, IsKindAt}
use Rattle.isl_token.specs.Number.{number_of}
use Rattle.isl_token.specs.AnyWord.{any_word}
use Rattle.isl_token.specs.Reading.{name, digits, number}
use Rattle.isl_token.proofs.Fronts.{identifier_ascii}
use Rattle.isl_token.proofs.Pieces.{token_there, cut_piece}
use Rattle.isl_token.proofs.Taking.{is_kind_same, is_kind_true, same_read}

-- ---- words

-- an identifier is a word
name_is_word : (t : Token) (us : List Token) → kind_of t ≡ kind.Name → name (t ∷ us) ≡ any_word (t ∷ us)
unfolding name any_word
name_is_word (token.Word word) us named = rw (is_kind_same (kind_of (token.Word word)) kind.Name named) refl
name_is_word (token.Number text) us named = refl
name_is_word (token.Sign sign) us named = refl

not_named : (t : Token) (us : List Token) → kind_of t ≢ kind.Name → name (t ∷ us) ≡ None
unfolding name
not_named (token.Word word) us other = by_test (is_kind (kind_of (token.Word word)) kind.Name) refl
  where
    by_test : (q : Bool) → is_kind (kind_of (token.Word word)) kind.Name ≡ q → name (token.Word word ∷ us) ≡ None
    by_test true is = absurd (other (is_kind_true (kind_of (token.Word word)) kind.Name is))
    by_test false is = rw is refl
not_named (token.Number text) us other = refl
not_named (token.Sign sign) us other = refl

no_word : (p : Piece) (text : Text) (us : List Token) → p ≢ piece.Word → any_word (token_of p text ∷ us) ≡ None
unfolding any_word
no_word piece.Nothing text us other = refl
no_word piece.Word text us other = absurd (other refl)
no_word piece.Number text us other = refl
no_word piece.Sign text us other = refl
no_word piece.Wrong text us other = refl

not_digits : (t : Token) (us : List Token) → kind_of t ≢ kind.Number → digits (t ∷ us) ≡ None
unfolding digits
not_digits (token.Word word) us other = refl
not_digits (token.Number text) us other = absurd (other refl)
not_digits (token.Sign sign) us other = refl

no_digits : (p : Piece) (text : Text) (us : List Token) → p ≢ piece.Number → digits (token_of p text ∷ us) ≡ None
unfolding digits
no_digits piece.Nothing text us other = refl
no_digits piece.Word text us other = refl
no_digits piece.Number text us other = absurd (other refl)
no_digits piece.Sign text us other = refl
no_digits piece.Wrong text us other = refl

module _ (text : Text) (at : ℕ) (k : Kind) (known : IsKindAt text at k) where
  pub not_name : k ≢ kind.Name → (us : List Token) → name (token_at text at ∷ us) ≡ None
  not_name other us = not_named (token_at text at) us (λ e. other (known.1 ∙ e))

  pub name_there : k ≡ kind.Name → (us : List Token) → name (token_at text at ∷ us) ≡ any_word (token_at text at ∷ us)
  name_there named us = name_is_word (token_at text at) us (sym known.1 ∙ named)

  pub not_number : k ≢ kind.Number → (us : List Token) → digits (token_at text at ∷ us) ≡ None
  not_number other us = not_digits (token_at text at) us (λ e. other (known.1 ∙ e))

  module _ (p : Piece) (n : ℕ) (is : (p, n) ≡ cut (drop at text)) where
    pub word_there : p ≡ piece.Word → (us : List Token) → any_word (token_at text at ∷ us) ≡ Some (take n (drop at text), us)
    unfolding any_word
    word_there word us = rw (token_there text at p n is, word) refl

    pub word_utf8 : p ≡ piece.Word → IsUtf8 (take n (drop at text))
    word_utf8 word = IsUtf8-from_ascii (take n (drop at text))
        (identifier_ascii (take n (drop at text))
        (let motive : Piece → Type 0 = λ q. IsPiece q (take n (drop at text)) in subst motive word (cut_piece (drop at text) p n is)))

    pub no_word_there : p ≢ piece.Word → (us : List Token) → any_word (token_at text at ∷ us) ≡ None
    no_word_there other us = rw (token_there text at p n is) (no_word p (take n (drop at text)) us other)

    pub digits_there : p ≡ piece.Number → (us : List Token) → digits (token_at text at ∷ us) ≡ Some (take n (drop at text), us)
    unfolding digits
    digits_there number us = rw (token_there text at p n is, number) refl

    pub no_digits_there : p ≢ piece.Number → (us : List Token) → digits (token_at text at ∷ us) ≡ None
    no_digits_there other us = rw (token_there text at p n is) (no_digits p (take n (drop at text)) us other)

-- ---- numbers

pub number_digits : (ts us : List Token) (d : Text) → digits ts ≡ Some (d, us) → number ts ≡ Some (number_of d, us)
unfolding digits number
number_digits [] us d is = absurd cc
number_digits (token.Word word ∷ ts) us d is = absurd cc
number_digits (token.Number text ∷ ts) us d is = let e = same_read text d ts us is in rw (e.0, e.1) refl
number_digits (token.Sign sign ∷ ts) us d is = absurd cc

pub number_none : (ts : List Token) → digits ts ≡ None → number ts ≡ None
unfolding digits number
number_none [] is = refl
number_none (token.Word word ∷ ts) is = refl
number_none (token.Number text ∷ ts) is = absurd cc
number_none (token.Sign sign ∷ ts) is = refl

pub ruleset read = (number_digits, number_none)

pub name_empty : name [] ≡ None
unfolding name
name_empty = refl

pub any_word_empty : any_word [] ≡ None
unfolding any_word
any_word_empty = refl

pub digits_empty : digits [] ≡ None
unfolding digits
digits_empty = refl
