-- The tokens of printed values have no number above the limit.
use Rattle.std.proofs.Common.{◌≡◌, ◌<◌, ◌≤◌, ◌∙◌, ◌^◌, ℕ, pos, false, List, [], ◌∷◌, ◌++◌, ap, refl, arith, lit<}
use Rattle.std.specs.Prelude.{codes, int_lt}
use Rattle.std.proofs.lemmas.List.Folds.{list_any-append}
use Rattle.std.proofs.lemmas.List.Elements.{recursion_from_All}
use Rattle.isl_math.proofs.Ring.{linear}
use Rattle.isl_space.specs.Name.{Name, IsLiteralName}
use Rattle.isl_space.specs.Form.{Form, leaf, pair, IsNamed}
use Rattle.isl_space.specs.SpaceForm.{SpaceForm, set_of, map_of, IsNamedSpace}
use Rattle.isl_piece.proofs.NormalCases.{int_lt-false}
use Rattle.isl_union.specs.KeptValue.{KeptPiece, KeptValue, IsKeptPiece}
use Rattle.isl_print.specs.Naming.{coordinate_names}
use Rattle.isl_row_text.proofs.LiteralNameLaws.{coordinates_named}
use Rattle.isl_token.specs.TokenView.{Token}
use Rattle.isl_token.specs.Number.{too_great}
use Rattle.isl_token.proofs.Prints.{value_of-decimal}
use Rattle.isl_text.specs.Limits.{is_wide}
use Rattle.isl_text.specs.Read.{has_wide_number}
use Rattle.isl_union.specs.Numbers.{HasNumbersUpTo}
use Rattle.isl_round_trip.specs.RoundTrip.{IsWritableValue}
use Rattle.isl_round_trip.proofs.TokenLaws.{Tokens, sign, number}
use Rattle.isl_round_trip.proofs.ValueTokenLaws.{printed_tokens}
use Rattle.isl_round_trip.proofs.AcceptedTokens.{either_false}
use Rattle.isl_round_trip.proofs.PrintedTokens.{Stands, Encloses, IsCalmForm, IsCalmSpace, HasCalmNames, printed_outside}

module _ (limit : ℕ) where
  -- none of these tokens is a number above the limit
  Level : Tokens → Type 0
  Level ts = has_wide_number (pos limit) ts ≡ false

  both_level : (xs ys : Tokens) → Level xs → Level ys → Level (xs ++ ys)
  unfolding Level
  both_level xs ys a b = list_any-append (is_wide (pos limit)) xs ys ∙ either_false (has_wide_number (pos limit) xs) (has_wide_number (pos limit) ys) a b

  number_level : limit < too_great → (n : ℕ) → n ≤ limit → Level (number n ∷ [])
  unfolding Level
  number_level below n small =
      let more : too_great < 10 ^ 64 = lit< tt in
      either_false (is_wide (pos limit) (number n)) false
      (ap (λ (m : ℕ). int_lt (pos limit) (pos m)) (value_of-decimal n (omega (arith, small, below, more))) ∙ int_lt-false (pos limit) (pos n) (omega (arith, linear, small))) refl

  level : limit < too_great → Stands limit IsLiteralName Level
  unfolding Level
  level below = record {
    none = refl;
    both = both_level;
    plus = refl;
    comma = refl;
    equal = refl;
    at_least = refl;
    colon = refl;
    semicolon = refl;
    arrow = refl;
    conjunction = refl;
    differs = refl;
    remainder = refl;
    names = λ name named. refl;
    numbers = number_level below;
  }

  enclosed : (first last : Token) (ts : Tokens) → is_wide (pos limit) first ≡ false → is_wide (pos limit) last ≡ false → Level ts → Level (first ∷ (ts ++ last ∷ []))
  unfolding Level
  enclosed first last ts small also inside =
      either_false (is_wide (pos limit) first) (has_wide_number (pos limit) (ts ++ last ∷ [])) small
      (both_level ts (last ∷ []) inside (either_false (is_wide (pos limit) last) false also refl))

  levels : Encloses (λ depth. Level)
  levels = record {
    squares = λ depth low ts inside. enclosed (sign (codes "[")) (sign (codes "]")) ts refl refl inside;
    rounds = λ depth low ts inside. enclosed (sign (codes "(")) (sign (codes ")")) ts refl refl inside;
    braces = λ ts inside. enclosed (sign (codes "{")) (sign (codes "}")) ts refl refl inside;
  }

  pub narrow : limit < too_great → (value : KeptValue) → IsWritableValue value → HasNumbersUpTo limit value → has_wide_number (pos limit) (printed_tokens value) ≡ false
  unfolding Level
  narrow below value writable numbers =
      printed_outside limit IsLiteralName (λ depth. Level) (λ depth low. level below) levels value writable.kept numbers
      writable.kept.params.named (λ i d low. piece_calm value.params _ (writable.kept.pieces i d low))
    where
      form_calm : (form : Form) → IsNamed form → IsCalmForm IsLiteralName form
      form_calm (leaf name width) named = named
      form_calm (pair left right) named = (form_calm left named.0, form_calm right named.1)

      space_calm : (space : SpaceForm) → IsNamedSpace space → IsCalmSpace IsLiteralName space
      space_calm (set_of form) named = form_calm form named
      space_calm (map_of from to) named = (form_calm from named.0, form_calm to named.1)

      piece_calm : (params : List Name) (piece : KeptPiece) → IsKeptPiece params piece → HasCalmNames IsLiteralName params piece
      piece_calm params piece kept =
          let few = kept.space.narrow.coordinates in
          let names = coordinate_names params piece.space in
          record {
            titles = space_calm piece.space kept.space.named;
            coordinates = recursion_from_All IsLiteralName names (coordinates_named params piece.space (omega (arith, few)));
          }
