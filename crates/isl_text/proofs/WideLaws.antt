-- The search for a number above a limit.
use Rattle.std.proofs.Common.{◌≡◌, ℤ, ◌<◌, Bool, true, false, List, [], ◌∷◌, length, Some, None, refl, sym, ap, ◌∙◌, arith}
use Rattle.std.specs.Prelude.{pos, int_lt}
use Rattle.std.specs.List.{list_any}
use Rattle.isl_token.specs.TokenView.{Token}
use Rattle.isl_token.specs.TokenView as token
use Rattle.isl_token.specs.Token.{Text}
use Rattle.isl_token.specs.Number.{value_of}
use Rattle.isl_token.specs.Reading.{digits, tail}
use Rattle.isl_token.proofs.Taking.{same_read}
use Rattle.isl_text.specs.Limits.{is_wide, next_is_wide}

pub wide_digits : (ts us : List Token) (limit : ℤ) (d : Text) (r : Bool) → digits ts ≡ Some (d, us) → r ≡ int_lt limit
    (pos (value_of d)) → r ≡ next_is_wide limit ts
unfolding digits
wide_digits [] us limit d r read is = absurd cc
wide_digits (token.Word word ∷ ts) us limit d r read is = absurd cc
wide_digits (token.Number text ∷ ts) us limit d r read is = is ∙ ap (λ (t : Text). int_lt limit (pos (value_of t)))
    (sym (same_read text d ts us read).0)
wide_digits (token.Sign sign ∷ ts) us limit d r read is = absurd cc

pub wide_none : (ts : List Token) (limit : ℤ) → digits ts ≡ None → false ≡ next_is_wide limit ts
unfolding digits
wide_none [] limit read = refl
wide_none (token.Word word ∷ ts) limit read = refl
wide_none (token.Number text ∷ ts) limit read = absurd cc
wide_none (token.Sign sign ∷ ts) limit read = refl

module _ (total : Bool) (limit : ℤ) (ts : List Token) (so_far : total ≡ list_any (is_wide limit) ts) where
  pub wide_found : next_is_wide limit ts ≡ true → total ≡ true
  wide_found = go ts so_far
    where
      go : (ts : List Token) → total ≡ list_any (is_wide limit) ts → next_is_wide limit ts ≡ true → total ≡ true
      go [] so_far wide = absurd cc
      go (t ∷ ts) so_far wide = so_far ∙ rw wide refl

  pub wide_on : next_is_wide limit ts ≡ false → 0 < length ts → total ≡ list_any (is_wide limit) (tail ts)
  wide_on = go ts so_far
    where
      go : (ts : List Token) → total ≡ list_any (is_wide limit) ts → next_is_wide limit ts ≡ false → 0 < length ts → total ≡ list_any
          (is_wide limit) (tail ts)
      go [] so_far wide some = absurd (omega (arith, some))
      go (t ∷ ts) so_far wide some = so_far ∙ rw wide refl

pub ruleset next = (wide_digits, wide_none)

pub ruleset turns = (wide_found, wide_on)
