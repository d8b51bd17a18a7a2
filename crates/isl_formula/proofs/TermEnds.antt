-- What goes on with a term, and what ends it.
use Rattle.std.proofs.Common.{◌≡◌, Bool, true, false, not, ◌&&◌, List, refl, sym}
use Rattle.std.proofs.lemmas.Bool.{false≢true}
use Rattle.isl_token.specs.TokenView.{Token}
use Rattle.isl_token.specs.declared.token.Kind.{Kind}
use Rattle.isl_token.specs.declared.token.Kind.TheVariants as k
use Rattle.isl_token.specs.Token.{is_kind}
use Rattle.isl_token.specs.Reading.{head_kind, sees}
use Rattle.isl_token.proofs.Again.{Stops}
use Rattle.isl_formula.specs.Term.{is_additive, begins_factor, sees_times}

-- what does not go on with a product, or with a term
abbrev pub ends_product : Kind → Bool
ends_product k.Star = false
ends_product k.Mod = false
ends_product kind = not (begins_factor kind)

abbrev pub ends_term : Kind → Bool
ends_term k.Plus = false
ends_term k.Minus = false
ends_term kind = ends_product kind

abbrev pub begins_product : Kind → Bool
begins_product k.Number = true
begins_product kind = begins_factor kind

-- a test of the next token
abbrev pub at : (Kind → Bool) → Stops
at test ts = test (head_kind ts)

-- ---- what the tests say of each other

pub product_not_additive : (kind : Kind) → begins_product kind ≡ true → is_additive kind ≡ false
product_not_additive k.Plus e = absurd (false≢true e)
product_not_additive k.Minus e = absurd (false≢true e)
product_not_additive _ e = refl

pub term_ends_product : (kind : Kind) → ends_term kind ≡ true → ends_product kind ≡ true
term_ends_product k.Plus e = refl
term_ends_product k.Minus e = refl
term_ends_product _ e = e

pub term_not_additive : (kind : Kind) → ends_term kind ≡ true → is_additive kind ≡ false
term_not_additive k.Plus e = absurd (false≢true e)
term_not_additive k.Minus e = absurd (false≢true e)
term_not_additive _ e = refl

pub not_minus : (kind : Kind) → is_additive kind ≡ false → is_kind kind k.Minus ≡ false
not_minus k.Minus e = absurd (false≢true (sym e))
not_minus _ e = refl

pub ends_not_mod : (kind : Kind) → ends_product kind ≡ true → not (is_kind kind k.Mod) ≡ true
ends_not_mod k.Mod e = e
ends_not_mod _ e = refl

pub ends_not_star : (kind : Kind) → ends_product kind ≡ true → is_kind kind k.Star ≡ false
ends_not_star k.Star e = absurd (false≢true e)
ends_not_star _ e = refl

not_true : (b : Bool) → not b ≡ true → b ≡ false
not_true true e = absurd (false≢true e)
not_true false e = refl

pub ends_not_factor : (kind : Kind) → ends_product kind ≡ true → begins_factor kind ≡ false
ends_not_factor k.Star e = refl
ends_not_factor k.Mod e = refl
ends_not_factor kind e = not_true (begins_factor kind) e

pub factor_not_star : (kind : Kind) → begins_factor kind ≡ true → is_kind kind k.Star ≡ false
factor_not_star k.Star e = absurd (false≢true e)
factor_not_star _ e = refl

pub factor_not_number : (kind : Kind) → begins_factor kind ≡ true → is_kind kind k.Number ≡ false
factor_not_number k.Number e = absurd (false≢true e)
factor_not_number _ e = refl

pub factor_begins_product : (kind : Kind) → begins_factor kind ≡ true → begins_product kind ≡ true
factor_begins_product k.Number e = refl
factor_begins_product _ e = e

abbrev pub no_mod : Stops
no_mod ts = not (sees k.Mod ts)

abbrev pub no_times : Stops
no_times ts = not (sees_times ts)

abbrev pub no_sign : Stops
no_sign = at (λ kind. not (is_additive kind))

pub not_star_no_times : (ts : List Token) → is_kind (head_kind ts) k.Star ≡ false → no_times ts ≡ true
not_star_no_times ts e = rw e refl

pub no_both : (b : Bool) → not (b && false) ≡ true
no_both true = refl
no_both false = refl
