-- A term that is read is spelled so.
use Rattle.std.proofs.Common.{◌≡◌, ◌≢◌, ℕ, zero, suc, Bool, true, false, List, [], ◌∷◌, Some, None, refl}
use Rattle.std.proofs.lemmas.Bool.{false≢true, and_parts}
use Rattle.isl_token.specs.TokenView.{Token}
use Rattle.isl_token.specs.declared.token.Kind.{Kind}
use Rattle.isl_token.specs.declared.token.Kind.TheVariants as k
use Rattle.isl_token.specs.Token.{is_kind}
use Rattle.isl_token.specs.Reading.{Parser, head_kind, tail}
use Rattle.isl_token.specs.Reading as r
use Rattle.isl_token.specs.Spelling.{Grammar}
use Rattle.isl_token.specs.Spelling as s
use Rattle.isl_token.proofs.Taking.{TakesAt, Takes, takes_pure, takes_none, takes_bind, takes_map, takes_past, takes_seen, takes_after}
use Rattle.isl_token.proofs.Taking.{takes_end, takes_or_left, takes_or_right, takes_peek, takes_if, takes_name, takes_number}
use Rattle.isl_token.proofs.Taking.{takes_positive, takes_row, takes_whole_row, takes_nothing_then, takes_either_then, takes_later_then}
use Rattle.isl_token.proofs.Taking.{takes_test, is_kind_true}
use Rattle.isl_tree.specs.declared.tree.Factor.TheVariants as f
use Rattle.isl_tree.specs.declared.tree.Product.{Product}
use Rattle.isl_formula.specs.declared.term.Rounding.{Rounding}
use Rattle.isl_formula.specs.declared.term.Rounding.TheVariants.{Down, Up}
use Rattle.isl_formula.specs.Term as read
use Rattle.isl_formula.specs.TermGrammar as spell

abbrev any_sign : Grammar Bool
any_sign = s.◌∪◌ spell.plus_or_minus (s.pure false)

minus_taken : (ts : List Token) → head_kind ts ≡ k.Minus → TakesAt ts (r.◌>>◌ r.skip (r.pure true)) (s.◌>>◌ (s.word k.Minus) (s.pure true))
minus_taken = takes_past k.Minus (λ h. cc) (λ _. r.pure true) (λ _. s.pure true) (λ _. takes_pure true)

plus_taken : (ts : List Token) → head_kind ts ≡ k.Plus → TakesAt ts (r.◌>>◌ r.skip (r.pure false)) (s.◌>>◌ (s.word k.Plus) (s.pure false))
plus_taken = takes_past k.Plus (λ h. cc) (λ _. r.pure false) (λ _. s.pure false) (λ _. takes_pure false)

sign_by_taken : (ts : List Token) (kind : Kind) → head_kind ts ≡ kind → TakesAt ts (read.sign_by kind) any_sign
sign_by_taken ts k.Minus e = takes_or_left _ (takes_or_left _ (minus_taken ts e))
sign_by_taken ts k.Plus e = takes_or_left _ (takes_or_right _ (plus_taken ts e))
sign_by_taken ts _ e = takes_or_right _ (takes_pure false ts)

sign_taken : Takes read.sign any_sign
unfolding read.sign
sign_taken ts = takes_peek read.sign_by any_sign ts (sign_by_taken ts (head_kind ts) refl)

plus_or_minus_by : (ts : List Token) (kind : Kind) → head_kind ts ≡ kind → read.is_additive kind ≡ true
    → TakesAt ts (read.sign_by kind) spell.plus_or_minus
plus_or_minus_by ts k.Minus e h = takes_or_left _ (minus_taken ts e)
plus_or_minus_by ts k.Plus e h = takes_or_right _ (plus_taken ts e)
plus_or_minus_by ts _ e h = absurd (false≢true h)

plus_or_minus_taken : (ts : List Token) → read.is_additive (head_kind ts) ≡ true → TakesAt ts read.sign spell.plus_or_minus
unfolding read.sign
plus_or_minus_taken ts h = takes_peek read.sign_by spell.plus_or_minus ts (plus_or_minus_by ts (head_kind ts) refl h)

opt_minus_taken : Takes read.minus spell.minus
unfolding read.minus
opt_minus_taken ts = record {
  by = takes_test (r.sees k.Minus ts) _ _ ts (s.◌>>◌ (s.word k.Minus) (s.pure true)) (s.pure false)
      (λ seen a rest e. (minus_taken ts (is_kind_true (head_kind ts) k.Minus seen)).by a rest e)
      (λ _ a rest e. (takes_pure false ts).by a rest e);
}

next_number_taken : (ts : List Token) → read.sees_times ts ≡ true → TakesAt ts read.next_number (s.◌>>◌ (s.word k.Star) s.number)
unfolding read.next_number
next_number_taken ts h = takes_seen k.Star (λ h. cc) (λ _. r.number) (λ _. s.number) (λ _. takes_number) ts
    (and_parts (r.sees k.Star ts) (is_kind (r.second_kind ts) k.Number) h).0

modulus_taken : (ts : List Token) → r.sees k.Mod ts ≡ true → TakesAt ts read.modulus (s.◌>>◌ (s.word k.Mod) s.positive)
unfolding read.modulus
modulus_taken = takes_seen k.Mod (λ h. cc) (λ _. r.positive) (λ _. s.positive) (λ _. takes_positive)

module _ (p : Parser Product) (L : Grammar Product) (nested : Takes p L) where
  signed_taken : (sign : Grammar Bool) (ts : List Token) → TakesAt ts read.sign sign → TakesAt ts (read.signed p) (spell.signed_by L sign)
  unfolding read.signed
  signed_taken sign ts h = takes_bind read.sign _ sign _ ts h (λ negative. takes_map p L (read.make_signed negative) nested)

  terms_taken : Takes (read.terms p) (spell.terms L)
  unfolding read.terms
  terms_taken ts = takes_bind (read.signed p) _ (spell.signed_by L any_sign) _ ts (signed_taken any_sign ts (sign_taken ts)) (λ first.
      takes_whole_row (λ us. read.is_additive (head_kind us)) (read.signed p) (spell.signed_by L spell.plus_or_minus)
      (λ us h. signed_taken spell.plus_or_minus us (plus_or_minus_taken us h)) (first ∷ []))

  enclosed_taken : (ts : List Token) → head_kind ts ≡ k.Open → TakesAt ts (r.◌>>◌ r.skip (read.enclosed p)) (spell.enclosed L)
  unfolding read.enclosed
  enclosed_taken = takes_past k.Open (λ h. cc) _ _ (λ _. λ us. takes_bind (read.terms p) _ (spell.terms L) _ us (terms_taken us)
      (λ inner. takes_end k.Close (λ h. cc) (f.Inner inner)))

  over_taken : Takes (read.over p) (spell.over L)
  unfolding read.over
  over_taken ts = takes_bind read.minus _ spell.minus _ ts (opt_minus_taken ts)
      (λ negative. takes_map p L (λ product. read.make_signed negative product ∷ []) nested)

  ratio_taken : (rounding : Rounding) → Takes (read.ratio p rounding) (spell.ratio L rounding)
  unfolding read.ratio
  ratio_taken rounding ts = takes_bind (read.over p) _ (spell.over L) _ ts (over_taken ts) (λ term. takes_after k.Slash (λ h. cc) _ _ (λ _.
      takes_map r.positive s.positive (read.rounded rounding term) takes_positive))

  in_brackets_taken : (kind : Kind) → kind ≢ k.End → (rounding : Rounding) (ts : List Token) → head_kind ts ≡ kind
      → TakesAt ts (r.◌>>◌ r.skip (read.in_brackets p rounding)) (spell.in_brackets L kind rounding)
  unfolding read.in_brackets
  in_brackets_taken kind some rounding = takes_past kind some _ _ (λ _. takes_after k.Open (λ h. cc) _ _ (λ _. λ us.
      takes_bind (read.ratio p rounding) _ (spell.ratio L rounding) _ us (ratio_taken rounding us)
      (λ quotient. takes_end k.Close (λ h. cc) quotient)))

  in_squares_taken : (ts : List Token) → head_kind ts ≡ k.OpenSquare → TakesAt ts (r.◌>>◌ r.skip (read.in_squares p)) (spell.in_squares L)
  unfolding read.in_squares
  in_squares_taken = takes_past k.OpenSquare (λ h. cc) _ _ (λ _. λ us.
      takes_bind (read.ratio p Down) _ (spell.ratio L Down) _ us (ratio_taken Down us)
      (λ quotient. takes_end k.CloseSquare (λ h. cc) quotient))

  divided_taken : (kind : Kind) → kind ≢ k.End → (rounding : Rounding) (ts : List Token) → head_kind ts ≡ kind
      → TakesAt ts (r.◌>>◌ r.skip (read.divided p rounding)) (spell.divided L kind rounding)
  unfolding read.divided
  divided_taken kind some rounding = takes_past kind some _ _ (λ _. takes_after k.Open (λ h. cc) _ _ (λ _. λ us.
      takes_bind (read.terms p) _ (spell.terms L) _ us (terms_taken us) (λ term. takes_after k.Comma (λ h. cc) _ _ (λ _. λ vs.
      takes_bind r.positive _ s.positive _ vs (takes_positive vs)
      (λ divisor. takes_end k.Close (λ h. cc) (read.rounded rounding term divisor))))))

  quotient_by_taken : (ts : List Token) (kind : Kind) → head_kind ts ≡ kind → TakesAt ts (read.quotient_by p kind) (spell.quotient L)
  quotient_by_taken ts k.OpenSquare e = takes_or_left _ (in_squares_taken ts e)
  quotient_by_taken ts k.Floor e = takes_or_right _ (takes_or_left _ (in_brackets_taken k.Floor (λ h. cc) Down ts e))
  quotient_by_taken ts k.Ceil e = takes_or_right _ (takes_or_right _ (takes_or_left _ (in_brackets_taken k.Ceil (λ h. cc) Up ts e)))
  quotient_by_taken ts k.FloorDiv e = takes_or_right
      _ (takes_or_right _ (takes_or_right _ (takes_or_left _ (divided_taken k.FloorDiv (λ h. cc) Down ts e))))
  quotient_by_taken ts k.CeilDiv e = takes_or_right
      _ (takes_or_right _ (takes_or_right _ (takes_or_right _ (divided_taken k.CeilDiv (λ h. cc) Up ts e))))
  quotient_by_taken ts _ e = takes_none ts (spell.quotient L)

  factor_by_taken : (ts : List Token) (kind : Kind) → head_kind ts ≡ kind → TakesAt ts (read.factor_by p kind) (spell.factor L)
  factor_by_taken ts k.Name e = takes_or_left _ (takes_map r.name s.name (λ n. f.Name n) takes_name ts)
  factor_by_taken ts k.Open e = takes_or_right _ (takes_or_left _ (enclosed_taken ts e))
  factor_by_taken ts kind e = takes_or_right _ (takes_or_right _ (quotient_by_taken ts kind e))

  factor_taken : Takes (read.factor p) (spell.factor L)
  unfolding read.factor
  factor_taken ts = takes_peek (read.factor_by p) (spell.factor L) ts (factor_by_taken ts (head_kind ts) refl)

  modded_taken : Takes (read.modded p) (spell.modded L)
  unfolding read.modded
  modded_taken ts = takes_bind (read.factor p) _ (spell.factor L) _ ts (factor_taken ts) (λ inner.
      takes_row (r.sees k.Mod) read.modulus (s.◌>>◌ (s.word k.Mod) s.positive) modulus_taken []
      _ _ (λ found. takes_pure (read.make_modded inner found)))

  held_taken : Takes (read.held p) (spell.held L)
  unfolding read.held
  held_taken = takes_map (read.modded p) (spell.modded L) (λ m. Some m) modded_taken

  inner_taken : Takes (read.inner p) (spell.inner L)
  unfolding read.inner
  inner_taken ts = takes_peek (read.inner_by p) (spell.inner L) ts (takes_if (is_kind (head_kind ts) k.Star) _ _ (spell.inner L) ts
      (λ h. takes_or_right (s.pure None) (takes_either_then (λ _. spell.held L) (takes_seen k.Star (λ h. cc) _ _ (λ _. held_taken) ts h)))
      (λ h. takes_if (read.begins_factor (head_kind ts)) _ _ (spell.inner L) ts
      (λ h. takes_or_right (s.pure None) (takes_later_then (λ _. spell.held L) (takes_nothing_then (held_taken ts))))
      (λ h. takes_or_left (s.◌>>◌ (s.◌∪◌ (s.word k.Star) s.nothing) (spell.held L)) (takes_pure None ts))))

  numbered_taken : Takes (read.numbered p) (spell.numbered L)
  unfolding read.numbered
  numbered_taken ts = takes_bind r.number _ s.number _ ts (takes_number ts) (λ first.
      takes_row read.sees_times read.next_number (s.◌>>◌ (s.word k.Star) s.number) next_number_taken (first ∷ []) _ _ (λ numbers.
      takes_map (read.inner p) (spell.inner L) (read.make_product numbers) inner_taken))

  named_taken : Takes (read.named p) (spell.named L)
  unfolding read.named
  named_taken ts = takes_bind (read.modded p) _ (spell.modded L) _ ts (modded_taken ts) (λ m.
      takes_row read.sees_times read.next_number (s.◌>>◌ (s.word k.Star) s.number) next_number_taken []
      _ _ (λ numbers. takes_pure (read.make_product numbers (Some m))))

  level_taken : Takes (read.product_level p) (spell.product_level L)
  unfolding read.product_level
  level_taken ts = takes_peek (read.level_by p) (spell.product_level L) ts
      (takes_if (is_kind (head_kind ts) k.Number) _ _ (spell.product_level L) ts
      (λ h. takes_or_left (spell.named L) (numbered_taken ts)) (λ h. takes_or_right (spell.numbered L) (named_taken ts)))

pub product_taken : (n : ℕ) → Takes (read.product n) (spell.product n)
unfolding read.product spell.product
product_taken zero ts = takes_none ts (spell.product 0)
product_taken (suc n) ts = level_taken (read.product n) (spell.product n) (product_taken n) ts

pub term_taken : (n : ℕ) → Takes (read.term n) (spell.term n)
term_taken n = terms_taken (read.product n) (spell.product n) (product_taken n)
