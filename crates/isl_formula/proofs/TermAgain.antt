-- What spells a term is read again.
use Rattle.std.proofs.Common.{◌≡◌, ℕ, ℤ, zero, suc, ◌<◌, Bool, true, false, not, List, [], ◌∷◌, ◌++◌, length, Option, Some, None, refl, sym}
use Rattle.std.proofs.Common.{ap, ◌∙◌, inl, inr, arith}
use Rattle.std.proofs.lemmas.Bool.{false≢true, not-true}
use Rattle.isl_token.specs.TokenView.{Token}
use Rattle.isl_token.specs.TokenView as token
use Rattle.isl_token.specs.declared.token.Kind.{Kind}
use Rattle.isl_token.specs.declared.token.Kind.TheVariants as k
use Rattle.isl_token.specs.Token.{is_kind, kind_of}
use Rattle.isl_token.specs.Reading.{Parser, head_kind, tail}
use Rattle.isl_token.specs.Reading as r
use Rattle.isl_token.specs.Spelling.{Grammar}
use Rattle.isl_token.specs.Spelling as s
use Rattle.isl_token.proofs.Taking.{is_kind_same}
use Rattle.isl_token.proofs.Again.{Stops, Again, Starts, Items, always, again_pure, again_map, again_bind, again_skip, again_after}
use Rattle.isl_token.proofs.Again.{again_end, again_name, again_number, again_positive, again_row, again_whole_row, starts_kind}
use Rattle.isl_token.proofs.Again.{starts_with, head_is, head_of_word, Follows, Full, follows_pure, follows_starts, follows_either}
use Rattle.isl_token.proofs.Again.{follows_always, follows_bind, follows_many, follows_word, starts_bind, starts_either, starts_more}
use Rattle.isl_token.proofs.Again.{starts_always, starts_word, starts_name, starts_number, full_word, full_bind, full_either}
use Rattle.isl_tree.specs.declared.tree.Factor.{Factor}
use Rattle.isl_tree.specs.declared.tree.Factor.TheVariants as f
use Rattle.isl_tree.specs.declared.tree.Modded.{Modded}
use Rattle.isl_tree.specs.declared.tree.Product.{Product}
use Rattle.isl_formula.specs.declared.term.Rounding.{Rounding}
use Rattle.isl_formula.specs.declared.term.Rounding.TheVariants.{Down, Up}
use Rattle.isl_formula.specs.Term as read
use Rattle.isl_formula.specs.TermGrammar as spell
use Rattle.isl_formula.proofs.TermEnds.{at, ends_product, ends_term, begins_product, product_not_additive, term_ends_product}
use Rattle.isl_formula.proofs.TermEnds.{term_not_additive, not_minus, ends_not_mod, ends_not_star, ends_not_factor, factor_not_star}
use Rattle.isl_formula.proofs.TermEnds.{factor_not_number, factor_begins_product, no_mod, no_times, no_sign, not_star_no_times, no_both}

-- ---- signs

abbrev any_sign : Grammar Bool
any_sign = s.◌∪◌ spell.plus_or_minus (s.pure false)

minus_read : (a : Bool) (ts rest : List Token) → (s.◌>>◌ (s.word k.Minus) (s.pure true)) a ts
    → r.◌>>◌ r.skip (r.pure true) (ts ++ rest) ≡ Some (a, rest)
minus_read a ts rest l = (again_skip k.Minus (length ts) (λ _. r.pure true) (λ _. s.pure true) always
    (λ _. again_pure (length ts) true always)).by a ts rest l (omega arith) refl

plus_read : (a : Bool) (ts rest : List Token) → (s.◌>>◌ (s.word k.Plus) (s.pure false)) a ts
    → r.◌>>◌ r.skip (r.pure false) (ts ++ rest) ≡ Some (a, rest)
plus_read a ts rest l = (again_skip k.Plus (length ts) (λ _. r.pure false) (λ _. s.pure false) always
    (λ _. again_pure (length ts) false always)).by a ts rest l (omega arith) refl

plus_or_minus_read : (a : Bool) (ts rest : List Token) → spell.plus_or_minus a ts → read.sign (ts ++ rest) ≡ Some (a, rest)
unfolding read.sign
plus_or_minus_read a ts rest (inl l) = ap (λ kind. read.sign_by kind (ts ++ rest)) (head_of_word k.Minus (λ _. s.pure true) a ts rest l)
    ∙ minus_read a ts rest l
plus_or_minus_read a ts rest (inr l) = ap (λ kind. read.sign_by kind (ts ++ rest)) (head_of_word k.Plus (λ _. s.pure false) a ts rest l)
    ∙ plus_read a ts rest l

sign_by_other : (kind : Kind) (ts : List Token) → read.is_additive kind ≡ false → read.sign_by kind ts ≡ Some (false, ts)
sign_by_other k.Plus ts e = absurd (false≢true (sym e))
sign_by_other k.Minus ts e = absurd (false≢true (sym e))
sign_by_other _ ts e = refl

sign_read : (a : Bool) (ts rest : List Token) → any_sign a ts → no_sign rest ≡ true → read.sign (ts ++ rest) ≡ Some (a, rest)
unfolding read.sign
sign_read a ts rest (inl l) stop = plus_or_minus_read a ts rest l
sign_read a ts rest (inr l) stop = rw (l.1, sign_by_other (head_kind rest) rest (not-true _ stop), l.0) refl

pub sign_again : (size : ℕ) → Again size read.sign any_sign no_sign
sign_again size = record { by = λ a ts rest l lt stop. sign_read a ts rest l stop }

pub plus_or_minus_again : (size : ℕ) → Again size read.sign spell.plus_or_minus always
plus_or_minus_again size = record { by = λ a ts rest l lt stop. plus_or_minus_read a ts rest l }

opt_minus_read : (a : Bool) (ts rest : List Token) → spell.minus a ts → no_sign rest ≡ true → read.minus (ts ++ rest) ≡ Some (a, rest)
unfolding read.minus
opt_minus_read a ts rest (inl l) stop = rw (is_kind_same (head_kind (ts ++ rest)) k.Minus
    (head_of_word k.Minus (λ _. s.pure true) a ts rest l)) (minus_read a ts rest l)
opt_minus_read a ts rest (inr l) stop = rw (l.1, not_minus (head_kind rest) (not-true _ stop), l.0) refl

pub opt_minus_again : (size : ℕ) → Again size read.minus spell.minus no_sign
opt_minus_again size = record { by = λ a ts rest l lt stop. opt_minus_read a ts rest l stop }

plus_or_minus_full : Full spell.plus_or_minus
plus_or_minus_full = full_either _ _ (full_bind _ _ (full_word k.Minus)) (full_bind _ _ (full_word k.Plus))

-- ---- rows

next_number_again : (size : ℕ) → Again size read.next_number (s.◌>>◌ (s.word k.Star) s.number) always
unfolding read.next_number
next_number_again size = record {
  by = λ a ts rest l lt stop.
      (again_skip k.Star (length ts) (λ _. r.number) (λ _. s.number) always (λ _. again_number (length ts))).by a ts rest l (omega arith)
      refl;
}

modulus_again : (size : ℕ) → Again size read.modulus (s.◌>>◌ (s.word k.Mod) s.positive) always
unfolding read.modulus
modulus_again size = record {
  by = λ a ts rest l lt stop.
      let n = length ts in
      (again_skip k.Mod n (λ _. r.positive) (λ _. s.positive) always (λ _. again_positive n)).by a ts rest l (omega arith) refl;
}

times_start : (a : ℤ) (us rest : List Token) → (s.◌>>◌ (s.word k.Star) s.number) a us → read.sees_times (us ++ rest) ≡ true
times_start a us rest l =
    let whole : us ++ rest ≡ l.4.0 ∷ (token.Number l.5.0 ∷ rest) =
    ap (λ (x : List Token). x ++ rest) (l.3 ∙ ap (λ (x : List Token). x ++ l.2) l.4.1 ∙ ap (λ (x : List Token). l.4.0 ∷ x) l.5.1) in
    rw (whole, is_kind_same (kind_of l.4.0) k.Star l.4.2) refl

times_items : Items read.sees_times (s.◌>>◌ (s.word k.Star) s.number) always
times_items = record {
  starts = record { by = times_start };
  follows = starts_always _;
  some = full_bind _ _ (full_word k.Star);
}

moduli_items : Items (r.sees k.Mod) (s.◌>>◌ (s.word k.Mod) s.positive) always
moduli_items = record {
  starts = starts_bind (s.word k.Mod) (λ _. s.positive) (r.sees k.Mod) (starts_word k.Mod (λ kind. is_kind kind k.Mod) refl);
  follows = starts_always _;
  some = full_bind _ _ (full_word k.Mod);
}

plus_or_minus_starts : (test : Kind → Bool) → test k.Plus ≡ true → test k.Minus ≡ true → Starts spell.plus_or_minus (at test)
plus_or_minus_starts test plus minus = starts_either _ _ (at test) (starts_bind _ _ (at test) (starts_word k.Minus test minus))
    (starts_bind _ _ (at test) (starts_word k.Plus test plus))

module _ (L : Grammar Product) where
  pub lone_starts : Starts (spell.lone L) (r.sees k.Name)
  lone_starts = starts_bind s.name _ (r.sees k.Name) (starts_name (λ kind. is_kind kind k.Name) refl)

  pub quotient_starts : (test : Kind → Bool) → test k.OpenSquare ≡ true → test k.Floor ≡ true → test k.Ceil ≡ true → test k.FloorDiv ≡ true
      → test k.CeilDiv ≡ true → Starts (spell.quotient L) (at test)
  quotient_starts test square floor ceil floor_div ceil_div =
      starts_either _ _ (at test) (starts_kind k.OpenSquare test (starts_with k.OpenSquare _) square)
      (starts_either _ _ (at test) (starts_kind k.Floor test (starts_with k.Floor _) floor)
      (starts_either _ _ (at test) (starts_kind k.Ceil test (starts_with k.Ceil _) ceil)
      (starts_either _ _ (at test) (starts_kind k.FloorDiv test (starts_with k.FloorDiv _) floor_div)
      (starts_kind k.CeilDiv test (starts_with k.CeilDiv _) ceil_div))))

  pub factor_starts : Starts (spell.factor L) (at read.begins_factor)
  factor_starts = starts_either _ _ (at read.begins_factor) (starts_kind k.Name read.begins_factor lone_starts refl)
      (starts_either _ _ (at read.begins_factor) (starts_kind k.Open read.begins_factor (starts_with k.Open _) refl)
      (quotient_starts read.begins_factor refl refl refl refl refl))

  pub modded_starts : Starts (spell.modded L) (at read.begins_factor)
  modded_starts = starts_bind (spell.factor L) _ (at read.begins_factor) factor_starts

  pub held_starts : Starts (spell.held L) (at read.begins_factor)
  held_starts = starts_bind (spell.modded L) _ (at read.begins_factor) modded_starts

  pub numbered_starts : Starts (spell.numbered L) (r.sees k.Number)
  numbered_starts = starts_bind s.number _ (r.sees k.Number) (starts_number (λ kind. is_kind kind k.Number) refl)

  pub named_starts : Starts (spell.named L) (at read.begins_factor)
  named_starts = starts_bind (spell.modded L) _ (at read.begins_factor) modded_starts

  pub level_starts : Starts (spell.product_level L) (at begins_product)
  level_starts = starts_either _ _ (at begins_product) (starts_kind k.Number begins_product numbered_starts refl)
      (starts_more _ (at read.begins_factor) (at begins_product) named_starts (λ ts e. factor_begins_product (head_kind ts) e))

module _ (size : ℕ) (p : Parser Product) (L : Grammar Product) (again : Again size p L (at ends_product))
    (begins : Starts L (at begins_product)) where
  signed_again : (sign : Grammar Bool) (stops : Stops) → Again size read.sign sign stops
      → ((ts : List Token) → at begins_product ts ≡ true → stops ts ≡ true)
      → Again size (read.signed p) (spell.signed_by L sign) (at ends_product)
  unfolding read.signed
  signed_again sign stops h w = again_bind size read.sign _ sign _ stops (at ends_product) h
      (λ negative. again_map size p L (read.make_signed negative) (at ends_product) again)
      (λ negative. follows_starts (at ends_product) (starts_more _ (at begins_product) stops (starts_bind L _ (at begins_product) begins)
      w))

  first_again : Again size (read.signed p) (spell.signed_by L any_sign) (at ends_product)
  first_again = signed_again any_sign no_sign (sign_again size) (λ ts e. rw (product_not_additive (head_kind ts) e) refl)

  other_items : Items (at read.is_additive) (spell.signed_by L spell.plus_or_minus) (at ends_product)
  other_items = record {
    starts = starts_bind _ _ (at read.is_additive) (plus_or_minus_starts read.is_additive refl refl);
    follows = starts_bind _ _ (at ends_product) (plus_or_minus_starts ends_product refl refl);
    some = full_bind _ _ plus_or_minus_full;
  }

  terms_again : Again size (read.terms p) (spell.terms L) (at ends_term)
  unfolding read.terms
  terms_again = again_bind size (read.signed p) _ (spell.signed_by L any_sign) _ (at ends_product) (at ends_term) first_again
      (λ first. again_whole_row size (at read.is_additive) (read.signed p) (spell.signed_by L spell.plus_or_minus) (at ends_product)
      other_items
      (signed_again spell.plus_or_minus always (plus_or_minus_again size) (λ ts e. refl)) (first ∷ []) (at ends_term)
      (λ rest stop. (term_not_additive (head_kind rest) stop, term_ends_product (head_kind rest) stop)))
      (λ first. follows_bind (follows_many other_items.follows (λ rest e. term_ends_product (head_kind rest) e))
      (λ more. follows_pure _ (at ends_term) (at ends_term) (λ rest e. e)))

  enclosed_again : Again (suc size) (r.◌>>◌ r.skip (read.enclosed p)) (spell.enclosed L) always
  unfolding read.enclosed
  enclosed_again = again_skip k.Open size (λ _. read.enclosed p) _ always (λ _.
      again_bind size (read.terms p) _ (spell.terms L) _ (at ends_term) always terms_again
      (λ inner. again_end size k.Close (f.Inner inner)) (λ inner. follows_word k.Close _ ends_term always refl))

  over_again : Again size (read.over p) (spell.over L) (at ends_product)
  unfolding read.over
  over_again = again_bind size read.minus _ spell.minus _ no_sign (at ends_product) (opt_minus_again size)
      (λ negative. again_map size p L (λ product. read.make_signed negative product ∷ []) (at ends_product) again)
      (λ negative. follows_starts (at ends_product) (starts_more _ (at begins_product) no_sign (starts_bind L _ (at begins_product) begins)
      (λ ts e. rw (product_not_additive (head_kind ts) e) refl)))

  ratio_again : (rounding : Rounding) → Again size (read.ratio p rounding) (spell.ratio L rounding) always
  unfolding read.ratio
  ratio_again rounding = again_bind size (read.over p) _ (spell.over L) _ (at ends_product) always over_again
      (λ term. again_after size k.Slash _ _ always (λ _. again_map size r.positive s.positive (read.rounded rounding term) always
      (again_positive size)))
      (λ term. follows_word k.Slash _ ends_product always refl)

  in_brackets_again : (kind : Kind) (rounding : Rounding)
      → Again (suc size) (r.◌>>◌ r.skip (read.in_brackets p rounding)) (spell.in_brackets L kind rounding) always
  unfolding read.in_brackets
  in_brackets_again kind rounding = again_skip kind size (λ _. read.in_brackets p rounding) _ always
      (λ _. again_after size k.Open _ _ always (λ _.
      again_bind size (read.ratio p rounding) _ (spell.ratio L rounding) _ always always (ratio_again rounding)
      (λ quotient. again_end size k.Close quotient) (λ quotient. follows_always _ always)))

  in_squares_again : Again (suc size) (r.◌>>◌ r.skip (read.in_squares p)) (spell.in_squares L) always
  unfolding read.in_squares
  in_squares_again = again_skip k.OpenSquare size (λ _. read.in_squares p) _ always (λ _.
      again_bind size (read.ratio p Down) _ (spell.ratio L Down) _ always always (ratio_again Down)
      (λ quotient. again_end size k.CloseSquare quotient) (λ quotient. follows_always _ always))

  divided_again : (kind : Kind) (rounding : Rounding)
      → Again (suc size) (r.◌>>◌ r.skip (read.divided p rounding)) (spell.divided L kind rounding) always
  unfolding read.divided
  divided_again kind rounding = again_skip kind size (λ _. read.divided p rounding) _ always (λ _. again_after size k.Open _ _ always (λ _.
      again_bind size (read.terms p) _ (spell.terms L) _ (at ends_term) always terms_again
      (λ term. again_after size k.Comma _ _ always (λ _. again_bind size r.positive _ s.positive _ always always (again_positive size)
      (λ divisor. again_end size k.Close (read.rounded rounding term divisor)) (λ divisor. follows_always _ always)))
      (λ term. follows_word k.Comma _ ends_term always refl)))

  lone_again : Again (suc size) (r.◌>>=◌ r.name (λ n. r.pure (f.Name n))) (spell.lone L) always
  lone_again = again_map (suc size) r.name s.name (λ n. f.Name n) always (again_name (suc size))

  -- a factor by its first token
  by_head : (kind : Kind) (M : Unit {0} → Grammar Factor) → Again (suc size) (read.factor_by p kind) (s.◌>>=◌ (s.word kind) M) always
      → (a : Factor) (ts rest : List Token) → s.◌>>=◌ (s.word kind) M a ts → length ts < suc size
      → read.factor p (ts ++ rest) ≡ Some (a, rest)
  unfolding read.factor
  by_head kind M h a ts rest l lt = ap (λ kind. read.factor_by p kind (ts ++ rest)) (head_of_word kind M a ts rest l)
      ∙ h.by a ts rest l lt refl

  factor_read : (a : Factor) (ts rest : List Token) → spell.factor L a ts → length ts < suc size
      → read.factor p (ts ++ rest) ≡ Some (a, rest)
  unfolding read.factor
  factor_read a ts rest (inl l) lt = ap (λ kind. read.factor_by p kind (ts ++ rest)) (head_is k.Name (lone_starts L) a ts rest l)
      ∙ lone_again.by a ts rest l lt refl
  factor_read a ts rest (inr (inl l)) lt = by_head k.Open _ enclosed_again a ts rest l lt
  factor_read a ts rest (inr (inr (inl l))) lt = by_head k.OpenSquare _ in_squares_again a ts rest l lt
  factor_read a ts rest (inr (inr (inr (inl l)))) lt = by_head k.Floor _ (in_brackets_again k.Floor Down) a ts rest l lt
  factor_read a ts rest (inr (inr (inr (inr (inl l))))) lt = by_head k.Ceil _ (in_brackets_again k.Ceil Up) a ts rest l lt
  factor_read a ts rest (inr (inr (inr (inr (inr (inl l)))))) lt = by_head k.FloorDiv _ (divided_again k.FloorDiv Down) a ts rest l lt
  factor_read a ts rest (inr (inr (inr (inr (inr (inr l)))))) lt = by_head k.CeilDiv _ (divided_again k.CeilDiv Up) a ts rest l lt

  factor_again : Again (suc size) (read.factor p) (spell.factor L) always
  factor_again = record { by = λ a ts rest l lt stop. factor_read a ts rest l lt }

  modded_again : Again (suc size) (read.modded p) (spell.modded L) no_mod
  unfolding read.modded
  modded_again = again_bind (suc size) (read.factor p) _ (spell.factor L) _ always no_mod factor_again
      (λ inside. again_row (suc size) (r.sees k.Mod) read.modulus (s.◌>>◌ (s.word k.Mod) s.positive) always moduli_items
      (modulus_again (suc size)) [] _ _ no_mod
      (λ found. again_pure (suc size) (read.make_modded inside found) no_mod)
      (λ found. follows_pure _ no_mod no_mod (λ rest e. e)) (λ found. follows_always _ no_mod))
      (λ inside. follows_always _ no_mod)

  held_again : Again (suc size) (read.held p) (spell.held L) no_mod
  unfolding read.held
  held_again = again_bind (suc size) (read.modded p) _ (spell.modded L) _ no_mod no_mod modded_again
      (λ m. again_pure (suc size) (Some m) no_mod) (λ m. follows_pure _ no_mod no_mod (λ rest e. e))

  -- what follows the numbers of a product does not go on with them
  inner_over : Follows (spell.inner L) (at ends_product) no_times
  inner_over = follows_either (follows_pure None (at ends_product) no_times
      (λ rest e. not_star_no_times rest (ends_not_star (head_kind rest) e))) (record { by = go }) where
        go : (a : Option Modded) (ts rest : List Token) → (s.◌>>◌ (s.◌∪◌ (s.word k.Star) s.nothing) (spell.held L)) a ts
            → at ends_product rest ≡ true → no_times (ts ++ rest) ≡ true
        go a ts rest (u, us, vs, e, inl w, h) stop =
            let whole : ts ++ rest ≡ w.0 ∷ (vs ++ rest) = ap (λ (x : List Token). x ++ rest) (e ∙ ap (λ (x : List Token). x ++ vs) w.1) in
            let second = factor_not_number (head_kind (vs ++ rest)) ((held_starts L).by a vs rest h) in
            rw (whole, second) (no_both (is_kind (kind_of w.0) k.Star))
        go a ts rest (u, us, vs, e, inr n, h) stop =
            let whole : ts ++ rest ≡ vs ++ rest = ap (λ (x : List Token). x ++ rest) (e ∙ ap (λ (x : List Token). x ++ vs) n) in
            rw whole (not_star_no_times (vs ++ rest) (factor_not_star (head_kind (vs ++ rest)) ((held_starts L).by a vs rest h)))

  inner_read : (a : Option Modded) (ts rest : List Token) → spell.inner L a ts → length ts < suc size → at ends_product rest ≡ true
      → read.inner p (ts ++ rest) ≡ Some (a, rest)
  unfolding read.inner
  inner_read a ts rest (inl l) lt stop = rw (l.1, ends_not_star (head_kind rest) stop, ends_not_factor (head_kind rest) stop, l.0) refl
  inner_read a ts rest (inr (u, us, vs, e, inl w, h)) lt stop =
      let whole : ts ++ rest ≡ w.0 ∷ (vs ++ rest) = ap (λ (x : List Token). x ++ rest) (e ∙ ap (λ (x : List Token). x ++ vs) w.1) in
      let lens : length ts ≡ suc (length vs) = ap length (e ∙ ap (λ (x : List Token). x ++ vs) w.1) in
      rw (whole, is_kind_same (kind_of w.0) k.Star w.2) (held_again.by a vs rest h (omega arith) (ends_not_mod (head_kind rest) stop))
  inner_read a ts rest (inr (u, us, vs, e, inr n, h)) lt stop =
      let same : ts ≡ vs = e ∙ ap (λ (x : List Token). x ++ vs) n in
      let lens : length ts ≡ length vs = ap length same in
      let factor = (held_starts L).by a vs rest h in
      rw (same, factor_not_star (head_kind (vs ++ rest)) factor, factor)
      (held_again.by a vs rest h (omega arith) (ends_not_mod (head_kind rest) stop))

  inner_again : Again (suc size) (read.inner p) (spell.inner L) (at ends_product)
  inner_again = record { by = λ a ts rest l lt stop. inner_read a ts rest l lt stop }

  numbered_again : Again (suc size) (read.numbered p) (spell.numbered L) (at ends_product)
  unfolding read.numbered
  numbered_again = again_bind (suc size) r.number _ s.number _ always (at ends_product) (again_number (suc size))
      (λ first. again_row (suc size) read.sees_times read.next_number (s.◌>>◌ (s.word k.Star) s.number) always times_items
      (next_number_again (suc size)) (first ∷ []) _ _ (at ends_product)
      (λ numbers. again_bind (suc size) (read.inner p) _ (spell.inner L) _ (at ends_product) (at ends_product) inner_again
      (λ last. again_pure (suc size) (read.make_product numbers last) (at ends_product))
      (λ last. follows_pure _ (at ends_product) (at ends_product) (λ rest e. e)))
      (λ numbers. follows_bind inner_over (λ last. follows_pure _ (at ends_product) (at ends_product) (λ rest e. e)))
      (λ numbers. follows_always _ (at ends_product)))
      (λ first. follows_always _ (at ends_product))

  times_no_mod : Starts (s.◌>>◌ (s.word k.Star) s.number) no_mod
  times_no_mod = starts_bind (s.word k.Star) _ no_mod (starts_word k.Star (λ kind. not (is_kind kind k.Mod)) refl)

  named_again : Again (suc size) (read.named p) (spell.named L) (at ends_product)
  unfolding read.named
  named_again = again_bind (suc size) (read.modded p) _ (spell.modded L) _ no_mod (at ends_product) modded_again
      (λ first. again_row (suc size) read.sees_times read.next_number (s.◌>>◌ (s.word k.Star) s.number) always times_items
      (next_number_again (suc size)) [] _ _ (at ends_product)
      (λ numbers. again_pure (suc size) (read.make_product numbers (Some first)) (at ends_product))
      (λ numbers. follows_pure _ (at ends_product) no_times (λ rest e. not_star_no_times rest (ends_not_star (head_kind rest) e)))
      (λ numbers. follows_always _ (at ends_product)))
      (λ first. follows_bind (follows_many times_no_mod (λ rest e. ends_not_mod (head_kind rest) e))
      (λ numbers. follows_pure _ (at ends_product) (at ends_product) (λ rest e. e)))

  level_read : (a : Product) (ts rest : List Token) → spell.product_level L a ts → length ts < suc size → at ends_product rest ≡ true
      → read.product_level p (ts ++ rest) ≡ Some (a, rest)
  unfolding read.product_level
  level_read a ts rest (inl l) lt stop = ap (λ kind. read.level_by p kind (ts ++ rest)) (head_is k.Number (numbered_starts L) a ts rest l)
      ∙ numbered_again.by a ts rest l lt stop
  level_read a ts rest (inr l) lt stop = rw (factor_not_number (head_kind (ts ++ rest)) ((named_starts L).by a ts rest l))
      (named_again.by a ts rest l lt stop)

  level_again : Again (suc size) (read.product_level p) (spell.product_level L) (at ends_product)
  level_again = record { by = λ a ts rest l lt stop. level_read a ts rest l lt stop }

pub product_starts : (n : ℕ) → Starts (spell.product n) (at begins_product)
unfolding spell.product
product_starts zero = record { by = λ a us rest l. absurd l }
product_starts (suc n) = level_starts (spell.product n)

pub product_again : (n depth : ℕ) → Again n (read.product n) (spell.product depth) (at ends_product)
unfolding read.product spell.product
product_again zero depth = record { by = λ a us rest l lt stop. absurd (omega arith) }
product_again (suc n) zero = record { by = λ a us rest l lt stop. absurd l }
product_again (suc n) (suc depth) = level_again n (read.product n) (spell.product depth) (product_again n depth) (product_starts depth)

pub term_again : (n depth : ℕ) → Again n (read.term n) (spell.term depth) (at ends_term)
term_again n depth = terms_again n (read.product n) (spell.product depth) (product_again n depth) (product_starts depth)
