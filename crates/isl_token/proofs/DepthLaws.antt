-- What stacks, told by kinds.
use Rattle.std.proofs.Common.{◌≡◌, ◌≢◌, ◌<◌, ◌≤◌, ◌+◌, Bool, true, false, cond, List, [], ◌∷◌, Option, Some, None, length, refl, sym, ap}
use Rattle.std.proofs.Common.{◌∙◌, arith}
use Rattle.std.specs.Prelude.{nat_lt}
use Rattle.std.specs.List.{list_any}
use Rattle.std.proofs.lemmas.Bool.{le-ltb}
use Rattle.isl_token.specs.TokenView.{Token}
use Rattle.isl_token.specs.TokenView as token
use Rattle.isl_token.specs.declared.token.Kind.{Kind}
use Rattle.isl_token.specs.declared.token.Kind.TheVariants as kind
use Rattle.isl_token.specs.declared.depth.Place.{Place}
use Rattle.isl_token.specs.Token.{Text, is_kind, kind_of, word_kinds, word_kind, sign_kinds, sign_kind}
use Rattle.isl_token.specs.Depth.{is_stacking, is_stacking_word, stacking_words, head_is_stacking, depths, step_by}
use Rattle.isl_token.specs.Reading.{name, head_kind, tail}
use Rattle.isl_token.proofs.WordLaws.{Each, found}
use Rattle.isl_token.proofs.Taking.{is_kind_same, same_read}

-- whether it stacks, told by its kind, and for a name by its word
by_kind : Kind → Bool → Bool
by_kind kind.Not word = true
by_kind kind.Exists word = true
by_kind kind.Name word = word
by_kind _ word = false

word_stacks : (word : Text) → is_stacking_word word ≡ by_kind (word_kind word) (is_stacking_word word)
unfolding word_kind stacking_words by_kind
word_stacks word = found (λ text k. is_stacking_word text ≡ by_kind k (is_stacking_word text)) word_kinds word kind.Name each refl
  where
    each : Each (λ text k. is_stacking_word text ≡ by_kind k (is_stacking_word text)) word_kinds
    each = (refl, (refl, (refl, (refl, (refl, (refl, (refl, (refl, (refl, (refl, (refl, (refl, tt))))))))))))

sign_stacks : (sign : Text) → is_kind (sign_kind sign) kind.Not ≡ by_kind (sign_kind sign) false
unfolding sign_kind by_kind
sign_stacks sign = found (λ text k. is_kind k kind.Not ≡ by_kind k false) sign_kinds sign kind.End each refl
  where
    each : Each (λ text k. is_kind k kind.Not ≡ by_kind k false) sign_kinds
    each = (
      refl,
      (
        refl,
        (
          refl,
          (
            refl,
            (
              refl,
              (
                refl,
                (
                  refl,
                  (
                    refl,
                    (
                      refl,
                      (
                        refl,
                        (
                          refl,
                          (
                            refl,
                            (
                              refl,
                              (
                                refl,
                                (
                                  refl,
                                  (
                                    refl,
                                    (
                                      refl,
                                      (
                                        refl,
                                        (
                                          refl,
                                          (
                                            refl,
                                            (
                                              refl,
                                              (
                                                refl,
                                                (
                                                  refl,
                                                  (
                                                    refl,
                                                    (refl, (refl, (refl, (refl, (refl, (refl, (refl, (refl, (refl, (refl, tt)))))))))),
                                                  ),
                                                ),
                                              ),
                                            ),
                                          ),
                                        ),
                                      ),
                                    ),
                                  ),
                                ),
                              ),
                            ),
                          ),
                        ),
                      ),
                    ),
                  ),
                ),
              ),
            ),
          ),
        ),
      ),
    )

stacks_of : Token → Bool
stacks_of (token.Word word) = is_stacking_word word
stacks_of (token.Number digits) = false
stacks_of (token.Sign sign) = false

stacks : (t : Token) → is_stacking t ≡ by_kind (kind_of t) (stacks_of t)
unfolding stacks_of by_kind
stacks (token.Word word) = word_stacks word
stacks (token.Number digits) = refl
stacks (token.Sign sign) = sign_stacks sign

of_not : (k : Kind) (word : Bool) → k ≡ kind.Not → by_kind k word ≡ true
unfolding by_kind
of_not k word is = rw is refl

of_exists : (k : Kind) (word : Bool) → k ≡ kind.Exists → by_kind k word ≡ true
unfolding by_kind
of_exists k word is = rw is refl

of_name : (k : Kind) (word : Bool) → k ≡ kind.Name → by_kind k word ≡ word
unfolding by_kind
of_name k word is = rw is refl

of_other : (k : Kind) (word : Bool) → k ≢ kind.Name → k ≢ kind.Not → k ≢ kind.Exists → by_kind k word ≡ false
unfolding by_kind
of_other kind.Name word no_name no_not no_exists = absurd (no_name refl)
of_other kind.Not word no_name no_not no_exists = absurd (no_not refl)
of_other kind.Exists word no_name no_not no_exists = absurd (no_exists refl)
of_other _ word no_name no_not no_exists = refl

-- ---- the next token

pub next_not : (ts : List Token) (k : Kind) → k ≡ head_kind ts → k ≡ kind.Not → true ≡ head_is_stacking ts
next_not [] k head is = absurd cc
next_not (t ∷ ts) k head is = sym (stacks t ∙ of_not (kind_of t) (stacks_of t) (sym head ∙ is))

pub next_exists : (ts : List Token) (k : Kind) → k ≡ head_kind ts → k ≡ kind.Exists → true ≡ head_is_stacking ts
next_exists [] k head is = absurd cc
next_exists (t ∷ ts) k head is = sym (stacks t ∙ of_exists (kind_of t) (stacks_of t) (sym head ∙ is))

pub next_other : (ts : List Token) (k : Kind) → k ≡ head_kind ts → k ≢ kind.Name → k ≢ kind.Not → k ≢ kind.Exists
    → false ≡ head_is_stacking ts
next_other [] k head no_name no_not no_exists = refl
next_other (t ∷ ts) k head no_name no_not no_exists = sym
    (stacks t ∙ of_other (kind_of t) (stacks_of t) (λ e. no_name (head ∙ e)) (λ e. no_not (head ∙ e)) (λ e. no_exists (head ∙ e)))

pub next_word : (ts us : List Token) (word : Text) (r : Bool) → name ts ≡ Some (word, us) → r ≡ is_stacking_word word
    → r ≡ head_is_stacking ts
unfolding name
next_word [] us word r read is = absurd cc
next_word (token.Word w ∷ ts) us word r read is = by_test (is_kind (kind_of (token.Word w)) kind.Name) read
  where
    by_test : (q : Bool) → cond {A = Option (Text × List Token)} q (Some (w, ts)) None ≡ Some (word, us) → r ≡ is_stacking_word w
    by_test true read = let e = same_read w word ts us read in is ∙ ap is_stacking_word (sym e.0)
    by_test false read = absurd cc
next_word (token.Number digits ∷ ts) us word r read is = absurd cc
next_word (token.Sign sign ∷ ts) us word r read is = absurd cc

pub next_no_word : (ts : List Token) (k : Kind) → k ≡ head_kind ts → k ≡ kind.Name → name ts ≡ None → false ≡ head_is_stacking ts
unfolding name by_kind
next_no_word [] k head is none = refl
next_no_word (token.Word w ∷ ts) k head is none =
    let named : is_kind (kind_of (token.Word w)) kind.Name ≡ true = is_kind_same (kind_of (token.Word w)) kind.Name (sym head ∙ is) in
    let some : name (token.Word w ∷ ts) ≡ Some (w, ts) = rw named refl in
    absurd cc
next_no_word (token.Number digits ∷ ts) k head is none = refl
next_no_word (token.Sign sign ∷ ts) k head is none = sym (sign_stacks sign ∙ of_name (sign_kind sign) false (sym head ∙ is))

-- ---- one turn of the loop over tokens

pub depth_step : (ts : List Token) (place next : Place) (total : Bool) → 0 < length ts → next ≡ step_by place (head_is_stacking ts)
    (head_kind ts)
    → next.brackets + next.words ≤ 200 → total ≡ list_any (nat_lt 200) (depths place ts) → total ≡ list_any (nat_lt 200)
    (depths next (tail ts))
depth_step [] place next total some is within so_far = absurd (omega arith)
depth_step (t ∷ ts) place next total some is within so_far =
    so_far ∙ rw (← is, le-ltb 200 (next.brackets + next.words) within) refl
