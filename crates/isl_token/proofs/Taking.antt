-- What a reader takes is spelled by a grammar.
use Rattle.std.proofs.Common.{◌≡◌, ◌≢◌, ℕ, ℤ, zero, suc, Bool, true, false, cond, ◌&&◌, List, [], ◌∷◌, ◌++◌, length, Option, Some, None}
use Rattle.std.proofs.Common.{refl, sym, ap, subst, ◌∙◌, inl, inr, append_assoc}
use Rattle.std.specs.Prelude.{◌⊎◌, pos}
use Rattle.isl_token.specs.TokenView.{Token}
use Rattle.isl_token.specs.TokenView as token
use Rattle.isl_token.specs.declared.token.Kind.{Kind}
use Rattle.isl_token.specs.declared.token.Kind.TheVariants as kind
use Rattle.isl_token.specs.Token.{is_kind, kind_of}
use Rattle.isl_token.specs.Reading.{Parser, and_then, head_kind, tail, expect, name, number, positive, rest_of, row, is_zero}
use Rattle.isl_token.specs.Number.{number_of}
use Rattle.isl_token.specs.Reading as r
use Rattle.isl_token.specs.Spelling.{Grammar}
use Rattle.isl_token.specs.Spelling as s
use Rattle.std.proofs.Common.{rules}
use Rattle.std.proofs.lemmas.List.{append-nil}
use Rattle.std.proofs.lemmas.Bool.{false≢true, false_from_ne_true}
use Rattle.std.proofs.lemmas.Bool.Decides.{Decides-int_eq}
use denote.Enum.Bare.{same_true, true_same}
use Rattle.isl_token.specs.contracts.token.Kind.{the_type}

-- what p reads at ts is spelled by L
pub record TakesAt {A : Type 0} (ts : List Token) (p : Parser A) (L : Grammar A) : Type 0 where
  pub by : (a : A) (rest : List Token) → p ts ≡ Some (a, rest) → (us : List Token) × (ts ≡ us ++ rest) × L a us

abbrev pub Takes : {A : Type 0} → Parser A → Grammar A → Type 0
Takes p L = (ts : List Token) → TakesAt ts p L

pub and_then_some : {A B : Type 0} (o : Option (A × List Token)) (f : A → Parser B) (y : B × List Token) → and_then o f ≡ Some y
    → (x : A × List Token) × (o ≡ Some x) × (f x.0 x.1 ≡ Some y)
and_then_some None f y e = absurd cc
and_then_some (Some x) f y e = (x, refl, e)

abbrev pub read : {A : Type 0} → A → List Token → Option (A × List Token)
read a ts = Some (a, ts)

abbrev pair : {A B : Type 0} → A → B → A × B
pair a b = (a, b)

pub same_read : {A : Type 0} (a c : A) (ts us : List Token) → read a ts ≡ read c us → (a ≡ c) × (ts ≡ us)
same_read a c ts us e =
    let p : pair a ts ≡ pair c us = cc in
    (ap (λ q. q.0) p, ap (λ q. q.1) p)

pub takes_pure : {A : Type 0} (a : A) → Takes (r.pure a) (s.pure a)
takes_pure a ts = record { by = λ b rest e. let p = same_read a b ts rest e in ([], p.1, (sym p.0, refl)) }

pub takes_none : {A : Type 0} (ts : List Token) (L : Grammar A) → TakesAt ts r.none L
takes_none ts L = record { by = λ b rest e. absurd cc }

module _ {A B : Type 0} (p : Parser A) (f : A → Parser B) (L : Grammar A) (M : A → Grammar B) where
  pub takes_bind : (ts : List Token) → TakesAt ts p L → ((a : A) → Takes (f a) (M a)) → TakesAt ts (r.◌>>=◌ p f) (s.◌>>=◌ L M)
  takes_bind ts hp hf = record {
    by = λ b rest e.
        let x = and_then_some (p ts) f (b, rest) e in
        let c = hp.by x.0.0 x.0.1 x.1 in
        let d = (hf x.0.0 x.0.1).by b rest x.2 in
        (c.0 ++ d.0, c.1 ∙ ap (λ (l : List Token). c.0 ++ l) d.1 ∙ sym (append_assoc c.0 d.0 rest), (x.0.0, c.0, d.0, refl, c.2, d.2));
  }

pub takes_nothing_then : {A : Type 0} {ts : List Token} {p : Parser A} {L : Grammar A} → TakesAt ts p L → TakesAt ts p (s.◌>>◌ s.nothing L)
takes_nothing_then h = record { by = λ a rest e. let c = h.by a rest e in (c.0, c.1, (tt, [], c.0, refl, refl, c.2)) }

pub takes_either_then : {A B : Type 0} {ts : List Token} {p : Parser B} {L M : Grammar A} (N : A → Grammar B) → TakesAt ts p (s.◌>>=◌ L N)
    → TakesAt ts p (s.◌>>=◌ (s.◌∪◌ L M) N)
takes_either_then N h = record { by = λ a rest e. let c = h.by a rest e in (c.0, c.1, (c.2.0, c.2.1, c.2.2, c.2.3, inl c.2.4, c.2.5)) }

pub takes_later_then : {A B : Type 0} {ts : List Token} {p : Parser B} {L M : Grammar A} (N : A → Grammar B) → TakesAt ts p (s.◌>>=◌ M N)
    → TakesAt ts p (s.◌>>=◌ (s.◌∪◌ L M) N)
takes_later_then N h = record { by = λ a rest e. let c = h.by a rest e in (c.0, c.1, (c.2.0, c.2.1, c.2.2, c.2.3, inr c.2.4, c.2.5)) }

pub takes_or_left : {A : Type 0} {ts : List Token} {p : Parser A} {L : Grammar A} (M : Grammar A) → TakesAt ts p L
    → TakesAt ts p (s.◌∪◌ L M)
takes_or_left M h = record { by = λ a rest e. let c = h.by a rest e in (c.0, c.1, inl c.2) }

pub takes_or_right : {A : Type 0} {ts : List Token} {p : Parser A} {M : Grammar A} (L : Grammar A) → TakesAt ts p M
    → TakesAt ts p (s.◌∪◌ L M)
takes_or_right L h = record { by = λ a rest e. let c = h.by a rest e in (c.0, c.1, inr c.2) }

pub takes_peek : {A : Type 0} (f : Kind → Parser A) (L : Grammar A) (ts : List Token) → TakesAt ts (f (head_kind ts)) L
    → TakesAt ts (r.◌>>=◌ r.peek f) L
takes_peek f L ts h = record { by = h.by }

-- ---- tests

pub both_left : (a b : Bool) → (a && b) ≡ true → a ≡ true
both_left true b e = refl
both_left false b e = e

pub both_right : (a b : Bool) → (a && b) ≡ true → b ≡ true
both_right true b e = e
both_right false b e = absurd (false≢true e)

pub chosen : {X : Type 0} (b : Bool) (x y z : X) → cond b x y ≡ z → ((b ≡ true) × (x ≡ z)) ⊎ ((b ≡ false) × (y ≡ z))
chosen true x y z e = inl (refl, e)
chosen false x y z e = inr (refl, e)

pub chosen_reader : {A : Type 0} (b : Bool) (p q : Parser A) (ts : List Token) (z : Option (A × List Token)) → cond b p q ts ≡ z
    → ((b ≡ true) × (p ts ≡ z)) ⊎ ((b ≡ false) × (q ts ≡ z))
chosen_reader true p q ts z e = inl (refl, e)
chosen_reader false p q ts z e = inr (refl, e)

pub is_kind_true : (a b : Kind) → is_kind a b ≡ true → a ≡ b
is_kind_true a b e = same_true the_type (search rules) a b e

pub is_kind_same : (a b : Kind) → a ≡ b → is_kind a b ≡ true
is_kind_same a b e = true_same the_type a b e

pub takes_if : {A : Type 0} (b : Bool) (p q : Parser A) (L : Grammar A) (ts : List Token) → (b ≡ true → TakesAt ts p L)
    → (b ≡ false → TakesAt ts q L) → TakesAt ts (cond b p q) L
takes_if true p q L ts yes' no' = yes' refl
takes_if false p q L ts yes' no' = no' refl

-- ---- words

module _ (k : Kind) (some : k ≢ kind.End) where
  pub takes_skip : (ts : List Token) → head_kind ts ≡ k → TakesAt ts r.skip (s.word k)
  takes_skip [] e = absurd (some (sym e))
  takes_skip (t ∷ ts) e = record { by = λ a rest h. (t ∷ [], ap (λ l. t ∷ l) (same_read tt a ts rest h).1, (t, refl, e)) }

  pub takes_expect : Takes (expect k) (s.word k)
  unfolding expect
  takes_expect ts = record {
    by = λ a rest h.
        elim (chosen (is_kind (head_kind ts) k) (Some (tt, tail ts)) None (Some (a, rest)) h) [
          | inl yes' ↦ (takes_skip ts (is_kind_true (head_kind ts) k yes'.0)).by a rest yes'.1
          | inr no' ↦ absurd cc
        ];
  }

pub takes_name : Takes name s.name
unfolding name
takes_name [] = record { by = λ a rest h. absurd cc }
takes_name (token.Word w ∷ ts) = record {
  by = λ a rest h.
      elim (chosen (is_kind (kind_of (token.Word w)) kind.Name) (Some (w, ts)) None (Some (a, rest)) h) [
        | inl yes' ↦ let p = same_read w a ts rest yes'.1 in (
          token.Word w ∷ [],
          ap (λ l. token.Word w ∷ l) p.1,
          (ap (λ v. token.Word v ∷ []) p.0, rw (← p.0) (is_kind_true (kind_of (token.Word w)) kind.Name yes'.0)),
        )
        | inr no' ↦ absurd cc
      ];
}
takes_name (token.Number d ∷ ts) = record { by = λ a rest h. absurd cc }
takes_name (token.Sign g ∷ ts) = record { by = λ a rest h. absurd cc }

pub takes_number : Takes number s.number
unfolding number
takes_number [] = record { by = λ a rest h. absurd cc }
takes_number (token.Word w ∷ ts) = record { by = λ a rest h. absurd cc }
takes_number (token.Number d ∷ ts) = record {
  by = λ a rest h. let p = same_read (number_of d) a ts rest h in
      (token.Number d ∷ [], ap (λ l. token.Number d ∷ l) p.1, (d, refl, sym p.0));
}
takes_number (token.Sign g ∷ ts) = record { by = λ a rest h. absurd cc }

pub is_zero_false : (z : ℤ) → is_zero z ≡ false → z ≢ pos 0
is_zero_false z e h = false≢true (sym e ∙ (Decides-int_eq z (pos 0)).1 h)

pub is_zero_not : (z : ℤ) → z ≢ pos 0 → is_zero z ≡ false
is_zero_not z ne = false_from_ne_true (is_zero z) (λ e. ne ((Decides-int_eq z (pos 0)).0 e))

pub takes_positive : Takes positive s.positive
unfolding positive
takes_positive ts = record {
  by = λ a rest h.
      let x = and_then_some (number ts) (λ n. cond (is_zero n) r.none (r.pure n)) (a, rest) h in
      let c = (takes_number ts).by x.0.0 x.0.1 x.1 in
      elim (chosen_reader (is_zero x.0.0) r.none (r.pure x.0.0) x.0.1 (Some (a, rest)) x.2) [
        | inl yes' ↦ absurd cc
        | inr no' ↦ let p = same_read x.0.0 a x.0.1 rest no'.1 in
            (c.0, c.1 ∙ ap (λ (l : List Token). c.0 ++ l) p.1, subst (λ (v : ℤ). s.positive v c.0) p.0 (c.2, is_zero_false x.0.0 no'.0))
      ];
}

-- ---- rows

module _ {A : Type 0} (goes_on : List Token → Bool) (item : Parser A) (L : Grammar A)
    (takes : (ts : List Token) → goes_on ts ≡ true → TakesAt ts item L) where
  takes_rest : (n : ℕ) (found : List A) (ts : List Token) (xs : List A) (rest : List Token)
      → rest_of goes_on item n found ts ≡ Some (xs, rest)
      → (more : List A) × (us : List Token) × (xs ≡ found ++ more) × (ts ≡ us ++ rest) × s.many L more us
  unfolding rest_of
  takes_rest zero found ts xs rest e = let p = same_read found xs ts rest e in ([], [], sym p.0 ∙ sym (append-nil found), p.1, refl)
  takes_rest (suc n) found ts xs rest e =
      let next : A → Parser (List A) = λ x. rest_of goes_on item n (found ++ x ∷ []) in
      elim (chosen (goes_on ts) (and_then (item ts) next) (Some (found, ts)) (Some (xs, rest)) e) [
        | inl yes' ↦
            let x = and_then_some (item ts) next (xs, rest) yes'.1 in
            let c = (takes ts yes'.0).by x.0.0 x.0.1 x.1 in
            let d = takes_rest n (found ++ x.0.0 ∷ []) x.0.1 xs rest x.2 in (
              x.0.0 ∷ d.0,
              c.0 ++ d.1,
              d.2 ∙ append_assoc found (x.0.0 ∷ []) d.0,
              c.1 ∙ ap (λ (l : List Token). c.0 ++ l) d.3
                  ∙ sym (append_assoc c.0 d.1 rest),
              (c.0, d.1, refl, c.2, d.4),
            )
        | inr no' ↦ let p = same_read found xs ts rest no'.1 in ([], [], sym p.0 ∙ sym (append-nil found), p.1, refl)
      ]

  -- a row, and what goes on with it
  pub takes_row : {B : Type 0} (found : List A) (f : List A → Parser B) (M : List A → Grammar B) → ((xs : List A) → Takes (f xs) (M xs))
      → Takes (r.◌>>=◌ (row goes_on item found) f) (s.◌>>=◌ (s.many L) (λ more. M (found ++ more)))
  unfolding row
  takes_row found f M then ts = record {
    by = λ b rest e.
        let x = and_then_some (row goes_on item found ts) f (b, rest) e in
        let d = takes_rest (length ts) found ts x.0.0 x.0.1 x.1 in
        let c = (then x.0.0 x.0.1).by b rest x.2 in (
          d.1 ++ c.0,
          d.3 ∙ ap (λ (l : List Token). d.1 ++ l) c.1
              ∙ sym (append_assoc d.1 c.0 rest),
          (d.0, d.1, c.0, refl, d.4, subst (λ (xs : List A). M xs b c.0) d.2 c.2),
        );
  }

  pub takes_whole_row : (found : List A) → Takes (row goes_on item found) (s.◌>>=◌ (s.many L) (λ more. s.pure (found ++ more)))
  unfolding row
  takes_whole_row found ts = record {
    by = λ xs rest e.
        let d = takes_rest (length ts) found ts xs rest e in
        (d.1, d.3, (d.0, d.1, [], sym (append-nil d.1), d.4, (d.2, refl)));
  }

-- ---- what stands between

-- a value made of what was taken
pub takes_map : {A B : Type 0} (p : Parser A) (L : Grammar A) (f : A → B) → Takes p L
    → Takes (r.◌>>=◌ p (λ a. r.pure (f a))) (s.◌>>=◌ L (λ a. s.pure (f a)))
takes_map p L f h ts = takes_bind p _ L _ ts (h ts) (λ a. takes_pure (f a))

module _ {B : Type 0} (k : Kind) (some : k ≢ kind.End) (q : Unit {0} → Parser B) (M : Unit {0} → Grammar B)
    (then : (u : Unit {0}) → Takes (q u) (M u)) where
  -- a token that is known to be there, and what follows it
  pub takes_past : (ts : List Token) → head_kind ts ≡ k → TakesAt ts (r.◌>>=◌ r.skip q) (s.◌>>=◌ (s.word k) M)
  takes_past ts e = takes_bind r.skip q (s.word k) M ts (takes_skip k some ts e) then

  -- the same where a test says so
  pub takes_seen : (ts : List Token) → r.sees k ts ≡ true → TakesAt ts (r.◌>>=◌ r.skip q) (s.◌>>=◌ (s.word k) M)
  takes_seen ts h = takes_past ts (is_kind_true (head_kind ts) k h)

  -- a token that has to be there, and what follows it
  pub takes_after : Takes (r.◌>>=◌ (expect k) q) (s.◌>>=◌ (s.word k) M)
  takes_after ts = takes_bind (expect k) q (s.word k) M ts (takes_expect k some ts) then

-- a last token
pub takes_end : {A : Type 0} (k : Kind) → k ≢ kind.End → (a : A) → Takes (r.◌>>◌ (expect k) (r.pure a)) (s.◌>>◌ (s.word k) (s.pure a))
takes_end k some a = takes_after k some (λ _. r.pure a) (λ _. s.pure a) (λ _. takes_pure a)

-- one of two, as a test of the tokens says
pub takes_test : {A : Type 0} (b : Bool) (p q : Option (A × List Token)) (ts : List Token) (L M : Grammar A)
    → (b ≡ true → (a : A) (rest : List Token) → p ≡ Some (a, rest) → (us : List Token) × (ts ≡ us ++ rest) × L a us)
    → (b ≡ false → (a : A) (rest : List Token) → q ≡ Some (a, rest) → (us : List Token) × (ts ≡ us ++ rest) × M a us)
    → (a : A) (rest : List Token) → cond b p q ≡ Some (a, rest) → (us : List Token) × (ts ≡ us ++ rest) × (s.◌∪◌ L M) a us
takes_test true p q ts L M yes' no' a rest e = let c = yes' refl a rest e in (c.0, c.1, inl c.2)
takes_test false p q ts L M yes' no' a rest e = let c = no' refl a rest e in (c.0, c.1, inr c.2)

-- ---- items with a sign between each two

module _ {A : Type 0} (k : Kind) (some : k ≢ kind.End) (p : Parser A) (L : Grammar A) (item : Takes p L) where
  after_sign_taken : (ts : List Token) → r.sees k ts ≡ true → TakesAt ts (r.after_sign p) (s.◌>>◌ (s.word k) L)
  unfolding r.after_sign
  after_sign_taken = takes_seen k some (λ _. p) (λ _. L) (λ _. item)

  pub takes_separated : Takes (r.separated k p) (s.separated k L)
  unfolding r.separated
  takes_separated ts = takes_bind p _ L _ ts (item ts)
      (λ first. takes_whole_row (r.sees k) (r.after_sign p) (s.◌>>◌ (s.word k) L) after_sign_taken (first ∷ []))
