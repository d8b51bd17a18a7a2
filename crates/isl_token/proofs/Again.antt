-- What a grammar spells is read again, whatever stops the reader after it.
use Rattle.std.proofs.Common.{◌≡◌, ℕ, ℤ, zero, suc, ◌+◌, ◌<◌, ◌≤◌, Bool, true, false, not, List, [], ◌∷◌, ◌++◌, length, Option, Some, refl}
use Rattle.std.proofs.Common.{sym, ap, ◌∙◌, inl, inr, arith, append_assoc, length-append}
use Rattle.std.proofs.lemmas.List.{append-nil}
use Rattle.isl_token.specs.TokenView.{Token}
use Rattle.isl_token.specs.TokenView as token
use Rattle.isl_token.specs.declared.token.Kind.{Kind}
use Rattle.isl_token.specs.declared.token.Kind.TheVariants as kind
use Rattle.isl_token.specs.Token.{is_kind, kind_of}
use Rattle.isl_token.specs.Reading.{Parser, and_then, head_kind, tail, expect, name, number, positive, rest_of, row, is_zero}
use Rattle.isl_token.specs.Reading as r
use Rattle.isl_token.specs.Spelling.{Grammar}
use Rattle.isl_token.specs.Spelling as s
use Rattle.isl_token.proofs.Taking.{is_kind_same, is_kind_true, is_zero_not}

abbrev pub Stops : Type 0
Stops = List Token → Bool

-- p reads each text of L that is shorter than size, where what follows stops it
pub record Again {A : Type 0} (size : ℕ) (p : Parser A) (L : Grammar A) (stops : Stops) : Type 0 where
  pub by : (a : A) (us rest : List Token) → L a us → length us < size → stops rest ≡ true → p (us ++ rest) ≡ Some (a, rest)

-- each text of L passes the test, whatever follows it
pub record Starts {A : Type 0} (L : Grammar A) (test : Stops) : Type 0 where
  pub by : (a : A) (us rest : List Token) → L a us → test (us ++ rest) ≡ true

-- a text of M, and what stops after it, stops before it
pub record Follows {A : Type 0} (M : Grammar A) (stops2 stops : Stops) : Type 0 where
  pub by : (a : A) (us rest : List Token) → M a us → stops2 rest ≡ true → stops (us ++ rest) ≡ true

pub no_to_false : (b : Bool) → not b ≡ true → b ≡ false
no_to_false true e = sym e
no_to_false false e = refl

abbrev pub always : Stops
always ts = true

pub again_pure : {A : Type 0} (size : ℕ) (a : A) (stops : Stops) → Again size (r.pure a) (s.pure a) stops
again_pure size a stops = record { by = λ b us rest l lt stop. rw (l.0, l.1) refl }

pub again_weaker : {A : Type 0} {size : ℕ} {p : Parser A} {L : Grammar A} (stops more : Stops) → Again size p L stops
    → ((rest : List Token) → more rest ≡ true → stops rest ≡ true) → Again size p L more
again_weaker stops more h w = record { by = λ a us rest l lt stop. h.by a us rest l lt (w rest stop) }

module _ {A B : Type 0} (size : ℕ) (p : Parser A) (f : A → Parser B) (L : Grammar A) (M : A → Grammar B) (stops stops2 : Stops) where
  pub again_bind : Again size p L stops → ((a : A) → Again size (f a) (M a) stops2) → ((a : A) → Follows (M a) stops2 stops)
      → Again size (r.◌>>=◌ p f) (s.◌>>=◌ L M) stops2
  again_bind hp hf follow = record {
    by = λ b ts rest l lt stop.
        let us = l.1 in
        let vs = l.2 in
        let lens : length ts ≡ length us + length vs = ap length l.3 ∙ length-append us vs in
        let regrouped : ts ++ rest ≡ us ++ (vs ++ rest) = ap (λ (x : List Token). x ++ rest) l.3 ∙ append_assoc us vs rest in
        let first = hp.by l.0 us (vs ++ rest) l.4 (omega arith) ((follow l.0).by b vs rest l.5 stop) in
        let then = (hf l.0).by b vs rest l.5 (omega arith) stop in
        ap (r.◌>>=◌ p f) regrouped ∙ ap (λ (o : Option (A × List Token)). and_then o f) first ∙ then;
  }

-- each text of L has a token
pub record Full {A : Type 0} (L : Grammar A) : Type 0 where
  pub by : (a : A) (us : List Token) → L a us → 0 < length us

pub follows_pure : {A : Type 0} (x : A) (stops2 stops : Stops) → ((rest : List Token) → stops2 rest ≡ true → stops rest ≡ true)
    → Follows (s.pure x) stops2 stops
follows_pure x stops2 stops w = record { by = λ a us rest l stop. rw l.1 (w rest stop) }

pub follows_starts : {A : Type 0} {M : Grammar A} {stops : Stops} (stops2 : Stops) → Starts M stops → Follows M stops2 stops
follows_starts stops2 h = record { by = λ a us rest l stop. h.by a us rest l }

pub follows_either : {A : Type 0} {L M : Grammar A} {stops2 stops : Stops} → Follows L stops2 stops → Follows M stops2 stops
    → Follows (s.◌∪◌ L M) stops2 stops
follows_either h k = record { by = λ a us rest l stop. elim l [ inl x ↦ h.by a us rest x stop | inr y ↦ k.by a us rest y stop ] }

pub follows_always : {A : Type 0} (M : Grammar A) (stops2 : Stops) → Follows M stops2 always
follows_always M stops2 = record { by = λ a us rest l stop. refl }

pub follows_bind : {A B : Type 0} {L : Grammar A} {M : A → Grammar B} {stops2 stops1 stops : Stops} → Follows L stops1 stops
    → ((a : A) → Follows (M a) stops2 stops1) → Follows (s.◌>>=◌ L M) stops2 stops
follows_bind h k = record {
  by = λ b ts rest l stop. rw (l.3, append_assoc l.1 l.2 rest) (h.by l.0 l.1 (l.2 ++ rest) l.4 ((k l.0).by b l.2 rest l.5 stop));
}

pub follows_many : {A : Type 0} {L : Grammar A} {stops2 stops : Stops} → Starts L stops
    → ((rest : List Token) → stops2 rest ≡ true → stops rest ≡ true) → Follows (s.many L) stops2 stops
follows_many {L} {stops2} {stops} h w = record { by = go } where
  go : (xs : List _) (us rest : List Token) → s.many L xs us → stops2 rest ≡ true → stops (us ++ rest) ≡ true
  go [] us rest l stop = rw l (w rest stop)
  go (x ∷ xs) us rest l stop = rw (l.2, append_assoc l.0 l.1 rest) (h.by x l.0 (l.1 ++ rest) l.3)

pub starts_bind : {A B : Type 0} (L : Grammar A) (M : A → Grammar B) (test : Stops) → Starts L test → Starts (s.◌>>=◌ L M) test
starts_bind L M test h = record { by = λ b ts rest l. rw (l.3, append_assoc l.1 l.2 rest) (h.by l.0 l.1 (l.2 ++ rest) l.4) }

-- what may be missing, and what comes after it
pub starts_then : {A B : Type 0} (L : Grammar A) (M : A → Grammar B) (test : Stops) → Follows L test test → ((a : A) → Starts (M a) test)
    → Starts (s.◌>>=◌ L M) test
starts_then L M test h k = record {
  by = λ b ts rest l. rw (l.3, append_assoc l.1 l.2 rest) (h.by l.0 l.1 (l.2 ++ rest) l.4 ((k l.0).by b l.2 rest l.5));
}

pub starts_either : {A : Type 0} (L M : Grammar A) (test : Stops) → Starts L test → Starts M test → Starts (s.◌∪◌ L M) test
starts_either L M test h k = record { by = λ a ts rest l. elim l [ inl x ↦ h.by a ts rest x | inr y ↦ k.by a ts rest y ] }

pub starts_more : {A : Type 0} (L : Grammar A) (test more : Stops) → Starts L test → ((ts : List Token) → test ts ≡ true → more ts ≡ true)
    → Starts L more
starts_more L test more h w = record { by = λ a ts rest l. w (ts ++ rest) (h.by a ts rest l) }

pub starts_always : {A : Type 0} (L : Grammar A) → Starts L always
starts_always L = record { by = λ a ts rest l. refl }

pub starts_word : (k : Kind) (test : Kind → Bool) → test k ≡ true → Starts (s.word k) (λ ts. test (head_kind ts))
starts_word k test e = record { by = λ u ts rest l. rw (l.1, l.2) e }

pub starts_name : (test : Kind → Bool) → test kind.Name ≡ true → Starts s.name (λ ts. test (head_kind ts))
starts_name test e = record { by = λ n ts rest l. rw (l.0, l.1) e }

pub starts_number : (test : Kind → Bool) → test kind.Number ≡ true → Starts s.number (λ ts. test (head_kind ts))
starts_number test e = record { by = λ n ts rest l. rw l.1 e }

-- ---- lengths

pub full_word : (k : Kind) → Full (s.word k)
full_word k = record { by = λ u ts l. omega (arith, ap length l.1) }

pub full_bind : {A B : Type 0} (L : Grammar A) (M : A → Grammar B) → Full L → Full (s.◌>>=◌ L M)
full_bind L M h = record { by = λ b ts l. omega (arith, ap length l.3, length-append l.1 l.2, h.by l.0 l.1 l.4) }

pub full_either : {A : Type 0} (L M : Grammar A) → Full L → Full M → Full (s.◌∪◌ L M)
full_either L M h k = record { by = λ a ts l. elim l [ inl x ↦ h.by a ts x | inr y ↦ k.by a ts y ] }

-- ---- words

module _ {B : Type 0} (k : Kind) where
  pub head_of_word : (M : Unit {0} → Grammar B) (b : B) (ts rest : List Token) → (s.◌>>=◌ (s.word k) M) b ts → head_kind (ts ++ rest) ≡ k
  head_of_word M b ts rest l = rw (l.3, l.4.1) l.4.2

  pub again_skip : (size : ℕ) (q : Unit {0} → Parser B) (M : Unit {0} → Grammar B) (stops : Stops)
      → ((u : Unit {0}) → Again size (q u) (M u) stops) → Again (suc size) (r.◌>>=◌ r.skip q) (s.◌>>=◌ (s.word k) M) stops
  again_skip size q M stops h = record {
    by = λ b ts rest l lt stop.
        let e : ts ≡ l.4.0 ∷ l.2 = l.3 ∙ ap (λ (x : List Token). x ++ l.2) l.4.1 in
        let shorter : length l.2 < size = omega (arith, ap length e) in
        rw e ((h tt).by b l.2 rest l.5 shorter stop);
  }

pub head_of_name : {B : Type 0} (M : List ℕ → Grammar B) (b : B) (ts rest : List Token) → (s.◌>>=◌ s.name M) b ts
    → head_kind (ts ++ rest) ≡ kind.Name
head_of_name M b ts rest l = rw (l.3, l.4.0) l.4.1

pub head_of_number : {B : Type 0} (M : ℤ → Grammar B) (b : B) (ts rest : List Token) → (s.◌>>=◌ s.number M) b ts
    → head_kind (ts ++ rest) ≡ kind.Number
head_of_number M b ts rest l = rw (l.3, l.4.1) refl

-- a text that begins with a token of a kind
pub starts_kind : {A : Type 0} {L : Grammar A} (k : Kind) (test : Kind → Bool) → Starts L (λ ts. is_kind (head_kind ts) k) → test k ≡ true
    → Starts L (λ ts. test (head_kind ts))
starts_kind k test h e = record { by = λ a us rest l. rw (is_kind_true (head_kind (us ++ rest)) k (h.by a us rest l)) e }

pub head_is : {A : Type 0} {L : Grammar A} (k : Kind) → Starts L (λ ts. is_kind (head_kind ts) k) → (a : A) (us rest : List Token) → L a us
    → head_kind (us ++ rest) ≡ k
head_is k h a us rest l = is_kind_true (head_kind (us ++ rest)) k (h.by a us rest l)

pub again_expect : (size : ℕ) (k : Kind) → Again size (expect k) (s.word k) always
unfolding expect
again_expect size k = record { by = λ b ts rest l lt stop. rw (l.1, is_kind_same (kind_of l.0) k l.2) refl }

pub again_name : (size : ℕ) → Again size name s.name always
unfolding name
again_name size = record { by = λ n ts rest l lt stop. rw (l.0, is_kind_same (kind_of (token.Word n)) kind.Name l.1) refl }

pub again_number : (size : ℕ) → Again size number s.number always
unfolding number
again_number size = record { by = λ n ts rest l lt stop. rw (l.1, l.2) refl }

pub again_positive : (size : ℕ) → Again size positive s.positive always
unfolding positive
again_positive size = record { by = λ n ts rest l lt stop. rw ((again_number size).by n ts rest l.0 lt stop, is_zero_not n l.1) refl }

-- ---- rows

-- an item begins as the row goes on, and stops the item before it
pub record Items {A : Type 0} (goes_on : Stops) (L : Grammar A) (stops : Stops) : Type 0 where
  pub starts : Starts L goes_on
  pub follows : Starts L stops
  pub some : Full L

module _ {A : Type 0} (size : ℕ) (goes_on : Stops) (item : Parser A) (L : Grammar A) (stops : Stops) (is : Items goes_on L stops)
    (again : Again size item L stops) where
  many_length : (xs : List A) (us : List Token) → s.many L xs us → length xs ≤ length us
  many_length [] us l = omega arith
  many_length (x ∷ xs) us l = omega (arith, ap length l.2, length-append l.0 l.1, is.some.by x l.0 l.3, many_length xs l.1 l.4)

  many_stops : (xs : List A) (us rest : List Token) → s.many L xs us → stops rest ≡ true → stops (us ++ rest) ≡ true
  many_stops [] us rest l stop = rw l stop
  many_stops (x ∷ xs) us rest l stop = rw (l.2, append_assoc l.0 l.1 rest) (is.follows.by x l.0 (l.1 ++ rest) l.3)

  rest_again : (fuel : ℕ) (found xs : List A) (us rest : List Token) → s.many L xs us → length xs ≤ fuel → length us < size
      → goes_on rest ≡ false → stops rest ≡ true
      → rest_of goes_on item fuel found (us ++ rest) ≡ Some (found ++ xs, rest)
  unfolding rest_of
  rest_again zero found [] us rest l le lt over stop = rw (l, append-nil found) refl
  rest_again (suc fuel) found [] us rest l le lt over stop = rw (l, over, append-nil found) refl
  rest_again zero found (x ∷ xs) us rest l le lt over stop = absurd (omega arith)
  rest_again (suc fuel) found (x ∷ xs) us rest l le lt over stop =
      let lens : length us ≡ length l.0 + length l.1 = ap length l.2 ∙ length-append l.0 l.1 in
      let regrouped : us ++ rest ≡ l.0 ++ (l.1 ++ rest) = ap (λ (y : List Token). y ++ rest) l.2 ∙ append_assoc l.0 l.1 rest in
      let goes = is.starts.by x l.0 (l.1 ++ rest) l.3 in
      let first = again.by x l.0 (l.1 ++ rest) l.3 (omega arith) (many_stops xs l.1 rest l.4 stop) in
      let then = rest_again fuel (found ++ x ∷ []) xs l.1 rest l.4 (omega arith) (omega arith) over stop in
      ap (rest_of goes_on item (suc fuel) found) regrouped
      ∙ rw (goes, first) (then ∙ ap (λ (ys : List A). Some (ys, rest)) (append_assoc found (x ∷ []) xs))

  -- a row, and what goes on with it
  pub again_row : {B : Type 0} (found : List A) (f : List A → Parser B) (M : List A → Grammar B) (stops2 : Stops)
      → ((xs : List A) → Again size (f xs) (M xs) stops2)
      → ((xs : List A) → Follows (M xs) stops2 (λ ts. not (goes_on ts))) → ((xs : List A) → Follows (M xs) stops2 stops)
      → Again size (r.◌>>=◌ (row goes_on item found) f) (s.◌>>=◌ (s.many L) (λ more. M (found ++ more))) stops2
  unfolding row
  again_row found f M stops2 hf over follow = record {
    by = λ b ts rest l lt stop.
        let us = l.1 in
        let vs = l.2 in
        let lens : length ts ≡ length us + length vs = ap length l.3 ∙ length-append us vs in
        let regrouped : ts ++ rest ≡ us ++ (vs ++ rest) = ap (λ (x : List Token). x ++ rest) l.3 ∙ append_assoc us vs rest in
        let all : length (us ++ (vs ++ rest)) ≡ length us + length (vs ++ rest) = length-append us (vs ++ rest) in
        let ended = no_to_false (goes_on (vs ++ rest)) ((over (found ++ l.0)).by b vs rest l.5 stop) in
        let after = (follow (found ++ l.0)).by b vs rest l.5 stop in
        let few = many_length l.0 us l.4 in
        let first = rest_again (length (us ++ (vs ++ rest))) found l.0 us (vs ++ rest) l.4 (omega arith) (omega arith) ended after in
        let then = (hf (found ++ l.0)).by b vs rest l.5 (omega arith) stop in
        ap (r.◌>>=◌ (row goes_on item found) f) regrouped ∙ ap (λ (o : Option (List A × List Token)). and_then o f) first ∙ then;
  }

  pub again_whole_row : (found : List A) (stops2 : Stops)
      → ((rest : List Token) → stops2 rest ≡ true → (goes_on rest ≡ false) × (stops rest ≡ true))
      → Again size (row goes_on item found) (s.◌>>=◌ (s.many L) (λ more. s.pure (found ++ more))) stops2
  unfolding row
  again_whole_row found stops2 follow = record {
    by = λ xs ts rest l lt stop.
        let us : ts ≡ l.1 = l.3 ∙ ap (λ (x : List Token). l.1 ++ x) l.5.1 ∙ append-nil l.1 in
        let all : length (ts ++ rest) ≡ length ts + length rest = length-append ts rest in
        let few = many_length l.0 l.1 l.4 in
        let same : length ts ≡ length l.1 = ap length us in
        let after = follow rest stop in
        let first = rest_again (length (ts ++ rest)) found l.0 l.1 rest l.4 (omega arith) (omega arith) after.0 after.1 in
        ap (λ (x : List Token). rest_of goes_on item (length (ts ++ rest)) found (x ++ rest)) us ∙ first
        ∙ ap (λ (ys : List A). Some (ys, rest)) (sym l.5.0);
  }

-- ---- what stands between

pub again_map : {A B : Type 0} (size : ℕ) (p : Parser A) (L : Grammar A) (f : A → B) (stops : Stops) → Again size p L stops
    → Again size (r.◌>>=◌ p (λ a. r.pure (f a))) (s.◌>>=◌ L (λ a. s.pure (f a))) stops
again_map size p L f stops h = again_bind size p _ L _ stops stops h (λ a. again_pure size (f a) stops)
    (λ a. follows_pure _ stops stops (λ rest e. e))

pub follows_map : {A B : Type 0} (L : Grammar A) (f : A → B) (stops2 stops : Stops) → Follows L stops2 stops
    → Follows (s.◌>>=◌ L (λ a. s.pure (f a))) stops2 stops
follows_map L f stops2 stops h = follows_bind h (λ a. follows_pure _ stops2 stops2 (λ rest e. e))

-- a token that has to be there, and what follows it
pub again_after : {B : Type 0} (size : ℕ) (k : Kind) (q : Unit {0} → Parser B) (M : Unit {0} → Grammar B) (stops : Stops)
    → ((u : Unit {0}) → Again size (q u) (M u) stops) → Again size (r.◌>>=◌ (expect k) q) (s.◌>>=◌ (s.word k) M) stops
again_after size k q M stops h = again_bind size (expect k) q (s.word k) M always stops (again_expect size k) h
    (λ u. follows_always (M u) stops)

-- a last token
pub again_end : {A : Type 0} (size : ℕ) (k : Kind) (a : A) → Again size (r.◌>>◌ (expect k) (r.pure a)) (s.◌>>◌ (s.word k) (s.pure a)) always
again_end size k a = again_after size k (λ _. r.pure a) (λ _. s.pure a) always (λ _. again_pure size a always)

-- a text that begins with a word
pub starts_with : {B : Type 0} (k : Kind) (M : Unit {0} → Grammar B) → Starts (s.◌>>=◌ (s.word k) M) (r.sees k)
starts_with k M = starts_bind (s.word k) M (r.sees k) (starts_word k (λ kind. is_kind kind k) (is_kind_same k k refl))

-- the text before a token that stops it
pub follows_word : {B : Type 0} (k : Kind) (M : Unit {0} → Grammar B) (test : Kind → Bool) (stops2 : Stops) → test k ≡ true
    → Follows (s.◌>>=◌ (s.word k) M) stops2 (λ ts. test (head_kind ts))
follows_word k M test stops2 e = follows_starts stops2 (starts_bind (s.word k) M (λ ts. test (head_kind ts)) (starts_word k test e))

-- ---- items with a sign between each two: the sign stops the item before it

module _ {A : Type 0} (size : ℕ) (k : Kind) (p : Parser A) (L : Grammar A) (stops : Stops) (item : Again size p L stops)
    (between : Starts (s.◌>>◌ (s.word k) L) stops) where
  after_sign_again : Again size (r.after_sign p) (s.◌>>◌ (s.word k) L) stops
  unfolding r.after_sign
  after_sign_again = record {
    by = λ a us rest l lt stop. (again_skip k size (λ _. p) (λ _. L) stops (λ _. item)).by a us rest l (omega arith) stop;
  }

  items : Items (r.sees k) (s.◌>>◌ (s.word k) L) stops
  items = record { starts = starts_with k (λ _. L); follows = between; some = full_bind (s.word k) (λ _. L) (full_word k) }

  pub again_separated : (last : Stops) → ((rest : List Token) → last rest ≡ true → (r.sees k rest ≡ false) × (stops rest ≡ true))
      → Again size (r.separated k p) (s.separated k L) last
  unfolding r.separated
  again_separated last ends = again_bind size p _ L _ stops last item
      (λ first. again_whole_row size (r.sees k) (r.after_sign p) (s.◌>>◌ (s.word k) L) stops items after_sign_again (first ∷ []) last ends)
      (λ first. follows_bind (follows_many between (λ rest e. (ends rest e).1)) (λ others. follows_pure _ last last (λ rest e. e)))
