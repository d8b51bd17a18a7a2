-- The tokens of a text that is put together, as a printer does.
use Rattle.std.proofs.Common.{◌≡◌, ℕ, suc, ◌+◌, ◌-◌, ◌*◌, ◌^◌, ◌<◌, ◌≤◌, Bool, true, false, cond, List, [], ◌∷◌, ◌++◌, length, take, drop}
use Rattle.std.proofs.Common.{slice_index, Option, Some, None, refl, sym, ap, subst, ◌∙◌, arith, lit<}
use Rattle.std.specs.Prelude.{not, min, pos, ◌&&◌, ◌==◌, eqb, decimal, fold, nat_lt}
use Rattle.std.specs.List.{prefix_len, list_all}
use Rattle.std.specs.Char.{is_ascii_digit, digit_value}
use Rattle.std.specs.Str.Parse.{AllDigits, IsNumeral, digits_value_after}
use Rattle.std.proofs.Math.Seq.{take-append_seam, drop-append_seam}
use Rattle.std.proofs.lemmas.Fmt.{decimal_is_IsNumeral_wide}
use Rattle.std.proofs.lemmas.List.{append-nil, append_assoc, drop-append-le, length-append, length-drop}
use Rattle.std.proofs.lemmas.List.Folds.{prefix_len-append}
use Rattle.std.proofs.lemmas.List.Sums.{prefix_len-le-length}
use Rattle.std.proofs.lemmas.Bool.{eqb-true, and_parts, and_from, not-true, lt-ltb}
use Rattle.isl_space.specs.Name.{begins_name, goes_on_name, is_prime, is_identifier}
use Rattle.isl_token.specs.TokenView.{Token}
use Rattle.isl_token.specs.TokenView as token
use Rattle.isl_token.specs.declared.lex.Class.{Class}
use Rattle.isl_token.specs.declared.lex.Class.TheVariants as class
use Rattle.isl_token.specs.declared.lex.Piece.{Piece}
use Rattle.isl_token.specs.declared.lex.Piece.TheVariants as piece
use Rattle.isl_token.specs.Token.{Text, is_number}
use Rattle.isl_token.specs.Number.{value_of, number_of, too_great}
use Rattle.isl_token.specs.Lex.{is_in, past, cut, tokens_of, join, tokens}
use Rattle.isl_token.proofs.Fronts.{whole_prefix, letter_goes_on}
use Rattle.isl_token.proofs.Pieces.{tokens_step, join_join}

-- before z, whose first byte passes the test, the text is these tokens
pub record Prints (text : Text) (ts : List Token) (test : ℕ → Bool) : Type 0 where
  pub by : (z : Text) → test (slice_index z 0) ≡ true → tokens (text ++ z) ≡ join (Some ts) (tokens z)

abbrev pub any : ℕ → Bool
any b = true

abbrev pub after_word : ℕ → Bool
after_word b = not (goes_on_name b) && not (is_prime b)

abbrev pub after_number : ℕ → Bool
after_number b = not (is_ascii_digit b)

abbrev pub blank : ℕ → Bool
blank b = b == 32

-- one piece
pub one_piece : (z text rest : Text) (p : Piece) (n : ℕ) (ts : List Token) → z ≡ text ++ rest → cut z ≡ (p, n) → 0 < length z
    → n ≡ length text → 1 ≤ n → tokens_of p text ≡ Some ts → tokens z ≡ join (Some ts) (tokens rest)
one_piece z text rest p n ts whole is some len moves token =
    let front : take n z ≡ text = rw (whole, len) (take-append_seam text rest) in
    let back : drop n z ≡ rest = rw (whole, len) (drop-append_seam text rest) in
    let m : 1 ≤ (cut z).1 = rw is moves in
    tokens_step z some m ∙ rw (is, front, back, token) refl

no_more : (c : Class) (z : Text) → is_in c (slice_index z 0) ≡ false → prefix_len (is_in c) z ≡ 0
no_more c [] over = refl
no_more c (b ∷ z) over = rw over refl

-- a class ends where the next byte is not of it
past_append : (c : Class) (w z : Text) (at : ℕ) → at ≤ length w → is_in c (slice_index z 0) ≡ false → past c (w ++ z) at ≡ past c w at
past_append c w z at within over =
    ap (λ k. at + k) (ap (prefix_len (is_in c)) (drop-append-le at w z within) ∙ prefix_len-append (is_in c) (drop at w) z
    ∙ rw (no_more c z over) (either (prefix_len (is_in c) (drop at w)) (length (drop at w))
    (eqb (prefix_len (is_in c) (drop at w)) (length (drop at w))) (eqb-true (prefix_len (is_in c) (drop at w)) (length (drop at w)))))
  where
    either : (m n : ℕ) (q : Bool) → (q ≡ true → m ≡ n) → cond q (n + 0) m ≡ m
    either m n true same = omega (arith, same refl)
    either m n false same = refl

past_within : (c : Class) (w : Text) (at : ℕ) → at ≤ length w → past c w at ≤ length w
past_within c w at within = let h = prefix_len-le-length (is_in c) (drop at w) in omega (arith, h, within, length-drop at w)

-- what passes to the end
past_whole : (c : Class) (w : Text) (at : ℕ) → at ≤ length w → list_all (is_in c) (drop at w) ≡ true → past c w at ≡ length w
past_whole c w at within all = omega (arith, whole_prefix (is_in c) (drop at w) all, length-drop at w)

-- ---- words

letter_cut : (z : Text) → begins_name (slice_index z 0) ≡ true → cut z ≡ (piece.Word, past class.Prime z (past class.Word z 1))
unfolding cut
letter_cut z letter = grind arith

identifier_past : (b : ℕ) (w : Text) → begins_name b ≡ true → list_all is_prime (drop (prefix_len goes_on_name (b ∷ w)) (b ∷ w)) ≡ true
    → past class.Prime (b ∷ w) (past class.Word (b ∷ w) 1) ≡ length (b ∷ w)
identifier_past b w letter primes =
    let len : prefix_len goes_on_name (b ∷ w) ≡ past class.Word (b ∷ w) 1 = rw (letter_goes_on b letter) refl in
    past_whole class.Prime (b ∷ w) (past class.Word (b ∷ w) 1) (past_within class.Word (b ∷ w) 1 (omega arith))
    (subst (λ (n : ℕ). list_all is_prime (drop n (b ∷ w)) ≡ true) len primes)

pub word_prints : (w : Text) → is_identifier w ≡ true → Prints w (token.Word w ∷ []) after_word
word_prints [] is = absurd cc
word_prints (b ∷ w) is = record {
  by = λ z after.
      let i = and_parts (begins_name b) (list_all is_prime (drop (prefix_len goes_on_name (b ∷ w)) (b ∷ w))) is in
      let a = and_parts (not (goes_on_name (slice_index z 0))) (not (is_prime (slice_index z 0))) after in
      let words : past class.Word (b ∷ w ++ z) 1 ≡ past class.Word (b ∷ w) 1 =
      past_append class.Word (b ∷ w) z 1 (omega arith) (not-true _ a.0) in
      let primes : past class.Prime (b ∷ w ++ z) (past class.Word (b ∷ w) 1) ≡ past class.Prime (b ∷ w) (past class.Word (b ∷ w) 1) =
      past_append class.Prime (b ∷ w) z (past class.Word (b ∷ w) 1) (past_within class.Word (b ∷ w) 1 (omega arith)) (not-true _ a.1) in
      let len = primes ∙ identifier_past b w i.0 i.1 in
      let cut_is = letter_cut (b ∷ w ++ z) i.0 ∙ ap (λ n. (piece.Word, past class.Prime (b ∷ w ++ z) n)) words
      ∙ ap (λ n. (piece.Word, n)) len in
      one_piece (b ∷ w ++ z) (b ∷ w) z piece.Word (length (b ∷ w)) _ refl cut_is (omega arith) refl (omega arith) refl;
}

-- ---- numbers

digit_cut : (z : Text) → is_ascii_digit (slice_index z 0) ≡ true → cut z ≡ (piece.Number, past class.Digit z 1)
unfolding cut
digit_cut z digit = grind arith

pub number_prints : (w : Text) → is_number w ≡ true → Prints w (token.Number w ∷ []) after_number
number_prints [] is = absurd cc
number_prints (b ∷ w) is = record {
  by = λ z after.
      let i = and_parts (is_ascii_digit b) (list_all is_ascii_digit w) (and_parts (nat_lt 0 (suc (length w))) _ is).1 in
      let digits : past class.Digit (b ∷ w ++ z) 1 ≡ past class.Digit (b ∷ w) 1 =
      past_append class.Digit (b ∷ w) z 1 (omega arith) (not-true _ after) in
      let len = digits ∙ past_whole class.Digit (b ∷ w) 1 (omega arith) i.1 in
      one_piece (b ∷ w ++ z) (b ∷ w) z piece.Number (length (b ∷ w)) _ refl (digit_cut (b ∷ w ++ z) i.0 ∙ ap (λ n. (piece.Number, n)) len)
      (omega arith) refl (omega arith) refl;
}

digit_byte : (d : ℕ) → digit_value d < 10 → is_ascii_digit d ≡ true
digit_byte d h = grind arith

all_digits : (w : Text) → AllDigits 10 w → list_all is_ascii_digit w ≡ true
all_digits [] all = refl
all_digits (b ∷ w) all = and_from _ _ (digit_byte b all.0) (all_digits w all.1)

numeral : (w : Text) → IsNumeral 10 w → is_number w ≡ true
numeral w h = and_from _ _ (lt-ltb 0 (length w) h.0) (all_digits w h.1)

-- what a printer writes for a number is one token
pub decimal_prints : (n : ℕ) → n < 10 ^ 64 → Prints (decimal n) (token.Number (decimal n) ∷ []) after_number
decimal_prints n small = number_prints (decimal n) (numeral (decimal n) (decimal_is_IsNumeral_wide n small).0)

digit_is : (d : ℕ) → digit_value d < 10 → digit_value d ≡ d - 48
digit_is d h = grind arith

value_after : (n : ℕ) (ds : List ℕ) → AllDigits 10 ds → fold (λ n d. 10 * n + (d - 48)) n ds ≡ digits_value_after 10 n ds
value_after n [] all = refl
value_after n (d ∷ ds) all =
    let one : 10 * n + (d - 48) ≡ n * 10 + digit_value d = rw (digit_is d all.0) (omega arith) in
    rw one (value_after (n * 10 + digit_value d) ds all.1)

-- and the number that it writes is that number
pub value_of-decimal : (n : ℕ) → n < 10 ^ 64 → value_of (decimal n) ≡ n
unfolding value_of
value_of-decimal n small = let d = decimal_is_IsNumeral_wide n small in value_after 0 (decimal n) d.0.1 ∙ d.1

pub number_of-decimal : (n : ℕ) → n < too_great → number_of (decimal n) ≡ pos n
unfolding number_of
number_of-decimal n small =
    ap (λ k. pos (min k (too_great - 1))) (value_of-decimal n (wide n small)) ∙ ap (λ k. pos k) (least too_great n small)
  where
    wide : (n : ℕ) → n < too_great → n < 10 ^ 64
    wide n small = let more : too_great < 10 ^ 64 = lit< tt in omega (arith, small, more)

    least : (top n : ℕ) → n < top → min n (top - 1) ≡ n
    least top n small = omega arith

-- ---- signs and blanks, where the bytes up to the one that ends them are known

pub blank_prints : Prints (32 ∷ []) [] any
unfolding cut
blank_prints = record {
  by = λ z after. one_piece (32 ∷ z) (32 ∷ []) z piece.Nothing 1 [] refl (space_cut z) (omega arith) refl
      (omega arith) refl;
}
  where
    space_cut : (z : Text) → cut (32 ∷ z) ≡ (piece.Nothing, 1)
    space_cut z = refl

pub sign_prints : (text : Text) (test : ℕ → Bool) → 0 < length text
    → ((z : Text) → test (slice_index z 0) ≡ true → cut (text ++ z) ≡ (piece.Sign, length text)) → Prints text (token.Sign text ∷ []) test
sign_prints text test some is = record {
  by = λ z after.
      one_piece (text ++ z) text z piece.Sign (length text) _ refl (is z after) (omega (arith, some, length-append text z)) refl
      (omega (arith, some)) refl;
}

-- one after the other
pub prints_both : (t u : Text) (ts us : List Token) (test next : ℕ → Bool) → Prints t ts test → Prints u us next
    → ((z : Text) → next (slice_index z 0) ≡ true → test (slice_index (u ++ z) 0) ≡ true) → Prints (t ++ u) (ts ++ us) next
prints_both t u ts us test next p q meets = record {
  by = λ z after.
      ap tokens (append_assoc t u z) ∙ p.by (u ++ z) (meets z after) ∙ ap (join (Some ts)) (q.by z after) ∙ join_join ts us (tokens z);
}

pub prints_nil : (test : ℕ → Bool) → Prints [] [] test
prints_nil test = record { by = λ z after. sym (join_nil (tokens z)) }
  where
    join_nil : (r : Option (List Token)) → join (Some []) r ≡ r
    join_nil None = refl
    join_nil (Some ts) = refl

-- a test that fewer bytes pass
pub prints_less : (text : Text) (ts : List Token) (test less : ℕ → Bool) → Prints text ts test → ((b : ℕ) → less b ≡ true → test b ≡ true)
    → Prints text ts less
prints_less text ts test less p in_test = record { by = λ z after. p.by z (in_test (slice_index z 0) after) }

-- a text as a whole
pub prints_whole : (text : Text) (ts : List Token) (test : ℕ → Bool) → Prints text ts test → test 0 ≡ true → tokens text ≡ Some ts
unfolding tokens
prints_whole text ts test p end = ap tokens (sym (append-nil text)) ∙ p.by [] end ∙ ap (λ l. Some l) (append-nil ts)
