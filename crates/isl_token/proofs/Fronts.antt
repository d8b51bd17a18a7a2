-- What stands at the front of a text: an identifier, a number or a sign.
use Rattle.std.proofs.Common.{◌≡◌, ℕ, zero, suc, ◌+◌, ◌<◌, Bool, true, false, cond, List, [], ◌∷◌, ◌++◌, length, take, drop, slice_index}
use Rattle.std.proofs.Common.{None, refl, ap, subst, ◌∙◌, inl, inr, arith}
use Rattle.std.specs.Char.{is_ascii_digit}
use Rattle.std.specs.List.{prefix_len, starts_with, list_all, list_any}
use Rattle.std.specs.Prelude.{if◌then◌else◌, ◌==◌, ◌&&◌, ◌||◌, eqb, max, nat_eq, nat_lt}
use Rattle.std.specs.Str.{bytes_eq, IsAscii, IsUtf8}
use Rattle.std.proofs.lemmas.Bool.{false≢true, and_parts, or_left, or_right, and_from, eq-eqb, lt-ltb, cases_lt}
use Rattle.std.proofs.lemmas.Str.{IsUtf8-from_ascii, IsAscii-append}
use Rattle.std.proofs.lemmas.Str.Ascii.{IsAscii-nil}
use Rattle.std.proofs.lemmas.Slice.Eq.{bytes_eq-Decides, starts_is}
use Rattle.std.proofs.lemmas.Bool.Decides.{Decides-eqb}
use Rattle.std.proofs.lemmas.List.{take-append-drop}
use Rattle.std.proofs.lemmas.List.Folds.{prefix_len-append}
use Rattle.std.proofs.Math.Seq.{take-add, take-append_seam, drop-append_seam}
use Rattle.isl_space.specs.Name.{begins_name, goes_on_name, is_prime, is_identifier}
use Rattle.isl_token.specs.declared.lex.Class.TheVariants as class
use Rattle.isl_token.specs.declared.lex.Piece.{Piece}
use Rattle.isl_token.specs.declared.lex.Piece.TheVariants as piece
use Rattle.isl_token.specs.Token.{Text, signs, is_number}
use Rattle.isl_token.specs.Lex.{is_in, past, longest, sign_len, sign_piece, cut, tokens_of, IsPiece}

-- ---- tests along a list

pub all_prefix : (f : ℕ → Bool) (z : Text) → list_all f (take (prefix_len f z) z) ≡ true
all_prefix f [] = refl
all_prefix f (b ∷ z) = front (f b) refl (all_prefix f z)
  where
    front : (q : Bool) → f b ≡ q → list_all f (take (prefix_len f z) z) ≡ true
        → list_all f (take (cond q (1 + prefix_len f z) 0) (b ∷ z)) ≡ true
    front true is rest = let one : 1 + prefix_len f z ≡ suc (prefix_len f z) = omega arith in rw (one, is) rest
    front false is rest = refl

pub whole_prefix : (f : ℕ → Bool) (z : Text) → list_all f z ≡ true → prefix_len f z ≡ length z
whole_prefix f [] all = refl
whole_prefix f (b ∷ z) all = front (f b) refl all (whole_prefix f z)
  where
    front : (q : Bool) → f b ≡ q → (q && list_all f z) ≡ true → (list_all f z ≡ true → prefix_len f z ≡ length z)
        → cond q (1 + prefix_len f z) 0 ≡ suc (length z)
    front true is all rest = omega (arith, rest all)
    front false is all rest = absurd (false≢true all)

-- no byte passes where each passes a test that keeps it out
pub no_prefix : (f g : ℕ → Bool) → ((b : ℕ) → g b ≡ true → f b ≡ false) → (z : Text) → list_all g z ≡ true → prefix_len f z ≡ 0
no_prefix f g apart [] all = refl
no_prefix f g apart (b ∷ z) all = rw (apart b ((and_parts (g b) (list_all g z) all).0)) refl

-- ---- identifiers

pub prime_ends_name : (b : ℕ) → is_prime b ≡ true → goes_on_name b ≡ false
prime_ends_name b is = grind arith

pub letter_goes_on : (b : ℕ) → begins_name b ≡ true → goes_on_name b ≡ true
letter_goes_on b is = grind arith

-- letters, digits and `_` after a letter, and then primes
identifier_of : (p q : Text) → begins_name (slice_index (p ++ q) 0) ≡ true → list_all goes_on_name p ≡ true → list_all is_prime q ≡ true
    → is_identifier (p ++ q) ≡ true
identifier_of p q letter goes primes =
    let eqb_same : eqb (prefix_len goes_on_name p) (length p) ≡ true =
    eq-eqb (prefix_len goes_on_name p) (length p) (whole_prefix goes_on_name p goes) in
    let len : prefix_len goes_on_name (p ++ q) ≡ length p =
    prefix_len-append goes_on_name p q ∙ rw (eqb_same, no_prefix goes_on_name is_prime prime_ends_name q primes) (omega arith) in
    rw (letter, len, drop-append_seam p q) primes

-- the first bytes of a text whose first byte is a letter are an identifier
word_front : (z : Text) → begins_name (slice_index z 0) ≡ true → is_identifier (take (past class.Prime z (past class.Word z 1)) z) ≡ true
word_front [] letter = absurd cc
word_front (b ∷ z) letter =
    let n = prefix_len goes_on_name z in
    let m = prefix_len is_prime (drop (1 + n) (b ∷ z)) in
    let one : 1 + n ≡ suc n = omega arith in
    let goes : list_all goes_on_name (take (1 + n) (b ∷ z)) ≡ true = rw (one, letter_goes_on b letter) (all_prefix goes_on_name z) in
    let primes : list_all is_prime (take m (drop (1 + n) (b ∷ z))) ≡ true = all_prefix is_prime (drop (1 + n) (b ∷ z)) in
    let first : begins_name (slice_index (take (1 + n) (b ∷ z) ++ take m (drop (1 + n) (b ∷ z))) 0) ≡ true = rw one letter in
    rw (take-add (1 + n) m (b ∷ z)) (identifier_of (take (1 + n) (b ∷ z)) (take m (drop (1 + n) (b ∷ z))) first goes primes)

-- ---- numbers

number_front : (z : Text) → is_ascii_digit (slice_index z 0) ≡ true → is_number (take (past class.Digit z 1) z) ≡ true
number_front [] digit = absurd cc
number_front (b ∷ z) digit =
    let n = prefix_len is_ascii_digit z in
    let one : 1 + n ≡ suc n = omega arith in
    let some : nat_lt 0 (length (take (1 + n) (b ∷ z))) ≡ true = rw one (lt-ltb 0 (suc (length (take n z))) (omega arith)) in
    let all : list_all is_ascii_digit (take (1 + n) (b ∷ z)) ≡ true = rw (one, digit) (all_prefix is_ascii_digit z) in
    and_from _ _ some all

-- ---- signs

-- the longest text at the front is one of the table
longest_among : (ss : List Text) (z : Text) (n : ℕ) → longest ss z ≡ n → 0 < n → list_any (bytes_eq (take n z)) ss ≡ true
longest_among [] z n is some = absurd (omega arith)
longest_among (s ∷ ss) z n is some = first (starts_with nat_eq z s) refl (λ same. longest_among ss z n same some) is
  where
    here : starts_with nat_eq z s ≡ true → n ≡ length s → bytes_eq (take n z) s ≡ true
    here starts len =
        let whole : z ≡ s ++ drop (length s) z = (starts_is Decides-eqb z s _ refl).0 starts in
        let front : take n z ≡ s = rw len (ap (take (length s)) whole ∙ take-append_seam s (drop (length s) z)) in
        (bytes_eq-Decides (take n z) s).1 front

    first : (q : Bool) → starts_with nat_eq z s ≡ q → (longest ss z ≡ n → list_any (bytes_eq (take n z)) ss ≡ true)
        → max (cond q (length s) 0) (longest ss z) ≡ n
        → (bytes_eq (take n z) s || list_any (bytes_eq (take n z)) ss) ≡ true
    first false starts rest is = or_right (bytes_eq (take n z) s) (list_any (bytes_eq (take n z)) ss) (rest (omega arith))
    first true starts rest is = elim (cases_lt (longest ss z) (length s)) [
      | inl less ↦ or_left (bytes_eq (take n z) s) (list_any (bytes_eq (take n z)) ss) (here starts (omega arith))
      | inr more ↦ or_right (bytes_eq (take n z) s) (list_any (bytes_eq (take n z)) ss) (rest (omega arith))
    ]

-- ---- pieces

pub front_piece : (z : Text) → IsPiece (cut z).0 (take (cut z).1 z)
unfolding cut
front_piece z = by_class (is_in class.Blank (slice_index z 0)) (slice_index z 0 == 35) (is_in class.Letter (slice_index z 0))
    (is_in class.Digit (slice_index z 0)) (λ h. word_front z h) (λ h. number_front z h)
  where
    by_sign : (n : ℕ) → longest signs z ≡ n → (λ (c : Piece × ℕ). IsPiece c.0 (take c.1 z)) (sign_piece n)
    by_sign zero is = tt
    by_sign (suc n) is = longest_among signs z (suc n) is (omega arith)

    by_class : (blank comment letter digit : Bool)
        → (letter ≡ true → is_identifier (take (past class.Prime z (past class.Word z 1)) z) ≡ true)
        → (digit ≡ true → is_number (take (past class.Digit z 1) z) ≡ true)
        → (λ (c : Piece × ℕ). IsPiece c.0 (take c.1 z))
        (if blank then (piece.Nothing, 1) else
        (if comment then (piece.Nothing, past class.Comment z 1) else
        (if letter then (piece.Word, past class.Prime z (past class.Word z 1)) else
        (if digit then (piece.Number, past class.Digit z 1) else sign_piece (sign_len z)))))
    by_class true comment letter digit w n = tt
    by_class false true letter digit w n = tt
    by_class false false true digit w n = w refl
    by_class false false false true w n = n refl
    by_class false false false false w n = by_sign (sign_len z) refl

-- ---- a word is ASCII

ascii_all : (f : ℕ → Bool) → ((b : ℕ) → f b ≡ true → b < 128) → (z : Text) → list_all f z ≡ true → IsAscii z
ascii_all f ascii [] all i = IsAscii-nil i
ascii_all f ascii (b ∷ z) all zero = ascii b (and_parts (f b) (list_all f z) all).0
ascii_all f ascii (b ∷ z) all (suc i) = ascii_all f ascii z (and_parts (f b) (list_all f z) all).1 i

name_byte_ascii : (b : ℕ) → goes_on_name b ≡ true → b < 128
name_byte_ascii b is = grind arith

prime_ascii : (b : ℕ) → is_prime b ≡ true → b < 128
prime_ascii b is = grind arith

pub identifier_ascii : (z : Text) → is_identifier z ≡ true → IsAscii z
identifier_ascii z is =
    let n = prefix_len goes_on_name z in
    let parts = and_parts (begins_name (slice_index z 0)) (list_all is_prime (drop n z)) is in
    subst IsAscii (take-append-drop n z) (IsAscii-append (take n z) (drop n z)
    (ascii_all goes_on_name name_byte_ascii (take n z) (all_prefix goes_on_name z)) (ascii_all is_prime prime_ascii (drop n z) parts.1))

pub piece_not_text : (p : Piece) (text : Text) → IsPiece p text → p ≡ piece.Word → ¬ (IsUtf8 text) → tokens_of p text ≡ None
piece_not_text p text is word not_utf8 = absurd
    (not_utf8 (IsUtf8-from_ascii text (identifier_ascii text (subst (λ (q : Piece). IsPiece q text) word is))))
