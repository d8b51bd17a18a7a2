-- The tokens of printed values.
use Rattle.std.proofs.Common.{◌≡◌, ◌<◌, ◌∙◌, ◌^◌, ℕ, ℤ, pos, negsuc, zero, suc, Bool, true, false, List, [], ◌∷◌, ◌++◌, Option, Some, None, map, slice_index, ap, refl, arith, lit<}
use Rattle.std.specs.Prelude.{codes, if◌then◌else◌, ◌==◌, ◌&&◌, not, take, drop, unsigned_abs}
use Rattle.std.specs.Fmt.{decimal}
use Rattle.std.proofs.lemmas.Bool.{and_parts}
use Rattle.std.proofs.lemmas.List.{append_assoc}
use Rattle.isl_space.specs.Name.{Name, begins_name, is_identifier, is_reserved, IsLiteralName}
use Rattle.isl_space.specs.Form.{Form, leaf, pair, width_of, name_text}
use Rattle.isl_space.specs.SpaceForm.{SpaceForm, set_of, map_of}
use Rattle.isl_piece.specs.declared.row.RowKind.{RowKind}
use Rattle.isl_piece.specs.declared.row.RowKind.TheVariants.{Zero, AtLeast, Divides, NotDivides}
use Rattle.isl_piece.specs.declared.row.Row.{Row}
use Rattle.isl_row_text.specs.declared.sum.Side.{Side}
use Rattle.isl_row_text.specs.declared.sum.Side.TheVariants.{Left, Right}
use Rattle.isl_print.specs.Joined.{Text, each_after, joined_by}
use Rattle.isl_print.specs.Sum.{Term, share, terms_of, term_text, constant_texts, sum_of, side_text}
use Rattle.isl_print.specs.RowText.{relation_text, remainder_text, kind_text, row_text, conjunction_text}
use Rattle.isl_print.specs.Tuple.{tuple_text, tuples_text}
use Rattle.isl_token.specs.TokenView.{Token}
use Rattle.isl_token.specs.TokenView as token
use Rattle.isl_token.specs.Number.{too_great}
use Rattle.isl_token.proofs.Prints.{Prints, any, after_word, after_number, word_prints, number_prints, decimal_prints, blank_prints, prints_both, prints_nil, prints_less}
use Rattle.isl_token.proofs.SignPrints.{whole_sign_prints, spaced_sign_prints}

-- ---- lists of texts
abbrev pub Tokens : Type 0
Tokens = List Token

-- a byte that ends a word, and a number
abbrev pub after_item : ℕ → Bool
after_item b = after_word b && after_number b

abbrev pub each_tokens : Tokens → List Tokens → Tokens
each_tokens separator [] = []
each_tokens separator (ts ∷ tss) = separator ++ ts ++ each_tokens separator tss

abbrev pub joined_tokens : Tokens → List Tokens → Tokens
joined_tokens separator [] = []
joined_tokens separator (ts ∷ tss) = ts ++ each_tokens separator tss

-- each of the texts has these tokens
abbrev pub AllPrint : List Text → List Tokens → Type 0
AllPrint [] [] = Unit {0}
AllPrint (text ∷ texts) (ts ∷ tss) = Prints text ts after_item × AllPrint texts tss
AllPrint _ _ = ⊥

-- a text that ends what stands before it
abbrev Ends : Text → Type 0
Ends separator = (z : Text) → after_item (slice_index (separator ++ z) 0) ≡ true

each_ends : (separator : Text) (texts : List Text) → Ends separator → (z : Text) → after_item (slice_index z 0) ≡ true → after_item
    (slice_index (each_after separator texts ++ z) 0) ≡ true
each_ends separator [] ends z after = after
each_ends separator (text ∷ texts) ends z after =
    ap (λ t. after_item (slice_index t 0))
    (append_assoc (separator ++ text) (each_after separator texts) z ∙ append_assoc separator text
    (each_after separator texts ++ z)) ∙ ends (text ++ (each_after separator texts ++ z))

each_print : (separator : Text) (ts : Tokens) → Prints separator ts any → Ends separator → (texts : List Text) (tss : List Tokens)
    → AllPrint texts tss → Prints (each_after separator texts) (each_tokens ts tss) after_item
each_print separator ts prints ends [] [] all = prints_nil after_item
each_print separator ts prints ends [] (us ∷ tss) all = absurd all
each_print separator ts prints ends (text ∷ texts) [] all = absurd all
each_print separator ts prints ends (text ∷ texts) (us ∷ tss) all =
    prints_both (separator ++ text) (each_after separator texts) (ts ++ us) (each_tokens ts tss) after_item after_item
    (prints_both separator text ts us any after_item prints all.0 (λ z _. refl)) (each_print separator ts prints ends texts tss all.1)
    (each_ends separator texts ends)

pub joined_print : (separator : Text) (ts : Tokens) → Prints separator ts any → Ends separator → (texts : List Text)
    (tss : List Tokens) → AllPrint texts tss → Prints (joined_by separator texts) (joined_tokens ts tss) after_item
joined_print separator ts prints ends [] [] all = prints_nil after_item
joined_print separator ts prints ends [] (us ∷ tss) all = absurd all
joined_print separator ts prints ends (text ∷ texts) [] all = absurd all
joined_print separator ts prints ends (text ∷ texts) (us ∷ tss) all =
    prints_both text (each_after separator texts) us (each_tokens ts tss) after_item after_item all.0
    (each_print separator ts prints ends texts tss all.1) (each_ends separator texts ends)

all_print-append : (xs ys : List Text) (us vs : List Tokens) → AllPrint xs us → AllPrint ys vs → AllPrint (xs ++ ys) (us ++ vs)
all_print-append [] ys [] vs a b = b
all_print-append [] ys (u ∷ us) vs a b = absurd a
all_print-append (x ∷ xs) ys [] vs a b = absurd a
all_print-append (x ∷ xs) ys (u ∷ us) vs a b = (a.0, all_print-append xs ys us vs a.1 b)

-- a text that ends what stands before it, behind one that is to be ended
pub then_prints : (t u : Text) (ts us : Tokens) (next : ℕ → Bool) → Prints t ts after_item → Prints u us next → Ends u → Prints (t ++ u)
    (ts ++ us) next
then_prints t u ts us next p q ends = prints_both t u ts us after_item next p q (λ z _. ends z)

-- a text behind one that needs no end
pub loose_prints : (t u : Text) (ts us : Tokens) (next : ℕ → Bool) → Prints t ts any → Prints u us next → Prints (t ++ u) (ts ++ us) next
loose_prints t u ts us next p q = prints_both t u ts us any next p q (λ z _. refl)

-- ---- names and numbers
abbrev pub sign : Text → Token
sign text = token.Sign text

abbrev pub word : Text → Token
word text = token.Word text

abbrev pub number : ℕ → Token
number n = token.Number (decimal n)

item_word : (b : ℕ) → after_item b ≡ true → after_word b ≡ true
item_word b h = (and_parts (after_word b) (after_number b) h).0

item_number : (b : ℕ) → after_item b ≡ true → after_number b ≡ true
item_number b h = (and_parts (after_word b) (after_number b) h).1

named : (name : Name) → IsLiteralName name → is_identifier name ≡ true
named name h = (and_parts (is_identifier name) (not (is_reserved name)) h).0

name_prints : (name : Name) → IsLiteralName name → Prints name (word name ∷ []) after_item
name_prints name h = prints_less name (word name ∷ []) after_word after_item (word_prints name (named name h)) item_word

-- numbers that a literal may write
abbrev pub IsSmall : ℕ → Type 0
IsSmall n = n < too_great

wide : (n : ℕ) → IsSmall n → n < 10 ^ 64
wide n small = let more : too_great < 10 ^ 64 = lit< tt in omega (arith, small, more)

count_prints : (n : ℕ) → IsSmall n → Prints (decimal n) (number n ∷ []) after_item
count_prints n small = prints_less (decimal n) (number n ∷ []) after_number after_item (decimal_prints n (wide n small)) item_number

-- a name ends the number in front of it
letter_ends : (b : ℕ) → begins_name b ≡ true → after_number b ≡ true
letter_ends b letter = grind arith

name_ends : (name : Name) (z : Text) → is_identifier name ≡ true → after_number (slice_index (name ++ z) 0) ≡ true
name_ends [] z is = absurd cc
name_ends (b ∷ name) z is = letter_ends b (and_parts (begins_name b) _ is).0

-- ---- sums
abbrev pub term_tokens : Term → Tokens
term_tokens term = if term.0 == 1 then word term.1 ∷ [] else number term.0 ∷ word term.1 ∷ []

abbrev pub constant_tokens : ℕ → List Tokens
constant_tokens constant = if constant == 0 then [] else (number constant ∷ []) ∷ []

abbrev pub sum_tokens : List Tokens → Tokens
sum_tokens [] = token.Number (codes "0") ∷ []
sum_tokens (ts ∷ tss) = joined_tokens (sign (codes "+") ∷ []) (ts ∷ tss)

abbrev pub side_tokens : Side → List Name → List ℤ → ℤ → Tokens
side_tokens side names numbers constant = sum_tokens
    (map term_tokens (terms_of side names numbers) ++ constant_tokens (share side constant))

-- each name may stand in a literal, and each number has a magnitude that it may write
abbrev pub AreNamed : List Name → Type 0
AreNamed [] = Unit {0}
AreNamed (name ∷ names) = IsLiteralName name × AreNamed names

abbrev pub AreSmall : List ℤ → Type 0
AreSmall [] = Unit {0}
AreSmall (z ∷ zs) = IsSmall (unsigned_abs z) × AreSmall zs

none_small : IsSmall 0
none_small = lit< tt

pub share_small : (side : Side) (z : ℤ) → IsSmall (unsigned_abs z) → IsSmall (share side z)
share_small Left (pos n) small = small
share_small Left (negsuc n) small = none_small
share_small Right (pos n) small = none_small
share_small Right (negsuc n) small = small

-- a term that is printed
abbrev pub IsWritable : Term → Type 0
IsWritable term = IsSmall term.0 × IsLiteralName term.1

abbrev pub AreWritable : List Term → Type 0
AreWritable [] = Unit {0}
AreWritable (term ∷ terms) = IsWritable term × AreWritable terms

pub terms_writable : (side : Side) (names : List Name) (numbers : List ℤ) → AreNamed names → AreSmall numbers → AreWritable
    (terms_of side names numbers)
terms_writable side [] [] a b = tt
terms_writable side [] (z ∷ zs) a b = tt
terms_writable side (name ∷ names) [] a b = tt
terms_writable side (name ∷ names) (z ∷ zs) a b = by (share side z == 0) (terms_writable side names zs a.1 b.1)
  where
    by : (q : Bool) → AreWritable (terms_of side names zs) → AreWritable
        (if q then terms_of side names zs else (share side z, name) ∷ terms_of side names zs)
    by true again = again
    by false again = ((share_small side z b.0, a.0), again)

term_prints : (term : Term) → IsWritable term → Prints (term_text term) (term_tokens term) after_item
term_prints term h = by (term.0 == 1) (name_prints term.1 h.1)
  where
    by : (q : Bool) → Prints term.1 (word term.1 ∷ []) after_item → Prints (if q then term.1 else decimal term.0 ++ term.1)
        (if q then word term.1 ∷ [] else number term.0 ∷ word term.1 ∷ []) after_item
    by true alone = alone
    by false alone =
        prints_both (decimal term.0) term.1 (number term.0 ∷ []) (word term.1 ∷ []) after_number after_item
        (decimal_prints term.0 (wide term.0 h.0)) alone (λ z _. name_ends term.1 z (named term.1 h.1))

terms_print : (terms : List Term) → AreWritable terms → AllPrint (map term_text terms) (map term_tokens terms)
terms_print [] all = tt
terms_print (term ∷ terms) all = (term_prints term all.0, terms_print terms all.1)

constant_print : (c : ℕ) → IsSmall c → AllPrint (constant_texts c) (constant_tokens c)
constant_print c small = by (c == 0)
  where
    by : (q : Bool) → AllPrint (if q then [] else decimal c ∷ []) (if q then [] else (number c ∷ []) ∷ [])
    by true = tt
    by false = (count_prints c small, tt)

-- ` + ` and the like: a sign between blanks
plus_between : Prints (codes " + ") (sign (codes "+") ∷ []) any
plus_between = loose_prints (codes " ") (codes "+ ") [] (sign (codes "+") ∷ []) any blank_prints
    (loose_prints (codes "+") (codes " ") (sign (codes "+") ∷ []) [] any (whole_sign_prints (codes "+") refl) blank_prints)

sum_prints : (texts : List Text) (tss : List Tokens) → AllPrint texts tss → Prints (sum_of texts) (sum_tokens tss) after_item
sum_prints [] [] all = prints_less (codes "0") (token.Number (codes "0") ∷ []) after_number after_item
    (number_prints (codes "0") refl) item_number
sum_prints [] (ts ∷ tss) all = absurd all
sum_prints (text ∷ texts) [] all = absurd all
sum_prints (text ∷ texts) (ts ∷ tss) all = joined_print (codes " + ") (sign (codes "+") ∷ []) plus_between (λ z. refl) (text ∷ texts)
    (ts ∷ tss) all

pub side_prints : (side : Side) (names : List Name) (numbers : List ℤ) (constant : ℤ) → AreNamed names → AreSmall numbers → IsSmall
    (unsigned_abs constant)
    → Prints (side_text side names numbers constant) (side_tokens side names numbers constant) after_item
side_prints side names numbers constant a b c =
    let terms = terms_of side names numbers in
    sum_prints (map term_text terms ++ constant_texts (share side constant))
    (map term_tokens terms ++ constant_tokens (share side constant))
    (all_print-append (map term_text terms) (constant_texts (share side constant)) (map term_tokens terms)
    (constant_tokens (share side constant)) (terms_print terms (terms_writable side names numbers a b))
    (constant_print (share side constant) (share_small side constant c)))

-- ---- rows
-- the numbers of a row have magnitudes that a literal may write
pub record IsWritableRow (row : Row) : Type 0 where
  pub coefs : AreSmall row.coefs
  pub constant : IsSmall (unsigned_abs row.constant)
  pub k : IsSmall (unsigned_abs row.k)

abbrev pub relation_tokens : Text → List Name → Row → Tokens
relation_tokens relation names row = side_tokens Left names row.coefs row.constant ++ sign relation ∷ [] ++ side_tokens Right names row.coefs row.constant

abbrev pub remainder_tokens : List Name → Row → Tokens
remainder_tokens names row =
    sign (codes "(") ∷ [] ++ side_tokens Left names row.coefs row.constant ++ (sign (codes ")") ∷ word (codes "mod") ∷ []) ++ number
    (unsigned_abs row.k) ∷ []

abbrev pub compared_tokens : Text → List Name → Row → Tokens
compared_tokens relation names row = remainder_tokens names row ++ (sign relation ∷ token.Number (codes "0") ∷ [])

abbrev pub kind_tokens : RowKind → List Name → Row → Tokens
kind_tokens Zero names row = relation_tokens (codes "=") names row
kind_tokens AtLeast names row = relation_tokens (codes ">=") names row
kind_tokens Divides names row = compared_tokens (codes "=") names row
kind_tokens NotDivides names row = compared_tokens (codes "!=") names row

abbrev pub row_tokens : List Name → Row → Tokens
row_tokens names row = kind_tokens row.kind names row

equal_between : Prints (codes " = ") (sign (codes "=") ∷ []) any
equal_between = loose_prints (codes " ") (codes "= ") [] (sign (codes "=") ∷ []) any blank_prints (spaced_sign_prints (codes "=") refl)

at_least_between : Prints (codes " >= ") (sign (codes ">=") ∷ []) any
at_least_between = loose_prints (codes " ") (codes ">= ") [] (sign (codes ">=") ∷ []) any blank_prints
    (loose_prints (codes ">=") (codes " ") (sign (codes ">=") ∷ []) [] any (whole_sign_prints (codes ">=") refl) blank_prints)

differs_between : Prints (codes " != ") (sign (codes "!=") ∷ []) any
differs_between = loose_prints (codes " ") (codes "!= ") [] (sign (codes "!=") ∷ []) any blank_prints
    (loose_prints (codes "!=") (codes " ") (sign (codes "!=") ∷ []) [] any (whole_sign_prints (codes "!=") refl) blank_prints)

zero_prints : Prints (codes "0") (token.Number (codes "0") ∷ []) after_item
zero_prints = prints_less (codes "0") (token.Number (codes "0") ∷ []) after_number after_item (number_prints (codes "0") refl) item_number

is_zero : Prints (codes " = 0") (sign (codes "=") ∷ token.Number (codes "0") ∷ []) after_item
is_zero = loose_prints (codes " = ") (codes "0") (sign (codes "=") ∷ [])
    (token.Number (codes "0") ∷ []) after_item equal_between zero_prints

is_not_zero : Prints (codes " != 0") (sign (codes "!=") ∷ token.Number (codes "0") ∷ []) after_item
is_not_zero = loose_prints (codes " != ") (codes "0") (sign (codes "!=") ∷ [])
    (token.Number (codes "0") ∷ []) after_item differs_between zero_prints

-- a word between blanks
word_between : (w : Text) → is_identifier w ≡ true → Prints (codes " " ++ w ++ codes " ") (word w ∷ []) any
word_between w is =
    prints_both (codes " " ++ w) (codes " ") (word w ∷ []) [] after_word any
    (loose_prints (codes " ") w [] (word w ∷ []) after_word blank_prints (word_prints w is)) blank_prints (λ z _. refl)

modulo_prints : Prints (codes ") mod ") (sign (codes ")") ∷ word (codes "mod") ∷ []) any
modulo_prints = loose_prints (codes ")") (codes " mod ") (sign (codes ")") ∷ []) (word (codes "mod") ∷ []) any
    (whole_sign_prints (codes ")") refl) (word_between (codes "mod") refl)

module _ (names : List Name) (row : Row) (a : AreNamed names) (b : IsWritableRow row) where
  relation_prints : (relation : Text) (between : Text) → Prints between (sign relation ∷ []) any → Ends between → Prints
      (relation_text between names row) (relation_tokens relation names row) after_item
  relation_prints relation between prints ends =
      loose_prints (side_text Left names row.coefs row.constant ++ between) (side_text Right names row.coefs row.constant)
      (side_tokens Left names row.coefs row.constant ++ sign relation ∷ []) (side_tokens Right names row.coefs row.constant) after_item
      (then_prints (side_text Left names row.coefs row.constant) between (side_tokens Left names row.coefs row.constant)
      (sign relation ∷ []) any (side_prints Left names row.coefs row.constant a b.coefs b.constant) prints ends)
      (side_prints Right names row.coefs row.constant a b.coefs b.constant)

  remainder_prints : Prints (remainder_text names row) (remainder_tokens names row) after_item
  remainder_prints =
      let left = side_text Left names row.coefs row.constant in
      let ts = side_tokens Left names row.coefs row.constant in
      loose_prints (codes "(" ++ left ++ codes ") mod ") (decimal (unsigned_abs row.k))
      (sign (codes "(") ∷ [] ++ ts ++ (sign (codes ")") ∷ word (codes "mod") ∷ [])) (number (unsigned_abs row.k) ∷ []) after_item
      (then_prints (codes "(" ++ left) (codes ") mod ") (sign (codes "(") ∷ [] ++ ts) (sign (codes ")") ∷ word (codes "mod") ∷ []) any
      (loose_prints (codes "(") left
      (sign (codes "(") ∷ []) ts after_item
      (whole_sign_prints (codes "(") refl) (side_prints Left names row.coefs row.constant a b.coefs b.constant)) modulo_prints
      (λ z. refl))
      (count_prints (unsigned_abs row.k) b.k)

  kind_prints : (kind : RowKind) → Prints (kind_text kind names row) (kind_tokens kind names row) after_item
  kind_prints Zero = relation_prints (codes "=") (codes " = ") equal_between (λ z. refl)
  kind_prints AtLeast = relation_prints (codes ">=") (codes " >= ") at_least_between (λ z. refl)
  kind_prints Divides = then_prints (remainder_text names row) (codes " = 0") (remainder_tokens names row)
      (sign (codes "=") ∷ token.Number (codes "0") ∷ []) after_item remainder_prints is_zero (λ z. refl)
  kind_prints NotDivides = then_prints (remainder_text names row) (codes " != 0") (remainder_tokens names row)
      (sign (codes "!=") ∷ token.Number (codes "0") ∷ []) after_item remainder_prints is_not_zero (λ z. refl)

abbrev pub AreWritableRows : List Row → Type 0
AreWritableRows [] = Unit {0}
AreWritableRows (row ∷ rows) = IsWritableRow row × AreWritableRows rows

pub rows_print : (names : List Name) (rows : List Row) → AreNamed names → AreWritableRows rows → AllPrint (map (row_text names) rows)
    (map (row_tokens names) rows)
rows_print names [] a all = tt
rows_print names (row ∷ rows) a all = (kind_prints names row a all.0 row.kind, rows_print names rows a all.1)

abbrev pub conjunction_tokens : List Tokens → Tokens
conjunction_tokens [] = []
conjunction_tokens (ts ∷ tss) = sign (codes ":") ∷ [] ++ joined_tokens (word (codes "and") ∷ []) (ts ∷ tss)

colon_between : Prints (codes " : ") (sign (codes ":") ∷ []) any
colon_between = loose_prints (codes " ") (codes ": ") [] (sign (codes ":") ∷ []) any blank_prints (spaced_sign_prints (codes ":") refl)

and_between : Prints (codes " and ") (word (codes "and") ∷ []) any
and_between = word_between (codes "and") refl

pub conjunction_prints : (texts : List Text) (tss : List Tokens) → AllPrint texts tss → Prints (conjunction_text texts)
    (conjunction_tokens tss) after_item
conjunction_prints [] [] all = prints_nil after_item
conjunction_prints [] (ts ∷ tss) all = absurd all
conjunction_prints (text ∷ texts) [] all = absurd all
conjunction_prints (text ∷ texts) (ts ∷ tss) all =
    loose_prints (codes " : ") (joined_by (codes " and ") (text ∷ texts)) (sign (codes ":") ∷ [])
    (joined_tokens (word (codes "and") ∷ []) (ts ∷ tss)) after_item colon_between
    (joined_print (codes " and ") (word (codes "and") ∷ []) and_between (λ z. refl) (text ∷ texts) (ts ∷ tss) all)

conjunction_ends : (texts : List Text) (z : Text) → after_item (slice_index z 0) ≡ true → after_item
    (slice_index (conjunction_text texts ++ z) 0) ≡ true
conjunction_ends [] z after = after
conjunction_ends (text ∷ texts) z after = refl

-- ---- tuples
abbrev pub name_tokens : Option Name → Tokens
name_tokens None = []
name_tokens (Some name) = word name ∷ []

abbrev pub names_tokens : List Name → Tokens
names_tokens names = joined_tokens (sign (codes ",") ∷ []) (map (λ name. word name ∷ []) names)

abbrev pub tuple_tokens : Form → List Name → Tokens
tuple_tokens (leaf name width) names = name_tokens name ++ sign (codes "[") ∷ [] ++ names_tokens (take width names) ++ sign (codes "]") ∷ []
tuple_tokens (pair left right) names =
    sign (codes "[") ∷ [] ++ tuple_tokens left names ++ sign (codes "->") ∷ [] ++ tuple_tokens right
    (drop (width_of left) names) ++ sign (codes "]") ∷ []

abbrev pub tuples_tokens : SpaceForm → List Name → Tokens
tuples_tokens (set_of form) names = tuple_tokens form names
tuples_tokens (map_of from to) names = tuple_tokens from names ++ sign (codes "->") ∷ [] ++ tuple_tokens to (drop (width_of from) names)

comma_between : Prints (codes ", ") (sign (codes ",") ∷ []) any
comma_between = loose_prints (codes ",") (codes " ") (sign (codes ",") ∷ []) [] any (whole_sign_prints (codes ",") refl) blank_prints

pub arrow_between : Prints (codes " -> ") (sign (codes "->") ∷ []) any
arrow_between = loose_prints (codes " ") (codes "-> ") [] (sign (codes "->") ∷ []) any blank_prints (spaced_sign_prints (codes "->") refl)

each_name_prints : (names : List Name) → AreNamed names → AllPrint names (map (λ name. word name ∷ []) names)
each_name_prints [] all = tt
each_name_prints (name ∷ names) all = (name_prints name all.0, each_name_prints names all.1)

pub names_print : (names : List Name) → AreNamed names → Prints (joined_by (codes ", ") names) (names_tokens names) after_item
names_print names all = joined_print (codes ", ") (sign (codes ",") ∷ []) comma_between (λ z. refl) names
    (map (λ name. word name ∷ []) names) (each_name_prints names all)

-- each leaf's name may stand in a literal
abbrev pub IsNamedForm : Form → Type 0
IsNamedForm (leaf None width) = Unit {0}
IsNamedForm (leaf (Some name) width) = IsLiteralName name
IsNamedForm (pair left right) = IsNamedForm left × IsNamedForm right

pub named_take : (n : ℕ) (names : List Name) → AreNamed names → AreNamed (take n names)
named_take zero names all = tt
named_take (suc n) [] all = tt
named_take (suc n) (name ∷ names) all = (all.0, named_take n names all.1)

pub named_drop : (n : ℕ) (names : List Name) → AreNamed names → AreNamed (drop n names)
named_drop zero names all = all
named_drop (suc n) [] all = tt
named_drop (suc n) (name ∷ names) all = named_drop n names all.1

open_leaf : (name : Option Name) (width : ℕ) → IsNamedForm (leaf name width) → Prints
    (name_text name ++ codes "[") (name_tokens name ++ sign (codes "[") ∷ []) any
open_leaf None width h = whole_sign_prints (codes "[") refl
open_leaf (Some name) width h = then_prints name
    (codes "[") (word name ∷ []) (sign (codes "[") ∷ []) any (name_prints name h) (whole_sign_prints (codes "[") refl) (λ z. refl)

-- a tuple ends in a bracket
pub tuple_prints : (form : Form) (names : List Name) → IsNamedForm form → AreNamed names → Prints (tuple_text form names)
    (tuple_tokens form names) any
tuple_prints (leaf name width) names h all =
    then_prints (name_text name ++ codes "[" ++ joined_by (codes ", ") (take width names)) (codes "]")
    (name_tokens name ++ sign (codes "[") ∷ [] ++ names_tokens (take width names)) (sign (codes "]") ∷ []) any
    (loose_prints (name_text name ++ codes "[") (joined_by (codes ", ") (take width names))
    (name_tokens name ++ sign (codes "[") ∷ []) (names_tokens (take width names)) after_item (open_leaf name width h)
    (names_print (take width names) (named_take width names all)))
    (whole_sign_prints (codes "]") refl) (λ z. refl)
tuple_prints (pair left right) names h all =
    let rest = drop (width_of left) names in
    let opened = loose_prints (codes "[") (tuple_text left names)
    (sign (codes "[") ∷ []) (tuple_tokens left names) any (whole_sign_prints (codes "[") refl) (tuple_prints left names h.0 all) in
    let turned = loose_prints (codes "[" ++ tuple_text left names) (codes " -> ")
    (sign (codes "[") ∷ [] ++ tuple_tokens left names) (sign (codes "->") ∷ []) any opened arrow_between in
    let both = loose_prints (codes "[" ++ tuple_text left names ++ codes " -> ") (tuple_text right rest)
    (sign (codes "[") ∷ [] ++ tuple_tokens left names ++ sign (codes "->") ∷ []) (tuple_tokens right rest) any turned
    (tuple_prints right rest h.1 (named_drop (width_of left) names all)) in
    loose_prints (codes "[" ++ tuple_text left names ++ codes " -> " ++ tuple_text right rest) (codes "]")
    (sign (codes "[") ∷ [] ++ tuple_tokens left names ++ sign (codes "->") ∷ [] ++ tuple_tokens right rest)
    (sign (codes "]") ∷ []) any both (whole_sign_prints (codes "]") refl)

abbrev pub IsNamedSpaceForm : SpaceForm → Type 0
IsNamedSpaceForm (set_of form) = IsNamedForm form
IsNamedSpaceForm (map_of from to) = IsNamedForm from × IsNamedForm to

pub tuples_print : (space : SpaceForm) (names : List Name) → IsNamedSpaceForm space → AreNamed names → Prints (tuples_text space names)
    (tuples_tokens space names) any
tuples_print (set_of form) names h all = tuple_prints form names h all
tuples_print (map_of from to) names h all =
    let rest = drop (width_of from) names in
    loose_prints (tuple_text from names ++ codes " -> ") (tuple_text to rest) (tuple_tokens from names ++ sign (codes "->") ∷ [])
    (tuple_tokens to rest) any
    (loose_prints (tuple_text from names) (codes " -> ") (tuple_tokens from names) (sign (codes "->") ∷ []) any
    (tuple_prints from names h.0 all) arrow_between)
    (tuple_prints to rest h.1 (named_drop (width_of from) names all))
