-- How scripts are cut: whole, one piece after another, and one byte after another.
use Rattle.std.proofs.Common.{◌≡◌, ℕ, ◌+◌, ◌≤◌, true, false, ◌||◌, ◌==◌, IsTrue, List, [], ◌∷◌, ◌++◌, ◌<◌, length, fold, refl, sym, ap, ◌∙◌, subst, inl, inr, append_assoc, arith}
use Rattle.std.specs.Prelude.{All}
use Rattle.std.proofs.lemmas.Bool.{cases_Bool, cond-true, cond-false, and_parts, eqb-true}
use Rattle.std.proofs.lemmas.List.{append-nil, length-append, length_push}
use Rattle.std.proofs.lemmas.List.Sums.{fold_push}
use Rattle.std.proofs.lemmas.List.Elements.{All-nil, All-cons, All-head, All-tail}
use Rattle.isl_script.specs.Script.{Bytes, is_blank, depth_after, Place, place_after, place_of, is_commented, ends, IsOpen, IsBlank, IsStatement, with_ends, IsCut, statements_from, rest_from, statements, rest_of, next_part}
use Rattle.isl_script.proofs.ByteLaws.{each_nil, each_push, each_front, each_last}

-- ---- the place behind a part

pub place-nil : place_of [] ≡ record { in_comment = false; depth = 0 }
unfolding place_of
place-nil = refl

pub place-push : (part : Bytes) (b : ℕ) → place_of (part ++ b ∷ []) ≡ place_after (place_of part) b
unfolding place_of
place-push part b = fold_push place_after (record { in_comment = false; depth = 0 }) part b

depth_after-le : (depth b : ℕ) → depth_after depth b ≤ depth + 1
depth_after-le depth b = grind arith

depth_place_after-le : (place : Place) (b : ℕ) → (place_after place b).depth ≤ place.depth + 1
depth_place_after-le place b = grind (arith, depth_after-le)

depth_fold-le : (place : Place) (part : Bytes) → (fold place_after place part).depth ≤ place.depth + length part
depth_fold-le place [] = omega arith
depth_fold-le place (b ∷ part) = omega (arith, depth_fold-le (place_after place b) part, depth_place_after-le place b)

-- no more brackets are open than there are bytes
pub depth-le-length : (part : Bytes) → (place_of part).depth ≤ length part
unfolding place_of
depth-le-length part = omega (arith, depth_fold-le (record { in_comment = false; depth = 0 }) part)

-- ---- open parts, and blank ones

pub open_nil : IsOpen []
open_nil = record { none_ends = each_nil (λ front b. ends front b ≡ false) }

pub open_push : (part : Bytes) (b : ℕ) → IsOpen part → ends part b ≡ false → IsOpen (part ++ b ∷ [])
open_push part b is_open goes = record { none_ends = each_push (λ front b. ends front b ≡ false) part b is_open.none_ends goes }

pub open_front : (part : Bytes) (b : ℕ) → IsOpen (part ++ b ∷ []) → IsOpen part
open_front part b is_open = record { none_ends = each_front (λ front b. ends front b ≡ false) part b is_open.none_ends }

pub blank_nil : IsBlank []
blank_nil = record { each = each_nil (λ front b. IsTrue (is_commented front b || is_blank b)) }

pub blank_push : (part : Bytes) (b : ℕ) → IsBlank part → IsTrue (is_commented part b || is_blank b) → IsBlank (part ++ b ∷ [])
blank_push part b blank last = record { each = each_push (λ front b. IsTrue (is_commented front b || is_blank b)) part b blank.each last }

pub blank_front : (part : Bytes) (b : ℕ) → IsBlank (part ++ b ∷ []) → IsBlank part
blank_front part b blank = record { each = each_front (λ front b. IsTrue (is_commented front b || is_blank b)) part b blank.each }

pub blank_last : (part : Bytes) (b : ℕ) → IsBlank (part ++ b ∷ []) → IsTrue (is_commented part b || is_blank b)
blank_last part b blank = each_last (λ front b. IsTrue (is_commented front b || is_blank b)) part b blank.each

-- ---- statements and rest at the first byte

module _ (part : Bytes) (b : ℕ) (bytes : Bytes) where
  pub statements-ended : ends part b ≡ true → statements_from part (b ∷ bytes) ≡ part ∷ statements_from [] bytes
  unfolding statements_from
  statements-ended is = cond-true _ _ _ is

  pub statements-held : ends part b ≡ false → statements_from part (b ∷ bytes) ≡ statements_from (part ++ b ∷ []) bytes
  unfolding statements_from
  statements-held is = cond-false _ _ _ is

  pub rest-ended : ends part b ≡ true → rest_from part (b ∷ bytes) ≡ rest_from [] bytes
  unfolding rest_from
  rest-ended is = cond-true _ _ _ is

  pub rest-held : ends part b ≡ false → rest_from part (b ∷ bytes) ≡ rest_from (part ++ b ∷ []) bytes
  unfolding rest_from
  rest-held is = cond-false _ _ _ is

pub statements-none : (part : Bytes) → statements_from part [] ≡ []
unfolding statements_from
statements-none part = refl

pub rest-none : (part : Bytes) → rest_from part [] ≡ part
unfolding rest_from
rest-none part = refl

-- ---- one piece after another

statements_from-append : (part xs ys : Bytes) → statements_from part (xs ++ ys) ≡ statements_from part xs ++ statements_from (rest_from part xs) ys
statements_from-append part [] ys = rw (statements-none part, rest-none part) refl
statements_from-append part (x ∷ xs) ys = elim (cases_Bool (ends part x)) [
  | inl ended ↦ rw (statements-ended part x (xs ++ ys) ended, statements-ended part x xs ended, rest-ended part x xs ended) (ap (λ (l : List Bytes). part ∷ l) (statements_from-append [] xs ys))
  | inr held ↦ rw (statements-held part x (xs ++ ys) held, statements-held part x xs held, rest-held part x xs held) (statements_from-append (part ++ x ∷ []) xs ys)
]

rest_from-append : (part xs ys : Bytes) → rest_from part (xs ++ ys) ≡ rest_from (rest_from part xs) ys
rest_from-append part [] ys = rw (rest-none part) refl
rest_from-append part (x ∷ xs) ys = elim (cases_Bool (ends part x)) [
  | inl ended ↦ rw (rest-ended part x (xs ++ ys) ended, rest-ended part x xs ended) (rest_from-append [] xs ys)
  | inr held ↦ rw (rest-held part x (xs ++ ys) held, rest-held part x xs held) (rest_from-append (part ++ x ∷ []) xs ys)
]

open_rest_from : (part bytes : Bytes) → IsOpen part → IsOpen (rest_from part bytes)
open_rest_from part [] is_open = subst (λ (l : Bytes). IsOpen l) (sym (rest-none part)) is_open
open_rest_from part (b ∷ bytes) is_open = elim (cases_Bool (ends part b)) [
  | inl ended ↦ subst (λ (l : Bytes). IsOpen l) (sym (rest-ended part b bytes ended)) (open_rest_from [] bytes open_nil)
  | inr held ↦ subst (λ (l : Bytes). IsOpen l) (sym (rest-held part b bytes held)) (open_rest_from (part ++ b ∷ []) bytes (open_push part b is_open held))
]

-- no statement ends in a rest
pub open_rest : (bytes : Bytes) → IsOpen (rest_of bytes)
open_rest bytes = open_rest_from [] bytes open_nil

open_from : (part bytes : Bytes) → IsOpen (part ++ bytes) → (statements_from part bytes ≡ []) × (rest_from part bytes ≡ part ++ bytes)
open_from part [] is_open = (statements-none part, rest-none part ∙ sym (append-nil part))
open_from part (b ∷ bytes) is_open =
    let held : ends part b ≡ false = is_open.none_ends part b bytes refl in
    let same : (part ++ b ∷ []) ++ bytes ≡ part ++ b ∷ bytes = append_assoc part (b ∷ []) bytes in
    let more = open_from (part ++ b ∷ []) bytes (subst (λ (l : Bytes). IsOpen l) (sym same) is_open) in
    (statements-held part b bytes held ∙ more.0, rest-held part b bytes held ∙ more.1 ∙ same)

-- an open part has no statements, and is its own rest
pub statements-open : (part : Bytes) → IsOpen part → statements part ≡ []
statements-open part is_open = (open_from [] part is_open).0

pub rest-open : (part : Bytes) → IsOpen part → rest_of part ≡ part
rest-open part is_open = (open_from [] part is_open).1

-- what stands behind an open part goes on with it
pub statements-behind : (part bytes : Bytes) → IsOpen part → statements (part ++ bytes) ≡ statements_from part bytes
statements-behind part bytes is_open =
    statements_from-append [] part bytes
    ∙ ap (λ (l : List Bytes). l ++ statements_from (rest_of part) bytes) (statements-open part is_open)
    ∙ ap (λ (l : Bytes). statements_from l bytes) (rest-open part is_open)

pub rest-behind : (part bytes : Bytes) → IsOpen part → rest_of (part ++ bytes) ≡ rest_from part bytes
rest-behind part bytes is_open = rest_from-append [] part bytes ∙ ap (λ (l : Bytes). rest_from l bytes) (rest-open part is_open)

-- the part that comes next has at least the bytes that stand already
next_part-from : (part bytes : Bytes) → length part ≤ length (next_part (statements_from part bytes) (rest_from part bytes))
next_part-from part [] = rw (statements-none part, rest-none part) (omega arith)
next_part-from part (b ∷ bytes) = elim (cases_Bool (ends part b)) [
  | inl ended ↦ rw (statements-ended part b bytes ended) (omega arith)
  | inr held ↦ rw (statements-held part b bytes held, rest-held part b bytes held) (omega (arith, next_part-from (part ++ b ∷ []) bytes, length_push part b))
]

-- a part that goes on behind these bytes is longer than they are
pub next_part-long : (part : Bytes) (b : ℕ) (bytes : Bytes) → IsOpen part → ends part b ≡ false
    → length part < length (next_part (statements (part ++ b ∷ bytes)) (rest_of (part ++ b ∷ bytes)))
next_part-long part b bytes is_open held =
    rw (statements-behind part (b ∷ bytes) is_open, rest-behind part (b ∷ bytes) is_open, statements-held part b bytes held, rest-held part b bytes held)
    (omega (arith, next_part-from (part ++ b ∷ []) bytes, length_push part b))

-- the statements of two pieces are those of the first, and those of the second behind the rest of the first
pub statements-append : (xs ys : Bytes) → statements (xs ++ ys) ≡ statements xs ++ statements (rest_of xs ++ ys)
statements-append xs ys =
    let rest_open = open_rest xs in
    let behind : statements (rest_of xs ++ ys) ≡ statements_from (rest_of xs) ys =
    statements_from-append [] (rest_of xs) ys
    ∙ ap (λ (l : List Bytes). l ++ statements_from (rest_of (rest_of xs)) ys) (statements-open (rest_of xs) rest_open)
    ∙ ap (λ (l : Bytes). statements_from l ys) (rest-open (rest_of xs) rest_open) in
    statements_from-append [] xs ys ∙ ap (λ (l : List Bytes). statements xs ++ l) (sym behind)

pub rest-append : (xs ys : Bytes) → rest_of (xs ++ ys) ≡ rest_of (rest_of xs ++ ys)
rest-append xs ys =
    let behind : rest_of (rest_of xs ++ ys) ≡ rest_from (rest_of xs) ys =
    rest_from-append [] (rest_of xs) ys ∙ ap (λ (l : Bytes). rest_from l ys) (rest-open (rest_of xs) (open_rest xs)) in
    rest_from-append [] xs ys ∙ sym behind

-- ---- one byte after another

-- a byte that ends a statement makes one of the rest
pub statements-end : (bytes : Bytes) (b : ℕ) → ends (rest_of bytes) b ≡ true → statements (bytes ++ b ∷ []) ≡ statements bytes ++ rest_of bytes ∷ []
statements-end bytes b ended = statements_from-append [] bytes (b ∷ [])
    ∙ ap (λ (l : List Bytes). statements bytes ++ l) (statements-ended (rest_of bytes) b [] ended ∙ ap (λ (l : List Bytes). rest_of bytes ∷ l) (statements-none []))

pub rest-end : (bytes : Bytes) (b : ℕ) → ends (rest_of bytes) b ≡ true → rest_of (bytes ++ b ∷ []) ≡ []
rest-end bytes b ended = rest_from-append [] bytes (b ∷ []) ∙ rest-ended (rest_of bytes) b [] ended ∙ rest-none []

-- another byte makes the rest longer
pub statements-hold : (bytes : Bytes) (b : ℕ) → ends (rest_of bytes) b ≡ false → statements (bytes ++ b ∷ []) ≡ statements bytes
statements-hold bytes b held = statements_from-append [] bytes (b ∷ [])
    ∙ ap (λ (l : List Bytes). statements bytes ++ l) (statements-held (rest_of bytes) b [] held ∙ statements-none (rest_of bytes ++ b ∷ []))
    ∙ append-nil (statements bytes)

pub rest-hold : (bytes : Bytes) (b : ℕ) → ends (rest_of bytes) b ≡ false → rest_of (bytes ++ b ∷ []) ≡ rest_of bytes ++ b ∷ []
rest-hold bytes b held = rest_from-append [] bytes (b ∷ []) ∙ rest-held (rest_of bytes) b [] held ∙ rest-none (rest_of bytes ++ b ∷ [])

-- the same behind an open part
pub statements-end_open : (part : Bytes) (b : ℕ) → IsOpen part → ends part b ≡ true → statements (part ++ b ∷ []) ≡ part ∷ []
statements-end_open part b is_open ended =
    statements-end part b (ap (λ (l : Bytes). ends l b) (rest-open part is_open) ∙ ended)
    ∙ ap (λ (l : List Bytes). l ++ rest_of part ∷ []) (statements-open part is_open)
    ∙ ap (λ (l : Bytes). l ∷ []) (rest-open part is_open)

pub rest-end_open : (part : Bytes) (b : ℕ) → IsOpen part → ends part b ≡ true → rest_of (part ++ b ∷ []) ≡ []
rest-end_open part b is_open ended = rest-end part b (ap (λ (l : Bytes). ends l b) (rest-open part is_open) ∙ ended)

-- ---- the whole script

ends-semicolon : (part : Bytes) (b : ℕ) → ends part b ≡ true → b ≡ 59
ends-semicolon part b ended = eqb-true b 59 (and_parts (b == 59) _ (and_parts _ _ ended).0).0

statements_from-whole : (part bytes : Bytes) → part ++ bytes ≡ with_ends (statements_from part bytes) ++ rest_from part bytes
statements_from-whole part [] = rw (statements-none part, rest-none part) (append-nil part)
statements_from-whole part (b ∷ bytes) = elim (cases_Bool (ends part b)) [
  | inl ended ↦ rw (statements-ended part b bytes ended, rest-ended part b bytes ended)
      (ap (λ (x : ℕ). part ++ x ∷ bytes) (ends-semicolon part b ended)
      ∙ ap (λ (l : Bytes). part ++ 59 ∷ l) (statements_from-whole [] bytes)
      ∙ sym (append_assoc part (59 ∷ with_ends (statements bytes)) (rest_of bytes)))
  | inr held ↦ rw (statements-held part b bytes held, rest-held part b bytes held)
      (sym (append_assoc part (b ∷ []) bytes) ∙ statements_from-whole (part ++ b ∷ []) bytes)
]

statements_from-each : (part bytes : Bytes) → IsOpen part → All IsStatement (statements_from part bytes)
statements_from-each part [] is_open = subst (λ (l : List Bytes). All IsStatement l) (sym (statements-none part)) (All-nil IsStatement)
statements_from-each part (b ∷ bytes) is_open = elim (cases_Bool (ends part b)) [
  | inl ended ↦ subst (λ (l : List Bytes). All IsStatement l) (sym (statements-ended part b bytes ended))
      (All-cons IsStatement part (statements bytes)
      (record { open_part = is_open; ended = subst (λ (x : ℕ). IsTrue (ends part x)) (ends-semicolon part b ended) ended })
      (statements_from-each [] bytes open_nil))
  | inr held ↦ subst (λ (l : List Bytes). All IsStatement l) (sym (statements-held part b bytes held))
      (statements_from-each (part ++ b ∷ []) bytes (open_push part b is_open held))
]

pub is_cut : (script : Bytes) → IsCut script (statements script) (rest_of script)
is_cut script = record { whole = statements_from-whole [] script; statements = statements_from-each [] script open_nil; open_rest = open_rest script }

-- a statement and its end stand at the front
statement-first : (part more : Bytes) → IsStatement part → (statements (part ++ 59 ∷ more) ≡ part ∷ statements more) × (rest_of (part ++ 59 ∷ more) ≡ rest_of more)
statement-first part more is =
    let first = open_from [] part is.open_part in (
      statements_from-append [] part (59 ∷ more)
          ∙ ap (λ (l : List Bytes). l ++ statements_from (rest_of part) (59 ∷ more)) first.0
          ∙ ap (λ (l : Bytes). statements_from l (59 ∷ more)) first.1
          ∙ statements-ended part 59 more is.ended,
      rest_from-append [] part (59 ∷ more)
          ∙ ap (λ (l : Bytes). rest_from l (59 ∷ more)) first.1
          ∙ rest-ended part 59 more is.ended,
    )

cut_once : (parts : List Bytes) (rest : Bytes) → All IsStatement parts → IsOpen rest → (statements (with_ends parts ++ rest) ≡ parts) × (rest_of (with_ends parts ++ rest) ≡ rest)
cut_once [] rest each is_open = (statements-open rest is_open, rest-open rest is_open)
cut_once (part ∷ parts) rest each is_open =
    let more = cut_once parts rest (All-tail IsStatement part parts each) is_open in
    let same : (part ++ 59 ∷ with_ends parts) ++ rest ≡ part ++ 59 ∷ (with_ends parts ++ rest) = append_assoc part (59 ∷ with_ends parts) rest in
    let first = statement-first part (with_ends parts ++ rest) (All-head IsStatement part parts each) in
    (ap (λ (l : Bytes). statements l) same ∙ first.0 ∙ ap (λ (l : List Bytes). part ∷ l) more.0, ap (λ (l : Bytes). rest_of l) same ∙ first.1 ∙ more.1)

-- a script is cut in one way
pub cut-unique : (script : Bytes) (parts : List Bytes) (rest : Bytes) → IsCut script parts rest → (parts ≡ statements script) × (rest ≡ rest_of script)
cut-unique script parts rest cut =
    let once = cut_once parts rest cut.statements cut.open_rest in
    (sym once.0 ∙ ap (λ (l : Bytes). statements l) (sym cut.whole), sym once.1 ∙ ap (λ (l : Bytes). rest_of l) (sym cut.whole))

-- ---- lengths

length-with_ends : (parts : List Bytes) → length parts ≤ length (with_ends parts)
length-with_ends [] = omega arith
length-with_ends (part ∷ parts) = omega (arith, length-append part (59 ∷ with_ends parts), length-with_ends parts)

-- a script has a byte for each statement, and those of its rest
pub count-le-length : (script : Bytes) → length (statements script) + length (rest_of script) ≤ length script
count-le-length script = omega (arith, ap length (statements_from-whole [] script), length-append (with_ends (statements script)) (rest_of script), length-with_ends (statements script))
