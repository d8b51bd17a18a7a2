-- The names of coordinates add nothing to the depth of a text.
use Rattle.std.proofs.Common.{◌≡◌, ◌<◌, ◌≤◌, ◌+◌, ◌∙◌, ◌^◌, ℕ, zero, suc, Bool, true, false, List, [], ◌∷◌, ◌++◌, length, slice_index, ap, sym, refl, arith, lit<}
use Rattle.std.specs.Prelude.{codes, if◌then◌else◌, ◌-◌}
use Rattle.std.specs.Char.{digit_value, is_ascii_digit}
use Rattle.std.specs.Fmt.{decimal}
use Rattle.std.specs.List.{sum_by, AllByRecursion}
use Rattle.std.specs.Str.{bytes_eq}
use Rattle.std.specs.Str.Parse.{AllDigits}
use Rattle.std.proofs.lemmas.Bool.{false≢true, false_from_ne_true}
use Rattle.std.proofs.lemmas.Fmt.{decimal_is_IsNumeral_wide}
use Rattle.std.proofs.lemmas.List.{append_assoc, append-nil}
use Rattle.std.proofs.lemmas.List.Elements.{All-from_recursion}
use Rattle.std.proofs.lemmas.List.Folds.{list_any_none}
use Rattle.std.proofs.lemmas.Slice.Eq.{bytes_eq-Decides}
use Rattle.isl_space.specs.Name.{Name}
use Rattle.isl_space.specs.Names.{is_among}
use Rattle.isl_space.specs.Form.{width_of}
use Rattle.isl_space.specs.SpaceForm.{SpaceForm, set_of, map_of, coordinates_of}
use Rattle.isl_print.specs.Naming.{primed, free_name, numbered, coordinate_names}
use Rattle.isl_token.specs.Depth.{stacking_words}
use Rattle.isl_round_trip.specs.Accepted.{IsQuiet}

-- a name stays at the front of what it is made of
primed_goes_on : (most : ℕ) (others : List Name) (name : Name) → (rest : List ℕ) × (primed most others name ≡ name ++ rest)
primed_goes_on zero others name = ([], sym (append-nil name))
primed_goes_on (suc most) others name = by (is_among others name) (primed_goes_on most others (name ++ codes "'"))
  where
    by : (q : Bool) → (rest : List ℕ) × (primed most others (name ++ codes "'") ≡ (name ++ codes "'") ++ rest)
        → (rest : List ℕ) × ((if q then primed most others (name ++ codes "'") else name) ≡ name ++ rest)
    by true again = (codes "'" ++ again.0, again.1 ∙ append_assoc name (codes "'") again.0)
    by false again = ([], sym (append-nil name))

-- no stacking word has a digit behind its first letter
abbrev HasNoDigit : Name → Type 0
HasNoDigit w = is_ascii_digit (slice_index w 1) ≡ false

words_have_none : AllByRecursion HasNoDigit stacking_words
unfolding stacking_words
words_have_none =
    (refl, (refl, (refl, (refl, (refl, (refl, (refl, (refl, (refl, (refl, (refl, (refl, (refl, (refl, (refl, (refl, (refl, (refl, (refl, (refl, (refl, (refl, (refl, tt)))))))))))))))))))))))

digit_is_quiet : (z : Name) → is_ascii_digit (slice_index z 1) ≡ true → IsQuiet z
digit_is_quiet z digit =
    list_any_none (bytes_eq z) stacking_words
    (λ k d low. false_from_ne_true _ (λ e. absurd (false≢true (sym (All-from_recursion HasNoDigit stacking_words words_have_none k d low) ∙ ap (λ w. is_ascii_digit (slice_index w 1)) (sym ((bytes_eq-Decides z _).0 e)) ∙ digit))))

digit_byte : (d : ℕ) → digit_value d < 10 → is_ascii_digit d ≡ true
digit_byte d digit = grind arith

second_byte : (letter : ℕ) (ds rest : List ℕ) → AllDigits 10 ds → 0 < length ds → is_ascii_digit (slice_index (letter ∷ ds ++ rest) 1) ≡ true
second_byte letter [] rest all some = absurd (omega (arith, some))
second_byte letter (d ∷ ds) rest all some = digit_byte d all.0

free_name_quiet : (params : List Name) (letter n : ℕ) → n < 2 ^ 64 → IsQuiet (free_name params (letter ∷ decimal n))
free_name_quiet params letter n small =
    let more : 2 ^ 64 < 10 ^ 64 = lit< tt in
    let numeral = (decimal_is_IsNumeral_wide n (omega (arith, small, more))).0 in
    let form = primed_goes_on (sum_by length params + 1 - length (letter ∷ decimal n)) params (letter ∷ decimal n) in
    digit_is_quiet (free_name params (letter ∷ decimal n)) (ap (λ z. is_ascii_digit (slice_index z 1)) form.1 ∙ second_byte letter (decimal n) form.0 numeral.1 numeral.0)

numbered_quiet : (params : List Name) (letter first count : ℕ) → first + count ≤ 2 ^ 64 → AllByRecursion IsQuiet (numbered params (letter ∷ []) first count)
numbered_quiet params letter first zero small = tt
numbered_quiet params letter first (suc count) small = (free_name_quiet params letter first (omega arith), numbered_quiet params letter (first + 1) count (omega arith))

pub quiet-append : (xs ys : List Name) → AllByRecursion IsQuiet xs → AllByRecursion IsQuiet ys → AllByRecursion IsQuiet (xs ++ ys)
quiet-append [] ys a b = b
quiet-append (x ∷ xs) ys a b = (a.0, quiet-append xs ys a.1 b)

pub coordinates_quiet : (params : List Name) (space : SpaceForm) → coordinates_of space ≤ 2 ^ 32 → AllByRecursion IsQuiet (coordinate_names params space)
coordinates_quiet params (set_of form) small = numbered_quiet params 105 0 (width_of form) (omega arith)
coordinates_quiet params (map_of from to) small =
    quiet-append (numbered params (codes "i") 0 (width_of from)) (numbered params (codes "o") 0 (width_of to)) (numbered_quiet params 105 0 (width_of from) (omega arith)) (numbered_quiet params 111 0 (width_of to) (omega arith))
