-- Names with primes.
use Rattle.std.proofs.Common.{◌≡◌, ◌<◌, ◌≤◌, ◌+◌, ◌-◌, ◌∙◌, ℕ, zero, suc, Bool, true, false, List, [], ◌∷◌, ◌++◌, Option, Some, None}
use Rattle.std.proofs.Common.{Contains, MatchOption, is_some, length, get_or, take, slice_get, arith, ap, sym, subst, refl}
use Rattle.std.specs.Prelude.{if◌then◌else◌, codes}
use Rattle.std.specs.Fmt.{decimal}
use Rattle.std.specs.List.{sum_by}
use Rattle.std.specs.Str.{bytes_eq}
use Rattle.std.proofs.lemmas.Bool.{false_from_ne_true}
use Rattle.std.proofs.lemmas.List.{take_more, length-append, append_assoc, append-nil}
use Rattle.std.proofs.lemmas.List.Folds.{list_any_at}
use Rattle.std.proofs.lemmas.List.Sums.{get_or-le-sum_by}
use Rattle.std.proofs.lemmas.Option.{get_or_from_slice_get, slice_get_within}
use Rattle.std.proofs.lemmas.Slice.Eq.{bytes_eq-Decides}
use Rattle.isl_space.specs.Name.{Name}
use Rattle.isl_space.specs.Names.{is_among}
use Rattle.isl_space.proofs.NamesLaws.{Contains-is_among}
use Rattle.isl_row_text.specs.Naming.{primed, free_name, numbered}

-- what `position` says of a name
abbrev IsPlace : List Name → Name → Option ℕ → Type 0
IsPlace names name place = MatchOption place (¬ (Contains names name)) (λ at. slice_get names at ≡ Some name)

pub among-from_place : (names : List Name) (name : Name) (place : Option ℕ) → IsPlace names name place → is_some place ≡ true
    → is_among names name ≡ true
among-from_place names name None there is = absurd cc
among-from_place names name (Some at) there is =
    list_any_at (bytes_eq name) names at name (slice_get_within names at name there) ((bytes_eq-Decides name (get_or names at name)).1 (sym (get_or_from_slice_get names at name name there)))

pub not_among-from_place : (names : List Name) (name : Name) (place : Option ℕ) → IsPlace names name place → is_some place ≡ false
    → is_among names name ≡ false
not_among-from_place names name None there is = false_from_ne_true _ (λ e. there (Contains-is_among names name e))
not_among-from_place names name (Some at) there is = absurd cc

-- no name of a list is longer than all of them together
pub among_short : (names : List Name) (name : Name) → is_among names name ≡ true → length name ≤ sum_by length names
among_short names name is =
    let c = Contains-is_among names name is in
    let low = get_or-le-sum_by length names c.0 name c.1 in
    subst (λ (n : Name). length n ≤ sum_by length names) c.2 low

-- a name that is one of the others gets one more prime
pub primed_more : (others : List Name) (name longer : Name) (whole : Name) → is_among others name ≡ true → longer ≡ name ++ codes "'"
    → primed (sum_by length others + 1 - length name) others name ≡ whole
    → primed (sum_by length others + 1 - length longer) others longer ≡ whole
primed_more others name longer whole is more so_far =
    let short = among_short others name is in
    let len : length longer ≡ length name + 1 = ap length more ∙ length-append name (codes "'") in
    let left : sum_by length others + 1 - length name ≡ suc (sum_by length others + 1 - length longer) = omega arith in
    let step : primed (suc (sum_by length others + 1 - length longer)) others name ≡ primed (sum_by length others + 1 - length longer) others (name ++ codes "'") =
    ap (λ (b : Bool). if b then primed (sum_by length others + 1 - length longer) others (name ++ codes "'") else name) is in
    ap (primed (sum_by length others + 1 - length longer) others) more ∙ sym step ∙ ap (λ n. primed n others name) (sym left) ∙ so_far

-- and so fewer are left
pub primed_fewer : (others : List Name) (name longer : Name) → is_among others name ≡ true → longer ≡ name ++ codes "'"
    → sum_by length others + 1 - length longer < sum_by length others + 1 - length name
primed_fewer others name longer is more =
    let short = among_short others name is in
    let len : length longer ≡ length name + 1 = ap length more ∙ length-append name (codes "'") in
    omega arith

-- one that is none of them stays
pub primed_done : (most : ℕ) (others : List Name) (name whole : Name) → is_among others name ≡ false → primed most others name ≡ whole
    → name ≡ whole
primed_done zero others name whole is so_far = so_far
primed_done (suc most) others name whole is so_far =
    ap (λ (b : Bool). if b then primed most others (name ++ codes "'") else name) (sym is) ∙ so_far

-- as many as were asked for
pub length-numbered : (params : List Name) (letter : Name) (first count : ℕ) → length (numbered params letter first count) ≡ count
length-numbered params letter first zero = refl
length-numbered params letter first (suc count) = ap suc (length-numbered params letter (first + 1) count)

-- a loop's step: the name of the next coordinate is put behind the others
pub numbered_more : (params : List Name) (letter : Name) (number count : ℕ) (name : Name) (before after whole : List Name) → number < count
    → name ≡ free_name params (letter ++ decimal number) → after ≡ before ++ name ∷ []
    → before ++ numbered params letter number (count - number) ≡ whole → after ++ numbered params letter (number + 1) (count - (number + 1)) ≡ whole
numbered_more params letter number count name before after whole low is more so_far =
    let left : count - number ≡ suc (count - (number + 1)) = omega arith in
    let rest = numbered params letter (number + 1) (count - (number + 1)) in
    ap (λ l. l ++ rest) (more ∙ ap (λ n. before ++ n ∷ []) is) ∙ append_assoc before (free_name params (letter ++ decimal number) ∷ []) rest
    ∙ ap (λ n. before ++ numbered params letter number n) (sym left) ∙ so_far

pub numbered_end : (params : List Name) (letter : Name) (number count : ℕ) (before whole : List Name) → count ≤ number
    → before ++ numbered params letter number (count - number) ≡ whole → before ≡ whole
numbered_end params letter number count before whole over so_far =
    let none : count - number ≡ 0 = omega arith in
    sym (ap (λ n. before ++ numbered params letter number n) none ∙ append-nil before) ∙ so_far

-- a loop's step: the copy of a parameter's name is put behind the others
pub copied_more : (params names pushed : List Name) (at : ℕ) (name copy : Name) → slice_get params at ≡ Some name → copy ≡ name
    → pushed ≡ names ++ copy ∷ []
    → names ≡ take at params → pushed ≡ take (at + 1) params
copied_more params names pushed at name copy there is more so_far =
    more ∙ ap (λ l. l ++ copy ∷ []) so_far ∙ ap (λ n. take at params ++ n ∷ []) (is ∙ sym (get_or_from_slice_get params at name name there))
    ∙ sym (take_more params at name (slice_get_within params at name there))

pub ruleset steps = (numbered_more, numbered_end, copied_more)
