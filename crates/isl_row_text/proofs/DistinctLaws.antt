-- The names of the columns of a space are distinct.
use Rattle.std.proofs.Common.{◌≡◌, ◌≢◌, ◌<◌, ◌≤◌, ◌+◌, ◌-◌, ◌^◌, ◌∙◌, ℕ, zero, suc, Bool, true, false, not, List, [], ◌∷◌, ◌++◌, length}
use Rattle.std.proofs.Common.{arith, ap, sym, refl, cond, lit<}
use Rattle.std.specs.Prelude.{if◌then◌else◌, codes, ◌==◌, All, filter}
use Rattle.std.specs.Char.{digit_value}
use Rattle.std.specs.Fmt.{decimal}
use Rattle.std.specs.List.{sum_by, AllByRecursion}
use Rattle.std.specs.Str.Parse.{AllDigits}
use Rattle.std.proofs.lemmas.Bool.{ne_eqb}
use Rattle.std.proofs.lemmas.Fmt.{decimal_is_IsNumeral_wide, decimal_injective}
use Rattle.std.proofs.lemmas.List.{append-nil, length-append}
use Rattle.std.proofs.lemmas.List.Elements.{filter-append, recursion_from_All}
use Rattle.isl_space.specs.Name.{Name}
use Rattle.isl_space.specs.Names.{AreDistinct, is_among}
use Rattle.isl_space.specs.Form.{width_of}
use Rattle.isl_space.specs.SpaceForm.{SpaceForm, set_of, map_of, coordinates_of}
use Rattle.isl_row_text.specs.Naming.{primed, free_name, numbered, coordinate_names, column_names}
use Rattle.isl_space.proofs.DistinctLaws.{Differs, Distinct, Apart, apart-append, distinct-append, apart-nil, apart_from, distinct_from}
use Rattle.isl_space.proofs.DistinctLaws.{distinct_at}
use Rattle.isl_row_text.proofs.NamingLaws.{among_short}

-- with so many primes a name is longer than all others together
primed_free : (most : ℕ) (others : List Name) (name : Name) → sum_by length others + 1 ≤ most + length name
    → is_among others (primed most others name) ≡ false
primed_free zero others name enough = by (is_among others name) refl
  where
    by : (b : Bool) → is_among others name ≡ b → is_among others name ≡ false
    by true is = let short = among_short others name is in absurd (omega arith)
    by false is = is
primed_free (suc most) others name enough =
    let longer : length (name ++ codes "'") ≡ length name + 1 = length-append name (codes "'") in
    by (is_among others name) refl (primed_free most others (name ++ codes "'") (omega arith))
  where
    by : (b : Bool) → is_among others name ≡ b → is_among others (primed most others (name ++ codes "'")) ≡ false
        → is_among others (if b then primed most others (name ++ codes "'") else name) ≡ false
    by true is again = again
    by false is again = is

pub free_name_is_free : (others : List Name) (name : Name) → is_among others (free_name others name) ≡ false
free_name_is_free others name = primed_free (sum_by length others + 1 - length name) others name (omega arith)

-- ---- what primes are put behind
abbrev no_prime : ℕ → Bool
no_prime b = not (b == 39)

-- the name without its primes
abbrev bare : Name → Name
bare name = filter no_prime name

bare_primed : (most : ℕ) (others : List Name) (name : Name) → bare (primed most others name) ≡ bare name
bare_primed zero others name = refl
bare_primed (suc most) others name = by (is_among others name) (bare_primed most others (name ++ codes "'"))
  where
    shorter : bare (name ++ codes "'") ≡ bare name
    shorter = filter-append no_prime name (codes "'") ∙ append-nil (bare name)

    by : (b : Bool) → bare (primed most others (name ++ codes "'")) ≡ bare (name ++ codes "'")
        → bare (if b then primed most others (name ++ codes "'") else name) ≡ bare name
    by true again = again ∙ shorter
    by false again = refl

bare_whole : (name : Name) → All (λ b. b ≢ 39) name → bare name ≡ name
bare_whole name all = by name (recursion_from_All (λ b. b ≢ 39) name all)
  where
    by : (l : Name) → AllByRecursion (λ b. b ≢ 39) l → bare l ≡ l
    by [] all = refl
    by (b ∷ l) all = ap (λ (q : Bool). cond (not q) (b ∷ bare l) (bare l)) (ne_eqb b 39 all.0) ∙ ap (λ m. b ∷ m) (by l all.1)

digit_is_no_prime : (d : ℕ) → digit_value d < 10 → d ≢ 39
digit_is_no_prime d digit = grind arith

digits_bare : (ds : List ℕ) → AllDigits 10 ds → bare ds ≡ ds
digits_bare [] all = refl
digits_bare (d ∷ ds) all =
    ap (λ (q : Bool). cond (not q) (d ∷ bare ds) (bare ds)) (ne_eqb d 39 (digit_is_no_prime d all.0))
    ∙ ap (λ m. d ∷ m) (digits_bare ds all.1)

narrow_is_wide : (n : ℕ) → n < 2 ^ 64 → n < 10 ^ 64
narrow_is_wide n small = let more : 2 ^ 64 < 10 ^ 64 = lit< tt in omega (arith, small, more)

-- a letter, and a number behind it
bare_numbered : (letter : ℕ) (n : ℕ) → letter ≢ 39 → n < 2 ^ 64 → bare (letter ∷ decimal n) ≡ letter ∷ decimal n
bare_numbered letter n other small =
    ap (λ (q : Bool). cond (not q) (letter ∷ bare (decimal n)) (bare (decimal n))) (ne_eqb letter 39 other)
    ∙ ap (λ m. letter ∷ m) (digits_bare (decimal n) (decimal_is_IsNumeral_wide n (narrow_is_wide n small)).0.1)

bare_free : (params : List Name) (letter : ℕ) (n : ℕ) → letter ≢ 39 → n < 2 ^ 64
    → bare (free_name params (letter ∷ decimal n)) ≡ letter ∷ decimal n
bare_free params letter n other small =
    bare_primed (sum_by length params + 1 - length (letter ∷ decimal n)) params (letter ∷ decimal n) ∙ bare_numbered letter n other small

same_numbered : (params : List Name) (a b m n : ℕ) → a ≢ 39 → b ≢ 39 → m < 2 ^ 64 → n < 2 ^ 64
    → free_name params (a ∷ decimal m) ≡ free_name params (b ∷ decimal n) → a ∷ decimal m ≡ b ∷ decimal n
same_numbered params a b m n first second low high same =
    sym (bare_free params a m first low) ∙ ap bare same ∙ bare_free params b n second high

same_letters : (a b : ℕ) (x y : Name) → a ∷ x ≡ b ∷ y → a ≡ b
same_letters a b x y same = cc

same_digits : (a b : ℕ) (x y : Name) → a ∷ x ≡ b ∷ y → x ≡ y
same_digits a b x y same = cc

module _ (params : List Name) where
  -- other numbers behind one letter
  numbered_differs : (letter : ℕ) → letter ≢ 39 → (n first count : ℕ) → n < first → first + count ≤ 2 ^ 64
      → Differs (free_name params (letter ∷ decimal n)) (numbered params (letter ∷ []) first count)
  numbered_differs letter other n first zero below small = tt
  numbered_differs letter other n first (suc count) below small = (
    λ same. absurd (omega (arith, below, decimal_injective n first (omega arith) (omega arith) (same_digits letter letter _ _ (same_numbered params letter letter n first other other (omega arith) (omega arith) same)))),
    numbered_differs letter other n (first + 1) count (omega arith) (omega arith),
  )

  numbered_distinct : (letter : ℕ) → letter ≢ 39 → (first count : ℕ) → first + count ≤ 2 ^ 64
      → Distinct (numbered params (letter ∷ []) first count)
  numbered_distinct letter other first zero small = tt
  numbered_distinct letter other first (suc count) small = (numbered_differs letter other first (first + 1) count (omega arith) (omega arith), numbered_distinct letter other (first + 1) count (omega arith))

  -- other letters
  lettered_differs : (a b : ℕ) → a ≢ 39 → b ≢ 39 → a ≢ b → (n first count : ℕ) → n < 2 ^ 64 → first + count ≤ 2 ^ 64
      → Differs (free_name params (a ∷ decimal n)) (numbered params (b ∷ []) first count)
  lettered_differs a b one two other n first zero low small = tt
  lettered_differs a b one two other n first (suc count) low small =
      (λ same. other (same_letters a b _ _ (same_numbered params a b n first one two low (omega arith) same)), lettered_differs a b one two other n (first + 1) count low (omega arith))

  lettered_apart : (a b : ℕ) → a ≢ 39 → b ≢ 39 → a ≢ b → (first count other_first others : ℕ) → first + count ≤ 2 ^ 64
      → other_first + others ≤ 2 ^ 64
      → Apart (numbered params (a ∷ []) first count) (numbered params (b ∷ []) other_first others)
  lettered_apart a b one two other first zero other_first others small smaller = tt
  lettered_apart a b one two other first (suc count) other_first others small smaller =
      (lettered_differs a b one two other first other_first others (omega arith) smaller, lettered_apart a b one two other (first + 1) count other_first others (omega arith) smaller)

  -- the parameters
  params_apart : (letter : Name) (first count : ℕ) → Apart params (numbered params letter first count)
  params_apart letter first zero = apart-nil params
  params_apart letter first (suc count) =
      apart-append params (free_name params (letter ++ decimal first) ∷ []) (numbered params letter (first + 1) count)
      (apart_from params (free_name params (letter ++ decimal first)) (free_name_is_free params (letter ++ decimal first))) (params_apart letter (first + 1) count)

  pub coordinates_distinct : (space : SpaceForm) → coordinates_of space ≤ 2 ^ 32 → Distinct (coordinate_names params space)
  coordinates_distinct (set_of form) small = numbered_distinct 105 (λ e. absurd (omega (arith, e))) 0 (width_of form) (omega arith)
  coordinates_distinct (map_of from to) small =
      distinct-append (numbered params (codes "i") 0 (width_of from)) (numbered params (codes "o") 0 (width_of to))
      (numbered_distinct 105 (λ e. absurd (omega (arith, e))) 0 (width_of from) (omega arith))
      (numbered_distinct 111 (λ e. absurd (omega (arith, e))) 0 (width_of to) (omega arith))
      (lettered_apart 105 111 (λ e. absurd (omega (arith, e))) (λ e. absurd (omega (arith, e))) (λ e. absurd (omega (arith, e))) 0 (width_of from) 0 (width_of to) (omega arith) (omega arith))

  pub coordinates_apart : (space : SpaceForm) → Apart params (coordinate_names params space)
  coordinates_apart (set_of form) = params_apart (codes "i") 0 (width_of form)
  coordinates_apart (map_of from to) = apart-append params (numbered params (codes "i") 0 (width_of from)) (numbered params (codes "o") 0 (width_of to)) (params_apart (codes "i") 0 (width_of from)) (params_apart (codes "o") 0 (width_of to))

-- no two columns have one name
pub columns_distinct : (params : List Name) (space : SpaceForm) → AreDistinct params → coordinates_of space ≤ 2 ^ 32
    → Distinct (column_names params space)
columns_distinct params space distinct small = distinct-append params (coordinate_names params space) (distinct_from params distinct) (coordinates_distinct params space small) (coordinates_apart params space)

pub columns_are_distinct : (params : List Name) (space : SpaceForm) → AreDistinct params → coordinates_of space ≤ 2 ^ 32
    → AreDistinct (column_names params space)
columns_are_distinct params space distinct small = distinct_at (column_names params space) (columns_distinct params space distinct small)
