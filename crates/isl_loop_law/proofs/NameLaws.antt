-- The names of the columns inside of loops are distinct, and are names.
use Rattle.std.proofs.Common.{◌≡◌, ◌≢◌, ◌<◌, ◌≤◌, ◌+◌, ◌-◌, ◌∙◌, ◌^◌, ℕ, zero, suc, Bool, true, false, List, [], ◌∷◌, ◌++◌, All, length}
use Rattle.std.proofs.Common.{get_or}
use Rattle.std.proofs.Common.{sym, refl, arith, lit<}
use Rattle.std.specs.Prelude.{codes, if◌then◌else◌}
use Rattle.std.specs.Char.{is_ascii_digit}
use Rattle.std.specs.Fmt.{decimal}
use Rattle.std.specs.List.{sum_by, AllByRecursion}
use Rattle.std.proofs.lemmas.List.{append_assoc, append-nil, length-append}
use Rattle.std.proofs.lemmas.List.Elements.{recursion_from_All}
use Rattle.isl_space.specs.Name.{Name, IsLiteralName}
use Rattle.isl_space.specs.Names.{AreDistinct, is_among}
use Rattle.isl_space.proofs.DistinctLaws.{Differs, Distinct, Apart, apart-append, apart-nil, apart_from, distinct-append, distinct_from}
use Rattle.isl_row_text.specs.Joined.{Text}
use Rattle.isl_row_text.specs.Naming.{primed, numbered}
use Rattle.isl_row_text.proofs.DistinctLaws.{free_name_is_free}
use Rattle.isl_row_text.proofs.LiteralNameLaws.{free_name_named}
use Rattle.isl_row_text.proofs.NamingLaws.{length-numbered}
use Rattle.isl_loop_text.specs.LoopText.{variable, names_inside}
use Rattle.isl_loop_law.proofs.WordLaws.{StopsAt, tails, decimals, IsNaming, naming}

-- ---- distinct
-- primes are no digits
primes_behind : (most : ℕ) (others : List Name) (name : Name) → (z : Text) × (primed most others name ≡ name ++ z)
    × StopsAt is_ascii_digit z
primes_behind zero others name = ([], sym (append-nil name), refl)
primes_behind (suc most) others name = by (is_among others name) (primes_behind most others (name ++ codes "'"))
  where
    by : (q : Bool) → (z : Text) × (primed most others (name ++ codes "'") ≡ (name ++ codes "'") ++ z) × StopsAt is_ascii_digit z
        → (z : Text) × ((if q then primed most others (name ++ codes "'") else name) ≡ name ++ z) × StopsAt is_ascii_digit z
    by true again = (39 ∷ again.0, again.1 ∙ append_assoc name (codes "'") again.0, refl)
    by false again = ([], sym (append-nil name), refl)

pub wider : (n : ℕ) → n < 2 ^ 64 → n < 10 ^ 64
wider n small = let more : 2 ^ 64 < 10 ^ 64 = lit< tt in omega (arith, small, more)

variable_same : (params : List Name) (m n : ℕ) → m < 2 ^ 64 → n < 2 ^ 64 → variable params m ≡ variable params n → m ≡ n
variable_same params m n low high same =
    let first = primes_behind (sum_by length params + 1 - length (99 ∷ decimal m)) params (99 ∷ decimal m) in
    let second = primes_behind (sum_by length params + 1 - length (99 ∷ decimal n)) params (99 ∷ decimal n) in
    let whole : 99 ∷ decimal m ++ first.0 ≡ 99 ∷ decimal n ++ second.0 = sym first.1 ∙ same ∙ second.1 in
    let parts = decimals m n first.0 second.0 (wider m low) (wider n high) first.2 second.2
    (tails 99 99 (decimal m ++ first.0) (decimal n ++ second.0) whole) in
    parts.0

module _ (params : List Name) where
  variable_differs : (n first count : ℕ) → n < first → first + count ≤ 2 ^ 64
      → Differs (variable params n) (numbered params (codes "c") first count)
  variable_differs n first zero below small = tt
  variable_differs n first (suc count) below small = (
    λ same. let equal = variable_same params n first (omega (arith, below, small)) (omega (arith, small)) same in absurd
        (omega (arith, below, equal)),
    variable_differs n (first + 1) count (omega (arith, below)) (omega (arith, small)),
  )

  variables_distinct : (first count : ℕ) → first + count ≤ 2 ^ 64 → Distinct (numbered params (codes "c") first count)
  variables_distinct first zero small = tt
  variables_distinct first (suc count) small = (
    variable_differs first (first + 1) count (omega arith) (omega (arith, small)),
    variables_distinct (first + 1) count
        (omega (arith, small)),
  )

  variables_apart : (first count : ℕ) → Apart params (numbered params (codes "c") first count)
  variables_apart first zero = apart-nil params
  variables_apart first (suc count) =
      apart-append params (variable params first ∷ []) (numbered params (codes "c") (first + 1) count)
      (apart_from params (variable params first) (free_name_is_free params (codes "c" ++ decimal first)))
      (variables_apart (first + 1) count)

  pub inside_distinct : (depth : ℕ) → depth ≤ 2 ^ 64 → AreDistinct params → Distinct (names_inside params depth)
  inside_distinct depth small distinct =
      distinct-append params (numbered params (codes "c") 0 depth) (distinct_from params distinct)
      (variables_distinct 0 depth (omega (arith, small)))
      (variables_apart 0 depth)

  -- ---- names
  pub variable_named : (n : ℕ) → n < 2 ^ 64 → IsNaming (variable params n)
  variable_named n small = naming (variable params n) (free_name_named params 99 n refl refl small)

  variables_named : (first count : ℕ) → first + count ≤ 2 ^ 64 → AllByRecursion IsNaming (numbered params (codes "c") first count)
  variables_named first zero small = tt
  variables_named first (suc count) small =
      (variable_named first (omega (arith, small)), variables_named (first + 1) count (omega (arith, small)))

  pub length-inside : (depth : ℕ) → length (names_inside params depth) ≡ length params + depth
  length-inside depth =
      let all = length-append params (numbered params (codes "c") 0 depth) in
      let variables = length-numbered params (codes "c") 0 depth in
      omega (arith, all, variables)

all_append : (xs ys : List Name) → AllByRecursion IsLiteralName xs → AllByRecursion IsNaming ys → AllByRecursion IsNaming (xs ++ ys)
all_append [] ys named all = all
all_append (x ∷ xs) ys named all = (naming x named.0, all_append xs ys named.1 all)

pub inside_named : (params : List Name) (depth : ℕ) → depth ≤ 2 ^ 64 → All IsLiteralName params
    → AllByRecursion IsNaming (names_inside params depth)
inside_named params depth small named =
    all_append params (numbered params (codes "c") 0 depth) (recursion_from_All IsLiteralName params named)
    (variables_named params 0 depth (omega (arith, small)))

-- ---- places
pub name_at : (names : List Name) (place : ℕ) → AllByRecursion IsNaming names → place < length names → IsNaming (get_or names place [])
name_at [] place all low = absurd (omega (arith, low))
name_at (name ∷ names) zero all low = all.0
name_at (name ∷ names) (suc place) all low = name_at names place all.1 (omega (arith, low))

differs_there : (name : Name) (names : List Name) (place : ℕ) → Differs name names → place < length names → name ≢ get_or names place []
differs_there name [] place differs low = absurd (omega (arith, low))
differs_there name (other ∷ names) zero differs low = differs.0
differs_there name (other ∷ names) (suc place) differs low = differs_there name names place differs.1 (omega (arith, low))

pub place_same : (names : List Name) (p q : ℕ) → Distinct names → p < length names → q < length names
    → get_or names p [] ≡ get_or names q [] → p ≡ q
place_same [] p q distinct low high same = absurd (omega (arith, low))
place_same (name ∷ names) zero zero distinct low high same = refl
place_same (name ∷ names) zero (suc q) distinct low high same = absurd (differs_there name names q distinct.0 (omega (arith, high)) same)
place_same (name ∷ names) (suc p) zero distinct low high same =
    absurd (differs_there name names p distinct.0 (omega (arith, low)) (sym same))
place_same (name ∷ names) (suc p) (suc q) distinct low high same =
    let rest = place_same names p q distinct.1 (omega (arith, low)) (omega (arith, high)) same in omega (arith, rest)
