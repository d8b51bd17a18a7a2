-- The numbers of names at a valuation.
use Rattle.std.proofs.Common.{◌≡◌, ◌≢◌, ◌<◌, ◌∙◌, ℕ, suc, zero, ℤ, pos, true, false, List, [], ◌∷◌, Some, All, length, get_or, take, filter}
use Rattle.std.proofs.Common.{not, slice_get, slice_index, arith, ap, sym, refl}
use Rattle.std.specs.List.{zip}
use Rattle.std.specs.Str.{bytes_eq}
use Rattle.std.proofs.lemmas.Bool.{false_from_ne_true}
use Rattle.std.proofs.lemmas.List.{map-append, length-map, take_at}
use Rattle.std.proofs.lemmas.List.Elements.{All-head, All-tail}
use Rattle.std.proofs.lemmas.Option.{slice_get-get_or, same_Some}
use Rattle.std.proofs.lemmas.Slice.Eq.{bytes_eq-Decides}
use Rattle.isl_space.specs.Name.{Name}
use Rattle.isl_space.specs.Names.{AreDistinct, ArePlaces, joined, is_among}
use Rattle.isl_space.specs.Valuation.{Valuation, value_at, values_of}

pub length-values_of : (names : List Name) (v : Valuation) → length (values_of names v) ≡ length names
length-values_of names v = length-map names (λ n. value_at v n)

-- one number for each name, at its place
pub get_or-values_of : (names : List Name) (v : Valuation) (i : ℕ) (n : Name) → slice_get names i ≡ Some n
    → get_or (values_of names v) i (pos 0) ≡ value_at v n
get_or-values_of [] v i n is = cc
get_or-values_of (m ∷ names) v zero n is = ap (value_at v) (same_Some m n is)
get_or-values_of (m ∷ names) v (suc i) n is = get_or-values_of names v i n is

-- the first list keeps its numbers at the front of a joined list's
pub values_of-joined : (names others : List Name) (v : Valuation)
    → take (length names) (values_of (joined names others) v) ≡ values_of names v
values_of-joined names others v =
    ap (λ l. take (length names) l) (map-append (λ n. value_at v n) names (filter (λ n. not (is_among names n)) others))
    ∙ take_at (values_of names v) _ (length names) (length-values_of names v)

-- and the second list finds its numbers at its places
pub values_of-places : (all others : List Name) (places : List ℕ) (v : Valuation) (i : ℕ) → ArePlaces all others places → i < length others
    → get_or (values_of all v) (slice_index places i) (pos 0) ≡ get_or (values_of others v) i (pos 0)
values_of-places all others places v i are within =
    let here = slice_get-get_or others i [] within in
    get_or-values_of all v (slice_index places i) _ (are.at i within ∙ here) ∙ sym (get_or-values_of others v i _ here)

-- a number of a name that is none of these changes none of theirs
values_of-passing : (names : List Name) (n : Name) (number : ℤ) (v : Valuation) → All (λ m. n ≢ m) names
    → values_of names ((n, number) ∷ v) ≡ values_of names v
values_of-passing [] n number v other = refl
values_of-passing (m ∷ names) n number v other =
    let differs : bytes_eq n m ≡ false = false_from_ne_true
    _ (λ same. All-head (λ m. n ≢ m) m names other ((bytes_eq-Decides n m).0 same)) in
    rw differs (ap (λ l. value_at v m ∷ l) (values_of-passing names n number v (All-tail (λ m. n ≢ m) m names other)))

-- distinct names can have any numbers: the names beside the numbers are a valuation that gives them
pub values_of-zip : (names : List Name) (numbers : List ℤ) → AreDistinct names → length names ≡ length numbers
    → values_of names (zip names numbers) ≡ numbers
values_of-zip [] [] distinct equal = refl
values_of-zip [] (number ∷ numbers) distinct equal = absurd (omega arith)
values_of-zip (n ∷ names) [] distinct equal = absurd (omega arith)
values_of-zip (n ∷ names) (number ∷ numbers) distinct equal =
    let itself : bytes_eq n n ≡ true = (bytes_eq-Decides n n).1 refl in
    let others : All (λ m. n ≢ m) names = (λ i d within. distinct 0 (suc i) d (omega arith) (omega arith)) in
    let rest = values_of-zip names numbers (λ i j d before within. distinct (suc i) (suc j) d (omega arith) (omega arith)) (omega arith) in
    rw itself (ap (λ l. number ∷ l) (values_of-passing names n number (zip names numbers) others ∙ rest))
