-- Points whose numbers stand behind one another in one list.
use Rattle.std.proofs.Common.{◌≡◌, ◌∙◌, refl, sym, ap, arith, ℕ, zero, suc, ◌+◌, ◌*◌, ◌/◌, ◌<◌, ◌≤◌, ℤ, List, [], ◌∷◌, ◌++◌, length, get_or}
use Rattle.std.proofs.Common.{take, drop}
use Rattle.std.specs.List.{All}
use Rattle.std.proofs.lemmas.List.{append_assoc, length-append, drop-drop, take_at, drop_at, length-drop, length-take-le}
use Rattle.std.proofs.lemmas.List.Elements.{All-cons, All-head, All-nil, All-tail}
use Rattle.isl_points.specs.Flat.{laid_out, points_in}

pub length-points_in : (width count : ℕ) (numbers : List ℤ) → length (points_in width count numbers) ≡ count
length-points_in width zero numbers = refl
length-points_in width (suc count) numbers = ap suc (length-points_in width count (drop width numbers))

-- one of them
pub get_or-points_in : (width count i : ℕ) (numbers : List ℤ) (d : List ℤ) → i < count
    → get_or (points_in width count numbers) i d ≡ take width (drop (i * width) numbers)
get_or-points_in width zero i numbers d low = absurd (omega arith)
get_or-points_in width (suc count) zero numbers d low = let e : 0 ≡ 0 * width = omega arith in ap (λ (n : ℕ). take width (drop n numbers)) e
get_or-points_in width (suc count) (suc i) numbers d low =
    let e : width + i * width ≡ suc i * width = omega arith in
    get_or-points_in width count i (drop width numbers) d (omega arith)
    ∙ ap (λ (l : List ℤ). take width l) (drop-drop (i * width) width numbers)
    ∙ ap (λ (n : ℕ). take width (drop n numbers)) e

-- it lies within the list
pub within_list : (i count width : ℕ) → i < count → i * width + width ≤ count * width
within_list zero zero width low = absurd (omega arith)
within_list (suc i) zero width low = absurd (omega arith)
within_list zero (suc count) width low = omega arith
within_list (suc i) (suc count) width low = let rest = within_list i count width (omega arith) in omega (arith, rest)

-- all have the width
pub all-points_in : (width count : ℕ) (numbers : List ℤ) → length numbers ≡ count * width
    → All (λ p. length p ≡ width) (points_in width count numbers)
all-points_in width zero numbers long = All-nil (λ p. length p ≡ width)
all-points_in width (suc count) numbers long =
    All-cons (λ p. length p ≡ width) (take width numbers) (points_in width count (drop width numbers))
    (length-take-le width numbers (omega (arith, long)))
    (all-points_in width count (drop width numbers) (let n = length-drop width numbers in omega (arith, n, long)))

-- ---- points laid out
pub laid_out-append : (xs ys : List (List ℤ)) → laid_out (xs ++ ys) ≡ laid_out xs ++ laid_out ys
laid_out-append [] ys = refl
laid_out-append (x ∷ xs) ys =
    ap (λ (l : List ℤ). x ++ l) (laid_out-append xs ys) ∙ sym (append_assoc x (laid_out xs) (laid_out ys))

pub length-laid_out : (width : ℕ) (points : List (List ℤ)) → All (λ p. length p ≡ width) points
    → length (laid_out points) ≡ length points * width
length-laid_out width [] w = omega arith
length-laid_out width (p ∷ points) w =
    let own = All-head (λ q. length q ≡ width) p points w in
    let rest = length-laid_out width points (All-tail (λ q. length q ≡ width) p points w) in
    let both = length-append p (laid_out points) in
    omega (arith, own, rest, both)

pub points_in-laid_out : (width : ℕ) (points : List (List ℤ)) → All (λ p. length p ≡ width) points
    → points_in width (length points) (laid_out points) ≡ points
points_in-laid_out width [] w = refl
points_in-laid_out width (p ∷ points) w =
    let own = All-head (λ q. length q ≡ width) p points w in
    let rest = points_in-laid_out width points (All-tail (λ q. length q ≡ width) p points w) in
    ap (λ (q : List ℤ). q ∷ points_in width (length points) (drop width (p ++ laid_out points))) (take_at p (laid_out points) width own)
    ∙ ap (λ (l : List ℤ). p ∷ points_in width (length points) l) (drop_at p (laid_out points) width own)
    ∙ ap (λ (ps : List (List ℤ)). p ∷ ps) rest

-- how many points so many numbers are
pub count_is : (width n : ℕ) → 0 < width → n * width / width ≡ n
count_is width n some = grind arith

-- a place that a list of points has
pub place_low : (width count place : ℕ) (numbers : List ℤ) (points : List (List ℤ)) → points_in width count numbers ≡ points
    → place < length points → place < count
place_low width count place numbers points is low =
    let n = length-points_in width count numbers in
    let same = ap (λ (ps : List (List ℤ)). length ps) is in
    omega (arith, n, same, low)

pub place_within : (width count place : ℕ) (numbers : List ℤ) (points : List (List ℤ)) → length numbers ≡ count * width
    → points_in width count numbers ≡ points → place < length points → place * width + width ≤ length numbers
place_within width count place numbers points long is low =
    let within = within_list place count width (place_low width count place numbers points is low) in
    omega (arith, within, long)
