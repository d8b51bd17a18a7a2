-- What the two sides of a printed form add up to.
use Rattle.std.proofs.Common.{◌≡◌, ◌+◌, ◌∙◌, ℕ, suc, ℤ, pos, negsuc, neg_ℤ, ◌+ℤ◌, ◌*ℤ◌, ◌≤ℤ◌, Bool, true, false, List, [], ◌∷◌, ◌++◌, None}
use Rattle.std.proofs.Common.{length, set, take, map, replicate, ap, ap₂, sym, subst, refl, arith}
use Rattle.std.specs.Prelude.{◌==◌, if◌then◌else◌, slice_index_or}
use Rattle.std.specs.List.{AllByRecursion}
use Rattle.std.proofs.lemmas.Bool.{eqb-true}
use Rattle.std.proofs.lemmas.List.{append_assoc, append-nil, length-append, length-replicate, get_or_at, set_at, replicate_more, take-append-le, take_all}
use Rattle.isl_math.proofs.Ring.{expand, linear}
use Rattle.isl_space.specs.Name.{Name}
use Rattle.isl_piece.specs.declared.row.RowKind.{RowKind}
use Rattle.isl_piece.specs.declared.row.Row.{Row}
use Rattle.isl_row_text.specs.declared.sum.Side.{Side}
use Rattle.isl_row_text.specs.declared.sum.Side.TheVariants.{Left, Right}
use Rattle.isl_print.specs.Sum.{Term, share, terms_of}
use Rattle.isl_tree.specs.declared.tree.Signed.{Signed}
use Rattle.isl_plain.specs.Linear.{Amount, Place, amount_of, amounts_of, turned, with_amount, with_amounts, row_of, multiplied_out}
use Rattle.isl_plain.specs.Linear.{difference}
use Rattle.isl_plain.specs.Rows.{Written, numbers_in, added}
use Rattle.isl_tree.specs.Term.{product_of}
use Rattle.isl_round_trip.specs.Tree.{term_tree, number_tree, constant_trees, sum_tree, side_tree}

-- the names have the columns from a first one on
abbrev pub PlacedFrom : Place → ℕ → List Name → Type 0
PlacedFrom place first [] = Unit {0}
PlacedFrom place first (name ∷ names) = (place name ≡ first) × PlacedFrom place (first + 1) names

-- what a side adds, or takes away
abbrev signed_share : Bool → Side → ℤ → ℤ
signed_share false side z = pos (share side z)
signed_share true side z = neg_ℤ (pos (share side z))

abbrev plus : List ℤ → List ℤ → List ℤ
plus (x ∷ xs) (y ∷ ys) = (x +ℤ y) ∷ plus xs ys
plus _ _ = []

abbrev shares : Bool → Side → List ℤ → List ℤ
shares takes side numbers = map (signed_share takes side) numbers

with_amounts-append : (row : List ℤ) (xs ys : List Amount) → with_amounts row (xs ++ ys) ≡ with_amounts (with_amounts row xs) ys
with_amounts-append row [] ys = refl
with_amounts-append row (a ∷ xs) ys = with_amounts-append (with_amount row a) xs ys

map-append_turned : (takes : Bool) (n : ℕ) (place : Place) (xs ys : List Signed) → map (turned takes) (amounts_of n place (xs ++ ys)) ≡ map (turned takes) (amounts_of n place xs) ++ map (turned takes) (amounts_of n place ys)
map-append_turned takes n place [] ys = refl
map-append_turned takes n place (x ∷ xs) ys = ap (λ l. turned takes (amount_of n place x) ∷ l) (map-append_turned takes n place xs ys)

with_amount_at : (front rest : List ℤ) (x z : ℤ) (at : ℕ) → at ≡ length front → with_amount (front ++ x ∷ rest) (at, z) ≡ front ++ (x +ℤ z) ∷ rest
with_amount_at front rest x z at is =
    ap (λ y. set (front ++ x ∷ rest) at (y +ℤ z)) (get_or_at front x rest (pos 0) at (sym is)) ∙ set_at front x rest (x +ℤ z) at (sym is)

-- ---- a term
coefficient : (c : ℕ) → product_of (if c == 1 then [] else pos c ∷ []) ≡ pos c
coefficient c = by (c == 1) refl
  where
    by : (q : Bool) → (c == 1) ≡ q → product_of (if q then [] else pos c ∷ []) ≡ pos c
    by true is = ap (λ n. pos n) (sym (eqb-true c 1 is))
    by false is = one (pos c)
      where
        one : (z : ℤ) → z *ℤ pos 1 ≡ z
        one z = simp expand (omega (arith, linear))

amount_of_term : (n : ℕ) (place : Place) (takes : Bool) (side : Side) (number : ℤ) (name : Name) → turned takes (amount_of n place (term_tree (share side number, name))) ≡ (place name, signed_share takes side number)
amount_of_term n place false side number name = ap (λ z. (place name, z)) (coefficient (share side number))
amount_of_term n place true side number name = ap (λ z. (place name, neg_ℤ z)) (coefficient (share side number))

nothing_added : (takes : Bool) (side : Side) (number x : ℤ) → (share side number == 0) ≡ true → x +ℤ signed_share takes side number ≡ x
nothing_added false side number x is = ap (λ s. x +ℤ pos s) (eqb-true (share side number) 0 is) ∙ omega (arith, linear)
nothing_added true side number x is = ap (λ s. x +ℤ neg_ℤ (pos s)) (eqb-true (share side number) 0 is) ∙ omega (arith, linear)

-- ---- the terms of a side, from a column on
terms_added : (n : ℕ) (place : Place) (takes : Bool) (side : Side) (names : List Name) (numbers xs front rest : List ℤ) → PlacedFrom place (length front) names
    → length names ≡ length numbers → length xs ≡ length numbers
    → with_amounts (front ++ (xs ++ rest)) (map (turned takes) (amounts_of n place (map term_tree (terms_of side names numbers)))) ≡ front ++ (plus xs (shares takes side numbers) ++ rest)
terms_added n place takes side [] [] [] front rest placed same long = refl
terms_added n place takes side [] [] (x ∷ xs) front rest placed same long = absurd (omega (arith, long))
terms_added n place takes side [] (c ∷ numbers) xs front rest placed same long = absurd (omega (arith, same))
terms_added n place takes side (name ∷ names) [] xs front rest placed same long = absurd (omega (arith, same))
terms_added n place takes side (name ∷ names) (c ∷ numbers) [] front rest placed same long = absurd (omega (arith, long))
terms_added n place takes side (name ∷ names) (c ∷ numbers) (x ∷ xs) front rest placed same long =
    let y = x +ℤ signed_share takes side c in
    let next : length (front ++ y ∷ []) ≡ length front + 1 = length-append front (y ∷ []) in
    let again = terms_added n place takes side names numbers xs (front ++ y ∷ []) rest (subst (λ (k : ℕ). PlacedFrom place k names) (sym next) placed.1) (omega (arith, same)) (omega (arith, long)) in
    let left : (front ++ y ∷ []) ++ (xs ++ rest) ≡ front ++ y ∷ (xs ++ rest) = append_assoc front (y ∷ []) (xs ++ rest) in
    let right : (front ++ y ∷ []) ++ (plus xs (shares takes side numbers) ++ rest) ≡ front ++ y ∷ (plus xs (shares takes side numbers) ++ rest) = append_assoc front (y ∷ []) (plus xs (shares takes side numbers) ++ rest) in
    let rest_is = ap (λ row. with_amounts row (map (turned takes) (amounts_of n place (map term_tree (terms_of side names numbers))))) (sym left) ∙ again ∙ right in
    by (share side c == 0) refl rest_is
  where
    by : (q : Bool) → (share side c == 0) ≡ q
        → with_amounts (front ++ (x +ℤ signed_share takes side c) ∷ (xs ++ rest)) (map (turned takes) (amounts_of n place (map term_tree (terms_of side names numbers)))) ≡ front ++ (x +ℤ signed_share takes side c) ∷ (plus xs (shares takes side numbers) ++ rest)
        → with_amounts (front ++ x ∷ (xs ++ rest)) (map (turned takes) (amounts_of n place (map term_tree (if q then terms_of side names numbers else (share side c, name) ∷ terms_of side names numbers))))
        ≡ front ++ (x +ℤ signed_share takes side c) ∷ (plus xs (shares takes side numbers) ++ rest)
    by true is again = ap (λ z. with_amounts (front ++ z ∷ (xs ++ rest)) (map (turned takes) (amounts_of n place (map term_tree (terms_of side names numbers))))) (sym (nothing_added takes side c x is)) ∙ again
    by false is again =
        ap (λ a. with_amounts (with_amount (front ++ x ∷ (xs ++ rest)) a) (map (turned takes) (amounts_of n place (map term_tree (terms_of side names numbers))))) (amount_of_term n place takes side c name)
        ∙ ap (λ row. with_amounts row (map (turned takes) (amounts_of n place (map term_tree (terms_of side names numbers))))) (with_amount_at front (xs ++ rest) x (signed_share takes side c) (place name) placed.0)
        ∙ again

-- ---- the constant
times_one : (z : ℤ) → z *ℤ pos 1 ≡ z
times_one z = simp expand (omega (arith, linear))

number_added : (n : ℕ) (place : Place) (takes : Bool) (c : ℕ) (xs : List ℤ) (y : ℤ) → n ≡ length xs
    → with_amount (xs ++ y ∷ []) (turned takes (amount_of n place (number_tree c))) ≡ xs ++ (y +ℤ (if takes then neg_ℤ (pos c) else pos c)) ∷ []
number_added n place false c xs y is = ap (λ z. with_amount (xs ++ y ∷ []) (n, z)) (times_one (pos c)) ∙ with_amount_at xs [] y (pos c) n is
number_added n place true c xs y is = ap (λ z. with_amount (xs ++ y ∷ []) (n, neg_ℤ z)) (times_one (pos c)) ∙ with_amount_at xs [] y (neg_ℤ (pos c)) n is

constant_added : (n : ℕ) (place : Place) (takes : Bool) (side : Side) (constant : ℤ) (xs : List ℤ) (y : ℤ) → n ≡ length xs
    → with_amounts (xs ++ y ∷ []) (map (turned takes) (amounts_of n place (constant_trees (share side constant)))) ≡ xs ++ (y +ℤ signed_share takes side constant) ∷ []
constant_added n place takes side constant xs y is = by (share side constant == 0) refl takes
  where
    by : (q : Bool) → (share side constant == 0) ≡ q → (t : Bool)
        → with_amounts (xs ++ y ∷ []) (map (turned t) (amounts_of n place (if q then [] else number_tree (share side constant) ∷ []))) ≡ xs ++ (y +ℤ signed_share t side constant) ∷ []
    by true none t = ap (λ z. xs ++ z ∷ []) (sym (nothing_added t side constant y none))
    by false some false = number_added n place false (share side constant) xs y is
    by false some true = number_added n place true (share side constant) xs y is

-- the 0 of a sum of nothing changes nothing
sum_added : (n : ℕ) (place : Place) (takes : Bool) (parts : List Signed) (xs : List ℤ) (y : ℤ) → n ≡ length xs
    → with_amounts (xs ++ y ∷ []) (map (turned takes) (amounts_of n place (sum_tree parts))) ≡ with_amounts (xs ++ y ∷ []) (map (turned takes) (amounts_of n place parts))
sum_added n place takes (part ∷ parts) xs y is = refl
sum_added n place false [] xs y is = number_added n place false 0 xs y is ∙ ap (λ z. xs ++ z ∷ []) (omega (arith, linear))
sum_added n place true [] xs y is = number_added n place true 0 xs y is ∙ ap (λ z. xs ++ z ∷ []) (omega (arith, linear))

length-plus : (xs ys : List ℤ) → length xs ≡ length ys → length (plus xs ys) ≡ length xs
length-plus [] [] same = refl
length-plus [] (y ∷ ys) same = refl
length-plus (x ∷ xs) [] same = absurd (omega (arith, same))
length-plus (x ∷ xs) (y ∷ ys) same = ap suc (length-plus xs ys (omega (arith, same)))

length-shares : (takes : Bool) (side : Side) (numbers : List ℤ) → length (shares takes side numbers) ≡ length numbers
length-shares takes side [] = refl
length-shares takes side (c ∷ numbers) = ap suc (length-shares takes side numbers)

-- a whole side
side_added : (n : ℕ) (place : Place) (takes : Bool) (side : Side) (names : List Name) (numbers : List ℤ) (constant : ℤ) (xs : List ℤ) (y : ℤ) → PlacedFrom place 0 names
    → length names ≡ length numbers → n ≡ length numbers → length xs ≡ length numbers
    → with_amounts (xs ++ y ∷ []) (map (turned takes) (amounts_of n place (side_tree side names numbers constant))) ≡ plus xs (shares takes side numbers) ++ (y +ℤ signed_share takes side constant) ∷ []
side_added n place takes side names numbers constant xs y placed same width long =
    let terms = map term_tree (terms_of side names numbers) in
    let last = constant_trees (share side constant) in
    let sums = plus xs (shares takes side numbers) in
    let whole : length sums ≡ length numbers = length-plus xs (shares takes side numbers) (long ∙ sym (length-shares takes side numbers)) ∙ long in
    sum_added n place takes (terms ++ last) xs y (width ∙ sym long)
    ∙ ap (with_amounts (xs ++ y ∷ [])) (map-append_turned takes n place terms last)
    ∙ with_amounts-append (xs ++ y ∷ []) (map (turned takes) (amounts_of n place terms)) (map (turned takes) (amounts_of n place last))
    ∙ ap (λ row. with_amounts row (map (turned takes) (amounts_of n place last))) (terms_added n place takes side names numbers xs [] (y ∷ []) placed same long)
    ∙ constant_added n place takes side constant sums y (width ∙ sym whole)

-- ---- both sides
whole_number : (z : ℤ) → (pos 0 +ℤ signed_share false Left z) +ℤ signed_share true Right z ≡ z
whole_number (pos n) = omega (arith, linear)
whole_number (negsuc n) = omega (arith, linear)

whole_numbers : (numbers : List ℤ) → plus (plus (replicate (length numbers) (pos 0)) (shares false Left numbers)) (shares true Right numbers) ≡ numbers
whole_numbers [] = refl
whole_numbers (c ∷ numbers) = ap (λ z. z ∷ plus (plus (replicate (length numbers) (pos 0)) (shares false Left numbers)) (shares true Right numbers)) (whole_number c) ∙ ap (λ l. c ∷ l) (whole_numbers numbers)

-- left less right is the form
form_added : (n : ℕ) (place : Place) (names : List Name) (numbers : List ℤ) (constant : ℤ) → PlacedFrom place 0 names → length names ≡ length numbers → n ≡ length numbers
    → row_of n (difference n place (side_tree Left names numbers constant) (side_tree Right names numbers constant) None) ≡ numbers ++ constant ∷ []
form_added n place names numbers constant placed same width =
    let zeros = replicate n (pos 0) in
    let left = map (turned false) (amounts_of n place (side_tree Left names numbers constant)) in
    let right = map (turned true) (amounts_of n place (side_tree Right names numbers constant)) in
    let long : length zeros ≡ length numbers = length-replicate n (pos 0) ∙ width in
    let once = plus zeros (shares false Left numbers) in
    let longer : length once ≡ length numbers = length-plus zeros (shares false Left numbers) (long ∙ sym (length-shares false Left numbers)) ∙ long in
    ap (λ row. with_amounts row (left ++ right ++ [])) (sym (replicate_more n (pos 0)))
    ∙ ap (with_amounts (zeros ++ pos 0 ∷ [])) (append-nil (left ++ right))
    ∙ with_amounts-append (zeros ++ pos 0 ∷ []) left right
    ∙ ap (λ row. with_amounts row right) (side_added n place false Left names numbers constant zeros (pos 0) placed same width long)
    ∙ side_added n place true Right names numbers constant once (pos 0 +ℤ signed_share false Left constant) placed same width longer
    ∙ ap (λ c. plus once (shares true Right numbers) ++ c ∷ []) (whole_number constant)
    ∙ ap (λ k. plus (plus (replicate k (pos 0)) (shares false Left numbers)) (shares true Right numbers) ++ constant ∷ []) width
    ∙ ap (λ l. l ++ constant ∷ []) (whole_numbers numbers)

-- a form without negative numbers stands on the left whole
NotNegative : ℤ → Type 0
NotNegative z = pos 0 ≤ℤ z

left_number : (z : ℤ) → NotNegative z → pos 0 +ℤ signed_share false Left z ≡ z
unfolding NotNegative
left_number (pos n) large = omega (arith, linear)
left_number (negsuc n) large = absurd (omega (arith, linear, large))

left_numbers : (numbers : List ℤ) → AllByRecursion NotNegative numbers → plus (replicate (length numbers) (pos 0)) (shares false Left numbers) ≡ numbers
left_numbers [] all = refl
left_numbers (c ∷ numbers) all =
    ap (λ z. z ∷ plus (replicate (length numbers) (pos 0)) (shares false Left numbers)) (left_number c all.0) ∙ ap (λ l. c ∷ l) (left_numbers numbers all.1)

left_added : (n : ℕ) (place : Place) (names : List Name) (numbers : List ℤ) (constant : ℤ) → PlacedFrom place 0 names → length names ≡ length numbers → n ≡ length numbers
    → AllByRecursion NotNegative numbers → NotNegative constant
    → row_of n (difference n place (side_tree Left names numbers constant) [] None) ≡ numbers ++ constant ∷ []
left_added n place names numbers constant placed same width all large =
    let zeros = replicate n (pos 0) in
    let left = map (turned false) (amounts_of n place (side_tree Left names numbers constant)) in
    let long : length zeros ≡ length numbers = length-replicate n (pos 0) ∙ width in
    ap (λ row. with_amounts row (left ++ [] ++ [])) (sym (replicate_more n (pos 0)))
    ∙ ap (with_amounts (zeros ++ pos 0 ∷ [])) (append-nil (left ++ []) ∙ append-nil left)
    ∙ side_added n place false Left names numbers constant zeros (pos 0) placed same width long
    ∙ ap (λ c. plus zeros (shares false Left numbers) ++ c ∷ []) (left_number constant large)
    ∙ ap (λ k. plus (replicate k (pos 0)) (shares false Left numbers) ++ constant ∷ []) width
    ∙ ap (λ l. l ++ constant ∷ []) (left_numbers numbers all)

-- a row whose numbers are those of another is that row
row_is : (n : ℕ) (place : Place) (w : Written) (row : Row) → n ≡ length row.coefs → w.kind ≡ row.kind → w.modulus ≡ row.k
    → numbers_in n place w ≡ row.coefs ++ row.constant ∷ [] → added n place w ≡ row
row_is n place w row width kind modulus form =
    let columns : take n (row.coefs ++ row.constant ∷ []) ≡ row.coefs = take-append-le n row.coefs (row.constant ∷ []) (omega (arith, width)) ∙ take_all n row.coefs (omega (arith, width)) in
    let last : slice_index_or (row.coefs ++ row.constant ∷ []) n (pos 0) ≡ row.constant = get_or_at row.coefs row.constant [] (pos 0) n (sym width) in
    ap (λ l. let x : Row = record { kind = w.kind; coefs = take n l; constant = slice_index_or l n (pos 0); k = w.modulus } in x) form
    ∙ made row w.kind (take n (row.coefs ++ row.constant ∷ [])) (slice_index_or (row.coefs ++ row.constant ∷ []) n (pos 0)) w.modulus kind columns last modulus
  where
    made : (r : Row) (kind : RowKind) (cs : List ℤ) (c k : ℤ) → kind ≡ r.kind → cs ≡ r.coefs → c ≡ r.constant → k ≡ r.k → record { kind = kind; coefs = cs; constant = c; k = k } ≡ r
    made r kind cs c k a d e b =
        ap (λ l. let x : Row = record { kind = kind; coefs = l; constant = c; k = k } in x) d
        ∙ ap (λ z. let x : Row = record { kind = kind; coefs = r.coefs; constant = z; k = k } in x) e
        ∙ ap (λ q. let x : Row = record { kind = q; coefs = r.coefs; constant = r.constant; k = k } in x) a
        ∙ ap (λ z. let x : Row = record { kind = r.kind; coefs = r.coefs; constant = r.constant; k = z } in x) b

-- ---- no brackets stand in a side
flat_terms : (terms : List Term) (rest : List Signed) → multiplied_out rest ≡ rest
    → multiplied_out (map term_tree terms ++ rest) ≡ map term_tree terms ++ rest
flat_terms [] rest flat = flat
flat_terms (term ∷ terms) rest flat = ap (λ (parts : List Signed). term_tree term ∷ parts) (flat_terms terms rest flat)

flat_constant : (c : ℕ) → multiplied_out (constant_trees c) ≡ constant_trees c
flat_constant c = by (c == 0)
  where
    by : (q : Bool) → multiplied_out (if q then [] else number_tree c ∷ []) ≡ (if q then [] else number_tree c ∷ [])
    by true = refl
    by false = refl

flat_sum : (parts : List Signed) → multiplied_out parts ≡ parts → multiplied_out (sum_tree parts) ≡ sum_tree parts
flat_sum [] flat = refl
flat_sum (part ∷ parts) flat = flat

flat_side : (side : Side) (names : List Name) (numbers : List ℤ) (constant : ℤ)
    → multiplied_out (side_tree side names numbers constant) ≡ side_tree side names numbers constant
flat_side side names numbers constant =
    flat_sum (map term_tree (terms_of side names numbers) ++ constant_trees (share side constant))
    (flat_terms (terms_of side names numbers) (constant_trees (share side constant)) (flat_constant (share side constant)))

-- and so the two sides write the row
pub row_added : (n : ℕ) (place : Place) (names : List Name) (row : Row) (w : Written) → PlacedFrom place 0 names → length names ≡ length row.coefs → n ≡ length row.coefs
    → w.kind ≡ row.kind → w.modulus ≡ row.k → w.greater ≡ side_tree Left names row.coefs row.constant
    → w.less ≡ side_tree Right names row.coefs row.constant → w.last ≡ None → added n place w ≡ row
row_added n place names row w placed same width kind modulus greater less last =
    row_is n place w row width kind modulus
    (rw (greater, less, last)
    (ap₂ (λ (l r : List Signed). row_of n (difference n place l r None)) (flat_side Left names row.coefs row.constant)
    (flat_side Right names row.coefs row.constant)
    ∙ form_added n place names row.coefs row.constant placed same width))

-- and the left side alone, where no number is negative
pub left_row_added : (n : ℕ) (place : Place) (names : List Name) (row : Row) (w : Written) → PlacedFrom place 0 names → length names ≡ length row.coefs → n ≡ length row.coefs
    → AllByRecursion (λ c. pos 0 ≤ℤ c) row.coefs → pos 0 ≤ℤ row.constant
    → w.kind ≡ row.kind → w.modulus ≡ row.k → w.greater ≡ side_tree Left names row.coefs row.constant
    → w.less ≡ [] → w.last ≡ None → added n place w ≡ row
unfolding NotNegative
left_row_added n place names row w placed same width all large kind modulus greater less last =
    row_is n place w row width kind modulus
    (rw (greater, less, last)
    (ap (λ (l : List Signed). row_of n (difference n place l [] None)) (flat_side Left names row.coefs row.constant)
    ∙ left_added n place names row.coefs row.constant placed same width all large))
