-- Elements of a map's space as two points, one behind the other.
use Rattle.std.proofs.Common.{◌≡◌, sym, ap, ap₂, ◌∙◌, arith, ℕ, ◌+◌, ℤ, List, ◌++◌, drop, length, take}
use Rattle.std.proofs.lemmas.List.{length-drop, length-take-le, take_all, take-append-drop}
use Rattle.isl_space.specs.Element.{Element}
use Rattle.isl_space.specs.Form.{Form, width_of}
use Rattle.isl_space.specs.SpaceForm.{SpaceForm}
use Rattle.isl_relation.specs.Point.{Point}

-- a list in two halves
pub halves : (m n : ℕ) (xs : List ℤ) → length xs ≡ m + n → take m xs ++ take n (drop m xs) ≡ xs
halves m n xs e =
    let behind = length-drop m xs in
    ap (λ l. take m xs ++ l) (take_all n (drop m xs) (omega arith)) ∙ take-append-drop m xs

pub element_is : (e : Element) (space : SpaceForm) (xs : List ℤ) → space ≡ e.space → xs ≡ e.coordinates
    → e ≡ record { space = space; coordinates = xs }
element_is e space xs s c = sym (ap₂ (λ t l. let f : Element = record { space = t; coordinates = l } in f) s c)

-- ---- two points behind one another
abbrev pub front : Form → List ℤ → Point
front x xs = record { form = x; numbers = take (width_of x) xs }

abbrev pub behind : Form → Form → List ℤ → Point
behind x y xs = record { form = y; numbers = take (width_of y) (drop (width_of x) xs) }

pub front_is : (x : Form) (n : ℕ) (xs : List ℤ) → length xs ≡ width_of x + n → length (take (width_of x) xs) ≡ width_of x
front_is x n xs wide = length-take-le (width_of x) xs (omega (arith, wide))

pub behind_is : (x y : Form) (xs : List ℤ) → length xs ≡ width_of x + width_of y
    → length (take (width_of y) (drop (width_of x) xs)) ≡ width_of y
behind_is x y xs wide =
    let rest = length-drop (width_of x) xs in
    length-take-le (width_of y) (drop (width_of x) xs) (omega (arith, wide, rest))
