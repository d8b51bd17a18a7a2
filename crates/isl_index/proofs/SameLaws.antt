-- The tests of forms and of spaces find exactly those that are equal.
use Rattle.std.proofs.Common.{◌≡◌, refl, ap, ap₂, true, ◌&&◌, Option, Some, None}
use Rattle.std.specs.Option.{option_eq}
use Rattle.std.specs.Str.{bytes_eq}
use borrow.Author.Tests.{eqb-true, eq-eqb}
use Rattle.std.proofs.lemmas.Bool.{and_parts, false≢true}
use Rattle.std.proofs.lemmas.Slice.Eq.{bytes_eq-Decides}
use Rattle.isl_space.specs.Form.{Form, leaf, pair}
use Rattle.isl_space.specs.Name.{Name}
use Rattle.isl_space.specs.SpaceForm.{SpaceForm, set_of, map_of}
use Rattle.isl_index.specs.Same.{is_same_form, is_same_space}

name_is : (a b : Option Name) → option_eq bytes_eq a b ≡ true → a ≡ b
name_is None None e = refl
name_is None (Some b) e = absurd (false≢true e)
name_is (Some a) None e = absurd (false≢true e)
name_is (Some a) (Some b) e = ap Some ((bytes_eq-Decides a b).0 e)

name_itself : (a : Option Name) → option_eq bytes_eq a a ≡ true
name_itself None = refl
name_itself (Some a) = (bytes_eq-Decides a a).1 refl

pub form_is : (a b : Form) → is_same_form a b ≡ true → a ≡ b
form_is (leaf a m) (leaf b n) e = let p = and_parts _ _ e in ap₂ leaf (name_is a b p.0) (eqb-true m n p.1)
form_is (leaf a m) (pair c d) e = absurd (false≢true e)
form_is (pair a b) (leaf c n) e = absurd (false≢true e)
form_is (pair a b) (pair c d) e = let p = and_parts _ _ e in ap₂ pair (form_is a c p.0) (form_is b d p.1)

pub form_itself : (a : Form) → is_same_form a a ≡ true
form_itself (leaf a m) = ap₂ (λ x y. x && y) (name_itself a) (eq-eqb m m refl)
form_itself (pair a b) = ap₂ (λ x y. x && y) (form_itself a) (form_itself b)

pub space_is : (a b : SpaceForm) → is_same_space a b ≡ true → a ≡ b
space_is (set_of a) (set_of b) e = ap set_of (form_is a b e)
space_is (set_of a) (map_of c d) e = absurd (false≢true e)
space_is (map_of a b) (set_of c) e = absurd (false≢true e)
space_is (map_of a b) (map_of c d) e = let p = and_parts _ _ e in ap₂ map_of (form_is a c p.0) (form_is b d p.1)

pub space_itself : (a : SpaceForm) → is_same_space a a ≡ true
space_itself (set_of a) = form_itself a
space_itself (map_of a b) = ap₂ (λ x y. x && y) (form_itself a) (form_itself b)
