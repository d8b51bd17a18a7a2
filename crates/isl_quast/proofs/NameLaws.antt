-- How many names the columns of a space have.
use Rattle.std.proofs.Common.{◌≡◌, ◌≤◌, ◌+◌, ◌-◌, ◌∙◌, ℕ, List, length, take, drop, ap, arith}
use Rattle.std.specs.Prelude.{codes}
use Rattle.std.proofs.lemmas.List.{length-append, length-drop, length-take}
use Rattle.isl_space.specs.Name.{Name}
use Rattle.isl_space.specs.Form.{width_of}
use Rattle.isl_space.specs.SpaceForm.{SpaceForm, set_of, map_of, coordinates_of}
use Rattle.isl_row_text.specs.Naming.{numbered, coordinate_names, column_names}
use Rattle.isl_row_text.proofs.NamingLaws.{length-numbered}

length-coordinate_names : (params : List Name) (space : SpaceForm) → length (coordinate_names params space) ≡ coordinates_of space
length-coordinate_names params (set_of form) = length-numbered params (codes "i") 0 (width_of form)
length-coordinate_names params (map_of from to) =
    let a = length-numbered params (codes "i") 0 (width_of from) in
    let b = length-numbered params (codes "o") 0 (width_of to) in
    omega (arith, length-append (numbered params (codes "i") 0 (width_of from)) (numbered params (codes "o") 0 (width_of to)))

-- behind those of the parameters
pub names_enough : (params names : List Name) (space : SpaceForm) (count : ℕ) → names ≡ column_names params space → count ≡ length params
    → coordinates_of space ≤ length (take (length names - count) (drop count names))
names_enough params names space count is counted =
    let len : length names ≡ length params + coordinates_of space =
    ap length is ∙ length-append params (coordinate_names params space) ∙ ap (λ n. length params + n) (length-coordinate_names params space) in
    omega (arith, length-take (length names - count) (drop count names), length-drop count names)
