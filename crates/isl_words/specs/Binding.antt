-- public: names with numbers, as the command line gives them.
use Rattle.std.specs.Prelude.{◌≡◌, ℕ, ℤ, ◌==◌, Bool, if◌then◌else◌, List, map, Option, Some, None, option_map}
use Rattle.std.specs.List.{slice_split, before_first, after_first}
use Rattle.isl_space.specs.Name.{Name, is_identifier}
use Rattle.isl_space.specs.Names.{AreDistinct}
use Rattle.isl_words.specs.Number.{whole}

abbrev pub is_equals : ℕ → Bool
is_equals b = b == 61

abbrev pub is_comma : ℕ → Bool
is_comma b = b == 44

-- NAME=INT: an identifier stands before the first `=`, and a whole number within the limit behind it
abbrev pub binding : ℕ → List ℕ → Option (Name × ℤ)
binding limit text =
    let name = before_first is_equals text in
    if is_identifier name then option_map (λ z. (name, z)) (whole limit (after_first is_equals text)) else None

-- NAME=INT,..: each of the parts between the commas is a binding, these in their order, and no name stands twice
pub record AreBindings (limit : ℕ) (text : List ℕ) (at : List (Name × ℤ)) : Type 0 where
  pub each : map (binding limit) (slice_split is_comma text) ≡ map (λ given. Some given) at
  pub distinct : AreDistinct (map (λ given. given.0) at)
