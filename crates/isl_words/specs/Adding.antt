-- inner: how bindings are read, one after the other.
use Rattle.std.specs.Prelude.{ℕ, ℤ, Bool, if◌then◌else◌, List, [], ◌∷◌, ◌++◌, Option, Some, None, option_and_then}
use Rattle.std.specs.List.{list_any}
use Rattle.std.specs.Str.{bytes_eq}
use Rattle.isl_space.specs.Name.{Name}
use Rattle.isl_words.specs.Binding.{binding}

-- the name has a number among these
abbrev pub is_given : List (Name × ℤ) → Name → Bool
is_given found name = list_any (λ given. bytes_eq name given.0) found

-- the bindings and one more, unless there is none or its name stands already
abbrev pub added : List (Name × ℤ) → Option (Name × ℤ) → Option (List (Name × ℤ))
added found None = None
added found (Some given) = if is_given found given.0 then None else Some (found ++ given ∷ [])

-- the bindings and those of the parts
unfoldable pub all_added : ℕ → List (Name × ℤ) → List (List ℕ) → Option (List (Name × ℤ))
all_added limit found [] = Some found
all_added limit found (part ∷ parts) = option_and_then (λ more. all_added limit more parts) (added found (binding limit part))
