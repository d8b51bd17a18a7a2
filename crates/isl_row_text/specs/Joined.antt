-- public: texts put together.
use Rattle.std.specs.Prelude.{ℕ, List, [], ◌∷◌, ◌++◌}

abbrev pub Text : Type 0
Text = List ℕ

-- the texts, with the separator before each
abbrev pub each_after : Text → List Text → Text
each_after separator [] = []
each_after separator (text ∷ texts) = separator ++ text ++ each_after separator texts

-- the texts, with the separator between them
abbrev pub joined_by : Text → List Text → Text
joined_by separator [] = []
joined_by separator (text ∷ texts) = text ++ each_after separator texts
