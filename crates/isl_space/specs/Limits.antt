-- public: the limits of this calculator.
use Rattle.std.specs.Prelude.{ℕ}

-- the most parameters that a value, or a literal, declares
abbrev pub most_parameters : ℕ
most_parameters = 16

-- the most coordinates of an element, those of a map's two places counted together
abbrev pub most_coordinates : ℕ
most_coordinates = 64

-- the most leaves of a space, those of a map's two places counted together
abbrev pub most_leaves : ℕ
most_leaves = 64

-- the most variables that a piece of a literal binds
abbrev pub most_bound : ℕ
most_bound = 64

-- the deepest that brackets, and words before an operand, are nested
abbrev pub most_depth : ℕ
most_depth = 200

-- the most bytes of a statement, blanks and comments counted and its `;` not, and of the rest
abbrev pub most_statement_bytes : ℕ
most_statement_bytes = 1048576

-- the most bytes of a script that belong to its statements and its rest
abbrev pub most_script_bytes : ℕ
most_script_bytes = 1073741824
