-- public: definitions and systems that are well-formed, and how great their numbers are.
use Rattle.std.specs.Prelude.{◌≡◌, ◌≤◌, ℕ, suc, ℤ, pos, ◌<ℤ◌, List, [], ◌∷◌, All, length, unsigned_abs}
use Rattle.isl_piece.specs.declared.definition.Definition.{Definition}
use Rattle.isl_piece.specs.declared.system.System.{System}
use Rattle.isl_piece.specs.Row.{IsRowUpTo}

-- a definition over so many columns
pub record IsWellFormedDefinition (columns : ℕ) (d : Definition) : Type 0 where
  pub width : length d.coefs ≡ columns
  pub modulus : pos 0 <ℤ d.k

-- the first is a definition over so many columns, and each later one over one more
abbrev pub AreWellFormedDefinitions : ℕ → List Definition → Type 0
AreWellFormedDefinitions columns [] = Unit {0}
AreWellFormedDefinitions columns (d ∷ definitions) = IsWellFormedDefinition columns d × AreWellFormedDefinitions (suc columns) definitions

-- the magnitude of each number of the definition is at most b
pub record IsDefinitionUpTo (b : ℕ) (d : Definition) : Type 0 where
  pub coefs : All (λ c. unsigned_abs c ≤ b) d.coefs
  pub constant : unsigned_abs d.constant ≤ b
  pub k : unsigned_abs d.k ≤ b

-- the magnitude of each number of the system is at most b
pub record IsSystemUpTo (b : ℕ) (s : System) : Type 0 where
  pub rows : All (IsRowUpTo b) s.rows
  pub definitions : All (IsDefinitionUpTo b) s.definitions
