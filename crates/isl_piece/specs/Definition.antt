-- public: defined columns: each stands for the floor of a form over the columns before it, divided by a positive number. (isl manual, on
-- local spaces and integer divisions)
use Rattle.std.specs.Prelude.{◌≡◌, ◌<◌, ℕ, suc, ℤ, pos, ◌+ℤ◌, ◌<ℤ◌, List, [], ◌∷◌, ◌++◌, All, fold, length, slice_index_or, take}
use Rattle.isl_math.specs.Divide.{floor_div}
use Rattle.isl_math.specs.Dot.{dot}
use Rattle.isl_meter.specs.Gauge.{Gauge, IsWithin}
use Rattle.isl_piece.specs.Row.{FormPassesLimit}
use Rattle.isl_piece.specs.declared.definition.Definition.{Definition}

-- the number that a definition gives at the numbers of the columns before it: its form, divided by k and rounded down
abbrev pub defined_value : Definition → List ℤ → ℤ
defined_value d xs = floor_div (dot d.coefs xs +ℤ d.constant) d.k

-- numbers, and the one that a definition gives there
abbrev pub with_next : List ℤ → Definition → List ℤ
with_next xs d = xs ++ defined_value d xs ∷ []

-- the full point: the numbers of the free columns, and behind them, one by one, those of the defined columns
abbrev pub with_defined : List Definition → List ℤ → List ℤ
with_defined definitions point = fold with_next point definitions

-- a definition over so many columns, with its numbers within the limit
pub record IsDefinition (g : Gauge) (columns : ℕ) (d : Definition) : Type 0 where
  pub width : length d.coefs ≡ columns
  pub modulus : pos 0 <ℤ d.k
  pub coefs : All (IsWithin g) d.coefs
  pub constant : IsWithin g d.constant
  pub k : IsWithin g d.k

-- the first is a definition over so many columns, and each later one over one more
abbrev pub AreDefinitions : Gauge → ℕ → List Definition → Type 0
AreDefinitions g columns [] = Unit {0}
AreDefinitions g columns (d ∷ definitions) = IsDefinition g columns d × AreDefinitions g (suc columns) definitions

-- at the numbers before it the form of one of the definitions passes the limit
unfoldable pub DefinitionPassesLimit : Gauge → List Definition → List ℤ → Type 0
DefinitionPassesLimit g definitions point =
    (i : ℕ) × (d : Definition) × (i < length definitions) × (slice_index_or definitions i d ≡ d) × FormPassesLimit g d.coefs d.constant (with_defined (take i definitions) point)
