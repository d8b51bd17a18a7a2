-- public: which defined columns depend on others, and which definitions are kept without these. (isl manual, on integer divisions)
use Rattle.std.specs.Prelude.{Bool, not, if◌then◌else◌, ℕ, suc, pos, List, [], ◌∷◌, ◌++◌, map, slice_index_or}
use Rattle.std.specs.List.{list_any}
use Rattle.std.specs.Ordering.{int_eq}
use Rattle.isl_piece.specs.declared.definition.Definition.{Definition}
use Rattle.isl_piece.specs.declared.system.System.{System}
use Rattle.isl_piece.specs.System.{free_columns}
use Rattle.isl_elim.specs.Elimination.{without_from, without}

-- the form of the definition has one of the columns, with a coefficient that is not 0
abbrev pub names : List ℕ → Definition → Bool
names cols d = list_any (λ c. not (int_eq (slice_index_or d.coefs c (pos 0)) (pos 0))) cols

-- those of the defined columns, of which the first is `column`, whose definition names one of the columns, or a defined column that depends
-- on these
abbrev pub dependents_from : ℕ → List ℕ → List Definition → List ℕ
dependents_from column cols [] = []
dependents_from column cols (d ∷ definitions) =
    if names cols d then column ∷ dependents_from (suc column) (cols ++ column ∷ []) definitions
    else dependents_from (suc column) cols definitions

-- the defined columns that depend on the columns, directly or through others
abbrev pub dependents : System → List ℕ → List ℕ
dependents s cols = dependents_from (free_columns s) cols s.definitions

-- the columns, and those that depend on them
abbrev pub with_dependents : System → List ℕ → List ℕ
with_dependents s cols = cols ++ dependents s cols

-- ---- the definitions that are kept
-- a definition over the other columns
abbrev pub narrowed : List ℕ → Definition → Definition
narrowed cols d = record { coefs = without cols d.coefs; constant = d.constant; k = d.k }

-- the definitions of the columns that do not depend on these, in order, over the columns that are left
abbrev pub kept_definitions : System → List ℕ → List Definition
kept_definitions s cols = let gone = with_dependents s cols in map (narrowed gone) (without_from (free_columns s) gone s.definitions)
