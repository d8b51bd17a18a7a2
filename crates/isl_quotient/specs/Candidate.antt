-- inner: columns that no definition names.
use Rattle.std.specs.Prelude.{Bool, ℕ, pos, List, slice_index_or}
use Rattle.std.specs.List.{list_all}
use Rattle.std.specs.Ordering.{int_eq}
use Rattle.isl_piece.specs.declared.definition.Definition.{Definition}

-- no definition names the column
abbrev pub is_undefining : List Definition → ℕ → Bool
is_undefining definitions col = list_all (λ d. int_eq (slice_index_or d.coefs col (pos 0)) (pos 0)) definitions
