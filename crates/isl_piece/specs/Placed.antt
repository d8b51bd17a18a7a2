-- public: systems whose free columns stand at other places, and whose defined ones stand behind these; and the system of two, whether they
-- define the same columns or not. (isl, on the alignment of the integer divisions of two basic sets)
use Rattle.std.specs.Prelude.{◌≢◌, ◌<◌, All, AllPairs, Bool, ◌&&◌, if◌then◌else◌, ℕ, None, List, [], fold, map}
use Rattle.std.specs.Ordering.{int_eq}
use Rattle.std.specs.Cmp.Lexicographic.{pointwise}
use Rattle.isl_piece.specs.declared.definition.Definition.{Definition}
use Rattle.isl_piece.specs.declared.meeting.Meeting.{Meeting}
use Rattle.isl_piece.specs.declared.system.System.{System}
use Rattle.isl_piece.specs.Meet.{joined_at, met, over_same_columns, placed_definition, placed_row}

-- the places are among so many columns, and no two are the same
pub record ArePlacesAmong (columns : ℕ) (places : List ℕ) : Type 0 where
  pub inside : All (λ place. place < columns) places
  pub apart : AllPairs (λ p q. p ≢ q) places

-- one more defined column, which stands behind the others
abbrev pub with_own_column : Meeting → Definition → Meeting
with_own_column m d = joined_at m (placed_definition m.columns m.places d) None

-- the free columns at their places among so many, and behind these the defined ones
abbrev pub placing_of : ℕ → List ℕ → List Definition → Meeting
placing_of columns places definitions = fold with_own_column (record { columns = columns; definitions = []; places = places }) definitions

-- the system whose free columns stand at these places among so many, and whose defined ones stand behind these
abbrev pub placed_system : ℕ → List ℕ → System → System
placed_system columns places s = let m = placing_of columns places s.definitions in record {
  columns = m.columns;
  definitions = m.definitions;
  rows = map (placed_row m.columns m.places) s.rows;
}

-- the same numbers
abbrev pub is_equal_definition : Definition → Definition → Bool
is_equal_definition a d = pointwise int_eq a.coefs d.coefs && int_eq a.constant d.constant && int_eq a.k d.k

-- the system of both, whose columns stay as they are where both define the same ones
abbrev pub both_systems : System → System → System
both_systems a b = if pointwise is_equal_definition a.definitions b.definitions then over_same_columns a b else met a b
