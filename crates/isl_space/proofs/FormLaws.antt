-- Forms and spaces within the limits, and what their parts are.
use Rattle.std.proofs.Common.{◌<◌, ◌≤◌, ◌⊎◌, inl, inr, arith}
use Rattle.std.proofs.lemmas.Bool.{cases_lt}
use Rattle.isl_space.specs.Limits.{most_coordinates, most_leaves}
use Rattle.isl_space.specs.Form.{Form, pair, width_of, leaves_of, IsNarrow, IsTooWide, IsWellFormed}
use Rattle.isl_space.specs.SpaceForm.{SpaceForm, set_of, map_of, coordinates_of, space_leaves_of, IsNarrowSpace, IsTooWideSpace}
use Rattle.isl_space.specs.SpaceForm.{IsWellFormedSpace}

-- a form is within the limits or beyond them, and not both
pub narrow_or_too_wide : (form : Form) → IsNarrow form ⊎ IsTooWide form
narrow_or_too_wide form = by_cases (cases_lt most_coordinates (width_of form)) (cases_lt most_leaves (leaves_of form))
  where
    by_cases : (most_coordinates < width_of form) ⊎ (width_of form ≤ most_coordinates)
        → (most_leaves < leaves_of form) ⊎ (leaves_of form ≤ most_leaves) → IsNarrow form ⊎ IsTooWide form
    by_cases (inl wide) leaves = inr (inl wide)
    by_cases (inr coordinates) (inl many) = inr (inr many)
    by_cases (inr coordinates) (inr leaves) = inl (record { coordinates = coordinates; leaves = leaves })

pub narrow_not_too_wide : (form : Form) → IsNarrow form → IsTooWide form → ⊥
narrow_not_too_wide form narrow (inl wide) = omega arith
narrow_not_too_wide form narrow (inr many) = omega arith

-- the same of spaces
pub narrow_or_too_wide_space : (space : SpaceForm) → IsNarrowSpace space ⊎ IsTooWideSpace space
narrow_or_too_wide_space space = by_cases (cases_lt most_coordinates (coordinates_of space)) (cases_lt most_leaves (space_leaves_of space))
  where
    by_cases : (most_coordinates < coordinates_of space) ⊎ (coordinates_of space ≤ most_coordinates)
        → (most_leaves < space_leaves_of space) ⊎ (space_leaves_of space ≤ most_leaves)
        → IsNarrowSpace space ⊎ IsTooWideSpace space
    by_cases (inl wide) leaves = inr (inl wide)
    by_cases (inr coordinates) (inl many) = inr (inr many)
    by_cases (inr coordinates) (inr leaves) = inl (record { coordinates = coordinates; leaves = leaves })

pub narrow_not_too_wide_space : (space : SpaceForm) → IsNarrowSpace space → IsTooWideSpace space → ⊥
narrow_not_too_wide_space space narrow (inl wide) = omega arith
narrow_not_too_wide_space space narrow (inr many) = omega arith

-- the parts of what is well formed are so
pub well_formed-left : (left right : Form) → IsWellFormed (pair left right) → IsWellFormed left
well_formed-left left right whole = record { named = whole.named.0; narrow = record { coordinates = omega arith; leaves = omega arith } }

pub well_formed-right : (left right : Form) → IsWellFormed (pair left right) → IsWellFormed right
well_formed-right left right whole = record { named = whole.named.1; narrow = record { coordinates = omega arith; leaves = omega arith } }

pub well_formed-set : (form : Form) → IsWellFormedSpace (set_of form) → IsWellFormed form
well_formed-set form whole = record { named = whole.named; narrow = record { coordinates = omega arith; leaves = omega arith } }

pub well_formed-from : (from to : Form) → IsWellFormedSpace (map_of from to) → IsWellFormed from
well_formed-from from to whole = record { named = whole.named.0; narrow = record { coordinates = omega arith; leaves = omega arith } }

pub well_formed-to : (from to : Form) → IsWellFormedSpace (map_of from to) → IsWellFormed to
well_formed-to from to whole = record { named = whole.named.1; narrow = record { coordinates = omega arith; leaves = omega arith } }
