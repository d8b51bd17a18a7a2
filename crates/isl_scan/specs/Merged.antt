-- inner: lists of points put together.
use Rattle.std.specs.Prelude.{◌≡◌, ℕ, ◌+◌, ◌<◌, ℤ, List, [], ◌∷◌, ◌++◌, true, drop, length, slice_index_or}
use Rattle.std.specs.Cmp.Lexicographic.{slice_cmp}
use Rattle.std.specs.Ordering.{int_cmp}
use Rattle.std.specs.declared.cmp.Ordering.{Ordering}
use Rattle.std.specs.declared.cmp.Ordering.TheVariants.{Less, Equal, Greater}
use Rattle.std.specs.Set.{sorted_merge}
use Rattle.isl_points.specs.Flat.{laid_out}

-- the order of points: by their numbers, from the left
abbrev pub point_cmp : List ℤ → List ℤ → Ordering
point_cmp a b = slice_cmp int_cmp a b

-- the points of both lists by this order, where each list stands in it; a point that both have stands once
abbrev pub merged_points : List (List ℤ) → List (List ℤ) → List (List ℤ)
merged_points firsts seconds = sorted_merge point_cmp true firsts seconds

-- the points from two places on are the one at the first place, that at the second, or that at both, and then those behind it
abbrev pub IsNextOf : Ordering → List (List ℤ) → ℕ → List (List ℤ) → ℕ → Type 0
IsNextOf Less firsts i seconds j = (i < length firsts) × (merged_points (drop i firsts) (drop j seconds)
    ≡ slice_index_or firsts i [] ∷ merged_points (drop (i + 1) firsts) (drop j seconds))
IsNextOf Equal firsts i seconds j = ((i < length firsts) × (j < length seconds)) × (merged_points (drop i firsts) (drop j seconds)
    ≡ slice_index_or firsts i [] ∷ merged_points (drop (i + 1) firsts) (drop (j + 1) seconds))
IsNextOf Greater firsts i seconds j = (j < length seconds) × (merged_points (drop i firsts) (drop j seconds)
    ≡ slice_index_or seconds j [] ∷ merged_points (drop i firsts) (drop (j + 1) seconds))

-- so many numbers of merged points are there, and what is left to merge begins at these places
pub record IsMerging (firsts seconds : List (List ℤ)) (numbers : List ℤ) (count i j : ℕ) : Type 0 where
  pub points : List (List ℤ)
  pub laid : numbers ≡ laid_out points
  pub counted : count ≡ length points
  pub rest : points ++ merged_points (drop i firsts) (drop j seconds) ≡ merged_points firsts seconds
