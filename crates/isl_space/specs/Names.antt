-- public: lists of distinct names, and how two of them are put together. (isl manual, on the alignment of parameters)
use Rattle.std.specs.Prelude.{◌≡◌, ◌≢◌, ◌≤◌, ◌<◌, ◌⊎◌, ℕ, Bool, not, List, ◌++◌, All, AllPairs, Contains, length, take, filter, slice_get}
use Rattle.std.specs.Prelude.{slice_index}
use Rattle.std.specs.List.{list_any}
use Rattle.std.specs.Str.{bytes_eq}
use Rattle.isl_space.specs.Limits.{most_parameters}
use Rattle.isl_space.specs.Name.{Name, IsLiteralName}

-- no two of the names are equal
abbrev pub AreDistinct : List Name → Type 0
AreDistinct names = AllPairs (λ a b. a ≢ b) names

-- what a value may declare as its parameters
pub record IsParameterList (names : List Name) : Type 0 where
  pub distinct : AreDistinct names
  pub named : All IsLiteralName names
  pub few : length names ≤ most_parameters

-- whether the name is one of these
abbrev pub is_among : List Name → Name → Bool
is_among names n = list_any (bytes_eq n) names

-- the names of the first list, and then those of the second that are new, in order
abbrev pub joined : List Name → List Name → List Name
joined names others = names ++ filter (λ n. not (is_among names n)) others

-- the i-th place is that of the i-th of the others in the list
pub record ArePlaces (all others : List Name) (places : List ℕ) : Type 0 where
  pub count : length places ≡ length others
  pub at : (i : ℕ) → i < length others → slice_get all (slice_index places i) ≡ slice_get others i

-- what the joined list of two is, in plain words
pub record Joins (names others all : List Name) : Type 0 where
  -- the names of the first list stand where they stood
  pub first : take (length names) all ≡ names
  -- those of the second list are there
  pub second : All (λ n. Contains all n) others
  -- no other name is
  pub only : All (λ n. Contains names n ⊎ Contains others n) all
  pub distinct : AreDistinct all
