-- inner: listed elements, kept by their spaces.
use Rattle.std.specs.Prelude.{◌≡◌, ◌↔◌, ◌⊎◌, ◌+◌, ◌≤◌, ℕ, ℤ, List, [], ◌∷◌, ◌++◌, All, AllPairs, Any, Contains, length, map, string_bytes}
use Rattle.std.specs.Cmp.Lexicographic.{slice_cmp}
use Rattle.std.specs.Ordering.{nat_cmp}
use Rattle.std.specs.declared.cmp.Ordering.{Ordering}
use Rattle.isl_math.specs.Order.{IsBefore}
use Rattle.isl_space.specs.Element.{Element}
use Rattle.isl_space.specs.Space.{space_form_of}
use Rattle.isl_space.specs.SpaceForm.{SpaceForm, coordinates_of, space_text_of, IsWellFormedSpace}
use Rattle.isl_scan.specs.declared.group.Group.{Group}
use Rattle.isl_scan.specs.Listing.{IsSpaceBefore}
use Rattle.isl_scan.specs.Merged.{merged_points}

abbrev pub space_in : Group → SpaceForm
space_in group = space_form_of group.space

-- the element of a space with these numbers
abbrev pub element_of : SpaceForm → List ℤ → Element
element_of space numbers = record { space = space; coordinates = numbers }

-- those of a space, in order
abbrev pub elements_in : SpaceForm → List (List ℤ) → List Element
elements_in space points = map (element_of space) points

-- those of all groups, in order
abbrev pub elements_of : List Group → List Element
elements_of [] = []
elements_of (group ∷ groups) = elements_in (space_in group) group.points ++ elements_of groups

-- the title is the text of the space, which is one that a value may have; each point has a number for each of its coordinates, and the
-- points stand in order
pub record IsGroup (group : Group) : Type 0 where
  pub title : string_bytes group.title ≡ space_text_of (space_in group)
  pub space : IsWellFormedSpace (space_in group)
  pub long : All (λ numbers. length numbers ≡ coordinates_of (space_in group)) group.points
  pub ordered : AllPairs IsBefore group.points

-- each is such, and the space of each comes before those of the later ones
pub record AreGroups (groups : List Group) : Type 0 where
  pub sound : All IsGroup groups
  pub ordered : AllPairs (λ a b. IsSpaceBefore (space_in a) (space_in b)) groups

-- ---- which elements there are
-- the points of the space have the numbers of the element
abbrev pub IsIn : SpaceForm → List (List ℤ) → Element → Type 0
IsIn space points element = (space ≡ element.space) × Contains points element.coordinates

abbrev pub HasIn : Element → Group → Type 0
HasIn element group = IsIn (space_in group) group.points element

-- ---- groups put together
-- how the title of the group stands to a text
abbrev pub title_cmp : Group → List ℕ → Ordering
title_cmp group text = slice_cmp nat_cmp (string_bytes group.title) text

-- the group of a space has its own points and those of another group of the space
pub record IsJoined (group other both : Group) : Type 0 where
  pub title : both.title ≡ group.title
  pub space : both.space ≡ group.space
  pub points : both.points ≡ merged_points group.points other.points

-- of two lists of groups so many are merged, and these are left of each: the merged ones and those of either list stand in order, and all
-- together have the elements that they had before
pub record AreLeft (old_merged old_firsts old_seconds merged firsts seconds : List Group) : Type 0 where
  pub before_firsts : AreGroups (merged ++ firsts)
  pub before_seconds : AreGroups (merged ++ seconds)
  pub exact : (element : Element) → (Any (HasIn element) merged ⊎ (Any (HasIn element) firsts ⊎ Any (HasIn element) seconds))
      ↔ (Any (HasIn element) old_merged ⊎ (Any (HasIn element) old_firsts ⊎ Any (HasIn element) old_seconds))
  pub count : length (elements_of merged) + (length (elements_of firsts) + length (elements_of seconds))
      ≤ length (elements_of old_merged) + (length (elements_of old_firsts) + length (elements_of old_seconds))

-- the groups have the elements of both lists, and no others
pub record AreMerged (firsts seconds groups : List Group) : Type 0 where
  pub sound : AreGroups groups
  pub exact : (element : Element) → Contains (elements_of groups) element
      ↔ (Contains (elements_of firsts) element ⊎ Contains (elements_of seconds) element)
  pub count : length (elements_of groups) ≤ length (elements_of firsts) + length (elements_of seconds)
