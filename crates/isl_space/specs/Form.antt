-- public: what a tuple of coordinates looks like, by content. (isl manual, on spaces and nested tuples)
use Rattle.std.specs.Prelude.{ℕ, ◌+◌, ◌<◌, ◌≤◌, ◌⊎◌, List, [], ◌++◌, Option, Some, None, IfSome, codes}
use Rattle.std.specs.Fmt.{decimal}
use Rattle.isl_space.specs.Limits.{most_coordinates, most_leaves}
use Rattle.isl_space.specs.Name.{Name, IsLiteralName}

-- a leaf, which has so many coordinates and may have a name, or a pair of forms
pub data Form : Type 0 where
  leaf : Option Name → ℕ → Form
  pair : Form → Form → Form

-- how many coordinates
abbrev pub width_of : Form → ℕ
width_of (leaf name width) = width
width_of (pair left right) = width_of left + width_of right

-- how many leaves
abbrev pub leaves_of : Form → ℕ
leaves_of (leaf name width) = 1
leaves_of (pair left right) = leaves_of left + leaves_of right

-- the name, or nothing
abbrev pub name_text : Option Name → List ℕ
name_text None = []
name_text (Some name) = name

-- a leaf is its name and its width in brackets, a pair is `[left -> right]`
abbrev pub text_of : Form → List ℕ
text_of (leaf name width) = name_text name ++ codes "[" ++ decimal width ++ codes "]"
text_of (pair left right) = codes "[" ++ text_of left ++ codes " -> " ++ text_of right ++ codes "]"

-- each name of a leaf may stand inside a literal
abbrev pub IsNamed : Form → Type 0
IsNamed (leaf name width) = IfSome name IsLiteralName
IsNamed (pair left right) = IsNamed left × IsNamed right

-- no more coordinates and leaves than a space may have
pub record IsNarrow (form : Form) : Type 0 where
  pub coordinates : width_of form ≤ most_coordinates
  pub leaves : leaves_of form ≤ most_leaves

-- more coordinates or more leaves than a space may have
abbrev pub IsTooWide : Form → Type 0
IsTooWide form = (most_coordinates < width_of form) ⊎ (most_leaves < leaves_of form)

-- a form that a value may have
pub record IsWellFormed (form : Form) : Type 0 where
  pub named : IsNamed form
  pub narrow : IsNarrow form
