-- public: trees of least images. (Feautrier, parametric integer programming; isl manual, lexicographic optimisation)
use Rattle.std.specs.Prelude.{◌≡◌, ◌↔◌, ◌+◌, Bool, ℕ, ℤ, List, [], ◌++◌, Option, Some, None, All, length, map}
use Rattle.std.specs.Cmp.Lexicographic.{slice_cmp}
use Rattle.std.specs.Ordering.{nat_cmp, is_lt}
use Rattle.std.specs.declared.cmp.Ordering.{Ordering}
use Rattle.isl_meter.specs.Gauge.{Gauge}
use Rattle.isl_space.specs.Element.{Element}
use Rattle.isl_space.specs.Form.{width_of}
use Rattle.isl_space.specs.Name.{Name}
use Rattle.isl_space.specs.SpaceForm.{SpaceForm, set_of, map_of, space_text_of}
use Rattle.isl_space.specs.Valuation.{Valuation, values_of}
use Rattle.isl_union.specs.KeptValue.{KeptValue, Has}
use Rattle.isl_relation.specs.Extremes.{IsFirstImage, IsFirstOf}
use Rattle.isl_relation.specs.Orders.{ComesBefore}
use Rattle.isl_relation.specs.Point.{Point, HasPoint, IsPoint, Relates}
use Rattle.isl_row_text.specs.Ordered.{in_order}
use Rattle.isl_by_space.specs.Spaces.{each_once}
use Rattle.isl_quast.specs.declared.tree.Quast.{Quast}
use Rattle.isl_quast.specs.ForestText.{ForestView, SpaceTree}
use Rattle.isl_quast.specs.Tree.{quast_at, HasWidth, IsQuastOver}

-- ---- one tree
-- of what the operand has at a valuation: at the numbers of the parameters, and of a map also of each x, the tree gives the numbers of the
-- first element of the form, or the first image of x, and nothing where there is none of that form
abbrev pub GivesFirst : (Element → Type 0) → SpaceForm → (List ℤ → Option (List ℤ)) → Type 0
GivesFirst Operand (set_of form) at =
    ((y : Point) → y.form ≡ form → (at [] ≡ Some y.numbers) ↔ IsFirstOf ComesBefore Operand y)
    × ((at [] ≡ None) ↔ ((y : Point) → y.form ≡ form → ¬ HasPoint Operand y))
GivesFirst Operand (map_of from to) at =
    (x : Point) → IsPoint x → x.form ≡ from
    → ((y : Point) → y.form ≡ to → (at x.numbers ≡ Some y.numbers) ↔ IsFirstImage ComesBefore Operand x y)
    × ((at x.numbers ≡ None) ↔ ((y : Point) → y.form ≡ to → ¬ Relates Operand x y))

-- at every valuation
abbrev pub IsLeastImageTree : KeptValue → SpaceForm → Quast → Type 0
IsLeastImageTree value space tree =
    (valuation : Valuation) → GivesFirst (Has value valuation) space (λ front. quast_at tree (values_of value.params valuation ++ front))

-- ---- a tree for each space
-- spaces stand by the bytes of their text
abbrev pub space_cmp : SpaceForm → SpaceForm → Ordering
space_cmp a b = slice_cmp nat_cmp (space_text_of a) (space_text_of b)

abbrev pub space_before : SpaceForm → SpaceForm → Bool
space_before a b = is_lt (space_cmp a b)

-- the value's names; and for each space of its pieces, ordered by their text, a tree of the least images
pub record IsForestOf (value : KeptValue) (forest : ForestView) : Type 0 where
  pub params : forest.params ≡ value.params
  pub spaces : map (λ t. t.space) forest.trees ≡ in_order space_before (each_once (map (λ piece. piece.space) value.pieces))
  pub trees : All (λ t. IsLeastImageTree value t.space t.tree) forest.trees

-- ---- what trees are made of
-- the columns of a space's tree, and the numbers of its leaves
abbrev pub front_width : List Name → SpaceForm → ℕ
front_width params (set_of form) = length params
front_width params (map_of from to) = length params + width_of from

abbrev pub leaf_width : SpaceForm → ℕ
leaf_width (set_of form) = width_of form
leaf_width (map_of from to) = width_of to

-- trees over their columns, with numbers within the limit, and with as many numbers at each leaf as there are coordinates
abbrev pub AreTreesWithin : Gauge → ForestView → Type 0
AreTreesWithin g forest = All (λ t. IsQuastOver g (front_width forest.params t.space) t.tree × HasWidth (leaf_width t.space) t.tree) forest.trees
