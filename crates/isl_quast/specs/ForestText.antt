-- public: trees of tests as text. (isl manual, the notation of spaces, and on printing abstract syntax trees)
use Rattle.std.specs.Prelude.{List, [], ◌∷◌, ◌++◌, map, codes}
use Rattle.isl_space.specs.Name.{Name}
use Rattle.isl_space.specs.Form.{width_of}
use Rattle.isl_space.specs.SpaceForm.{SpaceForm, set_of, map_of}
use Rattle.isl_loop.specs.declared.tree.Expr.{Expr}
use Rattle.isl_row_text.specs.Joined.{Text, each_after, joined_by}
use Rattle.isl_row_text.specs.Naming.{coordinate_names, numbered}
use Rattle.isl_loop_text.specs.ExprText.{expr_text}
use Rattle.isl_quast.specs.Tuple.{params_text, tuples_text}
use Rattle.isl_quast.specs.declared.tree.Quast.{Quast, Missing, Leaf, If', Row_of-Quast, end_of-Quast, more_of-Quast}

-- ---- trees
-- a line behind a margin
abbrev pub line : Text → Text → Text
line margin text = margin ++ text ++ 10 ∷ []

abbrev pub leaf_text : List Name → List Expr → Text
leaf_text names exprs = codes "(" ++ joined_by (codes ", ") (map (expr_text names) exprs) ++ codes ")"

abbrev pub test_text : List Name → Expr → Text
test_text names test = codes "if (" ++ expr_text names test ++ codes " >= 0) {"

abbrev mutual
  -- the lines of a tree behind a margin, with the names of its columns
  pub tree_lines : List Name → Text → Quast → Text
  tree_lines names margin Missing = line margin (codes "none")
  tree_lines names margin (Leaf exprs) = line margin (leaf_text names exprs)
  tree_lines names margin (If' test s up t down) =
      line margin (test_text names test) ++ lines_in names (margin ++ codes "  ") up
      ++ line margin (codes "} else {") ++ lines_in names (margin ++ codes "  ") down ++ line margin (codes "}")

  -- a tree in a box is a row of one
  pub lines_in : {m : _} → List Name → Text → Row_of-Quast m → Text
  lines_in names margin end_of-Quast = []
  lines_in names margin (more_of-Quast tree rest) = tree_lines names margin tree

-- ---- trees of spaces
-- a space, and a tree
pub record SpaceTree : Type 0 where
  pub space : SpaceForm
  pub tree : Quast

-- declared names, and trees of spaces
pub record ForestView : Type 0 where
  pub params : List Name
  pub trees : List SpaceTree

-- the columns of a space's tree: the parameters, and of a map the coordinates that it maps from
abbrev pub front_names : List Name → SpaceForm → List Name
front_names params (set_of form) = params
front_names params (map_of from to) = params ++ numbered params (codes "i") 0 (width_of from)

-- the printed value that has all points of the space
abbrev pub head_text : List Name → SpaceForm → Text
head_text params space = params_text params ++ codes "{ " ++ tuples_text space (coordinate_names params space) ++ codes " }"

abbrev pub space_lines : List Name → SpaceTree → Text
space_lines params t = line [] (head_text params t.space) ++ tree_lines (front_names params t.space) (codes "  ") t.tree

-- of each space its line and its tree; or the line of the printed empty value
abbrev pub lines_of : List Name → List SpaceTree → Text
lines_of params [] = line [] (params_text params ++ codes "{ }")
lines_of params (tree ∷ trees) = each_after [] (map (space_lines params) (tree ∷ trees))

abbrev pub forest_text : ForestView → Text
forest_text forest = lines_of forest.params forest.trees
