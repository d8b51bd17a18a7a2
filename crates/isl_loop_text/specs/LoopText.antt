-- public: loops as text. (isl manual, on printing abstract syntax trees)
use Rattle.std.specs.Prelude.{ℕ, suc, ℤ, List, [], ◌∷◌, ◌++◌, map, codes, unsigned_abs, Option}
use Rattle.std.specs.Fmt.{decimal}
use Rattle.isl_space.specs.Name.{Name}
use Rattle.isl_space.specs.Form.{name_text}
use Rattle.isl_piece.specs.declared.row.Row.{Row}
use Rattle.isl_row_text.specs.Joined.{Text, joined_by}
use Rattle.isl_row_text.specs.Naming.{free_name, numbered}
use Rattle.isl_row_text.specs.RowText.{row_text}
use Rattle.isl_loop.specs.declared.tree.Expr.{Expr}
use Rattle.isl_loop.specs.declared.tree.Loop.{Loop, Block', For', If', Call, Row_of-Loop, end_of-Loop, more_of-Loop}
use Rattle.isl_loop_text.specs.ExprText.{expr_text}

-- the variable of a loop inside of so many others: `c0`, `c1`, .., with as many primes as make it no parameter
abbrev pub variable : List Name → ℕ → Name
variable params depth = free_name params (codes "c" ++ decimal depth)

-- the names of the columns inside of so many loops: the parameters, and then the variables
abbrev pub names_inside : List Name → ℕ → List Name
names_inside params depth = params ++ numbered params (codes "c") 0 depth

-- a line behind a margin
abbrev pub line : Text → Text → Text
line margin text = margin ++ text ++ 10 ∷ []

-- what the variable of a loop begins with, and up to where it goes
abbrev pub range_text : Name → Text → Text → Text
range_text variable low high =
    codes "for (" ++ variable ++ codes " = " ++ low ++ codes "; " ++ variable ++ codes " <= " ++ high
    ++ codes "; " ++ variable ++ codes " += "

abbrev pub for_text : Name → Text → Text → ℤ → Text
for_text variable low high step = range_text variable low high ++ decimal (unsigned_abs step) ++ codes ") {"

-- no row is `true`
abbrev pub condition_text : List Text → Text
condition_text [] = codes "true"
condition_text (text ∷ texts) = joined_by (codes " && ") (text ∷ texts)

abbrev pub if_text : List Name → List Row → Text
if_text names rows = codes "if (" ++ condition_text (map (row_text names) rows) ++ codes ") {"

abbrev pub call_text : List Name → Option Name → List Expr → Text
call_text names name args = name_text name ++ codes "(" ++ joined_by (codes ", ") (map (expr_text names) args) ++ codes ");"

abbrev mutual
  -- inside of so many loops, behind a margin
  pub loop_lines : List Name → ℕ → Text → Loop → Text
  loop_lines params depth margin (Block' s row) = lines_in params depth margin row
  loop_lines params depth margin (For' low high step s body) =
      let names = names_inside params depth in
      line margin (for_text (variable params depth) (expr_text names low) (expr_text names high) step)
      ++ lines_in params (suc depth) (margin ++ codes "  ") body ++ line margin (codes "}")
  loop_lines params depth margin (If' rows s body) =
      line margin (if_text (names_inside params depth) rows) ++ lines_in params depth (margin ++ codes "  ") body ++ line margin (codes "}")
  loop_lines params depth margin (Call name args) = line margin (call_text (names_inside params depth) name args)

  -- one behind another; a body is a row of one
  pub lines_in : {m : _} → List Name → ℕ → Text → Row_of-Loop m → Text
  lines_in params depth margin end_of-Loop = []
  lines_in params depth margin (more_of-Loop part rest) = loop_lines params depth margin part ++ lines_in params depth margin rest

-- with the names of the parameters
abbrev pub loop_text : List Name → Loop → Text
loop_text params tree = loop_lines params 0 [] tree
