-- public: expressions of loops as text. (isl manual, on printing abstract syntax trees)
use Rattle.std.specs.Prelude.{ℕ, ℤ, pos, int_lt, Bool, true, false, ◌==◌, ◌&&◌, not, if◌then◌else◌, List, [], ◌∷◌, ◌++◌, codes}
use Rattle.std.specs.Prelude.{unsigned_abs, slice_index_or}
use Rattle.std.specs.Fmt.{decimal}
use Rattle.isl_space.specs.Name.{Name}
use Rattle.isl_row_text.specs.Joined.{Text, joined_by}
use Rattle.isl_loop.specs.declared.tree.Expr.{Expr, Expr', Row_of-Item, end_of-Item, more_of-Item}
use Rattle.isl_loop.specs.declared.tree.Atom.{Atom, Column, Floor', Ceil', Min', Max', Row_of-Expr, end_of-Expr, more_of-Expr}

-- what stands before a summand: whether it is the first, and whether it is taken off
abbrev pub sign_text : Bool → Bool → Text
sign_text true true = codes "-"
sign_text true false = []
sign_text false true = codes " - "
sign_text false false = codes " + "

-- the magnitude 1 is not written
abbrev pub times_text : ℕ → Text
times_text n = if n == 1 then [] else decimal n ++ codes "*"

-- what stands before an atom: the sign of its coefficient, and the magnitude
abbrev pub coefficient_text : Bool → ℤ → Text
coefficient_text is_first coef = sign_text is_first (int_lt coef (pos 0)) ++ times_text (unsigned_abs coef)

-- the constant, which ends a sum; 0 is written only where nothing else is
abbrev pub constant_text : Bool → ℤ → Text
constant_text is_first constant =
    if unsigned_abs constant == 0 && not is_first then []
    else sign_text is_first (int_lt constant (pos 0)) ++ decimal (unsigned_abs constant)

abbrev mutual
  -- with the names of the columns
  pub expr_text : List Name → Expr → Text
  expr_text names (Expr' s items constant) = sum_text names true items constant

  -- what is left to write of a sum: whether nothing of it was written yet
  pub sum_text : {m : _} → List Name → Bool → Row_of-Item m → ℤ → Text
  sum_text names is_first end_of-Item constant = constant_text is_first constant
  sum_text names is_first (more_of-Item coef atom rest) constant =
      coefficient_text is_first coef ++ atom_text names atom ++ sum_text names false rest constant

  pub atom_text : List Name → Atom → Text
  atom_text names (Column place) = slice_index_or names place []
  atom_text names (Floor' s row k) = codes "floord(" ++ boxed_text names row ++ codes ", " ++ decimal (unsigned_abs k) ++ codes ")"
  atom_text names (Ceil' s row k) = codes "ceild(" ++ boxed_text names row ++ codes ", " ++ decimal (unsigned_abs k) ++ codes ")"
  atom_text names (Min' s row) = codes "min(" ++ joined_by (codes ", ") (expr_texts names row) ++ codes ")"
  atom_text names (Max' s row) = codes "max(" ++ joined_by (codes ", ") (expr_texts names row) ++ codes ")"

  -- an expression in a box is a row of one
  pub boxed_text : {m : _} → List Name → Row_of-Expr m → Text
  boxed_text names end_of-Expr = []
  boxed_text names (more_of-Expr e rest) = expr_text names e

  pub expr_texts : {m : _} → List Name → Row_of-Expr m → List Text
  expr_texts names end_of-Expr = []
  expr_texts names (more_of-Expr e rest) = expr_text names e ∷ expr_texts names rest
