-- inner: how much stands in expressions and loops, for calls that go down into them.
use Rattle.std.specs.Prelude.{ℕ, ◌+◌, List, [], ◌∷◌}
use Rattle.isl_loop.specs.declared.tree.Expr.{Expr, Expr', Row_of-Item, end_of-Item, more_of-Item}
use Rattle.isl_loop.specs.declared.tree.Atom.{Atom, Column, Floor', Ceil', Min', Max', Row_of-Expr, end_of-Expr, more_of-Expr}
use Rattle.isl_loop.specs.declared.tree.Item.{Item}
use Rattle.isl_loop.specs.declared.tree.Loop.{Loop, Block', For', If', Call, Row_of-Loop, end_of-Loop, more_of-Loop}

abbrev mutual
  pub expr_size : Expr → ℕ
  expr_size (Expr' s items constant) = 1 + sum_size items

  pub sum_size : {m : _} → Row_of-Item m → ℕ
  sum_size end_of-Item = 0
  sum_size (more_of-Item coef atom rest) = 2 + atom_size atom + sum_size rest

  pub atom_size : Atom → ℕ
  atom_size (Column place) = 1
  atom_size (Floor' s row k) = 1 + exprs_size row
  atom_size (Ceil' s row k) = 1 + exprs_size row
  atom_size (Min' s row) = 1 + exprs_size row
  atom_size (Max' s row) = 1 + exprs_size row

  pub exprs_size : {m : _} → Row_of-Expr m → ℕ
  exprs_size end_of-Expr = 0
  exprs_size (more_of-Expr e rest) = 2 + expr_size e + exprs_size rest

abbrev mutual
  pub loop_size : Loop → ℕ
  loop_size (Block' s row) = 1 + loops_size row
  loop_size (For' low high step s body) = 1 + loops_size body
  loop_size (If' rows s body) = 1 + loops_size body
  loop_size (Call name args) = 1

  pub loops_size : {m : _} → Row_of-Loop m → ℕ
  loops_size end_of-Loop = 0
  loops_size (more_of-Loop part rest) = 2 + loop_size part + loops_size rest

-- the same of lists
abbrev pub items_size : List Item → ℕ
items_size [] = 0
items_size (item ∷ items) = 2 + atom_size item.atom + items_size items

abbrev pub list_size : List Expr → ℕ
list_size [] = 0
list_size (e ∷ es) = 2 + expr_size e + list_size es

abbrev pub parts_size : List Loop → ℕ
parts_size [] = 0
parts_size (part ∷ parts) = 2 + loop_size part + parts_size parts
