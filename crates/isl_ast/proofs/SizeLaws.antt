-- Sizes at the constructors of the code.
use mathlib.Core.Former.{Count}
use Rattle.std.proofs.Common.{◌≡◌, ◌∙◌, refl, sym, ap, arith, ℕ, zero, suc, ◌+◌, ◌<◌, ℤ, List, [], ◌∷◌, length, get_or}
use Rattle.isl_piece.specs.declared.row.Row.{Row}
use Rattle.isl_loop.specs.declared.tree.Expr.{Expr, Expr', out-Expr, Row_of-Item, end_of-Item, more_of-Item, items-the_row-Item}
use Rattle.isl_loop.specs.declared.tree.Expr.{items_shown-the_row-Item-2}
use Rattle.isl_loop.specs.declared.tree.Item.{Item}
use Rattle.isl_loop.specs.declared.tree.Atom.{Atom, Floor, Ceil, Min, Max, Row_of-Expr, end_of-Expr, more_of-Expr}
use Rattle.isl_loop.specs.declared.tree.Atom.{items-the_row-Expr, items_hidden-the_row-Expr-1}
use Rattle.isl_loop.specs.declared.tree.Atom.TheBlock.{hidden-the_row-Expr-0, hidden-the_row-Expr-1}
use Rattle.isl_loop.specs.declared.tree.Loop.{Loop, Block, For, If, Row_of-Loop, end_of-Loop, more_of-Loop}
use Rattle.isl_loop.specs.declared.tree.Loop.{items-the_row-Loop, items_hidden-the_row-Loop-0}
use Rattle.isl_loop.specs.declared.tree.Loop.TheBlock.{hidden-the_row-Loop-0, hidden-the_row-Loop-1}
use Rattle.isl_ast.specs.Size.{atom_size, expr_size, exprs_size, loop_size, loops_size, size_of_exprs, size_of_items, size_of_loops}
use Rattle.isl_ast.specs.Size.{sum_size}

-- ---- expressions
items_are : (m : Count) (row : Row_of-Item m) → sum_size row ≡ size_of_items (items-the_row-Item m row)
items_are m end_of-Item = refl
items_are m (more_of-Item coef atom row) = ap (λ (n : ℕ). 1 + (atom_size atom + n)) (items_are _ row)

expr_is : (x : Expr) → expr_size x ≡ 1 + size_of_items (out-Expr x).items
unfolding out-Expr denote.Hole.Carrier.out
expr_is (Expr' s row constant) =
    ap (λ (n : ℕ). 1 + n) (items_are _ row ∙ ap size_of_items (sym (items_shown-the_row-Item-2 s row)))

pub item_smaller : (items : List Item) (i : ℕ) (item : Item) → i < length items → item ≡ get_or items i item
    → atom_size item.atom < size_of_items items
item_smaller [] i item low is = absurd (omega (arith, low))
item_smaller (other ∷ items) zero item low is =
    let same : atom_size item.atom ≡ atom_size other.atom = ap (λ (x : Item). atom_size x.atom) is in omega (arith, same)
item_smaller (other ∷ items) (suc i) item low is = let rest = item_smaller items i item (omega (arith, low)) is in omega (arith, rest)

pub items_smaller : (x : Expr) (items : List Item) → items ≡ (out-Expr x).items → size_of_items items < expr_size x
items_smaller x items is =
    let whole = expr_is x in
    let same : size_of_items items ≡ size_of_items (out-Expr x).items = ap size_of_items is in
    omega (arith, whole, same)

pub floor_smaller : (x : Atom) (e inner : Expr) (k : ℤ) → x ≡ Floor e k → inner ≡ e → expr_size inner < atom_size x
unfolding hidden-the_row-Expr-0 denote.Hole.Carrier.hidden
floor_smaller x e inner k is same =
    let whole : atom_size x ≡ 1 + (1 + (expr_size e + 1)) = ap atom_size is in
    let own : expr_size inner ≡ expr_size e = ap expr_size same in
    omega (arith, whole, own)

pub ceiling_smaller : (x : Atom) (e inner : Expr) (k : ℤ) → x ≡ Ceil e k → inner ≡ e → expr_size inner < atom_size x
unfolding hidden-the_row-Expr-0 denote.Hole.Carrier.hidden
ceiling_smaller x e inner k is same =
    let whole : atom_size x ≡ 1 + (1 + (expr_size e + 1)) = ap atom_size is in
    let own : expr_size inner ≡ expr_size e = ap expr_size same in
    omega (arith, whole, own)

exprs_are : (m : Count) (row : Row_of-Expr m) → exprs_size row ≡ size_of_exprs (items-the_row-Expr m row)
exprs_are m end_of-Expr = refl
exprs_are m (more_of-Expr e row) = ap (λ (n : ℕ). 1 + (expr_size e + n)) (exprs_are _ row)

inside_size : (es : List Expr) → exprs_size (hidden-the_row-Expr-1 es) ≡ size_of_exprs es
inside_size es = exprs_are _ (hidden-the_row-Expr-1 es) ∙ ap size_of_exprs (items_hidden-the_row-Expr-1 es)

pub least_smaller : (x : Atom) (es slice : List Expr) → x ≡ Min es → slice ≡ es → size_of_exprs slice < atom_size x
least_smaller x es slice is same =
    let whole : atom_size x ≡ 1 + size_of_exprs es = ap atom_size is ∙ ap (λ (n : ℕ). 1 + n) (inside_size es) in
    let own : size_of_exprs slice ≡ size_of_exprs es = ap size_of_exprs same in
    omega (arith, whole, own)

pub greatest_smaller : (x : Atom) (es slice : List Expr) → x ≡ Max es → slice ≡ es → size_of_exprs slice < atom_size x
greatest_smaller x es slice is same =
    let whole : atom_size x ≡ 1 + size_of_exprs es = ap atom_size is ∙ ap (λ (n : ℕ). 1 + n) (inside_size es) in
    let own : size_of_exprs slice ≡ size_of_exprs es = ap size_of_exprs same in
    omega (arith, whole, own)

pub expr_smaller : (es : List Expr) (i : ℕ) (e : Expr) → i < length es → e ≡ get_or es i e → expr_size e < size_of_exprs es
expr_smaller [] i e low is = absurd (omega (arith, low))
expr_smaller (other ∷ es) zero e low is = let same : expr_size e ≡ expr_size other = ap expr_size is in omega (arith, same)
expr_smaller (other ∷ es) (suc i) e low is = let rest = expr_smaller es i e (omega (arith, low)) is in omega (arith, rest)

-- ---- loops
loops_are : (m : Count) (row : Row_of-Loop m) → loops_size row ≡ size_of_loops (items-the_row-Loop m row)
loops_are m end_of-Loop = refl
loops_are m (more_of-Loop part row) = ap (λ (n : ℕ). 1 + (loop_size part + n)) (loops_are _ row)

pub block_smaller : (x : Loop) (parts slice : List Loop) → x ≡ Block parts → slice ≡ parts → size_of_loops slice < loop_size x
block_smaller x parts slice is same =
    let whole : loop_size x ≡ 1 + size_of_loops parts =
    ap loop_size is
    ∙ ap (λ (n : ℕ). 1 + n) (loops_are _ (hidden-the_row-Loop-0 parts) ∙ ap size_of_loops (items_hidden-the_row-Loop-0 parts)) in
    let own : size_of_loops slice ≡ size_of_loops parts = ap size_of_loops same in
    omega (arith, whole, own)

pub body_smaller : (x : Loop) (low high : Expr) (step : ℤ) (body inner : Loop) → x ≡ For low high step body → inner ≡ body
    → 1 + loop_size inner < loop_size x
unfolding hidden-the_row-Loop-1 denote.Hole.Carrier.hidden
body_smaller x low high step body inner is same =
    let whole : loop_size x ≡ 1 + (1 + (loop_size body + 1)) = ap loop_size is in
    let own : loop_size inner ≡ loop_size body = ap loop_size same in
    omega (arith, whole, own)

pub then_smaller : (x : Loop) (rows : List Row) (body inner : Loop) → x ≡ If rows body → inner ≡ body → loop_size inner < loop_size x
unfolding hidden-the_row-Loop-1 denote.Hole.Carrier.hidden
then_smaller x rows body inner is same =
    let whole : loop_size x ≡ 1 + (1 + (loop_size body + 1)) = ap loop_size is in
    let own : loop_size inner ≡ loop_size body = ap loop_size same in
    omega (arith, whole, own)

pub part_smaller : (parts : List Loop) (i : ℕ) (part : Loop) → i < length parts → part ≡ get_or parts i part
    → loop_size part < size_of_loops parts
part_smaller [] i part low is = absurd (omega (arith, low))
part_smaller (other ∷ parts) zero part low is = let same : loop_size part ≡ loop_size other = ap loop_size is in omega (arith, same)
part_smaller (other ∷ parts) (suc i) part low is = let rest = part_smaller parts i part (omega (arith, low)) is in omega (arith, rest)
