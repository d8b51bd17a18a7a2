-- Expressions and their texts, at the constructors of the code.
use mathlib.Core.Former.{Count}
use Rattle.std.proofs.Common.{◌≡◌, ◌∙◌, refl, sym, ap, arith, ℕ, zero, suc, ◌+◌, ◌<◌, ◌≤◌, ℤ, Bool, true, false}
use Rattle.std.proofs.Common.{List, [], ◌∷◌, ◌++◌, length, get_or, drop, map}
use Rattle.std.specs.Prelude.{codes, unsigned_abs}
use Rattle.std.specs.Fmt.{decimal}
use Rattle.std.proofs.lemmas.List.{append_assoc, drop_more, drop_all}
use Rattle.isl_space.specs.Name.{Name}
use Rattle.isl_row_text.specs.Joined.{Text, joined_by}
use Rattle.isl_loop.specs.declared.tree.Item.{Item}
use Rattle.isl_loop.specs.declared.tree.Expr.{Expr, Expr', Row_of-Item, end_of-Item, more_of-Item, out-Expr}
use Rattle.isl_loop.specs.declared.tree.Expr.{items-the_row-Item, items_shown-the_row-Item-2}
use Rattle.isl_loop.specs.declared.tree.Atom.{Atom, Floor, Ceil, Min, Max, Row_of-Expr, end_of-Expr, more_of-Expr}
use Rattle.isl_loop.specs.declared.tree.Atom.{items-the_row-Expr, items_hidden-the_row-Expr-1}
use Rattle.isl_loop.specs.declared.tree.Atom.TheBlock.{hidden-the_row-Expr-0, hidden-the_row-Expr-1}
use Rattle.isl_loop_text.specs.ExprText.{coefficient_text, constant_text, expr_text, sum_text, atom_text, boxed_text, expr_texts}
use Rattle.isl_loop_text.specs.Rest.{sum_rest}
use Rattle.isl_loop_text.specs.Size.{expr_size, sum_size, atom_size, exprs_size, items_size, list_size}

-- ---- sums
sum_is : (m : Count) (row : Row_of-Item m) (names : List Name) (is_first : Bool) (constant : ℤ)
    → sum_text names is_first row constant ≡ sum_rest names is_first (items-the_row-Item m row) constant
sum_is m end_of-Item names is_first constant = refl
sum_is m (more_of-Item coef atom row) names is_first constant =
    ap (λ t. coefficient_text is_first coef ++ atom_text names atom ++ t) (sum_is _ row names false constant)

pub expr_is : (names : List Name) (e : Expr) → expr_text names e ≡ sum_rest names true (out-Expr e).items (out-Expr e).constant
unfolding out-Expr denote.Hole.Carrier.out
expr_is names (Expr' s items constant) =
    sum_is _ items names true constant ∙ ap (λ l. sum_rest names true l constant) (sym (items_shown-the_row-Item-2 s items))

-- a loop's step: a coefficient and its atom
pub sum_more : (names : List Name) (items : List Item) (constant : ℤ) (i : ℕ) (is_first : Bool) (item : Item)
    (before mid after whole : Text) → i < length items → item ≡ get_or items i item
    → mid ≡ before ++ coefficient_text is_first item.coef → after ≡ mid ++ atom_text names item.atom
    → before ++ sum_rest names is_first (drop i items) constant ≡ whole
    → after ++ sum_rest names false (drop (i + 1) items) constant ≡ whole
sum_more names items constant i is_first item before mid after whole low at written more so_far =
    let rest = sum_rest names false (drop (i + 1) items) constant in
    let here : drop i items ≡ item ∷ drop (i + 1) items = drop_more items i item low ∙ ap (λ y. y ∷ drop (i + 1) items) (sym at) in
    ap (λ t. t ++ rest) (more ∙ ap (λ t. t ++ atom_text names item.atom) written
    ∙ append_assoc before (coefficient_text is_first item.coef) (atom_text names item.atom))
    ∙ append_assoc before (coefficient_text is_first item.coef ++ atom_text names item.atom) rest
    ∙ ap (λ l. before ++ sum_rest names is_first l constant) (sym here) ∙ so_far

pub sum_end : (names : List Name) (items : List Item) (constant : ℤ) (i : ℕ) (is_first : Bool) (before after whole : Text)
    → length items ≤ i
    → after ≡ before ++ constant_text is_first constant → before ++ sum_rest names is_first (drop i items) constant ≡ whole → after ≡ whole
sum_end names items constant i is_first before after whole over written so_far =
    written ∙ ap (λ l. before ++ sum_rest names is_first l constant) (sym (drop_all i items over)) ∙ so_far

pub ruleset sums = (sum_more, sum_end)

-- ---- expressions in atoms
texts_are : (m : Count) (row : Row_of-Expr m) (names : List Name) → expr_texts names row ≡ map (expr_text names) (items-the_row-Expr m row)
texts_are m end_of-Expr names = refl
texts_are m (more_of-Expr e row) names = ap (λ ts. expr_text names e ∷ ts) (texts_are _ row names)

inside_texts : (names : List Name) (es : List Expr) → expr_texts names (hidden-the_row-Expr-1 es) ≡ map (expr_text names) es
inside_texts names es = texts_are _ (hidden-the_row-Expr-1 es) names ∙ ap (map (expr_text names)) (items_hidden-the_row-Expr-1 es)

inside_box : (names : List Name) (e : Expr) → boxed_text names (hidden-the_row-Expr-0 e) ≡ expr_text names e
unfolding hidden-the_row-Expr-0 denote.Hole.Carrier.hidden
inside_box names e = refl

-- the text of an atom, part after part
regroup_two : (old a b c d e : Text) → old ++ a ++ b ++ c ++ d ++ e ≡ old ++ (a ++ b ++ c ++ d ++ e)
regroup_two old a b c d e = simp append_assoc

regroup_list : (old a b c : Text) → old ++ a ++ b ++ c ≡ old ++ (a ++ b ++ c)
regroup_list old a b c = simp append_assoc

pub floor_written : (names : List Name) (x : Atom) (e inner : Expr) (k : ℤ) (old opened mid new : Text) → x ≡ Floor e k → inner ≡ e
    → opened ≡ old ++ codes "floord(" → mid ≡ opened ++ expr_text names inner
    → new ≡ mid ++ codes ", " ++ decimal (unsigned_abs k) ++ codes ")" → new ≡ old ++ atom_text names x
floor_written names x e inner k old opened mid new is same first second third =
    third ∙ ap (λ t. t ++ codes ", " ++ decimal (unsigned_abs k) ++ codes ")") (second ∙ ap (λ t. t ++ expr_text names inner) first)
    ∙ regroup_two old (codes "floord(") (expr_text names inner) (codes ", ") (decimal (unsigned_abs k)) (codes ")")
    ∙ ap (λ t. old ++ (codes "floord(" ++ t ++ codes ", " ++ decimal (unsigned_abs k) ++ codes ")"))
    (ap (expr_text names) same ∙ sym (inside_box names e))
    ∙ ap (λ (y : Atom). old ++ atom_text names y) (sym is)

pub ceil_written : (names : List Name) (x : Atom) (e inner : Expr) (k : ℤ) (old opened mid new : Text) → x ≡ Ceil e k → inner ≡ e
    → opened ≡ old ++ codes "ceild(" → mid ≡ opened ++ expr_text names inner
    → new ≡ mid ++ codes ", " ++ decimal (unsigned_abs k) ++ codes ")" → new ≡ old ++ atom_text names x
ceil_written names x e inner k old opened mid new is same first second third =
    third ∙ ap (λ t. t ++ codes ", " ++ decimal (unsigned_abs k) ++ codes ")") (second ∙ ap (λ t. t ++ expr_text names inner) first)
    ∙ regroup_two old (codes "ceild(") (expr_text names inner) (codes ", ") (decimal (unsigned_abs k)) (codes ")")
    ∙ ap (λ t. old ++ (codes "ceild(" ++ t ++ codes ", " ++ decimal (unsigned_abs k) ++ codes ")"))
    (ap (expr_text names) same ∙ sym (inside_box names e))
    ∙ ap (λ (y : Atom). old ++ atom_text names y) (sym is)

pub min_written : (names : List Name) (x : Atom) (es inner : List Expr) (old opened mid new : Text) → x ≡ Min es → inner ≡ es
    → opened ≡ old ++ codes "min(" → mid ≡ opened ++ joined_by (codes ", ") (map (expr_text names) inner) → new ≡ mid ++ codes ")"
    → new ≡ old ++ atom_text names x
min_written names x es inner old opened mid new is same first second third =
    let list = joined_by (codes ", ") (map (expr_text names) inner) in
    third ∙ ap (λ t. t ++ codes ")") (second ∙ ap (λ t. t ++ list) first)
    ∙ regroup_list old (codes "min(") list (codes ")")
    ∙ ap (λ ts. old ++ (codes "min(" ++ joined_by (codes ", ") ts ++ codes ")"))
    (ap (map (expr_text names)) same ∙ sym (inside_texts names es))
    ∙ ap (λ (y : Atom). old ++ atom_text names y) (sym is)

pub max_written : (names : List Name) (x : Atom) (es inner : List Expr) (old opened mid new : Text) → x ≡ Max es → inner ≡ es
    → opened ≡ old ++ codes "max(" → mid ≡ opened ++ joined_by (codes ", ") (map (expr_text names) inner) → new ≡ mid ++ codes ")"
    → new ≡ old ++ atom_text names x
max_written names x es inner old opened mid new is same first second third =
    let list = joined_by (codes ", ") (map (expr_text names) inner) in
    third ∙ ap (λ t. t ++ codes ")") (second ∙ ap (λ t. t ++ list) first)
    ∙ regroup_list old (codes "max(") list (codes ")")
    ∙ ap (λ ts. old ++ (codes "max(" ++ joined_by (codes ", ") ts ++ codes ")"))
    (ap (map (expr_text names)) same ∙ sym (inside_texts names es))
    ∙ ap (λ (y : Atom). old ++ atom_text names y) (sym is)

-- ---- sizes
items_sized : (m : Count) (row : Row_of-Item m) → sum_size row ≡ items_size (items-the_row-Item m row)
items_sized m end_of-Item = refl
items_sized m (more_of-Item coef atom row) = ap (λ (n : ℕ). 2 + atom_size atom + n) (items_sized _ row)

expr_sized : (e : Expr) → expr_size e ≡ 1 + items_size (out-Expr e).items
unfolding out-Expr denote.Hole.Carrier.out
expr_sized (Expr' s items constant) = ap (λ (n : ℕ). 1 + n) (items_sized _ items ∙ ap items_size (sym (items_shown-the_row-Item-2 s items)))

lists_sized : (m : Count) (row : Row_of-Expr m) → exprs_size row ≡ list_size (items-the_row-Expr m row)
lists_sized m end_of-Expr = refl
lists_sized m (more_of-Expr e row) = ap (λ (n : ℕ). 2 + expr_size e + n) (lists_sized _ row)

list_sized : (es : List Expr) → exprs_size (hidden-the_row-Expr-1 es) ≡ list_size es
list_sized es = lists_sized _ (hidden-the_row-Expr-1 es) ∙ ap list_size (items_hidden-the_row-Expr-1 es)

box_sized : (e : Expr) → exprs_size (hidden-the_row-Expr-0 e) ≡ 2 + expr_size e + 0
unfolding hidden-the_row-Expr-0 denote.Hole.Carrier.hidden
box_sized e = refl

item_less : (items : List Item) (i : ℕ) (item : Item) → i < length items → item ≡ get_or items i item
    → atom_size item.atom < items_size items
item_less [] i item low is = absurd (omega (arith, low))
item_less (x ∷ items) zero item low is = let same = ap (λ (it : Item). atom_size it.atom) is in omega (arith, same)
item_less (x ∷ items) (suc i) item low is = let rest = item_less items i item (omega (arith, low)) is in omega (arith, rest)

pub atom_smaller : (e : Expr) (items : List Item) (i : ℕ) (item : Item) → items ≡ (out-Expr e).items → i < length items
    → item ≡ get_or items i item → atom_size item.atom < expr_size e
atom_smaller e items i item are low is =
    let inside = item_less items i item low is in
    let whole = expr_sized e in
    let same = ap items_size are in
    omega (arith, inside, whole, same)

pub floor_smaller : (x : Atom) (e inner : Expr) (k : ℤ) → x ≡ Floor e k → inner ≡ e → expr_size inner < atom_size x
floor_smaller x e inner k is same =
    let whole = ap atom_size is in let box = box_sized e in let own = ap expr_size same in omega (arith, whole, box, own)

pub ceil_smaller : (x : Atom) (e inner : Expr) (k : ℤ) → x ≡ Ceil e k → inner ≡ e → expr_size inner < atom_size x
ceil_smaller x e inner k is same =
    let whole = ap atom_size is in let box = box_sized e in let own = ap expr_size same in omega (arith, whole, box, own)

pub min_smaller : (x : Atom) (es inner : List Expr) → x ≡ Min es → inner ≡ es → list_size inner < atom_size x
min_smaller x es inner is same =
    let whole = ap atom_size is in let list = list_sized es in let own = ap list_size same in omega (arith, whole, list, own)

pub max_smaller : (x : Atom) (es inner : List Expr) → x ≡ Max es → inner ≡ es → list_size inner < atom_size x
max_smaller x es inner is same =
    let whole = ap atom_size is in let list = list_sized es in let own = ap list_size same in omega (arith, whole, list, own)

pub part_smaller : (es : List Expr) (i : ℕ) (e : Expr) → i < length es → e ≡ get_or es i e → expr_size e < list_size es
part_smaller [] i e low is = absurd (omega (arith, low))
part_smaller (x ∷ es) zero e low is = let same = ap expr_size is in omega (arith, same)
part_smaller (x ∷ es) (suc i) e low is = let rest = part_smaller es i e (omega (arith, low)) is in omega (arith, rest)
