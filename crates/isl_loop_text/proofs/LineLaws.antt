-- Loops and their lines, at the constructors of the code.
use mathlib.Core.Former.{Count}
use Rattle.std.proofs.Common.{◌≡◌, ◌∙◌, refl, sym, ap, ap₂, arith, ℕ, zero, suc, ◌+◌, ◌<◌, ◌≤◌, ℤ}
use Rattle.std.proofs.Common.{List, [], ◌∷◌, ◌++◌, length, get_or, drop}
use Rattle.std.specs.Prelude.{codes, unsigned_abs}
use Rattle.std.specs.Fmt.{decimal}
use Rattle.std.proofs.lemmas.List.{append_assoc, append-nil, drop_more, drop_all, length-append}
use Rattle.isl_space.specs.Name.{Name}
use Rattle.isl_piece.specs.declared.row.Row.{Row}
use Rattle.isl_row_text.specs.Joined.{Text}
use Rattle.isl_row_text.specs.Naming.{free_name, numbered}
use Rattle.isl_row_text.proofs.NamingLaws.{length-numbered}
use Rattle.isl_loop.specs.declared.tree.Expr.{Expr}
use Rattle.isl_loop.specs.declared.tree.Loop.{Loop, Block, For, If, Row_of-Loop, end_of-Loop, more_of-Loop}
use Rattle.isl_loop.specs.declared.tree.Loop.{items-the_row-Loop, items_hidden-the_row-Loop-0}
use Rattle.isl_loop.specs.declared.tree.Loop.TheBlock.{hidden-the_row-Loop-0, hidden-the_row-Loop-1}
use Rattle.isl_loop_text.specs.ExprText.{expr_text}
use Rattle.isl_loop_text.specs.LoopText.{variable, names_inside, line, range_text, for_text, if_text, loop_lines, lines_in}
use Rattle.isl_loop_text.specs.Rest.{lines_of, depth_of, IsScope}
use Rattle.isl_loop_text.specs.Size.{loop_size, loops_size, parts_size}

-- ---- names
numbered_last : (params : List Name) (letter : Name) (first count last : ℕ) → last ≡ first + count
    → numbered params letter first (suc count) ≡ numbered params letter first count ++ free_name params (letter ++ decimal last) ∷ []
numbered_last params letter first zero last is =
    let same : first ≡ last = omega (arith, is) in ap (λ (n : ℕ). free_name params (letter ++ decimal n) ∷ []) same
numbered_last params letter first (suc count) last is =
    ap (λ l. free_name params (letter ++ decimal first) ∷ l) (numbered_last params letter (first + 1) count last (omega (arith, is)))

-- one loop further inside
names_more : (params : List Name) (depth : ℕ) → names_inside params depth ++ variable params depth ∷ [] ≡ names_inside params (suc depth)
names_more params depth =
    append_assoc params (numbered params (codes "c") 0 depth) (variable params depth ∷ [])
    ∙ ap (λ l. params ++ l) (sym (numbered_last params (codes "c") 0 depth depth (omega arith)))

length-names : (params : List Name) (depth : ℕ) → length (names_inside params depth) ≡ length params + depth
length-names params depth =
    let all = length-append params (numbered params (codes "c") 0 depth) in
    let variables = length-numbered params (codes "c") 0 depth in
    omega (arith, all, variables)

pub scope_enough : (params names : List Name) → IsScope params names → length params ≤ length names
scope_enough params names scope = let all = ap length scope ∙ length-names params (depth_of params names) in omega (arith, all)

-- with the variable of a loop
pub scope_more : (params names more : List Name) (name : Name) → IsScope params names → name ≡ variable params (depth_of params names)
    → more ≡ names ++ name ∷ [] → IsScope params more × (depth_of params more ≡ suc (depth_of params names))
scope_more params names more name scope is pushed =
    let depth = depth_of params names in
    let here : more ≡ names_inside params (suc depth) = pushed ∙ ap₂ (λ l n. l ++ n ∷ []) scope is ∙ names_more params depth in
    let long = ap length here ∙ length-names params (suc depth) in
    let deep : depth_of params more ≡ suc depth = omega (arith, long) in
    (here ∙ ap (names_inside params) (sym deep), deep)

pub scope_first : (params names : List Name) → names ≡ params → IsScope params names × (depth_of params names ≡ 0)
scope_first params names is =
    let long = ap length is in
    let none : depth_of params names ≡ 0 = omega (arith, long) in
    (is ∙ sym (append-nil params) ∙ ap (names_inside params) (sym none), none)

-- ---- lines
lines_are : (m : Count) (row : Row_of-Loop m) (params : List Name) (depth : ℕ) (margin : Text)
    → lines_in params depth margin row ≡ lines_of params depth margin (items-the_row-Loop m row)
lines_are m end_of-Loop params depth margin = refl
lines_are m (more_of-Loop part row) params depth margin =
    ap (λ t. loop_lines params depth margin part ++ t) (lines_are _ row params depth margin)

pub block_lines : (params : List Name) (depth : ℕ) (margin : Text) (parts : List Loop)
    → loop_lines params depth margin (Block parts) ≡ lines_of params depth margin parts
block_lines params depth margin parts =
    lines_are _ (hidden-the_row-Loop-0 parts) params depth margin ∙ ap (lines_of params depth margin) (items_hidden-the_row-Loop-0 parts)

body_lines : (params : List Name) (depth : ℕ) (margin : Text) (body : Loop)
    → lines_in params depth margin (hidden-the_row-Loop-1 body) ≡ loop_lines params depth margin body
unfolding hidden-the_row-Loop-1 denote.Hole.Carrier.hidden
body_lines params depth margin body = append-nil (loop_lines params depth margin body)

-- a loop's step: a part
pub parts_more : (params : List Name) (depth : ℕ) (margin : Text) (parts : List Loop) (i : ℕ) (part : Loop) (before after whole : Text)
    → i < length parts → part ≡ get_or parts i part → after ≡ before ++ loop_lines params depth margin part
    → before ++ lines_of params depth margin (drop i parts) ≡ whole → after ++ lines_of params depth margin (drop (i + 1) parts) ≡ whole
parts_more params depth margin parts i part before after whole low at more so_far =
    let rest = lines_of params depth margin (drop (i + 1) parts) in
    let here : drop i parts ≡ part ∷ drop (i + 1) parts = drop_more parts i part low ∙ ap (λ y. y ∷ drop (i + 1) parts) (sym at) in
    ap (λ t. t ++ rest) more ∙ append_assoc before (loop_lines params depth margin part) rest
    ∙ ap (λ l. before ++ lines_of params depth margin l) (sym here) ∙ so_far

pub parts_end : (params : List Name) (depth : ℕ) (margin : Text) (parts : List Loop) (i : ℕ) (before whole : Text) → length parts ≤ i
    → before ++ lines_of params depth margin (drop i parts) ≡ whole → before ≡ whole
parts_end params depth margin parts i before whole over so_far =
    sym (ap (λ l. before ++ lines_of params depth margin l) (drop_all i parts over) ∙ append-nil before) ∙ so_far

pub ruleset parts = (parts_more, parts_end)

-- the step, as the code holds it
pub step_same : (stepped ranged : Text) (step held : ℤ) → stepped ≡ ranged ++ decimal (unsigned_abs held) ++ codes ") {" ++ 10 ∷ []
    → held ≡ step → stepped ≡ ranged ++ decimal (unsigned_abs step) ++ codes ") {" ++ 10 ∷ []
step_same stepped ranged step held written same =
    written ∙ ap (λ (z : ℤ). ranged ++ decimal (unsigned_abs z) ++ codes ") {" ++ 10 ∷ []) same

-- what is written of a loop, part after part
pub for_lines : (params names : List Name) (margin : Text) (low high : Expr) (step : ℤ) (body : Loop) (name : Name)
    (old margined ranged stepped new : Text) → IsScope params names → name ≡ variable params (depth_of params names)
    → margined ≡ old ++ margin → ranged ≡ margined ++ range_text name (expr_text names low) (expr_text names high)
    → stepped ≡ ranged ++ decimal (unsigned_abs step) ++ codes ") {" ++ 10 ∷ []
    → new ≡ stepped ++ loop_lines params (suc (depth_of params names)) (margin ++ codes "  ") body ++ line margin (codes "}")
    → new ≡ old ++ loop_lines params (depth_of params names) margin (For low high step body)
for_lines params names margin low high step body name old margined ranged stepped new scope is a b c d =
    let depth = depth_of params names in
    let range = range_text name (expr_text names low) (expr_text names high) in
    let inner = names_inside params depth in
    let first : range ≡ range_text (variable params depth) (expr_text inner low) (expr_text inner high) =
    ap₂ (λ (ns : List Name) n. range_text n (expr_text ns low) (expr_text ns high)) scope is in
    let lines = loop_lines params (suc depth) (margin ++ codes "  ") body in
    let end = line margin (codes "}") in
    let size = decimal (unsigned_abs step) in
    let head = line margin (for_text (variable params depth) (expr_text inner low) (expr_text inner high) step) in
    d ∙ ap (λ t. t ++ lines ++ end) (c ∙ ap (λ t. t ++ size ++ codes ") {" ++ 10 ∷ []) (b ∙ ap (λ t. t ++ range) a))
    ∙ regroup old margin range size (codes ") {") lines end
    ∙ ap (λ r. old ++ (line margin (r ++ size ++ codes ") {") ++ lines ++ end)) first
    ∙ ap (λ t. old ++ (head ++ t ++ end)) (sym (body_lines params (suc depth) (margin ++ codes "  ") body))
  where
    regroup : (old m r d e l n : Text)
        → old ++ m ++ r ++ d ++ e ++ (10 ∷ []) ++ l ++ n ≡ old ++ ((m ++ (r ++ d ++ e) ++ (10 ∷ [])) ++ l ++ n)
    regroup old m r d e l n = simp append_assoc

pub if_lines : (params names : List Name) (margin : Text) (rows : List Row) (body : Loop) (old margined opened new : Text)
    → IsScope params names
    → margined ≡ old ++ margin → opened ≡ margined ++ if_text names rows ++ 10 ∷ []
    → new ≡ opened ++ loop_lines params (depth_of params names) (margin ++ codes "  ") body ++ line margin (codes "}")
    → new ≡ old ++ loop_lines params (depth_of params names) margin (If rows body)
if_lines params names margin rows body old margined opened new scope a b c =
    let depth = depth_of params names in
    let lines = loop_lines params depth (margin ++ codes "  ") body in
    let end = line margin (codes "}") in
    let head = line margin (if_text (names_inside params depth) rows) in
    c ∙ ap (λ t. t ++ lines ++ end) (b ∙ ap (λ t. t ++ if_text names rows ++ 10 ∷ []) a)
    ∙ regroup old margin (if_text names rows) lines end
    ∙ ap (λ (ns : List Name). old ++ (line margin (if_text ns rows) ++ lines ++ end)) scope
    ∙ ap (λ t. old ++ (head ++ t ++ end)) (sym (body_lines params depth (margin ++ codes "  ") body))
  where
    regroup : (old m i l n : Text) → old ++ m ++ i ++ (10 ∷ []) ++ l ++ n ≡ old ++ ((m ++ i ++ (10 ∷ [])) ++ l ++ n)
    regroup old m i l n = simp append_assoc

-- ---- sizes
parts_sized : (m : Count) (row : Row_of-Loop m) → loops_size row ≡ parts_size (items-the_row-Loop m row)
parts_sized m end_of-Loop = refl
parts_sized m (more_of-Loop part row) = ap (λ (n : ℕ). 2 + loop_size part + n) (parts_sized _ row)

inside_sized : (parts : List Loop) → loops_size (hidden-the_row-Loop-0 parts) ≡ parts_size parts
inside_sized parts = parts_sized _ (hidden-the_row-Loop-0 parts) ∙ ap parts_size (items_hidden-the_row-Loop-0 parts)

body_sized : (body : Loop) → loops_size (hidden-the_row-Loop-1 body) ≡ 2 + loop_size body + 0
unfolding hidden-the_row-Loop-1 denote.Hole.Carrier.hidden
body_sized body = refl

pub block_smaller : (x : Loop) (parts inner : List Loop) → x ≡ Block parts → inner ≡ parts → parts_size inner < loop_size x
block_smaller x parts inner is same =
    let whole = ap loop_size is in let list = inside_sized parts in let own = ap parts_size same in omega (arith, whole, list, own)

pub for_smaller : (x : Loop) (low high : Expr) (step : ℤ) (body inner : Loop) → x ≡ For low high step body → inner ≡ body
    → 1 + loop_size inner < loop_size x
for_smaller x low high step body inner is same =
    let whole = ap loop_size is in let box = body_sized body in let own = ap loop_size same in omega (arith, whole, box, own)

pub if_smaller : (x : Loop) (rows : List Row) (body inner : Loop) → x ≡ If rows body → inner ≡ body → 1 + loop_size inner < loop_size x
if_smaller x rows body inner is same =
    let whole = ap loop_size is in let box = body_sized body in let own = ap loop_size same in omega (arith, whole, box, own)

pub part_smaller : (parts : List Loop) (i : ℕ) (part : Loop) → i < length parts → part ≡ get_or parts i part
    → loop_size part < parts_size parts
part_smaller [] i part low is = absurd (omega (arith, low))
part_smaller (x ∷ parts) zero part low is = let same = ap loop_size is in omega (arith, same)
part_smaller (x ∷ parts) (suc i) part low is = let rest = part_smaller parts i part (omega (arith, low)) is in omega (arith, rest)
