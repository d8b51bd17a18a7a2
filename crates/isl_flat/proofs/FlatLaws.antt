-- Flattening at the constructors of the code.
use mathlib.Core.Former.{Count}
use Rattle.std.proofs.Common.{◌≡◌, ◌∙◌, ◌≤◌, ℕ, Bool, List, [], ◌∷◌, ◌++◌, reverse, Result, refl, sym, ap, subst, arith}
use Rattle.std.proofs.lemmas.List.{reverse-append, reverse-reverse}
use Rattle.isl_tree.specs.declared.statement.Stmt.{Stmt}
use Rattle.isl_tree.specs.declared.statement.Binary.TheVariants.{Gist}
use Rattle.isl_tree.specs.declared.statement.Prefix.{Prefix as Word}
use Rattle.isl_tree.specs.declared.statement.Link.{Link}
use Rattle.isl_tree.specs.declared.statement.Postfix.{Postfix}
use Rattle.isl_tree.specs.declared.statement.Expr.{Expr, Row, Prefix, Any, Last, Post, Row_of-Link, end_of-Link, more_of-Link}
use Rattle.isl_tree.specs.declared.statement.Expr.{Row_of-Postfix, end_of-Postfix, more_of-Postfix, items-the_row-Link}
use Rattle.isl_tree.specs.declared.statement.Expr.{items-the_row-Postfix}
use Rattle.isl_tree.specs.declared.statement.Expr.{items_hidden-the_row-Link-1, items_hidden-the_row-Postfix-2}
use Rattle.isl_tree.specs.declared.statement.Expr.TheBlock.{hidden-the_row-Expr-0, hidden-the_row-Link-1, hidden-the_row-Postfix-2}
use Rattle.isl_flat.specs.declared.flattening.Standing.{Standing}
use Rattle.isl_flat.specs.Flat.{Flattened, Partial, Followed, is_gist_row, is_gist_alone, is_chosen, is_sample, flattened, nested}
use Rattle.isl_flat.specs.Flat.{nested_postfix}
use Rattle.isl_flat.specs.Flat.{settled_row, with_link, begun, ended, past_links, past_row, past_link, past_postfixes, past_post}
use Rattle.isl_flat.specs.Flat.{followed_by, followed, behind, unfollowed}
use Rattle.isl_flat.specs.Size.{size_of_links, size_of_postfixes}
use Rattle.isl_flat.proofs.SizeLaws.{links_with, postfixes_with}
use Rattle.isl_flat.specs.Flat.{behind_word, gist, link_of, named, operand_of, Leaves}

-- ---- what is chosen once

gist_is : (m : Count) (row : Row_of-Link m) → is_gist_row row ≡ is_gist_alone (items-the_row-Link m row)
gist_is m end_of-Link = refl
gist_is m (more_of-Link operator operand end_of-Link) = refl
gist_is m (more_of-Link operator operand (more_of-Link next other row)) = refl

pub is_chosen-Row : (first : Expr) (links : List Link) → is_chosen (Row first links) ≡ is_gist_alone links
unfolding hidden-the_row-Expr-0 denote.Hole.Carrier.hidden
is_chosen-Row first links = gist_is _ (hidden-the_row-Link-1 links) ∙ ap is_gist_alone (items_hidden-the_row-Link-1 links)

pub is_chosen-Prefix : (word : Word) (operand : Expr) → is_chosen (Prefix word operand) ≡ is_sample word
unfolding hidden-the_row-Expr-0 denote.Hole.Carrier.hidden
is_chosen-Prefix word operand = refl

pub chosen-Row : (x first : Expr) (links : List Link) (b : Bool) → x ≡ Row first links → b ≡ is_gist_alone links → b ≡ is_chosen x
chosen-Row x first links b is alone = alone ∙ sym (ap is_chosen is ∙ is_chosen-Row first links)

pub chosen-Prefix : (x operand : Expr) (word : Word) (b : Bool) → x ≡ Prefix word operand → b ≡ is_sample word → b ≡ is_chosen x
chosen-Prefix x operand word b is sample = sample ∙ sym (ap is_chosen is ∙ is_chosen-Prefix word operand)

pub ruleset chosen = (chosen-Row, chosen-Prefix)

-- ---- rows

links_are : (m : Count) (p : Partial) (row : Row_of-Link m) → past_links p row ≡ past_row p (items-the_row-Link m row)
links_are m p end_of-Link = refl
links_are m p (more_of-Link operator operand row) =
    links_are _ (with_link operator (settled_row p) (nested (settled_row p).statements operand)) row

postfixes_are : (m : Count) (p : Followed) (row : Row_of-Postfix m) → past_postfixes p row ≡ past_post p (items-the_row-Postfix m row)
postfixes_are m p end_of-Postfix = refl
postfixes_are m p (more_of-Postfix postfix row) = postfixes_are _ (followed_by p (nested_postfix p.statements postfix)) row

-- ---- expressions

flattened-Row : (standing : Standing) (old : List Stmt) (first : Expr) (links : List Link)
    → flattened standing old (Row first links) ≡ ended (past_row (begun (nested old first)) links)
unfolding hidden-the_row-Expr-0 denote.Hole.Carrier.hidden
flattened-Row standing old first links = ap ended
    (links_are _ (begun (nested old first)) (hidden-the_row-Link-1 links)
    ∙ ap (past_row (begun (nested old first))) (items_hidden-the_row-Link-1 links))

flattened-Post : (standing : Standing) (old : List Stmt) (operand : Expr) (postfixes : List Postfix)
    → flattened standing old (Post operand postfixes) ≡ followed (nested old operand) postfixes
unfolding hidden-the_row-Expr-0 denote.Hole.Carrier.hidden
flattened-Post standing old operand postfixes = ap (behind (nested old operand).1)
    (postfixes_are _ (unfollowed (nested old operand).0) (hidden-the_row-Postfix-2 postfixes)
    ∙ ap (past_post (unfollowed (nested old operand).0)) (items_hidden-the_row-Postfix-2 postfixes))

flattened-Prefix : (standing : Standing) (old : List Stmt) (word : Word) (operand : Expr)
    → flattened standing old (Prefix word operand) ≡ behind_word word (operand_of standing word (nested old operand))
unfolding hidden-the_row-Expr-0 denote.Hole.Carrier.hidden
flattened-Prefix standing old word operand = refl

-- three operands, from the left
three : (Expr → Expr → Expr → Expr) → List Stmt → Expr → Expr → Expr → Flattened
three made old a b c =
    let f = nested old a in
    let g = nested f.0 b in
    let h = nested g.0 c in
    (h.0, made f.1 g.1 h.1)

three_are : (made : Expr → Expr → Expr → Expr) (old one two new : List Stmt) (a b c p q r : Expr) → nested old a ≡ (one, p)
    → nested one b ≡ (two, q) → nested two c ≡ (new, r) → three made old a b c ≡ (new, made p q r)
unfolding three
three_are made old one two new a b c p q r first second third =
    ap (λ (f : Flattened). let g = nested f.0 b in let h = nested g.0 c in (h.0, made f.1 g.1 h.1)) first
    ∙ ap (λ (g : Flattened). let h = nested g.0 c in (h.0, made p g.1 h.1)) second
    ∙ ap (λ (h : Flattened). (h.0, made p q h.1)) third

flattened-Any : (standing : Standing) (old : List Stmt) (a b c : Expr) → flattened standing old (Any a b c) ≡ three Any old a b c
unfolding three hidden-the_row-Expr-0 denote.Hole.Carrier.hidden
flattened-Any standing old a b c = refl

flattened-Last : (standing : Standing) (old : List Stmt) (a b c : Expr) → flattened standing old (Last a b c) ≡ three Last old a b c
unfolding three hidden-the_row-Expr-0 denote.Hole.Carrier.hidden
flattened-Last standing old a b c = refl

-- ---- what the code answers

pub at-Row : {E : Type 0} (standing : Standing) (old new : List Stmt) (x first : Expr) (links : List Link) (r : Result Expr E)
    → x ≡ Row first links
    → Leaves (ended (past_row (begun (nested old first)) links)) r new → Leaves (flattened standing old x) r new
at-Row standing old new x first links r is left =
    subst (λ (f : Flattened). Leaves f r new) (sym (ap (flattened standing old) is ∙ flattened-Row standing old first links)) left

pub at-Post : {E : Type 0} (standing : Standing) (old new : List Stmt) (x operand : Expr) (postfixes : List Postfix) (r : Result Expr E)
    → x ≡ Post operand postfixes → Leaves (followed (nested old operand) postfixes) r new → Leaves (flattened standing old x) r new
at-Post standing old new x operand postfixes r is left =
    subst (λ (f : Flattened). Leaves f r new) (sym (ap (flattened standing old) is ∙ flattened-Post standing old operand postfixes)) left

pub at-Prefix : (standing : Standing) (old new : List Stmt) (x operand r : Expr) (word : Word) → x ≡ Prefix word operand
    → operand_of standing word (nested old operand) ≡ (new, r) → flattened standing old x ≡ (new, Prefix word r)
at-Prefix standing old new x operand r word is made =
    ap (flattened standing old) is ∙ flattened-Prefix standing old word operand ∙ ap (behind_word word) made

pub at-Any : (standing : Standing) (old one two new : List Stmt) (x a b c p q r : Expr) → x ≡ Any a b c → nested old a ≡ (one, p)
    → nested one b ≡ (two, q) → nested two c ≡ (new, r) → flattened standing old x ≡ (new, Any p q r)
at-Any standing old one two new x a b c p q r is first second third =
    ap (flattened standing old) is ∙ flattened-Any standing old a b c ∙ three_are Any old one two new a b c p q r first second third

pub at-Last : (standing : Standing) (old one two new : List Stmt) (x a b c p q r : Expr) → x ≡ Last a b c → nested old a ≡ (one, p)
    → nested one b ≡ (two, q) → nested two c ≡ (new, r) → flattened standing old x ≡ (new, Last p q r)
at-Last standing old one two new x a b c p q r is first second third =
    ap (flattened standing old) is ∙ flattened-Last standing old a b c ∙ three_are Last old one two new a b c p q r first second third

-- ---- loops

pub row_on : (p q : Partial) (rest new : List Link) (link : Link) → rest ≡ new ++ link ∷ [] → past_link p link ≡ q
    → past_row q (reverse new) ≡ past_row p (reverse rest)
row_on p q rest new link is step =
    ap (λ (s : Partial). past_row s (reverse new)) (sym step)
    ∙ sym (ap (past_row p) (ap reverse is ∙ reverse-append new (link ∷ [])))

pub post_on : (s0 s1 : List Stmt) (kept more : List Postfix) (postfix r : Postfix) (rest new : List Postfix) → rest ≡ new ++ postfix ∷ []
    → nested_postfix s0 postfix ≡ (s1, r) → more ≡ kept ++ r ∷ []
    → past_post (record { statements = s1; postfixes = more }) (reverse new) ≡
    past_post (record { statements = s0; postfixes = kept }) (reverse rest)
post_on s0 s1 kept more postfix r rest new is step grown =
    ap (λ (ps : List Postfix). past_post (record { statements = s1; postfixes = ps }) (reverse new)) grown
    ∙ ap (λ (q : List Stmt × Postfix). past_post (followed_by (record { statements = s0; postfixes = kept }) q) (reverse new)) (sym step)
    ∙ sym (ap (past_post (record { statements = s0; postfixes = kept })) (ap reverse is ∙ reverse-append new (postfix ∷ [])))

pub postfixes_end : (s0 s1 : List Stmt) (kept0 kept postfixes rest0 rest : List Postfix) → kept0 ≡ [] → rest0 ≡ reverse postfixes
    → rest ≡ []
    → past_post (record { statements = s1; postfixes = kept }) (reverse rest) ≡
    past_post (record { statements = s0; postfixes = kept0 }) (reverse rest0)
    → past_post (unfollowed s0) postfixes ≡ record { statements = s1; postfixes = kept }
postfixes_end s0 s1 kept0 kept postfixes rest0 rest none turned done same =
    ap (past_post (unfollowed s0)) (sym (reverse-reverse postfixes) ∙ ap reverse (sym turned))
    ∙ ap (λ (ps : List Postfix). past_post (record { statements = s0; postfixes = ps }) (reverse rest0)) (sym none)
    ∙ sym same
    ∙ ap (λ (ps : List Postfix). past_post (record { statements = s1; postfixes = kept }) (reverse ps)) done

pub followed_is : (old s0 s1 : List Stmt) (operand e0 b : Expr) (kept postfixes : List Postfix) → nested old operand ≡ (s0, e0)
    → past_post (unfollowed s0) postfixes ≡ record { statements = s1; postfixes = kept } → b ≡ e0
    → followed (nested old operand) postfixes ≡ (s1, Post b kept)
followed_is old s0 s1 operand e0 b kept postfixes first rest boxed =
    ap (λ (f : Flattened). followed f postfixes) first ∙ ap (behind e0) rest ∙ ap (λ (x : Expr). (s1, Post x kept)) (sym boxed)

pub fewer_links : (rest new : List Link) (link : Link) (n : ℕ) → rest ≡ new ++ link ∷ [] → size_of_links rest ≤ n → size_of_links new ≤ n
fewer_links rest new link n is few =
    let size = ap size_of_links is ∙ links_with new link in
    omega (arith, size, few)

pub fewer_postfixes : (rest new : List Postfix) (postfix : Postfix) (n : ℕ) → rest ≡ new ++ postfix ∷ [] → size_of_postfixes rest ≤ n
    → size_of_postfixes new ≤ n
fewer_postfixes rest new postfix n is few =
    let size = ap size_of_postfixes is ∙ postfixes_with new postfix in
    omega (arith, size, few)

-- ---- `%` between two names

abbrev behind_gist : Expr → Flattened → Partial
behind_gist left r = record { statements = r.0; first = left; links = link_of Gist r.1 ∷ [] }

pub gist_of : (old one two : List Stmt) (left right first operand : Expr) (none links : List Link) (link : Link)
    → named (old, left) ≡ (one, first) → named (one, right) ≡ (two, operand) → none ≡ [] → link ≡ link_of Gist operand
    → links ≡ none ++ link ∷ [] → gist left right old ≡ record { statements = two; first = first; links = links }
gist_of old one two left right first operand none links link is_first is_operand empty is made =
    ap (λ (f : Flattened). behind_gist f.1 (named (f.0, right))) is_first
    ∙ ap (behind_gist first) is_operand
    ∙ ap (λ (ls : List Link). record { statements = two; first = first; links = ls })
    (ap (λ (l : Link). l ∷ []) (sym is) ∙ ap (λ (ls : List Link). ls ++ link ∷ []) (sym empty) ∙ sym made)
