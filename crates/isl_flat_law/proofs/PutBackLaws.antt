-- What the simple statements name, put back into the last of them, gives their statement.
use mathlib.Core.Former.{Count}
use Rattle.std.proofs.Common.{◌≡◌, ◌∙◌, ◌+◌, ◌<◌, ◌≤◌, ◌⊎◌, ◌^◌, inl, inr, ℕ, Bool, true, false, List, [], ◌∷◌, ◌++◌, append_assoc}
use Rattle.std.proofs.Common.{length, refl, sym, ap, ap₂, subst, arith, if◌then◌else◌}
use Rattle.std.specs.List.{list_any}
use Rattle.std.specs.Str.{bytes_eq}
use Rattle.std.proofs.lemmas.Bool.{false≢true}
use Rattle.std.proofs.lemmas.List.{length-append, append-nil}
use Rattle.std.proofs.lemmas.Slice.Eq.{bytes_eq-Decides}
use Rattle.isl_space.specs.Name.{Name}
use Rattle.isl_tree.specs.declared.statement.Binary.{Binary}
use Rattle.isl_tree.specs.declared.statement.Binary.TheVariants.{Gist}
use Rattle.isl_tree.specs.declared.statement.Prefix.{Prefix as Word}
use Rattle.isl_tree.specs.declared.statement.Stmt.{Stmt}
use Rattle.isl_tree.specs.declared.statement.Stmt.TheVariants.{Empty, Bind, Show, Assume}
use Rattle.isl_tree.specs.declared.statement.Postfix.{Postfix, Inverse, Apply, Item}
use Rattle.isl_tree.specs.declared.statement.Expr as e
use Rattle.isl_tree.specs.declared.statement.Expr.{Expr, Row', Prefix', Any', Last', Post', Row_of-Expr, end_of-Expr, more_of-Expr}
use Rattle.isl_tree.specs.declared.statement.Expr.{Row_of-Link, end_of-Link, more_of-Link, Row_of-Postfix, end_of-Postfix, more_of-Postfix}
use Rattle.isl_kinds.specs.Parts.{Part, parts_of, parts_in, parts_in_links, parts_in_postfixes, parts_of_postfix, parts_of_links}
use Rattle.isl_kinds.specs.Parts.{parts_of_postfixes}
use Rattle.isl_kinds.specs.Parts as part
use Rattle.isl_flat.specs.declared.flattening.Standing.{Standing}
use Rattle.isl_flat.specs.declared.flattening.Standing.TheVariants.{Outermost, Inside}
use Rattle.isl_flat.specs.Flat.{Flattened, Partial, Followed, dollar, bound, named, is_name, is_gist, is_gist_alone, is_chosen, settled}
use Rattle.isl_flat.specs.Flat.{whole, begun, settled_row, link_of, gist, with_link, names_operand, operand_of, followed_by}
use Rattle.isl_flat.specs.Flat.{behind, unfollowed, flattened, nested_in, past_links, past_postfixes, nested_postfix, nested, ended}
use Rattle.isl_flat.specs.Flat.{outermost, flat}
use Rattle.isl_flat.specs.Simple.{chooses, names_dollar, has_dollar}
use Rattle.isl_flat_law.specs.PutBack.{Meaning, operation, put_in, put_in_box, put_in_links, put_in_postfixes, put_in_postfix, put_in_row}
use Rattle.isl_flat_law.specs.PutBack.{put_in_post, put_in_statement, itself, also, put_back, Say}
use Rattle.isl_flat_law.proofs.EachLaws.{Each, each_weaker, each_quiet, each_left, each_right}
use Rattle.isl_flat_law.proofs.KeptLaws as kept
use Rattle.isl_flat_law.proofs.KeptLaws.{gist_or_not}
use Rattle.isl_flat_law.proofs.ViewLaws.{IsLow, clear_blank}
use Rattle.isl_flat_law.proofs.PutInLaws.{HasLow, low_up, low_steady, low_plain, put_in-Post, put_in-Prefix, put_in-Any, put_in-Last}
use Rattle.isl_flat_law.proofs.PutInLaws.{put_in_whole, row_with, post_with, three_same, same, same_row, same_post}

-- ---- what names stand for behind statements

abbrev meant : Meaning → List Stmt → Meaning
meant named [] = named
meant named (Bind name expr ∷ rest) = meant (also named name (put_in named expr)) rest
meant named (_ ∷ rest) = meant named rest

put_back_ends : (named : Meaning) (made : List Stmt) (last : Stmt)
    → put_back named (made ++ last ∷ []) ≡ put_in_statement (meant named made) last
put_back_ends named [] last = refl
put_back_ends named (Bind name expr ∷ []) last = refl
put_back_ends named (Empty ∷ []) last = refl
put_back_ends named (Show expr ∷ []) last = refl
put_back_ends named (Assume set ∷ []) last = refl
put_back_ends named (Bind name expr ∷ (next ∷ rest)) last = put_back_ends (also named name (put_in named expr)) (next ∷ rest) last
put_back_ends named (Empty ∷ (next ∷ rest)) last = put_back_ends named (next ∷ rest) last
put_back_ends named (Show expr ∷ (next ∷ rest)) last = put_back_ends named (next ∷ rest) last
put_back_ends named (Assume set ∷ (next ∷ rest)) last = put_back_ends named (next ∷ rest) last

meant_with : (named : Meaning) (made : List Stmt) (name : Name) (expr : Expr)
    → meant named (made ++ Bind name expr ∷ []) ≡ also (meant named made) name (put_in (meant named made) expr)
meant_with named [] name expr = refl
meant_with named (Bind other first ∷ made) name expr = meant_with (also named other (put_in named first)) made name expr
meant_with named (Empty ∷ made) name expr = meant_with named made name expr
meant_with named (Show first ∷ made) name expr = meant_with named made name expr
meant_with named (Assume set ∷ made) name expr = meant_with named made name expr

abbrev behind_all : List Stmt → Meaning
behind_all made = meant itself made

-- behind the later statements names stand for what they stood for
abbrev Agree : List Stmt → List Stmt → Type 0
Agree before later = (name : Name) → IsLow (length before) name → behind_all later name ≡ behind_all before name

agree_on : (first before later : List Stmt) → length first ≤ length before → Agree first before → Agree before later → Agree first later
agree_on first before later few one two =
    λ name low. two name (low_up (length first) (length before) name few low) ∙ one name low

-- ---- more statements

bound_more : (f : Flattened) → length (bound f).0 ≡ length f.0 + 1
bound_more f = length-append f.0 (Bind (dollar (length f.0 + 1)) f.1 ∷ [])

named_more : (f : Flattened) → length f.0 ≤ length (named f).0
named_more f = by (is_name f.1)
  where
    by : (b : Bool) → length f.0 ≤ length (if b then f else bound f).0
    by true = omega arith
    by false = let more = bound_more f in omega (arith, more)

settled_more : (f : Flattened) → length f.0 ≤ length (settled f).0
settled_more f = by (is_chosen f.1)
  where
    by : (b : Bool) → length f.0 ≤ length (if b then bound f else f).0
    by false = omega arith
    by true = let more = bound_more f in omega (arith, more)

operand_more : (standing : Standing) (word : Word) (f : Flattened) → length f.0 ≤ length (operand_of standing word f).0
operand_more standing word f = by (names_operand standing word)
  where
    by : (b : Bool) → length f.0 ≤ length (if b then named f else f).0
    by true = named_more f
    by false = omega arith

gist_more : (left right : Expr) (so_far : List Stmt) → length so_far ≤ length (gist left right so_far).statements
gist_more left right so_far =
    let one = named_more (so_far, left) in
    let two = named_more ((named (so_far, left)).0, right) in
    omega (arith, one, two)

with_link_more : (operator : Binary) (p : Partial) (f : Flattened) → length f.0 ≤ length (with_link operator p f).statements
with_link_more operator p f = by (is_gist operator)
  where
    by : (b : Bool) → length f.0 ≤ length (if b then gist (whole p.first p.links) f.1 f.0
        else record { statements = f.0; first = p.first; links = p.links ++ link_of operator f.1 ∷ [] }).statements
    by true = gist_more (whole p.first p.links) f.1 f.0
    by false = omega arith

-- ---- what is put back

-- behind the statements the expression says this, and names stand for what they stood for
record Back (old : List Stmt) (x : Expr) (f : Flattened) : Type 0 where
  pub agree : Agree old f.0
  pub says : put_in (behind_all f.0) f.1 ≡ x

record BackRow (old : List Stmt) (x : Expr) (p : Partial) : Type 0 where
  pub agree : Agree old p.statements
  pub says : put_in_row (behind_all p.statements) (put_in (behind_all p.statements) p.first) p.links ≡ x

record BackPost (old : List Stmt) (xs : List Postfix) (p : Followed) : Type 0 where
  pub agree : Agree old p.statements
  pub says : put_in_post (behind_all p.statements) p.postfixes ≡ xs

record BackPostfix (old : List Stmt) (x : Postfix) (q : List Stmt × Postfix) : Type 0 where
  pub agree : Agree old q.0
  pub says : put_in_postfix (behind_all q.0) q.1 ≡ x

clear_of : (k : ℕ) (ps : List Part) → Each (λ p. HasLow k p × (chooses p ≡ false)) ps → Each (HasLow k) ps
clear_of k ps calm = each_weaker (λ p. HasLow k p × (chooses p ≡ false)) (HasLow k) (λ p h. h.0) ps calm

chosen_meaning : (b : Bool) (x y : Expr) → b ≡ true → (if b then x else y) ≡ x
chosen_meaning true x y is = refl
chosen_meaning false x y is = absurd (false≢true is)

other_meaning : (b : Bool) (x y : Expr) → ¬ (b ≡ true) → (if b then x else y) ≡ y
other_meaning true x y other = absurd (other refl)
other_meaning false x y other = refl

bound_back : (old : List Stmt) (x : Expr) (f : Flattened) → length old ≤ length f.0 → length (bound f).0 < 2 ^ 64 → Back old x f
    → Back old x (bound f)
bound_back old x f few small back =
    let name = dollar (length f.0 + 1) in
    let value = put_in (behind_all f.0) f.1 in
    let more = bound_more f in
    let is = meant_with itself f.0 name f.1 in record {
      agree = λ other low. ap (λ (m : Meaning). m other) is
          ∙ other_meaning (bytes_eq name other) value (behind_all f.0 other)
          (λ same. low (length f.0 + 1) (omega (arith, few)) (omega (arith, more, small)) (sym ((bytes_eq-Decides name other).0 same)))
          ∙ back.agree other low;
      says = ap (λ (m : Meaning). m name) is
          ∙ chosen_meaning (bytes_eq name name) value (behind_all f.0 name) ((bytes_eq-Decides name name).1 refl)
          ∙ back.says;
    }

named_back : (old : List Stmt) (x : Expr) (f : Flattened) → length old ≤ length f.0 → length (named f).0 < 2 ^ 64 → Back old x f
    → Back old x (named f)
named_back old x f few small back = by (is_name f.1) small
  where
    by : (b : Bool) → length (if b then f else bound f).0 < 2 ^ 64 → Back old x (if b then f else bound f)
    by true small_it = back
    by false small_it = bound_back old x f few small_it back

settled_back : (old : List Stmt) (x : Expr) (f : Flattened) → length old ≤ length f.0 → length (settled f).0 < 2 ^ 64 → Back old x f
    → Back old x (settled f)
settled_back old x f few small back = by (is_chosen f.1) small
  where
    by : (b : Bool) → length (if b then bound f else f).0 < 2 ^ 64 → Back old x (if b then bound f else f)
    by true small_it = bound_back old x f few small_it back
    by false small_it = back

whole_back : (old : List Stmt) (x : Expr) (p : Partial) → BackRow old x p → Back old x (ended p)
whole_back old x p back =
    record { agree = back.agree; says = put_in_whole (behind_all p.statements) p.first p.links ∙ back.says }

begun_back : (old : List Stmt) (x : Expr) (f : Flattened) → Back old x f → BackRow old x (begun f)
begun_back old x f back = record { agree = back.agree; says = back.says }

settled_row_back : (old : List Stmt) (x : Expr) (p : Partial) → length old ≤ length p.statements
    → length (settled_row p).statements < 2 ^ 64 → BackRow old x p → BackRow old x (settled_row p)
settled_row_back old x p few small back = by (is_gist_alone p.links) small
  where
    by : (b : Bool) → length (if b then begun (bound (p.statements, whole p.first p.links)) else p).statements < 2 ^ 64
        → BackRow old x (if b then begun (bound (p.statements, whole p.first p.links)) else p)
    by true small_it = begun_back old x (bound (ended p)) (bound_back old x (ended p) few small_it (whole_back old x p back))
    by false small_it = back

gist_back : (old so_far : List Stmt) (left right x y : Expr) → length old ≤ length so_far → Agree old so_far
    → kept.Fine HasLow low_steady 0 so_far → kept.IsCalm HasLow low_steady (length so_far) left
    → kept.IsCalm HasLow low_steady (length so_far) right → put_in (behind_all so_far) left ≡ x → put_in (behind_all so_far) right ≡ y
    → length (gist left right so_far).statements < 2 ^ 64 → BackRow old (operation Gist x y) (gist left right so_far)
gist_back old so_far left right x y few agree fine calm_left calm_right left_is right_is small =
    let l = named (so_far, left) in
    let r = named (l.0, right) in
    let l_more = named_more (so_far, left) in
    let r_more = named_more (l.0, right) in
    let l_made = kept.named_made HasLow low_steady so_far (so_far, left)
    (record { fine = fine; more = omega arith; expr = calm_left }) in
    let l_back = named_back so_far x (so_far, left) (omega arith) (omega (arith, r_more, small))
    (record { agree = λ name low. refl; says = left_is }) in
    let right_later = same (length so_far) (behind_all l.0) (behind_all so_far) l_back.agree right
    (clear_of (length so_far) (parts_of right) calm_right) in
    let r_back = named_back l.0 y (l.0, right) (omega arith) small
    (record { agree = λ name low. refl; says = right_later ∙ right_is }) in
    let left_later = same (length l.0) (behind_all r.0) (behind_all l.0) r_back.agree l.1
    (clear_of (length l.0) (parts_of l.1) l_made.expr.0) in record {
      agree = agree_on old so_far r.0 few agree (agree_on so_far l.0 r.0 l_more l_back.agree r_back.agree);
      says = ap₂ (operation Gist) (left_later ∙ l_back.says) r_back.says;
    }

with_link_back : (old : List Stmt) (operator : Binary) (p : Partial) (f : Flattened) (x y : Expr)
    → kept.MadeRow HasLow low_steady (kept.IsCalmRow HasLow low_steady) old p
    → kept.Made HasLow low_steady (kept.IsCalm HasLow low_steady) p.statements f → BackRow old x p → Back p.statements y f
    → length (with_link operator p f).statements < 2 ^ 64 → BackRow old (operation operator x y) (with_link operator p f)
with_link_back old operator p f x y row made row_back back small = by (gist_or_not operator)
  where
    k : ℕ
    k = length p.statements

    few : length old ≤ length f.0
    few = omega (arith, row.more, made.more)

    agree : Agree old f.0
    agree = agree_on old p.statements f.0 row.more row_back.agree back.agree

    row_later : put_in_row (behind_all f.0) (put_in (behind_all f.0) p.first) p.links ≡ x
    row_later =
        ap (λ (z : Expr). put_in_row (behind_all f.0) z p.links)
        (same k (behind_all f.0) (behind_all p.statements) back.agree p.first (clear_of k (parts_of p.first) row.row.first))
        ∙ same_row k (behind_all f.0) (behind_all p.statements) back.agree (put_in (behind_all p.statements) p.first) p.links
        (clear_of k (parts_of_links p.links) row.row.links)
        ∙ row_back.says

    by : (operator ≡ Gist) ⊎ ((is_gist operator ≡ false) × (chooses (part.operator operator) ≡ false))
        → BackRow old (operation operator x y) (with_link operator p f)
    by (inl is) =
        subst (λ (o : Binary). BackRow old (operation o x y) (with_link o p f)) (sym is)
        (gist_back old f.0 (whole p.first p.links) f.1 x y few agree made.fine
        (kept.calm_whole HasLow low_steady (length f.0) p.first p.links
        (kept.calm_up HasLow low_steady k (length f.0) (parts_of p.first) made.more row.row.first)
        (kept.calm_up HasLow low_steady k (length f.0) (parts_of_links p.links) made.more row.row.links))
        made.expr (put_in_whole (behind_all f.0) p.first p.links ∙ row_later) back.says
        (subst (λ (o : Binary). length (with_link o p f).statements < 2 ^ 64) is small))
    by (inr other) =
        subst (λ (b : Bool). BackRow old (operation operator x y)
        (if b then gist (whole p.first p.links) f.1 f.0
        else record { statements = f.0; first = p.first; links = p.links ++ link_of operator f.1 ∷ [] })) (sym other.0)
        (record {
          agree = agree;
          says = row_with (behind_all f.0) (put_in (behind_all f.0) p.first) p.links (link_of operator f.1)
              ∙ ap₂ (operation operator) row_later back.says;
        })

operand_back : (old : List Stmt) (x : Expr) (standing : Standing) (word : Word) (f : Flattened) → length old ≤ length f.0
    → length (operand_of standing word f).0 < 2 ^ 64 → Back old x f → Back old x (operand_of standing word f)
operand_back old x standing word f few small back = by (names_operand standing word) small
  where
    by : (b : Bool) → length (if b then named f else f).0 < 2 ^ 64 → Back old x (if b then named f else f)
    by true small_it = named_back old x f few small_it back
    by false small_it = back

followed_back : (old : List Stmt) (xs : List Postfix) (x : Postfix) (p : Followed) (q : List Stmt × Postfix)
    → length old ≤ length p.statements → Each (HasLow (length p.statements)) (parts_of_postfixes p.postfixes) → BackPost old xs p
    → BackPostfix p.statements x q → BackPost old (xs ++ x ∷ []) (followed_by p q)
followed_back old xs x p q few low back here = record {
  agree = agree_on old p.statements q.0 few back.agree here.agree;
  says = post_with (behind_all q.0) p.postfixes q.1
      ∙ ap₂ (λ (ys : List Postfix) (y : Postfix). ys ++ y ∷ [])
      (same_post (length p.statements) (behind_all q.0) (behind_all p.statements) here.agree p.postfixes low ∙ back.says) here.says;
}

behind_back : (old : List Stmt) (x : Expr) (xs : List Postfix) (f : Flattened) (p : Followed) → length old ≤ length f.0
    → Each (HasLow (length f.0)) (parts_of f.1) → Back old x f → BackPost f.0 xs p → Back old (e.Post x xs) (behind f.1 p)
behind_back old x xs f p few low back post = record {
  agree = agree_on old f.0 p.statements few back.agree post.agree;
  says = put_in-Post (behind_all p.statements) f.1 p.postfixes
      ∙ ap₂ e.Post (same (length f.0) (behind_all p.statements) (behind_all f.0) post.agree f.1 low ∙ back.says) post.says;
}

-- three operands, from the left
three_back : (made : Expr → Expr → Expr → Expr)
    → ((named : Meaning) (a b c : Expr) → put_in named (made a b c) ≡ made (put_in named a) (put_in named b) (put_in named c))
    → (old : List Stmt) (f g h : Flattened) (x y z : Expr) → length old ≤ length f.0 → length f.0 ≤ length g.0 → length g.0 ≤ length h.0
    → Each (HasLow (length f.0)) (parts_of f.1) → Each (HasLow (length g.0)) (parts_of g.1) → Back old x f → Back f.0 y g → Back g.0 z h
    → Back old (made x y z) (h.0, made f.1 g.1 h.1)
three_back made at old f g h x y z few few_g few_h low low_g one two three =
    let agree_f = agree_on f.0 g.0 h.0 few_g two.agree three.agree in record {
      agree = agree_on old f.0 h.0 few one.agree agree_f;
      says = at (behind_all h.0) f.1 g.1 h.1
          ∙ three_same made (put_in (behind_all h.0) f.1) (put_in (behind_all h.0) g.1) (put_in (behind_all h.0) h.1) x y z
          (same (length f.0) (behind_all h.0) (behind_all f.0) agree_f f.1 low ∙ one.says)
          (same (length g.0) (behind_all h.0) (behind_all g.0) three.agree g.1 low_g ∙ two.says)
          three.says;
    }

-- ---- expressions

-- at first each name stands for itself
base_on : (old new : List Stmt) → Agree [] old → Agree old new → Agree [] new
base_on old new base agree = agree_on [] old new (omega arith) base agree

links_more : (m : Count) (p : Partial) (row : Row_of-Link m) → kept.Fine HasLow low_steady 0 p.statements
    → kept.IsRow HasLow low_steady (length p.statements) p → Each (HasLow 0) (parts_in_links row)
    → length p.statements ≤ length (past_links p row).statements
links_more m p row fine made low =
    (kept.past_links_made HasLow low_steady m p.statements p row (record { fine = fine; more = omega arith; row = made }) low).more

settled_from : (old : List Stmt) (expr : Expr) → kept.Fine HasLow low_steady 0 old → Each (HasLow 0) (parts_of expr)
    → length (nested old expr).0 < 2 ^ 64
    → (length (flattened Inside old expr).0 < 2 ^ 64 → Back old (put_in itself expr) (flattened Inside old expr))
    → Back old (put_in itself expr) (nested old expr)
settled_from old expr fine low small inner =
    let f = flattened Inside old expr in
    let made = kept.flattened_made HasLow low_steady Inside old expr fine low in
    let more = settled_more f in
    settled_back old (put_in itself expr) f made.more small (inner (omega (arith, more, small)))

-- each of three operands behind those before it
three_from : (made : Expr → Expr → Expr → Expr)
    → ((named : Meaning) (a b c : Expr) → put_in named (made a b c) ≡ made (put_in named a) (put_in named b) (put_in named c))
    → (old : List Stmt) (f g h : Flattened) (x y z : Expr) → kept.Made HasLow low_steady (kept.IsCalm HasLow low_steady) old f
    → kept.Made HasLow low_steady (kept.IsCalm HasLow low_steady) f.0 g → kept.Made HasLow low_steady (kept.IsCalm HasLow low_steady) g.0 h
    → Agree [] old → length h.0 < 2 ^ 64 → (length f.0 < 2 ^ 64 → Back old x f) → (Agree [] f.0 → length g.0 < 2 ^ 64 → Back f.0 y g)
    → (Agree [] g.0 → length h.0 < 2 ^ 64 → Back g.0 z h) → Back old (made x y z) (h.0, made f.1 g.1 h.1)
three_from made at old f g h x y z f_made g_made h_made base small first second third =
    let one = first (omega (arith, g_made.more, h_made.more, small)) in
    let base_f = base_on old f.0 base one.agree in
    let two = second base_f (omega (arith, h_made.more, small)) in
    three_back made at old f g h x y z f_made.more g_made.more h_made.more (clear_of (length f.0) (parts_of f.1) f_made.expr)
    (clear_of (length g.0) (parts_of g.1) g_made.expr) one two (third (base_on f.0 g.0 base_f two.agree) small)

mutual
  flattened_back : (standing : Standing) (old : List Stmt) (expr : Expr) → kept.Fine HasLow low_steady 0 old
      → Each (HasLow 0) (parts_of expr) → Agree [] old → length (flattened standing old expr).0 < 2 ^ 64
      → Back old (put_in itself expr) (flattened standing old expr)
  flattened_back standing old (e.Name name) fine low base small = record { agree = λ other is_low. refl; says = base name low.0 }
  flattened_back standing old (e.Literal literal) fine low base small = record { agree = λ other is_low. refl; says = refl }
  flattened_back standing old (Row' s first t links) fine low base small =
      let low_first = each_left (HasLow 0) (parts_in first) (parts_in_links links) low in
      let low_links = each_right (HasLow 0) (parts_in first) (parts_in_links links) low in
      let f = nested_in old first in
      let made = kept.nested_in_made HasLow low_steady _ old first fine low_first in
      let begin = kept.row_of_calm HasLow low_steady old (begun f) (kept.begun_made HasLow low_steady old f made) in
      let more = links_more _ (begun f) links begin.fine begin.row low_links in
      let one = nested_in_back _ old first fine low_first base (omega (arith, more, small)) in
      whole_back old (put_in_links itself (put_in_box itself first) links) (past_links (begun f) links)
      (past_links_back _ old (put_in_box itself first) (begun f) links begin (begun_back old (put_in_box itself first) f one) low_links
      base small)
  flattened_back standing old (Prefix' word s operand) fine low base small =
      let f = nested_in old operand in
      let g = operand_of standing word f in
      let made = kept.nested_in_made HasLow low_steady _ old operand fine low.1 in
      let more = operand_more standing word f in
      let one = nested_in_back _ old operand fine low.1 base (omega (arith, more, small)) in
      let two = operand_back old (put_in_box itself operand) standing word f made.more small one in record {
        agree = two.agree;
        says = put_in-Prefix (behind_all g.0) word g.1 ∙ ap (e.Prefix word) two.says;
      }
  flattened_back standing old (Any' r source s sink t schedule) fine low base small =
      let lows = kept.three_parts HasLow low_steady (HasLow 0) (parts_in source) (parts_in sink) (parts_in schedule) low.1 in
      let f = nested_in old source in
      let g = nested_in f.0 sink in
      let f_made = kept.nested_in_made HasLow low_steady _ old source fine lows.0 in
      let g_made = kept.nested_in_made HasLow low_steady _ f.0 sink f_made.fine lows.1 in
      three_from e.Any (λ named a b c. put_in-Any named a b c) old f g (nested_in g.0 schedule) (put_in_box itself source)
      (put_in_box itself sink) (put_in_box itself schedule) f_made g_made
      (kept.nested_in_made HasLow low_steady _ g.0 schedule g_made.fine lows.2) base small
      (λ is. nested_in_back _ old source fine lows.0 base is)
      (λ on is. nested_in_back _ f.0 sink f_made.fine lows.1 on is)
      (λ on is. nested_in_back _ g.0 schedule g_made.fine lows.2 on is)
  flattened_back standing old (Last' r source s sink t schedule) fine low base small =
      let lows = kept.three_parts HasLow low_steady (HasLow 0) (parts_in source) (parts_in sink) (parts_in schedule) low.1 in
      let f = nested_in old source in
      let g = nested_in f.0 sink in
      let f_made = kept.nested_in_made HasLow low_steady _ old source fine lows.0 in
      let g_made = kept.nested_in_made HasLow low_steady _ f.0 sink f_made.fine lows.1 in
      three_from e.Last (λ named a b c. put_in-Last named a b c) old f g (nested_in g.0 schedule) (put_in_box itself source)
      (put_in_box itself sink) (put_in_box itself schedule) f_made g_made
      (kept.nested_in_made HasLow low_steady _ g.0 schedule g_made.fine lows.2) base small
      (λ is. nested_in_back _ old source fine lows.0 base is)
      (λ on is. nested_in_back _ f.0 sink f_made.fine lows.1 on is)
      (λ on is. nested_in_back _ g.0 schedule g_made.fine lows.2 on is)
  flattened_back standing old (Post' s operand t postfixes) fine low base small =
      let low_operand = each_left (HasLow 0) (parts_in operand) (parts_in_postfixes postfixes) low in
      let low_behind = each_right (HasLow 0) (parts_in operand) (parts_in_postfixes postfixes) low in
      let f = nested_in old operand in
      let made = kept.nested_in_made HasLow low_steady _ old operand fine low_operand in
      let begin : kept.MadePost HasLow low_steady f.0 (unfollowed f.0) = record { fine = made.fine; more = omega arith; parts = tt } in
      let more = kept.past_postfixes_made HasLow low_steady _ f.0 (unfollowed f.0) postfixes begin low_behind in
      let one = nested_in_back _ old operand fine low_operand base (omega (arith, more.more, small)) in
      behind_back old (put_in_box itself operand) (put_in_postfixes itself postfixes) f (past_postfixes (unfollowed f.0) postfixes)
      made.more (clear_of (length f.0) (parts_of f.1) made.expr) one
      (past_postfixes_back _ f.0 [] (unfollowed f.0) postfixes begin (record { agree = λ other is_low. refl; says = refl }) low_behind
      (base_on old f.0 base one.agree) small)

  nested_in_back : (m : Count) (old : List Stmt) (row : Row_of-Expr m) → kept.Fine HasLow low_steady 0 old
      → Each (HasLow 0) (parts_in row) → Agree [] old → length (nested_in old row).0 < 2 ^ 64
      → Back old (put_in_box itself row) (nested_in old row)
  nested_in_back m old end_of-Expr fine low base small = record { agree = λ other is_low. refl; says = base [] clear_blank }
  nested_in_back m old (more_of-Expr expr rest) fine low base small =
      settled_from old expr fine low small (λ is. flattened_back Inside old expr fine low base is)

  past_links_back : (m : Count) (old : List Stmt) (x : Expr) (p : Partial) (row : Row_of-Link m)
      → kept.MadeRow HasLow low_steady (kept.IsRow HasLow low_steady) old p → BackRow old x p → Each (HasLow 0) (parts_in_links row)
      → Agree [] old → length (past_links p row).statements < 2 ^ 64 → BackRow old (put_in_links itself x row) (past_links p row)
  past_links_back m old x p end_of-Link made back low base small = back
  past_links_back m old x p (more_of-Link operator operand rest) made back low base small =
      let low_operand = each_left (HasLow 0) (parts_of operand) (parts_in_links rest) low.1 in
      let low_rest = each_right (HasLow 0) (parts_of operand) (parts_in_links rest) low.1 in
      let q = settled_row p in
      let f = nested q.statements operand in
      let w = with_link operator q f in
      let q_made = kept.settled_row_made HasLow low_steady old p made in
      let f_made = kept.nested_made HasLow low_steady q.statements operand q_made.fine low_operand in
      let w_made = kept.with_link_made HasLow low_steady old operator q f q_made f_made tt in
      let w_small = links_more _ w rest w_made.fine w_made.row low_rest in
      let f_small = with_link_more operator q f in
      let q_back = settled_row_back old x p made.more (omega (arith, f_made.more, f_small, w_small, small)) back in
      let base_q = base_on old q.statements base q_back.agree in
      let f_back = settled_from q.statements operand q_made.fine low_operand (omega (arith, f_small, w_small, small))
      (λ is. flattened_back Inside q.statements operand q_made.fine low_operand base_q is) in
      past_links_back _ old (operation operator x (put_in itself operand)) w rest w_made
      (with_link_back old operator q f x (put_in itself operand) q_made f_made q_back f_back (omega (arith, w_small, small))) low_rest
      base small

  past_postfixes_back : (m : Count) (old : List Stmt) (xs : List Postfix) (p : Followed) (row : Row_of-Postfix m)
      → kept.MadePost HasLow low_steady old p → BackPost old xs p → Each (HasLow 0) (parts_in_postfixes row) → Agree [] old
      → length (past_postfixes p row).statements < 2 ^ 64 → BackPost old (xs ++ put_in_postfixes itself row) (past_postfixes p row)
  past_postfixes_back m old xs p end_of-Postfix made back low base small =
      record { agree = back.agree; says = back.says ∙ sym (append-nil xs) }
  past_postfixes_back m old xs p (more_of-Postfix postfix rest) made back low base small =
      let low_postfix = each_left (HasLow 0) (parts_of_postfix postfix) (parts_in_postfixes rest) low in
      let low_rest = each_right (HasLow 0) (parts_of_postfix postfix) (parts_in_postfixes rest) low in
      let q = nested_postfix p.statements postfix in
      let q_made = kept.postfix_made HasLow low_steady p.statements postfix made.fine low_postfix in
      let w_made = kept.followed_made HasLow low_steady old p q made q_made in
      let w_small = (kept.past_postfixes_made HasLow low_steady _ q.0 (followed_by p q) rest
      (record { fine = w_made.fine; more = omega arith; parts = w_made.parts }) low_rest).more in
      let here = postfix_back p.statements postfix made.fine low_postfix (base_on old p.statements base back.agree)
      (omega (arith, w_small, small)) in
      let later = past_postfixes_back _ old (xs ++ put_in_postfix itself postfix ∷ []) (followed_by p q) rest w_made
      (followed_back old xs (put_in_postfix itself postfix) p q made.more
      (clear_of (length p.statements) (parts_of_postfixes p.postfixes) made.parts) back here) low_rest base small in record {
        agree = later.agree;
        says = later.says ∙ append_assoc xs (put_in_postfix itself postfix ∷ []) (put_in_postfixes itself rest);
      }

  postfix_back : (old : List Stmt) (postfix : Postfix) → kept.Fine HasLow low_steady 0 old → Each (HasLow 0) (parts_of_postfix postfix)
      → Agree [] old → length (nested_postfix old postfix).0 < 2 ^ 64
      → BackPostfix old (put_in_postfix itself postfix) (nested_postfix old postfix)
  postfix_back old Inverse fine low base small = record { agree = λ other is_low. refl; says = refl }
  postfix_back old (Apply argument) fine low base small =
      let one = settled_from old argument fine low.1 small (λ is. flattened_back Inside old argument fine low.1 base is) in
      record { agree = one.agree; says = ap Apply one.says }
  postfix_back old (Item number) fine low base small = record { agree = λ other is_low. refl; says = refl }

-- ---- statements

outermost_says : (expr : Expr) → list_any names_dollar (parts_of expr) ≡ false → length (outermost expr).0 < 2 ^ 64
    → put_in (behind_all (outermost expr).0) (outermost expr).1 ≡ put_in itself expr
outermost_says expr plain small =
    (flattened_back Outermost [] expr tt
    (each_weaker (λ p. names_dollar p ≡ false) (HasLow 0) low_plain (parts_of expr) (each_quiet names_dollar (parts_of expr) plain))
    (λ name low. refl) small).says

-- Where no dollar name stands in a statement, its simple statements say what it says, if there are no more than are told apart.
pub flat_says : (stmt : Stmt) → has_dollar stmt ≡ false → length (flat stmt) ≤ 2 ^ 64 → Say stmt (flat stmt)
flat_says Empty plain few = refl
flat_says (Bind name expr) plain few =
    let f = outermost expr in
    let size = length-append f.0 (Bind name f.1 ∷ []) in
    put_back_ends itself f.0 (Bind name f.1) ∙ ap (Bind name) (outermost_says expr plain (omega (arith, size, few)))
flat_says (Show expr) plain few =
    let f = outermost expr in
    let size = length-append f.0 (Show f.1 ∷ []) in
    put_back_ends itself f.0 (Show f.1) ∙ ap Show (outermost_says expr plain (omega (arith, size, few)))
flat_says (Assume set) plain few = refl
