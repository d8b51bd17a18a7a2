-- Simple statements are typed one after another, as their statement is.
use mathlib.Core.Former.{Count}
use Rattle.std.proofs.Common.{◌≡◌, ◌∙◌, ◌≤◌, ◌⊎◌, ◌^◌, inl, inr, ℕ, Bool, true, false, List, [], ◌∷◌, ◌++◌, length, Option, Some}
use Rattle.std.proofs.Common.{Result, Ok, Err, refl, sym, ap, subst, arith, if◌then◌else◌}
use Rattle.std.specs.Prelude.{not}
use Rattle.std.specs.List.{list_any}
use Rattle.std.specs.Option.{option_map, option_and_then}
use Rattle.std.proofs.lemmas.Bool.{false≢true}
use Rattle.std.proofs.lemmas.List.{length-append}
use Rattle.isl_space.specs.Name.{Name}
use Rattle.isl_tree.specs.Known.{literal_is_known}
use Rattle.isl_refusal.specs.declared.refusal.Refusal.{Refusal}
use Rattle.isl_tree.specs.declared.statement.ValueKind.{ValueKind}
use Rattle.isl_tree.specs.declared.statement.ValueKind.TheVariants.{Map, List as Pair}
use Rattle.isl_tree.specs.declared.statement.Binary.{Binary}
use Rattle.isl_tree.specs.declared.statement.Binary.TheVariants.{Gist}
use Rattle.isl_tree.specs.declared.statement.Prefix.{Prefix as Word}
use Rattle.isl_tree.specs.declared.statement.Stmt.{Stmt}
use Rattle.isl_tree.specs.declared.statement.Stmt.TheVariants.{Empty, Bind, Show, Assume}
use Rattle.isl_tree.specs.declared.statement.Link.{Link}
use Rattle.isl_tree.specs.declared.statement.Postfix.{Postfix, Inverse, Apply, Item}
use Rattle.isl_tree.specs.declared.statement.Expr as e
use Rattle.isl_tree.specs.declared.statement.Expr.{Expr, Row', Prefix', Any', Last', Post', Row_of-Expr, end_of-Expr, more_of-Expr}
use Rattle.isl_tree.specs.declared.statement.Expr.{Row_of-Link, end_of-Link, more_of-Link, Row_of-Postfix, end_of-Postfix, more_of-Postfix}
use Rattle.isl_kinds.specs.declared.types.Purpose.{Purpose}
use Rattle.isl_kinds.specs.declared.types.Purpose.TheVariants.{Shown, Bound}
use Rattle.isl_kinds.specs.Lines.{joined, applied, prefixed, dependence}
use Rattle.isl_kinds.specs.Parts.{Part, parts_of, parts_in, parts_in_links, parts_in_postfixes, parts_of_postfix, parts_of_links}
use Rattle.isl_kinds.specs.Parts.{parts_of_postfixes}
use Rattle.isl_kinds.specs.Parts as part
use Rattle.isl_kinds.specs.Typed.{ScopeView, TypeView, kind_of, kind_in, kind_past_links, kind_past_postfixes, kind_past}
use Rattle.isl_kinds.specs.Typed.{kind_of_row, kind_of_post, by_two, by_three, declared_of, declared_in, declared_past_links}
use Rattle.isl_kinds.specs.Typed.{declared_past_postfixes, declared_past, declared_of_row, declared_of_post, joined_names, params_of}
use Rattle.isl_kinds.specs.Typed.{is_dollar, is_unknown, is_no_item, type_for, type_of_statement, found}
use Rattle.isl_kinds.proofs.DeclaredLaws.{IsOnce, once, once_joined, declared_of-Row, declared_of-Post}
use Rattle.isl_kinds.proofs.DeclaredLaws.{declared_of-Prefix, declared_of-Any, declared_of-Last}
use Rattle.isl_kinds.proofs.JoinedNamesLaws.{declared_with, declared_followed, first_fits, second_fits, links_fit}
use Rattle.isl_kinds.proofs.JoinedNamesLaws.{postfixes_fit}
use Rattle.isl_kinds.proofs.KindLaws.{kind_of-Row, kind_of-Post, kind_of-Prefix, kind_of-Any, kind_of-Last}
use Rattle.isl_flat.specs.declared.flattening.Standing.{Standing}
use Rattle.isl_flat.specs.declared.flattening.Standing.TheVariants.{Outermost, Inside}
use Rattle.isl_flat.specs.Flat.{Flattened, Partial, Followed, bound, named, is_gist, is_gist_alone, is_chosen, settled, whole, begun}
use Rattle.isl_flat.specs.Flat.{settled_row, link_of, gist, with_link, names_operand, operand_of, behind_word, followed_by}
use Rattle.isl_flat.specs.Flat.{behind, unfollowed, flattened, nested_in, past_links, past_postfixes, nested_postfix}
use Rattle.isl_flat.specs.Flat.{outermost, flat}
use Rattle.isl_flat.specs.Simple.{chooses, names_dollar, has_dollar, statement_declared, HasType, AreTyped}
use Rattle.isl_flat_law.proofs.EachLaws.{Each, each_weaker, each_zip, each_quiet, each_left, each_right}
use Rattle.isl_flat_law.proofs.KeptLaws as kept
use Rattle.isl_flat_law.proofs.KeptLaws.{IsSteady, gist_or_not}
use Rattle.isl_flat_law.proofs.ViewLaws.{IsClear, clear_up, clear_dollar, clear_blank, Agree, same_row, same_post, no_kind, then_some}
use Rattle.isl_flat_law.proofs.ViewLaws.{three_some}
use Rattle.isl_flat_law.proofs.ViewLaws.{same, bound_links, bound_postfixes, known, items_there}
use Rattle.isl_flat_law.proofs.ScopeLaws.{Leave, leave_map, Stable, Sees, sees_stable, Frame, frame_up, frame_with, Typed}
use Rattle.isl_flat_law.proofs.ScopeLaws.{bound_typed, named_typed, all_typed, TypeParts, type_parts, type_made}
use Rattle.isl_flat_law.proofs.ChosenLaws.{named_operand, gisted, chosen_bindable, alone_is_chosen, kind_with, kind_followed}

-- ---- what is made of clear parts

pub steady : IsSteady IsClear
steady = record { up = clear_up; new = clear_dollar; blank = clear_blank }

abbrev Fine : List Stmt → Type 0
Fine made = kept.Fine IsClear steady 0 made

abbrev IsCalm : ℕ → Expr → Type 0
IsCalm = kept.IsCalm IsClear steady

abbrev IsPlain : ℕ → Expr → Type 0
IsPlain = kept.IsPlain IsClear steady

abbrev Made : (ℕ → Expr → Type 0) → List Stmt → Flattened → Type 0
Made = kept.Made IsClear steady

abbrev MadeRow : (ℕ → Partial → Type 0) → List Stmt → Partial → Type 0
MadeRow = kept.MadeRow IsClear steady

abbrev IsCalmRow : ℕ → Partial → Type 0
IsCalmRow = kept.IsCalmRow IsClear steady

abbrev IsRow : ℕ → Partial → Type 0
IsRow = kept.IsRow IsClear steady

abbrev MadePost : List Stmt → Followed → Type 0
MadePost = kept.MadePost IsClear steady

clear_of : (k : ℕ) (ps : List Part) → Each (λ p. IsClear k p × (chooses p ≡ false)) ps → Each (IsClear k) ps
clear_of k ps calm = each_weaker (λ p. IsClear k p × (chooses p ≡ false)) (IsClear k) (λ p h. h.0) ps calm

clear_more : (j k : ℕ) (ps : List Part) → j ≤ k → Each (IsClear j) ps → Each (IsClear k) ps
clear_more j k ps low clear = each_weaker (IsClear j) (IsClear k) (λ p h. clear_up j k p low h) ps clear

-- ---- rows and what follows operands, as they are seen

pub record RowSees (kind : ValueKind) (names : List Name) (p : Partial) (scope : ScopeView) : Type 0 where
  pub kind_is : kind_of_row scope (kind_of scope p.first) p.links ≡ Some kind
  pub params : declared_of_row scope (declared_of scope p.first) p.links ≡ names

pub record PostSees (kind : ValueKind) (names : List Name) (operand : Expr) (postfixes : List Postfix) (scope : ScopeView) : Type 0 where
  pub kind_is : kind_of_post scope (kind_of scope operand) postfixes ≡ Some kind
  pub params : declared_of_post scope (declared_of scope operand) postfixes ≡ names

pub record PostfixSees (left made : ValueKind) (names more : List Name) (postfix : Postfix) (scope : ScopeView) : Type 0 where
  pub kind_is : kind_past scope (Some left) postfix ≡ Some made
  pub params : declared_past scope names postfix ≡ more

whole_sees : (kind : ValueKind) (names : List Name) (scope : ScopeView) (first : Expr) (links : List Link)
    → kind_of_row scope (kind_of scope first) links ≡ Some kind → declared_of_row scope (declared_of scope first) links ≡ names
    → Sees kind names (whole first links) scope
whole_sees kind names scope first [] is params = record { kind_is = is; params = params }
whole_sees kind names scope first (link ∷ links) is params =
    record { kind_is = kind_of-Row scope first (link ∷ links) ∙ is; params = declared_of-Row scope first (link ∷ links) ∙ params }

row_stable : (k : ℕ) (kind : ValueKind) (names : List Name) (p : Partial) → IsCalmRow k p → Stable k (RowSees kind names p)
row_stable k kind names p calm before later agree sees =
    let one = same k before later agree p.first (clear_of k (parts_of p.first) calm.first) in
    let more = same_row k before later agree (kind_of before p.first) (declared_of before p.first) p.links
    (clear_of k (parts_of_links p.links) calm.links) in record {
      kind_is = ap (λ (o : Option ValueKind). kind_of_row later o p.links) one.0 ∙ more.0 ∙ sees.kind_is;
      params = ap (λ (ns : List Name). declared_of_row later ns p.links) one.1 ∙ more.1 ∙ sees.params;
    }

post_stable : (k : ℕ) (kind : ValueKind) (names : List Name) (operand : Expr) (postfixes : List Postfix)
    → Each (IsClear k) (parts_of operand)
    → Each (IsClear k) (parts_of_postfixes postfixes) → Stable k (PostSees kind names operand postfixes)
post_stable k kind names operand postfixes clear behind before later agree sees =
    let one = same k before later agree operand clear in
    let more = same_post k before later agree (kind_of before operand) (declared_of before operand) postfixes behind in record {
      kind_is = ap (λ (o : Option ValueKind). kind_of_post later o postfixes) one.0 ∙ more.0 ∙ sees.kind_is;
      params = ap (λ (ns : List Name). declared_of_post later ns postfixes) one.1 ∙ more.1 ∙ sees.params;
    }

once_in : (m : Count) (scope : ScopeView) (row : Row_of-Expr m) → IsOnce (declared_in scope row)
once_in m scope end_of-Expr = refl
once_in m scope (more_of-Expr expr rest) = once scope expr

-- ---- steps

module _ (most : ℕ) (first : ScopeView) where
  abbrev RowTyped : (ScopeView → Type 0) → ValueKind → List Name → Partial → Type 0
  RowTyped F kind names p = Leave most 0 first p.statements (λ scope. F scope × RowSees kind names p scope)

  -- what is chosen gets a name
  settled_typed : (F : ScopeView → Type 0) (kind : ValueKind) (names : List Name) (old : List Stmt) (f : Flattened)
      → Frame first (length old) F → Made IsPlain old f → IsOnce names → length names ≤ most → Typed most first F kind names f
      → Typed most first F kind names (settled f)
  settled_typed F kind names old f frame made once few typed = by (is_chosen f.1) refl
    where
      by : (b : Bool) → is_chosen f.1 ≡ b → Typed most first F kind names (if b then bound f else f)
      by true is =
          bound_typed most first F kind names f (frame_up first (length old) (length f.0) F made.more frame) made.expr.0 once few
          (λ scope sees. chosen_bindable scope f.1 kind is sees.kind_is) typed
      by false is = typed

  settled_row_typed : (F : ScopeView → Type 0) (kind : ValueKind) (names : List Name) (old : List Stmt) (p : Partial)
      → Frame first (length old) F → MadeRow IsRow old p → IsOnce names → length names ≤ most → RowTyped F kind names p
      → RowTyped F kind names (settled_row p)
  settled_row_typed F kind names old p frame made once few typed = by (is_gist_alone p.links) refl
    where
      f : Flattened
      f = (p.statements, whole p.first p.links)

      by : (b : Bool) → is_gist_alone p.links ≡ b → RowTyped F kind names (if b then begun (bound f) else p)
      by true is =
          leave_map most (λ scope. F scope × Sees kind names (bound f).1 scope)
          (λ scope. F scope × RowSees kind names (begun (bound f)) scope)
          (λ scope h. (h.0, record { kind_is = h.1.kind_is; params = h.1.params })) 0 first (bound f).0
          (bound_typed most first F kind names f (frame_up first (length old) (length f.0) F made.more frame)
          (kept.whole_plain IsClear steady (length p.statements) p made.row).0 once few
          (λ scope sees. chosen_bindable scope f.1 kind (alone_is_chosen p.first p.links is) sees.kind_is)
          (leave_map most (λ scope. F scope × RowSees kind names p scope) (λ scope. F scope × Sees kind names f.1 scope)
          (λ scope h. (h.0, whole_sees kind names scope p.first p.links h.1.kind_is h.1.params)) 0 first p.statements typed))
      by false is = typed

  -- `%` between two names
  gist_typed : (F : ScopeView → Type 0) (a b c : ValueKind) (names more : List Name) (left right : Expr) (so_far : List Stmt)
      → Frame first (length so_far) F → Fine so_far → IsCalm (length so_far) left → IsCalm (length so_far) right → IsOnce names
      → IsOnce more → length names ≤ most → length more ≤ most → joined Gist a b ≡ Some c
      → Leave most 0 first so_far (λ scope. (F scope × Sees a names left scope) × Sees b more right scope)
      → RowTyped F c (joined_names names more) (gist left right so_far)
  gist_typed F a b c names more left right so_far frame fine calm_left calm_right once_names once_more few_names few_more is typed =
      let k = length so_far in
      let clear_left = clear_of k (parts_of left) calm_left in
      let clear_right = clear_of k (parts_of right) calm_right in
      let kinds = gisted a b c is in
      let l = named (so_far, left) in
      let l_made = kept.named_made IsClear steady so_far (so_far, left)
      (record { fine = fine; more = omega arith; expr = calm_left }) in
      let j = length l.0 in
      let r = named (l.0, right) in
      let F1 : ScopeView → Type 0 = λ scope. F scope × Sees b more right scope in
      let F2 : ScopeView → Type 0 = λ scope. F scope × Sees a names l.1 scope in
      let one : Typed most first F1 a names l =
      named_typed most first F1 a names (so_far, left)
      (frame_with first k k F (Sees b more right) (omega arith) frame (sees_stable k b more right clear_right))
      clear_left once_names few_names kinds.0
      (leave_map most (λ scope. (F scope × Sees a names left scope) × Sees b more right scope)
      (λ scope. F1 scope × Sees a names left scope) (λ scope h. ((h.0.0, h.1), h.0.1)) 0 first so_far typed) in
      let two : Typed most first F2 b more r =
      named_typed most first F2 b more (l.0, right)
      (frame_with first k j F (Sees a names l.1) l_made.more frame
      (sees_stable j a names l.1 (clear_of j (parts_of l.1) l_made.expr.0)))
      (clear_more k j (parts_of right) l_made.more clear_right) once_more few_more kinds.1
      (leave_map most (λ scope. F1 scope × Sees a names l.1 scope) (λ scope. F2 scope × Sees b more right scope)
      (λ scope h. ((h.0.0, h.1), h.0.1)) 0 first l.0 one) in
      leave_map most (λ scope. F2 scope × Sees b more r.1 scope)
      (λ scope. F scope × RowSees c (joined_names names more) (gist left right so_far) scope)
      (λ scope h. (
        h.0.0,
        record {
          kind_is = ap (λ (o : Option ValueKind). by_two (joined Gist) o (kind_of scope r.1)) h.0.1.kind_is
              ∙ ap (by_two (joined Gist) (Some a)) h.1.kind_is ∙ is;
          params = ap (λ (ns : List Name). joined_names ns (declared_of scope r.1)) h.0.1.params ∙ ap (joined_names names) h.1.params;
        },
      )) 0 first r.0 two

  with_link_typed : (F : ScopeView → Type 0) (a b c : ValueKind) (names more : List Name) (old : List Stmt) (operator : Binary)
      (p : Partial) (f : Flattened) → Frame first (length old) F → MadeRow IsCalmRow old p → Made IsCalm p.statements f
      → IsOnce names → IsOnce more → length names ≤ most → length more ≤ most → joined operator a b ≡ Some c
      → Leave most 0 first f.0 (λ scope. (F scope × RowSees a names p scope) × Sees b more f.1 scope)
      → RowTyped F c (joined_names names more) (with_link operator p f)
  with_link_typed F a b c names more old operator p f frame row made once_names once_more few_names few_more is typed =
      by (gist_or_not operator)
    where
      k : ℕ
      k = length f.0

      by : (operator ≡ Gist) ⊎ ((is_gist operator ≡ false) × (chooses (part.operator operator) ≡ false))
          → RowTyped F c (joined_names names more) (with_link operator p f)
      by (inl gist_is) =
          subst (λ (o : Binary). RowTyped F c (joined_names names more) (with_link o p f)) (sym gist_is)
          (gist_typed F a b c names more (whole p.first p.links) f.1 f.0
          (frame_up first (length old) k F (omega (arith, row.more, made.more)) frame) made.fine
          (kept.calm_whole IsClear steady k p.first p.links
          (kept.calm_up IsClear steady (length p.statements) k (parts_of p.first) made.more row.row.first)
          (kept.calm_up IsClear steady (length p.statements) k (parts_of_links p.links) made.more row.row.links))
          made.expr once_names once_more few_names few_more (ap (λ (o : Binary). joined o a b) (sym gist_is) ∙ is)
          (leave_map most (λ scope. (F scope × RowSees a names p scope) × Sees b more f.1 scope)
          (λ scope. (F scope × Sees a names (whole p.first p.links) scope) × Sees b more f.1 scope)
          (λ scope h. ((h.0.0, whole_sees a names scope p.first p.links h.0.1.kind_is h.0.1.params), h.1)) 0 first f.0 typed))
      by (inr other) =
          let q : Partial = record { statements = f.0; first = p.first; links = p.links ++ link_of operator f.1 ∷ [] } in
          subst (λ (o : Bool). RowTyped F c (joined_names names more)
          (if o then gist (whole p.first p.links) f.1 f.0
          else record { statements = f.0; first = p.first; links = p.links ++ link_of operator f.1 ∷ [] })) (sym other.0)
          (leave_map most (λ scope. (F scope × RowSees a names p scope) × Sees b more f.1 scope)
          (λ scope. F scope × RowSees c (joined_names names more) q scope)
          (λ scope h. (
            h.0.0,
            record {
              kind_is = kind_with scope (kind_of scope p.first) p.links (link_of operator f.1)
                  ∙ ap (λ (o : Option ValueKind). by_two (joined operator) o (kind_of scope f.1)) h.0.1.kind_is
                  ∙ ap (by_two (joined operator) (Some a)) h.1.kind_is ∙ is;
              params = declared_with scope (declared_of scope p.first) p.links (link_of operator f.1)
                  ∙ ap (λ (ns : List Name). joined_names ns (declared_of scope f.1)) h.0.1.params ∙ ap (joined_names names) h.1.params;
            },
          )) 0 first f.0 typed)

  word_typed : (F : ScopeView → Type 0) (a kind : ValueKind) (names : List Name) (old : List Stmt) (standing : Standing) (word : Word)
      (f : Flattened) → Frame first (length old) F → Made IsCalm old f → IsOnce names → length names ≤ most → prefixed word a ≡ Some kind
      → Typed most first F a names f → Typed most first F kind names (behind_word word (operand_of standing word f))
  word_typed F a kind names old standing word f frame made once few is typed = by (names_operand standing word) refl
    where
      behind_it : (g : Flattened) → Typed most first F a names g → Typed most first F kind names (behind_word word g)
      behind_it g made_g =
          leave_map most (λ scope. F scope × Sees a names g.1 scope) (λ scope. F scope × Sees kind names (e.Prefix word g.1) scope)
          (λ scope h. (
            h.0,
            record {
              kind_is = kind_of-Prefix scope word g.1 ∙ ap (option_and_then (prefixed word)) h.1.kind_is ∙ is;
              params = declared_of-Prefix scope word g.1 ∙ h.1.params;
            },
          )) 0 first g.0 made_g

      by : (b : Bool) → names_operand standing word ≡ b → Typed most first F kind names (behind_word word (if b then named f else f))
      by true wants =
          behind_it (named f)
          (named_typed most first F a names f (frame_up first (length old) (length f.0) F made.more frame)
          (clear_of (length f.0) (parts_of f.1) made.expr) once few (named_operand standing word a kind wants is) typed)
      by false wants = behind_it f typed

  behind_typed : (F : ScopeView → Type 0) (kind : ValueKind) (names : List Name) (operand : Expr) (p : Followed)
      → Leave most 0 first p.statements (λ scope. F scope × PostSees kind names operand p.postfixes scope)
      → Typed most first F kind names (behind operand p)
  behind_typed F kind names operand p typed =
      leave_map most (λ scope. F scope × PostSees kind names operand p.postfixes scope)
      (λ scope. F scope × Sees kind names (e.Post operand p.postfixes) scope)
      (λ scope h. (
        h.0,
        record {
          kind_is = kind_of-Post scope operand p.postfixes ∙ h.1.kind_is;
          params = declared_of-Post scope operand p.postfixes ∙ h.1.params;
        },
      )) 0 first p.statements typed

  followed_typed : (F : ScopeView → Type 0) (a c : ValueKind) (names more : List Name) (operand : Expr) (p : Followed)
      (q : List Stmt × Postfix)
      → Leave most 0 first q.0 (λ scope. (F scope × PostSees a names operand p.postfixes scope) × PostfixSees a c names more q.1 scope)
      → Leave most 0 first q.0 (λ scope. F scope × PostSees c more operand (followed_by p q).postfixes scope)
  followed_typed F a c names more operand p q typed =
      leave_map most (λ scope. (F scope × PostSees a names operand p.postfixes scope) × PostfixSees a c names more q.1 scope)
      (λ scope. F scope × PostSees c more operand (followed_by p q).postfixes scope)
      (λ scope h. (
        h.0.0,
        record {
          kind_is = kind_followed scope (kind_of scope operand) p.postfixes q.1
              ∙ ap (λ (o : Option ValueKind). kind_past scope o q.1) h.0.1.kind_is ∙ h.1.kind_is;
          params = declared_followed scope (declared_of scope operand) p.postfixes q.1
              ∙ ap (λ (ns : List Name). declared_past scope ns q.1) h.0.1.params ∙ h.1.params;
        },
      )) 0 first q.0 typed

  -- three operands
  module _ (made : Expr → Expr → Expr → Expr) (result : ValueKind)
      (kinds : (scope : ScopeView) (a b c : Expr)
      → kind_of scope (made a b c) ≡ by_three result (kind_of scope a) (kind_of scope b) (kind_of scope c))
      (declares : (scope : ScopeView) (a b c : Expr)
      → declared_of scope (made a b c)
      ≡ joined_names (joined_names (declared_of scope a) (declared_of scope b)) (declared_of scope c)) where
    three_typed : (F : ScopeView → Type 0) (i j k kind : ValueKind) (is js ks : List Name) (a b c : Expr) (made_so_far : List Stmt)
        → dependence result i j k ≡ Some kind
        → Leave most 0 first made_so_far (λ scope. ((F scope × Sees i is a scope) × Sees j js b scope) × Sees k ks c scope)
        → Typed most first F kind (joined_names (joined_names is js) ks) (made_so_far, made a b c)
    three_typed F i j k kind is js ks a b c so_far line typed =
        leave_map most (λ scope. ((F scope × Sees i is a scope) × Sees j js b scope) × Sees k ks c scope)
        (λ scope. F scope × Sees kind (joined_names (joined_names is js) ks) (made a b c) scope)
        (λ scope h. (
          h.0.0.0,
          record {
            kind_is = kinds scope a b c
                ∙ ap (λ (o : Option ValueKind). by_three result o (kind_of scope b) (kind_of scope c)) h.0.0.1.kind_is
                ∙ ap (λ (o : Option ValueKind). by_three result (Some i) o (kind_of scope c)) h.0.1.kind_is
                ∙ ap (by_three result (Some i) (Some j)) h.1.kind_is ∙ line;
            params = declares scope a b c
                ∙ ap (λ (ns : List Name). joined_names (joined_names ns (declared_of scope b)) (declared_of scope c)) h.0.0.1.params
                ∙ ap (λ (ns : List Name). joined_names (joined_names is ns) (declared_of scope c)) h.0.1.params
                ∙ ap (joined_names (joined_names is js)) h.1.params;
          },
        )) 0 first so_far typed

  -- ---- expressions

  second_few : (names : List Name) (m : Count) (row : Row_of-Expr m) → length (joined_names names (declared_in first row)) ≤ most
      → length (declared_in first row) ≤ most
  second_few names m end_of-Expr few = omega arith
  second_few names m (more_of-Expr expr rest) few = let fits = second_fits first names expr in omega (arith, few, fits)

  mutual
    pub flattened_typed : (standing : Standing) (F : ScopeView → Type 0) (old : List Stmt) (expr : Expr) (kind : ValueKind)
        → Frame first (length old) F → Fine old → Each (IsClear 0) (parts_of expr) → kind_of first expr ≡ Some kind
        → length (declared_of first expr) ≤ most → Leave most 0 first old F
        → Typed most first F kind (declared_of first expr) (flattened standing old expr)
    flattened_typed standing F old (e.Name name) kind frame fine clear is few left =
        leave_map most F (λ scope. F scope × Sees kind (declared_of first (e.Name name)) (e.Name name) scope)
        (λ scope h. let same_name = frame.base scope h name clear.0 in
        (h, record { kind_is = ap (option_map (λ (t : TypeView). t.kind)) same_name ∙ is; params = ap params_of same_name })) 0 first old
        left
    flattened_typed standing F old (e.Literal literal) kind frame fine clear is few left =
        leave_map most F (λ scope. F scope × Sees kind (declared_of first (e.Literal literal)) (e.Literal literal) scope)
        (λ scope h. (h, record { kind_is = is; params = refl })) 0 first old left
    flattened_typed standing F old (Row' s row t links) kind frame fine clear is few left =
        let clear_first = each_left (IsClear 0) (parts_in row) (parts_in_links links) clear in
        let clear_links = each_right (IsClear 0) (parts_in row) (parts_in_links links) clear in
        let more = bound_links first _ (kind_in first row) links kind is in
        let names = declared_in first row in
        let fits = links_fit _ first names links in
        let f = nested_in old row in
        let made = kept.nested_in_made IsClear steady _ old row fine clear_first in
        let one = nested_in_typed _ F old row more.0 frame fine clear_first more.1 (omega (arith, few, fits)) left in
        let begin = kept.row_of_calm IsClear steady old (begun f)
        (kept.begun_made IsClear steady old f made) in
        let typed_row = past_links_typed _ F old (begun f) more.0 kind names links frame begin clear_links
        (ap (λ (o : Option ValueKind). kind_past_links first o links) (sym more.1) ∙ is) (once_in _ first row) few
        (leave_map most (λ scope. F scope × Sees more.0 names f.1 scope) (λ scope. F scope × RowSees more.0 names (begun f) scope)
        (λ scope h. (h.0, record { kind_is = h.1.kind_is; params = h.1.params })) 0 first f.0 one) in
        let p = past_links (begun f) links in
        let all = declared_past_links first names links in
        leave_map most (λ scope. F scope × RowSees kind all p scope) (λ scope. F scope × Sees kind all (whole p.first p.links) scope)
        (λ scope h. (h.0, whole_sees kind all scope p.first p.links h.1.kind_is h.1.params)) 0 first p.statements typed_row
    flattened_typed standing F old (Prefix' word s operand) kind frame fine clear is few left =
        let one = then_some (prefixed word) (kind_in first operand) kind is in
        let f = nested_in old operand in
        word_typed F one.0 kind (declared_in first operand) old standing word f frame
        (kept.nested_in_made IsClear steady _ old operand fine clear.1) (once_in _ first operand) few one.2
        (nested_in_typed _ F old operand one.0 frame fine clear.1 one.1 few left)
    flattened_typed standing F old (Any' r source s sink t schedule) kind frame fine clear is few left =
        let parts = kept.three_parts IsClear steady (IsClear 0) (parts_in source) (parts_in sink)
        (parts_in schedule) clear.1 in
        let ks = three_some Map (kind_in first source) (kind_in first sink) (kind_in first schedule) kind is in
        let d1 = declared_in first source in
        let d2 = declared_in first sink in
        let few12 : length (joined_names d1 d2) ≤ most =
        let fits = first_fits (joined_names d1 d2) (declared_in first schedule) in omega (arith, few, fits) in
        let few1 : length d1 ≤ most = let fits = first_fits d1 d2 in omega (arith, few12, fits) in
        let few2 = second_few d1 _ sink few12 in
        let few3 = second_few (joined_names d1 d2) _ schedule few in
        let a = nested_in old source in
        let b = nested_in a.0 sink in
        let c = nested_in b.0 schedule in
        let made_a = kept.nested_in_made IsClear steady _ old source fine parts.0 in
        let made_b = kept.nested_in_made IsClear steady _ a.0 sink made_a.fine parts.1 in
        let F1 : ScopeView → Type 0 = λ scope. F scope × Sees ks.0 d1 a.1 scope in
        let F2 : ScopeView → Type 0 = λ scope. F1 scope × Sees ks.1 d2 b.1 scope in
        let frame1 = frame_with first (length old) (length a.0) F (Sees ks.0 d1 a.1) made_a.more frame
        (sees_stable (length a.0) ks.0 d1 a.1 (clear_of (length a.0) (parts_of a.1) made_a.expr)) in
        let frame2 = frame_with first (length a.0) (length b.0) F1 (Sees ks.1 d2 b.1) made_b.more frame1
        (sees_stable (length b.0) ks.1 d2 b.1 (clear_of (length b.0) (parts_of b.1) made_b.expr)) in
        let one = nested_in_typed _ F old source ks.0 frame fine parts.0 ks.3 few1 left in
        let two = nested_in_typed _ F1 a.0 sink ks.1 frame1 made_a.fine parts.1 ks.4 few2 one in
        let three = nested_in_typed _ F2 b.0 schedule ks.2 frame2 made_b.fine parts.2 ks.5 few3 two in
        three_typed e.Any Map kind_of-Any declared_of-Any F ks.0 ks.1 ks.2 kind d1 d2 (declared_in first schedule) a.1 b.1 c.1 c.0 ks.6
        three
    flattened_typed standing F old (Last' r source s sink t schedule) kind frame fine clear is few left =
        let parts = kept.three_parts IsClear steady (IsClear 0) (parts_in source) (parts_in sink)
        (parts_in schedule) clear.1 in
        let ks = three_some Pair (kind_in first source) (kind_in first sink) (kind_in first schedule) kind is in
        let d1 = declared_in first source in
        let d2 = declared_in first sink in
        let few12 : length (joined_names d1 d2) ≤ most =
        let fits = first_fits (joined_names d1 d2) (declared_in first schedule) in omega (arith, few, fits) in
        let few1 : length d1 ≤ most = let fits = first_fits d1 d2 in omega (arith, few12, fits) in
        let few2 = second_few d1 _ sink few12 in
        let few3 = second_few (joined_names d1 d2) _ schedule few in
        let a = nested_in old source in
        let b = nested_in a.0 sink in
        let c = nested_in b.0 schedule in
        let made_a = kept.nested_in_made IsClear steady _ old source fine parts.0 in
        let made_b = kept.nested_in_made IsClear steady _ a.0 sink made_a.fine parts.1 in
        let F1 : ScopeView → Type 0 = λ scope. F scope × Sees ks.0 d1 a.1 scope in
        let F2 : ScopeView → Type 0 = λ scope. F1 scope × Sees ks.1 d2 b.1 scope in
        let frame1 = frame_with first (length old) (length a.0) F (Sees ks.0 d1 a.1) made_a.more frame
        (sees_stable (length a.0) ks.0 d1 a.1 (clear_of (length a.0) (parts_of a.1) made_a.expr)) in
        let frame2 = frame_with first (length a.0) (length b.0) F1 (Sees ks.1 d2 b.1) made_b.more frame1
        (sees_stable (length b.0) ks.1 d2 b.1 (clear_of (length b.0) (parts_of b.1) made_b.expr)) in
        let one = nested_in_typed _ F old source ks.0 frame fine parts.0 ks.3 few1 left in
        let two = nested_in_typed _ F1 a.0 sink ks.1 frame1 made_a.fine parts.1 ks.4 few2 one in
        let three = nested_in_typed _ F2 b.0 schedule ks.2 frame2 made_b.fine parts.2 ks.5 few3 two in
        three_typed e.Last Pair kind_of-Last declared_of-Last F ks.0 ks.1 ks.2 kind d1 d2 (declared_in first schedule) a.1 b.1 c.1 c.0 ks.6
        three
    flattened_typed standing F old (Post' s operand t postfixes) kind frame fine clear is few left =
        let clear_first = each_left (IsClear 0) (parts_in operand) (parts_in_postfixes postfixes) clear in
        let clear_rest = each_right (IsClear 0) (parts_in operand) (parts_in_postfixes postfixes) clear in
        let more = bound_postfixes first _ (kind_in first operand) postfixes kind is in
        let names = declared_in first operand in
        let fits = postfixes_fit _ first names postfixes in
        let f = nested_in old operand in
        let made = kept.nested_in_made IsClear steady _ old operand fine clear_first in
        let one = nested_in_typed _ F old operand more.0 frame fine clear_first more.1 (omega (arith, few, fits)) left in
        let p = past_postfixes (unfollowed f.0) postfixes in
        behind_typed F kind (declared_past_postfixes first names postfixes) f.1 p
        (past_postfixes_typed _ F f (unfollowed f.0) more.0 kind names postfixes
        (frame_up first (length old) (length f.0) F made.more frame) (clear_of (length f.0) (parts_of f.1) made.expr)
        (record { fine = made.fine; more = omega arith; parts = tt }) clear_rest
        (ap (λ (o : Option ValueKind). kind_past_postfixes first o postfixes) (sym more.1) ∙ is) few
        (leave_map most (λ scope. F scope × Sees more.0 names f.1 scope) (λ scope. F scope × PostSees more.0 names f.1 [] scope)
        (λ scope h. (h.0, record { kind_is = h.1.kind_is; params = h.1.params })) 0 first f.0 one))

    nested_in_typed : (m : Count) (F : ScopeView → Type 0) (old : List Stmt) (row : Row_of-Expr m) (kind : ValueKind)
        → Frame first (length old) F → Fine old → Each (IsClear 0) (parts_in row) → kind_in first row ≡ Some kind
        → length (declared_in first row) ≤ most → Leave most 0 first old F
        → Typed most first F kind (declared_in first row) (nested_in old row)
    nested_in_typed m F old end_of-Expr kind frame fine clear is few left = no_kind kind is
    nested_in_typed m F old (more_of-Expr expr rest) kind frame fine clear is few left =
        settled_typed F kind (declared_of first expr) old (flattened Inside old expr) frame
        (kept.flattened_made IsClear steady Inside old expr fine clear) (once first expr) few
        (flattened_typed Inside F old expr kind frame fine clear is few left)

    past_links_typed : (m : Count) (F : ScopeView → Type 0) (old : List Stmt) (p : Partial) (a kind : ValueKind) (names : List Name)
        (row : Row_of-Link m) → Frame first (length old) F → MadeRow IsRow old p → Each (IsClear 0) (parts_in_links row)
        → kind_past_links first (Some a) row ≡ Some kind → IsOnce names → length (declared_past_links first names row) ≤ most
        → Leave most 0 first p.statements (λ scope. F scope × RowSees a names p scope)
        → Leave most 0 first (past_links p row).statements
        (λ scope. F scope × RowSees kind (declared_past_links first names row) (past_links p row) scope)
    past_links_typed m F old p a kind names end_of-Link frame made clear is once_names few typed =
        leave_map most (λ scope. F scope × RowSees a names p scope) (λ scope. F scope × RowSees kind names p scope)
        (λ scope h. (h.0, record { kind_is = h.1.kind_is ∙ is; params = h.1.params })) 0 first p.statements typed
    past_links_typed m F old p a kind names (more_of-Link operator operand rest) frame made clear is once_names few typed =
        let q = settled_row p in
        let more = declared_of first operand in
        let left_made = kept.settled_row_made IsClear steady old p made in
        let clear_one = each_left (IsClear 0) (parts_of operand) (parts_in_links rest) clear.1 in
        let clear_rest = each_right (IsClear 0) (parts_of operand) (parts_in_links rest) clear.1 in
        let past = bound_links first _ (by_two (joined operator) (Some a) (kind_of first operand)) rest kind is in
        let both = then_some (joined operator a) (kind_of first operand) past.0 past.1 in
        let fits_rest = links_fit _ first (joined_names names more) rest in
        let fits_first = first_fits names more in
        let fits_second = second_fits first names operand in
        let few_names : length names ≤ most = omega (arith, few, fits_rest, fits_first) in
        let few_more : length more ≤ most = omega (arith, few, fits_rest, fits_second) in
        let f0 = flattened Inside q.statements operand in
        let f = settled f0 in
        let right_made0 = kept.flattened_made IsClear steady Inside q.statements operand left_made.fine clear_one in
        let right_made = kept.settled_made IsClear steady q.statements f0 right_made0 in
        let F1 : ScopeView → Type 0 = λ scope. F scope × RowSees a names q scope in
        let frame1 = frame_with first (length old) (length q.statements) F (RowSees a names q) left_made.more frame
        (row_stable (length q.statements) a names q left_made.row) in
        let typed_q = settled_row_typed F a names old p frame made once_names few_names typed in
        let typed_f = settled_typed F1 both.0 more q.statements f0 frame1 right_made0 (once first operand) few_more
        (flattened_typed Inside F1 q.statements operand both.0 frame1 left_made.fine clear_one both.1 few_more typed_q) in
        let typed_row = with_link_typed F a both.0 past.0 names more old operator q f frame left_made right_made once_names
        (once first operand) few_names few_more both.2 typed_f in
        past_links_typed _ F old (with_link operator q f) past.0 kind (joined_names names more) rest frame
        (kept.with_link_made IsClear steady old operator q f left_made right_made clear.0) clear_rest
        (ap (λ (o : Option ValueKind). kind_past_links first o rest) (sym past.1) ∙ is) (once_joined names more once_names) few typed_row

    past_postfixes_typed : (m : Count) (F : ScopeView → Type 0) (f : Flattened) (p : Followed) (a kind : ValueKind) (names : List Name)
        (row : Row_of-Postfix m) → Frame first (length f.0) F → Each (IsClear (length f.0)) (parts_of f.1) → MadePost f.0 p
        → Each (IsClear 0) (parts_in_postfixes row) → kind_past_postfixes first (Some a) row ≡ Some kind
        → length (declared_past_postfixes first names row) ≤ most
        → Leave most 0 first p.statements (λ scope. F scope × PostSees a names f.1 p.postfixes scope)
        → Leave most 0 first (past_postfixes p row).statements
        (λ scope. F scope × PostSees kind (declared_past_postfixes first names row) f.1 (past_postfixes p row).postfixes scope)
    past_postfixes_typed m F f p a kind names end_of-Postfix frame clear_f made clear is few typed =
        leave_map most (λ scope. F scope × PostSees a names f.1 p.postfixes scope)
        (λ scope. F scope × PostSees kind names f.1 p.postfixes scope)
        (λ scope h. (h.0, record { kind_is = h.1.kind_is ∙ is; params = h.1.params })) 0 first p.statements typed
    past_postfixes_typed m F f p a kind names (more_of-Postfix postfix rest) frame clear_f made clear is few typed =
        let clear_one = each_left (IsClear 0) (parts_of_postfix postfix) (parts_in_postfixes rest) clear in
        let clear_rest = each_right (IsClear 0) (parts_of_postfix postfix) (parts_in_postfixes rest) clear in
        let more = declared_past first names postfix in
        let past = bound_postfixes first _ (kind_past first (Some a) postfix) rest kind is in
        let fits_rest = postfixes_fit _ first more rest in
        let k = length p.statements in
        let F1 : ScopeView → Type 0 = λ scope. F scope × PostSees a names f.1 p.postfixes scope in
        let frame1 = frame_with first (length f.0) k F (PostSees a names f.1 p.postfixes) made.more frame
        (post_stable k a names f.1 p.postfixes (clear_more (length f.0) k (parts_of f.1) made.more clear_f)
        (clear_of k (parts_of_postfixes p.postfixes) made.parts)) in
        let q = nested_postfix p.statements postfix in
        let few_more : length more ≤ most = omega (arith, few, fits_rest) in
        let one = postfix_typed F1 p.statements postfix a past.0 names frame1 made.fine clear_one past.1 few_more typed in
        past_postfixes_typed _ F f (followed_by p q) past.0 kind more rest frame clear_f
        (kept.followed_made IsClear steady f.0 p q made
        (kept.postfix_made IsClear steady p.statements postfix made.fine clear_one)) clear_rest
        (ap (λ (o : Option ValueKind). kind_past_postfixes first o rest) (sym past.1) ∙ is) few
        (followed_typed F a past.0 names more f.1 p q one)

    postfix_typed : (F : ScopeView → Type 0) (old : List Stmt) (postfix : Postfix) (a c : ValueKind) (names : List Name)
        → Frame first (length old) F → Fine old → Each (IsClear 0) (parts_of_postfix postfix) → kind_past first (Some a) postfix ≡ Some c
        → length (declared_past first names postfix) ≤ most → Leave most 0 first old F
        → Leave most 0 first (nested_postfix old postfix).0
        (λ scope. F scope × PostfixSees a c names (declared_past first names postfix) (nested_postfix old postfix).1 scope)
    postfix_typed F old Inverse a c names frame fine clear is few left =
        leave_map most F (λ scope. F scope × PostfixSees a c names names Inverse scope)
        (λ scope h. (h, record { kind_is = is; params = refl })) 0 first old left
    postfix_typed F old (Apply argument) a c names frame fine clear is few left =
        let both = then_some (applied a) (kind_of first argument) c is in
        let more = declared_of first argument in
        let fits = second_fits first names argument in
        let few_more : length more ≤ most = omega (arith, few, fits) in
        let f0 = flattened Inside old argument in
        let f = settled f0 in
        let typed = settled_typed F both.0 more old f0 frame
        (kept.flattened_made IsClear steady Inside old argument fine clear.1) (once first argument) few_more
        (flattened_typed Inside F old argument both.0 frame fine clear.1 both.1 few_more left) in
        leave_map most (λ scope. F scope × Sees both.0 more f.1 scope)
        (λ scope. F scope × PostfixSees a c names (joined_names names more) (Apply f.1) scope)
        (λ scope h. (
          h.0,
          record {
            kind_is = ap (by_two applied (Some a)) h.1.kind_is ∙ both.2;
            params = ap (joined_names names) h.1.params;
          },
        )) 0 first f.0 typed
    postfix_typed F old (Item number) a c names frame fine clear is few left =
        leave_map most F (λ scope. F scope × PostfixSees a c names names (Item number) scope)
        (λ scope h. (h, record { kind_is = is; params = refl })) 0 first old left

-- ---- statements

clear_part : (scope : ScopeView) (p : Part) → names_dollar p ≡ false → is_unknown scope p ≡ false → is_no_item p ≡ false → IsClear 0 p
clear_part scope (part.name n) plain known there = λ i behind small same_name. false≢true (sym plain ∙ ap is_dollar same_name)
clear_part scope (part.literal l) plain known there = not_false (literal_is_known l) known
  where
    not_false : (b : Bool) → not b ≡ false → b ≡ true
    not_false true is = refl
    not_false false is = sym is
clear_part scope (part.item i) plain known there = there
clear_part scope _ plain known there = tt

clear_parts : (scope : ScopeView) (ps : List Part) → list_any names_dollar ps ≡ false → list_any (is_unknown scope) ps ≡ false
    → list_any is_no_item ps ≡ false → Each (IsClear 0) ps
clear_parts scope ps plain known there =
    each_weaker (λ p. (names_dollar p ≡ false) × ((is_unknown scope p ≡ false) × (is_no_item p ≡ false))) (IsClear 0)
    (λ p h. clear_part scope p h.0 h.1.0 h.1.1) ps
    (each_zip (λ p. names_dollar p ≡ false) (λ p. (is_unknown scope p ≡ false) × (is_no_item p ≡ false)) ps
    (each_quiet names_dollar ps plain)
    (each_zip (λ p. is_unknown scope p ≡ false) (λ p. is_no_item p ≡ false) ps (each_quiet (is_unknown scope) ps known)
    (each_quiet is_no_item ps there)))

at_first : (first : ScopeView) → Frame first 0 (Agree 0 first)
at_first first = record {
  stable = λ before later agree h. λ name low. agree name low ∙ h name low;
  base = λ scope h. h;
}

same_found : (o : Result TypeView Refusal) (t : Option TypeView) → found o ≡ Ok t → (s : TypeView) × (o ≡ Ok s) × (t ≡ Some s)
same_found (Ok s) t is = (s, refl, cc)
same_found (Err r) t is = absurd cc

-- the last statement, where its expression has the type, and so has what is left of it
module _ (first : ScopeView) (purpose : Purpose) (expr : Expr) (s : TypeView) (plain : list_any names_dollar (parts_of expr) ≡ false)
    (typed : type_for purpose first expr ≡ Ok s) where
  parts_typed : TypeParts purpose first expr s
  parts_typed = type_parts purpose first expr s typed

  all_clear : Each (IsClear 0) (parts_of expr)
  all_clear = clear_parts first (parts_of expr) plain parts_typed.unknown parts_typed.items

  outermost_typed : Leave (length (declared_of first expr)) 0 first (outermost expr).0
      (λ scope. (type_for purpose scope (outermost expr).1 ≡ Ok s)
      × (length (declared_of scope (outermost expr).1) ≤ length (declared_of first expr)))
  outermost_typed =
      let most = length (declared_of first expr) in
      let f = outermost expr in
      let made = kept.outermost_made IsClear steady expr all_clear in
      leave_map most (λ scope. Agree 0 first scope × Sees s.kind (declared_of first expr) f.1 scope)
      (λ scope. (type_for purpose scope f.1 ≡ Ok s) × (length (declared_of scope f.1) ≤ most))
      (λ scope h. (
        type_made purpose scope f.1 s (record {
          unknown = known scope (length f.0) f.1 s.kind made.expr.0 h.1.kind_is;
          kind = h.1.kind_is;
          allowed = parts_typed.allowed;
          items = items_there scope (length f.0) f.1 made.expr.0;
          params = h.1.params ∙ parts_typed.params;
        }),
        subst (λ (ns : List Name). length ns ≤ most) (sym h.1.params) (omega arith),
      )) 0 first f.0
      (flattened_typed most first Outermost (Agree 0 first) [] expr s.kind (at_first first) tt all_clear parts_typed.kind (omega arith)
      (λ name low. refl))

-- The simple statements of a statement with a type are typed one after another, and the last has this type. Each declares at most as
-- many parameters as the statement. No dollar name stands in the statement, and there are no more of them than are told apart.
pub flat_is_typed : (scope : ScopeView) (stmt : Stmt) (t : Option TypeView) → has_dollar stmt ≡ false → length (flat stmt) ≤ 2 ^ 64
    → type_of_statement scope stmt ≡ Ok t → AreTyped (length (statement_declared scope stmt)) scope (flat stmt) t
flat_is_typed scope Empty t plain few typed = record { typed = typed; few = omega arith }
flat_is_typed scope (Bind name expr) t plain few typed =
    let is = same_found (type_for Bound scope expr) t typed in
    let f = outermost expr in
    let size = length-append f.0 (Bind name f.1 ∷ []) in
    let most = length (declared_of scope expr) in
    all_typed most 0 scope f.0 (Bind name f.1) t (omega (arith, size, few))
    (leave_map most (λ later. (type_for Bound later f.1 ≡ Ok is.0) × (length (declared_of later f.1) ≤ most))
    (λ later. HasType most later (Bind name f.1) t)
    (λ later h. record { typed = ap found h.0 ∙ ap (λ (o : Option TypeView). Ok o) (sym is.2); few = h.1 }) 0 scope f.0
    (outermost_typed scope Bound expr is.0 plain is.1))
flat_is_typed scope (Show expr) t plain few typed =
    let is = same_found (type_for Shown scope expr) t typed in
    let f = outermost expr in
    let size = length-append f.0 (Show f.1 ∷ []) in
    let most = length (declared_of scope expr) in
    all_typed most 0 scope f.0 (Show f.1) t (omega (arith, size, few))
    (leave_map most (λ later. (type_for Shown later f.1 ≡ Ok is.0) × (length (declared_of later f.1) ≤ most))
    (λ later. HasType most later (Show f.1) t)
    (λ later h. record { typed = ap found h.0 ∙ ap (λ (o : Option TypeView). Ok o) (sym is.2); few = h.1 }) 0 scope f.0
    (outermost_typed scope Shown expr is.0 plain is.1))
flat_is_typed scope (Assume set) t plain few typed = record { typed = typed; few = omega arith }
