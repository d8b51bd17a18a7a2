-- No row of one operand stands outermost, and no operand that nothing follows; flattening keeps that, and at which numbers it is shown.
use mathlib.Core.Former.{Count}
use Rattle.std.proofs.Common.{◌≡◌, ◌∙◌, refl, sym, ap, Bool, true, false, List, [], ◌∷◌, ◌++◌}
use Rattle.std.specs.Prelude.{if◌then◌else◌}
use Rattle.std.proofs.lemmas.Bool.{false≢true}
use Rattle.isl_tree.specs.declared.statement.Binary.{Binary}
use Rattle.isl_tree.specs.declared.statement.Link.{Link}
use Rattle.isl_tree.specs.declared.statement.Postfix.{Postfix}
use Rattle.isl_tree.specs.declared.statement.Expr.{Expr, Row', Prefix', Any', Last', Post'}
use Rattle.isl_tree.specs.declared.statement.Expr.{Row_of-Expr, Row_of-Link, end_of-Link, more_of-Link, items-the_row-Link}
use Rattle.isl_tree.specs.declared.statement.Expr.{Row_of-Postfix, end_of-Postfix, more_of-Postfix, items-the_row-Postfix}
use Rattle.isl_tree.specs.declared.statement.Expr.{items_hidden-the_row-Link-1, items_hidden-the_row-Postfix-2}
use Rattle.isl_tree.specs.declared.statement.Expr.TheBlock.{hidden-the_row-Expr-0, hidden-the_row-Link-1, hidden-the_row-Postfix-2}
use Rattle.isl_tree.specs.declared.statement.Expr as e
use Rattle.isl_flat.specs.Flat.{Flattened, Partial, Followed, whole, is_gist, begun, settled_row, gist, with_link}
use Rattle.isl_flat.specs.Flat.{nested, nested_in, outermost, past_links, past_postfixes, nested_postfix, followed_by, unfollowed}
use Rattle.isl_eval.specs.Asked.{is_at_numbers, question_of, shows_at_numbers}
use Rattle.isl_eval.proofs.PlainLaws.{is_end, is_bare, is_lone}

-- ---- at the constructors of the code

abbrev pub is_nil : {A : Type 0} → List A → Bool
is_nil [] = true
is_nil (x ∷ xs) = false

links_are : (m : Count) (row : Row_of-Link m) → is_end row ≡ is_nil (items-the_row-Link m row)
links_are m end_of-Link = refl
links_are m (more_of-Link operator operand row) = refl

postfixes_are : (m : Count) (row : Row_of-Postfix m) → is_bare row ≡ is_nil (items-the_row-Postfix m row)
postfixes_are m end_of-Postfix = refl
postfixes_are m (more_of-Postfix postfix row) = refl

pub lone_of-Row : (first : Expr) (links : List Link) → is_lone (e.Row first links) ≡ is_nil links
unfolding hidden-the_row-Expr-0 denote.Hole.Carrier.hidden
lone_of-Row first links = links_are _ (hidden-the_row-Link-1 links) ∙ ap is_nil (items_hidden-the_row-Link-1 links)

pub lone_of-Post : (operand : Expr) (postfixes : List Postfix) → is_lone (e.Post operand postfixes) ≡ is_nil postfixes
unfolding hidden-the_row-Expr-0 denote.Hole.Carrier.hidden
lone_of-Post operand postfixes = postfixes_are _ (hidden-the_row-Postfix-2 postfixes) ∙ ap is_nil (items_hidden-the_row-Postfix-2 postfixes)

pub lone_of-Prefix : (word : _) (operand : Expr) → is_lone (e.Prefix word operand) ≡ false
unfolding hidden-the_row-Expr-0 denote.Hole.Carrier.hidden
lone_of-Prefix word operand = refl

pub lone_of-Any : (a b c : Expr) → is_lone (e.Any a b c) ≡ false
unfolding hidden-the_row-Expr-0 denote.Hole.Carrier.hidden
lone_of-Any a b c = refl

pub lone_of-Last : (a b c : Expr) → is_lone (e.Last a b c) ≡ false
unfolding hidden-the_row-Expr-0 denote.Hole.Carrier.hidden
lone_of-Last a b c = refl

-- ---- flattening

not_nil : {A : Type 0} (xs : List A) (x : A) → is_nil (xs ++ x ∷ []) ≡ false
not_nil [] x = refl
not_nil (y ∷ xs) x = refl

link_some : (operator : Binary) (p : Partial) (f : Flattened) → is_nil (with_link operator p f).links ≡ false
link_some operator p f = by (is_gist operator)
  where
    by : (b : Bool) → is_nil (if b then gist (whole p.first p.links) f.1 f.0
        else record {
          statements = f.0;
          first = p.first;
          links =
              p.links ++ record { operator = operator; operand = f.1 } ∷ [];
        }).links ≡ false
    by true = refl
    by false = not_nil p.links (record { operator = operator; operand = f.1 })

links_some : (m : Count) (p : Partial) (row : Row_of-Link m) → is_nil p.links ≡ false → is_nil (past_links p row).links ≡ false
links_some m p end_of-Link some = some
links_some m p (more_of-Link operator operand rest) some =
    links_some _ (with_link operator (settled_row p) (nested (settled_row p).statements operand)) rest
    (link_some operator (settled_row p) (nested (settled_row p).statements operand))

postfixes_some : (m : Count) (p : Followed) (row : Row_of-Postfix m) → is_nil p.postfixes ≡ false
    → is_nil (past_postfixes p row).postfixes ≡ false
postfixes_some m p end_of-Postfix some = some
postfixes_some m p (more_of-Postfix postfix rest) some =
    postfixes_some _ (followed_by p (nested_postfix p.statements postfix)) rest
    (not_nil p.postfixes (nested_postfix p.statements postfix).1)

row_kept : (m : Count) (p : Partial) (row : Row_of-Link m) → is_end row ≡ false → is_nil (past_links p row).links ≡ false
row_kept m p end_of-Link full = absurd (false≢true (sym full))
row_kept m p (more_of-Link operator operand rest) full =
    links_some _ (with_link operator (settled_row p) (nested (settled_row p).statements operand)) rest
    (link_some operator (settled_row p) (nested (settled_row p).statements operand))

post_kept : (m : Count) (p : Followed) (row : Row_of-Postfix m) → is_bare row ≡ false → is_nil (past_postfixes p row).postfixes ≡ false
post_kept m p end_of-Postfix full = absurd (false≢true (sym full))
post_kept m p (more_of-Postfix postfix rest) full =
    postfixes_some _ (followed_by p (nested_postfix p.statements postfix)) rest
    (not_nil p.postfixes (nested_postfix p.statements postfix).1)

-- what it is in the place of: outermost it is full too, and it is shown at numbers where that is
abbrev pub IsLike : Bool → Expr → Bool → Type 0
IsLike run expr numbered = (is_lone expr ≡ false) × (shows_at_numbers run expr ≡ numbered)

module _ (run : Bool) where
  row_of-Row : (first : Expr) (links : List Link) → shows_at_numbers run (e.Row first links) ≡ false
  unfolding hidden-the_row-Expr-0 denote.Hole.Carrier.hidden
  row_of-Row first links = refl

  row_like : (first : Expr) (links : List Link) → is_nil links ≡ false → IsLike run (whole first links) false
  row_like first [] some = absurd (false≢true (sym some))
  row_like first (link ∷ links) some = (lone_of-Row first (link ∷ links), row_of-Row first (link ∷ links))

  word_like : (word : _) (s : _) (operand : Row_of-Expr _)
      → IsLike run (outermost (Prefix' word s operand)).1 (is_at_numbers run (question_of word))
  unfolding hidden-the_row-Expr-0 denote.Hole.Carrier.hidden
  word_like word s operand = (refl, refl)

  any_like : (r : _) (source : Row_of-Expr _) (s : _) (sink : Row_of-Expr _) (t : _) (schedule : Row_of-Expr _)
      → IsLike run (outermost (Any' r source s sink t schedule)).1 false
  unfolding hidden-the_row-Expr-0 denote.Hole.Carrier.hidden
  any_like r source s sink t schedule = (refl, refl)

  last_like : (r : _) (source : Row_of-Expr _) (s : _) (sink : Row_of-Expr _) (t : _) (schedule : Row_of-Expr _)
      → IsLike run (outermost (Last' r source s sink t schedule)).1 false
  unfolding hidden-the_row-Expr-0 denote.Hole.Carrier.hidden
  last_like r source s sink t schedule = (refl, refl)

  post_unnumbered : (s : _) (operand : Row_of-Expr _) (t : _) (postfixes : Row_of-Postfix _)
      → shows_at_numbers run (outermost (Post' s operand t postfixes)).1 ≡ false
  unfolding hidden-the_row-Expr-0 denote.Hole.Carrier.hidden
  post_unnumbered s operand t postfixes = refl

  -- when it is flat it is full, and is shown at numbers exactly where it was
  pub outermost_like : (expr : Expr) → is_lone expr ≡ false → IsLike run (outermost expr).1 (shows_at_numbers run expr)
  outermost_like (e.Name name) full = (refl, refl)
  outermost_like (e.Literal literal) full = (refl, refl)
  outermost_like (Row' s first t links) full =
      let p = begun (nested_in [] first) in
      row_like (past_links p links).first (past_links p links).links (row_kept _ p links full)
  outermost_like (Prefix' word s operand) full = word_like word s operand
  outermost_like (Any' r source s sink t schedule) full = any_like r source s sink t schedule
  outermost_like (Last' r source s sink t schedule) full = last_like r source s sink t schedule
  outermost_like (Post' s operand t postfixes) full =
      let f = nested_in [] operand in (
        lone_of-Post f.1 (past_postfixes (unfollowed f.0) postfixes).postfixes ∙ post_kept _ (unfollowed f.0) postfixes full,
        post_unnumbered s operand t postfixes,
      )
