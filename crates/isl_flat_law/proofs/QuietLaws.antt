-- Where nothing is chosen, and nothing wants names, there is one simple statement, and the same stands in it.
use mathlib.Core.Former.{Count, none_left, one_more}
use Rattle.std.proofs.Common.{◌≡◌, ◌∙◌, Bool, false, List, [], ◌∷◌, ◌++◌, append_assoc, refl, sym, ap, ap₂, subst, if◌then◌else◌}
use Rattle.std.specs.List.{list_any}
use Rattle.std.proofs.lemmas.Bool.{false≢true}
use Rattle.std.proofs.lemmas.List.{append-nil}
use Rattle.isl_tree.specs.declared.statement.Binary.{Binary}
use Rattle.isl_tree.specs.declared.statement.Binary.TheVariants.{Gist}
use Rattle.isl_tree.specs.declared.statement.Prefix.{Prefix as Word}
use Rattle.isl_tree.specs.declared.statement.Prefix.TheVariants.{Sample, Coalesce}
use Rattle.isl_tree.specs.declared.statement.Stmt.{Stmt}
use Rattle.isl_tree.specs.declared.statement.Stmt.TheVariants.{Empty, Bind, Show, Assume}
use Rattle.isl_tree.specs.declared.statement.Link.{Link}
use Rattle.isl_tree.specs.declared.statement.Postfix.{Postfix, Inverse, Apply, Item}
use Rattle.isl_tree.specs.declared.statement.Expr as e
use Rattle.isl_tree.specs.declared.statement.Expr.{Expr, Row', Prefix', Any', Last', Post', Row_of-Expr, more_of-Expr}
use Rattle.isl_tree.specs.declared.statement.Expr.{Row_of-Link, end_of-Link, more_of-Link, Row_of-Postfix, end_of-Postfix, more_of-Postfix}
use Rattle.isl_kinds.specs.Parts.{Part, parts_of, parts_in, parts_in_links, parts_in_postfixes, parts_of_postfix, parts_of_links}
use Rattle.isl_kinds.specs.Parts.{parts_of_postfixes, parts_of_statement}
use Rattle.isl_kinds.specs.Parts as part
use Rattle.isl_kinds.proofs.PartLaws.{parts_of-Row, parts_of-Post, parts_of-Prefix, parts_of-Any, parts_of-Last}
use Rattle.isl_flat.specs.declared.flattening.Standing.{Standing}
use Rattle.isl_flat.specs.declared.flattening.Standing.TheVariants.{Outermost, Inside}
use Rattle.isl_flat.specs.Flat.{Flattened, Partial, Followed, bound, is_gist, is_gist_row, is_gist_alone, is_sample, is_chosen, settled}
use Rattle.isl_flat.specs.Flat.{whole, begun, settled_row, link_of, gist, with_link, named, names_operand, behind_word}
use Rattle.isl_flat.specs.Flat.{followed_by, unfollowed, flattened, nested_in, past_links, past_postfixes, nested_postfix}
use Rattle.isl_flat.specs.Flat.{outermost, flat}
use Rattle.isl_flat.specs.Simple.{wants_names, last_of}
use Rattle.isl_flat_law.proofs.EachLaws.{Each, each_quiet, each_left, each_right}

-- no part is chosen or wants names
abbrev Quiet : List Part → Type 0
Quiet ps = Each (λ p. wants_names p ≡ false) ps

-- ---- nothing is chosen

plain_operator : (operator : Binary) → wants_names (part.operator operator) ≡ false → is_gist operator ≡ false
plain_operator Gist quiet = quiet
plain_operator _ quiet = refl

plain_word : (word : Word) → wants_names (part.prefix word) ≡ false → is_sample word ≡ false
plain_word Sample quiet = quiet
plain_word _ quiet = refl

plain_operand : (standing : Standing) (word : Word) → wants_names (part.prefix word) ≡ false → names_operand standing word ≡ false
plain_operand standing Sample quiet = absurd (false≢true (sym quiet))
plain_operand standing Coalesce quiet = absurd (false≢true (sym quiet))
plain_operand Outermost _ quiet = refl
plain_operand Inside _ quiet = refl

plain_row : (m : Count) (row : Row_of-Link m) → Quiet (parts_in_links row) → is_gist_row row ≡ false
plain_row m end_of-Link quiet = refl
plain_row m (more_of-Link operator operand end_of-Link) quiet = plain_operator operator quiet.0
plain_row m (more_of-Link operator operand (more_of-Link next other rest)) quiet = refl

plain_links : (links : List Link) → Quiet (parts_of_links links) → is_gist_alone links ≡ false
plain_links [] quiet = refl
plain_links (link ∷ []) quiet = plain_operator link.operator quiet.0
plain_links (link ∷ next ∷ links) quiet = refl

plain_expr : (expr : Expr) → Quiet (parts_of expr) → is_chosen expr ≡ false
plain_expr (Row' s first t links) quiet =
    plain_row _ links (each_right (λ p. wants_names p ≡ false) (parts_in first) (parts_in_links links) quiet)
plain_expr (Prefix' word s operand) quiet = plain_word word quiet.0
plain_expr _ quiet = refl

-- ---- steps

-- no statement was made, and the same parts stand there
pub record Same (old : List Stmt) (ps : List Part) (f : Flattened) : Type 0 where
  pub made : f.0 ≡ old
  pub parts : parts_of f.1 ≡ ps

pub record SameRow (old : List Stmt) (ps : List Part) (p : Partial) : Type 0 where
  pub made : p.statements ≡ old
  pub parts : parts_of p.first ++ parts_of_links p.links ≡ ps

pub record SamePost (old : List Stmt) (ps : List Part) (p : Followed) : Type 0 where
  pub made : p.statements ≡ old
  pub parts : parts_of_postfixes p.postfixes ≡ ps

pub record SamePostfix (old : List Stmt) (ps : List Part) (q : List Stmt × Postfix) : Type 0 where
  pub made : q.0 ≡ old
  pub parts : parts_of_postfix q.1 ≡ ps

settled_same : (old : List Stmt) (ps : List Part) (f : Flattened) → Quiet ps → Same old ps f → Same old ps (settled f)
settled_same old ps f quiet same =
    subst (λ (b : Bool). Same old ps (if b then bound f else f)) (sym (plain_expr f.1 (subst Quiet (sym same.parts) quiet))) same

whole_parts : (first : Expr) (links : List Link) → parts_of (whole first links) ≡ parts_of first ++ parts_of_links links
whole_parts first [] = sym (append-nil (parts_of first))
whole_parts first (link ∷ links) = parts_of-Row first (link ∷ links)

settled_row_same : (old : List Stmt) (ps : List Part) (p : Partial) → Quiet ps → SameRow old ps p → SameRow old ps (settled_row p)
settled_row_same old ps p quiet same =
    let links = each_right (λ q. wants_names q ≡ false) (parts_of p.first) (parts_of_links p.links) (subst Quiet (sym same.parts) quiet) in
    subst (λ (b : Bool). SameRow old ps (if b then begun (bound (p.statements, whole p.first p.links)) else p))
    (sym (plain_links p.links links)) same

links_with : (links : List Link) (link : Link)
    → parts_of_links (links ++ link ∷ []) ≡ parts_of_links links ++ (part.operator link.operator ∷ parts_of link.operand)
links_with [] link = ap (λ (ps : List Part). part.operator link.operator ∷ ps) (append-nil (parts_of link.operand))
links_with (first ∷ links) link =
    ap (λ (ps : List Part). part.operator first.operator ∷ (parts_of first.operand ++ ps)) (links_with links link)
    ∙ ap (λ (ps : List Part). part.operator first.operator ∷ ps)
    (sym (append_assoc (parts_of first.operand) (parts_of_links links) (part.operator link.operator ∷ parts_of link.operand)))

with_link_same : (old : List Stmt) (ps qs : List Part) (operator : Binary) (p : Partial) (f : Flattened)
    → wants_names (part.operator operator) ≡ false → SameRow old ps p → Same old qs f
    → SameRow old (ps ++ (part.operator operator ∷ qs)) (with_link operator p f)
with_link_same old ps qs operator p f plain row same =
    subst (λ (b : Bool). SameRow old (ps ++ (part.operator operator ∷ qs))
    (if b then gist (whole p.first p.links) f.1 f.0
    else record { statements = f.0; first = p.first; links = p.links ++ link_of operator f.1 ∷ [] }))
    (sym (plain_operator operator plain)) (record {
      made = same.made;
      parts = ap (λ (rs : List Part). parts_of p.first ++ rs) (links_with p.links (link_of operator f.1))
          ∙ sym (append_assoc (parts_of p.first) (parts_of_links p.links) (part.operator operator ∷ parts_of f.1))
          ∙ ap (λ (rs : List Part). rs ++ (part.operator operator ∷ parts_of f.1)) row.parts
          ∙ ap (λ (rs : List Part). ps ++ (part.operator operator ∷ rs)) same.parts;
    })

postfixes_with : (postfixes : List Postfix) (postfix : Postfix)
    → parts_of_postfixes (postfixes ++ postfix ∷ []) ≡ parts_of_postfixes postfixes ++ parts_of_postfix postfix
postfixes_with [] postfix = append-nil (parts_of_postfix postfix)
postfixes_with (first ∷ postfixes) postfix =
    ap (λ (ps : List Part). parts_of_postfix first ++ ps) (postfixes_with postfixes postfix)
    ∙ sym (append_assoc (parts_of_postfix first) (parts_of_postfixes postfixes) (parts_of_postfix postfix))

followed_same : (old : List Stmt) (ps qs : List Part) (p : Followed) (q : List Stmt × Postfix) → SamePost old ps p → SamePostfix old qs q
    → SamePost old (ps ++ qs) (followed_by p q)
followed_same old ps qs p q same here = record {
  made = here.made;
  parts = postfixes_with p.postfixes q.1 ∙ ap₂ (λ (rs ss : List Part). rs ++ ss) same.parts here.parts;
}

three_same : (ps qs rs a b c : List Part) → a ≡ ps → b ≡ qs → c ≡ rs → a ++ (b ++ c) ≡ ps ++ (qs ++ rs)
three_same ps qs rs a b c first second third =
    ap₂ (λ (xs ys : List Part). xs ++ ys) first (ap₂ (λ (xs ys : List Part). xs ++ ys) second third)

-- ---- expressions

mutual
  flattened_same : (standing : Standing) (old : List Stmt) (expr : Expr) → Quiet (parts_of expr)
      → Same old (parts_of expr) (flattened standing old expr)
  flattened_same standing old (e.Name name) quiet = record { made = refl; parts = refl }
  flattened_same standing old (e.Literal literal) quiet = record { made = refl; parts = refl }
  flattened_same standing old (Row' s first t links) quiet =
      let quiet_first = each_left (λ p. wants_names p ≡ false) (parts_in first) (parts_in_links links) quiet in
      let one = nested_in_same old first quiet_first in
      let f = nested_in old first in
      let row = past_links_same _ old (parts_in first) (begun f) links
      (record { made = one.made; parts = append-nil (parts_of f.1) ∙ one.parts }) quiet in
      let p = past_links (begun f) links in
      record { made = row.made; parts = whole_parts p.first p.links ∙ row.parts }
  flattened_same standing old (Prefix' word s operand) quiet =
      let f = nested_in old operand in
      let one = nested_in_same old operand quiet.1 in
      subst (λ (b : Bool). Same old (part.prefix word ∷ parts_in operand) (behind_word word (if b then named f else f)))
      (sym (plain_operand standing word quiet.0))
      (record { made = one.made; parts = parts_of-Prefix word f.1 ∙ ap (λ (ps : List Part). part.prefix word ∷ ps) one.parts })
  flattened_same standing old (Any' r source s sink t schedule) quiet =
      let behind_it = each_right (λ p. wants_names p ≡ false) (parts_in source) (parts_in sink ++ parts_in schedule) quiet.1 in
      let a = nested_in old source in
      let b = nested_in a.0 sink in
      let c = nested_in b.0 schedule in
      let one = nested_in_same old source
      (each_left (λ p. wants_names p ≡ false) (parts_in source) (parts_in sink ++ parts_in schedule) quiet.1) in
      let two = nested_in_same a.0 sink (each_left (λ p. wants_names p ≡ false) (parts_in sink) (parts_in schedule) behind_it) in
      let three = nested_in_same b.0 schedule (each_right (λ p. wants_names p ≡ false) (parts_in sink) (parts_in schedule) behind_it) in
      record {
        made = three.made ∙ two.made ∙ one.made;
        parts = parts_of-Any a.1 b.1 c.1 ∙ ap (λ (ps : List Part). part.any ∷ ps)
            (three_same (parts_in source) (parts_in sink) (parts_in schedule) (parts_of a.1) (parts_of b.1) (parts_of c.1) one.parts
            two.parts three.parts);
      }
  flattened_same standing old (Last' r source s sink t schedule) quiet =
      let behind_it = each_right (λ p. wants_names p ≡ false) (parts_in source) (parts_in sink ++ parts_in schedule) quiet.1 in
      let a = nested_in old source in
      let b = nested_in a.0 sink in
      let c = nested_in b.0 schedule in
      let one = nested_in_same old source
      (each_left (λ p. wants_names p ≡ false) (parts_in source) (parts_in sink ++ parts_in schedule) quiet.1) in
      let two = nested_in_same a.0 sink (each_left (λ p. wants_names p ≡ false) (parts_in sink) (parts_in schedule) behind_it) in
      let three = nested_in_same b.0 schedule (each_right (λ p. wants_names p ≡ false) (parts_in sink) (parts_in schedule) behind_it) in
      record {
        made = three.made ∙ two.made ∙ one.made;
        parts = parts_of-Last a.1 b.1 c.1 ∙ ap (λ (ps : List Part). part.last ∷ ps)
            (three_same (parts_in source) (parts_in sink) (parts_in schedule) (parts_of a.1) (parts_of b.1) (parts_of c.1) one.parts
            two.parts three.parts);
      }
  flattened_same standing old (Post' s operand t postfixes) quiet =
      let f = nested_in old operand in
      let one = nested_in_same old operand
      (each_left (λ p. wants_names p ≡ false) (parts_in operand) (parts_in_postfixes postfixes) quiet) in
      let p = past_postfixes (unfollowed f.0) postfixes in
      let more = past_postfixes_same _ old [] (unfollowed f.0) postfixes (record { made = one.made; parts = refl })
      (each_right (λ p. wants_names p ≡ false) (parts_in operand) (parts_in_postfixes postfixes) quiet) in
      record {
        made = more.made;
        parts = parts_of-Post f.1 p.postfixes ∙ ap₂ (λ (xs ys : List Part). xs ++ ys) one.parts more.parts;
      }

  -- a box has one operand
  nested_in_same : (old : List Stmt) (row : Row_of-Expr (one_more none_left)) → Quiet (parts_in row)
      → Same old (parts_in row) (nested_in old row)
  nested_in_same old (more_of-Expr expr rest) quiet =
      settled_same old (parts_of expr) (flattened Inside old expr) quiet (flattened_same Inside old expr quiet)

  past_links_same : (m : Count) (old : List Stmt) (ps : List Part) (p : Partial) (row : Row_of-Link m) → SameRow old ps p
      → Quiet (ps ++ parts_in_links row) → SameRow old (ps ++ parts_in_links row) (past_links p row)
  past_links_same m old ps p end_of-Link same quiet = record { made = same.made; parts = same.parts ∙ sym (append-nil ps) }
  past_links_same m old ps p (more_of-Link operator operand rest) same quiet =
      let before = each_left (λ q. wants_names q ≡ false) ps (part.operator operator ∷ (parts_of operand ++ parts_in_links rest)) quiet in
      let here = each_right (λ q. wants_names q ≡ false) ps (part.operator operator ∷ (parts_of operand ++ parts_in_links rest)) quiet in
      let quiet_operand = each_left (λ q. wants_names q ≡ false) (parts_of operand) (parts_in_links rest) here.1 in
      let q = settled_row p in
      let left = settled_row_same old ps p before same in
      let right0 = flattened_same Inside q.statements operand quiet_operand in
      let right1 = settled_same q.statements (parts_of operand) (flattened Inside q.statements operand) quiet_operand right0 in
      let f = settled (flattened Inside q.statements operand) in
      let right : Same old (parts_of operand) f = record { made = right1.made ∙ left.made; parts = right1.parts } in
      let one = ps ++ (part.operator operator ∷ parts_of operand) in
      let regrouped : one ++ parts_in_links rest ≡ ps ++ (part.operator operator ∷ (parts_of operand ++ parts_in_links rest)) =
      append_assoc ps (part.operator operator ∷ parts_of operand) (parts_in_links rest) in
      let more = past_links_same _ old one (with_link operator q f) rest
      (with_link_same old ps (parts_of operand) operator q f here.0 left right) (subst Quiet (sym regrouped) quiet) in
      record { made = more.made; parts = more.parts ∙ regrouped }

  past_postfixes_same : (m : Count) (old : List Stmt) (ps : List Part) (p : Followed) (row : Row_of-Postfix m) → SamePost old ps p
      → Quiet (parts_in_postfixes row) → SamePost old (ps ++ parts_in_postfixes row) (past_postfixes p row)
  past_postfixes_same m old ps p end_of-Postfix same quiet = record { made = same.made; parts = same.parts ∙ sym (append-nil ps) }
  past_postfixes_same m old ps p (more_of-Postfix postfix rest) same quiet =
      let q = nested_postfix p.statements postfix in
      let here1 = postfix_same p.statements postfix
      (each_left (λ r. wants_names r ≡ false) (parts_of_postfix postfix) (parts_in_postfixes rest) quiet) in
      let here : SamePostfix old (parts_of_postfix postfix) q = record { made = here1.made ∙ same.made; parts = here1.parts } in
      let more = past_postfixes_same _ old (ps ++ parts_of_postfix postfix) (followed_by p q) rest
      (followed_same old ps (parts_of_postfix postfix) p q same here)
      (each_right (λ r. wants_names r ≡ false) (parts_of_postfix postfix) (parts_in_postfixes rest) quiet) in
      record { made = more.made; parts = more.parts ∙ append_assoc ps (parts_of_postfix postfix) (parts_in_postfixes rest) }

  postfix_same : (old : List Stmt) (postfix : Postfix) → Quiet (parts_of_postfix postfix)
      → SamePostfix old (parts_of_postfix postfix) (nested_postfix old postfix)
  postfix_same old Inverse quiet = record { made = refl; parts = refl }
  postfix_same old (Apply argument) quiet =
      let one = settled_same old (parts_of argument) (flattened Inside old argument) quiet.1 (flattened_same Inside old argument quiet.1) in
      record { made = one.made; parts = ap (λ (ps : List Part). part.application ∷ ps) one.parts }
  postfix_same old (Item number) quiet = record { made = refl; parts = refl }

-- ---- statements

-- Where no `%`, no `sample` and no `coalesce` stands in a statement, there is one simple statement, and the same parts stand in it.
pub flat_of_quiet : (stmt : Stmt) → list_any wants_names (parts_of_statement stmt) ≡ false
    → (flat stmt ≡ last_of stmt ∷ []) × (parts_of_statement (last_of stmt) ≡ parts_of_statement stmt)
flat_of_quiet Empty none = (refl, refl)
flat_of_quiet (Bind name expr) none =
    let same = flattened_same Outermost [] expr (each_quiet wants_names (parts_of expr) none) in
    (ap (λ (made : List Stmt). made ++ Bind name (outermost expr).1 ∷ []) same.made, same.parts)
flat_of_quiet (Show expr) none =
    let same = flattened_same Outermost [] expr (each_quiet wants_names (parts_of expr) none) in
    (ap (λ (made : List Stmt). made ++ Show (outermost expr).1 ∷ []) same.made, same.parts)
flat_of_quiet (Assume set) none = (refl, refl)
