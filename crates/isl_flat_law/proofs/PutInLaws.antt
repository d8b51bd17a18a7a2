-- Putting in, at the constructors of the code, and where names stand for the same.
use mathlib.Core.Former.{Count}
use Rattle.std.proofs.Common.{◌≡◌, ◌∙◌, ◌≤◌, ℕ, false, List, [], ◌∷◌, ◌++◌, refl, sym, ap, ap₂, arith}
use Rattle.isl_space.specs.Name.{Name}
use Rattle.isl_tree.specs.declared.statement.Prefix.{Prefix as Word}
use Rattle.isl_tree.specs.declared.statement.Link.{Link}
use Rattle.isl_tree.specs.declared.statement.Postfix.{Postfix, Inverse, Apply, Item}
use Rattle.isl_tree.specs.declared.statement.Expr as e
use Rattle.isl_tree.specs.declared.statement.Expr.{Expr, Row', Prefix', Any', Last', Post', Row_of-Expr, end_of-Expr, more_of-Expr}
use Rattle.isl_tree.specs.declared.statement.Expr.{Row_of-Link, end_of-Link, more_of-Link, Row_of-Postfix, end_of-Postfix, more_of-Postfix}
use Rattle.isl_tree.specs.declared.statement.Expr.{items-the_row-Link, items-the_row-Postfix}
use Rattle.isl_tree.specs.declared.statement.Expr.{items_hidden-the_row-Link-1, items_hidden-the_row-Postfix-2}
use Rattle.isl_tree.specs.declared.statement.Expr.TheBlock.{hidden-the_row-Expr-0, hidden-the_row-Link-1, hidden-the_row-Postfix-2}
use Rattle.isl_kinds.specs.Parts.{Part, parts_of, parts_in, parts_in_links, parts_in_postfixes, parts_of_postfix, parts_of_links}
use Rattle.isl_kinds.specs.Parts.{parts_of_postfixes}
use Rattle.isl_kinds.specs.Parts as part
use Rattle.isl_kinds.specs.Typed.{is_dollar}
use Rattle.isl_flat.specs.Flat.{whole}
use Rattle.isl_flat.specs.Simple.{names_dollar}
use Rattle.isl_flat_law.specs.PutBack.{Meaning, operation, put_in, put_in_box, put_in_links, put_in_postfixes, put_in_postfix, put_in_row}
use Rattle.isl_flat_law.specs.PutBack.{put_in_post}
use Rattle.std.proofs.lemmas.Bool.{false≢true}
use Rattle.isl_flat_law.proofs.EachLaws.{Each, each_left, each_right}
use Rattle.isl_flat_law.proofs.KeptLaws.{IsSteady}
use Rattle.isl_flat_law.proofs.ViewLaws.{IsLow, clear_dollar, clear_blank}

-- ---- at the constructors

module _ (named : Meaning) where
  links_are : (m : Count) (left : Expr) (row : Row_of-Link m)
      → put_in_links named left row ≡ put_in_row named left (items-the_row-Link m row)
  links_are m left end_of-Link = refl
  links_are m left (more_of-Link operator operand row) = links_are _ (operation operator left (put_in named operand)) row

  postfixes_are : (m : Count) (row : Row_of-Postfix m) → put_in_postfixes named row ≡ put_in_post named (items-the_row-Postfix m row)
  postfixes_are m end_of-Postfix = refl
  postfixes_are m (more_of-Postfix postfix row) =
      ap (λ (ps : List Postfix). put_in_postfix named postfix ∷ ps) (postfixes_are _ row)

  put_in-Row : (first : Expr) (links : List Link) → put_in named (e.Row first links) ≡ put_in_row named (put_in named first) links
  unfolding hidden-the_row-Expr-0 denote.Hole.Carrier.hidden
  put_in-Row first links =
      links_are _ (put_in named first) (hidden-the_row-Link-1 links)
      ∙ ap (put_in_row named (put_in named first)) (items_hidden-the_row-Link-1 links)

  pub put_in-Post : (operand : Expr) (postfixes : List Postfix)
      → put_in named (e.Post operand postfixes) ≡ e.Post (put_in named operand) (put_in_post named postfixes)
  unfolding hidden-the_row-Expr-0 denote.Hole.Carrier.hidden
  put_in-Post operand postfixes =
      ap (e.Post (put_in named operand))
      (postfixes_are _ (hidden-the_row-Postfix-2 postfixes) ∙ ap (put_in_post named) (items_hidden-the_row-Postfix-2 postfixes))

  pub put_in-Prefix : (word : Word) (operand : Expr) → put_in named (e.Prefix word operand) ≡ e.Prefix word (put_in named operand)
  unfolding hidden-the_row-Expr-0 denote.Hole.Carrier.hidden
  put_in-Prefix word operand = refl

  pub put_in-Any : (a b c : Expr) → put_in named (e.Any a b c) ≡ e.Any (put_in named a) (put_in named b) (put_in named c)
  unfolding hidden-the_row-Expr-0 denote.Hole.Carrier.hidden
  put_in-Any a b c = refl

  pub put_in-Last : (a b c : Expr) → put_in named (e.Last a b c) ≡ e.Last (put_in named a) (put_in named b) (put_in named c)
  unfolding hidden-the_row-Expr-0 denote.Hole.Carrier.hidden
  put_in-Last a b c = refl

  pub put_in_whole : (first : Expr) (links : List Link)
      → put_in named (whole first links) ≡ put_in_row named (put_in named first) links
  put_in_whole first [] = refl
  put_in_whole first (link ∷ links) = put_in-Row first (link ∷ links)

  -- the last of a list
  pub row_with : (left : Expr) (links : List Link) (link : Link) → put_in_row named left (links ++ link ∷ [])
      ≡ operation link.operator (put_in_row named left links) (put_in named link.operand)
  row_with left [] link = refl
  row_with left (other ∷ links) link = row_with (operation other.operator left (put_in named other.operand)) links link

  pub post_with : (postfixes : List Postfix) (postfix : Postfix)
      → put_in_post named (postfixes ++ postfix ∷ []) ≡ put_in_post named postfixes ++ put_in_postfix named postfix ∷ []
  post_with [] postfix = refl
  post_with (other ∷ postfixes) postfix = ap (λ (ps : List Postfix). put_in_postfix named other ∷ ps) (post_with postfixes postfix)

-- ---- names that are no dollar names behind a number

-- no dollar name behind this number stands there
abbrev pub HasLow : ℕ → Part → Type 0
HasLow k (part.name n) = IsLow k n
HasLow k _ = Unit {0}

pub low_up : (j k : ℕ) (name : Name) → j ≤ k → IsLow j name → IsLow k name
low_up j k name few low = λ i behind small. low i (omega (arith, few, behind)) small

part_up : (j k : ℕ) (p : Part) → j ≤ k → HasLow j p → HasLow k p
part_up j k (part.name n) few low = low_up j k n few low
part_up j k _ few low = tt

pub low_steady : IsSteady HasLow
low_steady = record { up = part_up; new = clear_dollar; blank = clear_blank }

pub low_plain : (p : Part) → names_dollar p ≡ false → HasLow 0 p
low_plain (part.name n) plain = λ i behind small same. false≢true (sym plain ∙ ap is_dollar same)
low_plain _ plain = tt

pub three_same : (made : Expr → Expr → Expr → Expr) (a b c p q r : Expr) → a ≡ p → b ≡ q → c ≡ r → made a b c ≡ made p q r
three_same made a b c p q r first second third =
    ap (λ (x : Expr). made x b c) first ∙ ap (λ (x : Expr). made p x c) second ∙ ap (made p q) third

-- what is put in depends on what the names in it stand for, and on nothing else
module _ (k : ℕ) (later before : Meaning) (agree : (name : Name) → IsLow k name → later name ≡ before name) where
  mutual
    pub same : (expr : Expr) → Each (HasLow k) (parts_of expr) → put_in later expr ≡ put_in before expr
    same (e.Name name) low = agree name low.0
    same (e.Literal literal) low = refl
    same (Row' s first t links) low =
        ap (λ (x : Expr). put_in_links later x links)
        (same_in _ first (each_left (HasLow k) (parts_in first) (parts_in_links links) low))
        ∙ same_links _ (put_in_box before first) links (each_right (HasLow k) (parts_in first) (parts_in_links links) low)
    same (Prefix' word s operand) low = ap (e.Prefix word) (same_in _ operand low.1)
    same (Any' r source s sink t schedule) low =
        let behind = each_right (HasLow k) (parts_in source) (parts_in sink ++ parts_in schedule) low.1 in
        three_same e.Any (put_in_box later source) (put_in_box later sink) (put_in_box later schedule) (put_in_box before source)
        (put_in_box before sink) (put_in_box before schedule)
        (same_in _ source (each_left (HasLow k) (parts_in source) (parts_in sink ++ parts_in schedule) low.1))
        (same_in _ sink (each_left (HasLow k) (parts_in sink) (parts_in schedule) behind))
        (same_in _ schedule (each_right (HasLow k) (parts_in sink) (parts_in schedule) behind))
    same (Last' r source s sink t schedule) low =
        let behind = each_right (HasLow k) (parts_in source) (parts_in sink ++ parts_in schedule) low.1 in
        three_same e.Last (put_in_box later source) (put_in_box later sink) (put_in_box later schedule) (put_in_box before source)
        (put_in_box before sink) (put_in_box before schedule)
        (same_in _ source (each_left (HasLow k) (parts_in source) (parts_in sink ++ parts_in schedule) low.1))
        (same_in _ sink (each_left (HasLow k) (parts_in sink) (parts_in schedule) behind))
        (same_in _ schedule (each_right (HasLow k) (parts_in sink) (parts_in schedule) behind))
    same (Post' s operand t postfixes) low =
        ap₂ e.Post (same_in _ operand (each_left (HasLow k) (parts_in operand) (parts_in_postfixes postfixes) low))
        (same_postfixes _ postfixes (each_right (HasLow k) (parts_in operand) (parts_in_postfixes postfixes) low))

    same_in : (m : Count) (row : Row_of-Expr m) → Each (HasLow k) (parts_in row) → put_in_box later row ≡ put_in_box before row
    same_in m end_of-Expr low = refl
    same_in m (more_of-Expr expr rest) low = same expr low

    same_links : (m : Count) (left : Expr) (row : Row_of-Link m) → Each (HasLow k) (parts_in_links row)
        → put_in_links later left row ≡ put_in_links before left row
    same_links m left end_of-Link low = refl
    same_links m left (more_of-Link operator operand rest) low =
        ap (λ (x : Expr). put_in_links later (operation operator left x) rest)
        (same operand (each_left (HasLow k) (parts_of operand) (parts_in_links rest) low.1))
        ∙ same_links _ (operation operator left (put_in before operand)) rest
        (each_right (HasLow k) (parts_of operand) (parts_in_links rest) low.1)

    same_postfixes : (m : Count) (row : Row_of-Postfix m) → Each (HasLow k) (parts_in_postfixes row)
        → put_in_postfixes later row ≡ put_in_postfixes before row
    same_postfixes m end_of-Postfix low = refl
    same_postfixes m (more_of-Postfix postfix rest) low =
        ap₂ (λ (p : Postfix) (ps : List Postfix). p ∷ ps)
        (same_postfix postfix (each_left (HasLow k) (parts_of_postfix postfix) (parts_in_postfixes rest) low))
        (same_postfixes _ rest (each_right (HasLow k) (parts_of_postfix postfix) (parts_in_postfixes rest) low))

    same_postfix : (postfix : Postfix) → Each (HasLow k) (parts_of_postfix postfix)
        → put_in_postfix later postfix ≡ put_in_postfix before postfix
    same_postfix Inverse low = refl
    same_postfix (Apply argument) low = ap Apply (same argument low.1)
    same_postfix (Item number) low = refl

  -- the same of lists
  pub same_row : (left : Expr) (links : List Link) → Each (HasLow k) (parts_of_links links)
      → put_in_row later left links ≡ put_in_row before left links
  same_row left [] low = refl
  same_row left (link ∷ links) low =
      ap (λ (x : Expr). put_in_row later (operation link.operator left x) links)
      (same link.operand (each_left (HasLow k) (parts_of link.operand) (parts_of_links links) low.1))
      ∙ same_row (operation link.operator left (put_in before link.operand)) links
      (each_right (HasLow k) (parts_of link.operand) (parts_of_links links) low.1)

  pub same_post : (postfixes : List Postfix) → Each (HasLow k) (parts_of_postfixes postfixes)
      → put_in_post later postfixes ≡ put_in_post before postfixes
  same_post [] low = refl
  same_post (postfix ∷ postfixes) low =
      ap₂ (λ (p : Postfix) (ps : List Postfix). p ∷ ps)
      (same_postfix postfix (each_left (HasLow k) (parts_of_postfix postfix) (parts_of_postfixes postfixes) low))
      (same_post postfixes (each_right (HasLow k) (parts_of_postfix postfix) (parts_of_postfixes postfixes) low))
