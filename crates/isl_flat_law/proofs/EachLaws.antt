-- What each part of an expression has.
use Rattle.std.proofs.Common.{◌≡◌, ◌∙◌, Bool, false, ◌||◌, List, [], ◌∷◌, ◌++◌, refl, sym, ap, subst}
use Rattle.std.specs.List.{list_any}
use Rattle.std.proofs.lemmas.Bool.{or_parts}
use Rattle.isl_tree.specs.declared.statement.Prefix.{Prefix as Word}
use Rattle.isl_tree.specs.declared.statement.Link.{Link}
use Rattle.isl_tree.specs.declared.statement.Postfix.{Postfix}
use Rattle.isl_tree.specs.declared.statement.Expr.{Expr, Row, Prefix, Any, Last, Post}
use Rattle.isl_kinds.specs.Parts.{Part, parts_of, parts_of_links, parts_of_postfix, parts_of_postfixes}
use Rattle.isl_kinds.specs.Parts as part
use Rattle.isl_kinds.proofs.PartLaws.{parts_of-Row, parts_of-Post, parts_of-Prefix, parts_of-Any, parts_of-Last}

abbrev pub Each : (Part → Type 0) → List Part → Type 0
Each P [] = Unit {0}
Each P (p ∷ ps) = P p × Each P ps

pub each_weaker : (P Q : Part → Type 0) → ((p : Part) → P p → Q p) → (ps : List Part) → Each P ps → Each Q ps
each_weaker P Q weaker [] all = tt
each_weaker P Q weaker (p ∷ ps) all = (weaker p all.0, each_weaker P Q weaker ps all.1)

pub each_zip : (P Q : Part → Type 0) (ps : List Part) → Each P ps → Each Q ps → Each (λ p. P p × Q p) ps
each_zip P Q [] all both = tt
each_zip P Q (p ∷ ps) all both = ((all.0, both.0), each_zip P Q ps all.1 both.1)

-- ---- tests that nothing passes

pub each_quiet : (test : Part → Bool) (ps : List Part) → list_any test ps ≡ false → Each (λ p. test p ≡ false) ps
each_quiet test [] none = tt
each_quiet test (p ∷ ps) none = let both = or_parts (test p) (list_any test ps) none in (both.0, each_quiet test ps both.1)

pub quiet_each : (test : Part → Bool) (ps : List Part) → Each (λ p. test p ≡ false) ps → list_any test ps ≡ false
quiet_each test [] all = refl
quiet_each test (p ∷ ps) all = ap (λ (b : Bool). b || list_any test ps) all.0 ∙ quiet_each test ps all.1

-- ---- what is put together

module _ (P : Part → Type 0) where
  pub each_both : (ps qs : List Part) → Each P ps → Each P qs → Each P (ps ++ qs)
  each_both [] qs left right = right
  each_both (p ∷ ps) qs left right = (left.0, each_both ps qs left.1 right)

  pub each_left : (ps qs : List Part) → Each P (ps ++ qs) → Each P ps
  each_left [] qs all = tt
  each_left (p ∷ ps) qs all = (all.0, each_left ps qs all.1)

  pub each_right : (ps qs : List Part) → Each P (ps ++ qs) → Each P qs
  each_right [] qs all = all
  each_right (p ∷ ps) qs all = each_right ps qs all.1

  pub each_Row : (first : Expr) (links : List Link) → Each P (parts_of first) → Each P (parts_of_links links)
      → Each P (parts_of (Row first links))
  each_Row first links left right =
      subst (Each P) (sym (parts_of-Row first links)) (each_both (parts_of first) (parts_of_links links) left right)

  pub each_Post : (operand : Expr) (postfixes : List Postfix) → Each P (parts_of operand) → Each P (parts_of_postfixes postfixes)
      → Each P (parts_of (Post operand postfixes))
  each_Post operand postfixes left right =
      subst (Each P) (sym (parts_of-Post operand postfixes)) (each_both (parts_of operand) (parts_of_postfixes postfixes) left right)

  pub each_Prefix : (word : Word) (operand : Expr) → P (part.prefix word) → Each P (parts_of operand)
      → Each P (parts_of (Prefix word operand))
  each_Prefix word operand here inside = subst (Each P) (sym (parts_of-Prefix word operand)) (here, inside)

  each_three : (a b c : Expr) → Each P (parts_of a) → Each P (parts_of b) → Each P (parts_of c)
      → Each P (parts_of a ++ (parts_of b ++ parts_of c))
  each_three a b c first second third =
      each_both (parts_of a) (parts_of b ++ parts_of c) first (each_both (parts_of b) (parts_of c) second third)

  pub each_Any : (a b c : Expr) → P part.any → Each P (parts_of a) → Each P (parts_of b) → Each P (parts_of c)
      → Each P (parts_of (Any a b c))
  each_Any a b c here first second third = subst (Each P) (sym (parts_of-Any a b c)) (here, each_three a b c first second third)

  pub each_Last : (a b c : Expr) → P part.last → Each P (parts_of a) → Each P (parts_of b) → Each P (parts_of c)
      → Each P (parts_of (Last a b c))
  each_Last a b c here first second third = subst (Each P) (sym (parts_of-Last a b c)) (here, each_three a b c first second third)

  pub each_link : (links : List Link) (link : Link) → Each P (parts_of_links links) → P (part.operator link.operator)
      → Each P (parts_of link.operand) → Each P (parts_of_links (links ++ link ∷ []))
  each_link [] link all here inside = (here, each_both (parts_of link.operand) [] inside tt)
  each_link (first ∷ links) link all here inside =
      let left = each_left (parts_of first.operand) (parts_of_links links) all.1 in
      let right = each_right (parts_of first.operand) (parts_of_links links) all.1 in
      (all.0, each_both (parts_of first.operand) (parts_of_links (links ++ link ∷ [])) left (each_link links link right here inside))

  pub each_postfix : (postfixes : List Postfix) (postfix : Postfix) → Each P (parts_of_postfixes postfixes)
      → Each P (parts_of_postfix postfix) → Each P (parts_of_postfixes (postfixes ++ postfix ∷ []))
  each_postfix [] postfix all here = each_both (parts_of_postfix postfix) [] here tt
  each_postfix (first ∷ postfixes) postfix all here =
      each_both (parts_of_postfix first) (parts_of_postfixes (postfixes ++ postfix ∷ []))
      (each_left (parts_of_postfix first) (parts_of_postfixes postfixes) all)
      (each_postfix postfixes postfix (each_right (parts_of_postfix first) (parts_of_postfixes postfixes) all) here)
