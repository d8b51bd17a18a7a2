-- What a walk of an expression finds, at the constructors of the code.
use Rattle.std.proofs.Common.{◌≡◌, ◌∙◌, Bool, true, false, ◌||◌, List, ◌∷◌, ◌++◌, refl, sym, ap, ap₂}
use Rattle.std.specs.List.{list_any}
use Rattle.std.proofs.lemmas.List.Folds.{list_any-append}
use Rattle.isl_space.specs.Name.{Name as Text}
use Rattle.isl_tree.specs.declared.tree.Literal.{Literal as Tree}
use Rattle.isl_tree.specs.declared.statement.Prefix.{Prefix as Word}
use Rattle.isl_tree.specs.declared.statement.Link.{Link}
use Rattle.isl_tree.specs.declared.statement.Postfix.{Postfix}
use Rattle.isl_tree.specs.declared.statement.Expr.{Expr, Name, Literal, Row, Prefix, Any, Last, Post}
use Rattle.isl_kinds.specs.Parts.{Part, parts_of, parts_of_postfix, parts_of_links, parts_of_postfixes}
use Rattle.isl_kinds.specs.Parts as part
use Rattle.isl_kinds.proofs.PartLaws.{parts_of-Row, parts_of-Post, parts_of-Prefix, parts_of-Any, parts_of-Last}

or_right : (a b c : Bool) → (a || b || c) ≡ (a || (b || c))
or_right true b c = refl
or_right false b c = refl

or_none : (b : Bool) → (b || false) ≡ b
or_none true = refl
or_none false = refl

-- a part, and three lists behind it
three_any : (test : Part → Bool) (p : Part) (xs ys zs : List Part) → list_any test (p ∷ (xs ++ (ys ++ zs)))
    ≡ (test p || list_any test xs || list_any test ys || list_any test zs)
three_any test p xs ys zs =
    ap (λ (b : Bool). test p || b) (list_any-append test xs (ys ++ zs) ∙ ap (λ (b : Bool). list_any test xs || b) (list_any-append test ys zs))
    ∙ by (test p) (list_any test xs) (list_any test ys) (list_any test zs)
  where
    by : (a b c d : Bool) → (a || (b || (c || d))) ≡ (a || b || c || d)
    by true b c d = refl
    by false b c d = sym (or_right b c d)

module _ (test : Part → Bool) (x : Expr) where
  -- the test of what the expression is finds what it finds in all parts
  found : (y : Expr) (b : Bool) → x ≡ y → b ≡ list_any test (parts_of y) → b ≡ list_any test (parts_of x)
  found y b is here = here ∙ sym (ap (λ z. list_any test (parts_of z)) is)

  pub walk-Name : (name : Text) (a : Bool) → x ≡ Name name → a ≡ test (part.name name) → a ≡ list_any test (parts_of x)
  walk-Name name a is here = found (Name name) a is (here ∙ sym (or_none (test (part.name name))))

  pub walk-Literal : (literal : Tree) (a : Bool) → x ≡ Literal literal → a ≡ test (part.literal literal) → a ≡ list_any test (parts_of x)
  walk-Literal literal a is here = found (Literal literal) a is (here ∙ sym (or_none (test (part.literal literal))))

  pub walk-Row : (first : Expr) (links : List Link) (a b : Bool) → x ≡ Row first links → a ≡ list_any test (parts_of first)
      → b ≡ list_any test (parts_of_links links) → (a || b) ≡ list_any test (parts_of x)
  walk-Row first links a b is left right =
      found (Row first links) (a || b) is (ap₂ (λ (p q : Bool). p || q) left right
      ∙ sym (ap (list_any test) (parts_of-Row first links) ∙ list_any-append test (parts_of first) (parts_of_links links)))

  pub walk-Post : (operand : Expr) (postfixes : List Postfix) (a b : Bool) → x ≡ Post operand postfixes
      → a ≡ list_any test (parts_of operand) → b ≡ list_any test (parts_of_postfixes postfixes) → (a || b) ≡ list_any test (parts_of x)
  walk-Post operand postfixes a b is left right =
      found (Post operand postfixes) (a || b) is (ap₂ (λ (p q : Bool). p || q) left right
      ∙ sym (ap (list_any test) (parts_of-Post operand postfixes)
      ∙ list_any-append test (parts_of operand) (parts_of_postfixes postfixes)))

  pub walk-Prefix : (operand : Expr) (word : Word) (a b : Bool) → x ≡ Prefix word operand → a ≡ test (part.prefix word)
      → b ≡ list_any test (parts_of operand) → (a || b) ≡ list_any test (parts_of x)
  walk-Prefix operand word a b is left right =
      found (Prefix word operand) (a || b) is (ap₂ (λ (p q : Bool). p || q) left right
      ∙ sym (ap (list_any test) (parts_of-Prefix word operand)))

  pub walk-Any : (source sink schedule : Expr) (t a b c : Bool) → x ≡ Any source sink schedule → t ≡ test part.any
      → a ≡ list_any test (parts_of source) → b ≡ list_any test (parts_of sink) → c ≡ list_any test (parts_of schedule)
      → (t || a || b || c) ≡ list_any test (parts_of x)
  walk-Any source sink schedule t a b c is here first second third =
      found (Any source sink schedule) (t || a || b || c) is
      (rw (here, first, second, third) (sym (ap (list_any test) (parts_of-Any source sink schedule)
      ∙ three_any test part.any (parts_of source) (parts_of sink) (parts_of schedule))))

  pub walk-Last : (source sink schedule : Expr) (t a b c : Bool) → x ≡ Last source sink schedule → t ≡ test part.last
      → a ≡ list_any test (parts_of source) → b ≡ list_any test (parts_of sink) → c ≡ list_any test (parts_of schedule)
      → (t || a || b || c) ≡ list_any test (parts_of x)
  walk-Last source sink schedule t a b c is here first second third =
      found (Last source sink schedule) (t || a || b || c) is
      (rw (here, first, second, third) (sym (ap (list_any test) (parts_of-Last source sink schedule)
      ∙ three_any test part.last (parts_of source) (parts_of sink) (parts_of schedule))))

pub ruleset expressions = (walk-Name, walk-Literal, walk-Row, walk-Post, walk-Prefix, walk-Any, walk-Last)

-- ---- lists
pub walk_link : (test : Part → Bool) (link : Link) (links : List Link) → list_any test (parts_of_links (link ∷ links))
    ≡ (test (part.operator link.operator) || list_any test (parts_of link.operand) || list_any test (parts_of_links links))
walk_link test link links =
    ap (λ (b : Bool). test (part.operator link.operator) || b) (list_any-append test (parts_of link.operand) (parts_of_links links))
    ∙ sym (or_right (test (part.operator link.operator)) (list_any test (parts_of link.operand)) (list_any test (parts_of_links links)))

pub walk_postfix : (test : Part → Bool) (postfix : Postfix) (postfixes : List Postfix)
    → list_any test (parts_of_postfixes (postfix ∷ postfixes)) ≡
    (list_any test (parts_of_postfix postfix) || list_any test (parts_of_postfixes postfixes))
walk_postfix test postfix postfixes = list_any-append test (parts_of_postfix postfix) (parts_of_postfixes postfixes)

pub ruleset lists = (walk_link, walk_postfix)
