-- What is declared by the operands of an expression, one after another.
use Rattle.std.proofs.Common.{◌≡◌, ◌∙◌, ◌<◌, ◌+◌, ℕ, List, [], ◌∷◌, ◌++◌, length, get_or, take, sym, ap}
use Rattle.std.proofs.lemmas.List.{take_more}
use Rattle.isl_space.specs.Name.{Name}
use Rattle.isl_tree.specs.declared.statement.Link.{Link}
use Rattle.isl_tree.specs.declared.statement.Postfix.{Postfix}
use Rattle.isl_kinds.specs.Typed.{ScopeView, declared_of, declared_of_row, declared_of_post, declared_past, joined_names}
use Rattle.isl_kinds.proofs.JoinedNamesLaws.{declared_with, declared_followed}

-- ---- rows
pub declared_more : (scope : ScopeView) (left : List Name) (links : List Link) (i : ℕ) (link : Link) → i < length links
    → link ≡ get_or links i link
    → declared_of_row scope left (take (i + 1) links) ≡ joined_names (declared_of_row scope left (take i links))
    (declared_of scope link.operand)
declared_more scope left links i link low is =
    ap (declared_of_row scope left) (take_more links i link low ∙ ap (λ (l : Link). take i links ++ l ∷ []) (sym is))
    ∙ declared_with scope left (take i links) link

-- ---- what follows an operand
pub past_more : (scope : ScopeView) (left : List Name) (postfixes : List Postfix) (i : ℕ) (postfix : Postfix) → i < length postfixes
    → postfix ≡ get_or postfixes i postfix
    → declared_of_post scope left (take (i + 1) postfixes) ≡ declared_past scope (declared_of_post scope left (take i postfixes)) postfix
past_more scope left postfixes i postfix low is =
    ap (declared_of_post scope left) (take_more postfixes i postfix low ∙ ap (λ (p : Postfix). take i postfixes ++ p ∷ []) (sym is))
    ∙ declared_followed scope left (take i postfixes) postfix
