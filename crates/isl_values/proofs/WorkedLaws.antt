-- The values that are worked out of an expression, operand by operand.
use mathlib.Core.Former.{Count}
use Rattle.std.proofs.Common.{◌≡◌, ◌∙◌, ◌<◌, ◌+◌, ℕ, true, List, [], ◌∷◌, ◌++◌, length, get_or, take, refl, sym, ap, subst}
use Rattle.std.proofs.lemmas.List.{take_more}
use Rattle.isl_union.specs.KeptValue.{KeptValue}
use Rattle.isl_tree.specs.declared.statement.Prefix.{Prefix as Word}
use Rattle.isl_tree.specs.declared.statement.Link.{Link}
use Rattle.isl_tree.specs.declared.statement.Postfix.{Postfix}
use Rattle.isl_tree.specs.declared.statement.Expr.{Expr, Row, Prefix, Any, Last, Post, Row_of-Link, end_of-Link, more_of-Link}
use Rattle.isl_tree.specs.declared.statement.Expr.{Row_of-Postfix, end_of-Postfix, more_of-Postfix, items-the_row-Link}
use Rattle.isl_tree.specs.declared.statement.Expr.{items-the_row-Postfix}
use Rattle.isl_tree.specs.declared.statement.Expr.{items_hidden-the_row-Link-1, items_hidden-the_row-Postfix-2}
use Rattle.isl_tree.specs.declared.statement.Expr.TheBlock.{hidden-the_row-Expr-0, hidden-the_row-Link-1, hidden-the_row-Postfix-2}
use Rattle.isl_operators.specs.Operations.{is_operation_word}
use Rattle.isl_operators.specs.Flow.{AnyHas}
use Rattle.isl_operators.specs.Made.{IsDependenceOf, IsOperatorOf}
use Rattle.isl_state.specs.declared.list.ListPart.{ListPart}
use Rattle.isl_values.specs.Live.{IsLiveOf}
use Rattle.isl_state.specs.State.{StateView}
use Rattle.isl_values.specs.Worked.{IsPostfixOf, IsWordedOf, IsWorked, IsWorkedAt, IsWorkedPastLinks, IsWorkedPastPostfixes, IsWorkedPost}
use Rattle.isl_values.specs.Worked.{IsWorkedRow}
use Rattle.isl_values.specs.Worked.{PartHas, part_of_list}
use Rattle.isl_values.proofs.RowLaws.{part_is}

-- ---- rows
links_are : (m : Count) (state : StateView) (left value : KeptValue) (row : Row_of-Link m)
    → IsWorkedRow state left (items-the_row-Link m row) value
    → IsWorkedPastLinks state left row value
links_are m state left value end_of-Link h = h
links_are m state left value (more_of-Link operator operand row) h = (h.0, h.1, h.2, h.3, links_are _ state h.1 value row h.4)

pub worked_of-Row : (state : StateView) (part : ListPart) (first : Expr) (links : List Link) (left value : KeptValue)
    → IsWorked state first left
    → IsWorkedRow state left links value → IsWorkedAt state part (Row first links) value
unfolding hidden-the_row-Expr-0 denote.Hole.Carrier.hidden
worked_of-Row state part first links left value one all = (
  left,
  one,
  links_are _ state left value (hidden-the_row-Link-1 links)
      (subst (λ (ls : List Link). IsWorkedRow state left ls value) (sym (items_hidden-the_row-Link-1 links)) all),
)

row_push : (state : StateView) (first left right made : KeptValue) (links : List Link) (link : Link) → IsWorkedRow state first links left
    → IsWorked state link.operand right → IsLiveOf state.assumed (IsOperatorOf link.operator left right) made
    → IsWorkedRow state first (links ++ link ∷ []) made
row_push state first left right made [] link before behind joins =
    (right, made, behind, subst (λ (v : KeptValue). IsLiveOf state.assumed (IsOperatorOf link.operator v right) made) before joins, refl)
row_push state first left right made (other ∷ links) link before behind joins =
    (before.0, before.1, before.2, before.3, row_push state before.1 left right made links link before.4 behind joins)

pub row_worked_more : (state : StateView) (first left right made : KeptValue) (links : List Link) (i : ℕ) (link : Link) → i < length links
    → link ≡ get_or links i link → IsWorkedRow state first (take i links) left → IsWorked state link.operand right
    → IsLiveOf state.assumed (IsOperatorOf link.operator left right) made
    → IsWorkedRow state first (take (i + 1) links) made
row_worked_more state first left right made links i link low is before behind joins =
    subst (λ (ls : List Link). IsWorkedRow state first ls made)
    (sym (take_more links i link low ∙ ap (λ (l : Link). take i links ++ l ∷ []) (sym is)))
    (row_push state first left right made (take i links) link before behind joins)

-- ---- a word before an operand
pub worked_of-Prefix : (state : StateView) (part : ListPart) (word : Word) (operand : Expr) (argument value : KeptValue)
    → IsWorked state operand argument → is_operation_word word ≡ true → IsWordedOf state word argument value
    → IsWorkedAt state part (Prefix word operand) value
unfolding hidden-the_row-Expr-0 denote.Hole.Carrier.hidden
worked_of-Prefix state part word operand argument value one is made = (argument, one, is, made)

pub worked_in-Prefix : (state : StateView) (part : ListPart) (word : Word) (operand : Expr) (value : KeptValue)
    → IsWorkedAt state part (Prefix word operand) value
    → (argument : KeptValue) × IsWorked state operand argument × (is_operation_word word ≡ true) × IsWordedOf state word argument value
unfolding hidden-the_row-Expr-0 denote.Hole.Carrier.hidden
worked_in-Prefix state part word operand value worked = worked

-- ---- what follows an operand
postfixes_are : (m : Count) (state : StateView) (operand value : KeptValue) (row : Row_of-Postfix m)
    → IsWorkedPost state operand (items-the_row-Postfix m row) value
    → IsWorkedPastPostfixes state operand row value
postfixes_are m state operand value end_of-Postfix h = h
postfixes_are m state operand value (more_of-Postfix postfix row) h = (h.0, h.1, postfixes_are _ state h.0 value row h.2)

pub worked_of-Post : (state : StateView) (part : ListPart) (operand : Expr) (postfixes : List Postfix) (left value : KeptValue)
    → IsWorkedAt state (part_of_list postfixes) operand left → IsWorkedPost state left postfixes value
    → IsWorkedAt state part (Post operand postfixes) value
unfolding hidden-the_row-Expr-0 denote.Hole.Carrier.hidden
worked_of-Post state part operand postfixes left value one all =
    let row = hidden-the_row-Postfix-2 postfixes in
    let same = items_hidden-the_row-Postfix-2 postfixes in (
      left,
      subst (λ (at : ListPart). IsWorkedAt state at operand left) (sym (part_is _ row ∙ ap part_of_list same)) one,
      postfixes_are _ state left value row (subst (λ (ps : List Postfix). IsWorkedPost state left ps value) (sym same) all),
    )

-- ---- source, sink and schedule
module _ (state : StateView) (part : ListPart) (source sink schedule : Expr) (a b c value : KeptValue) (first : IsWorked state source a)
    (second : IsWorked state sink b) (third : IsWorked state schedule c) where
  pub worked_of-Any : IsLiveOf state.assumed (IsDependenceOf AnyHas a b c) value → IsWorkedAt state part (Any source sink schedule) value
  unfolding hidden-the_row-Expr-0 denote.Hole.Carrier.hidden
  worked_of-Any made = (a, b, c, first, second, third, made)

  pub worked_of-Last : IsLiveOf state.assumed (IsDependenceOf (PartHas part) a b c) value
      → IsWorkedAt state part (Last source sink schedule) value
  unfolding hidden-the_row-Expr-0 denote.Hole.Carrier.hidden
  worked_of-Last made = (a, b, c, first, second, third, made)

post_push : (state : StateView) (operand left made : KeptValue) (postfixes : List Postfix) (postfix : Postfix)
    → IsWorkedPost state operand postfixes left
    → IsPostfixOf state postfix left made → IsWorkedPost state operand (postfixes ++ postfix ∷ []) made
post_push state operand left made [] postfix before one =
    (made, subst (λ (v : KeptValue). IsPostfixOf state postfix v made) before one, refl)
post_push state operand left made (other ∷ postfixes) postfix before one =
    (before.0, before.1, post_push state before.0 left made postfixes postfix before.2 one)

pub post_worked_more : (state : StateView) (operand left made : KeptValue) (postfixes : List Postfix) (i : ℕ) (postfix : Postfix)
    → i < length postfixes
    → postfix ≡ get_or postfixes i postfix → IsWorkedPost state operand (take i postfixes) left → IsPostfixOf state postfix left made
    → IsWorkedPost state operand (take (i + 1) postfixes) made
post_worked_more state operand left made postfixes i postfix low is before one =
    subst (λ (ps : List Postfix). IsWorkedPost state operand ps made)
    (sym (take_more postfixes i postfix low ∙ ap (λ (p : Postfix). take i postfixes ++ p ∷ []) (sym is)))
    (post_push state operand left made (take i postfixes) postfix before one)
