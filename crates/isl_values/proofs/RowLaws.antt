-- Operands from the left, and what follows one: what they select.
use mathlib.Core.Former.{Count}
use Rattle.std.proofs.Common.{◌≡◌, ◌∙◌, ◌<◌, ◌+◌, ℕ, List, [], ◌∷◌, ◌++◌, length, get_or, take, refl, sym, ap, subst}
use Rattle.std.proofs.lemmas.List.{take_more}
use Rattle.isl_space.specs.Valuation.{Valuation}
use Rattle.isl_maps.specs.Inverse.{inverse_element}
use Rattle.isl_tree.specs.declared.statement.Prefix.{Prefix as Word}
use Rattle.isl_tree.specs.declared.statement.Link.{Link}
use Rattle.isl_tree.specs.declared.statement.Postfix.{Postfix, Inverse, Apply, Item}
use Rattle.isl_tree.specs.declared.statement.Expr.{Expr, Row, Prefix, Any, Last, Post, Row_of-Link, end_of-Link, more_of-Link}
use Rattle.isl_tree.specs.declared.statement.Expr.{Row_of-Postfix, end_of-Postfix, more_of-Postfix, items-the_row-Link}
use Rattle.isl_tree.specs.declared.statement.Expr.{items-the_row-Postfix}
use Rattle.isl_tree.specs.declared.statement.Expr.{items_hidden-the_row-Link-1, items_hidden-the_row-Postfix-2}
use Rattle.isl_tree.specs.declared.statement.Expr.TheBlock.{hidden-the_row-Expr-0, hidden-the_row-Link-1, hidden-the_row-Postfix-2}
use Rattle.isl_operators.specs.Flow.{AnyHas}
use Rattle.isl_operators.specs.Operations.{OperatorHas, WordHas}
use Rattle.isl_kinds.specs.Typed.{declared_of}
use Rattle.isl_state.specs.declared.list.ListPart.{ListPart}
use Rattle.isl_state.specs.State.{AtAssumed, StateView, scope_of}
use Rattle.isl_values.specs.Worked.{PartHas, part_of_list, part_taken}
use Rattle.isl_values.specs.Selection.{PostfixHas, Selects, SelectsAt, SelectsPastLinks, SelectsPastPostfixes, RowSelects, PostSelects}
use Rattle.isl_values.proofs.SameLaws.{Elements, Same, itself, turned, same_operator, same_application}
pub use Rattle.isl_values.proofs.SameLaws.{same_trans}

-- the part that what follows an operand is about, of a list
pub part_is : (m : Count) (row : Row_of-Postfix m) → part_taken row ≡ part_of_list (items-the_row-Postfix m row)
part_is m end_of-Postfix = refl
part_is m (more_of-Postfix Inverse row) = refl
part_is m (more_of-Postfix (Apply argument) row) = refl
part_is m (more_of-Postfix (Item number) row) = refl

module _ (state : StateView) (valuation : Valuation) where
  abbrev Selected : Expr → Elements
  Selected expr x = Selects state expr valuation x

  -- ---- a word before an operand
  pub selects_of-Prefix : (part : ListPart) (word : Word) (operand : Expr)
      → Same (λ x. SelectsAt state part (Prefix word operand) valuation x)
      (WordHas word (declared_of (scope_of state) operand) (AtAssumed state (λ v x. Selects state operand v x)) valuation)
  unfolding hidden-the_row-Expr-0 denote.Hole.Carrier.hidden
  selects_of-Prefix part word operand =
      itself (WordHas word (declared_of (scope_of state) operand) (AtAssumed state (λ v x. Selects state operand v x)) valuation)

  -- ---- source, sink and schedule
  pub selects_of-Any : (part : ListPart) (source sink schedule : Expr)
      → Same (λ x. SelectsAt state part (Any source sink schedule) valuation x)
      (AnyHas (Selected source) (Selected sink) (Selected schedule))
  unfolding hidden-the_row-Expr-0 denote.Hole.Carrier.hidden
  selects_of-Any part source sink schedule = itself (AnyHas (Selected source) (Selected sink) (Selected schedule))

  pub selects_of-Last : (part : ListPart) (source sink schedule : Expr)
      → Same (λ x. SelectsAt state part (Last source sink schedule) valuation x)
      (PartHas part (Selected source) (Selected sink) (Selected schedule))
  unfolding hidden-the_row-Expr-0 denote.Hole.Carrier.hidden
  selects_of-Last part source sink schedule = itself (PartHas part (Selected source) (Selected sink) (Selected schedule))

  -- ---- rows
  pub same_row : (P Q : Elements) (links : List Link) → Same P Q
      → Same (RowSelects state valuation P links) (RowSelects state valuation Q links)
  same_row P Q [] same = same
  same_row P Q (link ∷ links) same =
      same_row (OperatorHas link.operator P (Selected link.operand)) (OperatorHas link.operator Q (Selected link.operand)) links
      (same_operator link.operator P Q (Selected link.operand) (Selected link.operand) same (itself (Selected link.operand)))

  -- one more operand
  row_push : (P : Elements) (links : List Link) (link : Link)
      → Same (RowSelects state valuation P (links ++ link ∷ []))
      (OperatorHas link.operator (RowSelects state valuation P links) (Selected link.operand))
  row_push P [] link = itself (OperatorHas link.operator P (Selected link.operand))
  row_push P (first ∷ links) link = row_push (OperatorHas first.operator P (Selected first.operand)) links link

  pub row_more : (P Left Right Made : Elements) (links : List Link) (i : ℕ) (link : Link) → i < length links → link ≡ get_or links i link
      → Same Left (RowSelects state valuation P (take i links)) → Same Right (Selected link.operand)
      → Same Made (OperatorHas link.operator Left Right)
      → Same Made (RowSelects state valuation P (take (i + 1) links))
  row_more P Left Right Made links i link low is left right made =
      let next : take (i + 1) links ≡ take i links ++ link ∷ [] = take_more links i link low
      ∙ ap (λ (l : Link). take i links ++ l ∷ []) (sym is) in
      let Before : Elements = RowSelects state valuation P (take i links) in
      let After : Elements = RowSelects state valuation P (take i links ++ link ∷ []) in
      let Joined : Elements = OperatorHas link.operator Before (Selected link.operand) in
      subst (λ (ls : List Link). Same Made (RowSelects state valuation P ls)) (sym next)
      (same_trans Made (OperatorHas link.operator Left Right) After made
      (same_trans (OperatorHas link.operator Left Right) Joined After
      (same_operator link.operator Left Before Right (Selected link.operand) left right)
      (turned After Joined (row_push P (take i links) link))))

  links_are : (m : Count) (P : Elements) (row : Row_of-Link m)
      → Same (λ x. SelectsPastLinks state valuation P row x) (RowSelects state valuation P (items-the_row-Link m row))
  links_are m P end_of-Link = itself P
  links_are m P (more_of-Link sign operand row) = links_are _ (OperatorHas sign P (Selected operand)) row

  pub selects_of-Row : (part : ListPart) (first : Expr) (links : List Link)
      → Same (λ x. SelectsAt state part (Row first links) valuation x) (RowSelects state valuation (Selected first) links)
  unfolding hidden-the_row-Expr-0 denote.Hole.Carrier.hidden
  selects_of-Row part first links =
      subst (λ (ls : List Link). Same (λ x. SelectsAt state part (Row first links) valuation x)
      (RowSelects state valuation (Selected first) ls))
      (items_hidden-the_row-Link-1 links) (links_are _ (Selected first) (hidden-the_row-Link-1 links))

  -- ---- what follows an operand
  pub same_postfix : (postfix : Postfix) (P Q : Elements) → Same P Q
      → Same (PostfixHas state valuation P postfix) (PostfixHas state valuation Q postfix)
  same_postfix Inverse P Q same = λ x. same (inverse_element x)
  same_postfix (Apply argument) P Q same =
      same_application P Q (Selected argument) (Selected argument) same (itself (Selected argument))
  same_postfix (Item number) P Q same = same

  pub same_post : (P Q : Elements) (postfixes : List Postfix) → Same P Q
      → Same (PostSelects state valuation P postfixes) (PostSelects state valuation Q postfixes)
  same_post P Q [] same = same
  same_post P Q (postfix ∷ postfixes) same =
      same_post (PostfixHas state valuation P postfix) (PostfixHas state valuation Q postfix) postfixes (same_postfix postfix P Q same)

  post_push : (P : Elements) (postfixes : List Postfix) (postfix : Postfix)
      → Same (PostSelects state valuation P (postfixes ++ postfix ∷ []))
      (PostfixHas state valuation (PostSelects state valuation P postfixes) postfix)
  post_push P [] postfix = itself (PostfixHas state valuation P postfix)
  post_push P (first ∷ postfixes) postfix = post_push (PostfixHas state valuation P first) postfixes postfix

  pub post_more : (P Left Made : Elements) (postfixes : List Postfix) (i : ℕ) (postfix : Postfix) → i < length postfixes
      → postfix ≡ get_or postfixes i postfix
      → Same Left (PostSelects state valuation P (take i postfixes)) → Same Made (PostfixHas state valuation Left postfix)
      → Same Made (PostSelects state valuation P (take (i + 1) postfixes))
  post_more P Left Made postfixes i postfix low is left made =
      let next : take (i + 1) postfixes ≡ take i postfixes ++ postfix ∷ [] = take_more postfixes i postfix low
      ∙ ap (λ (p : Postfix). take i postfixes ++ p ∷ []) (sym is) in
      let Before : Elements = PostSelects state valuation P (take i postfixes) in
      let After : Elements = PostSelects state valuation P (take i postfixes ++ postfix ∷ []) in
      subst (λ (ps : List Postfix). Same Made (PostSelects state valuation P ps)) (sym next)
      (same_trans Made (PostfixHas state valuation Left postfix) After made
      (same_trans (PostfixHas state valuation Left postfix) (PostfixHas state valuation Before postfix) After
      (same_postfix postfix Left Before left)
      (turned After (PostfixHas state valuation Before postfix) (post_push P (take i postfixes) postfix))))

  postfixes_are : (m : Count) (P : Elements) (row : Row_of-Postfix m)
      → Same (λ x. SelectsPastPostfixes state valuation P row x) (PostSelects state valuation P (items-the_row-Postfix m row))
  postfixes_are m P end_of-Postfix = itself P
  postfixes_are m P (more_of-Postfix postfix row) = postfixes_are _ (PostfixHas state valuation P postfix) row

  abbrev Taken : Expr → List Postfix → Elements
  Taken operand postfixes x = SelectsAt state (part_of_list postfixes) operand valuation x

  pub selects_of-Post : (part : ListPart) (operand : Expr) (postfixes : List Postfix)
      → Same (λ x. SelectsAt state part (Post operand postfixes) valuation x)
      (PostSelects state valuation (Taken operand postfixes) postfixes)
  unfolding hidden-the_row-Expr-0 denote.Hole.Carrier.hidden
  selects_of-Post part operand postfixes =
      let row = hidden-the_row-Postfix-2 postfixes in
      subst (λ (ps : List Postfix). Same (λ x. SelectsAt state part (Post operand postfixes) valuation x)
      (PostSelects state valuation (Taken operand ps) ps))
      (items_hidden-the_row-Postfix-2 postfixes)
      (subst (λ (at : ListPart). Same (λ x. SelectsAt state part (Post operand postfixes) valuation x)
      (PostSelects state valuation (λ x. SelectsAt state at operand valuation x) (items-the_row-Postfix _ row)))
      (part_is _ row)
      (postfixes_are _ (λ x. SelectsAt state (part_taken row) operand valuation x) row))
