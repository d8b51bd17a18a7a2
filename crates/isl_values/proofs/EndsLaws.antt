-- What ends an evaluation in rows, and in what follows an operand.
use mathlib.Core.Former.{Count}
use Rattle.std.proofs.Common.{◌≡◌, ◌∙◌, inl, inr, ◌<◌, ◌+◌, ℕ, zero, suc, List, [], ◌∷◌, ◌++◌, length, get_or, take}
use Rattle.std.proofs.Common.{sym, ap, subst, arith}
use Rattle.std.proofs.lemmas.List.{take_more}
use Rattle.isl_space.specs.Name.{Name}
use Rattle.isl_tree.specs.declared.statement.Prefix.{Prefix as Word}
use Rattle.isl_tree.specs.declared.statement.Link.{Link}
use Rattle.isl_tree.specs.declared.statement.Postfix.{Postfix, Inverse, Apply, Item}
use Rattle.isl_tree.specs.declared.statement.Expr.{Expr, Row, Prefix, Any, Last, Post, Row_of-Link, end_of-Link, more_of-Link}
use Rattle.isl_tree.specs.declared.statement.Expr.{Row_of-Postfix, end_of-Postfix, more_of-Postfix, items-the_row-Link}
use Rattle.isl_tree.specs.declared.statement.Expr.{items-the_row-Postfix}
use Rattle.isl_tree.specs.declared.statement.Expr.{items_hidden-the_row-Link-1, items_hidden-the_row-Postfix-2}
use Rattle.isl_tree.specs.declared.statement.Expr.TheBlock.{hidden-the_row-Expr-0, hidden-the_row-Link-1, hidden-the_row-Postfix-2}
use Rattle.isl_kinds.specs.Typed.{declared_of, declared_of_row, declared_of_post, declared_past, joined_names}
use Rattle.isl_operators.specs.Operations.{OperatorHas}
use Rattle.isl_operators.specs.Formed.{OperatorForms, ApplicationForms}
use Rattle.isl_state.specs.declared.list.ListPart.{ListPart}
use Rattle.isl_state.specs.State.{AtAssumed, StateView, scope_of}
use Rattle.isl_values.specs.Worked.{part_of_list, part_taken}
use Rattle.isl_values.specs.Selection.{PostfixHas, Selects, SelectsAt, RowSelects, PostSelects}
use Rattle.isl_values.specs.Ends.{CutUnder, End, NoEnd, GoesOn, FirstEnds, Ends, DependenceEnds, PairEnds, WordEnds}
use Rattle.isl_values.specs.Ends.{EndsPastLinks, EndsPastPostfixes, EndsPostfix, EndsRow, EndsPost}
use Rattle.isl_values.specs.Three.{OperandsEnd}
use Rattle.isl_outcome.proofs.FirstLaws.{EndAlike, alike_itself, alike_trans, both_go, first_alike, first_grouped, goes_alike, goes_both}
use Rattle.isl_outcome.proofs.FirstLaws.{nothing_first, turned_alike}
use Rattle.isl_values.proofs.SameLaws.{at_assumed, itself, same_operator}
use Rattle.isl_values.proofs.RowLaws.{part_is, same_postfix}
use Rattle.isl_values.proofs.AlikeLaws.{pair_alike}
pub use Rattle.isl_values.proofs.SameLaws.{AreSame, AreSameAt, Selection}

module _ (state : StateView) where
  abbrev Selected : Expr → Selection
  Selected expr v x = Selects state expr v x

  selected_itself : (expr : Expr) → AreSame (AtAssumed state (Selected expr)) (AtAssumed state (Selected expr))
  selected_itself expr v = itself (AtAssumed state (Selected expr) v)

  -- ---- rows
  abbrev Past : Selection → Link → Selection
  Past P link v x = OperatorHas link.operator (P v) (λ y. Selects state link.operand v y) x

  abbrev pub Behind : Selection → List Link → Selection
  Behind P links v x = RowSelects state v (P v) links x

  abbrev NamesWith : List Name → Link → List Name
  NamesWith names link = joined_names names (declared_of (scope_of state) link.operand)

  -- an operator with its operand, behind operands with these parameters and elements
  abbrev pub OperatorEnds : List Name → Selection → Link → End → Type 0
  OperatorEnds names P link =
      PairEnds (OperatorForms link.operator) names (declared_of (scope_of state) link.operand) (AtAssumed state P)
      (AtAssumed state (λ v y. Selects state link.operand v y))

  abbrev pub EndsWith : List Name → Selection → Link → End → Type 0
  EndsWith names P link = FirstEnds (Ends state link.operand) (OperatorEnds names P link)

  pub row_alike : (names : List Name) (P Q : Selection) (links : List Link) → AreSameAt state.assumed P Q
      → EndAlike (EndsRow state names P links) (EndsRow state names Q links)
  row_alike names P Q [] same = alike_itself NoEnd
  row_alike names P Q (link ∷ links) same =
      let next = NamesWith names link in
      let own = Ends state link.operand in
      let now = pair_alike (OperatorForms link.operator) names (declared_of (scope_of state) link.operand) (AtAssumed state P)
      (AtAssumed state Q) (AtAssumed state (Selected link.operand)) (AtAssumed state (Selected link.operand)) (at_assumed state P Q same)
      (selected_itself link.operand) in
      let rest = row_alike next (Past P link) (Past Q link) links
      (λ v here. same_operator link.operator (P v) (Q v) (Selected link.operand v) (Selected link.operand v) (same v here)
      (itself (Selected link.operand v))) in
      first_alike own (FirstEnds (OperatorEnds names P link) (EndsRow state next (Past P link) links)) own
      (FirstEnds (OperatorEnds names Q link) (EndsRow state next (Past Q link) links)) (alike_itself own)
      (first_alike (OperatorEnds names P link) (EndsRow state next (Past P link) links) (OperatorEnds names Q link)
      (EndsRow state next (Past Q link) links) now rest)

  pub row_ends_at : (names : List Name) (P : Selection) (links : List Link) (i : ℕ) (link : Link) (why : End) → i < length links
      → link ≡ get_or links i link → GoesOn (EndsRow state names P (take i links))
      → EndsWith (declared_of_row (scope_of state) names (take i links)) (Behind P (take i links)) link why
      → EndsRow state names P links why
  row_ends_at names P [] i link why low is on h = absurd (omega (arith, low))
  row_ends_at names P (other ∷ links) zero link why low is on h = by (subst (λ (l : Link). EndsWith names P l why) is h)
    where
      by : EndsWith names P other why → EndsRow state names P (other ∷ links) why
      by (inl k) = inl k
      by (inr k) = inr (k.0, inl k.1)
  row_ends_at names P (other ∷ links) (suc i) link why low is on h =
      let next = NamesWith names other in
      let rest = EndsRow state next (Past P other) (take i links) in
      let one = both_go (Ends state other.operand) (FirstEnds (OperatorEnds names P other) rest) on in
      let two = both_go (OperatorEnds names P other) rest one.1 in
      inr (one.0, inr (two.0, row_ends_at next (Past P other) links i link why (omega (arith, low)) is two.1 h))

  -- a row and another behind it
  pub row_split : (names : List Name) (P : Selection) (links more : List Link)
      → EndAlike (EndsRow state names P (links ++ more))
      (FirstEnds (EndsRow state names P links) (EndsRow state (declared_of_row (scope_of state) names links) (Behind P links) more))
  row_split names P [] more = nothing_first (EndsRow state names P more)
  row_split names P (link ∷ links) more =
      let next = NamesWith names link in
      let A = Ends state link.operand in
      let B = OperatorEnds names P link in
      let C = EndsRow state next (Past P link) links in
      let D = EndsRow state (declared_of_row (scope_of state) next links) (Behind (Past P link) links) more in
      let all = EndsRow state next (Past P link) (links ++ more) in
      let rest = row_split next (Past P link) links more in
      let inner : EndAlike (FirstEnds B all) (FirstEnds (FirstEnds B C) D) =
      alike_trans (FirstEnds B all) (FirstEnds B (FirstEnds C D)) (FirstEnds (FirstEnds B C) D)
      (first_alike B all B (FirstEnds C D) (alike_itself B) rest) (first_grouped B C D) in
      alike_trans (FirstEnds A (FirstEnds B all)) (FirstEnds A (FirstEnds (FirstEnds B C) D)) (FirstEnds (FirstEnds A (FirstEnds B C)) D)
      (first_alike A (FirstEnds B all) A (FirstEnds (FirstEnds B C) D) (alike_itself A) inner) (first_grouped A (FirstEnds B C) D)

  alone : (names : List Name) (P : Selection) (link : Link) → GoesOn (EndsWith names P link) → GoesOn (EndsRow state names P (link ∷ []))
  alone names P link on =
      let both = both_go (Ends state link.operand) (OperatorEnds names P link) on in
      goes_both (Ends state link.operand) (FirstEnds (OperatorEnds names P link) NoEnd) both.0
      (goes_both (OperatorEnds names P link) NoEnd both.1 (λ why h. h))

  pub row_goes_more : (names : List Name) (P : Selection) (links : List Link) (i : ℕ) (link : Link) → i < length links
      → link ≡ get_or links i link → GoesOn (EndsRow state names P (take i links))
      → GoesOn (EndsWith (declared_of_row (scope_of state) names (take i links)) (Behind P (take i links)) link)
      → GoesOn (EndsRow state names P (take (i + 1) links))
  row_goes_more names P links i link low is before one =
      let next = take_more links i link low ∙ ap (λ (l : Link). take i links ++ l ∷ []) (sym is) in
      let done = take i links in
      let A = EndsRow state names P done in
      let B = EndsRow state (declared_of_row (scope_of state) names done) (Behind P done) (link ∷ []) in
      let both = goes_both A B before (alone (declared_of_row (scope_of state) names done) (Behind P done) link one) in
      let split = row_split names P done (link ∷ []) in
      subst (λ (ls : List Link). GoesOn (EndsRow state names P ls)) (sym next)
      (goes_alike (FirstEnds A B) (EndsRow state names P (done ++ link ∷ [])) (turned_alike _ _ split) both)

  links_end : (m : Count) (names : List Name) (P : Selection) (row : Row_of-Link m)
      → EndAlike (EndsPastLinks state names P row) (EndsRow state names P (items-the_row-Link m row))
  links_end m names P end_of-Link = alike_itself NoEnd
  links_end m names P (more_of-Link operator operand row) =
      let next = joined_names names (declared_of (scope_of state) operand) in
      let Further : Selection = λ v x. OperatorHas operator (P v) (λ y. Selects state operand v y) x in
      let A = Ends state operand in
      let B = PairEnds (OperatorForms operator) names (declared_of (scope_of state) operand) (AtAssumed state P)
      (AtAssumed state (λ v x. Selects state operand v x)) in
      let C = EndsPastLinks state next Further row in
      let D = EndsRow state next Further (items-the_row-Link _ row) in
      first_alike A (FirstEnds B C) A (FirstEnds B D) (alike_itself A)
      (first_alike B C B D (alike_itself B) (links_end _ next Further row))

  pub ends_of-Row : (first : Expr) (links : List Link)
      → EndAlike (Ends state (Row first links))
      (FirstEnds (Ends state first) (EndsRow state (declared_of (scope_of state) first) (λ v x. Selects state first v x) links))
  unfolding hidden-the_row-Expr-0 denote.Hole.Carrier.hidden
  ends_of-Row first links =
      subst (λ (ls : List Link). EndAlike (Ends state (Row first links))
      (FirstEnds (Ends state first) (EndsRow state (declared_of (scope_of state) first) (λ v x. Selects state first v x) ls)))
      (items_hidden-the_row-Link-1 links)
      (first_alike (Ends state first) _ (Ends state first) _ (alike_itself (Ends state first))
      (links_end _ (declared_of (scope_of state) first) (λ v x. Selects state first v x) (hidden-the_row-Link-1 links)))

  -- ---- a word before an operand
  pub ends_of-Prefix : (word : Word) (operand : Expr)
      → EndAlike (Ends state (Prefix word operand))
      (FirstEnds (Ends state operand) (WordEnds word (AtAssumed state (λ v x. Selects state operand v x))))
  unfolding hidden-the_row-Expr-0 denote.Hole.Carrier.hidden
  ends_of-Prefix word operand why = ((λ h. h), (λ h. h))

  -- ---- what follows an operand
  abbrev Followed : Selection → Postfix → Selection
  Followed P postfix v x = PostfixHas state v (P v) postfix x

  abbrev pub Before : Selection → List Postfix → Selection
  Before P postfixes v x = PostSelects state v (P v) postfixes x

  pub postfix_alike : (names : List Name) (P Q : Selection) (postfix : Postfix) → AreSameAt state.assumed P Q
      → EndAlike (EndsPostfix state names P postfix) (EndsPostfix state names Q postfix)
  postfix_alike names P Q Inverse same = alike_itself (CutUnder state)
  postfix_alike names P Q (Apply argument) same =
      first_alike (Ends state argument) _ (Ends state argument) _ (alike_itself (Ends state argument))
      (pair_alike ApplicationForms names (declared_of (scope_of state) argument) (AtAssumed state P) (AtAssumed state Q)
      (AtAssumed state (Selected argument)) (AtAssumed state (Selected argument)) (at_assumed state P Q same) (selected_itself argument))
  postfix_alike names P Q (Item number) same = alike_itself NoEnd

  pub post_alike : (names : List Name) (P Q : Selection) (postfixes : List Postfix) → AreSameAt state.assumed P Q
      → EndAlike (EndsPost state names P postfixes) (EndsPost state names Q postfixes)
  post_alike names P Q [] same = alike_itself NoEnd
  post_alike names P Q (postfix ∷ postfixes) same =
      let next = declared_past (scope_of state) names postfix in
      first_alike (EndsPostfix state names P postfix) (EndsPost state next (Followed P postfix) postfixes)
      (EndsPostfix state names Q postfix) (EndsPost state next (Followed Q postfix) postfixes) (postfix_alike names P Q postfix same)
      (post_alike next (Followed P postfix) (Followed Q postfix) postfixes
      (λ v here. same_postfix state v postfix (P v) (Q v) (same v here)))

  pub post_ends_at : (names : List Name) (P : Selection) (postfixes : List Postfix) (i : ℕ) (postfix : Postfix) (why : End)
      → i < length postfixes → postfix ≡ get_or postfixes i postfix → GoesOn (EndsPost state names P (take i postfixes))
      → EndsPostfix state (declared_of_post (scope_of state) names (take i postfixes)) (Before P (take i postfixes)) postfix why
      → EndsPost state names P postfixes why
  post_ends_at names P [] i postfix why low is on h = absurd (omega (arith, low))
  post_ends_at names P (other ∷ postfixes) zero postfix why low is on h =
      inl (subst (λ (p : Postfix). EndsPostfix state names P p why) is h)
  post_ends_at names P (other ∷ postfixes) (suc i) postfix why low is on h =
      let next = declared_past (scope_of state) names other in
      let both = both_go (EndsPostfix state names P other) (EndsPost state next (Followed P other) (take i postfixes)) on in
      inr (both.0, post_ends_at next (Followed P other) postfixes i postfix why (omega (arith, low)) is both.1 h)

  post_split : (names : List Name) (P : Selection) (postfixes more : List Postfix)
      → EndAlike (EndsPost state names P (postfixes ++ more))
      (FirstEnds (EndsPost state names P postfixes)
      (EndsPost state (declared_of_post (scope_of state) names postfixes) (Before P postfixes) more))
  post_split names P [] more = nothing_first (EndsPost state names P more)
  post_split names P (postfix ∷ postfixes) more =
      let next = declared_past (scope_of state) names postfix in
      let A = EndsPostfix state names P postfix in
      let B = EndsPost state next (Followed P postfix) postfixes in
      let C = EndsPost state (declared_of_post (scope_of state) next postfixes) (Before (Followed P postfix) postfixes) more in
      let all = EndsPost state next (Followed P postfix) (postfixes ++ more) in
      alike_trans (FirstEnds A all) (FirstEnds A (FirstEnds B C)) (FirstEnds (FirstEnds A B) C)
      (first_alike A all A (FirstEnds B C) (alike_itself A) (post_split next (Followed P postfix) postfixes more)) (first_grouped A B C)

  pub post_goes_more : (names : List Name) (P : Selection) (postfixes : List Postfix) (i : ℕ) (postfix : Postfix) → i < length postfixes
      → postfix ≡ get_or postfixes i postfix → GoesOn (EndsPost state names P (take i postfixes))
      → GoesOn (EndsPostfix state (declared_of_post (scope_of state) names (take i postfixes)) (Before P (take i postfixes)) postfix)
      → GoesOn (EndsPost state names P (take (i + 1) postfixes))
  post_goes_more names P postfixes i postfix low is before one =
      let next = take_more postfixes i postfix low ∙ ap (λ (p : Postfix). take i postfixes ++ p ∷ []) (sym is) in
      let done = take i postfixes in
      let there = declared_of_post (scope_of state) names done in
      let A = EndsPost state names P done in
      let B = EndsPost state there (Before P done) (postfix ∷ []) in
      let both = goes_both A B before (goes_both (EndsPostfix state there (Before P done) postfix) NoEnd one (λ why h. h)) in
      let split = post_split names P done (postfix ∷ []) in
      subst (λ (ps : List Postfix). GoesOn (EndsPost state names P ps)) (sym next)
      (goes_alike (FirstEnds A B) (EndsPost state names P (done ++ postfix ∷ [])) (turned_alike _ _ split) both)

  postfixes_end : (m : Count) (names : List Name) (P : Selection) (row : Row_of-Postfix m)
      → EndAlike (EndsPastPostfixes state names P row) (EndsPost state names P (items-the_row-Postfix m row))
  postfixes_end m names P end_of-Postfix = alike_itself NoEnd
  postfixes_end m names P (more_of-Postfix postfix row) =
      let next = declared_past (scope_of state) names postfix in
      let A = EndsPostfix state names P postfix in
      let B = EndsPastPostfixes state next (Followed P postfix) row in
      let C = EndsPost state next (Followed P postfix) (items-the_row-Postfix _ row) in
      first_alike A B A C (alike_itself A) (postfixes_end _ next (Followed P postfix) row)

  -- the operand is taken at the part that what follows it is about
  abbrev pub Taken : Expr → List Postfix → Selection
  Taken operand postfixes v x = SelectsAt state (part_of_list postfixes) operand v x

  pub ends_of-Post : (operand : Expr) (postfixes : List Postfix)
      → EndAlike (Ends state (Post operand postfixes))
      (FirstEnds (Ends state operand) (EndsPost state (declared_of (scope_of state) operand) (Taken operand postfixes) postfixes))
  unfolding hidden-the_row-Expr-0 denote.Hole.Carrier.hidden
  ends_of-Post operand postfixes =
      let row = hidden-the_row-Postfix-2 postfixes in
      let names = declared_of (scope_of state) operand in
      let own = Ends state operand in
      subst (λ (ps : List Postfix). EndAlike (Ends state (Post operand postfixes))
      (FirstEnds own (EndsPost state names (Taken operand ps) ps)))
      (items_hidden-the_row-Postfix-2 postfixes)
      (subst (λ (part : ListPart). EndAlike (Ends state (Post operand postfixes))
      (FirstEnds own (EndsPost state names (λ v x. SelectsAt state part operand v x) (items-the_row-Postfix _ row))))
      (part_is _ row)
      (first_alike own _ own _ (alike_itself own) (postfixes_end _ names (λ v x. SelectsAt state (part_taken row) operand v x) row)))

  -- ---- source, sink and schedule
  abbrev pub DependenceOf : Expr → Expr → Expr → End → Type 0
  DependenceOf source sink schedule =
      DependenceEnds
      (joined_names (joined_names (declared_of (scope_of state) source) (declared_of (scope_of state) sink))
      (declared_of (scope_of state) schedule))
      (AtAssumed state (λ v x. Selects state source v x)) (AtAssumed state (λ v x. Selects state sink v x))

  pub ends_of-Any : (source sink schedule : Expr)
      → EndAlike (Ends state (Any source sink schedule)) (FirstEnds (OperandsEnd state source sink schedule)
      (DependenceOf source sink schedule))
  unfolding hidden-the_row-Expr-0 denote.Hole.Carrier.hidden
  ends_of-Any source sink schedule why = ((λ h. h), (λ h. h))

  pub ends_of-Last : (source sink schedule : Expr)
      → EndAlike (Ends state (Last source sink schedule)) (FirstEnds (OperandsEnd state source sink schedule)
      (DependenceOf source sink schedule))
  unfolding hidden-the_row-Expr-0 denote.Hole.Carrier.hidden
  ends_of-Last source sink schedule why = ((λ h. h), (λ h. h))
