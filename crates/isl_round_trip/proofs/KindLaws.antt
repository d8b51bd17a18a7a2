-- What an expression selects lies in spaces of its kind, and so do the pieces of a kept value with these elements.
use mathlib.Core.Former.{Count}
use Rattle.std.proofs.Common.{◌≡◌, ◌∙◌, inl, inr, ◌⊎◌, Bool, true, false, List, [], ◌∷◌, ◌++◌, Option, Some, None, All}
use Rattle.std.proofs.Common.{sym, ap, subst, refl}
use Rattle.std.specs.Prelude.{is_some, is_none, ◌&&◌, ◌||◌, option_map, Any, MatchOption}
use Rattle.std.specs.Option.{option_and_then}
use Rattle.std.specs.List.{list_all}
use Rattle.std.proofs.lemmas.Bool.{and_parts, false≢true}
use Rattle.std.proofs.lemmas.List.Elements.{All-head, All-weaker}
use Rattle.isl_math.proofs.ListLaws.{Any-none, Any-cases}
use Rattle.isl_space.specs.Name.{Name}
use Rattle.isl_space.specs.Element.{Element}
use Rattle.isl_space.specs.Valuation.{Valuation}
use Rattle.isl_union.specs.KeptValue.{KeptPiece, KeptValue, Has, HasElement}
use Rattle.isl_union.specs.Sample.{only_piece}
use Rattle.isl_assumed.specs.Assumed.{Assumes}
use Rattle.isl_gist.specs.Gist.{value_over}
use Rattle.isl_tree.specs.declared.tree.PieceTree.{PieceTree}
use Rattle.isl_tree.specs.declared.tree.Literal.{Literal}
use Rattle.isl_tree.specs.declared.tree.Tuple.{Tuple}
use Rattle.isl_tree.specs.Literal.{PieceHas, space_of_piece}
use Rattle.isl_text.specs.Formed.{are_distinct, are_alike, are_sets, are_maps, piece_is_formed}
use Rattle.isl_tree.specs.declared.statement.ValueKind.{ValueKind}
use Rattle.isl_tree.specs.declared.statement.ValueKind.TheVariants.{Set, Map, List as Pair}
use Rattle.isl_tree.specs.declared.statement.Binary.TheVariants as b
use Rattle.isl_tree.specs.declared.statement.Prefix.TheVariants as p
use Rattle.isl_tree.specs.declared.statement.Postfix.{Postfix, Inverse, Apply, Item}
use Rattle.isl_tree.specs.declared.statement.Expr as e
use Rattle.isl_tree.specs.declared.statement.Expr.{Expr, Row', Prefix', Any', Last', Post', Row_of-Expr, end_of-Expr, more_of-Expr}
use Rattle.isl_tree.specs.declared.statement.Expr.{Row_of-Link, end_of-Link, more_of-Link, Row_of-Postfix, end_of-Postfix, more_of-Postfix}
use Rattle.isl_tree.specs.Expr.{literals_of, literals_in, literals_in_links, literals_in_postfixes, literals_in_postfix}
use Rattle.isl_operators.specs.Operations.{OperatorHas}
use Rattle.isl_kinds.specs.Lines.{joined, prefixed}
use Rattle.isl_kinds.specs.Typed.{TypeView, by_two, declared_in, joined_names, kind_of_pieces, kind_of_image}
use Rattle.isl_kinds.specs.Typed.{kind_of, kind_in, kind_past_links, kind_past_postfixes, kind_past}
use Rattle.isl_state.specs.declared.list.ListPart.{ListPart}
use Rattle.isl_state.specs.declared.list.ListPart.TheVariants.{First}
use Rattle.isl_values.specs.Live.{IsSampleAt}
use Rattle.isl_values.specs.State.{AtAssumed, Kept, StateView, kept_of, scope_of, type_of, value_at}
use Rattle.isl_values.specs.Worked.{part_taken}
use Rattle.isl_values.specs.Selection.{KeptHas, PostfixHas, SelectsAt, SelectsIn, SelectsPastLinks, SelectsPastPostfixes}
use Rattle.isl_values.specs.Selection.{IsContentOf, IsGistOfTwo, IsSelected, IsSelectedAt, IsSelectedIn, IsTogetherOf, context_of}
use Rattle.isl_state.proofs.StateLaws.{bound_at}
use Rattle.isl_values.proofs.PartLaws.{all_left, all_right}
use Rattle.isl_eval.proofs.LiteralLaws.{IsSpelled}
use Rattle.isl_round_trip.specs.Written.{IsSet, IsMap, IsUniform, IsSpaceOf, IsOfKind}
use Rattle.isl_round_trip.specs.TakenAgain.{AreWritable}
use Rattle.isl_round_trip.proofs.KindOfOperations.{AreOfKind, some_same, none_some, as_kind, no_element}
use Rattle.isl_round_trip.proofs.KindOfOperations.{of_inverse, of_item, of_word, of_operator, of_application, of_gist, of_any, of_last}
use Rattle.isl_round_trip.proofs.PieceKinds.{has_kind}
use Rattle.isl_round_trip.proofs.GistKinds.{gist_pieces, gist_among}

-- ---- literals
module _ (params : List Name) (valuation : Valuation) (element : Element) where
  set_piece : (piece : PieceTree) (second : Option Tuple) → piece.second ≡ second → is_none second ≡ true → IsSet (space_of_piece piece)
  set_piece piece None is none = rw is tt
  set_piece piece (Some second) is none = absurd (false≢true none)

  map_piece : (piece : PieceTree) (second : Option Tuple) → piece.second ≡ second → is_some second ≡ true → IsMap (space_of_piece piece)
  map_piece piece None is some = absurd (false≢true some)
  map_piece piece (Some second) is some = rw is tt

  in_sets : (pieces : List PieceTree) → are_sets pieces ≡ true → Any (PieceHas params valuation element) pieces → IsSet element.space
  in_sets [] sets has = absurd (Any-none (PieceHas params valuation element) has)
  in_sets (piece ∷ pieces) sets has =
      let both = and_parts (is_none piece.second) (are_sets pieces) sets in
      elim (Any-cases (PieceHas params valuation element) piece pieces has) [
        | inl here ↦ subst IsSet here.space (set_piece piece piece.second refl both.0)
        | inr there ↦ in_sets pieces both.1 there
      ]

  in_maps : (pieces : List PieceTree) → are_maps pieces ≡ true → Any (PieceHas params valuation element) pieces → IsMap element.space
  in_maps [] maps has = absurd (Any-none (PieceHas params valuation element) has)
  in_maps (piece ∷ pieces) maps has =
      let both = and_parts (is_some piece.second) (are_maps pieces) maps in
      elim (Any-cases (PieceHas params valuation element) piece pieces has) [
        | inl here ↦ subst IsMap here.space (map_piece piece piece.second refl both.0)
        | inr there ↦ in_maps pieces both.1 there
      ]

  pub in_pieces : (pieces : List PieceTree) → are_alike pieces ≡ true → Any (PieceHas params valuation element) pieces
      → IsSpaceOf (kind_of_pieces pieces) element.space
  in_pieces [] alike has = absurd (Any-none (PieceHas params valuation element) has)
  in_pieces (piece ∷ pieces) alike has = by piece.second refl (are_sets (piece ∷ pieces)) refl
    where
      by : (second : Option Tuple) → piece.second ≡ second → (c : Bool) → are_sets (piece ∷ pieces) ≡ c
          → IsSpaceOf (kind_of_image piece.second) element.space
      by None is true so = rw is (in_sets (piece ∷ pieces) so has)
      by None is false so =
          let m : are_maps (piece ∷ pieces) ≡ true = sym (ap (λ (b : Bool). b || are_maps (piece ∷ pieces)) so) ∙ alike in
          absurd (false≢true (sym (ap (λ (o : Option Tuple). is_some o) is) ∙ (and_parts (is_some piece.second) (are_maps pieces) m).0))
      by (Some second) is true so =
          absurd (false≢true (sym (ap (λ (o : Option Tuple). is_none o) is) ∙ (and_parts (is_none piece.second) (are_sets pieces) so).0))
      by (Some second) is false so =
          rw is (in_maps (piece ∷ pieces) (sym (ap (λ (b : Bool). b || are_maps (piece ∷ pieces)) so) ∙ alike) has)

alike_of : (literal : Literal) → IsSpelled literal → are_alike literal.pieces ≡ true
alike_of literal spelled =
    let each = list_all (piece_is_formed literal.params) literal.pieces in
    let parts = and_parts (are_distinct literal.params && are_alike literal.pieces) each spelled.formed in
    (and_parts (are_distinct literal.params) (are_alike literal.pieces) parts.0).1

-- ---- expressions
module _ (state : StateView) (all : AreWritable state) where
  named_kind : (valuation : Valuation) (part : ListPart) (name : Name) (kind : ValueKind) (element : Element)
      → kind_of (scope_of state) (e.Name name) ≡ Some kind
      → SelectsAt state part (e.Name name) valuation element → IsSpaceOf kind element.space
  named_kind valuation part name kind element is has = by (kept_of state name) refl has
    where
      by : (o : Option Kept) → kept_of state name ≡ o → KeptHas part o valuation element → IsSpaceOf kind element.space
      by None none has = absurd has
      by (Some kept) there has =
          let same : kept.kind ≡ kind = some_same kept.kind kind
          (sym (ap (option_map (λ (t : TypeView). t.kind)) (bound_at state name ∙ ap (option_map type_of) there)) ∙ is) in
          let value = value_at part kept in
          subst (λ (k : ValueKind). IsSpaceOf k element.space) same
          (has_kind kept.kind value.params valuation element value.pieces (all name kept there part).0 has)

  mutual
    pub selected_kind : (valuation : Valuation) (part : ListPart) (expr : Expr) → All IsSpelled (literals_of expr)
        → AreOfKind (λ x. SelectsAt state part expr valuation x) (kind_of (scope_of state) expr)
    selected_kind valuation part (e.Name name) spelled = record {
      lies = λ kind is element has. named_kind valuation part name kind element is has;
    }
    selected_kind valuation part (e.Literal literal) spelled = record {
      lies = λ kind is element has. as_kind element.space (kind_of_pieces literal.pieces) kind is
          (in_pieces literal.params valuation element literal.pieces (alike_of literal (All-head IsSpelled literal [] spelled)) has);
    }
    selected_kind valuation part (Row' s first t links) spelled =
        links_kind valuation _ (λ x. SelectsIn state First first valuation x) (kind_in (scope_of state) first) links
        (in_kind valuation _ First first (all_left IsSpelled (literals_in first) (literals_in_links links) spelled))
        (all_right IsSpelled (literals_in first) (literals_in_links links) spelled)
    selected_kind valuation part (Prefix' word s operand) spelled =
        of_word word (declared_in (scope_of state) operand) (AtAssumed state (λ v x. SelectsIn state First operand v x)) valuation
        (kind_in (scope_of state) operand)
        (λ v. record { lies = λ kind is element has. (in_kind v _ First operand spelled).lies kind is element has.1 })
    selected_kind valuation part (Any' p source s sink t schedule) spelled =
        let behind = all_right IsSpelled (literals_in source) (literals_in sink ++ literals_in schedule) spelled in
        of_any (λ x. SelectsIn state First source valuation x) (λ x. SelectsIn state First sink valuation x)
        (λ x. SelectsIn state First schedule valuation x) (kind_in (scope_of state) source) (kind_in (scope_of state) sink)
        (kind_in (scope_of state) schedule)
        (in_kind valuation _ First source (all_left IsSpelled (literals_in source) (literals_in sink ++ literals_in schedule) spelled))
        (in_kind valuation _ First sink (all_left IsSpelled (literals_in sink) (literals_in schedule) behind))
        (in_kind valuation _ First schedule (all_right IsSpelled (literals_in sink) (literals_in schedule) behind))
    selected_kind valuation part (Last' p source s sink t schedule) spelled =
        of_last (λ x. SelectsIn state First source valuation x) (λ x. SelectsIn state First sink valuation x)
        (λ x. SelectsIn state First schedule valuation x) (kind_in (scope_of state) source) (kind_in (scope_of state) sink)
        (kind_in (scope_of state) schedule) part
    selected_kind valuation part (Post' s operand t postfixes) spelled =
        postfixes_kind valuation _ (λ x. SelectsIn state (part_taken postfixes) operand valuation x) (kind_in (scope_of state) operand)
        postfixes
        (in_kind valuation _ (part_taken postfixes) operand
        (all_left IsSpelled (literals_in operand) (literals_in_postfixes postfixes) spelled))
        (all_right IsSpelled (literals_in operand) (literals_in_postfixes postfixes) spelled)

    in_kind : (valuation : Valuation) (m : Count) (part : ListPart) (row : Row_of-Expr m) → All IsSpelled (literals_in row)
        → AreOfKind (λ x. SelectsIn state part row valuation x) (kind_in (scope_of state) row)
    in_kind valuation m part end_of-Expr spelled = no_element None
    in_kind valuation m part (more_of-Expr expr rest) spelled = record {
      lies = λ kind is element has. (selected_kind valuation part expr spelled).lies kind is element has;
    }

    links_kind : (valuation : Valuation) (m : Count) (Left : Element → Type 0) (o : Option ValueKind) (row : Row_of-Link m)
        → AreOfKind Left o → All IsSpelled (literals_in_links row)
        → AreOfKind (λ x. SelectsPastLinks state valuation Left row x) (kind_past_links (scope_of state) o row)
    links_kind valuation m Left o end_of-Link before spelled = record { lies = λ kind is element has. before.lies kind is element has }
    links_kind valuation m Left o (more_of-Link sign operand rest) before spelled =
        links_kind valuation _ (λ x. OperatorHas sign Left (λ y. SelectsAt state First operand valuation y) x)
        (by_two (joined sign) o (kind_of (scope_of state) operand)) rest
        (of_operator Left (λ y. SelectsAt state First operand valuation y) o (kind_of (scope_of state) operand) before
        (selected_kind valuation First operand (all_left IsSpelled (literals_of operand) (literals_in_links rest) spelled)) sign)
        (all_right IsSpelled (literals_of operand) (literals_in_links rest) spelled)

    postfixes_kind : (valuation : Valuation) (m : Count) (Operand : Element → Type 0) (o : Option ValueKind) (row : Row_of-Postfix m)
        → AreOfKind Operand o → All IsSpelled (literals_in_postfixes row)
        → AreOfKind (λ x. SelectsPastPostfixes state valuation Operand row x) (kind_past_postfixes (scope_of state) o row)
    postfixes_kind valuation m Operand o end_of-Postfix before spelled = record {
      lies = λ kind is element has. before.lies kind is element has;
    }
    postfixes_kind valuation m Operand o (more_of-Postfix postfix rest) before spelled =
        postfixes_kind valuation _ (λ x. PostfixHas state valuation Operand postfix x) (kind_past (scope_of state) o postfix) rest
        (postfix_kind valuation Operand o postfix before
        (all_left IsSpelled (literals_in_postfix postfix) (literals_in_postfixes rest) spelled))
        (all_right IsSpelled (literals_in_postfix postfix) (literals_in_postfixes rest) spelled)

    postfix_kind : (valuation : Valuation) (Operand : Element → Type 0) (o : Option ValueKind) (postfix : Postfix) → AreOfKind Operand o
        → All IsSpelled (literals_in_postfix postfix)
        → AreOfKind (λ x. PostfixHas state valuation Operand postfix x) (kind_past (scope_of state) o postfix)
    postfix_kind valuation Operand o Inverse before spelled = of_inverse Operand o before
    postfix_kind valuation Operand o (Apply argument) before spelled =
        of_application Operand (λ y. SelectsAt state First argument valuation y) o (kind_of (scope_of state) argument) before
        (selected_kind valuation First argument spelled)
    postfix_kind valuation Operand o (Item number) before spelled = of_item Operand o before

-- ---- what is kept
-- a sample is of the kind of its operand
sample_same : (k kind : ValueKind) → prefixed p.Sample k ≡ Some kind → k ≡ kind
sample_same Set kind is = cc
sample_same k kind is = cc

module _ (state : StateView) (all : AreWritable state) where
  -- at assumed valuations a value that is worked out of an operand has elements in spaces of the operand's kind
  operand_kind : (m : Count) (operand : Row_of-Expr m) → All IsSpelled (literals_in operand) → (argument : KeptValue)
      → IsSelectedIn state operand argument → (valuation : Valuation) → Assumes state.assumed valuation
      → AreOfKind (λ x. Has argument valuation x) (kind_in (scope_of state) operand)
  operand_kind m end_of-Expr spelled argument selected valuation here = absurd selected
  operand_kind m (more_of-Expr expr rest) spelled argument selected valuation here = record {
    lies = λ kind is element has.
        (in_kind state all valuation m First (more_of-Expr expr rest) spelled).lies kind is element
        ((selected.elements valuation here element).0 has);
  }

  sample_kind : (m : Count) (operand : Row_of-Expr m) → All IsSpelled (literals_in operand) → (argument value : KeptValue)
      → IsSelectedIn state operand argument → IsSampleAt state.assumed argument value → (kind : ValueKind)
      → option_and_then (prefixed p.Sample) (kind_in (scope_of state) operand) ≡ Some kind → (valuation : Valuation) (element : Element)
      → Has value valuation element → IsSpaceOf kind element.space
  sample_kind m operand spelled argument value selected sample kind is valuation element has =
      by (kind_in (scope_of state) operand) refl sample.pieces
    where
      HasIt : List KeptPiece → Type 0
      HasIt pieces = Any (HasElement value.params valuation element) pieces

      by : (o : Option ValueKind) → kind_in (scope_of state) operand ≡ o
          → ((((v : Valuation) (x : Element) → Assumes state.assumed v → ¬ Has argument v x) × (value.pieces ≡ []))
          ⊎ ((v : Valuation) × (x : Element) × Assumes state.assumed v × Has argument v x
          × (value.pieces ≡ only_piece argument.params v x ∷ [])))
          → IsSpaceOf kind element.space
      by o there (inl none) = absurd (Any-none (HasElement value.params valuation element) (subst HasIt none.1 has))
      by None there (inr one) = none_some kind (sym (ap (option_and_then (prefixed p.Sample)) there) ∙ is)
      by (Some k) there (inr one) =
          let piece = only_piece argument.params one.0 one.1 in
          let same = sample_same k kind (sym (ap (option_and_then (prefixed p.Sample)) there) ∙ is) in
          let lies : IsSpaceOf k one.1.space =
          (operand_kind m operand spelled argument selected one.0 one.2).lies k there one.1 one.3 in
          elim (Any-cases (HasElement value.params valuation element) piece [] (subst HasIt one.4 has)) [
            | inl here ↦ subst (λ (j : ValueKind). IsSpaceOf j element.space) same (subst (IsSpaceOf k) here.space lies)
            | inr later ↦ absurd (Any-none (HasElement value.params valuation element) later)
          ]

  -- putting pieces together leaves the elements at assumed valuations as they are
  coalesce_kind : (m : Count) (operand : Row_of-Expr m) → All IsSpelled (literals_in operand) → (argument value : KeptValue)
      → IsSelectedIn state operand argument → IsTogetherOf state argument value → (kind : ValueKind)
      → option_and_then (prefixed p.Coalesce) (kind_in (scope_of state) operand) ≡ Some kind → (valuation : Valuation) (element : Element)
      → Assumes state.assumed valuation → Has value valuation element → IsSpaceOf kind element.space
  coalesce_kind m operand spelled argument value selected together kind is valuation element here has =
      (of_word p.Coalesce argument.params (AtAssumed state (λ v x. Has argument v x)) valuation (kind_in (scope_of state) operand)
      (λ v. record {
        lies = λ k same x there. (operand_kind m operand spelled argument selected v there.0).lies k same x there.1;
      })).lies kind is element
      (here, (together.elements valuation here element).0 has)

  -- each piece of a gist has an element that the left value has at some assumed valuation
  gist_kind : (m : Count) (first : Row_of-Expr m) (context : Expr) → All IsSpelled (literals_in first) → (left right value : KeptValue)
      → IsSelectedIn state first left → IsGistOfTwo state left right value → (kind : ValueKind)
      → by_two (joined b.Gist) (kind_in (scope_of state) first) (kind_of (scope_of state) context) ≡ Some kind → IsOfKind kind value
  gist_kind m first context spelled left right value selected gist kind is =
      gist_pieces kind (value_over (joined_names left.params right.params) gist.2.0) value
      (λ valuation element has in_context.
      let some = gist_among state left right value gist valuation element has in_context in
      (of_gist (λ x. Has left some.0 x) (kind_in (scope_of state) first) (kind_of (scope_of state) context)
      (operand_kind m first spelled left selected some.0 some.1)).lies kind is element some.2)
      (value_over (joined_names left.params right.params) left) gist.2.3

  -- a row is one `%`, or its value is what is selected
  row_kind : (m : Count) (first : Row_of-Expr m) (n : Count) (links : Row_of-Link n) (value : KeptValue)
      → All IsSpelled (literals_in first ++ literals_in_links links) → (Selected : Type 0)
      → MatchOption (context_of links) Selected (λ context. (left : KeptValue) × (right : KeptValue) × IsSelectedIn state first left
      × IsSelected state context right × IsGistOfTwo state left right value)
      → (kind : ValueKind) → kind_past_links (scope_of state) (kind_in (scope_of state) first) links ≡ Some kind → (valuation : Valuation)
      (element : Element) → Has value valuation element → (Selected → IsSpaceOf kind element.space) → IsSpaceOf kind element.space
  row_kind m first n (more_of-Link b.Gist context end_of-Link) value spelled Selected content kind is valuation element has lies =
      has_kind kind value.params valuation element value.pieces
      (gist_kind m first context (all_left IsSpelled (literals_in first) (literals_of context ++ []) spelled)
      content.0 content.1 value content.2 content.4 kind is)
      has
  row_kind m first n end_of-Link value spelled Selected content kind is valuation element has lies = lies content
  row_kind m first n (more_of-Link sign operand end_of-Link) value spelled Selected content kind is valuation element has lies = lies content
  row_kind m first n (more_of-Link sign operand (more_of-Link next other rest)) value spelled Selected content kind is valuation element has
      lies =
      lies content

  -- what is kept of a part of an expression is of its kind at assumed valuations
  pub content_kind : (part : ListPart) (expr : Expr) (value : KeptValue) → All IsSpelled (literals_of expr)
      → IsContentOf state part expr value → (kind : ValueKind) → kind_of (scope_of state) expr ≡ Some kind → (valuation : Valuation)
      (element : Element) → Assumes state.assumed valuation → Has value valuation element → IsSpaceOf kind element.space
  content_kind part (Prefix' p.Sample s operand) value spelled content kind is valuation element here has =
      sample_kind _ operand spelled content.0 value content.1 content.2 kind is valuation element has
  content_kind part (Prefix' p.Coalesce s operand) value spelled content kind is valuation element here has =
      coalesce_kind _ operand spelled content.0 value content.1 content.2 kind is valuation element here has
  content_kind part (Row' s first t links) value spelled content kind is valuation element here has =
      row_kind _ first _ links value spelled (IsSelectedAt state part (Row' s first t links) value) content kind is valuation element has
      (λ selected. (selected_kind state all valuation part (Row' s first t links) spelled).lies kind is element
      ((selected.elements valuation here element).0 has))
  content_kind part expr value spelled content kind is valuation element here has =
      (selected_kind state all valuation part expr spelled).lies kind is element ((content.elements valuation here element).0 has)

-- ---- what is of a kind can be written
pub of_kind_uniform : (value : KeptValue) (kind : ValueKind) → IsOfKind kind value → IsUniform value
of_kind_uniform value Set all = inl all
of_kind_uniform value Map all = inr all
of_kind_uniform value Pair all = inr all
of_kind_uniform value kind all =
    inl (All-weaker (λ (p : KeptPiece). IsSpaceOf kind p.space) (λ (p : KeptPiece). IsSet p.space) (λ p h. absurd h) value.pieces all)
