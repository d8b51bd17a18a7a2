-- What an expression selects are elements: each has as many numbers as its space has coordinates.
use mathlib.Core.Former.{Count}
use Rattle.std.proofs.Common.{◌≡◌, ◌∙◌, inl, inr, arith, ℕ, suc, ◌+◌, ℤ, List, [], ◌∷◌, ◌++◌, Option, Some, None, drop, length, take}
use Rattle.std.proofs.Common.{refl, sym, ap, ap₂, subst}
use Rattle.std.proofs.lemmas.List.{length-append, take-append-drop}
use Rattle.isl_math.proofs.ListLaws.{Any-element}
use Rattle.isl_space.specs.Element.{Element, IsElement}
use Rattle.isl_space.specs.Form.{Form, width_of}
use Rattle.isl_space.specs.Name.{Name}
use Rattle.isl_space.specs.SpaceForm.{SpaceForm, coordinates_of, set_of, map_of}
use Rattle.isl_space.specs.Valuation.{Valuation}
use Rattle.isl_union.specs.KeptValue.{HasElement}
use Rattle.isl_maps.specs.Inverse.{inverse_element, inverse_numbers, inverse_space}
use Rattle.isl_lower.proofs.ValueLaws.{entries_count}
use Rattle.isl_lower.proofs.WidthLaws.{coordinates_are}
use Rattle.isl_tree.specs.declared.tree.PieceTree.{PieceTree}
use Rattle.isl_tree.specs.Literal.{PieceHas, piece_entries, piece_environment}
use Rattle.isl_tree.specs.declared.statement.Binary.{Binary}
use Rattle.isl_tree.specs.declared.statement.Binary.TheVariants as b
use Rattle.isl_tree.specs.declared.statement.Prefix.{Prefix}
use Rattle.isl_tree.specs.declared.statement.Prefix.TheVariants as p
use Rattle.isl_tree.specs.declared.statement.Postfix.{Postfix, Inverse, Apply, Item}
use Rattle.isl_tree.specs.declared.statement.Expr as e
use Rattle.isl_tree.specs.declared.statement.Expr.{Expr, Row', Prefix', Any', Last', Post', Row_of-Expr, end_of-Expr, more_of-Expr}
use Rattle.isl_tree.specs.declared.statement.Expr.{Row_of-Link, end_of-Link, more_of-Link, Row_of-Postfix, end_of-Postfix, more_of-Postfix}
use Rattle.isl_operators.specs.Flow.{AnyHas}
use Rattle.isl_operators.specs.Maps.{differences, JoinHas}
use Rattle.isl_operators.specs.Operations.{ApplicationHas, OperatorHas, OrderedHas, WordHas}
use Rattle.isl_operators.specs.Orders.{ComesAfter, ComesBefore, IsDownTo, IsUpTo}
use Rattle.isl_operators.specs.Point.{IsPoint, Point, map_element, paired, set_element}
use Rattle.isl_kinds.specs.Typed.{declared_in}
use Rattle.isl_state.specs.declared.list.ListPart.{ListPart}
use Rattle.isl_state.specs.declared.list.ListPart.TheVariants.{First, Second}
use Rattle.isl_state.specs.State.{AtAssumed, Kept, StateView, kept_of, scope_of, value_at}
use Rattle.isl_values.specs.Worked.{PartHas, part_taken}
use Rattle.isl_values.specs.Selection.{KeptHas, PostfixHas, SelectsAt, SelectsIn, SelectsPastLinks, SelectsPastPostfixes}
use Rattle.isl_values.proofs.SameLaws.{Elements, Selection}

-- all of these are elements
abbrev pub AreElements : Elements → Type 0
AreElements P = (x : Element) → P x → IsElement x

-- ---- points
set_is : (x : Point) → IsPoint x → (element : Element) → element ≡ set_element x → IsElement element
set_is x point element same = subst IsElement (sym same) point

paired_is : (x y : Point) → IsPoint x → IsPoint y → IsPoint (paired x y)
paired_is x y first second = length-append x.numbers y.numbers ∙ ap₂ (λ (m n : ℕ). m + n) first second

map_is : (x y : Point) → IsPoint x → IsPoint y → (element : Element) → element ≡ map_element x y → IsElement element
map_is x y first second element same = subst IsElement (sym same) (paired_is x y first second)

differences_are : (xs ys : List ℤ) → length xs ≡ length ys → length (differences xs ys) ≡ length xs
differences_are [] ys same = refl
differences_are (x ∷ xs) [] same = absurd (omega (arith, same))
differences_are (x ∷ xs) (y ∷ ys) same = ap suc (differences_are xs ys (omega (arith, same)))

turned_long : (n : ℕ) (xs : List ℤ) → length (drop n xs ++ take n xs) ≡ length xs
turned_long n xs =
    let turned = length-append (drop n xs) (take n xs) in
    let parts = length-append (take n xs) (drop n xs) in
    let whole = ap (λ (l : List ℤ). length l) (take-append-drop n xs) in omega (arith, turned, parts, whole)

-- ---- operations
module _ (P : Elements) (all : AreElements P) where
  inverse_is : AreElements (λ x. P (inverse_element x))
  inverse_is x has = by x.space x.coordinates (all (inverse_element x) has)
    where
      by : (space : SpaceForm) (numbers : List ℤ) → length (inverse_numbers space numbers) ≡ coordinates_of (inverse_space space)
          → length numbers ≡ coordinates_of space
      by (set_of form) numbers long = long
      by (map_of from to) numbers long =
          let turned : length (drop (width_of from) numbers ++ take (width_of from) numbers) ≡ width_of to + width_of from = long in
          let same = turned_long (width_of from) numbers in
          let whole : length numbers ≡ width_of from + width_of to = omega (arith, turned, same) in whole

join_is : (P Q : Elements) → AreElements (JoinHas P Q)
join_is P Q x h = map_is h.0 h.2 h.3.from h.4.to x h.5

ordered_is : (Ordered : Point → Point → Type 0) (P Q : Elements) → AreElements (OrderedHas Ordered P Q)
ordered_is Ordered P Q x (inl h) = map_is h.0 h.1 h.2.point h.3.point x h.5
ordered_is Ordered P Q x (inr h) = map_is h.0 h.1 h.4.from h.5.from x h.7

application_is : (P Q : Elements) → AreElements (ApplicationHas P Q)
application_is P Q x (inl h) = set_is h.1 h.2.to x h.4
application_is P Q x (inr h) = join_is Q P x h

operator_is : (operator : Binary) (P Q : Elements) → AreElements P → AreElements Q → AreElements (OperatorHas operator P Q)
operator_is b.Union P Q first second x (inl h) = first x h
operator_is b.Union P Q first second x (inr h) = second x h
operator_is b.Intersection P Q first second x h = first x h.0
operator_is b.Difference P Q first second x h = first x h.0
operator_is b.RangeIntersection P Q first second x h = map_is h.0 h.1 h.2.from h.2.to x h.4
operator_is b.RangeDifference P Q first second x h = map_is h.0 h.1 h.2.from h.2.to x h.4
operator_is b.Cross P Q first second x (inl h) = set_is (paired h.0 h.1) (paired_is h.0 h.1 h.2.point h.3.point) x h.4
operator_is b.Cross P Q first second x (inr h) =
    map_is (paired h.0 h.2) (paired h.1 h.3) (paired_is h.0 h.2 h.4.from h.5.from) (paired_is h.1 h.3 h.4.to h.5.to) x h.6
operator_is b.Join P Q first second x h = join_is P Q x h
operator_is b.Universal P Q first second x h = map_is h.0 h.1 h.2.point h.3.point x h.4
operator_is b.LexLess P Q first second x h = ordered_is ComesBefore P Q x h
operator_is b.LexLessEqual P Q first second x h = ordered_is IsUpTo P Q x h
operator_is b.LexGreater P Q first second x h = ordered_is ComesAfter P Q x h
operator_is b.LexGreaterEqual P Q first second x h = ordered_is IsDownTo P Q x h
operator_is _ P Q first second x h = absurd h

word_is : (word : Prefix) (names : List Name) (P : Selection) (v : Valuation) → AreElements (P v) → AreElements (WordHas word names P v)
word_is p.Domain names P v all x h = set_is h.0 h.2.from x h.3
word_is p.Range names P v all x h = set_is h.1 h.2.to x h.3
word_is p.Deltas names P v all x h =
    let same : length h.0.numbers ≡ length h.1.numbers = h.2.from ∙ sym (ap width_of h.3) ∙ sym h.2.to in
    set_is (record { form = h.0.form; numbers = differences h.0.numbers h.1.numbers })
    (differences_are h.0.numbers h.1.numbers same ∙ h.2.from) x h.4
word_is p.Identity names P v all x h = map_is h.0 h.0 h.1.point h.1.point x h.2
word_is p.Wrap names P v all x h = set_is (paired h.0 h.1) (paired_is h.0 h.1 h.2.from h.2.to) x h.3
word_is p.Unwrap names P v all x h = map_is h.0 h.1 h.2 h.3 x h.5
word_is p.Zip names P v all x h =
    map_is (paired h.0 h.2) (paired h.1 h.3) (paired_is h.0 h.2 h.4 h.6) (paired_is h.1 h.3 h.5 h.7) x h.9
word_is p.DomainMap names P v all x h = map_is (paired h.0 h.1) h.0 (paired_is h.0 h.1 h.2.from h.2.to) h.2.from x h.3
word_is p.RangeMap names P v all x h = map_is (paired h.0 h.1) h.1 (paired_is h.0 h.1 h.2.from h.2.to) h.2.to x h.3
word_is p.LexMin names P v all x (inl h) = set_is h.0 h.1.0.point x h.2
word_is p.LexMin names P v all x (inr h) = map_is h.0 h.1 h.2.0.from h.2.0.to x h.3
word_is p.LexMax names P v all x (inl h) = set_is h.0 h.1.0.point x h.2
word_is p.LexMax names P v all x (inr h) = map_is h.0 h.1 h.2.0.from h.2.0.to x h.3
word_is p.AffineHull names P v all x h = h.numbers
word_is p.Coalesce names P v all x h = all x h
word_is _ names P v all x h = absurd h

any_is : (M N T : Elements) → AreElements (AnyHas M N T)
any_is M N T x h = map_is h.0 h.1 h.5.source.from h.5.sink.from x h.6

part_is : (part : ListPart) (M N T : Elements) → AreElements (PartHas part M N T)
part_is First M N T x h = map_is h.0 h.1 h.5.source.from h.5.sink.from x h.7
part_is Second M N T x h = map_is h.0 h.1 h.2.from h.2.to x h.4

-- ---- literals
piece_is : (params : List Name) (piece : PieceTree) (v : Valuation) (x : Element) → PieceHas params v x piece → IsElement x
piece_is params piece v x has =
    sym (entries_count (piece_entries piece) x.coordinates (piece_environment params piece x.coordinates v) has.entries)
    ∙ sym (coordinates_are piece) ∙ ap coordinates_of has.space

-- ---- expressions
-- all of these are elements; a record, since a mutual block that takes families of elements is of types that are large
pub record AreAllElements (P : Elements) : Type 1 where
  pub each : AreElements P

module _ (state : StateView) where
  named_is : (part : ListPart) (kept : Option Kept) (v : Valuation) → AreElements (KeptHas part kept v)
  named_is part None v x h = absurd h
  named_is part (Some kept) v x h =
      (Any-element (HasElement (value_at part kept).params v x) (value_at part kept).pieces h).2.numbers

  mutual
    pub selected_is : (part : ListPart) (expr : Expr) (v : Valuation) → AreAllElements (λ x. SelectsAt state part expr v x)
    selected_is part (e.Name name) v = record { each = λ x h. named_is part (kept_of state name) v x h }
    selected_is part (e.Literal literal) v = record {
      each = λ x h.
          let some = Any-element (PieceHas literal.params v x) literal.pieces h in piece_is literal.params some.0 v x some.2;
    }
    selected_is part (Row' s first t links) v =
        links_are _ v (λ y. SelectsIn state First first v y) links (in_is _ First first v)
    selected_is part (Prefix' word s operand) v = record {
      each = λ x h. word_is word (declared_in (scope_of state) operand) (AtAssumed state (λ w y. SelectsIn state First operand w y)) v
          (λ y there. (in_is _ First operand v).each y there.1) x h;
    }
    selected_is part (Any' r source s sink t schedule) v = record {
      each = λ x h. any_is (λ y. SelectsIn state First source v y) (λ y. SelectsIn state First sink v y)
          (λ y. SelectsIn state First schedule v y) x h;
    }
    selected_is part (Last' r source s sink t schedule) v = record {
      each = λ x h. part_is part (λ y. SelectsIn state First source v y) (λ y. SelectsIn state First sink v y)
          (λ y. SelectsIn state First schedule v y) x h;
    }
    selected_is part (Post' s operand t postfixes) v =
        postfixes_are _ v (λ y. SelectsIn state (part_taken postfixes) operand v y) postfixes (in_is _ (part_taken postfixes) operand v)

    in_is : (m : Count) (part : ListPart) (row : Row_of-Expr m) (v : Valuation) → AreAllElements (λ x. SelectsIn state part row v x)
    in_is m part end_of-Expr v = record { each = λ x h. absurd h }
    in_is m part (more_of-Expr expr rest) v = selected_is part expr v

    links_are : (m : Count) (v : Valuation) (Left : Elements) (row : Row_of-Link m) → AreAllElements Left
        → AreAllElements (λ x. SelectsPastLinks state v Left row x)
    links_are m v Left end_of-Link left = left
    links_are m v Left (more_of-Link operator operand rest) left =
        links_are _ v (λ y. OperatorHas operator Left (λ z. SelectsAt state First operand v z) y) rest (record {
          each = λ y there. operator_is operator Left (λ z. SelectsAt state First operand v z) left.each
              (selected_is First operand v).each y there;
        })

    postfixes_are : (m : Count) (v : Valuation) (Operand : Elements) (row : Row_of-Postfix m) → AreAllElements Operand
        → AreAllElements (λ x. SelectsPastPostfixes state v Operand row x)
    postfixes_are m v Operand end_of-Postfix all = all
    postfixes_are m v Operand (more_of-Postfix postfix rest) all =
        postfixes_are _ v (λ y. PostfixHas state v Operand postfix y) rest (postfix_is v Operand postfix all)

    postfix_is : (v : Valuation) (Operand : Elements) (postfix : Postfix) → AreAllElements Operand
        → AreAllElements (λ x. PostfixHas state v Operand postfix x)
    postfix_is v Operand Inverse all = record { each = λ x h. inverse_is Operand all.each x h }
    postfix_is v Operand (Apply argument) all = record {
      each = λ x h. application_is Operand (λ y. SelectsAt state First argument v y) x h;
    }
    postfix_is v Operand (Item number) all = record { each = λ x h. all.each x h }
