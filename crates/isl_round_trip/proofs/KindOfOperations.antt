-- What operations make of elements in spaces of a kind lies in spaces of the kind that the table of kinds tells.
use Rattle.std.proofs.Common.{◌≡◌, ◌∙◌, ◌⊎◌, inl, inr, Bool, true, false, ◌&&◌, if◌then◌else◌, List, Option, Some, None}
use Rattle.std.proofs.Common.{sym, ap, subst, refl}
use Rattle.std.specs.Option.{option_and_then}
use Rattle.isl_space.specs.Name.{Name}
use Rattle.isl_space.specs.Valuation.{Valuation}
use Rattle.isl_space.specs.Form.{Form}
use Rattle.isl_space.specs.SpaceForm.{SpaceForm, set_of, map_of}
use Rattle.isl_space.specs.Element.{Element}
use Rattle.isl_maps.specs.Inverse.{inverse_space, inverse_element}
use Rattle.isl_relation.specs.Point.{Point, HasPoint, Relates, set_element, map_element, paired}
use Rattle.isl_relation.specs.Orders.{ComesAfter, ComesBefore, IsDownTo, IsUpTo}
use Rattle.isl_relation.specs.Flow.{AnyHas}
use Rattle.isl_tree.specs.declared.statement.ValueKind.{ValueKind}
use Rattle.isl_tree.specs.declared.statement.ValueKind.TheVariants.{Set, Map, List as Pair, Empty}
use Rattle.isl_tree.specs.declared.statement.Binary.{Binary}
use Rattle.isl_tree.specs.declared.statement.Binary.TheVariants as b
use Rattle.isl_tree.specs.declared.statement.Prefix.{Prefix}
use Rattle.isl_tree.specs.declared.statement.Prefix.TheVariants as p
use Rattle.isl_operators.specs.Operations.{OperatorHas, OrderedHas, WordHas, ApplicationHas}
use Rattle.isl_state.specs.declared.list.ListPart.{ListPart}
use Rattle.isl_state.specs.declared.list.ListPart.TheVariants.{First, Second}
use Rattle.isl_values.specs.Worked.{PartHas}
use Rattle.isl_flat_law.proofs.ViewLaws.{three_some}
use Rattle.isl_kinds.specs.Lines.{joined, applied, prefixed, inverse, item, dependence, fits, is_kind, made}
use Rattle.isl_kinds.specs.Typed.{by_two, by_three}
use Rattle.isl_round_trip.specs.Written.{IsMap, IsSpaceOf}

-- ---- kinds
pub some_same : (a b : ValueKind) → Some a ≡ Some b → a ≡ b
some_same a b e = cc

pub none_some : {A : Type 0} (k : ValueKind) → None ≡ Some k → A
none_some k e = absurd (let f : None ≡ Some k = e in cc)

pub as_kind : (space : SpaceForm) (made kind : ValueKind) → Some made ≡ Some kind → IsSpaceOf made space → IsSpaceOf kind space
as_kind space made kind is lies = subst (λ (k : ValueKind). IsSpaceOf k space) (some_same made kind is) lies

-- the elements are in spaces of this kind, if there is one
pub record AreOfKind (P : Element → Type 0) (o : Option ValueKind) : Type 1 where
  pub lies : (kind : ValueKind) → o ≡ Some kind → (element : Element) → P element → IsSpaceOf kind element.space

-- there is no kind, or no element
no_kind : (P : Element → Type 0) → AreOfKind P None
no_kind P = record { lies = λ kind is element has. none_some kind is }

pub no_element : (o : Option ValueKind) → AreOfKind (λ x. ⊥) o
no_element o = record { lies = λ kind is element has. absurd has }

-- a kind that has an element of a set is that of sets, and one that has an element of a map is that of maps or of lists
is_set : (kind : ValueKind) (form : Form) → IsSpaceOf kind (set_of form) → kind ≡ Set
is_set Set form lies = refl
is_set kind form lies = absurd lies

is_map_or_list : (kind : ValueKind) (from to : Form) → IsSpaceOf kind (map_of from to) → (kind ≡ Map) ⊎ (kind ≡ Pair)
is_map_or_list Map from to lies = inl refl
is_map_or_list Pair from to lies = inr refl
is_map_or_list kind from to lies = absurd lies

-- what is made is an element in a space of the kind that a line tells
made_in : (made kind : ValueKind) (element other : Element) → Some made ≡ Some kind → element ≡ other → IsSpaceOf made other.space
    → IsSpaceOf kind element.space
made_in made kind element other is same lies =
    as_kind element.space made kind is (subst (λ (x : Element). IsSpaceOf made x.space) (sym same) lies)

-- ---- the table, where one operand alone is known to have elements
-- `+` keeps the kind of each operand that has elements
union_left : (a c kind : ValueKind) (space : SpaceForm) → IsSpaceOf a space → joined b.Union a c ≡ Some kind → Some a ≡ Some kind
union_left Set Set kind space lies is = is
union_left Set c kind space lies is = cc
union_left Map Map kind space lies is = is
union_left Map c kind space lies is = cc
union_left Pair c kind space lies is = none_some kind is
union_left a c kind space lies is = absurd lies

union_right : (a c kind : ValueKind) (space : SpaceForm) → IsSpaceOf c space → joined b.Union a c ≡ Some kind → Some c ≡ Some kind
union_right Set Set kind space lies is = is
union_right a Set kind space lies is = cc
union_right Map Map kind space lies is = is
union_right a Map kind space lies is = cc
union_right a Pair kind space lies is = cc
union_right a c kind space lies is = absurd lies

-- `*` and `-`, which have the same lines, keep that of the left one
part_left : (a c kind : ValueKind) (space : SpaceForm) → IsSpaceOf a space → joined b.Intersection a c ≡ Some kind → Some a ≡ Some kind
part_left Set Set kind space lies is = is
part_left Set c kind space lies is = cc
part_left Map Map kind space lies is = is
part_left Map c kind space lies is = cc
part_left Pair c kind space lies is = none_some kind is
part_left a c kind space lies is = absurd lies

-- `->-` makes maps of maps
removed_map : (c kind : ValueKind) → joined b.RangeDifference Map c ≡ Some kind → Some Map ≡ Some kind
removed_map Set kind is = is
removed_map c kind is = cc

-- `coalesce` keeps that of its operand
kept_kind : (a kind : ValueKind) (space : SpaceForm) → IsSpaceOf a space → prefixed p.Coalesce a ≡ Some kind → Some a ≡ Some kind
kept_kind Set kind space lies is = is
kept_kind Map kind space lies is = is
kept_kind Pair kind space lies is = none_some kind is
kept_kind a kind space lies is = absurd lies

-- `aff` does, too
hull_kind : (a kind : ValueKind) (space : SpaceForm) → IsSpaceOf a space → prefixed p.AffineHull a ≡ Some kind → Some a ≡ Some kind
hull_kind Set kind space lies is = is
hull_kind Map kind space lies is = is
hull_kind Pair kind space lies is = none_some kind is
hull_kind a kind space lies is = absurd lies

-- that a space is of a kind is so where it can't be otherwise
kind_stable : (kind : ValueKind) (space : SpaceForm) → ¬ ¬ IsSpaceOf kind space → IsSpaceOf kind space
kind_stable Set (set_of form) stays = tt
kind_stable Set (map_of from to) stays = absurd (stays (λ h. h))
kind_stable Map (set_of form) stays = absurd (stays (λ h. h))
kind_stable Map (map_of from to) stays = tt
kind_stable Pair (set_of form) stays = absurd (stays (λ h. h))
kind_stable Pair (map_of from to) stays = tt
kind_stable kind space stays = absurd (stays (λ h. h))

-- `%` keeps that of the left one
gist_left : (a c kind : ValueKind) (space : SpaceForm) → IsSpaceOf a space → joined b.Gist a c ≡ Some kind → Some a ≡ Some kind
gist_left Set Set kind space lies is = is
gist_left Set c kind space lies is = cc
gist_left Map Map kind space lies is = is
gist_left Map c kind space lies is = cc
gist_left Pair c kind space lies is = none_some kind is
gist_left a c kind space lies is = absurd lies

-- ---- words
module _ (Operand : Element → Type 0) (a : ValueKind) (all : (element : Element) → Operand element → IsSpaceOf a element.space) where
  of_sets : (x : Point) → HasPoint Operand x → a ≡ Set
  of_sets x has = is_set a x.form (all (set_element x) has.has)

  -- a line at the kind that the operand has
  set_line : (line : ValueKind → Option ValueKind) (kind : ValueKind) (x : Point) → HasPoint Operand x → line a ≡ Some kind
      → line Set ≡ Some kind
  set_line line kind x has is = sym (ap line (of_sets x has)) ∙ is

  -- it takes no list
  map_line : (line : ValueKind → Option ValueKind) → line Pair ≡ None → (kind : ValueKind) (x y : Point) → Relates Operand x y
      → line a ≡ Some kind → line Map ≡ Some kind
  map_line line none kind x y has is = elim (is_map_or_list a x.form y.form (all (map_element x y) has.has)) [
    | inl map ↦ sym (ap line map) ∙ is
    | inr list ↦ none_some kind (sym none ∙ sym (ap line list) ∙ is)
  ]

module _ (names : List Name) (Family : Valuation → Element → Type 0) (valuation : Valuation) (a : ValueKind)
    (each : (v : Valuation) (element : Element) → Family v element → IsSpaceOf a element.space) where
  all : (element : Element) → Family valuation element → IsSpaceOf a element.space
  all = each valuation

  set_word : (line : ValueKind → Option ValueKind) (kind : ValueKind) (x : Point) → HasPoint (Family valuation) x → line a ≡ Some kind
      → line Set ≡ Some kind
  set_word = set_line (Family valuation) a all

  map_word : (line : ValueKind → Option ValueKind) → line Pair ≡ None → (kind : ValueKind) (x y : Point) → Relates (Family valuation) x y
      → line a ≡ Some kind → line Map ≡ Some kind
  map_word = map_line (Family valuation) a all

  word_kind : (word : Prefix) (kind : ValueKind) (element : Element) → prefixed word a ≡ Some kind
      → WordHas word names Family valuation element → IsSpaceOf kind element.space
  word_kind p.Domain kind element is h = made_in Set kind element _ (map_word (prefixed p.Domain) refl kind h.0 h.1 h.2 is) h.3 tt
  word_kind p.Range kind element is h = made_in Set kind element _ (map_word (prefixed p.Range) refl kind h.0 h.1 h.2 is) h.3 tt
  word_kind p.Deltas kind element is h = made_in Set kind element _ (map_word (prefixed p.Deltas) refl kind h.0 h.1 h.2 is) h.4 tt
  word_kind p.Identity kind element is h = made_in Map kind element _ (set_word (prefixed p.Identity) kind h.0 h.1 is) h.2 tt
  word_kind p.Wrap kind element is h = made_in Set kind element _ (map_word (prefixed p.Wrap) refl kind h.0 h.1 h.2 is) h.3 tt
  word_kind p.Unwrap kind element is h = made_in Map kind element _ (set_word (prefixed p.Unwrap) kind (paired h.0 h.1) h.4 is) h.5 tt
  word_kind p.Zip kind element is h =
      made_in Map kind element _ (map_word (prefixed p.Zip) refl kind (paired h.0 h.1) (paired h.2 h.3) h.8 is) h.9 tt
  word_kind p.DomainMap kind element is h = made_in Map kind element _ (map_word (prefixed p.DomainMap) refl kind h.0 h.1 h.2 is) h.3 tt
  word_kind p.RangeMap kind element is h = made_in Map kind element _ (map_word (prefixed p.RangeMap) refl kind h.0 h.1 h.2 is) h.3 tt
  word_kind p.LexMin kind element is (inl h) =
      made_in Set kind element _ (set_word (prefixed p.LexMin) kind h.0 h.1.0 is) h.2 tt
  word_kind p.LexMin kind element is (inr h) =
      made_in Map kind element _ (map_word (prefixed p.LexMin) refl kind h.0 h.1 h.2.0 is) h.3 tt
  word_kind p.LexMax kind element is (inl h) =
      made_in Set kind element _ (set_word (prefixed p.LexMax) kind h.0 h.1.0 is) h.2 tt
  word_kind p.LexMax kind element is (inr h) =
      made_in Map kind element _ (map_word (prefixed p.LexMax) refl kind h.0 h.1 h.2.0 is) h.3 tt
  word_kind p.AffineHull kind element is h =
      kind_stable kind element.space (λ stays. h.live (λ v x has same. stays (subst (IsSpaceOf kind) same
      (let lies = each v x has in as_kind x.space a kind (hull_kind a kind x.space lies is) lies))))
  word_kind p.Coalesce kind element is h =
      let lies = all element h in as_kind element.space a kind (kept_kind a kind element.space lies is) lies
  word_kind word kind element is h = absurd h

-- ---- operators and applications
module _ (Left Right : Element → Type 0) (a c : ValueKind) (left : (element : Element) → Left element → IsSpaceOf a element.space)
    (right : (element : Element) → Right element → IsSpaceOf c element.space) where
  -- a line of two sets, of two maps, and of a map and a set
  sets_line : (line : ValueKind → ValueKind → Option ValueKind) (kind : ValueKind) (x y : Point) → HasPoint Left x → HasPoint Right y
      → line a c ≡ Some kind → line Set Set ≡ Some kind
  sets_line line kind x y h k is = set_line Right c right (line Set) kind y k (set_line Left a left (λ j. line j c) kind x h is)

  maps_line : (line : ValueKind → ValueKind → Option ValueKind) → line Pair c ≡ None → line Map Pair ≡ None → (kind : ValueKind)
      (x y u w : Point) → Relates Left x y → Relates Right u w → line a c ≡ Some kind → line Map Map ≡ Some kind
  maps_line line first second kind x y u w h k is =
      map_line Right c right (line Map) second kind u w k (map_line Left a left (λ j. line j c) first kind x y h is)

  map_set_line : (line : ValueKind → ValueKind → Option ValueKind) → line Pair c ≡ None → (kind : ValueKind) (x y z : Point)
      → Relates Left x y → HasPoint Right z → line a c ≡ Some kind → line Map Set ≡ Some kind
  map_set_line line first kind x y z h k is =
      set_line Right c right (line Map) kind z k (map_line Left a left (λ j. line j c) first kind x y h is)

  -- x → y, of two sets or of two maps
  ordered_kind : (line : ValueKind → ValueKind → Option ValueKind) (Ordered : Point → Point → Type 0) → line Pair c ≡ None
      → line Map Pair ≡ None → line Set Set ≡ Some Map → line Map Map ≡ Some Map → (kind : ValueKind) (element : Element)
      → line a c ≡ Some kind → OrderedHas Ordered Left Right element → IsSpaceOf kind element.space
  ordered_kind line Ordered first second sets maps kind element is (inl h) =
      made_in Map kind element _ (sym sets ∙ sets_line line kind h.0 h.1 h.2 h.3 is) h.5 tt
  ordered_kind line Ordered first second sets maps kind element is (inr h) =
      made_in Map kind element _ (sym maps ∙ maps_line line first second kind h.0 h.2 h.1 h.3 h.4 h.5 is) h.7 tt

  operator_kind : (sign : Binary) (kind : ValueKind) (element : Element) → joined sign a c ≡ Some kind
      → OperatorHas sign Left Right element → IsSpaceOf kind element.space
  operator_kind b.Union kind element is (inl h) =
      let lies = left element h in as_kind element.space a kind (union_left a c kind element.space lies is) lies
  operator_kind b.Union kind element is (inr h) =
      let lies = right element h in as_kind element.space c kind (union_right a c kind element.space lies is) lies
  operator_kind b.Intersection kind element is h =
      let lies = left element h.0 in as_kind element.space a kind (part_left a c kind element.space lies is) lies
  operator_kind b.Difference kind element is h =
      let lies = left element h.0 in as_kind element.space a kind (part_left a c kind element.space lies is) lies
  operator_kind b.RangeIntersection kind element is h =
      made_in Map kind element _ (map_set_line (joined b.RangeIntersection) refl kind h.0 h.1 h.1 h.2 h.3 is) h.4 tt
  operator_kind b.RangeDifference kind element is h =
      made_in Map kind element _ (removed_map c kind (map_line Left a left (λ j. joined b.RangeDifference j c) refl kind h.0 h.1 h.2 is)) h.4 tt
  operator_kind b.Cross kind element is (inl h) = made_in Set kind element _ (sets_line (joined b.Cross) kind h.0 h.1 h.2 h.3 is) h.4 tt
  operator_kind b.Cross kind element is (inr h) =
      made_in Map kind element _ (maps_line (joined b.Cross) refl refl kind h.0 h.1 h.2 h.3 h.4 h.5 is) h.6 tt
  operator_kind b.Join kind element is h = made_in Map kind element _ (maps_line (joined b.Join) refl refl kind h.0 h.1 h.1 h.2 h.3 h.4 is) h.5 tt
  operator_kind b.Universal kind element is h = made_in Map kind element _ (sets_line (joined b.Universal) kind h.0 h.1 h.2 h.3 is) h.4 tt
  operator_kind b.LexLess kind element is h = ordered_kind (joined b.LexLess) ComesBefore refl refl refl refl kind element is h
  operator_kind b.LexLessEqual kind element is h = ordered_kind (joined b.LexLessEqual) IsUpTo refl refl refl refl kind element is h
  operator_kind b.LexGreater kind element is h = ordered_kind (joined b.LexGreater) ComesAfter refl refl refl refl kind element is h
  operator_kind b.LexGreaterEqual kind element is h = ordered_kind (joined b.LexGreaterEqual) IsDownTo refl refl refl refl kind element is h
  operator_kind sign kind element is h = absurd h

  application_kind : (kind : ValueKind) (element : Element) → applied a c ≡ Some kind → ApplicationHas Left Right element
      → IsSpaceOf kind element.space
  application_kind kind element is (inl h) = made_in Set kind element _ (map_set_line applied refl kind h.0 h.1 h.0 h.2 h.3 is) h.4 tt
  application_kind kind element is (inr h) = made_in Map kind element _ (maps_line applied refl refl kind h.1 h.2 h.0 h.1 h.4 h.3 is) h.5 tt

-- ---- elements turned round
turned_map : (space : SpaceForm) → IsMap (inverse_space space) → IsMap space
turned_map (set_of form) lies = lies
turned_map (map_of from to) lies = tt

inverse_kind : (a kind : ValueKind) (space : SpaceForm) → inverse a ≡ Some kind → IsSpaceOf a (inverse_space space) → IsSpaceOf kind space
inverse_kind Map kind space is lies = as_kind space Map kind is (turned_map space lies)
inverse_kind Set kind space is lies = none_some kind is
inverse_kind Pair kind space is lies = none_some kind is
inverse_kind a kind space is lies = absurd lies

-- ---- where operands may have no kind
pub of_inverse : (Operand : Element → Type 0) (o : Option ValueKind) → AreOfKind Operand o
    → AreOfKind (λ x. Operand (inverse_element x)) (option_and_then inverse o)
of_inverse Operand None before = no_kind (λ x. Operand (inverse_element x))
of_inverse Operand (Some a) before = record {
  lies = λ kind is element has. inverse_kind a kind element.space is (before.lies a refl (inverse_element element) has);
}

-- `[i]` takes a list, and makes a map
item_kind : (a kind : ValueKind) (space : SpaceForm) → item a ≡ Some kind → IsSpaceOf a space → IsSpaceOf kind space
item_kind Pair kind space is lies = as_kind space Map kind is lies
item_kind a kind space is lies = none_some kind is

pub of_item : (Operand : Element → Type 0) (o : Option ValueKind) → AreOfKind Operand o → AreOfKind Operand (option_and_then item o)
of_item Operand None before = no_kind Operand
of_item Operand (Some a) before = record {
  lies = λ kind is element has. item_kind a kind element.space is (before.lies a refl element has);
}

pub of_word : (word : Prefix) (names : List Name) (Family : Valuation → Element → Type 0) (valuation : Valuation) (o : Option ValueKind)
    → ((v : Valuation) → AreOfKind (Family v) o)
    → AreOfKind (λ x. WordHas word names Family valuation x) (option_and_then (prefixed word) o)
of_word word names Family valuation None before = no_kind (λ x. WordHas word names Family valuation x)
of_word word names Family valuation (Some a) before = record {
  lies = λ kind is element has. word_kind names Family valuation a (λ v. (before v).lies a refl) word kind element is has;
}

of_two : (line : ValueKind → ValueKind → Option ValueKind) (Made : Element → Type 0) (o p : Option ValueKind)
    → ((a c kind : ValueKind) → o ≡ Some a → p ≡ Some c → line a c ≡ Some kind → (element : Element) → Made element
    → IsSpaceOf kind element.space)
    → AreOfKind Made (by_two line o p)
of_two line Made None p made = no_kind Made
of_two line Made (Some a) None made = no_kind Made
of_two line Made (Some a) (Some c) made = record { lies = λ kind is element has. made a c kind refl refl is element has }

module _ (Left Right : Element → Type 0) (o p : Option ValueKind) (left : AreOfKind Left o) (right : AreOfKind Right p) where
  pub of_operator : (sign : Binary) → AreOfKind (λ x. OperatorHas sign Left Right x) (by_two (joined sign) o p)
  of_operator sign = of_two (joined sign) (λ x. OperatorHas sign Left Right x) o p (λ a c kind first second is element has.
      operator_kind Left Right a c (left.lies a first) (right.lies c second) sign kind element is has)

  pub of_application : AreOfKind (λ x. ApplicationHas Left Right x) (by_two applied o p)
  of_application = of_two applied (λ x. ApplicationHas Left Right x) o p (λ a c kind first second is element has.
      application_kind Left Right a c (left.lies a first) (right.lies c second) kind element is has)

-- `%` leaves the elements of the left one among those of the right one as they are
pub of_gist : (Left : Element → Type 0) (o p : Option ValueKind) → AreOfKind Left o → AreOfKind Left (by_two (joined b.Gist) o p)
of_gist Left o p left = of_two (joined b.Gist) Left o p (λ a c kind first second is element has.
    let lies = left.lies a first element has in as_kind element.space a kind (gist_left a c kind element.space lies is) lies)

-- ---- which accesses come before others
module _ (M N T : Element → Type 0) (o p q : Option ValueKind) where
  pub of_any : AreOfKind M o → AreOfKind N p → AreOfKind T q → AreOfKind (λ x. AnyHas M N T x) (by_three Map o p q)
  of_any m n t = record {
    lies = λ kind is element h.
        let all = three_some Map o p q kind is in
        let first = map_line M all.0 (m.lies all.0 all.3) (λ j. dependence Map j all.1 all.2) refl kind h.0 h.2 h.5.source all.6 in
        let second = map_line N all.1 (n.lies all.1 all.4) (λ j. dependence Map Map j all.2) refl kind h.1 h.2 h.5.sink first in
        made_in Map kind element _
        (map_line T all.2 (t.lies all.2 all.5) (λ j. dependence Map Map Map j) refl kind h.0 h.3 h.5.at second) h.6 tt;
  }

  -- whatever the operands are, the parts of a list are maps
  list_kind : (a b c kind : ValueKind) → dependence Pair a b c ≡ Some kind → Some Pair ≡ Some kind
  list_kind a b c kind is =
      by (is_kind a Empty && is_kind b Empty && is_kind c Empty) (fits a Map && fits b Map && fits c Map) is
    where
      by : (empty fit : Bool) → (if fit then Some (made empty Pair) else None) ≡ Some kind → Some Pair ≡ Some kind
      by true true is = is
      by false true is = is
      by empty false is = none_some kind is

  pub of_last : (part : ListPart) → AreOfKind (λ x. PartHas part M N T x) (by_three Pair o p q)
  of_last First = record {
    lies = λ kind is element h.
        let all = three_some Pair o p q kind is in made_in Pair kind element _ (list_kind all.0 all.1 all.2 kind all.6) h.7 tt;
  }
  of_last Second = record {
    lies = λ kind is element h.
        let all = three_some Pair o p q kind is in made_in Pair kind element _ (list_kind all.0 all.1 all.2 kind all.6) h.4 tt;
  }
