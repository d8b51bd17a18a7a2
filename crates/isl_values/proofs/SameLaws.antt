-- What operations make of the same elements is the same.
use Rattle.std.proofs.Common.{◌≡◌, ◌↔◌, inl, inr, true, List, ℤ, refl, subst}
use Rattle.std.specs.Prelude.{pos, ◌+ℤ◌, ◌++◌}
use Rattle.isl_math.specs.Dot.{dot}
use Rattle.isl_space.specs.Element.{Element}
use Rattle.isl_space.specs.Name.{Name}
use Rattle.isl_space.specs.Valuation.{Valuation, values_of}
use Rattle.isl_tree.specs.declared.statement.Binary.{Binary}
use Rattle.isl_tree.specs.declared.statement.Binary.TheVariants as b
use Rattle.isl_tree.specs.declared.statement.Prefix.{Prefix}
use Rattle.isl_tree.specs.declared.statement.Prefix.TheVariants as p
use Rattle.isl_operators.specs.Point.{Point, HasPoint, Relates, set_element, map_element, paired}
use Rattle.isl_operators.specs.Maps.{JoinHas}
use Rattle.isl_operators.specs.Extremes.{FirstHas, HasFirst, IsFirstImage, IsFirstOf}
use Rattle.isl_operators.specs.Flow.{AnyHas, IsOverwritten, Precedes}
use Rattle.isl_hull.specs.Hull.{HullHas}
use Rattle.isl_operators.specs.Orders.{ComesAfter, ComesBefore, IsDownTo, IsUpTo}
use Rattle.isl_operators.specs.Operations.{IsIn, OperatorHas, OrderedHas, WordHas, WordMisses, ApplicationHas}
use Rattle.isl_assumed.specs.declared.assumed.Assumed.{Assumed}
use Rattle.isl_assumed.specs.Assumed.{Assumes}
use Rattle.isl_state.specs.State.{StateView, AtAssumed}
use Rattle.isl_state.specs.declared.list.ListPart.{ListPart}
use Rattle.isl_state.specs.declared.list.ListPart.TheVariants.{First, Second}
use Rattle.isl_values.specs.Worked.{looks, Dependence, PartHas}

-- at one valuation
abbrev pub Elements : Type 1
Elements = Element → Type 0

-- at every valuation
abbrev pub Selection : Type 1
Selection = Valuation → Elements

-- both have the same elements
abbrev pub Same : Elements → Elements → Type 0
Same P Q = (x : Element) → P x ↔ Q x

pub itself : (P : Elements) → Same P P
itself P = λ x. ((λ h. h), (λ h. h))

pub turned : (P Q : Elements) → Same P Q → Same Q P
turned P Q same = λ x. let h = same x in (h.1, h.0)

pub same_trans : (P Q R : Elements) → Same P Q → Same Q R → Same P R
same_trans P Q R p q = λ x. ((λ h. (q x).0 ((p x).0 h)), (λ h. (p x).1 ((q x).1 h)))

-- at every valuation
abbrev pub AreSame : Selection → Selection → Type 0
AreSame P Q = (v : Valuation) (x : Element) → P v x ↔ Q v x

-- at every assumed valuation
abbrev pub AreSameAt : Assumed → Selection → Selection → Type 0
AreSameAt assumed P Q = (v : Valuation) → Assumes assumed v → Same (P v) (Q v)

pub at_assumed : (state : StateView) (P Q : Selection) → AreSameAt state.assumed P Q → AreSame (AtAssumed state P) (AtAssumed state Q)
at_assumed state P Q same v x = ((λ h. (h.0, (same v h.0 x).0 h.1)), (λ h. (h.0, (same v h.0 x).1 h.1)))

pub turned_same : (P Q : Selection) → AreSame P Q → AreSame Q P
turned_same P Q same v = turned (P v) (Q v) (same v)

-- what the first has at a valuation, the second has where these names have the same numbers
abbrev pub AreAmong : List Name → Selection → Selection → Type 0
AreAmong names P Q = (v : Valuation) (x : Element) → P v x → (w : Valuation) × (values_of names w ≡ values_of names v) × Q w x

pub same_among : (names : List Name) (P Q : Selection) → AreSame P Q → AreAmong names P Q
same_among names P Q same v x has = (v, refl, (same v x).0 has)

-- both ways
abbrev pub AreAlike : List Name → Selection → Selection → Type 0
AreAlike names P Q = AreAmong names P Q × AreAmong names Q P

pub same_alike : (names : List Name) (P Q : Selection) → AreSame P Q → AreAlike names P Q
same_alike names P Q same = (same_among names P Q same, same_among names Q P (turned_same P Q same))

-- a form over names and coordinates that is 0 at all of the second is 0 at all of the first
pub hull_has : (names : List Name) (P Q : Selection) → AreAmong names P Q → (v : Valuation) (x : Element) → HullHas names P v x
    → HullHas names Q v x
hull_has names P Q among v x h = record {
  numbers = h.numbers;
  live = λ none. h.live (λ w y has is. let there = among w y has in none there.0 y there.2 is);
  zero = λ coefs constant columns vanishes. h.zero coefs constant columns (λ w y has is.
      let there = among w y has in
      subst (λ (numbers : List ℤ). dot coefs (numbers ++ y.coordinates) +ℤ constant ≡ pos 0) there.1 (vanishes there.0 y there.2 is));
}

-- ---- one operand
module _ (P Q : Elements) (same : Same P Q) where
  point_in : (x : Point) → HasPoint P x → HasPoint Q x
  point_in x h = record { point = h.point; has = (same (set_element x)).0 h.has }

  pair_in : (x y : Point) → Relates P x y → Relates Q x y
  pair_in x y h = record { from = h.from; to = h.to; has = (same (map_element x y)).0 h.has }

  within : (x : Element) → IsIn P x → IsIn Q x
  within x (inl h) = inl ((same x).0 h)
  within x (inr h) = inr (h.0, h.1, point_in h.0 h.2, h.3, h.4)

  point_back : (x : Point) → HasPoint Q x → HasPoint P x
  point_back x h = record { point = h.point; has = (same (set_element x)).1 h.has }

  pair_back : (x y : Point) → Relates Q x y → Relates P x y
  pair_back x y h = record { from = h.from; to = h.to; has = (same (map_element x y)).1 h.has }

  module _ (Ordered : Point → Point → Type 0) where
    first_of : (x : Point) → IsFirstOf Ordered P x → IsFirstOf Ordered Q x
    first_of x h = (point_in x h.0, (λ z has. h.1 z (point_back z has)))

    first_image : (x y : Point) → IsFirstImage Ordered P x y → IsFirstImage Ordered Q x y
    first_image x y h = (pair_in x y h.0, (λ z has. h.1 z (pair_back x z has)))

    first_has : (x : Element) → FirstHas Ordered P x → FirstHas Ordered Q x
    first_has x (inl h) = inl (h.0, first_of h.0 h.1, h.2)
    first_has x (inr h) = inr (h.0, h.1, first_image h.0 h.1 h.2, h.3)

    pub has_first : HasFirst Ordered P → HasFirst Ordered Q
    has_first h = record {
      sets = λ x has. let z = h.sets x (point_back x has) in (z.0, z.1, first_of z.0 z.2);
      maps = λ x y has. let z = h.maps x y (pair_back x y has) in (z.0, z.1, first_image x z.0 z.2);
    }

-- ---- two operands
module _ (P Q R S : Elements) (left : Same P Q) (right : Same R S) where
  join_has : (x : Element) → JoinHas P R x → JoinHas Q S x
  join_has x h = (h.0, h.1, h.2, pair_in P Q left h.0 h.1 h.3, pair_in R S right h.1 h.2 h.4, h.5)

  ordered_has : (Ordered : Point → Point → Type 0) (x : Element) → OrderedHas Ordered P R x → OrderedHas Ordered Q S x
  ordered_has Ordered x (inl h) = inl (h.0, h.1, point_in P Q left h.0 h.2, point_in R S right h.1 h.3, h.4, h.5)
  ordered_has Ordered x (inr h) = inr (h.0, h.1, h.2, h.3, pair_in P Q left h.0 h.2 h.4, pair_in R S right h.1 h.3 h.5, h.6, h.7)

  operator_has : (operator : Binary) (x : Element) → OperatorHas operator P R x → OperatorHas operator Q S x
  operator_has b.Union x (inl h) = inl ((left x).0 h)
  operator_has b.Union x (inr h) = inr ((right x).0 h)
  operator_has b.Intersection x h = ((left x).0 h.0, within R S right x h.1)
  operator_has b.Difference x h = ((left x).0 h.0, (λ has. h.1 (within S R (turned R S right) x has)))
  operator_has b.RangeIntersection x h = (h.0, h.1, pair_in P Q left h.0 h.1 h.2, point_in R S right h.1 h.3, h.4)
  operator_has b.RangeDifference x h =
      (h.0, h.1, pair_in P Q left h.0 h.1 h.2, (λ has. h.3 (point_in S R (turned R S right) h.1 has)), h.4)
  operator_has b.Cross x (inl h) = inl (h.0, h.1, point_in P Q left h.0 h.2, point_in R S right h.1 h.3, h.4)
  operator_has b.Cross x (inr h) = inr (h.0, h.1, h.2, h.3, pair_in P Q left h.0 h.1 h.4, pair_in R S right h.2 h.3 h.5, h.6)
  operator_has b.Join x h = join_has x h
  operator_has b.Universal x h = (h.0, h.1, point_in P Q left h.0 h.2, point_in R S right h.1 h.3, h.4)
  operator_has b.LexLess x h = ordered_has ComesBefore x h
  operator_has b.LexLessEqual x h = ordered_has IsUpTo x h
  operator_has b.LexGreater x h = ordered_has ComesAfter x h
  operator_has b.LexGreaterEqual x h = ordered_has IsDownTo x h
  operator_has _ x h = absurd h

-- a map on the left, and what it is applied to
module _ (P Q R S : Elements) (map : Same P Q) (argument : Same R S) where
  application_has : (x : Element) → ApplicationHas P R x → ApplicationHas Q S x
  application_has x (inl h) = inl (h.0, h.1, pair_in P Q map h.0 h.1 h.2, point_in R S argument h.0 h.3, h.4)
  application_has x (inr h) = inr (join_has R S P Q argument map x h)

-- a word, of the elements at a valuation, or of all where it looks at all
module _ (P Q : Selection) (v : Valuation) (same : Same (P v) (Q v)) where
  word_has : (word : Prefix) (names : List Name) → (looks word ≡ true → AreAmong names P Q) → (x : Element) → WordHas word names P v x
      → WordHas word names Q v x
  word_has p.Domain names all x h = (h.0, h.1, pair_in (P v) (Q v) same h.0 h.1 h.2, h.3)
  word_has p.Range names all x h = (h.0, h.1, pair_in (P v) (Q v) same h.0 h.1 h.2, h.3)
  word_has p.Deltas names all x h = (h.0, h.1, pair_in (P v) (Q v) same h.0 h.1 h.2, h.3, h.4)
  word_has p.Identity names all x h = (h.0, point_in (P v) (Q v) same h.0 h.1, h.2)
  word_has p.Wrap names all x h = (h.0, h.1, pair_in (P v) (Q v) same h.0 h.1 h.2, h.3)
  word_has p.Unwrap names all x h = (h.0, h.1, h.2, h.3, point_in (P v) (Q v) same (paired h.0 h.1) h.4, h.5)
  word_has p.Zip names all x h =
      (h.0, h.1, h.2, h.3, h.4, h.5, h.6, h.7, pair_in (P v) (Q v) same (paired h.0 h.1) (paired h.2 h.3) h.8, h.9)
  word_has p.DomainMap names all x h = (h.0, h.1, pair_in (P v) (Q v) same h.0 h.1 h.2, h.3)
  word_has p.RangeMap names all x h = (h.0, h.1, pair_in (P v) (Q v) same h.0 h.1 h.2, h.3)
  word_has p.LexMin names all x h = first_has (P v) (Q v) same ComesBefore x h
  word_has p.LexMax names all x h = first_has (P v) (Q v) same ComesAfter x h
  word_has p.AffineHull names all x h = hull_has names P Q (all refl) v x h
  word_has p.Coalesce names all x h = (same x).0 h
  word_has _ names all x h = absurd h

-- at every one
module _ (P Q : Selection) (same : AreSame P Q) where
  misses : (word : Prefix) → WordMisses word P → WordMisses word Q
  misses p.LexMin h = λ all. h (λ v. has_first (Q v) (P v) (turned (P v) (Q v) (same v)) ComesBefore (all v))
  misses p.LexMax h = λ all. h (λ v. has_first (Q v) (P v) (turned (P v) (Q v) (same v)) ComesAfter (all v))
  misses _ h = absurd h

-- source, sink and schedule
module _ (M N T O P U : Elements) (source : Same M O) (sink : Same N P) (schedule : Same T U) where
  precedes : (x y a p q : Point) → Precedes M N T x y a p q → Precedes O P U x y a p q
  precedes x y a p q h = record {
    source = pair_in M O source x a h.source;
    sink = pair_in N P sink y a h.sink;
    at = pair_in T U schedule x p h.at;
    sink_at = pair_in T U schedule y q h.sink_at;
    earlier = h.earlier;
  }

  overwritten : (a p q : Point) → IsOverwritten M T a p q → IsOverwritten O U a p q
  overwritten a p q h = (h.0, h.1, pair_in M O source h.0 a h.2, pair_in T U schedule h.0 h.1 h.3, h.4, h.5)

  any_has : (x : Element) → AnyHas M N T x → AnyHas O P U x
  any_has x h = (h.0, h.1, h.2, h.3, h.4, precedes h.0 h.1 h.2 h.3 h.4 h.5, h.6)

-- what is made of three operands depends on their elements alone
abbrev pub DependsOnElements : Dependence → Type 1
DependsOnElements Depends =
    (M N T O P U : Elements) → Same M O → Same N P → Same T U → (x : Element) → Depends M N T x → Depends O P U x

pub same_any : DependsOnElements AnyHas
same_any M N T O P U source sink schedule x h = any_has M N T O P U source sink schedule x h

pub same_part : (part : ListPart) → DependsOnElements (PartHas part)
same_part First M N T O P U source sink schedule x h = (
  h.0,
  h.1,
  h.2,
  h.3,
  h.4,
  precedes M N T O P U source sink schedule h.0 h.1 h.2 h.3 h.4 h.5,
  (λ is. h.6 (overwritten O P U M N T (turned M O source) (turned N P sink) (turned T U schedule) h.2 h.3 h.4 is)),
  h.7,
)
same_part Second M N T O P U source sink schedule x h = (
  h.0,
  h.1,
  pair_in N P sink h.0 h.1 h.2,
  (λ z p q is. h.3 z p q (precedes O P U M N T (turned M O source) (turned N P sink) (turned T U schedule) z h.0 h.1 p q is)),
  h.4,
)

pub same_three : (Depends : Dependence) → DependsOnElements Depends → (M N T O P U : Elements) → Same M O → Same N P → Same T U
    → Same (Depends M N T) (Depends O P U)
same_three Depends on M N T O P U source sink schedule = λ x. (
  on M N T O P U source sink schedule x,
  on O P U M N T (turned M O source) (turned N P sink) (turned T U schedule) x,
)

-- ---- both ways
pub same_operator : (operator : Binary) (P Q R S : Elements) → Same P Q → Same R S
    → Same (OperatorHas operator P R) (OperatorHas operator Q S)
same_operator operator P Q R S left right = λ x. (
  operator_has P Q R S left right operator x,
  operator_has Q P S R (turned P Q left) (turned R S right) operator x,
)

pub same_word : (word : Prefix) (names : List Name) (P Q : Selection) (v : Valuation) → Same (P v) (Q v)
    → (looks word ≡ true → AreAlike names P Q) → Same (WordHas word names P v) (WordHas word names Q v)
same_word word names P Q v same all = λ x. (
  word_has P Q v same word names (λ is. (all is).0) x,
  word_has Q P v (turned (P v) (Q v) same) word names (λ is. (all is).1) x,
)

pub same_misses : (word : Prefix) (P Q : Selection) → AreSame P Q → WordMisses word P ↔ WordMisses word Q
same_misses word P Q same = (misses P Q same word, misses Q P (turned_same P Q same) word)

pub same_application : (P Q R S : Elements) → Same P Q → Same R S → Same (ApplicationHas P R) (ApplicationHas Q S)
same_application P Q R S map argument = λ x. (
  application_has P Q R S map argument x,
  application_has Q P S R (turned P Q map) (turned R S argument) x,
)
