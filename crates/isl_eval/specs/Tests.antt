-- public: when tests hold. (isl manual, on comparing sets and relations; the iscc chapter of the barvinok manual)
use Rattle.std.specs.Prelude.{Bool, true, false}
use Rattle.isl_space.specs.Valuation.{Valuation}
use Rattle.isl_space.specs.Element.{Element}
use Rattle.isl_tree.specs.declared.statement.Binary.{Binary}
use Rattle.isl_tree.specs.declared.statement.Binary.TheVariants as b
use Rattle.isl_tree.specs.declared.statement.Expr.{Row_of-Expr, Row_of-Link, end_of-Link, more_of-Link}
use Rattle.isl_operators.specs.Operations.{OperatorHas}
use Rattle.isl_state.specs.declared.list.ListPart.TheVariants.{First}
use Rattle.isl_values.specs.State.{StateView, Everywhere}
use Rattle.isl_values.specs.Selection.{Selects, SelectsIn}

abbrev pub is_test : Binary → Bool
is_test b.Equal = true
is_test b.ProperSubset = true
is_test b.Subset = true
is_test b.ProperSuperset = true
is_test b.Superset = true
is_test b.LexLess = false
is_test b.LexLessEqual = false
is_test b.LexGreater = false
is_test b.LexGreaterEqual = false
is_test b.Universal = false
is_test b.Union = false
is_test b.Difference = false
is_test b.RangeDifference = false
is_test b.Intersection = false
is_test b.RangeIntersection = false
is_test b.Gist = false
is_test b.Cross = false
is_test b.Join = false

-- the last operator of a row is a test
abbrev pub ends_with_test : {m : _} → Row_of-Link m → Bool
ends_with_test end_of-Link = false
ends_with_test (more_of-Link operator operand end_of-Link) = is_test operator
ends_with_test (more_of-Link operator operand rest) = ends_with_test rest

-- which elements there are at each valuation
abbrev pub Elements : Type 1
Elements = Valuation → Element → Type 0

-- at every valuation each element of the one is one of the other
abbrev pub IsPartOf : StateView → Elements → Elements → Type 0
IsPartOf state P Q = Everywhere state (λ valuation. (element : Element) → P valuation element → Q valuation element)

-- `=`: the same elements; `<=`: each of the one is one of the other; `<`: that, and they are not the same; `>` and `>=` turned round
abbrev pub TestHolds : StateView → Binary → Elements → Elements → Type 0
TestHolds state b.Equal P Q = IsPartOf state P Q × IsPartOf state Q P
TestHolds state b.Subset P Q = IsPartOf state P Q
TestHolds state b.ProperSubset P Q = IsPartOf state P Q × (¬ IsPartOf state Q P)
TestHolds state b.Superset P Q = IsPartOf state Q P
TestHolds state b.ProperSuperset P Q = IsPartOf state Q P × (¬ IsPartOf state P Q)
TestHolds state b.LexLess P Q = ⊥
TestHolds state b.LexLessEqual P Q = ⊥
TestHolds state b.LexGreater P Q = ⊥
TestHolds state b.LexGreaterEqual P Q = ⊥
TestHolds state b.Universal P Q = ⊥
TestHolds state b.Union P Q = ⊥
TestHolds state b.Difference P Q = ⊥
TestHolds state b.RangeDifference P Q = ⊥
TestHolds state b.Intersection P Q = ⊥
TestHolds state b.RangeIntersection P Q = ⊥
TestHolds state b.Gist P Q = ⊥
TestHolds state b.Cross P Q = ⊥
TestHolds state b.Join P Q = ⊥

-- what is said of a test and of the elements on both sides of it
abbrev pub Saying : Type 1
Saying = Binary → Elements → Elements → Type 0

-- It is said of the test at the end of a row, of what the operators before it make of the operands, from the left, and of the last operand.
abbrev pub SaysPastLinks : {m : _} → Saying → StateView → Elements → Row_of-Link m → Type 0
SaysPastLinks Says state Left end_of-Link = ⊥
SaysPastLinks Says state Left (more_of-Link operator operand end_of-Link) =
    Says operator Left (λ valuation element. Selects state operand valuation element)
SaysPastLinks Says state Left (more_of-Link operator operand rest) =
    SaysPastLinks Says state (λ valuation x. OperatorHas operator (Left valuation) (λ y. Selects state operand valuation y) x) rest

abbrev pub RowSays : {m n : _} → Saying → StateView → Row_of-Expr m → Row_of-Link n → Type 0
RowSays Says state first links = SaysPastLinks Says state (λ valuation x. SelectsIn state First first valuation x) links
