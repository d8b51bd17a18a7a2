-- public: which tokens join two operands, and how tightly.
use Rattle.std.specs.Prelude.{Bool, List, Option, Some, None, is_some, if◌then◌else◌}
use denote.Enum.Bare.{sameb}
use Rattle.isl_token.specs.TokenView.{Token}
use Rattle.isl_token.specs.declared.token.Kind.{Kind}
use Rattle.isl_token.specs.declared.token.Kind.TheVariants as k
use Rattle.isl_token.specs.Token.{kind_of}
use Rattle.isl_token.specs.Reading.{Parser, ◌>>◌, pure, none, head_kind, skip}
use Rattle.isl_tree.specs.declared.statement.Binary.{Binary}
use Rattle.isl_tree.specs.declared.statement.Binary.TheVariants as b
use Rattle.isl_stmt.specs.contracts.operator.Precedence.{the_type}
use Rattle.isl_stmt.specs.declared.operator.Precedence.{Precedence}
use Rattle.isl_stmt.specs.declared.operator.Precedence.TheVariants.{Test, Universal, Sum, Product, Join}
use Rattle.isl_stmt.specs.declared.word.Role.{Role}
use Rattle.isl_stmt.specs.declared.word.Role.TheVariants as role
use Rattle.isl_stmt.specs.Word.{token_role, head_role}

abbrev pub operator_sign : Kind → Option Binary
operator_sign k.Equal = Some b.Equal
operator_sign k.Less = Some b.ProperSubset
operator_sign k.LessEqual = Some b.Subset
operator_sign k.Greater = Some b.ProperSuperset
operator_sign k.GreaterEqual = Some b.Superset
operator_sign k.LexLess = Some b.LexLess
operator_sign k.LexLessEqual = Some b.LexLessEqual
operator_sign k.LexGreater = Some b.LexGreater
operator_sign k.LexGreaterEqual = Some b.LexGreaterEqual
operator_sign k.Arrow = Some b.Universal
operator_sign k.Plus = Some b.Union
operator_sign k.Minus = Some b.Difference
operator_sign k.ArrowMinus = Some b.RangeDifference
operator_sign k.Star = Some b.Intersection
operator_sign k.ArrowStar = Some b.RangeIntersection
operator_sign k.Mod = Some b.Gist
operator_sign k.Dot = Some b.Join
operator_sign _ = None

-- a sign, or the word `cross`
abbrev pub operator_by : Role → Kind → Option Binary
operator_by role.NoWord kind = operator_sign kind
operator_by role.Cross kind = Some b.Cross
operator_by _ kind = None

-- the operator that a token is, if it is one. (The word `mod` is none, while `%` is.)
abbrev pub operator_of : Token → Option Binary
operator_of t = operator_by (token_role t) (kind_of t)

-- from the loosest to the tightest
abbrev pub precedence_of : Binary → Precedence
precedence_of b.Equal = Test
precedence_of b.ProperSubset = Test
precedence_of b.Subset = Test
precedence_of b.ProperSuperset = Test
precedence_of b.Superset = Test
precedence_of b.LexLess = Test
precedence_of b.LexLessEqual = Test
precedence_of b.LexGreater = Test
precedence_of b.LexGreaterEqual = Test
precedence_of b.Universal = Universal
precedence_of b.Union = Sum
precedence_of b.Difference = Sum
precedence_of b.RangeDifference = Sum
precedence_of b.Intersection = Product
precedence_of b.RangeIntersection = Product
precedence_of b.Gist = Product
precedence_of b.Cross = Product
precedence_of b.Join = Join

-- `==` on precedences
abbrev pub is_precedence : Precedence → Precedence → Bool
is_precedence = sameb the_type

abbrev pub of_precedence : Precedence → Option Binary → Option Binary
of_precedence p None = None
of_precedence p (Some binary) = if is_precedence (precedence_of binary) p then Some binary else None

-- the next token as an operator of the precedence
abbrev pub head_operator : Precedence → List Token → Option Binary
head_operator p ts = of_precedence p (operator_by (head_role ts) (head_kind ts))

abbrev pub sees_operator : Precedence → List Token → Bool
sees_operator p ts = is_some (head_operator p ts)

-- ---- how operators are read

abbrev pub operator_given : Option Binary → Parser Binary
operator_given (Some binary) = skip >> pure binary
operator_given None = none

unfoldable pub operator : Precedence → Parser Binary
operator p = λ ts. operator_given (head_operator p ts) ts
