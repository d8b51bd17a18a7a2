-- public: what is asked for where an expression is shown. (the iscc chapter of the barvinok manual)
use Rattle.std.specs.Prelude.{Bool, true, false, not}
use Rattle.isl_tree.specs.declared.words.Question.{Question}
use Rattle.isl_tree.specs.declared.words.Question.TheVariants.{Value, Elements, Loops, Trees}
use Rattle.isl_tree.specs.Words.{makes_value, word_row}
use Rattle.isl_tree.specs.declared.statement.Prefix.{Prefix}
use Rattle.isl_tree.specs.declared.statement.Expr.{Expr, Row', Prefix', Any', Last', Post'}
use Rattle.isl_tree.specs.declared.statement.Expr as e
use Rattle.isl_tree.specs.declared.statement.Stmt.{Stmt}
use Rattle.isl_tree.specs.declared.statement.Stmt.TheVariants.{Empty, Bind, Show, Assume}

-- what a word asks for that is shown with its operand: the elements of the operand, loops that visit them, trees of the least ones, or
-- the value that it makes
abbrev pub question_of : Prefix → Question
question_of word = (word_row word).asks

-- it is about the operand, and no value is made
abbrev pub is_of_operand : Question → Bool
is_of_operand question = not (makes_value question)

-- it is about certain numbers of the parameters: those of elements, and those of loops where they are run
abbrev pub is_at_numbers : Bool → Question → Bool
is_at_numbers run Elements = true
is_at_numbers run Loops = run
is_at_numbers run Trees = false
is_at_numbers run Value = false

-- what is shown is about certain numbers of the parameters
abbrev pub shows_at_numbers : Bool → Expr → Bool
shows_at_numbers run (e.Name name) = false
shows_at_numbers run (e.Literal literal) = false
shows_at_numbers run (Row' s first t links) = false
shows_at_numbers run (Prefix' word s operand) = is_at_numbers run (question_of word)
shows_at_numbers run (Any' r source s sink t schedule) = false
shows_at_numbers run (Last' r source s sink t schedule) = false
shows_at_numbers run (Post' s operand t postfixes) = false

abbrev pub needs_numbers : Bool → Stmt → Bool
needs_numbers run Empty = false
needs_numbers run (Bind name expr) = false
needs_numbers run (Show expr) = shows_at_numbers run expr
needs_numbers run (Assume set) = false
