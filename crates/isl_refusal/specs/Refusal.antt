-- public: the table of refusals: the exit status and the text of each, and where it comes about.
use Rattle.std.specs.Prelude.{ℕ, Bool, true, false, List, codes}
use Rattle.isl_refusal.specs.declared.refusal.Refusal.{Refusal}
use Rattle.isl_refusal.specs.declared.refusal.Refusal.TheVariants.{Usage, Syntax, UnknownName, WrongKind, NoMinimum, Unbounded}
use Rattle.isl_refusal.specs.declared.refusal.Refusal.TheVariants.{SeveralTimes}
use Rattle.isl_refusal.specs.declared.refusal.Refusal.TheVariants.{TimeShape, Nested, Parametric, TooWide, TooDeep, WideNumber, TooLong}
use Rattle.isl_refusal.specs.declared.refusal.Refusal.TheVariants.{Unfinished, Overflow, Budget, ReadFault, WriteFault, NoMemory}
use Rattle.isl_refusal.specs.declared.refusal.Refusal.TheVariants.{ScriptTooLong, NoElement, NoValuation, NotAssumed}

-- where a refusal comes about
pub data Place : Type 0 where
  -- before anything is read
  at_words : Place
  -- at the end of a statement, which is read and worked out
  in_statement : Place
  -- at the byte behind the last one that a statement, or the rest, may have
  too_long : Place
  -- at the byte behind the last one that a script may have
  past_limit : Place
  -- where the script ended
  at_end : Place
  at_read : Place
  at_write : Place
  -- wherever memory is asked for: at the end of a statement, or where what is held fills its room
  anywhere : Place

pub record Row : Type 0 where
  pub status : ℕ
  pub text : List ℕ
  pub place : Place

abbrev pub make_row : ℕ → List ℕ → Place → Row
make_row status text place = record { status = status; text = text; place = place }

abbrev pub row_of : Refusal → Row
row_of Usage =
    make_row 2 (codes "usage: iscc [--bits B] [--budget N] [--at NAME=INT,..] [--run] [--make N] [--keep-going] [--cert]") at_words
row_of Syntax = make_row 3 (codes "syntax error") in_statement
row_of UnknownName = make_row 4 (codes "unknown name") in_statement
row_of WrongKind = make_row 5 (codes "wrong kind of operand") in_statement
row_of NoMinimum = make_row 6 (codes "no least or greatest element") in_statement
row_of Unbounded = make_row 7 (codes "infinitely many elements") in_statement
row_of SeveralTimes = make_row 8 (codes "a point has several times") in_statement
row_of TimeShape = make_row 9 (codes "time shapes differ") in_statement
row_of Nested = make_row 10 (codes "nested domain") in_statement
row_of Parametric = make_row 11 (codes "parameter without a value") in_statement
row_of TooWide = make_row 12 (codes "too wide") in_statement
row_of TooDeep = make_row 13 (codes "too deep") in_statement
row_of WideNumber = make_row 14 (codes "number too large") in_statement
row_of TooLong = make_row 15 (codes "statement too long") too_long
row_of Unfinished = make_row 16 (codes "unfinished statement") at_end
row_of Overflow = make_row 17 (codes "arithmetic overflow") in_statement
row_of Budget = make_row 18 (codes "budget spent") in_statement
row_of ReadFault = make_row 19 (codes "read failed") at_read
row_of WriteFault = make_row 20 (codes "write failed") at_write
row_of NoMemory = make_row 21 (codes "out of memory") anywhere
row_of ScriptTooLong = make_row 22 (codes "script too long") past_limit
row_of NoElement = make_row 23 (codes "no such element") in_statement
row_of NoValuation = make_row 24 (codes "no valuation left") in_statement
row_of NotAssumed = make_row 25 (codes "valuation not assumed") in_statement

abbrev pub code_of : Refusal → ℕ
code_of refusal = (row_of refusal).status

abbrev pub text_of : Refusal → List ℕ
text_of refusal = (row_of refusal).text

abbrev pub place_of : Refusal → Place
place_of refusal = (row_of refusal).place

abbrev pub is_in_statement : Place → Bool
is_in_statement at_words = false
is_in_statement in_statement = true
is_in_statement too_long = false
is_in_statement past_limit = false
is_in_statement at_end = false
is_in_statement at_read = false
is_in_statement at_write = false
is_in_statement anywhere = false
