-- public: the lines that tell of a refusal.
use Rattle.std.specs.Prelude.{ℕ, List, [], ◌∷◌, ◌++◌, codes}
use Rattle.std.specs.Fmt.{decimal}
use Rattle.isl_words.specs.declared.fault.WordsFault.{WordsFault}
use Rattle.isl_words.specs.declared.fault.WordsFault.TheVariants as words
use Rattle.isl_refusal.specs.declared.refusal.Refusal.{Refusal}
use Rattle.isl_refusal.specs.declared.refusal.Refusal.TheVariants.{NoMemory, Usage}
use Rattle.isl_refusal.specs.Refusal.{text_of}
use Rattle.isl_session.specs.declared.counts.Counts.{Counts}
use Rattle.isl_session.specs.declared.fault.Fault.{Fault}

abbrev pub fault_line : Fault → List ℕ
fault_line fault = codes "iscc: statement " ++ decimal fault.statement ++ codes ": " ++ text_of fault.refusal ++ 10 ∷ []

-- how much was answered
abbrev pub summary_line : Counts → List ℕ
summary_line counts =
    codes "statements " ++ decimal counts.statements ++ codes ", true " ++ decimal counts.trues ++ codes ", elements "
    ++ decimal counts.elements ++ 10 ∷ []

abbrev pub usage_line : List ℕ
usage_line = text_of Usage ++ 10 ∷ []

-- why there are no options: the words choose none, or memory ended
abbrev pub words_refusal : WordsFault → Refusal
words_refusal words.Usage = Usage
words_refusal words.NoMemory = NoMemory

-- its line; want of memory speaks of statement 1, since none was answered
abbrev pub words_line : WordsFault → List ℕ
words_line words.Usage = usage_line
words_line words.NoMemory = fault_line (record { statement = 1; refusal = NoMemory })
