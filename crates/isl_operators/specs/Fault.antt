-- public: what faults of the calls below are to a word.
use Rattle.isl_extremes.specs.declared.fault.LexFault.{LexFault}
use Rattle.isl_extremes.specs.declared.fault.LexFault.TheVariants as lex_fault
use Rattle.isl_union.specs.declared.fault.OpFault.{OpFault}
use Rattle.isl_union.specs.declared.fault.OpFault.TheVariants as op_fault
use Rattle.isl_operators.specs.declared.fault.WordFault.{WordFault}
use Rattle.isl_operators.specs.declared.fault.WordFault.TheVariants as word_fault

abbrev pub word_fault_of : OpFault → WordFault
word_fault_of op_fault.TooWide = word_fault.TooWide
word_fault_of (op_fault.Cut cut) = word_fault.Cut cut

abbrev pub word_fault_of_lex : LexFault → WordFault
word_fault_of_lex lex_fault.NoMinimum = word_fault.NoMinimum
word_fault_of_lex (lex_fault.Cut cut) = word_fault.Cut cut
