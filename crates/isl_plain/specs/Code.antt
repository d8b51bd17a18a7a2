-- inner: remainders and written rows, as the code has them.
use Rattle.isl_tree.specs.Plain as plain
use Rattle.isl_plain.specs.Rows as rows
use Rattle.isl_plain.specs.declared.remainder.Remainder.{Remainder}
use Rattle.isl_plain.specs.declared.written.Written.{Written}

abbrev pub remainder_of : Remainder → plain.Remainder
remainder_of r = (r.term.now, r.modulus)

abbrev pub written_of : Written → rows.Written
written_of w = record { kind = w.kind; modulus = w.modulus; greater = w.greater.now; less = w.less.now; last = w.last }
