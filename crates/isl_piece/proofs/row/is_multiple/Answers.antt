use Rattle.std.proofs.Common.{true, refl, arith}
use Rattle.isl_piece.proofs.RowLemmas.{Divides-test, one-Divides-test}
use Rattle.isl_piece.proofs.row.is_multiple.Goals as goal

pub returns-then-eq : goal.returns-then-eq
returns-then-eq c = one-Divides-test c.args.k c.args.number true (grind arith) refl

pub returns : goal.returns
returns c = Divides-test c.args.k c.args.number c.modulo.result c.is_zero.result c.requires.modulus c.modulo.ensures.value c.is_zero.ensures
