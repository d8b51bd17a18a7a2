use Rattle.std.proofs.Common.{arith}
use Rattle.isl_math.specs.Divide.{floor_div}
use Rattle.isl_piece.specs.declared.row.RowKind.TheVariants.{Divides}
use Rattle.isl_piece.specs.Numbers.{divided}
use Rattle.isl_piece.proofs.NormalSteps.{divides_never, divides_always, divides_kept, lesser_congruence}
use Rattle.isl_piece.proofs.reduction.settle_divides.Goals as goal

pub returns-then-not-is_multiple-clause-divides : goal.returns-then-not-is_multiple-clause-divides
returns-then-not-is_multiple-clause-divides c =
    divides_never c.args.row.now.coefs c.args.row.now.constant c.args.row.now.k c.reduce.new.row.coefs c.reduce.new.row.constant c.content_with-g.result
    c.requires.modulus (grind arith) (grind arith) (grind arith) (grind arith)

pub returns-then-eq-clause-divides : goal.returns-then-eq-clause-divides
returns-then-eq-clause-divides c =
    divides_always c.args.row.now.coefs c.args.row.now.constant c.args.row.now.k c.reduce.new.row.coefs c.reduce.new.row.constant c.content_with-g.result c.floor_div-quotient.result
    c.requires.modulus (grind arith) (grind arith) (grind arith) (grind arith) (grind arith) (grind arith)

pub returns-clause-divides : goal.returns-clause-divides
returns-clause-divides c =
    let cs = c.reduce.new.row.coefs in
    let r = c.reduce.new.row.constant in
    let g = c.content_with-g.result in
    let q = c.floor_div-quotient.result in
    divides_kept c.args.row.now.coefs c.args.row.now.constant c.args.row.now.k cs r g q (record c.take_lesser.new.row { kind = Divides })
    c.requires.modulus (grind arith) (grind arith) (grind arith) (grind arith) (grind arith) (grind arith)
    (lesser_congruence c.take_lesser.new.row c.set_modulus.new.self (divided g cs) (floor_div r g) q c.take_lesser.ensures (grind arith) (grind arith) (grind arith))
