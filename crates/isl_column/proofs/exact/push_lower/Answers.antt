use Rattle.std.proofs.Common.{◌≡◌, ◌*◌, ◌∷◌, [], true, length, subst, sym, arith}
use Rattle.isl_omega.specs.Sides.{is_same, on_side, side_of}
use Rattle.isl_omega.specs.Units.{IsAnsweredFor}
use Rattle.isl_omega.specs.declared.sides.Side.TheVariants.{Lower}
use Rattle.isl_column.proofs.exact.push_lower.Goals as goal

pub returns-clause-no_overflow : goal.returns-clause-no_overflow
returns-clause-no_overflow c = λ u w row uppers room. c.push_pairs_of.ensures.no_overflow u w row uppers room

pub returns-clause-answered : goal.returns-clause-answered
returns-clause-answered c =
    let row = c.args.row.now in
    let each = length c.args.uppers.now in
    let lower : is_same Lower (side_of c.args.column.at row) ≡ true = grind arith in
    let one : length (on_side Lower c.args.column.at (row ∷ [])) * each ≡ each = rw lower (omega arith) in
    subst (λ n. IsAnsweredFor n c.args.meter.now c.push_pairs_of.new.meter c.push_pairs_of.result) (sym one) c.push_pairs_of.ensures.answered
