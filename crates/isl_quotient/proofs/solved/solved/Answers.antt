use Rattle.std.proofs.Common.{arith}
use Rattle.isl_quotient.proofs.SolvedLaws.{given_low, solved_few, solved_left, solved_plain}
use Rattle.isl_quotient.proofs.solved.solved.Goals as goal

pub eliminate-requires-clause-col_in : goal.eliminate-requires-clause-col_in
eliminate-requires-clause-col_in c = given_low _ c.args.system.now.rows c.args.cols.now c.args.given c.requires.cols_in c.requires.given

pub returns-clause-left : goal.returns-clause-left
returns-clause-left c =
    let g = c.args.meter.now in
    let s = c.args.system.now in
    let cols = c.args.cols.now in
    let given = c.args.given in
    let e = c.in_ok-systems.ensures in
    let systems = c.in_ok-systems.systems.items in
    let few =
    solved_few g s cols given c.requires.well_formed c.requires.cols_in c.requires.undefining c.requires.given systems e.solved_column in
    solved_left g s cols given c.requires.well_formed c.requires.cols_in c.requires.undefining c.requires.given systems c.pop.new.self.items
    c.pop.result
    few c.pop.ensures.items (λ none. let e = rw none at c.pop.ensures.cases in let z = e.0 in omega (arith, z)) e.projection e.within
    e.definitions

pub returns-clause-plain : goal.returns-clause-plain
returns-clause-plain c =
    let e = c.in_ok-systems.ensures in
    solved_plain c.args.meter.now c.args.system.now c.args.cols.now c.args.given c.requires.well_formed c.requires.cols_in
    c.requires.undefining
    c.requires.given c.in_ok-systems.systems.items c.pop.new.self.items c.pop.result c.pop.ensures.items e.definitions
