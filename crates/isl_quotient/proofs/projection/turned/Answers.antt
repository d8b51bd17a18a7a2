use Rattle.std.proofs.Common.{◌≡◌, ◌∙◌, sym, subst, arith, get_or}
use Rattle.std.specs.Prelude.{IfOk}
use Rattle.isl_piece.specs.declared.row.Row.{Row}
use Rattle.isl_piece.specs.declared.system.System.{System}
use Rattle.isl_quotient.specs.Quotient.{with_quotient}
use Rattle.isl_quotient.proofs.TurnLaws.{same_read, turned_ok}
use Rattle.isl_quotient.proofs.projection.turned.Goals as goal

pub returns-clause-turned : goal.returns-clause-turned
returns-clause-turned c =
    let s = c.args.system.now in
    let p = c.args.pair in
    let upper = c.index-rows-pair.result in
    let lower = c.index-rows-pair-2.result in
    let ua : upper ≡ get_or s.rows p.upper upper = grind arith in
    let la : lower ≡ get_or s.rows p.lower lower = grind arith in
    turned_ok c.args.meter.now s c.args.cols.now p upper lower c.with_quotient.result c.requires.well_formed c.requires.cols_in
    c.requires.undefining c.requires.pair ua la c.with_quotient.ensures

pub returns-clause-exact : goal.returns-clause-exact
returns-clause-exact c = λ d.
    let s = c.args.system.now in
    let p = c.args.pair in
    let upper = c.index-rows-pair.result in
    let lower = c.index-rows-pair-2.result in
    let ua : upper ≡ get_or s.rows p.upper upper = grind arith in
    let la : lower ≡ get_or s.rows p.lower lower = grind arith in
    let u : upper ≡ get_or s.rows p.upper d = ua ∙ same_read s.rows p.upper upper d c.requires.pair.pair.upper in
    let l : lower ≡ get_or s.rows p.lower d = la ∙ same_read s.rows p.lower lower d c.requires.pair.pair.lower in
    subst (λ (r : Row). IfOk c.with_quotient.result (λ (made : System). made ≡ with_quotient p.col (get_or s.rows p.upper d) r s)) l
    (subst (λ (r : Row). IfOk c.with_quotient.result (λ (made : System). made ≡ with_quotient p.col r lower s)) u c.with_quotient.ensures)
