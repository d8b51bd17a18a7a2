use Rattle.std.proofs.Common.{◌≡◌, ◌<ℤ◌, ◌∙◌, pos, sym, subst, arith}
use Rattle.std.specs.List.{remove}
use Rattle.isl_piece.specs.declared.row.Row.{Row}
use Rattle.isl_piece.specs.declared.row.RowKind.TheVariants.{AtLeast}
use Rattle.isl_piece.specs.Row.{HoldsRow, IsWellFormed}
use Rattle.isl_redundant.proofs.KeptLaws.{get_or_any}
use Rattle.isl_redundant.proofs.SumLaws.{implied_by}
use Rattle.isl_redundant.proofs.certificate.is_implied_by.Goals as goal

pub returns : goal.returns
returns c = λ r t point h.
    let rows = c.args.rows.now in
    let at = c.args.at in
    let row = c.index-rows-at.result in
    let inside = c.requires.inside in
    let is = c.index-rows-at.is in
    let formed = subst (λ (x : Row). IsWellFormed c.args.columns x) (sym is) (c.requires.well_formed at row inside) in
    let kind : row.kind ≡ AtLeast = grind arith in
    let low : c.new-own.result <ℤ pos 0 = grind arith in
    let sum = rw c.in-Some.is at c.in_ok-sum.ensures in
    let made = rw c.in-Some-2.is at c.in_ok-rest.ensures in
    let most = c.is_at_most_zero.ensures (grind arith) in
    let holds = implied_by c.args.columns (remove rows at) c.in-Some.sum row c.in-Some-2.rest c.new-own.result sum formed.width kind low made.0 most.0 most.1 point h in
    subst (λ (x : Row). HoldsRow x point) (is ∙ get_or_any rows at row r inside) holds
