use Rattle.std.proofs.Common.{◌≡◌, ◌∙◌, sym, subst, arith, ◌<◌, length, get_or}
use Rattle.std.proofs.lemmas.Grind.{common_steps}
use Rattle.isl_piece.specs.declared.row.Row.{Row}
use Rattle.isl_piece.specs.declared.row.RowKind.TheVariants.{Zero}
use Rattle.isl_piece.specs.Row.{IsRowWithin}
use Rattle.isl_remainder.proofs.SolvedLaws.{alike_put, equation_kept, width_at}
use Rattle.isl_remainder.proofs.equations.put_into_others.Goals as goal

pub get-requires : goal.get-requires
get-requires c =
    let made = c.loop-into.made in
    let row = c.index-slice-into.result in
    let inside : c.loop-into.into < length made = grind (arith, common_steps) in
    let is : row ≡ get_or made c.loop-into.into row = rw c.as_slice-slice.ensures at c.index-slice-into.is in
    let wide = width_at c.args.meter.now c.args.rows made c.requires.formed.0 c.loop-into.invariant.alike c.requires.formed.1
    c.loop-into.into row inside is in
    let col = c.requires.formed.2 in
    subst (λ (r : Row). c.args.col < length r.coefs) c.index-slice-into.is (omega (arith, wide, col))

pub put_into-requires-clause-width : goal.put_into-requires-clause-width
put_into-requires-clause-width c =
    let g = c.args.meter.now in
    let made = c.loop-into.made in
    let alike = c.loop-into.invariant.alike in
    let row = c.index-slice-into-in-loop-into.result in
    let equation = c.index-slice-at.result in
    let inside : c.loop-into.into < length made = grind (arith, common_steps) in
    let count = alike.count in
    let low = c.requires.inside in
    let at_inside : c.args.at < length made = omega (arith, count, low) in
    width_at g c.args.rows made c.requires.formed.0 alike c.requires.formed.1 c.loop-into.into row inside
    (rw c.as_slice-slice.ensures at c.index-slice-into-in-loop-into.is)
    ∙ sym (width_at g c.args.rows made c.requires.formed.0 alike c.requires.formed.1 c.args.at equation at_inside
    (rw c.as_slice-slice.ensures at c.index-slice-at.is))

pub loop-into-preserved : goal.loop-into-preserved
loop-into-preserved c =
    let g = c.args.meter.now in
    let rows = c.args.rows in
    let made = c.loop-into.made in
    let at = c.args.at in
    let into = c.loop-into.into in
    let so_far = c.loop-into.invariant in
    let alike = so_far.alike in
    let row = c.index-slice-into-in-loop-into.result in
    let equation = c.index-slice-at.result in
    let new = c.in_ok-row.row in
    let inside : into < length made = grind (arith, common_steps) in
    let count = alike.count in
    let low = c.requires.inside in
    let at_inside : at < length made = omega (arith, count, low) in
    let apart : ¬ into ≡ at = grind (arith, common_steps) in
    let row_is : row ≡ get_or made into row = rw c.as_slice-slice.ensures at c.index-slice-into-in-loop-into.is in
    let is : equation ≡ get_or made at equation = rw c.as_slice-slice.ensures at c.index-slice-at.is in
    let kind : equation.kind ≡ Zero = rw (← (is ∙ so_far.equation equation)) at (c.requires.equation equation) in
    let wide = width_at g rows made c.requires.formed.0 alike c.requires.formed.1 into row inside row_is
    ∙ sym (width_at g rows made c.requires.formed.0 alike c.requires.formed.1 at equation at_inside is) in
    let told = c.in_ok-row.ensures in
    let n = told.0.0.0 in
    let within : IsRowWithin g new = rw so_far.meter at told.0.1 in
    record {
      alike = rw c.replace.ensures (alike_put g rows made at into n equation row new alike at_inside inside apart is row_is kind told.0.0.1
          within wide);
      equation = λ d. rw c.replace.ensures (equation_kept g rows made at into n equation row new alike at_inside inside apart is row_is
          kind told.0.0.1 within d ∙ so_far.equation d);
      meter = told.1 ∙ so_far.meter;
    }
