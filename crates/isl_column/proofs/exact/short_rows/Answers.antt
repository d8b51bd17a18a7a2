use Rattle.std.proofs.Common.{◌≡◌, ◌≢◌, ◌∙◌, ◌*◌, [], List, ap, arith, length, map, sym}
use Rattle.std.proofs.lemmas.List.{length-map}
use Rattle.std.proofs.lemmas.Result.{err_from_is_err_and}
use Rattle.std.proofs.lemmas.List.Elements.{All-filter}
use Rattle.isl_meter.specs.declared.Cut.TheVariants.{Overflow}
use Rattle.isl_omega.specs.Magnitude.{IsRowUpToAt}
use Rattle.isl_piece.specs.declared.row.Row.{Row}
use Rattle.isl_shadows.specs.Exact.{AreAdded, pairs_on, real_rows}
use Rattle.isl_omega.specs.Units.{paid}
use Rattle.isl_omega.specs.Sides.{is_same, on_side, side_of}
use Rattle.isl_omega.specs.declared.sides.Side.TheVariants.{Lower, Upper, Free}
use Rattle.isl_shadows.proofs.ExactLemmas.{added_more, uppers_are}
use Rattle.isl_omega.proofs.ExactUnits.{answered_ok}
use Rattle.isl_shadows.proofs.TameLemmas.{answered_cut_same}
use Rattle.isl_column.proofs.exact.short_rows.Goals as goal

pub returns-clause-exact : goal.returns-clause-exact
returns-clause-exact c =
    let g = c.args.meter.now in
    let col = c.args.column.at in
    let rows = c.args.rows.now in
    let free = on_side Free col rows in
    let real = real_rows col (on_side Lower col rows) (on_side Upper col rows) in
    let none : c.in_ok-short.short ≡ [] = grind arith in
    let first : AreAdded g col free c.in_ok-short.short c.push_free.new.short = grind arith in
    let refs = c.as_slice.result.now in
    let are : map (λ row. row.now) refs ≡ on_side Upper col rows = grind arith in
    let count : length refs ≡ length (on_side Upper col rows) = sym (length-map refs (λ row. row.now)) ∙ ap (λ (xs : List Row). length xs) are in
    let pairs : AreAdded g col (real_rows col (on_side Lower col rows) (map (λ row. row.now) refs)) c.push_free.new.short c.push_pairs.new.short = grind arith in
    let second : AreAdded g col real c.push_free.new.short c.push_pairs.new.short = rw are at pairs in
    let used : c.push_pairs.new.meter ≡ paid (length (on_side Lower col rows) * length refs) g = grind arith in
    (rw none at (added_more g col free real c.in_ok-short.short c.push_free.new.short c.push_pairs.new.short first second), rw count at used)

pub push_pairs-requires-clause-uppers : goal.push_pairs-requires-clause-uppers
push_pairs-requires-clause-uppers c =
    let g = c.args.meter.now in
    let col = c.args.column.at in
    let rows = c.args.rows.now in
    let refs = c.as_slice.result.now in
    let are : map (λ row. row.now) refs ≡ on_side Upper col rows = grind arith in
    rw are (uppers_are g c.args.column.columns col rows c.requires.rows)

pub returns-in_err-push_pairs-clause-no_overflow : goal.returns-in_err-push_pairs-clause-no_overflow
returns-in_err-push_pairs-clause-no_overflow c = λ u w all room.
    let col = c.args.column.at in
    let rows = c.args.rows.now in
    let refs = c.as_slice.result.now in
    let are : map (λ row. row.now) refs ≡ on_side Upper col rows = grind arith in
    let fact : c.in_err-push_pairs.field-0.0 ≢ Overflow =
    c.in_err-push_pairs.ensures.no_overflow u w all (rw are (All-filter (λ (r : Row). is_same Upper (side_of col r)) (IsRowUpToAt col u w) rows all)) room in
    grind arith

pub returns-in_err-push_pairs-clause-answered : goal.returns-in_err-push_pairs-clause-answered
returns-in_err-push_pairs-clause-answered c =
    let g = c.args.meter.now in
    let k = c.push_pairs.new.meter in
    let col = c.args.column.at in
    let rows = c.args.rows.now in
    let refs = c.as_slice.result.now in
    let are : map (λ row. row.now) refs ≡ on_side Upper col rows = grind arith in
    let count : length refs ≡ length (on_side Upper col rows) = sym (length-map refs (λ row. row.now)) ∙ ap (λ (xs : List Row). length xs) are in
    let p = err_from_is_err_and c.from_residual-in_err-push_pairs.result c.from_residual-in_err-push_pairs.ensures.1 in
    let own = rw count at c.in_err-push_pairs.ensures.answered in
    rw (p.1, p.2) (λ few. answered_cut_same (pairs_on col rows) g k c.in_err-push_pairs.field-0.0 (own few))

pub returns-clause-answered : goal.returns-clause-answered
returns-clause-answered c = λ few.
    let g = c.args.meter.now in
    let k = c.push_pairs.new.meter in
    let col = c.args.column.at in
    let rows = c.args.rows.now in
    let refs = c.as_slice.result.now in
    let are : map (λ row. row.now) refs ≡ on_side Upper col rows = grind arith in
    let count : length refs ≡ length (on_side Upper col rows) = sym (length-map refs (λ row. row.now)) ∙ ap (λ (xs : List Row). length xs) are in
    let used : k ≡ paid (length (on_side Lower col rows) * length refs) g = grind arith in
    answered_ok (pairs_on col rows) g k _ (rw count at used)
