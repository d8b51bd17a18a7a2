use Rattle.std.proofs.Common.{◌≡◌, ◌∙◌, ◌+◌, ◌++◌, ◌∷◌, [], ◌<◌, ◌≤◌, sym, ap, subst, arith, ℤ, pos, List, length, get_or, take}
use Rattle.std.specs.List.{All}
use Rattle.std.proofs.lemmas.Bool.Decides.{nat_tests}
use Rattle.std.proofs.lemmas.Grind.{common_steps}
use Rattle.std.proofs.lemmas.List.{get_or_read}
use Rattle.std.proofs.lemmas.List.Elements.{All-nil}
use Rattle.isl_meter.specs.Gauge.{IsWithin}
use Rattle.isl_piece.specs.declared.row.Row.{Row}
use Rattle.isl_piece.specs.Row.{IsRowWithin}
use Rattle.isl_pip_law.specs.Mirror.{mirrored}
use Rattle.isl_pip.proofs.MirrorSteps.{coefs_all, coefs_more, row_mirrored}
use Rattle.isl_pip.proofs.mirror.mirrored_row.Goals as goal

pub loop-column-init : goal.loop-column-init
loop-column-init c =
    (c.new-coefs.ensures, subst (All (IsWithin c.args.meter.now)) (sym c.new-coefs.ensures) (All-nil (IsWithin c.args.meter.now)))

pub signed-number-requires : goal.signed-number-requires
signed-number-requires c =
    let g = c.args.meter.now in
    let numbers = c.as_slice-numbers.result.now in
    let i = c.loop-column.column in
    let low : i < length numbers = grind (arith, common_steps) in
    let all = subst (All (IsWithin g)) (sym c.as_slice-numbers.ensures) c.requires.coefs in
    let read = get_or_read numbers i c.index-numbers-column.result low c.index-numbers-column.is (pos 0) in
    subst (IsWithin g) (sym read) (all i (pos 0) low)

pub loop-column-preserved : goal.loop-column-preserved
loop-column-preserved c =
    let g = c.args.meter.now in
    let numbers = c.as_slice-numbers.result.now in
    let i = c.loop-column.column in
    let low : i < length numbers = grind (arith, common_steps) in
    let read = get_or_read numbers i c.index-numbers-column.result low c.index-numbers-column.is (pos 0) in
    coefs_more g c.args.front numbers i c.loop-column.coefs c.push.new.self c.index-numbers-column.result c.signed-number.result _ low read
    (λ yes. grind (arith, nat_tests, yes)) (λ no'. grind (arith, nat_tests, no')) c.signed-number.ensures.value c.signed-number.ensures.within
    c.in_ok-push.ensures.ok c.loop-column.invariant

pub returns-clause-exact : goal.returns-clause-exact
returns-clause-exact c =
    let row = c.args.row.now in
    let numbers = c.as_slice-numbers.result.now in
    let slice = c.as_slice-numbers.ensures in
    let end : length numbers ≤ c.loop-column.column = grind (arith, common_steps) in
    let coefs = coefs_all c.args.front numbers c.loop-column.coefs c.loop-column.column end c.loop-column.invariant.0
    ∙ ap (mirrored c.args.front) slice in
    row_mirrored c.args.front row c.new.result c.loop-column.coefs coefs
    (c.new.ensures ∙ ap (λ z. let q : Row = record { kind = row.kind; coefs = c.loop-column.coefs; constant = z; k = c.modulus.result } in q) c.constant.ensures
    ∙ ap (λ z. let q : Row = record { kind = row.kind; coefs = c.loop-column.coefs; constant = row.constant; k = z } in q) c.modulus.ensures)

pub returns-clause-within : goal.returns-clause-within
returns-clause-within c =
    let g = c.args.meter.now in
    subst (IsRowWithin g) (sym c.new.ensures) (record {
      coefs = c.loop-column.invariant.1;
      constant = subst (IsWithin g) (sym c.constant.ensures) c.requires.constant;
      k = subst (IsWithin g) (sym c.modulus.ensures) c.requires.k;
    })
