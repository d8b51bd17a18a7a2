use Rattle.std.proofs.Common.{◌≡◌, ◌∷◌, ◌++◌, [], arith}
use Rattle.isl_meter.specs.Gauge.{IsWithin}
use Rattle.isl_elim.specs.Opened.{least_row, most_row}
use Rattle.isl_elim.proofs.OpenedLaws.{definition_proper, two_pushed}
use Rattle.isl_quotient.proofs.opened.push_definition.Goals as goal

pub returns : goal.returns
returns c =
    let g = c.args.meter.now in
    let d = c.args.definition.now in
    let rows = c.args.rows.now in
    let least = least_row c.args.columns d in
    let most = most_row c.args.columns d in
    let first : c.push.new.self ≡ rows ++ c.in_ok-least.least ∷ [] = grind arith in
    let second : c.push-2.new.self ≡ c.push.new.self ++ c.in_ok-most.most ∷ [] = grind arith in
    let same : c.in_ok-least.least ≡ least = grind arith in
    let other : c.in_ok-most.most ≡ most = grind arith in
    let within : IsWithin g c.in_ok-most.most.constant = grind arith in
    let kept : c.most_row.new.meter ≡ g = grind arith in
    let all = two_pushed rows c.push.new.self c.push-2.new.self c.in_ok-least.least c.in_ok-most.most least most first second same other in
    let proper = definition_proper g c.args.columns d rows c.requires.definition c.requires.column (rw other at within) c.requires.rows in
    ((all, rw all proper), kept)
