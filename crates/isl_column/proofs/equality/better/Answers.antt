use Rattle.std.proofs.Common.{◌≡◌, ◌≤ℤ◌, ◌<ℤ◌, get_or, IfSome, arith}
use Rattle.isl_math.proofs.Ring.{linear}
use Rattle.isl_piece.specs.declared.row.Row.{Row}
use Rattle.isl_shadows.specs.Solved.{size_at, IsEquality, IsLeastAmong}
use Rattle.isl_shadows.proofs.LeastEquality.{found_not, found_kept, found_new, new_none, new_some}
use Rattle.isl_column.proofs.equality.better.Goals as goal
use Rattle.isl_column.proofs.equality.better.Goals.{in_default-via-in-None-1, in_default-via-in-Some+else-le}

pub returns-then-not-is_equality : goal.returns-then-not-is_equality
returns-then-not-is_equality c =
    let row = c.index-rows-at.result in
    let none : ¬ IsEquality c.args.column.at row = grind arith in
    found_not c.args.column.at c.args.rows.now c.args.at row c.args.found c.requires.at_in c.index-rows-at.is none c.requires.found

pub returns : goal.returns
returns c =
    let row = c.index-rows-at.result in
    let old = c.index-rows-old.result in
    let least : IsLeastAmong c.args.column.at c.args.rows.now c.args.at c.in-Some.old = grind arith in
    let le : c.abs.result ≤ℤ c.abs-2.result = grind (arith, linear) in
    let first : c.abs.result ≡ size_at c.args.column.at old = grind arith in
    let second : c.abs-2.result ≡ size_at c.args.column.at row = grind arith in
    found_kept c.args.column.at c.args.rows.now c.args.at c.in-Some.old row old c.requires.at_in c.index-rows-at.is c.index-rows-old.is (rw (first, second) at le) least

pub returns-2 : goal.returns-2
returns-2 c =
    let row = c.index-rows-at.result in
    let equality : IsEquality c.args.column.at row = grind arith in
    let less : IfSome c.args.found (λ at. (s : Row) → s ≡ get_or c.args.rows.now at s → size_at c.args.column.at row <ℤ size_at c.args.column.at s) = elim c.in_default.branch [
      | in_default-via-in-None-1 w ↦ new_none c.args.column.at c.args.rows.now row c.args.found (grind arith)
      | in_default-via-in-Some+else-le w ↦
          let old = w.index-rows-old.result in
          let least : IsLeastAmong c.args.column.at c.args.rows.now c.args.at w.in-Some.old = grind arith in
          let lt : w.abs-2.result <ℤ w.abs.result = grind (arith, linear) in
          let first : w.abs.result ≡ size_at c.args.column.at old = grind arith in
          let second : w.abs-2.result ≡ size_at c.args.column.at row = grind arith in
          new_some c.args.column.at c.args.rows.now row old w.in-Some.old c.args.found w.in-Some.is w.index-rows-old.is least.place (rw (first, second) at lt)
    ] in
    found_new c.args.column.at c.args.rows.now c.args.at row c.args.found c.requires.at_in c.index-rows-at.is equality c.requires.found less
