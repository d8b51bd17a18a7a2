use Rattle.std.proofs.Common.{◌≡◌, ◌<◌, None, Some, arith}
use Rattle.isl_meter.specs.Gauge.{IsCharged}
use Rattle.isl_elim.proofs.EmptinessLaws.{shadow_after, shadow_fewer, shadow_missing, shadow_found, found_few, found_none}
use Rattle.isl_elim.proofs.FewerLaws.{proper_fewer}
use Rattle.isl_elim.proofs.emptiness.+shadows.Goals as goal

pub returns-in_default : goal.returns-in_default
returns-in_default t c =
    let g = c.args.meter.now in
    let same : c.in_ok-copy.field-0 ≡ c.args.rows.now = grind arith in
    let none : c.in_ok-few.field-0 ≡ None = grind arith in
    let nowhere = found_none c.args.columns c.args.rows.now c.in_ok-few.field-0 none (rw same at c.in_ok-few.ensures) in
    record { exact = ((λ _. nowhere), grind arith) }

pub returns-in-None : goal.returns-in-None
returns-in-None t c =
    let g = c.args.meter.now in
    let columns = c.args.columns in
    let col = c.any_column-col.result in
    let rows = c.args.rows.now in
    let few = c.in-Some.few in
    let inside : col < columns = grind arith in
    let slice : c.as_slice-3.result.now ≡ few = grind arith in
    let charged : IsCharged g c.real_shadow.new.meter = grind arith in
    let none : c.in_ok-real_shadow.field-0 ≡ None = grind arith in
    let less = found_few columns rows few c.in_ok-few.field-0 (grind arith) (grind arith) in
    let nowhere = shadow_missing g columns col few c.as_slice-3.result.now c.in_ok-real_shadow.field-0 inside slice none c.in_ok-real_shadow.ensures.implied in
    record { exact = ((λ _ point l x. nowhere point l ((less.points point).1 x)), charged) }

pub returns : goal.returns
returns t c =
    let g = c.args.meter.now in
    let h = c.real_shadow.new.meter in
    let columns = c.args.columns in
    let col = c.any_column-col.result in
    let rows = c.args.rows.now in
    let few = c.in-Some.few in
    let shadow = c.in-Some-2.shadow in
    let inside : col < columns = grind arith in
    let slice : c.as_slice-3.result.now ≡ few = grind arith in
    let charged : IsCharged g h = grind arith in
    let some : c.in_ok-real_shadow.field-0 ≡ Some shadow = grind arith in
    let less = found_few columns rows few c.in_ok-few.field-0 (grind arith) (grind arith) in
    let implied = shadow_found g columns col few c.as_slice-3.result.now shadow c.in_ok-real_shadow.field-0 slice some c.in_ok-real_shadow.ensures.implied in
    let answer = shadow_after g h c.shadows_hold_nowhere.new.meter columns col few shadow c.shadows_hold_nowhere.result inside implied charged
    c.shadows_hold_nowhere.ensures.exact in
    record { exact = shadow_fewer g h c.shadows_hold_nowhere.new.meter columns rows few c.shadows_hold_nowhere.result less answer }

pub real_shadow-requires : goal.real_shadow-requires
real_shadow-requires t c =
    let g = c.args.meter.now in
    let columns = c.args.columns in
    let rows = c.args.rows.now in
    let few = c.in-Some.few in
    let slice : c.as_slice-3.result.now ≡ few = grind arith in
    let less = found_few columns rows few c.in_ok-few.field-0 (grind arith) (grind arith) in
    let proper = proper_fewer g columns rows few less c.requires.rows in
    record { rows = rw slice proper }
