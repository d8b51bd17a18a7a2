use Rattle.std.proofs.Common.{◌≡◌, ◌+◌, ◌-◌, ◌<◌, ◌^◌, ℕ, suc, sym, ap, subst, arith}
use Rattle.std.proofs.lemmas.Grind.{common_steps}
use Rattle.isl_loop.specs.Printable.{IsPrintable}
use Rattle.isl_nest.specs.declared.nested.Nested.{Nested}
use Rattle.isl_nest.specs.declared.place.Place.{Place}
use Rattle.isl_nest.specs.Around.{IsAround, IsAroundNothing}
use Rattle.isl_nest.specs.Changing.{AsksWhatChanges}
use Rattle.isl_nest.specs.Covered.{view_of}
use Rattle.isl_nest.specs.Nest.{IsNest, IsNestOver, IsNowhere}
use Rattle.isl_nest.specs.Told.{IsTold, IsUntold}
use Rattle.isl_nest.proofs.AroundLaws.{charged_bits}
use Rattle.isl_nest.proofs.LevelLaws.{behind_over, level_is, looped_level, nest_same, told_level}
use Rattle.isl_nest.proofs.MadeLaws.{fixed_nest, fixed_nowhere, looped_nest, looped_nowhere, nothing_nowhere, untold_nowhere}
use Rattle.isl_nest.proofs.loops.+nest.Goals as goal

pub told_by-requires-clause-room : goal.told_by-requires-clause-room
told_by-requires-clause-room t c =
    let g = c.args.meter.now in
    let item = c.args.item.now in
    let place = c.args.place.now in
    let own = c.in_ok-own.own in
    let systems = c.as_slice-systems.result.now in
    let some : 0 < c.args.left = grind (arith, common_steps) in
    let level = level_is g item c.requires.item place c.args.left c.requires.whole c.requires.low some c.len-columns.result
    c.len-columns.ensures own c.in_ok-own.ensures c.index.result.now systems c.as_slice-systems.ensures c.index.ensures in
    level.room

pub told_by-requires-clause-own : goal.told_by-requires-clause-own
told_by-requires-clause-own t c =
    let g = c.args.meter.now in
    let item = c.args.item.now in
    let place = c.args.place.now in
    let own = c.in_ok-own.own in
    let systems = c.as_slice-systems.result.now in
    let some : 0 < c.args.left = grind (arith, common_steps) in
    let level = level_is g item c.requires.item place c.args.left c.requires.whole c.requires.low some c.len-columns.result
    c.len-columns.ensures own c.in_ok-own.ensures c.index.result.now systems c.as_slice-systems.ensures c.index.ensures in
    level.over

pub told_by-requires-clause-systems : goal.told_by-requires-clause-systems
told_by-requires-clause-systems t c =
    let g = c.args.meter.now in
    let item = c.args.item.now in
    let place = c.args.place.now in
    let own = c.in_ok-own.own in
    let systems = c.as_slice-systems.result.now in
    let some : 0 < c.args.left = grind (arith, common_steps) in
    let level = level_is g item c.requires.item place c.args.left c.requires.whole c.requires.low some c.len-columns.result
    c.len-columns.ensures own c.in_ok-own.ensures c.index.result.now systems c.as_slice-systems.ensures c.index.ensures in
    level.cover.over

pub of-requires-clause-own : goal.of-requires-clause-own
of-requires-clause-own t c =
    let g = c.args.meter.now in
    let item = c.args.item.now in
    let place = c.args.place.now in
    let own = c.in_ok-own.own in
    let systems = c.as_slice-systems.result.now in
    let some : 0 < c.args.left = grind (arith, common_steps) in
    let level = level_is g item c.requires.item place c.args.left c.requires.whole c.requires.low some c.len-columns.result
    c.len-columns.ensures own c.in_ok-own.ensures c.index.result.now systems c.as_slice-systems.ensures c.index.ensures in
    level.over

pub returns-in_default-2-clause-nest : goal.returns-in_default-2-clause-nest
returns-in_default-2-clause-nest t c =
    let g = c.args.meter.now in
    let item = c.args.item.now in
    let place = c.args.place.now in
    let own = c.in_ok-own.own in
    let systems = c.as_slice-systems.result.now in
    let some : 0 < c.args.left = grind (arith, common_steps) in
    let level = level_is g item c.requires.item place c.args.left c.requires.whole c.requires.low some c.len-columns.result
    c.len-columns.ensures own c.in_ok-own.ensures c.index.result.now systems c.as_slice-systems.ensures c.index.ensures in
    let equality = c.in-Some.equality in
    let found = rw c.in-Some.is at c.in_ok-equality.ensures.equality in
    let none : IsUntold place equality own = rw c.in_default-2.is at c.in_ok-told.ensures.told in
    untold_nowhere g (view_of item) place c.requires.place level.room own level.naming systems level.cover equality found.1 none

pub nest-requires : goal.nest-requires
nest-requires t c =
    let g = c.args.meter.now in
    let item = c.args.item.now in
    let place = c.args.place.now in
    let own = c.in_ok-own.own in
    let systems = c.as_slice-systems.result.now in
    let some : 0 < c.args.left = grind (arith, common_steps) in
    let level = level_is g item c.requires.item place c.args.left c.requires.whole c.requires.low some c.len-columns.result
    c.len-columns.ensures own c.in_ok-own.ensures c.index.result.now systems c.as_slice-systems.ensures c.index.ensures in
    let equality = c.in-Some.equality in
    let found = rw c.in-Some.is at c.in_ok-equality.ensures.equality in
    let told = c.in-Some-2.told in
    let tells : IsTold g place equality own told = rw c.in-Some-2.is at c.in_ok-told.ensures.told in (
      omega (arith, some),
      told_level g item c.requires.item place c.args.left c.requires.whole c.requires.low some c.requires.place c.of.new.meter
          c.in_ok-told.ensures.meter equality own told tells c.in_ok-inner.inner c.in_ok-inner.ensures,
    )

pub returns-in_default-3-clause-nest : goal.returns-in_default-3-clause-nest
returns-in_default-3-clause-nest t c =
    let g = c.args.meter.now in
    let item = c.args.item.now in
    let place = c.args.place.now in
    let own = c.in_ok-own.own in
    let systems = c.as_slice-systems.result.now in
    let some : 0 < c.args.left = grind (arith, common_steps) in
    let level = level_is g item c.requires.item place c.args.left c.requires.whole c.requires.low some c.len-columns.result
    c.len-columns.ensures own c.in_ok-own.ensures c.index.result.now systems c.as_slice-systems.ensures c.index.ensures in
    let equality = c.in-Some.equality in
    let found = rw c.in-Some.is at c.in_ok-equality.ensures.equality in
    let may = rw c.in-Some.is at c.in_ok-equality.ensures.may in
    let told = c.in-Some-2.told in
    let tells : IsTold g place equality own told = rw c.in-Some-2.is at c.in_ok-told.ensures.told in
    let inner = c.in_ok-inner.inner in
    let none : IsNowhere (view_of item) inner = rw c.in_default-3.is at c.in_ok-nested.ensures.nest in
    fixed_nowhere g (view_of item) place c.requires.place level.room own level.naming systems level.cover
    equality found.1 told tells may (subst (λ (p : Place). IsNowhere (view_of item) p) c.in_ok-inner.ensures none)

pub returns-in-Some-clause-nest : goal.returns-in-Some-clause-nest
returns-in-Some-clause-nest t c =
    let g = c.args.meter.now in
    let item = c.args.item.now in
    let place = c.args.place.now in
    let own = c.in_ok-own.own in
    let systems = c.as_slice-systems.result.now in
    let some : 0 < c.args.left = grind (arith, common_steps) in
    let level = level_is g item c.requires.item place c.args.left c.requires.whole c.requires.low some c.len-columns.result
    c.len-columns.ensures own c.in_ok-own.ensures c.index.result.now systems c.as_slice-systems.ensures c.index.ensures in
    let equality = c.in-Some.equality in
    let found = rw c.in-Some.is at c.in_ok-equality.ensures.equality in
    let may = rw c.in-Some.is at c.in_ok-equality.ensures.may in
    let told = c.in-Some-2.told in
    let tells : IsTold g place equality own told = rw c.in-Some-2.is at c.in_ok-told.ensures.told in
    let inner = c.in_ok-inner.inner in
    let nested = c.in-Some-3.nested in
    let made = c.in_ok-behind.field-0 in
    let below : IsNest (view_of item) (c.args.left - 1) inner nested = rw c.in-Some-3.is at c.in_ok-nested.ensures.nest in
    let more : suc (c.args.left - 1) ≡ c.args.left = omega (arith, some) in
    subst (λ n. IsNest (view_of item) n place made) more
    (fixed_nest g (view_of item) place c.requires.place level.room own level.naming systems level.cover
    equality found.1 told tells may (c.args.left - 1) nested made
    (subst (λ (p : Place). IsNest (view_of item) (c.args.left - 1) p nested) c.in_ok-inner.ensures below) c.in_ok-behind.ensures)

pub returns-in-Some-clause-over : goal.returns-in-Some-clause-over
returns-in-Some-clause-over t c =
    let g = c.args.meter.now in
    let h = c.of.new.meter in
    let place = c.args.place.now in
    let inner = c.in_ok-inner.inner in
    let told = c.in-Some-2.told in
    let tells : IsTold g place c.in-Some.equality c.in_ok-own.own told = rw c.in-Some-2.is at c.in_ok-told.ensures.told in
    let nested = c.in-Some-3.nested in
    let below : IsNestOver h inner.variables nested = rw c.in-Some-3.is at c.in_ok-nested.ensures.over in
    behind_over g place.variables told.rows nested c.in_ok-behind.field-0 c.in_ok-behind.ensures tells.guards
    (nest_same h g inner.variables place.variables nested (sym (charged_bits g h c.in_ok-told.ensures.meter))
    (sym (ap (λ (p : Place). p.variables) c.in_ok-inner.ensures)) below)

pub of-requires-2-clause-own : goal.of-requires-2-clause-own
of-requires-2-clause-own t c =
    let g = c.args.meter.now in
    let item = c.args.item.now in
    let place = c.args.place.now in
    let own = c.in_ok-own.own in
    let systems = c.as_slice-systems.result.now in
    let some : 0 < c.args.left = grind (arith, common_steps) in
    let level = level_is g item c.requires.item place c.args.left c.requires.whole c.requires.low some c.len-columns.result
    c.len-columns.ensures own c.in_ok-own.ensures c.index.result.now systems c.as_slice-systems.ensures c.index.ensures in
    level.over

pub of-requires-2-clause-systems : goal.of-requires-2-clause-systems
of-requires-2-clause-systems t c =
    let g = c.args.meter.now in
    let item = c.args.item.now in
    let place = c.args.place.now in
    let own = c.in_ok-own.own in
    let systems = c.as_slice-systems.result.now in
    let some : 0 < c.args.left = grind (arith, common_steps) in
    let level = level_is g item c.requires.item place c.args.left c.requires.whole c.requires.low some c.len-columns.result
    c.len-columns.ensures own c.in_ok-own.ensures c.index.result.now systems c.as_slice-systems.ensures c.index.ensures in
    level.cover.over

pub of-requires-2-clause-ended : goal.of-requires-2-clause-ended
of-requires-2-clause-ended t c =
    let g = c.args.meter.now in
    let item = c.args.item.now in
    let place = c.args.place.now in
    let own = c.in_ok-own.own in
    let systems = c.as_slice-systems.result.now in
    let some : 0 < c.args.left = grind (arith, common_steps) in
    let level = level_is g item c.requires.item place c.args.left c.requires.whole c.requires.low some c.len-columns.result
    c.len-columns.ensures own c.in_ok-own.ensures c.index.result.now systems c.as_slice-systems.ensures c.index.ensures in
    level.ended

pub returns-in_default-4-clause-nest : goal.returns-in_default-4-clause-nest
returns-in_default-4-clause-nest t c =
    let g = c.args.meter.now in
    let item = c.args.item.now in
    let place = c.args.place.now in
    let own = c.in_ok-own.own in
    let systems = c.as_slice-systems.result.now in
    let some : 0 < c.args.left = grind (arith, common_steps) in
    let level = level_is g item c.requires.item place c.args.left c.requires.whole c.requires.low some c.len-columns.result
    c.len-columns.ensures own c.in_ok-own.ensures c.index.result.now systems c.as_slice-systems.ensures c.index.ensures in
    let none : IsAroundNothing place own systems = rw c.in_default-4.is at c.in_ok-around.ensures.around in
    nothing_nowhere g (view_of item) place c.requires.place level.room own level.naming systems level.cover none

pub nest-requires-2 : goal.nest-requires-2
nest-requires-2 t c =
    let g = c.args.meter.now in
    let item = c.args.item.now in
    let place = c.args.place.now in
    let own = c.in_ok-own.own in
    let systems = c.as_slice-systems.result.now in
    let some : 0 < c.args.left = grind (arith, common_steps) in
    let level = level_is g item c.requires.item place c.args.left c.requires.whole c.requires.low some c.len-columns.result
    c.len-columns.ensures own c.in_ok-own.ensures c.index.result.now systems c.as_slice-systems.ensures c.index.ensures in
    let around = c.in-Some-4.around in
    let is : IsAround g place own systems around = rw c.in-Some-4.is at c.in_ok-around.ensures.around in
    let rows = c.in_ok-joined.field-0 in
    let inner = c.in_ok-inner-2.inner in (
      omega (arith, some),
      looped_level g item c.requires.item place c.args.left c.requires.whole c.requires.low some c.requires.place c.of-2.new.meter
          c.in_ok-around.ensures.meter c.limit-limit.ensures.bits_low around is.over rows c.in_ok-joined.ensures inner c.in_ok-inner-2.ensures,
    )

pub returns-in_default-5-clause-nest : goal.returns-in_default-5-clause-nest
returns-in_default-5-clause-nest t c =
    let g = c.args.meter.now in
    let item = c.args.item.now in
    let place = c.args.place.now in
    let own = c.in_ok-own.own in
    let systems = c.as_slice-systems.result.now in
    let some : 0 < c.args.left = grind (arith, common_steps) in
    let level = level_is g item c.requires.item place c.args.left c.requires.whole c.requires.low some c.len-columns.result
    c.len-columns.ensures own c.in_ok-own.ensures c.index.result.now systems c.as_slice-systems.ensures c.index.ensures in
    let around = c.in-Some-4.around in
    let is : IsAround g place own systems around = rw c.in-Some-4.is at c.in_ok-around.ensures.around in
    let rows = c.in_ok-joined.field-0 in
    let inner = c.in_ok-inner-2.inner in
    let none : IsNowhere (view_of item) inner = rw c.in_default-5.is at c.in_ok-body.ensures.nest in
    looped_nowhere g (view_of item) place c.requires.place level.room own level.naming systems level.cover
    around is rows c.in_ok-joined.ensures (subst (λ (p : Place). IsNowhere (view_of item) p) c.in_ok-inner-2.ensures none)

pub returns-clause-nest : goal.returns-clause-nest
returns-clause-nest t c =
    let g = c.args.meter.now in
    let item = c.args.item.now in
    let place = c.args.place.now in
    let own = c.in_ok-own.own in
    let systems = c.as_slice-systems.result.now in
    let some : 0 < c.args.left = grind (arith, common_steps) in
    let level = level_is g item c.requires.item place c.args.left c.requires.whole c.requires.low some c.len-columns.result
    c.len-columns.ensures own c.in_ok-own.ensures c.index.result.now systems c.as_slice-systems.ensures c.index.ensures in
    let around = c.in-Some-4.around in
    let is : IsAround g place own systems around = rw c.in-Some-4.is at c.in_ok-around.ensures.around in
    let rows = c.in_ok-joined.field-0 in
    let inner = c.in_ok-inner-2.inner in
    let body = c.in-Some-5.body in
    let made = c.in_ok-of_loop.field-0 in
    let below : IsNest (view_of item) (c.args.left - 1) inner body = rw c.in-Some-5.is at c.in_ok-body.ensures.nest in
    let more : suc (c.args.left - 1) ≡ c.args.left = omega (arith, some) in
    subst (λ n. IsNest (view_of item) n place made) more
    (looped_nest g (view_of item) place c.requires.place level.room own level.naming systems level.cover
    around is (c.args.left - 1) rows body made c.in_ok-joined.ensures
    (subst (λ (p : Place). IsNest (view_of item) (c.args.left - 1) p body) c.in_ok-inner-2.ensures below) c.in_ok-of_loop.ensures.nested)

pub returns-clause-over : goal.returns-clause-over
returns-clause-over t c =
    let g = c.args.meter.now in
    let h = c.of-2.new.meter in
    let place = c.args.place.now in
    let inner = c.in_ok-inner-2.inner in
    let around = c.in-Some-4.around in
    let is : IsAround g place c.in_ok-own.own c.as_slice-systems.result.now around =
    rw c.in-Some-4.is at c.in_ok-around.ensures.around in
    let body = c.in-Some-5.body in
    let below : IsNestOver h inner.variables body = rw c.in-Some-5.is at c.in_ok-body.ensures.over in
    c.in_ok-of_loop.ensures.over g is.over
    (nest_same h g inner.variables (place.variables + 1) body (sym (charged_bits g h c.in_ok-around.ensures.meter))
    (sym (ap (λ (p : Place). p.variables) c.in_ok-inner-2.ensures)) below)

pub returns-in-Some-clause-changing : goal.returns-in-Some-clause-changing
returns-in-Some-clause-changing t c =
    let inner = c.in_ok-inner.inner in
    let nested = c.in-Some-3.nested in
    let below : AsksWhatChanges inner.variables nested.tree = rw c.in-Some-3.is at c.in_ok-nested.ensures.changing in
    let here : AsksWhatChanges c.args.place.now.variables nested.tree =
    subst (λ (n : ℕ). AsksWhatChanges n nested.tree) (ap (λ (p : Place). p.variables) c.in_ok-inner.ensures) below in
    subst (λ (m : Nested). AsksWhatChanges c.args.place.now.variables m.tree) (sym c.in_ok-behind.ensures) here

pub returns-clause-changing : goal.returns-clause-changing
returns-clause-changing t c =
    let inner = c.in_ok-inner-2.inner in
    let body = c.in-Some-5.body in
    let below : AsksWhatChanges inner.variables body.tree = rw c.in-Some-5.is at c.in_ok-body.ensures.changing in
    c.in_ok-of_loop.ensures.changing
    (subst (λ (n : ℕ). AsksWhatChanges n body.tree) (ap (λ (p : Place). p.variables) c.in_ok-inner-2.ensures) below)

pub returns-in-Some-clause-printable : goal.returns-in-Some-clause-printable
returns-in-Some-clause-printable t c named =
    let inner = c.in_ok-inner.inner in
    let nested = c.in-Some-3.nested in
    let below : IsPrintable inner.variables nested.tree = rw c.in-Some-3.is at (c.in_ok-nested.ensures.printable named) in
    let here : IsPrintable c.args.place.now.variables nested.tree =
    subst (λ (n : ℕ). IsPrintable n nested.tree) (ap (λ (p : Place). p.variables) c.in_ok-inner.ensures) below in
    subst (λ (m : Nested). IsPrintable c.args.place.now.variables m.tree) (sym c.in_ok-behind.ensures) here

pub returns-clause-printable : goal.returns-clause-printable
returns-clause-printable t c named =
    let inner = c.in_ok-inner-2.inner in
    let body = c.in-Some-5.body in
    let below : IsPrintable inner.variables body.tree = rw c.in-Some-5.is at (c.in_ok-body.ensures.printable named) in
    let some : 0 < c.args.left = grind (arith, common_steps) in
    let whole = c.requires.whole in
    let few = c.requires.place.few in
    let narrow = c.requires.item.narrow in
    let room : c.args.place.now.variables + 1 < 2 ^ 64 = omega (arith, some, whole, few, narrow) in
    c.in_ok-of_loop.ensures.printable room
    (subst (λ (n : ℕ). IsPrintable n body.tree) (ap (λ (p : Place). p.variables) c.in_ok-inner-2.ensures) below)
