use Rattle.std.proofs.Common.{◌+◌, ◌^◌, ◌++◌, inl, refl, sym, ap, subst, arith, ℕ, List, length}
use Rattle.std.specs.List.{All, AllZip}
use Rattle.isl_meter.specs.Gauge.{Gauge, IsCharged}
use Rattle.isl_meter.proofs.CutLemmas.{IsCharged_refl, IsCharged_trans}
use Rattle.isl_piece.specs.declared.row.Row.{Row}
use Rattle.isl_piece.specs.Row.{IsRowWithin, IsWellFormed}
use Rattle.isl_frame.specs.Frame.{IsThrough}
use Rattle.isl_frame.specs.Needed.{AreRowsOver}
use Rattle.isl_frame.proofs.NeededLaws.{kept_have, over_later}
use Rattle.isl_loop.specs.declared.tree.Loop.{Block}
use Rattle.isl_loop.specs.Formed.{IsRowOver}
use Rattle.isl_loop.specs.Printable.{IsPrintable}
use Rattle.isl_loop.proofs.PrintLaws.{empty_printable}
use Rattle.isl_nest.specs.declared.place.Place.{Place}
use Rattle.isl_nest.specs.Changing.{AsksWhatChanges}
use Rattle.isl_nest.specs.Covered.{view_of}
use Rattle.isl_nest.specs.Naming.{AreNaming}
use Rattle.isl_nest.specs.Nest.{with_context, IsNest, IsNestOver, IsNowhere}
use Rattle.isl_nest.specs.Places.{AreGuards, IsPlace}
use Rattle.isl_nest.proofs.AroundLaws.{charged_bits}
use Rattle.isl_nest.proofs.AskedLaws.{asked_room}
use Rattle.isl_nest.proofs.ChangingLaws.{empty_changing}
use Rattle.isl_nest.proofs.CountLaws.{empty_still, empty_trace}
use Rattle.isl_nest.proofs.LevelLaws.{covered_later, nest_same}
use Rattle.isl_nest.proofs.NamingLaws.{naming_over}
use Rattle.isl_nest.proofs.NestedLaws.{asked_over}
use Rattle.isl_nest.proofs.PlaceLaws.{place_later, place_with_context}
use Rattle.isl_nest.proofs.SeparateLaws.{asked_calls, empty_over, needed_guards, separate_lists, separate_never}
use Rattle.isl_nest.proofs.SeparateLaws.{separate_nowhere, separate_under, through_over}
use Rattle.isl_nest.proofs.loops.separate.Goals as goal

pub all_through-requires-clause-rows : goal.all_through-requires-clause-rows
all_through-requires-clause-rows c =
    let g = c.args.meter.now in
    let item = c.args.item.now in
    let place = c.args.place.now in
    let front = c.in_ok-front.front in
    let naming : AreNaming 0 (length place.frame) item.rows front =
    subst (λ n. AreNaming 0 n item.rows front) c.len.ensures c.in_ok-front.ensures in
    let whole = c.requires.whole in
    let over = naming_over g 0 (length place.frame) (item.params + item.levels) item.rows front (omega (arith, whole)) naming
    c.requires.item.over in
    subst (λ (f : List Row). All (IsWellFormed (length f)) front) (sym c.as_slice.ensures) over.formed

pub all_through-requires-clause-rows_within : goal.all_through-requires-clause-rows_within
all_through-requires-clause-rows_within c =
    let g = c.args.meter.now in
    let item = c.args.item.now in
    let place = c.args.place.now in
    let front = c.in_ok-front.front in
    let naming : AreNaming 0 (length place.frame) item.rows front =
    subst (λ n. AreNaming 0 n item.rows front) c.len.ensures c.in_ok-front.ensures in
    let whole = c.requires.whole in
    let over = naming_over g 0 (length place.frame) (item.params + item.levels) item.rows front (omega (arith, whole)) naming
    c.requires.item.over in
    over.within

pub normalise-requires-clause-moduli : goal.normalise-requires-clause-moduli
normalise-requires-clause-moduli c =
    let g = c.args.meter.now in
    let item = c.args.item.now in
    let place = c.args.place.now in
    let front = c.in_ok-front.front in
    let naming : AreNaming 0 (length place.frame) item.rows front =
    subst (λ n. AreNaming 0 n item.rows front) c.len.ensures c.in_ok-front.ensures in
    let through = c.in_ok-through.through in
    let zip : AllZip (λ row t. IsThrough place.variables row place.frame t) front through =
    subst (λ (f : List Row). AllZip (λ row t. IsThrough place.variables row f t) front through) c.as_slice.ensures c.in_ok-through.ensures.0.0 in
    let over = through_over (view_of item) place front naming through zip g c.in_ok-through.ensures.0.1 in
    λ k d l. (over.formed k d l).modulus

pub returns-in_default-clause-lists : goal.returns-in_default-clause-lists
returns-in_default-clause-lists c =
    let g = c.args.meter.now in
    let item = c.args.item.now in
    let place = c.args.place.now in
    let front = c.in_ok-front.front in
    let naming : AreNaming 0 (length place.frame) item.rows front =
    subst (λ n. AreNaming 0 n item.rows front) c.len.ensures c.in_ok-front.ensures in
    let through = c.in_ok-through.through in
    let zip : AllZip (λ row t. IsThrough place.variables row place.frame t) front through =
    subst (λ (f : List Row). AllZip (λ row t. IsThrough place.variables row f t) front through) c.as_slice.ensures c.in_ok-through.ensures.0.0 in
    separate_never (view_of item) place front naming through zip (Block c.new.result) (empty_trace c.new.result c.new.ensures)
    (rw c.in_default.is at c.in_ok-normal.ensures.points)

pub returns-in_default-clause-over : goal.returns-in_default-clause-over
returns-in_default-clause-over c =
    empty_over c.args.meter.now c.args.place.now.variables c.new.result c.new.ensures

pub returns-in_default-clause-separate : goal.returns-in_default-clause-separate
returns-in_default-clause-separate c = inl (empty_still c.new.result c.new.ensures)

pub needed-requires-clause-rows : goal.needed-requires-clause-rows
needed-requires-clause-rows c =
    let g = c.args.meter.now in
    let item = c.args.item.now in
    let place = c.args.place.now in
    let front = c.in_ok-front.front in
    let naming : AreNaming 0 (length place.frame) item.rows front =
    subst (λ n. AreNaming 0 n item.rows front) c.len.ensures c.in_ok-front.ensures in
    let through = c.in_ok-through.through in
    let zip : AllZip (λ row t. IsThrough place.variables row place.frame t) front through =
    subst (λ (f : List Row). AllZip (λ row t. IsThrough place.variables row f t) front through) c.as_slice.ensures c.in_ok-through.ensures.0.0 in
    let over = through_over (view_of item) place front naming through zip g c.in_ok-through.ensures.0.1 in
    let normal = c.in-Some.normal in
    let within : All (IsRowWithin c.all_through.new.meter) normal = rw c.in-Some.is at c.in_ok-normal.ensures.within in
    let normal_over : AreRowsOver g place.variables normal = record {
      formed = rw c.in-Some.is at (c.in_ok-normal.ensures.shape place.variables over.formed);
      within = subst (λ (h : Gauge). All (IsRowWithin h) normal) c.in_ok-through.ensures.1 within;
    } in
    subst (λ (h : Gauge). AreRowsOver h place.variables normal) (sym c.in_ok-through.ensures.1) normal_over

pub nest-requires-clause-item : goal.nest-requires-clause-item
nest-requires-clause-item c =
    let g = c.args.meter.now in
    let charged : IsCharged g c.needed.new.meter = IsCharged_trans g c.all_through.new.meter c.needed.new.meter
    (IsCharged_refl g c.all_through.new.meter c.in_ok-through.ensures.1) c.in_ok-rows.ensures.meter in
    covered_later g c.needed.new.meter c.args.item.now charged c.requires.item

pub nest-requires-clause-place : goal.nest-requires-clause-place
nest-requires-clause-place c =
    let g = c.args.meter.now in
    let item = c.args.item.now in
    let place = c.args.place.now in
    let front = c.in_ok-front.front in
    let naming : AreNaming 0 (length place.frame) item.rows front =
    subst (λ n. AreNaming 0 n item.rows front) c.len.ensures c.in_ok-front.ensures in
    let through = c.in_ok-through.through in
    let zip : AllZip (λ row t. IsThrough place.variables row place.frame t) front through =
    subst (λ (f : List Row). AllZip (λ row t. IsThrough place.variables row f t) front through) c.as_slice.ensures c.in_ok-through.ensures.0.0 in
    let over = through_over (view_of item) place front naming through zip g c.in_ok-through.ensures.0.1 in
    let normal = c.in-Some.normal in
    let within : All (IsRowWithin c.all_through.new.meter) normal = rw c.in-Some.is at c.in_ok-normal.ensures.within in
    let normal_over : AreRowsOver g place.variables normal = record {
      formed = rw c.in-Some.is at (c.in_ok-normal.ensures.shape place.variables over.formed);
      within = subst (λ (h : Gauge). All (IsRowWithin h) normal) c.in_ok-through.ensures.1 within;
    } in
    let rows = c.in_ok-rows.rows in
    let guards : AreGuards g place.variables rows = needed_guards g place.variables place.context normal rows normal_over
    (rw c.in-Some.is at c.in_ok-normal.ensures.normal) c.in_ok-rows.ensures.exact in
    let charged : IsCharged g c.needed.new.meter = IsCharged_trans g c.all_through.new.meter c.needed.new.meter
    (IsCharged_refl g c.all_through.new.meter c.in_ok-through.ensures.1) c.in_ok-rows.ensures.meter in
    let h = c.needed.new.meter in
    subst (IsPlace h) (sym c.in_ok-inner.ensures) (place_with_context h place (place_later g h place charged c.requires.place) rows
    (over_later g h place.variables rows charged guards.over))

pub returns-in_default-2-clause-lists : goal.returns-in_default-2-clause-lists
returns-in_default-2-clause-lists c =
    let g = c.args.meter.now in
    let item = c.args.item.now in
    let place = c.args.place.now in
    let front = c.in_ok-front.front in
    let naming : AreNaming 0 (length place.frame) item.rows front =
    subst (λ n. AreNaming 0 n item.rows front) c.len.ensures c.in_ok-front.ensures in
    let through = c.in_ok-through.through in
    let zip : AllZip (λ row t. IsThrough place.variables row place.frame t) front through =
    subst (λ (f : List Row). AllZip (λ row t. IsThrough place.variables row f t) front through) c.as_slice.ensures c.in_ok-through.ensures.0.0 in
    let over = through_over (view_of item) place front naming through zip g c.in_ok-through.ensures.0.1 in
    let normal = c.in-Some.normal in
    let within : All (IsRowWithin c.all_through.new.meter) normal = rw c.in-Some.is at c.in_ok-normal.ensures.within in
    let normal_over : AreRowsOver g place.variables normal = record {
      formed = rw c.in-Some.is at (c.in_ok-normal.ensures.shape place.variables over.formed);
      within = subst (λ (h : Gauge). All (IsRowWithin h) normal) c.in_ok-through.ensures.1 within;
    } in
    let rows = c.in_ok-rows.rows in
    let guards : AreGuards g place.variables rows = needed_guards g place.variables place.context normal rows normal_over
    (rw c.in-Some.is at c.in_ok-normal.ensures.normal) c.in_ok-rows.ensures.exact in
    let none : IsNowhere (view_of item) c.in_ok-inner.inner = rw c.in_default-2.is at c.in_ok-nested.ensures.nest in
    separate_nowhere (view_of item) place front naming through zip g normal rows (rw c.in-Some.is at c.in_ok-normal.ensures.points)
    c.in_ok-rows.ensures.exact guards (Block c.new-in_default-2.result) (empty_trace c.new-in_default-2.result c.new-in_default-2.ensures)
    (subst (λ (p : Place). IsNowhere (view_of item) p) c.in_ok-inner.ensures none)

pub returns-in_default-2-clause-over : goal.returns-in_default-2-clause-over
returns-in_default-2-clause-over c =
    empty_over c.args.meter.now c.args.place.now.variables c.new-in_default-2.result c.new-in_default-2.ensures

pub returns-in_default-2-clause-separate : goal.returns-in_default-2-clause-separate
returns-in_default-2-clause-separate c = inl (empty_still c.new-in_default-2.result c.new-in_default-2.ensures)

pub asked-requires-clause-place : goal.asked-requires-clause-place
asked-requires-clause-place c =
    let g = c.args.meter.now in
    let charged : IsCharged g c.needed.new.meter = IsCharged_trans g c.all_through.new.meter c.needed.new.meter
    (IsCharged_refl g c.all_through.new.meter c.in_ok-through.ensures.1) c.in_ok-rows.ensures.meter in
    place_later g c.nest.new.meter c.args.place.now
    (IsCharged_trans g c.needed.new.meter c.nest.new.meter charged c.in_ok-nested.ensures.meter) c.requires.place

pub asked-requires-clause-room : goal.asked-requires-clause-room
asked-requires-clause-room c some =
    let item = c.args.item.now in
    let place = c.args.place.now in
    asked_room (2 ^ 64) c.args.left place.variables (length place.frame) (item.params + item.levels) c.requires.place.few c.requires.whole
    c.requires.item.narrow some

pub asked-requires-clause-rows : goal.asked-requires-clause-rows
asked-requires-clause-rows c =
    let g = c.args.meter.now in
    let item = c.args.item.now in
    let place = c.args.place.now in
    let front = c.in_ok-front.front in
    let naming : AreNaming 0 (length place.frame) item.rows front =
    subst (λ n. AreNaming 0 n item.rows front) c.len.ensures c.in_ok-front.ensures in
    let through = c.in_ok-through.through in
    let zip : AllZip (λ row t. IsThrough place.variables row place.frame t) front through =
    subst (λ (f : List Row). AllZip (λ row t. IsThrough place.variables row f t) front through) c.as_slice.ensures c.in_ok-through.ensures.0.0 in
    let over = through_over (view_of item) place front naming through zip g c.in_ok-through.ensures.0.1 in
    let normal = c.in-Some.normal in
    let within : All (IsRowWithin c.all_through.new.meter) normal = rw c.in-Some.is at c.in_ok-normal.ensures.within in
    let normal_over : AreRowsOver g place.variables normal = record {
      formed = rw c.in-Some.is at (c.in_ok-normal.ensures.shape place.variables over.formed);
      within = subst (λ (h : Gauge). All (IsRowWithin h) normal) c.in_ok-through.ensures.1 within;
    } in
    let rows = c.in_ok-rows.rows in
    let guards : AreGuards g place.variables rows = needed_guards g place.variables place.context normal rows normal_over
    (rw c.in-Some.is at c.in_ok-normal.ensures.normal) c.in_ok-rows.ensures.exact in
    let charged : IsCharged g c.needed.new.meter = IsCharged_trans g c.all_through.new.meter c.needed.new.meter
    (IsCharged_refl g c.all_through.new.meter c.in_ok-through.ensures.1) c.in_ok-rows.ensures.meter in
    over_later g c.nest.new.meter place.variables rows
    (IsCharged_trans g c.needed.new.meter c.nest.new.meter charged c.in_ok-nested.ensures.meter) guards.over

pub asked-requires-clause-nested : goal.asked-requires-clause-nested
asked-requires-clause-nested c =
    let g = c.args.meter.now in
    let place = c.args.place.now in
    let inner = c.in_ok-inner.inner in
    let nested = c.in-Some-2.nested in
    let nest_over : IsNestOver c.needed.new.meter inner.variables nested = rw c.in-Some-2.is at c.in_ok-nested.ensures.over in
    nest_same c.needed.new.meter c.nest.new.meter inner.variables place.variables nested
    (charged_bits c.needed.new.meter c.nest.new.meter c.in_ok-nested.ensures.meter)
    (sym (ap (λ (p : Place). p.variables) c.in_ok-inner.ensures)) nest_over

pub returns-clause-lists : goal.returns-clause-lists
returns-clause-lists c =
    let g = c.args.meter.now in
    let item = c.args.item.now in
    let place = c.args.place.now in
    let front = c.in_ok-front.front in
    let naming : AreNaming 0 (length place.frame) item.rows front =
    subst (λ n. AreNaming 0 n item.rows front) c.len.ensures c.in_ok-front.ensures in
    let through = c.in_ok-through.through in
    let zip : AllZip (λ row t. IsThrough place.variables row place.frame t) front through =
    subst (λ (f : List Row). AllZip (λ row t. IsThrough place.variables row f t) front through) c.as_slice.ensures c.in_ok-through.ensures.0.0 in
    let over = through_over (view_of item) place front naming through zip g c.in_ok-through.ensures.0.1 in
    let normal = c.in-Some.normal in
    let within : All (IsRowWithin c.all_through.new.meter) normal = rw c.in-Some.is at c.in_ok-normal.ensures.within in
    let normal_over : AreRowsOver g place.variables normal = record {
      formed = rw c.in-Some.is at (c.in_ok-normal.ensures.shape place.variables over.formed);
      within = subst (λ (h : Gauge). All (IsRowWithin h) normal) c.in_ok-through.ensures.1 within;
    } in
    let rows = c.in_ok-rows.rows in
    let guards : AreGuards g place.variables rows = needed_guards g place.variables place.context normal rows normal_over
    (rw c.in-Some.is at c.in_ok-normal.ensures.normal) c.in_ok-rows.ensures.exact in
    let charged : IsCharged g c.needed.new.meter = IsCharged_trans g c.all_through.new.meter c.needed.new.meter
    (IsCharged_refl g c.all_through.new.meter c.in_ok-through.ensures.1) c.in_ok-rows.ensures.meter in
    let inner = c.in_ok-inner.inner in
    let nested = c.in-Some-2.nested in
    let nest_over : IsNestOver c.needed.new.meter inner.variables nested = rw c.in-Some-2.is at c.in_ok-nested.ensures.over in
    let is : IsNestOver g place.variables nested = nest_same c.needed.new.meter g inner.variables place.variables nested
    (sym (charged_bits g c.needed.new.meter charged)) (sym (ap (λ (p : Place). p.variables) c.in_ok-inner.ensures)) nest_over in
    let below : IsNest (view_of item) c.args.left (with_context place rows) nested =
    subst (λ (p : Place). IsNest (view_of item) c.args.left p nested) c.in_ok-inner.ensures
    (rw c.in-Some-2.is at c.in_ok-nested.ensures.nest) in
    let points = rw c.in-Some.is at c.in_ok-normal.ensures.points in
    let tree = c.in_ok-under.field-0 in
    separate_lists (view_of item) place front naming through zip g normal rows points c.in_ok-rows.ensures.exact guards c.requires.item.is
    c.args.left nested tree c.requires.whole c.requires.low below
    (asked_calls (view_of item) place front naming through zip g normal rows points c.in_ok-rows.ensures.exact guards c.args.left nested tree
    c.in_ok-guards.guards below is.rows.over c.in_ok-guards.ensures.asked c.in_ok-under.ensures.runs.calls)

pub returns-clause-separate : goal.returns-clause-separate
returns-clause-separate c =
    let g = c.args.meter.now in
    let item = c.args.item.now in
    let place = c.args.place.now in
    let front = c.in_ok-front.front in
    let naming : AreNaming 0 (length place.frame) item.rows front =
    subst (λ n. AreNaming 0 n item.rows front) c.len.ensures c.in_ok-front.ensures in
    let through = c.in_ok-through.through in
    let zip : AllZip (λ row t. IsThrough place.variables row place.frame t) front through =
    subst (λ (f : List Row). AllZip (λ row t. IsThrough place.variables row f t) front through) c.as_slice.ensures c.in_ok-through.ensures.0.0 in
    let over = through_over (view_of item) place front naming through zip g c.in_ok-through.ensures.0.1 in
    let normal = c.in-Some.normal in
    let within : All (IsRowWithin c.all_through.new.meter) normal = rw c.in-Some.is at c.in_ok-normal.ensures.within in
    let normal_over : AreRowsOver g place.variables normal = record {
      formed = rw c.in-Some.is at (c.in_ok-normal.ensures.shape place.variables over.formed);
      within = subst (λ (h : Gauge). All (IsRowWithin h) normal) c.in_ok-through.ensures.1 within;
    } in
    let rows = c.in_ok-rows.rows in
    let guards : AreGuards g place.variables rows = needed_guards g place.variables place.context normal rows normal_over
    (rw c.in-Some.is at c.in_ok-normal.ensures.normal) c.in_ok-rows.ensures.exact in
    let charged : IsCharged g c.needed.new.meter = IsCharged_trans g c.all_through.new.meter c.needed.new.meter
    (IsCharged_refl g c.all_through.new.meter c.in_ok-through.ensures.1) c.in_ok-rows.ensures.meter in
    let inner = c.in_ok-inner.inner in
    let nested = c.in-Some-2.nested in
    let nest_over : IsNestOver c.needed.new.meter inner.variables nested = rw c.in-Some-2.is at c.in_ok-nested.ensures.over in
    let is : IsNestOver g place.variables nested = nest_same c.needed.new.meter g inner.variables place.variables nested
    (sym (charged_bits g c.needed.new.meter charged)) (sym (ap (λ (p : Place). p.variables) c.in_ok-inner.ensures)) nest_over in
    let below : IsNest (view_of item) c.args.left (with_context place rows) nested =
    subst (λ (p : Place). IsNest (view_of item) c.args.left p nested) c.in_ok-inner.ensures
    (rw c.in-Some-2.is at c.in_ok-nested.ensures.nest) in
    separate_under (view_of item) place front naming through zip g normal rows (rw c.in-Some.is at c.in_ok-normal.ensures.points)
    c.in_ok-rows.ensures.exact guards c.args.left nested c.in_ok-under.field-0 c.in_ok-guards.guards below is.rows.over
    c.in_ok-guards.ensures.asked c.in_ok-under.ensures.runs.calls c.in_ok-under.ensures.runs.turned
    c.in_ok-under.ensures.runs.idle c.in_ok-under.ensures.runs.depth

pub returns-clause-over : goal.returns-clause-over
returns-clause-over c =
    let g = c.args.meter.now in
    let item = c.args.item.now in
    let place = c.args.place.now in
    let front = c.in_ok-front.front in
    let naming : AreNaming 0 (length place.frame) item.rows front =
    subst (λ n. AreNaming 0 n item.rows front) c.len.ensures c.in_ok-front.ensures in
    let through = c.in_ok-through.through in
    let zip : AllZip (λ row t. IsThrough place.variables row place.frame t) front through =
    subst (λ (f : List Row). AllZip (λ row t. IsThrough place.variables row f t) front through) c.as_slice.ensures c.in_ok-through.ensures.0.0 in
    let over = through_over (view_of item) place front naming through zip g c.in_ok-through.ensures.0.1 in
    let normal = c.in-Some.normal in
    let within : All (IsRowWithin c.all_through.new.meter) normal = rw c.in-Some.is at c.in_ok-normal.ensures.within in
    let normal_over : AreRowsOver g place.variables normal = record {
      formed = rw c.in-Some.is at (c.in_ok-normal.ensures.shape place.variables over.formed);
      within = subst (λ (h : Gauge). All (IsRowWithin h) normal) c.in_ok-through.ensures.1 within;
    } in
    let rows = c.in_ok-rows.rows in
    let guards : AreGuards g place.variables rows = needed_guards g place.variables place.context normal rows normal_over
    (rw c.in-Some.is at c.in_ok-normal.ensures.normal) c.in_ok-rows.ensures.exact in
    let charged : IsCharged g c.needed.new.meter = IsCharged_trans g c.all_through.new.meter c.needed.new.meter
    (IsCharged_refl g c.all_through.new.meter c.in_ok-through.ensures.1) c.in_ok-rows.ensures.meter in
    let inner = c.in_ok-inner.inner in
    let nested = c.in-Some-2.nested in
    let below : IsNestOver c.needed.new.meter inner.variables nested = rw c.in-Some-2.is at c.in_ok-nested.ensures.over in
    let is : IsNestOver g place.variables nested = nest_same c.needed.new.meter g inner.variables place.variables nested
    (sym (charged_bits g c.needed.new.meter charged)) (sym (ap (λ (p : Place). p.variables) c.in_ok-inner.ensures)) below in
    c.in_ok-under.ensures.over g place.variables (kept_have (IsRowOver g place.variables) (rows ++ nested.rows) c.in_ok-guards.guards
    c.in_ok-guards.ensures.asked.each (asked_over g place.variables rows nested.rows (rows ++ nested.rows) refl guards is.rows)) is.tree

pub returns-in_default-clause-changing : goal.returns-in_default-clause-changing
returns-in_default-clause-changing c = empty_changing c.args.place.now.variables c.new.result c.new.ensures

pub returns-in_default-2-clause-changing : goal.returns-in_default-2-clause-changing
returns-in_default-2-clause-changing c =
    empty_changing c.args.place.now.variables c.new-in_default-2.result c.new-in_default-2.ensures

pub returns-clause-changing : goal.returns-clause-changing
returns-clause-changing c =
    let n = c.args.place.now.variables in
    let inner = c.in_ok-inner.inner in
    let nested = c.in-Some-2.nested in
    let asks : AsksWhatChanges inner.variables nested.tree = rw c.in-Some-2.is at c.in_ok-nested.ensures.changing in
    c.in_ok-under.ensures.changing n
    (subst (λ (v : ℕ). AsksWhatChanges v nested.tree) (ap (λ (p : Place). p.variables) c.in_ok-inner.ensures) asks)

pub returns-in_default-clause-printable : goal.returns-in_default-clause-printable
returns-in_default-clause-printable c named = empty_printable c.args.place.now.variables c.new.result c.new.ensures

pub returns-in_default-2-clause-printable : goal.returns-in_default-2-clause-printable
returns-in_default-2-clause-printable c named =
    empty_printable c.args.place.now.variables c.new-in_default-2.result c.new-in_default-2.ensures

pub returns-clause-printable : goal.returns-clause-printable
returns-clause-printable c named =
    let n = c.args.place.now.variables in
    let inner = c.in_ok-inner.inner in
    let nested = c.in-Some-2.nested in
    let below : IsPrintable inner.variables nested.tree = rw c.in-Some-2.is at (c.in_ok-nested.ensures.printable named) in
    c.in_ok-under.ensures.printable n
    (subst (λ (v : ℕ). IsPrintable v nested.tree) (ap (λ (p : Place). p.variables) c.in_ok-inner.ensures) below)
