use Rattle.std.proofs.Common.{◌≡◌, ◌∙◌, ◌++◌, ◌∷◌, [], refl, sym, subst, List}
use Rattle.std.specs.List.{All}
use Rattle.std.proofs.lemmas.List.Elements.{All-append, All-cons, All-nil}
use Rattle.isl_meter.specs.Gauge.{Gauge}
use Rattle.isl_piece.specs.declared.row.Row.{Row}
use Rattle.isl_piece.specs.Row.{IsRowWithin}
use Rattle.isl_frame.specs.Frame.{IsSolved, IsThroughBehind}
use Rattle.isl_frame.specs.Needed.{AreRowsOver}
use Rattle.isl_nest.proofs.ToldLaws.{pushed_is, through_kind, through_names, told_framed, told_is, told_over, untold}
use Rattle.isl_nest.proofs.told.Told.of.Goals as goal

pub all_through-requires-clause-frame : goal.all_through-requires-clause-frame
all_through-requires-clause-frame c =
    let g = c.args.meter.now in
    let place = c.args.place.now in
    let equality = c.args.equality.now in
    let through = c.in_ok-through.through in
    let entry = c.in_ok-entry.entry in
    let frame = c.as_slice-2.result.now in
    let is = c.requires.place in
    let eq = c.requires.equality in
    let told : IsThroughBehind place.variables equality place.frame through =
    subst (λ (f : List Row). IsThroughBehind place.variables equality f through) c.as_slice.ensures c.in_ok-through.ensures.0.0 in
    let solved : IsSolved place.variables through entry = c.in_ok-entry.ensures.solved
    (through_kind g place is equality eq through told) (through_names g place is equality eq through told) in
    let frame_is : frame ≡ place.frame ++ entry ∷ [] = c.as_slice-2.ensures ∙ pushed_is c.in_ok-frame.frame place.frame c.push.new.self
    c.in_ok-copy.field-0 entry c.in_ok-push.ensures.ok c.in_ok-frame.ensures c.in_ok-copy.ensures in
    told_framed g place is equality eq through told entry solved frame frame_is

pub all_through-requires-clause-frame_within : goal.all_through-requires-clause-frame_within
all_through-requires-clause-frame_within c =
    let h = c.through_behind.new.meter in
    let place = c.args.place.now in
    let entry = c.in_ok-entry.entry in
    let frame_is : c.as_slice-2.result.now ≡ place.frame ++ entry ∷ [] = c.as_slice-2.ensures ∙ pushed_is c.in_ok-frame.frame place.frame
    c.push.new.self c.in_ok-copy.field-0 entry c.in_ok-push.ensures.ok c.in_ok-frame.ensures c.in_ok-copy.ensures in
    let within : All (IsRowWithin h) place.frame =
    subst (λ (g : Gauge). All (IsRowWithin g) place.frame) (sym c.in_ok-through.ensures.1) c.requires.place.within in
    subst (All (IsRowWithin h)) (sym frame_is) (All-append (IsRowWithin h) place.frame (entry ∷ []) within
    (All-cons (IsRowWithin h) entry [] c.in_ok-entry.ensures.within (All-nil (IsRowWithin h))))

pub normalise-requires-clause-moduli : goal.normalise-requires-clause-moduli
normalise-requires-clause-moduli c =
    let g = c.args.meter.now in
    let place = c.args.place.now in
    let equality = c.args.equality.now in
    let through = c.in_ok-through.through in
    let entry = c.in_ok-entry.entry in
    let frame = c.as_slice-2.result.now in
    let is = c.requires.place in
    let eq = c.requires.equality in
    let told : IsThroughBehind place.variables equality place.frame through =
    subst (λ (f : List Row). IsThroughBehind place.variables equality f through) c.as_slice.ensures c.in_ok-through.ensures.0.0 in
    let solved : IsSolved place.variables through entry = c.in_ok-entry.ensures.solved
    (through_kind g place is equality eq through told) (through_names g place is equality eq through told) in
    let frame_is : frame ≡ place.frame ++ entry ∷ [] = c.as_slice-2.ensures ∙ pushed_is c.in_ok-frame.frame place.frame c.push.new.self
    c.in_ok-copy.field-0 entry c.in_ok-push.ensures.ok c.in_ok-frame.ensures c.in_ok-copy.ensures in
    let made = c.in_ok-rows.rows in
    let rows = c.push-2.new.self in
    let zip = c.in_ok-rows.ensures.0.0 in
    let rows_is : rows ≡ made ++ entry ∷ [] = pushed_is made made rows c.in_ok-copy-2.field-0 entry c.in_ok-push-2.ensures.ok refl
    c.in_ok-copy-2.ensures in
    let over = told_over g place is equality eq through told entry solved frame frame_is c.args.own.now made rows zip rows_is
    c.through_behind.new.meter c.in_ok-rows.ensures.0.1 c.in_ok-entry.ensures.within in
    λ k d l. (over.formed k d l).modulus

pub normalise-requires-clause-within : goal.normalise-requires-clause-within
normalise-requires-clause-within c =
    let g = c.args.meter.now in
    let place = c.args.place.now in
    let equality = c.args.equality.now in
    let through = c.in_ok-through.through in
    let entry = c.in_ok-entry.entry in
    let frame = c.as_slice-2.result.now in
    let is = c.requires.place in
    let eq = c.requires.equality in
    let told : IsThroughBehind place.variables equality place.frame through =
    subst (λ (f : List Row). IsThroughBehind place.variables equality f through) c.as_slice.ensures c.in_ok-through.ensures.0.0 in
    let solved : IsSolved place.variables through entry = c.in_ok-entry.ensures.solved
    (through_kind g place is equality eq through told) (through_names g place is equality eq through told) in
    let frame_is : frame ≡ place.frame ++ entry ∷ [] = c.as_slice-2.ensures ∙ pushed_is c.in_ok-frame.frame place.frame c.push.new.self
    c.in_ok-copy.field-0 entry c.in_ok-push.ensures.ok c.in_ok-frame.ensures c.in_ok-copy.ensures in
    let made = c.in_ok-rows.rows in
    let rows = c.push-2.new.self in
    let zip = c.in_ok-rows.ensures.0.0 in
    let rows_is : rows ≡ made ++ entry ∷ [] = pushed_is made made rows c.in_ok-copy-2.field-0 entry c.in_ok-push-2.ensures.ok refl
    c.in_ok-copy-2.ensures in
    let over = told_over g place is equality eq through told entry solved frame frame_is c.args.own.now made rows zip rows_is
    c.through_behind.new.meter c.in_ok-rows.ensures.0.1 c.in_ok-entry.ensures.within in
    subst (λ (h : Gauge). All (IsRowWithin h) rows) (sym c.in_ok-rows.ensures.1) over.within

pub returns-in_default-clause-told : goal.returns-in_default-clause-told
returns-in_default-clause-told c =
    let g = c.args.meter.now in
    let place = c.args.place.now in
    let equality = c.args.equality.now in
    let through = c.in_ok-through.through in
    let entry = c.in_ok-entry.entry in
    let frame = c.as_slice-2.result.now in
    let is = c.requires.place in
    let eq = c.requires.equality in
    let told : IsThroughBehind place.variables equality place.frame through =
    subst (λ (f : List Row). IsThroughBehind place.variables equality f through) c.as_slice.ensures c.in_ok-through.ensures.0.0 in
    let solved : IsSolved place.variables through entry = c.in_ok-entry.ensures.solved
    (through_kind g place is equality eq through told) (through_names g place is equality eq through told) in
    let frame_is : frame ≡ place.frame ++ entry ∷ [] = c.as_slice-2.ensures ∙ pushed_is c.in_ok-frame.frame place.frame c.push.new.self
    c.in_ok-copy.field-0 entry c.in_ok-push.ensures.ok c.in_ok-frame.ensures c.in_ok-copy.ensures in
    let made = c.in_ok-rows.rows in
    let rows = c.push-2.new.self in
    let zip = c.in_ok-rows.ensures.0.0 in
    let rows_is : rows ≡ made ++ entry ∷ [] = pushed_is made made rows c.in_ok-copy-2.field-0 entry c.in_ok-push-2.ensures.ok refl
    c.in_ok-copy-2.ensures in
    let never = rw c.in_default.is at c.in_ok-normal.ensures.points in
    untold g place is equality eq through told entry solved frame frame_is c.args.own.now made rows zip rows_is never

pub needed-requires-clause-rows : goal.needed-requires-clause-rows
needed-requires-clause-rows c =
    let g = c.args.meter.now in
    let place = c.args.place.now in
    let equality = c.args.equality.now in
    let through = c.in_ok-through.through in
    let entry = c.in_ok-entry.entry in
    let frame = c.as_slice-2.result.now in
    let is = c.requires.place in
    let eq = c.requires.equality in
    let told : IsThroughBehind place.variables equality place.frame through =
    subst (λ (f : List Row). IsThroughBehind place.variables equality f through) c.as_slice.ensures c.in_ok-through.ensures.0.0 in
    let solved : IsSolved place.variables through entry = c.in_ok-entry.ensures.solved
    (through_kind g place is equality eq through told) (through_names g place is equality eq through told) in
    let frame_is : frame ≡ place.frame ++ entry ∷ [] = c.as_slice-2.ensures ∙ pushed_is c.in_ok-frame.frame place.frame c.push.new.self
    c.in_ok-copy.field-0 entry c.in_ok-push.ensures.ok c.in_ok-frame.ensures c.in_ok-copy.ensures in
    let made = c.in_ok-rows.rows in
    let rows = c.push-2.new.self in
    let zip = c.in_ok-rows.ensures.0.0 in
    let rows_is : rows ≡ made ++ entry ∷ [] = pushed_is made made rows c.in_ok-copy-2.field-0 entry c.in_ok-push-2.ensures.ok refl
    c.in_ok-copy-2.ensures in
    let over = told_over g place is equality eq through told entry solved frame frame_is c.args.own.now made rows zip rows_is
    c.through_behind.new.meter c.in_ok-rows.ensures.0.1 c.in_ok-entry.ensures.within in
    record {
      formed = rw c.in-Some.is at (c.in_ok-normal.ensures.shape place.variables over.formed);
      within = rw c.in-Some.is at c.in_ok-normal.ensures.within;
    }

pub returns-clause-told : goal.returns-clause-told
returns-clause-told c =
    let g = c.args.meter.now in
    let place = c.args.place.now in
    let equality = c.args.equality.now in
    let through = c.in_ok-through.through in
    let entry = c.in_ok-entry.entry in
    let frame = c.as_slice-2.result.now in
    let is = c.requires.place in
    let eq = c.requires.equality in
    let told : IsThroughBehind place.variables equality place.frame through =
    subst (λ (f : List Row). IsThroughBehind place.variables equality f through) c.as_slice.ensures c.in_ok-through.ensures.0.0 in
    let solved : IsSolved place.variables through entry = c.in_ok-entry.ensures.solved
    (through_kind g place is equality eq through told) (through_names g place is equality eq through told) in
    let frame_is : frame ≡ place.frame ++ entry ∷ [] = c.as_slice-2.ensures ∙ pushed_is c.in_ok-frame.frame place.frame c.push.new.self
    c.in_ok-copy.field-0 entry c.in_ok-push.ensures.ok c.in_ok-frame.ensures c.in_ok-copy.ensures in
    let made = c.in_ok-rows.rows in
    let rows = c.push-2.new.self in
    let zip = c.in_ok-rows.ensures.0.0 in
    let rows_is : rows ≡ made ++ entry ∷ [] = pushed_is made made rows c.in_ok-copy-2.field-0 entry c.in_ok-push-2.ensures.ok refl
    c.in_ok-copy-2.ensures in
    let over = told_over g place is equality eq through told entry solved frame frame_is c.args.own.now made rows zip rows_is
    c.through_behind.new.meter c.in_ok-rows.ensures.0.1 c.in_ok-entry.ensures.within in
    let normal = c.in-Some.normal in
    let meter : c.all_through.new.meter ≡ g = c.in_ok-rows.ensures.1 ∙ c.in_ok-through.ensures.1 in
    let entry_within = subst (λ (h : Gauge). IsRowWithin h entry) c.in_ok-through.ensures.1 c.in_ok-entry.ensures.within in
    let within : All (IsRowWithin c.all_through.new.meter) normal = rw c.in-Some.is at c.in_ok-normal.ensures.within in
    let normal_over : AreRowsOver g place.variables normal = record {
      formed = rw c.in-Some.is at (c.in_ok-normal.ensures.shape place.variables over.formed);
      within = subst (λ (h : Gauge). All (IsRowWithin h) normal) meter within;
    } in
    let divides = c.in_ok-entry.ensures.divides (through_kind g place is equality eq through told)
    (through_names g place is equality eq through told) in
    told_is g place is equality eq through told entry solved frame frame_is c.args.own.now made rows zip rows_is divides
    normal c.in_ok-rows-2.rows
    entry_within normal_over (rw c.in-Some.is at c.in_ok-normal.ensures.normal) (rw c.in-Some.is at c.in_ok-normal.ensures.points)
    c.in_ok-rows-2.ensures.exact (record { entry = entry; rows = c.in_ok-rows-2.rows }) refl
