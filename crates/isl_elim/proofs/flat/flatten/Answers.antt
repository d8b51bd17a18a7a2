use Rattle.std.proofs.Common.{◌≡◌, ◌≢◌, ◌∙◌, sym, arith, subst, ◌<◌, ℕ, List, [], length, map}
use Rattle.std.specs.Prelude.{AllPairs}
use Rattle.std.specs.List.{All}
use Rattle.isl_piece.specs.System.{free_columns}
use Rattle.isl_elim.specs.Elimination.{system_of}
use Rattle.isl_elim.specs.Opened.{opened_rows}
use Rattle.isl_elim.proofs.FlattenLaws.{defined_columns, gone_columns, normal_flat, systems_flat}
use Rattle.isl_elim.proofs.RangeLaws.{range_below, range_distinct}
use Rattle.isl_elim.proofs.flat.flatten.Goals as goal

pub returns-then-is_empty-clause-exact : goal.returns-then-is_empty-clause-exact
returns-then-is_empty-clause-exact c =
    let none : c.args.system.now.definitions ≡ [] = grind arith in
    normal_flat c.args.system.now c.in_ok-normal_alone.field-0.items none c.in_ok-normal_alone.ensures.exact
    c.in_ok-normal_alone.ensures.points

pub rows_without-requires-clause-distinct : goal.rows_without-requires-clause-distinct
rows_without-requires-clause-distinct c =
    let s = c.args.system.now in
    let gone : c.as_slice-2.result.now ≡ defined_columns s =
    c.as_slice-2.ensures.value
    ∙ gone_columns s c.in_ok-gone.gone.items c.free.result c.requires.well_formed.count c.free.ensures c.in_ok-gone.ensures in
    subst (λ (cols : List ℕ). AllPairs (λ a b. a ≢ b) cols) (sym gone) (range_distinct (free_columns s) (length s.definitions))

pub rows_without-requires-clause-cols_in : goal.rows_without-requires-clause-cols_in
rows_without-requires-clause-cols_in c =
    let s = c.args.system.now in
    let gone : c.as_slice-2.result.now ≡ defined_columns s =
    c.as_slice-2.ensures.value
    ∙ gone_columns s c.in_ok-gone.gone.items c.free.result c.requires.well_formed.count c.free.ensures c.in_ok-gone.ensures in
    let count = c.requires.well_formed.count in
    subst (λ (cols : List ℕ). All (λ col. col < s.columns) cols) (sym gone)
    (range_below (free_columns s) (length s.definitions) s.columns (omega (arith, count)))

pub returns-clause-exact : goal.returns-clause-exact
returns-clause-exact c =
    let s = c.args.system.now in
    let gone : c.as_slice-2.result.now ≡ defined_columns s =
    c.as_slice-2.ensures.value
    ∙ gone_columns s c.in_ok-gone.gone.items c.free.result c.requires.well_formed.count c.free.ensures c.in_ok-gone.ensures in
    let is : c.in_ok-systems.systems.items ≡ map (system_of (free_columns s) []) c.in_ok-lists.lists.items = grind arith in
    let rows : c.in_ok-rows.rows ≡ opened_rows s c.as_slice-2.result.now = grind arith in
    let kept : c.opened_rows.new.meter ≡ c.args.meter.now = c.in_ok-rows.ensures.exact.1 in
    (systems_flat c.args.meter.now s c.as_slice-2.result.now c.in_ok-lists.lists.items c.in_ok-systems.systems.items
    c.requires.well_formed gone
    (rw (rows, kept) at c.in_ok-lists.ensures.exact.0) is).flat

pub returns-clause-within : goal.returns-clause-within
returns-clause-within c =
    let s = c.args.system.now in
    let gone : c.as_slice-2.result.now ≡ defined_columns s =
    c.as_slice-2.ensures.value
    ∙ gone_columns s c.in_ok-gone.gone.items c.free.result c.requires.well_formed.count c.free.ensures c.in_ok-gone.ensures in
    let is : c.in_ok-systems.systems.items ≡ map (system_of (free_columns s) []) c.in_ok-lists.lists.items = grind arith in
    let rows : c.in_ok-rows.rows ≡ opened_rows s c.as_slice-2.result.now = grind arith in
    let kept : c.opened_rows.new.meter ≡ c.args.meter.now = c.in_ok-rows.ensures.exact.1 in
    (systems_flat c.args.meter.now s c.as_slice-2.result.now c.in_ok-lists.lists.items c.in_ok-systems.systems.items
    c.requires.well_formed gone
    (rw (rows, kept) at c.in_ok-lists.ensures.exact.0) is).within

pub returns-clause-normal : goal.returns-clause-normal
returns-clause-normal c =
    let s = c.args.system.now in
    let gone : c.as_slice-2.result.now ≡ defined_columns s =
    c.as_slice-2.ensures.value
    ∙ gone_columns s c.in_ok-gone.gone.items c.free.result c.requires.well_formed.count c.free.ensures c.in_ok-gone.ensures in
    let is : c.in_ok-systems.systems.items ≡ map (system_of (free_columns s) []) c.in_ok-lists.lists.items = grind arith in
    let rows : c.in_ok-rows.rows ≡ opened_rows s c.as_slice-2.result.now = grind arith in
    let kept : c.opened_rows.new.meter ≡ c.args.meter.now = c.in_ok-rows.ensures.exact.1 in
    (systems_flat c.args.meter.now s c.as_slice-2.result.now c.in_ok-lists.lists.items c.in_ok-systems.systems.items
    c.requires.well_formed gone
    (rw (rows, kept) at c.in_ok-lists.ensures.exact.0) is).normal
