use Rattle.std.proofs.Common.{◌≡◌, ◌<◌, ◌^◌, ◌-◌, refl, ap, arith}
use Rattle.isl_space.specs.Form.{width_of}
use Rattle.isl_space.specs.Shape.{form_of}
use Rattle.isl_piece.specs.System.{free_columns}
use Rattle.isl_nest.specs.Covered.{view_of}
use Rattle.isl_nest.specs.declared.item.Item.{Item}
use Rattle.isl_calls.specs.Apart.{called_form}
use Rattle.isl_schedule.specs.Due.{name_of}
use Rattle.isl_calls.proofs.CalledLaws.{view_made}
use Rattle.isl_calls.proofs.CoverLaws.{domain_fits, is_covered}
use Rattle.isl_calls.proofs.ItemsLaws.{item_made}
use Rattle.isl_calls.proofs.item.item_of.Goals as goal

pub returns-clause-item : goal.returns-clause-item
returns-clause-item c =
    let g = c.args.meter.now in
    let params = c.args.params in
    let calls = c.args.calls.now in
    let covers = c.in_ok-covers.ensures in
    let item : Item = record {
      name = c.in_ok-name_of.field-0;
      params = params;
      levels = c.free-end.result - params;
      times = c.width.result;
      arguments = c.in_ok-columns_between.field-0;
      rows = c.in_ok-copy.field-0;
      covers = c.in_ok-covers_of.field-0;
    } in
    let name : c.in_ok-name_of.field-0 ≡ name_of (called_form calls) = grind arith in
    let times : c.width.result ≡ width_of (form_of calls.time.value) = grind arith in
    let domain : c.width-2.result ≡ width_of (called_form calls) = grind arith in
    let end : c.free-end.result ≡ free_columns calls.system = grind arith in
    let narrow : free_columns calls.system < 2 ^ 64 = grind arith in
    let arguments = rw (end, domain) at c.in_ok-columns_between.ensures in
    let is = view_made params calls c.requires.free (domain_fits g params calls c.requires) (view_of item) name refl
    (ap (λ n. n - params) end) times arguments c.in_ok-copy.ensures in
    item_made g params calls c.requires item is
    (is_covered g params calls c.requires c.in_ok-covers.covers covers.covers covers.ended covers.within covers.plain item is
    c.in_ok-covers_of.ensures narrow)
