use Rattle.std.proofs.Common.{◌∙◌, ap}
use Rattle.isl_space.specs.Shape.{form_of}
use Rattle.isl_precedence.specs.declared.forms.Forms.{Forms}
use Rattle.isl_precedence.specs.declared.precedence.Precedence.{Precedence}
use Rattle.isl_flow.specs.Turned.{AreTurnedForms}
use Rattle.isl_flow.proofs.TurnedLaws.{turned_made, turned_narrow, turned_width}
use Rattle.isl_flow.proofs.turned.turned.Goals as goal

pub widths_for-requires : goal.widths_for-requires
widths_for-requires c =
    let r = c.args.precedence.now in
    let f : Forms = record {
      source = c.in_ok-clone.field-0;
      sink = c.in_ok-clone-2.field-0;
      access = c.in_ok-clone-3.field-0;
      time = c.in_ok-clone-4.field-0;
    } in
    let turned : AreTurnedForms r.forms f = record {
      source = ap form_of c.in_ok-clone.ensures.cases;
      sink = ap form_of c.in_ok-clone-2.ensures.cases;
      access = ap form_of c.in_ok-clone-3.ensures.cases;
      time = ap form_of c.in_ok-clone-4.ensures.cases;
    } in
    turned_narrow r.forms f turned c.requires.precedence.narrow

pub spread-requires-clause-columns : goal.spread-requires-clause-columns
spread-requires-clause-columns c =
    let r = c.args.precedence.now in
    let f : Forms = record {
      source = c.in_ok-clone.field-0;
      sink = c.in_ok-clone-2.field-0;
      access = c.in_ok-clone-3.field-0;
      time = c.in_ok-clone-4.field-0;
    } in
    let turned : AreTurnedForms r.forms f = record {
      source = ap form_of c.in_ok-clone.ensures.cases;
      sink = ap form_of c.in_ok-clone-2.ensures.cases;
      access = ap form_of c.in_ok-clone-3.ensures.cases;
      time = ap form_of c.in_ok-clone-4.ensures.cases;
    } in
    rw (c.as_slice.ensures.value, c.in_ok-widths.ensures.exact)
    (c.requires.precedence.free ∙ turned_width c.args.params.now r.forms f turned)

pub returns : goal.returns
returns c =
    let g = c.args.meter.now in
    let params = c.args.params.now in
    let r = c.args.precedence.now in
    let f : Forms = record {
      source = c.in_ok-clone.field-0;
      sink = c.in_ok-clone-2.field-0;
      access = c.in_ok-clone-3.field-0;
      time = c.in_ok-clone-4.field-0;
    } in
    let turned : AreTurnedForms r.forms f = record {
      source = ap form_of c.in_ok-clone.ensures.cases;
      sink = ap form_of c.in_ok-clone-2.ensures.cases;
      access = ap form_of c.in_ok-clone-3.ensures.cases;
      time = ap form_of c.in_ok-clone-4.ensures.cases;
    } in
    let q : Precedence = record { forms = f; system = c.in_ok-system.system } in
    let spread = rw (c.as_slice.ensures.value, c.in_ok-widths.ensures.exact) at
    (c.in_ok-system.ensures g c.requires.precedence.within) in
    turned_made g params r q c.requires turned spread
