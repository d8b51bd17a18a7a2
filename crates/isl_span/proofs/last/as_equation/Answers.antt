use Rattle.std.proofs.Common.{◌≡◌, ◌+◌, pos, subst, sym}
use Rattle.isl_piece.specs.declared.row.Row.{Row}
use Rattle.isl_piece.specs.Normal.{normal_row}
use Rattle.isl_piece.specs.Outcome.{Settles}
use Rattle.isl_piece.specs.Row.{IsRowWithin}
use Rattle.isl_span.proofs.CallLaws.{modulus_one}
use Rattle.isl_span.proofs.LinkLaws.{as_equation, unit_form}
use Rattle.isl_span.proofs.last.as_equation.Goals as goal

pub settle-requires-clause-modulus : goal.settle-requires-clause-modulus
settle-requires-clause-modulus c =
    subst (λ (r : Row). r.k ≡ pos 1) (sym c.in_ok-form.ensures)
    (modulus_one (c.args.last + 1) c.args.row.now c.requires.kind c.requires.formed)

pub settle-requires-clause-within : goal.settle-requires-clause-within
settle-requires-clause-within c =
    let own = subst (IsRowWithin c.args.meter.now) (sym c.in_ok-form.ensures) c.requires.within in
    record { coefs = own.coefs; constant = own.constant; k = own.k }

pub returns : goal.returns
returns c =
    unit_form c.args.meter.now c.args.last c.args.row.now c.requires.kind c.requires.formed c.requires.within c.requires.unit
    c.settle.result c.settle.new.row
    (subst (λ (r : Row). Settles c.settle.result c.settle.new.row (normal_row (as_equation r))) c.in_ok-form.ensures c.settle.ensures)
