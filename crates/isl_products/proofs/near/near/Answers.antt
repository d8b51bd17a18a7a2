use Rattle.std.proofs.Common.{◌∙◌, ap, filter, sym}
use Rattle.isl_space.specs.Shape.{form_of}
use Rattle.isl_space.specs.Space.{space_form_of}
use Rattle.isl_products.specs.declared.layout.Product.{Product}
use Rattle.isl_products.specs.Layout.{may_join}
use Rattle.isl_products.proofs.NearLaws.{all_near, none_near}
use Rattle.isl_products.proofs.near.near.Goals as goal

pub returns-in_default : goal.returns-in_default
returns-in_default c =
    c.pieces.ensures ∙ all_near c.args.product (space_form_of c.args.space.now) c.args.others.now (λ place is. c.in_default.not-Restrict place is)

pub returns-in_default-space : goal.returns-in_default-space
returns-in_default-space c =
    none_near c.in-Restrict.place (space_form_of c.args.space.now) (form_of c.in_default-space.field-0.value) c.args.others.now
    (ap space_form_of c.in_default-space.is)
    ∙ ap (λ (product : Product). filter (may_join product (space_form_of c.args.space.now)) c.args.others.now) (sym c.in-Restrict.is)
