use Rattle.std.proofs.Common.{◌↔◌}
use Rattle.std.proofs.lemmas.Result.{IfOk-weaker, MatchResult-weaker}
use Rattle.isl_space.specs.Names.{joined}
use Rattle.isl_relation.specs.Maps.{RestrictRangeHas}
use Rattle.isl_union.specs.KeptValue.{Has}
use Rattle.isl_union.proofs.PiecesLaws.{through}
use Rattle.isl_products.specs.declared.layout.Place.TheVariants.{Range}
use Rattle.isl_products.specs.declared.layout.Product.TheVariants.{Restrict}
use Rattle.isl_products.specs.Made.{IsWidePair, ProductHas}
use Rattle.isl_products.proofs.HasLaws.{restrict_range_has}
use Rattle.isl_products.proofs.WideLaws.{fault_plain, restrict_none}
use Rattle.isl_products.proofs.restrict.restrict_range.Goals as goal

pub returns-clause-elements : goal.returns-clause-elements
returns-clause-elements c v e =
    let M = Has c.args.map.now v in
    let N = Has c.args.set.now v in
    IfOk-weaker c.product_of.result (λ value. Has value v e ↔ ProductHas (Restrict Range) M N e)
    (λ value. Has value v e ↔ RestrictRangeHas M N e) (λ value h. through h (restrict_range_has M N e)) (c.product_of.ensures.elements v e)

pub returns-clause-units : goal.returns-clause-units
returns-clause-units c =
    let a = c.args.map.now in
    let b = c.args.set.now in
    let g = c.args.meter.now in
    let h = c.product_of.new.meter in
    let params = joined a.params b.params in
    let none = restrict_none Range a b c.product_of.ensures.operand in
    MatchResult-weaker c.product_of.result c.product_of.ensures.units (λ value p. (p.0, p.2))
    (λ fault f. fault_plain params (IsWidePair (Restrict Range) a b) g h fault none f)
