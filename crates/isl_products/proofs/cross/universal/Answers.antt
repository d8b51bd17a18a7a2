use Rattle.std.proofs.Common.{◌↔◌}
use Rattle.std.proofs.lemmas.Result.{IfOk-weaker, MatchResult-weaker}
use Rattle.isl_space.specs.Names.{joined}
use Rattle.isl_relation.specs.Sets.{UniversalHas}
use Rattle.isl_relation.specs.Formed.{FormsUniversal}
use Rattle.isl_relation.specs.Wide.{PairsTooWide}
use Rattle.isl_union.specs.KeptValue.{Has}
use Rattle.isl_union.proofs.PiecesLaws.{through}
use Rattle.isl_products.specs.declared.layout.Product.TheVariants.{Universal}
use Rattle.isl_products.specs.Made.{IsWidePair, ProductHas}
use Rattle.isl_products.proofs.HasLaws.{universal_has}
use Rattle.isl_products.proofs.WideLaws.{universal_wide, fault_in}
use Rattle.isl_products.proofs.cross.universal.Goals as goal

pub returns-clause-elements : goal.returns-clause-elements
returns-clause-elements c v e =
    let M = Has c.args.a.now v in
    let N = Has c.args.b.now v in
    IfOk-weaker c.product_of.result (λ value. Has value v e ↔ ProductHas Universal M N e) (λ value. Has value v e ↔ UniversalHas M N e)
    (λ value h. through h (universal_has M N e)) (c.product_of.ensures.elements v e)

pub returns-clause-units : goal.returns-clause-units
returns-clause-units c =
    let a = c.args.a.now in
    let b = c.args.b.now in
    let g = c.args.meter.now in
    let h = c.product_of.new.meter in
    let params = joined a.params b.params in
    let same = universal_wide a b in
    MatchResult-weaker c.product_of.result c.product_of.ensures.units (λ value p. (p.0, (λ w. p.1 (same.1 w)), p.2))
    (λ fault f. fault_in params (IsWidePair Universal a b) (PairsTooWide FormsUniversal a b) g h fault same f)
