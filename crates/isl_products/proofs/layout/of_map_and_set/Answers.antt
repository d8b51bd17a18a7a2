use Rattle.std.proofs.Common.{◌≡◌, arith}
use Rattle.std.proofs.lemmas.Grind.{common_steps}
use Rattle.isl_space.specs.Shape.{form_of}
use Rattle.isl_products.specs.Layout.{form_at}
use Rattle.isl_products.proofs.LayoutLaws.{found_at, none_at}
use Rattle.isl_products.proofs.layout.of_map_and_set.Goals as goal

pub returns-then-not-same : goal.returns-then-not-same
returns-then-not-same c =
    let x = form_of c.args.x.now.value in
    let y = form_of c.args.y.now.value in
    let z = form_of c.args.z.now in
    none_at c.args.product c.in-Restrict.place x y z c.in-Restrict.is (λ e. grind (arith, common_steps))

pub returns : goal.returns
returns c =
    let x = form_of c.args.x.now.value in
    let y = form_of c.args.y.now.value in
    let z = form_of c.args.z.now in
    let same : form_at c.in-Restrict.place x y ≡ z = grind (arith, common_steps) in
    let found = found_at c.args.product c.in-Restrict.place x y z c.in-Restrict.is same in
    grind (arith, common_steps)
