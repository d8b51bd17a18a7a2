use Rattle.isl_products.proofs.PlaceLaws.{joined_free, joined_all}
use Rattle.isl_products.specs.Layout.{layout_view}
use Rattle.isl_products.proofs.placed.joined.Goals as goal

pub meet-requires : goal.meet-requires
meet-requires c =
    let w = c.requires.within in
    joined_free w.0 c.args.params.now (layout_view c.args.layout.now) c.args.a.now c.args.b.now c.in_ok-own.own c.in_ok-other.other
    (c.in_ok-own.ensures w.0 w.1) (c.in_ok-other.ensures w.0 w.2)

pub returns : goal.returns
returns c = λ g first second.
    let own = c.in_ok-own.ensures g first in
    let other = c.in_ok-other.ensures g second in
    joined_all g c.args.params.now (layout_view c.args.layout.now) c.args.a.now c.args.b.now c.in_ok-own.own c.in_ok-other.other
    own other c.meet.result c.meet.ensures.exact (λ point. c.meet.ensures.points g point own.over.within other.over.within)
    (c.meet.ensures.within g own.over.within other.over.within) (c.meet.ensures.free g own.over.within other.over.within)
