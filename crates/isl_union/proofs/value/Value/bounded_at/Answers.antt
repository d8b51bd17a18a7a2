use Rattle.std.proofs.Common.{length, All}
use Rattle.isl_tower.specs.Bounded.{IsBoundedAt}
use Rattle.isl_union.specs.Finite.{IsFiniteAt}
use Rattle.isl_union.proofs.BoundedLaws.{finite_value_at, pieces_wide, pieces_within, told}
use Rattle.isl_union.proofs.value.Value.bounded_at.Goals as goal

pub are_pieces_bounded-requires : goal.are_pieces_bounded-requires
are_pieces_bounded-requires c =
    let g = c.args.meter.now in
    let value = c.args.self.now in
    let pieces = c.pieces.result.now in
    let sound = c.pieces.ensures.well_formed in
    let same = c.pieces.ensures.content in
    record {
      within = pieces_within g value pieces sound same c.requires.within;
      columns = pieces_wide g value pieces sound same (length c.args.at.now) c.requires.numbers;
    }

pub returns-clause-exact : goal.returns-clause-exact
returns-clause-exact c v named =
    let value = c.args.self.now in
    let pieces = c.pieces.result.now in
    let numbers = c.args.at.now in
    told (All (λ p. IsBoundedAt p.system numbers) pieces) (IsFiniteAt value v) c.in_ok-are_pieces_bounded.field-0
    (finite_value_at c.args.meter.now value pieces c.pieces.ensures.well_formed c.pieces.ensures.content v numbers named)
    c.in_ok-are_pieces_bounded.ensures.exact
