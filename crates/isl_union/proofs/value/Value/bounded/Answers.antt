use Rattle.std.proofs.Common.{◌≡◌, ◌∙◌, ap, length, sym, subst, All}
use Rattle.std.specs.Prelude.{◌↔◌}
use Rattle.isl_tower.specs.Bounded.{IsBounded}
use Rattle.isl_union.specs.Finite.{IsFinite}
use Rattle.isl_union.proofs.BoundedLaws.{finite_value, pieces_wide, pieces_within, told}
use Rattle.isl_union.proofs.value.Value.bounded.Goals as goal

pub are_pieces_bounded-requires : goal.are_pieces_bounded-requires
are_pieces_bounded-requires c =
    let g = c.args.meter.now in
    let value = c.args.self.now in
    let pieces = c.pieces.result.now in
    let sound = c.pieces.ensures.well_formed in
    let same = c.pieces.ensures.content in
    record {
      within = pieces_within g value pieces sound same c.requires;
      columns = pieces_wide g value pieces sound same c.len.result (c.len.ensures.len ∙ ap length c.params.ensures.content);
    }

pub returns-clause-exact : goal.returns-clause-exact
returns-clause-exact c =
    let value = c.args.self.now in
    let pieces = c.pieces.result.now in
    let outer = c.len.result in
    let names : outer ≡ length value.params = c.len.ensures.len ∙ ap length c.params.ensures.content in
    told (All (λ p. IsBounded p.system outer) pieces) (IsFinite value) c.in_ok-are_pieces_bounded.field-0
    (subst (λ n. All (λ p. IsBounded p.system n) pieces ↔ IsFinite value) (sym names)
    (finite_value c.args.meter.now value pieces c.pieces.ensures.well_formed c.pieces.ensures.content
    c.pieces.ensures.kept.params.distinct))
    c.in_ok-are_pieces_bounded.ensures.exact
