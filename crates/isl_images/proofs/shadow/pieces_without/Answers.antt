use Rattle.std.proofs.Common.{◌≡◌, ◌≢◌, ◌↔◌, ◌∙◌, sym, ap, arith, subst, ◌+◌, ◌-◌, ◌<◌, ℕ, List, get_or, map, unsigned_abs}
use Rattle.std.specs.Prelude.{AllPairs}
use Rattle.std.specs.List.{All, range_with_len}
use Rattle.isl_meter.specs.Gauge.{limit_of}
use Rattle.isl_space.specs.Space.{space_form_of}
use Rattle.isl_piece.specs.System.{free_columns}
use Rattle.isl_piece.proofs.FormedLaws.{system_within_kept}
use Rattle.isl_elim.specs.Elimination.{IsProjectionAlong}
use Rattle.isl_elim.proofs.RangeLaws.{range_below, range_distinct}
use Rattle.isl_union.specs.Numbers.{IsPieceUpTo}
use Rattle.isl_union.specs.Piece.{kept_piece, IsPieceOf}
use Rattle.isl_union.specs.Pieces.{IsOfAny}
use Rattle.isl_union.proofs.MeetSteps.{charged_bits}
use Rattle.isl_images.specs.Made.{elements_of_all, ArePiecesOf}
use Rattle.isl_images.specs.Shadow.{IsShadow}
use Rattle.isl_images.proofs.ResultLaws.{ok_case, ok_has}
use Rattle.isl_images.proofs.ShadowLaws.{shadow_columns, shadow_made}
use Rattle.isl_images.proofs.shadow.pieces_without.Goals as goal

pub project-requires-clause-distinct : goal.project-requires-clause-distinct
project-requires-clause-distinct c =
    let gap = c.args.gap in
    let first = c.len.result + gap.from in
    let width : first + gap.count - first ≡ gap.count = omega arith in
    subst (λ (cols : List ℕ). AllPairs (λ a b. a ≢ b) cols)
    (sym (c.as_slice.ensures.value ∙ c.in_ok-columns.ensures ∙ ap (range_with_len first) width)) (range_distinct first gap.count)

pub project-requires-clause-cols_in : goal.project-requires-clause-cols_in
project-requires-clause-cols_in c =
    let gap = c.args.gap in
    let first = c.len.result + gap.from in
    let width : first + gap.count - first ≡ gap.count = omega arith in
    let l = c.len.ensures.len in
    let i = c.requires.gap.inside in
    let n = c.requires.gap.columns in
    subst (λ (cols : List ℕ). All (λ col. col < free_columns c.args.system.now) cols)
    (sym (c.as_slice.ensures.value ∙ c.in_ok-columns.ensures ∙ ap (range_with_len first) width))
    (range_below first gap.count (free_columns c.args.system.now) (omega (arith, l, i, n)))

pub live_pieces_in-requires-clause-columns : goal.live_pieces_in-requires-clause-columns
live_pieces_in-requires-clause-columns c =
    let s = c.args.system.now in
    let gap = c.args.gap in
    let systems = c.in_ok-systems.systems.items in
    let first = c.len.result + gap.from in
    let width : first + gap.count - first ≡ gap.count = omega arith in
    let at = c.as_slice.ensures.value ∙ c.in_ok-columns.ensures ∙ ap (range_with_len first) width
    ∙ ap (λ n. range_with_len (n + gap.from) gap.count) c.len.ensures.len in
    shadow_columns c.args.params.now s (space_form_of c.args.space.now) gap c.requires.gap systems
    (subst (λ (cols : List ℕ). IsProjectionAlong s cols systems) at c.in_ok-systems.ensures.projection)

pub live_pieces_in-requires-clause-within : goal.live_pieces_in-requires-clause-within
live_pieces_in-requires-clause-within c = λ k d l.
    system_within_kept c.project.new.meter c.args.meter.now (get_or c.in_ok-systems.systems.items k d)
    (charged_bits c.args.meter.now c.project.new.meter c.in_ok-systems.ensures.meter) (c.in_ok-systems.ensures.within k d l)

pub returns-clause-made : goal.returns-clause-made
returns-clause-made c =
    let g = c.args.meter.now in
    let s = c.args.system.now in
    let gap = c.args.gap in
    let params = c.args.params.now in
    let space = space_form_of c.args.space.now in
    let systems = c.in_ok-systems.systems.items in
    let first = c.len.result + gap.from in
    let width : first + gap.count - first ≡ gap.count = omega arith in
    let at = c.as_slice.ensures.value ∙ c.in_ok-columns.ensures ∙ ap (range_with_len first) width
    ∙ ap (λ n. range_with_len (n + gap.from) gap.count) c.len.ensures.len in
    let projection = subst (λ (cols : List ℕ). IsProjectionAlong s cols systems) at c.in_ok-systems.ensures.projection in
    let r = c.live_pieces_in.result in
    let told = c.live_pieces_in.ensures in
    ok_case r (λ made. ArePiecesOf g params ⊥ (IsShadow params space s gap) made.items) (λ made is.
    shadow_made params s space gap c.requires.gap systems projection g c.project.new.meter c.in_ok-systems.ensures.meter
    made.items
    (λ v e. ok_has r made (λ m. elements_of_all params m.items v e ↔ IsOfAny params space systems v e) is (told.elements v e))
    (ok_has r made (λ m. All (IsPieceOf params) m.items) is told.sound)
    (ok_has r made (λ m. All (IsPieceUpTo (unsigned_abs (limit_of c.project.new.meter))) (map kept_piece m.items)) is told.numbers))
