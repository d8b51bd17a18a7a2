use Rattle.std.proofs.Common.{◌≡◌, ◌≤◌, ◌++◌, ◌∷◌, [], ◌∙◌, ap, arith, length, map, refl, subst, sym, take}
use Rattle.std.proofs.lemmas.Bool.{false≢true}
use Rattle.std.proofs.lemmas.Grind.{common_steps}
use Rattle.std.proofs.lemmas.List.{map-append}
use Rattle.std.proofs.lemmas.List.Elements.{All-push}
use Rattle.isl_meter.proofs.CutLemmas.{IsCharged_trans}
use Rattle.isl_space.specs.Names.{IsParameterList}
use Rattle.isl_space.specs.Valuation.{Valuation, values_of}
use Rattle.isl_elim.specs.Elimination.{HoldsAtAny}
use Rattle.isl_union.specs.Piece.{kept_piece, IsPieceOf}
use Rattle.isl_union.proofs.PiecesLaws.{next_piece}
use Rattle.isl_assumed.proofs.RegionLaws.{lives_later}
use Rattle.isl_assumed.proofs.UnderLaws.{live_made, not_live}
use Rattle.isl_assumed.proofs.ValueLaws.{live_skip, live_take, within_at}
use Rattle.isl_assumed.proofs.values.live_in.Goals.{then-branch+in_ok-copy+in_ok-push, else-branch}
use Rattle.isl_assumed.proofs.values.live_in.Goals as goal

pub is_live-requires-clause-within : goal.is_live-requires-clause-within
is_live-requires-clause-within c =
    let told = c.pieces-pieces.ensures in
    within_at c.args.meter.now c.loop-piece.meter c.args.value.now.params c.pieces-pieces.result.now c.args.value.now.pieces
    c.loop-piece.piece-index c.piece-item.result c.loop-piece.invariant.charged told.content told.well_formed c.requires.value
    c.loop-piece-test.true c.piece-item.is

pub is_live-requires-clause-systems : goal.is_live-requires-clause-systems
is_live-requires-clause-systems c =
    let n = length c.params-params.result.now in
    lives_later c.args.meter.now c.loop-piece.meter n n c.in_ok-systems.systems.items c.as_slice.result.now c.as_slice.ensures.value refl
    c.loop-piece.invariant.charged c.in_ok-systems.ensures.onto.live

pub loop-piece-preserved : goal.loop-piece-preserved
loop-piece-preserved c =
    let g = c.args.meter.now in
    let h = c.loop-piece.meter in
    let params = c.params-params.result.now in
    let pieces = c.pieces-pieces.result.now in
    let i = c.loop-piece.piece-index in
    let p = c.piece-item.result in
    let low = c.loop-piece-test.true in
    let at = c.piece-item.is in
    let kept = c.loop-piece.kept.items in
    let so_far = c.loop-piece.invariant in
    let next = next_piece pieces i p low at in
    let L : Valuation → Type 0 = λ v. HoldsAtAny c.in_ok-systems.systems.items (values_of params v) in
    let exact = rw c.as_slice.ensures.value at c.in_ok-is_live.ensures.exact in
    let own : IsPieceOf params p =
    subst (IsPieceOf params) (sym at)
    ((rw (sym c.params-params.ensures.content) at c.pieces-pieces.ensures.well_formed) i p low) in
    let charged = IsCharged_trans g h c.is_live.new.meter so_far.charged c.in_ok-is_live.ensures.meter in
    elim c.if-branch.branch [
      | then-branch+in_ok-copy+in_ok-push w ↦
          let is : c.if-branch.kept.items ≡ kept ++ p ∷ [] = grind (arith, common_steps) in
          record {
            live = rw (next, is, map-append kept_piece kept (p ∷ []))
                (live_take L params (map kept_piece (take i pieces)) (map kept_piece kept) (kept_piece p) so_far.live
                (exact.0 w.if-branch.true));
            sound = rw is (All-push (IsPieceOf params) kept p so_far.sound own);
            charged = charged;
          }
      | else-branch w ↦
          let dead = not_live L params (kept_piece p) (λ n. false≢true (sym w.if-branch.false ∙ exact.1 n)) in
          record {
            live = rw (ap (λ v. v.items) w.kept-is, next)
                (live_skip L params (map kept_piece (take i pieces)) (map kept_piece kept) (kept_piece p) so_far.live dead);
            sound = rw (ap (λ v. v.items) w.kept-is) so_far.sound;
            charged = charged;
          }
    ]

pub returns-clause-live : goal.returns-clause-live
returns-clause-live c =
    let g = c.args.meter.now in
    let value = c.args.value.now in
    let region = c.args.region.now in
    let pieces = c.pieces-pieces.result.now in
    let i = c.loop-piece.piece-index in
    let end : length pieces ≤ i = omega arith in
    let same = c.params-params.ensures.content in
    let onto = rw same at c.in_ok-systems.ensures.onto in
    let so_far = rw same at c.loop-piece.invariant.live in
    let sound = rw same at c.loop-piece.invariant.sound in
    let is = rw (c.in_ok-copy-2.ensures ∙ same) at c.from_normal.ensures in
    live_made g value region.params region.systems.items c.in_ok-systems.systems.items pieces c.loop-piece.kept.items i c.from_normal.result
    (subst IsParameterList same c.params-params.ensures.well_formed) onto end c.pieces-pieces.ensures.content so_far sound is
