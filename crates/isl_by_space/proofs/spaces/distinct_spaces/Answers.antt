use Rattle.std.proofs.Common.{◌≡◌, ◌+◌, ◌++◌, [], ◌∷◌, sym, ap, ◌∙◌, subst, arith, ℕ, List, map, take}
use Rattle.std.specs.List.{Any}
use Rattle.std.proofs.lemmas.Grind.{common_steps}
use Rattle.std.proofs.lemmas.List.{map-append, take_all}
use Rattle.isl_math.proofs.ListLaws.{Any-unmapped}
use Rattle.isl_space.specs.Space.{space_form_of}
use Rattle.isl_space.specs.SpaceForm.{SpaceForm, space_text_of}
use Rattle.isl_space.specs.declared.space.Space.{Space}
use Rattle.isl_piece.specs.Piece.{PieceView}
use Rattle.isl_difference.proofs.BoundLaws.{not_so}
use Rattle.isl_union.proofs.AlignedLaws.{Any-mapped}
use Rattle.isl_by_space.specs.Spaces.{AreSpacesOf}
use Rattle.isl_by_space.specs.Titles.{HasPlace}
use Rattle.isl_by_space.proofs.PlaceLaws.{placed_more, placed_none}
use Rattle.isl_by_space.proofs.SpaceLaws.{spaces_known, spaces_new, spaces_none}
use Rattle.isl_by_space.proofs.spaces.distinct_spaces.Goals.{then-not-is_known+in_ok-put+in_ok-copy+in_ok-push, else-not-is_known}
use Rattle.isl_by_space.proofs.spaces.distinct_spaces.Goals as goal

pub loop-piece-init : goal.loop-piece-init
loop-piece-init c = rw c.new-spaces.ensures.items (spaces_none, placed_none c.new-places.result.entries)

pub loop-piece-preserved : goal.loop-piece-preserved
loop-piece-preserved c =
    let pieces = c.args.pieces.now in
    let i = c.loop-piece.piece-index in
    let piece = c.piece-item.result in
    let low = c.loop-piece-test.true in
    let found = c.loop-piece.spaces.items in
    let Is : SpaceForm → Type 0 = λ s. Any (λ other. s ≡ space_form_of other) found in
    let title : c.in_ok-title.title ≡ space_text_of piece.space = grind (arith, common_steps) in
    let told = rw (c.as_slice.ensures.value, c.space-space.ensures) at c.is_known.ensures in
    elim c.if-not-is_known.branch [
      | then-not-is_known+in_ok-put+in_ok-copy+in_ok-push w ↦
          let none = not_so (Is piece.space) c.is_known.result w.if-not-is_known.true told in
          let pushed = ap (λ v. v.items) w.spaces-is ∙ w.in_ok-push.ensures.items in (
            spaces_new pieces i piece low c.piece-item.is (map space_form_of found) c.loop-piece.invariant.0
                (λ any. none (Any-unmapped (λ s. piece.space ≡ s) space_form_of found any)) (map space_form_of c.if-not-is_known.spaces.items)
                (ap (λ (l : List Space). map space_form_of l) pushed
                ∙ map-append space_form_of found (w.in_ok-copy.field-0 ∷ [])
                ∙ ap (λ s. map space_form_of found ++ s ∷ []) (w.in_ok-copy.ensures ∙ c.space-space.ensures)),
            rw (pushed, w.places-is) (placed_more found w.in_ok-copy.field-0 c.loop-piece.places.entries w.put.new.places.entries
                w.in_ok-put.ensures.others c.loop-piece.invariant.1
                (subst (λ (t : List ℕ). HasPlace t w.put.new.places.entries)
                (title ∙ ap space_text_of (sym (w.in_ok-copy.ensures ∙ c.space-space.ensures))) w.in_ok-put.ensures.own)),
          )
      | else-not-is_known w ↦ (
        subst (λ l. AreSpacesOf (take (i + 1) pieces) (map space_form_of l)) (ap (λ v. v.items) (sym w.spaces-is))
            (spaces_known pieces i piece low c.piece-item.is (map space_form_of found) c.loop-piece.invariant.0
            (Any-mapped (λ s. piece.space ≡ s) space_form_of found (told.0 w.if-not-is_known.false))),
        rw (w.spaces-is, w.places-is) c.loop-piece.invariant.1,
      )
    ]

pub returns : goal.returns
returns c =
    subst (λ (l : List PieceView). AreSpacesOf l (map space_form_of c.loop-piece.spaces.items))
    (take_all c.loop-piece.piece-index c.args.pieces.now c.loop-piece-test.false) c.loop-piece.invariant.0
