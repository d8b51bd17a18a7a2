use Rattle.std.proofs.Common.{◌≡◌, [], sym, ap, ◌∙◌, arith, subst, ◌+◌, ◌∷◌, get_or, length, map}
use Rattle.std.specs.List.{All}
use Rattle.std.proofs.lemmas.Grind.{common_steps}
use Rattle.std.proofs.lemmas.List.{nil_from_length}
use Rattle.std.proofs.lemmas.List.Elements.{All-cons, All-map, All-nil}
use Rattle.std.proofs.lemmas.Result.{err_from_is_err_and}
use Rattle.isl_piece.specs.Piece.{PieceView}
use Rattle.isl_space.specs.SpaceForm.{SpaceForm, IsWellFormedSpace}
use Rattle.isl_piece.specs.declared.system.System.{System}
use Rattle.isl_piece.specs.System.{IsSystemWithin, free_columns}
use Rattle.isl_ledger.proofs.SizeLaws.{system_wider}
use Rattle.isl_difference.specs.Tame.{HasFewDifferences, left_size, left_work}
use Rattle.isl_difference.proofs.TameLaws.{few_differences, left_size_more, left_work_more, tame_memory, tame_ok}
use Rattle.isl_union.specs.Tame.{systems_of}
use Rattle.isl_union.specs.Minus.{piece_in, systems_in}
use Rattle.isl_union.proofs.CountLaws.{length_mapped}
use Rattle.isl_union.proofs.MinusLaws.{left_alone, left_over, systems_all, systems_free, systems_within}
use Rattle.isl_union.proofs.TameLaws.{all_found, cut_more, few_found, left_pieces, one_left}
use Rattle.isl_union.proofs.minus.piece_without.Goals as goal

pub systems_in-requires : goal.systems_in-requires
systems_in-requires c = subst IsWellFormedSpace (sym c.space-space.ensures) c.requires.piece.kept.space

pub returns-then-is_empty-clause-exact : goal.returns-then-is_empty-clause-exact
returns-then-is_empty-clause-exact c =
    let piece = c.args.piece.now in
    let others = c.args.others.now in
    let count : length c.in_ok-systems.systems.items ≡ 0 = grind (arith, common_steps) in
    let none : systems_in piece.space others ≡ [] =
    sym (ap (λ (s : SpaceForm). systems_in s others) c.space-space.ensures) ∙ sym c.in_ok-systems.ensures
    ∙ ap (map (λ s. s.now)) (nil_from_length c.in_ok-systems.systems.items count) in
    left_alone c.args.meter.now c.args.params.now piece c.requires.piece others c.push.new.self.items none c.requires.piece_within
    (grind (arith, common_steps))

pub outside-requires-clause-others_within : goal.outside-requires-clause-others_within
outside-requires-clause-others_within c =
    rw c.as_slice.ensures.value
    (subst (All (IsSystemWithin c.args.meter.now)) (sym c.in_ok-systems.ensures)
    (systems_within c.args.meter.now _ c.args.others.now c.requires.others_within))

pub outside-requires-clause-columns : goal.outside-requires-clause-columns
outside-requires-clause-columns c =
    let piece = c.args.piece.now in
    let others = c.args.others.now in
    let are = c.in_ok-systems.ensures ∙ ap (λ (s : SpaceForm). systems_in s others) c.space-space.ensures in
    rw (c.as_slice.ensures.value, c.system.ensures)
    (subst (All (λ (s : System). free_columns s ≡ free_columns piece.system)) (sym are)
    (systems_free c.args.params.now piece others c.requires.piece c.requires.others))

pub returns-clause-exact : goal.returns-clause-exact
returns-clause-exact c =
    let g = c.args.meter.now in
    let piece = c.args.piece.now in
    let others = c.args.others.now in
    let systems = map (λ s. s.now) c.in_ok-systems.systems.items in
    let parts = c.in_ok-left.left.items in
    let left = c.in_ok-pieces_in.field-0.items in
    let exact = rw (c.as_slice.ensures.value, c.system.ensures) at c.in_ok-left.ensures.exact in
    left_over g c.args.params.now piece c.requires.piece others systems parts left
    (c.in_ok-systems.ensures ∙ ap (λ (s : SpaceForm). systems_in s others) c.space-space.ensures) exact.0
    (c.in_ok-pieces_in.ensures ∙ ap (λ (s : SpaceForm). map (piece_in s) parts) c.space-space.ensures)

pub returns-clause-counted : goal.returns-clause-counted
returns-clause-counted c =
    let count = length_mapped _ c.in_ok-left.left.items c.in_ok-pieces_in.field-0.items c.in_ok-pieces_in.ensures in
    let counted = c.in_ok-left.ensures.counted in
    omega (arith, count, counted)

pub returns-then-is_empty-clause-definitions : goal.returns-then-is_empty-clause-definitions
returns-then-is_empty-clause-definitions c = λ own others.
    let P : PieceView → Type 0 = λ p. p.system.definitions ≡ [] in
    let is : c.push.new.self.items ≡ c.args.piece.now ∷ [] = grind (arith, common_steps) in
    subst (All P) (sym is) (All-cons P c.args.piece.now [] own (All-nil P))

pub returns-clause-definitions : goal.returns-clause-definitions
returns-clause-definitions c = λ own others.
    let P : System → Type 0 = λ s. s.definitions ≡ [] in
    let Q : PieceView → Type 0 = λ p. p.system.definitions ≡ [] in
    let space = c.args.piece.now.space in
    let parts = c.in_ok-left.left.items in
    let are = c.in_ok-systems.ensures ∙ ap (λ (s : SpaceForm). systems_in s c.args.others.now) c.space-space.ensures in
    let all = subst (All P) (sym are) (systems_all P space c.args.others.now (λ k d l same. others k d l)) in
    let left = (rw (c.as_slice.ensures.value, c.system.ensures) at c.in_ok-left.ensures.definitions) own all in
    let made = c.in_ok-pieces_in.ensures ∙ ap (λ (s : SpaceForm). map (piece_in s) parts) c.space-space.ensures in
    subst (All Q) (sym made) (All-map Q (piece_in space) parts (λ k d l. left k d l))

-- ---- of difference constraints
pub returns-in_err-systems-clause-tame : goal.returns-in_err-systems-clause-tame
returns-in_err-systems-clause-tame c = λ columns bits limit room own all.
    let p = err_from_is_err_and c.from_residual.result c.from_residual.ensures.1 in
    rw (p.1, p.2) (tame_memory 0 _ c.args.meter.now c.args.meter.now _ (omega arith) (omega arith))

pub returns-in_err-copy-clause-tame : goal.returns-in_err-copy-clause-tame
returns-in_err-copy-clause-tame c = λ columns bits limit room own all.
    let p = err_from_is_err_and c.from_residual-in_err-copy.result c.from_residual-in_err-copy.ensures.1 in
    rw (p.1, p.2) (tame_memory 0 _ c.args.meter.now c.args.meter.now _ (omega arith) (omega arith))

pub returns-in_err-push-clause-tame : goal.returns-in_err-push-clause-tame
returns-in_err-push-clause-tame c = λ columns bits limit room own all.
    let p = err_from_is_err_and c.from_residual-in_err-push.result c.from_residual-in_err-push.ensures.1 in
    rw (p.1, p.2) (tame_memory 0 _ c.args.meter.now c.args.meter.now _ (omega arith) (omega arith))

pub returns-then-is_empty-clause-tame : goal.returns-then-is_empty-clause-tame
returns-then-is_empty-clause-tame c = λ columns bits limit room own all.
    let is : c.push.new.self.items ≡ c.args.piece.now ∷ [] = grind (arith, common_steps) in
    tame_ok _ c.args.meter.now c.args.meter.now _ _ (omega arith)
    (one_left columns bits (length c.args.others.now) c.args.piece.now c.push.new.self.items is own)

pub returns-in_err-left-clause-tame : goal.returns-in_err-left-clause-tame
returns-in_err-left-clause-tame c = λ columns bits limit room own all.
    let g = c.args.meter.now in
    let piece = c.args.piece.now in
    let others = c.args.others.now in
    let systems = c.in_ok-systems.systems.items in
    let are = c.in_ok-systems.ensures ∙ ap (λ (s : SpaceForm). systems_in s others) c.space-space.ensures in
    let few = few_found (λ s. s.now) piece.space others systems are in
    let each = all_found (λ s. s.now) piece.space others systems are (HasFewDifferences columns bits)
    (λ k d l. few_differences columns bits (get_or (systems_of others) k d) (all k d l)) in
    let first = system_wider columns columns bits (bits + 1) piece.system (omega arith) (omega arith) own in
    let p = err_from_is_err_and c.from_residual-in_err-left.result c.from_residual-in_err-left.ensures.1 in
    let cut = (rw (c.as_slice.ensures.value, c.system.ensures) at c.in_err-left.ensures.tame) columns bits limit room first each in
    rw (p.1, p.2) (cut_more (left_work columns (length systems)) (left_work columns (length others)) g c.outside.new.meter _ _
    c.in_err-left.field-0.0 (left_work_more columns (length systems) (length others) few) cut)

pub returns-in_err-pieces_in-clause-tame : goal.returns-in_err-pieces_in-clause-tame
returns-in_err-pieces_in-clause-tame c = λ columns bits limit room own all.
    let g = c.args.meter.now in
    let piece = c.args.piece.now in
    let others = c.args.others.now in
    let systems = c.in_ok-systems.systems.items in
    let are = c.in_ok-systems.ensures ∙ ap (λ (s : SpaceForm). systems_in s others) c.space-space.ensures in
    let few = few_found (λ s. s.now) piece.space others systems are in
    let each = all_found (λ s. s.now) piece.space others systems are (HasFewDifferences columns bits)
    (λ k d l. few_differences columns bits (get_or (systems_of others) k d) (all k d l)) in
    let first = system_wider columns columns bits (bits + 1) piece.system (omega arith) (omega arith) own in
    let p = err_from_is_err_and c.from_residual-in_err-pieces_in.result c.from_residual-in_err-pieces_in.ensures.1 in
    let asked = (rw (c.as_slice.ensures.value, c.system.ensures) at c.in_ok-left.ensures.tame) columns bits limit room first each in
    rw (p.1, p.2) (tame_memory (left_work columns (length systems)) (left_work columns (length others)) g c.outside.new.meter _
    asked.within.units (left_work_more columns (length systems) (length others) few))

pub returns-clause-tame : goal.returns-clause-tame
returns-clause-tame c = λ columns bits limit room own all.
    let g = c.args.meter.now in
    let piece = c.args.piece.now in
    let others = c.args.others.now in
    let systems = c.in_ok-systems.systems.items in
    let are = c.in_ok-systems.ensures ∙ ap (λ (s : SpaceForm). systems_in s others) c.space-space.ensures in
    let few = few_found (λ s. s.now) piece.space others systems are in
    let each = all_found (λ s. s.now) piece.space others systems are (HasFewDifferences columns bits)
    (λ k d l. few_differences columns bits (get_or (systems_of others) k d) (all k d l)) in
    let first = system_wider columns columns bits (bits + 1) piece.system (omega arith) (omega arith) own in
    let asked = (rw (c.as_slice.ensures.value, c.system.ensures) at c.in_ok-left.ensures.tame) columns bits limit room first each in
    let parts = c.in_ok-left.left.items in
    let left = c.in_ok-pieces_in.field-0.items in
    let made = c.in_ok-pieces_in.ensures ∙ ap (λ (s : SpaceForm). map (piece_in s) parts) c.space-space.ensures in
    let used = asked.within.units in
    let most = left_work_more columns (length systems) (length others) few in
    tame_ok (left_work columns (length others)) g c.outside.new.meter _ _ (omega (arith, used, most))
    (left_pieces (left_size columns bits (length others)) piece.space parts left made
    (left_size_more columns bits (length systems) (length others) parts few asked.answer))
