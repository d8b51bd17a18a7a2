use Rattle.std.proofs.Common.{◌≡◌, sym, ap, ◌∙◌, subst, arith, ◌+◌, ◌∷◌, [], get_or, length, map}
use Rattle.std.specs.List.{All}
use Rattle.std.proofs.lemmas.Result.{err_from_is_err_and}
use Rattle.isl_space.specs.SpaceForm.{SpaceForm, IsWellFormedSpace}
use Rattle.isl_piece.specs.declared.system.System.{System}
use Rattle.isl_piece.specs.System.{HoldsSystem, IsSystemWithin, free_columns}
use Rattle.isl_ledger.proofs.AnsweredLaws.{tame_more}
use Rattle.isl_ledger.proofs.SizeLaws.{system_wider}
use Rattle.isl_elim.specs.Sample.{IsNowhere}
use Rattle.isl_difference.specs.Difference.{IsCovered}
use Rattle.isl_difference.specs.Tame.{HasFewDifferences, left_work}
use Rattle.isl_difference.proofs.TameLaws.{few_differences, left_work_more, tame_memory}
use Rattle.isl_union.specs.Tame.{systems_of}
use Rattle.isl_union.specs.Minus.{systems_in, AreCovered}
use Rattle.isl_union.specs.Piece.{kept_piece}
use Rattle.isl_union.proofs.CompareLaws.{covered_back, covered_from, true_exactly}
use Rattle.isl_union.proofs.MinusLaws.{systems_all, systems_free, systems_within, view_somewhere}
use Rattle.isl_union.proofs.TameLaws.{all_found, few_found}
use Rattle.isl_union.proofs.compare.is_piece_covered.Goals as goal

pub systems_in-requires : goal.systems_in-requires
systems_in-requires c = subst IsWellFormedSpace (sym c.space.ensures) c.requires.piece.kept.space

pub is_covered-requires-clause-others_within : goal.is_covered-requires-clause-others_within
is_covered-requires-clause-others_within c =
    rw c.as_slice.ensures.value
    (subst (All (IsSystemWithin c.args.meter.now)) (sym c.in_ok-systems.ensures)
    (systems_within c.args.meter.now _ c.args.others.now c.requires.others_within))

pub is_covered-requires-clause-columns : goal.is_covered-requires-clause-columns
is_covered-requires-clause-columns c =
    let piece = c.args.piece.now in
    let others = c.args.others.now in
    let are = c.in_ok-systems.ensures ∙ ap (λ (s : SpaceForm). systems_in s others) c.space.ensures in
    rw (c.as_slice.ensures.value, c.system.ensures)
    (subst (All (λ (s : System). free_columns s ≡ free_columns piece.system)) (sym are)
    (systems_free c.args.params.now piece others c.requires.piece c.requires.others))

pub returns-clause-exact : goal.returns-clause-exact
returns-clause-exact c =
    let params = c.args.params.now in
    let piece = c.args.piece.now in
    let others = c.args.others.now in
    let systems = map (λ s. s.now) c.in_ok-systems.systems.items in
    let are = c.in_ok-systems.ensures ∙ ap (λ (s : SpaceForm). systems_in s others) c.space.ensures in
    let covered = rw (c.as_slice.ensures.value, c.system.ensures) at c.is_covered.ensures.covered in
    let only = rw (c.as_slice.ensures.value, c.system.ensures) at c.is_covered.ensures.only in
    true_exactly (IsCovered piece.system systems) (AreCovered params (kept_piece piece ∷ []) (map kept_piece others)) c.is_covered.result
    (covered_from params piece c.requires.piece others systems are)
    (covered_back params piece c.requires.piece others systems are c.requires.names) covered
    (only (view_somewhere params piece c.requires.piece))

-- ---- of difference constraints
pub returns-in_err-systems-clause-tame : goal.returns-in_err-systems-clause-tame
returns-in_err-systems-clause-tame c = λ columns bits limit room own all.
    let p = err_from_is_err_and c.from_residual.result c.from_residual.ensures.1 in
    rw (p.1, p.2) (tame_memory 0 _ c.args.meter.now c.args.meter.now _ (omega arith) (omega arith))

pub returns-clause-tame : goal.returns-clause-tame
returns-clause-tame c = λ columns bits limit room own all.
    let P : System → Type 0 = λ s. ¬ IsNowhere (free_columns s) (HoldsSystem s) in
    let params = c.args.params.now in
    let piece = c.args.piece.now in
    let others = c.args.others.now in
    let systems = c.in_ok-systems.systems.items in
    let are = c.in_ok-systems.ensures ∙ ap (λ (s : SpaceForm). systems_in s others) c.space.ensures in
    let few = few_found (λ s. s.now) piece.space others systems are in
    let each = all_found (λ s. s.now) piece.space others systems are (HasFewDifferences columns bits)
    (λ k d l. few_differences columns bits (get_or (systems_of others) k d) (all k d l)) in
    let live = subst (All P) (sym are) (systems_all P piece.space others (λ k d l same.
    view_somewhere params (get_or others k d) (c.requires.others k d l))) in
    let first = system_wider columns columns bits (bits + 1) piece.system (omega arith) (omega arith) own in
    let asked = (rw (c.as_slice.ensures.value, c.system.ensures) at c.is_covered.ensures.tame) columns bits limit room first each live in
    tame_more (left_work columns (length systems)) (left_work columns (length others)) c.args.meter.now c.is_covered.new.meter _ _
    c.is_covered.result (left_work_more columns (length systems) (length others) few) (λ covered t. t) asked
