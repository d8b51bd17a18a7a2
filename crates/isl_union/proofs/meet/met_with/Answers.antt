use Rattle.std.proofs.Common.{◌∙◌, sym, ap, subst, arith, ◌*◌, ◌≤◌, filter, length, map, List, IfOk, MatchResult}
use Rattle.std.proofs.Math.Nat.{mul-le-mul_right}
use Rattle.std.proofs.lemmas.Result.{err_from_is_err_and}
use Rattle.std.specs.List.{All}
use Rattle.std.proofs.lemmas.List.Elements.{All-filter}
use Rattle.isl_meter.specs.Gauge.{IsCutBy}
use Rattle.isl_space.specs.SpaceForm.{SpaceForm, IsWellFormedSpace}
use Rattle.isl_piece.specs.Piece.{PieceView}
use Rattle.isl_piece.specs.System.{IsSystemWithin}
use Rattle.isl_index.specs.Found.{lies_in}
use Rattle.isl_ledger.specs.Difference.{IsDifferenceSystem}
use Rattle.isl_ledger.proofs.AnsweredLaws.{tame_more}
use Rattle.isl_ledger.proofs.SizeLaws.{of_size_wider}
use Rattle.isl_difference.specs.Tame.{test_work}
use Rattle.isl_difference.proofs.TameLaws.{tame_memory}
use Rattle.isl_union.specs.Fault.{IsChargedFrom}
use Rattle.isl_union.specs.KeptValue.{KeptPiece}
use Rattle.isl_union.specs.Live.{AreLiveOf}
use Rattle.isl_union.specs.Meet.{met_with, partners}
use Rattle.isl_union.specs.Piece.{kept_piece, IsPieceOf}
use Rattle.isl_union.specs.Tame.{size_of, systems_of}
use Rattle.isl_union.proofs.IndexLaws.{met_found, partners_found}
use Rattle.isl_union.proofs.TameLaws.{all_filtered, few_filtered}
use Rattle.isl_union.proofs.meet.met_with.Goals as goal

pub in_space-requires : goal.in_space-requires
in_space-requires c = subst IsWellFormedSpace (sym c.space.ensures) c.requires.piece.kept.space

pub met_among-requires-clause-others : goal.met_among-requires-clause-others
met_among-requires-clause-others c =
    subst (All (IsPieceOf c.args.params.now)) (sym c.in_ok-near.ensures)
    (All-filter (lies_in _) (IsPieceOf c.args.params.now) c.args.others.now c.requires.others)

pub met_among-requires-clause-others_within : goal.met_among-requires-clause-others_within
met_among-requires-clause-others_within c =
    let P : PieceView → Type 0 = λ p. IsSystemWithin c.args.meter.now p.system in
    subst (All P) (sym c.in_ok-near.ensures) (All-filter (lies_in _) P c.args.others.now c.requires.others_within)

pub returns-clause-exact : goal.returns-clause-exact
returns-clause-exact c =
    let params = c.args.params.now in
    let piece = c.args.piece.now in
    let others = c.args.others.now in
    let near = c.in_ok-near.ensures ∙ ap (λ (s : SpaceForm). filter (lies_in s) others) c.space.ensures in
    subst (λ (l : List KeptPiece). IfOk c.met_among.result (λ met. AreLiveOf params l (map kept_piece met.items)))
    (ap (λ (l : List PieceView). met_with params (map kept_piece l) (kept_piece piece)) near ∙ met_found piece params others)
    c.met_among.ensures.exact

pub returns-clause-units : goal.returns-clause-units
returns-clause-units c =
    let piece = c.args.piece.now in
    let others = c.args.others.now in
    let g = c.args.meter.now in
    let h = c.met_among.new.meter in
    let near = c.in_ok-near.ensures ∙ ap (λ (s : SpaceForm). filter (lies_in s) others) c.space.ensures in
    subst (λ n. MatchResult c.met_among.result (λ _. IsChargedFrom n g h) (IsCutBy g h))
    (ap (λ (l : List PieceView). partners (map kept_piece l) (kept_piece piece)) near ∙ partners_found piece others)
    c.met_among.ensures.units

-- ---- of difference constraints
pub returns-in_err-near-clause-tame : goal.returns-in_err-near-clause-tame
returns-in_err-near-clause-tame c = λ columns bits limit room own all.
    let p = err_from_is_err_and c.from_residual.result c.from_residual.ensures.1 in
    rw (p.1, p.2) (tame_memory 0 _ c.args.meter.now c.args.meter.now _ (omega arith) (omega arith))

pub returns-clause-tame : goal.returns-clause-tame
returns-clause-tame c = λ columns bits limit room own all.
    let others = c.args.others.now in
    let near = c.in_ok-near.near.now in
    let is = c.in_ok-near.ensures in
    let few : length near ≤ length others = rw is (few_filtered (lies_in _) others) in
    let each = subst (λ (l : List PieceView). All (IsDifferenceSystem columns bits) (systems_of l)) (sym is)
    (all_filtered (IsDifferenceSystem columns bits) (lies_in _) others all) in
    tame_more (length near * test_work columns) (length others * test_work columns) c.args.meter.now c.met_among.new.meter _ _
    c.met_among.result (mul-le-mul_right {m = length near} {n = length others} (test_work columns) few)
    (λ met h. of_size_wider (size_of (length near) columns bits) (size_of (length others) columns bits) (systems_of met.items)
    (record { pieces = few; columns = omega arith; bits = omega arith }) h)
    (c.met_among.ensures.tame columns bits limit room own each)
