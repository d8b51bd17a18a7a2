use Rattle.std.proofs.Common.{◌≡◌, ◌∙◌, ap, ap₂, sym, subst, arith, ◌+◌, ◌*◌, List, ◌++◌, ◌∷◌, [], All, map}
use Rattle.std.proofs.lemmas.Result.{err_from_is_err_and}
use Rattle.isl_space.specs.Name.{Name}
use Rattle.isl_ledger.specs.Work.{allowance}
use Rattle.isl_difference.proofs.TameLaws.{tame_memory, tame_ok}
use Rattle.isl_union.specs.KeptValue.{KeptPiece, KeptValue}
use Rattle.isl_union.specs.Piece.{kept_piece, IsPieceOf}
use Rattle.isl_union.proofs.TameLaws.{cut_more, sample_allowed}
use Rattle.isl_union.proofs.SampleLaws.{first_of_size, first_within, one_made, one_sound, IsMade}
use Rattle.isl_union.proofs.value.Value.sample.Goals as goal

pub point_piece-requires-clause-within : goal.point_piece-requires-clause-within
point_piece-requires-clause-within c =
    first_within c.args.meter.now c.args.self.now c.pieces.ensures.kept c.pieces.result.now c.in-Some.first.now
    c.pieces.ensures.content c.pieces.ensures.well_formed (sym c.in-Some.ensures.value) c.requires

pub from_normal-requires-clause-pieces : goal.from_normal-requires-clause-pieces
from_normal-requires-clause-pieces c =
    let pushed = c.push.new.self.items in
    let only = c.in_ok-point_piece.field-0 in
    let items : pushed ≡ only ∷ [] = c.in_ok-push.ensures.items ∙ ap (λ l. l ++ only ∷ []) c.new-pieces.ensures.items in
    let names : c.in_ok-params.params ≡ c.args.self.now.params = c.in_ok-params.ensures ∙ c.params.ensures.content in
    subst (λ (l : List Name). All (IsPieceOf l) pushed) (sym names)
    (one_sound c.args.meter.now c.args.self.now c.pieces.ensures.kept c.pieces.result.now c.in-Some.first.now
    c.pieces.ensures.content c.pieces.ensures.well_formed (sym c.in-Some.ensures.value) only c.in_ok-point_piece.ensures.exact pushed items)

made : (c : goal.After-from_normal) → IsMade c.args.meter.now c.args.self.now c.from_normal.result
made c =
    let only = c.in_ok-point_piece.field-0 in
    let items : c.push.new.self.items ≡ only ∷ [] =
    c.in_ok-push.ensures.items ∙ ap (λ l. l ++ only ∷ []) c.new-pieces.ensures.items in
    let names : c.in_ok-params.params ≡ c.args.self.now.params = c.in_ok-params.ensures ∙ c.params.ensures.content in
    let value : List Name → List KeptPiece → KeptValue = λ l ps. record { params = l; pieces = ps } in
    one_made c.args.meter.now c.args.self.now c.pieces.ensures.kept c.pieces.result.now c.in-Some.first.now
    c.pieces.ensures.content c.pieces.ensures.well_formed (sym c.in-Some.ensures.value) c.limit-limit.ensures.bits_low only
    c.in_ok-point_piece.ensures.exact c.from_normal.result (c.from_normal.ensures ∙ ap₂ value names (ap (map kept_piece) items))

pub returns-clause-exact : goal.returns-clause-exact
returns-clause-exact c = (made c).exact

pub returns-clause-kept : goal.returns-clause-kept
returns-clause-kept c = (made c).kept

pub returns-clause-within : goal.returns-clause-within
returns-clause-within c = (made c).small

-- ---- of difference constraints
pub returns-in_err-params-clause-tame : goal.returns-in_err-params-clause-tame
returns-in_err-params-clause-tame c = λ size limit room of_size.
    let p = err_from_is_err_and c.from_residual.result c.from_residual.ensures.1 in
    rw (p.1, p.2) (tame_memory 0 _ c.args.meter.now c.args.meter.now _ (omega arith) (omega arith))

pub returns-in_default-clause-tame : goal.returns-in_default-clause-tame
returns-in_default-clause-tame c = λ size limit room of_size. tame_ok _ c.args.meter.now c.args.meter.now _ _ (omega arith) tt

pub returns-in_err-point_piece-clause-tame : goal.returns-in_err-point_piece-clause-tame
returns-in_err-point_piece-clause-tame c = λ size limit room of_size.
    let one = 8 * ((size.columns + 1) * allowance 1 size.columns) in
    let all = 8 * ((size.columns + 1) * allowance size.pieces size.columns) in
    let d = first_of_size c.args.meter.now c.args.self.now c.pieces.ensures.kept c.pieces.result.now c.in-Some.first.now
    c.pieces.ensures.content c.pieces.ensures.well_formed (sym c.in-Some.ensures.value) size of_size in
    let most = sample_allowed size.pieces size.columns d.0 in
    let p = err_from_is_err_and c.from_residual-in_err-point_piece.result c.from_residual-in_err-point_piece.ensures.1 in
    rw (p.1, p.2) (cut_more one all c.args.meter.now c.point_piece.new.meter _ _ c.in_err-point_piece.field-0.0 most
    (c.in_err-point_piece.ensures.tame size.columns size.bits limit room d.1))

pub returns-in_err-push-clause-tame : goal.returns-in_err-push-clause-tame
returns-in_err-push-clause-tame c = λ size limit room of_size.
    let one = 8 * ((size.columns + 1) * allowance 1 size.columns) in
    let all = 8 * ((size.columns + 1) * allowance size.pieces size.columns) in
    let d = first_of_size c.args.meter.now c.args.self.now c.pieces.ensures.kept c.pieces.result.now c.in-Some.first.now
    c.pieces.ensures.content c.pieces.ensures.well_formed (sym c.in-Some.ensures.value) size of_size in
    let most = sample_allowed size.pieces size.columns d.0 in
    let p = err_from_is_err_and c.from_residual-in_err-push.result c.from_residual-in_err-push.ensures.1 in
    let asked = c.in_ok-point_piece.ensures.tame size.columns size.bits limit room d.1 in
    rw (p.1, p.2) (tame_memory one all c.args.meter.now c.point_piece.new.meter _ asked.within.units most)

pub returns-clause-tame : goal.returns-clause-tame
returns-clause-tame c = λ size limit room of_size.
    let all = 8 * ((size.columns + 1) * allowance size.pieces size.columns) in
    let d = first_of_size c.args.meter.now c.args.self.now c.pieces.ensures.kept c.pieces.result.now c.in-Some.first.now
    c.pieces.ensures.content c.pieces.ensures.well_formed (sym c.in-Some.ensures.value) size of_size in
    let most = sample_allowed size.pieces size.columns d.0 in
    let asked = c.in_ok-point_piece.ensures.tame size.columns size.bits limit room d.1 in
    let used = asked.within.units in
    tame_ok all c.args.meter.now c.point_piece.new.meter _ _ (omega (arith, used, most)) tt
