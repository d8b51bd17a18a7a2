use Rattle.std.proofs.Common.{Any, sym, subst, arith, ◌<◌, ◌≤◌, length, map}
use Rattle.std.proofs.lemmas.Grind.{common_steps}
use Rattle.isl_space.specs.SpaceForm.{SpaceForm}
use Rattle.isl_union.specs.KeptValue.{KeptPiece}
use Rattle.isl_union.specs.Piece.{kept_piece}
use Rattle.isl_products.specs.Layout.{IsWide}
use Rattle.isl_products.specs.declared.layout.Product.{Product}
use Rattle.isl_products.specs.Made.{AreWide}
use Rattle.isl_products.proofs.WideLaws.{never_wide, none_at_end, none_next, some_next}
use Rattle.isl_products.proofs.wide.ask_spaces.Goals as goal

pub returns-in_err-ask_spaces_with-clause-err : goal.returns-in_err-ask_spaces_with-clause-err
returns-in_err-ask_spaces_with-clause-err c = λ e.
    let others = map kept_piece c.args.others.now in
    let Q : SpaceForm → Type 0 = λ s. Any (λ (b : KeptPiece). IsWide c.args.product s b.space) others in
    let low : c.loop-piece.piece-index < length c.args.pieces.now = omega arith in
    let h = c.in_err-ask_spaces_with.ensures.err in
    some_next (λ a. Q a.space) c.args.pieces.now c.loop-piece.piece-index c.piece-item.result low c.piece-item.is
    (subst Q c.space.ensures (h (grind (arith, common_steps))))

pub loop-piece-preserved : goal.loop-piece-preserved
loop-piece-preserved c =
    let others = map kept_piece c.args.others.now in
    let Q : SpaceForm → Type 0 = λ s. Any (λ (b : KeptPiece). IsWide c.args.product s b.space) others in
    let low : c.loop-piece.piece-index < length c.args.pieces.now = omega arith in
    none_next (λ a. Q a.space) c.args.pieces.now c.loop-piece.piece-index c.piece-item.result low c.piece-item.is c.loop-piece.invariant
    (λ w. c.in_ok-ask_spaces_with.ensures.ok (subst Q (sym c.space.ensures) w))

pub returns-clause-ok : goal.returns-clause-ok
returns-clause-ok c =
    let others = map kept_piece c.args.others.now in
    let end : length c.args.pieces.now ≤ c.loop-piece.piece-index = omega arith in
    none_at_end (λ a. Any (λ (b : KeptPiece). IsWide c.args.product a.space b.space) others) c.args.pieces.now c.loop-piece.piece-index end
    c.loop-piece.invariant

pub returns-in-Restrict-clause-ok : goal.returns-in-Restrict-clause-ok
returns-in-Restrict-clause-ok c =
    subst (λ (product : Product). ¬ AreWide product (map kept_piece c.args.pieces.now) (map kept_piece c.args.others.now))
    (sym c.in-Restrict.is) (never_wide c.in-Restrict.field-0 c.args.pieces.now c.args.others.now c.requires.pieces)
