use Rattle.std.proofs.Common.{◌≡◌, ◌∷◌, [], sym, ap, ◌∙◌, arith, subst, map, true, false, All}
use Rattle.std.proofs.lemmas.Grind.{common_steps}
use Rattle.isl_space.specs.SpaceForm.{SpaceForm}
use Rattle.isl_piece.specs.Piece.{PieceView}
use Rattle.isl_union.specs.Minus.{piece_in, systems_in}
use Rattle.isl_union.specs.Piece.{kept_piece}
use Rattle.isl_gist.specs.Pieces.{AreLeftOver}
use Rattle.isl_gist.specs.Thinned.{IsPlain}
use Rattle.isl_gist.proofs.IdleLaws.{all_later, plain_later}
use Rattle.isl_gist.proofs.PieceLaws.{left_none, left_one, systems_plain, view_plain}
use Rattle.isl_gist.proofs.pieces.left_of.Goals as goal

pub meets-requires-clause-system : goal.meets-requires-clause-system
meets-requires-clause-system c =
    rw c.system.ensures (view_plain c.args.meter.now c.args.piece.now.system c.requires.plain c.requires.piece_within)

pub meets-requires-clause-contexts : goal.meets-requires-clause-contexts
meets-requires-clause-contexts c =
    let g = c.args.meter.now in
    let p = c.args.piece.now in
    let others = c.args.others.now in
    let are = c.in_ok-contexts.ensures ∙ ap (λ (s : SpaceForm). systems_in s others) c.space-space.ensures in
    rw (c.as_slice.ensures.value, c.system.ensures)
    (subst (All (IsPlain g p.system.columns)) (sym are)
    (systems_plain g c.args.params.now p others c.requires.piece c.requires.plain c.requires.others c.requires.others_plain
    c.requires.others_within))

pub returns-then-not-branch-clause-exact : goal.returns-then-not-branch-clause-exact
returns-then-not-branch-clause-exact c =
    let p = c.args.piece.now in
    let others = c.args.others.now in
    let contexts = map (λ o. o.now) c.in_ok-contexts.contexts.items in
    let are = c.in_ok-contexts.ensures ∙ ap (λ (s : SpaceForm). systems_in s others) c.space-space.ensures in
    let missed : c.in_ok-meets.field-0 ≡ false = grind (arith, common_steps) in
    let meeting = rw (c.as_slice.ensures.value, c.system.ensures) at c.in_ok-meets.ensures.exact in
    left_none c.args.params.now c.requires.names p c.requires.piece c.requires.plain others contexts are (meeting.none missed)

pub needed-requires-clause-system : goal.needed-requires-clause-system
needed-requires-clause-system c =
    let p = c.args.piece.now in
    rw c.system-2.ensures (plain_later c.args.meter.now c.meets.new.meter p.system.columns p.system c.in_ok-meets.ensures.meter
    (view_plain c.args.meter.now p.system c.requires.plain c.requires.piece_within))

pub needed-requires-clause-contexts : goal.needed-requires-clause-contexts
needed-requires-clause-contexts c =
    let g = c.args.meter.now in
    let p = c.args.piece.now in
    let others = c.args.others.now in
    let are = c.in_ok-contexts.ensures ∙ ap (λ (s : SpaceForm). systems_in s others) c.space-space.ensures in
    rw (c.as_slice-2.ensures.value, c.system-2.ensures)
    (all_later g c.meets.new.meter p.system.columns (map (λ o. o.now) c.in_ok-contexts.contexts.items) c.in_ok-meets.ensures.meter
    (subst (All (IsPlain g p.system.columns)) (sym are)
    (systems_plain g c.args.params.now p others c.requires.piece c.requires.plain c.requires.others c.requires.others_plain
    c.requires.others_within)))

pub returns-clause-exact : goal.returns-clause-exact
returns-clause-exact c =
    let params = c.args.params.now in
    let p = c.args.piece.now in
    let others = c.args.others.now in
    let contexts = map (λ o. o.now) c.in_ok-contexts.contexts.items in
    let are = c.in_ok-contexts.ensures ∙ ap (λ (s : SpaceForm). systems_in s others) c.space-space.ensures in
    let left = c.in_ok-left.left in
    let met : c.in_ok-meets.field-0 ≡ true = grind (arith, common_steps) in
    let meeting = rw (c.as_slice.ensures.value, c.system.ensures) at c.in_ok-meets.ensures.exact in
    let thinned = rw (c.as_slice-2.ensures.value, c.system-2.ensures) at c.in_ok-left.ensures.exact in
    let plain = rw c.system-2.ensures at c.in_ok-left.ensures.plain in
    let is : c.in_ok-made.made ≡ piece_in p.space left =
    c.in_ok-made.ensures ∙ ap (λ (s : SpaceForm). piece_in s left) (c.in_ok-own.ensures ∙ c.space-space.ensures) in
    subst (λ (q : PieceView). AreLeftOver params (map kept_piece others) (kept_piece p ∷ []) (q ∷ [])) (sym is)
    (left_one params c.requires.names p c.requires.piece c.requires.plain others contexts are c.meets.new.meter (meeting.some met) left
    plain thinned)
