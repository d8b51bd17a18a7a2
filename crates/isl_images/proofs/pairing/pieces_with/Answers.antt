use Rattle.std.proofs.Common.{◌∙◌, sym, ap, subst, filter, List, IfOk, MatchResult}
use Rattle.std.specs.List.{All}
use Rattle.std.proofs.lemmas.List.Elements.{All-filter}
use Rattle.std.proofs.lemmas.Result.{IfOk-weaker}
use Rattle.isl_meter.specs.Gauge.{IsCutBy}
use Rattle.isl_space.specs.SpaceForm.{SpaceForm, IsWellFormedSpace}
use Rattle.isl_piece.specs.Piece.{PieceView}
use Rattle.isl_piece.specs.System.{IsSystemWithin}
use Rattle.isl_union.specs.Fault.{IsChargedFrom}
use Rattle.isl_union.specs.Piece.{IsPieceOf}
use Rattle.isl_relation.specs.Together.{partners, spaces_of}
use Rattle.isl_images.specs.Made.{elements_of, elements_of_all, ArePiecesOf}
use Rattle.isl_images.specs.Pairing.{IsNarrowPair, PairHas, are_paired, may_pair}
use Rattle.isl_images.proofs.MadeLaws.{of_same}
use Rattle.isl_images.proofs.NearLaws.{partners_near, pair_near}
use Rattle.isl_images.proofs.pairing.pieces_with.Goals as goal

pub near-requires : goal.near-requires
near-requires c = subst IsWellFormedSpace (sym c.space.ensures) c.requires.piece.kept.space

pub pieces_among-requires-clause-others : goal.pieces_among-requires-clause-others
pieces_among-requires-clause-others c =
    subst (All (IsPieceOf c.args.params.now)) (sym c.in_ok-near.ensures)
    (All-filter (may_pair c.args.pairing _) (IsPieceOf c.args.params.now) c.args.others.now c.requires.others)

pub pieces_among-requires-clause-others_within : goal.pieces_among-requires-clause-others_within
pieces_among-requires-clause-others_within c =
    let P : PieceView → Type 0 = λ p. IsSystemWithin c.args.meter.now p.system in
    subst (All P) (sym c.in_ok-near.ensures) (All-filter (may_pair c.args.pairing _) P c.args.others.now c.requires.others_within)

pub pieces_among-requires-clause-narrow : goal.pieces_among-requires-clause-narrow
pieces_among-requires-clause-narrow c =
    let P : PieceView → Type 0 = λ q. IsNarrowPair c.args.pairing c.args.piece.now.space q.space in
    subst (All P) (sym c.in_ok-near.ensures) (All-filter (may_pair c.args.pairing _) P c.args.others.now c.requires.narrow)

pub returns-clause-made : goal.returns-clause-made
returns-clause-made c =
    let g = c.args.meter.now in
    let params = c.args.params.now in
    let pairing = c.args.pairing in
    let piece = c.args.piece.now in
    let others = c.args.others.now in
    let are = c.in_ok-near.ensures ∙ ap (λ (t : SpaceForm). filter (may_pair pairing t) others) c.space.ensures in
    let near = filter (may_pair pairing piece.space) others in
    let made = subst (λ (l : List PieceView). IfOk c.pieces_among.result (λ made. ArePiecesOf g params ⊥
    (λ v. PairHas pairing (elements_of params piece v) (elements_of_all params l v)) made.items)) are c.pieces_among.ensures.made in
    IfOk-weaker c.pieces_among.result _ _ (λ made is. of_same g params ⊥ ⊥
    (λ v. PairHas pairing (elements_of params piece v) (elements_of_all params near v))
    (λ v. PairHas pairing (elements_of params piece v) (elements_of_all params others v)) made.items
    (λ never. never)
    (λ v e. pair_near pairing params piece others v e) is) made

pub returns-clause-units : goal.returns-clause-units
returns-clause-units c =
    let pairing = c.args.pairing in
    let piece = c.args.piece.now in
    let others = c.args.others.now in
    let g = c.args.meter.now in
    let h = c.pieces_among.new.meter in
    let are = c.in_ok-near.ensures ∙ ap (λ (t : SpaceForm). filter (may_pair pairing t) others) c.space.ensures in
    subst (λ n. MatchResult c.pieces_among.result (λ _. IsChargedFrom n g h) (IsCutBy g h))
    (ap (λ (l : List PieceView). partners (are_paired pairing) (spaces_of l) piece.space) are ∙ partners_near pairing piece.space others)
    c.pieces_among.ensures.units
