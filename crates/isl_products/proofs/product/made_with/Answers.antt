use Rattle.std.proofs.Common.{◌≡◌, ◌∙◌, sym, ap, subst, filter, List, [], MatchResult, Any, map}
use Rattle.std.specs.List.{All}
use Rattle.std.proofs.lemmas.List.Elements.{All-filter}
use Rattle.std.proofs.lemmas.Result.{IfOk-weaker}
use Rattle.isl_meter.specs.Gauge.{IsCutBy}
use Rattle.isl_space.specs.SpaceForm.{SpaceForm, IsWellFormedSpace}
use Rattle.isl_piece.specs.Piece.{PieceView}
use Rattle.isl_piece.specs.System.{IsSystemWithin}
use Rattle.isl_union.specs.Fault.{IsChargedFrom}
use Rattle.isl_union.specs.KeptValue.{KeptPiece}
use Rattle.isl_union.specs.Piece.{kept_piece, IsPieceOf}
use Rattle.isl_relation.specs.Together.{partners, spaces_of}
use Rattle.isl_products.specs.Layout.{IsWide, are_together, may_join}
use Rattle.isl_products.specs.Made.{IsMadeWith}
use Rattle.isl_products.proofs.NearLaws.{any_near, made_near, partners_near}
use Rattle.isl_products.proofs.product.made_with.Goals as goal

pub near-requires : goal.near-requires
near-requires c = subst IsWellFormedSpace (sym c.space.ensures) c.requires.piece.kept.space

pub made_among-requires-clause-others : goal.made_among-requires-clause-others
made_among-requires-clause-others c =
    subst (All (IsPieceOf c.args.params.now)) (sym c.in_ok-near.ensures)
    (All-filter (may_join c.args.product _) (IsPieceOf c.args.params.now) c.args.others.now c.requires.others)

pub made_among-requires-clause-others_within : goal.made_among-requires-clause-others_within
made_among-requires-clause-others_within c =
    let P : PieceView → Type 0 = λ p. IsSystemWithin c.args.meter.now p.system in
    subst (All P) (sym c.in_ok-near.ensures) (All-filter (may_join c.args.product _) P c.args.others.now c.requires.others_within)

pub made_among-requires-clause-narrow : goal.made_among-requires-clause-narrow
made_among-requires-clause-narrow c = λ wide.
    let product = c.args.product in
    let piece = c.args.piece.now in
    let others = c.args.others.now in
    let P : KeptPiece → Type 0 = λ b. IsWide product piece.space b.space in
    let are = c.in_ok-near.ensures ∙ ap (λ (s : SpaceForm). filter (may_join product s) others) c.space.ensures in
    c.requires.narrow (any_near product piece.space P others (subst (λ (l : List PieceView). Any P (map kept_piece l)) are wide))

pub returns-clause-elements : goal.returns-clause-elements
returns-clause-elements c v e =
    let product = c.args.product in
    let params = c.args.params.now in
    let piece = c.args.piece.now in
    let others = c.args.others.now in
    let are = c.in_ok-near.ensures ∙ ap (λ (s : SpaceForm). filter (may_join product s) others) c.space.ensures in
    let same = made_near product params piece others v e in
    IfOk-weaker c.made_among.result _ _ (λ made told. (
      (λ h. same.0 (subst (λ (l : List PieceView). IsMadeWith product params (map kept_piece l) v e (kept_piece piece)) are (told.0 h))),
      (λ h. told.1 (subst (λ (l : List PieceView). IsMadeWith product params (map kept_piece l) v e (kept_piece piece)) (sym are)
          (same.1 h))),
    )) (c.made_among.ensures.elements v e)

pub returns-clause-definitions : goal.returns-clause-definitions
returns-clause-definitions c = λ own none.
    let P : PieceView → Type 0 = λ p. p.system.definitions ≡ [] in
    c.made_among.ensures.definitions own (subst (All P) (sym c.in_ok-near.ensures) (All-filter (may_join c.args.product _) P
    c.args.others.now none))

pub returns-clause-units : goal.returns-clause-units
returns-clause-units c =
    let product = c.args.product in
    let piece = c.args.piece.now in
    let others = c.args.others.now in
    let g = c.args.meter.now in
    let h = c.made_among.new.meter in
    let are = c.in_ok-near.ensures ∙ ap (λ (s : SpaceForm). filter (may_join product s) others) c.space.ensures in
    subst (λ n. MatchResult c.made_among.result (λ _. IsChargedFrom n g h) (IsCutBy g h))
    (ap (λ (l : List PieceView). partners (are_together product) (spaces_of l) piece.space) are ∙ partners_near product piece.space others)
    c.made_among.ensures.units
