use Rattle.std.proofs.Common.{◌∙◌, sym, ap, subst, filter, List}
use Rattle.std.specs.List.{All}
use Rattle.std.proofs.lemmas.List.Elements.{All-filter}
use Rattle.std.proofs.lemmas.Result.{IfOk-weaker}
use Rattle.isl_space.specs.SpaceForm.{SpaceForm, IsWellFormedSpace}
use Rattle.isl_piece.specs.Piece.{PieceView}
use Rattle.isl_piece.specs.System.{IsSystemWithin}
use Rattle.isl_union.specs.Piece.{IsPieceOf}
use Rattle.isl_products.specs.declared.layout.Product.TheVariants.{Restrict}
use Rattle.isl_products.specs.Layout.{may_join}
use Rattle.isl_products.specs.Made.{AreBeside}
use Rattle.isl_products.proofs.NearLaws.{beside_near}
use Rattle.isl_products.proofs.remove.systems_beside.Goals as goal

pub near-requires : goal.near-requires
near-requires c = subst IsWellFormedSpace (sym c.space.ensures) c.requires.piece.kept.space

pub systems_among-requires-clause-others : goal.systems_among-requires-clause-others
systems_among-requires-clause-others c =
    subst (All (IsPieceOf c.args.params.now)) (sym c.in_ok-near.ensures)
    (All-filter (may_join (Restrict c.args.place) _) (IsPieceOf c.args.params.now) c.args.others.now c.requires.others)

pub returns : goal.returns
returns c = λ g within.
    let place = c.args.place in
    let params = c.args.params.now in
    let piece = c.args.piece.now in
    let others = c.args.others.now in
    let P : PieceView → Type 0 = λ p. IsSystemWithin g p.system in
    let are = c.in_ok-near.ensures ∙ ap (λ (s : SpaceForm). filter (may_join (Restrict place) s) others) c.space.ensures in
    let all = subst (All P) (sym c.in_ok-near.ensures) (All-filter (may_join (Restrict place) _) P others within) in
    IfOk-weaker c.systems_among.result _ _ (λ systems beside. beside_near g place params piece others systems.items
    (subst (λ (l : List PieceView). AreBeside g place params piece l systems.items) are beside)) (c.systems_among.ensures g all)
