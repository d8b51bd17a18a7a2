use Rattle.std.proofs.Common.{◌∙◌, sym, ap, subst, filter, List}
use Rattle.std.specs.List.{All, Any}
use Rattle.std.proofs.lemmas.List.Elements.{All-filter}
use Rattle.std.proofs.lemmas.Result.{IfOk-weaker}
use Rattle.isl_space.specs.SpaceForm.{SpaceForm, IsWellFormedSpace}
use Rattle.isl_piece.specs.Piece.{PieceView}
use Rattle.isl_images.specs.declared.pairing.Pairing.TheVariants.{Join}
use Rattle.isl_images.specs.Pairing.{IsWideJoin, may_pair}
use Rattle.isl_images.proofs.NearLaws.{wide_near}
use Rattle.isl_images.proofs.joined.has_wide_join.Goals as goal

pub near-requires : goal.near-requires
near-requires c = subst IsWellFormedSpace (sym c.space.ensures) c.requires.piece

pub is_wide_among-requires-clause-space : goal.is_wide_among-requires-clause-space
is_wide_among-requires-clause-space c = subst IsWellFormedSpace (sym c.space-2.ensures) c.requires.piece

pub is_wide_among-requires-clause-others : goal.is_wide_among-requires-clause-others
is_wide_among-requires-clause-others c =
    let P : PieceView → Type 0 = λ p. IsWellFormedSpace p.space in
    subst (All P) (sym c.in_ok-near.ensures) (All-filter (may_pair Join _) P c.args.others.now c.requires.others)

pub returns : goal.returns
returns c =
    let s = c.args.piece.now.space in
    let others = c.args.others.now in
    let near = c.in_ok-near.ensures ∙ ap (λ (t : SpaceForm). filter (may_pair Join t) others) c.space.ensures in
    let exact = wide_near s others in
    IfOk-weaker c.is_wide_among.result _ _ (λ wide told. (
      (λ t. exact.0 (subst (λ (l : List PieceView). Any (λ q. IsWideJoin s q.space) l) near
          (subst (λ (u : SpaceForm). Any (λ q. IsWideJoin u q.space) c.in_ok-near.near.now) c.space-2.ensures (told.0 t)))),
      (λ a. told.1 (subst (λ (u : SpaceForm). Any (λ q. IsWideJoin u q.space) c.in_ok-near.near.now) (sym c.space-2.ensures)
          (subst (λ (l : List PieceView). Any (λ q. IsWideJoin s q.space) l) (sym near) (exact.1 a)))),
    )) c.is_wide_among.ensures
