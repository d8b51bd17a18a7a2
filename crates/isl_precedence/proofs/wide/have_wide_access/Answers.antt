use Rattle.std.proofs.Common.{arith, sym, ◌∙◌, ◌<◌, ◌≤◌, length}
use Rattle.std.specs.List.{Any}
use Rattle.std.proofs.lemmas.Bool.{false≢true}
use Rattle.isl_piece.specs.Piece.{PieceView}
use Rattle.isl_precedence.specs.WideAccess.{IsWideAccess}
use Rattle.isl_relation.proofs.SeekLaws.{none_all, none_more}
use Rattle.isl_precedence.proofs.wide.have_wide_access.Goals as goal

pub loop-source-preserved : goal.loop-source-preserved
loop-source-preserved c =
    let pieces = c.args.sources.now in
    let sinks = c.args.sinks.now in
    let i = c.loop-source.source-index in
    let piece = c.source-item.result in
    let low : i < length pieces = omega arith in
    none_more (λ (p : PieceView). Any (λ (q : PieceView). IsWideAccess p.space q.space) sinks) pieces i piece low c.source-item.is
    c.loop-source.invariant (λ wide. false≢true (sym c.if-branch.false ∙ c.in_ok-has_wide_access.ensures.1 wide))

pub returns : goal.returns
returns c =
    let pieces = c.args.sources.now in
    let sinks = c.args.sinks.now in
    let end : length pieces ≤ c.loop-source.source-index = omega arith in
    none_all (λ (p : PieceView). Any (λ (q : PieceView). IsWideAccess p.space q.space) sinks) pieces c.loop-source.source-index end
    c.loop-source.invariant
