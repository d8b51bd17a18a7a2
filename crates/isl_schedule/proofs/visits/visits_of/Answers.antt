use Rattle.std.proofs.Common.{◌≡◌, ◌+◌, ◌<◌, ◌++◌, ◌∷◌, [], ◌∙◌, arith, length, take, sym, ap, subst}
use Rattle.std.proofs.lemmas.Grind.{common_steps}
use Rattle.std.proofs.lemmas.List.{take_more}
use Rattle.std.proofs.lemmas.List.Elements.{All-push}
use Rattle.isl_math.proofs.ListLaws.{AllZip-more}
use Rattle.isl_piece.specs.Piece.{PieceView}
use Rattle.isl_piece.specs.System.{IsSystemWithin}
use Rattle.isl_schedule.specs.Visits.{IsVisitOf}
use Rattle.isl_schedule.specs.declared.visits.Visits.{Visits}
use Rattle.isl_schedule.proofs.visits.visits_of.Goals as goal

pub loop-piece-preserved : goal.loop-piece-preserved
loop-piece-preserved c =
    let g = c.args.meter.now in
    let pieces = c.args.pieces.now in
    let made = c.in_ok-visits_in.field-0 in
    let i = c.loop-piece.piece-index in
    let p = c.piece-item.result in
    let inside : i < length pieces = grind (arith, common_steps) in
    let taken : take (i + 1) pieces ≡ take i pieces ++ p ∷ [] =
    take_more pieces i p inside ∙ ap (λ (q : PieceView). take i pieces ++ q ∷ []) (sym c.piece-item.is) in
    let within : IsSystemWithin g p.system =
    subst (λ (q : PieceView). IsSystemWithin g q.system) (sym c.piece-item.is) (c.requires.within i p inside) in
    let is : IsVisitOf g c.args.params.now p made = c.in_ok-visits_in.ensures.visits g c.limit-limit.ensures.bits_low within in
    let pushed : c.push.new.self.items ≡ c.loop-piece.visits.items ++ made ∷ [] = grind arith in
    let plain : p.system.definitions ≡ [] → made.system.definitions ≡ [] = c.in_ok-visits_in.ensures.definitions in (
      rw (taken, pushed) (AllZip-more (IsVisitOf g c.args.params.now) (take i pieces) c.loop-piece.visits.items p made
          c.loop-piece.invariant.0 is),
      λ all. rw pushed (All-push (λ (v : Visits). v.system.definitions ≡ []) c.loop-piece.visits.items made (c.loop-piece.invariant.1 all)
          (plain (ap (λ (q : PieceView). q.system.definitions) c.piece-item.is ∙ all i p inside))),
    )
