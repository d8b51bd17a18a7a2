use Rattle.std.proofs.Common.{refl, rules, subst, Ok, Some, None, Option}
use Rattle.isl_token.specs.declared.marks.Mark.{Mark}
use Rattle.isl_token.specs.declared.token.Kind.{Kind}
use Rattle.isl_token.specs.Lex.{IsKindOfPiece}
use Rattle.isl_token.proofs.Pieces.{one_mark, no_mark, one_kind, one_formed, not_some}
use Rattle.isl_token.proofs.lex.tokens.Goals as goal

pub loop-at-preserved-in_ok-push : goal.loop-at-preserved-in_ok-push
loop-at-preserved-in_ok-push c =
    let marks = c.loop-at.marks.items in
    let front = c.split_at-in-loop-at.result.0.now in
    let cut = c.cut-piece.result in
    let mark : Mark = record { place = c.loop-at.at; kind = c.in-Some.kind } in
    let known : IsKindOfPiece cut.0 front (Ok (Some c.in-Some.kind)) = subst
    (λ (o : Option Kind). IsKindOfPiece cut.0 front (Ok o)) c.in-Some.is c.in_ok-kind.ensures in
    let pushed = c.in_ok-push.ensures.items in
    let invariant = c.loop-at.invariant in
    let so_far = invariant.same in
    let back = c.split_at.ensures.back in
    let begins = c.split_at-in-loop-at.ensures.front in
    let rest = c.split_at.result.1.now in
    record {
      same = one_mark c.args.text.now marks c.loop-at.at rest front cut.0 cut.1 so_far back c.cut-piece.ensures.value begins
          c.loop-at-test.true c.push.new.self.items _ c.in-Some.kind mark known c.cut-piece.ensures.moves refl pushed refl;
      kinds = one_kind c.args.text.now marks c.loop-at.at rest front cut.0 cut.1 so_far back c.cut-piece.ensures.value begins
          c.loop-at-test.true c.push.new.self.items c.in-Some.kind mark invariant.kinds known refl refl pushed;
      formed = one_formed c.args.text.now marks c.loop-at.at rest front cut.0 cut.1 so_far back c.cut-piece.ensures.value begins
          c.loop-at-test.true c.push.new.self.items c.in-Some.kind mark invariant.formed known refl pushed;
      within = search rules;
    }

pub loop-at-preserved : goal.loop-at-preserved
loop-at-preserved c =
    let front = c.split_at-in-loop-at.result.0.now in
    let cut = c.cut-piece.result in
    let known : IsKindOfPiece cut.0 front (Ok None) = subst (λ (o : Option Kind). IsKindOfPiece cut.0 front (Ok o))
    (not_some c.in_ok-kind.field-0 (search rules)) c.in_ok-kind.ensures in
    record {
      same = no_mark c.args.text.now c.loop-at.marks.items c.loop-at.at c.split_at.result.1.now front cut.0 cut.1 c.loop-at.invariant.same
          c.split_at.ensures.back c.cut-piece.ensures.value c.split_at-in-loop-at.ensures.front c.loop-at-test.true _ known
          c.cut-piece.ensures.moves refl;
      kinds = c.loop-at.invariant.kinds;
      formed = c.loop-at.invariant.formed;
      within = search rules;
    }
