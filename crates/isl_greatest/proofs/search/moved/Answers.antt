use Rattle.std.proofs.Common.{◌≡◌, ◌∙◌, refl, sym, ap, subst}
use Rattle.isl_meter.specs.Gauge.{Gauge}
use Rattle.isl_piece.specs.System.{free_columns}
use Rattle.isl_greatest.specs.Decision.{AreParted, IsContext, IsDecision}
use Rattle.isl_greatest.specs.Next.{AsksFor, GoesOn, IsEnd, IsNextOf}
use Rattle.isl_greatest.specs.State.{IsQuestion}
use Rattle.isl_greatest.proofs.SearchLaws.{away_at, ends_at, reached_goes, reached_no, reached_yes, split_at}
use Rattle.isl_greatest.proofs.search.moved.Goals as goal

pub decide-requires : goal.decide-requires
decide-requires c =
    let g = c.args.meter.now in
    let p = c.args.problem.now in
    let s = c.args.state.now in
    let context = c.args.context.now in
    let q = c.in-Asks.question in
    let n = free_columns context in
    let same = sym c.in_ok-later.ensures.1 in
    let asks : AsksFor g p s q c.in-Asks.yes c.in-Asks.other = subst (IsNextOf g p s) c.in-Asks.is c.in_ok-later.ensures.0 in
    let free = sym c.requires.context.free in
    record {
      context = subst (λ (m : Gauge). IsContext m n context) same (subst (λ k. IsContext g k context) free c.requires.context);
      question = subst (λ (m : Gauge). IsQuestion m n q) same (subst (λ k. IsQuestion g k q) free asks.asked);
    }

pub returns-in-Goes-clause-turn : goal.returns-in-Goes-clause-turn
returns-in-Goes-clause-turn c =
    let g = c.args.meter.now in
    let p = c.args.problem.now in
    let s = c.args.state.now in
    let goes : GoesOn g p s c.in-Goes.later = subst (IsNextOf g p s) c.in-Goes.is c.in_ok-later.ensures.0 in
    (goes.state, reached_goes g p c.args.context.now s c.in-Goes.later c.requires.reached goes)

pub returns-in-Ends-clause-turn : goal.returns-in-Ends-clause-turn
returns-in-Ends-clause-turn c =
    let g = c.args.meter.now in
    let p = c.args.problem.now in
    let s = c.args.state.now in
    let end : IsEnd g p s c.in-Ends.end = subst (IsNextOf g p s) c.in-Ends.is c.in_ok-later.ensures.0 in
    ends_at g p c.args.context.now s c.in-Ends.end c.requires.reached end

pub returns-in-Away-clause-turn : goal.returns-in-Away-clause-turn
returns-in-Away-clause-turn c =
    let g = c.args.meter.now in
    let p = c.args.problem.now in
    let s = c.args.state.now in
    away_at p c.args.context.now s c.requires.reached (subst (IsNextOf g p s) c.in-Away.is c.in_ok-later.ensures.0)

pub returns-in-Yes-clause-turn : goal.returns-in-Yes-clause-turn
returns-in-Yes-clause-turn c =
    let g = c.args.meter.now in
    let h = c.next.new.meter in
    let p = c.args.problem.now in
    let s = c.args.state.now in
    let context = c.args.context.now in
    let q = c.in-Asks.question in
    let asks : AsksFor g p s q c.in-Asks.yes c.in-Asks.other = subst (IsNextOf g p s) c.in-Asks.is c.in_ok-later.ensures.0 in
    let told = subst (IsDecision h (free_columns context) context q) c.in-Yes.is c.in_ok-decide-in-Asks.ensures.decision in (
      asks.after_yes,
      reached_yes g p context q s c.in-Asks.yes c.in-Asks.other c.requires.reached asks (λ v long. told v (long ∙ sym c.requires.context.free)),
    )

pub returns-in-No-clause-turn : goal.returns-in-No-clause-turn
returns-in-No-clause-turn c =
    let g = c.args.meter.now in
    let h = c.next.new.meter in
    let p = c.args.problem.now in
    let s = c.args.state.now in
    let context = c.args.context.now in
    let q = c.in-Asks.question in
    let asks : AsksFor g p s q c.in-Asks.yes c.in-Asks.other = subst (IsNextOf g p s) c.in-Asks.is c.in_ok-later.ensures.0 in
    let told = subst (IsDecision h (free_columns context) context q) c.in-No.is c.in_ok-decide-in-Asks.ensures.decision in (
      asks.after_no,
      reached_no g p context q s c.in-Asks.yes c.in-Asks.other c.requires.reached asks (λ v long. told v (long ∙ sym c.requires.context.free)),
    )

pub returns-in-Both-clause-turn : goal.returns-in-Both-clause-turn
returns-in-Both-clause-turn c =
    let g = c.args.meter.now in
    let h = c.next.new.meter in
    let p = c.args.problem.now in
    let s = c.args.state.now in
    let context = c.args.context.now in
    let q = c.in-Asks.question in
    let inside = c.in-Both.inside in
    let outside = c.in-Both.outside in
    let asks : AsksFor g p s q c.in-Asks.yes c.in-Asks.other = subst (IsNextOf g p s) c.in-Asks.is c.in_ok-later.ensures.0 in
    let told : AreParted h (free_columns context) context q inside outside =
    subst (IsDecision h (free_columns context) context q) c.in-Both.is c.in_ok-decide-in-Asks.ensures.decision in
    let parted : AreParted g p.front context q inside outside =
    subst (λ (m : Gauge). AreParted m p.front context q inside outside) c.in_ok-later.ensures.1
    (subst (λ n. AreParted h n context q inside outside) c.requires.context.free told) in
    split_at g p context q inside outside s c.in-Asks.yes c.in-Asks.other c.requires.reached asks parted
