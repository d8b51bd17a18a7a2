use Rattle.std.proofs.Common.{◌≡◌, ◌∙◌, refl, sym, arith, true, false}
use Rattle.std.proofs.lemmas.Bool.{false≢true}
use Rattle.std.proofs.lemmas.Grind.{common_steps}
use Rattle.std.specs.List.{AllZip}
use Rattle.isl_elim.proofs.ProjectionLaws.{if_ok}
use Rattle.isl_calls.specs.Laid.{AreLaidOut, IsOwnLaid, IsTimedLaid}
use Rattle.isl_calls.proofs.LaidLaws.{all_own_laid, all_timed_laid, visits_free, visits_narrow}
use Rattle.isl_calls.proofs.laid.laid_out.Goals as goal

pub returns-then-are_sets : goal.returns-then-are_sets
returns-then-are_sets c =
    let g = c.args.meter.now in
    let params = c.args.params.now in
    let pieces = c.args.pieces.now in
    if_ok (λ calls. AllZip IsOwnLaid pieces calls.items) (λ calls. AreLaidOut g params pieces calls.items) c.all_own_calls.result
    (λ calls laid. record {
      is_own = true;
      each = all_own_laid g params pieces calls.items c.requires.pieces c.requires.within laid;
      sets = λ all. refl;
    })
    c.all_own_calls.ensures

pub all_timed_calls-requires-clause-narrow : goal.all_timed_calls-requires-clause-narrow
all_timed_calls-requires-clause-narrow c =
    let params = c.args.params.now in
    rw c.as_slice.ensures.value
    (visits_narrow c.args.meter.now params c.requires.names c.args.pieces.now c.in_ok-visits.visits.items c.in_ok-visits.ensures.visits
    c.requires.pieces c.len.result c.len.ensures.len)

pub all_timed_calls-requires-clause-free : goal.all_timed_calls-requires-clause-free
all_timed_calls-requires-clause-free c =
    let params = c.args.params.now in
    rw c.as_slice.ensures.value
    (visits_free c.args.meter.now params c.requires.names c.args.pieces.now c.in_ok-visits.visits.items c.in_ok-visits.ensures.visits
    c.requires.pieces c.len.result c.len.ensures.len)

pub all_timed_calls-requires-clause-plain : goal.all_timed_calls-requires-clause-plain
all_timed_calls-requires-clause-plain c = rw c.as_slice.ensures.value (c.in_ok-visits.ensures.definitions c.requires.plain)

pub returns : goal.returns
returns c =
    let g = c.args.meter.now in
    let params = c.args.params.now in
    let pieces = c.args.pieces.now in
    let visits = c.in_ok-visits.visits.items in
    let zipped = rw c.as_slice.ensures.value at c.all_timed_calls.ensures in
    let others : c.are_sets.result ≡ false = grind (arith, common_steps) in
    if_ok (λ calls. AllZip (IsTimedLaid c.len.result) visits calls.items) (λ calls. AreLaidOut g params pieces calls.items)
    c.all_timed_calls.result
    (λ calls laid. record {
      is_own = false;
      each = all_timed_laid g params pieces visits calls.items c.len.result c.len.ensures.len c.in_ok-visits.ensures.visits laid;
      sets = λ all. absurd (false≢true (sym others ∙ c.are_sets.ensures.1 all));
    })
    zipped
