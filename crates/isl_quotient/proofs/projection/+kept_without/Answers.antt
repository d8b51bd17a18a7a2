use Rattle.std.proofs.Common.{◌≡◌, ◌∷◌, ◌∙◌, [], sym, ap, arith, ◌<◌, length, option_to_list, List, ℕ, Vec, Global}
use Rattle.std.proofs.lemmas.Grind.{common_steps}
use Rattle.std.proofs.lemmas.Result.{IfOk-weaker}
use Rattle.isl_piece.specs.Normal.{normal_system}
use Rattle.isl_piece.specs.declared.system.System.{System}
use Rattle.isl_elim.specs.Others.{others_of}
use Rattle.isl_quotient.specs.Kept.{IsKept}
use Rattle.isl_quotient.specs.Pair.{IsPairOf}
use Rattle.isl_quotient.specs.Turned.{IsTurned}
use Rattle.isl_quotient.proofs.PinnedLaws.{no_others, some_none, pair_column, pinned_kept, pinning_alone}
use Rattle.isl_quotient.proofs.TurnLaws.{are_left, pair_among, pair_low, projects_after}
use Rattle.isl_quotient.proofs.projection.+kept_without.Goals as goal

pub kept_without-requires : goal.kept_without-requires
kept_without-requires t c =
    let g = c.args.meter.now in
    let s = c.args.system in
    let cols = c.args.cols.now in
    let pair = c.in-Some.pair in
    let is : IsPairOf s.rows cols pair = grind arith in
    let turn : IsTurned g s cols pair.col c.in_ok-short.short = c.in_ok-short.ensures.turned in
    let slice : c.as_slice-2.result.now ≡ others_of pair.col cols = grind arith in
    let left =
    are_left g s c.in_ok-short.short cols c.as_slice-2.result.now pair.col c.requires.distinct c.requires.cols_in
    (pair_among s.rows cols pair is)
    (pair_low g s cols pair c.requires.well_formed is c.requires.cols_in) slice turn in
    (omega (arith, left.shorter), (turn.within, (left.distinct, (left.inside, left.undefining))))

pub returns-clause-projection : goal.returns-clause-projection
returns-clause-projection t c =
    let g = c.args.meter.now in
    let s = c.args.system in
    let cols = c.args.cols.now in
    let pair = c.in-Some.pair in
    let is : IsPairOf s.rows cols pair = grind arith in
    let turn : IsTurned g s cols pair.col c.in_ok-short.short = c.in_ok-short.ensures.turned in
    let slice : c.as_slice-2.result.now ≡ others_of pair.col cols = grind arith in
    projects_after g s c.in_ok-short.short cols c.as_slice-2.result.now pair.col c.requires.distinct c.requires.cols_in
    (pair_among s.rows cols pair is)
    (pair_low g s cols pair c.requires.well_formed is c.requires.cols_in) slice turn (λ (systems : Vec System Global). systems.items)
    c.kept_without.result
    c.kept_without.ensures.projection

pub returns-then-is_empty-clause-projection : goal.returns-then-is_empty-clause-projection
returns-then-is_empty-clause-projection t c =
    let none : c.args.cols.now ≡ [] = grind (arith, common_steps) in
    rw none c.in_ok-normal_alone.ensures.projection

pub returns-then-is_empty-clause-kept : goal.returns-then-is_empty-clause-kept
returns-then-is_empty-clause-kept t c = λ col one have.
    let none : c.args.cols.now ≡ [] = grind (arith, common_steps) in
    absurd (some_none col (sym one ∙ none))

pub returns-clause-alone : goal.returns-clause-alone
returns-clause-alone t c = λ none.
    let some : 0 < length c.args.cols.now = grind (arith, common_steps) in
    let count = ap (λ (cs : List ℕ). length cs) none in
    absurd (omega (arith, some, count))

pub returns-in_default-clause-alone : goal.returns-in_default-clause-alone
returns-in_default-clause-alone t c = λ none.
    let some : 0 < length c.args.cols.now = grind (arith, common_steps) in
    let count = ap (λ (cs : List ℕ). length cs) none in
    absurd (omega (arith, some, count))

pub returns-then-is_empty-clause-alone : goal.returns-then-is_empty-clause-alone
returns-then-is_empty-clause-alone t c = λ none. c.in_ok-normal_alone.ensures.exact

pub returns-clause-kept : goal.returns-clause-kept
returns-clause-kept t c = λ col one have.
    let s = c.args.system in
    let pair = c.in-Some.pair in
    let among : IsPairOf s.rows c.args.cols.now pair = grind arith in
    let is = rw one at among in
    let made = c.in_ok-short.short in
    let slice : c.as_slice-2.result.now ≡ others_of pair.col c.args.cols.now = grind arith in
    let empty : c.as_slice-2.result.now ≡ [] =
    slice ∙ ap (others_of pair.col) one ∙ ap (λ (j : ℕ). others_of j (col ∷ [])) (pair_column s.rows col pair is) ∙ no_others col in
    IfOk-weaker c.kept_without.result (λ systems. systems.items ≡ option_to_list (normal_system made))
    (λ systems. IsKept col s systems.items)
    (λ systems e. pinned_kept s made col pair systems.items is c.in_ok-short.ensures.exact e) (c.kept_without.ensures.alone empty)

pub returns-in_default-clause-kept : goal.returns-in_default-clause-kept
returns-in_default-clause-kept t c = λ col one have.
    let rows : c.as_slice.result.now ≡ c.args.system.rows = grind arith in
    absurd (pinning_alone c.args.system.rows col have (rw (rows, one) at (c.quotient_pair.ensures.none (grind (arith, common_steps)))))
