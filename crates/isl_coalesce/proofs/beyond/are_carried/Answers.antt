use Rattle.std.proofs.Common.{◌≡◌, ◌<◌, ◌∙◌, arith, length, get_or, subst, sym, true}
use Rattle.std.specs.List.{All}
use Rattle.std.proofs.lemmas.Grind.{common_steps}
use Rattle.std.proofs.lemmas.List.{take_all}
use Rattle.isl_piece.specs.Row.{IsRowWithin, IsWellFormed}
use Rattle.isl_coalesce.specs.Beyond.{Carries, IsCarried}
use Rattle.isl_coalesce.specs.Parts.{halves}
use Rattle.isl_coalesce.proofs.BeyondLaws.{rows_more}
use Rattle.isl_coalesce.proofs.HalfLaws.{halves_fit}
use Rattle.isl_coalesce.proofs.beyond.are_carried.Goals as goal

pub all_carry-requires-clause-within : goal.all_carry-requires-clause-within
all_carry-requires-clause-within c =
    let i = c.loop-row.row-index in
    let rows = c.args.rows.now in
    let r = c.row-item.result in
    let g = c.carries.new.meter in
    let low : i < length rows = grind (arith, common_steps) in
    let at : r ≡ get_or rows i r = grind (arith, common_steps) in
    let same : g ≡ c.args.meter.now = c.in_ok-carries.ensures.meter ∙ c.loop-row.invariant.1 in
    let within : IsRowWithin c.args.meter.now r = subst (IsRowWithin c.args.meter.now) (sym at) (c.requires.within i r low) in
    let formed : IsWellFormed (length c.args.to.now) r = subst (IsWellFormed (length c.args.to.now)) (sym at) (c.requires.to i r low) in
    let is : c.as_slice.result.now ≡ halves r = c.as_slice.ensures ∙ c.in_ok-halves.ensures in
    let fit = halves_fit g (length c.args.to.now) r (formed, subst (λ m. IsRowWithin m r) (sym same) within) in
    subst (All (IsRowWithin g)) (sym is) (λ k d l. (fit k d l).1)

pub loop-row-preserved : goal.loop-row-preserved
loop-row-preserved c =
    let i = c.loop-row.row-index in
    let rows = c.args.rows.now in
    let from = c.args.from.now in
    let to = c.args.to.now in
    let low : i < length rows = grind (arith, common_steps) in
    let yes : c.in_ok-carries.field-0 ≡ true = grind (arith, common_steps) in
    let all : c.in_ok-all_carry.field-0 ≡ true = grind (arith, common_steps) in
    let is : c.as_slice.result.now ≡ halves c.row-item.result = c.as_slice.ensures ∙ c.in_ok-halves.ensures in (
      rows_more (IsCarried from to) rows i c.row-item.result low c.row-item.is c.loop-row.invariant.0
          (c.in_ok-carries.ensures.exact yes, subst (All (Carries from to)) is (c.in_ok-all_carry.ensures.exact all)),
      c.in_ok-all_carry.ensures.meter ∙ c.in_ok-carries.ensures.meter ∙ c.loop-row.invariant.1,
    )

pub returns-clause-exact : goal.returns-clause-exact
returns-clause-exact c = λ yes.
    subst (λ l. All (IsCarried c.args.from.now c.args.to.now) l) (take_all c.loop-row.row-index c.args.rows.now (omega arith))
    c.loop-row.invariant.0
