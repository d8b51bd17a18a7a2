use Rattle.std.proofs.Common.{◌≡◌, ◌+◌, ◌<◌, ◌++◌, ◌∷◌, [], length, take, refl, sym, ◌∙◌, ap, arith}
use Rattle.std.proofs.lemmas.Grind.{common_steps}
use Rattle.std.proofs.lemmas.List.{take_more}
use Rattle.isl_piece.specs.declared.row.Row.{Row}
use Rattle.isl_piece.specs.declared.row.RowKind.TheVariants.{Divides}
use Rattle.isl_piece.specs.Row.{IsWellFormed, IsRowWithin}
use Rattle.isl_omega.specs.Congruence.{reduced_row, AreJoined}
use Rattle.isl_omega.proofs.MergeLemmas.{take_one, merged_first, merged_more}
use Rattle.isl_omega.proofs.congruence.merged.Goals as goal

pub loop-i-init : goal.loop-i-init
loop-i-init c =
    let r = c.index-rows-0.result in
    let rows = c.args.rows.now in
    let kind : r.kind ≡ Divides = ap (λ (s : Row). s.kind) c.index-rows-0.is ∙ c.requires.kinds 0 r c.requires.some in
    let formed : IsWellFormed c.args.column.columns r = grind (arith, common_steps) in
    let within : IsRowWithin c.args.meter.now c.in_ok-one.one = grind arith in
    let is : c.in_ok-one.one ≡ reduced_row r = grind arith in
    let none : c.in_ok-others.others ≡ [] = grind arith in
    (rw (take_one rows r c.requires.some c.index-rows-0.is, none) (merged_first c.args.meter.now c.args.column.columns c.args.column.at r c.in_ok-one.one kind formed within is), refl, (λ _. none))

pub loop-i-preserved : goal.loop-i-preserved
loop-i-preserved c =
    let rows = c.args.rows.now in
    let i = c.loop-i.i in
    let r = c.index-rows-i.result in
    let inside : i < length rows = grind (arith, common_steps) in
    let formed : IsWellFormed c.args.column.columns r = grind (arith, common_steps) in
    let joined : AreJoined c.args.column.columns c.args.column.at c.loop-i.one r c.in_ok-next.next c.in_ok-next.other = grind arith in
    let next_within : IsRowWithin c.args.meter.now c.in_ok-next.next = grind arith in
    let other_within : IsRowWithin c.args.meter.now c.in_ok-next.other = grind arith in
    let pushed : c.push.new.self ≡ c.loop-i.others ++ c.in_ok-next.other ∷ [] = grind arith in
    let taken : take (i + 1) rows ≡ take i rows ++ r ∷ [] = take_more rows i r inside ∙ ap (λ (s : Row). take i rows ++ s ∷ []) (sym c.index-rows-i.is) in (
      rw (taken, pushed) (merged_more c.args.meter.now c.args.column.columns c.args.column.at (take i rows) r c.loop-i.one c.in_ok-next.other c.in_ok-next.next c.loop-i.others c.loop-i.invariant.0 formed joined next_within other_within),
      grind arith,
      (λ few. absurd (grind (arith, common_steps))),
    )

pub returns-clause-no_overflow : goal.returns-clause-no_overflow
returns-clause-no_overflow c = c.loop-i.invariant.2
