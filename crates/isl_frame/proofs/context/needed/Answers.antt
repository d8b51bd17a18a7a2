use Rattle.std.proofs.Common.{◌≡◌, ℕ, suc, ◌-◌, ◌<◌, ◌≤◌, refl, sym, ◌∙◌, subst, arith, false, true, length, List}
use Rattle.std.proofs.lemmas.Bool.{false≢true}
use Rattle.std.specs.List.{remove}
use Rattle.std.proofs.lemmas.Grind.{common_steps}
use Rattle.std.proofs.lemmas.List.Edits.{length-remove}
use Rattle.isl_meter.proofs.CutLemmas.{IsCharged_refl, IsCharged_trans}
use Rattle.isl_piece.specs.declared.row.Row.{Row}
use Rattle.isl_frame.specs.Needed.{IsNeeded}
use Rattle.isl_frame.proofs.NeededLaws.{NoneFrom, kept_over, needed_first, needed_less, none_at_all, none_before, none_behind, none_removed, over_later}
use Rattle.isl_frame.proofs.context.needed.Goals as goal
use Rattle.isl_frame.proofs.context.needed.Goals.{then-loop-at-test+else-len-least, else-loop-at-test}

pub loop-at-init : goal.loop-at-init
loop-at-init c =
    let low : c.len-at.result ≤ length c.args.rows = omega arith in (
      low,
      (λ l. l),
      needed_first c.args.variables c.args.context.now c.args.rows,
      IsCharged_refl c.args.meter.now c.args.meter.now refl,
      none_behind c.args.variables c.args.context.now c.args.rows c.len-at.result (omega arith),
    )

pub is_known-requires-clause-context : goal.is_known-requires-clause-context
is_known-requires-clause-context c =
    over_later c.args.meter.now c.loop-at.meter c.args.variables c.args.context.now c.loop-at.invariant.3 c.requires.context

pub is_known-requires-clause-rows : goal.is_known-requires-clause-rows
is_known-requires-clause-rows c =
    over_later c.args.meter.now c.loop-at.meter c.args.variables c.loop-at.kept c.loop-at.invariant.3
    (kept_over c.args.meter.now c.args.variables c.args.context.now c.args.rows c.loop-at.kept c.loop-at.invariant.2 c.requires.rows)

pub loop-at-preserved-then-branch : goal.loop-at-preserved-then-branch
loop-at-preserved-then-branch c =
    let at = c.loop-at.at - 1 in
    let inside : at < length c.loop-at.kept = omega arith in
    let room : c.args.least < length c.loop-at.kept = omega arith in
    let known : c.in_ok-is_known.field-0 ≡ true = grind (arith, common_steps) in
    let left = c.drop_row.ensures in
    let none : NoneFrom c.args.variables c.args.context.now (suc at) c.loop-at.kept =
    subst (λ (n : ℕ). NoneFrom c.args.variables c.args.context.now n c.loop-at.kept) (omega arith) c.loop-at.invariant.4 in
    let long = length-remove c.loop-at.kept at inside in
    let low : at ≤ length (remove c.loop-at.kept at) = omega (arith, long, inside) in
    let most : c.args.least ≤ length (remove c.loop-at.kept at) = omega (arith, long, room) in
    let P : List Row → Type 0 = λ rows. at ≤ length rows × (c.args.least ≤ length c.args.rows → c.args.least ≤ length rows)
    × IsNeeded c.args.variables c.args.context.now c.args.rows rows × NoneFrom c.args.variables c.args.context.now at rows in
    let parts : P c.drop_row.new.rows = subst P (sym left) (
      low,
      (λ l. most),
      needed_less c.args.variables c.args.context.now c.args.rows c.loop-at.kept at inside c.loop-at.invariant.2
          (λ d. (c.in_ok-is_known.ensures.exact d).0 known),
      none_removed c.args.variables c.args.context.now c.loop-at.kept at inside none,
    ) in (
      parts.0,
      parts.1,
      parts.2,
      IsCharged_trans c.args.meter.now c.loop-at.meter c.is_known.new.meter c.loop-at.invariant.3 c.in_ok-is_known.ensures.meter,
      parts.3,
    )

pub loop-at-preserved : goal.loop-at-preserved
loop-at-preserved c =
    let at = c.loop-at.at - 1 in
    let some : 0 < c.loop-at.at = omega arith in
    let inside : at < length c.loop-at.kept = omega (arith, c.loop-at.invariant.0, some) in
    let unknown : c.in_ok-is_known.field-0 ≡ false = grind (arith, common_steps) in
    let none : NoneFrom c.args.variables c.args.context.now (suc at) c.loop-at.kept =
    subst (λ (n : ℕ). NoneFrom c.args.variables c.args.context.now n c.loop-at.kept) (omega arith) c.loop-at.invariant.4 in (
      omega (arith, inside),
      c.loop-at.invariant.1,
      c.loop-at.invariant.2,
      IsCharged_trans c.args.meter.now c.loop-at.meter c.is_known.new.meter c.loop-at.invariant.3 c.in_ok-is_known.ensures.meter,
      none_before c.args.variables c.args.context.now c.loop-at.kept at
          (λ d known. false≢true (sym unknown ∙ (c.in_ok-is_known.ensures.exact d).1 known)) none,
    )

pub returns-clause-none_known : goal.returns-clause-none_known
returns-clause-none_known c more =
    elim c.loop-at-test.branch [
      | then-loop-at-test+else-len-least w ↦ absurd (omega (arith, more, w.len.ensures, w.if-len-least.false))
      | else-loop-at-test w ↦ none_at_all c.args.variables c.args.context.now c.loop-at.kept
          (subst (λ (n : ℕ). NoneFrom c.args.variables c.args.context.now n c.loop-at.kept) (omega arith) c.loop-at.invariant.4)
    ]
