use Rattle.std.proofs.Common.{◌∙◌, ◌<◌, length, take, arith, to_z-of_z, rules}
use Rattle.std.proofs.lemmas.Grind.{common_steps}
use Rattle.isl_affine.proofs.TermLaws.{in-Inner, in-Floor, in-Ceil, at-Inner, at-Floor, at-Ceil, at-Held, inner_held, part_in, term_more, term_part, gives_ready}
use Rattle.isl_affine.proofs.TermLaws.{inner_smaller, floor_smaller, ceiling_smaller, factor_smaller, part_smaller}
use Rattle.isl_tree.specs.Term.{term_value}
use Rattle.std.specs.List.{All}
use Rattle.std.proofs.Common.{List, ℤ, pos, ◌<ℤ◌, sym, subst}
use Rattle.isl_affine.proofs.term.+term.Goals as goal

pub factor_form-term_form-requires : goal.factor_form-term_form-requires
factor_form-term_form-requires t c = (
  search (rules, inner_smaller c.args.factor.now c.in-Inner.term c.as_slice.result.now c.in-Inner.is c.as_slice.ensures),
  (
    c.requires.ready,
    in-Inner c.args.scope.now c.args.factor.now c.in-Inner.term c.as_slice.result.now c.in-Inner.is c.as_slice.ensures c.requires.known,
  ),
)

pub factor_form-term_form-requires-in-Floor : goal.factor_form-term_form-requires-in-Floor
factor_form-term_form-requires-in-Floor t c = (
  search (rules, floor_smaller c.args.factor.now c.in-Floor.term c.as_slice-in-Floor.result.now c.in-Floor.k c.in-Floor.is c.as_slice-in-Floor.ensures),
  (
    c.requires.ready,
    in-Floor c.args.scope.now c.args.factor.now c.in-Floor.term c.as_slice-in-Floor.result.now c.in-Floor.k c.in-Floor.is
        c.as_slice-in-Floor.ensures c.requires.known,
  ),
)

pub factor_form-term_form-requires-in-Ceil : goal.factor_form-term_form-requires-in-Ceil
factor_form-term_form-requires-in-Ceil t c = (
  search (rules, ceiling_smaller c.args.factor.now c.in-Ceil.term c.as_slice-in-Ceil.result.now c.in-Ceil.k c.in-Ceil.is c.as_slice-in-Ceil.ensures),
  (
    c.requires.ready,
    in-Ceil c.args.scope.now c.args.factor.now c.in-Ceil.term c.as_slice-in-Ceil.result.now c.in-Ceil.k c.in-Ceil.is
        c.as_slice-in-Ceil.ensures c.requires.known,
  ),
)

pub factor_form-returns-in_ok-form-in-Inner : goal.factor_form-returns-in_ok-form-in-Inner
factor_form-returns-in_ok-form-in-Inner t c = (
  at-Inner c.args.meter.now c.args.scope.now c.args.system.now c.term_form.new.system c.args.factor.now c.in-Inner.term
      c.as_slice.result.now c.in_ok-form-in-Inner.form c.in-Inner.is c.as_slice.ensures c.in_ok-form-in-Inner.ensures.0,
  c.in_ok-form-in-Inner.ensures.1,
)

pub factor_form-returns-in_ok-made-in-Floor : goal.factor_form-returns-in_ok-made-in-Floor
factor_form-returns-in_ok-made-in-Floor t c = (
  at-Floor c.args.meter.now c.term_form-in-Floor.new.meter c.args.scope.now c.args.system.now c.term_form-in-Floor.new.system
      c.floor.new.system c.args.factor.now c.in-Floor.term c.as_slice-in-Floor.result.now c.in-Floor.k _ c.in_ok-form-in-Floor.form
      c.in_ok-made-in-Floor.made c.in-Floor.is c.as_slice-in-Floor.ensures c.in_ok-form-in-Floor.ensures.0 c.in_ok-form-in-Floor.ensures.1
      c.in_ok-made-in-Floor.ensures.0 (grind (arith, common_steps, to_z-of_z)),
  c.in_ok-made-in-Floor.ensures.1 ∙ c.in_ok-form-in-Floor.ensures.1,
)

pub factor_form-returns-in_ok-made-in-Ceil : goal.factor_form-returns-in_ok-made-in-Ceil
factor_form-returns-in_ok-made-in-Ceil t c = (
  at-Ceil c.args.meter.now c.term_form-in-Ceil.new.meter c.args.scope.now c.args.system.now c.term_form-in-Ceil.new.system
      c.ceiling.new.system c.args.factor.now c.in-Ceil.term c.as_slice-in-Ceil.result.now c.in-Ceil.k _ c.in_ok-form-in-Ceil.form
      c.in_ok-made-in-Ceil.made c.in-Ceil.is c.as_slice-in-Ceil.ensures c.in_ok-form-in-Ceil.ensures.0 c.in_ok-form-in-Ceil.ensures.1
      c.in_ok-made-in-Ceil.ensures.0 (grind (arith, common_steps, to_z-of_z)),
  c.in_ok-made-in-Ceil.ensures.1 ∙ c.in_ok-form-in-Ceil.ensures.1,
)

pub inner_form-factor_form-requires : goal.inner_form-factor_form-requires
inner_form-factor_form-requires t c =
    let is = inner_held c.args.part.now c.in-Some.modded c.in-Some.is in (
      search (rules, factor_smaller c.args.part.now c.in-Some.modded.factor c.in-Some.modded.moduli is),
      (
        c.requires.ready,
        (part_in c.args.scope.now c.args.part.now c.in-Some.modded.factor c.in-Some.modded.moduli is c.requires.known).1,
      ),
    )

pub inner_form-remainders-requires-clause-divisors : goal.inner_form-remainders-requires-clause-divisors
inner_form-remainders-requires-clause-divisors t c =
    let is = inner_held c.args.part.now c.in-Some.modded c.in-Some.is in
    subst (λ (ks : List ℤ). All (λ k. pos 0 <ℤ k) ks) (sym c.as_slice.ensures)
    (part_in c.args.scope.now c.args.part.now c.in-Some.modded.factor c.in-Some.modded.moduli is c.requires.known).0

pub inner_form-returns-in_ok-made-in-Some : goal.inner_form-returns-in_ok-made-in-Some
inner_form-returns-in_ok-made-in-Some t c =
    let is = inner_held c.args.part.now c.in-Some.modded c.in-Some.is in (
      at-Held c.args.meter.now c.factor_form.new.meter c.args.scope.now c.args.system.now c.factor_form.new.system c.remainders.new.system
          c.args.part.now c.in-Some.modded.factor c.in-Some.modded.moduli c.as_slice.result.now c.in_ok-form-in-Some.form
          c.in_ok-made-in-Some.made is c.as_slice.ensures c.in_ok-form-in-Some.ensures.0 c.in_ok-form-in-Some.ensures.1
          c.in_ok-made-in-Some.ensures.0,
      c.in_ok-made-in-Some.ensures.1
          ∙ c.in_ok-form-in-Some.ensures.1,
    )

pub term_form-inner_form-requires : goal.term_form-inner_form-requires
term_form-inner_form-requires t c =
    let low : c.loop-part.part-index < length c.args.term.now = omega arith in (
      search (rules, part_smaller c.args.term.now c.loop-part.part-index c.part-item.result low c.part-item.is),
      (
        gives_ready c.args.meter.now c.amount.new.meter c.args.scope.now c.args.system.now c.loop-part.system
            (term_value (take c.loop-part.part-index c.args.term.now)) c.loop-part.form (c.in_ok-amount.ensures.1 ∙ c.loop-part.invariant.1)
            c.requires.ready c.loop-part.invariant.0,
        term_part c.args.scope.now c.args.term.now c.loop-part.part-index c.part-item.result c.requires.known low c.part-item.is,
      ),
    )

pub term_form-loop-part-preserved : goal.term_form-loop-part-preserved
term_form-loop-part-preserved t c =
    let low : c.loop-part.part-index < length c.args.term.now = omega arith in (
      term_more c.args.meter.now c.loop-part.meter c.amount.new.meter c.inner_form.new.meter c.plus.new.meter c.args.scope.now
          c.args.system.now c.loop-part.system c.inner_form.new.system c.args.term.now c.loop-part.part-index c.part-item.result
          c.loop-part.form c.in_ok-inner.inner c.in_ok-sum.sum c.in_ok-amount.amount low c.part-item.is c.loop-part.invariant.0
          c.loop-part.invariant.1 c.in_ok-amount.ensures.0 c.in_ok-amount.ensures.1 c.in_ok-inner.ensures.0 c.in_ok-inner.ensures.1
          c.in_ok-sum.ensures,
      c.in_ok-sum.ensures.meter
          ∙ c.in_ok-inner.ensures.1
          ∙ c.in_ok-amount.ensures.1
          ∙ c.loop-part.invariant.1,
    )
