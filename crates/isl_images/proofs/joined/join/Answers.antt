use Rattle.std.proofs.Common.{inl, inr, refl, sym, ◌∙◌, subst}
use Rattle.std.proofs.lemmas.Bool.{false≢true}
use Rattle.std.proofs.lemmas.Result.{err_from_is_err_and}
use Rattle.isl_union.specs.Fault.{IsChargedFrom}
use Rattle.isl_union.specs.KeptValue.{Has}
use Rattle.isl_union.proofs.PiecesLaws.{through}
use Rattle.isl_relation.specs.Formed.{FormsJoin}
use Rattle.isl_relation.specs.Maps.{JoinHas}
use Rattle.isl_relation.specs.Together.{are_linked}
use Rattle.isl_relation.specs.Wide.{PairsTooWide}
use Rattle.isl_relation.proofs.TogetherLaws.{same_pairs}
use Rattle.isl_images.specs.declared.pairing.Pairing.TheVariants.{Join}
use Rattle.isl_images.specs.Made.{elements_of_all}
use Rattle.isl_images.proofs.MadeLaws.{value_has, value_kept, value_small}
use Rattle.isl_images.proofs.PairingLaws.{pair_same}
use Rattle.isl_images.proofs.WideLaws.{narrow_pairs, wide_exactly}
use Rattle.isl_images.proofs.joined.join.Goals as goal

pub new-requires : goal.new-requires
new-requires c = λ k d l. (c.in_ok-pair.ensures.exact.others.sound k d l).kept.space

pub have_wide_join-requires-clause-pieces : goal.have_wide_join-requires-clause-pieces
have_wide_join-requires-clause-pieces c =
    rw c.as_slice-own.ensures.value (λ k d l. (c.in_ok-pair.ensures.exact.own.sound k d l).kept.space)

pub have_wide_join-requires-clause-others : goal.have_wide_join-requires-clause-others
have_wide_join-requires-clause-others c =
    rw c.in_ok-others.ensures (λ k d l. (c.in_ok-pair.ensures.exact.others.sound k d l).kept.space)

pub all_pairs-requires-clause-narrow : goal.all_pairs-requires-clause-narrow
all_pairs-requires-clause-narrow c =
    let pair = c.in_ok-pair.pair in
    let over = c.in_ok-pair.ensures.exact in
    let exact = wide_exactly c.args.a.now c.args.b.now pair.own.items pair.others.items over.own.spaces over.others.spaces in
    let told = rw (c.as_slice-own.ensures.value, c.in_ok-others.ensures) at c.in_ok-have_wide_join.ensures in
    let never : ¬ PairsTooWide FormsJoin c.args.a.now c.args.b.now =
    λ wide. false≢true (sym c.if-branch.false ∙ told.1 (exact.1 wide)) in
    rw (c.as_slice-own.ensures.value, c.in_ok-others.ensures)
    (narrow_pairs c.args.meter.now c.args.a.now c.args.b.now pair.params pair.own.items pair.others.items c.in_ok-pair.ensures.exact never)

pub returns-clause-kept : goal.returns-clause-kept
returns-clause-kept c =
    let pair = c.in_ok-pair.pair in
    let own = c.as_slice-own.result.now in
    let others = c.in_ok-others.others in
    value_kept c.args.meter.now pair.params ⊥
    (λ v. JoinHas (elements_of_all pair.params own v) (elements_of_all pair.params others v)) c.in_ok-made.made.items
    c.in_ok-made.ensures.made c.from_normal.result c.from_normal.ensures c.in_ok-pair.ensures.exact.well_formed

pub returns-clause-elements : goal.returns-clause-elements
returns-clause-elements c v e =
    let pair = c.in_ok-pair.pair in
    let exact = c.in_ok-pair.ensures.exact in
    let own = pair.own.items in
    let others = pair.others.items in
    let made = rw (c.as_slice-own.ensures.value, c.in_ok-others.ensures) at c.in_ok-made.ensures.made in
    through
    (value_has c.args.meter.now pair.params ⊥
    (λ w. JoinHas (elements_of_all pair.params own w) (elements_of_all pair.params others w)) c.in_ok-made.made.items made
    c.from_normal.result c.from_normal.ensures v e)
    (pair_same Join (elements_of_all pair.params own v) (Has c.args.a.now v) (elements_of_all pair.params others v) (Has c.args.b.now v)
    (exact.own.elements v) (exact.others.elements v) e)

pub returns-clause-numbers : goal.returns-clause-numbers
returns-clause-numbers c =
    let pair = c.in_ok-pair.pair in
    let own = c.as_slice-own.result.now in
    let others = c.in_ok-others.others in
    value_small c.args.meter.now pair.params ⊥
    (λ v. JoinHas (elements_of_all pair.params own v) (elements_of_all pair.params others v)) c.in_ok-made.made.items
    c.in_ok-made.ensures.made c.from_normal.result c.from_normal.ensures

pub returns-then-branch-clause-units : goal.returns-then-branch-clause-units
returns-then-branch-clause-units c =
    let pair = c.in_ok-pair.pair in
    let over = c.in_ok-pair.ensures.exact in
    let exact = wide_exactly c.args.a.now c.args.b.now pair.own.items pair.others.items over.own.spaces over.others.spaces in
    let told = rw (c.as_slice-own.ensures.value, c.in_ok-others.ensures) at c.in_ok-have_wide_join.ensures in
    (inr (c.in_ok-pair.ensures.faults, exact.0 (told.0 c.if-branch.true)), refl)

pub returns-in_err-made-clause-units : goal.returns-in_err-made-clause-units
returns-in_err-made-clause-units c =
    let pair = c.in_ok-pair.pair in
    let over = c.in_ok-pair.ensures.exact in
    let exact = wide_exactly c.args.a.now c.args.b.now pair.own.items pair.others.items over.own.spaces over.others.spaces in
    let told = rw (c.as_slice-own.ensures.value, c.in_ok-others.ensures) at c.in_ok-have_wide_join.ensures in
    let never : ¬ PairsTooWide FormsJoin c.args.a.now c.args.b.now =
    λ wide. false≢true (sym c.if-branch.false ∙ told.1 (exact.1 wide)) in
    let fault = err_from_is_err_and c.from_residual-in_err-made.result c.from_residual-in_err-made.ensures.1 in
    rw (fault.1, fault.2) (inl (c.in_ok-pair.ensures.faults, never), c.in_err-made.ensures.units)

pub returns-clause-units : goal.returns-clause-units
returns-clause-units c =
    let g = c.args.meter.now in
    let h = c.all_pairs.new.meter in
    let pair = c.in_ok-pair.pair in
    let used = rw (c.as_slice-own.ensures.value, c.in_ok-others.ensures) at c.in_ok-made.ensures.units in
    let over = c.in_ok-pair.ensures.exact in
    let exact = wide_exactly c.args.a.now c.args.b.now pair.own.items pair.others.items over.own.spaces over.others.spaces in
    let told = rw (c.as_slice-own.ensures.value, c.in_ok-others.ensures) at c.in_ok-have_wide_join.ensures in (
      c.in_ok-pair.ensures.faults,
      (λ wide. false≢true (sym c.if-branch.false ∙ told.1 (exact.1 wide))),
      subst (λ n. IsChargedFrom n g h)
          (same_pairs are_linked g c.args.a.now c.args.b.now pair.params pair.own.items pair.others.items c.in_ok-pair.ensures.exact) used,
    )
