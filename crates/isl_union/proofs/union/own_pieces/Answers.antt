use Rattle.std.proofs.Common.{◌≡◌, sym, subst, arith, All, Contains}
use Rattle.isl_union.specs.KeptValue.{KeptValue}
use Rattle.isl_union.specs.Numbers.{IsWithinLimit}
use Rattle.isl_union.proofs.union.own_pieces.Goals as goal

pub taken_pieces-requires-clause-among : goal.taken_pieces-requires-clause-among
taken_pieces-requires-clause-among c =
    subst (λ (v : KeptValue). All (Contains c.args.all.now) v.params) (sym c.in-Ok.ensures.ok) c.requires.among

pub taken_pieces-requires-clause-within : goal.taken_pieces-requires-clause-within
taken_pieces-requires-clause-within c = subst (IsWithinLimit c.args.meter.now) (sym c.in-Ok.ensures.ok) c.requires.within

pub aligned_pieces-requires-clause-among : goal.aligned_pieces-requires-clause-among
aligned_pieces-requires-clause-among c =
    let same : c.deref.result.now ≡ c.args.value.value = grind arith in
    subst (λ (v : KeptValue). All (Contains c.args.all.now) v.params) (sym same) c.requires.among

pub aligned_pieces-requires-clause-within : goal.aligned_pieces-requires-clause-within
aligned_pieces-requires-clause-within c =
    let same : c.deref.result.now ≡ c.args.value.value = grind arith in
    subst (IsWithinLimit c.args.meter.now) (sym same) c.requires.within
