use Rattle.std.proofs.Common.{◌≡◌, ◌+◌, ◌<◌, ◌≤◌, ◌++◌, List, [], ◌∷◌, arith, length, subst, take}
use Rattle.std.proofs.lemmas.Grind.{common_steps}
use Rattle.isl_piece.specs.declared.system.System.{System}
use Rattle.isl_piece.specs.System.{HoldsSystem}
use Rattle.isl_elim.specs.Elimination.{HoldsAtAny}
use Rattle.isl_points.proofs.PrefixLaws.{IsGathering, more_gathered, some_more}
use Rattle.isl_points.proofs.SortedLaws.{sorted_listing}
use Rattle.isl_points.proofs.level.numbers_of_any.Goals as goal

pub loop-system-preserved : goal.loop-system-preserved
loop-system-preserved c =
    let systems = c.args.systems.now in
    let prefix = c.args.prefix.now in
    let i = c.loop-system.system-index in
    let s = c.system-item.result in
    let inside : i < length systems = grind (arith, common_steps) in
    let joined : c.extend_from_slice.new.self.items ≡ c.loop-system.found.items ++ c.in_ok-room.room.numbers.items =
    grind (arith, common_steps) in
    more_gathered c.args.meter.now c.loop-system.meter c.numbers_of.new.meter (λ x. HoldsAtAny (take i systems) (prefix ++ x ∷ []))
    (λ x. HoldsSystem s (prefix ++ x ∷ [])) (λ x. HoldsAtAny (take (i + 1) systems) (prefix ++ x ∷ [])) c.loop-system.found.items
    c.in_ok-room.room.numbers.items c.extend_from_slice.new.self.items c.loop-system.invariant c.in_ok-room.ensures.exact joined
    (λ x. some_more systems i s (prefix ++ x ∷ []) inside c.system-item.is)

pub returns : goal.returns
returns c =
    let g = c.args.meter.now in
    let systems = c.args.systems.now in
    let prefix = c.args.prefix.now in
    let found = c.loop-system.found.items in
    let whole : take c.loop-system.system-index systems ≡ systems = grind (arith, common_steps) in
    let gathered : IsGathering g c.loop-system.meter (λ x. HoldsAtAny systems (prefix ++ x ∷ [])) found =
    subst (λ (ss : List System). IsGathering g c.loop-system.meter (λ x. HoldsAtAny ss (prefix ++ x ∷ [])) found) whole
    c.loop-system.invariant in
    let short : length c.dedup.new.self.items ≤ length c.sort.new.self.items = grind arith in
    record {
      exact = sorted_listing g c.loop-system.meter (λ x. HoldsAtAny systems (prefix ++ x ∷ [])) found c.sort.new.self.items
          c.dedup.new.self.items gathered c.in_ok-sort.ensures.permutation c.in_ok-sort.ensures.sorted c.dedup.ensures.filtered short;
    }
