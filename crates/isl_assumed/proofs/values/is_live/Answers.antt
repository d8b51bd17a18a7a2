use Rattle.std.proofs.Common.{◌≡◌, ◌≤◌, ◌∙◌, ap, arith, false, length, refl, subst, sym, true}
use Rattle.std.proofs.lemmas.Bool.{false≢true}
use Rattle.std.proofs.lemmas.Grind.{common_steps}
use Rattle.isl_meter.proofs.CutLemmas.{IsCharged_trans}
use Rattle.isl_space.specs.SpaceForm.{coordinates_of}
use Rattle.isl_piece.specs.System.{IsSystemWithin}
use Rattle.isl_difference.specs.Split.{IsLive}
use Rattle.isl_difference.proofs.DifferenceLaws.{system_at}
use Rattle.isl_difference.proofs.SplitLaws.{charged_within}
use Rattle.isl_assumed.proofs.ValueLaws.{dead_all, dead_exactly, dead_more, live_some}
use Rattle.isl_assumed.proofs.values.is_live.Goals as goal

pub pair-requires-clause-system : goal.pair-requires-clause-system
pair-requires-clause-system c =
    subst (IsSystemWithin c.loop-system.meter) (sym c.system.ensures)
    (charged_within c.args.meter.now c.loop-system.meter c.args.piece.now.system c.loop-system.invariant.charged c.requires.within)

pub pair-requires-clause-other : goal.pair-requires-clause-other
pair-requires-clause-other c =
    let live = system_at (IsLive c.args.meter.now (length c.args.params.now)) c.args.systems.now c.loop-system.system-index
    c.system-item.result c.requires.systems c.loop-system-test.true c.system-item.is in
    charged_within c.args.meter.now c.loop-system.meter c.system-item.result c.loop-system.invariant.charged live.within

pub is_empty-requires : goal.is_empty-requires
is_empty-requires c = record {
  well_formed = charged_within c.loop-system.meter c.pair.new.meter c.in_ok-both.both c.in_ok-both.ensures.meter
      c.in_ok-both.ensures.pair.within;
}

pub returns-then-not-branch-clause-exact : goal.returns-then-not-branch-clause-exact
returns-then-not-branch-clause-exact c =
    let params = c.args.params.now in
    let p = c.args.piece.now in
    let sound = c.requires.piece in
    let s = c.system-item.result in
    let both = c.in_ok-both.both in
    let pair = rw (c.len-names.ensures.len, c.width-more.ensures ∙ ap coordinates_of c.space.ensures, c.system.ensures) at
    c.in_ok-both.ensures.pair in
    let no : c.in_ok-is_empty.field-0 ≡ false = grind (arith, common_steps) in
    let exact = dead_exactly params p sound c.requires.names c.loop-system.meter s both pair in
    let live = live_some params p sound c.args.systems.now c.loop-system.system-index s c.loop-system-test.true c.system-item.is
    (λ dead. false≢true (sym no ∙ c.in_ok-is_empty.ensures.exact.1 (exact.1 dead))) in
    ((λ yes. live), (λ not. refl))

pub loop-system-preserved : goal.loop-system-preserved
loop-system-preserved c =
    let g = c.args.meter.now in
    let h = c.loop-system.meter in
    let params = c.args.params.now in
    let p = c.args.piece.now in
    let sound = c.requires.piece in
    let s = c.system-item.result in
    let both = c.in_ok-both.both in
    let pair = rw (c.len-names.ensures.len, c.width-more.ensures ∙ ap coordinates_of c.space.ensures, c.system.ensures) at
    c.in_ok-both.ensures.pair in
    let yes : c.in_ok-is_empty.field-0 ≡ true = grind (arith, common_steps) in
    let exact = dead_exactly params p sound c.requires.names h s both pair in
    let so_far = c.loop-system.invariant in
    record {
      dead = dead_more params p sound c.args.systems.now c.loop-system.system-index s c.loop-system-test.true c.system-item.is so_far.dead
          (exact.0 (c.in_ok-is_empty.ensures.exact.0 yes));
      charged = IsCharged_trans g c.pair.new.meter c.is_empty.new.meter
          (IsCharged_trans g h c.pair.new.meter so_far.charged c.in_ok-both.ensures.meter) c.in_ok-is_empty.ensures.meter;
    }

pub returns-clause-exact : goal.returns-clause-exact
returns-clause-exact c =
    let systems = c.args.systems.now in
    let end : length systems ≤ c.loop-system.system-index = omega arith in
    let dead = dead_all c.args.params.now c.args.piece.now c.requires.piece systems c.loop-system.system-index end
    c.loop-system.invariant.dead in
    ((λ no. absurd (false≢true no)), (λ not. absurd (not dead)))
