use Rattle.std.proofs.Common.{◌≡◌, ◌+◌, ◌∷◌, ◌++◌, ◌∙◌, [], refl, sym, ap, subst, arith, append-nil, List, All, Any}
use Rattle.std.proofs.lemmas.List.{nil_from_length}
use Rattle.isl_meter.proofs.CutLemmas.{IsCharged_refl, IsCharged_trans}
use Rattle.isl_piece.specs.declared.system.System.{System}
use Rattle.isl_difference.specs.Split.{IsLive}
use Rattle.isl_difference.proofs.SplitLaws.{live_kept}
use Rattle.isl_remainder.proofs.LimitLaws.{charged_bits}
use Rattle.isl_remainder.specs.Made.{AreMade}
use Rattle.isl_remainder.specs.Over.{HoldsLong, HoldsLongBefore, IsAcross}
use Rattle.isl_remainder.proofs.MadeLaws.{made_behind, made_none, next_has, split_next}
use Rattle.isl_remainder.proofs.OverLaws.{across_later, live_without_made, IsPlainSystem}
use Rattle.isl_remainder.proofs.over.all_live_without.Goals as goal

pub left_without-requires : goal.left_without-requires
left_without-requires c =
    let g = c.args.meter.now in
    let n = c.args.kept + c.args.count in
    let rest = c.next.new.self.rest.items in
    let next : c.loop-system.system-iterator.rest.items ≡ c.in-Some.system ∷ rest = grind arith in
    let own = next_has c.args.systems.items c.loop-system.yielded rest c.in-Some.system (rw next at c.loop-system.invariant.split)
    (IsAcross g n) c.requires in
    let is = across_later g c.loop-system.meter n c.in-Some.system c.loop-system.invariant.charged own in
    record { within = is.within; columns = is.free }

pub loop-system-init : goal.loop-system-init
loop-system-init c =
    let kept = c.args.kept in
    let items = c.args.systems.items in
    record {
      split = grind arith;
      made = made_none (HoldsLong kept) (IsLive c.args.meter.now kept) IsPlainSystem (All IsPlainSystem items)
          (λ point s. HoldsLongBefore kept c.args.count point s) items c.new-made.result.items c.new-made.ensures.items;
      charged = IsCharged_refl c.args.meter.now c.args.meter.now refl;
    }

pub loop-system-preserved : goal.loop-system-preserved
loop-system-preserved c =
    let g = c.args.meter.now in
    let h = c.loop-system.meter in
    let kept = c.args.kept in
    let count = c.args.count in
    let items = c.args.systems.items in
    let done = c.loop-system.yielded in
    let item = c.in-Some.system in
    let rest = c.next.new.self.rest.items in
    let so_far = c.loop-system.invariant in
    let next : c.loop-system.system-iterator.rest.items ≡ item ∷ rest = grind arith in
    let split = rw next at so_far.split in
    record {
      split = split_next items done rest item split;
      made = made_behind (HoldsLong kept) (IsLive g kept) IsPlainSystem (All IsPlainSystem items)
          (λ point s. HoldsLongBefore kept count point s) items done item (IsLive h kept) (IsPlainSystem item)
          (λ point. HoldsLongBefore kept count point item) (λ s is. live_kept g h kept s (sym (charged_bits g h so_far.charged)) is)
          (λ all. next_has items done rest item split IsPlainSystem all) (λ point. ((λ x. x), (λ x. x)))
          c.loop-system.made.items c.in_ok-more.more.items c.append.new.systems.items c.in_ok-append.ensures.items so_far.made
          (live_without_made h item kept count c.in_ok-more.more.items c.in_ok-more.ensures.left);
      charged = IsCharged_trans g h c.left_without.new.meter so_far.charged c.in_ok-more.ensures.meter;
    }

pub returns-clause-made : goal.returns-clause-made
returns-clause-made c =
    let kept = c.args.kept in
    let items = c.args.systems.items in
    let done = c.loop-system.yielded in
    let rest = c.loop-system.system-iterator.rest.items in
    let none = nil_from_length rest (sym c.loop-system.system-iterator.rest.ok.0 ∙ c.in-None.ensures.steps.0) in
    let whole : done ≡ items =
    sym (append-nil done) ∙ ap (λ (xs : List System). done ++ xs) (sym none) ∙ c.loop-system.invariant.split in
    subst (λ (xs : List System). AreMade (HoldsLong kept) (IsLive c.args.meter.now kept) IsPlainSystem (All IsPlainSystem items)
    (λ point. Any (HoldsLongBefore kept c.args.count point) xs) c.loop-system.made.items) whole c.loop-system.invariant.made
