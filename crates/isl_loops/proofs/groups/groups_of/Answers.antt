use Rattle.std.proofs.Common.{◌≡◌, ◌∷◌, ◌++◌, [], sym, ap, ◌∙◌, append_assoc, append-nil, arith, subst, List}
use Rattle.std.specs.List.{All}
use Rattle.std.specs.List.Sorted.{IsPermutation}
use Rattle.std.proofs.lemmas.List.{nil_from_length}
use Rattle.std.proofs.lemmas.List.Elements.{All-head}
use Rattle.std.proofs.lemmas.List.Sorted.{IsPermutation-append_left, IsPermutation-trans}
use Rattle.isl_math.proofs.ListLaws.{All-parts}
use Rattle.isl_meter.proofs.CutLemmas.{IsCharged_trans}
use Rattle.isl_nest.specs.declared.item.Item.{Item}
use Rattle.isl_loops.specs.Groups.{members_of}
use Rattle.isl_loops.specs.Together.{IsOver}
use Rattle.isl_loops.proofs.CallLaws.{over_charged}
use Rattle.isl_loops.proofs.GroupLaws.{all_charged, groups_are, groups_over}
use Rattle.isl_loops.proofs.groups.groups_of.Goals as goal

pub with_item-requires-clause-groups : goal.with_item-requires-clause-groups
with_item-requires-clause-groups c =
    let g = c.args.meter.now in
    let h = c.loop-item.meter in
    let made = c.loop-item.yielded in
    let O : Item → Type 0 = IsOver g c.args.extent.params c.args.extent.times in
    let over = All-parts O made c.loop-item.item-iterator.rest.items (subst (All O) (sym c.loop-item.invariant.split) c.requires.items) in
    groups_over h c.args.extent made c.loop-item.groups.items c.loop-item.invariant.same
    (all_charged g h c.args.extent made c.loop-item.invariant.charged over.0)

pub with_item-requires-clause-item : goal.with_item-requires-clause-item
with_item-requires-clause-item c =
    let g = c.args.meter.now in
    let O : Item → Type 0 = IsOver g c.args.extent.params c.args.extent.times in
    let before = c.loop-item.item-iterator.rest.items in
    let left = c.next.new.self.rest.items in
    let next : before ≡ c.in-Some.item ∷ left = grind arith in
    let over = All-parts O c.loop-item.yielded before (subst (All O) (sym c.loop-item.invariant.split) c.requires.items) in
    over_charged g c.loop-item.meter c.args.extent.params c.args.extent.times c.in-Some.item c.loop-item.invariant.charged
    (All-head O c.in-Some.item left (subst (All O) next over.1))

pub loop-item-preserved : goal.loop-item-preserved
loop-item-preserved c =
    let item = c.in-Some.item in
    let made = c.loop-item.yielded in
    let left = c.next.new.self.rest.items in
    let groups = c.loop-item.groups.items in
    let so_far = c.loop-item.invariant in
    let next : c.loop-item.item-iterator.rest.items ≡ item ∷ left = grind arith in
    record {
      split = append_assoc made (item ∷ []) left ∙ ap (λ xs. made ++ xs) (sym next) ∙ so_far.split;
      same = IsPermutation-trans (made ++ item ∷ []) (members_of groups ++ item ∷ []) (members_of c.in_ok-groups.groups.items)
          (IsPermutation-append_left (item ∷ []) made (members_of groups) so_far.same) c.in_ok-groups.ensures.same;
      ordered = c.in_ok-groups.ensures.ordered so_far.ordered;
      charged = IsCharged_trans c.args.meter.now c.loop-item.meter c.with_item.new.meter so_far.charged c.in_ok-groups.ensures.meter;
    }

pub returns-clause-groups : goal.returns-clause-groups
returns-clause-groups c =
    let made = c.loop-item.yielded in
    let rest = c.loop-item.item-iterator.rest.items in
    let none = nil_from_length rest (sym c.loop-item.item-iterator.rest.ok.0 ∙ c.in-None.ensures.steps.0) in
    let all : made ≡ c.args.items.items = sym (append-nil made) ∙ ap (λ xs. made ++ xs) (sym none) ∙ c.loop-item.invariant.split in
    groups_are c.args.place.now c.args.items.items c.loop-item.groups.items
    (subst (λ (xs : List Item). IsPermutation xs (members_of c.loop-item.groups.items)) all c.loop-item.invariant.same)
    c.loop-item.invariant.ordered
