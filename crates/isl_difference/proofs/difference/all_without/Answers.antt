use Rattle.std.proofs.Common.{◌≡◌, ◌+◌, ◌*◌, ◌∷◌, ◌++◌, ◌∙◌, [], refl, sym, ap, subst, arith, length, append-nil, List, All}
use Rattle.std.specs.Prelude.{None}
use Rattle.std.proofs.lemmas.Grind.{common_steps}
use Rattle.std.proofs.lemmas.List.{nil_from_length}
use Rattle.std.proofs.lemmas.Result.{err_from_is_err_and}
use Rattle.isl_piece.specs.declared.system.System.{System}
use Rattle.isl_piece.specs.System.{free_columns}
use Rattle.isl_ledger.specs.Difference.{IsDifferenceSystem}
use Rattle.isl_difference.specs.Tame.{part_limit, test_work}
use Rattle.isl_difference.proofs.DifferenceLaws.{all_one, beside_more, counted_parts, counted_whole, difference_parts, difference_whole}
use Rattle.isl_difference.proofs.DifferenceLaws.{next_of, next_split, next_tame_of, next_within, IsPlain}
use Rattle.isl_difference.proofs.SplitLaws.{turn_units}
use Rattle.isl_difference.proofs.TameLaws.{one_left, tame_cut, tame_memory, tame_ok}
use Rattle.isl_difference.proofs.difference.all_without.Goals as goal

pub parts_outside-requires-clause-within : goal.parts_outside-requires-clause-within
parts_outside-requires-clause-within c =
    let rest = c.next.new.self.rest.items in
    let next : c.loop-system.system-iterator.rest.items ≡ c.in-Some.system ∷ rest = grind arith in
    next_within c.args.systems.items c.loop-system.yielded rest c.in-Some.system (rw next at c.loop-system.invariant.split)
    c.args.meter.now c.loop-system.meter c.loop-system.invariant.beside.charged c.requires.within

pub loop-system-preserved-in_default : goal.loop-system-preserved-in_default
loop-system-preserved-in_default c =
    let g = c.args.meter.now in
    let h = c.loop-system.meter in
    let k = c.parts_outside.new.meter in
    let systems = c.args.systems.items in
    let other = c.args.other.now in
    let s = c.in-Some.system in
    let done = c.loop-system.yielded in
    let rest = c.next.new.self.rest.items in
    let left = c.loop-system.left.items in
    let next : c.loop-system.system-iterator.rest.items ≡ s ∷ rest = grind arith in
    let split = rw next at c.loop-system.invariant.split in
    let beside = c.loop-system.invariant.beside in
    let free = next_of systems done rest s split (λ t. free_columns t ≡ free_columns other) c.requires.columns in
    let within = next_within systems done rest s split g h beside.charged c.requires.within in
    let none : c.in_ok-parts.field-0 ≡ None = grind (arith, common_steps) in
    let found = rw none at c.in_ok-parts.ensures.exact in
    record {
      split = next_split systems done rest s split;
      beside = beside_more g h k systems done rest other s left (s ∷ []) c.requires.disjoint split free beside c.push.new.systems.items
          (difference_whole h s other (s ∷ []) within found.0 refl) (counted_whole h k s (s ∷ []) refl) found.1
          (λ own o. all_one IsPlain s (s ∷ []) refl own)
          (λ columns bits limit room d o.
          let made = c.in_ok-parts.ensures.tame columns bits limit room d o in
          (made.within.units, one_left columns bits s (s ∷ []) refl d))
          c.in_ok-push.ensures.items;
    }

pub loop-system-preserved : goal.loop-system-preserved
loop-system-preserved c =
    let g = c.args.meter.now in
    let h = c.loop-system.meter in
    let k = c.parts_outside.new.meter in
    let systems = c.args.systems.items in
    let other = c.args.other.now in
    let s = c.in-Some.system in
    let done = c.loop-system.yielded in
    let rest = c.next.new.self.rest.items in
    let left = c.loop-system.left.items in
    let parts = c.in-Some-2.parts.items in
    let next : c.loop-system.system-iterator.rest.items ≡ s ∷ rest = grind arith in
    let split = rw next at c.loop-system.invariant.split in
    let free = next_of systems done rest s split (λ t. free_columns t ≡ free_columns other) c.requires.columns in
    let found = rw c.in-Some-2.is at c.in_ok-parts.ensures.exact in
    let paid = rw c.in-Some-2.is at c.in_ok-parts.ensures.paid in
    record {
      split = next_split systems done rest s split;
      beside = beside_more g h k systems done rest other s left parts c.requires.disjoint split free c.loop-system.invariant.beside
          c.append.new.systems.items (difference_parts h s other parts found.0) (counted_parts h k s parts paid) found.1
          (λ own o. rw c.in-Some-2.is at (c.in_ok-parts.ensures.definitions own o))
          (λ columns bits limit room d o.
          let made = c.in_ok-parts.ensures.tame columns bits limit room d o in
          (made.within.units, rw c.in-Some-2.is at made.answer))
          c.in_ok-append.ensures.items;
    }

pub returns-in_err-parts-clause-tame : goal.returns-in_err-parts-clause-tame
returns-in_err-parts-clause-tame c = λ columns bits limit room all o.
    let g = c.args.meter.now in
    let h = c.loop-system.meter in
    let systems = c.args.systems.items in
    let s = c.in-Some.system in
    let done = c.loop-system.yielded in
    let rest = c.next.new.self.rest.items in
    let work = part_limit columns 1 * test_work columns in
    let next : c.loop-system.system-iterator.rest.items ≡ s ∷ rest = grind arith in
    let beside = c.loop-system.invariant.beside in
    let before = next_tame_of g h systems done rest c.args.other.now s c.loop-system.left.items (rw next at c.loop-system.invariant.split)
    beside columns bits limit room all o in
    let cut = c.in_err-parts.ensures.tame columns bits before.limit room before.own o in
    let error = err_from_is_err_and c.from_residual.result c.from_residual.ensures.1 in
    rw (error.1, error.2) (tame_cut (length done * work) work (length systems * work) g h c.parts_outside.new.meter _ _
    c.in_err-parts.field-0.0 beside.charged before.units before.room cut)

pub returns-in_err-push-clause-tame : goal.returns-in_err-push-clause-tame
returns-in_err-push-clause-tame c = λ columns bits limit room all o.
    let g = c.args.meter.now in
    let h = c.loop-system.meter in
    let k = c.parts_outside.new.meter in
    let systems = c.args.systems.items in
    let s = c.in-Some.system in
    let done = c.loop-system.yielded in
    let rest = c.next.new.self.rest.items in
    let work = part_limit columns 1 * test_work columns in
    let next : c.loop-system.system-iterator.rest.items ≡ s ∷ rest = grind arith in
    let before = next_tame_of g h systems done rest c.args.other.now s c.loop-system.left.items (rw next at c.loop-system.invariant.split)
    c.loop-system.invariant.beside columns bits limit room all o in
    let made = c.in_ok-parts.ensures.tame columns bits before.limit room before.own o in
    let error = err_from_is_err_and c.from_residual-in_err-push.result c.from_residual-in_err-push.ensures.1 in
    rw (error.1, error.2) (tame_memory (length done * work + work) (length systems * work) g k _
    (turn_units (length done * work) work g h k before.units made.within.units) before.room)

pub returns-in_err-append-clause-tame : goal.returns-in_err-append-clause-tame
returns-in_err-append-clause-tame c = λ columns bits limit room all o.
    let g = c.args.meter.now in
    let h = c.loop-system.meter in
    let k = c.parts_outside.new.meter in
    let systems = c.args.systems.items in
    let s = c.in-Some.system in
    let done = c.loop-system.yielded in
    let rest = c.next.new.self.rest.items in
    let work = part_limit columns 1 * test_work columns in
    let next : c.loop-system.system-iterator.rest.items ≡ s ∷ rest = grind arith in
    let before = next_tame_of g h systems done rest c.args.other.now s c.loop-system.left.items (rw next at c.loop-system.invariant.split)
    c.loop-system.invariant.beside columns bits limit room all o in
    let made = c.in_ok-parts.ensures.tame columns bits before.limit room before.own o in
    let error = err_from_is_err_and c.from_residual-in_err-append.result c.from_residual-in_err-append.ensures.1 in
    rw (error.1, error.2) (tame_memory (length done * work + work) (length systems * work) g k _
    (turn_units (length done * work) work g h k before.units made.within.units) before.room)

pub returns-clause-tame : goal.returns-clause-tame
returns-clause-tame c = λ columns bits limit room all o.
    let systems = c.args.systems.items in
    let done = c.loop-system.yielded in
    let rest = c.loop-system.system-iterator.rest.items in
    let none = nil_from_length rest (sym c.loop-system.system-iterator.rest.ok.0 ∙ c.in-None.ensures.steps.0) in
    let whole : done ≡ systems =
    sym (append-nil done) ∙ ap (λ (xs : List System). done ++ xs) (sym none) ∙ c.loop-system.invariant.split in
    let D : System → Type 0 = IsDifferenceSystem columns (bits + 1) in
    let so = c.loop-system.invariant.beside.tame columns bits limit room (subst (All D) (sym whole) all) o in
    let units = rw whole at so.units in
    let size = rw whole at so.size in
    tame_ok (length systems * (part_limit columns 1 * test_work columns)) c.args.meter.now c.loop-system.meter _ _ units size
