use Rattle.std.proofs.Common.{◌∙◌, ap, cond, [], List, ℕ, Some, None, Bool}
use Rattle.std.specs.Borrow.{Bor}
use Rattle.isl_words.proofs.BindingLemmas.{all_with, all_without, all_end}
use Rattle.isl_words.proofs.binding.read_bindings.Goals as goal

abbrev no_part : Bor (List ℕ)
no_part = record { ref_ptr = (0, 0); now = [] }

pub loop-part-preserved : goal.loop-part-preserved
loop-part-preserved c =
    all_with c.args.limit c.loop-part.found.items c.deref-part-items.result.now c.loop-part.part-index no_part
    c.add_binding.new.found.items c.loop-part-test.true
    (c.in_ok-add_binding.ensures ∙ ap (λ (b : Bool). cond b (Some c.add_binding.new.found.items) None) c.if-not-branch.false)
    ∙ c.loop-part.invariant

pub returns-then-not-branch : goal.returns-then-not-branch
returns-then-not-branch c =
    all_without c.args.limit c.loop-part.found.items c.deref-part-items.result.now c.loop-part.part-index no_part c.loop-part-test.true
    (c.in_ok-add_binding.ensures ∙ ap (λ (b : Bool). cond b (Some c.add_binding.new.found.items) None) c.if-not-branch.true)
    ∙ c.loop-part.invariant

pub returns : goal.returns
returns c = all_end c.args.limit c.loop-part.found.items c.deref-part-items.result.now c.loop-part.part-index c.loop-part-test.false
    ∙ c.loop-part.invariant
