use Rattle.std.proofs.Common.{◌≡◌, false, arith, sym, ◌∙◌}
use Rattle.std.proofs.lemmas.Bool.{false≢true}
use Rattle.std.proofs.lemmas.Grind.{common_steps}
use Rattle.isl_quotient.proofs.PinnedLaws.{one_undefining, pinning_kept}
use Rattle.isl_quotient.proofs.projection.project.Goals as goal

pub returns-then-not-are_undefining-clause-kept : goal.returns-then-not-are_undefining-clause-kept
returns-then-not-are_undefining-clause-kept c = λ col one pinned.
    let s = c.args.system.now in
    let no : c.are_undefining.result ≡ false = grind (arith, common_steps) in
    let definitions : c.as_slice.result.now ≡ s.definitions = grind (arith, common_steps) in
    let told = rw definitions at (sym c.are_undefining.ensures ∙ no) in
    absurd (false≢true (sym (rw one at told) ∙ one_undefining s.definitions col pinned.undefining))

pub returns-then-not-may_keep-clause-kept : goal.returns-then-not-may_keep-clause-kept
returns-then-not-may_keep-clause-kept c = λ col one pinned.
    let no : c.may_keep.result ≡ false = grind (arith, common_steps) in
    let rows : c.as_slice-2.result.now ≡ c.args.system.now.rows = grind (arith, common_steps) in
    absurd (pinning_kept c.args.system.now.rows col pinned.bounds (rw (rows, one) at (c.may_keep.ensures no)))

pub returns-clause-kept : goal.returns-clause-kept
returns-clause-kept c = λ col one pinned.
    rw c.in_ok-copy.ensures at (c.solved_without.ensures.kept col one (rw c.in_ok-copy.ensures pinned.ungiven)
    (rw c.in_ok-copy.ensures pinned.bounds))
