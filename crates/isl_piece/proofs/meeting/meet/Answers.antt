use Rattle.std.proofs.Common.{◌≡◌, ◌↔◌, refl, sym, ap, ◌∙◌, ℕ, List, ℤ, Result, IfOk}
use Rattle.std.proofs.lemmas.Bool.{false≢true}
use Rattle.std.proofs.lemmas.Result.{IfOk-weaker}
use Rattle.isl_piece.specs.declared.meeting.Meeting.{Meeting}
use Rattle.isl_piece.specs.declared.system.System.{System}
use Rattle.isl_piece.specs.Formed.{IsSystemUpTo}
use Rattle.isl_piece.specs.System.{HoldsSystem, IsSystemWithin, free_columns}
use Rattle.isl_piece.specs.Meet.{over_columns, over_same_columns, met}
use Rattle.isl_piece.specs.Placed.{both_systems}
use Rattle.isl_piece.proofs.MeetLaws.{both_apart, both_free, both_points, both_same, both_up_to, both_within}
use Rattle.isl_piece.proofs.meeting.meet.Goals as goal

pub returns-then-same-clause-exact : goal.returns-then-same-clause-exact
returns-then-same-clause-exact c =
    let a = c.args.a.now in
    let b = c.args.b.now in
    IfOk-weaker c.same_columns.result (λ system. system ≡ over_same_columns a b) (λ system. system ≡ both_systems a b)
    (λ system is. is ∙ sym (both_same a b (c.if-same.ensures.0 refl))) c.same_columns.ensures

pub returns-then-same-clause-points : goal.returns-then-same-clause-points
returns-then-same-clause-points c g point p q e =
    let a = c.args.a.now in
    let b = c.args.b.now in
    IfOk-weaker c.same_columns.result (λ system. system ≡ both_systems a b) (λ system. HoldsSystem system point ↔ (HoldsSystem a point × HoldsSystem b point))
    (λ system is. rw is (both_points g a b c.requires p q point e)) (returns-then-same-clause-exact c)

pub returns-then-same-clause-within : goal.returns-then-same-clause-within
returns-then-same-clause-within c g p q =
    let a = c.args.a.now in
    let b = c.args.b.now in
    IfOk-weaker c.same_columns.result (λ system. system ≡ both_systems a b) (IsSystemWithin g)
    (λ system is. rw is (both_within g a b c.requires p q)) (returns-then-same-clause-exact c)

pub returns-then-same-clause-free : goal.returns-then-same-clause-free
returns-then-same-clause-free c g p q =
    let a = c.args.a.now in
    let b = c.args.b.now in
    IfOk-weaker c.same_columns.result (λ system. system ≡ both_systems a b) (λ system. free_columns system ≡ free_columns a)
    (λ system is. rw is (both_free g a b c.requires p q)) (returns-then-same-clause-exact c)

pub returns-then-same-clause-magnitudes : goal.returns-then-same-clause-magnitudes
returns-then-same-clause-magnitudes c n p q =
    let a = c.args.a.now in
    let b = c.args.b.now in
    IfOk-weaker c.same_columns.result (λ system. system ≡ both_systems a b) (IsSystemUpTo n) (λ system is. rw is (both_up_to n a b p q))
    (returns-then-same-clause-exact c)

pub returns-clause-exact : goal.returns-clause-exact
returns-clause-exact c =
    let a = c.args.a.now in
    let b = c.args.b.now in
    let meeting = c.in_ok-of.field-0 in
    IfOk-weaker c.over_columns.result (λ system. system ≡ over_columns meeting a b) (λ system. system ≡ both_systems a b)
    (λ system is. is ∙ ap (λ (m : Meeting). over_columns m a b) c.in_ok-of.ensures.exact ∙ sym (both_apart a b (λ e. false≢true (c.if-same.ensures.1 e))))
    c.over_columns.ensures

pub returns-clause-points : goal.returns-clause-points
returns-clause-points c g point p q e =
    let a = c.args.a.now in
    let b = c.args.b.now in
    IfOk-weaker c.over_columns.result (λ system. system ≡ both_systems a b) (λ system. HoldsSystem system point ↔ (HoldsSystem a point × HoldsSystem b point))
    (λ system is. rw is (both_points g a b c.requires p q point e)) (returns-clause-exact c)

pub returns-clause-within : goal.returns-clause-within
returns-clause-within c g p q =
    let a = c.args.a.now in
    let b = c.args.b.now in
    IfOk-weaker c.over_columns.result (λ system. system ≡ both_systems a b) (IsSystemWithin g)
    (λ system is. rw is (both_within g a b c.requires p q)) (returns-clause-exact c)

pub returns-clause-free : goal.returns-clause-free
returns-clause-free c g p q =
    let a = c.args.a.now in
    let b = c.args.b.now in
    IfOk-weaker c.over_columns.result (λ system. system ≡ both_systems a b) (λ system. free_columns system ≡ free_columns a)
    (λ system is. rw is (both_free g a b c.requires p q)) (returns-clause-exact c)

pub returns-clause-magnitudes : goal.returns-clause-magnitudes
returns-clause-magnitudes c n p q =
    let a = c.args.a.now in
    let b = c.args.b.now in
    IfOk-weaker c.over_columns.result (λ system. system ≡ both_systems a b) (IsSystemUpTo n) (λ system is. rw is (both_up_to n a b p q))
    (returns-clause-exact c)
