use Rattle.std.proofs.Common.{◌≡◌, sym, ap, ◌∙◌, arith, length, subst, false, true}
use Rattle.std.specs.List.{All}
use Rattle.std.proofs.lemmas.Bool.{false≢true}
use Rattle.std.proofs.lemmas.Grind.{common_steps}
use Rattle.isl_piece.specs.declared.system.System.{System}
use Rattle.isl_piece.specs.System.{HoldRows}
use Rattle.isl_coalesce.specs.Beyond.{IsCarried}
use Rattle.isl_coalesce.proofs.beyond.is_beyond.Goals as goal

pub returns-in_ok-are_carried-2 : goal.returns-in_ok-are_carried-2
returns-in_ok-are_carried-2 c = record {
  exact = λ yes.
      let p = c.args.first.now.system in
      let q = c.args.second.now.system in
      let point = c.args.point.now in
      let one = c.point-one.result.now in
      let other = c.point-other.result.now in
      let its : c.system.result.now.rows ≡ p.rows = ap (λ (s : System). s.rows) c.system.ensures in
      let others : c.system-2.result.now.rows ≡ q.rows = ap (λ (s : System). s.rows) c.system-2.ensures in
      let as_long : length one ≡ length point = grind (arith, common_steps) in
      let other_as_long : length other ≡ length point = grind (arith, common_steps) in
      let out : c.in_ok-hold_at.field-0 ≡ false = grind (arith, common_steps) in
      let other_out : c.in_ok-hold_at-2.field-0 ≡ false = grind (arith, common_steps) in
      let within : c.in_ok-hold_at-3.field-0 ≡ true = grind (arith, common_steps) in
      let other_within : c.in_ok-hold_at-4.field-0 ≡ true = grind (arith, common_steps) in
      let carried : c.in_ok-are_carried.field-0 ≡ true = grind (arith, common_steps) in
      record {
        point = point;
        one = one;
        other = other;
        long = c.requires.point;
        one_long = as_long ∙ c.requires.point;
        other_long = other_as_long ∙ c.requires.point;
        in_first = subst (λ l. HoldRows l one) its (c.in_ok-hold_at-3.ensures.0.0 within);
        in_second = subst (λ l. HoldRows l other) others (c.in_ok-hold_at-4.ensures.0.0 other_within);
        not_first = λ h. false≢true (sym out ∙ c.in_ok-hold_at.ensures.0.1 (subst (λ l. HoldRows l point) (sym its) h));
        not_second = λ h. false≢true (sym other_out ∙ c.in_ok-hold_at-2.ensures.0.1 (subst (λ l. HoldRows l point) (sym others) h));
        own = subst (All (IsCarried other point)) (c.as_slice.ensures ∙ its) (c.in_ok-are_carried.ensures.exact carried);
        others = subst (All (IsCarried one point)) (c.as_slice-then-branch-3.ensures ∙ others) (c.in_ok-are_carried-2.ensures.exact yes);
      };
}
