use Rattle.std.proofs.Common.{◌++◌, sym, ap, ◌∙◌}
use Rattle.std.proofs.lemmas.Result.{on_ok_weaker}
use Rattle.std.specs.Prelude.{string_bytes}
use Rattle.isl_row_text.proofs.SumLaws.{first_constant, after_plus}
use Rattle.isl_row_text.proofs.sum.write_constant.Goals as goal

pub returns-then-is_first : goal.returns-then-is_first
returns-then-is_first c =
    on_ok_weaker c.write.result (λ h. h ∙ ap (λ t. string_bytes c.args.out.now ++ t) (sym (first_constant c.args.is_first c.args.constant c.if-is_first.true))) c.write.ensures.bytes

pub returns-in_ok-push_str : goal.returns-in_ok-push_str
returns-in_ok-push_str c =
    on_ok_weaker c.write-else-constant-eq0.result
    (after_plus c.args.is_first c.args.constant (string_bytes c.args.out.now) (string_bytes c.push_str.new.self) _ c.if-is_first.false c.if-constant-eq0.false c.in_ok-push_str.ensures.bytes) c.write-else-constant-eq0.ensures.bytes
