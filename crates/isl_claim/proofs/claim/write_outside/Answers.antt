use Rattle.std.proofs.Common.{◌≡◌, ◌++◌, OnOk, arith, refl}
use Rattle.std.specs.Prelude.{codes, string_bytes}
use Rattle.std.proofs.lemmas.Result.{on_ok_weaker}
use Rattle.isl_claim.proofs.TextLaws.{outside_written, written_plain, written_sound, written_value}
use Rattle.isl_claim.proofs.claim.write_outside.Goals as goal

pub from_normal-outside-requires-clause-pieces : goal.from_normal-outside-requires-clause-pieces
from_normal-outside-requires-clause-pieces c =
    written_sound c.args.params.now c.in_ok-copy.field-0 c.args.others.items c.args.others.items c.in_ok-copy.ensures refl c.requires.pieces

pub write_value-requires : goal.write_value-requires
write_value-requires c =
    let params = c.args.params.now in
    let others = c.args.others.items in
    let value = written_value params c.in_ok-copy.field-0 others others c.in_ok-copy.ensures refl c.from_normal-outside.result
    c.from_normal-outside.ensures in
    written_plain params others c.from_normal-outside.result value c.requires.plain

pub returns : goal.returns
returns c =
    let params = c.args.params.now in
    let others = c.args.others.items in
    let value = written_value params c.in_ok-copy.field-0 others others c.in_ok-copy.ensures refl c.from_normal-outside.result
    c.from_normal-outside.ensures in
    let before = string_bytes c.write_value.new.out in
    let closed : OnOk c.push_str-2.result (string_bytes c.push_str-2.new.self ≡ before ++ codes "\n") = grind arith in
    on_ok_weaker c.push_str-2.result
    (λ h. outside_written params others c.from_normal-outside.result (string_bytes c.args.out.now) (string_bytes c.push_str.new.self)
    (string_bytes c.write_value.new.out) (string_bytes c.push_str-2.new.self) value c.in_ok-push_str.ensures.bytes
    c.in_ok-write_value.ensures h)
    closed
