use mir.Syntax.{w128}
use Rattle.std.proofs.Common.{to_z, of_z, to_z-of_z, ◌≡◌, ◌<◌, ◌++◌, length, arith}
use Rattle.std.specs.Prelude.{string_bytes}
use Rattle.std.proofs.lemmas.Grind.{common_steps}
use Rattle.isl_refute.specs.Parts.{texts_of}
use Rattle.std.proofs.lemmas.Result.{on_ok_weaker}
use Rattle.isl_refute.proofs.TextLaws.{parts_more, parts_end}
use Rattle.isl_refute.proofs.TextLaws.{false_written, add_written, tie_written, mod_written, weaken_written, fresh_written, split_written}
use Rattle.isl_refute.proofs.TextLaws.{residue_written, outside_written}
use Rattle.isl_refute.proofs.text.+text.Goals as goal

pub write_parts-loop-part-preserved : goal.write_parts-loop-part-preserved
write_parts-loop-part-preserved t c =
    let low : c.loop-part.part-index < length c.args.parts.now = omega arith in
    parts_more c.args.parts.now c.loop-part.part-index c.part-item.result (string_bytes c.loop-part.out) (string_bytes c.write_part.new.out)
    (string_bytes c.args.out.now ++ texts_of c.args.parts.now) low c.part-item.is c.in_ok-write_part.ensures c.loop-part.invariant

pub write_parts-returns : goal.write_parts-returns
write_parts-returns t c =
    parts_end c.args.parts.now c.loop-part.part-index (string_bytes c.loop-part.out)
    (string_bytes c.args.out.now ++ texts_of c.args.parts.now)
    (omega arith) c.loop-part.invariant

pub write_cert-returns-in_ok-write_add-in-Add : goal.write_cert-returns-in_ok-write_add-in-Add
write_cert-returns-in_ok-write_add-in-Add t c =
    let same_a : to_z w128 (of_z w128 c.in-Add.a) ≡ c.in-Add.a = grind (arith, common_steps, to_z-of_z) in
    let same_b : to_z w128 (of_z w128 c.in-Add.b) ≡ c.in-Add.b = grind (arith, common_steps, to_z-of_z) in
    on_ok_weaker c.write_part.result
    (add_written c.args.cert.now c.in-Add.i c.in-Add.a c.in-Add.j c.in-Add.b (to_z w128 (of_z w128 c.in-Add.a))
    (to_z w128 (of_z w128 c.in-Add.b)) c.in-Add.part c.get.result.now (string_bytes c.args.out.now)
    (string_bytes c.write_add.new.out) (string_bytes c.write_part.new.out) c.in-Add.is c.get.ensures same_a same_b
    c.in_ok-write_add-in-Add.ensures) c.write_part.ensures

pub write_cert-returns-in_ok-write_tie-in-Tie : goal.write_cert-returns-in_ok-write_tie-in-Tie
write_cert-returns-in_ok-write_tie-in-Tie t c =
    on_ok_weaker c.write_part-in-Tie.result
    (tie_written c.args.cert.now c.in-Tie.i c.in-Tie.j c.in-Tie.part c.get-in-Tie.result.now (string_bytes c.args.out.now)
    (string_bytes c.write_tie.new.out)
    (string_bytes c.write_part-in-Tie.new.out) c.in-Tie.is c.get-in-Tie.ensures c.in_ok-write_tie-in-Tie.ensures)
    c.write_part-in-Tie.ensures

pub write_cert-returns-in_ok-write_mod-in-Mod : goal.write_cert-returns-in_ok-write_mod-in-Mod
write_cert-returns-in_ok-write_mod-in-Mod t c =
    let same_k : to_z w128 (of_z w128 c.in-Mod.k) ≡ c.in-Mod.k = grind (arith, common_steps, to_z-of_z) in
    on_ok_weaker c.write_part-in-Mod.result
    (mod_written c.args.cert.now c.in-Mod.i c.in-Mod.k (to_z w128 (of_z w128 c.in-Mod.k)) c.in-Mod.part c.get-in-Mod.result.now
    (string_bytes c.args.out.now)
    (string_bytes c.write_mod.new.out) (string_bytes c.write_part-in-Mod.new.out) c.in-Mod.is c.get-in-Mod.ensures same_k
    c.in_ok-write_mod-in-Mod.ensures) c.write_part-in-Mod.ensures

pub write_cert-returns-in_ok-write_weaken-in-Weaken : goal.write_cert-returns-in_ok-write_weaken-in-Weaken
write_cert-returns-in_ok-write_weaken-in-Weaken t c =
    let same_k : to_z w128 (of_z w128 c.in-Weaken.k) ≡ c.in-Weaken.k = grind (arith, common_steps, to_z-of_z) in
    on_ok_weaker c.write_part-in-Weaken.result
    (weaken_written c.args.cert.now c.in-Weaken.i c.in-Weaken.k (to_z w128 (of_z w128 c.in-Weaken.k)) c.in-Weaken.part
    c.get-in-Weaken.result.now (string_bytes c.args.out.now)
    (string_bytes c.write_weaken.new.out) (string_bytes c.write_part-in-Weaken.new.out) c.in-Weaken.is c.get-in-Weaken.ensures same_k
    c.in_ok-write_weaken-in-Weaken.ensures) c.write_part-in-Weaken.ensures

pub write_cert-returns-in_ok-write_fresh-in-Fresh : goal.write_cert-returns-in_ok-write_fresh-in-Fresh
write_cert-returns-in_ok-write_fresh-in-Fresh t c =
    on_ok_weaker c.write_part-in-Fresh.result
    (fresh_written c.args.cert.now c.in-Fresh.i c.in-Fresh.part c.get-in-Fresh.result.now (string_bytes c.args.out.now)
    (string_bytes c.write_fresh.new.out)
    (string_bytes c.write_part-in-Fresh.new.out) c.in-Fresh.is c.get-in-Fresh.ensures c.in_ok-write_fresh-in-Fresh.ensures)
    c.write_part-in-Fresh.ensures

pub write_cert-returns-in_ok-write_residue-in-Residue : goal.write_cert-returns-in_ok-write_residue-in-Residue
write_cert-returns-in_ok-write_residue-in-Residue t c =
    let same_k : to_z w128 (of_z w128 c.in-Residue.k) ≡ c.in-Residue.k = grind (arith, common_steps, to_z-of_z) in
    on_ok_weaker c.write_parts.result
    (residue_written c.args.cert.now c.in-Residue.form c.in-Residue.k (to_z w128 (of_z w128 c.in-Residue.k)) c.in-Residue.parts
    c.as_slice.result.now (string_bytes c.args.out.now)
    (string_bytes c.write_residue.new.out) (string_bytes c.write_parts.new.out) c.in-Residue.is c.as_slice.ensures same_k
    c.in_ok-write_residue-in-Residue.ensures) c.write_parts.ensures

pub write_cert-returns-in_ok-write_outside-in-Outside : goal.write_cert-returns-in_ok-write_outside-in-Outside
write_cert-returns-in_ok-write_outside-in-Outside t c =
    on_ok_weaker c.write_parts-in-Outside.result
    (outside_written c.args.cert.now c.in-Outside.q c.in-Outside.parts c.as_slice-in-Outside.result.now (string_bytes c.args.out.now)
    (string_bytes c.write_outside.new.out)
    (string_bytes c.write_parts-in-Outside.new.out) c.in-Outside.is c.as_slice-in-Outside.ensures c.in_ok-write_outside-in-Outside.ensures)
    c.write_parts-in-Outside.ensures

pub write_cert-returns-in-False : goal.write_cert-returns-in-False
write_cert-returns-in-False t c =
    on_ok_weaker c.write_false.result
    (false_written c.args.cert.now c.in-False.i (string_bytes c.args.out.now) (string_bytes c.write_false.new.out) c.in-False.is)
    c.write_false.ensures

pub write_cert-returns-in_ok-write_part-in-Split : goal.write_cert-returns-in_ok-write_part-in-Split
write_cert-returns-in_ok-write_part-in-Split t c =
    on_ok_weaker c.write_part-in-Split-2.result
    (split_written c.args.cert.now c.in-Split.form c.in-Split.up c.in-Split.down c.get-in-Split.result.now c.get-in-Split-2.result.now
    (string_bytes c.args.out.now) (string_bytes c.write_split.new.out) (string_bytes c.write_part-in-Split.new.out)
    (string_bytes c.write_part-in-Split-2.new.out) c.in-Split.is c.get-in-Split.ensures c.get-in-Split-2.ensures
    c.in_ok-write_split-in-Split.ensures c.in_ok-write_part-in-Split.ensures) c.write_part-in-Split-2.ensures
