use Rattle.std.proofs.Common.{◌≡◌, ◌∙◌, ◌++◌, [], ◌∷◌, OnOk, ap, sym, arith, rules}
use Rattle.std.specs.Prelude.{codes, string_bytes}
use Rattle.std.proofs.lemmas.Grind.{common_steps}
use Rattle.std.proofs.lemmas.Result.{on_ok_weaker}
use Rattle.isl_quast.specs.ForestText.{line, test_text, tree_lines}
use Rattle.isl_quast.specs.declared.tree.Quast.{Quast}
use Rattle.isl_quast.proofs.LineLaws.{if_written}
use Rattle.isl_quast.proofs.text.+write_tree.Goals as goal

pub returns-in_ok-write_tree-in-If-2 : goal.returns-in_ok-write_tree-in-If-2
returns-in_ok-write_tree-in-If-2 t c =
    let names = c.args.names.now in
    let margin = c.args.margin.now in
    let old = string_bytes c.args.out.now in
    let tested = string_bytes c.write_test.new.out in
    let first = string_bytes c.write_tree.new.out in
    let between = string_bytes c.write_line-in-If.new.out in
    let second = string_bytes c.write_tree-in-If.new.out in
    let new = string_bytes c.write_line-in-If-2.new.out in
    let deeper : c.as_str.result.now ≡ margin ++ codes "  " = grind (arith, common_steps) in
    let deeper' : c.as_str-in-If.result.now ≡ margin ++ codes "  " = grind (arith, common_steps) in
    let a : tested ≡ old ++ line margin (test_text names c.in-If.test) = grind (arith, common_steps) in
    let b : first ≡ tested ++ tree_lines names (margin ++ codes "  ") c.in-If.yes = grind (arith, common_steps, deeper) in
    let d : between ≡ first ++ line margin (codes "} else {") = grind (arith, common_steps) in
    let e : second ≡ between ++ tree_lines names (margin ++ codes "  ") c.in-If.no = grind (arith, common_steps, deeper') in
    on_ok_weaker c.write_line-in-If-2.result
    (λ h. if_written names margin c.in-If.test c.in-If.yes c.in-If.no old tested first between second new a b d e h
    ∙ ap (λ (x : Quast). old ++ tree_lines names margin x) (sym c.in-If.is)) c.write_line-in-If-2.ensures
