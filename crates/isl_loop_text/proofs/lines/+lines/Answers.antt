use mir.Syntax.{w128}
use Rattle.std.proofs.Common.{to_z, of_z, ◌≡◌, ◌∙◌, ◌<◌, ◌++◌, ◌∷◌, [], ℕ, List, length, ap, ap₂, sym, subst, arith, rules, to_z-of_z}
use Rattle.std.specs.Prelude.{codes, string_bytes}
use Rattle.std.proofs.lemmas.Grind.{common_steps}
use Rattle.std.proofs.lemmas.Result.{on_ok_weaker}
use Rattle.isl_space.specs.Name.{Name}
use Rattle.isl_loop.specs.declared.tree.Loop.{Loop}
use Rattle.isl_loop_text.specs.ExprText.{expr_text}
use Rattle.isl_loop_text.specs.LoopText.{variable, line, range_text, if_text, loop_lines}
use Rattle.isl_loop_text.specs.Rest.{depth_of, lines_of, IsScope}
use Rattle.isl_loop_text.proofs.LineLaws.{scope_more, block_lines, step_same, for_lines, if_lines}
use Rattle.isl_loop_text.proofs.LineLaws.{block_smaller, for_smaller, if_smaller, part_smaller}
use Rattle.isl_loop_text.proofs.lines.+lines.Goals as goal

pub write_loop-write_parts-requires : goal.write_loop-write_parts-requires
write_loop-write_parts-requires t c =
    (search (rules, block_smaller c.args.tree.now c.in-Block.parts c.as_slice.result.now c.in-Block.is c.as_slice.ensures), c.requires.1.1)

pub write_loop-write_body-requires : goal.write_loop-write_body-requires
write_loop-write_body-requires t c =
    let params = c.args.params.now in
    let names = c.args.names.now.items in
    let name = c.in_ok-variable-in-For.variable in
    let is : name ≡ variable params (depth_of params names) = grind (arith, common_steps) in
    let pushed : c.push.new.self.items ≡ names ++ name ∷ [] = grind (arith, common_steps) in (
      search (
        rules,
        for_smaller c.args.tree.now c.in-For.low c.in-For.high c.in-For.step c.in-For.body c.get.result.now c.in-For.is
            c.get.ensures,
      ),
      (scope_more params names c.push.new.self.items name c.requires.1.1 is pushed).0,
    )

pub write_loop-write_body-requires-in-If : goal.write_loop-write_body-requires-in-If
write_loop-write_body-requires-in-If t c = (
  search (
    rules,
    if_smaller c.args.tree.now c.in-If.rows c.in-If.body c.get-in-If.result.now c.in-If.is
        c.get-in-If.ensures,
  ),
  c.requires.1.1,
)

pub write_loop-returns-in-Block-clause-text : goal.write_loop-returns-in-Block-clause-text
write_loop-returns-in-Block-clause-text t c =
    let params = c.args.params.now in
    let depth = depth_of params c.args.names.now.items in
    let margin = c.args.margin.now in
    let old = string_bytes c.args.out.now in
    on_ok_weaker c.write_parts.result
    (λ h. h ∙ ap (λ (ps : List Loop). old ++ lines_of params depth margin ps) c.as_slice.ensures
    ∙ ap (λ s. old ++ s) (sym (block_lines params depth margin c.in-Block.parts))
    ∙ ap (λ (x : Loop). old ++ loop_lines params depth margin x) (sym c.in-Block.is)) c.write_parts.ensures.text

pub write_loop-returns-in_ok-write_body-in-For-clause-text : goal.write_loop-returns-in_ok-write_body-in-For-clause-text
write_loop-returns-in_ok-write_body-in-For-clause-text t c =
    let params = c.args.params.now in
    let names = c.args.names.now.items in
    let depth = depth_of params names in
    let margin = c.args.margin.now in
    let low = c.in-For.low in
    let high = c.in-For.high in
    let name = c.in_ok-variable-in-For.variable in
    let old = string_bytes c.args.out.now in
    let margined = string_bytes c.push_str.new.self in
    let ranged = string_bytes c.write_range.new.out in
    let stepped = string_bytes c.write_step.new.out in
    let is : name ≡ variable params depth = grind (arith, common_steps) in
    let pushed : c.push.new.self.items ≡ names ++ name ∷ [] = grind (arith, common_steps) in
    let more = scope_more params names c.push.new.self.items name c.requires.1.1 is pushed in
    let second : ranged ≡ margined ++ range_text name (expr_text names low) (expr_text names high) = grind (arith, common_steps) in
    let number : to_z w128 (of_z w128 c.in-For.step) ≡ c.in-For.step = grind (arith, common_steps, to_z-of_z) in
    let third = step_same stepped ranged c.in-For.step (to_z w128 (of_z w128 c.in-For.step)) c.in_ok-write_step-in-For.ensures number in
    let last = c.in_ok-write_body-in-For.ensures.text
    ∙ ap₂ (λ (n : ℕ) (x : Loop). stepped ++ loop_lines params n (margin ++ codes "  ") x ++ line margin (codes "}")) more.1 c.get.ensures in
    for_lines params names margin low high c.in-For.step c.in-For.body name old margined ranged stepped (string_bytes c.write_body.new.out)
    c.requires.1.1 is c.in_ok-push_str-in-For.ensures.bytes second third last
    ∙ ap (λ (x : Loop). old ++ loop_lines params depth margin x) (sym c.in-For.is)

pub write_loop-returns-in_ok-write_if-in-If-clause-text : goal.write_loop-returns-in_ok-write_if-in-If-clause-text
write_loop-returns-in_ok-write_if-in-If-clause-text t c =
    let params = c.args.params.now in
    let names = c.args.names.now.items in
    let depth = depth_of params names in
    let margin = c.args.margin.now in
    let rows = c.in-If.rows in
    let old = string_bytes c.args.out.now in
    let margined = string_bytes c.push_str-in-If.new.self in
    let opened = string_bytes c.write_if.new.out in
    let second : opened ≡ margined ++ if_text names rows ++ 10 ∷ [] = grind (arith, common_steps) in
    on_ok_weaker c.write_body-in-If.result
    (λ h. if_lines params names margin rows c.in-If.body old margined opened (string_bytes c.write_body-in-If.new.out) c.requires.1.1
    c.in_ok-push_str-in-If.ensures.bytes second
    (h ∙ ap (λ (x : Loop). opened ++ loop_lines params depth (margin ++ codes "  ") x ++ line margin (codes "}")) c.get-in-If.ensures)
    ∙ ap (λ (x : Loop). old ++ loop_lines params depth margin x) (sym c.in-If.is)) c.write_body-in-If.ensures.text

pub write_parts-write_loop-requires : goal.write_parts-write_loop-requires
write_parts-write_loop-requires t c =
    let l = c.loop-part in
    let inside : l.part-index < length c.args.parts.now = grind (arith, common_steps) in (
      search (rules, part_smaller c.args.parts.now l.part-index c.part-item.result inside c.part-item.is),
      subst (λ (ns : List Name). IsScope c.args.params.now ns) (sym l.invariant.1) c.requires.1.1,
    )
