use Rattle.std.proofs.Common.{◌≡◌, ◌∙◌, ◌<◌, ◌++◌, length, ap, sym, arith, rules, true, OnOk, to_z-of_z}
use Rattle.std.specs.Prelude.{codes, string_bytes, unsigned_abs}
use Rattle.std.specs.Fmt.{decimal}
use Rattle.std.proofs.lemmas.Grind.{common_steps}
use Rattle.std.proofs.lemmas.Result.{on_ok_weaker}
use Rattle.isl_loop.specs.declared.tree.Expr.{out-Expr}
use Rattle.isl_loop_text.specs.Rest.{sum_rest}
use Rattle.isl_quast.proofs.ExprLaws.{expr_is, floor_written, ceil_written, min_written, max_written}
use Rattle.isl_quast.proofs.ExprLaws.{atom_smaller, floor_smaller, ceil_smaller, min_smaller, max_smaller, part_smaller}
use Rattle.isl_quast.proofs.expr.+expr.Goals as goal

pub write_expr-loop-item-init : goal.write_expr-loop-item-init
write_expr-loop-item-init t c =
    let names = c.args.names.now in
    let e = c.args.expr.now in
    ap (λ l. string_bytes c.args.out.now ++ sum_rest names true l (out-Expr e).constant) c.as_slice-items.ensures
    ∙ ap (λ s. string_bytes c.args.out.now ++ s) (sym (expr_is names e))

pub write_expr-write_atom-requires : goal.write_expr-write_atom-requires
write_expr-write_atom-requires t c =
    let l = c.loop-item in
    let items = c.as_slice-items.result.now in
    let inside : l.item-index < length items = grind (arith, common_steps) in
    (search (rules, atom_smaller c.args.expr.now items l.item-index c.item-item.result c.as_slice-items.ensures inside c.item-item.is), tt)

pub write_atom-write_expr-requires : goal.write_atom-write_expr-requires
write_atom-write_expr-requires t c =
    (search (rules, floor_smaller c.args.atom.now c.in-Floor.expr c.get.result.now c.in-Floor.k c.in-Floor.is c.get.ensures), tt)

pub write_atom-write_expr-requires-in-Ceil : goal.write_atom-write_expr-requires-in-Ceil
write_atom-write_expr-requires-in-Ceil t c = (
  search (
    rules,
    ceil_smaller c.args.atom.now c.in-Ceil.expr c.get-in-Ceil.result.now c.in-Ceil.k c.in-Ceil.is
        c.get-in-Ceil.ensures,
  ),
  tt,
)

pub write_atom-write_exprs-requires : goal.write_atom-write_exprs-requires
write_atom-write_exprs-requires t c =
    (search (rules, min_smaller c.args.atom.now c.in-Min.exprs c.as_slice.result.now c.in-Min.is c.as_slice.ensures), tt)

pub write_atom-write_exprs-requires-in-Max : goal.write_atom-write_exprs-requires-in-Max
write_atom-write_exprs-requires-in-Max t c =
    (search (rules, max_smaller c.args.atom.now c.in-Max.exprs c.as_slice-in-Max.result.now c.in-Max.is c.as_slice-in-Max.ensures), tt)

pub write_atom-returns-in_ok-write_expr-in-Floor : goal.write_atom-returns-in_ok-write_expr-in-Floor
write_atom-returns-in_ok-write_expr-in-Floor t c =
    let mid = string_bytes c.write_expr.new.out in
    let new = string_bytes c.write_divisor.new.out in
    let last : OnOk c.write_divisor.result (new ≡ mid ++ codes ", " ++ decimal (unsigned_abs c.in-Floor.k) ++ codes ")") =
    grind (arith, common_steps, to_z-of_z) in
    on_ok_weaker c.write_divisor.result
    (floor_written c.args.names.now c.args.atom.now c.in-Floor.expr c.get.result.now c.in-Floor.k (string_bytes c.args.out.now)
    (string_bytes c.push_str.new.self) mid new c.in-Floor.is c.get.ensures c.in_ok-push_str-in-Floor.ensures.bytes
    c.in_ok-write_expr-in-Floor.ensures) last

pub write_atom-returns-in_ok-write_expr-in-Ceil : goal.write_atom-returns-in_ok-write_expr-in-Ceil
write_atom-returns-in_ok-write_expr-in-Ceil t c =
    let mid = string_bytes c.write_expr-in-Ceil.new.out in
    let new = string_bytes c.write_divisor-in-Ceil.new.out in
    let last : OnOk c.write_divisor-in-Ceil.result (new ≡ mid ++ codes ", " ++ decimal (unsigned_abs c.in-Ceil.k) ++ codes ")") =
    grind (arith, common_steps, to_z-of_z) in
    on_ok_weaker c.write_divisor-in-Ceil.result
    (ceil_written c.args.names.now c.args.atom.now c.in-Ceil.expr c.get-in-Ceil.result.now c.in-Ceil.k (string_bytes c.args.out.now)
    (string_bytes c.push_str-in-Ceil.new.self) mid new c.in-Ceil.is c.get-in-Ceil.ensures c.in_ok-push_str-in-Ceil.ensures.bytes
    c.in_ok-write_expr-in-Ceil.ensures) last

pub write_atom-returns-in_ok-write_exprs-in-Min : goal.write_atom-returns-in_ok-write_exprs-in-Min
write_atom-returns-in_ok-write_exprs-in-Min t c =
    let mid = string_bytes c.write_exprs.new.out in
    let new = string_bytes c.push_str-in-Min-2.new.self in
    let last : OnOk c.push_str-in-Min-2.result (new ≡ mid ++ codes ")") = grind arith in
    on_ok_weaker c.push_str-in-Min-2.result
    (min_written c.args.names.now c.args.atom.now c.in-Min.exprs c.as_slice.result.now (string_bytes c.args.out.now)
    (string_bytes c.push_str-in-Min.new.self) mid new c.in-Min.is c.as_slice.ensures c.in_ok-push_str-in-Min.ensures.bytes
    c.in_ok-write_exprs-in-Min.ensures) last

pub write_atom-returns-in_ok-write_exprs-in-Max : goal.write_atom-returns-in_ok-write_exprs-in-Max
write_atom-returns-in_ok-write_exprs-in-Max t c =
    let mid = string_bytes c.write_exprs-in-Max.new.out in
    let new = string_bytes c.push_str-in-Max-2.new.self in
    let last : OnOk c.push_str-in-Max-2.result (new ≡ mid ++ codes ")") = grind arith in
    on_ok_weaker c.push_str-in-Max-2.result
    (max_written c.args.names.now c.args.atom.now c.in-Max.exprs c.as_slice-in-Max.result.now (string_bytes c.args.out.now)
    (string_bytes c.push_str-in-Max.new.self) mid new c.in-Max.is c.as_slice-in-Max.ensures c.in_ok-push_str-in-Max.ensures.bytes
    c.in_ok-write_exprs-in-Max.ensures) last

pub write_more_exprs-write_expr-requires : goal.write_more_exprs-write_expr-requires
write_more_exprs-write_expr-requires t c =
    let l = c.loop-expr in
    let inside : l.expr-index < length c.args.exprs.now = grind (arith, common_steps) in
    (search (rules, part_smaller c.args.exprs.now l.expr-index c.expr-item.result inside c.expr-item.is), tt)
