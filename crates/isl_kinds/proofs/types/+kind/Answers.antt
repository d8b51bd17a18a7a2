use Rattle.std.proofs.Common.{◌∙◌, ap}
use Rattle.isl_kinds.specs.Typed.{kind_of, kind_of_row, kind_of_post}
use Rattle.isl_kinds.proofs.KindLaws.{at-Prefix, at-Row, at-Post, at-Any, at-Last}
use Rattle.isl_kinds.proofs.types.+kind.Goals as goal

pub kind-returns-in-Row : goal.kind-returns-in-Row
kind-returns-in-Row t c =
    let scope = c.args.scope.now in
    let a = c.kind-in-Row.result in
    at-Row scope c.args.expr.now c.in-Row.first c.in-Row.links a c.kind_of_row.result c.in-Row.is
    (c.kind-in-Row.ensures ∙ ap (kind_of scope) c.get-in-Row.ensures)
    (c.kind_of_row.ensures ∙ ap (kind_of_row scope a) c.as_slice-in-Row.ensures)

pub kind-returns-in-Prefix : goal.kind-returns-in-Prefix
kind-returns-in-Prefix t c =
    let scope = c.args.scope.now in
    at-Prefix scope c.args.expr.now c.in-Prefix.operand c.in-Prefix.word c.kind-in-Prefix.result c.of_one.result c.in-Prefix.is
    (c.kind-in-Prefix.ensures ∙ ap (kind_of scope) c.get-in-Prefix.ensures) c.of_one.ensures

pub kind-returns-in-Any : goal.kind-returns-in-Any
kind-returns-in-Any t c =
    let scope = c.args.scope.now in
    at-Any scope c.args.expr.now c.in-Any.source c.in-Any.sink c.in-Any.schedule c.kind-in-Any.result c.kind-in-Any-2.result
    c.kind-in-Any-3.result c.of_three.result c.in-Any.is
    (c.kind-in-Any.ensures ∙ ap (kind_of scope) c.get-in-Any.ensures)
    (c.kind-in-Any-2.ensures ∙ ap (kind_of scope) c.get-in-Any-2.ensures)
    (c.kind-in-Any-3.ensures ∙ ap (kind_of scope) c.get-in-Any-3.ensures) c.of_three.ensures

pub kind-returns-in-Last : goal.kind-returns-in-Last
kind-returns-in-Last t c =
    let scope = c.args.scope.now in
    at-Last scope c.args.expr.now c.in-Last.source c.in-Last.sink c.in-Last.schedule c.kind-in-Last.result c.kind-in-Last-2.result
    c.kind-in-Last-3.result c.of_three-in-Last.result c.in-Last.is
    (c.kind-in-Last.ensures ∙ ap (kind_of scope) c.get-in-Last.ensures)
    (c.kind-in-Last-2.ensures ∙ ap (kind_of scope) c.get-in-Last-2.ensures)
    (c.kind-in-Last-3.ensures ∙ ap (kind_of scope) c.get-in-Last-3.ensures) c.of_three-in-Last.ensures

pub kind-returns-in-Post : goal.kind-returns-in-Post
kind-returns-in-Post t c =
    let scope = c.args.scope.now in
    let a = c.kind-in-Post.result in
    at-Post scope c.args.expr.now c.in-Post.operand c.in-Post.postfixes a c.kind_of_post.result c.in-Post.is
    (c.kind-in-Post.ensures ∙ ap (kind_of scope) c.get-in-Post.ensures)
    (c.kind_of_post.ensures ∙ ap (kind_of_post scope a) c.as_slice-in-Post.ensures)
