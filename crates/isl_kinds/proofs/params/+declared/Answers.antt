use Rattle.std.proofs.Common.{◌∙◌, ap}
use Rattle.std.proofs.lemmas.Result.{on_ok_weaker}
use Rattle.isl_kinds.specs.Typed.{joined_names, declared_of, declared_of_row, declared_of_post}
use Rattle.isl_kinds.proofs.DeclaredLaws.{at-Prefix, at-Row, at-Post, at-Any, at-Last}
use Rattle.isl_kinds.proofs.params.+declared.Goals as goal

pub declare-returns-in-Prefix : goal.declare-returns-in-Prefix
declare-returns-in-Prefix t c =
    let scope = c.args.scope.now in
    let old = c.args.names.now.keys in
    on_ok_weaker c.declare-in-Prefix.result
    (λ made. at-Prefix scope c.args.expr.now c.in-Prefix.operand c.in-Prefix.field-0 old
    c.declare-in-Prefix.new.names.keys c.in-Prefix.is
    (made ∙ ap (λ y. joined_names old (declared_of scope y)) c.get-in-Prefix.ensures)) c.declare-in-Prefix.ensures

pub declare-returns-in_ok-declare-in-Row : goal.declare-returns-in_ok-declare-in-Row
declare-returns-in_ok-declare-in-Row t c =
    let scope = c.args.scope.now in
    let old = c.args.names.now.keys in
    let next = c.declare.new.names.keys in
    on_ok_weaker c.declare_row.result
    (λ made. at-Row scope c.args.expr.now c.in-Row.first c.in-Row.links old next
    c.declare_row.new.names.keys c.in-Row.is
    (c.in_ok-declare-in-Row.ensures ∙ ap (λ y. joined_names old (declared_of scope y)) c.get-in-Row.ensures)
    (made ∙ ap (declared_of_row scope next) c.as_slice-in-Row.ensures)) c.declare_row.ensures

pub declare-returns-in_ok-declare-in-Post : goal.declare-returns-in_ok-declare-in-Post
declare-returns-in_ok-declare-in-Post t c =
    let scope = c.args.scope.now in
    let old = c.args.names.now.keys in
    let next = c.declare-in-Post.new.names.keys in
    on_ok_weaker c.declare_post.result
    (λ made. at-Post scope c.args.expr.now c.in-Post.operand c.in-Post.postfixes old next
    c.declare_post.new.names.keys c.in-Post.is
    (c.in_ok-declare-in-Post.ensures ∙ ap (λ y. joined_names old (declared_of scope y)) c.get-in-Post.ensures)
    (made ∙ ap (declared_of_post scope next) c.as_slice-in-Post.ensures)) c.declare_post.ensures

pub declare-returns-in_ok-declare-in-Any-2 : goal.declare-returns-in_ok-declare-in-Any-2
declare-returns-in_ok-declare-in-Any-2 t c =
    let scope = c.args.scope.now in
    let old = c.args.names.now.keys in
    let one = c.declare-in-Any.new.names.keys in
    let two = c.declare-in-Any-2.new.names.keys in
    on_ok_weaker c.declare-in-Any-3.result
    (λ made. at-Any scope c.args.expr.now c.in-Any.source c.in-Any.sink c.in-Any.schedule old one two
    c.declare-in-Any-3.new.names.keys c.in-Any.is
    (c.in_ok-declare-in-Any.ensures ∙ ap (λ y. joined_names old (declared_of scope y)) c.get-in-Any.ensures)
    (c.in_ok-declare-in-Any-2.ensures ∙ ap (λ y. joined_names one (declared_of scope y)) c.get-in-Any-2.ensures)
    (made ∙ ap (λ y. joined_names two (declared_of scope y)) c.get-in-Any-3.ensures)) c.declare-in-Any-3.ensures

pub declare-returns-in_ok-declare-in-Last-2 : goal.declare-returns-in_ok-declare-in-Last-2
declare-returns-in_ok-declare-in-Last-2 t c =
    let scope = c.args.scope.now in
    let old = c.args.names.now.keys in
    let one = c.declare-in-Last.new.names.keys in
    let two = c.declare-in-Last-2.new.names.keys in
    on_ok_weaker c.declare-in-Last-3.result
    (λ made. at-Last scope c.args.expr.now c.in-Last.source c.in-Last.sink c.in-Last.schedule old one two
    c.declare-in-Last-3.new.names.keys c.in-Last.is
    (c.in_ok-declare-in-Last.ensures ∙ ap (λ y. joined_names old (declared_of scope y)) c.get-in-Last.ensures)
    (c.in_ok-declare-in-Last-2.ensures ∙ ap (λ y. joined_names one (declared_of scope y)) c.get-in-Last-2.ensures)
    (made ∙ ap (λ y. joined_names two (declared_of scope y)) c.get-in-Last-3.ensures)) c.declare-in-Last-3.ensures
