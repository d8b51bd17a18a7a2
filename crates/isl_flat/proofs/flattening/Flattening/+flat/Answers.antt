use Rattle.std.proofs.Common.{◌≡◌, ◌∙◌, [], sym, ap, subst, rules}
use Rattle.isl_tree.specs.declared.statement.Expr.{Expr}
use Rattle.isl_flat.specs.Flat.{Leaves, ended, past_row, begun, nested, followed, operand_of}
use Rattle.isl_flat.proofs.FlatLaws.{at-Row, at-Post, at-Prefix, at-Any, at-Last, row_on, post_on, postfixes_end, fewer_links}
use Rattle.isl_flat.proofs.FlatLaws.{fewer_postfixes}
use Rattle.isl_flat.proofs.flattening.Flattening.+flat.Goals as goal

pub flattened-returns-in-Row : goal.flattened-returns-in-Row
flattened-returns-in-Row t c =
    let old = c.args.self.now in
    let new = c.row.new.self in
    at-Row c.args.standing old new c.args.expr c.in-Row.first c.in-Row.links c.row.result c.in-Row.is
    (subst (λ (y : Expr). Leaves (ended (past_row (begun (nested old y)) c.in-Row.links)) c.row.result new)
    c.into_inner.ensures c.row.ensures)

pub flattened-returns-in-Post : goal.flattened-returns-in-Post
flattened-returns-in-Post t c =
    let old = c.args.self.now in
    let new = c.post.new.self in
    at-Post c.args.standing old new c.args.expr c.in-Post.operand c.in-Post.postfixes c.post.result c.in-Post.is
    (subst (λ (y : Expr). Leaves (followed (nested old y) c.in-Post.postfixes) c.post.result new)
    c.into_inner-in-Post.ensures c.post.ensures)

pub flattened-returns-in_ok-new-in-Prefix : goal.flattened-returns-in_ok-new-in-Prefix
flattened-returns-in_ok-new-in-Prefix t c =
    let old = c.args.self.now in
    let new = c.operand.new.self in
    at-Prefix c.args.standing old new c.args.expr c.in-Prefix.operand c.in_ok-new-in-Prefix.field-0 c.in-Prefix.word c.in-Prefix.is
    (ap (λ (y : Expr). operand_of c.args.standing c.in-Prefix.word (nested old y)) (sym c.into_inner-in-Prefix.ensures)
    ∙ c.in_ok-operand-in-Prefix.ensures ∙ ap (λ (x : Expr). (new, x)) (sym c.in_ok-new-in-Prefix.ensures))

pub flattened-returns-in_ok-schedule-in-Any : goal.flattened-returns-in_ok-schedule-in-Any
flattened-returns-in_ok-schedule-in-Any t c =
    let old = c.args.self.now in
    let one = c.nested.new.self in
    let two = c.nested-in-Any.new.self in
    let new = c.nested-in-Any-2.new.self in
    at-Any c.args.standing old one two new c.args.expr c.in-Any.source c.in-Any.sink c.in-Any.schedule
    c.in_ok-source-in-Any.source c.in_ok-sink-in-Any.sink c.in_ok-schedule-in-Any.schedule c.in-Any.is
    (ap (nested old) (sym c.into_inner-in-Any.ensures) ∙ c.in_ok-nested-in-Any.ensures
    ∙ ap (λ (x : Expr). (one, x)) (sym c.in_ok-source-in-Any.ensures))
    (ap (nested one) (sym c.into_inner-in-Any-2.ensures) ∙ c.in_ok-nested-in-Any-2.ensures
    ∙ ap (λ (x : Expr). (two, x)) (sym c.in_ok-sink-in-Any.ensures))
    (ap (nested two) (sym c.into_inner-in-Any-3.ensures) ∙ c.in_ok-nested-in-Any-3.ensures
    ∙ ap (λ (x : Expr). (new, x)) (sym c.in_ok-schedule-in-Any.ensures))

pub flattened-returns-in_ok-schedule-in-Last : goal.flattened-returns-in_ok-schedule-in-Last
flattened-returns-in_ok-schedule-in-Last t c =
    let old = c.args.self.now in
    let one = c.nested-in-Last.new.self in
    let two = c.nested-in-Last-2.new.self in
    let new = c.nested-in-Last-3.new.self in
    at-Last c.args.standing old one two new c.args.expr c.in-Last.source c.in-Last.sink c.in-Last.schedule
    c.in_ok-source-in-Last.source c.in_ok-sink-in-Last.sink c.in_ok-schedule-in-Last.schedule c.in-Last.is
    (ap (nested old) (sym c.into_inner-in-Last.ensures) ∙ c.in_ok-nested-in-Last.ensures
    ∙ ap (λ (x : Expr). (one, x)) (sym c.in_ok-source-in-Last.ensures))
    (ap (nested one) (sym c.into_inner-in-Last-2.ensures) ∙ c.in_ok-nested-in-Last-2.ensures
    ∙ ap (λ (x : Expr). (two, x)) (sym c.in_ok-sink-in-Last.ensures))
    (ap (nested two) (sym c.into_inner-in-Last-3.ensures) ∙ c.in_ok-nested-in-Last-3.ensures
    ∙ ap (λ (x : Expr). (new, x)) (sym c.in_ok-schedule-in-Last.ensures))

pub row-loop-link-preserved : goal.row-loop-link-preserved
row-loop-link-preserved t c = record {
  same = row_on (record { statements = c.loop-link.self; first = c.loop-link.row.first; links = c.loop-link.row.links })
      (record { statements = c.past_link.new.self; first = c.in_ok-row.row.first; links = c.in_ok-row.row.links })
      c.loop-link.rest c.pop.new.self c.in-Some.link c.in-Some.ensures c.in_ok-row.ensures
      ∙ c.loop-link.invariant.same;
  smaller = fewer_links c.loop-link.rest c.pop.new.self c.in-Some.link _ c.in-Some.ensures c.loop-link.invariant.smaller;
}

pub postfixes-loop-postfix-preserved : goal.postfixes-loop-postfix-preserved
postfixes-loop-postfix-preserved t c = record {
  same = post_on c.loop-postfix.self c.postfix.new.self c.loop-postfix.kept c.push.new.self c.in-Some.postfix c.in_ok-postfix.field-0
      c.loop-postfix.rest c.pop.new.self c.in-Some.ensures c.in_ok-postfix.ensures c.in_ok-push.ensures.ok
      ∙ c.loop-postfix.invariant.same;
  smaller = fewer_postfixes c.loop-postfix.rest c.pop.new.self c.in-Some.postfix _ c.in-Some.ensures c.loop-postfix.invariant.smaller;
}

pub postfixes-returns : goal.postfixes-returns
postfixes-returns t c =
    let nothing : c.loop-postfix.rest ≡ [] = search rules in
    postfixes_end c.args.self.now c.loop-postfix.self c.new-kept.result c.loop-postfix.kept c.args.postfixes c.in_ok-rest.rest
    c.loop-postfix.rest c.new-kept.ensures c.in_ok-rest.ensures nothing c.loop-postfix.invariant.same
