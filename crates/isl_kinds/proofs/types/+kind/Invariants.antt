use Rattle.std.proofs.Common.{◌≡◌, drop}
use Rattle.isl_kinds.specs.Typed.{kind_of_row, kind_of_post}
use Rattle.isl_kinds.proofs.types.+kind.Given as goal

abbrev pub invariant-kind_of_row-loop-link : goal.invariant-kind_of_row-loop-link
invariant-kind_of_row-loop-link l =
    kind_of_row l.scope l.left (drop l.link-index l.links) ≡ kind_of_row l.scope l.initial.left l.links

abbrev pub invariant-kind_of_post-loop-postfix : goal.invariant-kind_of_post-loop-postfix
invariant-kind_of_post-loop-postfix l =
    kind_of_post l.scope l.left (drop l.postfix-index l.postfixes) ≡ kind_of_post l.scope l.initial.left l.postfixes
