use Rattle.std.proofs.Common.{◌≡◌, drop}
use Rattle.isl_kinds.specs.Typed.{declared_of_row, declared_of_post}
use Rattle.isl_kinds.proofs.params.+declared.Given as goal

abbrev pub invariant-declare_row-loop-link : goal.invariant-declare_row-loop-link
invariant-declare_row-loop-link l =
    declared_of_row l.scope l.names.keys (drop l.link-index l.links) ≡ declared_of_row l.scope l.initial.names.keys l.links

abbrev pub invariant-declare_post-loop-postfix : goal.invariant-declare_post-loop-postfix
invariant-declare_post-loop-postfix l =
    declared_of_post l.scope l.names.keys (drop l.postfix-index l.postfixes) ≡ declared_of_post l.scope l.initial.names.keys l.postfixes
