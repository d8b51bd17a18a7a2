use Rattle.std.proofs.Common.{◌≡◌, drop}
use Rattle.std.specs.List.{list_any}
use Rattle.isl_kinds.specs.Parts.{parts_of_links, parts_of_postfixes}
use Rattle.isl_kinds.proofs.walk.+walk.Given as goal

abbrev pub invariant-any_in_links-loop-link : goal.invariant-any_in_links-loop-link
invariant-any_in_links-loop-link g l = list_any (g.T.PartTest.passing l.test) (parts_of_links (drop l.link-index l.links)) ≡
    list_any (g.T.PartTest.passing l.test) (parts_of_links l.links)

abbrev pub invariant-any_in_postfixes-loop-postfix : goal.invariant-any_in_postfixes-loop-postfix
invariant-any_in_postfixes-loop-postfix g l =
    list_any (g.T.PartTest.passing l.test) (parts_of_postfixes (drop l.postfix-index l.postfixes)) ≡
    list_any (g.T.PartTest.passing l.test) (parts_of_postfixes l.postfixes)
