use Rattle.std.proofs.Common.{◌≡◌, ◌∙◌, ◌+◌, ◌&&◌, Bool, true, sym, ap, take, drop, rules}
use Rattle.isl_tree.specs.Known.{entries_are_known, known_behind}
use Rattle.isl_kinds.specs.Place.{names_at}
use Rattle.isl_kinds.proofs.KnownLaws.{entries_next}
use Rattle.isl_kinds.proofs.known.entries_are_known.Goals as goal

pub loop-at-preserved : goal.loop-at-preserved
loop-at-preserved c =
    let known = names_at c.args.place.now in
    let entries = c.args.entries.now in
    let at = c.loop-at.at in
    let is_true : c.entry_is_known.result ≡ true = search rules in
    let rest = entries_are_known (known_behind known (take (at + 1) entries)) (drop (at + 1) entries) in
    ap (λ (b : Bool). b && rest) (sym is_true ∙ c.entry_is_known.ensures)
    ∙ sym (entries_next known entries at c.index-entries-at.result c.loop-at-test.true c.index-entries-at.is)
    ∙ c.loop-at.invariant
