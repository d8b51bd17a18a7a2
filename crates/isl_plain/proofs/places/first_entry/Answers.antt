use Rattle.std.proofs.Common.{◌∙◌, sym}
use Rattle.isl_plain.specs.Places.{entry_name, is_name}
use Rattle.isl_plain.proofs.PlaceLaws.{from_mapped}
use Rattle.isl_plain.proofs.places.first_entry.Goals as goal

pub returns-clause-place : goal.returns-clause-place
returns-clause-place c =
    c.entry_position.ensures.place
    ∙ sym (from_mapped (λ entry. is_name (entry_name entry) c.args.name.now) (λ entry. entry.now) 0 c.args.entries.now)
