use Rattle.std.proofs.Common.{arith}
use Rattle.std.proofs.lemmas.Bool.{false≢true}
use Rattle.std.proofs.lemmas.Grind.{common_steps}
use Rattle.isl_space.specs.Space.{space_form_of}
use Rattle.isl_by_space.proofs.PlaceLaws.{unplaced}
use Rattle.isl_by_space.proofs.spaces.is_known.Goals as goal

pub returns-in-None : goal.returns-in-None
returns-in-None c = (
  (λ t. absurd (false≢true t)),
  (λ any. absurd (unplaced (space_form_of c.args.space.now) c.args.spaces.now c.args.places.now.entries c.args.title.now c.requires.title
      (grind (arith, common_steps)) c.requires.placed any)),
)
