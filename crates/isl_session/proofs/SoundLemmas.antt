-- What the fields of a session keep, seen from outside.
use Rattle.std.proofs.Common.{◌≡◌, false, None}
use Rattle.std.proofs.lemmas.List.Elements.{All-nil}
use Rattle.isl_space.specs.Name.{Name}
use Rattle.isl_kinds.specs.Typed.{is_dollar}
use Rattle.isl_values.specs.State.{Kept, IsSettled, unbound}
use Rattle.isl_session.specs.declared.session.Session.TheInside.{Inside}
use Rattle.isl_session.specs.View.{IsReady}
use Rattle.isl_session.specs.Session.{view_of, IsSound}

pub sound_ready : (s : Inside) → IsSound s → s.fault ≡ None → IsReady (view_of s)
sound_ready s sound none = record { open_rest = sound.open_rest; short = sound.short; within = sound.within; sound = none }

-- nothing is bound to a name that no script has where nothing is bound
pub settled_unbound : IsSettled unbound
settled_unbound = All-nil (λ (entry : Name × Kept). is_dollar entry.0 ≡ false)
