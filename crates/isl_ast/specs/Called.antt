-- public: what takes the calls of a run, one after another. (isl manual, on abstract syntax trees)
use Rattle.std.specs.Prelude.{◌≡◌, List, [], ◌∷◌}
use Rattle.isl_loop.specs.Run.{Event}

-- each call was taken in turn: `Called before call after` says how one is
abbrev pub AreCalled : {S : Type 0} → (S → Event → S → Type 0) → S → List Event → S → Type 0
AreCalled Called before [] after = after ≡ before
AreCalled Called before (call ∷ calls) after = (next : _) × Called before call next × AreCalled Called next calls after
