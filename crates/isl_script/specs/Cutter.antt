-- public: what a cutter knows of the part of a script that it is in.
use Rattle.std.specs.Prelude.{◌≡◌, Bool, IsTrue, ◌↔◌}
use Rattle.isl_script.specs.Script.{Bytes, Place, place_of, IsBlank}

-- the place behind the part, and whether it has only blanks and comments
pub record Known : Type 0 where
  pub place : Place
  pub blank : Bool

-- what a cutter knows is true of this part
pub record IsAt (known : Known) (part : Bytes) : Type 0 where
  pub place : known.place ≡ place_of part
  pub blank : IsTrue known.blank ↔ IsBlank part
