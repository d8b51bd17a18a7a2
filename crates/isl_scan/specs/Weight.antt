-- inner: what listed elements weigh, as the memory tells that they take.
use Rattle.std.specs.Prelude.{ℕ, ◌+◌, ◌/◌, length, string_bytes}
use Rattle.isl_points.specs.Flat.{laid_out}
use Rattle.isl_scan.specs.declared.group.Group.{Group}

-- how many numbers the points of a group have, and one for every 16 bytes of its title
abbrev pub weight : Group → ℕ
weight group = length (laid_out group.points) + length (string_bytes group.title) / 16
