pub use Rattle.isl_coalesce.specs.Coalesced
pub use Rattle.isl_coalesce.specs.Joint
pub use Rattle.isl_gist.specs.Gist
pub use Rattle.isl_hull.specs.Hull
