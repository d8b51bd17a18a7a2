-- inner: a system in which each defined column is free. (isl manual, on integer divisions)
use Rattle.std.specs.Prelude.{[], ◌++◌}
use Rattle.isl_piece.specs.declared.system.System.{System}
use Rattle.isl_elim.specs.Elimination.{system_of}
use Rattle.isl_elim.specs.Opened.{definition_rows}

-- over the same columns, with the rows of all definitions
abbrev pub opened_system : System → System
opened_system s = system_of s.columns [] (s.rows ++ definition_rows s.columns s.definitions)
