-- inner: the comparisons of a chain that are ahead.
use Rattle.std.specs.Prelude.{List}
use Rattle.isl_alternatives.specs.declared.comparisons.Comparisons.{Comparisons}
use Rattle.isl_alternatives.specs.Chain.{Compared, compared_ahead}

abbrev pub ahead_of : Comparisons → List Compared
ahead_of c = compared_ahead c.lefts.now c.rights.now c.links.now
