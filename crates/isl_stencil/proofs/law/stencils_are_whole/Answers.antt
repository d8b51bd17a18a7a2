use Rattle.isl_stencil.proofs.CutLemmas.{stencil_statements, stencil_blank, stencil_length}
use Rattle.isl_stencil.proofs.law.stencils_are_whole.Goals as goal

pub returns-clause-count : goal.returns-clause-count
returns-clause-count c = stencil_statements

pub returns-clause-blank : goal.returns-clause-blank
returns-clause-blank c = stencil_blank

pub returns-clause-few : goal.returns-clause-few
returns-clause-few c = stencil_length
