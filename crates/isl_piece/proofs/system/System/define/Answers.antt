use Rattle.std.proofs.Common.{◌≡◌, arith, to_z-of_z}
use Rattle.std.proofs.lemmas.Grind.{common_steps}
use Rattle.isl_piece.specs.declared.definition.Definition.{Definition}
use Rattle.isl_piece.specs.System.{with_definition}
use Rattle.isl_piece.proofs.DefinedLaws.{definition_points, definition_within}
use Rattle.isl_piece.proofs.system.System.define.Goals as goal
use Rattle.isl_piece.proofs.system.System.define.Goals.{In_ok-push_column}

defined : In_ok-push_column → Definition
defined c = record { coefs = c.args.coefs.now; constant = c.args.constant; k = c.args.k }

exact : (c : In_ok-push_column) → c.push_column.new.self ≡ with_definition c.args.self.now (defined c)
unfolding defined
exact c = grind (arith, common_steps, to_z-of_z)

pub returns-clause-points : goal.returns-clause-points
returns-clause-points c point formed e = rw (exact c) (definition_points c.args.self.now (defined c) point formed e)

pub returns-clause-within : goal.returns-clause-within
unfolding defined
returns-clause-within c g h coefs constant k = rw (exact c) (definition_within c.args.self.now (defined c) g h (record {
  width = c.requires.columns;
  modulus = c.requires.modulus;
  coefs = coefs;
  constant = constant;
  k = k;
}))
