use Rattle.std.proofs.Common.{◌≡◌, take}
use Rattle.isl_space.specs.Space.{space_form_of}
use Rattle.isl_union.specs.Sample.{number_rows}
use Rattle.isl_union.proofs.SampleLaws.{numbers_piece}
use Rattle.isl_union.proofs.sample.only_piece.Given as goal

abbrev pub invariant-loop-column : goal.invariant-loop-column
invariant-loop-column l = record {
  piece : l.only ≡ numbers_piece (space_form_of l.space) l.columns (number_rows l.columns 0 (take l.column l.point));
}
