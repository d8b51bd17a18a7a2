use Rattle.std.proofs.Common.{◌≡◌, ◌++◌, drop}
use Rattle.std.specs.Prelude.{string_bytes}
use Rattle.isl_refute.specs.Parts.{texts_of}
use Rattle.isl_refute.proofs.text.+text.Given as goal

abbrev pub invariant-write_parts-loop-part : goal.invariant-write_parts-loop-part
invariant-write_parts-loop-part l =
    string_bytes l.out ++ texts_of (drop l.part-index l.parts) ≡ string_bytes l.fn.out ++ texts_of l.parts
