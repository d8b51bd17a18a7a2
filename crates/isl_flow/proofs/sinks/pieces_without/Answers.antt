use Rattle.std.proofs.lemmas.Result.{MatchResult-weaker}
use Rattle.isl_union.proofs.MinusLaws.{left_numbers}
use Rattle.isl_flow.proofs.SinkLaws.{cut_alone, difference_made}
use Rattle.isl_flow.proofs.sinks.pieces_without.Goals as goal

pub minus-requires : goal.minus-requires
minus-requires c =
    let g = c.args.meter.now in
    let params = c.args.params.now in
    record {
      own = left_numbers g params c.args.pieces.items c.from_normal-own.result (λ k d l. (c.requires.pieces k d l).sound)
          (λ k d l. (c.requires.pieces k d l).within) (rw c.in_ok-copy.ensures at c.from_normal-own.ensures);
      other = left_numbers g params c.args.others.items c.from_normal-other.result (λ k d l. (c.requires.others k d l).sound)
          (λ k d l. (c.requires.others k d l).within) (rw c.in_ok-copy-2.ensures at c.from_normal-other.ensures);
    }

pub returns-clause-made : goal.returns-clause-made
returns-clause-made c =
    difference_made c.args.meter.now c.args.params.now c.args.pieces.items c.args.others.items c.from_normal-own.result
    c.from_normal-other.result (rw c.in_ok-copy.ensures at c.from_normal-own.ensures)
    (rw c.in_ok-copy-2.ensures at c.from_normal-other.ensures) c.minus.result c.minus.ensures.kept
    c.minus.ensures.params c.minus.ensures.elements c.minus.ensures.definitions c.minus.ensures.numbers

pub returns-clause-meter : goal.returns-clause-meter
returns-clause-meter c =
    let one = rw c.in_ok-copy.ensures at c.from_normal-own.ensures in
    let two = rw c.in_ok-copy-2.ensures at c.from_normal-other.ensures in
    MatchResult-weaker c.minus.result c.minus.ensures.units (λ value h. h.1)
    (λ fault h. cut_alone c.args.meter.now c.args.params.now c.args.pieces.items c.args.others.items c.from_normal-own.result
    c.from_normal-other.result one two c.requires.params c.args.meter.now c.minus.new.meter fault h)
