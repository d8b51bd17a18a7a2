use Rattle.std.proofs.Common.{◌++◌, codes}
use Rattle.isl_stencil.proofs.GivenLemmas.{pushed}
use Rattle.isl_stencil.proofs.lines.push_questions.Goals as goal

pub returns : goal.returns
returns c =
    let x = c.args.lines.now.items in
    let a = c.push.new.lines.items in
    let b = c.push-2.new.lines.items in
    let d = c.push-3.new.lines.items in
    let e = c.push-4.new.lines.items in
    let f = c.push-5.new.lines.items in
    let g = c.push-6.new.lines.items in
    let last = codes "scan F[1];\n" in
    let fifth = codes "scan deltas F[0];\n" ++ last in
    let fourth = codes "dom F[0] <= D;\n" ++ fifth in
    let third = codes "F[0] = any W before R under T;\n" ++ fourth in
    let second = codes "scan dom F[0];\n" ++ third in
    pushed x a g (codes "F := last W before R under T;\n") second c.push.ensures
    (pushed a b g (codes "scan dom F[0];\n") third c.push-2.ensures
    (pushed b d g (codes "F[0] = any W before R under T;\n") fourth c.push-3.ensures
    (pushed d e g (codes "dom F[0] <= D;\n") fifth c.push-4.ensures
    (pushed e f g (codes "scan deltas F[0];\n") last c.push-5.ensures c.push-6.ensures))))
