use Rattle.std.proofs.Common.{◌++◌, ◌∙◌, List, ℕ, ap, codes}
use Rattle.std.specs.Fmt.{decimal}
use Rattle.isl_stencil.proofs.GivenLemmas.{pushed}
use Rattle.isl_stencil.proofs.lines.push_accesses.Goals as goal

pub returns-clause-lines : goal.returns-clause-lines
returns-clause-lines c =
    let x = c.args.lines.now.items in
    let a = c.push.new.lines.items in
    let b = c.push-2.new.lines.items in
    let d = c.push-3.new.lines.items in
    let e = c.push-4.new.lines.items in
    let f = c.push-5.new.lines.items in
    let g = c.push-6.new.lines.items in
    let number = c.push-2.ensures ∙ ap (λ (l : List ℕ). a ++ l) (c.as_bytes.ensures.value ∙ c.format.ensures.text) in
    let first = codes "D := { S[t, i] : 0 <= t < 4 and 0 <= i < " in
    let second = first ++ decimal c.args.size in
    let third = second ++ codes " };\n" in
    let fourth = third ++ codes "W := { S[t, i] -> A[t, i] } * D;\n" in
    let fifth = fourth ++ codes "R := { S[t, i] -> A[t - 1, j] : i - 1 <= j <= i + 1 } * D;\n" in
    pushed x f g fifth (codes "T := { S[t, i] -> [t, i] } * D;\n")
    (pushed x e f fourth (codes "R := { S[t, i] -> A[t - 1, j] : i - 1 <= j <= i + 1 } * D;\n")
    (pushed x d e third (codes "W := { S[t, i] -> A[t, i] } * D;\n")
    (pushed x b d second (codes " };\n")
    (pushed x a b first (decimal c.args.size) c.push.ensures number) c.push-3.ensures) c.push-4.ensures) c.push-5.ensures) c.push-6.ensures
