use Rattle.std.proofs.Common.{◌++◌, ◌∷◌, [], ◌∙◌, List, ℕ, ap, codes}
use Rattle.std.specs.Fmt.{decimal}
use Rattle.isl_session.proofs.KnownLemmas.{pushed}
use Rattle.isl_session.proofs.write.summary_of.Goals as goal

pub returns : goal.returns
returns c =
    let x : List ℕ = c.new-line.result.items in
    let a = c.push.new.line.items in
    let b = c.push-2.new.line.items in
    let d = c.push-3.new.line.items in
    let e = c.push-4.new.line.items in
    let f = c.push-5.new.line.items in
    let g = c.push-6.new.line.items in
    let h = c.push-7.new.line.items in
    let statements = c.push-2.ensures ∙ ap (λ (l : List ℕ). a ++ l) (c.as_bytes.ensures.value ∙ c.format.ensures.text) in
    let trues = c.push-4.ensures ∙ ap (λ (l : List ℕ). d ++ l) (c.as_bytes-2.ensures.value ∙ c.format-2.ensures.text) in
    let elements = c.push-6.ensures ∙ ap (λ (l : List ℕ). f ++ l) (c.as_bytes-3.ensures.value ∙ c.format-3.ensures.text) in
    let first = codes "statements " in
    let second = first ++ decimal c.args.counts.statements in
    let third = second ++ codes ", true " in
    let fourth = third ++ decimal c.args.counts.trues in
    let fifth = fourth ++ codes ", elements " in
    let sixth = fifth ++ decimal c.args.counts.elements in
    pushed x g h sixth (10 ∷ [])
    (pushed x f g fifth (decimal c.args.counts.elements)
    (pushed x e f fourth (codes ", elements ")
    (pushed x d e third (decimal c.args.counts.trues)
    (pushed x b d second (codes ", true ")
    (pushed x a b first (decimal c.args.counts.statements) c.push.ensures statements) c.push-3.ensures) trues) c.push-5.ensures) elements)
    c.push-7.ensures ∙ ap (λ (l : List ℕ). l ++ (sixth ++ 10 ∷ [])) c.new-line.ensures
