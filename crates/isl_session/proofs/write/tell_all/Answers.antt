use Rattle.std.proofs.Common.{◌≡◌, ◌+◌, ◌++◌, ◌<◌, ◌∷◌, [], ◌∙◌, ℕ, List, arith, length, map, take, get_or, ap, sym, subst}
use Rattle.std.specs.List.{concat}
use Rattle.std.proofs.lemmas.List.{append-nil, map-append, take_more}
use Rattle.std.proofs.lemmas.List.Folds.{concat-append}
use Rattle.isl_session.specs.declared.fault.Fault.{Fault}
use Rattle.isl_session.specs.Lines.{fault_line}
use Rattle.isl_session.specs.Run.{Told}
use Rattle.isl_session.proofs.AnsweredLemmas.{tells_of}
use Rattle.isl_session.proofs.ToldLemmas.{told_on}
use Rattle.isl_session.proofs.write.tell_all.Goals as goal

-- the lines of some faults, and of one more
lines_more : (faults : List Fault) (i : ℕ) (default : Fault) → i < length faults
    → concat (map fault_line (take i faults)) ++ fault_line (get_or faults i default) ≡ concat (map fault_line (take (i + 1) faults))
lines_more faults i default within =
    let fault = get_or faults i default in
    ap (λ (l : List ℕ). concat (map fault_line (take i faults)) ++ l) (sym (append-nil (fault_line fault)))
    ∙ sym (concat-append (map fault_line (take i faults)) (map fault_line (fault ∷ [])))
    ∙ ap concat (sym (map-append fault_line (take i faults) (fault ∷ [])))
    ∙ ap (λ (l : List Fault). concat (map fault_line l)) (sym (take_more faults i default within))

pub loop-fault-preserved : goal.loop-fault-preserved
loop-fault-preserved g c =
    let so_far = c.loop-fault.invariant in
    let written = g.E.Sink.written in
    let tells = g.E.Sink.faults in
    let old = c.args.err.now in
    let at = c.loop-fault.err in
    let new = c.write_fault.new.err in
    let all = told_on (written old) (tells old) (written at) (tells at) (written new) (tells new) _ _ so_far.1
    c.write_fault.ensures.no_fewer_faults so_far.0
    (λ not. tells_of c.write_fault.result _ _ c.write_fault.ensures.ok c.write_fault.ensures.fault not) in (
      subst (λ (l : List ℕ). Told (written old) (tells old) (written new) (tells new) l)
          (lines_more c.args.faults.now c.loop-fault.fault-index _ c.loop-fault-test.true) all,
      omega (arith, so_far.1, c.write_fault.ensures.no_fewer_faults),
      λ none. absurd (omega (arith, none)),
      omega (arith, c.loop-fault-test.true),
    )
