use Rattle.std.proofs.Common.{◌≡◌, ◌∙◌, ap, List, ℕ, Option, None, Some, map, string_bytes, sym, subst}
use Rattle.isl_stencil.specs.Stencil.{stencil}
use Rattle.isl_values.specs.State.{Moment}
use Rattle.isl_words.specs.Options.{OptionsView}
use Rattle.isl_words.proofs.WordsLemmas.{taken_once}
use Rattle.isl_session.specs.Run.{Answered, IsScriptOf, outside}
use Rattle.isl_session.specs.StencilRun.{StencilAnswered}
use Rattle.isl_session.specs.Valid.{IsGiven, IsValidScript}
use Rattle.isl_session.specs.View.{begun, moment_of, opened}
use Rattle.isl_session.proofs.WholeLemmas.{complete_run, complete_stencil}
use Rattle.isl_session.proofs.program.run.Goals as goal

pub returns-in-None-clause-answered : goal.returns-in-None-clause-answered
returns-in-None-clause-answered g c options taken none session =
    let new = c.run_script.new in
    let run = c.run_script.ensures.answered in
    let before = outside (g.S.Source.left c.args.src.now) (g.S.Source.faults c.args.src.now) (g.K.Sink.written c.args.out.now)
    (g.K.Sink.faults c.args.out.now) (g.E.Sink.written c.args.err.now) (g.E.Sink.faults c.args.err.now) in
    let now = outside (g.S.Source.left new.src) (g.S.Source.faults new.src) (g.K.Sink.written new.out) (g.K.Sink.faults new.out)
    (g.E.Sink.written new.err) (g.E.Sink.faults new.err) in
    let same = taken_once (map string_bytes c.args.words.now) c.in-Ok.options options c.in-Ok.ensures.taken taken in
    let first : moment_of c.in-Ok-with_room.session ≡ begun options =
    ap moment_of {y = opened (begun c.in-Ok.options)} c.in-Ok-with_room.ensures ∙ ap begun same in
    (run.0, subst (λ (m : Moment). Answered m run.0 before now c.run_script.result) first run.1)

pub returns-in-None-clause-complete : goal.returns-in-None-clause-complete
returns-in-None-clause-complete g c options taken script given valid no_read no_write no_count =
    let new = c.run_script.new in
    let run = c.run_script.ensures.answered in
    let left = g.S.Source.left in
    let before = outside (left c.args.src.now) (g.S.Source.faults c.args.src.now) (g.K.Sink.written c.args.out.now)
    (g.K.Sink.faults c.args.out.now) (g.E.Sink.written c.args.err.now) (g.E.Sink.faults c.args.err.now) in
    let now = outside (left new.src) (g.S.Source.faults new.src) (g.K.Sink.written new.out) (g.K.Sink.faults new.out)
    (g.E.Sink.written new.err) (g.E.Sink.faults new.err) in
    let same = taken_once (map string_bytes c.args.words.now) c.in-Ok.options options c.in-Ok.ensures.taken taken in
    let first : moment_of c.in-Ok-with_room.session ≡ begun options =
    ap moment_of {y = opened (begun c.in-Ok.options)} c.in-Ok-with_room.ensures ∙ ap begun same in
    let none : options.make ≡ None = sym (ap (λ (o : OptionsView). o.make) same) ∙ sym c.make-made.ensures ∙ c.in-None.is in
    let left_is = subst (λ (o : Option ℕ). IsGiven o (left c.args.src.now) script) none given in
    let answered = subst (λ (m : Moment). Answered m run.0 before now c.run_script.result) first run.1 in
    let told = subst (λ (o : Option (List ℕ)). IsScriptOf o answered.taken run.0) left_is answered.told in
    complete_run (begun options) run.0 before now c.run_script.result answered
    (subst (λ (bytes : List ℕ). IsValidScript (begun options) bytes) (sym told) valid) no_read no_write no_count

pub returns-in-Some-clause-summed : goal.returns-in-Some-clause-summed
returns-in-Some-clause-summed g c options sizes taken chosen session =
    let new = c.run_stencil.new in
    let left = g.S.Source.left c.args.src.now in
    let reads = g.S.Source.faults c.args.src.now in
    let before = outside left reads (g.K.Sink.written c.args.out.now) (g.K.Sink.faults c.args.out.now) (g.E.Sink.written c.args.err.now)
    (g.E.Sink.faults c.args.err.now) in
    let now = outside left reads (g.K.Sink.written new.out) (g.K.Sink.faults new.out) (g.E.Sink.written new.err)
    (g.E.Sink.faults new.err) in
    let same = taken_once (map string_bytes c.args.words.now) c.in-Ok.options options c.in-Ok.ensures.taken taken in
    let first : moment_of c.in-Ok-with_room.session ≡ begun options =
    ap moment_of {y = opened (begun c.in-Ok.options)} c.in-Ok-with_room.ensures ∙ ap begun same in
    let both : ◌≡◌ {A = Option ℕ} (Some c.in-Some.sizes) (Some sizes) = sym c.in-Some.is ∙ c.make-made.ensures
    ∙ ap (λ (o : OptionsView). o.make) same ∙ chosen in
    let size : c.in-Some.sizes ≡ sizes = cc in
    subst (λ (n : ℕ). StencilAnswered (begun options) (stencil n) before now c.run_stencil.result) size
    (subst (λ (m : Moment). StencilAnswered m (stencil c.in-Some.sizes) before now c.run_stencil.result) first
    (c.run_stencil.ensures.answered left reads))

pub returns-in-Some-clause-complete : goal.returns-in-Some-clause-complete
returns-in-Some-clause-complete g c options taken script given valid no_read no_write no_count =
    let new = c.run_stencil.new in
    let left = g.S.Source.left c.args.src.now in
    let reads = g.S.Source.faults c.args.src.now in
    let before = outside left reads (g.K.Sink.written c.args.out.now) (g.K.Sink.faults c.args.out.now) (g.E.Sink.written c.args.err.now)
    (g.E.Sink.faults c.args.err.now) in
    let now = outside left reads (g.K.Sink.written new.out) (g.K.Sink.faults new.out) (g.E.Sink.written new.err)
    (g.E.Sink.faults new.err) in
    let same = taken_once (map string_bytes c.args.words.now) c.in-Ok.options options c.in-Ok.ensures.taken taken in
    let first : moment_of c.in-Ok-with_room.session ≡ begun options =
    ap moment_of {y = opened (begun c.in-Ok.options)} c.in-Ok-with_room.ensures ∙ ap begun same in
    let some : options.make ≡ Some c.in-Some.sizes = sym (ap (λ (o : OptionsView). o.make) same) ∙ sym c.make-made.ensures ∙ c.in-Some.is in
    let script_is : script ≡ stencil c.in-Some.sizes = subst (λ (o : Option ℕ). IsGiven o left script) some given in
    let answered = subst (λ (m : Moment). StencilAnswered m (stencil c.in-Some.sizes) before now c.run_stencil.result) first
    (c.run_stencil.ensures.answered left reads) in
    complete_stencil (begun options) (stencil c.in-Some.sizes) before now c.run_stencil.result answered
    (subst (λ (bytes : List ℕ). IsValidScript (begun options) bytes) script_is valid) no_write no_count
