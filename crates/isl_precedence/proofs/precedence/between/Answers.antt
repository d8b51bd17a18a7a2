use Rattle.std.proofs.Common.{◌≡◌, [], subst}
use Rattle.std.proofs.lemmas.Result.{IfOk-weaker}
use Rattle.isl_space.specs.SpaceForm.{IsWellFormedSpace}
use Rattle.isl_math.specs.Order.{IsBefore}
use Rattle.isl_images.specs.Made.{IsPlain}
use Rattle.isl_precedence.specs.Forms.{AreFormsOf}
use Rattle.isl_remainder.specs.Made.{AreMade}
use Rattle.isl_precedence.specs.Precedence.{AreOrdered, HasOccurrence, HoldsFor, IsPlainPrecedence, IsAccessed}
use Rattle.isl_remainder.proofs.MadeLaws.{made_same}
use Rattle.isl_precedence.proofs.TimedLaws.{access_formed, ordered_same}
use Rattle.isl_precedence.proofs.precedence.between.Goals as goal

pub ordered-requires-clause-space : goal.ordered-requires-clause-space
ordered-requires-clause-space c =
    let m = c.args.accesses.now.source.now in
    let n = c.args.accesses.now.sink.now in
    let t = c.args.start.now in
    let u = c.args.stop.now in
    let f = c.in-Some.forms in
    let forms : AreFormsOf m.space n.space t.space u.space f =
    rw (c.space-source.ensures, c.space-sink.ensures, c.space.ensures, c.space-2.ensures) at (rw c.in-Some.is at c.in_ok-forms.ensures) in
    access_formed c.args.meter.now c.args.params.now m n t u f forms c.requires.source c.requires.sink c.requires.start c.requires.stop
    c.requires.narrow

pub ordered-requires-clause-place : goal.ordered-requires-clause-place
ordered-requires-clause-place c =
    let m = c.args.accesses.now.source.now in
    let n = c.args.accesses.now.sink.now in
    let t = c.args.start.now in
    let u = c.args.stop.now in
    let f = c.in-Some.forms in
    let forms : AreFormsOf m.space n.space t.space u.space f =
    rw (c.space-source.ensures, c.space-sink.ensures, c.space.ensures, c.space-2.ensures) at (rw c.in-Some.is at c.in_ok-forms.ensures) in
    subst IsWellFormedSpace forms.sink c.requires.sink.kept.space

pub returns-clause-made : goal.returns-clause-made
returns-clause-made c =
    let g = c.args.meter.now in
    let params = c.args.params.now in
    let m = c.args.accesses.now.source.now in
    let n = c.args.accesses.now.sink.now in
    let t = c.args.start.now in
    let u = c.args.stop.now in
    let f = c.in-Some.forms in
    let s = c.in_ok-system.system in
    let forms : AreFormsOf m.space n.space t.space u.space f =
    rw (c.space-source.ensures, c.space-sink.ensures, c.space.ensures, c.space-2.ensures) at (rw c.in-Some.is at c.in_ok-forms.ensures) in
    let over = rw (c.as_slice.ensures.value, c.in_ok-widths.ensures.exact) at
    (c.in_ok-system.ensures g c.requires.source_within c.requires.sink_within c.requires.start_within c.requires.stop_within) in
    let Plain = (IsPlain m × IsPlain n) × (IsPlain t × IsPlain u) in
    IfOk-weaker c.ordered.result
    (λ made. AreMade (HasOccurrence params) (IsAccessed g params) IsPlainPrecedence (s.definitions ≡ [])
    (λ o. HoldsFor params f s o × IsBefore o.time.numbers o.sink_time.numbers) made.items)
    (λ made. AreMade (HasOccurrence params) (IsAccessed g params) IsPlainPrecedence Plain (AreOrdered params m n t u) made.items)
    (λ made are. made_same (HasOccurrence params) (IsAccessed g params) IsPlainPrecedence (s.definitions ≡ []) (IsAccessed g
    params) Plain
    (λ o. HoldsFor params f s o × IsBefore o.time.numbers o.sink_time.numbers) (AreOrdered params m n t u) (λ r is. is) (λ h.
    over.definitions h)
    (λ o. ordered_same g params m n t u f forms c.requires.source c.requires.sink c.requires.start c.requires.stop s Plain over o)
    made.items are)
    c.ordered.ensures.made
