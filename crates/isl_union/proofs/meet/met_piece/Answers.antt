use Rattle.std.proofs.Common.{◌≡◌, refl, sym, ap, ap₂, ◌∙◌, subst, arith, ◌*◌, option_map, Option, IfSome}
use Rattle.std.proofs.lemmas.Bool.{false≢true}
use Rattle.std.proofs.lemmas.Result.{err_from_is_err_and, IfOk-weaker, MatchResult-weaker}
use Rattle.isl_math.proofs.Ring.{linear}
use Rattle.isl_meter.specs.Gauge.{Gauge}
use Rattle.isl_meter.proofs.CutLemmas.{IsCharged_refl, IsCharged-unit, IsCutBy-after}
use Rattle.isl_space.specs.Space.{space_form_of}
use Rattle.isl_space.specs.SpaceForm.{SpaceForm, IsWellFormedSpace}
use Rattle.isl_piece.specs.Placed.{both_systems}
use Rattle.isl_piece.specs.System.{IsSystemWithin, free_columns}
use Rattle.isl_ledger.proofs.AnsweredLaws.{tame_behind}
use Rattle.isl_difference.specs.Tame.{test_work}
use Rattle.isl_difference.proofs.TameLaws.{tame_memory, tame_ok, tame_refused}
use Rattle.isl_union.specs.Fault.{IsChargedFrom}
use Rattle.isl_union.specs.KeptValue.{KeptPiece, IsVoid, columns_of}
use Rattle.isl_union.specs.Live.{normal_of, IsLiveOf}
use Rattle.isl_union.specs.Meet.{met_piece}
use Rattle.isl_union.specs.Piece.{kept_piece, piece_of, IsPieceOf}
use Rattle.isl_union.proofs.MeetLaws.{met_apart, count_apart, met_both, count_together}
use Rattle.isl_union.proofs.MeetSteps.{bits_after_unit}
use Rattle.isl_union.proofs.SystemLaws.{view_free}
use Rattle.isl_union.proofs.UnitLaws.{from_none, from_unit}
use Rattle.isl_union.proofs.TameLaws.{both_differences}
use Rattle.isl_union.proofs.meet.met_piece.Goals as goal

pub returns-then-not-same-clause-exact : goal.returns-then-not-same-clause-exact
returns-then-not-same-clause-exact c =
    let params = c.args.params.now in
    subst (λ (o : Option KeptPiece). IfSome o (IsVoid params))
    (met_apart params (kept_piece c.args.a.now) (kept_piece c.args.b.now)
    (λ e. false≢true (c.if-not-same.ensures.1 (c.space-space.ensures ∙ e ∙ sym c.space.ensures)))) tt

pub returns-then-not-same-clause-units : goal.returns-then-not-same-clause-units
returns-then-not-same-clause-units c =
    let g = c.args.meter.now in
    subst (λ n. IsChargedFrom n g g) (count_apart (kept_piece c.args.a.now) (kept_piece c.args.b.now)
    (λ e. false≢true (c.if-not-same.ensures.1 (c.space-space.ensures ∙ e ∙ sym c.space.ensures))))
    (from_none g g refl)

pub meet-requires : goal.meet-requires
meet-requires c =
    let params = c.args.params.now in
    let a = c.args.a.now in
    let b = c.args.b.now in
    let same : a.space ≡ b.space = sym c.space-space.ensures ∙ c.if-not-same.ensures.0 refl ∙ c.space.ensures in
    ap free_columns c.system.ensures ∙ view_free params a c.requires.own ∙ ap (columns_of params) same
    ∙ sym (view_free params b c.requires.other)
    ∙ sym (ap free_columns c.system-2.ensures)

pub live_piece-requires : goal.live_piece-requires
live_piece-requires c =
    let g = c.args.meter.now in
    let h = c.unit.new.self in
    c.in_ok-both.ensures.within h
    (subst (IsSystemWithin h) (sym c.system.ensures) (bits_after_unit g h c.args.a.now.system c.in_ok-unit.ensures.1 c.requires.own_within))
    (subst (IsSystemWithin h) (sym c.system-2.ensures) (bits_after_unit g h c.args.b.now.system c.in_ok-unit.ensures.1
    c.requires.other_within))

pub returns-clause-exact : goal.returns-clause-exact
returns-clause-exact c =
    let g = c.args.meter.now in
    let params = c.args.params.now in
    let a = c.args.a.now in
    let b = c.args.b.now in
    let both = c.in_ok-both.both in
    let space = space_form_of c.space-space.result.now in
    let same : a.space ≡ b.space = sym c.space-space.ensures ∙ c.if-not-same.ensures.0 refl ∙ c.space.ensures in
    let own = subst (IsSystemWithin g) (sym c.system.ensures) c.requires.own_within in
    let other = subst (IsSystemWithin g) (sym c.system-2.ensures) c.requires.other_within in
    let free : free_columns both ≡ columns_of params space =
    c.in_ok-both.ensures.free g own other ∙ ap free_columns c.system.ensures ∙ view_free params a c.requires.own
    ∙ ap (columns_of params) (sym c.space-space.ensures) in
    let is = met_both params a b both same c.requires.own c.requires.other
    (c.in_ok-both.ensures.exact ∙ ap₂ both_systems c.system.ensures c.system-2.ensures) in
    let whole : normal_of (piece_of space both) ≡ met_piece params (kept_piece a) (kept_piece b) =
    ap (λ (s : SpaceForm). normal_of (piece_of s both)) c.space-space.ensures ∙ is in
    IfOk-weaker c.live_piece.result
    (λ found. IsLiveOf params (normal_of (piece_of space both)) (option_map kept_piece found) × IfSome found (IsPieceOf params))
    (λ found. IsLiveOf params (met_piece params (kept_piece a) (kept_piece b)) (option_map kept_piece found))
    (λ found h. subst (λ (o : Option KeptPiece). IsLiveOf params o (option_map kept_piece found)) whole h.0)
    (c.live_piece.ensures.found params (subst IsWellFormedSpace (sym c.space-space.ensures) c.requires.own.kept.space) free)

pub returns-clause-sound : goal.returns-clause-sound
returns-clause-sound c =
    let g = c.args.meter.now in
    let params = c.args.params.now in
    let a = c.args.a.now in
    let both = c.in_ok-both.both in
    let space = space_form_of c.space-space.result.now in
    let own = subst (IsSystemWithin g) (sym c.system.ensures) c.requires.own_within in
    let other = subst (IsSystemWithin g) (sym c.system-2.ensures) c.requires.other_within in
    let free : free_columns both ≡ columns_of params space =
    c.in_ok-both.ensures.free g own other ∙ ap free_columns c.system.ensures ∙ view_free params a c.requires.own
    ∙ ap (columns_of params) (sym c.space-space.ensures) in
    IfOk-weaker c.live_piece.result
    (λ found. IsLiveOf params (normal_of (piece_of space both)) (option_map kept_piece found) × IfSome found (IsPieceOf params))
    (λ found. IfSome found (IsPieceOf params)) (λ found h. h.1)
    (c.live_piece.ensures.found params (subst IsWellFormedSpace (sym c.space-space.ensures) c.requires.own.kept.space) free)

pub returns-clause-units : goal.returns-clause-units
returns-clause-units c =
    let g = c.args.meter.now in
    let h = c.unit.new.self in
    let k = c.live_piece.new.meter in
    let e = c.in_ok-unit.ensures.1 in
    let a = c.args.a.now in
    let b = c.args.b.now in
    let same : a.space ≡ b.space = sym c.space-space.ensures ∙ c.if-not-same.ensures.0 refl ∙ c.space.ensures in
    MatchResult-weaker c.live_piece.result c.live_piece.ensures.meter
    (λ found p. subst (λ n. IsChargedFrom n g k) (count_together (kept_piece a) (kept_piece b) same) (from_unit g h k e p))
    (λ cut p. IsCutBy-after g h k cut (IsCharged-unit g h e) p)

-- ---- of difference constraints
pub returns-then-not-same-clause-tame : goal.returns-then-not-same-clause-tame
returns-then-not-same-clause-tame c = λ columns bits limit room own other.
    tame_ok (test_work columns) c.args.meter.now c.args.meter.now _ _ (omega arith) tt

pub returns-in_err-unit-clause-tame : goal.returns-in_err-unit-clause-tame
returns-in_err-unit-clause-tame c = λ columns bits limit room own other.
    let g = c.args.meter.now in
    let p = err_from_is_err_and c.from_residual.result c.from_residual.ensures.1 in
    rw (p.1, p.2) (tame_refused 0 (test_work columns) g g c.unit.new.self _ (IsCharged_refl g g refl) (omega arith) (omega arith)
    c.in_err-unit.ensures.0 c.in_err-unit.ensures.1)

pub returns-in_err-both-clause-tame : goal.returns-in_err-both-clause-tame
returns-in_err-both-clause-tame c = λ columns bits limit room own other.
    let p = err_from_is_err_and c.from_residual-in_err-both.result c.from_residual-in_err-both.ensures.1 in
    let used = ap (λ (x : Gauge). x.units) c.in_ok-unit.ensures.1 in
    rw (p.1, p.2) (tame_memory 1 (test_work columns) c.args.meter.now c.unit.new.self _ (omega (arith, used)) (omega arith))

pub returns-clause-tame : goal.returns-clause-tame
returns-clause-tame c = λ columns bits limit room own other.
    let g = c.args.meter.now in
    let h = c.unit.new.self in
    let e = c.in_ok-unit.ensures.1 in
    let a = c.args.a.now in
    let b = c.args.b.now in
    let none : a.system.definitions ≡ b.system.definitions = own.undefined ∙ sym other.undefined in
    let same = (rw (c.system.ensures, c.system-2.ensures) at c.in_ok-both.ensures.same) none in
    let used = ap (λ (x : Gauge). x.units) e in
    let asked = c.live_piece.ensures.tame columns bits (ap (λ (x : Gauge). x.bits) e ∙ limit) room
    (both_differences columns bits a.system b.system c.in_ok-both.both own other same) in
    tame_behind 1 (columns * (columns * columns)) (test_work columns) g h c.live_piece.new.meter _ c.live_piece.result (omega arith)
    (record { charged = IsCharged-unit g h e; most = omega (arith, linear, used) }) asked
