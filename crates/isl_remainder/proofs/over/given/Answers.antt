use Rattle.std.proofs.Common.{◌≡◌, ◌↔◌, ◌∙◌, ap, sym}
use Rattle.std.specs.List.{All}
use Rattle.isl_piece.specs.declared.system.System.{System}
use Rattle.isl_piece.specs.System.{IsSystemWithin, free_columns}
use Rattle.isl_elim.specs.Elimination.{HoldsAtAny}
use Rattle.isl_blocks.proofs.ResultLaws.{ok_case, ok_has}
use Rattle.isl_blocks.specs.Left.{HoldsBefore}
use Rattle.isl_remainder.specs.Made.{AreMade}
use Rattle.isl_remainder.specs.Over.{HoldsGiven, HoldsLong, IsAcross}
use Rattle.isl_remainder.proofs.OverLaws.{given_made, IsPlainSystem}
use Rattle.isl_remainder.proofs.over.given.Goals as goal

pub without_last-requires : goal.without_last-requires
without_last-requires c =
    let g = c.args.meter.now in
    record {
      within = c.in_ok-both.ensures.within g c.requires.other.within c.requires.one.within;
      columns = c.in_ok-both.ensures.free g c.requires.other.within c.requires.one.within ∙ c.requires.other.free;
    }

pub returns-clause-made : goal.returns-clause-made
returns-clause-made c =
    let g = c.args.meter.now in
    let other = c.args.other.now in
    let one = c.args.one.now in
    let both = c.in_ok-both.both in
    let n = c.args.columns in
    let r = c.without_last.result in
    ok_case r (λ made. AreMade (HoldsLong n) (IsAcross g n) IsPlainSystem (IsPlainSystem one × IsPlainSystem other)
    (λ point. HoldsGiven one n point other) made.items) (λ made is. given_made g n other one both made.items c.requires.other c.requires.one
    (λ point l. c.in_ok-both.ensures.points g point c.requires.other.within c.requires.one.within l)
    (λ point l. ok_has r made (λ systems. HoldsAtAny systems.items point ↔ HoldsBefore both 1 point) is
    (c.without_last.ensures.points point l))
    (ok_has r made (λ systems. All (λ s. free_columns s ≡ n) systems.items) is c.without_last.ensures.columns)
    (ok_has r made (λ systems. All (IsSystemWithin g) systems.items) is c.without_last.ensures.within)
    (λ none. ok_has r made (λ systems. All IsPlainSystem systems.items) is (c.without_last.ensures.definitions none))
    (IsPlainSystem one × IsPlainSystem other)
    (λ p. ap (λ (s : System). s.definitions) (c.in_ok-both.ensures.same (p.1 ∙ sym p.0)) ∙ p.1))
