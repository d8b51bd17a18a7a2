use Rattle.std.proofs.Common.{◌∙◌, ap}
use Rattle.isl_space.specs.SpaceForm.{SpaceForm}
use Rattle.isl_union.specs.Minus.{systems_in}
use Rattle.isl_claim.proofs.ProofLaws.{none_ok, outs_columns, outs_plain, outs_within, proved_ok}
use Rattle.isl_claim.proofs.claim.proof_of.Goals as goal

pub certify-requires-clause-outs : goal.certify-requires-clause-outs
certify-requires-clause-outs c =
    let are = c.in_ok-outs.ensures ∙ ap (λ (s : SpaceForm). systems_in s c.args.others.now) c.space.ensures in
    let r = c.requires in
    rw c.as_slice-2.ensures.value (outs_within c.args.params.now c.args.piece.now c.args.others.now r.piece r.others r.plain r.others_plain
    c.in_ok-outs.outs.items are c.args.meter.now r.others_within)

pub certify-requires-clause-columns : goal.certify-requires-clause-columns
certify-requires-clause-columns c =
    let are = c.in_ok-outs.ensures ∙ ap (λ (s : SpaceForm). systems_in s c.args.others.now) c.space.ensures in
    let r = c.requires in
    rw (c.as_slice-2.ensures.value, c.system-2.ensures) (outs_columns c.args.params.now c.args.piece.now c.args.others.now r.piece r.others
    r.plain r.others_plain c.in_ok-outs.outs.items are)

pub certify-requires-clause-plain_outs : goal.certify-requires-clause-plain_outs
certify-requires-clause-plain_outs c =
    let are = c.in_ok-outs.ensures ∙ ap (λ (s : SpaceForm). systems_in s c.args.others.now) c.space.ensures in
    let r = c.requires in
    rw c.as_slice-2.ensures.value (outs_plain c.args.params.now c.args.piece.now c.args.others.now r.piece r.others r.plain r.others_plain
    c.in_ok-outs.outs.items are)

pub returns-clause-none : goal.returns-clause-none
returns-clause-none c =
    let are = c.in_ok-outs.ensures ∙ ap (λ (s : SpaceForm). systems_in s c.args.others.now) c.space.ensures in
    let r = c.requires in
    none_ok c.args.params.now c.args.piece.now c.args.others.now r.piece r.others r.plain r.others_plain c.in_ok-outs.outs.items are
    c.certify.result r.names (rw (c.as_slice-2.ensures.value, c.system-2.ensures) at c.certify.ensures.none)

pub returns-clause-proved : goal.returns-clause-proved
returns-clause-proved c =
    let are = c.in_ok-outs.ensures ∙ ap (λ (s : SpaceForm). systems_in s c.args.others.now) c.space.ensures in
    let r = c.requires in
    proved_ok c.args.params.now c.args.piece.now c.args.others.now r.piece r.others r.plain r.others_plain c.in_ok-outs.outs.items are
    c.certify.result (rw (c.as_slice-2.ensures.value, c.system-2.ensures) at c.certify.ensures.refutes)
