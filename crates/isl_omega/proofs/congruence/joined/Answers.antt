use Rattle.std.proofs.Common.{◌∙◌, sym, pos, ◌<ℤ◌, ◌*ℤ◌, arith}
use Rattle.isl_meter.specs.Gauge.{IsWithin}
use Rattle.isl_omega.specs.Congruence.{IsScaledTo, AreMerged}
use Rattle.isl_omega.proofs.ReduceLemmas.{common_parts, reduced_at, reduced_within, joined_is}
use Rattle.isl_piece.proofs.RowLemmas.{HasModulus-positive}
use Rattle.isl_omega.proofs.congruence.joined.Goals as goal

pub scaled_copy-requires-clause-m_positive : goal.scaled_copy-requires-clause-m_positive
scaled_copy-requires-clause-m_positive c =
    let p = c.args.p.now in
    let q = c.args.q.now in
    (common_parts p.k q.k c.gcd-common.result c.floor_div-m.result c.floor_div-n.result (HasModulus-positive p.kind p.k c.requires.p_formed.modulus) (HasModulus-positive q.kind q.k c.requires.q_formed.modulus)
    (grind arith) (grind arith) (grind arith)).m_positive

pub scaled_copy-requires-2-clause-m_positive : goal.scaled_copy-requires-2-clause-m_positive
scaled_copy-requires-2-clause-m_positive c =
    let p = c.args.p.now in
    let q = c.args.q.now in
    (common_parts p.k q.k c.gcd-common.result c.floor_div-m.result c.floor_div-n.result (HasModulus-positive p.kind p.k c.requires.p_formed.modulus) (HasModulus-positive q.kind q.k c.requires.q_formed.modulus)
    (grind arith) (grind arith) (grind arith)).n_positive

pub merged_pair-requires-clause-q_reduced : goal.merged_pair-requires-clause-q_reduced
merged_pair-requires-clause-q_reduced c =
    let p = c.args.p.now in
    let q = c.args.q.now in
    let parts = common_parts p.k q.k c.gcd-common.result c.floor_div-m.result c.floor_div-n.result (HasModulus-positive p.kind p.k c.requires.p_formed.modulus) (HasModulus-positive q.kind q.k c.requires.q_formed.modulus)
    (grind arith) (grind arith) (grind arith) in
    let first : IsScaledTo c.args.column.columns (c.floor_div-m.result *ℤ p.k) p c.in_ok-first.first = grind arith in
    let second : IsScaledTo c.args.column.columns (c.floor_div-n.result *ℤ q.k) q c.in_ok-second.second = grind arith in
    reduced_at c.args.column.columns (c.floor_div-n.result *ℤ q.k) c.in_ok-first.first.k c.in_ok-second.second (sym (first.is_reduced.modulus ∙ parts.same)) second.is_reduced

pub returns : goal.returns
returns c =
    let p = c.args.p.now in
    let q = c.args.q.now in
    let parts = common_parts p.k q.k c.gcd-common.result c.floor_div-m.result c.floor_div-n.result (HasModulus-positive p.kind p.k c.requires.p_formed.modulus) (HasModulus-positive q.kind q.k c.requires.q_formed.modulus)
    (grind arith) (grind arith) (grind arith) in
    let first : IsScaledTo c.args.column.columns (c.floor_div-m.result *ℤ p.k) p c.in_ok-first.first = grind arith in
    let second : IsScaledTo c.args.column.columns (c.floor_div-n.result *ℤ q.k) q c.in_ok-second.second = grind arith in
    let merged : AreMerged c.args.column.columns c.args.column.at c.in_ok-first.first.k c.in_ok-first.first c.in_ok-second.second c.in_ok-pair.pair.0 c.in_ok-pair.pair.1 = grind arith in
    let above : pos 0 <ℤ c.in_ok-first.first.k = grind arith in
    let within : IsWithin c.args.meter.now c.in_ok-first.first.k = grind arith in (
      (
        joined_is c.args.column.columns c.args.column.at c.floor_div-m.result c.floor_div-n.result p q c.in_ok-first.first c.in_ok-second.second c.in_ok-pair.pair.0 c.in_ok-pair.pair.1 above parts.same parts.small first second merged,
        reduced_within c.args.meter.now c.args.column.columns c.in_ok-first.first.k c.in_ok-pair.pair.0 within merged.first_reduced,
        reduced_within c.args.meter.now c.args.column.columns c.in_ok-first.first.k c.in_ok-pair.pair.1 within merged.second_reduced,
      ),
      grind arith,
    )
