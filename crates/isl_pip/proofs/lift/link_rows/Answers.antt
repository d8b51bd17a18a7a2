use Rattle.std.proofs.Common.{◌≡◌, ◌∙◌, ◌+◌, ◌++◌, ◌∷◌, [], ◌≤◌, ◌+ℤ◌, ◌-ℤ◌, refl, sym, ap, subst, arith, ℤ, pos, negsuc, neg_ℤ, true, false, List, length}
use Rattle.std.specs.List.{All, insert}
use Rattle.std.proofs.lemmas.Grind.{common_steps}
use Rattle.isl_math.specs.Dot.{weighted_sum}
use Rattle.isl_meter.specs.Gauge.{Gauge, IsWithin}
use Rattle.isl_meter.proofs.LimitLemmas.{IsWithin-small}
use Rattle.isl_piece.specs.declared.row.RowKind.TheVariants as kind
use Rattle.isl_piece.specs.declared.row.Row.{Row}
use Rattle.isl_pip.specs.Lift.{HaveLink}
use Rattle.isl_pip.proofs.LiftedLaws.{exact_link, floor_link, inserted_within}
use Rattle.isl_pip.proofs.lift.link_rows.Goals as goal

pub inserted-requires : goal.inserted-requires
inserted-requires c =
    let i = c.requires.anchor.inside in
    let e = ap length c.as_slice.ensures in
    omega (arith, i, e)

pub returns-then-is_exact : goal.returns-then-is_exact
returns-then-is_exact c =
    let g = c.args.meter.now in
    let r = c.args.anchor.now in
    let n = length r.coefs in
    let one = IsWithin-small g (pos 1) c.limit-limit.ensures.bits_low (omega arith) in
    let same : c.in_ok-link.link ≡ insert r.coefs c.args.column r.k =
    c.in_ok-link.ensures ∙ ap (λ (l : List ℤ). insert l c.args.column c.modulus.result) c.as_slice.ensures ∙ ap (λ z. insert r.coefs c.args.column z) c.modulus.ensures in
    let small = inserted_within g r.coefs c.args.column r.k c.requires.anchor.within.coefs c.requires.anchor.within.k in
    let is : c.args.is_exact ≡ true = grind (arith, common_steps) in
    let made : c.new-row.result ≡ record { kind = kind.Zero; coefs = c.in_ok-link.link; constant = r.constant; k = pos 1 } =
    c.new-row.ensures ∙ ap (λ z. let q : Row = record { kind = kind.Zero; coefs = c.in_ok-link.link; constant = z; k = pos 1 } in q) c.constant.ensures in
    let rows = c.in_ok-push.ensures.ok ∙ ap (λ (l : List Row). l ++ c.new-row.result ∷ []) c.new-rows.ensures ∙ ap (λ (q : Row). q ∷ []) made in (
      subst (λ b. HaveLink g c.args.column r b c.push.new.self) (sym is)
          (exact_link g n c.args.column r c.requires.anchor refl one c.push.new.self c.in_ok-link.link same small rows),
      refl,
    )

pub weighted_sum-requires : goal.weighted_sum-requires
weighted_sum-requires c =
    let g = c.args.meter.now in
    let r = c.args.anchor.now in
    let n = length r.coefs in
    let one = IsWithin-small g (pos 1) c.limit-limit.ensures.bits_low (omega arith) in
    let same : c.in_ok-link.link ≡ insert r.coefs c.args.column r.k =
    c.in_ok-link.ensures ∙ ap (λ (l : List ℤ). insert l c.args.column c.modulus.result) c.as_slice.ensures ∙ ap (λ z. insert r.coefs c.args.column z) c.modulus.ensures in
    let small = inserted_within g r.coefs c.args.column r.k c.requires.anchor.within.coefs c.requires.anchor.within.k in
    let all : All (IsWithin g) c.as_slice-numbers.result.now = subst (All (IsWithin g)) (sym (c.as_slice-numbers.ensures ∙ same)) small in
    record { left_within = all; right_within = all; same_length = refl }

pub neg-constant-requires : goal.neg-constant-requires
neg-constant-requires c =
    let g = c.args.meter.now in
    let meter : c.weighted_sum.new.meter ≡ g = c.in_ok-opposite.ensures.exact.1 in
    subst (λ (m : Gauge). IsWithin m c.constant-own.result) (sym meter) (subst (IsWithin g) (sym c.constant-own.ensures) c.requires.anchor.within.constant)

pub returns : goal.returns
returns c =
    let g = c.args.meter.now in
    let r = c.args.anchor.now in
    let n = length r.coefs in
    let one = IsWithin-small g (pos 1) c.limit-limit.ensures.bits_low (omega arith) in
    let same : c.in_ok-link.link ≡ insert r.coefs c.args.column r.k =
    c.in_ok-link.ensures ∙ ap (λ (l : List ℤ). insert l c.args.column c.modulus.result) c.as_slice.ensures ∙ ap (λ z. insert r.coefs c.args.column z) c.modulus.ensures in
    let small = inserted_within g r.coefs c.args.column r.k c.requires.anchor.within.coefs c.requires.anchor.within.k in
    let is : c.args.is_exact ≡ false = grind (arith, common_steps) in
    let link = c.in_ok-link.link in
    let meter : c.weighted_sum.new.meter ≡ g = c.in_ok-opposite.ensures.exact.1 in
    let less = c.in_ok-less.ensures in
    let most = c.in_ok-most.ensures in
    let last : c.add.new.meter ≡ g = most.2 ∙ less.2 ∙ meter in
    let opposite : c.in_ok-opposite.opposite ≡ weighted_sum (negsuc 0) link (pos 0) link = grind (arith, common_steps) in
    let all : All (IsWithin g) c.in_ok-opposite.opposite = c.in_ok-opposite.ensures.exact.0.1 in
    let constant : c.neg-constant.result ≡ neg_ℤ r.constant = c.neg-constant.ensures.value ∙ ap neg_ℤ c.constant-own.ensures in
    let in_constant : IsWithin g c.neg-constant.result = subst (λ (m : Gauge). IsWithin m c.neg-constant.result) meter c.neg-constant.ensures.within in
    let number : c.in_ok-most.most ≡ (r.k -ℤ pos 1) +ℤ r.constant = grind (arith, common_steps) in
    let in_number : IsWithin g c.in_ok-most.most = subst (λ (m : Gauge). IsWithin m c.in_ok-most.most) (less.2 ∙ meter) most.1 in
    let rows : c.push-3.new.self ≡ record { kind = kind.AtLeast; coefs = c.in_ok-opposite.opposite; constant = c.neg-constant.result; k = pos 1 }
    ∷ record { kind = kind.AtLeast; coefs = link; constant = c.in_ok-most.most; k = pos 1 } ∷ [] = grind (arith, common_steps) in (
      subst (λ b. HaveLink g c.args.column r b c.push-3.new.self) (sym is)
          (floor_link g n c.args.column r c.requires.anchor refl one c.push-3.new.self c.in_ok-opposite.opposite link c.neg-constant.result c.in_ok-most.most same
          opposite (subst (All (IsWithin g)) (sym same) small) all constant in_constant number in_number rows),
      last,
    )
