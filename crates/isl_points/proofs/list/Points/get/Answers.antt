use Rattle.std.proofs.Common.{◌≡◌, ◌∙◌, ◌+◌, ◌-◌, ◌*◌, ap, sym, arith, get_or, take, drop, List, ℤ, ℕ, []}
use Rattle.std.proofs.lemmas.Grind.{common_steps}
use Rattle.isl_points.proofs.FlatLaws.{place_low, place_within, get_or-points_in}
use Rattle.isl_points.proofs.list.Points.get.Goals as goal

pub overflow_mul-from : goal.overflow_mul-from
overflow_mul-from c =
    let within = place_within c.self.inside.width c.self.inside.count c.args.place c.self.inside.numbers.items c.args.self.now
    c.self.invariant c.self.view_is c.requires in
    grind (arith, common_steps, within)

pub overflow_add-result : goal.overflow_add-result
overflow_add-result c =
    let within = place_within c.self.inside.width c.self.inside.count c.args.place c.self.inside.numbers.items c.args.self.now
    c.self.invariant c.self.view_is c.requires in
    grind (arith, common_steps, within)

pub offset_bounds-deref-from : goal.offset_bounds-deref-from
offset_bounds-deref-from c =
    let within = place_within c.self.inside.width c.self.inside.count c.args.place c.self.inside.numbers.items c.args.self.now
    c.self.invariant c.self.view_is c.requires in
    grind (arith, common_steps, within)

pub slice_bounds-result-end : goal.slice_bounds-result-end
slice_bounds-result-end c =
    let within = place_within c.self.inside.width c.self.inside.count c.args.place c.self.inside.numbers.items c.args.self.now
    c.self.invariant c.self.view_is c.requires in
    grind (arith, common_steps, within)

pub returns : goal.returns
returns c =
    let low = place_low c.self.inside.width c.self.inside.count c.args.place c.self.inside.numbers.items c.args.self.now c.self.view_is c.requires in
    let size : c.args.place * c.self.inside.width + c.self.inside.width - c.args.place * c.self.inside.width ≡ c.self.inside.width = omega arith in
    ap (λ (n : ℕ). take n (drop (c.args.place * c.self.inside.width) c.deref.result.now)) size
    ∙ ap (λ (l : List ℤ). take c.self.inside.width (drop (c.args.place * c.self.inside.width) l)) c.deref.ensures.value
    ∙ sym (get_or-points_in c.self.inside.width c.self.inside.count c.args.place c.self.inside.numbers.items [] low)
    ∙ ap (λ (ps : List (List ℤ)). get_or ps c.args.place []) c.self.view_is
