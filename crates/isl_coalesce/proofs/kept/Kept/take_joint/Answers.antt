use Rattle.std.proofs.Common.{◌≡◌, ◌∙◌, ℕ, [], All, List, Option, Some, None, ap, arith, refl, set, subst, sym}
use Rattle.std.specs.Map.{lookup}
use Rattle.std.specs.Prelude.{unwrap_or}
use Rattle.std.specs.Str.{bytes_eq}
use Rattle.std.proofs.lemmas.Grind.{common_steps}
use Rattle.std.proofs.lemmas.List.Elements.{All-nil}
use Rattle.isl_space.specs.SpaceForm.{SpaceForm, space_text_of}
use Rattle.isl_assumed.specs.Assumed.{Assumes}
use Rattle.isl_coalesce.specs.Found.{IsPlainPiece}
use Rattle.isl_coalesce.specs.Joint.{IsJointAt}
use Rattle.isl_coalesce.specs.Slots.{AreApartAt, places_of, present}
use Rattle.isl_coalesce.proofs.SlotLaws.{found_at, grouped_without, unjoined_all}
use Rattle.isl_coalesce.proofs.kept.Kept.take_joint.Goals as goal

pub first_joint-requires-clause-peers : goal.first_joint-requires-clause-peers
first_joint-requires-clause-peers c =
    rw c.as_slice.ensures.value (subst (All (IsPlainPiece c.args.meter.now c.args.params.now)) (sym c.self.view_is) c.requires.pieces)

pub returns-in_default-clause-exact : goal.returns-in_default-clause-exact
returns-in_default-clause-exact c =
    let slots = c.self.inside.slots.items in
    let entries = c.self.inside.groups.entries in
    let piece = c.args.piece.now in
    let title = c.in_ok-title.title in
    let is : title ≡ space_text_of piece.space = c.in_ok-title.ensures ∙ ap (λ (s : SpaceForm). space_text_of s) c.space.ensures in
    let none : places_of title entries ≡ [] = grind (arith, common_steps) in
    let A = AreApartAt (IsJointAt (Assumes c.args.known.now) c.args.params.now) slots piece in (
      grind (arith, common_steps),
      unjoined_all (Assumes c.args.known.now) c.args.params.now slots c.args.self.now c.self.view_is piece entries title is c.self.invariant
          (subst (All A) (sym none) (All-nil A)),
    )

pub invariant_of-self : goal.invariant_of-self
invariant_of-self c =
    let slots = c.self.inside.slots.items in
    let entries = c.self.inside.groups.entries in
    let title = c.in_ok-title.title in
    let looked : Some c.in-Some.places.now ≡ lookup (bytes_eq title) entries = grind (arith, common_steps) in
    let places : c.as_slice-2.result.now ≡ places_of title entries =
    c.as_slice-2.ensures ∙ ap (λ (o : Option (List ℕ)). unwrap_or o []) looked in
    let found = rw (c.in-Some-2.is, c.as_slice.ensures.value, places) at c.in_ok-found.ensures.exact in
    grouped_without slots entries c.forget_place.new.groups.entries title c.in-Some-2.found.index c.in-Some-2.found.place found.2 found.0
    found.1 c.self.invariant c.forget_place.ensures

pub returns-in-Some-2-clause-exact : goal.returns-in-Some-2-clause-exact
returns-in-Some-2-clause-exact c =
    let slots = c.self.inside.slots.items in
    let place = c.in-Some-2.found.place in
    let found = rw (c.in-Some-2.is, c.as_slice.ensures.value) at c.in_ok-found.ensures.exact in
    found_at (Assumes c.args.known.now) c.args.params.now slots c.args.self.now c.self.view_is c.args.piece.now c.args.meter.now place
    found.3 c.in-Some-2.found.joint (present (set slots place None)) found.4 found.5 refl

pub returns-clause-exact : goal.returns-clause-exact
returns-clause-exact c =
    let slots = c.self.inside.slots.items in
    let entries = c.self.inside.groups.entries in
    let piece = c.args.piece.now in
    let title = c.in_ok-title.title in
    let is : title ≡ space_text_of piece.space = c.in_ok-title.ensures ∙ ap (λ (s : SpaceForm). space_text_of s) c.space.ensures in
    let looked : Some c.in-Some.places.now ≡ lookup (bytes_eq title) entries = grind (arith, common_steps) in
    let places : c.as_slice-2.result.now ≡ places_of title entries =
    c.as_slice-2.ensures ∙ ap (λ (o : Option (List ℕ)). unwrap_or o []) looked in
    let none = rw (c.in-None.is, c.as_slice.ensures.value, places) at c.in_ok-found.ensures.exact in (
      refl,
      unjoined_all (Assumes c.args.known.now) c.args.params.now slots c.args.self.now c.self.view_is piece entries title is c.self.invariant
          none,
    )
