-- The places that the names of one list have in another.
use Rattle.std.proofs.Common.{◌≢◌, ◌<◌, ◌∙◌, ℕ, List, [], length, slice_get, slice_index, arith, ap, sym}
use Rattle.std.proofs.lemmas.Option.{slice_get-get_or, slice_get_within, same_Some}
use Rattle.isl_space.specs.Name.{Name}
use Rattle.isl_space.specs.Names.{AreDistinct, ArePlaces}

-- each place is within the list
pub place_within : (all others : List Name) (places : List ℕ) (i : ℕ) → ArePlaces all others places → i < length others
    → slice_index places i < length all
place_within all others places i are within =
    slice_get_within all (slice_index places i) _ (are.at i within ∙ slice_get-get_or others i [] within)

-- distinct names have distinct places
pub places_differ : (all others : List Name) (places : List ℕ) (i j : ℕ) → AreDistinct others → ArePlaces all others places → i < j
    → j < length others → slice_index places i ≢ slice_index places j
places_differ all others places i j distinct are before within same =
    let earlier : i < length others = omega arith in
    distinct i j [] before within
    (same_Some _ _
    (sym (slice_get-get_or others i [] earlier) ∙ (sym (are.at i earlier)
    ∙ (ap (λ k. slice_get all k) same ∙ (are.at j within ∙ slice_get-get_or others j [] within)))))
