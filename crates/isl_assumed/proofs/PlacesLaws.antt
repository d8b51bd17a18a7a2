-- The places of names in the list that they are joined to.
use Rattle.std.proofs.Common.{◌≡◌, ◌≢◌, refl, sym, ap, ap₂, ◌∙◌, arith, subst, ℕ, zero, suc, ◌+◌, ◌<◌, pos, true, false, not}
use Rattle.std.proofs.Common.{List, [], ◌∷◌, ◌++◌, All, Contains, Some, if◌then◌else◌, length, length-append, get_or}
use Rattle.std.proofs.Common.{filter, slice_get, take}
use Rattle.std.specs.Str.{bytes_eq}
use Rattle.std.proofs.lemmas.List.{ext_get_or, get_or-map, get_or-take, get_or_default, length-map, length-take-le}
use Rattle.std.proofs.lemmas.List.Elements.{All-append, All-filter}
use Rattle.std.proofs.lemmas.List.Folds.{list_any_at}
use Rattle.std.proofs.lemmas.Option.{slice_get-get_or, slice_get_within, same_Some}
use Rattle.std.proofs.lemmas.Slice.Eq.{bytes_eq-Decides}
use Rattle.indexmap.specs.IndexSet.{insert_key}
use Rattle.isl_space.specs.Name.{Name}
use Rattle.isl_space.specs.Names.{AreDistinct, ArePlaces, is_among, joined}
use Rattle.isl_space.specs.Valuation.{Valuation, values_of}
use Rattle.isl_space.proofs.NamesLaws.{absent, join_next, JoinsFront}
use Rattle.isl_space.proofs.PlacesLaws.{place_within, places_differ}
use Rattle.isl_space.proofs.ValuationLaws.{length-values_of, values_of-places}
use Rattle.isl_piece.specs.Meet.{numbers_at}
use Rattle.isl_piece.specs.Placed.{ArePlacesAmong}

-- ---- places of names are places of columns
pub places_among : (all names : List Name) (places : List ℕ) → AreDistinct names → ArePlaces all names places
    → ArePlacesAmong (length all) places
places_among all names places distinct are = record {
  inside = λ k d l. rw (get_or_default places k d 0 l) (place_within all names places k are (rw (sym are.count) l));
  apart = λ i j d before within.
      rw (get_or_default places i d 0 (omega (arith, before, within)), get_or_default places j d 0 within)
      (places_differ all names places i j distinct are before (rw (sym are.count) within));
}

-- the numbers at the places are those of the names
pub numbers_are : (all names : List Name) (places : List ℕ) (v : Valuation) → ArePlaces all names places
    → numbers_at places (values_of all v) ≡ values_of names v
numbers_are all names places v are =
    ext_get_or (pos 0) (numbers_at places (values_of all v)) (values_of names v) (long ∙ are.count ∙ sym (length-values_of names v))
    (λ i l. at i (rw long at l))
  where
    long : length (numbers_at places (values_of all v)) ≡ length places
    long = length-map places (λ p. get_or (values_of all v) p (pos 0))

    at : (i : ℕ) → i < length places → get_or (numbers_at places (values_of all v)) i (pos 0) ≡ get_or (values_of names v) i (pos 0)
    at i l =
        get_or-map (λ p. get_or (values_of all v) p (pos 0)) places i 0 (pos 0) l
        ∙ values_of-places all names places v i are (rw (sym are.count) l)

-- ---- one name after another
-- the places of the names so far, of which so many are new
pub record AreSoFar (params names : List Name) (places : List ℕ) (new : ℕ) : Type 0 where
  pub joins : JoinsFront params names (joined params names) places
  pub count : length (joined params names) ≡ length params + new

slice_get_left : (xs ys : List Name) (i : ℕ) (n : Name) → slice_get xs i ≡ Some n → slice_get (xs ++ ys) i ≡ Some n
slice_get_left [] ys i n is = cc
slice_get_left (x ∷ xs) ys zero n is = is
slice_get_left (x ∷ xs) ys (suc i) n is = slice_get_left xs ys i n is

slice_get_behind : (xs : List Name) (n : Name) → slice_get (xs ++ n ∷ []) (length xs) ≡ Some n
slice_get_behind [] n = refl
slice_get_behind (x ∷ xs) n = slice_get_behind xs n

module _ (params names : List Name) (distinct : AreDistinct names) (i : ℕ) (n : Name) (low : i < length names)
    (at : slice_get names i ≡ Some n) (places : List ℕ) (new : ℕ) (so_far : AreSoFar params (take i names) places new) where
  abbrev now : List Name
  now = joined params (take i names)

  abbrev next : List Name
  next = insert_key bytes_eq now n

  here : get_or names i n ≡ n
  here = same_Some (get_or names i n) n (sym (slice_get-get_or names i n low) ∙ at)

  itself : bytes_eq n n ≡ true
  itself = (bytes_eq-Decides n n).1 refl

  step : (place count : ℕ) (pushed : List ℕ) → pushed ≡ places ++ place ∷ [] → slice_get next place ≡ Some n
      → length next ≡ length params + count → AreSoFar params (take (i + 1) names) pushed count
  step place count pushed is found long =
      let more = join_next params names now next places pushed i n n n place distinct low (sym here) refl so_far.joins refl found itself is
      in record {
        joins = record {
          names = refl;
          are = subst (λ (l : List Name). ArePlaces l (take (i + 1) names) pushed) more.names more.are;
        };
        count = ap (length {A = Name}) (sym more.names) ∙ long;
      }

  -- a name that is one of the parameters
  pub so_far_old : (place : ℕ) (pushed : List ℕ) → pushed ≡ places ++ place ∷ [] → slice_get params place ≡ Some n
      → AreSoFar params (take (i + 1) names) pushed new
  so_far_old place pushed is found =
      let there : slice_get now place ≡ Some n =
      slice_get_left params (filter (λ m. not (is_among params m)) (take i names)) place n found in
      let within = slice_get_within now place n there in
      let same : get_or now place n ≡ n = same_Some (get_or now place n) n (sym (slice_get-get_or now place n within) ∙ there) in
      let among : is_among now n ≡ true =
      list_any_at (bytes_eq n) now place n within (ap (bytes_eq n) same ∙ itself) in
      let stays : next ≡ now = ap (λ b. if b then now else now ++ n ∷ []) among in
      step place new pushed is (ap (λ (l : List Name). slice_get l place) stays ∙ there) (ap (length {A = Name}) stays ∙ so_far.count)

  -- a new one
  pub so_far_new : (place : ℕ) (pushed : List ℕ) → pushed ≡ places ++ place ∷ [] → place ≡ length params + new → ¬ Contains params n
      → AreSoFar params (take (i + 1) names) pushed (new + 1)
  so_far_new place pushed is behind none =
      let own : All (λ m. n ≢ m) params = λ k d l e. none (k, l, get_or_default params k n d l ∙ sym e) in
      let earlier : All (λ m. n ≢ m) (take i names) = λ k d l e.
      let front = length-take-le i names (omega (arith, low)) in
      let before : k < i = omega (arith, l, front) in
      distinct k i d before low
      (sym (get_or-take i names k d before) ∙ sym e ∙ sym here ∙ get_or_default names i n d low) in
      let fresh : is_among now n ≡ false =
      absent now n (All-append (λ m. n ≢ m) params (filter (λ m. not (is_among params m)) (take i names)) own
      (All-filter (λ m. not (is_among params m)) (λ m. n ≢ m) (take i names) earlier)) in
      let grows : next ≡ now ++ n ∷ [] = ap (λ b. if b then now else now ++ n ∷ []) fresh in
      let count = so_far.count in
      let long = length-append now (n ∷ []) in
      step place (new + 1) pushed is
      (ap₂ (λ (l : List Name) (k : ℕ). slice_get l k) grows (behind ∙ sym count) ∙ slice_get_behind now n)
      (ap (length {A = Name}) grows ∙ omega (arith, long, count))
