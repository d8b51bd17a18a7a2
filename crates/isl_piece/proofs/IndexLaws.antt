-- Where the row with a bound stands among rows of which each bound stands once.
use Rattle.std.proofs.Common.{◌≡◌, inl, inr, refl, sym, ap, ◌∙◌, arith, subst, Option, Some, None, ℕ, ◌<◌, true, false}
use Rattle.std.proofs.Common.{List, [], ◌∷◌, ◌++◌, length, get_or, set, take, length-take, get_or-take, get_or-set_same, get_or-set_other}
use Rattle.std.specs.List.{All, AllPairs, Contains}
use Rattle.std.proofs.lemmas.Bool.{cases_Bool, cases_eq}
use Rattle.std.proofs.lemmas.List.{get_or_default, get_or_append_left, get_or_push, length_push, length-set}
use Rattle.std.proofs.lemmas.List.Elements.{All-contains, Contains-push, Contains-append_left}
use Rattle.std.proofs.lemmas.List.Quantifiers.{all_pairs_push}
use Rattle.isl_piece.specs.declared.row.RowKind.TheVariants.{AtLeast}
use Rattle.isl_piece.specs.declared.row.Row.{Row}
use Rattle.isl_piece.specs.Normal.{same_bound, tighter, with_row}
use Rattle.isl_piece.specs.Index.{IsPlaceOf, IsPlaceAmong, bound_constant, bound_hash, slot_of, IsIndexOf}
use Rattle.isl_piece.proofs.MergeLaws.{SameBound, same_bound-true, same_bound-from, int_min_itself, with_row_new, with_row_at}

-- ---- rows with the same bound
pub SameBound_sym : (a b : Row) → SameBound a b → SameBound b a
SameBound_sym a b h = record {
  kind = sym h.kind;
  coefs = sym h.coefs;
  k = sym h.k;
  constant = elim h.constant [ inl s ↦ inl (sym h.kind ∙ s) | inr e ↦ inr (sym e) ];
}

pub SameBound_trans : (a b c : Row) → SameBound a b → SameBound b c → SameBound a c
SameBound_trans a b c f g = record {
  kind = f.kind ∙ g.kind;
  coefs = f.coefs ∙ g.coefs;
  k = f.k ∙ g.k;
  constant = elim f.constant [ inl s ↦ inl s | inr e ↦ elim g.constant [ inl s ↦ inl (f.kind ∙ s) | inr d ↦ inr (e ∙ d) ] ];
}

pub same_bound_sym : (a b : Row) → same_bound a b ≡ true → same_bound b a ≡ true
same_bound_sym a b e = same_bound-from b a (SameBound_sym a b (same_bound-true a b e))

pub same_bound_trans : (a b c : Row) → same_bound a b ≡ true → same_bound b c ≡ true → same_bound a c ≡ true
same_bound_trans a b c e f = same_bound-from a c (SameBound_trans a b c (same_bound-true a b e) (same_bound-true b c f))

-- ---- rows with the same bound have the same hash
bound_constant_same : (a b : Row) → SameBound a b → bound_constant a ≡ bound_constant b
bound_constant_same a b h = elim h.constant [
  | inl s ↦ let t : b.kind ≡ AtLeast = sym h.kind ∙ s in rw (s, t) refl
  | inr e ↦ rw (h.kind, e) refl
]

pub bound_hash_same : (a b : Row) → SameBound a b → bound_hash a ≡ bound_hash b
unfolding bound_hash
bound_hash_same a b h = rw (h.k, h.coefs, bound_constant_same a b h) refl

pub slot_of_same : (count : ℕ) (a b : Row) → SameBound a b → slot_of count a ≡ slot_of count b
unfolding slot_of
slot_of_same count a b h = rw (bound_hash_same a b h) refl

-- ---- rows and one more
-- each bound stands once among the rows
abbrev pub AreDistinct : List Row → Type 0
AreDistinct rows = AllPairs (λ a b. same_bound a b ≡ false) rows

-- no row has the bound of r
abbrev pub AreUnlike : List Row → Row → Type 0
AreUnlike rows r = All (λ a. same_bound a r ≡ false) rows

-- rows and one more, the place of whose bound was found, or none
abbrev pub put : List Row → Row → Option ℕ → List Row
put rows r None = rows ++ r ∷ []
put rows r (Some place) = set rows place (tighter (get_or rows place r) r)

module _ (rows : List Row) (place : ℕ) (r : Row) (h : AreDistinct rows) (here : IsPlaceOf rows r (Some place)) where
  unlike_before : (a : Row) → same_bound a (get_or rows place r) ≡ false → same_bound a r ≡ false
  unlike_before a f = elim (cases_Bool (same_bound a r)) [
    | inl s ↦ let both = same_bound_trans a r (get_or rows place r) s (same_bound_sym (get_or rows place r) r here.1) in cc
    | inr g ↦ g
  ]

  none_before : AreUnlike (take place rows) r
  none_before k x m =
      let before : k < place = omega (arith, length-take place rows) in
      let inside : k < length rows = omega arith in
      let same = get_or-take place rows k x before ∙ get_or_default rows k x r inside in
      subst (λ (a : Row). same_bound a r ≡ false) (sym same) (unlike_before (get_or rows k r) (h k place r before here.0))

-- where each bound stands once, the row with the bound of r is made tighter, whichever place is found; else r stands behind them
pub with_row_put : (rows : List Row) (r : Row) (found : Option ℕ) → AreDistinct rows → IsPlaceOf rows r found
    → with_row rows r ≡ put rows r found
with_row_put rows r None h none = with_row_new rows r none
with_row_put rows r (Some place) h here = with_row_at rows place r r here.0 (none_before rows place r h here) here.1

-- ---- the index finds
module _ (slots : List (List ℕ)) (rows : List Row) (r : Row) (h : IsIndexOf slots rows) (some : 0 < length slots) where
  in_slot : (place : ℕ) → place < length rows → same_bound (get_or rows place r) r ≡ true
      → Contains (get_or slots (slot_of (length slots) r) []) place
  in_slot place l t =
      let same = slot_of_same (length slots) (get_or rows place r) r (same_bound-true (get_or rows place r) r t) in
      subst (λ (slot : ℕ). Contains (get_or slots slot []) place) same (h.placed some place r l)

  missing : (places : List ℕ) → places ≡ get_or slots (slot_of (length slots) r) []
      → All (λ place. place < length rows → same_bound (get_or rows place r) r ≡ false) places → AreUnlike rows r
  missing places is none place d l = ap (λ (a : Row). same_bound a r) (get_or_default rows place d r l)
      ∙ elim (cases_Bool (same_bound (get_or rows place r) r)) [
        | inl t ↦
            let here : Contains places place = subst (λ (xs : List ℕ). Contains xs place) (sym is) (in_slot place l t) in
            All-contains (λ (p : ℕ). p < length rows → same_bound (get_or rows p r) r ≡ false) places place none here l
        | inr f ↦ f
      ]

  -- what the slot's places tell of rows at them is told of all rows
  pub found_in_slot : (places : List ℕ) (found : Option ℕ) → places ≡ get_or slots (slot_of (length slots) r) []
      → IsPlaceAmong rows r places found → IsPlaceOf rows r found
  found_in_slot places None is none = missing places is none
  found_in_slot places (Some place) is here = here

-- ---- the index of changed rows
-- of rows with the same bounds
pub IsIndexOf-alike : (slots : List (List ℕ)) (xs ys : List Row) → length xs ≡ length ys
    → ((k : ℕ) (d : Row) → k < length xs → SameBound (get_or xs k d) (get_or ys k d)) → IsIndexOf slots xs → IsIndexOf slots ys
IsIndexOf-alike slots xs ys same alike h = record {
  distinct = λ i j d l m. distinct i j d l (omega arith);
  placed = λ some place d l.
      let inside : place < length xs = omega arith in
      let slot_is = slot_of_same (length slots) (get_or xs place d) (get_or ys place d) (alike place d inside) in
      subst (λ (slot : ℕ). Contains (get_or slots slot []) place) slot_is (h.placed some place d inside);
}
  where
    like : (k : ℕ) (d : Row) → k < length xs → same_bound (get_or xs k d) (get_or ys k d) ≡ true
    like k d l = same_bound-from (get_or xs k d) (get_or ys k d) (alike k d l)

    distinct : (i j : ℕ) (d : Row) → i < j → j < length xs → same_bound (get_or ys i d) (get_or ys j d) ≡ false
    distinct i j d l m = elim (cases_Bool (same_bound (get_or ys i d) (get_or ys j d))) [
      | inl t ↦
          let first = same_bound_trans (get_or xs i d) (get_or ys i d) (get_or ys j d) (like i d (omega arith)) t in
          let last = same_bound_sym (get_or xs j d) (get_or ys j d) (like j d m) in
          let both = same_bound_trans (get_or xs i d) (get_or ys j d) (get_or xs j d) first last in
          let not = h.distinct i j d l m in
          cc
      | inr f ↦ f
    ]

SameBound_itself : (a : Row) → SameBound a a
SameBound_itself a = record { kind = refl; coefs = refl; k = refl; constant = inr refl }

SameBound-tighter : (a r : Row) → SameBound a r → SameBound a (tighter a r)
SameBound-tighter a r h = record {
  kind = refl;
  coefs = refl;
  k = refl;
  constant = elim h.constant [ inl s ↦ inl s | inr e ↦ inr (sym (int_min_itself a.constant r.constant e)) ];
}

SameBound-set : (rows : List Row) (place : ℕ) (a d : Row) → place < length rows → SameBound (get_or rows place d) a
    → (k : ℕ) (e : Row) → k < length rows → SameBound (get_or rows k e) (get_or (set rows place a) k e)
SameBound-set rows place a d l h k e m = elim (cases_eq k place) [
  | inl same ↦
      let new : get_or (set rows place a) k e ≡ a = rw same (get_or-set_same rows place a e l) in
      let old : get_or rows k e ≡ get_or rows place d = rw same (get_or_default rows place e d l) in
      rw (new, old) h
  | inr other ↦ subst (SameBound (get_or rows k e)) (sym (get_or-set_other rows place k a e other)) (SameBound_itself (get_or rows k e))
]

-- where one has become tighter
pub IsIndexOf-tighter : (slots : List (List ℕ)) (rows : List Row) (place : ℕ) (r : Row) → place < length rows
    → same_bound (get_or rows place r) r ≡ true → IsIndexOf slots rows → IsIndexOf slots (put rows r (Some place))
IsIndexOf-tighter slots rows place r l t h =
    let a = get_or rows place r in
    let new = tighter a r in
    IsIndexOf-alike slots rows (set rows place new) (sym (length-set rows place new))
    (SameBound-set rows place new r l (SameBound-tighter a r (same_bound-true a r t))) h

-- where a row has come behind them, with a bound of its own
module _ (slots : List (List ℕ)) (rows : List Row) (r : Row) (h : IsIndexOf slots rows) (unlike : AreUnlike rows r) where
  distinct_push : AreDistinct (rows ++ r ∷ [])
  distinct_push = all_pairs_push (λ (a b : Row). same_bound a b ≡ false) rows r h.distinct unlike

  -- its place came to a slot
  module _ (slot : ℕ) (places : List ℕ) (inside : slot < length slots) (places_is : places ≡ get_or slots slot [] ++ length rows ∷ []) where
    slot_grown : get_or (set slots slot places) slot [] ≡ get_or slots slot [] ++ length rows ∷ []
    slot_grown = get_or-set_same slots slot places [] inside ∙ places_is

    grown : (s place : ℕ) → Contains (get_or slots s []) place → Contains (get_or (set slots slot places) s []) place
    grown s place old = elim (cases_eq s slot) [
      | inl same ↦
          let new : get_or (set slots slot places) s [] ≡ get_or slots s [] ++ length rows ∷ [] = rw same slot_grown in
          subst (λ (xs : List ℕ). Contains xs place) (sym new) (Contains-append_left (get_or slots s []) (length rows ∷ []) place old)
      | inr other ↦ subst (λ (xs : List ℕ). Contains xs place) (sym (get_or-set_other slots slot s places [] other)) old
    ]

    -- the place of the row is in the slot of so many
    IsIn : ℕ → ℕ → Row → Type 0
    IsIn count place a = Contains (get_or (set slots slot places) (slot_of count a) []) place

    at_last : slot ≡ slot_of (length slots) r → IsIn (length slots) (length rows) r
    unfolding IsIn
    at_last slot_is = rw (← slot_is, slot_grown) (Contains-push (get_or slots slot []) (length rows))

    at_others : (place : ℕ) (d : Row) → place < length rows → IsIn (length slots) place (get_or rows place d)
    unfolding IsIn
    at_others place d l = grown (slot_of (length slots) (get_or rows place d)) place (h.placed (omega arith) place d l)

    at_each : slot ≡ slot_of (length slots) r → (place : ℕ) (d : Row) → place < length (rows ++ r ∷ [])
        → IsIn (length slots) place (get_or (rows ++ r ∷ []) place d)
    at_each slot_is place d l = elim (cases_eq place (length rows)) [
      | inl last ↦ rw (get_or_push rows r d place (sym last), last) (at_last slot_is)
      | inr other ↦
          let before : place < length rows = omega (arith, length_push rows r) in
          subst (IsIn (length slots) place) (sym (get_or_append_left rows (r ∷ []) d place before)) (at_others place d before)
    ]

    pub IsIndexOf-push : slot ≡ slot_of (length slots) r → IsIndexOf (set slots slot places) (put rows r None)
    unfolding IsIn
    IsIndexOf-push slot_is = record {
      distinct = distinct_push;
      placed = λ some place d l.
          let count = sym (length-set slots slot places) in
          subst (λ (n : ℕ). IsIn n place (get_or (rows ++ r ∷ []) place d)) count (at_each slot_is place d l);
    }

  -- there are no slots
  pub IsIndexOf-push_none : length slots ≡ 0 → IsIndexOf slots (put rows r None)
  IsIndexOf-push_none none = record {
    distinct = distinct_push;
    placed = λ some place d l. absurd (omega arith);
  }
