-- Slots for pieces, of which some are empty.
use Rattle.std.proofs.Common.{◌≡◌, ◌≢◌, ◌⊎◌, inl, inr, refl, sym, ap, ◌∙◌, subst, arith, ℕ, zero, suc, ◌+◌, ◌-◌, ◌<◌, ◌≤◌}
use Rattle.std.proofs.Common.{Bool, true, false, List, [], ◌∷◌, ◌++◌}
use Rattle.std.proofs.Common.{All, Option, Some, None, length, take, length-append, map, get_or, set, if◌then◌else◌}
use Rattle.std.specs.List.{Contains, remove}
use Rattle.std.specs.Str.{bytes_eq}
use Rattle.std.proofs.lemmas.Bool.{false≢true}
use Rattle.std.proofs.lemmas.List.{append_assoc, append-nil, take_more, get_or_append_left, get_or_default, get_or-set_same, get_or-set_other}
use Rattle.std.proofs.lemmas.List.Edits.{get_or-remove_above, get_or-remove_below, length-remove}
use Rattle.std.proofs.Math.Seq.{get_or-append_seam}
use Rattle.std.proofs.lemmas.List.Elements.{All-nil, All-cons, All-head, All-append, All-map, Contains-append_left, Contains-push}
use Rattle.isl_math.proofs.ListLaws.{All-parts}
use Rattle.std.proofs.lemmas.Option.{none-some}
use Rattle.std.proofs.lemmas.Slice.Eq.{bytes_eq-Decides}
use Rattle.isl_meter.specs.Gauge.{Gauge}
use Rattle.isl_space.specs.Name.{Name}
use Rattle.isl_space.specs.SpaceForm.{space_text_of}
use Rattle.isl_space.specs.Valuation.{Valuation}
use Rattle.isl_piece.specs.Piece.{PieceView}
use Rattle.isl_union.specs.Piece.{kept_piece}
use Rattle.isl_coalesce.specs.Found.{IsJointPiece}
use Rattle.isl_coalesce.specs.Joint.{AreUnjoined, IsJointAt}
use Rattle.isl_coalesce.specs.Slots.{AreApartAt, AreGrouped, held, pieces_at, places_of, present}
use Rattle.isl_coalesce.proofs.PieceLaws.{apart_elsewhere}

abbrev Slots : Type 0
Slots = List (Option PieceView)

abbrev Entries : Type 0
Entries = List (Name × List ℕ)

-- ---- the pieces of slots
present-append : (slots more : Slots) → present (slots ++ more) ≡ present slots ++ present more
present-append [] more = refl
present-append (slot ∷ slots) more =
    ap (λ (l : List PieceView). held slot ++ l) (present-append slots more) ∙ sym (append_assoc (held slot) (present slots) (present more))

pub present-push : (slots : Slots) (p : PieceView) → present (slots ++ Some p ∷ []) ≡ present slots ++ p ∷ []
present-push slots p = present-append slots (Some p ∷ [])

pub present_more : (slots : Slots) (i : ℕ) (slot : Option PieceView) → i < length slots → slot ≡ get_or slots i slot
    → present (take (i + 1) slots) ≡ present (take i slots) ++ held slot
present_more slots i slot low at =
    ap (λ (l : Slots). present l) (take_more slots i slot low ∙ ap (λ (s : Option PieceView). take i slots ++ s ∷ []) (sym at))
    ∙ present-append (take i slots) (slot ∷ [])
    ∙ ap (λ (l : List PieceView). present (take i slots) ++ l) (append-nil (held slot))

pub all_present : (Q : PieceView → Type 0) (slots : Slots) → ((place : ℕ) → All Q (pieces_at slots place)) → All Q (present slots)
all_present Q [] h = All-nil Q
all_present Q (slot ∷ slots) h = All-append Q (held slot) (present slots) (h 0) (all_present Q slots (λ place. h (suc place)))

pub all_at : (Q : PieceView → Type 0) (slots : Slots) (place : ℕ) → All Q (present slots) → All Q (pieces_at slots place)
all_at Q [] place h = All-nil Q
all_at Q (slot ∷ slots) zero h = (All-parts Q (held slot) (present slots) h).0
all_at Q (slot ∷ slots) (suc place) h = all_at Q slots place (All-parts Q (held slot) (present slots) h).1

-- of the one at a place
pub at_place : (Q : PieceView → Type 0) (slots : Slots) (place : ℕ) (p : PieceView) → get_or slots place None ≡ Some p
    → All Q (present slots) → Q p
at_place Q slots place p is h =
    All-head Q p [] (subst (λ (slot : Option PieceView). All Q (held slot)) is (all_at Q slots place h))

pub so_at : (Q : PieceView → Type 0) (slots : Slots) (place : ℕ) (p : PieceView) → get_or slots place None ≡ Some p
    → Q p → All Q (pieces_at slots place)
so_at Q slots place p is q = subst (λ (slot : Option PieceView). All Q (held slot)) (sym is) (All-cons Q p [] q (All-nil Q))

none_at : (slots : Slots) (place : ℕ) → length slots ≤ place → pieces_at slots place ≡ []
none_at [] place low = refl
none_at (slot ∷ slots) zero low = absurd (omega (arith, low))
none_at (slot ∷ slots) (suc place) low = none_at slots place (omega (arith, low))

-- the slot of a piece is emptied
pub record IsTaken (old new : List PieceView) (p : PieceView) : Type 0 where
  pub at : ℕ
  pub low : at < length old
  pub is : (d : PieceView) → get_or old at d ≡ p
  pub rest : new ≡ remove old at

taken_later : (q : PieceView) (old new : List PieceView) (p : PieceView) → IsTaken old new p → IsTaken (q ∷ old) (q ∷ new) p
taken_later q old new p t = record {
  at = suc t.at;
  low = let low = t.low in omega (arith, low);
  is = t.is;
  rest = ap (λ (l : List PieceView). q ∷ l) t.rest;
}

pub taken : (slots : Slots) (place : ℕ) (p : PieceView) → get_or slots place None ≡ Some p
    → IsTaken (present slots) (present (set slots place None)) p
taken [] place p e = absurd (none-some p e)
taken (slot ∷ slots) zero p e =
    subst (λ (s : Option PieceView). IsTaken (held s ++ present slots) (present slots) p) (sym e)
    (record { at = 0; low = omega arith; is = λ d. refl; rest = refl })
taken (None ∷ slots) (suc place) p e = taken slots place p e
taken (Some q ∷ slots) (suc place) p e = taken_later q (present slots) (present (set slots place None)) p (taken slots place p e)

-- ---- their places
in_front : (slots : Slots) (slot : Option PieceView) (place : ℕ) → place < length slots
    → pieces_at (slots ++ slot ∷ []) place ≡ pieces_at slots place
in_front slots slot place low = ap held (get_or_append_left slots (slot ∷ []) None place low)

at_end : (slots : Slots) (slot : Option PieceView) → pieces_at (slots ++ slot ∷ []) (length slots) ≡ held slot
at_end slots slot = ap held (get_or-append_seam slots slot [] None)

behind : (slots : Slots) (slot : Option PieceView) (place : ℕ) → length slots < place → pieces_at (slots ++ slot ∷ []) place ≡ []
behind slots slot place low = none_at (slots ++ slot ∷ []) place (let n = length-append slots (slot ∷ []) in omega (arith, low, n))

order : (a b : ℕ) → (a < b) ⊎ ((a ≡ b) ⊎ (b < a))
order zero zero = inr (inl refl)
order zero (suc b) = inl (omega arith)
order (suc a) zero = inr (inr (omega arith))
order (suc a) (suc b) = elim (order a b) [
  | inl l ↦ inl (omega (arith, l))
  | inr r ↦ elim r [ inl e ↦ inr (inl (ap suc e)) | inr g ↦ inr (inr (omega (arith, g))) ]
]

pub grouped_more : (slots : Slots) (old new : Entries) (title : List ℕ) (p : PieceView) → title ≡ space_text_of p.space
    → AreGrouped slots old
    → ((other : List ℕ) → places_of other new ≡ places_of other old ++ (if bytes_eq title other then length slots ∷ [] else []))
    → AreGrouped (slots ++ Some p ∷ []) new
grouped_more slots old new title p is grouped more place =
    let Found : PieceView → Type 0 = λ piece. Contains (places_of (space_text_of piece.space) new) place in
    elim (order place (length slots)) [
      | inl low ↦ subst (All Found) (sym (in_front slots (Some p) place low)) (λ k d l.
          let q = get_or (pieces_at slots place) k d in
          let other = space_text_of q.space in
          subst (λ places. Contains places place) (sym (more other))
          (Contains-append_left (places_of other old) (if bytes_eq title other then length slots ∷ [] else []) place (grouped place k d l)))
      | inr r ↦ elim r [
        | inl same ↦ subst (λ n. All (λ piece. Contains (places_of (space_text_of piece.space) new) n) (pieces_at (slots ++ Some p ∷ []) n))
            (sym same) (subst (All (λ piece. Contains (places_of (space_text_of piece.space) new) (length slots)))
            (sym (at_end slots (Some p))) (here p is))
        | inr high ↦ subst (All Found) (sym (behind slots (Some p) place high)) (All-nil Found)
      ]
    ]
  where
    here : (p : PieceView) → title ≡ space_text_of p.space
        → All (λ piece. Contains (places_of (space_text_of piece.space) new) (length slots)) (p ∷ [])
    here p is =
        let own = space_text_of p.space in
        let yes : bytes_eq title own ≡ true = (bytes_eq-Decides title own).1 is in
        let all : places_of own new ≡ places_of own old ++ length slots ∷ [] =
        more own ∙ ap (λ b. places_of own old ++ (if b then length slots ∷ [] else [])) yes in
        All-cons (λ piece. Contains (places_of (space_text_of piece.space) new) (length slots)) p []
        (subst (λ places. Contains places (length slots)) (sym all) (Contains-push (places_of own old) (length slots)))
        (All-nil (λ piece. Contains (places_of (space_text_of piece.space) new) (length slots)))

pub grouped_less : (slots : Slots) (entries : Entries) (at : ℕ) → at < length slots → AreGrouped slots entries
    → AreGrouped (set slots at None) entries
grouped_less slots entries at low grouped place =
    let Found : PieceView → Type 0 = λ piece. Contains (places_of (space_text_of piece.space) entries) place in
    elim (order place at) [
      | inl l ↦ subst (All Found) (sym (other (omega (arith, l)))) (grouped place)
      | inr r ↦ elim r [
        | inl same ↦
            let empty = ap (λ n. get_or (set slots at None) n None) same ∙ get_or-set_same slots at None None low in
            subst (All Found) (sym (ap held empty)) (All-nil Found)
        | inr g ↦ subst (All Found) (sym (other (omega (arith, g)))) (grouped place)
      ]
    ]
  where
    other : place ≢ at → pieces_at (set slots at None) place ≡ pieces_at slots place
    other differ = ap held (get_or-set_other slots at place None None differ)

-- a place that is taken away was that of an empty slot
kept_place : (places : List ℕ) (i x : ℕ) → i < length places → x ≢ get_or places i 0 → Contains places x → Contains (remove places i) x
kept_place places i x low differ there =
    let k = there.0 in
    let is : get_or places k x ≡ x = there.2 in
    let long = length-remove places i low in
    elim (order k i) [
      | inl before ↦ (k, omega (arith, low, long, before), get_or-remove_below places i x k before low ∙ is)
      | inr r ↦ elim r [
        | inl same ↦ absurd (differ (sym is ∙ ap (λ (n : ℕ). get_or places n x) same ∙ get_or_default places i x 0 low))
        | inr after ↦ (
          k - 1,
          (let l = there.1 in omega (arith, low, long, after, l)),
          get_or-remove_above places i x (k - 1) (omega (arith, after)) low
              ∙ ap (λ (n : ℕ). get_or places n x) (let e : (k - 1) + 1 ≡ k = omega (arith, after) in e) ∙ is,
        )
      ]
    ]

pub grouped_without : (slots : Slots) (old new : Entries) (title : List ℕ) (i place : ℕ) → place < length slots
    → i < length (places_of title old) → place ≡ get_or (places_of title old) i 0 → AreGrouped slots old
    → ((other : List ℕ) → places_of other new
    ≡ (if bytes_eq title other then remove (places_of other old) i else places_of other old))
    → AreGrouped (set slots place None) new
grouped_without slots old new title i place in_slots low is grouped less at k d l =
    let piece = get_or (pieces_at (set slots place None) at) k d in
    let other = space_text_of piece.space in
    let there : Contains (places_of other old) at = grouped_less slots old place in_slots grouped at k d l in
    subst (λ places. Contains places at) (sym (less other)) (by other (bytes_eq title other) refl there)
  where
    apart : at ≢ place
    apart same =
        let empty : pieces_at (set slots place None) at ≡ [] =
        ap held (ap (λ n. get_or (set slots place None) n None) same ∙ get_or-set_same slots place None None in_slots) in
        let none = ap (λ (pieces : List PieceView). length pieces) empty in
        absurd (omega (arith, none, l))

    by : (other : List ℕ) (b : Bool) → bytes_eq title other ≡ b → Contains (places_of other old) at
        → Contains (if b then remove (places_of other old) i else places_of other old) at
    by other true e there =
        let same : title ≡ other = (bytes_eq-Decides title other).0 e in
        kept_place (places_of other old) i at (subst (λ t. i < length (places_of t old)) same low)
        (λ x. apart (x ∙ ap (λ t. get_or (places_of t old) i 0) (sym same) ∙ sym is)) there
    by other false e there = there

-- what is so of the pieces at the places of a title, and of all others, is so of all
pub all_of : (Q : PieceView → Type 0) (slots : Slots) (entries : Entries) (title : List ℕ) → AreGrouped slots entries
    → All (λ place. All Q (pieces_at slots place)) (places_of title entries)
    → ((q : PieceView) → space_text_of q.space ≢ title → Q q) → All Q (present slots)
all_of Q slots entries title grouped own others = all_present Q slots (λ place k d l.
    let q = get_or (pieces_at slots place) k d in
    by place k d l q refl (bytes_eq title (space_text_of q.space)) refl)
  where
    by : (place k : ℕ) (d : PieceView) → k < length (pieces_at slots place) → (q : PieceView) → get_or (pieces_at slots place) k d ≡ q
        → (c : Bool) → bytes_eq title (space_text_of q.space) ≡ c → Q q
    by place k d l q is true e =
        let same = (bytes_eq-Decides title (space_text_of q.space)).0 e in
        let there : Contains (places_of title entries) place =
        subst (λ t. Contains (places_of t entries) place) (sym same)
        (subst (λ (x : PieceView). Contains (places_of (space_text_of x.space) entries) place) is (grouped place k d l)) in
        let at = there.0 in
        let here : All Q (pieces_at slots place) =
        subst (λ n. All Q (pieces_at slots n)) there.2 (own at place there.1) in
        subst Q is (here k d l)
    by place k d l q is false e = others q (λ same. false≢true (sym e ∙ (bytes_eq-Decides title (space_text_of q.space)).1 (sym same)))

-- ---- the joint piece of a piece and of one in a slot
module _ (P : Valuation → Type 0) (params : List Name) (slots : Slots) (pieces : List PieceView) (view : present slots ≡ pieces)
    (piece : PieceView) where
  -- where there is none with those at the places of its title, there is none
  pub unjoined_all : (entries : Entries) (title : List ℕ) → title ≡ space_text_of piece.space → AreGrouped slots entries
      → All (AreApartAt (IsJointAt P params) slots piece) (places_of title entries)
      → All (λ other. AreUnjoined (IsJointAt P params) other (kept_piece piece)) (map kept_piece pieces)
  unjoined_all entries title is grouped own =
      let Q : PieceView → Type 0 = λ other. AreUnjoined (IsJointAt P params) (kept_piece other) (kept_piece piece) in
      All-map (λ other. AreUnjoined (IsJointAt P params) other (kept_piece piece)) kept_piece pieces
      (subst (All Q) view (all_of Q slots entries title grouped own (λ q differ.
      apart_elsewhere P params q piece (λ same. differ (ap (λ s. space_text_of s) (sym same) ∙ sym is)))))

  -- one is found, and its slot is emptied
  pub found_at : (g : Gauge) (place : ℕ) (other joint : PieceView) (new : List PieceView) → get_or slots place None ≡ Some other
      → IsJointPiece g P params other piece joint → new ≡ present (set slots place None)
      → (at : ℕ) × (at < length pieces) × (new ≡ remove pieces at) × IsJointPiece g P params (get_or pieces at piece) piece joint
  found_at g place other joint new is joins left =
      let t : IsTaken pieces new other =
      subst (λ l. IsTaken pieces l other) (sym left)
      (subst (λ l. IsTaken l (present (set slots place None)) other) view (taken slots place other is)) in (
        t.at,
        t.low,
        t.rest,
        subst (λ p. IsJointPiece g P params p piece joint) (sym (t.is piece)) joins,
      )
