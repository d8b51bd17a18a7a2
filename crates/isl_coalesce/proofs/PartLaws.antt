-- What is kept of rows, whatever makes a row true.
use Rattle.std.proofs.Common.{◌≡◌, ◌↔◌, inl, inr, refl, sym, ap, ap₂, ◌∙◌, ℕ, ◌+◌, ◌<◌, List, [], ◌∷◌, ◌++◌, All, length, get_or, take}
use Rattle.std.proofs.lemmas.List.{append-nil, append_assoc, take_more}
use Rattle.std.proofs.lemmas.List.Elements.{All-nil, All-cons, All-head, All-tail, All-append}
use Rattle.isl_piece.specs.declared.row.Row.{Row}
use Rattle.isl_coalesce.specs.Parts.{halves, AreParts, AreThose, IsPart}

module _ (True : Row → Type 0) where
  -- ---- one more row
  pub those_more : (rows those : List Row) (r : Row) → AreThose True rows those → True r → AreThose True (rows ++ r ∷ []) (those ++ r ∷ [])
  those_more [] those r e t = inl (t, [], ap (λ l. l ++ r ∷ []) e, refl)
  those_more (s ∷ rows) those r h t = elim h [
    | inl x ↦ inl (x.0, x.1 ++ r ∷ [], ap (λ l. l ++ r ∷ []) x.2, those_more rows x.1 r x.3 t)
    | inr y ↦ inr (y.0, those_more rows those r y.1 t)
  ]

  pub those_skip : (rows those : List Row) (r : Row) → AreThose True rows those → ¬ True r → AreThose True (rows ++ r ∷ []) those
  those_skip [] those r e n = inr (n, e)
  those_skip (s ∷ rows) those r h n = elim h [
    | inl x ↦ inl (x.0, x.1, x.2, those_skip rows x.1 r x.3 n)
    | inr y ↦ inr (y.0, those_skip rows those r y.1 n)
  ]

  pub parts_more : (rows parts : List Row) (r : Row) (own : List Row) → AreParts True rows parts → IsPart True r own
      → AreParts True (rows ++ r ∷ []) (parts ++ own)
  parts_more [] parts r own e p = (own, [], p, refl, ap (λ l. l ++ own) e ∙ sym (append-nil own))
  parts_more (s ∷ rows) parts r own h p =
      (h.0, h.1 ++ own, h.2, parts_more rows h.1 r own h.3 p, ap (λ l. l ++ own) h.4 ∙ append_assoc h.0 h.1 own)

  -- ---- one more of a list
  module _ (rows : List Row) (i : ℕ) (r : Row) (kept : List Row) (low : i < length rows) (at : r ≡ get_or rows i r) where
    next : take (i + 1) rows ≡ take i rows ++ r ∷ []
    next = take_more rows i r low ∙ ap (λ (x : Row). take i rows ++ x ∷ []) (sym at)

    pub those_taken : (pushed : List Row) → pushed ≡ kept ++ r ∷ [] → True r → AreThose True (take i rows) kept
        → AreThose True (take (i + 1) rows) pushed
    those_taken pushed is t h = rw (is, next) (those_more (take i rows) kept r h t)

    pub those_left : ¬ True r → AreThose True (take i rows) kept → AreThose True (take (i + 1) rows) kept
    those_left n h = rw next (those_skip (take i rows) kept r h n)

    pub parts_next : (own pushed : List Row) → pushed ≡ kept ++ own → IsPart True r own → AreParts True (take i rows) kept
        → AreParts True (take (i + 1) rows) pushed
    parts_next own pushed is p h = rw (is, next) (parts_more (take i rows) kept r own h p)

  -- ---- there is one list of them
  pub those_only : (rows a b : List Row) → AreThose True rows a → AreThose True rows b → a ≡ b
  those_only [] a b p q = p ∙ sym q
  those_only (r ∷ rows) a b p q = elim p [
    | inl x ↦ elim q [
      | inl y ↦ x.2 ∙ ap (λ l. r ∷ l) (those_only rows x.1 y.1 x.3 y.3) ∙ sym y.2
      | inr y ↦ absurd (y.0 x.0)
    ]
    | inr x ↦ elim q [
      | inl y ↦ absurd (x.0 y.0)
      | inr y ↦ those_only rows a b x.1 y.1
    ]
  ]

  part_only : (r : Row) (a b : List Row) → IsPart True r a → IsPart True r b → a ≡ b
  part_only r a b p q = elim p [
    | inl x ↦ elim q [ inl y ↦ x.1 ∙ sym y.1 | inr y ↦ absurd (y.0 x.0) ]
    | inr x ↦ elim q [ inl y ↦ absurd (x.0 y.0) | inr y ↦ those_only (halves r) a b x.1 y.1 ]
  ]

  pub parts_only : (rows a b : List Row) → AreParts True rows a → AreParts True rows b → a ≡ b
  parts_only [] a b p q = p ∙ sym q
  parts_only (r ∷ rows) a b p q =
      p.4 ∙ ap₂ (λ x y. x ++ y) (part_only r p.0 q.0 p.2 q.2) (parts_only rows p.1 q.1 p.3 q.3) ∙ sym q.4

  -- ---- they are true
  those_true : (rows those : List Row) → AreThose True rows those → All True those
  those_true [] those e = rw e (All-nil True)
  those_true (r ∷ rows) those h = elim h [
    | inl x ↦ rw (x.2) (All-cons True r x.1 x.0 (those_true rows x.1 x.3))
    | inr y ↦ those_true rows those y.1
  ]

  part_true : (r : Row) (part : List Row) → IsPart True r part → All True part
  part_true r part h = elim h [
    | inl x ↦ rw (x.1) (All-cons True r [] x.0 (All-nil True))
    | inr y ↦ those_true (halves r) part y.1
  ]

  pub parts_true : (rows parts : List Row) → AreParts True rows parts → All True parts
  parts_true [] parts e = rw e (All-nil True)
  parts_true (r ∷ rows) parts h = rw (h.4) (All-append True h.0 h.1 (part_true r h.0 h.2) (parts_true rows h.1 h.3))

  -- ---- what the rows have, and the halves with them, what is kept of them has
  module _ (Q : Row → Type 0) (halved : (r : Row) → Q r → All Q (halves r)) where
    those_keep : (rows those : List Row) → All Q rows → AreThose True rows those → All Q those
    those_keep [] those all e = rw e (All-nil Q)
    those_keep (r ∷ rows) those all h = elim h [
      | inl x ↦ rw (x.2) (All-cons Q r x.1 (All-head Q r rows all) (those_keep rows x.1 (All-tail Q r rows all) x.3))
      | inr y ↦ those_keep rows those (All-tail Q r rows all) y.1
    ]

    part_keep : (r : Row) (part : List Row) → Q r → IsPart True r part → All Q part
    part_keep r part q h = elim h [
      | inl x ↦ rw (x.1) (All-cons Q r [] q (All-nil Q))
      | inr y ↦ those_keep (halves r) part (halved r q) y.1
    ]

    pub parts_keep : (rows parts : List Row) → All Q rows → AreParts True rows parts → All Q parts
    parts_keep [] parts all e = rw e (All-nil Q)
    parts_keep (r ∷ rows) parts all h =
        rw (h.4) (All-append Q h.0 h.1 (part_keep r h.0 (All-head Q r rows all) h.2) (parts_keep rows h.1 (All-tail Q r rows all) h.3))

  -- ---- rows that are true in another word
  module _ (Other : Row → Type 0) (same : (r : Row) → True r ↔ Other r) where
    those_same : (rows those : List Row) → AreThose True rows those → AreThose Other rows those
    those_same [] those e = e
    those_same (r ∷ rows) those h = elim h [
      | inl x ↦ inl ((same r).0 x.0, x.1, x.2, those_same rows x.1 x.3)
      | inr y ↦ inr ((λ o. y.0 ((same r).1 o)), those_same rows those y.1)
    ]

    part_same : (r : Row) (part : List Row) → IsPart True r part → IsPart Other r part
    part_same r part h = elim h [
      | inl x ↦ inl ((same r).0 x.0, x.1)
      | inr y ↦ inr ((λ o. y.0 ((same r).1 o)), those_same (halves r) part y.1)
    ]

    pub parts_same : (rows parts : List Row) → AreParts True rows parts → AreParts Other rows parts
    parts_same [] parts e = e
    parts_same (r ∷ rows) parts h = (h.0, h.1, part_same r h.0 h.2, parts_same rows h.1 h.3, h.4)
