-- Pairs of pieces that are put together, and their units.
use Rattle.std.proofs.Common.{◌≡◌, refl, sym, ap, ap₂, ◌∙◌, subst, arith, ℕ, ◌+◌, ◌<◌, ◌≤◌, Bool, true, false, cond, List, [], ◌∷◌, ◌++◌}
use Rattle.std.proofs.Common.{get_or, length, map, sum_by, take}
use Rattle.std.proofs.lemmas.Bool.{cond-false, false_from_ne_true}
use Rattle.std.proofs.lemmas.List.{get_or-map, length-map, take_more}
use Rattle.std.proofs.lemmas.List.Sums.{sum_by_push}
use Rattle.isl_meter.specs.Gauge.{Gauge, IsCharged}
use Rattle.isl_space.specs.Form.{Form}
use Rattle.isl_space.specs.Name.{Name}
use Rattle.isl_space.specs.SpaceForm.{SpaceForm, set_of, map_of}
use Rattle.isl_piece.specs.Piece.{PieceView}
use Rattle.isl_union.specs.Fault.{IsChargedFrom}
use Rattle.isl_union.specs.KeptValue.{KeptValue}
use Rattle.isl_union.specs.Meet.{is_same_form}
use Rattle.isl_union.specs.Minus.{IsAlignedPair}
use Rattle.isl_union.proofs.MeetLaws.{space_is, space_itself}
use Rattle.isl_union.proofs.UnitLaws.{from_more, from_none, from_unit}
use Rattle.isl_relation.specs.Together.{are_linked, is_domain, pair_count, pairs_of, pairs_together, partners, spaces_of}

-- ---- two forms
form_of_set : SpaceForm → Form
form_of_set (set_of x) = x
form_of_set (map_of x y) = x

pub same_form : (x y : Form) → is_same_form x y ≡ true → x ≡ y
unfolding form_of_set
same_form x y e = ap form_of_set (space_is (set_of x) (set_of y) e)

pub form_itself : (x : Form) → is_same_form x x ≡ true
form_itself x = space_itself (set_of x)

differ : (x y : Form) → ¬ (x ≡ y) → is_same_form x y ≡ false
differ x y n = false_from_ne_true (is_same_form x y) (λ e. n (same_form x y e))

pub not_domain : (s t : SpaceForm) (x y z : Form) → s ≡ map_of x y → t ≡ set_of z → ¬ (x ≡ z) → is_domain s t ≡ false
not_domain s t x y z p q n = ap₂ is_domain p q ∙ differ x z n

pub not_linked : (s t : SpaceForm) (x y u w : Form) → s ≡ map_of x y → t ≡ map_of u w → ¬ (y ≡ u) → are_linked s t ≡ false
not_linked s t x y u w p q n = ap₂ are_linked p q ∙ differ y u n

-- ---- one pair
one_or_none : (b : Bool) → cond b 1 0 ≤ 1
one_or_none true = omega arith
one_or_none false = omega arith

from_fewer : (m n : ℕ) (g h : Gauge) → m ≤ n → IsChargedFrom n g h → IsChargedFrom m g h
from_fewer m n g h few p = record { charged = p.charged; least = let l = p.least in omega (arith, l, few) }

module _ (together : SpaceForm → SpaceForm → Bool) where
  -- two that are not put together use no unit
  pub apart_free : (s t : SpaceForm) (g : Gauge) → together s t ≡ false → IsChargedFrom (pair_count together s t) g g
  apart_free s t g apart = subst (λ n. IsChargedFrom n g g) (sym (cond-false (together s t) 1 0 apart)) (from_none g g refl)

  -- and of others a unit is enough
  pub unit_pays : (s t : SpaceForm) (g h k : Gauge) → h ≡ record g { units = g.units + 1 } → IsCharged h k
      → IsChargedFrom (pair_count together s t) g k
  unit_pays s t g h k e p = from_fewer (pair_count together s t) 1 g k (one_or_none (together s t)) (from_unit g h k e p)

  -- ---- one more piece
  module _ (pieces : List PieceView) (piece : PieceView) (i : ℕ) (low : i < length pieces) (at : piece ≡ get_or pieces i piece) where
    next_space : take (i + 1) (spaces_of pieces) ≡ take i (spaces_of pieces) ++ piece.space ∷ []
    next_space =
        take_more (spaces_of pieces) i piece.space (rw (length-map pieces (λ (p : PieceView). p.space)) low)
        ∙ ap (λ s. take i (spaces_of pieces) ++ s ∷ [])
        (get_or-map (λ (p : PieceView). p.space) pieces i piece piece.space low ∙ ap (λ (p : PieceView). p.space) (sym at))

    -- of the others
    pub partner_pays : (s : SpaceForm) (g h k : Gauge) → IsChargedFrom (partners together (take i (spaces_of pieces)) s) g h
        → IsChargedFrom (pair_count together s piece.space) h k
        → IsChargedFrom (partners together (take (i + 1) (spaces_of pieces)) s) g k
    partner_pays s g h k p q =
        from_more (partners together (take i (spaces_of pieces)) s) (pair_count together s piece.space)
        (partners together (take (i + 1) (spaces_of pieces)) s) g h k
        (ap (λ l. partners together l s) next_space ∙ sum_by_push (pair_count together s) (take i (spaces_of pieces)) piece.space) p q

    -- of the first ones
    pub piece_pays : (others : List SpaceForm) (g h k : Gauge) → IsChargedFrom (pairs_of together (take i (spaces_of pieces)) others) g h
        → IsChargedFrom (partners together others piece.space) h k
        → IsChargedFrom (pairs_of together (take (i + 1) (spaces_of pieces)) others) g k
    piece_pays others g h k p q =
        from_more (pairs_of together (take i (spaces_of pieces)) others) (partners together others piece.space)
        (pairs_of together (take (i + 1) (spaces_of pieces)) others) g h k
        (ap (λ l. pairs_of together l others) next_space ∙ sum_by_push (partners together others) (take i (spaces_of pieces)) piece.space)
        p q

  -- ---- two values
  -- over their joined parameters they have as many pairs
  pub same_pairs : (g : Gauge) (a b : KeptValue) (params : List Name) (own others : List PieceView) → IsAlignedPair g a b params own others
      → pairs_of together (spaces_of own) (spaces_of others) ≡ pairs_together together a b
  same_pairs g a b params own others pair = ap₂ (pairs_of together) pair.own.spaces pair.others.spaces
