-- Loops over pieces: one more piece.
use Rattle.std.proofs.Common.{◌≡◌, refl, sym, ap, ◌∙◌, subst, ℕ, ◌+◌, ◌<◌, Option, Some, None, option_map, option_to_list}
use Rattle.std.proofs.Common.{IfSome, List, ◌++◌, All, length, get_or, map, take, sum_by, filter_map}
use Rattle.std.proofs.lemmas.List.{get_or-map, length-map, map-append, append-nil}
use Rattle.std.proofs.lemmas.List.Elements.{All-push}
use Rattle.isl_meter.specs.Gauge.{Gauge, IsCharged}
use Rattle.isl_space.specs.Name.{Name}
use Rattle.isl_piece.specs.Piece.{PieceView}
use Rattle.isl_piece.specs.declared.system.System.{System}
use Rattle.isl_piece.specs.System.{IsSystemWithin}
use Rattle.isl_piece.proofs.FormedLaws.{system_within_kept}
use Rattle.isl_union.specs.Fault.{IsChargedFrom}
use Rattle.isl_union.specs.KeptValue.{KeptPiece}
use Rattle.isl_union.specs.Live.{normal_of, AreLiveOf, IsLiveOf}
use Rattle.isl_union.specs.Meet.{met_piece, met_with, met_pieces, pair_count, partners}
use Rattle.isl_union.specs.Numbers.{AreWithinLimit}
use Rattle.isl_union.specs.Piece.{kept_piece, IsPieceOver}
use Rattle.isl_union.proofs.LiveLaws.{filter_more, live_append, live_one}
use Rattle.isl_union.proofs.MeetLaws.{with_more, partners_more, pieces_more, pairs_more}
use Rattle.isl_union.proofs.UnitLaws.{from_more}

-- ---- within the limit, after units
pub charged_bits : (g h : Gauge) → IsCharged g h → g.bits ≡ h.bits
charged_bits g h p = sym (ap (λ (x : Gauge). x.bits) p.same)

pub bits_after_unit : (g h : Gauge) (s : System) → h ≡ record g { units = g.units + 1 } → IsSystemWithin g s → IsSystemWithin h s
bits_after_unit g h s e within = system_within_kept h g s (sym (ap (λ (x : Gauge). x.bits) e)) within

pub pieces_later : (g h : Gauge) (pieces : List PieceView) → IsCharged g h → AreWithinLimit g pieces → AreWithinLimit h pieces
pieces_later g h pieces p within = λ k d l. system_within_kept h g (get_or pieces k d).system (charged_bits g h p) (within k d l)

pub over_later : (g h : Gauge) (params : List Name) (piece : PieceView) → IsCharged g h → IsPieceOver g params piece
    → IsPieceOver h params piece
over_later g h params piece p over = record {
  space = over.space;
  columns = over.columns;
  within = system_within_kept h g piece.system (charged_bits g h p) over.within;
}

pub item_has : (P : PieceView → Type 0) (pieces : List PieceView) (i : ℕ) (x : PieceView) → i < length pieces → x ≡ get_or pieces i x
    → All P pieces → P x
item_has P pieces i x low at all = subst P (sym at) (all i x low)

-- ---- one more piece
-- a piece that is there, behind the others
pub found_sound : (P : PieceView → Type 0) (met pushed : List PieceView) (o : Option PieceView) → All P met → IfSome o P
    → pushed ≡ met ++ option_to_list o → All P pushed
found_sound P met pushed None h f is = rw is (rw (append-nil met) h)
found_sound P met pushed (Some x) h f is = rw is (All-push P met x h f)

kept_option : (o : Option PieceView) → map kept_piece (option_to_list o) ≡ option_to_list (option_map kept_piece o)
kept_option None = refl
kept_option (Some x) = refl

-- one more that may be kept
pub pushed_live : (params : List Name) (before : List KeptPiece) (one : Option KeptPiece) (met pushed : List PieceView)
    → (o : Option PieceView) → AreLiveOf params before (map kept_piece met) → IsLiveOf params one (option_map kept_piece o)
    → pushed ≡ met ++ option_to_list o → AreLiveOf params (before ++ option_to_list one) (map kept_piece pushed)
pushed_live params before one met pushed o so_far exact is =
    subst (λ (k : List KeptPiece). AreLiveOf params (before ++ option_to_list one) k)
    (sym (ap (map kept_piece) is ∙ map-append kept_piece met (option_to_list o) ∙ ap (λ k. map kept_piece met ++ k) (kept_option o)))
    (live_append params before (map kept_piece met) (option_to_list one) (option_to_list (option_map kept_piece o)) so_far
    (live_one params one (option_map kept_piece o) exact))

module _ (others : List PieceView) (other : PieceView) (i : ℕ) (low : i < length others) (at : other ≡ get_or others i other) where
  abbrev all : List KeptPiece
  all = map kept_piece others

  kept_low : i < length all
  kept_low = rw (length-map others kept_piece) low

  kept_at : get_or all i (kept_piece other) ≡ kept_piece other
  kept_at = get_or-map kept_piece others i other (kept_piece other) low ∙ ap kept_piece (sym at)

  module _ (params : List Name) where
    -- one more of the pieces of which a value is made
    pub live_step : (met pushed : List PieceView) (o : Option PieceView)
        → IsLiveOf params (normal_of (kept_piece other)) (option_map kept_piece o)
        → pushed ≡ met ++ option_to_list o → AreLiveOf params (filter_map normal_of (take i all)) (map kept_piece met)
        → AreLiveOf params (filter_map normal_of (take (i + 1) all)) (map kept_piece pushed)
    live_step met pushed o exact is so_far =
        rw (filter_more normal_of all i (kept_piece other) kept_low kept_at)
        (pushed_live params (filter_map normal_of (take i all)) (normal_of (kept_piece other)) met pushed o so_far exact is)

    module _ (piece : KeptPiece) where
      -- what a piece has in common with one more
      pub with_step : (met pushed : List PieceView) (o : Option PieceView)
          → IsLiveOf params (met_piece params piece (kept_piece other)) (option_map kept_piece o)
          → pushed ≡ met ++ option_to_list o → AreLiveOf params (met_with params (take i all) piece) (map kept_piece met)
          → AreLiveOf params (met_with params (take (i + 1) all) piece) (map kept_piece pushed)
      with_step met pushed o exact is so_far =
          rw (with_more params all (kept_piece other) i kept_low kept_at piece)
          (pushed_live params (met_with params (take i all) piece) (met_piece params piece (kept_piece other)) met pushed o so_far exact is)

      pub with_used : (g h k : Gauge) → IsChargedFrom (partners (take i all) piece) g h
          → IsChargedFrom (pair_count piece (kept_piece other)) h k
          → IsChargedFrom (partners (take (i + 1) all) piece) g k
      with_used g h k p q =
          from_more (partners (take i all) piece) (pair_count piece (kept_piece other)) (partners (take (i + 1) all) piece) g h k
          (partners_more params all (kept_piece other) i kept_low kept_at piece) p q

    module _ (seconds : List KeptPiece) where
      -- what one more piece has in common with the others
      pub pieces_step : (met pushed more : List PieceView) → AreLiveOf params (met_with params seconds (kept_piece other))
          (map kept_piece more)
          → pushed ≡ met ++ more → AreLiveOf params (met_pieces params (take i all) seconds) (map kept_piece met)
          → AreLiveOf params (met_pieces params (take (i + 1) all) seconds) (map kept_piece pushed)
      pieces_step met pushed more exact is so_far =
          rw (pieces_more params all (kept_piece other) i kept_low kept_at seconds)
          (subst (λ (k : List KeptPiece). AreLiveOf params (met_pieces params (take i all) seconds
          ++ met_with params seconds (kept_piece other)) k)
          (sym (ap (map kept_piece) is ∙ map-append kept_piece met more))
          (live_append params (met_pieces params (take i all) seconds) (map kept_piece met) (met_with params seconds (kept_piece other))
          (map kept_piece more) so_far exact))

      pub pieces_used : (g h k : Gauge) → IsChargedFrom (sum_by (partners seconds) (take i all)) g h
          → IsChargedFrom (partners seconds (kept_piece other)) h k → IsChargedFrom (sum_by (partners seconds) (take (i + 1) all)) g k
      pieces_used g h k p q =
          from_more (sum_by (partners seconds) (take i all)) (partners seconds (kept_piece other))
          (sum_by (partners seconds) (take (i + 1) all))
          g h k (pairs_more params all (kept_piece other) i kept_low kept_at seconds) p q
