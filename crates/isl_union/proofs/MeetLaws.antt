-- What two values have in common: its elements, its numbers, and its units.
use Rattle.std.proofs.Common.{◌≡◌, ◌↔◌, ◌⊎◌, inl, inr, refl, sym, ap, ap₂, ◌∙◌, subst, ℕ, ◌+◌, ◌<◌}
use Rattle.std.proofs.Common.{Option, Some, None, option_map, IfSome, option_to_list, List, [], ◌∷◌, ◌++◌}
use Rattle.std.proofs.Common.{All, Any, length, get_or, take, sum_by}
use Rattle.std.specs.List.{cons_option}
use Rattle.std.proofs.lemmas.Bool.{cases_Bool, cond-true, cond-false, false≢true, false_from_ne_true}
use Rattle.std.proofs.lemmas.List.Elements.{All-nil, All-cons, All-head, All-tail, All-append}
use Rattle.std.proofs.lemmas.List.{flat_map_more, take_more}
use Rattle.std.proofs.lemmas.List.Sums.{sum_by_push}
use Rattle.isl_math.proofs.ListLaws.{Any-none, Any-first, Any-later, Any-cases, Any-parts, Any-left, Any-right}
use Rattle.isl_space.specs.Element.{Element}
use Rattle.isl_space.specs.Name.{Name}
use Rattle.isl_space.specs.Valuation.{Valuation}
use Rattle.isl_meter.specs.Gauge.{Gauge}
use Rattle.isl_piece.specs.declared.row.Row.{Row}
use Rattle.isl_piece.specs.declared.system.System.{System}
use Rattle.isl_piece.specs.Placed.{both_systems}
use Rattle.isl_piece.specs.Normal.{normal_rows}
use Rattle.isl_piece.specs.System.{IsSystemWithin, free_columns}
use Rattle.isl_piece.proofs.MeetLaws.{both_case, both_free, both_points, both_up_to, both_within}
pub use Rattle.isl_index.proofs.SameLaws.{space_is, space_itself}
use Rattle.isl_union.specs.KeptValue.{KeptPiece, HasElement, columns_of, piece_system, point_of}
use Rattle.isl_union.specs.Live.{normal_of}
use Rattle.isl_union.specs.Meet.{is_same_space, common_piece, met_piece, met_with, met_pieces, pair_count, partners}
use Rattle.isl_union.specs.Numbers.{IsPieceUpTo}
use Rattle.isl_piece.specs.Piece.{PieceView}
use Rattle.isl_union.specs.Piece.{kept_piece, piece_of, IsPieceOf}
use Rattle.isl_union.proofs.LiveLaws.{filter_more, none_void, normal_has, normal_up_to, with_rows}
use Rattle.isl_union.proofs.SystemLaws.{columns_from, free_of_piece, point_long, system_is, view_is, void_has, IsFit}

-- ---- one pair
-- of two spaces
pub met_apart : (params : List Name) (a b : KeptPiece) → ¬ (a.space ≡ b.space) → None ≡ met_piece params a b
met_apart params a b n = sym (cond-false (is_same_space a.space b.space) (common_piece params a b) None
    (false_from_ne_true _ (λ e. n (space_is a.space b.space e))))

pub count_apart : (a b : KeptPiece) → ¬ (a.space ≡ b.space) → 0 ≡ pair_count a b
count_apart a b n = sym (cond-false (is_same_space a.space b.space) 1 0 (false_from_ne_true _ (λ e. n (space_is a.space b.space e))))

-- of one space
pub met_together : (params : List Name) (a b : KeptPiece) → a.space ≡ b.space → common_piece params a b ≡ met_piece params a b
met_together params a b same = sym (cond-true (is_same_space a.space b.space) (common_piece params a b) None
    (ap (is_same_space a.space) (sym same) ∙
    space_itself a.space))

-- what was found of the system of both is what was to be found of the pieces
pub met_both : (params : List Name) (a b : PieceView) (both : System) → a.space ≡ b.space → IsPieceOf params a → IsPieceOf params b
    → both ≡ both_systems a.system b.system
    → normal_of (piece_of a.space both) ≡ met_piece params (kept_piece a) (kept_piece b)
unfolding common_piece
met_both params a b both same p q is =
    ap (λ (s : System). normal_of (piece_of a.space s)) (is ∙ ap₂ both_systems (view_is params a p) (view_is params b q))
    ∙ met_together params (kept_piece a) (kept_piece b) same

pub count_together : (a b : KeptPiece) → a.space ≡ b.space → 1 ≡ pair_count a b
count_together a b same = sym (cond-true (is_same_space a.space b.space) 1 0 (ap (is_same_space a.space) (sym same) ∙ space_itself a.space))

-- ---- what two pieces of one space have in common
module _ (g : Gauge) (params : List Name) (a b : KeptPiece) (same : a.space ≡ b.space) (p : IsFit g params a) (q : IsFit g params b) where
  abbrev whole : System
  whole = both_systems (piece_system params a) (piece_system params b)

  pub equal_columns : free_columns (piece_system params a) ≡ free_columns (piece_system params b)
  equal_columns = free_of_piece params a ∙ ap (columns_of params) same ∙ sym (free_of_piece params b)

  pub whole_within : IsSystemWithin g whole
  whole_within = both_within g (piece_system params a) (piece_system params b) equal_columns p.1 q.1

  pub whole_free : free_columns whole ≡ columns_of params a.space
  whole_free = both_free g (piece_system params a) (piece_system params b) equal_columns p.1 q.1 ∙ free_of_piece params a

  -- before its rows are made normal
  abbrev common : KeptPiece
  common = piece_of a.space whole

  common_within : IsSystemWithin g (piece_system params common)
  common_within = subst (IsSystemWithin g) (system_is params a.space whole (columns_from g params a.space whole whole_within whole_free))
      whole_within

  common_holds : (v : Valuation) (e : Element) → HasElement params v e common ↔ (HasElement params v e a × HasElement params v e b)
  common_holds v e =
      let point = point_of params v e in
      let points = both_points g (piece_system params a) (piece_system params b) equal_columns p.1 q.1 point in (
        (λ h.
            let parts = (points (point_long params v e common h ∙ sym (free_of_piece params a))).0 h.holds in (
              record { numbers = h.numbers; space = h.space; holds = parts.0 },
              record { numbers = h.numbers; space = sym same ∙ h.space; holds = parts.1 },
            )),
        (λ hs. record {
          numbers = hs.0.numbers;
          space = hs.0.space;
          holds = (points (point_long params v e a hs.0 ∙ sym (free_of_piece params a))).1 (hs.0.holds, hs.1.holds);
        }),
      )

  common_small : (limit : ℕ) → IsPieceUpTo limit a → IsPieceUpTo limit b → IsPieceUpTo limit common
  common_small limit s t =
      let u = both_up_to limit (piece_system params a) (piece_system params b) (record { rows = s.rows; definitions = s.definitions })
      (record { rows = t.rows; definitions = t.definitions }) in
      record { rows = u.rows; definitions = u.definitions }

module _ (g : Gauge) (params : List Name) where
  module _ (v : Valuation) (e : Element) where
    abbrev H : KeptPiece → Type 0
    H = HasElement params v e

    -- what there is has the element
    abbrev OptionHas : Option KeptPiece → Type 0
    OptionHas None = ⊥
    OptionHas (Some piece) = H piece

    common_has : (a b : KeptPiece) → a.space ≡ b.space → IsFit g params a → IsFit g params b
        → OptionHas (common_piece params a b) ↔ (H a × H b)
    unfolding common_piece
    common_has a b same p q =
        let both = common_holds g params a b same p q v e in
        let within = common_within g params a b same p q in
        by (normal_of (common g params a b same p q)) refl both within
      where
        by : (o : Option KeptPiece) → normal_of (common g params a b same p q) ≡ o
            → H (common g params a b same p q) ↔ (H a × H b)
            → IsSystemWithin g (piece_system params (common g params a b same p q)) → OptionHas o ↔ (H a × H b)
        by None is both within = (
          (λ n. absurd n),
          (λ hs. void_has params v e (common g params a b same p q) (none_void g params (common g params a b same p q) within is)
              (both.1 hs)),
        )
        by (Some new) is both within =
            let own = normal_has g params (common g params a b same p q) within new is v e in
            ((λ h. both.0 (own.0 h)), (λ hs. own.1 (both.1 hs)))

    met_has : (a b : KeptPiece) → IsFit g params a → IsFit g params b → OptionHas (met_piece params a b) ↔ (H a × H b)
    met_has a b p q = elim (cases_Bool (is_same_space a.space b.space)) [
      | inl t ↦ rw (cond-true (is_same_space a.space b.space) (common_piece params a b) None t)
          (common_has a b (space_is a.space b.space t) p q)
      | inr f ↦ rw (cond-false (is_same_space a.space b.space) (common_piece params a b) None f) (
        (λ n. absurd n),
        (λ hs. let same : a.space ≡ b.space = hs.0.space ∙ sym hs.1.space in false≢true (sym f ∙ ap (is_same_space a.space) (sym same) ∙
            space_itself a.space)),
      )
    ]

    cons_has : (o : Option KeptPiece) (rest : List KeptPiece) → Any H (cons_option o rest) ↔ (OptionHas o ⊎ Any H rest)
    cons_has None rest = ((λ a. inr a), (λ s. elim s [ inl n ↦ absurd n | inr a ↦ a ]))
    cons_has (Some piece) rest = (
      (λ a. Any-cases H piece rest a),
      (λ s. elim s [ inl h ↦ Any-first H piece rest h | inr a ↦ Any-later H piece rest a ]),
    )

    with_has : (a : KeptPiece) (others : List KeptPiece) → IsFit g params a → All (IsFit g params) others
        → Any H (met_with params others a) ↔ (H a × Any H others)
    with_has a [] p q = ((λ n. absurd (Any-none H n)), (λ hs. hs.1))
    with_has a (b ∷ others) p q =
        let here = met_has a b p (All-head (IsFit g params) b others q) in
        let rest = with_has a others p (All-tail (IsFit g params) b others q) in
        let step = cons_has (met_piece params a b) (met_with params others a) in (
          (λ h. elim (step.0 h) [
            | inl has ↦ let both = here.0 has in (both.0, Any-first H b others both.1)
            | inr later ↦ let both = rest.0 later in (both.0, Any-later H b others both.1)
          ]),
          (λ hs. step.1 (elim (Any-cases H b others hs.1) [ inl has ↦ inl (here.1 (hs.0, has)) | inr later ↦ inr (rest.1 (hs.0, later)) ])),
        )

    pub pieces_have : (pieces others : List KeptPiece) → All (IsFit g params) pieces → All (IsFit g params) others
        → Any H (met_pieces params pieces others) ↔ (Any H pieces × Any H others)
    pieces_have [] others p q = ((λ n. absurd (Any-none H n)), (λ hs. hs.0))
    pieces_have (a ∷ pieces) others p q =
        let here = with_has a others (All-head (IsFit g params) a pieces p) q in
        let rest = pieces_have pieces others (All-tail (IsFit g params) a pieces p) q in (
          (λ h. elim (Any-parts H (met_with params others a) (met_pieces params pieces others) h) [
            | inl now ↦ let both = here.0 now in (Any-first H a pieces both.0, both.1)
            | inr later ↦ let both = rest.0 later in (Any-later H a pieces both.0, both.1)
          ]),
          (λ hs. elim (Any-cases H a pieces hs.0) [
            | inl has ↦ Any-left H (met_with params others a) (met_pieces params pieces others) (here.1 (has, hs.1))
            | inr later ↦ Any-right H (met_with params others a) (met_pieces params pieces others) (rest.1 (later, hs.1))
          ]),
        )

  -- ---- what all pieces have: if what two have in common has it where they do, so have all that meet
  module _ (P : KeptPiece → Type 0)
      (one : (a b : KeptPiece) → a.space ≡ b.space → IsFit g params a → IsFit g params b → P a → P b
      → IfSome (common_piece params a b) P) where
    met_all : (a b : KeptPiece) → IsFit g params a → IsFit g params b → P a → P b → IfSome (met_piece params a b) P
    met_all a b p q s t = elim (cases_Bool (is_same_space a.space b.space)) [
      | inl same ↦ rw (cond-true (is_same_space a.space b.space) (common_piece params a b) None same)
          (one a b (space_is a.space b.space same) p q s t)
      | inr differ ↦ rw (cond-false (is_same_space a.space b.space) (common_piece params a b) None differ) tt
    ]

    with_all : (a : KeptPiece) (others : List KeptPiece) → IsFit g params a → All (IsFit g params) others → P a → All P others
        → All P (met_with params others a)
    with_all a [] p q s t = All-nil P
    with_all a (b ∷ others) p q s t =
        by (met_piece params a b) (met_all a b p (All-head (IsFit g params) b others q) s (All-head P b others t))
        (with_all a others p (All-tail (IsFit g params) b others q) s (All-tail P b others t))
      where
        by : (o : Option KeptPiece) → IfSome o P → All P (met_with params others a) → All P (cons_option o (met_with params others a))
        by None h rest = rest
        by (Some piece) h rest = All-cons P piece (met_with params others a) h rest

    pieces_all : (pieces others : List KeptPiece) → All (IsFit g params) pieces → All (IsFit g params) others → All P pieces → All P others
        → All P (met_pieces params pieces others)
    pieces_all [] others p q s t = All-nil P
    pieces_all (a ∷ pieces) others p q s t =
        All-append P (met_with params others a) (met_pieces params pieces others)
        (with_all a others (All-head (IsFit g params) a pieces p) q (All-head P a pieces s) t)
        (pieces_all pieces others (All-tail (IsFit g params) a pieces p) q (All-tail P a pieces s) t)

  -- numbers
  common_up_to : (limit : ℕ) (a b : KeptPiece) → a.space ≡ b.space → IsFit g params a → IsFit g params b → IsPieceUpTo limit a
      → IsPieceUpTo limit b → IfSome (common_piece params a b) (IsPieceUpTo limit)
  unfolding common_piece
  common_up_to limit a b same p q s t = by (normal_of (common g params a b same p q)) refl
    where
      by : (o : Option KeptPiece) → normal_of (common g params a b same p q) ≡ o → IfSome o (IsPieceUpTo limit)
      by None is = tt
      by (Some new) is =
          normal_up_to g params (common g params a b same p q) (common_within g params a b same p q) new is limit
          (common_small g params a b same p q limit s t)

  pub pieces_small : (limit : ℕ) (pieces others : List KeptPiece) → All (IsFit g params) pieces → All (IsFit g params) others
      → All (IsPieceUpTo limit) pieces → All (IsPieceUpTo limit) others → All (IsPieceUpTo limit) (met_pieces params pieces others)
  pieces_small limit = pieces_all (IsPieceUpTo limit) (common_up_to limit)

  -- no definitions
  common_plain : (a b : KeptPiece) → a.space ≡ b.space → IsFit g params a → IsFit g params b → a.definitions ≡ [] → b.definitions ≡ []
      → IfSome (common_piece params a b) (λ piece. piece.definitions ≡ [])
  unfolding common_piece
  common_plain a b same p q s t = by (normal_rows (both_systems (piece_system params a) (piece_system params b)).rows)
    where
      plain : (both_systems (piece_system params a) (piece_system params b)).definitions ≡ []
      plain = both_case (λ u. u.definitions ≡ []) (piece_system params a) (piece_system params b) (λ e. s) (λ n. absurd (n (s ∙ sym t)))

      by : (o : Option (List Row)) → IfSome (option_map (with_rows (common g params a b same p q)) o) (λ piece. piece.definitions ≡ [])
      by None = tt
      by (Some rows) = plain

  pub pieces_plain : (pieces others : List KeptPiece) → All (IsFit g params) pieces → All (IsFit g params) others
      → All (λ piece. piece.definitions ≡ []) pieces → All (λ piece. piece.definitions ≡ []) others
      → All (λ piece. piece.definitions ≡ []) (met_pieces params pieces others)
  pieces_plain = pieces_all (λ piece. piece.definitions ≡ []) common_plain

-- ---- one more of the others
module _ (params : List Name) (others : List KeptPiece) (other : KeptPiece) (i : ℕ) (low : i < length others)
    (at : get_or others i other ≡ other) where
  one_more : take (i + 1) others ≡ take i others ++ other ∷ []
  one_more = take_more others i other low ∙ ap (λ x. take i others ++ x ∷ []) at

  pub with_more : (piece : KeptPiece)
      → met_with params (take (i + 1) others) piece ≡ met_with params (take i others) piece ++ option_to_list (met_piece params piece other)
  with_more piece = filter_more (met_piece params piece) others i other low at

  pub partners_more : (piece : KeptPiece) → partners (take (i + 1) others) piece ≡ partners (take i others) piece + pair_count piece other
  partners_more piece = ap (λ l. partners l piece) one_more ∙ sum_by_push (pair_count piece) (take i others) other

  pub pieces_more : (all : List KeptPiece) → met_pieces params (take (i + 1) others) all ≡ met_pieces params (take i others) all
      ++ met_with params all other
  pieces_more all = ap (λ l. met_pieces params l all) one_more ∙ sym (flat_map_more (met_with params all) [] (take i others) other)

  pub pairs_more : (all : List KeptPiece) → sum_by (partners all) (take (i + 1) others) ≡ sum_by (partners all) (take i others) + partners
      all other
  pairs_more all = ap (sum_by (partners all)) one_more ∙ sum_by_push (partners all) (take i others) other
