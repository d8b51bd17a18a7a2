-- The claim that is written.
use Rattle.std.proofs.Common.{◌≡◌, ◌↔◌, ◌∙◌, ◌∷◌, ◌++◌, ◌<◌, ◌≤◌, ◌+◌, ℕ, Bool, true, false, List, [], All, Any, Option, Some, None}
use Rattle.std.proofs.Common.{IsNone, codes, cond, filter, get_or, length, map, refl, sym, ap, ap₂, subst, take, if◌then◌else◌}
use Rattle.std.proofs.lemmas.Bool.{true≢false}
use Rattle.std.proofs.lemmas.List.{append-nil, append_assoc, take_all, take_more}
use Rattle.std.proofs.lemmas.List.Concat.{flat_map-append}
use Rattle.std.proofs.lemmas.List.Elements.{All-map, All-weaker}
use Rattle.std.proofs.lemmas.List.Folds.{flat_map-map, map_fixed}
use Rattle.std.proofs.lemmas.Simd.{map-map}
use Rattle.std.specs.List.{cons_option, flat_map}
use Rattle.isl_index.specs.Same.{is_same_space}
use Rattle.isl_meter.specs.Gauge.{Gauge}
use Rattle.isl_piece.specs.Piece.{PieceView}
use Rattle.isl_piece.specs.declared.row.Row.{Row}
use Rattle.isl_print.proofs.TextLaws.{All-map_back}
use Rattle.isl_print.specs.OrderedValue.{ordered_piece}
use Rattle.isl_print.specs.PieceOrder.{piece_before}
use Rattle.isl_print.specs.Printed.{printed}
use Rattle.isl_refute.specs.CertText.{cert_text}
use Rattle.isl_refute.specs.Refutes.{refutes, rows_of}
use Rattle.isl_refute.specs.declared.tree.Cert.{Cert}
use Rattle.isl_row_text.specs.Ordered.{in_order}
use Rattle.isl_row_text.specs.RowOrder.{row_before}
use Rattle.isl_space.specs.Name.{Name}
use Rattle.isl_space.specs.Names.{IsParameterList}
use Rattle.isl_space.specs.SpaceForm.{SpaceForm}
use Rattle.isl_union.specs.Compare.{AreEqual, IsSubset}
use Rattle.isl_union.specs.KeptValue.{KeptPiece, KeptValue, HasNoDefinitions, IsKeptPiece, IsKeptValue, columns_of}
use Rattle.isl_union.specs.Minus.{systems_in, AreCovered}
use Rattle.isl_union.specs.Piece.{kept_piece, IsPieceOf}
use Rattle.isl_claim.specs.Claim.{claim_text, lesser_of, outs_in, part_text, Claim, IsClaimOf, IsProved, Part}
use Rattle.isl_claim.specs.Sides.{part_of, value_of, IsProvedBy, IsSideOf}

-- ---- rows in printed order
in_order_piece : (piece : PieceView) → in_order row_before piece.system.rows ≡ piece.system.rows
    → ordered_piece (kept_piece piece) ≡ kept_piece piece
in_order_piece piece is =
    let made : List Row → KeptPiece = λ rows. record { space = piece.space; definitions = piece.system.definitions; rows = rows } in
    ap made is

rows_found : (space : SpaceForm) (others : List PieceView)
    → map (λ piece. piece.rows) (filter (λ piece. is_same_space space piece.space) (map kept_piece others))
    ≡ map rows_of (systems_in space others)
rows_found space [] = refl
rows_found space (p ∷ others) = by (is_same_space space p.space) (rows_found space others)
  where
    rest : List KeptPiece
    rest = filter (λ piece. is_same_space space piece.space) (map kept_piece others)

    by : (b : Bool) → map (λ piece. piece.rows) rest ≡ map rows_of (systems_in space others)
        → map (λ piece. piece.rows) (cond b (kept_piece p ∷ rest) rest)
        ≡ map rows_of (cons_option (if b then Some p.system else None) (systems_in space others))
    by true same = ap (λ l. p.system.rows ∷ l) same
    by false same = same

module _ (g : Gauge) (params : List Name) (value : KeptValue) (others : List PieceView) (side : IsSideOf g params value others) where
  in_order_all : All (λ piece. ordered_piece piece ≡ piece) (map kept_piece others)
  in_order_all =
      All-map (λ piece. ordered_piece piece ≡ piece) kept_piece others
      (All-weaker (λ (piece : PieceView). in_order row_before piece.system.rows ≡ piece.system.rows)
      (λ (piece : PieceView). ordered_piece (kept_piece piece) ≡ kept_piece piece) in_order_piece others side.rows)

  outs_are : (space : SpaceForm) → outs_in (value_of params others) space ≡ map rows_of (systems_in space others)
  outs_are space =
      ap (λ (ps : List KeptPiece). map (λ piece. piece.rows) (filter (λ piece. is_same_space space piece.space) ps))
      (ap (map ordered_piece) side.order ∙ map_fixed ordered_piece (map kept_piece others) in_order_all)
      ∙ rows_found space others

  proved_part : (piece : PieceView) (cert : Cert) → in_order row_before piece.system.rows ≡ piece.system.rows
      → IsProvedBy params others piece cert → IsProved (value_of params others) (part_of piece cert)
  proved_part piece cert order proved =
      ap₂ (λ (outs : List (List Row)) (rows : List Row). refutes outs (columns_of params piece.space) rows cert)
      (outs_are piece.space) order ∙ proved

  side_kept : IsParameterList params → IsKeptValue (value_of params others)
  side_kept names = record {
    params = names;
    pieces = All-map (IsKeptPiece params) kept_piece others
        (All-weaker (IsPieceOf params) (λ piece. IsKeptPiece params (kept_piece piece)) (λ piece sound. sound.kept) others side.sound);
  }

  side_plain : HasNoDefinitions (value_of params others)
  side_plain = All-map (λ (piece : KeptPiece). piece.definitions ≡ []) kept_piece others side.plain

-- ---- the claim
module _ {X : Type 0} (view : X → PieceView) (cert : X → Cert) (g h : Gauge) (params : List Name) (names : IsParameterList params)
    (lesser greater : KeptValue) (pieces others : List PieceView) (own : IsSideOf h params lesser pieces)
    (side : IsSideOf g params greater others) (parts : List X) (are : map view parts ≡ pieces)
    (proved : All (λ x. IsProvedBy params others (view x) (cert x)) parts) where
  abbrev part : X → Part
  part x = part_of (view x) (cert x)

  abbrev pub claim : Claim
  claim = record { outside = value_of params others; parts = map part parts }

  inside_pieces : map (λ (p : Part). p.piece) (map part parts) ≡ map kept_piece pieces
  inside_pieces = map-map (λ (p : Part). p.piece) part parts ∙ sym (map-map kept_piece view parts) ∙ ap (map kept_piece) are

  inside_is : lesser_of claim ≡ value_of params pieces
  inside_is = ap (λ (ps : List KeptPiece). let v : KeptValue = record { params = params; pieces = ps } in v) inside_pieces

  parts_ordered : All (λ x. in_order row_before (view x).system.rows ≡ (view x).system.rows) parts
  parts_ordered = All-map_back view (λ piece. in_order row_before piece.system.rows ≡ piece.system.rows) parts pieces are own.rows

  parts_proved : All (IsProved (value_of params others)) (map part parts)
  parts_proved = All-map (IsProved (value_of params others)) part parts (λ k d l.
      proved_part g params greater others side (view (get_or parts k d)) (cert (get_or parts k d)) (parts_ordered k d l) (proved k d l))

  pub claim_is : IsClaimOf params lesser greater claim
  claim_is = record {
    params = refl;
    outside = ((λ v e has. (side.elements v e).0 has), (λ v e has. (side.elements v e).1 has));
    inside = subst (λ (v : KeptValue). AreEqual v lesser) (sym inside_is)
        ((λ v e has. (own.elements v e).0 has), (λ v e has. (own.elements v e).1 has));
    kept = side_kept g params greater others side names;
    parts_kept = subst IsKeptValue (sym inside_is) (side_kept h params lesser pieces own names);
    plain = side_plain g params greater others side;
    parts_plain = subst (λ (v : KeptValue). HasNoDefinitions v) (sym inside_is) (side_plain h params lesser pieces own);
    proved = parts_proved;
  }

  pub text_is : (lines outside : List ℕ) → outside ≡ [] ++ codes "outside " ++ printed (value_of params others) ++ 10 ∷ []
      → lines ≡ outside ++ flat_map (λ x. part_text params (part x)) parts → lines ≡ claim_text claim
  text_is lines outside first rest =
      let rest_text = flat_map (λ x. part_text params (part x)) parts in
      let shown = printed (value_of params others) in
      rest ∙ ap (λ o. o ++ rest_text) first
      ∙ append_assoc (codes "outside ") (shown ++ 10 ∷ []) rest_text
      ∙ ap (λ t. codes "outside " ++ t) (append_assoc shown (10 ∷ []) rest_text)
      ∙ ap (λ t. codes "outside " ++ shown ++ 10 ∷ t) (sym (flat_map-map (part_text params) part parts))

-- ---- values
pub subset_is : (g h : Gauge) (params : List Name) (lesser greater : KeptValue) (pieces others : List PieceView)
    → IsSideOf h params lesser pieces → IsSideOf g params greater others
    → AreCovered params (map kept_piece pieces) (map kept_piece others) ↔ IsSubset lesser greater
subset_is g h params lesser greater pieces others own side = (
  (λ covered v e has. (side.elements v e).0 (covered.elements v e ((own.elements v e).1 has))),
  (λ subset. record { elements = λ v e has. (side.elements v e).1 (subset v e ((own.elements v e).0 has)) }),
)

pub none_some : {A B : Type 0} (P Q : Type 0) (o : Option A) (x : A) (y : B) → o ≡ Some x → (P ↔ Q) → (IsNone o ↔ (¬ P))
    → (IsNone (Some y) ↔ (¬ Q))
none_some {A} P Q o x y is both told = (
  (λ none. absurd (true≢false none)),
  (λ left. absurd (true≢false (subst (λ (r : Option A). IsNone r) is (told.1 (λ p. left (both.0 p)))))),
)

pub none_none : {A : Type 0} (P Q : Type 0) (o : Option A) → o ≡ None → (P ↔ Q) → (IsNone o ↔ (¬ P)) → ¬ Q
none_none {A} P Q o is both told = λ q. told.0 (subst (λ (r : Option A). IsNone r) (sym is) refl) (both.1 q)

-- ---- one line after another
-- a list that a copy was pushed to
pub one_piece : (empty pushed : List PieceView) (copy piece : PieceView) → empty ≡ [] → pushed ≡ empty ++ copy ∷ [] → copy ≡ piece
    → pushed ≡ piece ∷ []
one_piece empty pushed copy piece none made same =
    made ∙ ap (λ (ps : List PieceView). ps ++ copy ∷ []) none ∙ ap (λ (p : PieceView). p ∷ []) same

module _ (params names : List Name) (pieces pushed : List PieceView) (named : names ≡ params) (same : pushed ≡ pieces) where
  pub written_sound : All (IsPieceOf params) pieces → All (IsPieceOf names) pushed
  written_sound sound =
      subst (λ (ns : List Name). All (IsPieceOf ns) pushed) (sym named) (subst (All (IsPieceOf params)) (sym same) sound)

  pub written_value : (value : KeptValue) → value ≡ value_of names pushed → value ≡ value_of params pieces
  written_value value is = is ∙ ap₂ value_of named same

pub written_plain : (params : List Name) (pieces : List PieceView) (value : KeptValue) → value ≡ value_of params pieces
    → All (λ (piece : PieceView). piece.system.definitions ≡ []) pieces → HasNoDefinitions value
written_plain params pieces value is plain =
    subst (λ (v : KeptValue). HasNoDefinitions v) (sym is) (All-map (λ (piece : KeptPiece). piece.definitions ≡ []) kept_piece pieces plain)

newline : codes "\n" ≡ 10 ∷ []
newline = refl

three_parts : (o f p n : List ℕ) → ((o ++ f) ++ p) ++ n ≡ o ++ (f ++ (p ++ n))
three_parts o f p n = append_assoc (o ++ f) p n ∙ append_assoc o f (p ++ n)

pub outside_written : (params : List Name) (others : List PieceView) (value : KeptValue) (old a b new : List ℕ)
    → value ≡ value_of params others → a ≡ old ++ codes "outside " → b ≡ a ++ printed value → new ≡ b ++ codes "\n"
    → new ≡ old ++ codes "outside " ++ printed (value_of params others) ++ 10 ∷ []
outside_written params others value old a b new is first second third =
    third ∙ ap₂ (λ (t n : List ℕ). t ++ n) (second ∙ ap (λ t. t ++ printed value) first) newline
    ∙ ap (λ (v : KeptValue). old ++ codes "outside " ++ printed v ++ 10 ∷ []) is

pub part_written : (params : List Name) (piece : PieceView) (cert : Cert) (value : KeptValue) (old a b d e new : List ℕ)
    → value ≡ value_of params (piece ∷ []) → a ≡ old ++ codes "from " → b ≡ a ++ printed value → d ≡ b ++ codes "\n"
    → e ≡ d ++ cert_text cert → new ≡ e ++ codes "\n" → new ≡ old ++ part_text params (part_of piece cert)
part_written params piece cert value old a b d e new is first second third fourth fifth =
    let n : List ℕ = 10 ∷ [] in
    let c = cert_text cert in
    let lines = third ∙ ap₂ (λ (t l : List ℕ). t ++ l) (second ∙ ap (λ t. t ++ printed value) first) newline
    ∙ three_parts old (codes "from ") (printed value) n in
    fifth ∙ ap₂ (λ (t l : List ℕ). t ++ l) (fourth ∙ ap (λ t. t ++ c) lines) newline
    ∙ append_assoc (old ++ (codes "from " ++ (printed value ++ n))) c n
    ∙ append_assoc old (codes "from " ++ (printed value ++ n)) (c ++ n)
    ∙ ap (λ t. old ++ t) (append_assoc (codes "from ") (printed value ++ n) (c ++ n))
    ∙ ap (λ t. old ++ (codes "from " ++ t)) (append_assoc (printed value) n (c ++ n))
    ∙ ap (λ (v : KeptValue). old ++ (codes "from " ++ (printed v ++ 10 ∷ (c ++ 10 ∷ [])))) is

pub parts_more : {X : Type 0} (text : X → List ℕ) (parts : List X) (part : X) (i : ℕ) (old out new : List ℕ) → i < length parts
    → part ≡ get_or parts i part → out ≡ old ++ flat_map text (take i parts) → new ≡ out ++ text part
    → new ≡ old ++ flat_map text (take (i + 1) parts)
parts_more {X} text parts part i old out new low at so_far made =
    let before = flat_map text (take i parts) in
    let one : text (get_or parts i part) ++ [] ≡ text part = append-nil (text (get_or parts i part)) ∙ ap text (sym at) in
    let all : flat_map text (take (i + 1) parts) ≡ before ++ text part =
    ap (λ (l : List X). flat_map text l) (take_more parts i part low) ∙ flat_map-append text (take i parts) (get_or parts i part ∷ [])
    ∙ ap (λ t. before ++ t) one in
    made ∙ ap (λ t. t ++ text part) so_far ∙ append_assoc old before (text part) ∙ ap (λ t. old ++ t) (sym all)

pub parts_all : {X : Type 0} (text : X → List ℕ) (parts : List X) (i : ℕ) (old out : List ℕ) → length parts ≤ i
    → out ≡ old ++ flat_map text (take i parts) → out ≡ old ++ flat_map text parts
parts_all {X} text parts i old out over so_far = so_far ∙ ap (λ (l : List X). old ++ flat_map text l) (take_all i parts over)
