-- Pieces put together, one after another.
use Rattle.std.proofs.Common.{◌≡◌, refl, sym, ap, ◌∙◌, arith, subst, ℕ, suc, ◌+◌, ◌-◌, ◌^◌, ◌<◌, ◌≤◌, List, [], ◌∷◌, ◌++◌, All}
use Rattle.std.proofs.Common.{AllPairs}
use Rattle.std.proofs.Common.{length, get_or, map, take, drop}
use Rattle.std.specs.List.{remove}
use Rattle.std.proofs.lemmas.List.{append_assoc, map-append, take_all, take_more, get_or-map, get_or-drop, length-map, length-drop}
use Rattle.std.proofs.lemmas.List.{take-append-drop}
use Rattle.std.proofs.lemmas.List.Elements.{All-map, All-nil, All-append, All-push}
use Rattle.std.proofs.lemmas.List.Quantifiers.{all_pairs_push, all_pairs_remove}
use Rattle.isl_math.proofs.ListLaws.{All-parts}
use Rattle.isl_meter.specs.Gauge.{Gauge, IsCharged}
use Rattle.isl_space.specs.Name.{Name}
use Rattle.isl_space.specs.Names.{IsParameterList}
use Rattle.isl_space.specs.Valuation.{Valuation}
use Rattle.isl_piece.specs.Piece.{PieceView}
use Rattle.isl_piece.specs.System.{IsSystemWithin}
use Rattle.isl_union.specs.KeptValue.{KeptPiece, KeptValue, HasElement, HasNoDefinitions}
use Rattle.isl_union.specs.Numbers.{IsPieceUpTo, IsWithinLimit}
use Rattle.isl_union.specs.Piece.{kept_piece, IsPieceOf}
use Rattle.isl_union.proofs.MeetSteps.{charged_bits}
use Rattle.isl_union.proofs.PieceLaws.{IsKeptValue-from_pieces}
use Rattle.isl_union.proofs.PiecesLaws.{small_before}
use Rattle.isl_union.proofs.SystemLaws.{piece_up_to, view_is, view_within}
use Rattle.isl_coalesce.specs.Coalesced.{IsStep, Leads}
use Rattle.isl_coalesce.specs.Found.{AreJoined, IsGathered, IsJointPiece, IsPlainPiece}
use Rattle.isl_coalesce.specs.Joint.{AreUnjoined, IsJointAt}
use Rattle.isl_coalesce.proofs.PieceLaws.{plain_earlier}
use Rattle.isl_coalesce.proofs.StepLaws.{at_place, leads_before, leads_fewer, leads_have, leads_same, leads_step, leads_trans, map-remove}

-- ---- a piece that is put to others
-- the pieces and the one that is not yet among them are reached from the first ones, and no two of those are to be put together
pub record AreUnderWay (g : Gauge) (P : Valuation → Type 0) (params : List Name) (first pieces : List PieceView) (last : PieceView)
    : Type 0 where
  pub fit : All (IsPlainPiece g params) pieces
  pub last_fits : IsPlainPiece g params last
  pub leads : Leads (IsJointAt P params) (map kept_piece first) (map kept_piece (pieces ++ last ∷ []))
  pub ended : AllPairs (AreUnjoined (IsJointAt P params)) (map kept_piece pieces)

module _ (g : Gauge) (P : Valuation → Type 0) (params : List Name) where
  abbrev J : KeptPiece → KeptPiece → KeptPiece → Type 0
  J = IsJointAt P params

  pub put_first : (pieces : List PieceView) (piece : PieceView) → All (IsPlainPiece g params) pieces → IsPlainPiece g params piece
      → AllPairs (AreUnjoined J) (map kept_piece pieces) → AreUnderWay g P params (pieces ++ piece ∷ []) pieces piece
  put_first pieces piece fit fits ended = record {
    fit = fit;
    last_fits = fits;
    leads = leads_same J (map kept_piece (pieces ++ piece ∷ [])) (map kept_piece (pieces ++ piece ∷ [])) refl;
    ended = ended;
  }

  -- the joint piece takes the place of the two
  step_of : (pieces : List PieceView) (i : ℕ) (last joint : PieceView) → i < length pieces
      → IsJointPiece g P params (get_or pieces i last) last joint
      → IsStep J (map kept_piece (pieces ++ last ∷ [])) (map kept_piece (remove pieces i ++ joint ∷ []))
  step_of pieces i last joint low joins =
      let front = take i pieces in
      let rest = drop (suc i) pieces in
      let one = get_or pieces i last in
      record {
        before = map kept_piece front;
        first = kept_piece one;
        between = map kept_piece rest;
        second = kept_piece last;
        behind = [];
        joint = kept_piece joint;
        joins = joins.joins;
        from = map-append kept_piece pieces (last ∷ [])
            ∙ ap (λ l. map kept_piece l ++ kept_piece last ∷ []) (at_place pieces i last low)
            ∙ ap (λ l. l ++ kept_piece last ∷ []) (map-append kept_piece front (one ∷ rest))
            ∙ append_assoc (map kept_piece front) (kept_piece one ∷ map kept_piece rest) (kept_piece last ∷ []);
        to = map-append kept_piece (front ++ rest) (joint ∷ [])
            ∙ ap (λ l. l ++ kept_piece joint ∷ []) (map-append kept_piece front rest)
            ∙ append_assoc (map kept_piece front) (map kept_piece rest) (kept_piece joint ∷ []);
      }

  all_remove : (pieces : List PieceView) (i : ℕ) → i < length pieces → All (IsPlainPiece g params) pieces
      → All (IsPlainPiece g params) (remove pieces i)
  all_remove pieces i low fit =
      let P : PieceView → Type 0 = IsPlainPiece g params in
      let parts = All-parts P (take i pieces) (drop i pieces) (subst (All P) (sym (take-append-drop i pieces)) fit) in
      All-append P (take i pieces) (drop (suc i) pieces) parts.0 (λ k d l.
      subst P (sym (get_or-drop (suc i) pieces k d)) (fit (suc i + k) d (let n = length-drop (suc i) pieces in omega (arith, l, n))))

  pub put_step : (first pieces : List PieceView) (i : ℕ) (last joint : PieceView) → i < length pieces
      → IsJointPiece g P params (get_or pieces i last) last joint → AreUnderWay g P params first pieces last
      → AreUnderWay g P params first (remove pieces i) joint
  put_step first pieces i last joint low joins so_far = record {
    fit = all_remove pieces i low so_far.fit;
    last_fits = joins.fits;
    leads = leads_trans J (map kept_piece first) (map kept_piece (pieces ++ last ∷ []))
        (map kept_piece (remove pieces i ++ joint ∷ [])) so_far.leads
        (leads_step J (map kept_piece (pieces ++ last ∷ [])) (map kept_piece (remove pieces i ++ joint ∷ []))
        (step_of pieces i last joint low joins));
    ended = subst (AllPairs (AreUnjoined J)) (sym (map-remove kept_piece pieces i))
        (all_pairs_remove (AreUnjoined J) (map kept_piece pieces) i (let n = length-map pieces kept_piece in omega (arith, low, n))
        so_far.ended);
  }

  pub put_last : (first pieces new : List PieceView) (last : PieceView) → new ≡ pieces ++ last ∷ []
      → All (λ other. AreUnjoined J other (kept_piece last)) (map kept_piece pieces) → AreUnderWay g P params first pieces last
      → AreJoined g P params first new
  put_last first pieces new last is apart so_far = rw is (record {
    fit = All-push (IsPlainPiece g params) pieces last so_far.fit so_far.last_fits;
    leads = so_far.leads;
    ended = rw (map-append kept_piece pieces (last ∷ []))
        (all_pairs_push (AreUnjoined J) (map kept_piece pieces) (kept_piece last) so_far.ended apart);
  })

-- ---- one piece after another
pub joined_first : (g : Gauge) (P : Valuation → Type 0) (params : List Name) → AreJoined g P params [] []
joined_first g P params = record {
  fit = All-nil (IsPlainPiece g params);
  leads = leads_same (IsJointAt P params) [] [] refl;
  ended = λ i j d l m. absurd (omega (arith, m));
}

pub joined_more : (g h : Gauge) (P : Valuation → Type 0) (params : List Name) (pieces : List PieceView) (i : ℕ) (piece : PieceView)
    (kept new : List PieceView)
    → IsCharged g h → i < length pieces → piece ≡ get_or pieces i piece → AreJoined g P params (take i pieces) kept
    → AreJoined h P params (kept ++ piece ∷ []) new → AreJoined g P params (take (i + 1) pieces) new
joined_more g h P params pieces i piece kept new charged low at so_far more =
    let next : take (i + 1) pieces ≡ take i pieces ++ piece ∷ [] =
    take_more pieces i piece low ∙ ap (λ (x : PieceView). take i pieces ++ x ∷ []) (sym at) in
    let front = map kept_piece (take i pieces) in
    let behind = kept_piece piece ∷ [] in
    record {
      fit = λ n d l. plain_earlier g h params (get_or new n d) charged (more.fit n d l);
      leads = rw (next, map-append kept_piece (take i pieces) (piece ∷ []))
          (leads_trans (IsJointAt P params) (front ++ behind) (map kept_piece kept ++ behind) (map kept_piece new)
          (leads_before (IsJointAt P params) behind front (map kept_piece kept) so_far.leads)
          (subst (λ l. Leads (IsJointAt P params) l (map kept_piece new)) (map-append kept_piece kept (piece ∷ [])) more.leads));
      ended = more.ended;
    }

-- ---- values
-- the pieces of a value that defines no column, within the limit
pub plain_pieces : (g : Gauge) (a : KeptValue) (pieces : List PieceView) → map kept_piece pieces ≡ a.pieces → HasNoDefinitions a
    → IsWithinLimit g a → All (IsPieceOf a.params) pieces → All (IsPlainPiece g a.params) pieces
plain_pieces g a pieces is none within sound k d l =
    let p = get_or pieces k d in
    let low : k < length a.pieces = let n = length-map pieces kept_piece in let m = ap (λ xs. length xs) is in omega (arith, l, n, m) in
    let at : get_or a.pieces k (kept_piece d) ≡ kept_piece p =
    ap (λ xs. get_or xs k (kept_piece d)) (sym is) ∙ get_or-map kept_piece pieces k d (kept_piece d) l in
    record {
      sound = sound k d l;
      plain = record {
        definitions = subst (λ (q : KeptPiece). q.definitions ≡ []) at (none k (kept_piece d) low);
        within = view_within g a.params p (sound k d l) (subst (IsPieceUpTo (2 ^ g.bits - 1)) at (within k (kept_piece d) low));
      };
    }

-- all of them were put together
pub joined_all : (g : Gauge) (P : Valuation → Type 0) (params : List Name) (pieces new : List PieceView) (i : ℕ) → length pieces ≤ i
    → AreJoined g P params (take i pieces) new → AreJoined g P params pieces new
joined_all g P params pieces new i end joined = subst (λ l. AreJoined g P params l new) (take_all i pieces end) joined

-- the value of these pieces
module _ (g : Gauge) (P : Valuation → Type 0) (a : KeptValue) (pieces new : List PieceView) (is : map kept_piece pieces ≡ a.pieces)
    (names : IsParameterList a.params) (joined : AreJoined g P a.params pieces new) where
  abbrev made : KeptValue
  made = record { params = a.params; pieces = map kept_piece new }

  leads : Leads (IsJointAt P a.params) a.pieces (map kept_piece new)
  leads = subst (λ l. Leads (IsJointAt P a.params) l (map kept_piece new)) is joined.leads

  small : IsWithinLimit g made
  small = All-map (IsPieceUpTo (2 ^ g.bits - 1)) kept_piece new (λ k d l.
      let p = get_or new k d in
      let fits = joined.fit k d l in
      piece_up_to g a.params (kept_piece p)
      (subst (λ s. IsSystemWithin g s) (view_is a.params p fits.sound) fits.plain.within))

  pub gathered : IsGathered g P a made
  gathered = record {
    kept = IsKeptValue-from_pieces a.params new names (λ k d l. (joined.fit k d l).sound);
    coalesced = record { params = refl; leads = leads; ended = joined.ended };
    elements = λ v e it.
        leads_have (IsJointAt P a.params) (HasElement a.params v e) (λ p q joint h. h.elements v e it) a.pieces (map kept_piece new) leads;
    definitions = All-map (λ (q : KeptPiece). q.definitions ≡ []) kept_piece new (λ k d l. (joined.fit k d l).plain.definitions);
    numbers = small;
    few = leads_fewer (IsJointAt P a.params) a.pieces (map kept_piece new) leads;
  }

-- the value of another word for its names, under a meter after others
pub gathered_is : (g : Gauge) (P : Valuation → Type 0) (a value : KeptValue) (params copied : List Name) (pieces new : List PieceView)
    → params ≡ a.params → copied ≡ params → value ≡ record { params = copied; pieces = map kept_piece new }
    → map kept_piece pieces ≡ a.pieces → IsParameterList params → AreJoined g P params pieces new → IsGathered g P a value
gathered_is g P a value params copied pieces new same is made content names joined =
    let at : value ≡ record { params = a.params; pieces = map kept_piece new } =
    subst (λ (l : List Name). value ≡ record { params = l; pieces = map kept_piece new }) (is ∙ same) made in
    rw at (gathered g P a pieces new content (subst IsParameterList same names)
    (subst (λ (l : List Name). AreJoined g P l pieces new) same joined))

-- ---- the limit at another time
pub within_later : (g h : Gauge) (value : KeptValue) → IsCharged g h → IsWithinLimit g value → IsWithinLimit h value
within_later g h value charged within = subst (λ (n : ℕ). All (IsPieceUpTo (2 ^ n - 1)) value.pieces) (charged_bits g h charged) within

pub gathered_before : (g h : Gauge) (P : Valuation → Type 0) (a value : KeptValue) → IsCharged g h → IsGathered h P a value
    → IsGathered g P a value
gathered_before g h P a value charged is = record {
  kept = is.kept;
  coalesced = is.coalesced;
  elements = is.elements;
  definitions = is.definitions;
  numbers = small_before g h value.pieces charged is.numbers;
  few = is.few;
}
