-- The pieces of a space with several systems; and pieces that are made of others, one after another.
use Rattle.std.proofs.Common.{◌≡◌, ◌↔◌, arith, inl, inr, refl, sym, ap, ◌∙◌, subst, ℕ, ◌+◌, ◌-◌, ◌^◌, ◌<◌, ◌≤◌, Option, Some, None}
use Rattle.std.proofs.Common.{option_map, option_to_list}
use Rattle.std.proofs.Common.{List, [], ◌∷◌, ◌++◌, All, Any, append_assoc, length, get_or, map, take, filter_map}
use Rattle.std.specs.List.{cons_option}
use Rattle.std.proofs.lemmas.List.{append-nil, map-append, map_more, take_all}
use Rattle.std.proofs.lemmas.List.Elements.{All-append, All-cons, All-head, All-map, All-nil, All-tail, filter_map-append}
use Rattle.isl_math.proofs.ListLaws.{All-parts, Any-element, Any-first, Any-left, Any-none, Any-one, Any-parts, Any-right, Any-unmapped}
use Rattle.isl_math.proofs.ListLaws.{Any-weaker}
use Rattle.isl_meter.specs.Gauge.{Gauge, IsCharged, IsCutBy}
use Rattle.isl_meter.specs.declared.Cut.{Cut}
use Rattle.isl_space.specs.Element.{Element}
use Rattle.isl_space.specs.Name.{Name}
use Rattle.isl_space.specs.Names.{IsParameterList}
use Rattle.isl_space.specs.SpaceForm.{SpaceForm, IsWellFormedSpace}
use Rattle.isl_space.specs.Valuation.{Valuation}
use Rattle.isl_piece.specs.declared.system.System.{System}
use Rattle.isl_piece.specs.Piece.{PieceView}
use Rattle.isl_piece.specs.System.{HoldsSystem, IsSystemWithin, free_columns}
use Rattle.isl_elim.proofs.ProjectionLaws.{any_mapped}
use Rattle.isl_union.specs.declared.fault.OpFault.{OpFault}
use Rattle.isl_union.specs.declared.fault.OpFault.TheVariants as op_fault
use Rattle.isl_union.specs.Fault.{IsCutFault}
use Rattle.isl_union.specs.KeptValue.{KeptPiece, KeptValue, Has, HasElement, IsKeptValue, columns_of, point_of}
use Rattle.isl_union.specs.Live.{normal_of, AreLiveOf, IsLiveOf}
use Rattle.isl_union.specs.Numbers.{IsPieceUpTo, IsWithinLimit}
use Rattle.isl_union.specs.Piece.{kept_piece, piece_of, IsPieceOf}
use Rattle.isl_union.specs.Pieces.{IsOfAny}
use Rattle.isl_union.proofs.LiveLaws.{live_all, normal_case}
use Rattle.isl_union.proofs.MadeLaws.{here_within, live_have, live_small, IsOver}
use Rattle.isl_union.proofs.MeetSteps.{charged_bits, pushed_live}
use Rattle.isl_union.proofs.PieceLaws.{IsKeptValue-from_pieces}
use Rattle.isl_union.proofs.SystemLaws.{piece_up_to}

-- ---- one more of the systems
-- so many of the systems were looked at, and the kept pieces are those of the space with them that have elements
pub record AreLiveSoFar (params : List Name) (space : SpaceForm) (systems rest : List System) (kept : List PieceView) : Type 0 where
  pub done : List System
  pub all : systems ≡ done ++ rest
  pub live : AreLiveOf params (filter_map normal_of (map (piece_of space) done)) (map kept_piece kept)

pub so_far_none : (params : List Name) (space : SpaceForm) (systems : List System) (kept : List PieceView) → kept ≡ []
    → AreLiveSoFar params space systems systems kept
so_far_none params space systems kept none = record { done = []; all = refl; live = ap (map kept_piece) none }

filter_one : (piece : KeptPiece) → filter_map normal_of (piece ∷ []) ≡ option_to_list (normal_of piece)
filter_one piece = by (normal_of piece)
  where
    by : (o : Option KeptPiece) → cons_option o [] ≡ option_to_list o
    by None = refl
    by (Some p) = refl

pub so_far_more : (params : List Name) (space : SpaceForm) (systems before rest : List System) (s : System) (kept pushed : List PieceView)
    (o : Option PieceView) → before ≡ s ∷ rest → IsLiveOf params (normal_of (piece_of space s)) (option_map kept_piece o)
    → pushed ≡ kept ++ option_to_list o → AreLiveSoFar params space systems before kept → AreLiveSoFar params space systems rest pushed
so_far_more params space systems before rest s kept pushed o next exact is so_far = record {
  done = so_far.done ++ s ∷ [];
  all = so_far.all ∙ ap (λ l. so_far.done ++ l) next ∙ sym (append_assoc so_far.done (s ∷ []) rest);
  live =
      let pieces = ap (filter_map normal_of) (map-append (piece_of space) so_far.done (s ∷ []))
      ∙ filter_map-append normal_of (map (piece_of space) so_far.done) (piece_of space s ∷ [])
      ∙ ap (λ l. filter_map normal_of (map (piece_of space) so_far.done) ++ l) (filter_one (piece_of space s)) in
      rw pieces (pushed_live params (filter_map normal_of (map (piece_of space) so_far.done)) (normal_of (piece_of space s)) kept pushed o
      so_far.live exact is);
}

-- the next one has what all have
pub so_far_next : (P : System → Type 0) (params : List Name) (space : SpaceForm) (systems before rest : List System) (s : System)
    (kept : List PieceView) → before ≡ s ∷ rest → AreLiveSoFar params space systems before kept → All P systems → P s
so_far_next P params space systems before rest s kept next so_far all =
    let parts = All-parts P so_far.done (s ∷ rest) (rw (so_far.all ∙ ap (λ l. so_far.done ++ l) next) at all) in
    All-head P s rest parts.1

pub so_far_all : (params : List Name) (space : SpaceForm) (systems rest : List System) (kept : List PieceView) → length rest ≡ 0
    → AreLiveSoFar params space systems rest kept
    → AreLiveOf params (filter_map normal_of (map (piece_of space) systems)) (map kept_piece kept)
so_far_all params space systems [] kept none so_far =
    let all : systems ≡ so_far.done = so_far.all ∙ append-nil so_far.done in
    rw all so_far.live
so_far_all params space systems (s ∷ rest) kept none so_far = absurd (omega (arith, none))

-- ---- all of them
module _ (g : Gauge) (params : List Name) (space : SpaceForm) (systems : List System) (formed : IsWellFormedSpace space)
    (columns : All (λ s. free_columns s ≡ columns_of params space) systems) (within : All (IsSystemWithin g) systems)
    (kept : List KeptPiece) (live : AreLiveOf params (filter_map normal_of (map (piece_of space) systems)) kept) where
  over : All (IsOver g params) (map (piece_of space) systems)
  over = All-map (IsOver g params) (piece_of space) systems
      (λ k d l. (formed, here_within g params space (get_or systems k d) (within k d l) (columns k d l)))

  pub pieces_have : (v : Valuation) (e : Element) → Any (HasElement params v e) kept ↔ IsOfAny params space systems v e
  pieces_have v e =
      let H = HasElement params v e in
      let both = live_have g params v e (map (piece_of space) systems) kept over live in (
        (λ a.
            let some = Any-unmapped H (piece_of space) systems (both.0 a) in
            let one = Any-element (λ s. H (piece_of space s)) systems some in record {
              numbers = one.2.numbers;
              lies = sym one.2.space;
              holds = Any-weaker (λ s. H (piece_of space s)) (λ s. HoldsSystem s (point_of params v e)) (λ s h. h.holds) systems some;
            }),
        (λ h. both.1 (any_mapped H (piece_of space) systems
            (Any-weaker (λ s. HoldsSystem s (point_of params v e)) (λ s. H (piece_of space s))
            (λ s k. record { numbers = h.numbers; space = sym h.lies; holds = k }) systems h.holds))),
      )

  pub pieces_small : All (IsPieceUpTo (2 ^ g.bits - 1)) kept
  pieces_small = live_small g params (2 ^ g.bits - 1) (map (piece_of space) systems) kept over live
      (All-map (IsPieceUpTo (2 ^ g.bits - 1)) (piece_of space) systems (λ k d l.
      piece_up_to g params (piece_of space (get_or systems k d))
      (here_within g params space (get_or systems k d) (within k d l) (columns k d l))))

  pub pieces_plain : All (λ s. s.definitions ≡ []) systems → All (λ piece. piece.definitions ≡ []) kept
  pieces_plain plain = live_all params P P (λ piece p l. p) (filter_map normal_of (map (piece_of space) systems)) kept live
      (each systems plain)
    where
      P : KeptPiece → Type 0
      P piece = piece.definitions ≡ []

      each : (ss : List System) → All (λ s. s.definitions ≡ []) ss → All P (filter_map normal_of (map (piece_of space) ss))
      each [] all = All-nil P
      each (s ∷ ss) all = by (normal_of (piece_of space s)) refl (each ss (All-tail (λ t. t.definitions ≡ []) s ss all))
        where
          by : (o : Option KeptPiece) → normal_of (piece_of space s) ≡ o → All P (filter_map normal_of (map (piece_of space) ss))
              → All P (cons_option o (filter_map normal_of (map (piece_of space) ss)))
          by None is rest = rest
          by (Some new) is rest = All-cons P new (filter_map normal_of (map (piece_of space) ss))
              (normal_case P (piece_of space s) new (λ rows e. All-head (λ t. t.definitions ≡ []) s ss all) is) rest

-- ---- one more of the others
-- what is made of it has P where it has Q
any_step : (P Q : KeptPiece → Type 0) (made more done : List KeptPiece) (piece : KeptPiece) → (Any P made ↔ Any Q done)
    → (Any P more ↔ Q piece) → Any P (made ++ more) ↔ Any Q (done ++ piece ∷ [])
any_step P Q made more done piece so_far one = (
  (λ a. elim (Any-parts P made more a) [
    | inl x ↦ Any-left Q done (piece ∷ []) (so_far.0 x)
    | inr y ↦ Any-right Q done (piece ∷ []) (Any-first Q piece [] (one.0 y))
  ]),
  (λ a. elim (Any-parts Q done (piece ∷ []) a) [
    | inl x ↦ Any-left P made more (so_far.1 x)
    | inr y ↦ Any-right P made more (one.1 (Any-one Q piece y))
  ]),
)

-- nothing is made of one that has not Q
any_skip : (P Q : KeptPiece → Type 0) (made done : List KeptPiece) (piece : KeptPiece) → (Any P made ↔ Any Q done) → ¬ Q piece
    → Any P made ↔ Any Q (done ++ piece ∷ [])
any_skip P Q made done piece so_far none = (
  (λ a. Any-left Q done (piece ∷ []) (so_far.0 a)),
  (λ a. elim (Any-parts Q done (piece ∷ []) a) [ inl x ↦ so_far.1 x | inr y ↦ absurd (none (Any-one Q piece y)) ]),
)

-- ---- pieces that are made of others
-- the pieces have just the elements that Q gives the others, are ones of a value, and within the limit
pub record AreMade (g : Gauge) (params : List Name) (Q : Valuation → Element → KeptPiece → Type 0) (others : List KeptPiece)
    (made : List PieceView) : Type 0 where
  pub elements : (v : Valuation) (e : Element) → Any (HasElement params v e) (map kept_piece made) ↔ Any (Q v e) others
  pub sound : All (IsPieceOf params) made
  pub small : All (IsPieceUpTo (2 ^ g.bits - 1)) (map kept_piece made)

module _ (g : Gauge) (params : List Name) (Q : Valuation → Element → KeptPiece → Type 0) where
  pub made_none : (made : List PieceView) → made ≡ [] → AreMade g params Q [] made
  made_none made none = rw none (record {
    elements = λ v e. ((λ a. absurd (Any-none (HasElement params v e) a)), (λ a. absurd (Any-none (Q v e) a)));
    sound = All-nil (IsPieceOf params);
    small = All-nil (IsPieceUpTo (2 ^ g.bits - 1));
  })

  module _ (others : List KeptPiece) (piece : KeptPiece) (made : List PieceView) (so_far : AreMade g params Q others made) where
    -- one more: what is made of it has the elements that Q gives it
    pub made_more : (more pushed : List PieceView) → pushed ≡ made ++ more
        → ((v : Valuation) (e : Element) → Any (HasElement params v e) (map kept_piece more) ↔ Q v e piece) → All (IsPieceOf params) more
        → All (IsPieceUpTo (2 ^ g.bits - 1)) (map kept_piece more) → AreMade g params Q (others ++ piece ∷ []) pushed
    made_more more pushed is elements sound small = rw is (record {
      elements = λ v e. rw (map-append kept_piece made more)
          (any_step (HasElement params v e) (Q v e) (map kept_piece made) (map kept_piece more) others piece (so_far.elements v e)
          (elements v e));
      sound = All-append (IsPieceOf params) made more so_far.sound sound;
      small = rw (map-append kept_piece made more)
          (All-append (IsPieceUpTo (2 ^ g.bits - 1)) (map kept_piece made) (map kept_piece more) so_far.small small);
    })

    -- one more, which Q gives none
    pub made_skip : ((v : Valuation) (e : Element) → ¬ Q v e piece) → AreMade g params Q (others ++ piece ∷ []) made
    made_skip none = record {
      elements = λ v e. any_skip (HasElement params v e) (Q v e) (map kept_piece made) others piece (so_far.elements v e) (none v e);
      sound = so_far.sound;
      small = so_far.small;
    }

-- the value of the pieces, once all of the others were looked at
module _ (g : Gauge) (params : List Name) (Q : Valuation → Element → KeptPiece → Type 0) (pieces made : List PieceView) (i : ℕ)
    (others : List KeptPiece) (value : KeptValue) (end : length pieces ≤ i) (content : map kept_piece pieces ≡ others)
    (so_far : AreMade g params Q (map kept_piece (take i pieces)) made)
    (is : value ≡ record { params = params; pieces = map kept_piece made }) where
  all_made : AreMade g params Q others made
  all_made = rw (ap (map kept_piece) (take_all i pieces end) ∙ content) at so_far

  pub made_has : (v : Valuation) (e : Element) → Has value v e ↔ Any (Q v e) others
  made_has v e = rw is (all_made.elements v e)

  pub made_kept : IsParameterList params → IsKeptValue value
  made_kept names = rw is (IsKeptValue-from_pieces params made names all_made.sound)

  pub made_small : IsWithinLimit g value
  made_small = rw is all_made.small

-- the pieces that were looked at, with the next one
pub next_piece : (pieces : List PieceView) (i : ℕ) (piece : PieceView) → i < length pieces → piece ≡ get_or pieces i piece
    → map kept_piece (take (i + 1) pieces) ≡ map kept_piece (take i pieces) ++ kept_piece piece ∷ []
next_piece pieces i piece low at =
    map_more kept_piece pieces i piece low ∙ ap (λ p. map kept_piece (take i pieces) ++ kept_piece p ∷ []) (sym at)

-- pieces without definitions, and more of them
pub plain_more : (made more pushed : List PieceView) → pushed ≡ made ++ more → All (λ p. p.definitions ≡ []) (map kept_piece made)
    → All (λ p. p.definitions ≡ []) (map kept_piece more) → All (λ p. p.definitions ≡ []) (map kept_piece pushed)
plain_more made more pushed is first second =
    rw (is, map-append kept_piece made more)
    (All-append (λ (p : KeptPiece). p.definitions ≡ []) (map kept_piece made) (map kept_piece more) first second)

-- what holds of the numbers at one time, at an earlier one
pub small_before : (g h : Gauge) (pieces : List KeptPiece) → IsCharged g h → All (IsPieceUpTo (2 ^ h.bits - 1)) pieces
    → All (IsPieceUpTo (2 ^ g.bits - 1)) pieces
small_before g h pieces p all = subst (λ n. All (IsPieceUpTo (2 ^ n - 1)) pieces) (sym (charged_bits g h p)) all

pub through : {A B C : Type 0} → A ↔ B → B ↔ C → A ↔ C
through p q = ((λ a. q.0 (p.0 a)), (λ c. p.1 (q.1 c)))

-- ---- work that was cut
pub cut_fault : (g h : Gauge) (cut : Cut) (fault : OpFault) → fault ≡ op_fault.Cut cut → IsCutBy g h cut → IsCutFault g h fault
cut_fault g h cut fault is by = rw is by
