-- What is left of one piece, and of one after another, where others are known to hold.
use Rattle.std.proofs.Common.{◌≡◌, ◌↔◌, inl, inr, refl, sym, ap, ◌∙◌, subst, arith, ℕ, ◌+◌, ℤ, List, [], ◌∷◌, ◌++◌, length, get_or, map}
use Rattle.std.specs.List.{All}
use Rattle.std.proofs.lemmas.List.{map-append}
use Rattle.std.proofs.lemmas.List.Elements.{All-append, All-cons, All-head, All-nil, All-weaker}
use Rattle.isl_math.proofs.ListLaws.{All-parts, Any-first, Any-left, Any-none, Any-one, Any-parts, Any-right}
use Rattle.isl_meter.specs.Gauge.{Gauge}
use Rattle.isl_space.specs.Element.{Element, IsElement}
use Rattle.isl_space.specs.Name.{Name}
use Rattle.isl_space.specs.Names.{AreDistinct}
use Rattle.isl_space.specs.Valuation.{Valuation}
use Rattle.isl_piece.specs.declared.definition.Definition.{Definition}
use Rattle.isl_piece.specs.declared.row.Row.{Row}
use Rattle.isl_piece.specs.declared.system.System.{System}
use Rattle.isl_piece.specs.Definition.{with_defined}
use Rattle.isl_piece.specs.Formed.{IsDefinitionUpTo}
use Rattle.isl_piece.specs.Normal.{IsNormal}
use Rattle.isl_piece.specs.Piece.{PieceView}
use Rattle.isl_piece.specs.Row.{HoldsRow, HasModulus, IsRowUpTo}
use Rattle.isl_piece.specs.System.{HoldRows, HoldsSystem, IsSystemWithin}
use Rattle.isl_elim.specs.Elimination.{HoldsAtAny}
use Rattle.isl_union.specs.KeptValue.{KeptPiece, KeptValue, Has, HasElement, IsLive, columns_of, piece_system, point_of}
use Rattle.isl_union.specs.Minus.{systems_in}
use Rattle.isl_union.specs.Numbers.{AreWithinLimit, IsPieceUpTo}
use Rattle.isl_union.specs.Piece.{kept_piece, IsPieceOf}
use Rattle.isl_union.proofs.CompareLaws.{element_at, element_is, point_at, valuation_at}
use Rattle.isl_union.proofs.MinusLaws.{element_long, in_space, systems_all}
use Rattle.isl_union.proofs.SystemLaws.{kept_from, system_is}
use Rattle.isl_gist.specs.declared.pass.Pass.TheVariants.{Equations}
use Rattle.isl_gist.specs.Gist.{dropped, kept, no_more, AreGistPieces, HasNoIdle, IsIdle}
use Rattle.isl_gist.specs.Pieces.{context_of, AreLeftOver}
use Rattle.isl_gist.specs.Meeting.{AreApartIn}
use Rattle.isl_gist.specs.Thinned.{AreThinned, IsAmong, IsIdleAt, IsPlain, IsRowOver, WillBeDone}
use Rattle.isl_gist.proofs.HalfLaws.{halves_settled, half_up_to, some_all, some_hold, IsRowFit, IsSettled}
use Rattle.isl_gist.proofs.IdleLaws.{plain_within}
use Rattle.isl_gist.proofs.NeededLaws.{needed_normal, none_idle}

-- ---- systems without definitions
rows_over : (g : Gauge) (s : System) → IsSystemWithin g s → All (IsRowOver g s.columns) s.rows
rows_over g s within = λ k d l. record { formed = within.rows k d l; within = within.within k d l }

pub view_plain : (g : Gauge) (s : System) → s.definitions ≡ [] → IsSystemWithin g s → IsPlain g s.columns s
view_plain g s none within = record { columns = refl; definitions = none; rows = rows_over g s within }

plain_columns : (params : List Name) (p : PieceView) → IsPieceOf params p → p.system.definitions ≡ []
    → p.system.columns ≡ columns_of params p.space
plain_columns params p sound none =
    let whole = sound.columns in
    let count : length p.system.definitions ≡ 0 = ap (λ (ds : List Definition). length ds) none in
    omega (arith, whole, count)

pub systems_plain : (g : Gauge) (params : List Name) (p : PieceView) (others : List PieceView) → IsPieceOf params p
    → p.system.definitions ≡ []
    → All (IsPieceOf params) others → All (λ q. q.system.definitions ≡ []) others → AreWithinLimit g others
    → All (IsPlain g p.system.columns) (systems_in p.space others)
systems_plain g params p others sound none all plain within = systems_all (IsPlain g p.system.columns) p.space others (λ k d l same.
    let q = get_or others k d in
    let columns : q.system.columns ≡ p.system.columns =
    plain_columns params q (all k d l) (plain k d l) ∙ ap (columns_of params) same ∙ sym (plain_columns params p sound none) in
    subst (λ n. IsPlain g n q.system) columns (view_plain g q.system (plain k d l) (within k d l)))

rows_hold : (s : System) (point : List ℤ) → s.definitions ≡ [] → HoldsSystem s point ↔ HoldRows s.rows point
rows_hold s point none =
    let P : List Definition → Type 0 = λ ds. HoldRows s.rows (with_defined ds point) in
    ((λ h. subst P none h), (λ h. subst P (sym none) h))

-- ---- one piece
module _ (params : List Name) (distinct : AreDistinct params) (p : PieceView) (sound : IsPieceOf params p)
    (none : p.system.definitions ≡ [])
    (others : List PieceView) (contexts : List System) (are : contexts ≡ systems_in p.space others) where
  abbrev P : List ℤ → Type 0
  P = IsAmong p.system.columns contexts

  abbrev context : KeptValue
  context = context_of params (map kept_piece others)

  columns : p.system.columns ≡ columns_of params p.space
  columns = plain_columns params p sound none

  -- the point of an element that the others have
  among : (v : Valuation) (e : Element) → IsElement e → p.space ≡ e.space → Has context v e → P (point_of params v e)
  among v e numbers lies has = record {
    long = element_long params v e p.space numbers lies ∙ sym columns;
    holds = subst (λ ss. HoldsAtAny ss (point_of params v e)) (sym are) ((in_space params v e p.space others numbers lies).1 has);
  }

  own_rows : (v : Valuation) (e : Element) → HasElement params v e (kept_piece p) → HoldRows p.system.rows (point_of params v e)
  own_rows v e has = (rows_hold p.system (point_of params v e) none).0 has.holds

  -- each point of P is that of an element that the others have
  module _ (point : List ℤ) (is : P point) where
    wide : length point ≡ columns_of params p.space
    wide = is.long ∙ columns

    abbrev v : Valuation
    v = valuation_at params p.space point distinct wide

    abbrev e : Element
    e = element_at params p.space point distinct wide

    numbers : IsElement e
    numbers = element_is params p.space point distinct wide

    same : point_of params v e ≡ point
    same = point_at params p.space point distinct wide

    there : Has context v e
    there = (in_space params v e p.space others numbers refl).0
        (subst (λ ss. HoldsAtAny ss (point_of params v e)) are (subst (HoldsAtAny contexts) (sym same) is.holds))

    -- what is idle over the elements is idle at the point
    idle_there : (rows : List Row) (r : Row) → IsIdle context p.space rows r → HoldRows rows point → HoldsRow r point
    idle_there rows r idle h = subst (HoldsRow r) same (idle v e there refl (subst (HoldRows rows) (sym same) h))

  idle_at : (rows : List Row) (r : Row) → IsIdle context p.space rows r → IsIdleAt P rows r
  idle_at rows r idle = record { holds = λ point is h. idle_there point is rows r idle h }

  -- the others have no element of it
  pub left_none : AreApartIn P p.system.rows → AreLeftOver params (map kept_piece others) (kept_piece p ∷ []) []
  left_none apart = record {
    sound = All-nil (IsPieceOf params);
    definitions = All-nil (λ (q : KeptPiece). q.definitions ≡ []);
    numbers = λ most small. All-nil (IsPieceUpTo most);
    gist = dropped no_more;
    elements = λ w f has. (
      (λ a. absurd (Any-none (HasElement params w f) a)),
      (λ a.
          let own = Any-one (HasElement params w f) (kept_piece p) a in
          absurd (apart.nowhere (point_of params w f) (among w f own.numbers own.space has) (own_rows w f own))),
    );
  }

  -- they have some
  module _ (g : Gauge) (some : ¬ AreApartIn P p.system.rows) (left : System) (plain : IsPlain g p.system.columns left)
      (thinned : AreThinned (WillBeDone Equations) P p.system.rows left.rows) where
    abbrev made : PieceView
    made = record { space = p.space; system = left }

    made_columns : left.columns ≡ length left.definitions + columns_of params p.space
    made_columns =
        let whole = plain.columns ∙ columns in
        let count : length left.definitions ≡ 0 = ap (λ (ds : List Definition). length ds) plain.definitions in
        omega (arith, whole, count)

    made_system : left ≡ piece_system params (kept_piece made)
    made_system = system_is params p.space left made_columns

    made_rows : (point : List ℤ) → HoldsSystem (piece_system params (kept_piece made)) point ↔ HoldRows left.rows point
    made_rows point = rows_hold (piece_system params (kept_piece made)) point plain.definitions

    moduli : All (λ r. HasModulus r.kind r.k) left.rows
    moduli = All-weaker (IsRowOver g p.system.columns) (λ r. HasModulus r.kind r.k) (λ r o. o.formed.modulus) left.rows plain.rows

    normal : IsNormal left.rows
    normal = needed_normal P (WillBeDone Equations) (λ r. tt) left.rows thinned.needed
        (some_all IsSettled halves_settled p.system.rows left.rows thinned.some sound.kept.normal.settled) moduli

    live : IsLive params (kept_piece made)
    live void = some (record {
      nowhere = λ point is h. void point (is.long ∙ columns) ((made_rows point).1 (some_hold point p.system.rows left.rows thinned.some h));
    })

    made_sound : IsPieceOf params made
    made_sound = record {
      columns = made_columns;
      kept = kept_from g params (kept_piece made) sound.kept.space
          (subst (IsSystemWithin g) made_system (plain_within g p.system.columns left plain)) normal live;
    }

    needed : HasNoIdle context (kept_piece made)
    needed before r behind is idle =
        none_idle P (WillBeDone Equations) (λ r. tt) [] left.rows thinned.needed before r behind is (idle_at (before ++ behind) r idle)

    meets : ¬ ((w : Valuation) (f : Element) → HasElement params w f (kept_piece made) → ¬ Has context w f)
    meets never = some (record {
      nowhere = λ point is h.
          let w = v point is in
          let f = e point is in
          never w f (record {
            numbers = numbers point is;
            space = refl;
            holds = (made_rows (point_of params w f)).1 (subst (HoldRows left.rows) (sym (same point is))
                (some_hold point p.system.rows left.rows thinned.some h));
          }) (there point is);
    })

    small : (most : ℕ) → IsPieceUpTo most (kept_piece p) → IsPieceUpTo most (kept_piece made)
    small most h = record {
      rows = All-weaker (IsRowFit most) (IsRowUpTo most) (λ r f. f.up_to) left.rows
          (some_all (IsRowFit most) (half_up_to most) p.system.rows left.rows thinned.some
          (λ k d l. record { up_to = h.rows k d l; modulus = (sound.kept.rows k d l).modulus }));
      definitions = subst (All (IsDefinitionUpTo most)) (sym plain.definitions) (All-nil (IsDefinitionUpTo most));
    }

    pub left_one : AreLeftOver params (map kept_piece others) (kept_piece p ∷ []) (made ∷ [])
    left_one = record {
      sound = All-cons (IsPieceOf params) made [] made_sound (All-nil (IsPieceOf params));
      definitions = All-cons (λ (q : KeptPiece). q.definitions ≡ []) (kept_piece made) [] plain.definitions
          (All-nil (λ (q : KeptPiece). q.definitions ≡ []));
      numbers = λ most h. All-cons (IsPieceUpTo most) (kept_piece made) []
          (small most (All-head (IsPieceUpTo most) (kept_piece p) [] h)) (All-nil (IsPieceUpTo most));
      gist = kept (record {
        space = refl;
        definitions = plain.definitions ∙ sym none;
        rows = thinned.some;
        needed = needed;
        meets = meets;
      }) no_more;
      elements = λ w f has. (
        (λ a.
            let own = Any-one (HasElement params w f) (kept_piece made) a in
            let point = point_of params w f in
            Any-first (HasElement params w f) (kept_piece p) [] (record {
              numbers = own.numbers;
              space = own.space;
              holds = (rows_hold (piece_system params (kept_piece p)) point none).1
                  (thinned.same point (among w f own.numbers own.space has) ((made_rows point).0 own.holds));
            })),
        (λ a.
            let own = Any-one (HasElement params w f) (kept_piece p) a in
            let point = point_of params w f in
            Any-first (HasElement params w f) (kept_piece made) [] (record {
              numbers = own.numbers;
              space = own.space;
              holds = (made_rows point).1 (some_hold point p.system.rows left.rows thinned.some (own_rows w f own));
            })),
      );
    }

-- ---- one piece after another
pub over_none : (params : List Name) (others : List KeptPiece) → AreLeftOver params others [] []
over_none params others = record {
  sound = All-nil (IsPieceOf params);
  definitions = All-nil (λ (q : KeptPiece). q.definitions ≡ []);
  numbers = λ most small. small;
  gist = no_more;
  elements = λ w f has. ((λ a. a), (λ a. a));
}

gist_append : (known : KeptValue) (pieces left others more : List KeptPiece) → AreGistPieces known pieces left
    → AreGistPieces known others more → AreGistPieces known (pieces ++ others) (left ++ more)
gist_append known [] [] others more no_more last = last
gist_append known [] (q ∷ left) others more is last = elim is [ ]
gist_append known (p ∷ pieces) left others more (dropped rest) last = dropped (gist_append known pieces left others more rest last)
gist_append known (p ∷ pieces) (q ∷ left) others more (kept is rest) last = kept is (gist_append known pieces left others more rest last)

pub over_append : (params : List Name) (others pieces more : List KeptPiece) (left new : List PieceView)
    → AreLeftOver params others pieces left → AreLeftOver params others more new → AreLeftOver params others (pieces ++ more) (left ++ new)
over_append params others pieces more left new p q =
    let both = map-append kept_piece left new in record {
      sound = All-append (IsPieceOf params) left new p.sound q.sound;
      definitions = rw both (All-append (λ (x : KeptPiece). x.definitions ≡ []) (map kept_piece left) (map kept_piece new)
          p.definitions q.definitions);
      numbers = λ most h.
          let parts = All-parts (IsPieceUpTo most) pieces more h in
          rw both (All-append (IsPieceUpTo most) (map kept_piece left) (map kept_piece new)
          (p.numbers most parts.0) (q.numbers most parts.1));
      gist = rw both (gist_append (context_of params others) pieces (map kept_piece left) more (map kept_piece new) p.gist q.gist);
      elements = λ v e has.
          let Q : KeptPiece → Type 0 = HasElement params v e in
          let one = p.elements v e has in
          let other = q.elements v e has in
          rw both (
            (λ a. elim (Any-parts Q (map kept_piece left) (map kept_piece new) a) [
              | inl x ↦ Any-left Q pieces more (one.0 x)
              | inr y ↦ Any-right Q pieces more (other.0 y)
            ]),
            (λ a. elim (Any-parts Q pieces more a) [
              | inl x ↦ Any-left Q (map kept_piece left) (map kept_piece new) (one.1 x)
              | inr y ↦ Any-right Q (map kept_piece left) (map kept_piece new) (other.1 y)
            ]),
          );
    }
