-- The joint piece of two pieces.
use Rattle.std.proofs.Common.{◌≡◌, ◌≢◌, ◌↔◌, ◌⊎◌, inl, inr, refl, sym, ap, ap₂, ◌∙◌, arith, subst, ℕ, ◌+◌, ℤ, List, [], ◌++◌, All, Some}
use Rattle.std.proofs.Common.{Option, length, get_or, take}
use Rattle.std.proofs.lemmas.List.Elements.{All-append}
use Rattle.isl_math.proofs.ListLaws.{All-parts}
use Rattle.isl_meter.specs.Gauge.{Gauge, IsCharged}
use Rattle.isl_space.specs.Element.{Element, IsElement}
use Rattle.isl_space.specs.Name.{Name}
use Rattle.isl_space.specs.Names.{AreDistinct}
use Rattle.isl_space.specs.Valuation.{Valuation, values_of}
use Rattle.isl_piece.specs.declared.definition.Definition.{Definition}
use Rattle.isl_piece.specs.declared.row.Row.{Row}
use Rattle.isl_piece.specs.declared.system.System.{System}
use Rattle.isl_piece.specs.Normal.{normal_rows}
use Rattle.isl_piece.specs.Piece.{PieceView}
use Rattle.isl_piece.specs.Row.{HasModulus, HoldsRow}
use Rattle.isl_piece.specs.System.{HoldRows, HoldsSystem, IsSystemWithin}
use Rattle.isl_piece.proofs.FormedLaws.{system_within_kept}
use Rattle.isl_piece.proofs.NormalLaws.{normal_rows_hold, HoldWhere}
use Rattle.isl_union.specs.KeptValue.{KeptPiece, HasElement, columns_of, piece_system, point_of}
use Rattle.isl_union.specs.Minus.{piece_in}
use Rattle.isl_union.specs.Piece.{kept_piece, piece_of, IsPieceOf}
use Rattle.isl_union.proofs.CompareLaws.{element_at, element_is, point_at, valuation_at}
use Rattle.isl_union.proofs.MeetSteps.{charged_bits}
use Rattle.isl_union.proofs.MinusLaws.{element_long}
use Rattle.isl_union.proofs.SystemLaws.{kept_from, system_is}
use Rattle.isl_elim.specs.Elimination.{HoldsAtAny}
use Rattle.isl_assumed.specs.declared.assumed.Assumed.{Assumed}
use Rattle.isl_assumed.specs.declared.assumed.Assumed.TheVariants.{Nothing, Where}
use Rattle.isl_assumed.specs.Assumed.{Assumes, IsOver}
use Rattle.isl_assumed.specs.Values.{IsDeadAt}
use Rattle.isl_assumed.proofs.ValueLaws.{front}
use Rattle.isl_coalesce.specs.Beyond.{IsBeyond}
use Rattle.isl_coalesce.specs.Found.{AreUnjoinedSystems, AreUnknown, IsJointPiece, IsJointSystem, IsKnown}
use Rattle.isl_coalesce.specs.Found.{IsPlainPiece, IsTrueThroughout}
use Rattle.isl_coalesce.specs.Joint.{AreUnjoined, IsJointAt, IsTrueAt}
use Rattle.isl_coalesce.proofs.BeyondLaws.{carried_hold}
use Rattle.isl_coalesce.proofs.HalfLaws.{plain_point}
use Rattle.isl_coalesce.proofs.JointLaws.{both_moduli, in_first, in_second}
use Rattle.isl_coalesce.proofs.PartLaws.{parts_only, parts_same}

-- the normal rows hold at the same points
normal_hold : (rows kept : List Row) (xs : List ℤ) → All (λ r. HasModulus r.kind r.k) rows → normal_rows rows ≡ Some kept
    → HoldRows kept xs ↔ HoldRows rows xs
normal_hold rows kept xs moduli is =
    subst (λ (o : Option (List Row)). HoldWhere o xs (HoldRows rows xs)) is (normal_rows_hold rows xs moduli)

-- ---- the limit at another time
plain_kept : (g h : Gauge) (params : List Name) (p : PieceView) → h.bits ≡ g.bits → IsPlainPiece h params p → IsPlainPiece g params p
plain_kept g h params p e fits = record {
  sound = fits.sound;
  plain = record { definitions = fits.plain.definitions; within = system_within_kept g h p.system e fits.plain.within };
}

pub plain_later : (g h : Gauge) (params : List Name) (p : PieceView) → IsCharged g h → IsPlainPiece g params p → IsPlainPiece h params p
plain_later g h params p charged fits = plain_kept h g params p (charged_bits g h charged) fits

pub plain_earlier : (g h : Gauge) (params : List Name) (p : PieceView) → IsCharged g h → IsPlainPiece h params p → IsPlainPiece g params p
plain_earlier g h params p charged fits = plain_kept g h params p (sym (charged_bits g h charged)) fits

pub plains_later : (g h : Gauge) (params : List Name) (pieces : List PieceView) → IsCharged g h → All (IsPlainPiece g params) pieces
    → All (IsPlainPiece h params) pieces
plains_later g h params pieces charged fit k d l = plain_later g h params (get_or pieces k d) charged (fit k d l)

-- ---- what is known of the point of an element is what is assumed of the valuation
pub known_at : (known : Assumed) (params : List Name) → IsOver params known → (v : Valuation) (e : Element)
    → IsKnown known (point_of params v e) ↔ Assumes known v
known_at Nothing params over v e = ((λ u. tt), (λ u. tt))
known_at (Where region) params over v e =
    let same : take (length region.params) (point_of params v e) ≡ values_of region.params v =
    ap (λ (names : List Name). take (length names) (point_of params v e)) over ∙ front params v e
    ∙ ap (λ (names : List Name). values_of names v) (sym over) in (
      (λ h. subst (HoldsAtAny region.systems.items) same h),
      (λ h. subst (HoldsAtAny region.systems.items) (sym same) h),
    )

-- ---- one piece
module _ (g : Gauge) (params : List Name) (p : PieceView) (fits : IsPlainPiece g params p) where
  pub plain_columns : p.system.columns ≡ columns_of params p.space
  plain_columns =
      let none = ap (λ (ds : List Definition). length ds) fits.plain.definitions in
      let columns = fits.sound.columns in
      omega (arith, none, columns)

  -- it has a point
  pub plain_live : (λ (n : ℕ). (xs : List ℤ) → length xs ≡ n → ¬ HoldsSystem p.system xs) p.system.columns → ⊥
  plain_live nowhere = fits.sound.kept.live (λ point long. nowhere point (long ∙ sym plain_columns))

  -- a row that holds at its known points is true on it at assumed valuations
  pub true_on : (known : Assumed) → IsOver params known → AreDistinct params → (r : Row)
      → IsTrueThroughout (IsKnown known) p.system r ↔ IsTrueAt (Assumes known) params (kept_piece p) r
  true_on known over distinct r = (
    (λ t v e is h.
        t (point_of params v e) (element_long params v e p.space h.numbers h.space ∙ sym plain_columns)
        ((known_at known params over v e).1 is)
        h.holds),
    (λ t point l is holds.
        let long = l ∙ plain_columns in
        let at = point_at params p.space point distinct long in
        let v = valuation_at params p.space point distinct long in
        let e = element_at params p.space point distinct long in
        subst (HoldsRow r) at (t v e ((known_at known params over v e).0 (subst (IsKnown known) (sym at) is)) (record {
          numbers = element_is params p.space point distinct long;
          space = refl;
          holds = subst (HoldsSystem p.system) (sym at) holds;
        }))),
  )

-- ---- two pieces of one space
module _ (g : Gauge) (params : List Name) (distinct : AreDistinct params) (p q : PieceView) (one : IsPlainPiece g params p)
    (other : IsPlainPiece g params q) (space : q.space ≡ p.space) (known : Assumed) (over : IsOver params known) where
  abbrev K : List ℤ → Type 0
  K = IsKnown known

  abbrev P : Valuation → Type 0
  P = Assumes known

  pub same_columns : q.system.columns ≡ p.system.columns
  same_columns = plain_columns g params q other ∙ ap (columns_of params) space ∙ sym (plain_columns g params p one)

  abbrev H : List ℤ → Row → Type 0
  H xs = λ (r : Row). HoldsRow r xs

  -- what holds at the point of an element holds at a point over these columns
  abbrev valuation_of : (point : List ℤ) → length point ≡ p.system.columns → Valuation
  valuation_of point l = valuation_at params p.space point distinct (l ∙ plain_columns g params p one)

  abbrev element_of : (point : List ℤ) → length point ≡ p.system.columns → Element
  element_of point l = element_at params p.space point distinct (l ∙ plain_columns g params p one)

  its_point : (point : List ℤ) (l : length point ≡ p.system.columns) → point_of params (valuation_of point l) (element_of point l) ≡ point
  its_point point l = point_at params p.space point distinct (l ∙ plain_columns g params p one)

  assumed_there : (point : List ℤ) (l : length point ≡ p.system.columns) → K point → P (valuation_of point l)
  assumed_there point l is =
      (known_at known params over (valuation_of point l) (element_of point l)).0 (subst K (sym (its_point point l)) is)

  -- the element of a piece of this space, which defines no column
  its_element : (j : KeptPiece) (point : List ℤ) (l : length point ≡ p.system.columns) → j.definitions ≡ [] → j.space ≡ p.space
      → HoldRows j.rows point → HasElement params (valuation_of point l) (element_of point l) j
  its_element j point l none lies rows =
      let long = l ∙ plain_columns g params p one in
      let here = subst (HoldRows j.rows) (sym (plain_point j.definitions point none)) rows in
      record {
        numbers = element_is params p.space point distinct long;
        space = lies;
        holds = subst (HoldsSystem (piece_system params j)) (sym (its_point point l)) here;
      }

  -- the known points of a piece with the normal rows of some, whose elements are ones of the two
  of_either : (j : KeptPiece) (a b : List Row) → All (λ r. HasModulus r.kind r.k) (a ++ b) → normal_rows (a ++ b) ≡ Some j.rows
      → j.definitions ≡ [] → j.space ≡ p.space
      → ((v : Valuation) (e : Element) → P v → HasElement params v e j
      → HasElement params v e (kept_piece p) ⊎ HasElement params v e (kept_piece q))
      → (point : List ℤ) → length point ≡ p.system.columns → K point → HoldRows a point → HoldRows b point
      → HoldsSystem p.system point ⊎ HoldsSystem q.system point
  of_either j a b moduli is none lies elements point l it hold hold' =
      let at = its_point point l in
      let rows = (normal_hold (a ++ b) j.rows point moduli is).1 (All-append (H point) a b hold hold') in
      elim (elements (valuation_of point l) (element_of point l) (assumed_there point l it) (its_element j point l none lies rows)) [
        | inl h ↦ inl (subst (HoldsSystem p.system) at h.holds)
        | inr h ↦ inr (subst (HoldsSystem q.system) at h.holds)
      ]

  -- such a piece has an element at an assumed valuation, so there are such points
  not_unknown : (j : KeptPiece) (a b : List Row) → All (λ r. HasModulus r.kind r.k) (a ++ b) → normal_rows (a ++ b) ≡ Some j.rows
      → j.definitions ≡ [] → j.space ≡ p.space → ¬ IsDeadAt P params j → ¬ AreUnknown K p.system.columns a b
  not_unknown j a b moduli is none lies some unknown = some (λ v e it h.
      let point = point_of params v e in
      let long = element_long params v e p.space h.numbers (sym lies ∙ h.space) ∙ sym (plain_columns g params p one) in
      let rows = (normal_hold (a ++ b) j.rows point moduli is).0 (subst (HoldRows j.rows) (plain_point j.definitions point none) h.holds) in
      let both = All-parts (H point) a b rows in
      unknown point long ((known_at known params over v e).1 it) both.0 both.1)

  -- not all known points of what they keep are ones of the two, or there are none
  pub unjoined_pieces : AreUnjoinedSystems K p.system q.system → AreUnjoined (IsJointAt P params) (kept_piece p) (kept_piece q)
  unjoined_pieces u =
      let own = parts_same (IsTrueThroughout K q.system) (IsTrueAt P params (kept_piece q)) (true_on g params q other known over distinct)
      p.system.rows u.first u.own in
      let others = parts_same (IsTrueThroughout K p.system) (IsTrueAt P params (kept_piece p)) (true_on g params p one known over distinct)
      q.system.rows u.second u.others in
      let forth = both_moduli g K p.system q.system same_columns one.plain other.plain u.first u.second u.own u.others in
      let back = both_moduli g K q.system p.system (sym same_columns) other.plain one.plain u.second u.first u.others u.own in
      let in_p = parts_only (IsTrueAt P params (kept_piece q)) p.system.rows in
      let in_q = parts_only (IsTrueAt P params (kept_piece p)) q.system.rows in
      record {
        forth = λ j h.
            let is = ap₂ (λ a b. normal_rows (a ++ b)) (in_p u.first h.first own h.own) (in_q u.second h.second others h.others) in
            u.beyond (of_either j u.first u.second forth (is ∙ h.rows) h.definitions h.space (λ v e it. (h.elements v e it).0))
            (not_unknown j u.first u.second forth (is ∙ h.rows) h.definitions h.space h.some);
        back = λ j h.
            let is = ap₂ (λ a b. normal_rows (a ++ b)) (in_q u.second h.first others h.own) (in_p u.first h.second own h.others) in
            let turned : (v : Valuation) (e : Element) → P v → HasElement params v e j
            → HasElement params v e (kept_piece p) ⊎ HasElement params v e (kept_piece q) = λ v e it x.
            elim ((h.elements v e it).0 x) [ inl y ↦ inr y | inr y ↦ inl y ] in
            u.beyond (λ point long it a b.
            of_either j u.second u.first back (is ∙ h.rows) h.definitions (h.space ∙ space) turned point long it b a)
            (λ unknown. not_unknown j u.second u.first back (is ∙ h.rows) h.definitions (h.space ∙ space) h.some
            (λ point long it b a. unknown point long it a b));
      }

  -- a point of neither, at which all rows that are true on both hold
  pub beyond_unjoined : ((point : List ℤ) → K point) → IsBeyond p.system q.system
      → AreUnjoined (IsJointAt P params) (kept_piece p) (kept_piece q)
  beyond_unjoined all b =
      let in_p : (r : Row) → IsTrueAt P params (kept_piece p) r ↔ IsTrueThroughout K p.system r = λ r.
      let t = true_on g params p one known over distinct r in (t.1, t.0) in
      let in_q : (r : Row) → IsTrueAt P params (kept_piece q) r ↔ IsTrueThroughout K q.system r = λ r.
      let t = true_on g params q other known over distinct r in (t.1, t.0) in
      let on_p = parts_same (IsTrueAt P params (kept_piece p)) (IsTrueThroughout K p.system) in_p q.system.rows in
      let on_q = parts_same (IsTrueAt P params (kept_piece q)) (IsTrueThroughout K q.system) in_q p.system.rows in
      let holds_p = subst (HoldRows p.system.rows) (sym (plain_point p.system.definitions b.one one.plain.definitions)) b.in_first in
      let holds_q = subst (HoldRows q.system.rows) (sym (plain_point q.system.definitions b.other other.plain.definitions)) b.in_second in
      let at_p = λ (r : Row) (t : IsTrueThroughout K p.system r). t b.one b.one_long (all b.one) holds_p in
      let at_q = λ (r : Row) (t : IsTrueThroughout K q.system r). t b.other (b.other_long ∙ sym same_columns) (all b.other) holds_q in
      let first = carried_hold b.other b.point (IsTrueThroughout K q.system) at_q p.system.rows in
      let second = carried_hold b.one b.point (IsTrueThroughout K p.system) at_p q.system.rows in
      let no : HoldsSystem p.system b.point ⊎ HoldsSystem q.system b.point → ⊥ = λ some. elim some [
        | inl h ↦ b.not_first (subst (HoldRows p.system.rows) (plain_point p.system.definitions b.point one.plain.definitions) h)
        | inr h ↦ b.not_second (subst (HoldRows q.system.rows) (plain_point q.system.definitions b.point other.plain.definitions) h)
      ] in
      record {
        forth = λ j h.
            let own = on_q h.first h.own in
            let others = on_p h.second h.others in
            let moduli = both_moduli g K p.system q.system same_columns one.plain other.plain h.first h.second own others in
            no (of_either j h.first h.second moduli h.rows h.definitions h.space (λ v e it. (h.elements v e it).0) b.point b.long
            (all b.point) (first h.first b.own own) (second h.second b.others others));
        back = λ j h.
            let own = on_p h.first h.own in
            let others = on_q h.second h.others in
            let moduli = both_moduli g K q.system p.system (sym same_columns) other.plain one.plain h.first h.second own others in
            let turned : (v : Valuation) (e : Element) → P v → HasElement params v e j
            → HasElement params v e (kept_piece p) ⊎ HasElement params v e (kept_piece q) = λ v e it x.
            elim ((h.elements v e it).0 x) [ inl y ↦ inr y | inr y ↦ inl y ] in
            no (of_either j h.first h.second moduli h.rows h.definitions (h.space ∙ space) turned b.point b.long (all b.point)
            (second h.first b.others own) (first h.second b.own others));
      }

  -- the piece of the joint system
  module _ (s : System) (is : IsJointSystem g K p.system q.system s) where
    abbrev both : List Row
    both = is.first ++ is.second

    hold : (xs : List ℤ) → HoldRows s.rows xs ↔ HoldRows both xs
    hold xs = normal_hold both s.rows xs
        (both_moduli g K p.system q.system same_columns one.plain other.plain is.first is.second is.own is.others) is.rows

    holds : (xs : List ℤ) → HoldsSystem s xs ↔ HoldRows both xs
    holds xs =
        let at = plain_point s.definitions xs is.plain.definitions in (
          (λ h. (hold xs).0 (subst (HoldRows s.rows) at h)),
          (λ h. subst (HoldRows s.rows) (sym at) ((hold xs).1 h)),
        )

    abbrev of_first : (point : List ℤ) → length point ≡ p.system.columns → K point → HoldsSystem p.system point → HoldRows both point
    of_first = in_first g K p.system q.system same_columns one.plain other.plain is.first is.second is.own is.others

    abbrev of_second : (point : List ℤ) → length point ≡ p.system.columns → K point → HoldsSystem q.system point → HoldRows both point
    of_second = in_second g K p.system q.system same_columns one.plain other.plain is.first is.second is.own is.others

    joint_columns : s.columns ≡ length s.definitions + columns_of params p.space
    joint_columns =
        let none = ap (λ (ds : List Definition). length ds) is.plain.definitions in
        let columns = is.columns in
        let free = plain_columns g params p one in
        omega (arith, none, columns, free)

    joint_sound : IsPieceOf params (piece_in p.space s)
    joint_sound = record {
      columns = joint_columns;
      kept = kept_from g params (piece_of p.space s) one.sound.kept.space
          (subst (IsSystemWithin g) (system_is params p.space s joint_columns) is.plain.within) is.normal
          (λ void. is.some (λ point long it hold hold'.
          void point (long ∙ plain_columns g params p one) ((holds point).1 (All-append (H point) is.first is.second hold hold'))));
    }

    joint_elements : (v : Valuation) (e : Element) → P v → HasElement params v e (kept_piece (piece_in p.space s))
        ↔ (HasElement params v e (kept_piece p) ⊎ HasElement params v e (kept_piece q))
    joint_elements v e assumes =
        let point = point_of params v e in
        let it = (known_at known params over v e).1 assumes in
        let long = λ (numbers : IsElement e) (lies : p.space ≡ e.space).
        element_long params v e p.space numbers lies ∙ sym (plain_columns g params p one) in (
          (λ h.
              let rows = All-parts (H point) is.first is.second ((holds point).0 h.holds) in
              elim (is.covered point (long h.numbers h.space) it rows.0 rows.1) [
                | inl x ↦ inl (record { numbers = h.numbers; space = h.space; holds = x })
                | inr y ↦ inr (record { numbers = h.numbers; space = space ∙ h.space; holds = y })
              ]),
          (λ some. elim some [
            | inl h ↦ record {
              numbers = h.numbers;
              space = h.space;
              holds = (holds point).1 (of_first point (long h.numbers h.space) it h.holds);
            }
            | inr h ↦
                let lies = sym space ∙ h.space in
                record {
                  numbers = h.numbers;
                  space = lies;
                  holds = (holds point).1 (of_second point (long h.numbers lies) it h.holds);
                }
          ]),
        )

    joint_some : ¬ IsDeadAt P params (kept_piece (piece_in p.space s))
    joint_some dead = is.some (λ point l it hold hold'.
        dead (valuation_of point l) (element_of point l) (assumed_there point l it) (record {
          numbers = element_is params p.space point distinct (l ∙ plain_columns g params p one);
          space = refl;
          holds = subst (HoldsSystem s) (sym (its_point point l)) ((holds point).1 (All-append (H point) is.first is.second hold hold'));
        }))

    pub joint_is : IsJointPiece g P params p q (piece_in p.space s)
    joint_is = record {
      fits = record { sound = joint_sound; plain = is.plain };
      joins = record {
        same = space;
        space = refl;
        definitions = is.plain.definitions;
        first = is.first;
        second = is.second;
        own = parts_same (IsTrueThroughout K q.system) (IsTrueAt P params (kept_piece q)) (true_on g params q other known over distinct)
            p.system.rows is.first is.own;
        others = parts_same (IsTrueThroughout K p.system) (IsTrueAt P params (kept_piece p)) (true_on g params p one known over distinct)
            q.system.rows is.second is.others;
        rows = is.rows;
        elements = joint_elements;
        some = joint_some;
      };
    }

-- ---- two pieces of different spaces
pub apart_elsewhere : (P : Valuation → Type 0) (params : List Name) (p q : PieceView) → q.space ≢ p.space
    → AreUnjoined (IsJointAt P params) (kept_piece p) (kept_piece q)
apart_elsewhere P params p q differ = record { forth = λ joint h. differ h.same; back = λ joint h. differ (sym h.same) }

-- the limit at another time
pub joint_earlier : (g h : Gauge) (P : Valuation → Type 0) (params : List Name) (p q joint : PieceView) → IsCharged g h
    → IsJointPiece h P params p q joint → IsJointPiece g P params p q joint
joint_earlier g h P params p q joint charged is = record { joins = is.joins; fits = plain_earlier g h params joint charged is.fits }
