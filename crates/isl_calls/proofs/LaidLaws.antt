-- Visits, laid out by their times.
use Rattle.std.proofs.Common.{◌≡◌, ◌↔◌, inl, inr, sym, ap, ◌∙◌, subst, arith, ℕ, ◌+◌, ℤ, Bool, true, false, List, [], ◌∷◌, ◌++◌}
use Rattle.std.proofs.Common.{◌<◌, ◌^◌, append-nil, get_or, length}
use Rattle.std.specs.List.{All, AllZip}
use Rattle.std.proofs.lemmas.Bool.{false≢true}
use Rattle.isl_math.proofs.ListLaws.{AllZip-weaker, AllZip-with}
use Rattle.isl_meter.specs.Gauge.{Gauge}
use Rattle.isl_space.specs.Form.{Form, width_of}
use Rattle.isl_space.specs.Name.{Name}
use Rattle.isl_space.specs.Names.{IsParameterList}
use Rattle.isl_space.specs.Shape.{form_of}
use Rattle.isl_space.specs.SpaceForm.{SpaceForm, set_of, map_of}
use Rattle.isl_space.specs.Valuation.{Valuation, values_of}
use Rattle.isl_space.proofs.ValuationLaws.{length-values_of}
use Rattle.isl_piece.specs.Piece.{PieceView}
use Rattle.isl_piece.specs.declared.system.System.{System}
use Rattle.isl_piece.specs.System.{HoldsSystem, IsSystemWithin, free_columns}
use Rattle.isl_blocks.specs.Blocks.{numbers_of, total, widths_of, IsSpread}
use Rattle.isl_union.specs.KeptValue.{HasElement, columns_of}
use Rattle.isl_union.specs.Numbers.{AreWithinLimit}
use Rattle.isl_union.specs.Piece.{kept_piece, IsPieceOf}
use Rattle.isl_union.proofs.SystemLaws.{view_free}
use Rattle.isl_relation.specs.Point.{Point, IsPoint}
use Rattle.isl_schedule.specs.Schedule.{domain_form, time_form, IsVisitedAt}
use Rattle.isl_schedule.specs.Visits.{visit_blocks, visit_widths, AreVisitsOf, IsVisitOf, Visit}
use Rattle.isl_schedule.specs.declared.visits.Visits.{Visits}
use Rattle.isl_schedule.proofs.CheckLaws.{all_over}
use Rattle.isl_calls.specs.Calls.{numbers_behind, IsCalledAt, IsSetForm}
use Rattle.isl_calls.specs.declared.calls.Calls.{Calls}
use Rattle.isl_calls.specs.Laid.{IsLaidOut, IsOwnLaid, IsTimedLaid}
use Rattle.isl_calls.proofs.ZipLaws.{zip_through}

set_apart : (x y z : Form) → set_of x ≡ map_of y z → ⊥
set_apart x y z e = cc

same_sets : (x y : Form) → set_of x ≡ set_of y → x ≡ y
same_sets x y e = cc

-- ---- the points of a set, at themselves
module _ (p : PieceView) (calls : Calls) (a : Form) (lies : p.space ≡ set_of a) (domain : form_of calls.domain.value ≡ domain_form p.space)
    (time : form_of calls.time.value ≡ domain_form p.space) (own : calls.is_own ≡ true) (same : calls.system ≡ p.system) where
  domain_is : form_of calls.domain.value ≡ a
  domain_is = domain ∙ ap domain_form lies

  time_is : form_of calls.time.value ≡ a
  time_is = time ∙ ap domain_form lies

  module _ (params : List Name) (v : Valuation) (x t : Point) where
    abbrev HasIt : Type 0
    HasIt = IsVisitedAt (λ element. HasElement params v element (kept_piece p)) x t

    -- the system is asked at the time
    holds_at : HoldsSystem calls.system (values_of params v ++ numbers_behind calls.is_own x.numbers t.numbers)
        ↔ HoldsSystem p.system (values_of params v ++ t.numbers)
    holds_at = (
      (λ h. subst (λ (b : Bool). HoldsSystem p.system (values_of params v ++ numbers_behind b x.numbers t.numbers)) own
          (subst (λ (s : System). HoldsSystem s (values_of params v ++ numbers_behind calls.is_own x.numbers t.numbers)) same h)),
      (λ h. subst (λ (s : System). HoldsSystem s (values_of params v ++ numbers_behind calls.is_own x.numbers t.numbers)) (sym same)
          (subst (λ (b : Bool). HoldsSystem p.system (values_of params v ++ numbers_behind b x.numbers t.numbers)) (sym own) h)),
    )

    own_visit : HasIt ↔ IsCalledAt params v x t calls
    own_visit = (
      (λ h. elim h [
        | inl set ↦
            let form : x.form ≡ a = same_sets x.form a (sym set.0.has.space ∙ lies) in
            let numbers : t.numbers ≡ x.numbers = ap (λ (y : Point). y.numbers) set.1 in
            record {
              domain = form ∙ sym domain_is;
              time = ap (λ (y : Point). y.form) set.1 ∙ form ∙ sym time_is;
              point = set.0.point;
              at = subst IsPoint (sym set.1) set.0.point;
              own = λ e. set.1;
              holds = holds_at.1 (subst (λ (ns : List ℤ). HoldsSystem p.system (values_of params v ++ ns)) (sym numbers) set.0.has.holds);
            }
        | inr map ↦ absurd (set_apart a x.form t.form (sym lies ∙ map.has.space))
      ]),
      (λ h.
          let is : t ≡ x = h.own own in
          let numbers : t.numbers ≡ x.numbers = ap (λ (y : Point). y.numbers) is in
          inl (
            record {
              point = h.point;
              has = record {
                numbers = h.point;
                space = lies ∙ sym (ap set_of (h.domain ∙ domain_is));
                holds = subst (λ (ns : List ℤ). HoldsSystem p.system (values_of params v ++ ns)) numbers (holds_at.0 h.holds);
              };
            },
            is,
          )),
    )

  pub own_laid : p.system.definitions ≡ [] → IsOwnLaid p calls
  own_laid plain g params sound within = record {
    domain = domain;
    time = time_is ∙ sym (ap time_form lies);
    own = own;
    same = λ e. domain_is ∙ sym time_is;
    called = own_visit params;
    within = subst (IsSystemWithin g) (sym same) within;
    plain = ap (λ (s : System). s.definitions) same ∙ plain;
    system = λ e. same;
    free = ap free_columns same ∙ view_free params p sound ∙ ap (columns_of params) lies
        ∙ ap (λ n. length params + n) (sym (ap width_of time_is));
  }

pub set_laid : (p : PieceView) (calls : Calls) (s : SpaceForm) → p.space ≡ s → IsSetForm s → form_of calls.domain.value ≡ domain_form p.space
    → form_of calls.time.value ≡ domain_form p.space → calls.is_own ≡ true → calls.system ≡ p.system → p.system.definitions ≡ []
    → IsOwnLaid p calls
set_laid p calls (set_of a) lies set domain time own same plain = own_laid p calls a lies domain time own same plain
set_laid p calls (map_of a b) lies set domain time own same plain = absurd set

-- ---- visits, the times before the points
module _ (n : ℕ) (visits : Visits) (calls : Calls) (made : System) (wide : visits.system.definitions ≡ [])
    (domain : form_of calls.domain.value ≡ form_of visits.domain.value) (time : form_of calls.time.value ≡ form_of visits.time.value)
    (own : calls.is_own ≡ false) (same : calls.system ≡ made)
    (spread : (g : Gauge) → IsSystemWithin g visits.system
    → IsSpread g (n ∷ width_of (form_of visits.time.value) ∷ width_of (form_of visits.domain.value) ∷ []) (0 ∷ 2 ∷ 1 ∷ []) visits.system made)
  where
    module _ (g : Gauge) (params : List Name) (p : PieceView) (few : length params ≡ n) (visit : IsVisitOf g params p visits) where
      abbrev turned : Valuation → Point → Point → List (List ℤ)
      turned v x t = values_of params v ∷ t.numbers ∷ x.numbers ∷ []

      turned_wide : (v : Valuation) (x t : Point) → x.form ≡ form_of visits.domain.value → t.form ≡ form_of visits.time.value → IsPoint x
          → IsPoint t
          → widths_of (turned v x t) ≡ n ∷ width_of (form_of visits.time.value) ∷ width_of (form_of visits.domain.value) ∷ []
      turned_wide v x t e h first second =
          let m = length-values_of params v ∙ few in
          let i = first ∙ ap width_of e in
          let j = second ∙ ap width_of h in
          cc

      -- the one system holds at the point and then the time, where the other holds at the time and then the point
      turned_holds : (v : Valuation) (x t : Point) → x.form ≡ form_of visits.domain.value → t.form ≡ form_of visits.time.value → IsPoint x
          → IsPoint t
          → HoldsSystem calls.system (values_of params v ++ numbers_behind calls.is_own x.numbers t.numbers)
          ↔ HoldsSystem visits.system (numbers_of (visit_blocks params v x t))
      turned_holds v x t e h first second =
          let both = (spread g visit.within).points (turned v x t) (turned_wide v x t e h first second) in
          let none : x.numbers ++ [] ≡ x.numbers = append-nil x.numbers in (
            (λ k. both.0 (subst (λ (ns : List ℤ). HoldsSystem made (values_of params v ++ (t.numbers ++ ns))) (sym none)
                (subst (λ (b : Bool). HoldsSystem made (values_of params v ++ numbers_behind b x.numbers t.numbers)) own
                (subst (λ (s : System). HoldsSystem s (values_of params v ++ numbers_behind calls.is_own x.numbers t.numbers)) same k)))),
            (λ k. subst (λ (s : System). HoldsSystem s (values_of params v ++ numbers_behind calls.is_own x.numbers t.numbers)) (sym same)
                (subst (λ (b : Bool). HoldsSystem made (values_of params v ++ numbers_behind b x.numbers t.numbers)) (sym own)
                (subst (λ (ns : List ℤ). HoldsSystem made (values_of params v ++ (t.numbers ++ ns))) none (both.1 k)))),
          )

      visit_called : (v : Valuation) (x t : Point) → Visit params v x t visits ↔ IsCalledAt params v x t calls
      visit_called v x t = (
        (λ h. record {
          domain = h.domain ∙ sym domain;
          time = h.time ∙ sym time;
          point = h.point;
          at = h.at;
          own = λ e. absurd (false≢true (sym own ∙ e));
          holds = (turned_holds v x t h.domain h.time h.point h.at).1 h.holds;
        }),
        (λ h. record {
          domain = h.domain ∙ domain;
          time = h.time ∙ time;
          point = h.point;
          at = h.at;
          holds = (turned_holds v x t (h.domain ∙ domain) (h.time ∙ time) h.point h.at).0 h.holds;
        }),
      )

      pub timed_laid : IsLaidOut g params false p calls
      timed_laid =
          let spread' = spread g visit.within in
          record {
            domain = domain ∙ visit.domain;
            time = time ∙ visit.time;
            own = own;
            same = λ e. absurd (false≢true e);
            called = λ v x t.
                let first = visit.visited v x t in
                let second = visit_called v x t in
                ((λ h. second.0 (first.0 h)), (λ h. first.1 (second.1 h)));
            within = subst (IsSystemWithin g) (sym same) spread'.within;
            plain = ap (λ (s : System). s.definitions) same ∙ spread'.definitions wide;
            system = λ e. absurd (false≢true e);
            free = ap free_columns same ∙ spread'.free
                ∙ columns (length params) (width_of (form_of visits.domain.value)) (width_of (form_of visits.time.value))
                (width_of (form_of calls.domain.value)) (width_of (form_of calls.time.value)) few (ap width_of domain) (ap width_of time);
          }
        where
          columns : (m d t d' t' : ℕ) → m ≡ n → d' ≡ d → t' ≡ t → n + (t + (d + 0)) ≡ m + (t' + d')
          columns m d t d' t' e h i = omega (arith, e, h, i)

-- ---- all pieces
pub all_own_laid : (g : Gauge) (params : List Name) (pieces : List PieceView) (calls : List Calls) → All (IsPieceOf params) pieces
    → AreWithinLimit g pieces → AllZip IsOwnLaid pieces calls → AllZip (IsLaidOut g params true) pieces calls
all_own_laid g params pieces calls sound within laid =
    AllZip-weaker (λ (p : PieceView) (c : Calls). (IsOwnLaid p c × IsPieceOf params p) × IsSystemWithin g p.system)
    (IsLaidOut g params true) (λ p c h. h.0.0 g params h.0.1 h.1) pieces calls
    (AllZip-with (λ (p : PieceView) (c : Calls). IsOwnLaid p c × IsPieceOf params p) (λ (p : PieceView). IsSystemWithin g p.system)
    pieces calls (AllZip-with IsOwnLaid (IsPieceOf params) pieces calls laid sound) within)

pub all_timed_laid : (g : Gauge) (params : List Name) (pieces : List PieceView) (visits : List Visits) (calls : List Calls) (n : ℕ)
    → n ≡ length params → AreVisitsOf g params pieces visits → AllZip (IsTimedLaid n) visits calls
    → AllZip (IsLaidOut g params false) pieces calls
all_timed_laid g params pieces visits calls n few are laid =
    zip_through (IsVisitOf g params) (IsTimedLaid n) (IsLaidOut g params false) (λ p v c visit turn. turn g params p (sym few) visit)
    pieces visits calls are laid

-- what the code asks of visits
module _ (g : Gauge) (params : List Name) (list : IsParameterList params) (pieces : List PieceView) (visits : List Visits)
    (are : AreVisitsOf g params pieces visits) (sound : All (IsPieceOf params) pieces) where
  pub visits_free : (n : ℕ) → n ≡ length params → All (λ one. free_columns one.system ≡ total (visit_widths n one)) visits
  visits_free n is = subst (λ k. All (λ one. free_columns one.system ≡ total (visit_widths k one)) visits) (sym is)
      (λ i d l. (all_over g params list pieces visits are sound i d l).free)

  pub visits_narrow : (n : ℕ) → n ≡ length params → All (λ one. total (visit_widths n one) < 2 ^ 32) visits
  visits_narrow n is = subst (λ k. All (λ one. total (visit_widths k one) < 2 ^ 32) visits) (sym is) (λ i d l.
      let one = get_or visits i d in
      fewer (length params) (width_of (form_of one.domain.value)) (width_of (form_of one.time.value))
      (all_over g params list pieces visits are sound i d l).narrow)
    where
      fewer : (n d t : ℕ) → n + (d + (t + (t + 0))) < 2 ^ 32 → n + (d + (t + 0)) < 2 ^ 32
      fewer n d t h = omega (arith, h)
