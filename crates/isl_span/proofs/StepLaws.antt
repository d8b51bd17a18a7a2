-- The forms of a hull, one place after another.
use Rattle.std.proofs.Common.{◌≡◌, ◌≢◌, ◌∙◌, sym, ap, subst, arith, ℕ, ◌+◌, ◌<◌, ℤ, pos, ◌+ℤ◌}
use Rattle.std.proofs.Common.{List, [], ◌∷◌, ◌++◌, length, length-append, map, get_or, take, drop, take-append-drop}
use Rattle.std.specs.List.{All, AllByRecursion, AllZip}
use Rattle.std.proofs.lemmas.List.{drop_at, drop_more, length-take-le, map-append, take_at, take_more}
use Rattle.std.proofs.lemmas.List.Elements.{All-append, All-cons, All-drop, All-from_recursion, All-nil, length_all_zip}
use Rattle.isl_math.specs.Dot.{dot}
use Rattle.isl_math.proofs.ListLaws.{AllZip-weaker}
use Rattle.isl_meter.specs.Gauge.{Gauge}
use Rattle.isl_piece.specs.declared.row.Row.{Row}
use Rattle.isl_piece.specs.Row.{value_at}
use Rattle.isl_span.specs.Forms.{AreExchanged, AreToldApart, IsExchanged, IsForm, forms_of}
use Rattle.isl_span.specs.Points.{AreFormsFor, VanishesOnAll}
use Rattle.isl_span.proofs.FormLaws.{form_later, forms_later}
use Rattle.isl_span.specs.Spanned.{Fun, HaveOwn, IsMultipleOf, IsSpanned, Vanish, exchanged}
use Rattle.isl_span.proofs.OwnLaws.{own_divided, own_exchanged, vanish_all_divided}
use Rattle.isl_span.proofs.SpannedLaws.{exchange, last_first, proved_more, spanned_divided}

pub later : (g h : Gauge) (n : ℕ) (P : List ℤ → Type 0) (count : ℕ) (rows : List Row) → h.bits ≡ g.bits → AreFormsFor g n P count rows
    → AreFormsFor h n P count rows
later g h n P count rows same old = record {
  few = old.few;
  forms = forms_later g h n rows same old.forms;
  start = old.start;
  at_start = old.at_start;
  points = old.points;
  long = old.long;
  own = old.own;
  proved = old.proved;
  spanned = old.spanned;
}

-- each of the first forms has a point at which it is not 0, and the next one is
apart_all : (gs : List Row) (h : Row) (proved : List Row) (start : List ℤ) → Vanish (forms_of (gs ++ h ∷ proved)) start
    → (xs : List (List ℤ)) → HaveOwn (forms_of (gs ++ h ∷ proved)) xs → AllByRecursion (λ (g : Row). AreToldApart g h) gs
apart_all [] h proved start zeros xs own = tt
apart_all (g ∷ gs) h proved start zeros [] own = absurd own
apart_all (g ∷ gs) h proved start zeros (x ∷ xs) own = (
  record {
    zero = start;
    both = (zeros.0, middle gs start zeros.1);
    own = x;
    alone = (own.0, middle gs x own.1);
  },
  apart_all gs h proved start zeros.1 xs own.3,
)
  where
    middle : (gs : List Row) (x : List ℤ) → Vanish (forms_of (gs ++ h ∷ proved)) x → value_at h x ≡ pos 0
    middle [] x zeros = zeros.0
    middle (k ∷ gs) x zeros = middle gs x zeros.1

-- what is exchanged
module _ (g : Gauge) (n : ℕ) (h : Row) (q : List ℤ) where
  zip_multiples : (gs first : List Row) → AllZip (IsExchanged g n h q) gs first
      → AllZip IsMultipleOf (map (exchanged (value_at h) q) (forms_of gs)) (forms_of first)
  zip_multiples [] [] all = tt
  zip_multiples [] (f ∷ first) all = absurd all
  zip_multiples (k ∷ gs) [] all = absurd all
  zip_multiples (k ∷ gs) (f ∷ first) all = (all.0.multiple, zip_multiples gs first all.1)

  zip_forms : (gs first : List Row) → AllZip (IsExchanged g n h q) gs first → All (IsForm g n) first
  zip_forms [] [] all = All-nil (IsForm g n)
  zip_forms [] (f ∷ first) all = absurd all
  zip_forms (k ∷ gs) [] all = absurd all
  zip_forms (k ∷ gs) (f ∷ first) all = All-cons (IsForm g n) f first all.0.made (zip_forms gs first all.1)

zip_at : (g : Gauge) (n : ℕ) (h : Row) (q : List ℤ) (other : Row → Row) → other h ≡ h → (gs first : List Row)
    → AllZip (λ form left. (d : Row) → IsExchanged g n (other d) q form left) gs first → AllZip (IsExchanged g n h q) gs first
zip_at g n h q other is [] [] all = tt
zip_at g n h q other is [] (f ∷ first) all = absurd all
zip_at g n h q other is (k ∷ gs) [] all = absurd all
zip_at g n h q other is (k ∷ gs) (f ∷ first) all =
    (subst (λ (o : Row). IsExchanged g n o q k f) is (all.0 h), zip_at g n h q other is gs first all.1)

-- the same for an earlier meter, and for as many columns
pub one_before : (g h : Gauge) (n : ℕ) (other : Row) (q : List ℤ) (form new : Row) → h.bits ≡ g.bits → IsExchanged h n other q form new
    → IsExchanged g n other q form new
one_before g h n other q form new same e = record { made = form_later h g n new (sym same) e.made; multiple = e.multiple }

pub exchanged_before : (g h : Gauge) (n m at : ℕ) (q : List ℤ) (rows new : List Row) → h.bits ≡ g.bits → m ≡ n
    → AreExchanged h m at q rows new
    → AreExchanged g n at q rows new
exchanged_before g h n m at q rows new same wide e =
    subst (λ k. AreExchanged g k at q rows new) wide (record {
      first = e.first;
      each = AllZip-weaker (λ form left. (d : Row) → IsExchanged h m (get_or rows at d) q form left)
          (λ form left. (d : Row) → IsExchanged g m (get_or rows at d) q form left)
          (λ form left x d. one_before g h m (get_or rows at d) q form left same (x d))
          (take at rows) e.first e.each;
      is = e.is;
    })

module _ (g : Gauge) (n : ℕ) (P : List ℤ → Type 0) (rows : List Row) (at : ℕ) (low : at < length rows) (h : Row) (is : get_or rows at h ≡ h)
    (old : AreFormsFor g n P (at + 1) rows) where
  abbrev gs : List Row
  gs = take at rows

  abbrev proved : List Row
  proved = drop (at + 1) rows

  front_more : take (at + 1) rows ≡ gs ++ h ∷ []
  front_more = take_more rows at h low ∙ ap (λ r. gs ++ r ∷ []) is

  rest_less : drop at rows ≡ h ∷ proved
  rest_less = drop_more rows at h low ∙ ap (λ r. r ∷ proved) is

  whole : rows ≡ gs ++ h ∷ proved
  whole = sym (take-append-drop at rows) ∙ ap (λ l. gs ++ l) rest_less

  all_forms : forms_of rows ≡ forms_of gs ++ value_at h ∷ forms_of proved
  all_forms = ap forms_of whole ∙ map-append value_at gs (h ∷ proved)

  spanned_so_far : (coefs : List ℤ) (constant : ℤ) → VanishesOnAll n P coefs constant
      → IsSpanned (forms_of proved) (value_at h ∷ forms_of gs) (λ point. dot coefs point +ℤ constant)
  spanned_so_far coefs constant v =
      let f : Fun = λ point. dot coefs point +ℤ constant in
      last_first (forms_of proved) (forms_of gs) (value_at h) f
      (subst (λ l. IsSpanned (forms_of proved) l f) (ap forms_of front_more ∙ map-append value_at gs (h ∷ []))
      (old.spanned coefs constant v))

  pub apart_forms : All (λ form. AreToldApart form h) (take at rows)
  apart_forms = All-from_recursion (λ form. AreToldApart form h) gs
      (apart_all gs h proved old.start (subst (λ (l : List Row). Vanish (forms_of l) old.start) whole old.at_start) old.points
      (subst (λ (l : List Row). HaveOwn (forms_of l) old.points) whole old.own))

  -- the form is 0 at all points
  pub stays : ((point : List ℤ) → P point → value_at h point ≡ pos 0) → AreFormsFor g n P at rows
  stays zero = record {
    few = omega (arith, low);
    forms = old.forms;
    start = old.start;
    at_start = old.at_start;
    points = old.points;
    long = old.long;
    own = old.own;
    proved = λ x p. subst (λ (l : List Row). Vanish (forms_of l) x) (sym rest_less) (zero x p, old.proved x p);
    spanned = λ coefs constant v.
        let f : Fun = λ point. dot coefs point +ℤ constant in
        subst (λ (l : List Row). IsSpanned (forms_of l) (forms_of gs) f) (sym rest_less)
        (proved_more (forms_of proved) (forms_of gs) (value_at h) f (spanned_so_far coefs constant v));
  }

  -- it is not 0 at this one
  pub goes : (q : List ℤ) → P q → value_at h q ≢ pos 0 → (new : List Row) → AreExchanged g n at q rows new → AreFormsFor g n P at new
  goes q here nonzero new e =
      let first = e.first in
      let few = length-take-le at rows (omega (arith, low)) in
      let each : AllZip (IsExchanged g n h q) gs first = zip_at g n h q (λ d. get_or rows at d) is gs first e.each in
      let long : length first ≡ at = sym (length_all_zip (IsExchanged g n h q) gs first each) ∙ few in
      let front : take at new ≡ first = ap (take at) e.is ∙ take_at first proved at long in
      let rest : drop at new ≡ proved = ap (drop at) e.is ∙ drop_at first proved at long in
      let multiples = zip_multiples g n h q gs first each in
      let both : forms_of new ≡ forms_of first ++ forms_of proved = ap forms_of e.is ∙ map-append value_at first proved in
      let r = own_exchanged (value_at h) q nonzero (forms_of gs) (forms_of proved) old.points
      (subst (λ l. HaveOwn l old.points) all_forms old.own) in
      record {
        few = let a = length-append first proved in let b = ap (λ (l : List Row). length l) e.is in omega (arith, a, b, long);
        forms = subst (All (IsForm g n)) (sym e.is) (All-append (IsForm g n) first proved (zip_forms g n h q gs first each)
            (All-drop (IsForm g n) (at + 1) rows old.forms));
        start = old.start;
        at_start = subst (λ l. Vanish l old.start) (sym both)
            (vanish_all_divided (value_at h) q (forms_of gs) (forms_of first) (forms_of proved) old.start multiples
            (subst (λ l. Vanish l old.start) all_forms old.at_start));
        points = r.0;
        long = r.2 (λ x. length x ≡ n) old.long;
        own = subst (λ l. HaveOwn l r.0) (sym both)
            (own_divided (map (exchanged (value_at h) q) (forms_of gs)) (forms_of first) (forms_of proved) r.0 multiples r.1);
        proved = λ x p. subst (λ (l : List Row). Vanish (forms_of l) x) (sym rest) (old.proved x p);
        spanned = λ coefs constant v.
            let f : Fun = λ point. dot coefs point +ℤ constant in
            subst (λ (l : List Row). IsSpanned (forms_of l) (forms_of (take at new)) f) (sym rest)
            (subst (λ (l : List Row). IsSpanned (forms_of proved) (forms_of l) f) (sym front)
            (spanned_divided (forms_of proved) (map (exchanged (value_at h) q) (forms_of gs)) (forms_of first) f multiples
            (exchange (forms_of proved) (forms_of gs) (value_at h) f q nonzero (v.zero q here) (old.proved q here)
            (spanned_so_far coefs constant v))));
      }
