-- What is called for a value.
use Rattle.std.proofs.Common.{◌≡◌, ◌↔◌, inl, inr, refl, sym, ap, ◌∙◌, subst, arith, ℕ, ◌+◌, ◌-◌, ◌≤◌, ◌^◌, ℤ, unsigned_abs, Bool, true, false}
use Rattle.std.proofs.Common.{List, [], ◌∷◌, ◌++◌, length, length-append, get_or, map, take, drop}
use Rattle.std.specs.Prelude.{Result, Ok, Err, IfOk, MatchResult}
use Rattle.std.specs.List.{All, AllPairs, AllZip, Any, Contains, zip}
use Rattle.std.proofs.lemmas.Bool.{false≢true}
use Rattle.std.proofs.lemmas.List.{length-drop, length-take-le, take-append-drop}
use Rattle.std.proofs.lemmas.List.Elements.{All-append, All-cons, All-contains, All-head, All-nil, Contains-get_or}
use Rattle.isl_math.proofs.ListLaws.{All-parts, All-unmapped, All-zipped, Any-cases, Any-contains, Any-element, Any-first, Any-later, Any-unmapped}
use Rattle.isl_math.proofs.ListLaws.{Any-weaker, Any-zipped}
use Rattle.isl_meter.specs.Gauge.{Gauge, IsCharged, IsCutBy, IsMetered}
use Rattle.isl_meter.specs.declared.Cut.{Cut}
use Rattle.isl_meter.proofs.CutLemmas.{IsCutBy-after}
use Rattle.isl_space.specs.Element.{Element}
use Rattle.isl_space.specs.Form.{Form, width_of, IsNamed}
use Rattle.isl_space.specs.Limits.{most_coordinates}
use Rattle.isl_space.specs.Name.{Name}
use Rattle.isl_space.specs.Names.{AreDistinct}
use Rattle.isl_space.specs.Shape.{form_of}
use Rattle.isl_space.specs.SpaceForm.{SpaceForm, coordinates_of, set_of, map_of, IsNamedSpace}
use Rattle.isl_space.specs.Valuation.{Valuation, values_of}
use Rattle.isl_space.proofs.ValuationLaws.{length-values_of, values_of-zip}
use Rattle.isl_piece.specs.declared.row.Row.{Row}
use Rattle.isl_piece.specs.declared.system.System.{System}
use Rattle.isl_piece.specs.Piece.{PieceView}
use Rattle.isl_piece.specs.System.{HoldsSystem, free_columns}
use Rattle.isl_difference.proofs.SplitLaws.{system_kept}
use Rattle.isl_tower.specs.Bounded.{AreUpTo, IsBounded}
use Rattle.isl_union.specs.KeptValue.{KeptPiece, KeptValue, Has, HasElement}
use Rattle.isl_union.specs.Numbers.{IsPieceUpTo, IsWithinLimit}
use Rattle.isl_union.specs.Piece.{kept_piece, IsPieceOf}
use Rattle.isl_union.proofs.AlignedLaws.{Any-mapped}
use Rattle.isl_union.proofs.MeetSteps.{charged_bits}
use Rattle.isl_relation.specs.Point.{Point, IsPoint, map_element, set_element}
use Rattle.isl_schedule.specs.declared.fault.GenFault.TheVariants as gen_fault
use Rattle.isl_schedule.specs.Refused.{IsRefused}
use Rattle.isl_schedule.specs.Schedule.{domain_form, time_form, IsPair, IsSchedule, IsVisitedAt}
use Rattle.isl_schedule.proofs.CheckLaws.{nested_exact, shapes_exact}
use Rattle.isl_calls.specs.declared.calls.Calls.{Calls}
use Rattle.isl_calls.specs.Apart.{called_form, AreApartOf, AreEven, HoldsFor, IsPartOf, IsPlainWithin}
use Rattle.isl_calls.specs.Calls.{numbers_behind, width_behind, AreCallsOf, AreOwnCalls, IsCalledAt, IsSetForm, IsSetOf}
use Rattle.isl_calls.specs.Laid.{IsLaidOut}

-- ---- lists
pub zipped_back : {A B : Type 0} (R : A → B → Type 0) (P : A → Type 0) (Q : B → Type 0) → ((a : A) (b : B) → R a b → Q b → P a)
    → (xs : List A) (ys : List B) → AllZip R xs ys → Any Q ys → Any P xs
zipped_back R P Q f [] [] z a = absurd (let h = a.2 in omega arith)
zipped_back R P Q f [] (y ∷ ys) z a = absurd z
zipped_back R P Q f (x ∷ xs) [] z a = absurd z
zipped_back R P Q f (x ∷ xs) (y ∷ ys) z a = elim (Any-cases Q y ys a) [
  | inl q ↦ Any-first P x xs (f x y z.0 q)
  | inr b ↦ Any-later P x xs (zipped_back R P Q f xs ys z.1 b)
]

-- what is so of each two of the one list is so of each two of the other
pub zipped_pairs : {A B : Type 0} (R : A → B → Type 0) (P : A → A → Type 0) (Q : B → B → Type 0)
    → ((a c : A) (b d : B) → R a b → R c d → P a c → Q b d) → (xs : List A) (ys : List B) → AllZip R xs ys → All (λ a. All (P a) xs) xs
    → All (λ b. All (Q b) ys) ys
zipped_pairs R P Q f xs ys z all =
    All-zipped R (λ a. All (P a) xs) (λ b. All (Q b) ys)
    (λ a b r h. All-zipped R (P a) (Q b) (λ c d s p. f a c b d r s p) xs ys z h) xs ys z all

-- ---- elements of pieces
module _ (params : List Name) (pieces : List PieceView) (v : Valuation) (x t : Point) where
  abbrev Told : PieceView → Type 0
  Told p = IsVisitedAt (λ e. HasElement params v e (kept_piece p)) x t

  pub visited_any : IsVisitedAt (λ e. Any (HasElement params v e) (map kept_piece pieces)) x t ↔ Any Told pieces
  visited_any = (
    (λ h. elim h [
      | inl set ↦ Any-weaker (λ (p : PieceView). HasElement params v (set_element x) (kept_piece p)) Told
          (λ p has. inl (record { point = set.0.point; has = has }, set.1)) pieces
          (Any-unmapped (HasElement params v (set_element x)) kept_piece pieces set.0.has)
      | inr map ↦ Any-weaker (λ (p : PieceView). HasElement params v (map_element x t) (kept_piece p)) Told
          (λ p has. inr (record { from = map.from; to = map.to; has = has })) pieces
          (Any-unmapped (HasElement params v (map_element x t)) kept_piece pieces map.has)
    ]),
    (λ a.
        let some = Any-element Told pieces a in
        let P : Element → PieceView → Type 0 = λ e p. HasElement params v e (kept_piece p) in
        elim some.2 [
          | inl set ↦ inl (
            record {
              point = set.0.point;
              has = Any-mapped (HasElement params v (set_element x)) kept_piece pieces
                  (Any-contains (P (set_element x)) pieces some.0 some.1 set.0.has);
            },
            set.1,
          )
          | inr map ↦ inr (record {
            from = map.from;
            to = map.to;
            has = Any-mapped (HasElement params v (map_element x t)) kept_piece pieces
                (Any-contains (P (map_element x t)) pieces some.0 some.1 map.has);
          })
        ]),
  )

-- ---- calls at a point of their columns
module _ (params : List Name) (v : Valuation) (x t : Point) (own : Bool) where
  abbrev column_point : List ℤ
  column_point = values_of params v ++ numbers_behind own x.numbers t.numbers

  abbrev IsAlike : Calls → Type 0
  IsAlike c = (c.is_own ≡ own) × (form_of c.time.value ≡ t.form)

  record IsAt : Type 0 where
    point : IsPoint x
    at : IsPoint t
    itself : own ≡ true → t ≡ x

  called_holds : (c : Calls) → IsAlike c → IsCalledAt params v x t c → IsAt × (called_form c ≡ x.form) × HoldsSystem c.system column_point
  called_holds c alike h = (
    record { point = h.point; at = h.at; itself = λ e. h.own (alike.0 ∙ e) },
    sym h.domain,
    subst (λ (b : Bool). HoldsSystem c.system (values_of params v ++ numbers_behind b x.numbers t.numbers)) alike.0 h.holds,
  )

  holds_called : (c : Calls) → IsAlike c → IsAt → called_form c ≡ x.form → HoldsSystem c.system column_point → IsCalledAt params v x t c
  holds_called c alike at form h = record {
    domain = sym form;
    time = sym alike.1;
    point = at.point;
    at = at.at;
    own = λ e. at.itself (sym alike.0 ∙ e);
    holds = subst (λ (b : Bool). HoldsSystem c.system (values_of params v ++ numbers_behind b x.numbers t.numbers)) (sym alike.0) h;
  }

  -- some calls have it where the systems for its form hold
  calls_hold : (calls : List Calls) → All IsAlike calls → Any (IsCalledAt params v x t) calls
      → IsAt × HoldsFor x.form calls column_point
  calls_hold calls alike a =
      let some = Any-element (IsCalledAt params v x t) calls a in
      let h = called_holds some.0 (All-contains IsAlike calls some.0 alike some.1) some.2 in (
        h.0,
        Any-contains (λ (c : Calls). (called_form c ≡ x.form) × HoldsSystem c.system column_point) calls some.0 some.1 (h.1, h.2),
      )

  hold_calls : (calls : List Calls) → All IsAlike calls → IsAt → HoldsFor x.form calls column_point → Any (IsCalledAt params v x t) calls
  hold_calls calls alike at a =
      let some = Any-element (λ (c : Calls). (called_form c ≡ x.form) × HoldsSystem c.system column_point) calls a in
      Any-contains (IsCalledAt params v x t) calls some.0 some.1
      (holds_called some.0 (All-contains IsAlike calls some.0 alike some.1) at some.2.0 some.2.1)

pub behind_long : (own : Bool) (x t : List ℤ) → length (numbers_behind own x t) ≡ width_behind own (length x) (length t)
behind_long true x t = refl
behind_long false x t = length-append t x

-- ---- numbers behind the parameters
-- they are those of a point and its time
pub record IsRead (c : Calls) (b : Bool) (rest : List ℤ) : Type 0 where
  pub x : Point
  pub t : Point
  pub domain : x.form ≡ called_form c
  pub time : t.form ≡ form_of c.time.value
  pub point : IsPoint x
  pub at : IsPoint t
  pub own : b ≡ true → t ≡ x
  pub is : numbers_behind b x.numbers t.numbers ≡ rest

pub read : (c : Calls) (b : Bool) (rest : List ℤ) → (b ≡ true → called_form c ≡ form_of c.time.value)
    → length rest ≡ width_behind b (width_of (called_form c)) (width_of (form_of c.time.value)) → IsRead c b rest
read c true rest same long =
    let form = same refl in
    record {
      x = record { form = called_form c; numbers = rest };
      t = record { form = called_form c; numbers = rest };
      domain = refl;
      time = form;
      point = long ∙ ap width_of (sym form);
      at = long ∙ ap width_of (sym form);
      own = λ e. refl;
      is = refl;
    }
read c false rest same long =
    let n = width_of (form_of c.time.value) in
    record {
      x = record { form = called_form c; numbers = drop n rest };
      t = record { form = form_of c.time.value; numbers = take n rest };
      domain = refl;
      time = refl;
      point = length-drop n rest ∙ (let l = long in omega (arith, l));
      at = length-take-le n rest (let l = long in omega (arith, l));
      own = λ e. absurd (false≢true e);
      is = take-append-drop n rest;
    }

-- ---- calls that are laid out
forms_wide : (s : SpaceForm) → coordinates_of s ≤ most_coordinates
    → (width_of (domain_form s) ≤ most_coordinates) × (width_of (time_form s) ≤ most_coordinates)
forms_wide (set_of a) most = (most, most)
forms_wide (map_of a b) most = (omega (arith, most), omega (arith, most))

domain_named : (s : SpaceForm) → IsNamedSpace s → IsNamed (domain_form s)
domain_named (set_of a) named = named
domain_named (map_of a b) named = named.0

record IsSound (g : Gauge) (params : ℕ) (c : Calls) : Type 0 where
  within : IsPlainWithin g c
  free : free_columns c.system ≡ params + width_behind c.is_own (width_of (called_form c)) (width_of (form_of c.time.value))
  narrow : (width_of (called_form c) ≤ most_coordinates) × (width_of (form_of c.time.value) ≤ most_coordinates)
  named : IsNamed (called_form c)
  flat : ¬ IsPair (called_form c)
  same : c.is_own ≡ true → called_form c ≡ form_of c.time.value

-- a part is as sound as what it is a part of
part_sound : (g : Gauge) (params : ℕ) (c part : Calls) → IsSound g params c → IsPartOf g c part → IsSound g params part
part_sound g params c part s p = record {
  within = p.sound;
  free = p.free ∙ s.free ∙ sym (ap (λ (b : Bool). params + width_behind b (width_of (called_form part)) (width_of (form_of part.time.value)))
      p.like.own ∙ ap (λ (f : Form). params + width_behind c.is_own (width_of f) (width_of (form_of part.time.value))) p.like.domain
      ∙ ap (λ (f : Form). params + width_behind c.is_own (width_of (called_form c)) (width_of f)) p.like.time);
  narrow = (
    subst (λ (f : Form). width_of f ≤ most_coordinates) (sym p.like.domain) s.narrow.0,
    subst (λ (f : Form). width_of f ≤ most_coordinates) (sym p.like.time) s.narrow.1,
  );
  named = subst IsNamed (sym p.like.domain) s.named;
  flat = λ pair. s.flat (subst IsPair p.like.domain pair);
  same = λ e. p.like.domain ∙ s.same (sym p.like.own ∙ e) ∙ sym p.like.time;
}

module _ (g : Gauge) (value : KeptValue) (pieces : List PieceView) (are : map kept_piece pieces ≡ value.pieces) (own : Bool)
    (laid : List Calls) (zipped : AllZip (IsLaidOut g value.params own) pieces laid) (schedule : IsSchedule value)
    (names : AreDistinct value.params) (sound : All (IsPieceOf value.params) pieces) where
  abbrev params : List Name
  params = value.params

  trivial : All (λ (p : PieceView). Unit {0}) pieces
  trivial = λ i d l. tt

  laid_own : All (λ c. c.is_own ≡ own) laid
  laid_own = All-zipped (IsLaidOut g params own) (λ p. Unit {0}) (λ c. c.is_own ≡ own) (λ p c r u. r.own) pieces laid zipped trivial

  laid_times : All (λ a. All (λ b. form_of a.time.value ≡ form_of b.time.value) laid) laid
  laid_times = zipped_pairs (IsLaidOut g params own) (λ p q. time_form p.space ≡ time_form q.space)
      (λ a b. form_of a.time.value ≡ form_of b.time.value) (λ p q a b r s e. r.time ∙ e ∙ sym s.time) pieces laid zipped
      ((shapes_exact value pieces are).1 schedule.one_form)

  abbrev IsFine : PieceView → Type 0
  IsFine p = (¬ IsPair (domain_form p.space))
      × (width_of (domain_form p.space) ≤ most_coordinates) × (width_of (time_form p.space) ≤ most_coordinates) × IsNamed (domain_form p.space)

  fine : All IsFine pieces
  fine = λ i d l.
      let space = (sound i d l).kept.space in
      let narrow = forms_wide (get_or pieces i d).space space.narrow.coordinates in (
        (λ pair. schedule.flat ((nested_exact value pieces are).0
            (Any-contains (λ (p : PieceView). IsPair (domain_form p.space)) pieces (get_or pieces i d) (Contains-get_or pieces i d l) pair))),
        narrow.0,
        narrow.1,
        domain_named (get_or pieces i d).space space.named,
      )

  laid_sound : All (IsSound g (length params)) laid
  laid_sound = All-zipped (IsLaidOut g params own) IsFine (IsSound g (length params)) (λ p c r f. record {
    within = record { within = r.within; plain = r.plain };
    free = r.free ∙ ap (λ (b : Bool). length params + width_behind b (width_of (called_form c)) (width_of (form_of c.time.value))) (sym r.own);
    narrow = (
      subst (λ (form : Form). width_of form ≤ most_coordinates) (sym r.domain) f.1,
      subst (λ (form : Form). width_of form ≤ most_coordinates) (sym r.time) f.2,
    );
    named = subst IsNamed (sym r.domain) f.3;
    flat = λ pair. f.0 (subst IsPair r.domain pair);
    same = λ e. r.same (sym r.own ∙ e);
  }) pieces laid zipped fine

  pub laid_plain : All (IsPlainWithin g) laid
  laid_plain = λ i d l. (laid_sound i d l).within

  pub laid_even : AreEven laid
  laid_even = λ i d l j e m same.
      let a = laid_sound i d l in
      let b = laid_sound j e m in
      a.free ∙ ap (λ (w : Bool). length params + width_behind w (width_of (called_form (get_or laid i d)))
      (width_of (form_of (get_or laid i d).time.value))) (laid_own i d l ∙ sym (laid_own j e m))
      ∙ ap (λ (f : Form). length params + width_behind (get_or laid j e).is_own (width_of f)
      (width_of (form_of (get_or laid i d).time.value))) same
      ∙ ap (λ (f : Form). length params + width_behind (get_or laid j e).is_own (width_of (called_form (get_or laid j e))) (width_of f))
      (laid_times i d l j e m) ∙ sym b.free

  -- what pieces tell, their calls have
  laid_called : (v : Valuation) (x t : Point) → Any (IsCalledAt params v x t) laid ↔ IsVisitedAt (Has value v) x t
  laid_called v x t =
      let both : IsVisitedAt (Has value v) x t ↔ Any (Told params pieces v x t) pieces =
      subst (λ (ps : List KeptPiece). IsVisitedAt (λ e. Any (HasElement params v e) ps) x t ↔ Any (Told params pieces v x t) pieces) are
      (visited_any params pieces v x t) in (
        (λ a. both.1 (zipped_back (IsLaidOut g params own) (Told params pieces v x t) (IsCalledAt params v x t)
            (λ p c r h. (r.called v x t).1 h) pieces laid zipped a)),
        (λ h. Any-zipped (IsLaidOut g params own) (Told params pieces v x t) (IsCalledAt params v x t) (λ p c r k. (r.called v x t).0 k) pieces
            laid zipped (both.0 h)),
      )

  module _ (made : List Calls) (apart : AreApartOf g laid made) (sets : All (λ piece. IsSetForm piece.space) pieces → own ≡ true)
      (alone : (form : Form) (rows : List Row) → IsSetOf form rows value → AreOwnCalls form rows made) where
    origin : (a : Calls) → Contains made a → (c : Calls) × Contains laid c × IsPartOf g c a
    origin a h = Any-element (λ (c : Calls). IsPartOf g c a) laid
        (All-contains (λ part. Any (λ c. IsPartOf g c part) laid) made a apart.parts h)

    made_sound : (a : Calls) → Contains made a → IsSound g (length params) a
    made_sound a h = let o = origin a h in
        part_sound g (length params) o.0 a (All-contains (IsSound g (length params)) laid o.0 laid_sound o.1) o.2

    made_own : (a : Calls) → Contains made a → a.is_own ≡ own
    made_own a h = let o = origin a h in o.2.like.own ∙ All-contains (λ c. c.is_own ≡ own) laid o.0 laid_own o.1

    time_same : (c d : Calls) → Contains laid c → Contains laid d → form_of c.time.value ≡ form_of d.time.value
    time_same c d h k = All-contains (λ (b : Calls). form_of c.time.value ≡ form_of b.time.value) laid d
        (All-contains (λ (a : Calls). All (λ b. form_of a.time.value ≡ form_of b.time.value) laid) laid c laid_times h) k

    -- with the form of one time of those that are laid out all have it
    module _ (v : Valuation) (x t : Point) (c : Calls) (c_in : Contains laid c) (form : form_of c.time.value ≡ t.form) where
      laid_alike : All (IsAlike params v x t own) laid
      laid_alike = λ i d l. (laid_own i d l, time_same (get_or laid i d) c (Contains-get_or laid i d l) c_in ∙ form)

      made_alike : All (IsAlike params v x t own) made
      made_alike = λ i d l.
          let o = origin (get_or made i d) (Contains-get_or made i d l) in
          (made_own (get_or made i d) (Contains-get_or made i d l), o.2.like.time ∙ time_same o.0 c o.1 c_in ∙ form)

      wide : IsAt params v x t own → All (λ d. called_form d ≡ x.form → length (column_point params v x t own) ≡ free_columns d.system) laid
      wide at = λ i d l e.
          let s = laid_sound i d l in
          let a = laid_alike i d l in
          let n = length-append (values_of params v) (numbers_behind own x.numbers t.numbers) in
          let m = length-values_of params v in
          let b = behind_long own x.numbers t.numbers in
          let same : width_behind own (length x.numbers) (length t.numbers)
          ≡ width_behind (get_or laid i d).is_own (width_of (called_form (get_or laid i d))) (width_of (form_of (get_or laid i d).time.value)) =
          ap (λ (k : ℕ). width_behind own k (length t.numbers)) (at.point ∙ ap width_of (sym e))
          ∙ ap (λ (k : ℕ). width_behind own (width_of (called_form (get_or laid i d))) k) (at.at ∙ ap width_of (sym a.1))
          ∙ ap (λ (w : Bool). width_behind w (width_of (called_form (get_or laid i d))) (width_of (form_of (get_or laid i d).time.value)))
          (sym a.0) in
          n ∙ ap (λ k. k + length (numbers_behind own x.numbers t.numbers)) m ∙ ap (λ k. length params + k) (b ∙ same) ∙ sym s.free

      made_from : Any (IsCalledAt params v x t) laid → Any (IsCalledAt params v x t) made
      made_from a =
          let h = calls_hold params v x t own laid laid_alike a in
          hold_calls params v x t own made made_alike h.0
          ((apart.points x.form (column_point params v x t own) (wide h.0)).1 h.1)

      made_to : Any (IsCalledAt params v x t) made → Any (IsCalledAt params v x t) laid
      made_to a =
          let h = calls_hold params v x t own made made_alike a in
          hold_calls params v x t own laid laid_alike h.0
          ((apart.points x.form (column_point params v x t own) (wide h.0)).0 h.1)

    made_called : (v : Valuation) (x t : Point) → Any (IsCalledAt params v x t) made ↔ IsVisitedAt (Has value v) x t
    made_called v x t = (
      (λ a.
          let some = Any-element (IsCalledAt params v x t) made a in
          let o = origin some.0 some.1 in
          (laid_called v x t).0 (made_to v x t o.0 o.1 (sym o.2.like.time ∙ sym some.2.time) a)),
      (λ h.
          let a = (laid_called v x t).1 h in
          let some = Any-element (IsCalledAt params v x t) laid a in
          made_from v x t some.0 some.1 (sym some.2.time) a),
    )

    made_once : (v : Valuation) (x t : Point) → AllPairs (λ a b. IsCalledAt params v x t a → ¬ IsCalledAt params v x t b) made
    made_once v x t i j d below low h k =
        let a = get_or made i d in
        let b = get_or made j d in
        let a_in = Contains-get_or made i d (omega (arith, below, low)) in
        let b_in = Contains-get_or made j d low in
        let a_at = called_holds params v x t own a (made_own a a_in, sym h.time) h in
        let b_at = called_holds params v x t own b (made_own b b_in, sym k.time) k in
        let o = origin a a_in in
        let long = wide v x t o.0 o.1 (sym o.2.like.time ∙ sym h.time) a_at.0 in
        let width : length (column_point params v x t own) ≡ free_columns a.system =
        All-contains (λ (c : Calls). called_form c ≡ x.form → length (column_point params v x t own) ≡ free_columns c.system) laid o.0 long o.1
        (sym o.2.like.domain ∙ a_at.1) ∙ sym o.2.free in
        (apart.apart i j d below low (a_at.1 ∙ sym b_at.1)).apart (column_point params v x t own) width a_at.2 b_at.2

    -- ---- bounds
    module _ (c : Calls) (c_in : Contains made c) (front : List ℤ) (few : length front ≡ length params) where
      abbrev v : Valuation
      v = zip params front

      valued : values_of params v ≡ front
      valued = values_of-zip params front names (sym few)

      abbrev bound : ℕ
      bound = (schedule.finite v).0

      -- the numbers of what is visited are
      visited_up : (x t : Point) → IsVisitedAt (Has value v) x t → AreUpTo bound x.numbers × AreUpTo bound t.numbers
      visited_up x t h = elim h [
        | inl set ↦
            let up : AreUpTo bound x.numbers = (schedule.finite v).1 (set_element x) set.0.has in
            (up, subst (λ (p : Point). AreUpTo bound p.numbers) (sym set.1) up)
        | inr map ↦ All-parts (λ z. unsigned_abs z ≤ bound) x.numbers t.numbers ((schedule.finite v).1 (map_element x t) map.has)
      ]

      called_up : (x t : Point) → IsCalledAt params v x t c → AreUpTo bound (numbers_behind c.is_own x.numbers t.numbers)
      called_up x t h =
          let both = visited_up x t ((made_called v x t).0 (Any-contains (IsCalledAt params v x t) made c c_in h)) in
          by c.is_own both.0 both.1
        where
          by : (b : Bool) → AreUpTo bound x.numbers → AreUpTo bound t.numbers → AreUpTo bound (numbers_behind b x.numbers t.numbers)
          by true up at = at
          by false up at = All-append (λ z. unsigned_abs z ≤ bound) t.numbers x.numbers at up

      rest_up : (rest : List ℤ) → length front + length rest ≡ free_columns c.system → HoldsSystem c.system (front ++ rest)
          → AreUpTo bound rest
      rest_up rest long h =
          let s = made_sound c c_in in
          let f = s.free in
          let r = read c c.is_own rest s.same (let l = long in let k = few in omega (arith, l, k, f)) in
          let at : HoldsSystem c.system (values_of params v ++ numbers_behind c.is_own r.x.numbers r.t.numbers) =
          subst (λ (ns : List ℤ). HoldsSystem c.system (ns ++ numbers_behind c.is_own r.x.numbers r.t.numbers)) (sym valued)
          (subst (λ (ns : List ℤ). HoldsSystem c.system (front ++ ns)) (sym r.is) h) in
          subst (AreUpTo bound) r.is (called_up r.x r.t (record {
            domain = r.domain;
            time = r.time;
            point = r.point;
            at = r.at;
            own = r.own;
            holds = at;
          }))

    made_bounded : (c : Calls) → Contains made c → IsBounded c.system (length params)
    made_bounded c c_in front few = (bound c c_in front few, λ rest long h. rest_up c c_in front few rest long h)

    pub calls_made : AreCallsOf g value made
    calls_made = record {
      each = λ i d l.
          let c = get_or made i d in
          let c_in = Contains-get_or made i d l in
          let s = made_sound c c_in in
          record {
            within = s.within.within;
            plain = s.within.plain;
            free = s.free;
            bounded = made_bounded c c_in;
            narrow = s.narrow;
            named = s.named;
            flat = s.flat;
            same = s.same;
          };
      alike = record {
        times = λ i d l j e m.
            let a = origin (get_or made i d) (Contains-get_or made i d l) in
            let b = origin (get_or made j e) (Contains-get_or made j e m) in
            a.2.like.time ∙ time_same a.0 b.0 a.1 b.1 ∙ sym b.2.like.time;
        layout = λ i d l j e m.
            made_own (get_or made i d) (Contains-get_or made i d l) ∙ sym (made_own (get_or made j e) (Contains-get_or made j e m));
      };
      exact = made_called;
      once = made_once;
      sets = λ all i d l. made_own (get_or made i d) (Contains-get_or made i d l)
          ∙ sets (All-unmapped (λ (piece : KeptPiece). IsSetForm piece.space) kept_piece pieces
          (subst (All (λ (piece : KeptPiece). IsSetForm piece.space)) (sym are) all));
      own = alone;
    }

-- ---- calls of one piece
-- they share no point with others
pub apart_alone : (g : Gauge) (calls : List Calls) → length calls ≤ 1 → All (IsPlainWithin g) calls → AreApartOf g calls calls
apart_alone g calls few plain = record {
  parts = λ i d l. Any-contains (λ (c : Calls). IsPartOf g c (get_or calls i d)) calls (get_or calls i d) (Contains-get_or calls i d l)
      (record { like = record { domain = refl; time = refl; own = refl }; sound = plain i d l; free = refl });
  points = λ form point long. ((λ h. h), (λ h. h));
  apart = λ i j d below low. absurd (omega (arith, below, low, few));
}

-- of one set they are its own, and there are no more
pub own_alone : (g : Gauge) (params : List Name) (own : Bool) (form : Form) (rows : List Row) (pieces : List PieceView) (laid : List Calls)
    → map kept_piece pieces ≡ record { space = set_of form; definitions = []; rows = rows } ∷ []
    → AllZip (IsLaidOut g params own) pieces laid → (All (λ piece. IsSetForm piece.space) pieces → own ≡ true) → AreOwnCalls form rows laid
own_alone g params own form rows [] laid e z sets = absurd (let l = ap length e in omega (arith, l))
own_alone g params own form rows (p ∷ q ∷ pieces) laid e z sets = absurd (let l = ap length e in omega (arith, l))
own_alone g params own form rows (p ∷ []) [] e z sets = absurd z
own_alone g params own form rows (p ∷ []) (c ∷ d ∷ laid) e z sets = absurd z.1
own_alone g params own form rows (p ∷ []) (c ∷ []) e z sets =
    let same : kept_piece p ≡ record { space = set_of form; definitions = []; rows = rows } =
    All-head (λ k. k ≡ record { space = set_of form; definitions = []; rows = rows }) (kept_piece p) []
    (subst (All (λ k. k ≡ record { space = set_of form; definitions = []; rows = rows })) (sym e)
    (All-cons (λ k. k ≡ record { space = set_of form; definitions = []; rows = rows })
    (record { space = set_of form; definitions = []; rows = rows }) [] refl
    (All-nil (λ k. k ≡ record { space = set_of form; definitions = []; rows = rows })))) in
    let space : p.space ≡ set_of form = ap (λ (k : KeptPiece). k.space) same in
    let is_set : IsSetForm p.space = subst IsSetForm (sym space) tt in
    let is_own : own ≡ true = sets (All-cons (λ (piece : PieceView). IsSetForm piece.space) p [] is_set
    (All-nil (λ (piece : PieceView). IsSetForm piece.space))) in
    record {
      one = c;
      only = refl;
      own = z.0.own ∙ is_own;
      time = z.0.time ∙ ap time_form space;
      rows_are = ap (λ (s : System). s.rows) (z.0.system is_own) ∙ ap (λ (k : KeptPiece). k.rows) same;
    }

-- ---- answers
pub answered : {A : Type 0} (P Q : A → Type 0) (g h : Gauge) (r : Result A Cut) → ((x : A) → P x → Q x) → IfOk r P → IsMetered g h r
    → MatchResult r (λ x. Q x × IsCharged g h) (IsCutBy g h)
answered P Q g h (Ok x) f p m = (f x p, m)
answered P Q g h (Err cut) f p m = m

pub value_later : (g h : Gauge) (value : KeptValue) → IsCharged g h → IsWithinLimit g value → IsWithinLimit h value
value_later g h value charged within = subst (λ (n : ℕ). All (IsPieceUpTo (2 ^ n - 1)) value.pieces) (charged_bits g h charged) within

-- calls of a meter that was charged
pub calls_later : (g h : Gauge) (value : KeptValue) (calls : List Calls) → IsCharged g h → AreCallsOf h value calls → AreCallsOf g value calls
calls_later g h value calls charged are = record {
  each = λ i d l.
      let c = are.each i d l in
      record {
        within = system_kept g h (get_or calls i d).system (sym (charged_bits g h charged)) c.within;
        plain = c.plain;
        free = c.free;
        bounded = c.bounded;
        narrow = c.narrow;
        named = c.named;
        flat = c.flat;
        same = c.same;
      };
  alike = are.alike;
  exact = are.exact;
  once = are.once;
  sets = are.sets;
  own = are.own;
}

-- why there are none, once the value was found to be a schedule
pub refused_later : (g h k : Gauge) (value : KeptValue) (cut : Cut) → IsSchedule value → IsCharged g h → IsCutBy h k cut
    → IsRefused value g k (gen_fault.Cut cut)
refused_later g h k value cut schedule charged by = (schedule.flat, schedule.one_form, IsCutBy-after g h k cut charged by)
