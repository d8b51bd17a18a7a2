-- The numbers behind a prefix at which systems hold.
use Rattle.std.proofs.Common.{◌≡◌, ◌↔◌, ◌⊎◌, ◌∙◌, inl, inr, refl, sym, ap, subst, arith, ℕ}
use Rattle.std.proofs.Common.{◌+◌, ◌-◌, ◌^◌, ◌<◌, ◌≤◌, ℤ, pos, List, [], ◌∷◌, ◌++◌, length}
use Rattle.std.proofs.Common.{get_or, take, unsigned_abs}
use Rattle.std.specs.Prelude.{Result, Ok, Err, MatchResult}
use Rattle.std.specs.List.{All, Any, Contains}
use Rattle.std.proofs.lemmas.List.{get_or-drop, length_push, take_more, length-append}
use Rattle.std.proofs.lemmas.List.Elements.{All-nil, All-cons, All-append, Contains-push, Contains-append_left, Contains-append_right, Contains-append_cases}
use Rattle.isl_math.proofs.ListLaws.{Any-left, Any-right, Any-parts, Any-one, Any-first, Any-weaker}
use Rattle.isl_meter.specs.Gauge.{Gauge, IsCharged, IsWithin}
use Rattle.isl_meter.proofs.CutLemmas.{IsCharged_refl, IsCharged_trans, IsCharged-unit}
use Rattle.isl_piece.specs.declared.row.Row.{Row}
use Rattle.isl_piece.specs.declared.system.System.{System}
use Rattle.isl_piece.specs.Row.{coef_at}
use Rattle.isl_piece.specs.System.{HoldRows, HoldsSystem, IsSystemWithin, free_columns}
use Rattle.isl_elim.specs.Elimination.{HoldsAtAny}
use Rattle.isl_elim.proofs.ProjectionLaws.{any_mapped, plain_free, plain_holds}
use Rattle.isl_tower.specs.Ends.{EndsBelow, EndsAbove, HasLowerEnd, HasUpperEnd}
use Rattle.isl_tower.specs.Numbers.{row_at, system_at}
use Rattle.isl_tower.proofs.NumberLaws.{holds_system_at}
use Rattle.isl_tower.proofs.TowerLaws.{charged_limit}
use Rattle.isl_points.specs.Fibre.{IsEnded}
use Rattle.isl_points.specs.Line.{IsListing}
use Rattle.isl_points.proofs.ListLaws.{contains_one, no_numbers, same_numbers}

-- ---- one system
pub rows_at : (g : Gauge) (s : System) (prefix : List ℤ) (x : ℤ) → IsSystemWithin g s → s.definitions ≡ []
    → free_columns s ≡ length prefix + 1
    → HoldRows (system_at prefix s).rows (x ∷ []) ↔ HoldsSystem s (prefix ++ x ∷ [])
rows_at g s prefix x w d f =
    let free = plain_free s d in
    let at = holds_system_at s.columns prefix s (x ∷ []) d w.rows (omega (arith, free, f)) in
    let rows = plain_holds (system_at prefix s) (x ∷ []) refl in (
      (λ h. at.0 (rows.1 h)),
      (λ h. rows.0 (at.1 h)),
    )

pub at_prefix : (g : Gauge) (s : System) (prefix : List ℤ) (rows : List Row) (x : ℤ) → IsSystemWithin g s → s.definitions ≡ []
    → free_columns s ≡ length prefix + 1 → rows ≡ (system_at prefix s).rows → HoldRows rows (x ∷ []) ↔ HoldsSystem s (prefix ++ x ∷ [])
at_prefix g s prefix rows x w d f e = subst (λ (l : List Row). HoldRows l (x ∷ []) ↔ HoldsSystem s (prefix ++ x ∷ [])) (sym e)
    (rows_at g s prefix x w d f)

-- an end of the last column is one of what is left
coef_left : (prefix : List ℤ) (r : Row) (col : ℕ) → col ≡ length prefix → coef_at (row_at prefix r) 0 ≡ coef_at r col
coef_left prefix r col e = get_or-drop (length prefix) r.coefs 0 (pos 0)
    ∙ ap (λ (n : ℕ). get_or r.coefs n (pos 0)) (omega (arith, e))

lower_left : (s : System) (prefix : List ℤ) (col : ℕ) → col ≡ length prefix → HasLowerEnd col s.rows
    → HasLowerEnd 0 (system_at prefix s).rows
lower_left s prefix col e h = any_mapped (λ r. EndsBelow r.kind (coef_at r 0)) (row_at prefix) s.rows
    (Any-weaker (λ r. EndsBelow r.kind (coef_at r col)) (λ r. EndsBelow r.kind (coef_at (row_at prefix r) 0))
    (λ r m. subst (λ (c : ℤ). EndsBelow r.kind c) (sym (coef_left prefix r col e)) m) s.rows h)

upper_left : (s : System) (prefix : List ℤ) (col : ℕ) → col ≡ length prefix → HasUpperEnd col s.rows
    → HasUpperEnd 0 (system_at prefix s).rows
upper_left s prefix col e h = any_mapped (λ r. EndsAbove r.kind (coef_at r 0)) (row_at prefix) s.rows
    (Any-weaker (λ r. EndsAbove r.kind (coef_at r col)) (λ r. EndsAbove r.kind (coef_at (row_at prefix r) 0))
    (λ r m. subst (λ (c : ℤ). EndsAbove r.kind c) (sym (coef_left prefix r col e)) m) s.rows h)

-- where the rows that are left lack an end on one side, they hold nowhere
pub left_ended : (g : Gauge) (s : System) (prefix : List ℤ) (rows : List Row) → IsSystemWithin g s → s.definitions ≡ []
    → free_columns s ≡ length prefix + 1 → IsEnded s → rows ≡ (system_at prefix s).rows
    → (¬ (HasLowerEnd 0 rows × HasUpperEnd 0 rows)) → (x : ℤ) → ¬ HoldRows rows (x ∷ [])
left_ended g s prefix rows w d f ended e none x h =
    ended (λ ends. none (
      subst (HasLowerEnd 0) (sym e) (lower_left s prefix (free_columns s - 1) last ends.0),
      subst (HasUpperEnd 0) (sym e) (upper_left s prefix (free_columns s - 1) last ends.1),
    )) (prefix ++ x ∷ []) (let l = length_push prefix x in omega (arith, l, f))
    ((rows_at g s prefix x w d f).0 (subst (λ (rs : List Row). HoldRows rs (x ∷ [])) e h))
  where
    last : free_columns s - 1 ≡ length prefix
    last = omega (arith, f)

-- ---- listings
pub no_listing : (g h : Gauge) (P : ℤ → Type 0) (xs : List ℤ) → h ≡ g → xs ≡ [] → ((x : ℤ) → ¬ P x) → IsListing g h P xs
no_listing g h P xs e n none = rw (e, n) (record {
  numbers = no_numbers P none;
  within = All-nil (IsWithin g);
  counted = omega arith;
  charged = IsCharged_refl g g refl;
})

pub one_listing : (g h : Gauge) (P : ℤ → Type 0) (x : ℤ) (xs : List ℤ) → xs ≡ x ∷ [] → h ≡ record g { units = g.units + 1 } → IsWithin g x
    → ((z : ℤ) → P z ↔ (z ≡ x)) → IsListing g h P xs
one_listing g h P x xs e used w s =
    let charged = IsCharged-unit g h used in
    let more = ap (λ (m : Gauge). m.units) used in
    rw e (record {
      numbers = record {
        exact = λ z. (
          (λ c. (s z).1 (sym (contains_one x z c))),
          (λ p. subst (Contains (x ∷ [])) (sym ((s z).0 p)) (Contains-push [] x)),
        );
        ordered = λ i j d below inside. absurd (omega (arith, below, inside));
      };
      within = All-cons (IsWithin g) x [] w (All-nil (IsWithin g));
      counted = omega (arith, more);
      charged = charged;
    })

pub same_listing : (g h k : Gauge) (P Q : ℤ → Type 0) (xs : List ℤ) → h ≡ g → ((x : ℤ) → P x ↔ Q x) → IsListing h k P xs
    → IsListing g k Q xs
same_listing g h k P Q xs e s l = record {
  numbers = same_numbers P Q xs s l.numbers;
  within = subst (λ (m : Gauge). All (IsWithin m) xs) e l.within;
  counted = subst (λ (m : Gauge). m.units + length xs ≤ k.units) e l.counted;
  charged = subst (λ (m : Gauge). IsCharged m k) e l.charged;
}

pub same_result : {A E : Type 0} (r : Result A E) (P Q : A → Type 0) (R S : E → Type 0) → ((a : A) → P a → Q a) → ((e : E) → R e → S e)
    → MatchResult r P R → MatchResult r Q S
same_result (Ok a) P Q R S f g m = f a m
same_result (Err e) P Q R S f g m = g e m

-- ---- one system or several
pub one_system : (systems : List System) (s : System) (p : List ℤ) → length systems ≡ 1 → s ≡ get_or systems 0 s
    → HoldsSystem s p ↔ HoldsAtAny systems p
one_system [] s p l e = absurd (omega arith)
one_system (t ∷ []) s p l e = (
  (λ h. Any-first (λ r. HoldsSystem r p) t [] (subst (λ r. HoldsSystem r p) e h)),
  (λ a. subst (λ r. HoldsSystem r p) (sym e) (Any-one (λ r. HoldsSystem r p) t a)),
)
one_system (t ∷ (u ∷ systems)) s p l e = absurd (omega arith)

-- the numbers of P were gathered, in any order, with at least a unit for each
pub record IsGathering (old new : Gauge) (P : ℤ → Type 0) (xs : List ℤ) : Type 0 where
  pub exact : (x : ℤ) → Contains xs x ↔ P x
  pub within : All (IsWithin old) xs
  pub counted : old.units + length xs ≤ new.units
  pub charged : IsCharged old new

pub nothing_gathered : (g : Gauge) (P : ℤ → Type 0) (xs : List ℤ) → xs ≡ [] → ((x : ℤ) → ¬ P x) → IsGathering g g P xs
nothing_gathered g P xs e none =
    let l = no_listing g g P xs refl e none in
    record { exact = l.numbers.exact; within = l.within; counted = l.counted; charged = l.charged }

pub more_gathered : (g h k : Gauge) (P Q R : ℤ → Type 0) (xs ys new : List ℤ) → IsGathering g h P xs → IsListing h k Q ys
    → new ≡ xs ++ ys → ((x : ℤ) → (P x ⊎ Q x) ↔ R x) → IsGathering g k R new
more_gathered g h k P Q R xs ys new a b e s = rw e (record {
  exact = λ x. (
    (λ c. (s x).0 (elim (Contains-append_cases xs ys x c) [
      | inl l ↦ inl ((a.exact x).0 l)
      | inr m ↦ inr ((b.numbers.exact x).0 m)
    ])),
    (λ r. elim ((s x).1 r) [
      | inl p ↦ Contains-append_left xs ys x ((a.exact x).1 p)
      | inr q ↦ Contains-append_right xs ys x ((b.numbers.exact x).1 q)
    ]),
  );
  within = All-append (IsWithin g) xs ys a.within
      (λ i d l. subst (λ (n : ℕ). unsigned_abs (get_or ys i d) < 2 ^ n) (charged_limit g h a.charged) (b.within i d l));
  counted = (let n = length-append xs ys in let m = a.counted in let o = b.counted in omega (arith, n));
  charged = IsCharged_trans g h k a.charged b.charged;
})

-- one system more
pub some_more : (systems : List System) (i : ℕ) (s : System) (p : List ℤ) → i < length systems → s ≡ get_or systems i s
    → (HoldsAtAny (take i systems) p ⊎ HoldsSystem s p) ↔ HoldsAtAny (take (i + 1) systems) p
some_more systems i s p l e =
    let P : System → Type 0 = λ t. HoldsSystem t p in
    let more : take (i + 1) systems ≡ take i systems ++ s ∷ [] = take_more systems i s l
    ∙ ap (λ (t : System). take i systems ++ t ∷ []) (sym e) in (
      (λ h. subst (Any P) (sym more) (elim h [
        | inl a ↦ Any-left P (take i systems) (s ∷ []) a
        | inr b ↦ Any-right P (take i systems) (s ∷ []) (Any-first P s [] b)
      ])),
      (λ h. elim (Any-parts P (take i systems) (s ∷ []) (subst (Any P) more h)) [
        | inl a ↦ inl a
        | inr b ↦ inr (Any-one P s b)
      ]),
    )
