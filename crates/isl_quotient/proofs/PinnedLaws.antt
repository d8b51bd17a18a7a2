-- A column that two bounds pin: what is left has the quotient.
use Rattle.std.proofs.Common.{◌≡◌, ◌⊎◌, inl, inr, refl, sym, ap, subst, ◌∙◌, arith, Bool, true, false, ℕ, zero, suc, ◌+◌, ◌<◌, ◌≤◌, ℤ, pos}
use Rattle.std.proofs.Common.{negsuc, neg_ℤ, ◌<ℤ◌, List, [], ◌∷◌, length, get_or, take, option_to_list}
use Rattle.std.specs.Prelude.{nat_eq, unsigned_abs, ◌||◌, ◌&&◌, ◌↔◌, Option, Some, None, option_map, MatchOption}
use Rattle.std.specs.List.{All, Any, list_all}
use Rattle.std.specs.Ordering.{int_eq}
use Rattle.std.proofs.lemmas.List.{take_all}
use Rattle.std.proofs.lemmas.List.Elements.{All-head, All-tail, All-nil, All-cons, All-more}
use Rattle.isl_math.specs.Dot.{scaled}
use Rattle.isl_math.proofs.Ring.{linear}
use Rattle.isl_piece.specs.declared.definition.Definition.{Definition}
use Rattle.isl_piece.specs.declared.row.Row.{Row}
use Rattle.isl_piece.specs.declared.row.RowKind.TheVariants.{AtLeast}
use Rattle.isl_piece.specs.declared.system.System.{System}
use Rattle.isl_piece.specs.Normal.{normal_rows, normal_system}
use Rattle.isl_piece.specs.Row.{coef_at}
use Rattle.isl_piece.specs.System.{HoldsSystem, free_columns}
use Rattle.isl_elim.specs.Elimination.{HoldsAtAny, IsProjectionAlong, system_of}
use Rattle.isl_elim.specs.Others.{others_of}
use Rattle.isl_elim.specs.Solved.{IsUnitEquality}
use Rattle.isl_elim.proofs.OthersLaws.{without_none}
use Rattle.isl_quotient.specs.declared.pairs.Pair.{Pair}
use Rattle.isl_quotient.specs.declared.solved.Given.{Given}
use Rattle.isl_quotient.specs.Candidate.{is_undefining}
use Rattle.isl_quotient.specs.Given.{IsGivenBy}
use Rattle.isl_quotient.specs.Kept.{IsKept}
use Rattle.isl_quotient.specs.Pair.{names_only, IsPairOf, PinNone}
use Rattle.isl_quotient.specs.Quotient.{with_quotient, HavePinning, IsPinning, IsQuotient, IsUndefining, PinsNone}
use Rattle.isl_quotient.proofs.QuotientLaws.{opposite-at}
use Rattle.isl_quotient.proofs.TurnLaws.{same_read}

-- ---- nothing goes
module _ (s : System) (systems : List System) (is : systems ≡ option_to_list (normal_system s)) where
  alone_columns : All (λ t. free_columns t ≡ free_columns s) systems
  alone_columns = rw is (each (normal_rows s.rows))
    where
      each : (o : Option (List Row)) → All (λ t. free_columns t ≡ free_columns s)
          (option_to_list (option_map (system_of s.columns s.definitions) o))
      each None = All-nil (λ t. free_columns t ≡ free_columns s)
      each (Some rows) =
          All-cons (λ t. free_columns t ≡ free_columns s) (system_of s.columns s.definitions rows) [] refl
          (All-nil (λ t. free_columns t ≡ free_columns s))

  pub alone_projects : ((point : List ℤ) → HoldsAtAny systems point ↔ HoldsSystem s point) → IsProjectionAlong s [] systems
  alone_projects same = record {
    columns = λ k t l. let c = alone_columns k t l in omega (arith, c);
    points = λ point l. (
      (λ h. (point, omega (arith, l), without_none 0 point, (same point).0 h)),
      (λ h. (same point).1 (subst (HoldsSystem s) (sym (without_none 0 h.0) ∙ h.2) h.3)),
    );
  }

pub few_alone : {A : Type 0} (o : Option A) → length (option_to_list o) ≤ 1
few_alone None = omega arith
few_alone (Some a) = omega arith

-- ---- one column
pub pair_column : (rows : List Row) (col : ℕ) (p : Pair) → IsPairOf rows (col ∷ []) p → p.col ≡ col
pair_column rows col p h = by h.index h.among h.column
  where
    by : (i : ℕ) → i < length (col ∷ []) → get_or (col ∷ []) i 0 ≡ p.col → p.col ≡ col
    by zero l e = sym e
    by (suc i) l e = absurd (omega (arith, l))

pub no_others : (col : ℕ) → others_of col (col ∷ []) ≡ []
no_others col = let same : nat_eq col col ≡ true = grind arith in rw same refl

pub alone_names : (col : ℕ) (r : Row) → names_only col (col ∷ []) r ≡ true
alone_names col r = let same : nat_eq col col ≡ true = grind arith in rw same refl

pub some_none : (col : ℕ) → ¬ (col ∷ [] ≡ [])
some_none col e = let count = ap (λ (cs : List ℕ). length cs) e in omega (arith, count)

-- what is left then
pub pinned_kept : (s made : System) (col : ℕ) (p : Pair) (systems : List System) → IsPairOf s.rows (col ∷ []) p
    → ((d : Row) → made ≡ with_quotient p.col (get_or s.rows p.upper d) (get_or s.rows p.lower d) s)
    → systems ≡ option_to_list (normal_system made) → IsKept col s systems
pinned_kept s made col p systems h exact is =
    let none : Row = record { kind = AtLeast; coefs = []; constant = pos 0; k = pos 1 } in
    let upper = get_or s.rows p.upper none in
    let lower = get_or s.rows p.lower none in
    let c = pair_column s.rows col p h in
    record {
      upper = upper;
      lower = lower;
      has_upper = (p.upper, h.pair.upper, same_read s.rows p.upper upper none h.pair.upper);
      has_lower = (p.lower, h.pair.lower, same_read s.rows p.lower lower none h.pair.lower);
      quotient = subst (λ (j : ℕ). IsQuotient j upper lower) c (h.pair.quotient none);
      normal = is ∙ ap (λ (t : System). option_to_list (normal_system t)) (exact none ∙ ap (λ (j : ℕ). with_quotient j upper lower s) c);
    }

-- ---- what is not found
module _ {X : Type 0} (P : X → Type 0) (xs : List X) (i : ℕ) where
  pub one_more : (x : X) → i < length xs → x ≡ get_or xs i x → P x → All P (take i xs) → All P (take (i + 1) xs)
  one_more x low at p all = All-more P xs i x low all (subst P at p)

  pub all_seen : length xs ≤ i → All P (take i xs) → All P xs
  all_seen end all = subst (All P) (take_all i xs end) all

-- an upper bound has a coefficient below -1
pub upper_steep : (col : ℕ) (upper lower : Row) → IsPinning col upper lower → coef_at upper col <ℤ negsuc 0
upper_steep col upper lower h =
    let turn : coef_at upper col ≡ neg_ℤ (coef_at lower col) =
    ap (λ (cs : List ℤ). get_or cs col (pos 0)) h.quotient.opposite ∙ opposite-at lower.coefs col in
    let steep = h.steep in
    omega (arith, linear, turn, steep)

pub flat_pins : (rows : List Row) (col : ℕ) (upper : Row) → ¬ (coef_at upper col <ℤ negsuc 0) → PinsNone rows col upper
flat_pins rows col upper flat k d l pins = flat (upper_steep col upper (get_or rows k d) pins)

-- rows of which two pin the column are found
pub none_any : {X : Type 0} (P : X → Type 0) (xs : List X) → All (λ x. ¬ P x) xs → ¬ Any P xs
none_any P xs all a = all a.0 a.1 a.2 (subst P (sym a.3) a.4)

pub pinning_seen : (rows : List Row) (col : ℕ) → HavePinning rows col → ¬ All (λ upper. PinsNone rows col upper) rows
pinning_seen rows col have none =
    none_any (λ (upper : Row). Any (IsPinning col upper) rows) rows
    (λ k d l. none_any (IsPinning col (get_or rows k d)) rows (none k d l)) have

-- bounds of the one column that goes name no other
pub pinning_alone : (rows : List Row) (col : ℕ) → HavePinning rows col → ¬ All (PinNone rows (col ∷ [])) (col ∷ [])
pinning_alone rows col have none =
    let here = All-head (PinNone rows (col ∷ [])) col [] none in
    pinning_seen rows col have (λ k d l. here k d l (alone_names col (get_or rows k d)))

pub pinning_kept : (rows : List Row) (col : ℕ) → HavePinning rows col → ¬ All (λ row. All (λ c. PinsNone rows c row) (col ∷ [])) rows
pinning_kept rows col have none =
    pinning_seen rows col have (λ k d l. All-head (λ c. PinsNone rows c (get_or rows k d)) col [] (none k d l))

-- an equation that gives the one column is among the rows
pub given_one : (rows : List Row) (col : ℕ) (given : Given) → IsGivenBy rows (col ∷ []) given → ¬ All (λ r. ¬ IsUnitEquality col r) rows
given_one rows col given h none =
    let d : Row = record { kind = AtLeast; coefs = []; constant = pos 0; k = pos 1 } in
    none given.at d h.place (subst (λ (c : ℕ). IsUnitEquality c (get_or rows given.at d)) (sym (by h.index h.among h.column)) (h.unit d))
  where
    by : (i : ℕ) → i < length (col ∷ []) → get_or (col ∷ []) i 0 ≡ given.col → col ≡ given.col
    by zero l e = e
    by (suc i) l e = absurd (omega (arith, l))

-- no definition names the one column
pub one_undefining : (definitions : List Definition) (col : ℕ) → IsUndefining col definitions
    → list_all (is_undefining definitions) (col ∷ []) ≡ true
one_undefining definitions col none = rw (each definitions none) refl
  where
    each : (ds : List Definition) → IsUndefining col ds
        → list_all (λ (d : Definition). int_eq (get_or d.coefs col (pos 0)) (pos 0)) ds ≡ true
    each [] n = refl
    each (d ∷ ds) n =
        let here = All-head (λ (e : Definition). get_or e.coefs col (pos 0) ≡ pos 0) d ds n in
        rw (here, each ds (All-tail (λ (e : Definition). get_or e.coefs col (pos 0) ≡ pos 0) d ds n)) refl
