-- The steps of the search for the greatest list: what each leaves of where it stands.
use Rattle.std.proofs.Common.{◌≡◌, ◌⊎◌, ◌↔◌, inl, inr, refl, sym, ap, ◌∙◌, subst, arith, ℕ, zero, suc, ◌+◌, ◌<◌, ◌≤◌, ℤ, pos, neg_ℤ, ◌<ℤ◌, ◌≤ℤ◌, ◌+ℤ◌, ◌-ℤ◌, ◌*ℤ◌}
use Rattle.std.proofs.Common.{List, [], ◌∷◌, ◌++◌, length, take, get_or, Option, Some, None}
use Rattle.std.specs.Prelude.{unsigned_abs}
use Rattle.std.specs.List.{All, Any}
use Rattle.std.proofs.lemmas.List.{take_all, length-append, append_assoc}
use Rattle.std.proofs.lemmas.List.Elements.{All-more, All-nil}
use Rattle.isl_math.proofs.OrderLaws.{*ℤ-≤ℤ, cases_ℤ, at_most_or_above}
use Rattle.isl_math.proofs.ListLaws.{Any-none}
use Rattle.isl_math.proofs.Ring.{expand, linear}
use Rattle.isl_piece.specs.declared.row.Row.{Row}
use Rattle.isl_piece.specs.Row.{coef_at, HoldsRow}
use Rattle.isl_piece.specs.System.{HoldRows}
use Rattle.isl_greatest_law.specs.Case.{CaseView, At, Fits, HoldsCase, InSome, IsCase, IsCongruence, IsOther, IsRising, IsSteep, IsTop}
use Rattle.isl_greatest_law.specs.Front.{Begins, GivesGreatest, IsBest, IsGreatestOf, LeadsBy}
use Rattle.isl_greatest_law.specs.Stage.{IsAsking, IsBounding, IsLevel, IsOnLevel}
use Rattle.isl_greatest_law.proofs.BestLaws.{best_before, best_first, best_kept, best_later, best_same, next_below, one_more, tried_all}
use Rattle.isl_greatest_law.proofs.FrontLaws.{leads_away, leads_first, leads_last, leads_more, leads_none}
use Rattle.isl_greatest_law.proofs.RowLaws.{all_far, fits_on, flat_same, rising_up, top_end, top_of}

-- ---- one case, behind q
module _ (n : ℕ) (c : CaseView) (q : List ℤ) (case : IsCase n c) (l : length q ≡ n) where
  -- the first bound from above
  pub bounds_first : (r : Row) → 0 < length c.tops → r ≡ get_or c.tops 0 r → IsBounding c q (top_of n r q) 1
  bounds_first r some is =
      let top : IsTop n r = subst (IsTop n) (sym is) (case.tops 0 r some) in
      record {
        high = λ z at. (top_end n r q z top l).0 (subst (λ s. HoldsRow s (q ++ z ∷ [])) (sym is) (at.tops 0 r some));
        hold = λ z low. All-more (λ s. HoldsRow s (q ++ z ∷ [])) c.tops 0 r some (All-nil (λ s. HoldsRow s (q ++ z ∷ [])))
            (subst (λ s. HoldsRow s (q ++ z ∷ [])) is ((top_end n r q z top l).1 low));
      }

  -- a further one that holds at the number
  pub bounds_yes : (r : Row) (cur : ℤ) (next : ℕ) → next < length c.tops → r ≡ get_or c.tops next r → IsBounding c q cur next
      → HoldsRow r (q ++ cur ∷ []) → IsBounding c q cur (next + 1)
  bounds_yes r cur next inside is so_far holds =
      let top : IsTop n r = subst (IsTop n) (sym is) (case.tops next r inside) in
      record {
        high = so_far.high;
        hold = λ z low. All-more (λ s. HoldsRow s (q ++ z ∷ [])) c.tops next r inside (so_far.hold z low)
            (subst (λ s. HoldsRow s (q ++ z ∷ [])) is
            ((top_end n r q z top l).1 (let m = (top_end n r q cur top l).0 holds in omega (arith, linear, m, low))));
      }

  -- one that fails there: its own end is less
  pub bounds_no : (r : Row) (cur : ℤ) (next : ℕ) → next < length c.tops → r ≡ get_or c.tops next r → IsBounding c q cur next
      → ¬ HoldsRow r (q ++ cur ∷ []) → IsBounding c q (top_of n r q) (next + 1)
  bounds_no r cur next inside is so_far fails =
      let top : IsTop n r = subst (IsTop n) (sym is) (case.tops next r inside) in
      let less : (z : ℤ) → z ≤ℤ top_of n r q → z ≤ℤ cur = λ z low. elim (at_most_or_above cur (top_of n r q)) [
        | inl over ↦ absurd (fails ((top_end n r q cur top l).1 over))
        | inr above ↦ omega (arith, linear, low, above)
      ] in
      record {
        high = λ z at. (top_end n r q z top l).0 (subst (λ s. HoldsRow s (q ++ z ∷ [])) (sym is) (at.tops next r inside));
        hold = λ z low. All-more (λ s. HoldsRow s (q ++ z ∷ [])) c.tops next r inside (so_far.hold z (less z low))
            (subst (λ s. HoldsRow s (q ++ z ∷ [])) is ((top_end n r q z top l).1 low));
      }

  none_between : (cur u : ℤ) → cur <ℤ u → u ≤ℤ (cur +ℤ pos 0) → ⊥
  none_between cur u a b = omega (arith, linear, a, b)

  -- all bounds were looked at
  pub bounds_all : (cur : ℤ) (next : ℕ) → length c.tops ≤ next → IsBounding c q cur next → IsAsking n c q cur (pos 0) 0
  bounds_all cur next all so_far = record {
    high = λ some z at. so_far.high z at;
    hold = λ z low. subst (All (λ s. HoldsRow s (q ++ z ∷ []))) (take_all next c.tops all) (so_far.hold z low);
    some = omega (arith, linear);
    failed = λ u above below fits. none_between cur u above below;
    asked = All-nil (λ r. (length c.tops ≡ 0 → ¬ IsSteep n r) → HoldsRow r (q ++ cur ∷ []));
  }

  no_rows : (rows : List Row) (point : List ℤ) → length rows ≡ 0 → HoldRows rows point
  no_rows [] point e = All-nil (λ r. HoldsRow r point)
  no_rows (r ∷ rows) point e = absurd (omega arith)

  -- there is none: any number
  pub bounds_none : (cur : ℤ) → length c.tops ≡ 0 → IsAsking n c q cur (pos 0) 0
  bounds_none cur none = record {
    high = λ some z at. absurd (omega (arith, none, some));
    hold = λ z low. no_rows c.tops (q ++ z ∷ []) none;
    some = omega (arith, linear);
    failed = λ u above below fits. none_between cur u above below;
    asked = All-nil (λ r. (length c.tops ≡ 0 → ¬ IsSteep n r) → HoldsRow r (q ++ cur ∷ []));
  }

  -- a row that holds at the number, or is not asked
  pub asks_yes : (r : Row) (cur tried : ℤ) (next : ℕ) → next < length c.others → r ≡ get_or c.others next r → IsAsking n c q cur tried next
      → ((length c.tops ≡ 0 → ¬ IsSteep n r) → HoldsRow r (q ++ cur ∷ [])) → IsAsking n c q cur tried (next + 1)
  asks_yes r cur tried next inside is so_far holds = record {
    high = so_far.high;
    hold = so_far.hold;
    some = so_far.some;
    failed = so_far.failed;
    asked = All-more (λ s. (length c.tops ≡ 0 → ¬ IsSteep n s) → HoldsRow s (q ++ cur ∷ [])) c.others next r inside so_far.asked
        (subst (λ s. (length c.tops ≡ 0 → ¬ IsSteep n s) → HoldsRow s (q ++ cur ∷ [])) is holds);
  }

  -- a bound that fails there: the case has no number
  pub asks_over : (r : Row) (cur tried : ℤ) (next : ℕ) → next < length c.others → r ≡ get_or c.others next r → IsAsking n c q cur tried next
      → ¬ IsCongruence r → (length c.tops ≡ 0 → ¬ IsSteep n r) → ¬ HoldsRow r (q ++ cur ∷ []) → (z : ℤ) → ¬ At c q z
  asks_over r cur tried next inside is so_far none flat fails z at =
      let other : IsOther n r = subst (IsOther n) (sym is) (case.others next r inside) in
      let here : HoldsRow r (q ++ z ∷ []) = subst (λ s. HoldsRow s (q ++ z ∷ [])) (sym is) (at.others next r inside) in
      elim other.says [
        | inr congruence ↦ none congruence
        | inl rising ↦ by (length c.tops) refl other rising here
      ]
    where
      by : (count : ℕ) → length c.tops ≡ count → IsOther n r → IsRising n r → HoldsRow r (q ++ z ∷ []) → ⊥
      by zero e other rising here = fails (flat_same n r q z cur other.formed rising (flat e) l here)
      by (suc count) e other rising here =
          fails (rising_up n r q z cur other.formed rising l (so_far.high (omega (arith, e)) z at) here)

  fits_from : (z : ℤ) → At c q z → Fits c q z
  fits_from z at k d inside is = at.others k d inside

  -- a congruence that fails there
  misses : (r : Row) (cur : ℤ) (next : ℕ) → next < length c.others → r ≡ get_or c.others next r → IsCongruence r
      → ¬ HoldsRow r (q ++ cur ∷ []) → ¬ Fits c q cur
  misses r cur next inside is congruence fails fits =
      fails (subst (λ s. HoldsRow s (q ++ cur ∷ [])) (sym is) (fits next r inside (subst IsCongruence is congruence)))

  failed_more : (cur tried : ℤ) → ((u : ℤ) → cur <ℤ u → u ≤ℤ (cur +ℤ tried) → ¬ Fits c q u) → ¬ Fits c q cur
      → (u : ℤ) → cur ≤ℤ u → u ≤ℤ (cur +ℤ tried) → ¬ Fits c q u
  failed_more cur tried failed here u low high = elim (cases_ℤ cur u) [
    | inl above ↦ failed u above high
    | inr other ↦ elim other [
      | inl same ↦ subst (λ t. ¬ Fits c q t) same here
      | inr below ↦ absurd (omega (arith, linear, low, below))
    ]
  ]

  -- and others are left to be tried: the next one below
  pub asks_next : (r : Row) (cur tried : ℤ) (next : ℕ) → next < length c.others → r ≡ get_or c.others next r → IsAsking n c q cur tried next
      → IsCongruence r → ¬ HoldsRow r (q ++ cur ∷ []) → IsAsking n c q (cur -ℤ pos 1) (tried +ℤ pos 1) 0
  asks_next r cur tried next inside is so_far congruence fails =
      let here = misses r cur next inside is congruence fails in
      let some' = so_far.some in
      record {
        high = λ some z at. next_below (At c q) cur (so_far.high some) (λ a. here (fits_from cur a)) z at;
        hold = λ z low. so_far.hold z (omega (arith, linear, low));
        some = omega (arith, linear, some');
        failed = λ u above below. failed_more cur tried so_far.failed here u (omega (arith, linear, above)) (omega (arith, linear, below));
        asked = All-nil (λ s. (length c.tops ≡ 0 → ¬ IsSteep n s) → HoldsRow s (q ++ (cur -ℤ pos 1) ∷ []));
      }

  -- and all were tried: the case has no number
  pub asks_tried : (r : Row) (cur tried : ℤ) (next : ℕ) → next < length c.others → r ≡ get_or c.others next r → IsAsking n c q cur tried next
      → IsCongruence r → ¬ HoldsRow r (q ++ cur ∷ []) → c.period ≤ℤ (tried +ℤ pos 1) → (z : ℤ) → ¬ At c q z
  asks_tried r cur tried next inside is so_far congruence fails all z at =
      tried_all (Fits c q) c.period cur z case.period (fits_on n c q case l)
      (λ u low high. failed_more cur tried so_far.failed (misses r cur next inside is congruence fails) u low (omega (arith, linear, high, all)))
      (fits_from z at)

  -- all rows hold at the number: it is the greatest of the case
  pub asks_all : (cur tried : ℤ) (next : ℕ) → length c.others ≤ next → 0 < length c.tops → IsAsking n c q cur tried next → IsGreatestOf (At c q) cur
  asks_all cur tried next all some so_far =
      let rows : All (λ r. (length c.tops ≡ 0 → ¬ IsSteep n r) → HoldsRow r (q ++ cur ∷ [])) c.others =
      subst (All (λ r. (length c.tops ≡ 0 → ¬ IsSteep n r) → HoldsRow r (q ++ cur ∷ []))) (take_all next c.others all) so_far.asked in
      record {
        is = record {
          tops = so_far.hold cur (omega (arith, linear));
          others = λ k d inside. rows k d inside (λ none. absurd (omega (arith, none, some)));
        };
        greatest = λ u is. so_far.high some u is;
      }

  -- and nothing bounds them: they go up for ever
  pub asks_away : (cur tried : ℤ) (next : ℕ) → length c.others ≤ next → length c.tops ≡ 0 → IsAsking n c q cur tried next
      → (b : ℤ) → (z : ℤ) × (b <ℤ z) × At c q z
  asks_away cur tried next all none so_far b =
      let far = all_far n c.others q case.others l in
      let count : ℤ = pos (unsigned_abs cur + unsigned_abs b + unsigned_abs far.0 + 1) in
      let z : ℤ = cur +ℤ c.period *ℤ count in
      let m = enough c.period cur b far.0 case.period in
      (z, m.0, record { tops = no_rows c.tops (q ++ z ∷ []) none; others = λ k d inside. by z count refl k d inside (far.1 z m.1) })
    where
      enough : (p c b e : ℤ) → pos 0 <ℤ p
          → let n = pos (unsigned_abs c + unsigned_abs b + unsigned_abs e + 1) in (b <ℤ (c +ℤ p *ℤ n)) × (e ≤ℤ (c +ℤ p *ℤ n))
      enough p c b e up =
          let n = pos (unsigned_abs c + unsigned_abs b + unsigned_abs e + 1) in
          let m = simp expand at (*ℤ-≤ℤ n (pos 1) p (omega (arith, linear)) (omega (arith, linear, up))) in
          (simp expand (omega (arith, linear, m)), simp expand (omega (arith, linear, m)))

      rows : All (λ r. (length c.tops ≡ 0 → ¬ IsSteep n r) → HoldsRow r (q ++ cur ∷ [])) c.others
      rows = subst (All (λ r. (length c.tops ≡ 0 → ¬ IsSteep n r) → HoldsRow r (q ++ cur ∷ []))) (take_all next c.others all) so_far.asked

      fits : Fits c q cur
      fits k d inside is = rows k d inside (λ e steep. apart (get_or c.others k d) is steep)
        where
          apart : (r : Row) → IsCongruence r → ¬ IsSteep n r
          apart r (inl is) steep = let h = sym is ∙ steep.bound in cc
          apart r (inr is) steep = let h = sym is ∙ steep.bound in cc

      by : (z count : ℤ) → z ≡ cur +ℤ c.period *ℤ count → (k : ℕ) (d : Row) (inside : k < length c.others)
          → All (λ r. IsSteep n r → HoldsRow r (q ++ z ∷ [])) c.others → HoldsRow (get_or c.others k d) (q ++ z ∷ [])
      by z count is k d inside far = elim (case.others k d inside).says [
        | inr congruence ↦
            subst (λ t. HoldsRow (get_or c.others k d) (q ++ t ∷ [])) (sym is) (fits_on n c q case l cur count fits k d inside congruence)
        | inl rising ↦ elim (cases_ℤ (pos 0) (coef_at (get_or c.others k d) n)) [
          | inl above ↦ far k d inside (record { bound = rising.bound; rises = above })
          | inr other ↦
              let flat : ¬ IsSteep n (get_or c.others k d) = λ steep. not_above (coef_at (get_or c.others k d) n) other steep.rises in
              flat_same n (get_or c.others k d) q cur z (case.others k d inside).formed rising flat l (rows k d inside (λ e. flat))
        ]
      ]
        where
          not_above : (a : ℤ) → (pos 0 ≡ a) ⊎ (a <ℤ pos 0) → ¬ (pos 0 <ℤ a)
          not_above a (inl e) h = omega (arith, linear, e, h)
          not_above a (inr e) h = omega (arith, linear, e, h)

-- ---- the cases of a level
module _ (P : List ℤ → Type 0) (v us : List ℤ) (cases : List CaseView) where
  -- a case has no number
  pub level_none : (number : ℕ) (best : Option ℤ) (c : CaseView) → number < length cases → c ≡ get_or cases number c
      → IsOnLevel P v us cases number best → ((z : ℤ) → ¬ At c (v ++ us) z) → IsOnLevel P v us cases (number + 1) best
  level_none number best c inside is so_far none = record {
    leads = so_far.leads;
    begins = so_far.begins;
    found = best_same (λ z. InSome (take number cases) (v ++ us) z ⊎ At c (v ++ us) z) (InSome (take (number + 1) cases) (v ++ us)) best
        (λ z. one_more (λ d. At d (v ++ us) z) cases number c inside is)
        (best_kept (InSome (take number cases) (v ++ us)) (At c (v ++ us)) best so_far.found none);
  }

  -- it has a greatest one, and it is the first that has
  pub level_first : (number : ℕ) (cur : ℤ) (c : CaseView) → number < length cases → c ≡ get_or cases number c
      → IsOnLevel P v us cases number None → IsGreatestOf (At c (v ++ us)) cur → IsOnLevel P v us cases (number + 1) (Some cur)
  level_first number cur c inside is so_far one = record {
    leads = so_far.leads;
    begins = so_far.begins;
    found = best_same (λ z. InSome (take number cases) (v ++ us) z ⊎ At c (v ++ us) z) (InSome (take (number + 1) cases) (v ++ us)) (Some cur)
        (λ z. one_more (λ d. At d (v ++ us) z) cases number c inside is)
        (best_first (InSome (take number cases) (v ++ us)) (At c (v ++ us)) cur so_far.found one);
  }

  -- it is greater than those before
  pub level_later : (number : ℕ) (old cur : ℤ) (c : CaseView) → number < length cases → c ≡ get_or cases number c
      → IsOnLevel P v us cases number (Some old) → IsGreatestOf (At c (v ++ us)) cur → old <ℤ cur → IsOnLevel P v us cases (number + 1) (Some cur)
  level_later number old cur c inside is so_far one l = record {
    leads = so_far.leads;
    begins = so_far.begins;
    found = best_same (λ z. InSome (take number cases) (v ++ us) z ⊎ At c (v ++ us) z) (InSome (take (number + 1) cases) (v ++ us)) (Some cur)
        (λ z. one_more (λ d. At d (v ++ us) z) cases number c inside is)
        (best_later (InSome (take number cases) (v ++ us)) (At c (v ++ us)) old cur so_far.found one l);
  }

  -- it is not
  pub level_before : (number : ℕ) (old cur : ℤ) (c : CaseView) → number < length cases → c ≡ get_or cases number c
      → IsOnLevel P v us cases number (Some old) → IsGreatestOf (At c (v ++ us)) cur → cur ≤ℤ old → IsOnLevel P v us cases (number + 1) (Some old)
  level_before number old cur c inside is so_far one l = record {
    leads = so_far.leads;
    begins = so_far.begins;
    found = best_same (λ z. InSome (take number cases) (v ++ us) z ⊎ At c (v ++ us) z) (InSome (take (number + 1) cases) (v ++ us)) (Some old)
        (λ z. one_more (λ d. At d (v ++ us) z) cases number c inside is)
        (best_before (InSome (take number cases) (v ++ us)) (At c (v ++ us)) old cur so_far.found one l);
  }

  all_cases : (number : ℕ) (best : Option ℤ) → length cases ≤ number → IsLevel P v us cases → IsOnLevel P v us cases number best
      → IsBest (λ z. Begins P (us ++ z ∷ [])) best
  all_cases number best all level so_far =
      best_same (InSome cases (v ++ us)) (λ z. Begins P (us ++ z ∷ [])) best level
      (subst (λ cs. IsBest (InSome cs (v ++ us)) best) (take_all number cases all) so_far.found)

  module _ (w : ℕ) (long : (ys : List ℤ) → P ys → length ys ≡ w) where
    -- no case is left, and none has a number: there is no list
    pub level_missing : (number : ℕ) → length cases ≤ number → length us < w → IsLevel P v us cases → IsOnLevel P v us cases number None
        → GivesGreatest P None
    level_missing number all low level so_far = leads_none w P long us low so_far.leads (all_cases number None all level so_far)

    -- no case is left: one number more
    pub level_more : (number : ℕ) (z : ℤ) (more : List CaseView) → length cases ≤ number → IsLevel P v us cases
        → IsOnLevel P v us cases number (Some z) → IsOnLevel P v (us ++ z ∷ []) more 0 None
    level_more number z more all level so_far =
        let most = all_cases number (Some z) all level so_far in
        record {
          leads = leads_more w P long us z so_far.leads most;
          begins = λ some. most.is;
          found = λ u is. Any-none (λ c. At c (v ++ (us ++ z ∷ [])) u) is;
        }

    -- the numbers of a case go up for ever: no list is the greatest
    pub level_away : (c : CaseView) (number : ℕ) (best : Option ℤ) → number < length cases → c ≡ get_or cases number c → length us < w
        → IsLevel P v us cases → IsOnLevel P v us cases number best → ((b : ℤ) → (z : ℤ) × (b <ℤ z) × At c (v ++ us) z)
        → (r : Option (List ℤ)) → ¬ GivesGreatest P r
    level_away c number best inside is low level so_far up r =
        leads_away w P long us low so_far.leads
        (λ b. let z = up b in (z.0, z.1, (level z.0).0 (number, c, inside, sym is, z.2))) r

    -- all numbers are there
    pub level_whole : length us ≡ w → 0 < w → IsOnLevel P v us cases 0 None → GivesGreatest P (Some us)
    level_whole whole some so_far = leads_last w P long us whole (so_far.begins (omega (arith, whole, some))) so_far.leads

    -- at the start
    pub level_start : us ≡ [] → IsOnLevel P v us cases 0 None
    level_start none = record {
      leads = subst (LeadsBy P) (sym none) (leads_first w P long);
      begins = λ some. absurd (let e = ap length none in omega (arith, e, some));
      found = λ u is. Any-none (λ c. At c (v ++ us) u) is;
    }
