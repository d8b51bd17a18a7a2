-- Names that are forgotten: from the last one on, up to the first ones, of which none is.
use Rattle.std.proofs.Common.{◌≡◌, refl, sym, ap, ap₂, ◌∙◌, subst, arith, ℕ, zero, suc, ◌+◌, ◌<◌, ◌≤◌, Bool, true, false, cond, not, filter}
use Rattle.std.proofs.Common.{◌-◌, Some, List, [], ◌∷◌, ◌++◌, length, length-append, get_or, take, drop, slice_get}
use Rattle.std.specs.Prelude.{if◌then◌else◌, unwrap_or}
use Rattle.std.proofs.lemmas.Option.{unwrap_or-slice_get}
use Rattle.std.specs.List.{All, remove}
use Rattle.std.specs.Str.{bytes_eq}
use Rattle.std.proofs.lemmas.List.{append_assoc, drop_at, drop_more, get_or-take, get_or_append_left, length-take-le, take_at, take_more}
use Rattle.std.proofs.lemmas.List.Elements.{All-cons, All-head, All-nil, All-tail}
use Rattle.indexmap.specs.IndexMap.{insert_entry}
use Rattle.isl_space.specs.Name.{Name}
use Rattle.isl_kinds.specs.Typed.{is_dollar}

-- ---- lists
module _ {X : Type 0} (p : X → Bool) where
  -- the first ones as they were, and those of the others that pass
  abbrev pub passed_behind : List X → ℕ → List X
  passed_behind old at = take at old ++ filter p (drop at old)

  module _ (old : List X) (at : ℕ) (x : X) (low : at < length old) (there : get_or old at x ≡ x) where
    first_more : take (at + 1) old ≡ take at old ++ x ∷ []
    first_more = take_more old at x low ∙ ap (λ y. take at old ++ y ∷ []) there

    others_more : drop at old ≡ x ∷ drop (at + 1) old
    others_more = drop_more old at x low ∙ ap (λ y. y ∷ drop (at + 1) old) there

    shorter : length (take at old) ≡ at
    shorter = length-take-le at old (omega arith)

    -- one more does not pass, and is taken out
    pub one_gone : p x ≡ false → remove (passed_behind old (at + 1)) at ≡ passed_behind old at
    one_gone is =
        let rest = filter p (drop (at + 1) old) in
        let whole = ap (λ l. l ++ rest) first_more in
        let long : length (take at old ++ x ∷ []) ≡ suc at = ap length (sym first_more) ∙ length-take-le (at + 1) old (omega arith) ∙ omega arith in
        ap₂ (λ a b. a ++ b)
        (ap (take at) (whole ∙ append_assoc (take at old) (x ∷ []) rest) ∙ take_at (take at old) (x ∷ rest) at shorter)
        (ap (drop (suc at)) whole ∙ drop_at (take at old ++ x ∷ []) rest (suc at) long)
        ∙ ap (λ l. take at old ++ l) (sym (ap (filter p) others_more ∙ ap (λ (b : Bool). cond b (x ∷ rest) rest) is))

    -- one more passes, and stays
    pub one_stays : p x ≡ true → passed_behind old (at + 1) ≡ passed_behind old at
    one_stays is =
        let rest = filter p (drop (at + 1) old) in
        ap (λ l. l ++ rest) first_more ∙ append_assoc (take at old) (x ∷ []) rest
        ∙ ap (λ l. take at old ++ l) (sym (ap (filter p) others_more ∙ ap (λ (b : Bool). cond b (x ∷ rest) rest) is))

  -- the last of the first ones is found behind them
  pub found_there : (old : List X) (at : ℕ) (x : X) → at < length old → slice_get (passed_behind old (at + 1)) at ≡ Some x
      → get_or old at x ≡ x
  found_there old at x low found =
      let long = length-take-le (at + 1) old (omega arith) in
      sym (get_or-take (at + 1) old at x (omega arith))
      ∙ sym (get_or_append_left (take (at + 1) old) (filter p (drop (at + 1) old)) x at (omega (arith, long)))
      ∙ sym (unwrap_or-slice_get (passed_behind old (at + 1)) at x) ∙ ap (λ o. unwrap_or o x) found

  pub inside_behind : (old : List X) (at : ℕ) → at < length old → at < length (passed_behind old (at + 1))
  inside_behind old at low =
      let long = length-take-le (at + 1) old (omega arith) in
      let whole = length-append (take (at + 1) old) (filter p (drop (at + 1) old)) in
      omega (arith, long, whole)

  pub all_behind : (old : List X) → passed_behind old (length old) ≡ old
  all_behind [] = refl
  all_behind (x ∷ old) = ap (λ l. x ∷ l) (all_behind old)

  filter_first : (P : X → Type 0) → ((x : X) → P x → p x ≡ true) → (old : List X) (at settled : ℕ) → at ≤ settled → All P (take settled old)
      → passed_behind old at ≡ filter p old
  filter_first P passes [] zero settled le all = refl
  filter_first P passes [] (suc at) settled le all = refl
  filter_first P passes (x ∷ old) zero settled le all = refl
  filter_first P passes (x ∷ old) (suc at) zero le all = absurd (omega arith)
  filter_first P passes (x ∷ old) (suc at) (suc settled) le all =
      ap (λ l. x ∷ l) (filter_first P passes old at settled (omega arith) (All-tail P x (take settled old) all))
      ∙ ap (λ (b : Bool). cond b (x ∷ filter p old) (filter p old)) (sym (passes x (All-head P x (take settled old) all)))

-- ---- names
module _ {V : Type 0} where
  abbrev pub stays : Name × V → Bool
  stays entry = not (is_dollar entry.0)

  abbrev pub IsPlain : Name × V → Type 0
  IsPlain entry = is_dollar entry.0 ≡ false

  -- a step of the walk from the last entry on: what was found is taken out, or stays
  module _ (old now : List (Name × V)) (at settled : ℕ) (low : settled < at) (so_far : (at ≤ length old) × (now ≡ passed_behind stays old at))
    where
      before : at ≡ (at - 1) + 1
      before = omega arith

      inside : at - 1 < length old
      inside = let h = so_far.0 in omega arith

      is_now : now ≡ passed_behind stays old ((at - 1) + 1)
      is_now = so_far.1 ∙ ap (passed_behind stays old) before

      there : (entry : Name × V) → slice_get now (at - 1) ≡ Some entry → get_or old (at - 1) entry ≡ entry
      there entry found = found_there stays old (at - 1) entry inside (ap (λ l. slice_get l (at - 1)) (sym is_now) ∙ found)

      pub found_inside : at - 1 < length now
      found_inside = subst (λ (l : List (Name × V)). at - 1 < length l) (sym is_now) (inside_behind stays old (at - 1) inside)

      pub gone_step : (entry : Name × V) → slice_get now (at - 1) ≡ Some entry → is_dollar entry.0 ≡ true → (after : List (Name × V))
          → after ≡ remove now (at - 1) → (at - 1 ≤ length old) × (after ≡ passed_behind stays old (at - 1))
      gone_step entry found dollar after removed = (
        let i = inside in omega arith,
        removed ∙ ap (λ l. remove l (at - 1)) is_now ∙ one_gone stays old (at - 1) entry inside (there entry found) (ap not dollar),
      )

      pub stays_step : (entry : Name × V) → slice_get now (at - 1) ≡ Some entry → is_dollar entry.0 ≡ false
          → (at - 1 ≤ length old) × (now ≡ passed_behind stays old (at - 1))
      stays_step entry found plain = (
        let i = inside in omega arith,
        is_now ∙ one_stays stays old (at - 1) entry inside (there entry found) (ap not plain),
      )

  -- those of which none is forgotten come to an end
  pub forgotten_behind : (old : List (Name × V)) (at settled : ℕ) → at ≤ settled → All IsPlain (take settled old)
      → passed_behind stays old at ≡ filter stays old
  forgotten_behind old at settled le all = filter_first stays IsPlain (λ entry is. ap not is) old at settled le all

  -- all that is left stays
  pub left_plain : (old : List (Name × V)) (n : ℕ) → All IsPlain (take n (filter stays old))
  left_plain old zero = All-nil IsPlain
  left_plain [] (suc n) = All-nil IsPlain
  left_plain (entry ∷ old) (suc n) = by (is_dollar entry.0) refl (left_plain old (suc n)) (left_plain old n)
    where
      by : (d : Bool) → is_dollar entry.0 ≡ d → All IsPlain (take (suc n) (filter stays old)) → All IsPlain (take n (filter stays old))
          → All IsPlain (take (suc n) (cond (not d) (entry ∷ filter stays old) (filter stays old)))
      by true is all fewer = all
      by false is all fewer = All-cons IsPlain entry (take n (filter stays old)) is fewer

  -- a name that is bound is one of the first ones only where it was there
  pub bound_behind : (name : Name) (v : V) (old : List (Name × V)) (n : ℕ) → n ≤ length old → All IsPlain (take n old)
      → (n ≤ length (insert_entry bytes_eq old name v)) × All IsPlain (take n (insert_entry bytes_eq old name v))
  bound_behind name v old zero le all = (omega arith, All-nil IsPlain)
  bound_behind name v [] (suc n) le all = absurd (omega arith)
  bound_behind name v (entry ∷ old) (suc n) le all =
      let here = All-head IsPlain entry (take n old) all in
      let rest = All-tail IsPlain entry (take n old) all in
      by (bytes_eq name entry.0) here rest (bound_behind name v old n (omega arith) rest)
    where
      by : (b : Bool) → IsPlain entry → All IsPlain (take n old)
          → (n ≤ length (insert_entry bytes_eq old name v)) × All IsPlain (take n (insert_entry bytes_eq old name v))
          → (suc n ≤ length (if b then (entry.0, v) ∷ old else entry ∷ insert_entry bytes_eq old name v))
          × All IsPlain (take (suc n) (if b then (entry.0, v) ∷ old else entry ∷ insert_entry bytes_eq old name v))
      by true here rest more = (le, All-cons IsPlain (entry.0, v) (take n old) here rest)
      by false here rest more = (let m = more.0 in omega arith, All-cons IsPlain entry (take n (insert_entry bytes_eq old name v)) here more.1)
