-- All definitions opened: what is left of the opened system without the columns and the defined ones is left of the system without
-- the columns.
use Rattle.std.proofs.Common.{◌≡◌, inl, refl, sym, ap, ◌∙◌, arith, Bool, true, false, ℕ, suc, ◌+◌, ◌<◌, ◌≤◌, ℤ, List, [], ◌∷◌, ◌++◌}
use Rattle.std.proofs.Common.{length, length-append, take, drop}
use Rattle.std.specs.Prelude.{nat_eq, ◌||◌}
use Rattle.std.specs.List.{range_with_len}
use Rattle.std.proofs.lemmas.List.{append-nil, take-append-drop}
use Rattle.std.proofs.lemmas.List.Folds.{list_any-append}
use Rattle.std.proofs.lemmas.List.FromFn.{length-range_with_len}
use Rattle.isl_meter.specs.Gauge.{Gauge}
use Rattle.isl_piece.specs.declared.system.System.{System}
use Rattle.isl_piece.specs.System.{IsSystemWithin, free_columns}
use Rattle.isl_elim.specs.Elimination.{system_of, IsProjectionAlong, without, without_from}
use Rattle.isl_elim.specs.Opened.{definition_rows}
use Rattle.isl_elim.proofs.DefiningLaws.{front_length, all_opened, all_opened_at, defined_numbers, defined_numbers-are, length-defined_by}
use Rattle.isl_elim.proofs.KeptLaws.{without-parts}
use Rattle.isl_elim.proofs.OthersLaws.{among}
use Rattle.isl_elim.proofs.RangeLaws.{among_inside, among_outside}

or_right : (b : Bool) → (b || true) ≡ true
or_right true = refl
or_right false = refl

or_none : (b : Bool) → (b || false) ≡ b
or_none true = refl
or_none false = refl

among-append : (j : ℕ) (cols more : List ℕ) → among j (cols ++ more) ≡ (among j cols || among j more)
among-append j cols more = list_any-append (λ c. nat_eq c j) cols more

-- lists of columns that have the same ones of those that count
same_left : (i : ℕ) (cols others : List ℕ) (xs : List ℤ) → ((j : ℕ) → i ≤ j → j < i + length xs → among j cols ≡ among j others)
    → without_from i cols xs ≡ without_from i others xs
same_left i cols others [] f = refl
same_left i cols others (x ∷ xs) f =
    let here = f i (omega arith) (omega arith) in
    let rest = same_left (suc i) cols others xs (λ j l m. f j (omega arith) (omega (arith, m))) in
    rw (here, rest) refl

all_gone : (i : ℕ) (cols : List ℕ) (xs : List ℤ) → ((j : ℕ) → i ≤ j → j < i + length xs → among j cols ≡ true) → without_from i cols xs ≡ []
all_gone i cols [] f = refl
all_gone i cols (x ∷ xs) f =
    let here = f i (omega arith) (omega arith) in
    let rest = all_gone (suc i) cols xs (λ j l m. f j (omega arith) (omega (arith, m))) in
    rw here rest

pub without_defined : (cols : List ℕ) (n : ℕ) (xs zs : List ℤ) → length zs ≡ n
    → without (cols ++ range_with_len (length xs) n) (xs ++ zs) ≡ without cols xs
without_defined cols n xs zs e =
    let more = range_with_len (length xs) n in
    let first = same_left 0 (cols ++ more) cols xs (λ j l m.
    among-append j cols more ∙ ap (λ (b : Bool). among j cols || b) (among_outside j (length xs) n (inl (omega (arith, m))))
    ∙ or_none (among j cols)) in
    let second = all_gone (length xs) (cols ++ more) zs (λ j l m.
    among-append j cols more ∙ ap (λ (b : Bool). among j cols || b) (among_inside j (length xs) n l (omega (arith, m, e)))
    ∙ or_right (among j cols)) in
    without-parts (cols ++ more) xs zs ∙ ap (λ (ys : List ℤ). ys ++ without_from (length xs) (cols ++ more) zs) first
    ∙ ap (λ (ys : List ℤ). without cols xs ++ ys) second ∙ append-nil (without cols xs)

pub opened_projects : (g : Gauge) (s : System) (cols : List ℕ) (systems : List System) → IsSystemWithin g s
    → IsProjectionAlong (system_of s.columns [] (s.rows ++ definition_rows s.columns s.definitions))
    (cols ++ range_with_len (free_columns s) (length s.definitions)) systems
    → length cols ≤ free_columns s → IsProjectionAlong s cols systems
opened_projects g s cols systems w p few =
    let n = length s.definitions in
    let count = w.count in
    let both = length-append cols (range_with_len (free_columns s) n) in
    let long = length-range_with_len (free_columns s) n in
    record {
      columns = λ k t l. let c = p.columns k t l in omega (arith, c, both, long, count);
      points = λ point e.
          let at = p.points point (omega (arith, e, both, long, count, few)) in (
            (λ h.
                let there = at.0 h in
                let whole = there.0 in
                let xs = take (free_columns s) whole in
                let zs = drop (free_columns s) whole in
                let wide : length whole ≡ s.columns = omega (arith, there.1) in
                let front = front_length s whole count wide in
                let join : xs ++ zs ≡ whole = take-append-drop (free_columns s) whole in
                let left : without cols xs ≡ point =
                sym (without_defined cols n xs zs front.1) ∙ ap (λ (m : ℕ). without (cols ++ range_with_len m n) (xs ++ zs)) front.0
                ∙ ap (without (cols ++ range_with_len (free_columns s) n)) join ∙ there.2 in
                (xs, front.0, left, all_opened g s whole w wide there.3)),
            (λ h.
                let xs = h.0 in
                let zs = defined_numbers s.definitions xs in
                let z : length zs ≡ n = length-defined_by s.definitions xs zs (defined_numbers-are s.definitions xs) in
                let full = all_opened_at g s xs w h.1 h.3 in
                let left : without (cols ++ range_with_len (free_columns s) n) (xs ++ zs) ≡ point =
                ap (λ (m : ℕ). without (cols ++ range_with_len m n) (xs ++ zs)) (sym h.1) ∙ without_defined cols n xs zs z ∙ h.2 in
                at.1 (xs ++ zs, omega (arith, full.0), left, full.1)),
          );
    }
