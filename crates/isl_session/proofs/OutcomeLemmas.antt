-- What comes of statements, and then of others.
use Rattle.std.proofs.Common.{◌≡◌, ℕ, ◌+◌, Bool, cond, List, [], ◌∷◌, ◌++◌, length, map, refl, sym, ◌∙◌, ap, arith}
use Rattle.std.proofs.Common.{Option, None, Some}
use Rattle.std.specs.List.{concat, count_by}
use Rattle.std.specs.Option.{option_or}
use Rattle.std.proofs.lemmas.List.{map-append}
use Rattle.std.proofs.lemmas.List.Elements.{filter_map-append}
use Rattle.std.proofs.lemmas.List.Folds.{concat-append}
use Rattle.std.proofs.lemmas.List.Sums.{sum_by-append}
use Rattle.isl_session.specs.declared.fault.Fault.{Fault}
use Rattle.isl_session.specs.Lines.{fault_line}
use Rattle.isl_session.specs.Outcome.{Outcome, answered, skipped, answer_in, answers_of, bytes_of, faults_from, first_skip, lines_from}
use Rattle.isl_session.specs.Outcome.{skip_in, skips_of, text_of}

-- ---- lists and options
pub none_before : {A : Type 0} (xs ys : List A) → xs ++ ys ≡ [] → xs ≡ []
none_before [] ys is = refl
none_before (x ∷ xs) ys is = absurd (omega (arith, ap length is))

pub none_behind : {A : Type 0} (xs ys : List A) → xs ++ ys ≡ [] → ys ≡ []
none_behind [] ys is = is
none_behind (x ∷ xs) ys is = absurd (omega (arith, ap length is))

pub option_or_assoc : {A : Type 0} (a b c : Option A) → option_or (option_or a b) c ≡ option_or a (option_or b c)
option_or_assoc None b c = refl
option_or_assoc (Some x) b c = refl

pub option_or_none : {A : Type 0} (a : Option A) → option_or a None ≡ a
option_or_none None = refl
option_or_none (Some x) = refl

pub or_none_left : {A : Type 0} (a b : Option A) → option_or a b ≡ None → a ≡ None
or_none_left None b is = refl
or_none_left (Some x) b is = is

pub or_none_right : {A : Type 0} (a b : Option A) → option_or a b ≡ None → b ≡ None
or_none_right None b is = is
or_none_right (Some x) b is = absurd (let bad : ⊥ = cc in bad)

-- ---- one after another
pub text_of-append : (xs ys : List Outcome) → text_of (xs ++ ys) ≡ text_of xs ++ text_of ys
text_of-append xs ys = ap concat (map-append bytes_of xs ys) ∙ concat-append (map bytes_of xs) (map bytes_of ys)

pub answers_of-append : (xs ys : List Outcome) → answers_of (xs ++ ys) ≡ answers_of xs ++ answers_of ys
answers_of-append xs ys = filter_map-append answer_in xs ys

pub skips_of-append : (xs ys : List Outcome) → skips_of (xs ++ ys) ≡ skips_of xs ++ skips_of ys
skips_of-append xs ys = filter_map-append skip_in xs ys

pub first_skip-append : (xs ys : List Outcome) → first_skip (xs ++ ys) ≡ option_or (first_skip xs) (first_skip ys)
unfolding first_skip
first_skip-append [] ys = refl
first_skip-append (answered answer ∷ xs) ys = first_skip-append xs ys
first_skip-append (skipped refusal ∷ xs) ys = refl

pub faults_from-append : (passed : ℕ) (xs ys : List Outcome)
    → faults_from passed (xs ++ ys) ≡ faults_from passed xs ++ faults_from (passed + length xs) ys
unfolding faults_from
faults_from-append passed [] ys =
    let same : passed ≡ passed + 0 = omega arith in
    ap (λ (n : ℕ). faults_from n ys) same
faults_from-append passed (answered answer ∷ xs) ys =
    let same : passed + 1 + length xs ≡ passed + length (answered answer ∷ xs) = omega arith in
    faults_from-append (passed + 1) xs ys ∙ ap (λ (n : ℕ). faults_from (passed + 1) xs ++ faults_from n ys) same
faults_from-append passed (skipped refusal ∷ xs) ys =
    let same : passed + 1 + length xs ≡ passed + length (skipped refusal ∷ xs) = omega arith in
    let fault : Fault = record { statement = passed + 1; refusal = refusal } in
    ap (λ (l : List Fault). fault ∷ l)
    (faults_from-append (passed + 1) xs ys ∙ ap (λ (n : ℕ). faults_from (passed + 1) xs ++ faults_from n ys) same)

pub lines_from-append : (passed : ℕ) (xs ys : List Outcome) (now : ℕ) → now ≡ passed + length xs
    → lines_from passed (xs ++ ys) ≡ lines_from passed xs ++ lines_from now ys
lines_from-append passed xs ys now is =
    ap (λ (l : List Fault). concat (map fault_line l)) (faults_from-append passed xs ys)
    ∙ ap concat (map-append fault_line (faults_from passed xs) (faults_from (passed + length xs) ys))
    ∙ concat-append (map fault_line (faults_from passed xs)) (map fault_line (faults_from (passed + length xs) ys))
    ∙ ap (λ (n : ℕ). lines_from passed xs ++ lines_from n ys) (sym is)

pub count-append : (p : Outcome → Bool) (xs ys : List Outcome) → count_by p (xs ++ ys) ≡ count_by p xs + count_by p ys
count-append p xs ys = sum_by-append (λ outcome. cond (p outcome) 1 0) xs ys

-- each is an answer or a skip
pub length_parts : (xs : List Outcome) → length (answers_of xs) + length (skips_of xs) ≡ length xs
length_parts [] = refl
length_parts (answered answer ∷ xs) = omega (arith, length_parts xs)
length_parts (skipped refusal ∷ xs) = omega (arith, length_parts xs)

-- ---- none of them is skipped
pub no_faults : (passed : ℕ) (xs : List Outcome) → skips_of xs ≡ [] → faults_from passed xs ≡ []
unfolding faults_from
no_faults passed [] none = refl
no_faults passed (answered answer ∷ xs) none = no_faults (passed + 1) xs none
no_faults passed (skipped refusal ∷ xs) none = absurd (omega (arith, ap length none))

pub first_none : (xs : List Outcome) → skips_of xs ≡ [] → first_skip xs ≡ None
unfolding first_skip
first_none [] none = refl
first_none (answered answer ∷ xs) none = first_none xs none
first_none (skipped refusal ∷ xs) none = absurd (omega (arith, ap length none))

pub none_if_first : (xs : List Outcome) → first_skip xs ≡ None → skips_of xs ≡ []
unfolding first_skip
none_if_first [] none = refl
none_if_first (answered answer ∷ xs) none = none_if_first xs none
none_if_first (skipped refusal ∷ xs) none = absurd (let bad : ⊥ = cc in bad)
