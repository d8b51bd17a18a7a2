-- The statements of a script that are ahead of a front of it.
use Rattle.std.proofs.Common.{◌≡◌, ℕ, zero, suc, ◌+◌, ◌-◌, ◌<◌, ◌≤◌, List, [], ◌∷◌, ◌++◌, length, take, true, false, refl, sym, ◌∙◌, ap}
use Rattle.std.proofs.Common.{ap₂, arith, Option, None, Some}
use Rattle.std.specs.Io.KnownBytes.{Consumes, IsAtEnd}
use Rattle.std.proofs.lemmas.List.{append-nil, append_assoc}
use Rattle.std.proofs.Math.Seq.{take-append-add}
use Rattle.isl_script.specs.Script.{statements, rest_of, readable, next_part, ends}
use Rattle.isl_script.proofs.ScriptLaws.{open_rest, next_part-long, rest-append, statements-append, statements-open}
use Rattle.isl_space.specs.Limits.{most_script_bytes}
use Rattle.isl_session.specs.Run.{IsScriptOf}
use Rattle.isl_session.proofs.ScriptLemmas.{statements-ended}

-- The script that bytes were taken from, and what is left of it.
pub script_of : (a b : Option (List ℕ)) (taken : List ℕ) → Consumes a b taken
    → (script : List ℕ) × (left : List ℕ) × (script ≡ taken ++ left) × IsScriptOf a taken script × (IsAtEnd b → left ≡ [])
script_of None b taken took = (taken, [], sym (append-nil taken), refl, λ end. refl)
script_of (Some xs) None taken took = absurd took
script_of (Some xs) (Some ys) taken took = (xs, ys, took, refl, λ end. end)

pub readable-append : (front more : List ℕ) → length front ≤ most_script_bytes
    → readable (front ++ more) ≡ front ++ take (most_script_bytes - length front) more
readable-append front more le =
    let is : most_script_bytes ≡ length front + (most_script_bytes - length front) = omega arith in
    ap (λ (k : ℕ). take k (front ++ more)) is ∙ take-append-add front more (most_script_bytes - length front)

-- the statements behind a front
abbrev pub ahead_of : List ℕ → List ℕ → List (List ℕ)
ahead_of front more = statements (rest_of front ++ take (most_script_bytes - length front) more)

pub statements-readable : (front more : List ℕ) → length front ≤ most_script_bytes
    → statements (readable (front ++ more)) ≡ statements front ++ ahead_of front more
statements-readable front more le =
    ap statements (readable-append front more le) ∙ statements-append front (take (most_script_bytes - length front) more)

pub take-nil : (n : ℕ) → take n (let xs : List ℕ = [] in xs) ≡ []
take-nil zero = refl
take-nil (suc n) = refl

-- no statement is ahead where nothing may be read
pub ahead_none : (front more : List ℕ) → take (most_script_bytes - length front) more ≡ [] → ahead_of front more ≡ []
ahead_none front more none = ap (λ (l : List ℕ). statements (rest_of front ++ l)) none ∙ ap statements (append-nil (rest_of front))
    ∙ statements-open (rest_of front) (open_rest front)

pub ahead_end : (front more : List ℕ) → more ≡ [] → ahead_of front more ≡ []
ahead_end front more none =
    ahead_none front more (ap (take (most_script_bytes - length front)) none ∙ take-nil (most_script_bytes - length front))

pub ahead_full : (front more : List ℕ) → most_script_bytes - length front ≡ 0 → ahead_of front more ≡ []
ahead_full front more full = ahead_none front more (ap (λ (k : ℕ). take k more) full)

take_first : (n : ℕ) (byte : ℕ) (more : List ℕ) → 0 < n → take n (byte ∷ more) ≡ byte ∷ take (n - 1) more
take_first zero byte more lt = absurd (omega arith)
take_first (suc n) byte more lt = let same : n ≡ suc n - 1 = omega arith in ap (λ (k : ℕ). byte ∷ take k more) same

-- behind a byte that ends a statement, that statement is the first ahead
pub ahead_first : (front : List ℕ) (byte : ℕ) (more : List ℕ) → length front < most_script_bytes → ends (rest_of front) byte ≡ true
    → (later : List (List ℕ)) × (ahead_of front (byte ∷ more) ≡ rest_of front ∷ later)
ahead_first front byte more lt is =
    let ended = statements-ended (rest_of front) byte (open_rest front) is in
    let held = rest_of front in
    let next = held ++ byte ∷ [] in
    let tail = take (most_script_bytes - length front - 1) more in (
      statements (rest_of next ++ tail),
      ap (λ (l : List ℕ). statements (held ++ l)) (take_first (most_script_bytes - length front) byte more (omega arith))
          ∙ ap statements (sym (append_assoc held (byte ∷ []) tail)) ∙ statements-append next tail
          ∙ ap (λ (l : List (List ℕ)). l ++ statements (rest_of next ++ tail)) ended,
    )

-- behind a byte that ends no statement, the part that comes next is longer than what stands before the byte
pub ahead_long : (front : List ℕ) (byte : ℕ) (more : List ℕ) → length front < most_script_bytes → ends (rest_of front) byte ≡ false
    → length (rest_of front) < length (next_part (ahead_of front (byte ∷ more)) (rest_of (readable (front ++ byte ∷ more))))
ahead_long front byte more lt is =
    let tail = take (most_script_bytes - length front - 1) more in
    let cut = take_first (most_script_bytes - length front) byte more (omega arith) in
    let rest = rest_of front in
    let whole : rest_of (readable (front ++ byte ∷ more)) ≡ rest_of (rest ++ byte ∷ tail) =
    ap rest_of (readable-append front (byte ∷ more) (omega arith))
    ∙ rest-append front (take (most_script_bytes - length front) (byte ∷ more)) ∙ ap (λ (l : List ℕ). rest_of (rest ++ l)) cut in
    let parts : ahead_of front (byte ∷ more) ≡ statements (rest ++ byte ∷ tail) = ap (λ (l : List ℕ). statements (rest ++ l)) cut in
    let long = next_part-long rest byte tail (open_rest front) is in
    omega (arith, long, ap₂ (λ (ps : List (List ℕ)) (l : List ℕ). length (next_part ps l)) parts whole)
