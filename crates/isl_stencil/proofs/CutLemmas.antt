-- How the lines of a size are cut into statements, and how many bytes they have.
use Rattle.std.proofs.Common.{◌≡◌, ℕ, zero, suc, ◌+◌, ◌*◌, ◌^◌, ◌<◌, ◌≤◌, Bool, true, false, not, ◌&&◌, ◌==◌, cond, Option, Some, None}
use Rattle.std.proofs.Common.{List, [], ◌∷◌, ◌++◌, length, codes, refl, sym, ◌∙◌, ap, subst, arith, append_assoc, append-nil, inl, inr}
use Rattle.std.proofs.lemmas.Bool.{cases_Bool, cond-false}
use Rattle.std.proofs.lemmas.List.{length-append}
use Rattle.std.proofs.lemmas.Bool.Decides.{eqb_tells}
use Rattle.std.proofs.lemmas.Fmt.{decimal_is_IsNumeral, length-decimal-le}
use Rattle.std.proofs.lemmas.Str.Parse.{digit_from_value}
use Rattle.std.specs.Fmt.{decimal}
use Rattle.std.specs.Str.Parse.{AllDigits}
use Rattle.isl_script.specs.Script.{Bytes, Place, place_after, place_of, is_commented_after, ends, statements_from, rest_from}
use Rattle.isl_script.specs.Script.{statements, rest_of}
use Rattle.isl_script.specs.Script.{IsBlank}
use Rattle.isl_script.proofs.ScriptLaws.{place-nil, place-push, statements-held, rest-held, statements-none, rest-none, statements-append}
use Rattle.isl_script.proofs.ScriptLaws.{rest-append, statements-end, rest-end, blank_nil, blank_push}
use Rattle.isl_stencil.specs.Stencil.{questions, lines_of, from, stencil}

abbrev at : ℕ → Place
at depth = record { in_comment = false; depth = depth }

-- a `;` ends a statement here
abbrev stops : Place → ℕ → Bool
stops place b = b == 59 && not (is_commented_after place.in_comment b) && place.depth == 0

some_same : (p q : Place) → Some p ≡ Some q → p ≡ q
some_same p q is = ap (λ (o : Option Place). elim o [ None ↦ p | Some r ↦ r ]) is

-- the place behind bytes that end no statement
unfoldable pub flows : Place → Bytes → Option Place
flows place [] = Some place
flows place (b ∷ bytes) = cond (stops place b) None (flows (place_after place b) bytes)

flows-append : (p q : Place) (xs ys : Bytes) → flows p xs ≡ Some q → flows p (xs ++ ys) ≡ flows q ys
unfolding flows
flows-append p q [] ys is = ap (λ (o : Option Place). elim o [ None ↦ None | Some r ↦ flows r ys ]) is
flows-append p q (x ∷ xs) ys is = elim (cases_Bool (stops p x)) [
  | inl stop ↦ absurd (
      let bad = sym (ap (λ (b : Bool). cond b (let n : Option Place = None in n) (flows (place_after p x) xs)) stop) ∙ is in cc)
  | inr goes ↦ cond-false _ _ _ goes ∙ flows-append (place_after p x) q xs ys (sym (cond-false _ _ _ goes) ∙ is)
]

-- behind a part, such bytes are held
flowing : (part bytes : Bytes) (p q : Place) → place_of part ≡ p → flows p bytes ≡ Some q
    → (statements_from part bytes ≡ []) × (rest_from part bytes ≡ part ++ bytes) × (place_of (part ++ bytes) ≡ q)
unfolding flows
flowing part [] p q here is =
    (statements-none part, rest-none part ∙ sym (append-nil part), ap place_of (append-nil part) ∙ here ∙ some_same p q is)
flowing part (b ∷ bytes) p q here is = elim (cases_Bool (stops p b)) [
  | inl stop ↦ absurd (
      let bad = sym (ap (λ (x : Bool). cond x (let n : Option Place = None in n) (flows (place_after p b) bytes)) stop) ∙ is in cc)
  | inr goes ↦
      let held : ends part b ≡ false = ap (λ (r : Place). stops r b) here ∙ goes in
      let next = flowing (part ++ b ∷ []) bytes (place_after p b) q (place-push part b ∙ ap (λ (r : Place). place_after r b) here)
      (sym (cond-false _ _ _ goes) ∙ is) in
      let same = append_assoc part (b ∷ []) bytes in
      (statements-held part b bytes held ∙ next.0, rest-held part b bytes held ∙ next.1 ∙ same, ap place_of (sym same) ∙ next.2)
]

-- digits keep the place
module _ (d : ℕ) (low : 48 ≤ d) (high : d ≤ 57) where
  other : (b : ℕ) → (d ≡ b → ⊥) → d == b ≡ false
  other b not_same = elim (eqb_tells d b) [ inl same ↦ absurd (not_same same.1) | inr differ ↦ differ.0 ]

  digit_goes : stops (at 1) d ≡ false
  digit_goes = rw (other 59 (λ is. omega (arith, is))) refl

  digit_keeps : place_after (at 1) d ≡ at 1
  digit_keeps = rw (
    other 10 (λ is. omega (arith, is)),
    other 35 (λ is. omega (arith, is)),
    other 40 (λ is. omega (arith, is)),
    other 91 (λ is. omega (arith, is)),
    other 123 (λ is. omega (arith, is)),
    other 41 (λ is. omega (arith, is)),
    other 93 (λ is. omega (arith, is)),
    other 125 (λ is. omega (arith, is)),
  ) refl

digits_flow : (ds : List ℕ) → AllDigits 10 ds → flows (at 1) ds ≡ Some (at 1)
unfolding flows
digits_flow [] each = refl
digits_flow (d ∷ ds) each =
    let here = digit_from_value d each.0 in
    cond-false _ _ _ (digit_goes d here.0 here.1) ∙ ap (λ (p : Place). flows p ds) (digit_keeps d here.0 here.1)
    ∙ digits_flow ds each.1

-- the first statement of a size, whose end is the next byte
abbrev head : List ℕ
head = codes "D := { S[t, i] : 0 <= t < 4 and 0 <= i < "

abbrev first : ℕ → List ℕ
first k = (head ++ decimal k) ++ codes " }"

-- the lines behind that byte
abbrev behind : List ℕ
behind =
    codes "\n" ++ codes "W := { S[t, i] -> A[t, i] } * D;\n" ++ codes "R := { S[t, i] -> A[t - 1, j] : i - 1 <= j <= i + 1 } * D;\n"
    ++ codes "T := { S[t, i] -> [t, i] } * D;\n" ++ questions

lines_split : (k : ℕ) → lines_of k ≡ first k ++ 59 ∷ behind
lines_split k =
    let x = head ++ decimal k in
    let one = codes " };\n" in
    let two = codes "W := { S[t, i] -> A[t, i] } * D;\n" in
    let three = codes "R := { S[t, i] -> A[t - 1, j] : i - 1 <= j <= i + 1 } * D;\n" in
    let four = codes "T := { S[t, i] -> [t, i] } * D;\n" in
    ap (λ (l : List ℕ). ((l ++ three) ++ four) ++ questions) (append_assoc x one two)
    ∙ ap (λ (l : List ℕ). (l ++ four) ++ questions) (append_assoc x (one ++ two) three)
    ∙ ap (λ (l : List ℕ). l ++ questions) (append_assoc x ((one ++ two) ++ three) four)
    ∙ append_assoc x (((one ++ two) ++ three) ++ four) questions
    ∙ sym (append_assoc x (codes " }") (59 ∷ behind))

-- a rest that the lines of a size may follow
pub record IsStart (rest : List ℕ) : Type 0 where
  pub flow : flows (at 0) (rest ++ head) ≡ Some (at 1)

start_nil : IsStart []
unfolding flows
start_nil = record { flow = refl }

start_feed : IsStart (10 ∷ [])
unfolding flows
start_feed = record { flow = refl }

behind_statements : length (statements behind) ≡ 9
unfolding statements_from place_of
behind_statements = refl

behind_rest : rest_of behind ≡ 10 ∷ []
unfolding rest_from place_of
behind_rest = refl

module _ (k : ℕ) (small : k < 2 ^ 64) (rest : List ℕ) (start : IsStart rest) where
  abbrev part : List ℕ
  part = rest ++ first k

  part_flows : flows (at 0) part ≡ Some (at 0)
  unfolding flows
  part_flows =
      let digits = flows-append (at 0) (at 1) (rest ++ head) (decimal k) start.flow
      ∙ digits_flow (decimal k) (decimal_is_IsNumeral k small).0.1 in
      ap (λ (l : List ℕ). flows (at 0) l) (sym (append_assoc rest (head ++ decimal k) (codes " }"))
      ∙ ap (λ (l : List ℕ). l ++ codes " }") (sym (append_assoc rest head (decimal k))))
      ∙ flows-append (at 0) (at 1) ((rest ++ head) ++ decimal k) (codes " }") digits

  held : (statements part ≡ []) × (rest_of part ≡ part) × (place_of part ≡ at 0)
  held = flowing [] part (at 0) (at 0) place-nil part_flows

  ended : ends (rest_of part) 59 ≡ true
  ended = ap (λ (l : List ℕ). ends l 59) held.1 ∙ ap (λ (p : Place). stops p 59) held.2

  abbrev whole : List ℕ
  whole = rest ++ lines_of k

  whole_is : whole ≡ (part ++ 59 ∷ []) ++ behind
  whole_is = ap (λ (l : List ℕ). rest ++ l) (lines_split k) ∙ sym (append_assoc rest (first k) (59 ∷ behind))
      ∙ sym (append_assoc part (59 ∷ []) behind)

  pub size_statements : length (statements whole) ≡ 10
  size_statements =
      let front = statements-end part 59 ended in
      let none = rest-end part 59 ended in
      let joined = ap statements whole_is ∙ statements-append (part ++ 59 ∷ []) behind in
      let later = ap (λ (l : List ℕ). length (statements (l ++ behind))) none ∙ behind_statements in
      omega (
        arith,
        ap length joined,
        length-append (statements (part ++ 59 ∷ [])) (statements (rest_of (part ++ 59 ∷ []) ++ behind)),
        ap length front,
        length-append (statements part) (rest_of part ∷ []),
        ap length held.0,
        later,
      )

  pub size_rest : rest_of whole ≡ 10 ∷ []
  size_rest = ap rest_of whole_is ∙ rest-append (part ++ 59 ∷ []) behind
      ∙ ap (λ (l : List ℕ). rest_of (l ++ behind)) (rest-end part 59 ended) ∙ behind_rest

  pub size_length : length (lines_of k) ≤ 512
  size_length = omega (
    arith,
    ap length (lines_split k),
    length-append (first k) (59 ∷ behind),
    length-append (head ++ decimal k) (codes " }"),
    length-append head (decimal k),
    length-decimal-le 20 k (omega arith) (omega arith) small,
  )

feed_statements : statements (10 ∷ []) ≡ []
unfolding statements_from place_of
feed_statements = refl

-- the sizes one after another
sizes_statements : (k n : ℕ) → k + n < 2 ^ 64 → (rest : List ℕ) → IsStart rest → statements rest ≡ []
    → length (statements (rest ++ from k n)) ≡ 10 * n
unfolding from
sizes_statements k zero small rest start none = ap (λ (l : List ℕ). length (statements l)) (append-nil rest) ∙ ap length none
sizes_statements k (suc n) small rest start none =
    let size = rest ++ lines_of k in
    let split = ap statements (sym (append_assoc rest (lines_of k) (from (k + 1) n))) ∙ statements-append size (from (k + 1) n) in
    let later = ap (λ (l : List ℕ). length (statements (l ++ from (k + 1) n))) (size_rest k (omega arith) rest start)
    ∙ sizes_statements (k + 1) n (omega arith) (10 ∷ []) start_feed feed_statements in
    omega (
      arith,
      ap length split,
      length-append (statements size) (statements (rest_of size ++ from (k + 1) n)),
      size_statements k (omega arith) rest start,
      later,
    )

feed_blank : IsBlank (10 ∷ [])
feed_blank = blank_push [] 10 blank_nil refl

rest_feed : rest_of (10 ∷ []) ≡ 10 ∷ []
unfolding rest_from place_of
rest_feed = refl

sizes_rest : (k n : ℕ) → k + n < 2 ^ 64 → (rest : List ℕ) → IsStart rest → IsBlank rest → rest_of rest ≡ rest
    → IsBlank (rest_of (rest ++ from k n))
unfolding from
sizes_rest k zero small rest start blank same =
    subst IsBlank (sym (ap rest_of (append-nil rest) ∙ same)) blank
sizes_rest k (suc n) small rest start blank same =
    let size = rest ++ lines_of k in
    let split = ap rest_of (sym (append_assoc rest (lines_of k) (from (k + 1) n))) ∙ rest-append size (from (k + 1) n)
    ∙ ap (λ (l : List ℕ). rest_of (l ++ from (k + 1) n)) (size_rest k (omega arith) rest start) in
    subst IsBlank (sym split) (sizes_rest (k + 1) n (omega arith) (10 ∷ []) start_feed feed_blank rest_feed)

sizes_length : (k n : ℕ) → k + n < 2 ^ 64 → length (from k n) ≤ 512 * n
unfolding from
sizes_length k zero small = omega arith
sizes_length k (suc n) small =
    omega (
      arith,
      length-append (lines_of k) (from (k + 1) n),
      size_length k (omega arith) [] start_nil,
      sizes_length (k + 1) n (omega arith),
    )

module _ (n : ℕ) (few : n ≤ 1000) where
  pub stencil_statements : length (statements (stencil n)) ≡ 10 * n
  stencil_statements = sizes_statements 2 n (omega arith) [] start_nil (statements-none [])

  pub stencil_blank : IsBlank (rest_of (stencil n))
  stencil_blank = sizes_rest 2 n (omega arith) [] start_nil blank_nil (rest-none [])

  pub stencil_length : length (stencil n) ≤ 512 * n
  stencil_length = sizes_length 2 n (omega arith)
