-- When each answer of reading a literal or a parameter set comes.
use Rattle.std.proofs.Common.{◌≡◌, ℕ, ℤ, suc, ◌+◌, ◌-◌, ◌<◌, ◌≤◌, Bool, true, false, cond, List, ◌++◌, length, take}
use Rattle.std.proofs.Common.{drop, Option, Some, None, Result, Ok, Err, refl, sym, ap, subst, ◌∙◌, inl, inr, arith, length-append}
use Rattle.std.specs.Prelude.{not, slice_range}
use Rattle.std.proofs.lemmas.Bool.{true≢false}
use Rattle.std.proofs.lemmas.List.{take-append-drop, drop-drop, length-drop}
use Rattle.std.proofs.Math.Seq.{take-append_seam}
use Rattle.isl_token.specs.TokenView.{Token}
use Rattle.isl_token.specs.declared.fault.Fault.{Fault}
use Rattle.isl_token.specs.declared.fault.Fault.TheVariants as fault
use Rattle.isl_token.specs.Depth.{is_too_deep}
use Rattle.isl_token.specs.Reading.{Reads}
use Rattle.isl_token.proofs.Taking.{Takes, same_read}
use Rattle.isl_token.proofs.Again.{Again, always}
use Rattle.isl_tree.specs.declared.tree.Literal.{Literal}
use Rattle.isl_refusal.specs.declared.refusal.Refusal.{Refusal}
use Rattle.isl_refusal.specs.declared.refusal.Refusal.TheVariants.{TooWide, TooDeep, WideNumber}
use Rattle.isl_token.specs.Fault.{of_fault}
use Rattle.isl_text.specs.Limits.{is_within}
use Rattle.isl_text.specs.Read.{IsTreeAt, TreeStands, has_wide_number, judged, TreeOnlyWhere, TreeExactlyWhere}
use Rattle.isl_text.specs.declared.read.Form.{Form}
use Rattle.isl_text.specs.declared.read.Form.TheVariants as form
use Rattle.isl_text.specs.Forms.{grammar_of, parser_of}
use Rattle.isl_text.proofs.LiteralLaws.{literal_taken, literal_again}
use Rattle.isl_text.proofs.PsetLaws.{pset_taken, pset_again}

form_taken : (which : Form) (n : ℕ) → Takes (parser_of which n) (grammar_of which n)
form_taken form.Literal = literal_taken
form_taken form.Pset = pset_taken

form_again : (which : Form) (n depth : ℕ) → Again n (parser_of which n) (grammar_of which depth) always
form_again form.Literal = literal_again
form_again form.Pset = pset_again

-- what stands at a place, what is answered, and when, of a form
abbrev IsAt : Form → List Token → ℕ → Literal → ℕ → Type 0
IsAt which = IsTreeAt (grammar_of which)

abbrev Stands : Form → List Token → ℕ → Result (Literal × ℕ) Fault → Type 0
Stands which = TreeStands (grammar_of which)

abbrev Only : Form → List Token → ℕ → ℤ → Result (Literal × ℕ) Refusal → Type 0
Only which = TreeOnlyWhere (grammar_of which)

abbrev Exactly : Form → List Token → ℕ → ℤ → Result (Literal × ℕ) Refusal → Type 0
Exactly which = TreeExactlyWhere (grammar_of which)

-- the tokens from a place on: those up to the next place, and those behind it
split_at : (ts : List Token) (at next : ℕ) → at ≤ next → drop at ts ≡ slice_range ts at next ++ drop next ts
split_at ts at next le =
    let e : at + (next - at) ≡ next = omega arith in
    sym (take-append-drop (next - at) (drop at ts)) ∙ ap (λ (l : List Token). slice_range ts at next ++ l)
    (drop-drop (next - at) at ts ∙ ap (λ k. drop k ts) e)

module _ (which : Form) (ts : List Token) (at : ℕ) (begins : at ≤ length ts) (n : ℕ) (enough : length (drop at ts) < n) where
  -- what is read there is one that stands there
  pub tree_found : (found : Literal) (left : List Token) → parser_of which n (drop at ts) ≡ Some (found, left)
      → IsAt which ts at found (length ts - length left)
  tree_found found left e =
      let c = (form_taken which n (drop at ts)).by found left e in
      let lens : length (drop at ts) ≡ length c.0 + length left = ap length c.1 ∙ length-append c.0 left in
      let dropped = length-drop at ts in
      let width : (length ts - length left) - at ≡ length c.0 = omega (arith, lens, dropped, begins) in
      let same : slice_range ts at (length ts - length left) ≡ c.0 = ap (λ k. take k (drop at ts)) width ∙ ap (take (length c.0)) c.1
      ∙ take-append_seam c.0 left in
      record {
        ends = (omega (arith, lens, dropped, begins), omega arith);
        spelled = record { depth = n; spelled = rw same c.2 };
      }

  -- one that stands there is read
  pub tree_read : (found : Literal) (next : ℕ) → IsAt which ts at found next
      → parser_of which n (drop at ts) ≡ Some (found, drop next ts)
  tree_read found next is =
      let whole = split_at ts at next is.ends.0 in
      let lens : length (drop at ts) ≡ length (slice_range ts at next) + length (drop next ts) = ap length whole ∙ length-append
      (slice_range ts at next) (drop next ts) in
      ap (parser_of which n) whole
      ∙ (form_again which n is.spelled.depth).by found (slice_range ts at next) (drop next ts) is.spelled.spelled
      (omega (arith, lens, enough)) refl

  -- so what is read there fails where none stands there
  pub stands : (f : Fault) (left : List Token) → Reads (parser_of which n (drop at ts)) (Err f) left → Stands which ts at (Err f)
  stands fault.NoMemory left none = tt
  stands fault.Syntax left none = λ found next is. no_read (sym none ∙ tree_read found next is)
    where
      no_read : {x : Literal × List Token} → None ≡ Some x → ⊥
      no_read e = cc

  pub tree_left : (found : Literal) (left : List Token) → parser_of which n (drop at ts) ≡ Some (found, left) → length left ≤ length ts
  tree_left found left e =
      let c = (form_taken which n (drop at ts)).by found left e in
      omega (arith, ap length c.1, length-append c.0 left, length-drop at ts)

-- the same where the code reads from a cursor over what begins at the place
module _ (which : Form) (ts : List Token) (at : ℕ) (begins : at ≤ length ts) (start cursor : List Token) (depth : ℕ)
    (same : start ≡ drop at ts) (is : cursor ≡ start) (deep : depth ≡ length start) where
  enough : length (drop at ts) < depth + 1
  enough = omega (arith, ap length same, deep)

  from_place : {x : Option (Literal × List Token)} → parser_of which (depth + 1) cursor ≡ x → parser_of which (depth + 1) (drop at ts) ≡ x
  from_place e = ap (parser_of which (depth + 1)) (sym (is ∙ same)) ∙ e

  pub found_from : (found : Literal) (left : List Token) (whole m : ℕ) → parser_of which (depth + 1) cursor ≡ Some (found, left)
      → whole ≡ length ts → m ≡ length left → IsAt which ts at found (whole - m)
  found_from found left whole m e all len = rw (all, len) (tree_found which ts at begins (depth + 1) enough found left (from_place e))

  pub left_from : (found : Literal) (left : List Token) (whole m : ℕ) → parser_of which (depth + 1) cursor ≡ Some (found, left)
      → whole ≡ length ts → m ≡ length left → m ≤ whole
  left_from found left whole m e all len = rw (all, len) (tree_left which ts at begins (depth + 1) enough found left (from_place e))

  pub stands_from : (f : Fault) (left : List Token) → Reads (parser_of which (depth + 1) cursor) (Err f) left → Stands which ts at (Err f)
  stands_from f left e = stands which ts at begins (depth + 1) enough f left
      (subst (λ (l : List Token). Reads (parser_of which (depth + 1) l) (Err f) left) (is ∙ same) e)

pub ruleset places = (found_from, left_from, stands_from)

-- at most one stands at a place
pub same_tree : (which : Form) (ts : List Token) (at : ℕ) (found other : Literal) (next behind : ℕ) → at ≤ length ts
    → IsAt which ts at found next
    → IsAt which ts at other behind → (found ≡ other) × (next ≡ behind)
same_tree which ts at found other next behind begins is also =
    let n = suc (length (drop at ts)) in
    let one = tree_read which ts at begins n (omega arith) found next is in
    let two = tree_read which ts at begins n (omega arith) other behind also in
    let p = same_read found other (drop next ts) (drop behind ts) (sym one ∙ two) in
    let lens : length ts - next ≡ length ts - behind = sym (length-drop next ts) ∙ ap length p.1 ∙ length-drop behind ts in
    (p.0, omega (arith, lens, is.ends.1, also.ends.1))

module _ (which : Form) (ts : List Token) (at : ℕ) (begins : at ≤ length ts) (limit : ℤ) where
  -- ---- too deep

  pub deep_exactly : is_too_deep ts ≡ true → Exactly which ts at limit (Err TooDeep)
  deep_exactly deep = record {
    deep = λ _. inl refl;
    none = λ flat _. absurd (true≢false (sym deep ∙ flat));
    some = λ flat _ _ _. absurd (true≢false (sym deep ∙ flat));
  }

  module _ (flat : is_too_deep ts ≡ false) where
    -- ---- none

    pub fault_only : (f : Fault) → Stands which ts at (Err f) → Only which ts at limit (Err (of_fault f))
    fault_only fault.NoMemory none = tt
    fault_only fault.Syntax none = (flat, none)

    pub fault_exactly : (f : Fault) → Stands which ts at (Err f) → Exactly which ts at limit (Err (of_fault f))
    fault_exactly fault.NoMemory none = record { deep = λ _. inr refl; none = λ _ _. inr refl; some = λ _ _ _ _. inr refl }
    fault_exactly fault.Syntax none = record {
      deep = λ deep. absurd (true≢false (sym deep ∙ flat));
      none = λ _ _. inl refl;
      some = λ _ found next is. absurd (none found next is);
    }

    -- ---- one

    module _ (found : Literal) (next : ℕ) (is : IsAt which ts at found next) where
      abbrev answer : Result (Literal × ℕ) Refusal
      answer = judged limit (slice_range ts at next) found next

      by_tests : (wide big : Bool) → answer ≡ cond wide (Err TooWide) (cond big (Err WideNumber) (Ok (found, next)))
          → Only which ts at limit (cond wide (Err TooWide) (cond big (Err WideNumber) (Ok (found, next))))
      by_tests true big e = (flat, (found, next, is, sym e))
      by_tests false true e = (flat, (found, next, is, sym e))
      by_tests false false e = (flat, (found, next, is, sym e))

      pub judged_only : Only which ts at limit answer
      judged_only = by_tests (not (is_within found)) (has_wide_number limit (slice_range ts at next)) refl

      pub judged_exactly : Exactly which ts at limit answer
      judged_exactly = record {
        deep = λ deep. absurd (true≢false (sym deep ∙ flat));
        none = λ _ no. absurd (no found next is);
        some = λ _ other behind also. let p = same_tree which ts at found other next behind begins is also in
            inl (ap (λ (l : Literal). judged limit (slice_range ts at next) l next) p.0 ∙ ap
            (λ k. judged limit (slice_range ts at k) other k) p.1);
      }

-- ---- as the code has it: its tokens by themselves, and a limit that is read back

module _ (which : Form) (ts : List Token) (at : ℕ) (begins : at ≤ length ts) (limit : ℤ) (flat : is_too_deep ts ≡ false) where
  pub only_fault : (f : Fault) (refusal : Refusal) → Stands which ts at (Err f)
      → refusal ≡ of_fault f → Only which ts at limit (Err refusal)
  only_fault f refusal none is = rw is (fault_only which ts at begins limit flat f none)

  pub exactly_fault : (f : Fault) (refusal : Refusal) → Stands which ts at (Err f)
      → refusal ≡ of_fault f → Exactly which ts at limit (Err refusal)
  exactly_fault f refusal none is = rw is (fault_exactly which ts at begins limit flat f none)

  module _ (found : Literal) (next : ℕ) (is : IsAt which ts at found next) (k : ℤ) (back : k ≡ limit) (us : List Token)
      (spelled : us ≡ slice_range ts at next)
      (result : Result (Literal × ℕ) Refusal) (answer : result ≡ judged k us found next) where
    answer_is : result ≡ judged limit (slice_range ts at next) found next
    answer_is = answer ∙ ap (λ z. judged z us found next) back ∙ ap (λ (l : List Token). judged limit l found next) spelled

    pub only_judged : Only which ts at limit result
    only_judged = subst (Only which ts at limit) (sym answer_is) (judged_only which ts at begins limit flat found next is)

    pub exactly_judged : Exactly which ts at limit result
    exactly_judged = subst (Exactly which ts at limit) (sym answer_is) (judged_exactly which ts at begins limit flat found next is)
