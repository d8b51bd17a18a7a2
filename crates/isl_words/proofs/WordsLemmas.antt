-- What the values given to the options choose.
use Rattle.std.proofs.Common.{◌≡◌, ◌∙◌, ℕ, ℤ, ◌-◌, ◌^◌, ◌≤◌, List, [], Option, Some, None, option_map, refl, sym, subst, codes, arith}
use Rattle.std.proofs.Common.{String, Global, map}
use Rattle.std.specs.Prelude.{string_bytes, unsigned_abs, IfSome}
use Rattle.std.specs.List.{list_any, slice_split}
use Rattle.std.proofs.lemmas.List.Elements.{All-nil}
use Rattle.clap.proofs.WalkLemmas.{list_any-map}
use Rattle.clap.specs.Walk.{Row, Text, first_of}
use Rattle.clap.specs.Simple.{matches_of}
use Rattle.isl_space.specs.Name.{IsIdentifier}
use Rattle.isl_words.specs.Binding.{is_comma}
use Rattle.isl_words.specs.Options.{OptionsView, AreNumbers, IsChoice}
use Rattle.isl_words.specs.Options.{least_bits, most_bits, usual_bits, least_budget, most_budget, usual_budget, least_made, most_made}
use Rattle.isl_words.specs.Number.{number}
use Rattle.isl_words.specs.Taken.{AreGiven, AreTaken, Chooses, chosen, command, is_dashes, make_of}
use Rattle.isl_words.proofs.NumberLemmas.{some_same, number_range}
use Rattle.isl_words.proofs.BindingLemmas.{bindings_added, bindings_are}

abbrev Binding : Type 0
Binding = List ℕ × ℤ

-- ---- the choices of one command line

chosen_range : (low high usual : ℕ) (given : Option Text) (n : ℕ) → low ≤ usual → usual ≤ high → chosen low high usual given ≡ Some n
    → (low ≤ n) × (n ≤ high)
chosen_range low high usual None n least most is = let same = some_same usual n is in (omega arith, omega arith)
chosen_range low high usual (Some text) n least most is = number_range low high text n is

given_once : (limit : ℕ) (given : Option Text) (a b : List Binding) → AreGiven limit given a → AreGiven limit given b → a ≡ b
given_once limit None a b first second = first ∙ sym second
given_once limit (Some text) a b first second = some_same a b (sym (bindings_added limit text a first) ∙ bindings_added limit text b second)

pub none_numbered : (limit : ℕ) → AreNumbers limit []
none_numbered limit = record {
  named = All-nil (λ g. IsIdentifier g.0);
  distinct = λ i j d before within. absurd (omega arith);
  small = All-nil (λ g. unsigned_abs g.1 ≤ limit);
}

pub given_numbers : (limit : ℕ) (given : Option Text) (at : List Binding) → AreGiven limit given at → AreNumbers limit at
given_numbers limit None at none = subst (AreNumbers limit) (sym none) (none_numbered limit)
given_numbers limit (Some text) at are =
    let each = bindings_are limit (slice_split is_comma text) at are.each in
    record { named = each.0; distinct = are.distinct; small = each.1 }

chooses_once : (rows : List Row) (a b : OptionsView) → Chooses rows a → Chooses rows b → a ≡ b
chooses_once rows a b first second =
    let bits : a.bits ≡ b.bits = some_same a.bits b.bits (sym first.bits ∙ second.bits) in
    let budget : a.budget ≡ b.budget = some_same a.budget b.budget (sym first.budget ∙ second.budget) in
    let run : a.run ≡ b.run = sym first.run ∙ second.run in
    let at : a.at ≡ b.at =
    given_once (2 ^ b.bits - 1) (first_of (codes "at") rows) a.at b.at
    (subst (λ (n : ℕ). AreGiven (2 ^ n - 1) (first_of (codes "at") rows) a.at) bits first.at) second.at in
    let make : a.make ≡ b.make = some_same a.make b.make (sym first.make ∙ second.make) in
    let keep_going : a.keep_going ≡ b.keep_going = sym first.keep_going ∙ second.keep_going in
    let cert : a.cert ≡ b.cert = sym first.cert ∙ second.cert in
    λ i. record { bits = bits i; budget = budget i; at = at i; run = run i; make = make i; keep_going = keep_going i; cert = cert i }

pub taken_once : (words : List Text) (a b : OptionsView) → AreTaken words a → AreTaken words b → a ≡ b
taken_once words a b first second = chooses_once (matches_of command words) a b first.chosen second.chosen

-- for how many sizes a script is made
made_range : (number_is make : Option ℕ) → ((n : ℕ) → number_is ≡ Some n → (least_made ≤ n) × (n ≤ most_made))
    → option_map (λ n. Some n) number_is ≡ Some make → IfSome make (λ n. (least_made ≤ n) × (n ≤ most_made))
made_range None make range is = absurd (let bad : ⊥ = cc in bad)
made_range (Some m) make range is =
    subst (λ (o : Option ℕ). IfSome o (λ n. (least_made ≤ n) × (n ≤ most_made))) (some_same (Some m) make is) (range m refl)

made_choice : (given : Option Text) (make : Option ℕ) → make_of given ≡ Some make → IfSome make (λ n. (least_made ≤ n) × (n ≤ most_made))
made_choice None make is = subst (λ (o : Option ℕ). IfSome o (λ n. (least_made ≤ n) × (n ≤ most_made))) (some_same None make is) tt
made_choice (Some text) make is =
    made_range (number least_made most_made text) make (λ n same. number_range least_made most_made text n same) is

chooses_choice : (rows : List Row) (a : OptionsView) → Chooses rows a → IsChoice a
chooses_choice rows a is = record {
  bits = chosen_range least_bits most_bits usual_bits (first_of (codes "bits") rows) a.bits (omega arith) (omega arith) is.bits;
  budget = chosen_range least_budget most_budget usual_budget (first_of (codes "budget") rows) a.budget (omega arith) (omega arith)
      is.budget;
  at = given_numbers (2 ^ a.bits - 1) (first_of (codes "at") rows) a.at is.at;
  make = made_choice (first_of (codes "make") rows) a.make is.make;
}

pub taken_choice : (words : List Text) (a : OptionsView) → AreTaken words a → IsChoice a
taken_choice words a is = chooses_choice (matches_of command words) a is.chosen

-- ---- words as texts
pub dashes : (words : List (String Global)) → list_any (λ word. is_dashes (string_bytes word)) words
    ≡ list_any is_dashes (map string_bytes words)
dashes words = list_any-map is_dashes string_bytes words
