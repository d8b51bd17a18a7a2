-- How many whole numbers in a row are enough: what the search for them says, which takes one class of numbers away for each row.
use Rattle.std.proofs.Common.{◌≡◌, ◌∙◌, sym, ap, subst, arith, not, ℕ, ◌+◌, ◌-◌, ◌<◌, ℤ, ◌+ℤ◌, List, [], ◌∷◌, ◌++◌, append_assoc, drop, get_or, length}
use Rattle.std.specs.List.{All, Any, filter, insert}
use Rattle.std.specs.Ordering.{int_eq}
use Rattle.std.proofs.lemmas.List.Elements.{All-nil, All-head, All-push, All-contains}
use Rattle.std.proofs.lemmas.List.{append-nil}
use Rattle.std.proofs.lemmas.List.Quantifiers.{Any-push}
use Rattle.isl_math.specs.Divide.{floor_mod}
use Rattle.isl_math.proofs.ListLaws.{All-parts, Any-first, Any-element, Any-left}
use Rattle.isl_meter.specs.Gauge.{Gauge}
use Rattle.isl_piece.specs.declared.row.Row.{Row}
use Rattle.isl_piece.specs.Row.{HoldsRow}
use Rattle.isl_omega.specs.Column.{HoldAt}
use Rattle.isl_omega.specs.Congruence.{period}
use Rattle.isl_omega.specs.Sides.{IsNotDivides}
use Rattle.isl_shadows.specs.Neighbours.{IsMetAmong, AreMetAmong, others_than}
use Rattle.isl_column.specs.Neighbours.{IsChoice, ArePushedFor, ArePushed, AreEnough}
use Rattle.isl_column.specs.declared.neighbours.Choice.{Choice}
use Rattle.isl_shadows.proofs.SearchLemmas.{row_met}

-- ---- pushed choices
pub pushed_none : (p : ℤ) (level : ℕ) (numbers : List ℤ) (old : List Choice) → ArePushedFor p level numbers [] old old
pushed_none p level numbers old =
    record { more = []; pushed = sym (append-nil old); each = All-nil (λ n. Any (IsChoice (others_than p n numbers) level) []) }

-- one of another class
pub pushed_more : (p : ℤ) (level : ℕ) (numbers some : List ℤ) (m : ℤ) (old new newer : List Choice) (choice : Choice)
    → ArePushedFor p level numbers some old new → newer ≡ new ++ choice ∷ [] → IsChoice (others_than p m numbers) level choice
    → ArePushedFor p level numbers (some ++ m ∷ []) old newer
pushed_more p level numbers some m old new newer choice push e is = record {
  more = push.more ++ choice ∷ [];
  pushed = e ∙ ap (λ (choices : List Choice). choices ++ choice ∷ []) push.pushed ∙ append_assoc old push.more (choice ∷ []);
  each = All-push (λ n. Any (IsChoice (others_than p n numbers) level) (push.more ++ choice ∷ [])) some m
      (λ i d k. Any-left (IsChoice (others_than p (get_or some i d) numbers) level) push.more (choice ∷ []) (push.each i d k))
      (Any-push (IsChoice (others_than p m numbers) level) push.more choice is);
}

-- one of a class that was there
pub pushed_alike : (p : ℤ) (level : ℕ) (numbers some : List ℤ) (m : ℤ) (old new : List Choice) → ArePushedFor p level numbers some old new
    → Any (λ n. floor_mod n p ≡ floor_mod m p) some → ArePushedFor p level numbers (some ++ m ∷ []) old new
pushed_alike p level numbers some m old new push alike = record {
  more = push.more;
  pushed = push.pushed;
  each = All-push (λ n. Any (IsChoice (others_than p n numbers) level) push.more) some m push.each
      (let e = Any-element (λ n. floor_mod n p ≡ floor_mod m p) some alike in
      subst (λ (rest : ℤ). Any (IsChoice (filter (λ n. not (int_eq (floor_mod n p) rest)) numbers) level) push.more) e.2
      (All-contains (λ n. Any (IsChoice (others_than p n numbers) level) push.more) some e.0 push.each e.1));
}

-- ---- choices
pub enough_at_first : (columns col : ℕ) (rows : List Row) (numbers : List ℤ) (choice : Choice) → IsChoice numbers 0 choice
    → AreEnough columns col rows (choice ∷ []) numbers
enough_at_first columns col rows numbers choice is point x n all =
    subst (λ (own : List ℤ). IsMetAmong rows col point x own) is.0
    (subst (λ (level : ℕ). IsMetAmong (drop level rows) col point x choice.numbers.items) is.1
    (All-head (λ c. IsMetAmong (drop c.level rows) col point x c.numbers.items) choice [] all))

-- one of the numbers of the last choice surely meets the rows that are left
pub enough_as_met : (columns col : ℕ) (rows : List Row) (choices : List Choice) (choice : Choice) (numbers : List ℤ)
    → AreMetAmong columns col (drop choice.level rows) choice.numbers.items
    → AreEnough columns col rows (choices ++ choice ∷ []) numbers → AreEnough columns col rows choices numbers
enough_as_met columns col rows choices choice numbers met enough point x n all =
    enough point x n (All-push (λ c. IsMetAmong (drop c.level rows) col point x c.numbers.items) choices choice all (met point x n))

-- no row is left
pub enough_without : (columns col : ℕ) (rows : List Row) (choices : List Choice) (choice : Choice) (numbers : List ℤ)
    → 0 < length choice.numbers.items → drop choice.level rows ≡ []
    → AreEnough columns col rows (choices ++ choice ∷ []) numbers → AreEnough columns col rows choices numbers
enough_without columns col rows choices choice numbers some none =
    enough_as_met columns col rows choices choice numbers (λ point x n. rw none (any_number point x choice.numbers.items some))
  where
    any_number : (point : List ℤ) (x : ℤ) (own : List ℤ) → 0 < length own → IsMetAmong [] col point x own
    any_number point x [] h = absurd (omega arith)
    any_number point x (m ∷ own) h = Any-first (λ n. HoldAt [] col point (x +ℤ n)) m own (All-nil (λ r. HoldsRow r (insert point col (x +ℤ m))))

-- one row more is taken
pub enough_with : (g : Gauge) (columns col : ℕ) (rows : List Row) (r : Row) (choices pushed : List Choice) (choice : Choice) (numbers : List ℤ)
    → col < columns → IsNotDivides g columns col r → 0 < length choice.numbers.items
    → drop choice.level rows ≡ r ∷ drop (choice.level + 1) rows → ArePushed (period col r) (choice.level + 1) choice.numbers.items choices pushed
    → AreEnough columns col rows (choices ++ choice ∷ []) numbers → AreEnough columns col rows pushed numbers
enough_with g columns col rows r choices pushed choice numbers l h some here push enough point x n all =
    let parts = All-parts Own choices push.more (rw (push.pushed) at all) in
    let own = row_met g columns col r (drop (choice.level + 1) rows) choice.numbers.items point x l n h some
    (λ i d k. each (get_or choice.numbers.items i d) parts.1 (push.each i d k)) in
    enough point x n (All-push Own choices choice parts.0 (rw here own))
  where
    Own : Choice → Type 0
    Own c = IsMetAmong (drop c.level rows) col point x c.numbers.items

    each : (m : ℤ) → All Own push.more → Any (IsChoice (others_than (period col r) m choice.numbers.items) (choice.level + 1)) push.more
        → IsMetAmong (drop (choice.level + 1) rows) col point x (others_than (period col r) m choice.numbers.items)
    each m owns any =
        let e = Any-element (IsChoice (others_than (period col r) m choice.numbers.items) (choice.level + 1)) push.more any in
        let c = e.0 in
        let is = e.2 in
        let own : Own c = All-contains Own push.more c owns e.1 in
        subst (λ (numbers : List ℤ). IsMetAmong (drop (choice.level + 1) rows) col point x numbers) is.0
        (subst (λ (level : ℕ). IsMetAmong (drop level rows) col point x c.numbers.items) is.1 own)

pub enough_at_last : (columns col : ℕ) (rows : List Row) (choices : List Choice) (numbers : List ℤ) → choices ≡ []
    → AreEnough columns col rows choices numbers → AreMetAmong columns col rows numbers
enough_at_last columns col rows choices numbers none enough = λ point x n.
    enough point x n (rw none (All-nil (λ c. IsMetAmong (drop c.level rows) col point x c.numbers.items)))
