-- Each token adds at most one to the depth, so 200 tokens are never too deep.
use Rattle.std.proofs.Common.{◌≡◌, ◌≤◌, ◌+◌, Bool, true, false, cond, List, [], ◌∷◌, length, refl, sym, arith}
use Rattle.std.specs.Prelude.{nat_lt}
use Rattle.std.specs.List.{list_any}
use Rattle.std.proofs.lemmas.Bool.{le-ltb}
use Rattle.isl_token.specs.TokenView.{Token}
use Rattle.isl_token.specs.declared.token.Kind.{Kind}
use Rattle.isl_token.specs.declared.token.Kind.TheVariants as kind
use Rattle.isl_token.specs.declared.depth.Place.{Place}
use Rattle.isl_token.specs.Token.{kind_of}
use Rattle.isl_token.specs.Depth.{is_stacking, is_too_deep, depths, step, step_by, start}

one_or_none : (b : Bool) → cond b 1 0 ≤ 1
one_or_none true = omega arith
one_or_none false = omega arith

deeper_by_one : (p : Place) (stacking : Bool) (k : Kind)
    → (step_by p stacking k).brackets + (step_by p stacking k).words ≤ p.brackets + p.words + 1
deeper_by_one p stacking kind.Open = omega arith
deeper_by_one p stacking kind.OpenSquare = omega arith
deeper_by_one p stacking kind.OpenBrace = omega arith
deeper_by_one p stacking kind.Close = omega arith
deeper_by_one p stacking kind.CloseSquare = omega arith
deeper_by_one p stacking kind.CloseBrace = omega arith
deeper_by_one p stacking kind.Semicolon = omega arith
deeper_by_one p stacking _ = omega (arith, one_or_none stacking)

few_from : (p : Place) (ts : List Token) → p.brackets + p.words + length ts ≤ 200 → list_any (nat_lt 200) (depths p ts) ≡ false
few_from p [] few = refl
few_from p (t ∷ ts) few =
    let deeper = deeper_by_one p (is_stacking t) (kind_of t) in
    let next : Place = step p t in
    let within : next.brackets + next.words ≤ 200 = omega (arith, deeper) in
    rw (le-ltb 200 (next.brackets + next.words) within) (few_from next ts (omega (arith, deeper)))

pub few_tokens : (ts : List Token) → length ts ≤ 200 → false ≡ is_too_deep ts
few_tokens ts few = sym (few_from start ts (omega arith))
