use Rattle.std.proofs.Common.{◌≡◌, Some, None, true, false, arith}
use Rattle.isl_column.proofs.PartsLemmas.{more_if_unspent, none_if_spent, more_if_residue}
use Rattle.isl_column.proofs.parts.Parts.has_more.Goals as goal

pub returns-then-not-are_spent : goal.returns-then-not-are_spent
returns-then-not-are_spent c = λ g columns are.
    let tails : c.as_slice.result.now ≡ c.args.self.now.dark_shadow.tails.items = grind arith in
    let not_all : c.are_spent.result ≡ false = grind arith in
    more_if_unspent g columns c.args.self.now c.are_spent.result c.as_slice.result.now tails c.are_spent.ensures not_all are

pub returns-in-None : goal.returns-in-None
returns-in-None c = λ g columns are.
    let tails : c.as_slice.result.now ≡ c.args.self.now.dark_shadow.tails.items = grind arith in
    let all : c.are_spent.result ≡ true = grind arith in
    let none : c.args.self.now.residues ≡ None = grind arith in
    none_if_spent g columns c.args.self.now c.are_spent.result c.as_slice.result.now tails c.are_spent.ensures all none are

pub returns-in-Some : goal.returns-in-Some
returns-in-Some c = λ g columns are.
    let tails : c.as_slice.result.now ≡ c.args.self.now.dark_shadow.tails.items = grind arith in
    let all : c.are_spent.result ≡ true = grind arith in
    let some : c.args.self.now.residues ≡ Some c.in-Some.residues = grind arith in
    more_if_residue g columns c.args.self.now c.are_spent.result c.is_positive.result c.as_slice.result.now c.in-Some.residues tails c.are_spent.ensures all some c.is_positive.ensures are
