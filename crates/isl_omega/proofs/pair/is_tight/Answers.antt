use Rattle.std.proofs.Common.{◌≡◌, arith}
use Rattle.isl_piece.specs.Normal.{Always, Never, Kept, normal_row}
use Rattle.isl_omega.proofs.TightLemmas.{tight_never, tight_always, tight_same}
use Rattle.isl_omega.proofs.pair.is_tight.Goals as goal

pub returns-in-Fails-default : goal.returns-in-Fails-default
returns-in-Fails-default c =
    let never : normal_row c.args.real.now ≡ Never = grind arith in
    λ _. tight_never c.args.real.now c.args.dark.now c.requires.real_divisor never

pub returns-in_default-Holds : goal.returns-in_default-Holds
returns-in_default-Holds c =
    let always : normal_row c.args.dark.now ≡ Always = grind arith in
    λ _. tight_always c.args.real.now c.args.dark.now c.requires.dark_divisor always

pub returns-in-Stays-Stays : goal.returns-in-Stays-Stays
returns-in-Stays-Stays c =
    let a = c.settle.new.row in
    let b = c.settle-2.new.row in
    let first : normal_row c.args.real.now ≡ Kept a = grind arith in
    let second : normal_row c.args.dark.now ≡ Kept b = grind arith in
    λ t. let same = c.has_same_form.ensures t in
    tight_same c.args.real.now c.args.dark.now a b c.requires.real_kind c.requires.dark_kind c.requires.real_divisor c.requires.dark_divisor first second same.0 same.1
