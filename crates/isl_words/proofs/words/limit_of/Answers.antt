use Rattle.std.proofs.Common.{◌≡◌, ◌*◌, ◌%◌, ◌≤◌, ◌^◌, arith, pow_mono}
use Rattle.std.proofs.lemmas.Nat.{one_shl}
use Rattle.isl_words.proofs.words.limit_of.Goals as goal

pub returns-clause-small : goal.returns-clause-small
returns-clause-small c =
    let power : 2 ^ c.args.bits ≤ 2 ^ 127 = pow_mono c.requires in
    let whole : 1 * 2 ^ c.args.bits % 2 ^ 128 ≡ 2 ^ c.args.bits = one_shl c.args.bits 128 (omega arith) in
    omega (arith, power, whole)
