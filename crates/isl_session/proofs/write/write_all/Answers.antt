use Rattle.std.proofs.Common.{◌∙◌, ◌-◌, List, ℕ, arith, length, subst, drop}
use Rattle.std.proofs.lemmas.List.{length-take, length-drop}
use Rattle.std.specs.Io.KnownBytes.{Appends}
use Rattle.std.proofs.KnownBytes.{Appends-trans}
use Rattle.isl_session.proofs.KnownLemmas.{take_on}
use Rattle.isl_session.proofs.write.write_all.Goals as goal

pub loop-at-preserved : goal.loop-at-preserved
loop-at-preserved g c =
    let so_far = c.loop-at.invariant in
    let wrote = c.in_ok-at.ensures in
    record {
      within = omega (
        arith,
        so_far.within,
        wrote.fits.1,
        length-take (length c.args.text.now - c.loop-at.at)
            (drop c.loop-at.at c.args.text.now),
        length-drop c.loop-at.at c.args.text.now,
      );
      wrote = subst (λ (l : List ℕ). Appends (g.K.Sink.written c.args.out.now) (g.K.Sink.written c.write.new.self) l)
          (take_on c.loop-at.at c.in_ok-at.field-0 c.args.text.now)
          (Appends-trans _ _ _ _ _ so_far.wrote wrote.bytes);
      kept = wrote.kept ∙ so_far.kept;
    }
