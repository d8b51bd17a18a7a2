use Rattle.isl_search.proofs.writer.Writer.+write.Given as goal

abbrev pub decreases-write : goal.decreases-write
decreases-write l = l.fuel

abbrev pub decreases-node : goal.decreases-node
decreases-node l = l.fuel

abbrev pub decreases-parts : goal.decreases-parts
decreases-parts l = l.fuel

abbrev pub decreases-part : goal.decreases-part
decreases-part l = l.fuel
