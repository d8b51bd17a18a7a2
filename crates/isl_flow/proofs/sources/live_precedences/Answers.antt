use Rattle.isl_flow.proofs.sources.live_precedences.Goals as goal

pub precedences-requires : goal.precedences-requires
precedences-requires c = rw (c.as_slice-sources.ensures.value, c.as_slice-sinks.ensures.value, c.as_slice-times.ensures.value) (record {
  sources = λ k d l. (c.requires.sources k d l).sound;
  sinks = λ k d l. (c.requires.sinks k d l).sound;
  times = λ k d l. (c.requires.times k d l).sound;
  sources_within = λ k d l. (c.requires.sources k d l).within;
  sinks_within = λ k d l. (c.requires.sinks k d l).within;
  times_within = λ k d l. (c.requires.times k d l).within;
  narrow = c.requires.narrow;
})

pub returns-clause-made : goal.returns-clause-made
returns-clause-made c =
    rw (c.as_slice-sources.ensures.value, c.as_slice-sinks.ensures.value, c.as_slice-times.ensures.value) at c.precedences.ensures.made
