-- public: what is seen of the sources and sinks of this crate. A source or a sink over memory is seen whole.
use Rattle.std.specs.Prelude.{ℕ, ◌-◌, List, length}

-- the bytes that a source in memory has left, the most that it gives at once, the numbers of the calls that
-- fail, how many calls there were, and how many of them failed
pub record Feed : Type 0 where
  pub left : List ℕ
  pub most : ℕ
  pub fails : List ℕ
  pub calls : ℕ
  pub faults : ℕ

-- the bytes that were written to a sink in memory, how many it has room for in all, the most that it takes at
-- once, the numbers of the calls that fail, how many calls there were, and how many of them failed
pub record Store : Type 0 where
  pub written : List ℕ
  pub room : ℕ
  pub most : ℕ
  pub fails : List ℕ
  pub calls : ℕ
  pub faults : ℕ

-- how many bytes still fit into a sink in memory
abbrev pub room_left : Store → ℕ
room_left store = store.room - length store.written

-- the bytes that a source without faults has left, and the most that it gives at once
pub record CleanFeed : Type 0 where
  pub left : List ℕ
  pub most : ℕ

-- a reader or a writer of the standard library, and how many calls on it failed
pub record Edge (A : Type 0) : Type 0 where
  pub inner : A
  pub faults : ℕ
