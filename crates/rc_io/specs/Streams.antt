-- What contracts see of the sources and sinks.
use Rattle.std.specs.Prelude.{ℕ, List, min}

-- over memory: what is left, the most that a call gives, the numbers of the calls that fail, and how many calls
-- and faults there were
pub record MemSourceState : Type 0 where
  pub left : List ℕ
  pub piece : ℕ
  pub fail : List ℕ
  pub calls : ℕ
  pub faults : ℕ

-- over memory: what is held, the most that may be held, and the rest as above
pub record MemSinkState : Type 0 where
  pub held : List ℕ
  pub room : ℕ
  pub piece : ℕ
  pub fail : List ℕ
  pub calls : ℕ
  pub faults : ℕ

-- over a reader
pub record StdSourceState (R : Type 0) : Type 0 where
  pub reader : R
  pub faults : ℕ

-- over a writer
pub record StdSinkState (W : Type 0) : Type 0 where
  pub writer : W
  pub faults : ℕ

-- how many bytes a call over memory moves: a piece, or less where the buffer is shorter or fewer are there
abbrev pub amount : ℕ → ℕ → ℕ → ℕ
amount piece buffer there = min (min piece buffer) there
