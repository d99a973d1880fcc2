-- Shards: the tuples, calls and steps whose value at one column, the key, is shared out to one number.
use Rattle.std.specs.Prelude.{◌≡◌, ℕ, ◌==◌, List, [], filter, IsPermutation}
use Rattle.rc_generate.specs.Imports.{AllByRecursion, In, Pairs, value, Dep, Op, Call, Spec, Fits, Step, Entry, steps_of, IsLegal, AllFit, after_steps, replay, own, calls_of, plain_steps}

-- each operation's pattern has the key column, and so has the left side of each dependency
pub record IsSharded (spec : Spec) (key : ℕ) : Type 0 where
  pub patterns : (op : Op) → In op spec.ops → In key op.pattern
  pub deps : (dep : Dep) → In dep spec.deps → In key dep.left

-- the tuple's shard: the number that `share` gives its value at the key column
abbrev pub shard_of : ℕ → (ℕ → ℕ) → Pairs → ℕ
shard_of key share tuple = share (value tuple key)

-- the tuples of a shard
abbrev pub tuples_in : ℕ → (ℕ → ℕ) → ℕ → List Pairs → List Pairs
tuples_in key share shard tuples = filter (λ t. shard_of key share t == shard) tuples

-- the calls of a shard, in order
abbrev pub calls_in : ℕ → (ℕ → ℕ) → ℕ → List Call → List Call
calls_in key share shard calls = filter (λ c. shard_of key share c.args == shard) calls

-- the steps of a shard, in order
abbrev pub steps_in : ℕ → (ℕ → ℕ) → ℕ → List Step → List Step
steps_in key share shard steps = filter (λ s. shard_of key share s.call.args == shard) steps

-- each pass makes calls of the shard with its own number, and no other
abbrev pub KeepsShards : ℕ → (ℕ → ℕ) → List Entry → Type 0
KeepsShards key share history = AllByRecursion (λ e. AllByRecursion (λ s. shard_of key share s.call.args ≡ e.pass) e.steps) history

-- a legal history whose calls fit, and whose passes keep to their shards
pub record IsSharedOut (spec : Spec) (key : ℕ) (share : ℕ → ℕ) (history : List Entry) : Type 0 where
  pub legal : IsLegal spec history
  pub fit : AllFit spec history
  pub keeps : KeepsShards key share history

-- each pass makes all of the calls that are of its shard, each once and in their order
abbrev pub MakesShards : ℕ → (ℕ → ℕ) → List Call → List Entry → Type 0
MakesShards key share calls history = (pass : ℕ) → calls_of (own history pass) ≡ calls_in key share pass calls

abbrev pub CallsFit : Spec → List Call → Type 0
CallsFit spec calls = AllByRecursion (Fits spec) calls

-- the relation that one thread leaves which makes the calls in order, from a relation on
abbrev pub after_calls : Spec → List Pairs → List Call → List Pairs
after_calls spec r calls = after_steps spec r (plain_steps spec r calls)

-- in some order, the history has the steps of one thread that makes the calls one after another, from the empty relation on;
-- and it leaves the same relation
pub record IsAsOneThread (spec : Spec) (calls : List Call) (history : List Entry) : Type 0 where
  pub steps : IsPermutation (steps_of history) (plain_steps spec [] calls)
  pub last : replay spec history ≡ after_calls spec [] calls
