-- Workloads whose threads make calls of their own shards.
use Rattle.std.specs.Prelude.{◌≡◌, ℕ, List}
use Rattle.rc_generate.specs.Imports.{flat_map, AllByRecursion, Call, Turn}
use Rattle.rc_generate.specs.Shards.{shard_of}

-- all calls of some rounds, in written order
abbrev pub all_calls : List (List Turn) → List Call
all_calls rounds = flat_map (flat_map (λ t. t.calls)) rounds

-- each call of each turn is of the shard with the thread's number
abbrev pub TurnsKeepShards : ℕ → (ℕ → ℕ) → List (List Turn) → Type 0
TurnsKeepShards key share rounds =
    AllByRecursion (AllByRecursion (λ t. AllByRecursion (λ c. shard_of key share c.args ≡ t.thread) t.calls)) rounds
