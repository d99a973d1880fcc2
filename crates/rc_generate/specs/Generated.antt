-- The generated workload on the sample: calls by the numbers of a linear congruential generator, for four threads in turn.
use Rattle.std.specs.Prelude.{ℕ, zero, suc, ◌+◌, ◌*◌, ◌/◌, ◌%◌, ◌^◌, List, [], ◌∷◌, map, nat_le, if◌then◌else◌}
use Rattle.rc_generate.specs.Imports.{range_with_len, Call, Turn, Work}

-- the generator's step: a number of 31 bits from the one before
abbrev pub next_number : ℕ → ℕ
next_number x = (x * 1103515245 + 12345) % 2 ^ 31

-- the number so many steps after the seed
abbrev pub number_at : ℕ → ℕ → ℕ
number_at seed zero = seed
number_at seed (suc n) = next_number (number_at seed n)

-- ins, del and succ of the sample
abbrev pub insert_call : ℕ → ℕ → ℕ → Call
insert_call src dst weight = record { op = 0; args = (0, src) ∷ (1, dst) ∷ (2, weight) ∷ []; ranges = [] }

abbrev pub remove_call : ℕ → ℕ → Call
remove_call src dst = record { op = 1; args = (0, src) ∷ (1, dst) ∷ []; ranges = [] }

abbrev pub query_call : ℕ → Call
query_call src = record { op = 2; args = (0, src) ∷ []; ranges = [] }

-- the call of a kind from 0 to 7: of eight kinds four insert, two query and two remove
abbrev pub call_of_kind : ℕ → ℕ → ℕ → ℕ → Call
call_of_kind kind src dst weight = if nat_le kind 3 then insert_call src dst weight else (if nat_le kind 5 then query_call src else remove_call src dst)

-- a thread's call by a number of 31 bits: its top three are the kind, those behind them the values. Threads have different
-- sources: each is 4 times some number, plus the thread
abbrev pub call_by : ℕ → ℕ → Call
call_by thread x = call_of_kind (x / 2 ^ 28) (4 * (x / 2 ^ 24 % 16) + thread) (x / 2 ^ 19 % 32) (x / 2 ^ 9 % 1024)

-- the call at a place, counted from 0
abbrev pub call_at : ℕ → ℕ → Call
call_at seed place = call_by (place % 4) (next_number (number_at seed place))

-- and its turn, which has no other
abbrev pub turn_at : ℕ → ℕ → Turn
turn_at seed place = record { thread = place % 4; calls = call_at seed place ∷ [] }

-- the turns at the first so many places
abbrev pub generated_turns : ℕ → ℕ → List Turn
generated_turns seed calls = map (turn_at seed) (range_with_len 0 calls)

-- their calls, in order
abbrev pub generated_calls : ℕ → ℕ → List Call
generated_calls seed calls = map (call_at seed) (range_with_len 0 calls)

-- four threads make them in one round; there are no texts
abbrev pub generated : ℕ → ℕ → Work
generated seed calls = record { threads = 4; rounds = generated_turns seed calls ∷ []; ranks = [] }
