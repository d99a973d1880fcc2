-- Laws of passes that make the turns of a workload.
use Rattle.std.proofs.Common.{◌≡◌, ℕ, zero, suc, ◌+◌, ◌<◌, ◌≤◌, ◌==◌, List, [], ◌∷◌, ◌++◌, All, Some, map, filter, length, min, take, get_or, sum_by, sym, refl, ap, ◌∙◌, subst, arith}
use Rattle.rc_runner.specs.Imports.{Bor, IfOk, Result, Ok, Err, AllByRecursion, range_with_len, slice_get, Call, Reply, Spec, Entry, Placed, Step, placed, with_replies, calls-with_replies, PassState, next_of, SpecWithPlans, Entries, AreIdlePasses, IsPassOf, PassSeen, RowSeen, core_of, new_pass, new_passes, spec_of, GroupReceipt, ClosedSeen, HasClosed, Leaves, where_kept, HasMadeEntry, HasMadeGroup, IsFree, StoreSeen, Turn, Work, HasThreads, TurnsFit, count_calls, Runs, thread_turns, turns_of}
use Rattle.std.proofs.Math.Seq.{take-append_seam}
use Rattle.std.proofs.lemmas.List.{length-append, length-map, length-take, map-id}
use Rattle.std.proofs.lemmas.List.Elements.{All-cons, All-filter, All-from_recursion, All-head, All-map, All-nil, All-tail, All-weaker}
use Rattle.std.proofs.lemmas.List.FromFn.{length-range_with_len}
use Rattle.std.proofs.lemmas.List.Sums.{count_by-le-length, length-filter, sum_by-cons, sum_by_more_le}
use Rattle.std.proofs.lemmas.Simd.{map-map}
use Rattle.rc_store.specs.FreeLaws.{new_are_free as all_free}
use Rattle.rc_runner.specs.Rounds.{EachHasMade, HasCalled, HasGrown, HaveMade, IsClosed, MadeBy, Stand, entries_of}
use Rattle.rc_runner.specs.CloseLaws.{rounds_run}
use Rattle.rc_runner.specs.Shares.{AreShared, HaveTurnSizes, RoundsHaveTurnSizes, MayMakeShare, Shares, SharesFit, TurnFits, share_of, turns_in}
use Rattle.rc_runner.specs.Running.{HasRun, MayMake, number_of, numbers_of, stand_of, stands_of}

-- ---- an entry

module _ (store : StoreSeen) (steps : List Step) (old new : PassSeen) (place nth : ℕ) (m : HasMadeEntry store steps old new place nth) where
  entry_called : HasCalled (map (λ s. s.call) steps) (stand_of old) (stand_of new)
  entry_called = record {
    entry = placed place (next_of (core_of old) steps);
    own = m.own;
    made = refl;
    after = m.seen;
    before = subst (λ (u : PassState). place < u.seen) (sym m.core) (omega arith);
  }

-- of a group
module _ (store : StoreSeen) (calls : List Call) (replies : List Reply) (old new : PassSeen) (receipt : GroupReceipt)
    (m : HasMadeGroup store calls replies old new receipt) where
  pub group_called_so : HasCalled calls (stand_of old) (stand_of new)
  group_called_so =
      subst (λ (l : List Call). HasCalled l (stand_of old) (stand_of new)) (calls-with_replies calls replies m.count)
      (entry_called store (with_replies calls replies) old new receipt.place receipt.nth m.entry)

-- ---- how many entries a pass has

few_thread_turns : (thread : ℕ) (round : List Turn) → length (thread_turns thread round) ≤ length round
few_thread_turns thread round =
    let is : Turn → _ = λ t. t.thread == thread in
    let mapped : length (thread_turns thread round) ≡ length (filter is round) = length-map (filter is round) (λ (t : Turn). t.calls) in
    let counted = length-filter is round in
    let few = count_by-le-length is round in
    omega (arith, mapped, counted, few)

-- entries make as many turns as they are
as_many_turns : (xs : List Placed) → length (turns_of (entries_of xs)) ≡ length xs
as_many_turns xs =
    length-map (entries_of xs) (λ (e : Entry). map (λ (s : Step). s.call) e.steps) ∙ length-map xs (λ (x : Placed). x.entry)

-- what a pass has grown by is as many as the turns
grown_by : (turns : List (List Call)) (s t : Stand) → HasGrown turns s t → length t.own ≡ length s.own + length turns
grown_by turns s t g =
    let long : length t.own ≡ length s.own + length g.more = ap (λ (l : List Placed). length l) g.own ∙ length-append s.own g.more in
    let many : length g.more ≡ length turns = sym (as_many_turns g.more) ∙ ap (λ (l : List (List Call)). length l) g.made in
    omega (arith, long, many)

made_few : (thread : ℕ) (rounds : List (List Turn)) (marks : List ℕ) (own : List Placed) → MadeBy thread rounds marks own
    → length own ≤ sum_by length rounds
made_few thread [] [] own made = let none : length own ≡ 0 = ap (λ (l : List Placed). length l) made in omega (arith, none)
made_few thread [] (c ∷ marks) own made = absurd made
made_few thread (round ∷ rounds) [] own made = absurd made
made_few thread (round ∷ rounds) (c ∷ marks) own (front, back, e, turns, before, from, later) =
    let long : length own ≡ length front + length back = ap (λ (l : List Placed). length l) e ∙ length-append front back in
    let many : length front ≡ length (thread_turns thread round) = sym (as_many_turns front) ∙ ap (λ (l : List (List Call)). length l) turns in
    let few : length (thread_turns thread round) ≤ length round = few_thread_turns thread round in
    let rest : length back ≤ sum_by length rounds = made_few thread rounds marks back later in
    let sum : sum_by length (round ∷ rounds) ≡ length round + sum_by length rounds = sum_by-cons length round rounds in
    omega (arith, long, many, few, rest, sum)

each_made_few : (thread : ℕ) (rounds : List (List Turn)) (marks : List ℕ) (stands : List Stand) → EachHasMade rounds marks thread stands
    → All (λ (s : Stand). length s.own ≤ sum_by length rounds) stands
each_made_few thread rounds marks [] made = All-nil (λ (s : Stand). length s.own ≤ sum_by length rounds)
each_made_few thread rounds marks (s ∷ stands) made =
    All-cons (λ (s : Stand). length s.own ≤ sum_by length rounds) s stands (made_few thread rounds marks s.own made.0.made)
    (each_made_few (suc thread) rounds marks stands made.1)

-- a workload has no more turns than calls, of which each turn has one at least
pub few_turns : (rounds : List (List Turn)) → RoundsHaveTurnSizes rounds → sum_by length rounds ≤ count_calls rounds
few_turns [] h = omega arith
few_turns (round ∷ rounds) h =
    omega (
      arith,
      sum_by-cons length round rounds,
      sum_by-cons (sum_by (λ (t : Turn). length t.calls)) round rounds,
      in_round round h.0,
      few_turns rounds h.1,
    )
  where
    in_round : (turns : List Turn) → HaveTurnSizes turns → length turns ≤ sum_by (λ (t : Turn). length t.calls) turns
    in_round [] k = omega arith
    in_round (t ∷ turns) k = omega (arith, k.0.0, in_round turns k.1, sum_by-cons (λ (x : Turn). length x.calls) t turns)

-- ---- what passes may make

module _ (store : StoreSeen) where
  -- each pass that has made some rounds may make the calls of the next
  may_next : (n m : ℕ) (passes : List PassSeen) → n + m ≤ store.limit → All (IsFree store) passes → All (λ (s : Stand). length s.own ≤ n) (stands_of passes) → All (MayMake store m) passes
  may_next n m [] small free few = All-nil (MayMake store m)
  may_next n m (p ∷ passes) small free few =
      let l : length (core_of p).own ≤ n = All-head (λ (s : Stand). length s.own ≤ n) (stand_of p) (stands_of passes) few in
      All-cons (MayMake store m) p passes (record { free = All-head (IsFree store) p passes free; left = omega (arith, l, small) })
      (may_next n m passes small (All-tail (IsFree store) p passes free) (All-tail (λ (s : Stand). length s.own ≤ n) (stand_of p) (stands_of passes) few))

  pub may_make_round : (rounds : List (List Turn)) (i : ℕ) (round : List Turn) (passes : List PassSeen) → i < length rounds → round ≡ get_or rounds i round
      → sum_by length rounds ≤ store.limit → All (IsFree store) passes → HaveMade (take i rounds) (stands_of passes) → All (MayMake store (length round)) passes
  may_make_round rounds i round passes l is small free made =
      let within : sum_by length (take i rounds) + length (get_or rounds i round) ≤ sum_by length rounds = sum_by_more_le length rounds i round l in
      let same : length round ≡ length (get_or rounds i round) = ap length is in
      may_next (sum_by length (take i rounds)) (length round) passes (omega (arith, within, same, small)) free
      (each_made_few 0 (take i rounds) made.0 (stands_of passes) made.1)

-- a pass that has made some of its turns may make one more
pub may_one : (store : StoreSeen) (i : ℕ) (turns : List (Bor Turn)) (first now : PassSeen)
    → MayMake store (length turns) first → i < length turns → IsFree store now
    → HasGrown (turns_in (take i turns)) (stand_of first) (stand_of now) → MayMake store 1 now
may_one store i turns first now may l free grown =
    let few : length (core_of now).own ≡ length (core_of first).own + length (turns_in (take i turns)) =
    grown_by (turns_in (take i turns)) (stand_of first) (stand_of now) grown in
    let mapped : length (turns_in (take i turns)) ≡ length (take i turns) = length-map (take i turns) (λ (t : Bor Turn). t.now.calls) in
    let taken : length (take i turns) ≡ min i (length turns) = length-take i turns in
    let left : length (core_of first).own + length turns ≤ store.limit = may.left in
    record { free = free; left = omega (arith, few, mapped, taken, left, l) }

-- one that may make all turns of a round may make its share
pub may_make_share : (store : StoreSeen) (round : List Turn) (shares : Shares) → AreShared round shares
    → (passes : List PassSeen) → All (MayMake store (length round)) passes → All (MayMakeShare store shares) passes
may_make_share store round shares shared =
    All-weaker (MayMake store (length round)) (MayMakeShare store shares) (λ p may.
    let same : length (share_of shares (number_of p)) ≡ length (thread_turns (number_of p) round) =
    ap (λ (l : List (List Call)). length l) (shared (number_of p)) in
    let few : length (thread_turns (number_of p) round) ≤ length round = few_thread_turns (number_of p) round in
    let left : length (core_of p).own + length round ≤ store.limit = may.left in
    record { free = may.free; left = omega (arith, same, few, left) })

turns_fit : (spec : Spec) (turns : List Turn) → TurnsFit spec turns → HaveTurnSizes turns → AllByRecursion (λ t. TurnFits spec t.calls) turns
turns_fit spec [] fit sizes = tt
turns_fit spec (t ∷ turns) fit sizes = (record { some = sizes.0.0; few = sizes.0.1; fit = fit.0 }, turns_fit spec turns fit.1 sizes.1)

-- the turns of a share fit, where all turns of the round do
pub shares_fit : (spec : Spec) (round : List Turn) (shares : Shares) → AreShared round shares → TurnsFit spec round → HaveTurnSizes round
    → SharesFit spec shares
shares_fit spec round shares shared fit sizes thread =
    subst (All (TurnFits spec)) (sym (shared thread))
    (All-map (TurnFits spec) (λ (t : Turn). t.calls) (filter (λ t. t.thread == thread) round)
    (All-filter (λ t. t.thread == thread) (λ (t : Turn). TurnFits spec t.calls) round
    (All-from_recursion (λ (t : Turn). TurnFits spec t.calls) round (turns_fit spec round fit sizes))))

-- ---- the end

-- passes that are free, by number
pub idle_passes : (store : StoreSeen) (passes : List PassSeen) → numbers_of passes ≡ range_with_len 0 store.row.key.passes → All (IsFree store) passes → AreIdlePasses store.row passes
idle_passes store passes numbers free = record {
  numbers = numbers;
  idle = All-weaker (IsFree store) (λ (p : PassSeen). IsPassOf store.row p × (p.held ≡ [])) (λ p f. (f.of_row, f.idle)) passes free;
}

own_of_stand : (passes : List PassSeen) (k : ℕ) (s : Stand) → slice_get (stands_of passes) k ≡ Some s → (p : PassSeen) × (slice_get passes k ≡ Some p) × (s ≡ stand_of p)
own_of_stand [] k s e = cc
own_of_stand (p ∷ passes) zero s e = (p, refl, cc)
own_of_stand (p ∷ passes) (suc k) s e = own_of_stand passes k s e

-- what a closed store leaves is what its passes made
closed_so : (store : StoreSeen) (passes : List PassSeen) (closed : ClosedSeen) (h : HasClosed store passes closed) → IsClosed (spec_of store.row) (stands_of passes) h.history
closed_so store passes closed h = record {
  legal = h.leaves.good.legal;
  numbered = h.leaves.good.numbered;
  own = λ k s e. let p = own_of_stand passes k s e in ap (λ (t : Stand). t.own) p.2 ∙ h.own k p.0 p.1;
  passes = λ e m. let l = (h.leaves.good.entries e m).pass in let n = length-map passes stand_of in omega (arith, l, n);
}

-- a store that kept its entries, whose passes made all rounds of a workload, has run it
pub has_run : (store : StoreSeen) (passes : List PassSeen) (work : Work) (closed : ClosedSeen) → HasClosed store passes closed → store.row.keeping ≡ Entries → length passes ≡ work.threads
    → 1 ≤ work.threads → HasThreads work → HaveMade work.rounds (stands_of passes) → HasRun work closed
has_run store passes work closed h keeps count some turns made =
    let same : spec_of store.row ≡ closed.compiled.spec = ap (λ (c : SpecWithPlans). c.spec) (sym h.compiled) in
    let many : length (stands_of passes) ≡ work.threads = length-map passes stand_of ∙ count in
    let run = rounds_run (spec_of store.row) work h.history (stands_of passes) some turns many made (closed_so store passes closed h) in
    record {
      history = h.history;
      journal = h.journal ∙ ap (λ k. where_kept k h.history) keeps;
      leaves = subst (λ (x : Spec × ℕ). Leaves x.0 x.1 h.history closed.instance) (λ i. (same i, count i)) h.leaves;
      runs = subst (λ (spec : Spec). Runs spec work h.history) same run;
    }

-- ---- new passes

each_new : (P : PassSeen → Type 0) (row : RowSeen) → ((k : ℕ) → P (new_pass row k)) → (numbers : List ℕ) → All P (map (new_pass row) numbers)
each_new P row h [] = All-nil P
each_new P row h (k ∷ numbers) = All-cons P (new_pass row k) (map (new_pass row) numbers) (h k) (each_new P row h numbers)

module _ (store : StoreSeen) (passes : List PassSeen) (new : passes ≡ new_passes store.row) where
  pub new_are_free : All (IsFree store) passes
  new_are_free = subst (All (IsFree store)) (sym new) (all_free store)

  pub new_have_none : All (λ (p : PassSeen). (core_of p).own ≡ []) passes
  new_have_none = subst (All (λ (p : PassSeen). (core_of p).own ≡ [])) (sym new) (each_new (λ (p : PassSeen). (core_of p).own ≡ []) store.row (λ k. refl) (range_with_len 0 store.row.key.passes))

  pub new_numbers : numbers_of passes ≡ range_with_len 0 store.row.key.passes
  new_numbers = ap numbers_of new ∙ map-map number_of (new_pass store.row) (range_with_len 0 store.row.key.passes) ∙ map-id (range_with_len 0 store.row.key.passes)

  pub new_count : length passes ≡ store.row.key.passes
  new_count = sym (length-map passes number_of) ∙ ap (λ (l : List ℕ). length l) new_numbers ∙ length-range_with_len 0 store.row.key.passes

-- the passes once they ran, of whose memory nothing else is left
pub all_of_them : (n : ℕ) (first last others : List PassSeen) → length first ≡ n → numbers_of last ≡ numbers_of first → take n (last ++ others) ≡ last
all_of_them n first last others count same =
    let long : length last ≡ n = sym (length-map last number_of) ∙ ap (λ (l : List ℕ). length l) same ∙ length-map first number_of ∙ count in
    ap (λ k. take k (last ++ others)) (sym long) ∙ take-append_seam last others

module _ (store : StoreSeen) (first last given : List PassSeen) (new : first ≡ new_passes store.row) (same : numbers_of last ≡ numbers_of first) (whole : given ≡ last) where
  last_numbers : numbers_of last ≡ range_with_len 0 store.row.key.passes
  last_numbers = same ∙ new_numbers store first new

  -- the passes once they ran are still those of the row, by number
  pub idle_at_end : All (IsFree store) last → AreIdlePasses store.row given
  idle_at_end free = subst (AreIdlePasses store.row) (sym whole) (idle_passes store last last_numbers free)

  -- and the store that they leave has run the workload
  pub run_at_end : {E : Type 0} (work : Work) (r : Result ClosedSeen E) → store.row.keeping ≡ Entries → store.row.key.passes ≡ work.threads → 1 ≤ work.threads → HasThreads work
      → HaveMade work.rounds (stands_of last) → IfOk r (HasClosed store given) → IfOk r (HasRun work)
  run_at_end work (Err e) keeps threads some turns made h = tt
  run_at_end work (Ok closed) keeps threads some turns made h =
      let count : length last ≡ work.threads = sym (length-map last number_of) ∙ ap (λ (l : List ℕ). length l) last_numbers ∙ length-range_with_len 0 store.row.key.passes ∙ threads in
      has_run store last work closed (subst (λ (ps : List PassSeen). HasClosed store ps closed) whole h) keeps count some turns made
