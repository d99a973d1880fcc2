-- Laws of summaries: the order of the steps doesn't count, and how large the counts are.
use Rattle.std.proofs.Common.{◌≡◌, ℕ, ◌+◌, ◌*◌, ◌≤◌, Bool, true, false, cond, nat_le, List, [], ◌∷◌, Option, Some, None, length, IsPermutation, refl, sym, ap, ◌∙◌, subst, arith}
use Rattle.rc_generate.specs.Imports.{filter, list_any, slice_get, Dep, put, Pairs, agree_on, matches, tuple_cmp, Call, Reply, Rows, Many, Inserted, Present, Conflict, Removed, Updated, Absent, Op, OpKind, Query, Insert, Remove, Update, Range, Spec, Outcome, rows_of, first_broken_dependency, inserted_unless, without, removed_first, updated_unless, updated_first, plain_by, plain_at, plain, is_asked, Step, Entry, steps_of, IsLegal, AreLegalFrom, after_steps, replay, calls_of, plain_steps, legal_are_plain, calls_of_plain}
use Rattle.std.proofs.lemmas.Bool.{leb-true}
use Rattle.std.proofs.lemmas.List.Sorted.{sum_by-IsPermutation, length_permutation}
use Rattle.std.proofs.lemmas.List.{length-map}
use Rattle.std.proofs.lemmas.List.Sums.{sum_by-cons}
use Rattle.rc_generate.specs.declared.summary.Summary.{Summary}
use Rattle.rc_generate.specs.Shards.{IsAsOneThread, after_calls}
use Rattle.rc_generate.specs.Summary.{one_call, one_inserted, one_present, one_conflict, one_removed, one_updated, one_absent, one_query, rows_in, one_many, counted, summary_of, summary, one_thread_summary}

same_counted : (count : Reply → ℕ) (xs ys : List Step) → IsPermutation xs ys → counted count xs ≡ counted count ys
same_counted count xs ys p = sym (sum_by-IsPermutation (λ (s : Step). count s.reply) xs ys p)

-- the order of the steps doesn't count
pub same_summary_of : (xs ys : List Step) (r s : List Pairs) → IsPermutation xs ys → r ≡ s → summary_of xs r ≡ summary_of ys s
same_summary_of xs ys r s p e =
    let a = same_counted one_call xs ys p in
    let b = same_counted one_inserted xs ys p in
    let c = same_counted one_present xs ys p in
    let d = same_counted one_conflict xs ys p in
    let f = same_counted one_removed xs ys p in
    let g = same_counted one_absent xs ys p in
    let h = same_counted one_query xs ys p in
    let i = same_counted rows_in xs ys p in
    let j = same_counted one_many xs ys p in
    let k = ap (λ (l : List Pairs). length l) e in cc

-- so the summary of a history that is as one thread's is that thread's
abbrev pub SummariesAreOneThreads : Type 0
SummariesAreOneThreads = (spec : Spec) (calls : List Call) (history : List Entry) → IsAsOneThread spec calls history
    → summary history (replay spec history) ≡ one_thread_summary spec calls

pub summaries_are_one_threads : SummariesAreOneThreads
summaries_are_one_threads spec calls history as_one =
    same_summary_of (steps_of history) (plain_steps spec [] calls) (replay spec history) (after_calls spec [] calls) as_one.steps as_one.last

-- the summary of any legal history is that of one thread that makes its calls in the order of the history
abbrev pub SummariesAreOfCalls : Type 0
SummariesAreOfCalls = (spec : Spec) (history : List Entry) → IsLegal spec history → summary history (replay spec history) ≡ one_thread_summary spec (calls_of history)

pub summaries_are_of_calls : SummariesAreOfCalls
summaries_are_of_calls spec history legal = ap (λ (xs : List Step). summary_of xs (after_steps spec [] xs)) (legal_are_plain spec [] (steps_of history) legal)

-- ---- the kinds of replies

-- a reply is of one kind
one_kind : (r : Reply) → one_inserted r + one_present r + one_conflict r + one_removed r + one_updated r + one_absent r + one_query r ≡ 1
one_kind (Rows rows) = refl
one_kind (Many n) = refl
one_kind Inserted = refl
one_kind Present = refl
one_kind (Conflict n) = refl
one_kind (Removed t) = refl
one_kind (Updated t) = refl
one_kind Absent = refl

many_is_query : (r : Reply) → one_many r ≤ one_query r
many_is_query (Rows rows) = omega arith
many_is_query (Many n) = omega arith
many_is_query Inserted = omega arith
many_is_query Present = omega arith
many_is_query (Conflict n) = omega arith
many_is_query (Removed t) = omega arith
many_is_query (Updated t) = omega arith
many_is_query Absent = omega arith

pub counted-cons : (count : Reply → ℕ) (s : Step) (steps : List Step) → counted count (s ∷ steps) ≡ count s.reply + counted count steps
counted-cons count s steps = sum_by-cons (λ (x : Step). count x.reply) s steps

pub kinds_of_steps : (steps : List Step)
    → counted one_inserted steps + counted one_present steps + counted one_conflict steps + counted one_removed steps + counted one_updated steps + counted one_absent steps + counted one_query steps ≡ length steps
kinds_of_steps [] = refl
kinds_of_steps (s ∷ steps) =
    let one = one_kind s.reply in
    let others = kinds_of_steps steps in
    let a = counted-cons one_inserted s steps in
    let b = counted-cons one_present s steps in
    let c = counted-cons one_conflict s steps in
    let d = counted-cons one_removed s steps in
    let e = counted-cons one_absent s steps in
    let f = counted-cons one_query s steps in
    let g = counted-cons one_updated s steps in
    omega (arith, one, others, a, b, c, d, e, f, g)

pub calls_of_steps : (steps : List Step) → counted one_call steps ≡ length steps
calls_of_steps [] = refl
calls_of_steps (s ∷ steps) = let others = calls_of_steps steps in let a = counted-cons one_call s steps in omega (arith, others, a)

pub many_of_steps : (steps : List Step) → counted one_many steps ≤ counted one_query steps
many_of_steps [] = omega arith
many_of_steps (s ∷ steps) =
    let one = many_is_query s.reply in
    let others = many_of_steps steps in
    let a = counted-cons one_many s steps in
    let b = counted-cons one_query s steps in
    omega (arith, one, others, a, b)

-- the calls of a summary are those of each kind together, and updates, for which it has no count; there are as many as steps; those
-- with many rows are queries
pub record AddsUp (history : List Entry) (s : Summary) : Type 0 where
  pub kinds : s.inserted + s.present + s.conflict + s.removed + counted one_updated (steps_of history) + s.absent + s.queries ≡ s.calls
  pub calls : s.calls ≡ length (steps_of history)
  pub many : s.many ≤ s.queries

abbrev pub SummariesAddUp : Type 0
SummariesAddUp = (history : List Entry) (tuples : List Pairs) → AddsUp history (summary history tuples)

pub summaries_add_up : SummariesAddUp
summaries_add_up history tuples = record {
  kinds = kinds_of_steps (steps_of history) ∙ sym (calls_of_steps (steps_of history));
  calls = calls_of_steps (steps_of history);
  many = many_of_steps (steps_of history);
}

-- ---- how large the counts are

rows_below : (most : ℕ) (rows : List (List ℕ)) (b : Bool) → nat_le (length rows) most ≡ b → rows_in (cond b (Rows rows) (Many (length rows))) ≤ most
rows_below most rows true e = leb-true (length rows) most e
rows_below most rows false e = omega arith

rows_inserted : (b : Bool) (broken : Option ℕ) (w r : List Pairs)
    → rows_in (cond b (let o : Outcome = record { reply = Present; relation = r } in o) (inserted_unless broken w r)).reply ≡ 0
rows_inserted true broken w r = refl
rows_inserted false None w r = refl
rows_inserted false (Some n) w r = refl

rows_removed : (found r : List Pairs) → rows_in (removed_first found r).reply ≡ 0
rows_removed [] r = refl
rows_removed (t ∷ ts) r = refl

rows_unless : (broken : Option ℕ) (old : Pairs) (w r : List Pairs) → rows_in (updated_unless broken old w r).reply ≡ 0
rows_unless None old w r = refl
rows_unless (Some n) old w r = refl

rows_updated : (found : List Pairs) (deps : List Dep) (args : Pairs) (r : List Pairs) → rows_in (updated_first found deps args r).reply ≡ 0
rows_updated [] deps args r = refl
rows_updated (old ∷ others) deps args r =
    rows_unless (first_broken_dependency 1 deps (put tuple_cmp args (without old r))) old (put tuple_cmp args (without old r)) r

rows_by : (most : ℕ) (kind : OpKind) (pattern : List ℕ) (deps : List Dep) (args : Pairs) (ranges : List Range) (r : List Pairs)
    → rows_in (plain_by most kind pattern deps args ranges r).reply ≤ most
rows_by most (Query outs cols) pattern deps args ranges r =
    let rows : List (List ℕ) = rows_of outs (filter (is_asked args ranges) r) in rows_below most rows (nat_le (length rows) most) refl
rows_by most Insert pattern deps args ranges r =
    omega (arith, rows_inserted (list_any (agree_on pattern args) r) (first_broken_dependency 1 deps (put tuple_cmp args r)) (put tuple_cmp args r) r)
rows_by most Remove pattern deps args ranges r = omega (arith, rows_removed (filter (matches args) r) r)
rows_by most Update pattern deps args ranges r = omega (arith, rows_updated (filter (agree_on pattern args) r) deps args r)

rows_at : (most : ℕ) (op : Option Op) (deps : List Dep) (args : Pairs) (ranges : List Range) (r : List Pairs)
    → rows_in (plain_at most op deps args ranges r).reply ≤ most
rows_at most (Some op) deps args ranges r = rows_by most op.kind op.pattern deps args ranges r
rows_at most None deps args ranges r = omega arith

rows_few_from : (spec : Spec) (r : List Pairs) (steps : List Step) → AreLegalFrom spec r steps → counted rows_in steps ≤ length steps * spec.most_rows
rows_few_from spec r [] legal = omega arith
rows_few_from spec r (s ∷ steps) legal =
    let here : rows_in s.reply ≤ spec.most_rows =
    subst (λ (p : Reply). rows_in p ≤ spec.most_rows) (sym legal.0) (rows_at spec.most_rows (slice_get spec.ops s.call.op) spec.deps s.call.args s.call.ranges r) in
    let rest : counted rows_in steps ≤ length steps * spec.most_rows = rows_few_from spec (plain spec r s.call).relation steps legal.1 in
    let all = counted-cons rows_in s steps in
    omega (arith, here, rest, all)

-- the replies of a legal history list for each step at most as many rows as the specification says
abbrev pub RowsAreFew : Type 0
RowsAreFew = (spec : Spec) (history : List Entry) → IsLegal spec history → counted rows_in (steps_of history) ≤ length (steps_of history) * spec.most_rows

pub rows_are_few : RowsAreFew
rows_are_few spec history legal = rows_few_from spec [] (steps_of history) legal

-- a history that is as one thread's has as many steps as that has calls
pub length_as_one_thread : (spec : Spec) (calls : List Call) (history : List Entry) → IsAsOneThread spec calls history → length (steps_of history) ≡ length calls
length_as_one_thread spec calls history as_one =
    sym (length_permutation (steps_of history) (plain_steps spec [] calls) as_one.steps)
    ∙ sym (length-map (plain_steps spec [] calls) (λ (s : Step). s.call))
    ∙ ap (λ (cs : List Call). length cs) (calls_of_plain spec [] calls)
