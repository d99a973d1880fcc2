-- What is read keeps the limits, and its turns are right.
use Rattle.std.proofs.Common.{◌≡◌, ℕ, ◌+◌, ◌<◌, ◌≤◌, Bool, true, false, cond, leb, List, [], ◌∷◌, ◌++◌, length, codes, Option, Some, None, Result, Ok, Err, refl, ap, subst, arith}
use Rattle.std.specs.Prelude.{IfSome, ◌&&◌, ◌==◌}
use Rattle.rc_work.specs.Imports.{AllByRecursion, bytes_eq, read_keeps, ContentLine, WordText, plain_text, quoted_text, u64_of, NumFault, Spec, Broken, LineRule, S1, S5, S8}
use Rattle.std.proofs.lemmas.Bool.{and_parts, leb-false, leb-true, eqb-false}
use Rattle.std.proofs.lemmas.List.{length-append}
use Rattle.rc_text.specs.declared.numbers.NumFault.TheVariants as faults
use Rattle.rc_work.specs.declared.also.Also.{Also}
use Rattle.rc_work.specs.declared.raw.RawCall.{RawCall}
use Rattle.rc_work.specs.declared.raw.RawTurn.{RawTurn}
use Rattle.rc_work.specs.declared.draft.UnfilledGroup.{UnfilledGroup}
use Rattle.rc_work.specs.declared.draft.Draft.{Draft}
use Rattle.rc_work.specs.RawTurns.{count_raw}
use Rattle.rc_work.specs.RawTurnsLaws.{length-onto_last, count_raw-onto_last, count_raw-push_round, each_push, each_onto_last}
use Rattle.rc_work.specs.UnfilledGroups.{count_in_group, count_in, with_turn, with_next, with_call_by}
use Rattle.rc_work.specs.LineForms.{FormText, round_line, end_line, call_line, group_line, words_read, form_of}
use Rattle.rc_work.specs.LineRules.{thread_in, raw_call, with_line}
use Rattle.rc_work.specs.LineRulesLaws.{IsWorkLineTaken, taken, call_line-thread, group_line-thread, group_line-size, IsRawCall-raw_call}
use Rattle.rc_work.specs.WorkGrammar.{after_form_of, after_words, after_bytes, broken_at, drafts, reading_from, threads_by, threads_at, threads_of_words, threads_of_read, threads_of, Headed, headed_by, headed, draft_of, reading_behind, reading_all}
use Rattle.rc_work.specs.Drafts.{IsRawCall, IsRawTurn, IsUnfilledGroup, IsDraft}

-- ---- a call more

-- the turn stands behind the others of its round
IsDraft-with_turn : (spec : Spec) (draft : Draft) (turn : RawTurn) → IsDraft spec draft → 0 < length draft.rounds
    → count_raw draft.rounds + length turn.calls ≤ 20000 → turn.thread < draft.threads → IsRawTurn spec turn
    → IsDraft spec (with_turn draft turn)
IsDraft-with_turn spec draft turn is begun few thread right = record {
  some_thread = is.some_thread;
  few_threads = is.few_threads;
  few_rounds = omega (arith, is.few_rounds, length-onto_last draft.rounds turn);
  few_calls = omega (arith, few, count_raw-onto_last draft.rounds turn begun);
  threads = each_onto_last (λ (t : RawTurn). t.thread < draft.threads) draft.rounds turn is.threads thread;
  turns = each_onto_last (IsRawTurn spec) draft.rounds turn is.turns right;
  group = tt;
}

filled_or_unfilled : (spec : Spec) (draft : Draft) (group : UnfilledGroup) (filled : Bool) → (length group.turn.calls == group.size) ≡ filled → IsDraft spec draft
    → 0 < length draft.rounds → count_raw draft.rounds + length group.turn.calls ≤ 20000 → group.turn.thread < draft.threads
    → 1 ≤ length group.turn.calls → length group.turn.calls ≤ group.size → group.size ≤ 16 → AllByRecursion (IsRawCall spec) group.turn.calls
    → IsDraft spec (cond filled (with_turn draft group.turn) (record draft { group = Some group }))
filled_or_unfilled spec draft group true e is begun few thread some within most right =
    IsDraft-with_turn spec draft group.turn is begun few thread (record { some = some; few = omega arith; calls = right })
filled_or_unfilled spec draft group false e is begun few thread some within most right = record {
  some_thread = is.some_thread;
  few_threads = is.few_threads;
  few_rounds = is.few_rounds;
  few_calls = few;
  threads = is.threads;
  turns = is.turns;
  group = record {
    thread = thread;
    few = most;
    unfilled = omega (arith, within, eqb-false (length group.turn.calls) group.size e);
    calls = right;
  };
}

pub IsDraft-with_call : (spec : Spec) (draft : Draft) (found : Option UnfilledGroup) (thread : ℕ) (call : RawCall) → draft.group ≡ found → IsDraft spec draft
    → 0 < length draft.rounds → count_in draft < 20000 → thread < draft.threads → IsRawCall spec call → IsDraft spec (with_call_by found draft thread call)
IsDraft-with_call spec draft None thread call e is begun few below right =
    let none : count_in_group draft.group ≡ 0 = ap count_in_group e in
    IsDraft-with_turn spec draft (record { thread = thread; calls = call ∷ [] }) is begun (omega (arith, few, none)) below (record {
      some = omega arith;
      few = omega arith;
      calls = (right, tt);
    })
IsDraft-with_call spec draft (Some group) thread call e is begun few below right =
    let unfilled_group : IsUnfilledGroup spec draft.threads group = subst (λ found. IfSome found (IsUnfilledGroup spec draft.threads)) e is.group in
    let calls : count_in_group draft.group ≡ length group.turn.calls = ap count_in_group e in
    let more : length (group.turn.calls ++ call ∷ []) ≡ length group.turn.calls + 1 = length-append group.turn.calls (call ∷ []) in
    filled_or_unfilled spec draft (with_next group call) (length (group.turn.calls ++ call ∷ []) == group.size) refl is begun
    (omega (arith, few, calls, more)) unfilled_group.thread (omega (arith, more)) (omega (arith, more, unfilled_group.unfilled)) unfilled_group.few
    (each_push (IsRawCall spec) group.turn.calls call unfilled_group.calls right)

-- ---- a line

pub IsDraft-with_line : (spec : Spec) (draft : Draft) (form : FormText) (next : Draft) → IsDraft spec draft → IsWorkLineTaken spec draft form next → IsDraft spec (with_line spec draft form)
IsDraft-with_line spec draft round_line next is line = record {
  some_thread = is.some_thread;
  few_threads = is.few_threads;
  few_rounds = omega (arith, leb-false 64 (length draft.rounds) line.limit, length-append draft.rounds ([] ∷ []));
  few_calls = omega (arith, is.few_calls, count_raw-push_round draft.rounds);
  threads = each_push _ draft.rounds [] is.threads tt;
  turns = each_push _ draft.rounds [] is.turns tt;
  group = is.group;
}
IsDraft-with_line spec draft end_line next is line = record {
  some_thread = is.some_thread;
  few_threads = is.few_threads;
  few_rounds = is.few_rounds;
  few_calls = is.few_calls;
  threads = is.threads;
  turns = is.turns;
  group = is.group;
}
IsDraft-with_line spec draft (call_line thread op values) next is line =
    let some : 0 < length draft.rounds = omega (arith, eqb-false (length draft.rounds) 0 line.order) in
    IsDraft-with_call spec draft draft.group (thread_in draft thread) (raw_call spec op values) refl is some
    (leb-false 20000 (count_in draft) line.limit) (call_line-thread spec draft thread op values next line)
    (IsRawCall-raw_call spec draft thread op values next line)
IsDraft-with_line spec draft (group_line thread size) next is line =
    let within = group_line-size spec draft thread size next line in
    record {
      some_thread = is.some_thread;
      few_threads = is.few_threads;
      few_rounds = is.few_rounds;
      few_calls = omega (arith, is.few_calls);
      threads = is.threads;
      turns = is.turns;
      group = record {
        thread = group_line-thread spec draft thread size next line;
        few = within.few;
        unfilled = omega (arith, within.some);
        calls = tt;
      };
    }

form_keeps : (spec : Spec) (draft : Draft) (found : Option FormText) (next : Draft) → IsDraft spec draft → after_form_of spec draft found ≡ Ok next → IsDraft spec next
form_keeps spec draft None next is e = absurd cc
form_keeps spec draft (Some form) next is e =
    let line = taken spec draft form next e in
    subst (IsDraft spec) line.value (IsDraft-with_line spec draft form next is line)

words_keep : (also : Also) (spec : Spec) (draft : Draft) (found : Option (List WordText)) (next : Draft) → IsDraft spec draft
    → after_words also spec draft found ≡ Ok next → IsDraft spec next
words_keep also spec draft None next is e = absurd cc
words_keep also spec draft (Some words) next is e = form_keeps spec draft (form_of also words) next is e

pub IsDraft-after_bytes : (also : Also) (spec : Spec) (draft : Draft) (bytes : List ℕ) (next : Draft) → IsDraft spec draft
    → after_bytes also spec draft bytes ≡ Ok next → IsDraft spec next
unfolding after_bytes
IsDraft-after_bytes also spec draft bytes next is e = words_keep also spec draft (words_read bytes) next is e

-- ---- the lines

abbrev drawn : Draft → Result Draft Broken
drawn draft = Ok draft

same_draft : (x y : Draft) → drawn x ≡ drawn y → x ≡ y
same_draft x y e = cc

ended_draft : (ended : Bool) (past_end : ℕ) (draft last : Draft) → cond ended (drawn draft) (broken_at S8 past_end) ≡ Ok last → draft ≡ last
ended_draft true past_end draft last e = same_draft draft last e
ended_draft false past_end draft last e = absurd cc

-- what each line keeps holds of what is read
pub kept_by_lines : (P : Draft → Type 0) (also : Also) (spec : Spec)
    → ((draft : Draft) (bytes : List ℕ) (next : Draft) → P draft → after_bytes also spec draft bytes ≡ Ok next → P next)
    → (past_end : ℕ) (draft : Draft) (lines : List ContentLine) (last : Draft) → P draft
    → reading_from also past_end spec draft lines ≡ Ok last → P last
unfolding reading_from
kept_by_lines P also spec keeps past_end draft lines last is e =
    read_keeps (drafts also spec) P P (λ before bytes next h given. keeps before bytes next h given) (λ next line others h. h)
    (λ at next found h out. subst P (ended_draft next.ended at next found out) h) past_end draft lines last is e

-- ---- the header

-- 1 to 8
pub record IsThreadCount (threads : ℕ) : Type 0 where
  pub some : 1 ≤ threads
  pub few : threads ≤ 8

abbrev counted : ℕ → Result ℕ LineRule
counted n = Ok n

same_count : (m n : ℕ) → counted m ≡ counted n → m ≡ n
same_count m n e = cc

threads_by-count : (found : Result ℕ NumFault) (threads : ℕ) → threads_by found ≡ Ok threads → IsThreadCount threads
threads_by-count (Err faults.Range) threads e = absurd cc
threads_by-count (Err faults.Form) threads e = absurd cc
threads_by-count (Ok n) threads e =
    elim (leb 1 n && leb n 8) as (λ v. (leb 1 n && leb n 8) ≡ v → cond v (counted n) (Err S5) ≡ Ok threads → IsThreadCount threads) [
      | true ↦ λ both h. let parts = and_parts (leb 1 n) (leb n 8) both in subst IsThreadCount (same_count n threads h) (record { some = leb-true 1 n parts.0; few = leb-true n 8 parts.1 })
      | false ↦ λ _ h. absurd cc
    ] refl e

work_count : (b : Bool) (found : Result ℕ NumFault) (threads : ℕ) → cond b (threads_by found) (Err S1) ≡ Ok threads → IsThreadCount threads
work_count true found threads e = threads_by-count found threads e
work_count false found threads e = absurd cc

at_count : (first : List ℕ) (words : List WordText) (threads : ℕ) → threads_at first words ≡ Ok threads → IsThreadCount threads
at_count first [] threads e = absurd cc
at_count first (quoted_text text ∷ words) threads e = absurd cc
at_count first (plain_text count ∷ []) threads e = work_count (bytes_eq first (codes "work")) (u64_of count) threads e
at_count first (plain_text count ∷ word ∷ words) threads e = absurd cc

words_count : (words : List WordText) (threads : ℕ) → threads_of_words words ≡ Ok threads → IsThreadCount threads
words_count [] threads e = absurd cc
words_count (quoted_text text ∷ words) threads e = absurd cc
words_count (plain_text first ∷ words) threads e = at_count first words threads e

read_count : (found : Option (List WordText)) (threads : ℕ) → threads_of_read found ≡ Ok threads → IsThreadCount threads
read_count None threads e = absurd cc
read_count (Some words) threads e = words_count words threads e

-- a header gives 1 to 8 threads
pub threads_of-count : (bytes : List ℕ) (threads : ℕ) → threads_of bytes ≡ Ok threads → IsThreadCount threads
unfolding threads_of
threads_of-count bytes threads e = read_count (words_read bytes) threads e

-- ---- all lines

abbrev found_head : Headed → Result Headed Broken
found_head head = Ok head

same_head : (x y : Headed) → found_head x ≡ found_head y → x ≡ y
same_head x y e = cc

headed_by-count : (bytes : List ℕ) (found : Result ℕ LineRule) (line : ContentLine) (others : List ContentLine) (head : Headed) → threads_of bytes ≡ found → headed_by found line others ≡ Ok head → IsThreadCount head.threads
headed_by-count bytes (Err rule) line others head is e = absurd cc
headed_by-count bytes (Ok threads) line others head is e =
    subst (λ (x : Headed). IsThreadCount x.threads) (same_head (record { threads = threads; others = others }) head e) (threads_of-count bytes threads is)

pub headed-count : (past_end : ℕ) (lines : List ContentLine) (head : Headed) → headed past_end lines ≡ Ok head → IsThreadCount head.threads
headed-count past_end [] head e = absurd cc
headed-count past_end (line ∷ others) head e = headed_by-count line.bytes (threads_of line.bytes) line others head refl e

pub IsDraft-draft_of : (spec : Spec) (threads : ℕ) → IsThreadCount threads → IsDraft spec (draft_of threads)
IsDraft-draft_of spec threads count = record {
  some_thread = count.some;
  few_threads = count.few;
  few_rounds = omega arith;
  few_calls = omega arith;
  threads = tt;
  turns = tt;
  group = tt;
}

-- what each line keeps, from that of the header on
module _ (P : Draft → Type 0) (also : Also) (spec : Spec) (begins : (threads : ℕ) → IsThreadCount threads → P (draft_of threads))
    (keeps : (draft : Draft) (bytes : List ℕ) (next : Draft) → P draft → after_bytes also spec draft bytes ≡ Ok next → P next) where
  behind_keeps : (past_end : ℕ) (lines : List ContentLine) (found : Result Headed Broken) (last : Draft) → headed past_end lines ≡ found
      → reading_behind also past_end spec found ≡ Ok last → P last
  behind_keeps past_end lines (Err broken) last is e = absurd cc
  behind_keeps past_end lines (Ok head) last is e =
      kept_by_lines P also spec keeps past_end (draft_of head.threads) head.others last (begins head.threads (headed-count past_end lines head is)) e

  pub kept_by_all : (past_end : ℕ) (lines : List ContentLine) (last : Draft) → reading_all also past_end spec lines ≡ Ok last → P last
  kept_by_all past_end lines last e = behind_keeps past_end lines (headed past_end lines) last refl e

-- what is read keeps the limits, and its turns are right
pub IsDraft-reading_all : (also : Also) (past_end : ℕ) (spec : Spec) (lines : List ContentLine) (last : Draft)
    → reading_all also past_end spec lines ≡ Ok last → IsDraft spec last
IsDraft-reading_all also past_end spec lines last e =
    kept_by_all (IsDraft spec) also spec (IsDraft-draft_of spec) (IsDraft-after_bytes also spec) past_end lines last e
