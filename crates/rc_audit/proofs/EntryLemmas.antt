-- An entry that is judged: what it leaves, and why a line is bad.
use Rattle.std.proofs.Common.{◌≡◌, ℕ, ◌+◌, ◌<◌, ◌≤◌, ◌*◌, ◌^◌, List, [], ◌∷◌, ◌++◌, drop, get_or, length, Err, None, Option, refl, sym, ap, ◌∙◌, inl, inr, subst, arith}
use Rattle.rc_audit.proofs.Imports.{get_or_default, length-append, get_or_from_slice_get, In, append_in_left, get_or_in, slice_get_in, Call, Spec, SpecWithPlans, Step, Entry, replay, steps_of, replay_few, Turn, Work, entry_after, replay-more, few_turns, runs_have_all_turns, Entries, Fault, Form, Relation, AreCursors, HasGoneOn, HasLeft, cursor_at, left_in, IsNextTurn, goes_on, has_left_by, next_turn, none_from, BeginsGood, IsJudgeable, IsJudged, IsOfThread, next_lines, IsNextLine, judged_more, judged_next, HasMet, HaveBeenPrinted, IsAmong, IsChosen, Judges, round_at, Keeps, IsMade, stands_exist, HasMore, HasSomeLeft, cases_lt, drop_of_length-le, drop_more, length-map, HasFewCalls, entry_has_few, judged_came, next_begins, one_thread, turn_has_few, HasPending, IsWanted, other_is_bad, pending_is_wanted}
use Rattle.rc_audit.specs.declared.fault.Fault.TheVariants as faults

-- ---- how much is done

-- entries of few steps
few_steps : (history : List Entry) → ((e : Entry) → In e history → length e.steps ≤ 16) → length (steps_of history) ≤ 16 * length history
few_steps [] few = omega arith
few_steps (e ∷ history) few =
    let rest = few_steps history (λ x m. few x (inr m)) in
    let one = few e (inl refl) in
    omega (arith, rest, one, length-append e.steps (steps_of history))

same_calls : (c d : List Call) (cs ds : List (List Call)) → c ∷ cs ≡ d ∷ ds → c ≡ d
same_calls c d cs ds e = cc

-- a thread's next turn, whose calls fit
pub record IsTurn (spec : Spec) (round : List Turn) (cursors : List ℕ) (thread : ℕ) : Type 0 where
  pub turn : Turn
  pub next : IsNextTurn round cursors thread turn
  pub few : HasFewCalls spec turn.calls

module _ (form : Form) (compiled : SpecWithPlans) (work : Work) (can : IsJudgeable compiled.spec work) (relation : Relation) (entries : Entries)
    (front : List (List ℕ)) (at : IsAmong form compiled work relation entries front) where
  abbrev round : List Turn
  round = round_at work entries.round

  abbrev cursors : List ℕ
  cursors = entries.cursors.items

  abbrev later_rounds : List (List Turn)
  later_rounds = drop (entries.round + 1) work.rounds

  -- ---- bounds

  pub few_done : length at.done ≤ 20000
  few_done =
      let goes = stands_exist compiled.spec work at.done (left_in round cursors) later_rounds at.judged.stands in
      let count = runs_have_all_turns compiled.spec work (at.done ++ goes.0) can.threads goes.1 in
      omega (arith, count, length-append at.done goes.0, few_turns work can.limits)

  pub few_tuples : (calls : List Call) → HasFewCalls compiled.spec calls → length (replay compiled.spec at.done) + length calls < 2 ^ 63
  few_tuples calls few =
      let goes = stands_exist compiled.spec work at.done (left_in round cursors) later_rounds at.judged.stands in
      let steps : (e : Entry) → In e at.done → length e.steps ≤ 16 = λ e m.
      let is = entry_has_few compiled.spec work can (at.done ++ goes.0) e goes.1 (append_in_left e at.done goes.0 m) in
      let most = is.few in
      omega (arith, most, length-map e.steps (λ (s : Step). s.call)) in
      let most = few.few in
      omega (arith, few_done, few_steps at.done steps, replay_few compiled.spec at.done, most)

  -- ---- the next turn of a thread

  pub turn_next : (thread : ℕ) → HasLeft round cursors thread → IsTurn compiled.spec round cursors thread
  turn_next thread has =
      let turn = next_turn round cursors thread at.are has in
      let here : In round work.rounds = get_or_in work.rounds entries.round [] at.within in
      let there : In turn.0 round = slice_get_in round (cursor_at round cursors thread) turn.0 turn.1.there in
      record { turn = turn.0; next = turn.1; few = turn_has_few compiled.spec work can round turn.0 here there }

  -- ---- a pending line

  pub pending_parts : HasPending entries → drop entries.met entries.lines ≡ get_or entries.lines entries.met [] ∷ drop (entries.met + 1) entries.lines
  pending_parts pending = drop_more entries.lines entries.met [] pending

  pending_wanted : HasPending entries → IsWanted form compiled work front (get_or entries.lines entries.met [])
  pending_wanted pending =
      pending_is_wanted form compiled work can at.done (left_in round cursors) later_rounds front (drop (entries.met + 1) entries.lines) (get_or entries.lines entries.met [])
      (subst (IsJudged form compiled work at.done (left_in round cursors) later_rounds front) (pending_parts pending) at.judged)

  pub pending_other : HasPending entries → (line : List ℕ) → (line ≡ get_or entries.lines entries.met [] → ⊥) → BeginsGood form compiled work (front ++ line ∷ []) → ⊥
  pending_other pending line other begins = other (other_is_bad form compiled work front (get_or entries.lines entries.met []) line (pending_wanted pending) begins)

  pub pending_met : HasPending entries → (line : List ℕ) → line ≡ get_or entries.lines entries.met [] → (new : Entries) → new ≡ record entries { met = entries.met + 1 }
      → IsAmong form compiled work relation new (front ++ line ∷ [])
  pending_met pending line is new new_is =
      let parts : drop entries.met entries.lines ≡ line ∷ drop (entries.met + 1) entries.lines =
      pending_parts pending ∙ ap (λ l. l ∷ drop (entries.met + 1) entries.lines) (sym is) in
      subst (λ (e : Entries). IsAmong form compiled work relation e (front ++ line ∷ [])) (sym new_is) (record {
        within = at.within;
        done = at.done;
        judged = judged_came form compiled work can at.done (left_in round cursors) later_rounds front line (drop (entries.met + 1) entries.lines)
            (subst (IsJudged form compiled work at.done (left_in round cursors) later_rounds front) parts at.judged);
        place_is = at.place_is;
        keeps = at.keeps;
        count = at.count;
        are = at.are;
      })

  -- ---- the first line of an entry

  module _ (none : length entries.lines ≤ entries.met) where
    judged : IsJudged form compiled work at.done (left_in round cursors) later_rounds front []
    judged = subst (IsJudged form compiled work at.done (left_in round cursors) later_rounds front) (drop_of_length-le entries.lines none) at.judged

    -- the line that a good report has next
    next_good : (thread : ℕ) → HasLeft round cursors thread → (line : List ℕ) → BeginsGood form compiled work (front ++ line ∷ [])
        → IsNextLine form compiled work can at.done (left_in round cursors) later_rounds front judged line
    next_good thread has line begins =
        let h = turn_next thread has in
        judged_next form compiled work can at.done (left_in round cursors) later_rounds front judged thread h.turn.calls _ h.next.left line begins

    -- an entry has lines
    pub lines_some : (thread : ℕ) (has : HasLeft round cursors thread) (lines : List (List ℕ)) → lines ≡ next_lines compiled work at.done thread (turn_next thread has).turn.calls
        → 0 < length lines
    lines_some thread has lines is =
        let h = turn_next thread has in
        let begins = next_begins form compiled work can at.done (left_in round cursors) later_rounds front judged thread h.turn.calls h.few in
        let count = ap (λ (l : List (List ℕ)). length l) (is ∙ begins.whole) in
        omega (arith, count)

    -- it is of no thread that has a turn left
    pub entry_none : (thread : ℕ) → HasLeft round cursors thread → (line : List ℕ) → IsChosen round cursors entries.place line None
        → BeginsGood form compiled work (front ++ line ∷ []) → ⊥
    entry_none thread has line chosen begins =
        let next = next_good thread has line begins in
        let mine = has_left_by round cursors next.thread next.calls next.later next.mine in
        chosen next.thread mine (subst (λ n. IsOfThread n line next.thread) at.place_is next.of)

    -- it is another one than the first of its thread's next turn
    pub entry_other : (thread : ℕ) (line : List ℕ) → (has : HasLeft round cursors thread) → IsOfThread entries.place line thread
        → ((rest : List (List ℕ)) → next_lines compiled work at.done thread (turn_next thread has).turn.calls ≡ line ∷ rest → ⊥)
        → BeginsGood form compiled work (front ++ line ∷ []) → ⊥
    entry_other thread line has of apart begins =
        let h = turn_next thread has in
        let next = next_good thread has line begins in
        let few = can.limits.few_threads in
        let small : next.thread < 2 ^ 64 = let w = next.small in omega (arith, w, few) in
        let below : thread < 2 ^ 64 = let w = has.0 in let count = at.count in omega (arith, w, count, few) in
        let same : next.thread ≡ thread =
        one_thread (length at.done) next.thread thread line small below next.of (subst (λ n. IsOfThread n line thread) (sym at.place_is) of) in
        let calls : next.calls ≡ h.turn.calls =
        same_calls next.calls h.turn.calls _ _ (sym next.mine ∙ ap (left_in round cursors) same ∙ h.next.left) in
        apart next.rest ((λ i. next_lines compiled work at.done (sym same i) (sym calls i)) ∙ next.is)

    -- it is that line
    pub entry_met : (thread : ℕ) (line : List ℕ) (rest : List (List ℕ)) (new : Entries) (after : Relation) (has : HasLeft round cursors thread)
        → IsOfThread entries.place line thread
        → next_lines compiled work at.done thread (turn_next thread has).turn.calls ≡ line ∷ rest
        → HasGoneOn round cursors new.cursors.items thread → new.round ≡ entries.round → new.place ≡ entries.place + 1 → drop new.met new.lines ≡ rest
        → Keeps compiled.spec after (replay compiled.spec (at.done ++ entry_after compiled.spec at.done thread (turn_next thread has).turn.calls ∷ []))
        → IsAmong form compiled work after new (front ++ line ∷ [])
    entry_met thread line rest new after has of first gone round_is place_is rest_is keeps =
        let h = turn_next thread has in
        let e = entry_after compiled.spec at.done thread h.turn.calls in
        let made : IsMade (left_in round cursors) (left_in round new.cursors.items) thread h.turn.calls =
        goes_on round cursors thread h.turn new.cursors.items has h.next gone in
        let count : length new.cursors.items ≡ work.threads = gone.count ∙ at.count in
        let more = judged_more form compiled work can at.done (left_in round cursors) later_rounds front judged (left_in round new.cursors.items) thread h.turn.calls line rest made first
        (subst (λ n. IsOfThread n line thread) (sym at.place_is) of) (none_from round new.cursors.items work.threads (omega (arith, count))) in
        record {
          within = subst (λ k. k < length work.rounds) (sym round_is) at.within;
          done = at.done ++ e ∷ [];
          judged = subst (λ (x : ℕ × List (List ℕ)). IsJudged form compiled work (at.done ++ e ∷ []) (left_in (round_at work x.0) new.cursors.items) (drop (x.0 + 1) work.rounds) (front ++ line ∷ []) x.1)
              (λ i. (sym round_is i, sym rest_is i)) more;
          place_is = let l = length-append at.done (e ∷ []) in let p = at.place_is in omega (arith, l, p, place_is);
          keeps = keeps;
          count = count;
          are = subst (λ k. AreCursors (round_at work k) new.cursors.items) (sym round_is) gone.cursors;
        }

  -- ---- what the code reads

  pub read_round : (rounds : List (List Turn)) (read here : List Turn) → rounds ≡ work.rounds → read ≡ get_or rounds entries.round read → here ≡ read → here ≡ round
  read_round rounds read here rounds_are read_is here_is =
      here_is ∙ read_is ∙ ap (λ rs. get_or rs entries.round read) rounds_are ∙ get_or_default work.rounds entries.round read [] at.within

  pub chosen_here : (here : List Turn) (read : List ℕ) (line : List ℕ) (o p : Option ℕ) → here ≡ round → read ≡ cursors → o ≡ p
      → IsChosen here read entries.place line o → IsChosen round cursors entries.place line p
  chosen_here here read line o p here_is read_is same chosen =
      subst (IsChosen round cursors entries.place line) same
      (subst (λ cs. IsChosen round cs entries.place line o) read_is (subst (λ ts. IsChosen ts read entries.place line o) here_is chosen))

  pub calls_read : (thread : ℕ) (has : HasLeft round cursors thread) (here : List Turn) (place : ℕ) (turn : Turn) (calls : List Call) → here ≡ round
      → place ≡ get_or cursors thread place → calls ≡ (get_or here place turn).calls → calls ≡ (turn_next thread has).turn.calls
  calls_read thread has here place turn calls here_is place_is calls_are =
      let h = turn_next thread has in
      let there : place ≡ cursor_at round cursors thread = place_is ∙ get_or_default cursors thread place (length round) has.0 in
      let same : get_or here place turn ≡ h.turn =
      (λ i. get_or (here_is i) (there i) turn) ∙ get_or_from_slice_get round (cursor_at round cursors thread) h.turn turn h.next.there in
      calls_are ∙ ap (λ (t : Turn). t.calls) same

  -- the lines that were printed are those of the entry
  pub lines_are : (thread : ℕ) (has : HasLeft round cursors thread) (calls : List Call) (lines : List (List ℕ)) (after : Relation) → calls ≡ (turn_next thread has).turn.calls
      → HaveBeenPrinted compiled.spec work.ranks entries.place thread (replay compiled.spec at.done) calls after lines
      → (lines ≡ next_lines compiled work at.done thread (turn_next thread has).turn.calls)
      × Keeps compiled.spec after (replay compiled.spec (at.done ++ entry_after compiled.spec at.done thread (turn_next thread has).turn.calls ∷ []))
  lines_are thread has calls lines after same printed =
      let turn = (turn_next thread has).turn.calls in
      let all = subst (λ (x : ℕ × List Call). HaveBeenPrinted compiled.spec work.ranks x.0 thread (replay compiled.spec at.done) x.1 after lines) (λ i. (sym at.place_is i, same i)) printed in (
        all.0,
        subst (Keeps compiled.spec after) (sym (replay-more compiled.spec at.done (entry_after compiled.spec at.done thread turn))) all.1,
      )

-- the first of some lines
pub first_parts : (lines : List (List ℕ)) (some : 0 < length lines) → lines ≡ get_or lines 0 [] ∷ drop 1 lines
first_parts lines some = drop_more lines 0 [] some

-- a line that wasn't met
pub meet_err : (X : Type 0) (form : Form) (compiled : SpecWithPlans) (work : Work) (front : List (List ℕ)) (line wanted : List ℕ) (after : Type 0) (fault : Fault)
    → HasMet {X = X} wanted line (Err fault) → ((line ≡ wanted → ⊥) → BeginsGood form compiled work (front ++ line ∷ []) → ⊥)
    → Judges {X = Unit {0}} form compiled work front line after (Err fault)
meet_err X form compiled work front line wanted after faults.Memory met bad = absurd met
meet_err X form compiled work front line wanted after faults.Bad met bad = bad met

-- no line is pending
pub none_left_pending : (entries : Entries) → (HasPending entries → ⊥) → length entries.lines ≤ entries.met
none_left_pending entries none = elim (cases_lt entries.met (length entries.lines)) [
  | inl pending ↦ absurd (none pending)
  | inr past ↦ past
]

-- so a thread has a turn left
pub some_left : (work : Work) (entries : Entries) → HasMore work entries → (HasPending entries → ⊥) → HasSomeLeft work entries
some_left work entries (inl pending) none = absurd (none pending)
some_left work entries (inr some) none = some
