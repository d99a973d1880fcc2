-- Which line may come next in a report, and what it tells.
use Rattle.std.proofs.Common.{◌≡◌, ℕ, suc, ◌+◌, ◌<◌, ◌≤◌, ◌^◌, List, [], ◌∷◌, ◌++◌, length, map, Some, refl, sym, ap, ◌∙◌, inl, subst, arith}
use Rattle.rc_audit.specs.Imports.{AllByRecursion, codes, slice_get, sum_by, decimal, In, append_in_right, Spec, Call, SpecWithPlans, Entry, Step, replay, Turn, Work, decimal_one, entry_after, calls_of_plain, plain_steps, spaced, count_line, entry_lines, journal_lines, runs_have_all_turns, Runs, Fits, Op, each_in, TurnsFit, HasTurnSize, step_words_at, values_and_reply, words_text, group_head, step_line, entries_are_turns}
use Rattle.std.proofs.lemmas.Bool.{le-leb}
use Rattle.std.specs.Prelude.{if◌then◌else◌}
use Rattle.std.proofs.lemmas.List.{append-nil, append_assoc, append_cancel_left, length-map}
use Rattle.rc_work.specs.Report.{report}
use Rattle.rc_audit.specs.declared.form.Form.{Form}
use Rattle.rc_audit.specs.declared.form.Form.TheVariants.{Run, Group, Journal}
use Rattle.rc_audit.specs.GoodReports.{BeginsGood, IsGoodReport, good_lines}
use Rattle.rc_audit.specs.Left.{AreNoneFrom, IsMade, NoneLeft}
use Rattle.rc_audit.specs.LeftLaws.{turn_of}
use Rattle.rc_audit.specs.Standing.{made_below, no_turns, stands_exist, stands_more, stands_round, stands_same, stands_start, turns_in}
use Rattle.rc_audit.specs.Next.{ComesNext, stands_end, stands_next}
use Rattle.rc_audit.specs.Judged.{IsJudgeable, IsJudged, IsOfThread, IsWhole, closing_lines, lines_before, lines_behind, lines_done, entry_lines_from, next_lines, opening_lines, turn_lines}

-- ---- a line tells its thread

later_bytes : (b c : ℕ) (bs cs : List ℕ) → b ∷ bs ≡ c ∷ cs → bs ≡ cs
later_bytes b c bs cs e = cc

-- a line of one place is of one thread
pub one_thread : (place thread other : ℕ) (line : List ℕ) → thread < 2 ^ 64 → other < 2 ^ 64 → IsOfThread place line thread → IsOfThread place line other
    → thread ≡ other
one_thread place thread other line small below one two =
    let rests = append_cancel_left (decimal place) (32 ∷ (decimal thread ++ 32 ∷ one.0)) (32 ∷ (decimal other ++ 32 ∷ two.0)) (sym one.1 ∙ two.1) in
    (decimal_one thread other (32 ∷ one.0) (32 ∷ two.0) small below (inl refl) (inl refl)
    (later_bytes 32 32 (decimal thread ++ 32 ∷ one.0) (decimal other ++ 32 ∷ two.0) rests)).0

-- ---- the lines of an entry

-- the first of some lines, which is of the thread
pub record BeginsWith (place thread : ℕ) (lines : List (List ℕ)) : Type 0 where
  pub first : List ℕ
  pub rest : List (List ℕ)
  pub whole : lines ≡ first ∷ rest
  pub of : IsOfThread place first thread

-- the line of a step whose operation is known goes on behind its thread
known_words : (spec : Spec) (texts : List (List ℕ)) (place thread : ℕ) (s : Step) (op : Op) → slice_get spec.ops s.call.op ≡ Some op
    → IsOfThread place (step_line spec texts place thread s) thread
known_words spec texts place thread s op known =
    let words = values_and_reply spec texts op s in
    (op.name ++ spaced words, ap (λ o. words_text (decimal place ∷ decimal thread ∷ step_words_at o spec texts s)) known)

first_of_turn : (spec : Spec) (texts : List (List ℕ)) (place thread : ℕ) (steps : List Step) → 1 ≤ length steps → AllByRecursion (Fits spec) (map (λ s. s.call) steps)
    → BeginsWith place thread (turn_lines spec texts place thread steps)
first_of_turn spec texts place thread [] some fit = absurd (omega (arith, some))
first_of_turn spec texts place thread (s ∷ []) some fit = record {
  first = step_line spec texts place thread s;
  rest = [];
  whole = refl;
  of = known_words spec texts place thread s fit.0.0 fit.0.1.known;
}
first_of_turn spec texts place thread (s ∷ (t ∷ steps)) some fit = record {
  first = group_head place thread (length (s ∷ (t ∷ steps)));
  rest = map (step_line spec texts place thread) (s ∷ (t ∷ steps));
  whole =
      ap (λ many. (if many then group_head place thread (length (s ∷ (t ∷ steps))) ∷ [] else []) ++ map (step_line spec texts place thread) (s ∷ (t ∷ steps)))
      (le-leb 2 (length (s ∷ (t ∷ steps))) (omega arith));
  of = (codes "&" ++ spaced (decimal (length (s ∷ (t ∷ steps))) ∷ []), refl);
}

-- ---- the lines of entries

lines_append : (spec : Spec) (texts : List (List ℕ)) (n : ℕ) (xs ys : List Entry)
    → entry_lines_from spec texts n (xs ++ ys) ≡ entry_lines_from spec texts n xs ++ entry_lines_from spec texts (n + length xs) ys
lines_append spec texts n [] ys = let z : n ≡ n + 0 = omega arith in ap (λ m. entry_lines_from spec texts m ys) z
lines_append spec texts n (x ∷ xs) ys =
    let z : n + 1 + length xs ≡ n + suc (length xs) = omega arith in
    ap (λ l. entry_lines spec texts n x ++ l)
    (lines_append spec texts (n + 1) xs ys ∙ ap (λ m. entry_lines_from spec texts (n + 1) xs ++ entry_lines_from spec texts m ys) z)
    ∙ sym (append_assoc (entry_lines spec texts n x) (entry_lines_from spec texts (n + 1) xs) (entry_lines_from spec texts (n + suc (length xs)) ys))

first_line : (x y : List ℕ) (xs ys : List (List ℕ)) → x ∷ xs ≡ y ∷ ys → x ≡ y
first_line x y xs ys e = cc

no_line : (x : List ℕ) (xs ys : List (List ℕ)) → [] ≡ (x ∷ xs) ++ ys → ⊥
no_line x xs ys e = absurd cc

same_first : (c d : List Call) (cs ds : List (List Call)) → c ∷ cs ≡ d ∷ ds → c ≡ d
same_first c d cs ds e = cc

in_behind : (done : List Entry) (e : Entry) (others more : List Entry) → more ≡ e ∷ others → In e (done ++ more)
in_behind done e others more whole = append_in_right e done more (subst (In e) (sym whole) (inl refl))

-- ---- the calls of an entry

-- they are those of a turn: 1 to 16, which fit
pub record HasFewCalls (spec : Spec) (calls : List Call) : Type 0 where
  pub some : 1 ≤ length calls
  pub few : length calls ≤ 16
  pub fit : AllByRecursion (Fits spec) calls

pub turn_has_few : (spec : Spec) (work : Work) → IsJudgeable spec work → (round : List Turn) (turn : Turn) → In round work.rounds → In turn round → HasFewCalls spec turn.calls
turn_has_few spec work can round turn known within =
    let size = each_in HasTurnSize round (each_in (AllByRecursion HasTurnSize) work.rounds can.limits.turns round known) turn within in
    record {
      some = size.0;
      few = size.1;
      fit = each_in (λ (t : Turn). AllByRecursion (Fits spec) t.calls) round (each_in (TurnsFit spec) work.rounds can.fit round known) turn within;
    }

pub entry_has_few : (spec : Spec) (work : Work) → IsJudgeable spec work → (history : List Entry) (e : Entry) → Runs spec work history → In e history → HasFewCalls spec (turn_of e)
entry_has_few spec work can history e run m =
    let is = entries_are_turns spec work history e run m in
    subst (HasFewCalls spec) (sym is.same) (turn_has_few spec work can is.round is.turn is.known is.within)

-- a report has its journal between the lines before it and those after it
parts_of_good : (form : Form) (compiled : SpecWithPlans) (work : Work) (history : List Entry)
    → good_lines form compiled work history
    ≡ lines_before form compiled
    ++ (count_line (codes "journal") (length history) ∷ (journal_lines compiled.spec work.ranks history ++ closing_lines form compiled work history))
unfolding report
parts_of_good Run compiled work history = refl
parts_of_good Group compiled work history = refl
parts_of_good Journal compiled work history = refl

module _ (form : Form) (compiled : SpecWithPlans) (work : Work) where
  lines_of_run : (done more : List Entry) → length (done ++ more) ≡ sum_by length work.rounds
      → good_lines form compiled work (done ++ more) ≡ lines_done form compiled work done ++ lines_behind form compiled work done more
  lines_of_run done more count =
      let before = lines_before form compiled in
      let journal = count_line (codes "journal") (sum_by length work.rounds) in
      let front = journal_lines compiled.spec work.ranks done in
      let behind = entry_lines_from compiled.spec work.ranks (length done) more in
      let closing = closing_lines form compiled work (done ++ more) in
      let z : 0 + length done ≡ length done = omega arith in
      let parts : journal_lines compiled.spec work.ranks (done ++ more) ≡ front ++ behind =
      lines_append compiled.spec work.ranks 0 done more ∙ ap (λ n. front ++ entry_lines_from compiled.spec work.ranks n more) z in
      parts_of_good form compiled work (done ++ more)
      ∙ ap (λ n. before ++ (count_line (codes "journal") n ∷ (journal_lines compiled.spec work.ranks (done ++ more) ++ closing))) count
      ∙ ap (λ l. before ++ (journal ∷ (l ++ closing))) parts
      ∙ ap (λ l. before ++ (journal ∷ l)) (append_assoc front behind closing)
      ∙ sym (append_assoc before (journal ∷ []) (front ++ (behind ++ closing)))
      ∙ sym (append_assoc (before ++ journal ∷ []) front (behind ++ closing))

  module _ (can : IsJudgeable compiled.spec work) where
    -- a run has as many entries as the workload has turns, so each good report begins with the same lines
    run_count : (history : List Entry) → Runs compiled.spec work history → length history ≡ sum_by length work.rounds
    run_count history run = runs_have_all_turns compiled.spec work history can.threads run

    pub run_begins : (history : List Entry) → Runs compiled.spec work history
        → good_lines form compiled work history ≡ opening_lines form compiled work ++ lines_behind form compiled work [] history
    run_begins history run =
        lines_of_run [] history (run_count history run)
        ∙ ap (λ l. l ++ lines_behind form compiled work [] history) (append-nil (opening_lines form compiled work))

    -- ---- at first, and at the next round

    pub judged_start : IsJudged form compiled work [] no_turns work.rounds (opening_lines form compiled work) []
    judged_start = record {
      stands = stands_start compiled.spec work can.threads;
      lines = refl;
      told = λ history others run e. (history, refl);
    }

    module _ (done : List Entry) (left : ℕ → List (List Call)) (rounds : List (List Turn)) (front : List (List ℕ)) where
      pub judged_round : (round : List Turn) → NoneLeft left → IsJudged form compiled work done left (round ∷ rounds) front []
          → IsJudged form compiled work done (turns_in round) rounds front []
      judged_round round none h = record {
        stands = stands_round compiled.spec work done left rounds round none h.stands;
        lines = h.lines;
        told = h.told;
      }

      pub judged_same : (next : ℕ → List (List Call)) → ((thread : ℕ) → left thread ≡ next thread) → IsJudged form compiled work done left rounds front []
          → IsJudged form compiled work done next rounds front []
      judged_same next same h = record {
        stands = stands_same compiled.spec work done left rounds next same h.stands;
        lines = h.lines;
        told = h.told;
      }

      -- ---- lines that are pending

      module _ (pending : List (List ℕ)) (judged : IsJudged form compiled work done left rounds front pending) where
        -- the lines so far begin a good report
        pub judged_begins : BeginsGood form compiled work front
        judged_begins =
            let goes = stands_exist compiled.spec work done left rounds judged.stands in
            let history = done ++ goes.0 in
            let behind = lines_behind form compiled work done goes.0 in
            record {
              others = pending ++ behind;
              entries = length history;
              good = record {
                history = history;
                run = goes.1;
                printed =
                    sym (append_assoc front pending behind) ∙ ap (λ l. l ++ behind) judged.lines
                    ∙ sym (lines_of_run done goes.0 (run_count history goes.1));
                count = refl;
              };
            }

        -- each good report goes on by them
        pub judged_goes_on : (history : List Entry) (others : List (List ℕ)) → Runs compiled.spec work history → good_lines form compiled work history ≡ front ++ others
            → (later : List (List ℕ)) × (others ≡ pending ++ later)
        judged_goes_on history others run printed =
            let told = judged.told history others run printed in
            let run' = subst (Runs compiled.spec work) told.1 run in
            let behind = lines_behind form compiled work done told.0 in (
              behind,
              append_cancel_left front others (pending ++ behind)
                  (sym printed ∙ ap (good_lines form compiled work) told.1 ∙ lines_of_run done told.0 (run_count (done ++ told.0) run')
                  ∙ ap (λ l. l ++ behind) (sym judged.lines) ∙ append_assoc front pending behind),
            )

      -- the first of them came
      pub judged_came : (line : List ℕ) (pending : List (List ℕ)) → IsJudged form compiled work done left rounds front (line ∷ pending)
          → IsJudged form compiled work done left rounds (front ++ line ∷ []) pending
      judged_came line pending judged = record {
        stands = judged.stands;
        lines = append_assoc front (line ∷ []) pending ∙ judged.lines;
        told = λ history others run printed. judged.told history (line ∷ others) run (printed ∙ append_assoc front (line ∷ []) others);
      }

      module _ (judged : IsJudged form compiled work done left rounds front []) where
        front_is : front ≡ lines_done form compiled work done
        front_is = sym (append-nil front) ∙ judged.lines

        -- ---- the next entry

        -- the first line of an entry of such calls is of its thread
        pub next_begins : (thread : ℕ) (calls : List Call) → HasFewCalls compiled.spec calls → BeginsWith (length done) thread (next_lines compiled work done thread calls)
        next_begins thread calls few =
            let steps = plain_steps compiled.spec (replay compiled.spec done) calls in
            let same : map (λ (s : Step). s.call) steps ≡ calls = calls_of_plain compiled.spec (replay compiled.spec done) calls in
            let some = few.some in
            let count = length-map steps (λ (s : Step). s.call) in
            let all : length (map (λ (s : Step). s.call) steps) ≡ length calls = ap (λ (l : List Call). length l) same in
            first_of_turn compiled.spec work.ranks (length done) thread steps (omega (arith, some, count, all)) (subst (AllByRecursion (Fits compiled.spec)) (sym same) few.fit)

        -- a run whose report goes on behind the lines so far goes on by the next turn of a thread that has one left
        record GoesOnBy (history : List Entry) (others : List (List ℕ)) : Type 0 where
          more : List Entry
          whole : history ≡ done ++ more
          next : ComesNext compiled.spec done left more
          begins : BeginsWith (length done) next.first.pass (next_lines compiled work done next.first.pass (turn_of next.first))
          behind : List (List ℕ)
          is : others ≡ next_lines compiled work done next.first.pass (turn_of next.first) ++ behind
          small : next.first.pass < work.threads

        goes_on_by : (thread : ℕ) (c : List Call) (cs : List (List Call)) → left thread ≡ c ∷ cs
            → (history : List Entry) (others : List (List ℕ)) → Runs compiled.spec work history
            → good_lines form compiled work history ≡ front ++ others → GoesOnBy history others
        goes_on_by thread c cs some history others run printed =
            let told = judged.told history others run printed in
            let run' = subst (Runs compiled.spec work) told.1 run in
            let next = stands_next compiled.spec work done left rounds judged.stands thread c cs some told.0 run' in
            let e = next.first in
            let there : In e (done ++ told.0) = in_behind done e next.others told.0 next.whole in
            let lines = next_lines compiled work done e.pass (turn_of e) in
            let later = entry_lines_from compiled.spec work.ranks (length done + 1) next.others in
            let closing = closing_lines form compiled work (done ++ told.0) in
            let behind : lines_behind form compiled work done told.0 ≡ lines ++ (later ++ closing) =
            ap (λ (l : List Entry). entry_lines_from compiled.spec work.ranks (length done) l ++ closing) next.whole
            ∙ ap (λ (x : Entry). (entry_lines compiled.spec work.ranks (length done) x ++ later) ++ closing) next.is
            ∙ append_assoc lines later closing in
            let all : lines_done form compiled work done ++ others ≡ lines_done form compiled work done ++ lines_behind form compiled work done told.0 =
            ap (λ l. l ++ others) (sym front_is) ∙ sym printed ∙ ap (good_lines form compiled work) told.1
            ∙ lines_of_run done told.0 (run_count (done ++ told.0) run') in
            record {
              more = told.0;
              whole = told.1;
              next = next;
              begins = next_begins e.pass (turn_of e) (entry_has_few compiled.spec work can (done ++ told.0) e run' there);
              behind = later ++ closing;
              is = append_cancel_left (lines_done form compiled work done) others (lines_behind form compiled work done told.0) all ∙ behind;
              small = run'.threads e there;
            }

        first_is : (history : List Entry) (line : List ℕ) (others : List (List ℕ)) → (by : GoesOnBy history (line ∷ others)) → line ≡ by.begins.first
        first_is history line others by =
            first_line line by.begins.first others (by.begins.rest ++ by.behind) (by.is ∙ ap (λ l. l ++ by.behind) by.begins.whole)

        -- the first line of the next turn of a thread that has one left
        pub record IsNextLine (line : List ℕ) : Type 0 where
          pub thread : ℕ
          pub calls : List Call
          pub later : List (List Call)
          pub mine : left thread ≡ calls ∷ later
          pub small : thread < work.threads
          pub rest : List (List ℕ)
          pub is : next_lines compiled work done thread calls ≡ line ∷ rest
          pub of : IsOfThread (length done) line thread

        pub judged_next : (thread : ℕ) (c : List Call) (cs : List (List Call)) → left thread ≡ c ∷ cs
            → (line : List ℕ) → BeginsGood form compiled work (front ++ line ∷ []) → IsNextLine line
        judged_next thread c cs some line begins =
            let good = begins.good in
            let printed : good_lines form compiled work good.history ≡ front ++ (line ∷ begins.others) =
            sym good.printed ∙ append_assoc front (line ∷ []) begins.others in
            let by = goes_on_by thread c cs some good.history (line ∷ begins.others) good.run printed in
            let same = first_is good.history line begins.others by in
            record {
              thread = by.next.first.pass;
              calls = turn_of by.next.first;
              later = by.next.later;
              mine = by.next.mine;
              small = by.small;
              rest = by.begins.rest;
              is = by.begins.whole ∙ ap (λ l. l ∷ by.begins.rest) (sym same);
              of = subst (λ l. IsOfThread (length done) l by.next.first.pass) (sym same) by.begins.of;
            }

        -- where a thread has a turn left, no good report ends with the lines so far
        pub judged_wants : (thread : ℕ) (c : List Call) (cs : List (List Call)) → left thread ≡ c ∷ cs → (entries : ℕ)
            → IsGoodReport form compiled work front entries → ⊥
        judged_wants thread c cs some entries good =
            let printed : good_lines form compiled work good.history ≡ front ++ [] = sym good.printed ∙ sym (append-nil front) in
            let by = goes_on_by thread c cs some good.history [] good.run printed in
            no_line by.begins.first by.begins.rest by.behind (by.is ∙ ap (λ l. l ++ by.behind) by.begins.whole)

        -- ---- the first line of an entry more

        module _ (next : ℕ → List (List Call)) (thread : ℕ) (calls : List Call) (line : List ℕ) (rest : List (List ℕ)) (made : IsMade left next thread calls)
            (first : next_lines compiled work done thread calls ≡ line ∷ rest) (of : IsOfThread (length done) line thread) where
          below : thread < work.threads
          below = made_below compiled.spec work done left rounds next thread calls judged.stands made

          more_lines : (front ++ line ∷ []) ++ rest ≡ lines_done form compiled work (done ++ entry_after compiled.spec done thread calls ∷ [])
          more_lines =
              let e = entry_after compiled.spec done thread calls in
              let opening = opening_lines form compiled work in
              let lines = journal_lines compiled.spec work.ranks done in
              let here = next_lines compiled work done thread calls in
              let z : 0 + length done ≡ length done = omega arith in
              let entries : journal_lines compiled.spec work.ranks (done ++ e ∷ []) ≡ lines ++ here =
              lines_append compiled.spec work.ranks 0 done (e ∷ []) ∙ ap (λ n. lines ++ entry_lines_from compiled.spec work.ranks n (e ∷ [])) z
              ∙ ap (λ l. lines ++ l) (append-nil here) in
              append_assoc front (line ∷ []) rest ∙ ap (λ l. front ++ l) (sym first) ∙ ap (λ l. l ++ here) front_is
              ∙ append_assoc opening lines here ∙ ap (λ l. opening ++ l) (sym entries)

          told_more : (history : List Entry) (others : List (List ℕ)) → Runs compiled.spec work history
              → good_lines form compiled work history ≡ (front ++ line ∷ []) ++ others
              → (more : List Entry) × (history ≡ (done ++ entry_after compiled.spec done thread calls ∷ []) ++ more)
          told_more history others run printed =
              let e = entry_after compiled.spec done thread calls in
              let by = goes_on_by thread calls (next thread) made.mine history (line ∷ others) run (printed ∙ append_assoc front (line ∷ []) others) in
              let turn = by.next.first in
              let few = can.limits.few_threads in
              let mine : IsOfThread (length done) line turn.pass = subst (λ l. IsOfThread (length done) l turn.pass) (sym (first_is history line others by)) by.begins.of in
              let same : turn.pass ≡ thread =
              one_thread (length done) turn.pass thread line (let s = by.small in omega (arith, s, few)) (let s = below in omega (arith, s, few)) mine of in
              let made_are : turn_of turn ≡ calls =
              same_first (turn_of turn) calls by.next.later (next thread) (sym by.next.mine ∙ ap left same ∙ made.mine) in
              let entry : turn ≡ e = by.next.is ∙ (λ i. entry_after compiled.spec done (same i) (made_are i)) in (
                by.next.others,
                by.whole ∙ ap (λ l. done ++ l) by.next.whole ∙ ap (λ x. done ++ (x ∷ by.next.others)) entry ∙ sym (append_assoc done (e ∷ []) by.next.others),
              )

          pub judged_more : AreNoneFrom work.threads next
              → IsJudged form compiled work (done ++ entry_after compiled.spec done thread calls ∷ []) next rounds (front ++ line ∷ []) rest
          judged_more none = record {
            stands = stands_more compiled.spec work done left rounds next thread calls judged.stands made none;
            lines = more_lines;
            told = told_more;
          }

        -- ---- the last entry

        pub judged_end : NoneLeft left → rounds ≡ [] → IsWhole form compiled work done front
        judged_end none last =
            let ends = stands_end compiled.spec work done left rounds judged.stands none last in
            let goes = stands_exist compiled.spec work done left rounds judged.stands in
            let is : done ++ goes.0 ≡ done = ap (λ l. done ++ l) (ends goes.0 goes.1) ∙ append-nil done in
            let run : Runs compiled.spec work done = subst (Runs compiled.spec work) is goes.1 in
            let printed = whole_lines (run_count done run) in
            record {
              run = run;
              printed = printed;
              only = λ history others other lines.
                  let told = judged.told history others other lines in
                  let more : told.0 ≡ [] = ends told.0 (subst (Runs compiled.spec work) told.1 other) in
                  let same : history ≡ done = told.1 ∙ ap (λ l. done ++ l) more ∙ append-nil done in (
                    same,
                    append_cancel_left front others (closing_lines form compiled work done) (sym lines ∙ ap (good_lines form compiled work) same ∙ printed),
                  );
            }
          where
            whole_lines : length done ≡ sum_by length work.rounds → good_lines form compiled work done ≡ front ++ closing_lines form compiled work done
            whole_lines count =
                let none : done ++ [] ≡ done = append-nil done in
                ap (good_lines form compiled work) (sym none) ∙ lines_of_run done [] (ap length none ∙ count)
                ∙ ap (λ l. l ++ lines_behind form compiled work done []) (sym front_is)
                ∙ ap (λ (d : List Entry). front ++ closing_lines form compiled work d) none
