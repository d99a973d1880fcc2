-- The stages of a report: what a line leaves of each, and why one is bad.
use Rattle.std.proofs.Common.{◌≡◌, ℕ, zero, suc, ◌+◌, ◌-◌, ◌<◌, ◌≤◌, inl, inr, List, [], ◌∷◌, ◌++◌, drop, take, get_or, length, Option, Some, None, refl, sym, ap, ◌∙◌, subst, arith}
use Rattle.rc_audit.proofs.Imports.{slice_get, append-nil, append_assoc, drop_more, take-append-drop, nil_from_length, take_all, cases_lt, drop_of_length-le, get_or_from_slice_get, slice_get-get_or, slice_get_within, slice_get_there, Spec, SpecWithPlans, Entry, Turn, Work, HasTurnsBelow, thread_turns, Closing, Entries, Form, Opening, Relation, AreCursors, HasLeft, HaveBegun, left_in, has_left_by, left_at_start, next_turn, none_left, BeginsGood, IsGoodReport, IsJudgeable, IsJudged, closing_lines, opening_lines, judged_begins, judged_end, judged_round, judged_same, judged_start, judged_wants, HasMore, HasSomeLeft, IsAmong, IsBefore, IsBetween, IsClosing, IsFirstFilled, IsOpening, round_at, tail_lines, Keeps, turn_mine, no_turns, turns_in, IsWanted, begins_shorter, closing_is_wanted, good_begins, more_is_bad, opening_is_wanted, other_is_bad, wanted_is_not_all, whole_is_good, HasPending, pending_is_wanted}
use Rattle.rc_audit.proofs.ListLemmas.{one_more, parted}

module _ (form : Form) (compiled : SpecWithPlans) (work : Work) (can : IsJudgeable compiled.spec work) where
  -- ---- the opening lines

  module _ (opening : Opening) (front : List (List ℕ)) (at : IsOpening form compiled work opening front) where
    opening_wanted : IsWanted form compiled work front (get_or opening.lines opening.met [])
    opening_wanted =
        opening_is_wanted form compiled work can front (drop (opening.met + 1) opening.lines) (get_or opening.lines opening.met [])
        (sym at.lines_are ∙ parted opening.lines opening.met [] at.within ∙ ap (λ l. l ++ get_or opening.lines opening.met [] ∷ drop (opening.met + 1) opening.lines) (sym at.front_is))

    pub opening_bad : (line : List ℕ) → (line ≡ get_or opening.lines opening.met [] → ⊥) → BeginsGood form compiled work (front ++ line ∷ []) → ⊥
    unfolding opening_wanted
    opening_bad line other begins = other (other_is_bad form compiled work front (get_or opening.lines opening.met []) line opening_wanted begins)

    pub opening_none : (entries : ℕ) → IsGoodReport form compiled work front entries → ⊥
    unfolding opening_wanted
    opening_none entries good = wanted_is_not_all form compiled work front (get_or opening.lines opening.met []) opening_wanted entries good

    pub opening_begins : BeginsGood form compiled work front
    unfolding opening_wanted
    opening_begins = opening_wanted.begins

    opening_front : (line : List ℕ) → line ≡ get_or opening.lines opening.met [] → front ++ line ∷ [] ≡ take (opening.met + 1) opening.lines
    opening_front line is = ap (λ l. l ++ line ∷ []) at.front_is ∙ one_more [] opening.lines opening.met line [] at.within is

    -- with the last of the lines the judge stands before the first round
    pub opening_last : (line : List ℕ) (relation : Relation) → line ≡ get_or opening.lines opening.met [] → opening.met + 1 ≡ length opening.lines
        → Keeps compiled.spec relation [] → IsBefore form compiled work relation 0 0 (front ++ line ∷ [])
    opening_last line relation is last keeps =
        let all : front ++ line ∷ [] ≡ opening_lines form compiled work =
        opening_front line is ∙ take_all (opening.met + 1) opening.lines (omega (arith, last)) ∙ at.lines_are in
        record {
          within = omega arith;
          done = [];
          between = record {
            left = no_turns;
            none = λ thread. refl;
            judged = subst (λ l. IsJudged form compiled work [] no_turns work.rounds l []) (sym all) (judged_start form compiled work can);
          };
          place_is = refl;
          keeps = keeps;
        }

  -- ---- between rounds

  -- a round without turns is passed
  skipped : (done : List Entry) (front : List (List ℕ)) (n : ℕ) (from : ℕ) → from + n ≤ length work.rounds
      → ((k : ℕ) → from ≤ k → k < from + n → length (round_at work k) ≡ 0)
      → IsBetween form compiled work done (drop from work.rounds) front → IsBetween form compiled work done (drop (from + n) work.rounds) front
  skipped done front zero from within empty h =
      let z : from ≡ from + 0 = omega arith in
      subst (λ k. IsBetween form compiled work done (drop k work.rounds) front) z h
  skipped done front (suc n) from within empty h =
      let z : from + 1 + n ≡ from + suc n = omega arith in
      let none : round_at work from ≡ [] = nil_from_length (round_at work from) (empty from (omega arith) (omega arith)) in
      let parts : drop from work.rounds ≡ [] ∷ drop (from + 1) work.rounds =
      drop_more work.rounds from [] (omega (arith, within)) ∙ ap (λ round. round ∷ drop (from + 1) work.rounds) none in
      let next : IsBetween form compiled work done (drop (from + 1) work.rounds) front = record {
        left = turns_in [];
        none = λ thread. refl;
        judged = judged_round form compiled work can done h.left (drop (from + 1) work.rounds) front [] h.none
            (subst (λ rounds. IsJudged form compiled work done h.left rounds front []) parts h.judged);
      } in
      subst (λ k. IsBetween form compiled work done (drop k work.rounds) front) z
      (skipped done front n (from + 1) (omega (arith, within)) (λ k l m. empty k (omega (arith, l)) (omega (arith, m))) next)

  module _ (relation : Relation) (number place : ℕ) (front : List (List ℕ)) (before : IsBefore form compiled work relation number place front)
      (next : ℕ) (first : IsFirstFilled work.rounds number next) where
    at_next : IsBetween form compiled work before.done (drop next work.rounds) front
    at_next =
        let later = first.later in
        let within = first.within in
        let z : number + (next - number) ≡ next = omega (arith, later) in
        subst (λ k. IsBetween form compiled work before.done (drop k work.rounds) front) z
        (skipped before.done front (next - number) number (omega (arith, z, within)) (λ k l m. first.empty k l (omega (arith, m, z))) before.between)

    -- the judge stands among the entries of a round that has turns
    pub among_first : (entries : Entries) → entries.round ≡ next → entries.place ≡ place → entries.lines ≡ [] → next < length work.rounds
        → HaveBegun (round_at work next) work.threads entries.cursors.items → IsAmong form compiled work relation entries front
    unfolding at_next
    among_first entries round_is place_is none within begun =
        let parts : drop next work.rounds ≡ round_at work next ∷ drop (next + 1) work.rounds = drop_more work.rounds next [] within in
        let judged = subst (λ rounds. IsJudged form compiled work before.done at_next.left rounds front []) parts at_next.judged in
        let here = judged_round form compiled work can before.done at_next.left (drop (next + 1) work.rounds) front (round_at work next) at_next.none judged in
        let below : HasTurnsBelow work.threads (round_at work next) = judged.stands.below.0 in
        let all : IsJudged form compiled work before.done (left_in (round_at work next) entries.cursors.items) (drop (next + 1) work.rounds) front [] =
        judged_same form compiled work can before.done (turns_in (round_at work next)) (drop (next + 1) work.rounds) front (left_in (round_at work next) entries.cursors.items)
        (left_at_start (round_at work next) work.threads entries.cursors.items begun below) here in
        record {
          within = subst (λ k. k < length work.rounds) (sym round_is) within;
          done = before.done;
          judged = subst (λ (x : ℕ × List (List ℕ)). IsJudged form compiled work before.done (left_in (round_at work x.0) entries.cursors.items) (drop (x.0 + 1) work.rounds) front x.1)
              (λ i. (sym round_is i, sym (drop_of_length-le entries.lines {i = entries.met} (let z : length entries.lines ≡ 0 = ap length none in omega (arith, z))) i)) all;
          place_is = before.place_is ∙ sym place_is;
          keeps = before.keeps;
          count = begun.count;
          are = subst (λ k. AreCursors (round_at work k) entries.cursors.items) (sym round_is) begun.places;
        }

    -- behind all entries
    pub closing_first : (closing : Closing) → length work.rounds ≤ next → tail_lines compiled.spec work.ranks closing.tail ≡ closing_lines form compiled work before.done → closing.met ≡ 0 → closing.entries ≡ place
        → IsClosing form compiled work closing front
    unfolding at_next
    closing_first closing past tail_is met_is entries_is =
        let none : drop next work.rounds ≡ [] = drop_of_length-le work.rounds past in
        let nothing : take closing.met (closing_lines form compiled work before.done) ≡ [] = ap (λ n. take n (closing_lines form compiled work before.done)) met_is in
        record {
          done = before.done;
          body = front;
          whole = judged_end form compiled work can before.done at_next.left (drop next work.rounds) front at_next.judged at_next.none none;
          tail_is = tail_is;
          within = omega (arith, met_is);
          front_is = sym (ap (λ l. front ++ l) nothing ∙ append-nil front);
          count = before.place_is ∙ sym entries_is;
        }

  -- ---- the closing lines

  module _ (closing : Closing) (front : List (List ℕ)) (at : IsClosing form compiled work closing front) where
    abbrev lines : List (List ℕ)
    lines = closing_lines form compiled work at.done

    -- the line that was read in the next place
    pub closing_found : (spec : Spec) (read wanted : Option (List ℕ)) → spec ≡ compiled.spec
        → read ≡ slice_get (tail_lines spec work.ranks closing.tail) closing.met → read ≡ wanted → slice_get lines closing.met ≡ wanted
    closing_found spec read wanted same read_is is =
        sym
        (read_is
        ∙ ap (λ (s : Spec). slice_get (tail_lines s work.ranks closing.tail) closing.met) same
        ∙ ap (λ l. slice_get l closing.met) at.tail_is)
        ∙ is

    closing_wanted : (wanted : List ℕ) → slice_get lines closing.met ≡ Some wanted → IsWanted form compiled work front wanted
    closing_wanted wanted is =
        let within = slice_get_within lines closing.met wanted is in
        let found = get_or_from_slice_get lines closing.met wanted [] is in
        let parts : lines ≡ take closing.met lines ++ wanted ∷ drop (closing.met + 1) lines =
        parted lines closing.met [] within ∙ ap (λ w. take closing.met lines ++ w ∷ drop (closing.met + 1) lines) found in
        subst (λ l. IsWanted form compiled work l wanted) (sym at.front_is)
        (closing_is_wanted form compiled work at.done at.body at.whole (take closing.met lines) (drop (closing.met + 1) lines) wanted parts)

    pub closing_bad : (line wanted : List ℕ) → slice_get lines closing.met ≡ Some wanted → (line ≡ wanted → ⊥) → BeginsGood form compiled work (front ++ line ∷ []) → ⊥
    unfolding closing_wanted
    closing_bad line wanted is other begins = other (other_is_bad form compiled work front wanted line (closing_wanted wanted is) begins)

    -- all lines came
    closing_all : length lines ≤ closing.met → front ≡ at.body ++ lines
    closing_all past = at.front_is ∙ ap (λ l. at.body ++ l) (take_all closing.met lines past)

    pub closing_more_bad : (line : List ℕ) → slice_get lines closing.met ≡ None → BeginsGood form compiled work (front ++ line ∷ []) → ⊥
    closing_more_bad line none begins =
        more_is_bad form compiled work at.done at.body at.whole line
        (subst (λ l. BeginsGood form compiled work (l ++ line ∷ [])) (closing_all (past_end lines closing.met none)) begins)
      where
        past_end : (xs : List (List ℕ)) (i : ℕ) → slice_get xs i ≡ None → length xs ≤ i
        past_end xs i none = elim (cases_lt i (length xs)) [
          | inl within ↦ absurd (slice_get_there xs i within none)
          | inr past ↦ past
        ]

    pub closing_more : (line wanted : List ℕ) (next : Closing) → slice_get lines closing.met ≡ Some wanted → line ≡ wanted
        → next ≡ record closing { met = closing.met + 1 } → IsClosing form compiled work next (front ++ line ∷ [])
    closing_more line wanted next is same next_is =
        let within = slice_get_within lines closing.met wanted is in
        let found = get_or_from_slice_get lines closing.met wanted [] is in
        subst (λ (c : Closing). IsClosing form compiled work c (front ++ line ∷ [])) (sym next_is) (record {
          done = at.done;
          body = at.body;
          whole = at.whole;
          tail_is = at.tail_is;
          within = omega (arith, within);
          front_is = ap (λ l. l ++ line ∷ []) at.front_is ∙ one_more at.body lines closing.met line [] within (same ∙ sym found);
          count = at.count;
        })

    pub closing_begins : BeginsGood form compiled work front
    closing_begins =
        let begun = take closing.met lines in
        let later = drop closing.met lines in
        let all : at.body ++ lines ≡ (at.body ++ begun) ++ later =
        ap (λ l. at.body ++ l) (sym (take-append-drop closing.met lines)) ∙ sym (append_assoc at.body begun later) in
        let good = subst (λ l. IsGoodReport form compiled work l (length at.done)) all (whole_is_good form compiled work at.done at.body at.whole) in
        subst (BeginsGood form compiled work) (sym at.front_is)
        (begins_shorter form compiled work (at.body ++ begun) later (good_begins form compiled work ((at.body ++ begun) ++ later) (length at.done) good))

    pub closing_good : closing.met ≡ length lines → IsGoodReport form compiled work front closing.entries
    unfolding closing_all
    closing_good all =
        subst (IsGoodReport form compiled work front) at.count
        (subst (λ l. IsGoodReport form compiled work l (length at.done)) (sym (closing_all (omega (arith, all)))) (whole_is_good form compiled work at.done at.body at.whole))

    pub closing_none : (closing.met ≡ length lines → ⊥) → (entries : ℕ) → IsGoodReport form compiled work front entries → ⊥
    unfolding closing_wanted
    closing_none not_all entries good =
        let within = at.within in
        let before : closing.met < length lines = omega (arith, not_all, within) in
        wanted_is_not_all form compiled work front (get_or lines closing.met []) (closing_wanted (get_or lines closing.met []) (slice_get-get_or lines closing.met [] before)) entries good

  -- ---- the entries

  module _ (relation : Relation) (entries : Entries) (front : List (List ℕ)) (at : IsAmong form compiled work relation entries front) where
    pub among_begins : BeginsGood form compiled work front
    among_begins =
        judged_begins form compiled work can at.done (left_in (round_at work entries.round) entries.cursors.items) (drop (entries.round + 1) work.rounds) front
        (drop entries.met entries.lines) at.judged

    none_pending : (HasPending entries → ⊥) → IsJudged form compiled work at.done (left_in (round_at work entries.round) entries.cursors.items) (drop (entries.round + 1) work.rounds) front []
    none_pending none =
        subst (IsJudged form compiled work at.done (left_in (round_at work entries.round) entries.cursors.items) (drop (entries.round + 1) work.rounds) front)
        (drop_of_length-le entries.lines (elim (cases_lt entries.met (length entries.lines)) [ inl within ↦ absurd (none within) | inr past ↦ past ])) at.judged

    wants : HasSomeLeft work entries → (HasPending entries → ⊥) → (count : ℕ) → IsGoodReport form compiled work front count → ⊥
    wants some none count good =
        let turn = next_turn (round_at work entries.round) entries.cursors.items some.0 at.are some.1 in
        judged_wants form compiled work can at.done (left_in (round_at work entries.round) entries.cursors.items) (drop (entries.round + 1) work.rounds) front (none_pending none)
        some.0 turn.0.calls _ turn.1.left count good

    pub among_none : HasMore work entries → (count : ℕ) → IsGoodReport form compiled work front count → ⊥
    among_none more count good = elim (cases_lt entries.met (length entries.lines)) [
      | inl pending ↦ wanted_is_not_all form compiled work front (get_or entries.lines entries.met [])
          (pending_is_wanted form compiled work can at.done (left_in (round_at work entries.round) entries.cursors.items) (drop (entries.round + 1) work.rounds) front
          (drop (entries.met + 1) entries.lines) (get_or entries.lines entries.met [])
          (subst (IsJudged form compiled work at.done (left_in (round_at work entries.round) entries.cursors.items) (drop (entries.round + 1) work.rounds) front)
          (drop_more entries.lines entries.met [] pending) at.judged)) count good
      | inr past ↦ left_is more past
    ]
      where
        left_is : HasMore work entries → length entries.lines ≤ entries.met → ⊥
        left_is (inl pending) past = omega (arith, pending, past)
        left_is (inr some) past = wants some (λ pending. omega (arith, pending, past)) count good

    -- where no turn is left, the judge stands before the next round
    pub among_before : (HasMore work entries → ⊥) → IsBefore form compiled work relation (entries.round + 1) entries.place front
    among_before none = record {
      within = let within = at.within in omega (arith, within);
      done = at.done;
      between = record {
        left = left_in (round_at work entries.round) entries.cursors.items;
        none = none_left (round_at work entries.round) entries.cursors.items (λ thread has. none (inr (thread, has)));
        judged = none_pending (λ pending. none (inl pending));
      };
      place_is = at.place_is;
      keeps = at.keeps;
    }

-- in a round that begins and has turns, a thread has one left
pub some_first : (work : Work) (round : List Turn) (threads : ℕ) (cursors : List ℕ) → HaveBegun round threads cursors → HasTurnsBelow threads round
    → 0 < length round → (thread : ℕ) × HasLeft round cursors thread
some_first work [] threads cursors begun below some = absurd (omega (arith, some))
some_first work (t ∷ round) threads cursors begun below some = (
  t.thread,
  has_left_by (t ∷ round) cursors t.thread t.calls (thread_turns t.thread round)
      (sym (left_at_start (t ∷ round) threads cursors begun below t.thread) ∙ turn_mine t round t.thread refl),
)
