use Rattle.std.proofs.Common.{◌≡◌, ◌+◌, ◌<◌, ◌^◌, ◌++◌, ◌∷◌, [], ℕ, List, drop, get_or, length, None, Some, refl, sym, ap, subst, ◌∙◌, arith}
use Rattle.rc_audit.proofs.Imports.{with_items, with_items_is, err_from_is_err_and, Call, Pairs, Relation, HaveBeenPrinted, replay, entry_after, HasGoneOn, HasLeft, Form, IsAmong, IsOfThread, next_lines, round_at, Keeps}
use Rattle.rc_audit.proofs.EntryLemmas.{calls_read, chosen_here, entry_met, entry_none, entry_other, few_done, few_tuples, first_parts, lines_are, lines_some, meet_err, read_round, turn_next}
use Rattle.rc_audit.proofs.entries.Entries.begin_entry.Goals.{After-list-calls}
use Rattle.rc_audit.proofs.entries.Entries.begin_entry.Goals as goal

-- the judge stands among the entries before the line
abbrev Stands : After-list-calls → Type 0
Stands c = (form : Form) × (front : List (List ℕ)) × IsAmong form c.args.compiled.now c.args.work.now c.args.relation.now c.args.self.now front

-- the thread that was chosen has a turn left, and the line is of it
chosen : (c : After-list-calls) (at : Stands c) → HasLeft (round_at c.args.work.now c.args.self.now.round) c.args.self.now.cursors.items c.in-Some.thread
    × IsOfThread c.args.self.now.place c.args.line.now c.in-Some.thread
chosen c at =
    let here = read_round at.0 c.args.compiled.now c.args.work.now c.requires.judgeable c.args.relation.now c.args.self.now at.1 at.2 c.list.result.now c.index-list-self.result c.list-round.result.now c.list.ensures c.index-list-self.is c.list-round.ensures in
    chosen_here at.0 c.args.compiled.now c.args.work.now c.requires.judgeable c.args.relation.now c.args.self.now at.1 at.2 c.list-round.result.now c.deref.result.now c.args.line.now c.in_ok-thread.field-0 (Some c.in-Some.thread)
    here c.deref.ensures.value c.in-Some.is c.in_ok-thread.ensures

-- the calls that were read are those of its turn
same_calls : (c : After-list-calls) (at : Stands c)
    → c.list-calls.result.now ≡ (turn_next at.0 c.args.compiled.now c.args.work.now c.requires.judgeable c.args.relation.now c.args.self.now at.1 at.2 c.in-Some.thread (chosen c at).0).turn.calls
same_calls c at =
    let here = read_round at.0 c.args.compiled.now c.args.work.now c.requires.judgeable c.args.relation.now c.args.self.now at.1 at.2 c.list.result.now c.index-list-self.result c.list-round.result.now c.list.ensures c.index-list-self.is c.list-round.ensures in
    calls_read at.0 c.args.compiled.now c.args.work.now c.requires.judgeable c.args.relation.now c.args.self.now at.1 at.2 c.in-Some.thread (chosen c at).0
    c.list-round.result.now c.index.result.now c.index-round-index.result c.list-calls.result.now here c.index.ensures c.list-calls.ensures

few : (c : After-list-calls) (at : Stands c) → length (replay c.args.compiled.now.spec at.2.done) + length c.list-calls.result.now < 2 ^ 63
few c at =
    let turn = turn_next at.0 c.args.compiled.now c.args.work.now c.requires.judgeable c.args.relation.now c.args.self.now at.1 at.2 c.in-Some.thread (chosen c at).0 in
    subst (λ (calls : List Call). length (replay c.args.compiled.now.spec at.2.done) + length calls < 2 ^ 63) (sym (same_calls c at))
    (few_tuples at.0 c.args.compiled.now c.args.work.now c.requires.judgeable c.args.relation.now c.args.self.now at.1 at.2 turn.turn.calls turn.few)

-- the first line of its entry
abbrev Turn : (c : After-list-calls) → Stands c → List Call
Turn c at = (turn_next at.0 c.args.compiled.now c.args.work.now c.requires.judgeable c.args.relation.now c.args.self.now at.1 at.2 c.in-Some.thread (chosen c at).0).turn.calls

-- the lines that were printed are those of its entry
printed : (c : After-list-calls) (at : Stands c) (lines : List (List ℕ)) (after : Relation)
    → ((r : List Pairs) → Keeps c.args.compiled.now.spec c.args.relation.now r → length r + length c.list-calls.result.now < 2 ^ 63
    → HaveBeenPrinted c.args.compiled.now.spec c.args.work.now.ranks c.args.self.now.place c.in-Some.thread r c.list-calls.result.now after lines)
    → (lines ≡ next_lines c.args.compiled.now c.args.work.now at.2.done c.in-Some.thread (Turn c at))
    × Keeps c.args.compiled.now.spec after (replay c.args.compiled.now.spec (at.2.done ++ entry_after c.args.compiled.now.spec at.2.done c.in-Some.thread (Turn c at) ∷ []))
printed c at lines after made =
    lines_are at.0 c.args.compiled.now c.args.work.now c.requires.judgeable c.args.relation.now c.args.self.now at.1 at.2 c.in-Some.thread (chosen c at).0
    c.list-calls.result.now lines after (same_calls c at) (made (replay c.args.compiled.now.spec at.2.done) at.2.keeps (few c at))

some : (c : After-list-calls) (at : Stands c) (lines : List (List ℕ)) → lines ≡ next_lines c.args.compiled.now c.args.work.now at.2.done c.in-Some.thread (Turn c at) → 0 < length lines
some c at lines is =
    lines_some at.0 c.args.compiled.now c.args.work.now c.requires.judgeable c.args.relation.now c.args.self.now at.1 at.2 c.requires.none c.in-Some.thread (chosen c at).0 lines is

pub overflow_add-self : goal.overflow_add-self
overflow_add-self c =
    let few = few_done c.requires.at.0 c.args.compiled.now c.args.work.now c.requires.judgeable c.args.relation.now c.args.self.now c.requires.at.1 c.requires.at.2 in
    let place = c.requires.at.2.place_is in
    omega (arith, few, place)

pub print_made-requires-clause-kept : goal.print_made-requires-clause-kept
print_made-requires-clause-kept c =
    let at = (goal.at.print_made-requires-clause-kept c).After-list-calls in
    (replay c.args.compiled.now.spec c.requires.at.2.done, c.requires.at.2.keeps, few at c.requires.at)

pub meet_at-requires : goal.meet_at-requires
meet_at-requires c =
    let at = (goal.at.meet_at-requires c).After-list-calls in
    some at c.requires.at c.in_ok-lines.lines (printed at c.requires.at c.in_ok-lines.lines c.print_made.new.relation c.in_ok-lines.ensures).0

pub returns-in_default : goal.returns-in_default
returns-in_default c = λ form front at.
    let here = read_round form c.args.compiled.now c.args.work.now c.requires.judgeable c.args.relation.now c.args.self.now front at c.list.result.now c.index-list-self.result c.list-round.result.now c.list.ensures c.index-list-self.is c.list-round.ensures in
    let chosen = chosen_here form c.args.compiled.now c.args.work.now c.requires.judgeable c.args.relation.now c.args.self.now front at c.list-round.result.now c.deref.result.now c.args.line.now c.in_ok-thread.field-0 None
    here c.deref.ensures.value c.in_default.is c.in_ok-thread.ensures in
    entry_none form c.args.compiled.now c.args.work.now c.requires.judgeable c.args.relation.now c.args.self.now front at c.requires.none c.requires.some.0 c.requires.some.1 c.args.line.now chosen

pub returns-in_err-meet_at : goal.returns-in_err-meet_at
returns-in_err-meet_at c = λ form front at.
    let x = (goal.at.returns-in_err-meet_at c).After-list-calls in
    let is = chosen x (form, front, at) in
    let lines = printed x (form, front, at) c.in_ok-lines.lines c.print_made.new.relation c.in_ok-lines.ensures in
    let refused = err_from_is_err_and c.from_residual-in_err-meet_at.result c.from_residual-in_err-meet_at.ensures.1 in
    rw (refused.1, refused.2)
    (meet_err (Unit {0}) form c.args.compiled.now c.args.work.now front c.args.line.now (get_or c.in_ok-lines.lines 0 [])
    (IsAmong form c.args.compiled.now c.args.work.now c.print_made.new.relation c.args.self.now (front ++ c.args.line.now ∷ [])) _ c.in_err-meet_at.ensures.met
    (λ other. entry_other form c.args.compiled.now c.args.work.now c.requires.judgeable c.args.relation.now c.args.self.now front at c.requires.none c.in-Some.thread c.args.line.now is.0 is.1
    (λ rest first. other (sym (ap (λ l. get_or l 0 []) (lines.0 ∙ first))))))

pub returns : goal.returns
returns c = λ form front at.
    let x = (goal.at.returns c).After-list-calls in
    let here = read_round form c.args.compiled.now c.args.work.now c.requires.judgeable c.args.relation.now c.args.self.now front at c.list.result.now c.index-list-self.result c.list-round.result.now c.list.ensures c.index-list-self.is c.list-round.ensures in
    let is = chosen x (form, front, at) in
    let lines = printed x (form, front, at) c.in_ok-lines.lines c.print_made.new.relation c.in_ok-lines.ensures in
    let old = subst (λ cs. HasGoneOn c.list-round.result.now cs c.go_on.new.cursors c.in-Some.thread) c.deref_mut.ensures.value c.go_on.ensures in
    let items = with_items_is c.args.self.now.cursors c.go_on.new.cursors (c.go_on.auto.cursors ∙ c.deref_mut.ensures.len) in
    let moved = subst (λ ts. HasGoneOn ts c.args.self.now.cursors.items c.go_on.new.cursors c.in-Some.thread) here old in
    let gone = subst (λ cs. HasGoneOn (round_at c.args.work.now c.args.self.now.round) c.args.self.now.cursors.items cs c.in-Some.thread) (sym items) moved in
    let first = sym lines.0 ∙ first_parts c.in_ok-lines.lines (some x (form, front, at) c.in_ok-lines.lines lines.0) ∙ ap (λ l. l ∷ drop 1 c.in_ok-lines.lines) (sym c.in_ok-meet_at.ensures.met) in
    entry_met form c.args.compiled.now c.args.work.now c.requires.judgeable c.args.relation.now c.args.self.now front at c.requires.none c.in-Some.thread c.args.line.now (drop 1 c.in_ok-lines.lines)
    (record { round = c.args.self.now.round; cursors = with_items c.args.self.now.cursors c.go_on.new.cursors; place = c.args.self.now.place + 1; lines = c.in_ok-lines.lines; met = 1 })
    c.print_made.new.relation is.0 is.1 first gone refl refl refl lines.1
