use Rattle.std.proofs.Common.{◌≡◌, ℕ, true, false, length, eqb, [], Ok, Err, refl, sym, ap, ◌∙◌, subst}
use Rattle.rc_handplan.proofs.Imports.{IsLineStart, content_from, content_of, past_end_of, rest_place, Spec, FailsLine, Refuses, refusal_at, hands_reading_to, after_line, read_hands, S8, ended, goes_on, none_left, runs_out}
use Rattle.rc_handplan.proofs.ReadingLemmas.{fails, ends_told, place_behind}
use Rattle.rc_handplan.proofs.reading.read_plans.Goals.{Then-ends_plans, Then-is_empty}
use Rattle.rc_handplan.proofs.reading.read_plans.Goals as goal

-- what is read where a line ends the plans
read_before : (c : Then-ends_plans) → hands_reading_to c.args.closing c.args.accepted.now (rest_place c.args.bytes.now c.args.rest)
    ≡ Ok (record { hands = c.loop-line.hands.items; others = content_from c.loop-line.lines })
read_before c =
    sym c.loop-line.invariant.gives
    ∙ ended c.args.closing c.args.accepted.now (past_end_of c.args.bytes.now) c.loop-line.hands.items (content_from c.loop-line.lines)
    (content_of c.in-Some.line) (content_from c.next_line.new.self) c.in-Some.ensures.line
    (ends_told c.args.closing c.loop-line.hands.items c.deref.result.now c.in-Some.line.bytes.now c.line_start-start.result
    c.ends_plans.result true c.deref.ensures.value c.line_start-start.ensures c.ends_plans.ensures c.if-ends_plans.true)

pub returns-then-ends_plans-clause-read : goal.returns-then-ends_plans-clause-read
returns-then-ends_plans-clause-read c = record {
  reading = record { hands = c.loop-line.hands.items; others = content_from c.loop-line.lines };
  gives_it = read_before (goal.at.returns-then-ends_plans-clause-read c).Then-ends_plans;
  hands_are = refl;
  version = c.loop-line.invariant.version;
  start = c.loop-line.invariant.start;
  others = c.loop-line.invariant.others;
}

pub returns-then-ends_plans-clause-hands : goal.returns-then-ends_plans-clause-hands
returns-then-ends_plans-clause-hands c =
    read_hands c.args.accepted.now c.args.closing (rest_place c.args.bytes.now c.args.rest)
    (record { hands = c.loop-line.hands.items; others = content_from c.loop-line.lines })
    (read_before (goal.at.returns-then-ends_plans-clause-hands c).Then-ends_plans)

pub returns-in-Err-clause-refused : goal.returns-in-Err-clause-refused
returns-in-Err-clause-refused c =
    let going = ends_told c.args.closing c.loop-line.hands.items c.deref.result.now c.in-Some.line.bytes.now c.line_start-start.result
    c.ends_plans.result false c.deref.ensures.value c.line_start-start.ensures c.ends_plans.ensures c.if-ends_plans.false in
    let failing = subst
    (λ (spec : Spec). FailsLine c.in-Err.fault (after_line spec c.loop-line.hands.items c.in-Some.line.bytes.now))
    c.spec.ensures.value c.in-Err.ensures in
    rw c.at.ensures
    (subst (Refuses (refusal_at c.in-Err.fault c.in-Some.line.number)) c.loop-line.invariant.gives
    (fails c.args.closing c.args.accepted.now (past_end_of c.args.bytes.now) c.loop-line.hands.items (content_from c.loop-line.lines)
    (content_of c.in-Some.line) (content_from c.next_line.new.self) c.in-Err.fault c.in-Some.ensures.line going failing))

pub loop-line-preserved : goal.loop-line-preserved
loop-line-preserved c =
    let behind = place_behind c.loop-line.lines c.next_line.new.self c.in-Some.line c.args.bytes.now c.in-Some.ensures.after
    c.loop-line.invariant.text in
    let going = ends_told c.args.closing c.loop-line.hands.items c.deref.result.now c.in-Some.line.bytes.now c.line_start-start.result
    c.ends_plans.result false c.deref.ensures.value c.line_start-start.ensures c.ends_plans.ensures c.if-ends_plans.false in
    let taken : after_line c.args.accepted.now c.loop-line.hands.items c.in-Some.line.bytes.now
    ≡ Ok c.take_line.new.hands.items =
    subst (λ (spec : Spec). after_line spec c.loop-line.hands.items c.in-Some.line.bytes.now ≡ Ok c.take_line.new.hands.items)
    c.spec.ensures.value c.in_default-take_line.ensures in
    record {
      gives = sym (goes_on c.args.closing c.args.accepted.now (past_end_of c.args.bytes.now) c.loop-line.hands.items
          (content_from c.loop-line.lines) (content_of c.in-Some.line) (content_from c.next_line.new.self)
          c.take_line.new.hands.items c.in-Some.ensures.line going taken) ∙ c.loop-line.invariant.gives;
      others = ap content_from (sym behind);
      start = subst IsLineStart behind c.in-Some.ensures.start;
      version = c.loop-line.invariant.version;
      text = c.in-Some.ensures.text ∙ c.loop-line.invariant.text;
    }

pub returns-then-is_empty-clause-read : goal.returns-then-is_empty-clause-read
returns-then-is_empty-clause-read c =
    let left = c.in_default.ensures.none in
    let none : eqb (length c.loop-line.hands.items) 0 ≡ true =
    ap (λ (n : ℕ). eqb n 0) (sym c.loop-line.hands.ok.0) ∙ sym c.is_empty.ensures ∙ c.if-is_empty.true in
    record {
      reading = record { hands = c.loop-line.hands.items; others = [] };
      gives_it = sym c.loop-line.invariant.gives
          ∙ none_left c.args.closing c.args.accepted.now (past_end_of c.args.bytes.now) c.loop-line.hands.items
          (content_from c.loop-line.lines) left none;
      hands_are = refl;
      version = c.loop-line.invariant.version;
      start = c.loop-line.invariant.start;
      others = c.loop-line.invariant.others ∙ left;
    }

pub returns-else-is_empty-clause-refused : goal.returns-else-is_empty-clause-refused
returns-else-is_empty-clause-refused c =
    let some : eqb (length c.loop-line.hands.items) 0 ≡ false =
    ap (λ (n : ℕ). eqb n 0) (sym c.loop-line.hands.ok.0) ∙ sym c.is_empty.ensures ∙ c.if-is_empty.false in
    let text = c.in_default.ensures.text ∙ c.loop-line.invariant.text in
    sym c.loop-line.invariant.gives
    ∙ runs_out c.args.closing c.args.accepted.now (past_end_of c.args.bytes.now) c.loop-line.hands.items
    (content_from c.loop-line.lines) c.in_default.ensures.none some
    ∙ ap (λ (line : ℕ). Err (record { rule = S8; line = line })) (sym (c.past_end.ensures ∙ ap past_end_of text))
