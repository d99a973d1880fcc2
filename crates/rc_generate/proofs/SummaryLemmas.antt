-- Counting the replies of steps, one after another.
use Rattle.std.proofs.Common.{◌≡◌, ℕ, ◌+◌, ◌<◌, ◌^◌, List, ◌++◌, length, drop, get_or, sym, ap, ◌∙◌, subst, arith}
use Rattle.std.proofs.lemmas.List.Sums.{sum_by-append}
use Rattle.rc_tuple.specs.Tuple.{Pairs}
use Rattle.rc_spec.specs.declared.call.Reply.{Reply}
use Rattle.rc_rel.specs.declared.entry.Step.{Step}
use Rattle.rc_rel.specs.declared.entry.Entry.{Entry}
use Rattle.rc_rel.specs.History.{steps_of}
use Rattle.rc_rel.specs.HistoryLaws.{steps_of-drop}
use Rattle.rc_generate.specs.declared.summary.Summary.{Summary}
use Rattle.rc_generate.specs.SummaryLaws.{kinds_of_steps, calls_of_steps, many_of_steps}
use Rattle.rc_generate.specs.Summary.{one_call, one_inserted, one_present, one_conflict, one_removed, one_absent, one_query, rows_in, one_many, counted, summary_of, summary, plus_steps, IsSmall}

counted-append : (count : Reply → ℕ) (a : ℕ) (xs ys : List Step) → a + counted count xs + counted count ys ≡ a + counted count (xs ++ ys)
counted-append count a xs ys = omega (arith, sum_by-append (λ (s : Step). count s.reply) xs ys)

below : (count : Reply → ℕ) (a : ℕ) (xs ys : List Step) → a + counted count (xs ++ ys) < 2 ^ 64 → a + counted count xs < 2 ^ 64
below count a xs ys h = let e = counted-append count a xs ys in omega (arith, h, e)

-- what fits with more steps fits without them
pub small_first : (s : Summary) (xs ys : List Step) → IsSmall (plus_steps s (xs ++ ys)) → IsSmall (plus_steps s xs)
small_first s xs ys h = record {
  calls = below one_call s.calls xs ys h.calls;
  inserted = below one_inserted s.inserted xs ys h.inserted;
  present = below one_present s.present xs ys h.present;
  conflict = below one_conflict s.conflict xs ys h.conflict;
  removed = below one_removed s.removed xs ys h.removed;
  absent = below one_absent s.absent xs ys h.absent;
  queries = below one_query s.queries xs ys h.queries;
  rows = below rows_in s.rows xs ys h.rows;
  many = below one_many s.many xs ys h.many;
}

-- so few steps, with so few rows in their replies, have small counts
summary_small : (steps : List Step) (tuples : List Pairs) → length steps < 2 ^ 64 → counted rows_in steps < 2 ^ 64 → IsSmall (summary_of steps tuples)
summary_small steps tuples short rows =
    let kinds = kinds_of_steps steps in
    let calls = calls_of_steps steps in
    let many = many_of_steps steps in
    record {
      calls = omega (arith, short, calls);
      inserted = omega (arith, short, kinds);
      present = omega (arith, short, kinds);
      conflict = omega (arith, short, kinds);
      removed = omega (arith, short, kinds);
      absent = omega (arith, short, kinds);
      queries = omega (arith, short, kinds);
      rows = rows;
      many = omega (arith, short, kinds, many);
    }

-- the steps of the next entry can be counted, where those of the entries from it on make the summary whole
pub next_small : (s : Summary) (history : List Entry) (i : ℕ) (d : Entry) (tuples : List Pairs) → i < length history → length (steps_of history) < 2 ^ 64
    → counted rows_in (steps_of history) < 2 ^ 64 → plus_steps s (steps_of (drop i history)) ≡ summary history tuples → IsSmall (plus_steps s (get_or history i d).steps)
next_small s history i d tuples h short rows e =
    small_first s (get_or history i d).steps (steps_of (drop (i + 1) history))
    (subst IsSmall (sym e ∙ ap (plus_steps s) (steps_of-drop history i d h)) (summary_small (steps_of history) tuples short rows))
