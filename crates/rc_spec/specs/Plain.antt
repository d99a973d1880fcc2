-- What a call does to a relation, and what it answers, by filters over the list of tuples.
use Rattle.std.specs.Prelude.{ℕ, ◌+◌, nat_le, not, List, [], ◌∷◌, length, map, filter, Option, Some, None, if◌then◌else◌}
use Rattle.rc_spec.specs.Imports.{Ordering, nat_cmp, slice_cmp, list_any, slice_get, put, gather, Pairs, agree_on, matches, pick, tuple_cmp, tuple_eq, breaks, Dep}
use Rattle.rc_spec.specs.declared.items.Op.{Op}
use Rattle.rc_spec.specs.declared.items.OpKind.{OpKind}
use Rattle.rc_spec.specs.declared.items.OpKind.TheVariants.{Query, Insert, Remove, Update}
use Rattle.rc_spec.specs.declared.call.Call.{Call}
use Rattle.rc_spec.specs.declared.call.Reply.{Reply}
use Rattle.rc_spec.specs.declared.call.Reply.TheVariants.{Rows, Many, Inserted, Present, Conflict, Removed, Updated, Absent}
use Rattle.rc_spec.specs.declared.range.Range.{Range}
use Rattle.rc_spec.specs.declared.spec.Spec.{Spec}
use Rattle.rc_spec.specs.Ranges.{is_asked}

-- a reply, and the relation after it
pub record Outcome : Type 0 where
  pub reply : Reply
  pub relation : List Pairs

-- rows are ordered by their values, in the order of the outputs
abbrev pub row_cmp : List ℕ → List ℕ → Ordering
row_cmp v w = slice_cmp nat_cmp v w

-- the distinct rows of the outputs, rising
abbrev pub rows_of : List ℕ → List Pairs → List (List ℕ)
rows_of outs tuples = gather row_cmp (map (pick outs) tuples)

-- the rows where there are so many at most, else their number
abbrev pub at_most : ℕ → List (List ℕ) → Reply
at_most most rows = if nat_le (length rows) most then Rows rows else Many (length rows)

-- the number of the first dependency that the relation breaks, where the first has the number n
abbrev pub first_broken_dependency : ℕ → List Dep → List Pairs → Option ℕ
first_broken_dependency n [] r = None
first_broken_dependency n (d ∷ deps) r = if breaks r d then Some n else first_broken_dependency (n + 1) deps r

abbrev pub inserted_unless : Option ℕ → List Pairs → List Pairs → Outcome
inserted_unless None with_tuple r = record { reply = Inserted; relation = with_tuple }
inserted_unless (Some n) with_tuple r = record { reply = Conflict n; relation = r }

-- without a tuple
abbrev pub without : Pairs → List Pairs → List Pairs
without t r = filter (λ u. not (tuple_eq u t)) r

-- the first of the matching tuples goes
abbrev pub removed_first : List Pairs → List Pairs → Outcome
removed_first [] r = record { reply = Absent; relation = r }
removed_first (t ∷ ts) r = record { reply = Removed t; relation = without t r }

abbrev pub updated_unless : Option ℕ → Pairs → List Pairs → List Pairs → Outcome
updated_unless None old with_tuple r = record { reply = Updated old; relation = with_tuple }
updated_unless (Some n) old with_tuple r = record { reply = Conflict n; relation = r }

-- the tuple comes in the place of the first of those that agree with it on the pattern
abbrev pub updated_first : List Pairs → List Dep → Pairs → List Pairs → Outcome
updated_first [] deps t r = record { reply = Absent; relation = r }
updated_first (old ∷ others) deps t r =
    updated_unless (first_broken_dependency 1 deps (put tuple_cmp t (without old r))) old (put tuple_cmp t (without old r)) r

abbrev pub plain_by : ℕ → OpKind → List ℕ → List Dep → Pairs → List Range → List Pairs → Outcome
plain_by most (Query outs cols) pattern deps args ranges r = record { reply = at_most most (rows_of outs (filter (is_asked args ranges) r)); relation = r }
plain_by most Insert pattern deps args ranges r =
    if list_any (agree_on pattern args) r
    then record { reply = Present; relation = r }
    else inserted_unless (first_broken_dependency 1 deps (put tuple_cmp args r)) (put tuple_cmp args r) r
plain_by most Remove pattern deps args ranges r = removed_first (filter (matches args) r) r
plain_by most Update pattern deps args ranges r = updated_first (filter (agree_on pattern args) r) deps args r

-- a call of no operation answers Absent; no call that fits is one
abbrev pub plain_at : ℕ → Option Op → List Dep → Pairs → List Range → List Pairs → Outcome
plain_at most (Some op) deps args ranges r = plain_by most op.kind op.pattern deps args ranges r
plain_at most None deps args ranges r = record { reply = Absent; relation = r }

-- the plain step: the reply of a call on a relation, and the relation after it
abbrev pub plain : Spec → List Pairs → Call → Outcome
plain spec r call = plain_at spec.most_rows (slice_get spec.ops call.op) spec.deps call.args call.ranges r
