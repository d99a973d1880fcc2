-- Laws of calls that fit.
use Rattle.std.proofs.Common.{◌≡◌, ℕ, List, refl, sym, ap, subst, ◌∙◌, length}
use Rattle.rc_spec.specs.Imports.{nat_cmp, gather, nat_order, gather-rising, rising_range, Pairs, cols_of, IsOver, IsRelation}
use Rattle.rc_spec.specs.declared.items.Op.{Op}
use Rattle.rc_spec.specs.declared.items.OpKind.{OpKind}
use Rattle.rc_spec.specs.declared.items.OpKind.TheVariants.{Query, Insert, Remove, Update}
use Rattle.rc_spec.specs.declared.call.Call.{Call}
use Rattle.rc_spec.specs.declared.spec.Spec.{Spec}
use Rattle.rc_spec.specs.Calls.{all_columns, value_columns, GivesTuple, FitsAt, Fits}
use Rattle.rc_spec.specs.Plain.{Outcome, plain}
use Rattle.rc_spec.specs.PlainLaws.{rising_after, each_after, plain-known}
use Rattle.rc_spec.specs.Placement.{no_op, op_at}
use Rattle.std.proofs.lemmas.Option.{get_or_from_slice_get}

given_tuple : (spec : Spec) (pattern : List ℕ) (kind : OpKind) → GivesTuple kind → value_columns spec pattern kind ≡ all_columns spec
given_tuple spec pattern (Query outs ranges) g = absurd g
given_tuple spec pattern Insert g = refl
given_tuple spec pattern Remove g = absurd g
given_tuple spec pattern Update g = refl

-- the arguments of an insert and of an update are over all columns
pub tuple_columns : (spec : Spec) (call : Call) (op : Op) → FitsAt spec call op → GivesTuple op.kind → cols_of call.args ≡ all_columns spec
tuple_columns spec call op fits g =
    fits.columns ∙ ap (gather nat_cmp) (given_tuple spec op.pattern op.kind g)
    ∙ gather-rising nat_cmp nat_order (all_columns spec) (rising_range 0 (length spec.columns))

-- a call that fits, fits the operation with its number
pub fits_at_op : (spec : Spec) (call : Call) → Fits spec call → FitsAt spec call (op_at spec call.op)
fits_at_op spec call fits = subst (FitsAt spec call) (sym (get_or_from_slice_get spec.ops call.op fits.0 no_op fits.1.known)) fits.1

-- a call that fits leaves a relation over all columns
pub plain_keeps_relation : (spec : Spec) (r : List Pairs) (call : Call) → Fits spec call → IsRelation (all_columns spec) r → IsRelation (all_columns spec) (plain spec r call).relation
plain_keeps_relation spec r call fits h =
    let op : Op = fits.0 in
    let at : FitsAt spec call op = fits.1 in
    subst (λ (o : Outcome). IsRelation (all_columns spec) o.relation) (sym (plain-known spec r call op at.known)) (record {
      rising = rising_after spec.most_rows op.kind op.pattern spec.deps call.args call.ranges r h.rising;
      each = each_after (IsOver (all_columns spec)) spec.most_rows op.kind op.pattern spec.deps call.args call.ranges r
          (λ g. record { over = tuple_columns spec call op at g; fits = at.tuple.values })
          h.each;
    })
