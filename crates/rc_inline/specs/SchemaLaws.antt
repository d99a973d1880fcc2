-- A call does the same by two specifications of one schema.
use Rattle.std.proofs.Common.{◌≡◌, ◌↔◌, ℕ, List, length, ap, ◌∙◌, refl, sym}
use Rattle.rc_inline.specs.Imports.{range_with_len, slice_get, nat_cmp, gather, Pairs, Call, OpKind, Query, Insert, Remove, Update, Spec, Fits, value_columns, plain, plain_at}
use Rattle.rc_inline.specs.Inlining.{HasItsSchema}

pub schema_sym : (spec other : Spec) → HasItsSchema spec other → HasItsSchema other spec
schema_sym spec other same = record { columns = sym same.columns; deps = sym same.deps; classes = sym same.classes; ops = sym same.ops; most_rows = sym same.most_rows }

module _ (spec other : Spec) (same : HasItsSchema spec other) where
  -- a call's plain step is the same
  pub plain_same : (r : List Pairs) (call : Call) → plain other r call ≡ plain spec r call
  plain_same r call = λ i. plain_at (same.most_rows i) (slice_get (same.ops i) call.op) (same.deps i) call.args call.ranges r

  pub value_columns_same : (pattern : List ℕ) (kind : OpKind) → value_columns other pattern kind ≡ value_columns spec pattern kind
  value_columns_same pattern (Query outs ranges) = refl
  value_columns_same pattern Insert = λ i. range_with_len 0 (length (same.columns i))
  value_columns_same pattern Remove = refl
  value_columns_same pattern Update = λ i. range_with_len 0 (length (same.columns i))

  -- and a call that fits the other fits this
  pub fits_same : (call : Call) → Fits other call → Fits spec call
  fits_same call (op, fits) = (
    op,
    record {
      known = ap (λ ops. slice_get ops call.op) (sym same.ops) ∙ fits.known;
      tuple = fits.tuple;
      columns = fits.columns ∙ ap (gather nat_cmp) (value_columns_same op.pattern op.kind);
      ranges = fits.ranges;
      bounds = fits.bounds;
    },
  )

-- A call does the same by two specifications of one schema, on each relation: it has one reply, and leaves one relation.
abbrev pub CallsOfOneSchema : Type 0
CallsOfOneSchema = (spec other : Spec) → HasItsSchema spec other → (r : List Pairs) (call : Call) → plain other r call ≡ plain spec r call

-- and it fits the one exactly where it fits the other
abbrev pub FittingOfOneSchema : Type 0
FittingOfOneSchema = (spec other : Spec) → HasItsSchema spec other → (call : Call) → Fits other call ↔ Fits spec call

pub fitting_of_one_schema : FittingOfOneSchema
fitting_of_one_schema spec other same call = (fits_same spec other same call, fits_same other spec (schema_sym spec other same) call)
