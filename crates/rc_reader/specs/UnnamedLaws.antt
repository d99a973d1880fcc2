-- An operation that a line gives without a name is over the specification's columns.
use Rattle.std.proofs.Common.{◌≡◌, ℕ, Bool, true, false, cond, List, [], Option, Some, None, Result, Ok, Err, refl, ap, ◌∙◌, subst}
use Rattle.rc_reader.specs.Imports.{Op, Spec}
use Rattle.rc_spec.specs.declared.items.OpKind.TheVariants as kinds
use Rattle.rc_reader.specs.declared.refusal.LineRule.{LineRule}
use Rattle.rc_reader.specs.declared.refusal.LineRule.TheVariants.{S3, S4}
use Rattle.rc_reader.specs.declared.unnamed.FoundOperation.{FoundOperation}
use Rattle.rc_reader.specs.declared.version.Version.{Version}
use Rattle.rc_reader.specs.Forms.{FormText, operation_behind, plain_words_of}
use Rattle.rc_reader.specs.Forms.{header_line, column_line, dependency_line, node_line, edge_line, lock_line, place_line, query_line, insert_line, remove_line, update_line, end_line}
use Rattle.rc_reader.specs.InRangeLaws.{columns_below}
use Rattle.rc_reader.specs.Unnamed.{IsOverColumns, found_change, found_operation, found_query, operation_by, operation_of_form, operation_of_words, unnamed_operation}
use Rattle.rc_reader.specs.WellNamedLaws.{pattern_distinct, together_distinct}

module _ (spec : Spec) where
  -- where no list names a column twice
  abbrev IsOverUnlessTwice : FoundOperation → Type 0
  IsOverUnlessTwice found = found.names_twice ≡ false → IsOverColumns spec found.op

  query_over : (pattern ranges outs : List (List ℕ)) → IsOverUnlessTwice (found_query spec pattern ranges outs)
  query_over pattern ranges outs once = record {
    among = record { pattern = columns_below spec pattern; outs = columns_below spec outs; ranges = columns_below spec ranges };
    distinct = together_distinct spec pattern ranges once;
  }

  insert_over : (pattern : List (List ℕ)) → IsOverUnlessTwice (found_change spec pattern kinds.Insert)
  insert_over pattern once = record {
    among = record { pattern = columns_below spec pattern; outs = tt; ranges = λ c none. absurd none };
    distinct = pattern_distinct spec pattern once;
  }

  remove_over : (pattern : List (List ℕ)) → IsOverUnlessTwice (found_change spec pattern kinds.Remove)
  remove_over pattern once = record {
    among = record { pattern = columns_below spec pattern; outs = tt; ranges = λ c none. absurd none };
    distinct = pattern_distinct spec pattern once;
  }

  update_over : (pattern : List (List ℕ)) → IsOverUnlessTwice (found_change spec pattern kinds.Update)
  update_over pattern once = record {
    among = record { pattern = columns_below spec pattern; outs = tt; ranges = λ c none. absurd none };
    distinct = pattern_distinct spec pattern once;
  }

  same_op : (op other : Op) (rule : LineRule) → (let given : Result Op LineRule = Ok op in given ≡ Ok other) → op ≡ other
  same_op op other rule e = cc

  tested : (twice unknown : Bool) (op other : Op) → cond twice (Err S3) (cond unknown (Err S4) (Ok op)) ≡ Ok other → (twice ≡ false) × (op ≡ other)
  tested true unknown op other e = absurd cc
  tested false true op other e = absurd cc
  tested false false op other e = (refl, same_op op other S3 e)

  found_over : (found : FoundOperation) (op : Op) → IsOverUnlessTwice found → operation_by (Some found) ≡ Ok op → IsOverColumns spec op
  found_over found op over e =
      let passed = tested found.names_twice found.has_unknown found.op op e in
      subst (IsOverColumns spec) passed.1 (over passed.0)

  form_over : (form : FormText) (op : Op) → operation_by (found_operation spec form) ≡ Ok op → IsOverColumns spec op
  form_over (query_line name pattern ranges outs) op e = found_over (found_query spec pattern ranges outs) op (query_over pattern ranges outs) e
  form_over (insert_line name pattern) op e = found_over (found_change spec pattern kinds.Insert) op (insert_over pattern) e
  form_over (remove_line name pattern) op e = found_over (found_change spec pattern kinds.Remove) op (remove_over pattern) e
  form_over (update_line name pattern) op e = found_over (found_change spec pattern kinds.Update) op (update_over pattern) e
  form_over header_line op e = absurd cc
  form_over (column_line name kind) op e = absurd cc
  form_over (dependency_line left right) op e = absurd cc
  form_over (node_line name columns) op e = absurd cc
  form_over (edge_line name from to kind key) op e = absurd cc
  form_over (lock_line name number columns) op e = absurd cc
  form_over (place_line edge class) op e = absurd cc
  form_over end_line op e = absurd cc

  -- so it is of a form whose words are looked up
  pub looked_up_over : (form : FormText) (found : FoundOperation) → found_operation spec form ≡ Some found → found.names_twice ≡ false
      → found.has_unknown ≡ false → IsOverColumns spec found.op
  looked_up_over form found is once known = form_over form found.op (ap operation_by is ∙ rw (once, known) refl)

  formed_over : (found : Option FormText) (op : Op) → operation_of_form spec found ≡ Ok op → IsOverColumns spec op
  formed_over None op e = absurd cc
  formed_over (Some form) op e = form_over form op e

  words_over : (version : Version) (found : Option (List (List ℕ))) (op : Op) → operation_of_words version spec found ≡ Ok op → IsOverColumns spec op
  words_over version None op e = absurd cc
  words_over version (Some words) op e = formed_over (operation_behind version [] words) op e

  pub unnamed_over : (version : Version) (bytes : List ℕ) (op : Op) → unnamed_operation version spec bytes ≡ Ok op → IsOverColumns spec op
  unfolding unnamed_operation
  unnamed_over version bytes op e = words_over version (plain_words_of bytes) op e
