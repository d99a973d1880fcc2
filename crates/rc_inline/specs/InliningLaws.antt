-- Inlining keeps what it need not change, and ends where nothing can be inlined.
use Rattle.std.proofs.Common.{◌≡◌, ◌↔◌, ◌∙◌, ℕ, zero, suc, ◌+◌, List, Option, None, Some, ap, length, refl, sym, arith}
use Rattle.rc_inline.specs.Imports.{remove, option_map_or, Pairs, Call, Spec, Fits, edge_at, no_edge, IsWellNamed, plain}
use Rattle.std.proofs.lemmas.List.{length-map}
use Rattle.std.proofs.lemmas.List.Edits.{length-remove}
use Rattle.std.proofs.lemmas.List.Quantifiers.{position-Some}
use Rattle.rc_inline.specs.Contraction.{contracted, first_inlinable, is_inlinable, rejoined}
use Rattle.rc_inline.specs.Inlining.{HasItsSchema, inlined, inlined_in}
use Rattle.rc_inline.specs.NamesLaws.{contracted_named}
use Rattle.rc_inline.specs.SchemaLaws.{fitting_of_one_schema, plain_same}

-- a contraction takes an edge
pub contracted_shorter : (spec : Spec) (f : ℕ) → first_inlinable spec ≡ Some f → length (contracted spec f).edges + 1 ≡ length spec.edges
contracted_shorter spec f found =
    let within = (position-Some (is_inlinable spec) spec.edges f no_edge found).0 in
    let same = length-map (remove spec.edges f) (rejoined (edge_at spec f)) in
    let fewer = length-remove spec.edges f within in
    omega (arith, same, fewer)

-- the columns, the dependencies, the operations and the lock classes stay
schema_in : (n : ℕ) (spec : Spec) → HasItsSchema spec (inlined_in n spec)
schema_in zero spec = record { columns = refl; deps = refl; classes = refl; ops = refl; most_rows = refl }
schema_in (suc n) spec = go (first_inlinable spec) (λ f. schema_in n (contracted spec f))
  where
    go : (found : Option ℕ) → ((f : ℕ) → HasItsSchema (contracted spec f) (inlined_in n (contracted spec f)))
        → HasItsSchema spec (option_map_or (λ f. inlined_in n (contracted spec f)) found spec)
    go None rest = record { columns = refl; deps = refl; classes = refl; ops = refl; most_rows = refl }
    go (Some f) rest = let same = rest f in record { columns = same.columns; deps = same.deps; classes = same.classes; ops = same.ops; most_rows = same.most_rows }

abbrev pub InliningKeepsSchemas : Type 0
InliningKeepsSchemas = (spec : Spec) → HasItsSchema spec (inlined spec)

pub inlined_schema : InliningKeepsSchemas
unfolding inlined
inlined_schema spec = schema_in (length spec.edges) spec

-- names stay apart
named_in : (n : ℕ) (spec : Spec) → IsWellNamed spec → IsWellNamed (inlined_in n spec)
named_in zero spec named = named
named_in (suc n) spec named = go (first_inlinable spec) (λ f. named_in n (contracted spec f) (contracted_named spec f named))
  where
    go : (found : Option ℕ) → ((f : ℕ) → IsWellNamed (inlined_in n (contracted spec f)))
        → IsWellNamed (option_map_or (λ f. inlined_in n (contracted spec f)) found spec)
    go None rest = named
    go (Some f) rest = rest f

abbrev pub InliningKeepsNames : Type 0
InliningKeepsNames = (spec : Spec) → IsWellNamed spec → IsWellNamed (inlined spec)

pub inlined_named : InliningKeepsNames
unfolding inlined
inlined_named spec named = named_in (length spec.edges) spec named

-- ---- one contraction more

pub inlined_more : (spec : Spec) (f : ℕ) → first_inlinable spec ≡ Some f → inlined (contracted spec f) ≡ inlined spec
unfolding inlined
inlined_more spec f found =
    let shorter = contracted_shorter spec f found in
    go (length spec.edges) refl (omega (arith, shorter))
  where
    go : (n : ℕ) → length spec.edges ≡ n → length (contracted spec f).edges + 1 ≡ n → inlined_in (length (contracted spec f).edges) (contracted spec f) ≡ inlined_in n spec
    go zero is more = absurd (omega (arith, more))
    go (suc n) is more =
        let same : length (contracted spec f).edges ≡ n = omega (arith, more) in
        ap (λ m. inlined_in m (contracted spec f)) same
        ∙ sym (ap (λ found. option_map_or (λ f. inlined_in n (contracted spec f)) found spec) found)

pub inlined_rest : (spec : Spec) → first_inlinable spec ≡ None → inlined spec ≡ spec
unfolding inlined
inlined_rest spec none = go (length spec.edges)
  where
    go : (n : ℕ) → inlined_in n spec ≡ spec
    go zero = refl
    go (suc n) = ap (λ found. option_map_or (λ f. inlined_in n (contracted spec f)) found spec) none

-- ---- what it keeps of calls

-- a call has the same reply, and leaves the same relation
abbrev pub InliningKeepsCalls : Type 0
InliningKeepsCalls = (spec : Spec) (r : List Pairs) (call : Call) → plain (inlined spec) r call ≡ plain spec r call

pub inlined_plain : InliningKeepsCalls
inlined_plain spec r call = plain_same spec (inlined spec) (inlined_schema spec) r call

-- and it fits exactly where it fitted
abbrev pub InliningKeepsFitting : Type 0
InliningKeepsFitting = (spec : Spec) (call : Call) → Fits (inlined spec) call ↔ Fits spec call

pub inlined_fits : InliningKeepsFitting
inlined_fits spec call = fitting_of_one_schema spec (inlined spec) (inlined_schema spec) call
