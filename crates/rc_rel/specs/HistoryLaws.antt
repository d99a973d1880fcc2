-- Laws of histories.
use Rattle.std.proofs.Common.{◌≡◌, ℕ, ◌+◌, ◌<◌, List, [], ◌∷◌, ◌++◌, length, map, drop, get_or, refl, sym, ap, ◌∙◌, inl, inr, subst, arith}
use Rattle.rc_rel.specs.Imports.{AllByRecursion, In, Pairs, Satisfies, IsRelation, satisfies_none, Spec, Call, Reply, all_columns, Fits, plain_keeps_relation, plain, plain_satisfies}
use Rattle.std.proofs.lemmas.List.{drop_more, append_assoc}
use Rattle.rc_rel.specs.declared.entry.Step.{Step}
use Rattle.rc_rel.specs.declared.entry.Entry.{Entry}
use Rattle.rc_rel.specs.History.{steps_of, AreLegalFrom, after_steps, replay, states_from, states, StepsFit, AllFit, with_replies}

pub after_steps-append : (spec : Spec) (r : List Pairs) (xs ys : List Step) → after_steps spec r (xs ++ ys) ≡ after_steps spec (after_steps spec r xs) ys
after_steps-append spec r [] ys = refl
after_steps-append spec r (x ∷ xs) ys = after_steps-append spec (plain spec r x.call).relation xs ys

pub AreLegalFrom-append : (spec : Spec) (r : List Pairs) (xs ys : List Step) → AreLegalFrom spec r xs → AreLegalFrom spec (after_steps spec r xs) ys → AreLegalFrom spec r (xs ++ ys)
AreLegalFrom-append spec r [] ys h k = k
AreLegalFrom-append spec r (x ∷ xs) ys h k = (h.0, AreLegalFrom-append spec (plain spec r x.call).relation xs ys h.1 k)

-- steps are their calls with their replies
pub with_replies-parts : (steps : List Step) → with_replies (map (λ (s : Step). s.call) steps) (map (λ (s : Step). s.reply) steps) ≡ steps
with_replies-parts [] = refl
with_replies-parts (s ∷ steps) = λ i. s ∷ with_replies-parts steps i

pub calls-with_replies : (calls : List Call) (replies : List Reply) → length replies ≡ length calls → map (λ (s : Step). s.call) (with_replies calls replies) ≡ calls
calls-with_replies [] replies e = refl
calls-with_replies (call ∷ calls) [] e = absurd (omega (arith, e))
calls-with_replies (call ∷ calls) (reply ∷ replies) e = ap (λ (l : List Call). call ∷ l) (calls-with_replies calls replies (omega (arith, e)))

pub steps_of-append : (xs ys : List Entry) → steps_of (xs ++ ys) ≡ steps_of xs ++ steps_of ys
steps_of-append [] ys = refl
steps_of-append (x ∷ xs) ys = ap (λ l. x.steps ++ l) (steps_of-append xs ys) ∙ sym (append_assoc x.steps (steps_of xs) (steps_of ys))

-- the steps from an entry on are its own, and then those of the entries after it
pub steps_of-drop : (entries : List Entry) (i : ℕ) (d : Entry) → i < length entries → steps_of (drop i entries) ≡ (get_or entries i d).steps ++ steps_of (drop (i + 1) entries)
steps_of-drop entries i d h = ap steps_of (drop_more entries i d h)

pub after_entry : (spec : Spec) (r : List Pairs) (entries : List Entry) (i : ℕ) (d : Entry) → i < length entries
    → after_steps spec r (steps_of (drop i entries)) ≡ after_steps spec (after_steps spec r (get_or entries i d).steps) (steps_of (drop (i + 1) entries))
after_entry spec r entries i d h =
    ap (after_steps spec r) (steps_of-drop entries i d h) ∙ after_steps-append spec r (get_or entries i d).steps (steps_of (drop (i + 1) entries))

-- every state satisfies the dependencies
states_from_satisfy : (spec : Spec) (r : List Pairs) (steps : List Step) → Satisfies r spec.deps → (s : List Pairs) → In s (states_from spec r steps) → Satisfies s spec.deps
states_from_satisfy spec r [] h s (inl e) = subst (λ (x : List Pairs). Satisfies x spec.deps) (sym e) h
states_from_satisfy spec r [] h s (inr m) = absurd m
states_from_satisfy spec r (x ∷ steps) h s (inl e) = subst (λ (x : List Pairs). Satisfies x spec.deps) (sym e) h
states_from_satisfy spec r (x ∷ steps) h s (inr m) = states_from_satisfy spec (plain spec r x.call).relation steps (plain_satisfies spec r x.call h) s m

abbrev pub StatesSatisfy : Type 0
StatesSatisfy = (spec : Spec) (history : List Entry) (s : List Pairs) → In s (states spec history) → Satisfies s spec.deps

pub states_satisfy : StatesSatisfy
states_satisfy spec history s m = states_from_satisfy spec [] (steps_of history) (satisfies_none spec.deps) s m

-- ---- calls that fit

each-append : {A : Type 0} (P : A → Type 0) (xs ys : List A) → AllByRecursion P xs → AllByRecursion P ys → AllByRecursion P (xs ++ ys)
each-append P [] ys h k = k
each-append P (x ∷ xs) ys h k = (h.0, each-append P xs ys h.1 k)

pub StepsFit-steps_of : (spec : Spec) (history : List Entry) → AllFit spec history → StepsFit spec (steps_of history)
StepsFit-steps_of spec [] h = tt
StepsFit-steps_of spec (x ∷ history) h = each-append (λ (s : Step). Fits spec s.call) x.steps (steps_of history) h.0 (StepsFit-steps_of spec history h.1)

-- one more entry whose calls fit
pub AllFit-more : (spec : Spec) (history : List Entry) (entry : Entry) → AllFit spec history → StepsFit spec entry.steps → AllFit spec (history ++ entry ∷ [])
AllFit-more spec history entry h k = each-append (λ (e : Entry). StepsFit spec e.steps) history (entry ∷ []) h (k, tt)

none_is_relation : (columns : List ℕ) → IsRelation columns []
none_is_relation columns = record { rising = tt; each = λ t m. absurd m }

-- every state of a history whose calls fit is a relation over all columns
states_from_are_relations : (spec : Spec) (r : List Pairs) (steps : List Step) → StepsFit spec steps → IsRelation (all_columns spec) r
    → (s : List Pairs) → In s (states_from spec r steps) → IsRelation (all_columns spec) s
states_from_are_relations spec r [] f h s (inl e) = subst (λ (x : List Pairs). IsRelation (all_columns spec) x) (sym e) h
states_from_are_relations spec r [] f h s (inr m) = absurd m
states_from_are_relations spec r (x ∷ steps) f h s (inl e) = subst (λ (y : List Pairs). IsRelation (all_columns spec) y) (sym e) h
states_from_are_relations spec r (x ∷ steps) f h s (inr m) =
    states_from_are_relations spec (plain spec r x.call).relation steps f.1 (plain_keeps_relation spec r x.call f.0 h) s m

abbrev pub StatesAreRelations : Type 0
StatesAreRelations = (spec : Spec) (history : List Entry) → AllFit spec history → (s : List Pairs) → In s (states spec history) → IsRelation (all_columns spec) s

pub states_are_relations : StatesAreRelations
states_are_relations spec history f s m =
    states_from_are_relations spec [] (steps_of history) (StepsFit-steps_of spec history f) (none_is_relation (all_columns spec)) s m

-- the relation after the last call is one of the states
in_states_from : (spec : Spec) (r : List Pairs) (steps : List Step) → In (after_steps spec r steps) (states_from spec r steps)
in_states_from spec r [] = inl refl
in_states_from spec r (x ∷ steps) = inr (in_states_from spec (plain spec r x.call).relation steps)

pub replay_in_states : (spec : Spec) (history : List Entry) → In (replay spec history) (states spec history)
replay_in_states spec history = in_states_from spec [] (steps_of history)
