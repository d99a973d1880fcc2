-- Where groups are not read, no group is unfilled, and each turn has one call.
use Rattle.std.proofs.Common.{◌≡◌, ℕ, Bool, true, false, cond, List, [], ◌∷◌, length, codes, Option, Some, None, Ok, refl, ap, subst}
use Rattle.rc_work.specs.Imports.{is_some, list_all, bytes_eq, ContentLine, WordText, plain_text, quoted_text, is_number, Spec}
use Rattle.rc_work.specs.declared.also.Also.{Also}
use Rattle.rc_work.specs.declared.also.Also.TheVariants.{Nothing, Groups}
use Rattle.rc_work.specs.declared.raw.RawCall.{RawCall}
use Rattle.rc_work.specs.declared.raw.RawTurn.{RawTurn}
use Rattle.rc_work.specs.declared.draft.UnfilledGroup.{UnfilledGroup}
use Rattle.rc_work.specs.declared.draft.Draft.{Draft}
use Rattle.rc_work.specs.RawTurnsLaws.{each_push, each_onto_last}
use Rattle.rc_work.specs.UnfilledGroups.{is_others, with_call_by}
use Rattle.rc_work.specs.LineForms.{FormText, round_line, end_line, call_line, group_line, words_read, alone, is_value, call_form, form_by, form_of}
use Rattle.rc_work.specs.LineRules.{thread_in, breaks_group, raw_call, with_line}
use Rattle.rc_work.specs.LineRulesLaws.{taken}
use Rattle.rc_work.specs.WorkGrammar.{after_form_of, after_words, after_bytes, draft_of, reading_all}
use Rattle.rc_work.specs.Drafts.{HasNoGroup, IsOfAlso}
use Rattle.rc_work.specs.DraftsLaws.{kept_by_all}

-- ---- the form of a line

-- no form, or one that is no group's
abbrev pub IsNoGroup : Option FormText → Type 0
IsNoGroup None = Unit {0}
IsNoGroup (Some round_line) = Unit {0}
IsNoGroup (Some end_line) = Unit {0}
IsNoGroup (Some (call_line thread op values)) = Unit {0}
IsNoGroup (Some (group_line thread size)) = ⊥

no_group_either : (b : Bool) (x y : Option FormText) → IsNoGroup x → IsNoGroup y → IsNoGroup (cond b x y)
no_group_either true x y hx hy = hx
no_group_either false x y hx hy = hy

no_group_alone : (form : FormText) (words : List WordText) → IsNoGroup (Some form) → IsNoGroup (alone form words)
no_group_alone form [] h = h
no_group_alone form (word ∷ words) h = tt

no_group_call : (thread : List ℕ) (words : List WordText) → IsNoGroup (call_form thread words)
no_group_call thread [] = tt
no_group_call thread (plain_text op ∷ values) = no_group_either (list_all is_value values) (Some (call_line thread op values)) None tt tt
no_group_call thread (quoted_text text ∷ values) = tt

no_group_by : (first : List ℕ) (words : List WordText) → IsNoGroup (form_by Nothing first words)
no_group_by first words =
    no_group_either (bytes_eq first (codes "round")) (alone round_line words) _ (no_group_alone round_line words tt)
    (no_group_either (bytes_eq first (codes "end")) (alone end_line words) _ (no_group_alone end_line words tt)
    (no_group_either (is_number first) (call_form first words) None (no_group_call first words) tt))

pub no_group_of : (words : List WordText) → IsNoGroup (form_of Nothing words)
unfolding form_of
no_group_of [] = tt
no_group_of (plain_text first ∷ words) = no_group_by first words
no_group_of (quoted_text text ∷ words) = tt

-- ---- what a line keeps

pub keeps_call : (draft : Draft) (found : Option UnfilledGroup) (thread : ℕ) (call : RawCall) → found ≡ None → HasNoGroup draft
    → HasNoGroup (with_call_by found draft thread call)
keeps_call draft None thread call e is = record {
  none = refl;
  single = each_onto_last (λ (t : RawTurn). length t.calls ≡ 1) draft.rounds _ is.single refl;
}
keeps_call draft (Some group) thread call e is = absurd cc

keeps_line : (spec : Spec) (draft : Draft) (form : FormText) → IsNoGroup (Some form) → HasNoGroup draft → HasNoGroup (with_line spec draft form)
keeps_line spec draft round_line plain is = record {
  none = is.none;
  single = each_push _ draft.rounds [] is.single tt;
}
keeps_line spec draft end_line plain is = record { none = is.none; single = is.single }
keeps_line spec draft (call_line thread op values) plain is =
    keeps_call draft draft.group (thread_in draft thread) (raw_call spec op values) is.none is
keeps_line spec draft (group_line thread size) plain is = absurd plain

pub keeps_form : (spec : Spec) (draft : Draft) (found : Option FormText) (next : Draft) → IsNoGroup found → HasNoGroup draft
    → after_form_of spec draft found ≡ Ok next → HasNoGroup next
keeps_form spec draft None next plain is e = absurd cc
keeps_form spec draft (Some form) next plain is e = subst HasNoGroup (taken spec draft form next e).value (keeps_line spec draft form plain is)

keeps_words : (spec : Spec) (draft : Draft) (found : Option (List WordText)) (next : Draft) → HasNoGroup draft
    → after_words Nothing spec draft found ≡ Ok next → HasNoGroup next
keeps_words spec draft None next is e = absurd cc
keeps_words spec draft (Some words) next is e = keeps_form spec draft (form_of Nothing words) next (no_group_of words) is e

HasNoGroup-after_bytes : (spec : Spec) (draft : Draft) (bytes : List ℕ) (next : Draft) → HasNoGroup draft
    → after_bytes Nothing spec draft bytes ≡ Ok next → HasNoGroup next
unfolding after_bytes
HasNoGroup-after_bytes spec draft bytes next is e = keeps_words spec draft (words_read bytes) next is e

pub IsOfAlso-after_bytes : (also : Also) (spec : Spec) (draft : Draft) (bytes : List ℕ) (next : Draft) → IsOfAlso also draft
    → after_bytes also spec draft bytes ≡ Ok next → IsOfAlso also next
IsOfAlso-after_bytes Nothing spec draft bytes next is e = HasNoGroup-after_bytes spec draft bytes next is e
IsOfAlso-after_bytes Groups spec draft bytes next is e = tt

pub IsOfAlso-draft_of : (also : Also) (threads : ℕ) → IsOfAlso also (draft_of threads)
IsOfAlso-draft_of Nothing threads = record { none = refl; single = tt }
IsOfAlso-draft_of Groups threads = tt

pub IsOfAlso-reading_all : (also : Also) (past_end : ℕ) (spec : Spec) (lines : List ContentLine) (last : Draft)
    → reading_all also past_end spec lines ≡ Ok last → IsOfAlso also last
IsOfAlso-reading_all also past_end spec lines last e =
    kept_by_all (IsOfAlso also) also spec (λ threads count. IsOfAlso-draft_of also threads) (IsOfAlso-after_bytes also spec) past_end lines last e

-- ---- no line stands within a group

pub outside_groups : (draft : Draft) (form : FormText) → draft.group ≡ None → breaks_group draft form ≡ false
outside_groups draft round_line e = ap is_some e
outside_groups draft end_line e = ap is_some e
outside_groups draft (call_line thread op values) e = ap (λ found. is_others found (thread_in draft thread)) e
outside_groups draft (group_line thread size) e = ap is_some e
