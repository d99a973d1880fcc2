-- Lines of a workload that are taken: none behind `end`, and what begins with `e` is `end`.
use Rattle.std.proofs.Common.{◌≡◌, ℕ, Bool, true, false, not, cond, eqb, List, [], ◌∷◌, ◌++◌, drop, Option, Some, None, Ok, Err, codes, refl, ap, sym, ◌∙◌, subst, one-add}
use Rattle.std.specs.Prelude.{◌&&◌}
use Rattle.std.proofs.Math.Bool.{and-false}
use Rattle.rc_work.specs.Imports.{bytes_eq, list_all, before_first, position_or_len, is_blank, is_text_byte, without_blanks, WordText, plain_text, quoted_text, Found, word_at, found_then, words_of, HasWord, ComesNext, words_of-step, found_comes, is_number, BadByte, Spec}
use Rattle.std.proofs.lemmas.Bool.{eqb-true, and_parts}
use Rattle.std.proofs.lemmas.Slice.Eq.{bytes_eq-Decides}
use Rattle.rc_text.specs.Words.{next_word_of}
use Rattle.rc_work.specs.declared.also.Also.{Also}
use Rattle.rc_work.specs.declared.also.Also.TheVariants.{Nothing, Groups}
use Rattle.rc_work.specs.declared.raw.RawCall.{RawCall}
use Rattle.rc_work.specs.declared.draft.UnfilledGroup.{UnfilledGroup}
use Rattle.rc_work.specs.declared.draft.Draft.{Draft}
use Rattle.rc_work.specs.UnfilledGroups.{with_next, with_turn, with_call_by}
use Rattle.rc_work.specs.LineForms.{FormText, round_line, end_line, call_line, group_line, onto_words, all_read, words_read, alone, is_value, call_form, group_form, or_call, thread_form, form_by, form_of}
use Rattle.rc_work.specs.LineRules.{thread_in, raw_call, with_line, after_form}
use Rattle.rc_work.specs.LineRulesLaws.{taken}
use Rattle.rc_work.specs.WorkGrammar.{after_form_of, after_words, after_bytes}
use Rattle.rc_work.specs.PrefixCutLaws.{starts_e, begins_e, lacks_d}

-- ---- behind `end`

-- a line that is taken has words and a form
pub record IsTakenLine (also : Also) (spec : Spec) (draft : Draft) (bytes : List ℕ) (next : Draft) : Type 0 where
  pub words : List WordText
  pub form : FormText
  pub read : words_read bytes ≡ Some words
  pub formed : form_of also words ≡ Some form
  pub after : after_form spec draft form ≡ Ok next

taken_form : (also : Also) (spec : Spec) (draft next : Draft) (bytes : List ℕ) (words : List WordText) (found : Option FormText)
    → words_read bytes ≡ Some words → form_of also words ≡ found → after_form_of spec draft found ≡ Ok next → IsTakenLine also spec draft bytes next
taken_form also spec draft next bytes words None read formed e = absurd cc
taken_form also spec draft next bytes words (Some form) read formed e =
    record { words = words; form = form; read = read; formed = formed; after = e }

taken_words : (also : Also) (spec : Spec) (draft next : Draft) (bytes : List ℕ) (found : Option (List WordText))
    → words_read bytes ≡ found → after_words also spec draft found ≡ Ok next → IsTakenLine also spec draft bytes next
taken_words also spec draft next bytes None read e = absurd cc
taken_words also spec draft next bytes (Some words) read e = taken_form also spec draft next bytes words (form_of also words) read refl e

taken_line : (also : Also) (spec : Spec) (draft next : Draft) (bytes : List ℕ) → after_bytes also spec draft bytes ≡ Ok next
    → IsTakenLine also spec draft bytes next
unfolding after_bytes
taken_line also spec draft next bytes e = taken_words also spec draft next bytes (words_read bytes) refl e

-- no line is taken behind `end`
pub unended : (also : Also) (spec : Spec) (draft next : Draft) (bytes : List ℕ) → after_bytes also spec draft bytes ≡ Ok next → draft.ended ≡ false
unended also spec draft next bytes e =
    let is = taken_line also spec draft next bytes e in
    (taken spec draft is.form next is.after).ended

-- ---- a line that begins with `e`

before_first-no : (p : ℕ → Bool) (b : ℕ) (bs : List ℕ) → p b ≡ false → before_first p (b ∷ bs) ≡ b ∷ before_first p bs
before_first-no p b bs fails = rw (fails, one-add) refl

abbrev IsEFound : Found → Type 0
IsEFound (Ok None) = ⊥
IsEFound (Ok (Some found)) = (word : List ℕ) × (found.0 ≡ plain_text (101 ∷ word))
IsEFound (Err fault) = Unit {0}

abbrev StartsE : Option (List WordText) → Type 0
StartsE None = Unit {0}
StartsE (Some words) = (word : List ℕ) × (others : List WordText) × (words ≡ plain_text (101 ∷ word) ∷ others)

plain_e : (bs : List ℕ) → IsEFound (word_at (101 ∷ bs))
plain_e bs =
    elim (list_all is_text_byte (before_first is_blank (101 ∷ bs))) as (λ v. IsEFound (cond v (Ok (Some (plain_text (before_first is_blank (101 ∷ bs)), drop (position_or_len is_blank (101 ∷ bs)) (101 ∷ bs)))) (Err BadByte))) [
      | true ↦ (before_first is_blank bs, ap (λ (w : List ℕ). plain_text w) (before_first-no is_blank 101 bs refl))
      | false ↦ tt
    ]

e_at : (bytes : List ℕ) → starts_e bytes ≡ true → IsEFound (word_at bytes)
e_at [] e = absurd cc
e_at (b ∷ bs) e = subst (λ (c : ℕ). IsEFound (word_at (c ∷ bs))) (sym (eqb-true b 101 e)) (plain_e bs)

e_next : (bytes : List ℕ) → begins_e bytes ≡ true → IsEFound (next_word_of bytes)
unfolding next_word_of
e_next bytes e = e_at (without_blanks bytes) e

e_onto : (word : WordText) (w : List ℕ) (words : Option (List WordText)) → word ≡ plain_text (101 ∷ w) → StartsE (onto_words word words)
e_onto word w None e = tt
e_onto word w (Some words) e = (w, words, ap (λ (x : WordText). x ∷ words) e)

e_found : (found : Found) → IsEFound found → StartsE (all_read (found_then found words_of))
e_found (Ok None) is = absurd is
e_found (Ok (Some found)) is = e_onto found.0 is.0 (all_read (words_of found.1)) is.1
e_found (Err fault) is = tt

e_read : (bytes : List ℕ) → begins_e bytes ≡ true → StartsE (words_read bytes)
e_read bytes e = rw (words_of-step bytes) (e_found (next_word_of bytes) (e_next bytes e))

abbrev EndOnly : Option FormText → Type 0
EndOnly None = Unit {0}
EndOnly (Some form) = form ≡ end_line

alone_end : (words : List WordText) → EndOnly (alone end_line words)
alone_end [] = refl
alone_end (word ∷ words) = tt

e_no_number : (word : List ℕ) → is_number (101 ∷ word) ≡ false
e_no_number word = and-false _

e_form : (also : Also) (word : List ℕ) (words : List WordText) → EndOnly (form_by also (101 ∷ word) words)
e_form also word words =
    elim (bytes_eq (101 ∷ word) (codes "end")) as (λ v. EndOnly (cond v (alone end_line words) (cond (is_number (101 ∷ word)) (thread_form also (101 ∷ word) words) None))) [
      | true ↦ alone_end words
      | false ↦ rw (e_no_number word) tt
    ]

e_form_of : (also : Also) (words : List WordText) (word : List ℕ) (others : List WordText) → words ≡ plain_text (101 ∷ word) ∷ others
    → EndOnly (form_of also words)
unfolding form_of
e_form_of also words word others e = rw e (e_form also word others)

-- a line that begins with `e` and is taken is `end`
pub e_ends : (also : Also) (spec : Spec) (draft next : Draft) (bytes : List ℕ) → begins_e bytes ≡ true
    → after_bytes also spec draft bytes ≡ Ok next → next.ended ≡ true
e_ends also spec draft next bytes begins e =
    let is = taken_line also spec draft next bytes e in
    let starts : StartsE (Some is.words) = subst StartsE is.read (e_read bytes begins) in
    let form : is.form ≡ end_line = subst EndOnly is.formed (e_form_of also is.words starts.0 starts.1 starts.2) in
    let value : with_line spec draft end_line ≡ next = subst (λ (f : FormText). with_line spec draft f ≡ next) form (taken spec draft is.form next is.after).value in
    ap (λ (d : Draft). d.ended) (sym value)

-- ---- the line `end`

group_ends : (draft : Draft) (group : UnfilledGroup) (filled : Bool) → (cond filled (with_turn draft group.turn) (record draft { group = Some group })).ended ≡ draft.ended
group_ends draft group true = refl
group_ends draft group false = refl

-- a call ends nothing
call_ends : (draft : Draft) (found : Option UnfilledGroup) (thread : ℕ) (call : RawCall) → (with_call_by found draft thread call).ended ≡ draft.ended
call_ends draft None thread call = refl
call_ends draft (Some group) thread call = group_ends draft (with_next group call) _

form_ends : (spec : Spec) (draft next : Draft) (form : FormText) → with_line spec draft form ≡ next → draft.ended ≡ false → next.ended ≡ true → form ≡ end_line
form_ends spec draft next round_line value not_yet ended = let same = ap (λ (d : Draft). d.ended) value in absurd cc
form_ends spec draft next end_line value not_yet ended = refl
form_ends spec draft next (call_line thread op values) value not_yet ended =
    let same = sym (call_ends draft draft.group (thread_in draft thread) (raw_call spec op values)) ∙ ap (λ (d : Draft). d.ended) value in absurd cc
form_ends spec draft next (group_line thread size) value not_yet ended = let same = ap (λ (d : Draft). d.ended) value in absurd cc

alone_only : (words : List WordText) → alone end_line words ≡ Some end_line → words ≡ []
alone_only [] e = refl
alone_only (word ∷ words) e = absurd cc

not_round : (words : List WordText) → alone round_line words ≡ Some end_line → ⊥
not_round [] e = cc
not_round (word ∷ words) e = cc

not_call : (thread : List ℕ) (words : List WordText) → call_form thread words ≡ Some end_line → ⊥
not_call thread [] e = cc
not_call thread (quoted_text text ∷ values) e = cc
not_call thread (plain_text op ∷ values) e =
    elim (list_all is_value values) as (λ v. cond v (Some (call_line thread op values)) None ≡ Some end_line → ⊥) [
      | true ↦ λ same. cc
      | false ↦ λ same. cc
    ] e

not_group : (thread : List ℕ) (words : List WordText) → group_form thread words ≡ Some end_line → ⊥
not_group thread [] e = cc
not_group thread (quoted_text text ∷ words) e = cc
not_group thread (plain_text sign ∷ []) e = cc
not_group thread (plain_text sign ∷ quoted_text text ∷ words) e = cc
not_group thread (plain_text sign ∷ plain_text size ∷ []) e =
    elim (bytes_eq sign (codes "&") && is_number size) as (λ v. cond v (Some (group_line thread size)) None ≡ Some end_line → ⊥) [
      | true ↦ λ same. cc
      | false ↦ λ same. cc
    ] e
not_group thread (plain_text sign ∷ plain_text size ∷ word ∷ words) e = cc

not_either : (found : Option FormText) (thread : List ℕ) (words : List WordText) → (found ≡ Some end_line → ⊥) → or_call found thread words ≡ Some end_line → ⊥
not_either None thread words not e = not_call thread words e
not_either (Some form) thread words not e = not e

not_thread : (also : Also) (thread : List ℕ) (words : List WordText) → thread_form also thread words ≡ Some end_line → ⊥
not_thread Nothing thread words e = not_call thread words e
not_thread Groups thread words e = not_either (group_form thread words) thread words (not_group thread words) e

end_words : (also : Also) (first : List ℕ) (words : List WordText) → form_by also first words ≡ Some end_line
    → plain_text first ∷ words ≡ plain_text (codes "end") ∷ []
end_words also first words e =
    elim (bytes_eq first (codes "round")) as (λ v. cond v (alone round_line words) (cond (bytes_eq first (codes "end")) (alone end_line words) (cond (is_number first) (thread_form also first words) None)) ≡ Some end_line → plain_text first ∷ words ≡ plain_text (codes "end") ∷ []) [
      | true ↦ λ same. absurd (not_round words same)
      | false ↦ elim (bytes_eq first (codes "end")) as (λ v. bytes_eq first (codes "end") ≡ v → cond v (alone end_line words) (cond (is_number first) (thread_form also first words) None) ≡ Some end_line → plain_text first ∷ words ≡ plain_text (codes "end") ∷ []) [
        | true ↦ λ is same.
            ap (λ (w : List ℕ). plain_text w ∷ words) ((bytes_eq-Decides first (codes "end")).0 is)
            ∙ ap (λ (ws : List WordText). plain_text (codes "end") ∷ ws) (alone_only words same)
        | false ↦ λ _. elim (is_number first) as (λ v. cond v (thread_form also first words) None ≡ Some end_line → plain_text first ∷ words ≡ plain_text (codes "end") ∷ []) [
          | true ↦ λ same. absurd (not_thread also first words same)
          | false ↦ λ same. absurd cc
        ]
      ] refl
    ] e

end_words_of : (also : Also) (words : List WordText) → form_of also words ≡ Some end_line → words ≡ plain_text (codes "end") ∷ []
unfolding form_of
end_words_of also [] e = absurd cc
end_words_of also (plain_text first ∷ words) e = end_words also first words e
end_words_of also (quoted_text text ∷ words) e = absurd cc

abbrev some_words : List WordText → Option (List WordText)
some_words words = Some words

same_first : (x y : WordText) (xs ys : List WordText) → some_words (x ∷ xs) ≡ some_words (y ∷ ys) → x ≡ y
same_first x y xs ys e = cc

onto_first_word : (word first : WordText) (words : Option (List WordText)) → onto_words word words ≡ Some (first ∷ []) → word ≡ first
onto_first_word word first None e = absurd cc
onto_first_word word first (Some words) e = same_first word first words [] e

-- blanks, `end`, and what stands behind it, which has no further word
pub record IsEnd (bytes : List ℕ) : Type 0 where
  pub blanks : List ℕ
  pub after : List ℕ
  pub are_blank : list_all is_blank blanks ≡ true
  pub whole : bytes ≡ blanks ++ (codes "end" ++ after)
  pub only : words_read bytes ≡ Some (plain_text (codes "end") ∷ [])

found_end : (bytes : List ℕ) (found : Found) → next_word_of bytes ≡ found → all_read (found_then found words_of) ≡ Some (plain_text (codes "end") ∷ []) → (after : List ℕ) × (next_word_of bytes ≡ Ok (Some (plain_text (codes "end"), after)))
found_end bytes (Ok None) is e = absurd cc
found_end bytes (Ok (Some (word, after))) is e =
    let same : word ≡ plain_text (codes "end") = onto_first_word word (plain_text (codes "end")) (all_read (words_of after)) e in
    (after, is ∙ ap (λ (w : WordText). Ok (Some (w, after))) same)
found_end bytes (Err fault) is e = absurd cc

-- the line that ends a workload is `end`
pub end_is : (also : Also) (spec : Spec) (draft next : Draft) (bytes : List ℕ) → after_bytes also spec draft bytes ≡ Ok next → next.ended ≡ true → IsEnd bytes
end_is also spec draft next bytes e ended =
    let is = taken_line also spec draft next bytes e in
    let form : is.form ≡ end_line = form_ends spec draft next is.form (taken spec draft is.form next is.after).value (unended also spec draft next bytes e) ended in
    let words : is.words ≡ plain_text (codes "end") ∷ [] = end_words_of also is.words (is.formed ∙ ap (λ (f : FormText). Some f) form) in
    let only : words_read bytes ≡ Some (plain_text (codes "end") ∷ []) = is.read ∙ ap (λ (ws : List WordText). Some ws) words in
    let read : all_read (found_then (next_word_of bytes) words_of) ≡ Some (plain_text (codes "end") ∷ []) = ap all_read (sym (words_of-step bytes)) ∙ only in
    let found = found_end bytes (next_word_of bytes) refl read in
    let has : HasWord bytes (plain_text (codes "end")) found.0 = subst (λ (f : Found). ComesNext bytes f) found.1 (found_comes bytes) in
    record { blanks = has.blanks; after = found.0; are_blank = has.are_blanks; whole = has.whole; only = only }

pub blanks_begin : (blanks after : List ℕ) → list_all is_blank blanks ≡ true → begins_e (blanks ++ (codes "end" ++ after)) ≡ true
blanks_begin [] after all = refl
blanks_begin (b ∷ bs) after all =
    let parts = and_parts (is_blank b) (list_all is_blank bs) all in
    rw parts.0 (blanks_begin bs after parts.1)

-- it begins with `e`
pub end_begins : (bytes : List ℕ) → IsEnd bytes → begins_e bytes ≡ true
end_begins bytes is = subst (λ (bs : List ℕ). begins_e bs ≡ true) (sym is.whole) (blanks_begin is.blanks is.after is.are_blank)

front_has_d : (front after : List ℕ) → lacks_d (front ++ (codes "end" ++ after)) ≡ true → ⊥
front_has_d [] after all = cc
front_has_d (b ∷ bs) after all = front_has_d bs after (and_parts (not (eqb b 100)) (lacks_d (bs ++ (codes "end" ++ after))) all).1

-- and has a `d`
pub end_has_d : (bytes : List ℕ) → IsEnd bytes → lacks_d bytes ≡ true → ⊥
end_has_d bytes is all = front_has_d is.blanks is.after (subst (λ (bs : List ℕ). lacks_d bs ≡ true) is.whole all)
