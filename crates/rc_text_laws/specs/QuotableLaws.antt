-- What a workload that is read is made of: each number has 64 bits, and each text consists of bytes that may stand
-- in quotes.
use Rattle.std.proofs.Common.{◌≡◌, ℕ, ◌<◌, ◌≤◌, ◌^◌, Bool, true, false, cond, List, [], ◌∷◌, length, Option, Some, None, Result, Ok, Err, zero, suc, inl, inr, refl, sym, subst, arith}
use Rattle.std.specs.Prelude.{◌&&◌, All, IfSome, MatchResult, nat_lt, nat_le, codes, unwrap_or}
use Rattle.rc_text_laws.specs.Imports.{AllByRecursion, list_all, cons_option, bytes_eq, In, each_in, in_flat_map, in_gather, number_lists_order, is_quotable_byte, ContentLine, TextPlace, content_from, past_end_of, found_comes, is_number, number_of, WordText, plain_text, quoted_text, Found, next_word_of, words_within, found_then, IsWritable, ComesNext, WordFault, Spec, LineRule, text_cmp, rank_of, rising_texts_of, rank_of-within, Also, Nothing, Groups, Work, HoldsOfCalls, holds_call, each_push, round_line, call_line, group_line, all_read, words_read, alone, is_value, call_form, group_form, or_call, thread_form, number_by, raw_value, raw_values, raw_call, thread_in, broken_at, threads_of, draft_of, reading_all, IsDraft, IsThreadCount, IsDraft-after_bytes, IsDraft-draft_of, threads_of-count, work_language, LinesMean, ContentMeans, texts_in_value, texts_in_call, texts_in_turn, texts_in_round, texts_in, ranked_value, work_by, work_of, work_reading, are_whole, means-content, AreTexts}
use Rattle.std.proofs.lemmas.Bool.{ltb-true}
use Rattle.std.proofs.lemmas.List.Elements.{All-from_recursion, recursion_from_All}
use Rattle.rc_text.specs.LanguageLaws.{taken_keeps}
use Rattle.rc_text.specs.Words.{words_of}
use Rattle.rc_text.specs.declared.numbers.NumFault.TheVariants as faults
use Rattle.rc_work.specs.LineForms.{FormText, end_line, onto_words, form_of}
use Rattle.rc_work.specs.LineRules.{with_line}
use Rattle.rc_work.specs.LineRulesLaws.{taken}
use Rattle.rc_work.specs.WorkGrammar.{after_form_of, after_words, after_bytes}
use Rattle.rc_work.specs.FirstBroken.{AreTaken}

-- ---- the words of a line

abbrev some_words : List WordText → Option (List WordText)
some_words words = Some words

same_words : (words others : List WordText) → some_words words ≡ some_words others → words ≡ others
same_words words others e = cc

onto_writable : (word : WordText) (found : Option (List WordText)) (words : List WordText)
    → IsWritable word
    → ((others : List WordText) → found ≡ Some others → AllByRecursion IsWritable others)
    → onto_words word found ≡ Some words → AllByRecursion IsWritable words
onto_writable word None words writable rest e = absurd cc
onto_writable word (Some others) words writable rest e =
    subst (AllByRecursion IsWritable) (same_words (word ∷ others) words e)
    (writable, rest others refl)

found_writable : (line : List ℕ) (found : Found) (others : List ℕ → List (Result WordText WordFault))
    → (words : List WordText)
    → ComesNext line found
    → ((after : List ℕ) (more : List WordText) → all_read (others after) ≡ Some more
    → AllByRecursion IsWritable more)
    → all_read (found_then found others) ≡ Some words → AllByRecursion IsWritable words
found_writable line (Ok None) others words comes rest e =
    subst (AllByRecursion IsWritable) (same_words [] words e) tt
found_writable line (Ok (Some found)) others words comes rest e =
    onto_writable found.0 (all_read (others found.1)) words comes.is_writable (rest found.1) e
found_writable line (Err fault) others words comes rest e = absurd cc

within_writable : (most : ℕ) (line : List ℕ) (words : List WordText)
    → all_read (words_within most line) ≡ Some words
    → AllByRecursion IsWritable words
within_writable zero line words e = subst (AllByRecursion IsWritable) (same_words [] words e) tt
within_writable (suc most) line words e =
    found_writable line (next_word_of line) (words_within most) words (found_comes line)
    (within_writable most) e

-- each word of a line that is read can be written so that it is read again
pub words_read-writable : (line : List ℕ) (words : List WordText) → words_read line ≡ Some words
    → AllByRecursion IsWritable words
unfolding words_of
words_read-writable line words e = within_writable (length line) line words e

-- ---- values

-- the type of what a function takes, and of what it gives
abbrev SourceOf : {A B : Type 0} → (A → B) → Type 0
SourceOf {A} {B} f = A

abbrev TargetOf : {A B : Type 0} → (A → B) → Type 0
TargetOf {A} {B} f = B

-- a value, a call, a turn and a draft of a workload that is being read; rc_work names their types to no other crate
abbrev pub WorkValue : Type 0
WorkValue = SourceOf texts_in_value

abbrev pub WorkCall : Type 0
WorkCall = SourceOf texts_in_call

abbrev pub WorkTurn : Type 0
WorkTurn = SourceOf texts_in_turn

abbrev pub WorkDraft : Type 0
WorkDraft = TargetOf draft_of

-- What holds of a value that is read: it has one text at most, of bytes that may stand in quotes; and it is a number
-- of 64 bits, as the rank of its text is among texts that are not too many.
pub record IsReadValue (value : WorkValue) : Type 0 where
  pub one_text : length (texts_in_value value) ≤ 1
  pub quotable : (text : List ℕ) → In text (texts_in_value value)
      → list_all is_quotable_byte text ≡ true
  pub small : (texts : List (List ℕ)) → length texts < 2 ^ 64 → ranked_value texts value < 2 ^ 64

number_read : (digits small : Bool) (number : ℕ) → (small ≡ true → number < 2 ^ 64)
    → IfSome (number_by (cond digits (cond small (Ok number) (Err faults.Range)) (Err faults.Form))) IsReadValue
number_read true true number below = record {
  one_text = omega arith;
  quotable = λ text m. absurd m;
  small = λ texts few. below refl;
}
number_read true false number below = tt
number_read false small number below = tt

rank_small : (texts : List (List ℕ)) (text : List ℕ) (rank : Option ℕ) → length texts < 2 ^ 64
    → rank_of texts text ≡ rank
    → unwrap_or rank 0 < 2 ^ 64
rank_small texts text None few e = omega arith
rank_small texts text (Some rank) few e = omega (arith, rank_of-within texts text rank e)

some_if : {A : Type 0} (P : A → Type 0) (b : Bool) (x : A) → P x → IfSome (cond b (Some x) None) P
some_if P true x holds = holds
some_if P false x holds = tt

own_quotable : (own text : List ℕ) → list_all is_quotable_byte own ≡ true → In text (own ∷ [])
    → list_all is_quotable_byte text ≡ true
own_quotable own text quotable (inl e) =
    subst (λ t. list_all is_quotable_byte t ≡ true) (sym e) quotable
own_quotable own text quotable (inr m) = absurd m

word_read : (word : WordText) → IsWritable word → IfSome (raw_value word) IsReadValue
word_read (plain_text word) writable =
    number_read (is_number word) (nat_lt (number_of word) (2 ^ 64)) (number_of word)
    (ltb-true (number_of word) (2 ^ 64))
word_read (quoted_text text) writable =
    some_if IsReadValue (nat_le (length text) 64) _ (record {
      one_text = omega arith;
      quotable = λ other m. own_quotable text other writable m;
      small = λ texts few. rank_small texts text (rank_of texts text) few refl;
    })

consed_read : (found : Option WorkValue) (others : List WorkValue) → IfSome found IsReadValue
    → AllByRecursion IsReadValue others
    → AllByRecursion IsReadValue (cons_option found others)
consed_read None others read are = are
consed_read (Some value) others read are = (read, are)

-- so are the values of writable words
raw_values-read : (words : List WordText) → AllByRecursion IsWritable words
    → AllByRecursion IsReadValue (raw_values words)
raw_values-read [] writable = tt
raw_values-read (word ∷ words) writable =
    consed_read (raw_value word) (raw_values words) (word_read word writable.0)
    (raw_values-read words writable.1)

-- ---- the form of a line

-- its values are writable words
abbrev HasWritableValues : FormText → Type 0
HasWritableValues round_line = Unit {0}
HasWritableValues end_line = Unit {0}
HasWritableValues (call_line thread op values) = AllByRecursion IsWritable values
HasWritableValues (group_line thread size) = Unit {0}

abbrev some_form : FormText → Option FormText
some_form form = Some form

same_form : (form other : FormText) → some_form form ≡ some_form other → form ≡ other
same_form form other e = cc

alone_writable : (form other : FormText) (words : List WordText) → HasWritableValues form
    → alone form words ≡ Some other
    → HasWritableValues other
alone_writable form other [] writable e = subst HasWritableValues (same_form form other e) writable
alone_writable form other (word ∷ words) writable e = absurd cc

valued_writable : (valued : Bool) (thread op : List ℕ) (values : List WordText) (form : FormText)
    → AllByRecursion IsWritable values
    → cond valued (some_form (call_line thread op values)) None ≡ Some form → HasWritableValues form
valued_writable true thread op values form writable e =
    subst HasWritableValues (same_form (call_line thread op values) form e) writable
valued_writable false thread op values form writable e = absurd cc

call_writable : (thread : List ℕ) (words : List WordText) (form : FormText)
    → AllByRecursion IsWritable words
    → call_form thread words ≡ Some form → HasWritableValues form
call_writable thread [] form writable e = absurd cc
call_writable thread (quoted_text text ∷ values) form writable e = absurd cc
call_writable thread (plain_text op ∷ values) form writable e =
    valued_writable (list_all is_value values) thread op values form writable.1 e

-- a form that has no values
abbrev HasNoValues : Option FormText → Type 0
HasNoValues None = Unit {0}
HasNoValues (Some form) = HasWritableValues form

grouped_writable : (grouped : Bool) (thread size : List ℕ) → HasNoValues (cond grouped (Some (group_line thread size)) None)
grouped_writable true thread size = tt
grouped_writable false thread size = tt

group_writable : (thread : List ℕ) (words : List WordText) → HasNoValues (group_form thread words)
group_writable thread [] = tt
group_writable thread (quoted_text text ∷ words) = tt
group_writable thread (plain_text sign ∷ []) = tt
group_writable thread (plain_text sign ∷ quoted_text text ∷ words) = tt
group_writable thread (plain_text sign ∷ plain_text size ∷ []) =
    grouped_writable (bytes_eq sign (codes "&") && is_number size) thread size
group_writable thread (plain_text sign ∷ plain_text size ∷ word ∷ words) = tt

or_writable : (found : Option FormText) (thread : List ℕ) (words : List WordText) (form : FormText)
    → AllByRecursion IsWritable words
    → HasNoValues found → or_call found thread words ≡ Some form → HasWritableValues form
or_writable None thread words form writable none e = call_writable thread words form writable e
or_writable (Some other) thread words form writable none e = subst HasWritableValues (same_form other form e) none

thread_writable : (also : Also) (thread : List ℕ) (words : List WordText) (form : FormText)
    → AllByRecursion IsWritable words
    → thread_form also thread words ≡ Some form → HasWritableValues form
thread_writable Nothing thread words form writable e = call_writable thread words form writable e
thread_writable Groups thread words form writable e =
    or_writable (group_form thread words) thread words form writable (group_writable thread words) e

first_writable : (also : Also) (round end call : Bool) (first : List ℕ) (words : List WordText) (form : FormText)
    → AllByRecursion IsWritable words
    → cond round (alone round_line words)
    (cond end (alone end_line words) (cond call (thread_form also first words) None))
    ≡ Some form
    → HasWritableValues form
first_writable also true end call first words form writable e = alone_writable round_line form words tt e
first_writable also false true call first words form writable e = alone_writable end_line form words tt e
first_writable also false false true first words form writable e =
    thread_writable also first words form writable e
first_writable also false false false first words form writable e = absurd cc

form_of-writable : (also : Also) (words : List WordText) (form : FormText) → AllByRecursion IsWritable words
    → form_of also words ≡ Some form
    → HasWritableValues form
unfolding form_of
form_of-writable also [] form writable e = absurd cc
form_of-writable also (quoted_text text ∷ words) form writable e = absurd cc
form_of-writable also (plain_text first ∷ words) form writable e =
    first_writable also (bytes_eq first (codes "round")) (bytes_eq first (codes "end"))
    (is_number first) first words form writable.1 e

-- ---- a line, and the lines

-- the call's values are read
abbrev pub HasReadValues : WorkCall → Type 0
HasReadValues call = All IsReadValue call.values

-- so are those of each of the turn's calls
abbrev pub TurnHasReadValues : WorkTurn → Type 0
TurnHasReadValues turn = AllByRecursion HasReadValues turn.calls

-- and of each turn of the rounds
abbrev pub HaveReadValues : List (List WorkTurn) → Type 0
HaveReadValues rounds = AllByRecursion (AllByRecursion TurnHasReadValues) rounds

-- and of each call of the draft
abbrev AreValuesRead : WorkDraft → Type 0
AreValuesRead draft = HoldsOfCalls HasReadValues draft

with_line-read : (spec : Spec) (draft : WorkDraft) (form : FormText) → AreValuesRead draft
    → HasWritableValues form
    → AreValuesRead (with_line spec draft form)
with_line-read spec draft round_line are writable = record {
  rounds = each_push (AllByRecursion TurnHasReadValues) draft.rounds [] are.rounds tt;
  group = are.group;
}
with_line-read spec draft end_line are writable = record { rounds = are.rounds; group = are.group }
with_line-read spec draft (call_line thread op values) are writable =
    holds_call HasReadValues draft are (thread_in draft thread) (raw_call spec op values)
    (All-from_recursion IsReadValue (raw_values values) (raw_values-read values writable))
with_line-read spec draft (group_line thread size) are writable = record { rounds = are.rounds; group = tt }

form_read : (spec : Spec) (draft : WorkDraft) (found : Option FormText) (next : WorkDraft)
    → AreValuesRead draft
    → ((form : FormText) → found ≡ Some form → HasWritableValues form)
    → after_form_of spec draft found ≡ Ok next
    → AreValuesRead next
form_read spec draft None next are writable e = absurd cc
form_read spec draft (Some form) next are writable e =
    subst AreValuesRead (taken spec draft form next e).value
    (with_line-read spec draft form are (writable form refl))

words_are_read : (also : Also) (spec : Spec) (draft : WorkDraft) (found : Option (List WordText)) (next : WorkDraft)
    → AreValuesRead draft
    → ((words : List WordText) → found ≡ Some words → AllByRecursion IsWritable words)
    → after_words also spec draft found ≡ Ok next
    → AreValuesRead next
words_are_read also spec draft None next are writable e = absurd cc
words_are_read also spec draft (Some words) next are writable e =
    form_read spec draft (form_of also words) next are
    (λ form. form_of-writable also words form (writable words refl)) e

after_bytes-read : (also : Also) (spec : Spec) (draft : WorkDraft) (line : List ℕ) (next : WorkDraft)
    → AreValuesRead draft
    → after_bytes also spec draft line ≡ Ok next → AreValuesRead next
unfolding after_bytes
after_bytes-read also spec draft line next are e =
    words_are_read also spec draft (words_read line) next are (words_read-writable line) e

-- what holds of a draft whose lines are read
pub record IsReadDraft (spec : Spec) (draft : WorkDraft) : Type 0 where
  pub is : IsDraft spec draft
  pub values : HoldsOfCalls HasReadValues draft

taken_read : (also : Also) (spec : Spec) (draft : WorkDraft) (lines : List ContentLine) (last : WorkDraft)
    → IsReadDraft spec draft
    → AreTaken also spec draft lines last → IsReadDraft spec last
taken_read also spec draft lines last here taken =
    taken_keeps (work_language also spec) (IsReadDraft spec)
    (λ before bytes next is e. record {
      is = IsDraft-after_bytes also spec before bytes next is.is e;
      values = after_bytes-read also spec before bytes next is.values e;
    }) draft lines last taken here

draft_of-read : (spec : Spec) (threads : ℕ) → IsThreadCount threads
    → IsReadDraft spec (draft_of threads)
draft_of-read spec threads count =
    record { is = IsDraft-draft_of spec threads count; values = record { rounds = tt; group = tt } }

-- ---- a workload

-- a workload that is read is that of such a draft
pub record IsOfDraft (spec : Spec) (work : Work) : Type 0 where
  pub draft : WorkDraft
  pub read : IsReadDraft spec draft
  pub value : work_of spec draft ≡ work

header_read : (also : Also) (spec : Spec) (past_end : ℕ) (line : ContentLine) (others : List ContentLine)
    → (work : Work) (found : Result ℕ LineRule)
    → threads_of line.bytes ≡ found
    → MatchResult found (λ threads. LinesMean also past_end spec (draft_of threads) others (Ok work))
    (λ rule. broken_at rule line.number ≡ Ok work)
    → IsOfDraft spec work
header_read also spec past_end line others work (Err rule) e means = absurd cc
header_read also spec past_end line others work (Ok threads) e means =
    let whole = are_whole also past_end spec (draft_of threads) others work means in
    record {
      draft = whole.last;
      read = taken_read also spec (draft_of threads) others whole.last
          (draft_of-read spec threads (threads_of-count line.bytes threads e)) whole.taken;
      value = whole.value;
    }

content_read : (also : Also) (spec : Spec) (past_end : ℕ) (lines : List ContentLine) (work : Work)
    → ContentMeans also past_end spec lines (Ok work)
    → IsOfDraft spec work
content_read also spec past_end [] work means = absurd cc
content_read also spec past_end (line ∷ others) work means =
    header_read also spec past_end line others work (threads_of line.bytes) refl means

-- what lines give
pub work_of_lines : (also : Also) (past_end : ℕ) (spec : Spec) (lines : List ContentLine) (work : Work)
    → work_by spec (reading_all also past_end spec lines) ≡ Ok work → IsOfDraft spec work
work_of_lines also past_end spec lines work e =
    content_read also spec past_end lines work
    (subst (ContentMeans also past_end spec lines) e (means-content also past_end spec lines))

pub work_of_draft : (also : Also) (spec : Spec) (place : TextPlace) (work : Work)
    → work_reading also spec place ≡ Ok work → IsOfDraft spec work
work_of_draft also spec place work e =
    work_of_lines also (past_end_of place.text) spec (content_from place) work e

-- ---- its texts

call_quotable : (call : WorkCall) (text : List ℕ) → HasReadValues call
    → In text (texts_in_call call)
    → list_all is_quotable_byte text ≡ true
call_quotable call text are m =
    let found = in_flat_map texts_in_value text call.values m in
    (each_in IsReadValue call.values (recursion_from_All IsReadValue call.values are) found.0 found.1).quotable text found.2

turn_quotable : (turn : WorkTurn) (text : List ℕ) → TurnHasReadValues turn
    → In text (texts_in_turn turn)
    → list_all is_quotable_byte text ≡ true
turn_quotable turn text are m =
    let found = in_flat_map texts_in_call text turn.calls m in
    call_quotable found.0 text (each_in HasReadValues turn.calls are found.0 found.1) found.2

texts_quotable : (rounds : List (List WorkTurn)) (text : List ℕ) → HaveReadValues rounds
    → In text (texts_in rounds)
    → list_all is_quotable_byte text ≡ true
texts_quotable rounds text are m =
    let round = in_flat_map texts_in_round text rounds m in
    let turn = in_flat_map texts_in_turn text round.0 round.2 in
    turn_quotable turn.0 text
    (each_in TurnHasReadValues round.0 (each_in (AllByRecursion TurnHasReadValues) rounds are round.0 round.1) turn.0 turn.1) turn.2

pub draft_texts : (spec : Spec) (draft : WorkDraft) → IsReadDraft spec draft
    → AreTexts (work_of spec draft).ranks
draft_texts spec draft read = record {
  rising = rising_texts_of (texts_in draft.rounds);
  quotable = λ text m. texts_quotable draft.rounds text read.values.rounds (in_gather text_cmp number_lists_order text (texts_in draft.rounds) m);
}

-- the texts of a workload that is read are distinct, rising, and each can stand in quotes
abbrev pub TextsAreQuotable : Type 0
TextsAreQuotable =
    (also : Also) (spec : Spec) (place : TextPlace) (work : Work) → work_reading also spec place ≡ Ok work
    → AreTexts work.ranks

pub texts_are_quotable : TextsAreQuotable
texts_are_quotable also spec place work e =
    let from = work_of_draft also spec place work e in
    subst (λ (w : Work). AreTexts w.ranks) from.value (draft_texts spec from.draft from.read)
