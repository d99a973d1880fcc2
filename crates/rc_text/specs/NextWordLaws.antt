-- The next word of a line is what the format says, and nothing else is.
use Rattle.std.proofs.Common.{◌≡◌, ℕ, Bool, true, false, not, ◌&&◌, cond, eqb, List, [], ◌∷◌, ◌++◌, length, get_or, drop, map, Some, None, Result, Ok, Err, refl, ap, sym, subst, ◌∙◌, ◌↔◌, one-add, append_assoc, inl, inr, arith}
use Rattle.std.proofs.Math.Bool.{and-false}
use Rattle.std.specs.Prelude.{MatchBool}
use Rattle.std.specs.List.{list_all, AllByRecursion, before_first, position_or_len, join_with_byte}
use Rattle.std.proofs.lemmas.Bool.{and_parts, or_cases, not-true, eqb-true}
use Rattle.std.proofs.lemmas.List.{take_at, drop_at, take-append-drop, append-nil}
use Rattle.std.proofs.lemmas.List.Folds.{list_all-append}
use Rattle.rc_text.specs.declared.words.WordFault.{WordFault}
use Rattle.rc_text.specs.declared.words.WordFault.TheVariants.{BadByte, Quote}
use Rattle.rc_text.specs.Bytes.{is_blank, is_quote, is_text_byte, is_plain_byte, is_quotable_byte, without_blanks}
use Rattle.rc_text.specs.Words.{WordText, plain_text, quoted_text, Found, plain_at, ends_word, closed_at, quoted_at, word_at, next_word_of, words_of, quoted, written, IsPlain, IsWritable, HasWord, IsWordFront, HasBadByte, IsUnclosed, HasQuoteFault, ComesNext}
use Rattle.rc_text.specs.WordsLaws.{found_none, found_some, words_of-same}

-- what passes two tests
all_both : (p q : ℕ → Bool) (xs : List ℕ) → list_all p xs ≡ true → list_all q xs ≡ true → list_all (λ x. p x && q x) xs ≡ true
all_both p q [] all_p all_q = refl
all_both p q (x ∷ xs) all_p all_q =
    let by_p = and_parts (p x) (list_all p xs) all_p in
    let by_q = and_parts (q x) (list_all q xs) all_q in
    rw (by_p.0, by_q.0, all_both p q xs by_p.1 by_q.1) refl

all_first : (p q : ℕ → Bool) (xs : List ℕ) → list_all (λ x. p x && q x) xs ≡ true → list_all p xs ≡ true
all_first p q [] all = refl
all_first p q (x ∷ xs) all =
    let parts = and_parts (p x && q x) (list_all (λ x. p x && q x) xs) all in
    rw ((and_parts (p x) (q x) parts.0).0, all_first p q xs parts.1) refl

all_second : (p q : ℕ → Bool) (xs : List ℕ) → list_all (λ x. p x && q x) xs ≡ true → list_all q xs ≡ true
all_second p q [] all = refl
all_second p q (x ∷ xs) all =
    let parts = and_parts (p x && q x) (list_all (λ x. p x && q x) xs) all in
    rw ((and_parts (p x) (q x) parts.0).1, all_second p q xs parts.1) refl

-- no blank and no quote is a byte that no word holds
bad-unblank : (b : ℕ) → is_text_byte b ≡ false → is_blank b ≡ false
bad-unblank b bad =
    elim (is_blank b) as (λ v. is_blank b ≡ v → v ≡ false) [
      | true ↦ λ e. absurd (elim (or_cases (eqb b 32) (eqb b 9) e) [
        | inl same ↦ let at : is_text_byte b ≡ is_text_byte 32 = ap is_text_byte (eqb-true b 32 same) in cc
        | inr same ↦ let at : is_text_byte b ≡ is_text_byte 9 = ap is_text_byte (eqb-true b 9 same) in cc
      ])
      | false ↦ λ _. refl
    ] refl

bad-unquote : (b : ℕ) → is_text_byte b ≡ false → is_quote b ≡ false
bad-unquote b bad =
    elim (is_quote b) as (λ v. is_quote b ≡ v → v ≡ false) [
      | true ↦ λ e. absurd (let at : is_text_byte b ≡ is_text_byte 34 = ap is_text_byte (eqb-true b 34 e) in cc)
      | false ↦ λ _. refl
    ] refl

-- what stands before the first byte that passes
before_first-no : (p : ℕ → Bool) (b : ℕ) (bs : List ℕ) → p b ≡ false → before_first p (b ∷ bs) ≡ b ∷ before_first p bs
before_first-no p b bs fails = rw (fails, one-add) refl

before_first-none : (p : ℕ → Bool) (bs : List ℕ) → list_all (λ b. not (p b)) (before_first p bs) ≡ true
before_first-none p [] = refl
before_first-none p (b ∷ bs) =
    elim (p b) as (λ v. p b ≡ v → list_all (λ b. not (p b)) (before_first p (b ∷ bs)) ≡ true) [
      | true ↦ λ e. rw e refl
      | false ↦ λ e. rw (before_first-no p b bs e, e) (before_first-none p bs)
    ] refl

-- nothing is there, or a byte that passes
abbrev BeginsWith : (ℕ → Bool) → List ℕ → Type 0
BeginsWith p [] = Unit {0}
BeginsWith p (b ∷ bs) = p b ≡ true

-- what stands from the first byte on that passes
drop_to-no : (p : ℕ → Bool) (b : ℕ) (bs : List ℕ) → p b ≡ false → drop (position_or_len p (b ∷ bs)) (b ∷ bs) ≡ drop (position_or_len p bs) bs
drop_to-no p b bs fails = rw (fails, one-add) refl

drop_to-begins : (p : ℕ → Bool) (bs : List ℕ) → BeginsWith p (drop (position_or_len p bs) bs)
drop_to-begins p [] = tt
drop_to-begins p (b ∷ bs) =
    elim (p b) as (λ v. p b ≡ v → BeginsWith p (drop (position_or_len p (b ∷ bs)) (b ∷ bs))) [
      | true ↦ λ e. rw e e
      | false ↦ λ e. rw (drop_to-no p b bs e) (drop_to-begins p bs)
    ] refl

-- a front without such a byte, and behind it nothing or such a byte
position-append : (p : ℕ → Bool) (front after : List ℕ) → list_all (λ b. not (p b)) front ≡ true → BeginsWith p after → position_or_len p (front ++ after) ≡ length front
position-append p [] [] none begins = refl
position-append p [] (b ∷ bs) none begins = rw begins refl
position-append p (b ∷ bs) after none begins =
    let parts = and_parts (not (p b)) (list_all (λ b. not (p b)) bs) none in
    rw (not-true (p b) parts.0, position-append p bs after parts.1 begins) (omega arith)

-- the first byte that fails
record FirstBad (bs : List ℕ) : Type 0 where
  front : List ℕ
  bad : ℕ
  after : List ℕ
  are_text : list_all is_text_byte front ≡ true
  is_bad : is_text_byte bad ≡ false
  whole : bs ≡ front ++ bad ∷ after

first_bad : (bs : List ℕ) → list_all is_text_byte bs ≡ false → FirstBad bs
first_bad [] fails = absurd cc
first_bad (b ∷ bs) fails =
    elim (is_text_byte b) as (λ v. is_text_byte b ≡ v → (v && list_all is_text_byte bs) ≡ false → FirstBad (b ∷ bs)) [
      | true ↦ λ e others. let found = first_bad bs others in record {
        front = b ∷ found.front;
        bad = found.bad;
        after = found.after;
        are_text = rw (e, found.are_text) refl;
        is_bad = found.is_bad;
        whole = ap (λ (xs : List ℕ). b ∷ xs) found.whole;
      }
      | false ↦ λ e others. record { front = []; bad = b; after = bs; are_text = refl; is_bad = e; whole = refl }
    ] refl fails

-- a bad byte stands before the first byte that passes
before_first-bad : (p : ℕ → Bool) (front : List ℕ) (bad : ℕ) (after : List ℕ) → list_all (λ b. not (p b)) front ≡ true → p bad ≡ false → is_text_byte bad ≡ false → list_all is_text_byte (before_first p (front ++ bad ∷ after)) ≡ false
before_first-bad p [] bad after none fails is_bad = rw (before_first-no p bad after fails, is_bad) refl
before_first-bad p (b ∷ bs) bad after none fails is_bad =
    let parts = and_parts (not (p b)) (list_all (λ b. not (p b)) bs) none in
    rw (before_first-no p b (bs ++ bad ∷ after) (not-true (p b) parts.0), before_first-bad p bs bad after parts.1 fails is_bad) (and-false (is_text_byte b))

-- The way from what is found to what the format says.

-- a blank in front changes nothing
behind_blank : (b : ℕ) (bs : List ℕ) (found : Found) → is_blank b ≡ true → ComesNext bs found → ComesNext (b ∷ bs) found
behind_blank b bs (Ok None) blank comes = rw blank comes
behind_blank b bs (Ok (Some found)) blank comes = record {
  blanks = b ∷ comes.blanks;
  are_blanks = rw blank comes.are_blanks;
  is_writable = comes.is_writable;
  ends = comes.ends;
  whole = ap (λ (xs : List ℕ). b ∷ xs) comes.whole;
}
behind_blank b bs (Err BadByte) blank comes = record {
  blanks = b ∷ comes.blanks;
  front = comes.front;
  bad = comes.bad;
  after = comes.after;
  are_blanks = rw blank comes.are_blanks;
  is_front = comes.is_front;
  is_bad = comes.is_bad;
  whole = ap (λ (xs : List ℕ). b ∷ xs) comes.whole;
}
behind_blank b bs (Err Quote) blank comes = record {
  blanks = b ∷ comes.blanks;
  text = comes.text;
  after = comes.after;
  are_blanks = rw blank comes.are_blanks;
  is_quotable = comes.is_quotable;
  is_unclosed = comes.is_unclosed;
  whole = ap (λ (xs : List ℕ). b ∷ xs) comes.whole;
}

begins-ends : (after : List ℕ) → BeginsWith is_blank after → ends_word after ≡ true
begins-ends [] begins = refl
begins-ends (b ∷ bs) begins = begins

ends-begins : (after : List ℕ) → ends_word after ≡ true → BeginsWith is_blank after
ends-begins [] ends = tt
ends-begins (b ∷ bs) ends = ends

-- the front of a plain word that holds a bad byte
plain_front : (front : List ℕ) (b bad : ℕ) (word after : List ℕ) → is_quote b ≡ false → list_all (λ c. not (is_blank c)) (b ∷ word) ≡ true → list_all is_text_byte front ≡ true → b ∷ word ≡ front ++ bad ∷ after → IsWordFront front
plain_front [] b bad word after unquote none text whole = tt
plain_front (c ∷ cs) b bad word after unquote none text whole =
    let same : b ≡ c = ap (λ (xs : List ℕ). get_or xs 0 0) whole in
    let unquoted : is_quote c ≡ false = ap is_quote (sym same) ∙ unquote in
    let unblank : ℕ → Bool = λ d. not (is_blank d) in
    let all : list_all unblank (c ∷ cs ++ bad ∷ after) ≡ true = ap (list_all unblank) (sym whole) ∙ none in
    let parts = and_parts (list_all unblank (c ∷ cs)) (list_all unblank (bad ∷ after)) (sym (list_all-append unblank (c ∷ cs) (bad ∷ after)) ∙ all) in
    rw unquoted (all_both is_text_byte unblank (c ∷ cs) text parts.0)

plain_bad : (b : ℕ) (word after : List ℕ) → is_quote b ≡ false → list_all (λ c. not (is_blank c)) (b ∷ word) ≡ true → list_all is_text_byte (b ∷ word) ≡ false → HasBadByte ((b ∷ word) ++ after)
plain_bad b word after unquote none fails =
    let found = first_bad (b ∷ word) fails in
    record {
      blanks = [];
      front = found.front;
      bad = found.bad;
      after = found.after ++ after;
      are_blanks = refl;
      is_front = plain_front found.front b found.bad word found.after unquote none found.are_text found.whole;
      is_bad = found.is_bad;
      whole = ap (λ (xs : List ℕ). xs ++ after) found.whole ∙ append_assoc found.front (found.bad ∷ found.after) after;
    }

plain_comes : (b : ℕ) (bs : List ℕ) → is_blank b ≡ false → is_quote b ≡ false → ComesNext (b ∷ bs) (plain_at (b ∷ bs))
plain_comes b bs unblank unquote =
    let word = before_first is_blank bs in
    let after = drop (position_or_len is_blank bs) bs in
    let split : (b ∷ word) ++ after ≡ b ∷ bs = ap (λ (xs : List ℕ). b ∷ xs) (take-append-drop (position_or_len is_blank bs) bs) in
    let none : list_all (λ c. not (is_blank c)) (b ∷ word) ≡ true = rw unblank (before_first-none is_blank bs) in
    rw (before_first-no is_blank b bs unblank, drop_to-no is_blank b bs unblank)
    (elim (list_all is_text_byte (b ∷ word)) as (λ v. list_all is_text_byte (b ∷ word) ≡ v → ComesNext (b ∷ bs) (cond v (Ok (Some (plain_text (b ∷ word), after))) (Err BadByte))) [
      | true ↦ λ e. record {
        blanks = [];
        are_blanks = refl;
        is_writable = (unquote, all_both is_text_byte (λ c. not (is_blank c)) (b ∷ word) e none);
        ends = begins-ends after (drop_to-begins is_blank bs);
        whole = sym split;
      }
      | false ↦ λ e. subst HasBadByte split (plain_bad b word after unquote none e)
    ] refl)

quoted_bad : (text after : List ℕ) → list_all (λ c. not (is_quote c)) text ≡ true → list_all is_text_byte text ≡ false → HasBadByte (34 ∷ (text ++ after))
quoted_bad text after none fails =
    let found = first_bad text fails in
    let unquote : ℕ → Bool = λ c. not (is_quote c) in
    let all : list_all unquote (found.front ++ found.bad ∷ found.after) ≡ true = ap (list_all unquote) (sym found.whole) ∙ none in
    let parts = and_parts (list_all unquote found.front) (list_all unquote (found.bad ∷ found.after)) (sym (list_all-append unquote found.front (found.bad ∷ found.after)) ∙ all) in
    record {
      blanks = [];
      front = 34 ∷ found.front;
      bad = found.bad;
      after = found.after ++ after;
      are_blanks = refl;
      is_front = all_both is_text_byte unquote found.front found.are_text parts.0;
      is_bad = found.is_bad;
      whole = ap (λ (xs : List ℕ). 34 ∷ (xs ++ after)) found.whole ∙ ap (λ (xs : List ℕ). 34 ∷ xs) (append_assoc found.front (found.bad ∷ found.after) after);
    }

closed_comes : (text after : List ℕ) → list_all is_quotable_byte text ≡ true → BeginsWith is_quote after → ComesNext (34 ∷ (text ++ after)) (closed_at text after)
closed_comes text [] quotable begins = record {
  blanks = [];
  text = text;
  after = [];
  are_blanks = refl;
  is_quotable = quotable;
  is_unclosed = tt;
  whole = refl;
}
closed_comes text (b ∷ after) quotable begins =
    elim (ends_word after) as (λ v. ends_word after ≡ v → ComesNext (34 ∷ (text ++ b ∷ after)) (cond v (Ok (Some (quoted_text text, after))) (Err Quote))) [
      | true ↦ λ e. record {
        blanks = [];
        are_blanks = refl;
        is_writable = quotable;
        ends = e;
        whole = ap (λ (c : ℕ). 34 ∷ (text ++ c ∷ after)) (eqb-true b 34 begins) ∙ ap (λ (xs : List ℕ). 34 ∷ xs) (sym (append_assoc text (34 ∷ []) after));
      }
      | false ↦ λ e. record {
        blanks = [];
        text = text;
        after = b ∷ after;
        are_blanks = refl;
        is_quotable = quotable;
        is_unclosed = (begins, e);
        whole = refl;
      }
    ] refl

quoted_comes : (bs : List ℕ) → ComesNext (34 ∷ bs) (quoted_at bs)
quoted_comes bs =
    let text = before_first is_quote bs in
    let after = drop (position_or_len is_quote bs) bs in
    let none = before_first-none is_quote bs in
    let split : 34 ∷ (text ++ after) ≡ 34 ∷ bs = ap (λ (xs : List ℕ). 34 ∷ xs) (take-append-drop (position_or_len is_quote bs) bs) in
    elim (list_all is_text_byte text) as (λ v. list_all is_text_byte text ≡ v → ComesNext (34 ∷ bs) (cond v (closed_at text after) (Err BadByte))) [
      | true ↦ λ e. subst (λ (line : List ℕ). ComesNext line (closed_at text after)) split (closed_comes text after (all_both is_text_byte (λ c. not (is_quote c)) text e none) (drop_to-begins is_quote bs))
      | false ↦ λ e. subst HasBadByte split (quoted_bad text after none e)
    ] refl

word_comes : (b : ℕ) (bs : List ℕ) → is_blank b ≡ false → ComesNext (b ∷ bs) (word_at (b ∷ bs))
word_comes b bs unblank =
    elim (is_quote b) as (λ v. is_quote b ≡ v → ComesNext (b ∷ bs) (cond v (quoted_at bs) (plain_at (b ∷ bs)))) [
      | true ↦ λ e. subst (λ (c : ℕ). ComesNext (c ∷ bs) (quoted_at bs)) (sym (eqb-true b 34 e)) (quoted_comes bs)
      | false ↦ λ e. plain_comes b bs unblank e
    ] refl

-- what is found is what comes next
pub found_comes : (line : List ℕ) → ComesNext line (next_word_of line)
unfolding next_word_of
found_comes [] = refl
found_comes (b ∷ bs) =
    elim (is_blank b) as (λ v. is_blank b ≡ v → ComesNext (b ∷ bs) (word_at (cond v (without_blanks bs) (b ∷ bs)))) [
      | true ↦ λ e. behind_blank b bs (next_word_of bs) e (found_comes bs)
      | false ↦ λ e. word_comes b bs e
    ] refl

-- The way back: what comes next is what is found.

skips_blanks : (blanks rest : List ℕ) → list_all is_blank blanks ≡ true → next_word_of (blanks ++ rest) ≡ next_word_of rest
unfolding next_word_of
skips_blanks [] rest all = refl
skips_blanks (b ∷ bs) rest all =
    let parts = and_parts (is_blank b) (list_all is_blank bs) all in
    rw parts.0 (skips_blanks bs rest parts.1)

-- a blank line has no word
pub finds_none : (line : List ℕ) → list_all is_blank line ≡ true → next_word_of line ≡ Ok None
unfolding next_word_of
finds_none [] all = refl
finds_none (b ∷ bs) all =
    let parts = and_parts (is_blank b) (list_all is_blank bs) all in
    rw parts.0 (finds_none bs parts.1)

-- a plain word, and a text in quotes
plain_at-word : (word after : List ℕ) → list_all is_plain_byte word ≡ true → BeginsWith is_blank after → plain_at (word ++ after) ≡ Ok (Some (plain_text word, after))
plain_at-word word after plain begins =
    let none = all_second is_text_byte (λ c. not (is_blank c)) word plain in
    rw (position-append is_blank word after none begins, take_at word after (length word) refl, drop_at word after (length word) refl, all_first is_text_byte (λ c. not (is_blank c)) word plain) refl

finds_plain : (word after : List ℕ) → IsPlain word → BeginsWith is_blank after → next_word_of (word ++ after) ≡ Ok (Some (plain_text word, after))
unfolding next_word_of
finds_plain [] after plain begins = absurd plain
finds_plain (b ∷ bs) after plain begins =
    let none = all_second is_text_byte (λ c. not (is_blank c)) (b ∷ bs) plain.1 in
    let unblank = not-true (is_blank b) (and_parts (not (is_blank b)) (list_all (λ c. not (is_blank c)) bs) none).0 in
    rw (unblank, plain.0) (plain_at-word (b ∷ bs) after plain.1 begins)

quoted_at-text : (text after : List ℕ) → list_all is_quotable_byte text ≡ true → BeginsWith is_quote after → quoted_at (text ++ after) ≡ closed_at text after
quoted_at-text text after quotable begins =
    let none = all_second is_text_byte (λ c. not (is_quote c)) text quotable in
    rw (position-append is_quote text after none begins, take_at text after (length text) refl, drop_at text after (length text) refl, all_first is_text_byte (λ c. not (is_quote c)) text quotable) refl

next_word_of-quote : (bs : List ℕ) → next_word_of (34 ∷ bs) ≡ quoted_at bs
unfolding next_word_of
next_word_of-quote bs = refl

finds_quoted : (text after : List ℕ) → list_all is_quotable_byte text ≡ true → ends_word after ≡ true → next_word_of (quoted text ++ after) ≡ Ok (Some (quoted_text text, after))
finds_quoted text after quotable ends =
    ap next_word_of (ap (λ (xs : List ℕ). 34 ∷ xs) (append_assoc text (34 ∷ []) after))
    ∙ next_word_of-quote (text ++ 34 ∷ after)
    ∙ quoted_at-text text (34 ∷ after) quotable refl
    ∙ rw ends refl

-- a word behind blanks
pub finds_word : (line : List ℕ) (word : WordText) (after : List ℕ) → HasWord line word after → next_word_of line ≡ Ok (Some (word, after))
finds_word line (plain_text text) after has =
    ap next_word_of has.whole ∙ skips_blanks has.blanks (text ++ after) has.are_blanks ∙ finds_plain text after has.is_writable (ends-begins after has.ends)
finds_word line (quoted_text text) after has =
    ap next_word_of has.whole ∙ skips_blanks has.blanks (quoted text ++ after) has.are_blanks ∙ finds_quoted text after has.is_writable has.ends

-- a bad byte in a word that begins here
bad_plain : (b : ℕ) (bs : List ℕ) (bad : ℕ) (after : List ℕ) → is_quote b ≡ false → list_all is_plain_byte (b ∷ bs) ≡ true → is_text_byte bad ≡ false → next_word_of ((b ∷ bs) ++ bad ∷ after) ≡ Err BadByte
unfolding next_word_of
bad_plain b bs bad after unquote plain is_bad =
    let none = all_second is_text_byte (λ c. not (is_blank c)) (b ∷ bs) plain in
    let unblank = not-true (is_blank b) (and_parts (not (is_blank b)) (list_all (λ c. not (is_blank c)) bs) none).0 in
    let fails : list_all is_text_byte (before_first is_blank ((b ∷ bs) ++ bad ∷ after)) ≡ false = before_first-bad is_blank (b ∷ bs) bad after none (bad-unblank bad is_bad) is_bad in
    let found : plain_at ((b ∷ bs) ++ bad ∷ after) ≡ Err BadByte = rw fails refl in
    rw (unblank, unquote) found

bad_quoted : (text : List ℕ) (bad : ℕ) (after : List ℕ) → list_all is_quotable_byte text ≡ true → is_text_byte bad ≡ false → next_word_of (34 ∷ (text ++ bad ∷ after)) ≡ Err BadByte
bad_quoted text bad after quotable is_bad =
    let none = all_second is_text_byte (λ c. not (is_quote c)) text quotable in
    next_word_of-quote (text ++ bad ∷ after) ∙ rw (before_first-bad is_quote text bad after none (bad-unquote bad is_bad) is_bad) refl

bad_alone : (bad : ℕ) (after : List ℕ) → is_text_byte bad ≡ false → next_word_of (bad ∷ after) ≡ Err BadByte
unfolding next_word_of
bad_alone bad after is_bad =
    let unblank = bad-unblank bad is_bad in
    let found : plain_at (bad ∷ after) ≡ Err BadByte = rw (before_first-bad is_blank [] bad after refl unblank is_bad) refl in
    rw (unblank, bad-unquote bad is_bad) found

bad_in : (front : List ℕ) (bad : ℕ) (after : List ℕ) → IsWordFront front → is_text_byte bad ≡ false → next_word_of (front ++ bad ∷ after) ≡ Err BadByte
bad_in [] bad after is_front is_bad = bad_alone bad after is_bad
bad_in (b ∷ bs) bad after is_front is_bad =
    elim (is_quote b) as (λ v. is_quote b ≡ v → MatchBool v (list_all is_quotable_byte bs ≡ true) (list_all is_plain_byte (b ∷ bs) ≡ true) → next_word_of ((b ∷ bs) ++ bad ∷ after) ≡ Err BadByte) [
      | true ↦ λ e quotable. subst (λ (c : ℕ). next_word_of (c ∷ (bs ++ bad ∷ after)) ≡ Err BadByte) (sym (eqb-true b 34 e)) (bad_quoted bs bad after quotable is_bad)
      | false ↦ λ e plain. bad_plain b bs bad after e plain is_bad
    ] refl is_front

pub finds_bad_byte : (line : List ℕ) → HasBadByte line → next_word_of line ≡ Err BadByte
finds_bad_byte line has =
    ap next_word_of has.whole ∙ skips_blanks has.blanks (has.front ++ has.bad ∷ has.after) has.are_blanks ∙ bad_in has.front has.bad has.after has.is_front has.is_bad

unclosed_begins : (after : List ℕ) → IsUnclosed after → BeginsWith is_quote after
unclosed_begins [] unclosed = tt
unclosed_begins (b ∷ after) unclosed = unclosed.0

closed_at-unclosed : (text after : List ℕ) → IsUnclosed after → closed_at text after ≡ Err Quote
closed_at-unclosed text [] unclosed = refl
closed_at-unclosed text (b ∷ after) unclosed = rw unclosed.1 refl

-- a text in quotes that is not closed as it should be
pub finds_quote_fault : (line : List ℕ) → HasQuoteFault line → next_word_of line ≡ Err Quote
finds_quote_fault line has =
    ap next_word_of has.whole
    ∙ skips_blanks has.blanks (34 ∷ (has.text ++ has.after)) has.are_blanks
    ∙ next_word_of-quote (has.text ++ has.after)
    ∙ quoted_at-text has.text has.after has.is_quotable (unclosed_begins has.after has.is_unclosed)
    ∙ closed_at-unclosed has.text has.after has.is_unclosed

pub comes_found : (line : List ℕ) (found : Found) → ComesNext line found → next_word_of line ≡ found
comes_found line (Ok None) comes = finds_none line comes
comes_found line (Ok (Some found)) comes = finds_word line found.0 found.1 comes
comes_found line (Err BadByte) comes = finds_bad_byte line comes
comes_found line (Err Quote) comes = finds_quote_fault line comes

-- what is found is what comes next, and nothing else comes next
pub found_iff_comes : (line : List ℕ) (found : Found) → (next_word_of line ≡ found) ↔ ComesNext line found
found_iff_comes line found = (λ e. subst (ComesNext line) e (found_comes line), comes_found line found)

words-blank : (bs : List ℕ) → words_of (32 ∷ bs) ≡ words_of bs
words-blank bs = words_of-same (32 ∷ bs) bs (skips_blanks (32 ∷ []) bs refl)

has_written : (word : WordText) (after : List ℕ) → IsWritable word → ends_word after ≡ true → HasWord (written word ++ after) word after
has_written word after writable ends = record {
  blanks = [];
  are_blanks = refl;
  is_writable = writable;
  ends = ends;
  whole = refl;
}

-- words that are written with one space between them are read
pub words_of-written : (words : List WordText) → AllByRecursion IsWritable words → words_of (join_with_byte 32 (map written words)) ≡ map (λ word. Ok word) words
words_of-written [] all = found_none [] (finds_none [] refl)
words_of-written (word ∷ []) all =
    ap words_of (sym (append-nil (written word)))
    ∙ found_some (written word ++ []) [] word (finds_word (written word ++ []) word [] (has_written word [] all.0 refl))
    ∙ ap (λ (others : List (Result WordText WordFault)). Ok word ∷ others) (found_none [] (finds_none [] refl))
words_of-written (word ∷ other ∷ words) all =
    let others : List ℕ = join_with_byte 32 (map written (other ∷ words)) in
    found_some (written word ++ 32 ∷ others) (32 ∷ others) word (finds_word (written word ++ 32 ∷ others) word (32 ∷ others) (has_written word (32 ∷ others) all.0 refl))
    ∙ ap (λ (read : List (Result WordText WordFault)). Ok word ∷ read) (words-blank others ∙ words_of-written (other ∷ words) all.1)
