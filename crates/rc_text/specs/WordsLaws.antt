-- A line's words are the next word, and then those of what is left; and the next word is as the format says.
use Rattle.std.proofs.Common.{◌≡◌, ℕ, zero, suc, ◌+◌, ◌<◌, ◌≤◌, Bool, true, false, cond, List, [], ◌∷◌, length, drop, Option, Some, None, Result, Ok, Err, refl, ap, sym, ◌∙◌, arith}
use Rattle.std.specs.List.{list_all, before_first, position_or_len}
use Rattle.std.proofs.lemmas.List.{length-drop}
use Rattle.rc_text.specs.declared.words.WordFault.{WordFault}
use Rattle.rc_text.specs.declared.words.WordFault.TheVariants.{BadByte, Quote}
use Rattle.rc_text.specs.Bytes.{is_blank, is_quote, is_text_byte, without_blanks}
use Rattle.rc_text.specs.Words.{WordText, plain_text, quoted_text, Found, plain_at, ends_word, closed_at, quoted_at, word_at, next_word_of, words_within, words_of, found_then}

-- what a test let through
passed : (b : Bool) (found : Found) (fault : WordFault) (y : Option (WordText × List ℕ)) → cond b found (Err fault) ≡ Ok y → found ≡ Ok y
passed true found fault y e = e
passed false found fault y e = absurd cc

abbrev word_and_rest : WordText → List ℕ → Found
word_and_rest word after = Ok (Some (word, after))

abbrev found_word : WordText × List ℕ → Found
found_word x = Ok (Some x)

same_found : (x y : WordText × List ℕ) → found_word x ≡ found_word y → x ≡ y
same_found x y e = cc

same_rest : (word other : WordText) (after rest : List ℕ) → word_and_rest word after ≡ word_and_rest other rest → after ≡ rest
same_rest word other after rest e = ap (λ (x : WordText × List ℕ). x.1) (same_found (word, after) (other, rest) e)

closed_shorter : (text rest : List ℕ) (word : WordText) (after : List ℕ) → closed_at text rest ≡ word_and_rest word after → length after ≤ length rest
closed_shorter text [] word after e = absurd cc
closed_shorter text (quote ∷ rest) word after e =
    let same = same_rest (quoted_text text) word rest after (passed (ends_word rest) (word_and_rest (quoted_text text) rest) Quote (Some (word, after)) e) in
    omega (arith, ap length same)

quoted_shorter : (bytes : List ℕ) (word : WordText) (after : List ℕ) → quoted_at bytes ≡ word_and_rest word after → length after ≤ length bytes
quoted_shorter bytes word after e =
    let rest = drop (position_or_len is_quote bytes) bytes in
    let closed = passed (list_all is_text_byte (before_first is_quote bytes)) (closed_at (before_first is_quote bytes) rest) BadByte (Some (word, after)) e in
    omega (arith, closed_shorter (before_first is_quote bytes) rest word after closed, length-drop (position_or_len is_quote bytes) bytes)

plain_shorter : (b : ℕ) (bs : List ℕ) (word : WordText) (after : List ℕ) → is_blank b ≡ false → plain_at (b ∷ bs) ≡ word_and_rest word after → length after ≤ length bs
plain_shorter b bs word after unblank e =
    let bytes : List ℕ = b ∷ bs in
    let rest : List ℕ = drop (position_or_len is_blank bytes) bytes in
    let same = same_rest (plain_text (before_first is_blank bytes)) word rest after (passed (list_all is_text_byte (before_first is_blank bytes)) (word_and_rest (plain_text (before_first is_blank bytes)) rest) BadByte (Some (word, after)) e) in
    let one : position_or_len is_blank bytes ≡ 1 + position_or_len is_blank bs = rw unblank refl in
    omega (arith, ap length same, length-drop (position_or_len is_blank bytes) bytes, one)

word_shorter : (b : ℕ) (bs : List ℕ) (word : WordText) (after : List ℕ) → is_blank b ≡ false → word_at (b ∷ bs) ≡ word_and_rest word after → length after < length (b ∷ bs)
word_shorter b bs word after unblank =
    elim (is_quote b) as (λ v. cond v (quoted_at bs) (plain_at (b ∷ bs)) ≡ word_and_rest word after → length after < length (b ∷ bs)) [
      | true ↦ λ e. omega (arith, quoted_shorter bs word after e)
      | false ↦ λ e. omega (arith, plain_shorter b bs word after unblank e)
    ]

-- a word takes at least a byte
pub found_shorter : (bytes : List ℕ) (word : WordText) (after : List ℕ) → next_word_of bytes ≡ Ok (Some (word, after)) → length after < length bytes
unfolding next_word_of
found_shorter [] word after e = absurd cc
found_shorter (b ∷ bs) word after e =
    elim (is_blank b) as (λ v. is_blank b ≡ v → word_at (cond v (without_blanks bs) (b ∷ bs)) ≡ word_and_rest word after → length after < length (b ∷ bs)) [
      | true ↦ λ _ h. omega (arith, found_shorter bs word after h)
      | false ↦ λ unblank h. word_shorter b bs word after unblank h
    ] refl e

found_then-same : (found : Found) (f g : List ℕ → List (Result WordText WordFault)) → ((word : WordText) (after : List ℕ) → found ≡ word_and_rest word after → f after ≡ g after) → found_then found f ≡ found_then found g
found_then-same (Ok None) f g same = refl
found_then-same (Ok (Some x)) f g same = ap (λ (words : List (Result WordText WordFault)). Ok x.0 ∷ words) (same x.0 x.1 refl)
found_then-same (Err fault) f g same = refl

words_within-more : (m n : ℕ) (bytes : List ℕ) → length bytes ≤ m → length bytes ≤ n → words_within m bytes ≡ words_within n bytes
unfolding next_word_of
words_within-more zero zero bytes at_m at_n = refl
words_within-more zero (suc n) [] at_m at_n = refl
words_within-more zero (suc n) (b ∷ bs) at_m at_n = absurd (omega arith)
words_within-more (suc m) zero [] at_m at_n = refl
words_within-more (suc m) zero (b ∷ bs) at_m at_n = absurd (omega arith)
words_within-more (suc m) (suc n) bytes at_m at_n =
    found_then-same (next_word_of bytes) (words_within m) (words_within n) (λ word after e.
    let shorter = found_shorter bytes word after e in
    words_within-more m n after (omega arith) (omega arith))

pub words_of-step : (bytes : List ℕ) → words_of bytes ≡ found_then (next_word_of bytes) words_of
unfolding words_of next_word_of
words_of-step [] = refl
words_of-step (b ∷ bs) =
    found_then-same (next_word_of (b ∷ bs)) (words_within (length bs)) words_of (λ word after e.
    let shorter = found_shorter (b ∷ bs) word after e in
    words_within-more (length bs) (length after) after (omega arith) (omega arith))

-- the words of a line by what stands first
pub found_none : (bytes : List ℕ) → next_word_of bytes ≡ Ok None → words_of bytes ≡ []
found_none bytes e = words_of-step bytes ∙ ap (λ (found : Found). found_then found words_of) e

pub found_some : (bytes after : List ℕ) (word : WordText) → next_word_of bytes ≡ Ok (Some (word, after)) → words_of bytes ≡ Ok word ∷ words_of after
found_some bytes after word e = words_of-step bytes ∙ ap (λ (found : Found). found_then found words_of) e

pub found_fault : (bytes : List ℕ) (fault : WordFault) → next_word_of bytes ≡ Err fault → words_of bytes ≡ Err fault ∷ []
found_fault bytes fault e = words_of-step bytes ∙ ap (λ (found : Found). found_then found words_of) e

-- lines with the same next word have the same words
pub words_of-same : (xs ys : List ℕ) → next_word_of xs ≡ next_word_of ys → words_of xs ≡ words_of ys
words_of-same xs ys e = words_of-step xs ∙ ap (λ (found : Found). found_then found words_of) e ∙ sym (words_of-step ys)
