-- The words of a reply determine it, where its operation is known.
use Rattle.std.proofs.Common.{◌≡◌, ℕ, List, [], ◌∷◌, ◌++◌, length, map, inl, refl, sym, ap, ◌∙◌, arith}
use Rattle.rc_text_laws.specs.Imports.{codes, zip, decimal, OpKind, Query, Insert, Remove, Update, Reply, Rows, Many, Inserted, Present, Conflict, Removed, Updated, Absent, Spec, spaced, row_text, reply_words, outs_of, AreTexts, decimal_one, decimal_not}
use Rattle.std.proofs.lemmas.List.{append_cancel_left}
use Rattle.rc_text_laws.specs.LinesLaws.{IsReplyOf, rows_one, row_one, tail_of}

head_of : (x y : ℕ) (xs ys : List ℕ) → x ∷ xs ≡ y ∷ ys → x ≡ y
head_of x y xs ys e = cc

-- the second bytes differ
differ : (x y : ℕ) (xs ys : List ℕ) → (x ≡ y → ⊥) → 32 ∷ x ∷ xs ≡ 32 ∷ y ∷ ys → ⊥
differ x y xs ys f e = f (head_of x y xs ys (tail_of 32 32 (x ∷ xs) (y ∷ ys) e))

module _ (spec : Spec) (texts : List (List ℕ)) (good : AreTexts texts) where
  row_words : List ℕ → List (List ℕ) → List ℕ
  row_words outs rows = spaced (map (λ row. row_text spec texts (zip outs row)) rows)

  query_one : (outs ranges : List ℕ) (r s : Reply) → IsReplyOf spec texts (Query outs ranges) r
      → IsReplyOf spec texts (Query outs ranges) s
      → spaced (reply_words spec texts outs r) ≡ spaced (reply_words spec texts outs s) → r ≡ s
  unfolding row_words
  query_one outs ranges (Rows rows) (Rows others) h k e =
      let line = tail_of 32 32 (decimal (length rows) ++ 32 ∷ (codes "rows" ++ row_words outs rows))
      (decimal (length others) ++ 32 ∷ (codes "rows" ++ row_words outs others)) e in
      let both = decimal_one (length rows) (length others)
      (32 ∷ (codes "rows" ++ row_words outs rows))
      (32 ∷ (codes "rows" ++ row_words outs others)) h.0 k.0 (inl refl) (inl refl) line in
      ap Rows
      (rows_one spec texts outs rows others good h.1 k.1 (append_cancel_left (32 ∷ codes "rows") (row_words outs rows) (row_words outs others) both.1))
  query_one outs ranges (Rows rows) (Many n) h k e =
      absurd
      (decimal_not (length rows) (32 ∷ (codes "rows" ++ row_words outs rows)) 109 (97 ∷ 110 ∷ 121 ∷ 32 ∷ (decimal n ++ [])) h.0 (inl refl) refl
      (tail_of 32 32 (decimal (length rows) ++ 32 ∷ (codes "rows" ++ row_words outs rows)) (109 ∷ 97 ∷ 110 ∷ 121 ∷ 32 ∷ (decimal n ++ [])) e))
  query_one outs ranges (Many n) (Rows rows) h k e =
      absurd
      (decimal_not (length rows) (32 ∷ (codes "rows" ++ row_words outs rows)) 109 (97 ∷ 110 ∷ 121 ∷ 32 ∷ (decimal n ++ [])) k.0 (inl refl) refl
      (tail_of 32 32 (decimal (length rows) ++ 32 ∷ (codes "rows" ++ row_words outs rows)) (109 ∷ 97 ∷ 110 ∷ 121 ∷ 32 ∷ (decimal n ++ [])) (sym e)))
  query_one outs ranges (Many n) (Many m) h k e =
      ap Many
      (decimal_one n m [] [] h k tt tt (append_cancel_left (32 ∷ 109 ∷ 97 ∷ 110 ∷ 121 ∷ 32 ∷ []) (decimal n ++ []) (decimal m ++ []) e)).0
  query_one outs ranges Inserted s h k e = absurd h
  query_one outs ranges Present s h k e = absurd h
  query_one outs ranges (Conflict j) s h k e = absurd h
  query_one outs ranges (Removed t) s h k e = absurd h
  query_one outs ranges (Updated t) s h k e = absurd h
  query_one outs ranges Absent s h k e = absurd h
  query_one outs ranges r Inserted h k e = absurd k
  query_one outs ranges r Present h k e = absurd k
  query_one outs ranges r (Conflict j) h k e = absurd k
  query_one outs ranges r (Removed t) h k e = absurd k
  query_one outs ranges r (Updated t) h k e = absurd k
  query_one outs ranges r Absent h k e = absurd k

  insert_one : (r s : Reply) → IsReplyOf spec texts Insert r → IsReplyOf spec texts Insert s
      → spaced (reply_words spec texts [] r) ≡ spaced (reply_words spec texts [] s) → r ≡ s
  insert_one Inserted Inserted h k e = refl
  insert_one Present Present h k e = refl
  insert_one (Conflict i) (Conflict j) h k e =
      ap Conflict
      (decimal_one i j [] [] h k tt tt (append_cancel_left (32 ∷ (codes "conflict" ++ 32 ∷ [])) (decimal i ++ []) (decimal j ++ []) e)).0
  insert_one Inserted Present h k e = absurd (differ 105 112 _ _ (λ f. omega arith) e)
  insert_one Inserted (Conflict j) h k e = absurd (differ 105 99 _ _ (λ f. omega arith) e)
  insert_one Present Inserted h k e = absurd (differ 112 105 _ _ (λ f. omega arith) e)
  insert_one Present (Conflict j) h k e = absurd (differ 112 99 _ _ (λ f. omega arith) e)
  insert_one (Conflict i) Inserted h k e = absurd (differ 99 105 _ _ (λ f. omega arith) e)
  insert_one (Conflict i) Present h k e = absurd (differ 99 112 _ _ (λ f. omega arith) e)
  insert_one (Rows rows) s h k e = absurd h
  insert_one (Many n) s h k e = absurd h
  insert_one (Removed t) s h k e = absurd h
  insert_one (Updated t) s h k e = absurd h
  insert_one Absent s h k e = absurd h
  insert_one r (Rows rows) h k e = absurd k
  insert_one r (Many n) h k e = absurd k
  insert_one r (Removed t) h k e = absurd k
  insert_one r (Updated t) h k e = absurd k
  insert_one r Absent h k e = absurd k

  remove_one : (r s : Reply) → IsReplyOf spec texts Remove r → IsReplyOf spec texts Remove s
      → spaced (reply_words spec texts [] r) ≡ spaced (reply_words spec texts [] s) → r ≡ s
  remove_one (Removed t) (Removed u) h k e =
      ap Removed
      (row_one spec texts t u [] [] good (h.0 ∙ sym k.0) h.1 k.1 (append_cancel_left (32 ∷ (codes "removed" ++ 32 ∷ [])) (row_text spec texts t ++ []) (row_text spec texts u ++ []) e)).0
  remove_one Absent Absent h k e = refl
  remove_one (Removed t) Absent h k e = absurd (differ 114 97 _ _ (λ f. omega arith) e)
  remove_one Absent (Removed t) h k e = absurd (differ 97 114 _ _ (λ f. omega arith) e)
  remove_one (Rows rows) s h k e = absurd h
  remove_one (Many n) s h k e = absurd h
  remove_one Inserted s h k e = absurd h
  remove_one Present s h k e = absurd h
  remove_one (Conflict j) s h k e = absurd h
  remove_one (Updated t) s h k e = absurd h
  remove_one r (Rows rows) h k e = absurd k
  remove_one r (Many n) h k e = absurd k
  remove_one r Inserted h k e = absurd k
  remove_one r Present h k e = absurd k
  remove_one r (Conflict j) h k e = absurd k
  remove_one r (Updated t) h k e = absurd k

  update_one : (r s : Reply) → IsReplyOf spec texts Update r → IsReplyOf spec texts Update s
      → spaced (reply_words spec texts [] r) ≡ spaced (reply_words spec texts [] s) → r ≡ s
  update_one (Updated t) (Updated u) h k e =
      ap Updated
      (row_one spec texts t u [] [] good (h.0 ∙ sym k.0) h.1 k.1 (append_cancel_left (32 ∷ (codes "updated" ++ 32 ∷ [])) (row_text spec texts t ++ []) (row_text spec texts u ++ []) e)).0
  update_one (Conflict i) (Conflict j) h k e =
      ap Conflict
      (decimal_one i j [] [] h k tt tt (append_cancel_left (32 ∷ (codes "conflict" ++ 32 ∷ [])) (decimal i ++ []) (decimal j ++ []) e)).0
  update_one Absent Absent h k e = refl
  update_one (Updated t) (Conflict j) h k e = absurd (differ 117 99 _ _ (λ f. omega arith) e)
  update_one (Updated t) Absent h k e = absurd (differ 117 97 _ _ (λ f. omega arith) e)
  update_one (Conflict j) (Updated t) h k e = absurd (differ 99 117 _ _ (λ f. omega arith) e)
  update_one (Conflict j) Absent h k e = absurd (differ 99 97 _ _ (λ f. omega arith) e)
  update_one Absent (Updated t) h k e = absurd (differ 97 117 _ _ (λ f. omega arith) e)
  update_one Absent (Conflict j) h k e = absurd (differ 97 99 _ _ (λ f. omega arith) e)
  update_one (Rows rows) s h k e = absurd h
  update_one (Many n) s h k e = absurd h
  update_one Inserted s h k e = absurd h
  update_one Present s h k e = absurd h
  update_one (Removed t) s h k e = absurd h
  update_one r (Rows rows) h k e = absurd k
  update_one r (Many n) h k e = absurd k
  update_one r Inserted h k e = absurd k
  update_one r Present h k e = absurd k
  update_one r (Removed t) h k e = absurd k

  pub reply_one : (kind : OpKind) (r s : Reply) → IsReplyOf spec texts kind r
      → IsReplyOf spec texts kind s
      → spaced (reply_words spec texts (outs_of kind) r)
      ≡ spaced (reply_words spec texts (outs_of kind) s)
      → r ≡ s
  reply_one (Query outs ranges) r s h k e = query_one outs ranges r s h k e
  reply_one Insert r s h k e = insert_one r s h k e
  reply_one Remove r s h k e = remove_one r s h k e
  reply_one Update r s h k e = update_one r s h k e
