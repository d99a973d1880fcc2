-- What form words have.
use Rattle.std.proofs.Common.{◌≡◌, ℕ, ◌<◌, ◌≤◌, Bool, true, false, List, [], ◌∷◌, ◌++◌, length, Option, Some, refl, ap, ◌∙◌, arith, codes}
use Rattle.rc_text_laws.specs.Imports.{list_any, position_or_len, is_number, ColKind, Num, Text, EdgeKind, FormText, header_line, column_line, dependency_line, node_line, edge_line, lock_line, place_line, query_line, insert_line, remove_line, update_line, end_line, is_arrow, is_colon, split_at_arrow, split_at_colon, split_ranges, stripes_read, dependency_of, dependency_by, query_of, query_by, HasUpdates, Version, One, Two}
use Rattle.std.proofs.lemmas.Bool.{or_parts}
use Rattle.std.proofs.lemmas.List.{take_all, take_at, drop_all, drop_at}
use Rattle.rc_spec.specs.declared.items.EdgeKind.TheVariants as edge_kinds
use Rattle.rc_reader.specs.Forms.{form_of}
use Rattle.rc_text_laws.specs.Written.{asked_words, words_of_form, LackArrow, LackColon, MayAsk, HasForm}

-- ---- the words before and behind a mark

module _ (is_mark : List ℕ → Bool) where
  mark_place : (left : List (List ℕ)) (mark : List ℕ) (right : List (List ℕ)) → list_any is_mark left ≡ false
      → is_mark mark ≡ true → position_or_len is_mark (left ++ mark ∷ right) ≡ length left
  mark_place [] mark right lack is = rw is refl
  mark_place (word ∷ left) mark right lack is =
      let parts = or_parts (is_mark word) (list_any is_mark left) lack in
      rw (parts.0, mark_place left mark right parts.1 is) (omega arith)

  no_mark : (words : List (List ℕ)) → list_any is_mark words ≡ false → position_or_len is_mark words ≡ length words
  no_mark [] lack = refl
  no_mark (word ∷ words) lack =
      let parts = or_parts (is_mark word) (list_any is_mark words) lack in
      rw (parts.0, no_mark words parts.1) (omega arith)

pub split_written : (left right : List (List ℕ)) → LackArrow left → LackArrow right
    → split_at_arrow (left ++ codes "->" ∷ right) ≡ Some (left, right)
split_written left right lack_left lack_right =
    rw (
      mark_place is_arrow left (codes "->") right lack_left refl,
      take_at left (codes "->" ∷ right) (length left)
          refl,
      drop_at left (codes "->" ∷ right) (length left) refl,
    )
    (rw lack_right refl)

itself : (n : ℕ) → n ≤ n
itself n = omega arith

colon_written : (pattern ranges : List (List ℕ)) → LackColon pattern
    → split_at_colon (asked_words pattern ranges) ≡ Some (pattern, ranges)
colon_written pattern [] lack =
    rw (
      no_mark is_colon pattern lack,
      take_all (length pattern) pattern (itself (length pattern)),
      drop_all (length pattern) pattern (itself (length pattern)),
    ) refl
colon_written pattern (first ∷ others) lack =
    rw (
      mark_place is_colon pattern (codes ":") (first ∷ others) lack refl,
      take_at pattern (codes ":" ∷ first ∷ others) (length pattern) refl,
      drop_at pattern (codes ":" ∷ first ∷ others) (length pattern) refl,
    ) refl

pub ranges_written : (version : Version) (pattern ranges : List (List ℕ)) → MayAsk version pattern ranges
    → split_ranges version (asked_words pattern ranges) ≡ Some (pattern, ranges)
ranges_written One pattern [] may = refl
ranges_written One pattern (first ∷ others) may = absurd cc
ranges_written Two pattern ranges may = colon_written pattern ranges may

-- ---- words that have a form are read as it

header_read : (version : Version) → form_of version (words_of_form version header_line) ≡ Some header_line
unfolding form_of
header_read One = refl
header_read Two = refl

column_read : (version : Version) (name : List ℕ) (kind : ColKind)
    → form_of version (words_of_form version (column_line name kind)) ≡ Some (column_line name kind)
unfolding form_of
column_read version name Num = refl
column_read version name Text = refl

right_read : (left right : List (List ℕ)) → 0 < length right
    → dependency_of left right ≡ Some (dependency_line left right)
right_read left [] more = absurd (omega arith)
right_read left (word ∷ words) more = refl

dependency_read : (version : Version) (left right : List (List ℕ)) → LackArrow left → LackArrow right → 0 < length right
    → form_of version (words_of_form version (dependency_line left right)) ≡ Some (dependency_line left right)
unfolding form_of
dependency_read version left right lack_left lack_right more =
    ap dependency_by (split_written left right lack_left lack_right) ∙ right_read left right more

node_read : (version : Version) (name : List ℕ) (columns : List (List ℕ))
    → form_of version (words_of_form version (node_line name columns)) ≡ Some (node_line name columns)
unfolding form_of
node_read version name columns = refl

edge_read : (version : Version) (name from to : List ℕ) (kind : EdgeKind) (key : List (List ℕ))
    → form_of version (words_of_form version (edge_line name from to kind key)) ≡ Some (edge_line name from to kind key)
unfolding form_of
edge_read version name from to edge_kinds.Hash key = refl
edge_read version name from to edge_kinds.Ordered key = refl
edge_read version name from to edge_kinds.List key = refl
edge_read version name from to edge_kinds.Singleton key = refl

lock_read : (version : Version) (name digits : List ℕ) (number : Option ℕ) (columns : List (List ℕ)) → is_number digits ≡ true
    → stripes_read digits ≡ number
    → form_of version (codes "lock" ∷ name ∷ digits ∷ columns) ≡ Some (lock_line name number columns)
unfolding form_of
lock_read version name digits number columns are_digits value =
    rw are_digits (ap (λ stripes. Some (lock_line name stripes columns)) value)

place_read : (version : Version) (edge class : List ℕ)
    → form_of version (words_of_form version (place_line edge class)) ≡ Some (place_line edge class)
unfolding form_of
place_read version edge class = refl

query_read : (version : Version) (name : List ℕ) (pattern ranges outs : List (List ℕ)) → MayAsk version pattern ranges
    → LackArrow (asked_words pattern ranges) → LackArrow outs
    → form_of version (words_of_form version (query_line name pattern ranges outs))
    ≡ Some (query_line name pattern ranges outs)
unfolding form_of
query_read version name pattern ranges outs may lack_asked lack_outs =
    ap (query_by version name) (split_written (asked_words pattern ranges) outs lack_asked lack_outs)
    ∙ ap (λ found. query_of name found outs) (ranges_written version pattern ranges may)

insert_read : (version : Version) (name : List ℕ) (pattern : List (List ℕ))
    → form_of version (words_of_form version (insert_line name pattern)) ≡ Some (insert_line name pattern)
unfolding form_of
insert_read version name pattern = refl

remove_read : (version : Version) (name : List ℕ) (pattern : List (List ℕ))
    → form_of version (words_of_form version (remove_line name pattern)) ≡ Some (remove_line name pattern)
unfolding form_of
remove_read version name pattern = refl

update_read : (version : Version) (name : List ℕ) (pattern : List (List ℕ)) → HasUpdates version
    → form_of version (words_of_form version (update_line name pattern)) ≡ Some (update_line name pattern)
unfolding form_of
update_read One name pattern has = absurd has
update_read Two name pattern has = refl

end_read : (version : Version) → form_of version (words_of_form version end_line) ≡ Some end_line
unfolding form_of
end_read version = refl

pub form_read : (version : Version) (words : List (List ℕ)) (form : FormText) → HasForm version words form
    → form_of version words ≡ Some form
form_read version words header_line has = ap (form_of version) has ∙ header_read version
form_read version words (column_line name kind) has = ap (form_of version) has ∙ column_read version name kind
form_read version words (dependency_line left right) has =
    ap (form_of version) has.0 ∙ dependency_read version left right has.1 has.2 has.3
form_read version words (node_line name columns) has = ap (form_of version) has ∙ node_read version name columns
form_read version words (edge_line name from to kind key) has = ap (form_of version) has ∙ edge_read version name from to kind key
form_read version words (lock_line name number columns) (digits, has, are_digits, value) =
    ap (form_of version) has ∙ lock_read version name digits number columns are_digits value
form_read version words (place_line edge class) has = ap (form_of version) has ∙ place_read version edge class
form_read version words (query_line name pattern ranges outs) has =
    ap (form_of version) has.0 ∙ query_read version name pattern ranges outs has.1 has.2 has.3
form_read version words (insert_line name pattern) has = ap (form_of version) has ∙ insert_read version name pattern
form_read version words (remove_line name pattern) has = ap (form_of version) has ∙ remove_read version name pattern
form_read version words (update_line name pattern) has =
    ap (form_of version) has.0 ∙ update_read version name pattern has.1
form_read version words end_line has = ap (form_of version) has ∙ end_read version
