-- What clap makes of the words, and which command they are.
use Rattle.std.proofs.Common.{ℕ, ◌≡◌, ◌∙◌, ◌⊎◌, ◌||◌, inl, inr, Bool, true, false, List, [], ◌∷◌, Option, Some, None, option_map, codes, find, refl, sym, ap, ap₂, subst, drop, unwrap_or}
use Rattle.rc_command.proofs.Imports.{list_any, bytes_eq, bytes_eq-Decides, long_of, short_of, Held, Names, Step, Walk, after_step, answers_to, finished, idle, settled, nothing_held, subcommand_met, value, walk, walk_from, walked, word_met, label_of, names_of, or_else, check_fault, defaults_fault, entered_fault, level_fault, settle_fault, step_fault, stray_fault, turn_fault, walk_fault, word_fault, App, IsAmong, Kinds, Row, Rule, Shape, Text, built, fault_of, subcommand_name_of, subcommand_of, subcommand_rows_of, ErrorKind, ArgMatches, reading_of, CommandLine, walk_stopped, command_of, Command, grammar, is_flag, met, met_as}
use Rattle.clap.specs.declared.builder.value_parser.ValueParser.TheVariants as vp
use Rattle.clap.proofs.OnLiterals.{clap_on_literals}

-- ---- a word that is neither a flag nor a name

both_empty : (first next : Kinds) → or_else first next ≡ [] → (first ≡ []) × (next ≡ [])
both_empty [] next e = (refl, e)
both_empty (k ∷ ks) next e = cc

plain_long : (word : Text) → is_flag word ≡ false → long_of word ≡ None
plain_long [] e = refl
plain_long (byte ∷ rest) e = rw e refl

plain_short : (word : Text) → is_flag word ≡ false → short_of word ≡ None
plain_short [] e = refl
plain_short (byte ∷ rest) e = rw e refl

plain_dashes : (word : Text) → is_flag word ≡ false → bytes_eq word (45 ∷ 45 ∷ []) ≡ false
plain_dashes [] e = refl
plain_dashes (byte ∷ rest) e = rw e refl

stray_fails : (s : Shape) → stray_fault s ≡ [] → ⊥
stray_fails s e = go s.is_leaf e
  where
    go : (leaf : Bool) → stray_fault (record s { is_leaf = leaf }) ≡ [] → ⊥
    go true e = cc
    go false e = cc

turn_is_stray : (s : Shape) (names : Names) (word : Text) → s.rules ≡ [] → subcommand_met names idle word ≡ None → is_flag word ≡ false
    → turn_fault s names (walk_from nothing_held) word ≡ stray_fault s
turn_is_stray s names word none met plain =
    let long = plain_long word plain in
    let short = plain_short word plain in
    let dashes = plain_dashes word plain in
    rw (met, dashes, long, short, none) refl

stray_word : (s : Shape) (names : Names) (word : Text) (words : List Text) (has_subcommand : Bool) (below : Kinds)
    → s.rules ≡ [] → subcommand_met names idle word ≡ None → is_flag word ≡ false
    → level_fault s names nothing_held (word ∷ words) has_subcommand below ≡ [] → ⊥
unfolding clap_on_literals
stray_word s names word words has_subcommand below none met plain e =
    let walk_is = (both_empty _ _ e).0 in
    let turn_is = (both_empty _ _ walk_is).0 in
    stray_fails s (sym (turn_is_stray s names word none met plain) ∙ turn_is)

-- ---- the words behind `big`

-- clap waits for the positional of a place
abbrev standing : Held → ℕ → Walk
standing held position = record { held = held; waiting = idle; position = position; is_trailing = false; stopped = None }

-- a word that is no flag goes to that positional
plain_met : (rules : List Rule) (position : ℕ) (word : Text) (h : Held) → is_flag word ≡ false → word_met rules [] false idle position word h ≡ (h, value)
plain_met rules position word h plain = rw (plain_dashes word plain, plain_long word plain, plain_short word plain) refl

plain_fault : (s : Shape) (word : Text) (h : Held) → is_flag word ≡ false → word_fault s [] false idle word h ≡ []
plain_fault s word h plain = rw (plain_dashes word plain, plain_long word plain, plain_short word plain) refl

plain_walked : (rules : List Rule) (held : Held) (position : ℕ) (word : Text) → is_flag word ≡ false
    → walked rules [] (standing held position) word ≡ after_step rules word (standing held position) held value
unfolding clap_on_literals
plain_walked rules held position word plain = ap (λ (m : Held × Step). after_step rules word (standing held position) m.0 m.1) (plain_met rules position word held plain)

plain_turn : (s : Shape) (held : Held) (position : ℕ) (word : Text) → is_flag word ≡ false → turn_fault s [] (standing held position) word ≡ step_fault s position held value
plain_turn s held position word plain =
    ap₂ (λ (f : Kinds) (m : Held × Step). or_else f (step_fault s position m.0 m.1)) (plain_fault s word held plain) (plain_met s.rules position word held plain)

plain_walk : (s : Shape) (held : Held) (position : ℕ) (word : Text) (words : List Text) → is_flag word ≡ false
    → walk_fault s [] (standing held position) (word ∷ words)
    ≡ or_else (step_fault s position held value) (walk_fault s [] (after_step s.rules word (standing held position) held value) words)
unfolding clap_on_literals
plain_walk s held position word words plain =
    ap₂ (λ (f : Kinds) (w : Walk). or_else f (walk_fault s [] w words)) (plain_turn s held position word plain) (plain_walked s.rules held position word plain)

-- ---- the program

abbrev top : Shape
top = (built grammar).top

abbrev names : Names
names = names_of (built grammar)

abbrev stop_at : List Text → Option (Text × List Text)
stop_at arguments = (walk top.rules names nothing_held arguments).stopped

differs : (xs ys : Text) → bytes_eq ys xs ≡ false → bytes_eq xs ys ≡ false
differs xs ys e = go (bytes_eq xs ys) refl
  where
    go : (same : Bool) → bytes_eq xs ys ≡ same → bytes_eq xs ys ≡ false
    go false t = t
    go true t =
        let flipped : bytes_eq ys xs ≡ true = (bytes_eq-Decides ys xs).1 (sym ((bytes_eq-Decides xs ys).0 t)) in
        cc

-- a name is one of the six behind which no word stands
abbrev IsName : Text → Type 0
IsName word = (word ≡ codes "check") ⊎ ((word ≡ codes "plan") ⊎ ((word ≡ codes "run") ⊎ ((word ≡ codes "hand") ⊎ ((word ≡ codes "group") ⊎ (word ≡ codes "open")))))

abbrev IsBig : Text → Type 0
IsBig word = word ≡ codes "big"

-- `dot` and `audit` take a word that may be left out
abbrev one_name : Bool → Text
one_name true = codes "dot"
one_name false = codes "audit"

abbrev one_word : Bool → Text
one_word true = codes "OP"
one_word false = codes "FORM"

abbrev IsOne : Text → Type 0
IsOne word = (word ≡ codes "dot") ⊎ (word ≡ codes "audit")

-- another word is none of the nine
record IsOther (word : Text) : Type 0 where
  pub not_check : bytes_eq word (codes "check") ≡ false
  pub not_plan : bytes_eq word (codes "plan") ≡ false
  pub not_run : bytes_eq word (codes "run") ≡ false
  pub not_hand : bytes_eq word (codes "hand") ≡ false
  pub not_group : bytes_eq word (codes "group") ≡ false
  pub not_open : bytes_eq word (codes "open") ≡ false
  pub not_audit : bytes_eq word (codes "audit") ≡ false
  pub not_dot : bytes_eq word (codes "dot") ≡ false
  pub not_big : bytes_eq word (codes "big") ≡ false

no_name : (word : Text) → IsOther word → subcommand_met names idle word ≡ None
no_name word other =
    rw (differs (codes "check") word other.not_check, differs (codes "plan") word other.not_plan, differs (codes "run") word other.not_run, differs (codes "hand") word other.not_hand, differs (codes "group") word other.not_group, differs (codes "open") word other.not_open, differs (codes "audit") word other.not_audit, differs (codes "dot") word other.not_dot, differs (codes "big") word other.not_big) refl

-- clap leaves the words after a name to the name's subcommand
rest_is_left : (name word : Text) (words : List Text) → IsName name → stop_at (name ∷ word ∷ words) ≡ Some (name, word ∷ words)
unfolding clap_on_literals
rest_is_left name word words (inl e) = rw e (ap (λ w. w.stopped) (sym (walk_stopped [] names (walk_from nothing_held) (codes "check") [] (word ∷ words))))
rest_is_left name word words (inr (inl e)) = rw e (ap (λ w. w.stopped) (sym (walk_stopped [] names (walk_from nothing_held) (codes "plan") [] (word ∷ words))))
rest_is_left name word words (inr (inr (inl e))) = rw e (ap (λ w. w.stopped) (sym (walk_stopped [] names (walk_from nothing_held) (codes "run") [] (word ∷ words))))
rest_is_left name word words (inr (inr (inr (inl e)))) = rw e (ap (λ w. w.stopped) (sym (walk_stopped [] names (walk_from nothing_held) (codes "hand") [] (word ∷ words))))
rest_is_left name word words (inr (inr (inr (inr (inl e))))) = rw e (ap (λ w. w.stopped) (sym (walk_stopped [] names (walk_from nothing_held) (codes "group") [] (word ∷ words))))
rest_is_left name word words (inr (inr (inr (inr (inr e))))) = rw e (ap (λ w. w.stopped) (sym (walk_stopped [] names (walk_from nothing_held) (codes "open") [] (word ∷ words))))

-- and that takes no word
rest_fails : (name word : Text) (words : List Text) → IsName name → is_flag word ≡ false → entered_fault (built grammar) (Some (name, word ∷ words)) ≡ [] → ⊥
rest_fails name word words (inl e) plain h = stray_word _ [] word words false [] refl refl plain (rw e at h)
rest_fails name word words (inr (inl e)) plain h = stray_word _ [] word words false [] refl refl plain (rw e at h)
rest_fails name word words (inr (inr (inl e))) plain h = stray_word _ [] word words false [] refl refl plain (rw e at h)
rest_fails name word words (inr (inr (inr (inl e)))) plain h = stray_word _ [] word words false [] refl refl plain (rw e at h)
rest_fails name word words (inr (inr (inr (inr (inl e))))) plain h = stray_word _ [] word words false [] refl refl plain (rw e at h)
rest_fails name word words (inr (inr (inr (inr (inr e))))) plain h = stray_word _ [] word words false [] refl refl plain (rw e at h)

several_words : (program name word : Text) (words : List Text) → IsName name → is_flag word ≡ false → fault_of grammar (program ∷ name ∷ word ∷ words) ≡ [] → ⊥
several_words program name word words known plain e =
    let below_is : entered_fault (built grammar) (stop_at (name ∷ word ∷ words)) ≡ [] = (both_empty _ _ (both_empty _ _ e).1).0 in
    rest_fails name word words known plain (rw (rest_is_left name word words known) at below_is)

abbrev IsWord : Text → Type 0
IsWord word = IsName word ⊎ (IsOne word ⊎ (IsBig word ⊎ IsOther word))

name_or_other : (word : Text) → IsWord word
name_or_other word =
    go (bytes_eq word (codes "check")) (bytes_eq word (codes "plan")) (bytes_eq word (codes "run")) (bytes_eq word (codes "hand")) (bytes_eq word (codes "group"))
    (bytes_eq word (codes "open")) (bytes_eq word (codes "audit")) (bytes_eq word (codes "dot")) (bytes_eq word (codes "big")) refl refl refl refl refl refl refl refl refl
  where
    go : (check plan run hand group opened audit dot big : Bool) → bytes_eq word (codes "check") ≡ check → bytes_eq word (codes "plan") ≡ plan → bytes_eq word (codes "run") ≡ run
        → bytes_eq word (codes "hand") ≡ hand → bytes_eq word (codes "group") ≡ group → bytes_eq word (codes "open") ≡ opened → bytes_eq word (codes "audit") ≡ audit
        → bytes_eq word (codes "dot") ≡ dot → bytes_eq word (codes "big") ≡ big → IsWord word
    go true plan run hand group opened audit dot big c p r h g o a d b = inl (inl ((bytes_eq-Decides word (codes "check")).0 c))
    go false true run hand group opened audit dot big c p r h g o a d b = inl (inr (inl ((bytes_eq-Decides word (codes "plan")).0 p)))
    go false false true hand group opened audit dot big c p r h g o a d b = inl (inr (inr (inl ((bytes_eq-Decides word (codes "run")).0 r))))
    go false false false true group opened audit dot big c p r h g o a d b = inl (inr (inr (inr (inl ((bytes_eq-Decides word (codes "hand")).0 h)))))
    go false false false false true opened audit dot big c p r h g o a d b = inl (inr (inr (inr (inr (inl ((bytes_eq-Decides word (codes "group")).0 g))))))
    go false false false false false true audit dot big c p r h g o a d b = inl (inr (inr (inr (inr (inr ((bytes_eq-Decides word (codes "open")).0 o))))))
    go false false false false false false true dot big c p r h g o a d b = inr (inl (inr ((bytes_eq-Decides word (codes "audit")).0 a)))
    go false false false false false false false true big c p r h g o a d b = inr (inl (inl ((bytes_eq-Decides word (codes "dot")).0 d)))
    go false false false false false false false false true c p r h g o a d b = inr (inr (inl ((bytes_eq-Decides word (codes "big")).0 b)))
    go false false false false false false false false false c p r h g o a d b =
        inr (inr (inr (record { not_check = c; not_plan = p; not_run = r; not_hand = h; not_group = g; not_open = o; not_audit = a; not_dot = d; not_big = b })))

other_fails : (program word : Text) (words : List Text) → IsOther word → is_flag word ≡ false → fault_of grammar (program ∷ word ∷ words) ≡ [] → ⊥
other_fails program word words other plain e = stray_word top names word words _ _ refl (no_name word other) plain e

plain_head : (word : Text) (words : List Text) → list_any is_flag (word ∷ words) ≡ false → (is_flag word ≡ false) × (list_any is_flag words ≡ false)
plain_head word words e = go (is_flag word) refl e
  where
    go : (flag : Bool) → is_flag word ≡ flag → (flag || list_any is_flag words) ≡ false → (is_flag word ≡ false) × (list_any is_flag words ≡ false)
    go true t h = cc
    go false t h = (t, h)

abbrev read : List Text → Option Command
read words = met (subcommand_of grammar words)

-- ---- `big` and its words

abbrev big : Shape
big = unwrap_or (find (λ s. answers_to (codes "big") (label_of s)) (built grammar).subs) top

abbrev seed_row : Text → Row
seed_row seed = record { id = codes "SEED"; values = seed ∷ []; count = None; source = Some CommandLine; reading = reading_of vp.String }

-- what clap holds after the first word behind `big`, and after the second
abbrev seed_held : Text → Held
seed_held seed = record { rows = []; pending = Some (codes "SEED", seed ∷ []); skip = 0 }

abbrev calls_held : Text → Text → Held
calls_held seed calls = record { rows = seed_row seed ∷ []; pending = Some (codes "N", calls ∷ []); skip = 0 }

seed_walked : (seed : Text) → is_flag seed ≡ false → walked big.rules [] (walk_from nothing_held) seed ≡ standing (seed_held seed) 2
seed_walked seed plain = plain_walked big.rules nothing_held 1 seed plain

calls_walked : (seed calls : Text) → is_flag calls ≡ false → walked big.rules [] (standing (seed_held seed) 2) calls ≡ standing (calls_held seed calls) 3
calls_walked seed calls plain = plain_walked big.rules (seed_held seed) 2 calls plain

words_walked : (seed calls : Text) → is_flag seed ≡ false → is_flag calls ≡ false → walk big.rules [] nothing_held (seed ∷ calls ∷ []) ≡ standing (calls_held seed calls) 3
words_walked seed calls seed_plain calls_plain =
    ap (λ (w : Walk). walked big.rules [] w calls) (seed_walked seed seed_plain) ∙ calls_walked seed calls calls_plain

seed_turn : (seed : Text) (words : List Text) → is_flag seed ≡ false → walk_fault big [] (walk_from nothing_held) (seed ∷ words) ≡ walk_fault big [] (standing (seed_held seed) 2) words
seed_turn seed words plain = plain_walk big nothing_held 1 seed words plain

calls_turn : (seed calls : Text) (words : List Text) → is_flag calls ≡ false
    → walk_fault big [] (standing (seed_held seed) 2) (calls ∷ words) ≡ walk_fault big [] (standing (calls_held seed calls) 3) words
calls_turn seed calls words plain = plain_walk big (seed_held seed) 2 calls words plain

-- the faults at the end of the words behind `big`
abbrev end_fault : Held → Kinds
end_fault end = or_else (settle_fault big.rules big.args_override_self end) (or_else (defaults_fault (settled big.rules end).rows big.rules) (check_fault big (finished big.rules end) false))

abbrev big_fault : List Text → Kinds
big_fault words = level_fault big [] nothing_held words false []

-- clap leaves the words after `big` to `big`
big_stopped : (words : List Text) → stop_at (codes "big" ∷ words) ≡ Some (codes "big", words)
unfolding clap_on_literals
big_stopped words = ap (λ w. w.stopped) (sym (walk_stopped [] names (walk_from nothing_held) (codes "big") [] words))

big_fails : (program : Text) (words : List Text) → fault_of grammar (program ∷ codes "big" ∷ words) ≡ [] → big_fault words ≡ []
big_fails program words e =
    let below_is : entered_fault (built grammar) (stop_at (codes "big" ∷ words)) ≡ [] = (both_empty _ _ (both_empty _ _ e).1).0 in
    rw (big_stopped words) at below_is

some_fault : (k : ErrorKind) (ks : Kinds) → k ∷ ks ≡ [] → ⊥
some_fault k ks e = cc

-- one word is too few, and three are too many
one_is_missing : (seed : Text) → end_fault (seed_held seed) ≡ [] → ⊥
unfolding clap_on_literals
one_is_missing seed e = some_fault _ _ e

one_word_fails : (seed : Text) → is_flag seed ≡ false → big_fault (seed ∷ []) ≡ [] → ⊥
one_word_fails seed plain e =
    let end_is : end_fault (walk big.rules [] nothing_held (seed ∷ [])).held ≡ [] = (both_empty [] _ (both_empty (walk_fault big [] (walk_from nothing_held) (seed ∷ [])) _ e).1).1 in
    one_is_missing seed (subst (λ (w : Walk). end_fault w.held ≡ []) (seed_walked seed plain) end_is)

third_word_fails : (seed calls other : Text) (words : List Text) → is_flag seed ≡ false → is_flag calls ≡ false → is_flag other ≡ false → big_fault (seed ∷ calls ∷ other ∷ words) ≡ [] → ⊥
third_word_fails seed calls other words seed_plain calls_plain other_plain e =
    let walk_is : walk_fault big [] (walk_from nothing_held) (seed ∷ calls ∷ other ∷ words) ≡ [] = (both_empty _ _ e).0 in
    let turns = seed_turn seed (calls ∷ other ∷ words) seed_plain ∙ calls_turn seed calls (other ∷ words) calls_plain ∙ plain_walk big (calls_held seed calls) 3 other words other_plain in
    some_fault _ _ (sym turns ∙ walk_is)

-- two are taken
none_is_missing : (seed calls : Text) → end_fault (calls_held seed calls) ≡ []
unfolding clap_on_literals
none_is_missing seed calls = refl

two_words_pass : (program seed calls : Text) → is_flag seed ≡ false → is_flag calls ≡ false → fault_of grammar (program ∷ codes "big" ∷ seed ∷ calls ∷ []) ≡ []
unfolding clap_on_literals
two_words_pass program seed calls seed_plain calls_plain =
    let turns : walk_fault big [] (walk_from nothing_held) (seed ∷ calls ∷ []) ≡ [] = seed_turn seed (calls ∷ []) seed_plain ∙ calls_turn seed calls [] calls_plain in
    let end_is = ap (λ (w : Walk). end_fault w.held) (words_walked seed calls seed_plain calls_plain) ∙ none_is_missing seed calls in
    let level : big_fault (seed ∷ calls ∷ []) ≡ [] = ap₂ or_else turns end_is in
    ap (λ k. or_else k []) level

two_words_are : (program seed calls : Text) → is_flag seed ≡ false → is_flag calls ≡ false → read (program ∷ codes "big" ∷ seed ∷ calls ∷ []) ≡ command_of (program ∷ codes "big" ∷ seed ∷ calls ∷ [])
unfolding clap_on_literals
two_words_are program seed calls seed_plain calls_plain = ap (λ (w : Walk). met_as (codes "big") (finished big.rules w.held)) (words_walked seed calls seed_plain calls_plain)

-- ---- `dot` and `audit` with a word

abbrev one : Bool → Shape
one draws = unwrap_or (find (λ s. answers_to (one_name draws) (label_of s)) (built grammar).subs) top

-- what clap holds after the word
abbrev one_held : Bool → Text → Held
one_held draws word = record { rows = []; pending = Some (one_word draws, word ∷ []); skip = 0 }

one_walked : (draws : Bool) (word : Text) → is_flag word ≡ false → walk (one draws).rules [] nothing_held (word ∷ []) ≡ standing (one_held draws word) 2
one_walked true word plain = plain_walked (one true).rules nothing_held 1 word plain
one_walked false word plain = plain_walked (one false).rules nothing_held 1 word plain

one_turn : (draws : Bool) (word : Text) (words : List Text) → is_flag word ≡ false
    → walk_fault (one draws) [] (walk_from nothing_held) (word ∷ words) ≡ walk_fault (one draws) [] (standing (one_held draws word) 2) words
one_turn true word words plain = plain_walk (one true) nothing_held 1 word words plain
one_turn false word words plain = plain_walk (one false) nothing_held 1 word words plain

abbrev one_end_fault : Bool → Held → Kinds
one_end_fault draws end =
    let s = one draws in
    or_else (settle_fault s.rules s.args_override_self end) (or_else (defaults_fault (settled s.rules end).rows s.rules) (check_fault s (finished s.rules end) false))

abbrev one_fault : Bool → List Text → Kinds
one_fault draws words = level_fault (one draws) [] nothing_held words false []

-- clap leaves the words after the name to its subcommand
one_stopped : (draws : Bool) (words : List Text) → stop_at (one_name draws ∷ words) ≡ Some (one_name draws, words)
unfolding clap_on_literals
one_stopped true words = ap (λ w. w.stopped) (sym (walk_stopped [] names (walk_from nothing_held) (codes "dot") [] words))
one_stopped false words = ap (λ w. w.stopped) (sym (walk_stopped [] names (walk_from nothing_held) (codes "audit") [] words))

one_entered : (draws : Bool) (words : List Text) → entered_fault (built grammar) (Some (one_name draws, words)) ≡ one_fault draws words
one_entered true words = refl
one_entered false words = refl

one_fails : (program : Text) (draws : Bool) (words : List Text) → fault_of grammar (program ∷ one_name draws ∷ words) ≡ [] → one_fault draws words ≡ []
one_fails program draws words e =
    let below_is : entered_fault (built grammar) (stop_at (one_name draws ∷ words)) ≡ [] = (both_empty _ _ (both_empty _ _ e).1).0 in
    sym (ap (entered_fault (built grammar)) (one_stopped draws words) ∙ one_entered draws words) ∙ below_is

-- two words are too many
one_stray : (draws : Bool) (word other : Text) (words : List Text) → is_flag other ≡ false
    → walk_fault (one draws) [] (standing (one_held draws word) 2) (other ∷ words) ≡ [] → ⊥
one_stray true word other words plain e = some_fault _ _ (sym (plain_walk (one true) (one_held true word) 2 other words plain) ∙ e)
one_stray false word other words plain e = some_fault _ _ (sym (plain_walk (one false) (one_held false word) 2 other words plain) ∙ e)

second_word_fails : (draws : Bool) (word other : Text) (words : List Text) → is_flag word ≡ false → is_flag other ≡ false → one_fault draws (word ∷ other ∷ words) ≡ [] → ⊥
second_word_fails draws word other words plain other_plain e =
    let walk_is : walk_fault (one draws) [] (walk_from nothing_held) (word ∷ other ∷ words) ≡ [] = (both_empty _ _ e).0 in
    one_stray draws word other words other_plain (sym (one_turn draws word (other ∷ words) plain) ∙ walk_is)

-- one is taken
no_fault : (draws : Bool) (word : Text) → one_end_fault draws (one_held draws word) ≡ []
unfolding clap_on_literals
no_fault true word = refl
no_fault false word = refl

one_level : (draws : Bool) (word : Text) → is_flag word ≡ false → one_fault draws (word ∷ []) ≡ []
unfolding clap_on_literals
one_level draws word plain =
    let turns : walk_fault (one draws) [] (walk_from nothing_held) (word ∷ []) ≡ [] = one_turn draws word [] plain in
    let end_is = ap (λ (w : Walk). one_end_fault draws w.held) (one_walked draws word plain) ∙ no_fault draws word in
    ap₂ or_else turns end_is

one_word_passes : (program : Text) (draws : Bool) (word : Text) → is_flag word ≡ false → fault_of grammar (program ∷ one_name draws ∷ word ∷ []) ≡ []
unfolding clap_on_literals
one_word_passes program true word plain = ap (λ k. or_else k []) (one_level true word plain)
one_word_passes program false word plain = ap (λ k. or_else k []) (one_level false word plain)

one_word_is : (program : Text) (draws : Bool) (word : Text) → is_flag word ≡ false
    → read (program ∷ one_name draws ∷ word ∷ []) ≡ command_of (program ∷ one_name draws ∷ word ∷ [])
unfolding clap_on_literals
one_word_is program true word plain = ap (λ (w : Walk). met_as (codes "dot") (finished (one true).rules w.held)) (one_walked true word plain)
one_word_is program false word plain = ap (λ (w : Walk). met_as (codes "audit") (finished (one false).rules w.held)) (one_walked false word plain)

-- what clap takes is a command, and clap names it
pub taken_is_command : (words : List Text) → list_any is_flag (drop 1 words) ≡ false → fault_of grammar words ≡ [] → read words ≡ command_of words
unfolding clap_on_literals
taken_is_command [] plain e = cc
taken_is_command (program ∷ []) plain e = cc
taken_is_command (program ∷ word ∷ []) plain e = go (name_or_other word)
  where
    go : IsWord word → read (program ∷ word ∷ []) ≡ command_of (program ∷ word ∷ [])
    go (inl (inl same)) = rw same refl
    go (inl (inr (inl same))) = rw same refl
    go (inl (inr (inr (inl same)))) = rw same refl
    go (inl (inr (inr (inr (inl same))))) = rw same refl
    go (inl (inr (inr (inr (inr (inl same)))))) = rw same refl
    go (inl (inr (inr (inr (inr (inr same)))))) = rw same refl
    go (inr (inl (inl same))) = rw same refl
    go (inr (inl (inr same))) = rw same refl
    go (inr (inr (inl same))) = absurd (some_fault _ _ (rw same at e))
    go (inr (inr (inr other))) = absurd (other_fails program word [] other (plain_head word [] plain).0 e)
taken_is_command (program ∷ word ∷ op ∷ []) plain e = go (name_or_other word)
  where
    after : (is_flag word ≡ false) × (list_any is_flag (op ∷ []) ≡ false)
    after = plain_head word (op ∷ []) plain

    behind : is_flag op ≡ false
    behind = (plain_head op [] after.1).0

    go : IsWord word → read (program ∷ word ∷ op ∷ []) ≡ command_of (program ∷ word ∷ op ∷ [])
    go (inl name) = absurd (several_words program word op [] name behind e)
    go (inr (inl (inl same))) = rw same (one_word_is program true op behind)
    go (inr (inl (inr same))) = rw same (one_word_is program false op behind)
    go (inr (inr (inl same))) = absurd (one_word_fails op behind (big_fails program (op ∷ []) (rw same at e)))
    go (inr (inr (inr other))) = absurd (other_fails program word (op ∷ []) other after.0 e)
taken_is_command (program ∷ word ∷ seed ∷ calls ∷ []) plain e = go (name_or_other word)
  where
    after : (is_flag word ≡ false) × (list_any is_flag (seed ∷ calls ∷ []) ≡ false)
    after = plain_head word (seed ∷ calls ∷ []) plain

    behind : (is_flag seed ≡ false) × (list_any is_flag (calls ∷ []) ≡ false)
    behind = plain_head seed (calls ∷ []) after.1

    last : is_flag calls ≡ false
    last = (plain_head calls [] behind.1).0

    go : IsWord word → read (program ∷ word ∷ seed ∷ calls ∷ []) ≡ command_of (program ∷ word ∷ seed ∷ calls ∷ [])
    go (inl name) = absurd (several_words program word seed (calls ∷ []) name behind.0 e)
    go (inr (inl (inl same))) = absurd (second_word_fails true seed calls [] behind.0 last (one_fails program true (seed ∷ calls ∷ []) (rw same at e)))
    go (inr (inl (inr same))) = absurd (second_word_fails false seed calls [] behind.0 last (one_fails program false (seed ∷ calls ∷ []) (rw same at e)))
    go (inr (inr (inl same))) = rw same (two_words_are program seed calls behind.0 last)
    go (inr (inr (inr other))) = absurd (other_fails program word (seed ∷ calls ∷ []) other after.0 e)
taken_is_command (program ∷ word ∷ seed ∷ calls ∷ other ∷ words) plain e = absurd (go (name_or_other word))
  where
    after : (is_flag word ≡ false) × (list_any is_flag (seed ∷ calls ∷ other ∷ words) ≡ false)
    after = plain_head word (seed ∷ calls ∷ other ∷ words) plain

    behind : (is_flag seed ≡ false) × (list_any is_flag (calls ∷ other ∷ words) ≡ false)
    behind = plain_head seed (calls ∷ other ∷ words) after.1

    last : (is_flag calls ≡ false) × (list_any is_flag (other ∷ words) ≡ false)
    last = plain_head calls (other ∷ words) behind.1

    go : IsWord word → ⊥
    go (inl name) = several_words program word seed (calls ∷ other ∷ words) name behind.0 e
    go (inr (inl (inl same))) = second_word_fails true seed calls (other ∷ words) behind.0 last.0 (one_fails program true (seed ∷ calls ∷ other ∷ words) (rw same at e))
    go (inr (inl (inr same))) = second_word_fails false seed calls (other ∷ words) behind.0 last.0 (one_fails program false (seed ∷ calls ∷ other ∷ words) (rw same at e))
    go (inr (inr (inl same))) = third_word_fails seed calls other words behind.0 last.0 (plain_head other words last.1).0 (big_fails program (seed ∷ calls ∷ other ∷ words) (rw same at e))
    go (inr (inr (inr stray))) = other_fails program word (seed ∷ calls ∷ other ∷ words) stray after.0 e

-- what clap refuses for another cause than memory is no command
pub refused_is_none : (words : List Text) (kind : ErrorKind) → list_any is_flag (drop 1 words) ≡ false → IsAmong kind (fault_of grammar words) → None ≡ command_of words
unfolding clap_on_literals
refused_is_none [] kind plain h = refl
refused_is_none (program ∷ []) kind plain h = refl
refused_is_none (program ∷ word ∷ []) kind plain h = go (name_or_other word)
  where
    go : IsWord word → None ≡ command_of (program ∷ word ∷ [])
    go (inl (inl same)) = absurd (rw same at h)
    go (inl (inr (inl same))) = absurd (rw same at h)
    go (inl (inr (inr (inl same)))) = absurd (rw same at h)
    go (inl (inr (inr (inr (inl same))))) = absurd (rw same at h)
    go (inl (inr (inr (inr (inr (inl same)))))) = absurd (rw same at h)
    go (inl (inr (inr (inr (inr (inr same)))))) = absurd (rw same at h)
    go (inr (inl (inl same))) = absurd (rw same at h)
    go (inr (inl (inr same))) = absurd (rw same at h)
    go (inr (inr (inl same))) = rw same refl
    go (inr (inr (inr other))) = rw (other.not_check, other.not_plan, other.not_run, other.not_hand, other.not_group, other.not_open, other.not_audit, other.not_dot) refl
refused_is_none (program ∷ word ∷ op ∷ []) kind plain h = go (name_or_other word)
  where
    after : (is_flag word ≡ false) × (list_any is_flag (op ∷ []) ≡ false)
    after = plain_head word (op ∷ []) plain

    passes : (draws : Bool) → word ≡ one_name draws → ⊥
    passes draws same = subst (IsAmong kind) (one_word_passes program draws op (plain_head op [] after.1).0) (rw same at h)

    go : IsWord word → None ≡ command_of (program ∷ word ∷ op ∷ [])
    go (inl (inl same)) = rw same refl
    go (inl (inr (inl same))) = rw same refl
    go (inl (inr (inr (inl same)))) = rw same refl
    go (inl (inr (inr (inr (inl same))))) = rw same refl
    go (inl (inr (inr (inr (inr (inl same)))))) = rw same refl
    go (inl (inr (inr (inr (inr (inr same)))))) = rw same refl
    go (inr (inl (inl same))) = absurd (passes true same)
    go (inr (inl (inr same))) = absurd (passes false same)
    go (inr (inr (inl same))) = rw same refl
    go (inr (inr (inr other))) = rw (other.not_dot, other.not_audit) refl
refused_is_none (program ∷ word ∷ seed ∷ calls ∷ []) kind plain h = go (bytes_eq word (codes "big")) refl
  where
    after : (is_flag word ≡ false) × (list_any is_flag (seed ∷ calls ∷ []) ≡ false)
    after = plain_head word (seed ∷ calls ∷ []) plain

    behind : (is_flag seed ≡ false) × (list_any is_flag (calls ∷ []) ≡ false)
    behind = plain_head seed (calls ∷ []) after.1

    go : (is_big : Bool) → bytes_eq word (codes "big") ≡ is_big → None ≡ command_of (program ∷ word ∷ seed ∷ calls ∷ [])
    go false b = rw b refl
    go true b =
        let same : word ≡ codes "big" = (bytes_eq-Decides word (codes "big")).0 b in
        let fault = two_words_pass program seed calls behind.0 (plain_head calls [] behind.1).0 in
        absurd (subst (IsAmong kind) fault (rw same at h))
refused_is_none (program ∷ word ∷ seed ∷ calls ∷ other ∷ words) kind plain h = refl

-- the same of a command whose grammar is the program's
pub taken_by : (app : App) (words : List Text) (rows : Option (Text × List Row)) → app ≡ grammar → list_any is_flag (drop 1 words) ≡ false
    → fault_of app words ≡ [] → rows ≡ subcommand_of app words → met rows ≡ command_of words
taken_by app words rows same plain none rows_are =
    let none_there : fault_of grammar words ≡ [] = subst (λ a. fault_of a words ≡ []) same none in
    let rows_there : rows ≡ subcommand_of grammar words = subst (λ a. rows ≡ subcommand_of a words) same rows_are in
    ap met rows_there ∙ taken_is_command words plain none_there

pub refused_by : (app : App) (words : List Text) (kind : ErrorKind) → app ≡ grammar → list_any is_flag (drop 1 words) ≡ false → IsAmong kind (fault_of app words) → None ≡ command_of words
refused_by app words kind same plain h = refused_is_none words kind plain (subst (λ a. IsAmong kind (fault_of a words)) same h)

first_of : {B : Type 0} (name : B → Text) (rows : B → List Row) (o : Option B) → option_map name o ≡ option_map (λ (p : Text × List Row). p.0) (option_map (λ b. (name b, rows b)) o)
first_of name rows None = refl
first_of name rows (Some b) = refl

name_of_rows : (m : ArgMatches) → subcommand_name_of m ≡ option_map (λ p. p.0) (subcommand_rows_of m)
name_of_rows m = first_of _ _ _

pair_met : {B : Type 0} (name : B → Text) (rows : B → List Row) (o : Option B) (q : Option (Text × List Row))
    → option_map name o ≡ option_map (λ p. p.0) q → option_map rows o ≡ option_map (λ p. p.1) q → option_map (λ b. (name b, rows b)) o ≡ q
pair_met name rows None None n r = refl
pair_met name rows None (Some q) n r = cc
pair_met name rows (Some b) None n r = cc
pair_met name rows (Some b) (Some (text, found)) n r = ap₂ (λ t f. Some (t, f)) (ap (λ o. unwrap_or o text) n) (ap (λ o. unwrap_or o found) r)

-- what was met, by its name and its rows
pub met_is : {B : Type 0} (name : B → Text) (rows : B → List Row) (m : ArgMatches) (o : Option B) (b : B) → option_map name o ≡ subcommand_name_of m
    → option_map rows o ≡ option_map (λ p. p.1) (subcommand_rows_of m) → o ≡ Some b → met_as (name b) (rows b) ≡ met (subcommand_rows_of m)
met_is name rows m o b names_are rows_are is = ap met (ap (option_map (λ x. (name x, rows x))) (sym is) ∙ pair_met name rows o _ (names_are ∙ name_of_rows m) rows_are)
