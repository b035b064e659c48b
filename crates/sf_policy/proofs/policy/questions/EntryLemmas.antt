-- What `Question::of_masked` gives for the parts of an entry is what is due for the entry.
use Rattle.sf_policy.proofs.Common.{common_steps, arith, ◌≡◌, ℕ, ◌++◌, Bool, true, false, not, ◌&&◌, ◌||◌, List, [], ◌∷◌, map, refl, ap, Option, Some, None, Result, Ok, Err, ◌⊎◌, codes, option_map, if◌then◌else◌, inl, inr, and_parts, list_all-map, list_all, is_no_action, QuestionData, is_name, is_in_order, is_inside_mask, Fault, WordEntry, has_words, has_range, has_mask, range_of, mask_of, entry_at, Members, get_member, ActionSet, Version, has_only, question_keys, word_keys, each_of, text_at, are_actions, actions_of, names_at, no_actions, ranges_and_masks, encoded_set, numbered_fault, with_number, question_of_parts, Entry, question_entry_of_parts, question_of_entry, question_where_read, question_of_table}
use Rattle.sf_question.specs.declared.fault.Fault.{Fault as AskFault}
use Rattle.sf_question.specs.declared.fault.Fault.TheVariants as ask
use Rattle.sf_stack.specs.declared.fault.Fault.TheVariants as faults

and_true : (a b : Bool) → a ≡ true → (a && b) ≡ b
and_true true b h = refl
and_true false b h = cc

-- entries whose numbers are of 32 bits have ranges where the ends are in order
all_orders : (ws : List WordEntry) → list_all has_words ws ≡ true
    → list_all is_in_order (map range_of ws) ≡ list_all has_range ws
all_orders [] h = refl
all_orders (w ∷ ws) h =
    let (one, others) = and_parts (has_words w) _ h in
    rw (and_true (has_words w) (is_in_order (range_of w)) one, all_orders ws others) refl

one_outside : (a b c d : Bool) → (a && b) ≡ false → (b ≡ false → d ≡ false) → ((a && c) && d) ≡ false
one_outside true b true d h k = k h
one_outside true b false d h k = refl
one_outside false b c d h k = refl

-- where an entry has a number outside 32 bits, not all have ranges
no_range : (ws : List WordEntry) → list_all has_words ws ≡ false → list_all has_range ws ≡ false
no_range [] h = cc
no_range (w ∷ ws) h = one_outside (has_words w) _ _ _ h (no_range ws)

one_more : (before a a' rest : Bool) → (before ≡ true) ⊎ ((a || rest) ≡ true)
    → ((before || (a || a')) ≡ true) ⊎ (rest ≡ true)
one_more true a a' rest h = inl refl
one_more false true a' rest h = inl refl
one_more false false a' rest (inl h) = cc
one_more false false a' rest (inr h) = inr h

-- Where the first text is one of nine names, one of nine actions is named.
some_of_nine : (a b c d e f g h i a' b' c' d' e' f' g' h' i' : Bool)
    → (a || (b || (c || (d || (e || (f || (g || (h || (i || false))))))))) ≡ true
    → not ((a || a') || (b || b') || (c || c') || (d || d') || (e || e') || (f || f') || (g || g') || (h || h') ||
    (i || i')) ≡ false
some_of_nine a b c d e f g h i a' b' c' d' e' f' g' h' i' some = search (arith, one_more)

some_action : (texts : List (List ℕ)) → are_actions texts ≡ true → is_no_action (actions_of texts) ≡ false
some_action [] h = cc
some_action (text ∷ texts) h = grind (arith, common_steps, and_parts, some_of_nine)

empty_or_not : (b : Bool) (set : ActionSet) → (b ≡ true → is_no_action set ≡ false)
    → is_no_action (if b then set else no_actions) ≡ not b
empty_or_not true set h = h refl
empty_or_not false set h = refl

set_same : (b : Bool) (set : ActionSet) → b ≡ true → (if b then set else no_actions) ≡ set
set_same true set h = refl
set_same false set h = cc

-- what is made and what is due agree, where both begin with one test and agree behind it
same_test : (number : ℕ) (fault : AskFault) (b b' : Bool) (r : Result QuestionData AskFault)
    (due : Result QuestionData Fault)
    → b' ≡ b → (b ≡ true → with_number number r ≡ due)
    → with_number number (if not b' then Err fault else r) ≡ (if not b then Err (numbered_fault number fault) else due)
same_test number fault true b' r due e h = rw e (h refl)
same_test number fault false b' r due e h = rw e refl

same_actions : (number : ℕ) (b none : Bool) (q q' : QuestionData) → none ≡ not b → (b ≡ true → q' ≡ q)
    → with_number number (if none then Err ask.Actions else Ok q')
    ≡ (if not b then Err (faults.Actions number) else Ok q)
same_actions number true none q q' e h = rw e (ap Ok (h refl))
same_actions number false none q q' e h = rw e refl

asked : (name : List ℕ) (ranges masks : List (ℕ × ℕ)) (set set' : ActionSet) → set' ≡ set
    → let question : ActionSet → QuestionData =
    λ s. record { name = name; ranges = ranges; masks = masks; actions = s } in
    question set' ≡ question set
asked name ranges masks set set' e = rw e refl

outside_due : (number : ℕ) (named ranged : Bool) (rest : Result QuestionData Fault) → ranged ≡ false
    → let due : Result QuestionData Fault = Err (if named then faults.Range number else faults.Name number) in
    due ≡ (if not named then Err (faults.Name number) else if not ranged then Err (faults.Range number) else rest)
outside_due number true ranged rest h = rw h refl
outside_due number false ranged rest h = refl

entry_due_where : (number : ℕ) (b : Bool) (e : Entry) → list_all has_words e.words ≡ b
    → question_of_parts number e.name (if b then Some (map range_of e.words, map mask_of e.words) else None)
    (encoded_set e.actions) ≡ question_of_entry number e
entry_due_where number true e h =
    same_test number ask.Name (is_name e.name) (is_name e.name) _ _ refl (λ named.
    same_test number ask.Range (list_all has_range e.words) (list_all is_in_order (map range_of e.words)) _ _
    (all_orders e.words h) (λ ranged.
    same_test number ask.Mask (list_all has_mask e.words) (list_all is_inside_mask (map mask_of e.words)) _ _
    (list_all-map is_inside_mask mask_of e.words) (λ masked.
    same_actions number (are_actions e.actions) (is_no_action (encoded_set e.actions)) _ _
    (empty_or_not (are_actions e.actions) (actions_of e.actions) (some_action e.actions))
    (λ some. asked e.name (map range_of e.words) (map mask_of e.words) _ _
    (set_same (are_actions e.actions) (actions_of e.actions) some)))))
entry_due_where number false e h =
    outside_due number (is_name e.name) (list_all has_range e.words) _ (no_range e.words h)

entry_due : (number : ℕ) (e : Entry)
    → question_of_parts number e.name (ranges_and_masks e.words) (encoded_set e.actions) ≡ question_of_entry number e
entry_due number e = entry_due_where number (list_all has_words e.words) e refl

parts_due : (number : ℕ) (only : Bool) (name' : Option (List ℕ)) (words' : Option (List WordEntry))
    (texts' : Option (List (List ℕ))) (name : List ℕ) (words : List WordEntry) (set : ActionSet)
    → only ≡ true → Some name ≡ name' → Some words ≡ words' → Some set ≡ option_map encoded_set texts'
    → question_of_parts number name (ranges_and_masks words) set
    ≡ question_where_read number (if only then question_entry_of_parts name' words' texts' else None)
parts_due number false name' words' texts' name words set h k l m = cc
parts_due number true None words' texts' name words set h k l m = cc
parts_due number true (Some name') None texts' name words set h k l m = cc
parts_due number true (Some name') (Some words') None name words set h k l m = cc
parts_due number true (Some name') (Some words') (Some texts) name words set h k l m =
    let same_name : name ≡ name' = cc in
    let same_words : words ≡ words' = cc in
    let same_set : set ≡ encoded_set texts = cc in
    rw (same_name, same_words, same_set) (entry_due number (record { name = name'; words = words'; actions = texts }))

-- The table of a question, where each of its parts was read.
pub table_due : (version : Version) (number : ℕ) (ms : Members) (name : List ℕ) (words : List WordEntry)
    (set : ActionSet)
    → has_only question_keys ms ≡ true
    → Some name ≡ text_at (codes "name") ms
    → Some words ≡ each_of (λ key. entry_at version (get_member key ms)) word_keys
    → Some set ≡ option_map encoded_set (names_at (get_member (codes "actions") ms))
    → question_of_parts number name (ranges_and_masks words) set ≡ question_of_table version number ms
table_due version number ms name words set h k l m = parts_due number _ _ _ _ name words set h k l m

-- the questions that were read, in front of those that are left
abbrev pub with_questions : List QuestionData → Result (List QuestionData) Fault → Result (List QuestionData) Fault
with_questions front (Ok rest) = Ok (front ++ rest)
with_questions front (Err fault) = Err fault
