-- No tree is refused as `Syntax`.
use Rattle.sf_policy.proofs.Common.{common_steps, arith, ◌≡◌, ℕ, ◌+◌, Bool, true, false, ◌&&◌, List, [], ◌∷◌, codes, length, Option, Some, None, Result, Ok, Err, refl, sym, ap, ◌∙◌, if◌then◌else◌, nat_le, false≢true, Members, get_member, QuestionData, Fault, Version, top_keys, has_only, number_at, IsDue, Entry, question_of_entry, question_where_read, entry_of_question, question_cons, questions_from, questions_where_tables, tables_at, version_numbered, policy_where_version, policy_of}
use Rattle.sf_stack.specs.declared.fault.Fault.TheVariants as faults

abbrev pub is_syntax : {X : Type 0} → Result X Fault → Bool
is_syntax (Ok x) = false
is_syntax (Err faults.Syntax) = true
is_syntax (Err fault) = false

choice : {X : Type 0} (b : Bool) (x y : Result X Fault) → is_syntax x ≡ false → is_syntax y ≡ false
    → is_syntax (if b then x else y) ≡ false
choice true x y p q = p
choice false x y p q = q

of_entry : (number : ℕ) (e : Entry) → is_syntax (question_of_entry number e) ≡ false
of_entry number e = grind (arith, common_steps, choice)

where_read : (number : ℕ) (e : Option Entry) → is_syntax (question_where_read number e) ≡ false
where_read number (Some e) = of_entry number e
where_read number None = refl

in_front : (q : Result QuestionData Fault) (qs : Result (List QuestionData) Fault) → is_syntax q ≡ false
    → is_syntax qs ≡ false
    → is_syntax (question_cons q qs) ≡ false
in_front (Ok q) (Ok qs) p r = refl
in_front (Ok q) (Err fault) p r = r
in_front (Err fault) qs p r = p

of_tables : (version : Version) (number : ℕ) (mss : List Members)
    → is_syntax (questions_from version number mss) ≡ false
of_tables version number [] = refl
of_tables version number (ms ∷ mss) = in_front _ _ (where_read number (entry_of_question version ms))
    (of_tables version (number + 1) mss)

where_tables : (version : Version) (mss : Option (List Members))
    → is_syntax (questions_where_tables version mss) ≡ false
where_tables version (Some mss) = choice (nat_le 1 (length mss) && nat_le (length mss) 256) _ _
    (of_tables version 1 mss) refl
where_tables version None = refl

where_version : (version : Option Version) (ms : Members) → is_syntax (policy_where_version version ms) ≡ false
where_version (Some version) ms = choice (has_only top_keys ms) _ _
    (where_tables version (tables_at (get_member (codes "question") ms))) refl
where_version None ms = refl

-- a function that gives what a tree means never answers `Syntax`
pub not_syntax : {X : Type 0} (view : X → List QuestionData) (r : Result X Fault) (ms : Members)
    → IsDue view r (policy_of ms)
    → r ≡ Err faults.Syntax → ⊥
not_syntax view r ms gives e = false≢true (sym (where_version (version_numbered (number_at (codes "version") ms)) ms)
    ∙ ap (λ l. is_syntax l) (rw e at gives))
