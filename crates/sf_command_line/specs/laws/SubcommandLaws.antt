-- Which subcommand the words of a command line name that fits its form.
use Rattle.std.proofs.lemmas.Grind.{common_steps}
use Rattle.std.proofs.Common.{arith, ◌≡◌, ◌⊎◌, inl, inr, ap, List, [], ◌∷◌, Bool, true, false, refl}
use Rattle.std.specs.Prelude.{if◌then◌else◌, Option, Some, None, find, is_some, option_map}
use Rattle.clap.specs.Words.{App, Kinds, Row, Shape, Text}
use Rattle.clap.specs.Kinds.{or_else}
use Rattle.clap.specs.Faults.{built_fault, check_fault}
use Rattle.clap.specs.Simple.{argument_words, built, entered, label_of, names_of, rows_at}
use Rattle.clap.specs.Walk.{answers_to, nothing_held, stop_after}
use Rattle.clap.specs.declared.error.kind.ErrorKind.{ErrorKind}
use Rattle.sf_command_line.specs.CommandLine.{IsKnown, command_line, errors_at, subcommand_at}

-- where two lists of errors are tried in turn and give none, the second list is empty
second_none : (a b : Kinds) → or_else a b ≡ [] → b ≡ []
second_none [] b none = none
second_none (k ∷ ks) b none = cc

-- a list of one error or of another isn't empty
one_or_other : (b : Bool) (k l : ErrorKind) → (if b then k ∷ [] else (l ∷ [])) ≡ [] → ⊥
one_or_other true k l none = cc
one_or_other false k l none = cc

-- the last checks find no error only where a subcommand was entered, if one must be
check_needs : (s : Shape) (rows : List Row) (has : Bool) → s.subcommand_required ≡ true
    → check_fault s rows has ≡ [] → has ≡ true
check_needs s rows true needed none = refl
check_needs s rows false needed none = absurd (one_or_other _ _ _ (rw needed at none))

-- words that fit the form enter a subcommand, if one must be entered
pub needs_subcommand : (a : App) (words : List Text) → a.top.subcommand_required ≡ true
    → built_fault a nothing_held words ≡ []
    → is_some (entered a (stop_after a.top.rules (names_of a) words)) ≡ true
needs_subcommand a words needed none = grind (arith, common_steps, second_none, check_needs)

-- the first of three that has a property is one of them
first_of_three : (p : Shape → Bool) (x y z s : Shape) → find p (x ∷ y ∷ z ∷ []) ≡ Some s → (s ≡ x) ⊎ (s ≡ y) ⊎ (s ≡ z)
first_of_three p x y z s found = grind (arith, common_steps)

-- the first of four that has a property is one of them
first_of_four : (p : Shape → Bool) (w x y z s : Shape) → find p (w ∷ x ∷ y ∷ z ∷ []) ≡ Some s
    → (s ≡ w) ⊎ (s ≡ x) ⊎ (s ≡ y) ⊎ (s ≡ z)
first_of_four p w x y z s found = grind (arith, common_steps, first_of_three)

-- the first of five
first_of_five : (p : Shape → Bool) (v w x y z s : Shape) → find p (v ∷ w ∷ x ∷ y ∷ z ∷ []) ≡ Some s
    → (s ≡ v) ⊎ (s ≡ w) ⊎ (s ≡ x) ⊎ (s ≡ y) ⊎ (s ≡ z)
first_of_five p v w x y z s found = grind (arith, common_steps, first_of_four)

-- the first of six
first_of_six : (p : Shape → Bool) (u v w x y z s : Shape) → find p (u ∷ v ∷ w ∷ x ∷ y ∷ z ∷ []) ≡ Some s
    → (s ≡ u) ⊎ (s ≡ v) ⊎ (s ≡ w) ⊎ (s ≡ x) ⊎ (s ≡ y) ⊎ (s ≡ z)
first_of_six p u v w x y z s found = grind (arith, common_steps, first_of_five)

-- the first of seven
first_of_seven : (p : Shape → Bool) (t u v w x y z s : Shape) → find p (t ∷ u ∷ v ∷ w ∷ x ∷ y ∷ z ∷ []) ≡ Some s
    → (s ≡ t) ⊎ (s ≡ u) ⊎ (s ≡ v) ⊎ (s ≡ w) ⊎ (s ≡ x) ⊎ (s ≡ y) ⊎ (s ≡ z)
first_of_seven p t u v w x y z s found = grind (arith, common_steps, first_of_six)

-- a subcommand that was entered has the name of one of the seven
pub entered_name : (a : App) (t u v w x y z : Shape) → a.subs ≡ t ∷ u ∷ v ∷ w ∷ x ∷ y ∷ z ∷ []
    → (stop : Option (Text × List Text)) → is_some (entered a stop) ≡ true
    → (found : Text × List Row) × (entered a stop ≡ Some found)
    × ((found.0 ≡ t.name) ⊎ (found.0 ≡ u.name) ⊎ (found.0 ≡ v.name) ⊎ (found.0 ≡ w.name) ⊎ (found.0 ≡ x.name)
    ⊎ (found.0 ≡ y.name) ⊎ (found.0 ≡ z.name))
entered_name a t u v w x y z subs None some = cc
entered_name a t u v w x y z subs (Some p) some = go (find (λ s. answers_to p.0 (label_of s)) a.subs) refl some
  where
    named : (s : Shape) → (s ≡ t) ⊎ (s ≡ u) ⊎ (s ≡ v) ⊎ (s ≡ w) ⊎ (s ≡ x) ⊎ (s ≡ y) ⊎ (s ≡ z)
        → (s.name ≡ t.name) ⊎ (s.name ≡ u.name) ⊎ (s.name ≡ v.name) ⊎ (s.name ≡ w.name) ⊎ (s.name ≡ x.name)
        ⊎ (s.name ≡ y.name) ⊎ (s.name ≡ z.name)
    named s (inl is) = inl (ap (λ (r : Shape). r.name) is)
    named s (inr (inl is)) = inr (inl (ap (λ (r : Shape). r.name) is))
    named s (inr (inr (inl is))) = inr (inr (inl (ap (λ (r : Shape). r.name) is)))
    named s (inr (inr (inr (inl is)))) = inr (inr (inr (inl (ap (λ (r : Shape). r.name) is))))
    named s (inr (inr (inr (inr (inl is))))) = inr (inr (inr (inr (inl (ap (λ (r : Shape). r.name) is)))))
    named s (inr (inr (inr (inr (inr (inl is)))))) = inr (inr (inr (inr (inr (inl (ap (λ (r : Shape). r.name) is))))))
    named s (inr (inr (inr (inr (inr (inr is)))))) = inr (inr (inr (inr (inr (inr (ap (λ (r : Shape). r.name) is))))))

    go : (o : Option Shape) → find (λ s. answers_to p.0 (label_of s)) a.subs ≡ o
        → is_some (option_map (λ s. rows_at s p.1) o) ≡ true
        → (found : Text × List Row) × (option_map (λ s. rows_at s p.1)
        (find (λ s. answers_to p.0 (label_of s)) a.subs) ≡ Some found)
        × ((found.0 ≡ t.name) ⊎ (found.0 ≡ u.name) ⊎ (found.0 ≡ v.name) ⊎ (found.0 ≡ w.name) ⊎ (found.0 ≡ x.name)
        ⊎ (found.0 ≡ y.name) ⊎ (found.0 ≡ z.name))
    go None is h = cc
    go (Some s) is h = (
      rows_at s p.1,
      ap (option_map (λ r. rows_at r p.1)) is,
      named s (first_of_seven (λ r. answers_to p.0 (label_of r)) t u v w x y z s (rw subs at is)),
    )

-- words that fit the form of the program name one of its seven subcommands
pub known_subcommand : (words : List Text) → errors_at words ≡ [] → IsKnown (subcommand_at words)
unfolding command_line errors_at subcommand_at
known_subcommand words fits =
    let a = built command_line in
    entered_name a _ _ _ _ _ _ _ refl (stop_after a.top.rules (names_of a) (argument_words command_line words))
    (needs_subcommand a (argument_words command_line words) refl fits)
