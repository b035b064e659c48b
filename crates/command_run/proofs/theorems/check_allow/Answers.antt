use Rattle.std.proofs.Common.{◌≡◌, [], ◌∷◌, List, ℕ, map, string_bytes, subst}
use Rattle.command_run.specs.Lines.{IsDone, allow_bytes, check_words, one_text}
use Rattle.command_run.proofs.AllowLemmas.{allow, allow_is_spelled, allow_text}
use Rattle.command_run.proofs.theorems.check_allow.Goals as goal

pub returns : goal.returns
returns g c =
    let words_are : map string_bytes c.deref.result.now ≡ check_words = rw c.deref.ensures.value c.in_ok-words.ensures
    in
    let said = c.check-status.ensures allow_bytes one_text (allow ∷ []) words_are c.in_ok-files.ensures allow_is_spelled
    allow_text in
    subst (λ (old : List ℕ). IsDone c.check-status.result old c.check-status.new.out.items one_text)
    c.new-out.ensures.items said
