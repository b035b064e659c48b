-- What the command line reads of the words `check p.bpf`, and of `audit --policy q.toml p.bpf`.
use Rattle.std.proofs.Common.{◌≡◌, ◌∙◌, ◌⊎◌, Bool, List, [], ◌∷◌, refl, subst, sym, codes, inl, inr, true, false}
use Rattle.std.specs.Prelude.{Option, Some, None}
use Rattle.std.specs.Str.{bytes_eq}
use Rattle.clap.specs.Words.{Kinds, IsAmong, Row, Text, first_of}
use Rattle.clap.specs.declared.error.kind.ErrorKind.{ErrorKind}
use Rattle.clap.proofs.OnLiterals.{clap_on_literals}
use Rattle.sf_command_line.specs.CommandLine.{command_line, errors_at, subcommand_at}
use Rattle.sf_command_line.specs.Options.{paths_of}
use Rattle.sf_evaluate.specs.Wanted.{is_switched_on}
use Rattle.command_run.specs.Lines.{audit_words, check_words}

-- where words fit, they give no error
pub no_error : (words : List Text) (kind : ErrorKind) → errors_at words ≡ [] → IsAmong kind (errors_at words) → ⊥
no_error words kind fits among = subst (λ (ks : Kinds). IsAmong kind ks) fits among

-- ---- the name of a subcommand

-- a subcommand has one name
pub other_name : (own other name : Text) → name ≡ own → name ≡ other → bytes_eq own own ≡ true
    → bytes_eq other own ≡ false → ⊥
other_name own other name is_own is_other same differs =
    let e : bytes_eq own own ≡ false = subst (λ (t : Text). bytes_eq t own ≡ false) (sym is_other ∙ is_own) differs in
    cc (same, e)

-- one of two statements
abbrev pub OneOf : Bool → Type 0 → Type 0 → Type 0
OneOf true A B = A
OneOf false A B = B

module _ (A B C D E F G : Type 0) where
  -- what may hold of the subcommand with a name
  abbrev pub Named : Text → Type 0
  Named name =
      OneOf (bytes_eq name (codes "audit")) A (OneOf (bytes_eq name (codes "check")) B
      (OneOf (bytes_eq name (codes "eval")) C (OneOf (bytes_eq name (codes "compare")) D
      (OneOf (bytes_eq name (codes "list")) E (OneOf (bytes_eq name (codes "needed")) F G)))))

  -- of all that may hold of a subcommand, by its name, only what holds of its own does
  pub alone : (name : Text) (found : Text × List Row) → found.0 ≡ name
      → ((found.0 ≡ codes "audit") × A) ⊎ ((found.0 ≡ codes "check") × B) ⊎ ((found.0 ≡ codes "eval") × C)
      ⊎ ((found.0 ≡ codes "compare") × D) ⊎ ((found.0 ≡ codes "list") × E) ⊎ ((found.0 ≡ codes "needed") × F)
      ⊎ ((found.0 ≡ codes "profile") × G) → Named name
  alone name found is (inl (own, it)) = subst Named (sym own ∙ is) it
  alone name found is (inr (inl (own, it))) = subst Named (sym own ∙ is) it
  alone name found is (inr (inr (inl (own, it)))) = subst Named (sym own ∙ is) it
  alone name found is (inr (inr (inr (inl (own, it))))) = subst Named (sym own ∙ is) it
  alone name found is (inr (inr (inr (inr (inl (own, it)))))) = subst Named (sym own ∙ is) it
  alone name found is (inr (inr (inr (inr (inr (inl (own, it))))))) = subst Named (sym own ∙ is) it
  alone name found is (inr (inr (inr (inr (inr (inr (own, it))))))) = subst Named (sym own ∙ is) it

-- ---- what is read of the words

-- this holds of the subcommand that words name
abbrev pub Of : (Text × List Row → Type 0) → Option (Text × List Row) → Type 0
Of P None = ⊥
Of P (Some found) = P found

-- what is read of the values of the arguments of `check p.bpf`
pub record IsCheck (found : Text × List Row) : Type 0 where
  pub name : found.0 ≡ codes "check"
  pub paths : paths_of (codes "filters") found.1 ≡ codes "p.bpf" ∷ []
  pub instructions : is_switched_on (codes "instructions") found.1 ≡ false
  pub json : is_switched_on (codes "json") found.1 ≡ false

pub check_fits : errors_at check_words ≡ []
unfolding clap_on_literals command_line errors_at
check_fits = refl

check_named : Of IsCheck (subcommand_at check_words)
unfolding clap_on_literals command_line subcommand_at
check_named = record { name = refl; paths = refl; instructions = refl; json = refl }

pub check_read : (found : Text × List Row) → subcommand_at check_words ≡ Some found → IsCheck found
check_read found is = subst (Of IsCheck) is check_named

-- the same of `audit --policy q.toml p.bpf`
pub record IsAudit (found : Text × List Row) : Type 0 where
  pub name : found.0 ≡ codes "audit"
  pub paths : paths_of (codes "filters") found.1 ≡ codes "p.bpf" ∷ []
  pub policies : paths_of (codes "policy") found.1 ≡ codes "q.toml" ∷ []
  pub accept : first_of (codes "accept") found.1 ≡ None

pub audit_fits : errors_at audit_words ≡ []
unfolding clap_on_literals command_line errors_at
audit_fits = refl

audit_named : Of IsAudit (subcommand_at audit_words)
unfolding clap_on_literals command_line subcommand_at
audit_named = record { name = refl; paths = refl; policies = refl; accept = refl }

pub audit_read : (found : Text × List Row) → subcommand_at audit_words ≡ Some found → IsAudit found
audit_read found is = subst (Of IsAudit) is audit_named
