-- By which actions a call may get through.
use Rattle.std.specs.Prelude.{◌≡◌, Bool, true, false, not, ◌&&◌, ◌==◌, length, List}
use Rattle.std.specs.List.{list_all}
use Rattle.sf_insn.specs.declared.input.Input.{Input}
use Rattle.sf_insn.specs.Inputs.{IsInput}
use Rattle.sf_check.specs.declared.insn.Insn.{Insn}
use Rattle.sf_run.specs.declared.action.Action.{Action}
use Rattle.sf_run.specs.declared.action.Action.TheVariants.{Allow, Log, Trace, UserNotif}
use Rattle.sf_run.specs.declared.action.Answer.{Answer}
use Rattle.sf_run.specs.Answers.{Answers}
use Rattle.sf_book.specs.Books.{BookData}

-- by ALLOW and LOG a call gets through, and by TRACE and USER_NOTIF another process decides
abbrev pub may_let_through : Action → Bool
may_let_through Allow = true
may_let_through Log = true
may_let_through Trace = true
may_let_through UserNotif = true
may_let_through _ = false

-- no input is answered by an action by which it may get through
abbrev pub LetsNoneThrough : List (List Insn) → Type 0
LetsNoneThrough stack = (d : Input) (a : Answer) → IsInput d → Answers stack d a → may_let_through a.action ≡ false

-- whether an exploration shows that: nothing is outstanding, and no region has such an answer
abbrev pub lets_none_through : BookData → Bool
lets_none_through s =
    (length s.outstanding == 0) && list_all (λ r. not (may_let_through r.answer.action)) s.regions
