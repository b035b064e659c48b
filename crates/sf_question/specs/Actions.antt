-- Sets of actions.
use Rattle.std.specs.Prelude.{Bool, not, ◌||◌}
use Rattle.sf_run.specs.declared.action.Action.{Action}
use Rattle.sf_run.specs.declared.action.Action.TheVariants.{KillProcess, KillThread, Trap, Errno, UserNotif, Trace, Log, Allow, Other}
use Rattle.sf_question.specs.declared.actions.ActionSet.{ActionSet}

-- no action is in the set
abbrev pub is_no_action : ActionSet → Bool
is_no_action s =
    not (s.kill_process || s.kill_thread || s.trap || s.errno || s.user_notif || s.trace || s.log || s.allow || s.other)

-- the action is in the set
abbrev pub has_action : ActionSet → Action → Bool
has_action s KillProcess = s.kill_process
has_action s KillThread = s.kill_thread
has_action s Trap = s.trap
has_action s Errno = s.errno
has_action s UserNotif = s.user_notif
has_action s Trace = s.trace
has_action s Log = s.log
has_action s Allow = s.allow
has_action s (Other number) = s.other
