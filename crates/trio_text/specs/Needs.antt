-- Which helpers the steps of a job need in the program.
use Rattle.std.specs.Prelude.{Bool, true, false, ◌||◌, is_some}
use Rattle.job_tree.specs.declared.deadline.Deadline.{Deadline}
use Rattle.job_tree.specs.declared.deadline.Deadline.TheVariants.{Never, After, At}
use Rattle.job_tree.specs.declared.object.ObjectKind.{ObjectKind}
use Rattle.job_tree.specs.declared.object.ObjectKind.TheVariants.{Limiter, Channel}
use Rattle.job_tree.specs.declared.object.Ask.{Ask}
use Rattle.job_tree.specs.declared.object.Ask.TheVariants.{Acquire, Send, Receive}
use Rattle.job_tree.specs.Tree.{Step, pace, find, head, longest, need, ask_for, scope, nursery, event, object, start, repeat, attempt, Steps, stop, step, Handled, unhandled, except, Cleaned, uncleaned, finally}
use Rattle.trio_text.specs.declared.uses.Uses.{Uses}

abbrev pub no_uses : Uses
no_uses = record {
  handling = false;
  acquire = false;
  channel = false;
  pace = false;
  find = false;
  head = false;
  longest = false;
  need = false;
  over = false;
  start = false;
}

-- what the first or the second needs
unfoldable pub any_use : Uses → Uses → Uses
any_use a b = record {
  handling = a.handling || b.handling;
  acquire = a.acquire || b.acquire;
  channel = a.channel || b.channel;
  pace = a.pace || b.pace;
  find = a.find || b.find;
  head = a.head || b.head;
  longest = a.longest || b.longest;
  need = a.need || b.need;
  over = a.over || b.over;
  start = a.start || b.start;
}

-- whether a step reports lines
abbrev pub shows : Uses → Bool
shows uses = ((uses.find || uses.head) || uses.longest) || uses.need

-- a deadline at a tick of the job needs the time when the job starts
abbrev pub deadline_use : Deadline → Uses
deadline_use Never = no_uses
deadline_use (After ticks) = no_uses
deadline_use (At tick) = record no_uses { start = true }

-- a channel needs a name for both of its ends, and a token a holder
abbrev pub object_use : ObjectKind → Uses
object_use (Limiter tokens) = no_uses
object_use (Channel places) = record no_uses { channel = true }

abbrev pub ask_use : Ask → Uses
ask_use Acquire = record no_uses { acquire = true }
ask_use Send = no_uses
ask_use Receive = no_uses

-- a step without a block
abbrev pub plain_uses : Step → Uses
plain_uses (pace k) = record no_uses { pace = true }
plain_uses (find text) = record no_uses { find = true }
plain_uses (head n) = record no_uses { head = true }
plain_uses longest = record no_uses { longest = true }
plain_uses (need text name) = record no_uses { need = true }
plain_uses s = no_uses

abbrev mutual
  pub uses_of : Steps → Uses
  uses_of stop = no_uses
  uses_of (step s ss) = any_use (uses_in s) (uses_of ss)

  pub uses_in : Step → Uses
  uses_in (scope name deadline shield fail body) = any_use (deadline_use deadline) (uses_of body)
  uses_in (nursery name deadline shield body) = any_use (deadline_use deadline) (uses_of body)
  uses_in (event name body) = uses_of body
  uses_in (object name kind body) = any_use (object_use kind) (uses_of body)
  uses_in (ask_for name ask body) = any_use (ask_use ask) (uses_of body)
  uses_in (start name over body) = any_use (record no_uses { over = is_some over }) (uses_of body)
  uses_in (repeat count over body) = any_use (record no_uses { over = over }) (uses_of body)
  uses_in (attempt body handler cleanup) = any_use (any_use (uses_of body) (handled_uses handler)) (cleaned_uses cleanup)
  uses_in s = plain_uses s

  pub handled_uses : Handled → Uses
  handled_uses unhandled = no_uses
  handled_uses (except name body) = any_use (record no_uses { handling = true }) (uses_of body)

  pub cleaned_uses : Cleaned → Uses
  cleaned_uses uncleaned = no_uses
  cleaned_uses (finally body) = uses_of body
