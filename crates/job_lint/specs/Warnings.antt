-- Probable mistakes in a job, keyword by keyword.
use Rattle.std.specs.Prelude.{ℕ, ◌+◌, Bool, true, false, ◌&&◌, ◌||◌, not, List, [], ◌∷◌, Option, Some, None, codes, if◌then◌else◌}
use Rattle.std.specs.Str.{bytes_eq}
use Rattle.job_tree.specs.declared.deadline.Deadline.{Deadline}
use Rattle.job_tree.specs.declared.format.Format.{Format}
use Rattle.job_tree.specs.declared.format.Format.TheVariants.{One, Two, Three}
use Rattle.job_tree.specs.declared.object.ObjectKind.{ObjectKind}
use Rattle.job_tree.specs.declared.object.ObjectKind.TheVariants.{Limiter, Channel}
use Rattle.job_tree.specs.declared.object.Ask.TheVariants.{Acquire, Send, Receive}
use Rattle.job_tree.specs.Tree.{Step, sleep, checkpoint, forever, pace, find, head, longest, need, raise, cancel, set_event, wait_for, ask_for, close_channel, scope, nursery, event, object, start, repeat, attempt, Steps, stop, step, Handled, unhandled, except, Cleaned, uncleaned, finally, Tree}
use Rattle.job_reader.specs.Given.{is_among}
use Rattle.job_lint.specs.declared.around.Around.{Around}
use Rattle.job_lint.specs.declared.warning.Lint.TheVariants.{Unreachable, ExposedWait, RaiseInCleanup, ShieldWithoutDeadline, IdleScope, IdleHandler, UnsetEvent, UnawaitedEvent, UnusedLimiter, OrderInversion, UnsentChannel, UnreceivedChannel, UnclosedChannel, LateCancel}
use Rattle.job_lint.specs.declared.warning.Warning.{Warning}
use Rattle.job_lint.specs.declared.sought.Sought.TheVariants.{Cancel, Raise, Fail, Failure, Wait, Set, Await, Asking, Close, Looped, Inverted}
use Rattle.job_lint.specs.Seeking.{has, is_never}
use Rattle.job_lint.specs.Openings.{openings_of, openings_in, handled_openings}

-- ---- what encloses a block

-- whether time is counted by whole ticks, so that a `cancel` is seen from the next tick on
abbrev pub counts_ticks : Format → Bool
counts_ticks One = true
counts_ticks Two = true
counts_ticks Three = false

-- the block of a job
abbrev pub in_job : Format → Around
in_job format = record { in_ticks = counts_ticks format; cleanup = false; exposed = false; late = false; cancellable = false }

-- the block of a handler
abbrev pub in_handler : Around → Around
in_handler around = record around { late = around.in_ticks }

-- the block of a cleanup
abbrev pub in_cleanup : Around → Around
in_cleanup around = record around { cleanup = true; exposed = true; late = around.in_ticks }

-- the block of a scope or nursery, with or without a shield, which is cancelled itself or not
abbrev pub in_block : (shield cancelled : Bool) → Around → Around
in_block shield cancelled around =
    if shield then record around { exposed = false; cancellable = cancelled }
    else record around { cancellable = cancelled || around.cancellable }

-- ---- at one keyword

abbrev pub warn_if : Bool → Warning → Option Warning
warn_if holds warning = if holds then Some warning else None

abbrev pub with_warning : Option Warning → List Warning → List Warning
with_warning None others = others
with_warning (Some w) others = w ∷ others

-- The steps after this one in its block never run. It is not decided whether a `wait` ends, or a step that asks for something.
abbrev pub never_ends_well : Step → Bool
never_ends_well forever = true
never_ends_well (raise name) = true
never_ends_well _ = false

abbrev pub unreachable_step : Bool → ℕ → Option Warning
unreachable_step unreachable at = warn_if unreachable (record { at = at; lint = Unreachable; name = None })

-- a wait in a cleanup, enclosed by no shield inside the cleanup
abbrev pub exposed_wait : Around → ℕ → Option Warning
exposed_wait around at = warn_if around.exposed (record { at = at; lint = ExposedWait; name = None })

abbrev pub raise_in_cleanup : Around → ℕ → Option Warning
raise_in_cleanup around at = warn_if around.cleanup (record { at = at; lint = RaiseInCleanup; name = None })

-- a shield without a deadline in which something waits
abbrev pub endless_shield : List ℕ → Steps → ℕ → Option Warning
endless_shield name body at = warn_if (has Wait body) (record { at = at; lint = ShieldWithoutDeadline; name = Some name })

-- A scope without a deadline that no `cancel` in it names. Without `fail` it still shows when its block is left, which says something
-- if the block may be left early: because something in it raises, or something around it is cancelled.
abbrev pub is_idle : Around → List ℕ → (fail : Bool) → Steps → Bool
is_idle around name fail body = not (has (Cancel name) body) && (fail || not (around.cancellable || has Failure body))

abbrev pub idle_scope : Around → List ℕ → (fail : Bool) → Steps → ℕ → Option Warning
idle_scope around name fail body at = warn_if (is_idle around name fail body) (record { at = at; lint = IdleScope; name = Some name })

abbrev pub scope_warning : Around → List ℕ → Deadline → (shield fail : Bool) → Steps → ℕ → Option Warning
scope_warning around name deadline shield fail body at =
    if not (is_never deadline) then None
    else (if shield then endless_shield name body at else idle_scope around name fail body at)

-- the deadline of a scope or nursery cancels it, or a `cancel` in it that names it
abbrev pub is_cancelled : List ℕ → Deadline → Steps → Bool
is_cancelled name deadline body = not (is_never deadline) || has (Cancel name) body

-- a member of a nursery that ends with an exception cancels it too
abbrev pub is_nursery_cancelled : List ℕ → Deadline → Steps → Bool
is_nursery_cancelled name deadline body = is_cancelled name deadline body || has Failure body

-- A `cancel` in a cleanup or handler, where time is counted by ticks, of a scope or nursery that is not among those opened there.
abbrev pub late_cancel : Around → List (List ℕ) → List ℕ → ℕ → Option Warning
late_cancel around opened name at =
    warn_if (around.late && not (is_among opened name)) (record { at = at; lint = LateCancel; name = Some name })

abbrev pub nursery_warning : List ℕ → Deadline → Bool → Steps → ℕ → Option Warning
nursery_warning name deadline shield body at = if is_never deadline && shield then endless_shield name body at else None

-- an event that no `set` in it names, or that something sets and no `wait` in it names
abbrev pub event_warning : List ℕ → Steps → ℕ → Option Warning
event_warning name body at =
    if has (Set name) body
    then warn_if (not (has (Await name) body)) (record { at = at; lint = UnawaitedEvent; name = Some name })
    else Some (record { at = at; lint = UnsetEvent; name = Some name })

-- a limiter that no `acquire` in it names, or whose tokens and those of a limiter in it are asked for in both orders
abbrev pub limiter_warning : List ℕ → Steps → ℕ → Option Warning
limiter_warning name body at =
    if has (Asking Acquire name) body
    then warn_if (has (Inverted name) body) (record { at = at; lint = OrderInversion; name = Some name })
    else Some (record { at = at; lint = UnusedLimiter; name = Some name })

-- a channel that no `close` in it names, and no `send` either, or from which a `receive` in a loop receives
abbrev pub open_channel_warning : List ℕ → Steps → ℕ → Option Warning
open_channel_warning name body at =
    if has (Asking Send name) body
    then warn_if (has (Looped name) body) (record { at = at; lint = UnclosedChannel; name = Some name })
    else Some (record { at = at; lint = UnsentChannel; name = Some name })

-- a channel that no `receive` in it names, or one that nothing closes
abbrev pub channel_warning : List ℕ → Steps → ℕ → Option Warning
channel_warning name body at =
    if has (Asking Receive name) body
    then (if has (Close name) body then None else open_channel_warning name body at)
    else Some (record { at = at; lint = UnreceivedChannel; name = Some name })

abbrev pub object_warning : List ℕ → ObjectKind → Steps → ℕ → Option Warning
object_warning name (Limiter n) body at = limiter_warning name body at
object_warning name (Channel n) body at = channel_warning name body at

-- a step of a block raises exceptions with this name; or the name is `TooSlow`, and a scope in it has `fail`
abbrev pub can_raise : List ℕ → Steps → Bool
can_raise name body = has (Raise name) body || (bytes_eq name (codes "TooSlow") && has Fail body)

-- a handler of exceptions that the block of its `try` cannot raise
abbrev pub idle_handler : List ℕ → Steps → ℕ → Option Warning
idle_handler name tried at = warn_if (not (can_raise name tried)) (record { at = at; lint = IdleHandler; name = Some name })

-- the warning at the keyword of a step, except the one that the step is unreachable
abbrev pub own_warning : Around → (opened : List (List ℕ)) → ℕ → Step → Option Warning
own_warning around opened at (sleep n) = exposed_wait around at
own_warning around opened at checkpoint = exposed_wait around at
own_warning around opened at forever = exposed_wait around at
own_warning around opened at (pace k) = exposed_wait around at
own_warning around opened at (wait_for name) = exposed_wait around at
own_warning around opened at (ask_for name ask body) = exposed_wait around at
own_warning around opened at (raise name) = raise_in_cleanup around at
own_warning around opened at (cancel name) = late_cancel around opened name at
own_warning around opened at (scope name deadline shield fail body) =
    scope_warning around name deadline shield fail body at
own_warning around opened at (nursery name deadline shield body) = nursery_warning name deadline shield body at
own_warning around opened at (event name body) = event_warning name body at
own_warning around opened at (object name kind body) = object_warning name kind body at
own_warning around opened at _ = None

-- both warnings, followed by others
abbrev pub warnings_at : (unreachable : Bool) → Around → (opened : List (List ℕ)) → ℕ → Step → List Warning → List Warning
warnings_at unreachable around opened at s others =
    with_warning (unreachable_step unreachable at) (with_warning (own_warning around opened at s) others)

-- ---- keyword by keyword

abbrev mutual
  -- The warnings of a block, followed by others, given the place of each keyword, what encloses the block, which scopes
  -- and nurseries are opened in the innermost cleanup or handler around it (or in the job), whether its first step is unreachable, and
  -- the number of its first keyword.
  pub warnings_of : (place : ℕ → ℕ) → Around → (opened : List (List ℕ)) → (unreachable : Bool) → (number : ℕ) → Steps → List Warning
      → List Warning
  warnings_of place around opened unreachable number stop others = others
  warnings_of place around opened unreachable number (step s ss) others =
      warnings_at unreachable around opened (place number) s
      (warnings_in place around opened (number + 1) s
      (warnings_of place around opened (never_ends_well s) (number + 1 + openings_in s) ss others))

  -- the warnings inside a step
  pub warnings_in : (ℕ → ℕ) → Around → (opened : List (List ℕ)) → ℕ → Step → List Warning → List Warning
  warnings_in place around opened number (sleep n) others = others
  warnings_in place around opened number checkpoint others = others
  warnings_in place around opened number forever others = others
  warnings_in place around opened number (pace k) others = others
  warnings_in place around opened number (find text) others = others
  warnings_in place around opened number (head n) others = others
  warnings_in place around opened number longest others = others
  warnings_in place around opened number (need text name) others = others
  warnings_in place around opened number (raise name) others = others
  warnings_in place around opened number (cancel name) others = others
  warnings_in place around opened number (set_event name) others = others
  warnings_in place around opened number (wait_for name) others = others
  warnings_in place around opened number (ask_for name ask body) others = warnings_of place around opened false number body others
  warnings_in place around opened number (close_channel name) others = others
  warnings_in place around opened number (scope name deadline shield fail body) others =
      warnings_of place (in_block shield (is_cancelled name deadline body) around) (name ∷ opened) false number body others
  warnings_in place around opened number (nursery name deadline shield body) others =
      warnings_of place (in_block shield (is_nursery_cancelled name deadline body) around) (name ∷ opened) false number body others
  warnings_in place around opened number (event name body) others = warnings_of place around opened false number body others
  warnings_in place around opened number (object name kind body) others = warnings_of place around opened false number body others
  warnings_in place around opened number (start name over body) others = warnings_of place around opened false number body others
  warnings_in place around opened number (repeat count over body) others = warnings_of place around opened false number body others
  warnings_in place around opened number (attempt body handler cleanup) others =
      warnings_of place around opened false number body
      (handled_warnings place around (number + openings_of body) body handler
      (cleaned_warnings place around (number + openings_of body + handled_openings handler) cleanup others))

  -- the warnings of the handler of a `try`, given the block of the `try`
  pub handled_warnings : (ℕ → ℕ) → Around → ℕ → Steps → Handled → List Warning → List Warning
  handled_warnings place around number tried unhandled others = others
  handled_warnings place around number tried (except name body) others =
      with_warning (idle_handler name tried (place number)) (warnings_of place (in_handler around) [] false (number + 1) body others)

  pub cleaned_warnings : (ℕ → ℕ) → Around → ℕ → Cleaned → List Warning → List Warning
  cleaned_warnings place around number uncleaned others = others
  cleaned_warnings place around number (finally body) others = warnings_of place (in_cleanup around) [] false (number + 1) body others

-- the warnings of a job, given the place of each keyword
abbrev pub job_warnings : (ℕ → ℕ) → Tree → List Warning
job_warnings place job = warnings_of place (in_job job.format) [] false 0 job.steps []
