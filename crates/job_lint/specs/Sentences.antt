-- What a warning says, in a sentence.
use Rattle.std.specs.Prelude.{ℕ, Bool, ◌||◌, List, [], ◌++◌, Option, Some, None, codes, if◌then◌else◌}
use Rattle.std.specs.Str.{bytes_eq}
use Rattle.job_lint.specs.declared.warning.Lint.{Lint}
use Rattle.job_lint.specs.declared.warning.Lint.TheVariants.{Unreachable, ExposedWait, RaiseInCleanup, ShieldWithoutDeadline, IdleScope, IdleHandler, UnsetEvent, UnawaitedEvent, UnusedLimiter, OrderInversion, UnsentChannel, UnreceivedChannel, UnclosedChannel, LateCancel}
use Rattle.job_lint.specs.declared.warning.Warning.{Warning}

abbrev pub idle_scope_text : List ℕ → List ℕ
idle_scope_text name =
    codes "nothing cancels the scope " ++ name ++ codes ": it has no deadline, and no `cancel " ++ name ++ codes "` is in it"

-- names that Trio and Python give to what a scope with `fail` raises, to classes of exceptions, to groups, and to what is raised
-- where a channel is closed
abbrev pub is_timeout : List ℕ → Bool
is_timeout name = bytes_eq name (codes "TooSlowError") || bytes_eq name (codes "TimeoutError")

abbrev pub is_class : List ℕ → Bool
is_class name = bytes_eq name (codes "Exception") || bytes_eq name (codes "BaseException")

abbrev pub is_group : List ℕ → Bool
is_group name = bytes_eq name (codes "ExceptionGroup") || bytes_eq name (codes "BaseExceptionGroup")

abbrev pub is_closing : List ℕ → Bool
is_closing name = bytes_eq name (codes "ClosedResourceError") || bytes_eq name (codes "BrokenResourceError")

-- what a handler of this name may have been meant for, or that it never runs
abbrev pub idle_reason : List ℕ → List ℕ
idle_reason name =
    if is_timeout name then codes ": a scope with `fail` raises TooSlow, which `except TooSlow` handles"
    else if is_class name then codes ": a handler has the name of one exception, and handles no other"
    else if is_group name then codes ": a handler has the name of an exception, and handles all of that name in a group"
    else if is_closing name then codes ": a `send` to a closed channel raises ClosedResource, which `except ClosedResource` handles"
    else codes ", so its handler never runs"

abbrev pub idle_handler_text : List ℕ → List ℕ
idle_handler_text name =
    if bytes_eq name (codes "TooSlow") then
    codes "no scope in this `try` has `fail`, so nothing raises TooSlow and its handler never runs"
    else codes "nothing in this `try` raises " ++ name ++ idle_reason name

abbrev pub unset_event_text : List ℕ → List ℕ
unset_event_text name = codes "nothing sets the event " ++ name ++ codes ": no `set " ++ name ++ codes "` is in it"

abbrev pub unawaited_event_text : List ℕ → List ℕ
unawaited_event_text name = codes "nothing waits for the event " ++ name ++ codes ": no `wait " ++ name ++ codes "` is in it"

abbrev pub unused_limiter_text : List ℕ → List ℕ
unused_limiter_text name = codes "nothing asks for a token of the limiter " ++ name ++ codes ": no `acquire " ++ name ++ codes "` is in it"

abbrev pub order_inversion_text : List ℕ → List ℕ
order_inversion_text name =
    codes "tokens of " ++ name ++ codes " and of a limiter in it are asked for in both orders, each while the other is held: this may deadlock"

abbrev pub unsent_channel_text : List ℕ → List ℕ
unsent_channel_text name =
    codes "nothing sends to the channel " ++ name ++ codes " or closes it: neither `send " ++ name ++ codes "` nor `close " ++ name ++ codes "` is in it"

abbrev pub unreceived_channel_text : List ℕ → List ℕ
unreceived_channel_text name = codes "nothing receives from the channel " ++ name ++ codes ": no `receive " ++ name ++ codes "` is in it"

abbrev pub unclosed_channel_text : List ℕ → List ℕ
unclosed_channel_text name =
    codes "nothing closes the channel " ++ name ++ codes ", so a `receive " ++ name ++ codes "` in a `repeat` may wait for ever: no `close "
    ++ name ++ codes "` is in it"

abbrev pub late_cancel_text : List ℕ → List ℕ
late_cancel_text name =
    codes "`cancel " ++ name
    ++ codes "` in a cleanup or handler takes effect a tick later than in Trio, which may change the outcome: format 3 has Trio's outcome"

-- the sentence for a kind of mistake, with the name that it is about
abbrev pub sentence_for : Lint → List ℕ → List ℕ
sentence_for Unreachable name = codes "this step never runs: the step before it never ends well"
sentence_for ExposedWait name =
    codes "a cleanup that waits here is cut off when its task is cancelled: put the wait into a scope with a deadline and `shield`"
sentence_for RaiseInCleanup name = codes "an exception raised in a cleanup replaces the one that the cleanup began with"
sentence_for ShieldWithoutDeadline name = codes "nothing outside can cancel a wait in this shield: give it a deadline"
sentence_for IdleScope name = idle_scope_text name
sentence_for IdleHandler name = idle_handler_text name
sentence_for UnsetEvent name = unset_event_text name
sentence_for UnawaitedEvent name = unawaited_event_text name
sentence_for UnusedLimiter name = unused_limiter_text name
sentence_for OrderInversion name = order_inversion_text name
sentence_for UnsentChannel name = unsent_channel_text name
sentence_for UnreceivedChannel name = unreceived_channel_text name
sentence_for UnclosedChannel name = unclosed_channel_text name
sentence_for LateCancel name = late_cancel_text name

abbrev pub name_or_none : Option (List ℕ) → List ℕ
name_or_none None = []
name_or_none (Some name) = name

abbrev pub sentence_of : Warning → List ℕ
sentence_of warning = sentence_for warning.lint (name_or_none warning.name)
