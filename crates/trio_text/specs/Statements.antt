-- The statements of the steps. Each text follows the text before it.
use Rattle.std.specs.Prelude.{ℕ, Bool, true, false, not, ◌&&◌, Option, Some, None, List, [], ◌∷◌, ◌++◌, codes, decimal, if◌then◌else◌}
use Rattle.job_tokens.specs.Canon.{canon_of}
use Rattle.job_tokens.specs.declared.token.Shape.TheVariants as shape
use Rattle.job_tree.specs.declared.deadline.Deadline.{Deadline}
use Rattle.job_tree.specs.declared.deadline.Deadline.TheVariants.{Never, After, At}
use Rattle.job_tree.specs.declared.object.ObjectKind.{ObjectKind}
use Rattle.job_tree.specs.declared.object.ObjectKind.TheVariants.{Limiter, Channel}
use Rattle.job_tree.specs.Tree.{Step, sleep, checkpoint, forever, pace, find, head, longest, need, raise, cancel, set_event, wait_for, close_channel}
use Rattle.trio_text.specs.Names.{name_text, class_text}
use Rattle.trio_text.specs.Uses.{Known, among, is_too_slow, is_end_of_channel, is_in_trio}
use Rattle.trio_text.specs.Lines.{margin, deeper, with_line, with_gap, with_used}

-- the class that the program has for exceptions of a name
unfoldable pub class_of : Known → List ℕ → List ℕ
class_of known name = class_text (among known.given name) name

-- Trio's class for an exception that Trio raises
abbrev pub trio_class : List ℕ → List ℕ
trio_class name =
    if is_too_slow name then codes "trio.TooSlowError"
    else if is_end_of_channel name then codes "trio.EndOfChannel"
    else codes "trio.ClosedResourceError"

-- the class of the exceptions of a name, which a step raises or a handler handles
unfoldable pub raised_class : Known → List ℕ → List ℕ
raised_class known name = if is_in_trio name then trio_class name else class_of known name

-- a call whose last argument is a number
unfoldable pub with_call : List ℕ → ℕ → List ℕ → List ℕ
with_call call n before = before ++ call ++ decimal n ++ codes ")"

-- a string of the job as a Python string
unfoldable pub with_text : List ℕ → List ℕ → List ℕ
with_text text before = before ++ codes "b" ++ canon_of (shape.Text text ∷ [])

unfoldable pub with_find : List ℕ → List ℕ → List ℕ
with_find text before = with_text text (before ++ codes "find(part, ") ++ codes ")"

unfoldable pub with_need : Known → List ℕ → List ℕ → List ℕ → List ℕ
with_need known text name before = with_text text (before ++ codes "need(part, ") ++ codes ", " ++ raised_class known name ++ codes ")"

unfoldable pub with_cancel : Bool → List ℕ → List ℕ → List ℕ
with_cancel is_nursery name before = with_used is_nursery (codes ".cancel_scope") (before ++ name_text name) ++ codes ".cancel()"

unfoldable pub with_set : List ℕ → List ℕ → List ℕ
with_set name before = before ++ name_text name ++ codes ".set()"

unfoldable pub with_wait : List ℕ → List ℕ → List ℕ
with_wait name before = before ++ codes "await " ++ name_text name ++ codes ".wait()"

unfoldable pub with_close : List ℕ → List ℕ → List ℕ
with_close name before = before ++ name_text name ++ codes ".send_channel.close()"

-- the statement of a step without a block
abbrev pub with_statement : Known → Step → List ℕ → List ℕ
with_statement known (sleep n) before = with_call (codes "await trio.sleep(") n before
with_statement known checkpoint before = before ++ codes "await trio.lowlevel.checkpoint()"
with_statement known forever before = before ++ codes "await trio.sleep_forever()"
with_statement known (pace k) before = with_call (codes "await pace(part, ") k before
with_statement known (find text) before = with_find text before
with_statement known (head n) before = with_call (codes "head(part, ") n before
with_statement known longest before = before ++ codes "longest(part)"
with_statement known (need text name) before = with_need known text name before
with_statement known (raise name) before = before ++ codes "raise " ++ raised_class known name
with_statement known (cancel name) before = with_cancel (among known.nurseries name) name before
with_statement known (set_event name) before = with_set name before
with_statement known (wait_for name) before = with_wait name before
with_statement known (close_channel name) before = with_close name before
with_statement known s before = before

-- its line
unfoldable pub with_plain : Known → ℕ → Step → List ℕ → List ℕ
with_plain known level s before = with_statement known s (before ++ margin level) ++ codes "\n"

-- whether a scope has neither a deadline nor `fail`
abbrev pub is_plain : Deadline → Bool → Bool
is_plain Never fail = not fail
is_plain (After ticks) fail = false
is_plain (At tick) fail = false

abbrev pub scope_kind : Bool → List ℕ
scope_kind true = codes "fail"
scope_kind false = codes "move_on"

abbrev pub plain_scope : Bool → List ℕ
plain_scope true = codes "CancelScope(shield=True)"
plain_scope false = codes "CancelScope()"

-- Trio's call for a scope with a deadline or `fail`
abbrev pub with_timed_scope : Deadline → Bool → List ℕ → List ℕ
with_timed_scope Never fail before = before ++ scope_kind fail ++ codes "_after(float(\"inf\"))"
with_timed_scope (After ticks) fail before = with_call (codes "_after(") ticks (before ++ scope_kind fail)
with_timed_scope (At tick) fail before = with_call (codes "_at(start + ") tick (before ++ scope_kind fail)

-- Trio's call for a scope; if it is plain, the shield is an argument
abbrev pub with_scope_call : Bool → Deadline → Bool → Bool → List ℕ → List ℕ
with_scope_call true deadline shield fail before = before ++ plain_scope shield
with_scope_call false deadline shield fail before = with_timed_scope deadline fail before

-- a line that sets something of a scope or nursery, if it is to be set
abbrev pub with_setting : ℕ → Bool → List ℕ → List ℕ → List ℕ → List ℕ
with_setting level true name setting before = before ++ margin level ++ name_text name ++ setting
with_setting level false name setting before = before

-- the lines that open a scope
unfoldable pub with_scope : ℕ → List ℕ → Deadline → Bool → Bool → List ℕ → List ℕ
with_scope level name deadline shield fail before = with_setting (deeper level) (shield && not (is_plain deadline fail)) name (codes ".shield = True\n")
    (with_scope_call (is_plain deadline fail) deadline shield fail (before ++ margin level ++ codes "with trio.") ++ codes " as " ++ name_text name ++ codes ":\n")

unfoldable pub with_deadline_from : ℕ → List ℕ → List ℕ → ℕ → List ℕ → List ℕ
with_deadline_from level name from ticks before =
    before ++ margin level ++ name_text name ++ codes ".cancel_scope.deadline = " ++ from ++ decimal ticks ++ codes "\n"

-- the line that sets the deadline of a nursery, if it has one
abbrev pub with_deadline : ℕ → List ℕ → Deadline → List ℕ → List ℕ
with_deadline level name Never before = before
with_deadline level name (After ticks) before = with_deadline_from level name (codes "trio.current_time() + ") ticks before
with_deadline level name (At tick) before = with_deadline_from level name (codes "start + ") tick before

-- the line that opens a nursery
unfoldable pub with_opened : ℕ → List ℕ → List ℕ → List ℕ
with_opened level name before = before ++ margin level ++ codes "async with trio.open_nursery() as " ++ name_text name ++ codes ":\n"

-- that line, and those that set its deadline and its shield
unfoldable pub with_nursery : ℕ → List ℕ → Deadline → Bool → List ℕ → List ℕ
with_nursery level name deadline shield before = with_setting (deeper level) shield name (codes ".cancel_scope.shield = True\n")
    (with_deadline (deeper level) name deadline (with_opened level name before))

-- the line that makes an event
unfoldable pub with_event : ℕ → List ℕ → List ℕ → List ℕ
with_event level name before = before ++ margin level ++ name_text name ++ codes " = trio.Event()\n"

-- what makes a limiter or a channel
abbrev pub with_object_call : ObjectKind → List ℕ → List ℕ
with_object_call (Limiter tokens) before = with_call (codes " = trio.CapacityLimiter(") tokens before
with_object_call (Channel places) before = with_call (codes " = Channel(") places before

-- the line that makes it
unfoldable pub with_object : ℕ → List ℕ → ObjectKind → List ℕ → List ℕ
with_object level name kind before = with_object_call kind (before ++ margin level ++ name_text name) ++ codes "\n"

-- the line that takes a token for a block
unfoldable pub with_acquire : ℕ → List ℕ → List ℕ → List ℕ
with_acquire level name before = before ++ margin level ++ codes "async with token_of(" ++ name_text name ++ codes "):\n"

-- the line that sends the task's part
unfoldable pub with_send : ℕ → List ℕ → List ℕ → List ℕ
with_send level name before = before ++ margin level ++ codes "await " ++ name_text name ++ codes ".send_channel.send(part)\n"

-- the line that begins the function of what is done with a part that is received
unfoldable pub with_received : ℕ → List ℕ → List ℕ
with_received level before = with_line level (codes "async def received(part):") (with_gap before)

-- the line that receives a part and calls it
unfoldable pub with_receive : ℕ → List ℕ → List ℕ → List ℕ
with_receive level name before =
    before ++ codes "\n" ++ margin level ++ codes "await received(await " ++ name_text name ++ codes ".receive_channel.receive())\n"

-- the parameters of a started task: one of several copies gets its part of the input
abbrev pub parameters : Option ℕ → List ℕ
parameters None = codes "():\n"
parameters (Some copies) = codes "(part):\n"

-- the lines that begin the function of a started task
unfoldable pub with_task : ℕ → List ℕ → Option ℕ → List ℕ → List ℕ
with_task level name over before =
    with_line level (codes "@reported") (with_gap before) ++ margin level ++ codes "async def " ++ name_text name ++ parameters over

-- the line that starts a task in the nursery around it
unfoldable pub with_start : ℕ → List ℕ → List ℕ → List ℕ → List ℕ → List ℕ
with_start level around name end before = before ++ margin level ++ name_text around ++ codes ".start_soon(" ++ name_text name ++ end

-- an empty line, and the line that begins a loop over the parts of the input
unfoldable pub with_cuts : ℕ → ℕ → List ℕ → List ℕ
with_cuts level count before = with_call (codes "for cut in over(part, ") count (before ++ codes "\n" ++ margin level) ++ codes ":\n"

-- the lines that start a task, or one task for each part of the input
unfoldable pub with_starts : ℕ → List ℕ → List ℕ → Option ℕ → List ℕ → List ℕ
with_starts level around name None before = with_start level around name (codes ")\n") (before ++ codes "\n")
with_starts level around name (Some copies) before = with_start (deeper level) around name (codes ", cut)\n") (with_cuts level copies before)

-- the line that begins a loop
unfoldable pub with_repeat : ℕ → ℕ → List ℕ → List ℕ
with_repeat level count before = with_call (codes "for _ in range(") count (before ++ margin level) ++ codes ":\n"

-- the line that begins the function of a pass of a `repeat over`
unfoldable pub with_each_part : ℕ → List ℕ → List ℕ
with_each_part level before = with_line level (codes "async def each_part(part):") (with_gap before)

-- the lines that call it for each part of the input
unfoldable pub with_each_cut : ℕ → ℕ → List ℕ → List ℕ
with_each_cut level count before = with_line (deeper level) (codes "await each_part(cut)") (with_cuts level count before)

-- the lines that begin a handler
unfoldable pub with_handling : Known → ℕ → List ℕ → List ℕ → List ℕ
with_handling known level name before = with_line level (codes "except BaseException as error:") before
    ++ margin (deeper level) ++ codes "with handling(" ++ raised_class known name ++ codes ", error):\n"
