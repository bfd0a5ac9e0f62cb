-- The keywords of a job text.
use Rattle.std.specs.Prelude.{ℕ, List, [], ◌∷◌, Bool, true, false, not, Option, Some, None, codes, if◌then◌else◌}
use Rattle.std.specs.Str.{bytes_eq}
use Rattle.job_syntax.specs.declared.keyword.Keyword.{Keyword}
use Rattle.job_syntax.specs.declared.keyword.Keyword.TheVariants.{Job, Sleep, Checkpoint, Forever, Pace, Find, Head, Longest, Need, Raise, Cancel, Scope, After, At, Shield, Fail, Nursery, Start, Over, Try, Except, Finally, Repeat, Event, Set, Wait, Limiter, Acquire, Channel, Send, Receive, Close}

abbrev pub spelling_of : Keyword → List ℕ
spelling_of Job = codes "job"
spelling_of Sleep = codes "sleep"
spelling_of Checkpoint = codes "checkpoint"
spelling_of Forever = codes "forever"
spelling_of Pace = codes "pace"
spelling_of Find = codes "find"
spelling_of Head = codes "head"
spelling_of Longest = codes "longest"
spelling_of Need = codes "need"
spelling_of Raise = codes "raise"
spelling_of Cancel = codes "cancel"
spelling_of Scope = codes "scope"
spelling_of After = codes "after"
spelling_of At = codes "at"
spelling_of Shield = codes "shield"
spelling_of Fail = codes "fail"
spelling_of Nursery = codes "nursery"
spelling_of Start = codes "start"
spelling_of Over = codes "over"
spelling_of Try = codes "try"
spelling_of Except = codes "except"
spelling_of Finally = codes "finally"
spelling_of Repeat = codes "repeat"
spelling_of Event = codes "event"
spelling_of Set = codes "set"
spelling_of Wait = codes "wait"
spelling_of Limiter = codes "limiter"
spelling_of Acquire = codes "acquire"
spelling_of Channel = codes "channel"
spelling_of Send = codes "send"
spelling_of Receive = codes "receive"
spelling_of Close = codes "close"

-- whether a keyword may also be a name: those that format 3 added, so that each job of format 2 is a job of format 3
abbrev pub may_be_name : Keyword → Bool
may_be_name Event = true
may_be_name Set = true
may_be_name Wait = true
may_be_name Limiter = true
may_be_name Acquire = true
may_be_name Channel = true
may_be_name Send = true
may_be_name Receive = true
may_be_name Close = true
may_be_name _ = false

-- a keyword that may not be a name
abbrev pub is_kept : Option Keyword → Bool
is_kept None = false
is_kept (Some k) = not (may_be_name k)

-- the first of these keywords that has this spelling
abbrev pub keyword_among : List Keyword → List ℕ → Option Keyword
keyword_among [] word = None
keyword_among (k ∷ ks) word = if bytes_eq (spelling_of k) word then Some k else keyword_among ks word

-- all keywords
abbrev pub keywords : List Keyword
keywords = Job ∷ Sleep ∷ Checkpoint ∷ Forever ∷ Pace ∷ Find ∷ Head ∷ Longest ∷ Need ∷ Raise ∷ Cancel ∷ Scope ∷ After ∷ At ∷ Shield ∷ Fail
    ∷ Nursery ∷ Start ∷ Over ∷ Try ∷ Except ∷ Finally ∷ Repeat ∷ Event ∷ Set ∷ Wait ∷ Limiter ∷ Acquire ∷ Channel ∷ Send ∷ Receive ∷ Close ∷ []

-- the keyword that a word is, or `None` if it is not a keyword
unfoldable pub keyword_of : List ℕ → Option Keyword
keyword_of word = keyword_among keywords word
