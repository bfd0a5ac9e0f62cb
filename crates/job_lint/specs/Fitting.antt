-- The opening keywords of a job in the order of the text, and which of them a warning is about.
use Rattle.std.specs.Prelude.{◌≡◌, ℕ, Bool, true, false, List, [], ◌∷◌, Option, Some, None, slice_get, if◌then◌else◌}
use Rattle.job_tree.specs.Tree.{Step, sleep, checkpoint, forever, pace, find, head, longest, need, raise, cancel, set_event, wait_for, ask_for, close_channel, scope, nursery, event, object, start, repeat, attempt, Steps, stop, step, Handled, unhandled, except, Cleaned, uncleaned, finally}
use Rattle.job_tokens.specs.declared.token.Token.{Token}
use Rattle.job_tokens.specs.Shapes.{word_in}
use Rattle.job_syntax.specs.declared.keyword.Keyword.{Keyword}
use Rattle.job_syntax.specs.declared.keyword.Keyword.TheVariants as keyword
use Rattle.job_syntax.specs.Keywords.{keyword_of}
use Rattle.job_syntax.specs.Pieces.{object_word, ask_word}
use Rattle.job_lint.specs.declared.warning.Lint.{Lint}
use Rattle.job_lint.specs.declared.warning.Lint.TheVariants.{Unreachable, ExposedWait, RaiseInCleanup, ShieldWithoutDeadline, IdleScope, IdleHandler, UnsetEvent, UnawaitedEvent, UnusedLimiter, OrderInversion, UnsentChannel, UnreceivedChannel, UnclosedChannel, LateCancel}
use Rattle.job_lint.specs.declared.warning.Warning.{Warning}
use Rattle.job_lint.specs.Openings.{is_opening, opens_after, numbered_in}

-- ---- in the text

abbrev pub kept_as : Option Keyword → List Keyword → List Keyword
kept_as None others = others
kept_as (Some k) others = if is_opening k then k ∷ others else others

abbrev pub kept_by : Option (List ℕ) → List Keyword → List Keyword
kept_by None others = others
kept_by (Some word) others = kept_as (keyword_of word) others

-- the opening keyword that a word is, if one may stand there, before others
abbrev pub kept_if : Bool → Option (List ℕ) → List Keyword → List Keyword
kept_if false word others = others
kept_if true word others = kept_by word others

-- the opening keywords from a token on, given whether one may stand there
abbrev pub keywords_from : (opens : Bool) → List Token → List Keyword
keywords_from opens [] = []
keywords_from opens (t ∷ ts) = kept_if opens (word_in t.shape) (keywords_from (opens_after t.shape) ts)

-- the opening keywords of a text
abbrev pub opening_keywords : List Token → List Keyword
opening_keywords ts = keywords_from false ts

-- ---- in the tree

abbrev pub own_keyword : Step → Keyword
own_keyword (sleep n) = keyword.Sleep
own_keyword checkpoint = keyword.Checkpoint
own_keyword forever = keyword.Forever
own_keyword (pace k) = keyword.Pace
own_keyword (find text) = keyword.Find
own_keyword (head n) = keyword.Head
own_keyword longest = keyword.Longest
own_keyword (need text name) = keyword.Need
own_keyword (raise name) = keyword.Raise
own_keyword (cancel name) = keyword.Cancel
own_keyword (set_event name) = keyword.Set
own_keyword (wait_for name) = keyword.Wait
own_keyword (ask_for name ask body) = ask_word ask
own_keyword (close_channel name) = keyword.Close
own_keyword (scope name deadline shield fail body) = keyword.Scope
own_keyword (nursery name deadline shield body) = keyword.Nursery
own_keyword (event name body) = keyword.Event
own_keyword (object name kind body) = object_word kind
own_keyword (start name over body) = keyword.Start
own_keyword (repeat count over body) = keyword.Repeat
own_keyword (attempt body handler cleanup) = keyword.Try

abbrev mutual
  -- those of a block, followed by others
  pub keywords_of : Steps → List Keyword → List Keyword
  keywords_of stop others = others
  keywords_of (step s ss) others = own_keyword s ∷ keywords_in s (keywords_of ss others)

  -- those of a step, after its own keyword
  pub keywords_in : Step → List Keyword → List Keyword
  keywords_in (sleep n) others = others
  keywords_in checkpoint others = others
  keywords_in forever others = others
  keywords_in (pace k) others = others
  keywords_in (find text) others = others
  keywords_in (head n) others = others
  keywords_in longest others = others
  keywords_in (need text name) others = others
  keywords_in (raise name) others = others
  keywords_in (cancel name) others = others
  keywords_in (set_event name) others = others
  keywords_in (wait_for name) others = others
  keywords_in (ask_for name ask body) others = keywords_of body others
  keywords_in (close_channel name) others = others
  keywords_in (scope name deadline shield fail body) others = keywords_of body others
  keywords_in (nursery name deadline shield body) others = keywords_of body others
  keywords_in (event name body) others = keywords_of body others
  keywords_in (object name kind body) others = keywords_of body others
  keywords_in (start name over body) others = keywords_of body others
  keywords_in (repeat count over body) others = keywords_of body others
  keywords_in (attempt body handler cleanup) others = keywords_of body (handled_keywords handler (cleaned_keywords cleanup others))

  pub handled_keywords : Handled → List Keyword → List Keyword
  handled_keywords unhandled others = others
  handled_keywords (except name body) others = keyword.Except ∷ keywords_of body others

  pub cleaned_keywords : Cleaned → List Keyword → List Keyword
  cleaned_keywords uncleaned others = others
  cleaned_keywords (finally body) others = keyword.Finally ∷ keywords_of body others

-- ---- what a warning is about

-- a keyword that begins a step
abbrev pub begins_step : Keyword → Bool
begins_step keyword.Except = false
begins_step keyword.Finally = false
begins_step k = is_opening k

abbrev pub is_wait : Keyword → Bool
is_wait keyword.Sleep = true
is_wait keyword.Checkpoint = true
is_wait keyword.Forever = true
is_wait keyword.Pace = true
is_wait keyword.Wait = true
is_wait keyword.Acquire = true
is_wait keyword.Send = true
is_wait keyword.Receive = true
is_wait _ = false

abbrev pub is_raise : Keyword → Bool
is_raise keyword.Raise = true
is_raise _ = false

abbrev pub is_shieldable : Keyword → Bool
is_shieldable keyword.Scope = true
is_shieldable keyword.Nursery = true
is_shieldable _ = false

abbrev pub is_scope : Keyword → Bool
is_scope keyword.Scope = true
is_scope _ = false

abbrev pub is_event : Keyword → Bool
is_event keyword.Event = true
is_event _ = false

abbrev pub is_limiter : Keyword → Bool
is_limiter keyword.Limiter = true
is_limiter _ = false

abbrev pub is_channel : Keyword → Bool
is_channel keyword.Channel = true
is_channel _ = false

abbrev pub is_cancel : Keyword → Bool
is_cancel keyword.Cancel = true
is_cancel _ = false

abbrev pub is_except : Keyword → Bool
is_except keyword.Except = true
is_except _ = false

-- whether a warning of this kind can be about a keyword
abbrev pub fits : Lint → Keyword → Bool
fits Unreachable k = begins_step k
fits ExposedWait k = is_wait k
fits RaiseInCleanup k = is_raise k
fits ShieldWithoutDeadline k = is_shieldable k
fits IdleScope k = is_scope k
fits IdleHandler k = is_except k
fits UnsetEvent k = is_event k
fits UnawaitedEvent k = is_event k
fits UnusedLimiter k = is_limiter k
fits OrderInversion k = is_limiter k
fits UnsentChannel k = is_channel k
fits UnreceivedChannel k = is_channel k
fits UnclosedChannel k = is_channel k
fits LateCancel k = is_cancel k

-- a warning is at the place of an opening keyword that it can be about
abbrev pub StandsAtKeyword : List ℕ → List Keyword → Warning → Type 0
StandsAtKeyword places keywords w =
    (n : ℕ) × (k : Keyword) × (w.at ≡ numbered_in places n) × (slice_get keywords n ≡ Some k) × (fits w.lint k ≡ true)

abbrev pub AllStandAtKeywords : List ℕ → List Keyword → List Warning → Type 0
AllStandAtKeywords places keywords [] = Unit {0}
AllStandAtKeywords places keywords (w ∷ ws) = StandsAtKeyword places keywords w × AllStandAtKeywords places keywords ws
