-- The sites of a job text, where time passes or may pass, or where it matters when a step runs, found among its tokens: a keyword
-- begins each.
use Rattle.std.specs.Prelude.{ℕ, Bool, false, List, [], ◌∷◌, ◌++◌, Option, Some, None, codes, decimal}
use Rattle.std.specs.Option.{option_map}
use Rattle.job_tree.specs.declared.object.Ask.TheVariants.{Acquire, Send, Receive}
use Rattle.job_tokens.specs.declared.token.Token.{Token}
use Rattle.job_tokens.specs.declared.token.Mark.{Mark}
use Rattle.job_tokens.specs.declared.token.Mark.TheVariants as mark
use Rattle.job_tokens.specs.Shapes.{word_in, mark_in}
use Rattle.job_syntax.specs.declared.keyword.Keyword.{Keyword}
use Rattle.job_syntax.specs.declared.keyword.Keyword.TheVariants as keyword
use Rattle.job_edits.specs.Waiting.{first_number, first_name, first_mark, keyword_in, begins_after, step_keyword, ask_text}
use Rattle.job_edits.specs.Copied.{blocks_by}
use Rattle.job_edits.specs.Releases.{acquired_by, innermost}
use Rattle.job_edits.specs.Numbers.{number_first}
use Rattle.job_edits.specs.declared.site.Moment.{Moment}
use Rattle.job_edits.specs.declared.site.Moment.TheVariants.{Sleep, After, At, Checkpoint, Pace, Start, Set, Wait, Asking, Release, Close}
use Rattle.job_edits.specs.declared.site.Site.{Site}

-- ---- what is there

-- the deadline of the scope or nursery with this name, given the keyword of the deadline and the tokens after it
abbrev pub deadline_by : List ℕ → Option Keyword → List Token → Option Moment
deadline_by name (Some keyword.After) ts = option_map (λ n. After name n) (number_first ts)
deadline_by name (Some keyword.At) ts = option_map (λ n. At name n) (number_first ts)
deadline_by name _ ts = None

-- the deadline of the scope or nursery with this name, given the tokens after the name
abbrev pub deadline_named : Option (List ℕ) → List Token → Option Moment
deadline_named None ts = None
deadline_named (Some name) [] = None
deadline_named (Some name) (t ∷ ts) = deadline_by name (keyword_in (word_in t.shape)) ts

-- the deadline of a scope or nursery, given the tokens from its name on
abbrev pub deadline_from : List Token → Option Moment
deadline_from [] = None
deadline_from (t ∷ ts) = deadline_named (word_in t.shape) ts

abbrev pub pace_moment : Option ℕ → Option ℕ → Option Moment
pace_moment (Some lines) (Some to) = Some (Pace lines to)
pace_moment (Some lines) None = None
pace_moment None to = None

abbrev pub start_moment : Option (List ℕ) → Option ℕ → Option Moment
start_moment (Some name) (Some opening) = Some (Start name opening)
start_moment (Some name) None = None
start_moment None opening = None

abbrev pub wait_moment : Option (List ℕ) → Option ℕ → Option Moment
wait_moment (Some name) (Some to) = Some (Wait name to)
wait_moment (Some name) None = None
wait_moment None to = None

-- what begins with a keyword, given the tokens after it
abbrev pub moment_by : Keyword → List Token → Option Moment
moment_by keyword.Sleep ts = option_map (λ n. Sleep n) (number_first ts)
moment_by keyword.Scope ts = deadline_from ts
moment_by keyword.Nursery ts = deadline_from ts
moment_by keyword.Checkpoint ts = option_map (λ to. Checkpoint to) (first_mark mark.Semicolon ts)
moment_by keyword.Pace ts = pace_moment (first_number ts) (first_mark mark.Semicolon ts)
moment_by keyword.Start ts = start_moment (first_name ts) (first_mark mark.Open ts)
moment_by keyword.Set ts = option_map (λ name. Set name) (first_name ts)
moment_by keyword.Wait ts = wait_moment (first_name ts) (first_mark mark.Semicolon ts)
moment_by keyword.Acquire ts = option_map (λ name. Asking Acquire name) (first_name ts)
moment_by keyword.Send ts = option_map (λ name. Asking Send name) (first_name ts)
moment_by keyword.Receive ts = option_map (λ name. Asking Receive name) (first_name ts)
moment_by keyword.Close ts = option_map (λ name. Close name) (first_name ts)
moment_by _ ts = None

abbrev pub moment_if : Option Keyword → List Token → Option Moment
moment_if None ts = None
moment_if (Some k) ts = moment_by k ts

-- ---- where

-- what is at a token, given the open blocks, its mark, its keyword, and the tokens after it
abbrev pub moment_at : List (Option (List ℕ)) → Option Mark → Option Keyword → List Token → Option Moment
moment_at blocks (Some mark.Close) k ts = option_map (λ name. Release name) (innermost blocks)
moment_at blocks m k ts = moment_if k ts

abbrev pub with_site : ℕ → Option Moment → List Site → List Site
with_site from None others = others
with_site from (Some m) others = record { from = from; moment = m } ∷ others

-- the sites from a token on, given whether a step may begin there, the open blocks, and the `acquire` whose block is opened next
abbrev pub sites_from : (begins : Bool) → (blocks : List (Option (List ℕ))) → (acquired : Option (List ℕ)) → List Token → List Site
sites_from begins blocks acquired [] = []
sites_from begins blocks acquired (t ∷ ts) =
    with_site t.at (moment_at blocks (mark_in t.shape) (step_keyword begins t) ts)
    (sites_from (begins_after t) (blocks_by blocks acquired (mark_in t.shape))
    (acquired_by acquired (mark_in t.shape) (step_keyword begins t) ts) ts)

-- the sites of a text, in the order of their places
abbrev pub sites_in : List Token → List Site
sites_in ts = sites_from false [] None ts

-- ---- how it is printed

abbrev pub moment_text : Moment → List ℕ
moment_text (Sleep n) = codes "sleep " ++ decimal n.value
moment_text (After name n) = name ++ codes " after " ++ decimal n.value
moment_text (At name n) = name ++ codes " at " ++ decimal n.value
moment_text (Checkpoint to) = codes "checkpoint"
moment_text (Pace lines to) = codes "pace " ++ decimal lines
moment_text (Start name opening) = codes "start " ++ name
moment_text (Set name) = codes "set " ++ name
moment_text (Wait name to) = codes "wait " ++ name
moment_text (Asking ask name) = ask_text ask ++ name
moment_text (Release name) = codes "end of acquire " ++ name
moment_text (Close name) = codes "close " ++ name
