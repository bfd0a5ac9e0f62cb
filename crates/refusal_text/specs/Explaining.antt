-- How a refusal is explained to the user: its place, a sentence, the line of the job text, and a caret under the place.
use Rattle.std.specs.Prelude.{◌≡◌, ℕ, ◌-◌, ◌==◌, ◌&&◌, ◌||◌, Bool, min, nat_le, if◌then◌else◌, List, [], ◌∷◌, ◌++◌, length, take, drop, map, replicate, Option, Some, None, codes, decimal, slice_get}
use Rattle.std.specs.List.{before_first}
use Rattle.job_syntax.specs.declared.nonterminal.Nonterminal.{Nonterminal}
use Rattle.job_reader.specs.declared.fault.JobFault.{JobFault}
use Rattle.job_reader.specs.declared.target.TargetKind.{TargetKind}
use Rattle.job_reader.specs.declared.target.TargetKind.TheVariants as target
use Rattle.basics.specs.Places.{line_of, column_of}
use Rattle.job_syntax.specs.Keywords.{spelling_of}
use Rattle.refusal_text.specs.declared.hinting.Hint.{Hint}
use Rattle.refusal_text.specs.declared.hinting.Hint.TheVariants as hint
use Rattle.refusal_text.specs.Expecting.{IsAsked}
use Rattle.job_hints.specs.Advice.{advice_text}
use Rattle.refusal_text.specs.Hinting.{IsHint}
use Rattle.refusal_text.specs.Scopes.{IsListed, IsStray}
use Rattle.refusal_text.specs.Sentences.{sentence_of}

-- the maximum number of bytes of a line that are shown before a place, and from that place on
abbrev pub most_before : ℕ
most_before = 60

abbrev pub most_after : ℕ
most_after = 40

-- a byte as it is shown: a tab and a carriage return as a space, and any other byte that is not printable as `?`
abbrev pub shown_byte : ℕ → ℕ
shown_byte b = if nat_le 32 b && nat_le b 126 then b else if b == 9 || b == 13 then 32 else 63

abbrev pub is_newline : ℕ → Bool
is_newline b = b == 10

abbrev pub last_of : ℕ → List ℕ → List ℕ
last_of n bytes = drop (length bytes - n) bytes

-- how many bytes of the line are shown before a place
abbrev pub width_before : List ℕ → ℕ → ℕ
width_before text at = min (column_of text at - 1) most_before

-- what is shown of the line before a place
abbrev pub shown_before : List ℕ → ℕ → List ℕ
shown_before text at = map shown_byte (last_of (width_before text at) (take at text))

-- what is shown of the line from a place on
abbrev pub shown_after : List ℕ → ℕ → List ℕ
shown_after text at = map shown_byte (before_first is_newline (take most_after (drop at text)))

-- the place as `JOB:LINE:COLUMN`, and the sentence
abbrev pub heading : List ℕ → ℕ → ℕ → List ℕ → List ℕ
heading job line column sentence = job ++ codes ":" ++ decimal line ++ codes ":" ++ decimal column ++ codes ": " ++ sentence ++ codes "\n"

-- the line of the job text, and a caret under the place
abbrev pub pointed_line : List ℕ → ℕ → List ℕ
pointed_line text at = shown_before text at ++ shown_after text at ++ codes "\n" ++ replicate (width_before text at) 32 ++ codes "^\n"

-- the message about a place
abbrev pub pointed_message : List ℕ → List ℕ → ℕ → List ℕ → List ℕ
pointed_message job text at sentence = heading job (line_of text at) (column_of text at) sentence ++ pointed_line text at

abbrev pub meant_line : List ℕ → List ℕ
meant_line bytes = codes "did you mean `" ++ map shown_byte bytes ++ codes "`?\n"

abbrev pub keyword_line : List ℕ → List ℕ
keyword_line bytes = codes "`" ++ map shown_byte bytes ++ codes "` is a keyword: choose another name\n"

-- some words, and a place as `JOB:LINE:COLUMN`
abbrev pub place_line : List ℕ → List ℕ → List ℕ → ℕ → List ℕ
place_line what job text at = what ++ job ++ codes ":" ++ decimal (line_of text at) ++ codes ":" ++ decimal (column_of text at)
    ++ codes "\n"

-- how many step instances a job has
abbrev pub size_line : ℕ → List ℕ
size_line n = codes "the job has " ++ decimal n ++ codes " steps\n"

-- the line of a hint
abbrev pub hint_line : List ℕ → List ℕ → Hint → List ℕ
hint_line job text (hint.Advice a) = advice_text a
hint_line job text (hint.Meant keyword) = meant_line (spelling_of keyword)
hint_line job text (hint.Keyword keyword) = keyword_line (spelling_of keyword)
hint_line job text (hint.OpenSince at) = place_line (codes "the innermost block that is not closed begins at ") job text at
hint_line job text (hint.GivenAt at) = place_line (codes "it was first given at ") job text at
hint_line job text (hint.Size n) = size_line n

-- the line of a hint, if there is one
abbrev pub hint_of : List ℕ → List ℕ → Option Hint → List ℕ
hint_of job text None = []
hint_of job text (Some h) = hint_line job text h

-- a name between back quotes
abbrev pub quoted_name : List ℕ → List ℕ
quoted_name name = codes "`" ++ map shown_byte name ++ codes "`"

abbrev pub more_quoted_names : List (List ℕ) → List ℕ
more_quoted_names [] = []
more_quoted_names (n ∷ ns) = codes ", " ++ quoted_name n ++ more_quoted_names ns

abbrev pub none_around : TargetKind → List ℕ
none_around target.Scope = codes "no scope or nursery is around this `cancel`\n"
none_around target.Event = codes "no event is around this step\n"
none_around target.Limiter = codes "no limiter is around this step\n"
none_around target.Channel = codes "no channel is around this step\n"

abbrev pub list_head : TargetKind → List ℕ
list_head target.Scope = codes "what can be cancelled here: "
list_head target.Event = codes "the events around this step: "
list_head target.Limiter = codes "the limiters around this step: "
list_head target.Channel = codes "the channels around this step: "

-- the line that lists what could be named at a place, if it is to be listed
abbrev pub names_line : TargetKind → List (List ℕ) → List ℕ
names_line used [] = none_around used
names_line used (n ∷ ns) = list_head used ++ quoted_name n ++ more_quoted_names ns ++ codes "\n"

abbrev pub names_of : TargetKind → Option (List (List ℕ)) → List ℕ
names_of used None = []
names_of used (Some names) = names_line used names

-- The message for a refusal of a job text: its sentence depends on its kind, on the byte at the place, on what the grammar
-- expects, and on what the step uses whose name is at the place. A hint follows, and a list of what could be named.
abbrev pub Tells : List ℕ → List ℕ → JobFault → List ℕ → Type 0
Tells job text fault message =
    (nonterminal : Option Nonterminal) × (help : Option Hint) × (used : TargetKind) × (names : Option (List (List ℕ)))
    × IsAsked fault.kind text nonterminal × IsHint fault.kind text fault.at help
    × IsStray fault.kind text fault.at used × IsListed fault.kind text names
    × (message ≡ (pointed_message job text fault.at (sentence_of fault.kind (slice_get text fault.at) nonterminal used) ++ hint_of job text help)
    ++ names_of used names)
