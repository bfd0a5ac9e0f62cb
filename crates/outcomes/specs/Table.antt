-- The text of all lines: the outcome of the job without a fault, and with each fault.
use Rattle.std.specs.Prelude.{ℕ, zero, suc, ◌+◌, ◌-◌, ◌==◌, Bool, true, false, ◌&&◌, ◌||◌, not, max, if◌then◌else◌, Option, Some, None, List, [], ◌∷◌, ◌++◌, length, replicate, codes, decimal}
use Rattle.std.specs.Io.Iter.{u64_saturate}
use Rattle.job_edits.specs.declared.fault.Fault.{Fault}
use Rattle.job_edits.specs.declared.fault.Fault.TheVariants.{Fails, FailsLate, Hangs, Cancelled, Misses}
use Rattle.job_edits.specs.declared.fault.BlockPart.{BlockPart}
use Rattle.job_edits.specs.declared.fault.Variant.{Variant}
use Rattle.job_edits.specs.Waiting.{wait_text}
use Rattle.outcomes.specs.declared.columns.Widths.{Widths}
use Rattle.outcomes.specs.declared.counts.Counts.{Counts}
use Rattle.outcomes.specs.declared.deny.Deny.{Deny}
use Rattle.outcomes.specs.declared.options.Untried.{Untried}
use Rattle.outcomes.specs.JobOutcomes.{JobOutcome, job_outcome_text, is_stuck, has_lost, is_refused}

-- The outcome of a variant of a job text, whether its fault was reached, and the line and column of its step. The name of the exception is
-- printed or not; the outcome differs or not from that without the fault; and a task is cut or not that is not cut without it.
pub record Line : Type 0 where
  pub line : ℕ
  pub column : ℕ
  pub variant : Variant
  pub job_outcome : JobOutcome
  pub reached : Bool
  pub is_named : Bool
  pub differs : Bool
  pub cuts : Bool

-- which faults are tried, which of their lines are printed, and which outcomes are denied
pub record Options : Type 0 where
  pub names : List (List ℕ)
  pub each : Bool
  pub brief : Bool
  pub deny : Deny

-- ---- columns

abbrev pub fault_text : Fault → List ℕ
fault_text (Fails name) = codes "fails"
fault_text (FailsLate name) = codes "fails late"
fault_text Hangs = codes "hangs"
fault_text Cancelled = codes "cancelled"
fault_text (Misses name) = codes "misses"

-- the name of the exception that the fault raises where names are printed; a `need` has its own
abbrev pub named_by : Fault → Option (List ℕ)
named_by (Fails name) = Some name
named_by (FailsLate name) = Some name
named_by Hangs = None
named_by Cancelled = None
named_by (Misses name) = None

abbrev pub name_text : (is_named : Bool) → Option (List ℕ) → List ℕ
name_text is_named None = []
name_text false (Some name) = []
name_text true (Some name) = codes " " ++ name

-- the copy with an index of a task, or the pass with a number of so many
abbrev pub block_text : Option (List ℕ) → (index count : ℕ) → List ℕ
block_text None index count = codes "pass " ++ decimal (u64_saturate (index + 1)) ++ codes " of " ++ decimal count
block_text (Some name) index count = name ++ codes "." ++ decimal index

-- the copy or pass in which alone the fault is
abbrev pub part_text : BlockPart → List ℕ
part_text part = block_text part.name part.index part.count

abbrev pub in_part_text : Option BlockPart → List ℕ
in_part_text None = []
in_part_text (Some part) = codes " in " ++ part_text part

abbrev pub place_text : Line → List ℕ
place_text l = decimal l.line ++ codes ":" ++ decimal l.column

abbrev pub step_text : Line → List ℕ
step_text l = wait_text l.variant.step.wait

abbrev pub kind_text : Line → List ℕ
kind_text l = fault_text l.variant.fault ++ name_text l.is_named (named_by l.variant.fault) ++ in_part_text l.variant.part

-- the length of the longest of some texts, or `least` if that is more
abbrev pub greatest_length : (Line → List ℕ) → ℕ → List Line → ℕ
greatest_length text least [] = least
greatest_length text least (l ∷ ls) = max (length (text l)) (greatest_length text least ls)

abbrev pub spaces : ℕ → List ℕ
spaces n = replicate n 32

abbrev pub left_text : ℕ → List ℕ → List ℕ
left_text width text = text ++ spaces (width - length text)

abbrev pub right_text : ℕ → List ℕ → List ℕ
right_text width text = spaces (width - length text) ++ text

-- the widths of the columns: places, steps and faults
abbrev pub widths_of : List Line → Widths
widths_of ls = record { place = greatest_length place_text 0 ls; step = greatest_length step_text 0 ls; fault = greatest_length kind_text 8 ls }

-- ---- lines

-- The job without a fault. Its outcome is in the same column as the others; the columns for a step and its place
-- are blank.
abbrev pub first_text : ℕ → Widths → JobOutcome → List ℕ
first_text limit w job_outcome =
    spaces w.place ++ spaces w.step ++ codes "    " ++ left_text w.fault (codes "as it is") ++ codes "  " ++ job_outcome_text limit true job_outcome ++ codes "\n"

-- the columns before the outcome
abbrev pub columns_text : Widths → Line → List ℕ
columns_text w l =
    right_text w.place (place_text l) ++ codes "  " ++ left_text w.step (step_text l) ++ codes "  " ++ left_text w.fault (kind_text l)
    ++ codes "  "

abbrev pub line_text : ℕ → Widths → Line → List ℕ
line_text limit w l = columns_text w l ++ (job_outcome_text limit l.reached l.job_outcome ++ codes "\n")

abbrev pub lines_text : ℕ → Widths → List Line → List ℕ
lines_text limit w [] = []
lines_text limit w (l ∷ ls) = line_text limit w l ++ lines_text limit w ls

-- the lines that are printed: all, or those whose outcome differs from that of the job without the fault
abbrev pub printed : (brief : Bool) → List Line → List Line
printed brief [] = []
printed brief (l ∷ ls) = if not brief || l.differs then l ∷ printed brief ls else printed brief ls

-- ---- counts

abbrev pub count : (Line → Bool) → List Line → ℕ
count test [] = 0
count test (l ∷ ls) = (if test l then 1 else 0) + count test ls

abbrev pub faults_text : ℕ → List ℕ
faults_text n = decimal n ++ (if n == 1 then codes " fault: " else codes " faults: ")

-- a comma, a number and what it counts, if there are any
abbrev pub more_text : ℕ → List ℕ → List ℕ
more_text zero what = []
more_text (suc n) what = codes ", " ++ decimal (suc n) ++ what

-- a fault is not reached if its text is read and its step is not reached
abbrev pub is_unreached : Line → Bool
is_unreached l = not l.reached && not (is_refused l.job_outcome)

-- how many lines there are of each kind
abbrev pub counts_of : List Line → Counts
counts_of ls = record {
  faults = length ls;
  stuck = count (λ l. is_stuck l.job_outcome) ls;
  cut = count (λ l. l.cuts) ls;
  lost = count (λ l. has_lost l.job_outcome) ls;
  unreached = count is_unreached ls;
  not_tried = count (λ l. is_refused l.job_outcome) ls;
}

abbrev pub counts_text : Counts → List ℕ
counts_text c =
    faults_text c.faults ++ decimal c.stuck ++ codes " stuck, " ++ decimal c.cut ++ codes " cut a cleanup, "
    ++ decimal c.lost ++ codes " lost, " ++ decimal c.unreached ++ codes " not reached" ++ more_text c.not_tried (codes " not tried")
    ++ codes "\n"

-- there are more faults in single copies and passes than there are lines for
abbrev pub more_lines_text : (more : Bool) → List ℕ
more_lines_text false = []
more_lines_text true = codes "only the first 1000 faults in single copies and passes were tried\n"

-- there are copies in which no fault was tried, since what they do depends on their parts of the input
abbrev pub divided_text : (divided : Bool) → List ℕ
divided_text false = []
divided_text true = codes "copies or passes that pace or need lines were not tried singly: each has its own part of the input\n"

-- which faults in single copies and passes are not among the lines
abbrev pub untried_text : Untried → List ℕ
untried_text u = more_lines_text u.more ++ divided_text u.divided

-- the text of all lines
abbrev pub table_text : ℕ → (brief : Bool) → JobOutcome → List Line → Untried → List ℕ
table_text limit brief first ls untried =
    let w = widths_of ls in first_text limit w first ++ lines_text limit w (printed brief ls) ++ counts_text (counts_of ls)
    ++ untried_text untried

-- ---- what is denied

-- the outcome with this fault is of a kind that is denied
abbrev pub denies_kind : Deny → Line → Bool
denies_kind d l = (d.stuck && is_stuck l.job_outcome) || ((d.cut && l.cuts) || (d.lost && has_lost l.job_outcome))

-- some kind is denied
abbrev pub denies_some : Deny → Bool
denies_some d = d.stuck || (d.cut || d.lost)

-- The outcome with this fault is denied: it is of a kind that is denied, or, where some kind is, nothing is known of it since the text
-- was refused.
abbrev pub denies : Deny → Line → Bool
denies d l = denies_kind d l || (denies_some d && is_refused l.job_outcome)

-- the outcome without a fault is denied where it is stuck: nothing is cut or lost beyond it
abbrev pub denies_first : Deny → JobOutcome → Bool
denies_first d first = d.stuck && is_stuck first

abbrev pub first_denied : ℕ → Deny → Widths → JobOutcome → List ℕ
first_denied limit d w first = if denies_first d first then first_text limit w first else []

abbrev pub denied_lines : ℕ → Deny → Widths → List Line → List ℕ
denied_lines limit d w [] = []
denied_lines limit d w (l ∷ ls) = (if denies d l then line_text limit w l else []) ++ denied_lines limit d w ls

-- the lines that are denied, as they are in the table
abbrev pub denied_text : ℕ → Deny → JobOutcome → List Line → List ℕ
denied_text limit d first ls =
    let w = widths_of ls in first_denied limit d w first ++ denied_lines limit d w ls
