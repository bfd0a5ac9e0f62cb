-- The faults of a waiting step, and the changes of the text that make them.
use Rattle.std.specs.Prelude.{ℕ, zero, suc, ◌+◌, Bool, ◌&&◌, not, if◌then◌else◌, List, [], ◌∷◌, ◌++◌, Option, Some, None, codes}
use Rattle.std.specs.List.{list_any}
use Rattle.std.specs.Io.Iter.{u64_saturate}
use Rattle.job_tokens.specs.declared.token.Token.{Token}
use Rattle.job_tokens.specs.declared.token.Mark.TheVariants.{Open}
use Rattle.job_edits.specs.declared.change.Piece.{Piece}
use Rattle.job_edits.specs.declared.change.Piece.TheVariants as piece
use Rattle.job_edits.specs.declared.change.Change.{Change}
use Rattle.job_edits.specs.declared.waiting.Wait.{Wait}
use Rattle.job_edits.specs.declared.waiting.Wait.TheVariants.{Sleep, Checkpoint, Forever, Pace, Need, Event, Grant}
use Rattle.job_edits.specs.declared.waiting.Waiting.{Waiting}
use Rattle.job_edits.specs.declared.fault.Fault.{Fault}
use Rattle.job_edits.specs.declared.fault.Fault.TheVariants.{Fails, FailsLate, Hangs, Cancelled, Misses}
use Rattle.job_edits.specs.declared.fault.BlockPart.{BlockPart}
use Rattle.job_edits.specs.declared.fault.Variant.{Variant}
use Rattle.job_edits.specs.declared.repeated.RepeatedBlock.{RepeatedBlock}
use Rattle.job_edits.specs.declared.plan.Plan.{Plan}
use Rattle.job_edits.specs.Waiting.{first_mark, has_block, waiting_in}
use Rattle.job_edits.specs.Repeated.{is_divided, repeated_in}
use Rattle.job_edits.specs.WrittenOut.{is_in}
use Rattle.job_edits.specs.Fresh.{fresh_word}

-- ---- which faults

-- a step raises each of these exceptions
abbrev pub fails_of : (names : List (List ℕ)) → List Fault
fails_of [] = []
fails_of (n ∷ ns) = Fails n ∷ fails_of ns

-- each of these exceptions is raised after a step
abbrev pub late_fails_of : (names : List (List ℕ)) → List Fault
late_fails_of [] = []
late_fails_of (n ∷ ns) = FailsLate n ∷ late_fails_of ns

-- The faults of a step, which fails with the exceptions with these names. A `need` can only miss; a step that never ends does not
-- fail late, and neither does one that takes no time.
abbrev pub faults_of : (names : List (List ℕ)) → Wait → List Fault
faults_of names (Sleep n) = fails_of names ++ (late_fails_of names ++ Hangs ∷ Cancelled ∷ [])
faults_of names Checkpoint = fails_of names ++ Hangs ∷ Cancelled ∷ []
faults_of names Forever = fails_of names ++ Cancelled ∷ []
faults_of names (Pace n) = fails_of names ++ (late_fails_of names ++ Hangs ∷ Cancelled ∷ [])
faults_of names (Need text name) = Misses name ∷ []
faults_of names (Event name) = fails_of names ++ (late_fails_of names ++ Hangs ∷ Cancelled ∷ [])
faults_of names (Grant ask name) = fails_of names ++ (late_fails_of names ++ Hangs ∷ Cancelled ∷ [])

-- these faults of a step, in one copy or pass or wherever it runs
abbrev pub variants_with : Option BlockPart → Waiting → List Fault → List Variant
variants_with part step [] = []
variants_with part step (f ∷ fs) = record { step = step; fault = f; part = part } ∷ variants_with part step fs

-- each fault of each step, in the order of places
abbrev pub variants_of : (names : List (List ℕ)) → List Waiting → List Variant
variants_of names [] = []
variants_of names (w ∷ ws) = variants_with None w (faults_of names w.wait) ++ variants_of names ws

abbrev pub variants_in : (names : List (List ℕ)) → List Token → List Variant
variants_in names tokens = variants_of names (waiting_in tokens)

-- ---- in one copy or pass

-- a copy or pass of the block with a number
abbrev pub part_of : (block : ℕ) → RepeatedBlock → (index : ℕ) → BlockPart
part_of block b index = record { block = block; name = b.name; index = index; count = b.number.value }

-- these faults of a step in each of so many copies or passes of a block, from one on
abbrev pub each_from : (block : ℕ) → RepeatedBlock → Waiting → List Fault → (left : ℕ) → (index : ℕ) → List Variant
each_from block b step fs zero index = []
each_from block b step fs (suc left) index =
    variants_with (Some (part_of block b index)) step fs ++ each_from block b step fs left (index + 1)

-- in each copy or pass of a block, if the step is in it, but in no copy of a block that divides an input that is not empty
abbrev pub each_in_block : (has_input : Bool) → (block : ℕ) → RepeatedBlock → Waiting → List Fault → List Variant
each_in_block has_input block b step fs =
    if is_in b step.from && not (has_input && is_divided b) then each_from block b step fs b.number.value 0 else []

-- in those of these blocks, which have numbers from one on
abbrev pub each_in_blocks : (has_input : Bool) → (block : ℕ) → List RepeatedBlock → Waiting → List Fault → List Variant
each_in_blocks has_input block [] step fs = []
each_in_blocks has_input block (b ∷ bs) step fs =
    each_in_block has_input block b step fs ++ each_in_blocks has_input (block + 1) bs step fs

abbrev pub each_of : (has_input : Bool) → (names : List (List ℕ)) → List RepeatedBlock → List Waiting → List Variant
each_of has_input names bs [] = []
each_of has_input names bs (w ∷ ws) = each_in_blocks has_input 0 bs w (faults_of names w.wait) ++ each_of has_input names bs ws

-- each fault of each step in each copy or pass of each block around it, in the order of the places of the steps, outer blocks first
abbrev pub each_in : (has_input : Bool) → (names : List (List ℕ)) → List Token → List Variant
each_in has_input names tokens = each_of has_input names (repeated_in tokens) (waiting_in tokens)

-- there are copies in which no fault is tried
abbrev pub has_divided : (has_input : Bool) → List RepeatedBlock → Bool
has_divided has_input bs = has_input && list_any is_divided bs

-- ---- where, and with which names

abbrev pub place_or : ℕ → Option ℕ → ℕ
place_or other None = other
place_or other (Some at) = at

abbrev pub last_place : ℕ → List Token → ℕ
last_place at [] = at
last_place at (t ∷ ts) = last_place t.at ts

-- The block of a job begins at its first brace and ends at its last token. The scope that encloses its steps, and the exception
-- that shows whether a fault is reached, get names that are meant to be new in the text (`fresh_word`).
abbrev pub plan_of : List Token → Plan
plan_of tokens =
    record {
      outside = fresh_word (codes "outside") tokens;
      reached = fresh_word (codes "reached") tokens;
      opening = place_or 0 (first_mark Open tokens);
      closing = last_place 0 tokens;
    }

-- ---- the changes

abbrev pub replacement : Waiting → Piece → Change
replacement step p = record { from = step.from; to = step.to; piece = p }

abbrev pub insertion : ℕ → Piece → Change
insertion at p = record { from = at; to = at; piece = p }

abbrev pub insertion_after : ℕ → Piece → Change
insertion_after at p = insertion (u64_saturate (at + 1)) p

-- An exception is raised in place of a step. A step with a block stays, and what is before it never ends well.
abbrev pub raising : Waiting → List ℕ → Change
raising step name =
    if has_block step.wait then insertion step.from (piece.RaiseBefore name) else replacement step (piece.Raise name)

-- An exception is raised after a step, or at the start of its block.
abbrev pub raising_late : Waiting → List ℕ → Change
raising_late step name =
    if has_block step.wait then insertion_after step.to (piece.RaiseFirst name) else insertion step.to (piece.ThenRaise name)

-- A step never ends.
abbrev pub hanging : Waiting → Change
hanging step = if has_block step.wait then insertion step.from piece.ForeverBefore else replacement step piece.Forever

-- the changes of the text that make a fault of a step
abbrev pub changes_by : Plan → Waiting → Fault → List Change
changes_by plan step (Fails name) = raising step name ∷ []
changes_by plan step (FailsLate name) = raising_late step name ∷ []
changes_by plan step Hangs = hanging step ∷ []
changes_by plan step Cancelled =
    insertion plan.opening (piece.OpenScope plan.outside) ∷ insertion step.from (piece.Cancel plan.outside)
    ∷ insertion plan.closing piece.Close ∷ []
changes_by plan step (Misses name) = raising step name ∷ []

-- The change that shows whether a fault is reached: the exception `reached` is raised there.
abbrev pub probe_by : Plan → Waiting → Fault → Change
probe_by plan step (Fails name) = raising step plan.reached
probe_by plan step (FailsLate name) = raising_late step plan.reached
probe_by plan step Hangs = raising step plan.reached
probe_by plan step Cancelled = raising step plan.reached
probe_by plan step (Misses name) = raising step plan.reached

-- the name of the exception that a fault raises, or `None`
abbrev pub raised_by : Fault → Option (List ℕ)
raised_by (Fails name) = Some name
raised_by (FailsLate name) = Some name
raised_by Hangs = None
raised_by Cancelled = None
raised_by (Misses name) = Some name
