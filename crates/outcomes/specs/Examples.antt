-- Worked tables, by computing.
use Rattle.std.specs.Prelude.{◌≡◌, ℕ, Bool, true, false, Option, Some, None, List, [], ◌∷◌, ◌++◌, codes, refl}
use Rattle.std.specs.Fmt.{digits}
use Rattle.job_reader.specs.declared.fault.JobFault.{JobFault}
use Rattle.job_reader.specs.declared.fault.JobKind.TheVariants.{TooLarge}
use Rattle.exceptions.specs.Exceptions.{Label, by_nursery, cancelled, raised, group, no_parts, part}
use Rattle.job_edits.specs.declared.fault.Fault.{Fault}
use Rattle.job_edits.specs.declared.fault.Fault.TheVariants.{Fails, FailsLate, Hangs, Cancelled, Misses}
use Rattle.job_edits.specs.declared.fault.BlockPart.{BlockPart}
use Rattle.job_edits.specs.declared.waiting.Wait.{Wait}
use Rattle.job_edits.specs.declared.waiting.Wait.TheVariants.{Sleep, Checkpoint, Forever, Pace, Need}
use Rattle.outcomes.specs.JobOutcomes.{JobOutcome, refused, stuck, ended, differs, cuts_more}
use Rattle.outcomes.specs.Table.{Line, table_text, denied_text}
use Rattle.outcomes.specs.declared.options.Untried.{Untried}

abbrev pub task : List ℕ → Label
task name = record { name = name; indices = [] }

-- The outcome of a job with a fault of a step in a copy or pass or wherever it runs, given the outcome without the fault, the line and
-- column of the step, and whether the fault is reached. The name of the exception is printed.
abbrev pub line_in : JobOutcome → Option BlockPart → ℕ → ℕ → Wait → Fault → Bool → JobOutcome → Line
line_in first only line column wait fault reached job_outcome =
    record {
      line = line;
      column = column;
      variant = record { step = record { from = 0; to = 0; wait = wait }; fault = fault; part = only };
      job_outcome = job_outcome;
      reached = reached;
      is_named = true;
      differs = differs 1000000 first job_outcome;
      cuts = cuts_more first job_outcome;
    }

-- such a line for a fault wherever the step runs, where the name of the exception is not printed
abbrev pub line_with : JobOutcome → ℕ → ℕ → Wait → Fault → Bool → JobOutcome → Line
line_with first line column wait fault reached job_outcome =
    record (line_in first None line column wait fault reached job_outcome) { is_named = false }

abbrev pub all_tried : Untried
all_tried = record { more = false; divided = false }

abbrev pub some_untried : Untried
some_untried = record { more = true; divided = true }

abbrev pub fault_name : List ℕ
fault_name = codes "Fault"

abbrev pub cleanup_first : JobOutcome
cleanup_first = ended 8 None (task (codes "journal") ∷ task (codes "cache") ∷ []) (task (codes "cache") ∷ []) false

-- two tasks that clean up: some faults end in a cleanup that is cancelled, and one in a task that sleeps forever
abbrev pub cleanup_lines : List Line
cleanup_lines =
    line_with cleanup_first 7 11 Forever (Fails fault_name) true (ended 4 (Some (group (by_nursery (task (codes "writers"))) (part (raised (codes "Fault") (task (codes "journal")) 0) no_parts))) (task (codes "cache") ∷ []) (task (codes "cache") ∷ []) false)
    ∷ line_with cleanup_first 7 11 Forever Cancelled true (ended 4 None (task (codes "journal") ∷ task (codes "cache") ∷ []) (task (codes "cache") ∷ []) false)
    ∷ line_with cleanup_first 11 13 (Sleep 3) (Fails fault_name) true (ended 5 (Some (group (by_nursery (task (codes "writers"))) (part (raised (codes "Fault") (task (codes "journal")) 5) no_parts))) (task (codes "cache") ∷ []) (task (codes "cache") ∷ []) false)
    ∷ line_with cleanup_first 11 13 (Sleep 3) (FailsLate fault_name) true (ended 8 (Some (group (by_nursery (task (codes "writers"))) (part (raised (codes "Fault") (task (codes "journal")) 8) no_parts))) (task (codes "cache") ∷ []) (task (codes "cache") ∷ []) false)
    ∷ line_with cleanup_first 11 13 (Sleep 3) Hangs true (stuck (task (codes "journal") ∷ []) (task (codes "cache") ∷ []) false)
    ∷ line_with cleanup_first 11 13 (Sleep 3) Cancelled true (ended 8 None (task (codes "journal") ∷ task (codes "cache") ∷ []) (task (codes "cache") ∷ []) false)
    ∷ line_with cleanup_first 18 11 Forever (Fails fault_name) true (ended 7 (Some (group (by_nursery (task (codes "writers"))) (part (raised (codes "Fault") (task (codes "cache")) 0) no_parts))) (task (codes "journal") ∷ []) [] false)
    ∷ line_with cleanup_first 18 11 Forever Cancelled true (ended 4 None (task (codes "journal") ∷ task (codes "cache") ∷ []) (task (codes "cache") ∷ []) false)
    ∷ line_with cleanup_first 21 11 (Sleep 3) (Fails fault_name) true (ended 8 (Some (group (by_nursery (task (codes "writers"))) (part (raised (codes "Fault") (task (codes "cache")) 5) no_parts))) (task (codes "journal") ∷ []) [] false)
    ∷ line_with cleanup_first 21 11 (Sleep 3) (FailsLate fault_name) false (ended 8 None (task (codes "journal") ∷ task (codes "cache") ∷ []) (task (codes "cache") ∷ []) false)
    ∷ line_with cleanup_first 21 11 (Sleep 3) Hangs true (ended 8 None (task (codes "journal") ∷ task (codes "cache") ∷ []) (task (codes "cache") ∷ []) false)
    ∷ line_with cleanup_first 21 11 (Sleep 3) Cancelled true (ended 8 None (task (codes "journal") ∷ task (codes "cache") ∷ []) (task (codes "cache") ∷ []) false)
    ∷ []

pub cleanup_is_shown :
    table_text 1000000 false cleanup_first cleanup_lines all_tried
    ≡ codes "                as it is    8 done; cancelled: journal, cache; cleanup cut: cache\n"
    ++ codes " 7:11  forever  fails       4 raised writers[Fault(journal@0)]; cancelled: cache; cleanup cut: cache\n"
    ++ codes " 7:11  forever  cancelled   4 done; cancelled: journal, cache; cleanup cut: cache\n"
    ++ codes "11:13  sleep 3  fails       5 raised writers[Fault(journal@5)]; cancelled: cache; cleanup cut: cache\n"
    ++ codes "11:13  sleep 3  fails late  8 raised writers[Fault(journal@8)]; cancelled: cache; cleanup cut: cache\n"
    ++ codes "11:13  sleep 3  hangs       stuck at 1000000; sleeping forever: journal; cleanup cut: cache\n"
    ++ codes "11:13  sleep 3  cancelled   8 done; cancelled: journal, cache; cleanup cut: cache\n"
    ++ codes "18:11  forever  fails       7 raised writers[Fault(cache@0)]; cancelled: journal\n"
    ++ codes "18:11  forever  cancelled   4 done; cancelled: journal, cache; cleanup cut: cache\n"
    ++ codes "21:11  sleep 3  fails       8 raised writers[Fault(cache@5)]; cancelled: journal\n"
    ++ codes "21:11  sleep 3  fails late  8 done; not reached; cancelled: journal, cache; cleanup cut: cache\n"
    ++ codes "21:11  sleep 3  hangs       8 done; cancelled: journal, cache; cleanup cut: cache\n"
    ++ codes "21:11  sleep 3  cancelled   8 done; cancelled: journal, cache; cleanup cut: cache\n"
    ++ codes "12 faults: 1 stuck, 0 cut a cleanup, 0 lost, 1 not reached\n"
unfolding digits
cleanup_is_shown = refl

-- in brief: the lines whose outcome is that of the job as it is are left out
pub cleanup_in_brief :
    table_text 1000000 true cleanup_first cleanup_lines all_tried
    ≡ codes "                as it is    8 done; cancelled: journal, cache; cleanup cut: cache\n"
    ++ codes " 7:11  forever  fails       4 raised writers[Fault(journal@0)]; cancelled: cache; cleanup cut: cache\n"
    ++ codes " 7:11  forever  cancelled   4 done; cancelled: journal, cache; cleanup cut: cache\n"
    ++ codes "11:13  sleep 3  fails       5 raised writers[Fault(journal@5)]; cancelled: cache; cleanup cut: cache\n"
    ++ codes "11:13  sleep 3  fails late  8 raised writers[Fault(journal@8)]; cancelled: cache; cleanup cut: cache\n"
    ++ codes "11:13  sleep 3  hangs       stuck at 1000000; sleeping forever: journal; cleanup cut: cache\n"
    ++ codes "18:11  forever  fails       7 raised writers[Fault(cache@0)]; cancelled: journal\n"
    ++ codes "18:11  forever  cancelled   4 done; cancelled: journal, cache; cleanup cut: cache\n"
    ++ codes "21:11  sleep 3  fails       8 raised writers[Fault(cache@5)]; cancelled: journal\n"
    ++ codes "12 faults: 1 stuck, 0 cut a cleanup, 0 lost, 1 not reached\n"
unfolding digits
cleanup_in_brief = refl

-- ---- single copies and passes

abbrev pub shards_first : JobOutcome
shards_first = ended 2 None [] [] false

-- the second of three copies of tasks with a name, or the second of three passes
abbrev pub second_of : Option (List ℕ) → BlockPart
second_of name = record { block = 0; name = name; index = 1; count = 3 }

abbrev pub shards_lines : List Line
shards_lines =
    line_in shards_first (Some (second_of (Some (codes "shard")))) 4 7 (Sleep 2) (Fails (codes "Late")) true (ended 2 None [] (task (codes "log") ∷ []) false)
    ∷ line_in shards_first (Some (second_of None)) 4 7 (Sleep 2) Hangs true shards_first
    ∷ []

-- the second copy, the second pass, and which others were not tried
pub shards_are_shown :
    table_text 9 false shards_first shards_lines some_untried
    ≡ codes "              as it is               2 done\n"
    ++ codes "4:7  sleep 2  fails Late in shard.1  2 done; cleanup cut: log\n"
    ++ codes "4:7  sleep 2  hangs in pass 2 of 3   2 done\n"
    ++ codes "2 faults: 0 stuck, 1 cut a cleanup, 0 lost, 0 not reached\n"
    ++ codes "only the first 1000 faults in single copies and passes were tried\n"
    ++ codes "copies or passes that pace or need lines were not tried singly: each has its own part of the input\n"
unfolding digits
shards_are_shown = refl

-- a cleanup that is cut with the fault alone is denied
pub cut_is_denied :
    denied_text 9 (record { stuck = false; cut = true; lost = false }) shards_first shards_lines
    ≡ codes "4:7  sleep 2  fails Late in shard.1  2 done; cleanup cut: log\n"
unfolding digits
cut_is_denied = refl

-- the refusal of a text with too many steps
abbrev pub too_large : JobFault
too_large = record { at = 0; kind = TooLarge }

abbrev pub other_first : JobOutcome
other_first = ended 3 (Some cancelled) [] [] false

-- a text that is refused, more than three names, exceptions that are lost, and a fault that is not reached
abbrev pub other_lines : List Line
other_lines =
    line_with other_first 1 7 (Sleep 3) (Fails fault_name) false (refused too_large)
    ∷ line_with other_first 10 9 (Pace 20) (FailsLate fault_name) true (stuck (task (codes "a") ∷ record { name = codes "b"; indices = 1 ∷ [] } ∷ task (codes "c") ∷ task (codes "d") ∷ record { name = codes "e"; indices = 2 ∷ 3 ∷ [] } ∷ []) [] true)
    ∷ line_with other_first 100 1 Checkpoint Hangs true (ended 12 None [] [] true)
    ∷ line_with other_first 100 2 (Need (codes "k b") (codes "Gone")) (Misses (codes "X")) false (stuck (task (codes "a") ∷ task (codes "b") ∷ task (codes "c") ∷ []) [] false)
    ∷ []

pub other_is_shown :
    table_text 1000000 false other_first other_lines all_tried
    ≡ codes "                        as it is    3 cancelled\n"
    ++ codes "  1:7  sleep 3          fails       not tried: J11 at 0\n"
    ++ codes " 10:9  pace 20          fails late  stuck at 1000000; sleeping forever: a, b.1, c and 2 more; fault lost\n"
    ++ codes "100:1  checkpoint       hangs       12 done; fault lost\n"
    ++ codes "100:2  need \"k b\" Gone  misses      stuck at 1000000; not reached; sleeping forever: a, b, c\n"
    ++ codes "4 faults: 2 stuck, 0 cut a cleanup, 2 lost, 1 not reached, 1 not tried\n"
unfolding digits
other_is_shown = refl

-- a job that does not end is denied
pub stuck_is_denied :
    denied_text 1000000 (record { stuck = true; cut = false; lost = false }) cleanup_first cleanup_lines
    ≡ codes "11:13  sleep 3  hangs       stuck at 1000000; sleeping forever: journal; cleanup cut: cache\n"
unfolding digits
stuck_is_denied = refl

-- an exception that is lost, also where the job does not end, and a text of which nothing is known
pub lost_is_denied :
    denied_text 1000000 (record { stuck = false; cut = false; lost = true }) other_first other_lines
    ≡ codes "  1:7  sleep 3          fails       not tried: J11 at 0\n"
    ++ codes " 10:9  pace 20          fails late  stuck at 1000000; sleeping forever: a, b.1, c and 2 more; fault lost\n"
    ++ codes "100:1  checkpoint       hangs       12 done; fault lost\n"
unfolding digits
lost_is_denied = refl

-- a cleanup that is cut without the fault too is not denied
pub cut_as_it_is_is_allowed : denied_text 1000000 (record { stuck = false; cut = true; lost = false }) cleanup_first cleanup_lines ≡ []
unfolding digits
cut_as_it_is_is_allowed = refl

-- nothing is denied where nothing is asked for
pub none_is_denied : denied_text 1000000 (record { stuck = false; cut = false; lost = false }) other_first other_lines ≡ []
none_is_denied = refl
