-- The Python program of a job, from its first line to its last.
use Rattle.std.specs.Prelude.{◌≡◌, ℕ, Bool, true, false, ◌||◌, List, [], ◌++◌, codes}
use Rattle.std.specs.List.{flat_map}
use Rattle.job_tree.specs.Tree.{Tree}
use Rattle.trio_text.specs.Names.{name_text}
use Rattle.trio_text.specs.Uses.{Known, known_of, classes_of}
use Rattle.trio_text.specs.Pieces.{Adds, Then}
use Rattle.trio_text.specs.Lines.{with_line, with_used}
use Rattle.trio_text.specs.Statements.{class_of}
use Rattle.trio_text.specs.Blocks.{OrPass, Writes}
use Rattle.trio_text.specs.Needs.{shows, uses_of}
use Rattle.trio_text.specs.declared.uses.Uses.{Uses}
use Rattle.trio_text.specs.declared.texts.TheConstants.{HEADER, HARNESS, FIRST_IMPORTS, IMPORT_CONTEXTLIB, LAST_IMPORTS, HANDLING, TOKEN_OF, CHANNEL, PACE, FIND, HEAD, LONGEST, NEED, OVER, LINES_OF, SHOW_LINES}

-- the first lines: the name of the job, and how to run the program
abbrev pub header : List ℕ → List ℕ
header name = codes "# The job " ++ name ++ HEADER.now

-- the last lines, which run the function of the root task
abbrev pub footer : List ℕ → List ℕ
footer name = (HARNESS.now ++ name_text name) ++ codes ")\n"

-- the class of an exception
unfoldable pub class_lines : Known → List ℕ → List ℕ
class_lines known name = codes "\n\nclass " ++ class_of known name ++ codes "(Exception):\n    pass\n"

-- a class for each of these exceptions, in order
abbrev pub classes : Known → List (List ℕ) → List ℕ
classes known names = flat_map (class_lines known) names

-- the imports, for these helpers
unfoldable pub imports : Uses → List ℕ
imports uses = with_used (uses.handling || uses.acquire) IMPORT_CONTEXTLIB.now FIRST_IMPORTS.now ++ LAST_IMPORTS.now

-- these helpers
unfoldable pub helpers : Uses → List ℕ
helpers uses = with_used (shows uses) SHOW_LINES.now (with_used (uses.pace || shows uses) LINES_OF.now
    (with_used uses.over OVER.now (with_used uses.need NEED.now (with_used uses.longest LONGEST.now (with_used uses.head HEAD.now
    (with_used uses.find FIND.now (with_used uses.pace PACE.now (with_used uses.channel CHANNEL.now (with_used uses.acquire TOKEN_OF.now
    (with_used uses.handling HANDLING.now []))))))))))

-- the lines that begin the function of the root task
unfoldable pub with_root : List ℕ → List ℕ → List ℕ
with_root name before = before ++ codes "\n\nasync def " ++ name_text name ++ codes "(part):\n"

-- the line that notes when the job starts, if a deadline needs it
abbrev pub with_start_time : Bool → List ℕ → List ℕ
with_start_time true before = with_line 1 (codes "start = trio.current_time()") before
with_start_time false before = before

-- the function of the root task, with those of the other tasks in it; `is_timed` says whether it notes when the job starts
abbrev pub WritesRoot : Known → Bool → Tree → List ℕ → List ℕ → Type 0
WritesRoot known is_timed job =
    Then (Adds (λ before. with_start_time is_timed (with_root job.name before))) (OrPass job.steps (Writes known job.name job.steps) 1)

-- The text is a program of the job: the first lines, the imports, a class for each exception, the functions of the tasks, the helpers
-- that the steps need, and the last lines.
pub record IsProgram (job : Tree) (text : List ℕ) : Type 0 where
  pub functions : List ℕ
  pub tasks : WritesRoot (known_of job) (uses_of job.steps).start job [] functions
  pub parts : text ≡ header job.name ++ imports (uses_of job.steps) ++ classes (known_of job) (classes_of job) ++ functions
      ++ helpers (uses_of job.steps) ++ footer job.name
