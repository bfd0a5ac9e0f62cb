-- Worked documents, proved by computing.
use Rattle.std.specs.Prelude.{◌≡◌, true, false, Some, None, [], ◌∷◌, ◌++◌, codes, refl}
use Rattle.std.specs.Fmt.{digits}
use Rattle.json.specs.Print.{escape_byte}
use Rattle.exceptions.specs.Exceptions.{by_nursery, cancelled, raised, group, no_parts, part}
use Rattle.job_edits.specs.declared.fault.Fault.TheVariants.{Fails, Hangs, Misses}
use Rattle.job_edits.specs.declared.waiting.Wait.TheVariants as wait
use Rattle.job_edits.specs.declared.site.Moment.TheVariants.{Sleep}
use Rattle.job_edits.specs.declared.shift.Hair.TheVariants.{Earlier, Later}
use Rattle.job_lint.specs.declared.warning.Lint.TheVariants.{Unreachable, IdleScope, UnsetEvent}
use Rattle.outcomes.specs.JobOutcomes.{JobOutcome, refused, stuck, ended}
use Rattle.outcomes.specs.Examples.{task, too_large, line_in, line_with}
use Rattle.outcomes.specs.SweepExamples.{value_with as value}
use Rattle.race_text.specs.Differences.{otherwise, inside}
use Rattle.race_text.specs.Examples.{copy}
use Rattle.race_text.specs.Lines as races
use Rattle.json_story.specs.Values.{document}
use Rattle.json_tables.specs.Faults.{faults_json}
use Rattle.json_tables.specs.Sweeps.{sweep_json}
use Rattle.json_tables.specs.Races.{races_json}
use Rattle.json_tables.specs.Lints.{lints_json}

abbrev pub faults_first : JobOutcome
faults_first = ended 3 (Some cancelled) [] [] false

-- A fault whose exception is lost, one that leaves a task asleep and is not reached, and one in a single copy, whose text is refused. A backslash of a
-- step is doubled as in a report, and once more by JSON.
pub faults_are_written :
    document (faults_json 50 false faults_first
    (line_with faults_first 7 11 (wait.Sleep 3) (Fails (codes "E")) true
    (ended 4 (Some (group (by_nursery (task (codes "n"))) (part (raised (codes "E") (task (codes "a")) 2) no_parts))) (task (codes "b") ∷ []) (task (codes "c") ∷ []) true)
    ∷ line_with faults_first 9 3 wait.Forever Hangs false (stuck (task (codes "a") ∷ []) (task (codes "b") ∷ []) false)
    ∷ line_in faults_first (Some (record { block = 0; name = Some (codes "p"); index = 1; count = 2 })) 10 3 (wait.Need (codes "k\\") (codes "Gone")) (Misses (codes "X")) false (refused too_large)
    ∷ []) (record { more = true; divided = false }))
    ≡ codes "{\"as_it_is\":{\"result\":{\"cancelled\":[],\"cut\":[],\"end\":3,\"exception\":{\"cancelled\":true},\"lost\":false,\"outcome\":\"cancelled\"}},"
    ++ codes "\"counts\":{\"cut\":2,\"faults\":3,\"lost\":1,\"not_reached\":1,\"not_tried\":1,\"stuck\":1},\"divided\":false,"
    ++ codes "\"lines\":[{\"column\":11,\"exception\":\"E\",\"fault\":\"fails\",\"line\":7,\"part\":null,\"reached\":true,"
    ++ codes "\"result\":{\"cancelled\":[\"b\"],\"cut\":[\"c\"],\"end\":4,"
    ++ codes "\"exception\":{\"group\":\"n\",\"parts\":[{\"raised\":\"E\",\"task\":\"a\",\"tick\":2}]},\"lost\":true,\"outcome\":\"raised\"},\"step\":\"sleep 3\"},"
    ++ codes "{\"column\":3,\"exception\":null,\"fault\":\"hangs\",\"line\":9,\"part\":null,\"reached\":false,\"result\":{\"cut\":[\"b\"],\"limit\":50,\"lost\":false,\"outcome\":\"stuck\",\"sleeping\":[\"a\"]},\"step\":\"forever\"},"
    ++ codes "{\"column\":3,\"exception\":\"X\",\"fault\":\"misses\",\"line\":10,\"part\":\"p.1\",\"reached\":false,\"result\":{\"not_tried\":{\"at\":0,\"number\":11},\"outcome\":\"refused\"},\"step\":\"need \\\"k\\\\\\\\\\\\\\\\\\\" Gone\"}],\"more\":true}\n"
unfolding digits escape_byte
faults_are_written = refl

-- each value has a line of its own
pub sweep_is_written :
    document (sweep_json 50 (ended 3 None [] [] false)
    (value 1 (ended 3 None [] [] false) ∷ value 2 (ended 3 None [] [] false) ∷ value 3 (stuck [] [] false) ∷ value 4 (refused too_large) ∷ []))
    ≡ codes "{\"as_it_is\":{\"result\":{\"cancelled\":[],\"cut\":[],\"end\":3,\"exception\":null,\"lost\":false,\"outcome\":\"done\"}},"
    ++ codes "\"counts\":{\"cut\":0,\"refused\":1,\"stuck\":1,\"values\":4},"
    ++ codes "\"lines\":[{\"result\":{\"cancelled\":[],\"cut\":[],\"end\":3,\"exception\":null,\"lost\":false,\"outcome\":\"done\"},\"value\":1},"
    ++ codes "{\"result\":{\"cancelled\":[],\"cut\":[],\"end\":3,\"exception\":null,\"lost\":false,\"outcome\":\"done\"},\"value\":2},"
    ++ codes "{\"result\":{\"cut\":[],\"limit\":50,\"lost\":false,\"outcome\":\"stuck\",\"sleeping\":[]},\"value\":3},"
    ++ codes "{\"result\":{\"not_tried\":{\"at\":0,\"number\":11},\"outcome\":\"refused\"},\"value\":4}]}\n"
unfolding digits escape_byte
sweep_is_written = refl

-- a hair that changes nothing is left out, and one with which nothing was compared is not
pub races_are_written :
    document (races_json 5
    (races.in_finer_ticks (races.differs (inside (copy (codes "w") 1) ∷ []))
    ∷ races.moved 4 18 (Sleep (record { from = 0; to = 0; value = 5 })) Earlier
    (races.differs (otherwise (task (codes "a")) (codes "done") (codes "cancelled") ∷ []))
    ∷ races.moved 4 18 (Sleep (record { from = 0; to = 0; value = 5 })) Later (races.differs [])
    ∷ races.moved 5 3 (Sleep (record { from = 0; to = 0; value = 1 })) Later (races.not_tried too_large)
    ∷ races.copies 2 26 (codes "w") (Some 3) (copy (codes "w") 0) (copy (codes "w") 1) 2
    ∷ races.copies 3 5 (codes "h") None (copy (codes "h") 0) (copy (codes "h") 1) 7
    ∷ []))
    ≡ codes "{\"counts\":{\"hairs\":5,\"not_tried\":1,\"races\":4},"
    ++ codes "\"lines\":[{\"differences\":[{\"entries_differ\":true,\"task\":\"w.1\"}],\"hair\":\"finer\",\"not_tried\":null},"
    ++ codes "{\"column\":18,\"differences\":[{\"after\":\"cancelled\",\"before\":\"done\",\"task\":\"a\"}],\"hair\":\"earlier\",\"line\":4,\"not_tried\":null,\"step\":\"sleep 5\"},"
    ++ codes "{\"column\":3,\"differences\":[],\"hair\":\"later\",\"line\":5,\"not_tried\":{\"at\":0,\"number\":11},\"step\":\"sleep 1\"},"
    ++ codes "{\"column\":26,\"hair\":\"copies\",\"line\":2,\"step\":\"start w over 3\",\"tasks\":[\"w.0\",\"w.1\"],\"tick\":2},"
    ++ codes "{\"column\":5,\"hair\":\"copies\",\"line\":3,\"step\":\"start h\",\"tasks\":[\"h.0\",\"h.1\"],\"tick\":7}]}\n"
unfolding digits escape_byte
races_are_written = refl

-- with the places in this text, which has two lines
pub lints_are_written :
    document (lints_json (codes "nursery 1\njob x { forever; sleep 1; }")
    (record { at = 26; lint = Unreachable; name = None } ∷ record { at = 18; lint = IdleScope; name = Some (codes "s") }
    ∷ record { at = 18; lint = UnsetEvent; name = Some (codes "e") } ∷ []))
    ≡ codes "{\"counts\":{\"warnings\":3},"
    ++ codes "\"lines\":[{\"at\":26,\"column\":17,\"kind\":\"unreachable\",\"line\":2,\"name\":null,"
    ++ codes "\"sentence\":\"this step never runs: the step before it never ends well\"},"
    ++ codes "{\"at\":18,\"column\":9,\"kind\":\"idle_scope\",\"line\":2,\"name\":\"s\","
    ++ codes "\"sentence\":\"nothing cancels the scope s: it has no deadline, and no `cancel s` is in it\"},"
    ++ codes "{\"at\":18,\"column\":9,\"kind\":\"unset_event\",\"line\":2,\"name\":\"e\","
    ++ codes "\"sentence\":\"nothing sets the event e: no `set e` is in it\"}]}\n"
unfolding digits escape_byte
lints_are_written = refl
