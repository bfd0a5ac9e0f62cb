-- Worked texts, patterns and lines, proved by computing.
use Rattle.std.specs.Prelude.{◌≡◌, ℕ, true, false, Some, None, List, [], ◌∷◌, codes, refl}
use Rattle.expect_text.specs.Lines.{lines_of, ended_lines}
use Rattle.expect_text.specs.Differences.{first_difference}
use Rattle.expect_text.specs.Patterns.{squeezed_text, meets, first_match}
use Rattle.expect_text.specs.Beginnings.{can_match, left_after}
use Rattle.expect_text.specs.Expectations.{is_without_demands, line_meaning, present, absent, no_races, no_faults, nothing, expects, faulty, unknown_word, wrong_demand, negated_demand, no_such_line}

-- ---- lines and differences

three_newlines : lines_of (codes "a\n\nb\n") ≡ codes "a" ∷ [] ∷ codes "b" ∷ [] ∷ []
three_newlines = refl

ended : ended_lines (codes "a\n\nb\n") ≡ codes "a" ∷ [] ∷ codes "b" ∷ []
ended = refl

not_ended : ended_lines (codes "a\nb") ≡ codes "a" ∷ codes "b" ∷ []
not_ended = refl

second_line : first_difference (codes "a\nb\n") (codes "a\nc\n") ≡ Some (record { line = 2; kept = Some (codes "b"); written = Some (codes "c") })
second_line = refl

one_line_more : first_difference (codes "a\n") (codes "a\nb\n") ≡ Some (record { line = 2; kept = Some []; written = Some (codes "b") })
one_line_more = refl

newline_missing : first_difference (codes "a\n") (codes "a") ≡ Some (record { line = 2; kept = Some []; written = None })
newline_missing = refl

-- ---- patterns

no_star : meets (codes "task a") (codes "task a") ≡ true
no_star = refl

no_star_longer : meets (codes "task a") (codes "task ab") ≡ false
no_star_longer = refl

star_first : meets (codes "*ends") (codes "it ends") ≡ true
star_first = refl

star_middle : meets (codes "it*s") (codes "it ends") ≡ true
star_middle = refl

star_last : meets (codes "it *") (codes "it ends") ≡ true
star_last = refl

star_for_nothing : meets (codes "it* ends") (codes "it ends") ≡ true
star_for_nothing = refl

two_stars : meets (codes "*b*d") (codes "abcd") ≡ true
two_stars = refl

two_stars_missed : meets (codes "*b*d") (codes "adcb") ≡ false
two_stars_missed = refl

blanks_around : squeezed_text (codes "  a \t b\r") ≡ codes "a b"
blanks_around = refl

runs_of_blanks : meets (codes " tick  4 ") (codes "   tick\t4\r") ≡ true
runs_of_blanks = refl

a_blank_missing : meets (codes "tick 4") (codes "tick4") ≡ false
a_blank_missing = refl

third_line : first_match (codes "c*") (codes "a\nb\nc d\n") ≡ Some 3
third_line = refl

no_line_after_the_last : first_match [] (codes "a\n") ≡ None
no_line_after_the_last = refl

-- ---- beginnings of lines

left_of_a_word : left_after (codes "ta") (codes "task *") ≡ Some (codes "sk *")
left_of_a_word = refl

left_of_a_star : left_after (codes "task ") (codes "t*done") ≡ Some (codes "*done")
left_of_a_star = refl

too_short : left_after (codes "task ") (codes "task") ≡ None
too_short = refl

-- the names of a job `main` with a task `worker`
abbrev names : List (List ℕ)
names = codes "main" ∷ codes "worker" ∷ []

a_task : can_match names (codes "task worker * done") ≡ true
a_task = refl

an_index : can_match names (codes " worker.2  is*") ≡ true
an_index = refl

an_event : can_match names (codes "worker  ends: done") ≡ true
an_event = refl

a_tick : can_match names (codes "tick 4") ≡ true
a_tick = refl

any_line : can_match names (codes "* raised *") ≡ true
any_line = refl

part_of_a_word : can_match names (codes "w*") ≡ true
part_of_a_word = refl

no_first_word : can_match names (codes "raised *") ≡ false
no_first_word = refl

no_such_task : can_match names (codes "reader ends: *") ≡ false
no_such_task = refl

no_such_event : can_match names (codes "worker raised *") ≡ false
no_such_event = refl

no_such_scope : can_match names (codes "scope flush * caught") ≡ false
no_such_scope = refl

no_whole_line : can_match names (codes "task") ≡ false
no_whole_line = refl

-- ---- expectations

blank_line : line_meaning names (codes "  \t\r") ≡ nothing
blank_line = refl

comment : line_meaning names (codes "  # as in the paper") ≡ nothing
comment = refl

wanted : line_meaning names (codes " worker ends*") ≡ expects (present (codes " worker ends*"))
wanted = refl

unwanted : line_meaning names (codes " ! *Cancelled*") ≡ expects (absent (codes "*Cancelled*"))
unwanted = refl

wanted_nowhere : line_meaning names (codes "reader ends*") ≡ faulty no_such_line
wanted_nowhere = refl

unwanted_nowhere : line_meaning names (codes "! raised *") ≡ faulty no_such_line
unwanted_nowhere = refl

races_none : line_meaning names (codes "races: none\r") ≡ expects no_races
races_none = refl

races_some : line_meaning names (codes "races: some") ≡ faulty wrong_demand
races_some = refl

two_kinds : line_meaning names (codes "faults: no cut , no lost") ≡ expects (no_faults (record { stuck = false; cut = true; lost = true }))
two_kinds = refl

no_kinds : line_meaning names (codes "faults: ") ≡ faulty wrong_demand
no_kinds = refl

a_comma_too_many : line_meaning names (codes "faults: no stuck,") ≡ faulty wrong_demand
a_comma_too_many = refl

another_word : line_meaning names (codes "race: none") ≡ faulty unknown_word
another_word = refl

a_deadlock : line_meaning names (codes "deadlock: worker holds a *") ≡ expects (present (codes "deadlock: worker holds a *"))
a_deadlock = refl

no_deadlock : line_meaning names (codes "! deadlock: *") ≡ expects (absent (codes "deadlock: *"))
no_deadlock = refl

a_negated_demand : line_meaning names (codes "! races: none") ≡ faulty negated_demand
a_negated_demand = refl

-- ---- files

only_comments : is_without_demands (codes "# later\n \n") ≡ true
only_comments = refl

one_demand : is_without_demands (codes "# now\nraces: none\n") ≡ false
one_demand = refl
