-- Worked tables, by computing.
use Rattle.std.specs.Prelude.{◌≡◌, ℕ, Some, None, List, [], ◌∷◌, ◌++◌, codes, refl}
use Rattle.std.specs.Fmt.{digits}
use Rattle.exceptions.specs.Exceptions.{Label}
use Rattle.job_reader.specs.declared.fault.JobFault.{JobFault}
use Rattle.job_reader.specs.declared.fault.JobKind.TheVariants.{TooLarge}
use Rattle.job_edits.specs.declared.site.Moment.{Moment}
use Rattle.job_edits.specs.declared.site.Moment.TheVariants.{Sleep, After, Start}
use Rattle.job_edits.specs.declared.shift.Hair.TheVariants.{Earlier, Later}
use Rattle.race_text.specs.Differences.{otherwise, inside}
use Rattle.race_text.specs.Lines.{in_finer_ticks, moved, copies, not_tried, differs}
use Rattle.race_text.specs.Table.{table_text}

abbrev pub task : List ℕ → Label
task name = record { name = name; indices = [] }

abbrev pub copy : List ℕ → ℕ → Label
copy name i = record { name = name; indices = i ∷ [] }

abbrev pub sleep : ℕ → ℕ → Moment
sleep at n = Sleep (record { from = at; to = at; value = n })

-- lines where nothing differs are not shown, and columns are as wide as what is shown
pub race_is_shown :
    table_text 13
    (in_finer_ticks (differs [])
    ∷ moved 4 18 (sleep 0 5) Earlier (differs (otherwise (task (codes "answer")) (codes "done") (codes "cancelled") ∷ []))
    ∷ moved 4 18 (sleep 0 5) Later (differs [])
    ∷ moved 5 5 (Start (codes "answer") 0) Later (differs (otherwise (task (codes "answer")) (codes "done") (codes "cancelled") ∷ []))
    ∷ moved 8 3 (After (codes "limit") (record { from = 0; to = 0; value = 5 })) Later (differs (inside (task (codes "race")) ∷ []))
    ∷ [])
    ≡ codes "4:18  sleep 5        earlier  answer: done -> cancelled\n"
    ++ codes " 5:5  start answer   later    answer: done -> cancelled\n"
    ++ codes " 8:3  limit after 5  later    race: other lines or scopes\n"
    ++ codes "13 hairs: 3 races\n"
unfolding digits
race_is_shown = refl

pub copies_are_shown :
    table_text 3 (copies 2 26 (codes "worker") (Some 3) (copy (codes "worker") 0) (copy (codes "worker") 1) 2 ∷ [])
    ≡ codes "2:26  start worker over 3  copies  worker.0 and worker.1 meet at 2\n3 hairs: 1 races\n"
unfolding digits
copies_are_shown = refl

pub loop_is_shown :
    table_text 3 (copies 2 26 (codes "handler") None (copy (codes "handler") 0) (copy (codes "handler") 1) 2 ∷ [])
    ≡ codes "2:26  start handler  copies  handler.0 and handler.1 meet at 2\n3 hairs: 1 races\n"
unfolding digits
loop_is_shown = refl

pub finer_ticks_are_shown :
    table_text 10 (in_finer_ticks (differs (otherwise (task (codes "fallback")) (codes "raised TooSlow(budget)") (codes "done") ∷ [])) ∷ [])
    ≡ codes "    finer  fallback: raised TooSlow(budget) -> done\n10 hairs: 1 races\n"
unfolding digits
finer_ticks_are_shown = refl

-- no race
pub none_is_shown : table_text 8 (in_finer_ticks (differs []) ∷ []) ≡ codes "8 hairs: no race\n"
unfolding digits
none_is_shown = refl

-- the refusal of a text with too many steps
abbrev pub too_large : JobFault
too_large = record { at = 0; kind = TooLarge }

-- at most three tasks, and a hair with which nothing was compared
pub many_are_shown :
    table_text 2
    (in_finer_ticks (differs (inside (task (codes "a")) ∷ inside (task (codes "b")) ∷ inside (task (codes "c")) ∷ inside (task (codes "d")) ∷ inside (task (codes "e")) ∷ []))
    ∷ moved 2 3 (sleep 0 1) Earlier (differs [])
    ∷ moved 2 3 (sleep 0 1) Later (not_tried too_large) ∷ [])
    ≡ codes "              finer  a: other lines or scopes; b: other lines or scopes; c: other lines or scopes; and 2 more\n"
    ++ codes "2:3  sleep 1  later  not tried: J11 at 0\n"
    ++ codes "2 hairs: 1 races, 1 hairs not tried\n"
unfolding digits
many_are_shown = refl

-- where nothing was compared, it is not said that there is no race
pub nothing_is_shown :
    table_text 1 (in_finer_ticks (not_tried too_large) ∷ moved 2 3 (sleep 0 1) Later (not_tried too_large) ∷ [])
    ≡ codes "              finer  not tried: J11 at 0\n"
    ++ codes "2:3  sleep 1  later  not tried: J11 at 0\n"
    ++ codes "1 hairs: 0 races, 1 hairs not tried\n"
unfolding digits
nothing_is_shown = refl
