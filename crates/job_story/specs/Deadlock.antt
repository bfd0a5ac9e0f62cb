-- A deadlock: tasks of which each waits for the token of a limiter that the next one holds. Limiters with one token are looked at, which are locks.
use Rattle.std.specs.Prelude.{ℕ, zero, suc, ◌-◌, ◌==◌, length, Bool, true, false, Option, Some, None, List, [], ◌∷◌, ◌++◌, codes, if◌then◌else◌}
use Rattle.std.specs.List.{slice_get}
use Rattle.std.specs.Option.{option_map, option_or}
use Rattle.job_tree.specs.declared.object.Ask.TheVariants.{Acquire}
use Rattle.job_tree.specs.declared.object.ObjectKind.{ObjectKind}
use Rattle.job_tree.specs.declared.object.ObjectKind.TheVariants.{Limiter, Channel}
use Rattle.exceptions.specs.Exceptions.{Label}
use Rattle.exceptions.specs.Texts.{label_text}
use Rattle.job_meaning.specs.Log.{same_label}
use Rattle.job_story.specs.Story.{queues, gets, gives_token_back}
use Rattle.job_story.specs.Events.{What, happens, Event}
use Rattle.job_story.specs.Notes.{kind_of}

-- ---- who holds a token

abbrev pub holder_after : Label → Label → What → Option Label → Option Label
holder_after limiter task (happens (gets Acquire l at_once)) holder = if same_label limiter l then Some task else holder
holder_after limiter task (happens (gives_token_back l)) holder = if same_label limiter l then None else holder
holder_after limiter task _ holder = holder

-- who holds the token of a limiter that has one, after these events, where it was held before
abbrev pub holder_by : Label → Option Label → List Event → Option Label
holder_by limiter holder [] = holder
holder_by limiter holder (e ∷ es) = holder_by limiter (holder_after limiter e.task e.what holder) es

abbrev pub has_one_token : Option ObjectKind → Bool
has_one_token (Some (Limiter tokens)) = tokens == 1
has_one_token _ = false

abbrev pub holder_of : List Event → Label → Option Label
holder_of es limiter = if has_one_token (kind_of limiter es) then holder_by limiter None es else None

-- ---- who waits for whom

-- a task waits for the token of a limiter, and another one holds it
pub record Wait : Type 0 where
  pub task : Label
  pub limiter : Label
  pub holder : Label

-- the last of these events that is one of a task, or the given event if there is none
abbrev pub last_event : Label → List Event → Option Event → Option Event
last_event l [] found = found
last_event l (e ∷ es) found = last_event l es (if same_label l e.task then Some e else found)

-- the limiter for a token of which a task waits after this event
abbrev pub limiter_of : What → Option Label
limiter_of (happens (queues Acquire limiter part left)) = Some limiter
limiter_of _ = None

abbrev pub limiter_after : Option Event → Option Label
limiter_after None = None
limiter_after (Some e) = limiter_of e.what

abbrev pub wait_for : Label → Label → Option Label → Option Wait
wait_for task limiter None = None
wait_for task limiter (Some holder) = Some (record { task = task; limiter = limiter; holder = holder })

abbrev pub wait_at : List Event → Label → Option Label → Option Wait
wait_at es task None = None
wait_at es task (Some limiter) = wait_for task limiter (holder_of es limiter)

abbrev pub wait_of : List Event → Label → Option Wait
wait_of es task = wait_at es task (limiter_after (last_event task es None))

-- ---- cycles

abbrev pub then_waits : Label → Option Wait → (Label → Option (List Wait)) → Option (List Wait)
then_waits first None go = None
then_waits first (Some w) go = if same_label first w.holder then Some (w ∷ []) else option_map (λ ws. w ∷ ws) (go w.holder)

-- the waits from a task on, up to the first task, if so many lead there
abbrev pub waits_to : ℕ → List Event → (first task : Label) → Option (List Wait)
waits_to zero es first task = None
waits_to (suc n) es first task = then_waits first (wait_of es task) (waits_to n es first)

-- a cycle of at most so many tasks is found
unfoldable pub most_in_cycle : ℕ
most_in_cycle = 64

-- the cycle of the first of these tasks that is in one
abbrev pub first_cycle : List Event → List Label → Option (List Wait)
first_cycle es [] = None
first_cycle es (l ∷ ls) = option_or (waits_to most_in_cycle es l l) (first_cycle es ls)

-- ---- its text

abbrev pub wait_text : (held : Label) → Wait → List ℕ
wait_text held w = label_text w.task ++ codes " holds " ++ label_text held ++ codes " and waits for " ++ label_text w.limiter

-- what each task holds is what the one before it waits for
abbrev pub waits_text : (before : List ℕ) → (held : Label) → List Wait → List ℕ
waits_text before held [] = codes "\n"
waits_text before held (w ∷ ws) = before ++ wait_text held w ++ waits_text (codes "; ") w.limiter ws

abbrev pub cycle_from : Option Wait → List Wait → List ℕ
cycle_from None ws = []
cycle_from (Some last) ws = waits_text (codes "deadlock: ") last.limiter ws

-- the first task holds what the last one waits for
abbrev pub cycle_text : Option (List Wait) → List ℕ
cycle_text None = []
cycle_text (Some ws) = cycle_from (slice_get ws (length ws - 1)) ws
