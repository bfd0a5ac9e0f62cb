-- What the code knows of who waits for whom.
use Rattle.std.specs.Prelude.{◌≡◌, Option, Some, None, List, map}
use Rattle.std.specs.Global.{Vec}
use Rattle.std.specs.Borrow.{Bor}
use Rattle.indexmap.specs.IndexMap.{IndexMap}
use Rattle.exceptions.specs.Exceptions.{Label}
use Rattle.job_story.specs.Events.{Event}
use Rattle.job_story.specs.Notes.{kind_of}
use Rattle.job_story.specs.Deadlock as deadlock
use Rattle.story_index.specs.Found.{value_at}
use Rattle.story_index.specs.Holds.{label_seen}
use Rattle.story_index.specs.Tasks.{sorted_in, walked_in}
use Rattle.story_waits.specs.declared.deadlock.Wait.{Wait}
use Rattle.story_waits.specs.declared.deadlock.Waits.{Waits}

abbrev pub wait_in : Wait → deadlock.Wait
wait_in w = record { task = w.task.now; limiter = w.limiter.now; holder = w.holder.now }

abbrev pub waits_in : Vec Wait → List deadlock.Wait
waits_in ws = map wait_in ws.items

-- who holds the token of a limiter, by a map
abbrev pub holder_if : Option (Option (Bor Label)) → Option Label
holder_if None = None
holder_if (Some holder) = label_seen holder

abbrev pub holder_at : {S : Type 0} → IndexMap (Bor Label) (Option (Bor Label)) S → Label → Option Label
holder_at holders l = holder_if (value_at holders l)

pub record KnowsWaits (waits : Waits) (es : List Event) : Type 0 where
  pub sorted : sorted_in waits.tasks ≡ es
  pub walked : walked_in waits.tasks ≡ es
  pub kinds : (l : Label) → value_at waits.kinds l ≡ kind_of l es
  pub holders : (l : Label) → holder_at waits.holders l ≡ deadlock.holder_by l None es
