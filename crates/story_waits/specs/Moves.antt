-- The moves of the code, as the definitions see them.
use Rattle.std.specs.Prelude.{Bool, true, false, ◌||◌, List, [], ◌∷◌}
use Rattle.std.specs.Cmp.{IsEquivalence, on_equiv}
use Rattle.std.proofs.lemmas.Cmp.{nat_eq_equiv}
use Rattle.job_story.specs.Story.{deadlocks, finds_closed, gets, gives_token_back, closes_channel, is_cancelled, queues}
use Rattle.job_story.specs.Events.{What, happens, Event}
use Rattle.job_story.specs.Notes as notes
use Rattle.story_waits.specs.declared.moves.Move.{Move}
use Rattle.story_waits.specs.declared.moves.Move.TheVariants.{Joins, Goes, IsGranted, GivesBack, Closes}
use Rattle.story_waits.specs.declared.moves.Turn.{Turn}

abbrev pub move_in : Move → notes.Move
move_in (Joins ask) = notes.joins ask
move_in (Goes ask) = notes.goes ask
move_in (IsGranted ask) = notes.is_granted ask
move_in GivesBack = notes.gives_back
move_in Closes = notes.closes

abbrev pub same_made : Move → Move → Bool
same_made a b = notes.same_move (move_in a) (move_in b)

pub same_made_equiv : IsEquivalence same_made
same_made_equiv = on_equiv (λ made. notes.move_number (move_in made)) nat_eq_equiv

abbrev pub turn_in : Turn → notes.Turn
turn_in x =
    record { event = x.event; record_place = x.record_place; task = x.task.now; object = x.object.now; moment = x.moment; move = move_in x.made }

-- whether what an event is may have moves
abbrev pub may_move : What → Bool
may_move (happens (queues ask object part left)) = true
may_move (happens (gets ask object at_once)) = true
may_move (happens (finds_closed ask object at_once)) = true
may_move (happens (is_cancelled by during in_cleanup)) = true
may_move (happens (deadlocks ask object)) = true
may_move (happens (gives_token_back object)) = true
may_move (happens (closes_channel object)) = true
may_move _ = false

-- whether any of these events may
abbrev pub some_may_move : List Event → Bool
some_may_move [] = false
some_may_move (e ∷ es) = may_move e.what || some_may_move es
