-- Events of stories, one after another.
use Rattle.std.proofs.Common.{◌≡◌, ℕ, Option, List, [], ◌∷◌, ◌++◌, refl, ap, sym, subst, ◌∙◌, append_assoc}
use Rattle.std.specs.Prelude.{map}
use Rattle.std.proofs.lemmas.List.{append-nil}
use Rattle.input_lines.specs.Lines.{Range}
use Rattle.exceptions.specs.Exceptions.{Label, Exc}
use Rattle.job_story.specs.Events.{Event, event, events_of, starts, happens, ends}
use Rattle.job_story.specs.Held.{event_of}
use Rattle.job_story.specs.Story.{Story, no_more, happened, started, then_story}
use Rattle.job_story.specs.declared.event.Event as held
use Rattle.job_story.specs.Tales.{Adds}

pub events_then : (me : Label) (a b : Story) → events_of me (then_story a b) ≡ events_of me a ++ events_of me b
events_then me no_more b = refl
events_then me (happened t what rest) b = ap (λ (es : List Event). event t me (happens what) ∷ es) (events_then me rest b)
events_then me (started l home lent s u e own rest) b =
    ap (λ (es : List Event). event s l (starts home lent) ∷ (events_of l own ++ event u l (ends home e) ∷ es)) (events_then me rest b)
    ∙ ap (λ (es : List Event). event s l (starts home lent) ∷ es)
    (sym (append_assoc (events_of l own) (event u l (ends home e) ∷ events_of me rest) (events_of me b)))

pub story_assoc : (a b c : Story) → then_story (then_story a b) c ≡ then_story a (then_story b c)
story_assoc no_more b c = refl
story_assoc (happened t what rest) b c = ap (λ (s : Story). happened t what s) (story_assoc rest b c)
story_assoc (started l home lent s u e own rest) b c = ap (λ (x : Story). started l home lent s u e own x) (story_assoc rest b c)

pub story_end : (a : Story) → then_story a no_more ≡ a
story_end no_more = refl
story_end (happened t what rest) = ap (λ (s : Story). happened t what s) (story_end rest)
story_end (started l home lent s u e own rest) = ap (λ (x : Story). started l home lent s u e own x) (story_end rest)

-- nothing was appended
pub adds_nothing : (me : Label) (es : List held.Event) → Adds me es es no_more
adds_nothing me es = record { added = sym (append-nil (map event_of es)) }

-- one story and then another
pub adds_then : (me : Label) (a b c : List held.Event) (s t : Story) → Adds me a b s → Adds me b c t → Adds me a c (then_story s t)
adds_then me a b c s t h k =
    record {
      added =
          k.added
          ∙ (ap (λ (es : List Event). es ++ events_of me t) h.added
          ∙ (append_assoc (map event_of a) (events_of me s) (events_of me t)
          ∙ ap (λ (es : List Event). map event_of a ++ es) (sym (events_then me s t))));
    }

-- a task, from its start to its end
pub adds_child : (me l : Label) (home : Option Label) (lent : Range) (s u : ℕ) (e : Option Exc) (own : Story) (a b c d : List held.Event) →
    map event_of b ≡ map event_of a ++ event s l (starts home lent) ∷ [] → Adds l b c own →
    map event_of d ≡ map event_of c ++ event u l (ends home e) ∷ [] → Adds me a d (started l home lent s u e own no_more)
adds_child me l home lent s u e own a b c d first h last =
    let begun = event s l (starts home lent) ∷ [] in
    let over = event u l (ends home e) ∷ [] in
    record {
      added =
          last
          ∙ (ap (λ (es : List Event). es ++ over) (h.added ∙ ap (λ (es : List Event). es ++ events_of l own) first)
          ∙ (append_assoc (map event_of a ++ begun) (events_of l own) over ∙ append_assoc (map event_of a) begun
          (events_of l own ++ over)));
    }

-- the same story in other words
pub adds_like : (me : Label) (a b : List held.Event) (s t : Story) → Adds me a b s → s ≡ t → Adds me a b t
adds_like me a b s t h e = subst (λ (x : Story). Adds me a b x) e h
