-- Blocks that are entered and left, and tasks that are started, as tales.
use Rattle.std.proofs.Common.{◌≡◌, ℕ, ◌++◌, ◌∷◌, [], Bool, Option, List, reverse, refl, ap, subst, ◌∙◌, arith}
use Rattle.std.specs.Prelude.{map}
use Rattle.std.specs.Option.{option_map}
use Rattle.input_lines.specs.Lines.{Range}
use Rattle.exceptions.specs.Exceptions.{Label, Exc}
use Rattle.exceptions.specs.Held.{exc_of}
use Rattle.cancel_scopes.specs.Sight.{Tick, catches}
use Rattle.job_tree.specs.Tree.{Steps}
use Rattle.job_tree.specs.declared.object.ObjectKind.{ObjectKind}
use Rattle.job_meaning.specs.Log.{Table}
use Rattle.job_meaning.specs.Tables.{Tables}
use Rattle.job_meaning.specs.Moments.{tick_of, Now}
use Rattle.job_meaning.specs.declared.clock.Clock.{Clock}
use Rattle.job_meaning.specs.Walk.{Kind, Levels, Stack, Left, from_for, stack_for, left_with, exc_after}
use Rattle.job_story.specs.Events.{event, starts, ends}
use Rattle.job_story.specs.Held.{event_of}
use Rattle.job_story.specs.Story.{Tale, enters, enters_event, enters_object, leaves, waits}
use Rattle.job_story.specs.Tell.{Scene, story_of_one, tell, tell_block, tell_event, tell_object, tell_left, tell_wait, tell_gathered, tell_child}
use Rattle.job_story.specs.declared.event.Event as held
use Rattle.job_story.specs.declared.progress.Progress.{Progress}
use Rattle.job_story.specs.declared.stretch.Stretch.{Stretch}
use Rattle.job_story.specs.Tales.{IsStretchOf, Adds, Tells, IsLeft, own_of, now_in}
use Rattle.job_story.proofs.Adding.{adds_then, adds_child}
use Rattle.job_story.proofs.Teller.{stretch_like}

-- what is left of a block, by where the task is and with what its inside ended
abbrev left_in : Label → Tick → Bool → Levels → Now → Option Exc → Left
left_in label from shield st now o =
    left_with (catches (from_for now.own now.at label from) shield (stack_for now.own now.at st) now.at) o

-- what a block that is left notes, and how it ends
record Shut (clock : Clock) (me : Label) (mid : List held.Event) (after : Progress) (w : Stretch) (kind : Kind) (label : Label) (from : Tick)
    (shield : Bool) (st : Levels) (now : Now) (o : Option Exc) : Type 0 where
  pub exc : option_map exc_of w.exc ≡ exc_after kind label (tick_of clock now.at) (left_in label from shield st now o)
  pub events : Adds me mid after.events.items
      (story_of_one now.at (leaves kind label o (left_in label from shield st now o).caught
      (exc_after kind label (tick_of clock now.at) (left_in label from shield st now o))))

-- a block is entered, and left where its inside ends
pub tells_block : (clock : Clock) (me : Label) (a b : List held.Event) (c d : Progress) (table : Table) (kind : Kind) (label : Label)
    (m : ℕ) (deadline : Tick) (shield : Bool) (st : Levels) (inside : Tick → Tale) (inner w : Stretch) (from : Tick) → from ≡ table label →
    Adds me a b (story_of_one m (enters kind label deadline shield)) → Tells me b inner c (inside from) →
    IsLeft clock me c.events.items d inner w kind label (own_of c)
    (left_in label from shield st (now_in inner.end c) (option_map exc_of inner.exc)) →
    Tells me a w d (tell_block clock table kind label m deadline shield st inside)
unfolding tell_block
tells_block clock me a b c d table kind label m deadline shield st inside inner w from is h k x =
    let tale = inside from in
    let begun : Shut clock me c.events.items d w kind label from shield st (record { at = inner.end; own = own_of c })
    (option_map exc_of inner.exc)
    = record { exc = x.exc; events = x.events } in
    let shut : Shut clock me c.events.items d w kind label from shield st (record { at = tale.end; own = tale.own }) tale.exc =
    subst (λ (n : ℕ). Shut clock me c.events.items d w kind label from shield st (record { at = n; own = tale.own }) tale.exc) k.stretch.end
    (subst (λ (own : List Label). Shut clock me c.events.items d w kind label from shield st
    (record { at = inner.end; own = own }) tale.exc) k.own
    (subst (λ (o : Option Exc). Shut clock me c.events.items d w kind label from shield st (record { at = inner.end; own = own_of c }) o)
    k.stretch.exc begun)) in
    let until : w.open_until ≡ 0 = x.open_until in
    subst (λ (f : Tick). Tells me a w d (tell_left clock kind label m deadline shield
    (left_in label f shield st (record { at = (inside f).end; own = (inside f).own }) (inside f).exc) (inside f))) is
    (record {
      stretch = record { end = x.end ∙ k.stretch.end; exc = shut.exc; open_until = λ u. omega (arith, until); open_excs = x.open_excs };
      events =
          adds_then me a b d.events.items _ _ h (adds_then me b c.events.items d.events.items tale.story _ k.events shut.events);
      own = x.own ∙ k.own;
    })

-- the body of a nursery ended, and the nursery ends after its last member
pub tells_wait : (clock : Clock) (me : Label) (start : List held.Event) (mid now : Progress) (stretch w : Stretch) (label : Label) (a : Tale) →
    Tells me start stretch mid a →
    Adds me mid.events.items now.events.items (story_of_one stretch.end (waits label (option_map exc_of stretch.exc))) → own_of now ≡ [] →
    ((b : Tale) → IsStretchOf stretch b → IsStretchOf w (tell_gathered clock label b)) →
    Tells me start w now (tell_gathered clock label (tell_wait label a))
unfolding tell_wait tell_gathered
tells_wait clock me start mid now stretch w label a h k own g =
    let waited : Adds me mid.events.items now.events.items (story_of_one a.end (waits label a.exc)) =
    subst (λ (n : ℕ). Adds me mid.events.items now.events.items (story_of_one n (waits label a.exc))) h.stretch.end
    (subst (λ (o : Option Exc). Adds me mid.events.items now.events.items (story_of_one stretch.end (waits label o))) h.stretch.exc k) in
    record {
      stretch = stretch_like w (tell_gathered clock label a) (tell_gathered clock label (tell_wait label a)) (g a h.stretch) refl refl refl;
      events = adds_then me start mid.events.items now.events.items a.story _ h.events waited;
      own = own;
    }

-- an event is entered, and its inside walked
pub tells_event : (me : Label) (a b : List held.Event) (d : Progress) (table : Table) (label : Label) (m : ℕ) (inside : Tick → Tale)
    (w : Stretch) →
    Adds me a b (story_of_one m (enters_event label)) → Tells me b w d (inside (table label)) →
    Tells me a w d (tell_event table label m inside)
unfolding tell_event
tells_event me a b d table label m inside w h k =
    record {
      stretch = stretch_like w (inside (table label)) (tell_event table label m inside) k.stretch refl refl refl;
      events = adds_then me a b d.events.items _ (inside (table label)).story h k.events;
      own = k.own;
    }

-- a limiter or channel is entered, and its inside walked
pub tells_object : (me : Label) (a b : List held.Event) (d : Progress) (table : Table) (kind : ObjectKind) (label : Label) (m : ℕ)
    (inside : Tick → Tale) (w : Stretch) →
    Adds me a b (story_of_one m (enters_object kind label)) → Tells me b w d (inside (table label)) →
    Tells me a w d (tell_object table kind label m inside)
unfolding tell_object
tells_object me a b d table kind label m inside w h k =
    record {
      stretch = stretch_like w (inside (table label)) (tell_object table kind label m inside) k.stretch refl refl refl;
      events = adds_then me a b d.events.items _ (inside (table label)).story h k.events;
      own = k.own;
    }

-- a task is started, and walked up to its end
pub tells_child : (me l : Label) (home : Option Label) (scene : Scene) (begins : ℕ) (tale : Tale) (here : Now) (a b : List held.Event)
    (c d : Progress) (stretch w : Stretch) →
    map event_of b ≡ map event_of a ++ event begins l (starts home scene.here.part) ∷ [] → Tells l b stretch c tale →
    map event_of d.events.items ≡ map event_of c.events.items ++ event stretch.end l (ends home (option_map exc_of stretch.exc)) ∷ [] →
    own_of d ≡ here.own → IsStretchOf w (tell_child l home scene begins tale here) → Tells me a w d (tell_child l home scene begins tale here)
unfolding tell_child
tells_child me l home scene begins tale here a b c d stretch w first h last own k =
    let over : map event_of d.events.items ≡ map event_of c.events.items ++ event tale.end l (ends home tale.exc) ∷ [] =
    subst (λ (n : ℕ). map event_of d.events.items ≡ map event_of c.events.items ++ event n l (ends home tale.exc) ∷ []) h.stretch.end
    (subst (λ (o : Option Exc). map event_of d.events.items ≡ map event_of c.events.items ++ event stretch.end l
    (ends home o) ∷ []) h.stretch.exc last) in
    record {
      stretch = k;
      events =
          adds_child me l home scene.here.part begins tale.end tale.exc tale.story a b c.events.items d.events.items first h.events over;
      own = own;
    }

-- the same steps, walked where the input is the same
pub tells_in : (me : Label) (a : List held.Event) (b : Progress) (w : Stretch) (k : Tables) (ss : Steps) (clock : Clock) (x y : List ℕ)
    (p : Range) (l : Label) (in_cleanup : Bool) (st : Stack) (now : Now) → x ≡ y →
    Tells me a w b (tell k ss
    (record { here = record { clock = clock; input = x; part = p; task = l; path = l.indices }; in_cleanup = in_cleanup }) st now) →
    Tells me a w b (tell k ss
    (record { here = record { clock = clock; input = y; part = p; task = l; path = l.indices }; in_cleanup = in_cleanup }) st now)
tells_in me a b w k ss clock x y p l in_cleanup st now e h =
    subst (λ (z : List ℕ). Tells me a w b
    (tell k ss
    (record { here = record { clock = clock; input = z; part = p; task = l; path = l.indices }; in_cleanup = in_cleanup }) st now)) e h

-- where a walk is that has this part of this buffer, and this path
abbrev scene_on : Clock → Label → Bool → List ℕ → Range → List ℕ → Scene
scene_on clock l in_cleanup x p path =
    record { here = record { clock = clock; input = x; part = p; task = l; path = path }; in_cleanup = in_cleanup }

-- the same steps on an equal part of an equal buffer, with an equal path
pub tells_on : (me : Label) (a : List held.Event) (b : Progress) (w : Stretch) (k : Tables) (ss : Steps) (clock : Clock) (l : Label)
    (in_cleanup : Bool) (st : Stack) (now : Now) (x y : List ℕ) (p q : Range) (is js : List ℕ) → x ≡ y → p ≡ q → is ≡ js →
    Tells me a w b (tell k ss (scene_on clock l in_cleanup x p is) st now) →
    Tells me a w b (tell k ss (scene_on clock l in_cleanup y q js) st now)
tells_on me a b w k ss clock l in_cleanup st now x y p q is js e f g h =
    subst (λ (z : List ℕ). Tells me a w b (tell k ss (scene_on clock l in_cleanup z q js) st now)) e
    (subst (λ (r : Range). Tells me a w b (tell k ss (scene_on clock l in_cleanup x r js) st now)) f
    (subst (λ (path : List ℕ). Tells me a w b (tell k ss (scene_on clock l in_cleanup x p path) st now)) g h))

-- equal steps, walked from an equal moment
pub tells_at : (me : Label) (a : List held.Event) (b : Progress) (w : Stretch) (k : Tables) (ss body : Steps) (scene : Scene) (st : Stack)
    (u v : Now) →
    ss ≡ body → u ≡ v →
    Tells me a w b (tell k ss scene st u) → Tells me a w b (tell k body scene st v)
tells_at me a b w k ss body scene st u v e f h =
    subst (λ (x : Now). Tells me a w b (tell k body scene st x)) f (subst (λ (x : Steps). Tells me a w b (tell k x scene st u)) e h)

-- where a task is in time, in other words
abbrev time_of : ℕ → List Label → Now
time_of m own = record { at = m; own = own }

pub same_now : (m : ℕ) (cancelled : List Label) (n : ℕ) (own : List Label) → m ≡ n → reverse cancelled ≡ own →
    time_of m (reverse cancelled) ≡ time_of n own
same_now m cancelled n own e f = ap (λ (x : ℕ). time_of x (reverse cancelled)) e ∙ ap (time_of n) f
