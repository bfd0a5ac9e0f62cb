use Rattle.std.proofs.Common.{ℕ, Option, Some, None, List, [], ◌∷◌, ◌++◌, refl, ap, sym, ◌∙◌, subst}
use Rattle.std.specs.Prelude.{codes}
use Rattle.std.specs.Borrow.{Bor}
use Rattle.std.specs.Option.{option_map}
use Rattle.input_lines.specs.Part.{buffer_of, range_of}
use Rattle.job_tree.specs.Tree as tree
use Rattle.job_tree.specs.declared.object.Ask.TheVariants.{Acquire, Send, Receive}
use Rattle.exceptions.specs.Exceptions.{Label, raised}
use Rattle.job_meaning.specs.Moments.{tick_of}
use Rattle.job_meaning.specs.Rest as rest
use Rattle.job_meaning.specs.Sharing.{a_token, was_sent, a_part, closed_resource, end_of_channel}
use Rattle.nursery_book.specs.declared.book.NurseryBook.{NurseryBook}
use Rattle.objects.specs.Held.{what_in, IsGrantOf}
use Rattle.objects.specs.declared.given.Grant as held
use Rattle.turn_semantics.specs.Midway.{Place}
use Rattle.turn_semantics.specs.Placed.{in_body}
use Rattle.turn_semantics.specs.Steps.{onward}
use Rattle.turn_semantics.specs.Wakes.{is_granted}
use Rattle.turn_semantics.proofs.Passes.{starts_anywhere}
use Rattle.task_machine.specs.declared.stop.Moved.TheVariants.{On}
use Rattle.task_machine.specs.declared.stop.TaskState.{TaskState}
use Rattle.task_machine.specs.declared.stop.Wake.TheVariants.{Granted}
use Rattle.task_machine.specs.declared.task.Task.{Task}
use Rattle.task_machine.specs.Fitting.{Fits, AreOf, received_in, waits_of}
use Rattle.task_machine.specs.Frames.{frames_of}
use Rattle.task_machine.specs.Standing.{Wakens}
use Rattle.task_machine.specs.States.{state_of}
use Rattle.task_machine.specs.Stops.{Numbers, MovesAs}
use Rattle.task_machine.specs.Tasks.{lent_of}
use Rattle.task_machine.specs.Waking.{IsInRangeTaskState, WakesFrom}
use Rattle.task_machine.proofs.FrameLemmas.{are_of_more}
use Rattle.task_machine.proofs.Grants.{begun_wakens, begun_fits}
use Rattle.task_machine.proofs.Wakens.{wakes_raised}
use Rattle.task_machine.proofs.task.Task.take_grant.Goals as goal

pub returns-in_ok-begin_inside-in-Token-clause-wakes : goal.returns-in_ok-begin_inside-in-Token-clause-wakes
returns-in_ok-begin_inside-in-Token-clause-wakes c =
    let self = c.args.self.now in
    let world = c.args.world.now in
    let n = c.in_ok-note_grant-in-Token.ensures in
    let e = c.in_ok-begin_inside-in-Token.ensures in
    let body = c.in-Queued.body.now in
    let found = sym c.label_of.ensures ∙ ap (λ (o : Option (Bor Label)). option_map (λ (l : Bor Label). l.now) o) c.in-Some.is in
    subst (λ (g : held.Grant). Wakens (state_of self world) (state_of c.begin_inside.new.self world) (On None) (is_granted (what_in g)))
    (sym c.in-Token.is)
    (begun_wakens self c.note_grant.new.self c.begin_inside.new.self world n.stays e.stays e.blocks c.in-Queued.object c.in-Queued.ask
    c.in-Queued.since c.in-Queued.body c.in-Queued.is c.in-Some.label.now found a_token Acquire
    (λ fs. rest.steps_left body ∷ rest.with_token c.in-Some.label.now ∷ fs) (λ here t fs ps. refl) n.noted
    (λ numbers. e.frames numbers
    ∙ ap (λ (l : Label). rest.steps_left body ∷ rest.with_token l ∷ frames_of numbers c.note_grant.new.self.frames.items)
    (c.in_ok-limiter-in-Token.ensures.ok ∙ c.in_ok-copy-in-Token.ensures)))

pub returns-in_ok-push-in-Sent-clause-fits : goal.returns-in_ok-push-in-Sent-clause-fits
returns-in_ok-push-in-Sent-clause-fits c =
    let self = c.args.self.now in
    let world = c.args.world.now in
    let n = c.in_ok-note_grant-in-Sent.ensures in
    let e = c.in_ok-push-in-Sent.ensures in
    let body = c.in-Queued.body.now in
    let fs = self.frames.items in
    let state = subst IsInRangeTaskState c.in-Queued.is c.requires.task_state in
    let fits = subst (λ (x : TaskState). Fits (state_of self world) (waits_of x)) c.in-Queued.is c.requires.fits in
    begun_fits self c.note_grant-in-Sent.new.self c.push.new.self world n.stays e.stays e.blocks
    (rest.steps_left body ∷ frames_of (λ id. []) fs) fits
    (e.frames (λ id. [])
    ∙ ap (λ (ss : tree.Steps). rest.steps_left ss ∷ frames_of (λ id. []) c.note_grant-in-Sent.new.self.frames.items) c.as_slice.ensures
    ∙ ap (λ (t : Task). rest.steps_left body ∷ frames_of (λ id. []) t.frames.items) n.stays)
    (state.1, fits.runs.in_range) (starts_anywhere body (in_body (frames_of (λ id. []) fs)) state.2, fits.runs.starts)
    (subst (λ (inputs : List (List ℕ)). AreOf (buffer_of self.part) inputs)
    (sym (e.received ∙ ap (λ (t : Task). received_in t.frames.items) n.stays)) fits.runs.lent)

pub returns-in_ok-push-in-Sent-clause-wakes : goal.returns-in_ok-push-in-Sent-clause-wakes
returns-in_ok-push-in-Sent-clause-wakes c =
    let self = c.args.self.now in
    let world = c.args.world.now in
    let n = c.in_ok-note_grant-in-Sent.ensures in
    let e = c.in_ok-push-in-Sent.ensures in
    let body = c.in-Queued.body.now in
    let found = sym c.label_of.ensures ∙ ap (λ (o : Option (Bor Label)). option_map (λ (l : Bor Label). l.now) o) c.in-Some.is in
    subst (λ (g : held.Grant). Wakens (state_of self world) (state_of c.push.new.self world) (On None) (is_granted (what_in g)))
    (sym c.in-Sent.is)
    (begun_wakens self c.note_grant-in-Sent.new.self c.push.new.self world n.stays e.stays e.blocks c.in-Queued.object c.in-Queued.ask
    c.in-Queued.since c.in-Queued.body c.in-Queued.is c.in-Some.label.now found was_sent Send
    (λ fs. rest.steps_left body ∷ fs) (λ here t fs ps. refl) n.noted
    (λ numbers. e.frames numbers
    ∙ ap (λ (ss : tree.Steps). rest.steps_left ss ∷ frames_of numbers c.note_grant-in-Sent.new.self.frames.items) c.as_slice.ensures))

pub returns-in_ok-begin_inside-in-Received-clause-fits : goal.returns-in_ok-begin_inside-in-Received-clause-fits
returns-in_ok-begin_inside-in-Received-clause-fits c =
    let self = c.args.self.now in
    let world = c.args.world.now in
    let n = c.in_ok-note_grant-in-Received.ensures in
    let e = c.in_ok-begin_inside-in-Received.ensures in
    let body = c.in-Queued.body.now in
    let part = c.in-Received.part in
    let fs = self.frames.items in
    let state = subst IsInRangeTaskState c.in-Queued.is c.requires.task_state in
    let fits = subst (λ (x : TaskState). Fits (state_of self world) (waits_of x)) c.in-Queued.is c.requires.fits in
    let own : IsGrantOf (buffer_of self.part) (held.Grant.Received part) =
    subst (λ (g : held.Grant). IsGrantOf (buffer_of self.part) g) c.in-Received.is
    (subst (λ (x : TaskState). WakesFrom x (lent_of self) world.book (Granted c.args.grant)) c.in-Queued.is c.requires.wake) in
    begun_fits self c.note_grant-in-Received.new.self c.begin_inside-in-Received.new.self world n.stays e.stays e.blocks
    (rest.steps_left body ∷ rest.with_part (range_of part) ∷ frames_of (λ id. []) fs) fits
    (e.frames (λ id. [])
    ∙ ap (λ (t : Task). rest.steps_left body ∷ rest.with_part (range_of part) ∷ frames_of (λ id. []) t.frames.items) n.stays)
    (state.1, fits.runs.in_range) (state.2, fits.runs.starts)
    (subst (λ (inputs : List (List ℕ)). AreOf (buffer_of self.part) inputs)
    (sym (e.received ∙ ap (λ (t : Task). received_in t.frames.items ++ buffer_of part ∷ []) n.stays))
    (are_of_more (buffer_of self.part) (buffer_of part) (received_in fs) fits.runs.lent own))

pub returns-in_ok-begin_inside-in-Received-clause-wakes : goal.returns-in_ok-begin_inside-in-Received-clause-wakes
returns-in_ok-begin_inside-in-Received-clause-wakes c =
    let self = c.args.self.now in
    let world = c.args.world.now in
    let n = c.in_ok-note_grant-in-Received.ensures in
    let e = c.in_ok-begin_inside-in-Received.ensures in
    let body = c.in-Queued.body.now in
    let range = range_of c.in-Received.part in
    let found = sym c.label_of.ensures ∙ ap (λ (o : Option (Bor Label)). option_map (λ (l : Bor Label). l.now) o) c.in-Some.is in
    subst (λ (g : held.Grant). Wakens (state_of self world) (state_of c.begin_inside-in-Received.new.self world) (On None) (is_granted (what_in g)))
    (sym c.in-Received.is)
    (begun_wakens self c.note_grant-in-Received.new.self c.begin_inside-in-Received.new.self world n.stays e.stays e.blocks c.in-Queued.object
    c.in-Queued.ask c.in-Queued.since c.in-Queued.body c.in-Queued.is c.in-Some.label.now found (a_part range) Receive
    (λ fs. rest.steps_left body ∷ rest.with_part range ∷ fs) (λ here t fs ps. refl) n.noted (λ numbers. e.frames numbers))

pub returns-in_ok-moved-in-ClosedResource-clause-wakes : goal.returns-in_ok-moved-in-ClosedResource-clause-wakes
returns-in_ok-moved-in-ClosedResource-clause-wakes c =
    let self = c.args.self.now in
    let world = c.args.world.now in
    let moved = c.in_ok-moved-in-ClosedResource.moved in
    let found = sym c.label_of.ensures ∙ ap (λ (o : Option (Bor Label)). option_map (λ (l : Bor Label). l.now) o) c.in-Some.is in
    subst (λ (g : held.Grant). Wakens (state_of self world) (state_of self world) moved (is_granted (what_in g))) (sym c.in-ClosedResource.is)
    (wakes_raised (state_of self world) c.in-Queued.object c.in-Queued.ask c.in-Queued.since c.in-Queued.body c.in-Queued.is closed_resource
    c.in-Some.label.now found moved (codes "ClosedResource") (λ here t fs ps. refl)
    (subst (λ (name : List ℕ). (numbers : Numbers) (book : NurseryBook) (fs : List rest.Frame) (ps : List Place) →
    MovesAs world.clock numbers book (lent_of self) moved self.task_state
    (onward fs ps (Some (raised name self.label (tick_of world.clock world.tick))))) c.closed_resource.ensures
    c.in_ok-moved-in-ClosedResource.ensures.raises))

pub returns-in_ok-moved-in-EndOfChannel-clause-wakes : goal.returns-in_ok-moved-in-EndOfChannel-clause-wakes
returns-in_ok-moved-in-EndOfChannel-clause-wakes c =
    let self = c.args.self.now in
    let world = c.args.world.now in
    let moved = c.in_ok-moved-in-EndOfChannel.moved in
    let found = sym c.label_of.ensures ∙ ap (λ (o : Option (Bor Label)). option_map (λ (l : Bor Label). l.now) o) c.in-Some.is in
    subst (λ (g : held.Grant). Wakens (state_of self world) (state_of self world) moved (is_granted (what_in g))) (sym c.in-EndOfChannel.is)
    (wakes_raised (state_of self world) c.in-Queued.object c.in-Queued.ask c.in-Queued.since c.in-Queued.body c.in-Queued.is end_of_channel
    c.in-Some.label.now found moved (codes "EndOfChannel") (λ here t fs ps. refl)
    (subst (λ (name : List ℕ). (numbers : Numbers) (book : NurseryBook) (fs : List rest.Frame) (ps : List Place) →
    MovesAs world.clock numbers book (lent_of self) moved self.task_state
    (onward fs ps (Some (raised name self.label (tick_of world.clock world.tick))))) c.end_of_channel.ensures
    c.in_ok-moved-in-EndOfChannel.ensures.raises))
