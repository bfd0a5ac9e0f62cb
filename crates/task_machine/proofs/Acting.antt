-- What moves of the code do to scopes, as acts.
use Rattle.task_machine.specs.Frames.{Lent}
use Rattle.std.proofs.Common.{◌≡◌, ◌≢◌, ◌⊎◌, inl, inr, ◌==◌, ℕ, zero, suc, Bool, true, false, Option, Some, None, List, [], ◌∷◌, ◌++◌, refl, ap, sym, ◌∙◌, subst}
use Rattle.std.proofs.lemmas.Bool.{eqb-true, eq-eqb}
use Rattle.std.proofs.lemmas.List.Elements.{All-nil, All-cons, All-append, All-head, All-tail}
use Rattle.std.specs.Prelude.{IsSome}
use Rattle.std.specs.Option.{option_map, is_some}
use Rattle.exceptions.specs.Exceptions.{Label, Exc}
use Rattle.cancel_scopes.specs.Sight.{Tick}
use Rattle.cancel_scopes.specs.Tree.{Stack, Tree, stack_of, IsOpen, after_cancel}
use Rattle.job_meaning.specs.Log.{Table}
use Rattle.job_meaning.specs.Log as log
use Rattle.job_meaning.specs.declared.clock.Clock.{Clock}
use Rattle.job_meaning.specs.Walk.{Here, label_over}
use Rattle.job_meaning.specs.Rest.{Event, noted, signs, enters, starts, starts_over, Stopped, to_begin, asking, asleep, waiting_for, queued, giving_up, awaiting, at_end}
use Rattle.nursery_book.specs.declared.book.NurseryBook.{NurseryBook}
use Rattle.input_lines.specs.Lines.{Span}
use Rattle.turn_semantics.specs.Midway.{Place, label_among, Move}
use Rattle.turn_semantics.specs.Steps.{signs_to, home_among, signs_home}
use Rattle.turn_semantics.specs.Wakes.{lines_made}
use Rattle.task_machine.specs.declared.stop.TaskState.{TaskState}
use Rattle.task_machine.specs.declared.stop.TaskState.TheVariants.{ToBegin, Asked, Asleep, Waiting, Queued, GivingUp, Awaits, Over}
use Rattle.task_machine.specs.declared.stop.Moved.{Moved}
use Rattle.task_machine.specs.declared.stop.Moved.TheVariants.{On, Stops}
use Rattle.task_machine.specs.declared.task.Own.{Own}
use Rattle.task_machine.specs.Acts.{Scoping, scoping_in, Cancels, Enters, Leaves, Acts, no_act, act_noted, act_shared, act_starts, act_signs, act_sets, act_enters, act_leaves, Signed, key_failed}
use Rattle.task_machine.specs.Entered.{SetAt}
use Rattle.task_machine.specs.Fitting.{Block, a_scope, a_nursery, AreOthers, waits_of}
use Rattle.task_machine.specs.Labels.{Labels, Events, scope_named, home_key}
use Rattle.task_machine.specs.Stacked.{AreAt, FoundAs, AwaitsEvent}
use Rattle.task_machine.specs.Standing.{HasBlock, HasNurseryOf, waits_by}
use Rattle.task_machine.specs.States.{State}
use Rattle.task_machine.specs.Stops.{Numbers, IsTaskState, MovesAs}
use Rattle.task_machine.proofs.Stacked.{named_at, named_sought, no_event, home_at, home_no_event}

-- ---- a task that waits for no nursery

-- a stop that waits for no nursery, or none
abbrev pub WaitsNot : Option Stopped → Type 0
WaitsNot None = Unit {0}
WaitsNot (Some to_begin) = Unit {0}
WaitsNot (Some (asking kernel purpose)) = Unit {0}
WaitsNot (Some (asleep paced n since)) = Unit {0}
WaitsNot (Some (waiting_for event since)) = Unit {0}
WaitsNot (Some (queued object ask since body)) = Unit {0}
WaitsNot (Some (giving_up since)) = Unit {0}
WaitsNot (Some (awaiting children ended exc)) = ⊥
WaitsNot (Some (at_end u e)) = Unit {0}

task_states_not : (numbers : Numbers) (book : NurseryBook) (task_state : TaskState) (s : Stopped) → WaitsNot (Some s) → IsTaskState numbers book task_state s →
    waits_of task_state ≡ None
task_states_not numbers book (ToBegin at) s not h = refl
task_states_not numbers book (Asked kernel purpose) s not h = refl
task_states_not numbers book (Asleep paced ticks since) s not h = refl
task_states_not numbers book (Waiting event since) s not h = refl
task_states_not numbers book (Queued object ask since body) s not h = refl
task_states_not numbers book (GivingUp since) s not h = refl
task_states_not numbers book (Awaits id since) to_begin not h = absurd h
task_states_not numbers book (Awaits id since) (asking kernel purpose) not h = absurd h
task_states_not numbers book (Awaits id since) (asleep paced n u) not h = absurd h
task_states_not numbers book (Awaits id since) (waiting_for event u) not h = absurd h
task_states_not numbers book (Awaits id since) (queued name a u steps) not h = absurd h
task_states_not numbers book (Awaits id since) (giving_up u) not h = absurd h
task_states_not numbers book (Awaits id since) (awaiting children ended exc) not h = absurd not
task_states_not numbers book (Awaits id since) (at_end u e) not h = absurd h
task_states_not numbers book Over s not h = refl

-- after a move that does not stop to wait for children the task waits for no nursery
pub waits_not : (clock : Clock) (numbers : Numbers) (book : NurseryBook) (part : Lent) (goes : Moved) (task_state : TaskState) (o : Move) →
    WaitsNot o.stopped →
    MovesAs clock numbers book part goes task_state o →
    waits_by goes task_state ≡ None
waits_not clock numbers book part (On exc) task_state o not h = refl
waits_not clock numbers book part (Stops stop) task_state o not h = by_stop o.stopped refl
  where
    by_stop : (s : Option Stopped) → o.stopped ≡ s → waits_of task_state ≡ None
    by_stop None e =
        absurd (let f : MovesAs clock numbers book part (Stops stop) task_state (record o { stopped = None }) =
        subst (λ (x : Option Stopped). MovesAs clock numbers book part (Stops stop) task_state (record o { stopped = x })) e h in f.1)
    by_stop (Some s) e =
        let f : MovesAs clock numbers book part (Stops stop) task_state (record o { stopped = Some s }) =
        subst (λ (x : Option Stopped). MovesAs clock numbers book part (Stops stop) task_state (record o { stopped = x })) e h in
        task_states_not numbers book task_state s (subst WaitsNot e not) f.1.0

-- ---- a task that waits for no event, limiter or channel

-- a stop that waits for no event, limiter or channel, or none
abbrev pub WaitsElse : Option Stopped → Type 0
WaitsElse (Some (waiting_for event since)) = ⊥
WaitsElse (Some (queued object ask since body)) = ⊥
WaitsElse _ = Unit {0}

-- there is none that would have to be one of the stack
pub waits_else : (labels : Labels) (st : Stack) (s : Option Stopped) (task_state : TaskState) (ps : List Place) → WaitsElse s →
    AwaitsEvent labels st s task_state ps
waits_else labels st None task_state ps h = tt
waits_else labels st (Some (waiting_for event since)) task_state ps h = absurd h
waits_else labels st (Some (queued object ask since body)) task_state ps h = absurd h
waits_else labels st (Some _) task_state ps h = tt

-- ---- the nurseries of a task

-- a nursery of a task that waits for none is among its blocks
pub block_of : (id : ℕ) (bs : List Block) (waits : Option ℕ) → waits ≡ None → HasNurseryOf id bs waits → HasBlock id bs
block_of id bs waits none (inl h) = h
block_of id bs waits none (inr e) = absurd (let f : None ≡ Some id = sym none ∙ e in cc)

-- a nursery is among blocks, or it is not
pub has_or_not : (id : ℕ) (bs : List Block) → HasBlock id bs ⊎ (HasBlock id bs → ⊥)
has_or_not id [] = inr (λ h. h)
has_or_not id (a_scope ∷ bs) = has_or_not id bs
has_or_not id (a_nursery key ∷ bs) = by_key (id == key) refl (has_or_not id bs)
  where
    by_key : (b : Bool) → (id == key) ≡ b → HasBlock id bs ⊎ (HasBlock id bs → ⊥) → ((id ≡ key) ⊎ HasBlock id bs)
        ⊎ ((id ≡ key) ⊎ HasBlock id bs → ⊥)
    by_key true e d = inl (inl (eqb-true id key e))
    by_key false e (inl h) = inl (inr h)
    by_key false e (inr h) = inr neither
      where
        neither : (id ≡ key) ⊎ HasBlock id bs → ⊥
        neither (inl f) = absurd (let x : true ≡ false = sym (eq-eqb id key f) ∙ e in cc)
        neither (inr f) = h f

-- ---- acts that change nothing

-- with no event made the scopes may stay as they are
pub same_acts : (tick : ℕ) (s u : Scoping) → u ≡ s → Acts tick s [] u
same_acts tick s u e = subst (λ (x : Scoping). Acts tick s [] x) (sym e) (no_act s)

-- the same where it is only known that no event was made
pub no_acts : (tick : ℕ) (s u : Scoping) (es : List Event) → es ≡ [] → u ≡ s → Acts tick s es u
no_acts tick s u es none e = subst (λ (fs : List Event). Acts tick s fs u) (sym none) (same_acts tick s u e)

-- acts one after the other make the events of the first, then those of the second
pub acts_append : (tick : ℕ) (s m u : Scoping) (es fs : List Event) → Acts tick s es m → Acts tick m fs u → Acts tick s (es ++ fs) u
acts_append tick _ _ u _ fs (no_act s) b = b
acts_append tick _ _ u _ fs (act_noted s m t e ds a) b = act_noted s u t e (ds ++ fs) (acts_append tick s m u ds fs a b)
acts_append tick _ _ u _ fs (act_shared s m l t d ds a) b = act_shared s u l t d (ds ++ fs) (acts_append tick s m u ds fs a b)
acts_append tick _ _ u _ fs (act_starts s m i l t ds a) b = act_starts s u i l t (ds ++ fs) (acts_append tick s m u ds fs a b)
acts_append tick _ _ u _ fs (act_signs s x m l ds h a) b = act_signs s x u l (ds ++ fs) h (acts_append tick x m u ds fs a b)
acts_append tick _ _ u _ fs (act_sets s x m l ds h a) b = act_sets s x u l (ds ++ fs) h (acts_append tick x m u ds fs a b)
acts_append tick _ _ u _ fs (act_enters s x m l t d ds h a) b = act_enters s x u l t d (ds ++ fs) h (acts_append tick x m u ds fs a b)
acts_append tick _ _ u _ fs (act_leaves s x m es h a) b = act_leaves s x u (es ++ fs) h (acts_append tick x m u es fs a b)

-- lines that are noted leave the scopes as they are
pub lines_acts : (tick t : ℕ) (spans : List Span) (s u : Scoping) → u ≡ s → Acts tick s (lines_made t spans) u
lines_acts tick t [] s u e = same_acts tick s u e
lines_acts tick t (l ∷ spans) s u e = act_noted s u t (log.line l) (lines_made t spans) (lines_acts tick t spans s u e)

-- a child that is started leaves the scopes as they are
pub start_acts : (tick : ℕ) (i : ℕ) (l : Label) (t : ℕ) (s u : Scoping) → u ≡ s → Acts tick s (starts i l t ∷ []) u
start_acts tick i l t s u e = act_starts s u i l t [] (same_acts tick s u e)

-- children that are started over cuts leave the scopes as they are
pub starts_acts : (tick : ℕ) (name : List ℕ) (here : Here) (t first k : ℕ) (s u : Scoping) → u ≡ s →
    Acts tick s (starts_over name here t first k) u
starts_acts tick name here t first zero s u e = same_acts tick s u e
starts_acts tick name here t first (suc k) s u e =
    acts_append tick s u u (starts_over name here t first k) _ (starts_acts tick name here t first k s u e)
    (start_acts tick _ (label_over name here k) t u u refl)

-- ---- signs

-- a scope of this label is signed, and nothing else is changed
one_signed : (tick : ℕ) (s : Scoping) (tree : Tree) (key : ℕ) (label : Label) → s.labels key ≡ Some label → s.events key ≡ None →
    Cancels key tick s.tree tree → Acts tick s (signs label tick ∷ []) (record s { tree = tree })
one_signed tick s tree key label labelled no_event cancels =
    act_signs s (record s { tree = tree }) (record s { tree = tree }) label []
    (record {
      key = key;
      labelled = labelled;
      no_event = no_event;
      cancels = cancels;
      labels = refl;
      events = refl;
      set = refl;
      own = refl;
      cancelled_from = refl;
    }) (no_act (record s { tree = tree }))

none_signed : (tick : ℕ) (s : Scoping) (tree : Tree) → tree ≡ s.tree → Acts tick s [] (record s { tree = tree })
none_signed tick s tree e = same_acts tick s (record s { tree = tree }) (ap (λ (x : Tree). record s { tree = x }) e)

-- the scope that was found, which is no event
signed_as : (tick : ℕ) (s : Scoping) (tree : Tree) (found : Option ℕ) (label : Option Label) → FoundAs s.labels found label →
    ((key : ℕ) → found ≡ Some key → s.events key ≡ None) → Signed tick s.tree tree found →
    Acts tick s (signs_to label tick) (record s { tree = tree })
signed_as tick s tree None label at none signed =
    subst (λ (o : Option Label). Acts tick s (signs_to o tick) (record s { tree = tree })) (sym at) (none_signed tick s tree signed)
signed_as tick s tree (Some key) label at none signed =
    subst (λ (o : Option Label). Acts tick s (signs_to o tick) (record s { tree = tree })) (sym at.1.1)
    (one_signed tick s tree key at.1.0 (at.0 ∙ at.1.1) (none key refl) signed)

-- by a name
pub found_signed : (tick : ℕ) (s : Scoping) (tree : Tree) (name : List ℕ) (cancelled_from : Table) (st : Stack) (ps : List Place) →
    AreAt s.labels s.events cancelled_from st ps → Signed tick s.tree tree (scope_named false s.labels s.events name st) →
    Acts tick s (signs_to (label_among false name ps) tick) (record s { tree = tree })
found_signed tick s tree name cancelled_from st ps a signed =
    signed_as tick s tree (scope_named false s.labels s.events name st) (label_among false name ps)
    (named_at false s.labels s.events cancelled_from name st ps a)
    (λ key e. no_event (s.events key) (named_sought false s.labels s.events name st key e)) signed

-- the innermost scope that is no event, by a task or body that failed
pub home_signed : (tick : ℕ) (s : Scoping) (tree : Tree) (exc : Option Exc) (cancelled_from : Table) (st : Stack) (ps : List Place) →
    AreAt s.labels s.events cancelled_from st ps → Signed tick s.tree tree (key_failed exc s.events st) →
    Acts tick s (signs_home exc ps tick) (record s { tree = tree })
home_signed tick s tree None cancelled_from st ps a signed = none_signed tick s tree signed
home_signed tick s tree (Some e) cancelled_from st ps a signed =
    signed_as tick s tree (home_key s.events st) (home_among ps) (home_at s.labels s.events cancelled_from st ps a)
    (λ key f. home_no_event s.events st key f) signed

-- an event that was found is set, or none is
pub found_set : (b : State) (events : Events) (set : List ℕ) (cancelled : List Label) (found : Option ℕ) (label : Option Label) →
    FoundAs b.labels found label → ((key : ℕ) → found ≡ Some key → IsOpen b.tree key) →
    (let u : State = record b { events = events; set = set; cancelled = cancelled } in
    SetAt b u found → Acts b.tick (scoping_in b) (signs_to label b.tick) (scoping_in u))
found_set b events set cancelled None label at opened sets =
    let u : State = record b { events = events; set = set; cancelled = cancelled } in
    subst (λ (o : Option Label). Acts b.tick (scoping_in b) (signs_to o b.tick) (scoping_in u)) (sym at)
    (same_acts b.tick (scoping_in b) (scoping_in u)
    (ap (λ (es : Events). record (scoping_in b) { events = es; set = set }) sets.0
    ∙ ap (λ (ks : List ℕ). record (scoping_in b) { set = ks }) sets.1))
found_set b events set cancelled (Some key) label at opened sets =
    let u : State = record b { events = events; set = set; cancelled = cancelled } in
    subst (λ (o : Option Label). Acts b.tick (scoping_in b) (signs_to o b.tick) (scoping_in u)) (sym at.1.1)
    (act_sets (scoping_in b) (scoping_in u) (scoping_in u) at.1.0 []
    (record {
      key = key;
      labelled = at.0 ∙ at.1.1;
      opened = opened key refl;
      sets = sets;
      tree = refl;
      labels = refl;
      own = refl;
      cancelled_from = refl;
    }) (no_act (scoping_in u)))

-- ---- scopes that are entered and left

-- a task that opened one scope or event acted as the event of entering its label says
pub entered_acts : (tick : ℕ) (parent : Option ℕ) (is_event : Bool) (s u : Scoping) (label : Label) (deadline : Tick) →
    Enters parent label is_event deadline s u → Acts tick s (enters label tick deadline ∷ []) u
entered_acts tick parent is_event s u label deadline e =
    act_enters {parent = parent} {is_event = is_event} s u u label tick deadline [] e (no_act u)

-- a task that closed the last of its scopes or events acted so
pub closed_acts : (tick : ℕ) (s u : Scoping) → Leaves s u → Acts tick s [] u
closed_acts tick s u e = act_leaves s u u [] e (no_act u)

-- a task that closed the last of its scopes acted so, with an entry noted
pub left_acts : (tick : ℕ) (s u : Scoping) (t : ℕ) (entry : log.Entry) → Leaves s u → Acts tick s (noted t entry ∷ []) u
left_acts tick s u t entry e = act_leaves s u u (noted t entry ∷ []) e (act_noted u u t entry [] (no_act u))

-- ---- scopes of other tasks

-- an open scope that is none of the task's
abbrev pub IsOpenOther : ℕ → Scoping → Type 0
IsOpenOther key s = IsOpen s.tree key × AreOthers key s.own

signed_open : (key at t : ℕ) (old new : Tree) → ((other : ℕ) → stack_of new other ≡ option_map (after_cancel at t) (stack_of old other)) →
    IsOpen old key → IsOpen new key
signed_open key at t old new h opened = subst IsSome (sym (h key)) (by_stack (stack_of old key) opened)
  where
    by_stack : (o : Option Stack) → IsSome o → IsSome (option_map (after_cancel at t) o)
    by_stack None s = absurd (let f : false ≡ true = s in cc)
    by_stack (Some st) s = refl

others_first : (key : ℕ) (os : List Own) (o : Own) → AreOthers key (os ++ o ∷ []) → AreOthers key os × (key ≢ o.id)
others_first key [] o a = (All-nil (λ (x : Own). x.id ≢ key), λ e. All-head (λ (x : Own). x.id ≢ key) o [] a (sym e))
others_first key (x ∷ os) o a =
    let more = others_first key os o (All-tail (λ (y : Own). y.id ≢ key) x (os ++ o ∷ []) a) in
    (All-cons (λ (y : Own). y.id ≢ key) x os (All-head (λ (y : Own). y.id ≢ key) x (os ++ o ∷ []) a) more.0, more.1)

-- stays open, and none of the task's
pub acts_stay : (tick : ℕ) (s u : Scoping) (es : List Event) (key : ℕ) → Acts tick s es u → IsOpenOther key s → IsOpenOther key u
acts_stay tick _ u _ key (no_act s) h = h
acts_stay tick _ u _ key (act_noted s x t e ds a) h = acts_stay tick s u ds key a h
acts_stay tick _ u _ key (act_shared s x l t d ds a) h = acts_stay tick s u ds key a h
acts_stay tick _ u _ key (act_starts s x i l t ds a) h = acts_stay tick s u ds key a h
acts_stay tick _ u _ key (act_signs s m x l ds g a) h =
    acts_stay tick m u ds key a (signed_open key g.key tick s.tree m.tree g.cancels.stacks h.0, subst (AreOthers key) (sym g.own) h.1)
acts_stay tick _ u _ key (act_sets s m x l ds g a) h =
    acts_stay tick m u ds key a (subst (λ (t : Tree). IsOpen t key) (sym g.tree) h.0, subst (AreOthers key) (sym g.own) h.1)
acts_stay tick _ u _ key (act_enters s m x l t d ds g a) h =
    acts_stay tick m u ds key a (
      subst IsSome (sym (g.others key other)) h.0,
      subst (AreOthers key) (sym g.opened) (All-append (λ (o : Own). o.id ≢ key) s.own (g.scope ∷ []) h.1
          (All-cons (λ (o : Own). o.id ≢ key) g.scope [] (λ e. other (sym e)) (All-nil (λ (o : Own). o.id ≢ key)))),
    )
  where
    other : key ≢ g.scope.id
    other e = absurd (let f : IsSome (stack_of s.tree g.scope.id) = subst (IsOpen s.tree) e h.0 in
        let k : is_some (stack_of s.tree g.scope.id) ≡ false = ap is_some g.fresh in let n : is_some (stack_of s.tree g.scope.id) ≡ true =
        f in cc)
acts_stay tick _ u _ key (act_leaves s m x es g a) h =
    let first = others_first key m.own g.scope (subst (AreOthers key) g.taken h.1) in
    acts_stay tick m u es key a (subst IsSome (sym (g.others key first.1)) h.0, first.0)
