-- Every cancellation of a job's story by settled tables that names a scope or nursery has a cause.
use Rattle.std.proofs.Common.{◌≡◌, ℕ, ◌+◌, true≢false, Bool, true, false, Option, Some, None, List, [], ◌∷◌, refl, ap, sym, ◌∙◌, subst, ◌⊎◌, inl, inr, arith}
use Rattle.std.proofs.lemmas.Bool.Decides.{nat_tests}
use Rattle.std.specs.Prelude.{◌==◌, is_some, if◌then◌else◌}
use Rattle.job_tree.specs.Tree.{Tree}
use Rattle.job_tree.specs.Names.{GivesNamesOnce}
use Rattle.input_lines.specs.Lines.{Span}
use Rattle.exceptions.specs.Exceptions.{Label, Exc}
use Rattle.cancel_scopes.specs.Sight.{Tick, earlier, next}
use Rattle.job_meaning.specs.Log.{Result, Log, nil, entry, sign, entered, act, task, followed_by, tick_if, least_sign, either, deadline_if, deadline_of, entered_from, Table, same_label}
use Rattle.job_meaning.specs.Walk.{Levels, Kind, log_of_lines, sign_if}
use Rattle.job_meaning.specs.Tables.{Tables, by_tables}
use Rattle.job_meaning.specs.Meaning.{root_label}
use Rattle.job_meaning.specs.Follow.{follow, IsSettled}
use Rattle.job_meaning.proofs.Distinct.{same_label_equal, same_label_itself}
use Rattle.job_meaning.proofs.Touched.{Gives, either_nothing, deadline_followed, least_followed, no_deadline}
use Rattle.job_meaning.proofs.Once.{GivesOnce, job_gives_once}
use Rattle.job_story.specs.Story.{During, at_checkpoint, sleeping, waiting_for, in_queue, before_asking, Happening, enters, enters_event, is_cancelled, finds, cancels, sets, enters_object, gets, finds_closed, closes_channel, waits, Story, no_more, happened, started, erased_one, erased_log}
use Rattle.job_story.specs.Tell.{is_from, tale_by, story_by}
use Rattle.job_story.specs.Events.{What, happens, ends, Event, event, events_of}
use Rattle.job_story.specs.Causes.{Cause, by_deadline, by_task, by_set, Entering, entering_by, entering_of, is_label, cause_by, cause_if, cause_in, or_later, signed_by, cause_by_entering, cause_from, cause_of}
use Rattle.job_story.specs.Sentences.{job_events}
use Rattle.job_story.specs.Blame.{IsBlamedFor, IsBlamedIn, AllBlamed, open_after}
use Rattle.job_story.specs.Shown.{IsIn, IsEntered, IsCaused, HasACauseFor, HasACause}
use Rattle.job_story.specs.LawsOfCauses.{CancelledFromHasCauses, CancellationsHaveCauses}
use Rattle.job_story.proofs.Erasing.{telling_is_following}
use Rattle.job_story.proofs.Blamed.{is_from_itself, earlier_is, cancellations_are_seen}
use Rattle.job_story.proofs.Found.{some_is, entering_is}
use Rattle.job_story.proofs.Members.{in_append, append_left, append_right, from_order, to_order, happens_is, no_start, no_end}

-- ---- labels that a log enters

-- the label is entered in the log with this deadline
abbrev EnteredIn : Label → Tick → Log → Type 0
EnteredIn l d nil = ⊥
EnteredIn l d (entry t e rest) = EnteredIn l d rest
EnteredIn l d (sign m t rest) = EnteredIn l d rest
EnteredIn l d (entered m t x rest) = ((l ≡ m) × (d ≡ x)) ⊎ EnteredIn l d rest
EnteredIn l d (act m t a rest) = EnteredIn l d rest
EnteredIn l d (task m s u e own rest) = EnteredIn l d own ⊎ EnteredIn l d rest

entered_first : (l : Label) (d : Tick) (a b : Log) → EnteredIn l d a → EnteredIn l d (followed_by a b)
entered_first l d nil b h = absurd h
entered_first l d (entry t e rest) b h = entered_first l d rest b h
entered_first l d (sign m t rest) b h = entered_first l d rest b h
entered_first l d (entered m t x rest) b (inl e) = inl e
entered_first l d (entered m t x rest) b (inr h) = inr (entered_first l d rest b h)
entered_first l d (act m t a rest) b h = entered_first l d rest b h
entered_first l d (task m s u e own rest) b (inl h) = inl h
entered_first l d (task m s u e own rest) b (inr h) = inr (entered_first l d rest b h)

entered_second : (l : Label) (d : Tick) (a b : Log) → EnteredIn l d b → EnteredIn l d (followed_by a b)
entered_second l d nil b h = h
entered_second l d (entry t e rest) b h = entered_second l d rest b h
entered_second l d (sign m t rest) b h = entered_second l d rest b h
entered_second l d (entered m t x rest) b h = inr (entered_second l d rest b h)
entered_second l d (act m t a rest) b h = entered_second l d rest b h
entered_second l d (task m s u e own rest) b h = inr (entered_second l d rest b h)

entered_gives : (l : Label) (d : Tick) (a : Log) → EnteredIn l d a → Gives l a
entered_gives l d nil h = h
entered_gives l d (entry t e rest) h = entered_gives l d rest h
entered_gives l d (sign m t rest) h = entered_gives l d rest h
entered_gives l d (entered m t x rest) (inl e) = inl e.0
entered_gives l d (entered m t x rest) (inr h) = inr (entered_gives l d rest h)
entered_gives l d (act m t a rest) h = entered_gives l d rest h
entered_gives l d (task m s u e own rest) (inl h) = inr (inl (entered_gives l d own h))
entered_gives l d (task m s u e own rest) (inr h) = inr (inr (entered_gives l d rest h))

-- where no label is given twice, each is entered with one deadline
entered_deadline : (l : Label) (d : Tick) (a : Log) → GivesOnce a → EnteredIn l d a → deadline_of l a ≡ Some d
entered_deadline l d nil once h = absurd h
entered_deadline l d (entry t e rest) once h = entered_deadline l d rest once h
entered_deadline l d (sign m t rest) once h = entered_deadline l d rest once h
entered_deadline l d (entered m t x rest) once (inl e) =
    ap (λ (b : Bool). either (deadline_if b x) (deadline_of l rest)) is ∙ ap (λ (y : Tick). Some y) (sym e.1)
  where
    is : same_label l m ≡ true
    is = subst (λ (y : Label). same_label l y ≡ true) e.0 (same_label_itself l)
entered_deadline l d (entered m t x rest) once (inr h) = by_test (same_label l m) refl (entered_deadline l d rest once.1 h)
  where
    by_test : (b : Bool) → same_label l m ≡ b → deadline_of l rest ≡ Some d → either (deadline_if b x) (deadline_of l rest) ≡ Some d
    by_test true same others =
        absurd (once.0 (subst (λ (y : Label). Gives y rest) (same_label_equal l m same) (entered_gives l d rest h)))
    by_test false differs others = others
entered_deadline l d (act m t a rest) once h = entered_deadline l d rest once h
entered_deadline l d (task m s u e own rest) once (inl h) =
    ap (λ (o : Option Tick). either o (deadline_of l rest)) (entered_deadline l d own once.1 h)
entered_deadline l d (task m s u e own rest) once (inr h) =
    ap (λ (o : Option Tick). either o (deadline_of l rest)) (no_deadline l own (λ i. once.3 l i (entered_gives l d rest h)))
    ∙ entered_deadline l d rest once.2 h

-- ---- the events that enter a label

entered_past : (l : Label) (d : Tick) (t : ℕ) (what : Happening) (r : Log) → EnteredIn l d r → EnteredIn l d (erased_one t what r)
entered_past l d t (enters kind label deadline shield) r h = inr h
entered_past l d t (enters_event label) r h = inr h
entered_past l d t (finds lines) r h = entered_second l d (log_of_lines t lines) r h
entered_past l d t (cancels None) r h = h
entered_past l d t (cancels (Some m)) r h = h
entered_past l d t (sets None) r h = h
entered_past l d t (sets (Some m)) r h = h
entered_past l d t (enters_object kind label) r h = inr h
entered_past l d t (gets ask label None) r h = h
entered_past l d t (gets ask label (Some asked)) r h = h
entered_past l d t (finds_closed ask label None) r h = h
entered_past l d t (finds_closed ask label (Some asked)) r h = h
entered_past l d t (closes_channel None) r h = h
entered_past l d t (closes_channel (Some label)) r h = h
entered_past l d t (waits nursery None) r h = h
entered_past l d t (waits nursery (Some e)) r h = h
entered_past l d t _ r h = h

-- the log of a story enters what an event of the story enters
event_entered : (me : Label) (s : Story) (l : Label) (d : Tick) (t : ℕ) (who : Label) (kind : Kind) (shield : Bool) →
    IsIn (event t who (happens (enters kind l d shield))) (events_of me s) → EnteredIn l d (erased_log s)
event_entered me no_more l d t who kind shield i = absurd i
event_entered me (happened u what rest) l d t who kind shield (inl e) =
    subst (λ (w : Happening). EnteredIn l d (erased_one u w (erased_log rest)))
    (happens_is (enters kind l d shield) what (ap (λ (x : Event). x.what) e)) (inl (refl, refl))
event_entered me (happened u what rest) l d t who kind shield (inr i) =
    entered_past l d u what (erased_log rest) (event_entered me rest l d t who kind shield i)
event_entered me (started m home part s u exc own rest) l d t who kind shield (inl e) =
    absurd (no_start (enters kind l d shield) home part (ap (λ (x : Event). x.what) e))
event_entered me (started m home part s u exc own rest) l d t who kind shield (inr i) =
    by_part (in_append _ (events_of m own) (event u m (ends home exc) ∷ events_of me rest) i)
    (event_entered m own l d t who kind shield) (event_entered me rest l d t who kind shield)
  where
    by_part : IsIn (event t who (happens (enters kind l d shield))) (events_of m own)
        ⊎ IsIn (event t who (happens (enters kind l d shield))) (event u m (ends home exc) ∷ events_of me rest) →
        (IsIn (event t who (happens (enters kind l d shield))) (events_of m own) → EnteredIn l d (erased_log own)) →
        (IsIn (event t who (happens (enters kind l d shield))) (events_of me rest) → EnteredIn l d (erased_log rest)) →
        EnteredIn l d (followed_by (erased_log own) (sign_if exc home u)) ⊎ EnteredIn l d (erased_log rest)
    by_part (inl j) f g = inl (entered_first l d (erased_log own) (sign_if exc home u) (f j))
    by_part (inr (inl e)) f g = absurd (no_end (enters kind l d shield) home exc (ap (λ (x : Event). x.what) e))
    by_part (inr (inr j)) f g = inr (g j)

-- ---- the events of a deadline

lines_deadline : (l : Label) (t : ℕ) (lines : List Span) → deadline_of l (log_of_lines t lines) ≡ None
lines_deadline l t [] = refl
lines_deadline l t (x ∷ xs) = lines_deadline l t xs

sign_deadline : (l : Label) (exc : Option Exc) (home : Option Label) (t : ℕ) → deadline_of l (sign_if exc home t) ≡ None
sign_deadline l None home t = refl
sign_deadline l (Some e) None t = refl
sign_deadline l (Some e) (Some m) t = refl

abbrev EntersIt : Label → Tick → Happening → Type 0
EntersIt l d what = (kind : Kind) × (shield : Bool) × (enters kind l d shield ≡ what)

-- an event, a limiter or a channel is entered with no deadline
deadline_past : (l : Label) (f t : ℕ) (what : Happening) (r : Log) → deadline_of l (erased_one t what r) ≡ Some (Some f) →
    EntersIt l (Some f) what ⊎ (deadline_of l r ≡ Some (Some f))
deadline_past l f t (enters kind label x shield) r h = by_test (same_label l label) refl h
  where
    by_test : (b : Bool) → same_label l label ≡ b → either (deadline_if b x) (deadline_of l r) ≡ Some (Some f) →
        EntersIt l (Some f) (enters kind label x shield) ⊎ (deadline_of l r ≡ Some (Some f))
    by_test true same k =
        let m : l ≡ label = same_label_equal l label same in
        let y : x ≡ Some f = some_is x (Some f) k in
        inl (kind, shield, cc)
    by_test false differs k = inr k
deadline_past l f t (enters_event label) r h = by_test (same_label l label) h
  where
    by_test : (b : Bool) → either (deadline_if b None) (deadline_of l r) ≡ Some (Some f) →
        EntersIt l (Some f) (enters_event label) ⊎ (deadline_of l r ≡ Some (Some f))
    by_test true k = absurd (cc)
    by_test false k = inr k
deadline_past l f t (finds lines) r h =
    inr (sym (deadline_followed l (log_of_lines t lines) r ∙ ap (λ (o : Option Tick). either o (deadline_of l r)) (lines_deadline l t lines)) ∙ h)
deadline_past l f t (cancels None) r h = inr h
deadline_past l f t (cancels (Some m)) r h = inr h
deadline_past l f t (sets None) r h = inr h
deadline_past l f t (sets (Some m)) r h = inr h
deadline_past l f t (enters_object kind label) r h = by_test (same_label l label) h
  where
    by_test : (b : Bool) → either (deadline_if b None) (deadline_of l r) ≡ Some (Some f) →
        EntersIt l (Some f) (enters_object kind label) ⊎ (deadline_of l r ≡ Some (Some f))
    by_test true k = absurd (cc)
    by_test false k = inr k
deadline_past l f t (gets ask label None) r h = inr h
deadline_past l f t (gets ask label (Some asked)) r h = inr h
deadline_past l f t (finds_closed ask label None) r h = inr h
deadline_past l f t (finds_closed ask label (Some asked)) r h = inr h
deadline_past l f t (closes_channel None) r h = inr h
deadline_past l f t (closes_channel (Some label)) r h = inr h
deadline_past l f t (waits nursery None) r h = inr h
deadline_past l f t (waits nursery (Some e)) r h = inr h
deadline_past l f t _ r h = inr h

entered_within : (l : Label) (d : Tick) (es fs : List Event) → ((x : Event) → IsIn x es → IsIn x fs) → IsEntered l d es → IsEntered l d fs
entered_within l d es fs f h =
    record { tick = h.tick; task = h.task; kind = h.kind; shield = h.shield; entered = f _ h.entered }

-- an event of a story enters what its log has a deadline of that cancels it
deadline_event : (me : Label) (s : Story) (l : Label) (f : ℕ) → deadline_of l (erased_log s) ≡ Some (Some f) → IsEntered l (Some f) (events_of me s)
deadline_event me no_more l f h = absurd (cc)
deadline_event me (happened t what rest) l f h =
    by_first (deadline_past l f t what (erased_log rest) h) (deadline_event me rest l f)
  where
    by_first : EntersIt l (Some f) what ⊎ (deadline_of l (erased_log rest) ≡ Some (Some f)) →
        (deadline_of l (erased_log rest) ≡ Some (Some f) → IsEntered l (Some f) (events_of me rest)) → IsEntered l (Some f) (events_of me (happened t what rest))
    by_first (inl e) g =
        record { tick = t; task = me; kind = e.0; shield = e.1; entered = inl (ap (λ (w : Happening). event t me (happens w)) e.2) }
    by_first (inr e) g = entered_within l (Some f) (events_of me rest) (events_of me (happened t what rest)) (λ x i. inr i) (g e)
deadline_event me (started m home part s u exc own rest) l f h =
    by_own (deadline_of l (erased_log own)) refl
    (sym (ap (λ (o : Option Tick). either o (deadline_of l (erased_log rest))) own_part) ∙ h) (deadline_event m own l f)
    (deadline_event me rest l f)
  where
    own_part : deadline_of l (followed_by (erased_log own) (sign_if exc home u)) ≡ deadline_of l (erased_log own)
    own_part =
        deadline_followed l (erased_log own) (sign_if exc home u)
        ∙ (ap (λ (o : Option Tick). either (deadline_of l (erased_log own)) o) (sign_deadline l exc home u)
        ∙ either_nothing (deadline_of l (erased_log own)))

    by_own : (o : Option Tick) → deadline_of l (erased_log own) ≡ o → either o (deadline_of l (erased_log rest)) ≡ Some (Some f) →
        (deadline_of l (erased_log own) ≡ Some (Some f) → IsEntered l (Some f) (events_of m own)) →
        (deadline_of l (erased_log rest) ≡ Some (Some f) → IsEntered l (Some f) (events_of me rest)) →
        IsEntered l (Some f) (events_of me (started m home part s u exc own rest))
    by_own None is k f_own g =
        entered_within l (Some f) (events_of me rest) (events_of me (started m home part s u exc own rest))
        (λ x i. inr (append_right x (events_of m own) (event u m (ends home exc) ∷ events_of me rest) (inr i))) (g k)
    by_own (Some x) is k f_own g =
        entered_within l (Some f) (events_of m own) (events_of me (started m home part s u exc own rest))
        (λ x i. inr (append_left x (events_of m own) (event u m (ends home exc) ∷ events_of me rest) i)) (f_own (is ∙ k))

-- ---- the events of a sign

-- an event of this moment is a cause for the label
abbrev Signed : Label → ℕ → List Event → Type 0
Signed l u es = (x : Event) × IsIn x es × (x.tick ≡ u) × (c : Cause) × (cause_in l x.tick x.task x.what ≡ Some c)

lines_sign : (l : Label) (t : ℕ) (lines : List Span) → least_sign l (log_of_lines t lines) ≡ None
lines_sign l t [] = refl
lines_sign l t (x ∷ xs) = lines_sign l t xs

sign_past : (l : Label) (u t : ℕ) (me : Label) (what : Happening) (r : Log) → least_sign l (erased_one t what r) ≡ Some u →
    ((t ≡ u) × (c : Cause) × (cause_in l t me (happens what) ≡ Some c)) ⊎ (least_sign l r ≡ Some u)
sign_past l u t me (finds lines) r h =
    inr (sym (least_followed l (log_of_lines t lines) r ∙ ap (λ (o : Tick). earlier o (least_sign l r)) (lines_sign l t lines)) ∙ h)
sign_past l u t me (cancels None) r h = inr h
sign_past l u t me (cancels (Some m)) r h = by_test (same_label l m) h
  where
    by_test : (b : Bool) → earlier (tick_if b t) (least_sign l r) ≡ Some u →
        ((t ≡ u) × (c : Cause) × ((if b then Some (by_task me t) else None) ≡ Some c)) ⊎ (least_sign l r ≡ Some u)
    by_test true k = by_earlier (earlier_is (Some t) (least_sign l r) u k)
      where
        by_earlier : (Some t ≡ Some u) ⊎ (least_sign l r ≡ Some u) →
            ((t ≡ u) × (c : Cause) × (Some (by_task me t) ≡ Some c)) ⊎ (least_sign l r ≡ Some u)
        by_earlier (inl e) = inl (some_is t u e, by_task me t, refl)
        by_earlier (inr e) = inr e
    by_test false k = inr k
sign_past l u t me (sets None) r h = inr h
sign_past l u t me (sets (Some m)) r h = by_test (same_label l m) h
  where
    by_test : (b : Bool) → earlier (tick_if b t) (least_sign l r) ≡ Some u →
        ((t ≡ u) × (c : Cause) × ((if b then Some (by_set me t) else None) ≡ Some c)) ⊎ (least_sign l r ≡ Some u)
    by_test true k = by_earlier (earlier_is (Some t) (least_sign l r) u k)
      where
        by_earlier : (Some t ≡ Some u) ⊎ (least_sign l r ≡ Some u) →
            ((t ≡ u) × (c : Cause) × (Some (by_set me t) ≡ Some c)) ⊎ (least_sign l r ≡ Some u)
        by_earlier (inl e) = inl (some_is t u e, by_set me t, refl)
        by_earlier (inr e) = inr e
    by_test false k = inr k
sign_past l u t me (gets ask label None) r h = inr h
sign_past l u t me (gets ask label (Some asked)) r h = inr h
sign_past l u t me (finds_closed ask label None) r h = inr h
sign_past l u t me (finds_closed ask label (Some asked)) r h = inr h
sign_past l u t me (closes_channel None) r h = inr h
sign_past l u t me (closes_channel (Some label)) r h = inr h
sign_past l u t me (waits nursery None) r h = inr h
sign_past l u t me (waits nursery (Some exc)) r h = by_test (same_label l nursery) h
  where
    by_test : (b : Bool) → earlier (tick_if b t) (least_sign l r) ≡ Some u →
        ((t ≡ u) × (c : Cause) × (cause_if b (Some exc) me t ≡ Some c)) ⊎ (least_sign l r ≡ Some u)
    by_test true k = by_earlier (earlier_is (Some t) (least_sign l r) u k)
      where
        by_earlier : (Some t ≡ Some u) ⊎ (least_sign l r ≡ Some u) →
            ((t ≡ u) × (c : Cause) × (Some (cause_by exc me t) ≡ Some c)) ⊎ (least_sign l r ≡ Some u)
        by_earlier (inl e) = inl (some_is t u e, cause_by exc me t, refl)
        by_earlier (inr e) = inr e
    by_test false k = inr k
sign_past l u t me _ r h = inr h

sign_end : (l : Label) (u t : ℕ) (m : Label) (exc : Option Exc) (home : Option Label) → least_sign l (sign_if exc home t) ≡ Some u →
    (t ≡ u) × (c : Cause) × (cause_if (is_label l home) exc m t ≡ Some c)
sign_end l u t m None home h = absurd (cc)
sign_end l u t m (Some e) None h = absurd (cc)
sign_end l u t m (Some e) (Some k) h = by_test (same_label l k) h
  where
    by_test : (b : Bool) → earlier (tick_if b t) None ≡ Some u → (t ≡ u) × (c : Cause) × (cause_if b (Some e) m t ≡ Some c)
    by_test true h = (some_is t u h, cause_by e m t, refl)
    by_test false h = absurd (cc)

signed_within : (l : Label) (u : ℕ) (es fs : List Event) → ((x : Event) → IsIn x es → IsIn x fs) → Signed l u es → Signed l u fs
signed_within l u es fs f h = (h.0, f h.0 h.1, h.2, h.3, h.4)

-- an event of a story is a cause for what its log signs
sign_event : (me : Label) (s : Story) (l : Label) (u : ℕ) → least_sign l (erased_log s) ≡ Some u → Signed l u (events_of me s)
sign_event me no_more l u h = absurd (cc)
sign_event me (happened t what rest) l u h = by_first (sign_past l u t me what (erased_log rest) h) (sign_event me rest l u)
  where
    by_first : ((t ≡ u) × (c : Cause) × (cause_in l t me (happens what) ≡ Some c)) ⊎ (least_sign l (erased_log rest) ≡ Some u) →
        (least_sign l (erased_log rest) ≡ Some u → Signed l u (events_of me rest)) → Signed l u (events_of me (happened t what rest))
    by_first (inl e) f = (event t me (happens what), inl refl, e.0, e.1, e.2)
    by_first (inr e) f = signed_within l u (events_of me rest) (events_of me (happened t what rest)) (λ x i. inr i) (f e)
sign_event me (started m home part s v exc own rest) l u h =
    by_part (earlier_is (least_sign l (followed_by (erased_log own) (sign_if exc home v))) (least_sign l (erased_log rest)) u h)
    (sign_event m own l u) (sign_event me rest l u)
  where
    by_own : (least_sign l (erased_log own) ≡ Some u) ⊎ (least_sign l (sign_if exc home v) ≡ Some u) →
        (least_sign l (erased_log own) ≡ Some u → Signed l u (events_of m own)) → Signed l u (events_of me (started m home part s v exc own rest))
    by_own (inl e) f =
        signed_within l u (events_of m own) (events_of me (started m home part s v exc own rest))
        (λ x i. inr (append_left x (events_of m own) (event v m (ends home exc) ∷ events_of me rest) i)) (f e)
    by_own (inr e) f =
        let is = sign_end l u v m exc home e in (
          event v m (ends home exc),
          inr (append_right (event v m (ends home exc)) (events_of m own) (event v m (ends home exc) ∷ events_of me rest) (inl refl)),
          is.0,
          is.1,
          is.2,
        )

    by_part : (least_sign l (followed_by (erased_log own) (sign_if exc home v)) ≡ Some u) ⊎ (least_sign l (erased_log rest) ≡ Some u) →
        (least_sign l (erased_log own) ≡ Some u → Signed l u (events_of m own)) →
        (least_sign l (erased_log rest) ≡ Some u → Signed l u (events_of me rest)) →
        Signed l u (events_of me (started m home part s v exc own rest))
    by_part (inl e) f g =
        by_own (earlier_is (least_sign l (erased_log own)) (least_sign l (sign_if exc home v)) u
        (sym (least_followed l (erased_log own) (sign_if exc home v)) ∙ e)) f
    by_part (inr e) f g =
        signed_within l u (events_of me rest) (events_of me (started m home part s v exc own rest))
        (λ x i. inr (append_right x (events_of m own) (event v m (ends home exc) ∷ events_of me rest) (inr i))) (g e)

-- ---- what a search finds

or_first : (o p : Option Cause) → is_some o ≡ true → is_some (or_later o p) ≡ true
or_first None p h = let clash : false ≡ true = h in absurd (cc)
or_first (Some c) p h = refl

or_second : (o p : Option Cause) → is_some p ≡ true → is_some (or_later o p) ≡ true
or_second None p h = h
or_second (Some c) p h = refl

signed_found : (l : Label) (from : ℕ) (es : List Event) (x : Event) (c : Cause) → IsIn x es → x.tick + 1 ≡ from →
    cause_in l x.tick x.task x.what ≡ Some c → is_some (signed_by l from es) ≡ true
signed_found l from [] x c i at is = absurd i
signed_found l from (y ∷ ys) x c (inl same) at is =
    or_first (if y.tick + 1 == from then cause_in l y.tick y.task y.what else None) (signed_by l from ys)
    (by_test (y.tick + 1 == from) (due (y.tick + 1) from (ap (λ (e : Event). e.tick + 1) (sym same) ∙ at)))
  where
    due : (m n : ℕ) → m ≡ n → (m == n) ≡ true
    due m n e = grind (arith, nat_tests)

    by_test : (b : Bool) → b ≡ true → is_some (if b then cause_in l y.tick y.task y.what else None) ≡ true
    by_test true e =
        ap (λ (o : Option Cause). is_some o) (ap (λ (e : Event). cause_in l e.tick e.task e.what) (sym same) ∙ is)
    by_test false e = absurd (true≢false (sym e))
signed_found l from (y ∷ ys) x c (inr i) at is =
    or_second (if y.tick + 1 == from then cause_in l y.tick y.task y.what else None) (signed_by l from ys)
    (signed_found l from ys x c i at is)

entering_first : (l : Label) (w : What) (kind : Kind) (d : Tick) (shield : Bool) (other : Option Entering) →
    happens (enters kind l d shield) ≡ w → is_some (entering_by l w other) ≡ true
entering_first l w kind d shield other e =
    subst (λ (v : What). is_some (entering_by l v other) ≡ true) e (by_test (same_label l l) (same_label_itself l))
  where
    by_test : (b : Bool) → b ≡ true → is_some (if b then Some (let y : Entering = record { kind = kind; deadline = d } in y) else other) ≡ true
    by_test true h = refl
    by_test false h = absurd (true≢false (sym h))

entering_second : (l : Label) (w : What) (other : Option Entering) → is_some other ≡ true → is_some (entering_by l w other) ≡ true
entering_second l (happens (enters kind label d shield)) other h = by_test (same_label l label)
  where
    by_test : (b : Bool) → is_some (if b then Some (let y : Entering = record { kind = kind; deadline = d } in y) else other) ≡ true
    by_test true = refl
    by_test false = h
entering_second l _ other h = h

pub entering_found : (l : Label) (es : List Event) (x : Event) (kind : Kind) (d : Tick) (shield : Bool) → IsIn x es →
    happens (enters kind l d shield) ≡ x.what → is_some (entering_of l es) ≡ true
entering_found l [] x kind d shield i is = absurd i
entering_found l (y ∷ ys) x kind d shield (inl same) is =
    entering_first l y.what kind d shield (entering_of l ys) (is ∙ ap (λ (e : Event). e.what) same)
entering_found l (y ∷ ys) x kind d shield (inr i) is =
    entering_second l y.what (entering_of l ys) (entering_found l ys x kind d shield i is)

by_sign : (entered : Option Entering) (l : Label) (from : ℕ) (es : List Event) → is_some (signed_by l from es) ≡ true →
    is_some (cause_by_entering entered l from es) ≡ true
by_sign None l from es h = h
by_sign (Some x) l from es h = by_test (is_from x.deadline from)
  where
    by_test : (b : Bool) → is_some (if b then Some by_deadline else signed_by l from es) ≡ true
    by_test true = refl
    by_test false = h

by_due : (entered : Option Entering) (l : Label) (from : ℕ) (es : List Event) → is_some entered ≡ true →
    ((x : Entering) → entered ≡ Some x → x.deadline ≡ Some from) → is_some (cause_by_entering entered l from es) ≡ true
by_due None l from es h f = let clash : false ≡ true = h in absurd (cc)
by_due (Some x) l from es h f =
    by_test (is_from x.deadline from) (ap (λ (d : Tick). is_from d from) (f x refl) ∙ is_from_itself from)
  where
    by_test : (b : Bool) → b ≡ true → is_some (if b then Some by_deadline else signed_by l from es) ≡ true
    by_test true e = refl
    by_test false e = absurd (true≢false (sym e))

-- ---- the story of a job

module _ (k : Tables) (job : Tree) (input : List ℕ) where
  abbrev pub own_log : Log
  own_log = erased_log (tale_by k job input).story

  abbrev pub walked : List Event
  walked = events_of (root_label job.name) (story_by k job input)

  module _ (once : GivesNamesOnce job) (settled : IsSettled k.cancelled_from k.granted job input) where
    log_is : own_log ≡ (follow k.cancelled_from k.granted job input).log
    log_is = ap (λ (r : Result). r.log) (telling_is_following k job input)

    own_once : GivesOnce own_log
    unfolding follow
    own_once = subst GivesOnce (sym log_is) (job_gives_once (by_tables k) job input once)

    -- the events of the root are its start, those of its own story, and its end
    from_own : (x : Event) → IsIn x (events_of (root_label job.name) (tale_by k job input).story) → IsIn x walked
    from_own x i = inr (append_left x (events_of (root_label job.name) (tale_by k job input).story) _ i)

    root_entered : (l : Label) (d : Tick) (t : ℕ) (who : Label) (kind : Kind) (shield : Bool) →
        IsIn (event t who (happens (enters kind l d shield))) walked → EnteredIn l d own_log
    root_entered l d t who kind shield (inl e) = absurd (no_start (enters kind l d shield) _ _ (ap (λ (x : Event). x.what) e))
    root_entered l d t who kind shield (inr i) = by_part (in_append _ (events_of (root_label job.name) (tale_by k job input).story) _ i)
      where
        by_part : IsIn (event t who (happens (enters kind l d shield))) (events_of (root_label job.name) (tale_by k job input).story)
            ⊎ IsIn (event t who (happens (enters kind l d shield)))
            (event (tale_by k job input).end (root_label job.name) (ends None (tale_by k job input).exc) ∷ []) → EnteredIn l d own_log
        by_part (inl j) = event_entered (root_label job.name) (tale_by k job input).story l d t who kind shield j
        by_part (inr (inl e)) = absurd (no_end (enters kind l d shield) _ _ (ap (λ (x : Event). x.what) e))
        by_part (inr (inr j)) = absurd j

    -- some events of the story: those that are read
    module _ (es : List Event) (within : (x : Event) → IsIn x es → IsIn x walked) where
      -- a label has one deadline in the log and in the events
      one_deadline : (l : Label) (d : Tick) (x : Entering) → deadline_of l own_log ≡ Some d → entering_of l es ≡ Some x → x.deadline ≡ d
      one_deadline l d x is found =
          let e = entering_is l es x found in
          some_is x.deadline d
          (sym (entered_deadline l x.deadline own_log own_once
          (root_entered l x.deadline e.tick e.task e.kind e.shield (within _ e.entered)))
          ∙ is)

      -- A label that is cancelled has a cause in these events, if they have all of the moment before, and the entering of the label if that has
      -- a deadline which cancels it.
      pub cause_among : (l : Label) (from : ℕ) → k.cancelled_from l ≡ Some from → ((x : Event) → IsIn x walked → x.tick + 1 ≡ from → IsIn x es) →
          (deadline_of l own_log ≡ Some (Some from) → is_some (entering_of l es) ≡ true) → is_some (cause_of k.cancelled_from es l) ≡ true
      cause_among l from in_table before enters_it =
          ap (λ (f : Tick). is_some (cause_from f l es)) in_table
          ∙ by_deadline_of (deadline_of l own_log) refl
          (ap (λ (log : Log). entered_from (deadline_of l log) (least_sign l log)) log_is ∙ (sym (settled.froms l) ∙ in_table))
        where
          signed : (s : Tick) → least_sign l own_log ≡ s → next s ≡ Some from → is_some (cause_by_entering (entering_of l es) l from es) ≡ true
          signed None is h = absurd (cc)
          signed (Some u) is h =
              let e = sign_event (root_label job.name) (tale_by k job input).story l u is in
              let at : e.0.tick + 1 ≡ from = ap (λ (n : ℕ). n + 1) e.2 ∙ some_is (u + 1) from h in
              by_sign (entering_of l es) l from es (signed_found l from es e.0 e.3 (before e.0 (from_own e.0 e.1) at) at e.4)

          by_either : (d : Tick) → deadline_of l own_log ≡ Some d → (d ≡ Some from) ⊎ (next (least_sign l own_log) ≡ Some from) →
              is_some (cause_by_entering (entering_of l es) l from es) ≡ true
          by_either d is (inl e) =
              let due : deadline_of l own_log ≡ Some (Some from) = is ∙ ap (λ (y : Tick). Some y) e in
              by_due (entering_of l es) l from es (enters_it due) (λ x found. one_deadline l (Some from) x due found)
          by_either d is (inr e) = signed (least_sign l own_log) refl e

          by_deadline_of : (o : Option Tick) → deadline_of l own_log ≡ o → entered_from o (least_sign l own_log) ≡ Some from →
              is_some (cause_by_entering (entering_of l es) l from es) ≡ true
          by_deadline_of None is h = absurd (cc)
          by_deadline_of (Some d) is h = by_either d is (earlier_is d (next (least_sign l own_log)) from h)

    cause_there : (l : Label) (from : ℕ) → k.cancelled_from l ≡ Some from → is_some (cause_of k.cancelled_from (job_events k job input) l) ≡ true
    cause_there l from in_table =
        cause_among (job_events k job input) (λ x i. from_order x walked i) l from in_table (λ x i at. to_order x walked i)
        (λ is.
        let e = deadline_event (root_label job.name) (tale_by k job input).story l from is in
        entering_found l (job_events k job input) _ e.kind (Some from) e.shield (to_order _ walked (from_own _ e.entered)) refl)

pub cancelled_from_has_causes : CancelledFromHasCauses
cancelled_from_has_causes k job input l from once settled in_table = cause_there k job input once settled l from in_table

-- ---- the cancellations of a story

-- what holds of the scope or nursery that a cancellation names: a task that does not ask need not name one
abbrev pub IfNamed : (Option Label → Type 0) → Option Label → During → Type 0
IfNamed P None (before_asking ask label) = Unit {0}
IfNamed P by during = P by

pub if_some : (P : Option Label → Type 0) (by : Option Label) (during : During) (l : Label) → by ≡ Some l → P by → IfNamed P by during
if_some P None during l e h = absurd (cc)
if_some P (Some m) during l e h = h

pub if_named : (P Q : Option Label → Type 0) → ((by : Option Label) → P by → Q by) → (by : Option Label) (during : During) →
    IfNamed P by during → IfNamed Q by during
if_named P Q f None at_checkpoint h = f None h
if_named P Q f None (sleeping since) h = f None h
if_named P Q f None (waiting_for label since) h = f None h
if_named P Q f None (in_queue ask label since) h = f None h
if_named P Q f None (before_asking ask label) h = tt
if_named P Q f (Some l) during h = f (Some l) h

pub cause_for : (table : Table) (all : List Event) (by : Option Label) (during : During) → IfNamed (IsCaused table all) by during →
    HasACauseFor table all by during
cause_for table all None at_checkpoint h = h
cause_for table all None (sleeping since) h = h
cause_for table all None (waiting_for label since) h = h
cause_for table all None (in_queue ask label since) h = h
cause_for table all None (before_asking ask label) h = tt
cause_for table all (Some l) during h = h

-- a cancellation names a label that the table cancels
abbrev IsNamedBy : Table → Option Label → Type 0
IsNamedBy table by = (l : Label) × (by ≡ Some l) × (from : ℕ) × (table l ≡ Some from)

abbrev IsNamed : Table → What → Type 0
IsNamed table (happens (is_cancelled by during in_cleanup)) = IfNamed (IsNamedBy table) by during
IsNamed table _ = Unit {0}

named_for : (table : Table) (st : Levels) (t : ℕ) (by : Option Label) (during : During) → IsBlamedFor table st t by during →
    IfNamed (IsNamedBy table) by during
named_for table st t by at_checkpoint b = if_some (IsNamedBy table) by at_checkpoint b.label b.named (b.label, b.named, b.from, b.in_table)
named_for table st t by (sleeping since) b =
    if_some (IsNamedBy table) by (sleeping since) b.label b.named (b.label, b.named, b.from, b.in_table)
named_for table st t by (waiting_for label since) b =
    if_some (IsNamedBy table) by (waiting_for label since) b.label b.named (b.label, b.named, b.from, b.in_table)
named_for table st t by (in_queue ask label since) b =
    if_some (IsNamedBy table) by (in_queue ask label since) b.label b.named (b.label, b.named, b.from, b.in_table)
named_for table st t None (before_asking ask label) b = tt
named_for table st t (Some l) (before_asking ask label) b = (b.label, b.named, b.from, b.in_table)

one_named : (table : Table) (st : Levels) (t : ℕ) (what : Happening) → IsBlamedIn table st t what → IsNamed table (happens what)
one_named table st t (is_cancelled by during in_cleanup) b = named_for table st t by during b
one_named table st t _ b = tt

all_named : (table : Table) (st : Levels) (me : Label) (s : Story) → AllBlamed table st s → (x : Event) → IsIn x (events_of me s) →
    IsNamed table x.what
all_named table st me no_more h x i = absurd i
all_named table st me (happened t what rest) h x (inl e) =
    subst (λ (y : Event). IsNamed table y.what) (sym e) (one_named table st t what h.0)
all_named table st me (happened t what rest) h x (inr i) = all_named table (open_after table what st) me rest h.1 x i
all_named table st me (started m home part s u exc own rest) h x (inl e) = subst (λ (y : Event). IsNamed table y.what) (sym e) tt
all_named table st me (started m home part s u exc own rest) h x (inr i) =
    by_part (in_append x (events_of m own) (event u m (ends home exc) ∷ events_of me rest) i) (all_named table st m own h.0 x)
    (all_named table st me rest h.1 x)
  where
    by_part : IsIn x (events_of m own) ⊎ IsIn x (event u m (ends home exc) ∷ events_of me rest) →
        (IsIn x (events_of m own) → IsNamed table x.what) → (IsIn x (events_of me rest) → IsNamed table x.what) → IsNamed table x.what
    by_part (inl j) f g = f j
    by_part (inr (inl e)) f g = subst (λ (y : Event). IsNamed table y.what) (sym e) tt
    by_part (inr (inr j)) f g = g j

pub cancellations_have_causes : CancellationsHaveCauses
cancellations_have_causes k job input once settled e i =
    by_what e.what
    (all_named k.cancelled_from [] (root_label job.name) (story_by k job input) (cancellations_are_seen k job input) e
    (from_order e (events_of (root_label job.name) (story_by k job input)) i))
  where
    all : List Event
    all = job_events k job input

    caused : (by : Option Label) → IsNamedBy k.cancelled_from by → IsCaused k.cancelled_from all by
    caused by h = (h.0, h.1, cause_there k job input once settled h.0 h.2 h.3)

    by_what : (w : What) → IsNamed k.cancelled_from w → HasACause k.cancelled_from all w
    by_what (happens (is_cancelled by during in_cleanup)) h =
        cause_for k.cancelled_from all by during
        (if_named (IsNamedBy k.cancelled_from) (IsCaused k.cancelled_from all) caused by during h)
    by_what _ h = tt
