-- What the index contains after an event is recorded.
use Rattle.std.proofs.Common.{◌≡◌, refl, sym, ap, ◌∙◌, cond}
use Rattle.std.specs.Prelude.{Bool, true, false, Option, Some, None, List, [], ◌∷◌, ◌++◌, map, is_some, IsSome, if◌then◌else◌}
use Rattle.std.specs.Option.{option_map, option_or}
use Rattle.std.specs.Borrow.{Bor}
use Rattle.std.specs.Global.{Vec}
use Rattle.indexmap.specs.IndexMap.{IndexMap, Updates, UpdatesBy, get_by}
use Rattle.exceptions.specs.Exceptions.{Label}
use Rattle.exceptions.specs.Labels.{same_label_equiv}
use Rattle.job_meaning.specs.Log.{same_label}
use Rattle.job_story.specs.declared.event.Event.{Event}
use Rattle.story_index.specs.Seen.{event_in}
use Rattle.story_index.proofs.LabelLemmas.{same_label_is}
use Rattle.story_index.proofs.Puts.{put_there}
use Rattle.chart.specs.HeldBars.{items_of, events_at, event_at}

-- a label at some place
abbrev at_some : Label → Bor Label
at_some l = record { ref_ptr = (0, 0); now = l }

nothing_more : {A : Type 0} (xs : List A) → xs ≡ xs ++ []
nothing_more [] = refl
nothing_more (x ∷ xs) = ap (λ ys. x ∷ ys) (nothing_more xs)

one_more : {A B : Type 0} (f : A → B) (xs : List A) (x : A) → map f (xs ++ x ∷ []) ≡ map f xs ++ f x ∷ []
one_more f [] x = refl
one_more f (y ∷ ys) x = ap (λ zs. f y ∷ zs) (one_more f ys x)

-- a task has one more event, and every other what it had
noted_by : (b : Bool) (at : Label → Option (Vec (Bor Event))) (k l : Label) (now : Vec (Bor Event)) (e : Bor Event) →
    same_label k l ≡ b → now.items ≡ items_of (at k) ++ e ∷ [] →
    map event_in (items_of (cond b (Some now) (at l))) ≡ map event_in (items_of (at l)) ++ (if b then event_in e ∷ [] else [])
noted_by true at k l now e same more =
    ap (map event_in) more ∙ one_more event_in (items_of (at k)) e
    ∙ ap (λ m. map event_in (items_of (at m)) ++ event_in e ∷ []) (same_label_is k l same)
noted_by false at k l now e same more = nothing_more (map event_in (items_of (at l)))

-- the same for a look-up of each task
events_more : {S : Type 0} (old new : IndexMap (Bor Label) (Vec (Bor Event)) S) (k : Label) (now : Vec (Bor Event)) (e : Bor Event) →
    ((q : Bor Label) →
    get_by (λ m. same_label q.now m.now) new ≡ cond (same_label k q.now) (Some now) (get_by (λ m. same_label q.now m.now) old)) →
    now.items ≡ items_of (get_by (λ m. same_label k m.now) old) ++ e ∷ [] →
    (l : Label) → events_at new l ≡ events_at old l ++ (if same_label l k then event_in e ∷ [] else [])
events_more old new k now e updates more l =
    ap (λ o. map event_in (items_of o)) (updates (at_some l))
    ∙ noted_by (same_label k l) (λ m. get_by (λ n. same_label m n.now) old) k l now e refl more
    ∙ ap (λ b. events_at old l ++ (if b then event_in e ∷ [] else [])) (same_label_equiv.symm k l)

-- an event that is appended to those of its task
pub event_written : {S : Type 0} (old new : IndexMap (Bor Label) (Vec (Bor Event)) S) (k : Label) (had now : Vec (Bor Event)) (e : Bor Event) →
    (IsSome (get_by (λ m. same_label k m.now) old) →
    UpdatesBy (λ x y. same_label x.now y.now) (λ m. same_label k m.now) old new (Some now)) →
    Some had ≡ get_by (λ m. same_label k m.now) old → now.items ≡ had.items ++ e ∷ [] →
    (l : Label) → events_at new l ≡ events_at old l ++ (if same_label l k then event_in e ∷ [] else [])
event_written old new k had now e updates there more l =
    events_more old new k now e (updates (ap is_some (sym there))).0 (more ∙ ap (λ o. items_of o ++ e ∷ []) there) l

-- an event that is inserted for a task that has none: the look-up that found none left the map unchanged
pub event_put : {S : Type 0} (old kept new : IndexMap (Bor Label) (Vec (Bor Event)) S) (k : Label) (none now : Vec (Bor Event)) (e : Bor Event) →
    kept ≡ old → UpdatesBy (λ x y. same_label x.now y.now) (λ m. same_label k m.now) kept new (Some now) →
    None ≡ get_by (λ m. same_label k m.now) old → none.items ≡ [] → now.items ≡ none.items ++ e ∷ [] →
    (l : Label) → events_at new l ≡ events_at old l ++ (if same_label l k then event_in e ∷ [] else [])
event_put old kept new k none now e stays updates there empty more l =
    events_more kept new k now e updates.0
    (more ∙ ap (λ es. es ++ e ∷ []) empty ∙ ap (λ o. items_of o ++ e ∷ []) (there ∙ ap (get_by (λ m. same_label k m.now)) (sym stays))) l
    ∙ ap (λ m. events_at m l ++ (if same_label l k then event_in e ∷ [] else [])) stays

-- what is appended to the events so far
seen_or : (o : Option (Bor Event)) (b : Bool) (e : Bor Event) →
    option_map event_in (option_or o (if b then Some e else None)) ≡ option_or (option_map event_in o) (if b then Some (event_in e) else None)
seen_or None true e = refl
seen_or None false e = refl
seen_or (Some x) b e = refl

-- an event at a label that had none is the first with which it is left
pub left_more : {S : Type 0} (old new : IndexMap (Bor Label) (Bor Event) S) (k : Bor Label) (e : Bor Event) (left : Label → Bool) →
    Updates (λ x y. same_label x.now y.now) old new k (Some e) → is_some (get_by (λ m. same_label k.now m.now) old) ≡ false →
    ((l : Label) → same_label l k.now ≡ left l) →
    (l : Label) → event_at new l ≡ option_or (event_at old l) (if left l then Some (event_in e) else None)
left_more old new k e left updates none same l =
    ap (option_map event_in) (put_there old new k e updates none l)
    ∙ seen_or (get_by (λ m. same_label l m.now) old) (same_label k.now l) e
    ∙ ap (λ b. option_or (event_at old l) (if b then Some (event_in e) else None)) (same_label_equiv.symm k.now l ∙ same l)
