-- What is noted after one more event.
use Rattle.std.proofs.Common.{◌≡◌, ◌<◌, ℕ, suc, ◌+◌, refl, subst, sym, ap, ◌∙◌, length, map, drop, get_or, cond}
use Rattle.std.specs.Prelude.{Bool, true, false, ◌&&◌, ◌==◌, Option, Some, None, is_some, List, [], ◌∷◌, nat_eq, if◌then◌else◌}
use Rattle.std.specs.Bool.{beq}
use Rattle.std.specs.Borrow.{Bor}
use Rattle.std.specs.Cmp.{bool_eq_equiv}
use Rattle.std.specs.Option.{option_map, option_or}
use Rattle.std.proofs.lemmas.Bool.{eqb-true}
use Rattle.std.proofs.lemmas.Cmp.{nat_eq_equiv}
use Rattle.std.proofs.Math.Seq.{drop-cons}
use Rattle.indexmap.specs.IndexMap.{IndexMap, Updates, get_by}
use Rattle.exceptions.specs.Exceptions.{Label}
use Rattle.exceptions.specs.Labels.{same_label_equiv}
use Rattle.job_meaning.specs.Log.{same_label}
use Rattle.job_story.specs.Events as story_events
use Rattle.job_story.specs.Notes as notes
use Rattle.job_story.specs.Notes.{Turn, is_noted_as, joins_by, same_joining, note_by, noted_in, number_in}
use Rattle.job_story.specs.declared.event.Event.{Event}
use Rattle.story_waits.specs.Noted.{note_in}
use Rattle.story_waits.specs.QueueNotes.{noted_at, noted_by}
use Rattle.story_index.specs.Seen.{event_in}
use Rattle.story_waits.specs.declared.note.Note.{Note}
use Rattle.story_waits.specs.declared.queue_notes.Asker.{Asker}
use Rattle.story_index.proofs.LabelLemmas.{both, same_label_is}
use Rattle.story_index.proofs.Noted.{at_some}
use Rattle.story_index.proofs.Puts.{first_elsewhere}
use Rattle.story_waits.proofs.TurnLemmas.{next}

abbrev pub same_asker : Asker → Asker → Bool
same_asker x y = beq x.joins y.joins && (same_label x.task.now y.task.now && nat_eq x.moment y.moment)

bool_same : (a b : Bool) → beq a b ≡ true → a ≡ b
bool_same true true same = refl
bool_same true false same = let clash : false ≡ true = same in cc
bool_same false true same = let clash : false ≡ true = same in cc
bool_same false false same = refl

-- where two askers are the same, a map has the same for both
same_there : {V S : Type 0} (map_ : IndexMap Asker V S) (x y : Asker) → same_asker x y ≡ true →
    get_by (same_asker x) map_ ≡ get_by (same_asker y) map_
same_there map_ x y same =
    let parts = both (beq x.joins y.joins) (same_label x.task.now y.task.now && nat_eq x.moment y.moment) same in
    let others = both (same_label x.task.now y.task.now) (nat_eq x.moment y.moment) parts.1 in
    ap (λ b. get_by (λ m. beq b m.joins && (same_label x.task.now m.task.now && nat_eq x.moment m.moment)) map_) (bool_same x.joins y.joins parts.0)
    ∙ ap (λ (l : Label). get_by (λ m. beq y.joins m.joins && (same_label l m.task.now && nat_eq x.moment m.moment)) map_)
    (same_label_is x.task.now y.task.now others.0)
    ∙ ap (λ n. get_by (λ m. beq y.joins m.joins && (same_label y.task.now m.task.now && nat_eq n m.moment)) map_)
    (eqb-true x.moment y.moment others.1)

-- what is noted of an event is what a map has for its task and moment
pub note_found : {S : Type 0} (map_ : IndexMap Asker (Option Note) S) (x : Asker) (e : story_events.Event) → e.task ≡ x.task.now →
    e.tick ≡ x.moment → joins_by e.what ≡ Some x.joins → noted_at map_ e ≡ option_map (option_map note_in) (get_by (same_asker x) map_)
note_found map_ x e task tick joins =
    ap (noted_by map_ e.task e.tick) joins ∙ ap (λ (l : Label). noted_by map_ l e.tick (Some x.joins)) task
    ∙ ap (λ n. noted_by map_ x.task.now n (Some x.joins)) tick

first_by : {V : Type 0} (o : Option V) (v : V) → is_some o ≡ false → Some v ≡ option_or o (Some v)
first_by None v none = refl
first_by (Some x) v none = let clash : true ≡ false = none in cc

put_by : {V : Type 0} (b : Bool) (here there : Option V) (v : V) → (b ≡ true → here ≡ there) → is_some here ≡ false →
    cond b (Some v) there ≡ option_or there (if b then Some v else None)
put_by true here there v is none = first_by there v (ap is_some (sym (is refl)) ∙ none)
put_by false here there v is none = first_elsewhere there

mapped_by : {V W : Type 0} (f : V → W) (o : Option V) (b : Bool) (v : V) →
    option_map f (option_or o (if b then Some v else None)) ≡ option_or (option_map f o) (if b then Some (f v) else None)
mapped_by f None true v = refl
mapped_by f None false v = refl
mapped_by f (Some x) b v = refl

-- an event that is noted for the first time is noted, and every other as before
pub note_put : {S : Type 0} (old new : IndexMap Asker (Option Note) S) (x : Asker) (note : Option Note) (noted : story_events.Event) →
    Updates same_asker old new x (Some note) → is_some (get_by (same_asker x) old) ≡ false →
    noted.task ≡ x.task.now → noted.tick ≡ x.moment → joins_by noted.what ≡ Some x.joins →
    (e : story_events.Event) → noted_at new e ≡ option_or (noted_at old e) (if is_noted_as e noted then Some (option_map note_in note) else None)
note_put {S} old new x note noted updates none task tick joins e = by_joining (joins_by e.what)
  where
    by_joining : (o : Option Bool) → noted_by new e.task e.tick o ≡ option_or (noted_by old e.task e.tick o)
        (if same_joining o (joins_by noted.what) && (same_label e.task noted.task && (e.tick == noted.tick)) then Some (option_map note_in note) else None)
    by_joining None = refl
    by_joining (Some b) =
        let y : Asker = record { joins = b; task = at_some e.task; moment = e.tick } in
        ap (option_map (option_map note_in))
        (updates.0 y ∙ put_by (same_asker x y) (get_by (same_asker x) old) (get_by (same_asker y) old) note (same_there old x y) none)
        ∙ mapped_by (option_map note_in) (get_by (same_asker y) old) (same_asker x y) note
        ∙ ap (λ t. option_or (noted_by old e.task e.tick (Some b)) (if t then Some (option_map note_in note) else None))
        (ap (λ t. t && (same_label x.task.now e.task && nat_eq x.moment e.tick)) (bool_eq_equiv.symm x.joins b)
        ∙ ap (λ t. beq b x.joins && (t && nat_eq x.moment e.tick)) (same_label_equiv.symm x.task.now e.task)
        ∙ ap (λ t. beq b x.joins && (same_label e.task x.task.now && t)) (nat_eq_equiv.symm x.moment e.tick)
        ∙ ap (λ (l : Label). beq b x.joins && (same_label e.task l && nat_eq e.tick x.moment)) (sym task)
        ∙ ap (λ n. beq b x.joins && (same_label e.task noted.task && nat_eq e.tick n)) (sym tick)
        ∙ ap (λ o. same_joining (Some b) o && (same_label e.task noted.task && nat_eq e.tick noted.tick)) (sym joins))

or_assoc : {V : Type 0} (a b c : Option V) → option_or (option_or a b) c ≡ option_or a (option_or b c)
or_assoc None b c = refl
or_assoc (Some x) b c = refl

if_or : {V : Type 0} (b : Bool) (v : V) (o : Option V) → option_or (if b then Some v else None) o ≡ (if b then Some v else o)
if_or true v o = refl
if_or false v o = refl

-- what is noted of the events so far, and of the others
pub noted_more : (walked : List story_events.Event) (served : List Turn) (i : ℕ) (xs : List (Bor Event)) (x : Bor Event)
    (old new all : story_events.Event → Option (Option notes.Note)) → i < length xs → x ≡ get_or xs i x →
    ((e : story_events.Event) → new e ≡ option_or (old e)
    (if is_noted_as e (event_in x) then Some (note_by walked served (number_in [] i served) (event_in x).what) else None)) →
    ((e : story_events.Event) → option_or (old e) (noted_in walked served i (map event_in (drop i xs)) e) ≡ all e) →
    (e : story_events.Event) → option_or (new e) (noted_in walked served (i + 1) (map event_in (drop (i + 1) xs)) e) ≡ all e
noted_more walked served i xs x old new all lt at more h e =
    let note = note_by walked served (number_in [] i served) (event_in x).what in
    subst (λ n. option_or (new e) (noted_in walked served (i + 1) (map event_in (drop n xs)) e) ≡ all e) (next i)
    (let rest = noted_in walked served (i + 1) (map event_in (drop (suc i) xs)) e in
    ap (λ o. option_or o rest) (more e) ∙ or_assoc (old e) _ rest ∙ ap (option_or (old e)) (if_or (is_noted_as e (event_in x)) note rest)
    ∙ ap (λ (y : Bor Event). option_or (old e) (noted_in walked served i (event_in y ∷ map event_in (drop (suc i) xs)) e)) at
    ∙ ap (λ es. option_or (old e) (noted_in walked served i (map event_in es) e)) (sym (drop-cons xs i x lt)) ∙ h e)
