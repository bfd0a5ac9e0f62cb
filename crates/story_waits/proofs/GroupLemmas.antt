-- What the groups have after a move was recorded.
use Rattle.std.proofs.Common.{◌≡◌, refl, sym, ap, ◌∙◌, cond}
use Rattle.std.specs.Prelude.{Bool, true, false, ◌&&◌, Option, Some, None, List, [], ◌∷◌, ◌++◌, is_some, IsSome, nat_eq, if◌then◌else◌}
use Rattle.std.specs.Borrow.{Bor}
use Rattle.std.specs.Global.{Vec}
use Rattle.indexmap.specs.IndexMap.{IndexMap, UpdatesBy, get_by}
use Rattle.exceptions.specs.Exceptions.{Label}
use Rattle.exceptions.specs.Labels.{same_label_equiv}
use Rattle.job_meaning.specs.Log.{same_label}
use Rattle.job_story.specs.Notes.{Turn, move_number, same_move, tasks_at}
use Rattle.story_waits.specs.Groups.{labels_in, labels_of, same_place}
use Rattle.story_waits.specs.Moves.{move_in, same_made, same_made_equiv}
use Rattle.story_waits.specs.declared.groups.MoveAt.{MoveAt}
use Rattle.story_waits.specs.declared.moves.Move.{Move}
use Rattle.std.proofs.lemmas.Bool.{eqb-true}
use Rattle.story_index.proofs.Noted.{at_some}
use Rattle.story_index.proofs.LabelLemmas.{both, same_label_is}

nothing_more : {A : Type 0} (xs : List A) → xs ≡ xs ++ []
nothing_more [] = refl
nothing_more (x ∷ xs) = ap (λ ys. x ∷ ys) (nothing_more xs)

one_more : (xs : List (Bor Label)) (x : Bor Label) → labels_in (xs ++ x ∷ []) ≡ labels_in xs ++ x.now ∷ []
one_more [] x = refl
one_more (y ∷ ys) x = ap (λ zs. y.now ∷ zs) (one_more ys x)

abbrev one_if : Bool → Label → List Label
one_if b l = if b then l ∷ [] else []

-- the tasks of a move after one more move
tasks_by : (b : Bool) (l : Label) (ls : List Label) → (if b then l ∷ ls else ls) ≡ one_if b l ++ ls
tasks_by true l ls = refl
tasks_by false l ls = refl

push_by : (b : Bool) (l : Label) (ls more : List Label) → (if b then l ∷ (ls ++ more) else (ls ++ more)) ≡ (if b then l ∷ ls else ls) ++ more
push_by true l ls more = refl
push_by false l ls more = refl

pub tasks_more : (object : Label) (made : Move) (xs : List Turn) (x : Turn) →
    tasks_at object (move_in made) (xs ++ x ∷ [])
    ≡ tasks_at object (move_in made) xs ++ one_if (same_label object x.object && same_move (move_in made) x.move) x.task
tasks_more object made [] x =
    tasks_by (same_label object x.object && same_move (move_in made) x.move) x.task [] ∙ sym (nothing_more _)
tasks_more object made (y ∷ ys) x =
    let b = same_label object y.object && same_move (move_in made) y.move in
    ap (λ ls. if b then y.task ∷ ls else ls) (tasks_more object made ys x) ∙ push_by b y.task (tasks_at object (move_in made) ys) _

-- ---- a map of moves

abbrev pub same_at : MoveAt → MoveAt → Bool
same_at x y = same_label x.object.now y.object.now && same_made x.made y.made

abbrev labels_at : {S : Type 0} → IndexMap MoveAt (Vec (Bor Label)) S → MoveAt → List Label
labels_at map_ x = labels_of (get_by (same_at x) map_)

-- where two moves are the same, a map has the same for both
same_labels : {S : Type 0} (map_ : IndexMap MoveAt (Vec (Bor Label)) S) (x y : MoveAt) → same_at x y ≡ true → labels_at map_ x ≡ labels_at map_ y
same_labels map_ x y same =
    let parts = both (same_label x.object.now y.object.now) (same_made x.made y.made) same in
    ap (λ (l : Label). labels_of (get_by (λ m. same_label l m.object.now && same_made x.made m.made) map_))
    (same_label_is x.object.now y.object.now parts.0)
    ∙ ap (λ n. labels_of (get_by (λ m. same_label y.object.now m.object.now && nat_eq n (move_number (move_in m.made))) map_))
    (eqb-true (move_number (move_in x.made)) (move_number (move_in y.made)) parts.1)

-- a move has one more task, and every other what it had
pushed_by : (b : Bool) (at : MoveAt → List Label) (x y : MoveAt) (now : Vec (Bor Label)) (had : Option (Vec (Bor Label))) (task : Bor Label) →
    labels_of had ≡ at y → (b ≡ true → at x ≡ at y) → labels_in now.items ≡ at x ++ task.now ∷ [] →
    labels_of (cond b (Some now) had) ≡ at y ++ one_if b task.now
pushed_by true at x y now had task is same more = more ∙ ap (λ ls. ls ++ task.now ∷ []) (same refl)
pushed_by false at x y now had task is same more = is ∙ nothing_more (at y)

-- the same for a look-up of each move
group_more : {S : Type 0} (old new : IndexMap MoveAt (Vec (Bor Label)) S) (x : MoveAt) (now : Vec (Bor Label)) (task : Bor Label) →
    ((y : MoveAt) → get_by (same_at y) new ≡ cond (same_at x y) (Some now) (get_by (same_at y) old)) →
    labels_in now.items ≡ labels_at old x ++ task.now ∷ [] →
    (y : MoveAt) → labels_at new y ≡ labels_at old y ++ one_if (same_at x y) task.now
group_more old new x now task updates more y =
    ap labels_of (updates y)
    ∙ pushed_by (same_at x y) (labels_at old) x y now (get_by (same_at y) old) task refl (same_labels old x y) more

-- a task that is appended to those of its move
pub group_written : {S : Type 0} (old new : IndexMap MoveAt (Vec (Bor Label)) S) (x : MoveAt) (had now : Vec (Bor Label)) (task : Bor Label) →
    (IsSome (get_by (same_at x) old) → UpdatesBy same_at (same_at x) old new (Some now)) →
    Some had ≡ get_by (same_at x) old → now.items ≡ had.items ++ task ∷ [] →
    (y : MoveAt) → labels_at new y ≡ labels_at old y ++ one_if (same_at x y) task.now
group_written old new x had now task updates there more y =
    group_more old new x now task (updates (ap is_some (sym there))).0
    (ap labels_in more ∙ one_more had.items task ∙ ap (λ o. labels_of o ++ task.now ∷ []) there) y

-- a task that is inserted for a move that nobody made: the look-up that found none left the map unchanged
pub group_put : {S : Type 0} (old kept new : IndexMap MoveAt (Vec (Bor Label)) S) (x : MoveAt) (none now : Vec (Bor Label)) (task : Bor Label) →
    kept ≡ old → UpdatesBy same_at (same_at x) kept new (Some now) →
    None ≡ get_by (same_at x) old → none.items ≡ [] → now.items ≡ none.items ++ task ∷ [] →
    (y : MoveAt) → labels_at new y ≡ labels_at old y ++ one_if (same_at x y) task.now
group_put old kept new x none now task stays updates there empty more y =
    group_more kept new x now task updates.0
    (ap labels_in (more ∙ ap (λ ls. ls ++ task ∷ []) empty)
    ∙ ap (λ o. labels_of o ++ task.now ∷ []) (there ∙ ap (get_by (same_at x)) (sym stays))) y
    ∙ ap (λ m. labels_at m y ++ one_if (same_at x y) task.now) stays

abbrev place_of : Label → Move → MoveAt
place_of object made = record { object = at_some object; made = made }

-- so the groups know one more move
pub knows_more : {S : Type 0} (old new : IndexMap MoveAt (Vec (Bor Label)) S) (x : MoveAt) (turn : Turn) (task : Bor Label) (turns : List Turn) →
    turn.object ≡ x.object.now → turn.move ≡ move_in x.made → turn.task ≡ task.now →
    ((y : MoveAt) → labels_at new y ≡ labels_at old y ++ one_if (same_at x y) task.now) →
    ((object : Label) (made : Move) → labels_of (get_by (same_place object made) old) ≡ tasks_at object (move_in made) turns) →
    (object : Label) (made : Move) → labels_of (get_by (same_place object made) new) ≡ tasks_at object (move_in made) (turns ++ turn ∷ [])
knows_more old new x turn task turns at_object made_so by more h object made =
    more (place_of object made)
    ∙ ap (λ ls. ls ++ one_if (same_at x (place_of object made)) task.now) (h object made)
    ∙ ap (λ b. tasks_at object (move_in made) turns ++ one_if b task.now)
    (ap (λ b. b && same_made x.made made) (same_label_equiv.symm x.object.now object)
    ∙ ap (λ b. same_label object x.object.now && b) (same_made_equiv.symm x.made made))
    ∙ ap (λ (l : Label). tasks_at object (move_in made) turns ++ one_if (same_label object l && same_made made x.made) task.now) (sym at_object)
    ∙ ap (λ m. tasks_at object (move_in made) turns ++ one_if (same_label object turn.object && same_move (move_in made) m) task.now) (sym made_so)
    ∙ ap (λ (l : Label). tasks_at object (move_in made) turns ++ one_if (same_label object turn.object && same_move (move_in made) turn.move) l)
    (sym by)
    ∙ sym (tasks_more object made turns turn)
