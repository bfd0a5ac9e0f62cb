-- No two open scopes of the program have the same label, and each label of one was entered by a task.
use Rattle.std.proofs.Common.{◌≡◌, ◌≢◌, ◌⊎◌, inl, inr, ℕ, zero, suc, ◌+◌, ◌<◌, ◌≤◌, Option, Some, List, [], ◌∷◌, ◌++◌, map, refl, ap, sym, ◌∙◌, subst, arith}
use Rattle.std.proofs.lemmas.Bool.{cases_lt}
use Rattle.std.specs.Prelude.{slice_get}
use Rattle.std.specs.Option.{unwrap_or}
use Rattle.turn_semantics.specs.Lists.{IsAmong}
use Rattle.exceptions.specs.Exceptions.{Label}
use Rattle.cancel_scopes.specs.Tree.{Stack, stack_of, outer_of}
use Rattle.job_tree.specs.Names.{GivesNamesOnce}
use Rattle.job_tree.specs.Starting.{StartsInNurseries}
use Rattle.job_tree.specs.Tree.{Tree as Job}
use Rattle.interleavings.specs.Laws.{IsSettledBy}
use Rattle.job_meaning.specs.Log.{Table}
use Rattle.job_meaning.specs.Walk.{Here}
use Rattle.job_meaning.specs.Rest.{Event, noted, signs, enters, acts, starts}
use Rattle.task_machine.specs.declared.entry.ScopeFrom.{ScopeFrom}
use Rattle.turn_semantics.specs.Turned.{EntersIn}
use Rattle.task_machine.specs.declared.task.Own.{Own}
use Rattle.task_machine.specs.declared.task.Task.{Task}
use Rattle.task_machine.specs.Acts.{Scoping}
use Rattle.task_machine.specs.Labels.{Labels}
use Rattle.task_machine.specs.Left.{keys_of, keys_in}
use Rattle.task_machine.specs.Stacked.{IsKey, Alone}
use Rattle.task_machine.specs.Tasks.{scope_of}
use Rattle.task_machine.specs.Worlds.{label_at, event_at}
use Rattle.interleavings.specs.Interleaving.{Started, times_made, made_times, all_times, RunInvariant}
use Rattle.interleavings.specs.Acts.{InOrder}
use Rattle.interleavings.specs.Going.{root_result}
use Rattle.interleavings.specs.Rows.{entered_made}
use Rattle.run_refinement.specs.RunState.{Interleaving, RunState, Tracks, Follows, OpenedBy, Refines}
use Rattle.run_refinement.specs.Turn.{IsSound, IsEntered}
use Rattle.run_refinement.proofs.ActsKeep.{Sound, not_both, same_or}
use Rattle.run_refinement.proofs.Orders.{labels_differ}
use Rattle.interleavings.proofs.Ordering.{orders_exist}
use Rattle.interleavings.proofs.Readings.{enters_counted, made_counted, made_few}
use Rattle.interleavings.proofs.Running.{runs_keep_invariant}
use Rattle.task_machine.proofs.Cancels.{open_around}
use Rattle.task_machine.proofs.Others.{among_left, among_right}
use Rattle.task_machine.proofs.Stacked.{one_of, alone_at}
use Rattle.turn_semantics.specs.Midway.{Tables}

-- ---- which task entered a label

-- a label among those entered in events is one that an event enters
pub known_enters : (l : Label) (es : List Event) → IsAmong l (entered_made es) → EntersIn l es
known_enters l [] k = absurd k
known_enters l (noted t e ∷ es) k = known_enters l es k
known_enters l (acts shared t done ∷ es) k = known_enters l es k
known_enters l (signs m t ∷ es) k = known_enters l es k
known_enters l (enters m t d ∷ es) (inl e) = inl e
known_enters l (enters m t d ∷ es) (inr k) = inr (known_enters l es k)
known_enters l (starts i m t ∷ es) k = known_enters l es k

-- two tasks together enter it no more often than all do
pub two_counted : (l : Label) (x y : Started) (qs : List Started) → IsAmong x qs → IsAmong y qs → x.serial ≢ y.serial →
    times_made l x.made + times_made l y.made ≤ made_times l qs
unfolding made_times
two_counted l x y [] i j differs = absurd i
two_counted l x y (q ∷ qs) (inl e) (inl f) differs = absurd (differs (ap (λ (z : Started). z.serial) (e ∙ sym f)))
two_counted l x y (q ∷ qs) (inl e) (inr j) differs =
    let g = made_counted l y qs j in let h : times_made l x.made ≡ times_made l q.made =
    ap (λ (z : Started). times_made l z.made) e in omega (arith, g, h)
two_counted l x y (q ∷ qs) (inr i) (inl f) differs =
    let g = made_counted l x qs i in let h : times_made l y.made ≡ times_made l q.made =
    ap (λ (z : Started). times_made l z.made) f in omega (arith, g, h)
two_counted l x y (q ∷ qs) (inr i) (inr j) differs = let g = two_counted l x y qs i j differs in omega (arith, g)

-- A label was entered by one task of a run.
pub one_entered : {k : Tables} {job : Job} {input : List ℕ} {t m : ℕ} → (interleaving : Interleaving k job input t m) → IsSettledBy k job input →
    GivesNamesOnce job → StartsInNurseries job →
    (l : Label) (p q : ℕ) → p < m → q < m → IsAmong l (entered_made (interleaving.at p).made) → IsAmong l (entered_made (interleaving.at q).made) → p ≡ q
one_entered {k} {job} {input} {t} {m} interleaving settled names nurseries l p q below lower a b = by_test (same_or p q)
  where
    on : RunInvariant k interleaving.cancelled_from (root_result k job input) interleaving.tasks
    on = (runs_keep_invariant k job input settled names nurseries interleaving.cancelled_from t m interleaving.tasks interleaving.reached).0

    by_test : (p ≡ q) ⊎ (p ≢ q) → p ≡ q
    by_test (inl e) = e
    by_test (inr differs) =
        let x = interleaving.has p below in
        let y = interleaving.has q lower in
        let apart : (interleaving.at p).serial ≢ (interleaving.at q).serial = λ e. differs (sym x.1 ∙ e ∙ y.1) in
        let first = enters_counted l (interleaving.at p).made (known_enters l (interleaving.at p).made a) in
        let second = enters_counted l (interleaving.at q).made (known_enters l (interleaving.at q).made b) in
        let both = two_counted l (interleaving.at p) (interleaving.at q) interleaving.tasks x.0 y.0 apart in
        let few : made_times l interleaving.tasks ≤ all_times l interleaving.tasks = made_few l interleaving.tasks in
        let once : all_times l interleaving.tasks ≤ 1 = on.once l in
        absurd (omega (arith, first, second, both, few, once))

-- ---- the labels of a task's scopes

known_got : (xs : List ScopeFrom) (i : ℕ) (x : ScopeFrom) → slice_get xs i ≡ Some x → IsAmong x.label (map (λ (y : ScopeFrom). y.label) xs)
known_got [] i x e = absurd (not_both refl e)
known_got (y ∷ xs) zero x e = inl (sym (ap (λ (z : ScopeFrom). z.label) (one_of y x e)))
known_got (y ∷ xs) (suc i) x e = inr (known_got xs i x e)

-- each label among a task's moments of cancellation was entered by it
pub from_entered : {known : Label → Type 0} {f : Table} {s : Scoping} {entered : List Label} → Tracks known f s entered →
    (i : ℕ) (x : ScopeFrom) → slice_get s.cancelled_from i ≡ Some x →
    IsAmong x.label entered
from_entered {s = s} h i x e = subst (IsAmong x.label) h.labels (known_got s.cancelled_from i x e)

-- and so was that of a scope that it is in
pub own_entered : {known : Label → Type 0} {f : Table} {s : Scoping} {entered : List Label} → Tracks known f s entered → (o : Own) (i : ℕ) →
    slice_get s.own i ≡ Some o →
    (l : Label) → s.labels o.id ≡ Some l → IsAmong l entered
own_entered {entered = entered} h o i e l labelled =
    let n = h.named o i e in
    subst (λ (m : Label). IsAmong m entered) (one_of n.0.label l (sym n.2 ∙ labelled)) (from_entered h o.at n.0 n.1)

-- the key of a scope that a task opened is among the keys of those
pub key_got : (own : List Own) (o : Own) (i : ℕ) → slice_get own i ≡ Some o → IsAmong o.id (keys_in own)
key_got [] o i e = absurd (not_both refl e)
key_got (x ∷ own) o zero e = among_right o.id (keys_in own) (x.id ∷ []) (inl (sym (ap (λ (z : Own). z.id) (one_of x o e))))
key_got (x ∷ own) o (suc i) e = among_left o.id (keys_in own) (x.id ∷ []) (key_got own o i e)

-- a key among those of a stack is the key of a scope in it
pub is_key : (key : ℕ) (st : Stack) → IsAmong key (keys_of st) → IsKey key st
is_key key [] i = i
is_key key (l ∷ ls) (inl e) = inl e
is_key key (l ∷ ls) (inr i) = inr (is_key key ls i)

-- a scope that a task opened is one of its stack
pub own_around : (st : Stack) (own : List Own) (keys : List ℕ) (o : Own) (i : ℕ) → keys_of st ≡ keys_in own ++ keys →
    slice_get own i ≡ Some o → IsKey o.id st
own_around st own keys o i e got = is_key o.id st (subst (IsAmong o.id) (sym e) (among_left o.id (keys_in own) keys (key_got own o i got)))

pub alone_is : (labels : Labels) (key k : ℕ) (label : Label) (st : Stack) → Alone labels key label st → IsKey k st → labels k ≡ Some label →
    k ≡ key
alone_is labels key k label [] a i e = absurd i
alone_is labels key k label (l ∷ ls) a (inl f) e = f ∙ a.0 (sym (ap labels f) ∙ e)
alone_is labels key k label (l ∷ ls) a (inr i) e = alone_is labels key k label ls a.1 i e

-- ---- all tasks

-- a task that has not ended is one of those started
pub below_of : {k : Tables} {job : Job} {input : List ℕ} {t m : ℕ} {leaving : Option ℕ} {state : RunState} → Refines k job input t m leaving state →
    (p : ℕ) (task : Task) → state.task p ≡ Some task → p < m
below_of {m = m} c p task e = by_order (cases_lt p m)
  where
    by_order : (p < m) ⊎ (m ≤ p) → p < m
    by_order (inl l) = l
    by_order (inr l) = absurd (not_both (c.unborn p l).0 e)

-- no two tasks that have not ended have the same label
pub tasks_apart : {k : Tables} {job : Job} {input : List ℕ} {t m : ℕ} {leaving : Option ℕ} {state : RunState} →
    Refines k job input t m leaving state → IsSettledBy k job input → GivesNamesOnce job → StartsInNurseries job → (s p : ℕ) (x y : Task) →
    state.task s ≡ Some x → state.task p ≡ Some y → x.label ≡ y.label → s ≡ p
tasks_apart {k} {job} {input} {t} {m} {state = state} c settled names starting s p x y lives also e =
    sym first.1
    ∙ (labels_differ k job input c.interleaving.cancelled_from t m c.interleaving.tasks settled names starting c.interleaving.reached order.0 order.1
    (c.interleaving.at s) (c.interleaving.at p) first.0 second.0 (sym (label s x lives) ∙ (e ∙ label p y also))
    ∙ second.1)
  where
    order : (taken : List Started) × InOrder c.interleaving.tasks (0 ∷ []) taken
    order = orders_exist k job input names starting settled c.interleaving.cancelled_from t m c.interleaving.tasks c.interleaving.reached

    first : IsAmong (c.interleaving.at s) c.interleaving.tasks × ((c.interleaving.at s).serial ≡ s)
    first = c.interleaving.has s (below_of c s x lives)

    second : IsAmong (c.interleaving.at p) c.interleaving.tasks × ((c.interleaving.at p).serial ≡ p)
    second = c.interleaving.has p (below_of c p y also)

    label : (n : ℕ) (task : Task) → state.task n ≡ Some task → task.label ≡ (c.interleaving.at n).here.task
    label n task lives = ap (λ (h : Here). h.task) (c.follows n task lives).here

-- the label of a scope that a task opened was entered by it
pub opened_entered : {k : Tables} {job : Job} {input : List ℕ} {t m : ℕ} {leaving : Option ℕ} {state : RunState} →
    (c : Refines k job input t m leaving state) → (key p : ℕ) (l : Label) →
    OpenedBy state key p → label_at state.world key ≡ Some l → IsAmong l (entered_made (c.interleaving.at p).made)
opened_entered {state = state} c key p l o e =
    own_entered (c.follows p o.task o.lives).tracks o.scope o.index o.own l (ap (label_at state.world) o.is ∙ e)

-- Different scopes have different labels: one of another task was entered by that one, and one of the same task is in the
-- same stack.
pub labels_apart : {k : Tables} {job : Job} {input : List ℕ} {t m : ℕ} {leaving : Option ℕ} {state : RunState} →
    (c : Refines k job input t m leaving state) → IsSettledBy k job input → GivesNamesOnce job →
    StartsInNurseries job → (a b : ℕ) (l : Label) → label_at state.world a ≡ Some l → label_at state.world b ≡ Some l → a ≡ b
labels_apart {k} {job} {input} {t} {m} {leaving} {state} c settled names nurseries a b l e f =
    same_task (subst (OpenedBy state b) (sym same) y.1)
  where
    x : (p : ℕ) × OpenedBy state a p
    x = c.owned a (c.labelled a l e)

    y : (p : ℕ) × OpenedBy state b p
    y = c.owned b (c.labelled b l f)

    same : x.0 ≡ y.0
    same =
        one_entered c.interleaving settled names nurseries l x.0 y.0 (below_of c x.0 x.1.task x.1.lives) (below_of c y.0 y.1.task y.1.lives)
        (opened_entered c a x.0 l x.1 e)
        (opened_entered c b y.0 l y.1 f)

    task : Task
    task = x.1.task

    follows : Follows state c.interleaving.cancelled_from input t c.interleaving.at c.numbers leaving x.0 task
    follows = c.follows x.0 task x.1.lives

    within : (o : Own) (i : ℕ) → slice_get task.own.items i ≡ Some o → IsKey o.id (outer_of state.world.scopes (scope_of task))
    within o i got = own_around (outer_of state.world.scopes (scope_of task)) task.own.items _ o i follows.goes.first got

    same_task : OpenedBy state b x.0 → a ≡ b
    same_task z =
        let tasks : z.task ≡ task = one_of z.task task (sym z.lives ∙ x.1.lives) in
        let around : IsKey b (outer_of state.world.scopes (scope_of task)) =
        subst (λ (i : ℕ). IsKey i (outer_of state.world.scopes (scope_of task))) z.is
        (within z.scope z.index (sym (ap (λ (v : Task). slice_get v.own.items z.index) tasks) ∙ z.own)) in
        let inside : IsKey a (outer_of state.world.scopes (scope_of task)) =
        subst (λ (i : ℕ). IsKey i (outer_of state.world.scopes (scope_of task))) x.1.is (within x.1.scope x.1.index x.1.own) in
        let alone =
        alone_at (label_at state.world) (event_at state.world) c.interleaving.cancelled_from (outer_of state.world.scopes (scope_of task)) (c.interleaving.at x.0).places b l f around
        follows.stands.own follows.stands.places in
        alone_is (label_at state.world) b a l (outer_of state.world.scopes (scope_of task)) alone inside e

-- each label that a scope has was entered by a task
pub labels_known : {k : Tables} {job : Job} {input : List ℕ} {t m : ℕ} {leaving : Option ℕ} {state : RunState} →
    (c : Refines k job input t m leaving state) → (key : ℕ) (l : Label) →
    label_at state.world key ≡ Some l → IsEntered c.interleaving.at l
labels_known c key l e = let x = c.owned key (c.labelled key l e) in (x.0, opened_entered c key x.0 l x.1 e)

-- what a law of stacks says is what acts ask
pub sound_of : (s : Scoping) → IsSound s.tree → Sound s
sound_of s h = record { own = h.own; around = λ key st e k i. open_around s.tree h.chain (Some key) k (by_stack key st k e i) }
  where
    by_stack : (key : ℕ) (st : Stack) (k : ℕ) → stack_of s.tree key ≡ Some st → IsKey k st → IsKey k (outer_of s.tree (Some key))
    by_stack key st k e i = subst (λ (o : Option Stack). IsKey k (unwrap_or o [])) (sym e) i
