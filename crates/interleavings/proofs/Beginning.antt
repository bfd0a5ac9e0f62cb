-- A run agrees at its beginning with each settled table of a job that gives names once.
use Rattle.std.proofs.Common.{◌≡◌, ◌⊎◌, ℕ, ◌+◌, ◌<◌, ◌≤◌, Bool, true, false, Option, Some, None, List, [], ◌∷◌, refl, sym, ap, ◌∙◌, subst, inl, inr, arith, if◌then◌else◌}
use Rattle.turn_semantics.specs.Lists.{IsAmong}
use Rattle.job_tree.specs.Tree.{Tree}
use Rattle.job_tree.specs.Names.{GivesNamesOnce}
use Rattle.job_tree.specs.Starting.{StartsInNurseries}
use Rattle.exceptions.specs.Exceptions.{Label, Exc}
use Rattle.cancel_scopes.specs.Sight.{Tick}
use Rattle.job_meaning.specs.Log.{Log, nil, entry, sign, entered, act, task, followed_by, Result, same_label, least_sign, deadline_of, deadline_if, either, from_by, entered_from, times_entered, Table}
use Rattle.job_meaning.specs.Moments.{only_at}
use Rattle.job_meaning.specs.Walk.{no_stack, with_sign, sign_if}
use Rattle.job_meaning.specs.Meaning.{root_walk, root_here}
use Rattle.job_meaning.specs.Follow.{follow}
use Rattle.job_meaning.specs.Before.{upto}
use Rattle.job_meaning.specs.Rest.{ChildOutcomes, rest_comes_to, rest_at_start}
use Rattle.job_meaning.proofs.Clips.{upto_most, followed_nil}
use Rattle.job_meaning.proofs.Distinct.{same_label_itself}
use Rattle.job_meaning.proofs.Finish.{finish_begin}
use Rattle.job_meaning.proofs.Once.{enters_once, job_gives_once}
use Rattle.turn_semantics.specs.Midway.{Tables, by_tables}
use Rattle.turn_semantics.specs.Placed.{PlacedStop}
use Rattle.interleavings.specs.Interleaving.{Started, Fits, times_made, made_least, all_least, made_times, all_times, EnteredIn, EntersWith, StartsChild, Kid, HasFrom, Parent, Entered, EachPlace, RunInvariant, AllFrom}
use Rattle.interleavings.specs.Going.{root_result, root_task}
use Rattle.interleavings.specs.Laws.{IsSettledBy}
use Rattle.interleavings.proofs.Readings.{entered_times}

no_deadline_left : (l : Label) (a : Log) → times_entered l a ≡ 0 → deadline_of l a ≡ None
no_deadline_left l nil h = refl
no_deadline_left l (entry t e rest) h = no_deadline_left l rest h
no_deadline_left l (sign m t rest) h = no_deadline_left l rest h
no_deadline_left l (entered m t d rest) h = by_test (same_label l m) h (no_deadline_left l rest)
  where
    by_test : (b : Bool) → (if b then 1 else 0) + times_entered l rest ≡ 0 → (times_entered l rest ≡ 0 → deadline_of l rest ≡ None) →
        either (deadline_if b d) (deadline_of l rest) ≡ None
    by_test true k more = absurd (omega arith)
    by_test false k more = more (omega arith)
no_deadline_left l (act label moment done rest) h = no_deadline_left l rest h
no_deadline_left l (task m s u e own rest) h =
    ap (λ (o : Option Tick). either o (deadline_of l rest)) (no_deadline_left l own (omega arith)) ∙ no_deadline_left l rest (omega arith)

-- a label that is entered once has the deadline with which it is entered
deadline_entered_once : (l : Label) (d : Tick) (a : Log) → EnteredIn l d a → times_entered l a ≤ 1 → deadline_of l a ≡ Some d
deadline_entered_once l d nil h n = absurd h
deadline_entered_once l d (entry t e rest) h n = deadline_entered_once l d rest h n
deadline_entered_once l d (sign m t rest) h n = deadline_entered_once l d rest h n
deadline_entered_once l d (entered m t x rest) (inl e) n =
    ap (λ (b : Bool). either (deadline_if b x) (deadline_of l rest))
    (subst (λ (y : Label). same_label l y ≡ true) e.0 (same_label_itself l)) ∙ ap (λ (y : Tick). Some y) (sym e.1)
deadline_entered_once l d (entered m t x rest) (inr h) n =
    by_test (same_label l m) n (entered_times l d rest h) (deadline_entered_once l d rest h)
  where
    by_test : (b : Bool) → (if b then 1 else 0) + times_entered l rest ≤ 1 → 1 ≤ times_entered l rest →
        (times_entered l rest ≤ 1 → deadline_of l rest ≡ Some d) → either (deadline_if b x) (deadline_of l rest) ≡ Some d
    by_test true k some more = absurd (omega arith)
    by_test false k some more = more (omega arith)
deadline_entered_once l d (act label moment done rest) h n = deadline_entered_once l d rest h n
deadline_entered_once l d (task m s u e own rest) (inl h) n =
    ap (λ (o : Option Tick). either o (deadline_of l rest)) (deadline_entered_once l d own h (omega arith))
deadline_entered_once l d (task m s u e own rest) (inr h) n =
    let some : 1 ≤ times_entered l rest = entered_times l d rest h in
    ap (λ (o : Option Tick). either o (deadline_of l rest)) (no_deadline_left l own (omega arith))
    ∙ deadline_entered_once l d rest h (omega arith)

-- the root signs for nobody
signed_root : (r : Result) → with_sign no_stack r ≡ record r { own = [] }
unfolding with_sign
signed_root r = ap (λ (a : Log). record r { own = []; log = a }) (ap (λ (a : Log). followed_by r.log a) (none r.exc) ∙ followed_nil r.log)
  where
    none : (o : Option Exc) → sign_if o None r.end ≡ nil
    none None = refl
    none (Some e) = refl

-- what is left of the root is all of following the table, but for what it has cancelled itself at its end
root_comes : (k : Tables) (job : Tree) (input : List ℕ) (outcomes : ChildOutcomes) →
    rest_comes_to (by_tables k) outcomes (rest_at_start job.steps) (root_here job input) no_stack (only_at 0) ≡ root_result k job input
unfolding follow
root_comes k job input outcomes = finish_begin (by_tables k) outcomes job.steps (root_here job input) no_stack (only_at 0)
    ∙ signed_root (root_walk (by_tables k) job input)

module _ (k : Tables) (f : Table) (job : Tree) (input : List ℕ) (names : GivesNamesOnce job) (nurseries : StartsInNurseries job)
    (settled : IsSettledBy k job input) where
  abbrev whole : Result
  whole = root_result k job input

  abbrev tasks : List Started
  tasks = root_task k job input ∷ []

  once_left : (l : Label) → times_entered l whole.log ≤ 1
  unfolding follow
  once_left l = enters_once l whole.log (job_gives_once (by_tables k) job input names)

  has_from : (l : Label) (d : Tick) → EnteredIn l d whole.log → k.cancelled_from l ≡ from_by d (least_sign l whole.log)
  has_from l d h = settled.froms l ∙ ap (λ (o : Option Tick). entered_from o (least_sign l whole.log))
      (deadline_entered_once l d whole.log h (once_left l))

  fits_root : Fits k (root_task k job input)
  fits_root = record {
    comes = λ outcomes h. root_comes k job input outcomes;
    lefts =
        λ outcomes h. ap (λ (r : Result). r.log) (root_comes k job input outcomes);
  }

  of_root : (P : Started → Type 0) → P (root_task k job input) → (q : Started) → IsAmong q tasks → P q
  of_root P h q (inl e) = subst P (sym e) h
  of_root P h q (inr i) = absurd i

  -- a run agrees with the table at its beginning
  pub opens : RunInvariant k f whole tasks
  unfolding all_least made_least all_times made_times times_made
  opens = record {
    fits = of_root (λ q. Fits k q) fits_root;
    shape = of_root (λ q. PlacedStop q.rest.stopped q.rest.frames q.places) (nurseries, tt);
    numbered = of_root (λ q. (i : ℕ) → StartsChild i q.made → i < q.count) (λ i h. absurd h);
    kids = of_root (λ q. (i : ℕ) → i < q.count → Kid tasks q i) (λ i h. absurd (omega arith));
    parents = of_root (λ q. (q.final_result ≡ whole) ⊎ Parent tasks q) (inl refl);
    signed = λ c l. let y : upto c (least_sign l whole.log) ≤ c = upto_most c (least_sign l whole.log) in omega arith;
    once = λ l. let y : times_entered l whole.log ≤ 1 = once_left l in omega arith;
    made = λ c l h. omega arith;
    follows = of_root (λ q. (l : Label) (d : Tick) → EnteredIn l d q.left → k.cancelled_from l ≡ from_by d (least_sign l whole.log)) has_from;
    known = of_root (λ q. (l : Label) (d : Tick) → EntersWith l d q.made → HasFrom k.cancelled_from f whole.log tasks l d) (λ l d h. absurd h);
    placed = of_root (λ q. EachPlace (Entered tasks) q.places) tt;
    root = record { root = root_task k job input; among = inl refl; first = refl; comes = refl };
  }

  -- nothing happens before tick 0
  pub opens_from : AllFrom k tasks 0
  opens_from q i l = omega arith
