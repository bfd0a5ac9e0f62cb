-- What the code holds of limiters and channels stays what it is to the run where the same tasks wait in queues; and in a new run it is nothing.
use Rattle.std.proofs.Common.{◌≡◌, ℕ, suc, ◌<◌, ◌≤◌, Bool, Option, None, List, [], ◌∷◌, ◌++◌, refl, ap, sym, ◌∙◌, subst}
use Rattle.std.specs.Option.{option_map}
use Rattle.exceptions.specs.Exceptions.{Label}
use Rattle.objects.specs.Held.{object_in}
use Rattle.objects.specs.Whats.{What}
use Rattle.objects.specs.declared.ticket.Ticket.{Ticket}
use Rattle.objects.specs.declared.object.Object.{Object}
use Rattle.job_meaning.specs.Sharing.{Done, unopened, by_moment, serve_acts, find_given, granted_before}
use Rattle.job_meaning.specs.Rest as rest
use Rattle.turn_semantics.specs.Lists.{IsAmong}
use Rattle.interleavings.specs.Interleaving.{Started}
use Rattle.interleavings.specs.Acts.{acts_of, acts_of_all, InOrder, all_taken, next_taken, granted_so_far}
use Rattle.run_refinement.specs.RunState.{RunState, GrantedAt, Shares}
use Rattle.run_refinement.specs.Moved.{SameObjects}
use Rattle.run_refinement.specs.Sharing.{RoundAct, done_by, done_before, done_from, object_after, waits_in, asked_before, SameObject, AreAskedBefore, AsksBefore, asked_at}

-- ---- the same objects

granted_kept : (old new : RunState) (taken : List Started) (s : ℕ) (q : Started) (stopped : rest.Stopped) → new.through ≡ old.through →
    new.granted s ≡ old.granted s → GrantedAt old taken s q stopped → GrantedAt new taken s q stopped
granted_kept old new taken s q (rest.queued object ask since body) through granted h = (
  λ lt l e. subst (λ (v : ℕ). granted_before (suc v) (granted_so_far taken l q.here.task since)
      ≡ option_map (λ (w : What). record { at = v; what = w }) (new.granted s)) (sym through)
      (h.0 (subst (λ (v : ℕ). since < v) through lt) l e
      ∙ ap (λ (o : Option What). option_map (λ (w : What). record { at = old.through; what = w }) o) (sym granted)),
  λ le. granted ∙ h.1 (subst (λ (v : ℕ). v ≤ since) through le),
)
granted_kept old new taken s q rest.to_begin through granted h = granted ∙ h
granted_kept old new taken s q (rest.asking kernel purpose) through granted h = granted ∙ h
granted_kept old new taken s q (rest.asleep paced n since) through granted h = granted ∙ h
granted_kept old new taken s q (rest.waiting_for event since) through granted h = granted ∙ h
granted_kept old new taken s q (rest.giving_up since) through granted h = granted ∙ h
granted_kept old new taken s q (rest.awaiting children ended exc) through granted h = granted ∙ h
granted_kept old new taken s q (rest.at_end u e) through granted h = granted ∙ h

-- it stays so where the same tickets wait in the same moment
pub shares_kept : (old new : RunState) (tasks : List Started) (at : ℕ → Started) (m : ℕ) → ((ticket : Ticket) → waits_in new.task ticket ≡ waits_in old.task ticket) →
    new.world.tick ≡ old.world.tick → SameObjects old new → Shares old tasks at m → Shares new tasks at m
shares_kept old new tasks at m waits tick same h =
    record {
      round = λ s lt l.
          subst (λ (v : ℕ). done_from v (acts_of l (at s)) ≡ done_by s l new.world.tick (at s).here.task new.round) (sym same.through)
          (h.round s lt l ∙ (ap (λ (v : ℕ). done_by s l v (at s).here.task old.round) (sym tick)
          ∙ ap (done_by s l new.world.tick (at s).here.task) (sym same.round)));
      served = λ taken order l.
          subst (λ (v : ℕ). SameObject at v (option_map (object_in (waits_in new.task)) (new.object l))
          (object_after unopened (by_moment (done_before v (acts_of_all l taken))))) (sym same.through)
          (subst (λ (o : Option Object). SameObject at old.through (option_map (object_in (waits_in new.task)) o)
          (object_after unopened (by_moment (done_before old.through (acts_of_all l taken))))) (sym (same.object l))
          (subst (λ (w : Ticket → Bool). SameObject at old.through (option_map (object_in w) (old.object l))
          (object_after unopened (by_moment (done_before old.through (acts_of_all l taken))))) (λ i ticket. sym (waits ticket) i)
          (h.served taken order l)));
      granted = λ taken order s lt. granted_kept old new taken s (at s) (at s).rest.stopped same.through (same.granted s) (h.granted taken order s lt);
      ungranted = λ s le. same.granted s ∙ h.ungranted s le;
      grants = λ taken order object asker u.
          subst (λ (v : ℕ). new.grants object asker u ≡ granted_before (suc v) (granted_so_far taken object asker u)) (sym same.through)
          (same.grants object asker u ∙ h.grants taken order object asker u);
      known = λ a i. h.known a (subst (λ (r : List RoundAct). IsAmong a r) same.round i);
      asked = λ l.
          subst (λ (v : ℕ). AreAskedBefore v (new.object l)) (sym same.through)
          (subst (λ (o : Option Object). AreAskedBefore old.through o) (sym (same.object l)) (h.asked l));
      once = λ s lt. subst (λ (v : ℕ). AsksBefore (asked_at v (at s).rest.stopped) (at s).made) (sym tick) (h.once s lt);
    }

-- ---- a run that begins

none_done : (qs : List Started) (l : Label) → ((q : Started) → IsAmong q qs → acts_of l q ≡ []) → (stack : List ℕ) (taken : List Started) →
    InOrder qs stack taken → acts_of_all l taken ≡ []
none_done qs l none _ _ all_taken = refl
none_done qs l none _ _ (next_taken q stack taken i order) =
    ap (λ (ds : List Done). ds ++ acts_of_all l taken) (none q i) ∙ none_done qs l none _ taken order

-- where no task has done anything, there is nothing
pub shares_none : (state : RunState) (tasks : List Started) (at : ℕ → Started) (m : ℕ) → ((l : Label) (q : Started) → IsAmong q tasks → acts_of l q ≡ []) →
    ((s : ℕ) → s < m → IsAmong (at s) tasks × ((at s).made ≡ []) × ((at s).rest.stopped ≡ rest.to_begin)) → ((l : Label) → state.object l ≡ None) → state.round ≡ [] →
    ((p : ℕ) → state.granted p ≡ None) → ((object asker : Label) (u : ℕ) → state.grants object asker u ≡ None) → Shares state tasks at m
shares_none state tasks at m none begun objects round granted grants =
    record {
      round = λ s lt l.
          ap (done_from state.through) (none l (at s) (begun s lt).0)
          ∙ ap (done_by s l state.world.tick (at s).here.task) (sym round);
      served = λ taken order l.
          subst (λ (o : Option Object). SameObject at state.through (option_map (object_in (waits_in state.task)) o)
          (object_after unopened (by_moment (done_before state.through (acts_of_all l taken))))) (sym (objects l))
          (subst (λ (ds : List Done). SameObject at state.through None (object_after unopened (by_moment (done_before state.through ds))))
          (sym (none_done tasks l (none l) (0 ∷ []) taken order)) tt);
      granted = λ taken order s lt.
          subst (GrantedAt state taken s (at s)) (sym (begun s lt).2) (granted s);
      ungranted = λ s le. granted s;
      grants = λ taken order object asker u.
          grants object asker u
          ∙ sym (ap (λ (ds : List Done). granted_before (suc state.through) (find_given asker u (serve_acts unopened (by_moment ds))))
          (none_done tasks object (none object) (0 ∷ []) taken order));
      known = λ a i. absurd (let j : IsAmong a [] = subst (λ (r : List RoundAct). IsAmong a r) round i in j);
      asked = λ l waits. ap (option_map (object_in (asked_before state.through waits))) (objects l)
          ∙ sym (ap (option_map (object_in waits)) (objects l));
      once = λ s lt. subst (AsksBefore (asked_at state.world.tick (at s).rest.stopped)) (sym (begun s lt).1) tt;
    }
