-- Who asks a limiter or channel does the same before a tick c where what it sees and what is granted are the same before c.
use Rattle.std.proofs.Common.{◌≡◌, ℕ, ◌+◌, ◌<◌, ◌≤◌, min, Bool, true, false, ◌&&◌, Option, Some, None, refl, ap, sym, ◌∙◌, subst, ◌⊎◌, inl, inr, arith, nat_le, nat_lt, if◌then◌else◌}
use Rattle.std.specs.Prelude.{codes}
use Rattle.std.proofs.lemmas.Bool.{true≢false, cases_lt, le-ltb}
use Rattle.std.proofs.lemmas.Bool.Decides.{nat_tests}
use Rattle.job_tree.specs.declared.object.Ask.{Ask}
use Rattle.exceptions.specs.Exceptions.{Label, cancelled, raised}
use Rattle.cancel_scopes.specs.Sight.{Tick, is_reached, sight, seen}
use Rattle.job_tree.specs.declared.object.Ask.TheVariants.{Acquire, Send, Receive}
use Rattle.job_meaning.specs.Log.{Act, asks, gives_back, Log, nil, act, Result, Entry, was_granted}
use Rattle.job_meaning.specs.Sharing.{What, a_token, was_sent, a_part, closed_resource, end_of_channel, Granted, granted_if, granted_before}
use Rattle.job_meaning.specs.Moments.{tick_of, gives_up_at, Now, only_at}
use Rattle.job_meaning.specs.Walk.{Stack, Mode, two_walks, by_table, grants_in, Here, done_at, raised_at, stack_for, with_act, with_token_back, last_grant, leaves_queue, in_time, left_result, goes_on, granted_result, asked_result, asks_in, ask_result}
use Rattle.job_meaning.specs.Before.{upto, Near, NearGrants, NearModes, Agree, soon, later, left_before, act_before, act_if, log_before}
use Rattle.job_meaning.proofs.Late.{Late, noted_at, late_token_back, late_granted, late_asking}
use Rattle.job_meaning.proofs.Clips.{sight_near, seen_near, reached_near, both_clipped, clipped_late, clipped_tail}
use Rattle.job_meaning.proofs.Agreeing.{agree_same, agree_joined}
use Rattle.job_meaning.proofs.OwnSight.{stack_for_near}

-- near modes grant the same before c
pub grants_near : (c : ℕ) (m o : Mode) → NearModes c m o → NearGrants c (grants_in m) (grants_in o)
grants_near c (two_walks grants) (two_walks other) near = near
grants_near c (by_table table grants) (by_table other_table other) near = near.1
grants_near c (two_walks grants) (by_table table other) near = absurd near
grants_near c (by_table table grants) (two_walks other) near = absurd near

-- what was granted agrees, where what follows agrees
agree_goes_on : (c : ℕ) (e : Entry) (m : ℕ) (go go' : Now → Result) → ((u : Now) → Agree c (go u) (go' u)) → ((u : Now) → Late u.at (go u)) →
    ((u : Now) → Late u.at (go' u)) → Agree c (goes_on e m go) (goes_on e m go')
agree_goes_on c e m go go' h k k' =
    agree_joined c (noted_at e m) (noted_at e m) (go (only_at m)) (go' (only_at m)) (agree_same c (noted_at e m)) (h (only_at m))
    (k (only_at m)).ends (k' (only_at m)).ends

-- so do blocks with a token, which comes back
agree_token_back : (c : ℕ) (label : Label) (r q : Result) → Agree c r q → Agree c (with_token_back label r) (with_token_back label q)
unfolding with_token_back
agree_token_back c label r q (soon b e o x m l) =
    soon b e o x m (both_clipped c r.log _ q.log _ l (ap (λ (u : ℕ). log_before c (act label u gives_back nil)) e))
agree_token_back c label r q (later f s l) =
    later f s (clipped_tail c r.end r.log _ f (omega arith, tt) ∙ (l ∙ sym (clipped_tail c q.end q.log _ s (omega arith, tt))))

-- so does what tasks do with what they are granted
agree_granted : (c : ℕ) (label : Label) (here : Here) (m : ℕ) (what : What) (go go' : Here → Now → Result) →
    ((inner : Here) (u : Now) → Agree c (go inner u) (go' inner u)) → ((inner : Here) (u : Now) → Late u.at (go inner u)) →
    ((inner : Here) (u : Now) → Late u.at (go' inner u)) → Agree c (granted_result label here m what go) (granted_result label here m what go')
agree_granted c label here m a_token go go' h k k' =
    agree_goes_on c (was_granted Acquire label) m _ _ (λ u. agree_token_back c label _ _ (h here u)) (λ u. late_token_back u.at label _ (k here u))
    (λ u. late_token_back u.at label _ (k' here u))
agree_granted c label here m was_sent go go' h k k' = agree_goes_on c (was_granted Send label) m _ _ (λ u. h here u) (λ u. k here u) (λ u. k' here u)
agree_granted c label here m (a_part lent) go go' h k k' =
    agree_goes_on c (was_granted Receive label) m _ _ (λ u. h (record here { part = lent }) u) (λ u. k (record here { part = lent }) u)
    (λ u. k' (record here { part = lent }) u)
agree_granted c label here m closed_resource go go' h k k' = agree_same c _
agree_granted c label here m end_of_channel go go' h k k' = agree_same c _

-- an act that is the same before c, and then what agrees
pub agree_acted : (c : ℕ) (label : Label) (m : ℕ) (a b : Act) (r q : Result) → act_before c a ≡ act_before c b → Agree c r q →
    Agree c (with_act label m a r) (with_act label m b q)
agree_acted c label m a b r q i (soon before e o x n l) = soon before e o x n (same_acts (act_before c a) (act_before c b) _ _ i l)
  where
    same_acts : (f g : Act) (v w : Log) → f ≡ g → v ≡ w → act_if (nat_lt m c) label m f v ≡ act_if (nat_lt m c) label m g w
    same_acts f g v w j k = cc
agree_acted c label m a b r q i (later f s l) = later f s (same_acts (act_before c a) (act_before c b) _ _ i l)
  where
    same_acts : (f g : Act) (v w : Log) → f ≡ g → v ≡ w → act_if (nat_lt m c) label m f v ≡ act_if (nat_lt m c) label m g w
    same_acts f g v w j k = cc

-- the moments of leaving are the same when cut at c
left_near : (c : ℕ) (f g : Tick) (last : ℕ) → upto c f ≡ upto c g → min c (leaves_queue f last) ≡ min c (leaves_queue g last)
left_near c None None last e = refl
left_near c None (Some y) last e = no_earlier y e
  where
    no_earlier : (u : ℕ) → c ≡ min c u → min c last ≡ min c (min u last)
    no_earlier u h = omega arith
left_near c (Some x) None last e = no_earlier x e
  where
    no_earlier : (u : ℕ) → min c u ≡ c → min c (min u last) ≡ min c last
    no_earlier u h = omega arith
left_near c (Some x) (Some y) last e = same_cut x y e
  where
    same_cut : (u v : ℕ) → min c u ≡ min c v → min c (min u last) ≡ min c (min v last)
    same_cut u v h = omega arith

-- what a task is granted, or that it leaves the queue, comes at c or later
abbrev pub Far : ℕ → ℕ → Option Granted → Type 0
Far c left None = c ≤ left
Far c left (Some g) = c ≤ g.at

-- two tasks are granted the same in time, or nothing comes of their asks before c
data Alike (c left left' : ℕ) (o p : Option Granted) : Type 0 where
  same : (equal : o ≡ p) → Alike c left left' o p
  far : (first : Far c left o) → (second : Far c left' p) → Alike c left left' o p

no_grant : (g : Granted) → None ≡ Some g → ⊥
no_grant g e = cc

-- what is granted from c on does not come before c
granted_late : (c : ℕ) (g : Granted) → granted_before c (Some g) ≡ None → c ≤ g.at
granted_late c g e = by_test (nat_le (g.at + 1) c) refl e
  where
    by_test : (b : Bool) → nat_le (g.at + 1) c ≡ b → granted_if b g None ≡ None → c ≤ g.at
    by_test true i j = absurd (no_grant g (sym j))
    by_test false i j = grind (arith, nat_tests)

-- grants that are the same before c are alike for two tasks that leave at moments that are the same when cut at c
in_time_alike : (c m left left' : ℕ) (o p : Option Granted) → min c left ≡ min c left' → granted_before c o ≡ granted_before c p →
    Alike c left left' (in_time m left o) (in_time m left' p)
in_time_alike c m left left' None None e h = same refl
in_time_alike c m left left' None (Some g) e h = by_time (nat_lt m g.at && nat_le g.at left') refl
  where
    late : c ≤ g.at
    late = granted_late c g (sym h)

    by_time : (b : Bool) → (nat_lt m g.at && nat_le g.at left') ≡ b → Alike c left left' None (granted_if b g None)
    by_time true i = far (past (grind (arith, nat_tests))) late
      where
        past : g.at ≤ left' → c ≤ left
        past le = let l = late in omega arith
    by_time false i = same refl
in_time_alike c m left left' (Some g) None e h = by_time (nat_lt m g.at && nat_le g.at left) refl
  where
    late : c ≤ g.at
    late = granted_late c g h

    by_time : (b : Bool) → (nat_lt m g.at && nat_le g.at left) ≡ b → Alike c left left' (granted_if b g None) None
    by_time true i = far late (past (grind (arith, nat_tests)))
      where
        past : g.at ≤ left → c ≤ left'
        past le = let l = late in omega arith
    by_time false i = same refl
in_time_alike c m left left' (Some g) (Some k) e h = by_tests (nat_le (g.at + 1) c) (nat_le (k.at + 1) c) refl refl h
  where
    both_late : c ≤ g.at → c ≤ k.at → Alike c left left' (in_time m left (Some g)) (in_time m left' (Some k))
    both_late l n = by_times (nat_lt m g.at && nat_le g.at left) (nat_lt m k.at && nat_le k.at left') refl refl
      where
        past : (t u v : ℕ) → c ≤ t → min c u ≡ min c v → t ≤ u → c ≤ v
        past t u v le i j = omega arith

        by_times : (a b : Bool) → (nat_lt m g.at && nat_le g.at left) ≡ a → (nat_lt m k.at && nat_le k.at left') ≡ b →
            Alike c left left' (granted_if a g None) (granted_if b k None)
        by_times true true i j = far l n
        by_times true false i j = far l (past g.at left left' l e (grind (arith, nat_tests)))
        by_times false true i j = far (past k.at left' left n (sym e) (grind (arith, nat_tests))) n
        by_times false false i j = same refl

    in_both : (t : ℕ) → t < c → nat_le t left ≡ nat_le t left'
    in_both t lt = by_test (nat_le t left) (nat_le t left') refl refl
      where
        by_test : (a b : Bool) → nat_le t left ≡ a → nat_le t left' ≡ b → a ≡ b
        by_test true true i j = refl
        by_test false false i j = refl
        by_test true false i j = absurd (grind (arith, nat_tests))
        by_test false true i j = absurd (grind (arith, nat_tests))

    both_before : g.at < c → g ≡ k → Alike c left left' (in_time m left (Some g)) (in_time m left' (Some k))
    both_before lt i =
        same (ap (λ (b : Bool). granted_if (nat_lt m g.at && b) g None) (in_both g.at lt) ∙ ap (λ (x : Granted). in_time m left' (Some x)) i)

    some_same : Some g ≡ Some k → g ≡ k
    some_same i = cc

    by_tests : (a b : Bool) → nat_le (g.at + 1) c ≡ a → nat_le (k.at + 1) c ≡ b → granted_if a g None ≡ granted_if b k None →
        Alike c left left' (in_time m left (Some g)) (in_time m left' (Some k))
    by_tests true true i j x = both_before (grind (arith, nat_tests)) (some_same x)
    by_tests true false i j x = absurd (no_grant g (sym x))
    by_tests false true i j x = absurd (no_grant k x)
    by_tests false false i j x = both_late (grind (arith, nat_tests)) (grind (arith, nat_tests))

-- what comes of an ask at c or later: nothing of it is known before c but the ask itself
far_end : (c : ℕ) (ask : Ask) (label : Label) (here : Here) (from : Tick) (m left : ℕ) (o : Option Granted) (go : Here → Now → Result) →
    ((inner : Here) (u : Now) → Late u.at (go inner u)) → Far c left o → c ≤ (asked_result ask label here from m left o go).end
far_end c ask label here from m left None go k le = by_sight (is_reached from left)
  where
    by_sight : (b : Bool) → c ≤ (let r : Result = if b then raised_at cancelled (only_at left)
        else raised_at (raised (codes "Deadlock") here.task (tick_of here.clock left)) (only_at left) in r.end)
    by_sight true = le
    by_sight false = le
far_end c ask label here from m left (Some g) go k le =
    let end : g.at ≤ (granted_result label here g.at g.what go).end = (late_granted label here g.at g.what go k).ends in omega arith

-- who leaves the queue notes nothing
quiet_left : (here : Here) (from : Tick) (left : ℕ) → (left_result here from left).log ≡ nil
quiet_left here from left = by_sight (is_reached from left)
  where
    by_sight : (b : Bool) → (let r : Result = if b then raised_at cancelled (only_at left)
        else raised_at (raised (codes "Deadlock") here.task (tick_of here.clock left)) (only_at left) in r.log) ≡ nil
    by_sight true = refl
    by_sight false = refl

not_left_before : (c left : ℕ) → c ≤ left → left_before c (Some left) ≡ None
not_left_before c left le = ap (λ (b : Bool). if b then Some left else None) (le-ltb left c le)

far_log : (c : ℕ) (ask : Ask) (label : Label) (here : Here) (from : Tick) (m left : ℕ) (o : Option Granted) (go : Here → Now → Result) →
    ((inner : Here) (u : Now) → Late u.at (go inner u)) → Far c left o →
    log_before c (asked_result ask label here from m left o go).log ≡ act_if (nat_lt m c) label m (asks ask here.part None) nil
far_log c ask label here from m left None go k le =
    ap (λ (x : Log). act_if (nat_lt m c) label m (asks ask here.part (left_before c (Some left))) (log_before c x)) (quiet_left here from left)
    ∙ ap (λ (x : Tick). act_if (nat_lt m c) label m (asks ask here.part x) nil) (not_left_before c left le)
far_log c ask label here from m left (Some g) go k le =
    ap (λ (x : Log). act_if (nat_lt m c) label m (asks ask here.part None) x)
    (clipped_late c g.at (granted_result label here g.at g.what go).log le (late_granted label here g.at g.what go k).timed)

-- who leaves before c does so in the same way
agree_left : (c : ℕ) (here : Here) (f g : Tick) (u v : ℕ) → upto c f ≡ upto c g → min c u ≡ min c v →
    Agree c (left_result here f u) (left_result here g v)
agree_left c here f g u v e h = by_order (cases_lt u c)
  where
    end_of : (x : Tick) (w : ℕ) → c ≤ w → c ≤ (left_result here x w).end
    end_of x w le = by_sight (is_reached x w)
      where
        by_sight : (b : Bool) → c ≤ (let r : Result = if b then raised_at cancelled (only_at w)
            else raised_at (raised (codes "Deadlock") here.task (tick_of here.clock w)) (only_at w) in r.end)
        by_sight true = le
        by_sight false = le

    same_sight : u < c → left_result here f u ≡ left_result here g u
    same_sight lt =
        ap (λ (b : Bool). if b then raised_at cancelled (only_at u) else raised_at (raised (codes "Deadlock") here.task (tick_of here.clock u))
        (only_at u))
        (reached_near c f g u e lt)

    by_order : (u < c) ⊎ (c ≤ u) → Agree c (left_result here f u) (left_result here g v)
    by_order (inl lt) =
        subst (λ (w : ℕ). Agree c (left_result here f u) (left_result here g w)) (omega arith)
        (subst (λ (r : Result). Agree c (left_result here f u) r) (same_sight lt) (agree_same c (left_result here f u)))
    by_order (inr le) =
        later (end_of f u le) (end_of g v (omega arith))
        (ap (λ (x : Log). log_before c x) (quiet_left here f u ∙ sym (quiet_left here g v)))

-- whether a task has left the queue before c
left_same : (c u v : ℕ) → min c u ≡ min c v → left_before c (Some u) ≡ left_before c (Some v)
left_same c u v h = by_order (cases_lt u c)
  where
    by_order : (u < c) ⊎ (c ≤ u) → left_before c (Some u) ≡ left_before c (Some v)
    by_order (inl lt) = ap (λ (w : ℕ). left_before c (Some w)) (omega arith)
    by_order (inr le) = not_left_before c u le ∙ sym (not_left_before c v (omega arith))

-- what comes of two asks that are alike
agree_asked : (c : ℕ) (ask : Ask) (label : Label) (here : Here) (f g : Tick) (m left left' : ℕ) (o p : Option Granted)
    (go go' : Here → Now → Result) →
    upto c f ≡ upto c g → min c left ≡ min c left' → Alike c left left' o p →
    ((inner : Here) (u : Now) → Agree c (go inner u) (go' inner u)) → ((inner : Here) (u : Now) → Late u.at (go inner u)) →
    ((inner : Here) (u : Now) → Late u.at (go' inner u)) →
    Agree c (asked_result ask label here f m left o go) (asked_result ask label here g m left' p go')
agree_asked c ask label here f g m left left' o p go go' e i (far first second) h k k' =
    later (far_end c ask label here f m left o go k first) (far_end c ask label here g m left' p go' k' second)
    (far_log c ask label here f m left o go k first ∙ sym (far_log c ask label here g m left' p go' k' second))
agree_asked c ask label here f g m left left' o p go go' e i (same equal) h k k' =
    subst (λ (x : Option Granted). Agree c (asked_result ask label here f m left o go) (asked_result ask label here g m left' x go')) equal
    (by_grant o)
  where
    by_grant : (x : Option Granted) → Agree c (asked_result ask label here f m left x go) (asked_result ask label here g m left' x go')
    by_grant None =
        agree_acted c label m _ _ _ _ (ap (λ (t : Tick). asks ask here.part t) (left_same c left left' i)) (agree_left c here f g left left' e i)
    by_grant (Some x) = agree_acted c label m _ _ _ _ refl (agree_granted c label here x.at x.what go go' h k k')

-- an ask agrees before c on near stacks and with near grants
pub agree_asking : (c : ℕ) (m o : Mode) (ask : Ask) (first second : Option Label) (here : Here) (st su : Stack) (t : Now)
    (go go' : Here → Now → Result) → first ≡ second → NearModes c m o → Near c st su →
    ((inner : Here) (u : Now) → Agree c (go inner u) (go' inner u)) →
    ((inner : Here) (u : Now) → Late u.at (go inner u)) → ((inner : Here) (u : Now) → Late u.at (go' inner u)) →
    Agree c (ask_result m ask first here st t go) (ask_result o ask second here su t go')
unfolding ask_result
agree_asking c m o ask first second here st su t go go' same_label modes near h k k' =
    subst (λ (label : Option Label). Agree c (ask_result m ask first here st t go) (ask_result o ask label here su t go'))
    same_label (by_order first (cases_lt t.at c))
  where
    asked : (label : Label) → t.at < c → Agree c (ask_result m ask (Some label) here st t go) (ask_result o ask (Some label) here su t go')
    asked label lt =
        by_sight (seen (stack_for t.own t.at st.scopes) t.at) (seen (stack_for t.own t.at su.scopes) t.at)
        (seen_near c (stack_for t.own t.at st.scopes) (stack_for t.own t.at su.scopes) t.at
        (stack_for_near c t.own t.at st.scopes su.scopes near.0) lt)
      where
        near_left : min c (leaves_queue (sight st.scopes) (last_grant here.clock t.at))
            ≡ min c (leaves_queue (sight su.scopes) (last_grant here.clock t.at))
        near_left = left_near c (sight st.scopes) (sight su.scopes) (last_grant here.clock t.at) (sight_near c st.scopes su.scopes near.0)

        by_sight : (a b : Bool) → a ≡ b →
            Agree c (if a then raised_at cancelled (only_at (gives_up_at here.clock 0 t.at)) else asks_in m ask label here st t.at go)
            (if b then raised_at cancelled (only_at (gives_up_at here.clock 0 t.at)) else asks_in o ask label here su t.at go')
        by_sight true true i = agree_same c _
        by_sight true false i = absurd (true≢false i)
        by_sight false true i = absurd (true≢false (sym i))
        by_sight false false i =
            agree_asked c ask label here (sight st.scopes) (sight su.scopes) t.at _ _ _ _ go go' (sight_near c st.scopes su.scopes near.0) near_left
            (in_time_alike c t.at _ _ (grants_in m label here.task t.at) (grants_in o label here.task t.at) near_left
            (grants_near c m o modes label here.task t.at)) h k k'

    by_order : (label : Option Label) → (t.at < c) ⊎ (c ≤ t.at) → Agree c (ask_result m ask label here st t go) (ask_result o ask label here su t go')
    by_order label (inr le) =
        let a = late_asking m ask label here st t go k in
        let b = late_asking o ask label here su t go' k' in
        let i : t.at ≤ (ask_result m ask label here st t go).end = a.ends in
        let j : t.at ≤ (ask_result o ask label here su t go').end = b.ends in
        later (omega arith) (omega arith) (clipped_late c t.at _ le a.timed ∙ sym (clipped_late c t.at _ le b.timed))
    by_order None (inl lt) = agree_same c (done_at t)
    by_order (Some label) (inl lt) = asked label lt
