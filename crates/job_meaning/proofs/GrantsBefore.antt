-- What limiters and channels grant by the next moment is determined by what was done to them before.
use Rattle.std.proofs.Common.{◌≡◌, ℕ, suc, ◌+◌, ◌<◌, ◌≤◌, min, ◌==◌, Bool, true, false, not, ◌&&◌, Option, Some, None, List, [], ◌∷◌, ◌++◌, refl, ap, sym, ◌∙◌, arith, nat_le, nat_lt, if◌then◌else◌}
use Rattle.std.specs.Prelude.{map}
use Rattle.std.proofs.lemmas.Bool.{le-ltb}
use Rattle.std.proofs.lemmas.Bool.Decides.{nat_tests}
use Rattle.job_tree.specs.Tree.{Tree}
use Rattle.job_tree.specs.declared.object.Ask.TheVariants.{Acquire, Send, Receive}
use Rattle.job_tree.specs.declared.object.ObjectKind.TheVariants as kinds
use Rattle.input_lines.specs.Lines.{Range}
use Rattle.exceptions.specs.Exceptions.{Label}
use Rattle.cancel_scopes.specs.Sight.{Tick, is_reached}
use Rattle.objects.specs.Limiters as limiters
use Rattle.objects.specs.Limiters.{LimiterAct, LimiterServed}
use Rattle.objects.specs.Channels as channels
use Rattle.objects.specs.Channels.{ChannelAct, ChannelServed, Grant}
use Rattle.job_meaning.specs.Log.{Act, opens, asks, gives_back, closes, Log, nil, entry, sign, entered, act, task, Result, same_label}
use Rattle.job_meaning.specs.Sharing.{Done, done_if, own_acts, acts_in, insert_by_moment, by_moment, Asker, a_token, Granted, Given, Object, unopened, a_limiter, a_channel, stays_at, given_at, given_by, Outcome, of_limiter, of_channel, limiter_acts, channel_acts, opened_by, serve_act, serve_acts, granted_if, find_given, grants_of, granted_before}
use Rattle.job_meaning.specs.Meaning.{root_label, root_log}
use Rattle.job_meaning.specs.Before.{NearGrants, Agree, left_before, act_before, entry_if, sign_before, exc_if, entered_if, act_if, task_if, log_before}
use Rattle.job_meaning.proofs.Late.{Timed}
use Rattle.job_meaning.proofs.Clips.{clipped_late}
use Rattle.job_meaning.proofs.Agreeing.{agree_logs}
use Rattle.job_meaning.proofs.ServedAlike.{limiter_by, AllLimiterActsAlike, limiter_alike, channel_by, grant_by, AllChannelActsAlike, channel_alike}

-- the moments of acts, and those of grants
abbrev pub Each : (ℕ → Type 0) → List Done → Type 0
Each P [] = Unit {0}
Each P (d ∷ ds) = P d.at × Each P ds

abbrev pub EachGiven : (ℕ → Type 0) → List Given → Type 0
EachGiven Q [] = Unit {0}
EachGiven Q (g ∷ gs) = Q g.granted.at × EachGiven Q gs

abbrev pub OnGranted : (ℕ → Type 0) → Option Granted → Type 0
OnGranted Q None = Unit {0}
OnGranted Q (Some g) = Q g.at

pub each_append : (P : ℕ → Type 0) (xs ys : List Done) → Each P xs → Each P ys → Each P (xs ++ ys)
each_append P [] ys h k = k
each_append P (d ∷ xs) ys h k = (h.0, each_append P xs ys h.1 k)

given_append : (Q : ℕ → Type 0) (xs ys : List Given) → EachGiven Q xs → EachGiven Q ys → EachGiven Q (xs ++ ys)
given_append Q [] ys h k = k
given_append Q (g ∷ xs) ys h k = (h.0, given_append Q xs ys h.1 k)

-- to put acts in order changes nothing in what holds of each
each_inserted : (P : ℕ → Type 0) (d : Done) (ds : List Done) → P d.at → Each P ds → Each P (insert_by_moment d ds)
each_inserted P d [] h k = (h, tt)
each_inserted P d (e ∷ es) h k = by_order (nat_le d.at e.at) (each_inserted P d es h k.1)
  where
    by_order : (b : Bool) → Each P (insert_by_moment d es) → Each P (if b then d ∷ e ∷ es else e ∷ insert_by_moment d es)
    by_order true i = (h, k)
    by_order false i = (k.0, i)

pub each_by_moment : (P : ℕ → Type 0) (ds : List Done) → Each P ds → Each P (by_moment ds)
each_by_moment P [] h = tt
each_by_moment P (d ∷ ds) h = each_inserted P d (by_moment ds) h.0 (each_by_moment P ds h.1)

-- what is granted by an act comes a moment later
given_of_limiter : (Q : ℕ → Type 0) (m : ℕ) (granted : List Asker) → Q (m + 1) → EachGiven Q (map (λ who. given_at m who a_token) granted)
given_of_limiter Q m [] q = tt
given_of_limiter Q m (who ∷ granted) q = (q, given_of_limiter Q m granted q)

given_of_channel : (Q : ℕ → Type 0) (m : ℕ) (granted : List (Grant Asker Range)) → Q (m + 1) → EachGiven Q (map (given_by m) granted)
given_of_channel Q m [] q = tt
given_of_channel Q m (g ∷ granted) q = (of_grant g, given_of_channel Q m granted q)
  where
    of_grant : (x : Grant Asker Range) → Q (given_by m x).granted.at
    of_grant (channels.sent who part) = q
    of_grant (channels.received who part) = q
    of_grant (channels.closed_resource who) = q
    of_grant (channels.end_of_channel who) = q

given_opened : (Q : ℕ → Type 0) (a : Act) → EachGiven Q (opened_by a).given
given_opened Q (opens kind) = tt
given_opened Q (asks ask part left) = tt
given_opened Q gives_back = tt
given_opened Q closes = tt

given_served : (Q : ℕ → Type 0) (o : Object) (d : Done) → Q (d.at + 1) → EachGiven Q (serve_act o d).given
given_served Q unopened d q = given_opened Q d.act
given_served Q (a_limiter l) d q =
    given_of_limiter Q d.at (limiters.after_acts l (limiters.leaves (stays_at d.at) ∷ limiter_acts d d.act)).granted q
given_served Q (a_channel c) d q =
    given_of_channel Q d.at (channels.after_acts c (channels.leaves (stays_at d.at) ∷ channel_acts d d.act)).granted q

-- so all that is granted comes in a moment that follows that of an act
pub each_served : (P Q : ℕ → Type 0) → ((t : ℕ) → P t → Q (t + 1)) → (o : Object) (ds : List Done) → Each P ds → EachGiven Q (serve_acts o ds)
each_served P Q next o [] h = tt
each_served P Q next o (d ∷ ds) h =
    given_append Q (serve_act o d).given _ (given_served Q o d (next d.at h.0)) (each_served P Q next (serve_act o d).object ds h.1)

-- what holds of each grant holds of the one that is found
pub found_given : (Q : ℕ → Type 0) (t : Label) (m : ℕ) (gs : List Given) → EachGiven Q gs → OnGranted Q (find_given t m gs)
found_given Q t m [] h = tt
found_given Q t m (g ∷ gs) h = by_test (same_label t g.task && (m == g.asked)) (found_given Q t m gs h.1)
  where
    by_test : (b : Bool) → OnGranted Q (find_given t m gs) → OnGranted Q (granted_if b g.granted (find_given t m gs))
    by_test true k = h.0
    by_test false k = k

-- what is known before c of who asks, of an act and of an object
abbrev cut_asker : ℕ → Asker → Asker
cut_asker c asker = record asker { left = left_before c asker.left }

abbrev cut_done : ℕ → Done → Done
cut_done c d = record d { act = act_before c d.act }

abbrev cut_object : ℕ → Object → Object
cut_object c unopened = unopened
cut_object c (a_limiter l) = a_limiter (limiter_by (cut_asker c) l)
cut_object c (a_channel ch) = a_channel (channel_by (cut_asker c) ch)

abbrev cut_outcome : ℕ → Outcome → Outcome
cut_outcome c o = record { object = cut_object c o.object; given = o.given }

-- who has left the queue by a moment before c is known before c
stays_known : (c m : ℕ) → m < c → (asker : Asker) → stays_at m (cut_asker c asker) ≡ stays_at m asker
stays_known c m lt asker = ap (λ (b : Bool). not b) (reached asker.left)
  where
    reached : (left : Tick) → is_reached (left_before c left) m ≡ is_reached left m
    reached None = refl
    reached (Some t) = by_order (nat_lt t c) refl
      where
        by_order : (b : Bool) → nat_lt t c ≡ b → is_reached (if b then Some t else None) m ≡ nat_le t m
        by_order true e = refl
        by_order false e = never (grind (arith, nat_tests))
          where
            never : m < t → false ≡ nat_le t m
            never h = grind (arith, nat_tests)

-- what an act is to a limiter, and to a channel
limiter_acts_cut : (c : ℕ) (d : Done) (a : Act) → AllLimiterActsAlike (cut_asker c) (limiter_acts d a) (limiter_acts (cut_done c d) (act_before c a))
limiter_acts_cut c d (opens kind) = tt
limiter_acts_cut c d (asks Acquire part left) = (refl, tt)
limiter_acts_cut c d (asks Send part left) = tt
limiter_acts_cut c d (asks Receive part left) = tt
limiter_acts_cut c d gives_back = (tt, tt)
limiter_acts_cut c d closes = tt

channel_acts_cut : (c : ℕ) (d : Done) (a : Act) → AllChannelActsAlike (cut_asker c) (channel_acts d a) (channel_acts (cut_done c d) (act_before c a))
channel_acts_cut c d (opens kind) = tt
channel_acts_cut c d (asks Acquire part left) = tt
channel_acts_cut c d (asks Send part left) = ((refl, refl), tt)
channel_acts_cut c d (asks Receive part left) = (refl, tt)
channel_acts_cut c d gives_back = tt
channel_acts_cut c d closes = (tt, tt)

-- what an act opens
opened_cut : (c : ℕ) (a : Act) → opened_by (act_before c a) ≡ cut_outcome c (opened_by a)
opened_cut c (opens (kinds.Limiter tokens)) = refl
opened_cut c (opens (kinds.Channel places)) = refl
opened_cut c (asks ask part left) = refl
opened_cut c gives_back = refl
opened_cut c closes = refl

-- what is granted names no more of an asker than its task and when it asked
tokens_cut : (c m : ℕ) (granted : List Asker) →
    map (λ who. given_at m who a_token) (map (cut_asker c) granted) ≡ map (λ who. given_at m who a_token) granted
tokens_cut c m [] = refl
tokens_cut c m (who ∷ granted) = ap (λ (gs : List Given). given_at m who a_token ∷ gs) (tokens_cut c m granted)

grants_cut : (c m : ℕ) (granted : List (Grant Asker Range)) → map (given_by m) (map (grant_by (cut_asker c)) granted) ≡ map (given_by m) granted
grants_cut c m [] = refl
grants_cut c m (g ∷ granted) = both (of_grant g) (grants_cut c m granted)
  where
    of_grant : (x : Grant Asker Range) → given_by m (grant_by (cut_asker c) x) ≡ given_by m x
    of_grant (channels.sent who part) = refl
    of_grant (channels.received who part) = refl
    of_grant (channels.closed_resource who) = refl
    of_grant (channels.end_of_channel who) = refl

    both : {x y : Given} {xs ys : List Given} → x ≡ y → xs ≡ ys → x ∷ xs ≡ y ∷ ys
    both e f = cc

-- an act in a moment before c does the same where of the others is known what is known before c
serve_cut : (c : ℕ) (o : Object) (d : Done) → d.at < c → serve_act (cut_object c o) (cut_done c d) ≡ cut_outcome c (serve_act o d)
serve_cut c unopened d lt = opened_cut c d.act
serve_cut c (a_limiter l) d lt =
    ap (λ (s : LimiterServed Asker). of_limiter d.at s)
    (limiter_alike (cut_asker c) l (limiters.leaves (stays_at d.at) ∷ limiter_acts d d.act)
    (limiters.leaves (stays_at d.at) ∷ limiter_acts (cut_done c d) (act_before c d.act))
    (stays_known c d.at lt, limiter_acts_cut c d d.act))
    ∙ ap (λ (gs : List Given). record { object = a_limiter (limiter_by (cut_asker c) served.limiter); given = gs }) (tokens_cut c d.at served.granted)
  where
    served : LimiterServed Asker
    served = limiters.after_acts l (limiters.leaves (stays_at d.at) ∷ limiter_acts d d.act)
serve_cut c (a_channel ch) d lt =
    ap (λ (s : ChannelServed Asker Range). of_channel d.at s)
    (channel_alike (cut_asker c) ch (channels.leaves (stays_at d.at) ∷ channel_acts d d.act)
    (channels.leaves (stays_at d.at) ∷ channel_acts (cut_done c d) (act_before c d.act))
    (stays_known c d.at lt, channel_acts_cut c d d.act))
    ∙ ap (λ (gs : List Given). record { object = a_channel (channel_by (cut_asker c) served.channel); given = gs }) (grants_cut c d.at served.granted)
  where
    served : ChannelServed Asker Range
    served = channels.after_acts ch (channels.leaves (stays_at d.at) ∷ channel_acts d d.act)

-- the acts before c, with what is known of them before c
abbrev cut : ℕ → List Done → List Done
cut c [] = []
cut c (d ∷ ds) = done_if (nat_lt d.at c) (cut_done c d) (cut c ds)

cut_append : (c : ℕ) (xs ys : List Done) → cut c (xs ++ ys) ≡ cut c xs ++ cut c ys
cut_append c [] ys = refl
cut_append c (d ∷ xs) ys = by_order (nat_lt d.at c) (cut_append c xs ys)
  where
    by_order : (b : Bool) → cut c (xs ++ ys) ≡ cut c xs ++ cut c ys →
        done_if b (cut_done c d) (cut c (xs ++ ys)) ≡ done_if b (cut_done c d) (cut c xs) ++ cut c ys
    by_order true h = ap (λ (zs : List Done). cut_done c d ∷ zs) h
    by_order false h = h

-- acts in the order of their moments
abbrev Sorted : List Done → Type 0
Sorted [] = Unit {0}
Sorted (d ∷ ds) = Each (λ t. d.at ≤ t) ds × Sorted ds

each_more : (P Q : ℕ → Type 0) → ((t : ℕ) → P t → Q t) → (ds : List Done) → Each P ds → Each Q ds
each_more P Q f [] h = tt
each_more P Q f (d ∷ ds) h = (f d.at h.0, each_more P Q f ds h.1)

-- an act that is inserted stands in its order
sorted_inserted : (d : Done) (ds : List Done) → Sorted ds → Sorted (insert_by_moment d ds)
sorted_inserted d [] h = (tt, tt)
sorted_inserted d (e ∷ es) h = by_order (nat_le d.at e.at) refl (sorted_inserted d es h.1)
  where
    by_order : (b : Bool) → nat_le d.at e.at ≡ b → Sorted (insert_by_moment d es) → Sorted (if b then d ∷ e ∷ es else e ∷ insert_by_moment d es)
    by_order true i s = ((le, each_more (λ t. e.at ≤ t) (λ t. d.at ≤ t) (λ t k. past t k) es h.0), h)
      where
        le : d.at ≤ e.at
        le = grind (arith, nat_tests)

        past : (t : ℕ) → e.at ≤ t → d.at ≤ t
        past t k = let l = le in omega arith
    by_order false i s = (each_inserted (λ t. e.at ≤ t) d es (grind (arith, nat_tests)) h.0, s)

sorted_by_moment : (ds : List Done) → Sorted (by_moment ds)
sorted_by_moment [] = tt
sorted_by_moment (d ∷ ds) = sorted_inserted d (by_moment ds) (sorted_by_moment ds)

-- of acts from c on nothing is known before c
cut_late : (c : ℕ) (ds : List Done) → Each (λ t. c ≤ t) ds → cut c ds ≡ []
cut_late c [] h = refl
cut_late c (d ∷ ds) h = ap (λ (b : Bool). done_if b (cut_done c d) (cut c ds)) (le-ltb d.at c h.0) ∙ cut_late c ds h.1

each_cut : (P : ℕ → Type 0) (c : ℕ) (ds : List Done) → Each P ds → Each P (cut c ds)
each_cut P c [] h = tt
each_cut P c (d ∷ ds) h = by_order (nat_lt d.at c) (each_cut P c ds h.1)
  where
    by_order : (b : Bool) → Each P (cut c ds) → Each P (done_if b (cut_done c d) (cut c ds))
    by_order true k = (h.0, k)
    by_order false k = k

-- an act before all others
insert_first : (d : Done) (ds : List Done) → Each (λ t. d.at ≤ t) ds → insert_by_moment d ds ≡ d ∷ ds
insert_first d [] h = refl
insert_first d (e ∷ es) h = ap (λ (b : Bool). if b then d ∷ e ∷ es else e ∷ insert_by_moment d es) (holds h.0)
  where
    holds : d.at ≤ e.at → nat_le d.at e.at ≡ true
    holds le = grind (arith, nat_tests)

-- to cut and to insert is to insert and to cut
cut_inserted : (c : ℕ) (d : Done) (ds : List Done) → Sorted ds →
    cut c (insert_by_moment d ds) ≡ (if nat_lt d.at c then insert_by_moment (cut_done c d) (cut c ds) else cut c ds)
cut_inserted c d [] h = by_order (nat_lt d.at c)
  where
    by_order : (b : Bool) → done_if b (cut_done c d) [] ≡ (if b then cut_done c d ∷ [] else [])
    by_order true = refl
    by_order false = refl
cut_inserted c d (e ∷ es) h = by_order (nat_le d.at e.at) refl (cut_inserted c d es h.1)
  where
    first : nat_le d.at e.at ≡ true → (b : Bool) →
        done_if b (cut_done c d) (cut c (e ∷ es)) ≡ (if b then insert_by_moment (cut_done c d) (cut c (e ∷ es)) else cut c (e ∷ es))
    first i false = refl
    first i true =
        sym (insert_first (cut_done c d) (cut c (e ∷ es))
        (each_cut (λ t. d.at ≤ t) c (e ∷ es) (le, each_more (λ t. e.at ≤ t) (λ t. d.at ≤ t) past es h.0)))
      where
        le : d.at ≤ e.at
        le = grind (arith, nat_tests)

        past : (t : ℕ) → e.at ≤ t → d.at ≤ t
        past t k = let l = le in omega arith

    after : nat_le d.at e.at ≡ false → (b k : Bool) → nat_lt d.at c ≡ b → nat_lt e.at c ≡ k →
        done_if k (cut_done c e) (if b then insert_by_moment (cut_done c d) (cut c es) else cut c es)
        ≡ (if b then insert_by_moment (cut_done c d) (done_if k (cut_done c e) (cut c es)) else done_if k (cut_done c e) (cut c es))
    after i false k x y = refl
    after i true true x y =
        sym (ap (λ (b : Bool). if b then cut_done c d ∷ cut_done c e ∷ cut c es else cut_done c e ∷ insert_by_moment (cut_done c d) (cut c es)) i)
    after i true false x y = absurd (grind (arith, nat_tests))

    by_order : (b : Bool) → nat_le d.at e.at ≡ b →
        cut c (insert_by_moment d es) ≡ (if nat_lt d.at c then insert_by_moment (cut_done c d) (cut c es) else cut c es) →
        cut c (if b then d ∷ e ∷ es else e ∷ insert_by_moment d es)
        ≡ (if nat_lt d.at c then insert_by_moment (cut_done c d) (cut c (e ∷ es)) else cut c (e ∷ es))
    by_order true i k = first i (nat_lt d.at c)
    by_order false i k =
        ap (λ (xs : List Done). done_if (nat_lt e.at c) (cut_done c e) xs) k
        ∙ after i (nat_lt d.at c) (nat_lt e.at c) refl refl

-- acts that are put in order and cut are those that are cut and put in order
cut_by_moment : (c : ℕ) (ds : List Done) → cut c (by_moment ds) ≡ by_moment (cut c ds)
cut_by_moment c [] = refl
cut_by_moment c (d ∷ ds) = cut_inserted c d (by_moment ds) (sorted_by_moment ds) ∙ by_order (nat_lt d.at c) (cut_by_moment c ds)
  where
    by_order : (b : Bool) → cut c (by_moment ds) ≡ by_moment (cut c ds) →
        (if b then insert_by_moment (cut_done c d) (cut c (by_moment ds)) else cut c (by_moment ds)) ≡ by_moment (done_if b (cut_done c d) (cut c ds))
    by_order true h = ap (λ (xs : List Done). insert_by_moment (cut_done c d) xs) h
    by_order false h = h

-- what is granted from n on is not granted before n
pub granted_from : (n : ℕ) (o : Option Granted) → OnGranted (λ t. n ≤ t) o → granted_before n o ≡ None
granted_from n None h = refl
granted_from n (Some g) h = by_test (nat_le (g.at + 1) n) refl
  where
    by_test : (b : Bool) → nat_le (g.at + 1) n ≡ b → granted_if b g None ≡ None
    by_test true e = absurd (grind (arith, nat_tests))
    by_test false e = refl

-- what follows the same is the same
same_found : (n : ℕ) (t : Label) (m : ℕ) (gs xs ys : List Given) → granted_before n (find_given t m xs) ≡ granted_before n (find_given t m ys) →
    granted_before n (find_given t m (gs ++ xs)) ≡ granted_before n (find_given t m (gs ++ ys))
same_found n t m [] xs ys h = h
same_found n t m (g ∷ gs) xs ys h = by_test (same_label t g.task && (m == g.asked)) (same_found n t m gs xs ys h)
  where
    by_test : (b : Bool) → granted_before n (find_given t m (gs ++ xs)) ≡ granted_before n (find_given t m (gs ++ ys)) →
        granted_before n (granted_if b g.granted (find_given t m (gs ++ xs))) ≡ granted_before n (granted_if b g.granted (find_given t m (gs ++ ys)))
    by_test true k = refl
    by_test false k = k

-- what is granted before the moment after c is granted by what is known before c
serve_near : (c : ℕ) (t : Label) (m : ℕ) (o : Object) (ds : List Done) → Sorted ds →
    granted_before (suc c) (find_given t m (serve_acts o ds)) ≡ granted_before (suc c) (find_given t m (serve_acts (cut_object c o) (cut c ds)))
serve_near c t m o [] h = refl
serve_near c t m o (d ∷ ds) h = by_order (nat_lt d.at c) refl (serve_near c t m (serve_act o d).object ds h.1)
  where
    served : Outcome
    served = serve_act o d

    next : (u : ℕ) → c ≤ u → suc c ≤ u + 1
    next u le = omega arith

    late : c ≤ d.at → Each (λ u. c ≤ u) (d ∷ ds)
    late le = (le, each_more (λ u. d.at ≤ u) (λ u. c ≤ u) past ds h.0)
      where
        past : (u : ℕ) → d.at ≤ u → c ≤ u
        past u k = omega arith

    by_order : (b : Bool) → nat_lt d.at c ≡ b →
        granted_before (suc c) (find_given t m (serve_acts served.object ds))
        ≡ granted_before (suc c) (find_given t m (serve_acts (cut_object c served.object) (cut c ds))) →
        granted_before (suc c) (find_given t m (served.given ++ serve_acts served.object ds))
        ≡ granted_before (suc c) (find_given t m (serve_acts (cut_object c o) (done_if b (cut_done c d) (cut c ds))))
    by_order true e k =
        same_found (suc c) t m served.given (serve_acts served.object ds) (serve_acts (cut_object c served.object) (cut c ds))
        k
        ∙ sym (ap (λ (x : Outcome). granted_before (suc c) (find_given t m (x.given ++ serve_acts x.object (cut c ds))))
        (serve_cut c o d (grind (arith, nat_tests))))
    by_order false e k =
        granted_from (suc c) (find_given t m (serve_acts o (d ∷ ds)))
        (found_given (λ u. suc c ≤ u) t m (serve_acts o (d ∷ ds))
        (each_served (λ u. c ≤ u) (λ u. suc c ≤ u) next o (d ∷ ds) (late (grind (arith, nat_tests)))))
        ∙ sym (ap (λ (xs : List Done). granted_before (suc c) (find_given t m (serve_acts (cut_object c o) xs)))
        (cut_late c ds (late (grind (arith, nat_tests))).1))

-- what a task does to an object in a log that is cut
own_acts_cut : (c : ℕ) (l t : Label) (a : Log) → own_acts l t (log_before c a) ≡ cut c (own_acts l t a)
own_acts_cut c l t nil = refl
own_acts_cut c l t (entry m e rest) = by_kept (nat_lt m c) (own_acts_cut c l t rest)
  where
    by_kept : (b : Bool) → own_acts l t (log_before c rest) ≡ cut c (own_acts l t rest) →
        own_acts l t (entry_if b m e (log_before c rest)) ≡ cut c (own_acts l t rest)
    by_kept true h = h
    by_kept false h = h
own_acts_cut c l t (sign k m rest) = by_kept (nat_lt m c) (own_acts_cut c l t rest)
  where
    by_kept : (b : Bool) → own_acts l t (log_before c rest) ≡ cut c (own_acts l t rest) →
        own_acts l t (sign_before b k m (log_before c rest)) ≡ cut c (own_acts l t rest)
    by_kept true h = h
    by_kept false h = h
own_acts_cut c l t (entered k m d rest) = by_kept (nat_lt m c) (own_acts_cut c l t rest)
  where
    by_kept : (b : Bool) → own_acts l t (log_before c rest) ≡ cut c (own_acts l t rest) →
        own_acts l t (entered_if b k m d (log_before c rest)) ≡ cut c (own_acts l t rest)
    by_kept true h = h
    by_kept false h = h
own_acts_cut c l t (act k m a rest) = by_kept (nat_lt m c) refl (own_acts_cut c l t rest)
  where
    d : Done
    d = record { at = m; task = t; act = a }

    by_kept : (b : Bool) → nat_lt m c ≡ b → own_acts l t (log_before c rest) ≡ cut c (own_acts l t rest) →
        own_acts l t (act_if b k m (act_before c a) (log_before c rest)) ≡ cut c (done_if (same_label l k) d (own_acts l t rest))
    by_kept true i h = by_label (same_label l k)
      where
        by_label : (e : Bool) → done_if e (cut_done c d) (own_acts l t (log_before c rest)) ≡ cut c (done_if e d (own_acts l t rest))
        by_label true = ap (λ (xs : List Done). cut_done c d ∷ xs) h ∙ sym (ap (λ (b : Bool). done_if b (cut_done c d) (cut c (own_acts l t rest))) i)
        by_label false = h
    by_kept false i h = by_label (same_label l k)
      where
        by_label : (e : Bool) → own_acts l t (log_before c rest) ≡ cut c (done_if e d (own_acts l t rest))
        by_label true = h ∙ sym (ap (λ (b : Bool). done_if b (cut_done c d) (cut c (own_acts l t rest))) i)
        by_label false = h
own_acts_cut c l t (task k s u e own rest) = by_kept (nat_lt s c) (own_acts_cut c l t rest)
  where
    by_kept : (b : Bool) → own_acts l t (log_before c rest) ≡ cut c (own_acts l t rest) →
        own_acts l t (task_if b k s (min c u) (exc_if (nat_lt u c) e) (log_before c own) (log_before c rest)) ≡ cut c (own_acts l t rest)
    by_kept true h = h
    by_kept false h = h

both_joined : {xs ys vs ws : List Done} → xs ≡ ys → vs ≡ ws → xs ++ vs ≡ ys ++ ws
both_joined e f = cc

-- and what all tasks do to it
acts_cut : (c s : ℕ) (l : Label) (a : Log) → Timed s a → acts_in l (log_before c a) ≡ cut c (acts_in l a)
acts_cut c s l nil h = refl
acts_cut c s l (entry m e rest) h = by_kept (nat_lt m c) (acts_cut c s l rest h.1)
  where
    by_kept : (b : Bool) → acts_in l (log_before c rest) ≡ cut c (acts_in l rest) →
        acts_in l (entry_if b m e (log_before c rest)) ≡ cut c (acts_in l rest)
    by_kept true k = k
    by_kept false k = k
acts_cut c s l (sign x m rest) h = by_kept (nat_lt m c) (acts_cut c s l rest h.1)
  where
    by_kept : (b : Bool) → acts_in l (log_before c rest) ≡ cut c (acts_in l rest) →
        acts_in l (sign_before b x m (log_before c rest)) ≡ cut c (acts_in l rest)
    by_kept true k = k
    by_kept false k = k
acts_cut c s l (entered x m d rest) h = by_kept (nat_lt m c) (acts_cut c s l rest h.1)
  where
    by_kept : (b : Bool) → acts_in l (log_before c rest) ≡ cut c (acts_in l rest) →
        acts_in l (entered_if b x m d (log_before c rest)) ≡ cut c (acts_in l rest)
    by_kept true k = k
    by_kept false k = k
acts_cut c s l (act x m a rest) h = by_kept (nat_lt m c) (acts_cut c s l rest h.1)
  where
    by_kept : (b : Bool) → acts_in l (log_before c rest) ≡ cut c (acts_in l rest) →
        acts_in l (act_if b x m (act_before c a) (log_before c rest)) ≡ cut c (acts_in l rest)
    by_kept true k = k
    by_kept false k = k
acts_cut c s l (task x v u e own rest) h =
    by_kept (nat_lt v c) refl (acts_cut c v l own h.2) (acts_cut c s l rest h.3)
    ∙ sym (cut_append c (own_acts l x own) (acts_in l own ++ acts_in l rest)
    ∙ ap (λ (ys : List Done). cut c (own_acts l x own) ++ ys) (cut_append c (acts_in l own) (acts_in l rest)))
  where
    by_kept : (b : Bool) → nat_lt v c ≡ b → acts_in l (log_before c own) ≡ cut c (acts_in l own) →
        acts_in l (log_before c rest) ≡ cut c (acts_in l rest) →
        acts_in l (task_if b x v (min c u) (exc_if (nat_lt u c) e) (log_before c own) (log_before c rest))
        ≡ cut c (own_acts l x own) ++ (cut c (acts_in l own) ++ cut c (acts_in l rest))
    by_kept true i j k = both_joined (own_acts_cut c l x own) (both_joined j k)
    by_kept false i j k =
        k ∙ sym (both_joined {ys = []} (sym (own_acts_cut c l x own) ∙ ap (λ (z : Log). own_acts l x z) gone)
        (both_joined {ys = []} {ws = cut c (acts_in l rest)} (sym j ∙ ap (λ (z : Log). acts_in l z) gone) refl))
      where
        gone : log_before c own ≡ nil
        gone = clipped_late c v own (grind (arith, nat_tests)) h.2

-- what is done to an object before c in walks that agree before c
acts_near : (c : ℕ) (l : Label) (job : Tree) (r q : Result) → Timed 0 r.log → Timed 0 q.log → Agree c r q →
    cut c (acts_in l (root_log job r)) ≡ cut c (acts_in l (root_log job q))
acts_near c l job r q h k e =
    cut_root r h ∙ (ap (λ (x : Log). own_acts l (root_label job.name) x ++ (acts_in l x ++ [])) (agree_logs e) ∙ sym (cut_root q k))
  where
    cut_root : (x : Result) → Timed 0 x.log →
        cut c (acts_in l (root_log job x)) ≡ own_acts l (root_label job.name) (log_before c x.log) ++ (acts_in l (log_before c x.log) ++ [])
    cut_root x i =
        cut_append c (own_acts l (root_label job.name) x.log) (acts_in l x.log ++ [])
        ∙ both_joined (sym (own_acts_cut c l (root_label job.name) x.log))
        (cut_append c (acts_in l x.log) [] ∙ both_joined {ws = []} (sym (acts_cut c 0 l x.log i)) refl)

-- Where walks agree before c, what limiters and channels grant by them is the same up to c.
pub near_grants : (c : ℕ) (job : Tree) (r q : Result) → Timed 0 r.log → Timed 0 q.log → Agree c r q →
    NearGrants (suc c) (grants_of (root_log job r)) (grants_of (root_log job q))
near_grants c job r q h k e l t m =
    of_walk r
    ∙ (ap (λ (xs : List Done). granted_before (suc c) (find_given t m (serve_acts unopened (by_moment xs)))) (acts_near c l job r q h k e)
    ∙ sym (of_walk q))
  where
    of_walk : (x : Result) → granted_before (suc c) (grants_of (root_log job x) l t m)
        ≡ granted_before (suc c) (find_given t m (serve_acts unopened (by_moment (cut c (acts_in l (root_log job x))))))
    of_walk x =
        serve_near c t m unopened (by_moment (acts_in l (root_log job x))) (sorted_by_moment (acts_in l (root_log job x)))
        ∙ ap (λ (xs : List Done). granted_before (suc c) (find_given t m (serve_acts unopened xs))) (cut_by_moment c (acts_in l (root_log job x)))
